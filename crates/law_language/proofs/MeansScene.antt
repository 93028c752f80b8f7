-- A run at rest of a lowered program's graph, with all that is known of it.
use Rattle.std.proofs.Common.{◌≡◌, ℕ, ◌<◌, ℤ, List, Some}
use Rattle.tags.specs.declared.value.Value.{Value}
use Rattle.tags.specs.declared.value.Origin.{Origin}
use Rattle.semantics.specs.declared.graph.Region.{Region}
use Rattle.semantics.specs.declared.graph.Source.{Source}
use Rattle.semantics.specs.Graph.{Node, Block, Graph, Flow, flow_of, node_count}
use Rattle.semantics.specs.WellFormed.{WellFormed}
use Rattle.semantics.specs.Meaning.{Context, Tagged, State, Activity, Run, Stood, ArmsTaken, arms_round, start}
use Rattle.law_confluence.specs.EquationsHave.{ports_of}
use Rattle.law_confluence.specs.Equations.{IsDue, Has, LineEquation}
use Rattle.law_confluence.specs.EquationsSettled.{Settled}
use Rattle.source.specs.Tree.{Name, Expr, Exprs, Body, Turn, Function, Program}
use Rattle.source.specs.Rules.{function_in}
use Rattle.source.specs.Evaluates.{World, Env, Stores}
use Rattle.source.specs.Lowered.{Lowered, Site, Spot, Scope, function_blocks, graph_of, port}
use Rattle.law_language.specs.MeansHolds.{HasBlocks}
use Rattle.law_language.specs.MeansAgrees.{Agrees, Have}
use Rattle.law_language.specs.MeansBelow.{stores_below}
use Rattle.law_language.specs.Means.{over, IsActive, Delivers, MeansExpr, MeansList, MeansBody, MeansTurn, MeansIn}
use Rattle.law_language.proofs.MeansMainActive.{IsGoodFunction}
use Rattle.law_language.proofs.MeansStore.{IndexesAreGood}

pub record Scene : Type 0 where
  pub program : Program
  pub graph : Graph
  pub origin : ℕ → Origin
  pub inputs : List ℤ
  pub run : List Activity
  pub state : State
  pub is_run : Run (flow_of graph) (start inputs) run state
  pub settled : Settled (flow_of graph) inputs run state is_run
  pub is_graph : graph_of program ≡ graph
  pub well : WellFormed graph
  pub indexes : (c : Context) → IndexesAreGood program graph origin inputs run state is_run settled is_graph c
  pub good : (f : Name) (h : Function) → function_in program f ≡ Some h → IsGoodFunction program h
  pub placed : (f : Name) (h : Function) → function_in program f ≡ Some h → HasBlocks graph origin h.name.name (function_blocks program h)

abbrev pub flow : Scene → Flow
flow z = flow_of z.graph

abbrev pub world_of : Scene → World
world_of z = over z.program z.graph z.origin z.inputs z.run z.state z.is_run

abbrev pub StoodIn : Scene → Tagged → Type 0
StoodIn z x = Stood (flow z) (start z.inputs) z.run z.state z.is_run x

abbrev pub DueIn : Scene → Context → Type 0
DueIn z c = IsDue (flow z) z.inputs z.run z.state z.is_run c

-- all conditionals round a region took its sides
abbrev pub RegionIn : Scene → Context → Block ℕ → Region → Type 0
RegionIn z c b r = ArmsTaken (StoodIn z) c (arms_round (node_count b) b r)

abbrev pub HasIn : Scene → Context → Source → Value → Type 0
HasIn z c x v = Has (flow z) z.inputs z.run z.state z.is_run c x v

abbrev pub HaveIn : Scene → Context → List Source → List Value → Type 0
HaveIn z c xs vs = Have (flow z) z.inputs z.run z.state z.is_run c xs vs

abbrev pub KnownIn : Scene → Context → Scope → Env → List Name → Type 0
KnownIn z c scope env xs = Agrees (flow z) z.inputs z.run z.state z.is_run c scope env xs

abbrev pub StoresIn : Scene → Context → ℕ → ℕ → Stores
StoresIn z c lo hi = stores_below (flow z) z.run c lo hi

abbrev pub ActiveIn : Scene → Context → Site → Spot → Lowered → Type 0
ActiveIn z c site spot l = IsActive z.program z.graph z.origin z.inputs z.run z.state z.is_run c site spot l

abbrev pub DeliversIn : Scene → Context → (List Value → Stores → Type 0) → List Source → ℕ → ℕ → Type 0
DeliversIn z c gives xs lo hi = Delivers z.program z.graph z.origin z.inputs z.run z.state z.is_run c gives xs lo hi

abbrev pub ExprIn : Scene → Context → Expr → Type 0
ExprIn z c e = MeansExpr z.program z.graph z.origin z.inputs z.run z.state z.is_run c e

abbrev pub ListIn : Scene → Context → Exprs → Type 0
ListIn z c es = MeansList z.program z.graph z.origin z.inputs z.run z.state z.is_run c es

abbrev pub BodyIn : Scene → Context → Body → Type 0
BodyIn z c body = MeansBody z.program z.graph z.origin z.inputs z.run z.state z.is_run c body

abbrev pub TurnIn : Scene → Context → Turn → Type 0
TurnIn z c turn = MeansTurn z.program z.graph z.origin z.inputs z.run z.state z.is_run c turn

abbrev pub AllIn : Scene → Context → Type 0
AllIn z c = MeansIn z.program z.graph z.origin z.inputs z.run z.state z.is_run c

-- each port of a line has a value that satisfies its equation
abbrev pub PortsGive : Scene → Context → ℕ → Node ℕ → Type 0
PortsGive z c n line = (q : ℕ) → q < ports_of (flow z) line.kind line.sources → (v : Value) × HasIn z c (port n q) v × LineEquation
    (flow z) z.inputs z.run z.state z.is_run c n q v line.kind line.sources
