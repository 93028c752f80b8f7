-- LOWERING KEEPS THE MEANING OF A PART: where its lines are active in an invocation whose names agree, the part evaluates to the
-- values of its sources, and it stores what is stored at its nodes.
use Rattle.std.specs.Prelude.{◌≡◌, ℕ, ◌+◌, ◌<◌, Bool, true, false, ℤ, List, [], ◌∷◌, ◌++◌, map, length, Some, Ok, slice_get, IsPermutation}
use Rattle.tags.specs.declared.value.Value.{Value}
use Rattle.tags.specs.declared.value.Origin.{Origin}
use Rattle.operators.specs.Values.{truth}
use Rattle.semantics.specs.declared.graph.Source.{Source}
use Rattle.semantics.specs.Graph.{Block, Graph, flow_of, node_count}
use Rattle.semantics.specs.Meaning.{Context, State, Activity, Run, Stood, ArmsTaken, arms_round, block_number, start}
use Rattle.law_confluence.specs.EquationsContexts.{depth}
use Rattle.law_confluence.specs.Equations.{IsDue, Has}
use Rattle.source.specs.Tree.{Name, NameAt, Expr, Exprs, Body, Turn, Before, After, Program, names_of}
use Rattle.source.specs.Fits.{Fits, FitsAll, FitsBody, FitsTurn}
use Rattle.source.specs.Outside.{bare, uses, list_uses, body_uses, turn_uses}
use Rattle.source.specs.Rules.{values, list_values, body_values, turn_values}
use Rattle.source.specs.Evaluates.{World, Env, Stores, entered, Evaluates, EvaluatesAll, Runs}
use Rattle.source.specs.Lowered.{Lowered, Site, Spot, Scope, source_in, turn_site, lower, lower_list, lower_body, lower_turn}
use Rattle.source.specs.Theorem.{world}
use Rattle.source.specs.Holds.{Holds}
use Rattle.law_language.specs.MeansHolds.{resolved, AreTraced, HasBlocks}
use Rattle.law_language.specs.MeansAgrees.{Agrees, Have}
use Rattle.law_language.specs.MeansBelow.{stores_below}

-- One turn of a loop, from the values that it has, to its flag, the values that it gives, and its stores.
pub data OneTurn (w : World) : Env → Turn → List Value → Value → List Value → Stores → Type 0 where
  stays : {env : Env} {xs : List NameAt} {p : Expr} {body : Body} {b : Value} {vs : List Value} {ss : Stores}
      → Evaluates w (entered xs vs env) p (b ∷ []) ss → truth b ≡ false → OneTurn w env (Before xs p body) vs b vs ss
  moves : {env : Env} {xs : List NameAt} {p : Expr} {body : Body} {b : Value} {vs us : List Value} {ss ts : Stores}
      → Evaluates w (entered xs vs env) p (b ∷ []) ss → truth b ≡ true → Runs w (entered xs vs env) body us ts
      → OneTurn w env (Before xs p body) vs b us (ss ++ ts)
  tests : {env : Env} {xs : List NameAt} {p : Expr} {body : Body} {b : Value} {vs us : List Value} {ts ss : Stores}
      → Runs w (entered xs vs env) body us ts → Evaluates w (entered xs us env) p (b ∷ []) ss
      → OneTurn w env (After xs body p) vs b us (ts ++ ss)

module _ (p : Program) (g : Graph) (origin : ℕ → Origin) (inputs : List ℤ) (run : List Activity) (s : State)
    (r : Run (flow_of g) (start inputs) run s) where
  abbrev pub over : World
  over = world p origin s.memory.cells

  -- THE PART IS ACTIVE in c: its lines are there from the spot on, in a region that is taken, with a trigger that has a value.
  pub record IsActive (c : Context) (site : Site) (spot : Spot) (l : Lowered) : Type 0 where
    pub number : ℕ
    pub block : Block ℕ
    pub is_number : block_number (flow_of g) c ≡ Some number
    pub is_block : slice_get (flow_of g).blocks number ≡ Some block
    pub due : IsDue (flow_of g) inputs run s r c
    pub taken : ArmsTaken (Stood (flow_of g) (start inputs) run s r) c (arms_round (node_count block) block site.region)
    pub trigger : Value
    pub triggered : Has (flow_of g) inputs run s r c site.trigger trigger
    pub lines : Holds block spot.next (map (resolved g) l.nodes)
    pub traced : AreTraced origin number spot.next l.nodes
    pub loops : HasBlocks g origin site.function l.blocks

  -- IT DELIVERS WHAT IT IS EVALUATED TO: the values of these sources, and the stores of the nodes from lo on and below hi.
  pub record Delivers (c : Context) (gives : List Value → Stores → Type 0) (sources : List Source) (lo hi : ℕ) : Type 0 where
    pub vs : List Value
    pub ss : Stores
    pub evaluated : gives vs ss
    pub have : Have (flow_of g) inputs run s r c sources vs
    pub stored : IsPermutation ss (stores_below (flow_of g) run c lo hi)

  abbrev pub DeliversOf : Context → (List Value → Stores → Type 0) → Spot → Lowered → Type 0
  DeliversOf c gives spot l = Delivers c gives l.sources spot.next (spot.next + length l.nodes)

  abbrev pub Known : Context → Scope → Env → List Name → Type 0
  Known c scope env xs = Agrees (flow_of g) inputs run s r c scope env xs

  -- THE STATEMENTS, by the kinds of parts, of one invocation
  abbrev pub MeansExpr : Context → Expr → Type 0
  MeansExpr c e = (site : Site) (spot : Spot) (scope : Scope) (env : Env) (names : List Name) (n : ℕ)
      → Fits e → values p names e ≡ Ok n
      → IsActive c site spot (lower p site spot scope e) → Known c scope env (uses e)
      → DeliversOf c (Evaluates over env e) spot (lower p site spot scope e)

  abbrev pub MeansList : Context → Exprs → Type 0
  MeansList c es = (site : Site) (spot : Spot) (scope : Scope) (env : Env) (names : List Name) (n : ℕ)
      → FitsAll es → list_values p names es ≡ Ok n
      → IsActive c site spot (lower_list p site spot scope es) → Known c scope env (list_uses es)
      → DeliversOf c (EvaluatesAll over env es) spot (lower_list p site spot scope es)

  abbrev pub MeansBody : Context → Body → Type 0
  MeansBody c body = (site : Site) (spot : Spot) (scope : Scope) (env : Env) (names : List Name) (n : ℕ) (behind_else : Bool)
      → FitsBody behind_else body → body_values p names body ≡ Ok n
      → IsActive c site spot (lower_body p site spot scope body) → Known c scope env (body_uses body)
      → DeliversOf c (Runs over env body) spot (lower_body p site spot scope body)

  -- one turn in the invocation of its block: its first source is the flag
  abbrev pub turn_gives : Env → Turn → List Value → List Value → Stores → Type 0
  turn_gives env turn vs us ss = (b : Value) × (next : List Value) × (us ≡ b ∷ next) × OneTurn over env turn vs b next ss

  abbrev pub MeansTurn : Context → Turn → Type 0
  MeansTurn c turn = (f : Name) (spot : Spot) (at : ℕ) (scope : Scope) (env : Env) (names : List Name) (vs : List Value)
      → 0 < length (names_of turn) → FitsTurn turn → turn_values p names turn ≡ Ok (length (names_of turn))
      → IsActive c (turn_site f) spot (lower_turn p f spot at scope turn)
      → Have (flow_of g) inputs run s r c (map (source_in scope) (bare (names_of turn))) vs → Known c scope env (turn_uses turn)
      → DeliversOf c (turn_gives env turn vs) spot (lower_turn p f spot at scope turn)

  -- all of it in one invocation
  pub record MeansIn (c : Context) : Type 0 where
    pub expr : (e : Expr) → MeansExpr c e
    pub list : (es : Exprs) → MeansList c es
    pub body : (body : Body) → MeansBody c body
    pub turn : (turn : Turn) → MeansTurn c turn

  -- THE INDUCTION: in an invocation, from those that lie deeper. None that is due lies deeper than the run is long.
  abbrev pub MeansStep : Type 0
  MeansStep = (c : Context) → ((d : Context) → depth c < depth d → MeansIn d) → MeansIn c
