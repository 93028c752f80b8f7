-- WHAT IS SHOWN OF EACH PART: a run goes on, by the activities of the part in the order of its text, until its sources have the values that it is
-- evaluated to, and its stores are made.
use Rattle.std.proofs.Common.{◌≡◌, ℕ, ◌+◌, ℤ, Bool, List, [], ◌∷◌, ◌++◌, length, Option, Some, Ok, refl, sym, ap, ap₂, ◌∙◌, subst, arith, length-append}
use Rattle.tags.specs.declared.value.Value.{Value}
use Rattle.tags.specs.declared.value.Origin.{Origin}
use Rattle.tags.specs.declared.value.Origin.TheVariants.{At}
use Rattle.semantics.specs.declared.graph.Source.{Source}
use Rattle.semantics.specs.declared.graph.Kind.{Kind}
use Rattle.semantics.specs.Graph.{Graph, Flow, Block, flow_of, node_at}
use Rattle.semantics.specs.WellFormed.{WellFormed}
use Rattle.semantics.specs.Meaning.{Context, Memory, Activity, Fires, Deed, Says, Sends, block_of, origin_at, origin_in, fired}
use Rattle.law_confluence.specs.Outcome.{AreInputsOf}
use Rattle.law_confluence.specs.Equations.{Has}
use Rattle.source.specs.Tree.{Name, Expr, Exprs, Body, Function, Program}
use Rattle.source.specs.Fits.{Fits, FitsAll, FitsBody}
use Rattle.source.specs.Outside.{uses, list_uses, body_uses}
use Rattle.source.specs.Rules.{values, list_values, body_values, function_in}
use Rattle.source.specs.Evaluates.{World, Env, Stores, Evaluates, EvaluatesAll, Runs}
use Rattle.source.specs.Lowered.{Made, MadeBlock, Lowered, Site, Spot, Scope, made, ended, ports_from, spot_after, lower, lower_list, lower_body, function_blocks, graph_of}
use Rattle.source.specs.Theorem.{world}
use Rattle.law_language.specs.Means.{IsActive}
use Rattle.law_language.specs.MeansAgrees.{Agrees, Have}
use Rattle.law_language.specs.MeansHolds.{resolved, MayFail, HasBlocks}
use Rattle.law_language.proofs.MeansMainActive.{IsGoodFunction}
use Rattle.law_language.proofs.MeansParts.{first_part, rest_part, own_line, block_is}
use Rattle.law_language.proofs.MeansLeaves.{append_nothing}
use Rattle.law_ordered_runs.specs.InOrder.{Touch, touches, list_touches, body_touches}
use Rattle.law_ordered_runs.proofs.Doing.{IsPlain, Adds, Does, does_none, does_then, does_to, fires_does}
use Rattle.law_ordered_runs.proofs.Extending.{Going, On, on_same, on_then, Extended, said_gives, said_memory}
use Rattle.law_ordered_runs.proofs.Lines.{line_happens}
use Rattle.law_ordered_runs.proofs.Memory.{Ready, Changed, changed_none, changed_same}

-- a lowered program, with the memory that it has in the end
pub record Land : Type 0 where
  pub program : Program
  pub graph : Graph
  pub origin : ℕ → Origin
  pub inputs : List ℤ
  pub memory : ℕ → Option Value
  pub is_graph : graph_of program ≡ graph
  pub well : WellFormed graph
  pub count : AreInputsOf graph inputs
  pub good : (f : Name) (h : Function) → function_in program f ≡ Some h → IsGoodFunction program h
  pub placed : (f : Name) (h : Function) → function_in program f ≡ Some h → HasBlocks graph origin h.name.name (function_blocks program h)

abbrev pub RunOf : Land → Type 0
RunOf z = Going z.graph z.inputs

abbrev pub flow : Land → Flow
flow z = flow_of z.graph

abbrev pub world_of : Land → World
world_of z = world z.program z.origin z.memory

abbrev pub cells_of : (z : Land) → RunOf z → ℕ → Option Value
cells_of z x = x.state.memory.cells

abbrev pub HasX : (z : Land) → RunOf z → Context → Source → Value → Type 0
HasX z x c s v = Has (flow z) z.inputs x.run x.state x.is_run c s v

abbrev pub HaveX : (z : Land) → RunOf z → Context → List Source → List Value → Type 0
HaveX z x c ss vs = Have (flow z) z.inputs x.run x.state x.is_run c ss vs

abbrev pub KnownX : (z : Land) → RunOf z → Context → Scope → Env → List Name → Type 0
KnownX z x c scope env names = Agrees (flow z) z.inputs x.run x.state x.is_run c scope env names

abbrev pub ActiveX : (z : Land) → RunOf z → Context → Site → Spot → Lowered → Type 0
ActiveX z x c site spot l = IsActive z.program z.graph z.origin z.inputs x.run x.state x.is_run c site spot l

abbrev pub OnX : (z : Land) → RunOf z → RunOf z → Type 0
OnX z x y = On z.graph z.inputs z.well z.count x y

abbrev pub ReadyX : (z : Land) → RunOf z → Stores → List Touch → Type 0
ReadyX z x ss ts = Ready z.memory (cells_of z x) ss ts

abbrev pub AddsX : (z : Land) → RunOf z → RunOf z → (Activity → Type 0) → Type 0
AddsX z x y P = Adds z.graph z.inputs z.well z.count x y P

abbrev pub DoesX : (z : Land) → RunOf z → RunOf z → Context → ℕ → ℕ → Type 0
DoesX z x y c lo hi = Does z.graph z.inputs z.well z.count x y c lo hi

-- By what happens at these nodes, and in what they make, it reaches values of these sources, and has made the stores.
pub record Reaches (z : Land) (x : RunOf z) (c : Context) (lo hi : ℕ) (sources : List Source) (vs : List Value) (ss : Stores) : Type 0 where
  pub to : RunOf z
  pub on : OnX z x to
  pub does : DoesX z x to c lo hi
  pub have : HaveX z to c sources vs
  pub changed : Changed (cells_of z x) (cells_of z to) ss

-- THE STATEMENTS, by the kinds of parts
abbrev pub ExprReaches : (z : Land) (c : Context) {env : Env} {e : Expr} {vs : List Value} {ss : Stores} → Evaluates (world_of z) env e vs ss → Type 0
ExprReaches z c {env = env} {e = e} {vs = vs} {ss = ss} d = (x : RunOf z) (site : Site) (spot : Spot) (scope : Scope) (names : List Name) (n : ℕ)
    → Fits e → values z.program names e ≡ Ok n
    → ActiveX z x c site spot (lower z.program site spot scope e) → KnownX z x c scope env (uses e) → ReadyX z x ss (touches d)
    → Reaches z x c spot.next (spot.next + length (lower z.program site spot scope e).nodes) (lower z.program site spot scope e).sources vs ss

abbrev pub ListReaches : (z : Land) (c : Context) {env : Env} {es : Exprs} {vs : List Value} {ss : Stores} → EvaluatesAll (world_of z) env es vs ss → Type 0
ListReaches z c {env = env} {es = es} {vs = vs} {ss = ss} d = (x : RunOf z) (site : Site) (spot : Spot) (scope : Scope) (names : List Name) (n : ℕ)
    → FitsAll es → list_values z.program names es ≡ Ok n
    → ActiveX z x c site spot (lower_list z.program site spot scope es) → KnownX z x c scope env (list_uses es) → ReadyX z x ss (list_touches d)
    → Reaches z x c spot.next (spot.next + length (lower_list z.program site spot scope es).nodes) (lower_list z.program site spot scope es).sources vs ss

abbrev pub BodyReaches : (z : Land) (c : Context) {env : Env} {body : Body} {vs : List Value} {ss : Stores} → Runs (world_of z) env body vs ss → Type 0
BodyReaches z c {env = env} {body = body} {vs = vs} {ss = ss} d = (x : RunOf z) (site : Site) (spot : Spot) (scope : Scope) (names : List Name) (n : ℕ)
    (behind_else : Bool)
    → FitsBody behind_else body → body_values z.program names body ≡ Ok n
    → ActiveX z x c site spot (lower_body z.program site spot scope body) → KnownX z x c scope env (body_uses body) → ReadyX z x ss (body_touches d)
    → Reaches z x c spot.next (spot.next + length (lower_body z.program site spot scope body).nodes) (lower_body z.program site spot scope body).sources vs ss

pub reaches_to : (z : Land) (x : RunOf z) (c : Context) (lo hi to : ℕ) (sources : List Source) (vs : List Value) (ss : Stores) → hi ≡ to
    → Reaches z x c lo hi sources vs ss → Reaches z x c lo to sources vs ss
reaches_to z x c lo hi to sources vs ss e h = subst (λ hi. Reaches z x c lo hi sources vs ss) e h

pub after_one : (lo : ℕ) (ms : List Made) (m : Made) → lo + length ms + 1 ≡ lo + length (ms ++ m ∷ [])
after_one lo ms m = let n = length-append ms (m ∷ []) in omega (arith, n)

pub after_both : (lo : ℕ) (ms ns : List Made) → lo + length ms + length ns ≡ lo + length (ms ++ ns)
after_both lo ms ns = let n = length-append ms ns in omega (arith, n)

module _ (z : Land) (x : RunOf z) (c : Context) where
  -- NOTHING HAPPENS
  pub there_already : (n : ℕ) (sources : List Source) (vs : List Value) → HaveX z x c sources vs → Reaches z x c n n sources vs []
  there_already n sources vs h = record {
    to = x;
    on = on_same z.graph z.inputs z.well z.count x;
    does = does_none z.graph z.inputs z.well z.count x c n;
    have = h;
    changed = changed_none (cells_of z x);
  }

  -- PARTS
  pub first_in : (site : Site) (spot : Spot) (l m : Lowered) (ns : List Made) (bs : List MadeBlock) → m.nodes ≡ l.nodes ++ ns → m.blocks ≡ l.blocks ++ bs
      → ActiveX z x c site spot m → ActiveX z x c site spot l
  first_in site spot l m ns bs en eb h = first_part z.program z.graph z.origin z.inputs x.run x.state x.is_run c site spot l m ns bs en eb h

  pub rest_in : (site : Site) (spot : Spot) (l k m : Lowered) → m.nodes ≡ l.nodes ++ k.nodes → m.blocks ≡ l.blocks ++ k.blocks → ActiveX z x c site spot m
      → ActiveX z x c site (spot_after spot l) k
  rest_in site spot l k m en eb h = rest_part z.program z.graph z.origin z.inputs x.run x.state x.is_run c site spot l k m en eb h

  -- A PART THAT ENDS WITH ONE LINE MORE: the block has the line, and its faults have the origin of its token
  pub record Ending (site : Site) (spot : Spot) (l : Lowered) (at : ℕ) (kind : Kind Name) (ss : List Source) : Type 0 where
    pub block : Block ℕ
    pub is_block : block_of (flow z) c ≡ Some block
    pub line_at : node_at block (spot.next + length l.nodes) ≡ Some (resolved z.graph (made site at kind ss))
    pub traced : MayFail kind → origin_at (flow z) c (spot.next + length l.nodes) ≡ z.origin at

  pub ending : (site : Site) (spot : Spot) (l : Lowered) (at : ℕ) (kind : Kind Name) (ss : List Source) (values : ℕ)
      → ActiveX z x c site spot (ended site spot l at kind ss values) → Ending site spot l at kind ss
  ending site spot l at kind ss values h =
      let tail : Lowered = record { nodes = made site at kind ss ∷ []; sources = []; blocks = [] } in
      let last : ActiveX z x c site (spot_after spot l) tail = rest_in site spot l tail (ended site spot l at kind ss values) refl
      (sym (append_nothing l.blocks)) h in
      let own = own_line z.program z.graph z.origin z.inputs x.run x.state x.is_run c site (spot_after spot l) tail (made site at kind ss) [] refl last in
      let two : z.graph.version ≡ 2 = sym (ap (λ (g : Graph). g.version) z.is_graph) in
      let here : origin_at (flow z) c (spot.next + length l.nodes) ≡ At last.number (spot.next + length l.nodes) =
      ap₂ (λ v o. origin_in v o (spot.next + length l.nodes)) two last.is_number in
      record {
        block = last.block;
        is_block = block_is z.program z.graph z.origin z.inputs x.run x.state x.is_run c site (spot_after spot l) tail last;
        line_at = own.0;
        traced = λ may. here ∙ sym (own.1 may);
      }

-- A LINE THAT FIRES, after its operands
pub line_does : (z : Land) (x : RunOf z) (c : Context) (site : Site) (spot : Spot) (l : Lowered) (at : ℕ) (kind : Kind Name) (sources : List Source)
    (us : List Value) (ss : Stores) (d : Deed) → Ending z x c site spot l at kind sources → IsPlain (resolved z.graph (made site at kind sources)).kind
    → (r : Reaches z x c spot.next (spot.next + length l.nodes) sources us ss)
    → (e : Extended z.graph z.inputs z.well z.count r.to (Fires c (spot.next + length l.nodes) us) d)
    → DoesX z x e.to c spot.next (spot.next + length (l.nodes ++ made site at kind sources ∷ []))
line_does z x c site spot l at kind sources us ss d end plain r e =
    let own : ℕ = spot.next + length l.nodes in
    does_to z.graph z.inputs z.well z.count x e.to c spot.next (own + 1) (spot.next + length (l.nodes ++ made site at kind sources ∷ []))
    (after_one spot.next l.nodes (made site at kind sources))
    (does_then z.graph z.inputs z.well z.count x r.to e.to c spot.next own (own + 1) (omega arith) (omega arith) e.on r.does
    (fires_does z.graph z.inputs z.well z.count r.to c end.block end.is_block own (resolved z.graph (made site at kind sources)) end.line_at plain us d e))

-- A LINE THAT SAYS A VALUE, after its operands
pub line_says : (z : Land) (x : RunOf z) (c : Context) (site : Site) (spot : Spot) (l : Lowered) (at : ℕ) (kind : Kind Name) (sources : List Source)
    (us : List Value) (v : Value) (ss : Stores) → Ending z x c site spot l at kind sources → IsPlain (resolved z.graph (made site at kind sources)).kind
    → (r : Reaches z x c spot.next (spot.next + length l.nodes) sources us ss)
    → fired (flow z) c (spot.next + length l.nodes) (resolved z.graph (made site at kind sources)).kind us
    ≡ Some (Says (Sends c (spot.next + length l.nodes) 0 v))
    → Reaches z x c spot.next (spot.next + length (l.nodes ++ made site at kind sources ∷ [])) (ports_from (spot.next + length l.nodes) 0 1) (v ∷ []) ss
line_says z x c site spot l at kind sources us v ss end plain r e =
    let own : ℕ = spot.next + length l.nodes in
    let line = resolved z.graph (made site at kind sources) in
    let more : Extended z.graph z.inputs z.well z.count r.to (Fires c own us) (Says (Sends c own 0 v)) =
    line_happens z.graph z.inputs z.well z.count r.to c end.block end.is_block own line end.line_at us (Says (Sends c own 0 v)) r.have e tt in
    record {
      to = more.to;
      on = on_then z.graph z.inputs z.well z.count x r.to more.to r.on more.on;
      does = line_does z x c site spot l at kind sources us ss (Says (Sends c own 0 v)) end plain r more;
      have = (said_gives z.graph z.inputs z.well z.count r.to (Fires c own us) c own 0 v more, tt);
      changed = changed_same (cells_of z x) (cells_of z r.to) (cells_of z more.to) ss
          (sym (ap (λ (m : Memory). m.cells) (said_memory z.graph z.inputs z.well z.count r.to (Fires c own us) (Sends c own 0 v) more))) r.changed;
    }
