-- A call, where a run has reached its arguments: its function's body is reached, and its results are returned.
use Rattle.std.proofs.Common.{◌≡◌, ℕ, zero, suc, ◌+◌, ◌<◌, ◌≤◌, Bool, true, false, List, [], ◌∷◌, length, map, Option, Some, Contains, inl, refl, sym, ap, ap₂, ◌∙◌, subst}
use Rattle.std.proofs.Common.{arith}
use Rattle.std.specs.Prelude.{⊤, slice_get}
use Rattle.std.proofs.lemmas.List.{length-map}
use Rattle.std.proofs.lemmas.Option.{same_Some}
use Rattle.tags.specs.declared.value.Value.{Value}
use Rattle.semantics.specs.declared.graph.Source.{Source}
use Rattle.semantics.specs.declared.graph.Kind.{Kind}
use Rattle.semantics.specs.declared.graph.Kind.TheVariants as node
use Rattle.semantics.specs.Graph.{Node, Block, node_at, node_count, place_of, block_names}
use Rattle.semantics.specs.Meaning as Meaning
use Rattle.semantics.specs.Meaning.{Context, Called, AtNode, AtOut, Operand, tagged, Activity, Fires, Passes, Returns, Deed, Says, Sends, Enters, Stood, IsCall, IsLoop, StartsWhenStrict}
use Rattle.semantics.specs.Meaning.{ArmsTaken, arm_of, arms_round, arms_at, callee, callee_of, callee_in, block_number, block_numbered, block_of, node_in, passed, start}
use Rattle.law_confluence.specs.Equations.{IsDue}
use Rattle.law_confluence.proofs.EquationsGraphFormed.{shaped}
use Rattle.law_confluence.proofs.EquationsRunUses.{entering_within}
use Rattle.source.specs.Tree.{Name, Exprs, Function}
use Rattle.source.specs.Outside.{bare, body_uses}
use Rattle.source.specs.Rules.{function_in, written_or_one}
use Rattle.source.specs.Evaluates.{Env, Stores, EvaluatesAll, Runs, call, entered}
use Rattle.source.specs.Lowered.{Made, Lowered, Site, made, ended, call_kind, results_of, turn_site, function_scope, function_blocks, inputs_from, ports_from, port}
use Rattle.source.specs.Lowered.{spot_after, lower_list}
use Rattle.source.proofs.CountedSources.{inputs_count}
use Rattle.source.proofs.Kept.{IsCalled, in_call}
use Rattle.source.proofs.Holding.{holds_whole}
use Rattle.source.proofs.NamesUsed.{body_used}
use Rattle.source.proofs.Counting.{list_count, body_count}
use Rattle.law_language.specs.MeansHolds.{resolved, block_in, HasBlocks}
use Rattle.law_language.proofs.MeansHaving.{have_length}
use Rattle.law_language.proofs.MeansHolding.{resolved_all}
use Rattle.law_language.proofs.MeansNamesAgree.{agrees_each, known_in}
use Rattle.law_language.proofs.MeansParts.{own_line, block_is}
use Rattle.law_language.proofs.MeansLeaves.{append_nothing}
use Rattle.law_language.proofs.MeansMainActive.{IsGoodFunction, function_named, main_spot, main_lowered, main_made}
use Rattle.law_language.proofs.MeansInputs.{root_taken}
use Rattle.lemmas.proofs.Permutations.{put_first}
use Rattle.law_loops_complete.specs.Within as ordered
use Rattle.law_loops_complete.specs.Within.{IsIn}
use Rattle.law_ordered_runs.specs.InOrder.{list_touches, body_touches}
use Rattle.law_ordered_runs.proofs.Order.{seat, Under, Precedes, in_self, under_in, place_in_seat}
use Rattle.law_ordered_runs.proofs.Origins.{Comes, result_source, happened_at}
use Rattle.law_ordered_runs.proofs.Closing.{AsReturns, AsTurns, AsOutputs, ClosesLine, ClosesEnd, closes_on, closes_line_on, closes_node, closes_input, closes_whole, not_turned}
use Rattle.law_ordered_runs.proofs.Closing.{line_passed, line_fired}
use Rattle.law_ordered_runs.proofs.Doing.{AtNodeOf, precedes_at, precedes_behind, under_within, own_called, adds_none, adds_one, adds_then, does_none, does_then, does_to}
use Rattle.law_ordered_runs.proofs.Extending.{Extended, Came, on_then, on_same, said_came, said_gives, said_memory}
use Rattle.law_ordered_runs.proofs.Lines.{line_happens, operand_happens, input_happens, result_happens}
use Rattle.law_ordered_runs.proofs.Memory.{Changed, list_fills, fills_none, ready_first, ready_then, changed_none, changed_same}
use Rattle.law_ordered_runs.proofs.Staying.{due_on, has_on, have_on, arms_on}
use Rattle.law_ordered_runs.proofs.UsesSent.{result_came}
use Rattle.law_ordered_runs.proofs.Reaching.{Land, RunOf, flow, world_of, cells_of, HasX, HaveX, ActiveX, ReadyX, OnX, Reaches, ExprReaches, ListReaches}
use Rattle.law_ordered_runs.proofs.Reaching.{AddsX, DoesX, reaches_to, BodyReaches, first_in, rest_in}
use Rattle.law_ordered_runs.proofs.ReachingParts.{second_part}

-- A RUN GOES ON WITH NO STORE.
pub record Quietly (z : Land) (x : RunOf z) : Type 0 where
  pub to : RunOf z
  pub on : OnX z x to
  pub cells : cells_of z to ≡ cells_of z x

abbrev pub says_quietly : (z : Land) (x : RunOf z) (a : Activity) (m : Meaning.Message) → Extended z.graph z.inputs z.well z.count x a (Says m) → Quietly z x
says_quietly z x a m e = record {
  to = e.to;
  on = e.on;
  cells = ap (λ (m : Meaning.Memory). m.cells) (said_memory z.graph z.inputs z.well z.count x a m e);
}

abbrev pub quietly_then : (z : Land) (x : RunOf z) (r : Quietly z x) → Quietly z r.to → Quietly z x
quietly_then z x r q = record { to = q.to; on = on_then z.graph z.inputs z.well z.count x r.to q.to r.on q.on; cells = q.cells ∙ r.cells }

-- INPUTS of an invocation that has their tokens
abbrev pub Arrived : (z : Land) → RunOf z → Context → ℕ → List Value → Type 0
Arrived z x d i [] = ⊤
Arrived z x d i (v ∷ vs) = Came z.graph z.inputs z.well z.count x (tagged d (AtNode i) (Operand 0) v) × Arrived z x d (i + 1) vs

pub arrived_on : (z : Land) (x y : RunOf z) → OnX z x y → (d : Context) (i : ℕ) (vs : List Value) → Arrived z x d i vs → Arrived z y d i vs
arrived_on z x y on d i [] h = tt
arrived_on z x y on d i (v ∷ vs) h = (on.came _ h.0, arrived_on z x y on d (i + 1) vs h.1)

pub record InputsIn (z : Land) (x : RunOf z) (d : Context) (i n : ℕ) (vs : List Value) : Type 0 where
  pub quietly : Quietly z x
  pub does : DoesX z x quietly.to d i (i + n)
  pub have : HaveX z quietly.to d (inputs_from i n) vs

input_does : (z : Land) (x : RunOf z) (d : Context) (b : Block ℕ) → block_of (flow z) d ≡ Some b → (i : ℕ) (v : Value) → i < b.inputs
    → (e : Extended z.graph z.inputs z.well z.count x (Fires d i (v ∷ [])) (Says (Sends d i 0 v))) → DoesX z x e.to d i (i + 1)
input_does z x d b eb i v low e = record {
  adds = adds_one z.graph z.inputs z.well z.count x (Fires d i (v ∷ [])) (Says (Sends d i 0 v)) (λ a. Under d i (i + 1) (seat a)) e (own_called d i);
  closed = closes_input z.graph z.inputs z.well z.count e.to d b eb i v low e.happened;
}

pub inputs_pass : (z : Land) (d : Context) (b : Block ℕ) → block_of (flow z) d ≡ Some b → (x : RunOf z) (i n : ℕ) (vs : List Value) → length vs ≡ n
    → i + n ≤ b.inputs → Arrived z x d i vs → InputsIn z x d i n vs
inputs_pass z d b eb x i zero [] long low h =
    record {
      quietly = record { to = x; on = on_same z.graph z.inputs z.well z.count x; cells = refl };
      does = does_to z.graph z.inputs z.well z.count x x d i i (i + 0) (omega arith) (does_none z.graph z.inputs z.well z.count x d i);
      have = tt;
    }
inputs_pass z d b eb x i zero (v ∷ vs) long low h = absurd (omega (arith, long))
inputs_pass z d b eb x i (suc n) [] long low h = absurd (omega (arith, long))
inputs_pass z d b eb x i (suc n) (v ∷ vs) long low h =
    let e = input_happens z.graph z.inputs z.well z.count x d b eb i v (omega (arith, low)) h.0 in
    let r = says_quietly z x (Fires d i (v ∷ [])) (Sends d i 0 v) e in
    let q = inputs_pass z d b eb r.to (i + 1) n vs (omega (arith, long)) (omega (arith, low)) (arrived_on z x r.to r.on d (i + 1) vs h.1) in
    record {
      quietly = quietly_then z x r q.quietly;
      does = does_to z.graph z.inputs z.well z.count x q.quietly.to d i (i + 1 + n) (i + suc n) (omega arith)
          (does_then z.graph z.inputs z.well z.count x r.to q.quietly.to d i (i + 1) (i + 1 + n) (omega arith) (omega arith) q.quietly.on
          (input_does z x d b eb i v (omega (arith, low)) e) q.does);
      have = (
        has_on z.graph z.inputs z.well z.count r.to q.quietly.to q.quietly.on d (port i 0) v
            (said_gives z.graph z.inputs z.well z.count x (Fires d i (v ∷ [])) d i 0 v e),
        q.have,
      );
    }

-- ARGUMENTS, one by one, or all at once
pub record ArrivedIn (z : Land) (x : RunOf z) (d : Context) (i : ℕ) (vs : List Value) : Type 0 where
  pub quietly : Quietly z x
  pub arrived : Arrived z quietly.to d i vs

-- with the activities that made them arrive, one for each
pub record PassedIn (z : Land) (x : RunOf z) (P : Activity → Type 0) (act : ℕ → Value → Activity) (d : Context) (i : ℕ) (vs : List Value) : Type 0 where
  pub arrives : ArrivedIn z x d i vs
  pub adds : AddsX z x arrives.quietly.to P
  pub happened : (j : ℕ) (v : Value) → slice_get vs j ≡ Some v → Contains arrives.quietly.to.run (act (i + j) v)

pub passed_none : (z : Land) (x : RunOf z) (P : Activity → Type 0) (act : ℕ → Value → Activity) (d : Context) (i : ℕ) → PassedIn z x P act d i []
passed_none z x P act d i = record {
  arrives = record { quietly = record { to = x; on = on_same z.graph z.inputs z.well z.count x; cells = refl }; arrived = tt };
  adds = adds_none z.graph z.inputs z.well z.count x P;
  happened = λ j v e. cc;
}

pub passed_more : (z : Land) (x : RunOf z) (P : Activity → Type 0) (act : ℕ → Value → Activity) (d : Context) (i : ℕ) (v : Value) (vs : List Value)
    (m : Deed) (e : Extended z.graph z.inputs z.well z.count x (act i v) m) → cells_of z e.to ≡ cells_of z x → P (act i v)
    → ((a b : Activity) → P a → P b → Precedes a b) → Came z.graph z.inputs z.well z.count e.to (tagged d (AtNode i) (Operand 0) v)
    → PassedIn z e.to P act d (i + 1) vs → PassedIn z x P act d i (v ∷ vs)
passed_more z x P act d i v vs m e same p order came q =
    let quietly = quietly_then z x (record { to = e.to; on = e.on; cells = same }) q.arrives.quietly in
    record {
      arrives = record { quietly = quietly; arrived = (q.arrives.quietly.on.came _ came, q.arrives.arrived) };
      adds = adds_then z.graph z.inputs z.well z.count x e.to quietly.to P P P (adds_one z.graph z.inputs z.well z.count x (act i v) m P e p) q.adds order
          (λ a h. h) (λ a h. h);
      happened = which;
    }
  where
    which : (j : ℕ) (w : Value) → slice_get (v ∷ vs) j ≡ Some w → Contains q.arrives.quietly.to.run (act (i + j) w)
    which zero w f =
        let same : v ≡ w = same_Some v w f in
        subst (λ k. Contains q.arrives.quietly.to.run (act k w)) (omega arith)
        (subst (λ w. Contains q.arrives.quietly.to.run (act i w)) same (q.arrives.quietly.on.kept _ e.happened))
    which (suc j) w f = subst (λ k. Contains q.arrives.quietly.to.run (act k w)) (omega arith) (q.happened j w f)

pub operands_pass : (z : Land) (c d : Context) (b : Block ℕ) → block_of (flow z) c ≡ Some b → (n : ℕ) (line : Node ℕ) → node_at b n ≡ Some line
    → ((i : ℕ) (v : Value) → passed c n i v line.kind ≡ Some (Says (Enters d i (v ∷ []))))
    → (x : RunOf z) (i : ℕ) (ss : List Source) (vs : List Value) → ((j : ℕ) (s : Source) → slice_get ss j ≡ Some s → slice_get line.sources (i + j) ≡ Some s)
    → HaveX z x c ss vs → PassedIn z x (AtNodeOf c n) (λ j w. Passes c n j w) d i vs
operands_pass z c d b eb n line el passes x i [] [] at h = passed_none z x (AtNodeOf c n) (λ j w. Passes c n j w) d i
operands_pass z c d b eb n line el passes x i [] (v ∷ vs) at h = absurd h
operands_pass z c d b eb n line el passes x i (s ∷ ss) [] at h = absurd h
operands_pass z c d b eb n line el passes x i (s ∷ ss) (v ∷ vs) at h =
    let es : slice_get line.sources i ≡ Some s = subst (λ j. slice_get line.sources j ≡ Some s) (omega arith) (at 0 s refl) in
    let e = operand_happens z.graph z.inputs z.well z.count x c b eb n line el i s v (Says (Enters d i (v ∷ []))) es h.0 (passes i v) tt in
    let r = says_quietly z x (Passes c n i v) (Enters d i (v ∷ [])) e in
    let q = operands_pass z c d b eb n line el passes r.to (i + 1) ss vs
    (λ j t f. subst (λ k. slice_get line.sources k ≡ Some t) (omega arith) (at (suc j) t f))
    (have_on z.graph z.inputs z.well z.count x r.to r.on c ss vs h.1) in
    let here = said_came z.graph z.inputs z.well z.count r.to (Passes c n i v) (Says (Enters d i (v ∷ []))) (Enters d i (v ∷ [])) e.happened e.is_deed refl
    (tagged d (AtNode i) (Operand 0) v) ([], inl (refl, refl)) in
    passed_more z x (AtNodeOf c n) (λ j w. Passes c n j w) d i v vs (Says (Enters d i (v ∷ []))) e r.cells (refl, own_called c n)
    (λ a b p k. precedes_at c a b p.0 (under_in c n (n + 1) (seat b) k.1)) here q

pub all_arrived : (z : Land) (x : RunOf z) (d : Context) (i : ℕ) (vs : List Value)
    → ((j : ℕ) (v : Value) → slice_get vs j ≡ Some v → Came z.graph z.inputs z.well z.count x (tagged d (AtNode (i + j)) (Operand 0) v)) → Arrived z x d i vs
all_arrived z x d i [] h = tt
all_arrived z x d i (v ∷ vs) h = (
  subst (λ j. Came z.graph z.inputs z.well z.count x (tagged d (AtNode j) (Operand 0) v)) (omega arith) (h 0 v refl),
  all_arrived z x d (i + 1) vs (λ j w e. subst (λ j. Came z.graph z.inputs z.well z.count x (tagged d (AtNode j) (Operand 0) w)) (omega arith) (h (suc j) w e)),
)

-- RESULTS of a call that its body has
pub record Returned (z : Land) (x : RunOf z) (c : Context) (n j count : ℕ) (vs : List Value) : Type 0 where
  pub quietly : Quietly z x
  pub adds : AddsX z x quietly.to (λ a. (ordered.place_of a ≡ Called c n) × Under c n (n + 1) (seat a))
  pub have : HaveX z quietly.to c (ports_from n j count) vs
  pub happened : (i : ℕ) (v : Value) → slice_get vs i ≡ Some v → Contains quietly.to.run (Returns c n (j + i) v)

pub results_return : (z : Land) (c : Context) (n : ℕ) (b : Block ℕ) → block_of (flow z) (Called c n) ≡ Some b → (x : RunOf z) (j count : ℕ) (ss : List Source)
    (vs : List Value) → length ss ≡ count → ((i : ℕ) (s : Source) → slice_get ss i ≡ Some s → slice_get b.results (j + i) ≡ Some s)
    → HaveX z x (Called c n) ss vs → Returned z x c n j count vs
results_return z c n b eb x j zero [] [] long at h = record {
  quietly = record { to = x; on = on_same z.graph z.inputs z.well z.count x; cells = refl };
  adds = adds_none z.graph z.inputs z.well z.count x (λ a. (ordered.place_of a ≡ Called c n) × Under c n (n + 1) (seat a));
  have = tt;
  happened = λ i v e. cc;
}
results_return z c n b eb x j zero (s ∷ ss) vs long at h = absurd (omega (arith, long))
results_return z c n b eb x j zero [] (v ∷ vs) long at h = absurd h
results_return z c n b eb x j (suc count) [] vs long at h = absurd (omega (arith, long))
results_return z c n b eb x j (suc count) (s ∷ ss) [] long at h = absurd h
results_return z c n b eb x j (suc count) (s ∷ ss) (v ∷ vs) long at h =
    let es : slice_get b.results j ≡ Some s = subst (λ j. slice_get b.results j ≡ Some s) (omega arith) (at 0 s refl) in
    let came = result_came z.graph z.inputs z.well z.count x (Called c n) b j s v eb es (λ t. t) h.0 in
    let e = result_happens z.graph z.inputs z.well z.count x c n j v came in
    let r = says_quietly z x (Returns c n j v) (Sends c n j v) e in
    let q = results_return z c n b eb e.to (j + 1) count ss vs (omega (arith, long))
    (λ i t f. subst (λ k. slice_get b.results k ≡ Some t) (omega arith) (at (suc i) t f))
    (have_on z.graph z.inputs z.well z.count x e.to e.on (Called c n) ss vs h.1) in
    let P : Activity → Type 0 = λ a. (ordered.place_of a ≡ Called c n) × Under c n (n + 1) (seat a) in
    record {
      quietly = quietly_then z x r q.quietly;
      adds = adds_then z.graph z.inputs z.well z.count x e.to q.quietly.to P P P
          (adds_one z.graph z.inputs z.well z.count x (Returns c n j v) (Says (Sends c n j v)) P e (refl, own_called c n)) q.adds
          (λ a b p k. precedes_at (Called c n) a b p.0 (returned_in b k.0)) (λ a p. p) (λ a p. p);
      have = (
        has_on z.graph z.inputs z.well z.count e.to q.quietly.to q.quietly.on c (port n j) v
            (said_gives z.graph z.inputs z.well z.count x (Returns c n j v) c n j v e),
        q.have,
      );
      happened = which e.to e.happened q;
    }
  where
    returned_in : (b : Activity) → ordered.place_of b ≡ Called c n → IsIn (Called c n) (seat b)
    returned_in b e = place_in_seat (Called c n) b (subst (λ d. IsIn (Called c n) d) (sym e) (in_self (Called c n)))

    which : (y : RunOf z) → Contains y.run (Returns c n j v) → (q : Returned z y c n (j + 1) count vs) → (i : ℕ) (w : Value)
        → slice_get (v ∷ vs) i ≡ Some w → Contains q.quietly.to.run (Returns c n (j + i) w)
    which y first q zero w f =
        let same : v ≡ w = same_Some v w f in
        subst (λ k. Contains q.quietly.to.run (Returns c n k w)) (omega arith)
        (subst (λ w. Contains q.quietly.to.run (Returns c n j w)) same (q.quietly.on.kept _ first))
    which y first q (suc i) w f = subst (λ k. Contains q.quietly.to.run (Returns c n k w)) (omega arith) (q.happened i w f)

-- A CALL enters its function, in either form.
pub record CallIn (z : Land) (x : RunOf z) (c : Context) (n : ℕ) (kind : Kind ℕ) (i : ℕ) (vs : List Value) : Type 0 where
  pub arrives : ArrivedIn z x (Called c n) 0 vs
  pub adds : AddsX z x arrives.quietly.to (AtNodeOf c n)
  pub own : ClosesLine z.graph z.inputs z.well z.count arrives.quietly.to c n
  pub starts : StartsWhenStrict arrives.quietly.to.run c n kind
  pub calls : callee kind ≡ Some i
  pub is_call : IsCall kind

pub from_zero : (P : ℕ → Type 0) (i : ℕ) → P (0 + i) → P i
from_zero P i h = subst P (omega arith) h

-- the value of a source that has one
pub value_at : (z : Land) (x : RunOf z) (c : Context) (ss : List Source) (vs : List Value) (i : ℕ) (s : Source) → HaveX z x c ss vs → slice_get ss i ≡ Some s
    → (v : Value) × (slice_get vs i ≡ Some v)
value_at z x c [] vs i s h e = cc
value_at z x c (t ∷ ss) [] i s h e = absurd h
value_at z x c (t ∷ ss) (v ∷ vs) zero s h e = (v, refl)
value_at z x c (t ∷ ss) (v ∷ vs) (suc i) s h e = value_at z x c ss vs i s h.1 e

call_in : (z : Land) (x : RunOf z) (c : Context) (b : Block ℕ) → block_of (flow z) c ≡ Some b → (n : ℕ) (site : Site) (at : ℕ) (strict : Bool) (f : Name)
    (ss : List Source) (vs : List Value)
    → node_at b n ≡ Some (resolved z.graph (made site at (call_kind strict f) ss)) → HaveX z x c ss vs
    → CallIn z x c n (resolved z.graph (made site at (call_kind strict f) ss)).kind (place_of f (block_names z.graph)) vs
call_in z x c b eb n site at false f ss vs el h =
    let line : Node ℕ = resolved z.graph (made site at (call_kind false f) ss) in
    let p = operands_pass z c (Called c n) b eb n line el (λ i v. refl) x 0 ss vs (λ j s e. subst (λ k. slice_get ss k ≡ Some s) (omega arith) e) h in
    record {
      arrives = p.arrives;
      adds = p.adds;
      own = line_passed z.graph z.inputs z.well z.count p.arrives.quietly.to c b eb n line el tt
          (λ i s e. (let v = value_at z x c ss vs i s h e in (v.0, from_zero (λ i. Contains p.arrives.quietly.to.run (Passes c n i v.0)) i (p.happened i v.0 v.1))));
      starts = tt;
      calls = refl;
      is_call = tt;
    }
call_in z x c b eb n site at true f ss vs el h =
    let d = Called c n in
    let e = line_happens z.graph z.inputs z.well z.count x c b eb n (resolved z.graph (made site at (call_kind true f) ss)) el vs (Says (Enters d 0 vs)) h refl tt in
    record {
      arrives = record {
        quietly = says_quietly z x (Fires c n vs) (Enters d 0 vs) e;
        arrived = all_arrived z e.to d 0 vs (λ j v k. said_came z.graph z.inputs z.well z.count e.to (Fires c n vs) (Says (Enters d 0 vs)) (Enters d 0 vs)
            e.happened e.is_deed refl (tagged d (AtNode (0 + j)) (Operand 0) v) (entering_within d 0 vs j v k));
      };
      adds = adds_one z.graph z.inputs z.well z.count x (Fires c n vs) (Says (Enters d 0 vs)) (AtNodeOf c n) e (refl, own_called c n);
      own = line_fired z.graph z.inputs z.well z.count e.to c b eb n (resolved z.graph (made site at (call_kind true f) ss)) el tt vs e.happened;
      starts = (vs, e.happened);
      calls = refl;
      is_call = tt;
    }

-- WHAT IT CALLS, from where its arguments are
module _ (z : Land) (x : RunOf z) (c : Context) (due : IsDue (flow z) z.inputs x.run x.state x.is_run c) (n : ℕ) (line : Node ℕ) (block : Block ℕ)
    (eb : block_of (flow z) c ≡ Some block) (el : node_at block n ≡ Some line)
    (region : ArmsTaken (Stood (flow z) (start z.inputs) x.run x.state x.is_run) c (arms_round (node_count block) block line.region))
    (f : Function) (good : IsGoodFunction z.program f) (placed : HasBlocks z.graph z.origin f.name.name (function_blocks z.program f))
    (vs : List Value) (many : length vs ≡ length f.params)
    (it : CallIn z x c n line.kind (place_of f.name.name (block_names z.graph)) vs) where
  abbrev to : Block ℕ
  to = block_in z.graph f.name.name (main_made z.program f)

  abbrev own : Lowered
  own = main_lowered z.program f

  abbrev d : Context
  d = Called c n

  abbrev y : RunOf z
  y = it.arrives.quietly.to

  number_is : block_number (flow z) d ≡ Some (place_of f.name.name (block_names z.graph))
  number_is = ap (λ o. callee_in o n) eb ∙ ap callee_of el ∙ it.calls

  to_is : block_of (flow z) d ≡ Some to
  to_is = ap (λ o. block_numbered (flow z) o) number_is ∙ placed.0.is_there

  called_due : IsDue (flow z) z.inputs y.run y.state y.is_run d
  called_due = (
    due_on z.graph z.inputs z.well z.count x y it.arrives.quietly.on c due,
    (line, ap (λ o. node_in o n) eb ∙ el, it.is_call, it.starts),
    subst (λ (o : Option (Block ℕ)). ArmsTaken (Stood (flow z) (start z.inputs) y.run y.state y.is_run) c (arms_at o n)) (sym eb)
        (subst (λ (o : Option (Node ℕ)). ArmsTaken (Stood (flow z) (start z.inputs) y.run y.state y.is_run) c (arms_round (node_count block) block (arm_of o)))
        (sym el) (arms_on z.graph z.inputs z.well z.count x y it.arrives.quietly.on c _ region)),
  )

  whole_block : length f.params + length own.nodes ≡ node_count to
  whole_block =
      let n = ap length (resolved_all z.graph own.nodes) ∙ length-map own.nodes (resolved z.graph) in omega (arith, n)

  own_is_call : IsLoop line.kind → ⊥
  own_is_call h = go line.kind it.is_call h
    where
      go : (kind : Kind ℕ) → IsCall kind → IsLoop kind → ⊥
      go (node.Loop g k) h i = h
      go kind h i = i

  -- all that happens at a call: its operands pass, its function's block does what it does, and its results return
  call_does : (u v : RunOf z) → OnX z y u → OnX z u v → DoesX z y u d 0 (node_count to)
      → AddsX z u v (λ a. (ordered.place_of a ≡ d) × Under c n (n + 1) (seat a))
      → ((j : ℕ) (s : Source) → slice_get own.sources j ≡ Some s → (w : Value) × Contains v.run (Returns c n j w)) → DoesX z x v c n (n + 1)
  call_does u v on more inner ends happened = record {
    adds = adds_then z.graph z.inputs z.well z.count x y v (AtNodeOf c n) (λ a. Under c n (n + 1) (seat a)) (λ a. Under c n (n + 1) (seat a)) it.adds
        (adds_then z.graph z.inputs z.well z.count y u v (λ a. Under d 0 (node_count to) (seat a)) (λ a. (ordered.place_of a ≡ d) × Under c n (n + 1) (seat a))
        (λ a. Under c n (n + 1) (seat a)) inner.adds ends (λ a b p k. precedes_behind d a b k.0 (under_in d 0 (node_count to) (seat a) p))
        (λ a p. under_within c d (seat a) n (n + 1) 0 (node_count to) (own_called c n) p) (λ a p. p.1))
        (λ a b p k. precedes_at c a b p.0 (under_in c n (n + 1) (seat b) k)) (λ a p. p.1) (λ a p. p);
    closed = closes_node z.graph z.inputs z.well z.count v c n
        (closes_line_on z.graph z.inputs z.well z.count y v (on_then z.graph z.inputs z.well z.count y u v on more) c n it.own)
        (closes_whole z.graph z.inputs z.well z.count v d to to_is
        (closes_on z.graph z.inputs z.well z.count u v more d 0 (node_count to) inner.closed) end)
        (not_turned z.graph z.inputs z.well z.count v c n (λ l e k. own_is_call (subst (λ (l : Node ℕ). IsLoop l.kind)
        (same_Some l line (sym e ∙ ap (λ o. node_in o n) eb ∙ el)) k)));
  }
    where
      end : ClosesEnd z.graph z.inputs z.well z.count v d
      end t on a k (AsReturns e m j w ed ea) =
          let ns : n ≡ m = cc in
          let cs : c ≡ e = cc in
          let act : a ≡ Returns c n j w = ea ∙ ap₂ (λ c n. Returns c n j w) (sym cs) (sym ns) in
          let i = subst (λ a. Comes z.graph z.inputs z.well z.count t a) act k in
          let s = result_source z.graph z.inputs z.well z.count t d to j w to_is i.came.0 in
          let u = happened j s.0 s.1 in
          subst (λ a. Contains t.run a) (sym act)
          (happened_at z.graph z.inputs z.well z.count t (Returns c n j w) (Returns c n j u.0) i (on.kept _ u.1) (tagged d (AtOut j) (Operand 0) u.0)
          (tagged d (AtOut j) (Operand 0) w) (_, put_first _ _) (_, put_first _ _) (refl, refl, refl))
      end t on a k (AsTurns e m i j w q ed ea) = absurd (cc)
      end t on a k (AsOutputs j w ed ea) = absurd (cc)

  pub body_reached : {rs : List Value} {us : Stores} (g : Runs (world_of z) (entered f.params vs []) f.body rs us) → BodyReaches z d g
      → ReadyX z x us (body_touches g) → (count : ℕ) → length own.sources ≡ count → Reaches z x c n (n + 1) (ports_from n 0 count) rs us
  body_reached {rs = rs} {us = us} g means ready count counted =
      let some = (shaped z.graph z.well (place_of f.name.name (block_names z.graph)) to placed.0.is_there).some_input in
      let ins = inputs_pass z d to to_is y 0 (length f.params) vs many (omega arith) it.arrives.arrived in
      let w = ins.quietly.to in
      let first = first_value (length f.params) vs w ins.have some in
      let stands : ActiveX z w d (turn_site f.name.name) (main_spot f) own =
      record {
        number = place_of f.name.name (block_names z.graph);
        block = to;
        is_number = number_is;
        is_block = placed.0.is_there;
        due = due_on z.graph z.inputs z.well z.count y w ins.quietly.on d called_due;
        taken = root_taken (Stood (flow z) (start z.inputs) w.run w.state w.is_run) d to (node_count to);
        trigger = first.0;
        triggered = first.1;
        lines = holds_whole to (map (resolved z.graph) own.nodes) (resolved_all z.graph own.nodes);
        traced = placed.0.traced;
        loops = placed.1;
      } in
      let knows =
      agrees_each (flow z) z.inputs w.run w.state w.is_run d (function_scope f) (entered f.params vs []) (bare f.params) (body_uses f.body)
      (λ a e. known_in (flow z) z.inputs w.run w.state w.is_run d f.params (inputs_from 0 (length f.params)) vs [] [] ins.have
      (sym (inputs_count 0 (length f.params))) a e)
      (body_used z.program (bare f.params) f.body (written_or_one f.results) good.values) in
      let whole = quietly_then z x it.arrives.quietly ins.quietly in
      let none : Changed (cells_of z x) (cells_of z w) [] = changed_same (cells_of z x) (cells_of z x) (cells_of z w) [] (sym whole.cells)
      (changed_none (cells_of z x)) in
      let r = means w (turn_site f.name.name) (main_spot f) (function_scope f) (bare f.params) (written_or_one f.results) false good.fits good.values stands
      knows (ready_then z.memory (cells_of z x) (cells_of z w) [] us [] (body_touches g) ready whole.on.cells none (fills_none [])) in
      let q = results_return z c n to to_is r.to 0 count own.sources rs counted
      (λ i s e. subst (λ k. slice_get own.sources k ≡ Some s) (omega arith) e) r.have in
      let inner : DoesX z y r.to d 0 (node_count to) = does_to z.graph z.inputs z.well z.count y r.to d 0 (length f.params + length own.nodes) (node_count to)
      whole_block (does_then z.graph z.inputs z.well z.count y w r.to d 0 (length f.params) (length f.params + length own.nodes) (omega arith) (omega arith) r.on
      (does_to z.graph z.inputs z.well z.count y w d 0 (0 + length f.params) (length f.params) (omega arith) ins.does) r.does) in
      record {
        to = q.quietly.to;
        on = on_then z.graph z.inputs z.well z.count x w q.quietly.to whole.on (on_then z.graph z.inputs z.well z.count w r.to q.quietly.to r.on q.quietly.on);
        does = call_does r.to q.quietly.to (on_then z.graph z.inputs z.well z.count y w r.to ins.quietly.on r.on) q.quietly.on inner q.adds
            (λ j s e. (let v = value_at z r.to d own.sources rs j s r.have e in
            (v.0, subst (λ k. Contains q.quietly.to.run (Returns c n k v.0)) (omega arith) (q.happened j v.0 v.1))));
        have = q.have;
        changed = changed_same (cells_of z x) (cells_of z r.to) (cells_of z q.quietly.to) us (sym q.quietly.cells)
            (subst (λ old. Changed old (cells_of z r.to) us) whole.cells r.changed);
      }
    where
      first_value : (k : ℕ) (vs : List Value) (w : RunOf z) → HaveX z w d (inputs_from 0 k) vs → 0 < k → (v : Value) × HasX z w d (port 0 0) v
      first_value zero vs w h low = absurd (omega (arith, low))
      first_value (suc k) [] w h low = absurd h
      first_value (suc k) (v ∷ vs) w h low = (v, h.0)

pub reaches_call : {env : Env} {vs rs : List Value} {ss us : Stores} (z : Land) (c : Context) (at : ℕ) (strict : Bool) (f : Name) (es : Exprs)
    (fun : Function) (d : EvaluatesAll (world_of z) env es vs ss) (found : function_in z.program f ≡ Some fun)
    (g : Runs (world_of z) (entered fun.params vs []) fun.body rs us) → ListReaches z c d → ((c : Context) → BodyReaches z c g)
    → ExprReaches z c (call {t = at} {strict = strict} d found g)
reaches_call {env = env} {vs = vs} {rs = rs} {ss = ss} {us = us} z c at strict f es fun d found g means body x site spot scope names n fits rule h known ready =
    let l : Lowered = lower_list z.program site spot scope es in
    let count : ℕ = results_of (function_in z.program f) in
    let m1 : Made = made site at (call_kind strict f) l.sources in
    let m : Lowered = ended site spot l at (call_kind strict f) l.sources count in
    let tail : Lowered = record { nodes = m1 ∷ []; sources = []; blocks = [] } in
    let k : IsCalled z.program names f es n = in_call z.program names at strict f es n rule in
    let before : ActiveX z x c site spot l = first_in z x c site spot l m (m1 ∷ []) [] refl (sym (append_nothing l.blocks)) h in
    let last : ActiveX z x c site (spot_after spot l) tail = rest_in z x c site spot l tail m refl (sym (append_nothing l.blocks)) h in
    let out = means x site spot scope names (length k.function.params) fits k.arguments before known
    (ready_first z.memory (cells_of z x) ss us (list_touches d) (body_touches g) ready) in
    let own : ℕ = spot.next + length l.nodes in
    let line : Node ℕ = resolved z.graph m1 in
    let eb = block_is z.program z.graph z.origin z.inputs x.run x.state x.is_run c site (spot_after spot l) tail last in
    let el = (own_line z.program z.graph z.origin z.inputs x.run x.state x.is_run c site (spot_after spot l) tail m1 [] refl last).0 in
    let named : f ≡ fun.name.name = function_named z.program f fun found in
    let same : k.function ≡ fun = same_Some k.function fun (sym k.found ∙ found) in
    let long = have_length (flow z) z.inputs out.to.run out.to.state out.to.is_run c l.sources vs out.have in
    let counted : length l.sources ≡ length fun.params =
    list_count z.program site spot scope es names (length k.function.params) k.arguments ∙ ap (λ (h : Function). length h.params) same in
    let it : CallIn z out.to c own line.kind (place_of fun.name.name (block_names z.graph)) vs =
    subst (λ a. CallIn z out.to c own line.kind (place_of a (block_names z.graph)) vs) named
    (call_in z out.to c last.block eb own site at strict f l.sources vs el out.have) in
    let good : IsGoodFunction z.program fun = z.good f fun found in
    let results : length (main_lowered z.program fun).sources ≡ count =
    body_count z.program (turn_site fun.name.name) (main_spot fun) (function_scope fun) fun.body (bare fun.params) (written_or_one fun.results) good.values
    ∙ sym (ap results_of found) in
    let inner = body_reached z out.to c (due_on z.graph z.inputs z.well z.count x out.to out.on c last.due) own line last.block eb el
    (arms_on z.graph z.inputs z.well z.count x out.to out.on c _ last.taken) fun good (z.placed f fun found) vs (sym long ∙ counted) it g
    (body (Called c own)) (ready_then z.memory (cells_of z x) (cells_of z out.to) ss us (list_touches d) (body_touches g) ready out.on.cells out.changed
    (list_fills d)) count results in
    second_part z x c spot.next l.nodes (m1 ∷ []) l.sources (ports_from own 0 count) vs rs ss us out
    (reaches_to z out.to c own (own + 1) (own + length (m1 ∷ [])) (ports_from own 0 count) rs us refl inner)
