-- One node more.
use Rattle.std.proofs.Common.{min, ◌≡◌, ℕ, zero, suc, ◌+◌, ◌<◌, ◌≤◌, Bool, ◌⊎◌, inl, inr, get_or, drop, map, add-one, List, [], ◌∷◌, ◌++◌, length}
use Rattle.std.proofs.Common.{refl, sym, ◌∙◌, ap, arith, length-append, append-nil, append_assoc, add-zero}
use Rattle.std.proofs.Math.Seq.{drop-cons}
use Rattle.std.proofs.lemmas.List.{drop_all}
use Rattle.semantics.specs.declared.graph.Region.{Region}
use Rattle.semantics.specs.declared.graph.Region.TheVariants.{Arm}
use Rattle.semantics.specs.declared.graph.Source.{Source}
use Rattle.semantics.specs.declared.graph.Kind.{Kind}
use Rattle.semantics.specs.declared.graph.Kind.TheVariants as node
use Rattle.source.specs.Tree.{Name, NameAt, Target, Bind, Drop}
use Rattle.source.specs.Lowered.{Made, Site, made, ports_from, inputs_from, port, literal, only, Scope, scoped, let_scoped, merges, entered_names}
use Rattle.source.specs.Lowered.{arm_site, first_of, or_predicate, source_in, turn_scope}
use Rattle.lowering.specs.State.{Arms, State, after}
use Rattle.lowering.specs.Operators.{one_node, with_node, with_sources}
use Rattle.lowering.specs.Conditionals.{with_all, with_merges, entered_nodes, entered, enters_of, with_enters}
use Rattle.lowering.proofs.Algebra.{alike}

pub one_more : (s : State) (at : ℕ) (kind : Kind Name) (ss : List Source) (n : ℕ)
    → with_sources (with_node s at kind ss) (ports_from s.spot.next 0 n) ≡ after s (one_node s.site s.spot at kind ss n)
one_more s at kind ss n = alike s _ _ _ _ _ _ _ _ _ _ refl (omega arith) refl refl (sym (append-nil s.blocks))

pub literal_more : (s : State) (at : ℕ) (kind : Kind Name)
    → after s (one_node s.site s.spot at kind (s.site.trigger ∷ []) 1) ≡ after s (literal s.site s.spot at kind)
literal_more s at kind = ap (λ (n : ℕ). record (after s (one_node s.site s.spot at kind (s.site.trigger ∷ []) 1)) { sources = s.sources ++ ports_from n 0 1 })
    (sym (add-zero s.spot.next))

-- one port more, and one input more
ports_behind : (n p k : ℕ) → ports_from n p (suc k) ≡ ports_from n p k ++ port n (p + k) ∷ []
ports_behind n p zero = ap (λ (q : ℕ). port n q ∷ []) (sym (add-zero p))
ports_behind n p (suc k) = ap (λ (ss : List Source). port n p ∷ ss)
    (ports_behind n (p + 1) k ∙ ap (λ (q : ℕ). ports_from n (p + 1) k ++ port n q ∷ []) (omega arith))

pub ports_more : (n k : ℕ) → ports_from n 0 (k + 1) ≡ ports_from n 0 k ++ port n k ∷ []
ports_more n k = rw add-one (ports_behind n 0 k ∙ ap (λ (q : ℕ). ports_from n 0 k ++ port n q ∷ []) (omega arith))

inputs_behind : (n k : ℕ) → inputs_from n (suc k) ≡ inputs_from n k ++ port (n + k) 0 ∷ []
inputs_behind n zero = ap (λ (q : ℕ). port q 0 ∷ []) (sym (add-zero n))
inputs_behind n (suc k) = ap (λ (ss : List Source). port n 0 ∷ ss)
    (inputs_behind (n + 1) k ∙ ap (λ (q : ℕ). inputs_from (n + 1) k ++ port q 0 ∷ []) (omega arith))

pub inputs_more : (n k : ℕ) → inputs_from n (k + 1) ≡ inputs_from n k ++ port (n + k) 0 ∷ []
inputs_more n k = rw add-one (inputs_behind n k)

-- names and sources from a place on
scoped_none : (xs : List Name) (scope : Scope) → scoped xs [] scope ≡ scope
scoped_none [] scope = refl
scoped_none (x ∷ xs) scope = refl

pub scoped_end : (xs : List Name) (ss : List Source) (scope : Scope) (i : ℕ) → (length xs ≤ i) ⊎ (length ss ≤ i) → scoped (drop i xs) (drop i ss) scope ≡ scope
scoped_end xs ss scope i (inl h) = ap (λ (ys : List Name). scoped ys (drop i ss) scope) (drop_all i xs h)
scoped_end xs ss scope i (inr h) = ap (λ (ts : List Source). scoped (drop i xs) ts scope) (drop_all i ss h) ∙ scoped_none (drop i xs) scope

pub scoped_step : (xs : List Name) (ss : List Source) (scope : Scope) (i : ℕ) (x : Name) (s : Source) → i < length xs → i < length ss
    → scoped (drop i xs) (drop i ss) scope ≡ (get_or xs i x, get_or ss i s) ∷ scoped (drop (suc i) xs) (drop (suc i) ss) scope
scoped_step xs ss scope i x s h k = ap (λ (ys : List Name). scoped ys (drop i ss) scope) (drop-cons xs i x h)
    ∙ ap (λ (ts : List Source). scoped (get_or xs i x ∷ drop (suc i) xs) ts scope) (drop-cons ss i s k)

let_scoped_none : (xs : List Target) (scope : Scope) → let_scoped xs [] scope ≡ scope
let_scoped_none [] scope = refl
let_scoped_none (Bind x ∷ xs) scope = refl
let_scoped_none (Drop ∷ xs) scope = refl

pub let_scoped_end : (xs : List Target) (ss : List Source) (scope : Scope) (i : ℕ) → (length xs ≤ i) ⊎ (length ss ≤ i)
    → let_scoped (drop i xs) (drop i ss) scope ≡ scope
let_scoped_end xs ss scope i (inl h) = ap (λ (ys : List Target). let_scoped ys (drop i ss) scope) (drop_all i xs h)
let_scoped_end xs ss scope i (inr h) = ap (λ (ts : List Source). let_scoped (drop i xs) ts scope) (drop_all i ss h) ∙ let_scoped_none (drop i xs) scope

let_step : (xs : List Target) (ss : List Source) (scope : Scope) (i : ℕ) (x : Target) (s : Source) → i < length xs → i < length ss
    → let_scoped (drop i xs) (drop i ss) scope ≡ let_scoped (get_or xs i x ∷ drop (suc i) xs) (get_or ss i s ∷ drop (suc i) ss) scope
let_step xs ss scope i x s h k = ap (λ (ys : List Target). let_scoped ys (drop i ss) scope) (drop-cons xs i x h)
    ∙ ap (λ (ts : List Source). let_scoped (get_or xs i x ∷ drop (suc i) xs) ts scope) (drop-cons ss i s k)

pub let_bind_step : (xs : List Target) (ss : List Source) (scope : Scope) (i : ℕ) (d : Target) (x : NameAt) (s : Source) → i < length xs → i < length ss
    → get_or xs i d ≡ Bind x
    → let_scoped (drop i xs) (drop i ss) scope ≡ (x.name, get_or ss i s) ∷ let_scoped (drop (suc i) xs) (drop (suc i) ss) scope
let_bind_step xs ss scope i d x s h k e = let_step xs ss scope i d s h k
    ∙ ap (λ (t : Target). let_scoped (t ∷ drop (suc i) xs) (get_or ss i s ∷ drop (suc i) ss) scope) e

pub let_drop_step : (xs : List Target) (ss : List Source) (scope : Scope) (i : ℕ) (d : Target) (s : Source) → i < length xs → i < length ss
    → get_or xs i d ≡ Drop → let_scoped (drop i xs) (drop i ss) scope ≡ let_scoped (drop (suc i) xs) (drop (suc i) ss) scope
let_drop_step xs ss scope i d s h k e = let_step xs ss scope i d s h k
    ∙ ap (λ (t : Target). let_scoped (t ∷ drop (suc i) xs) (get_or ss i s ∷ drop (suc i) ss) scope) e

either_way : (a b : ℕ) → (a ≤ b) ⊎ (b ≤ a)
either_way zero b = inl (omega arith)
either_way (suc a) zero = inr (omega arith)
either_way (suc a) (suc b) = elim (either_way a b) [ inl h ↦ inl (omega arith) | inr h ↦ inr (omega arith) ]

-- as many as the shorter list has
shorter : (m a b : ℕ) → m ≡ min a b → (a ≤ m) ⊎ (b ≤ m)
shorter m a b e = by (either_way a b)
  where
    by : (a ≤ b) ⊎ (b ≤ a) → (a ≤ m) ⊎ (b ≤ m)
    by (inl h) = inl (omega arith)
    by (inr h) = inr (omega arith)

pub scoped_min : (xs : List Name) (ss : List Source) (scope : Scope) (m : ℕ) → m ≡ min (length xs) (length ss) → scope ≡ scoped (drop m xs) (drop m ss) scope
scoped_min xs ss scope m e = sym (scoped_end xs ss scope m (shorter m (length xs) (length ss) e))

pub let_scoped_min : (xs : List Target) (ss : List Source) (scope : Scope) (m : ℕ) → m ≡ min (length xs) (length ss)
    → scope ≡ let_scoped (drop m xs) (drop m ss) scope
let_scoped_min xs ss scope m e = sym (let_scoped_end xs ss scope m (shorter m (length xs) (length ss) e))

-- nodes one after another
pub no_merges : (s : State) → with_merges s [] ≡ s
no_merges s = alike s _ _ _ _ _ _ _ _ _ _ (add-zero s.spot.next) refl refl (append-nil s.nodes) refl

pub one_merge : (s : State) (at : ℕ) (kind : Kind Name) (ss : List Source) (ms : List Made)
    → with_merges (with_node s at kind ss) ms ≡ with_merges s (made s.site at kind ss ∷ ms)
one_merge s at kind ss ms = alike s _ _ _ _ _ _ _ _ _ _ (omega arith) refl refl (append_assoc s.nodes (made s.site at kind ss ∷ []) ms) refl

pub merge_step : (s : State) (at cond : ℕ) (ls rs : List Source) (i : ℕ) (a b : Source) → i < length ls → i < length rs
    → with_merges (with_node s at (node.Merge cond) (get_or ls i a ∷ get_or rs i b ∷ [])) (merges s.site at cond (drop (i + 1) ls) (drop (i + 1) rs))
    ≡ with_merges s (merges s.site at cond (drop i ls) (drop i rs))
merge_step s at cond ls rs i a b h k =
    ap (λ (j : ℕ). with_merges (with_node s at (node.Merge cond) (get_or ls i a ∷ get_or rs i b ∷ []))
    (merges s.site at cond (drop j ls) (drop j rs))) (add-one i)
    ∙ one_merge s at (node.Merge cond) (get_or ls i a ∷ get_or rs i b ∷ []) (merges s.site at cond (drop (suc i) ls) (drop (suc i) rs))
    ∙ sym (ap (λ (xs : List Source). with_merges s (merges s.site at cond xs (drop i rs))) (drop-cons ls i a h)
    ∙ ap (λ (ys : List Source). with_merges s (merges s.site at cond (get_or ls i a ∷ drop (suc i) ls) ys)) (drop-cons rs i b k))

merges_none : (site : Site) (at cond : ℕ) (ls : List Source) → merges site at cond ls [] ≡ []
merges_none site at cond [] = refl
merges_none site at cond (s ∷ ls) = refl

pub merges_end : (site : Site) (at cond : ℕ) (ls rs : List Source) (i : ℕ) → i ≡ min (length ls) (length rs) → merges site at cond (drop i ls) (drop i rs) ≡ []
merges_end site at cond ls rs i e = by (shorter i (length ls) (length rs) e)
  where
    by : (length ls ≤ i) ⊎ (length rs ≤ i) → merges site at cond (drop i ls) (drop i rs) ≡ []
    by (inl h) = ap (λ (xs : List Source). merges site at cond xs (drop i rs)) (drop_all i ls h)
    by (inr h) = ap (λ (ys : List Source). merges site at cond (drop i ls) ys) (drop_all i rs h) ∙ merges_none site at cond (drop i ls)

pub merges_length : (site : Site) (at cond : ℕ) (ls rs : List Source) → length (merges site at cond ls rs) ≡ min (length ls) (length rs)
merges_length site at cond [] rs = omega arith
merges_length site at cond (s ∷ ls) [] = omega arith
merges_length site at cond (s ∷ ls) (r ∷ rs) = omega (arith, merges_length site at cond ls rs)

-- enters one after another
pub enter_step : (s : State) (at : ℕ) (ss : List Source) (i : ℕ) (a : Source) → i < length ss
    → with_merges (with_node s at node.Enter (get_or ss i a ∷ [])) (entered_nodes s.site at (drop (i + 1) ss))
    ≡ with_merges s (entered_nodes s.site at (drop i ss))
enter_step s at ss i a h =
    ap (λ (j : ℕ). with_merges (with_node s at node.Enter (get_or ss i a ∷ [])) (entered_nodes s.site at (drop j ss))) (add-one i)
    ∙ one_merge s at node.Enter (get_or ss i a ∷ []) (entered_nodes s.site at (drop (suc i) ss))
    ∙ sym (ap (λ (xs : List Source). with_merges s (entered_nodes s.site at xs)) (drop-cons ss i a h))

pub all_enters : (s : State) (at : ℕ) (scope : Scope) (predicate : Source) (xs : List Name)
    → with_merges s (entered_nodes s.site at (or_predicate predicate (map (source_in scope) xs)))
    ≡ with_all s (entered_names s.site s.spot at scope predicate xs)
all_enters s at scope predicate xs = alike s _ _ _ _ _ _ _ _ _ _ refl (sym (add-zero s.spot.loops)) refl refl refl

-- an arm that takes what is given makes its enters
pub arm_enters : (s t n : State) (arms brms : Arms) (side : Bool) (region : Region) (at : ℕ) (xs : List Name) (taken : List Source) → t ≡ s
    → brms ≡ arms → region ≡ Arm brms.cond side
    → n ≡ with_merges (record t { site = record { function = brms.site.function; region = region; trigger = port t.spot.next 0 } })
    (entered_nodes (record { function = brms.site.function; region = region; trigger = port t.spot.next 0 }) at taken)
    → taken ≡ or_predicate (first_of arms.predicate) (map (source_in arms.scope) xs)
    → n ≡ with_enters s arms side at xs
arm_enters s t n arms brms side region at xs taken p q r e h =
    e ∙ ap within r ∙ (λ i. made_of (p i) (q i) (h i))
    ∙ all_enters (record s { site = arm_site arms.site arms.cond side s.spot }) at arms.scope (first_of arms.predicate) xs
  where
    within : Region → State
    within g =
        let site : Site = record { function = brms.site.function; region = g; trigger = port t.spot.next 0 } in
        with_merges (record t { site = site }) (entered_nodes site at taken)

    made_of : State → Arms → List Source → State
    made_of z a ss = with_merges (record z { site = arm_site a.site a.cond side z.spot }) (entered_nodes (arm_site a.site a.cond side z.spot) at ss)

pub arm_values : (s t : State) (arms : Arms) (side : Bool) (at : ℕ) (xs : List Name) (taken vs : List Source) (n : ℕ) → t ≡ s
    → vs ≡ inputs_from t.spot.next n → n ≡ length taken → taken ≡ or_predicate (first_of arms.predicate) (map (source_in arms.scope) xs)
    → vs ≡ (enters_of s arms side at xs).sources
arm_values s t arms side at xs taken vs n p e k h = e ∙ (λ i. inputs_from (p i).spot.next (k i))
    ∙ ap (λ (ss : List Source). inputs_from s.spot.next (length ss)) h

-- an arm begins, where its enters are made
pub arm_begins : (s t : State) (arms : Arms) (side : Bool) (at : ℕ) (xs : List Name) (vs none : List Source) (scope : Scope)
    → t ≡ with_enters s arms side at xs → vs ≡ (enters_of s arms side at xs).sources → scope ≡ scoped xs vs [] → none ≡ []
    → record t { scope = scope; sources = none } ≡ entered s arms side at xs
arm_begins s t arms side at xs vs none scope e v k h = λ i. begun (e i) ((k ∙ ap (λ (ss : List Source). scoped xs ss []) v) i) (h i)
  where
    begun : State → Scope → List Source → State
    begun z sc ss = record z { scope = sc; sources = ss }

-- the inputs of a turn's block
pub turn_inputs : (xs outs : List Name) → scoped (xs ++ outs) (inputs_from 0 (length (xs ++ outs))) [] ≡ turn_scope xs outs
turn_inputs xs outs = ap (λ (n : ℕ). scoped (xs ++ outs) (inputs_from 0 n) []) (length-append xs outs)

-- values alone
pub only_more : (s : State) (ss : List Source) → with_sources s ss ≡ after s (only ss)
only_more s ss = alike s _ _ _ _ _ _ _ _ _ _ (sym (add-zero s.spot.next)) (sym (add-zero s.spot.loops)) refl (sym (append-nil s.nodes))
    (sym (append-nil s.blocks))

-- what an arm takes where it uses a name
pub some_taken : (f : Name → Source) (predicate : Source) (xs : List Name) → 0 < length xs → or_predicate predicate (map f xs) ≡ map f xs
some_taken f predicate [] h = absurd (omega (arith, h))
some_taken f predicate (x ∷ xs) h = refl
