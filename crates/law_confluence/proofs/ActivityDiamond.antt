-- Two different activities of one state: both orders lead to one state, or both fill one cell.
use Rattle.std.proofs.Common.{◌≡◌, ℕ, Bool, List, [], ◌∷◌, ◌++◌, Option, Some, None, if◌then◌else◌, IsPermutation, refl, sym, ap, ◌∙◌, subst, subst₂, ⊎_elim}
use Rattle.std.proofs.Common.{eq-eqb}
use Rattle.std.proofs.lemmas.List.Sorted.{IsPermutation-refl, IsPermutation-sym, IsPermutation-trans, IsPermutation-append_right}
use Rattle.std.proofs.lemmas.Option.{same_Some}
use Rattle.tags.specs.declared.value.Value.{Value}
use Rattle.semantics.specs.Graph.{Flow}
use Rattle.semantics.specs.Meaning.{Context, AtOut, Tagged, Memory, State, Effect, Activity, Fires, Outputs, taken, Deed, Fills, Puts, deed, done, done_if}
use Rattle.semantics.specs.Meaning.{effect, adds, tokens_of, Sends, with_cell, at_place, Step, Same, Clashes}
use Rattle.lemmas.proofs.Permutations.{Within, Meet, each_from, spread_permutation, within_permutation, within_left, permutation_meet, permutation_cancel}
use Rattle.lemmas.proofs.Permutations.{permutation_exchange}
use Rattle.law_confluence.proofs.ActivityKeys.{Differ, Unique, Held, differ_turn, same_activity}
use Rattle.law_confluence.proofs.ActivityDeeds.{Apart, SameCell, Commutes, commutes, kept, empty_of}
use Rattle.law_confluence.proofs.ActivityShapes.{storing, showing}

abbrev pub HasDeed : Flow → Memory → Activity → Effect → Type 0
HasDeed fl m a E = (d : Deed) × (deed fl a ≡ Some d) × (done fl m d ≡ Some E)

deed_in : (fl : Flow) (m : Memory) (o : Option Deed) (E : Effect) → done_if fl m o ≡ Some E → (d : Deed) × (o ≡ Some d) × (done fl m d ≡ Some E)
deed_in fl m None E e = cc
deed_in fl m (Some d) E e = (d, refl, e)

pub deed_of : (fl : Flow) (m : Memory) (a : Activity) (E : Effect) → effect fl m a ≡ Some E → HasDeed fl m a E
deed_of fl m a E e = deed_in fl m (deed fl a) E e

pub effect_of : (fl : Flow) (m : Memory) (a : Activity) (d : Deed) (E : Effect) → deed fl a ≡ Some d → done fl m d ≡ Some E → effect fl m a ≡ Some E
effect_of fl m a d E p q = ap (λ o. done_if fl m o) p ∙ q

pub held_from : (ts us rest : List Tagged) → IsPermutation ts (us ++ rest) → Held ts us
held_from ts us rest p =
    each_from (λ t. Within t ts) us (λ x h. within_permutation x (us ++ rest) ts (IsPermutation-sym ts (us ++ rest) p) (within_left x us rest h))

-- old is a, then b, then a rest: so b is there after the step by a, and the rest has what a added
pub moved_on : {X : Type 0} (new added rest bs ws : List X) → IsPermutation new (added ++ rest) → IsPermutation rest (bs ++ ws)
    → IsPermutation new (bs ++ (added ++ ws))
moved_on new added rest bs ws p q =
    IsPermutation-trans _ _ _ p (IsPermutation-trans _ _ _ (IsPermutation-append_right added rest (bs ++ ws) q) (permutation_exchange added bs ws))

both_shown : (ts ws : List Tagged) (a b : Activity) → Unique ts → IsPermutation ts (taken a ++ (taken b ++ ws)) → (j k : ℕ) (v w : Value) → a ≡ Outputs j v
    → b ≡ Outputs k w → j ≡ k → ⊥
both_shown ts ws a b all p j k v w e f same =
    let parts = subst₂ (λ x y. IsPermutation ts (taken x ++ (taken y ++ ws))) e f p in
    let apart = spread_permutation Differ differ_turn ts (taken (Outputs j v) ++ (taken (Outputs k w) ++ ws)) parts all in
    apart.0.0 (refl, ap AtOut same, refl)

apart_from : (fl : Flow) (ts ws : List Tagged) (a b : Activity) (d e : Deed) → Unique ts → IsPermutation ts (taken a ++ (taken b ++ ws)) → deed fl a ≡ Some d
    → deed fl b ≡ Some e → Apart d e
apart_from fl ts ws a b (Puts j v) (Puts k w) all p q r = λ same. both_shown ts ws a b all p j k v w (showing fl a j v q) (showing fl b k w r) same
apart_from fl ts ws a b d e all p q r = tt

-- the activity fills the cell
abbrev pub StoresTo : Flow → Activity → ℕ → Type 0
StoresTo fl a x = (c : Context) × (n : ℕ) × (v : Value) × (deed fl a ≡ Some (Fills c n x v))

pub data Diamond (fl : Flow) (a b : Activity) (t u : State) : Type 0 where
  One : a ≡ b → Same t u → Diamond fl a b t u
  Joined : (end : State) → Step fl b t end → Step fl a u end → Diamond fl a b t u
  Clash : (cell : ℕ) → StoresTo fl a cell → StoresTo fl b cell → Clashes fl t cell → Diamond fl a b t u

pub at_filled : (f : ℕ → Option Value) (x : ℕ) (v : Value) → at_place f x v x ≡ Some v
at_filled f x v = ap (λ (b : Bool). if b then Some v else f x) (eq-eqb x x refl)

filled : (fl : Flow) (m : Memory) (c : Context) (n x : ℕ) (v : Value) (E : Effect) → done fl m (Fills c n x v) ≡ Some E → E.memory.cells x ≡ Some v
filled fl m c n x v E e =
    let f = empty_of (m.cells x) (adds (tokens_of fl (Sends c n 0 v)) (with_cell m x v)) E e in
    ap (λ (E : Effect). E.memory.cells x) (sym (same_Some _ E f.1)) ∙ at_filled m.cells x v

clash_after : (fl : Flow) (t : State) (a b : Activity) (d e : Deed) (m : Memory) (E : Effect) (rest : List Tagged) → deed fl a ≡ Some d → deed fl b ≡ Some e
    → done fl m d ≡ Some E → SameCell d e
    → t.memory ≡ E.memory → IsPermutation t.tokens (taken b ++ rest) → (cell : ℕ) × StoresTo fl a cell × StoresTo fl b cell × Clashes fl t cell
clash_after fl t a b (Fills c n x v) (Fills c' n' y w) m E rest p q r same f g =
    let is = storing fl b c' n' y w q in (
      y,
      (c, n, v, subst (λ z. deed fl a ≡ Some (Fills c n z v)) same p),
      (c', n', w, q),
      record {
        context = c';
        node = n';
        index = is.0;
        value = w;
        held = v;
        rest = rest;
        is_store = subst (λ a. deed fl a ≡ Some (Fills c' n' y w)) is.1 q;
        tokens = subst (λ a. IsPermutation t.tokens (taken a ++ rest)) is.1 g;
        full = subst₂ (λ (k : Memory) z. k.cells z ≡ Some v) (sym f) same (filled fl m c n x v E r);
      },
    )
clash_after fl t a b d e m E rest p q r same f g = absurd same

pub diamond : (fl : Flow) (s t u : State) (a b : Activity) → Unique s.tokens → Step fl a s t → Step fl b s u → Diamond fl a b t u
diamond fl s t u a b all p q =
    let d = deed_of fl s.memory a p.does p.allowed in
    let e = deed_of fl s.memory b q.does q.allowed in
    let both = IsPermutation-trans _ _ _ (IsPermutation-sym _ _ p.takes) q.takes in
    ⊎_elim
    (λ (m : Meet (taken a) (taken b)).
    let one = same_activity fl s.tokens all a b d.0 e.0 d.1 e.1 (held_from s.tokens (taken a) p.rest p.takes)
    (held_from s.tokens (taken b) q.rest q.takes) m.0 m.1 m.2 in
    let effects : p.does ≡ q.does = same_Some p.does q.does (sym p.allowed ∙ ap (λ x. effect fl s.memory x) one ∙ q.allowed) in
    let rests : IsPermutation p.rest q.rest =
    permutation_cancel (taken b) p.rest q.rest (subst (λ x. IsPermutation (taken x ++ p.rest) (taken b ++ q.rest)) one both) in
    let there : IsPermutation t.tokens (q.does.added ++ q.rest) =
    IsPermutation-trans _ _ _ (subst (λ (E : Effect). IsPermutation t.tokens (E.added ++ p.rest)) effects p.leaves)
    (IsPermutation-append_right q.does.added p.rest q.rest rests) in
    One one (IsPermutation-trans _ _ _ there (IsPermutation-sym _ _ q.leaves), p.memory ∙ ap (λ (E : Effect). E.memory) effects ∙ sym q.memory))
    (λ w.
    let parts = IsPermutation-trans _ _ _ p.takes (IsPermutation-append_right (taken a) p.rest (taken b ++ w.0) w.1) in
    let there = moved_on t.tokens p.does.added p.rest (taken b) w.0 p.leaves w.1 in
    let here = moved_on u.tokens q.does.added q.rest (taken a) w.0 q.leaves w.2 in
    ⊎_elim
    (λ (c : Commutes fl d.0 e.0 p.does q.does).
    Joined record { tokens = q.does.added ++ (p.does.added ++ w.0); memory = c.memory }
    record {
      does = record { added = q.does.added; memory = c.memory };
      rest = p.does.added ++ w.0;
      allowed = ap (λ k. effect fl k b) p.memory ∙ effect_of fl p.does.memory b e.0 record { added = q.does.added; memory = c.memory } e.1 c.first;
      takes = there;
      leaves = IsPermutation-refl (q.does.added ++ (p.does.added ++ w.0));
      memory = refl;
    }
    record {
      does = record { added = p.does.added; memory = c.memory };
      rest = q.does.added ++ w.0;
      allowed = ap (λ k. effect fl k a) q.memory ∙ effect_of fl q.does.memory a d.0 record { added = p.does.added; memory = c.memory } d.1 c.second;
      takes = here;
      leaves = permutation_exchange q.does.added p.does.added w.0;
      memory = refl;
    })
    (λ same. let k = clash_after fl t a b d.0 e.0 s.memory p.does (p.does.added ++ w.0) d.1 e.1 d.2 same p.memory there in Clash k.0 k.1 k.2 k.3)
    (commutes fl s.memory d.0 e.0 p.does q.does d.2 e.2 (apart_from fl s.tokens w.0 a b d.0 e.0 all parts d.1 e.1)))
    (permutation_meet (taken a) (taken b) p.rest q.rest both)

-- a clash stays
pub clash_stays : (fl : Flow) (s t : State) (a : Activity) (x : ℕ) → Unique s.tokens → Clashes fl s x → Step fl a s t → Clashes fl t x
clash_stays fl s t a x all c p =
    let b = Fires c.context c.node (c.index ∷ c.value ∷ []) in
    let d = deed_of fl s.memory a p.does p.allowed in
    let both = IsPermutation-trans _ _ _ (IsPermutation-sym _ _ p.takes) c.tokens in
    ⊎_elim
    (λ (m : Meet (taken a) (taken b)).
    let one = same_activity fl s.tokens all a b d.0 (Fills c.context c.node x c.value) d.1 c.is_store (held_from s.tokens (taken a) p.rest p.takes)
    (held_from s.tokens (taken b) c.rest c.tokens) m.0 m.1 m.2 in
    let is : d.0 ≡ Fills c.context c.node x c.value = same_Some _ _ (sym d.1 ∙ ap (λ x. deed fl x) one ∙ c.is_store) in
    let does = subst (λ d. done fl s.memory d ≡ Some p.does) is d.2 in
    let f = empty_of (s.memory.cells x) (adds (tokens_of fl (Sends c.context c.node 0 c.value)) (with_cell s.memory x c.value)) p.does does in
    let none = f.0 in
    let full = c.full in
    cc)
    (λ w. record {
      context = c.context;
      node = c.node;
      index = c.index;
      value = c.value;
      held = c.held;
      rest = p.does.added ++ w.0;
      is_store = c.is_store;
      tokens = moved_on t.tokens p.does.added p.rest (taken b) w.0 p.leaves w.1;
      full = ap (λ (m : Memory). m.cells x) p.memory ∙ kept fl s.memory d.0 p.does d.2 x c.held c.full;
    })
    (permutation_meet (taken a) (taken b) p.rest c.rest both)
