-- The tokens that an activity takes.
use Rattle.std.proofs.Common.{◌≡◌, ℕ, zero, suc, ◌+◌, ◌<◌, ◌≤◌, Bool, true, false, ◌&&◌, ◌==◌, List, [], ◌∷◌, length, map, Some, None, nat_lt}
use Rattle.std.proofs.Common.{if◌then◌else◌, refl, sym, ap, ◌∙◌, subst, arith, eqb-true, ltb-true, eq-eqb, ne_eqb}
use Rattle.std.proofs.lemmas.Option.{same_Some}
use Rattle.tags.specs.declared.value.Value.{Value}
use Rattle.semantics.specs.declared.graph.Kind.{Kind}
use Rattle.semantics.specs.declared.graph.Kind.TheVariants.{Lit, Apply1, Apply2, Cond, Enter, Merge, Fetch, Store, Call, StrictCall, Loop}
use Rattle.semantics.specs.Graph.{Graph}
use Rattle.semantics.specs.Meaning.{Context, tagged, taken, operands_from}
use Rattle.semantics.specs.Meaning as Meaning
use Rattle.oracle.specs.declared.invocations.Made.{Made}
use Rattle.oracle.specs.declared.invocations.Made.TheVariants.{Main, Called, Turned}
use Rattle.oracle.specs.declared.invocations.Invocation.{Invocation}
use Rattle.oracle.specs.declared.lines.Line.{Line}
use Rattle.oracle.specs.declared.lines.Line.TheVariants.{Input, Node, Nothing}
use Rattle.oracle.specs.declared.shapes.Shape.{Shape}
use Rattle.oracle.specs.declared.shapes.Shape.TheVariants.{Fires, Gates, Passes, Returns, Turns, Outputs}
use Rattle.oracle.specs.Deeds.{Deed}
use Rattle.oracle.specs.declared.tokens.Spot.{Spot}
use Rattle.oracle.specs.declared.tokens.Spot.TheVariants.{Operand, Predicate, Out, Flag, Carried}
use Rattle.oracle.specs.Lines.{same_spot, operand_spots, spots_in, takes_all, node_shape, fires_shape, operand_shape, enter_shape, predicate_shape}
use Rattle.oracle.specs.Lines.{out_shape, turn_shape, shape_in, line_of}
use Rattle.oracle.specs.Acting.{deed_in, returned_deed, turned_deed, shown_deed}
use Rattle.oracle.specs.Agreeing.{own, zipped}
use Rattle.oracle.specs.Meant.{name_in, made_of, tagged_of, activity_of}

pub spot_refl : (q : Spot) → same_spot q q ≡ true
spot_refl (Operand n i) = ap (λ b. b && (i == i)) (eq-eqb n n refl) ∙ ap (λ b. true && b) (eq-eqb i i refl)
spot_refl (Predicate n) = eq-eqb n n refl
spot_refl (Out j) = eq-eqb j j refl
spot_refl (Flag j) = eq-eqb j j refl
spot_refl (Carried j) = eq-eqb j j refl

own_first : (q : Spot) (ss : List Spot) → own q ss ≡ 0 → own q (q ∷ ss) ≡ 1
own_first q ss none = ap (λ b. if b then suc (own q ss) else own q ss) (spot_refl q) ∙ ap suc none

operand_test : (n i from : ℕ) (b : Bool) → (from == i) ≡ b → same_spot (Operand n from) (Operand n i) ≡ b
operand_test n i from b h = ap (λ t. t && (from == i)) (eq-eqb n n refl) ∙ h

operands_none : (n i from k : ℕ) → i < from → own (Operand n i) (operand_spots n from k) ≡ 0
operands_none n i from zero h = refl
operands_none n i from (suc k) h =
    let rest = operand_spots n (from + 1) k in
    ap (λ b. if b then suc (own (Operand n i) rest) else own (Operand n i) rest) (operand_test n i from false (ne_eqb from i (λ e. omega (arith, e, h))))
    ∙ operands_none n i (from + 1) k (omega (arith, h))

above : (a b : ℕ) → a ≤ b → (a ≡ b → ⊥) → a + 1 ≤ b
above a b low other = omega (arith, low, other)

operands_own : (n i from k : ℕ) → from ≤ i → i < from + k → own (Operand n i) (operand_spots n from k) ≡ 1
operands_own n i from zero low high = absurd (omega (arith, low, high))
operands_own n i from (suc k) low high =
    let rest = operand_spots n (from + 1) k in
    let cases : (b : Bool) → (from == i) ≡ b → own (Operand n i) (operand_spots n from (suc k)) ≡ 1
    = λ b. elim b as (λ b. (from == i) ≡ b → own (Operand n i) (operand_spots n from (suc k)) ≡ 1) [
      | true ↦ λ e. let same = eqb-true from i e in
          ap (λ b. if b then suc (own (Operand n i) rest) else own (Operand n i) rest) (operand_test n i from true e)
          ∙ ap suc (operands_none n i (from + 1) k (omega (arith, same)))
      | false ↦ λ e.
          let other : from ≡ i → ⊥ = λ is. let yes = eq-eqb from i is in let no : true ≡ false = sym yes ∙ e in cc in
          let next : from + 1 ≤ i = above from i low other in
          ap (λ b. if b then suc (own (Operand n i) rest) else own (Operand n i) rest) (operand_test n i from false e)
          ∙ operands_own n i (from + 1) k next (omega (arith, high))
    ] in
    cases (from == i) refl

pub if_both : (a b : Bool) (x y : Shape) → (if a && b then Some x else None) ≡ Some y → (b ≡ true) × (x ≡ y)
if_both true true x y h = (refl, same_Some x y h)
if_both true false x y h = cc
if_both false b x y h = cc

pub if_one : (a : Bool) (x y : Shape) → (if a then Some x else None) ≡ Some y → (a ≡ true) × (x ≡ y)
if_one true x y h = (refl, same_Some x y h)
if_one false x y h = cc

fires_own : (kind : Kind ℕ) (arity n i : ℕ) (shape : Shape) → fires_shape kind arity n i ≡ Some shape → own (Operand n i) (spots_in shape) ≡ 1
fires_own kind arity n i shape h =
    let r = if_both (takes_all kind arity) (nat_lt i arity) (Fires n arity) shape h in
    let low = ltb-true i arity r.0 in
    subst (λ s. own (Operand n i) (spots_in s) ≡ 1) r.1 (operands_own n i 0 arity (omega arith) (omega (arith, low)))

first_own : (n i : ℕ) (ss : List Spot) → (i == 0) ≡ true → own (Operand n 0) ss ≡ 0 → own (Operand n i) (Operand n 0 ∷ ss) ≡ 1
first_own n i ss h none = subst (λ k. own (Operand n k) (Operand n 0 ∷ ss) ≡ 1) (sym (eqb-true i 0 h)) (own_first (Operand n 0) ss none)

passes_own : (n i : ℕ) (shape : Shape) → Some (Passes n i) ≡ Some shape → own (Operand n i) (spots_in shape) ≡ 1
passes_own n i shape h = subst (λ s. own (Operand n i) (spots_in s) ≡ 1) (same_Some _ _ h) (own_first (Operand n i) [] refl)

gates_own : (n i : ℕ) (shape : Shape) → (if i == 0 then Some (Gates n) else None) ≡ Some shape → own (Operand n i) (spots_in shape) ≡ 1
gates_own n i shape h =
    let r = if_one (i == 0) (Gates n) shape h in
    subst (λ s. own (Operand n i) (spots_in s) ≡ 1) r.1 (first_own n i (Predicate n ∷ []) r.0 refl)

node_own : (kind : Kind ℕ) (arity n i : ℕ) (shape : Shape) → node_shape kind arity n i ≡ Some shape → own (Operand n i) (spots_in shape) ≡ 1
node_own kind arity n i shape = elim kind as (λ kind. node_shape kind arity n i ≡ Some shape → own (Operand n i) (spots_in shape) ≡ 1) [
  | Lit z ↦ λ h. fires_own (Lit z) arity n i shape h
  | Apply1 op ↦ λ h. fires_own (Apply1 op) arity n i shape h
  | Apply2 op ↦ λ h. fires_own (Apply2 op) arity n i shape h
  | Cond ↦ λ h. fires_own Cond arity n i shape h
  | Enter ↦ λ h. gates_own n i shape h
  | Merge k ↦ λ h. passes_own n i shape h
  | Fetch a ↦ λ h. fires_own (Fetch a) arity n i shape h
  | Store a ↦ λ h. fires_own (Store a) arity n i shape h
  | Call f ↦ λ h. passes_own n i shape h
  | StrictCall f ↦ λ h. fires_own (StrictCall f) arity n i shape h
  | Loop f k ↦ λ h. passes_own n i shape h
]

operand_own : (l : Line) (n i : ℕ) (shape : Shape) → operand_shape l n i ≡ Some shape → own (Operand n i) (spots_in shape) ≡ 1
operand_own Input n i shape h =
    let r = if_one (i == 0) (Fires n 1) shape h in
    subst (λ s. own (Operand n i) (spots_in s) ≡ 1) r.1 (first_own n i [] r.0 refl)
operand_own (Node r kind arity) n i shape h = node_own kind arity n i shape h
operand_own Nothing n i shape h = cc

enter_own : (kind : Kind ℕ) (n : ℕ) (shape : Shape) → enter_shape kind n ≡ Some shape → own (Predicate n) (spots_in shape) ≡ 1
enter_own Enter n shape h = subst (λ s. own (Predicate n) (spots_in s) ≡ 1) (same_Some _ _ h) (own_first (Predicate n) [] refl)
enter_own kind n shape h = cc

predicate_own : (l : Line) (n : ℕ) (shape : Shape) → predicate_shape l n ≡ Some shape → own (Predicate n) (spots_in shape) ≡ 1
predicate_own Input n shape h = cc
predicate_own (Node r kind arity) n shape h = enter_own kind n shape h
predicate_own Nothing n shape h = cc

out_own : (made : Made) (j : ℕ) (shape : Shape) → out_shape made j ≡ Some shape → own (Out j) (spots_in shape) ≡ 1
out_own Main j shape h = subst (λ s. own (Out j) (spots_in s) ≡ 1) (same_Some _ _ h) (own_first (Out j) [] refl)
out_own (Called c n) j shape h = subst (λ s. own (Out j) (spots_in s) ≡ 1) (same_Some _ _ h) (own_first (Out j) [] refl)
out_own (Turned c n i) j shape h = cc

flag_own : (made : Made) (j : ℕ) (shape : Shape) → turn_shape made j ≡ Some shape → own (Flag j) (spots_in shape) ≡ 1
flag_own Main j shape h = cc
flag_own (Called c n) j shape h = cc
flag_own (Turned c n i) j shape h = subst (λ s. own (Flag j) (spots_in s) ≡ 1) (same_Some _ _ h) (own_first (Flag j) (Carried j ∷ []) refl)

carried_own : (made : Made) (j : ℕ) (shape : Shape) → turn_shape made j ≡ Some shape → own (Carried j) (spots_in shape) ≡ 1
carried_own Main j shape h = cc
carried_own (Called c n) j shape h = cc
carried_own (Turned c n i) j shape h = subst (λ s. own (Carried j) (spots_in s) ≡ 1) (same_Some _ _ h) (own_first (Carried j) [] refl)

-- A token's own spot is once among those of its activity.
pub own_law : (g : Graph) (made : Made) (block : ℕ) (q : Spot) (shape : Shape) → shape_in g made block q ≡ Some shape → own q (spots_in shape) ≡ 1
own_law g made block (Operand n i) shape h = operand_own (line_of g block n) n i shape h
own_law g made block (Predicate n) shape h = predicate_own (line_of g block n) n shape h
own_law g made block (Out j) shape h = out_own made j shape h
own_law g made block (Flag j) shape h = flag_own made j shape h
own_law g made block (Carried j) shape h = carried_own made j shape h

operands_taken : (cs : List Context) (c n from k : ℕ) (vs : List Value) → length vs ≡ length (operand_spots n from k)
    → map (tagged_of cs) (zipped c (operand_spots n from k) vs) ≡ operands_from (name_in cs c) (Meaning.AtNode n) from vs
operands_taken cs c n from zero [] h = refl
operands_taken cs c n from zero (v ∷ vs) h = absurd (omega (arith, h))
operands_taken cs c n from (suc k) [] h = absurd (omega (arith, h))
operands_taken cs c n from (suc k) (v ∷ vs) h =
    ap (λ ts. tagged (name_in cs c) (Meaning.AtNode n) (Meaning.Operand from) v ∷ ts) (operands_taken cs c n (from + 1) k vs (omega (arith, h)))

-- What is joined is what the activity takes.
pub taken_law : (g : Graph) (cs : List Context) (c : ℕ) (x : Invocation) → made_of cs x.made ≡ name_in cs c
    → (shape : Shape) (vs : List Value) (d : Deed) → deed_in g c x shape vs ≡ Some d
    → length vs ≡ length (spots_in shape) → map (tagged_of cs) (zipped c (spots_in shape) vs) ≡ taken (activity_of cs c x.made shape vs)
taken_law g cs c x is (Fires n k) vs d e h = operands_taken cs c n 0 k vs h
taken_law g cs c x is (Gates n) [] d e h = cc
taken_law g cs c x is (Gates n) (v ∷ []) d e h = cc
taken_law g cs c x is (Gates n) (v ∷ b ∷ []) d e h = refl
taken_law g cs c x is (Gates n) (v ∷ b ∷ w ∷ vs) d e h = cc
taken_law g cs c x is (Passes n i) [] d e h = cc
taken_law g cs c x is (Passes n i) (v ∷ []) d e h = refl
taken_law g cs c x is (Passes n i) (v ∷ w ∷ vs) d e h = cc
taken_law g cs c x is (Returns j) [] d e h = cc
taken_law g cs c x is (Returns j) (v ∷ []) d e h =
    elim x.made as (λ made. returned_deed made j v ≡ Some d → made_of cs made ≡ name_in cs c
    → map (tagged_of cs) (zipped c (Out j ∷ []) (v ∷ [])) ≡ taken (activity_of cs c made (Returns j) (v ∷ []))) [
      | Main ↦ λ q p. cc
      | Called by n ↦ λ q p. ap (λ k. tagged k (Meaning.AtOut j) (Meaning.Operand 0) v ∷ []) (sym p)
      | Turned by n i ↦ λ q p. cc
    ] e is
taken_law g cs c x is (Returns j) (v ∷ w ∷ vs) d e h = cc
taken_law g cs c x is (Turns j) [] d e h = cc
taken_law g cs c x is (Turns j) (v ∷ []) d e h = cc
taken_law g cs c x is (Turns j) (b ∷ v ∷ []) d e h =
    elim x.made as (λ made. turned_deed made x.block j b v ≡ Some d → made_of cs made ≡ name_in cs c
    → map (tagged_of cs) (zipped c (Flag j ∷ Carried j ∷ []) (b ∷ v ∷ [])) ≡ taken (activity_of cs c made (Turns j) (b ∷ v ∷ []))) [
      | Main ↦ λ q p. cc
      | Called by n ↦ λ q p. cc
      | Turned by n i ↦ λ q p. ap (λ k. tagged k (Meaning.AtTurn j) Meaning.Flag b ∷ tagged k (Meaning.AtTurn j) Meaning.Carried v ∷ []) (sym p)
    ] e is
taken_law g cs c x is (Turns j) (b ∷ v ∷ w ∷ vs) d e h = cc
taken_law g cs c x is (Outputs j) [] d e h = cc
taken_law g cs c x is (Outputs j) (v ∷ []) d e h =
    elim x.made as (λ made. shown_deed made j v ≡ Some d → made_of cs made ≡ name_in cs c
    → map (tagged_of cs) (zipped c (Out j ∷ []) (v ∷ [])) ≡ taken (activity_of cs c made (Outputs j) (v ∷ []))) [
      | Main ↦ λ q p. ap (λ k. tagged k (Meaning.AtOut j) (Meaning.Operand 0) v ∷ []) (sym p)
      | Called by n ↦ λ q p. cc
      | Turned by n i ↦ λ q p. cc
    ] e is
taken_law g cs c x is (Outputs j) (v ∷ w ∷ vs) d e h = cc
