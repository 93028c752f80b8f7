-- What the memory says to a deed: a fetch of an empty cell is deferred, and takes one token; a store to a full cell clashes.
use Rattle.std.proofs.Common.{◌≡◌, ℕ, inl, inr, Bool, true, false, List, [], ◌∷◌, ◌++◌, Option, Some, None, if◌then◌else◌, IsPermutation, refl, ap}
use Rattle.std.proofs.Common.{◌∙◌, subst, arith}
use Rattle.std.specs.Prelude.{is_some}
use Rattle.std.proofs.lemmas.List.{length-append}
use Rattle.std.proofs.lemmas.List.Sorted.{IsPermutation-trans, IsPermutation-append_comm, length_permutation}
use Rattle.tags.specs.declared.value.Value.{Value}
use Rattle.semantics.specs.Graph.{Flow}
use Rattle.semantics.specs.Meaning.{Context, AtNode, Tagged, tagged, Activity, taken, operands_from, deed}
use Rattle.semantics.specs.Meaning as Meaning
use Rattle.lemmas.proofs.Permutations.{Within, put_first, within_permutation, permutation_cancel}
use Rattle.law_confluence.proofs.ActivityShapes.{fires_deed, gates_said, passes_said}
use Rattle.oracle.specs.Deeds.{Deed, Reads, Fills}
use Rattle.oracle.specs.declared.state.Gate.TheVariants.{Free, Defers, Clashes as GateClashes}
use Rattle.oracle.specs.Acting.{gate_of, held_in}

pub gate_defers : (cells : List (Option Value)) (d : Deed) → gate_of cells d ≡ Defers → (c : ℕ) × (n : ℕ) × (x : ℕ) × (d ≡ Reads c n x)
    × (held_in cells x ≡ None)
gate_defers cells (Reads c n x) h = (c, n, x, refl, go (held_in cells x) h)
  where
    go : (o : Option Value) → (if is_some o then Free else Defers) ≡ Defers → o ≡ None
    go None h = refl
    go (Some v) h = cc
gate_defers cells (Fills c n x a i v) h = absurd (go (is_some (held_in cells x)) h)
  where
    go : (b : Bool) → (if b then GateClashes a i else Free) ≡ Defers → ⊥
    go true h = cc
    go false h = cc
gate_defers cells d h = cc

pub gate_clashes : (cells : List (Option Value)) (d : Deed) (a i : ℕ) → gate_of cells d ≡ GateClashes a i
    → (c : ℕ) × (n : ℕ) × (x : ℕ) × (v : Value) × (w : Value) × (d ≡ Fills c n x a i v) × (held_in cells x ≡ Some w)
gate_clashes cells (Reads c n x) a i h = absurd (go (is_some (held_in cells x)) h)
  where
    go : (b : Bool) → (if b then Free else Defers) ≡ GateClashes a i → ⊥
    go true h = cc
    go false h = cc
gate_clashes cells (Fills c n x b j v) a i h = go (held_in cells x) refl h
  where
    Goal : Type 0
    Goal = (c' : ℕ) × (n' : ℕ) × (x' : ℕ) × (v' : Value) × (w : Value) × (Fills c n x b j v ≡ Fills c' n' x' a i v') × (held_in cells x' ≡ Some w)

    go : (o : Option Value) → held_in cells x ≡ o → (if is_some o then GateClashes b j else Free) ≡ GateClashes a i → Goal
    go None e h = cc
    go (Some w) e h =
        let arrays : b ≡ a = cc in
        let indexes : j ≡ i = cc in
        (c, n, x, v, w, ap (λ b. Fills c n x b j v) arrays ∙ ap (λ j. Fills c n x a j v) indexes, e)
gate_clashes cells d a i h = cc

-- only a fetch reads
reading : (fl : Flow) (a : Activity) (c : Context) (n x : ℕ) → deed fl a ≡ Some (Meaning.Reads c n x) → (vs : List Value) × (a ≡ Meaning.Fires c n vs)
reading fl (Meaning.Fires d m vs) c n x e =
    let P : List Value → Meaning.Deed → Type 0 = λ vs d'. d' ≡ Meaning.Reads c n x → (ws : List Value) × (Meaning.Fires d m vs ≡ Meaning.Fires c n ws) in
    fires_deed fl d m P (λ vs msg h. cc) (λ vs x' h. (vs, cc)) (λ i w x' h. cc) vs (Meaning.Reads c n x) e refl
reading fl (Meaning.Gates d m w b) c n x e = let s = gates_said fl d m w b (Meaning.Reads c n x) e in let h = s.1 in cc
reading fl (Meaning.Passes d m i w) c n x e = let s = passes_said fl d m i w (Meaning.Reads c n x) e in let h = s.1 in cc
reading fl (Meaning.Returns d m j w) c n x e = cc
reading fl (Meaning.Turns d m i j b w) c n x e = cc
reading fl (Meaning.Outputs j w) c n x e = cc

same_one : (t u : Tagged) (ws : List Tagged) → IsPermutation (t ∷ ws) (u ∷ ws) → t ≡ u
same_one t u ws p =
    let turned : IsPermutation (ws ++ t ∷ []) (ws ++ u ∷ []) = IsPermutation-trans _ _ _ (IsPermutation-append_comm ws (t ∷ []))
    (IsPermutation-trans _ _ _ p (IsPermutation-append_comm (u ∷ []) ws)) in
    let one = permutation_cancel ws (t ∷ []) (u ∷ []) turned in
    only (within_permutation t (t ∷ []) (u ∷ []) one ([], put_first t []))
  where
    only : Within t (u ∷ []) → t ≡ u
    only (zs, inl p) = p.0
    only (zs, inr p) = absurd p.2

-- a fetch takes one token
pub fetch_of : (fl : Flow) (a : Activity) (c : Context) (n x : ℕ) (t : Tagged) (ws : List Tagged) → deed fl a ≡ Some (Meaning.Reads c n x)
    → IsPermutation (t ∷ ws) (taken a ++ ws)
    → (v : Value) × (t ≡ tagged c (AtNode n) (Meaning.Operand 0) v) × (deed fl (Meaning.Fires c n (v ∷ [])) ≡ Some (Meaning.Reads c n x))
fetch_of fl a c n x t ws e p =
    let r = reading fl a c n x e in
    let q : IsPermutation (t ∷ ws) (operands_from c (AtNode n) 0 r.0 ++ ws) = subst (λ a. IsPermutation (t ∷ ws) (taken a ++ ws)) r.1 p in
    go r.0 (subst (λ a. deed fl a ≡ Some (Meaning.Reads c n x)) r.1 e) q
  where
    go : (vs : List Value) → deed fl (Meaning.Fires c n vs) ≡ Some (Meaning.Reads c n x) → IsPermutation (t ∷ ws) (operands_from c (AtNode n) 0 vs ++ ws)
        → (v : Value) × (t ≡ tagged c (AtNode n) (Meaning.Operand 0) v) × (deed fl (Meaning.Fires c n (v ∷ [])) ≡ Some (Meaning.Reads c n x))
    go [] e p = let long = length_permutation (t ∷ ws) ws p in absurd (omega (arith, long))
    go (v ∷ []) e p = (v, same_one t (tagged c (AtNode n) (Meaning.Operand 0) v) ws p, e)
    go (v ∷ w ∷ vs) e p =
        let long = length_permutation (t ∷ ws) (operands_from c (AtNode n) 0 (v ∷ w ∷ vs) ++ ws) p in
        let whole = length-append (operands_from c (AtNode n) 2 vs) ws in
        absurd (omega (arith, long, whole))
