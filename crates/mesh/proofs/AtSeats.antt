-- The steps on a box, for a seat as a clause sees it.
use Rattle.std.proofs.Common.{◌≡◌, ℕ, ◌+◌, ◌*◌, ◌<◌, List, [], ◌∷◌, ◌++◌, ap, sym, ◌∙◌, subst, Option, Some, None}
use Rattle.std.specs.List.Sorted.{IsPermutation}
use mathlib.Core.Option.{none}
use Rattle.atomic_table.specs.Table.{Me, step, Allows}
use Rattle.tags.specs.declared.token.Token.{Token}
use Rattle.mesh.specs.declared.view.Stage.TheVariants.{Idle, Posting, Taking}
use Rattle.mesh.specs.declared.view.Part.{Part}
use Rattle.mesh.specs.declared.view.View.{View}
use Rattle.mesh.specs.Deeds.{Bundle}
use Rattle.mesh.specs.Rule.{Preserved, Sits}
use Rattle.mesh.specs.Plays.{looked_to, looked_from, gave, gave_back}
use Rattle.mesh.specs.Seats.{AllTo}
use Rattle.mesh.proofs.BoxSteps.{looks_to, looks_from, gives_full, gives_empty}

module _ {B : Type 0} (items : B → List Token) (n : ℕ) (start : List Token) (slots id e : ℕ) (me : Me (Option B) View) (p : Part) (deep : slots ≡ 256)
    (sits : Sits me.0) (one : me.0.parts ≡ p ∷ []) (el : p.element ≡ e) where
  abbrev word : ℕ → ℕ → ℕ
  word a b = 16 * a + b

  pub looks_to_at : (bundle : Bundle) (b : ℕ) → me.1 ≡ [] → p.stage ≡ Idle → b < n → Allows (Preserved items n start) slots id me (16 * e + b)
      (λ x. x) (looked_to bundle (step slots (16 * e + b) 0 0 none) me)
  looks_to_at bundle b bare idle lb = subst (λ (z : ℕ × List (ℕ × Option B) × ℕ). Allows (Preserved items n start) z.0 id (me.0, z.1) (16 * z.2 + b)
      (λ x. x) (looked_to bundle (step z.0 (16 * z.2 + b) 0 0 none) (me.0, z.1)))
      (λ i. (sym deep i, sym bare i, el i)) (looks_to items n start bundle id b me.0 p one sits idle lb)

  pub gives_full_at : (b : ℕ) (x : B) (kept : List Token) → me.1 ≡ (16 * e + b, Some x) ∷ [] → p.stage ≡ Posting b → b < n
      → AllTo me.0.elements b (items x) → IsPermutation p.held (items x ++ kept)
      → Allows (Preserved items n start) slots id me (16 * e + b) (λ _. 1) (λ _. gave items (step slots (16 * e + b) 1 0 none) me 1)
  gives_full_at b x kept carried stage lb to perm =
      let carried' : me.1 ≡ (16 * p.element + b, Some x) ∷ [] = carried ∙ ap (λ (z : ℕ). (16 * z + b, Some x) ∷ []) (sym el) in
      subst (λ (z : ℕ × List (ℕ × Option B) × ℕ). Allows (Preserved items n start) z.0 id (me.0, z.1) (16 * z.2 + b) (λ _. 1)
      (λ _. gave items (step z.0 (16 * z.2 + b) 1 0 none) (me.0, z.1) 1))
      (λ i. (sym deep i, sym carried' i, el i)) (gives_full items n start id b me.0 p x kept to one sits stage lb perm)

  pub looks_from_at : (a : ℕ) → me.1 ≡ [] → p.stage ≡ Idle → a < n → Allows (Preserved items n start) slots id me (16 * a + e) (λ x. x)
      (looked_from items (step slots (16 * a + e) 0 0 none) me)
  looks_from_at a bare idle la = subst (λ (z : ℕ × List (ℕ × Option B) × ℕ). Allows (Preserved items n start) z.0 id (me.0, z.1) (16 * a + z.2)
      (λ x. x) (looked_from items (step z.0 (16 * a + z.2) 0 0 none) (me.0, z.1)))
      (λ i. (sym deep i, sym bare i, el i)) (looks_from items n start id a me.0 p one sits idle la)

  pub gives_empty_at : (a : ℕ) (y : Bundle) → me.1 ≡ (16 * a + e, None) ∷ [] → p.stage ≡ Taking a y → a < n
      → Allows (Preserved items n start) slots id me (16 * a + e) (λ _. 0) (λ _. gave_back (step slots (16 * a + e) 0 0 none) me 0)
  gives_empty_at a y carried stage la =
      let carried' : me.1 ≡ (16 * a + p.element, None) ∷ [] = carried ∙ ap (λ (z : ℕ). (16 * a + z, None) ∷ []) (sym el) in
      subst (λ (z : ℕ × List (ℕ × Option B) × ℕ). Allows (Preserved items n start) z.0 id (me.0, z.1) (16 * a + z.2) (λ _. 0)
      (λ _. gave_back (step z.0 (16 * a + z.2) 0 0 none) (me.0, z.1) 0))
      (λ i. (sym deep i, sym carried' i, el i)) (gives_empty items n start id a me.0 p y one sits stage la)

-- the value of the slot that was taken last
abbrev pub second : {S : Type 0} → S → List (ℕ × S) → S
second d [] = d
second d (x ∷ xs) = x.1
