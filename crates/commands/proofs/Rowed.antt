-- Rows, one after the other.
use Rattle.std.proofs.Common.{◌⊎◌, inl, inr}
use Rattle.std.proofs.Common.{◌≡◌, ℕ, suc, ◌+◌, ◌∷◌, [], ◌++◌, ℤ, Bool, true, false, List, refl, sym, ap, ◌∙◌, subst, append-nil, add-one, arith, ◌≤◌}
use Rattle.std.specs.Prelude.{if◌then◌else◌, Result, Ok, Err, MatchResult}
use Rattle.profile_text.specs.declared.lines.MachineRow.{MachineRow}
use Rattle.command_line.specs.declared.RunOptions.{RunOptions}
use Rattle.command_line.specs.declared.sizes.Sizes.{Sizes}
use Rattle.command_line.specs.Words.{has_size}
use Rattle.semantics.specs.Graph.{Graph}
use Rattle.driver.specs.declared.fault.Fault.{Fault}
use Rattle.driver.specs.Compiled.{IsTooLarge}
use Rattle.driver.specs.Refused.{IsGoodText}
use Rattle.driver.proofs.TextObjects.{too_large_to_run}
use Rattle.outcomes.specs.declared.refusal.Refusal.{Refusal}
use Rattle.commands.specs.Profiled.{AreRows, IsChosen, IsNoRow, IsRow, config_with, sizes_below}
use Rattle.commands.specs.Refusals.{refused_as}

with_row : (text : List ℕ) (inputs : List ℤ) (o : RunOptions) (ns : List ℕ) (rows : List MachineRow) (n : ℕ) (row : MachineRow)
    → AreRows text inputs o ns rows → IsRow text inputs o n row
    → AreRows text inputs o (ns ++ n ∷ []) (rows ++ row ∷ [])
with_row text inputs o [] [] n row so_far is = (is, tt)
with_row text inputs o (m ∷ ns) [] n row so_far is = absurd so_far
with_row text inputs o [] (x ∷ rows) n row so_far is = absurd so_far
with_row text inputs o (m ∷ ns) (x ∷ rows) n row so_far is = (so_far.0, with_row text inputs o ns rows n row so_far.1 is)

there : (z : Sizes) (n : ℕ) (has : Bool) → has ≡ has_size z n → has ≡ true → sizes_below z (suc n) ≡ sizes_below z n ++ n ∷ []
unfolding sizes_below
there z n has truth is = ap (λ (b : Bool). sizes_below z n ++ (if b then n ∷ [] else [])) (sym truth ∙ is)

absent : (z : Sizes) (n : ℕ) (has : Bool) → has ≡ has_size z n → has ≡ false → sizes_below z (suc n) ≡ sizes_below z n
unfolding sizes_below
absent z n has truth is = ap (λ (b : Bool). sizes_below z n ++ (if b then n ∷ [] else [])) (sym truth ∙ is) ∙ append-nil (sizes_below z n)

module _ (text : List ℕ) (inputs : List ℤ) (o : RunOptions) (z : Sizes) where
  pub no_rows : (rows : List MachineRow) → rows ≡ [] → AreRows text inputs o (sizes_below z 0) rows
  unfolding sizes_below
  no_rows rows none = subst (λ (l : List MachineRow). AreRows text inputs o [] l) (sym none) tt

  pub row_more : (n : ℕ) (rows all : List MachineRow) (row : MachineRow) (has : Bool) → has ≡ has_size z n → has ≡ true
      → AreRows text inputs o (sizes_below z n) rows → IsRow text inputs o n row
      → all ≡ rows ++ row ∷ [] → AreRows text inputs o (sizes_below z (n + 1)) all
  row_more n rows all row has truth has_it so_far is pushed =
      subst (λ (l : List MachineRow). AreRows text inputs o (sizes_below z (n + 1)) l) (sym pushed)
      (subst (λ (ns : List ℕ). AreRows text inputs o ns (rows ++ row ∷ []))
      (sym (ap (λ (m : ℕ). sizes_below z m) (add-one n) ∙ there z n has truth has_it)) (with_row text inputs o (sizes_below z n) rows n row so_far is))

  pub no_row_more : (n : ℕ) (rows all : List MachineRow) (has : Bool) → has ≡ has_size z n → has ≡ false → AreRows text inputs o (sizes_below z n)
      rows → all ≡ rows
      → AreRows text inputs o (sizes_below z (n + 1)) all
  no_row_more n rows all has truth has_none so_far same =
      subst (λ (l : List MachineRow). AreRows text inputs o (sizes_below z (n + 1)) l) (sym same)
      (subst (λ (ns : List ℕ). AreRows text inputs o ns rows) (sym (ap (λ (m : ℕ). sizes_below z m) (add-one n) ∙ absent z n has truth has_none)) so_far)

-- NO ROW
pub none_below : (z : Sizes) → sizes_below z 0 ≡ []
unfolding sizes_below
none_below z = refl

pub none_more : (z : Sizes) (n : ℕ) (has : Bool) → has ≡ has_size z n → has ≡ false → sizes_below z n ≡ [] → sizes_below z (n + 1) ≡ []
none_more z n has truth has_none none = ap (λ (m : ℕ). sizes_below z m) (add-one n) ∙ absent z n has truth has_none ∙ none

pub none_in_all : (z : Sizes) (n : ℕ) → 64 ≤ n → n ≤ 64 → sizes_below z n ≡ [] → sizes_below z 64 ≡ []
none_in_all z n enough few none = let e : 64 ≡ n = omega (arith, enough, few) in ap (λ (m : ℕ). sizes_below z m) e ∙ none

-- a row for each number of a set that has none
pub rows_of_none : (text : List ℕ) (inputs : List ℤ) (o : RunOptions) (z : Sizes) (rows : List MachineRow) → sizes_below z 64 ≡ [] → rows ≡ []
    → AreRows text inputs o (sizes_below z 64) rows
rows_of_none text inputs o z rows none empty =
    subst (λ (ns : List ℕ). AreRows text inputs o ns rows) (sym none) (subst (λ (l : List MachineRow). AreRows text inputs o [] l) (sym empty) tt)

-- a graph that has no object has no row of the first number
pub no_row_of : (text : List ℕ) (inputs : List ℤ) (o : RunOptions) (z : Sizes) (g : Graph) → IsGoodText text g → IsChosen z → (fault : Fault)
    → IsTooLarge g fault → (f : Refusal) → f ≡ refused_as fault → IsNoRow text inputs o z f
no_row_of text inputs o z g good chosen fault large f reported = record {
  elements = chosen.0;
  low = chosen.1;
  chosen = chosen.2;
  refused = (fault, too_large_to_run text g good inputs (config_with o chosen.0) fault large, reported);
  rows = [];
  earlier = subst (λ (ns : List ℕ). AreRows text inputs o ns []) (sym chosen.3) tt;
}

-- what lines have, where they are asked for
pub rows_in_lines : {V : Type 0} (result : Result V Refusal) (Lines : Type 0) → Lines → (Rows : V → Type 0) (NoRow : Refusal → Type 0)
    → MatchResult result Rows (λ f. (f ≡ Refusal.Memory) ⊎ NoRow f)
    → MatchResult result (λ v. Lines → Rows v) (λ f. (f ≡ Refusal.Memory) ⊎ (Lines × NoRow f))
rows_in_lines (Ok v) Lines asked Rows NoRow rows = λ _. rows
rows_in_lines (Err f) Lines asked Rows NoRow (inl memory) = inl memory
rows_in_lines (Err f) Lines asked Rows NoRow (inr none) = inr (asked, none)
