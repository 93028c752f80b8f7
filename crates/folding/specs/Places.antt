-- Where the instructions of a block are once literals are left out, and the numbers of the holders that are left.
use Rattle.std.specs.Prelude.{ℕ, ◌+◌, Bool, true, false, List, ◌∷◌, replicate, slice_set, slice_index_or, if◌then◌else◌, []}
use Rattle.semantics.specs.Program.{Instr, CodeBlock}
use Rattle.semantics.specs.Plan.{Plan}
use Rattle.folding.specs.declared.folds.Fold.{Fold}
use Rattle.folding.specs.Folds.{folds_of, fold_at, is_folded, gone_from}

-- `folds`: what each instruction takes from the code. `gone`: which ones are left out. `freed`: which holders have no
-- instruction any more. `places` and `holders`: the new places of instructions, and the new numbers of holders.
pub record Layout : Type 0 where
  pub folds : List Fold
  pub gone : List Bool
  pub freed : List Bool
  pub places : List ℕ
  pub holders : List ℕ

-- the numbers of items of which some are left out, from a first number on; what is left out has that of the next one
abbrev pub numbers_from : ℕ → List Bool → List ℕ
numbers_from at [] = []
numbers_from at (g ∷ gs) = at ∷ numbers_from (if g then at else at + 1) gs

abbrev pub remaining_of : List Bool → ℕ
remaining_of [] = 0
remaining_of (g ∷ gs) = if g then remaining_of gs else remaining_of gs + 1

-- the holders of the folded ones of the instructions from the n-th on
abbrev pub freed_from : List Fold → List Bool → ℕ → List Instr → List Bool
freed_from fs hs n [] = hs
freed_from fs hs n (i ∷ is) = freed_from fs (if is_folded (fold_at fs n) then slice_set hs i.slot true else hs) (n + 1) is

abbrev pub freed_in : List Fold → CodeBlock → List Bool
freed_in fs c = freed_from fs (replicate c.slots false) 0 c.instrs

abbrev pub layout_with : List Fold → CodeBlock → Layout
layout_with fs c = record {
  folds = fs;
  gone = gone_from fs 0 c.instrs;
  freed = freed_in fs c;
  places = numbers_from 0 (gone_from fs 0 c.instrs);
  holders = numbers_from 0 (freed_in fs c);
}

abbrev pub layout_of : Plan → CodeBlock → Layout
layout_of p c = layout_with (folds_of p c) c

-- the new place of an instruction; a place after the block stays
abbrev pub new_place : Layout → ℕ → ℕ
new_place l n = slice_index_or l.places n n

abbrev pub new_holder : Layout → ℕ → ℕ
new_holder l h = slice_index_or l.holders h h

abbrev pub gone_at : Layout → ℕ → Bool
gone_at l n = slice_index_or l.gone n false

-- what the n-th instruction takes from the code
abbrev pub folds_at : Layout → ℕ → Fold
folds_at l n = fold_at l.folds n
