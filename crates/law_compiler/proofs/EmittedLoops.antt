-- The loops of emitted code open with the bounds that those of its plan open with.
use Rattle.std.proofs.Common.{◌≡◌, ℕ, zero, suc, List, [], ◌∷◌, ◌++◌, length, refl, sym, ap, ◌∙◌, subst, arith, Some}
use Rattle.std.specs.Prelude.{flat_map, slice_get, IsPermutation}
use Rattle.semantics.specs.Program.{Instr, CodeBlock}
use Rattle.semantics.specs.Sharing.{placed_instrs}
use Rattle.semantics.specs.Placed.{needed, placed_blocks}
use Rattle.semantics.specs.Cause.{opened_by, open_bounds, loop_bounds}
use Rattle.semantics.specs.Versions.{version_number}
use Rattle.select.specs.Emitted.{emitted_instrs, emitted_block, emitted_blocks}
use Rattle.law_compiler.specs.EmittedLoops.{EmittedHasBounds, EmittedKeepsArrays}

abbrev opens : List Instr → List ℕ
opens is = flat_map (λ (i : Instr). opened_by i.op) is

instrs_open : (version : ℕ) (ss : List ℕ) (is : List Instr) → opens (emitted_instrs version (placed_instrs ss is)) ≡ opens is
instrs_open version ss [] = refl
instrs_open version ss (i ∷ is) = ap (λ xs. opened_by i.op ++ xs) (instrs_open version ss is)

-- the blocks of the code, with these slots
abbrev blocks_out : ℕ → List (List ℕ) → List CodeBlock → List CodeBlock
blocks_out version slots cs = emitted_blocks version (placed_blocks slots cs)

as_many_blocks : (version : ℕ) (slots : List (List ℕ)) (cs : List CodeBlock) → length slots ≡ length cs → length (blocks_out version slots cs) ≡ length cs
as_many_blocks version [] [] e = refl
as_many_blocks version [] (c ∷ cs) e = absurd (omega (arith, e))
as_many_blocks version (ss ∷ more) [] e = absurd (omega (arith, e))
as_many_blocks version (ss ∷ more) (c ∷ cs) e = ap (λ n. suc n) (as_many_blocks version more cs (omega (arith, e)))

-- each block of the code is that of one of the plan, and opens the same
pub block_behind : (version : ℕ) (slots : List (List ℕ)) (cs : List CodeBlock) (b : ℕ) (d : CodeBlock) → slice_get (blocks_out version slots cs) b ≡ Some d
    → (c : CodeBlock) × (slice_get cs b ≡ Some c) × (open_bounds c ≡ open_bounds d)
block_behind version [] cs b d at = absurd (cc)
block_behind version (ss ∷ more) [] b d at = absurd (cc)
block_behind version (ss ∷ more) (c ∷ cs) zero d at =
    let same : emitted_block version (record c { slots = needed ss; instrs = placed_instrs ss c.instrs }) ≡ d = cc in
    (c, refl, sym (instrs_open version ss c.instrs) ∙ ap open_bounds same)
block_behind version (ss ∷ more) (c ∷ cs) (suc b) d at = block_behind version more cs b d at

pub emitted_bounds : EmittedHasBounds
emitted_bounds fl version p slots many h = (
  as_many_blocks (version_number version) slots p.program.blocks many ∙ h.0,
  λ b d g at named. let o = block_behind (version_number version) slots p.program.blocks b d at in
      subst (λ xs. IsPermutation xs (loop_bounds g)) o.2 (h.1 b o.0 g o.1 named),
)

pub emitted_arrays : EmittedKeepsArrays
emitted_arrays version p slots = refl
