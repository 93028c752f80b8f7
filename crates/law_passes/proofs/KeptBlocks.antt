-- The blocks of the folded plan that still has its slots.
use Rattle.std.proofs.Common.{◌≡◌, refl, ℕ, zero, suc, List, [], ◌∷◌, Some}
use Rattle.std.specs.Prelude.{map, slice_get}
use Rattle.semantics.specs.Program.{CodeBlock}
use Rattle.semantics.specs.Plan.{Plan}
use Rattle.law_passes.specs.Kept.{kept_block}

-- each block of it is one
pub kept_back : (p : Plan) (cs : List CodeBlock) (b : ℕ) (e : CodeBlock) → slice_get (map (kept_block p) cs) b ≡ Some e
    → (c : CodeBlock) × (slice_get cs b ≡ Some c) × (kept_block p c ≡ e)
kept_back p [] b e at = absurd (cc)
kept_back p (c ∷ cs) zero e at = let s : kept_block p c ≡ e = cc in (c, refl, s)
kept_back p (c ∷ cs) (suc b) e at = kept_back p cs b e at
