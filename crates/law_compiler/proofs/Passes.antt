-- The passes one after another.
use Rattle.std.proofs.Common.{◌≡◌, refl, ℕ, zero, suc, List, [], ◌∷◌, map}
use Rattle.std.specs.Prelude.{slice_get}
use Rattle.semantics.specs.Program.{CodeBlock}
use Rattle.semantics.specs.Plan.{Plan}
use Rattle.semantics.specs.Orderly.{inputs_in, inputs_of}
use Rattle.folding.specs.Folded.{folded, folded_block}
use Rattle.folding.proofs.SoundPlans.{still_sound}
use Rattle.folding.proofs.LoopsStay.{keeps_arrays, still_has_bounds}
use Rattle.law_fresh_frames.proofs.FreshReady.{ready_stays}
use Rattle.law_passes.proofs.NarrowKeeps.{narrowed_code_is_faithful}
use Rattle.law_compiler.specs.Passes.{FoldedIsReady, PassesSuffice}
use Rattle.law_compiler.proofs.PassesFoldedTidy.{folded_is_tidy}

-- a block with as many inputs
pub inputs_kept : (f : CodeBlock → CodeBlock) → ((c : CodeBlock) → (f c).inputs ≡ c.inputs) → (cs : List CodeBlock) (b : ℕ)
    → inputs_in (slice_get (map f cs) b) ≡ inputs_in (slice_get cs b)
inputs_kept f same [] b = refl
inputs_kept f same (c ∷ cs) zero = same c
inputs_kept f same (c ∷ cs) (suc b) = inputs_kept f same cs b

folded_inputs : (p : Plan) → inputs_of (folded p) ≡ inputs_of p
folded_inputs p = inputs_kept (folded_block p) (λ c. refl) p.program.blocks p.program.main

pub folded_is_ready : FoldedIsReady
folded_is_ready fl p keeps r =
    ready_stays fl p (folded p) keeps (still_sound p r.sound) (folded_is_tidy p r.sound r.tidy) (keeps_arrays p) (still_has_bounds fl p r.faithful.bounds)
    (folded_inputs p) r

pub passes_suffice : PassesSuffice
passes_suffice fl p slots keeps r good = narrowed_code_is_faithful fl (folded p) slots (folded_is_ready fl p keeps r) good
