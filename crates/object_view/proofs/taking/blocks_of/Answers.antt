use Rattle.std.proofs.Common.{[], ◌∷◌, ◌++◌, sym, ap, ◌∙◌}
use Rattle.std.specs.Prelude.{slice_get}
use Rattle.lemmas.proofs.Lists.{taken_next}
use Rattle.lemmas.proofs.Options.{option_map_some}
use Rattle.semantics.specs.Program.{CodeBlock, first_of}
use Rattle.object_view.specs.Reading.{block_shown}
use Rattle.object_view.proofs.taking.blocks_of.Goals as goal

pub loop-number-preserved : goal.loop-number-preserved
loop-number-preserved g c =
    let q = c.args.object.now.code.program in
    let n = c.loop-number.number in
    let b = option_map_some (block_shown (first_of q n)) (slice_get q.blocks n) c.in-Some.block (sym c.block.ensures ∙ c.in-Some.is) in
    let made = c.in_ok-push.ensures.items ∙ ap (λ (y : CodeBlock). c.loop-number.blocks.items ++ y ∷ []) (c.in_ok-block_of.ensures n b.0 (b.1, b.2)) in
    taken_next n q.blocks c.loop-number.blocks.items c.push.new.self.items b.0 b.1 c.loop-number.invariant made
