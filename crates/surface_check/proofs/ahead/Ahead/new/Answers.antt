use Rattle.std.proofs.Common.{arith}
use Rattle.source.specs.declared.word.Word.TheVariants as core_word
use Rattle.surface.specs.declared.word.Word.TheVariants as word
use Rattle.surface_check.proofs.Dispatch.{ahead_before, closing_before}
use Rattle.surface_check.proofs.ahead.Ahead.new.Goals as goal

pub loop-index-preserved : goal.loop-index-preserved
loop-index-preserved g c =
    let words = c.args.words.now in
    let i = c.loop-index.index in
    let before = c.loop-index.invariant in (
      ahead_before words i (word.Core (core_word.Array 0 0)) c.loop-index.stricts.items c.push.new.self.items c.loop-index.closing c.first.result
          c.loop-index-test.true before.2 before.1 c.first.ensures before.0 c.in_ok-push.ensures.items,
      closing_before words i (word.Core (core_word.Array 0 0)) c.loop-index.closing c.step.new.self c.loop-index-test.true before.2 before.1 c.in_ok-step.ensures,
      omega (arith, before.2),
    )
