use Rattle.std.proofs.Common.{◌∙◌, ◌-◌, ◌<◌, ap, length, arith}
use Rattle.std.proofs.lemmas.Option.{slice_get-get_or}
use Rattle.desugar.proofs.Backward.{none_flagged, next_flagged, all_flagged, length_flags}
use Rattle.desugar.proofs.flagging.flags.Goals as goal

pub loop-index-init : goal.loop-index-init
loop-index-init g c = none_flagged c.args.words.now (length c.args.words.now) _ _ (omega arith) c.new-flags.ensures.items c.in_ok-look.ensures

pub loop-index-preserved : goal.loop-index-preserved
loop-index-preserved g c =
    let ws = c.args.words.now in
    let j = c.loop-index.index - 1 in
    let inside : j < length ws = omega (arith, c.loop-index.invariant.in_range, c.loop-index-test.true) in
    next_flagged ws _ j _ _ _ _ _ _ _ (omega (arith, c.loop-index-test.true)) inside (slice_get-get_or ws j _ inside) c.word_before.ensures c.flag.ensures
    c.in_ok-push.ensures.items c.in_ok-before.ensures c.loop-index.invariant

pub returns-clause-flags : goal.returns-clause-flags
returns-clause-flags g c = c.reverse.ensures.items ∙ all_flagged c.args.words.now _ _ _ (omega (arith, c.loop-index-test.false)) c.loop-index.invariant

pub returns-clause-len : goal.returns-clause-len
returns-clause-len g c =
    let ws = c.args.words.now in
    let flags = c.reverse.ensures.items ∙ all_flagged ws _ _ _ (omega (arith, c.loop-index-test.false)) c.loop-index.invariant in
    ap (λ fs. length fs) flags ∙ length_flags _ ws
