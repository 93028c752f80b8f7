use Rattle.std.proofs.Common.{◌≡◌, ◌+◌, ◌∙◌, ℕ, suc, ap, sym, arith, drop, map}
use Rattle.command_line.specs.Words.{with_input, with_inputs}
use Rattle.command_line.proofs.Walks.{no_more, none_after, one_more, word_at}
use Rattle.command_line.proofs.with_inputs.Goals as goal

pub loop-word-preserved : goal.loop-word-preserved
loop-word-preserved g c =
    let next : c.loop-word.word-index + 1 ≡ suc c.loop-word.word-index = omega arith in
    ap (λ (n : ℕ). with_inputs c.with-all.result (drop n (map g.S.AsStr.text c.args.words.now))) next
    ∙ one_more c.loop-word.all c.with-all.result _ _ _ _
    (word_at g.S.AsStr.text c.args.words.now c.loop-word.word-index c.word-item.result c.loop-word-test.true c.word-item.is)
    (c.with-all.ensures ∙ ap (with_input c.loop-word.all) c.as_str.ensures) c.loop-word.invariant

pub returns : goal.returns
returns g c =
    sym (no_more c.loop-word.all)
    ∙ ap (with_inputs c.loop-word.all) (sym (none_after g.S.AsStr.text c.args.words.now c.loop-word.word-index c.loop-word-test.false))
    ∙ c.loop-word.invariant
