use Rattle.std.proofs.Common.{◌≡◌, ◌+◌, ◌∙◌, ℕ, suc, ap, sym, arith, drop, map}
use Rattle.command_line.specs.Words.{after_end, asked_of, with_input, word_met}
use Rattle.command_line.specs.declared.options.Step.{Step}
use Rattle.command_line.proofs.Walks.{at_last, none_after, one_step, rest_after, told_by, word_at}
use Rattle.command_line.proofs.read_options.Goals as goal
use Rattle.command_line.proofs.read_options.Goals.{in-Next, in-Input}

pub returns-in-Help : goal.returns-in-Help
returns-in-Help g c =
    one_step c.args.command c.loop-i.collected c.loop-i.inputs c.loop-i.waiting _ _ _ Step.Help _
    (word_at g.S.AsStr.text c.args.words.now c.loop-i.i c.index-words-i.result c.loop-i-test.true c.index-words-i.is)
    (c.in-Help.ensures ∙ ap (word_met c.args.command c.loop-i.collected c.loop-i.waiting) c.as_str.ensures) c.loop-i.invariant

pub returns-in-End : goal.returns-in-End
returns-in-End g c =
    let next : c.loop-i.i + 1 ≡ suc c.loop-i.i = omega arith in
    c.after_end.ensures
    ∙ ap (after_end c.args.command c.loop-i.collected c.loop-i.inputs) (rest_after g.S.AsStr.text c.args.words.now (c.loop-i.i + 1)
    ∙ ap (λ (n : ℕ). drop n (map g.S.AsStr.text c.args.words.now)) next)
    ∙ one_step c.args.command c.loop-i.collected c.loop-i.inputs c.loop-i.waiting _ _ _ Step.End _
    (word_at g.S.AsStr.text c.args.words.now c.loop-i.i c.index-words-i.result c.loop-i-test.true c.index-words-i.is)
    (c.in-End.ensures ∙ ap (word_met c.args.command c.loop-i.collected c.loop-i.waiting) c.as_str.ensures) c.loop-i.invariant

pub returns-in-Mistake : goal.returns-in-Mistake
returns-in-Mistake g c =
    one_step c.args.command c.loop-i.collected c.loop-i.inputs c.loop-i.waiting _ _ _ Step.Mistake _
    (word_at g.S.AsStr.text c.args.words.now c.loop-i.i c.index-words-i.result c.loop-i-test.true c.index-words-i.is)
    (c.in-Mistake.ensures ∙ ap (word_met c.args.command c.loop-i.collected c.loop-i.waiting) c.as_str.ensures) c.loop-i.invariant

pub loop-i-preserved : goal.loop-i-preserved
loop-i-preserved g c =
    let next : c.loop-i.i + 1 ≡ suc c.loop-i.i = omega arith in
    elim c.match-word_met.branch [
      | in-Next w ↦
          told_by c.args.command _ _ _ _ _ _ _ _ _ w.collected-is w.inputs-is w.waiting-is (ap (λ (n : ℕ). drop n (map g.S.AsStr.text c.args.words.now)) next)
          (one_step c.args.command c.loop-i.collected c.loop-i.inputs c.loop-i.waiting _ _ _ (Step.Next w.in-Next.more w.in-Next.waits) _
          (word_at g.S.AsStr.text c.args.words.now c.loop-i.i c.index-words-i.result c.loop-i-test.true c.index-words-i.is)
          (w.in-Next.ensures ∙ ap (word_met c.args.command c.loop-i.collected c.loop-i.waiting) c.as_str.ensures) c.loop-i.invariant)
      | in-Input w ↦
          told_by c.args.command _ _ _ _ _ _ _ _ _ w.collected-is (w.inputs-is ∙ w.with-inputs.ensures
          ∙ ap (with_input c.loop-i.inputs) w.as_str-in-Input.ensures) w.waiting-is
          (ap (λ (n : ℕ). drop n (map g.S.AsStr.text c.args.words.now)) next)
          (one_step c.args.command c.loop-i.collected c.loop-i.inputs c.loop-i.waiting _ _ _ Step.Input _
          (word_at g.S.AsStr.text c.args.words.now c.loop-i.i c.index-words-i.result c.loop-i-test.true c.index-words-i.is)
          (w.in-Input.ensures ∙ ap (word_met c.args.command c.loop-i.collected c.loop-i.waiting) c.as_str.ensures) c.loop-i.invariant)
    ]

pub returns : goal.returns
returns g c =
    c.ended.ensures ∙ sym (at_last c.args.command c.loop-i.collected c.loop-i.inputs c.loop-i.waiting)
    ∙ ap (asked_of c.args.command c.loop-i.collected c.loop-i.inputs c.loop-i.waiting)
    (sym (none_after g.S.AsStr.text c.args.words.now c.loop-i.i (omega (arith, c.loop-i-test.false))))
    ∙ c.loop-i.invariant
