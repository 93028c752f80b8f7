use Rattle.std.proofs.Common.{◌≡◌, ◌+◌, ◌-◌, ◌∙◌, ℕ, suc, List, length, ap, sym, arith, take, drop, map}
use Rattle.command_line.specs.Words.{Text}
use Rattle.command_line.specs.Files.{all_given, given_of, word_given}
use Rattle.command_line.specs.declared.Command.{Command}
use Rattle.command_line.specs.declared.given.Given.{Given}
use Rattle.command_line.specs.declared.given.Walk.{Walk}
use Rattle.command_line.specs.declared.given.Walked.{Walked}
use Rattle.command_line.proofs.Walks.{none_after, rest_after, word_at}
use Rattle.command_line.proofs.Givens.{at_end, word_of}
use Rattle.command_line.proofs.given.given_after.Goals as goal

pub returns-in-Done : goal.returns-in-Done
returns-in-Done g c =
    word_of g.S.AsStr.text c.args.words.now c.loop-i.i c.index-words-i.result c.loop-i-test.true c.index-words-i.is c.args.command c.loop-i.walk
    c.as_str.result.now (Walked.Done c.in-Done.given) _ (sym c.as_str.ensures) (sym c.in-Done.is ∙ c.word_given.ensures) c.loop-i.invariant

pub loop-i-preserved : goal.loop-i-preserved
loop-i-preserved g c =
    let next : c.loop-i.i + 1 ≡ suc c.loop-i.i = omega arith in
    ap (λ (n : ℕ). given_of c.args.command c.in-On.on (drop n (map g.S.AsStr.text c.args.words.now))) next
    ∙ word_of g.S.AsStr.text c.args.words.now c.loop-i.i c.index-words-i.result c.loop-i-test.true c.index-words-i.is c.args.command c.loop-i.walk
    c.as_str.result.now (Walked.On c.in-On.on) _ (sym c.as_str.ensures) (sym c.in-On.is ∙ c.word_given.ensures) c.loop-i.invariant

pub returns : goal.returns
returns g c =
    c.all_given.ensures ∙ sym (at_end c.args.command c.loop-i.walk)
    ∙ ap (given_of c.args.command c.loop-i.walk) (sym (none_after g.S.AsStr.text c.args.words.now c.loop-i.i c.loop-i-test.false))
    ∙ c.loop-i.invariant
