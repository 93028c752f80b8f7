use Rattle.std.proofs.Common.{◌≡◌, ◌+◌, ◌-◌, ◌<◌, ◌≤◌, ℕ, suc, List, length, drop, true, false, sym, ap, ◌∙◌, arith}
use Rattle.std.specs.Prelude.{nat_lt}
use Rattle.std.proofs.lemmas.Bool.Decides.{nat_tests}
use Rattle.report_text.specs.ReportText.{named_by_number, place_in}
use Rattle.report_text.proofs.Numbers.{lies_in, lies_behind, lies_nowhere}
use Rattle.report_text.proofs.objects.place_in.Goals as goal

pub returns-then-from-len : goal.returns-then-from-len
returns-then-from-len c =
    let lt : c.loop-number.index < c.in-Some.len = omega (arith, c.if-from-len.true, c.from.ensures) in
    let is : nat_lt c.loop-number.index c.in-Some.len ≡ true = grind (arith, nat_tests) in
    lies_in c.args.object.now.code.program.arrays c.loop-number.number c.in-Some.len c.loop-number.index _ (sym c.array.ensures ∙ c.in-Some.is) is
    c.loop-number.invariant

pub loop-number-preserved : goal.loop-number-preserved
loop-number-preserved c =
    let le : c.in-Some.len ≤ c.loop-number.index = omega (arith, c.if-from-len.false, c.from.ensures) in
    let is : nat_lt c.loop-number.index c.in-Some.len ≡ false = grind (arith, nat_tests) in
    let next : c.loop-number.number + 1 ≡ suc c.loop-number.number = omega arith in
    let arrays : List ℕ = c.args.object.now.code.program.arrays in
    ap (λ (n : ℕ). place_in (named_by_number (c.loop-number.number + 1) (drop n arrays)) (c.loop-number.index - c.in-Some.len)) next
    ∙ lies_behind arrays c.loop-number.number c.in-Some.len c.loop-number.index _ (sym c.array.ensures ∙ c.in-Some.is) is c.loop-number.invariant

pub returns : goal.returns
returns c =
    let le : length c.args.object.now.code.program.arrays ≤ c.loop-number.number = omega (arith, c.loop-number-test.false, c.array_count-number-end.ensures) in
    lies_nowhere c.args.object.now.code.program.arrays c.loop-number.number c.loop-number.index _ le c.loop-number.invariant
