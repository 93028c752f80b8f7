use Rattle.std.proofs.Common.{◌≡◌, ◌+◌, ◌<◌, ◌≤◌, length, sym, ap, ◌∙◌, arith, rules}
use Rattle.std.specs.Prelude.{decimal}
use Rattle.report_text.proofs.Numbers.{named, unnamed}
use Rattle.report_text.proofs.objects.name_at.Goals as goal

pub returns-then-number-array_count : goal.returns-then-number-array_count
returns-then-number-array_count c =
    let digits : c.as_bytes.result.now ≡ decimal c.args.number = search rules in
    let lt : c.args.number < length c.args.object.now.code.program.arrays = omega (arith, c.if-number-array_count.true, c.array_count.ensures) in
    let same : c.args.number ≡ 0 + c.args.number = omega arith in
    digits ∙ ap decimal same ∙ sym (named c.args.object.now.code.program.arrays 0 c.args.number lt)

pub returns-else-number-array_count : goal.returns-else-number-array_count
returns-else-number-array_count c =
    let le : length c.args.object.now.code.program.arrays ≤ c.args.number = omega (arith, c.if-number-array_count.false, c.array_count.ensures) in
    sym (unnamed c.args.object.now.code.program.arrays 0 c.args.number le)
