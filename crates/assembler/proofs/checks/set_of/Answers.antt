use Rattle.std.proofs.Common.{◌≡◌, ◌∙◌, ℤ, pos, ◌<◌, length, get_or, rules}
use mir.Val.{to_z, of_z}
use mir.Syntax.{w64}
use Rattle.std.proofs.lemmas.List.{get_or_default}
use Rattle.std.proofs.lemmas.Grind.{common_steps}
use Rattle.std.proofs.Common.{arith}
use Rattle.assembler.proofs.Sets.{empty_filled, one_more, all_filled}
use Rattle.assembler.proofs.checks.set_of.Goals as goal

pub loop-literal-init : goal.loop-literal-init
loop-literal-init g c = empty_filled c.new-literals.result c.args.table.now c.new-literals.ensures.empty

pub loop-literal-preserved : goal.loop-literal-preserved
loop-literal-preserved g c =
    let read : ℤ = get_or c.args.table.now c.loop-literal.literal-index (pos 0) in
    let x : ℤ = to_z w64 (of_z w64 read) in
    let low : c.loop-literal.literal-index < length c.args.table.now = grind (arith, common_steps) in
    let same : x ≡ read = search rules in
    let is : x ≡ get_or c.args.table.now c.loop-literal.literal-index x = same ∙ get_or_default c.args.table.now c.loop-literal.literal-index (pos 0) x low in
    one_more c.loop-literal.literals c.insert.new.self x c.args.table.now c.args.table.now c.loop-literal.literal-index low is c.in_ok-insert.ensures.updates
    c.loop-literal.invariant

pub returns : goal.returns
returns g c = all_filled c.loop-literal.literals c.args.table.now c.args.table.now c.loop-literal.literal-index c.loop-literal-test.false c.loop-literal.invariant
