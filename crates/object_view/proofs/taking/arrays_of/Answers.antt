use Rattle.std.proofs.Common.{◌≡◌, ◌≤◌, arith, sym, ◌∙◌}
use Rattle.std.specs.Prelude.{Some, slice_get}
use Rattle.lemmas.proofs.Alls.{at_all}
use Rattle.lemmas.proofs.Lists.{taken_next}
use Rattle.object_view.proofs.taking.arrays_of.Goals as goal

pub overflow_cast-len : goal.overflow_cast-len
overflow_cast-len g c =
    let is : slice_get c.args.object.now.code.program.arrays c.loop-number.number ≡ Some c.in-Some.len = sym c.array.ensures ∙ c.in-Some.is in
    let few = at_all (λ n. (1 ≤ n) × (n ≤ 65536)) c.args.object.now.code.program.arrays c.bytes-bytes.ensures.object.1.arrays c.loop-number.number
    c.in-Some.len is in
    omega (arith, few.1)

pub loop-number-preserved : goal.loop-number-preserved
loop-number-preserved g c =
    let is : slice_get c.args.object.now.code.program.arrays c.loop-number.number ≡ Some c.in-Some.len = sym c.array.ensures ∙ c.in-Some.is in
    taken_next c.loop-number.number c.args.object.now.code.program.arrays c.loop-number.arrays.items c.push.new.self.items c.in-Some.len is
    c.loop-number.invariant c.in_ok-push.ensures.items
