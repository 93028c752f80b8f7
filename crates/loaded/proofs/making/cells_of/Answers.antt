use Rattle.std.proofs.Common.{◌+◌, ◌≤◌, sym, ◌∙◌, arith}
use Rattle.loaded.proofs.Tables.{sum_next}
use Rattle.loaded.proofs.Short.{few_so_far}
use Rattle.lemmas.proofs.Alls.{at_all}
use Rattle.loaded.proofs.making.cells_of.Goals as goal

pub overflow_cast-cells : goal.overflow_cast-cells
overflow_cast-cells c =
    let few = at_all (λ n. (1 ≤ n) × (n ≤ 65536)) c.args.object.now.code.program.arrays c.bytes-bytes.ensures.object.1.arrays c.loop-number.number
    c.in-Some.len (sym c.array.ensures ∙ c.in-Some.is) in
    omega (arith, few.1)

pub overflow_add-cells : goal.overflow_add-cells
overflow_add-cells c =
    let o = c.args.object.now in
    let next = sum_next o.code.program.arrays c.loop-number.number c.in-Some.len (sym c.array.ensures ∙ c.in-Some.is) in
    let few = few_so_far o.version o.code (c.loop-number.number + 1) c.bytes-bytes.ensures.object.1 in
    let so = c.loop-number.invariant in
    omega arith

pub loop-number-preserved : goal.loop-number-preserved
loop-number-preserved c =
    let next = sum_next c.args.object.now.code.program.arrays c.loop-number.number c.in-Some.len (sym c.array.ensures ∙ c.in-Some.is) in
    let so = c.loop-number.invariant in
    omega arith
