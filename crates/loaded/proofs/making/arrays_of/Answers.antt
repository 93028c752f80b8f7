use Rattle.std.proofs.Common.{◌≡◌, ◌+◌, sym, ◌∙◌, arith, ◌≤◌}
use Rattle.std.specs.Prelude.{Some, slice_get}
use Rattle.lemmas.proofs.Alls.{at_all}
use Rattle.lemmas.proofs.Lists.{taken_next}
use Rattle.loaded.specs.Ready.{arrays_in}
use Rattle.loaded.proofs.Tables.{parsed_array, all_arrays, sum_next}
use Rattle.loaded.proofs.Short.{few_so_far}
use Rattle.loaded.proofs.making.arrays_of.Goals as goal

pub overflow_cast-len : goal.overflow_cast-len
overflow_cast-len g c =
    let few = at_all (λ n. (1 ≤ n) × (n ≤ 65536)) c.args.object.now.code.program.arrays c.bytes-bytes.ensures.object.1.arrays c.loop-number.number
    c.in-Some.len (sym c.array.ensures ∙ c.in-Some.is) in
    omega (arith, few.1)

pub overflow_cast-base : goal.overflow_cast-base
overflow_cast-base g c =
    let few = at_all (λ n. (1 ≤ n) × (n ≤ 65536)) c.args.object.now.code.program.arrays c.bytes-bytes.ensures.object.1.arrays c.loop-number.number
    c.in-Some.len (sym c.array.ensures ∙ c.in-Some.is) in
    omega (arith, few.1)

pub overflow_add-base : goal.overflow_add-base
overflow_add-base g c =
    let o = c.args.object.now in
    let next = sum_next o.code.program.arrays c.loop-number.number c.in-Some.len (sym c.array.ensures ∙ c.in-Some.is) in
    let few = few_so_far o.version o.code (c.loop-number.number + 1) c.bytes-bytes.ensures.object.1 in
    let base = c.loop-number.invariant.1 in
    omega arith

pub loop-number-preserved : goal.loop-number-preserved
loop-number-preserved g c =
    let p = c.args.object.now.code.program in
    let is : slice_get p.arrays c.loop-number.number ≡ Some c.in-Some.len = sym c.array.ensures ∙ c.in-Some.is in
    let next = sum_next p.arrays c.loop-number.number c.in-Some.len is in
    let base = c.loop-number.invariant.1 in (
      taken_next c.loop-number.number (arrays_in 0 p.arrays) c.loop-number.arrays.items c.push.new.self.items
          (record { base = c.loop-number.base; len = c.in-Some.len })
          (parsed_array p c.loop-number.base c.loop-number.number c.in-Some.len is base) c.loop-number.invariant.0 c.in_ok-push.ensures.items,
      omega arith,
    )

pub returns : goal.returns
returns g c = all_arrays c.args.object.now.code.program.arrays c.loop-number.number c.loop-number.arrays.items c.loop-number.invariant.0
    (omega (arith, c.loop-number-test.false, c.array_count-number-end.ensures))
