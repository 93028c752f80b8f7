use Rattle.std.proofs.Common.{◌≡◌, arith, refl, sym, ◌∙◌}
use Rattle.std.specs.Prelude.{Some, slice_get}
use Rattle.std.proofs.lemmas.Result.{err_from_is_err_and}
use Rattle.disassembler.specs.Listing.{array_line}
use Rattle.sink.proofs.Sent.{sends_from, sends_other}
use Rattle.sink.proofs.Numbered.{more, stop, done, outside}
use Rattle.disassembler.proofs.listing.list_arrays.Goals as goal

pub returns-in_default : goal.returns-in_default
returns-in_default g c = outside array_line c.loop-number.number c.args.object.now.code.program.arrays _ tt _ _ refl (sym c.array.ensures
    ∙ c.in_default.is) c.loop-number.invariant

pub returns-in_err-list_array : goal.returns-in_err-list_array
returns-in_err-list_array g c =
    let p = err_from_is_err_and c.from_residual.result c.from_residual.ensures.1 in
    let is : slice_get c.args.object.now.code.program.arrays c.loop-number.number ≡ Some c.in-Some.length = sym c.array.ensures ∙ c.in-Some.is in
    rw p.1 (stop array_line c.loop-number.number c.args.object.now.code.program.arrays c.in-Some.length p.0 _ _ _ is c.loop-number.invariant
    (sends_other c.in_err-list_array.field-0.0 p.0 _ _ _ c.in_err-list_array.ensures))

pub loop-number-preserved : goal.loop-number-preserved
loop-number-preserved g c =
    let is : slice_get c.args.object.now.code.program.arrays c.loop-number.number ≡ Some c.in-Some.length = sym c.array.ensures ∙ c.in-Some.is in
    more array_line c.loop-number.number c.args.object.now.code.program.arrays c.in-Some.length _ _ _ is c.loop-number.invariant
    (sends_from _ _ _ _ c.in_ok-list_array.was c.list_array.ensures)

pub returns : goal.returns
returns g c = done array_line c.loop-number.number c.args.object.now.code.program.arrays _ tt _ _ refl
    (omega (arith, c.loop-number-test.false, c.array_count-number-end.ensures)) c.loop-number.invariant
