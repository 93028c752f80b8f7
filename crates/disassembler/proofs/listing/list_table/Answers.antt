use Rattle.std.proofs.Common.{◌≡◌, arith, refl, sym, ◌∙◌}
use Rattle.std.specs.Prelude.{Some, slice_get}
use Rattle.std.proofs.lemmas.Result.{err_from_is_err_and}
use Rattle.std.proofs.lemmas.Int.{to_z-of_z}
use mir.Val.{to_z, of_z}
use mir.Syntax.{w64}
use Rattle.disassembler.specs.Listing.{literal_line}
use Rattle.sink.proofs.Sent.{sends_from, sends_other}
use Rattle.sink.proofs.Numbered.{more, stop, done, outside}
use Rattle.disassembler.proofs.listing.list_table.Goals as goal

pub returns-in_default : goal.returns-in_default
returns-in_default g c = outside literal_line c.loop-number.number c.args.object.now.code.literals _ tt _ _ refl (sym c.literal.ensures
    ∙ c.in_default.is) c.loop-number.invariant

pub returns-in_err-list_literal : goal.returns-in_err-list_literal
returns-in_err-list_literal g c =
    let p = err_from_is_err_and c.from_residual.result c.from_residual.ensures.1 in
    let is : slice_get c.args.object.now.code.literals c.loop-number.number ≡ Some (to_z w64 (of_z w64 c.in-Some.literal)) = grind
    (arith, to_z-of_z, c.literal.ensures, c.in-Some.is) in
    rw p.1 (stop literal_line c.loop-number.number c.args.object.now.code.literals (to_z w64 (of_z w64 c.in-Some.literal)) p.0 _ _ _ is
    c.loop-number.invariant (sends_other c.in_err-list_literal.field-0.0 p.0 _ _ _ c.in_err-list_literal.ensures))

pub loop-number-preserved : goal.loop-number-preserved
loop-number-preserved g c =
    let is : slice_get c.args.object.now.code.literals c.loop-number.number ≡ Some (to_z w64 (of_z w64 c.in-Some.literal)) = grind
    (arith, to_z-of_z, c.literal.ensures, c.in-Some.is) in
    more literal_line c.loop-number.number c.args.object.now.code.literals (to_z w64 (of_z w64 c.in-Some.literal)) _ _ _ is c.loop-number.invariant
    (sends_from _ _ _ _ c.in_ok-list_literal.was c.list_literal.ensures)

pub returns : goal.returns
returns g c = done literal_line c.loop-number.number c.args.object.now.code.literals _ tt _ _ refl
    (omega (arith, c.loop-number-test.false, c.literal_count-number-end.ensures)) c.loop-number.invariant
