use Rattle.std.proofs.Common.{◌≡◌, ◌<◌, length, Option, arith, refl, sym, ap, ◌∙◌}
use Rattle.std.specs.Prelude.{Some, None, slice_get, option_map}
use Rattle.std.proofs.lemmas.Result.{err_from_is_err_and}
use Rattle.object_view.specs.declared.object.BlockView.{BlockView}
use Rattle.object_view.specs.declared.instr.CodeInstr.{CodeInstr}
use Rattle.object_view.specs.Reading.{shown}
use Rattle.disassembler.specs.Listing.{instr_line}
use Rattle.sink.proofs.Sent.{sends_from, sends_other}
use Rattle.sink.proofs.Numbered.{more, stop, done, outside}
use Rattle.disassembler.proofs.listing.list_instrs.Goals as goal

pub returns-in_default : goal.returns-in_default
returns-in_default g c = λ k b at.
    let count : c.args.block.now.instrs ≡ length b.instrs = ap (λ (v : BlockView). v.instrs) at.1 in
    let less : c.loop-number.number < length b.instrs = omega (arith, count, c.loop-number-test.true) in
    let is : slice_get b.instrs c.loop-number.number ≡ None = sym (c.instr_in.ensures k b at less) ∙ ap (λ (o : Option CodeInstr). option_map shown o)
    c.in_default.is in
    outside instr_line c.loop-number.number b.instrs _ tt _ _ refl is (c.loop-number.invariant k b at)

pub returns-in_err-list_instr : goal.returns-in_err-list_instr
returns-in_err-list_instr g c = λ k b at.
    let p = err_from_is_err_and c.from_residual.result c.from_residual.ensures.1 in
    let count : c.args.block.now.instrs ≡ length b.instrs = ap (λ (v : BlockView). v.instrs) at.1 in
    let less : c.loop-number.number < length b.instrs = omega (arith, count, c.loop-number-test.true) in
    let is : slice_get b.instrs c.loop-number.number ≡ Some (shown c.in-Some.instr) = sym (c.instr_in.ensures k b at less)
    ∙ ap (λ (o : Option CodeInstr). option_map shown o) c.in-Some.is in
    rw p.1 (stop instr_line c.loop-number.number b.instrs (shown c.in-Some.instr) p.0 _ _ _ is (c.loop-number.invariant k b at)
    (sends_other c.in_err-list_instr.field-0.0 p.0 _ _ _ c.in_err-list_instr.ensures))

pub loop-number-preserved : goal.loop-number-preserved
loop-number-preserved g c = λ k b at.
    let count : c.args.block.now.instrs ≡ length b.instrs = ap (λ (v : BlockView). v.instrs) at.1 in
    let less : c.loop-number.number < length b.instrs = omega (arith, count, c.loop-number-test.true) in
    let is : slice_get b.instrs c.loop-number.number ≡ Some (shown c.in-Some.instr) = sym (c.instr_in.ensures k b at less)
    ∙ ap (λ (o : Option CodeInstr). option_map shown o) c.in-Some.is in
    more instr_line c.loop-number.number b.instrs (shown c.in-Some.instr) _ _ _ is (c.loop-number.invariant k b at)
    (sends_from _ _ _ _ c.in_ok-list_instr.was c.list_instr.ensures)

pub returns : goal.returns
returns g c = λ k b at.
    let count : c.args.block.now.instrs ≡ length b.instrs = ap (λ (v : BlockView). v.instrs) at.1 in
    done instr_line c.loop-number.number b.instrs _ tt _ _ refl (omega (arith, c.loop-number-test.false, count)) (c.loop-number.invariant k b at)
