use Rattle.std.proofs.Common.{◌≡◌, ◌<◌, [], ◌∷◌, ◌++◌, length, Option, arith, sym, ap, ◌∙◌}
use Rattle.std.specs.Prelude.{Some, None, slice_get, option_map}
use Rattle.lemmas.proofs.Lists.{taken_next}
use Rattle.semantics.specs.Program.{Instr}
use Rattle.object_view.specs.declared.object.BlockView.{BlockView}
use Rattle.object_view.specs.declared.instr.CodeInstr.{CodeInstr}
use Rattle.object_view.specs.Reading.{shown}
use Rattle.object_view.proofs.Taken.{all, outside}
use Rattle.object_view.proofs.taking.instrs_of.Goals as goal

pub returns-in_default : goal.returns-in_default
returns-in_default g c = λ k b at.
    let count : c.args.block.now.instrs ≡ length b.instrs = ap (λ (v : BlockView). v.instrs) at.1 in
    let less : c.loop-number.number < length b.instrs = omega (arith, count, c.loop-number-test.true) in
    let is : slice_get b.instrs c.loop-number.number ≡ None = sym (c.instr_in.ensures k b at less) ∙ ap (λ (o : Option CodeInstr). option_map shown o)
    c.in_default.is in
    outside c.loop-number.number b.instrs c.loop-number.instrs.items is (c.loop-number.invariant k b at)

pub loop-number-preserved : goal.loop-number-preserved
loop-number-preserved g c = λ k b at.
    let count : c.args.block.now.instrs ≡ length b.instrs = ap (λ (v : BlockView). v.instrs) at.1 in
    let less : c.loop-number.number < length b.instrs = omega (arith, count, c.loop-number-test.true) in
    let is : slice_get b.instrs c.loop-number.number ≡ Some (shown c.in-Some.instr) = sym (c.instr_in.ensures k b at less)
    ∙ ap (λ (o : Option CodeInstr). option_map shown o) c.in-Some.is in
    let made = c.in_ok-push.ensures.items ∙ ap (λ (i : Instr). c.loop-number.instrs.items ++ i ∷ []) c.in_ok-instr_of.ensures in
    taken_next c.loop-number.number b.instrs c.loop-number.instrs.items c.push.new.self.items (shown c.in-Some.instr) is (c.loop-number.invariant k b at) made

pub returns : goal.returns
returns g c = λ k b at.
    let count : c.args.block.now.instrs ≡ length b.instrs = ap (λ (v : BlockView). v.instrs) at.1 in
    all c.loop-number.number b.instrs c.loop-number.instrs.items (omega (arith, c.loop-number-test.false, count)) (c.loop-number.invariant k b at)
