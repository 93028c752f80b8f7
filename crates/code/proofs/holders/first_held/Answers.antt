use Rattle.std.proofs.Common.{◌∙◌, ap, refl, sym, Some}
use Rattle.semantics.specs.Program.{Instr}
use Rattle.code.specs.Holders.{holding}
use Rattle.code.proofs.FirstHeld.{found, none, passed}
use Rattle.code.proofs.holders.first_held.Goals as goal

pub loop-instr-init : goal.loop-instr-init
loop-instr-init g c = refl

pub loop-instr-preserved : goal.loop-instr-preserved
loop-instr-preserved g c =
    sym (passed c.args.instrs.now c.args.number c.loop-instr.instr-index c.instr-item.result c.loop-instr-test.true c.instr-item.is
    c.if-has_holder.ensures) ∙ c.loop-instr.invariant

pub returns-then-has_holder : goal.returns-then-has_holder
returns-then-has_holder g c =
    ap Some c.of.ensures ∙ ap (λ (i : Instr). Some (holding i.op)) c.instr.view_is
    ∙ sym (found c.args.instrs.now c.args.number c.loop-instr.instr-index c.instr-item.result c.loop-instr-test.true c.instr-item.is c.if-has_holder.ensures)
    ∙ c.loop-instr.invariant

pub returns : goal.returns
returns g c = sym (none c.args.instrs.now c.args.number c.loop-instr.instr-index c.loop-instr-test.false) ∙ c.loop-instr.invariant
