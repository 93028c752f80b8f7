use Rattle.std.proofs.Common.{sym, ap, subst, ◌∙◌}
use Rattle.assembler.specs.declared.fault.AsmFault.{AsmFault}
use Rattle.assembler.specs.Assembling.{assembled, IsFirstFault}
use Rattle.assembler.proofs.assembling.assemble.Goals as goal

pub returns-in-Ok : goal.returns-in-Ok
returns-in-Ok g c = record { object = c.in-Ok.ensures.object; complete = c.in-Ok.ensures.complete; exact = c.in-Ok.ensures.exact }

pub returns-in-Err : goal.returns-in-Err
returns-in-Err g c = record {
  object = tt;
  complete = λ w d h k. ap (λ (f : AsmFault). f.kind) c.fault.ensures ∙ c.in-Err.ensures.complete w d h k;
  exact = subst (λ (f : AsmFault). IsFirstFault f (assembled c.args.text.now)) (sym c.fault.ensures) c.in-Err.ensures.exact;
}
