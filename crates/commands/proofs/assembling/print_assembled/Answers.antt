use Rattle.std.proofs.Common.{inl, inr, refl, subst}
use Rattle.commands.specs.Served.{Refuses}
use Rattle.outcomes.specs.declared.refusal.Refusal.{Refusal}
use Rattle.outcomes.specs.declared.outcome.Outcome.{Outcome}
use Rattle.commands.proofs.Served.{printed, stopped}
use Rattle.commands.proofs.assembling.print_assembled.Goals as goal

pub returns-in-Ok-write : goal.returns-in-Ok-write
returns-in-Ok-write g c =
    inl (
      _,
      c.in-Ok.assembled.code,
      c.in-Ok.ensures.object.0,
      c.in-Ok.ensures.object.1,
      c.in-Ok.ensures.exact,
      printed _ _ Outcome.Done _ _ _ _
          Outcome.Done refl refl c.in-Ok-write.ensures,
    )

pub returns-in-Ok : goal.returns-in-Ok
returns-in-Ok g c =
    inl (
      _,
      c.in-Ok.assembled.code,
      c.in-Ok.ensures.object.0,
      c.in-Ok.ensures.object.1,
      c.in-Ok.ensures.exact,
      stopped _ _ _ _ _ _ Outcome.Done refl
          c.in-Err-write.ensures,
    )

pub returns : goal.returns
returns g c =
    inr (
      c.in-Err.refusal,
      c.in-Err.ensures.exact,
      subst (λ (f : Refusal). Refuses c.refuse.result (g.W.Write.contents c.args.writer.now)
          (g.W.Write.contents c.refuse.new.writer) f) c.asm_refusal.ensures c.refuse.ensures,
    )
