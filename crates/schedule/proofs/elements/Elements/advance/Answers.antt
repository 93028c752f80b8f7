use Rattle.std.proofs.Common.{◌∙◌, subst, []}
use Rattle.schedule.specs.State.{State, state_of}
use Rattle.schedule.specs.Steps.{Steps}
use Rattle.schedule.proofs.Playing.{logged_none}
use Rattle.schedule.proofs.elements.Elements.advance.Goals as goal

pub returns-then-not-is_ready-clause-exact : goal.returns-then-not-is_ready-clause-exact
returns-then-not-is_ready-clause-exact g c =
    let ready = state_of g.C.Instructions.program g.C.Instructions.width c.is_ready.new.self in (
      [],
      record {
        answer = c.refused-refused.result;
        step = subst (λ (s : State). Steps s c.args.element c.args.pick c.refused-refused.result ready []) c.is_ready.ensures.same
            (c.refused-refused.ensures.exact c.args.pick);
        halts = c.halts.ensures;
      },
      c.is_ready.ensures.events ∙ logged_none g.L.Log.KEEPS_EVENTS c.args.log.now.events.items,
    )
