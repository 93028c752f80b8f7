use Rattle.std.proofs.Common.{ap, subst, arith, Ok, Some, None}
use Rattle.frame_manager.specs.Answered.{RequestIsEvent}
use Rattle.frame_manager.proofs.ManagerLemmas.{seen, fits_more, taken_invariant}
use Rattle.frame_manager.proofs.Events.{request_is_event}
use Rattle.frame_manager.proofs.Manager.request_within.Goals as goal

pub overflow_add-self : goal.overflow_add-self
overflow_add-self g c = omega (
  arith,
  fits_more c.self.inside.frames c.in-Some.frame c.self.inside.out c.in-Some.ensures.some c.self.invariant.1
      c.self.invariant.0,
)

pub invariant_of-self : goal.invariant_of-self
invariant_of-self g c = taken_invariant c.self.inside.frames c.take.new.self c.in-Some.frame c.self.inside.out c.in-Some.ensures.some
    c.self.invariant.1 c.self.invariant.0 c.take.ensures

pub returns-in-Some-clause-event : goal.returns-in-Some-clause-event
returns-in-Some-clause-event g c =
    let old = seen c.self.inside.frames c.self.inside.waiting.items in
    let new = seen c.take.new.self c.self.inside.waiting.items in
    subst (λ m. RequestIsEvent m c.args.cont (Ok (Some c.in-Some.frame)) new) c.self.view_is
    (request_is_event old c.args.cont (Ok (Some c.in-Some.frame)) new (
      c.in-Some.ensures.some,
      ap (λ flags. seen flags c.self.inside.waiting.items)
          c.take.ensures,
    ))

pub returns-else-len-capacity-clause-event : goal.returns-else-len-capacity-clause-event
returns-else-len-capacity-clause-event g c =
    let old = seen c.self.inside.frames c.self.inside.waiting.items in
    let new = seen c.self.inside.frames c.push_back_reserved.new.self.items in
    subst (λ m. RequestIsEvent m c.args.cont (Ok None) new) c.self.view_is
    (request_is_event old c.args.cont (Ok None) new (c.in-None.ensures.none, ap (seen c.self.inside.frames) c.push_back_reserved.ensures.items))
