use Rattle.std.proofs.Common.{◌∙◌, ap, sym, subst, refl, Ok, Some, None, []}
use Rattle.frame_manager.specs.Answered.{ReleaseIsEvent}
use Rattle.frame_manager.proofs.ManagerLemmas.{seen, one_is_out, freed_invariant, empty_queue}
use Rattle.frame_manager.proofs.Events.{release_is_event}
use Rattle.frame_manager.proofs.Manager.release.Goals as goal

pub overflow_sub-self : goal.overflow_sub-self
overflow_sub-self g c = one_is_out c.self.inside.frames c.args.frame c.self.inside.out (sym c.is_out.ensures ∙ c.if-not-is_out.false) c.self.invariant.1

pub invariant_of-self-in-None : goal.invariant_of-self-in-None
invariant_of-self-in-None g c =
    freed_invariant c.self.inside.frames c.free.new.self c.args.frame c.self.inside.out (sym c.is_out.ensures ∙ c.if-not-is_out.false)
    c.self.invariant.1 c.self.invariant.0 c.free.ensures

pub returns-in-Some-clause-event : goal.returns-in-Some-clause-event
returns-in-Some-clause-event g c =
    let old = seen c.self.inside.frames c.self.inside.waiting.items in
    let new = seen c.self.inside.frames c.pop_front.new.self.items in
    subst (λ m. ReleaseIsEvent m c.args.frame (Ok (Some (c.in-Some.cont, c.args.frame))) new) c.self.view_is
    (release_is_event old c.args.frame (Ok (Some (c.in-Some.cont, c.args.frame))) new (
      sym c.is_out.ensures
          ∙ c.if-not-is_out.false,
      refl,
      c.in-Some.ensures.items,
      refl,
    ))

pub returns-in-None-clause-event : goal.returns-in-None-clause-event
returns-in-None-clause-event g c =
    let none = empty_queue c.self.inside.waiting.items c.pop_front.new.self.items c.in-None.ensures.items c.in-None.ensures.rest in
    let old = seen c.self.inside.frames c.self.inside.waiting.items in
    let new = seen c.free.new.self c.pop_front.new.self.items in
    subst (λ m. ReleaseIsEvent m c.args.frame (Ok None) new) c.self.view_is
    (release_is_event old c.args.frame (Ok None) new (
      sym c.is_out.ensures ∙ c.if-not-is_out.false,
      none,
      ap (λ cs. seen c.free.new.self cs)
          (sym c.in-None.ensures.items ∙ none) ∙ ap (λ flags. seen flags []) c.free.ensures,
    ))
