use Rattle.std.proofs.Common.{◌≡◌, ◌∙◌, sym, ap, subst, false, ℕ, [], ◌++◌}
use Rattle.schedule.specs.State.{State, state_of}
use Rattle.schedule.specs.Runs.{Plays, rounds_of}
use Rattle.schedule.proofs.Playing.{logged_none}
use Rattle.schedule.proofs.OneLane.{leads_on, leads_last, unlisted}
use Rattle.schedule.proofs.elements.Elements.play_alone.Goals as goal

pub returns-in-None-clause-exact : goal.returns-in-None-clause-exact
returns-in-None-clause-exact g c =
    let n = c.args.self.now.shape.elements in
    let settled = state_of g.C.Instructions.program g.C.Instructions.width c.args.self.now in
    let next = state_of g.C.Instructions.program g.C.Instructions.width c.run_alone-stepped.new.self in
    let last = state_of g.C.Instructions.program g.C.Instructions.width c.play_passes-in-None.new.self in
    let halt = c.play_passes-in-None.result in
    let x = c.run_alone-stepped.ensures.exact in
    let rest = c.play_passes-in-None.ensures.exact in
    let one = c.requires.one in
    let elements : c.run_alone-stepped.new.self.shape.elements ≡ 1 = ap (λ z. z.elements) c.run_alone-stepped.ensures.shape
    ∙ one in
    let plays = subst (λ (k : ℕ). Plays false (rounds_of rest.0 k) next last halt rest.1) elements rest.2 in
    let all = leads_on settled x.1 next x.0 x.3 x.2
    (record { answer = c.run_alone-stepped.result; step = x.4; halts = c.in-None.ensures }) rest.0 last halt rest.1 plays in (
      all.0,
      (x.0 ++ x.3) ++ rest.1,
      subst (λ (k : ℕ). Plays false (rounds_of all.0 k) (state_of g.C.Instructions.program g.C.Instructions.width c.args.self.now) last halt
          ((x.0 ++ x.3) ++ rest.1)) (sym one)
          all.1,
      unlisted g.L.Log.KEEPS_EVENTS c.args.log.now.events.items rest.1
          ((x.0 ++ x.3) ++ rest.1) c.play_passes-in-None.new.log.events.items c.requires.quiet rest.3,
    )

pub returns-in-Some-clause-exact : goal.returns-in-Some-clause-exact
returns-in-Some-clause-exact g c =
    let settled = state_of g.C.Instructions.program g.C.Instructions.width c.args.self.now in
    let next = state_of g.C.Instructions.program g.C.Instructions.width c.run_alone-stepped.new.self in
    let halt = c.in-Some.halt in
    let x = c.run_alone-stepped.ensures.exact in
    let before = c.args.log.now.events.items in
    let all = leads_last settled x.1 next x.0 x.3 halt x.2 (record { answer = c.run_alone-stepped.result; step = x.4; halts = c.in-Some.ensures }) in (
      all.0,
      x.0 ++ x.3,
      subst (λ (k : ℕ). Plays false (rounds_of all.0 k) (state_of g.C.Instructions.program g.C.Instructions.width c.args.self.now) next halt (x.0 ++ x.3))
          (sym c.requires.one)
          all.1,
      unlisted g.L.Log.KEEPS_EVENTS before [] (x.0 ++ x.3) before c.requires.quiet (logged_none g.L.Log.KEEPS_EVENTS before),
    )
