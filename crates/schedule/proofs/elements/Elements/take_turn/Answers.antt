use Rattle.std.proofs.Common.{◌≡◌, sym, subst, ℕ, ◌<◌, [], Some, arith}
use Rattle.schedule.specs.State.{State, state_of}
use Rattle.schedule.specs.Steps.{Steps}
use Rattle.schedule.specs.Turns.{TakesTurn}
use Rattle.schedule.proofs.Playing.{logged_none}
use Rattle.schedule.proofs.Turning.{none_keeps, may_keep, others_take}
use Rattle.schedule.proofs.elements.Elements.take_turn.Goals as goal

pub returns-then-element-ne0-clause-exact : goal.returns-then-element-ne0-clause-exact
returns-then-element-ne0-clause-exact g c =
    let old = state_of g.C.Instructions.program g.C.Instructions.width c.args.self.now in
    let e = c.args.element in
    let x = c.advance.ensures.exact in
    let other = c.if-element-ne0.true in
    let some : 0 < e = omega arith in
    (Some 0, x.0, (x.1, may_keep old e 0 x.1.answer (others_take old e some)), x.2)

pub returns-clause-exact : goal.returns-clause-exact
returns-clause-exact g c =
    let old = state_of g.C.Instructions.program g.C.Instructions.width c.args.self.now in
    let new = state_of g.C.Instructions.program g.C.Instructions.width c.settle.new.self in
    let answer = c.refused-refused.result in
    let step = subst (λ (s : State). Steps s 0 0 answer new []) c.settle.ensures.same (c.refused-refused.ensures.exact 0) in
    let first : c.args.element ≡ 0 = (let other = c.if-element-ne0.false in omega arith) in (
      Some 0,
      [],
      subst (λ (e : ℕ). TakesTurn old e (Some 0) new [] c.halts.result) (sym first)
          (record { answer = answer; step = step; halts = c.halts.ensures }, none_keeps old 0 0 answer c.refused-refused.ensures.none),
      logged_none g.L.Log.KEEPS_EVENTS c.args.log.now.events.items,
    )
