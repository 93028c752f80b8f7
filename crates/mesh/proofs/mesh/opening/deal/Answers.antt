use Rattle.std.proofs.Common.{rules, ◌≡◌, ◌<◌, ap, ◌∙◌, arith}
use Rattle.mesh.specs.declared.view.View.{View}
use Rattle.mesh.specs.Rule.{rest_view}
use Rattle.mesh.proofs.SeatSteps.{splits}
use Rattle.mesh.proofs.Seating.{fresh_step, length_more}
use Rattle.mesh.proofs.mesh.opening.deal.Goals as goal

pub split_seat-place-requires : goal.split_seat-place-requires
split_seat-place-requires g c = let inv = c.loop-element.invariant in let m = c.requires.maker in let v = inv.1 in
    let el : c.loop-element.maker.me.0.elements ≡ c.args.elements = ap (λ (u : View). u.elements) v ∙ m.0 in
    let sp : c.loop-element.maker.me.0.spare ≡ c.loop-element.element = ap (λ (u : View). u.spare) v in
    let below : c.loop-element.element < c.args.elements = search rules in (
      inv.0 ∙ c.requires.table.0,
      c.requires.table.1,
      splits g.B.Bundle.tokens _ _ _ c.loop-element.maker.me.0 (ap (λ (u : View). u.parts) v ∙ m.1)
          (omega arith) (omega arith),
    )

pub loop-element-preserved : goal.loop-element-preserved
loop-element-preserved g c = let inv = c.loop-element.invariant in let m = c.requires.maker in let v = inv.1 in let e = c.split_seat-place.ensures in
    let items = c.in_ok-push.ensures.items in (
      e.0 ∙ inv.0,
      ap (λ z. z.0) e.2 ∙ ap rest_view v,
      length_more c.loop-element.seats.items c.push.new.self.items _ c.loop-element.element items inv.2,
      fresh_step c.args.maker.now.table_id c.args.elements c.args.maker.now.me.0.start c.loop-element.seats.items c.push.new.self.items _ _
          c.loop-element.element c.loop-element.maker.me.0 items inv.2 inv.3
          (e.3 ∙ inv.0) (ap (λ z. z.0) e.4) (ap (λ (u : View). u.elements) v ∙ m.0) (ap (λ (u : View). u.start) v) (ap (λ (u : View). u.spare) v)
          (ap (λ (u : View). u.seen) v ∙ m.3),
    )
