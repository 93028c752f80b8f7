use Rattle.std.proofs.Common.{◌∙◌, sym, ap, subst, ℕ, ◌≡◌, ◌+◌, ◌*◌, ◌%◌, ◌<◌, length, map, drop, Some, arith}
use Rattle.std.proofs.Math.Nat.{mod-lt}
use Rattle.semantics.specs.Report.{sum_below, waiters}
use Rattle.element.specs.Holding.{held_of}
use Rattle.schedule.specs.Reported.{credits_below, slot_of_lane}
use Rattle.schedule.proofs.Memory.{raw_placed, lane_count}
use Rattle.schedule.proofs.Sums.{sum_next, credits_there}
use Rattle.schedule.proofs.elements.Elements.credits.Goals as goal

pub credits_in-count-requires-clause-frame : goal.credits_in-count-requires-clause-frame
credits_in-count-requires-clause-frame g c =
    let m = c.args.self.now in
    let x = c.index-lane.result.now in
    let below = mod-lt c.loop-frame.frame c.requires.setting.some in
    let placed = raw_placed g.C.Instructions.program g.C.Instructions.width m (c.loop-frame.frame % m.shape.elements) x c.requires below c.index-lane.ensures in
    let size : x.held.part.shape.elements * x.held.part.shape.frames ≡ m.shape.elements * m.shape.frames = ap
    (λ (n : ℕ). n * x.held.part.shape.frames) placed.elements ∙ ap (λ (n : ℕ). m.shape.elements * n) placed.frames in
    subst (λ (n : ℕ). c.loop-frame.frame < n) (sym size) c.loop-frame-test.true

pub credits_in-count-requires-clause-width : goal.credits_in-count-requires-clause-width
credits_in-count-requires-clause-width g c =
    let m = c.args.self.now in
    let below = mod-lt c.loop-frame.frame c.requires.setting.some in
    let placed = raw_placed g.C.Instructions.program g.C.Instructions.width m (c.loop-frame.frame % m.shape.elements) c.index-lane.result.now
    c.requires below c.index-lane.ensures in
    let width = placed.width in
    let slots = c.slots-width.ensures.exact in
    omega arith

pub loop-frame-preserved : goal.loop-frame-preserved
loop-frame-preserved g c =
    let m = c.args.self.now in
    let f = c.loop-frame.frame in
    let w = g.C.Instructions.width m.shape.code.now in
    let lanes = map held_of m.lanes.items in
    let below = mod-lt f c.requires.setting.some in
    let count = lane_count m.lanes.items (drop m.arrived m.sent.items) m.shape.elements c.requires.count in
    let low : f % m.shape.elements < length m.lanes.items = omega arith in
    let exact = c.credits_in-count.ensures.exact
    ∙ ap (λ (k : ℕ). sum_below k (λ r. waiters (slot_of_lane f r (Some (held_of c.index-lane.result.now))))) c.slots-width.ensures.exact
    ∙ credits_there m.lanes.items m.shape.elements w f c.index-lane.result.now low c.index-lane.ensures in
    let few = c.credits_in-count.ensures.few in
    let most = c.slots-width.ensures.few in
    let so_far = c.loop-frame.invariant.few in
    record {
      count = ap (λ (k : ℕ). k + c.credits_in-count.result) c.loop-frame.invariant.count
          ∙ ap (λ (k : ℕ). sum_below f (λ x. credits_below m.shape.elements lanes w x) + k) exact
          ∙ sym (sum_next f (λ x. credits_below m.shape.elements lanes w x));
      few = omega arith;
    }
