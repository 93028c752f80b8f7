use Rattle.std.proofs.Common.{◌≡◌, ◌*◌, ◌≤◌, map}
use Rattle.semantics.specs.Report.{sum_below}
use Rattle.element.specs.Holding.{held_of}
use Rattle.schedule.specs.Reported.{credits_below}
use Rattle.schedule.proofs.elements.Elements.credits.Given as goal

abbrev pub invariant-loop-frame : goal.invariant-loop-frame
invariant-loop-frame g l = record {
  count : l.count ≡ sum_below l.frame (λ f. credits_below l.self.shape.elements (map held_of l.self.lanes.items)
      (g.C.Instructions.width l.self.shape.code.now) f);
  few : l.count ≤ l.frame * 512;
}
