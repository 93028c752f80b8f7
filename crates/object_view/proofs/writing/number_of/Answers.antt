use Rattle.std.proofs.Common.{◌+◌, ◌-◌, ◌/◌, arith, sym, ◌∙◌}
use Rattle.std.proofs.Common.{length, zero-add}
use mir.Val.{to_z, of_z}
use mir.Syntax.{w64}
use Rattle.object_view.proofs.Numbers.{number_most, number_stops, number_goes}
use Rattle.object_view.proofs.writing.number_of.Goals as goal

pub loop-low-init : goal.loop-low-init
loop-low-init c = record {
  least = omega arith;
  most = rw (← zero-add (length c.args.literals.now)) (number_most 0 _ c.args.literals.now);
  inside =
      omega arith;
}

pub loop-low-preserved-then-is_below : goal.loop-low-preserved-then-is_below
loop-low-preserved-then-is_below c =
    let l = c.loop-low in
    let h = c.is_below.ensures in
    let m = number_goes 0 (to_z w64 (of_z w64 c.args.literal)) c.args.literals.now (l.low + (l.high - l.low) / 2) (to_z w64 (of_z w64 c.args.literal))
    c.requires.ascend (omega arith) (sym h ∙ c.if-is_below.true) in
    record { least = omega (arith, m); most = l.invariant.most; inside = l.invariant.inside }

pub loop-low-preserved : goal.loop-low-preserved
loop-low-preserved c =
    let l = c.loop-low in
    let h = c.is_below.ensures in
    let m = number_stops 0 (to_z w64 (of_z w64 c.args.literal)) c.args.literals.now (l.low + (l.high - l.low) / 2)
    (to_z w64 (of_z w64 c.args.literal)) (omega arith) (sym h ∙ c.if-is_below.false) in
    record { least = l.invariant.least; most = omega (arith, m); inside = omega arith }
