use Rattle.std.proofs.Common.{refl, inl, inr}
use Rattle.machine.proofs.free.why.Goals as goal

pub returns-in-Some : goal.returns-in-Some
returns-in-Some g c = (c.is_lost.ensures c.if-is_lost.false, inl c.in-Some.ensures.least)

pub returns-then-is_rested : goal.returns-then-is_rested
returns-then-is_rested g c = (c.is_lost.ensures c.if-is_lost.false, inr (c.is_rested.ensures c.if-is_rested.true, c.in-None.ensures.none, refl))
