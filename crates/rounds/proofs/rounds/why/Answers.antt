use Rattle.std.proofs.Common.{refl, inl, inr}
use Rattle.rounds.proofs.rounds.why.Goals as goal

pub returns-in-Some : goal.returns-in-Some
returns-in-Some g c = inl c.in-Some.ensures.first

pub returns-then-is_idle : goal.returns-then-is_idle
returns-then-is_idle g c = inr (c.in-None.ensures.none, c.is_idle.ensures.yes c.if-is_idle.true, refl)

pub returns-else-is_idle : goal.returns-else-is_idle
returns-else-is_idle g c = (c.in-None.ensures.none, c.is_idle.ensures.no c.if-is_idle.false)
