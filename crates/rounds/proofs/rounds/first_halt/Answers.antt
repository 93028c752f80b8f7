use Rattle.std.proofs.Common.{arith}
use Rattle.std.proofs.lemmas.List.{length-map}
use Rattle.rounds.specs.Rounds.{halt_in}
use Rattle.rounds.proofs.Rounding.{halt_at, none_more}
use Rattle.rounds.proofs.rounds.first_halt.Goals as goal

pub returns-in-Some-clause-first : goal.returns-in-Some-clause-first
returns-in-Some-clause-first g c = (
  c.loop-at.at,
  halt_at c.args.turners.now c.loop-at.at _ c.in-Some.halt c.loop-at-test.true c.in-Some.is,
  c.loop-at.invariant,
)

pub loop-at-preserved : goal.loop-at-preserved
loop-at-preserved g c = none_more c.args.turners.now c.loop-at.at _ c.loop-at-test.true c.in_default.is c.loop-at.invariant

pub returns-clause-none : goal.returns-clause-none
returns-clause-none g c = λ e low.
    let past = c.loop-at-test.false in
    let count = length-map c.args.turners.now halt_in in
    c.loop-at.invariant e (omega (arith, low, past, count))
