use Rattle.std.proofs.Common.{arith}
use Rattle.replay.proofs.Serving.{handed_on, freed, is_out}
use Rattle.replay.proofs.state.State.at_release.Goals as goal

pub returns-in-Some-clause-does_as : goal.returns-in-Some-clause-does_as
returns-in-Some-clause-does_as g c p s n made holds near token happens =
    let left = c.in-Some.ensures in
    handed_on p c.args.self.now s holds near c.args.frame c.in-Some.requests made n (omega (arith, left.0, left.1)) happens

pub returns-in_default-checked_sub-clause-does_as : goal.returns-in_default-checked_sub-clause-does_as
returns-in_default-checked_sub-clause-does_as g c p s n made holds near token happens =
    let some = is_out p c.args.self.now s holds near c.args.frame made n happens in
    let none = c.in_default-checked_sub.ensures in
    omega (arith, some, none)

pub returns-clause-does_as : goal.returns-clause-does_as
returns-clause-does_as g c p s n made holds near token happens =
    let none = c.in_default.ensures in
    let left = c.in-Some-checked_sub.ensures in
    freed p c.args.self.now s holds near c.args.frame c.in-Some-checked_sub.frames_out made n (omega (arith, none)) (omega (arith, left.0, left.1)) happens
