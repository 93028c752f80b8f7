use Rattle.std.proofs.Common.{arith}
use Rattle.replay.proofs.Serving.{given, queued}
use Rattle.replay.proofs.state.State.at_manager.Goals as goal

pub returns-then-self-clause-does_as : goal.returns-then-self-clause-does_as
returns-then-self-clause-does_as g c p s n made holds near token happens = given p c.args.self.now s holds near c.args.cont made n token.word c.if-self.true
    happens

pub returns-clause-does_as : goal.returns-clause-does_as
returns-clause-does_as g c p s n made holds near token happens =
    let none = c.if-self.false in
    queued p c.args.self.now s holds near c.args.cont c.in-Some.requests made n token.word (omega (arith, none)) c.in-Some.ensures.1 happens
