use Rattle.std.proofs.Common.{◌<◌, arith}
use Rattle.element.specs.Requests.{held_back}
use Rattle.rounds.proofs.by_depth.grant.Goals as goal

pub returns-in-Ok-clause-did : goal.returns-in-Ok-clause-did
returns-in-Ok-clause-did g c =
    let did = c.in-Ok.ensures.did in
    let held = c.requires.held in
    let at = c.best_of-at.ensures in
    let low : c.best_of-at.result < held_back c.args.lane.now.held.queue = omega arith in
    (c.best_of-at.result, low, did.0, did.1)
