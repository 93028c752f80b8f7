use Rattle.std.proofs.Common.{sym, subst, map}
use Rattle.tags.specs.declared.token.Token.{Token}
use Rattle.element.specs.Holding.{fixed_of}
use Rattle.schedule.specs.State.{IsNearIn}
use Rattle.schedule.proofs.delivery.receive.Goals as goal

pub receive_packed-requires-clause-near : goal.receive_packed-requires-clause-near
receive_packed-requires-clause-near g c =
    subst (λ (t : Token). IsNearIn (map fixed_of c.args.lanes.now.items) t) (sym c.pack.ensures) c.requires.near
