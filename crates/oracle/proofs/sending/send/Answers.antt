use Rattle.std.proofs.Common.{sym, subst}
use Rattle.oracle.specs.Sending.{AreOrdered}
use Rattle.oracle.proofs.sending.send.Goals as goal

pub send_to_later-requires-clause-ordered : goal.send_to_later-requires-clause-ordered
send_to_later-requires-clause-ordered g c =
    subst (AreOrdered c.block.inside.inputs) (sym c.deref.ensures.value) (subst (λ b. AreOrdered b.1.inputs b.1.nodes) (sym c.block.view_is) c.requires.ordered)
