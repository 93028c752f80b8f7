use Rattle.std.proofs.Common.{sym, subst}
use Rattle.tags.specs.declared.token.Token.{Token}
use Rattle.element.specs.Holding.{held_in}
use Rattle.element.specs.Acts.{CanAct, ActsAs}
use Rattle.element.proofs.contents.Contents.act_unpacked.Goals as goal

pub act_anywhere-requires : goal.act_anywhere-requires
act_anywhere-requires g c =
    subst (λ (t : Token). CanAct (g.C.Instructions.program c.args.code.now) (g.C.Instructions.width c.args.code.now) (held_in c.args.self.now)
    c.args.at t) (sym c.unpack-token.ensures) c.requires

pub returns : goal.returns
returns g c =
    subst (λ (t : Token). ActsAs (g.C.Instructions.program c.args.code.now) (held_in c.args.self.now) c.args.at t c.args.sent.now.items
    c.act_anywhere.result (held_in c.act_anywhere.new.self) c.act_anywhere.new.sent.items)
    c.unpack-token.ensures c.act_anywhere.ensures
