use Rattle.std.proofs.Common.{refl, ap, ◌∙◌}
use Rattle.element.specs.Holding.{Holding, held_in, taken}
use Rattle.element.specs.Changed.{filled}
use Rattle.element.proofs.Acting.{acts_none}
use Rattle.element.proofs.Changing.{host_changes}
use Rattle.element.proofs.contents.Contents.at_host.Goals as goal

pub returns-in-Ok : goal.returns-in-Ok
returns-in-Ok g c = λ p before sound.
    let old : Holding = held_in c.args.self.now in
    let changes = host_changes p old.part c.args.token c.args.port c.in-Ok.change sound.part c.requires.address c.requires.served c.in-Ok.ensures in
    acts_none p old old (held_in c.take.new.self) c.args.at c.args.token (filled old.part c.args.port c.in-Ok.change) before before refl refl changes
    (c.take.ensures.held ∙ ap (λ (h : Holding). taken h c.args.at) c.fill.ensures.held)
