use Rattle.std.proofs.Common.{◌∙◌}
use Rattle.element.specs.Holding.{held_in}
use Rattle.element.specs.ByDepth.{whole}
use Rattle.element.proofs.Aside.{by_depth_more}
use Rattle.element.proofs.contents.Contents.makes_all.Goals as goal

pub turns-preserved : goal.turns-preserved
turns-preserved g c =
    let inv = c.turns.invariant in
    let now = c.makes_some.ensures in
    record {
      are = now.are;
      made = λ steps most.
          let first = inv.made steps most in
          let more = now.exact steps most in
          by_depth_more (g.C.Instructions.program c.args.code.now) steps first.0 more.0 (whole c.args.aside.now.items (held_in c.args.self.now))
          (whole c.turns.aside.items (held_in c.turns.self)) (whole c.makes_some.new.aside.items (held_in c.makes_some.new.self)) first.1 more.1;
      sent = now.sent ∙ inv.sent;
      shape = now.shape ∙ inv.shape;
      within = now.end;
      short = now.short;
      room = now.room;
      aside_room = now.aside_room;
    }

pub returns-clause-exact : goal.returns-clause-exact
returns-clause-exact g c = λ steps most.
    let first = c.turns.invariant.made steps most in
    let more = c.makes_some.ensures.exact steps most in
    by_depth_more (g.C.Instructions.program c.args.code.now) steps first.0 more.0 (whole c.args.aside.now.items (held_in c.args.self.now))
    (whole c.turns.aside.items (held_in c.turns.self)) (whole c.makes_some.new.aside.items (held_in c.makes_some.new.self)) first.1 more.1
