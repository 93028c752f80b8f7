use Rattle.std.proofs.Common.{sym, subst, arith}
use Rattle.element.specs.Holding.{Holding, held_in, IsSoundLane}
use Rattle.element.specs.ByDepth.{MakesByDepth, whole}
use Rattle.element.proofs.Aside.{whole_none, none_aside}
use Rattle.element.proofs.contents.Contents.make_by_depth.Goals as goal

pub makes_all-requires-clause-are : goal.makes_all-requires-clause-are
makes_all-requires-clause-are g c =
    none_aside (g.C.Instructions.program c.args.code.now) c.args.aside.now.items (held_in c.args.self.now) c.requires.none c.requires.sound

pub returns-clause-exact : goal.returns-clause-exact
returns-clause-exact g c = λ steps most.
    let p = g.C.Instructions.program c.args.code.now in
    let gone = c.gone.ensures in
    let all = c.makes_all.ensures.exact steps (omega arith) in (
      all.0,
      subst (λ (h : Holding). MakesByDepth p steps all.0 (held_in c.args.self.now) h) (sym c.put_back.ensures.whole)
          (subst (λ (h : Holding). MakesByDepth p steps all.0 h (whole c.makes_all.new.aside.items (held_in c.makes_all.new.self)))
          (whole_none c.args.aside.now.items (held_in c.args.self.now) c.requires.none) all.1),
    )

pub returns-clause-sound : goal.returns-clause-sound
returns-clause-sound g c =
    subst (λ (h : Holding). IsSoundLane (g.C.Instructions.program c.args.code.now) h) (sym c.put_back.ensures.whole) c.makes_all.ensures.are.sound
