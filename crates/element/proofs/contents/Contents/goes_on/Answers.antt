use Rattle.std.proofs.Common.{◌≡◌, ◌<◌, length, arith}
use Rattle.std.specs.Prelude.{vec_len}
use Rattle.element.specs.Holding.{Holding, held_in}
use Rattle.element.specs.ByDepth.{whole}
use Rattle.element.proofs.Aside.{maybe_one}
use Rattle.element.proofs.contents.Contents.goes_on.Goals as goal

pub returns-then-len-eq0-clause-exact : goal.returns-then-len-eq0-clause-exact
returns-then-len-eq0-clause-exact g c = λ steps few.
    let h : Holding = held_in c.args.self.now in
    let aside = c.args.aside.now.items in
    let long : vec_len c.args.aside.now ≡ length aside = c.args.aside.now.ok.0 in
    let counted = c.requires.are.counted in
    let below : (whole aside h).made < steps = omega arith in
    let now = c.grants_first.ensures in
    maybe_one (g.C.Instructions.program c.args.code.now) steps aside c.grants_first.new.aside.items h (held_in c.grants_first.new.self)
    c.grants_first.result now.did now.not now.same now.are below
