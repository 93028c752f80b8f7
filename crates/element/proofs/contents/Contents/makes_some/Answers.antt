use Rattle.std.proofs.Common.{◌≡◌, refl, ◌∙◌, ◌+◌, length, arith}
use Rattle.std.specs.Prelude.{vec_len}
use Rattle.element.specs.Holding.{Holding, held_in}
use Rattle.element.specs.ByDepth.{whole}
use Rattle.element.proofs.Aside.{events_aside, inner_sound, by_depth_more}
use Rattle.element.proofs.contents.Contents.makes_some.Goals as goal

pub make_among_few-requires-clause-sound : goal.make_among_few-requires-clause-sound
make_among_few-requires-clause-sound g c =
    inner_sound (g.C.Instructions.program c.args.code.now) c.args.aside.now.items (held_in c.args.self.now) c.requires.are

pub returns-then-make_among_few-clause-exact : goal.returns-then-make_among_few-clause-exact
returns-then-make_among_few-clause-exact g c = λ steps most.
    let p = g.C.Instructions.program c.args.code.now in
    let old : Holding = held_in c.args.self.now in
    let mid : Holding = held_in c.make_among_few.new.self in
    let aside = c.args.aside.now.items in
    let long : vec_len c.args.aside.now ≡ length aside = c.args.aside.now.ok.0 in
    let gone = c.gone.ensures in
    let len = c.len.ensures in
    let counted = c.requires.are.counted in
    let within = c.requires.end in
    let sends = c.make_among_few.ensures.others refl (steps + length aside) (omega arith) in
    let all = events_aside p steps sends.0 aside old mid c.args.sent.now.items c.make_among_few.new.sent.items c.requires.one c.requires.are sends.1 in
    (sends.0, all.1)

pub returns-then-make_among_few-clause-are : goal.returns-then-make_among_few-clause-are
returns-then-make_among_few-clause-are g c =
    let p = g.C.Instructions.program c.args.code.now in
    let old : Holding = held_in c.args.self.now in
    let mid : Holding = held_in c.make_among_few.new.self in
    let aside = c.args.aside.now.items in
    let long : vec_len c.args.aside.now ≡ length aside = c.args.aside.now.ok.0 in
    let gone = c.gone.ensures in
    let len = c.len.ensures in
    let counted = c.requires.are.counted in
    let within = c.requires.end in
    let sends = c.make_among_few.ensures.others refl (c.args.end + length aside) (omega arith) in
    let all = events_aside p c.args.end sends.0 aside old mid c.args.sent.now.items c.make_among_few.new.sent.items c.requires.one c.requires.are sends.1 in
    all.0

pub returns-then-make_among_few-clause-sent : goal.returns-then-make_among_few-clause-sent
returns-then-make_among_few-clause-sent g c =
    let p = g.C.Instructions.program c.args.code.now in
    let old : Holding = held_in c.args.self.now in
    let mid : Holding = held_in c.make_among_few.new.self in
    let aside = c.args.aside.now.items in
    let long : vec_len c.args.aside.now ≡ length aside = c.args.aside.now.ok.0 in
    let gone = c.gone.ensures in
    let len = c.len.ensures in
    let counted = c.requires.are.counted in
    let within = c.requires.end in
    let sends = c.make_among_few.ensures.others refl (c.args.end + length aside) (omega arith) in
    let all = events_aside p c.args.end sends.0 aside old mid c.args.sent.now.items c.make_among_few.new.sent.items c.requires.one c.requires.are sends.1 in
    all.2

pub goes_on-requires-clause-are : goal.goes_on-requires-clause-are
goes_on-requires-clause-are g c =
    let p = g.C.Instructions.program c.args.code.now in
    let old : Holding = held_in c.args.self.now in
    let mid : Holding = held_in c.make_among_few.new.self in
    let aside = c.args.aside.now.items in
    let long : vec_len c.args.aside.now ≡ length aside = c.args.aside.now.ok.0 in
    let gone = c.gone.ensures in
    let len = c.len.ensures in
    let counted = c.requires.are.counted in
    let within = c.requires.end in
    let sends = c.make_among_few.ensures.others refl (c.args.end + length aside) (omega arith) in
    let all = events_aside p c.args.end sends.0 aside old mid c.args.sent.now.items c.make_among_few.new.sent.items c.requires.one c.requires.are sends.1 in
    all.0

pub returns-clause-exact : goal.returns-clause-exact
returns-clause-exact g c = λ steps most.
    let p = g.C.Instructions.program c.args.code.now in
    let old : Holding = held_in c.args.self.now in
    let mid : Holding = held_in c.make_among_few.new.self in
    let aside = c.args.aside.now.items in
    let long : vec_len c.args.aside.now ≡ length aside = c.args.aside.now.ok.0 in
    let gone = c.gone.ensures in
    let len = c.len.ensures in
    let counted = c.requires.are.counted in
    let within = c.requires.end in
    let sends = c.make_among_few.ensures.others refl (steps + length aside) (omega arith) in
    let all = events_aside p steps sends.0 aside old mid c.args.sent.now.items c.make_among_few.new.sent.items c.requires.one c.requires.are sends.1 in
    let part = c.make_among_few.ensures.part c.if-make_among_few.false in
    let more = c.goes_on.ensures.exact steps (omega arith) in
    by_depth_more p steps sends.0 more.0 (whole aside old) (whole aside mid) (whole c.goes_on.new.aside.items (held_in c.goes_on.new.self)) all.1 more.1

pub returns-clause-sent : goal.returns-clause-sent
returns-clause-sent g c =
    let p = g.C.Instructions.program c.args.code.now in
    let old : Holding = held_in c.args.self.now in
    let mid : Holding = held_in c.make_among_few.new.self in
    let aside = c.args.aside.now.items in
    let long : vec_len c.args.aside.now ≡ length aside = c.args.aside.now.ok.0 in
    let gone = c.gone.ensures in
    let len = c.len.ensures in
    let counted = c.requires.are.counted in
    let within = c.requires.end in
    let sends = c.make_among_few.ensures.others refl (c.args.end + length aside) (omega arith) in
    let all = events_aside p c.args.end sends.0 aside old mid c.args.sent.now.items c.make_among_few.new.sent.items c.requires.one c.requires.are sends.1 in
    c.goes_on.ensures.sent ∙ all.2
