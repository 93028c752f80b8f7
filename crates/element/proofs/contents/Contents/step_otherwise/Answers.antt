use Rattle.std.proofs.Common.{◌≡◌, get_or}
use Rattle.element.specs.Holding.{Holding, held_in}
use Rattle.element.proofs.Stepping.{steps_as, sound_as, shape_as, made_as}
use Rattle.element.proofs.Turns.{oldest, oldest_acts}
use Rattle.element.proofs.contents.Contents.step_otherwise.Goals as goal

pub returns-clause-exact : goal.returns-clause-exact
returns-clause-exact g c =
    let p = g.C.Instructions.program c.args.code.now in
    let old : Holding = held_in c.args.self.now in
    let t = c.packed-token.result in
    let first : t ≡ get_or old.queue 0 t = c.packed-token.ensures in
    let acts = oldest_acts p old t c.args.sent.now.items c.act_otherwise.result (held_in c.act_otherwise.new.self) c.act_otherwise.new.sent.items
    c.act_otherwise.ensures in
    steps_as p old 0 t c.args.sent.now.items c.requires.sound c.requires.some (oldest old t first) c.act_otherwise.result
    (held_in c.act_otherwise.new.self) c.act_otherwise.new.sent.items acts

pub returns-clause-sound : goal.returns-clause-sound
returns-clause-sound g c =
    let p = g.C.Instructions.program c.args.code.now in
    let old : Holding = held_in c.args.self.now in
    let t = c.packed-token.result in
    let first : t ≡ get_or old.queue 0 t = c.packed-token.ensures in
    let acts = oldest_acts p old t c.args.sent.now.items c.act_otherwise.result (held_in c.act_otherwise.new.self) c.act_otherwise.new.sent.items
    c.act_otherwise.ensures in
    sound_as p old 0 t c.args.sent.now.items c.requires.sound c.requires.some (oldest old t first) c.act_otherwise.result
    (held_in c.act_otherwise.new.self) c.act_otherwise.new.sent.items acts

pub returns-clause-shape : goal.returns-clause-shape
returns-clause-shape g c =
    let p = g.C.Instructions.program c.args.code.now in
    let old : Holding = held_in c.args.self.now in
    let t = c.packed-token.result in
    let first : t ≡ get_or old.queue 0 t = c.packed-token.ensures in
    let acts = oldest_acts p old t c.args.sent.now.items c.act_otherwise.result (held_in c.act_otherwise.new.self) c.act_otherwise.new.sent.items
    c.act_otherwise.ensures in
    shape_as p old 0 t c.args.sent.now.items c.requires.sound c.requires.some (oldest old t first) c.act_otherwise.result
    (held_in c.act_otherwise.new.self) c.act_otherwise.new.sent.items acts

pub returns-clause-made : goal.returns-clause-made
returns-clause-made g c =
    let p = g.C.Instructions.program c.args.code.now in
    let old : Holding = held_in c.args.self.now in
    let t = c.packed-token.result in
    let first : t ≡ get_or old.queue 0 t = c.packed-token.ensures in
    let acts = oldest_acts p old t c.args.sent.now.items c.act_otherwise.result (held_in c.act_otherwise.new.self) c.act_otherwise.new.sent.items
    c.act_otherwise.ensures in
    made_as p old 0 t c.args.sent.now.items c.requires.sound c.requires.some (oldest old t first) c.act_otherwise.result
    (held_in c.act_otherwise.new.self) c.act_otherwise.new.sent.items acts
