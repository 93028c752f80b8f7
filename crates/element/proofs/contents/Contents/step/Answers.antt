use Rattle.std.proofs.Common.{◌≡◌, ◌∙◌, ap, subst, ℕ, ◌<◌, ◌%◌, length, get_or, arith}
use Rattle.std.proofs.lemmas.Grind.{common_steps}
use Rattle.element.specs.Holding.{Holding, held_in}
use Rattle.element.specs.Acts.{ActsAs}
use Rattle.element.specs.Steps.{place_of}
use Rattle.element.proofs.Stepping.{steps_as, sound_as, shape_as, made_as}
use Rattle.element.proofs.contents.Contents.step.Goals as goal

pub returns-clause-exact : goal.returns-clause-exact
returns-clause-exact g c =
    let p = g.C.Instructions.program c.args.code.now in
    let old : Holding = held_in c.args.self.now in
    let some : 0 < length old.queue = grind (arith, common_steps) in
    let is : c.packed-token.result ≡ get_or old.queue (place_of old c.args.pick) c.packed-token.result = grind (arith, common_steps) in
    let count : c.len-waiting.result ≡ length old.queue = grind (arith, common_steps) in
    let acts : ActsAs p old (place_of old c.args.pick) c.packed-token.result c.args.sent.now.items c.act.result (held_in c.act.new.self) c.act.new.sent.items
    = subst (λ (n : ℕ). ActsAs p old n c.packed-token.result c.args.sent.now.items c.act.result (held_in c.act.new.self) c.act.new.sent.items)
    (c.among-at.ensures.exact ∙ ap (λ (n : ℕ). c.args.pick % n) count) c.act.ensures in
    steps_as p old c.args.pick c.packed-token.result c.args.sent.now.items c.requires.sound some is c.act.result (held_in c.act.new.self)
    c.act.new.sent.items acts

pub returns-clause-sound : goal.returns-clause-sound
returns-clause-sound g c =
    let p = g.C.Instructions.program c.args.code.now in
    let old : Holding = held_in c.args.self.now in
    let some : 0 < length old.queue = grind (arith, common_steps) in
    let is : c.packed-token.result ≡ get_or old.queue (place_of old c.args.pick) c.packed-token.result = grind (arith, common_steps) in
    let count : c.len-waiting.result ≡ length old.queue = grind (arith, common_steps) in
    let acts : ActsAs p old (place_of old c.args.pick) c.packed-token.result c.args.sent.now.items c.act.result (held_in c.act.new.self) c.act.new.sent.items
    = subst (λ (n : ℕ). ActsAs p old n c.packed-token.result c.args.sent.now.items c.act.result (held_in c.act.new.self) c.act.new.sent.items)
    (c.among-at.ensures.exact ∙ ap (λ (n : ℕ). c.args.pick % n) count) c.act.ensures in
    sound_as p old c.args.pick c.packed-token.result c.args.sent.now.items c.requires.sound some is c.act.result (held_in c.act.new.self)
    c.act.new.sent.items acts

pub returns-clause-shape : goal.returns-clause-shape
returns-clause-shape g c =
    let p = g.C.Instructions.program c.args.code.now in
    let old : Holding = held_in c.args.self.now in
    let some : 0 < length old.queue = grind (arith, common_steps) in
    let is : c.packed-token.result ≡ get_or old.queue (place_of old c.args.pick) c.packed-token.result = grind (arith, common_steps) in
    let count : c.len-waiting.result ≡ length old.queue = grind (arith, common_steps) in
    let acts : ActsAs p old (place_of old c.args.pick) c.packed-token.result c.args.sent.now.items c.act.result (held_in c.act.new.self) c.act.new.sent.items
    = subst (λ (n : ℕ). ActsAs p old n c.packed-token.result c.args.sent.now.items c.act.result (held_in c.act.new.self) c.act.new.sent.items)
    (c.among-at.ensures.exact ∙ ap (λ (n : ℕ). c.args.pick % n) count) c.act.ensures in
    shape_as p old c.args.pick c.packed-token.result c.args.sent.now.items c.requires.sound some is c.act.result (held_in c.act.new.self)
    c.act.new.sent.items acts

pub returns-clause-made : goal.returns-clause-made
returns-clause-made g c =
    let p = g.C.Instructions.program c.args.code.now in
    let old : Holding = held_in c.args.self.now in
    let some : 0 < length old.queue = grind (arith, common_steps) in
    let is : c.packed-token.result ≡ get_or old.queue (place_of old c.args.pick) c.packed-token.result = grind (arith, common_steps) in
    let count : c.len-waiting.result ≡ length old.queue = grind (arith, common_steps) in
    let acts : ActsAs p old (place_of old c.args.pick) c.packed-token.result c.args.sent.now.items c.act.result (held_in c.act.new.self) c.act.new.sent.items
    = subst (λ (n : ℕ). ActsAs p old n c.packed-token.result c.args.sent.now.items c.act.result (held_in c.act.new.self) c.act.new.sent.items)
    (c.among-at.ensures.exact ∙ ap (λ (n : ℕ). c.args.pick % n) count) c.act.ensures in
    made_as p old c.args.pick c.packed-token.result c.args.sent.now.items c.requires.sound some is c.act.result (held_in c.act.new.self)
    c.act.new.sent.items acts
