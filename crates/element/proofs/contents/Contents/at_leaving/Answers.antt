use Rattle.std.proofs.Common.{◌≡◌, refl, sym, ◌∙◌, ap, subst, Option, Some, None, List}
use Rattle.tags.specs.declared.token.Port.{Port}
use Rattle.tags.specs.declared.token.Word.{Word}
use Rattle.tags.specs.declared.token.Token.{Token}
use Rattle.tags.specs.declared.slot.SlotState.TheVariants.{Empty}
use Rattle.semantics.specs.Rule.{alone, fire_one}
use Rattle.element.specs.Decoded.{instr_of}
use Rattle.element.specs.Fired.{point_of, left_on}
use Rattle.element.specs.Holding.{Holding, held_in}
use Rattle.element.specs.Changed.{with_state_in}
use Rattle.element.specs.Acts.{FiresAs}
use Rattle.element.specs.declared.lane.Stepped.TheVariants.{Did}
use Rattle.element.proofs.Classes.{lone_slot, lone_alone, fired_as}
use Rattle.element.proofs.contents.Contents.at_leaving.Goals as goal

pub returns-in-Left-clause-did : goal.returns-in-Left-clause-did
returns-in-Left-clause-did g c = λ yes.
    let before = c.args.sent.now.items in
    let after = c.pass_out.new.sent.items in
    let p = g.C.Instructions.program c.args.code.now in
    let old : Holding = held_in c.args.self.now in
    let s = c.args.arrival.now.point in
    let i = c.args.instr.now in
    let w = c.args.arrival.now.token.word in
    let fired : fire_one p (point_of s) (instr_of i) i.op w ≡ Some (left_on (point_of s) c.in-Some.leaving)
    = subst (λ (v : Word). fire_one p (point_of s) (instr_of i) i.op v ≡ Some (left_on (point_of s) c.in-Some.leaving)) c.word.ensures c.in-Some.ensures in
    let made : Option (List Token) → Type 0 = λ m. FiresAs m (with_state_in old.part s.frame None Empty) old c.args.arrival.now.at before Did
    (held_in c.pass_out.new.self) after in
    fired_as p (g.C.Instructions.width c.args.code.now) old c.args.arrival.now.token s.frame s.ip c.args.arrival.now.port i None Empty
    c.requires.can.sound.part c.requires.can.width c.requires.address c.requires.can.near c.requires.can.addressed c.requires.short
    c.requires.found (lone_slot (instr_of i) i.op c.requires.lone) refl Empty (fire_one p (point_of s) (instr_of i) i.op w) c.args.arrival.now.at
    before Did (held_in c.pass_out.new.self) after
    (lone_alone p (point_of s) (instr_of i) i.op Empty c.args.arrival.now.port w c.requires.lone
    ∙ ap (λ (q : Port). alone p (point_of s) (instr_of i) Empty q w) c.in-Left.is) (subst made (sym fired) (c.pass_out.ensures.did yes))
