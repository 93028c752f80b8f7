use Rattle.std.proofs.Common.{◌≡◌, refl, sym, ◌∙◌, ap, subst, [], ◌∷◌, List, Option, Some, None}
use Rattle.tags.specs.declared.token.Port.{Port}
use Rattle.tags.specs.declared.token.Word.{Word}
use Rattle.tags.specs.declared.token.To.{To}
use Rattle.tags.specs.declared.token.Token.{Token}
use Rattle.tags.specs.declared.slot.SlotState.TheVariants.{Empty}
use Rattle.semantics.specs.declared.program.Op.{Op}
use Rattle.semantics.specs.Rule.{token, alone, answer_to, fire_one, fires}
use Rattle.element.specs.Decoded.{instr_of, IsLone}
use Rattle.element.specs.Fired.{point_of}
use Rattle.element.specs.Holding.{Holding, held_in}
use Rattle.element.specs.declared.lane.Stepped.TheVariants.{Did}
use Rattle.element.proofs.Classes.{lone_slot, lone_alone, fired_as}
use Rattle.element.proofs.contents.Contents.at_frame.Goals as goal

pub returns-in-Left-clause-did : goal.returns-in-Left-clause-did
returns-in-Left-clause-did g c = λ yes.
    let p = g.C.Instructions.program c.args.code.now in
    let old : Holding = held_in c.args.self.now in
    let s = c.args.arrival.now.point in
    let i = c.args.instr.now in
    let w = c.args.arrival.now.token.word in
    let lone : IsLone i.op = subst (λ (op : Op). IsLone op) (sym c.requires.frame) tt in
    let is : c.pack.result ≡ token To.Manager (Word.Back (answer_to (point_of s) (instr_of i).firsts)) = c.pack.ensures ∙ c.frame_request.ensures in
    let fired : fire_one p (point_of s) (instr_of i) i.op w ≡ Some (c.pack.result ∷ [])
    = ap (λ (op : Op). fire_one p (point_of s) (instr_of i) op w) c.requires.frame ∙ ap (λ (x : Token). Some (x ∷ [])) (sym is) in
    fired_as p (g.C.Instructions.width c.args.code.now) old c.args.arrival.now.token s.frame s.ip c.args.arrival.now.port i None Empty
    c.requires.can.sound.part c.requires.can.width c.requires.address c.requires.can.near c.requires.can.addressed c.requires.short
    c.requires.found (lone_slot (instr_of i) i.op lone) refl Empty (Some (c.pack.result ∷ [])) c.args.arrival.now.at c.args.sent.now.items Did (held_in c.ask.new.self)
    c.ask.new.sent.items
    (lone_alone p (point_of s) (instr_of i) i.op Empty c.args.arrival.now.port w lone ∙ ap (λ (q : Port). alone p (point_of s) (instr_of i) Empty q w)
    c.in-Left.is ∙ ap (λ (o : Option (List Token)). fires Empty o) fired) (c.ask.ensures.did yes)
