use Rattle.std.proofs.Common.{◌≡◌, ◌∙◌, ap, subst, ℕ, [], ◌∷◌, Some, slice_index_or}
use Rattle.tags.specs.declared.token.Port.{Port}
use Rattle.tags.specs.declared.token.Port.TheVariants.{Left}
use Rattle.tags.specs.declared.token.Word.{Word}
use Rattle.tags.specs.declared.slot.SlotState.TheVariants.{Empty}
use Rattle.semantics.specs.Rule.{Becomes, outcome_of}
use Rattle.element.specs.Decoded.{instr_of}
use Rattle.element.specs.Fired.{point_of}
use Rattle.element.specs.Parts.{slot_place}
use Rattle.element.specs.Holding.{Holding, held_in, taken, with_part}
use Rattle.element.specs.Changed.{with_state}
use Rattle.element.specs.Acts.{FiresAs}
use Rattle.element.specs.declared.lane.Stepped.TheVariants.{Did}
use Rattle.element.proofs.Classes.{credit_slot, waits_as, fired_as}
use Rattle.element.proofs.contents.Contents.at_credit.Goals as goal

pub returns-in-Left-clause-did : goal.returns-in-Left-clause-did
returns-in-Left-clause-did g c = λ yes.
    let p = g.C.Instructions.program c.args.code.now in
    let width = g.C.Instructions.width c.args.code.now in
    let old : Holding = held_in c.args.self.now in
    let s = c.args.arrival.now.point in
    let i = c.args.instr.now in
    let t = c.args.arrival.now.token in
    let held = c.slot_at-held.result in
    let place : c.place_of_slot-place.result ≡ slot_place old.part.shape s.frame i.slot = c.place_of_slot-place.ensures.exact
    ∙ ap (λ (n : ℕ). slot_place old.part.shape s.frame n) c.slot.ensures in
    let v = c.in-SlotOnly.slot in
    let there : held ≡ slice_index_or old.part.states (slot_place old.part.shape s.frame i.slot) Empty
    = subst (λ (n : ℕ). held ≡ slice_index_or old.part.states n Empty) place c.slot_at-held.ensures in
    let comes : outcome_of p (point_of s) (instr_of i) i.op held Left t.word ≡ Becomes v []
    = subst (λ (w : Word). outcome_of p (point_of s) (instr_of i) i.op held Left w ≡ Becomes v []) c.word.ensures (c.in-SlotOnly.ensures p (point_of s)) in
    waits_as p width old t s.frame s.ip c.args.arrival.now.port i (Some i.slot) held c.requires.can.sound.part c.requires.can.width c.requires.address
    c.requires.can.near c.requires.can.addressed c.requires.short
    c.requires.found (credit_slot (instr_of i) i.op c.requires.credit) there v c.args.arrival.now.at c.args.sent.now.items (held_in c.wait.new.self)
    (ap (λ (q : Port). outcome_of p (point_of s) (instr_of i) i.op held q t.word) c.in-Left.is ∙ comes)
    (c.wait.ensures.held ∙ ap (λ (n : ℕ). taken (with_part old (with_state old.part n v)) c.args.arrival.now.at) place)

pub returns-in-Left-port-clause-did : goal.returns-in-Left-port-clause-did
returns-in-Left-port-clause-did g c = λ yes.
    let p = g.C.Instructions.program c.args.code.now in
    let width = g.C.Instructions.width c.args.code.now in
    let old : Holding = held_in c.args.self.now in
    let s = c.args.arrival.now.point in
    let i = c.args.instr.now in
    let t = c.args.arrival.now.token in
    let held = c.slot_at-held.result in
    let place : c.place_of_slot-place.result ≡ slot_place old.part.shape s.frame i.slot = c.place_of_slot-place.ensures.exact
    ∙ ap (λ (n : ℕ). slot_place old.part.shape s.frame n) c.slot.ensures in
    let v = c.in-Answered.slot in
    let made = c.in-Answered.token ∷ [] in
    let there : held ≡ slice_index_or old.part.states (slot_place old.part.shape s.frame i.slot) Empty
    = subst (λ (n : ℕ). held ≡ slice_index_or old.part.states n Empty) place c.slot_at-held.ensures in
    let comes : outcome_of p (point_of s) (instr_of i) i.op held Left t.word ≡ Becomes v made
    = subst (λ (w : Word). outcome_of p (point_of s) (instr_of i) i.op held Left w ≡ Becomes v made) c.word.ensures (c.in-Answered.ensures p (point_of s)) in
    let new : Holding = held_in c.answer.new.self in
    let before = c.args.sent.now.items in
    let after = c.answer.new.sent.items in
    fired_as p width old t s.frame s.ip c.args.arrival.now.port i (Some i.slot) held c.requires.can.sound.part c.requires.can.width c.requires.address
    c.requires.can.near c.requires.can.addressed c.requires.short
    c.requires.found (credit_slot (instr_of i) i.op c.requires.credit) there v (Some made) c.args.arrival.now.at before Did new after
    (ap (λ (q : Port). outcome_of p (point_of s) (instr_of i) i.op held q t.word) c.in-Left-port.is ∙ comes)
    (subst (λ (n : ℕ). FiresAs (Some made) (with_state old.part n v) old c.args.arrival.now.at before Did new after) place (c.answer.ensures.did yes))
