use Rattle.std.proofs.Common.{◌≡◌, ◌∙◌, ap, subst, ℕ, Some, slice_index_or}
use Rattle.tags.specs.declared.slot.SlotState.TheVariants.{Empty}
use Rattle.semantics.specs.Rule.{fire_two}
use Rattle.element.specs.Decoded.{instr_of}
use Rattle.element.specs.Fired.{point_of}
use Rattle.element.specs.Parts.{slot_place}
use Rattle.element.specs.Holding.{Holding, held_in, taken, with_part}
use Rattle.element.specs.Changed.{with_state}
use Rattle.element.specs.Acts.{FiresAs}
use Rattle.element.specs.declared.lane.Stepped.TheVariants.{Did}
use Rattle.element.proofs.Classes.{pair_slot, pair_meets, waits_as, fired_as}
use Rattle.element.proofs.contents.Contents.at_pair.Goals as goal

pub returns-in-Waits-clause-did : goal.returns-in-Waits-clause-did
returns-in-Waits-clause-did g c = λ yes.
    let p = g.C.Instructions.program c.args.code.now in
    let width = g.C.Instructions.width c.args.code.now in
    let old : Holding = held_in c.args.self.now in
    let s = c.args.arrival.now.point in
    let i = c.args.instr.now in
    let t = c.args.arrival.now.token in
    let held = c.slot_at-held.result in
    let place : c.place_of_slot-place.result ≡ slot_place old.part.shape s.frame i.slot = c.place_of_slot-place.ensures.exact
    ∙ ap (λ (n : ℕ). slot_place old.part.shape s.frame n) c.slot.ensures in
    let there : held ≡ slice_index_or old.part.states (slot_place old.part.shape s.frame i.slot) Empty
    = subst (λ (n : ℕ). held ≡ slice_index_or old.part.states n Empty) place c.slot_at-held.ensures in
    waits_as p width old t s.frame s.ip c.args.arrival.now.port i (Some i.slot) held c.requires.can.sound.part c.requires.can.width c.requires.address
    c.requires.can.near c.requires.can.addressed c.requires.short
    c.requires.found (pair_slot (instr_of i) i.op c.requires.pair) there c.in-Waits.slot c.args.arrival.now.at c.args.sent.now.items (held_in c.wait.new.self)
    (pair_meets p (point_of s) (instr_of i) i.op held c.args.arrival.now.port t.word c.requires.pair ∙ c.in-Waits.ensures.meets p (point_of s) (instr_of i))
    (c.wait.ensures.held ∙ ap (λ (n : ℕ). taken (with_part old (with_state old.part n c.in-Waits.slot)) c.args.arrival.now.at) place)

pub returns-in-Left-clause-did : goal.returns-in-Left-clause-did
returns-in-Left-clause-did g c = λ yes.
    let p = g.C.Instructions.program c.args.code.now in
    let width = g.C.Instructions.width c.args.code.now in
    let old : Holding = held_in c.args.self.now in
    let s = c.args.arrival.now.point in
    let i = c.args.instr.now in
    let t = c.args.arrival.now.token in
    let held = c.slot_at-held.result in
    let place : c.place_of_slot-place.result ≡ slot_place old.part.shape s.frame i.slot = c.place_of_slot-place.ensures.exact
    ∙ ap (λ (n : ℕ). slot_place old.part.shape s.frame n) c.slot.ensures in
    let there : held ≡ slice_index_or old.part.states (slot_place old.part.shape s.frame i.slot) Empty
    = subst (λ (n : ℕ). held ≡ slice_index_or old.part.states n Empty) place c.slot_at-held.ensures in
    let fired = fire_two p (point_of s) (instr_of i) i.op c.in-Both.left c.in-Both.right in
    let new : Holding = held_in c.both.new.self in
    let before = c.args.sent.now.items in
    let after = c.both.new.sent.items in
    fired_as p width old t s.frame s.ip c.args.arrival.now.port i (Some i.slot) held c.requires.can.sound.part c.requires.can.width c.requires.address
    c.requires.can.near c.requires.can.addressed c.requires.short
    c.requires.found (pair_slot (instr_of i) i.op c.requires.pair) there Empty fired c.args.arrival.now.at before Did new after
    (pair_meets p (point_of s) (instr_of i) i.op held c.args.arrival.now.port t.word c.requires.pair ∙ c.in-Both.ensures.meets p (point_of s) (instr_of i))
    (subst (λ (n : ℕ). FiresAs fired (with_state old.part n Empty) old c.args.arrival.now.at before Did new after) place (c.both.ensures.did yes))

pub returns-in-Right-clause-did : goal.returns-in-Right-clause-did
returns-in-Right-clause-did g c = λ yes.
    let p = g.C.Instructions.program c.args.code.now in
    let width = g.C.Instructions.width c.args.code.now in
    let old : Holding = held_in c.args.self.now in
    let s = c.args.arrival.now.point in
    let i = c.args.instr.now in
    let t = c.args.arrival.now.token in
    let held = c.slot_at-held.result in
    let place : c.place_of_slot-place.result ≡ slot_place old.part.shape s.frame i.slot = c.place_of_slot-place.ensures.exact
    ∙ ap (λ (n : ℕ). slot_place old.part.shape s.frame n) c.slot.ensures in
    let there : held ≡ slice_index_or old.part.states (slot_place old.part.shape s.frame i.slot) Empty
    = subst (λ (n : ℕ). held ≡ slice_index_or old.part.states n Empty) place c.slot_at-held.ensures in
    let fired = fire_two p (point_of s) (instr_of i) i.op c.in-Both.left c.in-Both.right in
    let new : Holding = held_in c.both-in-Right.new.self in
    let before = c.args.sent.now.items in
    let after = c.both-in-Right.new.sent.items in
    fired_as p width old t s.frame s.ip c.args.arrival.now.port i (Some i.slot) held c.requires.can.sound.part c.requires.can.width c.requires.address
    c.requires.can.near c.requires.can.addressed c.requires.short
    c.requires.found (pair_slot (instr_of i) i.op c.requires.pair) there Empty fired c.args.arrival.now.at before Did new after
    (pair_meets p (point_of s) (instr_of i) i.op held c.args.arrival.now.port t.word c.requires.pair ∙ c.in-Both.ensures.meets p (point_of s) (instr_of i))
    (subst (λ (n : ℕ). FiresAs fired (with_state old.part n Empty) old c.args.arrival.now.at before Did new after) place
    (c.both-in-Right.ensures.did yes))
