use Rattle.std.proofs.Common.{◌≡◌, ◌∙◌, sym, ap, subst, ℕ, ◌<◌, arith}
use Rattle.tags.specs.declared.slot.SlotState.{SlotState}
use Rattle.semantics.specs.Rule.{slot_of}
use Rattle.element.specs.Decoded.{instr_of}
use Rattle.element.specs.Fired.{HasRoomInSlot, point_of, tokens_of}
use Rattle.element.specs.Parts.{Shape}
use Rattle.element.specs.Holding.{Holding, held_in, part_of, taken, with_part}
use Rattle.element.specs.Changed.{with_state_in}
use Rattle.element.proofs.Acting.{acts}
use Rattle.element.proofs.Instructing.{room_in_slot, instructed}
use Rattle.element.proofs.contents.Contents.at_any.Goals as goal

pub fire-requires-clause-slot_room : goal.fire-requires-clause-slot_room
fire-requires-clause-slot_room g c =
    subst (λ (v : SlotState). HasRoomInSlot v) (sym c.slot_of-slot.ensures) (room_in_slot (g.C.Instructions.program c.args.code.now)
    (part_of c.args.self.now) c.args.arrival.now.point.frame (slot_of (instr_of c.args.instr.now) c.args.instr.now.op) c.requires.can.sound.part)

pub send_all-requires-clause-some : goal.send_all-requires-clause-some
send_all-requires-clause-some g c =
    let p = g.C.Instructions.program c.args.code.now in
    let old : Holding = held_in c.args.self.now in
    let mid : Holding = held_in c.make_room.new.self in
    let same : mid ≡ old = c.make_room.ensures.held in
    let i = c.args.instr.now in
    let v = c.in-Becomes.slot in
    let made = tokens_of (point_of c.args.arrival.now.point) c.fire.new.made in
    let changes = instructed p (g.C.Instructions.width c.args.code.now) old.part c.args.token.now c.args.arrival.now.point.frame
    c.args.arrival.now.point.ip c.args.arrival.now.port i v made c.slot_of-slot.result c.requires.can.sound.part c.requires.can.width
    c.requires.address c.requires.can.near c.requires.can.addressed
    c.requires.short c.requires.found c.slot_of-slot.ensures (sym c.in-Becomes.ensures) in
    let second = c.take.ensures.held ∙ ap (λ (m : Holding). taken m c.args.arrival.now.at) c.keep.ensures.held
    ∙ ap (λ (m : Holding). taken (with_part mid (with_state_in m.part c.args.arrival.now.point.frame (slot_of (instr_of i) i.op) v))
    c.args.arrival.now.at) same in
    let some : 0 < c.args.self.now.elements = (let l = c.requires.can.sound.part.there in omega (arith, l)) in
    subst (λ (n : ℕ). 0 < n) (sym (ap (λ (h : Holding). h.part.shape.elements) second ∙ ap (λ (z : Shape). z.elements) changes.shape)) some

pub returns-else-is_err : goal.returns-else-is_err
returns-else-is_err g c =
    let p = g.C.Instructions.program c.args.code.now in
    let old : Holding = held_in c.args.self.now in
    let mid : Holding = held_in c.make_room.new.self in
    let same : mid ≡ old = c.make_room.ensures.held in
    let i = c.args.instr.now in
    let v = c.in-Becomes.slot in
    let made = tokens_of (point_of c.args.arrival.now.point) c.fire.new.made in
    let changes = instructed p (g.C.Instructions.width c.args.code.now) old.part c.args.token.now c.args.arrival.now.point.frame
    c.args.arrival.now.point.ip c.args.arrival.now.port i v made c.slot_of-slot.result c.requires.can.sound.part c.requires.can.width
    c.requires.address c.requires.can.near c.requires.can.addressed
    c.requires.short c.requires.found c.slot_of-slot.ensures (sym c.in-Becomes.ensures) in
    let second = c.take.ensures.held ∙ ap (λ (m : Holding). taken m c.args.arrival.now.at) c.keep.ensures.held
    ∙ ap (λ (m : Holding). taken (with_part mid (with_state_in m.part c.args.arrival.now.point.frame (slot_of (instr_of i) i.op) v))
    c.args.arrival.now.at) same in
    acts p old mid (held_in c.take.new.self) (held_in c.send_all.new.self) c.args.arrival.now.at c.args.token.now made
    (with_state_in old.part c.args.arrival.now.point.frame (slot_of (instr_of i) i.op) v) c.args.sent.now.items c.make_room.new.sent.items
    c.send_all.new.sent.items
    same c.make_room.ensures.sent changes second c.send_all.ensures.held c.send_all.ensures.sent
