use Rattle.std.proofs.Common.{◌≡◌, ◌∙◌, sym, subst, ap, ℕ, Option, List}
use Rattle.semantics.specs.declared.program.Op.{Op}
use Rattle.semantics.specs.Rule.{slot_of}
use Rattle.element.specs.Decoded.{instr_of}
use Rattle.element.specs.Short.{ShortInstr}
use Rattle.tags.specs.declared.token.Token.{Token}
use Rattle.element.specs.Fired.{tokens_of, point_of}
use Rattle.replay.specs.DoesAs.{held_in, Sets}
use Rattle.replay.proofs.Instructing.{fired}
use Rattle.replay.proofs.state.State.at_instruction.Goals as goal

pub returns-in_ok-set_in-in-Becomes-clause-does_as : goal.returns-in_ok-set_in-in-Becomes-clause-does_as
returns-in_ok-set_in-in-Becomes-clause-does_as g c s n made holds near token happens =
    let p = g.C.Instructions.program c.args.code.now in
    let i = c.in-Some.instr in
    let slots = c.args.self.now.slots in
    let f = c.args.point.frame in
    let ts : List Token = tokens_of (point_of c.args.point) c.fire.new.made in
    let same : c.instr-2.inside.op ≡ i.op = ap (λ (x : ShortInstr). x.op) c.instr-2.view_is in
    let used = c.slot_in-slot.ensures (instr_of i) (sym c.slot.ensures) ∙ ap (λ (o : Op). slot_of (instr_of i) o) same in
    let count = c.count_made-made.ensures (point_of c.args.point) in
    fired p c.args.self.now s holds near
    (g.C.Instructions.width c.args.code.now) f c.args.point.ip c.args.port c.args.word i c.state_in-state.result c.in-Becomes.after
    ts c.set_in.new.self record { deed = c.deed_at.result; made = c.count_made-made.result } made n c.requires.narrow token.to token.word
    c.in-Some.ensures.short c.in-Some.ensures.exact
    (c.state_in-state.ensures ∙ ap (λ (r : Option ℕ). held_in slots f r) used) c.in-Becomes.ensures
    (subst (λ (r : Option ℕ). Sets slots f r c.in-Becomes.after c.set_in.new.self) used c.in_ok-set_in-in-Becomes.ensures)
    count c.deed_at.ensures happens
