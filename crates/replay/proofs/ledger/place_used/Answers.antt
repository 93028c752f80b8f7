use Rattle.std.proofs.Common.{◌≡◌, ◌∙◌, sym, ap}
use Rattle.semantics.specs.declared.program.Op.{Op}
use Rattle.semantics.specs.Rule.{slot_of}
use Rattle.element.specs.Decoded.{instr_of}
use Rattle.element.specs.Short.{ShortInstr}
use Rattle.replay.proofs.Fitting.{slot_below}
use Rattle.replay.proofs.ledger.place_used.Goals as goal

pub returns-in-Some-slot_in-clause-short : goal.returns-in-Some-slot_in-clause-short
returns-in-Some-slot_in-clause-short g c =
    let i = c.in-Some.instr in
    let same : c.instr-2.inside.op ≡ i.op = ap (λ (x : ShortInstr). x.op) c.instr-2.view_is in
    let used = c.slot_in.ensures (instr_of i) (sym c.slot.ensures) ∙ ap (λ (o : Op). slot_of (instr_of i) o) same in
    slot_below (instr_of i) i.op c.in-Some-slot_in.slot (g.C.Instructions.width c.args.code.now) (sym used ∙ c.in-Some-slot_in.is)
    c.in-Some.ensures.short.slot
