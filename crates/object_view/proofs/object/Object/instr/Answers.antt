use Rattle.object_view.specs.Fields.{word_at}
use Rattle.object_view.specs.Reading.{shown, instrs_below}
use Rattle.object_view.proofs.Tabulated.{instr_there, instr_not_there}
use Rattle.object_view.proofs.Views.{blocks_seen}
use Rattle.std.proofs.Common.{◌≡◌, ◌+◌, Some, sym, ap, ◌∙◌, arith}
use Rattle.semantics.specs.Program.{instr_from}
use Rattle.object_view.proofs.Opcodes.{opcode_read}
use Rattle.object_view.proofs.object.Object.instr.Goals as goal

pub instr-requires-clause-opcode : goal.instr-requires-clause-opcode
instr-requires-clause-opcode c =
    let t = c.self.inside.tables in
    opcode_read t.bytes.now c.args.ip c.self.invariant.0 (omega (arith, t.instrs_parsed))

pub returns-then-ip-self : goal.returns-then-ip-self
returns-then-ip-self c =
    let t = c.self.inside.tables in
    let w = word_at t.bytes.now in
    let z : 0 + w 2 ≡ w 2 = omega arith in
    let all = ap (instrs_below w) z in
    sym (ap (λ bs. instr_from bs c.args.ip) (blocks_seen t.bytes.now _ c.self.view_is)
    ∙ instr_not_there w 0 (w 2) c.args.ip (omega (arith, t.instrs_parsed, all)))

pub returns : goal.returns
returns c =
    let t = c.self.inside.tables in
    let w = word_at t.bytes.now in
    let z : 0 + w 2 ≡ w 2 = omega arith in
    let all = ap (instrs_below w) z in
    ap (λ i. Some (shown i)) c.instr.ensures ∙ sym (ap (λ bs. instr_from bs c.args.ip) (blocks_seen t.bytes.now _ c.self.view_is)
    ∙ instr_there w 0 (w 2) c.args.ip c.args.ip (omega arith) (omega (arith, t.instrs_parsed, all)))
