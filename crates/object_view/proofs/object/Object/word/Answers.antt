use Rattle.std.proofs.Common.{◌≡◌, ℕ, ◌+◌, List, Some, None, sym, ap, ◌∙◌, arith}
use Rattle.std.specs.Prelude.{option_map, ℤ}
use Rattle.semantics.specs.Program.{instr_from, instr_at}
use Rattle.object_view.specs.Fields.{word_at}
use Rattle.object_view.specs.Reading.{shown, instr_in, instrs_below, instr_bytes}
use Rattle.object_view.proofs.Tabulated.{instr_there, instr_not_there}
use Rattle.object_view.proofs.Views.{blocks_seen, literals_seen}
use Rattle.object_view.proofs.Sound.{instr_bytes_read}
use Rattle.object_view.proofs.object.Object.word.Goals as goal

pub returns-then-ip-self : goal.returns-then-ip-self
returns-then-ip-self c =
    let t = c.self.inside.tables in
    let w = word_at t.bytes.now in
    let z : 0 + w 2 ≡ w 2 = omega arith in
    let all = ap (instrs_below w) z in
    let none : instr_at c.args.self.now.code.program c.args.ip ≡ None = ap (λ bs. instr_from bs c.args.ip) (blocks_seen t.bytes.now _ c.self.view_is)
    ∙ instr_not_there w 0 (w 2) c.args.ip (omega (arith, t.instrs_parsed, all)) in
    sym (ap (option_map (instr_bytes c.args.self.now.code.literals)) none)

pub returns : goal.returns
returns c =
    let t = c.self.inside.tables in
    let w = word_at t.bytes.now in
    let z : 0 + w 2 ≡ w 2 = omega arith in
    let all = ap (instrs_below w) z in
    let some : instr_at c.args.self.now.code.program c.args.ip ≡ Some (shown (instr_in w c.args.ip)) = ap (λ bs. instr_from bs c.args.ip)
    (blocks_seen t.bytes.now _ c.self.view_is) ∙ instr_there w 0 (w 2) c.args.ip c.args.ip (omega arith) (omega (arith, t.instrs_parsed, all)) in
    let lits = literals_seen t.bytes.now _ c.self.view_is in
    let bytes = instr_bytes_read t.bytes.now c.args.ip c.self.invariant.1 c.self.invariant.0 (omega (arith, t.instrs_parsed)) in
    ap (λ (l : List ℕ). Some l) (c.instr_bytes.ensures ∙ bytes ∙ ap (λ (zs : List ℤ). instr_bytes zs (shown (instr_in w c.args.ip))) (sym lits))
    ∙ sym (ap (option_map (instr_bytes c.args.self.now.code.literals)) some)
