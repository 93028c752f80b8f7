use Rattle.std.proofs.Common.{ℕ, List, [], ◌∷◌, sym}
use Rattle.std.specs.Prelude.{codes, decimal}
use Rattle.commands.specs.Refusals.{program_word}
use Rattle.driver.proofs.Joined.{joined}
use Rattle.sink.proofs.Sent.{sends_same}
use Rattle.commands.proofs.refusal_text.write_program_fault.Goals as goal

pub returns : goal.returns
returns g c =
    let k : List ℕ = program_word c.args.refusal.fault.kind in
    let l : List ℕ = decimal c.args.refusal.fault.line in
    let n : List ℕ = decimal c.args.refusal.fault.column in
    sends_same _ _ _ _ _ (joined (codes "refused: program ") k (codes " line ") l (codes " column ") n (10 ∷ []))
    (rw (sym c.program_word-kind.ensures) (rw (sym c.number_or_dash-line.ensures) (rw (sym c.number_or_dash-column.ensures) c.send_all.ensures)))
