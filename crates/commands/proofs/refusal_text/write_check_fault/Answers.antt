use Rattle.std.proofs.Common.{ℕ, List, [], ◌∷◌, sym}
use Rattle.std.specs.Prelude.{codes}
use Rattle.commands.specs.Refusals.{check_word, number_or_dash}
use Rattle.driver.proofs.Joined.{joined}
use Rattle.sink.proofs.Sent.{sends_same}
use Rattle.commands.proofs.refusal_text.write_check_fault.Goals as goal

pub returns : goal.returns
returns g c =
    let k : List ℕ = check_word c.args.fault.kind in
    let b : List ℕ = number_or_dash c.args.fault.block in
    let n : List ℕ = number_or_dash c.args.fault.node in
    sends_same _ _ _ _ _ (joined (codes "refused: check ") k (codes " block ") b (codes " node ") n (10 ∷ []))
    (rw (sym c.check_word-kind.ensures) (rw (sym c.number_or_dash-block.ensures) (rw (sym c.number_or_dash-node.ensures) c.send_all.ensures)))
