use Rattle.std.proofs.Common.{arith, ◌≡◌, ◌+◌, ◌≤◌, ℕ, List, Option, ap, refl, subst}
use Rattle.std.specs.Io.KnownBytes.{Appends}
use Rattle.std.proofs.lemmas.Result.{err_from_is_err_and}
use Rattle.sink.proofs.Sent.{appends_none, sends_other, sends_from, sends_whole}
use Rattle.chosen_cells.specs.Chosen.{empty_cells}
use Rattle.chosen_cells.proofs.Blanks.{more_empty, none_empty, stop_empty}
use Rattle.chosen_cells.proofs.row.send_empty.Goals as goal

pub loop-init : goal.loop-init
loop-init g c = (omega arith, none_empty _ _ (appends_none _))

pub returns-in_err-send : goal.returns-in_err-send
returns-in_err-send g c =
    let p = err_from_is_err_and c.from_residual.result c.from_residual.ensures.1 in
    let l = c.loop in
    rw p.1 (stop_empty l.counter c.args.count p.0 _ _ _ (omega (arith, c.loop-test.true)) l.invariant.1
    (sends_other c.in_err-send.field-0.0 p.0 _ _ _ c.in_err-send.ensures))

pub loop-preserved : goal.loop-preserved
loop-preserved g c =
    let l = c.loop in (
      omega (arith, c.loop-test.true),
      more_empty l.counter _ _ _ l.invariant.1 (sends_from _ _ _ _ c.in_ok-send.was c.send.ensures),
    )

pub returns : goal.returns
returns g c =
    let l = c.loop in
    let all : l.counter ≡ c.args.count = omega (arith, l.invariant.0, c.loop-test.false) in
    let w0 : Option (List ℕ) = g.W.Write.contents c.args.writer.now in
    let w1 : Option (List ℕ) = g.W.Write.contents l.writer in
    sends_whole _ tt w0 w1 (empty_cells c.args.count) refl (subst (λ (n : ℕ). Appends w0 w1 (empty_cells n)) all l.invariant.1)
