use Rattle.std.proofs.Common.{arith, ◌≡◌, ◌<◌, ◌∷◌, ℕ, List, Bor, Option, option_map, length, ap, refl, subst, sym, ◌∙◌}
use Rattle.std.proofs.lemmas.Result.{err_from_is_err_and}
use Rattle.command_line.specs.Words.{Text}
use Rattle.sink.proofs.Sent.{sends_from, sends_other}
use Rattle.chosen_cells.specs.Chosen.{Row}
use Rattle.chosen_cells.proofs.Walk.{Walked, begins, ends, ends_with, goes_on, stops}
use Rattle.chosen_cells.proofs.printing.write_chosen.Goals as goal

pub loop-line-init : goal.loop-line-init
loop-line-init g c = begins _ _ c.args.text.now c.of-lines.result _ c.of-lines.ensures

pub returns-then-has : goal.returns-then-has
returns-then-has g c =
    let l = c.loop-line in
    let cells : Option Text = option_map (λ (s : Bor (List ℕ)). s.now) c.args.cells in
    let grid : Option Text = option_map (λ (s : Bor (List ℕ)). s.now) c.args.grid in
    ends_with cells grid c.args.text.now l.row l.lines c.in-Some.rest c.in-Some.line.now c.send_last.result _ (g.W.Write.contents l.writer) _
    c.in-Some.ensures c.if-has.ensures l.invariant c.send_last.ensures

pub returns-in_err-send_line : goal.returns-in_err-send_line
returns-in_err-send_line g c =
    let p = err_from_is_err_and c.from_residual.result c.from_residual.ensures.1 in
    let l = c.loop-line in
    let cells : Option Text = option_map (λ (s : Bor (List ℕ)). s.now) c.args.cells in
    let grid : Option Text = option_map (λ (s : Bor (List ℕ)). s.now) c.args.grid in
    rw p.1 (stops cells grid c.args.text.now l.row l.lines c.in-Some.rest c.in-Some.line.now p.0 _ (g.W.Write.contents l.writer) _
    c.in-Some.ensures c.if-has.ensures l.invariant (sends_other c.in_err-send_line.field-0.0 p.0 _ _ _ c.in_err-send_line.ensures))

pub loop-line-smaller : goal.loop-line-smaller
loop-line-smaller g c =
    let e : length c.loop-line.lines ≡ length (c.in-Some.line.now ∷ c.in-Some.rest) = ap length c.in-Some.ensures in
    omega (arith, e)

pub loop-line-preserved : goal.loop-line-preserved
loop-line-preserved g c =
    let l = c.loop-line in
    let cells : Option Text = option_map (λ (s : Bor (List ℕ)). s.now) c.args.cells in
    let grid : Option Text = option_map (λ (s : Bor (List ℕ)). s.now) c.args.grid in
    let w0 : Option (List ℕ) = g.W.Write.contents c.args.writer.now in
    let w2 : Option (List ℕ) = g.W.Write.contents c.send_line.new.writer in
    subst (λ (r : Option Row). Walked cells grid c.args.text.now r c.in-Some.rest w0 w2) (sym c.row_after-row.ensures)
    (goes_on cells grid c.args.text.now l.row l.lines c.in-Some.rest c.in-Some.line.now w0 (g.W.Write.contents l.writer) w2
    c.in-Some.ensures c.if-has.ensures l.invariant (sends_from _ _ _ _ c.in_ok-send_line.was c.send_line.ensures))

pub returns : goal.returns
returns g c =
    let l = c.loop-line in
    let cells : Option Text = option_map (λ (s : Bor (List ℕ)). s.now) c.args.cells in
    let grid : Option Text = option_map (λ (s : Bor (List ℕ)). s.now) c.args.grid in
    ends cells grid c.args.text.now l.row l.lines c.close.result _ (g.W.Write.contents l.writer) _ c.in_default.ensures l.invariant c.close.ensures
