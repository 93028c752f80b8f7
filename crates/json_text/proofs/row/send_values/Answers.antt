use Rattle.std.proofs.Common.{arith, ◌≡◌, ℕ, suc, ◌+◌, ◌-◌, List, Option, length, refl, subst, sym}
use Rattle.std.proofs.lemmas.Result.{err_from_is_err_and}
use Rattle.json_text.specs.Json.{after_value, next_value, values_text}
use Rattle.json_text.proofs.Steps.{Walked, ends, goes_on, stops}
use Rattle.json_text.proofs.Walk.{more_values, no_values}
use Rattle.json_text.proofs.row.send_values.Goals as goal

pub returns-in_err-send_next : goal.returns-in_err-send_next
returns-in_err-send_next g c =
    let p = err_from_is_err_and c.from_residual.result c.from_residual.ensures.1 in
    let l = c.loop in
    let left : List ℕ = l.left.now in
    let n : ℕ = length c.args.words.now in
    let e : n - l.counter ≡ suc (n - (l.counter + 1)) = omega (arith, c.loop-test.true) in
    rw p.1 (stops c.in_err-send_next.field-0.0 p.0 (values_text n c.args.words.now) (values_text (n - l.counter) left) (next_value left)
    (values_text (n - (l.counter + 1)) (after_value left)) _ _ _ (more_values (n - l.counter) (n - (l.counter + 1)) left e) l.invariant.1
    c.in_err-send_next.ensures)

pub loop-preserved : goal.loop-preserved
loop-preserved g c =
    let l = c.loop in
    let left : List ℕ = l.left.now in
    let n : ℕ = length c.args.words.now in
    let whole : List ℕ = values_text n c.args.words.now in
    let e : n - l.counter ≡ suc (n - (l.counter + 1)) = omega (arith, c.loop-test.true) in
    let w0 : Option (List ℕ) = g.W.Write.contents c.args.writer.now in
    let w2 : Option (List ℕ) = g.W.Write.contents c.send_next.new.writer in (
      omega (arith, c.loop-test.true),
      subst (λ (w : List ℕ). Walked whole (values_text (n - (l.counter + 1)) w) w0 w2) (sym c.after_value-left.ensures)
          (goes_on c.send_next.result whole (values_text (n - l.counter) left) (next_value left) (values_text (n - (l.counter + 1)) (after_value left)) w0 _ w2
          (more_values (n - l.counter) (n - (l.counter + 1)) left e) c.in_ok-send_next.was l.invariant.1 c.send_next.ensures),
    )

pub returns : goal.returns
returns g c =
    let l = c.loop in
    let left : List ℕ = l.left.now in
    let n : ℕ = length c.args.words.now in
    let none : n - l.counter ≡ 0 = omega (arith, l.invariant.0, c.loop-test.false) in
    ends _ tt (values_text n c.args.words.now) (values_text (n - l.counter) left) _ _ refl (no_values (n - l.counter) left none) l.invariant.1
