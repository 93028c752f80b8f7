use Rattle.std.proofs.Common.{◌≡◌, ◌==◌, ℕ, Bool, true, false, refl, ap, sym, if◌then◌else◌, eq-eqb, eqb-true}
use Rattle.profile_text.specs.ProfileText.{bounded_line, plain_line}
use Rattle.sink.proofs.Sent.{sends_same}
use Rattle.profile_text.proofs.sufficient.send_number.Goals as goal

not_zero : (t : ℕ) → (t ≡ 0 → ⊥) → (t == 0) ≡ false
not_zero t h = go (t == 0) refl
  where
    go : (b : Bool) → (t == 0) ≡ b → b ≡ false
    go true e = absurd (h (eqb-true t 0 e))
    go false e = refl

pub returns-then-iterations-eq0 : goal.returns-then-iterations-eq0
returns-then-iterations-eq0 g c =
    let what = c.args.what.now in
    let t = c.args.iterations in
    let n = c.args.number in
    sends_same c.send_plain.result _ _ _ _ (ap (λ (b : Bool). if b then plain_line what n else bounded_line what t n) (sym (eq-eqb t 0
    c.if-iterations-eq0.true))) c.send_plain.ensures

pub returns-else-iterations-eq0 : goal.returns-else-iterations-eq0
returns-else-iterations-eq0 g c =
    let what = c.args.what.now in
    let t = c.args.iterations in
    let n = c.args.number in
    sends_same c.send_bounded.result _ _ _ _ (ap (λ (b : Bool). if b then plain_line what n else bounded_line what t n) (sym (not_zero t
    c.if-iterations-eq0.false))) c.send_bounded.ensures
