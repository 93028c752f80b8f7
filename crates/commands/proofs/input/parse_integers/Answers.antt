use Rattle.std.proofs.Common.{◌≡◌, ◌+◌, ◌++◌, ◌∷◌, [], ℕ, ℤ, List, length, Ok, Err, sym, ap, ◌∙◌, rules}
use Rattle.commands.specs.Input.{integers_of}
use Rattle.commands.proofs.InputLines.{goes_on, fails, is_done, no_lines}
use Rattle.commands.proofs.input.parse_integers.Goals as goal

pub returns-in_default-literal : goal.returns-in_default-literal
returns-in_default-literal g c =
    let many : c.len.result ≡ length c.loop-line.integers.items = search rules in
    fails c.loop-line.integers.items c.loop-line.rest c.in-Some.line.now c.in-Some.after (integers_of c.args.lines.now) c.in-Some.ensures
    (sym c.literal.ensures ∙ c.in_default-literal.is) c.loop-line.invariant ∙ ap (λ (n : ℕ). Err (n + 1)) (sym many)

pub loop-line-preserved : goal.loop-line-preserved
loop-line-preserved g c =
    let items : c.push.new.self.items ≡ c.loop-line.integers.items ++ c.in-Some-literal.integer ∷ [] = search rules in
    rw items (goes_on c.loop-line.integers.items c.loop-line.rest c.in-Some.line.now c.in-Some.after c.in-Some-literal.integer
    (integers_of c.args.lines.now) c.in-Some.ensures (sym c.literal.ensures ∙ c.in-Some-literal.is) c.loop-line.invariant)

pub returns : goal.returns
returns g c = is_done c.loop-line.integers.items c.loop-line.rest (integers_of c.args.lines.now) c.in_default.ensures c.loop-line.invariant

pub returns-then-is_empty : goal.returns-then-is_empty
returns-then-is_empty g c = no_lines c.args.lines.now (search rules) ∙ ap (λ (zs : List ℤ). Ok zs) (sym c.new-integers.ensures.items)
