use Rattle.std.proofs.Common.{◌≡◌, ◌+◌, ◌∙◌, ℕ, suc, List, Bor, Option, Some, None, option_map, ap, sym, arith, drop, map}
use Rattle.command_line.specs.Files.{option_value}
use Rattle.command_line.proofs.Walks.{none_after}
use Rattle.command_line.proofs.Givens.{found_at, no_value}
use Rattle.command_line.proofs.given.option_value.Goals as goal

pub returns-in-Some : goal.returns-in-Some
returns-in-Some g c =
    found_at g.S.AsStr.text c.args.words.now c.loop-i.i c.index-words-i.result c.loop-i-test.true c.index-words-i.is c.args.name.now
    c.as_str.result.now (Some (option_map (λ (s : Bor (List ℕ)). s.now) c.in-Some.value)) _ (sym c.as_str.ensures)
    (sym (ap (option_map (λ (v : Option (Bor (List ℕ))). option_map (λ s. s.now) v)) c.in-Some.is) ∙ c.value_found.ensures) c.loop-i.invariant

pub loop-i-preserved : goal.loop-i-preserved
loop-i-preserved g c =
    let next : c.loop-i.i + 1 ≡ suc c.loop-i.i = omega arith in
    ap (λ (n : ℕ). option_value c.args.name.now (drop n (map g.S.AsStr.text c.args.words.now))) next
    ∙ found_at g.S.AsStr.text c.args.words.now c.loop-i.i c.index-words-i.result c.loop-i-test.true c.index-words-i.is c.args.name.now
    c.as_str.result.now None _ (sym c.as_str.ensures)
    (sym (ap (option_map (λ (v : Option (Bor (List ℕ))). option_map (λ s. s.now) v)) c.in_default.is) ∙ c.value_found.ensures) c.loop-i.invariant

pub returns : goal.returns
returns g c =
    sym (no_value c.args.name.now)
    ∙ ap (option_value c.args.name.now) (sym (none_after g.S.AsStr.text c.args.words.now c.loop-i.i c.loop-i-test.false))
    ∙ c.loop-i.invariant
