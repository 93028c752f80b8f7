use Rattle.std.proofs.Common.{◌≡◌, ◌∙◌, ℤ, ap, rules}
use Rattle.std.specs.BTreeSet.{contains_by}
use Rattle.std.specs.Ordering.{int_cmp}
use mir.Val.{to_z, of_z}
use mir.Syntax.{w64}
use Rattle.assembler.proofs.checks.has_literal.Goals as goal

pub returns : goal.returns
returns g c =
    let read : ℤ = c.args.literal in
    let x : ℤ = to_z w64 (of_z w64 read) in
    let same : x ≡ read = search rules in
    c.contains.ensures ∙ ap (λ (z : ℤ). contains_by (int_cmp z) c.args.literals.now) same ∙ c.requires read
