use Rattle.std.proofs.Common.{List, ℕ, sym, ap, subst, ◌∙◌, rules}
use Rattle.object_view.specs.Reading.{AreBytes}
use Rattle.object_view.specs.Checks.{checked}
use Rattle.object_view.proofs.Passed.{never_early}
use Rattle.object_view.proofs.object.Object.of_checked.Goals as goal

pub unreachable-requires : goal.unreachable-requires
unreachable-requires c = never_early c.args.bytes.now c.in-Err.field-0 c.requires c.in-Err.ensures.checked

pub invariant_of-result : goal.invariant_of-result
invariant_of-result c =
    let same = c.in-Ok.ensures.same in
    (ap checked same ∙ c.requires, subst (λ (bs : List ℕ). AreBytes bs) (sym same) (search rules))
