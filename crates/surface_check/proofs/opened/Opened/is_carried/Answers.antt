use Rattle.std.proofs.Common.{◌≡◌, ◌-◌, ℕ, [], not, length, slice_get, Some, subst}
use Rattle.source_check.specs.Steps.{since}
use Rattle.surface_check.specs.declared.frame.Kind.TheVariants as kind
use Rattle.surface_check.specs.Renamed.{numbers_in}
use Rattle.surface_check.specs.Steps.{Open, is_carried}
use Rattle.surface_check.proofs.OpenParts.{not_outside}
use Rattle.surface_check.proofs.opened.Opened.is_carried.Goals as goal

pub returns-else-contains_since : goal.returns-else-contains_since
returns-else-contains_since g c =
    let s = c.self.inside in
    let x = c.in-Some-Variable.name in
    let last : slice_get s.ends.items (length s.ends.items - 1) ≡ Some (kind.Variable x) =
    cc (c.last.ensures.value, c.copied.ensures, c.in-Some-Variable.is, c.in-Some-Variable.field-0-is, c.deref.ensures.value) in
    subst (λ (o : Open ℕ). not c.contains_since-else-contains_since.result ≡ is_carried (numbers_in []) (since o.turn.base o.scope) (since o.turn.start o.used) o.ends)
    c.self.view_is
    (not_outside (since s.turn.base s.scope) (since s.turn.start s.used) s.ends.items x c.contains_since.result c.contains_since-else-contains_since.result last
    c.contains_since.ensures c.if-contains_since.false c.contains_since-else-contains_since.ensures)
