use Rattle.std.proofs.Common.{◌≡◌, ℤ, [], ◌∷◌, ◌++◌, ap, sym, ◌∙◌, rules}
use Rattle.std.specs.Prelude.{Some, slice_get, FitsSigned}
use Rattle.std.specs.Int.{w64}
use Rattle.std.proofs.lemmas.Int.{to_z-of_z}
use Rattle.lemmas.proofs.Lists.{taken_next}
use Rattle.object_view.proofs.taking.literals_of.Goals as goal

pub loop-number-preserved : goal.loop-number-preserved
loop-number-preserved g c =
    let x = c.in-Some.literal in
    let done = c.loop-number.literals.items in
    let is : slice_get c.args.object.now.code.literals c.loop-number.number ≡ Some x = sym c.literal.ensures ∙ c.in-Some.is in
    let fits : FitsSigned w64 x = (let h = rw c.in-Some.is at c.literal.type_inv in search (rules, h)) in
    taken_next c.loop-number.number c.args.object.now.code.literals done c.push.new.self.items x is c.loop-number.invariant
    (c.in_ok-push.ensures.items ∙ ap (λ (z : ℤ). done ++ z ∷ []) (to_z-of_z w64 x fits))
