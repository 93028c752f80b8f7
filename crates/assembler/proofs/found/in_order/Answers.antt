use Rattle.std.proofs.Common.{◌≡◌, ℤ, [], ◌∷◌, ◌++◌, ap, sym, ◌∙◌, subst, All, append_assoc, rules}
use Rattle.std.specs.Prelude.{FitsSigned, Ok}
use Rattle.std.specs.Int.{w64}
use Rattle.std.proofs.lemmas.Int.{to_z-of_z}
use Rattle.std.proofs.lemmas.List.{append-nil}
use Rattle.std.proofs.lemmas.Map.Iter.{rest_more, rest_all}
use Rattle.std.proofs.lemmas.List.Elements.{All-push}
use Rattle.assembler.proofs.found.in_order.Goals as goal

pub loop-literal-preserved : goal.loop-literal-preserved
loop-literal-preserved g c =
    let x = c.in-Some.literal in
    let rest = c.next.new.self in
    let done = c.loop-literal.literals.items in
    let more = c.push.new.self.items in
    let next : c.loop-literal.literal-iterator ≡ x ∷ rest = rest_more (λ y. y) c.loop-literal.literal-iterator rest c.next.result x c.in-Some.is
    c.next.ensures.steps in
    let fits : FitsSigned w64 x = (let h = rw c.in-Some.is at c.next.type_inv in search (rules, h)) in
    let made : more ≡ done ++ x ∷ [] = c.in_ok-push.ensures.items ∙ ap (λ (z : ℤ). done ++ z ∷ []) (to_z-of_z w64 x fits) in (
      ap (λ zs. zs ++ rest) made ∙ append_assoc done (x ∷ []) rest ∙ ap (λ zs. done ++ zs) (sym next) ∙ c.loop-literal.invariant.0,
      subst (All (λ (z : ℤ). FitsSigned w64 z)) (sym made) (All-push (λ (z : ℤ). FitsSigned w64 z) done x c.loop-literal.invariant.1 fits),
    )

pub returns : goal.returns
returns g c =
    let done = c.loop-literal.literals.items in
    let rest : c.loop-literal.literal-iterator ≡ [] = rest_all (λ y. y) c.loop-literal.literal-iterator c.next.new.self c.next.result c.in-None.is
    c.next.ensures.steps in
    let all : done ≡ c.args.set.keys = sym (append-nil done) ∙ ap (λ zs. done ++ zs) (sym rest) ∙ c.loop-literal.invariant.0 in
    ap Ok (sym all)
