use Rattle.std.proofs.Common.{◌≡◌, List, [], ap, sym, ◌∙◌, subst, refl}
use Rattle.std.proofs.lemmas.List.Elements.{All-nil}
use Rattle.tags.specs.declared.token.Token.{Token}
use Rattle.tags.specs.Addresses.{element_of}
use Rattle.mesh.specs.Seats.{SeatView, Has, AllTo}
use Rattle.mesh.proofs.Deeds.{created_same}
use Rattle.test_meshes.proofs.Held.{has_nothing}
use Rattle.test_meshes.proofs.player.offer.Goals as goal

pub returns-in-Err : goal.returns-in-Err
returns-in-Err c = let r = c.requires in let e = c.in-Err.ensures.err in
    let same : c.in-Err.back.items ≡ c.args.p.now.kept.items = ap (λ v. v.items) (e.0 ∙ c.replace-bundle.ensures.value) in (
      (
        ap (λ (s : SeatView). s.mesh) e.1 ∙ r.0.0,
        ap (λ (s : SeatView). s.joined) e.1 ∙ r.0.1,
        r.0.2,
        r.0.3,
        r.0.4,
        r.0.5,
        created_same _ _ _ _
            (ap (λ (s : SeatView). s.own.deeds) e.1) refl r.0.6,
      ),
      subst (λ (z : List Token × List Token). Has z.0 z.1) (λ i. (sym (ap (λ (s : SeatView). s.own.held) e.1) i, sym same i)) r.1,
      subst (λ (z : List Token). AllTo c.args.mesh.now.elements c.args.p.now.next z) (sym same) r.2,
    )

pub returns-in_default : goal.returns-in_default
returns-in_default c = let r = c.requires in let e = c.in_default.ensures.ok in
    let none : c.replace-bundle.new.dest.items ≡ [] = ap (λ v. v.items) c.replace-bundle.ensures.after ∙ c.new.ensures.items in (
      (
        ap (λ (s : SeatView). s.mesh) e.2 ∙ r.0.0,
        ap (λ (s : SeatView). s.joined) e.2 ∙ r.0.1,
        r.0.2,
        r.0.3,
        r.0.4,
        r.0.5,
        created_same _ _ _ _
            (ap (λ (s : SeatView). s.own.deeds) e.2) refl r.0.6,
      ),
      subst (Has c.post.new.seat.own.held) (sym none) (has_nothing c.post.new.seat.own.held),
      subst (λ (z : List Token). AllTo c.args.mesh.now.elements c.args.p.now.next z) (sym none)
          (All-nil (λ (t : Token). element_of c.args.mesh.now.elements t.to ≡ c.args.p.now.next)),
    )
