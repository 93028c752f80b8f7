use Rattle.std.proofs.Common.{◌++◌, List, ap, sym, ◌∙◌, subst, refl}
use Rattle.tags.specs.declared.token.Token.{Token}
use Rattle.mesh.specs.Deeds.{created}
use Rattle.mesh.specs.Seats.{SeatView, Has}
use Rattle.mesh.proofs.Deeds.{created_same}
use Rattle.test_meshes.proofs.Held.{has_more_last}
use Rattle.test_meshes.proofs.step.take.Goals as goal

pub returns-in-Some : goal.returns-in-Some
returns-in-Some g c = let h = c.requires.holds in let e = c.in-Some.ensures.some in record {
  element = (
    ap (λ (s : SeatView). s.own.element) e.0,
    created_same _ _ _ (created c.args.seat.now.own.deeds) (ap (λ (s : SeatView). s.own.deeds) e.0)
        refl refl,
  );
  some = (
    (
      ap (λ (s : SeatView). s.mesh) e.0 ∙ h.0,
      ap (λ (s : SeatView). s.joined) e.0 ∙ h.1,
      subst (λ (z : List Token). Has z (c.args.rest.now ++ c.in-Some.bundle.items)) (sym (ap (λ (s : SeatView). s.own.held) e.0))
          (has_more_last c.args.seat.now.own.held c.in-Some.bundle.items c.args.rest.now h.2),
    ),
    e.1,
  );
  none = tt;
}

pub returns-in-None : goal.returns-in-None
returns-in-None g c = let h = c.requires.holds in let e = c.in-None.ensures.none in record {
  element = (ap (λ (s : SeatView). s.own.element) e, created_same _ _ _ (created c.args.seat.now.own.deeds) (ap (λ (s : SeatView). s.own.deeds) e) refl refl);
  some = tt;
  none = (
    ap (λ (s : SeatView). s.mesh) e ∙ h.0,
    ap (λ (s : SeatView). s.joined) e ∙ h.1,
    subst (λ (z : List Token). Has z c.args.rest.now) (sym (ap (λ (s : SeatView). s.own.held) e)) h.2,
  );
}
