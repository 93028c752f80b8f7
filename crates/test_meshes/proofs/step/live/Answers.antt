use Rattle.std.proofs.Common.{List, ap, sym, ◌∙◌, subst, refl}
use Rattle.tags.specs.declared.token.Token.{Token}
use Rattle.mesh.specs.Deeds.{created}
use Rattle.mesh.specs.Seats.{SeatView, Has}
use Rattle.mesh.proofs.Deeds.{created_same}
use Rattle.test_meshes.proofs.step.live.Goals as goal

pub returns : goal.returns
returns g c = let h = c.requires.holds in let e = c.live.ensures.counts.1 in record {
  element = (ap (λ (s : SeatView). s.own.element) e, created_same _ _ _ (created c.args.seat.now.own.deeds) (ap (λ (s : SeatView). s.own.deeds) e) refl refl);
  holds = (
    ap (λ (s : SeatView). s.mesh) e ∙ h.0,
    ap (λ (s : SeatView). s.joined) e ∙ h.1,
    subst (λ (z : List Token). Has z c.args.rest.now) (sym (ap (λ (s : SeatView). s.own.held) e)) h.2,
  );
}
