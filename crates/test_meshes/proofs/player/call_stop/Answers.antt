use Rattle.std.proofs.Common.{List, ap, sym, ◌∙◌, subst, refl}
use Rattle.tags.specs.declared.token.Token.{Token}
use Rattle.mesh.specs.Seats.{SeatView, Has}
use Rattle.mesh.proofs.Deeds.{created_same}
use Rattle.test_meshes.proofs.player.call_stop.Goals as goal

pub returns : goal.returns
returns c = let r = c.requires in let e = c.stop-set.ensures.found.1 in (
  (
    ap (λ (s : SeatView). s.mesh) e ∙ r.0.0,
    ap (λ (s : SeatView). s.joined) e ∙ r.0.1,
    r.0.2,
    r.0.3,
    r.0.4,
    r.0.5,
    created_same _ _ _ _
        (ap (λ (s : SeatView). s.own.deeds) e) refl r.0.6,
  ),
  subst (λ (z : List Token). Has z c.args.p.now.kept.items) (sym (ap (λ (s : SeatView). s.own.held) e)) r.1,
  r.2,
)
