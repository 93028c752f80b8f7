use Rattle.std.proofs.Common.{◌++◌, List, ap, sym, ◌∙◌, subst, refl}
use Rattle.tags.specs.declared.token.Token.{Token}
use Rattle.mesh.specs.Deeds.{created}
use Rattle.mesh.specs.Seats.{SeatView, Has}
use Rattle.mesh.proofs.Deeds.{created_same}
use Rattle.test_meshes.proofs.Held.{has_first, has_rest}
use Rattle.test_meshes.proofs.step.post.Goals as goal

pub post-requires-clause-held : goal.post-requires-clause-held
post-requires-clause-held g c = has_first _ _ _ c.requires.holds.2

pub returns-in-Ok : goal.returns-in-Ok
returns-in-Ok g c = let h = c.requires.holds in let e = c.in-Ok.ensures.ok in record {
  element = (
    ap (λ (s : SeatView). s.own.element) e.2,
    created_same _ _ _ (created c.args.seat.now.own.deeds) (ap (λ (s : SeatView). s.own.deeds) e.2)
        refl refl,
  );
  ok = (
    ap (λ (s : SeatView). s.mesh) e.2 ∙ h.0,
    ap (λ (s : SeatView). s.joined) e.2 ∙ h.1,
    subst (λ (z : List Token). Has z c.args.rest.now) (sym (ap (λ (s : SeatView). s.own.held) e.2))
        (has_rest c.args.seat.now.own.held c.args.bundle.items c.args.rest.now e.0 h.2 e.1),
  );
  err = tt;
}

pub returns-in-Err : goal.returns-in-Err
returns-in-Err g c = let h = c.requires.holds in let e = c.in-Err.ensures.err in record {
  element = (
    ap (λ (s : SeatView). s.own.element) e.1,
    created_same _ _ _ (created c.args.seat.now.own.deeds) (ap (λ (s : SeatView). s.own.deeds) e.1)
        refl refl,
  );
  ok = tt;
  err = (
    e.0,
    (
      ap (λ (s : SeatView). s.mesh) e.1 ∙ h.0,
      ap (λ (s : SeatView). s.joined) e.1 ∙ h.1,
      subst (λ (z : List Token). Has z (c.args.bundle.items ++ c.args.rest.now)) (sym (ap (λ (s : SeatView). s.own.held) e.1)) h.2,
    ),
  );
}
