use Rattle.std.proofs.Common.{◌++◌, List, ap, sym, ◌∙◌, subst, refl}
use Rattle.tags.specs.declared.token.Token.{Token}
use Rattle.mesh.specs.Seats.{SeatView, Has}
use Rattle.test_meshes.proofs.Held.{more_created, has_first, has_made_first}
use Rattle.test_meshes.proofs.step.commit.Goals as goal

pub commit_counts-requires-clause-held : goal.commit_counts-requires-clause-held
commit_counts-requires-clause-held g c = has_first _ _ _ c.requires.holds.2

pub returns : goal.returns
returns g c = let h = c.requires.holds in let e = c.commit_counts.ensures.3 in record {
  element = ap (λ (s : SeatView). s.own.element) e;
  holds = (
    ap (λ (s : SeatView). s.mesh) e ∙ h.0,
    ap (λ (s : SeatView). s.joined) e ∙ h.1,
    subst (λ (z : List Token). Has z (c.args.made.now ++ c.args.rest.now)) (sym (ap (λ (s : SeatView). s.own.held) e))
        (has_made_first c.args.seat.now.own.held c.args.spent.now c.args.rest.now c.args.made.now c.commit_counts.ensures.0 h.2 c.commit_counts.ensures.2),
  );
  made = more_created _ _ _ _ (ap (λ (s : SeatView). s.own.deeds) e) refl;
}
