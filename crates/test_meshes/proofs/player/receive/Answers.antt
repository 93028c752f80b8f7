use Rattle.std.proofs.Common.{◌≡◌, ◌++◌, List, ap, sym, ◌∙◌, subst, refl, rules}
use Rattle.tags.specs.declared.token.Token.{Token}
use Rattle.mesh.specs.Seats.{SeatView, Has}
use Rattle.mesh.proofs.Deeds.{created_same}
use Rattle.test_meshes.proofs.Held.{has_more}
use Rattle.test_meshes.proofs.player.receive.Goals as goal

pub pass_on-requires-clause-at : goal.pass_on-requires-clause-at
pass_on-requires-clause-at c = let r = c.requires in let e = c.in-Some.ensures.some.0 in (
  ap (λ (s : SeatView). s.mesh) e ∙ r.0.0,
  ap (λ (s : SeatView). s.joined) e ∙ r.0.1,
  r.0.2,
  r.0.3,
  r.0.4,
  r.0.5,
  created_same _ _ _ _
      (ap (λ (s : SeatView). s.own.deeds) e) refl r.0.6,
)

pub pass_on-requires-clause-held : goal.pass_on-requires-clause-held
pass_on-requires-clause-held c = let e = c.in-Some.ensures.some.0 in
    let same : c.deref.result.now ≡ c.in-Some.bundle.items = search rules in
    subst (λ (z : List Token). Has z (c.deref.result.now ++ c.args.p.now.kept.items)) (sym (ap (λ (s : SeatView). s.own.held) e))
    (subst (λ (z : List Token). Has (c.in-Some.bundle.items ++ c.args.p.now.seat.own.held) (z ++ c.args.p.now.kept.items)) (sym same)
    (has_more c.args.p.now.seat.own.held c.in-Some.bundle.items c.args.p.now.kept.items c.requires.1))

pub returns-in-None : goal.returns-in-None
returns-in-None c = let r = c.requires in let e = c.in-None.ensures.none in (
  (
    ap (λ (s : SeatView). s.mesh) e ∙ r.0.0,
    ap (λ (s : SeatView). s.joined) e ∙ r.0.1,
    r.0.2,
    r.0.3,
    r.0.4,
    r.0.5,
    created_same _ _ _ _
        (ap (λ (s : SeatView). s.own.deeds) e) refl r.0.6,
  ),
  subst (λ (z : List Token). Has z c.args.p.now.kept.items) (sym (ap (λ (s : SeatView). s.own.held) e)) r.1,
  r.2,
)
