use Rattle.std.proofs.Common.{◌≡◌, List, ap, sym, subst, ◌==◌, filter, ℕ}
use Rattle.std.proofs.lemmas.List.Elements.{filter_passes}
use Rattle.std.proofs.lemmas.Bool.{eqb-true}
use Rattle.tags.specs.declared.token.Token.{Token}
use Rattle.tags.specs.Addresses.{element_of}
use Rattle.mesh.specs.Seats.{SeatView, AllTo}
use Rattle.test_meshes.proofs.player.Player.new.Goals as goal

-- what passes the test for an element is its own
theirs : (n m e : ℕ) (ts own : List Token) → own ≡ filter (λ (t : Token). element_of n t.to == e) ts → n ≡ m → AllTo m e own
theirs n m e ts own is same = subst (λ (z : ℕ × List Token). AllTo z.0 e z.1) (λ i. (same i, sym is i))
    (λ k d lk. let passes = filter_passes (λ (t : Token). element_of n t.to == e) ts k d lk in eqb-true _ _ passes)

pub pass_on-requires-clause-mine : goal.pass_on-requires-clause-mine
pass_on-requires-clause-mine c =
    subst (AllTo c.args.mesh.now.elements c.args.seat.own.element) (sym c.deref.ensures.value)
    (subst (λ (z : ℕ). AllTo c.args.mesh.now.elements z c.in_ok-own.own.items) (sym (ap (λ (s : SeatView). s.own.element) c.requires.seat))
    (theirs c.args.elements c.args.mesh.now.elements c.args.element c.args.start.now c.in_ok-own.own.items c.in_ok-own.ensures c.requires.mesh.0))
