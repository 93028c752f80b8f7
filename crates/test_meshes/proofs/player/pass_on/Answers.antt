use Rattle.std.proofs.Common.{◌≡◌, ◌+◌, ◌≤◌, ◌++◌, List, ℕ, length, ap, sym, ◌∙◌, subst, arith, rules}
use Rattle.std.proofs.lemmas.List.Elements.{All-append}
use Rattle.tags.specs.declared.token.Token.{Token}
use Rattle.tags.specs.Addresses.{element_of}
use Rattle.mesh.specs.Seats.{SeatView, Has, AllTo}
use Rattle.test_meshes.proofs.Held.{more_created, has_last, has_made}
use Rattle.test_meshes.proofs.player.pass_on.Goals as goal

pub returns-then-is_empty : goal.returns-then-is_empty
returns-then-is_empty c = (c.requires.at, has_last _ _ _ c.requires.held, c.requires.kept)

pub returns : goal.returns
returns c = let r = c.requires.at in let e = c.commit.ensures.3 in
    let same : c.deref.result.now ≡ c.in_ok-made.made.items = c.deref.ensures.value in
    let more : c.extend_from_slice.new.self.items ≡ c.args.p.now.kept.items ++ c.in_ok-made.made.items = search rules in
    let count : c.len-count.result ≡ length c.in_ok-made.made.items = search rules in
    let low = c.if-p-count.false in let high = c.if-count-gt-MOST.false in
    let few : c.args.p.now.made + c.len-count.result ≤ 1099511627776 = omega arith in
    let for_next : AllTo c.args.mesh.now.elements c.args.p.now.next c.in_ok-made.made.items = subst
    (λ (z : ℕ). AllTo z c.args.p.now.next c.in_ok-made.made.items) r.2 c.in_ok-made.ensures in (
      (
        ap (λ (s : SeatView). s.mesh) e ∙ r.0,
        ap (λ (s : SeatView). s.joined) e ∙ r.1,
        r.2,
        r.3,
        r.4,
        few,
        more_created _ _ _ _ (ap (λ (s : SeatView). s.own.deeds) e) r.6 ∙ ap (λ (z : ℕ). c.args.p.now.made + z) (ap length same ∙ sym count),
      ),
      subst (λ (z : List Token × List Token). Has z.0 z.1) (λ i. (sym (ap (λ (s : SeatView). s.own.held) e) i, sym more i))
          (subst (λ (z : List Token). Has (c.deref.result.now ++ c.commit.ensures.0) (c.args.p.now.kept.items ++ z)) same
          (has_made c.args.p.now.seat.own.held c.args.bundle.now c.args.p.now.kept.items c.deref.result.now c.commit.ensures.0 c.requires.held
          c.commit.ensures.2)),
      subst (AllTo c.args.mesh.now.elements c.args.p.now.next) (sym more) (All-append (λ (t : Token). element_of c.args.mesh.now.elements t.to
          ≡ c.args.p.now.next) c.args.p.now.kept.items c.in_ok-made.made.items c.requires.kept for_next),
    )
