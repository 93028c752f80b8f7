use Rattle.std.proofs.Common.{◌≡◌, ◌+◌, ◌-◌, ◌<◌, ◌++◌, ℕ, List, All, ap, sym, ◌∙◌, arith, subst}
use Rattle.std.proofs.lemmas.List.Elements.{All-push}
use Rattle.commands.specs.Ordered.{next_number, number_after, picks_from}
use Rattle.commands.proofs.Drawn.{drawn_all, drawn_more, after_all, after_more}
use Rattle.commands.proofs.drawing.draw.Goals as goal

pub loop-drawn-preserved : goal.loop-drawn-preserved
loop-drawn-preserved g c =
    let so = c.loop-drawn.invariant in
    let low : c.loop-drawn._drawn < c.args.count = omega (arith, c.loop-drawn-test.true) in
    let next = c.next_number-number.ensures ∙ ap next_number c.next_number.ensures in
    record {
      drawn = subst (λ (l : List (ℕ × ℕ)). l ++ picks_from c.args.elements (c.args.count - (c.loop-drawn._drawn + 1)) c.next_number-number.result
          ≡ picks_from c.args.elements c.args.count c.args.first)
          (sym c.in_ok-push.ensures.items)
          (drawn_more c.args.elements c.args.count c.loop-drawn._drawn c.loop-drawn.number c.next_number-number.result c.loop-drawn.picks.items _
          c.pick_of.result low c.pick_of.ensures.exact next so.drawn);
      below = subst (λ (l : List (ℕ × ℕ)). All (λ (pick : ℕ × ℕ). pick.0 < c.args.elements) l) (sym c.in_ok-push.ensures.items)
          (All-push (λ (pick : ℕ × ℕ). pick.0 < c.args.elements) c.loop-drawn.picks.items c.pick_of.result so.below c.pick_of.ensures.below);
      next = ap (λ (n : ℕ). number_after (c.args.count - (c.loop-drawn._drawn + 1)) n) next
          ∙ sym (after_more c.args.count c.loop-drawn._drawn c.loop-drawn.number low) ∙ so.next;
    }

pub returns-clause-drawn : goal.returns-clause-drawn
returns-clause-drawn g c = drawn_all c.args.elements c.args.count c.loop-drawn._drawn c.loop-drawn.number c.loop-drawn.picks.items _
    (omega (arith, c.loop-drawn-test.false)) c.loop-drawn.invariant.drawn

pub returns-clause-next : goal.returns-clause-next
returns-clause-next g c = sym (after_all c.args.count c.loop-drawn._drawn c.loop-drawn.number (omega (arith, c.loop-drawn-test.false)))
    ∙ c.loop-drawn.invariant.next
