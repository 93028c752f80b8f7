use Rattle.std.proofs.Common.{◌≡◌, refl, sym, ◌∙◌, ap, subst, ◌<◌, ◌≤◌, ◌∷◌, ◌+◌, [], List, length, drop, arith}
use Rattle.std.proofs.lemmas.List.{drop_all, drop_more}
use Rattle.std.proofs.lemmas.List.Elements.{All-head, All-tail}
use Rattle.std.specs.Prelude.{All}
use Rattle.element.specs.Holding.{Holding, Fixed}
use Rattle.tags.specs.declared.token.Token.{Token}
use Rattle.schedule.specs.State.{AllFrom, IsAt, IsNearIn, delivered}
use Rattle.schedule.proofs.Memory.{delivered_at}
use Rattle.rounds.specs.Rounds.{lanes_held, lanes_fixed}
use Rattle.rounds.proofs.Rounding.{arrived_more, err_any}
use Rattle.rounds.proofs.delivering.deliver_all.Goals as goal

pub returns-in_err-receive-clause-same : goal.returns-in_err-receive-clause-same
returns-in_err-receive-clause-same g c =
    let rest = drop c.loop-place.place c.args.tokens.now.items in (
      rest,
      ap (λ (l : List Holding). delivered rest l) c.in_err-receive.ensures.err ∙ c.loop-place.invariant.same,
      err_any c.from_residual.result
          (rest ≡ []) c.from_residual.ensures.0,
    )

pub loop-place-preserved : goal.loop-place-preserved
loop-place-preserved g c =
    let old = c.loop-place.turners.items in
    let new = c.receive.new.turners.items in
    let tokens = c.args.tokens.now.items in
    let t = c.index-token.result.now in
    let inv = c.loop-place.invariant in
    let got = c.in_ok-receive.ensures.ok in
    let end = c.len-place-end.ensures in
    let low : c.loop-place.place < length tokens = omega arith in
    let fs = lanes_fixed c.args.turners.now.items in
    let k = c.loop-place.place in
    let first : drop k tokens ≡ t ∷ drop (k + 1) tokens = drop_more tokens k t low ∙ ap (λ (u : Token). u ∷ drop (k + 1) tokens) (sym c.index-token.ensures) in
    record {
      fixed = c.receive.ensures.fixed ∙ inv.fixed;
      near = All-tail (IsNearIn fs) t (drop (k + 1) tokens) (subst (λ (l : List Token). All (IsNearIn fs) l) first inv.near);
      same = arrived_more {C = g.row.C.Denot} {A = g.row.A.Denot} {L = g.row.L.Denot} old new tokens c.loop-place.place t low c.index-token.ensures got
          ∙ inv.same;
      at = subst (λ (l : List Holding). AllFrom (IsAt c.args.elements) 0 l) (sym got) (delivered_at c.args.elements 0 (t ∷ []) (lanes_held old) inv.at);
      sent = c.receive.ensures.sent ∙ inv.sent;
      noted = c.receive.ensures.events ∙ inv.noted;
      halts = c.receive.ensures.halts ∙ inv.halts;
      count = c.receive.ensures.count ∙ inv.count;
    }

pub returns-clause-same : goal.returns-clause-same
returns-clause-same g c =
    let tokens = c.args.tokens.now.items in
    let end = c.len-place-end.ensures in
    let past : length tokens ≤ c.loop-place.place = (let t = c.loop-place-test.false in omega arith) in (
      [],
      ap (λ (l : List Token). delivered l (lanes_held c.loop-place.turners.items)) (sym (drop_all c.loop-place.place tokens past))
          ∙ c.loop-place.invariant.same,
      refl,
    )

pub receive-requires-clause-near : goal.receive-requires-clause-near
receive-requires-clause-near g c =
    let fs = lanes_fixed c.args.turners.now.items in
    let tokens = c.args.tokens.now.items in
    let t = c.index-token.result.now in
    let k = c.loop-place.place in
    let end = c.len-place-end.ensures in
    let low : k < length tokens = omega arith in
    let first : drop k tokens ≡ t ∷ drop (k + 1) tokens = drop_more tokens k t low ∙ ap (λ (u : Token). u ∷ drop (k + 1) tokens) (sym c.index-token.ensures) in
    let near = All-head (IsNearIn fs) t (drop (k + 1) tokens) (subst (λ (l : List Token). All (IsNearIn fs) l) first c.loop-place.invariant.near) in
    subst (λ (l : List Fixed). IsNearIn l t) (sym c.loop-place.invariant.fixed) near
