use Rattle.std.proofs.Common.{◌≡◌, ◌∙◌, sym, ap, subst, ◌+◌, ◌<◌, ◌∷◌, [], List, length, map, drop, arith}
use Rattle.std.specs.Prelude.{All}
use Rattle.std.proofs.lemmas.List.{drop_more}
use Rattle.std.proofs.lemmas.List.Elements.{All-head, All-tail}
use Rattle.tags.specs.declared.token.Token.{Token}
use Rattle.element.specs.Holding.{Holding, Fixed, held_of, fixed_of}
use Rattle.schedule.specs.State.{AllFrom, IsAt, IsNearIn, delivered}
use Rattle.schedule.proofs.Memory.{delivered_at, arrived_more}
use Rattle.schedule.proofs.delivery.deliver_all.Goals as goal

pub loop-place-preserved : goal.loop-place-preserved
loop-place-preserved g c =
    let old = c.loop-place.lanes.items in
    let new = c.receive_packed.new.lanes.items in
    let got : map held_of new ≡ delivered (c.index-token.result.now ∷ []) (map held_of old) = c.in-Ok.ensures.ok in
    let end = c.len-place-end.ensures in
    let low : c.loop-place.place < length c.args.sent.now.items = omega arith in
    let fs = map fixed_of c.args.lanes.now.items in
    let t = c.index-token.result.now in
    let k = c.loop-place.place in
    let first : drop k c.args.sent.now.items ≡ t ∷ drop (k + 1) c.args.sent.now.items = drop_more c.args.sent.now.items k t low
    ∙ ap (λ (u : Token). u ∷ drop (k + 1) c.args.sent.now.items) (sym c.index-token.ensures) in
    record {
      fixed = c.receive_packed.ensures.fixed ∙ c.loop-place.invariant.fixed;
      near = All-tail (IsNearIn fs) t (drop (k + 1) c.args.sent.now.items) (subst (λ (ts : List Token). All (IsNearIn fs) ts) first
          c.loop-place.invariant.near);
      count = c.receive_packed.ensures.count ∙ c.loop-place.invariant.count;
      at = subst (λ (l : List Holding). AllFrom (IsAt c.args.elements) 0 l) (sym got) (delivered_at c.args.elements 0 (c.index-token.result.now ∷ [])
          (map held_of old) c.loop-place.invariant.at);
      same = arrived_more old new c.args.sent.now.items c.loop-place.place c.index-token.result.now low c.index-token.ensures got ∙ c.loop-place.invariant.same;
    }

pub receive_packed-requires-clause-near : goal.receive_packed-requires-clause-near
receive_packed-requires-clause-near g c =
    let fs = map fixed_of c.args.lanes.now.items in
    let t = c.index-token.result.now in
    let k = c.loop-place.place in
    let end = c.len-place-end.ensures in
    let low : k < length c.args.sent.now.items = omega arith in
    let first : drop k c.args.sent.now.items ≡ t ∷ drop (k + 1) c.args.sent.now.items = drop_more c.args.sent.now.items k t low
    ∙ ap (λ (u : Token). u ∷ drop (k + 1) c.args.sent.now.items) (sym c.index-token.ensures) in
    let near = All-head (IsNearIn fs) t (drop (k + 1) c.args.sent.now.items) (subst (λ (ts : List Token). All (IsNearIn fs) ts) first
    c.loop-place.invariant.near) in
    subst (λ (l : List Fixed). IsNearIn l t) (sym c.loop-place.invariant.fixed) near

pub returns-in-Err-clause-fixed : goal.returns-in-Err-clause-fixed
returns-in-Err-clause-fixed g c = c.receive_packed.ensures.fixed ∙ c.loop-place.invariant.fixed

pub returns-clause-fixed : goal.returns-clause-fixed
returns-clause-fixed g c = c.loop-place.invariant.fixed
