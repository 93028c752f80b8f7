use Rattle.std.proofs.Common.{◌≡◌, sym, ◌∙◌, ap, subst, ◌+◌, ◌<◌, List, [], ◌∷◌, length, length-append, get_or, arith}
use Rattle.ordering.specs.declared.rest.Rest.{Rest}
use Rattle.ordering.specs.Orders.{AreWholeSoFar}
use Rattle.ordering.proofs.Placing.{whole_pushed}
use Rattle.ordering.proofs.legal_order.rests_of.Goals as goal

pub loop-at-preserved : goal.loop-at-preserved
loop-at-preserved g c =
    let rests = c.loop-at.rests.items in
    let logs = c.args.logs.now in
    let log = c.index-logs-at.result in
    let count : length rests ≡ c.loop-at.at = c.loop-at.invariant.0 in
    let low : length rests < length logs = (let t = c.loop-at-test.true in omega arith) in
    let pushed = c.in_ok-push.ensures.items in
    let longer = length-append rests (c.of.result ∷ []) in
    let here = subst (λ n. log ≡ get_or logs n log) (sym count) c.index-logs-at.is in (
      ap (λ (l : List Rest). length l) pushed ∙ longer ∙ ap (λ n. n + 1) count,
      subst (AreWholeSoFar logs) (sym pushed) (whole_pushed logs rests log c.of.result low here c.of.ensures c.loop-at.invariant.1),
    )

pub returns : goal.returns
returns g c = (
  (let n = c.loop-at.invariant.0 in let t = c.loop-at-test.false in let a = c.loop-at.auto.at-end in omega arith),
  c.loop-at.invariant.1,
)
