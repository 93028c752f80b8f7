use Rattle.std.proofs.Common.{◌≡◌, refl, sym, ap, ◌∙◌, subst, ◌+◌, ◌<◌, [], ◌∷◌, ◌++◌, map, length, get_or, arith, Some}
use Rattle.std.specs.Prelude.{slice_get}
use Rattle.std.proofs.lemmas.Option.{slice_get_read}
use Rattle.std.proofs.lemmas.List.{map-append, length-map, length_push}
use Rattle.slot_alloc.specs.Assigned.{IsAssigned}
use Rattle.slot_alloc.proofs.Steps.{AssignedBelow, assigned_more, assigned_all, refused_first}
use Rattle.slot_alloc.proofs.assign.Goals as goal

pub returns-in-Err-clause-refused : goal.returns-in-Err-clause-refused
returns-in-Err-clause-refused g c =
    let p = c.args.plan.now in
    let bs = p.program.blocks in
    let n = c.loop-number.number in
    let items : c.blocks_of-block-items.result.now ≡ bs = c.blocks_of-block-items.ensures in
    let lt : n < length bs = subst (λ zs. n < length zs) items c.loop-number-test.true in
    let is : c.block-item.result ≡ get_or bs n c.block-item.result = c.block-item.is ∙ ap (λ zs. get_or zs n c.block-item.result) items in
    let at : slice_get bs n ≡ Some c.block-item.result = slice_get_read bs (length bs) n c.block-item.result refl lt is in
    refused_first p n (map (λ v. v.items) c.loop-number.lists.items) c.block-item.result c.in-Err.fault at c.loop-number.invariant.0 c.in-Err.ensures.refused

pub loop-number-preserved : goal.loop-number-preserved
loop-number-preserved g c =
    let p = c.args.plan.now in
    let bs = p.program.blocks in
    let n = c.loop-number.number in
    let items : c.blocks_of-block-items.result.now ≡ bs = c.blocks_of-block-items.ensures in
    let lt : n < length bs = subst (λ zs. n < length zs) items c.loop-number-test.true in
    let is : c.block-item.result ≡ get_or bs n c.block-item.result = c.block-item.is ∙ ap (λ zs. get_or zs n c.block-item.result) items in
    let at : slice_get bs n ≡ Some c.block-item.result = slice_get_read bs (length bs) n c.block-item.result refl lt is in
    let old = c.loop-number.lists.items in
    let pushed : c.push.new.self.items ≡ old ++ c.in-Ok.list ∷ [] = c.in_ok-push-in-Ok.ensures.items in
    let views : map (λ v. v.items) c.push.new.self.items ≡ map (λ v. v.items) old ++ c.in-Ok.list.items ∷ [] = ap (map (λ v. v.items)) pushed
    ∙ map-append (λ v. v.items) old (c.in-Ok.list ∷ []) in
    let len = c.loop-number.invariant.1 in
    let more = length_push old c.in-Ok.list in (
      subst (λ zs. AssignedBelow p (n + 1) zs) (sym views)
          (assigned_more p n (map (λ v. v.items) old) c.block-item.result c.in-Ok.list.items at (length-map old (λ v. v.items) ∙ len)
          c.loop-number.invariant.0 c.in-Ok.ensures.assigned),
      ap length pushed ∙ omega (arith, len, more),
    )

pub returns-clause-assigned : goal.returns-clause-assigned
returns-clause-assigned g c =
    let p = c.args.plan.now in
    let bs = p.program.blocks in
    let n = c.loop-number.number in
    let len : length c.blocks_of-block-items.result.now ≡ length bs = ap length c.blocks_of-block-items.ensures in
    let low = c.loop-number-test.false in
    let high = c.loop-number.auto.number-end in
    let end : n ≡ length bs = omega (arith, low, high, len) in
    subst (λ zs. IsAssigned p zs) (sym c.of.ensures)
    (assigned_all p n (map (λ v. v.items) c.loop-number.lists.items) c.loop-number.invariant.0 (length-map c.loop-number.lists.items (λ v. v.items)
    ∙ c.loop-number.invariant.1) end)
