use Rattle.std.proofs.Common.{◌≡◌, refl, sym, ap, ◌∙◌, subst, ◌<◌, ◌≤◌, length, get_or, arith, Some}
use Rattle.std.specs.Prelude.{slice_get}
use Rattle.std.proofs.lemmas.Option.{slice_get_read}
use Rattle.slot_alloc.proofs.Steps.{good_more, good_all}
use Rattle.slot_alloc.proofs.check_slots.Goals as goal

pub loop-number-preserved : goal.loop-number-preserved
loop-number-preserved g c =
    let p = c.args.plan.now in
    let bs = p.program.blocks in
    let n = c.loop-number.number in
    let items : c.blocks_of-block-items.result.now ≡ bs = c.blocks_of-block-items.ensures in
    let lt : n < length bs = subst (λ zs. n < length zs) items c.loop-number-test.true in
    let is : c.block-item.result ≡ get_or bs n c.block-item.result = c.block-item.is ∙ ap (λ zs. get_or zs n c.block-item.result) items in
    let at : slice_get bs n ≡ Some c.block-item.result = slice_get_read bs (length bs) n c.block-item.result refl lt is in
    good_more p n c.args.slots.now c.block-item.result c.in-Some.list.now at (sym c.in-Some.ensures) c.loop-number.invariant
    (c.in_ok-check_block.ensures.0 c.if-not-branch.false)

pub returns : goal.returns
returns g c =
    let p = c.args.plan.now in
    let bs = p.program.blocks in
    let items : c.blocks_of-block-items.result.now ≡ bs = c.blocks_of-block-items.ensures in
    let len : length c.blocks_of-block-items.result.now ≡ length bs = ap length items in
    let end : length bs ≤ c.loop-number.number = (let h = c.loop-number-test.false in omega (arith, h, len)) in
    let first : length c.blocks_of.result.now ≡ length bs = ap length c.blocks_of.ensures in
    let all : length c.args.slots.now ≡ length bs = (let e = c.if-len-blocks_of.false in let a = c.len.ensures in omega (arith, e, a, first)) in
    (λ y. good_all p c.loop-number.number c.args.slots.now c.loop-number.invariant all end, λ good. refl)
