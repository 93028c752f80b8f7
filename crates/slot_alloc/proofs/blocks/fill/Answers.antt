use Rattle.std.proofs.Common.{◌≡◌, refl, sym, ap, ◌∙◌, subst, ◌++◌, ◌∷◌, [], length, arith}
use Rattle.std.proofs.lemmas.List.{length_push}
use Rattle.slot_alloc.specs.Tables.{IsFilled, IsLeastOpen}
use Rattle.slot_alloc.proofs.Filling.{filled_more}
use Rattle.slot_alloc.proofs.Steps.{full_by}
use Rattle.slot_alloc.proofs.blocks.fill.Goals as goal

pub returns-in-None-clause-refused : goal.returns-in-None-clause-refused
returns-in-None-clause-refused g c = (
  refl,
  (
    c.loop-holder.slots.items,
    full_by c.args.table.now c.args.holders c.loop-holder._holder c.loop-holder.slots.items c.deref.result.now c.deref.ensures.value
        c.loop-holder.invariant.0 c.loop-holder.invariant.1 c.loop-holder-test.true c.in-None.ensures.none,
  ),
)

pub loop-holder-preserved : goal.loop-holder-preserved
loop-holder-preserved g c =
    let t = c.args.table.now in
    let ss = c.loop-holder.slots.items in
    let s = c.in-Some.slot in
    let new : IsLeastOpen t ss s = subst (λ zs. IsLeastOpen t zs s) c.deref.ensures.value c.in-Some.ensures.some in
    let is : c.push.new.self.items ≡ ss ++ s ∷ [] = c.in_ok-push-in-Some.ensures.items in
    let len = length_push ss s in
    let old = c.loop-holder.invariant.1 in (
      subst (λ zs. IsFilled t zs) (sym is) (filled_more t ss s c.loop-holder.invariant.0 new),
      ap length is ∙ omega (arith, len, old),
    )
