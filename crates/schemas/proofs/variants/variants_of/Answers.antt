use Rattle.std.proofs.Common.{◌≡◌, ℕ, ◌+◌, Bool, List, [], ◌∷◌, ◌++◌, sym, ap, ◌∙◌, arith, add-one, if◌then◌else◌}
use Rattle.semantics.specs.Graph.{Block}
use Rattle.schemas.specs.Variants.{some_block_loops, next_variant, variants_from}
use Rattle.schemas.proofs.variants.variants_of.Goals as goal

items_more : (bs : List (Block ℕ)) (n : ℕ) (xs ys : List ℕ) (x : ℕ) → xs ≡ variants_from bs n → x ≡ next_variant bs n → ys ≡ xs ++ x ∷ [] → ys
    ≡ variants_from bs (n + 1)
items_more bs n xs ys x a b p = p ∙ ap (λ zs. zs ++ x ∷ []) a ∙ ap (λ z. variants_from bs n ++ z ∷ []) b ∙ sym (ap (variants_from bs) (add-one n))

next_more : (bs : List (Block ℕ)) (n x y : ℕ) (t : Bool) → x ≡ next_variant bs n → t ≡ some_block_loops n bs → y ≡ (if t then x + 1 else x) → y
    ≡ next_variant bs (n + 1)
next_more bs n x y t a h q =
    q ∙ ap (λ u. if u then x + 1 else x) h ∙ ap (λ k. if some_block_loops n bs then k + 1 else k) a ∙ sym (ap (next_variant bs) (add-one n))

pub loop-looped-preserved : goal.loop-looped-preserved
loop-looped-preserved g c =
    let bs = c.args.blocks.now in
    let n = c.loop-looped.looped-index in
    let few = c.following-next.ensures.few in
    let below = c.loop-looped-test.true in
    let same = c.requires.looped.0 in
    let old = c.loop-looped.invariant.2 in (
      items_more bs n c.loop-looped.variants.items c.push.new.self.items c.loop-looped.next c.loop-looped.invariant.0 c.loop-looped.invariant.1
          c.in_ok-push.ensures.items,
      next_more bs n c.loop-looped.next c.following-next.result _ c.loop-looped.invariant.1 (c.requires.looped.1 n (omega (arith, below, same)))
          c.following-next.ensures.exact,
      omega (arith, few, old),
    )
