-- A conditional is a node of its block.
use Rattle.std.proofs.Common.{◌≡◌, ℕ, ◌<◌, Bool, true, false, refl, sym, ap, ◌∙◌, arith, true≢false, Option, Some, None, nat_lt, ltb-true, ltb-false, ◌-◌}
use Rattle.std.proofs.Common.{if◌then◌else◌}
use Rattle.std.specs.Prelude.{slice_get}
use Rattle.std.proofs.lemmas.Option.{slice_get_within}
use Rattle.semantics.specs.Graph.{Block, Node, node_at, node_count}
use Rattle.law_net.specs.ContextsBlocks.{is_kind, cond_kind}

-- a conditional is a node of the block
pub cond_below : (b : Block ℕ) (k : ℕ) → is_kind cond_kind b k ≡ true → k < node_count b
cond_below b k e = by_input (nat_lt k b.inputs) refl (go (node_at b k) refl e)
  where
    go : (o : Option (Node ℕ)) → node_at b k ≡ o → (elim o as (λ x. Bool) [ None ↦ false | Some line ↦ cond_kind line.kind ]) ≡ true
        → (line : Node ℕ) × (node_at b k ≡ Some line)
    go None g h = absurd (true≢false (sym h))
    go (Some line) g h = (line, g)

    by_input : (t : Bool) → nat_lt k b.inputs ≡ t → (line : Node ℕ) × (node_at b k ≡ Some line) → k < node_count b
    by_input true l m = let h = ltb-true k b.inputs l in omega (arith, h)
    by_input false l m =
        let at : (if nat_lt k b.inputs then None else slice_get b.nodes (k - b.inputs)) ≡ slice_get b.nodes (k - b.inputs) =
        ap (λ (t : Bool). if t then None else slice_get b.nodes (k - b.inputs)) l in
        let h = slice_get_within b.nodes (k - b.inputs) m.0 (sym at ∙ m.1) in let g = ltb-false k b.inputs l in omega (arith, h, g)
