-- A loop of a good plan has at least one turn.
use Rattle.std.proofs.Common.{◌≡◌, ℕ, ◌<◌, Bool, true, false, length, refl, sym, ap, ◌∙◌, true≢false, Option, Some, None}
use Rattle.semantics.specs.declared.graph.Region.{Region}
use Rattle.semantics.specs.declared.graph.Kind.{Kind}
use Rattle.semantics.specs.declared.graph.Kind.TheVariants as Kinds
use Rattle.semantics.specs.Graph.{Node, Block, Flow, node_at}
use Rattle.semantics.specs.Meaning.{Context, block_number}
use Rattle.semantics.specs.Plan.{Plan}
use Rattle.semantics.proofs.Lines.{block_is_there}
use Rattle.law_net.specs.ContextsBlocks.{is_loop, loop_kind, bound_at, bound_in}
use Rattle.law_net.specs.Contexts.{Wires, block_in, or_none, IsContext, HasBlock}
use Rattle.law_net.specs.ContextsOperands.{HasOperands}
use Rattle.law_net.specs.ContextsTheorem.{IsGood}
use Rattle.law_net.proofs.ContextsBlocks.{has_block}

of_kind : (r : Region) (k : Kind ℕ) (m : ℕ) → HasOperands r k m → loop_kind k ≡ true → 0 < bound_in k
of_kind r (Kinds.Loop f k) m o l = o
of_kind r k m o l = absurd (true≢false (sym l))

pub bound_some : (fl : Flow) (p : Plan) (w : Wires) → IsGood fl p w → (c : Context) (n : ℕ) → IsContext fl c
    → is_loop (block_in fl c) n ≡ true → 0 < bound_at (block_in fl c) n
bound_some fl p w good c n h e = by_block (has_block fl c h)
  where
    by_block : HasBlock fl c → 0 < bound_at (block_in fl c) n
    by_block (b, at) = by_node (node_at (block_in fl c) n) refl e
      where
        by_node : (x : Option (Node ℕ)) → node_at (block_in fl c) n ≡ x → elim x as (λ y. Bool) [ None ↦ false | Some line ↦ loop_kind line.kind ] ≡ true
            → 0 < elim x as (λ y. ℕ) [ None ↦ 0 | Some line ↦ bound_in line.kind ]
        by_node None q l = absurd (true≢false (sym l))
        by_node (Some line) q l =
            let k = block_is_there fl (block_number fl c) b at in
            let same : block_in fl c ≡ b = ap or_none at in
            let o = good.operands k.0 n b line k.2 (sym (ap (λ (b : Block ℕ). node_at b n) same) ∙ q) in
            of_kind line.region line.kind (length line.sources) o l
