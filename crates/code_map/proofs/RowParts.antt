-- The instructions that a node's schema adds belong to the node.
use Rattle.std.proofs.Common.{◌≡◌, ℕ, zero, suc, ◌+◌, ◌-◌, ◌<◌, ◌≤◌, List, [], ◌∷◌, ◌++◌, length, replicate, take, refl, ap, subst, ◌∙◌, arith, Some}
use Rattle.std.specs.Prelude.{slice_get}
use Rattle.semantics.specs.declared.graph.Source.{Source}
use Rattle.semantics.specs.Graph.{Node, Block}
use Rattle.schemas.specs.Scopes.{Scope}
use Rattle.schemas.specs.Builds.{Build}
use Rattle.schemas.specs.Tails.{returns}
use Rattle.schemas.specs.Ends.{Closing, closed_nodes}
use Rattle.schemas.specs.Blocks.{entries, with_node, with_nodes, body, finished}
use Rattle.code_map.specs.declared.part.Part.{Part}
use Rattle.code_map.specs.Counts.{Rows, laid_node, laid_entries}
use Rattle.code_map.specs.Parts.{filled, entry_parts, node_parts, body_parts, output_parts, join_parts, finished_parts, closing_of, turn_closing, plain_parts, variant_parts}
use Rattle.code_map.specs.Laws.{built, IsRow, RowsAreOwned}
use Rattle.code_map.proofs.Lengths.{Tracks, tracks_node, tracks_entries}

get_more : {X : Type 0} (xs ys : List X) (i : ℕ) (x : X) → slice_get xs i ≡ Some x → slice_get (xs ++ ys) i ≡ Some x
get_more [] ys i x e = absurd cc
get_more (z ∷ xs) ys zero x e = e
get_more (z ∷ xs) ys (suc i) x e = get_more xs ys i x e

get_same : (m : ℕ) (p : Part) (i : ℕ) → i < m → slice_get (replicate m p) i ≡ Some p
get_same zero p i l = absurd (omega (arith, l))
get_same (suc m) p zero l = refl
get_same (suc m) p (suc i) l = get_same m p i (omega (arith, l))

get_behind : (ps : List Part) (m : ℕ) (p : Part) (i : ℕ) → length ps ≤ i → i < length ps + m → slice_get (ps ++ replicate m p) i ≡ Some p
get_behind [] m p i low high = get_same m p i (omega (arith, high))
get_behind (q ∷ ps) m p zero low high = absurd (omega (arith, low))
get_behind (q ∷ ps) m p (suc i) low high = get_behind ps m p i (omega (arith, low)) (omega (arith, high))

-- what an instruction belongs to stays as code is added
module _ (place : ℕ) (x : Part) where
  stays_filled : (ps : List Part) (b : Build) (p : Part) → slice_get ps place ≡ Some x → slice_get (filled ps b p) place ≡ Some x
  stays_filled ps b p e = get_more ps (replicate (length b.instrs - length ps) p) place x e

  stays_nodes : (s : Scope) (ps : List Part) (b : Build) (n : ℕ) (nodes : List (Node ℕ)) → slice_get ps place ≡ Some x
      → slice_get (node_parts ps b s n nodes) place ≡ Some x
  stays_nodes s ps b n [] e = e
  stays_nodes s ps b n (node ∷ nodes) e =
      stays_nodes s (filled ps (with_node b s n node) (Part.Node n)) (with_node b s n node) (n + 1) nodes
      (stays_filled ps (with_node b s n node) (Part.Node n) e)

  stays_outputs : (ps : List Part) (b : Build) (from : ℕ) (ss : List Source) → slice_get ps place ≡ Some x → slice_get (output_parts ps b from ss) place ≡ Some x
  stays_outputs ps b from [] e = e
  stays_outputs ps b from (s ∷ ss) e =
      stays_outputs (filled ps (returns b from (s ∷ [])) (Part.Output from)) (returns b from (s ∷ [])) (from + 1) ss
      (stays_filled ps (returns b from (s ∷ [])) (Part.Output from) e)

  stays_joins : (ps : List Part) (c : Closing) (n : ℕ) (nodes : List (Node ℕ)) → slice_get ps place ≡ Some x → slice_get (join_parts ps c n nodes) place ≡ Some x
  stays_joins ps c n [] e = e
  stays_joins ps c n (node ∷ nodes) e =
      stays_filled (join_parts ps c (n + 1) nodes) (closed_nodes c n (node ∷ nodes)).build (Part.Joins n) (stays_joins ps c (n + 1) nodes e)

  stays_finished : (ps : List Part) (c : Closing) (block : Block ℕ) (offset : ℕ) → slice_get ps place ≡ Some x
      → slice_get (finished_parts ps c block offset) place ≡ Some x
  stays_finished ps c block offset e =
      stays_filled (join_parts ps c block.inputs block.nodes) (finished c block offset) Part.Release (stays_joins ps c block.inputs block.nodes e)

module _ (s : Scope) (place : ℕ) where
  row_in : (k : ℕ) (ps : List Part) (b : Build) (n : ℕ) (nodes : List (Node ℕ)) (r : Rows) → Tracks r b ps → k < length nodes
      → length (with_nodes b s n (take k nodes)).instrs ≤ place → place < length (with_nodes b s n (take (suc k) nodes)).instrs
      → slice_get (node_parts ps b s n nodes) place ≡ Some (Part.Node (n + k))
  unfolding with_nodes
  row_in k ps b n [] r t l low high = absurd (omega (arith, l))
  row_in zero ps b n (node ∷ nodes) r t l low high =
      let c = with_node b s n node in
      let from : length b.instrs ≤ place = low in
      let to : place < length c.instrs = high in
      let long = t.instrs in
      let first : n ≡ n + zero = omega arith in
      stays_nodes place (Part.Node (n + zero)) s (filled ps c (Part.Node n)) c (n + 1) nodes
      (get_behind ps (length c.instrs - length ps) (Part.Node n) place (omega (arith, from, long)) (omega (arith, to, from, long))
      ∙ ap (λ j. Some (Part.Node j)) first)
  row_in (suc k) ps b n (node ∷ nodes) r t l low high =
      let c = with_node b s n node in
      let next : n + 1 + k ≡ n + suc k = omega arith in
      row_in k (filled ps c (Part.Node n)) c (n + 1) nodes (laid_node r s.blocks s.triggers s.uses n node) (tracks_node s n node r b ps t) (omega (arith, l)) low high
      ∙ ap (λ j. Some (Part.Node j)) next

  in_body : (k : ℕ) → k < length s.block.nodes → IsRow s k place → slice_get (body_parts s) place ≡ Some (Part.Node (s.block.inputs + k))
  in_body k l h =
      let next : k + 1 ≡ suc k = omega arith in
      row_in k (entry_parts s) (entries s) s.block.inputs s.block.nodes (laid_entries s.block.inputs) (tracks_entries s) l h.from
      (subst (λ j. place < length (built s j).instrs) next h.to)

  in_plain : (x : Part) → slice_get (body_parts s) place ≡ Some x → slice_get (plain_parts s) place ≡ Some x
  unfolding plain_parts
  in_plain x e =
      stays_finished place x (output_parts (body_parts s) (body s) 0 s.block.results) (closing_of (returns (body s) 0 s.block.results)) s.block s.block.outputs
      (stays_outputs place x (body_parts s) (body s) 0 s.block.results e)

  in_variant : (code : ℕ) (x : Part) → slice_get (body_parts s) place ≡ Some x → slice_get (variant_parts s code) place ≡ Some x
  unfolding variant_parts
  in_variant code x e =
      stays_finished place x (filled (body_parts s) (turn_closing s code).build Part.Turn) (turn_closing s code) s.block s.block.inputs
      (stays_filled place x (body_parts s) (turn_closing s code).build Part.Turn e)

pub rows_are_owned : RowsAreOwned
rows_are_owned s k place l h =
    let x = Part.Node (s.block.inputs + k) in
    (in_plain s place x (in_body s place k l h), λ code. in_variant s place code x (in_body s place k l h))
