-- The instructions of an object have owners, as many as there are.
use Rattle.std.proofs.Common.{◌≡◌, ℕ, suc, ◌+◌, Bool, true, false, List, [], ◌∷◌, ◌++◌, length, map, refl, sym, ap, ◌∙◌, arith}
use Rattle.std.specs.Prelude.{sum}
use Rattle.std.proofs.lemmas.List.{length-append, length-replicate}
use Rattle.std.proofs.lemmas.List.Sums.{sum_by-cons}
use Rattle.semantics.specs.Program.{Instr, CodeBlock}
use Rattle.semantics.specs.Plan.{Plan}
use Rattle.semantics.specs.Sharing.{placed_instrs}
use Rattle.semantics.specs.Placed.{placed_blocks}
use Rattle.semantics.specs.Versions.{version_number}
use Rattle.schemas.specs.Expanded.{expanded}
use Rattle.folding.specs.Folded.{folded}
use Rattle.fanout.specs.Rows.{is_tied}
use Rattle.fanout.specs.Places.{size}
use Rattle.fanout.specs.Trees.{moved, copies_of}
use Rattle.fanout.specs.Narrowed.{narrowed_block, narrowed_blocks, held, released, spread_of, parts_of, layout_of}
use Rattle.fanout.proofs.Spots.{sized}
use Rattle.select.specs.Emitted.{emitted_instrs, emitted_blocks}
use Rattle.select.proofs.Spelling.{instr_count}
use Rattle.code_map.specs.declared.owner.Owner.{Owner}
use Rattle.code_map.specs.Owners.{expanded_owners}
use Rattle.code_map.specs.Carried.{owner_at, copied, narrowed_owners, all_narrowed, wide_folded, joined}
use Rattle.code_map.specs.Laws.{ObjectHasOwners}

sum_cons : (n : ℕ) (ns : List ℕ) → sum (n ∷ ns) ≡ n + sum ns
sum_cons n ns = sum_by-cons (λ x. x) n ns

-- what is spread with as many copies has as many elements
module _ {X Y : Type 0} (ts : List Bool) (f : ℕ → Instr → X) (g : ℕ → Instr → Y) (d : ℕ → Instr → List X) (e : ℕ → Instr → List Y)
    (same : (n : ℕ) (i : Instr) → length (d n i) ≡ length (e n i)) where
  spread_even : (n : ℕ) (v : List X) (w : List Y) (is : List Instr) → length v ≡ length w → length (spread_of ts f d n v is) ≡ length (spread_of ts g e n w is)
  spread_even n v w [] h = h
  spread_even n v w (i ∷ is) h = ap suc (go (is_tied ts n) (v ++ d n i) (w ++ e n i) now (λ x y k. spread_even (n + 1) x y is k))
    where
      now : length (v ++ d n i) ≡ length (w ++ e n i)
      now = length-append v (d n i) ∙ ap (λ k. k + length (d n i)) h ∙ ap (λ k. length w + k) (same n i) ∙ sym (length-append w (e n i))

      go : (t : Bool) (x : List X) (y : List Y) → length x ≡ length y
          → ((a : List X) (b : List Y) → length a ≡ length b → length (spread_of ts f d (n + 1) a is) ≡ length (spread_of ts g e (n + 1) b is))
          → length (released t x ++ spread_of ts f d (n + 1) (held t x) is) ≡ length (released t y ++ spread_of ts g e (n + 1) (held t y) is)
      go true x y k rest = rest x y k
      go false x y k rest =
          length-append x (spread_of ts f d (n + 1) [] is) ∙ ap (λ m. m + length (spread_of ts f d (n + 1) [] is)) k ∙ ap (λ m. length y + m) (rest [] [] refl)
          ∙ sym (length-append y (spread_of ts g e (n + 1) [] is))

block_even : (q : Plan) (os : List Owner) (c : CodeBlock) → length (narrowed_owners q os c) ≡ length (narrowed_block q c).instrs
block_even q os c =
    spread_even (layout_of q c).tied (λ n i. owner_at os n) (moved (layout_of q c)) (copied os) (copies_of (layout_of q c))
    (λ n i. length-replicate (size i) (owner_at os n) ∙ sym (sized (layout_of q c) n i)) 0 [] [] (parts_of c) refl

abbrev lengths_in : List CodeBlock → List ℕ
lengths_in cs = map (λ (c : CodeBlock). length c.instrs) cs

blocks_even : (q : Plan) (oss : List (List Owner)) (cs : List CodeBlock) → length (joined (all_narrowed q oss cs)) ≡ sum (lengths_in (narrowed_blocks q cs))
blocks_even q oss [] = refl
blocks_even q [] (c ∷ cs) =
    length-append (narrowed_owners q [] c) (joined (all_narrowed q [] cs)) ∙ ap (λ n. n + length (joined (all_narrowed q [] cs))) (block_even q [] c)
    ∙ ap (λ n. length (narrowed_block q c).instrs + n) (blocks_even q [] cs) ∙ sym (sum_cons (length (narrowed_block q c).instrs) (lengths_in (narrowed_blocks q cs)))
blocks_even q (os ∷ oss) (c ∷ cs) =
    length-append (narrowed_owners q os c) (joined (all_narrowed q oss cs)) ∙ ap (λ n. n + length (joined (all_narrowed q oss cs))) (block_even q os c)
    ∙ ap (λ n. length (narrowed_block q c).instrs + n) (blocks_even q oss cs) ∙ sym (sum_cons (length (narrowed_block q c).instrs) (lengths_in (narrowed_blocks q cs)))

-- slots and the selection of code move nothing
selected_even : (v : ℕ) (sss : List (List ℕ)) (cs : List CodeBlock) → length sss ≡ length cs → lengths_in cs ≡ lengths_in (emitted_blocks v (placed_blocks sss cs))
selected_even v [] [] e = refl
selected_even v [] (c ∷ cs) e = absurd (omega (arith, e))
selected_even v (ss ∷ sss) [] e = absurd (omega (arith, e))
selected_even v (ss ∷ sss) (c ∷ cs) e =
    ap (λ n. n ∷ lengths_in cs) (sym (instr_count v ss c.instrs))
    ∙ ap (λ ns. length (emitted_instrs v (placed_instrs ss c.instrs)) ∷ ns) (selected_even v sss cs (omega (arith, e)))

pub object_has_owners : ObjectHasOwners
object_has_owners fl slots version good =
    blocks_even (folded (expanded fl)) (wide_folded (expanded fl) (expanded_owners fl)) (folded (expanded fl)).program.blocks
    ∙ ap sum (selected_even (version_number version) slots (narrowed_blocks (folded (expanded fl)) (folded (expanded fl)).program.blocks) good.all)
