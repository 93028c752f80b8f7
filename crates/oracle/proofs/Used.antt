-- Uses that are listed are those that are sent to.
use Rattle.std.proofs.Common.{◌≡◌, ℕ, zero, suc, ◌+◌, ◌-◌, ◌<◌, true, false, ◌&&◌, ◌==◌, List, [], ◌∷◌, ◌++◌, Some, slice_get}
use Rattle.std.proofs.Common.{if◌then◌else◌, refl, sym, ap, ◌∙◌, arith, append_assoc}
use Rattle.semantics.specs.declared.graph.Source.{Source}
use Rattle.semantics.specs.Graph.{Node, Block}
use Rattle.oracle.specs.declared.invocations.Made.{Made}
use Rattle.oracle.specs.declared.sending.Sent.{Sent}
use Rattle.oracle.specs.declared.tokens.Spot.TheVariants.{Operand, Out}
use Rattle.oracle.specs.declared.uses.Use.{Use}
use Rattle.oracle.specs.Lines.{inputs_in}
use Rattle.oracle.specs.Sending.{token_at, operand_tokens, node_tokens, result_tokens, results_tokens, sent_tokens}
use Rattle.oracle.specs.Running.{sent_by}
use Rattle.oracle.specs.Uses.{operand_uses, node_uses, result_uses, uses_in, uses_from, listed_count, listed_in, row_at, use_tokens, used_tokens}
use Rattle.oracle.proofs.Counting.{less_one}

used_append : (x : Sent) (made : Made) (k p : ℕ) (us vs : List Use) → used_tokens x made k p (us ++ vs) ≡ used_tokens x made k p us ++ used_tokens x made k p vs
used_append x made k p [] vs = refl
used_append x made k p (u ∷ us) vs =
    let more = used_append x made k p us vs in
    let rest = used_tokens x made k p us in
    let last = used_tokens x made k p vs in
    let first = use_tokens x made k u.spot in
    elim (u.port == p) as (λ b. (if b then first ++ used_tokens x made k p (us ++ vs) else used_tokens x made k p (us ++ vs))
    ≡ (if b then first ++ rest else rest) ++ last) [
      | true ↦ ap (λ ts. first ++ ts) more ∙ sym (append_assoc first rest last)
      | false ↦ more
    ]

operands_used : (x : Sent) (made : Made) (k n p m i : ℕ) (ss : List Source)
    → used_tokens x made k p (operand_uses n m i ss) ≡ operand_tokens x n p m i ss
operands_used x made k n p m i [] = refl
operands_used x made k n p m i (s ∷ ss) =
    let u : Use = record { port = s.port; spot = Operand m i } in
    let us = operand_uses n m (i + 1) ss in
    let rest = operand_tokens x n p m (i + 1) ss in
    let more : used_tokens x made k p us ≡ rest = operands_used x made k n p m (i + 1) ss in
    elim (s.node == n) as (λ b. used_tokens x made k p (if b then u ∷ us else us) ≡ (if b && (s.port == p) then token_at x (Operand m i) ∷ rest else rest)) [
      | true ↦ elim (s.port == p) as (λ b. (if b then token_at x (Operand m i) ∷ used_tokens x made k p us else used_tokens x made k p us)
          ≡ (if b then token_at x (Operand m i) ∷ rest else rest)) [
            | true ↦ ap (λ ts. token_at x (Operand m i) ∷ ts) more
            | false ↦ more
          ]
      | false ↦ more
    ]

nodes_used : (x : Sent) (made : Made) (k n p m : ℕ) (nodes : List (Node (List ℕ))) → used_tokens x made k p (node_uses n m nodes) ≡ node_tokens x n p m nodes
nodes_used x made k n p m [] = refl
nodes_used x made k n p m (line ∷ lines) =
    used_append x made k p (operand_uses n m 0 line.sources) (node_uses n (m + 1) lines)
    ∙ ap (λ ts. ts ++ used_tokens x made k p (node_uses n (m + 1) lines)) (operands_used x made k n p m 0 line.sources)
    ∙ ap (λ ts. operand_tokens x n p m 0 line.sources ++ ts) (nodes_used x made k n p (m + 1) lines)

results_used : (x : Sent) (made : Made) (k n p j : ℕ) (ss : List Source) → used_tokens x made k p (result_uses n j ss) ≡ results_tokens x made k n p j ss
results_used x made k n p j [] = refl
results_used x made k n p j (s ∷ ss) =
    let u : Use = record { port = s.port; spot = Out j } in
    let us = result_uses n (j + 1) ss in
    let rest = results_tokens x made k n p (j + 1) ss in
    let here = result_tokens x made k j in
    let more : used_tokens x made k p us ≡ rest = results_used x made k n p (j + 1) ss in
    elim (s.node == n) as (λ b. used_tokens x made k p (if b then u ∷ us else us) ≡ (if b && (s.port == p) then here ++ rest else rest)) [
      | true ↦ elim (s.port == p) as (λ b. (if b then here ++ used_tokens x made k p us else used_tokens x made k p us) ≡ (if b then here ++ rest else rest)) [
        | true ↦ ap (λ ts. here ++ ts) more
        | false ↦ more
      ]
      | false ↦ more
    ]

all_used : (x : Sent) (made : Made) (n p : ℕ) (b : Block (List ℕ)) → used_tokens x made b.inputs p (uses_in n b) ≡ sent_tokens x made n p b
all_used x made n p b =
    used_append x made b.inputs p (node_uses n b.inputs b.nodes) (result_uses n 0 b.results)
    ∙ ap (λ ts. ts ++ used_tokens x made b.inputs p (result_uses n 0 b.results)) (nodes_used x made b.inputs n p b.inputs b.nodes)
    ∙ ap (λ ts. node_tokens x n p b.inputs b.nodes ++ ts) (results_used x made b.inputs n p 0 b.results)

some_same : {A : Type 0} (a b : A) → Some a ≡ Some b → a ≡ b
some_same a b h = cc

listed_at : (b : Block (List ℕ)) (m k n : ℕ) (us : List Use) → slice_get (uses_from b m k) n ≡ Some us → us ≡ uses_in (m + n) b
listed_at b m zero n us h = cc
listed_at b m (suc k) zero us h =
    let e : m ≡ m + 0 = omega arith in
    sym (some_same (uses_in m b) us h) ∙ ap (λ j. uses_in j b) e
listed_at b m (suc k) (suc n) us h =
    let e : m + 1 + n ≡ m + suc n = omega arith in
    listed_at b (m + 1) k n us h ∙ ap (λ j. uses_in j b) e

pub sent_to_uses : (x : Sent) (made : Made) (n p : ℕ) (bs : List (List ℕ × Block (List ℕ))) (i : ℕ) (us : List Use)
    → row_at (slice_get (listed_in bs) i) n ≡ Some us
    → used_tokens x made (inputs_in (slice_get bs i)) p us ≡ sent_by x made n p (slice_get bs i)
sent_to_uses x made n p [] i us h = cc
sent_to_uses x made n p (b ∷ bs) zero us h =
    let e : 0 + n ≡ n = omega arith in
    ap (λ vs. used_tokens x made b.1.inputs p vs) (listed_at b.1 0 (listed_count b.1) n us h ∙ ap (λ j. uses_in j b.1) e) ∙ all_used x made n p b.1
sent_to_uses x made n p (b ∷ bs) (suc i) us h = sent_to_uses x made n p bs i us h

pub uses_more : (b : Block (List ℕ)) (i count : ℕ) (all so_far : List (List Use)) → i < count → all ≡ so_far ++ uses_from b i (count - i)
    → all ≡ (so_far ++ uses_in i b ∷ []) ++ uses_from b (i + 1) (count - (i + 1))
uses_more b i count all so_far h e =
    e ∙ ap (λ k. so_far ++ uses_from b i k) (less_one i count h)
    ∙ sym (append_assoc so_far (uses_in i b ∷ []) (uses_from b (i + 1) (count - (i + 1))))
