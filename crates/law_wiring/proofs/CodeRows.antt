-- Rows of a block's code: its entries, and the landing of each invocation with what is after it and before it.
use Rattle.std.proofs.Common.{◌≡◌, ℕ, suc, ◌+◌, ◌-◌, ◌<◌, ◌≤◌, ◌⊎◌, inl, inr, Bool, true, false, ◌&&◌, ◌||◌, List, [], ◌∷◌, ◌++◌, length, refl, sym, ap, ◌∙◌}
use Rattle.std.proofs.Common.{subst, arith, Some, None, Option, nat_lt, length-append}
use Rattle.std.specs.Prelude.{slice_get}
use Rattle.std.proofs.lemmas.Bool.{ltb-true, cases_lt, and_parts}
use Rattle.std.proofs.lemmas.Option.{same_Some}
use Rattle.semantics.specs.declared.graph.Region.TheVariants.{Root}
use Rattle.semantics.specs.declared.graph.Kind.{Kind}
use Rattle.semantics.specs.declared.graph.Kind.TheVariants.{Call, StrictCall, Loop}
use Rattle.semantics.specs.Graph.{Node, Block, Flow, node_at}
use Rattle.semantics.specs.Program.{CodeBlock}
use Rattle.law_net.specs.ContextsParts as Parts
use Rattle.law_net.specs.ContextsParts.{Part, Entry, Line, Answer, Trigger, Opener, Sender, Landing, CallDone, Giver, Taker, Drainer, LoopDone, Strict, Result}
use Rattle.law_net.specs.ContextsParts.{CondEnd, Inlet, same_part}
use Rattle.law_net.specs.ContextsBlocks.{Site, Wiring, there_in, call_kind, loop_kind, is_loop, is_call, invokes, source_count, result_count, kind_results}
use Rattle.law_net.specs.ContextsBlocks.{outputs_in}
use Rattle.law_net.specs.ContextsExpanded.{row, invoked}
use Rattle.law_wiring.specs.Written as Written
use Rattle.law_wiring.specs.Written.{is_shared, is_triggered, parts_in, kind_parts, node_parts}
use Rattle.law_wiring.specs.WrittenFit.{Takes, IsCallee, IsFit}
use Rattle.law_wiring.proofs.PartsStanding.{Stand, stand_left, stand_right, stand_row, row_length}
use Rattle.law_wiring.proofs.LaidWhole.{closed_stands}
use Rattle.law_wiring.proofs.LaidUsual.{HasTurns}
use Rattle.law_wiring.proofs.PartsCounts.{Follow, follow_here, follow_more}
use Rattle.law_wiring.proofs.Parts.{follow, node_within}
use Rattle.law_wiring.proofs.PartsAgree.{apart}
use Rattle.law_wiring.proofs.CodeFacts.{IsCodeOf}
use Rattle.law_wiring.proofs.CodeWritten.{placed, at, w}

module _ (fl : Flow) (S : Site) (c : CodeBlock) (fit : IsFit fl S.block) (turned : HasTurns S) (facts : IsCodeOf fl S c fit turned) where
  abbrev b : Block ℕ
  b = S.block

  abbrev W : Wiring
  W = w fl S c fit turned facts

  abbrev place : Part → ℕ
  place = at fl S c fit turned facts

  abbrev There : Part → Type 0
  There r = there_in fl S W r ≡ true

  inner_stand : Stand place 0 (Written.inner_parts fl S)
  inner_stand =
      let all = stand_left place 0 (Written.closed fl S).parts (Written.joined_parts Root (Written.root_ends fl S) ++ Parts.End ∷ [])
      (placed fl S c fit turned facts) in
      closed_stands fl S place (apart fl S fit turned) fit turned (Written.inner fl S) all

  pub entry_at : place Entry ≡ 0
  entry_at = inner_stand.0

  pub line_at : (n : ℕ) → n < b.inputs → place (Line n) ≡ n + 1
  line_at n l =
      let zeroless : n ≡ 0 + n = omega arith in
      let lines : List Part = row Line 0 b.inputs in
      let nodes : List Part = node_parts fl S b.inputs b.nodes in
      let row_at = stand_left place 1 lines nodes (stand_left place 1 (lines ++ nodes) (Written.tail_parts b S.turns) inner_stand.1) in
      ap (λ k. place (Line k)) zeroless ∙ stand_row place Line 1 0 b.inputs n row_at l ∙ omega arith

  nodes_at : Stand place (suc b.inputs) (node_parts fl S b.inputs b.nodes)
  nodes_at =
      let lines : List Part = row Line 0 b.inputs in
      let nodes : List Part = node_parts fl S b.inputs b.nodes in
      let body = stand_left place 0 (Entry ∷ lines ++ nodes) (Written.tail_parts b S.turns) inner_stand in
      let long = row_length Line 0 b.inputs in
      stand_right place 1 (suc b.inputs) lines nodes body.1 (omega (arith, long))

  pub node_stands : (n : ℕ) (x : Node ℕ) → node_at b n ≡ Some x → (m : ℕ) × Stand place m (kind_parts fl S n (length x.sources) x.kind)
  node_stands n x e = find (suc b.inputs) b.inputs b.nodes nodes_at (follow b) in_range.0 in_range.1
    where
      in_range : (b.inputs ≤ n) × (n < b.inputs + length b.nodes)
      in_range = node_within b n x e

      find : (m k : ℕ) (xs : List (Node ℕ)) → Stand place m (node_parts fl S k xs) → Follow b k xs → k ≤ n → n < k + length xs
          → (j : ℕ) × Stand place j (kind_parts fl S n (length x.sources) x.kind)
      find m k [] h f l u = absurd (omega (arith, l, u))
      find m k (y ∷ xs) h f l u =
          let parts : List Part = kind_parts fl S k (length y.sources) y.kind in
          let rest : List Part = node_parts fl S (k + 1) xs in
          go (λ v w. find (m + length parts) (k + 1) xs (stand_right place m (m + length parts) parts rest h refl) (follow_more b k y xs f) v w) (cases_lt k n)
        where
          go : (k + 1 ≤ n → n < (k + 1) + length xs → (j : ℕ) × Stand place j (kind_parts fl S n (length x.sources) x.kind)) → (k < n) ⊎ (n ≤ k)
              → (j : ℕ) × Stand place j (kind_parts fl S n (length x.sources) x.kind)
          go more (inl a) = more (omega (arith, a)) (omega (arith, u))
          go more (inr a) =
              let same : k ≡ n = omega (arith, a, l) in
              let its : y ≡ x = same_Some y x (sym (follow_here b k y xs f) ∙ ap (node_at b) same ∙ e) in
              let here = stand_left place m (kind_parts fl S k (length y.sources) y.kind) (node_parts fl S (k + 1) xs) h in (
                m,
                subst (λ i. Stand place m (kind_parts fl S i (length x.sources) x.kind)) same
                    (subst (λ (z : Node ℕ). Stand place m (kind_parts fl S k (length z.sources) z.kind)) its here),
              )

  -- an invocation's landing, and what is after it
  record Lands (n q at : ℕ) : Type 0 where
    each_result : (j : ℕ) → j < q → place (Landing n j) ≡ at + j

  invoked_lands : (n m q k : ℕ) → Stand place k (invoked n m q) → Lands n q (k + (3 + m))
  invoked_lands n m q k h = record {
    each_result = λ j l.
        let landings = stand_right place (suc (suc (suc k))) (k + (3 + m)) (row (Sender n) 0 m) (row (Landing n) 0 q) h.1.1.1 (behind m) in
        let zeroless : j ≡ 0 + j = omega arith in
        ap (λ i. place (Landing n i)) zeroless ∙ stand_row place (Landing n) (k + (3 + m)) 0 q j landings l;
  }
    where
      behind : (m : ℕ) → k + (3 + m) ≡ suc (suc (suc k)) + length (row (Sender n) 0 m)
      behind m = let long = row_length (Sender n) 0 m in omega (arith, long)

  invoked_length : (n m q : ℕ) → length (invoked n m q) ≡ 3 + (m + q)
  invoked_length n m q =
      let a = length-append (row (Sender n) 0 m) (row (Landing n) 0 q) in let c = row_length (Sender n) 0 m in let d = row_length (Landing n) 0 q in
      omega (arith, a, c, d)

  -- what is after an invocation
  record Invoked (n q : ℕ) (rest : List Part) : Type 0 where
    at : ℕ
    lands : Lands n q at
    behind : Stand place (at + q) rest

  invoked_behind : (n m q k : ℕ) (rest : List Part) → Stand place k (invoked n m q ++ rest) → Invoked n q rest
  invoked_behind n m q k rest h =
      let l = invoked_lands n m q k (stand_left place k (invoked n m q) rest h) in
      let long = invoked_length n m q in
      record { at = k + (3 + m); lands = l; behind = stand_right place k ((k + (3 + m)) + q) (invoked n m q) rest h (omega (arith, long)) }

  abbrev rest_of : ℕ → Kind ℕ → List Part
  rest_of n (Loop f k) = Giver n ∷ Taker n ∷ Drainer n ∷ LoopDone n ∷ []
  rest_of n k = CallDone n ∷ []

  kind_invoked : (n m k : ℕ) (x : Kind ℕ) → (call_kind x || loop_kind x) ≡ true → Stand place k (kind_parts fl S n m x)
      → Invoked n (kind_results fl m x) (rest_of n x)
  kind_invoked n m k (Call f) t h = invoked_behind n m (outputs_in (slice_get fl.blocks f)) k (CallDone n ∷ []) h
  kind_invoked n m k (StrictCall f) t h =
      let rest : List Part = invoked n m (outputs_in (slice_get fl.blocks f)) ++ CallDone n ∷ [] in
      let joins : List Part = row (Strict n) 1 (m - 1) in
      invoked_behind n m (outputs_in (slice_get fl.blocks f)) (k + length joins) (CallDone n ∷ []) (stand_right place k (k + length joins) joins rest h refl)
  kind_invoked n m k (Loop f c) t h = invoked_behind n m m (suc k) (Giver n ∷ Taker n ∷ Drainer n ∷ LoopDone n ∷ []) h.1
  kind_invoked n m k x t h = absurd (cc)

  node_invoked : (n : ℕ) (x : Node ℕ) → node_at b n ≡ Some x → (call_kind x.kind || loop_kind x.kind) ≡ true
      → Invoked n (kind_results fl (length x.sources) x.kind) (rest_of n x.kind)
  node_invoked n x e t = let s = node_stands n x e in kind_invoked n (length x.sources) s.0 x.kind t s.1

  count_is_of : (n : ℕ) (x : Node ℕ) → node_at b n ≡ Some x → result_count fl b n ≡ kind_results fl (length x.sources) x.kind
  count_is_of n x e = ap (λ o. elim o as (λ x. ℕ) [ None ↦ 0 | Some line ↦ kind_results fl (length line.sources) line.kind ]) e

  -- something is returned
  some_result : (n : ℕ) (x : Node ℕ) → node_at b n ≡ Some x → (call_kind x.kind || loop_kind x.kind) ≡ true → 0 < kind_results fl (length x.sources) x.kind
  some_result n x e t = go x.kind refl t
    where
      takes : (k : Kind ℕ) → x.kind ≡ k → Takes fl k (length x.sources)
      takes k q = subst (λ j. Takes fl j (length x.sources)) q (fit.nodes n x e).takes

      callee : (f : ℕ) → IsCallee fl f (length x.sources) → 0 < outputs_in (slice_get fl.blocks f)
      callee f c = let y = ap outputs_in c.there in let l = c.some_output in omega (arith, y, l)

      go : (k : Kind ℕ) → x.kind ≡ k → (call_kind k || loop_kind k) ≡ true → 0 < kind_results fl (length x.sources) x.kind
      go (Call f) q t =
          let l = callee f (takes (Call f) q) in
          let z : kind_results fl (length x.sources) x.kind ≡ outputs_in (slice_get fl.blocks f) = ap (kind_results fl (length x.sources)) q in
          omega (arith, l, z)
      go (StrictCall f) q t =
          let l = callee f (takes (StrictCall f) q) in
          let z : kind_results fl (length x.sources) x.kind ≡ outputs_in (slice_get fl.blocks f) = ap (kind_results fl (length x.sources)) q in
          omega (arith, l, z)
      go (Loop f k) q t =
          let l = (takes (Loop f k) q).0.some_input in
          let z : kind_results fl (length x.sources) x.kind ≡ length x.sources = ap (kind_results fl (length x.sources)) q in omega (arith, l, z)
      go k q t = absurd (cc)

  pub landing_row : (n j : ℕ) → There (Landing n j) → place (Landing n j) ≡ place (Landing n 0) + j
  landing_row n j h = go (node_at b n) refl h
    where
      go : (o : Option (Node ℕ)) → node_at b n ≡ o
          → ((elim o as (λ x. Bool) [ None ↦ false | Some line ↦ call_kind line.kind ]
          || elim o as (λ x. Bool) [ None ↦ false | Some line ↦ loop_kind line.kind ])
          && nat_lt j (elim o as (λ x. ℕ) [ None ↦ 0 | Some line ↦ kind_results fl (length line.sources) line.kind ])) ≡ true
          → place (Landing n j) ≡ place (Landing n 0) + j
      go None e t = absurd (cc)
      go (Some x) e t =
          let both = and_parts (call_kind x.kind || loop_kind x.kind) (nat_lt j (kind_results fl (length x.sources) x.kind)) t in
          let l = (node_invoked n x e both.0).lands in
          let less = ltb-true j (kind_results fl (length x.sources) x.kind) both.1 in
          let here = l.each_result j less in
          let first = l.each_result 0 (omega (arith, less)) in
          omega (arith, here, first)

  pub done_row : (n : ℕ) → is_call b n ≡ true → place (CallDone n) ≡ place (Landing n 0) + result_count fl b n
  done_row n h = go (node_at b n) refl h
    where
      by_kind : (k : Kind ℕ) (m : ℕ) → call_kind k ≡ true → Stand place m (rest_of n k) → place (CallDone n) ≡ m
      by_kind (Call f) m t s = s.0
      by_kind (StrictCall f) m t s = s.0
      by_kind k m t s = absurd (cc)

      go : (o : Option (Node ℕ)) → node_at b n ≡ o → elim o as (λ x. Bool) [ None ↦ false | Some line ↦ call_kind line.kind ] ≡ true
          → place (CallDone n) ≡ place (Landing n 0) + result_count fl b n
      go None e t = absurd (cc)
      go (Some x) e t =
          let either : (call_kind x.kind || loop_kind x.kind) ≡ true = ap (λ y. y || loop_kind x.kind) t in
          let v = node_invoked n x e either in
          let done = by_kind x.kind (v.at + kind_results fl (length x.sources) x.kind) t v.behind in
          let first = v.lands.each_result 0 (some_result n x e either) in
          let count = count_is_of n x e in
          omega (arith, done, first, count)

  pub credit_row : (n : ℕ) → is_loop b n ≡ true
      → (place (Giver n) ≡ place (Landing n 0) + result_count fl b n) × (place (Taker n) ≡ place (Giver n) + 1) × (place (Drainer n) ≡ place (Giver n) + 2)
  credit_row n h = go (node_at b n) refl h
    where
      by_kind : (k : Kind ℕ) (m : ℕ) → loop_kind k ≡ true → Stand place m (rest_of n k)
          → (place (Giver n) ≡ m) × (place (Taker n) ≡ suc m) × (place (Drainer n) ≡ suc (suc m))
      by_kind (Loop f k) m t s = (s.0, s.1.0, s.1.1.0)
      by_kind k m t s = absurd (cc)

      or_true : (t : Bool) → (t || true) ≡ true
      or_true true = refl
      or_true false = refl

      go : (o : Option (Node ℕ)) → node_at b n ≡ o → elim o as (λ x. Bool) [ None ↦ false | Some line ↦ loop_kind line.kind ] ≡ true
          → (place (Giver n) ≡ place (Landing n 0) + result_count fl b n) × (place (Taker n) ≡ place (Giver n) + 1) × (place (Drainer n) ≡ place (Giver n) + 2)
      go None e t = absurd (cc)
      go (Some x) e t =
          let either : (call_kind x.kind || loop_kind x.kind) ≡ true = ap (λ y. call_kind x.kind || y) t ∙ or_true (call_kind x.kind) in
          let v = node_invoked n x e either in
          let d = by_kind x.kind (v.at + kind_results fl (length x.sources) x.kind) t v.behind in
          let give = d.0 in
          let take = d.1 in
          let drain = d.2 in
          let first = v.lands.each_result 0 (some_result n x e either) in
          let count = count_is_of n x e in
          (omega (arith, give, first, count), omega (arith, give, take), omega (arith, give, drain))

  -- the arguments of an invocation are sent before that
  invoked_sends : (n m q k i : ℕ) → Stand place k (invoked n m q) → i < m → 0 < q → place (Sender n i) < place (Landing n 0)
  invoked_sends n m q k i h l some =
      let zeroless : i ≡ 0 + i = omega arith in
      let senders = stand_left place (suc (suc (suc k))) (row (Sender n) 0 m) (row (Landing n) 0 q) h.1.1.1 in
      let here : place (Sender n i) ≡ suc (suc (suc k)) + i = ap (λ j. place (Sender n j)) zeroless
      ∙ stand_row place (Sender n) (suc (suc (suc k))) 0 m i senders l in
      let first = (invoked_lands n m q k h).each_result 0 some in
      omega (arith, here, first, l)

  kind_sends : (n m k i : ℕ) (x : Kind ℕ) → (call_kind x || loop_kind x) ≡ true → Stand place k (kind_parts fl S n m x) → i < m → 0 < kind_results fl m x
      → place (Sender n i) < place (Landing n 0)
  kind_sends n m k i (Call f) t h l some =
      let q : ℕ = outputs_in (slice_get fl.blocks f) in
      invoked_sends n m q k i (stand_left place k (invoked n m q) (CallDone n ∷ []) h) l some
  kind_sends n m k i (StrictCall f) t h l some =
      let q : ℕ = outputs_in (slice_get fl.blocks f) in
      let joins : List Part = row (Strict n) 1 (m - 1) in
      let behind = stand_right place k (k + length joins) joins (invoked n m q ++ CallDone n ∷ []) h refl in
      invoked_sends n m q (k + length joins) i (stand_left place (k + length joins) (invoked n m q) (CallDone n ∷ []) behind) l some
  kind_sends n m k i (Loop f c) t h l some =
      invoked_sends n m m (suc k) i (stand_left place (suc k) (invoked n m m) (Giver n ∷ Taker n ∷ Drainer n ∷ LoopDone n ∷ []) h.1) l some
  kind_sends n m k i x t h l some = absurd (cc)

  pub sends : (n i : ℕ) → invokes b n ≡ true → i < source_count b n → place (Sender n i) < place (Landing n 0)
  sends n i h l = go (node_at b n) refl h l
    where
      go : (o : Option (Node ℕ)) → node_at b n ≡ o
          → (elim o as (λ x. Bool) [ None ↦ false | Some line ↦ call_kind line.kind ]
          || elim o as (λ x. Bool) [ None ↦ false | Some line ↦ loop_kind line.kind ]) ≡ true
          → i < elim o as (λ x. ℕ) [ None ↦ 0 | Some line ↦ length line.sources ] → place (Sender n i) < place (Landing n 0)
      go None e t l = absurd (cc)
      go (Some x) e t l = let s = node_stands n x e in kind_sends n (length x.sources) s.0 i x.kind t s.1 l (some_result n x e t)
