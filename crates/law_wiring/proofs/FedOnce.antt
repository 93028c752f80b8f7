-- As many of the wires that are written down lead to an inlet as there are parts with it: nodes and results.
use Rattle.std.proofs.Common.{◌≡◌, ◌≢◌, ℕ, zero, suc, ◌+◌, ◌-◌, ◌<◌, ◌≤◌, Bool, true, false, ◌&&◌, List, [], ◌∷◌, ◌++◌, length, refl, sym, ap, ◌∙◌, subst}
use Rattle.std.proofs.Common.{arith, Some, nat_lt, ◌==◌}
use Rattle.std.proofs.lemmas.Bool.{ltb-true}
use Rattle.std.specs.Prelude.{slice_get}
use Rattle.tags.specs.declared.token.Port.{Port}
use Rattle.tags.specs.declared.token.Port.TheVariants.{Left, Right}
use Rattle.semantics.specs.declared.graph.Region.{Region}
use Rattle.semantics.specs.declared.graph.Region.TheVariants.{Root, Arm}
use Rattle.semantics.specs.declared.graph.Source.{Source}
use Rattle.semantics.specs.declared.graph.Kind.{Kind}
use Rattle.semantics.specs.declared.graph.Kind.TheVariants.{Lit, Apply1, Apply2, Cond, Enter, Merge, Fetch, Store, Call, StrictCall, Loop}
use Rattle.semantics.specs.Graph.{Node, Block, Flow, node_at}
use Rattle.law_confluence.specs.OrdersTotals.{one}
use Rattle.schemas.specs.Scopes.{predicate_of}
use Rattle.schemas.specs.Builds.{first_source}
use Rattle.law_net.specs.ContextsParts as Parts
use Rattle.law_net.specs.ContextsParts.{Part, Entry, Line, Answer, Trigger, Gate, Opener, Framer, Fanned, Linker, Sender, Landing, CallDone, Giver, Taker}
use Rattle.law_net.specs.ContextsParts.{Drainer, LoopDone, Strict, Result, Inlet, inlet, same_part, same_port, same_inlet}
use Rattle.law_net.specs.ContextsBlocks.{Side, side, Site, leaves_in, pair_kind, outputs_in}
use Rattle.law_net.specs.ContextsWires.{wired_port, wired_way, is_unwired}
use Rattle.law_net.specs.ContextsExpanded.{row, way_in, invoked}
use Rattle.law_net.proofs.ContextsSames.{same_part-true}
use Rattle.law_wiring.specs.Written.{Wire, wire, inlet_of, is_shared, is_triggered, leaves, trigger_side, operand_wires, merge_wires, trigger_wires, gate_wires}
use Rattle.law_wiring.specs.Written.{answer_wires, sender_wires, invoke_wires, strict_wires, strict_end, strict_call_wires, kind_wires, node_wires}
use Rattle.law_wiring.specs.Written.{result_wires, answer_parts, trigger_parts, kind_parts, node_parts}
use Rattle.law_wiring.specs.WrittenFit.{Takes, Lies, Merges, IsFit}
use Rattle.law_wiring.proofs.PartsCounts.{tally, tally_both, Follow, follow_more, follow_here}
use Rattle.law_wiring.proofs.WrittenNodes.{kind_at, leaves_region}

abbrev pub test : Block ℕ → Part → Port → ℕ → Wire → Bool
test b r q y v = same_inlet (inlet r q y) (inlet_of b v)

-- an inlet to which wires lead
pub record IsWired (b : Block ℕ) (y : ℕ) (q : Port) (r : Part) : Type 0 where
  pub way : wired_way r y ≡ true
  pub port : wired_port b r q ≡ true
  pub given : is_unwired b r ≡ false

left_or : (q : Port) → one (same_port q Left) + one (same_port q Right) ≡ 1
left_or Left = refl
left_or Right = refl

with_way : (s t : Bool) → t ≡ true → (s && t) ≡ s
with_way true t h = h
with_way false t h = refl

not_right : (b : Block ℕ) (r : Part) (q : Port) → wired_port b r q ≡ true → wired_port b r Right ≡ false → q ≡ Left
not_right b r Left h n = refl
not_right b r Right h n = absurd (cc)

pub two_ways : (y : ℕ) → nat_lt y 2 ≡ true → one (y == 0) + one (y == 1) ≡ 1
two_ways zero h = refl
two_ways (suc zero) h = refl
two_ways (suc (suc y)) h = let l = ltb-true (suc (suc y)) 2 h in absurd (omega (arith, l))

module _ (b : Block ℕ) (r : Part) (q : Port) (y : ℕ) (h : IsWired b y q r) where
  -- as many wires as parts
  abbrev pub Feeds : List Wire → List Part → Type 0
  Feeds ws ps = tally (test b r q y) ws ≡ tally (same_part r) ps

  pub feeds_both : (ws vs : List Wire) (ps rs : List Part) → Feeds ws ps → Feeds vs rs → Feeds (ws ++ vs) (ps ++ rs)
  feeds_both ws vs ps rs e f =
      let a = tally_both (test b r q y) ws vs in
      let c = tally_both (same_part r) ps rs in
      omega (arith, a, c, e, f)

  at : (p : Part) → same_part r p ≡ true → IsWired b y q p
  at p e = subst (IsWired b y q) (same_part-true r p e) h

  -- a part with one port
  pub single : (p : Part) (f : Side) → wired_port b p Right ≡ false → (wired_way p y ≡ true → (y == way_in p (leaves_in b f.part f.second)) ≡ true)
      → one (test b r q y (wire f p Left)) ≡ one (same_part r p)
  single p f n w = go (same_part r p) refl
    where
      go : (t : Bool) → same_part r p ≡ t → one (t && (same_port q Left && (y == way_in p (leaves_in b f.part f.second)))) ≡ one t
      go false e = refl
      go true e =
          let x = at p e in
          let l = not_right b p q x.port n in
          ap one (ap (λ z. same_port z Left && (y == way_in p (leaves_in b f.part f.second))) l ∙ w x.way)

  -- a part at which two words meet
  pub double : (p : Part) (f g : Side) → (wired_way p y ≡ true → (y == way_in p (leaves_in b f.part f.second)) ≡ true)
      → (wired_way p y ≡ true → (y == way_in p (leaves_in b g.part g.second)) ≡ true)
      → one (test b r q y (wire f p Left)) + one (test b r q y (wire g p Right)) ≡ one (same_part r p)
  double p f g w v = go (same_part r p) refl
    where
      go : (t : Bool) → same_part r p ≡ t
          → one (t && (same_port q Left && (y == way_in p (leaves_in b f.part f.second))))
          + one (t && (same_port q Right && (y == way_in p (leaves_in b g.part g.second)))) ≡ one t
      go false e = refl
      go true e =
          let x = at p e in
          let a = ap one (with_way (same_port q Left) (y == way_in p (leaves_in b f.part f.second)) (w x.way)) in
          let c = ap one (with_way (same_port q Right) (y == way_in p (leaves_in b g.part g.second)) (v x.way)) in
          let d = left_or q in
          omega (arith, a, c, d)

  -- a part to which no wire leads
  pub unfed : (p : Part) → is_unwired b p ≡ true → one (same_part r p) ≡ 0
  unfed p g = go (same_part r p) refl
    where
      go : (t : Bool) → same_part r p ≡ t → one t ≡ 0
      go false e = refl
      go true e = let x = (at p e).given in absurd (cc)

  pub row_unfed : (f : ℕ → Part) (from n : ℕ) → ((j : ℕ) → from ≤ j → j < from + n → is_unwired b (f j) ≡ true) → tally (same_part r) (row f from n) ≡ 0
  row_unfed f from zero g = refl
  row_unfed f from (suc n) g =
      let a = unfed (f from) (g from (omega arith) (omega arith)) in let c = row_unfed f (from + 1) n (λ j l m. g j (omega (arith, l)) (omega (arith, m))) in
      omega (arith, a, c)

  -- an invocation
  senders_feed : (s : Site) (n from : ℕ) (xs : List Source) → Feeds (sender_wires s n from xs) (row (Sender n) from (length xs))
  senders_feed s n from [] = refl
  senders_feed s n from (x ∷ xs) =
      let a = double (Sender n from) (side (Fanned n) false) (leaves s x) (λ w. w) (λ w. w) in
      let c = senders_feed s n (from + 1) xs in
      omega (arith, a, c)

  invoke_feeds : (s : Site) (n : ℕ) (t : Side) (xs : List Source) (results : ℕ) → Feeds (invoke_wires s n t xs) (invoked n (length xs) results)
  invoke_feeds s n t xs results =
      let a = single (Framer n) t refl (λ w. w) in
      let c = unfed (Fanned n) refl in
      let d = single (Linker n) (side (Fanned n) false) refl (λ w. w) in
      let e = senders_feed s n 0 xs in
      let f = tally_both (same_part r) (row (Sender n) 0 (length xs)) (row (Landing n) 0 results) in
      let g = row_unfed (Landing n) 0 results (λ j l m. refl) in
      omega (arith, a, c, d, e, f, g)

  call_feeds : (s : Site) (n : ℕ) (t : Side) (xs : List Source) (results : ℕ) → Feeds (invoke_wires s n t xs) (invoked n (length xs) results ++ CallDone n ∷ [])
  call_feeds s n t xs results =
      let a = invoke_feeds s n t xs results in
      let c = tally_both (same_part r) (invoked n (length xs) results) (CallDone n ∷ []) in
      let d = unfed (CallDone n) refl in
      omega (arith, a, c, d)

  loop_feeds : (s : Site) (n : ℕ) (t : Side) (xs : List Source) (results : ℕ)
      → Feeds (wire t (Opener n) Left ∷ invoke_wires s n (side (Opener n) false) xs)
      (Opener n ∷ invoked n (length xs) results ++ (Giver n ∷ Taker n ∷ Drainer n ∷ LoopDone n ∷ []))
  loop_feeds s n t xs results =
      let a = invoke_feeds s n (side (Opener n) false) xs results in
      let c = tally_both (same_part r) (invoked n (length xs) results) (Giver n ∷ Taker n ∷ Drainer n ∷ LoopDone n ∷ []) in
      let d = single (Opener n) t refl (λ w. w) in
      let e = unfed (Giver n) refl in
      let f = unfed (Taker n) refl in
      let g = unfed (Drainer n) refl in
      let i = unfed (LoopDone n) refl in
      omega (arith, a, c, d, e, f, g, i)

  strict_feeds : (s : Site) (n from : ℕ) (t : Side) (xs : List Source) → Feeds (strict_wires s n from t xs) (row (Strict n) from (length xs))
  strict_feeds s n from t [] = refl
  strict_feeds s n from t (x ∷ xs) =
      let a = double (Strict n from) t (leaves s x) (λ w. w) (λ w. w) in
      let c = strict_feeds s n (from + 1) (side (Strict n from) false) xs in
      omega (arith, a, c)

  -- a node's operands
  operands_one : (s : Site) (n : ℕ) (xs : List Source) → length xs ≡ 1 → wired_port b (Line n) Right ≡ false
      → Feeds (operand_wires s (Line n) 0 xs) (Line n ∷ [])
  operands_one s n [] l p = absurd (omega (arith, l))
  operands_one s n (x ∷ []) l p = let a = single (Line n) (leaves s x) p (λ w. w) in omega (arith, a)
  operands_one s n (x ∷ z ∷ xs) l p = absurd (omega (arith, l))

  operands_two : (s : Site) (n : ℕ) (xs : List Source) → length xs ≡ 2 → Feeds (operand_wires s (Line n) 0 xs) (Line n ∷ [])
  operands_two s n [] l = absurd (omega (arith, l))
  operands_two s n (x ∷ []) l = absurd (omega (arith, l))
  operands_two s n (x ∷ z ∷ []) l = let a = double (Line n) (leaves s x) (leaves s z) (λ w. w) (λ w. w) in omega (arith, a)
  operands_two s n (x ∷ z ∷ u ∷ xs) l = absurd (omega (arith, l))

  copies_feed : (n : ℕ) (t : Bool) → Feeds (answer_wires n t) (answer_parts n t)
  copies_feed n true = let a = single (Answer n) (side (Line n) false) refl (λ w. w) in omega (arith, a)
  copies_feed n false = refl

  with_copy : (s : Site) (n : ℕ) (xs : List Source) → Feeds (operand_wires s (Line n) 0 xs) (Line n ∷ [])
      → Feeds (operand_wires s (Line n) 0 xs ++ answer_wires n (is_shared s n)) (Line n ∷ answer_parts n (is_shared s n))
  with_copy s n xs e =
      feeds_both (operand_wires s (Line n) 0 xs) (answer_wires n (is_shared s n)) (Line n ∷ []) (answer_parts n (is_shared s n)) e
      (copies_feed n (is_shared s n))

  triggers_feed : (s : Site) (k : ℕ) (t : Bool) (x : Source) → Feeds (trigger_wires s k t x) (trigger_parts k t)
  triggers_feed s k true x = let a = double (Trigger k) (leaves s x) (leaves s x) (λ w. w) (λ w. w) in omega (arith, a)
  triggers_feed s k false x = refl

  gates_feed : (s : Site) (n : ℕ) (g : Region) (xs : List Source) → g ≢ Root → Feeds (gate_wires s n g xs) (Gate n ∷ [])
  gates_feed s n Root xs e = absurd (e refl)
  gates_feed s n (Arm k t) xs e = let a = double (Gate n) (leaves s (first_source xs)) (leaves s (predicate_of s.block k)) (λ w. w) (λ w. w) in omega (arith, a)

  -- a part with one port, to which a wire leads from each arm
  pub two_arms : (p : Part) (f g : Side) → wired_port b p Right ≡ false → (wired_way p y ≡ true → nat_lt y 2 ≡ true)
      → way_in p (leaves_in b f.part f.second) ≡ 0 → way_in p (leaves_in b g.part g.second) ≡ 1
      → Feeds (wire f p Left ∷ wire g p Left ∷ []) (p ∷ [])
  two_arms p f g n w up down = go (same_part r p) refl
    where
      go : (t : Bool) → same_part r p ≡ t
          → one (t && (same_port q Left && (y == way_in p (leaves_in b f.part f.second))))
          + (one (t && (same_port q Left && (y == way_in p (leaves_in b g.part g.second)))) + 0) ≡ one t + 0
      go false d = refl
      go true d =
          let x = at p d in
          let l = not_right b p q x.port n in
          let a = ap one (ap (λ z. same_port z Left && (y == way_in p (leaves_in b f.part f.second))) l ∙ ap (λ z. y == z) up) in
          let c = ap one (ap (λ z. same_port z Left && (y == way_in p (leaves_in b g.part g.second))) l ∙ ap (λ z. y == z) down) in
          let o = two_ways y (w x.way) in
          omega (arith, a, c, o)

module _ (fl : Flow) (s : Site) (fit : IsFit fl s.block) (r : Part) (q : Port) (y : ℕ) (h : IsWired s.block y q r) where
  abbrev F : List Wire → List Part → Type 0
  F ws ps = Feeds s.block r q y h ws ps

  merges_feed : (n c : ℕ) (g : Region) (xs : List Source) → Merges s.block n g c xs → F (merge_wires s (Parts.Merge n) xs) (Parts.Merge n ∷ [])
  merges_feed n c g [] m = absurd m
  merges_feed n c g (x ∷ []) m = absurd m
  merges_feed n c g (x ∷ z ∷ []) m =
      two_arms s.block r q y h (Parts.Merge n) (leaves s x) (leaves s z) refl (λ w. w) (ap (way_in (Parts.Merge n)) (leaves_region s x.node x.port ∙ m.3))
      (ap (way_in (Parts.Merge n)) (leaves_region s z.node z.port ∙ m.4))
  merges_feed n c g (x ∷ z ∷ u ∷ xs) m = absurd m

  strict_calls : (n results : ℕ) (xs : List Source) → 0 < length xs
      → F (strict_call_wires s n xs) (row (Strict n) 1 (length xs - 1) ++ (invoked n (length xs) results ++ CallDone n ∷ []))
  strict_calls n results [] l = absurd (omega (arith, l))
  strict_calls n results (x ∷ xs) l =
      let less : suc (length xs) - 1 ≡ length xs = omega arith in
      subst (λ m. F (strict_call_wires s n (x ∷ xs)) (row (Strict n) 1 m ++ (invoked n (suc (length xs)) results ++ CallDone n ∷ []))) (sym less)
      (feeds_both s.block r q y h (strict_wires s n 1 (leaves s x) xs) (invoke_wires s n (strict_end n 1 (leaves s x) xs) (x ∷ xs))
      (row (Strict n) 1 (length xs)) (invoked n (suc (length xs)) results ++ CallDone n ∷ [])
      (strict_feeds s.block r q y h s n 1 (leaves s x) xs) (call_feeds s.block r q y h s n (strict_end n 1 (leaves s x) xs) (x ∷ xs) results))

  -- A NODE
  kind_feeds : (n : ℕ) (x : Node ℕ) → node_at s.block n ≡ Some x → F (kind_wires s n x.region x.kind x.sources) (kind_parts fl s n (length x.sources) x.kind)
  kind_feeds n x e = go x.kind refl (fit.nodes n x e).takes (fit.nodes n x e).lies
    where
      no_pair : (k : Kind ℕ) → x.kind ≡ k → pair_kind k ≡ false → wired_port s.block (Line n) Right ≡ false
      no_pair k f p = kind_at s.block pair_kind n x e ∙ ap pair_kind f ∙ p

      go : (k : Kind ℕ) → x.kind ≡ k → Takes fl k (length x.sources) → Lies s.block n x.region k x.sources
          → F (kind_wires s n x.region k x.sources) (kind_parts fl s n (length x.sources) k)
      go Cond f t l = triggers_feed s.block r q y h s n (is_triggered s.block n) (first_source x.sources)
      go Enter f t l = gates_feed s.block r q y h s n x.region x.sources l.0
      go (Merge c) f t l = merges_feed n c x.region x.sources l
      go (Lit z) f t l = operands_one s.block r q y h s n x.sources t (no_pair (Lit z) f refl)
      go (Apply1 op) f t l = operands_one s.block r q y h s n x.sources t (no_pair (Apply1 op) f refl)
      go (Apply2 op) f t l = operands_two s.block r q y h s n x.sources t
      go (Fetch a) f t l = with_copy s.block r q y h s n x.sources (operands_one s.block r q y h s n x.sources t (no_pair (Fetch a) f refl))
      go (Store a) f t l = with_copy s.block r q y h s n x.sources (operands_two s.block r q y h s n x.sources t)
      go (Call g) f t l = call_feeds s.block r q y h s n (trigger_side x.region) x.sources (outputs_in (slice_get fl.blocks g))
      go (StrictCall g) f t l = strict_calls n (outputs_in (slice_get fl.blocks g)) x.sources t.some_input
      go (Loop g c) f t l = loop_feeds s.block r q y h s n (trigger_side x.region) x.sources (length x.sources)

  pub nodes_feed : (n : ℕ) (xs : List (Node ℕ)) → Follow s.block n xs → F (node_wires s n xs) (node_parts fl s n xs)
  nodes_feed n [] f = refl
  nodes_feed n (x ∷ xs) f =
      feeds_both s.block r q y h (kind_wires s n x.region x.kind x.sources) (node_wires s (n + 1) xs) (kind_parts fl s n (length x.sources) x.kind)
      (node_parts fl s (n + 1) xs)
      (kind_feeds n x (follow_here s.block n x xs f)) (nodes_feed (n + 1) xs (follow_more s.block n x xs f))

  pub results_feed : (from : ℕ) (xs : List Source) → F (result_wires s from xs) (row Result from (length xs))
  results_feed from [] = refl
  results_feed from (x ∷ xs) =
      let a = double s.block r q y h (Result from) (side Entry false) (leaves s x) (λ w. w) (λ w. w) in
      let c = results_feed (from + 1) xs in
      omega (arith, a, c)
