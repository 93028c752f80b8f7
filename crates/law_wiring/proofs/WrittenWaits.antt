-- A strict call waits for all its arguments: what leads to an argument's sender leads to its place in a chain of joins, and the last
-- one leads to the framer.
use Rattle.std.proofs.Common.{◌≡◌, ◌≢◌, ℕ, zero, suc, ◌+◌, ◌<◌, ◌≤◌, ◌⊎◌, inl, inr, Bool, true, false, ◌==◌, List, [], ◌∷◌, ◌++◌, length, refl, sym, ap, ◌∙◌}
use Rattle.std.proofs.Common.{subst, arith, if◌then◌else◌, Some, None, Contains}
use Rattle.std.specs.Prelude.{slice_get}
use Rattle.std.proofs.lemmas.Bool.{eqb-true, cases_lt}
use Rattle.lemmas.proofs.SliceGet.{get_some}
use Rattle.lemmas.proofs.Bools.{equal_itself}
use Rattle.tags.specs.declared.token.Port.TheVariants.{Left, Right}
use Rattle.semantics.specs.declared.graph.Region.{Region}
use Rattle.semantics.specs.declared.graph.Source.{Source}
use Rattle.semantics.specs.declared.graph.Kind.{Kind}
use Rattle.semantics.specs.declared.graph.Kind.TheVariants.{StrictCall}
use Rattle.semantics.specs.Graph.{Node, Flow, node_at}
use Rattle.law_net.specs.ContextsParts.{Framer, Sender, Strict, Inlet, inlet}
use Rattle.law_net.specs.ContextsBlocks.{Side, side, Site, Wiring, there_in, is_strict, strict_kind, source_count}
use Rattle.law_net.specs.ContextsWires.{wait_after, wait_for, WaitsForAll}
use Rattle.law_wiring.specs.Written.{Wire, wire, inlet_of, leaves, sender_wires, invoke_wires, strict_wires, strict_end, strict_call_wires, kind_wires, sides}
use Rattle.law_wiring.specs.Written.{parts_in, wires_in}
use Rattle.law_wiring.specs.WrittenFit.{IsFit}
use Rattle.law_wiring.specs.WrittenHalves.{IsWritten}
use Rattle.law_wiring.proofs.WrittenMembers.{AllW, In, InW, wire_left, wire_right, contains_along}
use Rattle.law_wiring.proofs.WrittenNodes.{node_some}
use Rattle.law_wiring.proofs.WrittenNodeWires.{node_in_block}
use Rattle.law_wiring.proofs.FedEnds.{TurnsWell}
use Rattle.law_wiring.proofs.FedFrom.{From, all_from}
use Rattle.law_wiring.proofs.Fed.{side_there, is_there}

-- what holds of all wires holds of each of them
each_wire : (P : Wire → Type 0) (v : Wire) (ws : List Wire) → AllW P ws → InW v ws → P v
each_wire P v [] h i = absurd i
each_wire P v (w ∷ ws) h (inl e) = subst P e h.0
each_wire P v (w ∷ ws) h (inr i) = each_wire P v ws h.1 i

not_same : (i j : ℕ) → i ≢ j → (i == j) ≡ false
not_same i j ne = go (i == j) refl
  where
    go : (t : Bool) → (i == j) ≡ t → t ≡ false
    go true e = absurd (ne (eqb-true i j e))
    go false e = refl

-- after the place i
after_last : (n count i : ℕ) → i + 1 ≡ count → wait_after n count i ≡ inlet (Framer n) Left 0
after_last n count i e = ap (λ t. if t then inlet (Framer n) Left 0 else inlet (Strict n (i + 1)) Left 0) (ap (λ k. k == count) e ∙ equal_itself count)

after_other : (n count i : ℕ) → i + 1 < count → wait_after n count i ≡ inlet (Strict n (i + 1)) Left 0
after_other n count i l = ap (λ t. if t then inlet (Framer n) Left 0 else inlet (Strict n (i + 1)) Left 0) (not_same (i + 1) count (λ q. omega (arith, q, l)))

module _ (s : Site) (n : ℕ) where
  -- THE CHAIN, and the invocation after it
  abbrev chain : ℕ → Side → List Source → List Source → List Wire
  chain from t xs ys = strict_wires s n from t xs ++ invoke_wires s n (strict_end n from t xs) ys

  -- a wire from a side to an inlet
  abbrev Leads : List Wire → Side → Inlet → Type 0
  Leads ws t x = (v : Wire) × InW v ws × (v.from ≡ t) × (inlet_of s.block v ≡ x)

  leads_right : (ws us : List Wire) (t : Side) (x : Inlet) → Leads us t x → Leads (ws ++ us) t x
  leads_right ws us t x h = (h.0, wire_right h.0 ws us h.1, h.2, h.3)

  -- the side before the chain leads to what is after place i
  start_leads : (i count : ℕ) (t : Side) (xs ys : List Source) → count ≡ (i + 1) + length xs → Leads (chain (i + 1) t xs ys) t (wait_after n count i)
  start_leads i count t [] ys e = (wire t (Framer n) Left, inl refl, refl, sym (after_last n count i (omega (arith, e))))
  start_leads i count t (x ∷ xs) ys e = (wire t (Strict n (i + 1)) Left, inl refl, refl, sym (after_other n count i (omega (arith, e))))

  -- and so does each join
  join_leads : (from count i : ℕ) (t : Side) (xs ys : List Source) → count ≡ from + length xs → from ≤ i → i < count
      → Leads (chain from t xs ys) (side (Strict n i) false) (wait_after n count i)
  join_leads from count i t [] ys e l m = absurd (omega (arith, e, l, m))
  join_leads from count i t (x ∷ xs) ys e l m =
      go (cases_lt from i) (λ a. join_leads (from + 1) count i (side (Strict n from) false) xs ys (omega (arith, e)) (omega (arith, a)) m)
    where
      mine : List Wire
      mine = wire t (Strict n from) Left ∷ wire (leaves s x) (Strict n from) Right ∷ []

      later : List Wire
      later = chain (from + 1) (side (Strict n from) false) xs ys

      go : (from < i) ⊎ (i ≤ from) → (from < i → Leads later (side (Strict n i) false) (wait_after n count i))
          → Leads (chain from t (x ∷ xs) ys) (side (Strict n i) false) (wait_after n count i)
      go (inl a) more = leads_right mine later (side (Strict n i) false) (wait_after n count i) (more a)
      go (inr a) more =
          let same : from ≡ i = omega (arith, l, a) in
          subst (λ k. Leads (chain from t (x ∷ xs) ys) (side (Strict n k) false) (wait_after n count k)) same
          (leads_right mine later (side (Strict n from) false) (wait_after n count from)
          (start_leads from count (side (Strict n from) false) xs ys (omega (arith, e))))

  -- the arguments go to the joins
  argument_joins : (from : ℕ) (t : Side) (xs : List Source) (i : ℕ) (x : Source) → slice_get xs i ≡ Some x
      → InW (wire (leaves s x) (Strict n (from + i)) Right) (strict_wires s n from t xs)
  argument_joins from t [] i x e = absurd (cc)
  argument_joins from t (y ∷ xs) zero x e =
      let it : y ≡ x = cc in
      let place : from ≡ from + zero = omega arith in
      inr (inl (ap (λ z. wire (leaves s z) (Strict n from) Right) it ∙ ap (λ k. wire (leaves s x) (Strict n k) Right) place))
  argument_joins from t (y ∷ xs) (suc i) x e =
      let place : (from + 1) + i ≡ from + suc i = omega arith in
      inr (inr (subst (λ k. InW (wire (leaves s x) (Strict n k) Right) (strict_wires s n (from + 1) (side (Strict n from) false) xs)) place
      (argument_joins (from + 1) (side (Strict n from) false) xs i x e)))

  -- and to the senders
  argument_sent : (from : ℕ) (xs : List Source) (i : ℕ) (x : Source) → slice_get xs i ≡ Some x
      → InW (wire (leaves s x) (Sender n (from + i)) Right) (sender_wires s n from xs)
  argument_sent from [] i x e = absurd (cc)
  argument_sent from (y ∷ xs) zero x e =
      let it : y ≡ x = cc in
      let place : from ≡ from + zero = omega arith in
      inr (inl (ap (λ z. wire (leaves s z) (Sender n from) Right) it ∙ ap (λ k. wire (leaves s x) (Sender n k) Right) place))
  argument_sent from (y ∷ xs) (suc i) x e =
      let place : (from + 1) + i ≡ from + suc i = omega arith in
      inr (inr (subst (λ k. InW (wire (leaves s x) (Sender n k) Right) (sender_wires s n (from + 1) xs)) place (argument_sent (from + 1) xs i x e)))

  sent : (xs : List Source) (i : ℕ) (x : Source) → slice_get xs i ≡ Some x → InW (wire (leaves s x) (Sender n i) Right) (strict_call_wires s n xs)
  sent [] i x e = absurd (cc)
  sent (y ∷ ys) i x e =
      let v = wire (leaves s x) (Sender n i) Right in
      let t = strict_end n 1 (leaves s y) ys in
      let place : 0 + i ≡ i = omega arith in
      wire_right v (strict_wires s n 1 (leaves s y) ys) (invoke_wires s n t (y ∷ ys))
      (inr (inr (subst (λ k. InW (wire (leaves s x) (Sender n k) Right) (sender_wires s n 0 (y ∷ ys))) place (argument_sent 0 (y ∷ ys) i x e))))

  -- AN ARGUMENT leads to its place
  waits_at : (xs : List Source) (i : ℕ) (x : Source) → slice_get xs i ≡ Some x → Leads (strict_call_wires s n xs) (leaves s x) (wait_for n (length xs) i)
  waits_at [] i x e = absurd (cc)
  waits_at (y ∷ ys) zero x e =
      let it : y ≡ x = cc in
      subst (λ z. Leads (strict_call_wires s n (y ∷ ys)) (leaves s z) (wait_for n (length (y ∷ ys)) zero)) it
      (start_leads 0 (length (y ∷ ys)) (leaves s y) ys (y ∷ ys) (omega arith))
  waits_at (y ∷ ys) (suc i) x e =
      let v = wire (leaves s x) (Strict n (suc i)) Right in
      let place : 1 + i ≡ suc i = omega arith in
      let here = subst (λ k. InW (wire (leaves s x) (Strict n k) Right) (strict_wires s n 1 (leaves s y) ys)) place (argument_joins 1 (leaves s y) ys i x e) in
      (v, wire_left v (strict_wires s n 1 (leaves s y) ys) (invoke_wires s n (strict_end n 1 (leaves s y) ys) (y ∷ ys)) here, refl, refl)

  -- A JOIN leads on
  goes_on : (xs : List Source) (i : ℕ) → 0 < i → i < length xs → Leads (strict_call_wires s n xs) (side (Strict n i) false) (wait_after n (length xs) i)
  goes_on [] i l m = absurd (omega (arith, l, m))
  goes_on (y ∷ ys) i l m = join_leads 1 (length (y ∷ ys)) i (leaves s y) ys (y ∷ ys) (omega arith) (omega (arith, l)) m

  -- these are the node's wires
  strict_is : (v : Wire) (r : Region) (k : Kind ℕ) (xs : List Source) → strict_kind k ≡ true → InW v (strict_call_wires s n xs) → InW v (kind_wires s n r k xs)
  strict_is v r (StrictCall f) xs e h = h
  strict_is v r k xs e h = absurd (cc)

module _ (fl : Flow) (s : Site) (fit : IsFit fl s.block) (well : TurnsWell s) (w : Wiring) (h : IsWritten fl s w) where
  -- THE WHOLE. A wire that is written down is one of the block's code.
  pub wire_there : (v : Wire) → InW v (wires_in fl s) → there_in fl s w v.from.part ≡ true
  wire_there v i =
      is_there fl s fit well w h v.from.part
      (side_there v.from (parts_in fl s) (each_wire (From (λ t. In t (sides (parts_in fl s)))) v (wires_in fl s) (all_from fl s fit well) i)).0

  pub wire_leads : (v : Wire) → InW v (wires_in fl s) → Contains (w.wire v.from) (inlet_of s.block v)
  wire_leads v i = subst (λ xs. Contains xs (inlet_of s.block v)) (sym (h.wire v.from (wire_there v i))) (contains_along s.block v (wires_in fl s) i)

  pub waits_for_all : (n : ℕ) → is_strict s.block n ≡ true → WaitsForAll fl s w n
  waits_for_all n strict = record { arguments = λ i l. argument i (omega (arith, l, count)); joins = λ i l m. join i l (omega (arith, m, count)) }
    where
      node : (x : Node ℕ) × (node_at s.block n ≡ Some x) × (strict_kind x.kind ≡ true)
      node = node_some s.block strict_kind n strict

      xs : List Source
      xs = node.0.sources

      count : source_count s.block n ≡ length xs
      count = ap (λ o. elim o as (λ z. ℕ) [ None ↦ 0 | Some line ↦ length line.sources ]) node.1

      own : (v : Wire) → InW v (strict_call_wires s n xs) → InW v (wires_in fl s)
      own v i = node_in_block fl s v n node.0 node.1 (strict_is s n v node.0.region node.0.kind xs node.2 i)

      -- what a side leads to
      leads : (t : Side) (x : Inlet) → Leads s n (strict_call_wires s n xs) t x → (there_in fl s w t.part ≡ true) × Contains (w.wire t) x
      leads t x k =
          let i = own k.0 k.1 in (
            subst (λ (u : Side). there_in fl s w u.part ≡ true) k.2 (wire_there k.0 i),
            subst (λ u. Contains (w.wire u) x) k.2 (subst (λ y. Contains (w.wire k.0.from) y) k.3 (wire_leads k.0 i)),
          )

      argument : (i : ℕ) → i < length xs → (t : Side) × (there_in fl s w t.part ≡ true) × Contains (w.wire t) (inlet (Sender n i) Right 0)
          × Contains (w.wire t) (wait_for n (source_count s.block n) i)
      argument i l =
          let x = get_some xs i l in
          let t : Side = leaves s x.0 in
          let v = wire t (Sender n i) Right in
          let k = leads t (inlet (Sender n i) Right 0) (v, sent s n xs i x.0 x.1, refl, refl) in
          let m = leads t (wait_for n (length xs) i) (waits_at s n xs i x.0 x.1) in
          (t, k.0, k.1, subst (λ c. Contains (w.wire t) (wait_for n c i)) (sym count) m.1)

      join : (i : ℕ) → 0 < i → i < length xs → Contains (w.wire (side (Strict n i) false)) (wait_after n (source_count s.block n) i)
      join i l m =
          subst (λ c. Contains (w.wire (side (Strict n i) false)) (wait_after n c i)) (sym count)
          (leads (side (Strict n i) false) (wait_after n (length xs) i) (goes_on s n xs i l m)).1
