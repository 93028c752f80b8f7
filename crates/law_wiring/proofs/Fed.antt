-- Each inlet of a code block is fed by one side.
use Rattle.std.proofs.Common.{◌≡◌, ◌≢◌, ℕ, zero, suc, ◌+◌, ◌<◌, ◌⊎◌, inl, inr, Bool, true, false, List, [], ◌∷◌, ◌++◌, length, refl, sym, ap, ◌∙◌, subst, arith}
use Rattle.std.proofs.Common.{if◌then◌else◌, Some, Contains}
use Rattle.std.specs.Prelude.{count_by}
use Rattle.std.proofs.lemmas.Bool.{ltb-true, lt-ltb, le-ltb}
use Rattle.tags.specs.declared.token.Port.{Port}
use Rattle.tags.specs.declared.token.Port.TheVariants.{Left, Right}
use Rattle.semantics.specs.declared.graph.Region.{Region}
use Rattle.semantics.specs.declared.graph.Region.TheVariants.{Root, Arm}
use Rattle.semantics.specs.declared.graph.Source.{Source}
use Rattle.semantics.specs.declared.graph.Kind.{Kind}
use Rattle.semantics.specs.declared.graph.Kind.TheVariants.{Lit, Apply1, Apply2, Cond, Enter, Merge, Fetch, Store, Call, StrictCall, Loop}
use Rattle.semantics.specs.Graph.{Node, Block, Flow, node_at, node_count}
use Rattle.law_confluence.specs.OrdersTotals.{one}
use Rattle.schemas.specs.Builds as Builds
use Rattle.law_net.specs.ContextsParts as Parts
use Rattle.law_net.specs.ContextsParts.{Part, Entry, Line, Opener, Strict, TurnCont, TurnFlag, Asker, NextFanned, NextSender, DrainReturn, Join, CondEnd, Inlet}
use Rattle.law_net.specs.ContextsParts.{inlet, same_part, same_inlet}
use Rattle.law_net.specs.ContextsBlocks.{Side, side, Site, Wiring, there_in, leaves_in, pair_kind}
use Rattle.law_net.specs.ContextsWires.{plain_site, AreFed, IsFed, wired_way, wired_port, is_unwired, is_side, has_no_wire, hits}
use Rattle.law_net.specs.ContextsExpanded.{way_in}
use Rattle.law_net.proofs.ContextsSames.{same_part-refl}
use Rattle.law_wiring.specs.Written as Written
use Rattle.law_wiring.specs.Written.{Wire, wire, is_shared, is_triggered, leaves, trigger_side, answer_wires, along, inlet_of, same_side, sides_of, sides}
use Rattle.law_wiring.specs.Written.{parts_in, wires_in, operand_wires, merge_wires, meet_wires, trigger_wires, gate_wires, sender_wires, invoke_wires}
use Rattle.law_wiring.specs.Written.{strict_wires, strict_end, strict_call_wires, kind_wires, node_wires, result_wires, value_wires, next_wires, last_wires}
use Rattle.law_wiring.specs.Written.{turn_wires, tail_wires, inner_wires, chain_wires, joined_wires, signal_wires, Ended, arm_ends, close, close_kind}
use Rattle.law_wiring.specs.Written.{close_nodes, close_flag, inner, root_ends}
use Rattle.law_wiring.specs.WrittenFit.{Takes, IsFit}
use Rattle.law_wiring.specs.WrittenHalves.{IsWritten, WrittenIsFed}
use Rattle.law_wiring.proofs.PartsSame.{side_is}
use Rattle.law_wiring.proofs.PartsCounts.{tally, count_is, Follow, follow_more, follow_here}
use Rattle.law_wiring.proofs.WrittenMembers.{AllW, all_both, along_all, In, in_cases, side_self, part_of}
use Rattle.law_wiring.proofs.Parts.{follow, node_within}
use Rattle.law_wiring.proofs.WrittenNodes.{kind_at}
use Rattle.law_wiring.proofs.FedOnce.{IsWired, test}
use Rattle.law_wiring.proofs.FedEnds.{TurnsWell, all_feed}
use Rattle.law_wiring.proofs.FedFrom.{From, all_from}

-- ONE ALONE: it is fed along one side
none_along : (b : Block ℕ) (x : Inlet) (t : Side) (ws : List Wire) → tally (λ w. same_inlet x (inlet_of b w)) ws ≡ 0 → hits x (along b t ws) ≡ 0
none_along b x t [] h = refl
none_along b x t (w ∷ ws) h = go (same_side t w.from) (none_along b x t ws)
  where
    go : (s : Bool) → (tally (λ w. same_inlet x (inlet_of b w)) ws ≡ 0 → hits x (along b t ws) ≡ 0)
        → hits x (if s then inlet_of b w ∷ along b t ws else along b t ws) ≡ 0
    go true more = let r = more (omega (arith, h)) in omega (arith, h, r)
    go false more = more (omega (arith, h))

one_along : (P : Wire → Type 0) (b : Block ℕ) (x : Inlet) (ws : List Wire) → AllW P ws → tally (λ w. same_inlet x (inlet_of b w)) ws ≡ 1
    → (v : Wire) × P v × ((t : Side) → hits x (along b t ws) ≡ one (same_side t v.from))
one_along P b x [] all h = absurd (omega (arith, h))
one_along P b x (w ∷ ws) all h = go (same_inlet x (inlet_of b w)) refl (one_along P b x ws all.1)
  where
    test_it : Wire → Bool
    test_it w = same_inlet x (inlet_of b w)

    go : (s : Bool) → same_inlet x (inlet_of b w) ≡ s
        → (tally test_it ws ≡ 1 → (v : Wire) × P v × ((t : Side) → hits x (along b t ws) ≡ one (same_side t v.from)))
        → (v : Wire) × P v × ((t : Side) → hits x (if same_side t w.from then inlet_of b w ∷ along b t ws else along b t ws) ≡ one (same_side t v.from))
    go true e more =
        let o = ap one e in
        let rest : tally test_it ws ≡ 0 = omega (arith, h, o) in
        (w, all.0, λ t. by_side t (same_side t w.from) o (none_along b x t ws rest))
      where
        by_side : (t : Side) (s : Bool) → one (same_inlet x (inlet_of b w)) ≡ 1 → hits x (along b t ws) ≡ 0
            → hits x (if s then inlet_of b w ∷ along b t ws else along b t ws) ≡ one s
        by_side t true o r = omega (arith, o, r)
        by_side t false o r = r
    go false e more =
        let o = ap one e in
        let found = more (omega (arith, h, o)) in
        (found.0, found.1, λ t. by_side t (same_side t w.from) o ∙ found.2 t)
      where
        by_side : (t : Side) (s : Bool) → one (same_inlet x (inlet_of b w)) ≡ 0
            → hits x (if s then inlet_of b w ∷ along b t ws else along b t ws) ≡ hits x (along b t ws)
        by_side t true o = omega (arith, o)
        by_side t false o = refl

-- a side of a list of parts
pub side_there : (t : Side) (xs : List Part) → In t (sides xs) → (0 < tally (same_part t.part) xs) × (is_side t ≡ true) × (has_no_wire t.part ≡ false)
side_there t [] h = absurd h
side_there t (x ∷ xs) h = go (in_cases t (sides_of x) (sides xs) h) (side_there t xs)
  where
    go : In t (sides_of x) ⊎ In t (sides xs) → (In t (sides xs) → (0 < tally (same_part t.part) xs) × (is_side t ≡ true) × (has_no_wire t.part ≡ false))
        → (0 < tally (same_part t.part) (x ∷ xs)) × (is_side t ≡ true) × (has_no_wire t.part ≡ false)
    go (inl k) more =
        let s = part_of t x k in
        let o : one (same_part t.part x) ≡ 1 = ap (λ r. one (same_part t.part r)) (sym s.0) ∙ ap one (same_part-refl t.part) in
        (omega (arith, o), s.1, s.2)
    go (inr k) more = let m = more k in let l = m.0 in (omega (arith, l), m.1, m.2)

-- WHERE A WIRE LEADS: to a port that the part has, and not to what is given
ways_known : (r : Part) (g : Region) → wired_way r (way_in r g) ≡ true
ways_known (Parts.Merge n) Root = refl
ways_known (Parts.Merge n) (Arm k true) = refl
ways_known (Parts.Merge n) (Arm k false) = refl
ways_known (CondEnd n) Root = refl
ways_known (CondEnd n) (Arm k true) = refl
ways_known (CondEnd n) (Arm k false) = refl
ways_known r g = refl

no_along : (b : Block ℕ) (t : Side) (ws : List Wire) → AllW (λ v. t ≢ v.from) ws → along b t ws ≡ []
no_along b t [] h = refl
no_along b t (w ∷ ws) h = go (same_side t w.from) refl (no_along b t ws h.1)
  where
    go : (s : Bool) → same_side t w.from ≡ s → along b t ws ≡ [] → (if s then inlet_of b w ∷ along b t ws else along b t ws) ≡ []
    go true e k = absurd (h.0 (side_is t w.from e))
    go false e k = k

module _ (fl : Flow) (s : Site) (fit : IsFit fl s.block) where
  abbrev Local : Wire → Type 0
  Local v = (wired_port s.block v.part v.port ≡ true) × (is_unwired s.block v.part ≡ false)

  chain_local : (g : Region) (n : ℕ) (t : Side) (ts : List Side) → AllW Local (chain_wires g n t ts)
  chain_local g n t [] = tt
  chain_local g n t (u ∷ us) = ((refl, refl), ((refl, refl), chain_local g (n + 1) (side (Join g n) false) us))

  joined_local : (g : Region) (ts : List Side) → AllW Local (joined_wires g ts)
  joined_local g [] = tt
  joined_local g (t ∷ ts) = chain_local g 0 t ts

  cond_local : (g : Region) (k : ℕ) (ts : List Side) → AllW Local (signal_wires g ts (CondEnd k) Left)
  cond_local g k [] = tt
  cond_local g k (t ∷ ts) = ((refl, refl), tt)

  end_local : (ts : List Side) → AllW Local (signal_wires Root ts Parts.End Right)
  end_local [] = tt
  end_local (t ∷ ts) = ((refl, refl), tt)

  -- nodes
  module _ (n : ℕ) (x : Node ℕ) (at : node_at s.block n ≡ Some x) where
    not_input : is_unwired s.block (Line n) ≡ false
    not_input = let w = (node_within s.block n x at).0 in le-ltb n s.block.inputs w

    one_local : (xs : List Source) → length xs ≡ 1 → AllW Local (operand_wires s (Line n) 0 xs)
    one_local [] l = tt
    one_local (z ∷ []) l = ((refl, not_input), tt)
    one_local (z ∷ u ∷ xs) l = absurd (omega (arith, l))

    two_local : (xs : List Source) → pair_kind x.kind ≡ true → length xs ≡ 2 → AllW Local (operand_wires s (Line n) 0 xs)
    two_local [] p l = tt
    two_local (z ∷ []) p l = absurd (omega (arith, l))
    two_local (z ∷ u ∷ []) p l = ((refl, not_input), ((kind_at s.block pair_kind n x at ∙ p, not_input), tt))
    two_local (z ∷ u ∷ v ∷ xs) p l = absurd (omega (arith, l))

    merges_local : (xs : List Source) → AllW Local (merge_wires s (Parts.Merge n) xs)
    merges_local [] = tt
    merges_local (z ∷ xs) = ((refl, refl), merges_local xs)

    gates_local : (g : Region) (xs : List Source) → AllW Local (gate_wires s n g xs)
    gates_local Root xs = tt
    gates_local (Arm k t) xs = ((refl, refl), ((refl, refl), tt))

    copies_local : (t : Bool) → AllW Local (answer_wires n t)
    copies_local true = ((refl, refl), tt)
    copies_local false = tt

    triggers_local : (t : Bool) (z : Source) → AllW Local (trigger_wires s n t z)
    triggers_local true z = ((refl, refl), ((refl, refl), tt))
    triggers_local false z = tt

    senders_local : (from : ℕ) (xs : List Source) → AllW Local (sender_wires s n from xs)
    senders_local from [] = tt
    senders_local from (z ∷ xs) = ((refl, refl), ((refl, refl), senders_local (from + 1) xs))

    invoke_local : (t : Side) (xs : List Source) → AllW Local (invoke_wires s n t xs)
    invoke_local t xs = ((refl, refl), ((refl, refl), senders_local 0 xs))

    strict_local : (from : ℕ) (t : Side) (xs : List Source) → AllW Local (strict_wires s n from t xs)
    strict_local from t [] = tt
    strict_local from t (z ∷ xs) = ((refl, refl), ((refl, refl), strict_local (from + 1) (side (Strict n from) false) xs))

    strict_call_local : (xs : List Source) → AllW Local (strict_call_wires s n xs)
    strict_call_local [] = tt
    strict_call_local (z ∷ xs) =
        all_both Local (strict_wires s n 1 (leaves s z) xs) (invoke_wires s n (strict_end n 1 (leaves s z) xs) (z ∷ xs)) (strict_local 1 (leaves s z) xs)
        (invoke_local (strict_end n 1 (leaves s z) xs) (z ∷ xs))

    kind_local : AllW Local (kind_wires s n x.region x.kind x.sources)
    kind_local = go x.kind refl (fit.nodes n x at).takes
      where
        go : (k : Kind ℕ) → x.kind ≡ k → Takes fl k (length x.sources) → AllW Local (kind_wires s n x.region k x.sources)
        go Cond e t = triggers_local (is_triggered s.block n) (Builds.first_source x.sources)
        go Enter e t = gates_local x.region x.sources
        go (Merge c) e t = merges_local x.sources
        go (Lit z) e t = one_local x.sources t
        go (Apply1 op) e t = one_local x.sources t
        go (Apply2 op) e t = two_local x.sources (ap pair_kind e) t
        go (Fetch a) e t =
            all_both Local (operand_wires s (Line n) 0 x.sources) (answer_wires n (is_shared s n)) (one_local x.sources t) (copies_local (is_shared s n))
        go (Store a) e t =
            all_both Local (operand_wires s (Line n) 0 x.sources) (answer_wires n (is_shared s n)) (two_local x.sources (ap pair_kind e) t)
            (copies_local (is_shared s n))
        go (Call g) e t = invoke_local (trigger_side x.region) x.sources
        go (StrictCall g) e t = strict_call_local x.sources
        go (Loop g c) e t = ((refl, refl), invoke_local (side (Opener n) false) x.sources)

  nodes_local : (n : ℕ) (xs : List (Node ℕ)) → Follow s.block n xs → AllW Local (node_wires s n xs)
  nodes_local n [] f = tt
  nodes_local n (x ∷ xs) f =
      all_both Local (kind_wires s n x.region x.kind x.sources) (node_wires s (n + 1) xs) (kind_local n x (follow_here s.block n x xs f))
      (nodes_local (n + 1) xs (follow_more s.block n x xs f))

  results_local : (from : ℕ) (xs : List Source) → AllW Local (result_wires s from xs)
  results_local from [] = tt
  results_local from (x ∷ xs) = ((refl, refl), ((refl, refl), results_local (from + 1) xs))

  -- the turn of a loop
  values_local : (t : Side) (from : ℕ) (xs : List Source) → AllW Local (value_wires s t from xs)
  values_local t from [] = tt
  values_local t from (x ∷ xs) = ((refl, refl), ((refl, refl), values_local t (from + 1) xs))

  nexts_local : (from n : ℕ) → AllW Local (next_wires from n)
  nexts_local from zero = tt
  nexts_local from (suc n) = ((refl, refl), ((refl, refl), nexts_local (from + 1) n))

  lasts_local : (from n : ℕ) → AllW Local (last_wires from n)
  lasts_local from zero = tt
  lasts_local from (suc n) = ((refl, refl), ((refl, refl), lasts_local (from + 1) n))

  tails_local : (t : Bool) → AllW Local (tail_wires s t)
  tails_local false = results_local 0 s.block.results
  tails_local true = go s.block.results
    where
      go : (xs : List Source) → AllW Local (turn_wires s xs)
      go [] = tt
      go (x ∷ xs) =
          let drain = meet_wires (side TurnCont true) (side TurnFlag true) DrainReturn in (
            (refl, refl),
            (
              (refl, refl),
              (
                (refl, refl),
                (
                  (refl, refl),
                  all_both Local (value_wires s (leaves s x) 1 xs)
                      (meet_wires (side TurnCont false) (side TurnFlag false) Asker
                      ++ (meet_wires (side NextFanned false) (side TurnCont false) (NextSender 0)
                      ++ (next_wires 1 (length xs) ++ (last_wires 0 (length xs) ++ drain))))
                      (values_local (leaves s x) 1 xs) (
                        (refl, refl),
                        (
                          (refl, refl),
                          (
                            (refl, refl),
                            (
                              (refl, refl),
                              all_both Local (next_wires 1 (length xs)) (last_wires 0 (length xs) ++ drain) (nexts_local 1 (length xs))
                                  (all_both Local (last_wires 0 (length xs)) drain (lasts_local 0 (length xs)) ((refl, refl), ((refl, refl), tt))),
                            ),
                          ),
                        ),
                      ),
                ),
              ),
            ),
          )

  -- closings
  close_local : (k : ℕ) (x : Ended) → AllW Local x.wires → AllW Local (close s.block k x).wires
  close_local k x h =
      let ts : List Side = arm_ends s.block k true x in
      let us : List Side = arm_ends s.block k false x in
      let up : List Wire = signal_wires (Arm k true) ts (CondEnd k) Left in
      let down : List Wire = signal_wires (Arm k false) us (CondEnd k) Left in
      all_both Local x.wires (joined_wires (Arm k true) ts ++ (joined_wires (Arm k false) us ++ (up ++ down))) h
      (all_both Local (joined_wires (Arm k true) ts) (joined_wires (Arm k false) us ++ (up ++ down)) (joined_local (Arm k true) ts)
      (all_both Local (joined_wires (Arm k false) us) (up ++ down) (joined_local (Arm k false) us)
      (all_both Local up down (cond_local (Arm k true) k ts) (cond_local (Arm k false) k us))))

  kind_closes : (n : ℕ) (x : Ended) (k : Kind ℕ) → AllW Local x.wires → AllW Local (close_kind s.block n x k).wires
  kind_closes n x Cond h = close_local n x h
  kind_closes n x (Lit z) h = h
  kind_closes n x (Apply1 op) h = h
  kind_closes n x (Apply2 op) h = h
  kind_closes n x Enter h = h
  kind_closes n x (Merge c) h = h
  kind_closes n x (Fetch a) h = h
  kind_closes n x (Store a) h = h
  kind_closes n x (Call f) h = h
  kind_closes n x (StrictCall f) h = h
  kind_closes n x (Loop f c) h = h

  closed_local : (n : ℕ) (xs : List (Node ℕ)) (x : Ended) → AllW Local x.wires → AllW Local (close_nodes s.block n xs x).wires
  closed_local n [] x h = h
  closed_local n (y ∷ xs) x h = kind_closes n (close_nodes s.block (n + 1) xs x) y.kind (closed_local (n + 1) xs x h)

  flag_local : (t : Bool) (x : Ended) → AllW Local x.wires → AllW Local (close_flag s.block t x).wires
  flag_local false x h = h
  flag_local true x h = close_local (node_count s.block) x h

  all_local : AllW Local (wires_in fl s)
  all_local =
      let first = all_both Local (node_wires s s.block.inputs s.block.nodes) (tail_wires s s.turns) (nodes_local s.block.inputs s.block.nodes (follow s.block))
      (tails_local s.turns) in
      let end = wire (side Entry false) Parts.End Left ∷ signal_wires Root (root_ends fl s) Parts.End Right in
      all_both Local (Written.closed fl s).wires (joined_wires Root (root_ends fl s) ++ end)
      (closed_local s.block.inputs s.block.nodes (close_flag s.block s.turns (inner fl s)) (flag_local s.turns (inner fl s) first))
      (all_both Local (joined_wires Root (root_ends fl s)) end (joined_local Root (root_ends fl s)) ((refl, refl), end_local (root_ends fl s)))

  -- no wire leaves a side that a part does not have, or a part that has none
  all_apart : (t : Side) (ws : List Wire) → (is_side t ≡ false) ⊎ (has_no_wire t.part ≡ true) → AllW (From (λ u. In u (sides (parts_in fl s)))) ws
      → AllW (λ v. t ≢ v.from) ws
  all_apart t [] e k = tt
  all_apart t (v ∷ ws) e k = (λ q. apart e q (side_there v.from (parts_in fl s) k.0), all_apart t ws e k.1)
    where
      apart : (is_side t ≡ false) ⊎ (has_no_wire t.part ≡ true) → t ≡ v.from
          → (0 < tally (same_part v.from.part) (parts_in fl s)) × (is_side v.from ≡ true) × (has_no_wire v.from.part ≡ false) → ⊥
      apart (inl n) q i = let z = ap is_side q in let j = i.1 in cc
      apart (inr n) q i = let z = ap (λ (u : Side). has_no_wire u.part) q in let j = i.2 in cc

  pub no_wire_leaves : TurnsWell s → (t : Side) → (is_side t ≡ false) ⊎ (has_no_wire t.part ≡ true) → AllW (λ v. t ≢ v.from) (wires_in fl s)
  no_wire_leaves well t n = all_apart t (wires_in fl s) n (all_from fl s fit well)

  module _ (well : TurnsWell s) (w : Wiring) (h : IsWritten fl s w) where
    abbrev There : Part → Type 0
    There r = there_in fl s w r ≡ true

    pub is_there : (r : Part) → 0 < tally (same_part r) (parts_in fl s) → There r
    is_there r l = let c = count_is (same_part r) (parts_in fl s) in h.there r ∙ lt-ltb 0 (count_by (same_part r) (parts_in fl s)) (omega (arith, c, l))

    -- one wire in all
    total_one : (r : Part) (q : Port) (y : ℕ) → There r → IsWired s.block y q r → tally (test s.block r q y) (wires_in fl s) ≡ 1
    total_one r q y t k =
        let c = count_is (same_part r) (parts_in fl s) in
        let p = ltb-true 0 (count_by (same_part r) (parts_in fl s)) (sym (h.there r) ∙ t) in
        let o = h.once r in
        let e = all_feed fl s fit well r q y k in
        omega (arith, c, p, o, e)

    apart_sides : (t u : Side) → u ≢ t → same_side u t ≡ false
    apart_sides t u ne = go (same_side u t) refl
      where
        go : (k : Bool) → same_side u t ≡ k → k ≡ false
        go true e = absurd (ne (side_is u t e))
        go false e = refl

    is_fed : (x : Inlet) → There x.part → wired_way x.part x.way ≡ true → wired_port s.block x.part x.port ≡ true → is_unwired s.block x.part ≡ false
        → IsFed fl s w x
    is_fed x t a p g =
        let v = one_along (From (λ t. In t (sides (parts_in fl s)))) s.block x (wires_in fl s) (all_from fl s fit well)
        (total_one x.part x.port x.way t (record { way = a; port = p; given = g })) in
        let f : Side = v.0.from in
        let k = side_there f (parts_in fl s) v.1 in
        let there = is_there f.part k.0 in (
          f,
          there,
          k.1,
          ap (hits x) (h.wire f there) ∙ v.2 f ∙ ap one (side_self f),
          λ u m ne. ap (hits x) (h.wire u m) ∙ v.2 u ∙ ap one (apart_sides f u ne),
        )

    lead : (t : Side) (x : Inlet) → There t.part → Contains (w.wire t) x
        → (There x.part) × (wired_way x.part x.way ≡ true) × (wired_port s.block x.part x.port ≡ true) × (is_unwired s.block x.part ≡ false)
    lead t x there c =
        let v = along_all Local s.block t (wires_in fl s) x all_local (subst (λ xs. Contains xs x) (h.wire t there) c) in (
          h.lands t x there c,
          ap (λ (y : Inlet). wired_way y.part y.way) (sym v.3) ∙ ways_known v.0.part (leaves_in s.block v.0.from.part v.0.from.second),
          ap (λ (y : Inlet). wired_port s.block y.part y.port) (sym v.3) ∙ v.1.0,
          ap (λ (y : Inlet). is_unwired s.block y.part) (sym v.3) ∙ v.1.1,
        )

    empty_side : (t : Side) → (is_side t ≡ false) ⊎ (has_no_wire t.part ≡ true) → w.wire t ≡ []
    empty_side t n = go (there_in fl s w t.part) refl
      where
        go : (q : Bool) → there_in fl s w t.part ≡ q → w.wire t ≡ []
        go false e = h.none t e
        go true e = h.wire t e ∙ no_along s.block t (wires_in fl s) (no_wire_leaves well t n)

    pub are_fed : AreFed fl s w
    are_fed = record { inlets = lead; fed = is_fed; sides = empty_side }

-- the code of a block that is called
pub plain_well : (b : Block ℕ) (i : ℕ) → TurnsWell (plain_site b i)
plain_well b i e = absurd (cc)

pub written_is_fed : WrittenIsFed
written_is_fed fl i b w there fit h = are_fed fl (plain_site b i) fit (plain_well b i) w h
