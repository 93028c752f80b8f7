-- The code of a plain block is laid out by the parts and the wires that are written down.
use Rattle.std.proofs.Common.{◌≡◌, ℕ, ◌+◌, ◌-◌, ◌<◌, ◌≤◌, ◌⊎◌, inl, inr, Bool, true, false, not, ◌||◌, List, [], ◌∷◌, ◌++◌, map, length, refl, sym}
use Rattle.std.proofs.Common.{ap, ◌∙◌, subst, arith, if◌then◌else◌, Some, None, Option, Contains, nat_lt}
use Rattle.std.specs.Prelude.{slice_get, count_by}
use Rattle.std.proofs.lemmas.List.Elements.{Contains-append_left, Contains-append_right, Contains-append_cases}
use Rattle.std.proofs.lemmas.Bool.{lt-ltb, ltb-true}
use Rattle.std.proofs.lemmas.List.{nil_from_length}
use Rattle.std.proofs.lemmas.Option.{slice_get_within}
use Rattle.lemmas.proofs.Contains.{contains_cases, contains_head, contains_tail, contains_none}
use Rattle.lemmas.proofs.SliceGet.{get_some}
use Rattle.tags.specs.declared.token.Port.TheVariants.{Left}
use Rattle.semantics.specs.declared.graph.Kind.{Kind}
use Rattle.semantics.specs.declared.program.Dest.{Dest}
use Rattle.semantics.specs.declared.program.Op.{Op}
use Rattle.semantics.specs.Graph.{Node, Block, Flow, node_at}
use Rattle.semantics.specs.Program.{Instr, CodeBlock}
use Rattle.semantics.specs.Plan.{is_credit, is_open}
use Rattle.semantics.specs.Rule.{slot_of}
use Rattle.law_net.specs.ContextsParts as Parts
use Rattle.law_net.specs.ContextsParts.{Part, Entry, Line, Trigger, Gate, Opener, Framer, Fanned, Linker, Landing, Giver, Taker, Drainer, LoopDone, Result}
use Rattle.law_net.specs.ContextsParts.{Join, CondEnd, Inlet, inlet, same_part}
use Rattle.law_net.specs.ContextsBlocks as Blocks
use Rattle.law_net.specs.ContextsBlocks.{Side, side, Site, Wiring, there_in, waits_in, op_of, kind_op, is_pair, leaves_in, is_loop, is_call, result_count}
use Rattle.law_net.specs.ContextsWires.{answered_at, has_no_wire, holds_own, leads_to, ip_and_port}
use Rattle.law_net.specs.ContextsExpanded.{wiring_of, variant_in, has_part, place_from, dests_on, inlet_by}
use Rattle.law_wiring.specs.Written.{Wire, wire, along, parts_in, wires_in}
use Rattle.law_wiring.specs.WrittenFit.{IsFit}
use Rattle.law_wiring.proofs.Laid.{Env, IsLaid, IsAt, goes, dest, goes_ahead}
use Rattle.law_wiring.proofs.PartsStanding.{Stand}
use Rattle.law_wiring.proofs.LaidNodes.{env}
use Rattle.law_wiring.proofs.LaidWhole.{site_build, whole_laid}
use Rattle.law_wiring.proofs.LaidUsual.{HasTurns}
use Rattle.law_wiring.proofs.CodeFacts.{IsCodeOf}
use Rattle.law_wiring.proofs.Fed.{no_wire_leaves}
use Rattle.law_wiring.proofs.PartsCounts.{count_is}
use Rattle.law_wiring.proofs.PartsOnce.{there_is, stands}
use Rattle.law_wiring.proofs.PartsAgree.{apart}
use Rattle.law_wiring.proofs.LaidArcs.{arcs_in}
use Rattle.law_wiring.proofs.LaidArcsSame.{arcs_agree}
use Rattle.law_wiring.proofs.LaidArcsMore as More
use Rattle.law_wiring.proofs.LaidArcsMore.{size_goes, no_size, some_size, goes_there, answer_arcs, frame_arc, link_arc, give_arc, drain_arc, ask_arc, fan_arc}
use Rattle.law_wiring.proofs.LaidArcsMore.{answers, arcs_of_answers, arcs_mixed, invoke_there, loop_there, turn_there}
use Rattle.law_wiring.proofs.PartsPlaces.{at_place, place_bounded, tally_there, AllDests, all_dests, dests_stand, dests_along}

-- PARTS OF SUCH A BLOCK
-- the machine answers only where no wire leaves
pub own_answers : (r : Part) → has_no_wire r ≡ false → answered_at r ≡ []
own_answers (Framer n) h = absurd (cc)
own_answers (Linker n) h = absurd (cc)
own_answers (Giver n) h = absurd (cc)
own_answers (Drainer n) h = absurd (cc)
own_answers Parts.NextFramer h = absurd (cc)
own_answers Parts.Asker h = absurd (cc)
own_answers r h = refl

kind_slot : (k : Kind ℕ) (i : Instr) → Blocks.pair_kind k ≡ true → slot_of i (kind_op k) ≡ Some i.slot
kind_slot (Kind.Apply2 op) i h = refl
kind_slot (Kind.Store a) i h = refl
kind_slot k i h = absurd (cc)

kind_credit : (k : Kind ℕ) → is_credit (kind_op k) ≡ false
kind_credit (Kind.Lit z) = refl
kind_credit (Kind.Apply1 op) = refl
kind_credit (Kind.Apply2 op) = refl
kind_credit Kind.Cond = refl
kind_credit Kind.Enter = refl
kind_credit (Kind.Merge c) = refl
kind_credit (Kind.Fetch a) = refl
kind_credit (Kind.Store a) = refl
kind_credit (Kind.Call f) = refl
kind_credit (Kind.StrictCall f) = refl
kind_credit (Kind.Loop f c) = refl

module _ (fl : Flow) (s : Site) where
  abbrev block : Block ℕ
  block = s.block

  line_slot : (o : Option (Node ℕ)) (i : Instr) → elim o as (λ x. Bool) [ None ↦ false | Some line ↦ Blocks.pair_kind line.kind ] ≡ true
      → slot_of i (elim o as (λ x. Op) [ None ↦ Op.Copy | Some line ↦ kind_op line.kind ]) ≡ Some i.slot
  line_slot None i h = absurd (cc)
  line_slot (Some x) i h = kind_slot x.kind i h

  line_credit : (o : Option (Node ℕ)) → is_credit (elim o as (λ x. Op) [ None ↦ Op.Copy | Some line ↦ kind_op line.kind ]) ≡ false
  line_credit None = refl
  line_credit (Some x) = kind_credit x.kind

  -- a part with a holder of its own has a slot
  pub own_slot : (r : Part) (i : Instr) → holds_own block r ≡ true → slot_of i (op_of (variant_in fl) s r) ≡ Some i.slot
  own_slot (Line n) i h = line_slot (node_at block n) i h
  own_slot (Trigger k) i h = refl
  own_slot (Gate n) i h = refl
  own_slot (Opener n) i h = refl
  own_slot (Parts.Sender n j) i h = refl
  own_slot (Parts.Strict n j) i h = refl
  own_slot (Result j) i h = refl
  own_slot Parts.TurnCont i h = refl
  own_slot Parts.TurnFlag i h = refl
  own_slot (Parts.TurnValue j) i h = refl
  own_slot Parts.Asker i h = refl
  own_slot (Parts.NextSender j) i h = refl
  own_slot (Parts.LastReturn j) i h = refl
  own_slot Parts.DrainReturn i h = refl
  own_slot (Join q j) i h = refl
  own_slot Parts.End i h = refl
  own_slot r i h = absurd (cc)

  pub own_open : (r : Part) → holds_own block r ≡ true → is_credit (op_of (variant_in fl) s r) ≡ true → is_open (op_of (variant_in fl) s r) ≡ true
  own_open (Line n) h c = let no = line_credit (node_at block n) in absurd (cc)
  own_open (Opener n) h c = refl
  own_open (Giver n) h c = absurd (cc)
  own_open (Taker n) h c = absurd (cc)
  own_open (Drainer n) h c = absurd (cc)
  own_open r h c = absurd (cc)

module _ (fl : Flow) (S : Site) (c : CodeBlock) (fit : IsFit fl S.block) (turned : HasTurns S) (facts : IsCodeOf fl S c fit turned) where
  abbrev b : Block ℕ
  b = S.block

  abbrev pub P : List Part
  P = parts_in fl S

  abbrev pub at : Part → ℕ
  at r = place_from r 0 P

  abbrev pub w : Wiring
  w = wiring_of b P c.instrs

  abbrev pub it : Env
  it = env fl S at (apart fl S fit turned)

  pub placed : Stand at 0 P
  placed = stands fl S c.instrs fit

  pub laid : IsLaid it (site_build fl S) P (arcs_in fl S)
  laid = whole_laid fl S at (apart fl S fit turned) fit turned placed

  pub size : length c.instrs ≡ length P
  size = ap (λ (is : List Instr). length is) facts.instrs ∙ laid.size

  -- where a part is there
  abbrev pub IsThere : Part → Type 0
  IsThere r = there_in fl S w r ≡ true

  positive : (n : ℕ) → nat_lt 0 n ≡ true → 0 < n
  positive n h = ltb-true 0 n h

  pub place_of : (r : Part) → IsThere r → slice_get P (at r) ≡ Some r
  place_of r h =
      let n0 = count_is (same_part r) P in
      let p = positive (count_by (same_part r) P) (sym (there_is fl S c.instrs fit r) ∙ h) in
      let l = place_bounded r 0 P (omega (arith, n0, p)) in
      at_place r 0 (at r) P (omega arith) (omega (arith, l))

  pub is_there : (n : ℕ) (r : Part) → slice_get P n ≡ Some r → IsThere r
  is_there n r e =
      let n0 = count_is (same_part r) P in
      let t = tally_there r n P e in
      there_is fl S c.instrs fit r ∙ lt-ltb 0 (count_by (same_part r) P) (omega (arith, n0, t))

  pub instr_of : (r : Part) → IsThere r → (i : Instr) × (slice_get c.instrs (at r) ≡ Some i) × IsAt it (arcs_in fl S) r i
  instr_of r h =
      let p = place_of r h in
      let l = slice_get_within P (at r) r p in
      let s = size in
      let i = get_some c.instrs (at r) (omega (arith, l, s)) in
      (i.0, i.1, laid.instrs (at r) r i.0 p (ap (λ is. slice_get is (at r)) (sym facts.instrs) ∙ i.1))

  pub same_place : (r q : Part) → IsThere r → IsThere q → at r ≡ at q → r ≡ q
  same_place r q h k e = same_some r q (sym (place_of r h) ∙ ap (slice_get P) e ∙ place_of q k)
    where
      same_some : {X : Type 0} (x y : X) → Some x ≡ Some y → x ≡ y
      same_some x y h = cc

  -- DESTINATIONS
  inside : (n : ℕ) (i : Instr) (d : Dest) → slice_get c.instrs n ≡ Some i → Contains (i.firsts ++ i.seconds) d → (0 < d.ahead) × (n + d.ahead < length P)
  inside n i d e h =
      let l = slice_get_within c.instrs n i e in
      let s = size in
      let r = get_some P n (omega (arith, l, s)) in
      let here = laid.instrs n r.0 i r.1 (ap (λ is. slice_get is n) (sym facts.instrs) ∙ e) in
      go r.0 (laid.placed n r.0 r.1) here (Contains-append_cases i.firsts i.seconds d h)
    where
      ahead : (r : Part) (s : Bool) → at r ≡ n → Contains (goes it (side r s) (arcs_in fl S)) d → (0 < d.ahead) × (n + d.ahead < length P)
      ahead r s p k = let x = goes_ahead it (side r s) (arcs_in fl S) (length P) d laid.ahead k in let low = x.1 in (x.0, omega (arith, low, p))

      go : (r : Part) → at r ≡ n → IsAt it (arcs_in fl S) r i → Contains i.firsts d ⊎ Contains i.seconds d → (0 < d.ahead) × (n + d.ahead < length P)
      go r p here (inl k) = ahead r false p (subst (λ ds. Contains ds d) here.firsts k)
      go r p here (inr k) = ahead r true p (subst (λ ds. Contains ds d) here.seconds k)

  firsts_inside : (n : ℕ) (i : Instr) → slice_get c.instrs n ≡ Some i → AllDests (length P) n i.firsts
  firsts_inside n i e = all_dests (length P) n i.firsts (λ d h. inside n i d e (Contains-append_left i.firsts i.seconds d h))

  seconds_inside : (n : ℕ) (i : Instr) → slice_get c.instrs n ≡ Some i → AllDests (length P) n i.seconds
  seconds_inside n i e = all_dests (length P) n i.seconds (λ d h. inside n i d e (Contains-append_right i.firsts i.seconds d h))

  abbrev pub dests_of : Instr → Bool → List Dest
  dests_of i true = i.seconds
  dests_of i false = i.firsts

  pub dests_inside : (n : ℕ) (i : Instr) (s : Bool) → slice_get c.instrs n ≡ Some i → AllDests (length P) n (dests_of i s)
  dests_inside n i true e = seconds_inside n i e
  dests_inside n i false e = firsts_inside n i e

  dests_go : (r : Part) (i : Instr) (s : Bool) → IsAt it (arcs_in fl S) r i → dests_of i s ≡ goes it (side r s) (arcs_in fl S)
  dests_go r i true h = h.seconds
  dests_go r i false h = h.firsts

  wires_go : (r : Part) (i : Instr) (s : Bool) → has_no_wire r ≡ false → IsAt it (arcs_in fl S) r i → dests_of i s ≡ goes it (side r s) (wires_in fl S)
  wires_go r i s n h = dests_go r i s h ∙ arcs_agree fl S it (side r s) n

  -- the wires of a side that is there are read off its destinations
  pub read_is : (r : Part) (s : Bool) (i : Instr) → IsThere r → slice_get c.instrs (at r) ≡ Some i → has_no_wire r ≡ false
      → w.wire (side r s) ≡ map (inlet_by P (leaves_in b r s) (at r)) (dests_of i s)
  read_is r s i h e n =
      let there : has_part r P ≡ true = sym (there_is fl S c.instrs fit r) ∙ h in
      ap (λ t. if t || not (has_part r P) then [] else map (inlet_by P (leaves_in b r s) (at r)) (dests_on (slice_get c.instrs (at r)) s)) n
      ∙ ap (λ t. if not t then [] else map (inlet_by P (leaves_in b r s) (at r)) (dests_on (slice_get c.instrs (at r)) s)) there
      ∙ ap (λ o. map (inlet_by P (leaves_in b r s) (at r)) (dests_on o s)) e ∙ same s
    where
      same : (s : Bool) → map (inlet_by P (leaves_in b r s) (at r)) (dests_on (Some i) s) ≡ map (inlet_by P (leaves_in b r s) (at r)) (dests_of i s)
      same true = refl
      same false = refl

  pub read_none : (r : Part) (s : Bool) → has_no_wire r ≡ true → w.wire (side r s) ≡ []
  read_none r s n = ap (λ t. if t || not (has_part r P) then [] else map (inlet_by P (leaves_in b r s) (at r)) (dests_on (slice_get c.instrs (at r)) s)) n

  -- WHERE THE MACHINE ANSWERS
  abbrev answer_arc : Part → Inlet → Wire
  answer_arc r x = wire (side r false) x.part x.port

  answers_there : (r : Part) (x : Inlet) → IsThere r → answered_at r ≡ x ∷ [] → Contains (answer_arcs S) (answer_arc r x)
  answers_there (Framer n) x h e =
      let same : inlet (Fanned n) Left 0 ≡ x = cc in
      subst (λ y. Contains (answer_arcs S) (answer_arc (Framer n) y)) same
      (invoke_there fl S fit n (frame_arc n) (contains_head (frame_arc n) (link_arc n ∷ [])) h)
  answers_there (Linker n) x h e =
      let same : inlet (Landing n 0) Left 0 ≡ x = cc in
      subst (λ y. Contains (answer_arcs S) (answer_arc (Linker n) y)) same
      (invoke_there fl S fit n (link_arc n) (contains_tail (frame_arc n) (link_arc n ∷ []) (link_arc n) (contains_head (link_arc n) [])) h)
  answers_there (Giver n) x h e =
      let same : inlet (LoopDone n) Left 0 ≡ x = cc in
      subst (λ y. Contains (answer_arcs S) (answer_arc (Giver n) y)) same (loop_there fl S fit n (give_arc n) (contains_head (give_arc n) (drain_arc n ∷ [])) h)
  answers_there (Drainer n) x h e =
      let same : inlet (LoopDone n) Left 0 ≡ x = cc in
      subst (λ y. Contains (answer_arcs S) (answer_arc (Drainer n) y)) same
      (loop_there fl S fit n (drain_arc n) (contains_tail (give_arc n) (drain_arc n ∷ []) (drain_arc n) (contains_head (drain_arc n) [])) h)
  answers_there Parts.NextFramer x h e =
      let same : inlet Parts.NextFanned Left 0 ≡ x = cc in
      subst (λ y. Contains (answer_arcs S) (answer_arc Parts.NextFramer y)) same
      (turn_there fl S fit (turned h) fan_arc (contains_tail ask_arc (fan_arc ∷ []) fan_arc (contains_head fan_arc [])) h)
  answers_there Parts.Asker x h e =
      let same : inlet Parts.NextFramer Left 0 ≡ x = cc in
      subst (λ y. Contains (answer_arcs S) (answer_arc Parts.Asker y)) same (turn_there fl S fit (turned h) ask_arc (contains_head ask_arc (fan_arc ∷ [])) h)
  answers_there r x h e = absurd (cc)

  pub no_answers : (r : Part) → has_no_wire r ≡ true → (answered_at r ≡ []) ⊎ ((x : Inlet) × (answered_at r ≡ x ∷ []))
  no_answers (Framer n) h = inr (inlet (Fanned n) Left 0, refl)
  no_answers (Linker n) h = inr (inlet (Landing n 0) Left 0, refl)
  no_answers (Giver n) h = inr (inlet (LoopDone n) Left 0, refl)
  no_answers (Drainer n) h = inr (inlet (LoopDone n) Left 0, refl)
  no_answers Parts.NextFramer h = inr (inlet Parts.NextFanned Left 0, refl)
  no_answers Parts.Asker h = inr (inlet Parts.NextFramer Left 0, refl)
  no_answers r h = inl refl

  -- no wire that is written down leaves there, and there is one destination if the machine answers, and otherwise none
  arcs_at : (r : Part) (s : Bool) → has_no_wire r ≡ true
      → (More.size (side r s) (arcs_in fl S) ≤ answers r s) × (More.size (side r s) (wires_in fl S) ≡ 0)
  arcs_at r s n = arcs_of_answers fl S r s (no_wire_leaves fl S fit turned (side r s) (inr n)) n

  exact_is : (r : Part) (i : Instr) → IsThere r → has_no_wire r ≡ true → IsAt it (arcs_in fl S) r i
      → (length i.firsts ≡ length (answered_at r)) × (length i.seconds ≡ 0)
  exact_is r i h n x = (firsts (no_answers r n), let a = (arcs_at r true n).0 in let l = sizes true in omega (arith, a, l))
    where
      sizes : (s : Bool) → length (dests_of i s) ≡ More.size (side r s) (arcs_in fl S)
      sizes s = ap (λ (ds : List Dest). length ds) (dests_go r i s x) ∙ size_goes it (side r s) (arcs_in fl S)

      firsts : (answered_at r ≡ []) ⊎ ((y : Inlet) × (answered_at r ≡ y ∷ [])) → length i.firsts ≡ length (answered_at r)
      firsts (inl none) = let a = (arcs_at r false n).0 in let l = sizes false in let z = ap (λ (ys : List Inlet). length ys) none in omega (arith, a, l, z)
      firsts (inr y) =
          let a = (arcs_at r false n).0 in
          let l = sizes false in
          let z = ap (λ (ys : List Inlet). length ys) y.1 in
          let some = some_size (answer_arc r y.0) (arcs_in fl S) ((arcs_mixed S fl).has (answer_arc r y.0) (answers_there r y.0 h y.1)) in
          omega (arith, a, l, z, some)

  pub wire_is : (r : Part) (s : Bool) → IsThere r → w.wire (side r s) ≡ along b (side r s) (wires_in fl S)
  wire_is r s h = go (has_no_wire r) refl (instr_of r h)
    where
      go : (t : Bool) → has_no_wire r ≡ t → (i : Instr) × (slice_get c.instrs (at r) ≡ Some i) × IsAt it (arcs_in fl S) r i
          → w.wire (side r s) ≡ along b (side r s) (wires_in fl S)
      go false n x =
          let d = wires_go r x.0 s n x.2 in
          read_is r s x.0 h x.1 n ∙ ap (map (inlet_by P (leaves_in b r s) (at r))) d
          ∙ dests_along P placed b it (side r s) (wires_in fl S) (λ q. refl) (subst (AllDests (length P) (at r)) d (dests_inside (at r) x.0 s x.1))
      go true n x = read_none r s n ∙ sym (no_size b (side r s) (wires_in fl S) (arcs_at r s n).1)

  -- and its destinations are these wires, and where the machine answers
  pub dests_are_wires : (r : Part) (s : Bool) (i : Instr) → IsThere r → has_no_wire r ≡ false → slice_get c.instrs (at r) ≡ Some i → IsAt it (arcs_in fl S) r i
      → map (leads_to (at r)) (dests_of i s) ≡ map (ip_and_port w) (w.wire (side r s))
  dests_are_wires r s i h n e x =
      dests_stand P placed w (leaves_in b r s) (at r) (dests_of i s) (λ q. refl) (dests_inside (at r) i s e)
      ∙ ap (map (ip_and_port w)) (sym (read_is r s i h e n))

  -- the one destination of an answer
  answer_dest : (r : Part) (i : Instr) (y : Inlet) → IsThere r → has_no_wire r ≡ true → slice_get c.instrs (at r) ≡ Some i → IsAt it (arcs_in fl S) r i
      → answered_at r ≡ y ∷ [] → i.firsts ≡ dest it (answer_arc r y) ∷ []
  answer_dest r i y h n e x q =
      let l = (exact_is r i h n x).0 ∙ ap (λ (xs : List Inlet). length xs) q in
      let there = goes_there it (answer_arc r y) (arcs_in fl S) ((arcs_mixed S fl).has (answer_arc r y) (answers_there r y h q)) in
      single i.firsts (dest it (answer_arc r y)) l (subst (λ ds. Contains ds (dest it (answer_arc r y))) (sym x.firsts) there)
    where
      single : (ds : List Dest) (d : Dest) → length ds ≡ 1 → Contains ds d → ds ≡ d ∷ []
      single [] d l h = absurd (omega (arith, l))
      single (z ∷ []) d l h = go (contains_cases z [] d h)
        where
          go : (z ≡ d) ⊎ Contains [] d → z ∷ [] ≡ d ∷ []
          go (inl e) = ap (λ k. k ∷ []) e
          go (inr k) = absurd (contains_none d k)
      single (z ∷ u ∷ ds) d l h = absurd (omega (arith, l))

  pub answer_forward : (r : Part) (y : Inlet) → IsThere r → has_no_wire r ≡ true → answered_at r ≡ y ∷ [] → at r < at y.part
  answer_forward r y h n q =
      let i = instr_of r h in
      let one = answer_dest r i.0 y h n i.1 i.2 q in
      let inside = (subst (AllDests (length P) (at r)) one (firsts_inside (at r) i.0 i.1)).0 in
      omega (arith, inside)

  pub firsts_are : (r : Part) (i : Instr) → IsThere r → slice_get c.instrs (at r) ≡ Some i → IsAt it (arcs_in fl S) r i
      → map (leads_to (at r)) i.firsts ≡ map (ip_and_port w) (answered_at r ++ w.wire (side r false))
  firsts_are r i h e x = go (has_no_wire r) refl
    where
      go : (t : Bool) → has_no_wire r ≡ t → map (leads_to (at r)) i.firsts ≡ map (ip_and_port w) (answered_at r ++ w.wire (side r false))
      go false n = dests_are_wires r false i h n e x ∙ sym (ap (λ xs. map (ip_and_port w) (xs ++ w.wire (side r false))) (own_answers r n))
      go true n = by_answer (no_answers r n)
        where
          by_answer : (answered_at r ≡ []) ⊎ ((y : Inlet) × (answered_at r ≡ y ∷ []))
              → map (leads_to (at r)) i.firsts ≡ map (ip_and_port w) (answered_at r ++ w.wire (side r false))
          by_answer (inl none) =
              let l = (exact_is r i h n x).0 ∙ ap (λ (xs : List Inlet). length xs) none in
              ap (map (leads_to (at r))) (nil_from_length i.firsts l)
              ∙ sym (ap (λ xs. map (ip_and_port w) (xs ++ w.wire (side r false))) none ∙ ap (map (ip_and_port w)) (read_none r false n))
          by_answer (inr y) =
              let one = answer_dest r i y.0 h n e x y.1 in
              let less = answer_forward r y.0 h n y.1 in
              let here : at r + (at y.0.part - at r) ≡ at y.0.part = omega (arith, less) in
              ap (map (leads_to (at r))) one ∙ ap (λ k. (k, y.0.port) ∷ []) here
              ∙ sym (ap (λ xs. map (ip_and_port w) (xs ++ w.wire (side r false))) y.1 ∙ ap (λ xs. map (ip_and_port w) (y.0 ∷ xs)) (read_none r false n))

  pub seconds_are : (r : Part) (i : Instr) → IsThere r → slice_get c.instrs (at r) ≡ Some i → IsAt it (arcs_in fl S) r i
      → map (leads_to (at r)) i.seconds ≡ map (ip_and_port w) (w.wire (side r true))
  seconds_are r i h e x = go (has_no_wire r) refl
    where
      go : (t : Bool) → has_no_wire r ≡ t → map (leads_to (at r)) i.seconds ≡ map (ip_and_port w) (w.wire (side r true))
      go false n = dests_are_wires r true i h n e x
      go true n = ap (map (leads_to (at r))) (nil_from_length i.seconds (exact_is r i h n x).1) ∙ sym (ap (map (ip_and_port w)) (read_none r true n))
