-- The laws of a plain block's layout, joined together.
use Rattle.std.proofs.Common.{◌≡◌, ℕ, zero, suc, ◌+◌, ◌-◌, ◌<◌, ◌≤◌, ◌⊎◌, inl, inr, Bool, true, false, not, ◌&&◌, ◌||◌, List, [], ◌∷◌, ◌++◌, map, length, refl}
use Rattle.std.proofs.Common.{sym, ap, ◌∙◌, subst, arith, append_assoc, if◌then◌else◌, Some, None, Option, Contains, nat_lt}
use Rattle.std.specs.Prelude.{slice_get, count_by}
use Rattle.std.proofs.lemmas.Option.{slice_get_within}
use Rattle.lemmas.proofs.Permutations.{permutation_same}
use Rattle.lemmas.proofs.Contains.{contains_cases, contains_none}
use Rattle.lemmas.proofs.SliceGet.{get_some}
use Rattle.semantics.specs.declared.graph.Region.TheVariants.{Root}
use Rattle.semantics.specs.declared.program.Mark.{Mark}
use Rattle.semantics.specs.declared.graph.Kind.{Kind}
use Rattle.semantics.specs.declared.graph.Kind.TheVariants.{Loop}
use Rattle.semantics.specs.Graph.{Node, Block, Flow, flow_of, node_at}
use Rattle.semantics.specs.Program.{Instr, CodeBlock}
use Rattle.semantics.specs.Plan.{mark_at, mark_in, is_credit, is_open}
use Rattle.semantics.specs.Rule.{slot_of}
use Rattle.law_confluence.specs.OrdersTotals.{one}
use Rattle.schemas.specs.Builds.{mark_of}
use Rattle.schemas.specs.Expanded.{expanded}
use Rattle.law_wiring.proofs.ArcsLists.{length_push}
use Rattle.law_net.specs.ContextsParts as Parts
use Rattle.law_net.specs.ContextsParts.{Part, Entry, Line, Answer, Trigger, Opener, Sender, Landing, CallDone, Giver, Taker, Drainer, LoopDone, Strict, Result}
use Rattle.law_net.specs.ContextsParts.{CondEnd, Inlet, same_part}
use Rattle.law_net.specs.ContextsBlocks as Blocks
use Rattle.law_net.specs.ContextsBlocks.{Side, side, Site, Wiring, there_in, op_of, is_kind, cell_kind, cond_kind, call_kind, loop_kind, is_loop, is_call}
use Rattle.law_net.specs.ContextsBlocks.{result_count, kind_results, outputs_in, leaves_in}
use Rattle.law_net.specs.ContextsWires.{plain_site, turn_site, answered_at, has_no_wire, holds_own, leads_to, ip_and_port, IsInstr, IsLaidOut}
use Rattle.law_net.specs.ContextsExpanded.{wiring_of, wires_of, variant_in, has_part, slot_at, inlet_by, dests_on, invoked}
use Rattle.law_wiring.specs.Written as Written
use Rattle.law_wiring.specs.Written.{is_shared, is_triggered, parts_in, kind_parts, node_parts}
use Rattle.law_wiring.specs.WrittenFit.{IsFit}
use Rattle.law_wiring.specs.WrittenHalves.{IsWritten, PlainCodeIsWritten, TurnCodeIsWritten}
use Rattle.law_wiring.proofs.Laid.{IsAt}
use Rattle.law_wiring.proofs.PartsStanding.{Stand, stand_right}
use Rattle.law_wiring.proofs.LaidArcs.{arcs_in}
use Rattle.law_wiring.proofs.LaidWhole.{site_build}
use Rattle.law_wiring.proofs.LaidUsual.{HasTurns}
use Rattle.law_wiring.proofs.PartsCounts.{count_is}
use Rattle.law_wiring.proofs.CodeCredits.{slots_meet, no_open, behind_opener}
use Rattle.law_wiring.proofs.FactsHolders.{is_later}
use Rattle.law_wiring.proofs.PartsOnce.{answer_tally, trigger_tally, once, there_is}
use Rattle.law_wiring.proofs.PartsAgree.{parts_agree}
use Rattle.law_wiring.proofs.PartsPlaces.{at_place, stand_get, dests_forward, dests_land}
use Rattle.law_wiring.proofs.CodeFacts.{IsCodeOf, plain_facts, turn_facts}
use Rattle.law_wiring.proofs.CodeFits.{blocks_fit}
use Rattle.law_wiring.proofs.Turns.{turns_well}
use Rattle.law_wiring.proofs.CodeWritten.{own_answers, no_answers, answer_forward, firsts_are, seconds_are, read_none, own_slot, own_open, placed, laid, size}
use Rattle.law_wiring.proofs.CodeWritten.{place_of, is_there, instr_of, same_place, wire_is, read_is, dests_inside, dests_of, at, w, it}
use Rattle.law_wiring.proofs.CodeRows.{entry_at, line_at, node_stands, landing_row, done_row, credit_row, sends}
use Rattle.law_wiring.proofs.Fed.{plain_well}

module _ (fl : Flow) (S : Site) (c : CodeBlock) (fit : IsFit fl S.block) (turned : HasTurns S) (facts : IsCodeOf fl S c fit turned) where
  abbrev b : Block ℕ
  b = S.block

  abbrev W : Wiring
  W = w fl S c fit turned facts

  abbrev place : Part → ℕ
  place = at fl S c fit turned facts

  abbrev There : Part → Type 0
  There r = there_in fl S W r ≡ true

  -- MARKS
  index_mark : (ms : List Mark) (n : ℕ) → mark_in (Some ms) n ≡ mark_of ms n
  index_mark [] n = refl
  index_mark (m ∷ ms) zero = refl
  index_mark (m ∷ ms) (suc n) = index_mark ms n

  mark_is : (r : Part) → There r → mark_at (expanded fl) S.own (place r) ≡ Blocks.mark_of b r
  mark_is r h =
      let build = site_build fl S in
      ap (λ o. mark_in o (place r)) facts.marks ∙ index_mark build.marks (place r)
      ∙ (laid fl S c fit turned facts).marks (place r) r (place_of fl S c fit turned facts r h)

  here : (r : Part) → There r → (i : Instr) × (slice_get c.instrs (place r) ≡ Some i) × IsInstr fl (expanded fl) (variant_in fl) S W r i
  here r h =
      let x = instr_of fl S c fit turned facts r h in
      let i : Instr = x.0 in (
        i,
        x.1,
        record {
          op = x.2.op;
          origin = x.2.origin;
          mark = mark_is r h;
          slot = sym (ap slot_at x.1);
          firsts =
              permutation_same (map (leads_to (place r)) i.firsts) (map (ip_and_port W) (answered_at r ++ W.wire (side r false)))
              (firsts_are fl S c fit turned facts r i h x.1 x.2);
          seconds =
              permutation_same (map (leads_to (place r)) i.seconds) (map (ip_and_port W) (W.wire (side r true)))
              (seconds_are fl S c fit turned facts r i h x.1 x.2);
        },
      )

  each : (n : ℕ) → n < length c.instrs → (r : Part) × There r × (place r ≡ n)
  each n l =
      let s = size fl S c fit turned facts in
      let x = get_some (parts_in fl S) n (omega (arith, l, s)) in
      (x.0, is_there fl S c fit turned facts n x.0 x.1, stand_get place 0 n (parts_in fl S) x.0 (placed fl S c fit turned facts) x.1 ∙ omega arith)

  -- HOLDERS
  holder : (r q : Part) → There r → There q → holds_own b r ≡ true → holds_own b q ≡ true → W.slot r ≡ W.slot q → r ≡ q
  holder r q h k x y e =
      let i = instr_of fl S c fit turned facts r h in
      let j = instr_of fl S c fit turned facts q k in
      let si : slot_of i.0 i.0.op ≡ Some i.0.slot = ap (slot_of i.0) i.2.op ∙ own_slot fl S r i.0 x in
      let sj : slot_of j.0 j.0.op ≡ Some j.0.slot = ap (slot_of j.0) j.2.op ∙ own_slot fl S q j.0 y in
      let same : i.0.slot ≡ j.0.slot = sym (ap slot_at i.1) ∙ e ∙ ap slot_at j.1 in
      let one = facts.holds (place r) (place q) i.0.slot i.0 j.0 i.1 j.1 si (sj ∙ ap (λ n. Some n) (sym same)) in
      go i.0 j.0 one i.2.op j.2.op
    where
      go : (i j : Instr) → (place r ≡ place q) ⊎ ((is_credit i.op ≡ true) × (is_credit j.op ≡ true) × (is_open i.op && is_open j.op ≡ false))
          → i.op ≡ op_of (variant_in fl) S r
          → j.op ≡ op_of (variant_in fl) S q → r ≡ q
      go i j (inl s) oi oj = same_place fl S c fit turned facts r q h k s
      go i j (inr s) oi oj =
          let a : is_open i.op ≡ true = ap is_open oi ∙ own_open fl S r x (sym (ap is_credit oi) ∙ s.0) in
          let d : is_open j.op ≡ true = ap is_open oj ∙ own_open fl S q y (sym (ap is_credit oj) ∙ s.1) in
          let both = both_open (is_open i.op) (is_open j.op) a d in
          let none = s.2 in
          absurd (cc)
        where
          both_open : (s t : Bool) → s ≡ true → t ≡ true → (s && t) ≡ true
          both_open true true e f = refl
          both_open true false e f = absurd (cc)
          both_open false t e f = absurd (cc)

  -- a loop has one holder
  abbrev CreditsMeet : Type 0
  CreditsMeet = (n : ℕ) → is_loop b n ≡ true
      → (W.slot (Giver n) ≡ W.slot (Opener n)) × (W.slot (Taker n) ≡ W.slot (Opener n)) × (W.slot (Drainer n) ≡ W.slot (Opener n))

  laid_out : CreditsMeet → IsLaidOut fl (expanded fl) (variant_in fl) S W c
  laid_out loops = record {
    inputs = facts.inputs;
    outputs = facts.outputs;
    here = here;
    each = each;
    apart = λ r q h k e. same_place fl S c fit turned facts r q h k e;
    entry = entry_at fl S c fit turned facts;
    entries = line_at fl S c fit turned facts;
    landing = landing_row fl S c fit turned facts;
    call_done = done_row fl S c fit turned facts;
    credits = credit_row fl S c fit turned facts;
    holders = holder;
    loops = loops;
  }

  -- WRITTEN
  no_part : (r : Part) → there_in fl S W r ≡ false → has_part r (parts_in fl S) ≡ false
  no_part r h = sym (there_is fl S c.instrs fit r) ∙ h

  none_read : (t : Side) → there_in fl S W t.part ≡ false → W.wire t ≡ []
  none_read t h =
      ap (λ x. if has_no_wire t.part || not x then []
      else map (inlet_by (parts_in fl S) (leaves_in b t.part t.second) (place t.part)) (dests_on (slice_get c.instrs (place t.part)) t.second))
      (no_part t.part h)
      ∙ go (has_no_wire t.part)
    where
      go : (x : Bool) → (if x || true then []
          else map (inlet_by (parts_in fl S) (leaves_in b t.part t.second) (place t.part)) (dests_on (slice_get c.instrs (place t.part)) t.second)) ≡ []
      go true = refl
      go false = refl

  some_of : (t : Bool) (n : ℕ) → n ≡ one t → nat_lt 0 n ≡ t
  some_of true n e = ap (nat_lt 0) e
  some_of false n e = ap (nat_lt 0) e

  forward : (t : Side) (x : Inlet) → There t.part → Contains (answered_at t.part ++ W.wire t) x → place t.part < place x.part
  forward t x h k = go (has_no_wire t.part) refl (instr_of fl S c fit turned facts t.part h)
    where
      go : (y : Bool) → has_no_wire t.part ≡ y
          → (i : Instr) × (slice_get c.instrs (place t.part) ≡ Some i) × IsAt (it fl S c fit turned facts) (arcs_in fl S) t.part i → place t.part < place x.part
      go false n i =
          let wires : Contains (W.wire t) x = subst (λ xs. Contains (xs ++ W.wire t) x) (own_answers t.part n) k in
          dests_forward (parts_in fl S) (placed fl S c fit turned facts) (leaves_in b t.part t.second) (place t.part)
          (dests_of fl S c fit turned facts i.0 t.second) x
          (dests_inside fl S c fit turned facts (place t.part) i.0 t.second i.1)
          (subst (λ xs. Contains xs x) (read_is fl S c fit turned facts t.part t.second i.0 h i.1 n) wires)
      go true n i = by_answer (no_answers fl S c fit turned facts t.part n)
        where
          only : Contains (answered_at t.part ++ []) x
          only = subst (λ xs. Contains (answered_at t.part ++ xs) x) (read_none fl S c fit turned facts t.part t.second n) k

          by_answer : (answered_at t.part ≡ []) ⊎ ((y : Inlet) × (answered_at t.part ≡ y ∷ [])) → place t.part < place x.part
          by_answer (inl e) = absurd (contains_none x (subst (λ xs. Contains (xs ++ []) x) e only))
          by_answer (inr y) = cases (contains_cases y.0 [] x (subst (λ xs. Contains (xs ++ []) x) y.1 only))
            where
              less : place t.part < place y.0.part
              less = answer_forward fl S c fit turned facts t.part y.0 h n y.1

              cases : (y.0 ≡ x) ⊎ Contains [] x → place t.part < place x.part
              cases (inl e) = let l = less in let s : place y.0.part ≡ place x.part = ap (λ (z : Inlet). place z.part) e in omega (arith, l, s)
              cases (inr e) = absurd (contains_none x e)

  lands : (t : Side) (x : Inlet) → There t.part → Contains (W.wire t) x → There x.part
  lands t x h k = go (has_no_wire t.part) refl (instr_of fl S c fit turned facts t.part h)
    where
      go : (y : Bool) → has_no_wire t.part ≡ y
          → (i : Instr) × (slice_get c.instrs (place t.part) ≡ Some i) × IsAt (it fl S c fit turned facts) (arcs_in fl S) t.part i → There x.part
      go false n i =
          let m = dests_land (parts_in fl S) (placed fl S c fit turned facts) (leaves_in b t.part t.second) (place t.part)
          (dests_of fl S c fit turned facts i.0 t.second) x
          (dests_inside fl S c fit turned facts (place t.part) i.0 t.second i.1)
          (subst (λ xs. Contains xs x) (read_is fl S c fit turned facts t.part t.second i.0 h i.1 n) k) in
          is_there fl S c fit turned facts m.0 x.part m.1
      go true n i = absurd (contains_none x (subst (λ xs. Contains xs x) (read_none fl S c fit turned facts t.part t.second n) k))

  end_last : (r : Part) → There r → place r ≤ place Parts.End
  end_last r h =
      let front : List Part = (Written.closed fl S).parts ++ Written.joined_parts Root (Written.root_ends fl S) in
      let p = place_of fl S c fit turned facts r h in
      let l = slice_get_within (parts_in fl S) (place r) r p in
      let assoc : front ++ Parts.End ∷ [] ≡ parts_in fl S =
      append_assoc (Written.closed fl S).parts (Written.joined_parts Root (Written.root_ends fl S)) (Parts.End ∷ []) in
      let at_end = stand_right place 0 (length front) front (Parts.End ∷ []) (subst (Stand place 0) (sym assoc) (placed fl S c fit turned facts))
      (omega arith) in
      let long : length (parts_in fl S) ≡ suc (length front) = ap (λ (xs : List Part). length xs) (sym assoc) ∙ length_push front Parts.End in
      let here = at_end.0 in
      omega (arith, here, l, long)

  written : IsWritten fl S W
  written = record {
    answers =
        λ n. some_of (is_kind cell_kind b n && is_shared S n) (count_by (same_part (Answer n)) (parts_in fl S))
        (count_is (same_part (Answer n)) (parts_in fl S) ∙ answer_tally fl S c.instrs fit n);
    triggers =
        λ k. some_of (is_kind cond_kind b k && is_triggered b k) (count_by (same_part (Trigger k)) (parts_in fl S))
        (count_is (same_part (Trigger k)) (parts_in fl S) ∙ trigger_tally fl S c.instrs fit k);
    joins = λ r. refl;
    ends = λ k. refl;
    there = there_is fl S c.instrs fit;
    once = once fl S c.instrs fit;
    wire = λ t h. wire_is fl S c fit turned facts t.part t.second h;
    none = none_read;
    lands = lands;
    forward = forward;
    last = end_last;
    sends = sends fl S c fit turned facts;
  }

  -- the wiring that is read off the code
  wiring_is : W ≡ (wires_of fl).wiring S.own
  wiring_is = ap (λ ps. wiring_of b ps c.instrs) (sym (parts_agree fl S fit turned (placed fl S c fit turned facts))) ∙ facts.wiring

  -- each instruction of a loop is after its opener, with no other one between
  credits_meet : CreditsMeet
  credits_meet n h = go (node_at b n) refl h
    where
      Meets : Part → Type 0
      Meets r = W.slot r ≡ W.slot (Opener n)

      one : (m k i : ℕ) (r : Part) → Stand place k (kind_parts fl S n m (Loop 0 0)) → slice_get (kind_parts fl S n m (Loop 0 0)) (suc i) ≡ Some r → There r
          → There (Opener n) → is_later (op_of (variant_in fl) S r) ≡ true → Meets r
      one m k i r at e t u later =
          let x = instr_of fl S c fit turned facts (Opener n) u in
          let y = instr_of fl S c fit turned facts r t in
          let first = at.0 in
          let here = stand_get place k (suc i) (kind_parts fl S n m (Loop 0 0)) r at e in
          ap slot_at y.1 ∙ slots_meet 0 facts.last c.instrs facts.lasts (place (Opener n)) (place r) x.0 y.0 x.1 y.1 (omega (arith, first, here))
          (ap is_open x.2.op) (ap is_later y.2.op ∙ later) between ∙ sym (ap slot_at x.1)
        where
          between : (j : ℕ) (z : Instr) → place (Opener n) < j → j < place r → slice_get c.instrs j ≡ Some z → is_open z.op ≡ false
          between j z a d w =
              let first = at.0 in
              let here = stand_get place k (suc i) (kind_parts fl S n m (Loop 0 0)) r at e in
              let long = slice_get_within (kind_parts fl S n m (Loop 0 0)) (suc i) r e in
              let at_j : k + suc (j - suc k) ≡ j = omega (arith, a, first) in
              let q = get_some (kind_parts fl S n m (Loop 0 0)) (suc (j - suc k)) (omega (arith, long, d, here, at_j)) in
              let stands = stand_get place k (suc (j - suc k)) (kind_parts fl S n m (Loop 0 0)) q.0 at q.1 in
              let within = slice_get_within c.instrs j z w in
              let s = size fl S c fit turned facts in
              let part = at_place q.0 0 j (parts_in fl S) (omega (arith, stands, at_j)) (omega (arith, within, s)) in
              let its = (laid fl S c fit turned facts).instrs j q.0 z part (ap (λ (is : List Instr). slice_get is j) (sym facts.instrs) ∙ w) in
              ap is_open its.op ∙ no_open (variant_in fl) S q.0 (behind_opener n m (j - suc k) q.0 q.1)

      by_kind : (k : Kind ℕ) (m j : ℕ) → loop_kind k ≡ true → Stand place j (kind_parts fl S n m k) → Stand place j (kind_parts fl S n m (Loop 0 0))
      by_kind (Loop f d) m j t at = at
      by_kind k m j t at = absurd (cc)

      past : (m i : ℕ) → slice_get (kind_parts fl S n m (Loop 0 0)) (suc (length (invoked n m m) + i))
          ≡ slice_get (Giver n ∷ Taker n ∷ Drainer n ∷ LoopDone n ∷ []) i
      past m i = get_past (invoked n m m) (Giver n ∷ Taker n ∷ Drainer n ∷ LoopDone n ∷ []) i
        where
          get_past : {X : Type 0} (xs ys : List X) (i : ℕ) → slice_get (xs ++ ys) (length xs + i) ≡ slice_get ys i
          get_past [] ys i = let same : 0 + i ≡ i = omega arith in ap (slice_get ys) same
          get_past (x ∷ xs) ys i = let same : suc (length xs) + i ≡ suc (length xs + i) = omega arith in ap (slice_get (x ∷ xs ++ ys)) same ∙ get_past xs ys i

      go : (o : Option (Node ℕ)) → node_at b n ≡ o → elim o as (λ x. Bool) [ None ↦ false | Some line ↦ loop_kind line.kind ] ≡ true
          → Meets (Giver n) × Meets (Taker n) × Meets (Drainer n)
      go None e t = absurd (cc)
      go (Some x) e t =
          let s = node_stands fl S c fit turned facts n x e in
          let m : ℕ = length x.sources in
          let at = by_kind x.kind m s.0 t s.1 in
          let inside = length (invoked n m m) in (
            one m s.0 (inside + 0) (Giver n) at (past m 0) h h refl,
            one m s.0 (inside + 1) (Taker n) at (past m 1) h h refl,
            one m s.0 (inside + 2) (Drainer n) at (past m 2) h h refl,
          )

  pub site_is_written : IsWritten fl S ((wires_of fl).wiring S.own)
  site_is_written = subst (λ v. IsWritten fl S v) wiring_is written

  pub site_is_laid : IsLaidOut fl (expanded fl) (variant_in fl) S ((wires_of fl).wiring S.own) c
  site_is_laid = subst (λ v. IsLaidOut fl (expanded fl) (variant_in fl) S v c) wiring_is (laid_out credits_meet)

pub plain_code_is_written : PlainCodeIsWritten
plain_code_is_written g text well i b c there coded fit =
    let turned = plain_well b i in
    let facts = plain_facts g well i b c there coded fit in
    record { written = site_is_written (flow_of g) (plain_site b i) c fit turned facts; laid = site_is_laid (flow_of g) (plain_site b i) c fit turned facts }

-- and so is that of a turn
pub turn_code_is_written : TurnCodeIsWritten
turn_code_is_written g text well i b c there looped coded fit =
    let turned = turns_well (flow_of g) (λ j d e. blocks_fit g well j d e) i b there looped (variant_in (flow_of g) i) in
    let facts = turn_facts g well i b c there looped coded fit turned in
    let s : Site = turn_site b i (variant_in (flow_of g) i) in
    record { written = site_is_written (flow_of g) s c fit turned facts; laid = site_is_laid (flow_of g) s c fit turned facts }
