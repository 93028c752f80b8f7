-- At rest the machine shows what the graph means: the meaning is at rest, no store clashes, and a reader waits for each fetch that
-- waits.
use Rattle.std.proofs.Common.{◌≡◌, ℕ, ℤ, Bool, true, false, ◌⊎◌, inl, inr, List, [], ◌∷◌, ◌++◌, flat_map, Some, None, refl, sym, ap, ◌∙◌, arith, true≢false}
use Rattle.std.specs.Prelude.{Contains}
use Rattle.tags.specs.declared.value.Value.{Value}
use Rattle.operators.specs.Values.{index_in}
use Rattle.semantics.specs.declared.graph.Kind.{Kind}
use Rattle.semantics.specs.Graph.{Node, Flow, node_at, first_cell, array_len}
use Rattle.semantics.specs.Plan.{Plan}
use Rattle.semantics.specs.Meaning as Meaning
use Rattle.semantics.specs.Meaning.{Context, AtNode, Operand, Predicate, Tagged, tagged, Fires, Fills, taken, node_of, node_in, cell_is, fetches}
use Rattle.semantics.specs.Meaning.{Clashes, fetch_cell, waits_for, fetch_count}
use Rattle.semantics.specs.Machine.{Machine, Resting, Wants, reader_count}
use Rattle.semantics.specs.Faithful.{IsExact}
use Rattle.law_confluence.specs.Outcome.{NoClash}
use Rattle.law_confluence.proofs.ActivityKeys.{fires_mode}
use Rattle.law_confluence.proofs.ActivityDiamond.{held_from}
use Rattle.law_confluence.proofs.History.{flow_determinate}
use Rattle.law_confluence.specs.OrdersTotals.{one, total}
use Rattle.law_confluence.proofs.Orders.{total-IsPermutation}
use Rattle.law_net.specs.ContextsParts as Parts
use Rattle.law_net.specs.ContextsParts.{Part, Item}
use Rattle.law_net.specs.ContextsBlocks.{waits_in, pair_kind, enter_kind, strict_kind, is_kind}
use Rattle.law_net.specs.Contexts.{Wires, block_in, IsContext}
use Rattle.law_net.specs.ContextsMeant.{meant}
use Rattle.law_net.specs.ContextsFirings.{place_at, cell_of}
use Rattle.law_net.specs.ContextsMirror.{Past, reads, reads_cell}
use Rattle.law_net.specs.ContextsTheorem.{IsGood}
use Rattle.law_net.specs.ContextsPackages.{Keeps, InputsFit}
use Rattle.law_net_refines_meaning.proofs.FiringsNodes.{kind_is}
use Rattle.law_net.proofs.WiredInvoked.{block_here}
use Rattle.law_net.proofs.WiredNets.{count_total, total_flat}
use Rattle.law_end.specs.Rest.{AllExactAtRest}
use Rattle.law_end.proofs.RestStarted.{all_start}
use Rattle.law_end.specs.RestStarts.{AllStart}
use Rattle.law_end.proofs.RestCells.{reader_length, same_cell, same_test, total_agree, total_nothing}
use Rattle.law_end.proofs.RestStores.{seen, fits_main}
use Rattle.law_end.specs.Over.{is_turning}
use Rattle.law_end.proofs.RestWaits.{calm_of, held_wants, Waits, InSlot, AtCell, OfLoop, waits, rests_net}
use Rattle.law_end.proofs.RestReaders.{readers_count}
use Rattle.law_end.proofs.RestTokens.{Says, AtLeft, AtRight, GateLeft, GateRight, Reading, Argument, TurnLeft, TurnRight, Going, says, con, reader, credit_meant}
use Rattle.law_end.proofs.RestHalts.{FetchAt, Reads, IsNext, fetch_at, fetch_array, has_all, at_rest}

pair_fetches : (fl : Flow) (v : Value) (k : Kind ℕ) → pair_kind k ≡ true → fetch_cell fl v k ≡ None
pair_fetches fl v (Kind.Apply2 op) e = refl
pair_fetches fl v (Kind.Store a) e = refl
pair_fetches fl v k e = absurd (true≢false (sym e))

enter_fetches : (fl : Flow) (v : Value) (k : Kind ℕ) → enter_kind k ≡ true → fetch_cell fl v k ≡ None
enter_fetches fl v Kind.Enter e = refl
enter_fetches fl v k e = absurd (true≢false (sym e))

strict_fetches : (fl : Flow) (v : Value) (k : Kind ℕ) → strict_kind k ≡ true → fetch_cell fl v k ≡ None
strict_fetches fl v (Kind.StrictCall f) e = refl
strict_fetches fl v k e = absurd (true≢false (sym e))

module _ (fl : Flow) (p : Plan) (w : Wires) (inputs : List ℤ) (past : Past) (m : Machine) (good : IsGood fl p w) (fit : InputsFit fl inputs)
    (kept : Keeps fl p w inputs past m) (rests : Resting m) (wants : Wants m → ⊥) (calm : m.store.requests ≡ []) (starts : AllStart fl w) where
  abbrev Says' : Item → Tagged → Type 0
  Says' i t = Says fl p w inputs past m good fit kept rests calm starts i t

  -- NO STORE clashes
  no_clash : NoClash fl kept.state
  no_clash x c =
      let a = Fires c.context c.node (c.index ∷ c.value ∷ []) in
      reads c
      (has_all fl p w inputs past m good fit kept rests calm starts c.context c.node c.index (c.value ∷ [])
      (held_from kept.state.tokens (taken a) c.rest c.tokens)
      (fires_mode fl c.context c.node (c.index ∷ c.value ∷ []) (Fills c.context c.node x c.value) c.is_store))
    where
      reads : (c : Clashes fl kept.state x)
          → Reads fl p w inputs past m good fit kept rests calm starts c.context c.node c.index (c.value ∷ [])
          ⊎ IsNext fl p w inputs past m good fit kept rests calm starts c.context → ⊥
      reads c (inl r) = let z = r.none in absurd (cc)
      reads c (inr g) = wants (held_wants fl p w inputs past m good fit kept g.caller g.node g.before g.held)

  -- READERS
  abbrev Fetches : ℕ → Tagged → Bool
  Fetches x t = waits_for fl x t.context t.statement t.value

  node_is : (c : Context) → IsContext fl c → (n : ℕ) (line : Node ℕ) → node_at (block_in fl c) n ≡ Some line → node_of fl c n ≡ Some line
  node_is c here n line e = ap (λ o. node_in o n) (block_here fl p w good c here) ∙ e

  line_not : (x : ℕ) (c : Context) → IsContext fl c → (t : Tagged) (n : ℕ) (y : Meaning.Port) (v : Value) (test : Kind ℕ → Bool)
      → ((u : Kind ℕ) → test u ≡ true → fetch_cell fl v u ≡ None) → is_kind test (block_in fl c) n ≡ true → t ≡ tagged c (AtNode n) y v → Fetches x t ≡ false
  line_not x c here t n y v test none h e =
      let (line, at, kind) = kind_is (block_in fl c) test n h in
      ap (Fetches x) e ∙ ap (λ o. cell_is x (fetches fl v o)) (node_is c here n line at) ∙ ap (cell_is x) (none line.kind kind)

  not_fetched : (x : ℕ) (i : Item) (t : Tagged) → IsContext fl i.context → waits_in (block_in fl i.context) i.inlet.part ≡ true → Says' i t
      → Fetches x t ≡ false
  not_fetched x i t here two (AtLeft n v e h l g) = line_not x i.context here t n (Operand 0) v pair_kind (pair_fetches fl v) h g
  not_fetched x i t here two (AtRight n v e h l g) = line_not x i.context here t n (Operand 1) v pair_kind (pair_fetches fl v) h g
  not_fetched x i t here two (GateLeft n v e h l g) = line_not x i.context here t n (Operand 0) v enter_kind (enter_fetches fl v) h g
  not_fetched x i t here two (GateRight n v e h l g) = line_not x i.context here t n Predicate v enter_kind (enter_fetches fl v) h g
  not_fetched x i t here two (Argument n l v e h a g) = line_not x i.context here t n (Operand l) v strict_kind (strict_fetches fl v) h g
  not_fetched x i t here two (TurnLeft j v e l g) = ap (Fetches x) g
  not_fetched x i t here two (TurnRight j v e l g) = ap (Fetches x) g
  not_fetched x i t here two (Going d n u j v a held g) = absurd (wants (held_wants fl p w inputs past m good fit kept d n u held))
  not_fetched x i t here two (Reading n v e cell store held g) = absurd (true≢false (sym two ∙ ap (waits_in (block_in fl i.context)) e))

  slot_reads : (x : ℕ) (i : Item) (r : Part) → waits_in (block_in fl i.context) r ≡ true → reads fl x i r ≡ false
  slot_reads x i (Parts.InCell n) e = absurd (true≢false (sym e))
  slot_reads x i r e = refl

  credit_reads : (x : ℕ) (i : Item) (r : Part) → is_turning r ≡ true → reads fl x i r ≡ false
  credit_reads x i (Parts.InCell n) e = absurd (true≢false (sym e))
  credit_reads x i r e = refl

  -- a reader is a fetch of its cell
  reader_fetches : (x : ℕ) (c : Context) (here : IsContext fl c) (n : ℕ) (v : Value)
      → FetchAt fl p w inputs past m good fit kept rests calm starts c here n → waits_for fl x c (AtNode n) v ≡ reads_cell x (cell_of fl c n (v ∷ []))
  reader_fetches x c here n v f =
      ap (λ o. cell_is x (fetches fl v o)) (node_is c here n f.line f.at) ∙ ap (λ (k : Kind ℕ). cell_is x (fetch_cell fl v k)) f.kind
      ∙ same_test x (Meaning.cell_of fl f.array v)
      ∙ ap (reads_cell x) (sym (ap (λ (a : ℕ). place_at (first_cell fl a) (index_in (array_len fl a) v (Meaning.origin_at fl c n)))
      (fetch_array fl p w inputs past m good fit kept rests calm starts c here n f)
      ∙ same_cell (array_len fl f.array) v (Meaning.origin_at fl c n) (first_cell fl f.array)))

  meant_reads : (x : ℕ) (i : Item) → Contains kept.tracks.net.waiting i
      → total (λ (t : Tagged). one (Fetches x t)) (meant fl i) ≡ one (reads fl x i i.inlet.part)
  meant_reads x i c = pick (waits fl p w inputs past m good fit kept rests calm i c)
    where
      here : IsContext fl i.context
      here = con fl p w inputs past m good fit kept rests calm starts i c

      pick : Waits fl p w inputs past m good fit kept rests calm i
          → total (λ (t : Tagged). one (Fetches x t)) (meant fl i) ≡ one (reads fl x i i.inlet.part)
      pick (InSlot e) =
          total_nothing (λ (t : Tagged). one (Fetches x t)) (meant fl i)
          (λ t d. ap one (not_fetched x i t here e (says fl p w inputs past m good fit kept rests calm starts i c t d)))
          ∙ ap one (sym (slot_reads x i i.inlet.part e))
      pick (OfLoop e) =
          total_nothing (λ (t : Tagged). one (Fetches x t)) (meant fl i)
          (λ t d. absurd (credit_meant fl p w inputs past m good fit kept rests calm starts i c t i.inlet.part e d))
          ∙ ap one (sym (credit_reads x i i.inlet.part e))
      pick (AtCell n e) =
          let r = reader fl p w inputs past m good fit kept rests calm starts i n c e in
          let test : reads fl x i i.inlet.part ≡ Fetches x (tagged i.context (AtNode n) (Operand 0) r.index) =
          ap (reads fl x i) e ∙ ap (λ (vs : List Value). reads_cell x (cell_of fl i.context n vs)) r.held
          ∙ sym (reader_fetches x i.context here n r.index
          (fetch_at fl p w inputs past m good fit kept rests calm starts i.context here n r.cell r.store)) in
          let o = ap one test in
          let all = ap (total (λ (t : Tagged). one (Fetches x t))) r.meant in
          omega (arith, o, all)

  readers : (x : ℕ) → reader_count (m.store.cells x) ≡ fetch_count fl x kept.state.tokens
  readers x =
      let a = reader_length (m.store.cells x) in
      let b = readers_count fl p w inputs past m good fit kept x in
      let c = total_agree (λ (i : Item). total (λ (t : Tagged). one (Fetches x t)) (meant fl i))
      (λ (i : Item). one (reads fl x i i.inlet.part)) kept.tracks.net.waiting (meant_reads x) in
      let d = total_flat (λ (t : Tagged). one (Fetches x t)) (meant fl) kept.tracks.net.waiting in
      let e : total (λ (t : Tagged). one (Fetches x t)) (flat_map (meant fl) (kept.tracks.net.pending ++ kept.tracks.net.waiting))
      ≡ total (λ (t : Tagged). one (Fetches x t)) (flat_map (meant fl) kept.tracks.net.waiting) =
      ap (λ (l : List Item). total (λ (t : Tagged). one (Fetches x t)) (flat_map (meant fl) (l ++ kept.tracks.net.waiting)))
      (rests_net fl p w inputs past m good fit kept rests calm) in
      let g = total-IsPermutation (λ (t : Tagged). one (Fetches x t)) kept.state.tokens
      (flat_map (meant fl) (kept.tracks.net.pending ++ kept.tracks.net.waiting)) kept.meant.tokens in
      let h = count_total (Fetches x) kept.state.tokens in
      omega (arith, a, b, c, d, e, g, h)

  pub exact : IsExact fl inputs m
  exact =
      let rest = at_rest fl p w inputs past m good fit kept rests calm starts wants in
      let d = flow_determinate fl good.well inputs (fits_main fl p w inputs past m good fit kept) kept.state kept.meant.reached rest no_clash in record {
        state = kept.state;
        reached = kept.meant.reached;
        seen = seen fl p w inputs past m good fit kept;
        at_rest = rest;
        only = d.leads;
        no_clash = d.no_clash;
        readers = readers;
      }

pub all_exact_at_rest : AllExactAtRest
all_exact_at_rest fl p w inputs past m good fit kept rests wants =
    exact fl p w inputs past m good fit kept rests wants (calm_of m wants) (all_start fl p w good)
