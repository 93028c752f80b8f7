-- A store that meets a full cell does so in the meaning, in whatever context.
use Rattle.std.proofs.Common.{◌≡◌, ℕ, ℤ, Bool, true, List, [], ◌∷◌, ◌++◌, length, Some, None, if◌then◌else◌, refl, sym, ap, ◌∙◌, subst, arith}
use Rattle.std.specs.Prelude.{Contains, IsPermutation, flat_map}
use Rattle.std.proofs.lemmas.List.Sorted.{IsPermutation-trans, Contains-permutation}
use Rattle.std.proofs.lemmas.List.Elements.{Contains-append_left}
use Rattle.lemmas.proofs.Permutations.{one_out}
use Rattle.lemmas.proofs.Contains.{contains_mapped}
use Rattle.tags.specs.declared.value.Value.{Value}
use Rattle.tags.specs.declared.token.To.{To}
use Rattle.tags.specs.declared.token.Token.{Token}
use Rattle.operators.specs.Values.{index_in}
use Rattle.semantics.specs.Graph.{Flow, first_cell, array_len}
use Rattle.semantics.specs.Plan.{Plan}
use Rattle.semantics.specs.Meaning as Meaning
use Rattle.semantics.specs.Meaning.{Context, Main, AtNode, Operand, Tagged, tagged, operands_from, node_in, node_of, origin_at, block_of}
use Rattle.semantics.specs.Machine.{Machine, Full, value_in}
use Rattle.semantics.specs.Cause.{SameSeen}
use Rattle.semantics.specs.Faithful.{inputs_in, HasStoreOfFull, IsSecondStore}
use Rattle.law_confluence.proofs.OutcomeClash.{IsClash, clash_from}
use Rattle.law_confluence.proofs.History.{Fits, flow_determinate}
use Rattle.law_confluence.proofs.Orders.{flat_map-IsPermutation}
use Rattle.law_net.specs.ContextsParts.{Part, InCell, Item}
use Rattle.law_net.specs.ContextsBlocks.{is_store, store_kind}
use Rattle.law_net.specs.Contexts.{Wires, block_in, IsContext}
use Rattle.law_net.specs.ContextsMeant.{meant, meant_by}
use Rattle.law_net.specs.ContextsFirings.{array_in, array_at, place_at, cell_of, second_of}
use Rattle.law_net.specs.ContextsMirror.{Past, to_of, token_of}
use Rattle.law_net.specs.ContextsTheorem.{IsGood}
use Rattle.law_net.specs.ContextsPackages.{OfRuns, Keeps, InputsFit, SecondStores}
use Rattle.law_net.proofs.ContextsWords.{holds_of}
use Rattle.law_net_refines_meaning.proofs.FiringsNodes.{kind_is}
use Rattle.law_net.proofs.WiredInvoked.{block_here}
use Rattle.law_end.proofs.OverMade.{left_stands, fits, word}
use Rattle.law_end.proofs.RestCells.{two_values, store_of, same_cell, cell_store}

module _ (fl : Flow) (p : Plan) (w : Wires) (inputs : List ℤ) (past : Past) (m : Machine) (good : IsGood fl p w) (fit : InputsFit fl inputs)
    (kept : Keeps fl p w inputs past m) where
  pub seen : SameSeen m.store kept.state.memory
  seen = subst (λ (s : Meaning.Memory). SameSeen m.store s) (sym kept.meant.memory_is) kept.tracks.stands.seen

  pub fits_main : Fits fl inputs
  fits_main = (block_in fl Main, block_here fl p w good Main good.main, let e = counted in omega (arith, e))
    where
      counted : length inputs ≡ (block_in fl Main).inputs
      counted = fit ∙ ap inputs_in (block_here fl p w good Main good.main)

  -- an item's context, and its block
  pub context_at : (i : Item) → Contains (kept.tracks.net.pending ++ kept.tracks.net.waiting) i → IsContext fl i.context
  context_at i c = (fits fl p w inputs past m good fit kept i (left_stands fl p w inputs past m good fit kept i c)).is_context

  pub block_at : (i : Item) → Contains (kept.tracks.net.pending ++ kept.tracks.net.waiting) i → block_of fl i.context ≡ Some (block_in fl i.context)
  block_at i c = block_here fl p w good i.context (context_at i c)

  to_store : (i : Item) (r : Part) (x : ℕ) (v : Value) → to_of fl p w kept.tracks.net.fired i r ≡ To.Store x v
      → (n : ℕ) × (r ≡ InCell n) × (cell_of fl i.context n i.held ≡ Some x) × (is_store (block_in fl i.context) n ≡ true)
  to_store i (InCell n) x v e =
      let (cell, store, value) = cell_store (cell_of fl i.context n i.held) (is_store (block_in fl i.context) n) (second_of i.held) x v e in
      (n, refl, cell, store)
  to_store i r x v e = absurd (cc)

  clash : (x : ℕ) (u : Value) (i : Item) (n : ℕ) → Contains kept.tracks.net.pending i → i.inlet.part ≡ InCell n → cell_of fl i.context n i.held ≡ Some x
      → is_store (block_in fl i.context) n ≡ true → m.store.cells x ≡ Full u → IsClash fl kept.state x
  clash x u i n c e cell store full =
      let left = Contains-append_left kept.tracks.net.pending kept.tracks.net.waiting i c in
      let long = holds_of fl w i n e (word fl p w inputs past m good fit kept i (left_stands fl p w inputs past m good fit kept i left)) in
      let (v, z, held) = two_values i.held (long ∙ ap (λ (t : Bool). if t then 2 else 1) store) in
      let (line, at, kind) = kind_is (block_in fl i.context) store_kind n store in
      let (a, is) = store_of line.kind kind in
      let node : node_of fl i.context n ≡ Some line = ap (λ o. node_in o n) (block_at i left) ∙ at in
      let array : array_at fl i.context n ≡ a = ap (λ o. elim o as (λ x. ℕ) [ None ↦ 0 | Some line ↦ array_in line.kind ]) node ∙ ap array_in is in
      let here : cell_of fl i.context n (v ∷ z ∷ []) ≡ Some x = ap (cell_of fl i.context n) (sym held) ∙ cell in
      let (others, apart') = one_out (kept.tracks.net.pending ++ kept.tracks.net.waiting) i left in
      let tells : meant fl i ≡ tagged i.context (AtNode n) (Operand 0) v ∷ tagged i.context (AtNode n) (Operand 1) z ∷ [] = ap (meant_by fl i) e
      ∙ ap (operands_from i.context (AtNode n) 0) held in
      record {
        context = i.context;
        node = n;
        index = v;
        value = z;
        held = u;
        array = a;
        line = line;
        rest = flat_map (meant fl) others;
        is_node = node;
        is_store = is;
        names =
            sym (ap (λ (a : ℕ). place_at (first_cell fl a) (index_in (array_len fl a) v (origin_at fl i.context n))) array
            ∙ same_cell (array_len fl a) v (origin_at fl i.context n) (first_cell fl a)) ∙ here;
        tokens =
            IsPermutation-trans _ _ _ kept.meant.tokens
            (subst (λ (l : List Tagged). IsPermutation (flat_map (meant fl) (kept.tracks.net.pending ++ kept.tracks.net.waiting))
            (l ++ flat_map (meant fl) others)) tells
            (flat_map-IsPermutation (meant fl) (kept.tracks.net.pending ++ kept.tracks.net.waiting) (i ∷ others) apart'));
        full = ap (λ (s : Meaning.Memory). s.cells x) kept.meant.memory_is ∙ sym (kept.tracks.stands.seen.cells x) ∙ ap value_in full;
      }

  pub second_store : (x : ℕ) → HasStoreOfFull m x → IsSecondStore fl inputs x
  second_store x (v, u, a, c, full) =
      let t : Token = record { to = To.Store x v; word = a } in
      let (i, d, g) = contains_mapped (token_of fl p w kept.tracks.net.fired) kept.tracks.net.pending t
      (Contains-permutation _ _ t kept.tracks.stands.pool c) in
      let (n, e, cell, store) = to_store i i.inlet.part x v (ap (λ (t : Token). t.to) g) in
      let clashes = clash_from fl good.well kept.state x (clash x u i n d e cell store full) in
      record {
        state = kept.state;
        reached = kept.meant.reached;
        clashes = clashes;
        always = λ o reached rest quiet. (flow_determinate fl good.well inputs fits_main o reached rest quiet).no_clash kept.state x kept.meant.reached clashes;
      }

pub all_second_stores : OfRuns SecondStores
all_second_stores fl p w inputs past m good fit kept x has = second_store fl p w inputs past m good fit kept x has
