-- The readers that wait at a cell are the items that wait there, and a cell at which one waits is empty.
use Rattle.std.proofs.Common.{◌≡◌, ℕ, ◌+◌, ◌<◌, ℤ, Bool, true, false, List, [], ◌∷◌, ◌++◌, length, Some, None, if◌then◌else◌, refl, sym, ap, ◌∙◌, subst, arith}
use Rattle.std.proofs.Common.{true≢false, eq-eqb, length-append}
use Rattle.std.specs.Prelude.{Contains}
use Rattle.std.proofs.lemmas.List.Sorted.{length_permutation}
use Rattle.lemmas.proofs.Contains.{contains_head, contains_none, contains_tail}
use Rattle.semantics.specs.Graph.{Flow}
use Rattle.semantics.specs.Plan.{Plan}
use Rattle.semantics.specs.Meaning.{Memory}
use Rattle.semantics.specs.Machine.{Machine}
use Rattle.semantics.specs.Orderly.{readers_of}
use Rattle.law_confluence.specs.OrdersTotals.{one, total}
use Rattle.law_confluence.proofs.Orders.{total_there}
use Rattle.law_net.specs.ContextsParts.{Part, Line, InCell, Inlet, Note, Item}
use Rattle.law_net.specs.ContextsBlocks.{side, is_cell}
use Rattle.law_net.specs.Contexts.{Wires, block_in, wiring_in}
use Rattle.law_net.specs.ContextsWires.{arrives_at}
use Rattle.law_net.specs.ContextsFirings.{back_from, cell_of}
use Rattle.law_net.specs.ContextsLaws.{spot_there, Carries}
use Rattle.law_net.specs.ContextsMirror.{Past, cont_in, word_of, reads, reads_cell, only, conts_of}
use Rattle.law_net.specs.ContextsTheorem.{IsGood}
use Rattle.law_net.specs.ContextsPackages.{Keeps, InputsFit}
use Rattle.law_net.proofs.WiredSends.{cell_plain}
use Rattle.law_end.proofs.OverPaths.{Wire, next}
use Rattle.law_end.proofs.OverMade.{fits, Mirrors}
use Rattle.law_end.proofs.RestCells.{no_value}
use Rattle.law_end.proofs.RestWaits.{stood_of, carries}

module _ (fl : Flow) (p : Plan) (w : Wires) (inputs : List ℤ) (past : Past) (m : Machine) (good : IsGood fl p w) (fit : InputsFit fl inputs)
    (kept : Keeps fl p w inputs past m) where
  abbrev Stood : Item → Type 0
  Stood i = Mirrors fl p w inputs past m good fit kept i

  -- what waits at a cell is a continuation
  cont_at : (i : Item) (n : ℕ) → Stood i → i.inlet.part ≡ InCell n → length (cont_in (word_of fl p w kept.tracks.net.fired i.word)) ≡ 1
  cont_at i n c e =
      ap (λ (u : Note). length (cont_in (word_of fl p w kept.tracks.net.fired u))) carried
      ∙ go ((wiring_in fl w i.context).wire (side (Line n) false)) wired.1.goes
    where
      carried : i.word ≡ back_from i.context ((wiring_in fl w i.context).wire (side (Line n) false))
      carried =
          subst (λ (r : Part). Carries fl w i.context i.inlet.way (arrives_at r i.inlet.port) i.word) e (carries fl p w inputs past m good fit kept i c)

      cell : is_cell (block_in fl i.context) n ≡ true
      cell = ap (spot_there fl w i.context) (sym e) ∙ (fits fl p w inputs past m good fit kept i c).there

      wired : (x : Inlet) × Wire fl p w good i.context (fits fl p w inputs past m good fit kept i c).is_context (side (Line n) false) x
      wired =
          next fl p w good i.context (fits fl p w inputs past m good fit kept i c).is_context (side (Line n) false)
          (cell_plain (block_in fl i.context) n cell) refl refl

      go : (xs : List Inlet) → Contains xs wired.0 → length (cont_in (word_of fl p w kept.tracks.net.fired (back_from i.context xs))) ≡ 1
      go [] d = absurd (contains_none wired.0 d)
      go (x ∷ xs) d = refl

  reads_held : (x : ℕ) (i : Item) (r : Part) → reads fl x i r ≡ true → (n : ℕ) × (r ≡ InCell n)
  reads_held x i (InCell n) e = (n, refl)
  reads_held x i r e = absurd (true≢false (sym e))

  conts_length : (test : Item → Bool) (items : List Item)
      → ((i : Item) → Contains items i → test i ≡ true → length (cont_in (word_of fl p w kept.tracks.net.fired i.word)) ≡ 1)
      → length (conts_of fl p w kept.tracks.net.fired (only test items)) ≡ total (λ (i : Item). one (test i)) items
  conts_length test [] h = refl
  conts_length test (i ∷ items) h = go (test i) refl (conts_length test items (λ j c. h j (contains_tail i items j c)))
    where
      go : (t : Bool) → test i ≡ t → length (conts_of fl p w kept.tracks.net.fired (only test items)) ≡ total (λ (i : Item). one (test i)) items
          → length (conts_of fl p w kept.tracks.net.fired ((if t then i ∷ [] else []) ++ only test items)) ≡ one t + total (λ (i : Item). one (test i)) items
      go true e more =
          let a = length-append (cont_in (word_of fl p w kept.tracks.net.fired i.word)) (conts_of fl p w kept.tracks.net.fired (only test items)) in
          let o = h i (contains_head i items) e in omega (arith, a, o, more)
      go false e more = omega (arith, more)

  pub readers_count : (x : ℕ) → length (readers_of (m.store.cells x)) ≡ total (λ (i : Item). one (reads fl x i i.inlet.part)) kept.tracks.net.waiting
  readers_count x =
      let long = length_permutation _ _ (kept.tracks.stands.readers x) in
      let all = conts_length (λ (i : Item). reads fl x i i.inlet.part) kept.tracks.net.waiting
      (λ i c e. let (n, g) = reads_held x i i.inlet.part e in cont_at i n (stood_of fl p w inputs past m good fit kept i c) g) in
      omega (arith, long, all)

  -- so a cell at which something waits has readers
  pub has_reader : (i : Item) (n x : ℕ) → Contains kept.tracks.net.waiting i → i.inlet.part ≡ InCell n → cell_of fl i.context n i.held ≡ Some x
      → 0 < length (readers_of (m.store.cells x))
  has_reader i n x c e cell =
      let yes' : reads fl x i i.inlet.part ≡ true = ap (reads fl x i) e ∙ ap (reads_cell x) cell ∙ eq-eqb x x refl in
      let o = ap one yes' in
      let all = readers_count x in
      let here = total_there (λ (i : Item). one (reads fl x i i.inlet.part)) kept.tracks.net.waiting i c in
      omega (arith, o, all, here)

  -- and is empty
  pub reader_empty : (i : Item) (n x : ℕ) → Contains kept.tracks.net.waiting i → i.inlet.part ≡ InCell n → cell_of fl i.context n i.held ≡ Some x
      → kept.state.memory.cells x ≡ None
  reader_empty i n x c e cell =
      ap (λ (s : Memory). s.cells x) kept.meant.memory_is ∙ sym (kept.tracks.stands.seen.cells x) ∙ no_value (m.store.cells x) (has_reader i n x c e cell)
