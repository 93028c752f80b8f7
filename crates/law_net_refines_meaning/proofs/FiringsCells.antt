-- Fetches and stores: an operation asks its cell, and what the cell answers is sent.
use Rattle.std.proofs.Common.{◌≡◌, ℕ, ◌+◌, ◌-◌, Bool, true, false, ◌&&◌, ◌||◌, ◌⊎◌, inl, inr, List, [], ◌∷◌, ◌++◌, length, flat_map, Some, None, nat_lt}
use Rattle.std.proofs.Common.{if◌then◌else◌, refl, sym, ap, ◌∙◌, subst, arith, true≢false, append-nil}
use Rattle.std.proofs.lemmas.Bool.{cases_Bool}
use Rattle.std.proofs.lemmas.List.Sorted.{IsPermutation-refl}
use Rattle.lemmas.proofs.Bools.{first_of_and, second_of_and}
use Rattle.tags.specs.declared.value.Value.{Value}
use Rattle.tags.specs.declared.token.Port.TheVariants.{Left, Right}
use Rattle.operators.specs.Values.{Indexed, Place, Outside, index_in}
use Rattle.semantics.specs.declared.graph.Region.{Region}
use Rattle.semantics.specs.declared.graph.Kind.{Kind}
use Rattle.semantics.specs.Graph.{Node, Block, Flow, node_at, first_cell, array_len}
use Rattle.semantics.specs.Plan.{Plan}
use Rattle.semantics.specs.Meaning.{Context, Memory, AtNode, Fires, effect, deed, done, done_if, fired, fetched, stored, sent, operands_from, with_cell}
use Rattle.semantics.specs.Meaning.{when_full, when_empty, adds, origin_at, block_of}
use Rattle.law_net.specs.ContextsParts as Parts
use Rattle.law_net.specs.ContextsParts.{Line, Answer, InCell, inlet, Note, Datum, FrameOf, BackTo, ToHost, Item, item, each, Firing}
use Rattle.law_net.specs.ContextsBlocks.{side, Wiring, there_in, is_kind, is_plain, is_cell, is_pair, is_store, cell_kind, plain_kind, pair_kind, store_kind}
use Rattle.law_net.specs.ContextsBlocks.{exit_kind}
use Rattle.law_net.specs.Contexts.{Wires, block_in, site_in, wiring_in, IsContext}
use Rattle.law_net.specs.ContextsMeant.{meant, settled_sent}
use Rattle.law_net.specs.ContextsWires.{IsWiredCode}
use Rattle.law_net.specs.ContextsFirings.{takes, makes, memory_of, along, back_from, value_in, stored_at, second_of, place_at, index_of, array_in, array_at}
use Rattle.law_net.specs.ContextsFirings.{cell_of, Answers, AFault, ARead, AFill}
use Rattle.law_net.specs.ContextsOperands.{HaveOperands, HasOperands}
use Rattle.law_net_refines_meaning.proofs.FiringsActs.{Acts, same, follow, acts, fires_deed, line_past}
use Rattle.law_net_refines_meaning.proofs.FiringsSettles.{settles, operands_in}
use Rattle.law_net_refines_meaning.proofs.FiringsNodes.{kind_is, kind_of, exit_of, goes, Sent, node_in_block}
use Rattle.law_net_refines_meaning.proofs.FiringsControl.{block_is}

module _ (fl : Flow) (p : Plan) (w : Wires) (operands : HaveOperands fl) (f : Firing) (fired' : List Firing) (ctx : IsContext fl f.context)
    (Here : Context → Type 0) (here : Here f.context)
    (code : IsWiredCode fl p w.variant Here (site_in fl w f.context) (wiring_in fl w f.context)) where
  abbrev c : Context
  c = f.context

  abbrev b : Block ℕ
  b = block_in fl f.context

  abbrev wg : Wiring
  wg = wiring_in fl w f.context

  abbrev eb : block_of fl f.context ≡ Some (block_in fl f.context)
  eb = block_is fl f.context ctx

  abbrev by : Parts.Part → Note → Note → Firing
  by r l k = record f { part = r; left = l; right = k }

  abbrev IsMeantBy : Parts.Part → Note → Note → Type 0
  IsMeantBy r l k =
      Acts fl f.context r (flat_map (meant fl) (takes fl (by r l k))) (memory_of fl fired') (flat_map (meant fl) (makes fl w (by r l k))) (memory_of fl (by r l k ∷ fired'))

  abbrev mem : Memory
  mem = memory_of fl fired'

  port_zero : (t : Bool) → (t || true) ≡ true
  port_zero true = refl
  port_zero false = refl

  -- AN ANSWER'S COPY
  exit_answer : (n q : ℕ) (r : Region) (k : Kind ℕ) → cell_kind k ≡ true → (t : Bool) → wg.answers n ≡ t
      → exit_kind wg n q r k ≡ (if t then side (Answer n) false else side (Line n) false)
  exit_answer n q r (Kind.Fetch a) e t g = ap (λ (t : Bool). if t then side (Answer n) false else side (Line n) false) g
  exit_answer n q r (Kind.Store a) e t g = ap (λ (t : Bool). if t then side (Answer n) false else side (Line n) false) g
  exit_answer n q r k e t g = absurd (true≢false (sym e))

  pub answer : (n : ℕ) (v : Value) (k : Note) → there_in fl (site_in fl w c) wg (Answer n) ≡ true → IsMeantBy (Answer n) (Datum v) k
  answer n v k there =
      let (line, en, kind) = kind_is b cell_kind n (first_of_and _ _ there) in
      subst (λ l. Acts fl c (Answer n) l mem (Sent fl p w operands c eb Here here code v (side (Answer n) false)) mem) (sym (append-nil (settled_sent fl c n 0 v)))
      (goes fl p w operands c eb Here here code (Answer n) n 0 v (side (Answer n) false) mem
      (exit_of b wg n 0 line en ∙ exit_answer n 0 line.region line.kind kind true (second_of_and _ _ there)) there (port_zero _))

  -- THE REQUEST carries the operands
  same_pair : (k : Kind ℕ) → cell_kind k ≡ true → pair_kind k ≡ store_kind k
  same_pair (Kind.Fetch a) e = refl
  same_pair (Kind.Store a) e = refl
  same_pair k e = absurd (true≢false (sym e))

  abbrev request : ℕ → Value → Note → Bool → Item
  request n v k t =
      record {
        context = c;
        inlet = inlet (InCell n) Left 0;
        word = back_from c (wg.wire (side (Line n) false));
        held =
            v ∷ (if t then value_in k ∷ [] else []);
      }

  abbrev operands_taken : ℕ → Value → Note → Bool → List Item
  operands_taken n v k t = (item c (inlet (Line n) Left 0) (Datum v) ∷ (if t then item c (inlet (Line n) Right 0) k ∷ [] else [])) ++ []

  abbrev IsValue : Note → Type 0
  IsValue k = (v : Value) × (k ≡ Datum v)

  asked_same : (n : ℕ) (v : Value) (k : Note) (t : Bool) → (t ≡ true → IsValue k)
      → flat_map (meant fl) (operands_taken n v k t) ≡ flat_map (meant fl) (request n v k t ∷ [])
  asked_same n v (Datum u) true h = refl
  asked_same n v (FrameOf d) true h = let e = (h refl).1 in absurd (cc)
  asked_same n v (BackTo d x) true h = let e = (h refl).1 in absurd (cc)
  asked_same n v ToHost true h = let e = (h refl).1 in absurd (cc)
  asked_same n v k false h = refl

  pub asks : (n : ℕ) (v : Value) (k : Note) → is_cell b n ≡ true → (is_pair b n ≡ true → IsValue k) → IsMeantBy (Line n) (Datum v) k
  asks n v k cell right =
      let (line, en, kind) = kind_is b cell_kind n cell in
      let pair : is_pair b n ≡ is_store b n = kind_of b pair_kind n line en ∙ same_pair line.kind kind ∙ sym (kind_of b store_kind n line en) in
      let made = ap (λ (t : Bool). flat_map (meant fl) (if t then request n v k (is_store b n) ∷ [] else along fl w (by (Line n) (Datum v) k) (Line n) false))
      (sym cell) in
      same fl c (Line n) _ _ mem (asked_same n v k (is_pair b n) right ∙ ap (λ (t : Bool). flat_map (meant fl) (request n v k t ∷ [])) pair ∙ made)

  -- WHAT THE CELL ANSWERS
  abbrev after : ℕ → List Value → Memory
  after n vs = if is_store b n then stored_at (cell_of fl c n vs) (second_of vs) mem else mem

  abbrev Answered : ℕ → List Value → Value → Type 0
  Answered n vs v = effect fl mem (Fires c n vs) ≡ Some record { added = sent fl c n 0 v; memory = after n vs }

  -- a fault leaves the memory alone
  fault_after : (n : ℕ) (vs : List Value) (v : Value) → index_of fl c n vs ≡ Outside v → (t : Bool)
      → (if t then stored_at (cell_of fl c n vs) (second_of vs) mem else mem) ≡ mem
  fault_after n vs v e true = ap (λ (x : Indexed). stored_at (place_at (first_cell fl (array_at fl c n)) x) (second_of vs) mem) e
  fault_after n vs v e false = refl

  -- where a cell is
  place_is : (base x : ℕ) (i : Indexed) → place_at base i ≡ Some x → i ≡ Place (x - base)
  place_is base x (Place i) e = let same : base + i ≡ x = cc in let less : i ≡ x - base = omega (arith, same) in ap (λ (j : ℕ). Place j) less
  place_is base x (Outside v) e = absurd (cc)

  place_back : (base x : ℕ) (i : Indexed) → place_at base i ≡ Some x → base + (x - base) ≡ x
  place_back base x (Place i) e = let same : base + i ≡ x = cc in omega (arith, same)
  place_back base x (Outside v) e = absurd (cc)

  array_of : (n : ℕ) (line : Node ℕ) → node_at b n ≡ Some line → array_at fl c n ≡ array_in line.kind
  array_of n line en = ap (λ o. elim o as (λ x. ℕ) [ None ↦ 0 | Some line ↦ array_in line.kind ]) (node_in_block fl p w operands c eb Here here code n ∙ en)

  fetch_effect : (n a : ℕ) (v : Value) (line : Node ℕ) → node_at b n ≡ Some line → line.kind ≡ Kind.Fetch a
      → HasOperands line.region (Kind.Fetch a) (length line.sources) → (u : Value) → Answers fl mem c n (v ∷ []) u → Answered n (v ∷ []) u
  fetch_effect n a v line en ek count u answers = by_answer answers
    where
      array : array_at fl c n ≡ a
      array = array_of n line en ∙ ap array_in ek

      base : ℕ
      base = first_cell fl (array_at fl c n)

      none : is_store b n ≡ false
      none = kind_of b store_kind n line en ∙ ap store_kind ek

      d : deed fl (Fires c n (v ∷ [])) ≡ Some (fetched c n base (index_of fl c n (v ∷ [])))
      d = fires_deed fl c n (v ∷ []) b line eb en (sym count) ∙ ap (λ (k : Kind ℕ). fired fl c n k (v ∷ [])) ek
          ∙ ap (λ (a : ℕ). Some (fetched c n (first_cell fl a) (index_in (array_len fl a) v (origin_at fl c n)))) (sym array)

      at_index : (i : Indexed) → index_of fl c n (v ∷ []) ≡ i → effect fl mem (Fires c n (v ∷ [])) ≡ done fl mem (fetched c n base i)
      at_index i e = ap (done_if fl mem) d ∙ ap (λ (i : Indexed). done fl mem (fetched c n base i)) e

      memory_same : after n (v ∷ []) ≡ mem
      memory_same = ap (λ (t : Bool). if t then stored_at (cell_of fl c n (v ∷ [])) (second_of (v ∷ [])) mem else mem) none

      by_answer : Answers fl mem c n (v ∷ []) u → Answered n (v ∷ []) u
      by_answer (AFault e) = at_index (Outside u) e ∙ ap (λ (m : Memory). Some record { added = sent fl c n 0 u; memory = m }) (sym memory_same)
      by_answer (ARead x store cell full) =
          at_index (Place (x - base)) (place_is base x (index_of fl c n (v ∷ [])) cell)
          ∙ ap (λ (x : ℕ). when_full (mem.cells x) (λ (v : Value). adds (sent fl c n 0 v) mem)) (place_back base x (index_of fl c n (v ∷ [])) cell)
          ∙ ap (λ o. when_full o (λ (v : Value). adds (sent fl c n 0 v) mem)) full
          ∙ ap (λ (m : Memory). Some record { added = sent fl c n 0 u; memory = m }) (sym memory_same)
      by_answer (AFill x store cell empty same') = absurd (true≢false (sym store ∙ none))

  store_effect : (n a : ℕ) (v u : Value) (line : Node ℕ) → node_at b n ≡ Some line → line.kind ≡ Kind.Store a
      → HasOperands line.region (Kind.Store a) (length line.sources) → (z : Value) → Answers fl mem c n (v ∷ u ∷ []) z → Answered n (v ∷ u ∷ []) z
  store_effect n a v u line en ek count z answers = by_answer answers
    where
      vs : List Value
      vs = v ∷ u ∷ []

      array : array_at fl c n ≡ a
      array = array_of n line en ∙ ap array_in ek

      base : ℕ
      base = first_cell fl (array_at fl c n)

      yes' : is_store b n ≡ true
      yes' = kind_of b store_kind n line en ∙ ap store_kind ek

      d : deed fl (Fires c n (v ∷ u ∷ [])) ≡ Some (stored c n base u (index_of fl c n (v ∷ u ∷ [])))
      d = fires_deed fl c n (v ∷ u ∷ []) b line eb en (sym count) ∙ ap (λ (k : Kind ℕ). fired fl c n k (v ∷ u ∷ [])) ek
          ∙ ap (λ (a : ℕ). Some (stored c n (first_cell fl a) u (index_in (array_len fl a) v (origin_at fl c n)))) (sym array)

      at_index : (i : Indexed) → index_of fl c n (v ∷ u ∷ []) ≡ i → effect fl mem (Fires c n (v ∷ u ∷ [])) ≡ done fl mem (stored c n base u i)
      at_index i e = ap (done_if fl mem) d ∙ ap (λ (i : Indexed). done fl mem (stored c n base u i)) e

      by_answer : Answers fl mem c n (v ∷ u ∷ []) z → Answered n (v ∷ u ∷ []) z
      by_answer (AFault e) =
          at_index (Outside z) e ∙ ap (λ (m : Memory). Some record { added = sent fl c n 0 z; memory = m })
          (sym (fault_after n (v ∷ u ∷ []) z e (is_store b n)))
      by_answer (ARead x store cell full) = absurd (true≢false (sym yes' ∙ store))
      by_answer (AFill x store cell empty same') =
          let memory_is : after n (v ∷ u ∷ []) ≡ with_cell mem x u = ap (λ (t : Bool). if t then stored_at (cell_of fl c n (v ∷ u ∷ [])) u mem else mem) yes'
          ∙ ap (λ o. stored_at o u mem) cell in
          at_index (Place (x - base)) (place_is base x (index_of fl c n (v ∷ u ∷ [])) cell)
          ∙ ap (λ (x : ℕ). when_empty (mem.cells x) (adds (sent fl c n 0 u) (with_cell mem x u))) (place_back base x (index_of fl c n (v ∷ u ∷ [])) cell)
          ∙ ap (λ o. when_empty o (adds (sent fl c n 0 u) (with_cell mem x u))) empty
          ∙ (λ k. Some record { added = sent fl c n 0 (sym same' k); memory = sym memory_is k })

  held_effect : (n : ℕ) (vs : List Value) (v : Value) → is_cell b n ≡ true → length vs ≡ (if is_store b n then 2 else 1) → Answers fl mem c n vs v
      → Answered n vs v
  held_effect n vs v cell len answers =
      let (line, en, kind) = kind_is b cell_kind n cell in
      by_kind line.kind line en refl kind vs (len ∙ ap (λ (t : Bool). if t then 2 else 1) (kind_of b store_kind n line en)) answers
    where
      by_kind : (k : Kind ℕ) (line : Node ℕ) → node_at b n ≡ Some line → line.kind ≡ k → cell_kind k ≡ true → (vs : List Value)
          → length vs ≡ (if store_kind k then 2 else 1) → Answers fl mem c n vs v → Answered n vs v
      by_kind (Kind.Fetch a) line en ek kind (x ∷ []) len answers =
          fetch_effect n a x line en ek (subst (λ (k : Kind ℕ). HasOperands line.region k (length line.sources)) ek (operands_in fl operands c b n line eb en))
          v answers
      by_kind (Kind.Fetch a) line en ek kind [] len answers = absurd (omega (arith, len))
      by_kind (Kind.Fetch a) line en ek kind (x ∷ y ∷ vs) len answers = absurd (omega (arith, len))
      by_kind (Kind.Store a) line en ek kind (x ∷ y ∷ []) len answers =
          store_effect n a x y line en ek (subst (λ (k : Kind ℕ). HasOperands line.region k (length line.sources)) ek
          (operands_in fl operands c b n line eb en)) v answers
      by_kind (Kind.Store a) line en ek kind [] len answers = absurd (omega (arith, len))
      by_kind (Kind.Store a) line en ek kind (x ∷ []) len answers = absurd (omega (arith, len))
      by_kind (Kind.Store a) line en ek kind (x ∷ y ∷ z ∷ vs) len answers = absurd (omega (arith, len))
      by_kind k line en ek kind vs len answers = absurd (true≢false (sym kind))

  -- it goes to the copy, or along the wires
  plain_cell : (k : Kind ℕ) → cell_kind k ≡ true → plain_kind k ≡ true
  plain_cell (Kind.Fetch a) e = refl
  plain_cell (Kind.Store a) e = refl
  plain_cell k e = absurd (true≢false (sym e))

  or_right : (t u : Bool) → u ≡ true → (t || u) ≡ true
  or_right true u e = refl
  or_right false u e = e

  and_both : (t u : Bool) → t ≡ true → u ≡ true → (t && u) ≡ true
  and_both true u e f = f
  and_both false u e f = absurd (true≢false (sym e))

  answer_goes : (n : ℕ) (v : Value) (m : Memory) → is_cell b n ≡ true
      → Acts fl c (InCell n) (settled_sent fl c n 0 v) m (Sent fl p w operands c eb Here here code v (side (Line n) false)) m
  answer_goes n v m cell = pick (cases_Bool (wg.answers n))
    where
      found : (line : Node ℕ) × (node_at b n ≡ Some line) × (cell_kind line.kind ≡ true)
      found = kind_is b cell_kind n cell

      there : is_plain b n ≡ true
      there = or_right (nat_lt n b.inputs) (is_kind plain_kind b n) (kind_of b plain_kind n found.0 found.1 ∙ plain_cell found.0.kind found.2)

      pick : (wg.answers n ≡ true) ⊎ (wg.answers n ≡ false)
          → Acts fl c (InCell n) (settled_sent fl c n 0 v) m (Sent fl p w operands c eb Here here code v (side (Line n) false)) m
      pick (inl e) = same fl c (InCell n) (settled_sent fl c n 0 v) (Sent fl p w operands c eb Here here code v (side (Line n) false)) m
          (sym (append-nil (settled_sent fl c n 0 v))
          ∙ ap (λ l. flat_map (meant fl) (each c (Datum v) l)) (sym (code.uses.answers n (and_both (is_cell b n) (wg.answers n) cell e))))
      pick (inr e) =
          goes fl p w operands c eb Here here code (InCell n) n 0 v (side (Line n) false) m
          (exit_of b wg n 0 found.0 found.1 ∙ exit_answer n 0 found.0.region found.0.kind found.2 false e) there (port_zero _)

  pub held : (n : ℕ) (l k : Note) → is_cell b n ≡ true → length f.operands ≡ (if is_store b n then 2 else 1) → Answers fl mem c n f.operands f.answer
      → IsMeantBy (InCell n) l k
  held n l k cell len answers =
      let old : operands_from c (AtNode n) 0 f.operands ≡ flat_map (meant fl) (takes fl (by (InCell n) l k)) = sym (append-nil _) in
      let (line, en, kind) = kind_is b cell_kind n cell in
      let act = acts fl c (InCell n) (Fires c n f.operands) (λ e. absurd (true≢false (sym e ∙ line_past b n line en))) (operands_from c (AtNode n) 0 f.operands) (sent fl c n 0 f.answer) (sent fl c n 0 f.answer) mem
      (after n f.operands) (IsPermutation-refl _) (held_effect n f.operands f.answer cell len answers) (IsPermutation-refl _) in
      let all = follow fl c (InCell n) (operands_from c (AtNode n) 0 f.operands) (sent fl c n 0 f.answer)
      (Sent fl p w operands c eb Here here code f.answer (side (Line n) false)) mem (after n f.operands) (after n f.operands) act
      (follow fl c (InCell n) (sent fl c n 0 f.answer) (settled_sent fl c n 0 f.answer) (Sent fl p w operands c eb Here here code f.answer (side (Line n) false))
      (after n f.operands) (after n f.operands) (after n f.operands)
      (settles fl operands c (InCell n) c n 0 f.answer (after n f.operands)) (answer_goes n f.answer (after n f.operands) cell)) in
      subst (λ x. Acts fl c (InCell n) x mem (Sent fl p w operands c eb Here here code f.answer (side (Line n) false)) (after n f.operands)) old all
