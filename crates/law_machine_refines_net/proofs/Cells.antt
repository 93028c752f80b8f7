-- Fetches and stores, at their nodes and at their cells.
use Rattle.std.proofs.Common.{◌≡◌, ℕ, ◌+◌, Bool, true, false, List, [], ◌∷◌, ◌++◌, take, refl, sym, ap, ◌∙◌, subst, inl, inr, ◌⊎◌, arith, true≢false, Option}
use Rattle.std.proofs.Common.{Some, None, if◌then◌else◌, sum}
use Rattle.std.specs.Prelude.{Contains, slice_index_or}
use Rattle.std.proofs.lemmas.Option.{same_Some}
use Rattle.lemmas.proofs.Permutations.{permutation_same}
use Rattle.lemmas.proofs.Contains.{contains_head, contains_none}
use Rattle.tags.specs.declared.value.Value.{Value}
use Rattle.tags.specs.declared.value.Origin.{Origin}
use Rattle.tags.specs.declared.token.Cont.{Cont}
use Rattle.tags.specs.declared.token.Word.{Word}
use Rattle.tags.specs.declared.token.To.{To}
use Rattle.tags.specs.declared.token.Token.{Token}
use Rattle.tags.specs.declared.slot.SlotState.TheVariants.{Empty}
use Rattle.operators.specs.Values.{Indexed, Place, Outside, index_in}
use Rattle.semantics.specs.declared.graph.Kind.{Kind}
use Rattle.semantics.specs.declared.graph.Kind.TheVariants as Kinds
use Rattle.semantics.specs.declared.program.Op.{Op}
use Rattle.semantics.specs.declared.program.Op.TheVariants as Ops
use Rattle.semantics.specs.Graph.{Node, Block, Flow, node_at, first_cell}
use Rattle.semantics.specs.Graph as Graph
use Rattle.semantics.specs.Meaning.{Context, origin_at}
use Rattle.semantics.specs.Program.{Instr}
use Rattle.semantics.specs.Rule.{Point, token, to_each, answer_to, asks_for, puts, fires, fire_one, fire_two, array_base, array_len}
use Rattle.semantics.specs.Machine.{Store, Fires, with_slot}
use Rattle.law_confluence.proofs.NetSlots.{InSlots}
use Rattle.law_confluence.proofs.Orders.{at_last}
use Rattle.law_fresh_frames.specs.Alike.{plain_dests}
use Rattle.law_net.specs.ContextsParts.{Line, Note, Datum, FrameOf, BackTo, ToHost, signal, Item, Firing}
use Rattle.law_net.specs.ContextsBlocks.{waits_in, is_cell, is_store, cell_kind, pair_kind, store_kind, kind_op, op_of}
use Rattle.law_net.specs.Contexts.{block_in, site_in, HasBlock}
use Rattle.law_net.specs.ContextsFirings.{Config, value_in, array_at, array_in, index_of, cell_of, place_at, second_of, first_of}
use Rattle.law_net.specs.ContextsMirror.{frame_of, ip_of, word_of, cell_to, on_side, in_slot, slot_of, only, Mirrors, is_instr}
use Rattle.law_machine_refines_net.specs.MovesCases.{Taking, net_of, Followed}
use Rattle.law_machine_refines_net.proofs.MovesLists.{contains_one}
use Rattle.law_machine_refines_net.proofs.MovesFitted.{fits, taken_here}
use Rattle.law_machine_refines_net.proofs.SendsRules.{instr, stood, free_of, dyadic_grants, grants, releases}
use Rattle.law_machine_refines_net.proofs.SendsPairs as Pairs
use Rattle.law_machine_refines_net.proofs.SendsPairs.{Second, dyadic}
use Rattle.law_machine_refines_net.proofs.Sends.{firing_of, stays_same, stays_with}
use Rattle.law_machine_refines_net.proofs.SendsAlong.{does, both, mine, takes_one, takes_two, pair_follows}
use Rattle.law_machine_refines_net.proofs.SendsInwards.{carried_as, carried, kept_node, origin_is}
use Rattle.law_machine_refines_net.proofs.CellsAnswered.{Answered}
use Rattle.law_machine_refines_net.proofs.CellsRequests.{ans, Asks, back_is, asks_arc, sent_arc, asks_cell, answers_at_once}
use Rattle.semantics.specs.Arcs.{UsesBy}
use Rattle.law_net.proofs.ContextsBlocks.{has_block}

if_true : (t : Bool) (xs ys : List Item) → t ≡ true → (if t then xs else ys) ≡ xs
if_true true xs ys e = refl
if_true false xs ys e = absurd (true≢false (sym e))

abbrev test_of : (Kind ℕ → Bool) → Option (Node ℕ) → Bool
test_of test x = elim x as (λ y. Bool) [ None ↦ false | Some line ↦ test line.kind ]

abbrev op_for : Option (Node ℕ) → Op
op_for x = elim x as (λ y. Op) [ None ↦ Op.Copy | Some line ↦ kind_op line.kind ]

module _ (s : Taking) (n : ℕ) (e : s.i.inlet.part ≡ Line n) (cell : is_cell (block_in s.fl s.i.context) n ≡ true) where
  abbrev l : Taking
  l = carried_as s (Line n) e

  abbrev net : Config
  net = net_of s

  abbrev old : Mirrors s.fl s.p s.w s.m net
  old = s.keeps.tracks.stands

  abbrev c : Context
  c = s.i.context

  abbrev b : Block ℕ
  b = block_in s.fl c

  abbrev A : Answered s.fl s.p s.w s.good c (fits l l.i (taken_here l)).is_context n cell
  A = ans l n refl cell

  abbrev W : Note → Word
  W k = word_of s.fl s.p s.w net.fired k

  abbrev frame : ℕ
  frame = frame_of s.fl net.fired c

  abbrev here : ℕ
  here = ip_of s.fl s.p s.w c (Line n)

  abbrev point : Point
  point = record { frame = frame; ip = here }

  block : HasBlock s.fl c
  block = has_block s.fl c (fits l l.i (taken_here l)).is_context

  -- what a good or a bad index makes
  abbrev meant_by : ℕ → Bool → Value → Indexed → List Token
  meant_by base t u (Place y) = token (cell_to (Some (base + y)) t u) (Word.Back (Cont.Frame frame (here + A.dest.ahead) A.dest.port)) ∷ []
  meant_by base t u (Outside w) = token (To.Instr frame (here + A.dest.ahead) A.dest.port) (Word.Val w) ∷ []

  -- where the answer goes
  answer_word : Word.Back (Cont.Frame frame (here + A.dest.ahead) A.dest.port) ≡ W (BackTo c A.inlet)
  answer_word =
      let k = A.far in let far : here + A.dest.ahead ≡ ip_of s.fl s.p s.w c A.inlet.part = omega (arith, k) in
      (λ t. Word.Back (Cont.Frame frame (far t) (A.port t)))

  module _ (op : Op) (op_is : A.point.instr.op ≡ op) (plain : plain_dests A.point.instr op ≡ A.point.instr.firsts ++ A.point.instr.seconds)
      (no_give : (k : ℕ) → op ≡ Ops.Give k → ⊥)
      (asks : (t : Token) → t.word ≡ Word.Back (Cont.Frame frame (ip_of s.fl s.p s.w c A.inlet.part) A.inlet.port)
      → UsesBy s.p frame (ip_of s.fl s.p s.w c A.inlet.part) A.inlet.port A.point.instr op t s.new) (g : Asks l n refl cell) where
    -- either way
    finish : (X : Indexed) → index_of s.fl c n g.held ≡ X → s.event.made ≡ meant_by (first_cell s.fl (array_at s.fl c n)) (is_store b n) (second_of g.held) X
        → Followed s
    finish (Place y) is made =
        let base = first_cell s.fl (array_at s.fl c n) in
        let place : cell_of s.fl c n g.held ≡ Some (base + y) = ap (place_at base) is in
        let t : Token = token (cell_to (Some (base + y)) (is_store b n) (second_of g.held)) (Word.Back (Cont.Frame frame (here + A.dest.ahead) A.dest.port)) in
        let used = asks_arc l n refl cell op op_is plain t (subst (λ ts. Contains ts t) (sym made) (contains_head t [])) (asks t answer_word) in
        asks_cell l n refl cell g used (base + y) place
        (made ∙ (λ i. token (cell_to (sym place i) (is_store b n) (second_of g.held)) ((answer_word ∙ sym (ap W (back_is l n refl cell))) i) ∷ []))
    finish (Outside w) is made = answers_at_once l n refl cell g (sent_arc l n refl cell op op_is plain no_give w made) w is made

  -- THE INDEX
  index_same : (a : ℕ) (v : Value) (vs : List Value) (o : Origin) → A.line.kind ≡ Kinds.Fetch a ⊎ (A.line.kind ≡ Kinds.Store a) → first_of vs ≡ v
      → o ≡ origin_at s.fl c n → index_of s.fl c n vs ≡ index_in (array_len s.p.program a) v o
  index_same a v vs o k first origin = λ t. index_in (arrays t) (first t) (sym origin t)
    where
      array_kind : A.line.kind ≡ Kinds.Fetch a ⊎ (A.line.kind ≡ Kinds.Store a) → array_in A.line.kind ≡ a
      array_kind (inl k) = ap array_in k
      array_kind (inr k) = ap array_in k

      at_line : array_at s.fl c n ≡ a
      at_line = ap (λ (x : Option (Node ℕ)). elim x as (λ y. ℕ) [ None ↦ 0 | Some line ↦ array_in line.kind ]) (kept_node s.fl c n block ∙ A.at) ∙ array_kind k

      arrays : Graph.array_len s.fl (array_at s.fl c n) ≡ array_len s.p.program a
      arrays = ap (Graph.array_len s.fl) at_line ∙ ap (λ l. slice_index_or l a 0) (sym s.good.wired.arrays)

  base_same : (a : ℕ) → A.line.kind ≡ Kinds.Fetch a ⊎ (A.line.kind ≡ Kinds.Store a) → array_base s.p.program a ≡ first_cell s.fl (array_at s.fl c n)
  base_same a k =
      ap (λ l. sum (take a l)) s.good.wired.arrays
      ∙ ap (first_cell s.fl) (sym (ap (λ (x : Option (Node ℕ)). elim x as (λ y. ℕ) [ None ↦ 0 | Some line ↦ array_in line.kind ])
      (kept_node s.fl c n block ∙ A.at) ∙ array_kind k))
    where
      array_kind : A.line.kind ≡ Kinds.Fetch a ⊎ (A.line.kind ≡ Kinds.Store a) → array_in A.line.kind ≡ a
      array_kind (inl k) = ap array_in k
      array_kind (inr k) = ap array_in k

  store_is : is_store b n ≡ store_kind A.line.kind
  store_is = ap (test_of store_kind) A.at

  -- A FETCH
  module _ (a : ℕ) (k : A.line.kind ≡ Kinds.Fetch a) where
    one : waits_in b (Line n) ≡ false
    one = ap (test_of pair_kind) A.at ∙ ap pair_kind k

    op_fetch : op_of s.w.variant (site_in s.fl s.w c) (Line n) ≡ Ops.Fetch a
    op_fetch = ap op_for A.at ∙ ap kind_op k

    abbrev ins : Instr
    ins = instr l refl

    same_ins : ins ≡ A.point.instr
    same_ins = same_Some ins A.point.instr (sym (stood l refl).at ∙ A.point.at)

    value : (v : Value) × (s.i.word ≡ Datum v)
    value = carried l l.i (taken_here l)

    abbrev v : Value
    v = value.0

    abbrev X : Indexed
    X = index_in (array_len s.p.program a) v ins.origin

    did : (s.event.made ≡ asks_for s.p.program point ins a X) × (s.new.store ≡ s.m.store)
    did = subst (λ q. Fires s.m.store frame None (fires Empty (fire_one s.p.program point ins (Ops.Fetch a) (W q))) s.event.made s.new.store) value.1
        (subst (λ o. Fires s.m.store frame None (fires Empty (fire_one s.p.program point ins o (W s.i.word))) s.event.made s.new.store)
        ((stood l refl).is.op ∙ op_fetch) (does l refl one refl (Ops.Fetch a) op_fetch))

    abbrev f : Firing
    f = firing_of l s.i.inlet.way s.i.word signal

    abbrev held : List Value
    held = value_in s.i.word ∷ (if is_store b n then value_in signal ∷ [] else [])

    asks : Asks l n refl cell
    asks = record {
      f = f;
      before = [];
      kept = [];
      later = net.waiting;
      waiting = refl;
      paired = λ j h. absurd (contains_none j h);
      took = permutation_same _ _ ((λ t. mine l refl one refl t ∷ []) ∙ sym (takes_one l refl one s.i.word signal s.i.inlet.way));
      part = refl;
      held = held;
      makes_is = if_true (is_cell b n) _ _ cell;
      slots =
          subst (λ (x : Store). InSlots (λ (i : Item). frame_of s.fl net.fired i.context) (slot_of s.fl s.w)
          (λ (i : Item). on_side i.inlet.port (word_of s.fl s.p s.w net.fired i.word)) old.base (only (in_slot s.fl) net.waiting) x.slots)
          (sym did.1) old.slots;
      stays = stays_same l did.1;
      free = free_of l refl (ap grants ((stood l refl).is.op ∙ op_fetch)) (ap releases ((stood l refl).is.op ∙ op_fetch));
    }

    made_is : (y : Indexed) → asks_for s.p.program point ins a y ≡ meant_by (first_cell s.fl (array_at s.fl c n)) (is_store b n) (second_of held) y
    made_is (Place y) =
        ap (λ ds. token (To.Fetch (array_base s.p.program a + y)) (Word.Back (answer_to point ds)) ∷ []) (ap (λ (i : Instr). i.firsts) same_ins ∙ A.firsts)
        ∙ (λ t. token (cell_to (Some (base_same a (inl k) t + y)) (sym (store_is ∙ ap store_kind k) t) (second_of held))
        (Word.Back (Cont.Frame frame (here + A.dest.ahead) A.dest.port)) ∷ [])
    made_is (Outside w) = ap (λ ds. to_each point (Word.Val w) (take 1 ds)) (ap (λ (i : Instr). i.firsts) same_ins ∙ A.firsts)

    fetch_asks : Followed s
    unfolding asks
    fetch_asks =
        finish (Ops.Fetch a) (A.op_is ∙ ap kind_op k) refl (λ m h. absurd (cc)) (λ t h. inr h) asks X
        (index_same a v held ins.origin (inl k) (ap value_in value.1) ((stood l refl).is.origin ∙ origin_is s.fl c n block)) (did.0 ∙ made_is X)

  -- A STORE
  module _ (a : ℕ) (k : A.line.kind ≡ Kinds.Store a) where
    two : in_slot s.fl l.i ≡ true
    two = ap (test_of pair_kind) A.at ∙ ap pair_kind k

    op_store : op_of s.w.variant (site_in s.fl s.w c) (Line n) ≡ Ops.Store a
    op_store = ap op_for A.at ∙ ap kind_op k

    abbrev is : is_instr (Line n) ≡ true
    is = Pairs.is l two refl

    abbrev pair : Instr
    pair = instr l is

    same_pair : pair ≡ A.point.instr
    same_pair = same_Some pair A.point.instr (sym (stood l is).at ∙ A.point.at)

    module _ (sec : Second l two refl) (v u : Value) (left : sec.left ≡ Datum v) (right : sec.right ≡ Datum u)
        (did : (s.event.made ≡ puts s.p.program point pair a u (index_in (array_len s.p.program a) v pair.origin))
        × (s.new.store ≡ with_slot s.m.store frame (slot_of s.fl s.w l.i) Empty)) where
      abbrev stored : List Value
      stored = value_in sec.left ∷ (if is_store b n then value_in sec.right ∷ [] else [])

      second_is : second_of stored ≡ u
      second_is = ap (λ (t : Bool). first_of (if t then value_in sec.right ∷ [] else [])) (store_is ∙ ap store_kind k) ∙ ap value_in right

      puts_asks : Asks l n refl cell
      puts_asks = record {
        f = firing_of l 0 sec.left sec.right;
        before = sec.before;
        kept = sec.j ∷ [];
        later = sec.later;
        waiting = sec.waiting;
        paired = λ j h. subst (λ (j : Item). in_slot s.fl j ≡ true) (contains_one sec.j j h) sec.paired;
        took = at_last sec.took (sym (takes_two l refl two refl sec.left sec.right));
        part = refl;
        held = stored;
        makes_is = if_true (is_cell b n) _ _ cell;
        slots =
            subst (λ (x : Store). InSlots (λ (i : Item). frame_of s.fl net.fired i.context) (slot_of s.fl s.w)
            (λ (i : Item). on_side i.inlet.port (word_of s.fl s.p s.w net.fired i.word)) old.base (only (in_slot s.fl) (sec.before ++ sec.later)) x.slots)
            (sym did.1) sec.slots;
        stays = stays_with l frame (slot_of s.fl s.w l.i) Empty did.1;
        free = free_of l is (dyadic_grants pair.op (dyadic l two refl)) (ap releases ((stood l is).is.op ∙ op_store));
      }

      puts_is : (y : Indexed) → puts s.p.program point pair a u y ≡ meant_by (first_cell s.fl (array_at s.fl c n)) (is_store b n) (second_of stored) y
      puts_is (Place y) =
          ap (λ ds. token (To.Store (array_base s.p.program a + y) u) (Word.Back (answer_to point ds)) ∷ []) (ap (λ (i : Instr). i.firsts) same_pair ∙ A.firsts)
          ∙ (λ t. token (cell_to (Some (base_same a (inr k) t + y)) (sym (store_is ∙ ap store_kind k) t) (sym second_is t))
          (Word.Back (Cont.Frame frame (here + A.dest.ahead) A.dest.port)) ∷ [])
      puts_is (Outside w) = ap (λ ds. to_each point (Word.Val w) (take 1 ds)) (ap (λ (i : Instr). i.firsts) same_pair ∙ A.firsts)

      store_puts : Followed s
      unfolding puts_asks
      store_puts =
          let X = index_in (array_len s.p.program a) v pair.origin in
          finish (Ops.Store a) (A.op_is ∙ ap kind_op k) refl (λ m h. absurd (cc)) (λ t h. inr h) puts_asks X
          (index_same a v stored pair.origin (inr k) (ap value_in left) ((stood l is).is.origin ∙ origin_is s.fl c n block)) (did.0 ∙ puts_is X)

    by_words : (sec : Second l two refl) (x y : Note) → sec.left ≡ x → sec.right ≡ y
        → Fires s.m.store frame (Some (slot_of s.fl s.w l.i)) (fires Empty (fire_two s.p.program point pair (Ops.Store a) (W x) (W y))) s.event.made s.new.store
        → Followed s
    by_words sec (Datum v) (Datum u) x y m = store_puts sec v u x y m
    by_words sec (Datum v) (FrameOf q) x y m = absurd m
    by_words sec (Datum v) (BackTo q r) x y m = absurd m
    by_words sec (Datum v) ToHost x y m = absurd m
    by_words sec (FrameOf q) r x y m = absurd m
    by_words sec (BackTo q z) r x y m = absurd m
    by_words sec ToHost r x y m = absurd m

    store_asks : Followed s
    store_asks = pair_follows l refl two refl (λ sec. by_words sec sec.left sec.right refl refl (both l refl two refl sec (Ops.Store a) op_store))

  -- A NODE WITH A CELL
  pub line_asks : Followed s
  line_asks = by_kind A.line.kind refl (sym (ap (test_of cell_kind) A.at) ∙ cell)
    where
      by_kind : (q : Kind ℕ) → A.line.kind ≡ q → cell_kind A.line.kind ≡ true → Followed s
      by_kind (Kinds.Fetch a) k h = fetch_asks a k
      by_kind (Kinds.Store a) k h = store_asks a k
      by_kind q k h = absurd (true≢false (sym h ∙ ap cell_kind k))
