-- Where two words meet: the first one waits, and the second one finds it.
use Rattle.std.proofs.Common.{◌≡◌, ℕ, true, List, [], ◌∷◌, ◌++◌, refl, sym, ap, ◌∙◌, subst, inl, inr, ◌⊎◌, Some}
use Rattle.std.specs.Prelude.{IsPermutation, Contains}
use Rattle.std.proofs.lemmas.List.Elements.{Contains-append_right}
use Rattle.std.proofs.lemmas.List.Sorted.{IsPermutation-sym, IsPermutation-middle, Contains-permutation}
use Rattle.lemmas.proofs.Permutations.{permutation_same}
use Rattle.lemmas.proofs.Contains.{contains_cases, contains_head, contains_tail}
use Rattle.tags.specs.declared.token.Port.{Port}
use Rattle.tags.specs.declared.token.Port.TheVariants.{Left, Right}
use Rattle.tags.specs.declared.token.Word.{Word}
use Rattle.tags.specs.declared.slot.SlotState.{SlotState}
use Rattle.tags.specs.declared.slot.SlotState.TheVariants.{Empty}
use Rattle.semantics.specs.declared.program.Op.{Op}
use Rattle.semantics.specs.declared.program.Op.TheVariants as Ops
use Rattle.semantics.specs.Rule.{fires, fire_two, meets}
use Rattle.semantics.specs.Machine.{Fires, with_slot}
use Rattle.semantics.specs.Wired.{is_dyadic}
use Rattle.semantics.specs.Credits.{released_by}
use Rattle.law_confluence.proofs.NetSlots.{InSlots, AtSlot, slots_drop}
use Rattle.law_confluence.proofs.Orders.{at_first, at_last, shuffled, Part as Piece, ◌⊕◌, flat_map-IsPermutation}
use Rattle.law_net.specs.ContextsParts.{inlet, Note, Item, item}
use Rattle.law_net.specs.Contexts.{block_in, site_in}
use Rattle.law_net.specs.ContextsFirings.{Config}
use Rattle.law_net.specs.ContextsMirror.{is_instr, frame_of, word_of, on_side, in_slot, slot_of, only, Mirrors}
use Rattle.law_net.proofs.ContextsBlocks.{waits_dyadic}
use Rattle.law_machine_refines_net.specs.MovesCases.{Taking, net_of, IsFree, Halts}
use Rattle.law_machine_refines_net.proofs.MovesLists.{kept_in, kept_out, kept_yes, taken_out, contains_one}
use Rattle.law_machine_refines_net.proofs.MovesSpots.{one_waits}
use Rattle.law_machine_refines_net.proofs.MovesFitted.{IsHere, bare, bare_item, one_part, no_base, waiting_here, taken_here, pair_instr, instr_held}
use Rattle.law_machine_refines_net.proofs.SendsRules.{at, instr, stood, word, happens_pair, dyadic_grants, free_from}

-- what lies in a slot shows its side
side_same : (q p : Port) (k l : Word) → on_side q k ≡ on_side p l → q ≡ p
side_same Left Left k l e = refl
side_same Right Right k l e = refl
side_same Left Right k l e = absurd (cc)
side_same Right Left k l e = absurd (cc)

-- THE WAYS of the words that meet at the item's part: the right one's is known where both have arrived
pub record Ways (s : Taking) (rw : ℕ) : Type 0 where
  pub on_left : (x : Item) → IsHere s x → x.context ≡ s.i.context → x.inlet.part ≡ s.i.inlet.part → x.inlet.port ≡ Left → x.inlet.way ≡ 0
  pub on_right : (x y : Item) → IsHere s x → IsHere s y → x.context ≡ s.i.context → y.context ≡ s.i.context → x.inlet.part ≡ s.i.inlet.part
      → y.inlet.part ≡ s.i.inlet.part → x.inlet.port ≡ Left → y.inlet.port ≡ Right → y.inlet.way ≡ rw
  pub one_way : (x y : Item) → IsHere s x → IsHere s y → x.context ≡ s.i.context → y.context ≡ s.i.context → x.inlet.part ≡ s.i.inlet.part
      → y.inlet.part ≡ s.i.inlet.part → x.inlet.port ≡ y.inlet.port → x.inlet.way ≡ y.inlet.way

-- TWO WORDS at one part
module _ (s : Taking) (two : in_slot s.fl s.i ≡ true) (rw : ℕ) (ways : Ways s rw) where
  abbrev net : Config
  net = net_of s

  abbrev old : Mirrors s.fl s.p s.w s.m net
  old = s.keeps.tracks.stands

  abbrev is : is_instr s.i.inlet.part ≡ true
  is = pair_instr (block_in s.fl s.i.context) s.i.inlet.part two

  abbrev F : Item → ℕ
  F i = frame_of s.fl net.fired i.context

  abbrev H : Item → SlotState
  H i = on_side i.inlet.port (word_of s.fl s.p s.w net.fired i.word)

  abbrev W : Note → Word
  W n = word_of s.fl s.p s.w net.fired n

  abbrev slot : ℕ
  slot = slot_of s.fl s.w s.i

  pub dyadic : is_dyadic (instr s is).op ≡ true
  dyadic = ap is_dyadic (stood s is).is.op ∙ waits_dyadic s.w.variant (site_in s.fl s.w s.i.context) s.i.inlet.part two

  abbrev Met : SlotState → Port → Type 0
  Met x q = Fires s.m.store (F s.i) (Some slot) (meets s.p.program (at s is) (instr s is) x q (word s is)) s.event.made s.new.store

  met : Met (s.m.store.slots (F s.i) slot) s.i.inlet.port
  met =
      subst (λ n. Fires s.m.store (F s.i) (Some n)
      (meets s.p.program (at s is) (instr s is) (s.m.store.slots (F s.i) n) s.i.inlet.port (word s is)) s.event.made s.new.store) (stood s is).is.slot
      (happens_pair s is dyadic)

  -- THE SECOND WORD: item j waited for it
  pub record Both : Type 0 where
    pub j : Item
    pub before : List Item
    pub later : List Item
    pub waiting : net.waiting ≡ before ++ (j ∷ later)
    pub paired : in_slot s.fl j ≡ true
    pub left : Note
    pub right : Note
    pub took : IsPermutation (s.i ∷ j ∷ []) (item s.i.context (inlet s.i.inlet.part Left 0) left ∷ item s.i.context (inlet s.i.inlet.part Right rw) right ∷ [])
    pub left_from : (a : Item) × Contains (s.i ∷ j ∷ []) a × (a.word ≡ left)
    pub fired : Fires s.m.store (F s.i) (Some slot)
        (fires Empty (fire_two s.p.program (at s is) (instr s is) (instr s is).op (W left) (W right))) s.event.made s.new.store
    pub slots : InSlots F (slot_of s.fl s.w) H old.base (only (in_slot s.fl) (before ++ later)) (with_slot s.m.store (F s.i) slot Empty).slots

  into_empty : (q : Port) → Met Empty q → (s.event.made ≡ []) × (s.new.store ≡ with_slot s.m.store (F s.i) slot (on_side q (word s is)))
  into_empty Left m = m
  into_empty Right m = m

  module _ (j : Item) (inside : Contains net.waiting j) (paired : in_slot s.fl j ≡ true) (same_frame : F j ≡ F s.i)
      (same_slot : slot_of s.fl s.w j ≡ slot) where
    same : (j.context ≡ s.i.context) × (j.inlet.part ≡ s.i.inlet.part)
    same = one_part s j s.i (waiting_here s j inside) (taken_here s) paired two same_frame same_slot

    holds : s.m.store.slots (F s.i) slot ≡ H j
    holds = sym (λ t. s.m.store.slots (same_frame t) (same_slot t)) ∙ old.slots.waits j (kept_in (in_slot s.fl) net.waiting j inside paired)

    mine_is : (q : Port) (t : ℕ) → s.i.inlet.port ≡ q → s.i.inlet.way ≡ t → s.i ≡ item s.i.context (inlet s.i.inlet.part q t) s.i.word
    mine_is q t e o = bare_item s.i (bare s s.i (taken_here s) (instr_held s.i.inlet.part is)) s.i.inlet.part q t refl e o

    its_is : (q : Port) (t : ℕ) → j.inlet.port ≡ q → j.inlet.way ≡ t → j ≡ item s.i.context (inlet s.i.inlet.part q t) j.word
    its_is q t e o =
        bare_item j (bare s j (waiting_here s j inside) (instr_held j.inlet.part (pair_instr (block_in s.fl j.context) j.inlet.part paired))) s.i.inlet.part q t
        same.1 e o
        ∙ ap (λ c. item c (inlet s.i.inlet.part q t) j.word) same.0

    module _ (before later : List Item) (split : net.waiting ≡ before ++ (j ∷ later)) where
      still_waits : (x : Item) → Contains (before ++ later) x → Contains net.waiting x
      still_waits x c =
          subst (λ l. Contains l x) (sym split)
          (Contains-permutation _ _ x (IsPermutation-sym _ _ (IsPermutation-middle before j later)) (contains_tail j (before ++ later) x c))

      apart : (x : Item) → Contains (only (in_slot s.fl) (before ++ later)) x → F j ≡ F x → slot_of s.fl s.w j ≡ slot_of s.fl s.w x → ⊥
      apart x c f d =
          let k = kept_out (in_slot s.fl) (before ++ later) x c in
          let h = still_waits x k.0 in
          let o = one_part s j x (waiting_here s j inside) (waiting_here s x h) paired k.1 f d in
          let a = old.slots.waits j (kept_in (in_slot s.fl) net.waiting j inside paired) in
          let b = old.slots.waits x (kept_in (in_slot s.fl) net.waiting x h k.1) in
          let port = side_same j.inlet.port x.inlet.port _ _ (sym a ∙ (λ t. s.m.store.slots (f t) (d t)) ∙ b) in
          let way : j.inlet.way ≡ x.inlet.way =
          ways.one_way j x (waiting_here s j inside) (waiting_here s x h) same.0 (sym o.0 ∙ same.0) same.1 (sym o.1 ∙ same.1) port in
          one_waits s.fl s.w s.inputs net s.keeps.sound before later j split x k.0
          (sym (λ t. record { context = o.0 t; inlet = record { part = o.1 t; port = port t; way = way t } }))

      left_over : InSlots F (slot_of s.fl s.w) H old.base (only (in_slot s.fl) (before ++ later)) (with_slot s.m.store (F s.i) slot Empty).slots
      left_over =
          let perm : IsPermutation (only (in_slot s.fl) net.waiting) (j ∷ only (in_slot s.fl) (before ++ later)) =
          at_first (ap (only (in_slot s.fl)) split)
          (at_last (flat_map-IsPermutation _ _ _ (IsPermutation-middle before j later)) (kept_yes (in_slot s.fl) j (before ++ later) paired)) in
          let none : old.base (F j) (slot_of s.fl s.w j) ≡ Empty = no_base s j (waiting_here s j inside) paired in
          let k = slots_drop F (slot_of s.fl s.w) H old.base j (only (in_slot s.fl) net.waiting)
          (only (in_slot s.fl) (before ++ later)) perm apart none s.m.store old.slots in
          subst (λ n. InSlots F (slot_of s.fl s.w) H old.base (only (in_slot s.fl) (before ++ later)) (with_slot s.m.store (F s.i) n Empty).slots) same_slot
          (subst (λ n. InSlots F (slot_of s.fl s.w) H old.base (only (in_slot s.fl) (before ++ later)) (with_slot s.m.store n (slot_of s.fl s.w j) Empty).slots)
          same_frame k)

      partner : (q p : Port) → s.i.inlet.port ≡ q → j.inlet.port ≡ p → Met (on_side p (W j.word)) q → Both
      partner Left Left a b m = absurd m
      partner Right Right a b m = absurd m
      partner Left Right a b m =
          let x = ways.on_left s.i (taken_here s) refl refl a in
          let y = ways.on_right s.i j (taken_here s) (waiting_here s j inside) refl same.0 refl same.1 a b in record {
            j = j;
            before = before;
            later = later;
            waiting = split;
            paired = paired;
            left = s.i.word;
            right = j.word;
            took = permutation_same _ _ (λ t. mine_is Left 0 a x t ∷ its_is Right rw b y t ∷ []);
            left_from = (s.i, contains_head s.i (j ∷ []), refl);
            fired = m;
            slots = left_over;
          }
      partner Right Left a b m =
          let x = ways.on_left j (waiting_here s j inside) same.0 same.1 b in
          let y = ways.on_right j s.i (waiting_here s j inside) (taken_here s) same.0 refl same.1 refl b a in record {
            j = j;
            before = before;
            later = later;
            waiting = split;
            paired = paired;
            left = j.word;
            right = s.i.word;
            took = at_first (λ t. mine_is Right rw a y t ∷ its_is Left 0 b x t ∷ [])
                (shuffled ((item s.i.context (inlet s.i.inlet.part Right rw) s.i.word ∷ []) ∷ (item s.i.context (inlet s.i.inlet.part Left 0) j.word ∷ []) ∷ [])
                (Piece 0 ⊕ Piece 1) (Piece 1 ⊕ Piece 0) refl);
            left_from = (j, contains_tail s.i (j ∷ []) j (contains_head j []), refl);
            fired = m;
            slots = left_over;
          }

  -- nothing made: no turn released
  idle_free : s.event.made ≡ [] → IsFree s
  idle_free e =
      free_from s is (dyadic_grants (instr s is).op dyadic)
      (λ f base. subst (λ l. released_by (instr s is).op f base l ≡ 0) (sym e) (none (instr s is).op f base))
    where
      none : (op : Op) (f base : ℕ) → released_by op f base [] ≡ 0
      none (Ops.Release o) f base = refl
      none op f base = refl

  -- THE FIRST WORD, OR THE SECOND
  pub both_cases : Halts s ⊎ Both
  both_cases = pick (old.slots.empty (F s.i) slot)
    where
      pick : (s.m.store.slots (F s.i) slot ≡ old.base (F s.i) slot) ⊎ AtSlot F (slot_of s.fl s.w) H old.base (only (in_slot s.fl) net.waiting) (F s.i) slot
          → Halts s ⊎ Both
      pick (inl e) =
          let none = e ∙ no_base s s.i (taken_here s) two in
          let m = into_empty s.i.inlet.port (subst (λ x. Met x s.i.inlet.port) none met) in
          inl (record { slot = two; none = m.0; empty = none; store = m.1; free = idle_free m.0 })
      pick (inr (j, c, f, q)) =
          let k = kept_out (in_slot s.fl) net.waiting j c in
          let o = taken_out net.waiting j k.0 in
          inr (partner j k.0 k.1 f q o.0 o.1 o.2 s.i.inlet.port j.inlet.port refl refl (subst (λ x. Met x s.i.inlet.port) (holds j k.0 k.1 f q) met))

  module _ (sec : Both) where
    among_both : (a : Item) → Contains (s.i ∷ sec.j ∷ []) a → IsHere s a
    among_both a c = pick (contains_cases s.i (sec.j ∷ []) a c)
      where
        pick : (s.i ≡ a) ⊎ Contains (sec.j ∷ []) a → IsHere s a
        pick (inl e) = subst (IsHere s) e (taken_here s)
        pick (inr d) =
            subst (IsHere s) (contains_one sec.j a d)
            (waiting_here s sec.j (subst (λ l. Contains l sec.j) (sym sec.waiting)
            (Contains-append_right sec.before (sec.j ∷ sec.later) sec.j (contains_head sec.j sec.later))))

    abbrev left_one : Item
    left_one = item s.i.context (inlet s.i.inlet.part Left 0) sec.left

    abbrev right_one : Item
    right_one = item s.i.context (inlet s.i.inlet.part Right rw) sec.right

    pub left_here : IsHere s (item s.i.context (inlet s.i.inlet.part Left 0) sec.left)
    left_here = among_both left_one (Contains-permutation _ _ left_one (IsPermutation-sym _ _ sec.took) (contains_head left_one (right_one ∷ [])))

    pub right_here : IsHere s (item s.i.context (inlet s.i.inlet.part Right rw) sec.right)
    right_here =
        among_both right_one (Contains-permutation _ _ right_one (IsPermutation-sym _ _ sec.took)
        (contains_tail left_one (right_one ∷ []) right_one (contains_head right_one [])))
