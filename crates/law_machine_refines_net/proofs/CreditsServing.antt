-- A turn gives its credit back to a turn that waits for one.
use Rattle.std.proofs.Common.{◌≡◌, ℕ, ◌+◌, Bool, true, false, List, [], ◌∷◌, ◌++◌, refl, sym, ap, ◌∙◌, subst, inl, inr, ◌⊎◌, arith, true≢false, Some, None}
use Rattle.std.proofs.Common.{nat_lt, pos, if◌then◌else◌}
use Rattle.std.specs.Prelude.{IsPermutation, Contains}
use Rattle.std.proofs.lemmas.List.Elements.{Contains-append_left, Contains-append_right, Contains-append_cases}
use Rattle.std.proofs.lemmas.List.Sorted.{IsPermutation-middle, IsPermutation-trans, IsPermutation-sym, IsPermutation-append_right, Contains-permutation}
use Rattle.std.proofs.lemmas.List.Sorted.{IsPermutation-refl}
use Rattle.lemmas.proofs.Permutations.{permutation_same}
use Rattle.lemmas.proofs.Contains.{contains_cases, contains_head, contains_tail}
use Rattle.tags.specs.declared.value.Value.TheVariants.{Int}
use Rattle.tags.specs.declared.token.Port.TheVariants.{Left}
use Rattle.tags.specs.declared.token.Cont.{Cont}
use Rattle.tags.specs.declared.token.Word.{Word}
use Rattle.tags.specs.declared.slot.SlotState.TheVariants.{Waiter}
use Rattle.tags.specs.declared.slot.SlotState.TheVariants as Slot
use Rattle.semantics.specs.Meaning.{Context}
use Rattle.law_confluence.proofs.Orders.{shuffled, Part as Piece, ◌⊕◌}
use Rattle.law_net.specs.ContextsParts.{Part, Opener, Giver, Taker, Drainer, Drained, NextFramer, inlet, signal, BackTo, Item, item, Firing, spot_of}
use Rattle.law_net.specs.ContextsBlocks.{is_loop}
use Rattle.law_net.specs.Contexts.{block_in}
use Rattle.law_net.specs.ContextsCredits.{Ledger, slot_for}
use Rattle.law_net.specs.ContextsFirings.{Config, takes, makes, times, frame_at, turn_before}
use Rattle.law_net.specs.ContextsMirror.{only, named_by, frame_of, ip_of, word_of, is_item_at, items_at, cont_in, conts_of, first_cont, ledger, granted_of}
use Rattle.law_net.specs.ContextsMirror.{KeepsCredits, WasUsed, is_in_cell}
use Rattle.law_net.proofs.WiredNets.{only_contains}
use Rattle.law_net.proofs.CreditsTurns.{left_at}
use Rattle.law_net.proofs.Credits.{none_passes}
use Rattle.law_net.proofs.RunsMatching.{word_at}
use Rattle.law_net.proofs.RunsPigeons.{items_total, item_there, some_item}
use Rattle.law_machine_refines_net.specs.MovesCases.{Taking, IsCaused, net_of, Followed, is_quiet}
use Rattle.law_machine_refines_net.proofs.MovesLists.{kept_but, count_but, taken_out, contains_one}
use Rattle.law_machine_refines_net.proofs.MovesStill.{times_no}
use Rattle.law_machine_refines_net.proofs.MovesAccount.{Spares}
use Rattle.law_machine_refines_net.proofs.MovesFitted.{bare, bare_item, waiting_here, among, IsHere}
use Rattle.law_machine_refines_net.proofs.MovesSpots.{one_waits}
use Rattle.law_machine_refines_net.proofs.CreditsLenders.{ATaker, LGiver, LTaker}
use Rattle.law_machine_refines_net.proofs.CreditsBooks as Books
use Rattle.law_machine_refines_net.proofs.CreditsBooks.{gone, then_fires, one_lends, fires_follow}
use Rattle.law_machine_refines_net.proofs.CreditsLedgers.{free_slot, waiter_slot, times_more, item_more, item_else, item_not, some_yes}
use Rattle.law_machine_refines_net.proofs.CreditsStanding.{was_there, waited_there, spot_here, meet_not}
use Rattle.law_machine_refines_net.proofs.CreditsGiving.{l, opened, over_is, given_is, kept, not_drainer, not_taker, Gives, did, grants, releases}

module _ (s : Taking) (n : ℕ) (e : s.i.inlet.part ≡ Giver n) (free : (Books.book s n (l s n e)).draining ≡ false) where
  abbrev net : Config
  net = net_of s

  abbrev c : Context
  c = s.i.context

  abbrev loop : is_loop (block_in s.fl s.i.context) n ≡ true
  loop = l s n e

  abbrev k : ℕ
  k = Books.bound s n loop

  abbrev log : Ledger
  log = Books.book s n loop

  held : KeepsCredits s.fl s.p s.w net c n
  held = kept s n e

  -- THE TURN j that waits
  module _ (j : Item) (waits : Contains net.waiting j) (jc : j.context ≡ c) (jp : j.inlet.part ≡ Taker n) where
    abbrev turn : Context
    turn = turn_before c n j.inlet.way

    abbrev cont : Cont
    cont = Cont.Frame (frame_of s.fl net.fired turn) (ip_of s.fl s.p s.w turn NextFramer) Left

    here : IsHere s j
    here = waiting_here s j waits

    port : j.inlet.port ≡ Left
    port = left_at s.fl s.p s.w s.inputs s.q s.m s.good s.keeps c (Books.con s n loop) n loop j (among s j here) jc (Taker n) jp refl

    word_is : j.word ≡ BackTo turn (inlet NextFramer Left 0)
    word_is = word_at s.fl s.p s.w s.inputs s.q s.m s.good s.keeps j (among s j here) c jc (Taker n) jp Left port

    pub word : word_of s.fl s.p s.w net.fired j.word ≡ Word.Back cont
    word = ap (word_of s.fl s.p s.w net.fired) word_is

    way_is : j.inlet.way ≡ granted_of net c n
    way_is = held.takes j here jc jp

    -- all turns that ask are this one
    same_turn : (i : Item) → IsHere s i → i.context ≡ c → i.inlet.part ≡ Taker n → spot_of i ≡ spot_of j
    same_turn i h a b =
        spot_here s n loop i h a (Taker n) b refl j.inlet.way (held.takes i h a b ∙ sym way_is)
        ∙ sym (spot_here s n loop j here jc (Taker n) jp refl j.inlet.way refl)

    no_drain : (i : Item) → IsHere s i → i.context ≡ c → i.inlet.part ≡ Drainer n → ⊥
    no_drain i h a b =
        let none = (held.drains i h a b).1 in let t = items_total c (Taker n) (net.pending ++ net.waiting) in
        let o = some_item c (Taker n) (net.pending ++ net.waiting) j here jc jp in omega (arith, none, t, o)

    -- WHERE IT WAITS
    module _ (before after : List Item) (order : net.waiting ≡ before ++ (j ∷ after)) where
      abbrev left : List Item
      left = s.i ∷ (before ++ after)

      abbrev f : Firing
      f = record { context = c; part = Taker n; way = j.inlet.way; left = j.word; right = signal; frame = 0; answer = Int (pos 0); turns = 0; operands = [] }

      abbrev d : Config
      d = gone s n loop f left

      abbrev book : Ledger
      book = ledger s.fl s.p s.w d c n

      abbrev asks : Item
      asks = item turn (inlet NextFramer Left 0) signal

      j_is : j ≡ item c (inlet (Taker n) Left j.inlet.way) j.word
      j_is = bare_item j (bare s j here (ap is_in_cell jp)) (Taker n) Left j.inlet.way jp port refl
          ∙ (λ t. item (jc t) (inlet (Taker n) Left j.inlet.way) j.word)

      perm : IsPermutation net.waiting (j ∷ (before ++ after))
      perm = subst (λ y. IsPermutation y (j ∷ (before ++ after))) (sym order) (IsPermutation-middle before j after)

      took : IsPermutation (s.i ∷ net.waiting) (takes s.fl f ++ left)
      took =
          let a : IsPermutation (s.i ∷ net.waiting) ((s.i ∷ []) ++ ((j ∷ []) ++ (before ++ after))) = IsPermutation-append_right (s.i ∷ []) _ _ perm in
          let b = IsPermutation-trans _ _ _ a (shuffled ((s.i ∷ []) ∷ (j ∷ []) ∷ (before ++ after) ∷ []) (Piece 0 ⊕ (Piece 1 ⊕ Piece 2))
          (Piece 1 ⊕ (Piece 0 ⊕ Piece 2)) refl) in
          subst (λ z. IsPermutation (s.i ∷ net.waiting) (z ∷ left)) j_is b

      rest_waits : (i : Item) → Contains (before ++ after) i → Contains net.waiting i
      rest_waits i h = Contains-permutation _ _ i (IsPermutation-sym _ _ perm) (contains_tail j (before ++ after) i h)

      left_all : (i : Item) → Contains left i → Contains (s.i ∷ net.waiting) i
      left_all i h = pick (contains_cases s.i (before ++ after) i h)
        where
          pick : (s.i ≡ i) ⊎ Contains (before ++ after) i → Contains (s.i ∷ net.waiting) i
          pick (inl q) = subst (λ y. Contains (s.i ∷ net.waiting) y) q (contains_head s.i net.waiting)
          pick (inr h) = contains_tail s.i net.waiting i (rest_waits i h)

      left_here : (i : Item) → Contains (s.others ++ left) i → IsHere s i
      left_here i h = waited_there s i (pick (Contains-append_cases s.others left i h))
        where
          pick : Contains s.others i ⊎ Contains left i → Contains (s.others ++ (s.i ∷ net.waiting)) i
          pick (inl h) = Contains-append_left s.others (s.i ∷ net.waiting) i h
          pick (inr h) = Contains-append_right s.others (s.i ∷ net.waiting) i (left_all i h)

      -- no other turn asks
      none_left : (i : Item) → i.context ≡ c → i.inlet.part ≡ Taker n → Contains left i → ⊥
      none_left i a b h = pick (contains_cases s.i (before ++ after) i h)
        where
          pick : (s.i ≡ i) ⊎ Contains (before ++ after) i → ⊥
          pick (inl q) = not_taker s n e (ap (λ (i : Item). i.inlet.part) q ∙ b)
          pick (inr h) = one_waits s.fl s.w s.inputs net s.keeps.sound before after j order i h (same_turn i (waiting_here s i (rest_waits i h)) a b)

      no_other : (i : Item) → i.context ≡ c → i.inlet.part ≡ Taker n → Contains (s.others ++ left) i → ⊥
      no_other i a b h = pick (Contains-append_cases s.others left i h)
        where
          pick : Contains s.others i ⊎ Contains left i → ⊥
          pick (inr o) = none_left i a b o
          pick (inl o) = meet_not s i j o (contains_tail s.i net.waiting j waits) (same_turn i (left_here i h) a b)

      spared : (test : Item → Bool) → Spares s (Books.Lent s n loop) test → only test left ≡ only test (s.i ∷ net.waiting)
      spared test spares =
          sym (ap (λ l. only test (s.i ∷ l)) order
          ∙ kept_but test (s.i ∷ before) (j ∷ []) after (λ i h. ap test (sym (contains_one j i h)) ∙ spares j (jc, LTaker jp)))

      -- THE LEDGER
      counted : (r : Part) → (j.inlet.part ≡ r → ⊥) → items_at c r (before ++ after) ≡ items_at c r net.waiting
      counted r differ =
          sym (ap (items_at c r) order ∙ count_but (is_item_at c r) before (j ∷ []) after
          (λ i h. ap (is_item_at c r) (sym (contains_one j i h)) ∙ item_not c r j differ))

      opened_now : times c (Opener n) d.fired ≡ times c (Opener n) net.fired
      opened_now = times_no c (Opener n) f net.fired refl

      granted_now : granted_of d c n ≡ granted_of net c n + 1
      granted_now = let a = opened_now in let b = times_more c (Taker n) f net.fired refl refl in omega (arith, a, b)

      over_now : book.over ≡ false
      over_now = ap (λ x. nat_lt 0 x) (times_no c (Drained n) f net.fired refl) ∙ over_is s n e

      given_now : book.given ≡ log.given + 1
      given_now =
          let a : book.given ≡ items_at c (Giver n) left = ap (λ (o : Bool). if o then granted_of d c n else items_at c (Giver n) left) over_now in
          let b = item_more c (Giver n) s.i (before ++ after) refl e in
          let o = counted (Giver n) (λ h. let z : Taker n ≡ Giver n = sym jp ∙ h in absurd (cc)) in let y = given_is s n e in omega (arith, a, b, o, y)

      draining_now : book.draining ≡ false
      draining_now =
          ap (λ x. nat_lt 0 x) (item_else c (Drainer n) s.i (before ++ after) (not_drainer s n e)
          ∙ counted (Drainer n) (λ h. let z : Taker n ≡ Drainer n = sym jp ∙ h in absurd (cc))) ∙ free

      waiter_now : book.waiter ≡ None
      waiter_now =
          ap (λ (items : List Item). first_cont (conts_of s.fl s.p s.w d.fired items))
          (none_passes (is_item_at c (Taker n)) left (λ i h o. let a = item_there c (Taker n) i o in none_left i a.0 a.1 h))

      one_made : (i : Item) → Contains (makes s.fl s.w f) i → asks ≡ i
      one_made i h = contains_one asks i h

      of_made : (P : Item → Type 0) → P asks → (i : Item) → Contains (makes s.fl s.w f) i → P i
      of_made P h i c = subst P (one_made i c) h

      was_asked : WasUsed s.p s.q.steps (frame_of s.fl net.fired turn) (ip_of s.fl s.p s.w turn NextFramer) Left
      was_asked =
          let zero_is : ip_of s.fl s.p s.w turn NextFramer + 0 ≡ ip_of s.fl s.p s.w turn NextFramer = omega arith in
          subst (λ ip. WasUsed s.p s.q.steps (frame_of s.fl net.fired turn) ip Left) zero_is
          (s.keeps.tracks.asked j turn (inlet NextFramer Left 0) 0 here word_is (omega arith))

      was_left : (i : Item) → is_quiet i.inlet.part ≡ false → Contains (d.pending ++ d.waiting) i → Contains (s.others ++ left) i
      was_left i o h = was_there s (makes s.fl s.w f) left (of_made (λ (j : Item). is_quiet j.inlet.part ≡ true) refl) i o h

      module _ (waiter : log.waiter ≡ Some cont) where
        full : log.granted ≡ log.given + k
        full = (held.law.waits cont waiter).0

        keeps : KeepsCredits s.fl s.p s.w d c n
        keeps = record {
          law = record {
            given = let a = granted_now in let b = given_now in let h = held.law.given in omega (arith, a, b, h);
            bound = let a = granted_now in let b = given_now in let h = held.law.bound in omega (arith, a, b, h);
            waits = λ y h. let z : None ≡ Some y = sym waiter_now ∙ h in absurd (cc);
            drains = λ h o. absurd (true≢false (sym h ∙ draining_now));
          };
          takes = λ i h a b. absurd (no_other i a b (was_left i (ap is_quiet b) h));
          drains = λ i h a b. absurd (no_drain i (left_here i (was_left i (ap is_quiet b) h)) a b);
          gives = λ i h a b. let o = held.gives i (left_here i (was_left i (ap is_quiet b) h)) a b in let y = granted_now in omega (arith, o, y);
        }

        waiter_is : slot_for k log ≡ Waiter cont
        waiter_is = waiter_slot k log (some_yes (times c (Opener n) net.fired) (opened s n e)) (over_is s n e) cont free waiter

        m : Gives s n e (Waiter cont)
        m = did s n e (Waiter cont) waiter_is

        slot_now : slot_for k book ≡ Slot.Credits 0
        slot_now =
            free_slot k book (some_yes (times c (Opener n) d.fired) (let a = opened_now in let b = opened s n e in omega (arith, a, b))) over_now draining_now
            waiter_now
            ∙ ap (λ x. Slot.Credits x) (let a = granted_now in let b = given_now in let h = full in omega (arith, a, b, h))

        serves : Followed s
        serves = fires_follow s n loop f left (record {
          account = then_fires s n loop f left (LGiver e) tt took spared;
          pending = IsPermutation-refl (makes s.fl s.w f ++ s.others);
          lenders = one_lends s n loop f left refl (ATaker refl);
          quiet = of_made (λ (j : Item). is_quiet j.inlet.part ≡ true) refl;
          signals = of_made (λ (j : Item). j.word ≡ signal) refl;
          known =
              of_made (λ (j : Item). (g : ℕ) × (frame_at s.fl net.fired j.context ≡ Some g))
              (s.keeps.tracks.stands.named j turn (among s j here) (ap named_by word_is));
          caused = λ i h a o. of_made (IsCaused s) (inr was_asked) i h;
          event = permutation_same _ _ m.0;
          state = Slot.Credits 0;
          store = m.1;
          slot_now = sym slot_now;
          keeps = keeps;
          grants = 1;
          granted_now = granted_now;
          granted = grants s n e (Waiter cont) waiter_is;
          released = releases s n e;
        })

  -- WHAT WAITS for a credit is a turn
  pub served_follows : (x : Cont) → log.waiter ≡ Some x → Followed s
  served_follows x waiter = go (only (is_item_at c (Taker n)) net.waiting) refl waiter
    where
      go : (items : List Item) → only (is_item_at c (Taker n)) net.waiting ≡ items → first_cont (conts_of s.fl s.p s.w net.fired items) ≡ Some x → Followed s
      go [] h q = let z : None ≡ Some x = q in absurd (cc)
      go (j ∷ items) h q =
          let a = only_contains (is_item_at c (Taker n)) net.waiting j (subst (λ y. Contains y j) (sym h) (contains_head j items)) in
          let at = item_there c (Taker n) j a.1 in
          let b = taken_out net.waiting j a.0 in
          let first : first_cont (conts_of s.fl s.p s.w net.fired (j ∷ items)) ≡ Some (cont j a.0 at.0 at.1) =
          ap (λ (y : Word). first_cont (cont_in y ++ conts_of s.fl s.p s.w net.fired items)) (word j a.0 at.0 at.1) in
          serves j a.0 at.0 at.1 b.0 b.1 b.2 (waiter ∙ sym q ∙ first)
