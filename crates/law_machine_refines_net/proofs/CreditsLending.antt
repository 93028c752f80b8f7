-- An event of a loop's credits: from what it changes of the loop's slot, that its account balances.
use Rattle.std.proofs.Common.{◌≡◌, ℕ, ◌+◌, ◌<◌, Bool, true, false, ◌&&◌, List, ◌++◌, map, refl, sym, ap, ◌∙◌, subst, inl, inr, ◌⊎◌, arith, true≢false, Some}
use Rattle.std.proofs.Common.{None, ◌==◌, if◌then◌else◌, eq-eqb, eqb-true}
use Rattle.std.specs.Prelude.{IsPermutation, Contains}
use Rattle.std.proofs.lemmas.Bool.{cases_eq, cases_Bool, false_from_ne_true}
use Rattle.std.proofs.lemmas.List.Elements.{Contains-append_cases}
use Rattle.std.proofs.lemmas.List.Sorted.{Contains-permutation}
use Rattle.lemmas.proofs.Bools.{first_of_and, second_of_and}
use Rattle.tags.specs.declared.slot.SlotState.{SlotState}
use Rattle.tags.specs.declared.slot.SlotState.TheVariants.{Empty}
use Rattle.semantics.specs.Meaning.{Context}
use Rattle.semantics.specs.Machine.{Store, with_slot}
use Rattle.semantics.specs.Holders.{Holder, same_holder}
use Rattle.semantics.specs.Credits.{granted_at, released_at}
use Rattle.semantics.proofs.Stores.{slot_filled}
use Rattle.law_confluence.proofs.NetSlots.{InSlots, with_base, slots_turn, slot_other}
use Rattle.law_confluence.specs.EquationsContexts.{same_context}
use Rattle.law_confluence.proofs.EquationsContexts.{same_context_is, same_itself}
use Rattle.law_net.specs.ContextsParts.{Part, Opener, Giver, Taker, Drainer, Drained, Landing, signal, Item, Firing}
use Rattle.law_net.specs.ContextsBlocks.{is_loop, waits_in, bound_at}
use Rattle.law_net.specs.Contexts.{block_in, code_in, wiring_in, or_zero, IsContext}
use Rattle.law_net.specs.ContextsCredits.{slot_for}
use Rattle.law_net.specs.ContextsFirings.{Config, frame_at}
use Rattle.law_net.specs.ContextsMirror.{frame_of, ip_of, word_of, token_of, on_side, in_slot, slot_of, only, is_in_cell, reads, is_item_at, items_at}
use Rattle.law_net.specs.ContextsMirror.{granted_of}
use Rattle.law_net.specs.ContextsMirror.{ledger, KeepsCredits, Mirrors, named_by, is_instr, is_entry_part}
use Rattle.law_net.proofs.RunsPigeons.{item_there}
use Rattle.law_net.proofs.RunsMatching.{wait_holds}
use Rattle.law_machine_refines_net.specs.MovesCases.{Taking, IsCaused, net_of, Followed, is_quiet}
use Rattle.law_machine_refines_net.proofs.MovesLists.{kept_out, count_none}
use Rattle.law_machine_refines_net.proofs.MovesSites.{Coded, coded}
use Rattle.law_machine_refines_net.proofs.MovesParts.{is_credit, quiet_calm, calm_item}
use Rattle.law_machine_refines_net.proofs.MovesAccount.{Account, Spares, none_renewed}
use Rattle.law_machine_refines_net.proofs.MovesFramed.{HandNone, frames_same, frames_stay}
use Rattle.law_machine_refines_net.proofs.MovesLoops.{Loop, Loops, IsLoopSlot, calm_books, idle_loop, still_loops}
use Rattle.law_machine_refines_net.proofs.MovesBalanced.{balanced}
use Rattle.law_machine_refines_net.proofs.MovesPlain.{words_stay, pool_of, tokens_of, sound_of, good_stay, requests_stay, readers_stay, memory_of_silent, Stays}
use Rattle.law_machine_refines_net.proofs.MovesPlain.{recalls}
use Rattle.law_machine_refines_net.proofs.MovesSettled.{made_but, meant_other, quiet_held}
use Rattle.law_machine_refines_net.proofs.MovesFitted.{code, there, framed, waiting_here, others_before, pair_instr}
use Rattle.law_machine_refines_net.proofs.Sends.{stays_with}
use Rattle.law_machine_refines_net.proofs.CreditsLenders.{IsLender, IsLoops, LGiver, LTaker, LDrainer, loops_asked, lender_hands, lender_renews, lender_silent}
use Rattle.law_machine_refines_net.proofs.CreditsLenders.{lender_idle}

-- a holder that is the same
same_holder_true : (h k : Holder) → same_holder h (Some k) ≡ true → h ≡ k
same_holder_true h k e =
    let a = eqb-true h.block k.block (first_of_and (h.block == k.block) (h.number == k.number) e) in
    let b = eqb-true h.number k.number (second_of_and (h.block == k.block) (h.number == k.number) e) in
    λ t. record { block = a t; number = b t }

module _ (s : Taking) (c : Context) (con : IsContext s.fl c) (n : ℕ) (l : is_loop (block_in s.fl c) n ≡ true) (g : ℕ)
    (at : frame_at s.fl (net_of s).fired c ≡ Some g) where
  abbrev net : Config
  net = net_of s

  abbrev old : Mirrors s.fl s.p s.w s.m net
  old = s.keeps.tracks.stands

  abbrev slot : ℕ
  slot = (wiring_in s.fl s.w c).slot (Opener n)

  abbrev place : Context → ℕ → Holder
  place x m = record { block = code_in s.fl s.w x; number = (wiring_in s.fl s.w x).slot (Opener m) }

  -- what waits for the loop's credits
  abbrev pub Kind : Item → Type 0
  Kind j = (j.context ≡ c) × IsLoops n j.inlet.part

  -- WHAT AN EVENT of the loop's credits does
  pub record Lends (d : Config) (new : List Firing) (made : List Item) : Type 0 where
    pub account : Account s Kind d new made
    pub pending : IsPermutation d.pending (made ++ s.others)
    pub lenders : (f : Firing) → Contains new f → (f.context ≡ c) × IsLender n f.part
    pub quiet : (j : Item) → Contains made j → is_quiet j.inlet.part ≡ true
    pub signals : (j : Item) → Contains made j → j.word ≡ signal
    pub known : (j : Item) → Contains made j → (h : ℕ) × (frame_at s.fl net.fired j.context ≡ Some h)
    pub caused : (j : Item) → Contains made j → (is_instr j.inlet.part ≡ true) → (is_entry_part (block_in s.fl j.context) j.inlet.part ≡ false) → IsCaused s j
    pub event : IsPermutation s.event.made (map (token_of s.fl s.p s.w net.fired) made)
    pub state : SlotState
    pub store : s.new.store ≡ with_slot s.m.store g slot state
    pub slot_now : state ≡ slot_for (bound_at (block_in s.fl c) n) (ledger s.fl s.p s.w d c n)
    pub keeps : KeepsCredits s.fl s.p s.w d c n
    pub grants : ℕ
    pub granted_now : granted_of d c n ≡ granted_of net c n + grants
    pub granted : (f : ℕ) (h : Holder) → granted_at s.p s.p.program f h s.m.store s.t.to
        ≡ (if (g == f) && same_holder h (Some (place c n)) then grants else 0)
    pub released : (f base : ℕ) → released_at s.p.program f base s.t.to s.event.made ≡ 0

  -- another loop or this one
  pub same_loop : (d : Context) (m : ℕ) → ((c ≡ d) × (n ≡ m)) ⊎ (d ≡ c → m ≡ n → ⊥)
  same_loop d m = pick (cases_Bool (same_context c d)) (cases_eq n m)
    where
      pick : (same_context c d ≡ true) ⊎ (same_context c d ≡ false) → (n ≡ m) ⊎ (n ≡ m → ⊥) → ((c ≡ d) × (n ≡ m)) ⊎ (d ≡ c → m ≡ n → ⊥)
      pick (inl e) (inl k) = inl (same_context_is c d e, k)
      pick a (inr k) = inr (λ x y. k (sym y))
      pick (inr e) b = inr (λ x y. true≢false (sym (ap (same_context c) x ∙ same_itself c) ∙ e))

  -- no other loop has its slot
  pub slots_apart : (d : Context) (m h : ℕ) → is_loop (block_in s.fl d) m ≡ true → frame_at s.fl net.fired d ≡ Some h → (d ≡ c → m ≡ n → ⊥) → g ≡ h
      → slot ≡ (wiring_in s.fl s.w d).slot (Opener m) → ⊥
  slots_apart d m h k f differ e q =
      let one : d ≡ c = old.apart d c g (f ∙ ap (λ x. Some x) (sym e)) at in
      let k' : is_loop (block_in s.fl c) m ≡ true = subst (λ (d : Context). is_loop (block_in s.fl d) m ≡ true) one k in
      let q' : slot ≡ (wiring_in s.fl s.w c).slot (Opener m) = subst (λ (d : Context). slot ≡ (wiring_in s.fl s.w d).slot (Opener m)) one q in
      let z : Opener n ≡ Opener m = (coded_here c con).laid.holders (Opener n) (Opener m) l k' refl refl q' in
      let y : m ≡ n = cc in differ one y
    where
      coded_here : (c : Context) → IsContext s.fl c → Coded s.fl s.p s.w s.good.wired c
      coded_here c h = coded s.fl s.p s.w s.good.wired c h

  -- no word that waits for another is in it
  none_there : (j : Item) → Contains (only (in_slot s.fl) net.waiting) j → g ≡ frame_of s.fl net.fired j.context → slot ≡ slot_of s.fl s.w j → ⊥
  none_there j h e q =
      let o = kept_out (in_slot s.fl) net.waiting j h in
      let a = waiting_here s j o.0 in
      let f = framed s j a in
      let x : frame_of s.fl net.fired j.context ≡ f.0 = ap or_zero f.1 in
      let one : c ≡ j.context = old.apart c j.context f.0 (at ∙ ap (λ y. Some y) (e ∙ x)) f.1 in
      let k : is_loop (block_in s.fl j.context) n ≡ true = subst (λ (d : Context). is_loop (block_in s.fl d) n ≡ true) one l in
      let q' : (wiring_in s.fl s.w j.context).slot (Opener n) ≡ slot_of s.fl s.w j =
      subst (λ (d : Context). (wiring_in s.fl s.w d).slot (Opener n) ≡ slot_of s.fl s.w j) one q in
      let r = j.inlet.part in
      let same = (code s j a).laid.holders (Opener n) r k (there s j a (pair_instr (block_in s.fl j.context) r o.1)) refl
      (wait_holds (block_in s.fl j.context) r o.1) q' in
      true≢false (sym o.1 ∙ ap (waits_in (block_in s.fl j.context)) (sym same))

  spares_slots : Spares s Kind (in_slot s.fl)
  spares_slots j (a, LGiver e) = ap (waits_in (block_in s.fl j.context)) e
  spares_slots j (a, LTaker e) = ap (waits_in (block_in s.fl j.context)) e
  spares_slots j (a, LDrainer e) = ap (waits_in (block_in s.fl j.context)) e

  spares_cell : (x : ℕ) → Spares s Kind (λ (i : Item). reads s.fl x i i.inlet.part)
  spares_cell x j (a, LGiver e) = ap (reads s.fl x j) e
  spares_cell x j (a, LTaker e) = ap (reads s.fl x j) e
  spares_cell x j (a, LDrainer e) = ap (reads s.fl x j) e

  credit_waits : (j : Item) → Kind j → (m : ℕ) × ((j.inlet.part ≡ Giver m) ⊎ ((j.inlet.part ≡ Taker m) ⊎ (j.inlet.part ≡ Drainer m)))
  credit_waits j (a, LGiver e) = (n, inl e)
  credit_waits j (a, LTaker e) = (n, inr (inl e))
  credit_waits j (a, LDrainer e) = (n, inr (inr e))

  -- items of another loop
  module _ (x : Context) (m : ℕ) (differ : x ≡ c → m ≡ n → ⊥) where
    spares_at : (q : Part) → ((k : ℕ) → IsLoops k q → k ≡ m) → Spares s Kind (is_item_at x q)
    spares_at q of_m j (a, b) =
        false_from_ne_true (is_item_at x q j) (λ e. let o = item_there x q j e in differ (sym o.0 ∙ a) (sym (of_m n (subst (IsLoops n) o.1 b))))

    giver : (k : ℕ) → IsLoops k (Giver m) → k ≡ m
    giver k (LGiver e) = cc
    giver k (LTaker e) = absurd (cc)
    giver k (LDrainer e) = absurd (cc)

    taker : (k : ℕ) → IsLoops k (Taker m) → k ≡ m
    taker k (LGiver e) = absurd (cc)
    taker k (LTaker e) = cc
    taker k (LDrainer e) = absurd (cc)

    drainer : (k : ℕ) → IsLoops k (Drainer m) → k ≡ m
    drainer k (LGiver e) = absurd (cc)
    drainer k (LTaker e) = absurd (cc)
    drainer k (LDrainer e) = cc

  module _ (d : Config) (new : List Firing) (made : List Item) (v : Lends d new made) where
    none : HandNone s.fl new
    none f h = lender_hands s.fl f.context n f.part (v.lenders f h).1

    was : (x : Context) (h : ℕ) → frame_at s.fl d.fired x ≡ Some h → frame_at s.fl net.fired x ≡ Some h
    was x h e = sym (frames_same v.account none x) ∙ e

    calm : (j : Item) → Contains made j → is_credit j.inlet.part ≡ false
    calm j h = quiet_calm j.inlet.part (v.quiet j h)

    not_held : (j : Item) → Contains made j → is_in_cell j.inlet.part ≡ false
    not_held j h = quiet_held j.inlet.part (v.quiet j h)

    -- credits of this loop, and of another
    abbrev given : ℕ → Holder → ℕ
    given f h = if (g == f) && same_holder h (Some (place c n)) then v.grants else 0

    given_here : given g (place c n) ≡ v.grants
    given_here =
        let a : (g == g) ≡ true = eq-eqb g g refl in
        let b : same_holder (place c n) (Some (place c n)) ≡ true =
        (λ t. eq-eqb (code_in s.fl s.w c) (code_in s.fl s.w c) refl t && eq-eqb slot slot refl t) in
        (λ t. if a t && b t then v.grants else 0)

    given_to : (f : ℕ) (h : Holder) → 0 < given f h → (g ≡ f) × (h ≡ place c n)
    given_to f h less = pick (cases_Bool ((g == f) && same_holder h (Some (place c n))))
      where
        pick : (((g == f) && same_holder h (Some (place c n))) ≡ true) ⊎ (((g == f) && same_holder h (Some (place c n))) ≡ false) → (g ≡ f) × (h ≡ place c n)
        pick (inl q) = (
          eqb-true g f (first_of_and (g == f) (same_holder h (Some (place c n))) q),
          same_holder_true h (place c n) (second_of_and (g == f) (same_holder h (Some (place c n))) q),
        )
        pick (inr q) = let a : given f h ≡ 0 = ap (λ (t : Bool). if t then v.grants else 0) q in absurd (omega (arith, less, a))

    given_other : (x : Context) (m f : ℕ) → is_loop (block_in s.fl x) m ≡ true → frame_at s.fl net.fired x ≡ Some f → (x ≡ c → m ≡ n → ⊥)
        → given f (place x m) ≡ 0
    given_other x m f k e differ = pick (cases_eq (given f (place x m)) 0)
      where
        pick : (given f (place x m) ≡ 0) ⊎ (given f (place x m) ≡ 0 → ⊥) → given f (place x m) ≡ 0
        pick (inl z) = z
        pick (inr z) = let o = given_to f (place x m) (omega (arith, z)) in
            absurd (slots_apart x m f k e differ o.0 (sym (ap (λ (h : Holder). h.number) o.1)))

    -- THE SLOTS
    abbrev base : ℕ → ℕ → SlotState
    base = (with_slot (with_base s.m.store old.base) g slot v.state).slots

    slots_now : InSlots (λ (i : Item). frame_of s.fl net.fired i.context) (slot_of s.fl s.w)
        (λ (i : Item). on_side i.inlet.port (word_of s.fl s.p s.w net.fired i.word)) base (only (in_slot s.fl) d.waiting) s.new.store.slots
    slots_now =
        let F = λ (i : Item). frame_of s.fl net.fired i.context in let H = λ (i : Item). on_side i.inlet.port (word_of s.fl s.p s.w net.fired i.word) in
        let a = slots_turn F (slot_of s.fl s.w) H old.base g slot v.state (only (in_slot s.fl) net.waiting) none_there s.m.store old.slots in
        subst (λ (x : Store). InSlots F (slot_of s.fl s.w) H base (only (in_slot s.fl) d.waiting) x.slots) (sym v.store)
        (subst (λ (x : List Item). InSlots F (slot_of s.fl s.w) H base x (with_slot s.m.store g slot v.state).slots)
        (sym (v.account.spared (in_slot s.fl) spares_slots)) a)

    base_other : (f q : ℕ) → (g ≡ f → slot ≡ q → ⊥) → base f q ≡ old.base f q
    base_other f q h = slot_other (with_base s.m.store old.base) g slot v.state f q h

    -- THE LOOPS: this one, and another
    none_given : (x : Context) (m : ℕ) → items_at x (Giver m) made ≡ 0
    none_given x m = count_none (is_item_at x (Giver m)) made (λ j h. calm_item x (Giver m) refl j (calm j h))

    this : Loop s d made base c n
    this = record {
      keeps = v.keeps;
      slot = λ h e.
          let z : Some g ≡ Some h = sym at ∙ was c h e in let y : g ≡ h = cc in
          subst (λ h. base h slot ≡ slot_for (bound_at (block_in s.fl c) n) (ledger s.fl s.p s.w d c n)) y
          (slot_filled (with_base s.m.store old.base) g slot v.state ∙ v.slot_now);
      granted = λ h e. let z : Some g ≡ Some h = sym at ∙ was c h e in let y : g ≡ h = cc in
          subst (λ h. s.q.granted h (place c n) + granted_at s.p s.p.program h (place c n) s.m.store s.t.to ≡ granted_of d c n) y counted;
      released = λ h e. v.released h (ip_of s.fl s.p s.w c (Landing n 0)) ∙ sym (none_given c n);
    }
      where
        counted : s.q.granted g (place c n) + granted_at s.p s.p.program g (place c n) s.m.store s.t.to ≡ granted_of d c n
        counted =
            let a = s.keeps.tracks.granted c n g con l at in let b = v.granted g (place c n) in let o = given_here in let y = v.granted_now in
            omega (arith, a, b, o, y)

    another : (x : Context) (m : ℕ) → IsContext s.fl x → is_loop (block_in s.fl x) m ≡ true → (x ≡ c → m ≡ n → ⊥) → Loop s d made base x m
    another x m h k differ = idle_loop v.account (frames_stay v.account none) (words_stay v.account none) base x m h k (record {
      opens = λ f i. let o = v.lenders f i in lender_idle c x n m (Opener m) f o.0 o.1 (inl refl) differ;
      takes = λ f i. let o = v.lenders f i in lender_idle c x n m (Taker m) f o.0 o.1 (inr (inl refl)) differ;
      drains = λ f i. let o = v.lenders f i in lender_idle c x n m (Drained m) f o.0 o.1 (inr (inr refl)) differ;
      giver = spares_at x m differ (Giver m) (giver x m differ);
      taker = spares_at x m differ (Taker m) (taker x m differ);
      drainer = spares_at x m differ (Drainer m) (drainer x m differ);
      books = calm_books s made calm x m;
      base_same = λ f e. base_other f ((wiring_in s.fl s.w x).slot (Opener m)) (slots_apart x m f k (was x f e) differ);
      granted = λ f e. v.granted f (place x m) ∙ given_other x m f k (was x f e) differ;
      released = λ f e. v.released f (ip_of s.fl s.p s.w x (Landing m 0)) ∙ sym (none_given x m);
    })

    loops : Loops s d made base
    loops = record {
      others = λ f q. others f q (cases_eq g f) (cases_eq slot q) (old.others f q);
      each = λ x m h k. each x m h k (same_loop x m);
      no_other = λ f h less. let e = v.granted f h in let o = given_to f h (omega (arith, less, e)) in
          (c, n, con, l, frames_same v.account none c ∙ at ∙ ap (λ x. Some x) o.0, o.1);
      releases = λ f h less. let z = v.released f h in absurd (omega (arith, less, z));
    }
      where
        each : (x : Context) (m : ℕ) → IsContext s.fl x → is_loop (block_in s.fl x) m ≡ true → ((c ≡ x) × (n ≡ m)) ⊎ (x ≡ c → m ≡ n → ⊥)
            → Loop s d made base x m
        each x m h k (inl (a, b)) = subst (λ m. Loop s d made base x m) b (subst (λ x. Loop s d made base x n) a this)
        each x m h k (inr differ) = another x m h k differ

        elsewhere : (f q : ℕ) → (g ≡ f → slot ≡ q → ⊥) → (old.base f q ≡ Empty) ⊎ IsLoopSlot s net f q → (base f q ≡ Empty) ⊎ IsLoopSlot s d f q
        elsewhere f q h (inl e) = inl (base_other f q h ∙ e)
        elsewhere f q h (inr k) = inr (still_loops v.account (frames_stay v.account none) (words_stay v.account none) f q k)

        others : (f q : ℕ) → (g ≡ f) ⊎ (g ≡ f → ⊥) → (slot ≡ q) ⊎ (slot ≡ q → ⊥) → (old.base f q ≡ Empty) ⊎ IsLoopSlot s net f q
            → (base f q ≡ Empty) ⊎ IsLoopSlot s d f q
        others f q (inl a) (inl b) o = inr (c, n, con, l, frames_same v.account none c ∙ at ∙ ap (λ x. Some x) a, b)
        others f q (inr a) b o = elsewhere f q (λ x y. a x) o
        others f q a (inr b) o = elsewhere f q (λ x y. b y) o

    -- WHAT FOLLOWS
    stays : Stays s
    stays = stays_with s g slot v.state v.store

    pub lends_follow : Followed s
    lends_follow = balanced {T = Kind} {d = d} {new = new} {made = made} (record {
      account = v.account;
      frames = frames_stay v.account none;
      base = base;
      loops = loops;
      words = words_stay v.account none;
      sound = λ j h. sound_of v.account none j (v.known j h)
          (λ x e. let z : None ≡ Some x = sym (ap named_by (v.signals j h)) ∙ e in absurd (cc))
          (λ x y e. let z : None ≡ Some x = sym (ap named_by (v.signals j h)) ∙ ap named_by e in absurd (cc));
      pool = pool_of v.account none made v.event v.pending;
      tokens =
          tokens_of v.account none (none_renewed s.fl new (λ f h. lender_renews s.fl f n f.part (v.lenders f h).1))
          (made_but s made v.event (λ j h. meant_other s.fl s.p s.w net.fired j (not_held j h)));
      caused = λ j h i e. caused j i e (Contains-append_cases made s.others j (Contains-permutation _ _ j v.pending h));
      good = good_stay v.account not_held;
      waits = λ j t. inr (inr (inr (credit_waits j t)));
      slots = slots_now;
      requests = requests_stay v.account stays.requests (λ j t. loops_asked n j.inlet.part t.1);
      readers = λ x. readers_stay v.account x (stays.cells x) (spares_cell x);
      memory = memory_of_silent v.account none (λ f h. lender_silent n f.part (v.lenders f h).1) (recalls s stays);
    })
      where
        caused : (j : Item) → (is_instr j.inlet.part ≡ true) → (is_entry_part (block_in s.fl j.context) j.inlet.part ≡ false)
            → Contains made j ⊎ Contains s.others j → Contains net.pending j ⊎ IsCaused s j
        caused j i e (inl h) = inr (v.caused j h i e)
        caused j i e (inr h) = inl (others_before s j h)
