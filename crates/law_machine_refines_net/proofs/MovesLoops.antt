-- The loops after an event, their slots and their counts; and of an event that moves none of a loop's credits.
use Rattle.std.proofs.Common.{◌≡◌, ℕ, ◌+◌, ◌-◌, ◌<◌, Bool, true, false, List, ◌++◌, refl, sym, ap, ◌∙◌, subst, inl, inr, ◌⊎◌, arith, true≢false, Some, nat_lt}
use Rattle.std.proofs.Common.{if◌then◌else◌}
use Rattle.std.specs.Prelude.{Contains, flat_map}
use Rattle.std.proofs.lemmas.Bool.{cases_eq}
use Rattle.tags.specs.declared.slot.SlotState.{SlotState}
use Rattle.tags.specs.declared.slot.SlotState.TheVariants.{Empty, Draining, Credits}
use Rattle.semantics.specs.Meaning.{Context}
use Rattle.semantics.specs.Holders.{Holder}
use Rattle.semantics.specs.Credits.{granted_at, released_at}
use Rattle.law_net.specs.ContextsParts.{Part, Opener, Giver, Taker, Drainer, Drained, Landing, Item, Firing}
use Rattle.law_net.specs.ContextsBlocks.{is_loop, bound_at}
use Rattle.law_net.specs.Contexts.{block_in, code_in, wiring_in, IsContext}
use Rattle.law_net.specs.ContextsCredits.{Ledger, slot_for, waits_or, CreditLaw}
use Rattle.law_net.specs.ContextsFirings.{Config, takes, times, is_firing, frame_at}
use Rattle.law_net.specs.ContextsMirror.{ip_of, word_of, only, conts_of, is_item_at, items_at, granted_of, ledger, KeepsCredits, Mirrors}
use Rattle.law_net.proofs.WiredNets.{some_of}
use Rattle.law_net.proofs.RunsPigeons.{items_total, item_there, some_item}
use Rattle.law_machine_refines_net.specs.MovesCases.{Taking, net_of, IsFree}
use Rattle.law_machine_refines_net.proofs.MovesLists.{kept_out, count_append, count_none, count_same}
use Rattle.law_machine_refines_net.proofs.MovesParts.{is_credit, calm_item, is_lending, lending_apart}
use Rattle.law_machine_refines_net.proofs.MovesStill.{not_firing}
use Rattle.law_machine_refines_net.proofs.MovesAccount.{Account, Spares, here, count_spared}
use Rattle.law_machine_refines_net.proofs.MovesLasting.{conts_same, ledger_lasts}
use Rattle.law_machine_refines_net.proofs.MovesFramed.{Frames, Gives}
use Rattle.law_machine_refines_net.proofs.FramesUnframed.{no_times}

-- a loop that was not opened has an empty slot
closed : (k : ℕ) (l : Ledger) → l.opened ≡ false → slot_for k l ≡ Empty
closed k l e =
    ap (λ (t : Bool). if t then (if l.over then Empty else if l.draining then Draining (l.granted - l.given)
    else waits_or l.waiter (Credits (k - (l.granted - l.given)))) else Empty) e

module _ (s : Taking) where
  abbrev pub slot_at : Context → ℕ → ℕ
  slot_at c n = (wiring_in s.fl s.w c).slot (Opener n)

  abbrev pub holder_at : Context → ℕ → Holder
  holder_at c n = record { block = code_in s.fl s.w c; number = (wiring_in s.fl s.w c).slot (Opener n) }

  -- a slot that is a loop's, and a holder
  abbrev pub IsLoopSlot : Config → ℕ → ℕ → Type 0
  IsLoopSlot d f q = (c : Context) × (n : ℕ) × IsContext s.fl c × (is_loop (block_in s.fl c) n ≡ true) × (frame_at s.fl d.fired c ≡ Some f)
      × ((wiring_in s.fl s.w c).slot (Opener n) ≡ q)

  abbrev pub Holds : Config → ℕ → Holder → Type 0
  Holds d f h = (c : Context) × (n : ℕ) × IsContext s.fl c × (is_loop (block_in s.fl c) n ≡ true) × (frame_at s.fl d.fired c ≡ Some f)
      × (h ≡ record { block = code_in s.fl s.w c; number = (wiring_in s.fl s.w c).slot (Opener n) })

  abbrev pub granted_now : ℕ → Holder → ℕ
  granted_now g h = granted_at s.p s.p.program g h s.m.store s.t.to

  abbrev pub released_now : ℕ → ℕ → ℕ
  released_now g base = released_at s.p.program g base s.t.to s.event.made

  -- ONE LOOP
  pub record Loop (d : Config) (made : List Item) (base : ℕ → ℕ → SlotState) (c : Context) (n : ℕ) : Type 0 where
    pub keeps : KeepsCredits s.fl s.p s.w d c n
    pub slot : (g : ℕ) → frame_at s.fl d.fired c ≡ Some g → base g (slot_at c n) ≡ slot_for (bound_at (block_in s.fl c) n) (ledger s.fl s.p s.w d c n)
    pub granted : (g : ℕ) → frame_at s.fl d.fired c ≡ Some g → s.q.granted g (holder_at c n) + granted_now g (holder_at c n) ≡ granted_of d c n
    pub released : (g : ℕ) → frame_at s.fl d.fired c ≡ Some g
        → released_now g (ip_of s.fl s.p s.w c (Landing n 0)) ≡ items_at c (Giver n) made

  -- ALL LOOPS
  pub record Loops (d : Config) (made : List Item) (base : ℕ → ℕ → SlotState) : Type 0 where
    pub others : (f q : ℕ) → (base f q ≡ Empty) ⊎ IsLoopSlot d f q
    pub each : (c : Context) (n : ℕ) → IsContext s.fl c → is_loop (block_in s.fl c) n ≡ true → Loop d made base c n
    pub no_other : (g : ℕ) (h : Holder) → 0 < granted_now g h → Holds d g h
    pub releases : (g base : ℕ) → 0 < released_now g base → (c : Context) × (frame_at s.fl d.fired c ≡ Some g)

  -- what items give to the credits of the loop at node n of c
  pub record Books (items : List Item) (c : Context) (n : ℕ) : Type 0 where
    pub takes : (j : Item) → Contains items j → j.context ≡ c → j.inlet.part ≡ Taker n
        → (j.inlet.way ≡ granted_of (net_of s) c n) × (items_at c (Drainer n) ((net_of s).pending ++ (net_of s).waiting) ≡ 0)
    pub drains : (j : Item) → Contains items j → j.context ≡ c → j.inlet.part ≡ Drainer n
        → (j.inlet.way + 1 ≡ granted_of (net_of s) c n) × (items_at c (Taker n) ((net_of s).pending ++ (net_of s).waiting) ≡ 0)
        × (items_at c (Taker n) items ≡ 0)
    pub gives : (j : Item) → Contains items j → j.context ≡ c → j.inlet.part ≡ Giver n → j.inlet.way < granted_of (net_of s) c n

  -- none of them is of a loop's credits
  pub calm_books : (items : List Item) → ((j : Item) → Contains items j → is_credit j.inlet.part ≡ false) → (c : Context) (n : ℕ) → Books items c n
  calm_books items calm c n = record {
    takes = λ j h a e. absurd (true≢false (sym (ap is_credit e) ∙ calm j h));
    drains = λ j h a e. absurd (true≢false (sym (ap is_credit e) ∙ calm j h));
    gives = λ j h a e. absurd (true≢false (sym (ap is_credit e) ∙ calm j h));
  }

  -- A LOOP THAT THE EVENT LEAVES ALONE, except for what is sent to it
  pub record Idle (T : Item → Type 0) (d : Config) (new : List Firing) (made : List Item) (base : ℕ → ℕ → SlotState) (c : Context) (n : ℕ) : Type 0 where
    pub opens : (f : Firing) → Contains new f → is_firing c (Opener n) f ≡ false
    pub takes : (f : Firing) → Contains new f → is_firing c (Taker n) f ≡ false
    pub drains : (f : Firing) → Contains new f → is_firing c (Drained n) f ≡ false
    pub giver : Spares s T (is_item_at c (Giver n))
    pub taker : Spares s T (is_item_at c (Taker n))
    pub drainer : Spares s T (is_item_at c (Drainer n))
    pub books : Books made c n
    pub base_same : (g : ℕ) → frame_at s.fl d.fired c ≡ Some g → base g (slot_at c n) ≡ s.keeps.tracks.stands.base g (slot_at c n)
    pub granted : (g : ℕ) → frame_at s.fl d.fired c ≡ Some g → granted_now g (holder_at c n) ≡ 0
    pub released : (g : ℕ) → frame_at s.fl d.fired c ≡ Some g
        → released_now g (ip_of s.fl s.p s.w c (Landing n 0)) ≡ items_at c (Giver n) made

  -- NONE OF A LOOP'S CREDITS leaves or arrives
  pub record Unlent (T : Item → Type 0) (d : Config) (new : List Firing) (made : List Item) : Type 0 where
    pub lends : (f : Firing) → Contains new f → is_lending f.part ≡ false
    pub calm : (j : Item) → T j → is_credit j.inlet.part ≡ false
    pub granted : (g : ℕ) (h : Holder) → granted_now g h ≡ 0
    pub books : (c : Context) (n : ℕ) → IsContext s.fl c → is_loop (block_in s.fl c) n ≡ true → Books made c n
    pub released : (c : Context) (n g : ℕ) → IsContext s.fl c → is_loop (block_in s.fl c) n ≡ true → frame_at s.fl d.fired c ≡ Some g
        → released_now g (ip_of s.fl s.p s.w c (Landing n 0)) ≡ items_at c (Giver n) made
    pub releases : (g base : ℕ) → 0 < released_now g base → (c : Context) × (frame_at s.fl d.fired c ≡ Some g)

  -- and nothing is sent to a loop
  pub unlent : (T : Item → Type 0) (d : Config) (new : List Firing) (made : List Item) → IsFree s → ((f : Firing) → Contains new f → is_lending f.part ≡ false)
      → ((j : Item) → T j → is_credit j.inlet.part ≡ false) → ((j : Item) → Contains made j → is_credit j.inlet.part ≡ false)
      → Unlent T d new made
  unlent T d new made free lends calm sent = record {
    lends = lends;
    calm = calm;
    granted = free.granted;
    books = λ c n h k. calm_books made sent c n;
    released = λ c n g h k e. free.released g (ip_of s.fl s.p s.w c (Landing n 0))
        ∙ sym (count_none (is_item_at c (Giver n)) made (λ j h. calm_item c (Giver n) refl j (sent j h)));
    releases = λ g base less. let z = free.released g base in absurd (omega (arith, less, z));
  }

module _ {s : Taking} {T : Item → Type 0} {d : Config} {new : List Firing} {made : List Item} (l : Account s T d new made) (v : Frames s d)
    (words : (j : Item) → Contains d.waiting j → word_of s.fl s.p s.w d.fired j.word ≡ word_of s.fl s.p s.w (net_of s).fired j.word) where
  abbrev net : Config
  net = net_of s

  abbrev old : Mirrors s.fl s.p s.w s.m net
  old = s.keeps.tracks.stands

  module _ (base : ℕ → ℕ → SlotState) (c : Context) (n : ℕ) (con : IsContext s.fl c) (k : is_loop (block_in s.fl c) n ≡ true)
      (idle : Idle s T d new made base c n) where
    times_same : (q : Part) → ((f : Firing) → Contains new f → is_firing c q f ≡ false) → times c q d.fired ≡ times c q net.fired
    times_same q none =
        let a = count_append (is_firing c q) new net.fired in let b = count_none (is_firing c q) new none in let e = ap (times c q) l.fired in
        omega (arith, a, b, e)

    ledger_same : ledger s.fl s.p s.w d c n ≡ ledger s.fl s.p s.w net c n
    ledger_same =
        ledger_lasts s.fl s.p s.w net d c n (times_same (Opener n) idle.opens) (times_same (Taker n) idle.takes) (times_same (Drained n) idle.drains)
        (count_spared l (is_item_at c (Giver n)) idle.giver) (count_spared l (is_item_at c (Drainer n)) idle.drainer)
        (conts_same s.fl s.p s.w net.fired d.fired (only (is_item_at c (Taker n)) d.waiting)
        (λ j h. words j (kept_out (is_item_at c (Taker n)) d.waiting j h).0)
        ∙ ap (conts_of s.fl s.p s.w net.fired) (l.spared (is_item_at c (Taker n)) idle.taker))

    granted_same : granted_of d c n ≡ granted_of net c n
    granted_same = let a = times_same (Opener n) idle.opens in let b = times_same (Taker n) idle.takes in omega (arith, a, b)

    none_more : items_at c (Taker n) (net.pending ++ net.waiting) ≡ 0 → items_at c (Taker n) made ≡ 0 → items_at c (Taker n) (d.pending ++ d.waiting) ≡ 0
    none_more a e =
        let t = is_item_at c (Taker n) in
        let X = flat_map (takes s.fl) new in
        let x = count_same t _ _ l.marks in let y = count_append t d.pending (d.waiting ++ X) in let z = count_append t d.waiting X in
        let u = count_append t made (net.pending ++ net.waiting) in let o = count_append t d.pending d.waiting in omega (arith, a, e, x, y, z, u, o)

    -- where a drain is, no turn is asked for
    none_made : (j : Item) → Contains (net.pending ++ net.waiting) j → j.context ≡ c → j.inlet.part ≡ Drainer n → items_at c (Taker n) made ≡ 0
    none_made j h a e = go (cases_eq (items_at c (Taker n) made) 0)
      where
        go : (items_at c (Taker n) made ≡ 0) ⊎ (items_at c (Taker n) made ≡ 0 → ⊥) → items_at c (Taker n) made ≡ 0
        go (inl x) = x
        go (inr x) =
            let t = items_total c (Taker n) made in
            let o = some_of (is_item_at c (Taker n)) made (omega (arith, x, t)) in
            let at = item_there c (Taker n) o.0 o.2 in
            let none = (idle.books.takes o.0 o.1 at.0 at.1).1 in
            let some = some_item c (Drainer n) (net.pending ++ net.waiting) j h a e in let u = items_total c (Drainer n) (net.pending ++ net.waiting) in
            omega (arith, none, some, u)

    before : KeepsCredits s.fl s.p s.w net c n
    before = s.keeps.tracks.credits c n con k

    still_keeps : KeepsCredits s.fl s.p s.w d c n
    still_keeps = record {
      law = subst (CreditLaw (bound_at (block_in s.fl c) n)) (sym ledger_same) before.law;
      takes = λ j h a e. taken j a e (here l j h);
      drains = λ j h a e. drained j a e (here l j h);
      gives = λ j h a e. given j a e (here l j h);
    }
      where
        taken : (j : Item) → j.context ≡ c → j.inlet.part ≡ Taker n → Contains made j ⊎ Contains (net.pending ++ net.waiting) j
            → j.inlet.way ≡ granted_of d c n
        taken j a e (inl h) = (idle.books.takes j h a e).0 ∙ sym granted_same
        taken j a e (inr h) = before.takes j h a e ∙ sym granted_same

        drained : (j : Item) → j.context ≡ c → j.inlet.part ≡ Drainer n → Contains made j ⊎ Contains (net.pending ++ net.waiting) j
            → (j.inlet.way + 1 ≡ granted_of d c n) × (items_at c (Taker n) (d.pending ++ d.waiting) ≡ 0)
        drained j a e (inl h) = let o = idle.books.drains j h a e in (o.0 ∙ sym granted_same, none_more o.1 o.2)
        drained j a e (inr h) = let o = before.drains j h a e in (o.0 ∙ sym granted_same, none_more o.1 (none_made j h a e))

        given : (j : Item) → j.context ≡ c → j.inlet.part ≡ Giver n → Contains made j ⊎ Contains (net.pending ++ net.waiting) j
            → j.inlet.way < granted_of d c n
        given j a e (inl h) = let o = idle.books.gives j h a e in let x = granted_same in omega (arith, o, x)
        given j a e (inr h) = let o = before.gives j h a e in let x = granted_same in omega (arith, o, x)

    -- a new frame's slots are empty, and it has no counts
    module _ (g : ℕ) (e : Gives v.gave c g) where
      not_here : (m : ℕ) → frame_at s.fl net.fired c ≡ Some m → ⊥
      not_here = (v.fresh c g e).0

      new_slot : old.base g (slot_at s c n) ≡ Empty
      new_slot = pick (old.others g (slot_at s c n))
        where
          pick : (old.base g (slot_at s c n) ≡ Empty) ⊎ IsLoopSlot s net g (slot_at s c n) → old.base g (slot_at s c n) ≡ Empty
          pick (inl z) = z
          pick (inr x) = absurd ((v.fresh c g e).1 x.0 x.4)

      not_opened : (ledger s.fl s.p s.w d c n).opened ≡ false
      not_opened = ap (λ m. nat_lt 0 m) (times_same (Opener n) idle.opens ∙ no_times s c not_here (Opener n))

      new_counts : s.q.granted g (holder_at s c n) ≡ granted_of net c n
      new_counts = pick (cases_eq (s.q.granted g (holder_at s c n)) 0)
        where
          pick : (s.q.granted g (holder_at s c n) ≡ 0) ⊎ (s.q.granted g (holder_at s c n) ≡ 0 → ⊥) → s.q.granted g (holder_at s c n) ≡ granted_of net c n
          pick (inl z) = let a = no_times s c not_here (Opener n) in let b = no_times s c not_here (Taker n) in omega (arith, z, a, b)
          pick (inr x) = let o = s.keeps.tracks.no_other g (holder_at s c n) (omega (arith, x)) in absurd ((v.fresh c g e).1 o.0 o.4)

    pub idle_loop : Loop s d made base c n
    idle_loop = record {
      keeps = still_keeps;
      slot = λ g e. idle.base_same g e ∙ slot g (v.newer c g e);
      granted = λ g e. let a = granted g (v.newer c g e) in let z = idle.granted g e in let b = granted_same in omega (arith, a, z, b);
      released = idle.released;
    }
      where
        slot : (g : ℕ) → (frame_at s.fl net.fired c ≡ Some g) ⊎ Gives v.gave c g
            → old.base g (slot_at s c n) ≡ slot_for (bound_at (block_in s.fl c) n) (ledger s.fl s.p s.w d c n)
        slot g (inl e) = old.loops c n g con k e ∙ ap (slot_for (bound_at (block_in s.fl c) n)) (sym ledger_same)
        slot g (inr e) = new_slot g e ∙ sym (closed (bound_at (block_in s.fl c) n) (ledger s.fl s.p s.w d c n) (not_opened g e))

        granted : (g : ℕ) → (frame_at s.fl net.fired c ≡ Some g) ⊎ Gives v.gave c g → s.q.granted g (holder_at s c n) ≡ granted_of net c n
        granted g (inl e) = s.keeps.tracks.granted c n g con k e
        granted g (inr e) = new_counts g e

  -- a loop's slot is one still
  pub still_loops : (f q : ℕ) → IsLoopSlot s net f q → IsLoopSlot s d f q
  still_loops f q x = (x.0, x.1, x.2, x.3, v.grows x.0 f x.4, x.5)

  pub unlent_loops : Unlent s T d new made → Loops s d made old.base
  unlent_loops u = record {
    others = λ f q. other f q (old.others f q);
    each = λ c n h k. idle_loop old.base c n h k (record {
      opens = λ f i. not_firing c (Opener n) f (lending_apart f.part (Opener n) (u.lends f i) refl);
      takes = λ f i. not_firing c (Taker n) f (lending_apart f.part (Taker n) (u.lends f i) refl);
      drains = λ f i. not_firing c (Drained n) f (lending_apart f.part (Drained n) (u.lends f i) refl);
      giver = λ j t. calm_item c (Giver n) refl j (u.calm j t);
      taker = λ j t. calm_item c (Taker n) refl j (u.calm j t);
      drainer = λ j t. calm_item c (Drainer n) refl j (u.calm j t);
      books = u.books c n h k;
      base_same = λ g e. refl;
      granted = λ g e. u.granted g (holder_at s c n);
      released = λ g e. u.released c n g h k e;
    });
    no_other = λ g h less. let z = u.granted g h in absurd (omega (arith, less, z));
    releases = u.releases;
  }
    where
      other : (f q : ℕ) → (old.base f q ≡ Empty) ⊎ IsLoopSlot s net f q → (old.base f q ≡ Empty) ⊎ IsLoopSlot s d f q
      other f q (inl e) = inl e
      other f q (inr x) = inr (still_loops f q x)
