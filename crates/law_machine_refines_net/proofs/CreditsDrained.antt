-- All credits of a loop are back: its last turn is over, and the loop is.
use Rattle.std.proofs.Common.{◌≡◌, ℕ, ◌+◌, ◌<◌, ◌≤◌, Bool, true, false, not, List, [], ◌∷◌, ◌++◌, map, refl, sym, ap, ◌∙◌, subst, inl, inr, ◌⊎◌, arith}
use Rattle.std.proofs.Common.{true≢false, Some, None, pos, append-nil, ◌==◌, ◌&&◌, if◌then◌else◌}
use Rattle.std.specs.Prelude.{IsPermutation, Contains}
use Rattle.std.proofs.lemmas.List.Elements.{Contains-append_left, Contains-append_right, Contains-append_cases}
use Rattle.std.proofs.lemmas.List.Sorted.{IsPermutation-trans, IsPermutation-append, IsPermutation-refl}
use Rattle.tags.specs.declared.value.Value.TheVariants.{Int}
use Rattle.tags.specs.declared.token.Port.TheVariants.{Left}
use Rattle.tags.specs.declared.slot.SlotState.TheVariants.{Empty}
use Rattle.semantics.specs.Meaning.{Context}
use Rattle.semantics.specs.Machine.{with_slot}
use Rattle.semantics.specs.Holders.{Holder, same_holder}
use Rattle.semantics.specs.Credits.{granted_at, released_at}
use Rattle.law_confluence.specs.OrdersTotals.{one}
use Rattle.law_confluence.proofs.Orders.{total-append, shuffled, Part as Piece, ◌⊕◌, at_last}
use Rattle.law_net.specs.ContextsParts.{Opener, Giver, Taker, Drainer, Drained, DrainReturn, LoopDone, inlet, signal, Item, item, Firing, Spot, spot_of}
use Rattle.law_net.specs.ContextsParts.{same_spot}
use Rattle.law_net.specs.ContextsBlocks.{is_loop}
use Rattle.law_net.specs.Contexts.{block_in}
use Rattle.law_net.specs.ContextsCredits.{Ledger}
use Rattle.law_net.specs.ContextsFirings.{Config, takes, makes, times, given_back, frame_at}
use Rattle.law_net.specs.ContextsMirror.{only, token_of, is_item_at, items_at, conts_of, first_cont, ledger, granted_of, KeepsCredits, is_in_cell}
use Rattle.law_net.proofs.ContextsSames.{hits_at}
use Rattle.law_net.proofs.WiredNets.{only_total, only_contains, only_has}
use Rattle.law_net.proofs.RunsPigeons.{items_total, item_here, item_there, some_item}
use Rattle.law_net.proofs.CreditsTurns.{left_at, opened_once}
use Rattle.law_net.proofs.Credits as Credits
use Rattle.law_net.proofs.Credits.{none_passes}
use Rattle.law_machine_refines_net.specs.MovesCases.{Taking, IsCaused, net_of, Followed, is_quiet}
use Rattle.law_machine_refines_net.proofs.MovesLists.{contains_one, count_kept}
use Rattle.law_machine_refines_net.proofs.MovesStill.{times_no}
use Rattle.law_machine_refines_net.proofs.MovesAccount.{Spares}
use Rattle.law_machine_refines_net.proofs.MovesFitted.{framed, bare, bare_item, taken_here, among, IsHere}
use Rattle.law_machine_refines_net.proofs.CellsAnswering.{kept_apart}
use Rattle.law_machine_refines_net.proofs.CreditsLenders.{ADrained, IsLoops, LGiver, LDrainer}
use Rattle.law_machine_refines_net.proofs.CreditsBooks as Books
use Rattle.law_machine_refines_net.proofs.CreditsBooks.{gone, then_fires, one_lends, fires_follow}
use Rattle.law_machine_refines_net.proofs.CreditsLedgers.{over_slot, times_more, some_yes, item_not}
use Rattle.law_machine_refines_net.proofs.CreditsStanding.{was_there, waited_there, spot_here, apart, meet_not}
use Rattle.law_machine_refines_net.proofs.CreditsReturned.{give_is, all_credits, split_by, only_one}

module _ (s : Taking) (n : ℕ) (l : is_loop (block_in s.fl s.i.context) n ≡ true) where
  abbrev net : Config
  net = net_of s

  abbrev c : Context
  c = s.i.context

  abbrev k : ℕ
  k = Books.bound s n l

  -- what waits, with the item that arrives
  abbrev all : List Item
  all = s.i ∷ net.waiting

  kept : KeepsCredits s.fl s.p s.w net c n
  kept = s.keeps.tracks.credits c n (Books.con s n l) l

  here : (j : Item) → Contains all j → IsHere s j
  here j h = waited_there s j (Contains-append_right s.others all j h)

  -- each is where no other is
  apart_all : (x : Spot) → hits_at x all ≤ 1
  apart_all x = let a = apart s x in let b = total-append (λ (i : Item). one (same_spot x (spot_of i))) s.others all in omega (arith, a, b)

  -- THE DRAIN that waits or arrives
  module _ (x : Item) (there : Contains all x) (xc : x.context ≡ c) (xp : x.inlet.part ≡ Drainer n) (mine : IsLoops n s.i.inlet.part)
      (count : items_at c (Giver n) all ≡ granted_of net c n) where
    abbrev last : ℕ
    last = times c (Taker n) net.fired

    opened : times c (Opener n) net.fired ≡ 1
    opened =
        let a = Credits.given_opened s.fl s.p s.w s.inputs s.q s.m s.good s.keeps c (Books.con s n l) n l (Drainer n) DrainReturn (λ t. refl)
        (λ b. refl) refl x (among s x (here x there)) xc xp in
        let b = opened_once s.fl s.p s.w s.inputs s.q s.m s.good s.keeps c (Books.con s n l) n l in omega (arith, a, b)

    granted_is : granted_of net c n ≡ last + 1
    granted_is = let a = opened in omega (arith, a)

    way_is : x.inlet.way ≡ last
    way_is = let a = (kept.drains x (here x there) xc xp).0 in let b = granted_is in omega (arith, a, b)

    no_take : (j : Item) → IsHere s j → j.context ≡ c → j.inlet.part ≡ Taker n → ⊥
    no_take j h a b =
        let none = (kept.drains x (here x there) xc xp).1 in let t = items_total c (Taker n) (net.pending ++ net.waiting) in
        let o = some_item c (Taker n) (net.pending ++ net.waiting) j h a b in omega (arith, none, t, o)

    x_is : x ≡ item c (inlet (Drainer n) Left last) x.word
    x_is =
        let port = left_at s.fl s.p s.w s.inputs s.q s.m s.good s.keeps c (Books.con s n l) n l x (among s x (here x there)) xc (Drainer n) xp refl in
        bare_item x (bare s x (here x there) (ap is_in_cell xp)) (Drainer n) Left last xp port way_is ∙ (λ t. item (xc t) (inlet (Drainer n) Left last) x.word)

    -- one drain
    same_drain : (j : Item) → IsHere s j → j.context ≡ c → j.inlet.part ≡ Drainer n → spot_of j ≡ spot_of x
    same_drain j h a b =
        let way = (kept.drains j h a b).0 in let g = granted_is in
        spot_here s n l j h a (Drainer n) b refl last (omega (arith, way, g)) ∙ sym (spot_here s n l x (here x there) xc (Drainer n) xp refl last way_is)

    -- WHAT IS TAKEN, and what is left
    abbrev gives : Item → Bool
    gives j = is_item_at c (Giver n) j

    abbrev drains : Item → Bool
    drains j = is_item_at c (Drainer n) j

    abbrev others : List Item
    others = only (λ (j : Item). not (gives j)) all

    abbrev left : List Item
    left = only (λ (j : Item). not (drains j)) others

    abbrev f : Firing
    f = record { context = c; part = Drained n; way = 0; left = x.word; right = signal; frame = 0; answer = Int (pos 0); turns = last; operands = [] }

    abbrev d : Config
    d = gone s n l f left

    fewer : (test : Item → Bool) (items : List Item) → ((z : Spot) → hits_at z items ≤ 1) → (z : Spot) → hits_at z (only test items) ≤ 1
    fewer test items few z = let a = only_total test (λ (i : Item). one (same_spot z (spot_of i))) items in let b = few z in omega (arith, a, b)

    given : IsPermutation (only gives all) (given_back c n (last + 1))
    given =
        all_credits c n (last + 1) (only gives all) (λ i h. credit i (only_contains gives all i h)) (fewer gives all apart_all)
        (let a = count_kept gives all in let b = granted_is in omega (arith, a, b, count))
      where
        credit : (i : Item) → Contains all i × (gives i ≡ true) → (t : ℕ) × (t < last + 1) × (i ≡ item c (inlet (Giver n) Left t) signal)
        credit i (h, e) =
            let o = item_there c (Giver n) i e in let y = kept.gives i (here i h) o.0 o.1 in let g = granted_is in
            (i.inlet.way, omega (arith, y, g), give_is s n l i (here i h) o.0 o.1)

    x_other : Contains others x
    x_other =
        only_has (λ (j : Item). not (gives j)) all x there (ap not (item_not c (Giver n) x (λ h. let z : Drainer n ≡ Giver n = sym xp ∙ h in absurd (cc))))

    drain : only drains others ≡ x ∷ []
    drain =
        only_one x (only drains others) (only_has drains others x x_other (item_here c (Drainer n) x xc xp)) (λ i h. same i (only_contains drains others i h))
        (fewer drains others (fewer (λ (j : Item). not (gives j)) all apart_all) (spot_of x))
      where
        same : (i : Item) → Contains others i × (drains i ≡ true) → spot_of i ≡ spot_of x
        same i (h, e) = let o = item_there c (Drainer n) i e in let y = only_contains (λ (j : Item). not (gives j)) all i h in same_drain i (here i y.0) o.0 o.1

    took : IsPermutation all (takes s.fl f ++ left)
    took =
        let a = split_by gives all in let b = split_by drains others in
        let e : IsPermutation others ((x ∷ []) ++ left) = subst (λ y. IsPermutation others (y ++ left)) drain b in
        let o : IsPermutation all (given_back c n (last + 1) ++ ((x ∷ []) ++ left)) = IsPermutation-trans _ _ _ a (IsPermutation-append _ _ _ _ given e) in
        let y : IsPermutation all (((x ∷ []) ++ given_back c n (last + 1)) ++ left) =
        IsPermutation-trans _ _ _ o (shuffled (given_back c n (last + 1) ∷ (x ∷ []) ∷ left ∷ []) (Piece 0 ⊕ (Piece 1 ⊕ Piece 2))
        ((Piece 1 ⊕ Piece 0) ⊕ Piece 2) refl) in
        at_last y (ap (λ z. (z ∷ given_back c n (last + 1)) ++ left) x_is
        ∙ ap (λ z. z ++ left) (sym (append-nil (item c (inlet (Drainer n) Left last) x.word ∷ given_back c n (last + 1)))))

    left_all : (j : Item) → Contains left j → Contains all j × (drains j ≡ false)
    left_all j h =
        let a = only_contains (λ (j : Item). not (drains j)) others j h in let b = only_contains (λ (j : Item). not (gives j)) all j a.0 in
        (b.0, no (drains j) a.1)
      where
        no : (t : Bool) → not t ≡ true → t ≡ false
        no true e = absurd (true≢false (sym e))
        no false e = refl

    spared : (test : Item → Bool) → Spares s (Books.Lent s n l) test → only test left ≡ only test all
    spared test spares =
        kept_apart drains test (λ j e. let o = item_there c (Drainer n) j e in spares j (o.0, LDrainer o.1)) others
        ∙ kept_apart gives test (λ j e. let o = item_there c (Giver n) j e in spares j (o.0, LGiver o.1)) all

    -- THE LEDGER
    abbrev done : Item
    done = item c (inlet (LoopDone n) Left 0) signal

    abbrev book : Ledger
    book = ledger s.fl s.p s.w d c n

    one_made : (j : Item) → Contains (makes s.fl s.w f) j → done ≡ j
    one_made j h = contains_one done j h

    of_made : (P : Item → Type 0) → P done → (j : Item) → Contains (makes s.fl s.w f) j → P j
    of_made P h j c = subst P (one_made j c) h

    before : (j : Item) → is_quiet j.inlet.part ≡ false → Contains (d.pending ++ d.waiting) j → Contains (s.others ++ left) j
    before j o h = was_there s (makes s.fl s.w f) left (of_made (λ (j : Item). is_quiet j.inlet.part ≡ true) refl) j o h

    left_here : (j : Item) → Contains (s.others ++ left) j → IsHere s j
    left_here j h = pick (Contains-append_cases s.others left j h)
      where
        pick : Contains s.others j ⊎ Contains left j → IsHere s j
        pick (inl h) = waited_there s j (Contains-append_left s.others all j h)
        pick (inr h) = here j (left_all j h).0

    no_drain : (j : Item) → j.context ≡ c → j.inlet.part ≡ Drainer n → Contains (s.others ++ left) j → ⊥
    no_drain j a b h = pick (Contains-append_cases s.others left j h)
      where
        pick : Contains s.others j ⊎ Contains left j → ⊥
        pick (inr h) = true≢false (sym (item_here c (Drainer n) j a b) ∙ (left_all j h).1)
        pick (inl h) = meet_not s j x h there (same_drain j (waited_there s j (Contains-append_left s.others all j h)) a b)

    opened_now : times c (Opener n) d.fired ≡ times c (Opener n) net.fired
    opened_now = times_no c (Opener n) f net.fired refl

    granted_now : granted_of d c n ≡ granted_of net c n + 0
    granted_now = let a = opened_now in let b = times_no c (Taker n) f net.fired refl in omega (arith, a, b)

    over_now : book.over ≡ true
    over_now = some_yes (times c (Drained n) d.fired) (let a = times_more c (Drained n) f net.fired refl refl in omega (arith, a))

    given_now : book.given ≡ granted_of d c n
    given_now = ap (λ (o : Bool). if o then granted_of d c n else items_at c (Giver n) left) over_now

    waiter_now : book.waiter ≡ None
    waiter_now =
        ap (λ (items : List Item). first_cont (conts_of s.fl s.p s.w d.fired items))
        (none_passes (is_item_at c (Taker n)) left (λ j h o. let a = item_there c (Taker n) j o in no_take j (here j (left_all j h).0) a.0 a.1))

    keeps : KeepsCredits s.fl s.p s.w d c n
    keeps = record {
      law = record {
        given = let a = given_now in omega (arith, a);
        bound = let a = given_now in omega (arith, a);
        waits = λ y h. let z : None ≡ Some y = sym waiter_now ∙ h in absurd (cc);
        drains = λ h o. absurd (true≢false (sym over_now ∙ o));
      };
      takes = λ j h a b. absurd (no_take j (left_here j (before j (ap is_quiet b) h)) a b);
      drains = λ j h a b. absurd (no_drain j a b (before j (ap is_quiet b) h));
      gives = λ j h a b. let o = kept.gives j (left_here j (before j (ap is_quiet b) h)) a b in let y = granted_now in omega (arith, o, y);
    }

    -- THE LOOP IS OVER
    pub all_back : IsPermutation s.event.made (map (token_of s.fl s.p s.w net.fired) (done ∷ [])) → IsCaused s done
        → s.new.store ≡ with_slot s.m.store (Books.g s n l) (Books.own s n l) Empty
        → ((y : ℕ) (h : Holder) → granted_at s.p s.p.program y h s.m.store s.t.to
        ≡ (if (Books.g s n l == y) && same_holder h (Some (Books.whose s n l)) then 0 else 0))
        → ((y base : ℕ) → released_at s.p.program y base s.t.to s.event.made ≡ 0) → Followed s
    all_back made caused store grants releases = fires_follow s n l f left (record {
      account = then_fires s n l f left mine refl took spared;
      pending = IsPermutation-refl (makes s.fl s.w f ++ s.others);
      lenders = one_lends s n l f left refl (ADrained refl);
      quiet = of_made (λ (j : Item). is_quiet j.inlet.part ≡ true) refl;
      signals = of_made (λ (j : Item). j.word ≡ signal) refl;
      known = of_made (λ (j : Item). (g : ℕ) × (frame_at s.fl net.fired j.context ≡ Some g)) (framed s s.i (taken_here s));
      caused = λ j h i o. of_made (IsCaused s) caused j h;
      event = made;
      state = Empty;
      store = store;
      slot_now = sym (over_slot k book (some_yes (times c (Opener n) d.fired) (let a = opened_now in let b = opened in omega (arith, a, b))) over_now);
      keeps = keeps;
      grants = 0;
      granted_now = granted_now;
      granted = grants;
      released = releases;
    })
