-- A turn asks for its credit: it is granted, or it waits for one.
use Rattle.std.proofs.Common.{◌≡◌, ℕ, zero, suc, ◌+◌, ◌-◌, ◌<◌, Bool, true, false, List, [], ◌∷◌, ◌++◌, refl, sym, ap, ◌∙◌, subst, inr, arith, true≢false, Some}
use Rattle.std.proofs.Common.{None, ◌==◌, ◌&&◌, nat_lt, if◌then◌else◌}
use Rattle.std.specs.Prelude.{Contains}
use Rattle.std.proofs.lemmas.List.Elements.{Contains-append_right}
use Rattle.std.proofs.lemmas.List.Sorted.{IsPermutation-refl}
use Rattle.lemmas.proofs.Permutations.{permutation_same}
use Rattle.tags.specs.declared.token.Port.TheVariants.{Left}
use Rattle.tags.specs.declared.token.Cont.{Cont}
use Rattle.tags.specs.declared.token.Word.{Word}
use Rattle.tags.specs.declared.slot.SlotState.{SlotState}
use Rattle.tags.specs.declared.slot.SlotState.TheVariants.{Waiter}
use Rattle.tags.specs.declared.slot.SlotState.TheVariants as Slot
use Rattle.semantics.specs.declared.program.Op.TheVariants as Ops
use Rattle.semantics.specs.Meaning.{Context}
use Rattle.semantics.specs.Rule as Rule
use Rattle.semantics.specs.Machine.{Fires as Happening}
use Rattle.semantics.specs.Holders.{Holder, same_holder}
use Rattle.semantics.specs.Credits.{granted_at, granted_by}
use Rattle.law_net.specs.ContextsParts.{Opener, Giver, Taker, Drainer, Drained, NextFramer, inlet, signal, BackTo, Item, item, Firing}
use Rattle.law_net.specs.ContextsBlocks.{is_loop}
use Rattle.law_net.specs.Contexts.{block_in, wiring_in}
use Rattle.law_net.specs.ContextsCredits.{Ledger, slot_for}
use Rattle.law_net.specs.ContextsFirings.{Config, takes, makes, times, frame_at, turn_before}
use Rattle.law_net.specs.ContextsLaws.{spot_there}
use Rattle.law_net.specs.ContextsMirror.{only, named_by, frame_of, ip_of, word_of, is_item_at, items_at, cont_in, conts_of, first_cont, ledger, granted_of}
use Rattle.law_net.specs.ContextsMirror.{KeepsCredits, WasUsed}
use Rattle.law_net.proofs.CreditsTaken as Taken
use Rattle.law_net.proofs.Credits as Credits
use Rattle.law_net.proofs.Credits.{none_passes}
use Rattle.law_net.proofs.RunsMatching.{word_at}
use Rattle.law_net.proofs.RunsPigeons.{item_here, item_there}
use Rattle.law_machine_refines_net.specs.MovesCases.{Taking, IsCaused, net_of, Followed, is_quiet}
use Rattle.law_machine_refines_net.proofs.MovesLists.{kept_yes, contains_one}
use Rattle.law_machine_refines_net.proofs.MovesStill.{times_no}
use Rattle.law_machine_refines_net.proofs.MovesAccount.{alone_fires}
use Rattle.law_machine_refines_net.proofs.MovesFitted.{fits, code, bare, bare_item, taken_here, among, IsHere}
use Rattle.law_machine_refines_net.proofs.Sends.{firing_of}
use Rattle.law_machine_refines_net.proofs.SendsInwards.{carried_as}
use Rattle.law_machine_refines_net.proofs.CreditsLenders.{ATaker, LTaker}
use Rattle.law_machine_refines_net.proofs.CreditsBooks as Books
use Rattle.law_machine_refines_net.proofs.CreditsBooks.{waited, waits_follow, gone, one_lends, fires_follow}
use Rattle.law_machine_refines_net.proofs.CreditsLedgers.{free_slot, waiter_slot, times_more, item_else, some_yes}
use Rattle.law_machine_refines_net.proofs.CreditsStanding.{taken_there, rest_there, was_there, waited_there, no_twin, spot_here}

module _ (s : Taking) (n : ℕ) (e : s.i.inlet.part ≡ Taker n) where
  pub l : is_loop (block_in s.fl s.i.context) n ≡ true
  l = sym (ap (spot_there s.fl s.w s.i.context) e) ∙ (fits s s.i (taken_here s)).there

  abbrev net : Config
  net = net_of s

  abbrev c : Context
  c = s.i.context

  abbrev t : Taking
  t = carried_as s (Taker n) e

  abbrev k : ℕ
  k = Books.bound s n l

  abbrev log : Ledger
  log = Books.book s n l

  -- the turn that asks
  abbrev turn : Context
  turn = turn_before c n s.i.inlet.way

  abbrev cont : Cont
  cont = Cont.Frame (frame_of s.fl net.fired turn) (ip_of s.fl s.p s.w turn NextFramer) Left

  mine : (wiring_in s.fl s.w c).slot (Taker n) ≡ Books.own s n l
  mine = ((code s s.i (taken_here s)).laid.loops n l).1

  word_is : s.i.word ≡ BackTo turn (inlet NextFramer Left 0)
  word_is =
      word_at s.fl s.p s.w s.inputs s.q s.m s.good s.keeps s.i (among s s.i (taken_here s)) c refl (Taker n) e Left
      (Books.on_left s n l (Taker n) e refl refl mine)

  word : word_of s.fl s.p s.w net.fired s.i.word ≡ Word.Back cont
  word = ap (word_of s.fl s.p s.w net.fired) word_is

  -- WHAT HOLDS BEFORE
  opened : 0 < times c (Opener n) net.fired
  opened = Taken.taker_opened s.fl s.p s.w s.inputs s.q s.m s.good s.keeps c (Books.con s n l) n l s.i (taken_there s) refl e

  open_is : log.opened ≡ true
  open_is = some_yes (times c (Opener n) net.fired) opened

  way_is : s.i.inlet.way ≡ granted_of net c n
  way_is = Taken.taker_turn s.fl s.p s.w s.inputs s.q s.m s.good s.keeps c (Books.con s n l) n l s.i (taken_there s) refl e

  over_is : log.over ≡ false
  over_is = Taken.taker_over s.fl s.p s.w s.inputs s.q s.m s.good s.keeps c (Books.con s n l) n l s.i (taken_there s) refl e

  draining_is : log.draining ≡ false
  draining_is = Taken.taker_draining s.fl s.p s.w s.inputs s.q s.m s.good s.keeps c (Books.con s n l) n l s.i (taken_there s) refl e

  waiter_is : log.waiter ≡ None
  waiter_is = Taken.taker_waiter s.fl s.p s.w s.inputs s.q s.m s.good s.keeps c (Books.con s n l) n l s.i (taken_there s) refl e

  given_is : log.given ≡ items_at c (Giver n) net.waiting
  given_is = ap (λ (o : Bool). if o then granted_of net c n else items_at c (Giver n) net.waiting) over_is

  kept : KeepsCredits s.fl s.p s.w net c n
  kept = s.keeps.tracks.credits c n (Books.con s n l) l

  free : slot_for k log ≡ Slot.Credits (k - (log.granted - log.given))
  free = free_slot k log open_is over_is draining_is waiter_is

  -- no drain has arrived, and no other turn asks
  no_drain : (j : Item) → IsHere s j → j.context ≡ c → j.inlet.part ≡ Drainer n → ⊥
  no_drain j h a b =
      Credits.no_take s.fl s.p s.w s.inputs s.q s.m s.good s.keeps c (Books.con s n l) n l s.i (taken_there s) refl (Taker n) e j h a b s.i
      (taken_here s) refl e

  no_other : (j : Item) → Contains (s.others ++ net.waiting) j → j.context ≡ c → j.inlet.part ≡ Taker n → ⊥
  no_other j h a b =
      let o = kept.takes j (rest_there s j h) a b in
      no_twin s j h (spot_here s n l s.i (taken_here s) refl (Taker n) e refl s.i.inlet.way refl
      ∙ sym (spot_here s n l j (rest_there s j h) a (Taker n) b refl s.i.inlet.way (o ∙ sym way_is)))

  -- WHAT THE MACHINE DOES
  abbrev Takes : SlotState → Type 0
  Takes x = Happening s.m.store (Books.g s n l) (Some (Books.own s n l)) (Rule.takes x (Word.Back cont)) s.event.made s.new.store

  abbrev Grants : SlotState → Type 0
  Grants x =
      (f : ℕ) (h : Holder) → granted_at s.p s.p.program f h s.m.store s.t.to
      ≡ (if (Books.g s n l == f) && same_holder h (Some (Books.whose s n l)) then granted_by (Ops.Take k) x else 0)

  took_place : Takes (slot_for k log)
  took_place =
      subst (λ (w : Word). Happening s.m.store (Books.g s n l) (Some (Books.own s n l)) (Rule.takes (slot_for k log) w) s.event.made s.new.store) word
      (Books.does s n l (Taker n) e refl refl mine (Ops.Take k) refl (λ y. refl))

  did : (x : ℕ) → k - (log.granted - log.given) ≡ x → Takes (Slot.Credits x)
  did x h = subst Takes (free ∙ ap (λ x. Slot.Credits x) h) took_place

  grants : (x : ℕ) → k - (log.granted - log.given) ≡ x → Grants (Slot.Credits x)
  grants x h = subst Grants (free ∙ ap (λ x. Slot.Credits x) h) (Books.granted s n l (Taker n) e refl refl mine (Ops.Take k) refl (λ y. refl))

  -- IT WAITS for a credit
  module _ (none : k - (log.granted - log.given) ≡ 0) where
    abbrev w : Config
    w = waited s n l

    abbrev later : Ledger
    later = ledger s.fl s.p s.w w c n

    waits_given : later.given ≡ items_at c (Giver n) net.waiting
    waits_given =
        ap (λ (o : Bool). if o then granted_of net c n else items_at c (Giver n) (s.i ∷ net.waiting)) over_is
        ∙ item_else c (Giver n) s.i net.waiting (λ h. let z : Taker n ≡ Giver n = sym e ∙ h in absurd (cc))

    waits_draining : later.draining ≡ false
    waits_draining = ap (λ x. nat_lt 0 x) (item_else c (Drainer n) s.i net.waiting (λ h. let z : Taker n ≡ Drainer n = sym e ∙ h in absurd (cc))) ∙ draining_is

    waits_waiter : later.waiter ≡ Some cont
    waits_waiter =
        ap (λ (items : List Item). first_cont (conts_of s.fl s.p s.w net.fired items))
        (kept_yes (is_item_at c (Taker n)) s.i net.waiting (item_here c (Taker n) s.i refl e))
        ∙ ap (λ (x : Word). first_cont (cont_in x ++ conts_of s.fl s.p s.w net.fired (only (is_item_at c (Taker n)) net.waiting))) word

    waits_keep : KeepsCredits s.fl s.p s.w w c n
    waits_keep = record {
      law = record {
        given = let a = kept.law.given in let b = given_is in let o = waits_given in omega (arith, a, b, o);
        bound = let a = kept.law.bound in let b = given_is in let o = waits_given in omega (arith, a, b, o);
        waits =
            λ x h.
            (let a = kept.law.bound in let g = kept.law.given in let b = given_is in let o = waits_given in omega (arith, a, g, b, o, none), waits_draining);
        drains = λ h o. absurd (true≢false (sym h ∙ waits_draining));
      };
      takes = λ j h a b. kept.takes j (waited_there s j h) a b;
      drains = λ j h a b. absurd (no_drain j (waited_there s j h) a b);
      gives = λ j h a b. kept.gives j (waited_there s j h) a b;
    }

    take_waits : Takes (Slot.Credits 0) → Followed s
    take_waits m =
        waits_follow s n l (LTaker e) m.0 (Waiter cont) m.1
        (sym (waiter_slot k later open_is over_is cont waits_draining waits_waiter)) waits_keep (grants 0 none)
        (Books.released s n l (Taker n) e refl refl mine (Ops.Take k) refl (λ y. refl) (λ f base made. refl))

  -- IT IS GRANTED
  module _ (x : ℕ) (some : k - (log.granted - log.given) ≡ suc x) where
    abbrev f : Firing
    f = firing_of t s.i.inlet.way s.i.word signal

    abbrev d : Config
    d = gone s n l f net.waiting

    abbrev more : Ledger
    more = ledger s.fl s.p s.w d c n

    abbrev asks : Item
    asks = item turn (inlet NextFramer Left 0) signal

    took : takes s.fl f ≡ s.i ∷ []
    took =
        sym (λ x. bare_item t.i (bare t t.i (taken_here t) refl) (Taker n) Left s.i.inlet.way refl (Books.on_left s n l (Taker n) e refl refl mine) refl x ∷ [])
        ∙ (λ
        x. record { context = s.i.context; inlet = record { part = sym e x; port = s.i.inlet.port; way = s.i.inlet.way }; word = s.i.word; held = s.i.held }
        ∷ [])

    opened_now : times c (Opener n) d.fired ≡ times c (Opener n) net.fired
    opened_now = times_no c (Opener n) f net.fired refl

    taken_now : times c (Taker n) d.fired ≡ 1 + times c (Taker n) net.fired
    taken_now = times_more c (Taker n) f net.fired refl refl

    granted_now : granted_of d c n ≡ granted_of net c n + 1
    granted_now = let a = opened_now in let b = taken_now in omega (arith, a, b)

    over_now : more.over ≡ false
    over_now = ap (λ x. nat_lt 0 x) (times_no c (Drained n) f net.fired refl) ∙ over_is

    given_now : more.given ≡ items_at c (Giver n) net.waiting
    given_now = ap (λ (o : Bool). if o then granted_of d c n else items_at c (Giver n) net.waiting) over_now

    waiter_now : more.waiter ≡ None
    waiter_now =
        ap (λ (items : List Item). first_cont (conts_of s.fl s.p s.w d.fired items))
        (none_passes (is_item_at c (Taker n)) net.waiting
        (λ j h o. let a = item_there c (Taker n) j o in no_other j (Contains-append_right s.others net.waiting j h) a.0 a.1))

    slot_now : slot_for k more ≡ Slot.Credits x
    slot_now =
        free_slot k more (some_yes (times c (Opener n) d.fired) (let a = opened_now in let b = opened in omega (arith, a, b))) over_now draining_is waiter_now
        ∙ ap (λ x. Slot.Credits x) (let a = granted_now in let b = given_now in let o = given_is in let h = kept.law.given in omega (arith, a, b, o, h, some))

    one_made : (j : Item) → Contains (makes s.fl s.w f) j → asks ≡ j
    one_made j h = contains_one asks j h

    of_made : (P : Item → Type 0) → P asks → (j : Item) → Contains (makes s.fl s.w f) j → P j
    of_made P h j c = subst P (one_made j c) h

    was_asked : WasUsed s.p s.q.steps (frame_of s.fl net.fired turn) (ip_of s.fl s.p s.w turn NextFramer) Left
    was_asked =
        let zero_is : ip_of s.fl s.p s.w turn NextFramer + 0 ≡ ip_of s.fl s.p s.w turn NextFramer = omega arith in
        subst (λ ip. WasUsed s.p s.q.steps (frame_of s.fl net.fired turn) ip Left) zero_is
        (s.keeps.tracks.asked s.i turn (inlet NextFramer Left 0) 0 (taken_here s) word_is (omega arith))

    before : (j : Item) → is_quiet j.inlet.part ≡ false → Contains (d.pending ++ d.waiting) j → Contains (s.others ++ net.waiting) j
    before j o h = was_there s (makes s.fl s.w f) net.waiting (of_made (λ (j : Item). is_quiet j.inlet.part ≡ true) refl) j o h

    keeps : KeepsCredits s.fl s.p s.w d c n
    keeps = record {
      law = record {
        given = let a = granted_now in let b = given_now in let o = given_is in let h = kept.law.given in omega (arith, a, b, o, h);
        bound = let a = granted_now in let b = given_now in let o = given_is in let h = kept.law.given in omega (arith, a, b, o, h, some);
        waits = λ y h. let z : None ≡ Some y = sym waiter_now ∙ h in absurd (cc);
        drains = λ h o. absurd (true≢false (sym h ∙ draining_is));
      };
      takes = λ j h a b. absurd (no_other j (before j (ap is_quiet b) h) a b);
      drains = λ j h a b. absurd (no_drain j (rest_there s j (before j (ap is_quiet b) h)) a b);
      gives = λ j h a b. let o = kept.gives j (rest_there s j (before j (ap is_quiet b) h)) a b in let y = granted_now in omega (arith, o, y);
    }

    take_fires : Takes (Slot.Credits (suc x)) → Followed s
    take_fires m = fires_follow s n l f net.waiting (record {
      account = alone_fires s (Books.Lent s n l) f took tt;
      pending = IsPermutation-refl (makes s.fl s.w f ++ s.others);
      lenders = one_lends s n l f net.waiting refl (ATaker refl);
      quiet = of_made (λ (j : Item). is_quiet j.inlet.part ≡ true) refl;
      signals = of_made (λ (j : Item). j.word ≡ signal) refl;
      known =
          of_made (λ (j : Item). (g : ℕ) × (frame_at s.fl net.fired j.context ≡ Some g))
          (s.keeps.tracks.stands.named s.i turn (among s s.i (taken_here s)) (ap named_by word_is));
      caused = λ j h i o. of_made (IsCaused s) (inr was_asked) j h;
      event = permutation_same _ _ m.0;
      state = Slot.Credits x;
      store = m.1;
      slot_now = sym slot_now;
      keeps = keeps;
      grants = 1;
      granted_now = granted_now;
      granted = grants (suc x) some;
      released = Books.released s n l (Taker n) e refl refl mine (Ops.Take k) refl (λ y. refl) (λ f base made. refl);
    })

  -- A TAKE
  pub taker_follows : Followed s
  taker_follows = go (k - (log.granted - log.given)) refl
    where
      go : (x : ℕ) → k - (log.granted - log.given) ≡ x → Followed s
      go zero h = take_waits h (did zero h)
      go (suc x) h = take_fires x h (did (suc x) h)
