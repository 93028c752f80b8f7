-- A loop is opened: its first turn is granted.
use Rattle.std.proofs.Common.{◌≡◌, ℕ, ◌-◌, ◌<◌, Bool, true, false, List, [], ◌∷◌, ◌++◌, refl, sym, ap, ◌∙◌, subst, arith, true≢false, Some, None, ◌==◌, ◌&&◌}
use Rattle.std.proofs.Common.{if◌then◌else◌}
use Rattle.std.specs.Prelude.{Contains}
use Rattle.std.proofs.lemmas.List.Sorted.{IsPermutation-refl}
use Rattle.std.proofs.lemmas.List.Elements.{Contains-append_right}
use Rattle.lemmas.proofs.Contains.{contains_mapped}
use Rattle.tags.specs.declared.token.Port.TheVariants.{Left}
use Rattle.tags.specs.declared.slot.SlotState.{SlotState}
use Rattle.tags.specs.declared.slot.SlotState.TheVariants.{Empty}
use Rattle.tags.specs.declared.slot.SlotState.TheVariants as Slot
use Rattle.semantics.specs.declared.program.Op.TheVariants as Ops
use Rattle.semantics.specs.Rule.{on_left, opens}
use Rattle.semantics.specs.Machine.{Fires as Happening}
use Rattle.semantics.specs.Credits.{granted_by}
use Rattle.semantics.specs.Holders.{same_holder}
use Rattle.law_fresh_frames.specs.Alike.{plain_dests}
use Rattle.law_net.specs.ContextsParts.{Opener, Giver, Taker, Drainer, Drained, Inlet, signal, Item, item, Firing}
use Rattle.law_net.specs.ContextsBlocks.{side, is_loop}
use Rattle.law_net.specs.Contexts.{block_in, site_in, wiring_in}
use Rattle.law_net.specs.ContextsCredits.{Ledger, slot_for}
use Rattle.law_net.specs.ContextsFirings.{Config, takes, makes, times, frame_at}
use Rattle.law_net.specs.ContextsLaws.{spot_there}
use Rattle.law_net.specs.ContextsMirror.{is_item_at, items_at, conts_of, first_cont, ledger, granted_of, KeepsCredits, is_instr}
use Rattle.law_net.proofs.CreditsTaken as Taken
use Rattle.law_net.proofs.Credits.{none_passes}
use Rattle.law_net.proofs.RunsPigeons.{item_there}
use Rattle.law_machine_refines_net.specs.MovesCases.{Taking, IsCaused, net_of, Followed, is_quiet}
use Rattle.law_machine_refines_net.proofs.MovesSites.{there_instr}
use Rattle.law_machine_refines_net.proofs.MovesStill.{times_no}
use Rattle.law_machine_refines_net.proofs.MovesAccount.{alone_fires}
use Rattle.law_machine_refines_net.proofs.MovesFitted.{fits, code, framed, bare, bare_item, taken_here, IsHere, plain_way}
use Rattle.law_machine_refines_net.proofs.SendsRules as Rules
use Rattle.law_machine_refines_net.proofs.Sends.{firing_of}
use Rattle.law_machine_refines_net.proofs.SendsInwards.{carried_as}
use Rattle.law_machine_refines_net.proofs.CreditsLenders.{AnOpener}
use Rattle.law_machine_refines_net.proofs.CreditsBooks as Books
use Rattle.law_machine_refines_net.proofs.CreditsBooks.{gone, Fired, one_lends, fires_follow}
use Rattle.law_machine_refines_net.proofs.CreditsLedgers.{free_slot, times_more, no_items, some_yes, none_no, no_none}
use Rattle.law_machine_refines_net.proofs.CreditsSignals.{fed_quiet, sent, used}
use Rattle.law_machine_refines_net.proofs.CreditsStanding.{taken_there, rest_there, was_there, no_take_yet, no_give_yet, no_drain_yet, none_taken_yet}
use Rattle.law_machine_refines_net.proofs.CreditsStanding.{none_over_yet}

module _ (s : Taking) (n : ℕ) (e : s.i.inlet.part ≡ Opener n) where
  pub l : is_loop (block_in s.fl s.i.context) n ≡ true
  l = sym (ap (spot_there s.fl s.w s.i.context) e) ∙ (fits s s.i (taken_here s)).there

  abbrev net : Config
  net = net_of s

  abbrev t : Taking
  t = carried_as s (Opener n) e

  abbrev k : ℕ
  k = Books.bound s n l

  closed : (Books.book s n l).opened ≡ false
  closed = Taken.closed s.fl s.p s.w s.inputs s.q s.m s.good s.keeps s.i.context (Books.con s n l) n l s.i (taken_there s) refl e

  never : times s.i.context (Opener n) net.fired ≡ 0
  never = no_none (times s.i.context (Opener n) net.fired) closed

  abbrev f : Firing
  f = firing_of t 0 s.i.word signal

  abbrev d : Config
  d = gone s n l f net.waiting

  took : takes s.fl f ≡ s.i ∷ []
  took =
      let h = fits t t.i (taken_here t) in
      let way = plain_way s.fl s.i.context (Opener n) s.i.inlet.port s.i.inlet.way refl h.way in
      sym (λ x. bare_item t.i (bare t t.i (taken_here t) refl) (Opener n) Left 0 refl (Books.on_left s n l (Opener n) e refl refl refl) way x ∷ [])
      ∙ (λ x. record { context = s.i.context; inlet = record { part = sym e x; port = s.i.inlet.port; way = s.i.inlet.way }; word = s.i.word; held = s.i.held }
      ∷ [])

  -- what the machine does
  abbrev Opens : SlotState → Type 0
  Opens x =
      Happening s.m.store (Books.g s n l) (Some (Books.own s n l)) (on_left Left (opens (Rules.at t refl) (Rules.instr t refl) k x)) s.event.made s.new.store

  empty : slot_for k (Books.book s n l) ≡ Empty
  empty =
      ap
      (λ (o : Bool). slot_for k
      (record {
        opened = o;
        granted = (Books.book s n l).granted;
        given = (Books.book s n l).given;
        waiter = (Books.book s n l).waiter;
        draining = (Books.book s n l).draining;
        over = (Books.book s n l).over;
      })) closed

  did : Opens Empty
  did = subst Opens empty (Books.does s n l (Opener n) e refl refl refl (Ops.Open k) refl (λ y. refl))

  -- WIRES
  wired : (x : Inlet) → Contains ((wiring_in s.fl s.w s.i.context).wire (side (Opener n) false)) x → (is_instr x.part ≡ true) × (is_quiet x.part ≡ true)
  wired x h =
      let a = (code s s.i (taken_here s)).lawful.fed.inlets (side (Opener n) false) x l h in
      let i = there_instr s.fl (site_in s.fl s.w s.i.context) (wiring_in s.fl s.w s.i.context) x.part a.0 in
      (i, fed_quiet (block_in s.fl s.i.context) x.part i a.3)

  where_made : (j : Item) → Contains (makes s.fl s.w f) j
      → (x : Inlet) × Contains ((wiring_in s.fl s.w s.i.context).wire (side (Opener n) false)) x × (item s.i.context x signal ≡ j)
  where_made j h = contains_mapped (λ (x : Inlet). item s.i.context x signal) ((wiring_in s.fl s.w s.i.context).wire (side (Opener n) false)) j h

  quiet : (j : Item) → Contains (makes s.fl s.w f) j → is_quiet j.inlet.part ≡ true
  quiet j h = let o = where_made j h in ap (λ (j : Item). is_quiet j.inlet.part) (sym o.2) ∙ (wired o.0 o.1).1

  before : (j : Item) → is_quiet j.inlet.part ≡ false → Contains (d.pending ++ d.waiting) j → IsHere s j
  before j o h = rest_there s j (was_there s (makes s.fl s.w f) net.waiting quiet j o h)

  -- THE LEDGER
  opened_now : times s.i.context (Opener n) d.fired ≡ 1
  opened_now = let a = times_more s.i.context (Opener n) f net.fired refl refl in let b = never in omega (arith, a, b)

  taken_now : times s.i.context (Taker n) d.fired ≡ 0
  taken_now = times_no s.i.context (Taker n) f net.fired refl ∙ none_taken_yet s n l never

  granted_is : granted_of d s.i.context n ≡ 1
  granted_is = let a = opened_now in let b = taken_now in omega (arith, a, b)

  granted_was : granted_of net s.i.context n ≡ 0
  granted_was = let a = never in let b = none_taken_yet s n l never in omega (arith, a, b)

  waits_here : (j : Item) → Contains net.waiting j → IsHere s j
  waits_here j h = rest_there s j (waits j h)
    where
      waits : (j : Item) → Contains net.waiting j → Contains (s.others ++ net.waiting) j
      waits j h = Contains-append_right s.others net.waiting j h

  abbrev book : Ledger
  book = ledger s.fl s.p s.w d s.i.context n

  over_is : book.over ≡ false
  over_is = none_no (times s.i.context (Drained n) d.fired) (times_no s.i.context (Drained n) f net.fired refl ∙ none_over_yet s n l never)

  given_is : book.given ≡ 0
  given_is =
      ap (λ (o : Bool). if o then granted_of d s.i.context n else items_at s.i.context (Giver n) net.waiting) over_is
      ∙ no_items s.i.context (Giver n) net.waiting (λ j h a b. no_give_yet s n l never j (waits_here j h) a b)

  draining_is : book.draining ≡ false
  draining_is =
      none_no (items_at s.i.context (Drainer n) net.waiting)
      (no_items s.i.context (Drainer n) net.waiting (λ j h a b. no_drain_yet s n l never j (waits_here j h) a b))

  waiter_is : book.waiter ≡ None
  waiter_is =
      ap (λ (items : List Item). first_cont (conts_of s.fl s.p s.w d.fired items))
      (none_passes (is_item_at s.i.context (Taker n)) net.waiting
      (λ j h o. let a = item_there s.i.context (Taker n) j o in no_take_yet s n l never j (waits_here j h) a.0 a.1))

  slot_now : slot_for k book ≡ Slot.Credits (k - 1)
  slot_now =
      free_slot k book (some_yes (times s.i.context (Opener n) d.fired) (let a = opened_now in omega (arith, a))) over_is draining_is waiter_is
      ∙ ap (λ x. Slot.Credits (k - x)) (let a = granted_is in let b = given_is in omega (arith, a, b))

  module _ (some : 0 < k) where
    keeps : KeepsCredits s.fl s.p s.w d s.i.context n
    keeps = record {
      law = record {
        given = let a = granted_is in let b = given_is in omega (arith, a, b);
        bound = let a = granted_is in let b = given_is in omega (arith, a, b, some);
        waits = λ x h. let z : None ≡ Some x = sym waiter_is ∙ h in absurd (cc);
        drains = λ h o. absurd (true≢false (sym h ∙ draining_is));
      };
      takes = λ j h a b. absurd (no_take_yet s n l never j (before j (ap is_quiet b) h) a b);
      drains = λ j h a b. absurd (no_drain_yet s n l never j (before j (ap is_quiet b) h) a b);
      gives = λ j h a b. absurd (no_give_yet s n l never j (before j (ap is_quiet b) h) a b);
    }

    fired : Fired s n l f net.waiting
    fired = record {
      account = alone_fires s (Books.Lent s n l) f took tt;
      pending = IsPermutation-refl (makes s.fl s.w f ++ s.others);
      lenders = one_lends s n l f net.waiting refl (AnOpener refl);
      quiet = quiet;
      signals = λ j h. ap (λ (j : Item). j.word) (sym (where_made j h).2);
      known = λ j h. subst (λ (j : Item). (g : ℕ) × (frame_at s.fl net.fired j.context ≡ Some g)) (where_made j h).2 (framed s s.i (taken_here s));
      caused = λ j h i o. let w = where_made j h in
          subst (IsCaused s) w.2 (used s (Opener n) e refl refl did.0 (ap (λ o. plain_dests (Rules.instr t refl) o) op_is)
          (λ x y. absurd (no_give x y)) w.0 w.1);
      event = sent s (Opener n) e refl refl did.0 ((wiring_in s.fl s.w s.i.context).wire (side (Opener n) false)) refl (λ x h. (wired x h).0);
      state = Slot.Credits (k - 1);
      store = did.1;
      slot_now = sym slot_now;
      keeps = keeps;
      grants = 1;
      granted_now = let a = granted_is in let b = granted_was in omega (arith, a, b);
      granted =
          λ x h. Books.granted s n l (Opener n) e refl refl refl (Ops.Open k) refl (λ y. refl) x h
          ∙ ap (λ (y : SlotState). if (Books.g s n l == x) && same_holder h (Some (Books.whose s n l)) then granted_by (Ops.Open k) y else 0) empty;
      released = Books.released s n l (Opener n) e refl refl refl (Ops.Open k) refl (λ y. refl) (λ f base made. refl);
    }
      where
        op_is : (Rules.instr t refl).op ≡ Ops.Open k
        op_is = Books.op_is s n l (Opener n) e refl refl refl (Ops.Open k) refl (λ y. refl)

        no_give : (x : ℕ) → (Rules.instr t refl).op ≡ Ops.Give x → ⊥
        no_give x h = let z : Ops.Open k ≡ Ops.Give x = sym op_is ∙ h in absurd (cc)

    -- AN OPENER
    pub opener_follows : Followed s
    opener_follows = fires_follow s n l f net.waiting fired
