-- A turn gives its credit back: it stays free, it is one of all that are asked for, or it is the last of them.
use Rattle.std.proofs.Common.{◌≡◌, ℕ, zero, suc, ◌+◌, ◌-◌, ◌<◌, ◌≤◌, Bool, true, false, List, [], ◌∷◌, map, refl, sym, ap, ◌∙◌, subst, inr, arith, true≢false}
use Rattle.std.proofs.Common.{Some, None, ◌==◌, ◌&&◌, nat_lt, lt-ltb, if◌then◌else◌}
use Rattle.std.specs.Prelude.{IsPermutation, Contains}
use Rattle.lemmas.proofs.Contains.{contains_head, contains_tail}
use Rattle.tags.specs.declared.token.Port.TheVariants.{Left}
use Rattle.tags.specs.declared.token.Cont.{Cont}
use Rattle.tags.specs.declared.slot.SlotState.{SlotState}
use Rattle.tags.specs.declared.slot.SlotState.TheVariants.{Empty, Draining, Waiter}
use Rattle.tags.specs.declared.slot.SlotState.TheVariants as Slot
use Rattle.semantics.specs.declared.program.Op.TheVariants as Ops
use Rattle.semantics.specs.Meaning.{Context}
use Rattle.semantics.specs.Rule.{Outcome, Becomes, Excluded, gives}
use Rattle.semantics.specs.Machine.{Fires as Happening, Store, with_slot}
use Rattle.semantics.specs.Holders.{Holder, same_holder}
use Rattle.semantics.specs.Credits.{granted_at, granted_by, released_at}
use Rattle.semantics.proofs.Stores.{slot_filled}
use Rattle.law_fresh_frames.specs.Alike.{plain_dests}
use Rattle.law_net.specs.ContextsParts.{Opener, Giver, Taker, Drainer, LoopDone, Inlet, inlet, signal, Item, item}
use Rattle.law_net.specs.ContextsBlocks.{side, is_loop}
use Rattle.law_net.specs.Contexts.{block_in, wiring_in}
use Rattle.law_net.specs.ContextsCredits.{Ledger, slot_for}
use Rattle.law_net.specs.ContextsFirings.{Config, times}
use Rattle.law_net.specs.ContextsLaws.{spot_there}
use Rattle.law_net.specs.ContextsMirror.{token_of, is_item_at, items_at, conts_of, first_cont, ledger, granted_of, KeepsCredits, is_instr}
use Rattle.law_net.proofs.WiredNets.{some_of}
use Rattle.law_net.proofs.RunsPigeons.{items_total, item_there}
use Rattle.law_net.proofs.CreditsTaken as Taken
use Rattle.law_machine_refines_net.specs.MovesCases.{Taking, IsCaused, net_of, Followed}
use Rattle.law_machine_refines_net.proofs.MovesLists.{kept_no, count_same, contains_one}
use Rattle.law_machine_refines_net.proofs.MovesFitted.{fits, code, taken_here}
use Rattle.law_machine_refines_net.proofs.SendsRules as Rules
use Rattle.law_machine_refines_net.proofs.SendsInwards.{carried_as}
use Rattle.law_machine_refines_net.proofs.CreditsLenders.{LGiver}
use Rattle.law_machine_refines_net.proofs.CreditsBooks as Books
use Rattle.law_machine_refines_net.proofs.CreditsBooks.{waited, waits_follow}
use Rattle.law_machine_refines_net.proofs.CreditsLedgers.{free_slot, drain_slot, item_more, item_else, item_not, some_yes, yes_some}
use Rattle.law_machine_refines_net.proofs.CreditsSignals.{Goals, sent, used}
use Rattle.law_machine_refines_net.proofs.CreditsStanding.{taken_there, waited_there, waited_perm}
use Rattle.law_machine_refines_net.proofs.CreditsDrained.{all_back}

module _ (s : Taking) (n : ℕ) (e : s.i.inlet.part ≡ Giver n) where
  pub l : is_loop (block_in s.fl s.i.context) n ≡ true
  l = sym (ap (spot_there s.fl s.w s.i.context) e) ∙ (fits s s.i (taken_here s)).there

  abbrev net : Config
  net = net_of s

  abbrev c : Context
  c = s.i.context

  abbrev t : Taking
  t = carried_as s (Giver n) e

  abbrev k : ℕ
  k = Books.bound s n l

  abbrev log : Ledger
  log = Books.book s n l

  mine : (wiring_in s.fl s.w c).slot (Giver n) ≡ Books.own s n l
  mine = ((code s s.i (taken_here s)).laid.loops n l).0

  -- WHAT HOLDS BEFORE
  pub opened : 0 < times c (Opener n) net.fired
  opened = Taken.giver_opened s.fl s.p s.w s.inputs s.q s.m s.good s.keeps c (Books.con s n l) n l s.i (taken_there s) refl e

  open_is : log.opened ≡ true
  open_is = some_yes (times c (Opener n) net.fired) opened

  pub over_is : log.over ≡ false
  over_is = Taken.giver_over s.fl s.p s.w s.inputs s.q s.m s.good s.keeps c (Books.con s n l) n l s.i (taken_there s) refl e

  pub given_is : log.given ≡ items_at c (Giver n) net.waiting
  given_is = ap (λ (o : Bool). if o then granted_of net c n else items_at c (Giver n) net.waiting) over_is

  pub few : items_at c (Giver n) net.waiting + 1 ≤ granted_of net c n
  few = Taken.giver_counted s.fl s.p s.w s.inputs s.q s.m s.good s.keeps c (Books.con s n l) n l s.i (taken_there s) refl e

  pub kept : KeepsCredits s.fl s.p s.w net c n
  kept = s.keeps.tracks.credits c n (Books.con s n l) l

  pub not_drainer : s.i.inlet.part ≡ Drainer n → ⊥
  not_drainer h = let z : Giver n ≡ Drainer n = sym e ∙ h in absurd (cc)

  pub not_taker : s.i.inlet.part ≡ Taker n → ⊥
  not_taker h = let z : Giver n ≡ Taker n = sym e ∙ h in absurd (cc)

  -- WHAT THE MACHINE DOES
  abbrev pub Arrives : Outcome → Type 0
  Arrives o = Happening s.m.store (Books.g s n l) (Some (Books.own s n l)) o s.event.made s.new.store

  abbrev pub Gives : SlotState → Type 0
  Gives x = Arrives (gives (Rules.at t refl) (Rules.instr t refl) k x)

  abbrev pub Counts : SlotState → Type 0
  Counts x =
      (f : ℕ) (h : Holder) → granted_at s.p s.p.program f h s.m.store s.t.to
      ≡ (if (Books.g s n l == f) && same_holder h (Some (Books.whose s n l)) then granted_by (Ops.Give k) x else 0)

  pub did : (x : SlotState) → slot_for k log ≡ x → Gives x
  did x h = subst Gives h (Books.does s n l (Giver n) e refl refl mine (Ops.Give k) refl (λ y. refl))

  pub grants : (x : SlotState) → slot_for k log ≡ x → Counts x
  grants x h = subst Counts h (Books.granted s n l (Giver n) e refl refl mine (Ops.Give k) refl (λ y. refl))

  pub releases : (f base : ℕ) → released_at s.p.program f base s.t.to s.event.made ≡ 0
  releases = Books.released s n l (Giver n) e refl refl mine (Ops.Give k) refl (λ y. refl) (λ f base made. refl)

  -- IT WAITS
  abbrev w : Config
  w = waited s n l

  abbrev later : Ledger
  later = ledger s.fl s.p s.w w c n

  given_now : later.given ≡ log.given + 1
  given_now =
      let a : later.given ≡ items_at c (Giver n) (s.i ∷ net.waiting) =
      ap (λ (o : Bool). if o then granted_of net c n else items_at c (Giver n) (s.i ∷ net.waiting)) over_is in
      let b = item_more c (Giver n) s.i net.waiting refl e in let o = given_is in omega (arith, a, b, o)

  draining_now : later.draining ≡ log.draining
  draining_now = ap (λ x. nat_lt 0 x) (item_else c (Drainer n) s.i net.waiting not_drainer)

  waiter_now : later.waiter ≡ log.waiter
  waiter_now =
      ap (λ (items : List Item). first_cont (conts_of s.fl s.p s.w net.fired items))
      (kept_no (is_item_at c (Taker n)) s.i net.waiting (item_not c (Taker n) s.i not_taker))

  -- the law of the ledger after it
  keeps : ((x : Cont) → log.waiter ≡ Some x → ⊥) → (log.draining ≡ true → log.given + 1 < log.granted) → KeepsCredits s.fl s.p s.w w c n
  keeps none drains = record {
    law = record {
      given = let a = given_now in let b = given_is in let o = few in omega (arith, a, b, o);
      bound = let a = kept.law.bound in let o = given_now in omega (arith, a, o);
      waits = λ x h. absurd (none x (sym waiter_now ∙ h));
      drains = λ h o. let a = drains (sym draining_now ∙ h) in let b = given_now in omega (arith, a, b);
    };
    takes = λ j h a b. kept.takes j (waited_there s j h) a b;
    drains = λ j h a b. let o = kept.drains j (waited_there s j h) a b in (o.0, count_same (is_item_at c (Taker n)) _ _ (waited_perm s) ∙ o.1);
    gives = λ j h a b. kept.gives j (waited_there s j h) a b;
  }

  waits : (state : SlotState) → s.event.made ≡ [] → s.new.store ≡ with_slot s.m.store (Books.g s n l) (Books.own s n l) state → state ≡ slot_for k later
      → KeepsCredits s.fl s.p s.w w c n
      → ((f : ℕ) (h : Holder) → granted_at s.p s.p.program f h s.m.store s.t.to
      ≡ (if (Books.g s n l == f) && same_holder h (Some (Books.whose s n l)) then 0 else 0)) → Followed s
  waits state made store now laws counts = waits_follow s n l (LGiver e) made state store now laws counts releases

  -- ALL CREDITS ARE ASKED FOR
  module _ (drains : log.draining ≡ true) where
    drain_is : slot_for k log ≡ Draining (log.granted - log.given)
    drain_is = drain_slot k log open_is over_is drains

    -- it is the last
    ends : log.granted - log.given ≡ 1 → Gives (Draining 1) → Followed s
    ends one m =
        all_back s n l x.0 (contains_tail s.i net.waiting x.0 x.1) at.0 at.1 (LGiver e) count event caused m.1
        (grants (Draining 1) (drain_is ∙ ap (λ y. Draining y) one)) releases
      where
        x : (x : Item) × Contains net.waiting x × (is_item_at c (Drainer n) x ≡ true)
        x =
            let a = yes_some (items_at c (Drainer n) net.waiting) drains in let b = items_total c (Drainer n) net.waiting in
            some_of (is_item_at c (Drainer n)) net.waiting (omega (arith, a, b))

        at : (x.0.context ≡ c) × (x.0.inlet.part ≡ Drainer n)
        at = item_there c (Drainer n) x.0 x.2

        count : items_at c (Giver n) (s.i ∷ net.waiting) ≡ granted_of net c n
        count = let a = item_more c (Giver n) s.i net.waiting refl e in let b = given_is in let o = few in omega (arith, a, b, o, one)

        none : (wiring_in s.fl s.w c).wire (side (Giver n) false) ≡ []
        none = (code s s.i (taken_here s)).lawful.fed.sides (side (Giver n) false) (inr refl)

        goals : Goals s (Giver n) e refl refl ≡ inlet (LoopDone n) Left 0 ∷ []
        goals = ap (λ x. inlet (LoopDone n) Left 0 ∷ x) none

        event : IsPermutation s.event.made (map (token_of s.fl s.p s.w net.fired) (item c (inlet (LoopDone n) Left 0) signal ∷ []))
        event =
            sent s (Giver n) e refl refl m.0 (inlet (LoopDone n) Left 0 ∷ []) goals
            (λ x h. ap (λ (x : Inlet). is_instr x.part) (sym (contains_one (inlet (LoopDone n) Left 0) x h)))

        op_is : (Rules.instr t refl).op ≡ Ops.Give k
        op_is = Books.op_is s n l (Giver n) e refl refl mine (Ops.Give k) refl (λ y. refl)

        -- its arc is used, since the slot is empty
        empty : s.new.store.slots (Books.g s n l) (Rules.instr t refl).slot ≡ Empty
        empty =
            ap (λ (y : Store). y.slots (Books.g s n l) (Rules.instr t refl).slot) m.1
            ∙ ap (λ q. (with_slot s.m.store (Books.g s n l) (Books.own s n l) Empty).slots (Books.g s n l) q) ((Rules.stood t refl).is.slot ∙ mine)
            ∙ slot_filled s.m.store (Books.g s n l) (Books.own s n l) Empty

        caused : IsCaused s (item c (inlet (LoopDone n) Left 0) signal)
        caused =
            used s (Giver n) e refl refl m.0 (ap (λ o. plain_dests (Rules.instr t refl) o) op_is) (λ x h. empty) (inlet (LoopDone n) Left 0)
            (contains_head (inlet (LoopDone n) Left 0) _)

    -- it is not
    drains_on : (x : ℕ) → log.granted - log.given ≡ suc (suc x) → Gives (Draining (suc (suc x))) → Followed s
    drains_on x some m =
        waits (Draining (suc x)) m.0 m.1 (ap (λ y. Draining y) (let a = given_now in omega (arith, a, some))
        ∙ sym (drain_slot k later open_is over_is (draining_now ∙ drains)))
        (keeps (λ y h. true≢false (sym drains ∙ (kept.law.waits y h).1)) (λ h. omega (arith, some)))
        (grants (Draining (suc (suc x))) (drain_is ∙ ap (λ y. Draining y) some))

    drains_follow : (y : ℕ) → log.granted - log.given ≡ y → Gives (Draining y) → Followed s
    drains_follow zero h m = absurd m
    drains_follow (suc zero) h m = ends h m
    drains_follow (suc (suc x)) h m = drains_on x h m

    pub drained_follows : Followed s
    drained_follows = drains_follow (log.granted - log.given) refl (did (Draining (log.granted - log.given)) drain_is)

  -- IT STAYS FREE
  module _ (free : log.draining ≡ false) (none : log.waiter ≡ None) where
    abbrev left : ℕ
    left = k - (log.granted - log.given)

    free_is : slot_for k log ≡ Slot.Credits left
    free_is = free_slot k log open_is over_is free none

    below : left < k
    below = let a = kept.law.bound in let b = given_is in let o = few in omega (arith, a, b, o)

    m : Arrives (Becomes (Slot.Credits (left + 1)) [])
    m = subst (λ (b : Bool). Arrives (if b then Becomes (Slot.Credits (left + 1)) [] else Excluded 3)) (lt-ltb left k below) (did (Slot.Credits left) free_is)

    pub kept_follows : Followed s
    kept_follows = waits (Slot.Credits (left + 1)) m.0 m.1
        (ap (λ x. Slot.Credits x) (let a = given_now in let b = kept.law.bound in let h = given_is in let o = few in omega (arith, a, b, h, o))
        ∙ sym (free_slot k later open_is over_is (draining_now ∙ free) (waiter_now ∙ none)))
        (keeps (λ x h. let z : None ≡ Some x = sym none ∙ h in absurd (cc)) (λ h. absurd (true≢false (sym h ∙ free)))) (grants (Slot.Credits left) free_is)
