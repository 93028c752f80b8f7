-- The last turn asks for all credits: they are back, or it waits for them.
use Rattle.std.proofs.Common.{◌≡◌, ℕ, ◌-◌, ◌<◌, Bool, true, false, List, [], ◌∷◌, map, refl, sym, ap, ◌∙◌, subst, inl, inr, ◌⊎◌, arith, Some, None, ◌==◌, ◌&&◌}
use Rattle.std.proofs.Common.{nat_lt, eq-eqb, ne_eqb, lt-ltb, if◌then◌else◌}
use Rattle.std.specs.Prelude.{IsPermutation}
use Rattle.std.proofs.lemmas.Bool.{cases_eq}
use Rattle.lemmas.proofs.Contains.{contains_head}
use Rattle.tags.specs.declared.token.Port.TheVariants.{Left}
use Rattle.tags.specs.declared.slot.SlotState.{SlotState}
use Rattle.tags.specs.declared.slot.SlotState.TheVariants.{Empty, Draining}
use Rattle.tags.specs.declared.slot.SlotState.TheVariants as Slot
use Rattle.semantics.specs.declared.program.Op.TheVariants as Ops
use Rattle.semantics.specs.Meaning.{Context}
use Rattle.semantics.specs.Rule.{Outcome, Becomes, Excluded, drains, to_all, signal as word}
use Rattle.semantics.specs.Machine.{Fires as Happening}
use Rattle.semantics.specs.Holders.{Holder, same_holder}
use Rattle.semantics.specs.Credits.{granted_at, granted_by}
use Rattle.law_fresh_frames.specs.Alike.{plain_dests}
use Rattle.law_net.specs.ContextsParts.{Opener, Giver, Taker, Drainer, LoopDone, Inlet, inlet, signal, Item, item}
use Rattle.law_net.specs.ContextsBlocks.{side, is_loop}
use Rattle.law_net.specs.Contexts.{block_in, wiring_in}
use Rattle.law_net.specs.ContextsCredits.{Ledger, slot_for}
use Rattle.law_net.specs.ContextsFirings.{Config, times}
use Rattle.law_net.specs.ContextsLaws.{spot_there}
use Rattle.law_net.specs.ContextsMirror.{token_of, is_item_at, items_at, conts_of, first_cont, ledger, granted_of, KeepsCredits, is_instr}
use Rattle.law_net.proofs.CreditsTaken as Taken
use Rattle.law_machine_refines_net.specs.MovesCases.{Taking, IsCaused, net_of, Followed}
use Rattle.law_machine_refines_net.proofs.MovesLists.{kept_no, count_same, contains_one}
use Rattle.law_machine_refines_net.proofs.MovesFitted.{fits, code, taken_here}
use Rattle.law_machine_refines_net.proofs.SendsRules as Rules
use Rattle.law_machine_refines_net.proofs.SendsInwards.{carried_as}
use Rattle.law_machine_refines_net.proofs.CreditsLenders.{LDrainer}
use Rattle.law_machine_refines_net.proofs.CreditsBooks as Books
use Rattle.law_machine_refines_net.proofs.CreditsBooks.{waited, waits_follow}
use Rattle.law_machine_refines_net.proofs.CreditsLedgers.{free_slot, drain_slot, item_more, item_else, item_not, some_yes}
use Rattle.law_machine_refines_net.proofs.CreditsSignals.{Goals, sent, used}
use Rattle.law_machine_refines_net.proofs.CreditsStanding.{taken_there, waited_there, waited_perm}
use Rattle.law_machine_refines_net.proofs.CreditsDrained.{all_back}

module _ (s : Taking) (n : ℕ) (e : s.i.inlet.part ≡ Drainer n) where
  l : is_loop (block_in s.fl s.i.context) n ≡ true
  l = sym (ap (spot_there s.fl s.w s.i.context) e) ∙ (fits s s.i (taken_here s)).there

  abbrev net : Config
  net = net_of s

  abbrev c : Context
  c = s.i.context

  abbrev t : Taking
  t = carried_as s (Drainer n) e

  abbrev k : ℕ
  k = Books.bound s n l

  abbrev log : Ledger
  log = Books.book s n l

  mine : (wiring_in s.fl s.w c).slot (Drainer n) ≡ Books.own s n l
  mine = ((code s s.i (taken_here s)).laid.loops n l).2

  -- WHAT HOLDS BEFORE
  opened : 0 < times c (Opener n) net.fired
  opened = Taken.drainer_opened s.fl s.p s.w s.inputs s.q s.m s.good s.keeps c (Books.con s n l) n l s.i (taken_there s) refl e

  open_is : log.opened ≡ true
  open_is = some_yes (times c (Opener n) net.fired) opened

  over_is : log.over ≡ false
  over_is = Taken.drainer_over s.fl s.p s.w s.inputs s.q s.m s.good s.keeps c (Books.con s n l) n l s.i (taken_there s) refl e

  draining_is : log.draining ≡ false
  draining_is = Taken.drainer_draining s.fl s.p s.w s.inputs s.q s.m s.good s.keeps c (Books.con s n l) n l s.i (taken_there s) refl e

  waiter_is : log.waiter ≡ None
  waiter_is = Taken.drainer_waiter s.fl s.p s.w s.inputs s.q s.m s.good s.keeps c (Books.con s n l) n l s.i (taken_there s) refl e

  given_is : log.given ≡ items_at c (Giver n) net.waiting
  given_is = ap (λ (o : Bool). if o then granted_of net c n else items_at c (Giver n) net.waiting) over_is

  kept : KeepsCredits s.fl s.p s.w net c n
  kept = s.keeps.tracks.credits c n (Books.con s n l) l

  abbrev left : ℕ
  left = k - (log.granted - log.given)

  free : slot_for k log ≡ Slot.Credits left
  free = free_slot k log open_is over_is draining_is waiter_is

  not_giver : s.i.inlet.part ≡ Giver n → ⊥
  not_giver h = let z : Drainer n ≡ Giver n = sym e ∙ h in absurd (cc)

  not_taker : s.i.inlet.part ≡ Taker n → ⊥
  not_taker h = let z : Drainer n ≡ Taker n = sym e ∙ h in absurd (cc)

  -- WHAT THE MACHINE DOES
  abbrev Arrives : Outcome → Type 0
  Arrives o = Happening s.m.store (Books.g s n l) (Some (Books.own s n l)) o s.event.made s.new.store

  abbrev Counts : ℕ → Type 0
  Counts x =
      (f : ℕ) (h : Holder) → granted_at s.p s.p.program f h s.m.store s.t.to
      ≡ (if (Books.g s n l == f) && same_holder h (Some (Books.whose s n l)) then x else 0)

  did : Arrives (drains (Rules.at t refl) (Rules.instr t refl) k (Slot.Credits left))
  did =
      subst (λ (x : SlotState). Arrives (drains (Rules.at t refl) (Rules.instr t refl) k x)) free
      (Books.does s n l (Drainer n) e refl refl mine (Ops.Drain k) refl (λ y. refl))

  grants : Counts 0
  grants = subst (λ (x : SlotState). Counts (granted_by (Ops.Drain k) x)) free (Books.granted s n l (Drainer n) e refl refl mine (Ops.Drain k) refl (λ y. refl))

  -- ALL ARE BACK
  ends : left ≡ k → Followed s
  ends full =
      all_back s n l s.i (contains_head s.i net.waiting) refl e (LDrainer e) count event caused m.1 grants
      (Books.released s n l (Drainer n) e refl refl mine (Ops.Drain k) refl (λ y. refl) (λ f base made. refl))
    where
      m : Arrives (Becomes Empty (to_all (Rules.at t refl) word (Rules.instr t refl)))
      m =
          subst (λ (b : Bool). Arrives (if b then Becomes Empty (to_all (Rules.at t refl) word (Rules.instr t refl)) else if nat_lt left k
          then Becomes (Draining (k - left)) [] else Excluded 3)) (eq-eqb left k full) did

      count : items_at c (Giver n) (s.i ∷ net.waiting) ≡ granted_of net c n
      count =
          let a = item_else c (Giver n) s.i net.waiting not_giver in let b = given_is in let g = kept.law.given in let h = kept.law.bound in
          omega (arith, a, b, g, h, full)

      none : (wiring_in s.fl s.w c).wire (side (Drainer n) false) ≡ []
      none = (code s s.i (taken_here s)).lawful.fed.sides (side (Drainer n) false) (inr refl)

      goals : Goals s (Drainer n) e refl refl ≡ inlet (LoopDone n) Left 0 ∷ []
      goals = ap (λ x. inlet (LoopDone n) Left 0 ∷ x) none

      event : IsPermutation s.event.made (map (token_of s.fl s.p s.w net.fired) (item c (inlet (LoopDone n) Left 0) signal ∷ []))
      event =
          sent s (Drainer n) e refl refl m.0 (inlet (LoopDone n) Left 0 ∷ []) goals
          (λ x h. ap (λ (x : Inlet). is_instr x.part) (sym (contains_one (inlet (LoopDone n) Left 0) x h)))

      op_is : (Rules.instr t refl).op ≡ Ops.Drain k
      op_is = Books.op_is s n l (Drainer n) e refl refl mine (Ops.Drain k) refl (λ y. refl)

      caused : IsCaused s (item c (inlet (LoopDone n) Left 0) signal)
      caused =
          used s (Drainer n) e refl refl m.0 (ap (λ o. plain_dests (Rules.instr t refl) o) op_is)
          (λ x h. let z : Ops.Drain k ≡ Ops.Give x = sym op_is ∙ h in absurd (cc)) (inlet (LoopDone n) Left 0) (contains_head (inlet (LoopDone n) Left 0) _)

  -- IT WAITS for them
  module _ (some : left ≡ k → ⊥) where
    abbrev w : Config
    w = waited s n l

    abbrev later : Ledger
    later = ledger s.fl s.p s.w w c n

    given_now : later.given ≡ items_at c (Giver n) net.waiting
    given_now =
        ap (λ (o : Bool). if o then granted_of net c n else items_at c (Giver n) (s.i ∷ net.waiting)) over_is ∙ item_else c (Giver n) s.i net.waiting not_giver

    draining_now : later.draining ≡ true
    draining_now = some_yes (items_at c (Drainer n) (s.i ∷ net.waiting)) (let a = item_more c (Drainer n) s.i net.waiting refl e in omega (arith, a))

    waiter_now : later.waiter ≡ None
    waiter_now =
        ap (λ (items : List Item). first_cont (conts_of s.fl s.p s.w net.fired items))
        (kept_no (is_item_at c (Taker n)) s.i net.waiting (item_not c (Taker n) s.i not_taker)) ∙ waiter_is

    below : left < k
    below = omega (arith, some)

    more : later.given < later.granted
    more = let a = given_now in let b = given_is in let g = kept.law.given in omega (arith, a, b, g, some)

    keeps : KeepsCredits s.fl s.p s.w w c n
    keeps = record {
      law = record {
        given = let a = more in omega (arith, a);
        bound = let a = kept.law.bound in let b = given_is in let o = given_now in omega (arith, a, b, o);
        waits = λ x h. let z : None ≡ Some x = sym waiter_now ∙ h in absurd (cc);
        drains = λ h o. more;
      };
      takes = λ j h a b. kept.takes j (waited_there s j h) a b;
      drains = λ j h a b. let o = kept.drains j (waited_there s j h) a b in (o.0, count_same (is_item_at c (Taker n)) _ _ (waited_perm s) ∙ o.1);
      gives = λ j h a b. kept.gives j (waited_there s j h) a b;
    }

    waits : Followed s
    waits = waits_follow s n l (LDrainer e) m.0 (Draining (k - left)) m.1
        (ap (λ x. Draining x) (let a = given_now in let b = given_is in let g = kept.law.given in let h = kept.law.bound in omega (arith, a, b, g, h))
        ∙ sym (drain_slot k later open_is over_is draining_now))
        keeps grants (Books.released s n l (Drainer n) e refl refl mine (Ops.Drain k) refl (λ y. refl) (λ f base made. refl))
      where
        m : Arrives (Becomes (Draining (k - left)) [])
        m = subst (λ (b : Bool). Arrives (if b then Becomes (Draining (k - left)) [] else Excluded 3)) (lt-ltb left k below)
            (subst (λ (b : Bool). Arrives (if b then Becomes Empty (to_all (Rules.at t refl) word (Rules.instr t refl)) else if nat_lt left k
            then Becomes (Draining (k - left)) [] else Excluded 3)) (ne_eqb left k some) did)

  -- A DRAIN
  pub drainer_follows : Followed s
  drainer_follows = pick (cases_eq left k)
    where
      pick : (left ≡ k) ⊎ (left ≡ k → ⊥) → Followed s
      pick (inl h) = ends h
      pick (inr h) = waits h
