-- Each step of a lane is an event that hands out frames in order; and runs of such events.
use Rattle.std.proofs.Common.{◌≡◌, refl, sym, ◌∙◌, ap, subst, ℕ, ◌*◌, ◌<◌, List, [], ◌∷◌, ◌++◌, Option, Some, None}
use Rattle.std.specs.Prelude.{IsPermutation, Ok}
use Rattle.std.proofs.lemmas.List.Sorted.{IsPermutation-refl, IsPermutation-trans}
use Rattle.tags.specs.Addresses.{element_of}
use Rattle.tags.specs.declared.token.Cont.{Cont}
use Rattle.tags.specs.declared.token.Word.{Word}
use Rattle.tags.specs.declared.token.To.{To}
use Rattle.tags.specs.declared.token.Token.{Token}
use Rattle.semantics.specs.Program.{Program}
use Rattle.semantics.specs.Machine.{Store, Machine, Size, Event, Events, Run, Happens}
use Rattle.frame_manager.specs.Managed.{Managed}
use Rattle.frame_manager.specs.Answered.{request_tokens, release_tokens}
use Rattle.element.specs.Changed.{IsRequested, IsReleased}
use Rattle.element.specs.Parts.{Shape, Part, IsPart, Manages}
use Rattle.element.specs.Holding.{Holding}
use Rattle.element.specs.Acts.{ServesFirst}
use Rattle.element.specs.Steps.{Does, IsAfter, HoldsTokens, size_of}
use Rattle.frame_order.specs.InOrder.{IsInOrder, OrderedEvent, OrderedRun}

-- THE MANAGER
requested : (h k : Option Managed) (s : Store) (c : Cont) (given : Option ℕ) (made : List Token) (n : Store) → Manages h s → made ≡ request_tokens c given
    → IsRequested h c (Ok given) k → IsInOrder s To.Manager made n
requested None k s c given made n holds is r = absurd holds
requested (Some m) None s c given made n holds is r = absurd r
requested (Some m) (Some q) s c None made n holds is r = subst (λ (ts : List Token). IsInOrder s To.Manager ts n) (sym is) tt
requested (Some m) (Some q) s c (Some f) made n holds is r = subst (λ (ts : List Token). IsInOrder s To.Manager ts n) (sym is)
    (λ g h e low. let same : g ≡ f = sym (carried f g e) in holds.out h ∙ r.0.0.least h (subst (λ (x : ℕ). h < x) same low))
  where
    frame_in : Word → ℕ
    frame_in (Word.Frame x) = x
    frame_in w = 0

    carried : (x y : ℕ) → Word.Frame x ≡ Word.Frame y → x ≡ y
    carried x y e = ap frame_in e

released : (h k : Option Managed) (s n : Store) (f : ℕ) (given : Option (Cont × ℕ)) (made : List Token) → Manages h s → Manages k n
    → made ≡ release_tokens given → IsReleased h f (Ok given) k → IsInOrder s (To.Release f) made n
released None k s n f given made holds after is r = absurd holds
released (Some m) None s n f given made holds after is r = absurd after
released (Some m) (Some q) s n f None made holds after is r = subst (λ (ts : List Token). IsInOrder s (To.Release f) ts n) (sym is) tt
released (Some m) (Some q) s n f (Some g) made holds after is r = subst (λ (ts : List Token). IsInOrder s (To.Release f) ts n) (sym is)
    (g.0, holds.requests ∙ r.0.2 ∙ ap (λ (l : List Cont). g.0 ∷ l) (sym after.requests))

-- THE PARTS. Only element 0 takes what the manager does.
pub part_in_order : (p : Program) (total : ℕ) (h k : Part) (s n : Store) (to : To) (w : Word) (made : List Token)
    → element_of h.shape.elements to ≡ h.shape.element → k.shape ≡ h.shape → IsPart h s → IsPart k n → ServesFirst h to w made k
    → Happens p total s to w made n → IsInOrder s to made n
part_in_order p total h k s n To.Manager (Word.Back c) made at same part after first happens =
    requested h.manager k.manager s c first.0 made n (part.manager (sym at)) first.1 first.2
part_in_order p total h k s n To.Manager w made at same part after first happens = absurd happens
part_in_order p total h k s n (To.Release f) w made at same part after first happens =
    released h.manager k.manager s n f first.0 made (part.manager (sym at)) (after.manager (ap (λ (z : Shape). z.element) same ∙ sym at)) first.1 first.2
part_in_order p total h k s n (To.Instr f ip port) w made at same part after first happens = tt
part_in_order p total h k s n (To.Fetch x) w made at same part after first happens = tt
part_in_order p total h k s n (To.Store x v) w made at same part after first happens = tt
part_in_order p total h k s n (To.Host j) w made at same part after first happens = tt

-- A STEP of a lane, in any machine of which the lane is the part
pub does_in_order : (p : Program) (old : Holding) (pick : ℕ) (before : List Token) (new : Holding) (after : List Token) (d : Does p old pick before new after)
    → (m : Machine) (others : List Token) (part : IsPart old.part m.store) (holds : HoldsTokens old before others m)
    → OrderedEvent p (size_of old.part.shape) old.part.shape.element d.token m (d.event m others part holds).next
does_in_order p old pick before new after d m others part holds =
    let a : IsAfter p old d.token new after others d.made m = d.event m others part holds in
    record {
      event = a.event;
      in_order = part_in_order p (old.part.shape.elements * old.part.shape.frames) old.part new.part m.store a.next.store d.token.to d.token.word a.event.made
          a.event.addressed d.shape part a.part
          (subst (λ (ts : List Token). ServesFirst old.part d.token.to d.token.word ts new.part) (sym a.makes) d.first) a.event.happens;
    }

-- RUNS
pub run_of : (p : Program) (z : Size) (old new : Machine) (events : Events) → OrderedRun p z old events new → Run p z old events new
run_of p z old new [] run = run
run_of p z old new (x ∷ later) (mid, ev, run) = (mid, ev.event, run_of p z mid new later run)

-- from a machine with the same store, and the same tokens in another order
pub event_from : (p : Program) (z : Size) (e : ℕ) (t : Token) (a b c : Machine) → IsPermutation a.pool b.pool → b.store ≡ a.store
    → OrderedEvent p z e t b c → OrderedEvent p z e t a c
event_from p z e t a b c perm same x = record {
  event = record {
    made = x.event.made;
    rest = x.event.rest;
    addressed = x.event.addressed;
    takes = IsPermutation-trans a.pool b.pool (t ∷ x.event.rest) perm x.event.takes;
    happens = subst (λ (s : Store). Happens p (z.elements * z.frames) s t.to t.word x.event.made c.store) same x.event.happens;
    leaves = x.event.leaves;
  };
  in_order = subst (λ (s : Store). IsInOrder s t.to x.event.made c.store) same x.in_order;
}

pub run_from : (p : Program) (z : Size) (a b c : Machine) (events : Events) → IsPermutation a.pool b.pool → b.store ≡ a.store
    → OrderedRun p z b events c → OrderedRun p z a events c
run_from p z a b c [] perm same run = (IsPermutation-trans a.pool b.pool c.pool perm run.0, run.1 ∙ same)
run_from p z a b c (x ∷ later) perm same (mid, ev, run) = (mid, event_from p z x.0 x.1 a b mid perm same ev, run)

-- one run after another
pub run_join : (p : Program) (z : Size) (a b c : Machine) (events later : Events) → OrderedRun p z a events b → OrderedRun p z b later c
    → OrderedRun p z a (events ++ later) c
run_join p z a b c [] later run more = run_from p z a b c later run.0 run.1 more
run_join p z a b c (x ∷ events) later (mid, ev, run) more = (mid, ev, run_join p z mid b c events later run more)

pub run_split : (p : Program) (z : Size) (a c : Machine) (events later : Events) → OrderedRun p z a (events ++ later) c
    → (b : Machine) × OrderedRun p z a events b × OrderedRun p z b later c
run_split p z a c [] later run = (a, (IsPermutation-refl a.pool, refl), run)
run_split p z a c (x ∷ events) later (mid, ev, run) = let s = run_split p z mid c events later run in (s.0, (mid, ev, s.1), s.2)

-- one more event at the end
pub run_more : (p : Program) (z : Size) (start : Machine) (events : Events) (e : ℕ) (t : Token) (mid last : Machine)
    → OrderedRun p z start events mid → OrderedEvent p z e t mid last → OrderedRun p z start (events ++ (e, t) ∷ []) last
run_more p z start events e t mid last run ev = run_join p z start mid last events ((e, t) ∷ []) run (last, ev, (IsPermutation-refl last.pool, refl))
