-- Each event of a loop's credits follows.
use Rattle.std.proofs.Common.{◌≡◌, ℕ, Bool, true, false, refl, inl, inr, ◌⊎◌, Option, Some, None, if◌then◌else◌}
use Rattle.std.proofs.lemmas.Bool.{cases_Bool}
use Rattle.tags.specs.declared.token.Cont.{Cont}
use Rattle.law_net.specs.ContextsParts.{Part, Line, Opener, Giver, Taker, Drainer}
use Rattle.law_net.specs.ContextsBlocks.{is_cell}
use Rattle.law_net.specs.Contexts.{block_in}
use Rattle.law_net.specs.ContextsPackages.{Inwards, OfCells, OfCredits, doing_of}
use Rattle.law_machine_refines_net.specs.MovesCases.{Taking, Followed}
use Rattle.law_machine_refines_net.specs.Moves.{AllOfCreditsFollow}
use Rattle.law_machine_refines_net.proofs.CreditsBounded.{bound_some}
use Rattle.law_machine_refines_net.proofs.MovesFitted.{fits, taken_here}
use Rattle.law_machine_refines_net.proofs.CreditsBooks as Books
use Rattle.law_machine_refines_net.proofs.CreditsOpening as Opening
use Rattle.law_machine_refines_net.proofs.CreditsOpening.{opener_follows}
use Rattle.law_machine_refines_net.proofs.CreditsGranting.{taker_follows}
use Rattle.law_machine_refines_net.proofs.CreditsDraining.{drainer_follows}
use Rattle.law_machine_refines_net.proofs.CreditsGiving as Giving
use Rattle.law_machine_refines_net.proofs.CreditsGiving.{drained_follows, kept_follows}
use Rattle.law_machine_refines_net.proofs.CreditsServing.{served_follows}

-- A GIVE, by what the slot of the loop has
giver_follows : (s : Taking) (n : ℕ) → s.i.inlet.part ≡ Giver n → Followed s
giver_follows s n e = by_drain (cases_Bool (Books.book s n (Giving.l s n e)).draining)
  where
    by_waiter : (Books.book s n (Giving.l s n e)).draining ≡ false → (o : Option Cont) → (Books.book s n (Giving.l s n e)).waiter ≡ o → Followed s
    by_waiter free None h = kept_follows s n e free h
    by_waiter free (Some x) h = served_follows s n e free x h

    by_drain : ((Books.book s n (Giving.l s n e)).draining ≡ true) ⊎ ((Books.book s n (Giving.l s n e)).draining ≡ false) → Followed s
    by_drain (inl drains) = drained_follows s n e drains
    by_drain (inr free) = by_waiter free (Books.book s n (Giving.l s n e)).waiter refl

line_not : (t : Bool) → (if t then OfCells else Inwards) ≡ OfCredits → ⊥
line_not true e = absurd (cc)
line_not false e = absurd (cc)

module _ (s : Taking) where
  of_credits : (r : Part) → s.i.inlet.part ≡ r → doing_of s.fl s.i.context r ≡ OfCredits → Followed s
  of_credits (Opener n) e d = opener_follows s n e (bound_some s.fl s.p s.w s.good s.i.context n (fits s s.i (taken_here s)).is_context (Opening.l s n e))
  of_credits (Taker n) e d = taker_follows s n e
  of_credits (Giver n) e d = giver_follows s n e
  of_credits (Drainer n) e d = drainer_follows s n e
  of_credits (Line n) e d = absurd (line_not (is_cell (block_in s.fl s.i.context) n) d)
  of_credits r e d = absurd (cc)

-- EVENTS OF CREDITS
pub credits_follow : AllOfCreditsFollow
credits_follow fl p w inputs z q m new e t good k ev fresh i others perm is_token doing =
    of_credits
    (record {
      fl = fl;
      p = p;
      w = w;
      inputs = inputs;
      z = z;
      q = q;
      m = m;
      new = new;
      e = e;
      t = t;
      good = good;
      keeps = k;
      event = ev;
      fresh = fresh;
      i = i;
      others = others;
      perm = perm;
      is_token = is_token;
    }) i.inlet.part refl doing
