-- Each event that sends into another context follows.
use Rattle.std.proofs.Common.{◌≡◌, ℕ, Bool, true, false, refl, sym, subst, true≢false, if◌then◌else◌}
use Rattle.lemmas.proofs.Bools.{first_of_and}
use Rattle.semantics.specs.Meaning.{Context, Main, Called, Turned}
use Rattle.semantics.specs.Cause.{is_turn}
use Rattle.law_net.specs.ContextsParts.{Part, Line, Linker, Sender, Result, Asker, NextSender, LastReturn, DrainReturn, End}
use Rattle.law_net.specs.ContextsBlocks.{is_cell}
use Rattle.law_net.specs.Contexts.{block_in}
use Rattle.law_net.specs.ContextsLaws.{spot_there}
use Rattle.law_net.specs.ContextsPackages.{Inwards, Outwards, OfCells, doing_of, EventsFollowBy}
use Rattle.law_machine_refines_net.specs.MovesCases.{Taking, Followed}
use Rattle.law_machine_refines_net.proofs.MovesFitted.{fits, taken_here}
use Rattle.law_machine_refines_net.proofs.HostsResults.{result_follows, end_follows}
use Rattle.law_machine_refines_net.proofs.OutwardsReturned.{call_returns}
use Rattle.law_machine_refines_net.proofs.OutwardsLinked.{link_follows}
use Rattle.law_machine_refines_net.proofs.OutwardsSent.{sender_follows}
use Rattle.law_machine_refines_net.proofs.OutwardsEnded.{call_ends}
use Rattle.law_machine_refines_net.proofs.OutwardsTurnEnded.{turn_ends}
use Rattle.law_machine_refines_net.proofs.OutwardsLastTurn.{last_returns, drain_returns}
use Rattle.law_machine_refines_net.proofs.OutwardsNexts.{next_sends, asker_follows}

module _ (s : Taking) where
  -- it is there
  there : (c : Context) → s.i.context ≡ c → (r : Part) → s.i.inlet.part ≡ r → spot_there s.fl s.w c r ≡ true
  there c a r e =
      subst (λ (c : Context). spot_there s.fl s.w c r ≡ true) a
      (subst (λ (r : Part). spot_there s.fl s.w s.i.context r ≡ true) e (fits s s.i (taken_here s)).there)

  not_line : (t : Bool) → (if t then OfCells else Inwards) ≡ Outwards → ⊥
  not_line true e = absurd (cc)
  not_line false e = absurd (cc)

  -- a result of main, or of a call
  result : (j : ℕ) → s.i.inlet.part ≡ Result j → (c : Context) → s.i.context ≡ c → Followed s
  result j e Main a = result_follows s j a e
  result j e (Called d n) a = call_returns s d n j a e
  result j e (Turned d n i) a = absurd (true≢false (sym (there (Turned d n i) a (Result j) e)))

  end : s.i.inlet.part ≡ End → (c : Context) → s.i.context ≡ c → Followed s
  end e Main a = end_follows s a e
  end e (Called d n) a = call_ends s d n a e
  end e (Turned d n i) a = turn_ends s d n i a e

  -- what only a turn has
  in_turn : (c : Context) → s.i.context ≡ c → is_turn c ≡ true → ((d : Context) (n i : ℕ) → s.i.context ≡ Turned d n i → Followed s) → Followed s
  in_turn Main a t go = absurd (true≢false (sym t))
  in_turn (Called d n) a t go = absurd (true≢false (sym t))
  in_turn (Turned d n i) a t go = go d n i a

  outward : (r : Part) → s.i.inlet.part ≡ r → doing_of s.fl s.i.context r ≡ Outwards → Followed s
  outward (Linker n) e d = link_follows s n e
  outward (Sender n i) e d = sender_follows s n i e
  outward (Result j) e d = result j e s.i.context refl
  outward End e d = end e s.i.context refl
  outward (NextSender j) e d =
      in_turn s.i.context refl (first_of_and (is_turn s.i.context) _ (there s.i.context refl (NextSender j) e)) (λ c n i a. next_sends s c n i a j e)
  outward (LastReturn j) e d =
      in_turn s.i.context refl (first_of_and (is_turn s.i.context) _ (there s.i.context refl (LastReturn j) e)) (λ c n i a. last_returns s c n i a j e)
  outward DrainReturn e d = in_turn s.i.context refl (there s.i.context refl DrainReturn e) (λ c n i a. drain_returns s c n i a e)
  outward Asker e d = in_turn s.i.context refl (there s.i.context refl Asker e) (λ c n i a. asker_follows s c n i a e)
  outward (Line n) e d = absurd (not_line (is_cell (block_in s.fl s.i.context) n) d)
  outward r e d = absurd (cc)

-- EVENTS INTO ANOTHER CONTEXT
pub outwards_follow : EventsFollowBy Outwards
outwards_follow fl p w inputs z q m new e t good k ev fresh i others perm is_token doing =
    outward
    (record {
      fl = fl;
      p = p;
      w = w;
      inputs = inputs;
      z = z;
      q = q;
      m = m;
      new = new;
      e = e;
      t = t;
      good = good;
      keeps = k;
      event = ev;
      fresh = fresh;
      i = i;
      others = others;
      perm = perm;
      is_token = is_token;
    }) i.inlet.part refl doing
