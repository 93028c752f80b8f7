-- The end of a turn: its credit goes back to the loop, which counts it as released.
use Rattle.std.proofs.Common.{◌≡◌, ℕ, ◌+◌, ◌<◌, true, refl, sym, ap, ◌∙◌, subst, arith, Some}
use Rattle.std.proofs.lemmas.Bool.Decides.{same_from_decides}
use Rattle.tags.specs.declared.token.Port.TheVariants.{Left}
use Rattle.tags.specs.declared.token.To.{To}
use Rattle.semantics.specs.Meaning.{Context, Turned}
use Rattle.semantics.specs.Orderly.{is_at}
use Rattle.law_net.specs.ContextsParts.{End, Giver, Taker, Drainer, Landing, inlet, signal, Item, item}
use Rattle.law_net.specs.ContextsBlocks.{is_loop, result_count}
use Rattle.law_net.specs.Contexts.{block_in, or_zero, IsContext}
use Rattle.law_net.specs.ContextsFirings.{frame_at}
use Rattle.law_net.specs.ContextsMirror.{frame_of, ip_of, is_item_at, granted_of}
use Rattle.law_net.proofs.WiredInvoked.{loop_invoked, code_at}
use Rattle.law_net.proofs.RunsPigeons.{item_there, item_here}
use Rattle.law_machine_refines_net.specs.MovesCases.{Taking, net_of, Followed}
use Rattle.law_machine_refines_net.proofs.MovesLoops.{Books}
use Rattle.law_machine_refines_net.proofs.OutwardsChildren.{turn_landing}
use Rattle.law_machine_refines_net.proofs.OutwardsEnded.{at_here, context, last, ending, of_both, ends_follow, one_landing, loop_lands}
use Rattle.law_machine_refines_net.proofs.OutwardsTurning.{gives_granted}

module _ (s : Taking) (d : Context) (n i : ℕ) (in_turn : s.i.context ≡ Turned d n i) (e : s.i.inlet.part ≡ End) where
  abbrev inputs : ℕ
  inputs = (block_in s.fl (Turned d n i)).inputs

  abbrev given : Item
  given = item d (inlet (Giver n) Left i) signal

  turned : IsContext s.fl (Turned d n i)
  turned = context s (Turned d n i) d n inputs i (Giver n) in_turn e

  count_is : result_count s.fl (block_in s.fl d) n ≡ inputs
  count_is = (loop_invoked s.fl s.p s.w s.good d n i turned.0 turned.1).1

  -- its turn was granted
  books : (x : Context) (m : ℕ) → Books (last s (Turned d n i) d n inputs i (Giver n) in_turn e) (ending s (Turned d n i) d n inputs i (Giver n) in_turn e) x m
  books x m = record {
    takes =
        λ j h a g. absurd (of_both s (Turned d n i) d n inputs i (Giver n) in_turn e (λ (j : Item). j.inlet.part ≡ Taker m → ⊥) (λ g. absurd (cc))
        (λ g. absurd (cc)) j h g);
    drains =
        λ j h a g. absurd (of_both s (Turned d n i) d n inputs i (Giver n) in_turn e (λ (j : Item). j.inlet.part ≡ Drainer m → ⊥) (λ g. absurd (cc))
        (λ g. absurd (cc)) j h g);
    gives =
        λ j h a g. of_both s (Turned d n i) d n inputs i (Giver n) in_turn e
        (λ (j : Item). j.context ≡ x → j.inlet.part ≡ Giver m → j.inlet.way < granted_of (net_of s) x m) (λ a g. absurd (cc)) (λ a g.
        let z : n ≡ m = cc in let o = gives_granted s d n i in_turn in
        let same : granted_of (net_of s) d n ≡ granted_of (net_of s) x m = (λ t. granted_of (net_of s) (a t) (z t)) in omega (arith, o, same)) j h a g;
  }

  counts : (h : ℕ) → frame_at s.fl (net_of s).fired d ≡ Some h → (x : Context) (m g : ℕ) → is_loop (block_in s.fl x) m ≡ true
      → frame_at s.fl (net_of s).fired x ≡ Some g
      → is_at g (ip_of s.fl s.p s.w x (Landing m 0) + inputs) Left
      (To.Instr (frame_of s.fl (net_of s).fired d) (ip_of s.fl s.p s.w d (Landing n 0) + inputs) Left) ≡ is_item_at x (Giver m) given
  counts h own x m g l f = same_from_decides {P = is_item_at x (Giver m) given ≡ true} _ _ (
    λ k.
        let a = one_landing s d n inputs h own x m g f k in let loop = subst (λ (x : Context). is_loop (block_in s.fl x) m ≡ true) a.0 l in
        let same = (code_at s.fl s.p s.w s.good d turned.0).laid.apart (Landing n 0) (Landing m 0) (loop_lands s d n inputs h own n turned.0 turned.1)
        (loop_lands s d n inputs h own m turned.0 loop) a.1 in
        let z : n ≡ m = cc in item_here x (Giver m) given (sym a.0) (ap Giver z),
    λ k.
        let a = item_there x (Giver m) given k in let o : d ≡ x = a.0 in let y = a.1 in let z : n ≡ m = cc in
        let frame : Some h ≡ Some g = sym own ∙ ap (frame_at s.fl (net_of s).fired) o ∙ f in
        at_here g (ip_of s.fl s.p s.w x (Landing m 0) + inputs) (frame_of s.fl (net_of s).fired d) (ip_of s.fl s.p s.w d (Landing n 0) + inputs)
        (ap or_zero (own ∙ frame)) (λ t. ip_of s.fl s.p s.w (o t) (Landing (z t) 0) + inputs),
  ) (λ k. k, λ k. k)

  pub turn_ends : Followed s
  turn_ends = ends_follow s (Turned d n i) d n inputs i (Giver n) in_turn e (record {
    op_is = refl;
    back = refl;
    ends = refl;
    is_q = refl;
    q_held = refl;
    place = (let a = (code_at s.fl s.p s.w s.good d turned.0).laid.credits n turned.1 in let b = a.0 in let k = count_is in omega (arith, b, k));
    low = (let a = turn_landing s.fl s.p s.w s.good d n i turned in omega (arith, a));
    books = λ x m a l. books x m;
    counts = λ h own x m g a l f. counts h own x m g l f;
  })
