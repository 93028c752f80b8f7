-- A context that has a frame, and round which all was decided, is due, where each strict call that asked for its frame has fired.
use Rattle.std.proofs.Common.{◌≡◌, ℕ, zero, suc, ◌+◌, ℤ, Bool, true, false, ◌⊎◌, inl, inr, List, ◌++◌, Some, if◌then◌else◌, sym, ap, ◌∙◌, subst, arith}
use Rattle.std.proofs.Common.{true≢false}
use Rattle.std.specs.Prelude.{Contains}
use Rattle.std.proofs.lemmas.List.Elements.{Contains-append_right}
use Rattle.semantics.specs.Graph.{Node, Flow}
use Rattle.semantics.specs.Plan.{Plan}
use Rattle.semantics.specs.Meaning.{Context, Main, Called, Turned, block_of, arms_at, node_of, StartsWhenStrict}
use Rattle.semantics.specs.Cause.{is_turn}
use Rattle.semantics.specs.Machine.{Machine}
use Rattle.law_net.specs.ContextsParts.{Framer, Asked, NextAsked, Drained, Firing}
use Rattle.law_net.specs.ContextsBlocks.{is_loop}
use Rattle.law_net.specs.Contexts.{Wires, block_in, IsContext, child, next}
use Rattle.law_net.specs.ContextsAround.{ways_round, own_ways, earlier_turns}
use Rattle.law_net.specs.ContextsFirings.{handed_to, frame_at, HasFired}
use Rattle.law_net.specs.ContextsLaws.{spot_there}
use Rattle.law_net.specs.ContextsMirror.{Past}
use Rattle.law_net.specs.ContextsTheorem.{IsGood}
use Rattle.law_net.specs.ContextsPackages.{Keeps, InputsFit}
use Rattle.law_net.proofs.WiredSends.{first_taken, takes_first, first_context, part_there}
use Rattle.law_net.proofs.WiredNets.{taken_in}
use Rattle.law_end.proofs.OverMade.{taken_stands, fit_of, framer_by}
use Rattle.law_net.specs.ContextsOperands.{SourcesAreEarlier}
use Rattle.law_end.proofs.RestReached.{hander, Handed, ByCall, ByTurn, handed_cases}
use Rattle.law_end.proofs.RestStory.{story}
use Rattle.law_end.proofs.CausesDues.{IsDue, IsRounded, call_open, call_due, turn_due}

child_call : (fl : Flow) (d c : Context) (k n : ℕ) → child fl d k ≡ Called c n → (d ≡ c) × (k ≡ n)
child_call fl d c k n e = go (is_loop (block_in fl d) k) e
  where
    go : (t : Bool) → (if t then Turned d k 0 else Called d k) ≡ Called c n → (d ≡ c) × (k ≡ n)
    go true f = absurd (cc)
    go false f = let a : d ≡ c = cc in let b : k ≡ n = cc in (a, b)

child_turn : (fl : Flow) (d c : Context) (k n t : ℕ) → child fl d k ≡ Turned c n t → d ≡ c
child_turn fl d c k n t e = go (is_loop (block_in fl d) k) e
  where
    go : (u : Bool) → (if u then Turned d k 0 else Called d k) ≡ Turned c n t → d ≡ c
    go true f = let a : d ≡ c = cc in a
    go false f = absurd (cc)

module _ (fl : Flow) (p : Plan) (w : Wires) (inputs : List ℤ) (past : Past) (m : Machine) (good : IsGood fl p w) (fit : InputsFit fl inputs)
    (kept : Keeps fl p w inputs past m) (earlier : SourcesAreEarlier fl) where
  abbrev done : List Firing
  done = kept.tracks.net.fired

  -- a strict call that asked for its frame has fired in the meaning
  abbrev pub StrictFired : Type 0
  StrictFired = (c : Context) (n : ℕ) → HasFired c (Framer n) kept.tracks.net.fired → (line : Node ℕ) → node_of fl c n ≡ Some line
      → StartsWhenStrict (story fl p w inputs past m good fit kept).run c n line.kind

  abbrev pub HasFrame : Context → Type 0
  HasFrame c = (g : ℕ) × (frame_at fl kept.tracks.net.fired c ≡ Some g)

  -- what fires does so in a context with a frame
  pub framed : (h : Firing) → Contains done h → HasFrame h.context
  framed h d =
      let i = first_taken fl w h h.part in
      let (g, e) = kept.tracks.stands.known i (taken_stands fl p w inputs past m good fit kept i (taken_in fl done h i d (takes_first fl w h))) in
      (g, ap (frame_at fl done) (sym (first_context fl w h h.part)) ∙ e)

  turning : (h : Firing) → Contains done h → h.part ≡ NextAsked → is_turn h.context ≡ true
  turning h d e = pick (part_there fl w h (fit_of fl p w inputs past m good fit kept h d))
    where
      pick : (spot_there fl w h.context h.part ≡ true) ⊎ ((n : ℕ) × (h.part ≡ Drained n) × (is_loop (block_in fl h.context) n ≡ true))
          → is_turn h.context ≡ true
      pick (inl f) = ap (spot_there fl w h.context) (sym e) ∙ f
      pick (inr (n, f, l)) = let z : NextAsked ≡ Drained n = sym e ∙ f in absurd (cc)

  -- the frame of a call's context was handed out where it is called
  call_asked : (c : Context) (n : ℕ) → HasFrame (Called c n) → HasFired c (Asked n) done
  call_asked c n (g, e) = by_hand (hander fl done (Called c n) g (λ e. absurd (cc)) e)
    where
      not_next : (d : Context) → next d ≡ Called c n → is_turn d ≡ true → ⊥
      not_next Main e f = true≢false (sym f)
      not_next (Called d k) e f = true≢false (sym f)
      not_next (Turned d k u) e f = absurd (cc)

      by_hand : (h : Firing) × Contains done h × (handed_to fl h.context h.part ≡ Some (Called c n)) → HasFired c (Asked n) done
      by_hand (h, d, y) = pick (handed_cases fl (Called c n) h.context h.part y)
        where
          pick : Handed fl (Called c n) h.context h.part → HasFired c (Asked n) done
          pick (ByCall k a b) = let (x, z) = child_call fl h.context c k n b in (h, d, x, a ∙ ap Asked z)
          pick (ByTurn a b) = absurd (not_next h.context b (turning h d a))

  -- and that of a turn where its loop is
  turn_framed : (c : Context) (n t : ℕ) → HasFrame (Turned c n t) → HasFrame c
  turn_framed c n t (g, e) = by_turn t g e
    where
      before : (u : ℕ) (d : Context) → next d ≡ Turned c n u → is_turn d ≡ true → (v : ℕ) × (d ≡ Turned c n v) × (u ≡ suc v)
      before u Main e f = absurd (true≢false (sym f))
      before u (Called d k) e f = absurd (true≢false (sym f))
      before u (Turned d k v) e f =
          let x : d ≡ c = cc in let y : k ≡ n = cc in let z : v + 1 ≡ u = cc in (v, (λ i. Turned (x i) (y i) v), omega (arith, z))

      by_turn : (u g : ℕ) → frame_at fl done (Turned c n u) ≡ Some g → HasFrame c
      by_turn zero g e = by_hand (hander fl done (Turned c n 0) g (λ e. absurd (cc)) e)
        where
          by_hand : (h : Firing) × Contains done h × (handed_to fl h.context h.part ≡ Some (Turned c n 0)) → HasFrame c
          by_hand (h, d, y) = pick (handed_cases fl (Turned c n 0) h.context h.part y)
            where
              pick : Handed fl (Turned c n 0) h.context h.part → HasFrame c
              pick (ByCall k a b) = subst HasFrame (child_turn fl h.context c k n 0 b) (framed h d)
              pick (ByTurn a b) = let (v, x, z) = before 0 h.context b (turning h d a) in absurd (omega (arith, z))
      by_turn (suc u) g e = by_hand (hander fl done (Turned c n (suc u)) g (λ e. absurd (cc)) e) (by_turn u)
        where
          by_hand : (h : Firing) × Contains done h × (handed_to fl h.context h.part ≡ Some (Turned c n (suc u)))
              → ((g : ℕ) → frame_at fl done (Turned c n u) ≡ Some g → HasFrame c) → HasFrame c
          by_hand (h, d, y) more = pick (handed_cases fl (Turned c n (suc u)) h.context h.part y)
            where
              pick : Handed fl (Turned c n (suc u)) h.context h.part → HasFrame c
              pick (ByCall k a b) = subst HasFrame (child_turn fl h.context c k n (suc u) b) (framed h d)
              pick (ByTurn a b) =
                  let (v, x, z) = before (suc u) h.context b (turning h d a) in let same : v ≡ u = omega (arith, z) in
                  let (f, q) = subst HasFrame (x ∙ ap (Turned c n) same) (framed h d) in more f q

  -- SO IT IS DUE
  pub known_due : StrictFired → (c : Context) → IsContext fl c → HasFrame c → IsRounded fl p w inputs past m good fit kept earlier c
      → IsDue fl p w inputs past m good fit kept earlier c
  known_due strict Main con frame r = tt
  known_due strict (Called c n) con frame r =
      let f = call_asked c n frame in
      let due = known_due strict c con.0 (subst HasFrame f.2 (framed f.0 f.1))
      (λ x d. r x (Contains-append_right (own_ways c (arms_at (block_of fl c) n)) (ways_round fl c) x d)) in
      call_due fl p w inputs past m good fit kept earlier c n con.0 con.1 due (call_open fl p w inputs past m good fit kept earlier c n con.0 r)
      (strict c n (framer_by fl p w inputs past m good fit kept c n f))
  known_due strict (Turned c n t) con frame r =
      let due = known_due strict c con.0 (turn_framed c n t frame)
      (λ x d. r x (Contains-append_right (earlier_turns fl c n t) (own_ways c (arms_at (block_of fl c) n) ++ ways_round fl c) x
      (Contains-append_right (own_ways c (arms_at (block_of fl c) n)) (ways_round fl c) x d))) in
      turn_due fl p w inputs past m good fit kept earlier c n t con.0 con.1 due r
