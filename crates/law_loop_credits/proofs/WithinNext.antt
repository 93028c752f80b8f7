-- In the state that the story leads to only such activities are enabled as take place in an iteration whose credit waits.
use Rattle.std.proofs.Common.{◌≡◌, sym, ap, ◌∙◌, subst, ℕ, suc, ◌+◌, inl, ℤ, true, List, [], ◌++◌, arith}
use Rattle.std.specs.Prelude.{Contains}
use Rattle.std.proofs.lemmas.List.Elements.{Contains-append_right}
use Rattle.std.proofs.lemmas.List.Sorted.{IsPermutation-sym, IsPermutation-trans}
use Rattle.semantics.specs.Graph.{Flow}
use Rattle.semantics.specs.Meaning.{Context, Main, Called, Turned, State, Same, Activity, Fires, Gates, Passes, Returns, Turns, Outputs, Step}
use Rattle.semantics.specs.Machine.{Machine, Resting}
use Rattle.semantics.specs.Plan.{Plan}
use Rattle.law_confluence.proofs.OutcomeDeterminacy.{step_same}
use Rattle.law_net.specs.ContextsParts.{Opener}
use Rattle.law_net.specs.ContextsBlocks.{is_loop}
use Rattle.law_net.specs.Contexts.{Wires, block_in, wiring_in, IsContext}
use Rattle.law_net.specs.ContextsFirings.{frame_at}
use Rattle.law_net.specs.ContextsLaws.{spot_there}
use Rattle.law_net.specs.ContextsMirror.{Past}
use Rattle.law_net.specs.ContextsTheorem.{IsGood}
use Rattle.law_net.specs.ContextsPackages.{InputsFit, Keeps}
use Rattle.law_net.proofs.Credits.{keeps}
use Rattle.law_end.proofs.OverMade.{fits, left_stands}
use Rattle.law_end.proofs.RestHalts.{node_place, next_alone}
use Rattle.law_end.proofs.RestStarted.{all_start}
use Rattle.law_end.proofs.RestStory.{story}
use Rattle.law_end.proofs.RestWaits.{Held, taker_asks}
use Rattle.law_loops_complete.specs.Within.{IsIn, place_of}
use Rattle.law_loop_credits.specs.NetsWait.{TakeWaits}
use Rattle.law_loop_credits.specs.WithinParts.{NextOfTurn, NextIsHeld}

pub in_itself : (top c : Context) → c ≡ top → IsIn top c
in_itself top Main e = sym e
in_itself top (Called c n) e = inl (sym e)
in_itself top (Turned c n i) e = inl (sym e)

in_next : (x : Activity) (d : Context) (n t : ℕ) → node_place x ≡ Turned d n (t + 1) → IsIn (Turned d n (suc t)) (place_of x)
in_next (Fires c k vs) d n t e = let up : t + 1 ≡ suc t = omega arith in in_itself (Turned d n (suc t)) c (e ∙ ap (Turned d n) up)
in_next (Gates c k v u) d n t e = let up : t + 1 ≡ suc t = omega arith in in_itself (Turned d n (suc t)) c (e ∙ ap (Turned d n) up)
in_next (Passes c k i v) d n t e = let up : t + 1 ≡ suc t = omega arith in in_itself (Turned d n (suc t)) c (e ∙ ap (Turned d n) up)
in_next (Returns c k j v) d n t e = absurd (cc)
in_next (Turns c k i j u v) d n t e = absurd (cc)
in_next (Outputs j v) d n t e = absurd (cc)

module _ (fl : Flow) (p : Plan) (w : Wires) (inputs : List ℤ) (past : Past) (m : Machine) (good : IsGood fl p w) (fit : InputsFit fl inputs)
    (kept : Keeps fl p w inputs past m) where
  -- a credit that waits, in the machine
  pub take_waits : (d : Context) (n t : ℕ) → Held fl p w inputs past m good fit kept d n t → TakeWaits fl w m kept.tracks.net d n (suc t)
  take_waits d n t (j, c, a, e, way) =
      let left : Contains (kept.tracks.net.pending ++ kept.tracks.net.waiting) j = Contains-append_right kept.tracks.net.pending kept.tracks.net.waiting j c in
      let (g, at, x, slot) = taker_asks fl p w inputs past m good fit kept j n c e in
      let spot = fits fl p w inputs past m good fit kept j (left_stands fl p w inputs past m good fit kept j left) in
      let con : IsContext fl d = subst (IsContext fl) a spot.is_context in
      let loop : is_loop (block_in fl d) n ≡ true = (λ k. spot_there fl w (sym a k) (sym e k)) ∙ spot.there in
      let number = (keeps fl p w inputs past m good kept d con n loop).takes j left a e in
      record {
        is_context = con;
        is_loop' = loop;
        frame = g;
        has_frame = ap (frame_at fl kept.tracks.net.fired) (sym a) ∙ at;
        asker = x;
        asks = ap (λ (c : Context). m.store.slots g ((wiring_in fl w c).slot (Opener n))) (sym a) ∙ slot;
        number = sym number ∙ way;
      }

  pub next_of_turn : Resting m → m.store.requests ≡ [] → (x : Activity) (v : State) → Step fl x (story fl p w inputs past m good fit kept).state v
      → NextOfTurn fl w m kept.tracks.net x
  next_of_turn rest calm x v step =
      let same : Same (story fl p w inputs past m good fit kept).state kept.state = (
        IsPermutation-trans _ _ _ (story fl p w inputs past m good fit kept).tokens (IsPermutation-sym _ _ kept.meant.tokens),
        (story fl p w inputs past m good fit kept).memory_is ∙ sym kept.meant.memory_is,
      ) in
      let g = next_alone fl p w inputs past m good fit kept rest calm (all_start fl p w good) x v
      (step_same fl (story fl p w inputs past m good fit kept).state kept.state v x same step) in
      record {
        context = g.caller;
        node = g.node;
        turn = suc g.before;
        waits = take_waits g.caller g.node g.before g.held;
        inside = in_next x g.caller g.node g.before g.is;
      }

pub next_is_held : NextIsHeld
next_is_held fl p w inputs past m good fit kept rest calm x v step = next_of_turn fl p w inputs past m good fit kept rest calm x v step
