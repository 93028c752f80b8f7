-- A plan whose runs look like those of a faithful one is as faithful.
use Rattle.std.proofs.Common.{sym, ◌∙◌, subst, ℕ, ◌≤◌, ℤ, List, length}
use Rattle.std.specs.Prelude.{count_by}
use Rattle.semantics.specs.Graph.{Flow}
use Rattle.semantics.specs.Meaning as Meaning
use Rattle.semantics.specs.Machine.{Machine, Size, Events}
use Rattle.semantics.specs.Cause.{SameSeen, is_turn}
use Rattle.semantics.specs.Faithful.{IsExact, IsRun}
use Rattle.semantics.specs.Handed.{UsesEachOnce}
use Rattle.semantics.specs.Orderly.{IsStart}
use Rattle.law_fresh_frames.specs.Fresh.{KeepsOnce}
use Rattle.law_fresh_frames.specs.Alike.{LooksAlike, HasAlike, AlikeIsFaithful}

module _ (m u : Machine) (L : LooksAlike m u) where
  seen_alike : (s : Meaning.Memory) → SameSeen u.store s → SameSeen m.store s
  seen_alike s S = record { outputs = λ j. L.outputs j ∙ S.outputs j; cells = λ x. L.cells x ∙ S.cells x }

  exact_alike : (fl : Flow) (inputs : List ℤ) → IsExact fl inputs u → IsExact fl inputs m
  exact_alike fl inputs E = record {
    state = E.state;
    reached = E.reached;
    seen = seen_alike E.state.memory E.seen;
    at_rest = E.at_rest;
    only = E.only;
    no_clash = E.no_clash;
    readers = λ x. L.readers x ∙ E.readers x;
  }

pub alike_is_faithful : AlikeIsFaithful
alike_is_faithful fl p q arrays bounds same alike takes F = record { arrays = arrays ∙ F.arrays; bounds = bounds; each = each }
  where
    each : (inputs : List ℤ) (z : Size) (events : Events) (m : Machine) (r : IsRun fl q.program inputs z events m)
        → UsesEachOnce q.program z inputs events m r.run → KeepsOnce fl q.program inputs events m
    each inputs z events m r once =
        let start : IsStart q z inputs = record { some_element = r.some_element; some_frame = r.some_frame; inputs_fit = r.inputs_fit ∙ sym takes } in
        let H : HasAlike p q z inputs events m = alike inputs z events m start r.run once in
        let L : LooksAlike m H.last = H.alike in
        let there : IsRun fl p.program inputs z H.done H.last =
        record { inputs_fit = r.inputs_fit; some_element = r.some_element; some_frame = r.some_frame; run = H.run } in
        let K : KeepsOnce fl p.program inputs H.done H.last = F.each inputs z H.done H.last there H.once in
        record {
          exact = λ rest calm. exact_alike m H.last L fl inputs (K.exact (L.rests rest) (λ w. calm (L.wants w)));
          second_store = λ x some. K.second_store x (L.second_store x some);
          clean = λ rest calm none. L.clean (K.clean (L.rests rest) (λ w. calm (L.wants w)) (λ x. sym (L.readers x) ∙ none x));
          cause = record {
            run = K.cause.run;
            state = K.cause.state;
            is_run = K.cause.is_run;
            seen = seen_alike m H.last L K.cause.state.memory K.cause.seen;
            due = K.cause.due;
            are_due = K.cause.are_due;
            enough = subst (λ (n : ℕ). n ≤ length K.cause.due) (sym H.requests) K.cause.enough;
            credits = subst (λ (n : ℕ). n ≤ count_by is_turn K.cause.due) (sym H.credits) K.cause.credits;
          };
        }
