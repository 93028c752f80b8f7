use Rattle.std.proofs.Common.{ℕ, List, ◌++◌, inl, sym, ap, ◌∙◌}
use Rattle.std.specs.Prelude.{is_some}
use Rattle.sink.specs.Sends.{Sends}
use Rattle.hints.specs.Hints.{hint_text}
use Rattle.ets_core.proofs.explaining.hint_text_of.Goals as goal

pub returns-in-Ok : goal.returns-in-Ok
unfolding Sends
returns-in-Ok c =
    let hint = c.in-Some.hint in
    inl (
      sym c.in_ok-hint.ensures ∙ ap is_some c.in-Some.is,
      hint.place,
      hint.cause,
      c.in-Ok.ensures ∙ ap (λ (xs : List ℕ). xs ++ hint_text hint.place hint.cause) c.new-text.ensures.items,
    )
