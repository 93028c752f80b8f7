use Rattle.std.proofs.Common.{◌≡◌, ◌∙◌, ◌<◌, ◌+◌, List, ℕ, Ok, Err, length, drop, slice_index_or, rules, arith, ap, sym}
use Rattle.source.specs.declared.word.Word.TheVariants as core_word
use Rattle.surface.specs.declared.word.Word.{Word}
use Rattle.surface.specs.declared.word.Word.TheVariants as word
use Rattle.surface_check.specs.Evaluates.{strict_ahead}
use Rattle.surface_check.specs.Machine.{items_in, state_in}
use Rattle.surface_check.specs.Renamed.{numbers_in}
use Rattle.surface_check.specs.Steps.{Plain, begun, step, steps}
use Rattle.surface_check.proofs.Dispatch.{strict_next, ahead_next, later_is, goes_on, stops, ends_with}
use Rattle.surface_check.proofs.machine.check_functions.Goals as goal

pub step-requires : goal.step-requires
step-requires g c =
    let words = c.args.words.now in
    let i = c.loop-index.index in
    strict_next words i (word.Core (core_word.Array 0 0)) c.loop-index.ahead c.pop-strict.result (omega (arith, c.loop-index-test.true)) c.loop-index.invariant.0
    c.pop-strict.ensures.value ∙ ap (λ (later : List (Word ℕ)). strict_ahead later 0) (sym (later_is words (i + 1)))

pub returns-in_err-step : goal.returns-in_err-step
returns-in_err-step g c =
    let words = c.args.words.now in
    let i = c.loop-index.index in
    let t = numbers_in c.args.names.now in
    let k = items_in c.args.table.now in
    let v = state_in c.loop-index.machine in
    let d : Word ℕ = word.Core (core_word.Array 0 0) in
    let f = c.in_err-step.field-0.0 in
    let within : i < length words = omega (arith, c.loop-index-test.true) in
    let is : c.from_residual.result ≡ Err f = search rules in
    ends_with c.from_residual.result f (steps t k (Plain begun) words) is
    (stops t k words i d v f (steps t k (Plain begun) words) within c.loop-index.invariant.1 c.in_err-step.ensures)

pub loop-index-preserved : goal.loop-index-preserved
loop-index-preserved g c =
    let words = c.args.words.now in
    let i = c.loop-index.index in
    let t = numbers_in c.args.names.now in
    let k = items_in c.args.table.now in
    let v = state_in c.loop-index.machine in
    let d : Word ℕ = word.Core (core_word.Array 0 0) in
    let within : i < length words = omega (arith, c.loop-index-test.true) in
    let done : step t k v (slice_index_or words i d) (drop (i + 1) words) ≡ Ok (state_in c.step.new.self) =
    ap (λ (later : List (Word ℕ)). step t k v (slice_index_or words i d) later) (sym (later_is words (i + 1))) ∙ c.in_ok-step.ensures in (
      ahead_next words i d c.loop-index.ahead c.pop-strict.new.self within c.loop-index.invariant.0 c.pop-strict.ensures.rest,
      sym (goes_on t k words i d v (state_in c.step.new.self) within done) ∙ c.loop-index.invariant.1,
    )
