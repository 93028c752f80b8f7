use Rattle.std.proofs.Common.{List, ℕ, subst, ◌∙◌}
use Rattle.std.specs.Str.Parse.{ParsesUnsigned}
use Rattle.source_tokens.proofs.Numerals.{digits_are_utf8, value_parsed}
use Rattle.source_tokens.proofs.runs.value_of.Goals as goal

pub returns-in-Ok : goal.returns-in-Ok
returns-in-Ok c =
    let parsed = subst (λ (xs : List ℕ). ParsesUnsigned 64 10 xs c.parse.result) c.in-Ok.ensures.cases.0 c.parse.ensures.value.0 in
    c.ok.ensures.value ∙ value_parsed c.args.digits.now c.parse.result parsed c.requires.all_digits c.requires.some

pub returns-in-Err : goal.returns-in-Err
returns-in-Err c = absurd (c.in-Err.ensures.cases.0 (digits_are_utf8 c.args.digits.now c.requires.all_digits))
