use Rattle.std.proofs.Common.{ap, ◌∙◌, ◌++◌, List, ℕ}
use Rattle.files.specs.Files.{inputs_lines}
use Rattle.commands.proofs.FileInputs.{sent}
use Rattle.commands.proofs.filed.with_inputs.Goals as goal

pub returns-in-Ok : goal.returns-in-Ok
returns-in-Ok g c =
    sent _ c.in-Ok.field-0 _ _ _ c.in-Ok.ensures ∙ ap (λ (xs : List ℕ). xs ++ inputs_lines c.args.inputs.now) c.in_ok-input.ensures
