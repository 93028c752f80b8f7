-- WHAT IS EXPLAINED: the hint of a command's outcome.
use Rattle.std.specs.Prelude.{◌≡◌, ℕ, zero, suc, ◌<◌, ◌⊎◌, true, false, List, [], length, Option, Some, None, Ok}
use Rattle.schedule.specs.declared.config.StartFault.{StartFault}
use Rattle.lowered_text.specs.Texts.{graph_and_inputs, map_of}
use Rattle.driver.specs.Disassembled.{listing_of, listing_with_literals_of, picture_of, upgrade_of}
use Rattle.outcomes.specs.declared.refusal.Refusal.{Refusal}
use Rattle.outcomes.specs.declared.outcome.Outcome.{Outcome}
use Rattle.commands.specs.Refusals.{refusal_line}
use Rattle.commands.specs.Assembled.{PrintsAssembled}
use Rattle.commands.specs.Lowered.{PrintsLowered}
use Rattle.commands.specs.Served.{PrintsCheck, PrintsObject, PrintsOf, PrintsPicture}
use Rattle.hints.specs.Hints.{hint_text, wants_hint}
use Rattle.answers.specs.declared.result.EtsResult.{EtsResult}
use Rattle.ets_core.specs.declared.explaining.Command.{Command}
use Rattle.ets_core.specs.Given.{Answers, Printing}

-- the command of this number
abbrev pub command_of : ℕ → Option Command
command_of zero = Some Command.Lower
command_of (suc zero) = Some Command.Map
command_of (suc (suc zero)) = Some Command.Check
command_of (suc (suc (suc zero))) = Some Command.Compile
command_of (suc (suc (suc (suc zero)))) = Some Command.Draw
command_of (suc (suc (suc (suc (suc zero))))) = Some Command.List
command_of (suc (suc (suc (suc (suc (suc zero)))))) = Some Command.ListLiterals
command_of (suc (suc (suc (suc (suc (suc (suc zero))))))) = Some Command.Assemble
command_of (suc (suc (suc (suc (suc (suc (suc (suc zero)))))))) = Some Command.Upgrade
command_of (suc (suc (suc (suc (suc (suc (suc (suc (suc zero))))))))) = Some Command.DrawCode
command_of (suc (suc (suc (suc (suc (suc (suc (suc (suc (suc n)))))))))) = None

-- what the command prints of the input
abbrev pub PrintsOne : Command → List ℕ → Printing
PrintsOne Command.Lower input r old new = PrintsLowered graph_and_inputs r old new input
PrintsOne Command.Map input r old new = PrintsLowered map_of r old new input
PrintsOne Command.Check input r old new = PrintsCheck r old new input
PrintsOne Command.Compile input r old new = PrintsObject r old new input
PrintsOne Command.Draw input r old new = PrintsPicture r old new input
PrintsOne Command.List input r old new = PrintsOf listing_of r old new input
PrintsOne Command.ListLiterals input r old new = PrintsOf listing_with_literals_of r old new input
PrintsOne Command.Assemble input r old new = PrintsAssembled r old new input
PrintsOne Command.Upgrade input r old new = PrintsOf upgrade_of r old new input
PrintsOne Command.DrawCode input r old new = PrintsOf picture_of r old new input

-- the text is a hint where one is wanted, and is empty where none is
abbrev pub IsHint : Outcome → List ℕ → Type 0
IsHint outcome text =
    ((wants_hint (Some outcome) ≡ true) × (place : Option (List ℕ)) × (cause : List ℕ) × (text ≡ hint_text place cause))
    ⊎ ((wants_hint (Some outcome) ≡ false) × (text ≡ []))

-- The buffer has the hint of what the command prints of the input; or the input is too long, or memory was refused.
abbrev pub ExplainsOne : Command → List ℕ → List ℕ → List ℕ → EtsResult → Type 0
ExplainsOne command input old new said =
    ((outcome : Outcome) × (printed : List ℕ) × (hint : List ℕ) × PrintsOne command input (Ok outcome) (Some []) (Some printed) × IsHint outcome hint
    × Answers Outcome.Done hint old new said)
    ⊎ (((67108864 < length input) × Answers (Outcome.Refused Refusal.Input) (refusal_line Refusal.Input) old new said)
    ⊎ Answers (Outcome.Refused Refusal.Memory) (refusal_line Refusal.Memory) old new said)

-- A number that is of no command is refused, after the length of the input.
abbrev pub Explains : Option Command → List ℕ → List ℕ → List ℕ → EtsResult → Type 0
Explains (Some command) input old new said = ExplainsOne command input old new said
Explains None input old new said =
    ((67108864 < length input) × Answers (Outcome.Refused Refusal.Input) (refusal_line Refusal.Input) old new said)
    ⊎ Answers (Outcome.Refused (Refusal.Start StartFault.BadConfig)) (refusal_line (Refusal.Start StartFault.BadConfig)) old new said
