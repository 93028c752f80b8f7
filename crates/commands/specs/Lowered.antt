-- What `lower` prints of a text.
use Rattle.std.specs.Prelude.{◌⊎◌, ℕ, List, Option, Result}
use Rattle.semantics.specs.Graph.{Graph}
use Rattle.source.specs.Tree.{Program}
use Rattle.lowered_text.specs.Lowers.{Lowers, IsRefusedProgram}
use Rattle.lowered_text.specs.declared.fault.LowerFault.{LowerFault}
use Rattle.outcomes.specs.declared.outcome.Outcome.{Outcome}
use Rattle.commands.specs.Refusals.{unlowered_as}
use Rattle.commands.specs.Served.{Prints, Refuses}

-- this text of the graph that the text's program is lowered to, which is well formed; or why there is none
abbrev pub PrintsLowered : {E : Type 0} → (List ℕ → Program → Graph → List ℕ) → Result Outcome E → Option (List ℕ) → Option (List ℕ) → List ℕ → Type 0
PrintsLowered wanted result old new text =
    ((p : Program) × (g : Graph) × Lowers text p g × Prints result old new (wanted text p g) Outcome.Done)
    ⊎ ((f : LowerFault) × IsRefusedProgram text f × Refuses result old new (unlowered_as f))
