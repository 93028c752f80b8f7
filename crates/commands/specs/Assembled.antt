-- What `asm` prints of a text.
use Rattle.std.specs.Prelude.{ℕ, ◌≡◌, ◌⊎◌, List, Option, Result, Ok}
use Rattle.semantics.specs.Program.{Code}
use Rattle.semantics.specs.Bytes.{IsCode, bytes_of}
use Rattle.assembler.specs.Assembling.{assembled, IsFirstFault}
use Rattle.assembler.specs.Grammar.{IsListingOf}
use Rattle.assembler.specs.Causes.{fault_of}
use Rattle.assembler.specs.declared.cause.AsmRefusal.{AsmRefusal}
use Rattle.outcomes.specs.declared.outcome.Outcome.{Outcome}
use Rattle.commands.specs.Refusals.{unassembled_as}
use Rattle.commands.specs.Served.{Prints, Refuses}

-- the object of the code that the text is a listing of; or the text's first fault, or that memory was refused
abbrev pub PrintsAssembled : {E : Type 0} → Result Outcome E → Option (List ℕ) → Option (List ℕ) → List ℕ → Type 0
PrintsAssembled result old new text =
    ((version : ℕ) × (code : Code) × IsListingOf text version code × IsCode version code × (assembled text ≡ Ok (version, code))
    × Prints result old new (bytes_of version code) Outcome.Done)
    ⊎ ((refusal : AsmRefusal) × IsFirstFault (fault_of refusal) (assembled text) × Refuses result old new (unassembled_as refusal))
