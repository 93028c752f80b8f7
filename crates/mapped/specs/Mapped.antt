-- THE MAP OF A FILE'S CODE, which is printed in place of the code.
use Rattle.std.specs.Prelude.{◌≡◌, ◌⊎◌, ℕ, List, map, Option, None, Some, Result}
use Rattle.semantics.specs.Graph.{Graph, block_names, flow_of}
use Rattle.source.specs.Tokens.{program_of}
use Rattle.source.specs.Tree.{Program}
use Rattle.source.specs.Lowered.{made_blocks}
use Rattle.lowering.specs.Built.{places_of}
use Rattle.lowered_text.specs.Lowers.{Lowers, IsRefusedProgram}
use Rattle.lowered_text.specs.declared.fault.LowerFault.{LowerFault}
use Rattle.object_view.specs.Reading.{opened}
use Rattle.code_map.specs.Carried.{owners_of}
use Rattle.map_text.specs.MapText.{ProgramPlaces, code_map_text}
use Rattle.files.specs.Files.{content_of}
use Rattle.files.specs.declared.content.Content.{Content}
use Rattle.driver.specs.Compiled.{IsObjectOf, IsTooLarge}
use Rattle.driver.specs.Refused.{IsRefusedText}
use Rattle.outcomes.specs.declared.outcome.Outcome.{Outcome}
use Rattle.outcomes.specs.declared.refusal.Refusal.{Refusal}
use Rattle.commands.specs.Refusals.{unlowered_as}
use Rattle.commands.specs.Served.{Prints, Refuses, IsReportedAs}
use Rattle.driver.specs.Refused.{IsGoodText}

-- a line for each instruction of the object with these bytes, which is that of this graph
abbrev pub map_of : Graph → List ℕ → Option ProgramPlaces → List ℕ
map_of g bytes places = code_map_text (opened bytes).code.program (block_names g) places (owners_of (flow_of g))

-- OF A GRAPH, where it has an object; else the refusal of `compile`
abbrev pub PrintsGraphMap : {E : Type 0} → Result Outcome E → Option (List ℕ) → Option (List ℕ) → List ℕ → Type 0
PrintsGraphMap result old new text =
    ((g : Graph) × (bytes : List ℕ) × IsGoodText text g × IsObjectOf g bytes × Prints result old new (map_of g bytes None) Outcome.Done)
    ⊎ ((f : Refusal) × IsReportedAs (IsRefusedText text) f × Refuses result old new f)

-- OF A PROGRAM, with the places in it for which the nodes of its graph were made
abbrev pub places_in : List ℕ → Program → ProgramPlaces
places_in text p = record { program = program_of text; places = map places_of (made_blocks p p) }

-- why there is none: it is not lowered, or its graph is too large
abbrev pub IsUnmapped : List ℕ → Refusal → Type 0
IsUnmapped text f =
    ((fault : LowerFault) × IsRefusedProgram text fault × (f ≡ unlowered_as fault))
    ⊎ ((p : Program) × (g : Graph) × Lowers text p g × IsReportedAs (IsTooLarge g) f)

abbrev pub PrintsProgramMap : {E : Type 0} → Result Outcome E → Option (List ℕ) → Option (List ℕ) → List ℕ → Type 0
PrintsProgramMap result old new text =
    ((p : Program) × (g : Graph) × (bytes : List ℕ) × Lowers text p g × IsObjectOf g bytes
    × Prints result old new (map_of g bytes (Some (places_in text p))) Outcome.Done)
    ⊎ ((f : Refusal) × IsUnmapped text f × Refuses result old new f)

-- OF A FILE; what is no program is a graph, or refused as one
abbrev pub PrintsMapOf : {E : Type 0} → Content → Result Outcome E → Option (List ℕ) → Option (List ℕ) → List ℕ → Type 0
PrintsMapOf Content.Program result old new bytes = PrintsProgramMap result old new bytes
PrintsMapOf content result old new bytes = PrintsGraphMap result old new bytes

abbrev pub PrintsCodeMap : {E : Type 0} → Result Outcome E → Option (List ℕ) → Option (List ℕ) → List ℕ → Type 0
PrintsCodeMap result old new bytes = PrintsMapOf (content_of bytes) result old new bytes
