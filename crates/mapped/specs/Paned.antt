-- THE PANE of a file's source in the page of a run.
use Rattle.std.specs.Prelude.{◌≡◌, ◌⊎◌, ℕ, List, [], map, Option, Result}
use Rattle.semantics.specs.Graph.{Graph, flow_of}
use Rattle.source.specs.Tokens.{program_of}
use Rattle.source.specs.Tree.{Program}
use Rattle.source.specs.Lowered.{made_blocks}
use Rattle.lowering.specs.Built.{places_of}
use Rattle.lowered_text.specs.Lowers.{Lowers, IsRefusedProgram}
use Rattle.lowered_text.specs.declared.fault.LowerFault.{LowerFault}
use Rattle.code_map.specs.Carried.{owners_of}
use Rattle.html_text.specs.PaneText.{graph_pane, program_pane}
use Rattle.files.specs.Files.{content_of}
use Rattle.files.specs.declared.content.Content.{Content}
use Rattle.command_line.specs.declared.RunOptions.{RunOptions}
use Rattle.driver.specs.declared.fault.Fault.{Fault}
use Rattle.driver.specs.Refused.{IsGoodText, IsBadText}
use Rattle.outcomes.specs.declared.outcome.Outcome.{Outcome}
use Rattle.outcomes.specs.declared.refusal.Refusal.{Refusal}
use Rattle.commands.specs.FileInputs.{graph_part}
use Rattle.commands.specs.Refusals.{unlowered_as}
use Rattle.commands.specs.Served.{Refuses}
use Rattle.commands.specs.Traced.{PrintsPage}

-- OF A PROGRAM: what the instructions of its graph's code belong to, its text, and the places in it for which the graph's nodes were made
abbrev pub IsProgramPane : List ℕ → List ℕ → Type 0
IsProgramPane text pane =
    (p : Program) × (g : Graph) × Lowers text p g
    × (pane ≡ program_pane (owners_of (flow_of g)) (program_of text) (map places_of (made_blocks p p)))

-- OF A GRAPH: what the instructions of its code belong to. A text that is no good graph has none, and no page.
abbrev pub IsGraphPane : List ℕ → List ℕ → Type 0
IsGraphPane text pane =
    ((g : Graph) × IsGoodText text g × (pane ≡ graph_pane (owners_of (flow_of g)))) ⊎ (((fault : Fault) × IsBadText text fault) × (pane ≡ []))

-- of a file with these bytes
abbrev pub IsPaneOf : Content → List ℕ → List ℕ → Type 0
IsPaneOf Content.Program bytes pane = IsProgramPane bytes pane
IsPaneOf content bytes pane = IsGraphPane (graph_part bytes) pane

abbrev pub IsPane : List ℕ → List ℕ → Type 0
IsPane bytes pane = IsPaneOf (content_of bytes) bytes pane

-- why there is none: memory is refused, or the program is not lowered
abbrev pub IsUnpaned : List ℕ → Refusal → Type 0
IsUnpaned bytes f = (f ≡ Refusal.Memory) ⊎ ((fault : LowerFault) × IsRefusedProgram bytes fault × (f ≡ unlowered_as fault))

-- THE PAGE of a run of an input, which is that of a file with these bytes
abbrev pub PrintsFilePage : {E : Type 0} → Result Outcome E → Option (List ℕ) → Option (List ℕ) → List ℕ → List ℕ → RunOptions → Option ℕ → Type 0
PrintsFilePage result old new bytes input o last =
    ((pane : List ℕ) × IsPane bytes pane × PrintsPage result old new input o last pane) ⊎ ((f : Refusal) × IsUnpaned bytes f × Refuses result old new f)
