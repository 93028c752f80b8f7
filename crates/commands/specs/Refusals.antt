-- The line of a refusal, and the refusal that each fault is reported as.
use Rattle.std.specs.Prelude.{ℕ, Option, Some, None, List, ◌++◌, decimal, codes}
use Rattle.semantics.specs.Text.{line}
use Rattle.graph_file.specs.declared.fault.ReadFaultKind.{ReadFaultKind}
use Rattle.graph_check.specs.declared.faults.CheckFaultKind.{CheckFaultKind}
use Rattle.object_view.specs.declared.fault.ObjectFault.{ObjectFault}
use Rattle.graph_file.specs.declared.fault.ReadFault.{ReadFault}
use Rattle.graph_file.specs.Causes as ReadCauses
use Rattle.graph_check.specs.declared.faults.CheckFault.{CheckFault}
use Rattle.graph_check.specs.Causes as CheckCauses
use Rattle.assembler.specs.Causes as AsmCauses
use Rattle.assembler.specs.declared.fault.AsmFault.{AsmFault}
use Rattle.assembler.specs.declared.cause.AsmCause.{AsmCause}
use Rattle.assembler.specs.declared.cause.AsmRefusal.{AsmRefusal}
use Rattle.assembler.specs.declared.fault.AsmFaultKind.{AsmFaultKind}
use Rattle.schedule.specs.declared.config.StartFault.{StartFault}
use Rattle.source.specs.declared.fault.FaultKind.{FaultKind}
use Rattle.lowered_text.specs.declared.fault.LowerFault.{LowerFault}
use Rattle.driver.specs.declared.fault.Fault.{Fault}
use Rattle.commands.specs.declared.input.InputFault.{InputFault}
use Rattle.outcomes.specs.declared.refusal.Refusal.{Refusal}

abbrev pub read_word : ReadFaultKind → List ℕ
read_word ReadFaultKind.NoHeader = codes "NoHeader"
read_word ReadFaultKind.BadLine = codes "BadLine"
read_word ReadFaultKind.BadNumber = codes "BadNumber"
read_word ReadFaultKind.BadName = codes "BadName"
read_word ReadFaultKind.Unended = codes "Unended"
read_word ReadFaultKind.NoMain = codes "NoMain"
read_word ReadFaultKind.TooMany = codes "TooMany"
read_word ReadFaultKind.TrailingText = codes "TrailingText"
read_word ReadFaultKind.Memory = codes "Memory"

abbrev pub check_word : CheckFaultKind → List ℕ
check_word CheckFaultKind.SameName = codes "SameName"
check_word CheckFaultKind.NoSuchName = codes "NoSuchName"
check_word CheckFaultKind.Arity = codes "Arity"
check_word CheckFaultKind.SourceNotEarlier = codes "SourceNotEarlier"
check_word CheckFaultKind.NoSuchPort = codes "NoSuchPort"
check_word CheckFaultKind.BadRegion = codes "BadRegion"
check_word CheckFaultKind.CrossesRegion = codes "CrossesRegion"
check_word CheckFaultKind.BadBound = codes "BadBound"
check_word CheckFaultKind.OutNotRoot = codes "OutNotRoot"
check_word CheckFaultKind.NoInput = codes "NoInput"
check_word CheckFaultKind.NoOutput = codes "NoOutput"
check_word CheckFaultKind.Memory = codes "Memory"

abbrev pub object_word : ObjectFault → List ℕ
object_word ObjectFault.Truncated = codes "Truncated"
object_word ObjectFault.BadMagic = codes "BadMagic"
object_word ObjectFault.BadVersion = codes "BadVersion"
object_word ObjectFault.BadTable = codes "BadTable"
object_word ObjectFault.BadOpcode = codes "BadOpcode"
object_word ObjectFault.BadDestination = codes "BadDestination"
object_word ObjectFault.BadSlot = codes "BadSlot"
object_word ObjectFault.BadLiteral = codes "BadLiteral"
object_word ObjectFault.Trailing = codes "Trailing"

abbrev pub asm_word : AsmFaultKind → List ℕ
asm_word AsmFaultKind.BadLine = codes "BadLine"
asm_word AsmFaultKind.BadNumber = codes "BadNumber"
asm_word AsmFaultKind.BadName = codes "BadName"
asm_word AsmFaultKind.BadSlot = codes "BadSlot"
asm_word AsmFaultKind.BadDestination = codes "BadDestination"
asm_word AsmFaultKind.BadOperand = codes "BadOperand"
asm_word AsmFaultKind.BadOrigin = codes "BadOrigin"
asm_word AsmFaultKind.BadLiteral = codes "BadLiteral"
asm_word AsmFaultKind.Unended = codes "Unended"
asm_word AsmFaultKind.BadVersion = codes "BadVersion"
asm_word AsmFaultKind.BadTable = codes "BadTable"
asm_word AsmFaultKind.Memory = codes "Memory"

abbrev pub start_word : StartFault → List ℕ
start_word StartFault.WrongInputs = codes "WrongInputs"
start_word StartFault.NoFrames = codes "NoFrames"
start_word StartFault.BadConfig = codes "BadConfig"
start_word StartFault.Memory = codes "Memory"

abbrev pub program_word : FaultKind → List ℕ
program_word FaultKind.BadByte = codes "BadByte"
program_word FaultKind.BadNumber = codes "BadNumber"
program_word FaultKind.BadName = codes "BadName"
program_word FaultKind.Unexpected = codes "Unexpected"
program_word FaultKind.Unended = codes "Unended"
program_word FaultKind.TooDeep = codes "TooDeep"
program_word FaultKind.NotACell = codes "NotACell"
program_word FaultKind.SameName = codes "SameName"
program_word FaultKind.NoSuchName = codes "NoSuchName"
program_word FaultKind.Arity = codes "Arity"
program_word FaultKind.BadBound = codes "BadBound"
program_word FaultKind.BadCount = codes "BadCount"
program_word FaultKind.TooMany = codes "TooMany"
program_word FaultKind.TooWide = codes "TooWide"
program_word FaultKind.TooBig = codes "TooBig"
program_word FaultKind.NoMain = codes "NoMain"
program_word FaultKind.Memory = codes "Memory"

-- a number, or `-` where it does not apply
abbrev pub number_or_dash : Option ℕ → List ℕ
number_or_dash None = codes "-"
number_or_dash (Some n) = decimal n

-- of a text that is no graph
abbrev pub read_text : ReadFault → List ℕ
read_text f = codes "read " ++ read_word f.kind ++ codes " line " ++ decimal f.line

-- of a graph that is not well formed
abbrev pub check_text : CheckFault → List ℕ
check_text f = codes "check " ++ check_word f.kind ++ codes " block " ++ number_or_dash f.block ++ codes " node " ++ number_or_dash f.node

-- of a text that is no listing of an object
abbrev pub asm_text : AsmFault → List ℕ
asm_text f = codes "asm " ++ asm_word f.kind ++ codes " line " ++ decimal f.line

abbrev pub cause_text : Refusal → List ℕ
cause_text Refusal.Input = codes "input"
cause_text (Refusal.Read r) = read_text (ReadCauses.fault_of r)
cause_text (Refusal.Check r) = check_text (CheckCauses.fault_of r)
cause_text (Refusal.TooManySlots b) = codes "slots TooManySlots block " ++ decimal b
cause_text (Refusal.TooFar b) = codes "emit TooFar block " ++ decimal b
cause_text (Refusal.InputLine n) = codes "input line " ++ decimal n
cause_text (Refusal.Start f) = codes "start " ++ start_word f
cause_text (Refusal.TooManyFrames frames) = codes "enough TooManyFrames " ++ decimal frames
cause_text Refusal.NotAtRest = codes "enough NotAtRest"
cause_text (Refusal.Object f) = codes "object " ++ object_word f
cause_text (Refusal.Asm r) = asm_text (AsmCauses.fault_of r)
cause_text (Refusal.Program r) = codes "program " ++ program_word r.fault.kind ++ codes " line " ++ decimal r.fault.line ++ codes " column "
    ++ decimal r.fault.column
cause_text Refusal.Memory = codes "memory"

abbrev pub refusal_line : Refusal → List ℕ
refusal_line f = line (codes "refused: " ++ cause_text f)

-- the refusal that a fault is reported as
abbrev pub refused_as : Fault → Refusal
refused_as (Fault.Read r) = Refusal.Read r
refused_as (Fault.Check r) = Refusal.Check r
refused_as (Fault.TooManySlots b) = Refusal.TooManySlots b
refused_as (Fault.TooFar b) = Refusal.TooFar b
refused_as (Fault.Object f) = Refusal.Object f
refused_as (Fault.Start f) = Refusal.Start f
refused_as Fault.Memory = Refusal.Memory

-- the refusal that a program's fault is reported as
abbrev pub unlowered_as : LowerFault → Refusal
unlowered_as (LowerFault.Program f) = Refusal.Program f
unlowered_as LowerFault.Memory = Refusal.Memory

-- the refusal that a missing input is reported as
abbrev pub unread_as : InputFault → Refusal
unread_as InputFault.Input = Refusal.Input
unread_as InputFault.Memory = Refusal.Memory

-- and that a fault of a listing is reported as
abbrev pub of_cause : AsmRefusal → AsmCause → Refusal
of_cause r AsmCause.Memory = Refusal.Memory
of_cause r cause = Refusal.Asm r

abbrev pub unassembled_as : AsmRefusal → Refusal
unassembled_as r = of_cause r r.cause
