-- What the commands print, and with which outcomes.
use Rattle.std.specs.Prelude.{◌≡◌, ℕ, ℤ, Bool, true, false, ◌⊎◌, List, ◌++◌, length, Option, Some, None, option_map, unwrap_or, Result, Ok, Err, codes}
use Rattle.std.specs.Io.KnownBytes.{Appends}
use Rattle.tags.specs.declared.value.Value.{Value}
use Rattle.semantics.specs.Graph.{Graph}
use Rattle.semantics.specs.Text.{line}
use Rattle.semantics.specs.Report.{Report}
use Rattle.schedule.specs.declared.config.Config.{Config}
use Rattle.schedule.specs.declared.config.StartFault.{StartFault}
use Rattle.schedule.specs.Unlisted.{Quietly}
use Rattle.oracle.specs.declared.report.MeanEnd.{MeanEnd}
use Rattle.oracle.specs.declared.report.Full.{Full}
use Rattle.oracle.specs.Reporting.{IsMeant}
use Rattle.object_view.specs.Checks.{first_refusal}
use Rattle.object_view.specs.Reading.{opened}
use Rattle.object_view.specs.declared.fault.ObjectFault.{ObjectFault}
use Rattle.dot.specs.GraphDot.{graph_dot}
use Rattle.report_text.specs.ReportText.{report_text, meaning_text, object_report_text}
use Rattle.mode.specs.declared.Mode.{Mode}
use Rattle.command_line.specs.declared.RunOptions.{RunOptions}
use Rattle.command_line.specs.declared.Take.{Take}
use Rattle.schedule.specs.declared.take.Take.{Take as Tokens}
use Rattle.schedule.specs.declared.take.Take.TheVariants as tokens
use Rattle.driver.specs.declared.order.Order.{Order}
use Rattle.driver.specs.Orders.{order_of}
use Rattle.command_line.specs.declared.inputs.Inputs.{Inputs}
use Rattle.driver.specs.declared.fault.Fault.{Fault}
use Rattle.outcomes.specs.declared.refusal.Refusal.{Refusal}
use Rattle.driver.specs.Disassembled.{IsOpened, IsUnopened, picture_of}
use Rattle.driver.specs.Headline.{ReportsQuietly}
use Rattle.commands.specs.Input.{graph_length, integers_of}
use Rattle.driver.specs.Objects.{ShowsObjectIn}
use Rattle.driver.specs.Refused.{IsGoodText, IsCompiled, IsReady, IsReadyObject, IsBadText, IsRefusedText, IsRefused, IsRefusedMeaning, IsRefusedObject}
use Rattle.commands.specs.Refusals.{refusal_line, refused_as}
use Rattle.outcomes.specs.declared.outcome.Ending.{Ending}
use Rattle.outcomes.specs.declared.outcome.Outcome.{Outcome}
use Rattle.outcomes.specs.Outcomes.{ending_of}

-- this text, with this outcome; after a fault of the writer a beginning of the text
abbrev pub Prints : {E : Type 0} → Result Outcome E → Option (List ℕ) → Option (List ℕ) → List ℕ → Outcome → Type 0
Prints (Ok o) old new text outcome = (o ≡ outcome) × Appends old new text
Prints (Err e) old new text outcome = (front : List ℕ) × (rest : List ℕ) × (text ≡ front ++ rest) × Appends old new front

-- the line of a refusal, which is the outcome
abbrev pub Refuses : {E : Type 0} → Result Outcome E → Option (List ℕ) → Option (List ℕ) → Refusal → Type 0
Refuses result old new f = Prints result old new (refusal_line f) (Outcome.Refused f)

-- the refusal reports a fault that has this cause
abbrev pub IsReportedAs : (Fault → Type 0) → Refusal → Type 0
IsReportedAs Cause f = (fault : Fault) × Cause fault × (f ≡ refused_as fault)

-- the text of a graph, and what follows it
pub record Parts (input : List ℕ) : Type 0 where
  pub text : List ℕ
  pub lines : List ℕ
  pub whole : text ++ lines ≡ input
  pub end : length text ≡ graph_length input

-- RUN
-- how many events a turn has where nothing is said: an element that runs free looks at what all share after each
abbrev pub usual_turn : Option Mode → ℕ
usual_turn (Some Mode.Free) = 2048
usual_turn mode = 64

abbrev pub turn_of : RunOptions → ℕ
turn_of o = unwrap_or o.turn (usual_turn o.mode)

abbrev pub config_of : RunOptions → Config
config_of o = record { elements = o.elements; frames = o.frames; steps = o.steps; turn = turn_of o }

-- whether runs in random orders take tokens in this order: none takes them by depth
abbrev pub is_order : Option Take → Bool
is_order (Some Take.Oldest) = true
is_order (Some Take.Depth) = false
is_order None = false

-- the order of the tokens that is asked for; the oldest first, where the word names none
abbrev pub token_order : Option Take → Tokens
token_order (Some Take.Oldest) = tokens.Oldest
token_order (Some Take.Depth) = tokens.Depth
token_order None = tokens.Oldest

-- by depth, where this mode exists
abbrev pub by_depth : Option Mode → Option Order
by_depth (Some Mode.One) = Some (Order.InTurn tokens.Depth)
by_depth (Some Mode.Rounds) = Some (Order.InRounds tokens.Depth)
by_depth (Some Mode.Free) = Some (Order.Free tokens.Depth)
by_depth None = None

-- of this mode, with this order of the tokens
abbrev pub order_given : Option Mode → Option Take → Option Order
order_given mode (Some Take.Oldest) = option_map (λ m. order_of m tokens.Oldest) mode
order_given mode (Some Take.Depth) = by_depth mode
order_given mode None = None

-- the order that is asked for, where there are runs in it
abbrev pub order_in : RunOptions → Option Order
order_in o = order_given o.mode o.take

-- a true report of a run, in the mode that is asked for, of the graph that the input has, on the integers that follow it
pub record IsRunOf (input : List ℕ) (o : RunOptions) (g : Graph) (r : Report) : Type 0 where
  pub parts : Parts input
  pub inputs : List ℤ
  pub integers : integers_of parts.lines ≡ Ok inputs
  pub order : Order
  pub named : order_in o ≡ Some order
  pub truth : ReportsQuietly order parts.text g inputs (config_of o) false r

-- Why there is no report: the first cause in the order of the work. A line that is not an integer is reported only of a graph that has an
-- object, and a mode or an order that does not exist only where a run is ready.
abbrev pub IsRefusedLine : List ℕ → ℕ → Refusal → Type 0
IsRefusedLine text n f = IsReportedAs (IsRefusedText text) f ⊎ (((g : Graph) × (bytes : List ℕ) × IsCompiled text g bytes) × (f ≡ Refusal.InputLine n))

abbrev pub WhyNoRun : Result (List ℤ) ℕ → List ℕ → RunOptions → Refusal → Type 0
WhyNoRun (Ok inputs) text o f = IsReportedAs (IsRefused text inputs (config_of o)) f ⊎ (IsReady text inputs (config_of o) × (order_in o ≡ None)
    × (f ≡ Refusal.Start StartFault.BadConfig))
WhyNoRun (Err n) text o f = IsRefusedLine text n f

pub record IsNoRunOf (input : List ℕ) (o : RunOptions) (f : Refusal) : Type 0 where
  pub parts : Parts input
  pub why : (f ≡ Refusal.Memory) ⊎ WhyNoRun (integers_of parts.lines) parts.text o f

abbrev pub PrintsRun : {E : Type 0} → Result Outcome E → Option (List ℕ) → Option (List ℕ) → List ℕ → RunOptions → Type 0
PrintsRun result old new input o =
    ((g : Graph) × (r : Report) × IsRunOf input o g r × Prints result old new (report_text g.arrays r) (Outcome.Reported (ending_of r)))
    ⊎ ((f : Refusal) × IsNoRunOf input o f × Refuses result old new f)

-- MEAN
pub record IsMeaningOf (input : List ℕ) (steps : ℕ) (g : Graph) (end : MeanEnd) (outputs : List (Option Value)) (cells : List Full) : Type 0 where
  pub parts : Parts input
  pub inputs : List ℤ
  pub integers : integers_of parts.lines ≡ Ok inputs
  pub good : IsGoodText parts.text g
  pub meant : IsMeant g inputs steps end outputs cells

abbrev pub WhyNoMeaning : Result (List ℤ) ℕ → List ℕ → Refusal → Type 0
WhyNoMeaning (Ok inputs) text f = IsReportedAs (IsRefusedMeaning text inputs) f
WhyNoMeaning (Err n) text f = IsReportedAs (IsBadText text) f ⊎ (((g : Graph) × IsGoodText text g) × (f ≡ Refusal.InputLine n))

pub record IsNoMeaningOf (input : List ℕ) (f : Refusal) : Type 0 where
  pub parts : Parts input
  pub why : (f ≡ Refusal.Memory) ⊎ WhyNoMeaning (integers_of parts.lines) parts.text f

abbrev pub PrintsMeaning : {E : Type 0} → Result Outcome E → Option (List ℕ) → Option (List ℕ) → List ℕ → ℕ → Type 0
PrintsMeaning result old new input steps =
    ((g : Graph) × (end : MeanEnd) × (outputs : List (Option Value)) × (cells : List Full) × IsMeaningOf input steps g end outputs cells
    × Prints result old new (meaning_text g.arrays outputs cells end) (Outcome.Reported (Ending.Meaning end)))
    ⊎ ((f : Refusal) × IsNoMeaningOf input f × Refuses result old new f)

-- CHECK AND COMPILE
abbrev pub PrintsCheck : {E : Type 0} → Result Outcome E → Option (List ℕ) → Option (List ℕ) → List ℕ → Type 0
PrintsCheck result old new text =
    ((g : Graph) × IsGoodText text g × Prints result old new (line (codes "ok")) Outcome.Done)
    ⊎ ((f : Refusal) × IsReportedAs (IsBadText text) f × Refuses result old new f)

abbrev pub PrintsObject : {E : Type 0} → Result Outcome E → Option (List ℕ) → Option (List ℕ) → List ℕ → Type 0
PrintsObject result old new text =
    ((g : Graph) × (bytes : List ℕ) × IsCompiled text g bytes × Prints result old new bytes Outcome.Done)
    ⊎ ((f : Refusal) × IsReportedAs (IsRefusedText text) f × Refuses result old new f)

-- DIS AND UPGRADE
abbrev pub PrintsOf : {E : Type 0} → (List ℕ → List ℕ) → Result Outcome E → Option (List ℕ) → Option (List ℕ) → List ℕ → Type 0
PrintsOf text result old new bytes =
    (IsOpened bytes × Prints result old new (text bytes) Outcome.Done)
    ⊎ ((fault : ObjectFault) × IsUnopened bytes fault × Refuses result old new (Refusal.Object fault))

-- DOT: the picture of a graph that is well formed, or of an object's code
abbrev pub PrintsPicture : {E : Type 0} → Result Outcome E → Option (List ℕ) → Option (List ℕ) → List ℕ → Type 0
PrintsPicture result old new text =
    ((g : Graph) × IsGoodText text g × Prints result old new (graph_dot g) Outcome.Done)
    ⊎ ((f : Refusal) × IsReportedAs (IsBadText text) f × Refuses result old new f)

abbrev pub PrintsDot : {E : Type 0} → Result Outcome E → Option (List ℕ) → Option (List ℕ) → List ℕ → Bool → Type 0
PrintsDot result old new input true = PrintsOf picture_of result old new input
PrintsDot result old new input false = PrintsPicture result old new input

-- EXEC: a report of a run, in the mode that is asked for, of the object on the inputs of the command line
pub record IsExecOf (bytes : List ℕ) (o : RunOptions) (ins : Inputs) (r : Report) : Type 0 where
  pub inputs : List ℤ
  pub integers : ins ≡ Inputs.Integers (record { items = inputs })
  pub order : Order
  pub named : order_in o ≡ Some order
  pub shows : Quietly (ShowsObjectIn order bytes inputs (config_of o) false) r

-- Why there is no report: what is wrong with the object first, then with the inputs, then with the options, and last a mode or an order that does
-- not exist. Of more than 16 inputs no more is said: no object takes more than 16.
abbrev pub WhyNoExec : Inputs → List ℕ → RunOptions → Refusal → Type 0
WhyNoExec (Inputs.Integers inputs) bytes o f =
    IsReportedAs (IsRefusedObject bytes inputs.items (config_of o)) f ⊎ (IsReadyObject bytes inputs.items (config_of o) × (order_in o ≡ None)
    × (f ≡ Refusal.Start StartFault.BadConfig))
WhyNoExec (Inputs.NoInteger n) bytes o f = (first_refusal bytes ≡ None) × (f ≡ Refusal.InputLine n)
WhyNoExec Inputs.TooMany bytes o f = (first_refusal bytes ≡ None) × (f ≡ Refusal.Start StartFault.WrongInputs)

abbrev pub IsNoExecOf : List ℕ → RunOptions → Inputs → Refusal → Type 0
IsNoExecOf bytes o ins f = (f ≡ Refusal.Memory) ⊎ (((fault : ObjectFault) × (first_refusal bytes ≡ Some fault) × (f ≡ Refusal.Object fault)) ⊎
    WhyNoExec ins bytes o f)

abbrev pub PrintsExec : {E : Type 0} → Result Outcome E → Option (List ℕ) → Option (List ℕ) → List ℕ → RunOptions → Inputs → Type 0
PrintsExec result old new bytes o ins =
    ((r : Report) × IsExecOf bytes o ins r × Prints result old new (object_report_text (opened bytes).code.program.arrays r) (Outcome.Reported (ending_of r)))
    ⊎ ((f : Refusal) × IsNoExecOf bytes o ins f × Refuses result old new f)
