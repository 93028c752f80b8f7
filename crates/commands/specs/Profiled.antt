-- What `profile` prints: the waves of a graph's meaning, and what the machine took with each number of elements.
use Rattle.std.specs.Prelude.{◌≡◌, ◌≢◌, ℕ, zero, suc, ◌+◌, ◌<◌, ◌==◌, Bool, true, false, ℤ, ◌⊎◌, List, [], ◌∷◌, ◌++◌, length, map, Option, Some, None, Result}
use Rattle.std.specs.Prelude.{Ok, Err, if◌then◌else◌, nat_lt, is_some, ⊤}
use Rattle.semantics.specs.Graph.{Graph}
use Rattle.semantics.specs.declared.report.End.{End}
use Rattle.semantics.specs.Report.{Report}
use Rattle.schedule.specs.declared.config.Config.{Config}
use Rattle.schedule.specs.declared.config.StartFault.{StartFault}
use Rattle.oracle.specs.declared.report.MeanEnd.{MeanEnd}
use Rattle.oracle.specs.Gathering.{wave_counts}
use Rattle.oracle.specs.Waves.{AreWavesOf}
use Rattle.replay.specs.declared.moment.Moment.{Moment}
use Rattle.profile_text.specs.declared.lines.MachineRow.{MachineRow}
use Rattle.profile_text.specs.declared.sufficient.Sufficient.{Sufficient}
use Rattle.profile_text.specs.Picture.{greatest_from, svg_text}
use Rattle.profile_text.specs.ProfileText.{profile_text}
use Rattle.driver.specs.declared.order.Order.{Order}
use Rattle.command_line.specs.declared.RunOptions.{RunOptions}
use Rattle.command_line.specs.declared.sizes.Sizes.{Sizes}
use Rattle.command_line.specs.Words.{has_size}
use Rattle.driver.specs.ListedEvents.{IsWatched}
use Rattle.driver.specs.declared.needs.MachineNeeds.{MachineNeeds}
use Rattle.driver.specs.Needs.{AreNeedsOf, AreUntold}
use Rattle.driver.specs.Objects.{RunsObject}
use Rattle.driver.specs.Orders.{RunsByRounds}
use Rattle.driver.specs.Refused.{IsGoodText, IsReady, IsRefused, IsRefusedMeaning}
use Rattle.commands.specs.declared.profiling.ProfileFormat.{ProfileFormat}
use Rattle.commands.specs.declared.profiling.Quantity.{Quantity}
use Rattle.outcomes.specs.declared.refusal.Refusal.{Refusal}
use Rattle.commands.specs.Input.{integers_of}
use Rattle.commands.specs.Served.{Parts, Prints, Refuses, IsReportedAs, IsRefusedLine, config_of, token_order}
use Rattle.outcomes.specs.Outcomes.{exit_status}
use Rattle.outcomes.specs.declared.outcome.Ending.{Ending}
use Rattle.outcomes.specs.declared.outcome.FailedRow.{FailedRow}
use Rattle.outcomes.specs.declared.outcome.Outcome.{Outcome}
use Rattle.commands.specs.Feed.{IsFeed}

-- ROWS. What the machine is set to for a row: each turn has one event.
abbrev pub config_with : RunOptions → ℕ → Config
config_with o elements = record { elements = elements; frames = o.frames; steps = o.steps; turn = 1 }

-- what is counted in a moment
abbrev pub quantity_in : Quantity → Moment → ℕ
quantity_in Quantity.Tokens x = x.tokens
quantity_in Quantity.Slots x = x.full_slots
quantity_in Quantity.Frames x = x.frames_out

-- What a run on that number of elements took: it is a run in rounds, in each of which every element makes one event if it has a token that it may take in the order
-- that is asked for; these are exactly its rounds, and the tokens, the full slots and the frames out are the most that there were at any moment. At the start there are a token
-- for each input and one more, and one frame is out. The end, and the requests that wait then, are those of its report.
pub record IsRow (text : List ℕ) (inputs : List ℤ) (o : RunOptions) (elements : ℕ) (row : MachineRow) : Type 0 where
  pub graph : Graph
  pub bytes : List ℕ
  pub report : Report
  pub moments : List Moment
  pub watched : IsWatched (Order.InRounds (token_order o.take)) text graph bytes inputs (config_with o elements) false report moments
  -- a run that was refused memory has no row
  pub kept : report.end ≢ End.Memory
  pub number : row.elements ≡ elements
  pub rounds : RunsObject bytes inputs (config_with o elements) (RunsByRounds (token_order o.take) false row.rounds) report
  pub tokens : row.tokens ≡ greatest_from (length inputs + 1) (map (quantity_in Quantity.Tokens) moments)
  pub slots : row.slots ≡ greatest_from 0 (map (quantity_in Quantity.Slots) moments)
  pub frames : row.frames ≡ greatest_from 1 (map (quantity_in Quantity.Frames) moments)
  pub end : row.end ≡ report.end
  pub waiting : (row.waiting_frames ≡ report.waiting_frames) × (row.waiting_credits ≡ report.waiting_credits)

-- a row for each of these numbers of elements, in order
abbrev pub AreRows : List ℕ → List ℤ → RunOptions → List ℕ → List MachineRow → Type 0
AreRows text inputs o [] [] = ⊤
AreRows text inputs o (n ∷ ns) (row ∷ rows) = IsRow text inputs o n row × AreRows text inputs o ns rows
AreRows text inputs o ns rows = ⊥

-- the numbers below n that are in the set, in order
unfoldable pub sizes_below : Sizes → ℕ → List ℕ
sizes_below z zero = []
sizes_below z (suc n) = sizes_below z n ++ (if has_size z n then n ∷ [] else [])

-- some number is in the set
abbrev pub IsChosen : Sizes → Type 0
IsChosen z = (n : ℕ) × (n < 64) × (has_size z n ≡ true) × (sizes_below z n ≡ [])

-- the first number of elements in the set with which the machine does not start, where each smaller one has a row
pub record IsNoRow (text : List ℕ) (inputs : List ℤ) (o : RunOptions) (z : Sizes) (f : Refusal) : Type 0 where
  pub elements : ℕ
  pub low : elements < 64
  pub chosen : has_size z elements ≡ true
  pub refused : IsReportedAs (IsRefused text inputs (config_with o elements)) f
  pub rows : List MachineRow
  pub earlier : AreRows text inputs o (sizes_below z elements) rows

-- The order that is asked for does not exist, which is reported only where a run is ready.
abbrev pub LacksOrder : List ℕ → List ℤ → RunOptions → Refusal → Type 0
LacksOrder text inputs o f =
    (is_some o.take ≡ false)
    × (IsReportedAs (IsRefused text inputs (config_of o)) f ⊎ (IsReady text inputs (config_of o) × (f ≡ Refusal.Start StartFault.BadConfig)))

-- WHAT SUFFICES in every order, as it is printed: nothing, where no loop's bound can be as many as the iterations.
abbrev pub shown_of : MachineNeeds → Sufficient
shown_of n = record { frames = n.frames; steps = n.steps; iterations = n.iterations }

abbrev pub sufficient_of : Option MachineNeeds → Option Sufficient
sufficient_of None = None
sufficient_of (Some n) = if nat_lt 64 n.iterations then None else Some (shown_of n)

-- what one run of the meaning, of at most that many activities, tells; or why it tells nothing that is printed
abbrev pub IsSufficient : Graph → List ℤ → ℕ → Option Sufficient → Type 0
IsSufficient g inputs activities (Some s) = AreNeedsOf g inputs activities s.frames s.steps s.iterations
IsSufficient g inputs activities None = AreUntold g inputs activities
    ⊎ ((frames : ℕ) × (steps : ℕ) × (iterations : ℕ) × AreNeedsOf g inputs activities frames steps iterations × (64 < iterations))

-- The waves of the graph that the input has, on the integers that follow it, and how they end; and a row for each number of elements in
-- the set, and what suffices in every order. A picture has neither.
pub record IsProfileOf (input : List ℕ) (o : RunOptions) (z : Sizes) (format : ProfileFormat) (g : Graph) (end : MeanEnd)
    (counts : List ℕ) (rows : List MachineRow) (enough : Option Sufficient) : Type 0 where
  pub text : List ℕ
  pub inputs : List ℤ
  pub feed : IsFeed input text inputs
  pub good : IsGoodText text g
  pub waves : AreWavesOf g inputs o.steps end counts
  -- and they are the ones that the definition gives, which finds all that is enabled and then does it
  pub reported : wave_counts g inputs o.steps ≡ Some (end, counts)
  pub ordered : format ≡ ProfileFormat.Lines → is_some o.take ≡ true
  pub machine : format ≡ ProfileFormat.Lines → AreRows text inputs o (sizes_below z 64) rows
  pub sufficient : format ≡ ProfileFormat.Lines → IsSufficient g inputs o.steps enough

-- Why there is no profile: the first cause in the order of the work.
abbrev pub WhyNoProfile : Result (List ℤ) ℕ → List ℕ → RunOptions → Sizes → ProfileFormat → Refusal → Type 0
WhyNoProfile (Ok inputs) text o z format f =
    IsReportedAs (IsRefusedMeaning text inputs) f
    ⊎ (((g : Graph) × (end : MeanEnd) × (counts : List ℕ) × IsGoodText text g × AreWavesOf g inputs o.steps end counts)
    × (format ≡ ProfileFormat.Lines) × (IsNoRow text inputs o z f ⊎ LacksOrder text inputs o f))
WhyNoProfile (Err n) text o z format f = IsRefusedLine text n f

pub record IsNoProfileOf (input : List ℕ) (o : RunOptions) (z : Sizes) (format : ProfileFormat) (f : Refusal) : Type 0 where
  pub parts : Parts input
  pub why : (f ≡ Refusal.Memory) ⊎ WhyNoProfile (integers_of parts.lines) parts.text o z format f

-- what the option `--svg` asks for
abbrev pub format_of : Bool → ProfileFormat
format_of true = ProfileFormat.Picture
format_of false = ProfileFormat.Lines

abbrev pub text_of : ProfileFormat → Graph → MeanEnd → List ℕ → List MachineRow → Option Sufficient → List ℕ
text_of ProfileFormat.Lines g end counts rows enough = profile_text g.arrays counts rows enough end
text_of ProfileFormat.Picture g end counts rows enough = svg_text counts

-- the first row whose run did not end at rest
abbrev pub failed_row : MachineRow → FailedRow
failed_row row = record { elements = row.elements; end = row.end; frames = row.waiting_frames; credits = row.waiting_credits }

abbrev pub first_failed : List MachineRow → Option FailedRow
first_failed [] = None
first_failed (row ∷ rows) = if exit_status row.end == 0 then first_failed rows else Some (failed_row row)

-- the outcome: a picture does not report how the meaning ended
abbrev pub profiled : ProfileFormat → MeanEnd → List MachineRow → Outcome
profiled ProfileFormat.Lines end rows = Outcome.Profiled end (first_failed rows)
profiled ProfileFormat.Picture end rows = Outcome.Drawn (Ending.Meaning end)

-- THE COMMAND
abbrev pub PrintsProfile : {E : Type 0} → Result Outcome E → Option (List ℕ) → Option (List ℕ) → List ℕ → RunOptions → Sizes → ProfileFormat → Type 0
PrintsProfile result old new input o z format =
    ((g : Graph) × (end : MeanEnd) × (counts : List ℕ) × (rows : List MachineRow) × (enough : Option Sufficient)
    × IsProfileOf input o z format g end counts rows enough
    × Prints result old new (text_of format g end counts rows enough) (profiled format end rows))
    ⊎ ((f : Refusal) × IsNoProfileOf input o z format f × Refuses result old new f)
