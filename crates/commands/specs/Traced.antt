-- What `trace` prints of a run: its events, or a page that shows it.
use Rattle.std.specs.Prelude.{◌≡◌, ℕ, ◌-◌, ◌*◌, false, ℤ, ◌⊎◌, List, [], ◌++◌, length, drop, Option, Some, None, Result}
use Rattle.semantics.specs.Graph.{Graph}
use Rattle.semantics.specs.Report.{Report}
use Rattle.object_view.specs.Reading.{opened}
use Rattle.replay.specs.declared.moment.Moment.{Moment}
use Rattle.replay.specs.Views.{BooksView}
use Rattle.report_text.specs.ReportText.{report_text}
use Rattle.trace_text.specs.TraceText.{trace_text, chrome_text}
use Rattle.command_line.specs.declared.EventFormat.{EventFormat}
use Rattle.command_line.specs.declared.Format.{Format}
use Rattle.driver.specs.declared.order.Order.{Order}
use Rattle.command_line.specs.declared.RunOptions.{RunOptions}
use Rattle.driver.specs.Disassembled.{listing_of}
use Rattle.driver.specs.ListedEvents.{ListsEvents, IsWatched, HasBooks}
use Rattle.html_text.specs.DataText.{data_text}
use Rattle.html_text.specs.PageText.{html_text}
use Rattle.outcomes.specs.declared.refusal.Refusal.{Refusal}
use Rattle.commands.specs.Served.{Prints, Refuses, IsNoRunOf, config_of, order_in}
use Rattle.outcomes.specs.declared.outcome.Outcome.{Outcome}
use Rattle.outcomes.specs.Outcomes.{ending_of}
use Rattle.commands.specs.Feed.{IsFeed}

-- A run of the graph that the input has, on the integers that follow it: its object, its true report, which lists the events, and what
-- each of them did.
pub record IsTraceOf (input : List ℕ) (o : RunOptions) (g : Graph) (bytes : List ℕ) (r : Report) (moments : List Moment) : Type 0 where
  pub text : List ℕ
  pub inputs : List ℤ
  pub feed : IsFeed input text inputs
  pub order : Order
  pub named : order_in o ≡ Some order
  pub watched : IsWatched order text g bytes inputs (config_of o) false r moments

-- how many of `count` events are before the last ones that are asked for
abbrev pub first_of : ℕ → Option ℕ → ℕ
first_of count None = 0
first_of count (Some last) = count - last

-- the events from number `first` on; as lines, followed by the report, or as JSON
abbrev pub events_text : EventFormat → ℕ → ℕ → Graph → List ℕ → Report → List Moment → List ℕ
events_text EventFormat.Lines first elements g bytes r moments =
    trace_text (opened bytes).code.program first (drop first r.events) (drop first moments) ++ report_text g.arrays r
events_text EventFormat.Chrome first elements g bytes r moments =
    chrome_text (opened bytes).code.program elements first (drop first r.events) (drop first moments)

-- the outcome: JSON does not report how the run ended
abbrev pub traced : EventFormat → Report → Outcome
traced EventFormat.Lines r = Outcome.Reported (ending_of r)
traced EventFormat.Chrome r = Outcome.Drawn (ending_of r)

-- the refusals are those of `run`
abbrev pub PrintsEvents : {E : Type 0} → Result Outcome E → Option (List ℕ) → Option (List ℕ) → List ℕ → RunOptions → Option ℕ → EventFormat → Type 0
PrintsEvents result old new input o last format =
    ((g : Graph) × (bytes : List ℕ) × (r : Report) × (moments : List Moment) × IsTraceOf input o g bytes r moments
    × Prints result old new (events_text format (first_of (length r.events) last) o.elements g bytes r moments) (traced format r))
    ⊎ ((f : Refusal) × IsNoRunOf input o f × Refuses result old new f)

-- THE PAGE of a run: the input, which is the graph's text and the integers; the listing of the graph's code; the report of the run; and the
-- books of its events from number `first` on, as data, with the source's pane after them, if there is one. The page's own source is the same for all runs.
abbrev pub page_text : List ℕ → RunOptions → ℕ → Graph → List ℕ → Report → BooksView → List ℕ → List ℕ
page_text input o first g bytes r books pane =
    html_text input (listing_of bytes) (report_text g.arrays r) (data_text o.elements (o.elements * o.frames) first (drop first r.events) books ++ pane)
    (length r.events - first)

-- the outcome
abbrev pub paged : ℕ → Report → Outcome
paged first r = Outcome.Paged (ending_of r) (length r.events - first)

pub record IsPageOf (input : List ℕ) (o : RunOptions) (first : ℕ) (g : Graph) (bytes : List ℕ) (r : Report) (books : BooksView) : Type 0 where
  pub text : List ℕ
  pub inputs : List ℤ
  pub feed : IsFeed input text inputs
  pub order : Order
  pub named : order_in o ≡ Some order
  pub lists : ListsEvents order text g bytes inputs (config_of o) false r
  pub kept : HasBooks bytes inputs (config_of o) first r books

-- where there is no page, the refusal has the cause for which `run` has no report
abbrev pub PrintsPage : {E : Type 0} → Result Outcome E → Option (List ℕ) → Option (List ℕ) → List ℕ → RunOptions → Option ℕ → List ℕ → Type 0
PrintsPage result old new input o last pane =
    ((g : Graph) × (bytes : List ℕ) × (r : Report) × (books : BooksView) × IsPageOf input o (first_of (length r.events) last) g bytes r books
    × Prints result old new (page_text input o (first_of (length r.events) last) g bytes r books pane) (paged (first_of (length r.events) last) r))
    ⊎ ((f : Refusal) × IsNoRunOf input o f × Refuses result old new f)

abbrev pub PrintsTrace : {E : Type 0} → Result Outcome E → Option (List ℕ) → Option (List ℕ) → List ℕ → RunOptions → Option ℕ → Format → Type 0
PrintsTrace result old new input o last (Format.Events format) = PrintsEvents result old new input o last format
PrintsTrace result old new input o last Format.Html = PrintsPage result old new input o last []
