-- A run of a text's graph whose report lists the events, with the object that was run, with what each event did, and with the books of them.
use Rattle.std.specs.Prelude.{ℕ, Bool, false, ℤ, List, take, drop}
use Rattle.semantics.specs.Graph.{Graph}
use Rattle.semantics.specs.Machine.{Machine, at_start}
use Rattle.semantics.specs.Report.{Report}
use Rattle.object_view.specs.Reading.{opened}
use Rattle.replay.specs.declared.moment.Moment.{Moment}
use Rattle.replay.specs.Moments.{Watches}
use Rattle.replay.specs.Views.{BooksView}
use Rattle.replay.specs.Books.{KeepsBooks}
use Rattle.schedule.specs.declared.config.Config.{Config}
use Rattle.driver.specs.declared.order.Order.{Order}
use Rattle.driver.specs.Headline.{ReportsTruthIn, stops_in}
use Rattle.driver.specs.Objects.{ShowsObject}
use Rattle.driver.specs.Orders.{size_of}
use Rattle.driver.specs.Refused.{IsCompiled}

pub record ListsEvents (order : Order) (text : List ℕ) (g : Graph) (bytes : List ℕ) (inputs : List ℤ) (c : Config) (may_stop : Bool) (r : Report) : Type 0 where
  pub compiled : IsCompiled text g bytes
  -- it says of the meaning what the headline does
  pub truth : ReportsTruthIn order text g inputs c may_stop r
  -- and it is the report of a run of this object
  pub shows : ShowsObject bytes inputs c false (stops_in order may_stop) r

-- These are the moments of the events that the report lists; the report is of a run of the object's code.
abbrev pub AreMoments : List ℕ → List ℤ → Config → Report → List Moment → Type 0
AreMoments bytes inputs c r moments =
    let p = (opened bytes).code.program in
    (last : Machine) × Watches p (size_of c) (at_start p inputs) r.events moments last

pub record IsWatched (order : Order) (text : List ℕ) (g : Graph) (bytes : List ℕ) (inputs : List ℤ) (c : Config) (may_stop : Bool) (r : Report)
    (moments : List Moment) : Type 0 where
  pub lists : ListsEvents order text g bytes inputs c may_stop r
  pub seen : AreMoments bytes inputs c r moments

-- These are the books of the events that the report lists, from number `first` on; the report is of a run of the object's code.
abbrev pub HasBooks : List ℕ → List ℤ → Config → ℕ → Report → BooksView → Type 0
HasBooks bytes inputs c first r books = KeepsBooks (opened bytes).code.program (size_of c) inputs (take first r.events) (drop first r.events) books
