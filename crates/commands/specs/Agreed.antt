-- Runs of a graph in random orders: whether their reports agree, and what `orders` prints of them.
use Rattle.std.specs.Prelude.{◌≡◌, ℕ, ◌+◌, ◌<◌, ℤ, ◌⊎◌, true, false, List, ◌++◌, Option, Result, Ok, Err, decimal, codes}
use Rattle.semantics.specs.Graph.{Graph}
use Rattle.semantics.specs.Text.{line}
use Rattle.semantics.specs.Report.{Report}
use Rattle.semantics.specs.declared.report.End.TheVariants.{Steps}
use Rattle.schedule.specs.declared.config.Config.{Config}
use Rattle.schedule.specs.declared.config.StartFault.{StartFault}
use Rattle.report_text.specs.ReportText.{report_text}
use Rattle.command_line.specs.declared.RunOptions.{RunOptions}
use Rattle.driver.specs.Headline.{ReportsTruthByList}
use Rattle.driver.specs.Refused.{IsReady, IsRefused}
use Rattle.outcomes.specs.declared.refusal.Refusal.{Refusal}
use Rattle.commands.specs.Input.{integers_of}
use Rattle.commands.specs.Ordered.{first_number, picks_from}
use Rattle.commands.specs.Served.{Parts, Prints, Refuses, IsReportedAs, IsRefusedLine, config_of, is_order}
use Rattle.outcomes.specs.declared.outcome.Outcome.{Outcome}
use Rattle.outcomes.specs.Outcomes.{ending_of}
use Rattle.commands.specs.Feed.{IsFeed}

-- the most picks that are drawn for an order
abbrev pub most_picks : ℕ
most_picks = 4194304

-- A true report of the run in order number `order`: the run whose picks, however many there are, are drawn from the seed and that
-- number. No run is cut short while more picks can be drawn.
pub record IsOrder (text : List ℕ) (inputs : List ℤ) (c : Config) (seed order : ℕ) (g : Graph) (r : Report) : Type 0 where
  pub count : ℕ
  pub truth : ReportsTruthByList text g inputs c (picks_from c.elements count (first_number seed order)) r
  pub enough : r.end ≡ Steps → count ≡ most_picks

-- The reports are the same, except perhaps in their events.
pub record AreSame (a b : Report) : Type 0 where
  pub end : a.end ≡ b.end
  pub outputs : a.outputs ≡ b.outputs
  pub cells : a.cells ≡ b.cells
  pub deferred : a.deferred ≡ b.deferred
  pub waiting_frames : a.waiting_frames ≡ b.waiting_frames
  pub waiting_credits : a.waiting_credits ≡ b.waiting_credits
  pub frames_out : a.frames_out ≡ b.frames_out

-- Order 0 has this report, and each order with a number below `count` has the same.
pub record AllAgree (text : List ℕ) (inputs : List ℤ) (c : Config) (seed count : ℕ) (g : Graph) (r : Report) : Type 0 where
  pub first : IsOrder text inputs c seed 0 g r
  pub each : (k : ℕ) → k < count → (h : Graph) × (s : Report) × IsOrder text inputs c seed k h s × AreSame r s

-- Order k has a report that differs from that of order 0, and is the first such order.
pub record IsFirstOther (text : List ℕ) (inputs : List ℤ) (c : Config) (seed count : ℕ) (g : Graph) (a : Report) (k : ℕ) (h : Graph) (b : Report) : Type 0 where
  pub later : 0 < k
  pub asked : k < count
  pub agreed : AllAgree text inputs c seed k g a
  pub other : IsOrder text inputs c seed k h b
  pub differ : AreSame a b → ⊥

-- All orders of the graph that the input has, on the integers that follow it, have this report.
pub record Agree (input : List ℕ) (o : RunOptions) (count seed : ℕ) (g : Graph) (r : Report) : Type 0 where
  pub text : List ℕ
  pub inputs : List ℤ
  pub feed : IsFeed input text inputs
  pub some : 0 < count
  pub ordered : is_order o.take ≡ true
  pub all : AllAgree text inputs (config_of o) seed count g r

-- Order 0 has the report a, and order k, the first whose report differs from it, has b.
pub record Differ (input : List ℕ) (o : RunOptions) (count seed : ℕ) (g : Graph) (a : Report) (k : ℕ) (h : Graph) (b : Report) : Type 0 where
  pub text : List ℕ
  pub inputs : List ℤ
  pub feed : IsFeed input text inputs
  pub ordered : is_order o.take ≡ true
  pub first_other : IsFirstOther text inputs (config_of o) seed count g a k h b

-- no order was asked for, or none that there is
abbrev pub HasNoOrder : RunOptions → ℕ → Type 0
HasNoOrder o count = (count ≡ 0) ⊎ (is_order o.take ≡ false)

-- Why nothing is reported of any order: the first cause in the order of the work. That no order was asked for, or none that there is, is reported
-- only where a run is ready.
abbrev pub WhyNoOrder : Result (List ℤ) ℕ → List ℕ → RunOptions → ℕ → Refusal → Type 0
WhyNoOrder (Ok inputs) text o count f = IsReportedAs (IsRefused text inputs (config_of o)) f ⊎ (IsReady text inputs (config_of o)
    × HasNoOrder o count × (f ≡ Refusal.Start StartFault.BadConfig))
WhyNoOrder (Err n) text o count f = IsRefusedLine text n f

pub record IsNoOrderOf (input : List ℕ) (o : RunOptions) (count : ℕ) (f : Refusal) : Type 0 where
  pub parts : Parts input
  pub why : (f ≡ Refusal.Memory) ⊎ WhyNoOrder (integers_of parts.lines) parts.text o count f

-- WHAT IS PRINTED. Orders are numbered from 1 on.
abbrev pub same_line : ℕ → List ℕ
same_line count = line (codes "orders " ++ decimal count ++ codes " same")

abbrev pub same_text : ℕ → Graph → Report → List ℕ
same_text count g r = same_line count ++ report_text g.arrays r

abbrev pub order_line : ℕ → List ℕ
order_line order = line (codes "order " ++ decimal (order + 1))

abbrev pub order_text : ℕ → Graph → Report → List ℕ
order_text order g r = order_line order ++ report_text g.arrays r

abbrev pub differing_text : Graph → Report → ℕ → Graph → Report → List ℕ
differing_text g a k h b = line (codes "orders differ") ++ order_text 0 g a ++ order_text k h b

-- THE COMMAND
abbrev pub PrintsOrders : {E : Type 0} → Result Outcome E → Option (List ℕ) → Option (List ℕ) → List ℕ → RunOptions → ℕ → ℕ → Type 0
PrintsOrders result old new input o count seed =
    ((g : Graph) × (r : Report) × Agree input o count seed g r × Prints result old new (same_text count g r) (Outcome.Reported (ending_of r)))
    ⊎ (((g : Graph) × (a : Report) × (k : ℕ) × (h : Graph) × (b : Report) × Differ input o count seed g a k h b
    × Prints result old new (differing_text g a k h b) Outcome.Differed)
    ⊎ ((f : Refusal) × IsNoOrderOf input o count f × Refuses result old new f))
