-- WHAT A STUDENT EXPECTS of a program that reads each cell behind the store that fills it: the machine computes what an ordinary sequential run computes.
use Rattle.std.specs.Prelude.{◌≡◌, ◌↔◌, ℕ, Bool, false, ℤ, List, map, Contains}
use Rattle.tags.specs.declared.value.Value.{Value}
use Rattle.semantics.specs.Report.{Report}
use Rattle.schedule.specs.declared.config.Config.{Config}
use Rattle.driver.specs.declared.order.Order.{Order}
use Rattle.source.specs.Lowered.{origin_of}
use Rattle.law_compiler.specs.Objects.{plan_of}
use Rattle.law_completion.specs.Total.{IsNotCut, Completes}
use Rattle.law_loops_complete.specs.LoopsComplete.{HasSpace}
use Rattle.law_ordered_runs.specs.InOrderCompletes.{EvaluatesInOrder, calls_and_turns}
use Rattle.driver.specs.Orders.{size_of}
use Rattle.programs.specs.Promise.{ShowsProgram, ReportsProgram, some_value}

-- Where the program has an evaluation on these inputs that reads each cell behind the store that fills it, in the order of the text, iteration after
-- iteration, and the machine has a frame for main, for each of its calls and for each of its iterations, and steps for these, the report of a run that
-- was not cut off ends at rest with no deferred reader, in each order. It shows the program, and its outputs and cells are those of that evaluation.
-- Nothing is asked of the meaning of the program's graph, nor of the bounds of its loops.
abbrev pub OrderedProgramsComplete : Type 0
OrderedProgramsComplete = (order : Order) (text : List ℕ) (inputs : List ℤ) (c : Config) (may_stop : Bool) (r : Report)
    → (report : ReportsProgram order text inputs c may_stop r) → (k : EvaluatesInOrder report.program (origin_of report.program) inputs)
    → HasSpace (plan_of report.graph).program (size_of c) c.steps (calls_and_turns k)
    → IsNotCut false r → Completes r × ShowsProgram report.program inputs r × (r.outputs ≡ map some_value k.computes.outputs)
    × ((x : ℕ) (v : Value) → Contains r.cells (x, v) ↔ Contains k.computes.stores (x, v))
