-- THE PROMISE OF A PROGRAM'S REPORT: what it says of the program that a text has.
use Rattle.std.specs.Prelude.{◌≡◌, ◌↔◌, ℕ, Bool, ℤ, List, map, Option, Some, Contains}
use Rattle.tags.specs.declared.value.Value.{Value}
use Rattle.semantics.specs.declared.report.End.TheVariants.{Rest}
use Rattle.semantics.specs.Graph.{Graph}
use Rattle.semantics.specs.Meaning as Meaning
use Rattle.semantics.specs.Report.{Report}
use Rattle.semantics.specs.Text.{text_of}
use Rattle.schedule.specs.declared.config.Config.{Config}
use Rattle.driver.specs.declared.order.Order.{Order}
use Rattle.source.specs.Tree.{Program}
use Rattle.source.specs.Lowered.{origin_of}
use Rattle.source.specs.Theorem.{Computes}
use Rattle.lowered_text.specs.Lowers.{Lowers}
use Rattle.driver.specs.Headline.{ReportsQuietly}

abbrev pub some_value : Value → Option Value
some_value v = Some v

-- The report has what the program computes over the memory in the end, by its own evaluator: its outputs are all that `main` gives, in
-- order, and its cells are exactly the stores, each made once. A fault has the origin that lowering gives for its token.
pub record ShowsProgram (p : Program) (inputs : List ℤ) (r : Report) : Type 0 where
  pub memory : Meaning.Memory
  pub computes : Computes p (origin_of p) inputs memory
  pub outputs : r.outputs ≡ map some_value computes.outputs
  pub cells : (x : ℕ) (v : Value) → Contains r.cells (x, v) ↔ Contains computes.stores (x, v)

-- THE PROMISE. The text has a program, which is lowered to a graph. The report tells the truth about the text of that graph, in this
-- order, whatever its end; and where it ends at rest with no deferred reader, it shows the program.
pub record ReportsProgram (order : Order) (text : List ℕ) (inputs : List ℤ) (c : Config) (may_stop : Bool) (r : Report) : Type 0 where
  pub program : Program
  pub graph : Graph
  pub lowers : Lowers text program graph
  pub truth : ReportsQuietly order (text_of graph) graph inputs c may_stop r
  pub shows : r.end ≡ Rest → r.deferred ≡ 0 → ShowsProgram program inputs r
