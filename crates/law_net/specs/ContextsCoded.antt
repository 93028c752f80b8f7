-- Each code block is that of a block of the graph, or of the turns of one that is looped.
use Rattle.std.specs.Prelude.{◌≡◌, ℕ, ◌<◌, ◌⊎◌, true, Some, length, slice_get}
use Rattle.semantics.specs.Graph.{Flow}
use Rattle.semantics.specs.Plan.{Plan}
use Rattle.semantics.specs.Program.{CodeBlock}
use Rattle.semantics.specs.Cause.{is_looped}
use Rattle.law_net.specs.Contexts.{Wires}

abbrev pub AllCoded : Flow → Plan → Wires → Type 0
AllCoded fl p w = (b : ℕ) (c : CodeBlock) → slice_get p.program.blocks b ≡ Some c
    → (b < length fl.blocks) ⊎ ((i : ℕ) × (i < length fl.blocks) × (is_looped fl i ≡ true) × (b ≡ w.variant i))
