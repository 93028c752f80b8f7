-- The code of every graph is faithful, if its plan is as required before the passes.
use Rattle.std.specs.Prelude.{◌≡◌, ℕ, ◌+◌, false, List, Some, slice_get, Contains}
use Rattle.semantics.specs.Graph.{Graph, flow_of}
use Rattle.semantics.specs.Text.{HasText}
use Rattle.semantics.specs.WellFormed.{WellFormed}
use Rattle.semantics.specs.Faithful.{Faithful}
use Rattle.semantics.specs.declared.program.Dest.{Dest}
use Rattle.semantics.specs.Program.{Instr, CodeBlock, first_of, instr_at}
use Rattle.semantics.specs.Plan.{Plan}
use Rattle.semantics.specs.Orderly.{Orderly, often}
use Rattle.semantics.specs.Sharing.{Good}
use Rattle.semantics.specs.Reuse.{ReleasesLast}
use Rattle.law_compiler.specs.EmittedSame.{KeepsBoundsAs, HoldsAloneAs}
use Rattle.law_compiler.specs.EmittedSameRuns.{HasOrigins}
use Rattle.law_reuse.specs.Bounds.{PlanKeepsBounds}
use Rattle.schemas.specs.Expanded.{expanded}
use Rattle.folding.specs.Folded.{folded}
use Rattle.semantics.specs.declared.version.Version.{Version}
use Rattle.semantics.specs.Versions.{version_number}
use Rattle.select.specs.Emitted.{code_of}
use Rattle.law_compiler.specs.Objects.{plan_of}
use Rattle.law_fresh_frames.specs.Fresh.{FaithfulOnce}
use Rattle.law_fresh_frames.specs.Alike.{LandsRightly, plain_dests, IsTidy, Keeps}

-- The origins of a graph's instructions can be given in the graph's version: in the first one there are none.
abbrev pub PlansHaveOrigins : Type 0
PlansHaveOrigins = (g : Graph) (version : Version) → version_number version ≡ g.version → HasOrigins version (plan_of g)

-- Only a link's landing leads to a `give` or a `take`.
abbrev pub LeadsToNoneOften : Plan → Type 0
LeadsToNoneOften p = (b n : ℕ) (c : CodeBlock) (i : Instr) (d : Dest) → slice_get p.program.blocks b ≡ Some c → slice_get c.instrs n ≡ Some i
    → Contains (plain_dests i i.op) d
    → often (instr_at p.program (first_of p.program b + n + d.ahead)) ≡ false

-- This is all that the first plan of a graph needs to be tidy: its landings lie in their blocks.
abbrev pub ExpandedIsTidy : Type 0
ExpandedIsTidy = (g : Graph) → HasText g → WellFormed g → LeadsToNoneOften (expanded (flow_of g)) → IsTidy (expanded (flow_of g))

-- What has to be proved of that plan: it is sound, and takes the graph's inputs.
pub record IsExpandedFor (g : Graph) : Type 0 where
  pub once : LeadsToNoneOften (expanded (flow_of g))
  pub orderly : Orderly (expanded (flow_of g))
  pub lands : LandsRightly (expanded (flow_of g))
  pub bounds : PlanKeepsBounds (expanded (flow_of g))
  pub faithful : FaithfulOnce (flow_of g) (expanded (flow_of g)).program

-- What is promised of the code of a graph: it is faithful, and uses frames and slots again rightly.
pub record KeepsPromises (g : Graph) (slots : List (List ℕ)) (version : Version) : Type 0 where
  pub faithful : Faithful (flow_of g) (code_of version (plan_of g) slots)
  pub releases : ReleasesLast (flow_of g) (code_of version (plan_of g) slots)
  pub credits : KeepsBoundsAs (flow_of g) (plan_of g) (code_of version (plan_of g) slots)
  pub alone : HoldsAloneAs (flow_of g) (plan_of g) (code_of version (plan_of g) slots)

abbrev pub GraphsFollow : Type 0
GraphsFollow = (g : Graph) (slots : List (List ℕ)) (version : Version) → HasText g → WellFormed g → IsExpandedFor g
    → Keeps (expanded (flow_of g)) (folded (expanded (flow_of g))) → Good (plan_of g) slots
    → version_number version ≡ g.version → KeepsPromises g slots version
