-- What has to be proved of the plan of every well-formed graph.
use Rattle.std.specs.Prelude.{◌≡◌, ℕ, ◌≤◌, List, Some, slice_get}
use Rattle.semantics.specs.declared.graph.Kind.{Kind}
use Rattle.semantics.specs.Graph.{Node, Block, Flow, Graph, flow_of, node_at}
use Rattle.semantics.specs.Meaning.{Main}
use Rattle.semantics.specs.Text.{HasText}
use Rattle.semantics.specs.WellFormed.{WellFormed}
use Rattle.semantics.specs.Cause.{HasBounds}
use Rattle.semantics.specs.Faithful.{Faithful}
use Rattle.semantics.specs.Plan.{Plan}
use Rattle.semantics.specs.Placed.{placed}
use Rattle.semantics.specs.Sharing.{Good}
use Rattle.semantics.specs.Orderly.{Orderly, inputs_of}
use Rattle.semantics.specs.Wired.{IsWired}
use Rattle.law_confluence.proofs.HistoryLaws.{IsFlowWell}
use Rattle.schemas.specs.Expanded.{expanded}
use Rattle.law_reuse.specs.Bounds.{PlanKeepsBounds}
use Rattle.law_reuse.specs.Frames.{TakesInputs}
use Rattle.law_fresh_frames.specs.Fresh.{FaithfulOnce}
use Rattle.law_fresh_frames.specs.Alike.{LandsRightly, IsTidy, PassKeeps}
use Rattle.code.specs.Sound.{IsSound}
use Rattle.law_fresh_frames.specs.Bounded.{HasFewDests}
use Rattle.law_net.specs.Contexts.{Wires, HasBlock}
use Rattle.law_net.specs.ContextsWires.{AreWired, AreWiredBy}
use Rattle.law_net.specs.ContextsOperands.{HaveOperands, SourcesAreEarlier}

-- what the proofs rest on
pub record IsGood (fl : Flow) (p : Plan) (w : Wires) : Type 0 where
  pub main : HasBlock fl Main
  pub well : IsFlowWell fl
  pub operands : HaveOperands fl
  pub earlier : SourcesAreEarlier fl
  pub plan : IsWired p
  pub takes_inputs : TakesInputs fl p
  pub bounds : HasBounds fl p.program
  pub wired : AreWiredBy fl p w

-- THE CORE, in two halves
abbrev pub ExpandedIsWired : Type 0
ExpandedIsWired = (g : Graph) → HasText g → WellFormed g → AreWired (flow_of g) (expanded (flow_of g))

pub record KeepsFaith (fl : Flow) (p : Plan) : Type 0 where
  pub faithful : FaithfulOnce fl p.program
  pub orderly : Orderly p
  pub bounds : PlanKeepsBounds p
  pub lands : LandsRightly p

abbrev pub WiredKeepsFaith : Type 0
WiredKeepsFaith = (fl : Flow) (p : Plan) (w : Wires) → IsGood fl p w → KeepsFaith fl p

-- For a plan whose instructions have few destinations, in all runs of its code
abbrev pub WiredCodeIsFaithful : Type 0
WiredCodeIsFaithful = (fl : Flow) (p : Plan) (w : Wires) (slots : List (List ℕ)) → IsGood fl p w → HasFewDests p.program → Good p slots
    → Faithful fl (placed p slots)

-- and for each plan that keeps as much, as that of a pass
abbrev pub FaithGoesOn : Type 0
FaithGoesOn = (fl : Flow) (p : Plan) (slots : List (List ℕ)) → KeepsFaith fl p → HasFewDests p.program → IsWired p → TakesInputs fl p → Good p slots
    → Faithful fl (placed p slots)

-- A pass that keeps as much as `PassKeeps` says carries it over.
abbrev pub FaithThroughPass : Type 0
FaithThroughPass = (fl : Flow) (pass : Plan → Plan) (p : Plan) → PassKeeps pass → IsSound p → IsTidy p → (pass p).program.arrays ≡ p.program.arrays
    → HasBounds fl (pass p).program → inputs_of (pass p) ≡ inputs_of p
    → TakesInputs fl (pass p) → KeepsFaith fl p → KeepsFaith fl (pass p)
