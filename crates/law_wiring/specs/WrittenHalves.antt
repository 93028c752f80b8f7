-- That a wiring is the one that is written down, and what follows for its laws: two halves, which meet in `IsWritten`.
use Rattle.std.specs.Prelude.{◌≡◌, ℕ, ◌<◌, ◌≤◌, true, false, ◌&&◌, [], ◌++◌, Some, slice_get, count_by, Contains}
use Rattle.semantics.specs.declared.graph.Region.{Region}
use Rattle.semantics.specs.Graph.{Block, Flow, Graph, flow_of}
use Rattle.semantics.specs.Text.{HasText}
use Rattle.semantics.specs.WellFormed.{WellFormed}
use Rattle.semantics.specs.Cause.{is_looped}
use Rattle.semantics.specs.Program.{CodeBlock}
use Rattle.schemas.specs.Expanded.{expanded}
use Rattle.law_net.specs.ContextsParts.{Part, Sender, Landing, CondEnd, End, Inlet, same_part}
use Rattle.law_net.specs.ContextsBlocks.{Side, Wiring, Site, there_in, is_kind, cell_kind, cond_kind, invokes, source_count}
use Rattle.law_net.specs.ContextsWires.{answered_at, AreFed, FollowArms, LeadOn, plain_site, turn_site, IsLaidOut}
use Rattle.law_net.specs.ContextsExpanded.{has_part, is_join_of, variant_in, wires_of}
use Rattle.law_wiring.specs.Written.{parts_in, wires_in, along, is_shared, is_triggered}
use Rattle.law_wiring.specs.WrittenFit.{IsFit}

-- THE MEETING POINT. The wiring has the parts and the wires that are written down.
pub record IsWritten (fl : Flow) (s : Site) (w : Wiring) : Type 0 where
  pub answers : (n : ℕ) → w.answers n ≡ (is_kind cell_kind s.block n && is_shared s n)
  pub triggers : (k : ℕ) → w.triggers k ≡ (is_kind cond_kind s.block k && is_triggered s.block k)
  pub joins : (r : Region) → w.joins r ≡ count_by (is_join_of r) (parts_in fl s)
  pub ends : (k : ℕ) → w.ends k ≡ has_part (CondEnd k) (parts_in fl s)
  -- each part occurs once
  pub there : (r : Part) → there_in fl s w r ≡ has_part r (parts_in fl s)
  pub once : (r : Part) → count_by (same_part r) (parts_in fl s) ≤ 1
  pub wire : (t : Side) → there_in fl s w t.part ≡ true → w.wire t ≡ along s.block t (wires_in fl s)
  pub none : (t : Side) → there_in fl s w t.part ≡ false → w.wire t ≡ []
  -- a wire leads to a part of the block, and forward; forward, too, is where the machine answers
  pub lands : (t : Side) (x : Inlet) → there_in fl s w t.part ≡ true → Contains (w.wire t) x → there_in fl s w x.part ≡ true
  pub forward : (t : Side) (x : Inlet) → there_in fl s w t.part ≡ true → Contains (answered_at t.part ++ w.wire t) x → w.place t.part < w.place x.part
  pub last : (r : Part) → there_in fl s w r ≡ true → w.place r ≤ w.place End
  -- what sends the arguments of an invocation is before what its results go to
  pub sends : (n i : ℕ) → invokes s.block n ≡ true → i < source_count s.block n → w.place (Sender n i) < w.place (Landing n 0)

-- FIRST HALF, of the code: a plain block's wiring is the written one, and its code is laid out by it
pub record IsLaidAsWritten (fl : Flow) (i : ℕ) (b : Block ℕ) (c : CodeBlock) : Type 0 where
  pub written : IsWritten fl (plain_site b i) ((wires_of fl).wiring i)
  pub laid : IsLaidOut fl (expanded fl) (variant_in fl) (plain_site b i) ((wires_of fl).wiring i) c

abbrev pub PlainCodeIsWritten : Type 0
PlainCodeIsWritten = (g : Graph) → HasText g → WellFormed g → (i : ℕ) (b : Block ℕ) (c : CodeBlock)
    → slice_get (flow_of g).blocks i ≡ Some b
    → slice_get (expanded (flow_of g)).program.blocks i ≡ Some c → IsFit (flow_of g) b → IsLaidAsWritten (flow_of g) i b c

-- and so is the code of a turn
pub record IsTurnLaidAsWritten (fl : Flow) (i : ℕ) (b : Block ℕ) (c : CodeBlock) : Type 0 where
  pub written : IsWritten fl (turn_site b i (variant_in fl i)) ((wires_of fl).wiring (variant_in fl i))
  pub laid : IsLaidOut fl (expanded fl) (variant_in fl) (turn_site b i (variant_in fl i)) ((wires_of fl).wiring (variant_in fl i)) c

abbrev pub TurnCodeIsWritten : Type 0
TurnCodeIsWritten = (g : Graph) → HasText g → WellFormed g → (i : ℕ) (b : Block ℕ) (c : CodeBlock)
    → slice_get (flow_of g).blocks i ≡ Some b → is_looped (flow_of g) i ≡ true
    → slice_get (expanded (flow_of g)).program.blocks (variant_in (flow_of g) i) ≡ Some c → IsFit (flow_of g) b → IsTurnLaidAsWritten (flow_of g) i b c

-- SECOND HALF, of lists of wires alone
abbrev pub WrittenIsFed : Type 0
WrittenIsFed = (fl : Flow) (i : ℕ) (b : Block ℕ) (w : Wiring) → slice_get fl.blocks i ≡ Some b → IsFit fl b
    → IsWritten fl (plain_site b i) w → AreFed fl (plain_site b i) w

abbrev pub WrittenFollowsArms : Type 0
WrittenFollowsArms = (fl : Flow) (i : ℕ) (b : Block ℕ) (w : Wiring) → slice_get fl.blocks i ≡ Some b → IsFit fl b
    → IsWritten fl (plain_site b i) w → FollowArms fl (plain_site b i) w

abbrev pub WrittenLeadsOn : Type 0
WrittenLeadsOn = (fl : Flow) (i : ℕ) (b : Block ℕ) (w : Wiring) → slice_get fl.blocks i ≡ Some b → IsFit fl b
    → IsWritten fl (plain_site b i) w → LeadOn fl (plain_site b i) w
