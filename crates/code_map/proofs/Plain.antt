-- The parts of a plain block are found from the block and from its finished code.
use Rattle.std.proofs.Common.{◌≡◌, ℕ, ◌≤◌, false, List, length, refl, sym, ap, ◌∙◌, arith, None}
use Rattle.semantics.specs.declared.graph.Region.TheVariants.{Root}
use Rattle.tags.specs.declared.value.Origin.TheVariants.{Untold}
use Rattle.tags.specs.declared.token.Port.TheVariants.{Left, Right}
use Rattle.semantics.specs.declared.program.Mark.TheVariants.{Unmarked}
use Rattle.semantics.specs.declared.program.Op.{Op}
use Rattle.semantics.specs.Graph.{node_count}
use Rattle.schemas.specs.Scopes.{Scope}
use Rattle.schemas.specs.UseCounts.{uses_of}
use Rattle.schemas.specs.Builds.{Build, quieted, behind, first_of}
use Rattle.schemas.specs.Ends.{Closing, join_ends, released, signalled, ends_of, closed_nodes}
use Rattle.schemas.specs.Tails.{returns}
use Rattle.schemas.specs.Blocks.{body, finished, plain_build}
use Rattle.code_map.specs.declared.part.Part.{Part}
use Rattle.code_map.specs.Parts.{body_parts, output_parts, closing_of, plain_parts}
use Rattle.code_map.specs.Counts.{laid_body, laid_outputs}
use Rattle.code_map.specs.Ends as Ends
use Rattle.code_map.specs.Joins as Joins
use Rattle.code_map.specs.Found.{parts_of}
use Rattle.code_map.specs.Laws.{PlainHasOwners, PlainIsFound}
use Rattle.code_map.proofs.Lengths.{Tracks, tracks_body}
use Rattle.code_map.proofs.Tails.{tracks_outputs}
use Rattle.code_map.proofs.Inside.{in_body, in_returns}
use Rattle.code_map.proofs.Closing.{regions, Later, later_none, later_then, later_added, later_connected, later_signalled, joins_all, Matches, matches_nodes, matches_finished, finished_long}
use Rattle.code_map.proofs.Seen.{ends_seen}

-- the release comes later, too
pub later_released : (limit : ℕ) (b : Build) (c : Closing) → limit ≤ length c.build.instrs → Later limit b c.build → (offset : ℕ)
    → Later limit b (released c.build c.ends offset)
unfolding released
later_released limit b c low x offset =
    let s = join_ends c.build None Root c.ends in
    let y = joins_all limit Root c.build low c.ends in
    let e = quieted s.build (Op.Release offset) Root in
    let d = behind s.build (first_of 0) (Op.Release offset) Root in
    let below : limit ≤ length s.build.instrs = let p = y.later.long in omega (arith, p, low) in
    let z = later_added limit s.build below (Op.Release offset) Untold Unmarked Root in
    let far : limit ≤ length e.instrs = let p = z.long in omega (arith, p, below) in
    let w = later_connected limit e far (first_of 0) (length s.build.instrs) Left below in
    let v = later_signalled limit d (let p = w.long in omega (arith, p, far)) s.signal (length s.build.instrs) Right below in
    later_then limit b c.build (signalled d s.signal (length s.build.instrs) Right) x
    (later_then limit c.build s.build (signalled d s.signal (length s.build.instrs) Right) y.later
    (later_then limit s.build d (signalled d s.signal (length s.build.instrs) Right) (later_then limit s.build e d z w) v))

module _ (s : Scope) where
  abbrev b : Build
  b = returns (body s) 0 s.block.results

  abbrev parts : List Part
  parts = output_parts (body_parts s) (body s) 0 s.block.results

  tracks : Tracks (laid_outputs (laid_body s.blocks s.triggers s.uses s.block) 0 s.block.results) b parts
  tracks = tracks_outputs s.block.results 0 (laid_body s.blocks s.triggers s.uses s.block) (body s) (body_parts s) (tracks_body s)

  matched : Matches (length b.instrs) b (closing_of b) (record { parts = parts; ends = regions (ends_of b) }) parts
  matched = record { ends = refl; parts = refl; long = tracks.instrs; later = later_none (length b.instrs) b }

  later : Later (length b.instrs) b (plain_build s)
  unfolding plain_build finished
  later =
      let m = matches_nodes (length b.instrs) b (omega arith) (closing_of b) (record { parts = parts; ends = regions (ends_of b) }) parts matched
      s.block.inputs s.block.nodes in
      later_released (length b.instrs) b (closed_nodes (closing_of b) s.block.inputs s.block.nodes) m.later.long m.later s.block.outputs

  seen : Ends.ends_of (plain_build s).instrs (plain_build s).marks (laid_outputs (laid_body s.blocks s.triggers s.uses s.block) 0 s.block.results).regions
      ≡ regions (ends_of b)
  seen = ap (Ends.ends_of (plain_build s).instrs (plain_build s).marks) tracks.regions
      ∙ sym (ends_seen b (plain_build s) (in_returns (body s) (in_body s) 0 s.block.results) later (tracks.places ∙ sym tracks.instrs)
      (tracks.marks ∙ sym tracks.instrs))

  found : (Joins.released (Joins.closed_nodes (record {
    parts = (laid_outputs (laid_body s.blocks s.triggers s.uses s.block) 0 s.block.results).parts;
    ends = Ends.ends_of (plain_build s).instrs (plain_build s).marks (laid_outputs (laid_body s.blocks s.triggers s.uses s.block) 0 s.block.results).regions;
  }) s.block.inputs s.block.nodes)).parts ≡ plain_parts s
  unfolding plain_parts plain_build
  found =
      ap (λ ps. (Joins.released (Joins.closed_nodes (record {
        parts = ps;
        ends = Ends.ends_of (plain_build s).instrs (plain_build s).marks (laid_outputs (laid_body s.blocks s.triggers s.uses s.block) 0 s.block.results).regions;
      }) s.block.inputs s.block.nodes)).parts) tracks.parts
      ∙ ap (λ rs. (Joins.released (Joins.closed_nodes (record { parts = parts; ends = rs }) s.block.inputs s.block.nodes)).parts) seen
      ∙ matches_finished (length b.instrs) b (omega arith) (closing_of b) (record { parts = parts; ends = regions (ends_of b) }) parts matched s.block s.block.outputs

  long : length (plain_parts s) ≡ length (plain_build s).instrs
  unfolding plain_parts plain_build
  long =
      finished_long (length b.instrs) b (omega arith) (closing_of b) (record { parts = parts; ends = regions (ends_of b) }) parts matched s.block s.block.outputs

pub plain_has_owners : PlainHasOwners
plain_has_owners s = long s

pub plain_is_found : PlainIsFound
unfolding parts_of
plain_is_found s ts us =
    ap (λ xs. (Joins.released (Joins.closed_nodes (record {
      parts = (laid_outputs (laid_body s.blocks xs (uses_of s.block xs false (node_count s.block)) s.block) 0 s.block.results).parts;
      ends = Ends.ends_of (plain_build s).instrs (plain_build s).marks
          (laid_outputs (laid_body s.blocks xs (uses_of s.block xs false (node_count s.block)) s.block) 0 s.block.results).regions;
    }) s.block.inputs s.block.nodes)).parts) (sym ts)
    ∙ ap (λ xs. (Joins.released (Joins.closed_nodes (record {
      parts = (laid_outputs (laid_body s.blocks s.triggers xs s.block) 0 s.block.results).parts;
      ends = Ends.ends_of (plain_build s).instrs (plain_build s).marks (laid_outputs (laid_body s.blocks s.triggers xs s.block) 0 s.block.results).regions;
    }) s.block.inputs s.block.nodes)).parts) (sym us)
    ∙ found s
