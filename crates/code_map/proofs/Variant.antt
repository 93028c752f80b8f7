-- The parts of a loop variant are found from the block and from its finished code.
use Rattle.std.proofs.lemmas.List.{length-append}
use Rattle.std.proofs.Common.{◌≡◌, ℕ, ◌-◌, true, List, length, replicate, refl, sym, ap, subst, ◌∙◌, arith}
use Rattle.semantics.specs.declared.graph.Region.{Region}
use Rattle.semantics.specs.declared.graph.Region.TheVariants.{Root}
use Rattle.semantics.specs.Graph.{node_count}
use Rattle.schemas.specs.Scopes.{Scope}
use Rattle.schemas.specs.UseCounts.{uses_of}
use Rattle.schemas.specs.Builds.{Build}
use Rattle.schemas.specs.Ends.{ends_of, closed_nodes}
use Rattle.schemas.specs.Tails.{iterate}
use Rattle.schemas.specs.Blocks.{body, finished, variant_build}
use Rattle.code_map.specs.declared.part.Part.{Part}
use Rattle.code_map.specs.Parts.{body_parts, filled, closing_of, turn_closing, variant_parts}
use Rattle.code_map.specs.Counts.{laid_body, laid_turn}
use Rattle.code_map.specs.Ends as Ends
use Rattle.code_map.specs.Joins as Joins
use Rattle.code_map.specs.Found.{parts_of}
use Rattle.code_map.specs.Laws.{VariantHasOwners, VariantIsFound}
use Rattle.code_map.proofs.Lengths.{Tracks, tracks_body}
use Rattle.code_map.proofs.Tails.{tracks_iterate, filled_twice}
use Rattle.code_map.proofs.Inside.{in_body, in_iterate}
use Rattle.code_map.proofs.Closing.{regions, Later, later_none, Matches, matches_closed, matches_nodes, matches_finished, finished_long}
use Rattle.code_map.proofs.Plain.{later_released}
use Rattle.code_map.proofs.Seen.{ends_seen}

module _ (s : Scope) (code : ℕ) where
  abbrev k : ℕ
  k = node_count s.block

  abbrev b : Build
  b = iterate (body s) code k s.block.results

  abbrev parts : List Part
  parts = filled (body_parts s) b Part.Turn

  tracks : Tracks (laid_turn (laid_body s.blocks s.triggers s.uses s.block) k s.block.results) b parts
  tracks = tracks_iterate (body s) code k s.block.results (laid_body s.blocks s.triggers s.uses s.block) (body_parts s) (tracks_body s)

  abbrev start : Joins.Joined
  start = record { parts = parts; ends = regions (ends_of b) }

  begun : Matches (length b.instrs) b (closing_of b) start parts
  begun = record { ends = refl; parts = refl; long = tracks.instrs; later = later_none (length b.instrs) b }

  same : filled parts (turn_closing s code).build Part.Turn ≡ filled (body_parts s) (turn_closing s code).build Part.Turn
  same =
      let m = matches_closed (length b.instrs) b (omega arith) (closing_of b) start parts begun k Root Part.Turn in
      let t = tracks_body s in
      let u = tracks.instrs in
      let v = length-append (body_parts s) (replicate (length b.instrs - length (body_parts s)) Part.Turn) in
      filled_twice (body_parts s) b (turn_closing s code).build Part.Turn (omega (arith, u, v)) m.later.long

  matched : Matches (length b.instrs) b (turn_closing s code) (Joins.closed start k Root Part.Turn) (filled (body_parts s) (turn_closing s code).build Part.Turn)
  matched = subst (Matches (length b.instrs) b (turn_closing s code) (Joins.closed start k Root Part.Turn)) same
      (matches_closed (length b.instrs) b (omega arith) (closing_of b) start parts begun k Root Part.Turn)

  later : Later (length b.instrs) b (variant_build s code)
  unfolding variant_build finished
  later =
      let m = matches_nodes (length b.instrs) b (omega arith) (turn_closing s code) (Joins.closed start k Root Part.Turn)
      (filled (body_parts s) (turn_closing s code).build Part.Turn) matched s.block.inputs s.block.nodes in
      later_released (length b.instrs) b (closed_nodes (turn_closing s code) s.block.inputs s.block.nodes) m.later.long m.later s.block.inputs

  seen : Ends.ends_of (variant_build s code).instrs (variant_build s code).marks
      (laid_turn (laid_body s.blocks s.triggers s.uses s.block) k s.block.results).regions ≡ regions (ends_of b)
  seen = ap (Ends.ends_of (variant_build s code).instrs (variant_build s code).marks) tracks.regions
      ∙ sym (ends_seen b (variant_build s code) (in_iterate (body s) (in_body s) code k s.block.results) later (tracks.places ∙ sym tracks.instrs)
      (tracks.marks ∙ sym tracks.instrs))

  abbrev last : List Part → List Region → List Part
  last ps rs = (Joins.released (Joins.closed_nodes (Joins.closed (record { parts = ps; ends = rs }) k Root Part.Turn) s.block.inputs s.block.nodes)).parts

  abbrev found_ends : List Region
  found_ends = Ends.ends_of (variant_build s code).instrs (variant_build s code).marks
      (laid_turn (laid_body s.blocks s.triggers s.uses s.block) k s.block.results).regions

  found : last (laid_turn (laid_body s.blocks s.triggers s.uses s.block) k s.block.results).parts found_ends ≡ variant_parts s code
  unfolding variant_parts
  found =
      ap (λ ps. last ps found_ends) tracks.parts ∙ ap (last parts) seen
      ∙ matches_finished (length b.instrs) b (omega arith) (turn_closing s code) (Joins.closed start k Root Part.Turn)
      (filled (body_parts s) (turn_closing s code).build Part.Turn) matched s.block s.block.inputs

  long : length (variant_parts s code) ≡ length (variant_build s code).instrs
  unfolding variant_parts variant_build
  long =
      finished_long (length b.instrs) b (omega arith) (turn_closing s code) (Joins.closed start k Root Part.Turn)
      (filled (body_parts s) (turn_closing s code).build Part.Turn) matched s.block s.block.inputs

pub variant_has_owners : VariantHasOwners
variant_has_owners s code = long s code

pub variant_is_found : VariantIsFound
unfolding parts_of
variant_is_found s code ts us =
    ap (λ xs. last s code (laid_turn (laid_body s.blocks xs (uses_of s.block xs true (node_count s.block)) s.block) (node_count s.block) s.block.results).parts
    (Ends.ends_of (variant_build s code).instrs (variant_build s code).marks
    (laid_turn (laid_body s.blocks xs (uses_of s.block xs true (node_count s.block)) s.block) (node_count s.block) s.block.results).regions)) (sym ts)
    ∙ ap (λ xs. last s code (laid_turn (laid_body s.blocks s.triggers xs s.block) (node_count s.block) s.block.results).parts
    (Ends.ends_of (variant_build s code).instrs (variant_build s code).marks
    (laid_turn (laid_body s.blocks s.triggers xs s.block) (node_count s.block) s.block.results).regions)) (sym us)
    ∙ found s code
