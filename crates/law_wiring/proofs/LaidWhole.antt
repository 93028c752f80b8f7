-- The whole code of a block is laid out as it is written down.
use Rattle.std.proofs.Common.{◌≡◌, ℕ, suc, ◌+◌, Bool, true, false, List, [], ◌∷◌, ◌++◌, length, refl, sym, ap, ◌∙◌, subst, arith, append_assoc, if◌then◌else◌}
use Rattle.std.proofs.Common.{Some, None, length-append}
use Rattle.std.specs.Prelude.{slice_get}
use Rattle.tags.specs.declared.token.Port.TheVariants.{Left, Right}
use Rattle.semantics.specs.declared.graph.Region.{Region}
use Rattle.semantics.specs.declared.graph.Region.TheVariants.{Root}
use Rattle.semantics.specs.declared.graph.Kind.{Kind}
use Rattle.semantics.specs.declared.graph.Kind.TheVariants.{Lit, Apply1, Apply2, Cond, Enter, Merge, Fetch, Store, Call, StrictCall, Loop}
use Rattle.semantics.specs.declared.program.Op.{Op}
use Rattle.semantics.specs.Graph.{Node, Block, Flow, node_at, node_count}
use Rattle.semantics.specs.Meaning.{arm_of}
use Rattle.schemas.specs.Builds.{Build, first_of, behind}
use Rattle.schemas.specs.Tails.{returns, iterate}
use Rattle.schemas.specs.Ends as Ends
use Rattle.schemas.specs.Ends.{ends_of, join_ends, Signalled, Closing, closing, closed_kind, closed_nodes, released}
use Rattle.schemas.specs.Blocks.{body, released_from}
use Rattle.law_net.specs.ContextsParts as Parts
use Rattle.law_net.specs.ContextsParts.{Part, Entry, Line, Gate, Opener, Framer, Fanned, Linker, Sender, Landing, CallDone, Giver, Taker, Drainer, LoopDone}
use Rattle.law_net.specs.ContextsParts.{Strict, Result, same_part}
use Rattle.law_net.specs.ContextsBlocks.{Side, side, Site, lies_in}
use Rattle.law_net.specs.ContextsExpanded.{row}
use Rattle.law_wiring.specs.Written.{Wire, wire, same_side, is_open, is_shared, is_triggered, answer_parts, trigger_parts, trigger_side, kind_parts, node_parts}
use Rattle.law_wiring.specs.Written.{inner_parts, inner_wires, sender_wires, strict_wires, strict_end, leaves, first_ends, joined_parts, joined_wires}
use Rattle.law_wiring.specs.Written.{signal_wires, Ended, close, close_kind, close_nodes, parts_in}
use Rattle.law_wiring.specs.Written as Written
use Rattle.law_wiring.specs.WrittenFit.{IsFit}
use Rattle.law_wiring.proofs.Laid.{Env, IsLaid, OutAt, out_more, laid_behind}
use Rattle.law_wiring.proofs.PartsStanding.{Stand, stand_left, stand_right}
use Rattle.law_wiring.proofs.Parts.{follow, node_within}
use Rattle.law_wiring.proofs.LaidArcs.{node_arcs, tail_arcs, inner_arcs, inner_with, closed_with, root_with, arcs_in}
use Rattle.law_wiring.proofs.LaidArcsSame.{inners_agree, ends_agree, parts_with, parts_same}
use Rattle.law_wiring.proofs.LaidNodes.{env, scope, Grown}
use Rattle.law_wiring.proofs.LaidBody.{body_laid, returns_laid}
use Rattle.law_wiring.proofs.LaidTurn.{turn_laid}
use Rattle.law_wiring.proofs.LaidEnds.{AreEnds, all_ends_laid}
use Rattle.law_wiring.proofs.LaidJoins.{IsClosing, close_laid, region_joined, signal_laid, added_parts}
use Rattle.law_wiring.proofs.LaidUsual.{HasTurns, inner_usual}

module _ (e : Env) where
  abbrev pub EntryAt : List Part → Type 0
  EntryAt rs = OutAt rs (first_of 0) (side Entry false)

  -- NODES, from the last one to the first one
  kind_closed : (c : Closing) (x : Ended) (n : ℕ) (k : Kind ℕ) (r : Region) → IsClosing e c x → EntryAt x.parts → r ≡ lies_in e.site.block n
      → Stand e.place 0 (close_kind e.site.block n x k).parts
      → IsClosing e (closed_kind c n k r) (close_kind e.site.block n x k) × EntryAt (close_kind e.site.block n x k).parts
  kind_closed c x n Cond r h a region at = (
    close_laid e c x n r h region (stand_right e.place 0 (length x.parts) x.parts (added_parts e n x) at (omega arith)),
    out_more x.parts (added_parts e n x) (first_of 0) (side Entry false) a,
  )
  kind_closed c x n (Lit z) r h a region at = (h, a)
  kind_closed c x n (Apply1 op) r h a region at = (h, a)
  kind_closed c x n (Apply2 op) r h a region at = (h, a)
  kind_closed c x n Enter r h a region at = (h, a)
  kind_closed c x n (Merge k) r h a region at = (h, a)
  kind_closed c x n (Fetch y) r h a region at = (h, a)
  kind_closed c x n (Store y) r h a region at = (h, a)
  kind_closed c x n (Call f) r h a region at = (h, a)
  kind_closed c x n (StrictCall f) r h a region at = (h, a)
  kind_closed c x n (Loop f k) r h a region at = (h, a)

  kind_stands : (x : Ended) (n : ℕ) (k : Kind ℕ) → Stand e.place 0 (close_kind e.site.block n x k).parts → Stand e.place 0 x.parts
  kind_stands x n Cond at = stand_left e.place 0 x.parts (added_parts e n x) at
  kind_stands x n (Lit z) at = at
  kind_stands x n (Apply1 op) at = at
  kind_stands x n (Apply2 op) at = at
  kind_stands x n Enter at = at
  kind_stands x n (Merge k) at = at
  kind_stands x n (Fetch y) at = at
  kind_stands x n (Store y) at = at
  kind_stands x n (Call f) at = at
  kind_stands x n (StrictCall f) at = at
  kind_stands x n (Loop f k) at = at

  nodes_closed : (c : Closing) (x : Ended) (n : ℕ) (xs : List (Node ℕ)) → IsClosing e c x → EntryAt x.parts
      → ((j : ℕ) (y : Node ℕ) → slice_get xs j ≡ Some y → node_at e.site.block (n + j) ≡ Some y)
      → Stand e.place 0 (close_nodes e.site.block n xs x).parts
      → IsClosing e (closed_nodes c n xs) (close_nodes e.site.block n xs x) × EntryAt (close_nodes e.site.block n xs x).parts
  unfolding closed_nodes
  nodes_closed c x n [] h a there at = (h, a)
  nodes_closed c x n (y ∷ xs) h a there at =
      let rest = nodes_closed c x (n + 1) xs h a (λ j z f. let k : (n + 1) + j ≡ n + suc j = omega arith in ap (node_at e.site.block) k ∙ there (suc j) z f)
      (kind_stands (close_nodes e.site.block (n + 1) xs x) n y.kind at) in
      let zeroless : n ≡ n + 0 = omega arith in
      kind_closed (closed_nodes c (n + 1) xs) (close_nodes e.site.block (n + 1) xs x) n y.kind y.region rest.0 rest.1
      (sym (ap arm_of (ap (node_at e.site.block) zeroless ∙ there 0 y refl))) at

  -- THE END
  released_laid : (c : Closing) (x : Ended) (offset : ℕ) → IsClosing e c x → EntryAt x.parts
      → Op.Release offset ≡ Op.Release (if e.site.turns then e.site.block.inputs else e.site.block.outputs)
      → Stand e.place 0 (x.parts ++ (joined_parts Root (Written.in_region e.site.block Root x.ends) ++ Parts.End ∷ []))
      → IsLaid e (released c.build c.ends offset) (x.parts ++ (joined_parts Root (Written.in_region e.site.block Root x.ends) ++ Parts.End ∷ []))
      (x.wires ++ (joined_wires Root (Written.in_region e.site.block Root x.ends)
      ++ (wire (side Entry false) Parts.End Left ∷ signal_wires Root (Written.in_region e.site.block Root x.ends) Parts.End Right)))
  unfolding released
  released_laid c x offset h a op at =
      let ts : List Side = Written.in_region e.site.block Root x.ends in
      let joins : List Part = joined_parts Root ts in
      let parts : List Part = x.parts ++ joins in
      let wires : List Wire = x.wires ++ joined_wires Root ts in
      let tail = stand_right e.place 0 (length x.parts) x.parts (joins ++ Parts.End ∷ []) at (omega arith) in
      let one = region_joined e c.build x.parts x.wires c.ends x.ends Root h.laid h.ends (stand_left e.place (length x.parts) joins (Parts.End ∷ []) tail) in
      let s : Signalled = join_ends c.build Ends.no_signal Root c.ends in
      let long = length-append x.parts joins in
      let here = (stand_right e.place (length x.parts) (length parts) joins (Parts.End ∷ []) tail long).0 in
      let size = one.laid.size in
      let two = laid_behind e s.build parts wires (first_of 0) (side Entry false) (Op.Release offset) Root Parts.End one.laid
      (out_more x.parts joins (first_of 0) (side Entry false) a) op refl refl (λ f. refl) here in
      let first : List Wire = wire (side Entry false) Parts.End Left ∷ [] in
      let three = signal_laid e (behind s.build (first_of 0) (Op.Release offset) Root) parts (wires ++ first) s.signal Root ts
      (length s.build.instrs) Parts.End Right two one.signal (size ∙ sym here) in
      subst (λ ps. IsLaid e (released c.build c.ends offset) ps (x.wires ++ (joined_wires Root ts ++ (first ++ signal_wires Root ts Parts.End Right))))
      (append_assoc x.parts joins (Parts.End ∷ []))
      (subst (λ us. IsLaid e (released c.build c.ends offset) (parts ++ Parts.End ∷ []) us)
      (append_assoc wires first (signal_wires Root ts Parts.End Right)
      ∙ append_assoc x.wires (joined_wires Root ts) (first ++ signal_wires Root ts Parts.End Right)) three)

-- THE BUILD. Before the ends
abbrev pub begun_of : Flow → Site → Bool → Build
begun_of fl s false = returns (body (scope fl s)) 0 s.block.results
begun_of fl s true = iterate (body (scope fl s)) s.own (node_count s.block) s.block.results

-- the flag of a turn is closed first
abbrev first_closing : Block ℕ → Bool → Build → Closing
first_closing b false d = closing d (ends_of d)
first_closing b true d = Ends.closed d (ends_of d) (node_count b) Root

-- where the frame is released
abbrev offset : Block ℕ → Bool → ℕ
offset b true = b.inputs
offset b false = b.outputs

abbrev pub site_build : Flow → Site → Build
site_build fl s = released_from (closed_nodes (first_closing s.block s.turns (begun_of fl s s.turns)) s.block.inputs s.block.nodes) (offset s.block s.turns)

module _ (fl : Flow) (S : Site) (place : Part → ℕ) (apart : (r q : Part) → same_part r q ≡ true → place r ≡ place q) (fit : IsFit fl S.block) where
  abbrev b : Block ℕ
  b = S.block

  abbrev pub it : Env
  it = env fl S place apart

  module _ (turned : HasTurns S) where
    abbrev begun : Build
    begun = begun_of fl S S.turns

    pub inner_laid : Stand place 0 (inner_parts fl S) → IsLaid it begun (inner_parts fl S) (inner_arcs S)
    inner_laid at = (go S.turns turned (stand_right place 0 (length parts) parts (Written.tail_parts b S.turns) at (omega arith))).laid
      where
        parts : List Part
        parts = Entry ∷ row Line 0 b.inputs ++ node_parts fl S b.inputs b.nodes

        grown : Grown fl S place apart (body (scope fl S)) parts (node_arcs S b.inputs b.nodes) (b.inputs + length b.nodes)
        grown = body_laid fl S place apart fit (follow b) (stand_left place 0 parts (Written.tail_parts b S.turns) at)

        go : (t : Bool) → (t ≡ true → length b.results ≡ suc b.inputs) → Stand place (length parts) (Written.tail_parts b t)
            → Grown fl S place apart (begun_of fl S t) (parts ++ Written.tail_parts b t) (node_arcs S b.inputs b.nodes ++ tail_arcs S t)
            (b.inputs + length b.nodes)
        go false h last =
            returns_laid fl S place apart fit (body (scope fl S)) parts (node_arcs S b.inputs b.nodes)
            (b.inputs + length b.nodes) 0 b.results grown fit.results last
        go true h last =
            turn_laid fl S place apart (body (scope fl S)) parts (node_arcs S b.inputs b.nodes) (b.inputs + length b.nodes) b.results grown fit.results
            (h refl) last

    pub first_ends_laid : Stand place 0 (inner_parts fl S) → AreEnds it (inner_parts fl S) (ends_of begun) (first_ends fl S)
    first_ends_laid at =
        subst (AreEnds it (inner_parts fl S) (ends_of begun)) (ends_agree it (inner_arcs S) (inner_wires S) (inner_parts fl S) (inners_agree it S))
        (all_ends_laid it begun (inner_parts fl S) (inner_arcs S) (inner_laid at) (inner_usual fl S place apart fit turned))

    pub nodes_stand : (n : ℕ) (xs : List (Node ℕ)) (x : Ended) → Stand place 0 (close_nodes b n xs x).parts → Stand place 0 x.parts
    nodes_stand n [] x at = at
    nodes_stand n (y ∷ xs) x at = nodes_stand (n + 1) xs x (kind_stands it (close_nodes b (n + 1) xs x) n y.kind at)

    flag_stands : (t : Bool) (x : Ended) → Stand place 0 (Written.close_flag b t x).parts → Stand place 0 x.parts
    flag_stands false x at = at
    flag_stands true x at = stand_left place 0 x.parts (added_parts it (node_count b) x) at

    pub closed_stands : (x : Ended) → Stand place 0 (close_nodes b b.inputs b.nodes (Written.close_flag b S.turns x)).parts → Stand place 0 x.parts
    closed_stands x at = flag_stands S.turns x (nodes_stand b.inputs b.nodes (Written.close_flag b S.turns x) at)

    pub flag_region : lies_in b (node_count b) ≡ Root
    flag_region = go (node_at b (node_count b)) refl
      where
        go : (o : _) → node_at b (node_count b) ≡ o → arm_of o ≡ Root
        go None e = refl
        go (Some x) e = let in_range = (node_within b (node_count b) x e).1 in absurd (omega (arith, in_range))

    flag_closed : (t : Bool) (d : Build) (x : Ended) → IsClosing it (closing d (ends_of d)) x → EntryAt it x.parts
        → Stand place 0 (Written.close_flag b t x).parts
        → IsClosing it (first_closing b t d) (Written.close_flag b t x) × EntryAt it (Written.close_flag b t x).parts
    flag_closed false d x h a at = (h, a)
    flag_closed true d x h a at = (
      close_laid it (closing d (ends_of d)) x (node_count b) Root h (sym flag_region)
          (stand_right place 0 (length x.parts) x.parts (added_parts it (node_count b) x) at (omega arith)),
      out_more x.parts (added_parts it (node_count b) x) (first_of 0) (side Entry false) a,
    )

    abbrev whole_build : Build
    whole_build = site_build fl S

    release_same : (t : Bool) → Op.Release (offset b t) ≡ Op.Release (if t then b.inputs else b.outputs)
    release_same true = refl
    release_same false = refl

    arcs_laid : Stand place 0 (parts_with fl S (inner_arcs S)) → IsLaid it whole_build (parts_with fl S (inner_arcs S)) (arcs_in fl S)
    arcs_laid at =
        let x : Ended = inner_with fl S (inner_arcs S) in
        let whole : Ended = closed_with fl S (inner_arcs S) in
        let all = stand_left place 0 whole.parts (joined_parts Root (root_with fl S (inner_arcs S)) ++ Parts.End ∷ []) at in
        let inside = closed_stands x all in
        let before = nodes_stand b.inputs b.nodes (Written.close_flag b S.turns x) all in
        let start : IsClosing it (closing begun (ends_of begun)) x = record { laid = inner_laid inside; ends = first_ends_laid inside } in
        let flagged = flag_closed S.turns begun x start (record { part = refl; second = refl }) before in
        let closed = nodes_closed it (first_closing b S.turns begun) (Written.close_flag b S.turns x) b.inputs b.nodes flagged.0 flagged.1 (follow b) all in
        released_laid it (closed_nodes (first_closing b S.turns begun) b.inputs b.nodes) whole (offset b S.turns) closed.0 closed.1 (release_same S.turns) at

    pub whole_laid : Stand place 0 (parts_in fl S) → IsLaid it whole_build (parts_in fl S) (arcs_in fl S)
    whole_laid at =
        let same = parts_same fl S (inner_arcs S) in
        subst (λ ps. IsLaid it whole_build ps (arcs_in fl S)) same (arcs_laid (subst (Stand place 0) (sym same) at))
