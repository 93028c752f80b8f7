-- A program that reads each cell behind its store: what it needs is counted in its own evaluation, and one of its runs keeps each loop within its bound.
use Rattle.std.proofs.Common.{◌≡◌, ℕ, ◌+◌, ◌≤◌, ℤ, List, length, Option, Some, None, refl, sym, ap, ◌∙◌, subst}
use Rattle.semantics.specs.declared.graph.Kind.{Kind}
use Rattle.semantics.specs.declared.graph.Kind.TheVariants.{Lit, Apply1, Apply2, Cond, Enter, Merge, Fetch, Store, Call, StrictCall, Loop}
use Rattle.std.specs.Prelude.{slice_get}
use Rattle.lemmas.proofs.Alls.{all_at}
use Rattle.lemmas.proofs.SliceGet.{map_get_back}
use Rattle.semantics.specs.Graph.{Graph, Node, Block, flow_of, node_at, resolved_kind, array_names, block_names}
use Rattle.semantics.specs.WellFormed.{WellFormed, NamesWell, IsBlockWell}
use Rattle.law_confluence.proofs.OutcomeResolved.{block_in, node_back}
use Rattle.semantics.specs.Meaning as Meaning
use Rattle.semantics.specs.Meaning.{Context, block_number, block_numbered, node_of, node_in}
use Rattle.source.specs.Theorem.{Computes}
use Rattle.law_completion.specs.Total.{CallsForAtMost}
use Rattle.law_completion.specs.TotalProgram.{count_of}
use Rattle.law_completion.proofs.Graphs.{total_graph}
use Rattle.law_loops_complete.specs.Within.{HasBound}
use Rattle.law_loops_complete.proofs.Within.{within_completes}
use Rattle.law_program_counts.specs.ProgramCounts.{TextsCallForCounted}
use Rattle.law_ordered_runs.specs.InOrder.{RunsInOrder}
use Rattle.law_ordered_runs.specs.InOrderCompletes.{ProgramsComeToRest, ProgramsInOrderComplete, ProgramsInOrderCompleteWithin}
use Rattle.law_ordered_runs.proofs.Ordered.{one_after_another_keeps}
use Rattle.law_ordered_runs.proofs.ReachingMain.{programs_run_in_order}

-- A well-formed graph's loops have bounds of at least 2.
bound_of : (arrays blocks : List (List ℕ)) (g : Graph) (kind : Kind (List ℕ)) (n f k : ℕ) → NamesWell g kind n → resolved_kind arrays blocks kind ≡ Loop f k
    → 2 ≤ k
bound_of arrays blocks g (Loop name j) n f k h e = let same : j ≡ k = cc in subst (λ k. 2 ≤ k) same h.1
bound_of arrays blocks g (Lit z) n f k h e = cc
bound_of arrays blocks g (Apply1 op) n f k h e = cc
bound_of arrays blocks g (Apply2 op) n f k h e = cc
bound_of arrays blocks g Cond n f k h e = cc
bound_of arrays blocks g Enter n f k h e = cc
bound_of arrays blocks g (Merge c) n f k h e = cc
bound_of arrays blocks g (Fetch a) n f k h e = cc
bound_of arrays blocks g (Store a) n f k h e = cc
bound_of arrays blocks g (Call name) n f k h e = cc
bound_of arrays blocks g (StrictCall name) n f k h e = cc

block_bounds : (g : Graph) → WellFormed g → (i : ℕ) (b : Block ℕ) → slice_get (flow_of g).blocks i ≡ Some b → (n : ℕ) (line : Node ℕ)
    → node_at b n ≡ Some line → (f k : ℕ) → line.kind ≡ Loop f k → 2 ≤ k
block_bounds g well i b e n line el f k kind =
    let named = map_get_back (λ (b : List ℕ × Block (List ℕ)). block_in g b.1) g.blocks i b e in
    let its = all_at (λ (named : List ℕ × Block (List ℕ)). IsBlockWell g named.1) g.blocks i named.0 well.blocks named.1 in
    let back = node_back g named.0.1 n line (subst (λ b. node_at b n ≡ Some line) (sym named.2) el) in
    bound_of (array_names g) (block_names g) g back.0.kind (length back.0.sources) f k (its.nodes n back.0 back.1).names
    (ap (λ (l : Node ℕ). l.kind) back.2 ∙ kind)

pub bounds_least : (g : Graph) → WellFormed g → (c : Context) (n k : ℕ) → HasBound (node_of (flow_of g) c n) k → 2 ≤ k
bounds_least g well c n k h = numbered (block_number (flow_of g) c) h
  where
    line : (i : ℕ) (b : Block ℕ) → slice_get (flow_of g).blocks i ≡ Some b → (o : Option (Node ℕ)) → node_at b n ≡ o → HasBound o k → 2 ≤ k
    line i b e None f h = absurd h
    line i b e (Some l) f h = block_bounds g well i b e n l f h.0 k h.1

    block : (i : ℕ) (o : Option (Block ℕ)) → slice_get (flow_of g).blocks i ≡ o → HasBound (node_in o n) k → 2 ≤ k
    block i None e h = absurd h
    block i (Some b) e h = line i b e (node_at b n) refl h

    numbered : (o : Option ℕ) → HasBound (node_in (block_numbered (flow_of g) o) n) k → 2 ≤ k
    numbered None h = absurd h
    numbered (Some i) h = block i (slice_get (flow_of g).blocks i) refl h

-- one memory, place by place
memory_is : (g : Graph) (inputs : List ℤ) (m : Meaning.Memory) (r : RunsInOrder g inputs m) → r.state.memory ≡ m
memory_is g inputs m r = λ i. record { cells = λ x. r.cells x i; outputs = λ j. r.outputs j i }

pub programs_come_to_rest : TextsCallForCounted → ProgramsComeToRest
programs_come_to_rest counted text p g origin low well inputs fits k =
    let r = programs_run_in_order text p g origin low well inputs fits k.memory k.computes k.behind in
    let same = memory_is g inputs k.memory r in
    record {
      state = r.state;
      rests = r.rests;
      memory = same;
      calls = subst
          (λ (m : Meaning.Memory). (k : Computes p origin inputs m)
          → CallsForAtMost (flow_of g) inputs ((count_of p origin inputs m k).calls + (count_of p origin inputs m k).turns) (count_of p origin inputs m k).turns)
          same (λ k. (counted text p g origin low well inputs fits r.state r.rests k).at_most) k.computes;
      within = record {
        state = r.state;
        rests = r.rests;
        run = r.run;
        is_run = r.is_run;
        within = one_after_another_keeps (flow_of g) r.run r.ordered (bounds_least g well);
      };
    }

pub programs_in_order_complete : ProgramsComeToRest → ProgramsInOrderComplete
programs_in_order_complete rests text p g origin low well plan code true_code inputs fits k z most large by_list may_stop r shows uncut =
    let h = rests text p g origin low well inputs fits k in
    total_graph g plan code well true_code inputs fits _ _ (record { state = h.state; rests = h.rests; calls = h.calls }) z most large by_list may_stop r shows uncut

pub programs_in_order_complete_within : ProgramsComeToRest → ProgramsInOrderCompleteWithin
programs_in_order_complete_within rests text p g origin low well code faithful outside inputs fits k z most space by_list may_stop r shows uncut =
    let h = rests text p g origin low well inputs fits k in
    within_completes g code well faithful outside inputs fits _ _ (record { state = h.state; rests = h.rests; calls = h.calls }) h.within z most space by_list
    may_stop r shows uncut
