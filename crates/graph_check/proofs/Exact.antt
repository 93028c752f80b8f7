-- No fault is found exactly where a graph is well formed.
use Rattle.std.proofs.Common.{◌≡◌, ℕ, ◌+◌, ◌-◌, Bool, true, false, List, length, Some, None, nat_eq, nat_lt, if◌then◌else◌, refl, sym, ap, ◌∙◌}
use Rattle.std.proofs.Common.{subst, arith, eqb-true, eq-eqb, ltb-true, ltb-false, lt-ltb, le-ltb}
use Rattle.std.specs.Prelude.{slice_get}
use Rattle.lemmas.proofs.Alls.{at_all, all_from}
use Rattle.semantics.specs.declared.graph.Region.{Region}
use Rattle.semantics.specs.declared.graph.Region.TheVariants.{Root}
use Rattle.semantics.specs.declared.graph.Source.{Source}
use Rattle.semantics.specs.Graph.{Node, Block, Graph, node_at, node_count, array_names, block_names}
use Rattle.semantics.specs.WellFormed.{AllDiffer, region_of, IsEarlier, IsNodeWell, IsBlockWell, WellFormed}
use Rattle.graph_check.specs.declared.faults.CheckFault.{CheckFault}
use Rattle.graph_check.specs.declared.faults.CheckFaultKind.{CheckFaultKind}
use Rattle.graph_check.specs.declared.faults.CheckFaultKind.TheVariants.{NoSuchName, Arity, SourceNotEarlier, NoSuchPort, BadRegion, CrossesRegion}
use Rattle.graph_check.specs.declared.faults.CheckFaultKind.TheVariants.{BadBound, OutNotRoot, NoInput, NoOutput}
use Rattle.graph_check.specs.Names.{is_name}
use Rattle.graph_check.specs.FirstFault.{first_in, unless, same_region, is_good_region, fits_region, region_fault, is_named, has_arity, is_bounded}
use Rattle.graph_check.specs.FirstFault.{has_port, source_fault, wanted_region, node_fault, fault_at, lines_fault, block_fault, array_name_fault}
use Rattle.graph_check.specs.FirstFault.{names_fault, main_fault, first_fault}
use Rattle.graph_check.proofs.NoFault.{unless_none, unless_yes, later_none, none_later, fault_at_none, none_at, first_none, first_yes}
use Rattle.graph_check.proofs.Shapes.{is_name_contains, contains_is_name, arrays_differ, differ_arrays, blocks_differ, differ_blocks}
use Rattle.graph_check.proofs.Regions.{region_is, is_region, good_region, region_good, names_well, well_named, well_arity, well_bounded}
use Rattle.graph_check.proofs.Regions.{has_port_in, port_in_has, lies_well, well_fits, well_lies}

module _ (g : Graph) where
  -- ---- sources

  source_well : (b : Block (List ℕ)) (n : ℕ) (wanted : Region) (otherwise : CheckFaultKind) (s : Source) → source_fault g b n wanted otherwise s ≡ None
      → IsEarlier g b n s × (region_of b s.node ≡ wanted)
  source_well b n wanted otherwise s e =
      let p = later_none _ _ e in
      let q = later_none _ _ p.1 in (
        (ltb-true s.node n (unless_none _ SourceNotEarlier p.0), has_port_in g (node_at b s.node) s.port (unless_none _ NoSuchPort q.0)),
        region_is
            (region_of b s.node) wanted (unless_none _ otherwise q.1),
      )

  well_source : AllDiffer (block_names g) → (b : Block (List ℕ)) (n : ℕ) (wanted : Region) (otherwise : CheckFaultKind) (s : Source)
      → IsEarlier g b n s → region_of b s.node ≡ wanted → source_fault g b n wanted otherwise s ≡ None
  well_source differ b n wanted otherwise s h r =
      none_later (unless (nat_lt s.node n) SourceNotEarlier) _ (unless_yes (nat_lt s.node n) SourceNotEarlier (lt-ltb s.node n h.0))
      (none_later (unless (has_port g (node_at b s.node) s.port) NoSuchPort) _ (unless_yes (has_port g (node_at b s.node) s.port) NoSuchPort
      (port_in_has g differ (node_at b s.node) s.port h.1))
      (unless_yes (same_region (region_of b s.node) wanted) otherwise (is_region (region_of b s.node) wanted r)))

  -- ---- nodes

  node_well : (b : Block (List ℕ)) (n : ℕ) (node : Node (List ℕ)) → node_fault g b n node ≡ None → IsNodeWell g b n node
  node_well b n node e =
      let p = later_none _ _ e in
      let r = later_none _ _ p.0 in
      let q = later_none _ _ p.1 in
      let a = later_none _ _ q.1 in
      let k = later_none _ _ a.1 in
      let f = first_none (λ i s. source_fault g b n (wanted_region b node.region node.kind i) CrossesRegion s) node.sources k.1 in
      let names = names_well g node.kind (length node.sources) (unless_none _ NoSuchName q.0) (unless_none _ Arity a.0) (unless_none _ BadBound k.0) in
      record {
        region = good_region b n node.region (unless_none _ BadRegion r.0);
        names = names;
        earlier = all_from (IsEarlier g b n) node.sources (λ i s at. (source_well b n (wanted_region b node.region node.kind i) CrossesRegion s (f i s at)).0);
        lies = lies_well b n g node.region node.kind node.sources (unless_none _ BadRegion r.1) names
            (λ i s at. (source_well b n (wanted_region b node.region node.kind i) CrossesRegion s (f i s at)).1);
      }

  well_node : AllDiffer (block_names g) → (b : Block (List ℕ)) (n : ℕ) (node : Node (List ℕ)) → IsNodeWell g b n node → node_fault g b n node ≡ None
  well_node differ b n node h =
      let m = length node.sources in
      let lie = well_lies b n node.region node.kind node.sources h.lies in
      none_later (region_fault b n node.region node.kind) _
      (none_later (unless (is_good_region b n node.region) BadRegion) _ (unless_yes (is_good_region b n node.region) BadRegion
      (region_good b n node.region h.region))
      (unless_yes (fits_region b n node.region node.kind) BadRegion (well_fits b n node.region node.kind node.sources h.lies)))
      (none_later (unless (is_named g node.kind) NoSuchName) _ (unless_yes (is_named g node.kind) NoSuchName (well_named g node.kind m h.names))
      (none_later (unless (has_arity g node.kind m) Arity) _ (unless_yes (has_arity g node.kind m) Arity (well_arity g differ node.kind m h.names))
      (none_later (unless (is_bounded node.kind) BadBound) _ (unless_yes (is_bounded node.kind) BadBound (well_bounded g node.kind m h.names))
      (first_yes (λ i s. source_fault g b n (wanted_region b node.region node.kind i) CrossesRegion s) node.sources
      (λ i s at. well_source differ b n (wanted_region b node.region node.kind i) CrossesRegion s (at_all (IsEarlier g b n) node.sources h.earlier i s
      at) (lie i s at))))))

  -- ---- blocks

  line_at : (b : Block (List ℕ)) (n : ℕ) (node : Node (List ℕ)) → node_at b n ≡ Some node → (i : ℕ) × (n ≡ b.inputs + i) × (slice_get b.nodes i ≡ Some node)
  line_at b n node e = go (nat_lt n b.inputs) refl e
    where
      go : (t : Bool) → nat_lt n b.inputs ≡ t → (if t then None else slice_get b.nodes (n - b.inputs)) ≡ Some node → (i : ℕ) × (n ≡ b.inputs + i)
          × (slice_get b.nodes i ≡ Some node)
      go true p f = cc
      go false p f =
          let h = ltb-false n b.inputs p in
          (n - b.inputs, omega arith, f)

  at_line : (b : Block (List ℕ)) (i : ℕ) (node : Node (List ℕ)) → slice_get b.nodes i ≡ Some node → node_at b (b.inputs + i) ≡ Some node
  at_line b i node e =
      let t : nat_lt (b.inputs + i) b.inputs ≡ false = le-ltb (b.inputs + i) b.inputs (omega arith) in
      let z : b.inputs + i - b.inputs ≡ i = omega arith in
      ap (λ (t : Bool). if t then None else slice_get b.nodes (b.inputs + i - b.inputs)) t ∙ ap (λ j. slice_get b.nodes j) z ∙ e

  block_well : (i : ℕ) (b : Block (List ℕ)) → block_fault g i b ≡ None → IsBlockWell g b
  block_well i b e =
      let p = later_none _ _ e in
      let q = later_none _ _ p.1 in
      let l = later_none _ _ q.1 in
      let o = later_none _ _ (fault_at_none (Some i) (Some (node_count b)) _ l.1) in
      let lines = first_none (λ j node. fault_at (Some i) (Some (b.inputs + j)) (node_fault g b (b.inputs + j) node)) b.nodes l.0 in
      let outs = first_none (λ i s. source_fault g b (node_count b) Root OutNotRoot s) b.results o.1 in
      record {
        some_input = ltb-true 0 b.inputs (unless_none _ NoInput (fault_at_none (Some i) None _ p.0));
        some_output = ltb-true 0 b.outputs (unless_none _ NoOutput (fault_at_none (Some i) None _ q.0));
        nodes = λ n node at. let k = line_at b n node at in subst (λ n. IsNodeWell g b n node) (sym k.1)
            (node_well b (b.inputs + k.0) node (fault_at_none (Some i) (Some (b.inputs + k.0)) _ (lines k.0 node k.2)));
        result_count = eqb-true (length b.results) b.outputs (unless_none _ Arity o.0);
        results = all_from (IsEarlier g b (node_count b)) b.results (λ i s at. (source_well b (node_count b) Root OutNotRoot s (outs i s at)).0);
        in_root = all_from (λ (s : Source). region_of b s.node ≡ Root) b.results (λ i s at. (source_well b (node_count b) Root OutNotRoot s (outs i s at)).1);
      }

  well_block : AllDiffer (block_names g) → (i : ℕ) (b : Block (List ℕ)) → IsBlockWell g b → block_fault g i b ≡ None
  well_block differ i b h =
      none_later (fault_at (Some i) None (unless (nat_lt 0 b.inputs) NoInput)) _
      (none_at (Some i) None _ (unless_yes (nat_lt 0 b.inputs) NoInput (lt-ltb 0 b.inputs h.some_input)))
      (none_later (fault_at (Some i) None (unless (nat_lt 0 b.outputs) NoOutput)) _
      (none_at (Some i) None _ (unless_yes (nat_lt 0 b.outputs) NoOutput (lt-ltb 0 b.outputs h.some_output)))
      (none_later (lines_fault g i b b.inputs b.nodes) _
      (first_yes (λ j node. fault_at (Some i) (Some (b.inputs + j)) (node_fault g b (b.inputs + j) node)) b.nodes
      (λ j node at. none_at (Some i) (Some (b.inputs + j)) _ (well_node differ b (b.inputs + j) node (h.nodes (b.inputs + j) node (at_line b j node at)))))
      (none_at (Some i) (Some (node_count b)) _
      (none_later (unless (nat_eq (length b.results) b.outputs) Arity) _ (unless_yes (nat_eq (length b.results) b.outputs) Arity
      (eq-eqb (length b.results) b.outputs h.result_count))
      (first_yes (λ i s. source_fault g b (node_count b) Root OutNotRoot s) b.results
      (λ i s at. well_source differ b (node_count b) Root OutNotRoot s (at_all (IsEarlier g b (node_count b)) b.results h.results i s at)
      (at_all (λ (s : Source). region_of b s.node ≡ Root) b.results h.in_root i s at)))))))

  -- ---- graphs

  abbrev BlockIsWell : List ℕ × Block (List ℕ) → Type 0
  BlockIsWell named = IsBlockWell g named.1

  pub well_formed : first_fault g ≡ None → WellFormed g
  well_formed e =
      let p = later_none _ _ e in
      let names = later_none _ _ p.0 in
      let q = later_none _ _ p.1 in
      let blocks = first_none (λ i (named : List ℕ × Block (List ℕ)). block_fault g i named.1) g.blocks q.1 in
      record {
        arrays_differ = arrays_differ (array_names g) names.0;
        blocks_differ = blocks_differ (block_names g) names.1;
        main = is_name_contains g.main (block_names g) (unless_none _ NoSuchName (fault_at_none None None _ q.0));
        blocks = all_from BlockIsWell g.blocks (λ i named at. block_well i named.1 (blocks i named at));
      }

  pub faultless : WellFormed g → first_fault g ≡ None
  faultless h =
      none_later (names_fault g) _ (none_later (first_in (array_name_fault (array_names g)) 0 (array_names g)) _
      (differ_arrays (array_names g) h.arrays_differ) (differ_blocks (block_names g) h.blocks_differ))
      (none_later (main_fault g) _ (none_at None None _ (unless_yes (is_name g.main (block_names g)) NoSuchName
      (contains_is_name g.main (block_names g) h.main)))
      (first_yes (λ i (named : List ℕ × Block (List ℕ)). block_fault g i named.1) g.blocks (λ i named at. well_block h.blocks_differ i named.1
      (at_all BlockIsWell g.blocks h.blocks i named at))))

  pub not_well_formed : (e : CheckFault) → first_fault g ≡ Some e → WellFormed g → ⊥
  not_well_formed e is h =
      let none = faultless h in
      cc
