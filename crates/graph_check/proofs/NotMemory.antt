-- No first fault is a lack of memory.
use Rattle.std.proofs.Common.{◌≡◌, ◌≢◌, ℕ, ◌+◌, Bool, true, false, List, [], ◌∷◌, length, Option, Some, None, nat_lt, nat_eq, if◌then◌else◌, refl}
use Rattle.semantics.specs.declared.graph.Region.{Region}
use Rattle.semantics.specs.declared.graph.Region.TheVariants.{Root}
use Rattle.semantics.specs.declared.graph.Source.{Source}
use Rattle.semantics.specs.Graph.{Node, Block, Graph, node_at, node_count, array_names, block_names}
use Rattle.semantics.specs.WellFormed.{region_of}
use Rattle.graph_check.specs.declared.faults.CheckFault.{CheckFault}
use Rattle.graph_check.specs.declared.faults.CheckFaultKind.{CheckFaultKind}
use Rattle.graph_check.specs.declared.faults.CheckFaultKind.TheVariants.{SameName, NoSuchName, Arity, SourceNotEarlier, NoSuchPort, BadRegion}
use Rattle.graph_check.specs.declared.faults.CheckFaultKind.TheVariants.{CrossesRegion, BadBound, OutNotRoot, NoInput, NoOutput, Memory}
use Rattle.graph_check.specs.Names.{is_name}
use Rattle.graph_check.specs.FirstFault.{or_later, first_in, unless, same_region, is_good_region, fits_region, is_named, has_arity, is_bounded}
use Rattle.graph_check.specs.FirstFault.{has_port, source_fault, wanted_region, node_fault, results_fault, fault_at, block_fault, repeat_fault}
use Rattle.graph_check.specs.FirstFault.{array_name_fault, block_name_fault, first_fault}

-- none of these is one
abbrev Never : {F : Type 0} → (F → Type 0) → Option F → Type 0
Never P o = (f : _) → o ≡ Some f → P f

later_never : {F : Type 0} (P : F → Type 0) (x y : Option F) → Never P x → Never P y → Never P (or_later x y)
later_never P None y h k f e = k f e
later_never P (Some x) y h k f e = h f e

first_never : {X F : Type 0} (P : F → Type 0) (f : ℕ → X → Option F) (n : ℕ) (xs : List X) → ((i : ℕ) (x : X) → Never P (f i x)) → Never P (first_in f n xs)
first_never P f n [] h e is = cc
first_never P f n (x ∷ xs) h e is = later_never P (f n x) (first_in f (n + 1) xs) (h n x) (first_never P f (n + 1) xs h) e is

abbrev IsOther : CheckFaultKind → Type 0
IsOther k = k ≢ Memory

abbrev HasOther : CheckFault → Type 0
HasOther f = f.kind ≢ Memory

unless_never : (t : Bool) (k : CheckFaultKind) → k ≢ Memory → Never IsOther (unless t k)
unless_never true k h f e = cc
unless_never false k h f e =
    let same : k ≡ f = cc in
    λ m. h (cc)

at_never : (block line : Option ℕ) (k : Option CheckFaultKind) → Never IsOther k → Never HasOther (fault_at block line k)
at_never block line None h f e = cc
at_never block line (Some k) h f e =
    let same : record { kind = k; block = block; node = line } ≡ f = cc in
    λ m. h k refl (cc)

module _ (g : Graph) where
  source_never : (b : Block (List ℕ)) (n : ℕ) (wanted : Region) (otherwise : CheckFaultKind) (s : Source) → otherwise ≢ Memory
      → Never IsOther (source_fault g b n wanted otherwise s)
  source_never b n wanted otherwise s h =
      later_never IsOther _ _ (unless_never (nat_lt s.node n) SourceNotEarlier (λ e. cc))
      (later_never IsOther _ _ (unless_never (has_port g (node_at b s.node) s.port) NoSuchPort (λ e. cc))
      (unless_never (same_region (region_of b s.node) wanted) otherwise h))

  node_never : (b : Block (List ℕ)) (n : ℕ) (node : Node (List ℕ)) → Never IsOther (node_fault g b n node)
  node_never b n node =
      later_never IsOther _ _
      (later_never IsOther _ _ (unless_never (is_good_region b n node.region) BadRegion (λ e. cc))
      (unless_never (fits_region b n node.region node.kind) BadRegion (λ e. cc)))
      (later_never IsOther _ _ (unless_never (is_named g node.kind) NoSuchName (λ e. cc))
      (later_never IsOther _ _ (unless_never (has_arity g node.kind (length node.sources)) Arity (λ e. cc))
      (later_never IsOther _ _ (unless_never (is_bounded node.kind) BadBound (λ e. cc))
      (first_never IsOther _ 0 node.sources (λ i s. source_never b n (wanted_region b node.region node.kind i) CrossesRegion s (λ e. cc))))))

  results_never : (b : Block (List ℕ)) → Never IsOther (results_fault g b)
  results_never b =
      later_never IsOther _ _ (unless_never (nat_eq (length b.results) b.outputs) Arity (λ e. cc))
      (first_never IsOther _ 0 b.results (λ i s. source_never b (node_count b) Root OutNotRoot s (λ e. cc)))

  block_never : (i : ℕ) (b : Block (List ℕ)) → Never HasOther (block_fault g i b)
  block_never i b =
      later_never HasOther _ _ (at_never (Some i) None _ (unless_never (nat_lt 0 b.inputs) NoInput (λ e. cc)))
      (later_never HasOther _ _ (at_never (Some i) None _ (unless_never (nat_lt 0 b.outputs) NoOutput (λ e. cc)))
      (later_never HasOther _ _ (first_never HasOther _ 0 b.nodes (λ j node. at_never (Some i) (Some (b.inputs + j)) _ (node_never b (b.inputs + j) node)))
      (at_never (Some i) (Some (node_count b)) _ (results_never b))))

  repeat_never : (names : List (List ℕ)) (i : ℕ) (name : List ℕ) → Never IsOther (repeat_fault names i name)
  repeat_never names i name = go (is_name name _)
    where
      go : (t : Bool) → Never IsOther (if t then Some SameName else None)
      go true f e =
          let same : SameName ≡ f = cc in
          λ m. cc
      go false f e = cc

  pub first_never_memory : (e : CheckFault) → first_fault g ≡ Some e → e.kind ≢ Memory
  first_never_memory =
      later_never HasOther _ _
      (later_never HasOther _ _ (first_never HasOther (array_name_fault (array_names g)) 0 (array_names g)
      (λ i name. at_never None None _ (repeat_never (array_names g) i name)))
      (first_never HasOther (block_name_fault (block_names g)) 0 (block_names g) (λ i name. at_never (Some i) None _ (repeat_never (block_names g) i name))))
      (later_never HasOther _ _ (at_never None None _ (unless_never (is_name g.main (block_names g)) NoSuchName (λ e. cc)))
      (first_never HasOther _ 0 g.blocks (λ i named. block_never i named.1)))
