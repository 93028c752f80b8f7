-- The wires of a node are among the wires of its block.
use Rattle.std.proofs.Common.{◌≡◌, ℕ, ◌+◌, ◌<◌, ◌≤◌, ◌⊎◌, inl, inr, Bool, true, false, List, [], ◌∷◌, ◌++◌, length, sym, ap, ◌∙◌, subst, arith, Some}
use Rattle.std.proofs.lemmas.Bool.{cases_lt}
use Rattle.std.proofs.lemmas.Option.{same_Some}
use Rattle.tags.specs.declared.token.Port.TheVariants.{Left, Right}
use Rattle.semantics.specs.declared.graph.Region.TheVariants.{Root, Arm}
use Rattle.semantics.specs.declared.graph.Kind.{Kind}
use Rattle.semantics.specs.declared.graph.Kind.TheVariants.{Lit, Apply1, Apply2, Cond, Enter, Merge, Fetch, Store, Call, StrictCall, Loop}
use Rattle.semantics.specs.Graph.{Node, Block, Flow, node_at, node_count}
use Rattle.law_net.specs.ContextsParts as Parts
use Rattle.law_net.specs.ContextsParts.{CondEnd}
use Rattle.law_net.specs.ContextsBlocks.{side, Site}
use Rattle.law_wiring.specs.Written as Written
use Rattle.law_wiring.specs.Written.{Wire, wire, kind_wires, node_wires, tail_wires, joined_wires, signal_wires, Ended, arm_ends, close, close_kind}
use Rattle.law_wiring.specs.Written.{close_nodes, close_flag, inner, root_ends, wires_in}
use Rattle.law_wiring.proofs.PartsCounts.{Follow, follow_more, follow_here}
use Rattle.law_wiring.proofs.WrittenMembers.{InW, wire_left, wire_right}
use Rattle.law_wiring.proofs.Parts.{follow, node_within}

module _ (fl : Flow) (s : Site) where
  abbrev b : Block ℕ
  b = s.block

  node_wire : (v : Wire) (n m : ℕ) (x : Node ℕ) (xs : List (Node ℕ)) → Follow b n xs → n ≤ m → m < n + length xs → node_at b m ≡ Some x
      → InW v (kind_wires s m x.region x.kind x.sources) → InW v (node_wires s n xs)
  node_wire v n m x [] f l u e h = absurd (omega (arith, l, u))
  node_wire v n m x (y ∷ xs) f l u e h = go (cases_lt n m) (λ a c. node_wire v (n + 1) m x xs (follow_more b n y xs f) a c e h)
    where
      go : (n < m) ⊎ (m ≤ n) → (n + 1 ≤ m → m < (n + 1) + length xs → InW v (node_wires s (n + 1) xs)) → InW v (node_wires s n (y ∷ xs))
      go (inl a) more = wire_right v (kind_wires s n y.region y.kind y.sources) (node_wires s (n + 1) xs) (more (omega (arith, a)) (omega (arith, u)))
      go (inr a) more =
          let same : m ≡ n = omega (arith, l, a) in
          let it : x ≡ y = same_Some x y (sym e ∙ ap (node_at b) same ∙ follow_here b n y xs f) in
          wire_left v (kind_wires s n y.region y.kind y.sources) (node_wires s (n + 1) xs)
          (subst (λ (z : Node ℕ). InW v (kind_wires s n z.region z.kind z.sources)) it (subst (λ j. InW v (kind_wires s j x.region x.kind x.sources)) same h))

  close_stays : (v : Wire) (k : ℕ) (x : Ended) → InW v x.wires → InW v (close b k x).wires
  close_stays v k x h =
      wire_left v x.wires (joined_wires (Arm k true) (arm_ends b k true x) ++ (joined_wires (Arm k false) (arm_ends b k false x)
      ++ (signal_wires (Arm k true) (arm_ends b k true x) (CondEnd k) Left ++ signal_wires (Arm k false) (arm_ends b k false x) (CondEnd k) Left))) h

  kind_stays : (v : Wire) (n : ℕ) (x : Ended) (k : Kind ℕ) → InW v x.wires → InW v (close_kind b n x k).wires
  kind_stays v n x Cond h = close_stays v n x h
  kind_stays v n x (Lit z) h = h
  kind_stays v n x (Apply1 op) h = h
  kind_stays v n x (Apply2 op) h = h
  kind_stays v n x Enter h = h
  kind_stays v n x (Merge c) h = h
  kind_stays v n x (Fetch a) h = h
  kind_stays v n x (Store a) h = h
  kind_stays v n x (Call f) h = h
  kind_stays v n x (StrictCall f) h = h
  kind_stays v n x (Loop f c) h = h

  nodes_stay : (v : Wire) (n : ℕ) (xs : List (Node ℕ)) (x : Ended) → InW v x.wires → InW v (close_nodes b n xs x).wires
  nodes_stay v n [] x h = h
  nodes_stay v n (y ∷ xs) x h = kind_stays v n (close_nodes b (n + 1) xs x) y.kind (nodes_stay v (n + 1) xs x h)

  flag_stays : (v : Wire) (t : Bool) (x : Ended) → InW v x.wires → InW v (close_flag b t x).wires
  flag_stays v false x h = h
  flag_stays v true x h = close_stays v (node_count b) x h

  pub node_in_block : (v : Wire) (n : ℕ) (x : Node ℕ) → node_at b n ≡ Some x → InW v (kind_wires s n x.region x.kind x.sources) → InW v (wires_in fl s)
  node_in_block v n x e h =
      let k = node_within b n x e in
      let here = node_wire v b.inputs n x b.nodes (follow b) k.0 k.1 e h in
      wire_left v (Written.closed fl s).wires
      (joined_wires Root (root_ends fl s) ++ (wire (side Parts.Entry false) Parts.End Left ∷ signal_wires Root (root_ends fl s) Parts.End Right))
      (nodes_stay v b.inputs b.nodes (close_flag b s.turns (inner fl s))
      (flag_stays v s.turns (inner fl s) (wire_left v (node_wires s b.inputs b.nodes) (tail_wires s s.turns) here)))

  -- and so are the wires of the block's results or of the turn
  pub tail_in_block : (v : Wire) → InW v (tail_wires s s.turns) → InW v (wires_in fl s)
  tail_in_block v h =
      wire_left v (Written.closed fl s).wires
      (joined_wires Root (root_ends fl s) ++ (wire (side Parts.Entry false) Parts.End Left ∷ signal_wires Root (root_ends fl s) Parts.End Right))
      (nodes_stay v b.inputs b.nodes (close_flag b s.turns (inner fl s))
      (flag_stays v s.turns (inner fl s) (wire_right v (node_wires s b.inputs b.nodes) (tail_wires s s.turns) h)))
