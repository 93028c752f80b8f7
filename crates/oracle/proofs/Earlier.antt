-- A node's sources are earlier nodes, so what is sent from a node goes to later ones.
use Rattle.std.proofs.Common.{◌≡◌, ℕ, zero, suc, ◌+◌, ◌<◌, ◌≤◌, Bool, true, false, ◌&&◌, ◌==◌, List, [], ◌∷◌, ◌++◌, drop, Some, slice_get}
use Rattle.std.proofs.Common.{if◌then◌else◌, refl, ap, ◌∙◌, arith, eqb-true}
use Rattle.semantics.specs.declared.graph.Source.{Source}
use Rattle.semantics.specs.Graph.{Node, Block, Graph}
use Rattle.semantics.specs.WellFormed.{WellFormed, IsBlockWell, IsEarlier}
use Rattle.semantics.proofs.Lines.{named_line_at}
use Rattle.lemmas.proofs.Alls.{all_at}
use Rattle.oracle.specs.declared.sending.Sent.{Sent}
use Rattle.oracle.specs.declared.tokens.Spot.TheVariants.{Operand}
use Rattle.oracle.specs.Sending.{AreOrdered, token_at, is_port_of, operand_tokens, node_tokens}

no_port : (s : Source) (n p : ℕ) → s.node < n → is_port_of s n p ≡ false
no_port s n p low = go (s.node == n) refl
  where
    go : (b : Bool) → (s.node == n) ≡ b → (b && (s.port == p)) ≡ false
    go true e =
        let same = eqb-true s.node n e in
        absurd (omega (arith, same, low))
    go false e = refl

none_for : (x : Sent) (n p m i : ℕ) (ss : List Source) → ((j : ℕ) (s : Source) → slice_get ss j ≡ Some s → s.node < n) → operand_tokens x n p m i ss ≡ []
none_for x n p m i [] low = refl
none_for x n p m i (s ∷ ss) low =
    ap (λ b. if b then token_at x (Operand m i) ∷ operand_tokens x n p m (i + 1) ss else operand_tokens x n p m (i + 1) ss) (no_port s n p (low 0 s refl))
    ∙ none_for x n p m (i + 1) ss (λ j z e. low (suc j) z e)

ordered_rest : (m : ℕ) (node : Node (List ℕ)) (nodes : List (Node (List ℕ))) → AreOrdered m (node ∷ nodes) → AreOrdered (m + 1) nodes
ordered_rest m node nodes ordered = λ k z i s e f.
    let low = ordered (suc k) z i s e f in
    omega (arith, low)

-- the nodes up to node n have no token from it
pub skipped : (x : Sent) (n p k m : ℕ) (nodes : List (Node (List ℕ))) → AreOrdered m nodes → m + k ≤ n + 1 → node_tokens x n p m nodes
    ≡ node_tokens x n p (m + k) (drop k nodes)
skipped x n p zero m nodes ordered le =
    let e : m + 0 ≡ m = omega arith in
    rw e refl
skipped x n p (suc k) m [] ordered le = refl
skipped x n p (suc k) m (node ∷ nodes) ordered le =
    let low : (j : ℕ) (s : Source) → slice_get node.sources j ≡ Some s → s.node < n
    = λ j s e. let first = ordered 0 node j s refl e in omega (arith, first, le) in
    let e : m + 1 + k ≡ m + suc k = omega arith in
    ap (λ ts. ts ++ node_tokens x n p (m + 1) nodes) (none_for x n p m 0 node.sources low)
    ∙ skipped x n p k (m + 1) nodes (ordered_rest m node nodes ordered) (omega (arith, le))
    ∙ ap (λ j. node_tokens x n p j (drop k nodes)) e

-- a well-formed graph's blocks are ordered
pub ordered_in : (g : Graph) (i : ℕ) (b : List ℕ × Block (List ℕ)) → WellFormed g → slice_get g.blocks i ≡ Some b → AreOrdered b.1.inputs b.1.nodes
ordered_in g i b well at = λ k node j s e f.
    let here : IsBlockWell g b.1 = all_at (λ (named : List ℕ × Block (List ℕ)). IsBlockWell g named.1) g.blocks i b well.blocks at in
    let line = here.nodes (b.1.inputs + k) node (named_line_at b.1 k ∙ e) in
    (all_at (IsEarlier g b.1 (b.1.inputs + k)) node.sources j s line.earlier f).0
