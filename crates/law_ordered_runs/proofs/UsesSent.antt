-- WHERE THE TOKENS OF A VALUE ARE: at each operand and each result that its port is used for.
use Rattle.std.proofs.Common.{◌≡◌, ℕ, zero, suc, ◌+◌, ◌-◌, ◌≤◌, ◌&&◌, ℤ, Bool, true, false, List, [], ◌∷◌, Option, Some, map, flat_map, ◌==◌, if◌then◌else◌}
use Rattle.std.proofs.Common.{inl, refl, sym, ap₂, subst, arith, eq-eqb}
use Rattle.std.specs.Prelude.{slice_get}
use Rattle.tags.specs.declared.value.Value.{Value}
use Rattle.semantics.specs.declared.graph.Source.{Source}
use Rattle.semantics.specs.Graph.{Graph, Node, Block, Flow, flow_of, node_at}
use Rattle.semantics.specs.WellFormed.{WellFormed}
use Rattle.semantics.specs.Meaning.{Context, Main, Called, Turned, AtNode, AtOut, AtTurn, Operand, Flag, Carried, Tagged, tagged, Sends}
use Rattle.semantics.specs.Meaning.{tokens_of, positions, uses_at, uses_in, result_uses, sent_in, block_of}
use Rattle.lemmas.proofs.Permutations.{Within, put_first, put_later, within_map, within_flat_map, within_left, within_right}
use Rattle.law_confluence.specs.Outcome.{AreInputsOf}
use Rattle.law_confluence.specs.EquationsHave.{Gives}
use Rattle.law_confluence.proofs.ActivityUses.{IsSource, Use, IsTurned, flags_sent}
use Rattle.law_confluence.proofs.EquationsGraphForms.{line_past}
use Rattle.law_ordered_runs.proofs.Extending.{Going, Came, said_came}

source_test : (s : Source) (n p : ℕ) → IsSource n p (Some s) → ((s.node == n) && (s.port == p)) ≡ true
source_test s n p h = ap₂ (λ a b. a && b) (eq-eqb s.node n h.0) (eq-eqb s.port p h.1)

positions_within : (n p from : ℕ) (ss : List Source) (k : ℕ) → IsSource n p (slice_get ss k) → Within (from + k) (positions n p from ss)
positions_within n p from [] k h = absurd h
positions_within n p from (s ∷ ss) zero h =
    let same : from + 0 ≡ from = omega arith in
    subst (λ (t : Bool). Within (from + 0) (if t then from ∷ positions n p (from + 1) ss else positions n p (from + 1) ss)) (sym (source_test s n p h))
    (positions n p (from + 1) ss, inl (same, refl))
positions_within n p from (s ∷ ss) (suc k) h =
    go ((s.node == n) && (s.port == p)) (subst (λ i. Within i (positions n p (from + 1) ss)) (omega arith) (positions_within n p (from + 1) ss k h))
  where
    go : (t : Bool) → Within (from + suc k) (positions n p (from + 1) ss)
        → Within (from + suc k) (if t then from ∷ positions n p (from + 1) ss else positions n p (from + 1) ss)
    go true ih = (from ∷ ih.0, put_later (from + suc k) from ih.0 (positions n p (from + 1) ss) ih.1)
    go false ih = ih

place : (n p : ℕ) (ss : List Source) (k : ℕ) → IsSource n p (slice_get ss k) → Within k (positions n p 0 ss)
place n p ss k h = subst (λ i. Within i (positions n p 0 ss)) (omega arith) (positions_within n p 0 ss k h)

uses_within : (n p m : ℕ) (nodes : List (Node ℕ)) (k i : ℕ) (node : Node ℕ) → slice_get nodes k ≡ Some node → IsSource n p (slice_get node.sources i)
    → Within (AtNode (m + k), Operand i) (uses_at n p m nodes)
uses_within n p m [] k i node e h = cc
uses_within n p m (x ∷ nodes) zero i node e h =
    let same : node ≡ x = cc in
    let at : m ≡ m + 0 = omega arith in
    let here : Within i (positions n p 0 x.sources) = place n p x.sources i (subst (λ (y : Node ℕ). IsSource n p (slice_get y.sources i)) same h) in
    subst (λ j. Within (AtNode j, Operand i) (uses_at n p m (x ∷ nodes))) at
    (within_left _ _ (uses_at n p (m + 1) nodes) (within_map (λ i. (AtNode m, Operand i)) i (positions n p 0 x.sources) here))
uses_within n p m (x ∷ nodes) (suc k) i node e h =
    let at : m + 1 + k ≡ m + suc k = omega arith in
    within_right _ (map (λ i. (AtNode m, Operand i)) (positions n p 0 x.sources)) _
    (subst (λ j. Within (AtNode j, Operand i) (uses_at n p (m + 1) nodes)) at (uses_within n p (m + 1) nodes k i node e h))

operand_use : (b : Block ℕ) (c : Context) (m : ℕ) (line : Node ℕ) (i n p : ℕ) → node_at b m ≡ Some line → IsSource n p (slice_get line.sources i)
    → Within (AtNode m, Operand i) (uses_in b c n p)
operand_use b c m line i n p e h =
    let past = line_past b m line e in
    let at : b.inputs + (m - b.inputs) ≡ m = omega (arith, past.0) in
    within_left _ _ (flat_map (λ j. result_uses c b.inputs j) (positions n p 0 b.results))
    (subst (λ j. Within (AtNode j, Operand i) (uses_at n p b.inputs b.nodes)) at (uses_within n p b.inputs b.nodes (m - b.inputs) i line past.1 h))

result_use : (b : Block ℕ) (c : Context) (j n p : ℕ) (u : Use) → IsSource n p (slice_get b.results j) → Within u (result_uses c b.inputs j)
    → Within u (uses_in b c n p)
result_use b c j n p u h k =
    within_right u (uses_at n p b.inputs b.nodes) _
    (within_flat_map (λ j. result_uses c b.inputs j) j u (positions n p 0 b.results) (place n p b.results j h) k)

is_source : (s : Source) (o : Option Source) → o ≡ Some s → IsSource s.node s.port o
is_source s o e = subst (λ o. IsSource s.node s.port o) (sym e) (refl, refl)

use_sent : (fl : Flow) (b : Block ℕ) (c : Context) (n p : ℕ) (v : Value) (u : Use) → block_of fl c ≡ Some b → Within u (uses_in b c n p)
    → Within (tagged c u.0 u.1 v) (tokens_of fl (Sends c n p v))
use_sent fl b c n p v u e h =
    subst (λ o. Within (tagged c u.0 u.1 v) (sent_in o c n p v)) (sym e) (within_map (λ (u : Use). tagged c u.0 u.1 v) u (uses_in b c n p) h)

-- IN A RUN
module _ (g : Graph) (inputs : List ℤ) (well : WellFormed g) (count : AreInputsOf g inputs) (x : Going g inputs) where
  abbrev GivesIn : Context → ℕ → ℕ → Value → Type 0
  GivesIn c n p v = Gives (flow_of g) x.run x.state.memory c n p v

  given_came : (c : Context) (n p : ℕ) (v : Value) → GivesIn c n p v → (t : Tagged) → Within t (tokens_of (flow_of g) (Sends c n p v))
      → Came g inputs well count x t
  given_came c n p v h t k = said_came g inputs well count x h.0 h.1 (Sends c n p v) h.2 h.3 h.4 t k

  pub operand_came : (c : Context) (b : Block ℕ) (m i : ℕ) (line : Node ℕ) (s : Source) (v : Value) → block_of (flow_of g) c ≡ Some b
      → node_at b m ≡ Some line → slice_get line.sources i ≡ Some s → GivesIn c s.node s.port v
      → Came g inputs well count x (tagged c (AtNode m) (Operand i) v)
  operand_came c b m i line s v eb el es h =
      given_came c s.node s.port v h _ (use_sent (flow_of g) b c s.node s.port v (AtNode m, Operand i) eb
      (operand_use b c m line i s.node s.port el (is_source s _ es)))

  pub result_came : (c : Context) (b : Block ℕ) (j : ℕ) (s : Source) (v : Value) → block_of (flow_of g) c ≡ Some b → slice_get b.results j ≡ Some s
      → (IsTurned c → ⊥)
      → GivesIn c s.node s.port v → Came g inputs well count x (tagged c (AtOut j) (Operand 0) v)
  result_came c b j s v eb es out h =
      given_came c s.node s.port v h _ (use_sent (flow_of g) b c s.node s.port v (AtOut j, Operand 0) eb
      (result_use b c j s.node s.port (AtOut j, Operand 0) (is_source s _ es) (here c out)))
    where
      here : (c : Context) → (IsTurned c → ⊥) → Within (AtOut j, Operand 0) (result_uses c b.inputs j)
      here Main out = ([], put_first _ [])
      here (Called d n) out = ([], put_first _ [])
      here (Turned d n i) out = absurd (out tt)

  pub carried_came : (c : Context) (n t : ℕ) (b : Block ℕ) (j : ℕ) (s : Source) (v : Value) → block_of (flow_of g) (Turned c n t) ≡ Some b
      → slice_get b.results (suc j) ≡ Some s
      → GivesIn (Turned c n t) s.node s.port v → Came g inputs well count x (tagged (Turned c n t) (AtTurn (suc j)) Carried v)
  carried_came c n t b j s v eb es h =
      given_came (Turned c n t) s.node s.port v h _
      (use_sent (flow_of g) b (Turned c n t) s.node s.port v (AtTurn (suc j), Carried) eb
      (result_use b (Turned c n t) (suc j) s.node s.port (AtTurn (suc j), Carried) (is_source s _ es) ([], put_first _ [])))

  pub flag_came : (c : Context) (n t : ℕ) (b : Block ℕ) (j : ℕ) (s : Source) (v : Value) → block_of (flow_of g) (Turned c n t) ≡ Some b
      → slice_get b.results 0 ≡ Some s → 1 ≤ j → j ≤ b.inputs
      → GivesIn (Turned c n t) s.node s.port v → Came g inputs well count x (tagged (Turned c n t) (AtTurn j) Flag v)
  flag_came c n t b j s v eb es low high h =
      given_came (Turned c n t) s.node s.port v h _ (flags_sent (flow_of g) b (Turned c n t) s.node s.port v eb tt (is_source s _ es) j low high)
