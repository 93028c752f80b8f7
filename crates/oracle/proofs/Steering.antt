-- The tokens that a deed adds, by numbers of invocations and by their names.
use Rattle.std.proofs.Common.{◌≡◌, ℕ, zero, suc, ◌+◌, ◌<◌, Bool, true, false, List, [], ◌∷◌, ◌++◌, map, length, Option, Some, None, slice_get}
use Rattle.std.proofs.Common.{if◌then◌else◌, refl, sym, ap, ◌∙◌, subst}
use Rattle.std.specs.Prelude.{option_map}
use Rattle.tags.specs.declared.value.Value.{Value}
use Rattle.semantics.specs.declared.graph.Region.{Region}
use Rattle.semantics.specs.declared.graph.Region.TheVariants.{Root, Arm}
use Rattle.semantics.specs.declared.graph.Source.{Source}
use Rattle.semantics.specs.declared.graph.Kind.{Kind}
use Rattle.semantics.specs.declared.graph.Kind.TheVariants.{Lit, Apply1, Apply2, Cond, Enter, Merge, Fetch, Store, Call, StrictCall, Loop}
use Rattle.semantics.specs.Graph.{Node, Block, Graph, flow_of}
use Rattle.semantics.specs.Meaning.{Context, Tagged, tagged, sent, entering, predicates_from, predicates_in, is_enter_of, block_numbered, block_of}
use Rattle.semantics.specs.Meaning as Meaning
use Rattle.lemmas.proofs.Permutations.{Each, each_append}
use Rattle.lemmas.proofs.SliceGet.{get_some}
use Rattle.oracle.specs.declared.invocations.Made.{Made}
use Rattle.oracle.specs.declared.invocations.Made.TheVariants.{Main, Called, Turned}
use Rattle.oracle.specs.declared.invocations.Invocation.{Invocation}
use Rattle.oracle.specs.declared.sending.Sent.{Sent}
use Rattle.oracle.specs.declared.tokens.Token.{Token}
use Rattle.oracle.specs.declared.tokens.Spot.TheVariants.{Operand, Predicate}
use Rattle.oracle.specs.Lines.{resolved_in}
use Rattle.oracle.specs.Sending.{token_at, is_port_of, operand_tokens, node_tokens, flag_tokens, turned_tokens, result_tokens, results_tokens}
use Rattle.oracle.specs.Sending.{is_gate_of, steered_tokens, entering_tokens}
use Rattle.oracle.specs.Running.{sent_of, sent_by, sent_if, sent_in, steered_by, steered_if, steered_in}
use Rattle.oracle.specs.Meant.{name_in, tagged_of}
use Rattle.oracle.specs.Naming.{Named}
use Rattle.oracle.specs.Agreeing.{block_in, row_in}
use Rattle.oracle.proofs.Resolved.{block_same}
use Rattle.oracle.proofs.Sends.{all_sent}

-- WHAT A CONDITIONAL SENDS TO ITS ARMS

gate_test : (g : Graph) (k : ℕ) (r : Region) (kind : Kind (List ℕ)) → is_gate_of k r kind ≡ is_enter_of k r (resolved_in g kind)
gate_test g k Root Enter = refl
gate_test g k (Arm c side) Enter = refl
gate_test g k Root (Lit z) = refl
gate_test g k Root (Apply1 op) = refl
gate_test g k Root (Apply2 op) = refl
gate_test g k Root Cond = refl
gate_test g k Root (Merge c) = refl
gate_test g k Root (Fetch a) = refl
gate_test g k Root (Store a) = refl
gate_test g k Root (Call f) = refl
gate_test g k Root (StrictCall f) = refl
gate_test g k Root (Loop f b) = refl
gate_test g k (Arm c side) (Lit z) = refl
gate_test g k (Arm c side) (Apply1 op) = refl
gate_test g k (Arm c side) (Apply2 op) = refl
gate_test g k (Arm c side) Cond = refl
gate_test g k (Arm c side) (Merge m) = refl
gate_test g k (Arm c side) (Fetch a) = refl
gate_test g k (Arm c side) (Store a) = refl
gate_test g k (Arm c side) (Call f) = refl
gate_test g k (Arm c side) (StrictCall f) = refl
gate_test g k (Arm c side) (Loop f b) = refl

told_same : (g : Graph) (cs : List Context) (x : Sent) (k m : ℕ) (nodes : List (Node (List ℕ)))
    → map (tagged_of cs) (steered_tokens x k m nodes) ≡ predicates_from (name_in cs x.context) k x.value m (map (row_in g) nodes)
told_same g cs x k m [] = refl
told_same g cs x k m (line ∷ lines) =
    let c = name_in cs x.context in
    let later = predicates_from c k x.value (m + 1) (map (row_in g) lines) in
    let ih = told_same g cs x k (m + 1) lines in
    let cases : (b : Bool) → map (tagged_of cs) (if b then token_at x (Predicate m) ∷ steered_tokens x k (m + 1) lines else steered_tokens x k (m + 1) lines)
    ≡ (if b then tagged c (Meaning.AtNode m) Meaning.Predicate x.value ∷ later else later)
    = λ b. elim b as (λ b. map (tagged_of cs) (if b then token_at x (Predicate m) ∷ steered_tokens x k (m + 1) lines else steered_tokens x k (m + 1) lines)
    ≡ (if b then tagged c (Meaning.AtNode m) Meaning.Predicate x.value ∷ later else later)) [
      | true ↦ ap (λ zs. tagged c (Meaning.AtNode m) Meaning.Predicate x.value ∷ zs) ih
      | false ↦ ih
    ] in
    cases (is_gate_of k line.region line.kind) ∙ ap (λ b. if b then tagged c (Meaning.AtNode m) Meaning.Predicate x.value ∷ later else later)
    (gate_test g k line.region line.kind)

-- WHAT AN INVOCATION TAKES

pub entering_same : (cs : List Context) (c i : ℕ) (vs : List Value) → map (tagged_of cs) (entering_tokens c i vs) ≡ entering (name_in cs c) i vs
entering_same cs c i [] = refl
entering_same cs c i (v ∷ vs) = ap (λ zs. tagged (name_in cs c) (Meaning.AtNode i) (Meaning.Operand 0) v ∷ zs) (entering_same cs c (i + 1) vs)

-- THE INVOCATIONS OF NEW TOKENS

abbrev pub AreOf : ℕ → List Token → Type 0
AreOf c ts = Each (λ (t : Token). t.context ≡ c) ts

operands_of : (x : Sent) (n p m i : ℕ) (ss : List Source) → AreOf x.context (operand_tokens x n p m i ss)
operands_of x n p m i [] = tt
operands_of x n p m i (s ∷ ss) =
    let ih = operands_of x n p m (i + 1) ss in
    elim (is_port_of s n p) as (λ b. AreOf x.context (if b then token_at x (Operand m i) ∷ operand_tokens x n p m (i + 1) ss else operand_tokens x n p
    m (i + 1) ss)) [ true ↦ (refl, ih) | false ↦ ih ]

nodes_of : (x : Sent) (n p m : ℕ) (lines : List (Node (List ℕ))) → AreOf x.context (node_tokens x n p m lines)
nodes_of x n p m [] = tt
nodes_of x n p m (line ∷ lines) = each_append (λ (t : Token). t.context ≡ x.context) (operand_tokens x n p m 0 line.sources)
    (node_tokens x n p (m + 1) lines) (operands_of x n p m 0 line.sources) (nodes_of x n p (m + 1) lines)

flags_of : (x : Sent) (from k : ℕ) → AreOf x.context (flag_tokens x from k)
flags_of x from zero = tt
flags_of x from (suc k) = (refl, flags_of x (from + 1) k)

turned_of : (x : Sent) (inputs j : ℕ) → AreOf x.context (turned_tokens x inputs j)
turned_of x inputs zero = flags_of x 1 inputs
turned_of x inputs (suc j) = (refl, tt)

result_of : (x : Sent) (made : Made) (inputs j : ℕ) → AreOf x.context (result_tokens x made inputs j)
result_of x Main inputs j = (refl, tt)
result_of x (Called c n) inputs j = (refl, tt)
result_of x (Turned c n i) inputs j = turned_of x inputs j

results_of : (x : Sent) (made : Made) (inputs n p j : ℕ) (ss : List Source) → AreOf x.context (results_tokens x made inputs n p j ss)
results_of x made inputs n p j [] = tt
results_of x made inputs n p j (s ∷ ss) =
    let ih = results_of x made inputs n p (j + 1) ss in
    elim (is_port_of s n p) as (λ b. AreOf x.context (if b then result_tokens x made inputs j ++ results_tokens x made inputs n p (j + 1) ss else
    results_tokens x made inputs n p (j + 1) ss)) [
      | true ↦ each_append (λ (t : Token). t.context ≡ x.context) (result_tokens x made inputs j) (results_tokens x made inputs n p (j + 1) ss)
          (result_of x made inputs j) ih
      | false ↦ ih
    ]

end_result_of : (x : Sent) (k m : ℕ) (lines : List (Node (List ℕ))) → AreOf x.context (steered_tokens x k m lines)
end_result_of x k m [] = tt
end_result_of x k m (line ∷ lines) =
    let ih = end_result_of x k (m + 1) lines in
    elim (is_gate_of k line.region line.kind) as (λ b. AreOf x.context (if b then token_at x (Predicate m)
    ∷ steered_tokens x k (m + 1) lines else steered_tokens x k (m + 1) lines)) [ true ↦ (refl, ih) | false ↦ ih ]

pub entering_of : (c i : ℕ) (vs : List Value) → AreOf c (entering_tokens c i vs)
entering_of c i [] = tt
entering_of c i (v ∷ vs) = (refl, entering_of c (i + 1) vs)

-- IN A RUN

module _ (g : Graph) (xs : List Invocation) (cs : List Context) (named : Named g xs cs) (c : ℕ) (low : c < length xs) (v : Value) where
  x : (y : Invocation) × (slice_get xs c ≡ Some y)
  x = get_some xs c low

  block : block_of (flow_of g) (name_in cs c) ≡ option_map (block_in g) (slice_get g.blocks x.0.block)
  block = ap (block_numbered (flow_of g)) (named.block c x.0 x.1) ∙ block_same g x.0.block

  pub sends_same : (n p : ℕ) → (map (tagged_of cs) (sent_in g xs (sent_of c v) n p) ≡ sent (flow_of g) (name_in cs c) n p v)
      × AreOf c (sent_in g xs (sent_of c v) n p)
  sends_same n p =
      let made = x.0.made in
      let blocks : (o : Option (List ℕ × Block (List ℕ))) → (map (tagged_of cs) (sent_by (sent_of c v) made n p o)
      ≡ Meaning.sent_in (option_map (block_in g) o) (name_in cs c) n p v) × AreOf c (sent_by (sent_of c v) made n p o)
      = λ o. elim o as (λ o. (map (tagged_of cs) (sent_by (sent_of c v) made n p o) ≡ Meaning.sent_in (option_map (block_in g) o) (name_in cs c) n p
      v) × AreOf c (sent_by (sent_of c v) made n p o)) [
        | None ↦ (refl, tt)
        | Some b ↦ (
          all_sent g cs (sent_of c v) made n p b (named.made c x.0 x.1),
          each_append (λ (t : Token). t.context ≡ c) (node_tokens (sent_of c v) n p b.1.inputs b.1.nodes)
              (results_tokens (sent_of c v) made b.1.inputs n p 0 b.1.results)
              (nodes_of (sent_of c v) n p b.1.inputs b.1.nodes) (results_of (sent_of c v) made b.1.inputs n p 0 b.1.results),
        )
      ] in
      let r = blocks (slice_get g.blocks x.0.block) in (
        ap (λ o. map (tagged_of cs) (sent_if g (sent_of c v) n p o)) x.1 ∙ r.0 ∙ ap (λ o. Meaning.sent_in o (name_in cs c) n p v) (sym block),
        subst (λ o. AreOf c (sent_if g (sent_of c v) n p o)) (sym x.1) r.1,
      )

  pub tells_same : (k : ℕ) → (map (tagged_of cs) (steered_in g xs (sent_of c v) k) ≡ predicates_in (block_of (flow_of g) (name_in cs c))
      (name_in cs c) k v) × AreOf c (steered_in g xs (sent_of c v) k)
  tells_same k =
      let blocks : (o : Option (List ℕ × Block (List ℕ))) → (map (tagged_of cs) (steered_by (sent_of c v) k o)
      ≡ predicates_in (option_map (block_in g) o) (name_in cs c) k v) × AreOf c (steered_by (sent_of c v) k o)
      = λ o. elim o as (λ o. (map (tagged_of cs) (steered_by (sent_of c v) k o) ≡ predicates_in (option_map (block_in g) o) (name_in cs c) k v)
      × AreOf c (steered_by (sent_of c v) k o)) [
        | None ↦ (refl, tt)
        | Some b ↦ (told_same g cs (sent_of c v) k b.1.inputs b.1.nodes, end_result_of (sent_of c v) k b.1.inputs b.1.nodes)
      ] in
      let r = blocks (slice_get g.blocks x.0.block) in (
        ap (λ o. map (tagged_of cs) (steered_if g (sent_of c v) k o)) x.1 ∙ r.0 ∙ ap (λ o. predicates_in o (name_in cs c) k v) (sym block),
        subst (λ o. AreOf c (steered_if g (sent_of c v) k o)) (sym x.1) r.1,
      )
