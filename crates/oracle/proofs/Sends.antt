-- What is sent, by numbers of invocations and by their names.
use Rattle.std.proofs.Common.{◌≡◌, ℕ, zero, suc, ◌+◌, true, false, List, [], ◌∷◌, ◌++◌, map, flat_map, if◌then◌else◌, refl, sym, ap, ◌∙◌}
use Rattle.std.proofs.lemmas.List.{map-append}
use Rattle.tags.specs.declared.value.Value.{Value}
use Rattle.semantics.specs.declared.graph.Source.{Source}
use Rattle.semantics.specs.Graph.{Node, Block, Graph}
use Rattle.semantics.specs.Meaning.{Context, Statement, Port, Tagged, tagged, positions, uses_at, turns_from, turns_of, result_uses, uses_in}
use Rattle.semantics.specs.Meaning as Meaning
use Rattle.oracle.specs.declared.invocations.Made.{Made}
use Rattle.oracle.specs.declared.invocations.Made.TheVariants.{Main, Called, Turned}
use Rattle.oracle.specs.declared.sending.Sent.{Sent}
use Rattle.oracle.specs.declared.tokens.Spot.TheVariants.{Operand}
use Rattle.oracle.specs.Sending.{operand_tokens, node_tokens, flag_tokens, turned_tokens, result_tokens, results_tokens, sent_tokens, token_at, is_port_of}
use Rattle.oracle.specs.Meant.{name_in, tagged_of, made_of}
use Rattle.oracle.specs.Agreeing.{row_in, block_in}

-- tokens with one value in one invocation, one for each use
abbrev at_uses : Context → Value → List (Statement × Port) → List Tagged
at_uses c v us = map (λ (u : Statement × Port). tagged c u.0 u.1 v) us

operands_sent : (cs : List Context) (x : Sent) (n p m i : ℕ) (ss : List Source)
    → map (tagged_of cs) (operand_tokens x n p m i ss) ≡ at_uses (name_in cs x.context) x.value (map (λ i. (Meaning.AtNode m, Meaning.Operand i))
    (positions n p i ss))
operands_sent cs x n p m i [] = refl
operands_sent cs x n p m i (s ∷ ss) =
    let c = name_in cs x.context in
    let v = x.value in
    let f : ℕ → Tagged = λ i. tagged c (Meaning.AtNode m) (Meaning.Operand i) v in
    let b = is_port_of s n p in
    elim b as (λ b. map (tagged_of cs) (if b then token_at x (Operand m i) ∷ operand_tokens x n p m (i + 1) ss else operand_tokens x n p m (i + 1) ss)
    ≡ at_uses c v (map (λ i. (Meaning.AtNode m, Meaning.Operand i)) (if b then i ∷ positions n p (i + 1) ss else positions n p (i + 1) ss))) [
      | true ↦ ap (λ zs. f i ∷ zs) (operands_sent cs x n p m (i + 1) ss)
      | false ↦ operands_sent cs x n p m (i + 1) ss
    ]

nodes_sent : (g : Graph) (cs : List Context) (x : Sent) (n p m : ℕ) (nodes : List (Node (List ℕ)))
    → map (tagged_of cs) (node_tokens x n p m nodes) ≡ at_uses (name_in cs x.context) x.value (uses_at n p m (map (row_in g) nodes))
nodes_sent g cs x n p m [] = refl
nodes_sent g cs x n p m (line ∷ lines) =
    let c = name_in cs x.context in
    let u = map (λ i. (Meaning.AtNode m, Meaning.Operand i)) (positions n p 0 line.sources) in
    map-append (tagged_of cs) (operand_tokens x n p m 0 line.sources) (node_tokens x n p (m + 1) lines)
    ∙ ap (λ zs. zs ++ map (tagged_of cs) (node_tokens x n p (m + 1) lines)) (operands_sent cs x n p m 0 line.sources)
    ∙ ap (λ zs. at_uses c x.value u ++ zs) (nodes_sent g cs x n p (m + 1) lines)
    ∙ sym (map-append (λ (u : Statement × Port). tagged c u.0 u.1 x.value) u (uses_at n p (m + 1) (map (row_in g) lines)))

flags_sent : (cs : List Context) (x : Sent) (from k : ℕ) → map (tagged_of cs) (flag_tokens x from k) ≡ at_uses (name_in cs x.context) x.value
    (turns_from from k)
flags_sent cs x from zero = refl
flags_sent cs x from (suc k) = ap (λ zs. tagged (name_in cs x.context) (Meaning.AtTurn from) Meaning.Flag x.value ∷ zs) (flags_sent cs x (from + 1) k)

turned_sent : (cs : List Context) (x : Sent) (inputs j : ℕ) → map (tagged_of cs) (turned_tokens x inputs j) ≡ at_uses (name_in cs x.context) x.value
    (turns_of inputs j)
turned_sent cs x inputs zero = flags_sent cs x 1 inputs
turned_sent cs x inputs (suc j) = refl

result_sent : (cs : List Context) (x : Sent) (made : Made) (inputs j : ℕ)
    → map (tagged_of cs) (result_tokens x made inputs j) ≡ at_uses (name_in cs x.context) x.value (result_uses (made_of cs made) inputs j)
result_sent cs x Main inputs j = refl
result_sent cs x (Called by n) inputs j = refl
result_sent cs x (Turned by n i) inputs j = turned_sent cs x inputs j

results_sent : (cs : List Context) (x : Sent) (made : Made) (inputs n p j : ℕ) (ss : List Source)
    → map (tagged_of cs) (results_tokens x made inputs n p j ss) ≡ at_uses (name_in cs x.context) x.value
    (flat_map (λ j. result_uses (made_of cs made) inputs j) (positions n p j ss))
results_sent cs x made inputs n p j [] = refl
results_sent cs x made inputs n p j (s ∷ ss) =
    let c = name_in cs x.context in
    let uses = λ (j : ℕ). result_uses (made_of cs made) inputs j in
    let rest = results_tokens x made inputs n p (j + 1) ss in
    elim (is_port_of s n p) as (λ b. map (tagged_of cs) (if b then result_tokens x made inputs j ++ rest else rest)
    ≡ at_uses c x.value (flat_map uses (if b then j ∷ positions n p (j + 1) ss else positions n p (j + 1) ss))) [
      | true ↦
          map-append (tagged_of cs) (result_tokens x made inputs j) rest
          ∙ ap (λ zs. zs ++ map (tagged_of cs) rest) (result_sent cs x made inputs j)
          ∙ ap (λ zs. at_uses c x.value (uses j) ++ zs) (results_sent cs x made inputs n p (j + 1) ss)
          ∙ sym (map-append (λ (u : Statement × Port). tagged c u.0 u.1 x.value) (uses j) (flat_map uses (positions n p (j + 1) ss)))
      | false ↦ results_sent cs x made inputs n p (j + 1) ss
    ]

pub all_sent : (g : Graph) (cs : List Context) (x : Sent) (made : Made) (n p : ℕ) (b : List ℕ × Block (List ℕ)) → made_of cs made ≡ name_in cs x.context
    → map (tagged_of cs) (sent_tokens x made n p b.1) ≡ at_uses (name_in cs x.context) x.value (uses_in (block_in g b) (name_in cs x.context) n p)
all_sent g cs x made n p b is =
    let c = name_in cs x.context in
    let uses = λ (c : Context). flat_map (λ j. result_uses c b.1.inputs j) (positions n p 0 b.1.results) in
    let nodes = uses_at n p b.1.inputs (map (row_in g) b.1.nodes) in
    map-append (tagged_of cs) (node_tokens x n p b.1.inputs b.1.nodes) (results_tokens x made b.1.inputs n p 0 b.1.results)
    ∙ ap (λ zs. zs ++ map (tagged_of cs) (results_tokens x made b.1.inputs n p 0 b.1.results)) (nodes_sent g cs x n p b.1.inputs b.1.nodes)
    ∙ ap (λ zs. at_uses c x.value nodes ++ zs) (results_sent cs x made b.1.inputs n p 0 b.1.results)
    ∙ ap (λ d. at_uses c x.value nodes ++ at_uses c x.value (uses d)) is
    ∙ sym (map-append (λ (u : Statement × Port). tagged c u.0 u.1 x.value) nodes (uses c))
