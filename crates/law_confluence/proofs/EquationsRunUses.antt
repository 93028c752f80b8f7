-- From values to tokens: a value that a port has been given was present as a token at each use of the port.
use Rattle.std.proofs.Common.{◌≡◌, ℕ, zero, suc, ◌+◌, ◌-◌, ◌≤◌, ◌&&◌, Bool, true, false, List, [], ◌∷◌, Option, Some, None, map, flat_map, ◌==◌, if◌then◌else◌}
use Rattle.std.proofs.Common.{inl, inr, refl, sym, ap, ap₂, ◌∙◌, subst, arith, eqb-true, eq-eqb}
use Rattle.std.specs.Prelude.{⊤, slice_get}
use Rattle.tags.specs.declared.value.Value.{Value}
use Rattle.semantics.specs.declared.graph.Source.{Source}
use Rattle.semantics.specs.declared.graph.Region.{Region}
use Rattle.semantics.specs.declared.graph.Region.TheVariants.{Root, Arm}
use Rattle.semantics.specs.declared.graph.Kind.{Kind}
use Rattle.semantics.specs.declared.graph.Kind.TheVariants.{Enter}
use Rattle.semantics.specs.Graph.{Node, Block, Flow, node_at}
use Rattle.semantics.specs.Meaning.{Context, Main, Called, Turned, Statement, AtNode, AtOut, AtTurn, Operand, Predicate, Flag, Carried, Tagged, tagged}
use Rattle.semantics.specs.Meaning.{Activity, Deed, Message, Sends, Steers, deed, tokens_of, positions, uses_at, uses_in, result_uses, turns_from, sent_in}
use Rattle.semantics.specs.Meaning.{block_of, entering, is_enter_of, predicates_from, predicates_in, operands_from}
use Rattle.lemmas.proofs.Permutations.{Within, Each, put_first, put_later, within_map, within_flat_map, within_left, within_right, within_from, within_to}
use Rattle.lemmas.proofs.Permutations.{each_from, each_append, each_map, each_flat_map}
use Rattle.lemmas.proofs.Contains.{contains_get}
use Rattle.semantics.proofs.Lines.{line_at}
use Rattle.law_confluence.proofs.ActivityUses.{IsSource, Use, IsTurned, flags_sent, predicates_each}
use Rattle.law_confluence.specs.EquationsHave.{SaysIn}
use Rattle.law_confluence.proofs.EquationsRunRested.{Rested, Came, GivesIn}
use Rattle.law_confluence.proofs.EquationsRunSaid.{said_stood}
use Rattle.law_confluence.proofs.EquationsGraphForms.{line_past}

-- POSITIONS

source_test : (s : Source) (n p : ℕ) → IsSource n p (Some s) → ((s.node == n) && (s.port == p)) ≡ true
source_test s n p h = ap₂ (λ a b. a && b) (eq-eqb s.node n h.0) (eq-eqb s.port p h.1)

positions_within : (n p from : ℕ) (ss : List Source) (k : ℕ) → IsSource n p (slice_get ss k) → Within (from + k) (positions n p from ss)
positions_within n p from [] k h = absurd h
positions_within n p from (s ∷ ss) zero h =
    let same : from + 0 ≡ from = omega arith in
    subst (λ (t : Bool). Within (from + 0) (if t then from ∷ positions n p (from + 1) ss else positions n p (from + 1) ss)) (sym (source_test s n p h))
    (positions n p (from + 1) ss, inl (same, refl))
positions_within n p from (s ∷ ss) (suc k) h =
    go ((s.node == n) && (s.port == p)) (subst (λ i. Within i (positions n p (from + 1) ss)) (omega arith) (positions_within n p (from + 1) ss k h))
  where
    go : (t : Bool) → Within (from + suc k) (positions n p (from + 1) ss)
        → Within (from + suc k) (if t then from ∷ positions n p (from + 1) ss else positions n p (from + 1) ss)
    go true ih = (from ∷ ih.0, put_later (from + suc k) from ih.0 (positions n p (from + 1) ss) ih.1)
    go false ih = ih

place : (n p : ℕ) (ss : List Source) (k : ℕ) → IsSource n p (slice_get ss k) → Within k (positions n p 0 ss)
place n p ss k h = subst (λ i. Within i (positions n p 0 ss)) (omega arith) (positions_within n p 0 ss k h)

uses_within : (n p m : ℕ) (nodes : List (Node ℕ)) (k i : ℕ) (node : Node ℕ) → slice_get nodes k ≡ Some node → IsSource n p (slice_get node.sources i)
    → Within (AtNode (m + k), Operand i) (uses_at n p m nodes)
uses_within n p m [] k i node e h = cc
uses_within n p m (x ∷ nodes) zero i node e h =
    let same : node ≡ x = cc in
    let at : m ≡ m + 0 = omega arith in
    let here : Within i (positions n p 0 x.sources) = place n p x.sources i (subst (λ (y : Node ℕ). IsSource n p (slice_get y.sources i)) same h) in
    subst (λ j. Within (AtNode j, Operand i) (uses_at n p m (x ∷ nodes))) at
    (within_left _ _ (uses_at n p (m + 1) nodes) (within_map (λ i. (AtNode m, Operand i)) i (positions n p 0 x.sources) here))
uses_within n p m (x ∷ nodes) (suc k) i node e h =
    let at : m + 1 + k ≡ m + suc k = omega arith in
    within_right _ (map (λ i. (AtNode m, Operand i)) (positions n p 0 x.sources)) _
    (subst (λ j. Within (AtNode j, Operand i) (uses_at n p (m + 1) nodes)) at (uses_within n p (m + 1) nodes k i node e h))

operand_use : (b : Block ℕ) (c : Context) (m : ℕ) (line : Node ℕ) (i n p : ℕ) → node_at b m ≡ Some line → IsSource n p (slice_get line.sources i)
    → Within (AtNode m, Operand i) (uses_in b c n p)
operand_use b c m line i n p e h =
    let past = line_past b m line e in
    let at : b.inputs + (m - b.inputs) ≡ m = omega (arith, past.0) in
    within_left _ _ (flat_map (λ j. result_uses c b.inputs j) (positions n p 0 b.results))
    (subst (λ j. Within (AtNode j, Operand i) (uses_at n p b.inputs b.nodes)) at (uses_within n p b.inputs b.nodes (m - b.inputs) i line past.1 h))

result_use : (b : Block ℕ) (c : Context) (j n p : ℕ) (u : Use) → IsSource n p (slice_get b.results j) → Within u (result_uses c b.inputs j)
    → Within u (uses_in b c n p)
result_use b c j n p u h k =
    within_right u (uses_at n p b.inputs b.nodes) _
    (within_flat_map (λ j. result_uses c b.inputs j) j u (positions n p 0 b.results) (place n p b.results j h) k)

is_source : (s : Source) (o : Option Source) → o ≡ Some s → IsSource s.node s.port o
is_source s o e = subst (λ o. IsSource s.node s.port o) (sym e) (refl, refl)

use_sent : (fl : Flow) (b : Block ℕ) (c : Context) (n p : ℕ) (v : Value) (u : Use) → block_of fl c ≡ Some b → Within u (uses_in b c n p)
    → Within (tagged c u.0 u.1 v) (tokens_of fl (Sends c n p v))
use_sent fl b c n p v u e h =
    subst (λ o. Within (tagged c u.0 u.1 v) (sent_in o c n p v)) (sym e) (within_map (λ (u : Use). tagged c u.0 u.1 v) u (uses_in b c n p) h)

-- WHERE THE TOKENS OF A RESULT ARE

at_nodes : (P : Use → Type 0) (n p m : ℕ) (nodes : List (Node ℕ)) → ((k i : ℕ) → P (AtNode k, Operand i)) → Each P (uses_at n p m nodes)
at_nodes P n p m [] h = tt
at_nodes P n p m (x ∷ nodes) h =
    each_append P (map (λ i. (AtNode m, Operand i)) (positions n p 0 x.sources)) (uses_at n p (m + 1) nodes)
    (each_map P (λ i. (AtNode m, Operand i)) (positions n p 0 x.sources) (each_from (λ i. P (AtNode m, Operand i)) (positions n p 0 x.sources) (λ i w. h m i)))
    (at_nodes P n p (m + 1) nodes h)

flags_all : (P : Use → Type 0) (from n : ℕ) → ((k : ℕ) → P (AtTurn k, Flag)) → Each P (turns_from from n)
flags_all P from zero h = tt
flags_all P from (suc n) h = (h from, flags_all P (from + 1) n h)

-- a result's tokens are at an output, except where the invocation is a turn of a loop: there they are at a turn
abbrev pub Ends : Context → Statement → Type 0
Ends c (AtNode m) = ⊤
Ends c (AtOut j) = IsTurned c → ⊥
Ends c (AtTurn j) = IsTurned c

result_ends : (c : Context) (inputs j : ℕ) → Each (λ (u : Use). Ends c u.0) (result_uses c inputs j)
result_ends Main inputs j = ((λ h. h), tt)
result_ends (Called c n) inputs j = ((λ h. h), tt)
result_ends (Turned c n i) inputs zero = flags_all (λ (u : Use). Ends (Turned c n i) u.0) 1 inputs (λ k. tt)
result_ends (Turned c n i) inputs (suc j) = (tt, tt)

uses_end : (b : Block ℕ) (c : Context) (n p : ℕ) → Each (λ (u : Use). Ends c u.0) (uses_in b c n p)
uses_end b c n p =
    let P : Use → Type 0 = λ (u : Use). Ends c u.0 in
    each_append P (uses_at n p b.inputs b.nodes) (flat_map (λ j. result_uses c b.inputs j) (positions n p 0 b.results))
    (at_nodes P n p b.inputs b.nodes (λ k i. tt))
    (each_flat_map P (λ j. result_uses c b.inputs j) (positions n p 0 b.results)
    (each_from (λ j. Each P (result_uses c b.inputs j)) (positions n p 0 b.results) (λ j w. result_ends c b.inputs j)))

pub sent_ends : (c : Context) (n p : ℕ) (v : Value) (o : Option (Block ℕ)) → Each (λ (x : Tagged). Ends c x.statement) (sent_in o c n p v)
sent_ends c n p v None = tt
sent_ends c n p v (Some b) = each_map (λ (x : Tagged). Ends c x.statement) (λ (u : Use). tagged c u.0 u.1 v) (uses_in b c n p) (uses_end b c n p)

-- THE TOKENS OF A RUN

module _ (z : Rested) where
  pub said_came : (a : Activity) (d : Deed) (y : Message) → Within a z.run → deed z.flow a ≡ Some d → SaysIn z.state.memory d y → (x : Tagged)
      → Within x (tokens_of z.flow y) → Came z x
  said_came a d y h e says x k =
      let at = contains_get z.run a (within_to a z.run h) in
      said_stood z.flow _ z.state z.run z.is_run at.0 a d y at.1 e says x k

  given_came : (c : Context) (n p : ℕ) (v : Value) → GivesIn z c n p v → (x : Tagged) → Within x (tokens_of z.flow (Sends c n p v)) → Came z x
  given_came c n p v h x k = said_came h.0 h.1 (Sends c n p v) (within_from h.0 z.run h.2) h.3 h.4 x k

  pub operand_came : (c : Context) (b : Block ℕ) (m i : ℕ) (line : Node ℕ) (s : Source) (v : Value) → block_of z.flow c ≡ Some b → node_at b m ≡ Some line
      → slice_get line.sources i ≡ Some s
      → GivesIn z c s.node s.port v → Came z (tagged c (AtNode m) (Operand i) v)
  operand_came c b m i line s v eb el es h =
      given_came c s.node s.port v h _ (use_sent z.flow b c s.node s.port v (AtNode m, Operand i) eb
      (operand_use b c m line i s.node s.port el (is_source s _ es)))

  pub result_came : (c : Context) (b : Block ℕ) (j : ℕ) (s : Source) (v : Value) → block_of z.flow c ≡ Some b → slice_get b.results j ≡ Some s
      → (IsTurned c → ⊥)
      → GivesIn z c s.node s.port v → Came z (tagged c (AtOut j) (Operand 0) v)
  result_came c b j s v eb es out h =
      given_came c s.node s.port v h _ (use_sent z.flow b c s.node s.port v (AtOut j, Operand 0) eb
      (result_use b c j s.node s.port (AtOut j, Operand 0) (is_source s _ es) (here c out)))
    where
      here : (c : Context) → (IsTurned c → ⊥) → Within (AtOut j, Operand 0) (result_uses c b.inputs j)
      here Main out = ([], put_first _ [])
      here (Called d n) out = ([], put_first _ [])
      here (Turned d n i) out = absurd (out tt)

  pub carried_came : (c : Context) (n t : ℕ) (b : Block ℕ) (j : ℕ) (s : Source) (v : Value) → block_of z.flow (Turned c n t) ≡ Some b
      → slice_get b.results (suc j) ≡ Some s
      → GivesIn z (Turned c n t) s.node s.port v → Came z (tagged (Turned c n t) (AtTurn (suc j)) Carried v)
  carried_came c n t b j s v eb es h =
      given_came (Turned c n t) s.node s.port v h _
      (use_sent z.flow b (Turned c n t) s.node s.port v (AtTurn (suc j), Carried) eb
      (result_use b (Turned c n t) (suc j) s.node s.port (AtTurn (suc j), Carried) (is_source s _ es) ([], put_first _ [])))

  pub flag_came : (c : Context) (n t : ℕ) (b : Block ℕ) (j : ℕ) (s : Source) (v : Value) → block_of z.flow (Turned c n t) ≡ Some b
      → slice_get b.results 0 ≡ Some s → 1 ≤ j → j ≤ b.inputs
      → GivesIn z (Turned c n t) s.node s.port v → Came z (tagged (Turned c n t) (AtTurn j) Flag v)
  flag_came c n t b j s v eb es low high h =
      given_came (Turned c n t) s.node s.port v h _ (flags_sent z.flow b (Turned c n t) s.node s.port v eb tt (is_source s _ es) j low high)

-- an `enter` of an arm of a conditional gets the predicate
enter_test : (k : ℕ) (r : Region) (side : Bool) (kind : Kind ℕ) → r ≡ Arm k side → kind ≡ Enter → is_enter_of k r kind ≡ true
enter_test k r side kind e f = ap₂ (λ r kind. is_enter_of k r kind) e f ∙ eq-eqb k k refl

predicates_within : (c : Context) (k : ℕ) (v : Value) (m : ℕ) (nodes : List (Node ℕ)) (i : ℕ) (line : Node ℕ) → slice_get nodes i ≡ Some line
    → is_enter_of k line.region line.kind ≡ true
    → Within (tagged c (AtNode (m + i)) Predicate v) (predicates_from c k v m nodes)
predicates_within c k v m [] i line e h = cc
predicates_within c k v m (x ∷ nodes) zero line e h =
    let same : line ≡ x = cc in
    let at : m + 0 ≡ m = omega arith in
    let test = ap (λ (x : Node ℕ). is_enter_of k x.region x.kind) (sym same) ∙ h in
    subst (λ (t : Bool). Within (tagged c (AtNode (m + 0)) Predicate v)
    (if t then tagged c (AtNode m) Predicate v ∷ predicates_from c k v (m + 1) nodes else predicates_from c k v (m + 1) nodes)) (sym test)
    (predicates_from c k v (m + 1) nodes, inl (ap (λ j. tagged c (AtNode j) Predicate v) at, refl))
predicates_within c k v m (x ∷ nodes) (suc i) line e h =
    let at : m + 1 + i ≡ m + suc i = omega arith in
    go (is_enter_of k x.region x.kind) (subst (λ j. Within (tagged c (AtNode j) Predicate v) (predicates_from c k v (m + 1) nodes)) at
    (predicates_within c k v (m + 1) nodes i line e h))
  where
    go : (t : Bool) → Within (tagged c (AtNode (m + suc i)) Predicate v) (predicates_from c k v (m + 1) nodes)
        → Within (tagged c (AtNode (m + suc i)) Predicate v)
        (if t then tagged c (AtNode m) Predicate v ∷ predicates_from c k v (m + 1) nodes else predicates_from c k v (m + 1) nodes)
    go true ih = (tagged c (AtNode m) Predicate v ∷ ih.0, put_later _ _ ih.0 (predicates_from c k v (m + 1) nodes) ih.1)
    go false ih = ih

pub predicate_told : (fl : Flow) (c : Context) (b : Block ℕ) (k m : ℕ) (side : Bool) (line : Node ℕ) (v : Value) → block_of fl c ≡ Some b
    → node_at b m ≡ Some line → line.region ≡ Arm k side → line.kind ≡ Enter
    → Within (tagged c (AtNode m) Predicate v) (tokens_of fl (Steers c k v))
predicate_told fl c b k m side line v eb el er ek =
    let past = line_past b m line el in
    let at : b.inputs + (m - b.inputs) ≡ m = omega (arith, past.0) in
    subst (λ o. Within (tagged c (AtNode m) Predicate v) (predicates_in o c k v)) (sym eb)
    (subst (λ j. Within (tagged c (AtNode j) Predicate v) (predicates_from c k v b.inputs b.nodes)) at
    (predicates_within c k v b.inputs b.nodes (m - b.inputs) line past.1 (enter_test k line.region side line.kind er ek)))

-- and nothing else does
abbrev pub IsSteered : Flow → Context → ℕ → Value → Tagged → Type 0
IsSteered fl c k v x =
    (b : Block ℕ) × (m : ℕ) × (line : Node ℕ) × (side : Bool) × (block_of fl c ≡ Some b) × (x ≡ tagged c (AtNode m) Predicate v) × (node_at b m ≡ Some line)
    × (line.region ≡ Arm k side) × (line.kind ≡ Enter)

enter_is : (k : ℕ) (r : Region) (kind : Kind ℕ) → is_enter_of k r kind ≡ true → (side : Bool) × (r ≡ Arm k side) × (kind ≡ Enter)
enter_is k (Arm c side) Enter e = let same = eqb-true c k e in (side, cc, refl)
enter_is k Root kind e = cc
enter_is k r kind e = cc

pub predicates_steered : (fl : Flow) (c : Context) (k : ℕ) (v : Value) (o : Option (Block ℕ)) → block_of fl c ≡ o
    → Each (IsSteered fl c k v) (predicates_in o c k v)
predicates_steered fl c k v None e = tt
predicates_steered fl c k v (Some b) e =
    predicates_each (IsSteered fl c k v) c k v b.inputs b.nodes
    (λ i line f g. let t = enter_is k line.region line.kind g in (b, b.inputs + i, line, t.0, e, refl, line_at b i line f, t.1, t.2))

-- INPUTS OF AN INVOCATION

pub entering_within : (c : Context) (from : ℕ) (vs : List Value) (i : ℕ) (v : Value) → slice_get vs i ≡ Some v
    → Within (tagged c (AtNode (from + i)) (Operand 0) v) (entering c from vs)
entering_within c from [] i v e = cc
entering_within c from (w ∷ vs) zero v e =
    let at : from + 0 ≡ from = omega arith in
    let same : v ≡ w = cc in
    (entering c (from + 1) vs, inl (ap₂ (λ j x. tagged c (AtNode j) (Operand 0) x) at same, refl))
entering_within c from (w ∷ vs) (suc i) v e =
    let at : from + 1 + i ≡ from + suc i = omega arith in
    let ih = subst (λ j. Within (tagged c (AtNode j) (Operand 0) v) (entering c (from + 1) vs)) at (entering_within c (from + 1) vs i v e) in
    (tagged c (AtNode from) (Operand 0) w ∷ ih.0, put_later _ _ ih.0 (entering c (from + 1) vs) ih.1)

-- and back
pub entering_back : (c : Context) (from : ℕ) (vs : List Value) (x : Tagged) → Within x (entering c from vs)
    → (i : ℕ) × (v : Value) × (slice_get vs i ≡ Some v) × (x ≡ tagged c (AtNode (from + i)) (Operand 0) v)
entering_back c from [] x h = absurd h.1
entering_back c from (w ∷ vs) x (zs, inl h) = (0, w, refl, h.0 ∙ ap (λ j. tagged c (AtNode j) (Operand 0) w) (omega arith))
entering_back c from (w ∷ vs) x (zs, inr h) =
    let ih = entering_back c (from + 1) vs x (h.0, h.2) in
    (suc ih.0, ih.1, ih.2, ih.3 ∙ ap (λ j. tagged c (AtNode j) (Operand 0) ih.1) (omega arith))

pub operand_within : (c : Context) (s : Statement) (k : ℕ) (vs : List Value) (i : ℕ) (v : Value) → slice_get vs i ≡ Some v
    → Within (tagged c s (Operand (k + i)) v) (operands_from c s k vs)
operand_within c s k [] i v e = cc
operand_within c s k (w ∷ vs) zero v e =
    let at : k + 0 ≡ k = omega arith in
    let same : v ≡ w = cc in
    (operands_from c s (k + 1) vs, inl (ap₂ (λ j x. tagged c s (Operand j) x) at same, refl))
operand_within c s k (w ∷ vs) (suc i) v e =
    let at : k + 1 + i ≡ k + suc i = omega arith in
    let ih = subst (λ j. Within (tagged c s (Operand j) v) (operands_from c s (k + 1) vs)) at (operand_within c s (k + 1) vs i v e) in
    (tagged c s (Operand k) w ∷ ih.0, put_later _ _ ih.0 (operands_from c s (k + 1) vs) ih.1)

pub operands_each : (P : Tagged → Type 0) (c : Context) (s : Statement) (k : ℕ) (vs : List Value)
    → ((i : ℕ) (v : Value) → slice_get vs i ≡ Some v → P (tagged c s (Operand (k + i)) v)) → Each P (operands_from c s k vs)
operands_each P c s k [] h = tt
operands_each P c s k (v ∷ vs) h = (
  subst (λ j. P (tagged c s (Operand j) v)) (omega arith) (h 0 v refl),
  operands_each P c s (k + 1) vs (λ i w e. subst (λ j. P (tagged c s (Operand j) w)) (omega arith) (h (suc i) w e)),
)
