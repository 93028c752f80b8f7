-- The tokens of a message: where they are, and that no two are at one place.
use Rattle.std.proofs.Common.{◌≡◌, ℕ, zero, suc, ◌+◌, ◌-◌, ◌<◌, ◌≤◌, ◌&&◌, Bool, true, false, List, [], ◌∷◌, length, map, flat_map, Option, Some, None, ◌==◌}
use Rattle.std.proofs.Common.{if◌then◌else◌, inl, refl, sym, ap, ap₂, subst, subst₂, arith, eqb-true, eq-eqb}
use Rattle.std.specs.Prelude.{⊤, slice_get}
use Rattle.std.proofs.lemmas.Bool.{and_parts}
use Rattle.tags.specs.declared.value.Value.{Value}
use Rattle.semantics.specs.declared.graph.Region.{Region}
use Rattle.semantics.specs.declared.graph.Region.TheVariants.{Root, Arm}
use Rattle.semantics.specs.declared.graph.Source.{Source}
use Rattle.semantics.specs.declared.graph.Kind.{Kind}
use Rattle.semantics.specs.declared.graph.Kind.TheVariants.{Enter}
use Rattle.semantics.specs.Graph.{Node, Block, Flow, node_at}
use Rattle.semantics.specs.Meaning.{Context, Main, Called, Turned, Statement, AtNode, AtOut, AtTurn, Port, Operand, Predicate, Flag, Carried, Tagged, tagged}
use Rattle.semantics.specs.Meaning.{positions, uses_at, turns_from, result_uses, uses_in, sent_in, block_of, entering, Message, Sends, Steers, Enters, Nothing}
use Rattle.semantics.specs.Meaning.{tokens_of, predicates_from, predicates_in, is_enter_of}
use Rattle.lemmas.proofs.Permutations.{Within, Each, Spread, put_first, put_later, each_weaker, each_from, each_append, each_map, each_flat_map, spread_append}
use Rattle.lemmas.proofs.Permutations.{spread_map, spread_weaker, spread_flat_map, within_map, within_flat_map, within_right}
use Rattle.semantics.proofs.Lines.{line_at}
use Rattle.law_confluence.proofs.ActivityKeys.{Differ, Unique}

-- the output port p of node n
abbrev pub IsSource : ℕ → ℕ → Option Source → Type 0
IsSource n p None = ⊥
IsSource n p (Some s) = (s.node ≡ n) × (s.port ≡ p)

abbrev pub Use : Type 0
Use = Statement × Port

abbrev pub UsesDiffer : Use → Use → Type 0
UsesDiffer u w = u.0 ≡ w.0 → u.1 ≡ w.1 → ⊥

source_here : (s : Source) (n p : ℕ) → ((s.node == n) && (s.port == p)) ≡ true → IsSource n p (Some s)
source_here s n p e = let h = and_parts _ _ e in (eqb-true s.node n h.0, eqb-true s.port p h.1)

-- POSITIONS

positions_each : (P : ℕ → Type 0) (n p from : ℕ) (ss : List Source) → ((k : ℕ) → IsSource n p (slice_get ss k) → P (from + k)) → Each P (positions n p from ss)
positions_each P n p from [] h = tt
positions_each P n p from (s ∷ ss) h =
    go ((s.node == n) && (s.port == p)) refl (positions_each P n p (from + 1) ss (λ k e. subst P (omega arith) (h (suc k) e)))
  where
    go : (t : Bool) → ((s.node == n) && (s.port == p)) ≡ t → Each P (positions n p (from + 1) ss)
        → Each P (if t then from ∷ positions n p (from + 1) ss else positions n p (from + 1) ss)
    go true e ih = (subst P (omega arith) (h 0 (source_here s n p e)), ih)
    go false e ih = ih

positions_rise : (n p from : ℕ) (ss : List Source) → Spread (λ i j. i < j) (positions n p from ss)
positions_rise n p from [] = tt
positions_rise n p from (s ∷ ss) =
    go ((s.node == n) && (s.port == p)) (positions_rise n p (from + 1) ss) (positions_each (λ j. from < j) n p (from + 1) ss (λ k e. omega arith))
  where
    go : (t : Bool) → Spread (λ i j. i < j) (positions n p (from + 1) ss) → Each (λ j. from < j) (positions n p (from + 1) ss)
        → Spread (λ i j. i < j) (if t then from ∷ positions n p (from + 1) ss else positions n p (from + 1) ss)
    go true ih up = (up, ih)
    go false ih up = ih

position_zero : (n p : ℕ) (ss : List Source) → IsSource n p (slice_get ss 0) → Within 0 (positions n p 0 ss)
position_zero n p [] h = absurd h
position_zero n p (s ∷ ss) h =
    let e : ((s.node == n) && (s.port == p)) ≡ true = ap₂ (λ a b. a && b) (eq-eqb s.node n h.0) (eq-eqb s.port p h.1) in
    subst (λ (t : Bool). Within 0 (if t then 0 ∷ positions n p 1 ss else positions n p 1 ss)) (sym e) (positions n p 1 ss, put_first 0 (positions n p 1 ss))

-- USES AT NODES

uses_at_each : (P : Use → Type 0) (n p m : ℕ) (nodes : List (Node ℕ))
    → ((k i : ℕ) (node : Node ℕ) → slice_get nodes k ≡ Some node → IsSource n p (slice_get node.sources i) → P (AtNode (m + k), Operand i))
    → Each P (uses_at n p m nodes)
uses_at_each P n p m [] h = tt
uses_at_each P n p m (node ∷ nodes) h =
    each_append P (map (λ i. (AtNode m, Operand i)) (positions n p 0 node.sources)) (uses_at n p (m + 1) nodes)
    (each_map P (λ i. (AtNode m, Operand i)) (positions n p 0 node.sources)
    (positions_each (λ i. P (AtNode m, Operand i)) n p 0 node.sources
    (λ k e. subst₂ (λ x y. P (AtNode x, Operand y)) (omega arith) (omega arith) (h 0 k node refl e))))
    (uses_at_each P n p (m + 1) nodes (λ k i x f e. subst (λ y. P (AtNode y, Operand i)) (omega arith) (h (suc k) i x f e)))

uses_at_spread : (n p m : ℕ) (nodes : List (Node ℕ)) → Spread UsesDiffer (uses_at n p m nodes)
uses_at_spread n p m [] = tt
uses_at_spread n p m (node ∷ nodes) =
    let f : ℕ → Use = λ i. (AtNode m, Operand i) in
    spread_append UsesDiffer (map f (positions n p 0 node.sources)) (uses_at n p (m + 1) nodes)
    (spread_map UsesDiffer f (positions n p 0 node.sources)
    (spread_weaker (λ i j. i < j) (λ i j. UsesDiffer (f i) (f j)) (λ i j less e g. let same : i ≡ j = cc in omega arith) (positions n p 0 node.sources)
    (positions_rise n p 0 node.sources)))
    (uses_at_spread n p (m + 1) nodes)
    (each_map (λ u. Each (UsesDiffer u) (uses_at n p (m + 1) nodes)) f (positions n p 0 node.sources)
    (each_from _ (positions n p 0 node.sources)
    (λ i w. uses_at_each (UsesDiffer (AtNode m, Operand i)) n p (m + 1) nodes (λ k j x e g s t. let same : m ≡ m + 1 + k = cc in omega arith))))

-- USES AT RESULTS

turns_each : (P : Use → Type 0) (from n : ℕ) → ((k : ℕ) → k < n → P (AtTurn (from + k), Flag)) → Each P (turns_from from n)
turns_each P from zero h = tt
turns_each P from (suc n) h = (
  subst (λ x. P (AtTurn x, Flag)) (omega arith) (h 0 (omega arith)),
  turns_each P (from + 1) n (λ k l. subst (λ x. P (AtTurn x, Flag)) (omega arith) (h (suc k) (omega arith))),
)

turns_spread : (from n : ℕ) → Spread UsesDiffer (turns_from from n)
turns_spread from zero = tt
turns_spread from (suc n) =
    (turns_each (UsesDiffer (AtTurn from, Flag)) (from + 1) n (λ k l e g. let same : from ≡ from + 1 + k = cc in omega arith), turns_spread (from + 1) n)

turns_within : (from n k : ℕ) → k < n → Within (AtTurn (from + k), Flag) (turns_from from n)
turns_within from zero k h = absurd (omega arith)
turns_within from (suc n) zero h = (turns_from (from + 1) n, inl (ap (λ x. (AtTurn x, Flag)) (omega arith), refl))
turns_within from (suc n) (suc k) h =
    let ih = turns_within (from + 1) n k (omega arith) in
    let same : from + 1 + k ≡ from + suc k = omega arith in
    let there : Within (AtTurn (from + suc k), Flag) (turns_from (from + 1) n) = subst (λ x. Within (AtTurn x, Flag) (turns_from (from + 1) n)) same ih in
    ((AtTurn from, Flag) ∷ there.0, put_later _ _ there.0 _ there.1)

abbrev pub IsTurned : Context → Type 0
IsTurned (Turned c n i) = ⊤
IsTurned c = ⊥

-- how a statement and a port use the output port p of node n
pub data UseOf (b : Block ℕ) (c : Context) (n p : ℕ) (s : Statement) (q : Port) : Type 0 where
  AsOperand : (m i : ℕ) (node : Node ℕ) → s ≡ AtNode m → q ≡ Operand i → b.inputs ≤ m → node_at b m ≡ Some node → IsSource n p (slice_get node.sources i)
      → UseOf b c n p s q
  AsResult : (j : ℕ) → s ≡ AtOut j → q ≡ Operand 0 → IsSource n p (slice_get b.results j) → UseOf b c n p s q
  AsFlag : (j : ℕ) → s ≡ AtTurn j → q ≡ Flag → 1 ≤ j → j ≤ b.inputs → IsSource n p (slice_get b.results 0) → IsTurned c → UseOf b c n p s q
  AsCarried : (j : ℕ) → s ≡ AtTurn j → q ≡ Carried → 1 ≤ j → IsSource n p (slice_get b.results j) → UseOf b c n p s q

result_use : (b : Block ℕ) (c : Context) (n p j : ℕ) → IsSource n p (slice_get b.results j)
    → Each (λ (u : Use). UseOf b c n p u.0 u.1) (result_uses c b.inputs j)
result_use b Main n p j e = (AsResult j refl refl e, tt)
result_use b (Called d m) n p j e = (AsResult j refl refl e, tt)
result_use b (Turned d m i) n p zero e =
    turns_each (λ (u : Use). UseOf b (Turned d m i) n p u.0 u.1) 1 b.inputs (λ k l. AsFlag (1 + k) refl refl (omega arith) (omega arith) e tt)
result_use b (Turned d m i) n p (suc j) e = (AsCarried (suc j) refl refl (omega arith) e, tt)

uses_each : (b : Block ℕ) (c : Context) (n p : ℕ) → Each (λ (u : Use). UseOf b c n p u.0 u.1) (uses_in b c n p)
uses_each b c n p =
    let P : Use → Type 0 = λ u. UseOf b c n p u.0 u.1 in
    each_append P (uses_at n p b.inputs b.nodes) (flat_map (λ j. result_uses c b.inputs j) (positions n p 0 b.results))
    (uses_at_each P n p b.inputs b.nodes (λ k i node e f. AsOperand (b.inputs + k) i node refl refl (omega arith) (line_at b k node e) f))
    (each_flat_map P (λ j. result_uses c b.inputs j) (positions n p 0 b.results)
    (positions_each (λ j. Each P (result_uses c b.inputs j)) n p 0 b.results
    (λ k e. subst (λ j. Each P (result_uses c b.inputs j)) (omega arith) (result_use b c n p k e))))

result_any : (P : Use → Type 0) (c : Context) (inputs j : ℕ) → ((i : ℕ) → P (AtOut i, Operand 0)) → ((i : ℕ) → P (AtTurn i, Flag))
    → ((i : ℕ) → P (AtTurn i, Carried)) → Each P (result_uses c inputs j)
result_any P Main inputs j out flag carried = (out j, tt)
result_any P (Called d m) inputs j out flag carried = (out j, tt)
result_any P (Turned d m i) inputs zero out flag carried = turns_each P 1 inputs (λ k l. flag (1 + k))
result_any P (Turned d m i) inputs (suc j) out flag carried = (carried (suc j), tt)

result_spread : (c : Context) (inputs j : ℕ) → Spread UsesDiffer (result_uses c inputs j)
result_spread Main inputs j = (tt, tt)
result_spread (Called d m) inputs j = (tt, tt)
result_spread (Turned d m i) inputs zero = turns_spread 1 inputs
result_spread (Turned d m i) inputs (suc j) = (tt, tt)

results_differ : (c : Context) (inputs j k : ℕ) → j < k → Each (λ u. Each (UsesDiffer u) (result_uses c inputs k)) (result_uses c inputs j)
results_differ Main inputs j k less = (((λ e g. let same : j ≡ k = cc in omega arith), tt), tt)
results_differ (Called d m) inputs j k less = (((λ e g. let same : j ≡ k = cc in omega arith), tt), tt)
results_differ (Turned d m i) inputs j zero less = absurd (omega arith)
results_differ (Turned d m i) inputs zero (suc k) less =
    turns_each (λ u. Each (UsesDiffer u) ((AtTurn (suc k), Carried) ∷ [])) 1 inputs (λ l h. ((λ e g. cc), tt))
results_differ (Turned d m i) inputs (suc j) (suc k) less = (((λ e g. let same : suc j ≡ suc k = cc in omega arith), tt), tt)

uses_spread : (b : Block ℕ) (c : Context) (n p : ℕ) → Spread UsesDiffer (uses_in b c n p)
uses_spread b c n p =
    let results = flat_map (λ j. result_uses c b.inputs j) (positions n p 0 b.results) in
    spread_append UsesDiffer (uses_at n p b.inputs b.nodes) results
    (uses_at_spread n p b.inputs b.nodes)
    (spread_flat_map UsesDiffer (λ i j. i < j) (λ j. result_uses c b.inputs j) (positions n p 0 b.results) (positions_rise n p 0 b.results)
    (result_spread c b.inputs) (results_differ c b.inputs))
    (uses_at_each (λ u. Each (UsesDiffer u) results) n p b.inputs b.nodes (λ k i node e f.
    each_flat_map (UsesDiffer (AtNode (b.inputs + k), Operand i)) (λ j. result_uses c b.inputs j) (positions n p 0 b.results)
    (each_from _ (positions n p 0 b.results)
    (λ j w. result_any (UsesDiffer (AtNode (b.inputs + k), Operand i)) c b.inputs j (λ x g h. cc) (λ x g h. cc) (λ x g h. cc)))))

-- MESSAGES

-- how a token belongs to a message
abbrev pub Member : Flow → Message → Tagged → Type 0
Member fl (Sends c n p v) t = (t.context ≡ c) × (t.value ≡ v) × ((b : Block ℕ) × (block_of fl c ≡ Some b) × UseOf b c n p t.statement t.port)
Member fl (Steers c k v) t =
    (t.context ≡ c) × (t.value ≡ v) × (t.port ≡ Predicate)
    × ((b : Block ℕ) × (m : ℕ) × (node : Node ℕ) × (side : Bool) × (block_of fl c ≡ Some b) × (t.statement ≡ AtNode m) × (node_at b m ≡ Some node)
    × (node.region ≡ Arm k side))
Member fl (Enters c from vs) t = (t.context ≡ c) × (t.port ≡ Operand 0) × ((i : ℕ) × (i < length vs) × (t.statement ≡ AtNode (from + i)))
Member fl Nothing t = ⊥

enter_of : (k : ℕ) (r : Region) (kind : Kind ℕ) → is_enter_of k r kind ≡ true → (side : Bool) × (r ≡ Arm k side)
enter_of k (Arm c side) Enter e = let same = eqb-true c k e in (side, cc)
enter_of k Root kind e = cc
enter_of k r kind e = cc

pub predicates_each : (P : Tagged → Type 0) (c : Context) (k : ℕ) (v : Value) (m : ℕ) (nodes : List (Node ℕ))
    → ((i : ℕ) (node : Node ℕ) → slice_get nodes i ≡ Some node → is_enter_of k node.region node.kind ≡ true → P (tagged c (AtNode (m + i)) Predicate v))
    → Each P (predicates_from c k v m nodes)
predicates_each P c k v m [] h = tt
predicates_each P c k v m (node ∷ nodes) h =
    go (is_enter_of k node.region node.kind) refl
    (predicates_each P c k v (m + 1) nodes (λ i x e f. subst (λ y. P (tagged c (AtNode y) Predicate v)) (omega arith) (h (suc i) x e f)))
  where
    go : (t : Bool) → is_enter_of k node.region node.kind ≡ t → Each P (predicates_from c k v (m + 1) nodes)
        → Each P (if t then tagged c (AtNode m) Predicate v ∷ predicates_from c k v (m + 1) nodes else predicates_from c k v (m + 1) nodes)
    go true e ih = (subst (λ y. P (tagged c (AtNode y) Predicate v)) (omega arith) (h 0 node refl e), ih)
    go false e ih = ih

predicates_spread : (c : Context) (k : ℕ) (v : Value) (m : ℕ) (nodes : List (Node ℕ)) → Unique (predicates_from c k v m nodes)
predicates_spread c k v m [] = tt
predicates_spread c k v m (node ∷ nodes) =
    go (is_enter_of k node.region node.kind) (predicates_spread c k v (m + 1) nodes)
    (predicates_each (Differ (tagged c (AtNode m) Predicate v)) c k v (m + 1) nodes
    (λ i x e f same. let line = same.1 in let eq : m ≡ m + 1 + i = cc in omega arith))
  where
    go : (t : Bool) → Unique (predicates_from c k v (m + 1) nodes) → Each (Differ (tagged c (AtNode m) Predicate v)) (predicates_from c k v (m + 1) nodes)
        → Unique (if t then tagged c (AtNode m) Predicate v ∷ predicates_from c k v (m + 1) nodes else predicates_from c k v (m + 1) nodes)
    go true ih up = (up, ih)
    go false ih up = ih

entering_each : (P : Tagged → Type 0) (c : Context) (from : ℕ) (vs : List Value)
    → ((i : ℕ) (v : Value) → i < length vs → P (tagged c (AtNode (from + i)) (Operand 0) v)) → Each P (entering c from vs)
entering_each P c from [] h = tt
entering_each P c from (v ∷ vs) h = (
  subst (λ y. P (tagged c (AtNode y) (Operand 0) v)) (omega arith) (h 0 v (omega arith)),
  entering_each P c (from + 1) vs (λ i w l. subst (λ y. P (tagged c (AtNode y) (Operand 0) w)) (omega arith) (h (suc i) w (omega arith))),
)

pub entering_unique : (c : Context) (from : ℕ) (vs : List Value) → Unique (entering c from vs)
entering_unique c from [] = tt
entering_unique c from (v ∷ vs) = (
  entering_each (Differ (tagged c (AtNode from) (Operand 0) v)) c (from + 1) vs
      (λ i w l same. let line = same.1 in let eq : from ≡ from + 1 + i = cc in omega arith),
  entering_unique c (from + 1) vs,
)

pub entering_member : (fl : Flow) (c : Context) (from : ℕ) (vs : List Value) → Each (Member fl (Enters c from vs)) (entering c from vs)
entering_member fl c from vs = entering_each (Member fl (Enters c from vs)) c from vs (λ i v l. (refl, refl, (i, l, refl)))

sent_member : (fl : Flow) (c : Context) (n p : ℕ) (v : Value) (o : Option (Block ℕ)) → block_of fl c ≡ o → Each (Member fl (Sends c n p v)) (sent_in o c n p v)
sent_member fl c n p v None e = tt
sent_member fl c n p v (Some b) e =
    each_map (Member fl (Sends c n p v)) (λ (u : Use). tagged c u.0 u.1 v) (uses_in b c n p)
    (each_weaker (λ (u : Use). UseOf b c n p u.0 u.1) (λ (u : Use). Member fl (Sends c n p v) (tagged c u.0 u.1 v)) (λ u h. (refl, refl, (b, e, h)))
    (uses_in b c n p) (uses_each b c n p))

sent_unique : (c : Context) (n p : ℕ) (v : Value) (o : Option (Block ℕ)) → Unique (sent_in o c n p v)
sent_unique c n p v None = tt
sent_unique c n p v (Some b) =
    spread_map Differ (λ (u : Use). tagged c u.0 u.1 v) (uses_in b c n p)
    (spread_weaker UsesDiffer (λ u w. Differ (tagged c u.0 u.1 v) (tagged c w.0 w.1 v)) (λ u w h same. h same.1 same.2) (uses_in b c n p) (uses_spread b c n p))

told_member : (fl : Flow) (c : Context) (k : ℕ) (v : Value) (o : Option (Block ℕ)) → block_of fl c ≡ o → Each (Member fl (Steers c k v)) (predicates_in o c k v)
told_member fl c k v None e = tt
told_member fl c k v (Some b) e =
    predicates_each (Member fl (Steers c k v)) c k v b.inputs b.nodes
    (λ i node f g. let side = enter_of k node.region node.kind g in (refl, refl, refl, (b, b.inputs + i, node, side.0, e, refl, line_at b i node f, side.1)))

told_unique : (c : Context) (k : ℕ) (v : Value) (o : Option (Block ℕ)) → Unique (predicates_in o c k v)
told_unique c k v None = tt
told_unique c k v (Some b) = predicates_spread c k v b.inputs b.nodes

pub tokens_member : (fl : Flow) (m : Message) → Each (Member fl m) (tokens_of fl m)
tokens_member fl (Sends c n p v) = sent_member fl c n p v (block_of fl c) refl
tokens_member fl (Steers c k v) = told_member fl c k v (block_of fl c) refl
tokens_member fl (Enters c from vs) = entering_member fl c from vs
tokens_member fl Nothing = tt

pub tokens_unique : (fl : Flow) (m : Message) → Unique (tokens_of fl m)
tokens_unique fl (Sends c n p v) = sent_unique c n p v (block_of fl c)
tokens_unique fl (Steers c k v) = told_unique c k v (block_of fl c)
tokens_unique fl (Enters c from vs) = entering_unique c from vs
tokens_unique fl Nothing = tt

-- where one flag is sent, all are
all_flags : (b : Block ℕ) (c : Context) (n p : ℕ) (v : Value) → IsTurned c → IsSource n p (slice_get b.results 0) → (k : ℕ) → 1 ≤ k → k ≤ b.inputs
    → Within (tagged c (AtTurn k) Flag v) (sent_in (Some b) c n p v)
all_flags b Main n p v h e k low high = absurd h
all_flags b (Called d m) n p v h e k low high = absurd h
all_flags b (Turned d m i) n p v h e k low high =
    let c : Context = Turned d m i in
    let last : 1 + (k - 1) ≡ k = omega arith in
    let one : Within (AtTurn k, Flag) (turns_from 1 b.inputs) =
    subst (λ x. Within (AtTurn x, Flag) (turns_from 1 b.inputs)) last (turns_within 1 b.inputs (k - 1) (omega arith)) in
    let two = within_flat_map (λ j. result_uses c b.inputs j) 0 (AtTurn k, Flag) (positions n p 0 b.results) (position_zero n p b.results e) one in
    within_map (λ (u : Use). tagged c u.0 u.1 v) (AtTurn k, Flag) (uses_in b c n p) (within_right _ (uses_at n p b.inputs b.nodes) _ two)

pub flags_sent : (fl : Flow) (b : Block ℕ) (c : Context) (n p : ℕ) (v : Value) → block_of fl c ≡ Some b → IsTurned c → IsSource n p (slice_get b.results 0)
    → (k : ℕ) → 1 ≤ k → k ≤ b.inputs → Within (tagged c (AtTurn k) Flag v) (tokens_of fl (Sends c n p v))
flags_sent fl b c n p v e h src k low high = subst (λ o. Within (tagged c (AtTurn k) Flag v) (sent_in o c n p v)) (sym e) (all_flags b c n p v h src k low high)

-- a source that is there is within the list
pub source_within : (n p : ℕ) (ss : List Source) (i : ℕ) → IsSource n p (slice_get ss i) → i < length ss
source_within n p [] i h = absurd h
source_within n p (s ∷ ss) zero h = omega arith
source_within n p (s ∷ ss) (suc i) h = let ih = source_within n p ss i h in omega (arith, ih)
