-- What holds of every token that was ever present, in terms of the other tokens that were.
use Rattle.std.proofs.Common.{◌≡◌, ℕ, suc, ◌+◌, ◌<◌, ◌≤◌, ◌⊎◌, Bool, true, false, length, Option, Some, None, inl, inr, refl, sym, ap, ◌∙◌, subst, subst₂}
use Rattle.std.proofs.Common.{arith, ⊎_elim}
use Rattle.std.specs.Prelude.{⊤, slice_get}
use Rattle.tags.specs.declared.value.Value.{Value}
use Rattle.operators.specs.Values.{truth}
use Rattle.semantics.specs.declared.graph.Region.{Region}
use Rattle.semantics.specs.declared.graph.Region.TheVariants.{Root, Arm}
use Rattle.semantics.specs.declared.graph.Source.{Source}
use Rattle.semantics.specs.declared.graph.Kind.TheVariants.{Store}
use Rattle.semantics.specs.Graph.{Node, Block, Flow, node_at}
use Rattle.semantics.specs.Meaning.{Context, Main, Called, Turned, Statement, AtNode, AtTurn, Port, Operand, Predicate, Flag, Tagged, tagged, callee}
use Rattle.semantics.specs.Meaning.{block_numbered, block_number, block_of, Message, Sends, Steers, Enters, Nothing, tokens_of}
use Rattle.lemmas.proofs.Permutations.{Within}
use Rattle.law_confluence.proofs.ActivityUses.{IsSource, UseOf, AsOperand, AsResult, AsFlag, AsCarried, Member, flags_sent}
use Rattle.law_confluence.proofs.ActivityRows.{Class, Steering, Gate, Join, Calling, Strict, Looping, class_of, class_node, class_at, region_node, region_in}
use Rattle.law_confluence.proofs.ActivityRows.{region_at}

-- WELL-FORMED FLOWS: what the graph's conditions leave to a flow
abbrev pub IsInvoking : Class → Type 0
IsInvoking Calling = ⊤
IsInvoking Strict = ⊤
IsInvoking Looping = ⊤
IsInvoking k = ⊥

pub record IsLineWell (fl : Flow) (b : Block ℕ) (node : Node ℕ) : Type 0 where
  -- it lies in the root, or in an arm of a conditional
  pub round : (k : ℕ) (side : Bool) → node.region ≡ Arm k side → class_node (node_at b k) ≡ Steering
  pub plain : (class_of node.kind ≡ Gate → ⊥) → (class_of node.kind ≡ Join → ⊥) → (i : ℕ) (s : Source) → slice_get node.sources i ≡ Some s
      → region_node (node_at b s.node) ≡ node.region
  pub stores : (a : ℕ) → node.kind ≡ Store a → length node.sources ≡ 2
  pub joins : class_of node.kind ≡ Join → (k : ℕ) × (class_node (node_at b k) ≡ Steering) × (region_node (node_at b k) ≡ node.region)
      × ((i : ℕ) (s : Source) → slice_get node.sources i ≡ Some s
      → ((i ≡ 0) × (region_node (node_at b s.node) ≡ Arm k true)) ⊎ ((i ≡ 1) × (region_node (node_at b s.node) ≡ Arm k false)))
  pub invokes : (f : ℕ) → callee node.kind ≡ Some f → (b' : Block ℕ) × (slice_get fl.blocks f ≡ Some b') × (b'.inputs ≡ length node.sources) × (0 < b'.inputs)

pub record IsFlowWell (fl : Flow) : Type 0 where
  pub lines : (i : ℕ) (b : Block ℕ) → slice_get fl.blocks i ≡ Some b → (n : ℕ) (node : Node ℕ) → node_at b n ≡ Some node → IsLineWell fl b node

numbered_line : (fl : Flow) → IsFlowWell fl → (o : Option ℕ) (b : Block ℕ) → block_numbered fl o ≡ Some b → (n : ℕ) (node : Node ℕ) → node_at b n ≡ Some node
    → IsLineWell fl b node
numbered_line fl w None b e n node f = cc
numbered_line fl w (Some i) b e n node f = w.lines i b e n node f

pub well_at : (fl : Flow) → IsFlowWell fl → (c : Context) (b : Block ℕ) → block_of fl c ≡ Some b → (n : ℕ) (node : Node ℕ) → node_at b n ≡ Some node
    → IsLineWell fl b node
well_at fl w c b e n node f = numbered_line fl w (block_number fl c) b e n node f

-- THE LAWS, of tokens E
abbrev pub Tokens : Type 1
Tokens = Tagged → Type 0

-- the node has had an argument
abbrev pub HasArgument : Tokens → Context → ℕ → Type 0
HasArgument E c n = (i : ℕ) × (v : Value) × E (tagged c (AtNode n) (Operand i) v)

-- the iteration before has had a true flag
abbrev pub HasFlag : Tokens → Context → ℕ → ℕ → Type 0
HasFlag E c n i = (h : ℕ) → i ≡ suc h → (j : ℕ) × (b : Value) × E (tagged (Turned c n h) (AtTurn j) Flag b) × (truth b ≡ true)

abbrev pub ContextLaw : Flow → Tokens → Context → Type 0
ContextLaw fl E Main = ⊤
ContextLaw fl E (Called c n) = HasArgument E c n × ((class_at fl c n ≡ Calling) ⊎ (class_at fl c n ≡ Strict))
ContextLaw fl E (Turned c n i) = HasArgument E c n × (class_at fl c n ≡ Looping) × HasFlag E c n i

-- the conditional of the arm has taken a value of that side's truth
abbrev pub ArmLaw : Tokens → Context → Region → Type 0
ArmLaw E c Root = ⊤
ArmLaw E c (Arm k side) = (v : Value) × E (tagged c (AtNode k) (Operand 0) v) × (truth v ≡ side)

abbrev pub LineLaw : Tokens → Context → Block ℕ → ℕ → ℕ → Type 0
LineLaw E c b m i =
    (node : Node ℕ) × (s : Source) × (node_at b m ≡ Some node) × (slice_get node.sources i ≡ Some s) × ArmLaw E c (region_node (node_at b s.node))

abbrev pub PlaceLaw : Flow → Tokens → Context → Value → Statement → Port → Type 0
PlaceLaw fl E c v (AtNode m) (Operand i) = (b : Block ℕ) × (block_of fl c ≡ Some b) × (((m < b.inputs) × (i ≡ 0)) ⊎ LineLaw E c b m i)
PlaceLaw fl E c v (AtNode m) Predicate =
    (b : Block ℕ) × (node : Node ℕ) × (k : ℕ) × (side : Bool) × (block_of fl c ≡ Some b) × (node_at b m ≡ Some node) × (node.region ≡ Arm k side)
    × E (tagged c (AtNode k) (Operand 0) v)
PlaceLaw fl E c v (AtTurn j) Flag =
    (b : Block ℕ) × (block_of fl c ≡ Some b) × (1 ≤ j) × (j ≤ b.inputs) × ((k : ℕ) → 1 ≤ k → k ≤ b.inputs → E (tagged c (AtTurn k) Flag v))
PlaceLaw fl E c v s q = ⊤

abbrev pub Lawful : Flow → Tokens → Tagged → Type 0
Lawful fl E t = ContextLaw fl E t.context × PlaceLaw fl E t.context t.value t.statement t.port

-- MORE TOKENS

module _ (fl : Flow) (E F : Tokens) (more : (t : Tagged) → E t → F t) where
  pub context_more : (c : Context) → ContextLaw fl E c → ContextLaw fl F c
  context_more Main h = tt
  context_more (Called c n) h = ((h.0.0, h.0.1, more _ h.0.2), h.1)
  context_more (Turned c n i) h = ((h.0.0, h.0.1, more _ h.0.2), h.1, λ g e. let f = h.2 g e in (f.0, f.1, more _ f.2, f.3))

  pub arm_more : (c : Context) (r : Region) → ArmLaw E c r → ArmLaw F c r
  arm_more c Root h = tt
  arm_more c (Arm k side) h = (h.0, more _ h.1, h.2)

  place_more : (c : Context) (v : Value) (s : Statement) (q : Port) → PlaceLaw fl E c v s q → PlaceLaw fl F c v s q
  place_more c v (AtNode m) (Operand i) h =
      (h.0, h.1, ⊎_elim (λ l. inl l) (λ l. inr (l.0, l.1, l.2, l.3, arm_more c (region_node (node_at h.0 l.1.node)) l.4)) h.2)
  place_more c v (AtNode m) Predicate h = (h.0, h.1, h.2, h.3, h.4, h.5, h.6, more _ h.7)
  place_more c v (AtTurn j) Flag h = (h.0, h.1, h.2, h.3, λ k low high. more _ (h.4 k low high))
  place_more c v s q h = tt

  pub lawful_more : (t : Tagged) → Lawful fl E t → Lawful fl F t
  lawful_more t h = (context_more t.context h.0, place_more t.context t.value t.statement t.port h.1)

-- MESSAGES

abbrev pub Grounded : Flow → Tokens → Message → Type 0
Grounded fl E (Sends c n p v) = ContextLaw fl E c × ArmLaw E c (region_at fl c n)
Grounded fl E (Steers c k v) = ContextLaw fl E c × E (tagged c (AtNode k) (Operand 0) v)
Grounded fl E (Enters c from vs) = (0 < length vs → ContextLaw fl E c) × ((b : Block ℕ) × (block_of fl c ≡ Some b) × (from + length vs ≤ b.inputs))
Grounded fl E Nothing = ⊤

pub tagged_is : (t : Tagged) (c : Context) (s : Statement) (q : Port) (v : Value) → c ≡ t.context → s ≡ t.statement → q ≡ t.port → v ≡ t.value
    → tagged c s q v ≡ t
tagged_is t c s q v e f g h = λ i. tagged (e i) (f i) (g i) (h i)

pub source_of : (n p : ℕ) (o : Option Source) → IsSource n p o → (s : Source) × (o ≡ Some s) × (s.node ≡ n) × (s.port ≡ p)
source_of n p None h = absurd h
source_of n p (Some s) h = (s, refl, h.0, h.1)

module _ (fl : Flow) (E : Tokens) where
  sends_lawful : (c : Context) (n p : ℕ) (v : Value) (b : Block ℕ) (s : Statement) (q : Port) → Grounded fl E (Sends c n p v)
      → ((t : Tagged) → Within t (tokens_of fl (Sends c n p v)) → E t)
      → block_of fl c ≡ Some b → UseOf b c n p s q → PlaceLaw fl E c v s q
  sends_lawful c n p v b s q g there eb (AsOperand m i node es eq low line src) =
      let from = source_of n p (slice_get node.sources i) src in
      let arm : ArmLaw E c (region_node (node_at b from.0.node)) =
      subst (λ r. ArmLaw E c r) (ap (λ o. region_in o n) eb ∙ ap (λ k. region_node (node_at b k)) (sym from.2)) g.1 in
      subst₂ (λ s q. PlaceLaw fl E c v s q) (sym es) (sym eq) (b, eb, inr (node, from.0, line, from.1, arm))
  sends_lawful c n p v b s q g there eb (AsResult j es eq src) = subst₂ (λ s q. PlaceLaw fl E c v s q) (sym es) (sym eq) tt
  sends_lawful c n p v b s q g there eb (AsFlag j es eq low high src turned) =
      subst₂ (λ s q. PlaceLaw fl E c v s q) (sym es) (sym eq) (b, eb, low, high, λ k l h. there _ (flags_sent fl b c n p v eb turned src k l h))
  sends_lawful c n p v b s q g there eb (AsCarried j es eq low src) = subst₂ (λ s q. PlaceLaw fl E c v s q) (sym es) (sym eq) tt

  pub member_lawful : (m : Message) → Grounded fl E m → ((t : Tagged) → Within t (tokens_of fl m) → E t) → (t : Tagged) → Member fl m t → Lawful fl E t
  member_lawful (Sends c n p v) g there t h =
      subst (λ t. Lawful fl E t) (tagged_is t c t.statement t.port v (sym h.0) refl refl (sym h.1))
      (g.0, sends_lawful c n p v h.2.0 t.statement t.port g there h.2.1 h.2.2)
  member_lawful (Steers c k v) g there t h =
      let x = h.3 in
      subst (λ t. Lawful fl E t) (tagged_is t c (AtNode x.1) Predicate v (sym h.0) (sym x.5) (sym h.2) (sym h.1)) (g.0, (x.0, x.2, k, x.3, x.4, x.6, x.7, g.1))
  member_lawful (Enters c from vs) g there t h =
      let b = g.1 in
      subst (λ t. Lawful fl E t) (tagged_is t c (AtNode (from + h.2.0)) (Operand 0) t.value (sym h.0) (sym h.2.2) (sym h.1) refl)
      (g.0 (omega (arith, h.2.1)), (b.0, b.1, inl (omega (arith, h.2.1, b.2), refl)))
  member_lawful Nothing g there t h = absurd h
