-- What an activity sends is grounded in what it takes.
use Rattle.std.proofs.Common.{◌≡◌, ℕ, ◌+◌, ◌-◌, ◌<◌, ◌≤◌, ◌⊎◌, Bool, true, false, List, [], ◌∷◌, length, Option, Some, None, nat_lt, if◌then◌else◌, inl, inr}
use Rattle.std.proofs.Common.{refl, sym, ap, ◌∙◌, subst, arith, ⊎_elim, lt-ltb}
use Rattle.std.specs.Prelude.{slice_get}
use Rattle.std.proofs.lemmas.Option.{slice_get_within}
use Rattle.tags.specs.declared.value.Value.{Value}
use Rattle.operators.specs.Values.{truth}
use Rattle.semantics.specs.declared.graph.Region.TheVariants.{Root, Arm}
use Rattle.semantics.specs.declared.graph.Kind.{Kind}
use Rattle.semantics.specs.declared.graph.Kind.TheVariants.{Call, StrictCall, Loop}
use Rattle.semantics.specs.Graph.{Node, Block, Flow, node_at}
use Rattle.semantics.specs.Meaning.{Context, Turned, AtNode, AtTurn, Operand, Predicate, Flag, Tagged, tagged, Activity, taken, operands_from, callee}
use Rattle.semantics.specs.Meaning.{callee_of, callee_in, block_numbered, block_of, Message}
use Rattle.lemmas.proofs.Permutations.{Each}
use Rattle.law_confluence.proofs.ActivityKeys.{Together, mode_of, mode_node, mode_in, mode_at}
use Rattle.law_confluence.proofs.ActivityRows.{Class, Plain, Steering, Gate, Join, Calling, Strict, Looping, class_of, class_node, class_in, class_at}
use Rattle.law_confluence.proofs.ActivityRows.{region_node, region_in, region_at, Row, RowFires, RowSteers, RowGates, RowQuiet, RowMerges, RowCalls, RowStrict}
use Rattle.law_confluence.proofs.ActivityRows.{RowLoops, RowReturns, RowAgain, RowLeaves}
use Rattle.law_confluence.proofs.HistoryLaws.{IsFlowWell, IsInvoking, well_at, Tokens, HasArgument, HasFlag, ContextLaw, ArmLaw, LineLaw, Lawful, Grounded}

pub class_line : (b : Block ℕ) (n : ℕ) (node : Node ℕ) → node_at b n ≡ Some node → class_in (Some b) n ≡ class_of node.kind
class_line b n node e = go (nat_lt n b.inputs) (slice_get b.nodes (n - b.inputs)) e
  where
    go : (t : Bool) (x : Option (Node ℕ)) → (if t then None else x) ≡ Some node → (if t then Plain else class_node (if t then None else x)) ≡ class_of node.kind
    go true x e = cc
    go false x e = ap class_node e

pub mode_line : (b : Block ℕ) (n : ℕ) (node : Node ℕ) → node_at b n ≡ Some node → mode_in (Some b) n ≡ mode_of node.kind (length node.sources)
mode_line b n node e = go (nat_lt n b.inputs) (slice_get b.nodes (n - b.inputs)) e
  where
    go : (t : Bool) (x : Option (Node ℕ)) → (if t then None else x) ≡ Some node
        → (if t then Together 1 else mode_node (if t then None else x)) ≡ mode_of node.kind (length node.sources)
    go true x e = cc
    go false x e = ap mode_node e

pub input_class : (b : Block ℕ) (n : ℕ) → n < b.inputs → class_in (Some b) n ≡ Plain
input_class b n h = ap (λ (t : Bool). if t then Plain else class_node (node_at b n)) (lt-ltb n b.inputs h)

input_region : (b : Block ℕ) (n : ℕ) → n < b.inputs → region_in (Some b) n ≡ Root
input_region b n h = ap (λ (t : Bool). region_node (if t then None else slice_get b.nodes (n - b.inputs))) (lt-ltb n b.inputs h)

pub node_class : (b : Block ℕ) (n : ℕ) → class_node (node_at b n) ≡ Steering → class_in (Some b) n ≡ Steering
node_class b n e = go (nat_lt n b.inputs) (slice_get b.nodes (n - b.inputs)) e
  where
    go : (t : Bool) (x : Option (Node ℕ)) → class_node (if t then None else x) ≡ Steering → (if t then Plain else class_node (if t then None else x)) ≡ Steering
    go true x e = cc
    go false x e = e

callee_is : (kind : Kind ℕ) → IsInvoking (class_of kind) → (f : ℕ) × (callee kind ≡ Some f)
callee_is (Call f) h = (f, refl)
callee_is (StrictCall f) h = (f, refl)
callee_is (Loop f k) h = (f, refl)
callee_is kind h = absurd h

-- a node line of that class
found_node : (k : Class) (t : Bool) (x : Option (Node ℕ)) → (if t then Plain else class_node (if t then None else x)) ≡ k → IsInvoking k
    → (node : Node ℕ) × ((if t then None else x) ≡ Some node) × (class_of node.kind ≡ k)
found_node k true x e h = absurd (subst IsInvoking (sym e) h)
found_node k false None e h = absurd (subst IsInvoking (sym e) h)
found_node k false (Some node) e h = (node, refl, e)

pub found_line : (o : Option (Block ℕ)) (n : ℕ) (k : Class) → class_in o n ≡ k → IsInvoking k
    → (b : Block ℕ) × (node : Node ℕ) × (o ≡ Some b) × (node_at b n ≡ Some node) × (class_of node.kind ≡ k)
found_line None n k e h = absurd (subst IsInvoking (sym e) h)
found_line (Some b) n k e h = let x = found_node k (nat_lt n b.inputs) (slice_get b.nodes (n - b.inputs)) e h in (b, x.0, refl, x.1, x.2)

module _ (fl : Flow) (w : IsFlowWell fl) where
  -- what a node of that class invokes
  invoked : (c : Context) (n : ℕ) (k : Class) → class_at fl c n ≡ k → IsInvoking k
      → (b' : Block ℕ) × (node : Node ℕ) × (block_numbered fl (callee_in (block_of fl c) n) ≡ Some b') × (b'.inputs ≡ length node.sources) × (0 < b'.inputs)
      × ((b : Block ℕ) × (block_of fl c ≡ Some b) × (node_at b n ≡ Some node))
  invoked c n k e h =
      let x = found_line (block_of fl c) n k e h in
      let f = callee_is x.1.kind (subst IsInvoking (sym x.4) h) in
      let to = (well_at fl w c x.0 x.2 n x.1 x.3).invokes f.0 f.1 in (
        to.0,
        x.1,
        ap (λ o. block_numbered fl (callee_in o n)) x.2 ∙ ap (λ y. block_numbered fl (callee_of y)) x.3 ∙ ap (block_numbered fl) f.1 ∙ to.1,
        to.2,
        to.3,
        (x.0, x.2, x.3),
      )

  strict_count : (kind : Kind ℕ) (i j : ℕ) → class_of kind ≡ Strict → Together i ≡ mode_of kind j → i ≡ j
  strict_count (StrictCall f) i j e g = cc
  strict_count kind i j e g = cc

  -- a strict call takes as many operands as its block has inputs
  pub strict_inputs : (c : Context) (n : ℕ) (vs : List Value) → class_at fl c n ≡ Strict → mode_at fl c n ≡ Together (length vs)
      → (b' : Block ℕ) × (block_numbered fl (callee_in (block_of fl c) n) ≡ Some b') × (length vs ≡ b'.inputs) × (0 < b'.inputs)
  strict_inputs c n vs class mode =
      let x = invoked c n Strict class tt in
      let b = x.5.0 in
      let modes : Together (length vs) ≡ mode_of x.1.kind (length x.1.sources) = sym mode ∙ ap (λ o. mode_in o n) x.5.1 ∙ mode_line b n x.1 x.5.2 in
      let strict : class_of x.1.kind ≡ Strict = sym (class_line b n x.1 x.5.2) ∙ sym (ap (λ o. class_in o n) x.5.1) ∙ class in
      let long = strict_count x.1.kind (length vs) (length x.1.sources) strict modes in
      (x.0, x.2, omega (arith, x.3, long), x.4)

module _ (fl : Flow) (w : IsFlowWell fl) (E : Tokens) (all : (t : Tagged) → E t → Lawful fl E t) where
  -- the region of a node that takes an operand in its own region
  pub own_arm : (c : Context) (n i : ℕ) (v : Value) → E (tagged c (AtNode n) (Operand i) v) → (class_at fl c n ≡ Gate → ⊥) → (class_at fl c n ≡ Join → ⊥)
      → ArmLaw E c (region_at fl c n)
  own_arm c n i v h gate join =
      let law = (all _ h).1 in
      let b = law.0 in
      let eb = law.1 in
      subst (λ r. ArmLaw E c r) (sym (ap (λ o. region_in o n) eb))
      (⊎_elim (λ l. subst (λ r. ArmLaw E c r) (sym (input_region b n l.0)) tt)
      (λ (l : LineLaw E c b n i).
      let class : class_at fl c n ≡ class_of l.0.kind = ap (λ o. class_in o n) eb ∙ class_line b n l.0 l.2 in
      let line = well_at fl w c b eb n l.0 l.2 in
      subst (λ r. ArmLaw E c r) (line.plain (λ e. gate (class ∙ e)) (λ e. join (class ∙ e)) i l.1 l.3 ∙ sym (ap region_node l.2)) l.4)
      law.2)

  -- the token of one side of a merge: the conditional was taken to that side
  pub joined_arm : (c : Context) (n i : ℕ) (v : Value) → E (tagged c (AtNode n) (Operand i) v) → class_at fl c n ≡ Join
      → (b : Block ℕ) × (node : Node ℕ) × (block_of fl c ≡ Some b) × (node_at b n ≡ Some node) × (class_of node.kind ≡ Join) × LineLaw E c b n i
  joined_arm c n i v h join =
      let law = (all _ h).1 in
      let b = law.0 in
      let eb = law.1 in
      ⊎_elim (λ l. let plain = sym join ∙ ap (λ o. class_in o n) eb ∙ input_class b n l.0 in cc)
      (λ (l : LineLaw E c b n i). (b, l.0, eb, l.2, sym (class_line b n l.0 l.2) ∙ sym (ap (λ o. class_in o n) eb) ∙ join, l))
      law.2

  merge_arm : (c : Context) (n i : ℕ) (v : Value) → E (tagged c (AtNode n) (Operand i) v) → class_at fl c n ≡ Join → ArmLaw E c (region_at fl c n)
  merge_arm c n i v h join =
      let x = joined_arm c n i v h join in
      let b = x.0 in
      let line = (well_at fl w c b x.2 n x.1 x.3).joins x.4 in
      let k = line.0 in
      let l = x.5 in
      let same : l.0 ≡ x.1 = let p = sym l.2 ∙ x.3 in cc in
      let get = subst (λ (node : Node ℕ). slice_get node.sources i ≡ Some l.1) same l.3 in
      let steering : class_at fl c k ≡ Steering = ap (λ o. class_in o k) x.2 ∙ node_class b k line.1 in
      let from : (side : Bool) → region_node (node_at b l.1.node) ≡ Arm k side → ArmLaw E c (region_at fl c n) =
      λ side e.
      let arm : ArmLaw E c (Arm k side) = subst (λ r. ArmLaw E c r) e l.4 in
      subst (λ r. ArmLaw E c r) (ap (λ o. region_in o k) x.2 ∙ line.2 ∙ sym (ap region_node x.3) ∙ sym (ap (λ o. region_in o n) x.2))
      (own_arm c k 0 arm.0 arm.1 (λ e. cc) (λ e. cc)) in
      ⊎_elim (λ s. from true s.1) (λ s. from false s.1) (line.3 i l.1 get)

  gate_arm : (c : Context) (n k : ℕ) (v : Value) → E (tagged c (AtNode n) Predicate v) → region_at fl c n ≡ Arm k (truth v) → ArmLaw E c (region_at fl c n)
  gate_arm c n k v h e =
      let law = (all _ h).1 in
      let region = sym e ∙ ap (λ o. region_in o n) law.4 ∙ ap region_node law.5 ∙ law.6 in
      let same : law.2 ≡ k = cc in
      subst (λ r. ArmLaw E c r) (sym e) (v, subst (λ k. E (tagged c (AtNode k) (Operand 0) v)) same law.7, refl)

  -- an operand of a node that invokes is for an input of the block
  room : (c : Context) (n i : ℕ) (v : Value) (k : Class) → E (tagged c (AtNode n) (Operand i) v) → class_at fl c n ≡ k → IsInvoking k
      → (b' : Block ℕ) × (block_numbered fl (callee_in (block_of fl c) n) ≡ Some b') × (i + 1 ≤ b'.inputs)
  room c n i v k h e inv =
      let x = invoked fl w c n k e inv in
      let law = (all _ h).1 in
      let b = law.0 in
      ⊎_elim (λ l. absurd (subst IsInvoking (sym e ∙ ap (λ o. class_in o n) law.1 ∙ input_class b n l.0) inv))
      (λ (l : LineLaw E c b n i).
      let blocks = sym law.1 ∙ x.5.1 in
      let same_block : b ≡ x.5.0 = cc in
      let lines = sym l.2 ∙ ap (λ (b : Block ℕ). node_at b n) same_block ∙ x.5.2 in
      let same : l.0 ≡ x.1 = cc in
      let below = slice_get_within l.0.sources i l.1 l.3 in
      let long = ap (λ (node : Node ℕ). length node.sources) same in
      (x.0, x.2, omega (arith, x.3, below, long)))
      law.2

  pub argument_class : (c : Context) (n : ℕ) → HasArgument E c n → ContextLaw fl E c
  argument_class c n h = (all _ h.2).0

  pub called_arm : (c : Context) (n : ℕ) → HasArgument E c n → (class_at fl c n ≡ Calling) ⊎ (class_at fl c n ≡ Strict) → ArmLaw E c (region_at fl c n)
  called_arm c n h (inl k) = own_arm c n h.0 h.1 h.2 (λ e. cc) (λ e. cc)
  called_arm c n h (inr k) = own_arm c n h.0 h.1 h.2 (λ e. cc) (λ e. cc)

  first_operand : (c : Context) (n : ℕ) (vs : List Value) → 0 < length vs → Each E (operands_from c (AtNode n) 0 vs)
      → (v : Value) × E (tagged c (AtNode n) (Operand 0) v)
  first_operand c n [] l h = absurd (omega arith)
  first_operand c n (v ∷ vs) l h = (v, h.0)

  pub row_grounded : (a : Activity) (m : Message) → Row fl a m → Each E (taken a) → Grounded fl E m
  row_grounded a m (RowFires c n vs v ea em class l) h =
      let one = first_operand c n vs l (subst (λ a. Each E (taken a)) ea h) in
      subst (λ m. Grounded fl E m) (sym em) ((all _ one.1).0, own_arm c n 0 one.0 one.1 (λ e. cc) (λ e. cc))
  row_grounded a m (RowSteers c n v ea em) h =
      let one = (subst (λ a. Each E (taken a)) ea h).0 in
      subst (λ m. Grounded fl E m) (sym em) ((all _ one).0, one)
  row_grounded a m (RowGates c n v b k ea em class region) h =
      let both = subst (λ a. Each E (taken a)) ea h in
      subst (λ m. Grounded fl E m) (sym em) ((all _ both.0).0, gate_arm c n k b both.1.0 region)
  row_grounded a m (RowQuiet some em) h = subst (λ m. Grounded fl E m) (sym em) tt
  row_grounded a m (RowMerges c n i v ea em class) h =
      let one = (subst (λ a. Each E (taken a)) ea h).0 in
      subst (λ m. Grounded fl E m) (sym em) ((all _ one).0, merge_arm c n i v one class)
  row_grounded a m (RowCalls c n i v ea em class) h =
      let one = (subst (λ a. Each E (taken a)) ea h).0 in
      subst (λ m. Grounded fl E m) (sym em) ((λ l. ((i, v, one), inl class)), room c n i v Calling one class tt)
  row_grounded a m (RowStrict c n vs ea em class mode) h =
      let operands = subst (λ a. Each E (taken a)) ea h in
      let x = strict_inputs fl w c n vs class mode in
      subst (λ m. Grounded fl E m) (sym em) ((λ l. let one = first_operand c n vs l operands in ((0, one.0, one.1), inr class)), (x.0, x.1, omega (arith, x.2)))
  row_grounded a m (RowLoops c n i v ea em class) h =
      let one = (subst (λ a. Each E (taken a)) ea h).0 in
      subst (λ m. Grounded fl E m) (sym em) ((λ l. ((i, v, one), class, λ g e. absurd (omega arith))), room c n i v Looping one class tt)
  row_grounded a m (RowReturns c n j v ea em) h =
      let one = (subst (λ a. Each E (taken a)) ea h).0 in
      let law = (all _ one).0 in
      subst (λ m. Grounded fl E m) (sym em) (argument_class c n law.0, called_arm c n law.0 law.1)
  row_grounded a m (RowAgain c n i j b v ea em on) h =
      let one = (subst (λ a. Each E (taken a)) ea h).0 in
      let law = all _ one in
      let place = law.1 in
      let flag : HasFlag E c n (i + 1) = λ g e. let same : i ≡ g = omega arith in
      (j, b, subst (λ i. E (tagged (Turned c n i) (AtTurn j) Flag b)) same one, on) in
      subst (λ m. Grounded fl E m) (sym em) ((λ l. (law.0.0, law.0.1, flag)), (place.0, place.1, omega (arith, place.2, place.3)))
  row_grounded a m (RowLeaves c n i j b v ea em off) h =
      let one = (subst (λ a. Each E (taken a)) ea h).0 in
      let law = (all _ one).0 in
      let class = law.1 in
      subst (λ m. Grounded fl E m) (sym em) (argument_class c n law.0, own_arm c n law.0.0 law.0.1 law.0.2 (λ e. cc) (λ e. cc))
