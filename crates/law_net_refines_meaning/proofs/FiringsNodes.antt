-- Inputs, literals, operators, merges and enters: the activity of the node, and those of the conditionals that it feeds.
use Rattle.std.proofs.Common.{◌≡◌, ◌≢◌, ℕ, ◌-◌, Bool, true, false, not, ◌||◌, ◌⊎◌, inl, inr, List, [], ◌∷◌, length, flat_map, Option, Some, None, nat_lt}
use Rattle.std.proofs.Common.{if◌then◌else◌, refl, sym, ap, ◌∙◌, subst, true≢false}
use Rattle.std.specs.Prelude.{slice_get, IsPermutation}
use Rattle.std.proofs.lemmas.Bool.{cases_Bool}
use Rattle.std.proofs.lemmas.List.Sorted.{IsPermutation-sym}
use Rattle.lemmas.proofs.Bools.{or_true}
use Rattle.tags.specs.declared.value.Value.{Value}
use Rattle.operators.specs.Values.{truth}
use Rattle.semantics.specs.declared.graph.Region.{Region}
use Rattle.semantics.specs.declared.graph.Region.TheVariants.{Root, Arm}
use Rattle.semantics.specs.declared.graph.Kind.{Kind}
use Rattle.semantics.specs.Graph.{Node, Block, Flow, node_at}
use Rattle.semantics.specs.Plan.{Plan}
use Rattle.semantics.specs.Meaning.{Context, Tagged, tagged, Memory, AtNode, Predicate, Activity, Fires, Gates, Passes, Says, Sends, Nothing, deed, fired}
use Rattle.semantics.specs.Meaning.{gated, passed, same_side, taken, block_of, node_of, node_in, arm_of}
use Rattle.law_confluence.proofs.Orders.{at_first}
use Rattle.law_net.specs.ContextsParts.{Part, Line, Merge, Gate, Note, Datum, each}
use Rattle.law_net.specs.ContextsBlocks.{Side, side, Wiring, exit, exit_kind, second_side, lies_in, there_in, is_plain, is_pair, is_cell, is_kind, plain_kind}
use Rattle.law_net.specs.ContextsBlocks.{pair_kind, cell_kind, merge_kind, enter_kind}
use Rattle.law_net.specs.Contexts.{Wires, block_in, site_in, wiring_in}
use Rattle.law_net.specs.ContextsMeant.{meant, settled_sent, operand}
use Rattle.law_net.specs.ContextsWires.{IsWiredCode, has_port, meant_along, IsSilent}
use Rattle.law_net.specs.ContextsFirings.{kind_value, line_value}
use Rattle.law_net.specs.ContextsOperands.{HasOperands, HaveOperands}
use Rattle.law_net_refines_meaning.proofs.FiringsActs.{Passing, Acts, stays, follow, says_acts, fires_deed, input_deed, gates_deed, passes_deed, line_past}
use Rattle.law_net_refines_meaning.proofs.FiringsSettles.{operands_in, sends_settled}
use Rattle.law_net_refines_meaning.proofs.FiringsWords.{meant_each, none_each, IsExit, exit_is, exit_gate}

-- a node of a kind is there
pub kind_is : (b : Block ℕ) (test : Kind ℕ → Bool) (n : ℕ) → is_kind test b n ≡ true → (line : Node ℕ) × (node_at b n ≡ Some line) × (test line.kind ≡ true)
kind_is b test n = go (node_at b n)
  where
    go : (o : Option (Node ℕ)) → elim o as (λ x. Bool) [ None ↦ false | Some line ↦ test line.kind ] ≡ true
        → (line : Node ℕ) × (o ≡ Some line) × (test line.kind ≡ true)
    go None e = absurd (true≢false (sym e))
    go (Some line) e = (line, refl, e)

pub kind_of : (b : Block ℕ) (test : Kind ℕ → Bool) (n : ℕ) (line : Node ℕ) → node_at b n ≡ Some line → is_kind test b n ≡ test line.kind
kind_of b test n line e = ap (λ o. elim o as (λ x. Bool) [ None ↦ false | Some line ↦ test line.kind ]) e

pub exit_of : (b : Block ℕ) (w : Wiring) (n q : ℕ) (line : Node ℕ) → node_at b n ≡ Some line → exit b w n q ≡ exit_kind w n q line.region line.kind
exit_of b w n q line e = ap (λ o. elim o as (λ x. Side) [ None ↦ side (Line n) false | Some line ↦ exit_kind w n q line.region line.kind ]) e

pub input_none : (b : Block ℕ) (n : ℕ) → nat_lt n b.inputs ≡ true → node_at b n ≡ None
input_none b n e = ap (λ (t : Bool). if t then None else slice_get b.nodes (n - b.inputs)) e

module _ (fl : Flow) (p : Plan) (w : Wires) (operands : HaveOperands fl) (c : Context) (eb : block_of fl c ≡ Some (block_in fl c)) (Here : Context → Type 0)
    (here : Here c)
    (code : IsWiredCode fl p w.variant Here (site_in fl w c) (wiring_in fl w c)) where
  abbrev b : Block ℕ
  b = block_in fl c

  abbrev wg : Wiring
  wg = wiring_in fl w c

  abbrev pub Sent : Value → Side → List Tagged
  Sent v s = flat_map (meant fl) (each c (Datum v) (wg.wire s))

  -- what is settled goes along the wires
  pub goes : (by : Part) (n q : ℕ) (v : Value) (s : Side) (m : Memory) → exit b wg n q ≡ s → there_in fl (site_in fl w c) wg s.part ≡ true → has_port fl b n q ≡ true
      → Acts fl c by (settled_sent fl c n q v) m (Sent v s) m
  goes by n q v s m e there port =
      let uses = code.uses.uses c n q v here (ap (λ (s : Side). there_in fl (site_in fl w c) wg s.part) e ∙ there) port in
      let uses' : IsPermutation (meant_along fl c v (wg.wire s)) (settled_sent fl c n q v) =
      subst (λ (s : Side). IsPermutation (meant_along fl c v (wg.wire s)) (settled_sent fl c n q v)) e uses in
      stays fl c by (settled_sent fl c n q v) (Sent v s) m (IsPermutation-sym _ _ (at_first (meant_each fl c v (wg.wire s)) uses'))

  -- an activity that sends on a port
  pub leaves : (by : Part) (a : Activity) → Passing fl c by a → (n q : ℕ) (v : Value) (s : Side) (m : Memory) → deed fl a ≡ Some (Says (Sends c n q v)) → exit b wg n q ≡ s
      → there_in fl (site_in fl w c) wg s.part ≡ true → has_port fl b n q ≡ true → Acts fl c by (taken a) m (Sent v s) m
  leaves by a passing n q v s m d e there port =
      follow fl c by (taken a) (settled_sent fl c n q v) (Sent v s) m m m (sends_settled fl operands c by a passing c n q v m d)
      (goes by n q v s m e there port)

  -- what leaves by a side that is no exit stands for no token
  pub silent : (s : Side) (k : Note) → there_in fl (site_in fl w c) wg s.part ≡ true → IsSilent s.part → ((n q : ℕ) → exit b wg n q ≢ s)
      → flat_map (meant fl) (each c k (wg.wire s)) ≡ []
  silent s k there quiet never = none_each fl c k (wg.wire s) (λ v. code.uses.nothing c s v here there quiet never)

  -- and so it is with a part that no node leaves at
  pub silent_part : (r : Part) (second : Bool) (k : Note) → there_in fl (site_in fl w c) wg r ≡ true → IsSilent r → (IsExit r → ⊥)
      → flat_map (meant fl) (each c k (wg.wire (side r second))) ≡ []
  silent_part r second k there quiet never = silent (side r second) k there quiet (λ n q e. never (subst (λ (s : Side). IsExit s.part) e (exit_is b wg n q)))

  pub node_in_block : (n : ℕ) → node_of fl c n ≡ node_at b n
  node_in_block n = ap (λ o. node_in o n) eb

  -- LINES
  abbrev Value_of : ℕ → Value → Value → Option (Node ℕ) → Value
  Value_of n v u o = elim o as (λ x. Value) [ None ↦ v | Some line ↦ kind_value fl c n v u line.kind ]

  line_exit : (n q : ℕ) (r : Region) (k : Kind ℕ) → plain_kind k ≡ true → cell_kind k ≡ false → exit_kind wg n q r k ≡ side (Line n) false
  line_exit n q r (Kind.Lit z) e f = refl
  line_exit n q r (Kind.Apply1 op) e f = refl
  line_exit n q r (Kind.Apply2 op) e f = refl
  line_exit n q r (Kind.Fetch a) e f = absurd (true≢false f)
  line_exit n q r (Kind.Store a) e f = absurd (true≢false f)
  line_exit n q r k e f = absurd (true≢false (sym e))

  one_deed : (n : ℕ) (v u : Value) (line : Node ℕ) → node_at b n ≡ Some line → (k : Kind ℕ) → line.kind ≡ k → plain_kind k ≡ true → cell_kind k ≡ false
      → pair_kind k ≡ false → HasOperands line.region k (length line.sources)
      → deed fl (Fires c n (v ∷ [])) ≡ Some (Says (Sends c n 0 (kind_value fl c n v u k)))
  one_deed n v u line en (Kind.Lit z) ek e f g h = fires_deed fl c n (v ∷ []) b line eb en (sym h) ∙ ap (λ (k : Kind ℕ). fired fl c n k (v ∷ [])) ek
  one_deed n v u line en (Kind.Apply1 op) ek e f g h = fires_deed fl c n (v ∷ []) b line eb en (sym h) ∙ ap (λ (k : Kind ℕ). fired fl c n k (v ∷ [])) ek
  one_deed n v u line en (Kind.Apply2 op) ek e f g h = absurd (true≢false g)
  one_deed n v u line en (Kind.Fetch a) ek e f g h = absurd (true≢false f)
  one_deed n v u line en (Kind.Store a) ek e f g h = absurd (true≢false f)
  one_deed n v u line en k ek e f g h = absurd (true≢false (sym e))

  two_deed : (n : ℕ) (v u : Value) (line : Node ℕ) → node_at b n ≡ Some line → (k : Kind ℕ) → line.kind ≡ k → cell_kind k ≡ false → pair_kind k ≡ true
      → HasOperands line.region k (length line.sources)
      → deed fl (Fires c n (v ∷ u ∷ [])) ≡ Some (Says (Sends c n 0 (kind_value fl c n v u k)))
  two_deed n v u line en (Kind.Apply2 op) ek f g h = fires_deed fl c n (v ∷ u ∷ []) b line eb en (sym h) ∙ ap (λ (k : Kind ℕ). fired fl c n k (v ∷ u ∷ [])) ek
  two_deed n v u line en (Kind.Store a) ek f g h = absurd (true≢false f)
  two_deed n v u line en k ek f g h = absurd (true≢false (sym g))

  -- a line that is no cell, with one operand or with two
  abbrev LineActs : ℕ → List Value → Value → Memory → Type 0
  LineActs n vs v m = Acts fl c (Line n) (taken (Fires c n vs)) m (Sent v (side (Line n) false)) m

  value_is : (n : ℕ) (v u : Value) (o : Option (Node ℕ)) → node_at b n ≡ o → line_value fl c n v u ≡ Value_of n v u o
  value_is n v u o e = ap (λ (o : Option (Node ℕ)). Value_of n v u o) (node_in_block n ∙ e)

  or_right : (t u : Bool) → (t || u) ≡ true → t ≡ false → u ≡ true
  or_right true u e f = absurd (true≢false f)
  or_right false u e f = e

  plain_line : (n : ℕ) → is_plain b n ≡ true → nat_lt n b.inputs ≡ false → (line : Node ℕ) × (node_at b n ≡ Some line) × (plain_kind line.kind ≡ true)
  plain_line n plain e = kind_is b plain_kind n (or_right (nat_lt n b.inputs) (is_kind plain_kind b n) plain e)

  input_acts : (n : ℕ) (v u : Value) (m : Memory) → is_plain b n ≡ true → nat_lt n b.inputs ≡ true → LineActs n (v ∷ []) (line_value fl c n v u) m
  input_acts n v u m plain e =
      let none = input_none b n e in
      let ex : exit b wg n 0 ≡ side (Line n) false =
      ap (λ o. elim o as (λ x. Side) [ None ↦ side (Line n) false | Some line ↦ exit_kind wg n 0 line.region line.kind ]) none in
      subst (λ x. LineActs n (v ∷ []) x m) (sym (value_is n v u None none))
      (leaves (Line n) (Fires c n (v ∷ [])) (λ e. (refl, refl)) n 0 v (side (Line n) false) m (input_deed fl c n v b eb e) ex plain (or_true _))

  line_acts : (n : ℕ) (vs : List Value) (v u : Value) (m : Memory) (line : Node ℕ) → is_plain b n ≡ true → node_at b n ≡ Some line → plain_kind line.kind ≡ true
      → cell_kind line.kind ≡ false → deed fl (Fires c n vs) ≡ Some (Says (Sends c n 0 (kind_value fl c n v u line.kind)))
      → LineActs n vs (line_value fl c n v u) m
  line_acts n vs v u m line plain en kind never d =
      subst (λ x. LineActs n vs x m) (sym (value_is n v u (Some line) en))
      (leaves (Line n) (Fires c n vs) (λ e. (refl, refl)) n 0 (kind_value fl c n v u line.kind) (side (Line n) false) m d
      (exit_of b wg n 0 line en ∙ line_exit n 0 line.region line.kind kind never) plain (or_true _))

  pub line_one : (n : ℕ) (v u : Value) (m : Memory) → is_plain b n ≡ true → is_cell b n ≡ false → is_pair b n ≡ false
      → LineActs n (v ∷ []) (line_value fl c n v u) m
  line_one n v u m plain cell pair = pick (cases_Bool (nat_lt n b.inputs))
    where
      pick : (nat_lt n b.inputs ≡ true) ⊎ (nat_lt n b.inputs ≡ false) → LineActs n (v ∷ []) (line_value fl c n v u) m
      pick (inl e) = input_acts n v u m plain e
      pick (inr e) =
          let (line, en, kind) = plain_line n plain e in
          let never = sym (kind_of b cell_kind n line en) ∙ cell in
          line_acts n (v ∷ []) v u m line plain en kind never
          (one_deed n v u line en line.kind refl kind never (sym (kind_of b pair_kind n line en) ∙ pair) (operands_in fl operands c b n line eb en))

  pub line_two : (n : ℕ) (v u : Value) (m : Memory) → is_plain b n ≡ true → is_cell b n ≡ false → is_pair b n ≡ true
      → LineActs n (v ∷ u ∷ []) (line_value fl c n v u) m
  line_two n v u m plain cell pair = pick (cases_Bool (nat_lt n b.inputs))
    where
      pick : (nat_lt n b.inputs ≡ true) ⊎ (nat_lt n b.inputs ≡ false) → LineActs n (v ∷ u ∷ []) (line_value fl c n v u) m
      pick (inl e) = let k = kind_is b pair_kind n pair in absurd (true≢false (sym e ∙ line_past b n k.0 k.1))
      pick (inr e) =
          let (line, en, kind) = plain_line n plain e in
          let never = sym (kind_of b cell_kind n line en) ∙ cell in
          line_acts n (v ∷ u ∷ []) v u m line plain en kind never
          (two_deed n v u line en line.kind refl never (sym (kind_of b pair_kind n line en) ∙ pair) (operands_in fl operands c b n line eb en))

  -- MERGES
  merge_deed : (n i : ℕ) (v : Value) (k : Kind ℕ) → merge_kind k ≡ true
      → (passed c n i v k ≡ Some (Says (Sends c n 0 v))) × ((r : Region) → exit_kind wg n 0 r k ≡ side (Merge n) false)
  merge_deed n i v (Kind.Merge k) e = (refl, λ r. refl)
  merge_deed n i v k e = absurd (true≢false (sym e))

  pub merge_acts : (n i : ℕ) (v : Value) (m : Memory) → is_kind merge_kind b n ≡ true → Acts fl c (Merge n) (operand c n i v ∷ []) m (Sent v (side (Merge n) false)) m
  merge_acts n i v m there =
      let (line, en, kind) = kind_is b merge_kind n there in
      let k = merge_deed n i v line.kind kind in
      leaves (Merge n) (Passes c n i v) tt n 0 v (side (Merge n) false) m (passes_deed fl c n i v b line eb en ∙ k.0) (exit_of b wg n 0 line en ∙ k.1 line.region) there
      (or_true _)

  -- ENTERS
  enter_deed : (n : ℕ) (v u : Value) (r : Region) (k : Kind ℕ) (num : ℕ) → enter_kind k ≡ true → HasOperands r k num
      → (j : ℕ) × (t : Bool) × (r ≡ Arm j t) × (gated c n v u r k ≡ Some (Says (if same_side (truth u) t then Sends c n 0 v else Nothing)))
      × (exit_kind wg n 0 r k ≡ side (Gate n) (not t))
  enter_deed n v u (Arm j t) Kind.Enter num e h = (j, t, refl, refl, refl)
  enter_deed n v u Root Kind.Enter num e h = absurd (h.1 refl)
  enter_deed n v u r k num e h = absurd (true≢false (sym e))

  -- the side that is taken is the node's own, or the other
  side_cases : (t side : Bool) → ((not t ≡ not side) × (same_side t side ≡ true)) ⊎ ((not t ≡ not side → ⊥) × (same_side t side ≡ false))
  side_cases true true = inl (refl, refl)
  side_cases false false = inl (refl, refl)
  side_cases true false = inr (λ e. true≢false (sym e), refl)
  side_cases false true = inr (λ e. true≢false e, refl)

  pub gate_acts : (n : ℕ) (v u : Value) (m : Memory) → is_kind enter_kind b n ≡ true
      → Acts fl c (Gate n) (operand c n 0 v ∷ tagged c (AtNode n) Predicate u ∷ []) m (Sent v (side (Gate n) (not (truth u)))) m
  gate_acts n v u m there = pick (side_cases (truth u) t)
    where
      found : (line : Node ℕ) × (node_at b n ≡ Some line) × (enter_kind line.kind ≡ true)
      found = kind_is b enter_kind n there

      line : Node ℕ
      line = found.0

      k : (j : ℕ) × (t : Bool) × (line.region ≡ Arm j t)
          × (gated c n v u line.region line.kind ≡ Some (Says (if same_side (truth u) t then Sends c n 0 v else Nothing)))
          × (exit_kind wg n 0 line.region line.kind ≡ side (Gate n) (not t))
      k = enter_deed n v u line.region line.kind (length line.sources) found.2 (operands_in fl operands c b n line eb found.1)

      t : Bool
      t = k.1

      d : deed fl (Gates c n v u) ≡ Some (Says (if same_side (truth u) t then Sends c n 0 v else Nothing))
      d = gates_deed fl c n v u b line eb found.1 ∙ k.3

      own : second_side (lies_in b n) ≡ not t
      own = ap second_side (ap arm_of found.1 ∙ k.2)

      pick : ((not (truth u) ≡ not t) × (same_side (truth u) t ≡ true)) ⊎ ((not (truth u) ≡ not t → ⊥) × (same_side (truth u) t ≡ false))
          → Acts fl c (Gate n) (taken (Gates c n v u)) m (Sent v (side (Gate n) (not (truth u)))) m
      pick (inl (e, y)) =
          leaves (Gate n) (Gates c n v u) tt n 0 v (side (Gate n) (not (truth u))) m (d ∙ ap (λ (t : Bool). Some (Says (if t then Sends c n 0 v else Nothing))) y)
          (exit_of b wg n 0 line found.1 ∙ k.4 ∙ ap (side (Gate n)) (sym e)) there (or_true _)
      pick (inr (never, y)) =
          let quiet = silent (side (Gate n) (not (truth u))) (Datum v) there tt (λ i q e. never ((exit_gate b wg i q n (not (truth u)) e).1 ∙ own)) in
          subst (λ l. Acts fl c (Gate n) (taken (Gates c n v u)) m l m) (sym quiet)
          (says_acts fl c (Gate n) (Gates c n v u) tt Nothing m (d ∙ ap (λ (t : Bool). Some (Says (if t then Sends c n 0 v else Nothing))) y))
