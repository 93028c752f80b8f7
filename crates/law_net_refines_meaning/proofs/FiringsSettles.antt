-- Conditionals act at once: from what is sent to what is settled.
use Rattle.std.proofs.Common.{◌≡◌, ℕ, ◌<◌, List, [], ◌∷◌, length, flat_map, Option, Some, None, refl, sym, ap, ◌∙◌, subst, arith, nat_lt, true≢false}
use Rattle.tags.specs.declared.value.Value.{Value}
use Rattle.semantics.specs.declared.graph.Kind.{Kind}
use Rattle.semantics.specs.declared.graph.Kind.TheVariants.{Cond}
use Rattle.semantics.specs.Graph.{Node, Block, Flow, node_at}
use Rattle.semantics.specs.Meaning.{Context, Statement, AtNode, Operand, Fires, Tagged, tagged, Memory, Activity, Says, Sends, Steers, deed, fired, taken}
use Rattle.semantics.specs.Meaning.{block_of, block_number, block_numbered, node_of, node_in, sent}
use Rattle.lemmas.proofs.Permutations.{Each, each_weaker}
use Rattle.law_confluence.proofs.HistoryLaws.{tagged_is}
use Rattle.law_confluence.proofs.ActivityUses.{UseOf, AsOperand, AsResult, AsFlag, AsCarried, Member, tokens_member, source_within}
use Rattle.law_net.specs.ContextsParts.{Part}
use Rattle.law_net.specs.Contexts.{or_none}
use Rattle.law_net.specs.ContextsMeant.{settled_kind, settled_node, settled_at, settled_sent}
use Rattle.law_net.specs.ContextsOperands.{HasOperands, HaveOperands}
use Rattle.law_net_refines_meaning.proofs.FiringsActs.{Passing, Acts, same, follow, beside, says_acts, fires_deed, line_past}

module _ (fl : Flow) (operands : HaveOperands fl) where
  -- in any block of a context
  pub operands_at : (o : Option ℕ) (b : Block ℕ) (n : ℕ) (node : Node ℕ) → block_numbered fl o ≡ Some b → node_at b n ≡ Some node
      → HasOperands node.region node.kind (length node.sources)
  operands_at None b n node e f = cc
  operands_at (Some i) b n node e f = operands i n b node e f

  pub operands_in : (c : Context) (b : Block ℕ) (n : ℕ) (node : Node ℕ) → block_of fl c ≡ Some b → node_at b n ≡ Some node
      → HasOperands node.region node.kind (length node.sources)
  operands_in c b n node e f = operands_at (block_number fl c) b n node e f

  module _ (at : Context) (by : Part) where
    abbrev pub Settles : Tagged → Type 0
    Settles t = (m : Memory) → Acts fl at by (t ∷ []) m (settled_at fl t t.statement) m

    pub settle_all : (ts : List Tagged) → Each Settles ts → (m : Memory) → Acts fl at by ts m (flat_map (λ (t : Tagged). settled_at fl t t.statement) ts) m
    settle_all [] h m = same fl at by [] [] m refl
    settle_all (t ∷ ts) h m =
        beside fl at by (t ∷ []) (settled_at fl t t.statement) ts (flat_map (λ (t : Tagged). settled_at fl t t.statement) ts) m (h.0 m) (settle_all ts h.1 m)

    -- a token at a conditional's operand, which is the only one
    cond_settles : (t : Tagged) (k i : ℕ) (b : Block ℕ) (node : Node ℕ) → t.statement ≡ AtNode k → t.port ≡ Operand i → block_of fl t.context ≡ Some b
        → node_at b k ≡ Some node → node.kind ≡ Cond → i < length node.sources
        → (m : Memory) → Acts fl at by (t ∷ []) m (settled_kind fl t k Cond) m
    cond_settles t k i b node es eq eb en ek low m =
        let h = subst (λ (kind : Kind ℕ). HasOperands node.region kind (length node.sources)) ek (operands_in t.context b k node eb en) in
        let first : i ≡ 0 = omega (arith, h, low) in
        let one : 1 ≡ length node.sources = omega (arith, h) in
        let is : tagged t.context (AtNode k) (Operand 0) t.value ≡ t =
        tagged_is t t.context (AtNode k) (Operand 0) t.value refl (sym es) (sym (eq ∙ ap (λ j. Operand j) first)) refl in
        let d : deed fl (Fires t.context k (t.value ∷ [])) ≡ Some (Says (Steers t.context k t.value)) =
        fires_deed fl t.context k (t.value ∷ []) b node eb en one ∙ ap (λ (kind : Kind ℕ). fired fl t.context k kind (t.value ∷ [])) ek in
        subst (λ (x : Tagged). Acts fl at by (x ∷ []) m (settled_kind fl t k Cond) m) is
        (says_acts fl at by (Fires t.context k (t.value ∷ []))
        (λ e. absurd (true≢false (sym e ∙ ap (λ (b : Block ℕ). nat_lt k b.inputs) (ap or_none eb) ∙ line_past b k node en))) (Steers t.context k t.value) m d)

    node_settles : (t : Tagged) (k i : ℕ) (b : Block ℕ) (node : Node ℕ) → t.statement ≡ AtNode k → t.port ≡ Operand i → block_of fl t.context ≡ Some b
        → node_at b k ≡ Some node → i < length node.sources
        → (kind : Kind ℕ) → node.kind ≡ kind → (m : Memory) → Acts fl at by (t ∷ []) m (settled_kind fl t k kind) m
    node_settles t k i b node es eq eb en low Cond ek m = cond_settles t k i b node es eq eb en ek low m
    node_settles t k i b node es eq eb en low kind ek m = same fl at by (t ∷ []) (t ∷ []) m refl

    use_settles : (c : Context) (n p : ℕ) (v : Value) (t : Tagged) → t.context ≡ c → (b : Block ℕ) → block_of fl c ≡ Some b → UseOf b c n p t.statement t.port
        → Settles t
    use_settles c n p v t ec b eb (AsOperand k i node es eq low line src) m =
        let eb' : block_of fl t.context ≡ Some b = ap (block_of fl) ec ∙ eb in
        let en : node_of fl t.context k ≡ Some node = ap (λ o. node_in o k) eb' ∙ line in
        subst (λ (s : Statement). Acts fl at by (t ∷ []) m (settled_at fl t s) m) (sym es)
        (subst (λ (o : Option (Node ℕ)). Acts fl at by (t ∷ []) m (settled_node fl t k o) m) (sym en)
        (node_settles t k i b node es eq eb' line (source_within n p node.sources i src) node.kind refl m))
    use_settles c n p v t ec b eb (AsResult j es eq src) m =
        subst (λ (s : Statement). Acts fl at by (t ∷ []) m (settled_at fl t s) m) (sym es) (same fl at by (t ∷ []) (t ∷ []) m refl)
    use_settles c n p v t ec b eb (AsFlag j es eq low high src turned) m =
        subst (λ (s : Statement). Acts fl at by (t ∷ []) m (settled_at fl t s) m) (sym es) (same fl at by (t ∷ []) (t ∷ []) m refl)
    use_settles c n p v t ec b eb (AsCarried j es eq low src) m =
        subst (λ (s : Statement). Acts fl at by (t ∷ []) m (settled_at fl t s) m) (sym es) (same fl at by (t ∷ []) (t ∷ []) m refl)

    -- What is sent leads to what is settled.
    pub settles : (c : Context) (n p : ℕ) (v : Value) (m : Memory) → Acts fl at by (sent fl c n p v) m (settled_sent fl c n p v) m
    settles c n p v m =
        settle_all (sent fl c n p v) (each_weaker (Member fl (Sends c n p v)) Settles (λ t h. use_settles c n p v t h.0 h.2.0 h.2.1 h.2.2) (sent fl c n p v)
        (tokens_member fl (Sends c n p v))) m

    -- an activity that sends
    pub sends_settled : (a : Activity) → Passing fl at by a → (c : Context) (n p : ℕ) (v : Value) (m : Memory) → deed fl a ≡ Some (Says (Sends c n p v))
        → Acts fl at by (taken a) m (settled_sent fl c n p v) m
    sends_settled a passing c n p v m e = follow fl at by (taken a) (sent fl c n p v) (settled_sent fl c n p v) m m m (says_acts fl at by a passing (Sends c n p v) m e) (settles c n p v m)
