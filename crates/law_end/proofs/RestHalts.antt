-- At rest no activity of the meaning is enabled, but in iterations whose credits wait: of what waits no two words meet, no reader has its value, and no
-- strict call all its arguments.
use Rattle.std.proofs.Common.{◌≡◌, ℕ, zero, suc, ◌+◌, ◌-◌, ◌<◌, ℤ, Bool, true, false, ◌⊎◌, inl, inr, List, [], ◌∷◌, ◌++◌, length, Option, Some, None, nat_lt}
use Rattle.std.proofs.Common.{if◌then◌else◌, refl, sym, ap, ◌∙◌, subst, arith, true≢false}
use Rattle.std.specs.Prelude.{Contains, slice_get}
use Rattle.std.proofs.lemmas.List.Sorted.{Contains-permutation}
use Rattle.std.proofs.lemmas.List.Elements.{Contains-append_right, Contains-append_cases}
use Rattle.tags.specs.declared.value.Value.{Value}
use Rattle.tags.specs.declared.token.Port.TheVariants.{Left, Right}
use Rattle.operators.specs.Values.{index_in}
use Rattle.semantics.specs.declared.graph.Region.{Region}
use Rattle.semantics.specs.declared.graph.Kind.{Kind}
use Rattle.semantics.specs.Graph.{Node, Flow, Block, node_at, first_cell, array_len}
use Rattle.semantics.specs.Plan.{Plan}
use Rattle.semantics.specs.Meaning as Meaning
use Rattle.semantics.specs.Meaning.{Context, Statement, AtNode, AtOut, AtTurn, Operand, Predicate, Flag, Carried, Tagged, tagged, Activity, Fires, Gates}
use Rattle.semantics.specs.Meaning.{Passes, Returns, Turns, Outputs, taken, Effect, done_if, effect, deed, fired, fetched, operands_from, origin_at}
use Rattle.semantics.specs.Meaning.{Turned, State, Step, node_in, AtRest}
use Rattle.semantics.specs.Machine.{Machine, Resting, Wants}
use Rattle.lemmas.proofs.Permutations.{Within, within_to}
use Rattle.lemmas.proofs.Contains.{contains_none, contains_flat_mapped}
use Rattle.law_confluence.proofs.ActivityKeys as Tokens
use Rattle.law_confluence.proofs.ActivityKeys.{Together, ByGate, Alone, mode_of, mode_node, mode_in, mode_at, fires_mode, gates_mode, passes_mode}
use Rattle.law_confluence.proofs.ActivityDiamond.{deed_of, held_from}
use Rattle.law_confluence.proofs.OutcomeRest.{takes_some}
use Rattle.law_net.specs.ContextsParts as Parts
use Rattle.law_net.specs.ContextsParts.{Part, Line, Gate, Sender, TurnValue, inlet, Item}
use Rattle.law_net.specs.ContextsBlocks.{is_pair, is_cell, is_store, is_strict, is_kind, pair_kind, cell_kind, store_kind, enter_kind, strict_kind}
use Rattle.law_net.specs.ContextsBlocks.{source_count}
use Rattle.law_net.specs.Contexts.{Wires, block_in, IsContext}
use Rattle.law_net.specs.ContextsMeant.{meant}
use Rattle.law_net.specs.ContextsFirings.{array_in, array_at, index_of, cell_of}
use Rattle.law_net.specs.ContextsMirror.{Past}
use Rattle.law_net.specs.ContextsOperands.{HasOperands}
use Rattle.law_net.specs.ContextsTheorem.{IsGood}
use Rattle.law_net.specs.ContextsPackages.{Keeps, InputsFit}
use Rattle.law_net_refines_meaning.proofs.FiringsActs.{fires_deed}
use Rattle.law_net_refines_meaning.proofs.FiringsNodes.{kind_is, kind_of}
use Rattle.law_net_refines_meaning.proofs.FiringsSettles.{operands_in}
use Rattle.law_net.proofs.WiredInvoked.{block_here}
use Rattle.law_end.specs.RestStarts.{AllStart}
use Rattle.law_end.proofs.RestCells.{fetch_of, fetch_none}
use Rattle.law_end.proofs.RestWaits.{Waiting, Held, held_wants, rests_net, apart}
use Rattle.law_end.proofs.RestReaders.{reader_empty}
use Rattle.law_end.proofs.RestTokens.{Says, AtLeft, AtRight, GateLeft, GateRight, Reading, Argument, TurnLeft, TurnRight, Going, says, con, not_complete}

-- how a node takes its operands
together_is : (n k : ℕ) → Together n ≡ Together k → n ≡ k
together_is n k e = cc

same_node : (n k : ℕ) → AtNode n ≡ AtNode k → n ≡ k
same_node n k e = cc

same_turn : (n k : ℕ) → AtTurn n ≡ AtTurn k → n ≡ k
same_turn n k e = cc

same_operand : (n k : ℕ) → Operand n ≡ Operand k → n ≡ k
same_operand n k e = cc

pair_mode : (k : Kind ℕ) (n : ℕ) → pair_kind k ≡ true → mode_of k n ≡ Together n
pair_mode (Kind.Apply2 op) n e = refl
pair_mode (Kind.Store a) n e = refl
pair_mode k n e = absurd (true≢false (sym e))

enter_mode : (k : Kind ℕ) (n : ℕ) → enter_kind k ≡ true → mode_of k n ≡ ByGate
enter_mode Kind.Enter n e = refl
enter_mode k n e = absurd (true≢false (sym e))

strict_mode : (k : Kind ℕ) (n : ℕ) → strict_kind k ≡ true → mode_of k n ≡ Together n
strict_mode (Kind.StrictCall f) n e = refl
strict_mode k n e = absurd (true≢false (sym e))

strict_pair : (k : Kind ℕ) → strict_kind k ≡ true → pair_kind k ≡ false
strict_pair (Kind.StrictCall f) e = refl
strict_pair k e = absurd (true≢false (sym e))

strict_enter : (k : Kind ℕ) → strict_kind k ≡ true → enter_kind k ≡ false
strict_enter (Kind.StrictCall f) e = refl
strict_enter k e = absurd (true≢false (sym e))

strict_cell : (k : Kind ℕ) → strict_kind k ≡ true → cell_kind k ≡ false
strict_cell (Kind.StrictCall f) e = refl
strict_cell k e = absurd (true≢false (sym e))

kind_apart : (b : Block ℕ) (n : ℕ) (test other : Kind ℕ → Bool) → ((k : Kind ℕ) → test k ≡ true → other k ≡ false) → is_kind test b n ≡ true
    → is_kind other b n ≡ true → ⊥
kind_apart b n test other h e f = let (line, at, kind) = kind_is b test n e in true≢false (sym f ∙ kind_of b other n line at ∙ h line.kind kind)

pair_count : (r : Region) (k : Kind ℕ) (n : ℕ) → pair_kind k ≡ true → HasOperands r k n → n ≡ 2
pair_count r (Kind.Apply2 op) n e h = h
pair_count r (Kind.Store a) n e h = h
pair_count r k n e h = absurd (true≢false (sym e))

-- each operand that an activity takes
held_each : (ts : List Tagged) (c : Context) (s : Statement) (from : ℕ) (vs : List Value) → Tokens.Held ts (operands_from c s from vs) → (l j : ℕ) → l < length vs
    → from + l ≡ j → (v : Value) × Within (tagged c s (Operand j) v) ts
held_each ts c s from [] h l j low e = absurd (omega (arith, low))
held_each ts c s from (v ∷ vs) h zero j low e = let same : from ≡ j = omega (arith, e) in (v, subst (λ (k : ℕ). Within (tagged c s (Operand k) v) ts) same h.0)
held_each ts c s from (v ∷ vs) h (suc l) j low e = held_each ts c s (from + 1) vs h.1 l j (omega (arith, low)) (omega (arith, e))

-- where an activity at a node takes place
abbrev pub node_place : Activity → Context
node_place (Fires c n vs) = c
node_place (Gates c n v u) = c
node_place (Passes c n i v) = c
node_place a = Meaning.Main

module _ (fl : Flow) (p : Plan) (w : Wires) (inputs : List ℤ) (past : Past) (m : Machine) (good : IsGood fl p w) (fit : InputsFit fl inputs)
    (kept : Keeps fl p w inputs past m) (rests : Resting m) (calm : m.store.requests ≡ []) (starts : AllStart fl w) where
  abbrev Waits' : Item → Type 0
  Waits' i = Waiting fl p w inputs past m good fit kept i

  abbrev Says' : Item → Tagged → Type 0
  Says' i t = Says fl p w inputs past m good fit kept rests calm starts i t

  con_of : (i : Item) → Waits' i → IsContext fl i.context
  con_of i d = con fl p w inputs past m good fit kept rests calm starts i d

  -- MODES
  module _ (c : Context) (here : IsContext fl c) (n : ℕ) where
    mode_line : (line : Node ℕ) → node_at (block_in fl c) n ≡ Some line → mode_at fl c n ≡ mode_of line.kind (length line.sources)
    mode_line line e =
        ap (λ o. mode_in o n) (block_here fl p w good c here)
        ∙ go (nat_lt n (block_in fl c).inputs) (slice_get (block_in fl c).nodes (n - (block_in fl c).inputs)) e
      where
        go : (t : Bool) (x : Option (Node ℕ)) → (if t then None else x) ≡ Some line
            → (if t then Together 1 else mode_node (if t then None else x)) ≡ mode_of line.kind (length line.sources)
        go true x e = absurd (cc)
        go false x e = ap mode_node e

    pub pair_takes : is_pair (block_in fl c) n ≡ true → mode_at fl c n ≡ Together 2
    pair_takes e =
        let (line, at, kind) = kind_is (block_in fl c) pair_kind n e in
        mode_line line at ∙ pair_mode line.kind (length line.sources) kind
        ∙ ap Together (pair_count line.region line.kind (length line.sources) kind
        (operands_in fl good.operands c (block_in fl c) n line (block_here fl p w good c here) at))

    pub gate_takes : is_kind enter_kind (block_in fl c) n ≡ true → mode_at fl c n ≡ ByGate
    gate_takes e = let (line, at, kind) = kind_is (block_in fl c) enter_kind n e in mode_line line at ∙ enter_mode line.kind (length line.sources) kind

    pub strict_takes : is_strict (block_in fl c) n ≡ true → mode_at fl c n ≡ Together (source_count (block_in fl c) n)
    strict_takes e = let (line, at, kind) = kind_is (block_in fl c) strict_kind n e in
        mode_line line at ∙ strict_mode line.kind (length line.sources) kind
        ∙ ap Together (sym (ap (λ o. elim o as (λ x. ℕ) [ None ↦ 0 | Some line ↦ length line.sources ]) at))

    -- a fetch
    pub record FetchAt : Type 0 where
      pub line : Node ℕ
      pub at : node_at (block_in fl c) n ≡ Some line
      pub array : ℕ
      pub kind : line.kind ≡ Kind.Fetch array
      pub one : 1 ≡ length line.sources

    pub fetch_at : is_cell (block_in fl c) n ≡ true → is_store (block_in fl c) n ≡ false → FetchAt
    fetch_at cell store =
        let (line, at, kind) = kind_is (block_in fl c) cell_kind n cell in
        let (a, is) = fetch_of line.kind kind (sym (kind_of (block_in fl c) store_kind n line at) ∙ store) in
        record {
          line = line;
          at = at;
          array = a;
          kind = is;
          one =
              sym (subst (λ (k : Kind ℕ). HasOperands line.region k (length line.sources)) is
              (operands_in fl good.operands c (block_in fl c) n line (block_here fl p w good c here) at));
        }

    pub fetch_takes : FetchAt → mode_at fl c n ≡ Together 1
    fetch_takes f = mode_line f.line f.at ∙ ap (λ (k : Kind ℕ). mode_of k (length f.line.sources)) f.kind ∙ ap Together (sym f.one)

    pub fetch_array : (f : FetchAt) → array_at fl c n ≡ f.array
    fetch_array f =
        ap (λ o. elim o as (λ x. ℕ) [ None ↦ 0 | Some line ↦ array_in line.kind ]) (ap (λ o. node_in o n) (block_here fl p w good c here) ∙ f.at)
        ∙ ap array_in f.kind

    pub fetch_deed : (v : Value) → FetchAt → deed fl (Fires c n (v ∷ [])) ≡ Some (fetched c n (first_cell fl (array_at fl c n)) (index_of fl c n (v ∷ [])))
    fetch_deed v f =
        fires_deed fl c n (v ∷ []) (block_in fl c) f.line (block_here fl p w good c here) f.at f.one ∙ ap (λ (k : Kind ℕ). fired fl c n k (v ∷ [])) f.kind
        ∙ ap (λ (a : ℕ). Some (fetched c n (first_cell fl a) (index_in (array_len fl a) v (origin_at fl c n)))) (sym (fetch_array f))

  -- an item that waits stands for the token
  abbrev pub Meant : Tagged → Type 0
  Meant t = (i : Item) × Waiting fl p w inputs past m good fit kept i × Says fl p w inputs past m good fit kept rests calm starts i t

  pub from_state : (t : Tagged) → Within t kept.state.tokens → Meant t
  from_state t h =
      let (i, d, e) = contains_flat_mapped (meant fl) (kept.tracks.net.pending ++ kept.tracks.net.waiting) t
      (Contains-permutation _ _ t kept.meant.tokens (within_to t kept.state.tokens h)) in
      let c = pick i (Contains-append_cases kept.tracks.net.pending kept.tracks.net.waiting i d) in
      (i, c, says fl p w inputs past m good fit kept rests calm starts i c t e)
    where
      pick : (i : Item) → Contains kept.tracks.net.pending i ⊎ Waits' i → Waits' i
      pick i (inl c) = absurd (contains_none i (subst (λ (l : List Item). Contains l i) (rests_net fl p w inputs past m good fit kept rests calm) c))
      pick i (inr c) = c

  -- an iteration whose credit waits
  pub record IsNext (c : Context) : Type 0 where
    pub caller : Context
    pub node : ℕ
    pub before : ℕ
    pub is : c ≡ Turned caller node (before + 1)
    pub held : Held fl p w inputs past m good fit kept caller node before

  -- TOKENS OF A NODE
  abbrev Placed : Item → Context → Part → Type 0
  Placed i c r = Waiting fl p w inputs past m good fit kept i × (i.context ≡ c) × (i.inlet.part ≡ r)

  pub data OperandAt (c : Context) (n : ℕ) (l : ℕ) (v : Value) : Type 0 where
    ByLeft : (i : Item) → Placed i c (Line n) → is_pair (block_in fl c) n ≡ true → i.inlet.port ≡ Left → l ≡ 0 → OperandAt c n l v
    ByRight : (i : Item) → Placed i c (Line n) → is_pair (block_in fl c) n ≡ true → i.inlet.port ≡ Right → l ≡ 1 → OperandAt c n l v
    ByEnter : (i : Item) → Placed i c (Gate n) → is_kind enter_kind (block_in fl c) n ≡ true → i.inlet.port ≡ Left → l ≡ 0 → OperandAt c n l v
    ByReader : (i : Item) → Placed i c (Parts.InCell n) → is_cell (block_in fl c) n ≡ true → is_store (block_in fl c) n ≡ false → i.held ≡ v ∷ [] → l ≡ 0
        → OperandAt c n l v
    ByArgument : (i : Item) → Placed i c (Sender n l) → is_strict (block_in fl c) n ≡ true → i.inlet ≡ inlet (Sender n l) Right 0 → OperandAt c n l v
    ByNext : IsNext c → l ≡ 0 → OperandAt c n l v

  at_context : (i : Item) (c : Context) (n j : ℕ) (x y : Meaning.Port) (v u : Value) → tagged c (AtNode n) x v ≡ tagged i.context (AtNode j) y u
      → (i.context ≡ c) × (j ≡ n)
  at_context i c n j x y v u e = (ap (λ (t : Tagged). t.context) (sym e), same_node j n (ap (λ (t : Tagged). t.statement) (sym e)))

  pub operand_at : (c : Context) (n l : ℕ) (v : Value) → Within (tagged c (AtNode n) (Operand l) v) kept.state.tokens → OperandAt c n l v
  operand_at c n l v h = let (i, d, s) = from_state (tagged c (AtNode n) (Operand l) v) h in go i d s
    where
      go : (i : Item) → Waits' i → Says' i (tagged c (AtNode n) (Operand l) v) → OperandAt c n l v
      go i d (AtLeft j u e two g q) = let (a, z) = at_context i c n j (Operand l) (Operand 0) v u q in
          ByLeft i (d, a, e ∙ ap Line z) ((λ k. is_pair (block_in fl (sym a k)) (sym z k)) ∙ two) g (same_operand l 0 (ap (λ (t : Tagged). t.port) q))
      go i d (AtRight j u e two g q) = let (a, z) = at_context i c n j (Operand l) (Operand 1) v u q in
          ByRight i (d, a, e ∙ ap Line z) ((λ k. is_pair (block_in fl (sym a k)) (sym z k)) ∙ two) g (same_operand l 1 (ap (λ (t : Tagged). t.port) q))
      go i d (GateLeft j u e two g q) = let (a, z) = at_context i c n j (Operand l) (Operand 0) v u q in
          ByEnter i (d, a, e ∙ ap Gate z) ((λ k. is_kind enter_kind (block_in fl (sym a k)) (sym z k)) ∙ two) g
          (same_operand l 0 (ap (λ (t : Tagged). t.port) q))
      go i d (GateRight j u e two g q) = let z : Operand l ≡ Predicate = ap (λ (t : Tagged). t.port) q in absurd (cc)
      go i d (Reading j u e cell store held q) = let (a, z) = at_context i c n j (Operand l) (Operand 0) v u q in
          ByReader i (d, a, e ∙ ap Parts.InCell z) ((λ k. is_cell (block_in fl (sym a k)) (sym z k)) ∙ cell)
          ((λ k. is_store (block_in fl (sym a k)) (sym z k)) ∙ store) (held ∙ ap (λ (t : Tagged). t.value ∷ []) (sym q))
          (same_operand l 0 (ap (λ (t : Tagged). t.port) q))
      go i d (Argument j k u e strict at q) =
          let (a, z) = at_context i c n j (Operand l) (Operand k) v u q in
          let y : k ≡ l = same_operand k l (ap (λ (t : Tagged). t.port) (sym q)) in
          ByArgument i (d, a, e ∙ (λ o. Sender (z o) (y o))) ((λ k. is_strict (block_in fl (sym a k)) (sym z k)) ∙ strict)
          (at ∙ (λ o. inlet (Sender (z o) (y o)) Right 0))
      go i d (TurnLeft j u e g q) = let z : AtNode n ≡ AtTurn j = ap (λ (t : Tagged). t.statement) q in absurd (cc)
      go i d (TurnRight j u e g q) = let z : AtNode n ≡ AtTurn j = ap (λ (t : Tagged). t.statement) q in absurd (cc)
      go i d (Going x k t j u a held q) =
          ByNext record { caller = x; node = k; before = t; is = ap (λ (t : Tagged). t.context) q; held = held }
          (same_operand l 0 (ap (λ (t : Tagged). t.port) q))

  -- two words of one part do not both wait
  meet : (c : Context) (r : Part) (i j : Item) → Placed i c r → Placed j c r → i.inlet.port ≡ Left → j.inlet.port ≡ Right → ⊥
  meet c r i j (d, a, e) (f, b, g) left right = apart fl p w inputs past m good fit kept i j d f (a ∙ sym b) (e ∙ sym g) left right

  here_at : (i : Item) (c : Context) → Waits' i → i.context ≡ c → IsContext fl c
  here_at i c d a = subst (IsContext fl) a (con_of i d)

  predicate_here : (c : Context) (n : ℕ) (v : Value) → Within (tagged c (AtNode n) Predicate v) kept.state.tokens
      → (i : Item) × Placed i c (Gate n) × (i.inlet.port ≡ Right)
  predicate_here c n v h = let (i, d, s) = from_state (tagged c (AtNode n) Predicate v) h in go i d s
    where
      go : (i : Item) → Waits' i → Says' i (tagged c (AtNode n) Predicate v) → (i : Item) × Placed i c (Gate n) × (i.inlet.port ≡ Right)
      go i d (AtLeft j u e two g q) = let z : Predicate ≡ Operand 0 = ap (λ (t : Tagged). t.port) q in absurd (cc)
      go i d (AtRight j u e two g q) = let z : Predicate ≡ Operand 1 = ap (λ (t : Tagged). t.port) q in absurd (cc)
      go i d (GateLeft j u e two g q) = let z : Predicate ≡ Operand 0 = ap (λ (t : Tagged). t.port) q in absurd (cc)
      go i d (GateRight j u e two g q) = let (a, z) = at_context i c n j Predicate Predicate v u q in (i, (d, a, e ∙ ap Gate z), g)
      go i d (Reading j u e cell store held q) = let z : Predicate ≡ Operand 0 = ap (λ (t : Tagged). t.port) q in absurd (cc)
      go i d (Argument j k u e strict at q) = let z : Predicate ≡ Operand k = ap (λ (t : Tagged). t.port) q in absurd (cc)
      go i d (TurnLeft j u e g q) = let z : AtNode n ≡ AtTurn j = ap (λ (t : Tagged). t.statement) q in absurd (cc)
      go i d (TurnRight j u e g q) = let z : AtNode n ≡ AtTurn j = ap (λ (t : Tagged). t.statement) q in absurd (cc)
      go i d (Going x k t j u a held q) = let z : Predicate ≡ Operand 0 = ap (λ (t : Tagged). t.port) q in absurd (cc)

  -- a value, or a flag, at a turn
  turn_here : (c : Context) (j : ℕ) (x : Meaning.Port) (v : Value) → Within (tagged c (AtTurn j) x v) kept.state.tokens
      → (i : Item) × Placed i c (TurnValue j) × (((x ≡ Carried) × (i.inlet.port ≡ Left)) ⊎ ((x ≡ Flag) × (i.inlet.port ≡ Right)))
  turn_here c j x v h = let (i, d, s) = from_state (tagged c (AtTurn j) x v) h in go i d s
    where
      at_turn : (n : ℕ) (y : Meaning.Port) (i : Item) (u : Value) → tagged c (AtTurn j) x v ≡ tagged i.context (AtNode n) y u → ⊥
      at_turn n y i u q = let z : AtTurn j ≡ AtNode n = ap (λ (t : Tagged). t.statement) q in absurd (cc)

      go : (i : Item) → Waits' i → Says' i (tagged c (AtTurn j) x v)
          → (i : Item) × Placed i c (TurnValue j) × (((x ≡ Carried) × (i.inlet.port ≡ Left)) ⊎ ((x ≡ Flag) × (i.inlet.port ≡ Right)))
      go i d (AtLeft n u e two g q) = absurd (at_turn n (Operand 0) i u q)
      go i d (AtRight n u e two g q) = absurd (at_turn n (Operand 1) i u q)
      go i d (GateLeft n u e two g q) = absurd (at_turn n (Operand 0) i u q)
      go i d (GateRight n u e two g q) = absurd (at_turn n Predicate i u q)
      go i d (Reading n u e cell store held q) = absurd (at_turn n (Operand 0) i u q)
      go i d (Argument n k u e strict at q) = absurd (at_turn n (Operand k) i u q)
      go i d (Going y k t n u a held q) = let z : AtTurn j ≡ AtNode n = ap (λ (t : Tagged). t.statement) q in absurd (cc)
      go i d (TurnLeft n u e g q) = (
        i,
        (d, ap (λ (t : Tagged). t.context) (sym q), e ∙ ap TurnValue (same_turn n j (ap (λ (t : Tagged). t.statement) (sym q)))),
        inl (ap (λ (t : Tagged). t.port) q, g),
      )
      go i d (TurnRight n u e g q) = (
        i,
        (d, ap (λ (t : Tagged). t.context) (sym q), e ∙ ap TurnValue (same_turn n j (ap (λ (t : Tagged). t.statement) (sym q)))),
        inr (ap (λ (t : Tagged). t.port) q, g),
      )

  -- no result waits
  pub no_out : (c : Context) (j : ℕ) (x : Meaning.Port) (v : Value) → Within (tagged c (AtOut j) x v) kept.state.tokens → ⊥
  no_out c j x v h = let (i, d, s) = from_state (tagged c (AtOut j) x v) h in go i s
    where
      go : (i : Item) → Says' i (tagged c (AtOut j) x v) → ⊥
      go i (AtLeft n u e two g q) = let z : AtOut j ≡ AtNode n = ap (λ (t : Tagged). t.statement) q in absurd (cc)
      go i (AtRight n u e two g q) = let z : AtOut j ≡ AtNode n = ap (λ (t : Tagged). t.statement) q in absurd (cc)
      go i (GateLeft n u e two g q) = let z : AtOut j ≡ AtNode n = ap (λ (t : Tagged). t.statement) q in absurd (cc)
      go i (GateRight n u e two g q) = let z : AtOut j ≡ AtNode n = ap (λ (t : Tagged). t.statement) q in absurd (cc)
      go i (Reading n u e cell store held q) = let z : AtOut j ≡ AtNode n = ap (λ (t : Tagged). t.statement) q in absurd (cc)
      go i (Argument n k u e strict at q) = let z : AtOut j ≡ AtNode n = ap (λ (t : Tagged). t.statement) q in absurd (cc)
      go i (TurnLeft n u e g q) = let z : AtOut j ≡ AtTurn n = ap (λ (t : Tagged). t.statement) q in absurd (cc)
      go i (Going y k t n u a held q) = let z : AtOut j ≡ AtNode n = ap (λ (t : Tagged). t.statement) q in absurd (cc)
      go i (TurnRight n u e g q) = let z : AtOut j ≡ AtTurn n = ap (λ (t : Tagged). t.statement) q in absurd (cc)

  -- a node of which an operand waits does not take it alone
  not_alone : (c : Context) (n l : ℕ) (v : Value) → OperandAt c n l v → mode_at fl c n ≡ Alone → IsNext c
  not_alone c n l v (ByNext h z) e = h
  not_alone c n l v (ByLeft i o two g z) e = let y = sym (pair_takes c (here_at i c o.0 o.1) n two) ∙ e in absurd (cc)
  not_alone c n l v (ByRight i o two g z) e = let y = sym (pair_takes c (here_at i c o.0 o.1) n two) ∙ e in absurd (cc)
  not_alone c n l v (ByEnter i o two g z) e = let y = sym (gate_takes c (here_at i c o.0 o.1) n two) ∙ e in absurd (cc)
  not_alone c n l v (ByReader i o cell store held z) e =
      let h = here_at i c o.0 o.1 in let y = sym (fetch_takes c h n (fetch_at c h n cell store)) ∙ e in absurd (cc)
  not_alone c n l v (ByArgument i o strict at) e = let y = sym (strict_takes c (here_at i c o.0 o.1) n strict) ∙ e in absurd (cc)

  -- OF THOSE that take all operands only fetches have them all
  pub record Reads (c : Context) (n : ℕ) (v : Value) (us : List Value) : Type 0 where
    pub item : Item
    pub waiting : Contains kept.tracks.net.waiting item
    pub context : item.context ≡ c
    pub part : item.inlet.part ≡ Parts.InCell n
    pub here : IsContext fl c
    pub fetch : FetchAt c here n
    pub held : item.held ≡ v ∷ []
    pub none : us ≡ []

  abbrev Argued : Context → ℕ → ℕ → Type 0
  Argued c n l = (i : Item) × Waits' i × (i.context ≡ c) × (i.inlet ≡ inlet (Sender n l) Right 0)

  strict_argued : (c : Context) (n : ℕ) → is_strict (block_in fl c) n ≡ true → Argued c n 0 → (l : ℕ) (v : Value) → OperandAt c n l v → Argued c n l
  strict_argued c n strict first l v (ByNext h z) = subst (Argued c n) (sym z) first
  strict_argued c n strict first l v (ByLeft i o two g z) = absurd (kind_apart (block_in fl c) n strict_kind pair_kind strict_pair strict two)
  strict_argued c n strict first l v (ByRight i o two g z) = absurd (kind_apart (block_in fl c) n strict_kind pair_kind strict_pair strict two)
  strict_argued c n strict first l v (ByEnter i o two g z) = absurd (kind_apart (block_in fl c) n strict_kind enter_kind strict_enter strict two)
  strict_argued c n strict first l v (ByReader i o cell store held z) = absurd (kind_apart (block_in fl c) n strict_kind cell_kind strict_cell strict cell)
  strict_argued c n strict first l v (ByArgument i o s at) = (i, o.0, o.1, at)

  pub has_all : (c : Context) (n : ℕ) (v : Value) (us : List Value) → Tokens.Held kept.state.tokens (operands_from c (AtNode n) 0 (v ∷ us))
      → mode_at fl c n ≡ Together (length (v ∷ us)) → Reads c n v us ⊎ IsNext c
  has_all c n v us h e = go (operand_at c n 0 v h.0)
    where
      pair_not : (i : Item) → Placed i c (Line n) → i.inlet.port ≡ Left → (us : List Value) → Tokens.Held kept.state.tokens (operands_from c (AtNode n) 1 us)
          → is_pair (block_in fl c) n ≡ true → Together 2 ≡ Together (length (v ∷ us)) → ⊥
      pair_not i o left [] h two g = let z = together_is 2 1 g in absurd (omega (arith, z))
      pair_not i o left (u ∷ us) h two g = second (operand_at c n 1 u h.0)
        where
          second : OperandAt c n 1 u → ⊥
          second (ByLeft j q t x z) = omega (arith, z)
          second (ByRight j q t x z) = meet c (Line n) i j o q left x
          second (ByEnter j q t x z) = omega (arith, z)
          second (ByReader j q cell store held z) = omega (arith, z)
          second (ByArgument j q s at) = kind_apart (block_in fl c) n strict_kind pair_kind strict_pair s two
          second (ByNext g z) = omega (arith, z)

      alone : (us : List Value) → Together 1 ≡ Together (length (v ∷ us)) → us ≡ []
      alone [] g = refl
      alone (u ∷ us) g = let z = together_is 1 (length (v ∷ u ∷ us)) g in absurd (omega (arith, z))

      go : OperandAt c n 0 v → Reads c n v us ⊎ IsNext c
      go (ByNext g z) = inr g
      go (ByRight i o two g z) = absurd (omega (arith, z))
      go (ByLeft i o two g z) = absurd (pair_not i o g us h.1 two (sym (pair_takes c (here_at i c o.0 o.1) n two) ∙ e))
      go (ByEnter i o two g z) = let y = sym (gate_takes c (here_at i c o.0 o.1) n two) ∙ e in absurd (cc)
      go (ByReader i o cell store held z) =
          let here = here_at i c o.0 o.1 in let f = fetch_at c here n cell store in
          inl
          record {
            item = i;
            waiting = o.0;
            context = o.1;
            part = o.2;
            here = here;
            fetch = f;
            held = held;
            none = alone us (sym (fetch_takes c here n f) ∙ e);
          }
      go (ByArgument i o strict at) =
          let here = here_at i c o.0 o.1 in
          let count = together_is (source_count (block_in fl c) n) (length (v ∷ us)) (sym (strict_takes c here n strict) ∙ e) in
          absurd (not_complete fl p w inputs past m good fit kept rests calm starts c here n strict
          (λ l low. let (u, k) = held_each kept.state.tokens c (AtNode n) 0 (v ∷ us) h l l (omega (arith, low, count)) (omega arith) in
          strict_argued c n strict (i, o.0, o.1, at) l u (operand_at c n l u k)) (omega (arith, count)))

  -- NO ACTIVITY is enabled, but in such iterations
  some_none : (o : Option Effect) (E : Effect) → o ≡ Some E → o ≡ None → ⊥
  some_none o E e f = let z : Some E ≡ None = sym e ∙ f in absurd (cc)

  reads_nothing : (c : Context) (n : ℕ) (v : Value) (us : List Value) → Reads c n v us → effect fl kept.state.memory (Fires c n (v ∷ us)) ≡ None
  reads_nothing c n v us r =
      let (x, cell) = kept.tracks.stands.good r.item n (Contains-append_right kept.tracks.net.pending kept.tracks.net.waiting r.item r.waiting) r.part in
      let here : cell_of fl c n (v ∷ []) ≡ Some x = (λ t. cell_of fl (sym r.context t) n (sym r.held t)) ∙ cell in
      ap (λ (us : List Value). effect fl kept.state.memory (Fires c n (v ∷ us))) r.none
      ∙ ap (done_if fl kept.state.memory) (fetch_deed c r.here n v r.fetch)
      ∙ fetch_none fl kept.state.memory c n (first_cell fl (array_at fl c n)) x (index_of fl c n (v ∷ [])) here
      (reader_empty fl p w inputs past m good fit kept r.item n x r.waiting r.part cell)

  fires_not : (c : Context) (n : ℕ) (vs : List Value) → Tokens.Held kept.state.tokens (taken (Fires c n vs)) → (E : Effect)
      → effect fl kept.state.memory (Fires c n vs) ≡ Some E → 0 < length (taken (Fires c n vs)) → mode_at fl c n ≡ Together (length vs) → IsNext c
  fires_not c n [] h E e some mode = absurd (omega (arith, some))
  fires_not c n (v ∷ us) h E e some mode = pick (has_all c n v us h mode)
    where
      pick : Reads c n v us ⊎ IsNext c → IsNext c
      pick (inl r) = absurd (some_none (effect fl kept.state.memory (Fires c n (v ∷ us))) E e (reads_nothing c n v us r))
      pick (inr g) = g

  gates_not : (c : Context) (n : ℕ) (v u : Value) → OperandAt c n 0 v → Within (tagged c (AtNode n) Predicate u) kept.state.tokens → mode_at fl c n ≡ ByGate
      → IsNext c
  gates_not c n v u (ByNext h z) k e = h
  gates_not c n v u (ByLeft i o two g z) k e = let y = sym (pair_takes c (here_at i c o.0 o.1) n two) ∙ e in absurd (cc)
  gates_not c n v u (ByRight i o two g z) k e = let y = sym (pair_takes c (here_at i c o.0 o.1) n two) ∙ e in absurd (cc)
  gates_not c n v u (ByReader i o cell store held z) k e =
      let h = here_at i c o.0 o.1 in let y = sym (fetch_takes c h n (fetch_at c h n cell store)) ∙ e in absurd (cc)
  gates_not c n v u (ByArgument i o strict at) k e = let y = sym (strict_takes c (here_at i c o.0 o.1) n strict) ∙ e in absurd (cc)
  gates_not c n v u (ByEnter i o two g z) k e = let (j, q, right) = predicate_here c n u k in absurd (meet c (Gate n) i j o q g right)

  turns_not : (c : Context) (j : ℕ) (u v : Value) → Within (tagged c (AtTurn j) Flag u) kept.state.tokens
      → Within (tagged c (AtTurn j) Carried v) kept.state.tokens → ⊥
  turns_not c j u v h k = go (turn_here c j Flag u h) (turn_here c j Carried v k)
    where
      go : (i : Item) × Placed i c (TurnValue j) × (((Flag ≡ Carried) × (i.inlet.port ≡ Left)) ⊎ ((Flag ≡ Flag) × (i.inlet.port ≡ Right)))
          → (i : Item) × Placed i c (TurnValue j) × (((Carried ≡ Carried) × (i.inlet.port ≡ Left)) ⊎ ((Carried ≡ Flag) × (i.inlet.port ≡ Right))) → ⊥
      go (i, o, inl (e, g)) r = absurd (cc)
      go l (i, o, inr (e, g)) = absurd (cc)
      go (i, o, inr (e, g)) (k, q, inl (f, z)) = meet c (TurnValue j) k i q o z g

  none_enabled : (a : Activity) → Tokens.Held kept.state.tokens (taken a) → (E : Effect) → effect fl kept.state.memory a ≡ Some E → IsNext (node_place a)
  none_enabled (Fires c n vs) h E e =
      let d = deed_of fl kept.state.memory (Fires c n vs) E e in
      fires_not c n vs h E e (takes_some fl good.well (Fires c n vs) d.0 d.1) (fires_mode fl c n vs d.0 d.1)
  none_enabled (Gates c n v u) h E e =
      let d = deed_of fl kept.state.memory (Gates c n v u) E e in gates_not c n v u (operand_at c n 0 v h.0) h.1.0 (gates_mode fl c n v u d.0 d.1)
  none_enabled (Passes c n i v) h E e =
      let d = deed_of fl kept.state.memory (Passes c n i v) E e in not_alone c n i v (operand_at c n i v h.0) (passes_mode fl c n i v d.0 d.1)
  none_enabled (Returns c n j v) h E e = absurd (no_out (Meaning.Called c n) j (Operand 0) v h.0)
  none_enabled (Turns c n i j u v) h E e = absurd (turns_not (Meaning.Turned c n i) j u v h.0 h.1.0)
  none_enabled (Outputs j v) h E e = absurd (no_out Meaning.Main j (Operand 0) v h.0)

  pub next_alone : (a : Activity) (t : State) → Step fl a kept.state t → IsNext (node_place a)
  next_alone a t step = none_enabled a (held_from kept.state.tokens (taken a) step.rest step.takes) step.does step.allowed

  -- where no credit waits there is none
  pub at_rest : (Wants m → ⊥) → AtRest fl kept.state
  at_rest wants a t step = let g = next_alone a t step in wants (held_wants fl p w inputs past m good fit kept g.caller g.node g.before g.held)
