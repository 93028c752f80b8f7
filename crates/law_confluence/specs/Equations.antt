-- What each kind of node computes, as equations between the values on the ports of a run that came to rest.
use Rattle.std.specs.Prelude.{◌≡◌, ℕ, zero, suc, ◌+◌, ◌<◌, ◌≤◌, Bool, true, false, ℤ, List, [], ◌∷◌, Option, Some, None, nat_lt, slice_get, if◌then◌else◌}
use Rattle.std.specs.Prelude.{Contains}
use Rattle.tags.specs.declared.value.Value.{Value}
use Rattle.tags.specs.declared.value.Value.TheVariants.{Int}
use Rattle.operators.specs.Values.{truth, apply1, apply2, Indexed, Place, Outside, index_in}
use Rattle.semantics.specs.declared.graph.Source.{Source}
use Rattle.semantics.specs.declared.graph.Kind.{Kind}
use Rattle.semantics.specs.declared.graph.Kind.TheVariants.{Lit, Apply1, Apply2, Enter, Merge, Fetch, Store, Call, StrictCall, Loop}
use Rattle.semantics.specs.Graph.{Node, Block, Flow, node_at, first_cell, array_len}
use Rattle.semantics.specs.Meaning.{Context, Main, Called, Turned, State, Activity, Run, Stood, Due, ArmsTaken, arms_at, start, block_of, origin_at}
use Rattle.law_confluence.specs.EquationsHave.{Gives, stores_of, source_at, result_at}

module _ (fl : Flow) (inputs : List ℤ) (run : List Activity) (s : State) (r : Run fl (start inputs) run s) where
  -- the run calls for this invocation
  abbrev pub IsDue : Context → Type 0
  IsDue c = Due fl run (Stood fl (start inputs) run s r) c

  -- each conditional round the node has had a token of the truth of the node's arm
  abbrev pub TakenAt : Context → ℕ → Type 0
  TakenAt c n = ArmsTaken (Stood fl (start inputs) run s r) c (arms_at (block_of fl c) n)

  -- VALUES of a source in c, of source i of a node, of result j of an invocation
  abbrev pub Has : Context → Source → Value → Type 0
  Has c x v = Gives fl run s.memory c x.node x.port v

  abbrev pub HasSome : Context → Option Source → Value → Type 0
  HasSome c None v = ⊥
  HasSome c (Some x) v = Has c x v

  abbrev pub Argument : Context → ℕ → ℕ → Value → Type 0
  Argument c n i v = HasSome c (source_at fl c n i) v

  abbrev pub Result : Context → ℕ → Value → Type 0
  Result c j v = HasSome c (result_at fl c j) v

  -- the flag of a turn, which is its result 0, has this truth
  abbrev pub Flagged : Context → Bool → Type 0
  Flagged c on = (q : Value) × Result c 0 q × (truth q ≡ on)

  -- The loop has these turns: after `turns` of them the flag is false, and port p is then result p + 1 of the last.
  pub record Loops (c : Context) (n p : ℕ) (v : Value) : Type 0 where
    pub turns : ℕ
    pub on : (i : ℕ) → i < turns → Flagged (Turned c n i) true
    pub off : Flagged (Turned c n turns) false
    pub result : Result (Turned c n turns) (p + 1) v
    pub due : (i : ℕ) → i ≤ turns → IsDue (Turned c n i)
    pub last : (i : ℕ) → IsDue (Turned c n i) → i ≤ turns

  abbrev pub Fetched : ℕ → Indexed → Value → Type 0
  Fetched base (Outside w) v = v ≡ w
  Fetched base (Place i) v = s.memory.cells (base + i) ≡ Some v

  abbrev pub Storing : Context → ℕ → ℕ → Value → Indexed → Value → Type 0
  Storing c n base y (Outside w) v = v ≡ w
  Storing c n base y (Place i) v =
      (v ≡ y) × (s.memory.cells (base + i) ≡ Some y) × Contains (stores_of fl run) (record { context = c; node = n; cell = base + i; value = y })

  -- THE EQUATIONS. Value v of port p of node n in c, where n is a node line of this kind with these sources:
  abbrev pub LineEquation : Context → ℕ → ℕ → Value → Kind ℕ → List Source → Type 0
  LineEquation c n p v (Lit z) (x ∷ []) = v ≡ Int z
  LineEquation c n p v (Apply1 op) (x ∷ []) = (a : Value) × Has c x a × (v ≡ apply1 op a)
  LineEquation c n p v (Apply2 op) (x ∷ y ∷ []) = (a b : Value) × Has c x a × Has c y b × (v ≡ apply2 op a b (origin_at fl c n))
  LineEquation c n p v Enter (x ∷ []) = Has c x v
  LineEquation c n p v (Merge k) (x ∷ y ∷ []) = (q : Value) × Argument c k 0 q × Has c (if truth q then x else y) v
  LineEquation c n p v (Fetch a) (x ∷ []) = (i : Value) × Has c x i × Fetched (first_cell fl a) (index_in (array_len fl a) i (origin_at fl c n)) v
  LineEquation c n p v (Store a) (x ∷ y ∷ []) =
      (i w : Value) × Has c x i × Has c y w × Storing c n (first_cell fl a) w (index_in (array_len fl a) i (origin_at fl c n)) v
  LineEquation c n p v (Call f) ss = IsDue (Called c n) × Result (Called c n) p v
  LineEquation c n p v (StrictCall f) ss = IsDue (Called c n) × Result (Called c n) p v
  LineEquation c n p v (Loop f k) ss = Loops c n p v
  LineEquation c n p v kind ss = ⊥

  -- value v of input i of an invocation
  abbrev pub InputEquation : Context → ℕ → Value → Type 0
  InputEquation Main i v = (z : ℤ) × (slice_get inputs i ≡ Some z) × (v ≡ Int z)
  InputEquation (Called c n) i v = Argument c n i v
  InputEquation (Turned c n zero) i v = Argument c n i v
  InputEquation (Turned c n (suc j)) i v = Result (Turned c n j) (i + 1) v

  abbrev pub NodeEquation : Context → ℕ → ℕ → Value → Bool → Option (Node ℕ) → Type 0
  NodeEquation c n p v true line = (p ≡ 0) × InputEquation c n v
  NodeEquation c n p v false None = ⊥
  NodeEquation c n p v false (Some line) = LineEquation c n p v line.kind line.sources

  abbrev pub BlockEquation : Context → ℕ → ℕ → Value → Option (Block ℕ) → Type 0
  BlockEquation c n p v None = ⊥
  BlockEquation c n p v (Some b) = NodeEquation c n p v (nat_lt n b.inputs) (node_at b n)

  abbrev pub Equation : Context → ℕ → ℕ → Value → Type 0
  Equation c n p v = BlockEquation c n p v (block_of fl c)
