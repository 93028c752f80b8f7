-- Some tokens lead to others by activities, whatever else there is.
use Rattle.std.proofs.Common.{◌≡◌, ℕ, ◌-◌, Bool, true, false, List, [], ◌∷◌, ◌++◌, length, Option, Some, None, nat_lt, ◌==◌, if◌then◌else◌, refl, ap, ◌∙◌}
use Rattle.std.proofs.Common.{subst, eq-eqb}
use Rattle.std.specs.Prelude.{IsPermutation, slice_get, All, ⊤}
use Rattle.std.proofs.lemmas.List.Elements.{All-append, All-nil, All-cons}
use Rattle.std.proofs.lemmas.List.Sorted.{IsPermutation-refl, IsPermutation-sym, IsPermutation-append_left}
use Rattle.tags.specs.declared.value.Value.{Value}
use Rattle.semantics.specs.Graph.{Node, Block, Flow, node_at}
use Rattle.semantics.specs.Meaning.{Context, Activity, Fires, Gates, Passes, Tagged, Memory, Deed, Says, Message, Sends, State, Run, taken, effect, deed}
use Rattle.semantics.specs.Meaning.{done_if, fired, fired_in, input_passed, gated, passed, on_block, on_node, block_of, tokens_of}
use Rattle.law_confluence.proofs.Orders.{shuffled, Part, ◌⊕◌}
use Rattle.law_confluence.proofs.NetMeans.{state_of, run_join}
use Rattle.law_net.specs.ContextsParts as Parts
use Rattle.law_net.specs.ContextsParts.{Line}
use Rattle.law_net.specs.Contexts.{block_in}

-- a line of the block is past the inputs
pub line_past : (b : Block ℕ) (n : ℕ) (node : Node ℕ) → node_at b n ≡ Some node → nat_lt n b.inputs ≡ false
line_past b n node e = go (nat_lt n b.inputs) e
  where
    go : (t : Bool) → (if t then None else slice_get b.nodes (n - b.inputs)) ≡ Some node → t ≡ false
    go true e = cc
    go false e = refl

-- AN INPUT passes where its own line fires: no other firing has that activity.
abbrev pub Passing : Flow → Context → Parts.Part → Activity → Type 0
Passing fl at by (Fires c n vs) = nat_lt n (block_in fl c).inputs ≡ true → (c ≡ at) × (by ≡ Line n)
Passing fl at by a = ⊤

-- By the activities of a firing, of a part in a context.
module _ (fl : Flow) (at : Context) (by : Parts.Part) where
  abbrev LeadsBy : State → State → Type 0
  LeadsBy old new = (run : List Activity) × Run fl old run new × All (Passing fl at by) run

  abbrev pub Acts : List Tagged → Memory → List Tagged → Memory → Type 0
  Acts old m new after = (rest : List Tagged) → LeadsBy (state_of (old ++ rest) m) (state_of (new ++ rest) after)

  leads_then : (old mid new : State) → LeadsBy old mid → LeadsBy mid new → LeadsBy old new
  leads_then old mid new a c = (a.0 ++ c.0, run_join fl a.0 c.0 old mid new a.1 c.1, All-append (Passing fl at by) a.0 c.0 a.2 c.2)

  moved : (xs ys : List Tagged) (m : Memory) → IsPermutation xs ys → LeadsBy (state_of xs m) (state_of ys m)
  moved xs ys m p = ([], (p, refl), All-nil (Passing fl at by))

  -- the tokens stay, in any order
  pub stays : (old new : List Tagged) (m : Memory) → IsPermutation old new → Acts old m new m
  stays old new m p rest = moved (old ++ rest) (new ++ rest) m (IsPermutation-append_left rest old new p)

  pub same : (old new : List Tagged) (m : Memory) → old ≡ new → Acts old m new m
  same old new m e = stays old new m (subst (λ (l : List Tagged). IsPermutation old l) e (IsPermutation-refl old))

  -- one activity
  pub acts : (a : Activity) → Passing fl at by a → (old new added : List Tagged) (m after : Memory) → IsPermutation old (taken a)
      → effect fl m a ≡ Some record { added = added; memory = after } → IsPermutation added new → Acts old m new after
  acts a passing old new added m after t e p rest = (
    a ∷ [],
    (
      state_of (new ++ rest) after,
      record {
        does = record { added = added; memory = after };
        rest = rest;
        allowed = e;
        takes = IsPermutation-append_left rest old (taken a) t;
        leaves = IsPermutation-append_left rest new added (IsPermutation-sym _ _ p);
        memory = refl;
      },
      (IsPermutation-refl _, refl),
    ),
    All-cons (Passing fl at by) a [] passing (All-nil (Passing fl at by)),
  )

  pub follow : (old mid new : List Tagged) (m after last : Memory) → Acts old m mid after → Acts mid after new last → Acts old m new last
  follow old mid new m after last a c rest = leads_then _ _ _ (a rest) (c rest)

  -- two beside each other
  pub beside : (old new more later : List Tagged) (m : Memory) → Acts old m new m → Acts more m later m → Acts (old ++ more) m (new ++ later) m
  beside old new more later m a c rest =
      let first = moved ((old ++ more) ++ rest) (old ++ (more ++ rest)) m
      (shuffled (old ∷ more ∷ rest ∷ []) ((Part 0 ⊕ Part 1) ⊕ Part 2) (Part 0 ⊕ (Part 1 ⊕ Part 2)) refl) in
      let mid = moved (new ++ (more ++ rest)) (more ++ (new ++ rest)) m
      (shuffled (new ∷ more ∷ rest ∷ []) (Part 0 ⊕ (Part 1 ⊕ Part 2)) (Part 1 ⊕ (Part 0 ⊕ Part 2)) refl) in
      let last = moved (later ++ (new ++ rest)) ((new ++ later) ++ rest) m
      (shuffled (new ∷ later ∷ rest ∷ []) (Part 1 ⊕ (Part 0 ⊕ Part 2)) ((Part 0 ⊕ Part 1) ⊕ Part 2) refl) in
      leads_then _ _ _ first (leads_then _ _ _ (a (more ++ rest)) (leads_then _ _ _ mid (leads_then _ _ _ (c (new ++ rest)) last)))

  -- WHAT ACTIVITIES DO
  pub says_acts : (a : Activity) → Passing fl at by a → (msg : Message) (m : Memory) → deed fl a ≡ Some (Says msg) → Acts (taken a) m (tokens_of fl msg) m
  says_acts a passing msg m e = acts a passing (taken a) (tokens_of fl msg) (tokens_of fl msg) m m (IsPermutation-refl _) (ap (done_if fl m) e) (IsPermutation-refl _)

module _ (fl : Flow) where
  -- a node with all its operands
  pub fires_deed : (c : Context) (n : ℕ) (vs : List Value) (b : Block ℕ) (node : Node ℕ) → block_of fl c ≡ Some b → node_at b n ≡ Some node
      → length vs ≡ length node.sources
      → deed fl (Fires c n vs) ≡ fired fl c n node.kind vs
  fires_deed c n vs b node e f len =
      let K : Node ℕ → Option Deed = λ (node : Node ℕ). if length vs == length node.sources then fired fl c n node.kind vs else None in
      let e0 : deed fl (Fires c n vs) ≡ fired_in fl c n vs b = ap (λ o. on_block o (fired_in fl c n vs)) e in
      let e1 : fired_in fl c n vs b ≡ on_node (node_at b n) K =
      ap (λ (t : Bool). if t then input_passed c n vs else on_node (node_at b n) K) (line_past b n node f) in
      let e2 : on_node (node_at b n) K ≡ K node = ap (λ o. on_node o K) f in
      let e3 : K node ≡ fired fl c n node.kind vs =
      ap (λ (t : Bool). if t then fired fl c n node.kind vs else None) (eq-eqb (length vs) (length node.sources) len) in
      e0 ∙ e1 ∙ e2 ∙ e3

  -- an input
  pub input_deed : (c : Context) (n : ℕ) (v : Value) (b : Block ℕ) → block_of fl c ≡ Some b → nat_lt n b.inputs ≡ true
      → deed fl (Fires c n (v ∷ [])) ≡ Some (Says (Sends c n 0 v))
  input_deed c n v b e f =
      let e0 : deed fl (Fires c n (v ∷ [])) ≡ fired_in fl c n (v ∷ []) b = ap (λ o. on_block o (fired_in fl c n (v ∷ []))) e in
      let K : Node ℕ → Option Deed = λ (node : Node ℕ). if length (v ∷ []) == length node.sources then fired fl c n node.kind (v ∷ []) else None in
      let e1 : fired_in fl c n (v ∷ []) b ≡ Some (Says (Sends c n 0 v)) =
      ap (λ (t : Bool). if t then input_passed c n (v ∷ []) else on_node (node_at b n) K) f in
      e0 ∙ e1

  -- a gate, and a token that passes
  pub gates_deed : (c : Context) (n : ℕ) (v u : Value) (b : Block ℕ) (node : Node ℕ) → block_of fl c ≡ Some b → node_at b n ≡ Some node
      → deed fl (Gates c n v u) ≡ gated c n v u node.region node.kind
  gates_deed c n v u b node e f =
      ap (λ o. on_block o (λ (k : Block ℕ). on_node (node_at k n) (λ (node : Node ℕ). gated c n v u node.region node.kind))) e
      ∙ ap (λ o. on_node o (λ (node : Node ℕ). gated c n v u node.region node.kind)) f

  pub passes_deed : (c : Context) (n i : ℕ) (v : Value) (b : Block ℕ) (node : Node ℕ) → block_of fl c ≡ Some b → node_at b n ≡ Some node
      → deed fl (Passes c n i v) ≡ passed c n i v node.kind
  passes_deed c n i v b node e f =
      ap (λ o. on_block o (λ (k : Block ℕ). on_node (node_at k n) (λ (node : Node ℕ). passed c n i v node.kind))) e
      ∙ ap (λ o. on_node o (λ (node : Node ℕ). passed c n i v node.kind)) f
