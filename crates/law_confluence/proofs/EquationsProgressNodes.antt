-- From tokens to values: a node all of whose operands were present has fired, and its ports have been given values.
use Rattle.std.proofs.Common.{◌≡◌, ℕ, zero, suc, ◌-◌, ◌<◌, Bool, true, false, List, [], ◌∷◌, length, Option, Some, None, nat_lt, ◌==◌, if◌then◌else◌, refl, sym}
use Rattle.std.proofs.Common.{ap, ◌∙◌, subst, arith, ⊎_elim, eq-eqb, lt-ltb}
use Rattle.std.specs.Prelude.{⊤, slice_get}
use Rattle.tags.specs.declared.value.Value.{Value}
use Rattle.operators.specs.Values.{Indexed, Place, Outside, index_in}
use Rattle.semantics.specs.declared.graph.Region.{Region}
use Rattle.semantics.specs.declared.graph.Source.{Source}
use Rattle.semantics.specs.declared.graph.Kind.{Kind}
use Rattle.semantics.specs.declared.graph.Kind.TheVariants.{Lit, Apply1, Apply2, Cond, Enter, Merge, Fetch, Store, Call, StrictCall, Loop}
use Rattle.semantics.specs.Graph.{Node, Block, Flow, node_at, first_cell, array_len}
use Rattle.semantics.specs.Meaning.{Context, AtNode, Operand, tagged, Memory, Activity, Fires, Gates, Passes, Outputs, taken, Deed, Says, Puts, Message, Sends}
use Rattle.semantics.specs.Meaning.{deed, fired, fired_in, fetched, stored, input_passed, gated, passed, on_node, on_block, block_of, origin_at}
use Rattle.lemmas.proofs.Permutations.{Within, Each, within_to}
use Rattle.law_confluence.proofs.ActivityShapes.{showing}
use Rattle.law_confluence.specs.EquationsHave.{SaysIn}
use Rattle.law_confluence.proofs.EquationsGraphForms.{HasForm}
use Rattle.law_confluence.proofs.EquationsRunRested.{Rested, Came, GivesIn, tells}
use Rattle.law_confluence.proofs.EquationsRunUses.{operands_each, operand_came}

-- a port has a value
abbrev pub Given : Rested → Context → ℕ → ℕ → Type 0
Given z c n p = (v : Value) × GivesIn z c n p v

-- WHAT AN ACTIVITY AT A NODE LINE DOES

line_fires : (fl : Flow) (c : Context) (n : ℕ) (vs : List Value) (b : Block ℕ) (line : Node ℕ) → node_at b n ≡ Some line → length line.sources ≡ length vs
    → fired_in fl c n vs b ≡ fired fl c n line.kind vs
line_fires fl c n vs b line e long = go (nat_lt n b.inputs) (slice_get b.nodes (n - b.inputs)) e
  where
    go : (t : Bool) (x : Option (Node ℕ)) → (if t then None else x) ≡ Some line
        → (if t then input_passed c n vs else on_node (if t then None else x)
        (λ (node : Node ℕ). if length vs == length node.sources then fired fl c n node.kind vs else None)) ≡ fired fl c n line.kind vs
    go true x g = cc
    go false x g =
        ap (λ y. on_node y (λ (node : Node ℕ). if length vs == length node.sources then fired fl c n node.kind vs else None)) g
        ∙ ap (λ (t : Bool). if t then fired fl c n line.kind vs else None) (eq-eqb (length vs) (length line.sources) (sym long))

module _ (fl : Flow) (c : Context) (b : Block ℕ) (eb : block_of fl c ≡ Some b) where
  pub fires_line : (n : ℕ) (line : Node ℕ) (vs : List Value) → node_at b n ≡ Some line → length line.sources ≡ length vs
      → deed fl (Fires c n vs) ≡ fired fl c n line.kind vs
  fires_line n line vs el long = ap (λ o. on_block o (fired_in fl c n vs)) eb ∙ line_fires fl c n vs b line el long

  pub gates_line : (n : ℕ) (line : Node ℕ) (v q : Value) → node_at b n ≡ Some line → deed fl (Gates c n v q) ≡ gated c n v q line.region line.kind
  gates_line n line v q el =
      ap (λ o. on_block o (λ (k : Block ℕ). on_node (node_at k n) (λ (node : Node ℕ). gated c n v q node.region node.kind))) eb
      ∙ ap (λ o. on_node o (λ (node : Node ℕ). gated c n v q node.region node.kind)) el

  pub passes_line : (n : ℕ) (line : Node ℕ) (i : ℕ) (v : Value) → node_at b n ≡ Some line → deed fl (Passes c n i v) ≡ passed c n i v line.kind
  passes_line n line i v el =
      ap (λ o. on_block o (λ (k : Block ℕ). on_node (node_at k n) (λ (node : Node ℕ). passed c n i v node.kind))) eb
      ∙ ap (λ o. on_node o (λ (node : Node ℕ). passed c n i v node.kind)) el

  pub fires_input : (n : ℕ) (v : Value) → n < b.inputs → deed fl (Fires c n (v ∷ [])) ≡ Some (Says (Sends c n 0 v))
  fires_input n v low =
      ap (λ o. on_block o (fired_in fl c n (v ∷ []))) eb
      ∙ ap (λ (t : Bool). if t then input_passed c n (v ∷ [])
      else on_node (node_at b n) (λ (node : Node ℕ). if 1 == length node.sources then fired fl c n node.kind (v ∷ []) else None)) (lt-ltb n b.inputs low)

-- kinds that take all their operands at once
abbrev pub IsTogether : Kind ℕ → Type 0
IsTogether Enter = ⊥
IsTogether (Merge k) = ⊥
IsTogether (Call f) = ⊥
IsTogether (Loop f k) = ⊥
IsTogether kind = ⊤

pub fired_some : (fl : Flow) (b : Block ℕ) (c : Context) (n : ℕ) (r : Region) (kind : Kind ℕ) (ss : List Source) (vs : List Value) → IsTogether kind
    → HasForm fl b r kind ss → length ss ≡ length vs → (d : Deed) × (fired fl c n kind vs ≡ Some d)
fired_some fl b c n r (Lit z) ss [] t h e = let k = h.0 in absurd (omega (arith, k, e))
fired_some fl b c n r (Lit z) ss (v ∷ []) t h e = (_, refl)
fired_some fl b c n r (Lit z) ss (v ∷ w ∷ vs) t h e = let k = h.0 in absurd (omega (arith, k, e))
fired_some fl b c n r (Apply1 op) ss [] t h e = let k = h.0 in absurd (omega (arith, k, e))
fired_some fl b c n r (Apply1 op) ss (v ∷ []) t h e = (_, refl)
fired_some fl b c n r (Apply1 op) ss (v ∷ w ∷ vs) t h e = let k = h.0 in absurd (omega (arith, k, e))
fired_some fl b c n r (Apply2 op) ss [] t h e = let k = h.0 in absurd (omega (arith, k, e))
fired_some fl b c n r (Apply2 op) ss (v ∷ []) t h e = let k = h.0 in absurd (omega (arith, k, e))
fired_some fl b c n r (Apply2 op) ss (v ∷ w ∷ []) t h e = (_, refl)
fired_some fl b c n r (Apply2 op) ss (v ∷ w ∷ x ∷ vs) t h e = let k = h.0 in absurd (omega (arith, k, e))
fired_some fl b c n r Cond ss [] t h e = let k = h.0 in absurd (omega (arith, k, e))
fired_some fl b c n r Cond ss (v ∷ []) t h e = (_, refl)
fired_some fl b c n r Cond ss (v ∷ w ∷ vs) t h e = let k = h.0 in absurd (omega (arith, k, e))
fired_some fl b c n r (Fetch a) ss [] t h e = let k = h.0 in absurd (omega (arith, k, e))
fired_some fl b c n r (Fetch a) ss (v ∷ []) t h e = (_, refl)
fired_some fl b c n r (Fetch a) ss (v ∷ w ∷ vs) t h e = let k = h.0 in absurd (omega (arith, k, e))
fired_some fl b c n r (Store a) ss [] t h e = let k = h.0 in absurd (omega (arith, k, e))
fired_some fl b c n r (Store a) ss (v ∷ []) t h e = let k = h.0 in absurd (omega (arith, k, e))
fired_some fl b c n r (Store a) ss (v ∷ w ∷ []) t h e = (_, refl)
fired_some fl b c n r (Store a) ss (v ∷ w ∷ x ∷ vs) t h e = let k = h.0 in absurd (omega (arith, k, e))
fired_some fl b c n r (StrictCall f) ss vs t h e = (_, refl)
fired_some fl b c n r Enter ss vs t h e = absurd t
fired_some fl b c n r (Merge k) ss vs t h e = absurd t
fired_some fl b c n r (Call f) ss vs t h e = absurd t
fired_some fl b c n r (Loop f k) ss vs t h e = absurd t

-- kinds that send one value on port 0 when they fire
abbrev pub IsPlain : Kind ℕ → Type 0
IsPlain (Lit z) = ⊤
IsPlain (Apply1 op) = ⊤
IsPlain (Apply2 op) = ⊤
IsPlain (Fetch a) = ⊤
IsPlain (Store a) = ⊤
IsPlain kind = ⊥

pub plain_together : (kind : Kind ℕ) → IsPlain kind → IsTogether kind
plain_together (Lit z) h = tt
plain_together (Apply1 op) h = tt
plain_together (Apply2 op) h = tt
plain_together (Fetch a) h = tt
plain_together (Store a) h = tt
plain_together kind h = absurd h

abbrev IsSent : Context → ℕ → Message → Type 0
IsSent c n y = (v : Value) × (y ≡ Sends c n 0 v)

module _ (m : Memory) (c : Context) (n : ℕ) (y : Message) where
  fetched_sent : (base : ℕ) (i : Indexed) → SaysIn m (fetched c n base i) y → IsSent c n y
  fetched_sent base (Outside v) h = (v, sym h)
  fetched_sent base (Place i) h = (h.0, sym h.2)

  stored_sent : (base : ℕ) (w : Value) (i : Indexed) → SaysIn m (stored c n base w i) y → IsSent c n y
  stored_sent base w (Outside v) h = (v, sym h)
  stored_sent base w (Place i) h = (w, sym h)

  says_of : (d e : Deed) → Some d ≡ Some e → SaysIn m e y → SaysIn m d y
  says_of d e f h = let same : e ≡ d = cc in subst (λ d. SaysIn m d y) same h

  pub plain_sent : (fl : Flow) (kind : Kind ℕ) (vs : List Value) (d : Deed) → IsPlain kind → fired fl c n kind vs ≡ Some d → SaysIn m d y → IsSent c n y
  plain_sent fl (Lit z) [] d p e h = cc
  plain_sent fl (Lit z) (v ∷ []) d p e h = (_, sym (says_of _ d e h))
  plain_sent fl (Lit z) (v ∷ w ∷ vs) d p e h = cc
  plain_sent fl (Apply1 op) [] d p e h = cc
  plain_sent fl (Apply1 op) (v ∷ []) d p e h = (_, sym (says_of _ d e h))
  plain_sent fl (Apply1 op) (v ∷ w ∷ vs) d p e h = cc
  plain_sent fl (Apply2 op) [] d p e h = cc
  plain_sent fl (Apply2 op) (v ∷ []) d p e h = cc
  plain_sent fl (Apply2 op) (v ∷ w ∷ []) d p e h = (_, sym (says_of _ d e h))
  plain_sent fl (Apply2 op) (v ∷ w ∷ x ∷ vs) d p e h = cc
  plain_sent fl (Fetch a) [] d p e h = cc
  plain_sent fl (Fetch a) (v ∷ []) d p e h = fetched_sent (first_cell fl a) (index_in (array_len fl a) v (origin_at fl c n)) (says_of _ d e h)
  plain_sent fl (Fetch a) (v ∷ w ∷ vs) d p e h = cc
  plain_sent fl (Store a) [] d p e h = cc
  plain_sent fl (Store a) (v ∷ []) d p e h = cc
  plain_sent fl (Store a) (v ∷ w ∷ []) d p e h = stored_sent (first_cell fl a) w (index_in (array_len fl a) v (origin_at fl c n)) (says_of _ d e h)
  plain_sent fl (Store a) (v ∷ w ∷ x ∷ vs) d p e h = cc
  plain_sent fl Cond vs d p e h = absurd p
  plain_sent fl Enter vs d p e h = absurd p
  plain_sent fl (Merge k) vs d p e h = absurd p
  plain_sent fl (Call f) vs d p e h = absurd p
  plain_sent fl (StrictCall f) vs d p e h = absurd p
  plain_sent fl (Loop f k) vs d p e h = absurd p

-- OPERANDS FROM THE VALUES OF SOURCES

pub record Operands (z : Rested) (c : Context) (ss : List Source) : Type 0 where
  pub values : List Value
  pub long : length ss ≡ length values
  pub each : (i : ℕ) (v : Value) → slice_get values i ≡ Some v → (s : Source) × (slice_get ss i ≡ Some s) × GivesIn z c s.node s.port v

pub operands : (z : Rested) (c : Context) (ss : List Source) → ((i : ℕ) (s : Source) → slice_get ss i ≡ Some s → Given z c s.node s.port) → Operands z c ss
operands z c [] h = record { values = []; long = refl; each = λ i v e. absurd (none i v e) }
  where
    none : (i : ℕ) (v : Value) → slice_get [] i ≡ Some v → ⊥
    none i v e = cc
operands z c (s ∷ ss) h =
    let one = h 0 s refl in
    let rest = operands z c ss (λ i x e. h (suc i) x e) in
    record { values = one.0 ∷ rest.values; long = ap suc rest.long; each = each one.0 one.1 rest }
  where
    each : (v : Value) → GivesIn z c s.node s.port v → (rest : Operands z c ss) → (i : ℕ) (w : Value) → slice_get (v ∷ rest.values) i ≡ Some w
        → (x : Source) × (slice_get (s ∷ ss) i ≡ Some x) × GivesIn z c x.node x.port w
    each v g rest zero w e = (s, refl, subst (λ w. GivesIn z c s.node s.port w) (let same : v ≡ w = cc in same) g)
    each v g rest (suc i) w e = rest.each i w e

module _ (z : Rested) (c : Context) (b : Block ℕ) (eb : block_of z.flow c ≡ Some b) where
  pub no_output : (a : Activity) (d : Deed) (j : ℕ) (v : Value) → deed z.flow a ≡ Some d → d ≡ Puts j v → ((k : ℕ) (w : Value) → a ≡ Outputs k w → ⊥) → ⊥
  no_output a d j v e f other = other j v (showing z.flow a j v (e ∙ ap Some f))

  -- what an activity that says this gives
  pub gives_said : (a : Activity) (n p : ℕ) (v : Value) → Within a z.run → deed z.flow a ≡ Some (Says (Sends c n p v)) → GivesIn z c n p v
  gives_said a n p v h e = (a, Says (Sends c n p v), within_to a z.run h, e, refl)

  pub input_fires : (n : ℕ) (v : Value) → n < b.inputs → Came z (tagged c (AtNode n) (Operand 0) v) → Within (Fires c n (v ∷ [])) z.run
  input_fires n v low h = z.happens (Fires c n (v ∷ [])) (Says (Sends c n 0 v)) (fires_input z.flow c b eb n v low) (h, tt)

  pub input_given : (n : ℕ) (v : Value) → n < b.inputs → Came z (tagged c (AtNode n) (Operand 0) v) → Given z c n 0
  input_given n v low h = (v, gives_said (Fires c n (v ∷ [])) n 0 v (input_fires n v low h) (fires_input z.flow c b eb n v low))

  pub operands_stand : (n : ℕ) (line : Node ℕ) (ops : Operands z c line.sources) → node_at b n ≡ Some line → Each (Came z) (taken (Fires c n ops.values))
  operands_stand n line ops el =
      operands_each (Came z) c (AtNode n) 0 ops.values
      (λ i v e. let s = ops.each i v e in subst (λ j. Came z (tagged c (AtNode n) (Operand j) v)) (omega arith)
      (operand_came z c b n i line s.0 v eb el s.1 s.2))

  -- a node that takes all its operands at once
  pub record Fired (n : ℕ) (line : Node ℕ) (vs : List Value) : Type 0 where
    pub does : Deed
    pub in_run : Within (Fires c n vs) z.run
    pub fires : fired z.flow c n line.kind vs ≡ Some does
    pub is_deed : deed z.flow (Fires c n vs) ≡ Some does

  pub line_fired : (n : ℕ) (line : Node ℕ) (vs : List Value) → node_at b n ≡ Some line → IsTogether line.kind
      → HasForm z.flow b line.region line.kind line.sources → length line.sources ≡ length vs
      → Each (Came z) (taken (Fires c n vs)) → Fired n line vs
  line_fired n line vs el t form long all =
      let d = fired_some z.flow b c n line.region line.kind line.sources vs t form long in
      let e = fires_line z.flow c b eb n line vs el long ∙ d.1 in
      record { does = d.0; in_run = z.happens (Fires c n vs) d.0 e all; fires = d.1; is_deed = e }

  pub fired_given : (n : ℕ) (line : Node ℕ) (vs : List Value) → IsPlain line.kind → Fired n line vs → Given z c n 0
  fired_given n line vs plain f =
      ⊎_elim (λ (y : (y : Message) × SaysIn z.state.memory f.does y).
      let sent = plain_sent z.state.memory c n y.0 z.flow line.kind vs f.does plain f.fires y.1 in
      (sent.0, (Fires c n vs, f.does, within_to (Fires c n vs) z.run f.in_run, f.is_deed, subst (SaysIn z.state.memory f.does) sent.1 y.1)))
      (λ p. absurd (no_output (Fires c n vs) f.does p.0 p.1 f.is_deed p.2 (λ k w e. cc)))
      (tells z (Fires c n vs) f.in_run f.does f.is_deed)

  pub plain_given : (n : ℕ) (line : Node ℕ) → node_at b n ≡ Some line → IsPlain line.kind → HasForm z.flow b line.region line.kind line.sources
      → ((i : ℕ) (s : Source) → slice_get line.sources i ≡ Some s → Given z c s.node s.port) → Given z c n 0
  plain_given n line el plain form sources =
      let ops = operands z c line.sources sources in
      fired_given n line ops.values plain (line_fired n line ops.values el (plain_together line.kind plain) form ops.long (operands_stand n line ops el))

  -- a merge passes on what arrives
  pub merge_given : (n k : ℕ) (line : Node ℕ) (i : ℕ) (v : Value) → node_at b n ≡ Some line → line.kind ≡ Merge k → Came z (tagged c (AtNode n) (Operand i) v)
      → Given z c n 0
  merge_given n k line i v el kind h =
      let e = passes_line z.flow c b eb n line i v el ∙ ap (λ kind. passed c n i v kind) kind in
      (v, gives_said (Passes c n i v) n 0 v (z.happens (Passes c n i v) (Says (Sends c n 0 v)) e (h, tt)) e)
