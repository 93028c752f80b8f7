-- A run at rest, with no frame wanted, and some invocations in which nothing waits for a credit or at a cell; and what its firings made and gave.
use Rattle.std.proofs.Common.{◌≡◌, ℕ, zero, suc, ◌+◌, ◌<◌, ℤ, Bool, true, ◌⊎◌, inl, inr, List, [], ◌∷◌, ◌++◌, length, Option, Some, if◌then◌else◌, refl, sym}
use Rattle.std.proofs.Common.{ap, ◌∙◌, subst, arith}
use Rattle.std.specs.Prelude.{Contains, flat_map}
use Rattle.std.proofs.lemmas.List.Elements.{Contains-append_left, Contains-append_right}
use Rattle.lemmas.proofs.Contains.{contains_cases, contains_head, contains_none, contains_tail, contains_map}
use Rattle.tags.specs.declared.value.Value.{Value}
use Rattle.tags.specs.declared.value.Value.TheVariants.{Int}
use Rattle.tags.specs.declared.token.Port.TheVariants.{Left, Right}
use Rattle.semantics.specs.Graph.{Flow}
use Rattle.semantics.specs.Plan.{Plan}
use Rattle.semantics.specs.Meaning.{Context, Main, Called, Turned}
use Rattle.semantics.specs.Machine.{Machine, Resting}
use Rattle.law_confluence.specs.OrdersTotals.{one, total}
use Rattle.law_confluence.proofs.Net.{weigh, Waits, Fires}
use Rattle.law_confluence.proofs.Orders.{total-append, total_there}
use Rattle.law_net.specs.ContextsParts.{Part, Entry, Line, Framer, Fanned, Linker, Sender, Landing, CallDone, Giver, Taker, Drainer, LoopDone, Result, Asker}
use Rattle.law_net.specs.ContextsParts.{NextFramer, NextFanned, NextSender, LastReturn, DrainReturn, End, Asked, NextAsked, InCell, Drained, Freed}
use Rattle.law_net.specs.ContextsParts.{Inlet, inlet}
use Rattle.law_net.specs.ContextsParts.{Note, Datum, FrameOf, BackTo, ToHost, signal, Item, item, Firing, Spot, spot_of, same_spot}
use Rattle.law_net.specs.ContextsBlocks.{Side, is_cell, source_count}
use Rattle.law_net.specs.Contexts.{Wires, block_in, wiring_in, child, next, is_strict_in}
use Rattle.law_net.specs.ContextsFirings.{Config, Move, begin, begins, input_items, takes, makes, arguments_from, arguments, result_back, drain_back, end_back}
use Rattle.law_net.specs.ContextsFirings.{credit_asked, turn_before, next_entry, sent_word, HasFired, IsProperMove, ProperAt, ProperMoves, Still, Then}
use Rattle.law_net.specs.ContextsMirror.{Past}
use Rattle.law_net.specs.ContextsTheorem.{IsGood}
use Rattle.law_net.specs.ContextsPackages.{InputsFit, Keeps}
use Rattle.law_net.proofs.ContextsSames.{hits_at, hit_found, hit_counted}
use Rattle.law_net.proofs.WiredSends.{side_by, gives_by, sent_along, splits, asks_cell}
use Rattle.law_net.proofs.WiredNets.{all_of, total_flat}

pub record AtRest : Type 1 where
  pub fl : Flow
  pub p : Plan
  pub w : Wires
  pub inputs : List ℤ
  pub past : Past
  pub m : Machine
  pub good : IsGood fl p w
  pub fit : InputsFit fl inputs
  pub kept : Keeps fl p w inputs past m
  pub rests : Resting m
  pub calm : m.store.requests ≡ []
  -- the invocations in question, with all that they invoke
  pub Inside : Context → Type 0
  pub called : (c : Context) (n : ℕ) → Inside c → Inside (Called c n)
  pub turned : (c : Context) (n t : ℕ) → Inside c → Inside (Turned c n t)
  -- ask for no credit that waits, and wait at no cell
  pub no_credit : (i : Item) (n t : ℕ) → Contains kept.tracks.net.waiting i → i.inlet ≡ inlet (Taker n) Left (suc t) → Inside (Turned i.context n t) → ⊥
  pub no_reader : (i : Item) (n : ℕ) → Contains kept.tracks.net.waiting i → i.inlet.part ≡ InCell n → Inside i.context → ⊥

-- the inputs of main are there
input_has : (n : ℕ) (zs : List ℤ) (l : ℕ) → l < length zs
    → (i : Item) × Contains (input_items n zs) i × (i.context ≡ Main) × (i.inlet ≡ inlet (Line (n + l)) Left 0)
input_has n [] l h = absurd (omega (arith, h))
input_has n (z ∷ zs) zero h = let same : n ≡ n + 0 = omega arith in (
  item Main (inlet (Line n) Left 0) (Datum (Int z)),
  contains_head (item Main (inlet (Line n) Left 0) (Datum (Int z))) (input_items (n + 1) zs),
  refl,
  ap (λ (k : ℕ). inlet (Line k) Left 0) same,
)
input_has n (z ∷ zs) (suc l) h =
    let k = input_has (n + 1) zs l (omega (arith, h)) in let same : n + 1 + l ≡ n + suc l = omega arith in (
      k.0,
      contains_tail (item Main (inlet (Line n) Left 0) (Datum (Int z))) (input_items (n + 1) zs) k.0 k.1,
      k.2,
      k.3 ∙ ap (λ (k : ℕ). inlet (Line k) Left 0) same,
    )

-- the arguments of a strict call
argument_has : (c : Context) (n t m : ℕ) (vs : List Value) (l : ℕ) → l < length vs
    → (v : Value) × Contains (arguments_from c n t m vs) (item c (inlet (Sender n (m + l)) Right t) (Datum v))
argument_has c n t m [] l h = absurd (omega (arith, h))
argument_has c n t m (v ∷ vs) zero h = let same : m ≡ m + 0 = omega arith in (
  v,
  subst (λ (k : ℕ). Contains (arguments_from c n t m (v ∷ vs)) (item c (inlet (Sender n k) Right t) (Datum v))) same
      (contains_head (item c (inlet (Sender n m) Right t) (Datum v)) (arguments_from c n t (m + 1) vs)),
)
argument_has c n t m (v ∷ vs) (suc l) h =
    let k = argument_has c n t (m + 1) vs l (omega (arith, h)) in let same : m + 1 + l ≡ m + suc l = omega arith in (
      k.0,
      subst (λ (j : ℕ). Contains (arguments_from c n t m (v ∷ vs)) (item c (inlet (Sender n j) Right t) (Datum k.0))) same
          (contains_tail (item c (inlet (Sender n m) Right t) (Datum v)) (arguments_from c n t (m + 1) vs)
          (item c (inlet (Sender n (m + 1 + l)) Right t) (Datum k.0)) k.1),
    )

-- a strict call took all its arguments as it fired
abbrev operands_fit : Flow → Firing → Type 0
operands_fit fl h = (n : ℕ) → h.part ≡ Framer n → length h.operands ≡ (if is_strict_in fl h.context n then source_count (block_in fl h.context) n else 0)

framers_fit : (fl : Flow) (w : Wires) (c d : Config) → ProperMoves fl w c d → ((h : Firing) → Contains c.fired h → operands_fit fl h) → (h : Firing)
    → Contains d.fired h → operands_fit fl h
framers_fit fl w c d (Still e) old = old
framers_fit fl w c d (Then a mid b m proper more) old = framers_fit fl w mid d more (step a mid m proper old)
  where
    step : (c d : Config) (m : Move fl w c d) → IsProperMove fl w c.fired c d m → ((h : Firing) → Contains c.fired h → operands_fit fl h) → (h : Firing)
        → Contains d.fired h → operands_fit fl h
    step c d (Waits i rest a e) proper old h = subst (λ (d : Config). Contains d.fired h → operands_fit fl h) (sym e) (old h)
    step c d (Fires f now kept rest others a b both e) proper old h =
        subst (λ (d : Config). Contains d.fired h → operands_fit fl h) (sym e) (λ x. pick (contains_cases f c.fired h x))
      where
        pick : (f ≡ h) ⊎ Contains c.fired h → operands_fit fl h
        pick (inr x) = old h x
        pick (inl same) = subst (operands_fit fl) same (λ n g. subst (λ (r : Part). ProperAt fl c.fired f r) g proper)

module _ (u : AtRest) where
  abbrev pub net : Config
  net = u.kept.tracks.net

  abbrev pub done : List Firing
  done = u.kept.tracks.net.fired

  abbrev pub Stood : Item → Type 0
  Stood i = Contains (all_of u.fl u.kept.tracks.net) i

  -- WHAT ARRIVED at an inlet of a context
  abbrev pub Arrives : Context → Inlet → Type 0
  Arrives c x = (i : Item) × Contains (all_of u.fl u.kept.tracks.net) i × (i.context ≡ c) × (i.inlet ≡ x)

  abbrev pub Fired : Context → Part → Type 0
  Fired c r = HasFired c r u.kept.tracks.net.fired

  came_of : (x : Spot) → 0 < hits_at x (begins u.inputs) + weigh (makes u.fl u.w) (λ (i : Item). one (same_spot x (spot_of i))) u.kept.tracks.net.fired
      → Arrives x.context x.inlet
  came_of x h =
      let g : Item → ℕ = λ (i : Item). one (same_spot x (spot_of i)) in
      let n = u.kept.sound.marked g in
      let first = total-append g u.kept.tracks.net.pending (u.kept.tracks.net.waiting ++ flat_map (takes u.fl) u.kept.tracks.net.fired) in
      let second = total-append g u.kept.tracks.net.waiting (flat_map (takes u.fl) u.kept.tracks.net.fired) in
      let third = total_flat g (takes u.fl) u.kept.tracks.net.fired in
      let (i, d, e) = hit_found x (all_of u.fl u.kept.tracks.net) (omega (arith, h, n, first, second, third)) in
      (i, d, ap (λ (s : Spot). s.context) e, ap (λ (s : Spot). s.inlet) e)

  begun : (i : Item) → Contains (begins u.inputs) i → Arrives i.context i.inlet
  begun i c = came_of (spot_of i) (let h = hit_counted (begins u.inputs) i c in omega (arith, h))

  pub main_entry : Arrives Main (inlet Entry Left 0)
  main_entry = begun (item Main (inlet Entry Left 0) ToHost) (contains_head (item Main (inlet Entry Left 0) ToHost) (input_items 0 u.inputs))

  pub main_input : (l : ℕ) → l < length u.inputs → Arrives Main (inlet (Line l) Left 0)
  main_input l low =
      let (i, c, d, e) = input_has 0 u.inputs l low in let same : 0 + l ≡ l = omega arith in
      let (j, s, a, x) = begun i (contains_tail (item Main (inlet Entry Left 0) ToHost) (input_items 0 u.inputs) i c) in
      (j, s, a ∙ d, x ∙ e ∙ ap (λ (k : ℕ). inlet (Line k) Left 0) same)

  pub made : (h : Firing) (i : Item) → Contains done h → Contains (makes u.fl u.w h) i → Arrives i.context i.inlet
  made h i c d =
      let g : Item → ℕ = λ (j : Item). one (same_spot (spot_of i) (spot_of j)) in
      let k = hit_counted (makes u.fl u.w h) i d in
      let more = total_there (λ (f : Firing). total g (makes u.fl u.w f)) u.kept.tracks.net.fired h c in
      came_of (spot_of i) (omega (arith, k, more))

  given : (h : Firing) → Contains done h → (r : Part) → h.part ≡ r → (i : Item) → Contains (gives_by u.fl u.w h r) i → Arrives i.context i.inlet
  given h c r e i d = made h i c (subst (λ (l : List Item). Contains l i) (sym (splits u.fl u.w h))
      (Contains-append_left (gives_by u.fl u.w h h.part) (sent_along u.fl u.w h (side_by u.fl h h.part)) i
      (subst (λ (r : Part). Contains (gives_by u.fl u.w h r) i) (sym e) d)))

  -- what it gives in the context where it fires
  given_here : (c : Context) (r : Part) (f : Fired c r) (d : Context → Context) (x : Inlet) (k : Note)
      → Contains (gives_by u.fl u.w f.0 r) (item (d f.0.context) x k) → Arrives (d c) x
  given_here c r (h, o, a, e) d x k has = subst (λ (c : Context). Arrives (d c) x) a (given h o r e (item (d h.context) x k) has)

  -- what is sent along a side
  pub sent : (h : Firing) (c : Context) (s : Side) (x : Inlet) → Contains done h → h.context ≡ c → side_by u.fl h h.part ≡ Some s
      → Contains ((wiring_in u.fl u.w c).wire s) x → Arrives c x
  sent h c s x o a g goes =
      let there = subst (λ (d : Context). Contains ((wiring_in u.fl u.w d).wire s) x) (sym a) goes in
      let along : Contains (sent_along u.fl u.w h (Some s)) (item h.context x (sent_word u.fl h h.part)) =
      contains_map (λ (y : Inlet). item h.context y (sent_word u.fl h h.part)) ((wiring_in u.fl u.w h.context).wire s) x there in
      let all = subst (λ (l : List Item). Contains l (item h.context x (sent_word u.fl h h.part))) (sym (splits u.fl u.w h))
      (Contains-append_right (gives_by u.fl u.w h h.part) (sent_along u.fl u.w h (side_by u.fl h h.part)) (item h.context x (sent_word u.fl h h.part))
      (subst (λ (t : Option Side). Contains (sent_along u.fl u.w h t) (item h.context x (sent_word u.fl h h.part))) (sym g) along)) in
      subst (λ (d : Context). Arrives d x) a (made h (item h.context x (sent_word u.fl h h.part)) o all)

  -- WHAT EACH PART GIVES
  pub asked_arrives : (c : Context) (n : ℕ) → Fired c (Framer n) → Arrives c (inlet (Asked n) Left 0)
  asked_arrives c n f = given_here c (Framer n) f (λ c. c) (inlet (Asked n) Left 0) (BackTo f.0.context (inlet (Fanned n) Left 0))
      (contains_head (item f.0.context (inlet (Asked n) Left 0) (BackTo f.0.context (inlet (Fanned n) Left 0))) (arguments u.fl f.0.context n 1 f.0.operands))

  pub argument_arrives : (c : Context) (n l : ℕ) → Fired c (Framer n) → is_strict_in u.fl c n ≡ true → l < source_count (block_in u.fl c) n
      → Arrives c (inlet (Sender n l) Right 1)
  argument_arrives c n l (h, o, a, e) strict low =
      let fits = framers_fit u.fl u.w (begin u.inputs) u.kept.tracks.net u.kept.tracks.moves (λ h x. absurd (contains_none h x)) h o n e in
      let s : is_strict_in u.fl h.context n ≡ true = ap (λ (c : Context). is_strict_in u.fl c n) a ∙ strict in
      let long : length h.operands ≡ source_count (block_in u.fl h.context) n = fits
      ∙ ap (λ (t : Bool). if t then source_count (block_in u.fl h.context) n else 0) s in
      let same = ap (λ (c : Context). source_count (block_in u.fl c) n) a in
      let (v, has) = argument_has h.context n 1 0 h.operands l (omega (arith, long, same, low)) in
      let zero' : 0 + l ≡ l = omega arith in
      let has' : Contains (arguments u.fl h.context n 1 h.operands) (item h.context (inlet (Sender n l) Right 1) (Datum v)) =
      subst (λ (t : Bool). Contains (if t then arguments_from h.context n 1 0 h.operands else []) (item h.context (inlet (Sender n l) Right 1) (Datum v)))
      (sym s)
      (subst (λ (l : ℕ). Contains (arguments_from h.context n 1 0 h.operands) (item h.context (inlet (Sender n l) Right 1) (Datum v))) zero' has) in
      given_here c (Framer n) (h, o, a, e) (λ c. c) (inlet (Sender n l) Right 1) (Datum v)
      (contains_tail (item h.context (inlet (Asked n) Left 0) (BackTo h.context (inlet (Fanned n) Left 0))) (arguments u.fl h.context n 1 h.operands)
      (item h.context (inlet (Sender n l) Right 1) (Datum v)) has')

  pub fanned_arrives : (c : Context) (n : ℕ) → Fired c (Asked n) → Arrives c (inlet (Fanned n) Left 0)
  fanned_arrives c n f =
      given_here c (Asked n) f (λ c. c) (inlet (Fanned n) Left 0) (FrameOf (child u.fl f.0.context n))
      (contains_head (item f.0.context (inlet (Fanned n) Left 0) (FrameOf (child u.fl f.0.context n))) [])

  pub entry_arrives : (c : Context) (n : ℕ) → Fired c (Linker n) → Arrives (child u.fl c n) (inlet Entry Left 0)
  entry_arrives c n f = given_here c (Linker n) f (λ c. child u.fl c n) (inlet Entry Left 0) (BackTo f.0.context (inlet (Landing n 0) Left 0))
      (contains_head (item (child u.fl f.0.context n) (inlet Entry Left 0) (BackTo f.0.context (inlet (Landing n 0) Left 0))) [])

  pub input_arrives : (c : Context) (n l : ℕ) → Fired c (Sender n l) → Arrives (child u.fl c n) (inlet (Line l) Left 0)
  input_arrives c n l f =
      given_here c (Sender n l) f (λ c. child u.fl c n) (inlet (Line l) Left 0) f.0.right
      (contains_head (item (child u.fl f.0.context n) (inlet (Line l) Left 0) f.0.right) [])

  pub result_arrives : (c : Context) (n j : ℕ) → Fired (Called c n) (Result j) → Arrives c (inlet (Landing n j) Left 0)
  result_arrives c n j (h, o, a, e) = given h o (Result j) e (item c (inlet (Landing n j) Left 0) h.right)
      (subst (λ (d : Context). Contains (result_back d j h.right) (item c (inlet (Landing n j) Left 0) h.right)) (sym a)
      (contains_head (item c (inlet (Landing n j) Left 0) h.right) []))

  pub last_arrives : (c : Context) (n t j : ℕ) → Fired (Turned c n t) (LastReturn j) → Arrives c (inlet (Landing n j) Left t)
  last_arrives c n t j (h, o, a, e) = given h o (LastReturn j) e (item c (inlet (Landing n j) Left t) h.right)
      (subst (λ (d : Context). Contains (result_back d j h.right) (item c (inlet (Landing n j) Left t) h.right)) (sym a)
      (contains_head (item c (inlet (Landing n j) Left t) h.right) []))

  pub drain_arrives : (c : Context) (n t : ℕ) → Fired (Turned c n t) DrainReturn → Arrives c (inlet (Drainer n) Left t)
  drain_arrives c n t (h, o, a, e) = given h o DrainReturn e (item c (inlet (Drainer n) Left t) h.right)
      (subst (λ (d : Context). Contains (drain_back d h.right) (item c (inlet (Drainer n) Left t) h.right)) (sym a)
      (contains_head (item c (inlet (Drainer n) Left t) h.right) []))

  pub freed_arrives : (c : Context) → Fired c End → Arrives c (inlet Freed Left 0)
  freed_arrives c f =
      given_here c End f (λ c. c) (inlet Freed Left 0) signal (contains_head (item f.0.context (inlet Freed Left 0) signal) (end_back f.0.context))

  pub called_arrives : (c : Context) (n : ℕ) → Fired (Called c n) End → Arrives c (inlet (CallDone n) Left 0)
  called_arrives c n (h, o, a, e) = given h o End e (item c (inlet (CallDone n) Left 0) signal)
      (contains_tail (item h.context (inlet Freed Left 0) signal) (end_back h.context) (item c (inlet (CallDone n) Left 0) signal)
      (subst (λ (d : Context). Contains (end_back d) (item c (inlet (CallDone n) Left 0) signal)) (sym a)
      (contains_head (item c (inlet (CallDone n) Left 0) signal) [])))

  pub giver_arrives : (c : Context) (n t : ℕ) → Fired (Turned c n t) End → Arrives c (inlet (Giver n) Left t)
  giver_arrives c n t (h, o, a, e) = given h o End e (item c (inlet (Giver n) Left t) signal)
      (contains_tail (item h.context (inlet Freed Left 0) signal) (end_back h.context) (item c (inlet (Giver n) Left t) signal)
      (subst (λ (d : Context). Contains (end_back d) (item c (inlet (Giver n) Left t) signal)) (sym a)
      (contains_head (item c (inlet (Giver n) Left t) signal) [])))

  pub credit_arrives : (c : Context) (n t : ℕ) → Fired (Turned c n t) Asker → Arrives c (inlet (Taker n) Left (suc t))
  credit_arrives c n t (h, o, a, e) =
      let up : t + 1 ≡ suc t = omega arith in let k = BackTo (Turned c n t) (inlet NextFramer Left 0) in
      given h o Asker e (item c (inlet (Taker n) Left (suc t)) k)
      (subst (λ (d : Context). Contains (credit_asked d) (item c (inlet (Taker n) Left (suc t)) k)) (sym a)
      (subst (λ (v : ℕ). Contains (item c (inlet (Taker n) Left v) k ∷ []) (item c (inlet (Taker n) Left (suc t)) k)) (sym up)
      (contains_head (item c (inlet (Taker n) Left (suc t)) k) [])))

  pub framer_arrives : (c : Context) (n t : ℕ) (h : Firing) → Contains done h → h.context ≡ c → h.part ≡ Taker n → h.way ≡ suc t
      → Arrives (Turned c n t) (inlet NextFramer Left 0)
  framer_arrives c n t h o a e way = given h o (Taker n) e (item (Turned c n t) (inlet NextFramer Left 0) signal)
      (subst (λ (d : Context). Contains (item d (inlet NextFramer Left 0) signal ∷ []) (item (Turned c n t) (inlet NextFramer Left 0) signal))
      (λ k. turn_before (sym a k) n (sym way k)) (contains_head (item (Turned c n t) (inlet NextFramer Left 0) signal) []))

  pub next_asked_arrives : (c : Context) → Fired c NextFramer → Arrives c (inlet NextAsked Left 0)
  next_asked_arrives c f =
      given_here c NextFramer f (λ c. c) (inlet NextAsked Left 0) (BackTo f.0.context (inlet NextFanned Left 0))
      (contains_head (item f.0.context (inlet NextAsked Left 0) (BackTo f.0.context (inlet NextFanned Left 0))) [])

  pub next_fanned_arrives : (c : Context) → Fired c NextAsked → Arrives c (inlet NextFanned Left 0)
  next_fanned_arrives c f =
      given_here c NextAsked f (λ c. c) (inlet NextFanned Left 0) (FrameOf (next f.0.context))
      (contains_head (item f.0.context (inlet NextFanned Left 0) (FrameOf (next f.0.context))) [])

  pub next_arrives : (c : Context) (n t j : ℕ) → Fired (Turned c n t) (NextSender j) → Arrives (Turned c n (suc t)) (next_entry j)
  next_arrives c n t j f = let up : t + 1 ≡ suc t = omega arith in
      subst (λ (v : ℕ). Arrives (Turned c n v) (next_entry j)) up
      (given_here (Turned c n t) (NextSender j) f next (next_entry j) f.0.right (contains_head (item (next f.0.context) (next_entry j) f.0.right) []))

  pub loop_done_arrives : (c : Context) (n : ℕ) → Fired c (Drained n) → Arrives c (inlet (LoopDone n) Left 0)
  loop_done_arrives c n f =
      given_here c (Drained n) f (λ c. c) (inlet (LoopDone n) Left 0) signal (contains_head (item f.0.context (inlet (LoopDone n) Left 0) signal) [])

  pub held_arrives : (c : Context) (n : ℕ) → is_cell (block_in u.fl c) n ≡ true → Fired c (Line n) → Arrives c (inlet (InCell n) Left 0)
  held_arrives c n cell (h, o, a, e) =
      let asks = asks_cell u.fl u.w h n in
      subst (λ (d : Context). Arrives d (inlet (InCell n) Left 0)) a (given h o (Line n) e asks
      (subst (λ (t : Bool). Contains (if t then asks ∷ [] else []) asks) (sym (ap (λ (d : Context). is_cell (block_in u.fl d) n) a ∙ cell))
      (contains_head asks [])))
