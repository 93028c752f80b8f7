-- What a firing makes: along the wires of a side of one part, and what it gives besides.
use Rattle.std.proofs.Common.{◌≡◌, ℕ, ◌+◌, ◌≤◌, Bool, true, false, not, ◌||◌, List, [], ◌∷◌, ◌++◌, refl, sym, ap, ◌∙◌, subst, inl, inr, ◌⊎◌, arith, true≢false}
use Rattle.std.proofs.Common.{append-nil, Option, Some, None, nat_lt, if◌then◌else◌}
use Rattle.std.specs.Prelude.{All, Contains}
use Rattle.std.proofs.lemmas.List.Elements.{All-weaker, All-contains, All-contains_itself, Contains-append_left, Contains-append_cases}
use Rattle.std.proofs.lemmas.Option.{same_Some}
use Rattle.lemmas.proofs.Contains.{contains_head, contains_mapped, contains_none, contains_tail}
use Rattle.tags.specs.declared.token.Port.TheVariants.{Left, Right}
use Rattle.operators.specs.Values.{truth}
use Rattle.tags.specs.declared.value.Value.{Value}
use Rattle.semantics.specs.declared.graph.Kind.{Kind}
use Rattle.semantics.specs.Graph.{Block, Flow, Node, node_at}
use Rattle.semantics.specs.Meaning.{Context}
use Rattle.law_confluence.specs.OrdersTotals.{one, total}
use Rattle.law_confluence.proofs.Orders.{total-append}
use Rattle.law_confluence.specs.EquationsContexts.{same_context}
use Rattle.law_net.specs.ContextsParts.{Part, Entry, Line, Trigger, Gate, Framer, Fanned, Linker, Sender, Landing, Giver, Taker, Drainer, LoopDone, Result}
use Rattle.law_net.specs.ContextsParts.{TurnCont, TurnFlag, TurnValue, Asker, NextFramer, NextFanned, NextSender, LastReturn, DrainReturn, End, Asked}
use Rattle.law_net.specs.ContextsParts.{NextAsked, InCell, Drained, Shown, Done, Freed, Inlet, inlet, Note, Datum, FrameOf, BackTo, ToHost, signal, Item, item}
use Rattle.law_net.specs.ContextsParts.{each, Firing, Spot, spot_of, same_inlet, same_spot}
use Rattle.law_net.specs.ContextsBlocks.{is_switch, Side, side, is_cell, is_store, is_kind, cell_kind, plain_kind, is_plain, waits_in, there_in, is_loop}
use Rattle.law_net.specs.Contexts.{Wires, block_in, wiring_in, site_in, child, next, IsContext}
use Rattle.law_net.specs.ContextsFirings.{left_way, right_way, left_item, own_takes, renewed, takes, request_of, given_back, arguments, sent_word, along}
use Rattle.law_net.specs.ContextsFirings.{switched, value_in, back_from, result_back, drain_back, end_back, credit_asked, turn_before, next_entry, makes_by}
use Rattle.law_net.specs.ContextsFirings.{makes}
use Rattle.law_net.specs.ContextsLaws.{Fits, spot_there, maker_of}
use Rattle.law_net.specs.ContextsPackages.{AllFit}
use Rattle.law_net.proofs.ContextsSames.{hits_at, one_and}

-- all of a list, by each that it contains
pub all_from : {X : Type 0} (P : X → Type 0) (xs : List X) → ((x : X) → Contains xs x → P x) → All P xs
all_from P xs h = All-weaker (Contains xs) P h xs (All-contains_itself xs)

-- THE SIDE along which it sends
abbrev pub switch_side : Part → Note → Option Side
switch_side r (Datum v) = Some (side r (not (truth v)))
switch_side r k = None

abbrev pub side_by : Flow → Firing → Part → Option Side
side_by fl f (Line n) = if is_cell (block_in fl f.context) n then None else Some (side (Line n) false)
side_by fl f (InCell n) = Some (side (Line n) false)
side_by fl f (Trigger k) = switch_side (Trigger k) f.right
side_by fl f (Gate n) = switch_side (Gate n) f.right
side_by fl f TurnCont = switch_side TurnCont f.right
side_by fl f TurnFlag = switch_side TurnFlag f.right
side_by fl f (TurnValue j) = switch_side (TurnValue j) f.right
side_by fl f (Framer n) = None
side_by fl f (Asked n) = None
side_by fl f (Linker n) = None
side_by fl f End = None
side_by fl f Asker = None
side_by fl f (Taker n) = None
side_by fl f NextFramer = None
side_by fl f NextAsked = None
side_by fl f (Drained n) = None
side_by fl f (Giver n) = None
side_by fl f (Drainer n) = None
side_by fl f (Shown j) = None
side_by fl f Done = None
side_by fl f Freed = None
side_by fl f r = Some (side r false)

abbrev pub sent_along : Flow → Wires → Firing → Option Side → List Item
sent_along fl w f None = []
sent_along fl w f (Some t) = each f.context (sent_word fl f f.part) ((wiring_in fl w f.context).wire t)

-- WHAT IT GIVES BESIDES
abbrev pub asks_cell : Flow → Wires → Firing → ℕ → Item
asks_cell fl w f n = record {
  context = f.context;
  inlet = inlet (InCell n) Left 0;
  word = back_from f.context ((wiring_in fl w f.context).wire (side (Line n) false));
  held = value_in f.left ∷ (if is_store (block_in fl f.context) n then value_in f.right ∷ [] else []);
}

abbrev pub gives_by : Flow → Wires → Firing → Part → List Item
gives_by fl w f (Line n) = if is_cell (block_in fl f.context) n then asks_cell fl w f n ∷ [] else []
gives_by fl w f (Framer n) = item f.context (inlet (Asked n) Left 0) (BackTo f.context (inlet (Fanned n) Left 0)) ∷ arguments fl f.context n 1 f.operands
gives_by fl w f (Asked n) = item f.context (inlet (Fanned n) Left 0) (FrameOf (child fl f.context n)) ∷ []
gives_by fl w f (Linker n) = item (child fl f.context n) (inlet Entry Left 0) (BackTo f.context (inlet (Landing n 0) Left 0)) ∷ []
gives_by fl w f (Sender n i) = item (child fl f.context n) (inlet (Line i) Left 0) f.right ∷ []
gives_by fl w f (Result j) = result_back f.context j f.right
gives_by fl w f (LastReturn j) = result_back f.context j f.right
gives_by fl w f DrainReturn = drain_back f.context f.right
gives_by fl w f End = item f.context (inlet Freed Left 0) signal ∷ end_back f.context
gives_by fl w f Asker = credit_asked f.context
gives_by fl w f (Taker n) = item (turn_before f.context n f.way) (inlet NextFramer Left 0) signal ∷ []
gives_by fl w f NextFramer = item f.context (inlet NextAsked Left 0) (BackTo f.context (inlet NextFanned Left 0)) ∷ []
gives_by fl w f NextAsked = item f.context (inlet NextFanned Left 0) (FrameOf (next f.context)) ∷ []
gives_by fl w f (NextSender j) = item (next f.context) (next_entry j) f.right ∷ []
gives_by fl w f (Drained n) = item f.context (inlet (LoopDone n) Left 0) signal ∷ []
gives_by fl w f r = []

module _ (fl : Flow) (w : Wires) (f : Firing) where
  line_splits : (n : ℕ) (t : Bool) → (if t then asks_cell fl w f n ∷ [] else along fl w f (Line n) false) ≡ (if t then asks_cell fl w f n ∷ [] else [])
      ++ sent_along fl w f (if t then None else Some (side (Line n) false))
  line_splits n true = refl
  line_splits n false = refl

  switch_splits : (r : Part) (k : Note) → switched fl w f r k ≡ sent_along fl w f (switch_side r k)
  switch_splits r (Datum v) = refl
  switch_splits r (FrameOf c) = refl
  switch_splits r (BackTo c x) = refl
  switch_splits r ToHost = refl

  splits_by : (r : Part) → makes_by fl w f r ≡ gives_by fl w f r ++ sent_along fl w f (side_by fl f r)
  splits_by (Line n) = line_splits n (is_cell (block_in fl f.context) n)
  splits_by (Trigger k) = switch_splits (Trigger k) f.right
  splits_by (Gate n) = switch_splits (Gate n) f.right
  splits_by TurnCont = switch_splits TurnCont f.right
  splits_by TurnFlag = switch_splits TurnFlag f.right
  splits_by (TurnValue j) = switch_splits (TurnValue j) f.right
  splits_by (Framer n) = sym (append-nil _)
  splits_by End = sym (append-nil _)
  splits_by Asker = sym (append-nil _)
  splits_by r = refl

  pub splits : makes fl w f ≡ gives_by fl w f f.part ++ sent_along fl w f (side_by fl f f.part)
  splits = splits_by f.part

  -- an item sent along a side
  pub record IsSent (i : Item) : Type 0 where
    pub from : Side
    pub along : side_by fl f f.part ≡ Some from
    pub wire : Contains ((wiring_in fl w f.context).wire from) i.inlet
    pub is : i ≡ item f.context i.inlet (sent_word fl f f.part)

  pub sent_is : (o : Option Side) → side_by fl f f.part ≡ o → (i : Item) → Contains (sent_along fl w f o) i → IsSent i
  sent_is None e i c = absurd (contains_none i c)
  sent_is (Some t) e i c = let m = contains_mapped (λ (x : Inlet). item f.context x (sent_word fl f f.part)) ((wiring_in fl w f.context).wire t) i c in
      let same : m.0 ≡ i.inlet = ap (λ (i : Item). i.inlet) m.2 in record {
        from = t;
        along = e;
        wire = subst (λ (x : Inlet). Contains ((wiring_in fl w f.context).wire t) x) same m.1;
        is = sym m.2 ∙ ap (λ (x : Inlet). item f.context x (sent_word fl f f.part)) same;
      }

  pub made_cases : (i : Item) → Contains (makes fl w f) i → Contains (gives_by fl w f f.part) i ⊎ IsSent i
  made_cases i c =
      pick (Contains-append_cases (gives_by fl w f f.part) (sent_along fl w f (side_by fl f f.part)) i (subst (λ (l : List Item). Contains l i) splits c))
    where
      pick : Contains (gives_by fl w f f.part) i ⊎ Contains (sent_along fl w f (side_by fl f f.part)) i → Contains (gives_by fl w f f.part) i ⊎ IsSent i
      pick (inl d) = inl d
      pick (inr d) = inr (sent_is (side_by fl f f.part) refl i d)

  -- WHAT IT TAKES: at the first inlet, and at the right one
  abbrev pub first_inlet : Part → Inlet
  first_inlet (Drained n) = inlet (Drainer n) Left f.turns
  first_inlet (InCell n) = inlet (InCell n) Left 0
  first_inlet r = inlet r Left (left_way r f.way)

  abbrev pub first_taken : Part → Item
  first_taken (InCell n) = request_of f
  first_taken (Drained n) = item f.context (inlet (Drainer n) Left f.turns) f.left
  first_taken r = left_item f.context r f.way f.left

  abbrev pub others_taken : Part → List Item
  others_taken (InCell n) = []
  others_taken (Drained n) = given_back f.context n (f.turns + 1)
  others_taken r = if waits_in (block_in fl f.context) r then item f.context (inlet r Right (right_way fl f.context r)) f.right ∷ [] else []

  took : (r : Part) → own_takes fl f r ≡ first_taken r ∷ others_taken r
  took (InCell n) = refl
  took (Drained n) = refl
  took r = refl

  pub takes_are : takes fl f ≡ first_taken f.part ∷ (others_taken f.part ++ renewed fl f f.part)
  takes_are = ap (λ (l : List Item). l ++ renewed fl f f.part) (took f.part)

  pub takes_first : Contains (takes fl f) (first_taken f.part)
  takes_first =
      subst (λ (l : List Item). Contains l (first_taken f.part)) (sym takes_are)
      (contains_head (first_taken f.part) (others_taken f.part ++ renewed fl f f.part))

  right_by : (r : Part) → waits_in (block_in fl f.context) r ≡ true
      → Contains (own_takes fl f r) (item f.context (inlet r Right (right_way fl f.context r)) f.right)
  right_by (InCell n) e = absurd (true≢false (sym e))
  right_by (Drained n) e = absurd (true≢false (sym e))
  right_by r e =
      subst (λ (t : Bool). Contains (left_item f.context r f.way f.left
      ∷ (if t then item f.context (inlet r Right (right_way fl f.context r)) f.right ∷ [] else []))
      (item f.context (inlet r Right (right_way fl f.context r)) f.right)) (sym e)
      (contains_tail (left_item f.context r f.way f.left) (item f.context (inlet r Right (right_way fl f.context r)) f.right ∷ [])
      (item f.context (inlet r Right (right_way fl f.context r)) f.right)
      (contains_head (item f.context (inlet r Right (right_way fl f.context r)) f.right) []))

  pub takes_right : waits_in (block_in fl f.context) f.part ≡ true
      → Contains (takes fl f) (item f.context (inlet f.part Right (right_way fl f.context f.part)) f.right)
  takes_right e =
      Contains-append_left (own_takes fl f f.part) (renewed fl f f.part) (item f.context (inlet f.part Right (right_way fl f.context f.part)) f.right)
      (right_by f.part e)

  pub first_fits : AllFit fl w (takes fl f) → Fits fl w (spot_of (first_taken f.part))
  first_fits all = All-contains (λ (i : Item). Fits fl w (spot_of i)) (takes fl f) (first_taken f.part) all takes_first

  -- how often it makes a spot
  hits_by : (x : Spot) → hits_at x (makes fl w f) ≡ hits_at x (gives_by fl w f f.part) + hits_at x (sent_along fl w f (side_by fl f f.part))
  hits_by x =
      ap (hits_at x) splits ∙ total-append (λ (i : Item). one (same_spot x (spot_of i))) (gives_by fl w f f.part) (sent_along fl w f (side_by fl f f.part))

  pub made_hits : (x : Spot) → hits_at x (makes fl w f) ≡ hits_at x (gives_by fl w f f.part) + hits_at x (sent_along fl w f (side_by fl f f.part))
  made_hits = hits_by

-- a list of inlets has an inlet as often as its items have the spot, at most
pub each_hits : (x : Spot) (c : Context) (k : Note) (xs : List Inlet) → hits_at x (each c k xs) ≤ total (λ (y : Inlet). one (same_inlet x.inlet y)) xs
each_hits x c k [] = omega arith
each_hits x c k (y ∷ ys) = let m = each_hits x c k ys in let o = one_and (same_context x.context c) (same_inlet x.inlet y) in omega (arith, m, o)

-- WHERE the side is: it is there, and the part that sends along it is its maker
pub cell_plain : (b : Block ℕ) (n : ℕ) → is_cell b n ≡ true → is_plain b n ≡ true
cell_plain b n e = or_right (nat_lt n b.inputs) (is_kind plain_kind b n) (go (node_at b n) e)
  where
    or_right : (x y : Bool) → y ≡ true → (x || y) ≡ true
    or_right true y h = refl
    or_right false y h = h

    go : (o : Option (Node ℕ)) → (elim o as (λ x. Bool) [ None ↦ false | Some line ↦ cell_kind line.kind ]) ≡ true
        → (elim o as (λ x. Bool) [ None ↦ false | Some line ↦ plain_kind line.kind ]) ≡ true
    go None e = absurd (true≢false (sym e))
    go (Some line) e = by_kind line.kind e
      where
        by_kind : (kind : Kind ℕ) → cell_kind kind ≡ true → plain_kind kind ≡ true
        by_kind (Kind.Fetch a) e = refl
        by_kind (Kind.Store a) e = refl
        by_kind kind e = absurd (true≢false (sym e))

module _ (fl : Flow) (w : Wires) (f : Firing) where
  pub record SideOf (t : Side) (r : Part) : Type 0 where
    pub there : there_in fl (site_in fl w f.context) (wiring_in fl w f.context) t.part ≡ true
    pub maker : maker_of (block_in fl f.context) t.part ≡ r
    pub switches : is_switch t.part ≡ true → (t.part ≡ r) × ((v : Value) × (f.right ≡ Datum v) × (t.second ≡ not (truth v)))
    pub plain : is_switch t.part ≡ false → t.second ≡ false

  switch_facts : (r : Part) (t : Side) (k : Note) → f.right ≡ k → is_switch r ≡ true → maker_of (block_in fl f.context) r ≡ r
      → there_in fl (site_in fl w f.context) (wiring_in fl w f.context) r ≡ true → switch_side r k ≡ Some t → SideOf t r
  switch_facts r t (Datum v) e s m h g =
      subst (λ (t : Side). SideOf t r) (same_Some (side r (not (truth v))) t g)
      (record { there = h; maker = m; switches = λ x. (refl, (v, e, refl)); plain = λ x. absurd (true≢false (sym s ∙ x)) })
  switch_facts r t (FrameOf c) e s m h g = absurd (cc)
  switch_facts r t (BackTo c x) e s m h g = absurd (cc)
  switch_facts r t ToHost e s m h g = absurd (cc)

  one_facts : (r q : Part) (t : Side) → is_switch r ≡ false → maker_of (block_in fl f.context) r ≡ q
      → there_in fl (site_in fl w f.context) (wiring_in fl w f.context) r ≡ true → Some (side r false) ≡ Some t → SideOf t q
  one_facts r q t s m h g =
      subst (λ (t : Side). SideOf t q) (same_Some (side r false) t g)
      (record { there = h; maker = m; switches = λ x. absurd (true≢false (sym x ∙ s)); plain = λ x. refl })

  line_facts : (n : ℕ) (t : Side) (u : Bool) → is_cell (block_in fl f.context) n ≡ u → is_plain (block_in fl f.context) n ≡ true
      → (if u then None else Some (side (Line n) false)) ≡ Some t → SideOf t (Line n)
  line_facts n t true e h g = absurd (cc)
  line_facts n t false e h g = one_facts (Line n) (Line n) t refl (ap (λ (u : Bool). if u then InCell n else Line n) e) h g

  pub side_facts : (r : Part) (t : Side) → spot_there fl w f.context r ≡ true → side_by fl f r ≡ Some t → SideOf t r
  side_facts (Line n) t h g = line_facts n t (is_cell (block_in fl f.context) n) refl h g
  side_facts (InCell n) t h g = one_facts (Line n) (InCell n) t refl (ap (λ (u : Bool). if u then InCell n else Line n) h)
      (cell_plain (block_in fl f.context) n h) g
  side_facts (Trigger k) t h g = switch_facts (Trigger k) t f.right refl refl refl h g
  side_facts (Gate n) t h g = switch_facts (Gate n) t f.right refl refl refl h g
  side_facts TurnCont t h g = switch_facts TurnCont t f.right refl refl refl h g
  side_facts TurnFlag t h g = switch_facts TurnFlag t f.right refl refl refl h g
  side_facts (TurnValue j) t h g = switch_facts (TurnValue j) t f.right refl refl refl h g
  side_facts (Framer n) t h g = absurd (cc)
  side_facts (Asked n) t h g = absurd (cc)
  side_facts (Linker n) t h g = absurd (cc)
  side_facts End t h g = absurd (cc)
  side_facts Asker t h g = absurd (cc)
  side_facts (Taker n) t h g = absurd (cc)
  side_facts NextFramer t h g = absurd (cc)
  side_facts NextAsked t h g = absurd (cc)
  side_facts (Drained n) t h g = absurd (cc)
  side_facts (Giver n) t h g = absurd (cc)
  side_facts (Drainer n) t h g = absurd (cc)
  side_facts (Shown j) t h g = absurd (cc)
  side_facts Done t h g = absurd (cc)
  side_facts Freed t h g = absurd (cc)
  side_facts r t h g = one_facts r r t refl refl h g

  -- the part that fires is there, except the credits of a loop, which are where its `drain` is
  first_there : (r : Part) → f.part ≡ r → spot_there fl w f.context (first_taken fl w f r).inlet.part ≡ true
      → (spot_there fl w f.context r ≡ true) ⊎ ((n : ℕ) × (r ≡ Drained n) × (is_loop (block_in fl f.context) n ≡ true))
  first_there (Drained n) e h = inr (n, refl, h)
  first_there (InCell n) e h = inl (ap (spot_there fl w f.context) (sym e) ∙ h)
  first_there r e h = inl h

  pub first_context : (r : Part) → (first_taken fl w f r).context ≡ f.context
  first_context (Drained n) = refl
  first_context (InCell n) = refl
  first_context r = refl

  pub part_there : AllFit fl w (takes fl f)
      → (spot_there fl w f.context f.part ≡ true) ⊎ ((n : ℕ) × (f.part ≡ Drained n) × (is_loop (block_in fl f.context) n ≡ true))
  part_there all =
      first_there f.part refl (subst (λ (c : Context). spot_there fl w c (first_taken fl w f f.part).inlet.part ≡ true) (first_context f.part)
      (first_fits fl w f all).there)

  pub in_context : AllFit fl w (takes fl f) → IsContext fl f.context
  in_context all = subst (IsContext fl) (first_context f.part) (first_fits fl w f all).is_context

  -- a side is there along which it sends
  pub sent_facts : AllFit fl w (takes fl f) → (t : Side) → side_by fl f f.part ≡ Some t → SideOf t f.part
  sent_facts all t g = pick (part_there all)
    where
      pick : (spot_there fl w f.context f.part ≡ true) ⊎ ((n : ℕ) × (f.part ≡ Drained n) × (is_loop (block_in fl f.context) n ≡ true)) → SideOf t f.part
      pick (inl h) = side_facts f.part t h g
      pick (inr (n, e, h)) = let none : side_by fl f f.part ≡ None = ap (side_by fl f) e in absurd (cc)
