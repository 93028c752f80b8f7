-- WHAT IS CLOSED: a part of which each activity has happened whose tokens have come, however the run goes on.
use Rattle.std.proofs.Common.{◌≡◌, ℕ, ◌+◌, ◌<◌, ◌≤◌, ◌⊎◌, ℤ, Bool, true, false, List, [], ◌∷◌, length, Option, Some, None, Contains, inl, inr, refl, sym, ap}
use Rattle.std.proofs.Common.{ap₂, ◌∙◌, subst, arith, ⊎_elim, le-ltb, ltb-true, if◌then◌else◌, ◌==◌}
use Rattle.std.specs.Prelude.{⊤, slice_get, nat_lt}
use Rattle.std.proofs.lemmas.Option.{same_Some}
use Rattle.tags.specs.declared.value.Value.{Value}
use Rattle.semantics.specs.declared.graph.Region.{Region}
use Rattle.semantics.specs.declared.graph.Region.TheVariants.{Arm}
use Rattle.semantics.specs.declared.graph.Source.{Source}
use Rattle.semantics.specs.declared.graph.Kind.{Kind}
use Rattle.semantics.specs.declared.graph.Kind.TheVariants.{Enter, Merge, Call, Loop}
use Rattle.semantics.specs.Graph.{Graph, Node, Block, Flow, flow_of, node_at, node_count}
use Rattle.semantics.specs.WellFormed.{WellFormed}
use Rattle.semantics.specs.Meaning.{Context, Main, Called, Turned, AtNode, Operand, tagged, Activity, Fires, Gates, Passes, Returns, Turns}
use Rattle.semantics.specs.Meaning.{Outputs, Deed, deed, fired, fired_in, input_passed, passed, gated, on_node, on_block, block_of, node_of, node_in, IsCall, IsLoop}
use Rattle.lemmas.proofs.Permutations.{put_first}
use Rattle.law_confluence.specs.Outcome.{AreInputsOf}
use Rattle.law_confluence.proofs.EquationsGraphForms.{line_past, line_below}
use Rattle.law_loops_complete.specs.Within.{place_of, IsIn}
use Rattle.law_ordered_runs.proofs.Extending.{Going, On, on_then}
use Rattle.law_ordered_runs.proofs.Order.{half, seat, Under, under_more, under_split, under_at, in_under}
use Rattle.law_ordered_runs.proofs.Origins.{DueIn, Comes, place_due, fired_once, happened_at, operand_source}
use Rattle.law_ordered_runs.proofs.Lines.{deed_gates, deed_passes}

-- an activity at a node itself
pub data AtLine (c : Context) (n : ℕ) (a : Activity) : Type 0 where
  AsFires : (vs : List Value) → a ≡ Fires c n vs → AtLine c n a
  AsGates : (v w : Value) → a ≡ Gates c n v w → AtLine c n a
  AsPasses : (i : ℕ) (v : Value) → a ≡ Passes c n i v → AtLine c n a

-- at the node, in its call, or in an iteration of it
pub data Where (c : Context) (n : ℕ) (a : Activity) : Type 0 where
  OfLine : AtLine c n a → Where c n a
  OfCall : IsIn (Called c n) (place_of a) → Where c n a
  OfTurn : (t : ℕ) → IsIn (Turned c n t) (place_of a) → Where c n a

same_called : (c d : Context) (n m : ℕ) → (d ≡ c) × (n ≤ m) × (m < n + 1) → Called d m ≡ Called c n
same_called c d n m h = let low = h.1 in let high = h.2 in ap₂ (λ c n. Called c n) h.0 (omega (arith, low, high))

made_in : (c : Context) (n : ℕ) (d : Context) → Under c n (n + 1) d → IsIn (Called c n) d ⊎ ((t : ℕ) × IsIn (Turned c n t) d)
made_in c n Main h = absurd h
made_in c n (Called d m) (inl h) = inl (inl (sym (same_called c d n m h)))
made_in c n (Called d m) (inr h) =
    ⊎_elim (λ k. inl (inr k)) (λ (k : (t : ℕ) × IsIn (Turned c n t) d). inr (k.0, inr k.1)) (made_in c n d h)
made_in c n (Turned d m t) (inl h) =
    let low = h.1 in let high = h.2 in inr (t, inl (sym (ap₂ (λ c n. Turned c n t) h.0 (omega (arith, low, high)))))
made_in c n (Turned d m t) (inr h) =
    ⊎_elim (λ k. inl (inr k)) (λ (k : (u : ℕ) × IsIn (Turned c n u) d). inr (k.0, inr k.1)) (made_in c n d h)

within_made : (c : Context) (n : ℕ) (a : Activity) → IsIn (Called c n) (place_of a) ⊎ ((t : ℕ) × IsIn (Turned c n t) (place_of a)) → Where c n a
within_made c n a (inl h) = OfCall h
within_made c n a (inr h) = OfTurn h.0 h.1

pub where_is : (c : Context) (n : ℕ) (a : Activity) → Under c n (n + 1) (seat a) → Where c n a
where_is c n (Fires d m vs) (inl h) =
    let low = h.1 in let high = h.2 in OfLine (AsFires vs (ap₂ (λ c n. Fires c n vs) h.0 (omega (arith, low, high))))
where_is c n (Fires d m vs) (inr h) = within_made c n (Fires d m vs) (made_in c n d h)
where_is c n (Gates d m v w) (inl h) =
    let low = h.1 in let high = h.2 in OfLine (AsGates v w (ap₂ (λ c n. Gates c n v w) h.0 (omega (arith, low, high))))
where_is c n (Gates d m v w) (inr h) = within_made c n (Gates d m v w) (made_in c n d h)
where_is c n (Passes d m i v) (inl h) =
    let low = h.1 in let high = h.2 in OfLine (AsPasses i v (ap₂ (λ c n. Passes c n i v) h.0 (omega (arith, low, high))))
where_is c n (Passes d m i v) (inr h) = within_made c n (Passes d m i v) (made_in c n d h)
where_is c n (Returns d m j v) h = within_made c n (Returns d m j v) (made_in c n (Called d m) h)
where_is c n (Turns d m i j b v) h = within_made c n (Turns d m i j b v) (made_in c n (Turned d m i) h)
where_is c n (Outputs j v) h = absurd h

-- at the end of an invocation: where its results are taken
pub data AtEnd (d : Context) (a : Activity) : Type 0 where
  AsReturns : (c : Context) (n j : ℕ) (v : Value) → d ≡ Called c n → a ≡ Returns c n j v → AtEnd d a
  AsTurns : (c : Context) (n t j : ℕ) (b v : Value) → d ≡ Turned c n t → a ≡ Turns c n t j b v → AtEnd d a
  AsOutputs : (j : ℕ) (v : Value) → d ≡ Main → a ≡ Outputs j v → AtEnd d a

node_or_end : (d : Context) (a : Activity) → IsIn d (place_of a) → ((n : ℕ) × Under d n (n + 1) (seat a)) ⊎ AtEnd d a
node_or_end d (Fires c n vs) h = inl (node d c n (in_under d c h))
  where
    node : (d c : Context) (n : ℕ) → (d ≡ c) ⊎ ((k : ℕ) × Under d k (k + 1) c) → (k : ℕ) × Under d k (k + 1) (Called c n)
    node d c n (inl e) = (n, inl (sym e, omega arith, omega arith))
    node d c n (inr k) = (k.0, inr k.1)
node_or_end d (Gates c n v w) h = inl (node d c n (in_under d c h))
  where
    node : (d c : Context) (n : ℕ) → (d ≡ c) ⊎ ((k : ℕ) × Under d k (k + 1) c) → (k : ℕ) × Under d k (k + 1) (Called c n)
    node d c n (inl e) = (n, inl (sym e, omega arith, omega arith))
    node d c n (inr k) = (k.0, inr k.1)
node_or_end d (Passes c n i v) h = inl (node d c n (in_under d c h))
  where
    node : (d c : Context) (n : ℕ) → (d ≡ c) ⊎ ((k : ℕ) × Under d k (k + 1) c) → (k : ℕ) × Under d k (k + 1) (Called c n)
    node d c n (inl e) = (n, inl (sym e, omega arith, omega arith))
    node d c n (inr k) = (k.0, inr k.1)
node_or_end d (Returns c n j v) h = ⊎_elim (λ e. inr (AsReturns c n j v e refl)) (λ k. inl k) (in_under d (Called c n) h)
node_or_end d (Turns c n t j b v) h = ⊎_elim (λ e. inr (AsTurns c n t j b v e refl)) (λ k. inl k) (in_under d (Turned c n t) h)
node_or_end d (Outputs j v) h = inr (AsOutputs j v h refl)

-- kinds of nodes that take all their operands at once
abbrev pub FiresAtOnce : Kind ℕ → Type 0
FiresAtOnce Enter = ⊥
FiresAtOnce (Merge k) = ⊥
FiresAtOnce (Call f) = ⊥
FiresAtOnce (Loop f k) = ⊥
FiresAtOnce kind = ⊤

at_once_gates : (c : Context) (n : ℕ) (v w : Value) (r : Region) (kind : Kind ℕ) (d : Deed) → FiresAtOnce kind → gated c n v w r kind ≡ Some d → ⊥
at_once_gates c n v w (Arm k side) Enter d h e = h
at_once_gates c n v w r kind d h e = cc

at_once_passes : (c : Context) (n i : ℕ) (v : Value) (kind : Kind ℕ) (d : Deed) → FiresAtOnce kind → passed c n i v kind ≡ Some d → ⊥
at_once_passes c n i v (Merge k) d h e = h
at_once_passes c n i v (Call f) d h e = h
at_once_passes c n i v (Loop f k) d h e = h
at_once_passes c n i v kind d h e = cc

-- kinds that take each operand by itself, for an invocation
abbrev pub PassesEach : Kind ℕ → Type 0
PassesEach (Call f) = ⊤
PassesEach (Loop f k) = ⊤
PassesEach kind = ⊥

each_gates : (c : Context) (n : ℕ) (v w : Value) (r : Region) (kind : Kind ℕ) (d : Deed) → PassesEach kind → gated c n v w r kind ≡ Some d → ⊥
each_gates c n v w (Arm k side) Enter d h e = h
each_gates c n v w r kind d h e = cc

each_fires : (fl : Flow) (c : Context) (n : ℕ) (vs : List Value) (kind : Kind ℕ) (d : Deed) → PassesEach kind → fired fl c n kind vs ≡ Some d → ⊥
each_fires fl c n vs (Call f) d h e = cc
each_fires fl c n vs (Loop f k) d h e = cc
each_fires fl c n vs kind d h e = absurd h

-- DEEDS AT A NODE
module _ (fl : Flow) (c : Context) (b : Block ℕ) (eb : block_of fl c ≡ Some b) (n : ℕ) where
  pub fires_line : (line : Node ℕ) → node_at b n ≡ Some line → (vs : List Value) (d : Deed) → deed fl (Fires c n vs) ≡ Some d → fired fl c n line.kind vs ≡ Some d
  fires_line line el vs d e =
      go (length vs == length line.sources)
      (sym (ap (λ o. on_block o (fired_in fl c n vs)) eb
      ∙ ap (λ (t : Bool). if t then input_passed c n vs else on_node (node_at b n)
      (λ (node : Node ℕ). if length vs == length node.sources then fired fl c n node.kind vs else None)) (le-ltb n b.inputs (line_past b n line el).0)
      ∙ ap (λ o. on_node o (λ (node : Node ℕ). if length vs == length node.sources then fired fl c n node.kind vs else None)) el) ∙ e)
    where
      go : (t : Bool) → (if t then fired fl c n line.kind vs else None) ≡ Some d → fired fl c n line.kind vs ≡ Some d
      go true f = f
      go false f = cc

  pub gates_line : (line : Node ℕ) → node_at b n ≡ Some line → (v w : Value) (d : Deed) → deed fl (Gates c n v w) ≡ Some d
      → gated c n v w line.region line.kind ≡ Some d
  gates_line line el v w d e = sym (deed_gates fl c b eb n line el v w) ∙ e

  pub passes_line : (line : Node ℕ) → node_at b n ≡ Some line → (i : ℕ) (v : Value) (d : Deed) → deed fl (Passes c n i v) ≡ Some d
      → passed c n i v line.kind ≡ Some d
  passes_line line el i v d e = sym (deed_passes fl c b eb n line el i v) ∙ e

  -- there is a line, but where an input fires
  on_line : (o : Option (Node ℕ)) (f : Node ℕ → Option Deed) (d : Deed) → on_node o f ≡ Some d → (line : Node ℕ) × (o ≡ Some line)
  on_line None f d e = cc
  on_line (Some line) f d e = (line, refl)

  its_line : (a : Activity) (d : Deed) → AtLine c n a → deed fl a ≡ Some d → (n < b.inputs → (vs : List Value) → a ≡ Fires c n vs → ⊥)
      → (line : Node ℕ) × (node_at b n ≡ Some line)
  its_line a d (AsFires vs f) e input =
      go (nat_lt n b.inputs) refl (sym (ap (λ o. on_block o (fired_in fl c n vs)) eb) ∙ sym (ap (λ a. deed fl a) f) ∙ e)
    where
      go : (t : Bool) → nat_lt n b.inputs ≡ t
          → (if t then input_passed c n vs else on_node (node_at b n)
          (λ (node : Node ℕ). if length vs == length node.sources then fired fl c n node.kind vs else None)) ≡ Some d
          → (line : Node ℕ) × (node_at b n ≡ Some line)
      go true t k = absurd (input (ltb-true n b.inputs t) vs f)
      go false t k = on_line (node_at b n) _ d k
  its_line a d (AsGates v w f) e input =
      on_line (node_at b n) (λ (node : Node ℕ). gated c n v w node.region node.kind) d
      (sym (ap (λ o. on_block o (λ (k : Block ℕ). on_node (node_at k n) (λ (node : Node ℕ). gated c n v w node.region node.kind))) eb)
      ∙ sym (ap (λ a. deed fl a) f) ∙ e)
  its_line a d (AsPasses i v f) e input =
      on_line (node_at b n) (λ (node : Node ℕ). passed c n i v node.kind) d
      (sym (ap (λ o. on_block o (λ (k : Block ℕ). on_node (node_at k n) (λ (node : Node ℕ). passed c n i v node.kind))) eb)
      ∙ sym (ap (λ a. deed fl a) f) ∙ e)

module _ (g : Graph) (inputs : List ℤ) (well : WellFormed g) (count : AreInputsOf g inputs) where
  abbrev fl : Flow
  fl = flow_of g

  abbrev OnTo : Going g inputs → Going g inputs → Type 0
  OnTo x y = On g inputs well count x y

  abbrev ComesTo : Going g inputs → Activity → Type 0
  ComesTo y a = Comes g inputs well count y a

  -- AT NODES of an invocation and in what is made there; at a node alone; in a whole invocation
  abbrev pub Closes : Going g inputs → Context → ℕ → ℕ → Type 0
  Closes x c lo hi = (y : Going g inputs) → OnTo x y → (a : Activity) → ComesTo y a → Under c lo hi (seat a) → Contains y.run a

  abbrev pub ClosesLine : Going g inputs → Context → ℕ → Type 0
  ClosesLine x c n = (y : Going g inputs) → OnTo x y → (a : Activity) → ComesTo y a → AtLine c n a → Contains y.run a

  abbrev pub ClosesIn : Going g inputs → Context → Type 0
  ClosesIn x d = (y : Going g inputs) → OnTo x y → (a : Activity) → ComesTo y a → IsIn d (place_of a) → Contains y.run a

  abbrev pub ClosesEnd : Going g inputs → Context → Type 0
  ClosesEnd x d = (y : Going g inputs) → OnTo x y → (a : Activity) → ComesTo y a → AtEnd d a → Contains y.run a

  module _ (x y : Going g inputs) (on : OnTo x y) where
    pub closes_on : (c : Context) (lo hi : ℕ) → Closes x c lo hi → Closes y c lo hi
    closes_on c lo hi h w more a k u = h w (on_then g inputs well count x y w on more) a k u

    pub closes_in_on : (d : Context) → ClosesIn x d → ClosesIn y d
    closes_in_on d h w more a k u = h w (on_then g inputs well count x y w on more) a k u

    pub closes_line_on : (c : Context) (n : ℕ) → ClosesLine x c n → ClosesLine y c n
    closes_line_on c n h w more a k u = h w (on_then g inputs well count x y w on more) a k u

  module _ (x : Going g inputs) where
    pub closes_none : (c : Context) (n : ℕ) → Closes x c n n
    closes_none c n y on a k u = let at = under_at c n n (seat a) u in let low = at.1 in let high = at.2 in absurd (omega (arith, low, high))

    pub closes_both : (c : Context) (lo mid hi : ℕ) → Closes x c lo mid → Closes x c mid hi → Closes x c lo hi
    closes_both c lo mid hi h k y on a i u = ⊎_elim (λ l. h y on a i l) (λ l. k y on a i l) (under_split c lo mid hi (seat a) u)

    pub closes_node : (c : Context) (n : ℕ) → ClosesLine x c n → ClosesIn x (Called c n) → ((t : ℕ) → ClosesIn x (Turned c n t)) → Closes x c n (n + 1)
    closes_node c n line call turn y on a k u = go (where_is c n a u)
      where
        go : Where c n a → Contains y.run a
        go (OfLine l) = line y on a k l
        go (OfCall i) = call y on a k i
        go (OfTurn t i) = turn t y on a k i

    in_due : (y : Going g inputs) (d e : Context) → IsIn d e → DueIn g inputs well count y e → DueIn g inputs well count y d
    in_due y d Main h k = subst (λ d. DueIn g inputs well count y d) (sym h) k
    in_due y d (Called e n) (inl h) k = subst (λ d. DueIn g inputs well count y d) (sym h) k
    in_due y d (Called e n) (inr h) k = in_due y d e h k.0
    in_due y d (Turned e n t) (inl h) k = subst (λ d. DueIn g inputs well count y d) (sym h) k
    in_due y d (Turned e n t) (inr h) k = in_due y d e h k.0

    -- WHAT IS NEVER DUE is closed.
    pub closes_never : (d : Context) → ((y : Going g inputs) → OnTo x y → DueIn g inputs well count y d → ⊥) → ClosesIn x d
    closes_never d none y on a k u = absurd (none y on (in_due y d (place_of a) u (place_due g inputs well count y a k)))

    pub not_called : (c : Context) (n : ℕ) → ((line : Node ℕ) → node_of fl c n ≡ Some line → IsCall line.kind → ⊥) → ClosesIn x (Called c n)
    not_called c n none = closes_never (Called c n) (λ y on due. none due.1.0 due.1.1 due.1.2)

    pub not_turned : (c : Context) (n : ℕ) → ((line : Node ℕ) → node_of fl c n ≡ Some line → IsLoop line.kind → ⊥) → (t : ℕ) → ClosesIn x (Turned c n t)
    not_turned c n none t = closes_never (Turned c n t) (λ y on due. none due.1.0 due.1.1 due.1.2)

    -- IN A BLOCK
    module _ (c : Context) (b : Block ℕ) (eb : block_of fl c ≡ Some b) where
      node_is : (n : ℕ) (line : Node ℕ) → node_of fl c n ≡ Some line → node_at b n ≡ Some line
      node_is n line e = sym (ap (λ o. node_in o n) eb) ∙ e

      -- where there is no line, but perhaps an input that has fired
      no_line : (n : ℕ) → ((line : Node ℕ) → node_at b n ≡ Some line → ⊥) → ClosesLine x c n → Closes x c n (n + 1)
      no_line n none own =
          closes_node c n own (not_called c n (λ line e k. none line (node_is n line e))) (not_turned c n (λ line e k. none line (node_is n line e)))

      pub closes_input : (i : ℕ) (v : Value) → i < b.inputs → Contains x.run (Fires c i (v ∷ [])) → Closes x c i (i + 1)
      closes_input i v low happened = no_line i (λ line e. none line e) own
        where
          none : (line : Node ℕ) → node_at b i ≡ Some line → ⊥
          none line e = let past = (line_past b i line e).0 in omega (arith, past, low)

          own : ClosesLine x c i
          own y on a k (AsFires vs e) =
              subst (λ a. Contains y.run a) (sym e)
              (fired_once g inputs well count y c i (v ∷ []) vs (on.kept _ happened) (subst (λ a. ComesTo y a) e k))
          own y on a k (AsGates v w e) = (let l = its_line fl c b eb i a k.does (AsGates v w e) k.is_deed (λ h vs f. cc) in absurd (none l.0 l.1))
          own y on a k (AsPasses j v e) = (let l = its_line fl c b eb i a k.does (AsPasses j v e) k.is_deed (λ h vs f. cc) in absurd (none l.0 l.1))

      closes_beyond : (n : ℕ) → node_count b ≤ n → Closes x c n (n + 1)
      closes_beyond n past = no_line n (λ line e. none line e) own
        where
          none : (line : Node ℕ) → node_at b n ≡ Some line → ⊥
          none line e = let low = line_below b n line e in omega (arith, low, past)

          own : ClosesLine x c n
          own y on a k l = (let at = its_line fl c b eb n a k.does l k.is_deed (λ h vs f. omega (arith, h, past)) in absurd (none at.0 at.1))

      pub closes_whole : Closes x c 0 (node_count b) → ClosesEnd x c → ClosesIn x c
      closes_whole lines end y on a k u = go (node_or_end c a u)
        where
          at : (n : ℕ) → Under c n (n + 1) (seat a) → (n < node_count b) ⊎ (node_count b ≤ n) → Contains y.run a
          at n h (inl low) = lines y on a k (under_more c n (n + 1) 0 (node_count b) (seat a) (omega arith) (omega (arith, low)) h)
          at n h (inr high) = closes_beyond n high y on a k h

          go : ((n : ℕ) × Under c n (n + 1) (seat a)) ⊎ AtEnd c a → Contains y.run a
          go (inl h) = at h.0 h.1 (half h.0 (node_count b))
          go (inr e) = end y on a k e

      -- A LINE
      module _ (n : ℕ) (line : Node ℕ) (el : node_at b n ≡ Some line) where
        same_line : (l : Node ℕ) → node_of fl c n ≡ Some l → l ≡ line
        same_line l e = same_Some l line (sym (node_is n l e) ∙ el)

        pub closes_quiet : (IsCall line.kind → ⊥) → (IsLoop line.kind → ⊥) → ClosesLine x c n → Closes x c n (n + 1)
        closes_quiet no_call no_loop own =
            closes_node c n own (not_called c n (λ l e k. no_call (subst (λ (l : Node ℕ). IsCall l.kind) (same_line l e) k)))
            (not_turned c n (λ l e k. no_loop (subst (λ (l : Node ℕ). IsLoop l.kind) (same_line l e) k)))

        -- it has fired
        pub line_fired : FiresAtOnce line.kind → (vs : List Value) → Contains x.run (Fires c n vs) → ClosesLine x c n
        line_fired kind vs happened y on a k (AsFires ws e) =
            subst (λ a. Contains y.run a) (sym e) (fired_once g inputs well count y c n vs ws (on.kept _ happened) (subst (λ a. ComesTo y a) e k))
        line_fired kind vs happened y on a k (AsGates v w e) =
            let i = subst (λ a. ComesTo y a) e k in
            absurd (at_once_gates c n v w line.region line.kind i.does kind (gates_line fl c b eb n line el v w i.does i.is_deed))
        line_fired kind vs happened y on a k (AsPasses j v e) =
            let i = subst (λ a. ComesTo y a) e k in
            absurd (at_once_passes c n j v line.kind i.does kind (passes_line fl c b eb n line el j v i.does i.is_deed))

        -- each of its operands has passed
        pub line_passed : PassesEach line.kind
            → ((i : ℕ) (s : Source) → slice_get line.sources i ≡ Some s → (v : Value) × Contains x.run (Passes c n i v)) → ClosesLine x c n
        line_passed kind happened y on a k (AsFires ws e) =
            let i = subst (λ a. ComesTo y a) e k in
            absurd (each_fires fl c n ws line.kind i.does kind (fires_line fl c b eb n line el ws i.does i.is_deed))
        line_passed kind happened y on a k (AsGates v w e) =
            let i = subst (λ a. ComesTo y a) e k in
            absurd (each_gates c n v w line.region line.kind i.does kind (gates_line fl c b eb n line el v w i.does i.is_deed))
        line_passed kind happened y on a k (AsPasses j v e) =
            let i = subst (λ a. ComesTo y a) e k in
            let s = operand_source g inputs well count y c b n j line v eb el i.came.0 in
            let p = happened j s.0 s.1 in
            subst (λ a. Contains y.run a) (sym e)
            (happened_at g inputs well count y (Passes c n j v) (Passes c n j p.0) i (on.kept _ p.1) (tagged c (AtNode n) (Operand j) p.0)
            (tagged c (AtNode n) (Operand j) v) (_, put_first _ _) (_, put_first _ _) (refl, refl, refl))

        -- its gate has opened or shut
        pub line_gated : line.kind ≡ Enter → (v w : Value) → Contains x.run (Gates c n v w) → ClosesLine x c n
        line_gated kind v w happened y on a k (AsFires ws e) =
            let i = subst (λ a. ComesTo y a) e k in
            let f = sym (ap (λ kind. fired fl c n kind ws) kind) ∙ fires_line fl c b eb n line el ws i.does i.is_deed in absurd (cc)
        line_gated kind v w happened y on a k (AsGates u q e) =
            subst (λ a. Contains y.run a) (sym e)
            (happened_at g inputs well count y (Gates c n u q) (Gates c n v w) (subst (λ a. ComesTo y a) e k) (on.kept _ happened)
            (tagged c (AtNode n) (Operand 0) v) (tagged c (AtNode n) (Operand 0) u) (_, put_first _ _) (_, put_first _ _) (refl, refl, refl))
        line_gated kind v w happened y on a k (AsPasses j u e) =
            let i = subst (λ a. ComesTo y a) e k in
            let f = sym (ap (λ kind. passed c n j u kind) kind) ∙ passes_line fl c b eb n line el j u i.does i.is_deed in absurd (cc)
