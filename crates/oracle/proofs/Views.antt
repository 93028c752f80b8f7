-- What a join is: nothing where a partner is missing, else the activity of a shape, which always has a deed in a
-- well-formed graph.
use Rattle.std.proofs.Common.{◌≡◌, ℕ, zero, suc, ◌+◌, ◌-◌, ◌<◌, ◌^◌, Bool, true, false, ◌&&◌, ◌==◌, List, [], ◌∷◌, length, Option, Some, None}
use Rattle.std.proofs.Common.{nat_lt, slice_get, if◌then◌else◌, refl, sym, ap, ◌∙◌, subst, arith, eqb-true, eq-eqb, lt-ltb}
use Rattle.std.specs.Prelude.{⊤}
use Rattle.std.proofs.lemmas.Option.{same_Some}
use Rattle.lemmas.proofs.Alls.{all_at}
use Rattle.tags.specs.declared.value.Value.{Value}
use Rattle.tags.specs.declared.value.Origin.{Origin}
use Rattle.operators.specs.Values.{truth}
use Rattle.semantics.specs.declared.graph.Region.{Region}
use Rattle.semantics.specs.declared.graph.Region.TheVariants.{Root, Arm}
use Rattle.semantics.specs.declared.graph.Kind.{Kind}
use Rattle.semantics.specs.declared.graph.Kind.TheVariants.{Lit, Apply1, Apply2, Cond, Enter, Merge, Fetch, Store, Call, StrictCall, Loop}
use Rattle.semantics.specs.Graph.{Node as Row, Block, Graph, node_at}
use Rattle.semantics.specs.WellFormed.{WellFormed, IsBlockWell, LiesWell}
use Rattle.oracle.specs.declared.invocations.Made.{Made}
use Rattle.oracle.specs.declared.invocations.Made.TheVariants.{Main, Called, Turned}
use Rattle.oracle.specs.declared.invocations.Invocation.{Invocation}
use Rattle.oracle.specs.declared.lines.Line.{Line}
use Rattle.oracle.specs.declared.lines.Line.TheVariants.{Input, Node, Nothing}
use Rattle.oracle.specs.declared.shapes.Shape.{Shape}
use Rattle.oracle.specs.declared.shapes.Shape.TheVariants.{Fires, Gates, Passes, Returns, Turns, Outputs}
use Rattle.oracle.specs.Deeds.{Deed, Sends, Enters}
use Rattle.oracle.specs.declared.tokens.Spot.{Spot}
use Rattle.oracle.specs.declared.tokens.Spot.TheVariants.{Operand, Predicate, Out, Flag, Carried}
use Rattle.oracle.specs.declared.tokens.Token.{Token}
use Rattle.oracle.specs.Lines.{line_of, line_in, line_of_row, resolved_in, origin_of, takes_all, fires_shape, node_shape, operand_shape}
use Rattle.oracle.specs.Lines.{enter_shape, predicate_shape, out_shape, turn_shape, shape_in, operand_spots, spots_in}
use Rattle.oracle.specs.Acting.{input_deed, fired_deed, one_deed, two_deed, line_deed, gated_deed, passed_deed, next_turn, turned_deed}
use Rattle.oracle.specs.Acting.{returned_deed, shown_deed, deed_in, all_there, remaining_of, values_of}
use Rattle.oracle.specs.Running.{Alone, Joins, Fails, joins, join_all, join_shape, join_in}
use Rattle.oracle.proofs.Gathered.{values_full, spots_apart}
use Rattle.oracle.proofs.ShapeLaws.{if_one}

-- VIEWS

pub record IsMatched (g : Graph) (w : List Token) (t : Token) (x : Invocation) (left : List Token) (vs : List Value) (d : Deed) : Type 0 where
  pub shape : Shape
  pub here : shape_in g x.made x.block t.spot ≡ Some shape
  pub values : values_of t (spots_in shape) w ≡ vs
  pub rest : remaining_of t (spots_in shape) w ≡ left
  pub long : length vs ≡ length (spots_in shape)
  pub deed : deed_in g t.context x shape vs ≡ Some d

module _ (g : Graph) (w : List Token) (t : Token) (x : Invocation) where
  joined_deed : (left : List Token) (vs : List Value) (d : Deed) (shape : Shape) → shape_in g x.made x.block t.spot ≡ Some shape
      → length (values_of t (spots_in shape) w) ≡ length (spots_in shape)
      → (o : Option Deed) → deed_in g t.context x shape (values_of t (spots_in shape) w) ≡ o → joins (remaining_of t (spots_in shape) w)
      (values_of t (spots_in shape) w) o ≡ Joins left vs d → IsMatched g w t x left vs d
  joined_deed left vs d shape e l None q h = cc
  joined_deed left vs d shape e l (Some b) q h =
      let lefts : remaining_of t (spots_in shape) w ≡ left = cc in
      let values : values_of t (spots_in shape) w ≡ vs = cc in
      let deeds : b ≡ d = cc in
      record {
        shape = shape;
        here = e;
        values = values;
        rest = lefts;
        long = sym (ap length values) ∙ l;
        deed = ap (λ vs. deed_in g t.context x shape vs) (sym values) ∙ q ∙ ap Some deeds;
      }

  joined_shape : (left : List Token) (vs : List Value) (d : Deed) (o : Option Shape) → shape_in g x.made x.block t.spot ≡ o → join_shape g w t x o
      ≡ Joins left vs d → IsMatched g w t x left vs d
  joined_shape left vs d None e h = cc
  joined_shape left vs d (Some shape) e h =
      let ss = spots_in shape in
      let ws = values_of t ss w in
      let counted : (b : Bool) → (length ws == length ss) ≡ b → (if b then joins (remaining_of t ss w) ws (deed_in g t.context x shape ws) else Fails)
      ≡ Joins left vs d → IsMatched g w t x left vs d
      = λ b. elim b as (λ b. (length ws == length ss) ≡ b → (if b then joins (remaining_of t ss w) ws (deed_in g t.context x shape ws) else Fails)
      ≡ Joins left vs d → IsMatched g w t x left vs d) [
        | true ↦ λ q k. joined_deed left vs d shape e (eqb-true (length ws) (length ss) q) (deed_in g t.context x shape ws) refl k
        | false ↦ λ q k. cc
      ] in
      let there : (b : Bool) → (if b then join_all g w t x shape else Alone) ≡ Joins left vs d → IsMatched g w t x left vs d
      = λ b. elim b as (λ b. (if b then join_all g w t x shape else Alone) ≡ Joins left vs d → IsMatched g w t x left vs d) [
        | true ↦ λ k. counted (length ws == length ss) refl k
        | false ↦ λ k. cc
      ] in
      there (all_there t ss w) h

  pub joined_view : (left : List Token) (vs : List Value) (d : Deed) → join_in g w t (Some x) ≡ Joins left vs d → IsMatched g w t x left vs d
  joined_view left vs d h = joined_shape left vs d (shape_in g x.made x.block t.spot) refl h

  alone_counted : (shape : Shape) (b : Bool) (o : Option Deed)
      → (if b then joins (remaining_of t (spots_in shape) w) (values_of t (spots_in shape) w) o else Fails) ≡ Alone → ⊥
  alone_counted shape true None h = cc
  alone_counted shape true (Some d) h = cc
  alone_counted shape false o h = cc

  -- a token that is left alone has no shape, or a partner is missing
  pub alone_view : join_in g w t (Some x) ≡ Alone → (shape : Shape) → shape_in g x.made x.block t.spot ≡ Some shape → all_there t (spots_in shape) w ≡ true → ⊥
  alone_view h shape e there =
      let ss = spots_in shape in
      let one : join_shape g w t x (Some shape) ≡ Alone = ap (join_shape g w t x) (sym e) ∙ h in
      let two : join_all g w t x shape ≡ Alone = ap (λ b. if b then join_all g w t x shape else Alone) (sym there) ∙ one in
      alone_counted shape (length (values_of t ss w) == length ss) (deed_in g t.context x shape (values_of t ss w)) two

-- EACH ACTIVITY THAT TAKES A TOKEN HAS A DEED

abbrev pub IsSome : Option Deed → Type 0
IsSome o = (d : Deed) × (o ≡ Some d)

-- the turns that invocations have are below a number
abbrev pub TurnBelow : ℕ → Made → Type 0
TurnBelow k Main = ⊤
TurnBelow k (Called by n) = ⊤
TurnBelow k (Turned by n i) = i < k

module _ (g : Graph) (c n : ℕ) where
  input_some : (vs : List Value) → length vs ≡ 1 → IsSome (input_deed c n vs)
  input_some [] l = absurd (omega (arith, l))
  input_some (v ∷ []) l = (_, refl)
  input_some (v ∷ w ∷ vs) l = absurd (omega (arith, l))

  one_some : (kind : Kind ℕ) (vs : List Value) (o : Origin) → length vs ≡ 1 → ((v : Value) → IsSome (one_deed g c n kind v o))
      → ((v : Value) → fired_deed g c n kind (v ∷ []) o ≡ one_deed g c n kind v o) → IsSome (fired_deed g c n kind vs o)
  one_some kind [] o l f e = absurd (omega (arith, l))
  one_some kind (v ∷ []) o l f e = let r = f v in (r.0, e v ∙ r.1)
  one_some kind (v ∷ w ∷ vs) o l f e = absurd (omega (arith, l))

  two_some : (kind : Kind ℕ) (vs : List Value) (o : Origin) → length vs ≡ 2 → ((v w : Value) → IsSome (two_deed g c n kind v w o))
      → ((v w : Value) → fired_deed g c n kind (v ∷ w ∷ []) o ≡ two_deed g c n kind v w o) → IsSome (fired_deed g c n kind vs o)
  two_some kind [] o l f e = absurd (omega (arith, l))
  two_some kind (v ∷ []) o l f e = absurd (omega (arith, l))
  two_some kind (v ∷ w ∷ []) o l f e = let r = f v w in (r.0, e v w ∙ r.1)
  two_some kind (v ∷ w ∷ u ∷ vs) o l f e = absurd (omega (arith, l))

  count_is : (a k m : ℕ) → (a == k) ≡ true → m ≡ a → m ≡ k
  count_is a k m h e = e ∙ eqb-true a k h

  fired_some : (kind : Kind ℕ) (arity : ℕ) (vs : List Value) (o : Origin) → takes_all kind arity ≡ true → length vs ≡ arity
      → IsSome (fired_deed g c n kind vs o)
  fired_some (Lit z) arity vs o h l = one_some (Lit z) vs o (count_is arity 1 (length vs) h l) (λ v. (_, refl)) (λ v. refl)
  fired_some (Apply1 op) arity vs o h l = one_some (Apply1 op) vs o (count_is arity 1 (length vs) h l) (λ v. (_, refl)) (λ v. refl)
  fired_some (Apply2 op) arity vs o h l = two_some (Apply2 op) vs o (count_is arity 2 (length vs) h l) (λ v w. (_, refl)) (λ v w. refl)
  fired_some Cond arity vs o h l = one_some Cond vs o (count_is arity 1 (length vs) h l) (λ v. (_, refl)) (λ v. refl)
  fired_some Enter arity vs o h l = cc
  fired_some (Merge k) arity vs o h l = cc
  fired_some (Fetch a) arity vs o h l = one_some (Fetch a) vs o (count_is arity 1 (length vs) h l) (λ v. (_, refl)) (λ v. refl)
  fired_some (Store a) arity vs o h l = two_some (Store a) vs o (count_is arity 2 (length vs) h l) (λ v w. (_, refl)) (λ v w. refl)
  fired_some (Call f) arity vs o h l = cc
  fired_some (StrictCall f) arity vs o h l = (_, refl)
  fired_some (Loop f k) arity vs o h l = cc

operand_count : (n from k : ℕ) → length (operand_spots n from k) ≡ k
operand_count n from zero = refl
operand_count n from (suc k) = ap suc (operand_count n (from + 1) k)

module _ (g : Graph) (well : WellFormed g) (c : ℕ) (x : Invocation) where
  -- an `enter` lies in an arm
  enter_row : (kind : Kind (List ℕ)) → resolved_in g kind ≡ Enter → kind ≡ Enter
  enter_row Enter h = refl
  enter_row kind h = cc

  gate_row : (n : ℕ) (arity : ℕ) (b : List ℕ × Block (List ℕ)) → slice_get g.blocks x.block ≡ Some b → (t : Bool) → nat_lt n b.1.inputs ≡ t
      → (o : Option (Row (List ℕ))) → slice_get b.1.nodes (n - b.1.inputs) ≡ o
      → (if t then Input else line_of_row g o) ≡ Node Root Enter arity → ⊥
  gate_row n arity b eb true et o eo h = cc
  gate_row n arity b eb false et None eo h = cc
  gate_row n arity b eb false et (Some row) eo h =
      let at : node_at b.1 n ≡ Some row = ap (λ (t : Bool). if t then None else slice_get b.1.nodes (n - b.1.inputs)) et ∙ eo in
      let line = (all_at (λ (named : List ℕ × Block (List ℕ)). IsBlockWell g named.1) g.blocks x.block b well.blocks eb).nodes n row at in
      let region : row.region ≡ Root = cc in
      let resolved : resolved_in g row.kind ≡ Enter = cc in
      let lies : LiesWell b.1 n row.region Enter row.sources = subst (λ kind. LiesWell b.1 n row.region kind row.sources)
      (enter_row row.kind resolved) line.lies in
      lies.0 region

  gate_line : (n arity : ℕ) → line_of g x.block n ≡ Node Root Enter arity → ⊥
  gate_line n arity h =
      let cases : (o : Option (List ℕ × Block (List ℕ))) → slice_get g.blocks x.block ≡ o → line_in g o n ≡ Node Root Enter arity → ⊥
      = λ o. elim o as (λ o. slice_get g.blocks x.block ≡ o → line_in g o n ≡ Node Root Enter arity → ⊥) [
        | None ↦ λ e q. cc
        | Some b ↦ λ e q. gate_row n arity b e (nat_lt n b.1.inputs) refl (slice_get b.1.nodes (n - b.1.inputs)) refl q
      ] in
      cases (slice_get g.blocks x.block) refl h

  gates_some : (n : ℕ) (r : Region) (arity : ℕ) (vs : List Value) → line_of g x.block n ≡ Node r Enter arity → length vs ≡ 2
      → IsSome (deed_in g c x (Gates n) vs)
  gates_some n r arity [] e l = absurd (omega (arith, l))
  gates_some n r arity (v ∷ []) e l = absurd (omega (arith, l))
  gates_some n Root arity (v ∷ b ∷ []) e l = absurd (gate_line n arity e)
  gates_some n (Arm k side) arity (v ∷ b ∷ []) e l = (_, ap (λ l. gated_deed c n l v b) e)
  gates_some n r arity (v ∷ b ∷ w ∷ vs) e l = absurd (omega (arith, l))

  passes_some : (n i : ℕ) (line : Line) (vs : List Value) → line_of g x.block n ≡ line → ((v : Value) → IsSome (passed_deed c n i line v)) → length vs
      ≡ 1 → IsSome (deed_in g c x (Passes n i) vs)
  passes_some n i line [] e f l = absurd (omega (arith, l))
  passes_some n i line (v ∷ []) e f l = let r = f v in (r.0, ap (λ l. passed_deed c n i l v) e ∙ r.1)
  passes_some n i line (v ∷ w ∷ vs) e f l = absurd (omega (arith, l))

  fires_some : (n i arity : ℕ) (r : Region) (kind : Kind ℕ) (shape : Shape) (vs : List Value) → line_of g x.block n ≡ Node r kind arity
      → fires_shape kind arity n i ≡ Some shape → length vs ≡ length (spots_in shape) → IsSome (deed_in g c x shape vs)
  fires_some n i arity r kind shape vs e h l =
      let both = if_all (takes_all kind arity) (nat_lt i arity) (Fires n arity) shape h in
      let long : length vs ≡ arity = subst (λ s. length vs ≡ length (spots_in s)) (sym both.1) l ∙ operand_count n 0 arity in
      let o = origin_of g.version x.block n in
      let fired = fired_some g c n kind arity vs o both.0 long in
      let counted : (length vs == arity) ≡ true = eq-eqb (length vs) arity long in
      subst (λ s. IsSome (deed_in g c x s vs)) both.1
      (fired.0, ap (λ l. line_deed g c n l vs o) e ∙ ap (λ b. if b then fired_deed g c n kind vs o else None) counted ∙ fired.1)
    where
      if_all : (a b : Bool) (x y : Shape) → (if a && b then Some x else None) ≡ Some y → (a ≡ true) × (x ≡ y)
      if_all true true x y h = (refl, same_Some x y h)
      if_all true false x y h = cc
      if_all false b x y h = cc

  passing_some : (n i arity : ℕ) (r : Region) (kind : Kind ℕ) (shape : Shape) (vs : List Value) → line_of g x.block n ≡ Node r kind arity
      → ((v : Value) → IsSome (passed_deed c n i (Node r kind arity) v)) → Some (Passes n i) ≡ Some shape
      → length vs ≡ length (spots_in shape) → IsSome (deed_in g c x shape vs)
  passing_some n i arity r kind shape vs e f h l =
      let same = same_Some (Passes n i) shape h in
      subst (λ s. IsSome (deed_in g c x s vs)) same (passes_some n i (Node r kind arity) vs e f (subst (λ s. length vs ≡ length (spots_in s)) (sym same) l))

  gating_some : (n arity : ℕ) (r : Region) (shape : Shape) (vs : List Value) → line_of g x.block n ≡ Node r Enter arity → Gates n ≡ shape → length vs
      ≡ length (spots_in shape) → IsSome (deed_in g c x shape vs)
  gating_some n arity r shape vs e same l =
      subst (λ s. IsSome (deed_in g c x s vs)) same (gates_some n r arity vs e (subst (λ s. length vs ≡ length (spots_in s)) (sym same) l))

  node_some : (n i arity : ℕ) (r : Region) (kind : Kind ℕ) (shape : Shape) (vs : List Value) → line_of g x.block n ≡ Node r kind arity
      → node_shape kind arity n i ≡ Some shape → length vs ≡ length (spots_in shape) → IsSome (deed_in g c x shape vs)
  node_some n i arity r (Merge k) shape vs e h l = passing_some n i arity r (Merge k) shape vs e (λ v. (_, refl)) h l
  node_some n i arity r (Call f) shape vs e h l = passing_some n i arity r (Call f) shape vs e (λ v. (_, refl)) h l
  node_some n i arity r (Loop f k) shape vs e h l = passing_some n i arity r (Loop f k) shape vs e (λ v. (_, refl)) h l
  node_some n i arity r Enter shape vs e h l = gating_some n arity r shape vs e (if_one (i == 0) (Gates n) shape h).1 l
  node_some n i arity r (Lit z) shape vs e h l = fires_some n i arity r (Lit z) shape vs e h l
  node_some n i arity r (Apply1 op) shape vs e h l = fires_some n i arity r (Apply1 op) shape vs e h l
  node_some n i arity r (Apply2 op) shape vs e h l = fires_some n i arity r (Apply2 op) shape vs e h l
  node_some n i arity r Cond shape vs e h l = fires_some n i arity r Cond shape vs e h l
  node_some n i arity r (Fetch a) shape vs e h l = fires_some n i arity r (Fetch a) shape vs e h l
  node_some n i arity r (Store a) shape vs e h l = fires_some n i arity r (Store a) shape vs e h l
  node_some n i arity r (StrictCall f) shape vs e h l = fires_some n i arity r (StrictCall f) shape vs e h l

  operand_some : (n i : ℕ) (line : Line) (shape : Shape) (vs : List Value) → line_of g x.block n ≡ line → operand_shape line n i ≡ Some shape
      → length vs ≡ length (spots_in shape) → IsSome (deed_in g c x shape vs)
  operand_some n i Input shape vs e h l =
      let same = (if_one (i == 0) (Fires n 1) shape h).1 in
      let o = origin_of g.version x.block n in
      let r = input_some g c n vs (subst (λ s. length vs ≡ length (spots_in s)) (sym same) l) in
      subst (λ s. IsSome (deed_in g c x s vs)) same (r.0, ap (λ l. line_deed g c n l vs o) e ∙ r.1)
  operand_some n i (Node r kind arity) shape vs e h l = node_some n i arity r kind shape vs e h l
  operand_some n i Nothing shape vs e h l = cc

  entered_some : (n arity : ℕ) (r : Region) (kind : Kind ℕ) (shape : Shape) (vs : List Value) → line_of g x.block n ≡ Node r kind arity
      → enter_shape kind n ≡ Some shape → length vs ≡ length (spots_in shape) → IsSome (deed_in g c x shape vs)
  entered_some n arity r Enter shape vs e h l = gating_some n arity r shape vs e (same_Some (Gates n) shape h) l
  entered_some n arity r kind shape vs e h l = cc

  predicate_some : (n : ℕ) (line : Line) (shape : Shape) (vs : List Value) → line_of g x.block n ≡ line → predicate_shape line n ≡ Some shape
      → length vs ≡ length (spots_in shape) → IsSome (deed_in g c x shape vs)
  predicate_some n Input shape vs e h l = cc
  predicate_some n (Node r kind arity) shape vs e h l = entered_some n arity r kind shape vs e h l
  predicate_some n Nothing shape vs e h l = cc

  one_deeds : (f : Value → Option Deed) (shape : Shape) (vs : List Value) → ((v : Value) → deed_in g c x shape (v ∷ []) ≡ f v)
      → ((v : Value) → IsSome (f v)) → length vs ≡ 1 → IsSome (deed_in g c x shape vs)
  one_deeds f shape [] e s l = absurd (omega (arith, l))
  one_deeds f shape (v ∷ []) e s l = let r = s v in (r.0, e v ∙ r.1)
  one_deeds f shape (v ∷ w ∷ vs) e s l = absurd (omega (arith, l))

  out_some : (made : Made) (j : ℕ) (shape : Shape) (vs : List Value) → x.made ≡ made → out_shape made j ≡ Some shape → length vs
      ≡ length (spots_in shape) → IsSome (deed_in g c x shape vs)
  out_some Main j shape vs e h l =
      let same = same_Some (Outputs j) shape h in
      subst (λ s. IsSome (deed_in g c x s vs)) same (one_deeds (λ v. shown_deed Main j v) (Outputs j) vs (λ v. ap (λ m. shown_deed m j v) e)
      (λ v. (_, refl)) (subst (λ s. length vs ≡ length (spots_in s)) (sym same) l))
  out_some (Called by n) j shape vs e h l =
      let same = same_Some (Returns j) shape h in
      subst (λ s. IsSome (deed_in g c x s vs)) same (one_deeds (λ v. returned_deed (Called by n) j v) (Returns j) vs
      (λ v. ap (λ m. returned_deed m j v) e) (λ v. (_, refl)) (subst (λ s. length vs ≡ length (spots_in s)) (sym same) l))
  out_some (Turned by n i) j shape vs e h l = cc

  turned_some : (by n i j : ℕ) (b v : Value) → i + 1 < 2 ^ 64 → IsSome (turned_deed (Turned by n i) x.block j b v)
  turned_some by n i j b v low =
      elim (truth b) as (λ t. IsSome (if t then next_turn by n i x.block j v else Some (Sends by n (j - 1) v))) [
        | true ↦ (_, ap (λ t. if t then Some (Enters (Turned by n (i + 1)) x.block (j - 1) v) else None) (lt-ltb (i + 1) (2 ^ 64) low))
        | false ↦ (_, refl)
      ]

  two_turns : (by n i j : ℕ) (vs : List Value) → x.made ≡ Turned by n i → i + 1 < 2 ^ 64 → length vs ≡ 2 → IsSome (deed_in g c x (Turns j) vs)
  two_turns by n i j [] e low l = absurd (omega (arith, l))
  two_turns by n i j (b ∷ []) e low l = absurd (omega (arith, l))
  two_turns by n i j (b ∷ v ∷ []) e low l = let r = turned_some by n i j b v low in (r.0, ap (λ m. turned_deed m x.block j b v) e ∙ r.1)
  two_turns by n i j (b ∷ v ∷ w ∷ vs) e low l = absurd (omega (arith, l))

  turn_some : (k : ℕ) → k < 2 ^ 64 → (made : Made) → TurnBelow k made → (j : ℕ) (shape : Shape) (vs : List Value) → x.made ≡ made → turn_shape made j
      ≡ Some shape → length vs ≡ length (spots_in shape) → IsSome (deed_in g c x shape vs)
  turn_some k low Main by j shape vs e h l = cc
  turn_some k low (Called by' n) by j shape vs e h l = cc
  turn_some k low (Turned by' n i) by j shape vs e h l =
      let same = same_Some (Turns j) shape h in
      subst (λ s. IsSome (deed_in g c x s vs)) same (two_turns by' n i j vs e (omega (arith, low, by))
      (subst (λ s. length vs ≡ length (spots_in s)) (sym same) l))

  pub deed_some : (k : ℕ) → k < 2 ^ 64 → TurnBelow k x.made → (s : Spot) (shape : Shape) (vs : List Value) → shape_in g x.made x.block s ≡ Some shape
      → length vs ≡ length (spots_in shape) → IsSome (deed_in g c x shape vs)
  deed_some k low by (Operand n i) shape vs h l = operand_some n i (line_of g x.block n) shape vs refl h l
  deed_some k low by (Predicate n) shape vs h l = predicate_some n (line_of g x.block n) shape vs refl h l
  deed_some k low by (Out j) shape vs h l = out_some x.made j shape vs refl h l
  deed_some k low by (Flag j) shape vs h l = turn_some k low x.made by j shape vs refl h l
  deed_some k low by (Carried j) shape vs h l = turn_some k low x.made by j shape vs refl h l

-- So no join fails.
module _ (g : Graph) (well : WellFormed g) (w : List Token) (t : Token) (x : Invocation) (k : ℕ) (low : k < 2 ^ 64) (by : TurnBelow k x.made) where
  never_shape : (o : Option Shape) → shape_in g x.made x.block t.spot ≡ o → join_shape g w t x o ≡ Fails → ⊥
  never_shape None e h = cc
  never_shape (Some shape) e h =
      let ss = spots_in shape in
      let vs = values_of t ss w in
      let there : (b : Bool) → all_there t ss w ≡ b → (if b then join_all g w t x shape else Alone) ≡ Fails → ⊥
      = λ b. elim b as (λ b. all_there t ss w ≡ b → (if b then join_all g w t x shape else Alone) ≡ Fails → ⊥) [
        | true ↦ λ q h.
            let long = values_full t ss w (spots_apart shape) q in
            let counted : (length vs == length ss) ≡ true = eq-eqb (length vs) (length ss) long in
            let d = deed_some g well t.context x k low by t.spot shape vs e long in
            let whole : join_all g w t x shape ≡ Joins (remaining_of t ss w) vs d.0 = ap
            (λ b. if b then joins (remaining_of t ss w) vs (deed_in g t.context x shape vs) else Fails) counted ∙ ap (joins (remaining_of t ss w) vs) d.1 in
            let no = sym whole ∙ h in
            cc
        | false ↦ λ q h. cc
      ] in
      there (all_there t ss w) refl h

  pub never_fails : join_in g w t (Some x) ≡ Fails → ⊥
  never_fails h = never_shape (shape_in g x.made x.block t.spot) refl h
