-- A run over rows reports what the run over one list reports.
use Rattle.std.proofs.Common.{◌≡◌, ℕ, zero, suc, ◌-◌, ◌<◌, Bool, true, false, ◌==◌, ℤ, List, [], ◌∷◌, ◌++◌, map, length, Option, Some, None, Result}
use Rattle.std.proofs.Common.{Ok, Err, slice_get, slice_set, slice_index_or, if◌then◌else◌, refl, sym, ap, ◌∙◌, subst, arith, eqb-true, eq-eqb}
use Rattle.tags.specs.declared.value.Value.{Value}
use Rattle.semantics.specs.Graph.{Graph}
use Rattle.oracle.specs.declared.invocations.Invocation.{Invocation}
use Rattle.oracle.specs.declared.shapes.Shape.{Shape}
use Rattle.oracle.specs.Deeds.{Deed, Sends, Steers, Enters, EntersAll, Stops, Reads, Fills, Puts}
use Rattle.oracle.specs.declared.state.Gate.{Gate}
use Rattle.oracle.specs.declared.state.Gate.TheVariants.{Free, Defers, Clashes}
use Rattle.oracle.specs.declared.tokens.Spot.{Spot}
use Rattle.oracle.specs.declared.tokens.Token.{Token}
use Rattle.oracle.specs.declared.report.MeanEnd.{MeanEnd}
use Rattle.oracle.specs.declared.report.MeanEnd.TheVariants.{Clash, Steps}
use Rattle.oracle.specs.Lines.{spots_in, shape_in}
use Rattle.oracle.specs.Acting.{all_there, remaining_of, values_of, deed_in, gate_of}
use Rattle.oracle.specs.Running.{Plain, plain, Matched, Alone, Joins, Fails, joins, join_values, join_all, join_shape, join_in, join_of, Came, Acts}
use Rattle.oracle.specs.Running.{Ends, Broken, next_of, next_in, run_of, performed, start_of, end_result_of, run_result}
use Rattle.std.specs.Prelude.{MatchOption, IfOk}
use Rattle.oracle.proofs.RowLists.{row_here, row_set, set_here}
use Rattle.oracle.specs.Rows.{rows_of, with_row, no_rows, Next, Goes, Stays, Breaks, row_next, next_among, run_among}
use Rattle.oracle.proofs.Views.{joined_view}
use Rattle.oracle.proofs.Rows.{keep, mine, there_mine, left_mine, left_other, values_mine}

-- JOINING

abbrev pub cut : ℕ → Matched → Matched
cut c Alone = Alone
cut c (Joins left vs d) = Joins (mine c left) vs d
cut c Fails = Fails

module _ (g : Graph) (w : List Token) (t : Token) where
  joins_mine : (ss : List Spot) (vs : List Value) (o : Option Deed)
      → joins (remaining_of t ss (mine t.context w)) vs o ≡ cut t.context (joins (remaining_of t ss w) vs o)
  joins_mine ss vs None = refl
  joins_mine ss vs (Some d) = ap (λ r. Joins r vs d) (left_mine t ss w)

  counted_mine : (x : Invocation) (shape : Shape) (vs : List Value) (b : Bool)
      → (if b then joins (remaining_of t (spots_in shape) (mine t.context w)) vs (deed_in g t.context x shape vs) else Fails)
      ≡ cut t.context (if b then joins (remaining_of t (spots_in shape) w) vs (deed_in g t.context x shape vs) else Fails)
  counted_mine x shape vs true = joins_mine (spots_in shape) vs (deed_in g t.context x shape vs)
  counted_mine x shape vs false = refl

  shape_mine : (x : Invocation) (o : Option Shape) → join_shape g (mine t.context w) t x o ≡ cut t.context (join_shape g w t x o)
  shape_mine x None = refl
  shape_mine x (Some shape) =
      ap (λ b. if b then join_all g (mine t.context w) t x shape else Alone) (there_mine t (spots_in shape) w) ∙ go (all_there t (spots_in shape) w)
    where
      go : (b : Bool) → (if b then join_all g (mine t.context w) t x shape else Alone) ≡ cut t.context (if b then join_all g w t x shape else Alone)
      go true =
          let vs = values_of t (spots_in shape) w in
          ap (λ vs. join_values g (mine t.context w) t x shape vs) (values_mine t (spots_in shape) w)
          ∙ counted_mine x shape vs (length vs == length (spots_in shape))
      go false = refl

  pub in_mine : (o : Option Invocation) → join_in g (mine t.context w) t o ≡ cut t.context (join_in g w t o)
  in_mine None = refl
  in_mine (Some x) = shape_mine x (shape_in g x.made x.block t.spot)

  -- what is left when some of the token's partners are out
  pub left_by : (o : Option Invocation) (left : List Token) (vs : List Value) (d : Deed) → join_in g w t o ≡ Joins left vs d → (ss : List Spot)
      × (remaining_of t ss w ≡ left)
  left_by None left vs d e = cc
  left_by (Some x) left vs d e = let v = joined_view g w t x left vs d e in (spots_in v.shape, v.rest)

-- ROWS

flip : (a b : ℕ) → (a == b) ≡ false → (b == a) ≡ false
flip a b e = go (b == a) refl
  where
    go : (x : Bool) → (b == a) ≡ x → (b == a) ≡ false
    go true q =
        let yes : (a == b) ≡ true = eq-eqb a b (sym (eqb-true b a q)) in
        cc
    go false q = q

nil_right : (xs : List Token) → xs ≡ xs ++ []
nil_right [] = refl
nil_right (x ∷ xs) = ap (λ r. x ∷ r) (nil_right xs)

mine_last : (d : ℕ) (w : List Token) (t : Token) → mine d (w ++ t ∷ []) ≡ mine d w ++ keep (t.context == d) t []
mine_last d [] t = refl
mine_last d (u ∷ us) t = ap (λ r. keep (u.context == d) u r) (mine_last d us t) ∙ go (u.context == d)
  where
    go : (b : Bool) → keep b u (mine d us ++ keep (t.context == d) t []) ≡ keep b u (mine d us) ++ keep (t.context == d) t []
    go true = refl
    go false = refl

pub rows_alone : (w : List Token) (t : Token) → with_row (λ c. mine c w) t.context (mine t.context w ++ t ∷ []) ≡ (λ c. mine c (w ++ t ∷ []))
rows_alone w t = λ i d. at d i
  where
    at : (d : ℕ) → with_row (λ c. mine c w) t.context (mine t.context w ++ t ∷ []) d ≡ mine d (w ++ t ∷ [])
    at d = go (d == t.context) refl ∙ sym (mine_last d w t)
      where
        go : (b : Bool) → (d == t.context) ≡ b → (if b then mine t.context w ++ t ∷ [] else mine d w) ≡ mine d w ++ keep (t.context == d) t []
        go true p =
            let same : t.context ≡ d = sym (eqb-true d t.context p) in
            ap (λ k. mine k w ++ t ∷ []) same ∙ sym (ap (λ b. mine d w ++ keep b t []) (eq-eqb t.context d same))
        go false p = nil_right (mine d w) ∙ sym (ap (λ b. mine d w ++ keep b t []) (flip d t.context p))

pub rows_left : (w : List Token) (t : Token) (ss : List Spot) (left : List Token) → remaining_of t ss w ≡ left
    → with_row (λ c. mine c w) t.context (mine t.context left) ≡ (λ c. mine c left)
rows_left w t ss left e = λ i d. at d i
  where
    at : (d : ℕ) → with_row (λ c. mine c w) t.context (mine t.context left) d ≡ mine d left
    at d = go (d == t.context) refl
      where
        go : (b : Bool) → (d == t.context) ≡ b → (if b then mine t.context left else mine d w) ≡ mine d left
        go true p = ap (λ k. mine k left) (sym (eqb-true d t.context p))
        go false p = sym (left_other t d p ss w) ∙ ap (λ r. mine d r) e

-- WHAT COMES NEXT

abbrev pub bare : Plain → Plain
bare s = plain s.invocations s.fresh [] s.deferred s.cells s.outputs

abbrev rowed : Came → Next
rowed (Acts s vs d) = Goes (bare s) (λ c. mine c s.waiting) vs d
rowed (Ends s e) = Stays (bare s) e
rowed Broken = Breaks

module _ (g : Graph) (xs : List Invocation) (cells outputs : List (Option Value)) where
  abbrev pub row_gated : Token → List Token → (ℕ → List Token) → List Token → List Token → List Value → Deed → Gate → Next
  row_gated t ts rows d left vs deed gate = elim gate [
    | Free ↦ Goes (plain xs ts [] d cells outputs) (with_row rows t.context left) vs deed
    | Defers ↦ row_next g xs cells outputs ts (with_row rows t.context left) (d ++ t ∷ [])
    | Clashes a i ↦ Stays (plain xs ts [] d cells outputs) (Clash a i)
  ]

  abbrev pub row_matched : Token → List Token → (ℕ → List Token) → List Token → Matched → Next
  row_matched t ts rows d j = elim j [
    | Alone ↦ row_next g xs cells outputs ts (with_row rows t.context (rows t.context ++ t ∷ [])) d
    | Joins left vs deed ↦ row_gated t ts rows d left vs deed (gate_of cells deed)
    | Fails ↦ Breaks
  ]

  abbrev list_gated : Token → List Token → List Token → List Token → List Value → Deed → Gate → Came
  list_gated t ts d left vs deed gate = elim gate [
    | Free ↦ Acts (plain xs ts left d cells outputs) vs deed
    | Defers ↦ next_of g xs cells outputs ts left (d ++ t ∷ [])
    | Clashes a i ↦ Ends (plain xs ts left d cells outputs) (Clash a i)
  ]

  abbrev list_joined : Token → List Token → List Token → List Token → Matched → Came
  list_joined t ts w d j = elim j [
    | Alone ↦ next_of g xs cells outputs ts (w ++ t ∷ []) d
    | Joins left vs deed ↦ list_gated t ts d left vs deed (gate_of cells deed)
    | Fails ↦ Broken
  ]

  abbrev Same : List Token → Type 0
  Same ts = (w d : List Token) → row_next g xs cells outputs ts (λ c. mine c w) d ≡ rowed (next_of g xs cells outputs ts w d)

  gated_same : (t : Token) (ts w d : List Token) → Same ts → (left : List Token) (vs : List Value) (deed : Deed)
      → with_row (λ c. mine c w) t.context (mine t.context left) ≡ (λ c. mine c left)
      → (gate : Gate) → row_gated t ts (λ c. mine c w) d (mine t.context left) vs deed gate ≡ rowed (list_gated t ts d left vs deed gate)
  gated_same t ts w d ih left vs deed rows Free = ap (λ r. Goes (plain xs ts [] d cells outputs) r vs deed) rows
  gated_same t ts w d ih left vs deed rows Defers = ap (λ r. row_next g xs cells outputs ts r (d ++ t ∷ [])) rows ∙ ih left (d ++ t ∷ [])
  gated_same t ts w d ih left vs deed rows (Clashes a i) = refl

  joined_same : (t : Token) (ts w d : List Token) → Same ts → (j : Matched) → join_of g xs w t ≡ j
      → row_matched t ts (λ c. mine c w) d (cut t.context j) ≡ rowed (list_joined t ts w d j)
  joined_same t ts w d ih Alone e = ap (λ r. row_next g xs cells outputs ts r d) (rows_alone w t) ∙ ih (w ++ t ∷ []) d
  joined_same t ts w d ih (Joins left vs deed) e =
      let by = left_by g w t (slice_get xs t.context) left vs deed e in
      gated_same t ts w d ih left vs deed (rows_left w t by.0 left by.1) (gate_of cells deed)
  joined_same t ts w d ih Fails e = refl

  next_same : (ts : List Token) → Same ts
  next_same [] w d = refl
  next_same (t ∷ ts) w d =
      ap (λ j. row_matched t ts (λ c. mine c w) d j) (in_mine g w t (slice_get xs t.context)) ∙ joined_same t ts w d (next_same ts) (join_of g xs w t) refl

next_rows : (g : Graph) (s : Plain) → next_among g (bare s) (λ c. mine c s.waiting) ≡ rowed (next_in g s)
next_rows g s = next_same g s.invocations s.cells s.outputs s.fresh s.waiting s.deferred

-- A RUN

pub performed_bare : (g : Graph) (s : Plain) (vs : List Value) (d : Deed) → performed g (bare s) vs d ≡ bare (performed g s vs d)
performed_bare g s vs (Sends c n p v) = refl
performed_bare g s vs (Steers c k v) = refl
performed_bare g s vs (Enters made f i v) = refl
performed_bare g s vs (EntersAll made f) = refl
performed_bare g s vs Stops = refl
performed_bare g s vs (Reads c n x) = refl
performed_bare g s vs (Fills c n x a i v) = refl
performed_bare g s vs (Puts j v) = refl

pub performed_waits : (g : Graph) (s : Plain) (vs : List Value) (d : Deed) → s.waiting ≡ (performed g s vs d).waiting
performed_waits g s vs (Sends c n p v) = refl
performed_waits g s vs (Steers c k v) = refl
performed_waits g s vs (Enters made f i v) = refl
performed_waits g s vs (EntersAll made f) = refl
performed_waits g s vs Stops = refl
performed_waits g s vs (Reads c n x) = refl
performed_waits g s vs (Fills c n x a i v) = refl
performed_waits g s vs (Puts j v) = refl

abbrev pub bare_end : Option (MeanEnd × Plain) → Option (MeanEnd × Plain)
bare_end None = None
bare_end (Some r) = Some (r.0, bare r.1)

abbrev ended : Next → Option (MeanEnd × Plain)
ended n = elim n [ Goes t rs vs d ↦ Some (Steps, t) | Stays t e ↦ Some (e, t) | Breaks ↦ None ]

abbrev went : Graph → ℕ → Next → Option (MeanEnd × Plain)
went g k n = elim n [ Goes t rs vs d ↦ run_among g k (performed g t vs d) rs | Stays t e ↦ Some (e, t) | Breaks ↦ None ]

pub run_rows : (g : Graph) (k : ℕ) (s : Plain) → run_among g k (bare s) (λ c. mine c s.waiting) ≡ bare_end (run_of g k s)
run_rows g zero s = ap ended (next_rows g s) ∙ go (next_in g s)
  where
    go : (n : Came) → ended (rowed n) ≡ bare_end (elim n [ Acts t vs d ↦ Some (Steps, t) | Ends t e ↦ Some (e, t) | Broken ↦ None ])
    go (Acts t vs d) = refl
    go (Ends t e) = refl
    go Broken = refl
run_rows g (suc k) s = ap (went g k) (next_rows g s) ∙ go (run_rows g k) (next_in g s)
  where
    go : ((s : Plain) → run_among g k (bare s) (λ c. mine c s.waiting) ≡ bare_end (run_of g k s)) → (n : Came)
        → went g k (rowed n) ≡ bare_end (elim n [ Acts t vs d ↦ run_of g k (performed g t vs d) | Ends t e ↦ Some (e, t) | Broken ↦ None ])
    go ih (Acts t vs d) =
        ap (λ s. run_among g k s (λ c. mine c t.waiting)) (performed_bare g t vs d)
        ∙ ap (λ w. run_among g k (bare (performed g t vs d)) (λ c. mine c w)) (performed_waits g t vs d)
        ∙ ih (performed g t vs d)
    go ih (Ends t e) = refl
    go ih Broken = refl

pub result_among : (g : Graph) (inputs : List ℤ) (steps : ℕ) → run_result g inputs steps ≡ end_result_of g (run_among g steps (start_of g inputs) no_rows)
result_among g inputs steps = go (run_of g steps (start_of g inputs)) ∙ sym (ap (end_result_of g) (run_rows g steps (start_of g inputs)))
  where
    go : (r : Option (MeanEnd × Plain)) → end_result_of g r ≡ end_result_of g (bare_end r)
    go None = refl
    go (Some r) = refl

-- a step of a run
pub run_goes : (g : Graph) (s t : Plain) (rows rows' : ℕ → List Token) (vs : List Value) (d : Deed) (n : ℕ) (all : Option (MeanEnd × Plain)) → 0 < n
    → all ≡ run_among g n s rows
    → next_among g s rows ≡ Goes t rows' vs d → all ≡ run_among g (n - 1) (performed g t vs d) rows'
run_goes g s t rows rows' vs d n all h e is =
    let one : n ≡ suc (n - 1) = omega (arith, h) in
    e ∙ ap (λ k. run_among g k s rows) one ∙ ap (went g (n - 1)) is

-- the ends of a run
pub run_stops : (g : Graph) (s t : Plain) (rows rows' : ℕ → List Token) (vs : List Value) (d : Deed) (n : ℕ) → n ≡ 0 → next_among g s rows
    ≡ Goes t rows' vs d → run_among g n s rows ≡ Some (Steps, t)
run_stops g s t rows rows' vs d n h is = ap (λ k. run_among g k s rows) h ∙ ap ended is

pub run_stays : (g : Graph) (s t : Plain) (rows : ℕ → List Token) (e : MeanEnd) (n : ℕ) → next_among g s rows ≡ Stays t e → run_among g n s rows ≡ Some (e, t)
run_stays g s t rows e zero is = ap ended is
run_stays g s t rows e (suc n) is = ap (went g n) is

pub run_breaks : (g : Graph) (s : Plain) (rows : ℕ → List Token) (n : ℕ) → next_among g s rows ≡ Breaks → run_among g n s rows ≡ None
run_breaks g s rows zero is = ap ended is
run_breaks g s rows (suc n) is = ap (went g n) is

-- the same run, by equal states and equal rows
pub run_kept : {V : Type 0} (g : Graph) (k : ℕ) (q r : Plain) (w v : List V) (f : V → List Token) → q ≡ r → v ≡ w
    → run_among g k q (rows_of (map f w)) ≡ run_among g k r (rows_of (map f v))
run_kept g k q r w v f e h = ap (λ s. run_among g k s (rows_of (map f w))) e ∙ ap (λ w. run_among g k r (rows_of (map f w))) (sym h)

-- from the start, with no row
pub told_from : {V : Type 0} (g : Graph) (inputs : List ℤ) (steps : ℕ) (s : Plain) (w : List V) (f : V → List Token) → s ≡ start_of g inputs → w ≡ []
    → run_result g inputs steps ≡ end_result_of g (run_among g steps s (rows_of (map f w)))
told_from {V} g inputs steps s w f e h =
    result_among g inputs steps ∙ ap (end_result_of g) (run_kept g steps (start_of g inputs) s [] w f (sym e) h)

pub told_none : {V : Type 0} (g : Graph) (inputs : List ℤ) (steps : ℕ) (s : Plain) (w : List V) (f : V → List Token) → s ≡ start_of g inputs → w ≡ []
    → run_among g steps s (rows_of (map f w)) ≡ None → run_result g inputs steps ≡ None
told_none g inputs steps s w f e h n = told_from g inputs steps s w f e h ∙ ap (end_result_of g) n

-- A TOKEN AND THE RESULT OF JOINING IT
abbrev pub Among : {X : Type 0} → Graph → List Invocation → Token → (ℕ → List Token) → (ℕ → List Token) → (X → List Value) → (X → Deed) → Option X → Type 0
Among g xs t rows new values deed o =
    MatchOption o ((join_of g xs (rows t.context) t ≡ Alone) × (with_row rows t.context (rows t.context ++ t ∷ []) ≡ new))
    (λ a. (join_of g xs (rows t.context) t ≡ Joins (new t.context) (values a) (deed a)) × (with_row rows t.context (new t.context) ≡ new))

module _ (g : Graph) (xs : List Invocation) (cells outputs : List (Option Value)) (t : Token) (ts d : List Token) (rows new : ℕ → List Token) where
  pub next_alone : {X : Type 0} (o : Option X) (values : X → List Value) (deed : X → Deed) → o ≡ None → Among g xs t rows new values deed o
      → row_next g xs cells outputs (t ∷ ts) rows d ≡ row_next g xs cells outputs ts new d
  next_alone o values deed is h =
      let a = subst (λ o. Among g xs t rows new values deed o) is h in
      ap (λ j. row_matched g xs cells outputs t ts rows d j) a.0 ∙ ap (λ r. row_next g xs cells outputs ts r d) a.1

  pub next_free : {X : Type 0} (o : Option X) (a : X) (values : X → List Value) (deed : X → Deed) → o ≡ Some a → Among g xs t rows new values deed o
      → gate_of cells (deed a) ≡ Free
      → row_next g xs cells outputs (t ∷ ts) rows d ≡ Goes (plain xs ts [] d cells outputs) new (values a) (deed a)
  next_free o a values deed is h gate =
      let b = subst (λ o. Among g xs t rows new values deed o) is h in
      ap (λ j. row_matched g xs cells outputs t ts rows d j) b.0 ∙ ap (λ k. row_gated g xs cells outputs t ts rows d (new t.context) (values a) (deed a) k) gate
      ∙ ap (λ r. Goes (plain xs ts [] d cells outputs) r (values a) (deed a)) b.1

  pub next_defers : {X : Type 0} (o : Option X) (a : X) (values : X → List Value) (deed : X → Deed) → o ≡ Some a → Among g xs t rows new values deed o
      → gate_of cells (deed a) ≡ Defers
      → row_next g xs cells outputs (t ∷ ts) rows d ≡ row_next g xs cells outputs ts new (d ++ t ∷ [])
  next_defers o a values deed is h gate =
      let b = subst (λ o. Among g xs t rows new values deed o) is h in
      ap (λ j. row_matched g xs cells outputs t ts rows d j) b.0 ∙ ap (λ k. row_gated g xs cells outputs t ts rows d (new t.context) (values a) (deed a) k) gate
      ∙ ap (λ r. row_next g xs cells outputs ts r (d ++ t ∷ [])) b.1

-- what holds of a row, stated of all rows
pub among : {V X E : Type 0} (g : Graph) (xs : List Invocation) (t : Token) (r : Result (Option X) E) (old mid : List V) (row v : V)
    (f : V → List Token) (values : X → List Value) (deed : X → Deed)
    → rows_of (map f mid) ≡ rows_of (map f old) → t.context < length mid → row ≡ slice_index_or mid t.context row
    → IfOk r (λ o. MatchOption o ((join_of g xs (f row) t ≡ Alone) × (f v ≡ f row ++ t ∷ [])) (λ a. join_of g xs (f row) t ≡ Joins (f v) (values a) (deed a)))
    → IfOk r (λ o. Among g xs t (rows_of (map f old)) (rows_of (map f (slice_set mid t.context v))) values deed o)
among g xs t (Err e) old mid row v f values deed same there is h = tt
among g xs t (Ok None) old mid row v f values deed same there is h =
    let c = t.context in
    let here : rows_of (map f old) c ≡ f row = ap (λ r. r c) (sym same) ∙ row_here f mid c row there ∙ ap f (sym is) in (
      ap (λ r. join_of g xs r t) here ∙ h.0,
      ap (λ r. with_row (rows_of (map f old)) c r) (ap (λ r. r ++ t ∷ []) here ∙ sym h.1) ∙ ap (λ rs. with_row rs c (f v)) (sym same) ∙ row_set f mid c v there,
    )
among g xs t (Ok (Some a)) old mid row v f values deed same there is h =
    let c = t.context in
    let here : rows_of (map f old) c ≡ f row = ap (λ r. r c) (sym same) ∙ row_here f mid c row there ∙ ap f (sym is) in
    let written : rows_of (map f (slice_set mid c v)) c ≡ f v = set_here f mid c v there in (
      ap (λ r. join_of g xs r t) here ∙ h ∙ ap (λ l. Joins l (values a) (deed a)) (sym written),
      ap (λ r. with_row (rows_of (map f old)) c r) written ∙ ap (λ rs. with_row rs c (f v)) (sym same) ∙ row_set f mid c v there,
    )
