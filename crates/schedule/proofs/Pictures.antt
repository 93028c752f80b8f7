-- What lanes report is a picture of the machine that they are the parts of.
use Rattle.std.proofs.Common.{◌≡◌, refl, sym, ◌∙◌, ap, subst, ℕ, zero, suc, ◌*◌, ◌/◌, ◌%◌, ◌<◌, ◌≤◌, ◌⊎◌, inl, inr, Bool, List, [], ◌∷◌, ◌++◌}
use Rattle.std.proofs.Common.{length, Option, Some, None, arith, ⊎_elim}
use Rattle.std.specs.Prelude.{option_and_then, slice_get, sum, nat_lt, Contains, if◌then◌else◌}
use Rattle.std.proofs.Math.Nat.{mod-lt}
use Rattle.std.proofs.lemmas.Bool.{eq-eqb, lt-ltb, cases_lt}
use Rattle.std.proofs.lemmas.List.{take_all, append-nil}
use Rattle.std.proofs.lemmas.List.Elements.{Contains-append_left, Contains-append_right, Contains-append_cases}
use Rattle.std.proofs.lemmas.Option.{slice_get_within, get_or_from_slice_get}
use Rattle.lemmas.proofs.SliceGet.{get_some}
use Rattle.tags.specs.declared.value.Value.{Value}
use Rattle.tags.specs.declared.slot.SlotState.{SlotState}
use Rattle.semantics.specs.Rule.{array_base}
use Rattle.semantics.specs.Machine.{Machine, Store, CellState, Vacant, Full, Deferred, value_in, reader_count}
use Rattle.semantics.specs.Report.{Report, IsPicture, sum_below, waiters, one_if}
use Rattle.istructure.specs.OwnCells.{OwnCells, cell_at, value_at, place_of, readers_in}
use Rattle.istructure.proofs.Places.{cell_at-place}
use Rattle.frame_manager.specs.Managed.{Managed}
use Rattle.frame_manager.specs.Flags.{flag_at}
use Rattle.tags.specs.declared.token.Token.{Token}
use Rattle.semantics.proofs.Sums.{sum_same}
use Rattle.element.specs.Parts.{IsPart, IsSound, IsSoundManager, Manages, bounds}
use Rattle.element.specs.Near.{Bounds}
use Rattle.element.specs.Holding.{Holding}
use Rattle.schedule.specs.Setting.{Setting, size, total, IsGoodSetting}
use Rattle.schedule.specs.State.{State, AllFrom, IsPlaced, IsSoundState, IsBounded, AreParts}
use Rattle.schedule.specs.Reported.{value_of, readers_of, cell_value, cell_readers, entry, full_below, slot_of_lane, slot_at, credits_below}
use Rattle.schedule.specs.Reported.{requests_in, out_in, ShowsLanes}
use Rattle.schedule.proofs.Places.{first_get, from_both}

-- nothing from k on
sum_stops : (n k : ℕ) (g : ℕ → ℕ) → k ≤ n → ((x : ℕ) → k ≤ x → g x ≡ 0) → sum_below n g ≡ sum_below k g
sum_stops zero k g low none = let e : 0 ≡ k = omega arith in ap (λ (m : ℕ). sum_below m g) e
sum_stops (suc n) k g low none = by_place (cases_lt n k) (λ (l : k ≤ n). sum_stops n k g l none)
  where
    by_place : (n < k) ⊎ (k ≤ n) → (k ≤ n → sum_below n g ≡ sum_below k g) → sum_below (suc n) g ≡ sum_below k g
    by_place (inl past) rest = let e : suc n ≡ k = omega arith in ap (λ (m : ℕ). sum_below m g) e
    by_place (inr within) rest = let before = rest within in let here : g n ≡ 0 = none n within in omega arith

-- what is known of a lane
pub record IsKnown (g : Setting) (m : Store) (i : ℕ) (h : Holding) : Type 0 where
  pub element : h.part.shape.element ≡ i
  pub elements : h.part.shape.elements ≡ g.elements
  pub frames : h.part.shape.frames ≡ g.frames
  pub width : h.part.shape.width ≡ g.width
  pub sound : IsSound g.program h.part
  pub part : IsPart h.part m

-- where an element owns a cell, its state is there
own_state : (own : OwnCells) (x : ℕ) → x % own.elements ≡ own.element → x / own.elements < length own.states → (state : CellState)
    × (cell_at own x ≡ Some state)
own_state own x ours low =
    let k : ℕ = x / own.elements in
    let place : place_of own x ≡ Some k = ap (λ (b : Bool). if b then (if nat_lt k (length own.states) then Some k else None) else None)
    (eq-eqb (x % own.elements) own.element ours) ∙ ap (λ (b : Bool). if b then Some k else None) (lt-ltb k (length own.states) low) in
    let state = get_some own.states k low in
    (state.0, cell_at-place own x k place ∙ state.1)

readers_same : (own : OwnCells) (x : ℕ) (state : CellState) → cell_at own x ≡ Some state → readers_in (cell_at own x) ≡ reader_count state
readers_same own x state e = ap (λ (o : Option CellState). readers_in o) e

-- FULL CELLS
below_entry : (x : ℕ) (o : Option Value) (y : ℕ) (v : Value) → Contains (entry x o) (y, v) → (y ≡ x) × (o ≡ Some v)
below_entry x None y v c = absurd (omega (arith, c.1))
below_entry x (Some w) y v (zero, low, is) = let a : x ≡ y = ap (λ (p : ℕ × Value). p.0) is in let b : w ≡ v = ap (λ (p : ℕ × Value). p.1) is
    in (sym a, ap (λ (u : Value). Some u) b)
below_entry x (Some w) y v (suc k, low, is) = absurd (omega (arith, low))

in_full : (n : ℕ) (lanes : List Holding) (k y : ℕ) (v : Value) → Contains (full_below n lanes k) (y, v) → (y < k) × (cell_value n lanes y ≡ Some v)
in_full n lanes zero y v c = absurd (omega (arith, c.1))
in_full n lanes (suc k) y v c = by_part (Contains-append_cases (full_below n lanes k) (entry k (cell_value n lanes k)) (y, v) c) (λ d. in_full n lanes k y v d)
  where
    by_part : Contains (full_below n lanes k) (y, v) ⊎ Contains (entry k (cell_value n lanes k)) (y, v)
        → (Contains (full_below n lanes k) (y, v) → (y < k) × (cell_value n lanes y ≡ Some v)) → (y < suc k) × (cell_value n lanes y ≡ Some v)
    by_part (inl c) rest = let r = rest c in let l : y < k = r.0 in (omega arith, r.1)
    by_part (inr c) rest = let e = below_entry k (cell_value n lanes k) y v c in let same : y ≡ k = e.0
        in (omega arith, ap (λ (x : ℕ). cell_value n lanes x) same ∙ e.1)

has_entry : (x : ℕ) (o : Option Value) (v : Value) → o ≡ Some v → Contains (entry x o) (x, v)
has_entry x o v e = subst (λ (u : Option Value). Contains (entry x u) (x, v)) (sym e) (0, omega arith, refl)

has_full : (n : ℕ) (lanes : List Holding) (k y : ℕ) (v : Value) → y < k → cell_value n lanes y ≡ Some v → Contains (full_below n lanes k) (y, v)
has_full n lanes zero y v low e = absurd (omega arith)
has_full n lanes (suc k) y v low e = by_place (cases_lt y k) (λ (l : y < k). has_full n lanes k y v l e)
  where
    by_place : (y < k) ⊎ (k ≤ y) → (y < k → Contains (full_below n lanes k) (y, v)) → Contains (full_below n lanes k ++ entry k (cell_value n lanes k)) (y, v)
    by_place (inl l) rest = Contains-append_left (full_below n lanes k) (entry k (cell_value n lanes k)) (y, v) (rest l)
    by_place (inr l) rest =
        let same : y ≡ k = omega arith in
        Contains-append_right (full_below n lanes k) (entry k (cell_value n lanes k)) (y, v)
        (subst (λ (x : ℕ). Contains (entry k (cell_value n lanes k)) (x, v)) (sym same)
        (has_entry k (cell_value n lanes k) v (ap (λ (x : ℕ). cell_value n lanes x) (sym same) ∙ e)))

-- they ascend
abbrev Ascends : List (ℕ × Value) → Type 0
Ascends cs = (i j : ℕ) (c d : ℕ × Value) → i < j → slice_get cs i ≡ Some c → slice_get cs j ≡ Some d → c.0 < d.0

abbrev AllLess : ℕ → List (ℕ × Value) → Type 0
AllLess k cs = (i : ℕ) (c : ℕ × Value) → slice_get cs i ≡ Some c → c.0 < k

less_push : (cs : List (ℕ × Value)) (k : ℕ) (v : Value) → AllLess k cs → AllLess (suc k) (cs ++ (k, v) ∷ [])
less_push [] k v all zero c e = let n : k ≡ c.0 = ap_first e in omega arith
  where
    ap_first : {c : ℕ × Value} → Some (k, v) ≡ Some c → k ≡ c.0
    ap_first {c} e = let same : (k, v) ≡ c = cc in ap (λ (p : ℕ × Value). p.0) same
less_push [] k v all (suc i) c e = absurd (let no : ⊥ = cc in no)
less_push (d ∷ ds) k v all zero c e = let l : c.0 < k = all 0 c e in omega arith
less_push (d ∷ ds) k v all (suc i) c e = less_push ds k v (λ j b q. all (suc j) b q) i c e

last_is : (cs : List (ℕ × Value)) (k : ℕ) (v : Value) (j : ℕ) (d : ℕ × Value) → slice_get (cs ++ (k, v) ∷ []) j ≡ Some d
    → (slice_get cs j ≡ Some d) ⊎ ((j ≡ length cs) × (d.0 ≡ k))
last_is [] k v zero d e = let same : (k, v) ≡ d = cc in inr (refl, sym (ap (λ (p : ℕ × Value). p.0) same))
last_is [] k v (suc j) d e = absurd (let no : ⊥ = cc in no)
last_is (c ∷ cs) k v zero d e = inl e
last_is (c ∷ cs) k v (suc j) d e = by_case (last_is cs k v j d e)
  where
    by_case : (slice_get cs j ≡ Some d) ⊎ ((j ≡ length cs) × (d.0 ≡ k)) → (slice_get cs j ≡ Some d) ⊎ ((suc j ≡ suc (length cs)) × (d.0 ≡ k))
    by_case (inl s) = inl s
    by_case (inr (a, b)) = inr (ap (λ (n : ℕ). suc n) a, b)

ascend_push : (cs : List (ℕ × Value)) (k : ℕ) (v : Value) → AllLess k cs → Ascends cs → Ascends (cs ++ (k, v) ∷ [])
ascend_push cs k v less up i j c d low got also = by_case (last_is cs k v i c got) (last_is cs k v j d also)
  where
    by_case : (slice_get cs i ≡ Some c) ⊎ ((i ≡ length cs) × (c.0 ≡ k)) → (slice_get cs j ≡ Some d) ⊎ ((j ≡ length cs) × (d.0 ≡ k)) → c.0 < d.0
    by_case (inl a) (inl b) = up i j c d low a b
    by_case (inl a) (inr (at, is)) = let l : c.0 < k = less i c a in omega arith
    by_case (inr (at, is)) (inl b) = let w = slice_get_within cs j d b in absurd (omega arith)
    by_case (inr (at, is)) (inr (also_at, also_is)) = absurd (omega arith)

less_by : (k : ℕ) (cs : List (ℕ × Value)) (o : Option Value) → AllLess k cs → AllLess (suc k) (cs ++ entry k o)
less_by k cs None all i c e = let l : c.0 < k = all i c (subst (λ (l : List (ℕ × Value)). slice_get l i ≡ Some c) (append-nil cs) e) in omega arith
less_by k cs (Some v) all i c e = less_push cs k v all i c e

full_less : (n : ℕ) (lanes : List Holding) (k : ℕ) → AllLess k (full_below n lanes k)
full_less n lanes zero = λ i c e. absurd (let no : ⊥ = cc in no)
full_less n lanes (suc k) = less_by k (full_below n lanes k) (cell_value n lanes k) (full_less n lanes k)

ascend_by : (k : ℕ) (cs : List (ℕ × Value)) (o : Option Value) → AllLess k cs → Ascends cs → Ascends (cs ++ entry k o)
ascend_by k cs None all up = subst (λ (l : List (ℕ × Value)). Ascends l) (sym (append-nil cs)) up
ascend_by k cs (Some v) all up = ascend_push cs k v all up

full_ascends : (n : ℕ) (lanes : List Holding) (k : ℕ) → Ascends (full_below n lanes k)
full_ascends n lanes zero = λ i j c d low got also. absurd (let no : ⊥ = cc in no)
full_ascends n lanes (suc k) = ascend_by k (full_below n lanes k) (cell_value n lanes k) (full_less n lanes k) (full_ascends n lanes k)

value_full : (own : OwnCells) (x : ℕ) (v : Value) → value_at own x ≡ Some v → cell_at own x ≡ Some (Full v)
value_full own x v e = by_cell (cell_at own x) e
  where
    by_cell : (o : Option CellState) → option_and_then value_in o ≡ Some v → o ≡ Some (Full v)
    by_cell None e = absurd (let no : ⊥ = cc in no)
    by_cell (Some Vacant) e = absurd (let no : ⊥ = cc in no)
    by_cell (Some (Deferred readers)) e = absurd (let no : ⊥ = cc in no)
    by_cell (Some (Full w)) e = let same : w ≡ v = cc in ap (λ (u : Value). Some (Full u)) same

module _ (g : Setting) (m : Store) (lanes : List Holding) (good : IsGoodSetting g) (count : length lanes ≡ g.elements)
    (known : AllFrom (IsKnown g m) 0 lanes) (bounded : IsBounded g m) where
  abbrev n : ℕ
  n = g.elements

  abbrev all_cells : ℕ
  all_cells = sum g.program.arrays

  lane_for : (x : ℕ) → (h : Holding) × (slice_get lanes (x % n) ≡ Some h) × IsKnown g m (x % n) h
  lane_for x =
      let below = mod-lt x good.some in
      let low : x % n < length lanes = omega arith in
      let l = get_some lanes (x % n) low in
      (l.0, l.1, first_get (IsKnown g m) lanes (x % n) l.0 known l.1)

  cell_known : (x : ℕ) → x < all_cells → (h : Holding) × (slice_get lanes (x % n) ≡ Some h)
      × ((state : CellState) × (cell_at h.part.cells x ≡ Some state) × (m.cells x ≡ state))
  cell_known x low =
      let l = lane_for x in
      let k = l.2 in
      let here : x % l.0.part.shape.elements ≡ l.0.part.shape.element = ap (λ (e : ℕ). x % e) k.elements ∙ sym k.element in
      let room = k.sound.own x here low in
      let ours : x % l.0.part.cells.elements ≡ l.0.part.cells.element = ap (λ (e : ℕ). x % e) k.sound.own_elements ∙ here ∙ sym k.sound.own_element in
      let own_room : x / l.0.part.cells.elements < length l.0.part.cells.states = subst (λ (e : ℕ). x / e < length l.0.part.cells.states)
      (sym k.sound.own_elements) room in
      let state = own_state l.0.part.cells x ours own_room in
      (l.0, l.1, (state.0, state.1, k.part.cells x state.0 state.1))

  readers_are : (x : ℕ) → x < all_cells → cell_readers n lanes x ≡ reader_count (m.cells x)
  readers_are x low =
      let c = cell_known x low in
      ap (λ (o : Option Holding). readers_of x o) c.1 ∙ readers_same c.0.part.cells x c.2.0 c.2.1 ∙ ap (λ (s : CellState). reader_count s) (sym c.2.2)

  value_holds : (x : ℕ) (v : Value) → x < all_cells → cell_value n lanes x ≡ Some v → m.cells x ≡ Full v
  value_holds x v low e =
      let l = lane_for x in
      let at : value_at l.0.part.cells x ≡ Some v = ap (λ (o : Option Holding). value_of x o) (sym l.1) ∙ e in
      l.2.part.cells x (Full v) (value_full l.0.part.cells x v at)

  holds_value : (x : ℕ) (v : Value) → x < all_cells → m.cells x ≡ Full v → cell_value n lanes x ≡ Some v
  holds_value x v low e =
      let c = cell_known x low in
      let full : c.2.0 ≡ Full v = sym c.2.2 ∙ e in
      ap (λ (o : Option Holding). value_of x o) c.1 ∙ ap (λ (o : Option CellState). option_and_then value_in o) (c.2.1 ∙ ap (λ (s : CellState). Some s) full)

  cell_below : (x : ℕ) (v : Value) → m.cells x ≡ Full v → x < all_cells
  cell_below x v e = ⊎_elim (λ (l : x < all_cells). l) (λ (l : all_cells ≤ x). let none = bounded.cells x l in absurd (let no : ⊥ = cc in no))
      (cases_lt x all_cells)

  slot_known : (f r : ℕ) → f < total g → r < g.width → m.slots f r ≡ slot_at n lanes f r
  slot_known f r low within =
      let l = lane_for f in
      let k = l.2 in
      let here : f % l.0.part.shape.elements ≡ l.0.part.shape.element = ap (λ (e : ℕ). f % e) k.elements ∙ sym k.element in
      let frames : l.0.part.shape.elements * l.0.part.shape.frames ≡ total g = ap (λ (e : ℕ). e * l.0.part.shape.frames) k.elements
      ∙ ap (λ (e : ℕ). g.elements * e) k.frames in
      let there : f < l.0.part.shape.elements * l.0.part.shape.frames = subst (λ (t : ℕ). f < t) (sym frames) low in
      let in_frame : r < l.0.part.shape.width = subst (λ (w : ℕ). r < w) (sym k.width) within in
      k.part.slots f r here there in_frame ∙ ap (λ (o : Option Holding). slot_of_lane f r o) (sym l.1)

  credits_are : (f : ℕ) → f < total g → credits_below n lanes g.width f ≡ sum_below 512 (λ r. waiters (m.slots f r))
  credits_are f low =
      let inner : credits_below n lanes g.width f ≡ sum_below g.width (λ r. waiters (m.slots f r)) = sum_same g.width
      (λ r. waiters (slot_at n lanes f r)) (λ r. waiters (m.slots f r)) (λ r within. ap (λ (s : SlotState). waiters s) (sym (slot_known f r low within))) in
      inner ∙ sym (sum_stops 512 g.width (λ r. waiters (m.slots f r)) good.few_slots
      (λ r past. ap (λ (s : SlotState). waiters s) (bounded.slots f r (λ l w. absurd (omega arith)))))

  requests_are : (o : Option Managed) → Manages o m → requests_in o ≡ length m.requests
  requests_are None h = absurd h
  requests_are (Some mg) h = sym (ap (λ (cs : List _). length cs) h.requests)

  out_is : (o : Option Managed) → Manages o m → IsSoundManager (record { frames = total g; cells = all_cells }) o → out_in o
      ≡ sum_below (total g) (λ f. one_if (m.out f))
  out_is None h sound = absurd h
  out_is (Some mg) h sound = ap (λ (k : ℕ). sum_below k (λ f. one_if (flag_at mg.out f))) sound.0
      ∙ sum_same (total g) (λ f. one_if (flag_at mg.out f)) (λ f. one_if (m.out f)) (λ f low. ap (λ (b : Bool). one_if b) (sym (h.out f)))

  pub pictured : (pool : List Token) (r : Report) (head : Holding) → ShowsLanes g lanes head r
      → IsPicture g.program (size g) (record { store = m; pool = pool }) r
  pictured pool r head reported =
      let k : IsKnown g m 0 head = first_get (IsKnown g m) lanes 0 head known reported.there in
      let cells_are : bounds g.program head.part.shape ≡ record { frames = total g; cells = all_cells } = ap
      (λ (e : ℕ). let b : Bounds = record { frames = e * head.part.shape.frames; cells = all_cells } in b) k.elements
      ∙ ap (λ (e : ℕ). let b : Bounds = record { frames = g.elements * e; cells = all_cells } in b) k.frames in
      let all_are : array_base g.program (length g.program.arrays) ≡ all_cells = ap (λ (xs : List ℕ). sum xs)
      (take_all (length g.program.arrays) g.program.arrays (omega arith)) in
      record {
        output_count = ap (λ (os : List (Option Value)). length os) reported.outputs ∙ k.sound.outputs k.element;
        outputs = λ j v got. sym (k.part.outputs k.element j ∙ get_or_from_slice_get head.part.outputs j v None
            (subst (λ (os : List (Option Value)). slice_get os j ≡ Some v) reported.outputs got));
        ascend = subst (λ (cs : List (ℕ × Value)). Ascends cs) (sym reported.cells) (full_ascends n lanes all_cells);
        cells = λ x v. (
          (λ there. let c = in_full n lanes all_cells x v (subst (λ (cs : List (ℕ × Value)). Contains cs (
            x,
            v,
          )) reported.cells there) in value_holds x v c.0 c.1),
          (λ full. let low = cell_below x v full in subst (λ (cs : List (ℕ × Value)). Contains cs (x, v)) (sym reported.cells)
              (has_full n lanes all_cells x v low (holds_value x v low full))),
        );
        deferred = reported.deferred ∙ sum_same all_cells (λ x. cell_readers n lanes x) (λ x. reader_count (m.cells x)) readers_are
            ∙ ap (λ (c : ℕ). sum_below c (λ x. reader_count (m.cells x))) (sym all_are);
        waiting_frames = reported.requests ∙ requests_are head.part.manager (k.part.manager k.element);
        waiting_credits = reported.credits ∙ sum_same (total g) (λ f. credits_below n lanes g.width f)
            (λ f. sum_below 512 (λ r. waiters (m.slots f r))) credits_are;
        frames_out = reported.out ∙ out_is head.part.manager (k.part.manager k.element) (subst (λ (b : Bounds). IsSoundManager b head.part.manager)
            cells_are (k.sound.manager k.element));
      }

-- what is known of the lanes of a machine that has them as its parts
pub known_lanes : (s : State) (mach : Machine) → IsSoundState s → AreParts s mach → AllFrom (IsKnown s.setting mach.store) 0 s.lanes
known_lanes s mach sound stands = from_both (IsPlaced s.setting) (λ (i : ℕ) (h : Holding). IsPart h.part mach.store) (IsKnown s.setting mach.store)
    (λ (i : ℕ) (h : Holding) p part. record {
      element = p.element;
      elements = p.elements;
      frames = p.frames;
      width = p.width;
      sound = p.sound.part;
      part = part;
    }) 0 s.lanes sound.lanes stands.parts

pub shows_picture : (s : State) (mach : Machine) (r : Report) (head : Holding) → IsSoundState s → AreParts s mach
    → ShowsLanes s.setting s.lanes head r → IsPicture s.setting.program (size s.setting) mach r
shows_picture s mach r head sound stands reported = pictured s.setting mach.store s.lanes sound.setting sound.count (known_lanes s mach sound stands)
    stands.bounded mach.pool r head reported
