-- The pass finds exactly the ports that follow: by induction over the instructions, for arcs that go forward.
use Rattle.std.proofs.Common.{◌≡◌, refl, sym, ap, ◌∙◌, subst, ℕ, zero, suc, ◌+◌, ◌<◌, ◌≤◌, Bool, true, false, List, [], ◌∷◌, ◌++◌, length, set}
use Rattle.std.proofs.Common.{cond, ◌&&◌, nat_lt, ◌==◌, ⊎_elim, arith}
use Rattle.std.specs.Prelude.{Contains, All, flat_map}
use Rattle.std.specs.Bool.{Decides}
use Rattle.std.proofs.lemmas.Bool.{ne_eqb, lt-ltb, cases_eq, both_ways}
use Rattle.std.proofs.lemmas.List.{append_assoc, append-nil, get_or-set_same, get_or-set_other, length-set}
use Rattle.std.proofs.lemmas.List.Elements.{Contains-append_left, Contains-append_right, Contains-append_cases, Contains-push, Contains-push_cases}
use Rattle.std.proofs.lemmas.List.Elements.{All-contains, All-nil, All-cons, All-append}
use Rattle.lemmas.proofs.Contains.{contains_none}
use Rattle.tags.specs.declared.token.Port.{Port}
use Rattle.tags.specs.declared.token.Port.TheVariants.{Left, Right}
use Rattle.semantics.specs.declared.program.Dest.{Dest}
use Rattle.semantics.specs.declared.program.Op.{Op}
use Rattle.semantics.specs.declared.program.Op.TheVariants.{Link}
use Rattle.semantics.specs.Program.{Instr}
use Rattle.semantics.specs.Plan.{Plan, landing}
use Rattle.semantics.specs.Sharing.{Inlet, inlet, Arc, arc, arcs_to, row, arcs_from, arcs_of, IsAfter, is_after, Leads}
use Rattle.slot_alloc.specs.Passes.{Inflow, Bare, AllLead, NotAll}
use Rattle.slot_alloc.specs.Passes.{Inlets}
use Rattle.slot_alloc.specs.Passes.{bare, inlets_at, inflow_with, inlets_with, enter, enter_each, enter_row, enter_landings, enter_firsts, all_lead}
use Rattle.slot_alloc.specs.Passes.{own_each, own_landings, own_firsts}

abbrev pub port_of : Inlets → Port → Inflow
port_of x Left = x.left
port_of x Right = x.right

-- ARCS IN A ROW
abbrev pub enter_arcs : List Inlets → Bool → List Arc → List Inlets
enter_arcs xs b [] = xs
enter_arcs xs b (y ∷ ys) = enter_arcs (enter xs y.to.place y.to.port b) b ys

pub enter_arcs-append : (xs : List Inlets) (b : Bool) (ys zs : List Arc) → enter_arcs xs b (ys ++ zs) ≡ enter_arcs (enter_arcs xs b ys) b zs
enter_arcs-append xs b [] zs = refl
enter_arcs-append xs b (y ∷ ys) zs = enter_arcs-append (enter xs y.to.place y.to.port b) b ys zs

pub each_as_arcs : (xs : List Inlets) (n : ℕ) (s b : Bool) (ds : List Dest) → enter_each xs n b ds ≡ enter_arcs xs b (arcs_to n s ds)
each_as_arcs xs n s b [] = refl
each_as_arcs xs n s b (d ∷ ds) = each_as_arcs (enter xs (n + d.ahead) d.port b) n s b ds

row_first : (xs : List Inlets) (n : ℕ) (b : Bool) (k : ℕ) → enter_row (enter xs n Left b) (n + 1) b k ≡ enter_row xs n b (suc k)
row_first xs n b zero = let e : n + zero ≡ n = omega arith in ap (λ m. enter xs m Left b) (sym e)
row_first xs n b (suc k) =
    let e : (n + 1) + k ≡ n + suc k = omega arith in
    ap (λ ys. enter ys ((n + 1) + k) Left b) (row_first xs n b k) ∙ ap (λ m. enter (enter_row xs n b (suc k)) m Left b) e

pub row_as_arcs : (xs : List Inlets) (from n : ℕ) (b : Bool) (k : ℕ) → enter_row xs n b k ≡ enter_arcs xs b (row from n k)
row_as_arcs xs from n b zero = refl
row_as_arcs xs from n b (suc k) = sym (row_first xs n b k) ∙ row_as_arcs (enter xs n Left b) from (n + 1) b k

pub landings_as_arcs : (xs : List Inlets) (n : ℕ) (b : Bool) (size : ℕ) (ds : List Dest) → enter_landings xs n b size ds
    ≡ enter_arcs xs b (flat_map (λ (d : Dest). row n (n + d.ahead) size) ds)
landings_as_arcs xs n b size [] = refl
landings_as_arcs xs n b size (d ∷ ds) =
    landings_as_arcs (enter_row xs (n + d.ahead) b size) n b size ds
    ∙ ap (λ ys. enter_arcs ys b (flat_map (λ (e : Dest). row n (n + e.ahead) size) ds)) (row_as_arcs xs n (n + d.ahead) b size)
    ∙ sym (enter_arcs-append xs b (row n (n + d.ahead) size) (flat_map (λ (e : Dest). row n (n + e.ahead) size) ds))

-- the arcs of the first destinations
abbrev pub firsts_arcs : Plan → ℕ → List Dest → Op → List Arc
firsts_arcs p n ds (Link b) = flat_map (λ (d : Dest). row n (n + d.ahead) (landing p b)) ds
firsts_arcs p n ds op = arcs_to n false ds

pub firsts_as_arcs : (p : Plan) (xs : List Inlets) (n : ℕ) (b : Bool) (ds : List Dest) (op : Op) → enter_firsts p xs n b ds op
    ≡ enter_arcs xs b (firsts_arcs p n ds op)
firsts_as_arcs p xs n b ds (Link t) = landings_as_arcs xs n b (landing p t) ds
firsts_as_arcs p xs n b ds op = each_as_arcs xs n false b ds

pub from_firsts : (p : Plan) (n : ℕ) (i : Instr) (op : Op) → arcs_from p n i op ≡ firsts_arcs p n i.firsts op ++ arcs_to n true i.seconds
from_firsts p n i (Link t) = refl
from_firsts p n i op = refl

-- WHERE ARCS START
abbrev pub IsFrom : ℕ → Bool → Arc → Type 0
IsFrom n s y = (y.from ≡ n) × (y.second ≡ s) × (n ≤ y.to.place)

to_from : (n : ℕ) (s : Bool) (ds : List Dest) → All (IsFrom n s) (arcs_to n s ds)
to_from n s [] = All-nil (IsFrom n s)
to_from n s (d ∷ ds) = All-cons (IsFrom n s) (arc n s (inlet (n + d.ahead) d.port)) (arcs_to n s ds) (refl, refl, omega arith) (to_from n s ds)

row_starts : (n from k : ℕ) → n ≤ from → All (IsFrom n false) (row n from k)
row_starts n from zero le = All-nil (IsFrom n false)
row_starts n from (suc k) le = All-cons (IsFrom n false) (arc n false (inlet from Left)) (row n (from + 1) k) (refl, refl, le)
    (row_starts n (from + 1) k (omega (arith, le)))

landings_from : (n size : ℕ) (ds : List Dest) → All (IsFrom n false) (flat_map (λ (d : Dest). row n (n + d.ahead) size) ds)
landings_from n size [] = All-nil (IsFrom n false)
landings_from n size (d ∷ ds) = All-append (IsFrom n false) (row n (n + d.ahead) size) (flat_map (λ (e : Dest). row n (n + e.ahead) size) ds)
    (row_starts n (n + d.ahead) size (omega arith)) (landings_from n size ds)

firsts_from : (p : Plan) (n : ℕ) (ds : List Dest) (op : Op) → All (IsFrom n false) (firsts_arcs p n ds op)
firsts_from p n ds (Link t) = landings_from n (landing p t) ds
firsts_from p n ds op = to_from n false ds

pub is_first : (p : Plan) (n : ℕ) (ds : List Dest) (op : Op) (y : Arc) → Contains (firsts_arcs p n ds op) y → IsFrom n false y
is_first p n ds op y there = All-contains (IsFrom n false) (firsts_arcs p n ds op) y (firsts_from p n ds op) there

pub is_second : (n : ℕ) (ds : List Dest) (y : Arc) → Contains (arcs_to n true ds) y → IsFrom n true y
is_second n ds y there = All-contains (IsFrom n true) (arcs_to n true ds) y (to_from n true ds) there

pub from_here : (p : Plan) (n : ℕ) (i : Instr) (y : Arc) → Contains (arcs_from p n i i.op) y → (y.from ≡ n) × (n ≤ y.to.place)
from_here p n i y there = ⊎_elim
    (λ a. let w = is_first p n i.firsts i.op y a in (w.0, w.2))
    (λ a. let w = is_second n i.seconds y a in (w.0, w.2))
    (Contains-append_cases (firsts_arcs p n i.firsts i.op) (arcs_to n true i.seconds) y (subst (λ ys. Contains ys y) (from_firsts p n i i.op) there))

-- no arc goes back
pub from_later : (p : Plan) (n : ℕ) (is : List Instr) (y : Arc) → Contains (arcs_of p n is) y → (n ≤ y.from) × (y.from ≤ y.to.place)
from_later p n [] y there = absurd (contains_none y there)
from_later p n (i ∷ is) y there = ⊎_elim
    (λ a. let w = from_here p n i y a in let e = w.0 in let le = w.1 in (omega (arith, e), omega (arith, e, le)))
    (λ a. let w = from_later p (n + 1) is y a in let le = w.0 in (omega (arith, le), w.1))
    (Contains-append_cases (arcs_from p n i i.op) (arcs_of p (n + 1) is) y there)

-- WHAT THE TABLE SHOWS of the arcs entered so far: those that lead, and those that do not
module _ (L : Arc → Type 0) where
  abbrev pub Shown : List Arc → Inlet → Inflow → Type 0
  Shown done q Bare = (y : Arc) → Contains done y → y.to ≡ q → ⊥
  Shown done q AllLead = ((x : Arc) × Contains done x × (x.to ≡ q)) × ((y : Arc) → Contains done y → y.to ≡ q → L y)
  Shown done q NotAll = (y : Arc) × Contains done y × (y.to ≡ q) × (L y → ⊥)

  abbrev pub Shows : List Arc → List Inlets → Type 0
  Shows done xs = (k : ℕ) (s : Port) → k < length xs → Shown done (inlet k s) (port_of (inlets_at xs k) s)

  shown_same : (done : List Arc) (q : Inlet) (v : Inflow) (y : Arc) (b : Bool) → y.to ≡ q → Decides b (L y) → Shown done q v
      → Shown (done ++ y ∷ []) q (inflow_with v b)
  shown_same done q Bare y true to d h = (
    (y, Contains-push done y, to),
    λ z there e. ⊎_elim (λ a. absurd (h z a e)) (λ same. subst L same (d.0 refl)) (Contains-push_cases done y z there),
  )
  shown_same done q AllLead y true to d h = (
    (h.0.0, Contains-append_left done (y ∷ []) h.0.0 h.0.1, h.0.2),
    λ z there e. ⊎_elim (λ a. h.1 z a e) (λ same. subst L same (d.0 refl)) (Contains-push_cases done y z there),
  )
  shown_same done q NotAll y true to d h = (h.0, Contains-append_left done (y ∷ []) h.0 h.1, h.2, h.3)
  shown_same done q Bare y false to d h = (y, Contains-push done y, to, λ l. both_ways false refl (d.1 l))
  shown_same done q AllLead y false to d h = (y, Contains-push done y, to, λ l. both_ways false refl (d.1 l))
  shown_same done q NotAll y false to d h = (y, Contains-push done y, to, λ l. both_ways false refl (d.1 l))

  shown_other : (done : List Arc) (q : Inlet) (v : Inflow) (y : Arc) → (y.to ≡ q → ⊥) → Shown done q v → Shown (done ++ y ∷ []) q v
  shown_other done q Bare y ne h = λ z there e. ⊎_elim (λ a. h z a e) (λ same. ne (ap (λ (x : Arc). x.to) same ∙ e)) (Contains-push_cases done y z there)
  shown_other done q AllLead y ne h = (
    (h.0.0, Contains-append_left done (y ∷ []) h.0.0 h.0.1, h.0.2),
    λ z there e. ⊎_elim (λ a. h.1 z a e) (λ same. absurd (ne (ap (λ (x : Arc). x.to) same ∙ e))) (Contains-push_cases done y z there),
  )
  shown_other done q NotAll y ne h = (h.0, Contains-append_left done (y ∷ []) h.0 h.1, h.2, h.3)

  -- the two ports of the instruction that the arc goes to
  ports_apart : (q : Inlet) → ((k : ℕ) → inlet k Left ≡ inlet k Right → ⊥)
  ports_apart q = λ k e. let f : Left ≡ Right = ap (λ (x : Inlet). x.port) e in cc

  here_shown : (done : List Arc) (k : ℕ) (x : Inlets) (y : Arc) (port side : Port) (b : Bool) → y.to ≡ inlet k port → Decides b (L y)
      → ((s : Port) → Shown done (inlet k s) (port_of x s)) → Shown (done ++ y ∷ []) (inlet k side) (port_of (inlets_with x port b) side)
  here_shown done k x y Left Left b to d h = shown_same done (inlet k Left) x.left y b to d (h Left)
  here_shown done k x y Left Right b to d h = shown_other done (inlet k Right) x.right y (λ e. ports_apart y.to k (sym to ∙ e)) (h Right)
  here_shown done k x y Right Left b to d h = shown_other done (inlet k Left) x.left y (λ e. ports_apart y.to k (sym e ∙ to)) (h Left)
  here_shown done k x y Right Right b to d h = shown_same done (inlet k Right) x.right y b to d (h Right)

  enter_shows : (done : List Arc) (xs : List Inlets) (y : Arc) (b : Bool) → Decides b (L y) → Shows done xs
      → Shows (done ++ y ∷ []) (enter xs y.to.place y.to.port b)
  enter_shows done xs y b d h = λ k s below.
      let lt : k < length xs = subst (λ n. k < n) (length-set xs y.to.place (inlets_with (inlets_at xs y.to.place) y.to.port b)) below in
      let new = inlets_with (inlets_at xs y.to.place) y.to.port b in
      ⊎_elim
      (λ (e : k ≡ y.to.place).
      let within : y.to.place < length xs = subst (λ n. n < length xs) e lt in
      let at : inlets_at (set xs y.to.place new) k ≡ new = subst (λ n. inlets_at (set xs y.to.place new) n ≡ new) (sym e)
      (get_or-set_same xs y.to.place new bare within) in
      subst (λ x. Shown (done ++ y ∷ []) (inlet k s) (port_of x s)) (sym at)
      (subst (λ n. Shown (done ++ y ∷ []) (inlet n s) (port_of new s)) (sym e)
      (here_shown done y.to.place (inlets_at xs y.to.place) y y.to.port s b refl d (λ t. h y.to.place t within))))
      (λ (ne : k ≡ y.to.place → ⊥).
      subst (λ x. Shown (done ++ y ∷ []) (inlet k s) (port_of x s)) (sym (get_or-set_other xs y.to.place k new bare ne))
      (shown_other done (inlet k s) (port_of (inlets_at xs k) s) y (λ e. ne (sym (ap (λ (q : Inlet). q.place) e))) (h k s lt)))
      (cases_eq k y.to.place)

  pub arcs_shown : (done : List Arc) (xs : List Inlets) (b : Bool) (ys : List Arc) → ((y : Arc) → Contains ys y → Decides b (L y)) → Shows done xs
      → Shows (done ++ ys) (enter_arcs xs b ys)
  arcs_shown done xs b [] d h = subst (λ zs. Shows zs xs) (sym (append-nil done)) h
  arcs_shown done xs b (y ∷ ys) d h =
      subst (λ zs. Shows zs (enter_arcs (enter xs y.to.place y.to.port b) b ys)) (append_assoc done (y ∷ []) ys)
      (arcs_shown (done ++ y ∷ []) (enter xs y.to.place y.to.port b) b ys
      (λ z there. d z (Contains-append_right (y ∷ []) ys z there))
      (enter_shows done xs y b (d y (Contains-append_left (y ∷ []) ys y (0, omega arith, refl))) h))

-- a port whose arcs are all entered
module _ (arcs : List Arc) (chosen : Arc → Type 0) where
  pub follows_shown : (done : List Arc) (q : Inlet) (v : Inflow) → ((y : Arc) → Contains done y → Contains arcs y)
      → ((y : Arc) → Contains arcs y → y.to ≡ q → Contains done y)
      → Shown (Leads arcs chosen) done q v → Decides (all_lead v) (IsAfter arcs chosen q)
  follows_shown done q Bare sub all h = (λ e. absurd (both_ways false refl e), λ f. absurd (bare_port f))
    where
      bare_port : IsAfter arcs chosen q → ⊥
      bare_port (is_after _ x there to each) = h x (all x there to) to
  follows_shown done q AllLead sub all h = (λ e. is_after q h.0.0 (sub h.0.0 h.0.1) h.0.2 (λ y there to. h.1 y (all y there to) to), λ f. refl)
  follows_shown done q NotAll sub all h = (λ e. absurd (both_ways false refl e), λ f. absurd (broken_port f))
    where
      broken_port : IsAfter arcs chosen q → ⊥
      broken_port (is_after _ x there to each) = h.3 (each h.0 (sub h.0 h.1) h.2)

-- THE OWN ARCS of an instruction are those that lead to its ports when all are entered
module _ (n : ℕ) where
  enter_own : (xs : List Inlets) (k : ℕ) (q : Port) (b : Bool) → n < length xs → inlets_at (enter xs (n + k) q b) n
      ≡ cond (k == 0) (inlets_with (inlets_at xs n) q b) (inlets_at xs n)
  enter_own xs zero q b within =
      let e : n + zero ≡ n = omega arith in
      subst (λ m. inlets_at (enter xs m q b) n ≡ inlets_with (inlets_at xs n) q b) (sym e) (get_or-set_same xs n (inlets_with (inlets_at xs n) q b) bare within)
  enter_own xs (suc k) q b within =
      let ne : ◌≡◌ {A = ℕ} n (n + suc k) → ⊥ = λ e. omega (arith, e) in
      let off : ◌≡◌ {A = ℕ} (suc k) 0 → ⊥ = λ e. omega (arith, e) in
      get_or-set_other xs (n + suc k) n (inlets_with (inlets_at xs (n + suc k)) q b) bare ne
      ∙ sym (ap (λ t. cond t (inlets_with (inlets_at xs n) q b) (inlets_at xs n)) (ne_eqb (suc k) 0 off))

  enter_long : (xs : List Inlets) (k : ℕ) (q : Port) (b : Bool) → length (enter xs k q b) ≡ length xs
  enter_long xs k q b = length-set xs k (inlets_with (inlets_at xs k) q b)

  pub each_own : (xs : List Inlets) (b : Bool) (ds : List Dest) → n < length xs → inlets_at (enter_each xs n b ds) n ≡ own_each (inlets_at xs n) b ds
  each_own xs b [] within = refl
  each_own xs b (d ∷ ds) within =
      let len = enter_long xs (n + d.ahead) d.port b in
      each_own (enter xs (n + d.ahead) d.port b) b ds (omega (arith, within, len))
      ∙ ap (λ x. own_each x b ds) (enter_own xs d.ahead d.port b within)

  row_long : (xs : List Inlets) (m : ℕ) (b : Bool) (k : ℕ) → length (enter_row xs m b k) ≡ length xs
  row_long xs m b zero = refl
  row_long xs m b (suc k) = enter_long (enter_row xs m b k) (m + k) Left b ∙ row_long xs m b k

  row_beyond : (xs : List Inlets) (m : ℕ) (b : Bool) (k : ℕ) → n < m → inlets_at (enter_row xs m b k) n ≡ inlets_at xs n
  row_beyond xs m b zero lt = refl
  row_beyond xs m b (suc k) lt =
      let ys = enter_row xs m b k in
      let ne : ◌≡◌ {A = ℕ} n (m + k) → ⊥ = λ e. omega (arith, e, lt) in
      get_or-set_other ys (m + k) n (inlets_with (inlets_at ys (m + k)) Left b) bare ne ∙ row_beyond xs m b k lt

  row_there : (xs : List Inlets) (b : Bool) (k : ℕ) → n < length xs → inlets_at (enter_row xs n b (suc k)) n ≡ inlets_with (inlets_at xs n) Left b
  row_there xs b zero within = enter_own xs zero Left b within
  row_there xs b (suc k) within =
      let ys = enter_row xs n b (suc k) in
      let ne : ◌≡◌ {A = ℕ} n (n + suc k) → ⊥ = λ e. omega (arith, e) in
      get_or-set_other ys (n + suc k) n (inlets_with (inlets_at ys (n + suc k)) Left b) bare ne ∙ row_there xs b k within

  row_own : (xs : List Inlets) (a : ℕ) (b : Bool) (k : ℕ) → n < length xs → inlets_at (enter_row xs (n + a) b k) n
      ≡ cond ((a == 0) && nat_lt 0 k) (inlets_with (inlets_at xs n) Left b) (inlets_at xs n)
  row_own xs zero b zero within = refl
  row_own xs zero b (suc k) within =
      let e : n + zero ≡ n = omega arith in
      let lt : 0 < suc k = omega arith in
      ap (λ m. inlets_at (enter_row xs m b (suc k)) n) e ∙ row_there xs b k within
      ∙ sym (ap (λ t. cond ((zero == 0) && t) (inlets_with (inlets_at xs n) Left b) (inlets_at xs n)) (lt-ltb 0 (suc k) lt))
  row_own xs (suc a) b k within =
      let lt : n < n + suc a = omega arith in
      let off : ◌≡◌ {A = ℕ} (suc a) 0 → ⊥ = λ e. omega (arith, e) in
      row_beyond xs (n + suc a) b k lt
      ∙ sym (ap (λ t. cond (t && nat_lt 0 k) (inlets_with (inlets_at xs n) Left b) (inlets_at xs n)) (ne_eqb (suc a) 0 off))

  landings_own : (xs : List Inlets) (b : Bool) (size : ℕ) (ds : List Dest) → n < length xs → inlets_at (enter_landings xs n b size ds) n
      ≡ own_landings (inlets_at xs n) b size ds
  landings_own xs b size [] within = refl
  landings_own xs b size (d ∷ ds) within =
      let len = row_long xs (n + d.ahead) b size in
      landings_own (enter_row xs (n + d.ahead) b size) b size ds (omega (arith, within, len))
      ∙ ap (λ x. own_landings x b size ds) (row_own xs d.ahead b size within)

  pub firsts_own : (p : Plan) (xs : List Inlets) (b : Bool) (ds : List Dest) (op : Op) → n < length xs → inlets_at (enter_firsts p xs n b ds op) n
      ≡ own_firsts p (inlets_at xs n) b ds op
  firsts_own p xs b ds (Link t) within = landings_own xs b (landing p t) ds within
  firsts_own p xs b ds op within = each_own xs b ds within
