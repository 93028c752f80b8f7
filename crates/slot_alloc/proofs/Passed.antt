-- The whole pass, and the row of all holders: exactly what follows.
use Rattle.std.proofs.Common.{◌≡◌, refl, sym, ap, ◌∙◌, subst, ℕ, ◌+◌, ◌<◌, ◌≤◌, Bool, true, false, not, ◌||◌, List, [], ◌∷◌, ◌++◌, length}
use Rattle.std.proofs.Common.{replicate, get_or, cond, Option, Some, None, inl, inr, ⊎_elim, arith, ◌⊎◌}
use Rattle.std.specs.Prelude.{Contains}
use Rattle.std.specs.Bool.{Decides}
use Rattle.std.proofs.lemmas.Bool.{cases_eq, both_ways, or_cases, or_left, or_right, and_parts, and_from}
use Rattle.std.proofs.lemmas.List.{append_assoc, append-nil, length-set, length-replicate, get_or-replicate, get_or-set_same, get_or-set_other}
use Rattle.std.proofs.lemmas.List.Elements.{Contains-append_left, Contains-append_cases}
use Rattle.std.proofs.lemmas.Option.{same_Some}
use Rattle.tags.specs.declared.token.Port.{Port}
use Rattle.tags.specs.declared.token.Port.TheVariants.{Left, Right}
use Rattle.semantics.specs.declared.program.Mark.{Mark}
use Rattle.semantics.specs.declared.program.Op.{Op}
use Rattle.semantics.specs.declared.program.Op.TheVariants.{Open, Take, Give, Drain}
use Rattle.semantics.specs.Program.{Instr}
use Rattle.semantics.specs.Rule.{slot_of}
use Rattle.semantics.specs.Plan.{Plan}
use Rattle.semantics.specs.Sharing.{Inlet, inlet, Arc, arcs_to, arcs_from, arcs_of, IsAfter, is_after, Leads, by_choice, by_port, is_port}
use Rattle.slot_alloc.specs.Passes.{Inflow, Bare, AllLead, NotAll}
use Rattle.slot_alloc.specs.Passes.{Inlets}
use Rattle.slot_alloc.specs.Passes.{Chosen}
use Rattle.slot_alloc.specs.Passes.{bare, inlets_at, enter, enter_each, enter_firsts, own_each, own_instr, all_lead, some_lead, is_chosen}
use Rattle.slot_alloc.specs.Passes.{enter_instr, mark_of, pass}
use Rattle.slot_alloc.specs.Rows.{ports_lead, crossed, noted, row_from}
use Rattle.slot_alloc.proofs.Passing.{port_of, enter_arcs, each_as_arcs, firsts_arcs, firsts_as_arcs, from_firsts, IsFrom, is_first, is_second}
use Rattle.slot_alloc.proofs.Passing.{from_here, from_later, Shown, Shows, arcs_shown, follows_shown, each_own, firsts_own}
use Rattle.slot_alloc.proofs.Places.{ByPlace}

-- the tables are as long as before
arcs_long : (xs : List Inlets) (b : Bool) (ys : List Arc) → length (enter_arcs xs b ys) ≡ length xs
arcs_long xs b [] = refl
arcs_long xs b (y ∷ ys) = arcs_long (enter xs y.to.place y.to.port b) b ys ∙ length-set xs y.to.place _

-- the table when an instruction's first arcs are entered with one flag, and its second ones with another
abbrev entered : Plan → List Inlets → ℕ → Bool → Bool → Instr → List Inlets
entered p xs n b d i = enter_each (enter_firsts p xs n b i.firsts i.op) n d i.seconds

entered_long : (p : Plan) (xs : List Inlets) (n : ℕ) (b d : Bool) (i : Instr) → length (entered p xs n b d i) ≡ length xs
entered_long p xs n b d i =
    ap length (each_as_arcs (enter_firsts p xs n b i.firsts i.op) n true d i.seconds)
    ∙ arcs_long (enter_firsts p xs n b i.firsts i.op) d (arcs_to n true i.seconds)
    ∙ ap length (firsts_as_arcs p xs n b i.firsts i.op)
    ∙ arcs_long xs b (firsts_arcs p n i.firsts i.op)

instr_long : (p : Plan) (ch : Chosen) (xs : List Inlets) (n : ℕ) (m : Mark) (i : Instr) → length (enter_instr p ch xs n m i) ≡ length xs
instr_long p ch xs n m i =
    let here = some_lead (own_instr p ch (inlets_at xs n) m i) in
    entered_long p xs n (here || is_chosen ch i m false) (here || is_chosen ch i m true) i

entered_shown : (L : Arc → Type 0) (p : Plan) (done : List Arc) (xs : List Inlets) (n : ℕ) (b d : Bool) (i : Instr)
    → ((y : Arc) → IsFrom n false y → Decides b (L y)) → ((y : Arc) → IsFrom n true y → Decides d (L y)) → Shows L done xs
    → Shows L (done ++ arcs_from p n i i.op) (entered p xs n b d i)
entered_shown L p done xs n b d i firsts seconds h =
    let ys = firsts_arcs p n i.firsts i.op in
    let zs = arcs_to n true i.seconds in
    let one : Shows L (done ++ ys) (enter_arcs xs b ys) = arcs_shown L done xs b ys (λ y there. firsts y (is_first p n i.firsts i.op y there)) h in
    let two : Shows L ((done ++ ys) ++ zs) (enter_arcs (enter_arcs xs b ys) d zs) = arcs_shown L (done ++ ys) (enter_arcs xs b ys) d zs
    (λ y there. seconds y (is_second n i.seconds y there)) one in
    let lists : (done ++ ys) ++ zs ≡ done ++ arcs_from p n i i.op = append_assoc done ys zs ∙ ap (λ ws. done ++ ws) (sym (from_firsts p n i i.op)) in
    let tables : enter_arcs (enter_arcs xs b ys) d zs ≡ entered p xs n b d i =
    sym (each_as_arcs (enter_firsts p xs n b i.firsts i.op) n true d i.seconds ∙ ap (λ ws. enter_arcs ws d zs) (firsts_as_arcs p xs n b i.firsts i.op)) in
    subst (λ ws. Shows L ws (entered p xs n b d i)) lists (subst (λ ws. Shows L ((done ++ ys) ++ zs) ws) tables two)

-- what a table shows by one word for leading, it shows by another that agrees on the arcs entered
shown_alike : (L K : Arc → Type 0) (done : List Arc) (q : Inlet) (v : Inflow) → ((y : Arc) → Contains done y → L y → K y)
    → ((y : Arc) → Contains done y → K y → L y) → Shown L done q v → Shown K done q v
shown_alike L K done q Bare to from h = h
shown_alike L K done q AllLead to from h = (h.0, λ y there e. to y there (h.1 y there e))
shown_alike L K done q NotAll to from h = (h.0, h.1, h.2, λ k. h.3 (from h.0 h.1 k))

-- either all arcs lead, or there is none, or one does not lead
shown_cases : (L : Arc → Type 0) (done : List Arc) (q : Inlet) (v : Inflow) → Shown L done q v
    → (all_lead v ≡ true) ⊎ (((y : Arc) → Contains done y → y.to ≡ q → ⊥) ⊎ ((y : Arc) × Contains done y × (y.to ≡ q) × (L y → ⊥)))
shown_cases L done q Bare h = inr (inl h)
shown_cases L done q AllLead h = inl refl
shown_cases L done q NotAll h = inr (inr h)

shown_leads : (L : Arc → Type 0) (done : List Arc) (q : Inlet) (v : Inflow) → Shown L done q v → all_lead v ≡ true
    → ((x : Arc) × Contains done x × (x.to ≡ q)) × ((y : Arc) → Contains done y → y.to ≡ q → L y)
shown_leads L done q Bare h e = absurd (both_ways false refl e)
shown_leads L done q AllLead h e = h
shown_leads L done q NotAll h e = absurd (both_ways false refl e)

pass_long : (p : Plan) (ch : Chosen) (ms : List Mark) (xs : List Inlets) (n : ℕ) (is : List Instr) → length (pass p ch ms xs n is) ≡ length xs
pass_long p ch ms xs n [] = refl
pass_long p ch ms xs n (i ∷ is) = pass_long p ch ms (enter_instr p ch xs n (mark_of ms n) i) (n + 1) is ∙ instr_long p ch xs n (mark_of ms n) i

module _ (p : Plan) (ch : Chosen) (ms : List Mark) (arcs : List Arc) (chosen : Arc → Type 0) where
  -- the test says which arcs of the instruction are chosen
  abbrev pub Says : ℕ → Instr → Type 0
  Says n i = (y : Arc) → y.from ≡ n → Decides (is_chosen ch i (mark_of ms n) y.second) (chosen y)

  module _ (done : List Arc) (xs : List Inlets) (n : ℕ) (i : Instr) (rest : List Arc) (e : arcs ≡ done ++ (arcs_from p n i i.op ++ rest))
      (earlier : (y : Arc) → Contains done y → y.from < n) (later : (y : Arc) → Contains rest y → (n < y.from) × (y.from ≤ y.to.place))
      (within : n < length xs) (says : Says n i) (h : Shows (Leads arcs chosen) done xs) where
    sub : (y : Arc) → Contains (done ++ arcs_from p n i i.op) y → Contains arcs y
    sub y there = subst (λ zs. Contains zs y) (append_assoc done (arcs_from p n i i.op) rest ∙ sym e)
        (Contains-append_left (done ++ arcs_from p n i i.op) rest y there)

    all : (s : Port) (y : Arc) → Contains arcs y → y.to ≡ inlet n s → Contains (done ++ arcs_from p n i i.op) y
    all s y there to =
        let at : y.to.place ≡ n = ap (λ (q : Inlet). q.place) to in
        ⊎_elim (λ a. a)
        (λ a. let w = later y a in let lt = w.0 in let le = w.1 in absurd (omega (arith, lt, le, at)))
        (Contains-append_cases (done ++ arcs_from p n i i.op) rest y
        (subst (λ zs. Contains zs y) (e ∙ sym (append_assoc done (arcs_from p n i i.op) rest)) there))

    -- an own arc taken as leading where it is chosen
    abbrev Led : Arc → Type 0
    Led y = ((y.from ≡ n) × chosen y) ⊎ ((y.from < n) × Leads arcs chosen y)

    led_leads : (y : Arc) → Led y → Leads arcs chosen y
    led_leads y (inl w) = by_choice y w.1
    led_leads y (inr w) = w.1

    led_exact : (s : Bool) (y : Arc) → IsFrom n s y → Decides (is_chosen ch i (mark_of ms n) s) (Led y)
    led_exact s y from =
        let d : Decides (is_chosen ch i (mark_of ms n) s) (chosen y) = subst (λ t. Decides (is_chosen ch i (mark_of ms n) t) (chosen y)) from.1
        (says y from.0) in
        (λ t. inl (from.0, d.0 t), λ l. d.1 (is_led l))
      where
        is_led : Led y → chosen y
        is_led (inl w) = w.1
        is_led (inr w) = let lt = w.0 in let at = from.0 in absurd (omega (arith, lt, at))

    own_shown : (s : Port) → Shown Led (done ++ arcs_from p n i i.op) (inlet n s) (port_of (own_instr p ch (inlets_at xs n) (mark_of ms n) i) s)
    own_shown s =
        let b = is_chosen ch i (mark_of ms n) false in
        let d = is_chosen ch i (mark_of ms n) true in
        let old : Shows Led done xs = λ k t below. shown_alike (Leads arcs chosen) Led done (inlet k t) (port_of (inlets_at xs k) t)
        (λ y there l. inr (earlier y there, l)) (λ y there l. led_leads y l) (h k t below) in
        let new : Shows Led (done ++ arcs_from p n i i.op) (entered p xs n b d i) = entered_shown Led p done xs n b d i (led_exact false)
        (led_exact true) old in
        let long = entered_long p xs n b d i in
        let firsts_long : length (enter_firsts p xs n b i.firsts i.op) ≡ length xs = ap length (firsts_as_arcs p xs n b i.firsts i.op)
        ∙ arcs_long xs b (firsts_arcs p n i.firsts i.op) in
        let same : inlets_at (entered p xs n b d i) n ≡ own_instr p ch (inlets_at xs n) (mark_of ms n) i =
        each_own n (enter_firsts p xs n b i.firsts i.op) d i.seconds (omega (arith, within, firsts_long))
        ∙ ap (λ x. own_each x d i.seconds) (firsts_own n p xs b i.firsts i.op within) in
        subst (λ x. Shown Led (done ++ arcs_from p n i i.op) (inlet n s) (port_of x s)) same (new n s (omega (arith, within, long)))

    port_leads : (s : Port) → all_lead (port_of (own_instr p ch (inlets_at xs n) (mark_of ms n) i) s) ≡ true
        → some_lead (own_instr p ch (inlets_at xs n) (mark_of ms n) i) ≡ true
    port_leads Left t = or_left (all_lead (own_instr p ch (inlets_at xs n) (mark_of ms n) i).left)
        (all_lead (own_instr p ch (inlets_at xs n) (mark_of ms n) i).right) t
    port_leads Right t = or_right (all_lead (own_instr p ch (inlets_at xs n) (mark_of ms n) i).left)
        (all_lead (own_instr p ch (inlets_at xs n) (mark_of ms n) i).right) t

    port_follows : (s : Port) → all_lead (port_of (own_instr p ch (inlets_at xs n) (mark_of ms n) i) s) ≡ true → IsAfter arcs chosen (inlet n s)
    port_follows s t =
        let w = shown_leads Led (done ++ arcs_from p n i i.op) (inlet n s) (port_of (own_instr p ch (inlets_at xs n) (mark_of ms n) i) s) (own_shown s) t in
        is_after (inlet n s) w.0.0 (sub w.0.0 w.0.1) w.0.2 (λ y there to. led_leads y (w.1 y (all s y there to) to))

    from_done : (y : Arc) → Contains (done ++ arcs_from p n i i.op) y → (y.from < n) ⊎ (y.from ≡ n)
    from_done y there = ⊎_elim (λ a. inl (earlier y a)) (λ a. inr (from_here p n i y a).0) (Contains-append_cases done (arcs_from p n i i.op) y there)

    mutual
      found : (q : Inlet) (s : Port) → q ≡ inlet n s → IsAfter arcs chosen q → some_lead (own_instr p ch (inlets_at xs n) (mark_of ms n) i) ≡ true
      found q s same (is_after _ x there to each) = ⊎_elim
          (λ a. port_leads s a)
          (λ w. ⊎_elim
          (λ none. absurd (none x (all s x there (to ∙ same)) (to ∙ same)))
          (λ (u : (y : Arc) × Contains (done ++ arcs_from p n i i.op) y × (y.to ≡ inlet n s) × (Led y → ⊥)). found_by u.0 (from_done u.0 u.1) u.3
          (each u.0 (sub u.0 u.1) (u.2 ∙ sym same)))
          w)
          (shown_cases Led (done ++ arcs_from p n i i.op) (inlet n s) (port_of (own_instr p ch (inlets_at xs n) (mark_of ms n) i) s) (own_shown s))

      found_by : (y : Arc) → (y.from < n) ⊎ (y.from ≡ n) → (Led y → ⊥) → Leads arcs chosen y
          → some_lead (own_instr p ch (inlets_at xs n) (mark_of ms n) i) ≡ true
      found_by y from not (by_choice _ c) = absurd (⊎_elim (λ lt. not (inr (lt, by_choice y c))) (λ at. not (inl (at, c))) from)
      found_by y from not (by_port _ side f) = ⊎_elim
          (λ lt. absurd (not (inr (lt, by_port y side f))))
          (λ at. found (inlet y.from side) side (ap (λ k. inlet k side) at) f)
          from

    some_port : Decides (some_lead (own_instr p ch (inlets_at xs n) (mark_of ms n) i)) ((s : Port) × IsAfter arcs chosen (inlet n s))
    some_port = (
      λ t. ⊎_elim (λ a. (Left, port_follows Left a)) (λ a. (Right, port_follows Right a))
          (or_cases (all_lead (own_instr p ch (inlets_at xs n) (mark_of ms n) i).left) (all_lead (own_instr p ch (inlets_at xs n) (mark_of ms n) i).right) t),
      λ w. found (inlet n w.0) w.0 refl w.1,
    )

    leads_from : (y : Arc) (b : Bool) → y.from ≡ n → Leads arcs chosen y → Decides b (chosen y)
        → (some_lead (own_instr p ch (inlets_at xs n) (mark_of ms n) i) || b) ≡ true
    leads_from y b at (by_choice _ c) d = or_right (some_lead (own_instr p ch (inlets_at xs n) (mark_of ms n) i)) b (d.1 c)
    leads_from y b at (by_port _ side f) d = or_left (some_lead (own_instr p ch (inlets_at xs n) (mark_of ms n) i)) b
        (some_port.1 (side, subst (λ m. IsAfter arcs chosen (inlet m side)) at f))

    leads_exact : (s : Bool) (y : Arc) → IsFrom n s y → Decides (some_lead (own_instr p ch (inlets_at xs n) (mark_of ms n) i)
        || is_chosen ch i (mark_of ms n) s) (Leads arcs chosen y)
    leads_exact s y from =
        let d : Decides (is_chosen ch i (mark_of ms n) s) (chosen y) = subst (λ t. Decides (is_chosen ch i (mark_of ms n) t) (chosen y)) from.1
        (says y from.0) in (
          λ t. ⊎_elim
              (λ a. let w = some_port.0 a in by_port y w.0 (subst (λ m. IsAfter arcs chosen (inlet m w.0)) (sym from.0) w.1))
              (λ a. by_choice y (d.0 a))
              (or_cases (some_lead (own_instr p ch (inlets_at xs n) (mark_of ms n) i)) (is_chosen ch i (mark_of ms n) s) t),
          λ l. leads_from y (is_chosen ch i (mark_of ms n) s) from.0 l d,
        )

    pub instr_shown : Shows (Leads arcs chosen) (done ++ arcs_from p n i i.op) (enter_instr p ch xs n (mark_of ms n) i)
    instr_shown =
        let lead = some_lead (own_instr p ch (inlets_at xs n) (mark_of ms n) i) in
        entered_shown (Leads arcs chosen) p done xs n (lead || is_chosen ch i (mark_of ms n) false) (lead || is_chosen ch i (mark_of ms n) true) i
        (leads_exact false) (leads_exact true) h

    pub earlier_more : (y : Arc) → Contains (done ++ arcs_from p n i i.op) y → y.from < n + 1
    earlier_more y there = ⊎_elim (λ lt. omega (arith, lt)) (λ at. omega (arith, at)) (from_done y there)

  pub pass_shown : (done : List Arc) (xs : List Inlets) (n : ℕ) (is : List Instr) → arcs ≡ done ++ arcs_of p n is
      → ((y : Arc) → Contains done y → y.from < n) → n + length is ≤ length xs → ByPlace Says n is
      → Shows (Leads arcs chosen) done xs → Shows (Leads arcs chosen) arcs (pass p ch ms xs n is)
  pass_shown done xs n [] e earlier long says h = subst (λ zs. Shows (Leads arcs chosen) zs xs) (sym (e ∙ append-nil done)) h
  pass_shown done xs n (i ∷ is) e earlier long says h =
      let rest = arcs_of p (n + 1) is in
      let len = instr_long p ch xs n (mark_of ms n) i in
      let later : (y : Arc) → Contains rest y → (n < y.from) × (y.from ≤ y.to.place) = λ y there. (let w = from_later p (n + 1) is y there
      in let f = w.0 in (omega (arith, f), w.1)) in
      let within : n < length xs = omega (arith, long) in
      pass_shown (done ++ arcs_from p n i i.op) (enter_instr p ch xs n (mark_of ms n) i) (n + 1) is
      (e ∙ sym (append_assoc done (arcs_from p n i i.op) rest))
      (earlier_more done xs n i rest e earlier later within says.0 h)
      (omega (arith, long, len))
      says.1
      (instr_shown done xs n i rest e earlier later within says.0 h)

  none_shown : (k : ℕ) → Shows (Leads arcs chosen) [] (replicate k bare)
  none_shown k = λ m s below.
      let lt : m < k = subst (λ n. m < n) (length-replicate k bare) below in
      subst (λ x. Shown (Leads arcs chosen) [] (inlet m s) (port_of x s)) (sym (get_or-replicate k m bare bare lt)) (empty m s)
    where
      empty : (m : ℕ) (s : Port) → Shown (Leads arcs chosen) [] (inlet m s) (port_of bare s)
      empty m Left = λ y there to. omega (arith, there.1)
      empty m Right = λ y there to. omega (arith, there.1)

  -- EXACTLY what follows, at each place of the block
  pub follows_exact : (is : List Instr) → arcs ≡ arcs_of p 0 is → ByPlace Says 0 is → (k : ℕ) (s : Port) → k < length is
      → Decides (all_lead (port_of (inlets_at (pass p ch ms (replicate (length is) bare) 0 is) k) s)) (IsAfter arcs chosen (inlet k s))
  follows_exact is e says k s below =
      let start = length-replicate (length is) bare in
      let len = pass_long p ch ms (replicate (length is) bare) 0 is in
      let all = pass_shown [] (replicate (length is) bare) 0 is e (λ y there. omega (arith, there.1)) (omega (arith, start)) says (none_shown (length is)) in
      follows_shown arcs chosen arcs (inlet k s) (port_of (inlets_at (pass p ch ms (replicate (length is) bare) 0 is) k) s) (λ y a. a) (λ y a b. a)
      (all k s (omega (arith, start, len, below)))

-- THE ROW
abbrev pub bit : List Bool → ℕ → Bool
bit row g = get_or row g false

module _ (g : ℕ) (xs : List Inlets) where
  -- where an instruction is the holder's, its ports lead
  abbrev pub Kept : ℕ → Instr → Type 0
  Kept n i = slot_of i i.op ≡ Some g → ports_lead i.op (inlets_at xs n) ≡ true

  crossed_exact : (row : List Bool) (o : Option ℕ) → g < length row → Decides (bit (crossed row o) g) ((bit row g ≡ true) × (o ≡ Some g → ⊥))
  crossed_exact row None below = (λ e. (e, λ f. cc), λ w. w.0)
  crossed_exact row (Some h) below = ⊎_elim
      (λ (same : g ≡ h).
      let lt : h < length row = subst (λ n. n < length row) same below in
      let off : bit (crossed row (Some h)) g ≡ false = subst (λ n. bit (crossed row (Some h)) n ≡ false) (sym same) (get_or-set_same row h false false lt) in
      (λ e. absurd (both_ways (bit (crossed row (Some h)) g) off e), λ w. absurd (w.1 (ap (λ n. Some n) (sym same)))))
      (λ (ne : g ≡ h → ⊥).
      let on : bit (crossed row (Some h)) g ≡ bit row g = get_or-set_other row h g false false ne in
      (λ e. (sym on ∙ e, λ f. ne (sym (same_Some h g f))), λ w. on ∙ w.0))
      (cases_eq g h)

  noted_exact : (row : List Bool) (n : ℕ) (i : Instr) → g < length row → Decides (bit (noted row i (inlets_at xs n)) g) ((bit row g ≡ true) × Kept n i)
  noted_exact row n i below = by_test (ports_lead i.op (inlets_at xs n))
    where
      by_test : (t : Bool) → Decides (bit (cond t row (crossed row (slot_of i i.op))) g) ((bit row g ≡ true) × (slot_of i i.op ≡ Some g → t ≡ true))
      by_test true = (λ e. (e, λ f. refl), λ w. w.0)
      by_test false =
          let d = crossed_exact row (slot_of i i.op) below in
          (λ e. ((d.0 e).0, λ f. absurd ((d.0 e).1 f)), λ w. d.1 (w.0, λ f. both_ways false refl (w.1 f)))

  noted_long : (row : List Bool) (n : ℕ) (i : Instr) → length (noted row i (inlets_at xs n)) ≡ length row
  noted_long row n i = by_test (ports_lead i.op (inlets_at xs n)) (slot_of i i.op)
    where
      by_test : (t : Bool) (o : Option ℕ) → length (cond t row (crossed row o)) ≡ length row
      by_test true o = refl
      by_test false None = refl
      by_test false (Some h) = length-set row h false

  pub row_exact : (row : List Bool) (n : ℕ) (is : List Instr) → g < length row → Decides (bit (row_from row xs n is) g) ((bit row g ≡ true) × ByPlace Kept n is)
  row_exact row n [] below = (λ e. (e, tt), λ w. w.0)
  row_exact row n (i ∷ is) below =
      let one = noted_exact row n i below in
      let len = noted_long row n i in
      let more = row_exact (noted row i (inlets_at xs n)) (n + 1) is (omega (arith, len, below)) in
      (λ e. let w = more.0 e in ((one.0 w.0).0, ((one.0 w.0).1, w.1)), λ w. more.1 (one.1 (w.0, w.1.0), w.1.1))

-- the ports of a holder's instruction
pub ports_exact : (op : Op) (x : Inlets) → Decides (ports_lead op x) ((s : Port) → is_port op s ≡ true → all_lead (port_of x s) ≡ true)
ports_exact (Open k) x = (λ e. on_left e, λ f. f Left refl)
  where
    on_left : all_lead x.left ≡ true → (s : Port) → is_port (Open k) s ≡ true → all_lead (port_of x s) ≡ true
    on_left e Left f = e
    on_left e Right f = absurd (both_ways false refl f)
ports_exact (Take k) x = (λ e. λ s f. absurd (both_ways false refl f), λ f. refl)
ports_exact (Give k) x = (λ e. λ s f. absurd (both_ways false refl f), λ f. refl)
ports_exact (Drain k) x = (λ e. λ s f. absurd (both_ways false refl f), λ f. refl)
ports_exact op x = (
  λ e. both_sides (and_parts (all_lead x.left) (all_lead x.right) e),
  λ f. and_from (all_lead x.left) (all_lead x.right)
      (f Left refl) (f Right refl),
)
  where
    both_sides : (all_lead x.left ≡ true) × (all_lead x.right ≡ true) → (s : Port) → true ≡ true → all_lead (port_of x s) ≡ true
    both_sides h Left f = h.0
    both_sides h Right f = h.1
