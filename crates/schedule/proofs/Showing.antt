-- A report shows a run.
use Rattle.std.proofs.Common.{◌≡◌, refl, sym, ◌∙◌, ap, subst, ℕ, zero, suc, ◌<◌, ◌≤◌, ◌⊎◌, inl, inr, Bool, false, ℤ, List, [], ◌∷◌, ◌++◌, length}
use Rattle.std.proofs.Common.{Some, arith, ⊎_elim}
use Rattle.std.specs.Prelude.{slice_get, count_by, Contains, ◌==◌}
use Rattle.std.proofs.Math.Nat.{mod-lt}
use Rattle.std.proofs.lemmas.Bool.{cases_lt}
use Rattle.std.proofs.lemmas.List.{nil_from_length}
use Rattle.std.proofs.lemmas.List.Elements.{Contains-append_left, Contains-append_right}
use Rattle.std.proofs.lemmas.List.Sorted.{IsPermutation-sym, Contains-permutation, length_permutation}
use Rattle.std.proofs.lemmas.Option.{get_or_from_slice_get}
use Rattle.lemmas.proofs.SliceGet.{get_some}
use Rattle.tags.specs.declared.token.Cont.{Cont}
use Rattle.tags.specs.declared.token.To.{To}
use Rattle.tags.specs.declared.token.Token.{Token}
use Rattle.tags.specs.declared.slot.SlotState.{SlotState}
use Rattle.tags.specs.declared.slot.SlotState.TheVariants as slot
use Rattle.tags.specs.Addresses.{element_of}
use Rattle.semantics.specs.declared.report.End.{End}
use Rattle.semantics.specs.Machine.{Machine, Size, Events, Wants, at_start}
use Rattle.semantics.specs.Program.{Program}
use Rattle.semantics.specs.Report.{Report, IsPicture, Shows, HasEnd, IsWithinSteps, HasTokenFor, sum_below, waiters}
use Rattle.semantics.specs.Faithful.{HasStoreOfFull}
use Rattle.semantics.proofs.Sums.{sum_zero}
use Rattle.element.specs.Parts.{IsPart}
use Rattle.element.specs.Holding.{Holding}
use Rattle.element.specs.Steps as one
use Rattle.element.specs.Steps.{place_of}
use Rattle.frame_order.specs.InOrder.{OrderedRun}
use Rattle.frame_order.proofs.InOrder.{run_of}
use Rattle.schedule.specs.declared.halt.Halt.{Halt}
use Rattle.schedule.specs.Setting.{Setting, size, total}
use Rattle.schedule.specs.State.{State, AllFrom, IsPlaced, IsSoundState, AreParts, tokens_in}
use Rattle.schedule.specs.Runs.{Began, HaltsAs, EndsAs}
use Rattle.schedule.specs.Shown.{ShowsInOrder}
use Rattle.schedule.proofs.Places.{first_get}

in_lanes : (lanes : List Holding) (i : ℕ) (h : Holding) (t : Token) → slice_get lanes i ≡ Some h → Contains h.queue t → Contains (tokens_in lanes) t
in_lanes [] i h t e c = absurd (let no : ⊥ = cc in no)
in_lanes (x ∷ xs) zero h t e c = let same : x ≡ h =
    cc in Contains-append_left x.queue (tokens_in xs) t (subst (λ (y : Holding). Contains y.queue t) (sym same) c)
in_lanes (x ∷ xs) (suc i) h t e c = Contains-append_right x.queue (tokens_in xs) t (in_lanes xs i h t e c)

in_pool : (s : State) (m : Machine) (i : ℕ) (h : Holding) (t : Token) → AreParts s m → slice_get s.lanes i ≡ Some h → Contains h.queue t → Contains m.pool t
in_pool s m i h t stands e c = Contains-permutation (tokens_in s.lanes) m.pool t (IsPermutation-sym m.pool (tokens_in s.lanes) stands.tokens)
    (in_lanes s.lanes i h t e c)

pub picked : (h : Holding) (pick : ℕ) (t : Token) → one.Picks h pick t → Contains h.queue t
picked h pick t p = (place_of h pick, mod-lt pick p.some, get_or_from_slice_get h.queue (place_of h pick) t t p.token)

first_in : (q : List Token) → 0 < length q → (t : Token) × Contains q t
first_in [] some = absurd (omega arith)
first_in (t ∷ ts) some = (t, (0, some, refl))

lane_with : (lanes : List Holding) → 0 < length (tokens_in lanes) → (i : ℕ) × (h : Holding) × (slice_get lanes i ≡ Some h) × (0 < length h.queue)
lane_with [] some = absurd (omega arith)
lane_with (x ∷ xs) some = by_queue (cases_lt 0 (length x.queue)) (λ (l : 0 < length (tokens_in xs)). lane_with xs l)
  where
    by_queue : (0 < length x.queue) ⊎ (length x.queue ≤ 0) → (0 < length (tokens_in xs) → (i : ℕ) × (h : Holding) × (slice_get xs i ≡ Some h)
        × (0 < length h.queue)) → (i : ℕ) × (h : Holding) × (slice_get (x ∷ xs) i ≡ Some h) × (0 < length h.queue)
    by_queue (inl l) rest = (0, x, refl, l)
    by_queue (inr l) rest =
        let none : length x.queue ≡ 0 = omega arith in
        let empty : x.queue ≡ [] = nil_from_length x.queue none in
        let later = rest (subst (λ (q : List Token). 0 < length (q ++ tokens_in xs)) empty some) in
        (suc later.0, later.1, later.2, later.3)

pool_empty : (s : State) (m : Machine) → AreParts s m → tokens_in s.lanes ≡ [] → m.pool ≡ []
pool_empty s m stands none =
    let e : length (tokens_in s.lanes) ≡ length m.pool = stands_length in
    let z : length (tokens_in s.lanes) ≡ 0 = ap (λ (ts : List Token). length ts) none in
    nil_from_length m.pool (omega arith)
  where
    stands_length : length (tokens_in s.lanes) ≡ length m.pool
    stands_length = length_permutation m.pool (tokens_in s.lanes) stands.tokens

-- WAITING REQUESTS
sum_some : (n : ℕ) (f : ℕ → ℕ) → 0 < sum_below n f → (x : ℕ) × (x < n) × (0 < f x)
sum_some zero f some = absurd (omega arith)
sum_some (suc n) f some = by_last (cases_lt 0 (f n)) (λ (l : 0 < sum_below n f). sum_some n f l)
  where
    by_last : (0 < f n) ⊎ (f n ≤ 0) → (0 < sum_below n f → (x : ℕ) × (x < n) × (0 < f x)) → (x : ℕ) × (x < suc n) × (0 < f x)
    by_last (inl l) rest = (n, omega arith, l)
    by_last (inr l) rest = let r = rest (omega arith) in let low : r.0 < n = r.1 in (r.0, omega arith, r.2)

waits_some : (v : SlotState) → 0 < waiters v → (c : Cont) × (v ≡ slot.Waiter c)
waits_some slot.Empty l = absurd (omega arith)
waits_some (slot.Left w) l = absurd (omega arith)
waits_some (slot.Right w) l = absurd (omega arith)
waits_some (slot.Credits k) l = absurd (omega arith)
waits_some (slot.Waiter c) l = (c, refl)
waits_some (slot.Draining k) l = absurd (omega arith)

module _ (s : State) (m : Machine) (r : Report) (sound : IsSoundState s) (stands : AreParts s m)
    (picture : IsPicture s.setting.program (size s.setting) m r) where
  abbrev g : Setting
  g = s.setting

  none_wait : r.waiting_frames ≡ 0 → r.waiting_credits ≡ 0 → Wants m → ⊥
  none_wait frames credits (inl asks) = asks (nil_from_length m.store.requests (sym picture.waiting_frames ∙ frames))
  none_wait frames credits (inr (f, k, c, waits)) = ⊎_elim
      (λ (low : f < total g). ⊎_elim
      (λ (within : k < 512).
      let outer = sum_zero (total g) (λ x. sum_below 512 (λ y. waiters (m.store.slots x y))) (sym picture.waiting_credits ∙ credits) f low in
      let inner : waiters (m.store.slots f k) ≡ 0 = sum_zero 512 (λ y. waiters (m.store.slots f y)) outer k within in
      let one_waits : waiters (m.store.slots f k) ≡ 1 = ap (λ (v : SlotState). waiters v) waits in
      absurd (omega arith))
      (λ (past : 512 ≤ k). beyond (λ l w. let few = sound.setting.few_slots in absurd (omega arith)))
      (cases_lt k 512))
      (λ (past : total g ≤ f). beyond (λ l w. absurd (omega arith)))
      (cases_lt f (total g))
    where
      beyond : (f < total g → k < g.width → ⊥) → ⊥
      beyond out = let empty = stands.bounded.slots f k out in let no : ⊥ = cc in no

  some_wait : (0 < r.waiting_frames) ⊎ (0 < r.waiting_credits) → Wants m
  some_wait (inl l) = inl (λ none. let z : length m.store.requests ≡ 0 = ap (λ (cs : List Cont). length cs) none in let e = picture.waiting_frames
      in absurd (omega arith))
  some_wait (inr l) =
      let outer = sum_some (total g) (λ x. sum_below 512 (λ y. waiters (m.store.slots x y))) (subst (λ (n : ℕ). 0 < n) picture.waiting_credits l) in
      let inner = sum_some 512 (λ y. waiters (m.store.slots outer.0 y)) outer.2 in
      let waits = waits_some (m.store.slots outer.0 inner.0) inner.2 in
      inr (outer.0, inner.0, waits.0, waits.1)

  has_token : (i : ℕ) (h : Holding) → slice_get s.lanes i ≡ Some h → 0 < length h.queue → HasTokenFor (size g) i m
  has_token i h there some =
      let p = first_get (IsPlaced g) s.lanes i h sound.lanes there in
      let t = first_in h.queue some in
      let at : element_of h.part.shape.elements t.0.to ≡ h.part.shape.element = subst (λ (u : Token). element_of h.part.shape.elements u.to
      ≡ h.part.shape.element) t.1.2 (p.sound.addressed t.1.0 t.0 t.1.1) in
      (t.0, in_pool s m i h t.0 stands there t.1, ap (λ (n : ℕ). element_of n t.0.to) (sym p.elements) ∙ at ∙ p.element)

  part_of_lane : (i : ℕ) (h : Holding) → slice_get s.lanes i ≡ Some h → IsPart h.part m.store
  part_of_lane i h there = first_get (λ (k : ℕ) (x : Holding). IsPart x.part m.store) s.lanes i h stands.parts there

  pub has_end : (by_list : Bool) (evs : Events) (halt : Halt)
      → AllFrom (λ (i : ℕ) (h : Holding). h.made ≡ count_by (λ (ev : ℕ × Token). ev.0 == i) evs) 0 s.lanes
      → HaltsAs s by_list halt → EndsAs g.program r halt → HasEnd g.program (size g) g.steps by_list false evs m r.end
  has_end by_list evs Halt.NoToken counts none (inl (e, frames, credits)) = subst (λ (x : End). HasEnd g.program (size g) g.steps by_list false evs m
      x) (sym e) (pool_empty s m stands none, none_wait frames credits)
  has_end by_list evs Halt.NoToken counts none (inr (e, some)) = subst (λ (x : End). HasEnd g.program (size g) g.steps by_list false evs m x) (sym e)
      (pool_empty s m stands none, some_wait some)
  has_end by_list evs (Halt.Clash cell) counts (i, pick, (h, can, clash)) (a, k, e, array, index, is) =
      let t : Token = clash.token in
      let full = clash.second.full m.store (part_of_lane i h can.0.there) in
      let as_store : t ≡ record { to = To.Store cell clash.second.value; word = t.word } = ap
      (λ (to : To). let u : Token = record { to = to; word = t.word } in u) clash.second.to in
      let there : Contains m.pool record { to = To.Store cell clash.second.value; word = t.word } = subst (λ (u : Token). Contains m.pool u) as_store
      (in_pool s m i h t stands can.0.there (picked h pick t clash.picks)) in
      subst (λ (x : End). HasEnd g.program (size g) g.steps by_list false evs m x) (sym e) (
        array,
        index,
        subst (λ (x : ℕ). HasStoreOfFull m x)
            (sym is) (clash.second.value, full.0, t.word, there, full.1),
      )
  has_end by_list evs Halt.Steps counts (inl (i, (h, lane, some, all))) e =
      subst (λ (x : End). HasEnd g.program (size g) g.steps by_list false evs m x) (sym e)
      (inl (
        i,
        sym (first_get (λ (k : ℕ) (x : Holding). x.made ≡ count_by (λ (ev : ℕ × Token). ev.0 == k) evs) s.lanes i h counts lane.there)
            ∙ all,
        has_token i h lane.there some,
      ))
  has_end by_list evs Halt.Steps counts (inr (is_noted, has)) e =
      let l = lane_with s.lanes has in
      subst (λ (x : End). HasEnd g.program (size g) g.steps by_list false evs m x) (sym e) (inr (is_noted, (l.0, has_token l.0 l.1 l.2 l.3)))
  has_end by_list evs (Halt.Stuck rule) counts (i, pick, (h, can, stuck)) e =
      subst (λ (x : End). HasEnd g.program (size g) g.steps by_list false evs m x) (sym e) (
        stuck.token,
        in_pool s m i h stuck.token stands
            can.0.there (picked h pick stuck.token stuck.picks),
        stuck.excluded m.store (part_of_lane i h can.0.there),
      )
  has_end by_list evs Halt.Memory counts halts e = subst (λ (x : End). HasEnd g.program (size g) g.steps by_list false evs m x) (sym e) tt
  has_end by_list evs Halt.Stop counts halts e = absurd halts

-- each element has counted its events, and made no more than it may
pub within_steps : (s : State) (evs : Events) → IsSoundState s
    → AllFrom (λ (i : ℕ) (h : Holding). h.made ≡ count_by (λ (ev : ℕ × Token). ev.0 == i) evs) 0 s.lanes
    → IsWithinSteps (size s.setting) s.setting.steps evs
within_steps s evs sound counts e low =
    let x = get_some s.lanes e (subst (λ (n : ℕ). e < n) (sym sound.count) low) in
    let few : x.0.made ≤ s.setting.steps = (first_get (IsPlaced s.setting) s.lanes e x.0 sound.lanes x.1).made in
    let same = first_get (λ (i : ℕ) (h : Holding). h.made ≡ count_by (λ (ev : ℕ × Token). ev.0 == i) evs) s.lanes e x.0 counts x.1 in
    subst (λ (n : ℕ). n ≤ s.setting.steps) same few

-- the report of a run that halts here shows it
pub shows_here : (inputs : List ℤ) (s : State) (evs : Events) (by_list : Bool) (halt : Halt) (r : Report) → IsSoundState s → (b : Began inputs s evs)
    → HaltsAs s by_list halt → EndsAs s.setting.program r halt → r.events ≡ evs
    → IsPicture s.setting.program (size s.setting) b.machine r → ShowsInOrder s.setting.program (size s.setting) inputs s.setting.steps by_list false r
shows_here inputs s evs by_list halt r sound b halts ends reported picture =
    let end = has_end s b.machine r sound b.stands picture by_list evs halt b.counts halts ends in
    record {
      last = b.machine;
      run = subst (λ (l : Events). OrderedRun s.setting.program (size s.setting) (at_start s.setting.program inputs) l b.machine) (sym reported) b.run;
      picture = picture;
      ends = subst (λ (l : Events). HasEnd s.setting.program (size s.setting) s.setting.steps by_list false l b.machine r.end) (sym reported) end;
      within = subst (λ (l : Events). IsWithinSteps (size s.setting) s.setting.steps l) (sym reported) (within_steps s evs sound b.counts);
    }

-- what it shows in order it shows
pub shown : (p : Program) (z : Size) (inputs : List ℤ) (steps : ℕ) (by_list may_stop : Bool) (r : Report) → ShowsInOrder p z inputs steps by_list may_stop r
    → Shows p z inputs steps by_list may_stop r
shown p z inputs steps by_list may_stop r s = record {
  last = s.last;
  run = run_of p z (at_start p inputs) s.last r.events s.run;
  picture = s.picture;
  ends = s.ends;
  within = s.within;
}
