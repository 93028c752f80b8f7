-- A run in which frames are used again is a run in which each is used once.
use Rattle.std.proofs.Common.{◌≡◌, refl, sym, ap, ◌∙◌, subst, ℕ, suc, ◌+◌, ◌*◌, ◌<◌, ◌≤◌, ◌⊎◌, inl, inr, ℤ, Bool, true, false, List, [], ◌∷◌, ◌++◌, map, length}
use Rattle.std.proofs.Common.{Option, Some, None, IsPermutation, arith, length-append, append_assoc, append-nil, add-zero, add-suc, mul_left_comm, mul-pos}
use Rattle.std.proofs.Common.{zero-mul}
use Rattle.std.specs.Prelude.{◌==◌, if◌then◌else◌}
use Rattle.std.proofs.lemmas.Bool.{cases_eq, cases_lt, eqb-true, eq-eqb}
use Rattle.std.proofs.lemmas.List.Elements.{Contains-append_left, Contains-append_right}
use Rattle.std.proofs.lemmas.List.Sorted.{IsPermutation-refl, IsPermutation-sym, IsPermutation-trans, IsPermutation-map, IsPermutation-append_left}
use Rattle.std.proofs.lemmas.List.Sorted.{IsPermutation-append_right, IsPermutation-middle, IsPermutation-to_front, length_permutation}
use Rattle.lemmas.proofs.Permutations.{Each, Spread, each_append, each_weaker, spread_append}
use Rattle.lemmas.proofs.Contains.{contains_mapped}
use Rattle.lemmas.proofs.Lists.{map_append}
use Rattle.tags.specs.declared.value.Value.{Value}
use Rattle.tags.specs.declared.value.Value.TheVariants.{Int}
use Rattle.tags.specs.declared.token.Port.TheVariants.{Left}
use Rattle.tags.specs.declared.token.Cont.{Cont}
use Rattle.tags.specs.declared.token.Word.{Word}
use Rattle.tags.specs.declared.token.To.{To}
use Rattle.tags.specs.declared.token.Token.{Token}
use Rattle.semantics.specs.Program.{Program, first_of, instr_at}
use Rattle.tags.specs.declared.slot.SlotState.TheVariants.{Empty}
use Rattle.semantics.specs.Rule.{token, Outcome, Becomes, Excluded, rule_at}
use Rattle.semantics.specs.Machine.{CellState, Vacant, Full, Deferred, Fires, Fetches, Stores, Hosts, Requests, outputs_of, slot_in, slot_used, with_slot_in}
use Rattle.semantics.specs.Machine.{Store, Machine, Size, put_at, with_out, with_requests, answer, Releases, Happens, Event, Events, Run, input_tokens}
use Rattle.semantics.specs.Machine.{at_start}
use Rattle.tags.specs.Addresses.{element_of}
use Rattle.semantics.specs.Orderly.{NamesTo, IsFreeOf, IsFreeAtRelease}
use Rattle.semantics.specs.Renamed.{re_cont, re_word, re_to, re_token}
use Rattle.semantics.specs.Handed.{EachOnce}
use Rattle.semantics.specs.Holders.{Holder, held_by_event, holds}
use Rattle.semantics.specs.Plan.{Plan}
use Rattle.semantics.specs.Cause.{is_request, is_credit_event}
use Rattle.semantics.specs.Handed.{handed_by, handed}
use Rattle.law_reuse.specs.FramesGenerations.{is_release, release_count}
use Rattle.law_reuse.proofs.FramesSnoc.{run_snoc, handed_snoc, holds_snoc, tally, tally_snoc}
use Rattle.law_reuse.proofs.BoundsTallies.{Counter, count_at, count_request, count_release, count_re, count_off}
use Rattle.law_reuse.proofs.FramesCounts.{kept_count, more_count, Counted, counted_both, counted_waits, counted_serves}
use Rattle.law_reuse.proofs.SlotsTracked.{held_re, holds_none}
use Rattle.law_reuse.proofs.FramesLists.{Differ, all_differ}
use Rattle.law_reuse.proofs.FramesFold.{Fold, Follows, fold_same, out_fold, instr_step, fetch_step, store_step, request_step, host_step, put_same, put_other}
use Rattle.law_reuse.proofs.FramesFold.{answer_re, eq_under, ne_eqb}
use Rattle.law_reuse.proofs.FramesFreed.{place, IsNaming, place_low, place_injective, place_same, next_use, naming_later, naming_next, place_fresh, Renews}
use Rattle.law_reuse.proofs.FramesFreed.{renews_next, keep_tokens, free_fold}

-- a run up to here in which each frame is handed out once, and these are the frames that were handed out
pub record Once (p : Program) (z : Size) (start : Machine) (used : ℕ → Type 0) (Says : (events : Events) (u : Machine) → Run p z start events u → Type 0)
    (u : Machine) : Type 0 where
  pub events : Events
  pub run : Run p z start events u
  pub among : Each used (0 ∷ handed p z start events u run)
  pub differ : Spread Differ (0 ∷ handed p z start events u run)
  -- what else is known of it
  pub said : Says events u run

once_said : (p : Program) (z : Size) (start : Machine) (used : ℕ → Type 0) (Says More : (events : Events) (u : Machine) → Run p z start events u → Type 0)
    (u : Machine) (O : Once p z start used Says u)
    → More O.events u O.run → Once p z start used More u
once_said p z start used Says More u O said = record { events = O.events; run = O.run; among = O.among; differ = O.differ; said = said }

pub once_more : (p : Program) (z : Size) (start : Machine) (used more : ℕ → Type 0)
    (Says More : (events : Events) (u : Machine) → Run p z start events u → Type 0) (u v : Machine) (e : ℕ) (t : Token)
    (O : Once p z start used Says u) (ev : Event p z e t u v)
    → (fs : List ℕ) → handed_by t.to ev.made ≡ fs → Each more fs → Spread Differ fs → Each (λ f. used f → ⊥) fs → ((f : ℕ) → used f → more f)
    → More (O.events ++ (e, t) ∷ []) v (run_snoc p z start u v O.events e t O.run ev) → Once p z start more More v
once_more p z start used more Says More u v e t O ev fs same new apart fresh grows said =
    let before : List ℕ = 0 ∷ handed p z start O.events u O.run in
    let both : handed p z start (O.events ++ (e, t) ∷ []) v (run_snoc p z start u v O.events e t O.run ev) ≡ handed p z start O.events u O.run ++ fs =
    handed_snoc p z start u v O.events e t O.run ev ∙ ap (λ (l : List ℕ). handed p z start O.events u O.run ++ l) same in
    record {
      events = O.events ++ (e, t) ∷ [];
      run = run_snoc p z start u v O.events e t O.run ev;
      among = subst (λ (l : List ℕ). Each more (0 ∷ l)) (sym both) (each_append more before fs (each_weaker used more grows before O.among) new);
      differ = subst (λ (l : List ℕ). Spread Differ (0 ∷ l)) (sym both)
          (spread_append Differ before fs O.differ apart
          (each_weaker used (λ x. Each (Differ x) fs)
          (λ x ux. each_weaker (λ f. used f → ⊥) (Differ x) (λ f nf e. nf (subst used e ux)) fs fresh) before O.among));
      said = said;
    }

request_re : (h : ℕ → ℕ) (to : To) → is_request (re_to h to) ≡ is_request to
request_re h (To.Instr f ip q) = refl
request_re h (To.Fetch x) = refl
request_re h (To.Store x v) = refl
request_re h To.Manager = refl
request_re h (To.Release f) = refl
request_re h (To.Host j) = refl

credit_re : (p : Program) (h : ℕ → ℕ) (to : To) → is_credit_event p (re_to h to) ≡ is_credit_event p to
credit_re p h (To.Instr f ip q) = refl
credit_re p h (To.Fetch x) = refl
credit_re p h (To.Store x v) = refl
credit_re p h To.Manager = refl
credit_re p h (To.Release f) = refl
credit_re p h (To.Host j) = refl

-- ---- WHAT IS KNOWN OF A RUN, EVENT BY EVENT: who holds each slot, and what was counted at each frame since its last release.
pub record So : Type 0 where
  pub held : ℕ → ℕ → Option Holder
  pub counted : Counter → ℕ → ℕ

abbrev pub counted_next : Plan → Program → (Counter → ℕ → ℕ) → Store → To → List Token → Counter → ℕ → ℕ
counted_next P p counted old (To.Release g) made x f = if g == f then 0 else counted x f
counted_next P p counted old to made x f = counted x f + count_at P p x f old to made

abbrev pub so_next : Plan → Program → So → Store → To → List Token → Store → So
so_next P p so old to made new =
    record { held = λ f s. held_by_event P p f s (so.held f s) to new; counted = λ x f. counted_next P p so.counted old to made x f }

abbrev pub so_after : (P : Plan) (p : Program) (so : So) (z : Size) (old : Machine) (events : Events) (new : Machine) → Run p z old events new → So
so_after P p so z old [] new r = so
so_after P p so z old (x ∷ events) new r = so_after P p (so_next P p so old.store x.1.to r.1.made r.0.store) z r.0 events new r.2

abbrev pub so_start : So
so_start = record { held = λ f s. None; counted = λ x f. 0 }

pub so_held : (P : Plan) (p : Program) (so : So) (z : Size) (old : Machine) (events : Events) (new : Machine) (r : Run p z old events new) (f s : ℕ)
    → (so_after P p so z old events new r).held f s ≡ holds P p f s (so.held f s) z old events new r
so_held P p so z old [] new r f s = refl
so_held P p so z old (x ∷ events) new r f s = so_held P p (so_next P p so old.store x.1.to r.1.made r.0.store) z r.0 events new r.2 f s

-- What is known of the unfolded run: it counts the events so far, and shows what `so` says of the run.
pub record Said (P : Plan) (p : Program) (z : Size) (start : Machine) (t n : ℕ) (gen : ℕ → ℕ) (done : Events) (waiting : ℕ) (so : So) (events : Events)
    (u : Machine) (run : Run p z start events u) : Type 0 where
  pub counted : Counted p done events waiting
  pub holders : (f s : ℕ) → holds P p (place t gen f) s None z start events u run ≡ so.held f s
  pub tallied : (x : Counter) (f : ℕ) → tally (count_at P p x (place t gen f)) p z start events u run ≡ so.counted x f
  -- nothing was counted of a use that is still ahead
  pub fresh : (x : Counter) (f j : ℕ) → f < t → gen f < j → j ≤ n → tally (count_at P p x (f + j * t)) p z start events u run ≡ 0
  -- the use of a frame has as its number how often the frame was released
  pub uses : (f : ℕ) → f < t → gen f ≡ release_count f done

named_image : (h : ℕ → ℕ) (F : ℕ) (to : To) → NamesTo F (re_to h to) → (g : ℕ) × (h g ≡ F)
named_image h F (To.Instr g ip q) e = (g, e)
named_image h F (To.Release g) e = (g, e)
named_image h F (To.Fetch x) e = absurd e
named_image h F (To.Store x v) e = absurd e
named_image h F To.Manager e = absurd e
named_image h F (To.Host j) e = absurd e

-- an event counts nothing of a frame that is no frame's name
count_image : (P : Plan) (p : Program) (x : Counter) (h : ℕ → ℕ) (F : ℕ) (s : Store) (to : To) (made : List Token) → ((g : ℕ) → F ≡ h g → ⊥)
    → count_at P p x F s (re_to h to) (map (re_token h) made) ≡ 0
count_image P p x h F s to made off = count_off P p x F s (re_to h to) (map (re_token h) made) (λ e. (let g = named_image h F to e in off g.0 (sym g.1)))
    (λ t inside e. (let k = contains_mapped (re_token h) made t inside in let g = named_image h F k.0.to (subst (λ (t : Token). NamesTo F t.to) (sym k.2) e) in
    off g.0 (sym g.1)))

-- ---- what the unfolded run holds

abbrev pub asking : List Cont → List Token
asking cs = map (λ (c : Cont). token To.Manager (Word.Back c)) cs

abbrev pub waits : (ℕ → ℕ) → List Cont → List Token
waits h cs = map (re_token h) (asking cs)

pub record Folds (t : ℕ) (h : ℕ → ℕ) (m u : Machine) : Type 0 where
  pub fold : Fold t h m.store u.store
  pub pool : IsPermutation u.pool (map (re_token h) m.pool ++ waits h m.store.requests)

-- the uses that have begun
abbrev pub Used : ℕ → (ℕ → ℕ) → (ℕ → Bool) → ℕ → Type 0
Used t gen out f = (g : ℕ) × (j : ℕ) × (g < t) × (f ≡ g + j * t) × ((j < gen g) ⊎ ((j ≡ gen g) × (out g ≡ true)))

-- the pool before and after an event
pub pool_before : (h : ℕ → ℕ) (m u : Machine) (t : Token) (rest : List Token) (ws : List Token) → IsPermutation u.pool (map (re_token h) m.pool ++ ws)
    → IsPermutation m.pool (t ∷ rest)
    → IsPermutation u.pool (re_token h t ∷ (map (re_token h) rest ++ ws))
pool_before h m u t rest ws p q =
    IsPermutation-trans _ _ _ p (IsPermutation-append_left ws (map (re_token h) m.pool) (map (re_token h) (t ∷ rest))
    (IsPermutation-map (re_token h) m.pool (t ∷ rest) q))

pool_after : (h : ℕ → ℕ) (pool made rest ws : List Token) → IsPermutation pool (made ++ rest)
    → IsPermutation (map (re_token h) made ++ (map (re_token h) rest ++ ws)) (map (re_token h) pool ++ ws)
pool_after h pool made rest ws q =
    let f : Token → Token = re_token h in
    let a : IsPermutation (map f pool) (map f made ++ map f rest) =
    subst (IsPermutation (map f pool)) (map_append f made rest) (IsPermutation-map f pool (made ++ rest) q) in
    let b : IsPermutation (map f pool ++ ws) (map f made ++ (map f rest ++ ws)) =
    subst (IsPermutation (map f pool ++ ws)) (append_assoc (map f made) (map f rest) ws) (IsPermutation-append_left ws _ _ a) in
    IsPermutation-sym _ _ b

-- THE LAW'S PREMISE: in runs that hand out each frame at most once
abbrev pub FreesOnce : Program → List ℤ → ℕ → Type 0
FreesOnce p inputs elements = (frames : ℕ) → 0 < frames → (events : Events) (u : Machine)
    → (run : Run p record { elements = elements; frames = frames } (at_start p inputs) events u)
    → EachOnce (0 ∷ handed p record { elements = elements; frames = frames } (at_start p inputs) events u run) → IsFreeAtRelease u

used_fresh : (t : ℕ) (gen : ℕ → ℕ) (out : ℕ → Bool) (f : ℕ) → f < t → out f ≡ false → Used t gen out (place t gen f) → ⊥
used_fresh t gen out f below was (g, j, lt, e, q) = go q
  where
    both : (f ≡ g) × (gen f ≡ j)
    both = place_same t f g (gen f) j below lt e

    go : ((j < gen g) ⊎ ((j ≡ gen g) × (out g ≡ true))) → ⊥
    go (inl less) = let a = both.1 in let b : gen f ≡ gen g = ap gen both.0 in omega (arith, a)
    go (inr q) = let no : false ≡ true = sym was ∙ ap out both.0 ∙ q.1 in absurd (cc)

used_same : (t : ℕ) (gen : ℕ → ℕ) (out new : ℕ → Bool) → ((g : ℕ) → out g ≡ true → new g ≡ true) → (f : ℕ) → Used t gen out f → Used t gen new f
used_same t gen out new keeps f (g, j, lt, e, inl q) = (g, j, lt, e, inl q)
used_same t gen out new keeps f (g, j, lt, e, inr q) = (g, j, lt, e, inr (q.0, keeps g q.1))

-- a use that ends stays used
used_freed : (t : ℕ) (gen : ℕ → ℕ) (out : ℕ → Bool) (k x : ℕ) → Used t gen out x → Used t (next_use gen k) (put_at out k false) x
used_freed t gen out k x (g, j, lt, e, q) = (g, j, lt, e, go (cases_eq k g) q)
  where
    go : ((k ≡ g) ⊎ (k ≡ g → ⊥)) → ((j < gen g) ⊎ ((j ≡ gen g) × (out g ≡ true)))
        → (j < next_use gen k g) ⊎ ((j ≡ next_use gen k g) × (put_at out k false g ≡ true))
    go (inl e) (inl less) =
        let a : next_use gen k g ≡ suc (gen k) = put_same gen k (suc (gen k)) g e in
        let b : gen k ≡ gen g = ap gen e in
        inl (omega (arith, a, b, less))
    go (inl e) (inr same) =
        let a : next_use gen k g ≡ suc (gen k) = put_same gen k (suc (gen k)) g e in
        let b : gen k ≡ gen g = ap gen e in
        let c : j ≡ gen g = same.0 in
        inl (omega (arith, a, b, c))
    go (inr ne) (inl less) =
        let a : next_use gen k g ≡ gen g = put_other gen k (suc (gen k)) g ne in
        inl (omega (arith, a, less))
    go (inr ne) (inr same) =
        let a : next_use gen k g ≡ gen g = put_other gen k (suc (gen k)) g ne in
        inr (same.0 ∙ sym a, put_other out k false g ne ∙ same.1)

-- ---- what an event leaves of the frames that are out, and of the requests

slot_out : (m : Store) (f : ℕ) (r : Option ℕ) (s : _) → ((with_slot_in m f r s).out ≡ m.out) × ((with_slot_in m f r s).requests ≡ m.requests)
slot_out m f None s = (refl, refl)
slot_out m f (Some r) s = (refl, refl)

pub fires_out : (m new : Store) (f : ℕ) (r : Option ℕ) (o : Outcome) (made : List Token) → Fires m f r o made new
    → (new.out ≡ m.out) × (new.requests ≡ m.requests)
fires_out m new f r (Excluded n) made e = absurd e
fires_out m new f r (Becomes s ts) made e =
    let same = slot_out m f r s in (ap (λ (n : Store). n.out) e.1 ∙ same.0, ap (λ (n : Store). n.requests) e.1 ∙ same.1)

pub fires_cells : (m new : Store) (f : ℕ) (r : Option ℕ) (o : Outcome) (made : List Token) → Fires m f r o made new → new.cells ≡ m.cells
fires_cells m new f r (Excluded n) made e = absurd e
fires_cells m new f r (Becomes s ts) made e = ap (λ (n : Store). n.cells) e.1 ∙ same r
  where
    same : (r : Option ℕ) → (with_slot_in m f r s).cells ≡ m.cells
    same None = refl
    same (Some r) = refl

pub fetches_out : (m new : Store) (x : ℕ) (c : Cont) (y : CellState) (made : List Token) → Fetches m x c y made new
    → (new.out ≡ m.out) × (new.requests ≡ m.requests)
fetches_out m new x c Vacant made e = (ap (λ (n : Store). n.out) e.1, ap (λ (n : Store). n.requests) e.1)
fetches_out m new x c (Deferred cs) made e = (ap (λ (n : Store). n.out) e.1, ap (λ (n : Store). n.requests) e.1)
fetches_out m new x c (Full v) made e = (ap (λ (n : Store). n.out) e.1, ap (λ (n : Store). n.requests) e.1)

pub stores_out : (m new : Store) (x : ℕ) (v : Value) (c : Cont) (y : CellState) (made : List Token) → Stores m x v c y made new
    → (new.out ≡ m.out) × (new.requests ≡ m.requests)
stores_out m new x v c Vacant made e = (ap (λ (n : Store). n.out) e.1, ap (λ (n : Store). n.requests) e.1)
stores_out m new x v c (Deferred cs) made e = (ap (λ (n : Store). n.out) e.1, ap (λ (n : Store). n.requests) e.1)
stores_out m new x v c (Full w) made e = absurd e

pub hosts_out : (r : ℕ) (m new : Store) (j : ℕ) (w : Word) (made : List Token) → Hosts r m j w made new → (new.out ≡ m.out) × (new.requests ≡ m.requests)
hosts_out r m new j w made (inl e) = (ap (λ (n : Store). n.out) e.2.3, ap (λ (n : Store). n.requests) e.2.3)
hosts_out r m new j w made (inr e) = (ap (λ (n : Store). n.out) e.3, ap (λ (n : Store). n.requests) e.3)

module _ (P : Plan) (p : Program) (inputs : List ℤ) (elements frames n : ℕ) (some_frame : 0 < frames) where
  wide_frame : 0 < suc n * frames
  wide_frame = let one : 0 < suc n = omega arith in mul-pos one some_frame

  abbrev pub total : ℕ
  total = elements * frames

  -- frames enough for n + 1 uses of each
  abbrev pub wide : Size
  wide = record { elements = elements; frames = suc n * frames }

  abbrev pub Saying : (ℕ → ℕ) → Events → List Cont → So → (events : Events) (u : Machine) → Run p wide (at_start p inputs) events u → Type 0
  Saying gen done requests so = λ events u run. Said P p wide (at_start p inputs) total n gen done (length requests) so events u run

  pub record Next (k : ℕ) (done : Events) (so : So) (new : Machine) : Type 0 where
    pub gen : ℕ → ℕ
    pub after : Machine
    pub naming : IsNaming total n k gen
    pub folds : Folds total (place total gen) new after
    pub once : Once p wide (at_start p inputs) (Used total gen new.store.out) (Saying gen done new.store.requests so) after

  abbrev pub next : So → Store → To → List Token → Store → So
  next so old to made new = so_next P p so old to made new

  place_below : (k : ℕ) (gen : ℕ → ℕ) → IsNaming total n k gen → (f : ℕ) → f < total → place total gen f < elements * (suc n * frames)
  place_below k gen N f below =
      let r = N.room f below in
      let low : place total gen f < suc n * total = place_low total n f (gen f) below (omega (arith, r)) in
      let same : elements * (suc n * frames) ≡ suc n * (elements * frames) = mul_left_comm elements (suc n) frames in
      subst (λ (x : ℕ). place total gen f < x) (sym same) low

  -- an event that hands out no frame and takes none back
  plain_step : (k : ℕ) (gen : ℕ → ℕ) (done : Events) (so : So) (m u new : Machine) (e : ℕ) (to : To) (w : Word) (made rest : List Token)
      → IsNaming total n (suc k) gen → Folds total (place total gen) m u
      → Once p wide (at_start p inputs) (Used total gen m.store.out) (Saying gen done m.store.requests so) u → IsPermutation m.pool (token to w ∷ rest)
      → IsPermutation new.pool (made ++ rest)
      → handed_by (re_to (place total gen) to) (map (re_token (place total gen)) made) ≡ []
      → (new.store.out ≡ m.store.out) × (new.store.requests ≡ m.store.requests)
      → ((x : Counter) (f : ℕ) → counted_next P p so.counted m.store to made x f ≡ so.counted x f + count_at P p x f m.store to made)
      → ((f : ℕ) → is_release f to ≡ false)
      → Follows p total (elements * (suc n * frames)) (place total gen) u.store to w made new.store
      → Next k (done ++ (e, token to w) ∷ []) (next so m.store to made new.store) new
  plain_step k gen done so m u new e to w made rest N S O takes leaves none same grows keeps does =
      let h : ℕ → ℕ = place total gen in
      let ws : List Token = waits h m.store.requests in
      let left : List Token = map (re_token h) rest ++ ws in
      let after : Machine = record { store = does.0; pool = map (re_token h) made ++ left } in
      let ev : Event p wide (element_of elements (re_to h to)) (token (re_to h to) (re_word h w)) u after =
      record {
        made = map (re_token h) made;
        rest = left;
        addressed = refl;
        takes = pool_before h m u (token to w) rest ws S.pool takes;
        happens = does.1;
        leaves = IsPermutation-refl after.pool;
      } in
      record {
        gen = gen;
        after = after;
        naming = naming_later total n k gen N;
        folds =
            record {
              fold = does.2;
              pool =
                  subst (λ (cs : List Cont). IsPermutation after.pool (map (re_token h) new.pool ++ waits h cs)) (sym same.1)
                  (pool_after h new.pool made rest ws leaves);
            };
        once = once_more p wide (at_start p inputs) (Used total gen m.store.out) (Used total gen new.store.out) (Saying gen done m.store.requests so)
            (Saying gen (done ++ (e, token to w) ∷ []) new.store.requests (next so m.store to made new.store)) u after (element_of elements (re_to h to))
            (token (re_to h to) (re_word h w)) O ev
            [] none tt tt tt (λ f. used_same total gen m.store.out new.store.out (λ g e. ap (λ (o : ℕ → Bool). o g) same.0 ∙ e) f)
            record {
              counted =
                  subst (λ (cs : List Cont). Counted p (done ++ (e, token to w) ∷ [])
                  (O.events ++ (element_of elements (re_to h to), token (re_to h to) (re_word h w)) ∷ []) (length cs)) (sym same.1)
                  (counted_both p done O.events (length m.store.requests) e (element_of elements (re_to h to)) (token to w) (token (re_to h to) (re_word h w))
                  (request_re h to) (credit_re p h to) O.said.counted);
              holders =
                  λ f s. holds_snoc P p (h f) s None wide (at_start p inputs) u after O.events (element_of elements (re_to h to))
                  (token (re_to h to) (re_word h w)) O.run ev
                  ∙ ap (λ (x : Option Holder). held_by_event P p (h f) s x (re_to h to) does.0) (O.said.holders f s)
                  ∙ held_re P p h (place_injective total n (suc k) gen N) f s (so.held f s) to new.store does.0 (does.2.slots f s);
              tallied =
                  λ x f. (let a = tally_snoc (count_at P p x (h f)) p wide (at_start p inputs) u after O.events (element_of elements (re_to h to))
                  (token (re_to h to) (re_word h w)) O.run ev in
                  let b = O.said.tallied x f in
                  let c = count_re P p x h (place_injective total n (suc k) gen N) f m.store u.store S.fold.slots to made in
                  let d = grows x f in
                  omega (arith, a, b, c, d));
              fresh =
                  λ x f j below more within. (let a = tally_snoc (count_at P p x (f + j * total)) p wide (at_start p inputs) u after O.events
                  (element_of elements (re_to h to)) (token (re_to h to) (re_word h w)) O.run ev in
                  let b = O.said.fresh x f j below more within in
                  let c = count_image P p x h (f + j * total) u.store to made (λ g e. place_fresh total n (suc k) gen N f j below more within g e) in
                  omega (arith, a, b, c));
              uses = λ f below. O.said.uses f below ∙ sym (kept_count f done e (token to w) (keeps f));
            };
      }

  -- a request that is served, or waits
  ask_step : (k : ℕ) (gen : ℕ → ℕ) (done : Events) (so : So) (m u new : Machine) (e : ℕ) (c : Cont) (made rest : List Token) → IsNaming total n (suc k) gen
      → Folds total (place total gen) m u
      → Once p wide (at_start p inputs) (Used total gen m.store.out) (Saying gen done m.store.requests so) u
      → IsPermutation m.pool (token To.Manager (Word.Back c) ∷ rest) → IsPermutation new.pool (made ++ rest)
      → Requests total m.store c made new.store → Next k (done ++ (e, token To.Manager (Word.Back c)) ∷ []) (next so m.store To.Manager made new.store) new
  ask_step k gen done so m u new e c made rest N S O takes leaves asks =
      go (request_step p total (elements * (suc n * frames)) (place total gen) (place_injective total n (suc k) gen N)
      (place_below (suc k) gen N) m.store u.store new.store c made S.fold asks)
    where
      h : ℕ → ℕ
      h = place total gen

      go : ((f : ℕ) × (f < total) × (m.store.out f ≡ false) × (new.store ≡ with_out m.store f true) × (made ≡ answer c (Word.Frame f) ∷ [])
          × Happens p (elements * (suc n * frames)) u.store To.Manager (re_word h (Word.Back c)) (map (re_token h) made) (with_out u.store (h f) true)
          × Fold total h new.store (with_out u.store (h f) true))
          ⊎ ((made ≡ []) × (new.store.requests ≡ m.store.requests ++ c ∷ []) × (new.store.out ≡ m.store.out) × Fold total h new.store u.store)
          → Next k (done ++ (e, token To.Manager (Word.Back c)) ∷ []) (next so m.store To.Manager made new.store) new
      go (inl (f, below, was, is, makes, happens, fold)) =
          let ws : List Token = waits h m.store.requests in
          let left : List Token = map (re_token h) rest ++ ws in
          let after : Machine = record { store = with_out u.store (h f) true; pool = map (re_token h) made ++ left } in
          let ev : Event p wide 0 (token To.Manager (re_word h (Word.Back c))) u after =
          record {
            made = map (re_token h) made;
            rest = left;
            addressed = refl;
            takes = pool_before h m u (token To.Manager (Word.Back c)) rest ws S.pool takes;
            happens = happens;
            leaves = IsPermutation-refl after.pool;
          } in
          let out : new.store.out ≡ put_at m.store.out f true = ap (λ (s : Store). s.out) is in
          let is_out : new.store.out f ≡ true = ap (λ (o : ℕ → Bool). o f) out ∙ put_same m.store.out f true f refl in
          record {
            gen = gen;
            after = after;
            naming = naming_later total n k gen N;
            folds =
                record {
                  fold = fold;
                  pool =
                      subst (λ (cs : List Cont). IsPermutation after.pool (map (re_token h) new.pool ++ waits h cs)) (sym (ap (λ (s : Store). s.requests) is))
                      (pool_after h new.pool made rest ws leaves);
                };
            once = once_more p wide (at_start p inputs) (Used total gen m.store.out) (Used total gen new.store.out) (Saying gen done m.store.requests so)
                (Saying gen (done ++ (e, token To.Manager (Word.Back c)) ∷ []) new.store.requests (next so m.store To.Manager made new.store)) u after 0
                (token To.Manager (re_word h (Word.Back c))) O ev
                (h f ∷ []) (ap (λ (l : List Token). handed_by To.Manager (map (re_token h) l)) makes) ((f, gen f, below, refl, inr (refl, is_out)), tt) (tt, tt)
                (used_fresh total gen m.store.out f below was, tt)
                (λ x. used_same total gen m.store.out new.store.out (λ g e. ap (λ (o : ℕ → Bool). o g) out ∙ stays g f (cases_eq f g) e) x)
                record {
                  counted =
                      subst (λ (cs : List Cont). Counted p (done ++ (e, token To.Manager (Word.Back c)) ∷ [])
                      (O.events ++ (0, token To.Manager (re_word h (Word.Back c))) ∷ []) (length cs)) (sym (ap (λ (s : Store). s.requests) is))
                      (counted_both p done O.events (length m.store.requests) e 0 (token To.Manager (Word.Back c))
                      (token To.Manager (re_word h (Word.Back c))) refl refl O.said.counted);
                  holders =
                      λ f s. holds_snoc P p (h f) s None wide (at_start p inputs) u after O.events 0 (token To.Manager (re_word h (Word.Back c))) O.run ev
                      ∙ O.said.holders f s;
                  tallied =
                      λ x f. (let a = tally_snoc (count_at P p x (h f)) p wide (at_start p inputs) u after O.events 0
                      (token To.Manager (re_word h (Word.Back c))) O.run ev in
                      let b = O.said.tallied x f in
                      let c = count_request P p x (h f) u.store (map (re_token h) made) in
                      let d = count_request P p x f m.store made in
                      omega (arith, a, b, c, d));
                  fresh =
                      λ x f j below more within. (let a = tally_snoc (count_at P p x (f + j * total)) p wide (at_start p inputs) u after O.events 0
                      (token To.Manager (re_word h (Word.Back c))) O.run ev in
                      let b = O.said.fresh x f j below more within in
                      let c = count_request P p x (f + j * total) u.store (map (re_token h) made) in
                      omega (arith, a, b, c));
                  uses = λ f below. O.said.uses f below ∙ sym (kept_count f done e (token To.Manager (Word.Back c)) refl);
                };
          }
        where
          stays : (g f : ℕ) → ((f ≡ g) ⊎ (f ≡ g → ⊥)) → m.store.out g ≡ true → put_at m.store.out f true g ≡ true
          stays g f (inl e) q = put_same m.store.out f true g e
          stays g f (inr ne) q = put_other m.store.out f true g ne ∙ q
      go (inr (none, more, out, fold)) =
          let ws : List Token = waits h m.store.requests in
          let t : Token = token To.Manager (Word.Back c) in
          let after : IsPermutation new.pool rest = subst (λ (l : List Token). IsPermutation new.pool (l ++ rest)) none leaves in
          let a = pool_before h m u t rest ws S.pool takes in
          let b : IsPermutation (re_token h t ∷ (map (re_token h) rest ++ ws)) ((map (re_token h) rest ++ ws) ++ re_token h t ∷ []) =
          IsPermutation-sym _ _ (IsPermutation-to_front (map (re_token h) rest ++ ws) (re_token h t)) in
          let c1 : (map (re_token h) rest ++ ws) ++ re_token h t ∷ [] ≡ map (re_token h) rest ++ waits h (m.store.requests ++ c ∷ []) =
          append_assoc (map (re_token h) rest) ws (re_token h t ∷ [])
          ∙ ap (λ (l : List Token). map (re_token h) rest ++ l)
          (sym (ap (map (re_token h)) (map_append (λ (c : Cont). token To.Manager (Word.Back c)) m.store.requests (c ∷ []))
          ∙ map_append (re_token h) (asking m.store.requests) (t ∷ []))) in
          let d : IsPermutation (map (re_token h) rest ++ waits h new.store.requests) (map (re_token h) new.pool ++ waits h new.store.requests) =
          IsPermutation-append_left _ _ _ (IsPermutation-map (re_token h) rest new.pool (IsPermutation-sym _ _ after)) in
          let whole : IsPermutation u.pool (map (re_token h) rest ++ waits h new.store.requests) =
          subst (λ (cs : List Cont). IsPermutation u.pool (map (re_token h) rest ++ waits h cs)) (sym more)
          (subst (IsPermutation u.pool) c1 (IsPermutation-trans _ _ _ a b)) in
          record {
            gen = gen;
            after = u;
            naming = naming_later total n k gen N;
            folds = record { fold = fold; pool = IsPermutation-trans _ _ _ whole d };
            once =
                subst (λ (o : ℕ → Bool). Once p wide (at_start p inputs) (Used total gen o)
                (Saying gen (done ++ (e, t) ∷ []) new.store.requests (next so m.store To.Manager made new.store)) u) (sym out)
                (once_said p wide (at_start p inputs) (Used total gen m.store.out) (Saying gen done m.store.requests so)
                (Saying gen (done ++ (e, t) ∷ []) new.store.requests (next so m.store To.Manager made new.store)) u O record {
                  counted =
                      subst (Counted p (done ++ (e, t) ∷ []) O.events) (sym (ap length more ∙ length-append m.store.requests (c ∷ [])))
                      (counted_waits p done O.events (length m.store.requests) e (Word.Back c) O.said.counted);
                  holders = O.said.holders;
                  tallied = λ x f. (let b = O.said.tallied x f in let d = count_request P p x f m.store made in omega (arith, b, d));
                  fresh = O.said.fresh;
                  uses = λ f below. O.said.uses f below ∙ sym (kept_count f done e t refl);
                });
          }

  -- a release, of a frame that nothing else names
  release_step : (k : ℕ) (gen : ℕ → ℕ) (done : Events) (so : So) (m u new : Machine) (e : ℕ) (f : ℕ) (w : Word) (made rest : List Token)
      → IsNaming total n (suc k) gen → Folds total (place total gen) m u
      → Once p wide (at_start p inputs) (Used total gen m.store.out) (Saying gen done m.store.requests so) u → FreesOnce p inputs elements
      → IsPermutation m.pool (token (To.Release f) w ∷ rest) → IsPermutation new.pool (made ++ rest) → Releases m.store f made new.store
      → Next k (done ++ (e, token (To.Release f) w) ∷ []) (next so m.store (To.Release f) made new.store) new
  release_step k gen done so m u new e f w made rest N S O frees takes leaves releases = go releases.1
    where
      done2 : Events
      done2 = done ++ (e, token (To.Release f) w) ∷ []

      h : ℕ → ℕ
      h = place total gen

      gen2 : ℕ → ℕ
      gen2 = next_use gen f

      h2 : ℕ → ℕ
      h2 = place total gen2

      is_out : u.store.out (h f) ≡ true
      is_out = S.fold.out f ∙ releases.0

      below : f < total
      below = S.fold.within f releases.0

      left : List Token
      left = map (re_token h) rest ++ waits h m.store.requests

      before : IsPermutation u.pool (token (To.Release (h f)) (re_word h w) ∷ left)
      before = pool_before h m u (token (To.Release f) w) rest (waits h m.store.requests) S.pool takes

      free : IsFreeOf (h f) left u
      free =
          (frees (suc n * frames) wide_frame O.events u O.run (all_differ (0 ∷ handed p wide (at_start p inputs) O.events u O.run) O.differ) (h f)
          (re_word h w) left before is_out).1

      renews : Renews h h2 f
      renews = renews_next total n k gen f below N

      naming : IsNaming total n k gen2
      naming = naming_next total n k gen f below N

      fold : Fold total h2 (with_out m.store f false) (with_out u.store (h f) false)
      fold = free_fold total h h2 (place_injective total n (suc k) gen N) f renews m.store u.store S.fold free.readers free.words free.slots

      kept : map (re_token h2) rest ≡ map (re_token h) rest
      kept = keep_tokens h h2 f renews rest (λ t inside. free.tokens t (Contains-append_left (map (re_token h) rest) (waits h m.store.requests) t inside))

      kept_waits : waits h2 m.store.requests ≡ waits h m.store.requests
      kept_waits =
          keep_tokens h h2 f renews (asking m.store.requests)
          (λ t inside. free.tokens t (Contains-append_right (map (re_token h) rest) (waits h m.store.requests) t inside))

      mid : Machine
      mid = record { store = with_out u.store (h f) false; pool = left }

      ev : Event p wide 0 (token (To.Release (h f)) (re_word h w)) u mid
      ev =
          record {
            made = [];
            rest = left;
            addressed = refl;
            takes = before;
            happens = (is_out, inl (S.fold.none_waits, refl, refl));
            leaves = IsPermutation-refl left;
          }

      fresh_slots : (((r : ℕ) → u.store.slots (h2 f) r ≡ Empty) × (u.store.out (h2 f) ≡ false)) ⊎ ((g : ℕ) × (h2 f ≡ h g)) → (r : ℕ)
          → u.store.slots (h2 f) r ≡ Empty
      fresh_slots (inl o) = o.0
      fresh_slots (inr o) = absurd (renews.fresh o.0 o.1)

      none_before : (g s : ℕ) → u.store.slots g s ≡ Empty → holds P p g s None wide (at_start p inputs) O.events u O.run ≡ None
      none_before g s empty = holds_none P p g s None wide (at_start p inputs) O.events u O.run (λ e. refl) empty

      holders2 : (g s : ℕ) → (g ≡ f) ⊎ (g ≡ f → ⊥) → holds P p (h2 g) s None wide (at_start p inputs) O.events u O.run ≡ so.held g s
      holders2 g s (inl e) =
          ap (λ (x : ℕ). holds P p (h2 x) s None wide (at_start p inputs) O.events u O.run) e ∙ none_before (h2 f) s (fresh_slots (S.fold.others (h2 f)) s)
          ∙ sym (none_before (h f) s (free.slots s)) ∙ O.said.holders f s ∙ ap (λ (x : ℕ). so.held x s) (sym e)
      holders2 g s (inr ne) = ap (λ (x : ℕ). holds P p x s None wide (at_start p inputs) O.events u O.run) (renews.same g ne) ∙ O.said.holders g s

      so2 : So
      so2 = next so m.store (To.Release f) made new.store

      room : gen f + suc k ≤ n
      room = N.room f below

      gen_at : gen2 f ≡ suc (gen f)
      gen_at = put_same gen f (suc (gen f)) f refl

      later : (g : ℕ) → (f ≡ g) ⊎ (f ≡ g → ⊥) → gen g ≤ gen2 g
      later g (inl e) = let a = put_same gen f (suc (gen f)) g e in let b : gen f ≡ gen g = ap gen e in omega (arith, a, b)
      later g (inr ne) = let a = put_other gen f (suc (gen f)) g ne in omega (arith, a)

      tallied2 : (x : Counter) (g : ℕ) → (f ≡ g) ⊎ (f ≡ g → ⊥)
          → tally (count_at P p x (h2 g)) p wide (at_start p inputs) O.events u O.run ≡ (if f == g then 0 else so.counted x g)
      tallied2 x g (inl e) =
          ap (λ (y : ℕ). tally (count_at P p x (h2 y)) p wide (at_start p inputs) O.events u O.run) (sym e)
          ∙ ap (λ (j : ℕ). tally (count_at P p x (f + j * total)) p wide (at_start p inputs) O.events u O.run) gen_at
          ∙ O.said.fresh x f (suc (gen f)) below (omega arith) (omega (arith, room)) ∙ sym (ap (λ (b : Bool). if b then 0 else so.counted x g) (eq-eqb f g e))
      tallied2 x g (inr ne) =
          ap (λ (y : ℕ). tally (count_at P p x y) p wide (at_start p inputs) O.events u O.run) (renews.same g (λ e. ne (sym e))) ∙ O.said.tallied x g
          ∙ sym (ap (λ (b : Bool). if b then 0 else so.counted x g) (ne_eqb f g ne))

      used_next : (g : ℕ) → (f ≡ g) ⊎ (f ≡ g → ⊥) → gen g ≡ release_count g done → gen2 g ≡ release_count g done2
      used_next g (inl same) old =
          let a = put_same gen f (suc (gen f)) g same in
          let b : gen f ≡ gen g = ap gen same in
          let c = more_count g done e (token (To.Release f) w) (eq-eqb f g same) in
          omega (arith, a, b, c, old)
      used_next g (inr ne) old = put_other gen f (suc (gen f)) g ne ∙ old ∙ sym (kept_count g done e (token (To.Release f) w) (ne_eqb f g ne))

      once : Once p wide (at_start p inputs) (Used total gen2 (put_at m.store.out f false)) (Saying gen2 done2 m.store.requests so2) mid
      once =
          once_more p wide (at_start p inputs) (Used total gen m.store.out) (Used total gen2 (put_at m.store.out f false))
          (Saying gen done m.store.requests so) (Saying gen2 done2 m.store.requests so2) u mid 0
          (token (To.Release (h f)) (re_word h w)) O ev [] refl tt tt tt (used_freed total gen m.store.out f)
          record {
            counted =
                counted_both p done O.events (length m.store.requests) e 0 (token (To.Release f) w)
                (token (To.Release (h f)) (re_word h w)) refl refl O.said.counted;
            holders =
                λ g s. holds_snoc P p (h2 g) s None wide (at_start p inputs) u mid O.events 0 (token (To.Release (h f)) (re_word h w)) O.run ev
                ∙ holders2 g s (cases_eq g f);
            tallied =
                λ x g. (let a = tally_snoc (count_at P p x (h2 g)) p wide (at_start p inputs) u mid O.events 0
                (token (To.Release (h f)) (re_word h w)) O.run ev in
                let b = tallied2 x g (cases_eq f g) in
                let c = count_release P p x (h2 g) (h f) u.store [] in
                omega (arith, a, b, c));
            fresh =
                λ x g j low more within. (let a = tally_snoc (count_at P p x (g + j * total)) p wide (at_start p inputs) u mid O.events 0
                (token (To.Release (h f)) (re_word h w)) O.run ev in
                let b = O.said.fresh x g j low (let l = later g (cases_eq f g) in omega (arith, l, more)) within in
                let c = count_release P p x (g + j * total) (h f) u.store [] in
                omega (arith, a, b, c));
            uses = λ g low. used_next g (cases_eq f g) (O.said.uses g low);
          }

      same_left : left ≡ map (re_token h2) rest ++ waits h2 m.store.requests
      same_left = ap (λ (l : List Token). l ++ waits h m.store.requests) (sym kept) ∙ ap (λ (l : List Token). map (re_token h2) rest ++ l) (sym kept_waits)

      go : ((m.store.requests ≡ []) × (made ≡ []) × (new.store ≡ with_out m.store f false))
          ⊎ ((c : Cont) × (cs : List Cont) × IsPermutation m.store.requests (c ∷ cs) × (made ≡ answer c (Word.Frame f) ∷ [])
          × (new.store ≡ with_requests m.store cs)) → Next k done2 so2 new
      go (inl (idle, none, is)) =
          let after : IsPermutation new.pool rest = subst (λ (l : List Token). IsPermutation new.pool (l ++ rest)) none leaves in
          let same : waits h2 m.store.requests ≡ waits h2 new.store.requests = ap (λ (s : Store). waits h2 s.requests) (sym is) in
          let moved : IsPermutation (map (re_token h2) rest ++ waits h2 m.store.requests) (map (re_token h2) new.pool ++ waits h2 m.store.requests) =
          IsPermutation-append_left (waits h2 m.store.requests) _ _ (IsPermutation-map (re_token h2) rest new.pool (IsPermutation-sym _ _ after)) in
          record {
            gen = gen2;
            after = mid;
            naming = naming;
            folds = record {
              fold = subst (λ (s : Store). Fold total h2 s mid.store) (sym is) fold;
              pool =
                  subst (λ (l : List Token). IsPermutation left (map (re_token h2) new.pool ++ l)) same
                  (subst (λ (l : List Token). IsPermutation l (map (re_token h2) new.pool ++ waits h2 m.store.requests)) (sym same_left) moved);
            };
            once = subst (λ (s : Store). Once p wide (at_start p inputs) (Used total gen2 s.out) (Saying gen2 done2 s.requests so2) mid) (sym is) once;
          }
      go (inr (c, cs, waiting, makes, is)) =
          let t : Token = token To.Manager (Word.Back c) in
          let ws : List Token = waits h2 cs in
          let still : List Token = map (re_token h2) rest ++ ws in
          let moved : IsPermutation (map (re_token h2) rest ++ waits h2 m.store.requests) (re_token h2 t ∷ still) =
          IsPermutation-trans _ _ _ (IsPermutation-append_right (map (re_token h2) rest) _ _
          (IsPermutation-map (re_token h2) _ _ (IsPermutation-map (λ (c : Cont). token To.Manager (Word.Back c)) m.store.requests (c ∷ cs) waiting)))
          (IsPermutation-middle (map (re_token h2) rest) (re_token h2 t) ws) in
          let after : Machine = record { store = with_out mid.store (h2 f) true; pool = map (re_token h2) made ++ still } in
          let free_now : mid.store.out (h2 f) ≡ false = fold.out f ∙ put_same m.store.out f false f refl in
          let handed_out : map (re_token h2) made ≡ answer (re_cont h2 c) (Word.Frame (h2 f)) ∷ [] = ap (map (re_token h2)) makes
          ∙ ap (λ (k : Token). k ∷ []) (answer_re h2 c (Word.Frame f)) in
          let ev2 : Event p wide 0 (re_token h2 t) mid after =
          record {
            made = map (re_token h2) made;
            rest = still;
            addressed = refl;
            takes = subst (λ (l : List Token). IsPermutation l (re_token h2 t ∷ still)) (sym same_left) moved;
            happens = inl (h2 f, place_below k gen2 naming f below, free_now, handed_out, refl);
            leaves = IsPermutation-refl after.pool;
          } in
          let out_again : Fold total h2 (with_out (with_out m.store f false) f true) after.store =
          out_fold total h2 (place_injective total n k gen2 naming) (with_out m.store f false) mid.store f below fold in
          let now : Fold total h2 (with_requests m.store cs) after.store =
          fold_same total h2 (with_out (with_out m.store f false) f true) (with_requests m.store cs) after.store refl refl
          (λ g. still_out g (cases_eq f g)) refl refl out_again in
          let out : new.store.out ≡ m.store.out = ap (λ (s : Store). s.out) is in
          record {
            gen = gen2;
            after = after;
            naming = naming;
            folds = record {
              fold = subst (λ (s : Store). Fold total h2 s after.store) (sym is) now;
              pool =
                  subst (λ (l : List Cont). IsPermutation after.pool (map (re_token h2) new.pool ++ waits h2 l)) (sym (ap (λ (s : Store). s.requests) is))
                  (pool_after h2 new.pool made rest ws leaves);
            };
            once =
                once_more p wide (at_start p inputs) (Used total gen2 (put_at m.store.out f false)) (Used total gen2 new.store.out)
                (Saying gen2 done2 m.store.requests so2) (Saying gen2 done2 new.store.requests so2)
                mid after 0 (re_token h2 t) once ev2
                (h2 f ∷ []) (ap (λ (l : List Token). handed_by To.Manager (map (re_token h2) l)) makes)
                ((f, gen2 f, below, refl, inr (refl, ap (λ (o : ℕ → Bool). o f) out ∙ releases.0)), tt) (tt, tt)
                (used_fresh total gen2 (put_at m.store.out f false) f below (put_same m.store.out f false f refl), tt)
                (λ x. used_same total gen2 (put_at m.store.out f false) new.store.out (λ g e. ap (λ (o : ℕ → Bool). o g) out ∙ back g (cases_eq f g) e) x)
                record {
                  counted =
                      subst (λ (cs : List Cont). Counted p done2 (once.events ++ (0, re_token h2 t) ∷ []) (length cs)) (sym (ap (λ (s : Store). s.requests) is))
                      (counted_serves p done2 once.events (length cs) 0 (re_word h2 (Word.Back c))
                      (subst (Counted p done2 once.events) (sym (length_permutation _ _ waiting)) once.said.counted));
                  holders =
                      λ g s. holds_snoc P p (h2 g) s None wide (at_start p inputs) mid after once.events 0 (re_token h2 t) once.run ev2 ∙ once.said.holders g s;
                  tallied =
                      λ x g. (let a = tally_snoc (count_at P p x (h2 g)) p wide (at_start p inputs) mid after once.events 0 (re_token h2 t) once.run ev2 in
                      let b = once.said.tallied x g in
                      let c = count_request P p x (h2 g) mid.store (map (re_token h2) made) in
                      omega (arith, a, b, c));
                  fresh =
                      λ x g j low more within. (let a = tally_snoc (count_at P p x (g + j * total)) p wide (at_start p inputs) mid after once.events 0
                      (re_token h2 t) once.run ev2 in
                      let b = once.said.fresh x g j low more within in
                      let c = count_request P p x (g + j * total) mid.store (map (re_token h2) made) in
                      omega (arith, a, b, c));
                  uses = once.said.uses;
                };
          }
        where
          still_out : (g : ℕ) → ((f ≡ g) ⊎ (f ≡ g → ⊥)) → m.store.out g ≡ put_at (put_at m.store.out f false) f true g
          still_out g (inl e) = ap m.store.out (sym e) ∙ releases.0 ∙ sym (put_same (put_at m.store.out f false) f true g e)
          still_out g (inr ne) = sym (put_other (put_at m.store.out f false) f true g ne ∙ put_other m.store.out f false g ne)

          back : (g : ℕ) → ((f ≡ g) ⊎ (f ≡ g → ⊥)) → put_at m.store.out f false g ≡ true → m.store.out g ≡ true
          back g (inl e) q = ap m.store.out (sym e) ∙ releases.0
          back g (inr ne) q = sym (put_other m.store.out f false g ne) ∙ q

  -- any event
  any_step : (k : ℕ) (gen : ℕ → ℕ) (done : Events) (so : So) (m u new : Machine) (e : ℕ) (to : To) (w : Word) (made rest : List Token)
      → IsNaming total n (suc k) gen → Folds total (place total gen) m u
      → Once p wide (at_start p inputs) (Used total gen m.store.out) (Saying gen done m.store.requests so) u → FreesOnce p inputs elements
      → IsPermutation m.pool (token to w ∷ rest) → IsPermutation new.pool (made ++ rest) → Happens p total m.store to w made new.store
      → Next k (done ++ (e, token to w) ∷ []) (next so m.store to made new.store) new
  any_step k gen done so m u new e (To.Instr f ip q) w made rest N S O frees takes leaves happens =
      plain_step k gen done so m u new e (To.Instr f ip q) w made rest N S O takes leaves refl
      (fires_out m.store new.store f (slot_used (instr_at p ip))
      (rule_at p record { frame = f; ip = ip } (instr_at p ip) (slot_in m.store f (slot_used (instr_at p ip))) q w) made happens)
      (λ x f. refl) (λ f. refl) (instr_step p total (elements * (suc n * frames)) (place total gen)
      (place_injective total n (suc k) gen N) m.store u.store new.store f ip q w made S.fold happens)
  any_step k gen done so m u new e (To.Fetch x) (Word.Back c) made rest N S O frees takes leaves happens =
      plain_step k gen done so m u new e (To.Fetch x) (Word.Back c) made rest N S O takes leaves refl
      (fetches_out m.store new.store x c (m.store.cells x) made happens)
      (λ x f. refl) (λ f. refl) (fetch_step p total (elements * (suc n * frames)) (place total gen) m.store u.store new.store x
      (Word.Back c) made S.fold happens)
  any_step k gen done so m u new e (To.Store x v) (Word.Back c) made rest N S O frees takes leaves happens =
      plain_step k gen done so m u new e (To.Store x v) (Word.Back c) made rest N S O takes leaves refl
      (stores_out m.store new.store x v c (m.store.cells x) made happens)
      (λ x f. refl) (λ f. refl) (store_step p total (elements * (suc n * frames)) (place total gen) m.store u.store new.store x v
      (Word.Back c) made S.fold happens)
  any_step k gen done so m u new e To.Manager (Word.Back c) made rest N S O frees takes leaves happens =
      ask_step k gen done so m u new e c made rest N S O takes leaves happens
  any_step k gen done so m u new e (To.Release f) w made rest N S O frees takes leaves happens =
      release_step k gen done so m u new e f w made rest N S O frees takes leaves happens
  any_step k gen done so m u new e (To.Host j) w made rest N S O frees takes leaves happens =
      plain_step k gen done so m u new e (To.Host j) w made rest N S O takes leaves refl (hosts_out (outputs_of p) m.store new.store j w made happens)
      (λ x f. refl) (λ f. refl) (host_step p total (elements * (suc n * frames)) (place total gen) m.store u.store new.store j w made S.fold happens)
  any_step k gen done so m u new e to w made rest N S O frees takes leaves happens = absurd happens

  -- the rest of a run
  run_steps : (extra : ℕ) (events : Events) (gen : ℕ → ℕ) (done : Events) (so : So) (m u new : Machine) → IsNaming total n (extra + length events) gen
      → Folds total (place total gen) m u
      → Once p wide (at_start p inputs) (Used total gen m.store.out) (Saying gen done m.store.requests so) u → FreesOnce p inputs elements
      → (r : Run p record { elements = elements; frames = frames } m events new)
      → Next extra (done ++ events) (so_after P p so record { elements = elements; frames = frames } m events new r) new
  run_steps extra [] gen done so m u new N S O frees r = record {
    gen = gen;
    after = u;
    naming = subst (λ (k : ℕ). IsNaming total n k gen) (add-zero extra) N;
    folds = record {
      fold = subst (λ (s : Store). Fold total (place total gen) s u.store) (sym r.1) S.fold;
      pool = subst (λ (s : Store). IsPermutation u.pool (map (re_token (place total gen)) new.pool ++ waits (place total gen) s.requests)) (sym r.1)
          (IsPermutation-trans _ _ _ S.pool (IsPermutation-append_left (waits (place total gen) m.store.requests) _ _
          (IsPermutation-map (re_token (place total gen)) m.pool new.pool r.0)));
    };
    once = subst (λ (s : Store). Once p wide (at_start p inputs) (Used total gen s.out) (Saying gen (done ++ []) s.requests so) u) (sym r.1)
        (subst (λ (l : Events). Once p wide (at_start p inputs) (Used total gen m.store.out) (Saying gen l m.store.requests so) u) (sym (append-nil done)) O);
  }
  run_steps extra (x ∷ events) gen done so m u new N S O frees r =
      let so2 : So = so_next P p so m.store x.1.to r.1.made r.0.store in
      let one : Next (extra + length events) (done ++ x ∷ []) so2 r.0 =
      any_step (extra + length events) gen done so m u r.0 x.0 x.1.to x.1.word r.1.made r.1.rest
      (subst (λ (k : ℕ). IsNaming total n k gen) (add-suc extra (length events)) N) S O frees r.1.takes r.1.leaves r.1.happens in
      let rest = run_steps extra events one.gen (done ++ x ∷ []) so2 r.0 one.after new one.naming one.folds one.once frees r.2 in
      subst (λ (l : Events). Next extra l (so_after P p so record { elements = elements; frames = frames } m (x ∷ events) new r) new)
      (append_assoc done (x ∷ []) events) rest

-- ---- the start

gen_of : (t n g : ℕ) → ((g < t) ⊎ (t ≤ g)) → ℕ
gen_of t n g (inl p) = 0
gen_of t n g (inr p) = suc n

gen_in : (t n g : ℕ) (s : (g < t) ⊎ (t ≤ g)) → g < t → gen_of t n g s ≡ 0
unfolding gen_of
gen_in t n g (inl p) q = refl
gen_in t n g (inr p) q = absurd (omega arith)

gen_above : (t n g : ℕ) (s : (g < t) ⊎ (t ≤ g)) → t ≤ g → gen_of t n g s ≡ suc n
unfolding gen_of
gen_above t n g (inl p) q = absurd (omega arith)
gen_above t n g (inr p) q = refl

gen_start : ℕ → ℕ → ℕ → ℕ
gen_start t n g = gen_of t n g (cases_lt g t)

naming_start : (t n : ℕ) → IsNaming t n n (gen_start t n)
unfolding gen_start
naming_start t n = record {
  above = λ g p. gen_above t n g (cases_lt g t) p;
  room = λ g p. let a : gen_of t n g (cases_lt g t) ≡ 0 = gen_in t n g (cases_lt g t) p in omega (arith, a);
}

start_uses : (t n f : ℕ) → f < t → gen_start t n f ≡ 0
unfolding gen_start
start_uses t n f below = gen_in t n f (cases_lt f t) below

first_place : (t n : ℕ) → 0 < t → (gen_start t n 0 ≡ 0) × (place t (gen_start t n) 0 ≡ 0)
unfolding gen_start
first_place t n p =
    let a : gen_of t n 0 (cases_lt 0 t) ≡ 0 = gen_in t n 0 (cases_lt 0 t) p in
    let b : gen_of t n 0 (cases_lt 0 t) * t ≡ 0 = ap (λ (x : ℕ). x * t) a ∙ zero-mul t in
    (a, omega (arith, b))

inputs_re : (h : ℕ → ℕ) → h 0 ≡ 0 → (ip : ℕ) (xs : List ℤ) → map (re_token h) (input_tokens ip xs) ≡ input_tokens ip xs
inputs_re h e ip [] = refl
inputs_re h e ip (x ∷ xs) =
    ap (λ (f : ℕ). token (To.Instr f ip Left) (Word.Val (Int x)) ∷ map (re_token h) (input_tokens (ip + 1) xs)) e
    ∙ ap (λ (l : List Token). token (To.Instr 0 ip Left) (Word.Val (Int x)) ∷ l) (inputs_re h e (ip + 1) xs)

start_folds : (p : Program) (inputs : List ℤ) (t n : ℕ) → 0 < t → Folds t (place t (gen_start t n)) (at_start p inputs) (at_start p inputs)
start_folds p inputs t n pos =
    let h : ℕ → ℕ = place t (gen_start t n) in
    let first : h 0 ≡ 0 = (first_place t n pos).1 in
    let pool : map (re_token h) (at_start p inputs).pool ++ [] ≡ (at_start p inputs).pool =
    append-nil (map (re_token h) (at_start p inputs).pool)
    ∙ ap (λ (f : ℕ). token (To.Instr f (first_of p p.main) Left) (Word.Back (Cont.Host 0)) ∷ map (re_token h) (input_tokens (first_of p p.main + 1) inputs))
    first
    ∙ ap (λ (l : List Token). token (To.Instr 0 (first_of p p.main) Left) (Word.Back (Cont.Host 0)) ∷ l) (inputs_re h first (first_of p p.main + 1) inputs) in
    record {
      fold = record {
        slots = λ g r. refl;
        cells = λ x. refl;
        out = λ g. ap (λ (z : ℕ). h g == z) (sym first) ∙ eq_under h (place_injective t n n (gen_start t n) (naming_start t n)) g 0;
        none_waits = refl;
        outputs = refl;
        done = refl;
        others = λ f. other f (cases_eq f 0);
        within = λ g e. let zero_is : g ≡ 0 = eqb-true g 0 e in subst (λ (x : ℕ). x < t) (sym zero_is) pos;
      };
      pool = subst (IsPermutation (at_start p inputs).pool) (sym pool) (IsPermutation-refl _);
    }
  where
    other : (f : ℕ) → ((f ≡ 0) ⊎ (f ≡ 0 → ⊥))
        → (((r : ℕ) → (at_start p inputs).store.slots f r ≡ Empty) × ((f == 0) ≡ false)) ⊎ ((g : ℕ) × (f ≡ place t (gen_start t n) g))
    other f (inl e) = inr (0, e ∙ sym (first_place t n pos).1)
    other f (inr ne) = inl (λ r. refl, ne_eqb f 0 ne)

-- ---- THE FRAME HALF OF THE LAW

-- The run in which each frame is used once, of a run with these events to m, of which `so` is reported.
pub record HasOnce (P : Plan) (p : Program) (inputs : List ℤ) (z : Size) (events : Events) (so : So) (m : Machine) : Type 0 where
  pub frames : ℕ
  pub some_frame : 0 < frames
  pub unfolded : Events
  pub last : Machine
  pub run : Run p record { elements = z.elements; frames = frames } (at_start p inputs) unfolded last
  pub once : EachOnce (0 ∷ handed p record { elements = z.elements; frames = frames } (at_start p inputs) unfolded last run)
  pub gen : ℕ → ℕ
  pub folds : Folds (z.elements * z.frames) (λ g. g + gen g * (z.elements * z.frames)) m last
  pub uses : (g : ℕ) → g < z.elements * z.frames → gen g ≡ release_count g events
  pub counted : Counted p events unfolded (length m.store.requests)
  pub holders : (f s : ℕ) → holds P p (f + gen f * (z.elements * z.frames)) s None record { elements = z.elements; frames = frames }
      (at_start p inputs) unfolded last run ≡ so.held f s
  pub tallied : (x : Counter) (f : ℕ) → tally (count_at P p x (f + gen f * (z.elements * z.frames))) p record { elements = z.elements; frames = frames }
      (at_start p inputs) unfolded last run ≡ so.counted x f

module _ (P : Plan) (p : Program) (inputs : List ℤ) (z : Size) (events : Events) (m : Machine) (some_element : 0 < z.elements) (some_frame : 0 < z.frames)
    (frees : FreesOnce p inputs z.elements)
    (r : Run p z (at_start p inputs) events m) where
  abbrev uses : ℕ
  uses = length events + length events

  pub last_state : Next P p inputs z.elements z.frames uses some_frame (length events) events (so_after P p so_start z (at_start p inputs) events m r) m
  last_state =
      let t : ℕ = z.elements * z.frames in
      let pos : 0 < t = mul-pos some_element some_frame in
      let first = first_place t uses pos in
      let start : Once p (wide P p inputs z.elements z.frames uses some_frame) (at_start p inputs) (Used t (gen_start t uses) (at_start p inputs).store.out)
      (Saying P p inputs z.elements z.frames uses some_frame (gen_start t uses) [] [] so_start) (at_start p inputs) =
      record {
        events = [];
        run = (IsPermutation-refl _, refl);
        among = ((0, 0, pos, sym (zero-mul t) ∙ sum_zero (0 * t), inr (sym first.0, refl)), tt);
        differ = (tt, tt);
        said =
            record {
              counted = record { events = refl; requests = refl; credits = refl };
              holders = λ f s. refl;
              tallied = λ x f. refl;
              fresh = λ x f j below more within. refl;
              uses = λ f below. start_uses t uses f below;
            };
      } in
      run_steps P p inputs z.elements z.frames uses some_frame (length events) events (gen_start t uses) [] so_start (at_start p inputs) (at_start p inputs) m
      (naming_start t uses) (start_folds p inputs t uses pos) start frees r
    where
      sum_zero : (x : ℕ) → x ≡ 0 + x
      sum_zero x = omega arith

  pub frames_once : HasOnce P p inputs z events (so_after P p so_start z (at_start p inputs) events m r) m
  frames_once = record {
    frames = suc uses * z.frames;
    some_frame = (let one : 0 < suc uses = omega arith in mul-pos one some_frame);
    unfolded = last_state.once.events;
    last = last_state.after;
    run = last_state.once.run;
    once =
        all_differ (0 ∷ handed p (wide P p inputs z.elements z.frames uses some_frame)
        (at_start p inputs) last_state.once.events last_state.after last_state.once.run) last_state.once.differ;
    gen = last_state.gen;
    folds = last_state.folds;
    uses = last_state.once.said.uses;
    counted = last_state.once.said.counted;
    holders = last_state.once.said.holders;
    tallied = last_state.once.said.tallied;
  }
