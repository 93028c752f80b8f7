-- The clauses of a faithful run, from the run that uses each frame once to that in which frames are used again.
use Rattle.std.proofs.Common.{◌≡◌, refl, sym, ap, ◌∙◌, subst, ℕ, ◌+◌, ◌*◌, ◌≤◌, ◌⊎◌, inl, inr, ℤ, Bool, false, List, [], ◌∷◌, ◌++◌, map, length, Option, Some}
use Rattle.std.proofs.Common.{None, Contains, IsPermutation, arith}
use Rattle.std.specs.Prelude.{count_by, if◌then◌else◌, nat_lt, ◌==◌}
use Rattle.std.proofs.lemmas.List.Sorted.{Contains-permutation, IsPermutation-sym}
use Rattle.std.proofs.lemmas.List.{length-map}
use Rattle.std.proofs.lemmas.List.Elements.{Contains-append_left}
use Rattle.lemmas.proofs.Contains.{contains_head, contains_map}
use Rattle.tags.specs.declared.value.Value.{Value}
use Rattle.tags.specs.declared.token.Cont.{Cont}
use Rattle.tags.specs.declared.token.Word.{Word}
use Rattle.tags.specs.declared.token.To.{To}
use Rattle.tags.specs.declared.token.Token.{Token}
use Rattle.tags.specs.declared.slot.SlotState.{SlotState}
use Rattle.tags.specs.declared.slot.SlotState.TheVariants as Slot
use Rattle.tags.specs.declared.slot.SlotState.TheVariants.{Empty, Credits, Waiter, Draining}
use Rattle.semantics.specs.Graph.{Flow}
use Rattle.semantics.specs.Meaning as Meaning
use Rattle.semantics.specs.Program.{Instr, Program, instr_at}
use Rattle.semantics.specs.Rule.{token, Outcome, Becomes, Excluded, rule_at}
use Rattle.semantics.specs.Machine.{CellState, Vacant, Full, Deferred, Machine, Store, Size, Events, at_start, slot_in, slot_used, Resting, Wants, excluded_by}
use Rattle.semantics.specs.Machine.{unless_back, unless_value, filled, outputs_of, stuck_rule, reader_count, value_in}
use Rattle.semantics.specs.Cause.{SameSeen, request_count, is_turn}
use Rattle.semantics.specs.Faithful.{largest, IsRun}
use Rattle.semantics.specs.Plan.{Plan}
use Rattle.semantics.specs.Placed.{placed}
use Rattle.semantics.specs.Orderly.{IsStart}
use Rattle.semantics.specs.Renamed.{re_cont, re_word, re_to, re_token, re_slot, re_cell}
use Rattle.law_reuse.specs.Frames.{TakesInputs, SharedSlotsAreFaithful, ReleasesAreLast, HoldersAreAlone}
use Rattle.semantics.specs.Handed.{handed}
use Rattle.semantics.specs.Holders.{Holder}
use Rattle.law_reuse.proofs.SlotsRuns.{own_so_after, own_held, Own, own_run}
use Rattle.law_reuse.proofs.SlotsLaw.{own_alone}
use Rattle.law_reuse.proofs.FramesRenames.{re_outcome, rule_re}
use Rattle.law_reuse.proofs.FramesCounts.{Counted}
use Rattle.law_reuse.proofs.FramesFold.{Fold, slot_in_re}
use Rattle.law_reuse.proofs.FramesFreed.{empty_back}
use Rattle.law_reuse.proofs.Frames.{So, so_start, so_held, waits, Folds, FreesOnce, frames_once}
use Rattle.law_reuse.proofs.FramesServed.{value_in_re, has_served}
use Rattle.law_reuse.proofs.FramesUnfolded.{frees_shared, release_shared}
use Rattle.law_reuse.proofs.SlotsClauses.{KeepsFaith, faith_kept, code_bounds, perm_nil}
use Rattle.law_reuse.proofs.SlotsFaith.{once_keeps_faith}

-- ---- RULES THAT EXCLUDE, UNDER OTHER NUMBERS FOR THE FRAMES

excluded_re : (h : ℕ → ℕ) (o : Outcome) → excluded_by (re_outcome h o) ≡ excluded_by o
excluded_re h (Becomes s ts) = refl
excluded_re h (Excluded n) = refl

back_re : (h : ℕ → ℕ) (w : Word) → unless_back (re_word h w) ≡ unless_back w
back_re h (Word.Val v) = refl
back_re h (Word.Frame f) = refl
back_re h (Word.Back c) = refl

value_re : (h : ℕ → ℕ) (w : Word) → unless_value (re_word h w) ≡ unless_value w
value_re h (Word.Val v) = refl
value_re h (Word.Frame f) = refl
value_re h (Word.Back c) = refl

pub stuck_re : (p : Program) (t : ℕ) (h : ℕ → ℕ) (m u : Store) → Fold t h m u → (to : To) (w : Word)
    → stuck_rule p u (re_to h to) (re_word h w) ≡ stuck_rule p m to w
stuck_re p t h m u F (To.Instr f ip q) w =
    let i : Option Instr = instr_at p ip in
    ap (λ (s : SlotState). excluded_by (rule_at p record { frame = h f; ip = ip } i s q (re_word h w))) (slot_in_re t h m u f (slot_used i) F)
    ∙ ap excluded_by (rule_re h p record { frame = f; ip = ip } i (slot_in m f (slot_used i)) q w)
    ∙ excluded_re h (rule_at p record { frame = f; ip = ip } i (slot_in m f (slot_used i)) q w)
stuck_re p t h m u F (To.Fetch x) w = back_re h w
stuck_re p t h m u F (To.Store x v) w = back_re h w
stuck_re p t h m u F To.Manager w = back_re h w
stuck_re p t h m u F (To.Release f) w = ap (λ (b : Bool). if b then None else Some 5) (F.out f)
stuck_re p t h m u F (To.Host j) w =
    (λ k. if nat_lt j (outputs_of p) then (if filled (F.outputs k j) then Some 6 else value_re h w k) else if j == outputs_of p
    then (if F.done k then Some 6 else None) else Some 6)

readers_re : (h : ℕ → ℕ) (y : CellState) → reader_count (re_cell h y) ≡ reader_count y
readers_re h Vacant = refl
readers_re h (Full v) = refl
readers_re h (Deferred cs) = length-map cs (re_cont h)

waiter_back : (h : ℕ → ℕ) (s : SlotState) (c : Cont) → re_slot h s ≡ Waiter c → (d : Cont) × (s ≡ Waiter d)
waiter_back h Empty c e = absurd (cc)
waiter_back h (Slot.Left w) c e = absurd (cc)
waiter_back h (Slot.Right w) c e = absurd (cc)
waiter_back h (Credits n) c e = absurd (cc)
waiter_back h (Draining n) c e = absurd (cc)
waiter_back h (Waiter d) c e = (d, refl)

pub empty_waits : (c : Cont) → Empty ≡ Waiter c → ⊥
empty_waits c e = cc

nil_or : {X : Type 0} (xs : List X) → (xs ≡ []) ⊎ (xs ≡ [] → ⊥)
nil_or [] = inl refl
nil_or (x ∷ xs) = inr (λ e. cc)

-- ---- ONE RUN: m, the state u of the run that uses each frame once, and the state v of that run led on

module _ (fl : Flow) (p : Program) (inputs : List ℤ) (t : ℕ) (h : ℕ → ℕ) (m u : Machine) (F : Folds t h m u) where
  seen_back : (v : Store) → ((x : ℕ) → value_in (v.cells x) ≡ value_in (m.store.cells x)) → v.outputs ≡ m.store.outputs → (s : Meaning.Memory) → SameSeen v s
      → SameSeen m.store s
  seen_back v cells outputs s S = record {
    outputs = λ j. ap (λ (o : ℕ → Option Value). o j) (sym outputs) ∙ S.outputs j;
    cells = λ x. sym (cells x) ∙ S.cells x;
  }

  values : (x : ℕ) → value_in (u.store.cells x) ≡ value_in (m.store.cells x)
  values x = ap value_in (F.fold.cells x) ∙ value_in_re h (m.store.cells x)

  readers_back : (x : ℕ) → reader_count (u.store.cells x) ≡ reader_count (m.store.cells x)
  readers_back x = ap reader_count (F.fold.cells x) ∙ readers_re h (m.store.cells x)

  none_asks : (Wants m → ⊥) → m.store.requests ≡ []
  none_asks calm = go (nil_or m.store.requests)
    where
      go : (m.store.requests ≡ []) ⊎ (m.store.requests ≡ [] → ⊥) → m.store.requests ≡ []
      go (inl e) = e
      go (inr some) = absurd (calm (inl some))

  rests_there : Resting m → (Wants m → ⊥) → Resting u
  rests_there rest calm =
      perm_nil u.pool (subst (λ (l : List Token). IsPermutation u.pool (map (re_token h) l ++ [])) rest
      (subst (λ (cs : List Cont). IsPermutation u.pool
      (map (re_token h) m.pool ++ map (re_token h) (map (λ (c : Cont). record { to = To.Manager; word = Word.Back c }) cs))) (none_asks calm) F.pool))

  calm_there : (Wants m → ⊥) → Wants u → ⊥
  calm_there calm (inl some) = some F.fold.none_waits
  calm_there calm (inr (f, r, c, e)) = go (F.fold.others f)
    where
      go : (((r : ℕ) → u.store.slots f r ≡ Empty) × (u.store.out f ≡ false)) ⊎ ((g : ℕ) × (f ≡ h g)) → ⊥
      go (inl o) = empty_waits c (sym (o.0 r) ∙ e)
      go (inr (g, is)) =
          let back = waiter_back h (m.store.slots g r) c (sym (F.fold.slots g r) ∙ ap (λ (x : ℕ). u.store.slots x r) (sym is) ∙ e) in
          calm (inr (g, r, back.0, back.1))

  there : (k : Token) → Contains m.pool k → Contains u.pool (re_token h k)
  there k inside =
      Contains-permutation _ _ _ (IsPermutation-sym _ _ F.pool)
      (Contains-append_left (map (re_token h) m.pool) _ (re_token h k) (contains_map (re_token h) m.pool k inside))

  pub faith_back : (events unfolded served : Events) (v : Machine) → ((x : ℕ) → value_in (v.store.cells x) ≡ value_in (m.store.cells x))
      → v.store.outputs ≡ m.store.outputs → Counted p events served 0
      → KeepsFaith fl p inputs unfolded u → KeepsFaith fl p inputs served v → KeepsFaith fl p inputs events m
  faith_back events unfolded served v cells outputs C K L = record {
    reachable = (K.reachable.0, K.reachable.1, seen_back u.store values F.fold.outputs (K.reachable.0).memory K.reachable.2);
    exact = λ rest calm.
        (let E = K.exact (rests_there rest calm) (calm_there calm) in
        record {
          state = E.state;
          reached = E.reached;
          seen = seen_back u.store values F.fold.outputs E.state.memory E.seen;
          at_rest = E.at_rest;
          only = E.only;
          no_clash = E.no_clash;
          readers = λ x. sym (readers_back x) ∙ E.readers x;
        });
    second_store =
        λ x some. K.second_store x
        (some.0, some.1, re_word h some.2, there (record { to = To.Store x some.0; word = some.2 }) some.3, F.fold.cells x ∙ ap (re_cell h) some.4);
    matching = λ k inside. sym (stuck_re p t h m.store u.store F.fold k.to k.word) ∙ K.matching (re_token h k) (there k inside);
    clean = λ rest calm none.
        (let E = K.clean (rests_there rest calm) (calm_there calm) (λ x. readers_back x ∙ none x) in
        record {
          frames = λ f. sym (F.fold.out f) ∙ E.frames (h f);
          slots = λ f r. empty_back h (m.store.slots f r) (sym (E.slots (h f) r) ∙ F.fold.slots f r);
        });
    cause = record {
      run = L.cause.run;
      state = L.cause.state;
      is_run = L.cause.is_run;
      seen = seen_back v.store cells outputs L.cause.state.memory L.cause.seen;
      due = L.cause.due;
      are_due = L.cause.are_due;
      enough = (let a = C.requests in let b = L.cause.enough in omega (arith, a, b));
      credits = subst (λ (n : ℕ). n ≤ count_by is_turn L.cause.due) (sym C.credits) L.cause.credits;
    };
    bound =
        (let a : length events ≡ length served = (let e = C.events in omega (arith, e)) in
        let b : request_count events ≡ request_count served = (let e = C.requests in omega (arith, e)) in
        subst (λ (n : ℕ). n ≤ 6 * (largest p.blocks + 1) * (1 + request_count events)) (sym a)
        (subst (λ (n : ℕ). length served ≤ 6 * (largest p.blocks + 1) * (1 + n)) (sym b) L.bound));
  }

-- ---- THE THEOREMS

pub start_of : (fl : Flow) (p : Plan) (slots : List (List ℕ)) → TakesInputs fl p → (inputs : List ℤ) (z : Size) (events : Events) (m : Machine)
    → IsRun fl (placed p slots) inputs z events m → IsStart p z inputs
start_of fl p slots takes inputs z events m r = record { some_element = r.some_element; some_frame = r.some_frame; inputs_fit = r.inputs_fit ∙ sym takes }

pub shared_slots_are_faithful : SharedSlotsAreFaithful
shared_slots_are_faithful fl p slots F orderly wired good takes = faith_kept fl code F.arrays (code_bounds fl p slots good.all F.bounds) one
  where
    code : Program
    code = placed p slots

    one : (inputs : List ℤ) (z : Size) (events : Events) (m : Machine) → IsRun fl (placed p slots) inputs z events m
        → KeepsFaith fl (placed p slots) inputs events m
    one inputs z events m r =
        let start : IsStart p z inputs = start_of fl p slots takes inputs z events m r in
        let frees : FreesOnce (placed p slots) inputs z.elements = frees_shared p slots wired good orderly inputs z start in
        let H = frames_once p (placed p slots) inputs z events m r.some_element r.some_frame frees r.run in
        let S = has_served p (placed p slots) inputs z events m r.some_element r.some_frame frees r.run in
        let wide : Size = record { elements = z.elements; frames = H.frames } in
        let wider : Size = record { elements = z.elements; frames = S.frames } in
        let here : IsRun fl (placed p slots) inputs wide H.unfolded H.last =
        record { inputs_fit = r.inputs_fit; some_element = r.some_element; some_frame = H.some_frame; run = H.run } in
        let there : IsRun fl (placed p slots) inputs wider S.unfolded S.last =
        record { inputs_fit = r.inputs_fit; some_element = r.some_element; some_frame = S.some_frame; run = S.run } in
        faith_back fl (placed p slots) inputs (z.elements * z.frames)
        (λ g. g + H.gen g * (z.elements * z.frames)) m H.last H.folds events H.unfolded S.unfolded S.last S.cells S.outputs S.counted
        (once_keeps_faith fl p slots F orderly wired good takes inputs wide H.unfolded H.last here H.once)
        (once_keeps_faith fl p slots F orderly wired good takes inputs wider S.unfolded S.last there S.once)

pub releases_are_last : ReleasesAreLast
releases_are_last fl p slots orderly wired good takes inputs z events m r =
    release_shared p slots wired good orderly inputs z events m (start_of fl p slots takes inputs z events m r) r.run

pub holders_are_alone : HoldersAreAlone
holders_are_alone fl p slots orderly wired good takes inputs z events m next e t r ev f ip s q x to is_x uses =
    let start : IsStart p z inputs = start_of fl p slots takes inputs z events m r in
    let frees : FreesOnce (placed p slots) inputs z.elements = frees_shared p slots wired good orderly inputs z start in
    let H = frames_once p (placed p slots) inputs z events m r.some_element r.some_frame frees r.run in
    let h : ℕ → ℕ = λ (g : ℕ). g + H.gen g * (z.elements * z.frames) in
    let wide : Size = record { elements = z.elements; frames = H.frames } in
    let wide_start : IsStart p wide inputs = record { some_element = start.some_element; some_frame = H.some_frame; inputs_fit = start.inputs_fit } in
    let gone : List ℕ = handed (placed p slots) wide (at_start (placed p slots) inputs) H.unfolded H.last H.run in
    let so : So = own_so_after p (placed p slots) so_start wide (at_start (placed p slots) inputs) H.unfolded H.last H.run in
    let own : Own p slots wide inputs H.unfolded H.last gone so = own_run p slots wired good orderly inputs wide wide_start H.unfolded H.last H.run H.once in
    let here : Contains m.pool t = Contains-permutation _ _ t (IsPermutation-sym _ _ ev.takes) (contains_head t ev.rest) in
    let there : Contains H.last.pool (re_token h t) =
    Contains-permutation _ _ _ (IsPermutation-sym _ _ H.folds.pool)
    (Contains-append_left (map (re_token h) m.pool) (waits h m.store.requests) (re_token h t) (contains_map (re_token h) m.pool t here)) in
    let waits_there : Contains H.last.pool (token (To.Instr (h f) ip q) (re_word h t.word)) =
    subst (λ (to : To). Contains H.last.pool (token (re_to h to) (re_word h t.word))) to there in
    carry (own_held p (placed p slots) so_start wide (at_start (placed p slots) inputs) H.unfolded H.last H.run (h f) s ∙ H.holders f s
    ∙ so_held p (placed p slots) so_start z (at_start (placed p slots) inputs) events m r.run f s)
    (own_alone p slots wired good orderly inputs wide wide_start H.unfolded H.last gone so own H.once (h f) ip s q (re_word h t.word) x waits_there is_x uses)
  where
    carry : {a b : Option Holder} → a ≡ b → (a ≡ None) ⊎ (a ≡ Some x) → (b ≡ None) ⊎ (b ≡ Some x)
    carry e (inl d) = inl (sym e ∙ d)
    carry e (inr d) = inr (sym e ∙ d)
