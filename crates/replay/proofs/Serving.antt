-- What fetches, stores, requests, releases and the host do.
use Rattle.std.proofs.Common.{◌≡◌, ◌≢◌, refl, sym, ◌∙◌, ap, subst, ℕ, zero, suc, ◌+◌, ◌<◌, ◌≤◌, Bool, true, false, List, [], ◌∷◌, ◌++◌, length, inl, inr, arith}
use Rattle.std.proofs.Common.{IsPermutation}
use Rattle.std.specs.Prelude.{All, ◌⊎◌, Result}
use Rattle.std.proofs.lemmas.List.{length_push}
use Rattle.std.proofs.lemmas.List.Elements.{All-nil, All-push, All-head, All-tail}
use Rattle.std.proofs.lemmas.List.Sorted.{All-permutation, length_permutation}
use Rattle.tags.specs.declared.value.Value.{Value}
use Rattle.tags.specs.declared.token.Cont.{Cont}
use Rattle.tags.specs.declared.token.Word.{Word}
use Rattle.tags.specs.declared.token.To.{To}
use Rattle.tags.specs.declared.token.Token.{Token}
use Rattle.semantics.specs.Program.{Program}
use Rattle.semantics.specs.Rule.{back_to, token}
use Rattle.semantics.specs.Machine.{Store, CellState, Vacant, Full, Deferred, Fetches, Stores, Requests, Releases, Hosts, with_cell, with_out, with_requests}
use Rattle.semantics.specs.Machine.{with_output, with_done, answer, answers}
use Rattle.element.specs.Near.{Bounds, IsNearCont, IsNearToken, IsNearSlot, IsNearCell}
use Rattle.element.proofs.Nearness.{back_near, one_near}
use Rattle.element.proofs.Changing.{answers_near}
use Rattle.replay.specs.declared.moment.Deed.{Deed}
use Rattle.replay.specs.declared.moment.Deed.TheVariants as deed
use Rattle.replay.specs.declared.cells.Cell.{Cell}
use Rattle.replay.specs.declared.cells.Cell.TheVariants as cell
use Rattle.replay.specs.declared.cells.Cells.{Cells}
use Rattle.replay.specs.declared.state.State.{State}
use Rattle.replay.specs.declared.state.Did.{Did}
use Rattle.replay.specs.Moments.{deed_of, fullness}
use Rattle.semantics.specs.Report.{sum_below, one_if}
use Rattle.tags.specs.declared.slot.SlotState.{SlotState}
use Rattle.replay.specs.Known.{kept, known, Holds}
use Rattle.replay.specs.Nearby.{bounds_of, IsNearStore}
use Rattle.replay.specs.DoesAs.{IsDone, DoesAs}
use Rattle.replay.specs.declared.fault.ReplayRefusal.{ReplayRefusal}
use Rattle.semantics.specs.Machine.{put_at}
use Rattle.replay.proofs.Sums.{all_out, one_free, out_changed}
use Rattle.replay.proofs.Keeping.{with_cells, with_frames_out, with_waiting, cell_kept, out_kept, requests_kept, cell_stays, out_stays, requests_stay}

-- how many readers wait in a cell that is not full
abbrev pub Waits : Cell → ℕ → Type 0
Waits cell.Vacant n = n ≡ 0
Waits (cell.Deferred readers) n = n ≡ readers
Waits cell.Full n = ⊥

abbrev pub stored_as : ℕ → Deed
stored_as zero = deed.Stored
stored_as (suc n) = deed.Served

pub stored_some : (n : ℕ) → n ≢ 0 → deed.Served ≡ stored_as n
stored_some zero ne = absurd (ne refl)
stored_some (suc n) ne = refl

module _ {A : Type 0} (p : Program) (h : State A) (s : Store) (holds : Holds h s) (near : IsNearStore (bounds_of p h.frames) s) where
  abbrev pub b : Bounds
  b = bounds_of p h.frames

  cell_near : (x : ℕ) (state : CellState) → s.cells x ≡ state → IsNearCell b state
  cell_near x state e = subst (λ (k : CellState). IsNearCell b k) e (near.cells x)

  same_held : (n : Store) → n.slots ≡ s.slots → n.cells ≡ s.cells → n.out ≡ s.out → n.requests ≡ s.requests → Holds h n
  same_held n a c o r = record {
    slots = λ f q. holds.slots f q ∙ sym (ap (λ (k : ℕ → ℕ → SlotState). k f q) a);
    cells = λ x. holds.cells x ∙ sym (ap (λ (k : ℕ → CellState). known (k x)) c);
    full = holds.full ∙ sym (ap (λ (k : ℕ → ℕ → SlotState). sum_below h.frames (λ f. sum_below 512 (λ q. fullness (k f q)))) a);
    out = holds.out ∙ sym (ap (λ (k : ℕ → Bool). sum_below h.frames (λ f. one_if (k f))) o);
    requests = holds.requests ∙ sym (ap (λ (k : List Cont). length k) r);
  }

  same_near : (n : Store) → n.slots ≡ s.slots → n.cells ≡ s.cells → n.out ≡ s.out → n.requests ≡ s.requests → IsNearStore b n
  same_near n a c o r = record {
    slots = λ f q. subst (λ (k : ℕ → ℕ → SlotState). IsNearSlot b (k f q)) (sym a) (near.slots f q);
    cells = λ x. subst (λ (k : ℕ → CellState). IsNearCell b (k x)) (sym c) (near.cells x);
    requests = subst (λ (k : List Cont). All (IsNearCont b) k) (sym r) near.requests;
    out = λ f e. near.out f (sym (ap (λ (k : ℕ → Bool). k f) o) ∙ e);
  }

  finish : (did : Did) (to : To) (made ts : List Token) (k : State A) (n m : Store) → made ≡ ts → n ≡ m → did.made ≡ length ts → did.deed ≡ deed_of p s m to ts
      → Holds k m → IsNearStore b m → All (IsNearToken b) ts → IsDone p h.frames did to made s k n
  finish did to made ts k n m e f count deed_is kept_there stays all =
      subst (λ (x : Store). IsDone p h.frames did to made s k x) (sym f)
      (subst (λ (us : List Token). IsDone p h.frames did to us s k m) (sym e)
      (record { made = count; deed = deed_is; holds = kept_there; near_store = stays; near = all }))

  none_near : All (IsNearToken b) []
  none_near = All-nil (IsNearToken b)

  -- FETCHES
  pub fetched_now : (x : ℕ) (c : Cont) (made : List Token) (n : Store) → IsNearCont b c → kept h.cells x ≡ cell.Full → Fetches s x c (s.cells x) made n
      → IsDone p h.frames record { deed = deed.Answered; made = 1 } (To.Fetch x) made s h n
  fetched_now x c made n near_c full f = go (s.cells x) refl f where
    go : (state : CellState) → s.cells x ≡ state → Fetches s x c state made n
        → IsDone p h.frames record { deed = deed.Answered; made = 1 } (To.Fetch x) made s h n
    go Vacant e f = absurd (let no : cell.Full ≡ cell.Vacant = sym full ∙ holds.cells x ∙ ap known e in let bad : ⊥ = cc in bad)
    go (Deferred readers) e f = absurd (let no : cell.Full ≡ cell.Deferred (length readers) = sym full ∙ holds.cells x ∙ ap known e in let bad : ⊥ = cc in bad)
    go (Full v) e f = finish record { deed = deed.Answered; made = 1 } (To.Fetch x) made (answer c (Word.Val v) ∷ []) h n s f.0 f.1 refl refl holds near
        (one_near b (back_to c) (Word.Val v) (back_near b c near_c) tt)

  readers_are : (x : ℕ) (readers : ℕ) (state : CellState) → Waits (kept h.cells x) readers → s.cells x ≡ state → Waits (known state) readers
  readers_are x readers state waits e = subst (λ (k : Cell). Waits k readers) (holds.cells x ∙ ap known e) waits

  pub fetched_later : (x : ℕ) (c : Cont) (readers : ℕ) (cells : Cells A) (made : List Token) (n : Store) → IsNearCont b c → Waits (kept h.cells x) readers
      → ((y : ℕ) → kept cells y ≡ put_at (kept h.cells) x (cell.Deferred (readers + 1)) y) → Fetches s x c (s.cells x) made n
      → IsDone p h.frames record { deed = deed.Deferred; made = 0 } (To.Fetch x) made s (with_cells h cells) n
  fetched_later x c readers cells made n near_c waits sets f = go (s.cells x) refl f where
    did : Did
    did = record { deed = deed.Deferred; made = 0 }

    now : (state : CellState) → known state ≡ cell.Deferred (readers + 1) → (y : ℕ) → kept cells y ≡ put_at (kept h.cells) x (known state) y
    now state e y = subst (λ (k : Cell). kept cells y ≡ put_at (kept h.cells) x k y) (sym e) (sets y)

    go : (state : CellState) → s.cells x ≡ state → Fetches s x c state made n → IsDone p h.frames did (To.Fetch x) made s (with_cells h cells) n
    go Vacant e f =
        let after : CellState = Deferred (c ∷ []) in
        let none : readers ≡ 0 = readers_are x readers Vacant waits e in
        finish did (To.Fetch x) made [] (with_cells h cells) n (with_cell s x after) f.0 f.1 refl refl
        (cell_kept h s holds x after cells (now after (ap cell.Deferred (let count : 1 ≡ readers + 1 = omega (arith, none) in count))))
        (cell_stays b s near x after (All-push (IsNearCont b) [] c (All-nil (IsNearCont b)) near_c)) none_near
    go (Full v) e f = absurd (readers_are x readers (Full v) waits e)
    go (Deferred rs) e f =
        let after : CellState = Deferred (rs ++ c ∷ []) in
        let are : readers ≡ length rs = readers_are x readers (Deferred rs) waits e in
        let more = length_push rs c in
        finish did (To.Fetch x) made [] (with_cells h cells) n (with_cell s x after) f.0 f.1 refl refl
        (cell_kept h s holds x after cells (now after (ap cell.Deferred (let count : length (rs ++ c ∷ []) ≡ readers + 1 = omega
        (arith, are, more) in count)))) (cell_stays b s near x after (All-push (IsNearCont b) rs c (cell_near x (Deferred rs) e) near_c)) none_near

  -- STORES
  pub stored_twice : (x : ℕ) (v : Value) (c : Cont) (made : List Token) (n : Store) → kept h.cells x ≡ cell.Full → Stores s x v c (s.cells x) made n → ⊥
  stored_twice x v c made n full f = go (s.cells x) refl f where
    go : (state : CellState) → s.cells x ≡ state → Stores s x v c state made n → ⊥
    go Vacant e f = let no : cell.Full ≡ cell.Vacant = sym full ∙ holds.cells x ∙ ap known e in cc
    go (Deferred readers) e f = let no : cell.Full ≡ cell.Deferred (length readers) = sym full ∙ holds.cells x ∙ ap known e in cc
    go (Full w) e f = f

  answers_length : (cs : List Cont) (v : Value) → length (answers cs v) ≡ length cs
  answers_length [] v = refl
  answers_length (c ∷ cs) v = ap suc (answers_length cs v)

  stored_deed : (x : ℕ) (v : Value) (rs : List Cont) (c : Cont) (m : Store) → stored_as (length rs) ≡ deed_of p s m (To.Store x v) (answers (rs ++ c ∷ []) v)
  stored_deed x v [] c m = refl
  stored_deed x v (r ∷ []) c m = refl
  stored_deed x v (r ∷ q ∷ rs) c m = refl

  pub stored : (x : ℕ) (v : Value) (c : Cont) (readers count : ℕ) (cells : Cells A) (d : Deed) (made : List Token) (n : Store) → IsNearCont b c
      → Waits (kept h.cells x) readers
      → ((y : ℕ) → kept cells y ≡ put_at (kept h.cells) x cell.Full y) → count ≡ readers + 1 → d ≡ stored_as readers → Stores s x v c (s.cells x) made n
      → IsDone p h.frames record { deed = d; made = count } (To.Store x v) made s (with_cells h cells) n
  stored x v c readers count cells d made n near_c waits sets next deed_is f = go (s.cells x) refl f where
    did : Did
    did = record { deed = d; made = count }

    all : (rs : List Cont) → readers ≡ length rs → All (IsNearCont b) rs → made ≡ answers (rs ++ c ∷ []) v → n ≡ with_cell s x (Full v)
        → IsDone p h.frames did (To.Store x v) made s (with_cells h cells) n
    all rs are near_rs e f =
        let more = length_push rs c in
        let answered = answers_length (rs ++ c ∷ []) v in
        finish did (To.Store x v) made (answers (rs ++ c ∷ []) v) (with_cells h cells) n (with_cell s x (Full v)) e f
        (omega (arith, are, more, answered, next)) (deed_is ∙ ap stored_as are ∙ stored_deed x v rs c (with_cell s x (Full v)))
        (cell_kept h s holds x (Full v) cells sets) (cell_stays b s near x (Full v) tt)
        (answers_near b (rs ++ c ∷ []) v (All-push (IsNearCont b) rs c near_rs near_c))

    go : (state : CellState) → s.cells x ≡ state → Stores s x v c state made n → IsDone p h.frames did (To.Store x v) made s (with_cells h cells) n
    go Vacant e f = all [] (readers_are x readers Vacant waits e) (All-nil (IsNearCont b)) f.0 f.1
    go (Full w) e f = absurd f
    go (Deferred rs) e f = all rs (readers_are x readers (Deferred rs) waits e) (cell_near x (Deferred rs) e) f.0 f.1

  -- REQUESTS
  pub given : (c : Cont) (made : List Token) (n : Store) → IsNearCont b c → h.frames_out < h.frames → Requests h.frames s c made n
      → IsDone p h.frames record { deed = deed.Given; made = 1 } To.Manager made s (with_frames_out h (h.frames_out + 1)) n
  given c made n near_c free (inl f) =
      let was : one_if (s.out f.0) ≡ 0 = ap one_if f.2 in
      finish record { deed = deed.Given; made = 1 } To.Manager made (answer c (Word.Frame f.0) ∷ []) (with_frames_out h (h.frames_out + 1)) n
      (with_out s f.0 true) f.3 f.4 refl refl
      (out_kept h s holds f.0 true (h.frames_out + 1) f.1 (omega (arith, was))) (out_stays b s near f.0 true f.1)
      (one_near b (back_to c) (Word.Frame f.0) (back_near b c near_c) f.1)
  given c made n near_c free (inr f) = absurd (let all = all_out h.frames s.out f.0 in let is = holds.out in let no : ⊥ = omega (arith, all, is, free) in no)

  pub queued : (c : Cont) (count : ℕ) (made : List Token) (n : Store) → IsNearCont b c → h.frames ≤ h.frames_out → count ≡ h.requests + 1
      → Requests h.frames s c made n → IsDone p h.frames record { deed = deed.Queued; made = 0 } To.Manager made s (with_waiting h count) n
  queued c count made n near_c none next (inl f) = absurd (let some = one_free h.frames f.0 s.out f.1 f.2 in let is = holds.out in let no : ⊥ = omega
      (arith, some, is, none) in no)
  queued c count made n near_c none next (inr f) =
      let more = length_push s.requests c in
      let is = holds.requests in
      finish record { deed = deed.Queued; made = 0 } To.Manager made [] (with_waiting h count) n (with_requests s (s.requests ++ c ∷ [])) f.1 f.2 refl refl
      (requests_kept h s holds (s.requests ++ c ∷ []) count (omega (arith, more, is, next)))
      (requests_stay b s near (s.requests ++ c ∷ []) (All-push (IsNearCont b) s.requests c near.requests near_c)) none_near

  -- RELEASES
  pub handed_on : (f : ℕ) (left : ℕ) (made : List Token) (n : Store) → h.requests ≡ left + 1 → Releases s f made n
      → IsDone p h.frames record { deed = deed.HandedOn; made = 1 } (To.Release f) made s (with_waiting h left) n
  handed_on f left made n some r = by r.1 where
    by : ((s.requests ≡ []) × (made ≡ []) × (n ≡ with_out s f false))
        ⊎ ((c : Cont) × (rest : List Cont) × IsPermutation s.requests (c ∷ rest) × (made ≡ answer c (Word.Frame f) ∷ []) × (n ≡ with_requests s rest))
        → IsDone p h.frames record { deed = deed.HandedOn; made = 1 } (To.Release f) made s (with_waiting h left) n
    by (inl a) = absurd (let none : length s.requests ≡ 0 = ap length a.0 in let is = holds.requests in let no : ⊥ = omega (arith, none, is, some) in no)
    by (inr a) =
        let all : All (IsNearCont b) (a.0 ∷ a.1) = All-permutation (IsNearCont b) s.requests (a.0 ∷ a.1) a.2 near.requests in
        let count : suc (length a.1) ≡ length s.requests = length_permutation s.requests (a.0 ∷ a.1) a.2 in
        let is = holds.requests in
        finish record { deed = deed.HandedOn; made = 1 } (To.Release f) made (answer a.0 (Word.Frame f) ∷ []) (with_waiting h left) n
        (with_requests s a.1) a.3 a.4 refl refl
        (requests_kept h s holds a.1 left (omega (arith, count, is, some))) (requests_stay b s near a.1 (All-tail (IsNearCont b) a.0 a.1 all))
        (one_near b (back_to a.0) (Word.Frame f) (back_near b a.0 (All-head (IsNearCont b) a.0 a.1 all)) (near.out f r.0))

  -- a frame that is handed back is among those that are out
  pub is_out : (f : ℕ) (made : List Token) (n : Store) → Releases s f made n → 0 < h.frames_out
  is_out f made n r =
      let changed = out_changed h.frames f s.out false (near.out f r.0) in
      let here : one_if (s.out f) ≡ 1 = ap one_if r.0 in
      let is = holds.out in
      omega (arith, changed, here, is)

  pub freed : (f : ℕ) (left : ℕ) (made : List Token) (n : Store) → h.requests ≡ 0 → h.frames_out ≡ left + 1 → Releases s f made n
      → IsDone p h.frames record { deed = deed.Freed; made = 0 } (To.Release f) made s (with_frames_out h left) n
  freed f left made n none some r = by r.1 where
    by : ((s.requests ≡ []) × (made ≡ []) × (n ≡ with_out s f false))
        ⊎ ((c : Cont) × (rest : List Cont) × IsPermutation s.requests (c ∷ rest) × (made ≡ answer c (Word.Frame f) ∷ []) × (n ≡ with_requests s rest))
        → IsDone p h.frames record { deed = deed.Freed; made = 0 } (To.Release f) made s (with_frames_out h left) n
    by (inl a) =
        let here : one_if (s.out f) ≡ 1 = ap one_if r.0 in
        finish record { deed = deed.Freed; made = 0 } (To.Release f) made [] (with_frames_out h left) n (with_out s f false) a.1 a.2 refl refl
        (out_kept h s holds f false left (near.out f r.0) (omega (arith, here, some))) (out_stays b s near f false (near.out f r.0)) none_near
    by (inr a) =
        absurd (let count : suc (length a.1) ≡ length s.requests = length_permutation s.requests
        (a.0 ∷ a.1) a.2 in let is = holds.requests in let no : ⊥ = omega (arith, count, is, none) in no)

  -- THE HOST
  pub arrived : (results j : ℕ) (w : Word) (made : List Token) (n : Store) → Hosts results s j w made n
      → IsDone p h.frames record { deed = deed.Arrived; made = 0 } (To.Host j) made s h n
  arrived results j w made n (inl a) = finish record { deed = deed.Arrived; made = 0 } (To.Host j) made [] h n (with_output s j a.2.0) a.2.2 a.2.3 refl refl
      (same_held (with_output s j a.2.0) refl refl refl refl) (same_near (with_output s j a.2.0) refl refl refl refl) none_near
  arrived results j w made n (inr a) = finish record { deed = deed.Arrived; made = 0 } (To.Host j) made [] h n (with_done s) a.2 a.3 refl refl
      (same_held (with_done s) refl refl refl refl) (same_near (with_done s) refl refl refl refl) none_near

-- what is so of a token is so of its address and word
pub follows_same : {A : Type 0} (p : Program) (old new : State A) (result : Result Did ReplayRefusal) (t : Token) (to : To) (w : Word) → t.to ≡ to → t.word ≡ w
    → DoesAs p old (token to w) result new → DoesAs p old t result new
follows_same p old new result t to w e f does_as = subst (λ (u : Token). DoesAs p old u result new) (sym (λ i. token (e i) (f i))) does_as
