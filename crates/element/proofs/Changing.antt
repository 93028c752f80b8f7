-- Events in any machine of which the part is the element's.
use Rattle.std.proofs.Common.{◌≡◌, refl, sym, ◌∙◌, ap, subst, ℕ, ◌+◌, ◌*◌, ◌/◌, ◌%◌, ◌<◌, ◌≤◌, Bool, true, false, List, [], ◌∷◌, ◌++◌, length}
use Rattle.std.proofs.Common.{get_or, set, Option, Some, None, Ok, inl, inr, arith, length-set}
use Rattle.std.specs.Prelude.{All, slice_get, option_and_then}
use Rattle.std.proofs.lemmas.Option.{same_Some, get_or_from_slice_get, slice_get_within}
use Rattle.std.proofs.lemmas.List.Elements.{All-nil, All-map, All-set, All-push, All-head, All-tail}
use Rattle.tags.specs.declared.value.Value.{Value}
use Rattle.tags.specs.declared.token.Port.{Port}
use Rattle.tags.specs.declared.token.Cont.{Cont}
use Rattle.tags.specs.declared.token.Word.{Word}
use Rattle.tags.specs.declared.token.To.{To}
use Rattle.tags.specs.declared.token.Token.{Token}
use Rattle.tags.specs.declared.slot.SlotState.{SlotState}
use Rattle.semantics.specs.Program.{Instr, Program, instr_at}
use Rattle.semantics.specs.Rule.{back_to, Point, Outcome, Becomes, rule_at, outcome_of, slot_of}
use Rattle.semantics.specs.Machine.{Store, CellState, Vacant, Full, Deferred, Happens, Fires, Stores, Requests, slot_in, slot_used, with_slot_in}
use Rattle.semantics.specs.Machine.{answer, answers, outputs_of, put_at, with_output, with_done}
use Rattle.semantics.proofs.Stores.{put_other}
use Rattle.istructure.specs.declared.FetchAnswer.{FetchAnswer}
use Rattle.istructure.specs.declared.StoreAnswer.{StoreAnswer}
use Rattle.istructure.specs.OwnCells.{OwnCells, place_of, with_cell_at, waiting_in, waiting_at}
use Rattle.istructure.specs.Answered.{FetchedAt, StoredAt}
use Rattle.istructure.specs.Holds.{fetch_tokens, IsFetchAnswer, FetchIsEvent, StoreIsEvent}
use Rattle.frame_manager.specs.Answered.{Requested, Released, HoldsFrames, RequestIsEvent, ReleaseIsEvent, request_tokens, release_tokens}
use Rattle.element.specs.declared.contents.host.HostChange.{HostChange}
use Rattle.element.specs.declared.contents.host.HostChange.TheVariants.{Output, Done}
use Rattle.element.specs.Near.{Bounds, IsNearCont, IsNearWord, IsNearToken, IsNearSlot, IsNearCell}
use Rattle.element.specs.Parts.{Part, Manages, IsPart, IsSoundManager, SameElsewhere, IsSound, bounds}
use Rattle.element.specs.Changed.{state_in, with_state_in, with_cells, with_manager, IsRequested, IsReleased, IsHostChange, filled}
use Rattle.element.specs.Changed.{with_output as part_output, with_done as part_done}
use Rattle.element.specs.Acts.{Changes, ServesFirst}
use Rattle.frame_manager.specs.Managed.{Managed}
use Rattle.frame_manager.proofs.Counts.{flag_inside}
use Rattle.element.proofs.Only.{fetch_only, store_only, request_only, release_only, manages_as, part_with_cells, cells_elsewhere, part_with_manager}
use Rattle.element.proofs.Only.{frames_elsewhere}
use Rattle.element.proofs.Nearness.{back_near, one_near}
use Rattle.element.proofs.Places.{set_at, slot_then, agree}

abbrev point : ℕ → ℕ → Point
point f ip = record { frame = f; ip = ip }

-- AN INSTRUCTION
abbrev pub IsLow : ℕ → Option ℕ → Type 0
IsLow width None = Unit {0}
IsLow width (Some r) = r < width

positive : (a b : ℕ) → a < b → 0 < b
positive a b l = omega arith

module _ (p : Program) (h : Part) (f : ℕ) (v : SlotState) (sound : IsSound p h) (ours : f % h.shape.elements ≡ h.shape.element)
    (there : f < h.shape.elements * h.shape.frames) where
  some : 0 < h.shape.elements
  some = positive h.shape.element h.shape.elements sound.there

  slot_part : (r : Option ℕ) (s : Store) → IsLow h.shape.width r → IsPart h s → IsPart (with_state_in h f r v) (with_slot_in s f r v)
  slot_part None s low part = part
  slot_part (Some r) s low part = record {
    slots = λ g q ours2 there2 low2. slot_then h.shape h.states some sound.bank s.slots f r v ours there low g q ours2 low2 (part.slots g q ours2 there2 low2);
    cells = part.cells;
    manager = λ zero. manages_as h.manager s (with_slot_in s f (Some r) v) refl refl (part.manager zero);
    outputs = part.outputs;
    done = part.done;
  }

  slot_elsewhere : (r : Option ℕ) (s : Store) → SameElsewhere h.shape s (with_slot_in s f r v)
  slot_elsewhere None s = record {
    slots = λ g q ne. refl;
    cells = λ x ne. refl;
    out = λ ne. refl;
    requests = λ ne. refl;
    outputs = λ ne. refl;
    done =
        λ ne. refl;
  }
  slot_elsewhere (Some r) s = record {
    slots = λ g q ne. ap (λ (k : ℕ → SlotState). k q) (put_other s.slots f g _ (λ e. ne (subst (λ (x : ℕ). x % h.shape.elements ≡ h.shape.element) e ours)));
    cells = λ x ne. refl;
    out = λ ne. refl;
    requests = λ ne. refl;
    outputs = λ ne. refl;
    done = λ ne. refl;
  }

  slot_sound : (r : Option ℕ) → IsNearSlot (bounds p h.shape) v → IsSound p (with_state_in h f r v)
  slot_sound None n = sound
  slot_sound (Some r) n = record {
    there = sound.there;
    own_element = sound.own_element;
    own_elements = sound.own_elements;
    own = sound.own;
    readers = sound.readers;
    manager = sound.manager;
    outputs = sound.outputs;
    bank = subst (λ (k : ℕ). h.shape.start + h.shape.frames * h.shape.width ≤ k) (sym (length-set h.states _ v)) sound.bank;
    slots = All-set (IsNearSlot (bounds p h.shape)) h.states _ v n sound.slots;
  }

  slot_shape : (r : Option ℕ) → (with_state_in h f r v).shape ≡ h.shape
  slot_shape None = refl
  slot_shape (Some r) = refl

  pub slot_same : (r : Option ℕ) (s : Store) → IsLow h.shape.width r → IsPart h s → slot_in s f r ≡ state_in h f r
  slot_same None s low part = refl
  slot_same (Some r) s low part = part.slots f r ours there low

  pub instr_changes : (t : Token) (ip : ℕ) (port : Port) (i : Instr) (made : List Token) → t.to ≡ To.Instr f ip port → instr_at p ip ≡ Some i
      → IsLow h.shape.width (slot_of i i.op)
      → outcome_of p (point f ip) i i.op (state_in h f (slot_of i i.op)) port t.word ≡ Becomes v made → IsNearSlot (bounds p h.shape) v
      → All (IsNearToken (bounds p h.shape)) made
      → Changes p h t made (with_state_in h f (slot_of i i.op) v)
  instr_changes t ip port i made to_is found low comes near all_near = record {
    shape = slot_shape (slot_of i i.op);
    sound = slot_sound (slot_of i i.op) near;
    near = all_near;
    first = subst (λ (to : To). ServesFirst h to t.word made (with_state_in h f (slot_of i i.op) v)) (sym to_is) tt;
    event = λ s part. (with_slot_in s f (slot_of i i.op) v, happens s part, slot_part (slot_of i i.op) s low part, slot_elsewhere (slot_of i i.op) s);
  }
    where
      happens : (s : Store) → IsPart h s → Happens p (h.shape.elements * h.shape.frames) s t.to t.word made (with_slot_in s f (slot_of i i.op) v)
      happens s part =
          let n : Store = with_slot_in s f (slot_of i i.op) v in
          let at_slot = subst (λ (x : SlotState). outcome_of p (point f ip) i i.op x port t.word ≡ Becomes v made)
          (sym (slot_same (slot_of i i.op) s low part)) comes in
          let fired : Fires s f (slot_of i i.op) (outcome_of p (point f ip) i i.op (slot_in s f (slot_of i i.op)) port t.word) made n = subst
          (λ (o : Outcome). Fires s f (slot_of i i.op) o made n) (sym at_slot) (refl, refl) in
          let here : Happens p (h.shape.elements * h.shape.frames) s (To.Instr f ip port) t.word made n
          = subst (λ (x : Option Instr). Fires s f (slot_used x) (rule_at p (point f ip) x (slot_in s f (slot_used x)) port t.word) made n) (sym found) fired in
          subst (λ (to : To). Happens p (h.shape.elements * h.shape.frames) s to t.word made n) (sym to_is) here

-- CELLS
All-slice_get : (P : CellState → Type 0) (xs : List CellState) (k : ℕ) (x : CellState) → slice_get xs k ≡ Some x → All P xs → P x
All-slice_get P xs k x e all = subst P (get_or_from_slice_get xs k x x e) (all k x (slice_get_within xs k x e))

waiting_near : (b : Bounds) (state : CellState) (readers : List Cont) → IsNearCell b state → waiting_in state ≡ Some readers → All (IsNearCont b) readers
waiting_near b Vacant readers n e = subst (λ (rs : List Cont). All (IsNearCont b) rs) (same_Some [] readers e) (All-nil (IsNearCont b))
waiting_near b (Full v) readers n e = absurd (let bad : ⊥ = cc in bad)
waiting_near b (Deferred rs) readers n e = subst (λ (xs : List Cont). All (IsNearCont b) xs) (same_Some rs readers e) n

state_near : (b : Bounds) (own : OwnCells) (o : Option ℕ) (readers : List Cont) → All (IsNearCell b) own.states
    → option_and_then waiting_in (option_and_then (slice_get own.states) o) ≡ Some readers → All (IsNearCont b) readers
state_near b own None readers all e = absurd (let bad : ⊥ = cc in bad)
state_near b own (Some k) readers all e = go (slice_get own.states k) refl e
  where
    go : (r : Option CellState) → slice_get own.states k ≡ r → option_and_then waiting_in r ≡ Some readers → All (IsNearCont b) readers
    go None h e = absurd (let bad : ⊥ = cc in bad)
    go (Some state) h e = waiting_near b state readers (All-slice_get (IsNearCell b) own.states k state h all) e

pub readers_near : (b : Bounds) (own : OwnCells) (x : ℕ) (readers : List Cont) → All (IsNearCell b) own.states → waiting_at own x ≡ Some readers
    → All (IsNearCont b) readers
readers_near b own x readers all e = state_near b own (place_of own x) readers all e

cells_sound : (p : Program) (h : Part) (x : ℕ) (state : CellState) (cells : OwnCells) → IsSound p h → IsNearCell (bounds p h.shape) state → cells
    ≡ with_cell_at h.cells x state → IsSound p (with_cells h cells)
cells_sound p h x state cells sound near e = subst (λ (k : OwnCells). IsSound p (with_cells h k)) (sym e) (record {
  there = sound.there;
  bank = sound.bank;
  slots = sound.slots;
  own_element = sound.own_element;
  own_elements = sound.own_elements;
  own = λ y ours low. subst (λ (k : ℕ). y / h.shape.elements < k) (sym (length-set h.cells.states _ state)) (sound.own y ours low);
  readers = All-set (IsNearCell (bounds p h.shape)) h.cells.states _ state near sound.readers;
  manager = sound.manager;
  outputs = sound.outputs;
})

pub fetched_sound : (p : Program) (h : Part) (x : ℕ) (c : Cont) (a : FetchAnswer) (cells : OwnCells) → IsSound p h → IsNearCont (bounds p h.shape) c
    → IsFetchAnswer a → FetchedAt h.cells x c a cells → IsSound p (with_cells h cells)
fetched_sound p h x c (FetchAnswer.Now v) cells sound near good at = subst (λ (k : OwnCells). IsSound p (with_cells h k)) (sym at.1) sound
fetched_sound p h x c FetchAnswer.Deferred cells sound near good at =
    cells_sound p h x (Deferred (at.0 ++ c ∷ [])) cells sound (All-push (IsNearCont (bounds p h.shape)) at.0 c
    (readers_near (bounds p h.shape) h.cells x at.0 sound.readers at.1) near) at.2
fetched_sound p h x c FetchAnswer.NotHere cells sound near good at = absurd good
fetched_sound p h x c FetchAnswer.Memory cells sound near good at = absurd good

fetch_tokens_near : (b : Bounds) (c : Cont) (a : FetchAnswer) → IsNearCont b c → IsFetchAnswer a → All (IsNearToken b) (fetch_tokens c a)
fetch_tokens_near b c (FetchAnswer.Now v) near good = one_near b (back_to c) (Word.Val v) (back_near b c near) tt
fetch_tokens_near b c FetchAnswer.Deferred near good = All-nil (IsNearToken b)
fetch_tokens_near b c FetchAnswer.NotHere near good = absurd good
fetch_tokens_near b c FetchAnswer.Memory near good = absurd good

word_near : (b : Bounds) (t : Token) (c : Cont) → IsNearToken b t → t.word ≡ Word.Back c → IsNearCont b c
word_near b t c n e = subst (λ (w : Word). IsNearWord b w) e n.word

pub fetch_changes : (p : Program) (h : Part) (t : Token) (x : ℕ) (c : Cont) (a : FetchAnswer) (cells : OwnCells) → IsSound p h → t.to ≡ To.Fetch x
    → t.word ≡ Word.Back c → IsNearToken (bounds p h.shape) t
    → x % h.shape.elements ≡ h.shape.element → IsFetchAnswer a → FetchedAt h.cells x c a cells → FetchIsEvent h.cells x c a cells
    → Changes p h t (fetch_tokens c a) (with_cells h cells)
fetch_changes p h t x c a cells sound to_is word_is near ours good at event = record {
  shape = refl;
  sound = fetched_sound p h x c a cells sound (word_near (bounds p h.shape) t c near word_is) good at;
  near = fetch_tokens_near (bounds p h.shape) c a (word_near (bounds p h.shape) t c near word_is) good;
  first = subst (λ (to : To). ServesFirst h to t.word (fetch_tokens c a) (with_cells h cells)) (sym to_is) tt;
  event = λ s part.
      let e = event good s part.cells in
      let only = fetch_only s x c (s.cells x) (fetch_tokens c a) e.0 e.1 in
      let at_to : Happens p total s (To.Fetch x) (Word.Back c) (fetch_tokens c a) e.0 = e.1 in
      let at_word = subst (λ (w : Word). Happens p total s (To.Fetch x) w (fetch_tokens c a) e.0) (sym word_is) at_to in (
        e.0,
        subst (λ (to : To). Happens p total s to t.word (fetch_tokens c a) e.0) (sym to_is) at_word,
        part_with_cells h x s e.0 cells only e.2
            part,
        cells_elsewhere h.shape x s e.0 ours only,
      );
}
  where
    total : ℕ
    total = h.shape.elements * h.shape.frames

pub answers_near : (b : Bounds) (cs : List Cont) (v : Value) → All (IsNearCont b) cs → All (IsNearToken b) (answers cs v)
answers_near b cs v all = All-map (IsNearToken b) (λ (c : Cont). answer c (Word.Val v)) cs
    (λ k d low. record { to = back_near b (get_or cs k d) (all k d low); word = tt })

pub store_changes : (p : Program) (h : Part) (t : Token) (x : ℕ) (v : Value) (c : Cont) (room : ℕ) (cells : OwnCells) (listed : List Cont)
    → IsSound p h → t.to ≡ To.Store x v → t.word ≡ Word.Back c → IsNearToken (bounds p h.shape) t
    → x % h.shape.elements ≡ h.shape.element → StoredAt h.cells x v room [] StoreAnswer.Stored cells listed
    → StoreIsEvent h.cells x v StoreAnswer.Stored cells [] listed → Changes p h t (answers (listed ++ c ∷ []) v) (with_cells h cells)
store_changes p h t x v c room cells listed sound to_is word_is near ours at event = record {
  shape = refl;
  sound = cells_sound p h x (Full v) cells sound tt at.2;
  near = answers_near b (listed ++ c ∷ []) v
      (All-push (IsNearCont b) listed c (subst (λ (rs : List Cont). All (IsNearCont b) rs) (sym at.3)
      (readers_near b h.cells x at.0 sound.readers at.1)) (word_near b t c near word_is));
  first = subst (λ (to : To). ServesFirst h to t.word (answers (listed ++ c ∷ []) v) (with_cells h cells)) (sym to_is) tt;
  event = λ s part.
      let e = event c s part.cells in
      let stores : Stores s x v c (s.cells x) (answers (listed ++ c ∷ []) v) e.1 = subst
      (λ (rs : List Cont). Stores s x v c (s.cells x) (answers (rs ++ c ∷ []) v) e.1) (sym e.2) e.3 in
      let only = store_only s x v c (s.cells x) (answers (listed ++ c ∷ []) v) e.1 stores in
      let at_to : Happens p total s (To.Store x v) (Word.Back c) (answers (listed ++ c ∷ []) v) e.1 = stores in
      let at_word = subst (λ (w : Word). Happens p total s (To.Store x v) w (answers (listed ++ c ∷ []) v) e.1) (sym word_is) at_to in (
        e.1,
        subst (λ (to : To). Happens p total s to t.word (answers (listed ++ c ∷ []) v) e.1) (sym to_is) at_word,
        part_with_cells h x s e.1 cells
            only e.4 part,
        cells_elsewhere h.shape x s e.1 ours only,
      );
}
  where
    b : Bounds
    b = bounds p h.shape

    total : ℕ
    total = h.shape.elements * h.shape.frames

-- FRAMES
frames_sound : (p : Program) (h : Part) (m : Managed) → IsSound p h → length m.out ≡ (bounds p h.shape).frames
    → All (IsNearCont (bounds p h.shape)) m.requests → IsSound p (with_manager h (Some m))
frames_sound p h m sound len near = record {
  there = sound.there;
  bank = sound.bank;
  slots = sound.slots;
  own_element = sound.own_element;
  own_elements = sound.own_elements;
  own = sound.own;
  readers = sound.readers;
  manager = λ zero. (len, near);
  outputs = sound.outputs;
}

requested_sound : (b : Bounds) (m n : Managed) (c : Cont) (given : Option ℕ) → length m.out ≡ b.frames → All (IsNearCont b) m.requests
    → IsNearCont b c → Requested m c (Ok given) n
    → (length n.out ≡ b.frames) × All (IsNearCont b) n.requests × All (IsNearToken b) (request_tokens c given)
requested_sound b m n c (Some f) len all near r = (
  ap (λ (k : Managed). length k.out) r.1 ∙ length-set m.out f true ∙ len,
  subst (λ (k : Managed). All (IsNearCont b) k.requests) (sym r.1) all,
  one_near b (back_to c) (Word.Frame f) (back_near b c near) (subst (λ (k : ℕ). f < k) len r.0.there),
)
requested_sound b m n c None len all near r = (
  ap (λ (k : Managed). length k.out) r.1 ∙ len,
  subst (λ (k : Managed). All (IsNearCont b) k.requests) (sym r.1) (All-push (IsNearCont b) m.requests c all near),
  All-nil (IsNearToken b),
)

pub request_changes : (p : Program) (h : Part) (t : Token) (c : Cont) (m n : Managed) (given : Option ℕ) → IsSound p h → t.to ≡ To.Manager → t.word
    ≡ Word.Back c → IsNearToken (bounds p h.shape) t
    → h.shape.element ≡ 0 → h.manager ≡ Some m → Requested m c (Ok given) n → RequestIsEvent m c (Ok given) n → Changes p h t (request_tokens c given)
    (with_manager h (Some n))
request_changes p h t c m n given sound to_is word_is near zero has r event = record {
  shape = refl;
  sound = frames_sound p h n sound after.0 after.1;
  near = after.2;
  first = subst (λ (to : To). ServesFirst h to t.word (request_tokens c given) (with_manager h (Some n))) (sym to_is)
      (subst (λ (w : Word). ServesFirst h To.Manager w (request_tokens c given) (with_manager h (Some n))) (sym word_is)
      (given, refl, subst (λ (k : Option Managed). IsRequested k c (Ok given) (Some n)) (sym has) (r, event)));
  event = λ s part.
      let held : HoldsFrames m s = subst (λ (k : Option Managed). Manages k s) has (part.manager zero) in
      let e = event s held in
      let asks : Requests total s c (request_tokens c given) e.0 = subst (λ (k : ℕ). Requests k s c (request_tokens c given) e.0) manager.0 e.1 in
      let only = request_only total s c (request_tokens c given) e.0 asks in
      let at_to : Happens p total s To.Manager (Word.Back c) (request_tokens c given) e.0 = asks in
      let at_word = subst (λ (w : Word). Happens p total s To.Manager w (request_tokens c given) e.0) (sym word_is) at_to in (
        e.0,
        subst (λ (to : To). Happens p total s to t.word (request_tokens c given) e.0) (sym to_is) at_word,
        part_with_manager h s e.0 n only e.2
            part,
        frames_elsewhere h.shape s e.0 zero only,
      );
}
  where
    b : Bounds
    b = bounds p h.shape

    total : ℕ
    total = h.shape.elements * h.shape.frames

    manager : IsSoundManager b (Some m)
    manager = subst (λ (k : Option Managed). IsSoundManager b k) has (sound.manager zero)

    after : (length n.out ≡ b.frames) × All (IsNearCont b) n.requests × All (IsNearToken b) (request_tokens c given)
    after = requested_sound b m n c given manager.0 manager.1 (word_near b t c near word_is) r

released_sound : (b : Bounds) (m n : Managed) (f : ℕ) (given : Option (Cont × ℕ)) → length m.out ≡ b.frames → All (IsNearCont b) m.requests
    → Released m f (Ok given) n
    → (length n.out ≡ b.frames) × All (IsNearCont b) n.requests × All (IsNearToken b) (release_tokens given)
released_sound b m n f (Some g) len all r =
    let whole : All (IsNearCont b) (g.0 ∷ n.requests) = subst (λ (cs : List Cont). All (IsNearCont b) cs) r.2 all in
    let there : f < b.frames = subst (λ (k : ℕ). f < k) len (flag_inside m.out f r.0) in (
      ap (λ (k : List Bool). length k) r.3 ∙ len,
      All-tail (IsNearCont b) g.0 n.requests whole,
      one_near b (back_to g.0) (Word.Frame g.1) (back_near b g.0 (All-head (IsNearCont b) g.0 n.requests whole))
          (subst (λ (k : ℕ). k < b.frames) (sym r.1) there),
    )
released_sound b m n f None len all r = (
  ap (λ (k : Managed). length k.out) r.2 ∙ length-set m.out f false ∙ len,
  subst (λ (k : Managed). All (IsNearCont b) k.requests) (sym r.2) (All-nil (IsNearCont b)),
  All-nil (IsNearToken b),
)

pub release_changes : (p : Program) (h : Part) (t : Token) (f : ℕ) (m n : Managed) (given : Option (Cont × ℕ)) → IsSound p h → t.to ≡ To.Release f
    → h.shape.element ≡ 0 → h.manager ≡ Some m → Released m f (Ok given) n → ReleaseIsEvent m f (Ok given) n
    → Changes p h t (release_tokens given) (with_manager h (Some n))
release_changes p h t f m n given sound to_is zero has r event = record {
  shape = refl;
  sound = frames_sound p h n sound after.0 after.1;
  near = after.2;
  first = subst (λ (to : To). ServesFirst h to t.word (release_tokens given) (with_manager h (Some n))) (sym to_is)
      (given, refl, subst (λ (k : Option Managed). IsReleased k f (Ok given) (Some n)) (sym has) (r, event));
  event = λ s part.
      let held : HoldsFrames m s = subst (λ (k : Option Managed). Manages k s) has (part.manager zero) in
      let e = event s held in
      let only = release_only s f (release_tokens given) e.0 e.1 in
      let at_to : Happens p total s (To.Release f) t.word (release_tokens given) e.0 = e.1 in (
        e.0,
        subst (λ (to : To). Happens p total s to t.word (release_tokens given) e.0) (sym to_is) at_to,
        part_with_manager h s e.0 n only e.2 part,
        frames_elsewhere h.shape s e.0 zero only,
      );
}
  where
    b : Bounds
    b = bounds p h.shape

    total : ℕ
    total = h.shape.elements * h.shape.frames

    manager : IsSoundManager b (Some m)
    manager = subst (λ (k : Option Managed). IsSoundManager b k) has (sound.manager zero)

    after : (length n.out ≡ b.frames) × All (IsNearCont b) n.requests × All (IsNearToken b) (release_tokens given)
    after = released_sound b m n f given manager.0 manager.1 r

-- THE HOST
pub output_changes : (p : Program) (h : Part) (t : Token) (j : ℕ) (v : Value) → IsSound p h → t.to ≡ To.Host j → t.word ≡ Word.Val v → h.shape.element ≡ 0
    → j < length h.outputs → get_or h.outputs j None ≡ None → Changes p h t [] (part_output h j v)
output_changes p h t j v sound to_is word_is zero there empty = record {
  shape = refl;
  sound = record {
    there = sound.there;
    bank = sound.bank;
    slots = sound.slots;
    own_element = sound.own_element;
    own_elements = sound.own_elements;
    own = sound.own;
    readers = sound.readers;
    manager = sound.manager;
    outputs = λ z. length-set h.outputs j (Some v) ∙ sound.outputs z;
  };
  near = All-nil (IsNearToken (bounds p h.shape));
  first = subst (λ (to : To). ServesFirst h to t.word [] (part_output h j v)) (sym to_is) tt;
  event = λ s part.
      let n : Store = with_output s j v in
      let low : j < outputs_of p = subst (λ (k : ℕ). j < k) (sound.outputs zero) there in
      let told : Happens p total s (To.Host j) t.word [] n = inl (low, part.outputs zero j ∙ empty, (v, word_is, refl, refl)) in (
        n,
        subst (λ (to : To). Happens p total s to t.word [] n) (sym to_is) told,
        record {
          slots = part.slots;
          cells = part.cells;
          manager = λ z. manages_as h.manager s n refl refl (part.manager z);
          outputs = λ z k. outputs_then s part k;
          done = part.done;
        },
        record { slots = λ f r ne. refl; cells = λ x ne. refl; out = λ ne. refl; requests = λ ne. refl; outputs = λ ne. absurd (ne zero); done = λ ne. refl },
      );
}
  where
    total : ℕ
    total = h.shape.elements * h.shape.frames

    outputs_then : (s : Store) → IsPart h s → (k : ℕ) → put_at s.outputs j (Some v) k ≡ get_or (set h.outputs j (Some v)) k None
    outputs_then s part k = ap (λ (g : ℕ → Option Value). put_at g j (Some v) k) (agree (part.outputs zero)) ∙ set_at h.outputs j k (Some v) None there

pub done_changes : (p : Program) (h : Part) (t : Token) (j : ℕ) → IsSound p h → t.to ≡ To.Host j → h.shape.element ≡ 0 → j ≡ length h.outputs → h.done
    ≡ false → Changes p h t [] (part_done h)
done_changes p h t j sound to_is zero last open_ = record {
  shape = refl;
  sound = record {
    there = sound.there;
    bank = sound.bank;
    slots = sound.slots;
    own_element = sound.own_element;
    own_elements = sound.own_elements;
    own = sound.own;
    readers = sound.readers;
    manager = sound.manager;
    outputs = sound.outputs;
  };
  near = All-nil (IsNearToken (bounds p h.shape));
  first = subst (λ (to : To). ServesFirst h to t.word [] (part_done h)) (sym to_is) tt;
  event = λ s part.
      let n : Store = with_done s in
      let told : Happens p total s (To.Host j) t.word [] n = inr (last ∙ sound.outputs zero, part.done zero ∙ open_, refl, refl) in (
        n,
        subst (λ (to : To). Happens p total s to t.word [] n) (sym to_is) told,
        record {
          slots = part.slots;
          cells = part.cells;
          manager = λ z. manages_as h.manager s n refl refl (part.manager z);
          outputs = part.outputs;
          done = λ z. refl;
        },
        record { slots = λ f r ne. refl; cells = λ x ne. refl; out = λ ne. refl; requests = λ ne. refl; outputs = λ ne. refl; done = λ ne. absurd (ne zero) },
      );
}
  where
    total : ℕ
    total = h.shape.elements * h.shape.frames

-- the same of a manager that may not be there
pub requested : (p : Program) (h : Part) (t : Token) (c : Cont) (m n : Option Managed) (given : Option ℕ) → IsSound p h → t.to ≡ To.Manager → t.word
    ≡ Word.Back c → IsNearToken (bounds p h.shape) t
    → h.shape.element ≡ 0 → h.manager ≡ m → IsRequested m c (Ok given) n → Changes p h t (request_tokens c given) (with_manager h n)
requested p h t c (Some m) (Some n) given sound to_is word_is near zero has r = request_changes p h t c m n given sound to_is word_is near zero has r.0 r.1
requested p h t c (Some m) None given sound to_is word_is near zero has r = absurd r
requested p h t c None n given sound to_is word_is near zero has r = absurd r

pub released : (p : Program) (h : Part) (t : Token) (f : ℕ) (m n : Option Managed) (given : Option (Cont × ℕ)) → IsSound p h → t.to ≡ To.Release f
    → h.shape.element ≡ 0 → h.manager ≡ m → IsReleased m f (Ok given) n → Changes p h t (release_tokens given) (with_manager h n)
released p h t f (Some m) (Some n) given sound to_is zero has r = release_changes p h t f m n given sound to_is zero has r.0 r.1
released p h t f (Some m) None given sound to_is zero has r = absurd r
released p h t f None n given sound to_is zero has r = absurd r

pub host_changes : (p : Program) (h : Part) (t : Token) (j : ℕ) (change : HostChange) → IsSound p h → t.to ≡ To.Host j → h.shape.element ≡ 0
    → IsHostChange h j t.word (Ok change) → Changes p h t [] (filled h j change)
host_changes p h t j (Output v) sound to_is zero c = output_changes p h t j v sound to_is c.2 zero c.0 c.1
host_changes p h t j Done sound to_is zero c = done_changes p h t j sound to_is zero c.0 c.1
