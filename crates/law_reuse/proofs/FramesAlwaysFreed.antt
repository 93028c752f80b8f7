-- What holds at a release in runs that use each frame once holds in every run.
use Rattle.std.proofs.Common.{sym, ap, ◌∙◌, subst, ℕ, ◌+◌, ◌*◌, ◌<◌, ℤ, List, ◌++◌, map, Contains, arith}
use Rattle.std.proofs.lemmas.List.Elements.{Contains-append_left, Contains-append_right}
use Rattle.lemmas.proofs.Contains.{contains_map}
use Rattle.tags.specs.declared.token.Cont.{Cont}
use Rattle.tags.specs.declared.token.Word.{Word}
use Rattle.tags.specs.declared.token.To.{To}
use Rattle.tags.specs.declared.token.Token.{Token}
use Rattle.tags.specs.declared.slot.SlotState.{SlotState}
use Rattle.tags.specs.declared.slot.SlotState.TheVariants as Slot
use Rattle.tags.specs.declared.slot.SlotState.TheVariants.{Empty, Credits, Waiter, Draining}
use Rattle.semantics.specs.Program.{Program}
use Rattle.semantics.specs.Rule.{token}
use Rattle.semantics.specs.Machine.{CellState, Vacant, Full, Deferred, Machine, Size, Events, Run, at_start}
use Rattle.semantics.specs.Orderly.{NamesCont, NamesWord, NamesTo, NamesSlot, readers_of, IsFreeOf, IsFreeAtRelease}
use Rattle.semantics.specs.Plan.{Plan}
use Rattle.semantics.specs.Renamed.{re_cont, re_word, re_to, re_token, re_slot, re_cell}
use Rattle.law_reuse.proofs.FramesFold.{Fold}
use Rattle.law_reuse.proofs.FramesFreed.{empty_back}
use Rattle.law_reuse.proofs.Frames.{asking, waits, pool_before, FreesOnce, frames_once}

module _ (h : ℕ → ℕ) (f : ℕ) where
  named_cont : (c : Cont) → NamesCont f c → NamesCont (h f) (re_cont h c)
  named_cont (Cont.Frame g ip p) e = ap h e
  named_cont (Cont.Host j) e = e

  named_word : (w : Word) → NamesWord f w → NamesWord (h f) (re_word h w)
  named_word (Word.Val v) e = e
  named_word (Word.Frame g) e = ap h e
  named_word (Word.Back c) e = named_cont c e

  named_to : (to : To) → NamesTo f to → NamesTo (h f) (re_to h to)
  named_to (To.Instr g ip p) e = ap h e
  named_to (To.Release g) e = ap h e
  named_to (To.Fetch x) e = e
  named_to (To.Store x v) e = e
  named_to To.Manager e = e
  named_to (To.Host j) e = e

  named_slot : (s : SlotState) → NamesSlot f s → NamesSlot (h f) (re_slot h s)
  named_slot (Slot.Left w) e = named_word w e
  named_slot (Slot.Right w) e = named_word w e
  named_slot (Waiter c) e = named_cont c e
  named_slot Empty e = e
  named_slot (Credits n) e = e
  named_slot (Draining n) e = e

reader_re : (h : ℕ → ℕ) (y : CellState) (c : Cont) → Contains (readers_of y) c → Contains (readers_of (re_cell h y)) (re_cont h c)
reader_re h Vacant c (i, below, e) = absurd (omega arith)
reader_re h (Full v) c (i, below, e) = absurd (omega arith)
reader_re h (Deferred cs) c inside = contains_map (re_cont h) cs c inside

free_back : (t : ℕ) (h : ℕ → ℕ) (f : ℕ) (rest : List Token) (m u : Machine) → Fold t h m.store u.store
    → IsFreeOf (h f) (map (re_token h) rest ++ waits h m.store.requests) u → IsFreeOf f rest m
free_back t h f rest m u F free = record {
  tokens = λ k inside.
      let none = free.tokens (re_token h k)
      (Contains-append_left (map (re_token h) rest) (waits h m.store.requests) (re_token h k) (contains_map (re_token h) rest k inside)) in
      (λ e. none.0 (named_to h f k.to e), λ e. none.1 (named_word h f k.word e));
  readers =
      λ x c inside e. free.readers x (re_cont h c)
      (subst (λ (y : CellState). Contains (readers_of y) (re_cont h c)) (sym (F.cells x)) (reader_re h (m.store.cells x) c inside)) (named_cont h f c e);
  requests = λ c inside e.
      let k : Token = token To.Manager (Word.Back c) in
      let asks : Contains (waits h m.store.requests) (re_token h k) =
      contains_map (re_token h) (asking m.store.requests) k (contains_map (λ (c : Cont). token To.Manager (Word.Back c)) m.store.requests c inside) in
      (free.tokens (re_token h k) (Contains-append_right (map (re_token h) rest) (waits h m.store.requests) (re_token h k) asks)).1 (named_cont h f c e);
  words = λ g r e. free.words (h g) r (subst (NamesSlot (h f)) (sym (F.slots g r)) (named_slot h f (m.store.slots g r) e));
  slots = λ r. empty_back h (m.store.slots f r) (sym (free.slots r) ∙ F.slots f r);
}

pub frees_always : (P : Plan) (p : Program) (inputs : List ℤ) (z : Size) (events : Events) (m : Machine) → 0 < z.elements → 0 < z.frames
    → FreesOnce p inputs z.elements
    → Run p z (at_start p inputs) events m → IsFreeAtRelease m
frees_always P p inputs z events m some_element some_frame frees r f w rest takes is_out =
    let H = frames_once P p inputs z events m some_element some_frame frees r in
    let h : ℕ → ℕ = λ (g : ℕ). g + H.gen g * (z.elements * z.frames) in
    let before = pool_before h m H.last (token (To.Release f) w) rest (waits h m.store.requests) H.folds.pool takes in
    let free = frees H.frames H.some_frame H.unfolded H.last H.run H.once (h f) (re_word h w) (map (re_token h) rest ++ waits h m.store.requests) before
    (H.folds.fold.out f ∙ is_out) in
    (λ e. free.0 (named_word h f w e), free_back (z.elements * z.frames) h f rest m H.last H.folds.fold free.1)
