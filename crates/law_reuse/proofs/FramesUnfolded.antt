-- Each run over good slots, in which frames are used again, has its unfolded run over the plan.
use Rattle.std.proofs.Common.{◌≡◌, sym, ap, ◌∙◌, subst, ℕ, ◌*◌, ◌<◌, ◌⊎◌, inl, inr, ℤ, Bool, false, List, map, Contains, IsPermutation}
use Rattle.std.proofs.lemmas.List.Sorted.{IsPermutation-trans}
use Rattle.lemmas.proofs.Lists.{map_append}
use Rattle.tags.specs.declared.token.Cont.{Cont}
use Rattle.tags.specs.declared.slot.SlotState.{SlotState}
use Rattle.tags.specs.declared.slot.SlotState.TheVariants as Slot
use Rattle.tags.specs.declared.slot.SlotState.TheVariants.{Empty, Credits, Waiter, Draining}
use Rattle.semantics.specs.Program.{Program}
use Rattle.semantics.specs.Machine.{CellState, Machine, Size, Events, Run, at_start}
use Rattle.semantics.specs.Plan.{Plan}
use Rattle.semantics.specs.Sharing.{Good}
use Rattle.semantics.specs.Placed.{placed}
use Rattle.semantics.specs.Orderly.{NamesSlot, readers_of, IsFreeAtRelease, Orderly, IsStart}
use Rattle.semantics.specs.Renamed.{re_token}
use Rattle.semantics.specs.Unfolded.{use_of, request, Unfolds, HasUnfolded}
use Rattle.semantics.specs.Wired.{IsWired}
use Rattle.law_reuse.specs.FramesGenerations.{RunsUnfold}
use Rattle.law_reuse.specs.Slots.{HasOwnSlots, IsOwnRun}
use Rattle.law_reuse.proofs.FramesFreed.{empty_back}
use Rattle.law_reuse.proofs.Frames.{so_start, so_after, FreesOnce, HasOnce, frames_once}
use Rattle.law_reuse.proofs.FramesAlwaysFreed.{frees_always}
use Rattle.law_reuse.proofs.SlotsPlacedCode.{empty_or}
use Rattle.law_reuse.proofs.SlotsLaw.{once_runs_are_own}
use Rattle.law_reuse.proofs.SlotsClauses.{credits_same}

names_full : (f : ℕ) (s : SlotState) → NamesSlot f s → s ≡ Empty → ⊥
names_full f Empty h e = h
names_full f (Slot.Left w) h e = cc
names_full f (Slot.Right w) h e = cc
names_full f (Waiter c) h e = cc
names_full f (Credits n) h e = absurd h
names_full f (Draining n) h e = absurd h

-- what the plan's release finds, the code's finds
free_shared : (slots : List (List ℕ)) (m u : Machine) → HasOwnSlots slots m u → IsFreeAtRelease u → IsFreeAtRelease m
free_shared slots m u O frees f w rest takes is_out =
    let free = frees f w rest (IsPermutation-trans _ _ _ O.pool takes) (ap (λ (o : ℕ → Bool). o f) O.out ∙ is_out) in (
      free.0,
      record {
        tokens = free.1.tokens;
        readers = λ x c inside. free.1.readers x c (subst (λ (y : ℕ → CellState). Contains (readers_of (y x)) c) (sym O.cells) inside);
        requests = λ c inside. free.1.requests c (subst (λ (cs : List Cont). Contains cs c) (sym O.requests) inside);
        words = λ g r names. (let h = O.held g r (names_full f (m.store.slots g r) names) in free.1.words g h.0 (subst (NamesSlot f) (sym h.2) names));
        slots = λ r. empty r free.1.slots (empty_or (m.store.slots f r));
      },
    )
  where
    empty : (r : ℕ) → ((h : ℕ) → u.store.slots f h ≡ Empty) → (m.store.slots f r ≡ Empty) ⊎ (m.store.slots f r ≡ Empty → ⊥) → m.store.slots f r ≡ Empty
    empty r none (inl e) = e
    empty r none (inr full) = let h = O.held f r full in sym h.2 ∙ none h.0

module _ (p : Plan) (slots : List (List ℕ)) (wired : IsWired p) (good : Good p slots) (orderly : Orderly p) where
  abbrev code : Program
  code = placed p slots

  wide_start : (inputs : List ℤ) (z : Size) → IsStart p z inputs → (frames : ℕ) → 0 < frames
      → IsStart p record { elements = z.elements; frames = frames } inputs
  wide_start inputs z start frames some = record { some_element = start.some_element; some_frame = some; inputs_fit = start.inputs_fit }

  pub frees_shared : (inputs : List ℤ) (z : Size) → IsStart p z inputs → FreesOnce code inputs z.elements
  frees_shared inputs z start frames some_frame events m run once =
      let wide : Size = record { elements = z.elements; frames = frames } in
      let own : IsOwnRun p slots wide inputs events m =
      once_runs_are_own p slots wired good orderly inputs wide events m (wide_start inputs z start frames some_frame) run once in
      free_shared slots m own.last own.own (orderly inputs wide events own.last (wide_start inputs z start frames some_frame) own.run own.once).release

  -- in each run of the code, nothing else names a frame that is released
  pub release_shared : (inputs : List ℤ) (z : Size) (events : Events) (m : Machine) → IsStart p z inputs → Run code z (at_start code inputs) events m
      → IsFreeAtRelease m
  release_shared inputs z events m start r = frees_always p code inputs z events m start.some_element start.some_frame (frees_shared inputs z start) r

  module _ (inputs : List ℤ) (z : Size) (events : Events) (m : Machine) (start : IsStart p z inputs) (r : Run code z (at_start code inputs) events m) where
    abbrev total : ℕ
    total = z.elements * z.frames

    abbrev H : HasOnce p code inputs z events (so_after p code so_start z (at_start code inputs) events m r) m
    H = frames_once p code inputs z events m start.some_element start.some_frame (frees_shared inputs z start) r

    abbrev size : Size
    size = record { elements = z.elements; frames = H.frames }

    own : IsOwnRun p slots size inputs H.unfolded H.last
    own = once_runs_are_own p slots wired good orderly inputs size H.unfolded H.last (wide_start inputs z start H.frames H.some_frame) H.run H.once

    abbrev h : ℕ → ℕ
    h = use_of total H.gen

    full_there : (g s : ℕ) → (m.store.slots g s ≡ Empty → ⊥) → H.last.store.slots (h g) s ≡ Empty → ⊥
    full_there g s full e = full (empty_back h (m.store.slots g s) (sym e ∙ H.folds.fold.slots g s))

    unfolds : Unfolds total slots m own.last
    unfolds = record {
      gen = H.gen;
      block = λ g. own.own.block (h g);
      tokens =
          IsPermutation-trans _ _ _ own.own.pool
          (subst (IsPermutation H.last.pool) (sym (map_append (re_token h) m.pool (map request m.store.requests))) H.folds.pool);
      none_waits = own.own.requests ∙ H.folds.fold.none_waits;
      cells = λ x. ap (λ (c : ℕ → CellState). c x) own.own.cells ∙ H.folds.fold.cells x;
      out = λ g. ap (λ (o : ℕ → Bool). o (h g)) own.own.out ∙ H.folds.fold.out g;
      same = (own.own.outputs ∙ H.folds.fold.outputs, own.own.done ∙ H.folds.fold.done);
      others = λ f. others f (H.folds.fold.others f);
      held = λ g s full. (let k = own.own.held (h g) s (full_there g s full) in (k.0, k.1, k.2 ∙ H.folds.fold.slots g s));
      shown = λ g k full. (let s = own.own.shown (h g) k full in (s.0, s.1, s.2 ∙ H.folds.fold.slots g s.0));
      alone = λ g s j k at_j at_k full_j full_k. own.own.alone (h g) s j k at_j at_k full_j full_k;
    }
      where
        others : (f : ℕ) → (((k : ℕ) → H.last.store.slots f k ≡ Empty) × (H.last.store.out f ≡ false)) ⊎ ((g : ℕ) × (f ≡ h g))
            → (((k : ℕ) → own.last.store.slots f k ≡ Empty) × (own.last.store.out f ≡ false)) ⊎ ((g : ℕ) × (f ≡ h g))
        others f (inr g) = inr g
        others f (inl o) = inl (λ k. none k (empty_or (own.last.store.slots f k)), ap (λ (o : ℕ → Bool). o f) own.own.out ∙ o.1)
          where
            none : (k : ℕ) → (own.last.store.slots f k ≡ Empty) ⊎ (own.last.store.slots f k ≡ Empty → ⊥) → own.last.store.slots f k ≡ Empty
            none k (inl e) = e
            none k (inr full) = let s = own.own.shown f k full in s.2 ∙ o.0 s.0

    pub has_unfolded : HasUnfolded p slots z inputs events m
    has_unfolded = record {
      frames = H.frames;
      unfolded = H.unfolded;
      last = own.last;
      run = own.run;
      once = own.once;
      unfolds = unfolds;
      event_count = H.counted.events;
      requests = H.counted.requests;
      credits = H.counted.credits ∙ credits_same p slots good.all H.unfolded;
    }

pub each_run_unfolds : RunsUnfold
unfolding has_unfolded unfolds
each_run_unfolds p slots wired good orderly inputs z events m start r = record {
  has = has_unfolded p slots wired good orderly inputs z events m start r;
  uses = (H p slots wired good orderly inputs z events m start r).uses;
}
