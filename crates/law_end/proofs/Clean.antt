-- At rest, with nothing wanted and no reader waiting, no frame is out and every slot is empty.
use Rattle.std.proofs.Common.{◌≡◌, ℕ, true, false, ◌⊎◌, inl, inr, length, Some, refl, sym, ap, ◌∙◌, arith}
use Rattle.std.specs.Prelude.{Contains, ⊤}
use Rattle.std.proofs.lemmas.List.Elements.{Contains-append_right}
use Rattle.std.proofs.lemmas.Bool.{cases_Bool}
use Rattle.tags.specs.declared.slot.SlotState.TheVariants.{Empty}
use Rattle.semantics.specs.Meaning.{Context}
use Rattle.semantics.specs.Machine.{CellState, Vacant, Full, Deferred, reader_count}
use Rattle.semantics.specs.Faithful.{IsClean}
use Rattle.semantics.specs.Orderly.{readers_of}
use Rattle.law_confluence.proofs.NetSlots.{AtSlot}
use Rattle.law_net.specs.ContextsParts.{Opener, InCell, Inlet, Item}
use Rattle.law_net.specs.ContextsBlocks.{is_loop}
use Rattle.law_net.specs.Contexts.{or_zero, block_in, wiring_in, IsContext}
use Rattle.law_net.specs.ContextsFirings.{frame_at}
use Rattle.law_net.specs.ContextsMirror.{frame_of, word_of, only, in_slot, slot_of, on_side}
use Rattle.law_net.proofs.WiredNets.{only_contains}
use Rattle.law_end.proofs.OverLast as Last
use Rattle.law_net.specs.ContextsPackages.{OfRuns, CleanAtRest}
use Rattle.law_end.proofs.RestReaders.{has_reader}
use Rattle.law_end.proofs.RestWaits.{calm_of, taker_wants}
use Rattle.law_end.proofs.CleanStill.{AtRest}
use Rattle.law_end.proofs.CleanFires.{waiting_stands}
use Rattle.law_end.proofs.CleanFrames.{ended, freed}

-- readers of a cell
readers_length : (s : CellState) → length (readers_of s) ≡ reader_count s
readers_length Vacant = refl
readers_length (Full v) = refl
readers_length (Deferred cs) = refl

module _ (u : AtRest) (all : (c : Context) → u.Inside c) where
  frames_in : (f : ℕ) → u.m.store.out f ≡ false
  frames_in f = pick (cases_Bool (u.m.store.out f))
    where
      pick : (u.m.store.out f ≡ true) ⊎ (u.m.store.out f ≡ false) → u.m.store.out f ≡ false
      pick (inr e) = e
      pick (inl e) = let (c, at) = u.kept.tracks.stands.not_out f e in (u.kept.tracks.stands.out c f at).1 (freed u all c f at)

  -- a frame's slots, where a context has it
  of_context : (c : Context) (f : ℕ) → frame_at u.fl u.kept.tracks.net.fired c ≡ Some f → (r : ℕ) → u.m.store.slots f r ≡ Empty
  of_context c f at r = Last.slots_empty u.fl u.p u.w u.inputs u.past u.m u.good u.fit u.kept c f at (ended u all c f at) r

  slots_empty : (f r : ℕ) → u.m.store.slots f r ≡ Empty
  slots_empty f r = pick (u.kept.tracks.stands.slots.empty f r)
    where
      by_base : (u.kept.tracks.stands.base f r ≡ Empty)
          ⊎ ((c : Context) × (n : ℕ) × IsContext u.fl c × (is_loop (block_in u.fl c) n ≡ true) × (frame_at u.fl u.kept.tracks.net.fired c ≡ Some f)
          × ((wiring_in u.fl u.w c).slot (Opener n) ≡ r))
          → u.m.store.slots f r ≡ u.kept.tracks.stands.base f r → u.m.store.slots f r ≡ Empty
      by_base (inl e) same = same ∙ e
      by_base (inr (c, n, x, l, at, o)) same = of_context c f at r

      pick : (u.m.store.slots f r ≡ u.kept.tracks.stands.base f r)
          ⊎ AtSlot (λ (i : Item). frame_of u.fl u.kept.tracks.net.fired i.context) (slot_of u.fl u.w)
          (λ (i : Item). on_side i.inlet.port (word_of u.fl u.p u.w u.kept.tracks.net.fired i.word)) u.kept.tracks.stands.base
          (only (in_slot u.fl) u.kept.tracks.net.waiting) f r → u.m.store.slots f r ≡ Empty
      pick (inl e) = by_base (u.kept.tracks.stands.others f r) e
      pick (inr (i, d, a, e)) =
          let waits = (only_contains (in_slot u.fl) u.kept.tracks.net.waiting i d).0 in
          let (g, at) = u.kept.tracks.stands.known i (waiting_stands u i waits) in
          of_context i.context f (at ∙ ap Some (sym (ap or_zero at) ∙ a)) r

  pub clean : IsClean u.m
  clean = record { frames = frames_in; slots = slots_empty }

pub all_clean_at_rest : OfRuns CleanAtRest
all_clean_at_rest fl p w inputs q m good fit kept rests wants unread = clean whole (λ c. tt)
  where
    unread_at : (i : Item) (n : ℕ) → Contains kept.tracks.net.waiting i → i.inlet.part ≡ InCell n → ⊥
    unread_at i n c e =
        let (x, at) = kept.tracks.stands.good i n (Contains-append_right kept.tracks.net.pending kept.tracks.net.waiting i c) e in
        let some = has_reader fl p w inputs q m good fit kept i n x c e at in
        let none = readers_length (m.store.cells x) ∙ unread x in
        omega (arith, some, none)

    whole : AtRest
    whole = record {
      fl = fl;
      p = p;
      w = w;
      inputs = inputs;
      past = q;
      m = m;
      good = good;
      fit = fit;
      kept = kept;
      rests = rests;
      calm = calm_of m wants;
      Inside = λ c. ⊤;
      called = λ c n ins. tt;
      turned = λ c n t ins. tt;
      no_credit =
          λ i n t c e ins. wants (taker_wants fl p w inputs q m good fit kept i n c (ap (λ (x : Inlet). x.part) e));
      no_reader = λ i n c e ins. unread_at i n c e;
    }
