-- What waiting shows in the runs of a plan that use each frame once, it shows in all runs of the plan's code.
use Rattle.std.proofs.Common.{◌≡◌, sym, ap, ◌∙◌, subst, ℕ, ◌+◌, ◌*◌, inl, inr, ℤ, List, [], ◌∷◌, ◌++◌, map, IsPermutation}
use Rattle.std.proofs.lemmas.List.Sorted.{IsPermutation-trans}
use Rattle.tags.specs.declared.token.Cont.{Cont}
use Rattle.tags.specs.declared.token.Token.{Token}
use Rattle.tags.specs.declared.slot.SlotState.TheVariants.{Waiter}
use Rattle.semantics.specs.Graph.{Flow}
use Rattle.semantics.specs.Program.{Program}
use Rattle.semantics.specs.Machine.{Machine, Size, Events, at_start, Resting}
use Rattle.semantics.specs.Faithful.{IsRun}
use Rattle.semantics.specs.Plan.{Plan}
use Rattle.semantics.specs.Sharing.{Good}
use Rattle.semantics.specs.Placed.{placed}
use Rattle.semantics.specs.Handed.{handed, EachOnce}
use Rattle.semantics.specs.Orderly.{Orderly, IsStart}
use Rattle.semantics.specs.Renamed.{re_cont, re_token, re_slot}
use Rattle.semantics.specs.Wired.{IsWired}
use Rattle.law_reuse.specs.Frames.{TakesInputs}
use Rattle.law_reuse.proofs.Frames.{waits, so_start, so_after, FreesOnce, HasOnce, frames_once}
use Rattle.law_reuse.proofs.FramesUnfolded.{frees_shared}
use Rattle.law_reuse.proofs.FramesTheorem.{start_of, empty_waits}
use Rattle.law_reuse.proofs.SlotsClauses.{perm_nil}
use Rattle.law_reuse.proofs.SlotsHistory.{taken}
use Rattle.law_reuse.proofs.SlotsRuns.{IdleOr, Own, own_so_after, own_run}
use Rattle.law_loop_credits.specs.Waits.{WaitShows, PlanWaitsShow, WaitsShow}

module _ (A B : List ℤ → Type 0) (fl : Flow) (p : Plan) (slots : List (List ℕ)) (orderly : Orderly p) (wired : IsWired p) (good : Good p slots)
    (takes : TakesInputs fl p) (law : PlanWaitsShow A B p) (inputs : List ℤ) (z : Size) (events : Events) (m : Machine)
    (r : IsRun fl (placed p slots) inputs z events m) where
  abbrev code : Program
  code = placed p slots

  abbrev start : IsStart p z inputs
  start = start_of fl p slots takes inputs z events m r

  abbrev frees : FreesOnce code inputs z.elements
  frees = frees_shared p slots wired good orderly inputs z start

  abbrev H : HasOnce p code inputs z events (so_after p code so_start z (at_start code inputs) events m r.run) m
  H = frames_once p code inputs z events m start.some_element start.some_frame frees r.run

  abbrev h : ℕ → ℕ
  h = λ g. g + H.gen g * (z.elements * z.frames)

  abbrev wide : Size
  wide = record { elements = z.elements; frames = H.frames }

  abbrev wide_start : IsStart p wide inputs
  wide_start = record { some_element = start.some_element; some_frame = H.some_frame; inputs_fit = start.inputs_fit }

  abbrev own : Own p slots wide inputs H.unfolded H.last (handed code wide (at_start code inputs) H.unfolded H.last H.run)
      (own_so_after p code so_start wide (at_start code inputs) H.unfolded H.last H.run)
  own = own_run p slots wired good orderly inputs wide wide_start H.unfolded H.last H.run H.once

  there : WaitShows (A inputs) (B inputs) own.last
  there = law inputs wide H.unfolded own.last wide_start own.run (subst (λ (l : List ℕ). EachOnce (0 ∷ l)) (sym own.hands) H.once)

  -- the holder that waits
  waiter : (f s : ℕ) (c : Cont) → m.store.slots f s ≡ Waiter c → (k : ℕ) × (own.last.store.slots (h f) k ≡ Waiter (re_cont h c))
  waiter f s c e = go (own.tied.frames (h f))
    where
      waits_there : H.last.store.slots (h f) s ≡ Waiter (re_cont h c)
      waits_there = H.folds.fold.slots f s ∙ ap (re_slot h) e

      go : IdleOr p slots (taken H.unfolded) (h f) (H.last.store.slots (h f)) (own.last.store.slots (h f))
          → (k : ℕ) × (own.last.store.slots (h f) k ≡ Waiter (re_cont h c))
      go (inl idle) = absurd (empty_waits (re_cont h c) (sym (idle.0 s) ∙ waits_there))
      go (inr K) =
          let x = K.agrees.held s (λ e. empty_waits (re_cont h c) (sym e ∙ waits_there)) in
          (x.0, x.2 ∙ waits_there)

  rests : Resting m → m.store.requests ≡ [] → Resting own.last
  rests rest none =
      perm_nil own.last.pool (subst (λ (l : List Token). IsPermutation own.last.pool (map (re_token h) l ++ waits h [])) rest
      (subst (λ (l : List Cont). IsPermutation own.last.pool (map (re_token h) m.pool ++ waits h l)) none
      (IsPermutation-trans _ _ _ own.tied.pool H.folds.pool)))

  pub shared_here : WaitShows (A inputs) (B inputs) m
  shared_here = record {
    ever = λ f s c e. let x = waiter f s c e in there.ever (h f) x.0 (re_cont h c) x.1;
    last = λ f s c e rest none.
        let x = waiter f s c e in
        there.last (h f) x.0 (re_cont h c) x.1 (rests rest none) (own.tied.same.requests ∙ H.folds.fold.none_waits);
  }

pub waits_shared : (A B : List ℤ → Type 0) (fl : Flow) (p : Plan) (slots : List (List ℕ)) → Orderly p → IsWired p → Good p slots → TakesInputs fl p
    → PlanWaitsShow A B p → WaitsShow A B fl (placed p slots)
waits_shared A B fl p slots orderly wired good takes law inputs z events m r = shared_here A B fl p slots orderly wired good takes law inputs z events m r
