-- A request and a release are the machine's events.
use Rattle.std.proofs.Common.{◌≡◌, ℕ, ◌<◌, Bool, true, false, cond, List, [], ◌∷◌, ◌++◌, length, set, Option, Some, None, Result, Ok, Err, sym, ap}
use Rattle.std.proofs.Common.{◌∙◌, refl, subst, inl, inr, ⊎_elim, IsPermutation}
use Rattle.std.specs.declared.alloc.AllocError.{AllocError}
use Rattle.std.proofs.lemmas.Bool.{cases_eq, eq-eqb, ne_eqb}
use Rattle.std.proofs.lemmas.List.{get_or-set_same, get_or-set_other}
use Rattle.std.proofs.lemmas.List.Sorted.{IsPermutation-refl}
use Rattle.tags.specs.declared.token.Cont.{Cont}
use Rattle.tags.specs.declared.token.Word.{Word}
use Rattle.semantics.specs.Machine.{Store, put_at, with_out, with_requests, answer}
use Rattle.frame_manager.specs.declared.NotOut.{NotOut}
use Rattle.frame_manager.specs.Flags.{flag_at}
use Rattle.frame_manager.specs.Managed.{Managed}
use Rattle.frame_manager.specs.Answered.{Requested, Released, HoldsFrames, RequestIsEvent, ReleaseIsEvent}
use Rattle.frame_manager.proofs.Counts.{flag_inside}

-- one frame's flag is changed, here and in the machine
flag_put : (out : ℕ → Bool) (flags : List Bool) (f : ℕ) (b : Bool) → f < length flags → ((g : ℕ) → out g ≡ flag_at flags g) → (g : ℕ)
    → put_at out f b g ≡ flag_at (set flags f b) g
flag_put out flags f b h same g = ⊎_elim
    (λ (e : f ≡ g). ap (λ t. cond t b (out g)) (eq-eqb f g e) ∙ sym (ap (λ i. flag_at (set flags f b) i) (sym e) ∙ get_or-set_same flags f b false h))
    (λ (ne : f ≡ g → ⊥). ap (λ t. cond t b (out g)) (ne_eqb f g ne) ∙ same g ∙ sym (get_or-set_other flags f g b false (λ q. ne (sym q))))
    (cases_eq f g)

abbrev given_out : Managed → ℕ → Bool → Managed
given_out m f b = record { out = set m.out f b; requests = m.requests }

abbrev with_queue : Managed → List Cont → Managed
with_queue m cs = record { out = m.out; requests = cs }

holds_flag : (m : Managed) (s : Store) (f : ℕ) (b : Bool) → f < length m.out → HoldsFrames m s → HoldsFrames (given_out m f b) (with_out s f b)
holds_flag m s f b h holds = record { out = flag_put s.out m.out f b h holds.out; requests = holds.requests }

pub request_is_event : (old : Managed) (c : Cont) (r : Result (Option ℕ) AllocError) (new : Managed) → Requested old c r new → RequestIsEvent old c r new
request_is_event old c (Ok (Some f)) new h = λ s holds. (
  with_out s f true,
  inl (f, h.0.there, holds.out f ∙ h.0.free, refl, refl),
  subst (λ m. HoldsFrames m (with_out s f true)) (sym h.1)
      (holds_flag old s f true h.0.there holds),
)
request_is_event old c (Ok None) new h = λ s holds. (
  with_requests s (s.requests ++ c ∷ []),
  inr (λ f lt. holds.out f ∙ h.0 f lt, refl, refl),
  subst (λ m. HoldsFrames m (with_requests s (s.requests ++ c ∷ []))) (sym h.1) record { out = holds.out; requests = ap (λ cs. cs ++ c ∷ []) holds.requests },
)
request_is_event old c (Err e) new h = tt

pub release_is_event : (old : Managed) (f : ℕ) (r : Result (Option (Cont × ℕ)) NotOut) (new : Managed) → Released old f r new → ReleaseIsEvent old f r new
release_is_event old f (Ok (Some given)) new h = λ s holds. (
  with_requests s new.requests,
  (
    holds.out f ∙ h.0,
    inr (
      given.0,
      new.requests,
      subst (λ cs. IsPermutation s.requests cs) (holds.requests ∙ h.2) (IsPermutation-refl s.requests),
      ap
          (λ g. answer given.0 (Word.Frame g) ∷ []) h.1,
      refl,
    ),
  ),
  record { out = λ g. holds.out g ∙ ap (λ flags. flag_at flags g) (sym h.3); requests = refl },
)
release_is_event old f (Ok None) new h = λ s holds. (
  with_out s f false,
  (holds.out f ∙ h.0, inl (holds.requests ∙ h.1, refl, refl)),
  subst (λ m. HoldsFrames m (with_out s f false)) (sym h.2)
      record { out = flag_put s.out old.out f false (flag_inside old.out f h.0) holds.out; requests = holds.requests ∙ h.1 },
)
release_is_event old f (Err e) new h = λ s holds. holds.out f ∙ h.0
