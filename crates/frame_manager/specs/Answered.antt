-- What a request and a release answer and leave, and that they are the machine's events.
use Rattle.std.specs.Prelude.{◌≡◌, ℕ, true, false, List, [], ◌∷◌, ◌++◌, length, Option, Some, None, Result, Ok, Err, slice_set}
use Rattle.std.specs.declared.alloc.AllocError.{AllocError}
use Rattle.tags.specs.declared.token.Cont.{Cont}
use Rattle.tags.specs.declared.token.Word.{Word}
use Rattle.tags.specs.declared.token.Token.{Token}
use Rattle.semantics.specs.Machine.{Store, Requests, Releases, answer}
use Rattle.frame_manager.specs.declared.NotOut.{NotOut}
use Rattle.frame_manager.specs.Flags.{IsLeastFree}
use Rattle.frame_manager.specs.Managed.{Managed, is_out, NoneFree}

-- A REQUEST gets the free frame of least number. It waits, after those that wait, only where no frame is free.
abbrev pub Requested : Managed → Cont → Result (Option ℕ) AllocError → Managed → Type 0
Requested old c (Ok (Some f)) new = IsLeastFree old.out f × (new ≡ record { out = slice_set old.out f true; requests = old.requests })
Requested old c (Ok None) new = NoneFree old.out × (new ≡ record { out = old.out; requests = old.requests ++ c ∷ [] })
Requested old c (Err e) new = NoneFree old.out × (new ≡ old)

-- A RELEASE gives the frame to the request that has waited longest, and frees it where none waits.
abbrev pub Released : Managed → ℕ → Result (Option (Cont × ℕ)) NotOut → Managed → Type 0
Released old f (Ok (Some given)) new = (is_out old f ≡ true) × (given.1 ≡ f) × (old.requests ≡ given.0 ∷ new.requests) × (new.out ≡ old.out)
Released old f (Ok None) new = (is_out old f ≡ true) × (old.requests ≡ []) × (new ≡ record { out = slice_set old.out f false; requests = [] })
Released old f (Err e) new = (is_out old f ≡ false) × (new ≡ old)

-- the manager has the frames and the requests that the machine has
pub record HoldsFrames (m : Managed) (s : Store) : Type 0 where
  pub out : (f : ℕ) → s.out f ≡ is_out m f
  pub requests : s.requests ≡ m.requests

abbrev pub request_tokens : Cont → Option ℕ → List Token
request_tokens c (Some f) = answer c (Word.Frame f) ∷ []
request_tokens c None = []

abbrev pub RequestIsEvent : Managed → Cont → Result (Option ℕ) AllocError → Managed → Type 0
RequestIsEvent old c (Ok given) new = (s : Store) → HoldsFrames old s → (t : Store) × Requests (length old.out) s c (request_tokens c given) t
    × HoldsFrames new t
RequestIsEvent old c (Err e) new = Unit {0}

abbrev pub release_tokens : Option (Cont × ℕ) → List Token
release_tokens (Some given) = answer given.0 (Word.Frame given.1) ∷ []
release_tokens None = []

abbrev pub ReleaseIsEvent : Managed → ℕ → Result (Option (Cont × ℕ)) NotOut → Managed → Type 0
ReleaseIsEvent old f (Ok given) new = (s : Store) → HoldsFrames old s → (t : Store) × Releases s f (release_tokens given) t × HoldsFrames new t
ReleaseIsEvent old f (Err e) new = (s : Store) → HoldsFrames old s → s.out f ≡ false
