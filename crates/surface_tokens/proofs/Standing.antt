-- What is read is in the text.
use Rattle.std.proofs.Common.{◌≡◌, ℕ, ◌+◌, ◌-◌, zero, suc, List, [], ◌∷◌, All, drop, Result, Ok, Err, refl, ap, subst, ◌∙◌}
use Rattle.std.proofs.lemmas.List.{drop-drop}
use Rattle.std.proofs.lemmas.List.Elements.{All-nil, All-cons}
use Rattle.surface.specs.declared.fault.Fault.{Fault}
use Rattle.surface.specs.declared.token.Token.{Token}
use Rattle.surface.specs.Tokens.{Beginning, Skipped, Read, Refused, beginning, preceded, lexed_then, lexed_from, lexed}
use Rattle.surface_tokens.specs.HasToken.{BeginsWith, HasToken}
use Rattle.surface_tokens.proofs.Sound.{IsSound, beginning_is_sound}

next_drop : (text : List ℕ) (b : ℕ) (bytes : List ℕ) (at : ℕ) → b ∷ bytes ≡ drop at text → bytes ≡ drop (at + 1) text
next_drop text b bytes at e = ap (λ (xs : List ℕ). drop 1 xs) e ∙ drop-drop 1 at text

from_here : (text : List ℕ) (b : ℕ) (bytes : List ℕ) (at : ℕ) (o : Beginning) (ts : List Token) → IsSound (b ∷ bytes) o → b ∷ bytes ≡ drop at text
    → lexed_then at o (λ n. lexed_from bytes (at + 1) n) ≡ Ok ts
    → ((past : ℕ) (us : List Token) → lexed_from bytes (at + 1) past ≡ Ok us → All (HasToken text) us) → All (HasToken text) ts
from_here text b bytes at (Skipped len) ts sound e is more = more (len - 1) ts is
from_here text b bytes at (Refused kind) ts sound e is more = absurd cc
from_here text b bytes at (Read kind len) ts sound e is more = with_it (lexed_from bytes (at + 1) (len - 1)) refl is
  where
    with_it : (r : Result (List Token) Fault) → lexed_from bytes (at + 1) (len - 1) ≡ r
        → preceded (record { kind = kind; at = at }) r ≡ Ok ts → All (HasToken text) ts
    with_it (Err fault) s is = absurd cc
    with_it (Ok us) s is =
        let same : record { kind = kind; at = at } ∷ us ≡ ts = cc in
        let stands : BeginsWith (drop at text) kind = subst (λ (xs : List ℕ). BeginsWith xs kind) e sound.2 in
        subst (λ (xs : List Token). All (HasToken text) xs) same (All-cons (HasToken text) (record { kind = kind; at = at }) us stands (more (len - 1) us s))

from : (text bytes : List ℕ) (at past : ℕ) (ts : List Token) → bytes ≡ drop at text → lexed_from bytes at past ≡ Ok ts → All (HasToken text) ts
from text [] at past ts e is = let none : [] ≡ ts = cc in subst (λ (xs : List Token). All (HasToken text) xs) none (All-nil (HasToken text))
from text (b ∷ bytes) at (suc past) ts e is = from text bytes (at + 1) past ts (next_drop text b bytes at e) is
from text (b ∷ bytes) at zero ts e is =
    from_here text b bytes at (beginning b bytes) ts (beginning_is_sound b bytes) e is
    (λ past us so. from text bytes (at + 1) past us (next_drop text b bytes at e) so)

pub all_stand : (text : List ℕ) (ts : List Token) → lexed text ≡ Ok ts → All (HasToken text) ts
all_stand text ts is = from text text 0 0 ts refl is
