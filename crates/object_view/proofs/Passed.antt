-- An object that owns its bytes: what was written passes each check, and what passed them is not refused.
use Rattle.std.proofs.Common.{◌≡◌, ℕ, List, [], ◌++◌, Some, None, Ok, Err, length, refl, sym, ap, ◌∙◌}
use Rattle.std.specs.Prelude.{⊤}
use Rattle.semantics.specs.Program.{Code}
use Rattle.semantics.specs.Bytes.{bytes_of, IsCode}
use Rattle.sink.specs.Sends.{Sends}
use Rattle.object_view.specs.declared.fault.ObjectFault.{ObjectFault}
use Rattle.object_view.specs.Fields.{word_at}
use Rattle.object_view.specs.Checks.{Checked, checked, refusal, opening_checked}
use Rattle.object_view.proofs.Complete.{complete}
use Rattle.object_view.proofs.Facts.{refused_early, none_refused}

-- what an empty list holds after all was sent to it
pub into_room : (E : Type 0) (x : ⊤) (xs ys bytes : List ℕ) → xs ≡ [] → Sends {E = E} (Ok x) (Some xs) (Some ys) bytes → ys ≡ bytes
unfolding Sends
into_room E x xs ys bytes e h = h ∙ ap (λ (l : List ℕ). l ++ bytes) e

unrefused : (c : Checked) → refusal c ≡ None → c ≡ Ok tt
unrefused (Ok x) h = refl
unrefused (Err e) h = absurd cc

pub passed : (v : ℕ) (c : Code) (bytes : List ℕ) → IsCode v c → bytes ≡ bytes_of v c → checked bytes ≡ Ok tt
passed v c bytes is e = unrefused (checked bytes) (complete bytes v c (e, is))

pub never_early : (bytes : List ℕ) (e : ObjectFault) → checked bytes ≡ Ok tt → opening_checked (length bytes) (word_at bytes) ≡ Err e → ⊥
never_early bytes e ok p = differ (sym (refused_early bytes e p) ∙ none_refused bytes ok)
  where
    differ : Some e ≡ None → ⊥
    differ q = cc
