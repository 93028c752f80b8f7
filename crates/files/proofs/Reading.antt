-- What several reads in a row gave.
use Rattle.std.proofs.Common.{◌≡◌, ℕ, List, [], ◌++◌, Option, Some, None, refl, sym, ap, ◌∙◌, append_assoc}
use Rattle.std.proofs.lemmas.List.{append-nil}
use Rattle.std.specs.Prelude.{IfSome}
use Rattle.std.specs.Io.KnownBytes.{Consumes, IsAtEnd}

-- two reads in a row consume what both gave
pub consumes_more : (a b c : Option (List ℕ)) (p q : List ℕ) → Consumes a b p → Consumes b c q → Consumes a c (p ++ q)
consumes_more None b c p q h k = tt
consumes_more (Some xs) None c p q h k = absurd h
consumes_more (Some xs) (Some ys) None p q h k = absurd k
consumes_more (Some xs) (Some ys) (Some zs) p q h k = h ∙ ap (λ (w : List ℕ). p ++ w) k ∙ sym (append_assoc p q zs)

-- what was read is all, where nothing is left
pub all_read : (a b : Option (List ℕ)) (p : List ℕ) → Consumes a b p → IsAtEnd b → IfSome a (λ xs. p ≡ xs)
all_read None b p h e = tt
all_read (Some xs) None p h e = absurd h
all_read (Some xs) (Some ys) p h e = sym (h ∙ ap (λ (w : List ℕ). p ++ w) e ∙ append-nil p)

pub starts_reading : (a : Option (List ℕ)) → Consumes a a []
starts_reading None = tt
starts_reading (Some xs) = refl
