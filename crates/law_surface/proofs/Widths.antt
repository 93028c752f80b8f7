-- How many names a turn of the core takes from outside: no more than are in a scope in which it keeps the rules.
use Rattle.std.specs.Prelude.{◌≡◌, ℕ, suc, ◌≤◌, ◌||◌, not, Bool, true, false, List, [], ◌∷◌, ◌++◌, filter, length, Ok, ⊤, refl, if◌then◌else◌}
use Rattle.std.proofs.Common.{sym, ◌∙◌, ap, arith}
use Rattle.lemmas.proofs.Bools.{or_true}
use Rattle.lemmas.proofs.Permutations.{each_append}
use Rattle.semantics.specs.Graph.{same_name}
use Rattle.semantics.proofs.Lines.{same_name_is, same_name_itself}
use Rattle.source.specs.Tree.{Name, Turn, Before, After, Program, names_of}
use Rattle.source.specs.Outside.{is_in, once, bare, uses, body_uses, turn_uses, outside_turn}
use Rattle.source.specs.Rules.{turn_values}
use Rattle.source.proofs.Kept.{in_before, in_after}
use Rattle.source.proofs.NamesUsed.{AreIn, without_in, used, body_used}
use Rattle.source.proofs.OutsideNames.{uses_once}
use Rattle.law_surface.proofs.WiderScope.{Includes}
use Rattle.law_surface.proofs.Narrower.{in_filter}
use Rattle.law_surface.proofs.EmbeddedUses.{shorter}

abbrev other : Name → Name → Bool
other x y = not (same_name x y)

-- NAMES that differ
abbrev Distinct : List Name → Type 0
Distinct [] = ⊤
Distinct (x ∷ xs) = (is_in x xs ≡ false) × Distinct xs

-- what is in what is left
pub from_filter : (f : Name → Bool) (x : Name) (xs : List Name) → is_in x (filter f xs) ≡ true → (is_in x xs ≡ true) × (f x ≡ true)
from_filter f x [] h = cc
from_filter f x (y ∷ xs) h = go (f y) (same_name x y) refl refl h (λ e. from_filter f x xs e)
  where
    go : (b t : Bool) → f y ≡ b → same_name x y ≡ t → is_in x (if b then y ∷ filter f xs else filter f xs) ≡ true → (is_in x (filter f xs) ≡ true → (is_in x xs ≡ true)
        × (f x ≡ true)) → ((same_name x y || is_in x xs) ≡ true) × (f x ≡ true)
    go true true e i h later = (ap (λ (t : Bool). t || is_in x xs) i, ap f (same_name_is x y i) ∙ e)
    go true false e i h later = let s = later (sym (ap (λ (t : Bool). t || is_in x (filter f xs)) i) ∙ h) in (
      ap (λ (b : Bool). same_name x y || b) s.0 ∙ or_true
          (same_name x y),
      s.1,
    )
    go false t e i h later = let s = later h in (ap (λ (b : Bool). same_name x y || b) s.0 ∙ or_true (same_name x y), s.1)

not_there : (xs : List Name) (x : Name) (b : Bool) → is_in x xs ≡ b → (is_in x xs ≡ true → ⊥) → is_in x xs ≡ false
not_there xs x true e never = absurd (never e)
not_there xs x false e never = e

filter_distinct : (f : Name → Bool) (xs : List Name) → Distinct xs → Distinct (filter f xs)
filter_distinct f [] h = tt
filter_distinct f (x ∷ xs) h = go (f x) (filter_distinct f xs h.1)
  where
    go : (b : Bool) → Distinct (filter f xs) → Distinct (if b then x ∷ filter f xs else filter f xs)
    go true rest = (not_there (filter f xs) x (is_in x (filter f xs)) refl (λ e. let s = from_filter f x xs e in let old = h.0 in absurd (cc)), rest)
    go false rest = rest

removed : (x : Name) (xs : List Name) → is_in x (filter (other x) xs) ≡ false
removed x xs = not_there (filter (other x) xs) x (is_in x (filter (other x) xs)) refl (λ e.
    let s = from_filter (other x) x xs e in
    let self = same_name_itself x in
    let off = ap (λ (b : Bool). not b) self in absurd (cc))

once_distinct : (xs : List Name) → Distinct (once xs)
once_distinct [] = tt
once_distinct (x ∷ xs) = (removed x (once xs), filter_distinct (other x) (once xs) (once_distinct xs))

pub once_in : (xs : List Name) → Includes (once xs) xs
once_in [] x h = cc
once_in (y ∷ xs) x h = go (same_name x y) h (λ e. once_in xs x e)
  where
    go : (b : Bool) → (b || is_in x (filter (other y) (once xs))) ≡ true → (is_in x (once xs) ≡ true → is_in x xs ≡ true) → (b || is_in x xs) ≡ true
    go true e later = refl
    go false e later = later (from_filter (other y) x (once xs) e).0

-- A list of names that differ is no longer than one that has them.
fewer : (x : Name) (ys : List Name) → is_in x ys ≡ true → suc (length (filter (other x) ys)) ≤ length ys
fewer x [] h = cc
fewer x (y ∷ ys) h = go (same_name x y) h (shorter (other x) ys) (λ e. fewer x ys e)
  where
    go : (b : Bool) → (b || is_in x ys) ≡ true → length (filter (other x) ys) ≤ length ys → (is_in x ys ≡ true → suc (length (filter (other x) ys)) ≤ length ys)
        → suc (length (if not b then y ∷ filter (other x) ys else filter (other x) ys)) ≤ suc (length ys)
    go true e k later = omega (arith, k)
    go false e k later = omega (arith, later e)

others_there : (x : Name) (xs ys : List Name) → is_in x xs ≡ false → Includes xs ys → Includes xs (filter (other x) ys)
others_there x xs ys new i y e = in_filter (other x) y ys (go (same_name x y) refl) (i y e)
  where
    go : (b : Bool) → same_name x y ≡ b → not (same_name x y) ≡ true
    go true f =
        let same : is_in x xs ≡ is_in y xs = ap (λ (z : Name). is_in z xs) (same_name_is x y f) in absurd (cc)
    go false f = ap (λ (b : Bool). not b) f

no_longer : (xs ys : List Name) → Distinct xs → Includes xs ys → length xs ≤ length ys
no_longer [] ys h i = omega arith
no_longer (x ∷ xs) ys h i =
    let there : is_in x ys ≡ true = i x (ap (λ (b : Bool). b || is_in x xs) (same_name_itself x)) in
    let rest : Includes xs ys = λ y e. i y (ap (λ (b : Bool). same_name y x || b) e ∙ or_true (same_name y x)) in
    omega (arith, fewer x ys there, no_longer xs (filter (other x) ys) h.1 (others_there x xs ys h.0 rest))

-- each of these is there
pub from_each : (scope xs : List Name) → AreIn scope xs → Includes xs scope
from_each scope [] h x e = cc
from_each scope (y ∷ xs) h x e = go (same_name x y) refl e (λ k. from_each scope xs h.1 x k)
  where
    go : (b : Bool) → same_name x y ≡ b → (b || is_in x xs) ≡ true → (is_in x xs ≡ true → is_in x scope ≡ true) → is_in x scope ≡ true
    go true f k later = ap (λ (z : Name). is_in z scope) (same_name_is x y f) ∙ h.0
    go false f k later = later k

pub in_once : (xs : List Name) → Includes xs (once xs)
in_once xs = from_each (once xs) xs (uses_once xs)

turn_used : (q : Program) (scope : List Name) (turn : Turn) (n : ℕ) → turn_values q (bare (names_of turn) ++ scope) turn ≡ Ok n → AreIn scope (turn_uses turn)
turn_used q scope (Before xs p body) n h =
    let inner : List Name = bare xs ++ scope in
    let k = in_before q inner xs p body n h in
    without_in (bare xs) scope (uses p ++ body_uses body) (each_append (λ x. is_in x inner ≡ true) (uses p) (body_uses body) (used q inner p 1 k.0.values)
    (body_used q inner body n k.1))
turn_used q scope (After xs body p) n h =
    let inner : List Name = bare xs ++ scope in
    let k = in_after q inner xs body p n h in
    without_in (bare xs) scope (body_uses body ++ uses p) (each_append (λ x. is_in x inner ≡ true) (body_uses body) (uses p) (body_used q inner body n k.0)
    (used q inner p 1 k.1.values))

pub turn_takes : (q : Program) (scope : List Name) (turn : Turn) (n : ℕ) → turn_values q (bare (names_of turn) ++ scope) turn ≡ Ok n → length (outside_turn turn)
    ≤ length scope
turn_takes q scope turn n h =
    let used : Includes (turn_uses turn) scope = from_each scope (turn_uses turn) (turn_used q scope turn n h) in
    no_longer (once (turn_uses turn)) scope (once_distinct (turn_uses turn)) (λ x e. used x (once_in (turn_uses turn) x e))
