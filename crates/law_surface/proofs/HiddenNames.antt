-- Hidden names: each differs from the next one, and from a name that does not begin as they do.
use Rattle.std.specs.Prelude.{◌≡◌, ℕ, zero, suc, ◌+◌, ◌/◌, ◌%◌, ◌<◌, ◌==◌, Bool, true, false, List, [], ◌∷◌, ◌++◌, decimal, refl, if◌then◌else◌}
use Rattle.std.proofs.Common.{sym, ◌∙◌, ap, subst, arith, lt-ltb}
use Rattle.std.specs.Fmt.{digit_glyph, digits_onto, digits}
use Rattle.lemmas.proofs.Bools.{equal_itself}
use Rattle.source.specs.Tree.{Name}
use Rattle.source.specs.Tokens.{begins}
use Rattle.surface.specs.Making.{hidden}
use Rattle.law_surface.proofs.PrefixIsFree.{AllLow}

-- DIGITS of any number
abbrev glyph : ℕ → ℕ
glyph n = digit_glyph false (n % 10)

glyph_is : (n : ℕ) → glyph n ≡ 48 + n % 10
glyph_is n = rw (lt-ltb (n % 10) 10 (omega arith)) refl

in_full : (n : ℕ) → digits_onto 64 10 false n [] ≡ decimal n
unfolding digits
in_full n = refl

glyph_low : (n : ℕ) → glyph n < 95
glyph_low n = omega (arith, glyph_is n)

onto_low : (k n : ℕ) (acc : List ℕ) → AllLow acc → AllLow (digits_onto k 10 false n acc)
onto_low zero n acc h = h
onto_low (suc k) n acc h = go (n / 10 == 0) (onto_low k (n / 10) (glyph n ∷ acc) (glyph_low n, h))
  where
    go : (b : Bool) → AllLow (digits_onto k 10 false (n / 10) (glyph n ∷ acc)) → AllLow (if b then glyph n ∷ acc else digits_onto k 10 false (n / 10) (glyph n ∷ acc))
    go true later = (glyph_low n, h)
    go false later = later

pub digits_low : (n : ℕ) → AllLow (decimal n)
digits_low n = subst (λ (ds : List ℕ). AllLow ds) (in_full n) (onto_low 64 n [] tt)

-- the last digit
abbrev last : List ℕ → ℕ
last [] = 0
last (x ∷ []) = x
last (x ∷ y ∷ xs) = last (y ∷ xs)

last_kept : (k n c : ℕ) (acc : List ℕ) → last (digits_onto k 10 false n (c ∷ acc)) ≡ last (c ∷ acc)
last_kept zero n c acc = refl
last_kept (suc k) n c acc = go (n / 10 == 0) (last_kept k (n / 10) (glyph n) (c ∷ acc))
  where
    go : (b : Bool) → last (digits_onto k 10 false (n / 10) (glyph n ∷ c ∷ acc)) ≡ last (c ∷ acc) → last (if b then glyph n ∷ c ∷ acc else digits_onto k 10 false (n / 10) (glyph n ∷ c ∷ acc)) ≡ last (c ∷ acc)
    go true later = refl
    go false later = later

last_onto : (k n : ℕ) → last (digits_onto (suc k) 10 false n []) ≡ 48 + n % 10
last_onto k n = go (n / 10 == 0) ∙ glyph_is n
  where
    go : (b : Bool) → last (if b then glyph n ∷ [] else digits_onto k 10 false (n / 10) (glyph n ∷ [])) ≡ glyph n
    go true = refl
    go false = last_kept k (n / 10) (glyph n) []

last_digit : (n : ℕ) → last (decimal n) ≡ 48 + n % 10
last_digit n = ap (λ (ds : List ℕ). last ds) (sym (in_full n)) ∙ last_onto 63 n

-- NAMES
pub cancel : (p xs ys : List ℕ) → p ++ xs ≡ p ++ ys → xs ≡ ys
cancel [] xs ys e = e
cancel (c ∷ p) xs ys e = let rest : p ++ xs ≡ p ++ ys = cc in cancel p xs ys rest

pub next_differs : (prefix : Name) (n : ℕ) → hidden prefix (n + 1) ≡ hidden prefix n → ⊥
next_differs prefix n e =
    let same : decimal (n + 1 + 1) ≡ decimal (n + 1) = cancel prefix (decimal (n + 1 + 1)) (decimal (n + 1)) e in
    let digits : 48 + (n + 1 + 1) % 10 ≡ 48 + (n + 1) % 10 = sym (last_digit (n + 1 + 1)) ∙ ap (λ (ds : List ℕ). last ds) same ∙ last_digit (n + 1) in
    omega (arith, digits)

pub begins_itself : (p r : List ℕ) → begins p (p ++ r) ≡ true
begins_itself [] r = refl
begins_itself (c ∷ p) r = rw (equal_itself c) (begins_itself p r)

pub other_is_shown : (prefix x : Name) → begins prefix x ≡ false → (n : ℕ) → x ≡ hidden prefix n → ⊥
other_is_shown prefix x h n e =
    let so : begins prefix x ≡ true = ap (λ (y : Name). begins prefix y) e ∙ begins_itself prefix (decimal (n + 1)) in cc
