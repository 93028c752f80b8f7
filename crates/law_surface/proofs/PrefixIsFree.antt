-- No name of a text begins as the hidden ones do: each name begins with one of the prefixes at most.
use Rattle.std.specs.Prelude.{◌≡◌, ℕ, zero, suc, ◌+◌, ◌%◌, ◌^◌, ◌<◌, ◌≤◌, ◌==◌, ◌||◌, Bool, true, false, List, [], ◌∷◌, ◌++◌, length, decimal}
use Rattle.std.specs.Prelude.{refl, ⊤, if◌then◌else◌}
use Rattle.std.specs.List.{list_any}
use Rattle.std.specs.Str.Parse.{digits_value}
use Rattle.std.proofs.Common.{sym, ◌∙◌, ap, arith, eqb-true}
use Rattle.std.proofs.lemmas.Fmt.{decimal_by_steps, decimal_is_IsNumeral}
use Rattle.lemmas.proofs.Bools.{first_of_and, second_of_and}
use Rattle.source.specs.Tree.{Name}
use Rattle.source.specs.Tokens.{begins}
use Rattle.surface.specs.Instances.{prefix_number, free_prefix}
use Rattle.law_surface.specs.PrefixIsFree.{PrefixIsFree}

-- DIGITS are no `_`.
abbrev pub AllLow : List ℕ → Type 0
AllLow [] = ⊤
AllLow (c ∷ cs) = (c < 95) × AllLow cs

low_join : (cs ds : List ℕ) → AllLow cs → AllLow ds → AllLow (cs ++ ds)
low_join [] ds h g = g
low_join (c ∷ cs) ds h g = (h.0, low_join cs ds h.1 g)

pub decimal_low : (n : ℕ) → n < 2 ^ 64 → AllLow (decimal n)
decimal_low n h = decimal_by_steps (λ (n : ℕ) (ds : List ℕ). AllLow ds) (λ n h. (omega (arith, h), tt)) (λ n ds h low. low_join ds ((48 + n % 10) ∷ []) low (
  omega
      arith,
  tt,
)) n h

-- a prefix is `h`, digits and `_`
abbrev number : ℕ → List ℕ
number zero = []
number (suc n) = decimal (suc n)

number_low : (n : ℕ) → n < 2 ^ 64 → AllLow (number n)
number_low zero h = tt
number_low (suc n) h = decimal_low (suc n) h

number_value : (n : ℕ) → n < 2 ^ 64 → digits_value 10 (number n) ≡ n
number_value zero h = refl
number_value (suc n) h = (decimal_is_IsNumeral (suc n) h).1

prefix_is : (n : ℕ) → prefix_number n ≡ 104 ∷ (number n ++ 95 ∷ [])
prefix_is zero = refl
prefix_is (suc n) = refl

rest_of : (p x : List ℕ) → begins p x ≡ true → (r : List ℕ) × (x ≡ p ++ r)
rest_of [] x h = (x, refl)
rest_of (c ∷ p) [] h = cc
rest_of (c ∷ p) (b ∷ x) h =
    let r = rest_of p x (second_of_and (c == b) (begins p x) h) in
    let same : c ≡ b = eqb-true c b (first_of_and (c == b) (begins p x) h) in (r.0, ap (λ (d : ℕ). d ∷ x) (sym same) ∙ ap (λ (xs : List ℕ). c ∷ xs) r.1)

mid : (ds r : List ℕ) → (ds ++ 95 ∷ []) ++ r ≡ ds ++ 95 ∷ r
mid [] r = refl
mid (d ∷ ds) r = ap (λ (xs : List ℕ). d ∷ xs) (mid ds r)

begins_so : (n : ℕ) (x : List ℕ) → begins (prefix_number n) x ≡ true → (r : List ℕ) × (x ≡ 104 ∷ (number n ++ 95 ∷ r))
begins_so n x h =
    let r = rest_of (prefix_number n) x h in
    (r.0, r.1 ∙ ap (λ (p : List ℕ). p ++ r.0) (prefix_is n) ∙ ap (λ (xs : List ℕ). 104 ∷ xs) (mid (number n) r.0))

same_digits : (ds es r s : List ℕ) → AllLow ds → AllLow es → ds ++ 95 ∷ r ≡ es ++ 95 ∷ s → ds ≡ es
same_digits [] [] r s h g e = refl
same_digits [] (d ∷ es) r s h g e = let wrong : 95 ≡ d = cc in absurd (omega (arith, wrong, g.0))
same_digits (d ∷ ds) [] r s h g e = let wrong : d ≡ 95 = cc in absurd (omega (arith, wrong, h.0))
same_digits (d ∷ ds) (c ∷ es) r s h g e =
    let first : d ≡ c = cc in
    let rest : ds ++ 95 ∷ r ≡ es ++ 95 ∷ s = cc in
    ap (λ (b : ℕ). b ∷ ds) first ∙ ap (λ (xs : List ℕ). c ∷ xs) (same_digits ds es r s h.1 g.1 rest)

one_prefix : (a b : ℕ) (x : List ℕ) → a < 2 ^ 64 → b < 2 ^ 64 → begins (prefix_number a) x ≡ true → begins (prefix_number b) x ≡ true → a ≡ b
one_prefix a b x h g e f =
    let r = begins_so a x e in
    let s = begins_so b x f in
    let both : 104 ∷ (number a ++ 95 ∷ r.0) ≡ 104 ∷ (number b ++ 95 ∷ s.0) = sym r.1 ∙ s.1 in
    let after : number a ++ 95 ∷ r.0 ≡ number b ++ 95 ∷ s.0 = cc in
    let digits : number a ≡ number b = same_digits (number a) (number b) r.0 s.0 (number_low a h) (number_low b g) after in
    sym (number_value a h) ∙ ap (λ (ds : List ℕ). digits_value 10 ds) digits ∙ number_value b g

-- NAMES that begin with one of the first n prefixes, and how many do not
abbrev used : ℕ → Name → Bool
used zero x = false
used (suc n) x = begins (prefix_number n) x || used n x

abbrev left : ℕ → List Name → ℕ
left n [] = 0
left n (x ∷ xs) = (if used n x then 0 else 1) + left n xs

used_by : (n : ℕ) (x : Name) → used n x ≡ true → (k : ℕ) × (k < n) × (begins (prefix_number k) x ≡ true)
used_by zero x h = cc
used_by (suc n) x h = go (begins (prefix_number n) x) refl h (λ e. used_by n x e)
  where
    go : (b : Bool) → begins (prefix_number n) x ≡ b → (b || used n x) ≡ true → (used n x ≡ true → (k : ℕ) × (k < n) × (begins (prefix_number k) x ≡ true)) →
        (k : ℕ) × (k < suc n) × (begins (prefix_number k) x ≡ true)
    go true e g later = (n, omega arith, e)
    go false e g later = let k = later g in (k.0, omega (arith, k.1), k.2)

not_again : (n : ℕ) (x : Name) → n < 2 ^ 64 → begins (prefix_number n) x ≡ true → used n x ≡ true → ⊥
not_again n x h e u =
    let k = used_by n x u in
    let same : k.0 ≡ n = one_prefix k.0 n x (omega (arith, h, k.1)) h k.2 e in absurd (omega (arith, same, k.1))

no_more : (n : ℕ) (xs : List Name) → left (suc n) xs ≤ left n xs
no_more n [] = omega arith
no_more n (x ∷ xs) = go (begins (prefix_number n) x) (used n x) (no_more n xs)
  where
    go : (b u : Bool) → left (suc n) xs ≤ left n xs → (if b || u then 0 else 1) + left (suc n) xs ≤ (if u then 0 else 1) + left n xs
    go true true h = omega (arith, h)
    go true false h = omega (arith, h)
    go false true h = omega (arith, h)
    go false false h = omega (arith, h)

fewer : (n : ℕ) (xs : List Name) → n < 2 ^ 64 → list_any (begins (prefix_number n)) xs ≡ true → suc (left (suc n) xs) ≤ left n xs
fewer n [] h e = cc
fewer n (x ∷ xs) h e = go (begins (prefix_number n) x) (used n x) refl refl e (no_more n xs) (λ f. fewer n xs h f)
  where
    go : (b u : Bool) → begins (prefix_number n) x ≡ b → used n x ≡ u → (b || list_any (begins (prefix_number n)) xs) ≡ true → left (suc n) xs ≤ left n xs
        → (list_any (begins (prefix_number n)) xs ≡ true → suc (left (suc n) xs) ≤ left n xs)
        → suc ((if b || u then 0 else 1) + left (suc n) xs) ≤ (if u then 0 else 1) + left n xs
    go true true f u e g later = absurd (not_again n x h f u)
    go true false f u e g later = omega (arith, g)
    go false true f u e g later = omega (arith, later e)
    go false false f u e g later = omega (arith, later e)

none_begins : (n : ℕ) (xs : List Name) → n < 2 ^ 64 → left n xs ≡ 0 → list_any (begins (prefix_number n)) xs ≡ false
none_begins n [] h e = refl
none_begins n (x ∷ xs) h e = go (begins (prefix_number n) x) (used n x) refl refl e (λ f. none_begins n xs h f)
  where
    go : (b u : Bool) → begins (prefix_number n) x ≡ b → used n x ≡ u → (if u then 0 else 1) + left n xs ≡ 0 → (left n xs ≡ 0 → list_any (begins
        (prefix_number n)) xs ≡ false) → (b || list_any (begins (prefix_number n)) xs) ≡ false
    go true true f u e later = absurd (not_again n x h f u)
    go true false f u e later = absurd (omega (arith, e))
    go false true f u e later = later (omega (arith, e))
    go false false f u e later = absurd (omega (arith, e))

free : (more n : ℕ) (xs : List Name) → left n xs ≤ more → n + more < 2 ^ 64 → list_any (begins (free_prefix more n xs)) xs ≡ false
free zero n xs h g = none_begins n xs (omega (arith, g)) (omega (arith, h))
free (suc more) n xs h g = go (list_any (begins (prefix_number n)) xs) refl (λ e. free more (n + 1) xs e (omega (arith, g)))
  where
    go : (b : Bool) → list_any (begins (prefix_number n)) xs ≡ b → (left (n + 1) xs ≤ more → list_any (begins (free_prefix more (n + 1) xs)) xs ≡ false)
        → list_any (begins (if b then free_prefix more (n + 1) xs else prefix_number n)) xs ≡ false
    go true e later =
        let next : n + 1 ≡ suc n = omega arith in
        let same : left (n + 1) xs ≡ left (suc n) xs = ap (λ (m : ℕ). left m xs) next in
        later (omega (arith, same, fewer n xs (omega (arith, g)) e, h))
    go false e later = e

all_left : (xs : List Name) → left 0 xs ≤ length xs
all_left [] = omega arith
all_left (x ∷ xs) = omega (arith, all_left xs)

pub prefix_is_free : PrefixIsFree
prefix_is_free names h = free (length names) 0 names (all_left names) (omega (arith, h))
