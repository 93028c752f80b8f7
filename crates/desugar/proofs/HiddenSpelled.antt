-- HIDDEN NAMES are as texts have names: a letter, digits, `_`, and digits.
use Rattle.std.specs.Prelude.{◌≡◌, refl, ℕ, zero, suc, ◌+◌, ◌%◌, ◌<◌, ◌≤◌, ◌^◌, ◌==◌, nat_le, Bool, true, false, List, [], ◌∷◌, ◌++◌, length, decimal, ⊤}
use Rattle.std.specs.Prelude.{codes, if◌then◌else◌}
use Rattle.std.specs.List.{list_all, list_any}
use Rattle.std.proofs.Common.{◌∙◌, ap, sym, subst, arith}
use Rattle.std.proofs.lemmas.Bool.{le-leb}
use Rattle.std.proofs.lemmas.Bool.Decides.{nat_tests}
use Rattle.std.proofs.lemmas.Fmt.{decimal_by_steps}
use Rattle.std.proofs.lemmas.List.Folds.{list_all-append}
use Rattle.source.specs.Tree.{Name}
use Rattle.source.specs.Tokens.{begins, is_run_byte, has_double, is_name, IsSpelledName}
use Rattle.surface.specs.Making.{hidden}
use Rattle.surface.specs.Instances.{prefix_number, free_prefix, hidden_prefix}
use Rattle.desugar.specs.Tables.{HiddenNamesAreSpelled}

-- DIGITS
abbrev AreDigits : List ℕ → Type 0
AreDigits [] = ⊤
AreDigits (c ∷ cs) = (48 ≤ c) × (c < 58) × AreDigits cs

digits_join : (cs ds : List ℕ) → AreDigits cs → AreDigits ds → AreDigits (cs ++ ds)
digits_join [] ds h g = g
digits_join (c ∷ cs) ds h g = (h.0, h.1, digits_join cs ds h.2 g)

decimal_digits : (n : ℕ) → n < 2 ^ 64 → AreDigits (decimal n)
decimal_digits n h = decimal_by_steps (λ (n : ℕ) (ds : List ℕ). AreDigits ds) (λ n h. (omega arith, omega (arith, h), tt))
    (λ n ds h low. digits_join ds ((48 + n % 10) ∷ []) low (omega arith, omega arith, tt)) n h

digit_runs : (c : ℕ) → 48 ≤ c → c < 58 → is_run_byte c ≡ true
digit_runs c h g = grind (arith, nat_tests)

digits_run : (ds : List ℕ) → AreDigits ds → list_all is_run_byte ds ≡ true
digits_run [] h = refl
digits_run (c ∷ cs) h = rw (digit_runs c h.0 h.1) (digits_run cs h.2)

digit_differs : (c : ℕ) → c < 58 → (95 == c) ≡ false
digit_differs c h = grind (arith, nat_tests)

-- no two `_` side by side
one_alone : (ds : List ℕ) → AreDigits ds → begins (codes "_") ds ≡ false
one_alone [] h = refl
one_alone (c ∷ cs) h = rw (digit_differs c h.1) refl

single_after : (ds rest : List ℕ) → AreDigits ds → has_double rest ≡ false → has_double (ds ++ rest) ≡ false
single_after [] rest h g = g
single_after (c ∷ cs) rest h g = rw (digit_differs c h.1) (single_after cs rest h.2 g)

single : (ds : List ℕ) → AreDigits ds → has_double ds ≡ false
single [] h = refl
single (c ∷ cs) h = rw (digit_differs c h.1) (single cs h.2)

-- A HIDDEN NAME
abbrev hidden_as : List ℕ → List ℕ → Name
hidden_as ds es = 104 ∷ (ds ++ 95 ∷ es)

spelled : (ds es : List ℕ) → AreDigits ds → AreDigits es → length (hidden_as ds es) ≤ 24 → IsSpelledName (hidden_as ds es)
spelled ds es h g short = record {
  run = list_all-append is_run_byte ds (95 ∷ es) ∙ rw (digits_run ds h) (digits_run es g);
  letter = refl;
  no_keyword = refl;
  name = is_name_so;
}
  where
    no_double : has_double (ds ++ 95 ∷ es) ≡ false
    no_double = single_after ds (95 ∷ es) h (rw (one_alone es g) (single es g))

    room : nat_le (length (hidden_as ds es)) 24 ≡ true
    room = le-leb (length (hidden_as ds es)) 24 short

    is_name_so : is_name (hidden_as ds es) ≡ true
    is_name_so = rw (room, no_double) refl

-- the prefix with that number, and what is after it
abbrev number : ℕ → List ℕ
number zero = []
number (suc n) = decimal (suc n)

number_digits : (n : ℕ) → n < 2 ^ 64 → AreDigits (number n)
number_digits zero h = tt
number_digits (suc n) h = decimal_digits (suc n) h

join_after : (ds es : List ℕ) → (ds ++ 95 ∷ []) ++ es ≡ ds ++ 95 ∷ es
join_after [] es = refl
join_after (d ∷ ds) es = ap (λ (xs : List ℕ). d ∷ xs) (join_after ds es)

hidden_is : (k n : ℕ) → hidden (prefix_number k) n ≡ hidden_as (number k) (decimal (n + 1))
hidden_is zero n = refl
hidden_is (suc k) n = ap (λ (xs : List ℕ). 104 ∷ xs) (join_after (decimal (suc k)) (decimal (n + 1)))

found : (more n : ℕ) (names : List Name) → (k : ℕ) × (k ≤ n + more) × (free_prefix more n names ≡ prefix_number k)
found zero n names = (n, omega arith, refl)
found (suc more) n names = go (list_any (begins (prefix_number n)) names) (found more (n + 1) names)
  where
    go : (b : Bool) → ((k : ℕ) × (k ≤ n + 1 + more) × (free_prefix more (n + 1) names ≡ prefix_number k))
        → (k : ℕ) × (k ≤ n + suc more) × ((if b then free_prefix more (n + 1) names else prefix_number n) ≡ prefix_number k)
    go true later = (later.0, omega (arith, later.1), later.2)
    go false later = (n, omega arith, refl)

pub hidden_names_are_spelled : HiddenNamesAreSpelled
hidden_names_are_spelled names n few small short =
    let k = found (length names) 0 names in
    let is : hidden (hidden_prefix names) n ≡ hidden_as (number k.0) (decimal (n + 1)) = ap (λ (p : Name). hidden p n) k.2 ∙ hidden_is k.0 n in
    let room : length (hidden_as (number k.0) (decimal (n + 1))) ≤ 24 = subst (λ (x : Name). length x ≤ 24) is short in
    subst (λ (x : Name). IsSpelledName x) (sym is)
    (spelled (number k.0) (decimal (n + 1)) (number_digits k.0 (omega (arith, k.1, few))) (decimal_digits (n + 1) small) room)
