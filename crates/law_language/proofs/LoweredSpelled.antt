-- Names that graphs may have: those that texts of programs have, and the names of the blocks of loops.
use Rattle.std.proofs.Common.{◌≡◌, ℕ, zero, suc, ◌+◌, ◌^◌, ◌<◌, ◌≤◌, ◌&&◌, nat_le, Bool, true, false, List, [], ◌∷◌, ◌++◌, length, map, decimal, codes, inl}
use Rattle.std.proofs.Common.{inr, refl, sym, ap, subst, arith, length-append}
use Rattle.std.specs.List.{list_all, AllByRecursion}
use Rattle.std.specs.Char.{is_ascii_alphabetic}
use Rattle.std.specs.Int.Digits.{digits_of}
use Rattle.std.proofs.lemmas.Bool.{leb-true}
use Rattle.std.proofs.lemmas.Bool.Decides.{nat_tests}
use Rattle.std.proofs.lemmas.Fmt.{decimal-digits_of, length-decimal-le}
use Rattle.std.proofs.lemmas.Int.Digits.{all_below_base_digits_of}
use Rattle.lemmas.proofs.Bools.{first_of_and, second_of_and}
use Rattle.lemmas.proofs.Permutations.{Each, each_append}
use Rattle.semantics.specs.Text.{IsLetter, IsNameRest, IsName}
use Rattle.source.specs.Tree.{Name}
use Rattle.source.specs.Tokens.{is_run_byte, IsSpelledName}
use Rattle.source.specs.Lowered.{loop_name, block_name}
use Rattle.law_language.proofs.LoweredSources.{all_of_each}

-- a name with room for so many bytes more
record IsShortName (room : ℕ) (x : Name) : Type 0 where
  pub first : ℕ
  pub rest : List ℕ
  pub is : x ≡ first ∷ rest
  pub letter : IsLetter first
  pub others : Each IsNameRest rest
  pub short : length rest + room < 32

letter_is : (b : ℕ) → is_ascii_alphabetic b ≡ true → IsLetter b
letter_is b e = grind (arith, nat_tests)

rest_is : (b : ℕ) → is_run_byte b ≡ true → IsNameRest b
rest_is b e = grind (arith, nat_tests)

rests_are : (bytes : List ℕ) → list_all is_run_byte bytes ≡ true → Each IsNameRest bytes
rests_are [] e = tt
rests_are (b ∷ bytes) e =
    (rest_is b (first_of_and (is_run_byte b) (list_all is_run_byte bytes) e), rests_are bytes (second_of_and (is_run_byte b) (list_all is_run_byte bytes) e))

second_of_four : (a b c d : Bool) → (a && b && c && d) ≡ true → b ≡ true
second_of_four false b c d e = cc
second_of_four true false c d e = cc
second_of_four true true c d e = refl

short_name : (x : Name) → IsSpelledName x → IsShortName 8 x
short_name [] s = absurd (no_letter s.letter)
  where
    no_letter : false ≡ true → ⊥
    no_letter e = cc
short_name (b ∷ bytes) s =
    let few = leb-true (length (b ∷ bytes)) 24 (second_of_four _ (nat_le (length (b ∷ bytes)) 24) _ _ s.name) in
    record {
      first = b;
      rest = bytes;
      is = refl;
      letter = letter_is b s.letter;
      others = rests_are bytes (second_of_and (is_run_byte b) (list_all is_run_byte bytes) s.run);
      short = omega (arith, few);
    }

pub spelled_is_name : (x : Name) → IsSpelledName x → IsName x
spelled_is_name x s =
    let n = short_name x s in
    let few = n.short in
    subst IsName (sym n.is) (n.letter, all_of_each IsNameRest n.rest n.others, omega (arith, few))

-- the digits of a number
digits_are : (ds : List ℕ) → AllByRecursion (λ (d : ℕ). d < 10) ds → Each IsNameRest (map (λ d. 48 + d) ds)
digits_are [] h = tt
digits_are (d ∷ ds) h = let low = h.0 in (inr (inl (omega arith, omega (arith, low))), digits_are ds h.1)

number_is : (k : ℕ) → 0 < k → k < 2 ^ 64 → Each IsNameRest (decimal k)
number_is k some few =
    subst (Each IsNameRest) (sym (decimal-digits_of k some few)) (digits_are (digits_of 10 k) (all_below_base_digits_of 10 k (omega arith)))

-- the name of the k-th loop of f
loop_is_name : (f : Name) (k : ℕ) → 0 < k → k ≤ 256 → IsSpelledName f → IsName (loop_name f k)
loop_is_name f k some few s =
    let n = short_name f s in
    let low = n.short in
    let rest : List ℕ = n.rest ++ codes "__" ++ decimal k in
    let digits = length-decimal-le 3 k (omega arith) (omega (arith, few)) (omega (arith, few)) in
    let marks : Each IsNameRest (codes "__") = (inr (inr refl), (inr (inr refl), tt)) in
    let all : Each IsNameRest rest =
    each_append IsNameRest (n.rest ++ codes "__") (decimal k) (each_append IsNameRest n.rest (codes "__") n.others marks)
    (number_is k some (omega (arith, few))) in
    let long = length-append (n.rest ++ codes "__") (decimal k) in
    let longer : length (n.rest ++ codes "__") ≡ length n.rest + 2 = length-append n.rest (codes "__") in
    let named : IsName (n.first ∷ rest) = (n.letter, all_of_each IsNameRest rest all, omega (arith, low, digits, long, longer)) in
    let same : loop_name f k ≡ n.first ∷ rest = ap (λ (x : Name). loop_name x k) n.is in
    subst IsName (sym same) named

pub block_is_name : (f : Name) (k : ℕ) → k ≤ 256 → IsSpelledName f → IsName (block_name f k)
block_is_name f zero few s = spelled_is_name f s
block_is_name f (suc k) few s = loop_is_name f (suc k) (omega arith) few s
