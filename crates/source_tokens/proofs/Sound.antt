-- What a text begins with is some bytes, which lie in it, and a token that it begins with says so.
use Rattle.std.proofs.Common.{◌≡◌, ℕ, ◌+◌, ◌^◌, ◌≤◌, ◌==◌, ◌&&◌, not, nat_le, Bool, true, false, List, [], ◌∷◌, length, Option, Some, None, cond}
use Rattle.std.proofs.Common.{if◌then◌else◌, codes, refl, sym, ap, subst, ◌∙◌, arith, eqb-true, find, take, bytes_eq, take_while}
use Rattle.std.specs.List.{list_all, prefix_len}
use Rattle.std.specs.Char.{is_ascii_digit, is_ascii_alphabetic}
use Rattle.std.specs.Str.Parse.{digits_value}
use Rattle.std.proofs.lemmas.Bool.{leb-true}
use Rattle.std.proofs.lemmas.Bool.Decides.{nat_tests}
use Rattle.std.proofs.lemmas.List.Sums.{prefix_len-le-length, take_while-cons}
use Rattle.std.proofs.lemmas.List.Folds.{length-prefix_len}
use Rattle.std.proofs.lemmas.Slice.Eq.{bytes_eq-Decides}
use Rattle.lemmas.proofs.Bools.{first_of_and, second_of_and}
use Rattle.lemmas.proofs.Lists.{same_head}
use Rattle.source.specs.declared.fault.FaultKind.TheVariants.{BadNumber, BadName}
use Rattle.source.specs.declared.token.Keyword.{Keyword}
use Rattle.source.specs.declared.token.Sign.{Sign}
use Rattle.source.specs.declared.token.Sign.TheVariants.{Underscore}
use Rattle.source.specs.declared.token.TokenKind.TheVariants.{Mark, Number, Name}
use Rattle.source.specs.Tokens.{Beginning, Skipped, Read, Refused, begins, line_from, is_blank, is_run_byte, is_numeral, numeral_run}
use Rattle.source.specs.Tokens.{begins_with_letter, is_name, name_run, keyword_text, keywords, keyword_of, keyword_or_name, word_run, run_read}
use Rattle.source.specs.Tokens.{sign_text, signs, sign_read, beginning}
use Rattle.source_tokens.specs.Beginnings.{sign_beginning}
use Rattle.source_tokens.specs.HasToken.{run_of, BeginsWith}

abbrev pub IsSound : List ℕ → Beginning → Type 0
IsSound rest (Skipped len) = (1 ≤ len) × (len ≤ length rest)
IsSound rest (Read kind len) = (1 ≤ len) × (len ≤ length rest) × BeginsWith rest kind
IsSound rest (Refused kind) = Unit {0}

by_test : (rest : List ℕ) (t : Bool) (x y : Beginning) → (t ≡ true → IsSound rest x) → (t ≡ false → IsSound rest y) → IsSound rest (if t then x else y)
by_test rest true x y holds fails = holds refl
by_test rest false x y holds fails = fails refl

-- the bytes from one on that passes
passing : (p : ℕ → Bool) (b : ℕ) (bytes : List ℕ) → p b ≡ true
    → (1 ≤ length (take_while p (b ∷ bytes))) × (length (take_while p (b ∷ bytes)) ≤ length (b ∷ bytes))
passing p b bytes e =
    let n = length-prefix_len p (b ∷ bytes) in
    let some : prefix_len p (b ∷ bytes) ≡ 1 + prefix_len p bytes = rw e refl in
    let few = prefix_len-le-length p (b ∷ bytes) in
    (omega (arith, n, some), omega (arith, n, few))

goes_on : (p : ℕ → Bool) (b : ℕ) (bytes : List ℕ) → p b ≡ true → take_while p (b ∷ bytes) ≡ b ∷ take_while p bytes
goes_on p b bytes e = take_while-cons p b bytes ∙ rw e refl

all_of_run : (p : ℕ → Bool) (bytes : List ℕ) → list_all p (take_while p bytes) ≡ true
all_of_run p [] = refl
all_of_run p (b ∷ bytes) = go (p b) refl (all_of_run p bytes)
  where
    go : (t : Bool) → p b ≡ t → list_all p (take_while p bytes) ≡ true → list_all p (take_while p (b ∷ bytes)) ≡ true
    go true e more = ap (list_all p) (goes_on p b bytes e) ∙ rw e more
    go false e more = let none : take_while p (b ∷ bytes) ≡ [] = take_while-cons p b bytes ∙ rw e refl in ap (list_all p) none

-- what is found in a list
find_passes : {X : Type 0} (p : X → Bool) (xs : List X) (x : X) → find p xs ≡ Some x → p x ≡ true
find_passes p [] x e = absurd cc
find_passes {X} p (y ∷ xs) x e = first (p y) refl e (find_passes p xs x)
  where
    first : (t : Bool) → p y ≡ t → cond t (Some y) (find p xs) ≡ Some x → (find p xs ≡ Some x → p x ≡ true) → p x ≡ true
    first true is e more = let same : y ≡ x = cc in subst (λ (z : X). p z ≡ true) same is
    first false is e more = more e

find_in_all : {X : Type 0} (p q : X → Bool) (xs : List X) (x : X) → list_all q xs ≡ true → find p xs ≡ Some x → q x ≡ true
find_in_all p q [] x all e = absurd cc
find_in_all {X} p q (y ∷ xs) x all e = first (p y) e (find_in_all p q xs x (second_of_and (q y) (list_all q xs) all))
  where
    first : (t : Bool) → cond t (Some y) (find p xs) ≡ Some x → (find p xs ≡ Some x → q x ≡ true) → q x ≡ true
    first true e more = let same : y ≡ x = cc in subst (λ (z : X). q z ≡ true) same (first_of_and (q y) (list_all q xs) all)
    first false e more = more e

begins_within : (p bytes : List ℕ) → begins p bytes ≡ true → length p ≤ length bytes
begins_within [] bytes e = omega arith
begins_within (p ∷ ps) [] e = absurd cc
begins_within (p ∷ ps) (b ∷ bytes) e = let less = begins_within ps bytes (second_of_and (p == b) (begins ps bytes) e) in omega (arith, less)

-- RUNS of some bytes
pub record IsSome (rest : List ℕ) : Type 0 where
  pub some : 1 ≤ length (run_of rest)
  pub few : length (run_of rest) ≤ length rest

of_numeral : (rest : List ℕ) → IsSome rest → IsSound rest (numeral_run (run_of rest))
of_numeral rest h =
    let v : ℕ = digits_value 10 (run_of rest) in
    by_test rest (is_numeral (run_of rest) && nat_le v (2 ^ 63)) (Read (Number v) (length (run_of rest))) (Refused BadNumber)
    (λ e. (
      h.some,
      h.few,
      record {
        numeral = first_of_and (is_numeral (run_of rest)) (nat_le v (2 ^ 63)) e;
        value = refl;
        small = leb-true v (2 ^ 63) (second_of_and (is_numeral (run_of rest)) (nat_le v (2 ^ 63)) e);
      },
    ))
    (λ e. tt)

-- a run is a name where it begins with no digit and is no keyword
no_underscore : (b : ℕ) (bytes : List ℕ) → is_name (b ∷ bytes) ≡ true → (b == 95) ≡ false
no_underscore b bytes e = go (b == 95) refl
  where
    go : (t : Bool) → (b == 95) ≡ t → (b == 95) ≡ false
    go false is = is
    go true is =
        let same : b ≡ 95 = eqb-true b 95 is in
        absurd (subst (λ (x : ℕ). is_name (x ∷ bytes) ≡ true → ⊥) (sym same) (λ no. cc) e)

letter : (b : ℕ) (bytes : List ℕ) → is_run_byte b ≡ true → is_ascii_digit b ≡ false → is_name (b ∷ bytes) ≡ true → is_ascii_alphabetic b ≡ true
letter b bytes run digit name = let none = no_underscore b bytes name in grind (arith, nat_tests)

of_name : (b : ℕ) (bytes : List ℕ) → is_run_byte b ≡ true → is_ascii_digit b ≡ false → keyword_of (run_of (b ∷ bytes)) ≡ None → IsSome (b ∷ bytes)
    → IsSound (b ∷ bytes) (name_run (run_of (b ∷ bytes)))
of_name b bytes run digit none h =
    let rest : List ℕ = b ∷ bytes in
    let more : run_of rest ≡ b ∷ run_of bytes = goes_on is_run_byte b bytes run in
    by_test rest (is_name (run_of rest)) (Read (Name (length (run_of rest))) (length (run_of rest))) (Refused BadName)
    (λ e. (
      h.some,
      h.few,
      record {
        name = record {
          run = all_of_run is_run_byte rest;
          letter = ap begins_with_letter more ∙ letter b (run_of bytes) run digit (subst (λ (x : List ℕ). is_name x ≡ true) more e);
          no_keyword = none;
          name = e;
        };
        its_len = refl;
        its_bytes = ap (λ (n : ℕ). take n rest) (length-prefix_len is_run_byte rest);
      },
    ))
    (λ e. tt)

of_keyword : (b : ℕ) (bytes : List ℕ) (k : Option Keyword) → keyword_of (run_of (b ∷ bytes)) ≡ k → is_run_byte b ≡ true → is_ascii_digit b ≡ false
    → IsSome (b ∷ bytes) → IsSound (b ∷ bytes) (keyword_or_name (run_of (b ∷ bytes)) k)
of_keyword b bytes (Some k) e run digit h =
    let same = find_passes (λ (k : Keyword). bytes_eq (run_of (b ∷ bytes)) (keyword_text k)) keywords k e in
    (h.some, h.few, (bytes_eq-Decides (run_of (b ∷ bytes)) (keyword_text k)).0 same)
of_keyword b bytes None e run digit h = of_name b bytes run digit e h

-- a run that is `_`
of_underscore : (b : ℕ) (bytes : List ℕ) → is_run_byte b ≡ true → run_of (b ∷ bytes) ≡ codes "_" → begins (codes "_") (b ∷ bytes) ≡ true
of_underscore b bytes e is =
    let more : run_of (b ∷ bytes) ≡ b ∷ run_of bytes = goes_on is_run_byte b bytes e in
    let first : b ≡ 95 = same_head b 95 (run_of bytes) [] (sym more ∙ is) in
    rw first refl

of_word : (b : ℕ) (bytes : List ℕ) → is_run_byte b ≡ true → is_ascii_digit b ≡ false → IsSome (b ∷ bytes)
    → IsSound (b ∷ bytes) (word_run (run_of (b ∷ bytes)))
of_word b bytes run digit h =
    let r : List ℕ = run_of (b ∷ bytes) in
    by_test (b ∷ bytes) (bytes_eq r (codes "_")) (Read (Mark Underscore) 1) (keyword_or_name r (keyword_of r))
    (λ e. (omega arith, omega arith, of_underscore b bytes run ((bytes_eq-Decides r (codes "_")).0 e)))
    (λ e. of_keyword b bytes (keyword_of r) refl run digit h)

of_run : (b : ℕ) (bytes : List ℕ) → is_run_byte b ≡ true → IsSound (b ∷ bytes) (run_read b (run_of (b ∷ bytes)))
of_run b bytes run =
    let p = passing is_run_byte b bytes run in
    let h : IsSome (b ∷ bytes) = record { some = p.0; few = p.1 } in
    let r : List ℕ = run_of (b ∷ bytes) in
    by_test (b ∷ bytes) (is_ascii_digit b) (numeral_run r) (word_run r) (λ e. of_numeral (b ∷ bytes) h) (λ e. of_word b bytes run e h)

-- SIGNS
is_some : List ℕ → Bool
is_some [] = false
is_some (b ∷ bytes) = true

some_bytes : (bytes : List ℕ) → is_some bytes ≡ true → 1 ≤ length bytes
unfolding is_some
some_bytes [] e = absurd cc
some_bytes (b ∷ bytes) e = omega arith

signs_are_some : list_all (λ s. is_some (sign_text s)) signs ≡ true
unfolding is_some
signs_are_some = refl

of_found : (bytes : List ℕ) (o : Option Sign) → find (λ s. begins (sign_text s) bytes) signs ≡ o → IsSound bytes (sign_read o)
of_found bytes None e = tt
of_found bytes (Some s) e =
    let test = λ (z : Sign). begins (sign_text z) bytes in
    let some = find_in_all test (λ z. is_some (sign_text z)) signs s signs_are_some e in
    let same = find_passes test signs s e in
    (some_bytes (sign_text s) some, begins_within (sign_text s) bytes same, same)

-- ALL OF THEM
abbrev token_from : ℕ → List ℕ → Beginning
token_from b bytes = if is_run_byte b then run_read b (run_of (b ∷ bytes)) else sign_beginning b bytes

of_token : (b : ℕ) (bytes : List ℕ) → IsSound (b ∷ bytes) (token_from b bytes)
of_token b bytes =
    by_test (b ∷ bytes) (is_run_byte b) (run_read b (run_of (b ∷ bytes))) (sign_beginning b bytes)
    (λ e. of_run b bytes e) (λ e. of_found (b ∷ bytes) (find (λ s. begins (sign_text s) (b ∷ bytes)) signs) refl)

abbrev in_line : ℕ → Bool
in_line b = not (b == 10)

of_comment : (b : ℕ) (bytes : List ℕ) → begins (codes "//") (b ∷ bytes) ≡ true → IsSound (b ∷ bytes) (Skipped (length (line_from (b ∷ bytes))))
of_comment b bytes e =
    let slash : 47 ≡ b = eqb-true 47 b (first_of_and (47 == b) (begins (codes "/") bytes) e) in
    passing in_line b bytes (subst (λ (x : ℕ). in_line x ≡ true) slash refl)

abbrev comment_or_token : ℕ → List ℕ → Beginning
comment_or_token b bytes = if begins (codes "//") (b ∷ bytes) then Skipped (length (line_from (b ∷ bytes))) else token_from b bytes

pub beginning_is_sound : (b : ℕ) (bytes : List ℕ) → IsSound (b ∷ bytes) (beginning b bytes)
beginning_is_sound b bytes =
    let comment : Beginning = Skipped (length (line_from (b ∷ bytes))) in
    by_test (b ∷ bytes) (is_blank b) (Skipped 1) (comment_or_token b bytes) (λ e. (omega arith, omega arith))
    (λ e. by_test (b ∷ bytes) (begins (codes "//") (b ∷ bytes)) comment (token_from b bytes) (λ e. of_comment b bytes e) (λ e. of_token b bytes))
