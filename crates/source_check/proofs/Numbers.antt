-- THE WORDS OF CODE are checked as the rules check the program whose words they are.
use Rattle.std.specs.Prelude.{◌≡◌, refl, ℕ, zero, suc, ◌+◌, ◌<◌, ◌≤◌, ◌==◌, nat_lt, Bool, true, false, List, [], ◌∷◌, ◌++◌, length, map, replicate}
use Rattle.std.specs.Prelude.{sum_by, All, if◌then◌else◌}
use Rattle.std.proofs.Common.{◌∙◌, ap, sym, subst, arith, inl, inr}
use Rattle.std.proofs.lemmas.Bool.{lt-ltb, le-ltb, ltb-true, ltb-false, eqb-true, eqb-false}
use Rattle.std.proofs.lemmas.List.{length-append}
use Rattle.std.proofs.Math.ListN.{get_or-append}
use Rattle.std.proofs.Math.Seq.{get_or-append_seam}
use Rattle.std.proofs.lemmas.List.Elements.{All-head, All-tail}
use Rattle.std.proofs.lemmas.List.Sums.{get_or-le-sum_by}
use Rattle.source.specs.declared.word.Word.{Word}
use Rattle.source.specs.declared.word.Word.TheVariants as word
use Rattle.semantics.specs.Graph.{same_name}
use Rattle.semantics.proofs.Lines.{same_name_is, same_name_itself}
use Rattle.source.specs.Tree.{Name, Program}
use Rattle.source.specs.Fits.{FitsProgram}
use Rattle.source.specs.Words.{name_of, named, numbers_of, program_words, AreWords}
use Rattle.source.specs.Rules.{main_name, checked}
use Rattle.source_check.specs.Checks.{words_checked}
use Rattle.source_check.specs.Renamed.{renamed}
use Rattle.source_check.specs.Numbers.{IsMain}
use Rattle.source_check.proofs.RenamedHeads.{check_renamed}
use Rattle.source_check.proofs.Exact.{words_are_checked}

-- a name for each number: beyond the table one that is longer than all in it
abbrev new_name : List Name → ℕ → Name
new_name names n = replicate (suc (sum_by (λ (x : Name). length x) names) + n) 0

abbrev named_by : List Name → ℕ → Name
named_by names n = if nat_lt n (length names) then name_of names n else new_name names n

within : (names : List Name) (n : ℕ) → n < length names → named_by names n ≡ name_of names n
within names n h = rw (lt-ltb n (length names) h) refl

beyond : (names : List Name) (n : ℕ) → length names ≤ n → named_by names n ≡ new_name names n
beyond names n h = rw (le-ltb n (length names) h) refl

length-zeros : (n : ℕ) → length {A = ℕ} (replicate n 0) ≡ n
length-zeros zero = refl
length-zeros (suc n) = ap suc (length-zeros n)

short : (names : List Name) (n : ℕ) → n < length names → length (name_of names n) ≤ sum_by (λ (x : Name). length x) names
short names n h = get_or-le-sum_by (λ (x : Name). length x) names n [] h

abbrev Distinct : List Name → Type 0
Distinct names = (i j : ℕ) → i < length names → j < length names → name_of names i ≡ name_of names j → i ≡ j

injective : (names : List Name) → Distinct names → (i j : ℕ) → named_by names i ≡ named_by names j → i ≡ j
injective names d i j e = go (nat_lt i (length names)) (nat_lt j (length names)) refl refl
  where
    go : (b c : Bool) → nat_lt i (length names) ≡ b → nat_lt j (length names) ≡ c → i ≡ j
    go true true p q =
        let x : i < length names = ltb-true i (length names) p in let y : j < length names = ltb-true j (length names) q in
        d i j x y (sym (within names i x) ∙ e ∙ within names j y)
    go true false p q =
        let x : i < length names = ltb-true i (length names) p in let y : length names ≤ j = ltb-false j (length names) q in
        let l : length (name_of names i) ≡ length (new_name names j) = ap length (sym (within names i x) ∙ e ∙ beyond names j y) in
        absurd (omega (arith, l, short names i x, length-zeros (suc (sum_by (λ (x : Name). length x) names) + j)))
    go false true p q =
        let x : length names ≤ i = ltb-false i (length names) p in let y : j < length names = ltb-true j (length names) q in
        let l : length (new_name names i) ≡ length (name_of names j) = ap length (sym (beyond names i x) ∙ e ∙ within names j y) in
        absurd (omega (arith, l, short names j y, length-zeros (suc (sum_by (λ (x : Name). length x) names) + i)))
    go false false p q =
        let x : length names ≤ i = ltb-false i (length names) p in let y : length names ≤ j = ltb-false j (length names) q in
        let l : length (new_name names i) ≡ length (new_name names j) = ap length (sym (beyond names i x) ∙ e ∙ beyond names j y) in
        omega (arith, l, length-zeros (suc (sum_by (λ (x : Name). length x) names) + i), length-zeros (suc (sum_by (λ (x : Name). length x) names) + j))

same_numbers : (names : List Name) → Distinct names → (i j : ℕ) → same_name (named_by names i) (named_by names j) ≡ (i == j)
same_numbers names d i j = go (i == j) refl (same_name (named_by names i) (named_by names j)) refl
  where
    go : (b : Bool) → (i == j) ≡ b → (c : Bool) → same_name (named_by names i) (named_by names j) ≡ c → c ≡ b
    go true e true h = refl
    go false e false h = refl
    go true e false h = let p : i ≡ j = eqb-true i j e in sym h ∙ subst (λ k. same_name (named_by names i) (named_by names k) ≡ true) p (same_name_itself
        (named_by names i))
    go false e true h = absurd (eqb-false i j e (injective names d i j (same_name_is (named_by names i) (named_by names j) h)))

-- each word with its names
renamed_as : (names : List Name) (nm : ℕ → Name) → ((n : ℕ) → n < length names → name_of names n ≡ nm n) → (w : Word ℕ)
    → All (λ n. n < length names) (numbers_of w) → named names w ≡ renamed nm w
renamed_as names nm k (word.Array at x) a = ap (λ n. word.Array at n) (k x (All-head (λ n. n < length names) x [] a))
renamed_as names nm k (word.Length at n) a = refl
renamed_as names nm k (word.Function at x) a = ap (λ n. word.Function at n) (k x (All-head (λ n. n < length names) x [] a))
renamed_as names nm k (word.Parameter at x) a = ap (λ n. word.Parameter at n) (k x (All-head (λ n. n < length names) x [] a))
renamed_as names nm k (word.Results at n) a = refl
renamed_as names nm k (word.Body at) a = refl
renamed_as names nm k word.EndFunction a = refl
renamed_as names nm k (word.Number at n) a = refl
renamed_as names nm k (word.Name at x) a = ap (λ n. word.Name at n) (k x (All-head (λ n. n < length names) x [] a))
renamed_as names nm k word.Bracket a = refl
renamed_as names nm k (word.Prefix at op) a = refl
renamed_as names nm k word.Left a = refl
renamed_as names nm k (word.Infix at sign) a = refl
renamed_as names nm k (word.Cell at x) a = ap (λ n. word.Cell at n) (k x (All-head (λ n. n < length names) x [] a))
renamed_as names nm k (word.Fetch at x) a = ap (λ n. word.Fetch at n) (k x (All-head (λ n. n < length names) x [] a))
renamed_as names nm k word.Index a = refl
renamed_as names nm k (word.Store at x) a = ap (λ n. word.Store at n) (k x (All-head (λ n. n < length names) x [] a))
renamed_as names nm k (word.Callee at x) a = ap (λ n. word.Callee at n) (k x (All-head (λ n. n < length names) x [] a))
renamed_as names nm k (word.Call at strict x) a = ap (λ n. word.Call at strict n) (k x (All-head (λ n. n < length names) x [] a))
renamed_as names nm k word.Then a = refl
renamed_as names nm k word.Else a = refl
renamed_as names nm k (word.EndIf at) a = refl
renamed_as names nm k (word.Loop at) a = refl
renamed_as names nm k (word.Bound at n) a = refl
renamed_as names nm k (word.Start at x) a = ap (λ n. word.Start at n) (k x (All-head (λ n. n < length names) x [] a))
renamed_as names nm k word.First a = refl
renamed_as names nm k word.TestFirst a = refl
renamed_as names nm k word.While a = refl
renamed_as names nm k word.BodyFirst a = refl
renamed_as names nm k word.Until a = refl
renamed_as names nm k (word.EndLoop at n) a = refl
renamed_as names nm k word.List a = refl
renamed_as names nm k word.Part a = refl
renamed_as names nm k (word.Let at) a = refl
renamed_as names nm k (word.Bind at x) a = ap (λ n. word.Bind at n) (k x (All-head (λ n. n < length names) x [] a))
renamed_as names nm k word.Drop a = refl
renamed_as names nm k (word.EndLet at) a = refl
renamed_as names nm k word.Do a = refl
renamed_as names nm k word.Give a = refl
renamed_as names nm k word.Chain a = refl

all_renamed : (names : List Name) (nm : ℕ → Name) → ((n : ℕ) → n < length names → name_of names n ≡ nm n) → (ws : List (Word ℕ))
    → All (λ w. All (λ n. n < length names) (numbers_of w)) ws
    → map (named names) ws ≡ map (renamed nm) ws
all_renamed names nm k [] a = refl
all_renamed names nm k (w ∷ ws) a = ap (λ v. v ∷ map (named names) ws) (renamed_as names nm k w (All-head (λ v. All (λ n. n < length names)
    (numbers_of v)) w ws a))
    ∙ ap (λ vs. renamed nm w ∷ vs) (all_renamed names nm k ws (All-tail (λ v. All (λ n. n < length names) (numbers_of v)) w ws a))

-- where `main` is a name of the table
with_main : (names : List Name) (ws : List (Word ℕ)) (main end : ℕ) (p : Program) → FitsProgram p → Distinct names
    → map (renamed (named_by names)) ws ≡ program_words p → named_by names main ≡ main_name
    → words_checked (λ i j. i == j) main end ws ≡ checked end p
with_main names ws main end p fits d w m =
    sym (check_renamed (named_by names) (λ i j. i == j) same_name (same_numbers names d) main end ws)
    ∙ ap (λ (x : Name). words_checked same_name x end (map (renamed (named_by names)) ws)) m
    ∙ ap (words_checked same_name main_name end) w ∙ words_are_checked end p fits

-- the table with `main`
abbrev more : List Name → List Name
more names = names ++ main_name ∷ []

same_place : (names : List Name) (n : ℕ) → n < length names → name_of (more names) n ≡ name_of names n
same_place names n h = get_or-append names (main_name ∷ []) [] n h

main_place : (names : List Name) → name_of (more names) (length names) ≡ main_name
main_place names = get_or-append_seam names main_name [] []

longer : (names : List Name) → length (more names) ≡ length names + 1
longer names = length-append names (main_name ∷ [])

abbrev HasNoMain : List Name → Type 0
HasNoMain names = (n : ℕ) → n < length names → name_of names n ≡ main_name → ⊥

more_distinct : (names : List Name) → Distinct names → HasNoMain names → Distinct (more names)
more_distinct names d none i j x y e = go (nat_lt i (length names)) (nat_lt j (length names)) refl refl
  where
    last : (k : ℕ) → k < length (more names) → nat_lt k (length names) ≡ false → k ≡ length names
    last k h f = omega (arith, h, longer names, ltb-false k (length names) f)

    go : (b c : Bool) → nat_lt i (length names) ≡ b → nat_lt j (length names) ≡ c → i ≡ j
    go true true p q =
        let u : i < length names = ltb-true i (length names) p in let v : j < length names = ltb-true j (length names) q in
        d i j u v (sym (same_place names i u) ∙ e ∙ same_place names j v)
    go true false p q =
        let u : i < length names = ltb-true i (length names) p in
        absurd (none i u (sym (same_place names i u) ∙ e ∙ ap (name_of (more names)) (last j y q) ∙ main_place names))
    go false true p q =
        let v : j < length names = ltb-true j (length names) q in
        absurd (none j v (sym (same_place names j v) ∙ sym e ∙ ap (name_of (more names)) (last i x p) ∙ main_place names))
    go false false p q = last i x p ∙ sym (last j y q)

-- WHAT A CHECK OF WORDS ANSWERS is what the rules say of the program.
pub numbers_are_checked : (names : List Name) (ws : List (Word ℕ)) (main end : ℕ) (p : Program) → FitsProgram p → AreWords names ws p → IsMain names main
    → words_checked (λ i j. i == j) main end ws ≡ checked end p
numbers_are_checked names ws main end p fits a (inl (h, e)) =
    with_main names ws main end p fits a.distinct (sym (all_renamed names (named_by names) (λ n l. sym (within names n l)) ws a.known)
    ∙ a.words) (within names main h ∙ e)
numbers_are_checked names ws main end p fits a (inr (e, none)) =
    let inside : (n : ℕ) → n < length names → n < length (more names) = λ n l. omega (arith, l, longer names) in
    let there : length names < length (more names) = omega (arith, longer names) in
    with_main (more names) ws main end p fits (more_distinct names a.distinct none)
    (sym (all_renamed names (named_by (more names)) (λ n l. sym (within (more names) n (inside n l) ∙ same_place names n l)) ws a.known) ∙ a.words)
    (ap (named_by (more names)) e ∙ within (more names) (length names) there ∙ main_place names)
