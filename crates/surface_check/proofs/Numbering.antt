-- A name for each number, no two of them the same: those of the table, and beyond it names that are longer than all in it.
use Rattle.std.specs.Prelude.{◌≡◌, refl, ℕ, zero, suc, ◌+◌, ◌<◌, ◌≤◌, ◌==◌, nat_lt, Bool, true, false, List, [], ◌∷◌, length, map, replicate, sum_by, All}
use Rattle.std.specs.Prelude.{if◌then◌else◌}
use Rattle.std.proofs.Common.{◌∙◌, ap, sym, subst, arith}
use Rattle.std.proofs.lemmas.Bool.{lt-ltb, le-ltb, ltb-true, ltb-false, eqb-true, eqb-false}
use Rattle.std.proofs.lemmas.List.Elements.{All-head, All-tail}
use Rattle.std.proofs.lemmas.List.Sums.{get_or-le-sum_by}
use Rattle.semantics.specs.Graph.{same_name}
use Rattle.semantics.proofs.Lines.{same_name_is, same_name_itself}
use Rattle.source.specs.declared.word.Word.{Word as CoreWord}
use Rattle.source.specs.declared.word.Word.TheVariants as core_word
use Rattle.source.specs.Tree.{Name}
use Rattle.source.specs.Words as core
use Rattle.source.specs.Words.{name_of}
use Rattle.source.specs.Rules.{main_name}
use Rattle.surface.specs.declared.word.Word.{Word}
use Rattle.surface.specs.declared.word.Word.TheVariants as word
use Rattle.surface.specs.Known.{built_in}
use Rattle.surface.specs.Words.{named, numbers_of}
use Rattle.surface_check.specs.Renamed.{renamed, core_renamed, numbers_in}
use Rattle.surface_check.proofs.HeadsRead.{by_bytes}
use Rattle.surface_check.proofs.RenamedHeads.{Alike}

abbrev new_name : List Name → ℕ → Name
new_name names n = replicate (suc (sum_by (λ (x : Name). length x) names + n)) 0

abbrev pub named_by : List Name → ℕ → Name
named_by names n = if nat_lt n (length names) then name_of names n else new_name names n

pub within : (names : List Name) (n : ℕ) → n < length names → named_by names n ≡ name_of names n
within names n h = rw (lt-ltb n (length names) h) refl

beyond : (names : List Name) (n : ℕ) → length names ≤ n → named_by names n ≡ new_name names n
beyond names n h = rw (le-ltb n (length names) h) refl

length-zeros : (n : ℕ) → length {A = ℕ} (replicate n 0) ≡ n
length-zeros zero = refl
length-zeros (suc n) = ap suc (length-zeros n)

short : (names : List Name) (n : ℕ) → n < length names → length (name_of names n) ≤ sum_by (λ (x : Name). length x) names
short names n h = get_or-le-sum_by (λ (x : Name). length x) names n [] h

abbrev pub Distinct : List Name → Type 0
Distinct names = (i j : ℕ) → i < length names → j < length names → name_of names i ≡ name_of names j → i ≡ j

injective : (names : List Name) → Distinct names → (i j : ℕ) → named_by names i ≡ named_by names j → i ≡ j
injective names d i j e = go (nat_lt i (length names)) (nat_lt j (length names)) refl refl
  where
    go : (b c : Bool) → nat_lt i (length names) ≡ b → nat_lt j (length names) ≡ c → i ≡ j
    go true true p q =
        let x : i < length names = ltb-true i (length names) p in let y : j < length names = ltb-true j (length names) q in
        d i j x y (sym (within names i x) ∙ e ∙ within names j y)
    go true false p q =
        let x : i < length names = ltb-true i (length names) p in let y : length names ≤ j = ltb-false j (length names) q in
        let l : length (name_of names i) ≡ length (new_name names j) = ap length (sym (within names i x) ∙ e ∙ beyond names j y) in
        absurd (omega (arith, l, short names i x, length-zeros (suc (sum_by (λ (x : Name). length x) names + j))))
    go false true p q =
        let x : length names ≤ i = ltb-false i (length names) p in let y : j < length names = ltb-true j (length names) q in
        let l : length (new_name names i) ≡ length (name_of names j) = ap length (sym (beyond names i x) ∙ e ∙ within names j y) in
        absurd (omega (arith, l, short names j y, length-zeros (suc (sum_by (λ (x : Name). length x) names + i))))
    go false false p q =
        let x : length names ≤ i = ltb-false i (length names) p in let y : length names ≤ j = ltb-false j (length names) q in
        let l : length (new_name names i) ≡ length (new_name names j) = ap length (sym (beyond names i x) ∙ e ∙ beyond names j y) in
        omega (arith, l, length-zeros (suc (sum_by (λ (x : Name). length x) names + i)), length-zeros (suc (sum_by (λ (x : Name). length x) names + j)))

same_numbers : (names : List Name) → Distinct names → (i j : ℕ) → same_name (named_by names i) (named_by names j) ≡ (i == j)
same_numbers names d i j = go (i == j) refl (same_name (named_by names i) (named_by names j)) refl
  where
    go : (b : Bool) → (i == j) ≡ b → (c : Bool) → same_name (named_by names i) (named_by names j) ≡ c → c ≡ b
    go true e true h = refl
    go false e false h = refl
    go true e false h = let p : i ≡ j = eqb-true i j e in sym h ∙ subst (λ k. same_name (named_by names i) (named_by names k) ≡ true) p (same_name_itself
        (named_by names i))
    go false e true h = absurd (eqb-false i j e (injective names d i j (same_name_is (named_by names i) (named_by names j) h)))

-- a name beyond the table is none that has a meaning of its own
pub none_beyond : (names : List Name) (n : ℕ) → length names ≤ n → name_of names n ≡ []
none_beyond [] n h = refl
none_beyond (x ∷ names) zero h = absurd (omega (arith, h))
none_beyond (x ∷ names) (suc n) h = none_beyond names n (omega (arith, h))

by_table : {A : Type 0} (f : Name → A) (names : List Name) (n : ℕ) → ((m : ℕ) → f (replicate (suc m) 0) ≡ f []) → f (named_by names n) ≡ f (name_of names n)
by_table {A} f names n h = go (nat_lt n (length names)) refl
  where
    go : (b : Bool) → nat_lt n (length names) ≡ b → f (named_by names n) ≡ f (name_of names n)
    go true e = ap f (within names n (ltb-true n (length names) e))
    go false e =
        let b : length names ≤ n = ltb-false n (length names) e in
        ap f (beyond names n b) ∙ h (sum_by (λ (x : Name). length x) names + n) ∙ sym (ap f (none_beyond names n b))

pub numbers_alike : (names : List Name) → Distinct names → Alike (named_by names) (numbers_in names) by_bytes
numbers_alike names d = record {
  same = same_numbers names d;
  is_main = λ n. by_table (λ (x : Name). same_name x main_name) names n (λ m. refl);
  built_in = λ n. by_table built_in names n (λ m. refl);
}

-- EACH WORD with its names
core_renamed_as : (names : List Name) (nm : ℕ → Name) → ((n : ℕ) → n < length names → name_of names n ≡ nm n) → (w : CoreWord ℕ)
    → All (λ n. n < length names) (core.numbers_of w) → core.named names w ≡ core_renamed nm w
core_renamed_as names nm k (core_word.Array at x) a = ap (λ n. core_word.Array at n) (k x (All-head (λ n. n < length names) x [] a))
core_renamed_as names nm k (core_word.Function at x) a = ap (λ n. core_word.Function at n) (k x (All-head (λ n. n < length names) x [] a))
core_renamed_as names nm k (core_word.Parameter at x) a = ap (λ n. core_word.Parameter at n) (k x (All-head (λ n. n < length names) x [] a))
core_renamed_as names nm k (core_word.Name at x) a = ap (λ n. core_word.Name at n) (k x (All-head (λ n. n < length names) x [] a))
core_renamed_as names nm k (core_word.Cell at x) a = ap (λ n. core_word.Cell at n) (k x (All-head (λ n. n < length names) x [] a))
core_renamed_as names nm k (core_word.Fetch at x) a = ap (λ n. core_word.Fetch at n) (k x (All-head (λ n. n < length names) x [] a))
core_renamed_as names nm k (core_word.Store at x) a = ap (λ n. core_word.Store at n) (k x (All-head (λ n. n < length names) x [] a))
core_renamed_as names nm k (core_word.Callee at x) a = ap (λ n. core_word.Callee at n) (k x (All-head (λ n. n < length names) x [] a))
core_renamed_as names nm k (core_word.Call at strict x) a = ap (λ n. core_word.Call at strict n) (k x (All-head (λ n. n < length names) x [] a))
core_renamed_as names nm k (core_word.Start at x) a = ap (λ n. core_word.Start at n) (k x (All-head (λ n. n < length names) x [] a))
core_renamed_as names nm k (core_word.Bind at x) a = ap (λ n. core_word.Bind at n) (k x (All-head (λ n. n < length names) x [] a))
core_renamed_as names nm k w a = refl

renamed_as : (names : List Name) (nm : ℕ → Name) → ((n : ℕ) → n < length names → name_of names n ≡ nm n) → (w : Word ℕ)
    → All (λ n. n < length names) (numbers_of w) → named names w ≡ renamed nm w
renamed_as names nm k (word.Core w) a = ap (λ (v : CoreWord Name). word.Core v) (core_renamed_as names nm k w a)
renamed_as names nm k (word.Constant at x) a = ap (λ n. word.Constant at n) (k x (All-head (λ n. n < length names) x [] a))
renamed_as names nm k (word.ArrayParameter at x rank) a = ap (λ n. word.ArrayParameter at n rank) (k x (All-head (λ n. n < length names) x [] a))
renamed_as names nm k (word.ConstantResults at x) a = ap (λ n. word.ConstantResults at n) (k x (All-head (λ n. n < length names) x [] a))
renamed_as names nm k (word.ConstantBound at x) a = ap (λ n. word.ConstantBound at n) (k x (All-head (λ n. n < length names) x [] a))
renamed_as names nm k (word.EndConstantLoop at x) a = ap (λ n. word.EndConstantLoop at n) (k x (All-head (λ n. n < length names) x [] a))
renamed_as names nm k (word.Counter at x) a = ap (λ n. word.Counter at n) (k x (All-head (λ n. n < length names) x [] a))
renamed_as names nm k w a = refl

pub all_renamed : (names : List Name) (nm : ℕ → Name) → ((n : ℕ) → n < length names → name_of names n ≡ nm n) → (ws : List (Word ℕ))
    → All (λ w. All (λ n. n < length names) (numbers_of w)) ws
    → map (named names) ws ≡ map (renamed nm) ws
all_renamed names nm k [] a = refl
all_renamed names nm k (w ∷ ws) a = ap (λ v. v ∷ map (named names) ws) (renamed_as names nm k w (All-head (λ v. All (λ n. n < length names)
    (numbers_of v)) w ws a))
    ∙ ap (λ vs. renamed nm w ∷ vs) (all_renamed names nm k ws (All-tail (λ v. All (λ n. n < length names) (numbers_of v)) w ws a))
