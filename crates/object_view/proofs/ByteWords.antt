-- Words and bytes: a list of words that is read from a place to another one.
use Rattle.std.proofs.Common.{◌≡◌, ℕ, zero, suc, ◌+◌, ◌-◌, ◌*◌, ◌^◌, ◌<◌, ◌≤◌, List, [], ◌∷◌, ◌++◌, length, take, drop, get_or, refl, sym, ap}
use Rattle.std.proofs.Common.{subst, ◌∙◌, arith}
use Rattle.std.specs.Prelude.{flat_map}
use Rattle.std.specs.Int.{w64, to_le_bytes, from_le_bytes}
use Rattle.std.proofs.lemmas.Nat.{le_bytes_8}
use Rattle.std.proofs.lemmas.List.{nil_from_length, drop-drop}
use Rattle.byteorder.specs.Endian.{little_number}
use Rattle.object_view.specs.Fields.{word_at}

-- these words are there from place i on, up to place j
abbrev pub ReadsTo : (ℕ → ℕ) → ℕ → List ℕ → ℕ → Type 0
ReadsTo w i [] j = i ≡ j
ReadsTo w i (x ∷ xs) j = (w i ≡ x) × ReadsTo w (i + 1) xs j

pub reads_append : (w : ℕ → ℕ) (i : ℕ) (xs : List ℕ) (j : ℕ) (ys : List ℕ) (k : ℕ) → ReadsTo w i xs j → ReadsTo w j ys k → ReadsTo w i (xs ++ ys) k
reads_append w i [] j ys k p q = subst (λ (a : ℕ). ReadsTo w a ys k) (sym p) q
reads_append w i (x ∷ xs) j ys k p q = (p.0, reads_append w (i + 1) xs j ys k p.1 q)

pub reads_length : (w : ℕ → ℕ) (i : ℕ) (xs : List ℕ) (j : ℕ) → ReadsTo w i xs j → i + length xs ≡ j
reads_length w i [] j p = omega (arith, p)
reads_length w i (x ∷ xs) j p = omega (arith, reads_length w (i + 1) xs j p.1)

abbrev pub AllBytes : List ℕ → Type 0
AllBytes s = (i : ℕ) → get_or s i 0 < 256

taken : (s : List ℕ) (k i : ℕ) → AllBytes s → get_or (take k s) i 0 < 256
taken s zero i all = omega arith
taken [] (suc k) i all = omega arith
taken (x ∷ xs) (suc k) zero all = all 0
taken (x ∷ xs) (suc k) (suc i) all = taken xs k i (λ j. all (suc j))

pub dropped : (s : List ℕ) (k i : ℕ) → AllBytes s → get_or (drop k s) i 0 < 256
dropped s zero i all = all i
dropped [] (suc k) i all = omega arith
dropped (x ∷ xs) (suc k) i all = dropped xs k i (λ j. all (suc j))

pub first_word : (s : List ℕ) → 8 ≤ length s → AllBytes s → s ≡ to_le_bytes w64 (little_number 8 s) ++ drop 8 s
first_word (a ∷ b ∷ c ∷ d ∷ e ∷ f ∷ g ∷ h ∷ rest) le all =
    let s : List ℕ = a ∷ b ∷ c ∷ d ∷ e ∷ f ∷ g ∷ h ∷ rest in
    let same : little_number 8 s ≡ from_le_bytes w64 (a ∷ b ∷ c ∷ d ∷ e ∷ f ∷ g ∷ h ∷ []) = omega arith in
    let back : to_le_bytes w64 (little_number 8 s) ≡ a ∷ b ∷ c ∷ d ∷ e ∷ f ∷ g ∷ h ∷ [] =
    le_bytes_8 (a ∷ b ∷ c ∷ d ∷ e ∷ f ∷ g ∷ h ∷ []) (little_number 8 s) refl (λ i. taken s 8 i all) same in
    sym (ap (λ (l : List ℕ). l ++ rest) back)
first_word [] le all = absurd (omega arith)
first_word (a ∷ []) le all = absurd (omega arith)
first_word (a ∷ b ∷ []) le all = absurd (omega arith)
first_word (a ∷ b ∷ c ∷ []) le all = absurd (omega arith)
first_word (a ∷ b ∷ c ∷ d ∷ []) le all = absurd (omega arith)
first_word (a ∷ b ∷ c ∷ d ∷ e ∷ []) le all = absurd (omega arith)
first_word (a ∷ b ∷ c ∷ d ∷ e ∷ f ∷ []) le all = absurd (omega arith)
first_word (a ∷ b ∷ c ∷ d ∷ e ∷ f ∷ g ∷ []) le all = absurd (omega arith)

pub length_dropped : (s : List ℕ) (k : ℕ) → length (drop k s) ≡ length s - k
length_dropped s zero = omega arith
length_dropped [] (suc k) = omega arith
length_dropped (x ∷ xs) (suc k) = omega (arith, length_dropped xs k)

-- where the words are read from the bytes, the bytes are the words'
pub spelled : (bytes : List ℕ) (ws : List ℕ) (i : ℕ) → AllBytes bytes → length (drop (8 * i) bytes) ≡ 8 * length ws → (j : ℕ)
    → ReadsTo (word_at bytes) i ws j → drop (8 * i) bytes ≡ flat_map (to_le_bytes w64) ws
unfolding word_at
spelled bytes [] i all len j r = nil_from_length (drop (8 * i) bytes) (omega (arith, len))
spelled bytes (x ∷ ws) i all len j r =
    let s : List ℕ = drop (8 * i) bytes in
    let e : s ≡ to_le_bytes w64 (little_number 8 s) ++ drop 8 s = first_word s (omega (arith, len)) (λ k. dropped bytes (8 * i) k all) in
    let at : 8 * i + 8 ≡ 8 * (i + 1) = omega arith in
    let next : drop 8 s ≡ drop (8 * (i + 1)) bytes = drop-drop 8 (8 * i) bytes ∙ ap (λ k. drop k bytes) at in
    let left : length (drop (8 * (i + 1)) bytes) ≡ 8 * length ws = sym (ap length next) ∙ length_dropped s 8 ∙ omega (arith, len) in
    let ih = spelled bytes ws (i + 1) all left j r.1 in
    e ∙ ap (λ n. to_le_bytes w64 n ++ drop 8 s) r.0 ∙ ap (λ (l : List ℕ). to_le_bytes w64 x ++ l) (next ∙ ih)

-- a word has 64 bits
pub word_fits : (bytes : List ℕ) (i : ℕ) → AllBytes bytes → word_at bytes i < 2 ^ 64
unfolding word_at
word_fits bytes i all =
    let b = λ (k : ℕ). dropped bytes (8 * i) k all in
    omega (arith, b 0, b 1, b 2, b 3, b 4, b 5, b 6, b 7)
