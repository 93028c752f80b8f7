-- Bytes that spell words are read as these words.
use Rattle.std.proofs.Common.{◌≡◌, ℕ, ◌+◌, ◌*◌, ◌^◌, ◌<◌, List, [], ◌∷◌, ◌++◌, length, drop, refl, sym, ap, subst, ◌∙◌, arith}
use Rattle.std.specs.Prelude.{flat_map, ⊤}
use Rattle.std.specs.Int.{w64, to_le_bytes}
use Rattle.std.proofs.lemmas.Nat.{from_le_bytes-to_le_bytes_8}
use Rattle.std.proofs.lemmas.List.{drop-drop}
use Rattle.std.specs.Int.{from_le_bytes}
use Rattle.byteorder.specs.Endian.{little_number}
use Rattle.semantics.specs.Program.{Code}
use Rattle.semantics.specs.Bytes.{words_of, bytes_of}
use Rattle.object_view.specs.Fields.{word_at}
use Rattle.object_view.specs.Checks.{MAGIC}
use Rattle.object_view.proofs.ByteWords.{ReadsTo}

-- words of 64 bits
abbrev pub AreWords : List ℕ → Type 0
AreWords [] = ⊤
AreWords (x ∷ xs) = (x < 2 ^ 64) × AreWords xs

pub words_append : (xs ys : List ℕ) → AreWords xs → AreWords ys → AreWords (xs ++ ys)
words_append [] ys p q = q
words_append (x ∷ xs) ys p q = (p.0, words_append xs ys p.1 q)

pub word_back : (x : ℕ) (rest : List ℕ) → x < 2 ^ 64 → little_number 8 (to_le_bytes w64 x ++ rest) ≡ x
word_back x rest few =
    let same : little_number 8 (to_le_bytes w64 x ++ rest) ≡ from_le_bytes w64 (to_le_bytes w64 x) = omega arith in
    same ∙ from_le_bytes-to_le_bytes_8 x few

pub words_back : (bytes : List ℕ) (ws : List ℕ) (i : ℕ) → drop (8 * i) bytes ≡ flat_map (to_le_bytes w64) ws → AreWords ws
    → ReadsTo (word_at bytes) i ws (i + length ws)
unfolding word_at
words_back bytes [] i e few = omega arith
words_back bytes (x ∷ ws) i e few =
    let rest : List ℕ = flat_map (to_le_bytes w64) ws in
    let here : little_number 8 (drop (8 * i) bytes) ≡ x = ap (little_number 8) e ∙ word_back x rest few.0 in
    let at : 8 * i + 8 ≡ 8 * (i + 1) = omega arith in
    let next : drop (8 * (i + 1)) bytes ≡ rest = ap (λ k. drop k bytes) (sym at) ∙ sym (drop-drop 8 (8 * i) bytes) ∙ ap (drop 8) e in
    let to : i + 1 + length ws ≡ i + length (x ∷ ws) = omega arith in
    (here, subst (λ (k : ℕ). ReadsTo (word_at bytes) (i + 1) ws k) to (words_back bytes ws (i + 1) next few.1))

pub length_words : (ws : List ℕ) → length (flat_map (to_le_bytes w64) ws) ≡ 8 * length ws
length_words [] = refl
length_words (x ∷ ws) = omega (arith, length_words ws)

-- the words of an object are read from its bytes
pub object_back : (v : ℕ) (c : Code) → AreWords (words_of v c) → ReadsTo (word_at (bytes_of v c)) 0 (MAGIC ∷ words_of v c) (0 + length (MAGIC ∷ words_of v c))
object_back v c few = words_back (bytes_of v c) (MAGIC ∷ words_of v c) 0 refl (omega arith, few)
