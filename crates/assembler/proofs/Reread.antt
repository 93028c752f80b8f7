-- Lines that are written fall into the words that they are written of.
use Rattle.std.proofs.Common.{◌≡◌, ℕ, zero, suc, ◌-◌, ◌<◌, ◌&&◌, not, eqb, leb, Bool, true, false, cond, List, [], ◌∷◌, ◌++◌, length, map, refl}
use Rattle.std.proofs.Common.{sym, ap, subst, ◌∙◌, append_assoc, arith}
use Rattle.std.specs.List.{list_all, onto_first}
use Rattle.std.proofs.lemmas.Bool.{leb-true, le-leb, ne_eqb, and_parts, and_from, not-true}
use Rattle.std.proofs.lemmas.List.{append-nil}
use Rattle.std.proofs.lemmas.List.Folds.{list_all-append}
use Rattle.std.proofs.lemmas.List.Splits.{slice_split_none}
use Rattle.lemmas.proofs.Lists.{map_append}
use Rattle.semantics.specs.Text.{line, field}
use Rattle.disassembler.specs.Listing.{spaces, right_in, left_in}
use Rattle.graph_file.specs.Lines.{parts}
use Rattle.graph_file.proofs.Marks.{weaker, apart}
use Rattle.assembler.specs.Words.{Word, kept, front, words_of, filled, lines_in}
use Rattle.assembler.proofs.Prefixes.{Lines}

-- ---- parts on both sides of a byte
onto_more : (x : ℕ) (ps qs : List (List ℕ)) → 0 < length ps → onto_first x (ps ++ qs) ≡ onto_first x ps ++ qs
onto_more x [] qs h = absurd (omega arith)
onto_more x (p ∷ ps) qs h = refl

some_onto : (x : ℕ) (ps : List (List ℕ)) → 0 < length ps → 0 < length (onto_first x ps)
some_onto x [] h = absurd (omega arith)
some_onto x (p ∷ ps) h = omega arith

some_parts : (c : ℕ) (bs : List ℕ) → 0 < length (parts c bs)
some_parts c [] = omega arith
some_parts c (b ∷ bs) = go (eqb b c) (some_parts c bs)
  where
    go : (t : Bool) → 0 < length (parts c bs) → 0 < length (cond t ([] ∷ parts c bs) (onto_first b (parts c bs)))
    go true h = omega arith
    go false h = some_onto b (parts c bs) h

pub parts_both : (c : ℕ) (bs rest : List ℕ) → eqb c c ≡ true → parts c (bs ++ c ∷ rest) ≡ parts c bs ++ parts c rest
parts_both c [] rest e = rw e refl
parts_both c (b ∷ bs) rest e = go (eqb b c) (parts_both c bs rest e)
  where
    go : (t : Bool) → parts c (bs ++ c ∷ rest) ≡ parts c bs ++ parts c rest → cond t ([] ∷ parts c (bs ++ c ∷ rest))
        (onto_first b (parts c (bs ++ c ∷ rest))) ≡ cond t ([] ∷ parts c bs) (onto_first b (parts c bs)) ++ parts c rest
    go true h = ap (λ (ps : List (List ℕ)). [] ∷ ps) h
    go false h = ap (onto_first b) h ∙ onto_more b (parts c bs) (parts c rest) (some_parts c bs)

-- ---- words between spaces
abbrev words_in : List ℕ → List Word
words_in bs = kept (parts 32 bs)

kept_both : (ps qs : List (List ℕ)) → kept (ps ++ qs) ≡ kept ps ++ kept qs
unfolding kept
kept_both [] qs = refl
kept_both ([] ∷ ps) qs = kept_both ps qs
kept_both ((b ∷ bs) ∷ ps) qs = ap (λ (ws : List Word). (b ∷ bs) ∷ ws) (kept_both ps qs)

words_both : (bs rest : List ℕ) → words_in (bs ++ 32 ∷ rest) ≡ words_in bs ++ words_in rest
words_both bs rest = ap kept (parts_both 32 bs rest refl) ∙ kept_both (parts 32 bs) (parts 32 rest)

no_words : words_in [] ≡ []
unfolding kept
no_words = refl

-- ---- the bytes of a word, and of a line: no line feed, and no `;`
abbrev pub is_word_byte : ℕ → Bool
is_word_byte b = leb 33 b && not (eqb b 59)

abbrev is_line_byte : ℕ → Bool
is_line_byte b = leb 32 b && not (eqb b 59)

pub record IsWord (w : Word) : Type 0 where
  pub some : 0 < length w
  pub plain : list_all is_word_byte w ≡ true

line_from_word : (b : ℕ) → is_word_byte b ≡ true → is_line_byte b ≡ true
line_from_word b e = let p = and_parts (leb 33 b) (not (eqb b 59)) e
    in and_from (leb 32 b) (not (eqb b 59)) (le-leb 32 b (let h = leb-true 33 b p.0 in omega arith)) p.1

not_space : (b : ℕ) → is_word_byte b ≡ true → eqb b 32 ≡ false
not_space b e = let h = leb-true 33 b (and_parts (leb 33 b) (not (eqb b 59)) e).0 in ne_eqb b 32 (λ z. absurd (omega (arith, h)))

not_feed : (b : ℕ) → is_line_byte b ≡ true → eqb b 10 ≡ false
not_feed b e = let h = leb-true 32 b (and_parts (leb 32 b) (not (eqb b 59)) e).0 in ne_eqb b 10 (λ z. absurd (omega (arith, h)))

not_comment : (b : ℕ) → is_line_byte b ≡ true → eqb b 59 ≡ false
not_comment b e = not-true (eqb b 59) (and_parts (leb 32 b) (not (eqb b 59)) e).1

kept_one : (w : Word) → 0 < length w → kept (w ∷ []) ≡ w ∷ []
unfolding kept
kept_one [] h = absurd (omega arith)
kept_one (b ∷ bs) h = refl

-- what a line says, and that it is one line and has no comment
pub record Says (bs : List ℕ) (ws : List Word) : Type 0 where
  pub plain : list_all is_line_byte bs ≡ true
  pub words : words_in bs ≡ ws

plain_both : (p : ℕ → Bool) (xs ys : List ℕ) → list_all p xs ≡ true → list_all p ys ≡ true → list_all p (xs ++ ys) ≡ true
plain_both p xs ys h k = list_all-append p xs ys ∙ and_from (list_all p xs) (list_all p ys) h k

pub says_word : (w : Word) → IsWord w → Says w (w ∷ [])
says_word w h = record {
  plain = weaker is_word_byte is_line_byte line_from_word w h.plain;
  words = ap kept (slice_split_none (λ b. eqb b 32) w (apart is_word_byte 32 not_space w h.plain)) ∙ kept_one w h.some;
}

-- after one space
pub says_field : (bs rest : List ℕ) (ws vs : List Word) → Says bs ws → Says rest vs → Says (bs ++ field rest) (ws ++ vs)
says_field bs rest ws vs h k = record {
  plain = plain_both is_line_byte bs (field rest) h.plain k.plain;
  words = words_both bs rest ∙ ap (λ (us : List Word). us ++ words_in rest) h.words ∙ ap (λ (us : List Word). ws ++ us) k.words;
}

says_space : (bs : List ℕ) (ws : List Word) → Says bs ws → Says (32 ∷ bs) ws
says_space bs ws h = record { plain = h.plain; words = words_both [] bs ∙ ap (λ (us : List Word). us ++ words_in bs) no_words ∙ h.words }

says_spaces : (n : ℕ) (bs : List ℕ) (ws : List Word) → Says bs ws → Says (spaces n ++ bs) ws
says_spaces zero bs ws h = h
says_spaces (suc n) bs ws h = says_space (spaces n ++ bs) ws (says_spaces n bs ws h)

pub says_right : (width : ℕ) (w : Word) → IsWord w → Says (right_in width w) (w ∷ [])
says_right width w h = says_spaces (width - length w) w (w ∷ []) (says_word w h)

only_spaces : (n : ℕ) → Says (spaces n) []
only_spaces zero = record { plain = refl; words = no_words }
only_spaces (suc n) = says_space (spaces n) [] (only_spaces n)

says_before : (n : ℕ) (w : Word) → IsWord w → Says (w ++ spaces n) (w ∷ [])
says_before zero w h = subst (λ (bs : List ℕ). Says bs (w ∷ [])) (sym (append-nil w)) (says_word w h)
says_before (suc n) w h = says_field w (spaces n) (w ∷ []) [] (says_word w h) (only_spaces n)

pub says_left : (width : ℕ) (w : Word) → IsWord w → Says (left_in width w) (w ∷ [])
says_left width w h = says_before (width - length w) w h

-- a fixed word between two spaces, and a word after it
pub says_pair : (bs : List ℕ) (ws : List Word) (key w : Word) → IsWord key → IsWord w → Says bs ws → Says ((bs ++ field (key ++ 32 ∷ [])) ++ w)
    (ws ++ key ∷ w ∷ [])
says_pair bs ws key w k h says =
    let pair : Says (key ++ field w) (key ∷ w ∷ []) = says_field key w (key ∷ []) (w ∷ []) (says_word key k) (says_word w h) in
    let same : (bs ++ field (key ++ 32 ∷ [])) ++ w ≡ bs ++ field (key ++ field w) = append_assoc bs (field (key ++ 32 ∷ [])) w
    ∙ ap (λ (xs : List ℕ). bs ++ field xs) (append_assoc key (32 ∷ []) w) in
    subst (λ (xs : List ℕ). Says xs (ws ++ key ∷ w ∷ [])) (sym same) (says_field bs (key ++ field w) ws (key ∷ w ∷ []) says pair)

-- ---- lines
filled_both : (ks bs : Lines) → filled (ks ++ bs) ≡ filled ks ++ filled bs
unfolding filled
filled_both [] bs = refl
filled_both ([] ∷ ks) bs = filled_both ks bs
filled_both ((w ∷ ws) ∷ ks) bs = ap (λ (ls : Lines). (w ∷ ws) ∷ ls) (filled_both ks bs)

filled_one : (w : Word) (ws : List Word) → filled ((w ∷ ws) ∷ []) ≡ (w ∷ ws) ∷ []
unfolding filled
filled_one w ws = refl

lines_both : (bs rest : List ℕ) → lines_in (bs ++ 10 ∷ rest) ≡ lines_in bs ++ lines_in rest
lines_both bs rest =
    ap (λ (ps : List (List ℕ)). filled (map words_of ps)) (parts_both 10 bs rest refl)
    ∙ ap filled (map_append words_of (parts 10 bs) (parts 10 rest)) ∙ filled_both (map words_of (parts 10 bs)) (map words_of (parts 10 rest))

no_lines : lines_in [] ≡ []
unfolding filled words_of kept
no_lines = refl

one_line : (bs : List ℕ) (w : Word) (ws : List Word) → Says bs (w ∷ ws) → lines_in bs ≡ (w ∷ ws) ∷ []
unfolding words_of
one_line bs w ws h =
    let feed : parts 10 bs ≡ bs ∷ [] = slice_split_none (λ b. eqb b 10) bs (apart is_line_byte 10 not_feed bs h.plain) in
    let comment : parts 59 bs ≡ bs ∷ [] = slice_split_none (λ b. eqb b 59) bs (apart is_line_byte 59 not_comment bs h.plain) in
    let words : words_of bs ≡ w ∷ ws = ap (λ (ps : List (List ℕ)). words_in (front ps)) comment ∙ h.words in
    ap (λ (ps : List (List ℕ)). filled (map words_of ps)) feed ∙ ap (λ (us : List Word). filled (us ∷ [])) words ∙ filled_one w ws

-- what is written is read as these lines, whatever follows it
abbrev pub Rereads : List ℕ → Lines → Type 0
Rereads bs ls = (rest : List ℕ) → lines_in (bs ++ rest) ≡ ls ++ lines_in rest

pub rereads_none : Rereads [] []
rereads_none rest = refl

pub rereads_line : (bs : List ℕ) (w : Word) (ws : List Word) → Says bs (w ∷ ws) → Rereads (line bs) ((w ∷ ws) ∷ [])
rereads_line bs w ws h rest =
    ap lines_in (append_assoc bs (10 ∷ []) rest) ∙ lines_both bs rest ∙ ap (λ (ls : Lines). ls ++ lines_in rest) (one_line bs w ws h)

pub rereads_both : (cs bs : List ℕ) (ls ms : Lines) → Rereads cs ls → Rereads bs ms → Rereads (cs ++ bs) (ls ++ ms)
rereads_both cs bs ls ms h k rest =
    ap lines_in (append_assoc cs bs rest) ∙ h (bs ++ rest) ∙ ap (λ (ns : Lines). ls ++ ns) (k rest) ∙ sym (append_assoc ls ms (lines_in rest))

pub reread : (bs : List ℕ) (ls : Lines) → Rereads bs ls → lines_in bs ≡ ls
reread bs ls h = ap lines_in (sym (append-nil bs)) ∙ h [] ∙ ap (λ (ms : Lines). ls ++ ms) no_lines ∙ append-nil ls
