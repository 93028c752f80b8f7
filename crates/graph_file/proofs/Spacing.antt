-- Fields with a space between are a line, and the line falls into these fields.
use Rattle.std.proofs.Common.{◌≡◌, ℕ, ◌<◌, ◌≤◌, ◌&&◌, not, eqb, leb, Bool, true, false, cond, List, [], ◌∷◌, ◌++◌, length, map, All, Ok, refl, sym}
use Rattle.std.proofs.Common.{ap, ◌∙◌, append_assoc, arith}
use Rattle.std.specs.Prelude.{⊤, codes, flat_map, nat_lt}
use Rattle.std.specs.Fmt.{decimal}
use Rattle.std.specs.List.{list_all, join_with_byte}
use Rattle.std.proofs.lemmas.Bool.{ltb-true, leb-true, le-leb, ne_eqb, and_parts, and_from}
use Rattle.std.proofs.lemmas.List.{append-nil}
use Rattle.std.proofs.lemmas.List.Concat.{flat_map-cons, flat_map-append}
use Rattle.std.proofs.lemmas.List.Elements.{All-nil, All-cons, All-head, All-tail}
use Rattle.std.proofs.lemmas.List.Splits.{slice_split_none, slice_split_at, join_with_byte-slice_split}
use Rattle.operators.specs.declared.Unary.TheVariants.{Neg, Not}
use Rattle.operators.proofs.Every.{all_binary}
use Rattle.semantics.specs.declared.graph.Source.{Source}
use Rattle.semantics.specs.declared.graph.Kind.{Kind}
use Rattle.semantics.specs.declared.graph.Kind.TheVariants as kinds
use Rattle.semantics.specs.Graph.{Node}
use Rattle.semantics.specs.Text.{binary_word, field, line, kind_text, sources_text, node_line, region_text, literal, IsWrittenSource, HasNodeLine}
use Rattle.semantics.specs.Versions.{version_number}
use Rattle.semantics.specs.declared.version.Version.{Version}
use Rattle.graph_file.specs.declared.fault.ReadFaultKind.TheVariants.{BadLine}
use Rattle.graph_file.specs.declared.words.Word.{Word}
use Rattle.graph_file.specs.declared.words.Word.TheVariants as words
use Rattle.graph_file.specs.Lines.{parts, is_printed, is_well_spaced}
use Rattle.graph_file.specs.Reading.{fields_from}
use Rattle.graph_file.proofs.Binds.{ok_is, must_ok}
use Rattle.graph_file.proofs.Marks.{is_plain, IsField, apart, decimal_field, literal_field}
use Rattle.graph_file.proofs.Names.{source_text, source_field, name_field, region_field}
use Rattle.graph_file.proofs.Operands.{word_text, word_kind, operand_fields, HasOperands}
use Rattle.graph_file.proofs.OneNode.{node_fields, has_line}

-- the fields of a line, in a row
abbrev pub spaced : List (List ℕ) → List ℕ
spaced fs = join_with_byte 32 fs

abbrev pub AreFields : List (List ℕ) → Type 0
AreFields [] = ⊤
AreFields (f ∷ fs) = IsField f × AreFields fs

pub AreFields-append : (fs gs : List (List ℕ)) → AreFields fs → AreFields gs → AreFields (fs ++ gs)
AreFields-append [] gs h k = k
AreFields-append (f ∷ fs) gs h k = (h.0, AreFields-append fs gs h.1 k)

plain_bounds : (b : ℕ) → is_plain b ≡ true → (33 ≤ b) × (b ≤ 126)
plain_bounds b e = let p = and_parts (leb 33 b) (leb b 126) e in (leb-true _ _ p.0, leb-true _ _ p.1)

not_space : (b : ℕ) → is_plain b ≡ true → eqb b 32 ≡ false
not_space b e = let h = plain_bounds b e in ne_eqb b 32 (λ z. absurd (omega (arith, h)))

no_space : (f : List ℕ) → IsField f → All (λ b. eqb b 32 ≡ false) f
no_space f h = apart is_plain 32 not_space f h.plain

pub fields_again : (f : List ℕ) (fs : List (List ℕ)) → AreFields (f ∷ fs) → parts 32 (spaced (f ∷ fs)) ≡ f ∷ fs
fields_again f [] h = slice_split_none (λ b. eqb b 32) f (no_space f h.0)
fields_again f (g ∷ gs) h = slice_split_at (λ b. eqb b 32) f 32 (spaced (g ∷ gs)) (no_space f h.0) refl
    ∙ ap (λ (ys : List (List ℕ)). f ∷ ys) (fields_again g gs h.1)

plain_byte : (fresh : Bool) (b : ℕ) (rest : List ℕ) → is_plain b ≡ true → is_well_spaced fresh (b ∷ rest) ≡ is_well_spaced false rest
unfolding is_well_spaced
plain_byte fresh b rest e =
    let h = plain_bounds b e in
    let p : is_printed b ≡ true = and_from (leb 32 b) (leb b 126) (le-leb _ _ (omega (arith, h))) (le-leb _ _ (omega (arith, h))) in
    rw (p, not_space b e) refl

plain_field : (fresh : Bool) (f rest : List ℕ) → 0 < length f → list_all is_plain f ≡ true → is_well_spaced fresh (f ++ rest) ≡ is_well_spaced false rest
plain_field fresh [] rest some e = absurd (omega arith)
plain_field fresh (b ∷ []) rest some e = plain_byte fresh b rest (and_parts (is_plain b) true e).0
plain_field fresh (b ∷ c ∷ f) rest some e =
    let p = and_parts (is_plain b) (list_all is_plain (c ∷ f)) e in
    plain_byte fresh b ((c ∷ f) ++ rest) p.0 ∙ plain_field false (c ∷ f) rest (omega arith) p.1

ends_spaced : is_well_spaced false [] ≡ true
unfolding is_well_spaced
ends_spaced = refl

space_spaced : (rest : List ℕ) → is_well_spaced false (32 ∷ rest) ≡ is_well_spaced true rest
unfolding is_well_spaced
space_spaced rest = refl

pub is_spaced : (f : List ℕ) (fs : List (List ℕ)) → AreFields (f ∷ fs) → is_well_spaced true (spaced (f ∷ fs)) ≡ true
is_spaced f [] h = ap (is_well_spaced true) (sym (append-nil f)) ∙ plain_field true f [] h.0.some h.0.plain ∙ ends_spaced
is_spaced f (g ∷ gs) h = plain_field true f (32 ∷ spaced (g ∷ gs)) h.0.some h.0.plain ∙ space_spaced (spaced (g ∷ gs)) ∙ is_spaced g gs h.1

-- a line that is well spaced has no line feed
pub no_line_feed : (fresh : Bool) (bs : List ℕ) → is_well_spaced fresh bs ≡ true → All (λ b. eqb b 10 ≡ false) bs
unfolding is_well_spaced
no_line_feed fresh [] e = All-nil (λ b. eqb b 10 ≡ false)
no_line_feed fresh (b ∷ bs) e =
    let p = and_parts (is_printed b) (cond (eqb b 32) (not fresh && is_well_spaced true bs) (is_well_spaced false bs)) e in
    let q = and_parts (leb 32 b) (leb b 126) p.0 in
    let low = leb-true 32 b q.0 in
    All-cons (λ b. eqb b 10 ≡ false) b bs (ne_eqb b 10 (λ z. absurd (omega arith))) (go (eqb b 32) p.1 (no_line_feed true bs) (no_line_feed false bs))
  where
    go : (t : Bool) → cond t (not fresh && is_well_spaced true bs) (is_well_spaced false bs) ≡ true
        → (is_well_spaced true bs ≡ true → All (λ b. eqb b 10 ≡ false) bs) → (is_well_spaced false bs ≡ true → All (λ b. eqb b 10 ≡ false) bs)
        → All (λ b. eqb b 10 ≡ false) bs
    go true k x y = x (and_parts (not fresh) (is_well_spaced true bs) k).1
    go false k x y = y k

pub fields_take : (l : List ℕ) (fs : List (List ℕ)) → fields_from l ≡ Ok fs → l ≡ spaced fs
unfolding fields_from
fields_take l fs e =
    let m = must_ok (is_well_spaced true l) BadLine (λ _. Ok (parts 32 l)) fs e in
    sym (join_with_byte-slice_split 32 l) ∙ ap spaced (ok_is (parts 32 l) fs m.1)

pub fields_give : (f : List ℕ) (fs : List (List ℕ)) → AreFields (f ∷ fs) → fields_from (spaced (f ∷ fs)) ≡ Ok (f ∷ fs)
unfolding fields_from
fields_give f fs h = rw (is_spaced f fs h, fields_again f fs h) refl

-- ---- how the texts of the definitions are made of fields

abbrev pub tail : List (List ℕ) → List ℕ
tail fs = flat_map field fs

pub spaced_is : (f : List ℕ) (fs : List (List ℕ)) → spaced (f ∷ fs) ≡ f ++ tail fs
spaced_is f [] = sym (append-nil f)
spaced_is f (g ∷ gs) = ap (λ (xs : List ℕ). f ++ (32 ∷ xs)) (spaced_is g gs) ∙ ap (λ (xs : List ℕ). f ++ xs) (sym (flat_map-cons field g gs))

pub sources_are : (ss : List Source) → sources_text ss ≡ tail (map source_text ss)
sources_are [] = refl
sources_are (s ∷ ss) = flat_map-cons (λ (s : Source). field (source_text s)) s ss ∙ ap (λ (xs : List ℕ). field (source_text s) ++ xs) (sources_are ss)
    ∙ sym (flat_map-cons field (source_text s) (map source_text ss))

pub one_field : (f : List ℕ) → tail (f ∷ []) ≡ field f
one_field f = flat_map-cons field f [] ∙ append-nil (field f)

pub two_fields : (f g : List ℕ) → tail (f ∷ g ∷ []) ≡ field f ++ field g
two_fields f g = flat_map-cons field f (g ∷ []) ∙ ap (λ (xs : List ℕ). field f ++ xs) (one_field g)

kind_is_fields : (k : Kind (List ℕ)) → kind_text k ≡ word_text (word_kind k) ++ tail (operand_fields k)
kind_is_fields (kinds.Lit z) = ap (λ (xs : List ℕ). codes "lit" ++ xs) (sym (one_field (literal z)))
kind_is_fields (kinds.Apply1 op) = sym (append-nil (kind_text (kinds.Apply1 op)))
kind_is_fields (kinds.Apply2 op) = sym (append-nil (kind_text (kinds.Apply2 op)))
kind_is_fields kinds.Cond = refl
kind_is_fields kinds.Enter = refl
kind_is_fields (kinds.Merge k) = ap (λ (xs : List ℕ). codes "merge" ++ xs) (sym (one_field (decimal k)))
kind_is_fields (kinds.Fetch a) = ap (λ (xs : List ℕ). codes "fetch" ++ xs) (sym (one_field a))
kind_is_fields (kinds.Store a) = ap (λ (xs : List ℕ). codes "store" ++ xs) (sym (one_field a))
kind_is_fields (kinds.Call f) = ap (λ (xs : List ℕ). codes "call" ++ xs) (sym (one_field f))
kind_is_fields (kinds.StrictCall f) = ap (λ (xs : List ℕ). codes "scall" ++ xs) (sym (one_field f))
kind_is_fields (kinds.Loop f k) = append_assoc (codes "loop") (field f) (field (decimal k)) ∙ ap (λ (xs : List ℕ). codes "loop" ++ xs)
    (sym (two_fields f (decimal k)))

pub node_line_is : (n : Node (List ℕ)) → node_line n ≡ line (spaced (node_fields n))
node_line_is n =
    let r = region_text n.region in
    let w = word_text (word_kind n.kind) in
    let a = tail (operand_fields n.kind) in
    let b = tail (map source_text n.sources) in
    let left : (r ++ field (kind_text n.kind)) ++ sources_text n.sources ≡ (r ++ field (w ++ a))
    ++ b = rw (kind_is_fields n.kind, sources_are n.sources) refl in
    let middle : (r ++ (32 ∷ (w ++ a))) ++ b ≡ r ++ (32 ∷ (w ++ (a ++ b))) = append_assoc r (32 ∷ (w ++ a)) b
    ∙ ap (λ (xs : List ℕ). r ++ (32 ∷ xs)) (append_assoc w a b) in
    let right : spaced (node_fields n) ≡ r ++ (32 ∷ (w ++ (a ++ b))) =
    spaced_is r (w ∷ (operand_fields n.kind ++ map source_text n.sources))
    ∙ ap (λ (xs : List ℕ). r ++ xs) (flat_map-cons field w (operand_fields n.kind ++ map source_text n.sources)
    ∙ ap (λ (xs : List ℕ). field w ++ xs) (flat_map-append field (operand_fields n.kind) (map source_text n.sources))) in
    ap line (left ∙ middle ∙ sym right)

-- ---- what is written is fields

pub sources_fields : (ss : List Source) → All IsWrittenSource ss → AreFields (map source_text ss)
sources_fields [] h = tt
sources_fields (s ∷ ss) h = (source_field s (All-head IsWrittenSource s ss h), sources_fields ss (All-tail IsWrittenSource s ss h))

pub known : (bs : List ℕ) → 0 < length bs → list_all is_plain bs ≡ true → IsField bs
known bs h e = record { some = h; plain = e }

word_field : (w : Word) → IsField (word_text w)
word_field words.Lit = known (codes "lit") (omega arith) refl
word_field (words.Apply1 Neg) = known (codes "neg") (omega arith) refl
word_field (words.Apply1 Not) = known (codes "not") (omega arith) refl
word_field (words.Apply2 op) = known (binary_word op) (ltb-true 0 (length (binary_word op)) (all_binary (λ o. nat_lt 0 (length (binary_word o))) refl op))
    (all_binary (λ o. list_all is_plain (binary_word o)) refl op)
word_field words.Cond = known (codes "cond") (omega arith) refl
word_field words.Enter = known (codes "enter") (omega arith) refl
word_field words.Merge = known (codes "merge") (omega arith) refl
word_field words.Fetch = known (codes "fetch") (omega arith) refl
word_field words.Store = known (codes "store") (omega arith) refl
word_field words.Call = known (codes "call") (omega arith) refl
word_field words.StrictCall = known (codes "scall") (omega arith) refl
word_field words.Loop = known (codes "loop") (omega arith) refl

operands_are_fields : (k : Kind (List ℕ)) → HasOperands k → AreFields (operand_fields k)
operands_are_fields (kinds.Lit z) h = (literal_field z h, tt)
operands_are_fields (kinds.Apply1 op) h = tt
operands_are_fields (kinds.Apply2 op) h = tt
operands_are_fields kinds.Cond h = tt
operands_are_fields kinds.Enter h = tt
operands_are_fields (kinds.Merge k) h = (decimal_field k (omega arith), tt)
operands_are_fields (kinds.Fetch a) h = (name_field a h, tt)
operands_are_fields (kinds.Store a) h = (name_field a h, tt)
operands_are_fields (kinds.Call f) h = (name_field f h, tt)
operands_are_fields (kinds.StrictCall f) h = (name_field f h, tt)
operands_are_fields (kinds.Loop f k) h = (name_field f h.0, (decimal_field k (let q = h.1 in omega arith), tt))

pub node_is_fields : (v : Version) (n : Node (List ℕ)) → HasNodeLine (version_number v) n → AreFields (node_fields n)
node_is_fields v n h = (
  region_field n.region h.0,
  (
    word_field (word_kind n.kind),
    AreFields-append (operand_fields n.kind) (map source_text n.sources)
        (operands_are_fields n.kind (has_line v n.kind (length n.sources) h.1).0) (sources_fields n.sources h.2),
  ),
)
