-- The text of a graph ends at its `main` line: all lines before it are whole, and none of them begins with the byte of an `m`.
use Rattle.std.proofs.Common.{◌≡◌, ℕ, ◌+◌, ◌^◌, ◌<◌, ◌≤◌, ◌⊎◌, inl, inr, eqb, Bool, true, false, List, [], ◌∷◌, ◌++◌, length, get_or, take, map}
use Rattle.std.proofs.Common.{flat_map, All, refl, sym, ap, subst, ◌∙◌, append_assoc, length-append, arith}
use Rattle.std.specs.Prelude.{codes}
use Rattle.std.specs.Fmt.{decimal}
use Rattle.std.proofs.lemmas.Bool.{ne_eqb, eqb-false, false_from_ne_true}
use Rattle.std.proofs.lemmas.List.{get_or-take, get_or_append_left}
use Rattle.std.proofs.lemmas.List.Elements.{All-head, All-tail}
use Rattle.std.proofs.lemmas.Slice.Eq.{bytes_eq-Decides}
use Rattle.semantics.specs.declared.graph.Region.{Region}
use Rattle.semantics.specs.declared.graph.Region.TheVariants.{Root, Arm}
use Rattle.semantics.specs.declared.version.Version.{Version}
use Rattle.semantics.specs.declared.version.Version.TheVariants.{One, Two}
use Rattle.semantics.specs.Versions.{version_number}
use Rattle.semantics.specs.Graph.{Node, Graph}
use Rattle.semantics.specs.Text.{field, line, region_text, node_line, block_text, array_line, text_of, IsName, IsWrittenRegion, HasNodeLine}
use Rattle.semantics.specs.Text.{HasBlockText, HasText}
use Rattle.graph_file.specs.Reading.{Named}
use Rattle.graph_file.proofs.Numbers.{is_numeral_means}
use Rattle.graph_file.proofs.Marks.{decimal_is_numeral, decimal_field}
use Rattle.graph_file.proofs.Names.{source_text, name_field}
use Rattle.graph_file.proofs.Operands.{word_text, word_kind, operand_fields}
use Rattle.graph_file.proofs.Spacing.{spaced, tail, AreFields, spaced_is, is_spaced, no_line_feed, known, sources_fields, node_is_fields, node_line_is}
use Rattle.graph_file.proofs.Texts.{main_fields, array_line_is, block_line_text, block_line_is, out_text, out_line_is}
use Rattle.commands.specs.Input.{begins_main, graph_bytes, graph_length}

-- WHOLE LINES, none of which begins with `main `: all of these bytes belong to the graph, and it goes on after them
abbrev Passes : List ℕ → Type 0
Passes bytes = (rest : List ℕ) → graph_length (bytes ++ rest) ≡ length bytes + graph_length rest

nothing_passes : Passes []
nothing_passes rest = let none : graph_length rest ≡ 0 + graph_length rest = omega arith in none

both_pass : (a b : List ℕ) → Passes a → Passes b → Passes (a ++ b)
both_pass a b first second rest =
    let sum : length a + (length b + graph_length rest) ≡ length (a ++ b) + graph_length rest = omega (arith, length-append a b) in
    ap graph_length (append_assoc a b rest) ∙ first (b ++ rest) ∙ ap (λ (n : ℕ). length a + n) (second rest) ∙ sum

all_pass : {X : Type 0} (text : X → List ℕ) (P : X → Type 0) → ((x : X) → P x → Passes (text x)) → (xs : List X) → All P xs → Passes (flat_map text xs)
all_pass text P each [] h = nothing_passes
all_pass text P each (x ∷ xs) h =
    both_pass (text x) (flat_map text xs) (each x (All-head P x xs h)) (all_pass text P each xs (All-tail P x xs h))

-- BYTES OF A LINE
other_byte : (is_main : Bool) (b : ℕ) (bytes : List ℕ) → eqb b 10 ≡ false → graph_bytes is_main (b ∷ bytes) ≡ graph_bytes is_main bytes + 1
unfolding graph_bytes
other_byte is_main b bytes e = rw e refl

up_to_feed : (is_main : Bool) (l rest : List ℕ) → All (λ b. eqb b 10 ≡ false) l
    → graph_bytes is_main (l ++ 10 ∷ rest) ≡ length l + graph_bytes is_main (10 ∷ rest)
up_to_feed is_main [] rest h = let none : graph_bytes is_main (10 ∷ rest) ≡ 0 + graph_bytes is_main (10 ∷ rest) = omega arith in none
up_to_feed is_main (b ∷ l) rest h =
    let one = other_byte is_main b (l ++ 10 ∷ rest) (All-head (λ b. eqb b 10 ≡ false) b l h) in
    let more = up_to_feed is_main l rest (All-tail (λ b. eqb b 10 ≡ false) b l h) in
    omega (arith, one, more)

after_feed : (rest : List ℕ) → graph_bytes false (10 ∷ rest) ≡ graph_length rest + 1
unfolding graph_bytes
after_feed rest = refl

at_end : (rest : List ℕ) → graph_bytes true (10 ∷ rest) ≡ 1
unfolding graph_bytes
at_end rest = refl

-- what begins with another byte
no_main : (bytes : List ℕ) → eqb (get_or bytes 0 0) 109 ≡ false → begins_main bytes ≡ false
no_main bytes other =
    false_from_ne_true (begins_main bytes)
    (λ e. eqb-false (get_or bytes 0 0) 109 other
    (sym (get_or-take 5 bytes 0 0 (omega arith)) ∙ ap (λ (xs : List ℕ). get_or xs 0 0) ((bytes_eq-Decides (take 5 bytes) (codes "main ")).0 e)))

line_passes : (l : List ℕ) → 0 < length l → eqb (get_or l 0 0) 109 ≡ false → All (λ b. eqb b 10 ≡ false) l → Passes (line l)
line_passes l some other feeds rest =
    let starts : get_or (l ++ 10 ∷ rest) 0 0 ≡ get_or l 0 0 = get_or_append_left l (10 ∷ rest) 0 0 some in
    let plain : begins_main (l ++ 10 ∷ rest) ≡ false = no_main (l ++ 10 ∷ rest) (ap (λ (b : ℕ). eqb b 109) starts ∙ other) in
    let counted = up_to_feed false l rest feeds in
    let after = after_feed rest in
    let long = length-append l (10 ∷ []) in
    let all : graph_bytes false (l ++ 10 ∷ rest) ≡ length (l ++ 10 ∷ []) + graph_length rest = omega (arith, counted, after, long) in
    ap graph_length (append_assoc l (10 ∷ []) rest) ∙ ap (λ (t : Bool). graph_bytes t (l ++ 10 ∷ rest)) plain ∙ all

-- a line of fields, of which the first begins with another byte
fields_pass : (f : List ℕ) (fs : List (List ℕ)) → AreFields (f ∷ fs) → eqb (get_or f 0 0) 109 ≡ false → Passes (line (spaced (f ∷ fs)))
fields_pass f fs are other =
    let some = are.0.some in
    let starts : get_or (spaced (f ∷ fs)) 0 0 ≡ get_or f 0 0 =
    ap (λ (xs : List ℕ). get_or xs 0 0) (spaced_is f fs) ∙ get_or_append_left f (tail fs) 0 0 some in
    let long : length (spaced (f ∷ fs)) ≡ length f + length (tail fs) = ap (λ (xs : List ℕ). length xs) (spaced_is f fs) ∙ length-append f (tail fs) in
    line_passes (spaced (f ∷ fs)) (omega (arith, some, long)) (ap (λ (b : ℕ). eqb b 109) starts ∙ other)
    (no_line_feed true (spaced (f ∷ fs)) (is_spaced f fs are))

-- THE LINES OF A GRAPH before its last one
header_passes : (v : ℕ) → v < 2 ^ 64 → Passes (line (codes "etsgraph" ++ field (decimal v)))
header_passes v few = fields_pass (codes "etsgraph") (decimal v ∷ []) (known (codes "etsgraph") (omega arith) refl, (decimal_field v few, tt)) refl

array_passes : (a : List ℕ × ℕ) → IsName a.0 × (1 ≤ a.1) × (a.1 ≤ 65536) → Passes (array_line a)
array_passes a h =
    let few = h.2 in
    subst Passes (sym (array_line_is a))
    (fields_pass (codes "array") (a.0 ∷ decimal a.1 ∷ [])
    (known (codes "array") (omega arith) refl, (name_field a.0 h.0, (decimal_field a.1 (omega (arith, few)), tt))) refl)

number_first : (k : ℕ) (more : List ℕ) → k < 2 ^ 32 → eqb (get_or (decimal k ++ more) 0 0) 109 ≡ false
number_first k more few =
    let numeral = is_numeral_means (decimal k) (decimal_is_numeral k (omega (arith, few))) in
    let digit = numeral.first in
    let starts : get_or (decimal k ++ more) 0 0 ≡ get_or (decimal k) 0 0 = get_or_append_left (decimal k) more 0 0 numeral.some in
    ap (λ (b : ℕ). eqb b 109) starts ∙ ne_eqb (get_or (decimal k) 0 0) 109 (λ e. absurd (omega (arith, digit, e)))

region_first : (r : Region) → IsWrittenRegion r → eqb (get_or (region_text r) 0 0) 109 ≡ false
region_first Root h = refl
region_first (Arm k true) h = number_first k (codes "+") h
region_first (Arm k false) h = number_first k (codes "-") h

node_passes : (v : Version) (n : Node (List ℕ)) → HasNodeLine (version_number v) n → Passes (node_line n)
node_passes v n h =
    subst Passes (sym (node_line_is n))
    (fields_pass (region_text n.region) (word_text (word_kind n.kind) ∷ (operand_fields n.kind ++ map source_text n.sources)) (node_is_fields v n h)
    (region_first n.region h.0))

block_passes : (v : Version) (b : Named) → HasBlockText (version_number v) b → Passes (block_text b)
block_passes v b h =
    let few_inputs = h.inputs in
    let few_outputs = h.outputs in
    let head : Passes (block_line_text b) =
    subst Passes (sym (block_line_is b))
    (fields_pass (codes "block") (b.0 ∷ decimal b.1.inputs ∷ decimal b.1.outputs ∷ []) (
      known (codes "block") (omega arith) refl,
      (name_field b.0 h.name, (decimal_field b.1.inputs (omega (arith, few_inputs)), (decimal_field b.1.outputs (omega (arith, few_outputs)), tt))),
    ) refl) in
    let nodes : Passes (flat_map node_line b.1.nodes) = all_pass node_line (HasNodeLine (version_number v)) (node_passes v) b.1.nodes h.nodes in
    let out : Passes (out_text b.1.results) =
    subst Passes (sym (out_line_is b.1.results))
    (fields_pass (codes "out") (map source_text b.1.results) (known (codes "out") (omega arith) refl, sources_fields b.1.results h.results.1) refl) in
    let last : Passes (line (codes "end")) = fields_pass (codes "end") [] (known (codes "end") (omega arith) refl, tt) refl in
    both_pass (block_line_text b ++ flat_map node_line b.1.nodes ++ out_text b.1.results) (line (codes "end"))
    (both_pass (block_line_text b ++ flat_map node_line b.1.nodes) (out_text b.1.results)
    (both_pass (block_line_text b) (flat_map node_line b.1.nodes) head nodes) out) last

small_version : (v : ℕ) → (v ≡ 1) ⊎ (v ≡ 2) → v < 2 ^ 64
small_version v (inl e) = omega (arith, e)
small_version v (inr e) = omega (arith, e)

blocks_pass : (v : ℕ) (bs : List Named) → (v ≡ 1) ⊎ (v ≡ 2) → All (HasBlockText v) bs → Passes (flat_map block_text bs)
blocks_pass v bs (inl e) h =
    all_pass block_text (HasBlockText (version_number One)) (block_passes One) bs (subst (λ (n : ℕ). All (HasBlockText n) bs) e h)
blocks_pass v bs (inr e) h =
    all_pass block_text (HasBlockText (version_number Two)) (block_passes Two) bs (subst (λ (n : ℕ). All (HasBlockText n) bs) e h)

abbrev before_main : Graph → List ℕ
before_main g = line (codes "etsgraph" ++ field (decimal g.version)) ++ flat_map array_line g.arrays ++ flat_map block_text g.blocks

before_main_passes : (g : Graph) → HasText g → Passes (before_main g)
before_main_passes g has =
    let header = line (codes "etsgraph" ++ field (decimal g.version)) in
    let arrays : Passes (flat_map array_line g.arrays) =
    all_pass array_line (λ (a : List ℕ × ℕ). IsName a.0 × (1 ≤ a.1) × (a.1 ≤ 65536)) array_passes g.arrays has.arrays in
    both_pass (header ++ flat_map array_line g.arrays) (flat_map block_text g.blocks)
    (both_pass header (flat_map array_line g.arrays) (header_passes g.version (small_version g.version has.version)) arrays)
    (blocks_pass g.version g.blocks has.version has.blocks)

-- ITS LAST LINE
abbrev main_line : List ℕ → List ℕ
main_line m = codes "main" ++ field m

main_ends : (m rest : List ℕ) → IsName m → graph_length (line (main_line m) ++ rest) ≡ length (line (main_line m))
main_ends m rest name =
    let l : List ℕ = main_line m in
    let are : AreFields (main_fields m) = (known (codes "main") (omega arith) refl, (name_field m name, tt)) in
    let feeds = no_line_feed true (spaced (main_fields m)) (is_spaced (codes "main") (m ∷ []) are) in
    let begins : begins_main (l ++ 10 ∷ rest) ≡ true = (bytes_eq-Decides (take 5 (l ++ 10 ∷ rest)) (codes "main ")).1 refl in
    let counted : graph_bytes true (l ++ 10 ∷ rest) ≡ length l + graph_bytes true (10 ∷ rest) = up_to_feed true l rest feeds in
    let ends = at_end rest in
    let long = length-append l (10 ∷ []) in
    let all : graph_bytes true (l ++ 10 ∷ rest) ≡ length (l ++ 10 ∷ []) = omega (arith, counted, ends, long) in
    ap graph_length (append_assoc l (10 ∷ []) rest) ∙ ap (λ (t : Bool). graph_bytes t (l ++ 10 ∷ rest)) begins ∙ all

-- THE TEXT OF A GRAPH, and what follows it
pub texts_end_at_main : (g : Graph) (rest : List ℕ) → HasText g → graph_length (text_of g ++ rest) ≡ length (text_of g)
texts_end_at_main g rest has =
    let front = before_main g in
    let last = line (main_line g.main) in
    ap graph_length (append_assoc front last rest) ∙ before_main_passes g has (last ++ rest) ∙ ap (λ (n : ℕ). length front + n) (main_ends g.main rest has.main)
    ∙ sym (length-append front last)
