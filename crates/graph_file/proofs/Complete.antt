-- What is spelled so is read.
use Rattle.std.proofs.Common.{◌≡◌, ℕ, ◌+◌, ◌<◌, ◌≤◌, not, eqb, Bool, true, false, List, [], ◌∷◌, ◌++◌, length, map, All, Some, None, Ok, refl, sym}
use Rattle.std.proofs.Common.{ap, subst, ◌∙◌, append_assoc, arith, inl, inr}
use Rattle.std.specs.Prelude.{◌⊎◌, ⊤, codes, flat_map}
use Rattle.std.specs.Fmt.{decimal}
use Rattle.std.specs.Str.{bytes_eq}
use Rattle.std.specs.List.{sum_by}
use Rattle.std.proofs.lemmas.Bool.{lt-ltb, le-leb, lt-leb, ne_eqb, not_from_false}
use Rattle.std.proofs.lemmas.List.{append-nil, length-append, length-map}
use Rattle.std.proofs.lemmas.List.Concat.{flat_map-cons, flat_map-append}
use Rattle.std.proofs.lemmas.List.Elements.{All-head, All-tail}
use Rattle.std.proofs.lemmas.List.Sums.{sum-map, sum_by-append}
use Rattle.std.proofs.lemmas.List.Splits.{slice_split_at}
use Rattle.std.proofs.lemmas.Slice.Eq.{bytes_eq-Decides}
use Rattle.semantics.specs.declared.graph.Region.{Region}
use Rattle.semantics.specs.declared.graph.Source.{Source}
use Rattle.semantics.specs.Graph.{Node, Graph}
use Rattle.semantics.specs.Text.{line, node_line as node_text, array_line as array_text, block_text, text_of, region_text, IsName, IsWrittenRegion}
use Rattle.semantics.specs.Text.{IsWrittenSource, HasNodeLine, HasBlockText, HasText}
use Rattle.semantics.specs.Versions.{version_number}
use Rattle.semantics.specs.declared.version.Version.{Version}
use Rattle.semantics.specs.declared.version.Version.TheVariants.{One, Two}
use Rattle.graph_file.specs.declared.lines.Place.{Place}
use Rattle.graph_file.specs.declared.lines.Place.TheVariants.{Arrays, Blocks, Nodes, Closing, Done}
use Rattle.graph_file.specs.Giving.{◌>>=◌}
use Rattle.graph_file.specs.Lines.{parts}
use Rattle.graph_file.specs.Found.{Found}
use Rattle.graph_file.specs.Fields.{field_from, region_of}
use Rattle.graph_file.specs.Reading.{Named, len_from, count_from, array_line, block_line, main_line, out_line, node_line, outside, inside, closing}
use Rattle.graph_file.specs.Reading.{line_from, end_from, lines_from, header, body_from, text_from}
use Rattle.graph_file.proofs.Names.{source_text, name_field, region_again}
use Rattle.graph_file.proofs.Marks.{decimal_field}
use Rattle.graph_file.proofs.Operands.{word_text, word_kind, operand_fields, number_gives, name_gives, sources_give}
use Rattle.graph_file.proofs.OneNode.{node_fields, node_gives}
use Rattle.graph_file.proofs.Spacing.{spaced, AreFields, known, fields_give, is_spaced, no_line_feed, node_line_is, node_is_fields, sources_fields}
use Rattle.graph_file.proofs.Texts.{array_fields, block_fields, out_fields, end_fields, main_fields, array_line_is, block_line_is, out_text, out_line_is}
use Rattle.graph_file.proofs.Sound.{header_is}

abbrev State : Type 0
State = Found × Place Named (List ℕ)

-- ---- what is on the lines

array_are : (a : List ℕ × ℕ) → IsName a.0 → a.1 ≤ 65536 → AreFields (array_fields a)
array_are a n h = (known (codes "array") (omega arith) refl, (name_field a.0 n, (decimal_field a.1 (omega arith), tt)))

block_are : (b : Named) → IsName b.0 → b.1.inputs ≤ 16 → b.1.outputs ≤ 16 → AreFields (block_fields b)
block_are b n i o = (
  known (codes "block") (omega arith) refl,
  (name_field b.0 n, (decimal_field b.1.inputs (omega arith), (decimal_field b.1.outputs (omega arith), tt))),
)

out_are : (ss : List Source) → All IsWrittenSource ss → AreFields (out_fields ss)
out_are ss h = (known (codes "out") (omega arith) refl, sources_fields ss h)

end_are : AreFields end_fields
end_are = (known (codes "end") (omega arith) refl, tt)

main_are : (m : List ℕ) → IsName m → AreFields (main_fields m)
main_are m h = (known (codes "main") (omega arith) refl, (name_field m h, tt))

-- ---- one line

len_gives : (cells n : ℕ) (fs : List (List ℕ)) → 1 ≤ n → cells + n ≤ 65536 → len_from cells (decimal n ∷ fs) ≡ Ok (n, fs)
unfolding len_from
len_gives cells n fs some room =
    let k : not (eqb n 0) ≡ true = not_from_false (eqb n 0) (ne_eqb n 0 (λ z. absurd (omega arith))) in
    rw (number_gives n fs (omega arith), k, le-leb (cells + n) 65536 room) refl

count_gives : (n : ℕ) (fs : List (List ℕ)) → n ≤ 16 → count_from (decimal n ∷ fs) ≡ Ok (n, fs)
unfolding count_from
count_gives n fs few = rw (number_gives n fs (omega arith), le-leb n 16 few) refl

abbrev with_array : Found → List ℕ × ℕ → Found
with_array f a = record { version = f.version; arrays = f.arrays ++ a ∷ []; cells = f.cells + a.1; blocks = f.blocks }

array_gives : (f : Found) (a : List ℕ × ℕ) → IsName a.0 → 1 ≤ a.1 → f.cells + a.1 ≤ 65536 → length f.arrays < 64
    → line_from f Arrays (spaced (array_fields a)) ≡ Ok (with_array f a, Arrays)
unfolding line_from outside field_from array_line
array_gives f a name some room few =
    rw (
      fields_give (codes "array") (a.0 ∷ decimal a.1 ∷ []) (array_are a name (omega arith)),
      lt-ltb (length f.arrays) 64 few,
      name_gives a.0
          (decimal a.1 ∷ []) name,
      len_gives f.cells a.1 [] some room,
    ) refl

abbrev bare : Named → Named
bare b = (b.0, record { inputs = b.1.inputs; outputs = b.1.outputs; nodes = []; results = [] })

block_gives_line : (f : Found) (b : Named) → IsName b.0 → b.1.inputs ≤ 16 → b.1.outputs ≤ 16 → length f.blocks < 256
    → block_line f (b.0 ∷ decimal b.1.inputs ∷ decimal b.1.outputs ∷ []) ≡ Ok (f, Nodes (bare b))
unfolding block_line
block_gives_line f b name i o few =
    rw (
      lt-ltb (length f.blocks) 256 few,
      name_gives b.0 (decimal b.1.inputs ∷ decimal b.1.outputs ∷ []) name,
      count_gives b.1.inputs
          (decimal b.1.outputs ∷ []) i,
      count_gives b.1.outputs [] o,
    ) refl

-- a place outside a block
abbrev IsOutside : Place Named (List ℕ) → Type 0
IsOutside Arrays = ⊤
IsOutside Blocks = ⊤
IsOutside (Nodes b) = ⊥
IsOutside (Closing b) = ⊥
IsOutside (Done m) = ⊥

block_gives : (f : Found) (p : Place Named (List ℕ)) (b : Named) → IsOutside p → IsName b.0 → b.1.inputs ≤ 16 → b.1.outputs ≤ 16
    → length f.blocks < 256 → line_from f p (spaced (block_fields b)) ≡ Ok (f, Nodes (bare b))
unfolding line_from outside field_from
block_gives f Arrays b out name i o few = rw (fields_give (codes "block") (b.0 ∷ decimal b.1.inputs ∷ decimal b.1.outputs ∷ [])
    (block_are b name i o)) (block_gives_line f b name i o few)
block_gives f Blocks b out name i o few = rw (fields_give (codes "block") (b.0 ∷ decimal b.1.inputs ∷ decimal b.1.outputs ∷ [])
    (block_are b name i o)) (block_gives_line f b name i o few)
block_gives f (Nodes x) b out name i o few = absurd out
block_gives f (Closing x) b out name i o few = absurd out
block_gives f (Done m) b out name i o few = absurd out

main_gives_line : (f : Found) (m : List ℕ) → IsName m → main_line f (m ∷ []) ≡ Ok (f, Done m)
unfolding main_line
main_gives_line f m name = rw (name_gives m [] name) refl

main_gives : (f : Found) (p : Place Named (List ℕ)) (m : List ℕ) → IsOutside p → IsName m → line_from f p (spaced (main_fields m)) ≡ Ok (f, Done m)
unfolding line_from outside field_from
main_gives f Arrays m out name = rw (fields_give (codes "main") (m ∷ []) (main_are m name)) (main_gives_line f m name)
main_gives f Blocks m out name = rw (fields_give (codes "main") (m ∷ []) (main_are m name)) (main_gives_line f m name)
main_gives f (Nodes x) m out name = absurd out
main_gives f (Closing x) m out name = absurd out
main_gives f (Done x) m out name = absurd out

abbrev with_node : Named → Node (List ℕ) → Named
with_node b n = (b.0, record { inputs = b.1.inputs; outputs = b.1.outputs; nodes = b.1.nodes ++ n ∷ []; results = b.1.results })

no_region : region_of (codes "out") ≡ None
unfolding region_of
no_region = refl

not_out : (r : Region) → IsWrittenRegion r → bytes_eq (region_text r) (codes "out") ≡ false
not_out r h = go (bytes_eq (region_text r) (codes "out")) refl
  where
    go : (t : Bool) → bytes_eq (region_text r) (codes "out") ≡ t → bytes_eq (region_text r) (codes "out") ≡ false
    go true t =
        let same = (bytes_eq-Decides (region_text r) (codes "out")).0 t in
        let k : None ≡ Some r = sym no_region ∙ ap region_of (sym same) ∙ region_again r h in
        absurd cc
    go false t = t

node_gives_line : (f : Found) (b : Named) (n : Node (List ℕ)) → HasNodeLine (version_number f.version) n → b.1.inputs + length b.1.nodes < 1024
    → node_line f b (node_fields n) ≡ Ok (f, Nodes (with_node b n))
unfolding node_line
node_gives_line f b n h room = rw (lt-leb 1024 (b.1.inputs + length b.1.nodes) room, node_gives f.version n h) refl

one_node : (f : Found) (b : Named) (n : Node (List ℕ)) → HasNodeLine (version_number f.version) n → b.1.inputs + length b.1.nodes < 1024
    → line_from f (Nodes b) (spaced (node_fields n)) ≡ Ok (f, Nodes (with_node b n))
unfolding line_from inside field_from
one_node f b n h room =
    let fs = node_fields n in
    let given = ap (λ r. r >>= inside f b) (fields_give (region_text n.region) (word_text (word_kind n.kind)
    ∷ (operand_fields n.kind ++ map source_text n.sources)) (node_is_fields f.version n h)) in
    given ∙ rw (not_out n.region h.0) (node_gives_line f b n h room)

abbrev with_results : Named → List Source → Named
with_results b ss = (b.0, record { inputs = b.1.inputs; outputs = b.1.outputs; nodes = b.1.nodes; results = ss })

out_gives_line : (f : Found) (b : Named) (ss : List Source) → All IsWrittenSource ss → length ss ≤ 16 → out_line f b (map source_text ss)
    ≡ Ok (f, Closing (with_results b ss))
unfolding out_line
out_gives_line f b ss h few = rw (lt-ltb (length (map source_text ss)) 17 (omega (arith, length-map ss source_text)), sources_give ss h) refl

out_gives : (f : Found) (b : Named) (ss : List Source) → All IsWrittenSource ss → length ss ≤ 16 → line_from f (Nodes b) (spaced (out_fields ss))
    ≡ Ok (f, Closing (with_results b ss))
unfolding line_from inside field_from
out_gives f b ss h few = ap (λ r. r >>= inside f b) (fields_give (codes "out") (map source_text ss) (out_are ss h)) ∙ out_gives_line f b ss h few

abbrev with_block : Found → Named → Found
with_block f b = record { version = f.version; arrays = f.arrays; cells = f.cells; blocks = f.blocks ++ b ∷ [] }

end_gives : (f : Found) (b : Named) → line_from f (Closing b) (spaced end_fields) ≡ Ok (with_block f b, Blocks)
unfolding line_from closing field_from
end_gives f b = ap (λ r. r >>= closing f b) (fields_give (codes "end") [] end_are)

-- ---- several lines

-- reading these lines in the one state goes on in the other
abbrev Goes : Found → Place Named (List ℕ) → List (List ℕ) → Found → Place Named (List ℕ) → Type 0
Goes f p ls g q = (n : ℕ) (r : List ℕ) (rs : List (List ℕ)) → (m : ℕ) × (lines_from n f p (ls ++ (r ∷ rs)) ≡ lines_from m g q (r ∷ rs))

goes_none : (f : Found) (p : Place Named (List ℕ)) → Goes f p [] f p
goes_none f p n r rs = (n, refl)

goes_one : (f : Found) (p : Place Named (List ℕ)) (l : List ℕ) (g : Found) (q : Place Named (List ℕ)) → line_from f p l ≡ Ok (g, q) → Goes f p (l ∷ []) g q
unfolding lines_from
goes_one f p l g q e n r rs = (n + 1, rw e refl)

goes_then : (f : Found) (p : Place Named (List ℕ)) (ls : List (List ℕ)) (g : Found) (q : Place Named (List ℕ)) (ms : List (List ℕ)) (h : Found)
    (o : Place Named (List ℕ)) → Goes f p ls g q → Goes g q ms h o → Goes f p (ls ++ ms) h o
goes_then f p ls g q [] h o a b n r rs =
    let x = a n r rs in
    let y = b x.0 r rs in
    (y.0, ap (λ (zs : List (List ℕ)). lines_from n f p (zs ++ (r ∷ rs))) (append-nil ls) ∙ x.1 ∙ y.1)
goes_then f p ls g q (m ∷ ms) h o a b n r rs =
    let x = a n m (ms ++ (r ∷ rs)) in
    let y = b x.0 r rs in
    (y.0, ap (lines_from n f p) (append_assoc ls (m ∷ ms) (r ∷ rs)) ∙ x.1 ∙ y.1)

abbrev array_lines : List (List ℕ × ℕ) → List (List ℕ)
array_lines xs = map (λ (a : List ℕ × ℕ). spaced (array_fields a)) xs

abbrev IsArray : List ℕ × ℕ → Type 0
IsArray a = IsName a.0 × (1 ≤ a.1) × (a.1 ≤ 65536)

abbrev with_arrays : Found → List (List ℕ × ℕ) → Found
with_arrays f xs = record { version = f.version; arrays = f.arrays ++ xs; cells = f.cells + sum_by (λ (a : List ℕ × ℕ). a.1) xs; blocks = f.blocks }

arrays_go : (f : Found) (xs : List (List ℕ × ℕ)) → All IsArray xs → length f.arrays + length xs ≤ 64 → f.cells + sum_by (λ (a : List ℕ × ℕ). a.1) xs ≤
    65536 → Goes f Arrays (array_lines xs) (with_arrays f xs) Arrays
arrays_go f [] h few room =
    let none : f ≡ with_arrays f [] = same f in
    subst (λ (g : Found). Goes f Arrays [] g Arrays) none (goes_none f Arrays)
  where
    same : (f : Found) → f ≡ with_arrays f []
    same f =
        let c : f.cells + 0 ≡ f.cells = omega arith in
        ap (λ (ys : List (List ℕ × ℕ)). record f { arrays = ys }) (sym (append-nil f.arrays))
        ∙ ap (λ (n : ℕ). record f { arrays = f.arrays ++ []; cells = n }) (sym c)
arrays_go f (a ∷ xs) h few room =
    let one = All-head IsArray a xs h in
    let sum-is : sum_by (λ (a : List ℕ × ℕ). a.1) (a ∷ xs) ≡ a.1 + sum_by (λ (a : List ℕ × ℕ). a.1) xs = sum_by-append (λ (a : List ℕ × ℕ). a.1)
    (a ∷ []) xs ∙ ap (λ (n : ℕ). n + sum_by (λ (a : List ℕ × ℕ). a.1) xs) (let k : 0 + a.1 ≡ a.1 = omega arith in k) in
    let first = goes_one f Arrays (spaced (array_fields a)) (with_array f a) Arrays (array_gives f a one.0 one.1 (omega (arith, room, sum-is)) (omega arith)) in
    let rest = arrays_go (with_array f a) xs (All-tail IsArray a xs h) (omega (arith, few, length-append f.arrays (a ∷ []))) (omega (arith, room, sum-is)) in
    let both = goes_then f Arrays (spaced (array_fields a) ∷ []) (with_array f a) Arrays (array_lines xs) (with_arrays (with_array f a) xs) Arrays first rest in
    let regroup : with_arrays (with_array f a) xs ≡ with_arrays f (a ∷ xs) =
    ap (λ (ys : List (List ℕ × ℕ)). record f { arrays = ys; cells = (f.cells + a.1) + sum_by (λ (a : List ℕ × ℕ). a.1) xs }) (append_assoc f.arrays (a ∷ []) xs)
    ∙ ap (λ (n : ℕ). record f { arrays = f.arrays ++ (a ∷ xs); cells = n }) (let k : (f.cells + a.1) + sum_by (λ (a : List ℕ × ℕ). a.1) xs
    ≡ f.cells + sum_by (λ (a : List ℕ × ℕ). a.1) (a ∷ xs) = omega (arith, sum-is) in k) in
    subst (λ (g : Found). Goes f Arrays (array_lines (a ∷ xs)) g Arrays) regroup both

abbrev node_lines : List (Node (List ℕ)) → List (List ℕ)
node_lines ns = map (λ (n : Node (List ℕ)). spaced (node_fields n)) ns

abbrev with_nodes : Named → List (Node (List ℕ)) → Named
with_nodes b ns = (b.0, record { inputs = b.1.inputs; outputs = b.1.outputs; nodes = b.1.nodes ++ ns; results = b.1.results })

nodes_go : (f : Found) (b : Named) (ns : List (Node (List ℕ))) → All (HasNodeLine (version_number f.version)) ns
    → b.1.inputs + (length b.1.nodes + length ns) ≤ 1024 → Goes f (Nodes b) (node_lines ns) f (Nodes (with_nodes b ns))
nodes_go f b [] h room = subst (λ (ys : List (Node (List ℕ))). Goes f (Nodes b) [] f (Nodes (b.0, record b.1 { nodes = ys })))
    (sym (append-nil b.1.nodes)) (goes_none f (Nodes b))
nodes_go f b (n ∷ ns) h room =
    let first = goes_one f (Nodes b) (spaced (node_fields n)) f (Nodes (with_node b n))
    (one_node f b n (All-head (HasNodeLine (version_number f.version)) n ns h) (omega arith)) in
    let rest = nodes_go f (with_node b n) ns (All-tail (HasNodeLine (version_number f.version)) n ns h)
    (omega (arith, room, length-append b.1.nodes (n ∷ []))) in
    let both = goes_then f (Nodes b) (spaced (node_fields n) ∷ []) f (Nodes (with_node b n)) (node_lines ns) f (Nodes (with_nodes (with_node b n) ns))
    first rest in
    subst (λ (ys : List (Node (List ℕ))). Goes f (Nodes b) (node_lines (n ∷ ns)) f (Nodes (b.0, record b.1 { nodes = ys })))
    (append_assoc b.1.nodes (n ∷ []) ns) both

abbrev block_lines : Named → List (List ℕ)
block_lines b = (spaced (block_fields b) ∷ node_lines b.1.nodes) ++ (spaced (out_fields b.1.results) ∷ spaced end_fields ∷ [])

block_goes : (f : Found) (p : Place Named (List ℕ)) (b : Named) → IsOutside p → HasBlockText (version_number f.version) b → length f.blocks < 256
    → Goes f p (block_lines b) (with_block f b) Blocks
block_goes f p b out h few =
    let a = goes_one f p (spaced (block_fields b)) f (Nodes (bare b)) (block_gives f p b out h.name h.inputs h.outputs few) in
    let c = nodes_go f (bare b) b.1.nodes h.nodes (let k = h.size in omega arith) in
    let ac = goes_then f p (spaced (block_fields b) ∷ []) f (Nodes (bare b)) (node_lines b.1.nodes) f (Nodes (with_nodes (bare b) b.1.nodes)) a c in
    let d = goes_one f (Nodes (with_nodes (bare b) b.1.nodes)) (spaced (out_fields b.1.results)) f (Closing b)
    (out_gives f (with_nodes (bare b) b.1.nodes) b.1.results h.results.1 h.results.0) in
    let e = goes_one f (Closing b) (spaced end_fields) (with_block f b) Blocks (end_gives f b) in
    let de = goes_then f (Nodes (with_nodes (bare b) b.1.nodes)) (spaced (out_fields b.1.results) ∷ []) f (Closing b) (spaced end_fields ∷ [])
    (with_block f b) Blocks d e in
    goes_then f p (spaced (block_fields b) ∷ node_lines b.1.nodes) f (Nodes (with_nodes (bare b) b.1.nodes)) (spaced (out_fields b.1.results)
    ∷ spaced end_fields ∷ []) (with_block f b) Blocks ac de

abbrev with_blocks : Found → List Named → Found
with_blocks f bs = record { version = f.version; arrays = f.arrays; cells = f.cells; blocks = f.blocks ++ bs }

-- the blocks and the `main` line
rest_goes : (f : Found) (p : Place Named (List ℕ)) (bs : List Named) (m : List ℕ) → IsOutside p → All (HasBlockText (version_number f.version)) bs
    → length f.blocks + length bs ≤ 256 → IsName m → Goes f p (flat_map block_lines bs ++ (spaced (main_fields m) ∷ [])) (with_blocks f bs) (Done m)
rest_goes f p [] m out h few name =
    let none : f ≡ with_blocks f [] = ap (λ (ys : List Named). record f { blocks = ys }) (sym (append-nil f.blocks)) in
    subst (λ (g : Found). Goes f p (spaced (main_fields m) ∷ []) g (Done m)) none (goes_one f p (spaced (main_fields m)) f (Done m) (main_gives f p m out name))
rest_goes f p (b ∷ bs) m out h few name =
    let first = block_goes f p b out (All-head (HasBlockText (version_number f.version)) b bs h) (omega arith) in
    let rest = rest_goes (with_block f b) Blocks bs m tt (All-tail (HasBlockText (version_number f.version)) b bs h)
    (omega (arith, few, length-append f.blocks (b ∷ []))) name in
    let tail = flat_map block_lines bs ++ (spaced (main_fields m) ∷ []) in
    let both = goes_then f p (block_lines b) (with_block f b) Blocks tail (with_blocks (with_block f b) bs) (Done m) first rest in
    let lines-are : block_lines b ++ tail ≡ flat_map block_lines (b ∷ bs)
    ++ (spaced (main_fields m) ∷ []) = sym (append_assoc (block_lines b) (flat_map block_lines bs) (spaced (main_fields m) ∷ []))
    ∙ ap (λ (ys : List (List ℕ)). ys ++ (spaced (main_fields m) ∷ [])) (sym (flat_map-cons block_lines b bs)) in
    let found-is : with_blocks (with_block f b) bs ≡ with_blocks f (b ∷ bs) = ap (λ (ys : List Named). record f { blocks = ys })
    (append_assoc f.blocks (b ∷ []) bs) in
    subst (λ (g : Found). Goes f p (flat_map block_lines (b ∷ bs) ++ (spaced (main_fields m) ∷ [])) g (Done m)) found-is
    (subst (λ (ls : List (List ℕ)). Goes f p ls (with_blocks (with_block f b) bs) (Done m)) lines-are both)

-- ---- the text as lines

abbrev lines_text : List (List ℕ) → List ℕ
lines_text ls = flat_map line ls

abbrev NoFeeds : List (List ℕ) → Type 0
NoFeeds [] = ⊤
NoFeeds (l ∷ ls) = All (λ b. eqb b 10 ≡ false) l × NoFeeds ls

NoFeeds-append : (ls ms : List (List ℕ)) → NoFeeds ls → NoFeeds ms → NoFeeds (ls ++ ms)
NoFeeds-append [] ms h k = k
NoFeeds-append (l ∷ ls) ms h k = (h.0, NoFeeds-append ls ms h.1 k)

parts_are : (ls : List (List ℕ)) → NoFeeds ls → parts 10 (lines_text ls) ≡ ls ++ ([] ∷ [])
parts_are [] h = refl
parts_are (l ∷ ls) h =
    ap (parts 10) (flat_map-cons line l ls ∙ append_assoc l (10 ∷ []) (lines_text ls)) ∙ slice_split_at (λ b. eqb b 10) l 10 (lines_text ls) h.0 refl
    ∙ ap (λ (ys : List (List ℕ)). l ∷ ys) (parts_are ls h.1)

one_feeds : (f : List ℕ) (fs : List (List ℕ)) → AreFields (f ∷ fs) → All (λ b. eqb b 10 ≡ false) (spaced (f ∷ fs))
one_feeds f fs h = no_line_feed true (spaced (f ∷ fs)) (is_spaced f fs h)

arrays_feed : (xs : List (List ℕ × ℕ)) → All IsArray xs → NoFeeds (array_lines xs)
arrays_feed [] h = tt
arrays_feed (a ∷ xs) h = let one = All-head IsArray a xs h
    in (one_feeds (codes "array") (a.0 ∷ decimal a.1 ∷ []) (array_are a one.0 one.2), arrays_feed xs (All-tail IsArray a xs h))

nodes_feed : (v : Version) (ns : List (Node (List ℕ))) → All (HasNodeLine (version_number v)) ns → NoFeeds (node_lines ns)
nodes_feed v [] h = tt
nodes_feed v (n ∷ ns) h = (
  one_feeds (region_text n.region) (word_text (word_kind n.kind) ∷ (operand_fields n.kind ++ map source_text n.sources))
      (node_is_fields v n (All-head (HasNodeLine (version_number v)) n ns h)),
  nodes_feed v ns (All-tail (HasNodeLine (version_number v)) n ns h),
)

block_feeds : (v : Version) (b : Named) → HasBlockText (version_number v) b → NoFeeds (block_lines b)
block_feeds v b h = NoFeeds-append (spaced (block_fields b) ∷ node_lines b.1.nodes) (spaced (out_fields b.1.results) ∷ spaced end_fields ∷ [])
    (one_feeds (codes "block") (b.0 ∷ decimal b.1.inputs ∷ decimal b.1.outputs ∷ []) (block_are b h.name h.inputs h.outputs), nodes_feed v b.1.nodes h.nodes)
    (one_feeds (codes "out") (map source_text b.1.results) (out_are b.1.results h.results.1), (one_feeds (codes "end") [] end_are, tt))

blocks_feed : (v : Version) (bs : List Named) → All (HasBlockText (version_number v)) bs → NoFeeds (flat_map block_lines bs)
blocks_feed v [] h = tt
blocks_feed v (b ∷ bs) h = subst NoFeeds (sym (flat_map-cons block_lines b bs)) (NoFeeds-append (block_lines b) (flat_map block_lines bs)
    (block_feeds v b (All-head (HasBlockText (version_number v)) b bs h)) (blocks_feed v bs (All-tail (HasBlockText (version_number v)) b bs h)))

abbrev graph_lines : Graph → List (List ℕ)
graph_lines g = array_lines g.arrays ++ (flat_map block_lines g.blocks ++ (spaced (main_fields g.main) ∷ []))

one_text : (l : List ℕ) → lines_text (l ∷ []) ≡ line l
one_text l = flat_map-cons line l [] ∙ append-nil (line l)

arrays_text : (xs : List (List ℕ × ℕ)) → flat_map array_text xs ≡ lines_text (array_lines xs)
arrays_text [] = refl
arrays_text (a ∷ xs) = flat_map-cons array_text a xs ∙ ap (λ (ys : List ℕ). array_text a ++ ys) (arrays_text xs)
    ∙ ap (λ (ys : List ℕ). ys ++ lines_text (array_lines xs)) (array_line_is a) ∙ sym (flat_map-cons line (spaced (array_fields a)) (array_lines xs))

nodes_text : (ns : List (Node (List ℕ))) → flat_map node_text ns ≡ lines_text (node_lines ns)
nodes_text [] = refl
nodes_text (n ∷ ns) = flat_map-cons node_text n ns ∙ ap (λ (ys : List ℕ). node_text n ++ ys) (nodes_text ns)
    ∙ ap (λ (ys : List ℕ). ys ++ lines_text (node_lines ns)) (node_line_is n) ∙ sym (flat_map-cons line (spaced (node_fields n)) (node_lines ns))

block_text_is : (b : Named) → block_text b ≡ lines_text (block_lines b)
block_text_is b =
    let head = line (spaced (block_fields b)) in
    let nodes = lines_text (node_lines b.1.nodes) in
    let o = line (spaced (out_fields b.1.results)) in
    let e = line (spaced end_fields) in
    let left : block_text b ≡ ((head ++ nodes) ++ o) ++ e =
    ap (λ (ys : List ℕ). ((ys ++ flat_map node_text b.1.nodes) ++ out_text b.1.results) ++ e) (block_line_is b)
    ∙ ap (λ (ys : List ℕ). ((head ++ ys) ++ out_text b.1.results) ++ e) (nodes_text b.1.nodes)
    ∙ ap (λ (ys : List ℕ). ((head ++ nodes) ++ ys) ++ e) (out_line_is b.1.results) in
    let last : lines_text (spaced (out_fields b.1.results) ∷ spaced end_fields ∷ []) ≡ o ++ e = flat_map-cons line (spaced (out_fields b.1.results))
    (spaced end_fields ∷ []) ∙ ap (λ (ys : List ℕ). o ++ ys) (one_text (spaced end_fields)) in
    let right : lines_text (block_lines b) ≡ (head ++ nodes) ++ (o ++ e) =
    flat_map-append line (spaced (block_fields b) ∷ node_lines b.1.nodes) (spaced (out_fields b.1.results) ∷ spaced end_fields ∷ [])
    ∙ ap (λ (ys : List ℕ). ys ++ lines_text (spaced (out_fields b.1.results) ∷ spaced end_fields ∷ []))
    (flat_map-cons line (spaced (block_fields b)) (node_lines b.1.nodes))
    ∙ ap (λ (ys : List ℕ). (head ++ nodes) ++ ys) last in
    left ∙ append_assoc (head ++ nodes) o e ∙ sym right

blocks_text : (bs : List Named) → flat_map block_text bs ≡ lines_text (flat_map block_lines bs)
blocks_text [] = refl
blocks_text (b ∷ bs) =
    flat_map-cons block_text b bs ∙ ap (λ (ys : List ℕ). block_text b ++ ys) (blocks_text bs)
    ∙ ap (λ (ys : List ℕ). ys ++ lines_text (flat_map block_lines bs)) (block_text_is b)
    ∙ sym (flat_map-append line (block_lines b) (flat_map block_lines bs)) ∙ ap lines_text (sym (flat_map-cons block_lines b bs))

abbrev start : Version → Found
start v = record { version = v; arrays = []; cells = 0; blocks = [] }

text_is : (v : Version) (g : Graph) → g.version ≡ version_number v → text_of g ≡ header v ++ lines_text (graph_lines g)
text_is v g e =
    let h = header v in
    let a = lines_text (array_lines g.arrays) in
    let b = lines_text (flat_map block_lines g.blocks) in
    let m = line (spaced (main_fields g.main)) in
    let head : line (codes "etsgraph" ++ (32 ∷ decimal g.version)) ≡ h = ap (λ (n : ℕ). line (codes "etsgraph" ++ (32 ∷ decimal n))) e ∙ header_is v in
    let left : text_of g ≡ ((h ++ a) ++ b) ++ m =
    ap (λ (ys : List ℕ). ((ys ++ flat_map array_text g.arrays) ++ flat_map block_text g.blocks) ++ m) head
    ∙ ap (λ (ys : List ℕ). ((h ++ ys) ++ flat_map block_text g.blocks) ++ m) (arrays_text g.arrays)
    ∙ ap (λ (ys : List ℕ). ((h ++ a) ++ ys) ++ m) (blocks_text g.blocks) in
    let right : lines_text (graph_lines g) ≡ a ++ (b ++ m) =
    flat_map-append line (array_lines g.arrays) (flat_map block_lines g.blocks ++ (spaced (main_fields g.main) ∷ []))
    ∙ ap (λ (ys : List ℕ). a ++ ys) (flat_map-append line (flat_map block_lines g.blocks) (spaced (main_fields g.main) ∷ [])
    ∙ ap (λ (ys : List ℕ). b ++ ys) (one_text (spaced (main_fields g.main)))) in
    left ∙ append_assoc (h ++ a) b m ∙ append_assoc h a (b ++ m) ∙ ap (λ (ys : List ℕ). h ++ ys) (sym right)

last_one : (n : ℕ) (f : Found) (m : List ℕ) → lines_from n f (Done m) ([] ∷ [])
    ≡ Ok record { version = version_number f.version; arrays = f.arrays; blocks = f.blocks; main = m }
unfolding lines_from end_from
last_one n f m = refl

body_gives : (v : Version) (g : Graph) → g.version ≡ version_number v → HasText g → body_from v (lines_text (graph_lines g)) ≡ Ok g
body_gives v g e h =
    let named = λ (n : ℕ). All (HasBlockText n) g.blocks in
    let blocks : All (HasBlockText (version_number v)) g.blocks = subst (λ (n : ℕ). All (HasBlockText n) g.blocks) e h.blocks in
    let rest-lines = flat_map block_lines g.blocks ++ (spaced (main_fields g.main) ∷ []) in
    let f1 = with_arrays (start v) g.arrays in
    let cells = h.cells in
    let total : sum_by (λ (a : List ℕ × ℕ). a.1) g.arrays ≤ 65536 = omega (arith, cells, sum-map (λ (a : List ℕ × ℕ). a.1) g.arrays) in
    let few_a = h.few_arrays in
    let few_b = h.few_blocks in
    let a = arrays_go (start v) g.arrays h.arrays (omega arith) (omega (arith, total)) in
    let b = rest_goes f1 Arrays g.blocks g.main tt blocks (omega arith) h.main in
    let ab = goes_then (start v) Arrays (array_lines g.arrays) f1 Arrays rest-lines (with_blocks f1 g.blocks) (Done g.main) a b in
    let run = ab 2 [] [] in
    let feeds : NoFeeds (graph_lines g) = NoFeeds-append (array_lines g.arrays) rest-lines (arrays_feed g.arrays h.arrays)
    (NoFeeds-append (flat_map block_lines g.blocks) (spaced (main_fields g.main) ∷ []) (blocks_feed v g.blocks blocks)
    (one_feeds (codes "main") (g.main ∷ []) (main_are g.main h.main), tt)) in
    let parted : body_from v (lines_text (graph_lines g)) ≡ lines_from 2 (start v) Arrays (graph_lines g ++ ([] ∷ [])) = ap
    (lines_from 2 (start v) Arrays) (parts_are (graph_lines g) feeds) in
    let done : lines_from run.0 (with_blocks f1 g.blocks) (Done g.main) ([] ∷ []) ≡ Ok g = last_one run.0 (with_blocks f1 g.blocks) g.main
    ∙ ap (λ (n : ℕ). Ok record { version = n; arrays = g.arrays; blocks = g.blocks; main = g.main }) (sym e) in
    parted ∙ run.1 ∙ done

header_len : (v : Version) → length (header v) ≡ 11
header_len One = refl
header_len Two = refl

text_gives_one : (g : Graph) → g.version ≡ version_number One → HasText g → text_from (header One ++ lines_text (graph_lines g)) ≡ Ok g
unfolding text_from
text_gives_one g e h =
    let body = lines_text (graph_lines g) in
    rw (body_gives One g e h) refl

text_gives_two : (g : Graph) → g.version ≡ version_number Two → HasText g → text_from (header Two ++ lines_text (graph_lines g)) ≡ Ok g
unfolding text_from
text_gives_two g e h = rw (body_gives Two g e h) refl

-- WHAT IS SPELLED SO IS READ
pub text_gives : (g : Graph) → HasText g → text_from (text_of g) ≡ Ok g
text_gives g h = go h.version
  where
    go : (g.version ≡ 1) ⊎ (g.version ≡ 2) → text_from (text_of g) ≡ Ok g
    go (inl e) = ap text_from (text_is One g e) ∙ text_gives_one g e h
    go (inr e) = ap text_from (text_is Two g e) ∙ text_gives_two g e h
