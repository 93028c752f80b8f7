-- What is read is spelled so.
use Rattle.std.proofs.Common.{◌≡◌, ℕ, ◌+◌, ◌<◌, ◌≤◌, ◌&&◌, not, eqb, ltb, leb, Bool, true, false, cond, List, [], ◌∷◌, ◌++◌, length, map, take}
use Rattle.std.proofs.Common.{drop, Result, Ok, Err, refl, sym, ap, subst, ◌∙◌, append_assoc, arith, inl, inr}
use Rattle.std.specs.Prelude.{codes, flat_map, sum}
use Rattle.std.specs.Fmt.{decimal}
use Rattle.std.specs.Str.{bytes_eq}
use Rattle.std.specs.List.{join_with_byte}
use Rattle.std.proofs.lemmas.Bool.{ltb-true, leb-true, leb-false, eqb-true, eqb-false, and_parts, not-true}
use Rattle.std.proofs.lemmas.List.{append-nil, nil_from_length, length-append, length-map, take-append-drop}
use Rattle.std.proofs.lemmas.List.Elements.{All-nil, All-push}
use Rattle.std.proofs.lemmas.List.Sums.{sum-map, sum_by_push}
use Rattle.std.proofs.lemmas.List.Splits.{join_with_byte-slice_split}
use Rattle.std.proofs.lemmas.Slice.Eq.{bytes_eq-Decides}
use Rattle.std.proofs.lemmas.Fmt.{decimal_digit}
use Rattle.lemmas.proofs.Bools.{cond_cases}
use Rattle.semantics.specs.declared.graph.Source.{Source}
use Rattle.semantics.specs.Graph.{Node, Graph}
use Rattle.semantics.specs.Text.{line, node_line as node_text, array_line as array_text, block_text, IsName, HasNodeLine, HasBlockText, HasText, IsText}
use Rattle.semantics.specs.Versions.{version_number}
use Rattle.semantics.specs.declared.version.Version.{Version}
use Rattle.semantics.specs.declared.version.Version.TheVariants.{One, Two}
use Rattle.semantics.proofs.Lines.{version_is}
use Rattle.graph_file.specs.declared.fault.ReadFault.{ReadFault}
use Rattle.graph_file.specs.declared.fault.ReadFaultKind.{ReadFaultKind}
use Rattle.graph_file.specs.declared.fault.ReadFaultKind.TheVariants.{NoHeader, BadLine, BadNumber, TooMany}
use Rattle.graph_file.specs.declared.lines.Place.{Place}
use Rattle.graph_file.specs.declared.lines.Place.TheVariants.{Arrays, Blocks, Nodes, Closing, Done}
use Rattle.graph_file.specs.Giving.{◌>>=◌}
use Rattle.graph_file.specs.Lines.{parts}
use Rattle.graph_file.specs.Found.{Found}
use Rattle.graph_file.specs.Fields.{field_from, number_from, name_from, sources_from}
use Rattle.graph_file.specs.Nodes.{node_from}
use Rattle.graph_file.specs.Reading.{Named, must, len_from, count_from, array_line, block_line, main_line, out_line, node_line, outside, inside}
use Rattle.graph_file.specs.Reading.{closing, fields_from, line_from, end_from, at_line, lines_from, header, body_from, text_from}
use Rattle.graph_file.proofs.Binds.{bind_ok, done, ok_is, must_ok}
use Rattle.graph_file.proofs.Names.{source_text}
use Rattle.graph_file.proofs.Operands.{number_takes, name_takes, sources_take}
use Rattle.graph_file.proofs.OneNode.{node_fields, field_is, node_takes}
use Rattle.graph_file.proofs.Spacing.{spaced, fields_take, node_line_is}
use Rattle.graph_file.proofs.Texts.{array_fields, block_fields, out_fields, end_fields, main_fields, array_line_is, block_line_text, block_line_is}
use Rattle.graph_file.proofs.Texts.{out_text, out_line_is, header_text, found_text, open_text, state_text, IsFound, IsOpen, IsState, flat_map-push}

abbrev State : Type 0
State = Found × Place Named (List ℕ)

-- the line leads from a text so far to a state
abbrev Leads : List ℕ → List ℕ → State → Type 0
Leads before l s = IsState s.0 s.1 × (state_text s.0 s.1 ≡ before ++ line l)

abbrev FromFields : List ℕ → List (List ℕ) → State → Type 0
FromFields before fs s = Leads before (spaced fs) s

one_left : (f : List ℕ) (fs : List (List ℕ)) → eqb (length (f ∷ fs)) 1 ≡ true → fs ≡ []
one_left f fs e = nil_from_length fs (let k = eqb-true (length (f ∷ fs)) 1 e in omega arith)

abbrev LenIs : ℕ → List (List ℕ) → ℕ × List (List ℕ) → Type 0
LenIs cells fs x = (fs ≡ decimal x.0 ∷ x.1) × (1 ≤ x.0) × (cells + x.0 ≤ 65536)

len_takes : (cells : ℕ) (fs : List (List ℕ)) (x : ℕ × List (List ℕ)) → len_from cells fs ≡ Ok x → LenIs cells fs x
unfolding len_from
len_takes cells fs x e =
    let b = bind_ok (number_from fs) (λ n. must (not (eqb n.0 0)) BadNumber >>= λ some. must (leb (cells + n.0) 65536) TooMany >>= λ few. Ok (n.0, n.1)) x e in
    let p = must_ok (not (eqb b.0.0 0)) BadNumber (λ some. must (leb (cells + b.0.0) 65536) TooMany >>= λ few. Ok (b.0.0, b.0.1)) x b.2 in
    let q = must_ok (leb (cells + b.0.0) 65536) TooMany (λ few. Ok (b.0.0, b.0.1)) x p.1 in
    let n = number_takes fs b.0 b.1 in
    let ne = eqb-false b.0.0 0 (not-true _ p.0) in
    let le = leb-true _ _ q.0 in
    let some : 1 ≤ b.0.0 = go b.0.0 ne in
    subst (LenIs cells fs) (ok_is (b.0.0, b.0.1) x q.1) (n.0, some, le)
  where
    go : (n : ℕ) → (n ≡ 0 → ⊥) → 1 ≤ n
    go n h = omega arith

abbrev CountIs : List (List ℕ) → ℕ × List (List ℕ) → Type 0
CountIs fs x = (fs ≡ decimal x.0 ∷ x.1) × (x.0 ≤ 16)

count_takes : (fs : List (List ℕ)) (x : ℕ × List (List ℕ)) → count_from fs ≡ Ok x → CountIs fs x
unfolding count_from
count_takes fs x e =
    let b = bind_ok (number_from fs) (λ n. must (leb n.0 16) TooMany >>= λ few. Ok (n.0, n.1)) x e in
    let p = must_ok (leb b.0.0 16) TooMany (λ few. Ok (b.0.0, b.0.1)) x b.2 in
    let n = number_takes fs b.0 b.1 in
    subst (CountIs fs) (ok_is (b.0.0, b.0.1) x p.1) (n.0, leb-true _ _ p.0)

-- ---- arrays

abbrev with_array : Found → List ℕ × ℕ → Found
with_array f a = record { version = f.version; arrays = f.arrays ++ a ∷ []; cells = f.cells + a.1; blocks = f.blocks }

total_push : (xs : List (List ℕ × ℕ)) (a : List ℕ × ℕ) → sum (map (λ (a : List ℕ × ℕ). a.1) (xs ++ a ∷ [])) ≡ sum (map (λ (a : List ℕ × ℕ). a.1) xs) + a.1
total_push xs a = sum-map (λ (a : List ℕ × ℕ). a.1) (xs ++ a ∷ []) ∙ sum_by_push (λ (a : List ℕ × ℕ). a.1) xs a
    ∙ ap (λ (n : ℕ). n + a.1) (sym (sum-map (λ (a : List ℕ × ℕ). a.1) xs))

array_found : (f : Found) (a : List ℕ × ℕ) → IsFound f → IsName a.0 → 1 ≤ a.1 → f.cells + a.1 ≤ 65536 → length f.arrays < 64 → IsFound (with_array f a)
array_found f a h name some room few = record {
  arrays = All-push (λ (a : List ℕ × ℕ). IsName a.0 × (1 ≤ a.1) × (a.1 ≤ 65536)) f.arrays a h.arrays (name, some, omega arith);
  few_arrays = omega (arith, length-append f.arrays (a ∷ []));
  cells = ap (λ (n : ℕ). n + a.1) h.cells ∙ sym (total_push f.arrays a);
  small = room;
  blocks = h.blocks;
  few_blocks = h.few_blocks;
}

array_leads : (f : Found) (a : List ℕ × ℕ) → f.blocks ≡ [] → state_text (with_array f a) Arrays ≡ state_text f Arrays ++ line (spaced (array_fields a))
array_leads f a none =
    let h = header_text f in
    let cells = flat_map array_text f.arrays in
    let l = array_text a in
    let no_blocks : flat_map block_text f.blocks ≡ [] = ap (flat_map block_text) none in
    let bare : (xs : List ℕ) → xs ++ flat_map block_text f.blocks ≡ xs = λ xs. ap (λ (ys : List ℕ). xs ++ ys) no_blocks ∙ append-nil xs in
    let many = flat_map array_text (f.arrays ++ a ∷ []) in
    let left : state_text (with_array f a) Arrays ≡ h ++ (cells ++ l) = append-nil ((h ++ many) ++ flat_map block_text f.blocks) ∙ bare (h ++ many)
    ∙ ap (λ (xs : List ℕ). h ++ xs) (flat_map-push array_text f.arrays a) in
    let right : state_text f Arrays ++ l ≡ (h ++ cells)
    ++ l = ap (λ (xs : List ℕ). xs ++ l) (append-nil ((h ++ cells) ++ flat_map block_text f.blocks) ∙ bare (h ++ cells)) in
    left ∙ sym (append_assoc h cells l) ∙ sym right ∙ ap (λ (xs : List ℕ). state_text f Arrays ++ xs) (array_line_is a)

array_takes : (f : Found) (fs : List (List ℕ)) (s : State) → array_line f fs ≡ Ok s → IsFound f → f.blocks ≡ []
    → FromFields (state_text f Arrays) (codes "array" ∷ fs) s
unfolding array_line
array_takes f fs s e h none =
    let a = must_ok (eqb (length fs) 2) BadLine (λ form. must (ltb (length f.arrays) 64) TooMany >>= λ few. name_from fs >>= λ name. len_from f.cells
    name.1 >>= λ len. Ok (with_array f (name.0, len.0), Arrays)) s e in
    let b = must_ok (ltb (length f.arrays) 64) TooMany (λ few. name_from fs >>= λ name. len_from f.cells name.1 >>= λ len. Ok
    (with_array f (name.0, len.0), Arrays)) s a.1 in
    let c = bind_ok (name_from fs) (λ name. len_from f.cells name.1 >>= λ len. Ok (with_array f (name.0, len.0), Arrays)) s b.1 in
    let d = bind_ok (len_from f.cells c.0.1) (λ len. Ok (with_array f (c.0.0, len.0), Arrays)) s c.2 in
    let n = name_takes fs c.0 c.1 in
    let l = len_takes f.cells c.0.1 d.0 d.1 in
    let it : List ℕ × ℕ = (c.0.0, d.0.0) in
    let whole : fs ≡ c.0.0 ∷ decimal d.0.0 ∷ d.0.1 = n.0 ∙ ap (λ (ys : List (List ℕ)). c.0.0 ∷ ys) l.0 in
    let none_left : d.0.1 ≡ [] = nil_from_length d.0.1 (let k = eqb-true (length fs) 2 a.0 in let q = ap (λ (ys : List (List ℕ)). length ys) whole
    in omega (arith, k, q)) in
    let text : codes "array" ∷ fs ≡ array_fields it = ap (λ (ys : List (List ℕ)). codes "array" ∷ ys)
    (whole ∙ ap (λ (ys : List (List ℕ)). c.0.0 ∷ decimal d.0.0 ∷ ys) none_left) in
    let made : State = (with_array f it, Arrays) in
    let leads : FromFields (state_text f Arrays) (array_fields it) made = ((array_found f it h n.1 l.1 l.2 (ltb-true _ _ b.0), none), array_leads f it none) in
    subst (FromFields (state_text f Arrays) (codes "array" ∷ fs)) (ok_is made s d.2)
    (subst (λ (ys : List (List ℕ)). FromFields (state_text f Arrays) ys made) (sym text) leads)

-- ---- blocks

abbrev new_block : List ℕ → ℕ → ℕ → Named
new_block name inputs outputs = (name, record { inputs = inputs; outputs = outputs; nodes = []; results = [] })

block_takes : (f : Found) (fs : List (List ℕ)) (s : State) → block_line f fs ≡ Ok s → IsFound f → FromFields (found_text f ++ []) (codes "block" ∷ fs) s
unfolding block_line
block_takes f fs s e h =
    let a = must_ok (eqb (length fs) 3) BadLine (λ form. must (ltb (length f.blocks) 256) TooMany >>= λ few. name_from fs >>= λ name. count_from
    name.1 >>= λ inputs. count_from inputs.1 >>= λ outputs. Ok (f, Nodes (new_block name.0 inputs.0 outputs.0))) s e in
    let b = must_ok (ltb (length f.blocks) 256) TooMany (λ few. name_from fs >>= λ name. count_from name.1 >>= λ inputs. count_from inputs.1 >>= λ
    outputs. Ok (f, Nodes (new_block name.0 inputs.0 outputs.0))) s a.1 in
    let c = bind_ok (name_from fs) (λ name. count_from name.1 >>= λ inputs. count_from inputs.1 >>= λ outputs. Ok
    (f, Nodes (new_block name.0 inputs.0 outputs.0))) s b.1 in
    let i = bind_ok (count_from c.0.1) (λ inputs. count_from inputs.1 >>= λ outputs. Ok (f, Nodes (new_block c.0.0 inputs.0 outputs.0))) s c.2 in
    let o = bind_ok (count_from i.0.1) (λ outputs. Ok (f, Nodes (new_block c.0.0 i.0.0 outputs.0))) s i.2 in
    let n = name_takes fs c.0 c.1 in
    let x = count_takes c.0.1 i.0 i.1 in
    let y = count_takes i.0.1 o.0 o.1 in
    let it = new_block c.0.0 i.0.0 o.0.0 in
    let whole : fs ≡ c.0.0 ∷ decimal i.0.0 ∷ decimal o.0.0 ∷ o.0.1 = n.0 ∙ ap (λ (ys : List (List ℕ)). c.0.0 ∷ ys)
    (x.0 ∙ ap (λ (ys : List (List ℕ)). decimal i.0.0 ∷ ys) y.0) in
    let none_left : o.0.1 ≡ [] = nil_from_length o.0.1 (let k = eqb-true (length fs) 3 a.0 in let q = ap (λ (ys : List (List ℕ)). length ys) whole
    in omega (arith, k, q)) in
    let text : codes "block" ∷ fs ≡ block_fields it = ap (λ (ys : List (List ℕ)). codes "block" ∷ ys)
    (whole ∙ ap (λ (ys : List (List ℕ)). c.0.0 ∷ decimal i.0.0 ∷ decimal o.0.0 ∷ ys) none_left) in
    let made : State = (f, Nodes it) in
    let open' : IsOpen (version_number f.version) it = record {
      name = n.1;
      inputs = x.1;
      outputs = y.1;
      nodes = All-nil
          (HasNodeLine (version_number f.version));
      size = let q = x.1 in omega arith;
    } in
    let reads : state_text f (Nodes it) ≡ (found_text f ++ []) ++ line (spaced (block_fields it)) =
    ap (λ (xs : List ℕ). found_text f ++ xs) (append-nil (block_line_text it) ∙ block_line_is it)
    ∙ ap (λ (xs : List ℕ). xs ++ line (spaced (block_fields it))) (sym (append-nil (found_text f))) in
    let leads : FromFields (found_text f ++ []) (block_fields it) made = ((h, (ltb-true _ _ b.0, open')), reads) in
    subst (FromFields (found_text f ++ []) (codes "block" ∷ fs)) (ok_is made s o.2)
    (subst (λ (ys : List (List ℕ)). FromFields (found_text f ++ []) ys made) (sym text) leads)

-- ---- the end of the arrays and blocks

main_takes : (f : Found) (fs : List (List ℕ)) (s : State) → main_line f fs ≡ Ok s → IsFound f → FromFields (found_text f ++ []) (codes "main" ∷ fs) s
unfolding main_line
main_takes f fs s e h =
    let a = must_ok (eqb (length fs) 1) BadLine (λ form. name_from fs >>= λ name. Ok (f, Done name.0)) s e in
    let c = bind_ok (name_from fs) (λ name. Ok (f, Done name.0)) s a.1 in
    let n = name_takes fs c.0 c.1 in
    let none_left : c.0.1 ≡ [] = nil_from_length c.0.1 (let k = eqb-true (length fs) 1 a.0 in let q = ap (λ (ys : List (List ℕ)). length ys) n.0
    in omega (arith, k, q)) in
    let text : codes "main" ∷ fs ≡ main_fields c.0.0 = ap (λ (ys : List (List ℕ)). codes "main" ∷ ys)
    (n.0 ∙ ap (λ (ys : List (List ℕ)). c.0.0 ∷ ys) none_left) in
    let made : State = (f, Done c.0.0) in
    let reads : state_text f (Done c.0.0) ≡ (found_text f ++ []) ++ line (spaced (main_fields c.0.0)) = ap (λ (xs : List ℕ). xs
    ++ line (spaced (main_fields c.0.0))) (sym (append-nil (found_text f))) in
    let leads : FromFields (found_text f ++ []) (main_fields c.0.0) made = ((h, n.1), reads) in
    subst (FromFields (found_text f ++ []) (codes "main" ∷ fs)) (ok_is made s c.2)
    (subst (λ (ys : List (List ℕ)). FromFields (found_text f ++ []) ys made) (sym text) leads)

-- ---- inside a block

abbrev with_results : Named → List Source → Named
with_results b ss = (b.0, record { inputs = b.1.inputs; outputs = b.1.outputs; nodes = b.1.nodes; results = ss })

abbrev with_node : Named → Node (List ℕ) → Named
with_node b n = (b.0, record { inputs = b.1.inputs; outputs = b.1.outputs; nodes = b.1.nodes ++ n ∷ []; results = b.1.results })

out_takes : (f : Found) (b : Named) (fs : List (List ℕ)) (s : State) → out_line f b fs ≡ Ok s → IsState f (Nodes b)
    → FromFields (state_text f (Nodes b)) (codes "out" ∷ fs) s
unfolding out_line
out_takes f b fs s e h =
    let a = must_ok (ltb (length fs) 17) TooMany (λ few. sources_from fs >>= λ sources. Ok (f, Closing (with_results b sources))) s e in
    let c = bind_ok (sources_from fs) (λ sources. Ok (f, Closing (with_results b sources))) s a.1 in
    let ss = sources_take fs c.0 c.1 in
    let few = ltb-true (length fs) 17 a.0 in
    let count = ap (λ (ys : List (List ℕ)). length ys) ss.0 in
    let open' = h.1.1 in
    let made : State = (f, Closing (with_results b c.0)) in
    let is : HasBlockText (version_number f.version) (with_results b c.0) = record {
      name = open'.name;
      inputs = open'.inputs;
      outputs =
          open'.outputs;
      nodes = open'.nodes;
      size = open'.size;
      results = (omega (arith, few, count, length-map c.0 source_text), ss.1);
    } in
    let reads : state_text f (Closing (with_results b c.0)) ≡ state_text f (Nodes b) ++ line (spaced (out_fields c.0)) =
    sym (append_assoc (found_text f) (open_text b) (out_text c.0)) ∙ ap (λ (xs : List ℕ). state_text f (Nodes b) ++ xs) (out_line_is c.0) in
    let leads : FromFields (state_text f (Nodes b)) (out_fields c.0) made = ((h.0, (h.1.0, is)), reads) in
    subst (FromFields (state_text f (Nodes b)) (codes "out" ∷ fs)) (ok_is made s c.2)
    (subst (λ (ys : List (List ℕ)). FromFields (state_text f (Nodes b)) (codes "out" ∷ ys) made) (sym ss.0) leads)

node_takes_line : (f : Found) (b : Named) (fs : List (List ℕ)) (s : State) → node_line f b fs ≡ Ok s → IsState f (Nodes b)
    → FromFields (state_text f (Nodes b)) fs s
unfolding node_line
node_takes_line f b fs s e h =
    let c = bind_ok (node_from f.version (leb 1024 (b.1.inputs + length b.1.nodes)) fs) (λ node. Ok (f, Nodes (with_node b node))) s e in
    let n = node_takes f.version (leb 1024 (b.1.inputs + length b.1.nodes)) fs c.0 c.1 in
    let open' = h.1.1 in
    let room = leb-false _ _ n.0 in
    let made : State = (f, Nodes (with_node b c.0)) in
    let is : IsOpen (version_number f.version) (with_node b c.0) = record {
      name = open'.name;
      inputs = open'.inputs;
      outputs = open'.outputs;
      nodes =
          All-push (HasNodeLine (version_number f.version)) b.1.nodes c.0 open'.nodes n.2;
      size = omega (arith, room, length-append b.1.nodes (c.0 ∷ []));
    } in
    let nodes : open_text (with_node b c.0) ≡ open_text b ++ node_text c.0 = ap (λ (xs : List ℕ). block_line_text b ++ xs)
    (flat_map-push node_text b.1.nodes c.0) ∙ sym (append_assoc (block_line_text b) (flat_map node_text b.1.nodes) (node_text c.0)) in
    let reads : state_text f (Nodes (with_node b c.0)) ≡ state_text f (Nodes b) ++ line (spaced (node_fields c.0)) =
    ap (λ (xs : List ℕ). found_text f ++ xs) nodes ∙ sym (append_assoc (found_text f) (open_text b) (node_text c.0))
    ∙ ap (λ (xs : List ℕ). state_text f (Nodes b) ++ xs) (node_line_is c.0) in
    let leads : FromFields (state_text f (Nodes b)) (node_fields c.0) made = ((h.0, (h.1.0, is)), reads) in
    subst (FromFields (state_text f (Nodes b)) fs) (ok_is made s c.2) (subst (λ (ys : List (List ℕ)). FromFields (state_text f (Nodes b)) ys made)
    (sym n.1) leads)

worded : (before : List ℕ) (w : List ℕ) (word : List ℕ) (fs args : List (List ℕ)) (s : State) → fs ≡ w ∷ args → bytes_eq w word ≡ true
    → FromFields before (word ∷ args) s → FromFields before fs s
worded before w word fs args s e t h = subst (λ (ys : List (List ℕ)). FromFields before ys s)
    (sym (e ∙ ap (λ (x : List ℕ). x ∷ args) ((bytes_eq-Decides w word).0 t))) h

inside_takes : (f : Found) (b : Named) (fs : List (List ℕ)) (s : State) → inside f b fs ≡ Ok s → IsState f (Nodes b) → FromFields (state_text f (Nodes b)) fs s
unfolding inside
inside_takes f b fs s e h =
    let w = bind_ok (field_from fs) (λ word. cond (bytes_eq word.0 (codes "out")) (out_line f b word.1) (node_line f b fs)) s e in
    let is = field_is fs w.0 w.1 in
    elim (cond_cases (bytes_eq w.0.0 (codes "out")) (out_line f b w.0.1) (node_line f b fs) (Ok s) w.2) as (λ _. FromFields (state_text f (Nodes b)) fs s) [
      | inl k ↦ worded (state_text f (Nodes b)) w.0.0 (codes "out") fs w.0.1 s is k.0 (out_takes f b w.0.1 s k.1 h)
      | inr k ↦ node_takes_line f b fs s k.1 h
    ]

outside_takes : (arrays : Bool) (f : Found) (fs : List (List ℕ)) (s : State) → outside arrays f fs ≡ Ok s → IsFound f
    → (arrays ≡ true → f.blocks ≡ []) → FromFields (found_text f ++ []) fs s
unfolding outside
outside_takes arrays f fs s e h none =
    let w = bind_ok (field_from fs) (λ word. cond (arrays && bytes_eq word.0 (codes "array")) (array_line f word.1)
    (cond (bytes_eq word.0 (codes "block")) (block_line f word.1) (cond (bytes_eq word.0 (codes "main")) (main_line f word.1) (Err BadLine)))) s e in
    let is = field_is fs w.0 w.1 in
    elim (cond_cases (arrays && bytes_eq w.0.0 (codes "array")) (array_line f w.0.1) (cond (bytes_eq w.0.0 (codes "block")) (block_line f w.0.1)
    (cond (bytes_eq w.0.0 (codes "main")) (main_line f w.0.1) (Err BadLine))) (Ok s) w.2) as (λ _. FromFields (found_text f ++ []) fs s) [
      | inl k ↦ let t = and_parts arrays (bytes_eq w.0.0 (codes "array")) k.0 in worded (found_text f ++ []) w.0.0 (codes "array") fs w.0.1 s is t.1
          (array_takes f w.0.1 s k.1 h (none t.0))
      | inr k ↦ elim (cond_cases (bytes_eq w.0.0 (codes "block")) (block_line f w.0.1) (cond (bytes_eq w.0.0 (codes "main")) (main_line f w.0.1)
          (Err BadLine)) (Ok s) k.1) as (λ _. FromFields (found_text f ++ []) fs s) [
            | inl l ↦ worded (found_text f ++ []) w.0.0 (codes "block") fs w.0.1 s is l.0 (block_takes f w.0.1 s l.1 h)
            | inr l ↦ elim (cond_cases (bytes_eq w.0.0 (codes "main")) (main_line f w.0.1) (Err BadLine) (Ok s) l.1) as
                (λ _. FromFields (found_text f ++ []) fs s) [
                  | inl m ↦ worded (found_text f ++ []) w.0.0 (codes "main") fs w.0.1 s is m.0 (main_takes f w.0.1 s m.1 h)
                  | inr m ↦ absurd (let q : Err BadLine ≡ done s = m.1 in cc)
                ]
          ]
    ]

abbrev with_block : Found → Named → Found
with_block f b = record { version = f.version; arrays = f.arrays; cells = f.cells; blocks = f.blocks ++ b ∷ [] }

closing_takes : (f : Found) (b : Named) (fs : List (List ℕ)) (s : State) → closing f b fs ≡ Ok s → IsState f (Closing b)
    → FromFields (state_text f (Closing b)) fs s
unfolding closing
closing_takes f b fs s e h =
    let w = bind_ok (field_from fs) (λ word. must (bytes_eq word.0 (codes "end") && eqb (length word.1) 0) BadLine >>= λ form. Ok
    (with_block f b, Blocks)) s e in
    let m = must_ok (bytes_eq w.0.0 (codes "end") && eqb (length w.0.1) 0) BadLine (λ form. Ok (with_block f b, Blocks)) s w.2 in
    let t = and_parts (bytes_eq w.0.0 (codes "end")) (eqb (length w.0.1) 0) m.0 in
    let none_left : w.0.1 ≡ [] = nil_from_length w.0.1 (eqb-true _ _ t.1) in
    let text : fs ≡ end_fields = field_is fs w.0 w.1 ∙ ap (λ (x : List ℕ). x ∷ w.0.1) ((bytes_eq-Decides w.0.0 (codes "end")).0 t.0)
    ∙ ap (λ (ys : List (List ℕ)). codes "end" ∷ ys) none_left in
    let made : State = (with_block f b, Blocks) in
    let found : IsFound (with_block f b) = record {
      arrays = h.0.arrays;
      few_arrays = h.0.few_arrays;
      cells = h.0.cells;
      small = h.0.small;
      blocks =
          All-push (HasBlockText (version_number f.version)) f.blocks b h.0.blocks h.1.1;
      few_blocks = let q = h.1.0
          in omega (arith, q, length-append f.blocks (b ∷ []));
    } in
    let front = header_text f ++ flat_map array_text f.arrays in
    let old = flat_map block_text f.blocks in
    let reads : state_text (with_block f b) Blocks ≡ state_text f (Closing b) ++ line (spaced end_fields) =
    append-nil _ ∙ ap (λ (xs : List ℕ). front ++ xs) (flat_map-push block_text f.blocks b) ∙ sym (append_assoc front old (block_text b))
    ∙ sym (append_assoc (front ++ old) (open_text b ++ out_text b.1.results) (line (codes "end"))) in
    let leads : FromFields (state_text f (Closing b)) end_fields made = ((found, tt), reads) in
    subst (FromFields (state_text f (Closing b)) fs) (ok_is made s m.1) (subst (λ (ys : List (List ℕ)). FromFields (state_text f (Closing b)) ys made)
    (sym text) leads)

-- ---- lines

from_fields : (before l : List ℕ) (fs : List (List ℕ)) (s : State) → fields_from l ≡ Ok fs → FromFields before fs s → Leads before l s
from_fields before l fs s e h = subst (λ (x : List ℕ). Leads before x s) (sym (fields_take l fs e)) h

line_takes : (f : Found) (p : Place Named (List ℕ)) (l : List ℕ) (s : State) → line_from f p l ≡ Ok s → IsState f p → Leads (state_text f p) l s
unfolding line_from
line_takes f Arrays l s e h = let b = bind_ok (fields_from l) (outside true f) s e in from_fields (state_text f Arrays) l b.0 s b.1
    (outside_takes true f b.0 s b.2 h.0 (λ _. h.1))
line_takes f Blocks l s e h = let b = bind_ok (fields_from l) (outside false f) s e in from_fields (state_text f Blocks) l b.0 s b.1
    (outside_takes false f b.0 s b.2 h.0 (λ k. absurd cc))
line_takes f (Nodes x) l s e h = let b = bind_ok (fields_from l) (inside f x) s e in from_fields (state_text f (Nodes x)) l b.0 s b.1
    (inside_takes f x b.0 s b.2 h)
line_takes f (Closing x) l s e h = let b = bind_ok (fields_from l) (closing f x) s e in from_fields (state_text f (Closing x)) l b.0 s b.1
    (closing_takes f x b.0 s b.2 h)
line_takes f (Done m) l s e h = absurd cc

abbrev graph_of : Found → List ℕ → Graph
graph_of f m = record { version = version_number f.version; arrays = f.arrays; blocks = f.blocks; main = m }

end_takes : (f : Found) (p : Place Named (List ℕ)) (l : List ℕ) (g : Graph) → end_from f p l ≡ Ok g → IsState f p → IsText (state_text f p ++ l) g
unfolding end_from
end_takes f Arrays [] g e h = absurd cc
end_takes f Arrays (c ∷ cs) g e h = absurd cc
end_takes f Blocks [] g e h = absurd cc
end_takes f Blocks (c ∷ cs) g e h = absurd cc
end_takes f (Nodes b) l g e h = absurd cc
end_takes f (Closing b) l g e h = absurd cc
end_takes f (Done m) [] g e h =
    let same = ok_is (graph_of f m) g e in
    let few = h.0.small in
    let has : HasText (graph_of f m) = record {
      version = version_is f.version;
      arrays = h.0.arrays;
      few_arrays = h.0.few_arrays;
      cells = rw
          (← h.0.cells) h.0.small;
      blocks = h.0.blocks;
      few_blocks = h.0.few_blocks;
      main = h.1;
    } in
    let made : IsText (state_text f (Done m) ++ []) (graph_of f m) = (append-nil (state_text f (Done m)), has) in
    subst (IsText (state_text f (Done m) ++ [])) same made
end_takes f (Done m) (c ∷ cs) g e h = absurd cc

abbrev pub read : {A : Type 0} → A → Result A ReadFault
read x = Ok x

at_line_ok : {A : Type 0} (n : ℕ) (r : Result A ReadFaultKind) (x : A) → at_line n r ≡ read x → r ≡ Ok x
at_line_ok n (Ok y) x e = let k : y ≡ x = cc in ap (λ z. Ok z) k
at_line_ok n (Err k) x e = absurd cc

lines_take : (n : ℕ) (f : Found) (p : Place Named (List ℕ)) (ls : List (List ℕ)) (g : Graph) → lines_from n f p ls ≡ Ok g → IsState f p
    → IsText (state_text f p ++ join_with_byte 10 ls) g
unfolding lines_from
lines_take n f p [] g e h = absurd cc
lines_take n f p (l ∷ []) g e h = end_takes f p l g (at_line_ok n (end_from f p l) g e) h
lines_take n f p (l ∷ m ∷ ls) g e h =
    let b = bind_ok (at_line n (line_from f p l)) (λ s. lines_from (n + 1) s.0 s.1 (m ∷ ls)) g e in
    let s = b.0 in
    let leads = line_takes f p l s (at_line_ok n (line_from f p l) s b.1) h in
    let rest = lines_take (n + 1) s.0 s.1 (m ∷ ls) g b.2 leads.0 in
    let after = join_with_byte 10 (m ∷ ls) in
    let same : state_text s.0 s.1 ++ after ≡ state_text f p ++ (l ++ (10 ∷ after)) = ap (λ (xs : List ℕ). xs ++ after) leads.1
    ∙ append_assoc (state_text f p) (line l) after ∙ ap (λ (xs : List ℕ). state_text f p ++ xs) (append_assoc l (10 ∷ []) after) in
    subst (λ (xs : List ℕ). IsText xs g) same rest

-- ---- the text

abbrev start : Version → Found
start v = record { version = v; arrays = []; cells = 0; blocks = [] }

pub header_is : (v : Version) → header_text (start v) ≡ header v
header_is One = ap (λ (xs : List ℕ). line (codes "etsgraph" ++ (32 ∷ xs))) (decimal_digit 1 (omega arith))
header_is Two = ap (λ (xs : List ℕ). line (codes "etsgraph" ++ (32 ∷ xs))) (decimal_digit 2 (omega arith))

start_is : (v : Version) → IsState (start v) Arrays
start_is v = (record { arrays = All-nil _; few_arrays = omega arith; cells = refl; small = omega arith; blocks = All-nil _; few_blocks = omega arith }, refl)

body_takes : (v : Version) (text : List ℕ) (g : Graph) → bytes_eq (take 11 text) (header v) ≡ true → body_from v (drop 11 text) ≡ Ok g → IsText text g
body_takes v text g t e =
    let body = drop 11 text in
    let found = lines_take 2 (start v) Arrays (parts 10 body) g e (start_is v) in
    let front : state_text (start v) Arrays ≡ take 11 text = append-nil _ ∙ append-nil _ ∙ append-nil _ ∙ header_is v
    ∙ sym ((bytes_eq-Decides (take 11 text) (header v)).0 t) in
    let same : state_text (start v) Arrays ++ join_with_byte 10 (parts 10 body) ≡ text = ap (λ (xs : List ℕ). xs ++ join_with_byte 10 (parts 10 body))
    front ∙ ap (λ (xs : List ℕ). take 11 text ++ xs) (join_with_byte-slice_split 10 body) ∙ take-append-drop 11 text in
    subst (λ (xs : List ℕ). IsText xs g) same found

-- WHAT IS READ IS SPELLED SO
pub text_takes : (text : List ℕ) (g : Graph) → text_from text ≡ Ok g → IsText text g
unfolding text_from
text_takes text g e =
    elim (cond_cases (bytes_eq (take 11 text) (header One)) (body_from One (drop 11 text))
    (cond (bytes_eq (take 11 text) (header Two)) (body_from Two (drop 11 text)) (Err record { kind = NoHeader; line = 1 })) (Ok g) e) as
    (λ _. IsText text g) [
      | inl k ↦ body_takes One text g k.0 k.1
      | inr k ↦ elim (cond_cases (bytes_eq (take 11 text) (header Two)) (body_from Two (drop 11 text)) (Err record { kind = NoHeader; line = 1 })
          (Ok g) k.1) as (λ _. IsText text g) [
            | inl l ↦ body_takes Two text g l.0 l.1
            | inr l ↦ absurd (let q = l.1 in cc)
          ]
    ]
