-- What the text of a part of a graph is, in lines of fields.
use Rattle.std.proofs.Common.{◌≡◌, ℕ, ◌+◌, ◌<◌, ◌≤◌, List, [], ◌∷◌, ◌++◌, length, map, All, refl, sym, ap, ◌∙◌, append_assoc}
use Rattle.std.specs.Prelude.{⊤, codes, flat_map, sum}
use Rattle.std.specs.Fmt.{decimal}
use Rattle.std.proofs.lemmas.List.{append-nil}
use Rattle.std.proofs.lemmas.List.Concat.{flat_map-cons, flat_map-append}
use Rattle.semantics.specs.declared.graph.Source.{Source}
use Rattle.semantics.specs.Text.{field, line, sources_text, node_line, array_line, block_text, IsName, HasNodeLine, HasBlockText}
use Rattle.semantics.specs.Versions.{version_number}
use Rattle.graph_file.specs.declared.lines.Place.{Place}
use Rattle.graph_file.specs.declared.lines.Place.TheVariants.{Arrays, Blocks, Nodes, Closing, Done}
use Rattle.graph_file.specs.Found.{Found}
use Rattle.graph_file.specs.Reading.{Named}
use Rattle.graph_file.proofs.Names.{source_text}
use Rattle.graph_file.proofs.Spacing.{spaced, tail, spaced_is, sources_are, two_fields}

abbrev pub array_fields : List ℕ × ℕ → List (List ℕ)
array_fields a = codes "array" ∷ a.0 ∷ decimal a.1 ∷ []

abbrev pub block_fields : Named → List (List ℕ)
block_fields b = codes "block" ∷ b.0 ∷ decimal b.1.inputs ∷ decimal b.1.outputs ∷ []

abbrev pub out_fields : List Source → List (List ℕ)
out_fields ss = codes "out" ∷ map source_text ss

abbrev pub end_fields : List (List ℕ)
end_fields = codes "end" ∷ []

abbrev pub main_fields : List ℕ → List (List ℕ)
main_fields m = codes "main" ∷ m ∷ []

pub array_line_is : (a : List ℕ × ℕ) → array_line a ≡ line (spaced (array_fields a))
array_line_is a =
    let e : spaced (array_fields a) ≡ codes "array" ++ (field a.0 ++ field (decimal a.1)) = spaced_is (codes "array") (a.0 ∷ decimal a.1 ∷ [])
    ∙ ap (λ (xs : List ℕ). codes "array" ++ xs) (two_fields a.0 (decimal a.1)) in
    ap line (append_assoc (codes "array") (field a.0) (field (decimal a.1)) ∙ sym e)

abbrev pub block_line_text : Named → List ℕ
block_line_text b = line (codes "block" ++ field b.0 ++ field (decimal b.1.inputs) ++ field (decimal b.1.outputs))

pub block_line_is : (b : Named) → block_line_text b ≡ line (spaced (block_fields b))
block_line_is b =
    let i = decimal b.1.inputs in
    let o = decimal b.1.outputs in
    let three : tail (b.0 ∷ i ∷ o ∷ []) ≡ field b.0 ++ (field i ++ field o) = flat_map-cons field b.0 (i ∷ o ∷ [])
    ∙ ap (λ (xs : List ℕ). field b.0 ++ xs) (two_fields i o) in
    let e : spaced (block_fields b) ≡ codes "block" ++ (field b.0 ++ (field i ++ field o)) = spaced_is (codes "block") (b.0 ∷ i ∷ o ∷ [])
    ∙ ap (λ (xs : List ℕ). codes "block" ++ xs) three in
    let left : ((codes "block" ++ field b.0) ++ field i) ++ field o ≡ codes "block" ++ (field b.0 ++ (field i ++ field o)) = append_assoc
    (codes "block" ++ field b.0) (field i) (field o) ∙ append_assoc (codes "block") (field b.0) (field i ++ field o) in
    ap line (left ∙ sym e)

abbrev pub out_text : List Source → List ℕ
out_text ss = line (codes "out" ++ sources_text ss)

pub out_line_is : (ss : List Source) → out_text ss ≡ line (spaced (out_fields ss))
out_line_is ss = ap line (ap (λ (xs : List ℕ). codes "out" ++ xs) (sources_are ss) ∙ sym (spaced_is (codes "out") (map source_text ss)))

abbrev pub main_text : List ℕ → List ℕ
main_text m = line (codes "main" ++ field m)

pub main_line_is : (m : List ℕ) → main_text m ≡ line (spaced (main_fields m))
main_line_is m = refl

-- ---- the text of what was found so far

abbrev pub header_text : Found → List ℕ
header_text f = line (codes "etsgraph" ++ field (decimal (version_number f.version)))

abbrev pub found_text : Found → List ℕ
found_text f = header_text f ++ flat_map array_line f.arrays ++ flat_map block_text f.blocks

-- a block up to its `out` line
abbrev pub open_text : Named → List ℕ
open_text b = block_line_text b ++ flat_map node_line b.1.nodes

abbrev pub place_text : Place Named (List ℕ) → List ℕ
place_text Arrays = []
place_text Blocks = []
place_text (Nodes b) = open_text b
place_text (Closing b) = open_text b ++ out_text b.1.results
place_text (Done m) = main_text m

abbrev pub state_text : Found → Place Named (List ℕ) → List ℕ
state_text f p = found_text f ++ place_text p

pub record IsFound (f : Found) : Type 0 where
  pub arrays : All (λ (a : List ℕ × ℕ). IsName a.0 × (1 ≤ a.1) × (a.1 ≤ 65536)) f.arrays
  pub few_arrays : length f.arrays ≤ 64
  pub cells : f.cells ≡ sum (map (λ (a : List ℕ × ℕ). a.1) f.arrays)
  pub small : f.cells ≤ 65536
  pub blocks : All (HasBlockText (version_number f.version)) f.blocks
  pub few_blocks : length f.blocks ≤ 256

pub record IsOpen (v : ℕ) (b : Named) : Type 0 where
  pub name : IsName b.0
  pub inputs : b.1.inputs ≤ 16
  pub outputs : b.1.outputs ≤ 16
  pub nodes : All (HasNodeLine v) b.1.nodes
  pub size : b.1.inputs + length b.1.nodes ≤ 1024

abbrev pub IsPlace : Found → Place Named (List ℕ) → Type 0
IsPlace f Arrays = f.blocks ≡ []
IsPlace f Blocks = ⊤
IsPlace f (Nodes b) = (length f.blocks < 256) × IsOpen (version_number f.version) b
IsPlace f (Closing b) = (length f.blocks < 256) × HasBlockText (version_number f.version) b
IsPlace f (Done m) = IsName m

abbrev pub IsState : Found → Place Named (List ℕ) → Type 0
IsState f p = IsFound f × IsPlace f p

pub flat_map-push : {X : Type 0} (f : X → List ℕ) (xs : List X) (x : X) → flat_map f (xs ++ x ∷ []) ≡ flat_map f xs ++ f x
flat_map-push f xs x = flat_map-append f xs (x ∷ []) ∙ ap (λ (ys : List ℕ). flat_map f xs ++ ys) (flat_map-cons f x [] ∙ append-nil (f x))
