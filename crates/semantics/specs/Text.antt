-- The one text of a graph, and which graphs have one.
use Rattle.std.specs.Prelude.{◌≡◌, ℕ, ◌+◌, ◌^◌, ◌<◌, ◌≤◌, true, false, ◌⊎◌, ℤ, pos, negsuc, List, [], ◌∷◌, ◌++◌, map, length, sum, flat_map}
use Rattle.std.specs.Prelude.{decimal, codes, All, FitsSigned, ⊤}
use Rattle.std.specs.Int.{w64}
use Rattle.operators.specs.declared.Unary.{Unary}
use Rattle.operators.specs.declared.Unary.TheVariants.{Neg, Not}
use Rattle.operators.specs.declared.Binary.{Binary}
use Rattle.operators.specs.declared.Binary.TheVariants.{Add, Sub, Mul, Div, Rem, And, Or, Xor, Shl, Shr, Eq, Ne, Lt, Le}
use Rattle.semantics.specs.declared.graph.Region.{Region}
use Rattle.semantics.specs.declared.graph.Region.TheVariants.{Root, Arm}
use Rattle.semantics.specs.declared.graph.Source.{Source}
use Rattle.semantics.specs.declared.graph.Kind.{Kind}
use Rattle.semantics.specs.declared.graph.Kind.TheVariants.{Lit, Apply1, Apply2, Cond, Enter, Merge, Fetch, Store, Call, StrictCall, Loop}
use Rattle.semantics.specs.Graph.{Node, Block, Graph}

-- a field with the space before it
abbrev pub field : List ℕ → List ℕ
field w = 32 ∷ w

abbrev pub literal : ℤ → List ℕ
literal (pos n) = decimal n
literal (negsuc n) = 45 ∷ decimal (n + 1)

abbrev pub unary_word : Unary → List ℕ
unary_word Neg = codes "neg"
unary_word Not = codes "not"

abbrev pub binary_word : Binary → List ℕ
binary_word Add = codes "add"
binary_word Sub = codes "sub"
binary_word Mul = codes "mul"
binary_word Div = codes "div"
binary_word Rem = codes "rem"
binary_word And = codes "and"
binary_word Or = codes "or"
binary_word Xor = codes "xor"
binary_word Shl = codes "shl"
binary_word Shr = codes "shr"
binary_word Eq = codes "eq"
binary_word Ne = codes "ne"
binary_word Lt = codes "lt"
binary_word Le = codes "le"

abbrev pub region_text : Region → List ℕ
region_text Root = codes "-"
region_text (Arm k true) = decimal k ++ codes "+"
region_text (Arm k false) = decimal k ++ codes "-"

abbrev pub kind_text : Kind (List ℕ) → List ℕ
kind_text (Lit v) = codes "lit" ++ field (literal v)
kind_text (Apply1 op) = unary_word op
kind_text (Apply2 op) = binary_word op
kind_text Cond = codes "cond"
kind_text Enter = codes "enter"
kind_text (Merge k) = codes "merge" ++ field (decimal k)
kind_text (Fetch a) = codes "fetch" ++ field a
kind_text (Store a) = codes "store" ++ field a
kind_text (Call f) = codes "call" ++ field f
kind_text (StrictCall f) = codes "scall" ++ field f
kind_text (Loop f k) = codes "loop" ++ field f ++ field (decimal k)

abbrev pub sources_text : List Source → List ℕ
sources_text ss = flat_map (λ (s : Source). field (decimal s.node ++ codes "." ++ decimal s.port)) ss

abbrev pub line : List ℕ → List ℕ
line w = w ++ 10 ∷ []

abbrev pub node_line : Node (List ℕ) → List ℕ
node_line n = line (region_text n.region ++ field (kind_text n.kind) ++ sources_text n.sources)

abbrev pub block_text : List ℕ × Block (List ℕ) → List ℕ
block_text (name, b) = line (codes "block" ++ field name ++ field (decimal b.inputs) ++ field (decimal b.outputs))
    ++ flat_map node_line b.nodes ++ line (codes "out" ++ sources_text b.results) ++ line (codes "end")

abbrev pub array_line : List ℕ × ℕ → List ℕ
array_line (name, len) = line (codes "array" ++ field name ++ field (decimal len))

abbrev pub text_of : Graph → List ℕ
text_of g = line (codes "etsgraph" ++ field (decimal g.version)) ++ flat_map array_line g.arrays ++ flat_map block_text g.blocks
    ++ line (codes "main" ++ field g.main)

-- WHICH GRAPHS HAVE A TEXT: by form, and within the limits
abbrev pub IsLetter : ℕ → Type 0
IsLetter c = ((65 ≤ c) × (c ≤ 90)) ⊎ ((97 ≤ c) × (c ≤ 122))

abbrev pub IsNameRest : ℕ → Type 0
IsNameRest c = IsLetter c ⊎ (((48 ≤ c) × (c ≤ 57)) ⊎ (c ≡ 95))

abbrev pub IsName : List ℕ → Type 0
IsName [] = ⊥
IsName (c ∷ cs) = IsLetter c × All IsNameRest cs × (length cs < 32)

abbrev pub IsNumber : ℕ → Type 0
IsNumber n = n < 2 ^ 32

abbrev pub IsWrittenSource : Source → Type 0
IsWrittenSource s = IsNumber s.node × IsNumber s.port

abbrev pub IsWrittenRegion : Region → Type 0
IsWrittenRegion Root = ⊤
IsWrittenRegion (Arm k side) = IsNumber k

-- a kind with n sources has a line of that version: only `call`, `scall` and `loop` have any number up to 16
abbrev pub HasLine : ℕ → Kind (List ℕ) → ℕ → Type 0
HasLine v (Lit z) n = FitsSigned w64 z × (n ≡ 1)
HasLine v (Apply1 op) n = n ≡ 1
HasLine v (Apply2 op) n = n ≡ 2
HasLine v Cond n = n ≡ 1
HasLine v Enter n = n ≡ 1
HasLine v (Merge k) n = IsNumber k × (n ≡ 2)
HasLine v (Fetch a) n = IsName a × (n ≡ 1)
HasLine v (Store a) n = IsName a × (n ≡ 2)
HasLine v (Call f) n = IsName f × (n ≤ 16)
HasLine v (StrictCall f) n = (v ≡ 2) × IsName f × (n ≤ 16)
HasLine v (Loop f k) n = IsName f × IsNumber k × (n ≤ 16)

abbrev pub HasNodeLine : ℕ → Node (List ℕ) → Type 0
HasNodeLine v n = IsWrittenRegion n.region × HasLine v n.kind (length n.sources) × All IsWrittenSource n.sources

pub record HasBlockText (v : ℕ) (named : List ℕ × Block (List ℕ)) : Type 0 where
  pub name : IsName named.0
  pub inputs : named.1.inputs ≤ 16
  pub outputs : named.1.outputs ≤ 16
  pub nodes : All (HasNodeLine v) named.1.nodes
  pub size : named.1.inputs + length named.1.nodes ≤ 1024
  pub results : (length named.1.results ≤ 16) × All IsWrittenSource named.1.results

pub record HasText (g : Graph) : Type 0 where
  pub version : (g.version ≡ 1) ⊎ (g.version ≡ 2)
  pub arrays : All (λ (a : List ℕ × ℕ). IsName a.0 × (1 ≤ a.1) × (a.1 ≤ 65536)) g.arrays
  pub few_arrays : length g.arrays ≤ 64
  pub cells : sum (map (λ (a : List ℕ × ℕ). a.1) g.arrays) ≤ 65536
  pub blocks : All (HasBlockText g.version) g.blocks
  pub few_blocks : length g.blocks ≤ 256
  pub main : IsName g.main

-- These bytes are the graph's one text
abbrev pub IsText : List ℕ → Graph → Type 0
IsText bytes g = (bytes ≡ text_of g) × HasText g
