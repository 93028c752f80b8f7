-- How many destinations the instructions of a narrowed plan have.
use Rattle.std.proofs.Common.{◌≡◌, ℕ, zero, suc, ◌+◌, ◌-◌, ◌/◌, ◌≤◌, min, Bool, true, false, List, ◌∷◌, ◌++◌, map, length, refl, arith}
use Rattle.std.proofs.Common.{if◌then◌else◌, nat_lt, length-append, []}
use Rattle.std.specs.Prelude.{All, ⊤}
use Rattle.std.proofs.lemmas.Bool.{ltb-true, ltb-false}
use Rattle.std.proofs.lemmas.List.{length-map, length-take, length-drop}
use Rattle.std.proofs.lemmas.List.Elements.{All-cons, All-nil, All-head, All-tail, All-append}
use Rattle.tags.specs.declared.token.Port.TheVariants.{Left}
use Rattle.semantics.specs.declared.program.Dest.{Dest}
use Rattle.semantics.specs.declared.program.Op.{Op}
use Rattle.semantics.specs.declared.program.Op.TheVariants.{Switch, Link, Fetch, Store, Frame, Ask, Take, Give, Drain, Release}
use Rattle.semantics.specs.Program.{Instr, CodeBlock}
use Rattle.semantics.specs.Plan.{Plan, HasShape}
use Rattle.semantics.specs.Bytes.{HasDests}
use Rattle.fanout.specs.Sides.{copies, parted, parting_of, firsts_of, seconds_of, first_half, last_half}
use Rattle.fanout.specs.Places.{Layout, place_of, base_of}
use Rattle.fanout.specs.Trees.{leaf, dest_at, side, tree, copy_at, copies_of, moved}
use Rattle.fanout.specs.Narrowed.{parts_of, layout_of, narrowed, narrowed_block, narrowed_blocks}
use Rattle.fanout.specs.Laws.{AllInstrs, HasFew, LandsLeft, IsShaped, HasItsDests}
use Rattle.fanout.proofs.Positions.{all_spread}
use Rattle.fanout.proofs.Spots.{sized}

-- WHAT HOLDS OF EACH, if it holds of each instruction in its place and of each copy
module _ (P Q R : Instr → Type 0) (of_moved : (l : Layout) (n : ℕ) (i : Instr) → Q i → P (moved l n i))
    (of_copy : (l : Layout) (n at j : ℕ) (ds : List Dest) → P (copy_at l n at j ds)) (of_parted : (i : Instr) → R i → Q (parted i)) where
  tree_all : (l : Layout) (n root : ℕ) (ds : List Dest) (k : ℕ) → All P (tree l n root ds k)
  tree_all l n root ds zero = All-nil P
  tree_all l n root ds (suc k) = All-append P (tree l n root ds k) (copy_at l n (root + k) k ds ∷ []) (tree_all l n root ds k)
      (All-cons P (copy_at l n (root + k) k ds) [] (of_copy l n (root + k) k ds) (All-nil P))

  copies_all : (l : Layout) (n : ℕ) (i : Instr) → All P (copies_of l n i)
  copies_all l n i = All-append P _ _ (tree_all l n (base_of l n) i.firsts (copies i.firsts)) (tree_all l n (base_of l n + copies i.firsts) i.seconds
      (copies i.seconds))

  parts_all : (is : List Instr) → All R is → All Q (map parted is)
  parts_all [] h = All-nil Q
  parts_all (i ∷ is) h = All-cons Q (parted i) (map parted is) (of_parted i (All-head R i is h)) (parts_all is (All-tail R i is h))

  pub block_all : (p : Plan) (c : CodeBlock) → All R c.instrs → All P (narrowed_block p c).instrs
  block_all p c h = let l = layout_of p c in all_spread l.tied (moved l) (copies_of l) (sized l) P Q (of_moved l) (copies_all l) (parts_of c)
      (parts_all c.instrs h)

  blocks_all : (p : Plan) (cs : List CodeBlock) → All (λ (c : CodeBlock). All R c.instrs) cs → All (λ (c : CodeBlock). All P c.instrs) (narrowed_blocks p cs)
  blocks_all p [] h = All-nil (λ (c : CodeBlock). All P c.instrs)
  blocks_all p (c ∷ cs) h =
      All-cons (λ (c : CodeBlock). All P c.instrs) (narrowed_block p c) (narrowed_blocks p cs)
      (block_all p c (All-head (λ (c : CodeBlock). All R c.instrs) c cs h)) (blocks_all p cs (All-tail (λ (c : CodeBlock). All R c.instrs) c cs h))

  narrowed_all : (p : Plan) → AllInstrs R p.program → AllInstrs P (narrowed p).program
  narrowed_all p h = blocks_all p p.program.blocks h

-- ONE DESTINATION A SIDE
side_length : (l : Layout) (n at root : ℕ) (ds : List Dest) → length (side l n at root ds) ≡ min 1 (length ds)
side_length l n at root ds = by_test (nat_lt 1 (length ds)) refl
  where
    by_test : (t : Bool) → nat_lt 1 (length ds) ≡ t → length (if t then dest_at at root Left ∷ [] else map (leaf l n at) ds) ≡ min 1 (length ds)
    by_test true t = let k = ltb-true 1 (length ds) t in omega (arith, k)
    by_test false t = let k = ltb-false 1 (length ds) t in let m = length-map ds (leaf l n at) in omega (arith, k, m)

everything : {X : Type 0} (xs : List X) → All (λ (x : X). ⊤) xs
everything [] = All-nil (λ (x : _). ⊤)
everything (x ∷ xs) = All-cons (λ (x : _). ⊤) x xs tt (everything xs)

every_instr : (cs : List CodeBlock) → All (λ (c : CodeBlock). All (λ (i : Instr). ⊤) c.instrs) cs
every_instr [] = All-nil (λ (c : CodeBlock). All (λ (i : Instr). ⊤) c.instrs)
every_instr (c ∷ cs) = All-cons (λ (c : CodeBlock). All (λ (i : Instr). ⊤) c.instrs) c cs (everything c.instrs) (every_instr cs)

moved_few : (l : Layout) (n : ℕ) (i : Instr) → HasFew (moved l n i)
moved_few l n i =
    let a = side_length l n (place_of l n) (base_of l n) i.firsts in let b = side_length l n (place_of l n) (base_of l n + copies i.firsts) i.seconds in
    (omega (arith, a), omega (arith, b))

pub narrowed_few : (p : Plan) → AllInstrs HasFew (narrowed p).program
narrowed_few p = narrowed_all HasFew (λ (i : Instr). ⊤) (λ (i : Instr). ⊤) (λ l n i h. moved_few l n i) (λ l n at j ds. (omega arith, omega arith))
    (λ i h. tt) p (every_instr p.program.blocks)

-- AS MANY AS THE KIND HAS
abbrev IsReady : Op → List Dest → List Dest → Type 0
IsReady (Fetch a) ds es = (length ds ≡ 1) × (length es ≡ 0)
IsReady (Store a) ds es = (length ds ≡ 1) × (length es ≡ 0)
IsReady Frame ds es = (length ds ≡ 1) × (length es ≡ 0)
IsReady (Ask o) ds es = (length ds ≡ 1) × (length es ≡ 0)
IsReady (Link b) ds es = (length ds ≡ 1) × All (λ (d : Dest). d.port ≡ Left) ds
IsReady (Take k) ds es = (length ds ≡ 0) × (length es ≡ 0)
IsReady (Release o) ds es = (length ds ≡ 0) × (length es ≡ 0)
IsReady (Give k) ds es = length es ≡ 0
IsReady (Drain k) ds es = length es ≡ 0
IsReady Switch ds es = ⊤
IsReady op ds es = length es ≤ length ds

halves : (ds : List Dest) → (length (first_half ds) ≡ length ds - length ds / 2) × (length (last_half ds) ≡ length ds / 2)
halves ds =
    let a = length-take (length ds - length ds / 2) ds in let b = length-drop (length ds - length ds / 2) ds in
    (omega (arith, a), omega (arith, b))

part_ready : (op : Op) (ds es : List Dest) → HasShape op (length ds) (length es) × LandsLeft op ds → IsReady op (firsts_of (parting_of op) ds es)
    (seconds_of (parting_of op) ds es)
part_ready (Fetch a) ds es h = let n = length-append ds es in let k = halves (ds ++ es) in let x = h.0.0 in let y = h.0.1 in let p = k.0
    in let q = k.1 in (omega (arith, n, x, y, p), omega (arith, n, x, y, q))
part_ready (Store a) ds es h = let n = length-append ds es in let k = halves (ds ++ es) in let x = h.0.0 in let y = h.0.1 in let p = k.0
    in let q = k.1 in (omega (arith, n, x, y, p), omega (arith, n, x, y, q))
part_ready Frame ds es h = let n = length-append ds es in let k = halves (ds ++ es) in let x = h.0.0 in let y = h.0.1 in let p = k.0 in let q = k.1
    in (omega (arith, n, x, y, p), omega (arith, n, x, y, q))
part_ready (Ask o) ds es h = let n = length-append ds es in let k = halves (ds ++ es) in let x = h.0.0 in let y = h.0.1 in let p = k.0 in let q = k.1
    in (omega (arith, n, x, y, p), omega (arith, n, x, y, q))
part_ready (Take k) ds es h = let n = length-append ds es in let k = halves (ds ++ es) in let x = h.0.0 in let y = h.0.1 in let p = k.0 in let q = k.1
    in (omega (arith, n, x, y, p), omega (arith, n, x, y, q))
part_ready (Release o) ds es h = let n = length-append ds es in let k = halves (ds ++ es) in let x = h.0.0 in let y = h.0.1 in let p = k.0
    in let q = k.1 in (omega (arith, n, x, y, p), omega (arith, n, x, y, q))
part_ready (Link b) ds es h = h
part_ready (Give k) ds es h = refl
part_ready (Drain k) ds es h = refl
part_ready Switch ds es h = tt
part_ready op ds es h = let k = halves (ds ++ es) in let p = k.0 in let q = k.1 in omega (arith, p, q)

left_landing : (l : Layout) (n at root : ℕ) (ds : List Dest) → length ds ≡ 1 → All (λ (d : Dest). d.port ≡ Left) ds
    → All (λ (d : Dest). d.port ≡ Left) (side l n at root ds)
left_landing l n at root [] h a = absurd (omega (arith, h))
left_landing l n at root (d ∷ []) h a = All-cons (λ (d : Dest). d.port ≡ Left) (leaf l n at d) [] (All-head (λ (d : Dest). d.port ≡ Left) d [] a)
    (All-nil (λ (d : Dest). d.port ≡ Left))
left_landing l n at root (d ∷ e ∷ ds) h a = absurd (omega (arith, h))

side_ready : (l : Layout) (n at r s : ℕ) (op : Op) (ds es : List Dest) → IsReady op ds es → HasDests op (side l n at r ds) (side l n at s es)
side_ready l n at r s (Fetch x) ds es h = let a = side_length l n at r ds in let b = side_length l n at s es in let y = h.0 in let z = h.1
    in (omega (arith, a, y), omega (arith, b, z))
side_ready l n at r s (Store x) ds es h = let a = side_length l n at r ds in let b = side_length l n at s es in let y = h.0 in let z = h.1
    in (omega (arith, a, y), omega (arith, b, z))
side_ready l n at r s Frame ds es h = let a = side_length l n at r ds in let b = side_length l n at s es in let y = h.0 in let z = h.1
    in (omega (arith, a, y), omega (arith, b, z))
side_ready l n at r s (Ask o) ds es h = let a = side_length l n at r ds in let b = side_length l n at s es in let y = h.0 in let z = h.1
    in (omega (arith, a, y), omega (arith, b, z))
side_ready l n at r s (Take k) ds es h = let a = side_length l n at r ds in let b = side_length l n at s es in let y = h.0 in let z = h.1
    in (omega (arith, a, y), omega (arith, b, z))
side_ready l n at r s (Release o) ds es h = let a = side_length l n at r ds in let b = side_length l n at s es in let y = h.0 in let z = h.1
    in (omega (arith, a, y), omega (arith, b, z))
side_ready l n at r s (Link t) ds es h =
    let a = side_length l n at r ds in let b = side_length l n at s es in let y = h.0 in
    (omega (arith, a, y), left_landing l n at r ds h.0 h.1, omega (arith, b))
side_ready l n at r s (Give k) ds es h = let a = side_length l n at r ds in let b = side_length l n at s es in (omega (arith, a), omega (arith, b, h))
side_ready l n at r s (Drain k) ds es h = let a = side_length l n at r ds in let b = side_length l n at s es in (omega (arith, a), omega (arith, b, h))
side_ready l n at r s Switch ds es h = let a = side_length l n at r ds in let b = side_length l n at s es in (omega (arith, a), omega (arith, b))
side_ready l n at r s op ds es h = let a = side_length l n at r ds in let b = side_length l n at s es in (omega (arith, a), omega (arith, a, b, h))

pub narrowed_dests : (p : Plan) → AllInstrs IsShaped p.program → AllInstrs HasItsDests (narrowed p).program
narrowed_dests p h =
    narrowed_all HasItsDests (λ (i : Instr). IsReady i.op i.firsts i.seconds) IsShaped (λ l n i r. side_ready l n (place_of l n) (base_of l n)
    (base_of l n + copies i.firsts) i.op i.firsts i.seconds r)
    (λ l n at j ds. (omega arith, omega arith)) (λ i s. part_ready i.op i.firsts i.seconds s) p h

-- THE SHAPE OF A PLAN'S INSTRUCTIONS
abbrev pub ShapedAs : Instr → Type 0
ShapedAs i = HasShape i.op (length i.firsts) (length i.seconds)

part_shape : (op : Op) (ds es : List Dest) → HasShape op (length ds) (length es) → HasShape op (length (firsts_of (parting_of op) ds es))
    (length (seconds_of (parting_of op) ds es))
part_shape (Fetch a) ds es h = part_ready (Fetch a) ds es (h, tt)
part_shape (Store a) ds es h = part_ready (Store a) ds es (h, tt)
part_shape Frame ds es h = part_ready Frame ds es (h, tt)
part_shape (Ask o) ds es h = part_ready (Ask o) ds es (h, tt)
part_shape (Take k) ds es h = part_ready (Take k) ds es (h, tt)
part_shape (Release o) ds es h = part_ready (Release o) ds es (h, tt)
part_shape (Link b) ds es h = h
part_shape op ds es h = tt

side_shape : (l : Layout) (n at r s : ℕ) (op : Op) (ds es : List Dest) → HasShape op (length ds) (length es) → HasShape op (length (side l n at r ds))
    (length (side l n at s es))
side_shape l n at r s (Fetch a) ds es h = side_ready l n at r s (Fetch a) ds es h
side_shape l n at r s (Store a) ds es h = side_ready l n at r s (Store a) ds es h
side_shape l n at r s Frame ds es h = side_ready l n at r s Frame ds es h
side_shape l n at r s (Ask o) ds es h = side_ready l n at r s (Ask o) ds es h
side_shape l n at r s (Take k) ds es h = side_ready l n at r s (Take k) ds es h
side_shape l n at r s (Release o) ds es h = side_ready l n at r s (Release o) ds es h
side_shape l n at r s (Link b) ds es h = let a = side_length l n at r ds in omega (arith, a, h)
side_shape l n at r s op ds es h = tt

pub block_shapes : (p : Plan) (c : CodeBlock) → All ShapedAs c.instrs → All ShapedAs (narrowed_block p c).instrs
block_shapes p c h =
    block_all ShapedAs ShapedAs ShapedAs (λ l n i r. side_shape l n (place_of l n) (base_of l n) (base_of l n + copies i.firsts) i.op i.firsts
    i.seconds r) (λ l n at j ds. tt) (λ i s. part_shape i.op i.firsts i.seconds s) p c h
