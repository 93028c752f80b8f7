-- THE FAULTS OF EACH BLOCK'S LINES have the origins that are given for their tokens: a line that makes faults is the only one
-- with its place, so it is the one that the place leads to.
use Rattle.std.proofs.Common.{◌≡◌, ℕ, zero, suc, ◌+◌, ◌<◌, ◌≤◌, ◌&&◌, Bool, true, false, List, [], ◌∷◌, Some, None, if◌then◌else◌, refl, sym, ap, ap₂, ◌∙◌}
use Rattle.std.proofs.Common.{arith}
use Rattle.std.specs.Prelude.{nat_eq, slice_get}
use Rattle.std.proofs.lemmas.Bool.{eq-eqb}
use Rattle.std.proofs.lemmas.Option.{same_Some}
use Rattle.tags.specs.declared.value.Origin.{Origin}
use Rattle.tags.specs.declared.value.Origin.TheVariants.{At}
use Rattle.semantics.specs.declared.graph.Kind.{Kind}
use Rattle.semantics.specs.declared.graph.Kind.TheVariants as node
use Rattle.source.specs.Tree.{Name}
use Rattle.source.specs.Spelled.{program_tokens}
use Rattle.source.specs.Lowered.{Made, MadeBlock, node_with, found_or, origin_from, made_blocks}
use Rattle.law_language.specs.MeansHolds.{MayFail, AreTraced}
use Rattle.law_language.specs.MeansTheorem.{OriginsAreTraced}
use Rattle.law_language.proofs.MeansPlaceCounts.{may_fail, times, fails, block_times, block_fails, counted_one}
use Rattle.law_language.proofs.MeansPartsTraced.{items_traced, spelled_once}

is_faulty : (kind : Kind Name) → MayFail kind → may_fail kind ≡ true
is_faulty (node.Apply2 op) h = refl
is_faulty (node.Fetch a) h = refl
is_faulty (node.Store a) h = refl
is_faulty (node.Lit v) h = absurd h
is_faulty (node.Apply1 op) h = absurd h
is_faulty node.Cond h = absurd h
is_faulty node.Enter h = absurd h
is_faulty (node.Merge k) h = absurd h
is_faulty (node.Call f) h = absurd h
is_faulty (node.StrictCall f) h = absurd h
is_faulty (node.Loop f k) h = absurd h

-- THE LINE IS COUNTED
counted : (x : ℕ) (ms : List Made) (j : ℕ) (m : Made) → slice_get ms j ≡ Some m → m.at ≡ x → 0 < times x ms
counted x [] j m e at = cc
counted x (n ∷ ms) zero m e at =
    let same : nat_eq x n.at ≡ true = eq-eqb x n.at (sym (ap (λ (m : Made). m.at) (same_Some n m e) ∙ at)) in
    let one = ap (λ (t : Bool). if t then suc (times x ms) else times x ms) same in omega (arith, one)
counted x (n ∷ ms) (suc j) m e at =
    let later = counted x ms j m e at in let one = counted_one (nat_eq x n.at) (times x ms) in omega (arith, later, one)

faulty : (x : ℕ) (ms : List Made) (j : ℕ) (m : Made) → slice_get ms j ≡ Some m → m.at ≡ x → may_fail m.node.kind ≡ true → 0 < fails x ms
faulty x [] j m e at k = cc
faulty x (n ∷ ms) zero m e at k =
    let is = same_Some n m e in
    let same : nat_eq x n.at ≡ true = eq-eqb x n.at (sym (ap (λ (m : Made). m.at) is ∙ at)) in
    let kind : may_fail n.node.kind ≡ true = ap (λ (m : Made). may_fail m.node.kind) is ∙ k in
    let one = ap (λ (t : Bool). if t then suc (fails x ms) else fails x ms) (ap₂ (λ (a b : Bool). a && b) same kind) in omega (arith, one)
faulty x (n ∷ ms) (suc j) m e at k =
    let later = faulty x ms j m e at k in let one = counted_one (nat_eq x n.at && may_fail n.node.kind) (fails x ms) in omega (arith, later, one)

block_counted : (x : ℕ) (bs : List MadeBlock) (i : ℕ) (b : MadeBlock) → slice_get bs i ≡ Some b → 0 < times x b.nodes → 0 < block_times x bs
block_counted x [] i b e some = cc
block_counted x (c ∷ bs) zero b e some = let same = ap (λ (b : MadeBlock). times x b.nodes) (same_Some c b e) in omega (arith, same, some)
block_counted x (c ∷ bs) (suc i) b e some = let later = block_counted x bs i b e some in omega (arith, later)

block_faulty : (x : ℕ) (bs : List MadeBlock) (i : ℕ) (b : MadeBlock) → slice_get bs i ≡ Some b → 0 < fails x b.nodes → 0 < block_fails x bs
block_faulty x [] i b e some = cc
block_faulty x (c ∷ bs) zero b e some = let same = ap (λ (b : MadeBlock). fails x b.nodes) (same_Some c b e) in omega (arith, same, some)
block_faulty x (c ∷ bs) (suc i) b e some = let later = block_faulty x bs i b e some in omega (arith, later)

-- AND IT IS FOUND, where no other is counted.
none_with : (x block n : ℕ) (ms : List Made) → times x ms ≡ 0 → node_with x block n ms ≡ None
none_with x block n [] e = refl
none_with x block n (m ∷ ms) e = go (nat_eq x m.at) e (λ e. none_with x block (n + 1) ms e)
  where
    go : (t : Bool) → (if t then suc (times x ms) else times x ms) ≡ 0 → (times x ms ≡ 0 → node_with x block (n + 1) ms ≡ None)
        → (if t then Some (At block n) else node_with x block (n + 1) ms) ≡ None
    go true e later = absurd (omega (arith, e))
    go false e later = later e

node_found : (x block n : ℕ) (ms : List Made) (j : ℕ) (m : Made) → slice_get ms j ≡ Some m → m.at ≡ x → times x ms ≤ 1
    → node_with x block n ms ≡ Some (At block (n + j))
node_found x block n [] j m e at once = cc
node_found x block n (k ∷ ms) zero m e at once =
    let same : nat_eq x k.at ≡ true = eq-eqb x k.at (sym (ap (λ (m : Made). m.at) (same_Some k m e) ∙ at)) in
    let here : n ≡ n + 0 = omega arith in
    ap (λ (t : Bool). if t then Some (At block n) else node_with x block (n + 1) ms) same ∙ ap (λ n. Some (At block n)) here
node_found x block n (k ∷ ms) (suc j) m e at once = go (nat_eq x k.at) once (λ once. node_found x block (n + 1) ms j m e at once)
  where
    go : (t : Bool) → (if t then suc (times x ms) else times x ms) ≤ 1 → (times x ms ≤ 1 → node_with x block (n + 1) ms ≡ Some (At block (n + 1 + j)))
        → (if t then Some (At block n) else node_with x block (n + 1) ms) ≡ Some (At block (n + suc j))
    go true once later = let some = counted x ms j m e at in absurd (omega (arith, once, some))
    go false once later = let same : n + 1 + j ≡ n + suc j = omega arith in later once ∙ ap (λ n. Some (At block n)) same

origin_found : (x block : ℕ) (bs : List MadeBlock) (i j : ℕ) (b : MadeBlock) (m : Made) → slice_get bs i ≡ Some b → slice_get b.nodes j ≡ Some m → m.at ≡ x
    → block_times x bs ≤ 1
    → origin_from x block bs ≡ At (block + i) (b.inputs + j)
origin_found x block [] i j b m e f at once = cc
origin_found x block (c ∷ bs) zero j b m e f at once =
    let same = same_Some c b e in
    let got = node_found x block b.inputs b.nodes j m f at (let k = ap (λ (b : MadeBlock). times x b.nodes) same in omega (arith, once, k)) in
    let here : block ≡ block + 0 = omega arith in
    ap (λ (b : MadeBlock). found_or (node_with x block b.inputs b.nodes) (origin_from x (block + 1) bs)) same
    ∙ ap (λ o. found_or o (origin_from x (block + 1) bs)) got
    ∙ ap (λ n. At n (b.inputs + j)) here
origin_found x block (c ∷ bs) (suc i) j b m e f at once =
    let some = block_counted x bs i b e (counted x b.nodes j m f at) in
    let none = none_with x block c.inputs c.nodes (omega (arith, once, some)) in
    let later = origin_found x (block + 1) bs i j b m e f at (omega (arith, once)) in
    let same : block + 1 + i ≡ block + suc i = omega arith in
    ap (λ o. found_or o (origin_from x (block + 1) bs)) none ∙ later ∙ ap (λ n. At n (b.inputs + j)) same

traced_from : (origin : ℕ → Origin) (i n : ℕ) (ms : List Made) → ((j : ℕ) (m : Made) → slice_get ms j ≡ Some m → MayFail m.node.kind
    → origin m.at ≡ At i (n + j)) → AreTraced origin i n ms
traced_from origin i n [] h = tt
traced_from origin i n (m ∷ ms) h = (
  λ fails. let same : n + 0 ≡ n = omega arith in h 0 m refl fails ∙ ap (λ n. At i n) same,
  traced_from origin i (n + 1) ms (λ j k e fails. let same : n + suc j ≡ n + 1 + j = omega arith in h (suc j) k e fails ∙ ap (λ n. At i n) same),
)

pub origins_are_traced : OriginsAreTraced
origins_are_traced p g origin low i b e =
    traced_from origin i b.inputs b.nodes
    (λ j m f faults.
    let traced = items_traced m.at p p in
    let once = spelled_once m.at (program_tokens p) (λ i j e f. low.apart i j m.at e f) in
    let some = block_faulty m.at (made_blocks p p) i b e (faulty m.at b.nodes j m f refl (is_faulty m.node.kind faults)) in
    let one = traced.one once some in
    let here : 0 + i ≡ i = omega arith in
    low.lowered.origins m.at ∙ origin_found m.at 0 (made_blocks p p) i j b m e f refl one ∙ ap (λ i. At i (b.inputs + j)) here)
