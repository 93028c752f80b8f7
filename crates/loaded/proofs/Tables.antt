-- The tables by their numbers.
use Rattle.std.proofs.Common.{◌≡◌, ℕ, zero, suc, ◌+◌, ◌<◌, ◌≤◌, List, [], ◌∷◌, length, map, take, sum, Option, Some, None, refl, sym, ap, subst}
use Rattle.std.proofs.Common.{◌∙◌, arith, max}
use Rattle.std.specs.Prelude.{slice_get, slice_index_or, sum_by}
use Rattle.std.specs.Option.{option_map}
use Rattle.std.proofs.lemmas.List.{take_all, get_or_past}
use Rattle.std.proofs.lemmas.Option.{slice_get-get_or}
use Rattle.std.proofs.lemmas.List.Sums.{sum-map, sum_by-cons}
use Rattle.semantics.specs.Program.{CodeBlock, Program, first_of}
use Rattle.semantics.specs.Rule.{array_base, array_len}
use Rattle.object_view.specs.declared.object.BlockView.{BlockView}
use Rattle.object_view.specs.Reading.{block_shown}
use Rattle.element.specs.declared.instructions.Array.{Array}
use Rattle.loaded.specs.Ready.{entries_in, arrays_in, widest}

-- ENTRIES
abbrev size : CodeBlock → ℕ
size b = length b.instrs

entry_from : (first : ℕ) (bs : List CodeBlock) (k e : ℕ) → slice_get (entries_in first bs) k ≡ Some e → e ≡ first + sum_by size (take k bs)
entry_from first [] k e h = cc
entry_from first (b ∷ bs) zero e h = let same : first ≡ e = cc in omega arith
entry_from first (b ∷ bs) (suc k) e h =
    let later = entry_from (first + length b.instrs) bs k e h in
    let more = sum_by-cons size b (take k bs) in
    omega arith

entry_there : (p : Program) (k e : ℕ) → slice_get (entries_in 0 p.blocks) k ≡ Some e → e ≡ first_of p k
entry_there p k e h =
    let here = entry_from 0 p.blocks k e h in
    let total = sum-map size (take k p.blocks) in
    omega arith

count_entries : (first : ℕ) (bs : List CodeBlock) → length (entries_in first bs) ≡ length bs
count_entries first [] = refl
count_entries first (b ∷ bs) = ap (λ n. suc n) (count_entries (first + length b.instrs) bs)

-- the entry of a block that is there
pub entry_found : (p : Program) (xs table : List ℕ) (k e : ℕ) → xs ≡ table → table ≡ entries_in 0 p.blocks → k < length xs → e ≡ slice_index_or xs k e
    → e ≡ first_of p k
entry_found p xs table k e same parsed low is =
    entry_there p k e (subst (λ (ys : List ℕ). slice_get ys k ≡ Some e) (same ∙ parsed) (slice_get-get_or xs k e low ∙ ap (λ n. Some n) (sym is)))

-- beyond the last block, all instructions are before
pub entry_beyond : (p : Program) (xs table : List ℕ) (k all : ℕ) → xs ≡ table → table ≡ entries_in 0 p.blocks → all ≡ first_of p (length p.blocks)
    → length xs ≤ k → all ≡ first_of p k
entry_beyond p xs table k all same parsed total long =
    let count = count_entries 0 p.blocks in
    let long_table = ap (λ (ys : List ℕ). length ys) (same ∙ parsed) in
    total ∙ ap (λ bs. sum (map size bs)) (take_all (length p.blocks) p.blocks (omega arith) ∙ sym (take_all k p.blocks (omega arith)))

get_entry : (first : ℕ) (bs : List CodeBlock) (k : ℕ) (b : CodeBlock) → slice_get bs k ≡ Some b → slice_get (entries_in first bs) k
    ≡ Some (first + sum_by size (take k bs))
get_entry first [] k b h = cc
get_entry first (c ∷ bs) zero b h = let none : first ≡ first + sum_by size [] = omega arith in ap (λ n. Some n) none
get_entry first (c ∷ bs) (suc k) b h =
    let more = sum_by-cons size c (take k bs) in
    let same : (first + length c.instrs) + sum_by size (take k bs) ≡ first + sum_by size (take (suc k) (c ∷ bs)) = omega arith in
    get_entry (first + length c.instrs) bs k b h ∙ ap (λ n. Some n) same

-- what an object says of a block's entry is in the table
pub parsed_entry : (p : Program) (k e : ℕ) → Some e ≡ option_map (λ (b : CodeBlock). first_of p k) (slice_get p.blocks k)
    → slice_get (entries_in 0 p.blocks) k ≡ Some e
parsed_entry p k e h = by (slice_get p.blocks k) refl h
  where
    by : (o : Option CodeBlock) → slice_get p.blocks k ≡ o → Some e ≡ option_map (λ (b : CodeBlock). first_of p k) o
        → slice_get (entries_in 0 p.blocks) k ≡ Some e
    by None is g = cc
    by (Some b) is g =
        let first : e ≡ first_of p k = cc in
        let total = sum-map size (take k p.blocks) in
        let same : 0 + sum_by size (take k p.blocks) ≡ e = omega arith in
        get_entry 0 p.blocks k b is ∙ ap (λ n. Some n) same

-- ARRAYS
array_from : (base : ℕ) (ns : List ℕ) (k : ℕ) (a : Array) → slice_get (arrays_in base ns) k ≡ Some a → (a.base ≡ base + sum (take k ns))
    × (a.len ≡ slice_index_or ns k 0)
array_from base [] k a h = cc
array_from base (n ∷ ns) zero a h =
    let same : record { base = base; len = n } ≡ a = cc in
    let b = ap (λ (x : Array). x.base) same in
    let l = ap (λ (x : Array). x.len) same in
    (omega arith, sym l)
array_from base (n ∷ ns) (suc k) a h =
    let later = array_from (base + n) ns k a h in
    let more = sum_by-cons (λ x. x) n (take k ns) in
    (omega (arith, later.0), later.1)

pub array_found : (p : Program) (xs table : List Array) (k : ℕ) (a : Array) → xs ≡ table → table ≡ arrays_in 0 p.arrays → k < length xs → a
    ≡ slice_index_or xs k a
    → (a.base ≡ array_base p k) × (a.len ≡ array_len p k)
array_found p xs table k a same parsed low is =
    let t = array_from 0 p.arrays k a (subst (λ (ys : List Array). slice_get ys k ≡ Some a) (same ∙ parsed) (slice_get-get_or xs k a low
    ∙ ap (λ n. Some n) (sym is))) in
    (omega (arith, t.0), t.1)

count_arrays : (base : ℕ) (ns : List ℕ) → length (arrays_in base ns) ≡ length ns
count_arrays base [] = refl
count_arrays base (n ∷ ns) = ap (λ k. suc k) (count_arrays (base + n) ns)

pub array_beyond : (p : Program) (xs table : List Array) (k cells : ℕ) → xs ≡ table → table ≡ arrays_in 0 p.arrays → cells ≡ sum p.arrays → length xs ≤ k
    → (cells ≡ array_base p k) × (0 ≡ array_len p k)
array_beyond p xs table k cells same parsed total long =
    let count = count_arrays 0 p.arrays in
    let long_table = ap (λ (ys : List Array). length ys) (same ∙ parsed) in
    (total ∙ ap sum (sym (take_all k p.arrays (omega arith))), sym (get_or_past p.arrays k 0 (omega arith)))

pub parsed_array : (p : Program) (base k n : ℕ) → slice_get p.arrays k ≡ Some n → base ≡ sum (take k p.arrays) → slice_get (arrays_in 0 p.arrays) k
    ≡ Some (record { base = base; len = n })
parsed_array p base k n h is = from 0 p.arrays k (omega arith) h
  where
    from : (at : ℕ) (ns : List ℕ) (j : ℕ) → base ≡ at + sum (take j ns) → slice_get ns j ≡ Some n → slice_get (arrays_in at ns) j
        ≡ Some (record { base = base; len = n })
    from at [] j e g = cc
    from at (m ∷ ns) zero e g =
        let len : m ≡ n = cc in
        let start : at ≡ base = omega arith in
        ap (λ (a : Array). Some a) (rw (len, start) refl)
    from at (m ∷ ns) (suc j) e g =
        let more = sum_by-cons (λ x. x) m (take j ns) in
        from (at + m) ns j (omega arith) g

pub sum_next : (ns : List ℕ) (k n : ℕ) → slice_get ns k ≡ Some n → sum (take k ns) + n ≡ sum (take (k + 1) ns)
sum_next ns k n h = from ns k h ∙ ap (λ j. sum (take j ns)) (let up : suc k ≡ k + 1 = omega arith in up)
  where
    from : (ms : List ℕ) (j : ℕ) → slice_get ms j ≡ Some n → sum (take j ms) + n ≡ sum (take (suc j) ms)
    from [] j g = cc
    from (m ∷ ms) zero g =
        let same : m ≡ n = cc in
        let one = sum_by-cons (λ x. x) m [] in
        omega arith
    from (m ∷ ms) (suc j) g =
        let later = from ms j g in
        let a = sum_by-cons (λ x. x) m (take j ms) in
        let b = sum_by-cons (λ x. x) m (take (suc j) ms) in
        omega arith

-- SLOTS
widest_next : (bs : List CodeBlock) (k : ℕ) (b : CodeBlock) → slice_get bs k ≡ Some b → max (widest (take k bs)) b.slots ≡ widest (take (k + 1) bs)
widest_next bs k b h = from bs k h ∙ ap (λ j. widest (take j bs)) (let up : suc k ≡ k + 1 = omega arith in up)
  where
    from : (cs : List CodeBlock) (j : ℕ) → slice_get cs j ≡ Some b → max (widest (take j cs)) b.slots ≡ widest (take (suc j) cs)
    from [] j g = cc
    from (c ∷ cs) zero g = let same : c ≡ b = cc in let s = ap (λ (x : CodeBlock). x.slots) same in omega arith
    from (c ∷ cs) (suc j) g = let later = from cs j g in omega arith

pub parsed_widest : (bs : List CodeBlock) (k first : ℕ) (v : BlockView) → Some v ≡ option_map (block_shown first) (slice_get bs k)
    → max (widest (take k bs)) v.slots ≡ widest (take (k + 1) bs)
parsed_widest bs k first v h = by (slice_get bs k) refl h
  where
    by : (o : Option CodeBlock) → slice_get bs k ≡ o → Some v ≡ option_map (block_shown first) o → max (widest (take k bs)) v.slots ≡ widest (take (k + 1) bs)
    by None is g = cc
    by (Some b) is g =
        let same : v ≡ block_shown first b = cc in
        ap (λ (x : BlockView). max (widest (take k bs)) x.slots) same ∙ widest_next bs k b is

-- ALL OF THEM
pub all_entries : (bs : List CodeBlock) (n : ℕ) (done : List ℕ) → done ≡ take n (entries_in 0 bs) → length bs ≤ n → done ≡ entries_in 0 bs
all_entries bs n done so long = let count = count_entries 0 bs in so ∙ take_all n (entries_in 0 bs) (omega arith)

pub all_arrays : (ns : List ℕ) (n : ℕ) (done : List Array) → done ≡ take n (arrays_in 0 ns) → length ns ≤ n → done ≡ arrays_in 0 ns
all_arrays ns n done so long = let count = count_arrays 0 ns in so ∙ take_all n (arrays_in 0 ns) (omega arith)
