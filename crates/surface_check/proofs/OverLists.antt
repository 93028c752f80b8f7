-- Lists of expressions, and the indexes of arrays.
use Rattle.std.specs.Prelude.{◌≡◌, refl, ℕ, suc, ◌+◌, ◌==◌, Bool, true, false, List, [], ◌∷◌, ◌++◌, Option, None, Some, Result, Ok, Err}
use Rattle.std.proofs.Common.{◌∙◌, ap, sym, arith, append_assoc}
use Rattle.source.specs.declared.fault.FaultKind.TheVariants.{NoSuchName, Arity}
use Rattle.source.specs.declared.word.Word.TheVariants as core_word
use Rattle.source.specs.Tree.{Name}
use Rattle.surface.specs.declared.fault.Fault.{Fault}
use Rattle.surface.specs.declared.fault.FaultKind.TheVariants.{Core}
use Rattle.surface.specs.declared.word.Word.{Word}
use Rattle.surface.specs.declared.word.Word.TheVariants as word
use Rattle.surface.specs.Tree.{Expr, Fetch, Store, Exprs, One, More}
use Rattle.surface.specs.Words.{Words, of_core, words, index_words, part_words}
use Rattle.surface.specs.Outside.{uses, list_uses}
use Rattle.surface.specs.First.{◌>>=◌, refused, must_be}
use Rattle.surface.specs.Constants.{place_of}
use Rattle.surface.specs.Rules.{rank_of, one_value, known_array, values, list_values, index_values}
use Rattle.surface_check.specs.declared.frame.Kind.TheVariants as kind
use Rattle.surface_check.specs.declared.frame.Frame.{Frame}
use Rattle.surface_check.specs.declared.frame.Frame.TheVariants as frame
use Rattle.surface_check.specs.Steps.{Open, State, Plain, top, popped, pushed, ended, is_part, indexed, cell, steps}
use Rattle.surface_check.proofs.HeadsRead.{by_bytes}
use Rattle.surface_check.proofs.Over.{Setting, IsDeep, around, runs, notes, having, kind_of, Over, still_deep, notes_both, then_equal, bind_assoc}
use Rattle.surface_check.proofs.Over.{tested_then, rank_is, right_as}

pub frame_deep : (s : Open Name) (f : Frame) → IsDeep s → IsDeep (pushed s f)
frame_deep s f d = record { scope = d.scope; used = d.used }

-- LISTS OF VALUES
abbrev pub OverList : Setting → Exprs → Type 0
OverList g es = (s : Open Name) (k : ℕ) (rest : Words) → IsDeep s → runs g (pushed s (frame.List k)) (part_words es ++ rest)
    ≡ (list_values (around g s) s.scope es >>= λ n. runs g (pushed (having s (notes g s (list_uses es)) 0 0 kind.Other) (frame.List (k + n))) rest)

pub over_one : (g : Setting) (e : Expr) → Over g e → OverList g (One e)
over_one g e h s k rest d = ap (runs g (pushed s (frame.List k))) (append_assoc (words e) (of_core core_word.Part ∷ []) rest)
    ∙ h (pushed s (frame.List k)) (of_core core_word.Part ∷ rest) (frame_deep s (frame.List k) d) refl

nothing_less : (n : ℕ) → 0 + n ≡ n
nothing_less n = omega arith

add_assoc : (k n m : ℕ) → (k + n) + m ≡ k + (n + m)
add_assoc k n m = omega arith

pub over_more : (g : Setting) (e : Expr) (es : Exprs) → Over g e → OverList g es → OverList g (More e es)
over_more g e es h j s k rest d =
    let s1 : Open Name = having s (notes g s (uses e)) 0 0 kind.Other in
    let L : ℕ → Result (State Name) Fault = λ i. runs g (pushed (having s (notes g s (uses e ++ list_uses es)) 0 0 kind.Other) (frame.List (k + i))) rest in
    ap (runs g (pushed s (frame.List k))) (append_assoc (words e) (of_core core_word.Part ∷ part_words es) rest)
    ∙ h (pushed s (frame.List k)) (of_core core_word.Part ∷ (part_words es ++ rest)) (frame_deep s (frame.List k) d) refl
    ∙ then_equal (values (around g s) s.scope e) _ (λ n. (list_values (around g s) s.scope es >>= λ m. Ok (n + m)) >>= L)
    (λ n. j s1 (k + n) rest (still_deep g s (uses e) 0 0 kind.Other d)
    ∙ then_equal (list_values (around g s) s.scope es) _ (λ m. L (n + m)) (λ m. ap (λ (us : List Name). runs g (pushed (having s us 0 0 kind.Other) (frame.List
    ((k + n) + m))) rest) (notes_both g s (uses e) (list_uses es) 0 0 kind.Other)
    ∙ ap (λ (i : ℕ). runs g (pushed (having s (notes g s (uses e ++ list_uses es)) 0 0 kind.Other) (frame.List i)) rest) (add_assoc k n m))
    ∙ sym (bind_assoc (list_values (around g s) s.scope es) (λ m. Ok (n + m)) L))
    ∙ sym (bind_assoc (values (around g s) s.scope e) (λ n. list_values (around g s) s.scope es >>= λ m. Ok (n + m)) L)

-- INDEXES, with the word after the last one: what it leaves has n values at a place
abbrev Closes : Setting → Word Name → ℕ → ℕ → Type 0
Closes g w n at = (s : Open Name) (rest : Words)
    → runs g s (w ∷ rest) ≡ (indexed (popped s) (top s.frames) (ended (popped s) n at kind.Other) >>= λ u. steps by_bytes g.items u rest)

abbrev pub OverIndexes : Setting → Exprs → Type 0
OverIndexes g es = (w : Word Name) (m to : ℕ) → is_part w ≡ false → Closes g w m to → (s : Open Name) (at rank c : ℕ) (rest : Words) → IsDeep s
    → runs g (pushed s (frame.Indexes at rank c)) (index_words es ++ w ∷ rest)
    ≡ (index_values (around g s) s.scope es >>= λ n. must_be (c + n == rank) Arity at >>= λ all. runs g (having s (notes g s (list_uses es)) m to kind.Other) rest)

abbrev one_if_so : Bool → ℕ → Result ℕ Fault
one_if_so b at = must_be b Arity at >>= λ one. Ok 1

two_tested : {S R : Type 0} (b c : Bool) (at to : ℕ) (x : S) (f : S → Result R Fault) (q : ℕ → Result R Fault)
    → (must_be c Arity to >>= λ all. f x) ≡ q 1
    → ((must_be b Arity at >>= λ one. must_be c Arity to >>= λ all. Ok x) >>= f) ≡ ((one_if_so b at >>= λ one. Ok 1) >>= q)
two_tested true true at to x f q h = h
two_tested true false at to x f q h = h
two_tested false c at to x f q h = refl

pub over_last_index : (g : Setting) (e : Expr) → Over g e → OverIndexes g (One e)
over_last_index g e h w m to free closes s at rank c rest d =
    let L : ℕ → Result (State Name) Fault = λ n. must_be (c + n == rank) Arity at >>= λ all. runs g (having s (notes g s (uses e)) m to kind.Other) rest in
    let f : Frame = frame.Indexes at rank c in
    h (pushed s f) (w ∷ rest) (frame_deep s f d) (rw free refl)
    ∙ then_equal (values (around g s) s.scope e) _ (λ n. (one_value e n >>= λ one. Ok 1) >>= L)
    (λ n. closes (having (pushed s f) (notes g s (uses e)) n (place_of e) (kind_of g.known e)) rest
    ∙ two_tested (n == 1) (c + 1 == rank) (place_of e) at (Plain (having s (notes g s (uses e)) m to kind.Other)) (λ u. steps by_bytes g.items u rest) L refl)
    ∙ sym (bind_assoc (values (around g s) s.scope e) (λ n. one_value e n >>= λ one. Ok 1) L)

one_more : (c n : ℕ) → (c + 1) + n ≡ c + suc n
one_more c n = omega arith

pub over_next_index : (g : Setting) (e : Expr) (es : Exprs) → Over g e → OverIndexes g es → OverIndexes g (More e es)
over_next_index g e es h j w m to free closes s at rank c rest d =
    let s1 : Open Name = having s (notes g s (uses e)) 0 0 kind.Other in
    let f : Frame = frame.Indexes at rank c in
    let us : List Name = notes g s (uses e ++ list_uses es) in
    let L : ℕ → Result (State Name) Fault = λ n. must_be (c + n == rank) Arity at >>= λ all. runs g (having s us m to kind.Other) rest in
    ap (runs g (pushed s f)) (append_assoc (words e) (word.NextIndex ∷ index_words es) (w ∷ rest))
    ∙ h (pushed s f) (word.NextIndex ∷ (index_words es ++ w ∷ rest)) (frame_deep s f d) refl
    ∙ then_equal (values (around g s) s.scope e) _ (λ n. (one_value e n >>= λ one. index_values (around g s) s.scope es >>= λ i. Ok (suc i)) >>= L)
    (λ n. tested_then (n == 1) Arity (place_of e) (Plain (pushed s1 (frame.Indexes at rank (c + 1)))) (λ u. steps by_bytes g.items u (index_words es ++ w ∷
    rest)) 1 (λ one. index_values (around g s) s.scope es >>= λ i. Ok (suc i)) L
    (j w m to free closes s1 at rank (c + 1) rest (still_deep g s (uses e) 0 0 kind.Other d)
    ∙ then_equal (index_values (around g s) s.scope es) _ (λ i. L (suc i)) (λ i. ap (λ (n : ℕ). must_be (n == rank) Arity at >>= λ all. runs g (having s1 (notes g
    s1 (list_uses es)) m to kind.Other) rest) (one_more c i)
    ∙ ap (λ (vs : List Name). must_be (c + suc i == rank) Arity at >>= λ all. runs g (having s vs m to kind.Other) rest) (notes_both g s (uses e) (list_uses es) 0
    0 kind.Other))
    ∙ sym (bind_assoc (index_values (around g s) s.scope es) (λ i. Ok (suc i)) L)))
    ∙ sym (bind_assoc (values (around g s) s.scope e) (λ n. one_value e n >>= λ one. index_values (around g s) s.scope es >>= λ i. Ok (suc i)) L)

-- an array must be known
cell_as : (g : Setting) (s : Open Name) (at : ℕ) (x : Name) (ws : Words) (q : ℕ → Result (State Name) Fault)
    → ((rank : ℕ) → runs g (pushed s (frame.Indexes at rank 0)) ws ≡ q rank)
    → runs g s (of_core (core_word.Cell at x) ∷ ws) ≡ (known_array (around g s) at x >>= q)
cell_as g s at x ws q h = ap (λ (o : Option ℕ). cell s at o >>= λ u. steps by_bytes g.items u ws) (rank_is g s x) ∙ go (rank_of (around g s) x)
  where
    go : (o : Option ℕ) → (cell s at o >>= λ u. steps by_bytes g.items u ws) ≡ (elim o as (λ _. Result ℕ Fault) [
      | Some n ↦ Ok n
      | None ↦ refused (Core NoSuchName)
          at
    ] >>= q)
    go (Some n) = h n
    go None = refl

checked_after : {R : Type 0} (r : Result ℕ Fault) (rank at : ℕ) (x : Result R Fault) (q : Result ℕ Fault) (f : ℕ → Result R Fault) → x ≡ (q >>= f)
    → (r >>= λ n. must_be (0 + n == rank) Arity at >>= λ all. x) ≡ ((r >>= λ n. must_be (n == rank) Arity at >>= λ all. q) >>= f)
checked_after (Err e) rank at x q f h = refl
checked_after (Ok n) rank at x q f h = ap (λ (i : ℕ). must_be (i == rank) Arity at >>= λ all. x) (nothing_less n) ∙ go (n == rank)
  where
    go : (b : Bool) → (must_be b Arity at >>= λ all. x) ≡ ((must_be b Arity at >>= λ all. q) >>= f)
    go true = h
    go false = refl

pub over_fetch : (g : Setting) (at : ℕ) (x : Name) (es : Exprs) → OverIndexes g es → Over g (Fetch at x es)
over_fetch g at x es h s rest d w =
    let L : ℕ → Result (State Name) Fault = λ n. runs g (having s (notes g s (list_uses es)) n at kind.Other) rest in
    ap (runs g s) (append_assoc (of_core (core_word.Cell at x) ∷ index_words es) (of_core (core_word.Fetch at x) ∷ []) rest)
    ∙ cell_as g s at x (index_words es ++ of_core (core_word.Fetch at x) ∷ rest) (λ rank. (index_values (around g s) s.scope es >>= λ n. must_be (n == rank) Arity
    at >>= λ all. Ok 1) >>= L) (λ rank. h (of_core (core_word.Fetch at x)) 1 at refl (λ u ws. refl) s at rank 0 rest d
    ∙ checked_after (index_values (around g s) s.scope es) rank at (L 1) (Ok 1) L refl)
    ∙ sym (bind_assoc (known_array (around g s) at x) (λ rank. index_values (around g s) s.scope es >>= λ n. must_be (n == rank) Arity at >>= λ all. Ok 1) L)

pub over_store : (g : Setting) (at : ℕ) (x : Name) (es : Exprs) (v : Expr) → OverIndexes g es → Over g v → Over g (Store at x es v)
over_store g at x es v h j s rest d w =
    let us : List Name = notes g s (list_uses es ++ uses v) in
    let L : ℕ → Result (State Name) Fault = λ n. runs g (having s us n at kind.Other) rest in
    let s1 : Open Name = having s (notes g s (list_uses es)) 0 0 kind.Other in
    let last : Result ℕ Fault = values (around g s) s.scope v >>= λ m. one_value v m in
    let end : Word Name = of_core (core_word.Store at x) in
    ap (runs g s) (append_assoc ((of_core (core_word.Cell at x) ∷ index_words es) ++ of_core core_word.Index ∷ words v) (end ∷ []) rest
    ∙ append_assoc (of_core (core_word.Cell at x) ∷ index_words es) (of_core core_word.Index ∷ words v) (end ∷ rest))
    ∙ cell_as g s at x (index_words es ++ of_core core_word.Index ∷ (words v ++ end ∷ rest)) (λ rank. (index_values (around g s) s.scope es >>= λ n. must_be
    (n == rank) Arity at >>= λ all. last) >>= L) (λ rank. h (of_core core_word.Index) 0 0 refl (λ u ws. refl) s at rank 0 (words v ++ end ∷ rest) d
    ∙ checked_after (index_values (around g s) s.scope es) rank at (runs g s1 (words v ++ end ∷ rest)) last L
    (right_as g at v end j refl (λ u ws. refl) s1 rest (still_deep g s (list_uses es) 0 0 kind.Other d)
    ∙ ap (λ (vs : List Name). last >>= λ n. runs g (having s vs n at kind.Other) rest) (notes_both g s (list_uses es) (uses v) 0 0 kind.Other)))
    ∙ sym (bind_assoc (known_array (around g s) at x) (λ rank. index_values (around g s) s.scope es >>= λ n. must_be (n == rank) Arity at >>= λ all. last) L)
