-- Empty cells, one after another.
use Rattle.std.proofs.Common.{arith, ◌≡◌, ℕ, zero, suc, ◌+◌, ◌-◌, ◌≤◌, List, [], ◌∷◌, ◌++◌, Option, Result, Ok, Err, refl, sym, ap, ◌∙◌, subst}
use Rattle.std.specs.Prelude.{⊤}
use Rattle.std.specs.Io.KnownBytes.{Appends}
use Rattle.sink.specs.Sends.{Sends}
use Rattle.sink.proofs.Sent.{appends_then, sends_less, sends_more, sends_same, sends_whole}
use Rattle.chosen_cells.specs.Chosen.{empty_cells}

empty_add : (i j : ℕ) → empty_cells (i + j) ≡ empty_cells i ++ empty_cells j
unfolding empty_cells
empty_add zero j =
    let e : zero + j ≡ j = omega arith in
    ap empty_cells e
empty_add (suc i) j =
    let e : suc i + j ≡ suc (i + j) = omega arith in
    ap empty_cells e ∙ ap (λ (l : List ℕ). 32 ∷ 45 ∷ l) (empty_add i j)

one_empty : empty_cells 1 ≡ 32 ∷ 45 ∷ []
unfolding empty_cells
one_empty = refl

no_empty : empty_cells 0 ≡ []
unfolding empty_cells
no_empty = refl

empty_next : (i : ℕ) → empty_cells (i + 1) ≡ empty_cells i ++ 32 ∷ 45 ∷ []
empty_next i = empty_add i 1 ∙ ap (λ (l : List ℕ). empty_cells i ++ l) one_empty

pub more_empty : (i : ℕ) (a b c : Option (List ℕ)) → Appends a b (empty_cells i) → Appends b c (32 ∷ 45 ∷ []) → Appends a c (empty_cells (i + 1))
more_empty i a b c p q = subst (Appends a c) (sym (empty_next i)) (appends_then a b c (empty_cells i) (32 ∷ 45 ∷ []) p q)

pub stop_empty : {E : Type 0} (i n : ℕ) (e : E) (a b c : Option (List ℕ)) → i + 1 ≤ n → Appends a b (empty_cells i) → Sends (Err e) b c (32 ∷ 45 ∷ [])
    → Sends (Err e) a c (empty_cells n)
stop_empty i n e a b c le p q =
    let k : n ≡ i + 1 + (n - (i + 1)) = omega arith in
    sends_same (Err e) a c _ _
    (ap (λ (l : List ℕ). l ++ empty_cells (n - (i + 1))) (sym (empty_next i)) ∙ sym (empty_add (i + 1) (n - (i + 1))) ∙ ap empty_cells (sym k))
    (sends_less e a c (empty_cells i ++ 32 ∷ 45 ∷ []) (empty_cells (n - (i + 1))) (sends_more (Err e) a b c (empty_cells i) (32 ∷ 45 ∷ []) p q))

pub none_empty : (a b : Option (List ℕ)) → Appends a b [] → Appends a b (empty_cells 0)
none_empty a b p = subst (Appends a b) (sym no_empty) p
