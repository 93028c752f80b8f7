-- How parts are taken off the front.
use Rattle.std.proofs.Common.{◌≡◌, ℕ, ◌+◌, ◌≤◌, ◌==◌, Bool, true, false, cond, ltb, List, [], ◌∷◌, length, take, drop, Option, Some, None, refl, sym, arith}
use Rattle.std.specs.List.{slice_split, position, position_or_len, count_by}
use Rattle.std.proofs.lemmas.Bool.{ltb-false, ltb-true}
use Rattle.std.proofs.lemmas.List.Splits.{slice_split_first, length-slice_split}
use Rattle.graph_file.specs.Lines.{parts}

-- where no byte passes there is one part
one_part : (p : ℕ → Bool) (bs : List ℕ) → length bs ≤ position_or_len p bs → slice_split p bs ≡ bs ∷ []
one_part p [] h = refl
one_part p (b ∷ bs) h = go (p b) refl (one_part p bs)
  where
    go : (t : Bool) → p b ≡ t → (length bs ≤ position_or_len p bs → slice_split p bs ≡ bs ∷ []) → slice_split p (b ∷ bs) ≡ (b ∷ bs) ∷ []
    go true e rec = let z : position_or_len p (b ∷ bs) ≡ 0 = rw e refl in absurd (omega arith)
    go false e rec = let z : position_or_len p (b ∷ bs) ≡ position_or_len p bs + 1 = rw e (omega arith) in rw (e, rec (omega arith)) refl

placed : (p : ℕ → Bool) (bs : List ℕ) (o : Option ℕ) → position p bs ≡ o → o ≡ cond (ltb (position_or_len p bs) (length bs)) (Some (position_or_len p bs)) None
placed p bs o e = sym e

pub last_part : (c : ℕ) (bs : List ℕ) → position (λ b. b == c) bs ≡ None → parts c bs ≡ bs ∷ []
last_part c bs e = go (ltb (position_or_len (λ b. b == c) bs) (length bs)) refl
  where
    go : (t : Bool) → ltb (position_or_len (λ b. b == c) bs) (length bs) ≡ t → parts c bs ≡ bs ∷ []
    go true k = absurd (let x : Some (position_or_len (λ b. b == c) bs) ≡ None = rw k at e in cc)
    go false k = one_part (λ b. b == c) bs (ltb-false _ _ k)

pub first_part : (c : ℕ) (bs : List ℕ) (i : ℕ) → position (λ b. b == c) bs ≡ Some i → parts c bs ≡ take i bs ∷ parts c (drop (i + 1) bs)
first_part c bs i e = go (ltb (position_or_len (λ b. b == c) bs) (length bs)) refl
  where
    go : (t : Bool) → ltb (position_or_len (λ b. b == c) bs) (length bs) ≡ t → parts c bs ≡ take i bs ∷ parts c (drop (i + 1) bs)
    go true k =
        let x : Some (position_or_len (λ b. b == c) bs) ≡ Some i = rw k at e in
        let y : position_or_len (λ b. b == c) bs ≡ i = cc in
        rw (← y) (slice_split_first (λ b. b == c) bs 0 (ltb-true _ _ k))
    go false k = absurd (let x : None ≡ Some i = rw k at e in cc)

pub count_parts : (c : ℕ) (bs : List ℕ) → length (parts c bs) ≡ count_by (λ b. b == c) bs + 1
count_parts c bs = length-slice_split (λ b. b == c) bs
