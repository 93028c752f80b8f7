-- How often tokens are in lists.
use Rattle.std.proofs.Common.{◌≡◌, refl, sym, ◌∙◌, ap, subst, ℕ, ◌+◌, ◌<◌, ◌≤◌, Bool, true, false, cond, List, [], ◌∷◌, ◌++◌, length, take}
use Rattle.std.proofs.Common.{take_all, get_or, Option, arith}
use Rattle.std.specs.Prelude.{IsPermutation, if◌then◌else◌}
use Rattle.std.proofs.lemmas.List.Sums.{sum_by-cons, sum_by-append, sum_by_more}
use Rattle.std.proofs.lemmas.List.Sorted.{IsPermutation-refl, IsPermutation-trans, IsPermutation-cons, IsPermutation-middle, sum_by-IsPermutation}
use Rattle.tags.specs.declared.token.Token.{Token}
use Rattle.tags.specs.contracts.token.TokenEq.TheImpl.Laws.{laws-law}
use Rattle.ordering.specs.Keys.{same, same_exact}
use Rattle.ordering.specs.Pools.{copies, all_copies, more_than_one}

-- how often q is t, as a function of t
abbrev ticks : Token → Token → ℕ
ticks q t = if same t q then 1 else 0

pub copies_cons : (q t : Token) (ts : List Token) → all_copies q (t ∷ ts) ≡ copies q t + all_copies q ts
copies_cons q t ts = sum_by-cons (ticks q) t ts

pub copies_append : (q : Token) (ts us : List Token) → all_copies q (ts ++ us) ≡ all_copies q ts + all_copies q us
copies_append q ts us = sum_by-append (ticks q) ts us

pub copies_permuted : (q : Token) (ts us : List Token) → IsPermutation ts us → all_copies q us ≡ all_copies q ts
copies_permuted q ts us p = sum_by-IsPermutation (ticks q) ts us p

pub once : (t : Token) → copies t t ≡ 1
once t = ap (λ (b : Bool). if b then 1 else 0) (laws-law.refl t)

-- a token that is in the list
pub found : (t : Token) (ts : List Token) → 0 < all_copies t ts → (rest : List Token) × IsPermutation ts (t ∷ rest)
found t [] some = absurd (let no : ⊥ = omega (arith, some) in no)
found t (u ∷ ts) some = go (same u t) refl (λ more. found t ts more) where
  go : (b : Bool) → same u t ≡ b → (0 < all_copies t ts → (rest : List Token) × IsPermutation ts (t ∷ rest)) → (rest : List Token)
      × IsPermutation (u ∷ ts) (t ∷ rest)
  go true is again = (ts, subst (λ (v : Token). IsPermutation (u ∷ ts) (v ∷ ts)) (same_exact u t is) (IsPermutation-refl (u ∷ ts)))
  go false is again =
      let all = copies_cons t u ts in
      let none : copies t u ≡ 0 = ap (λ (b : Bool). if b then 1 else 0) is in
      let more : 0 < all_copies t ts = omega (arith, some, all, none) in
      let later = again more in (
        u ∷ later.0,
        IsPermutation-trans (u ∷ ts) (u ∷ (t ∷ later.0)) (t ∷ (u ∷ later.0)) (IsPermutation-cons u ts (t ∷ later.0) later.1)
            (IsPermutation-middle (u ∷ []) t later.0),
      )

-- a token that a list begins with is in it
pub in_front : (t : Token) (ts more rest : List Token) → IsPermutation ts ((t ∷ more) ++ rest) → 0 < all_copies t ts
in_front t ts more rest p =
    let perm = copies_permuted t ts (t ∷ (more ++ rest)) p in
    let cons = copies_cons t t (more ++ rest) in
    let one = once t in
    omega (arith, perm, cons, one)

-- The tokens `out` are taken out of a list, and what is left is counted.
pub taken_out : (ts out : List Token) (left : Token → ℕ) → ((q : Token) → all_copies q ts ≡ left q + all_copies q out)
    → (rest : List Token) × IsPermutation ts (out ++ rest) × ((q : Token) → left q ≡ all_copies q rest)
taken_out ts [] left counts = (ts, IsPermutation-refl ts, λ q. let c = counts q in omega (arith, c))
taken_out ts (t ∷ out) left counts =
    let some : 0 < all_copies t ts = (let c = counts t in let cons = copies_cons t t out in let one = once t in omega (arith, c, cons, one)) in
    let first = found t ts some in
    let counted : (q : Token) → all_copies q first.0 ≡ left q + all_copies q out
    = λ q. (let c = counts q in let cons = copies_cons q t out in let perm = copies_permuted q ts (t ∷ first.0) first.1
    in let here = copies_cons q t first.0 in omega (arith, c, cons, perm, here)) in
    let later = taken_out first.0 out left counted in (
      later.0,
      IsPermutation-trans ts (t ∷ first.0) (t ∷ (out ++ later.0)) first.1 (IsPermutation-cons t first.0 (out ++ later.0) later.1),
      later.2,
    )

pub copies_more : (q : Token) (ts : List Token) (i : ℕ) (d : Token) → i < length ts → all_copies q (take (i + 1) ts)
    ≡ all_copies q (take i ts) + copies q (get_or ts i d)
copies_more q ts i d low = sum_by_more (ticks q) ts i d low

pub copies_more_at : (q : Token) (ts : List Token) (i : ℕ) (t : Token) → i < length ts → t ≡ get_or ts i t → all_copies q (take (i + 1) ts)
    ≡ all_copies q (take i ts) + copies q t
copies_more_at q ts i t low is = subst (λ (u : Token). all_copies q (take (i + 1) ts) ≡ all_copies q (take i ts) + copies q u) (sym is)
    (copies_more q ts i t low)

pub copies_whole : (q : Token) (ts : List Token) (i : ℕ) → length ts ≤ i → all_copies q (take i ts) ≡ all_copies q ts
copies_whole q ts i past = ap (all_copies q) (take_all i ts past)

-- MAPS
-- a map that has w at the token t has as often as before what is not t
pub others_stay : (f g : Token → Option ℕ) (t q : Token) (w : Option ℕ) → g q ≡ cond (same t q) w (f q) → same t q ≡ false → more_than_one (g q)
    ≡ more_than_one (f q)
others_stay f g t q w at is = ap more_than_one (at ∙ ap (λ (b : Bool). cond b w (f q)) is)

pub changed_here : (f g : Token → Option ℕ) (t q : Token) (w : Option ℕ) → g q ≡ cond (same t q) w (f q) → same t q ≡ true → more_than_one (g q)
    ≡ more_than_one w
changed_here f g t q w at is = ap more_than_one (at ∙ ap (λ (b : Bool). cond b w (f q)) is)

pub one_more : (f g : Token → Option ℕ) (t : Token) (w : Option ℕ) → ((q : Token) → g q ≡ cond (same t q) w (f q)) → more_than_one w
    ≡ more_than_one (f t) + 1 → (q : Token) → more_than_one (g q) ≡ more_than_one (f q) + copies q t
one_more f g t w at more q = go (same t q) refl where
  go : (b : Bool) → same t q ≡ b → more_than_one (g q) ≡ more_than_one (f q) + copies q t
  go true is =
      let here = changed_here f g t q w (at q) is in
      let one : copies q t ≡ 1 = ap (λ (b : Bool). if b then 1 else 0) is in
      let same_here : more_than_one (f t) ≡ more_than_one (f q) = ap (λ (u : Token). more_than_one (f u)) (same_exact t q is) in
      omega (arith, here, one, same_here, more)
  go false is =
      let there = others_stay f g t q w (at q) is in
      let none : copies q t ≡ 0 = ap (λ (b : Bool). if b then 1 else 0) is in
      omega (arith, there, none)

pub one_less : (f g : Token → Option ℕ) (t : Token) (w : Option ℕ) → ((q : Token) → g q ≡ cond (same t q) w (f q)) → more_than_one (f t)
    ≡ more_than_one w + 1 → (q : Token) → more_than_one (f q) ≡ more_than_one (g q) + copies q t
one_less f g t w at less q = go (same t q) refl where
  go : (b : Bool) → same t q ≡ b → more_than_one (f q) ≡ more_than_one (g q) + copies q t
  go true is =
      let here = changed_here f g t q w (at q) is in
      let one : copies q t ≡ 1 = ap (λ (b : Bool). if b then 1 else 0) is in
      let same_here : more_than_one (f t) ≡ more_than_one (f q) = ap (λ (u : Token). more_than_one (f u)) (same_exact t q is) in
      omega (arith, here, one, same_here, less)
  go false is =
      let there = others_stay f g t q w (at q) is in
      let none : copies q t ≡ 0 = ap (λ (b : Bool). if b then 1 else 0) is in
      omega (arith, there, none)

pub changed_twice : (b : Bool) (f g h w v : Option ℕ) → h ≡ cond b v g → g ≡ cond b w f → h ≡ cond b v f
changed_twice true f g h w v after before = after
changed_twice false f g h w v after before = after ∙ before
