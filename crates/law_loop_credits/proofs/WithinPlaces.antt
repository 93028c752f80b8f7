-- Which invocation an activity takes place in: an iteration, or another one of the same loop, or neither; and which iterations are not in a list.
use Rattle.std.proofs.Common.{◌≡◌, refl, sym, ap, ◌∙◌, subst, ℕ, zero, suc, ◌+◌, ◌<◌, ◌≤◌, ◌⊎◌, inl, inr, true, false, true≢false, List, [], ◌∷◌, ◌++◌}
use Rattle.std.proofs.Common.{length, Some, arith, Contains}
use Rattle.std.specs.Prelude.{slice_get}
use Rattle.std.proofs.lemmas.Bool.{cases_Bool, cases_eq}
use Rattle.lemmas.proofs.Contains.{contains_cases, contains_head, contains_none, contains_tail, get_contains}
use Rattle.semantics.specs.Meaning.{Context, Main, Called, Turned, Activity}
use Rattle.law_confluence.specs.EquationsContexts.{same_context}
use Rattle.law_confluence.proofs.EquationsContexts.{same_context_is, same_itself}
use Rattle.law_loops_complete.specs.Within.{place_of, IsIn, IsUnderWay}

-- ---- CONTEXTS
context_or : (c d : Context) → (c ≡ d) ⊎ (c ≡ d → ⊥)
context_or c d = go (cases_Bool (same_context c d))
  where
    go : (same_context c d ≡ true) ⊎ (same_context c d ≡ false) → (c ≡ d) ⊎ (c ≡ d → ⊥)
    go (inl e) = inl (same_context_is c d e)
    go (inr ne) = inr (λ e. true≢false (sym (same_itself d) ∙ ap (λ (x : Context). same_context x d) (sym e) ∙ ne))

pub in_or : (top c : Context) → IsIn top c ⊎ (IsIn top c → ⊥)
in_or top Main = context_or top Main
in_or top (Called c n) = go (context_or top (Called c n)) (in_or top c)
  where
    go : (top ≡ Called c n) ⊎ (top ≡ Called c n → ⊥) → IsIn top c ⊎ (IsIn top c → ⊥) → IsIn top (Called c n) ⊎ (IsIn top (Called c n) → ⊥)
    go (inl e) more = inl (inl e)
    go (inr ne) (inl h) = inl (inr h)
    go (inr ne) (inr none) = inr (λ h. by h)
      where
        by : (top ≡ Called c n) ⊎ IsIn top c → ⊥
        by (inl e) = ne e
        by (inr k) = none k
in_or top (Turned c n i) = go (context_or top (Turned c n i)) (in_or top c)
  where
    go : (top ≡ Turned c n i) ⊎ (top ≡ Turned c n i → ⊥) → IsIn top c ⊎ (IsIn top c → ⊥) → IsIn top (Turned c n i) ⊎ (IsIn top (Turned c n i) → ⊥)
    go (inl e) more = inl (inl e)
    go (inr ne) (inl h) = inl (inr h)
    go (inr ne) (inr none) = inr (λ h. by h)
      where
        by : (top ≡ Turned c n i) ⊎ IsIn top c → ⊥
        by (inl e) = ne e
        by (inr k) = none k

-- how many invocations it lies in
height : Context → ℕ
height Main = 0
height (Called c n) = suc (height c)
height (Turned c n i) = suc (height c)

in_height : (top c : Context) → IsIn top c → height top ≤ height c
unfolding height
in_height top Main e = let h = ap height e in omega (arith, h)
in_height top (Called c n) (inl e) = let h = ap height e in omega (arith, h)
in_height top (Called c n) (inr k) = let h = in_height top c k in omega (arith, h)
in_height top (Turned c n i) (inl e) = let h = ap height e in omega (arith, h)
in_height top (Turned c n i) (inr k) = let h = in_height top c k in omega (arith, h)

-- no activity is in two iterations of one loop
pub one_turn : (c : Context) (n t u : ℕ) (d : Context) → IsIn (Turned c n t) d → IsIn (Turned c n u) d → t ≡ u
unfolding height
one_turn c n t u Main a b = absurd (let e : Turned c n t ≡ Main = a in cc)
one_turn c n t u (Called d m) (inl a) b = absurd (let e : Turned c n t ≡ Called d m = a in cc)
one_turn c n t u (Called d m) (inr a) (inl b) = absurd (let e : Turned c n u ≡ Called d m = b in cc)
one_turn c n t u (Called d m) (inr a) (inr b) = one_turn c n t u d a b
one_turn c n t u (Turned d m i) (inl a) (inl b) = number (a ∙ sym b)
  where
    number : Turned c n t ≡ Turned c n u → t ≡ u
    number e = cc
one_turn c n t u (Turned d m i) (inl a) (inr b) =
    let low = in_height (Turned c n u) d b in let same : suc (height c) ≡ suc (height d) = ap height a in absurd (omega (arith, low, same))
one_turn c n t u (Turned d m i) (inr a) (inl b) =
    let low = in_height (Turned c n t) d a in let same : suc (height c) ≡ suc (height d) = ap height b in absurd (omega (arith, low, same))
one_turn c n t u (Turned d m i) (inr a) (inr b) = one_turn c n t u d a b

-- ---- PLACES OF A LIST
behind : {X : Type 0} (before : List X) (x : X) (later : List X) (i : ℕ) (a : X) → slice_get later i ≡ Some a
    → slice_get (before ++ x ∷ later) (length before + suc i) ≡ Some a
behind [] x later i a e = let h : suc i ≡ 0 + suc i = omega arith in subst (λ (n : ℕ). slice_get (x ∷ later) n ≡ Some a) h e
behind (b ∷ before) x later i a e =
    let h : suc (length before + suc i) ≡ length (b ∷ before) + suc i = omega arith in
    subst (λ (n : ℕ). slice_get ((b ∷ before) ++ x ∷ later) n ≡ Some a) h (behind before x later i a e)

pub at_middle : {X : Type 0} (before : List X) (x : X) (later : List X) → slice_get (before ++ x ∷ later) (length before) ≡ Some x
at_middle [] x later = refl
at_middle (b ∷ before) x later = at_middle before x later

-- An iteration has an activity behind the place, or none in the rest of the run.
pub under_way_or : (c : Context) (n t : ℕ) (before : List Activity) (x : Activity) (later : List Activity)
    → IsUnderWay (before ++ x ∷ later) c n (length before) t ⊎ ((a : Activity) → Contains later a → IsIn (Turned c n t) (place_of a) → ⊥)
under_way_or c n t before x later = go (search later)
  where
    search : (rest : List Activity) → ((i : ℕ) × (a : Activity) × (slice_get rest i ≡ Some a) × IsIn (Turned c n t) (place_of a))
        ⊎ ((a : Activity) → Contains rest a → IsIn (Turned c n t) (place_of a) → ⊥)
    search [] = inr (λ a k h. contains_none a k)
    search (b ∷ rest) = by (in_or (Turned c n t) (place_of b)) (search rest)
      where
        by : IsIn (Turned c n t) (place_of b) ⊎ (IsIn (Turned c n t) (place_of b) → ⊥)
            → ((i : ℕ) × (a : Activity) × (slice_get rest i ≡ Some a) × IsIn (Turned c n t) (place_of a))
            ⊎ ((a : Activity) → Contains rest a → IsIn (Turned c n t) (place_of a) → ⊥)
            → ((i : ℕ) × (a : Activity) × (slice_get (b ∷ rest) i ≡ Some a) × IsIn (Turned c n t) (place_of a))
            ⊎ ((a : Activity) → Contains (b ∷ rest) a → IsIn (Turned c n t) (place_of a) → ⊥)
        by (inl h) more = inl (0, b, refl, h)
        by (inr ne) (inl (i, a, e, h)) = inl (suc i, a, e, h)
        by (inr ne) (inr none) = inr (λ a k h. pick a (contains_cases b rest a k) h)
          where
            pick : (a : Activity) → (b ≡ a) ⊎ Contains rest a → IsIn (Turned c n t) (place_of a) → ⊥
            pick a (inl e) h = ne (subst (λ (a : Activity). IsIn (Turned c n t) (place_of a)) (sym e) h)
            pick a (inr k) h = none a k h

    go : ((i : ℕ) × (a : Activity) × (slice_get later i ≡ Some a) × IsIn (Turned c n t) (place_of a))
        ⊎ ((a : Activity) → Contains later a → IsIn (Turned c n t) (place_of a) → ⊥)
        → IsUnderWay (before ++ x ∷ later) c n (length before) t ⊎ ((a : Activity) → Contains later a → IsIn (Turned c n t) (place_of a) → ⊥)
    go (inl (i, a, e, h)) = inl (length before + suc i, a, omega arith, behind before x later i a e, h)
    go (inr none) = inr none

-- ---- NUMBERS that are not in a list: at least as many as there are more numbers than it has elements
pub record Absent (most : ℕ) (xs : List ℕ) : Type 0 where
  pub ts : List ℕ
  pub low : (t : ℕ) → Contains ts t → t < most
  pub none : (t : ℕ) → Contains ts t → Contains xs t → ⊥
  pub apart : (x y t : ℕ) → slice_get ts x ≡ Some t → slice_get ts y ≡ Some t → x ≡ y
  pub many : most ≤ length ts + length xs

without : (x : ℕ) (xs : List ℕ) → Contains xs x
    → (rest : List ℕ) × (suc (length rest) ≡ length xs) × ((t : ℕ) → (t ≡ x → ⊥) → Contains xs t → Contains rest t)
without x [] k = absurd (contains_none x k)
without x (y ∷ xs) k = go (cases_eq y x) (λ c. without x xs c)
  where
    go : (y ≡ x) ⊎ (y ≡ x → ⊥)
        → (Contains xs x → (rest : List ℕ) × (suc (length rest) ≡ length xs) × ((t : ℕ) → (t ≡ x → ⊥) → Contains xs t → Contains rest t))
        → (rest : List ℕ) × (suc (length rest) ≡ length (y ∷ xs)) × ((t : ℕ) → (t ≡ x → ⊥) → Contains (y ∷ xs) t → Contains rest t)
    go (inl e) less = (xs, refl, λ t ne c. pick t ne (contains_cases y xs t c))
      where
        pick : (t : ℕ) → (t ≡ x → ⊥) → (y ≡ t) ⊎ Contains xs t → Contains xs t
        pick t ne (inl d) = absurd (ne (sym d ∙ e))
        pick t ne (inr c) = c
    go (inr ne) less = by (less (tail (contains_cases y xs x k)))
      where
        tail : (y ≡ x) ⊎ Contains xs x → Contains xs x
        tail (inl e) = absurd (ne e)
        tail (inr c) = c

        by : (rest : List ℕ) × (suc (length rest) ≡ length xs) × ((t : ℕ) → (t ≡ x → ⊥) → Contains xs t → Contains rest t)
            → (rest : List ℕ) × (suc (length rest) ≡ length (y ∷ xs)) × ((t : ℕ) → (t ≡ x → ⊥) → Contains (y ∷ xs) t → Contains rest t)
        by (rest, long, keeps) = (y ∷ rest, ap suc long, λ t ne c. pick t ne (contains_cases y xs t c))
          where
            pick : (t : ℕ) → (t ≡ x → ⊥) → (y ≡ t) ⊎ Contains xs t → Contains (y ∷ rest) t
            pick t ne (inl d) = subst (Contains (y ∷ rest)) d (contains_head y rest)
            pick t ne (inr c) = contains_tail y rest t (keeps t ne c)

number_or : (x : ℕ) (xs : List ℕ) → Contains xs x ⊎ (Contains xs x → ⊥)
number_or x [] = inr (λ k. contains_none x k)
number_or x (y ∷ xs) = go (cases_eq y x) (number_or x xs)
  where
    go : (y ≡ x) ⊎ (y ≡ x → ⊥) → Contains xs x ⊎ (Contains xs x → ⊥) → Contains (y ∷ xs) x ⊎ (Contains (y ∷ xs) x → ⊥)
    go (inl e) more = inl (subst (Contains (y ∷ xs)) e (contains_head y xs))
    go (inr ne) (inl c) = inl (contains_tail y xs x c)
    go (inr ne) (inr none) = inr (λ k. pick (contains_cases y xs x k))
      where
        pick : (y ≡ x) ⊎ Contains xs x → ⊥
        pick (inl e) = ne e
        pick (inr c) = none c

pub absent : (most : ℕ) (xs : List ℕ) → Absent most xs
absent zero xs = record {
  ts = [];
  low = λ t k. absurd (contains_none t k);
  none = λ t k. absurd (contains_none t k);
  apart = λ x y t a b. absurd (cc);
  many = omega arith;
}
absent (suc most) xs = go (number_or most xs) (λ ys. absent most ys)
  where
    -- the greatest number is in the list: it is left out of both
    with_it : (rest : List ℕ) × (suc (length rest) ≡ length xs) × ((t : ℕ) → (t ≡ most → ⊥) → Contains xs t → Contains rest t)
        → ((ys : List ℕ) → Absent most ys) → Absent (suc most) xs
    with_it (rest, long, keeps) each =
        let A = each rest in record {
          ts = A.ts;
          low = λ t k. (let l = A.low t k in omega (arith, l));
          none = λ t k c. A.none t k (keeps t (λ e. (let l = A.low t k in absurd (omega (arith, l, e)))) c);
          apart = A.apart;
          many = (let m = A.many in omega (arith, m, long));
        }

    without_it : (Contains xs most → ⊥) → Absent most xs → Absent (suc most) xs
    without_it ne A = record {
      ts = most ∷ A.ts;
      low = λ t k. lower t (contains_cases most A.ts t k);
      none = λ t k. never t (contains_cases most A.ts t k);
      apart = apart;
      many = (let m = A.many in omega (arith, m));
    }
      where
        lower : (t : ℕ) → (most ≡ t) ⊎ Contains A.ts t → t < suc most
        lower t (inl e) = omega (arith, e)
        lower t (inr k) = let l = A.low t k in omega (arith, l)

        never : (t : ℕ) → (most ≡ t) ⊎ Contains A.ts t → Contains xs t → ⊥
        never t (inl e) c = ne (subst (Contains xs) (sym e) c)
        never t (inr k) c = A.none t k c

        head : (t : ℕ) → Some most ≡ Some t → most ≡ t
        head t e = cc

        apart : (x y t : ℕ) → slice_get (most ∷ A.ts) x ≡ Some t → slice_get (most ∷ A.ts) y ≡ Some t → x ≡ y
        apart zero zero t a b = refl
        apart zero (suc y) t a b = let e = head t a in let l = A.low t (get_contains A.ts y t b) in absurd (omega (arith, e, l))
        apart (suc x) zero t a b = let e = head t b in let l = A.low t (get_contains A.ts x t a) in absurd (omega (arith, e, l))
        apart (suc x) (suc y) t a b = ap suc (A.apart x y t a b)

    go : Contains xs most ⊎ (Contains xs most → ⊥) → ((ys : List ℕ) → Absent most ys) → Absent (suc most) xs
    go (inl c) each = with_it (without most xs c) each
    go (inr ne) each = without_it ne (each xs)
