-- The stores of a range of nodes are those of its parts, in some order.
use Rattle.std.proofs.Common.{◌≡◌, ℕ, ◌≤◌, ◌&&◌, ◌||◌, Bool, true, false, List, [], ◌∷◌, ◌++◌, map, filter, Option, Some, None, nat_lt, nat_le, IsPermutation}
use Rattle.std.proofs.Common.{if◌then◌else◌, refl, sym, ap, ◌∙◌, subst, arith, le-leb, ltb-true, ltb-false, leb-true, leb-false}
use Rattle.std.proofs.lemmas.List.Sorted.{IsPermutation-trans, IsPermutation-sym, IsPermutation-append, IsPermutation-map}
use Rattle.semantics.specs.Graph.{Flow}
use Rattle.semantics.specs.Meaning.{Context, Activity}
use Rattle.lemmas.proofs.Permutations.{Perm, perm_to, perm_cons, put_first, Put, put_later}
use Rattle.lemmas.proofs.Lists.{map_append}
use Rattle.law_confluence.specs.EquationsHave.{Stored, stores_of}
use Rattle.source.specs.Evaluates.{Stores}
use Rattle.law_language.specs.MeansBelow.{node_under, is_within, is_below, cell_and_value, stores_below}

put_behind : {X : Type 0} (x : X) (xs ys : List X) → Put x (xs ++ ys) (xs ++ x ∷ ys)
put_behind x [] ys = put_first x ys
put_behind x (y ∷ xs) ys = put_later x y (xs ++ ys) (xs ++ x ∷ ys) (put_behind x xs ys)

-- each element that one of two tests keeps, and no element that both keep
pub perm_filters : {X : Type 0} (f g h : X → Bool) → ((x : X) → h x ≡ (f x || g x)) → ((x : X) → (f x && g x) ≡ false) → (xs : List X)
    → Perm (filter h xs) (filter f xs ++ filter g xs)
perm_filters f g h all apart [] = refl
perm_filters {X} f g h all apart (x ∷ xs) = go (f x) (g x) (h x) refl refl (all x) (apart x) (perm_filters f g h all apart xs)
  where
    go : (t u w : Bool) → f x ≡ t → g x ≡ u → w ≡ (f x || g x) → (f x && g x) ≡ false → Perm (filter h xs) (filter f xs ++ filter g xs)
        → Perm (if w then x ∷ filter h xs else filter h xs) ((if t then x ∷ filter f xs else filter f xs) ++ (if u then x ∷ filter g xs else filter g xs))
    go true true w ef eg ew apart k = cc
    go true false true ef eg ew apart k = perm_cons x (filter h xs) (filter f xs ++ filter g xs) k
    go true false false ef eg ew apart k = cc
    go false true true ef eg ew apart k = (filter f xs ++ filter g xs, put_behind x (filter f xs) (filter g xs), k)
    go false true false ef eg ew apart k = cc
    go false false false ef eg ew apart k = k
    go false false true ef eg ew apart k = cc

-- RANGES
within_or : (lo mid hi n : ℕ) (a b c : Bool) → lo ≤ mid → mid ≤ hi → nat_le lo n ≡ a → nat_lt n mid ≡ b → nat_lt n hi ≡ c
    → (a && c) ≡ ((a && b) || (nat_le mid n && c))
within_or lo mid hi n false b c low high ea eb ec = go (nat_le mid n) refl
  where
    go : (d : Bool) → nat_le mid n ≡ d → false ≡ (d && c)
    go false e = refl
    go true e = let k = leb-true mid n e in let l = leb-false lo n ea in absurd (omega (arith, k, l, low))
within_or lo mid hi n true true c low high ea eb ec = go c ec
  where
    go : (c : Bool) → nat_lt n hi ≡ c → c ≡ true
    go true e = refl
    go false e = let k = ltb-true n mid eb in let l = ltb-false n hi e in absurd (omega (arith, k, l, high))
within_or lo mid hi n true false c low high ea eb ec = ap (λ (d : Bool). d && c) (sym (le-leb mid n (ltb-false n mid eb)))

within_apart : (lo mid hi n : ℕ) (b : Bool) → nat_lt n mid ≡ b → ((nat_le lo n && b) && (nat_le mid n && nat_lt n hi)) ≡ false
within_apart lo mid hi n false e = go (nat_le lo n)
  where
    go : (a : Bool) → ((a && false) && (nat_le mid n && nat_lt n hi)) ≡ false
    go true = refl
    go false = refl
within_apart lo mid hi n true e = go (nat_le mid n) (nat_le lo n) refl
  where
    go : (d a : Bool) → nat_le mid n ≡ d → ((a && true) && (d && nat_lt n hi)) ≡ false
    go true a f = let k = leb-true mid n f in let l = ltb-true n mid e in absurd (omega (arith, k, l))
    go false true f = refl
    go false false f = refl

range_or : (lo mid hi : ℕ) → lo ≤ mid → mid ≤ hi → (o : Option ℕ) → is_within lo hi o ≡ (is_within lo mid o || is_within mid hi o)
range_or lo mid hi low high None = refl
range_or lo mid hi low high (Some n) = within_or lo mid hi n (nat_le lo n) (nat_lt n mid) (nat_lt n hi) low high refl refl refl

range_apart : (lo mid hi : ℕ) (o : Option ℕ) → (is_within lo mid o && is_within mid hi o) ≡ false
range_apart lo mid hi None = refl
range_apart lo mid hi (Some n) = within_apart lo mid hi n (nat_lt n mid) refl

range_empty : (n : ℕ) (o : Option ℕ) → is_within n n o ≡ false
range_empty n None = refl
range_empty n (Some m) = go (nat_le n m) (nat_lt m n) refl refl
  where
    go : (a b : Bool) → nat_le n m ≡ a → nat_lt m n ≡ b → (a && b) ≡ false
    go true true e f = let k = leb-true n m e in let l = ltb-true m n f in absurd (omega (arith, k, l))
    go true false e f = refl
    go false b e f = refl

pub none_kept : {X : Type 0} (f : X → Bool) (xs : List X) → ((x : X) → f x ≡ false) → filter f xs ≡ []
none_kept f [] h = refl
none_kept f (x ∷ xs) h = ap (λ (b : Bool). if b then x ∷ filter f xs else filter f xs) (h x) ∙ none_kept f xs h

module _ (fl : Flow) (run : List Activity) (c : Context) where
  test : ℕ → ℕ → Stored → Bool
  test lo hi w = is_below c lo hi w.context w.node

  -- a range without nodes makes no store
  pub stores_none : (n : ℕ) → stores_below fl run c n n ≡ []
  stores_none n = ap (λ (us : List Stored). map cell_and_value us) (none_kept (λ (w : Stored). is_below c n n w.context w.node) (stores_of fl run)
      (λ w. range_empty n (node_under c w.context w.node)))

  -- and one of two parts makes those of both
  pub stores_split : (lo mid hi : ℕ) → lo ≤ mid → mid ≤ hi → IsPermutation (stores_below fl run c lo mid ++ stores_below fl run c mid hi)
      (stores_below fl run c lo hi)
  stores_split lo mid hi low high =
      let f : Stored → Bool = λ w. is_below c lo mid w.context w.node in
      let g : Stored → Bool = λ w. is_below c mid hi w.context w.node in
      let h : Stored → Bool = λ w. is_below c lo hi w.context w.node in
      let p = perm_to (filter h (stores_of fl run)) (filter f (stores_of fl run) ++ filter g (stores_of fl run))
      (perm_filters f g h (λ w. range_or lo mid hi low high (node_under c w.context w.node)) (λ w. range_apart lo mid hi (node_under c w.context w.node))
      (stores_of fl run)) in
      subst (λ us. IsPermutation us (stores_below fl run c lo hi)) (map_append cell_and_value (filter f (stores_of fl run)) (filter g (stores_of fl run)))
      (IsPermutation-map cell_and_value (filter f (stores_of fl run) ++ filter g (stores_of fl run)) (filter h (stores_of fl run)) (IsPermutation-sym _ _ p))

  -- so what two parts store together is what the whole range stores
  pub stores_both : (lo mid hi : ℕ) (ss us : Stores) → lo ≤ mid → mid ≤ hi → IsPermutation ss (stores_below fl run c lo mid)
      → IsPermutation us (stores_below fl run c mid hi)
      → IsPermutation (ss ++ us) (stores_below fl run c lo hi)
  stores_both lo mid hi ss us low high h k =
      IsPermutation-trans _ _ _ (IsPermutation-append ss (stores_below fl run c lo mid) us (stores_below fl run c mid hi) h k) (stores_split lo mid hi low high)
