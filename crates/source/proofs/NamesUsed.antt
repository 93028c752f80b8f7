-- In a part that keeps the rules each name that is used is in scope.
use Rattle.std.proofs.Common.{◌≡◌, ℕ, Bool, true, false, not, ◌||◌, List, [], ◌∷◌, ◌++◌, length, Ok, if◌then◌else◌, refl}
use Rattle.semantics.specs.Graph.{same_name}
use Rattle.source.specs.Tree.{Name, NameAt, Expr, Number, Named, Bracket, Prefix, Infix, Fetch, Store, Call, If, Loop, Exprs, One, More, Body, Let}
use Rattle.source.specs.Tree.{Do, Give, Chain, Turn, Before, After, Program, names_of}
use Rattle.source.specs.Spelled.{others}
use Rattle.source.specs.Outside.{is_in, without, bare, bound_by, uses, list_uses, body_uses, turn_uses}
use Rattle.source.specs.Rules.{values, list_values, first_values, body_values, turn_values, and_first}
use Rattle.source.proofs.Kept.{known_name, in_prefix, in_infix, in_fetch, in_store, IsCalled, in_call, in_if, IsTurned, in_loop, in_more, in_first}
use Rattle.source.proofs.Kept.{in_firsts, in_let, in_do, in_before, in_after}
use Rattle.lemmas.proofs.Permutations.{Each, each_append}

-- each of these names is one of those
abbrev pub AreIn : List Name → List Name → Type 0
AreIn scope xs = Each (λ x. is_in x scope ≡ true) xs

pub in_or : (t u : Bool) → (t || u) ≡ true → t ≡ false → u ≡ true
in_or true u h e = cc
in_or false u h e = h

pub in_none : (t u : Bool) → (t || u) ≡ false → (t ≡ false) × (u ≡ false)
in_none true u h = cc
in_none false u h = (refl, h)

in_later : (x : Name) (before scope : List Name) → is_in x (before ++ scope) ≡ true → is_in x before ≡ false → is_in x scope ≡ true
in_later x [] scope h e = h
in_later x (y ∷ before) scope h e = go (same_name x y) h e (λ h e. in_later x before scope h e)
  where
    go : (t : Bool) → (t || is_in x (before ++ scope)) ≡ true → (t || is_in x before) ≡ false
        → (is_in x (before ++ scope) ≡ true → is_in x before ≡ false → is_in x scope ≡ true) → is_in x scope ≡ true
    go true h e k = cc
    go false h e k = k h e

pub without_in : (before scope xs : List Name) → AreIn (before ++ scope) xs → AreIn scope (without before xs)
without_in before scope [] h = tt
without_in before scope (x ∷ xs) h = go (is_in x before) refl (without_in before scope xs h.1)
  where
    go : (t : Bool) → is_in x before ≡ t → AreIn scope (without before xs) → AreIn scope (if not t then x ∷ without before xs else without before xs)
    go true e k = k
    go false e k = (in_later x before scope h.0 e, k)

both_in : (scope xs ys : List Name) → AreIn scope xs → AreIn scope ys → AreIn scope (xs ++ ys)
both_in scope xs ys h k = each_append (λ x. is_in x scope ≡ true) xs ys h k

mutual
  pub used : (p : Program) (scope : List Name) (e : Expr) (n : ℕ) → values p scope e ≡ Ok n → AreIn scope (uses e)
  used p scope (Number at k) n h = tt
  used p scope (Named at x) n h = ((known_name p scope at x n h).0, tt)
  used p scope (Bracket e) n h = used p scope e n h
  used p scope (Prefix at op e) n h = used p scope e 1 (in_prefix p scope at op e n h).0.values
  used p scope (Infix at s l r) n h =
      let k = in_infix p scope at s l r n h in both_in scope (uses l) (uses r) (used p scope l 1 k.0.values) (used p scope r 1 k.1.values)
  used p scope (Fetch at a e) n h = used p scope e 1 (in_fetch p scope at a e n h).1.values
  used p scope (Store at a e d) n h =
      let k = in_store p scope at a e d n h in both_in scope (uses e) (uses d) (used p scope e 1 k.1.values) (used p scope d 1 k.2.values)
  used p scope (Call at strict f es) n h =
      let k : IsCalled p scope f es n = in_call p scope at strict f es n h in list_used p scope es (length k.function.params) k.arguments
  used p scope (If at q l r) n h =
      let k = in_if p scope at q l r n h in
      both_in scope (uses q ++ body_uses l) (body_uses r) (both_in scope (uses q) (body_uses l) (used p scope q 1 k.0.values) (body_used p scope l n k.1))
      (body_used p scope r n k.2)
  used p scope (Loop at bound firsts turn) n h =
      let k : IsTurned p scope bound firsts turn n = in_loop p scope at bound firsts turn n h in
      both_in scope (list_uses firsts) (turn_uses turn) (firsts_used p scope [] (names_of turn) firsts k.begun) (turn_used p scope turn n k.turns)

  pub list_used : (p : Program) (scope : List Name) (es : Exprs) (n : ℕ) → list_values p scope es ≡ Ok n → AreIn scope (list_uses es)
  list_used p scope (One e) n h = used p scope e n h
  list_used p scope (More e es) n h =
      let k = in_more p scope e es n h in both_in scope (uses e) (list_uses es) (used p scope e k.0 k.2) (list_used p scope es k.1 k.3)

  firsts_used : (p : Program) (scope before : List Name) (xs : List NameAt) (es : Exprs) → first_values p scope before xs es ≡ Ok tt
      → AreIn scope (list_uses es)
  firsts_used p scope before xs (One e) h = used p scope e 1 (in_first p scope before xs e h).values
  firsts_used p scope before xs (More e es) h =
      let k = in_firsts p scope before xs e es h in
      both_in scope (uses e) (list_uses es) (used p scope e 1 k.0.values) (firsts_used p scope (and_first before xs) (others xs) es k.1)

  pub body_used : (p : Program) (scope : List Name) (body : Body) (n : ℕ) → body_values p scope body ≡ Ok n → AreIn scope (body_uses body)
  body_used p scope (Let at targets es rest) n h =
      let k = in_let p scope at targets es rest n h in
      both_in scope (list_uses es) (without (bound_by targets) (body_uses rest)) (list_used p scope es (length targets) k.1)
      (without_in (bound_by targets) scope (body_uses rest) (body_used p (bound_by targets ++ scope) rest n k.2))
  body_used p scope (Do es rest) n h =
      let k = in_do p scope es rest n h in both_in scope (list_uses es) (body_uses rest) (list_used p scope es k.0 k.1) (body_used p scope rest n k.2)
  body_used p scope (Give es) n h = list_used p scope es n h
  body_used p scope (Chain e) n h = used p scope e n h

  turn_used : (p : Program) (scope : List Name) (turn : Turn) (n : ℕ) → turn_values p (bare (names_of turn) ++ scope) turn ≡ Ok n → AreIn scope (turn_uses turn)
  turn_used p scope (Before xs q body) n h =
      let inner = bare xs ++ scope in let k = in_before p inner xs q body n h in
      without_in (bare xs) scope (uses q ++ body_uses body) (both_in inner (uses q) (body_uses body) (used p inner q 1 k.0.values)
      (body_used p inner body n k.1))
  turn_used p scope (After xs body q) n h =
      let inner = bare xs ++ scope in let k = in_after p inner xs body q n h in
      without_in (bare xs) scope (body_uses body ++ uses q) (both_in inner (body_uses body) (uses q) (body_used p inner body n k.0)
      (used p inner q 1 k.1.values))
