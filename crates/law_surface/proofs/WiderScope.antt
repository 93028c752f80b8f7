-- A part that keeps the rules of the core keeps them in a wider scope.
use Rattle.std.specs.Prelude.{◌≡◌, ℕ, ◌==◌, ◌||◌, Bool, true, false, List, [], ◌∷◌, ◌++◌, length, Ok, ⊤, refl}
use Rattle.std.proofs.Common.{sym, ◌∙◌, ap}
use Rattle.lemmas.proofs.Bools.{equal_itself, or_true}
use Rattle.semantics.specs.Graph.{same_name}
use Rattle.source.specs.Tree.{Name, NameAt, Expr, Number, Named, Bracket, Prefix, Infix, Fetch, Store, Call, If, Loop, Exprs, One, More}
use Rattle.source.specs.Tree.{Body, Let, Do, Give, Chain, Turn, Before, After, Program, names_of}
use Rattle.source.specs.Spelled.{others}
use Rattle.source.specs.Outside.{is_in, bare, bound_by}
use Rattle.source.specs.First.{◌>>=◌}
use Rattle.source.specs.Rules.{and_first, new_first, one_value, values, list_values, first_values, body_values, turn_values}
use Rattle.source.proofs.Steps.{then_ok}
use Rattle.source.proofs.Kept.{known_name, in_prefix, in_infix, in_fetch, in_store, IsCalled, in_call, in_if, IsTurned, in_loop, in_more}
use Rattle.source.proofs.Kept.{in_first, in_firsts, in_let, in_do, in_before, in_after}

-- each name of the one scope is in the other
abbrev pub Includes : List Name → List Name → Type 0
Includes scope wider = (x : Name) → is_in x scope ≡ true → is_in x wider ≡ true

or_before : (a b c : Bool) → (b ≡ true → c ≡ true) → (a || b) ≡ true → (a || c) ≡ true
or_before true b c h e = refl
or_before false b c h e = h e

pub behind_same : (xs scope wider : List Name) → Includes scope wider → Includes (xs ++ scope) (xs ++ wider)
behind_same [] scope wider h x e = h x e
behind_same (y ∷ xs) scope wider h x e = or_before (same_name x y) (is_in x (xs ++ scope)) (is_in x (xs ++ wider)) (λ i. behind_same xs scope wider h x i) e

pub behind_more : (xs scope : List Name) → Includes scope (xs ++ scope)
behind_more [] scope x e = e
behind_more (y ∷ xs) scope x e = ap (λ (b : Bool). same_name x y || b) (behind_more xs scope x e) ∙ or_true (same_name x y)

mutual
  pub wide : (p : Program) (scope wider : List Name) → Includes scope wider → (e : Expr) (n : ℕ) → values p scope e ≡ Ok n → values p wider e ≡ Ok n
  wide p scope wider w (Number at v) n h = h
  wide p scope wider w (Named at x) n h =
      let s = known_name p scope at x n h in rw (w x s.0) (ap (λ (n : ℕ). Ok n) s.1)
  wide p scope wider w (Bracket e) n h = wide p scope wider w e n h
  wide p scope wider w (Prefix at op e) n h =
      let s = in_prefix p scope at op e n h in rw (wide p scope wider w e 1 s.0.values) (ap (λ (n : ℕ). Ok n) s.1)
  wide p scope wider w (Infix at sign l r) n h =
      let s = in_infix p scope at sign l r n h in
      rw (wide p scope wider w l 1 s.0.values) (rw (wide p scope wider w r 1 s.1.values) (ap (λ (n : ℕ). Ok n) s.2))
  wide p scope wider w (Fetch at a e) n h =
      let s = in_fetch p scope at a e n h in rw s.0 (rw (wide p scope wider w e 1 s.1.values) (ap (λ (n : ℕ). Ok n) s.2))
  wide p scope wider w (Store at a e d) n h =
      let s = in_store p scope at a e d n h in
      rw s.0 (rw (wide p scope wider w e 1 s.1.values) (rw (wide p scope wider w d 1 s.2.values) (ap (λ (n : ℕ). Ok n) s.3)))
  wide p scope wider w (Call at strict f es) n h =
      let s : IsCalled p scope f es n = in_call p scope at strict f es n h in
      rw s.found (rw (list_wide p scope wider w es (length s.function.params) s.arguments) (rw (equal_itself (length s.function.params)) (ap (λ (n : ℕ). Ok n)
      s.results)))
  wide p scope wider w (If at q l r) n h =
      let s = in_if p scope at q l r n h in
      rw (wide p scope wider w q 1 s.0.values) (rw (body_wide p scope wider w l n s.1) (rw (body_wide p scope wider w r n s.2) (rw (equal_itself n) refl)))
  wide p scope wider w (Loop at bound firsts turn) n h =
      let s : IsTurned p scope bound firsts turn n = in_loop p scope at bound firsts turn n h in
      rw s.small (rw (firsts_wide p scope wider w [] (names_of turn) firsts s.begun) (rw (turn_wide p (bare (names_of turn) ++ scope) (bare (names_of turn) ++
      wider) (behind_same (bare (names_of turn)) scope wider w) turn n s.turns) (rw (ap (λ (l : ℕ). n == l) (sym s.names) ∙ equal_itself n) (rw s.carried refl))))

  pub list_wide : (p : Program) (scope wider : List Name) → Includes scope wider → (es : Exprs) (n : ℕ) → list_values p scope es ≡ Ok n → list_values p wider
      es ≡ Ok n
  list_wide p scope wider w (One e) n h = wide p scope wider w e n h
  list_wide p scope wider w (More e es) n h =
      let s = in_more p scope e es n h in
      rw (wide p scope wider w e s.0 s.2) (rw (list_wide p scope wider w es s.1 s.3) (ap (λ (n : ℕ). Ok n) s.4))

  pub firsts_wide : (p : Program) (scope wider : List Name) → Includes scope wider → (before : List Name) (xs : List NameAt) (es : Exprs)
      → first_values p scope before xs es ≡ Ok tt → first_values p wider before xs es ≡ Ok tt
  firsts_wide p scope wider w before xs (One e) h =
      let s = in_first p scope before xs e h in
      let new = then_ok (new_first p before xs) (λ new. values p scope e >>= (λ m. one_value e m >>= (λ one. Ok tt))) tt h in
      rw new.1 (rw (wide p scope wider w e 1 s.values) refl)
  firsts_wide p scope wider w before xs (More e es) h =
      let s = in_firsts p scope before xs e es h in
      let new = then_ok (new_first p before xs) (λ new. values p scope e >>= (λ m. one_value e m >>= (λ one. first_values p scope (and_first before xs)
      (others xs) es))) tt h in
      rw new.1 (rw (wide p scope wider w e 1 s.0.values) (firsts_wide p scope wider w (and_first before xs) (others xs) es s.1))

  pub body_wide : (p : Program) (scope wider : List Name) → Includes scope wider → (body : Body) (n : ℕ) → body_values p scope body ≡ Ok n → body_values p
      wider body ≡ Ok n
  body_wide p scope wider w (Let at targets es rest) n h =
      let s = in_let p scope at targets es rest n h in
      rw s.0 (rw (list_wide p scope wider w es (length targets) s.1) (rw (equal_itself (length targets)) (body_wide p (bound_by targets ++ scope) (bound_by
      targets ++ wider) (behind_same (bound_by targets) scope wider w) rest n s.2)))
  body_wide p scope wider w (Do es rest) n h =
      let s = in_do p scope es rest n h in rw (list_wide p scope wider w es s.0 s.1) (body_wide p scope wider w rest n s.2)
  body_wide p scope wider w (Give es) n h = list_wide p scope wider w es n h
  body_wide p scope wider w (Chain e) n h = wide p scope wider w e n h

  pub turn_wide : (p : Program) (scope wider : List Name) → Includes scope wider → (turn : Turn) (n : ℕ) → turn_values p scope turn ≡ Ok n → turn_values p
      wider turn ≡ Ok n
  turn_wide p scope wider w (Before xs q body) n h =
      let s = in_before p scope xs q body n h in rw (wide p scope wider w q 1 s.0.values) (body_wide p scope wider w body n s.1)
  turn_wide p scope wider w (After xs body q) n h =
      let s = in_after p scope xs body q n h in rw (body_wide p scope wider w body n s.0) (rw (wide p scope wider w q 1 s.1.values) refl)
