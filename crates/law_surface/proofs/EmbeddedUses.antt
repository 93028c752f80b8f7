-- A turn of the core takes no more names from outside with derived forms: fewer, where some are those of items.
use Rattle.std.specs.Prelude.{◌≡◌, ◌≤◌, not, Bool, true, false, List, [], ◌∷◌, ◌++◌, filter, length, refl}
use Rattle.std.proofs.Common.{sym, ◌∙◌, ap, arith}
use Rattle.source.specs.Tree as core
use Rattle.source.specs.Tree.{Name}
use Rattle.source.specs.Outside as core_outside
use Rattle.source.specs.Outside.{is_in, without, once, bare, bound_by}
use Rattle.semantics.specs.Graph.{same_name}
use Rattle.semantics.proofs.Lines.{same_name_is}
use Rattle.surface.specs.Outside.{uses, list_uses, body_uses, turn_uses, outside_turn}
use Rattle.surface.specs.Embedded.{embedded_expr, embedded_exprs, embedded_body, embedded_turn}

side : {xs ys us vs : List Name} → xs ≡ ys → us ≡ vs → xs ++ us ≡ ys ++ vs
side {ys = ys} {us = us} h g = ap (λ (zs : List Name). zs ++ us) h ∙ ap (λ (zs : List Name). ys ++ zs) g

fewer : (bound : List Name) {xs ys : List Name} → xs ≡ ys → without bound xs ≡ without bound ys
fewer bound h = ap (λ (zs : List Name). without bound zs) h

mutual
  same : (e : core.Expr) → uses (embedded_expr e) ≡ core_outside.uses e
  same (core.Number at n) = refl
  same (core.Named at x) = refl
  same (core.Bracket e) = same e
  same (core.Prefix at op e) = same e
  same (core.Infix at s l r) = side (same l) (same r)
  same (core.Fetch at a e) = same e
  same (core.Store at a e d) = side (same e) (same d)
  same (core.Call at strict f es) = list_same es
  same (core.If at p l r) = side (side (same p) (body_same l)) (body_same r)
  same (core.Loop at bound firsts turn) = side (list_same firsts) (turn_same turn)

  list_same : (es : core.Exprs) → list_uses (embedded_exprs es) ≡ core_outside.list_uses es
  list_same (core.One e) = same e
  list_same (core.More e es) = side (same e) (list_same es)

  body_same : (body : core.Body) → body_uses (embedded_body body) ≡ core_outside.body_uses body
  body_same (core.Let at targets es rest) = side (list_same es) (fewer (bound_by targets) (body_same rest))
  body_same (core.Do es rest) = side (list_same es) (body_same rest)
  body_same (core.Give es) = list_same es
  body_same (core.Chain e) = same e

  turn_same : (turn : core.Turn) → turn_uses (embedded_turn turn) ≡ core_outside.turn_uses turn
  turn_same (core.Before xs p body) = fewer (bare xs) (side (same p) (body_same body))
  turn_same (core.After xs body p) = fewer (bare xs) (side (body_same body) (same p))

-- FILTERS
kept : {X : Type 0} (f : X → Bool) (x : X) (xs : List X) → f x ≡ true → filter f (x ∷ xs) ≡ x ∷ filter f xs
kept f x xs h = rw h refl

dropped : {X : Type 0} (f : X → Bool) (x : X) (xs : List X) → f x ≡ false → filter f (x ∷ xs) ≡ filter f xs
dropped f x xs h = rw h refl

pub shorter : (f : Name → Bool) (xs : List Name) → length (filter f xs) ≤ length xs
shorter f [] = omega arith
shorter f (x ∷ xs) = go (f x) refl (shorter f xs)
  where
    go : (b : Bool) → f x ≡ b → length (filter f xs) ≤ length xs → length (filter f (x ∷ xs)) ≤ length (x ∷ xs)
    go true h g = omega (arith, ap (λ (ys : List Name). length ys) (kept f x xs h), g)
    go false h g = omega (arith, ap (λ (ys : List Name). length ys) (dropped f x xs h), g)

either_first : (f g : Name → Bool) (xs : List Name) → filter f (filter g xs) ≡ filter g (filter f xs)
either_first f g [] = refl
either_first f g (x ∷ xs) = go (f x) (g x) refl refl (either_first f g xs)
  where
    go : (b c : Bool) → f x ≡ b → g x ≡ c → filter f (filter g xs) ≡ filter g (filter f xs) → filter f (filter g (x ∷ xs)) ≡ filter g (filter f (x ∷ xs))
    go true true h e i = ap (λ (ys : List Name). filter f ys) (kept g x xs e) ∙ kept f x (filter g xs) h ∙ ap (λ (ys : List Name). x ∷ ys) i
        ∙ sym (kept g x (filter f xs) e) ∙ sym (ap (λ (ys : List Name). filter g ys) (kept f x xs h))
    go true false h e i = ap (λ (ys : List Name). filter f ys) (dropped g x xs e) ∙ i
        ∙ sym (dropped g x (filter f xs) e) ∙ sym (ap (λ (ys : List Name). filter g ys) (kept f x xs h))
    go false true h e i = ap (λ (ys : List Name). filter f ys) (kept g x xs e) ∙ dropped f x (filter g xs) h ∙ i
        ∙ sym (ap (λ (ys : List Name). filter g ys) (dropped f x xs h))
    go false false h e i = ap (λ (ys : List Name). filter f ys) (dropped g x xs e) ∙ i ∙ sym (ap (λ (ys : List Name). filter g ys) (dropped f x xs h))

abbrev other : Name → Name → Bool
other x y = not (same_name x y)

-- what a test drops need not be dropped before it
not_before : (f : Name → Bool) (x : Name) (ys : List Name) → f x ≡ false → filter f (filter (other x) ys) ≡ filter f ys
not_before f x [] h = refl
not_before f x (y ∷ ys) h = go (same_name x y) refl (not_before f x ys h)
  where
    go : (b : Bool) → same_name x y ≡ b → filter f (filter (other x) ys) ≡ filter f ys → filter f (filter (other x) (y ∷ ys)) ≡ filter f (y ∷ ys)
    go true e i =
        let gone : f y ≡ false = ap f (sym (same_name_is x y e)) ∙ h in
        ap (λ (zs : List Name). filter f zs) (dropped (other x) y ys (ap (λ (b : Bool). not b) e)) ∙ i ∙ sym (dropped f y ys gone)
    go false e i = ap (λ (zs : List Name). filter f zs) (kept (other x) y ys (ap (λ (b : Bool). not b) e)) ∙ again (f y) refl i
      where
        again : (b : Bool) → f y ≡ b → filter f (filter (other x) ys) ≡ filter f ys → filter f (y ∷ filter (other x) ys) ≡ filter f (y ∷ ys)
        again true k j = kept f y (filter (other x) ys) k ∙ ap (λ (zs : List Name). y ∷ zs) j ∙ sym (kept f y ys k)
        again false k j = dropped f y (filter (other x) ys) k ∙ j ∙ sym (dropped f y ys k)

once_first : (f : Name → Bool) (xs : List Name) → once (filter f xs) ≡ filter f (once xs)
once_first f [] = refl
once_first f (x ∷ xs) = go (f x) refl (once_first f xs)
  where
    go : (b : Bool) → f x ≡ b → once (filter f xs) ≡ filter f (once xs) → once (filter f (x ∷ xs)) ≡ filter f (once (x ∷ xs))
    go true h i = ap (λ (ys : List Name). once ys) (kept f x xs h) ∙ ap (λ (ys : List Name). x ∷ filter (other x) ys) i
        ∙ ap (λ (ys : List Name). x ∷ ys) (either_first (other x) f (once xs)) ∙ sym (kept f x (filter (other x) (once xs)) h)
    go false h i = ap (λ (ys : List Name). once ys) (dropped f x xs h) ∙ i ∙ sym (not_before f x (once xs) h) ∙ sym (dropped f x (filter (other x) (once
        xs)) h)

-- so a turn takes no more
pub no_more : (others : List Name) (turn : core.Turn) → length (outside_turn others (embedded_turn turn)) ≤ length (core_outside.outside_turn turn)
no_more others turn =
    let f : Name → Bool = λ x. not (is_in x others) in
    let same : outside_turn others (embedded_turn turn) ≡ filter f (once (core_outside.turn_uses turn)) =
    ap (λ (xs : List Name). once (without others xs)) (turn_same turn) ∙ once_first f (core_outside.turn_uses turn) in
    omega (arith, ap (λ (xs : List Name). length xs) same, shorter f (once (core_outside.turn_uses turn)))
