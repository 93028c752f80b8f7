-- A part of a core program is too deep exactly if the program is.
use Rattle.std.specs.Prelude.{◌≡◌, ℕ, suc, ◌+◌, ◌==◌, ◌≤◌, max, nat_lt, Bool, true, false, [], ◌∷◌, Option, None, Some, refl, if◌then◌else◌}
use Rattle.std.proofs.Common.{sym, ◌∙◌, ap, arith, eqb-true, ltb-true, ltb-false}
use Rattle.operators.specs.declared.Unary.{Unary}
use Rattle.operators.specs.declared.Unary.TheVariants.{Neg, Not}
use Rattle.source.specs.Tree.{Expr, Number, Named, Bracket, Prefix, Infix, Fetch, Store, Call, If, Loop, Exprs, One, More, Body, Let, Do, Give, Chain}
use Rattle.source.specs.Tree.{Turn, Before, After, Item, Cells, Defines, Program}
use Rattle.source.specs.Fits.{prefix_depth, depth, list_depth, body_depth, turn_depth, item_depth, program_depth}
use Rattle.source.specs.Rules.{place_of}
use Rattle.surface.specs.Deep.{or_then, opened, prefix_opened, too_deep, list_too_deep, body_too_deep, turn_too_deep, item_too_deep, program_too_deep}
use Rattle.law_surface.specs.DepthIsFound.{DepthIsFound}

-- ONE MORE IS OPEN
opens : (at d x : ℕ) (inner : Option ℕ) → d + suc x ≤ 200 → inner ≡ None → opened at d inner ≡ None
opens at d x inner h e = go (d == 200) refl
  where
    go : (b : Bool) → (d == 200) ≡ b → (if b then Some at else inner) ≡ None
    go true i = absurd (omega (arith, eqb-true d 200 i, h))
    go false i = e

not_at : (m : ℕ) → (m == 200) ≡ false → m ≡ 200 → ⊥
not_at m j same = let wrong : (200 == 200) ≡ false = ap (λ (n : ℕ). n == 200) (sym same) ∙ j in cc

below : (m : ℕ) → m ≤ 200 → (m == 200) ≡ false → m + 1 ≤ 200
below m g j = go (nat_lt m 200) refl
  where
    go : (b : Bool) → nat_lt m 200 ≡ b → m + 1 ≤ 200
    go true i = omega (arith, ltb-true m 200 i)
    go false i = absurd (not_at m j (omega (arith, ltb-false m 200 i, g)))

opened_is : (at d : ℕ) (inner : Option ℕ) → d ≤ 200 → opened at d inner ≡ None → (d + 1 ≤ 200) × (inner ≡ None)
opened_is at d inner h e = go (d == 200) refl e
  where
    go : (b : Bool) → (d == 200) ≡ b → (if b then Some at else inner) ≡ None → (d + 1 ≤ 200) × (inner ≡ None)
    go true i k = cc
    go false i k = (below d h i, k)

two_none : (a b : Option ℕ) → a ≡ None → b ≡ None → or_then a b ≡ None
two_none a b h g = rw h g

two_are : (a b : Option ℕ) → or_then a b ≡ None → (a ≡ None) × (b ≡ None)
two_are None b h = (refl, h)
two_are (Some at) b h = cc

-- WHAT IS SHALLOW has no such part.
prefix_shallow : (d : ℕ) (op : Unary) (e : Expr) (inner : Option ℕ) → d + prefix_depth op e (depth e) ≤ 200 → (d + suc (depth e) ≤ 200 → inner ≡ None)
    → prefix_opened op e d inner ≡ None
prefix_shallow d Neg (Number at n) inner h g = refl
prefix_shallow d Neg (Named at x) inner h g = opens at d 0 inner h (g h)
prefix_shallow d Neg (Bracket e) inner h g = opens (place_of e) d (depth (Bracket e)) inner h (g h)
prefix_shallow d Neg (Prefix at op e) inner h g = opens at d (depth (Prefix at op e)) inner h (g h)
prefix_shallow d Neg (Infix at s l r) inner h g = opens at d (depth (Infix at s l r)) inner h (g h)
prefix_shallow d Neg (Fetch at a e) inner h g = opens at d (depth (Fetch at a e)) inner h (g h)
prefix_shallow d Neg (Store at a e x) inner h g = opens at d (depth (Store at a e x)) inner h (g h)
prefix_shallow d Neg (Call at strict f es) inner h g = opens at d (depth (Call at strict f es)) inner h (g h)
prefix_shallow d Neg (If at p l r) inner h g = opens at d (depth (If at p l r)) inner h (g h)
prefix_shallow d Neg (Loop at bound firsts turn) inner h g = opens at d (depth (Loop at bound firsts turn)) inner h (g h)
prefix_shallow d Not e inner h g = opens (place_of e) d (depth e) inner h (g h)

mutual
  none : (d : ℕ) (e : Expr) → d + depth e ≤ 200 → too_deep d e ≡ None
  none d (Number at n) h = refl
  none d (Named at x) h = refl
  none d (Bracket e) h = opens (place_of e) d (depth e) (too_deep (d + 1) e) h (none (d + 1) e (omega (arith, h)))
  none d (Prefix at op e) h = prefix_shallow d op e (too_deep (d + 1) e) h (λ g. none (d + 1) e (omega (arith, g)))
  none d (Infix at s l r) h = two_none (too_deep d l) (too_deep d r) (none d l (omega (arith, h))) (none d r (omega (arith, h)))
  none d (Fetch at a e) h = opens (place_of e) d (depth e) (too_deep (d + 1) e) h (none (d + 1) e (omega (arith, h)))
  none d (Store at a e x) h = two_none (opened (place_of e) d (too_deep (d + 1) e)) (opened (place_of x) d (too_deep (d + 1) x)) (opens (place_of e) d (depth
      e) (too_deep (d + 1) e) (omega (arith, h)) (none (d + 1) e (omega (arith, h)))) (opens (place_of x) d (depth x) (too_deep (d + 1) x) (omega (arith, h))
      (none (d + 1) x (omega (arith, h))))
  none d (Call at strict f es) h = list_none d es h
  none d (If at p l r) h = opens at d (max (suc (depth p)) (max (body_depth l) (body_depth r))) (or_then (opened (place_of p) (d + 1) (too_deep (d + 2) p))
      (or_then (body_too_deep (d + 1) l) (body_too_deep (d + 1) r))) h (two_none (opened (place_of p) (d + 1) (too_deep (d + 2) p)) (or_then (body_too_deep (d
      + 1) l) (body_too_deep (d + 1) r)) (opens (place_of p) (d + 1) (depth p) (too_deep (d + 2) p) (omega (arith, h)) (none (d + 2) p (omega (arith, h))))
      (two_none (body_too_deep (d + 1) l) (body_too_deep (d + 1) r) (body_none (d + 1) l (omega (arith, h))) (body_none (d + 1) r (omega (arith, h)))))
  none d (Loop at bound firsts turn) h = two_none (list_too_deep d firsts) (turn_too_deep d turn) (list_none d firsts (omega (arith, h))) (turn_none d turn
      (omega (arith, h)))

  list_none : (d : ℕ) (es : Exprs) → d + list_depth es ≤ 200 → list_too_deep d es ≡ None
  list_none d (One e) h = opens (place_of e) d (depth e) (too_deep (d + 1) e) h (none (d + 1) e (omega (arith, h)))
  list_none d (More e es) h = two_none (opened (place_of e) d (too_deep (d + 1) e)) (list_too_deep d es) (opens (place_of e) d (depth e) (too_deep (d + 1) e)
      (omega (arith, h)) (none (d + 1) e (omega (arith, h)))) (list_none d es (omega (arith, h)))

  body_none : (d : ℕ) (body : Body) → d + body_depth body ≤ 200 → body_too_deep d body ≡ None
  body_none d (Let at targets es rest) h = two_none (list_too_deep d es) (body_too_deep d rest) (list_none d es (omega (arith, h))) (body_none d rest (omega
      (arith, h)))
  body_none d (Do es rest) h = two_none (list_too_deep d es) (body_too_deep d rest) (list_none d es (omega (arith, h))) (body_none d rest (omega (arith, h)))
  body_none d (Give es) h = list_none d es h
  body_none d (Chain e) h = none d e h

  turn_none : (d : ℕ) (turn : Turn) → d + turn_depth turn ≤ 200 → turn_too_deep d turn ≡ None
  turn_none d (Before xs p body) h = two_none (opened (place_of p) d (too_deep (d + 1) p)) (body_too_deep d body) (opens (place_of p) d (depth p) (too_deep (d
      + 1) p) (omega (arith, h)) (none (d + 1) p (omega (arith, h)))) (body_none d body (omega (arith, h)))
  turn_none d (After xs body p) h = two_none (body_too_deep d body) (opened (place_of p) d (too_deep (d + 1) p)) (body_none d body (omega (arith, h))) (opens
      (place_of p) d (depth p) (too_deep (d + 1) p) (omega (arith, h)) (none (d + 1) p (omega (arith, h))))

item_none : (i : Item) → item_depth i ≤ 200 → item_too_deep i ≡ None
item_none (Cells x len) h = refl
item_none (Defines f) h = body_none 0 f.body (omega (arith, h))

program_none : (p : Program) → program_depth p ≤ 200 → program_too_deep p ≡ None
program_none [] h = refl
program_none (i ∷ items) h = two_none (item_too_deep i) (program_too_deep items) (item_none i (omega (arith, h))) (program_none items (omega (arith, h)))

-- WHAT HAS NO SUCH PART is shallow.
prefix_is : (d : ℕ) (op : Unary) (e : Expr) (inner : Option ℕ) → d ≤ 200 → prefix_opened op e d inner ≡ None → (d + 1 ≤ 200 → inner ≡ None → d + 1 + depth e ≤
    200) → d + prefix_depth op e (depth e) ≤ 200
prefix_is d Neg (Number at n) inner h e g = omega (arith, h)
prefix_is d Neg (Named at x) inner h e g = let o = opened_is at d inner h e in omega (arith, g o.0 o.1)
prefix_is d Neg (Bracket x) inner h e g = let o = opened_is (place_of x) d inner h e in omega (arith, g o.0 o.1)
prefix_is d Neg (Prefix at op x) inner h e g = let o = opened_is at d inner h e in omega (arith, g o.0 o.1)
prefix_is d Neg (Infix at s l r) inner h e g = let o = opened_is at d inner h e in omega (arith, g o.0 o.1)
prefix_is d Neg (Fetch at a x) inner h e g = let o = opened_is at d inner h e in omega (arith, g o.0 o.1)
prefix_is d Neg (Store at a x y) inner h e g = let o = opened_is at d inner h e in omega (arith, g o.0 o.1)
prefix_is d Neg (Call at strict f es) inner h e g = let o = opened_is at d inner h e in omega (arith, g o.0 o.1)
prefix_is d Neg (If at p l r) inner h e g = let o = opened_is at d inner h e in omega (arith, g o.0 o.1)
prefix_is d Neg (Loop at bound firsts turn) inner h e g = let o = opened_is at d inner h e in omega (arith, g o.0 o.1)
prefix_is d Not x inner h e g = let o = opened_is (place_of x) d inner h e in omega (arith, g o.0 o.1)

inner : (d : ℕ) (x : Expr) → d ≤ 200 → opened (place_of x) d (too_deep (d + 1) x) ≡ None → (d + 1 ≤ 200 → too_deep (d + 1) x ≡ None → d + 1 + depth x ≤ 200)
    → d + suc (depth x) ≤ 200
inner d x h e deeper =
    let o = opened_is (place_of x) d (too_deep (d + 1) x) h e in omega (arith, deeper o.0 o.1)

mutual
  shallow : (d : ℕ) (e : Expr) → d ≤ 200 → too_deep d e ≡ None → d + depth e ≤ 200
  shallow d (Number at n) h e = omega (arith, h)
  shallow d (Named at x) h e = omega (arith, h)
  shallow d (Bracket x) h e = inner d x h e (λ a b. shallow (d + 1) x a b)
  shallow d (Prefix at op x) h e = prefix_is d op x (too_deep (d + 1) x) h e (λ a b. shallow (d + 1) x a b)
  shallow d (Infix at s l r) h e =
      let t = two_are (too_deep d l) (too_deep d r) e in omega (arith, shallow d l h t.0, shallow d r h t.1)
  shallow d (Fetch at a x) h e = inner d x h e (λ a b. shallow (d + 1) x a b)
  shallow d (Store at a x y) h e =
      let t = two_are (opened (place_of x) d (too_deep (d + 1) x)) (opened (place_of y) d (too_deep (d + 1) y)) e in
      omega (arith, inner d x h t.0 (λ a b. shallow (d + 1) x a b), inner d y h t.1 (λ a b. shallow (d + 1) y a b))
  shallow d (Call at strict f es) h e = list_shallow d es h e
  shallow d (If at p l r) h e =
      let o = opened_is at d (or_then (opened (place_of p) (d + 1) (too_deep (d + 2) p)) (or_then (body_too_deep (d + 1) l) (body_too_deep (d + 1) r))) h e in
      let t = two_are (opened (place_of p) (d + 1) (too_deep (d + 2) p)) (or_then (body_too_deep (d + 1) l) (body_too_deep (d + 1) r)) o.1 in
      let u = two_are (body_too_deep (d + 1) l) (body_too_deep (d + 1) r) t.1 in
      let i = opened_is (place_of p) (d + 1) (too_deep (d + 2) p) o.0 t.0 in
      let room : d + 2 ≤ 200 = omega (arith, i.0) in
      omega (arith, shallow (d + 2) p room i.1, body_shallow (d + 1) l o.0 u.0, body_shallow (d + 1) r o.0 u.1)
  shallow d (Loop at bound firsts turn) h e =
      let t = two_are (list_too_deep d firsts) (turn_too_deep d turn) e in omega (arith, list_shallow d firsts h t.0, turn_shallow d turn h t.1)

  list_shallow : (d : ℕ) (es : Exprs) → d ≤ 200 → list_too_deep d es ≡ None → d + list_depth es ≤ 200
  list_shallow d (One x) h e = inner d x h e (λ a b. shallow (d + 1) x a b)
  list_shallow d (More x es) h e =
      let t = two_are (opened (place_of x) d (too_deep (d + 1) x)) (list_too_deep d es) e in omega (arith, inner d x h t.0 (λ a b. shallow (d + 1) x a b), list_shallow d es h t.1)

  body_shallow : (d : ℕ) (body : Body) → d ≤ 200 → body_too_deep d body ≡ None → d + body_depth body ≤ 200
  body_shallow d (Let at targets es rest) h e =
      let t = two_are (list_too_deep d es) (body_too_deep d rest) e in omega (arith, list_shallow d es h t.0, body_shallow d rest h t.1)
  body_shallow d (Do es rest) h e =
      let t = two_are (list_too_deep d es) (body_too_deep d rest) e in omega (arith, list_shallow d es h t.0, body_shallow d rest h t.1)
  body_shallow d (Give es) h e = list_shallow d es h e
  body_shallow d (Chain x) h e = shallow d x h e

  turn_shallow : (d : ℕ) (turn : Turn) → d ≤ 200 → turn_too_deep d turn ≡ None → d + turn_depth turn ≤ 200
  turn_shallow d (Before xs p body) h e =
      let t = two_are (opened (place_of p) d (too_deep (d + 1) p)) (body_too_deep d body) e in omega (arith, inner d p h t.0 (λ a b. shallow (d + 1) p a b), body_shallow d body h t.1)
  turn_shallow d (After xs body p) h e =
      let t = two_are (body_too_deep d body) (opened (place_of p) d (too_deep (d + 1) p)) e in omega (arith, body_shallow d body h t.0, inner d p h t.1 (λ a b. shallow (d + 1) p a b))

item_shallow : (i : Item) → item_too_deep i ≡ None → item_depth i ≤ 200
item_shallow (Cells x len) e = omega arith
item_shallow (Defines f) e = omega (arith, body_shallow 0 f.body (omega arith) e)

program_shallow : (p : Program) → program_too_deep p ≡ None → program_depth p ≤ 200
program_shallow [] e = omega arith
program_shallow (i ∷ items) e =
    let t = two_are (item_too_deep i) (program_too_deep items) e in omega (arith, item_shallow i t.0, program_shallow items t.1)

pub depth_is_found : DepthIsFound
depth_is_found p = (program_shallow p, program_none p)
