-- A program of the core fits the grammar with derived forms, and is as deep there.
use Rattle.std.specs.Prelude.{◌≡◌, ℕ, suc, ◌+◌, ◌<◌, ◌≤◌, ◌⊎◌, max, Bool, true, false, List, [], ◌∷◌, map, length, option_map, Option, None, Some, refl}
use Rattle.std.proofs.Common.{sym, ◌∙◌, ap, arith, inl, inr}
use Rattle.operators.specs.declared.Unary.{Unary}
use Rattle.operators.specs.declared.Unary.TheVariants.{Neg, Not}
use Rattle.source.specs.declared.word.InfixSign.{InfixSign}
use Rattle.source.specs.Tree as core
use Rattle.source.specs.Tree.{NameAt, NumberAt}
use Rattle.source.specs.Fits as core_fits
use Rattle.surface.specs.Tree.{names_of}
use Rattle.surface.specs.Fits.{level, IsLeast, is_if, count, Fits, FitsAll, FitsBody, FitsTurn, FitsItem, FitsProgram}
use Rattle.surface.specs.Fits.{IsSmallIfWritten, prefix_depth, depth, list_depth, body_depth, turn_depth, item_depth, program_depth}
use Rattle.surface.specs.Embedded.{written, embedded_expr, embedded_exprs, embedded_body, embedded_turn, value_param, embedded_item, embedded}

-- Only a store has level 0, and there it is the same.
level_is : (e : core.Expr) → 0 < core_fits.level e → level (embedded_expr e) ≡ 3 + core_fits.level e
level_is (core.Number at n) h = refl
level_is (core.Named at x) h = refl
level_is (core.Bracket e) h = refl
level_is (core.Prefix at op e) h = refl
level_is (core.Infix at s l r) h = refl
level_is (core.Fetch at a e) h = refl
level_is (core.Store at a e d) h = absurd (omega (arith, h))
level_is (core.Call at strict f es) h = refl
level_is (core.If at p l r) h = refl
level_is (core.Loop at bound firsts turn) h = refl

as_high : (e : core.Expr) (n : ℕ) → 0 < n → n ≤ core_fits.level e → 3 + n ≤ level (embedded_expr e)
as_high e n p h = let q : 0 < core_fits.level e = omega (arith, p, h) in omega (arith, level_is e q, h)

higher : (e : core.Expr) (n : ℕ) → n < core_fits.level e → 3 + n < level (embedded_expr e)
higher e n h = let q : 0 < core_fits.level e = omega (arith, h) in omega (arith, level_is e q, h)

left_is_high : (s : InfixSign) → 0 < core_fits.left_level s
left_is_high s = omega arith

least : (op : Unary) (e : core.Expr) → core_fits.IsLeast op e → IsLeast op (embedded_expr e)
least Neg (core.Number at n) h = h
least Neg (core.Named at x) h = absurd h
least Neg (core.Bracket e) h = absurd h
least Neg (core.Prefix at op e) h = absurd h
least Neg (core.Infix at s l r) h = absurd h
least Neg (core.Fetch at a e) h = absurd h
least Neg (core.Store at a e d) h = absurd h
least Neg (core.Call at strict f es) h = absurd h
least Neg (core.If at p l r) h = absurd h
least Neg (core.Loop at bound firsts turn) h = absurd h
least Not e h = absurd h

count_is : (es : core.Exprs) → count (embedded_exprs es) ≡ core_fits.count es
count_is (core.One e) = refl
count_is (core.More e es) = ap (λ (n : ℕ). suc n) (count_is es)

pub names_are : (turn : core.Turn) → names_of (embedded_turn turn) ≡ core.names_of turn
names_are (core.Before xs p body) = refl
names_are (core.After xs body p) = refl

if_is : (e : core.Expr) → is_if (embedded_expr e) ≡ core_fits.is_if e
if_is (core.Number at n) = refl
if_is (core.Named at x) = refl
if_is (core.Bracket e) = refl
if_is (core.Prefix at op e) = refl
if_is (core.Infix at s l r) = refl
if_is (core.Fetch at a e) = refl
if_is (core.Store at a e d) = refl
if_is (core.Call at strict f es) = refl
if_is (core.If at p l r) = refl
if_is (core.Loop at bound firsts turn) = refl

either_way : {A B C D : Type 0} → (A → C) → (B → D) → A ⊎ B → C ⊎ D
either_way f g (inl x) = inl (f x)
either_way f g (inr x) = inr (g x)

mutual
  fits : (e : core.Expr) → core_fits.Fits e → Fits (embedded_expr e)
  fits (core.Number at n) h = h
  fits (core.Named at x) h = tt
  fits (core.Bracket e) h = fits e h
  fits (core.Prefix at op e) h = (as_high e 8 (omega arith) h.0, either_way (λ g. fits e g) (λ g. least op e g) h.1)
  fits (core.Infix at s l r) h = (
    fits l h.0,
    as_high l (core_fits.left_level s) (left_is_high s) h.1,
    fits r h.2,
    higher r (core_fits.sign_level s) h.3,
  )
  fits (core.Fetch at a e) h = fits e h
  fits (core.Store at a e d) h = (fits e h.0, fits d h.1)
  fits (core.Call at strict f es) h = fits_all es h
  fits (core.If at p l r) h = (fits p h.0, fits_body false l h.1, fits_body true r h.2)
  fits (core.Loop at bound firsts turn) h = (
    h.0,
    fits_all firsts h.1,
    count_is firsts ∙ h.2 ∙ ap (λ (xs : List NameAt). length xs) (sym (names_are turn)),
    fits_turn turn h.3,
  )

  fits_all : (es : core.Exprs) → core_fits.FitsAll es → FitsAll (embedded_exprs es)
  fits_all (core.One e) h = fits e h
  fits_all (core.More e es) h = (fits e h.0, fits_all es h.1)

  fits_body : (b : Bool) (body : core.Body) → core_fits.FitsBody b body → FitsBody b (embedded_body body)
  fits_body b (core.Let at targets es rest) h = (h.0, fits_all es h.1, fits_body false rest h.2)
  fits_body b (core.Do es rest) h = (fits_all es h.0, fits_body false rest h.1)
  fits_body b (core.Give es) h = fits_all es h
  fits_body b (core.Chain e) h = (h.0, if_is e ∙ h.1, fits e h.2)

  fits_turn : (turn : core.Turn) → core_fits.FitsTurn turn → FitsTurn (embedded_turn turn)
  fits_turn (core.Before xs p body) h = (fits p h.0, fits_body false body h.1)
  fits_turn (core.After xs body p) h = (fits_body false body h.0, fits p h.1)

small : (n : Option NumberAt) → core_fits.IsSmall n → IsSmallIfWritten (option_map written n)
small None h = tt
small (Some n) h = h

pub params_length : (xs : List NameAt) → length (map value_param xs) ≡ length xs
params_length [] = refl
params_length (x ∷ xs) = ap (λ (n : ℕ). suc n) (params_length xs)

fits_item : (i : core.Item) → core_fits.FitsItem i → FitsItem (embedded_item i)
fits_item (core.Cells x len) h = h
fits_item (core.Defines f) h = (omega (arith, params_length f.params, h.0), small f.results h.1, fits_body false f.body h.2)

pub fits_program : (p : core.Program) → core_fits.FitsProgram p → FitsProgram (embedded p)
fits_program [] h = tt
fits_program (i ∷ items) h = (fits_item i h.0, fits_program items h.1)

-- DEPTH
prefix_is : (op : Unary) (e : core.Expr) (d : ℕ) → prefix_depth op (embedded_expr e) d ≡ core_fits.prefix_depth op e d
prefix_is Neg (core.Number at n) d = refl
prefix_is Neg (core.Named at x) d = refl
prefix_is Neg (core.Bracket e) d = refl
prefix_is Neg (core.Prefix at op e) d = refl
prefix_is Neg (core.Infix at s l r) d = refl
prefix_is Neg (core.Fetch at a e) d = refl
prefix_is Neg (core.Store at a e x) d = refl
prefix_is Neg (core.Call at strict f es) d = refl
prefix_is Neg (core.If at p l r) d = refl
prefix_is Neg (core.Loop at bound firsts turn) d = refl
prefix_is Not e d = refl

next : {m n : ℕ} → m ≡ n → suc m ≡ suc n
next h = ap (λ (n : ℕ). suc n) h

larger : {m n k l : ℕ} → m ≡ n → k ≡ l → max m k ≡ max n l
larger {n = n} {k = k} h g = ap (λ (x : ℕ). max x k) h ∙ ap (λ (x : ℕ). max n x) g

mutual
  as_deep : (e : core.Expr) → depth (embedded_expr e) ≡ core_fits.depth e
  as_deep (core.Number at n) = refl
  as_deep (core.Named at x) = refl
  as_deep (core.Bracket e) = next (as_deep e)
  as_deep (core.Prefix at op e) = ap (λ (d : ℕ). prefix_depth op (embedded_expr e) d) (as_deep e) ∙ prefix_is op e (core_fits.depth e)
  as_deep (core.Infix at s l r) = larger (as_deep l) (as_deep r)
  as_deep (core.Fetch at a e) = next (as_deep e)
  as_deep (core.Store at a e d) = larger (next (as_deep e)) (next (as_deep d)) ∙ omega arith
  as_deep (core.Call at strict f es) = list_as_deep es
  as_deep (core.If at p l r) = next (larger (next (as_deep p)) (larger (body_as_deep l) (body_as_deep r)))
  as_deep (core.Loop at bound firsts turn) = larger (list_as_deep firsts) (turn_as_deep turn)

  list_as_deep : (es : core.Exprs) → list_depth (embedded_exprs es) ≡ core_fits.list_depth es
  list_as_deep (core.One e) = next (as_deep e)
  list_as_deep (core.More e es) = larger (next (as_deep e)) (list_as_deep es)

  body_as_deep : (body : core.Body) → body_depth (embedded_body body) ≡ core_fits.body_depth body
  body_as_deep (core.Let at targets es rest) = larger (list_as_deep es) (body_as_deep rest)
  body_as_deep (core.Do es rest) = larger (list_as_deep es) (body_as_deep rest)
  body_as_deep (core.Give es) = list_as_deep es
  body_as_deep (core.Chain e) = as_deep e

  turn_as_deep : (turn : core.Turn) → turn_depth (embedded_turn turn) ≡ core_fits.turn_depth turn
  turn_as_deep (core.Before xs p body) = larger (next (as_deep p)) (body_as_deep body)
  turn_as_deep (core.After xs body p) = larger (body_as_deep body) (next (as_deep p))

item_shallow : (i : core.Item) → core_fits.item_depth i ≤ 200 → item_depth (embedded_item i) ≤ 200
item_shallow (core.Cells x len) h = omega arith
item_shallow (core.Defines f) h = omega (arith, body_as_deep f.body, h)

pub program_shallow : (p : core.Program) → core_fits.program_depth p ≤ 200 → program_depth (embedded p) ≤ 200
program_shallow [] h = omega arith
program_shallow (i ∷ items) h =
    let first : core_fits.item_depth i ≤ 200 = omega (arith, h) in
    let rest : core_fits.program_depth items ≤ 200 = omega (arith, h) in
    omega (arith, item_shallow i first, program_shallow items rest)
