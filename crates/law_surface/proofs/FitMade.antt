-- What is made of parts fits the grammar of the core where the parts do.
use Rattle.std.specs.Prelude.{◌≡◌, ℕ, suc, ◌<◌, ◌≤◌, nat_lt, Bool, true, false, IsTrue, List, [], ◌∷◌, ◌++◌, length}
use Rattle.std.specs.Prelude.{Option, None, Some, refl, ⊤, if◌then◌else◌}
use Rattle.std.proofs.Common.{ap, arith, inl, ltb-false}
use Rattle.operators.specs.declared.Binary.{Binary}
use Rattle.operators.specs.declared.Binary.TheVariants.{Add, Sub, Mul, Div, Rem, And, Or, Xor, Shl, Shr, Eq, Ne, Lt, Le}
use Rattle.source.specs.declared.word.InfixSign.{InfixSign}
use Rattle.source.specs.declared.word.InfixSign.TheVariants.{Direct, Greater, AtLeast}
use Rattle.source.specs.Tree.{Name, NameAt, NumberAt, Target, Expr, Number, Named, Bracket, Exprs, One}
use Rattle.source.specs.Tree.{Body, Let, Do, Give, Chain}
use Rattle.source.specs.Fits.{Small, level, sign_level, left_level, count, is_if, Fits, FitsAll, FitsBody}
use Rattle.surface.specs.Making.{Held, Made, made, ◌>>=◌, fresh, hold, bound_to, under, enclosed, inside, chained, otherwise}
use Rattle.surface.specs.CoreForms.{at_level, infix_at, negative, named_all, giving, giving_first, chosen, sign_of}
use Rattle.surface.specs.CoreForms.{without_sign, row, is_other_row, some_other, checked_index, stepping, goes_on, counting, carrying}

-- LETS that fit
abbrev pub LetsFit : List Held → Type 0
LetsFit [] = ⊤
LetsFit (l ∷ ls) = (0 < length l.targets) × FitsAll l.values × LetsFit ls

pub lets_join : (ls ms : List Held) → LetsFit ls → LetsFit ms → LetsFit (ls ++ ms)
lets_join [] ms h g = g
lets_join (l ∷ ls) ms h g = (h.0, h.1, lets_join ls ms h.2 g)

-- WHAT IS MADE HAS A PROPERTY, whatever names were given before, and its lets fit.
abbrev pub Makes : {A : Type 0} → (A → Type 0) → (ℕ → Made A) → Type 0
Makes P m = (n : ℕ) → LetsFit (m n).lets × P (m n).it

pub makes_made : {A : Type 0} (P : A → Type 0) (x : A) → P x → Makes P (made x)
makes_made P x h n = (tt, h)

pub makes_then : {A B : Type 0} (P : A → Type 0) (Q : B → Type 0) (m : ℕ → Made A) (f : A → ℕ → Made B) → Makes P m → ((x : A) → P x → Makes Q (f x))
    → Makes Q (m >>= f)
makes_then P Q m f h g n =
    let next = g (m n).it (h n).1 (m n).given in (lets_join (m n).lets (f (m n).it (m n).given).lets (h n).0 next.0, next.1)

-- a property that follows
pub makes_more : {A : Type 0} (P Q : A → Type 0) (m : ℕ → Made A) → Makes P m → ((x : A) → P x → Q x) → Makes Q m
makes_more P Q m h g n = ((h n).0, g (m n).it (h n).1)

abbrev pub Anything : {A : Type 0} → A → Type 0
Anything x = ⊤

pub makes_fresh : (prefix : Name) → Makes Anything (fresh prefix)
makes_fresh prefix n = (tt, tt)

pub makes_hold : (at : ℕ) (targets : List Target) (values : Exprs) → 0 < length targets → FitsAll values → Makes Anything (hold at targets values)
makes_hold at targets values h g n = ((h, g, tt), tt)

pub makes_bound : (prefix : Name) (at : ℕ) (e : Expr) → Fits e → Makes Fits (bound_to prefix at e)
makes_bound prefix at e h n = ((omega arith, h, tt), tt)

-- LEVELS
sign_small : (s : InfixSign) → sign_level s ≤ 7
sign_small (Direct Add) = omega arith
sign_small (Direct Sub) = omega arith
sign_small (Direct Mul) = omega arith
sign_small (Direct Div) = omega arith
sign_small (Direct Rem) = omega arith
sign_small (Direct And) = omega arith
sign_small (Direct Or) = omega arith
sign_small (Direct Xor) = omega arith
sign_small (Direct Shl) = omega arith
sign_small (Direct Shr) = omega arith
sign_small (Direct Eq) = omega arith
sign_small (Direct Ne) = omega arith
sign_small (Direct Lt) = omega arith
sign_small (Direct Le) = omega arith
sign_small Greater = omega arith
sign_small AtLeast = omega arith

pub next_small : (s : InfixSign) → suc (sign_level s) ≤ 8
next_small s = omega (arith, sign_small s)

pub left_small : (s : InfixSign) → left_level s ≤ 8
left_small s = omega (arith, sign_small s)

bracketed : (n : ℕ) (e : Expr) → n ≤ 9 → Fits e → Fits (at_level n e) × (n ≤ level (at_level n e))
bracketed n e small h = go (nat_lt (level e) n) refl
  where
    go : (b : Bool) → nat_lt (level e) n ≡ b → Fits (if b then Bracket e else e) × (n ≤ level (if b then Bracket e else e))
    go true q = (h, small)
    go false q = (h, omega (arith, ltb-false (level e) n q))

pub infix_fits : (at : ℕ) (op : Binary) (l r : Expr) → Fits l → Fits r → Fits (infix_at at op l r)
infix_fits at op l r h g =
    let left = bracketed (left_level (Direct op)) l (omega (arith, left_small (Direct op))) h in
    let right = bracketed (suc (sign_level (Direct op))) r (omega (arith, next_small (Direct op))) g in
    (left.0, left.1, right.0, omega (arith, right.1))

pub negative_fits : (at : ℕ) (e : Expr) → Fits e → Fits (negative at e)
negative_fits at e h = let inner = bracketed 8 e (omega arith) h in (inner.1, inl inner.0)

-- BODIES
-- what fits in braces fits after an `else`
pub after_else : (body : Body) → FitsBody false body → FitsBody true body
after_else (Let at targets es rest) h = h
after_else (Do es rest) h = h
after_else (Give es) h = h
after_else (Chain e) h = (refl, h.1, h.2)

pub under_fits : (ls : List Held) (body : Body) → LetsFit ls → FitsBody false body → FitsBody false (under ls body)
under_fits [] body h g = g
under_fits (l ∷ ls) body h g = (h.0, h.1, under_fits ls body h.2 g)

pub makes_enclosed : (m : ℕ → Made Body) → Makes (FitsBody false) m → Makes (FitsBody false) (enclosed m)
makes_enclosed m h n = (tt, under_fits (m n).lets (m n).it (h n).0 (h n).1)

pub makes_inside : (m : ℕ → Made Expr) → Makes Fits m → Makes (FitsBody false) (inside m)
makes_inside m h = makes_enclosed (m >>= (λ e. made (Give (One e)))) (makes_then Fits (FitsBody false) m (λ e. made (Give (One e))) h
    (λ e g. makes_made (FitsBody false) (Give (One e)) g))

chained_fits : (ls : List Held) (e : Expr) → LetsFit ls → IsTrue (is_if e) → Fits e → FitsBody true (chained ls e)
chained_fits [] e h i g = (refl, i, g)
chained_fits (l ∷ ls) e h i g = after_else (under (l ∷ ls) (Give (One e))) (under_fits (l ∷ ls) (Give (One e)) h g)

-- an `if`
abbrev pub IsIf : Expr → Type 0
IsIf e = IsTrue (is_if e) × Fits e

pub makes_otherwise : (m : ℕ → Made Expr) → Makes IsIf m → Makes (FitsBody true) (otherwise m)
makes_otherwise m h n = (tt, chained_fits (m n).lets (m n).it (h n).0 (h n).1.0 (h n).1.1)

pub giving_fits : (es : Exprs) (body : Body) → FitsAll es → FitsBody false body → FitsBody false (giving es body)
giving_fits es (Let at targets vs rest) h g = (g.0, g.1, giving_fits es rest h g.2)
giving_fits es (Do vs rest) h g = (g.0, giving_fits es rest h g.1)
giving_fits es (Give vs) h g = (g, h)
giving_fits es (Chain e) h g = (g.2, h)

pub giving_first_fits : (x : Expr) (body : Body) → Fits x → FitsBody false body → FitsBody false (giving_first x body)
giving_first_fits x (Let at targets vs rest) h g = (g.0, g.1, giving_first_fits x rest h g.2)
giving_first_fits x (Do vs rest) h g = (g.0, giving_first_fits x rest h g.1)
giving_first_fits x (Give vs) h g = (h, g)
giving_first_fits x (Chain e) h g = (h, g.2)

-- FORMS
pub chosen_fits : (at : ℕ) (x y is_other : Expr) → Fits x → Fits y → Fits is_other → Fits (chosen at x y is_other)
chosen_fits at x y is_other h g k =
    let differing : Expr = infix_at at Xor x y in
    let masked : Expr = infix_at at And (Bracket differing) (negative at is_other) in
    infix_fits at Xor x (Bracket masked) h (infix_fits at And (Bracket differing) (negative at is_other) (infix_fits at Xor x y h g) (negative_fits at
    is_other k))

pub sign_fits : (at : ℕ) (x : Expr) → Fits x → Fits (sign_of at x)
sign_fits at x h = infix_fits at Shr x (Number at 63) h (omega arith)

pub without_sign_fits : (at : ℕ) (x s : Expr) → Fits x → Fits s → Fits (without_sign at x s)
without_sign_fits at x s h g = infix_fits at Sub (Bracket (infix_at at Xor x s)) s (infix_fits at Xor x s h g) g

pub row_fits : (at : ℕ) (i m j : Expr) → Fits i → Fits m → Fits j → Fits (row at i m j)
row_fits at i m j h g k = infix_fits at Add (infix_at at Mul i m) j (infix_fits at Mul i m h g) k

pub other_fits : (at : ℕ) (x m i : Expr) → Fits x → Fits m → Fits i → Fits (is_other_row at x m i)
other_fits at x m i h g k = infix_fits at Ne (infix_at at Div x m) i (infix_fits at Div x m h g) k

abbrev pub FitsIfThere : Option Expr → Type 0
FitsIfThere None = ⊤
FitsIfThere (Some e) = Fits e

pub some_other_fits : (at : ℕ) (check : Expr) (checks : Option Expr) → Fits check → FitsIfThere checks → Fits (some_other at check checks)
some_other_fits at check None h g = h
some_other_fits at check (Some checks) h g = infix_fits at Or (Bracket check) (Bracket checks) h g

pub checked_fits : (at : ℕ) (x check : Expr) → Fits x → Fits check → Fits (checked_index at x check)
checked_fits at x check h g = infix_fits at Or x (negative at check) h (negative_fits at check g)

-- COUNTING LOOPS
step_fits : (at : ℕ) (i : NameAt) (next : Name) (turn : Body) → FitsBody false turn → FitsBody false (stepping at i next turn)
step_fits at i next turn h = (omega arith, infix_fits at Add (Named at i.name) (Number at 1) tt (omega arith), h)

goes_on_fits : (at : ℕ) (i : NameAt) (b : Expr) → Fits b → Fits (goes_on at i b)
goes_on_fits at i b h = infix_fits at Lt (Named at i.name) b tt h

pub counting_fits : (at : ℕ) (bound : NumberAt) (i : NameAt) (a b : Expr) (next : Name) (turn : Body) → Small bound.number → Fits a → Fits b → FitsBody false
    turn → Fits (counting at bound i a b next turn)
counting_fits at bound i a b next turn s h g t = (
  infix_fits at Lt a b h g,
  (s, h, refl, (step_fits at i next (giving (One (Named at next)) turn) (giving_fits (One (Named at next)) turn tt t), goes_on_fits at i b g)),
  h,
)

named_fit : (at : ℕ) (xs : List NameAt) → FitsAll (named_all at xs)
named_fit at [] = omega arith
named_fit at (x ∷ []) = tt
named_fit at (x ∷ y ∷ xs) = (tt, named_fit at (y ∷ xs))

pub carrying_fits : (at : ℕ) (bound : NumberAt) (i : NameAt) (a b : Expr) (xs : List NameAt) (firsts : Exprs) (next : Name) (turn : Body)
    → Small bound.number → Fits a → Fits b → FitsAll firsts → count firsts ≡ length xs → FitsBody false turn
    → Fits (carrying at bound i a b xs firsts next turn)
carrying_fits at bound i a b xs firsts next turn s h g f c t = (
  infix_fits at Lt a b h g,
  (
    omega arith,
    (
      s,
      (h, f),
      ap (λ (n : ℕ). suc n) c,
      (step_fits at i next (giving_first (Named at next) turn) (giving_first_fits (Named at next) turn tt t), goes_on_fits at i b g),
    ),
    named_fit at xs,
  ),
  f,
)
