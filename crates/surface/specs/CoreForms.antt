-- FORMS OF THE CORE that derived ones are made of. Each token that stands for a derived form has its place.
use Rattle.std.specs.Prelude.{ℕ, suc, nat_lt, ℤ, pos, negsuc, List, [], ◌∷◌, map, Option, None, Some, if◌then◌else◌}
use Rattle.operators.specs.declared.Unary.TheVariants.{Neg}
use Rattle.operators.specs.declared.Binary.{Binary}
use Rattle.operators.specs.declared.Binary.TheVariants.{Add, Sub, Mul, Div, And, Or, Xor, Shr, Ne, Lt}
use Rattle.source.specs.declared.word.InfixSign.TheVariants.{Direct}
use Rattle.source.specs.Tree.{Name, NameAt, NumberAt, Target, Drop, Expr, Number, Named, Bracket, Prefix, Infix, If, Loop, Exprs, One, More}
use Rattle.source.specs.Tree.{Body, Let, Do, Give, Chain, After}
use Rattle.source.specs.Fits.{level, sign_level, left_level}
use Rattle.surface.specs.Making.{target}

-- with brackets where the grammar wants a level that it does not have
abbrev pub at_level : ℕ → Expr → Expr
at_level n e = if nat_lt (level e) n then Bracket e else e

abbrev pub infix_at : ℕ → Binary → Expr → Expr → Expr
infix_at at op l r = Infix at (Direct op) (at_level (left_level (Direct op)) l) (at_level (suc (sign_level (Direct op))) r)

abbrev pub negative : ℕ → Expr → Expr
negative at e = Prefix at Neg (at_level 8 e)

-- the number, one below 0 with its sign
abbrev pub numeral : ℕ → ℤ → Expr
numeral at (pos n) = Number at n
numeral at (negsuc n) = Prefix at Neg (Number at (suc n))

-- these names, where they are used
abbrev pub named_all : ℕ → List NameAt → Exprs
named_all at [] = One (Number at 0)
named_all at (x ∷ []) = One (Named at x.name)
named_all at (x ∷ y ∷ xs) = More (Named at x.name) (named_all at (y ∷ xs))

-- a body whose values are only done, and that gives these
abbrev pub giving : Exprs → Body → Body
giving es (Let at targets vs rest) = Let at targets vs (giving es rest)
giving es (Do vs rest) = Do vs (giving es rest)
giving es (Give vs) = Do vs (Give es)
giving es (Chain e) = Do (One e) (Give es)

-- a body that gives a value before its own
abbrev pub giving_first : Expr → Body → Body
giving_first x (Let at targets vs rest) = Let at targets vs (giving_first x rest)
giving_first x (Do vs rest) = Do vs (giving_first x rest)
giving_first x (Give vs) = Give (More x vs)
giving_first x (Chain e) = Give (More x (One e))

-- p and q: q where p is true, and else p
abbrev pub both : ℕ → Expr → Body → Expr
both at p q = If at p q (Give (One p))

-- of a test only the truth is asked, and a faulty p is not true
abbrev pub both_true : ℕ → Expr → Body → Expr
both_true at p q = If at p q (Give (One (Number at 0)))

-- p or q: p where p is true, and else p | q, so that no fault is lost
abbrev pub either_of : ℕ → Expr → Body → Expr
either_of at p q = If at p (Give (One p)) q

-- a test with `let`s before it
abbrev pub test_under : ℕ → Body → Expr
test_under at body = If at (Number at 1) body (Give (One (Number at 0)))

-- max(x, y) as x ^ ((x ^ y) & -(x < y)), where the comparison says whether y is the answer
abbrev pub chosen : ℕ → Expr → Expr → Expr → Expr
chosen at x y is_other = Bracket (infix_at at Xor x (Bracket (infix_at at And (Bracket (infix_at at Xor x y)) (negative at is_other))))

-- abs(x) as (x ^ s) - s, where s is x >> 63
abbrev pub sign_of : ℕ → Expr → Expr
sign_of at x = infix_at at Shr x (Number at 63)

abbrev pub without_sign : ℕ → Expr → Expr → Expr
without_sign at x s = Bracket (infix_at at Sub (Bracket (infix_at at Xor x s)) s)

-- Row by row: the cells before a row, with the place in it.
abbrev pub row : ℕ → Expr → Expr → Expr → Expr
row at i columns j = infix_at at Add (infix_at at Mul i columns) j

-- whether that is another row's
abbrev pub is_other_row : ℕ → Expr → Expr → Expr → Expr
is_other_row at x columns i = infix_at at Ne (infix_at at Div x columns) i

-- the checks of further dimensions, the last one first
abbrev pub some_other : ℕ → Expr → Option Expr → Expr
some_other at check None = check
some_other at check (Some checks) = infix_at at Or (Bracket check) (Bracket checks)

-- the index, or one outside of each array
abbrev pub checked_index : ℕ → Expr → Expr → Expr
checked_index at x check = infix_at at Or x (negative at check)

-- A COUNTING LOOP, with its test after the body, in an `if`: from a up to what is before b. `next` is the counter's next
-- value, which each turn has before all else.
abbrev pub stepping : ℕ → NameAt → Name → Body → Body
stepping at i next turn = Let at (target at next ∷ []) (One (infix_at at Add (Named at i.name) (Number at 1))) turn

abbrev pub goes_on : ℕ → NameAt → Expr → Expr
goes_on at i b = infix_at at Lt (Named at i.name) b

-- It carries its counter alone, and gives it.
abbrev pub counting : ℕ → NumberAt → NameAt → Expr → Expr → Name → Body → Expr
counting at bound i a b next turn =
    let turns : Expr = Loop at bound (One a) (After (i ∷ []) (stepping at i next (giving (One (Named at next)) turn)) (goes_on at i b)) in
    If at (infix_at at Lt a b) (Give (One turns)) (Give (One a))

-- It carries further names, and gives those.
abbrev pub drop_first : ℕ → List NameAt → List Target
drop_first at xs = Drop ∷ map (λ (x : NameAt). target at x.name) xs

abbrev pub carrying : ℕ → NumberAt → NameAt → Expr → Expr → List NameAt → Exprs → Name → Body → Expr
carrying at bound i a b xs firsts next turn =
    let turns : Expr = Loop at bound (More a firsts) (After (i ∷ xs) (stepping at i next (giving_first (Named at next) turn)) (goes_on at i b)) in
    If at (infix_at at Lt a b) (Let at (drop_first at xs) (One turns) (Give (named_all at xs))) (Give firsts)
