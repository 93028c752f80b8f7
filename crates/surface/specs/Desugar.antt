-- WHAT DERIVED FORMS ARE SHORT FOR. The meaning of a form is what it is short for.
use Rattle.std.specs.Prelude.{ℕ, ◌&&◌, ◌||◌, not, Bool, true, false, ℤ, List, [], ◌∷◌, is_some, slice_index_or}
use Rattle.std.specs.Prelude.{Option, None, Some, if◌then◌else◌}
use Rattle.semantics.specs.Graph.{same_name}
use Rattle.operators.specs.declared.Binary.TheVariants.{Lt, Eq, Or as BitOr}
use Rattle.source.specs.Tree as core
use Rattle.source.specs.Tree.{Name, NameAt, NumberAt, Target}
use Rattle.source.specs.Outside.{is_in, bare}
use Rattle.surface.specs.Tree.{Count, Expr, Number, Named, Bracket, Prefix, Infix, And, Or, Not, Fetch, Store, Call, If, Loop, For}
use Rattle.surface.specs.Tree.{Exprs, One, More, Body, Let, Do, When, Give, Chain, Tests, Last, Else, Turn, Before, After, Carried, Nothing, With}
use Rattle.surface.specs.Tree.{carried_names}
use Rattle.surface.specs.Known.{Known, lookup, some_or, Callee, Min, Max, Abs, Len, Missing, OfValues, OfArrays, IsBuiltIn, callee}
use Rattle.surface.specs.Constants.{place_of, constant, counted, number_or_zero}
use Rattle.surface.specs.Rules.{is_constant, is_numeral}
use Rattle.surface.specs.Making.{Held, Made, made, ◌>>=◌, fresh, hold, target, bound_to, under, enclosed, inside, otherwise}
use Rattle.surface.specs.CoreForms.{infix_at, numeral, giving, both, both_true, either_of, test_under, chosen, sign_of, without_sign, row, is_other_row}
use Rattle.surface.specs.CoreForms.{some_other, checked_index, counting, carrying}

-- A function with parameters for arrays has an instance for each list of arrays with which it is called.
pub record Instance : Type 0 where
  pub function : Name
  pub arrays : List Name
  -- its name in the core
  pub name : Name

-- what does not change in a function
pub record Setting : Type 0 where
  pub known : Known
  -- with which each hidden name begins, and no name of the text
  pub prefix : Name
  pub instances : List Instance
  -- of an instance: the parameters that stand for arrays, and these
  pub stand_for : List (Name × Name)

-- the array that a name stands for
abbrev pub array_for : Setting → Name → Name
array_for s x = some_or x (lookup s.stand_for x)

abbrev pub lengths_for : Setting → Name → List ℕ
lengths_for s x = some_or [] (lookup s.known.arrays (array_for s x))

abbrev pub is_array : Setting → Name → Bool
is_array s x = is_some (lookup s.stand_for x) || is_some (lookup s.known.arrays x)

-- an argument that is an array
abbrev pub array_passed : Setting → Expr → Option Name
array_passed s (Named at x) = if is_array s x then Some (array_for s x) else None
array_passed s e = None

abbrev pub or_more : Option Name → List Name → List Name
or_more None xs = xs
or_more (Some x) xs = x ∷ xs

abbrev pub arrays_passed : Setting → Exprs → List Name
arrays_passed s (One e) = or_more (array_passed s e) []
arrays_passed s (More e es) = or_more (array_passed s e) (arrays_passed s es)

abbrev pub same_names : List Name → List Name → Bool
same_names [] [] = true
same_names [] (y ∷ ys) = false
same_names (x ∷ xs) [] = false
same_names (x ∷ xs) (y ∷ ys) = same_name x y && same_names xs ys

abbrev pub instance_name : List Instance → Name → List Name → Name
instance_name [] f arrays = f
instance_name (i ∷ instances) f arrays = if same_name f i.function && same_names arrays i.arrays then i.name else instance_name instances f arrays

-- ATOMS. A number, a constant, or a name that no `let` hides, stands for itself. Any other expression gets a hidden name.
abbrev pub stands_for_itself : Setting → List Name → Expr → Bool
stands_for_itself s hiding (Named at x) = is_constant s.known x || not (is_in x hiding)
stands_for_itself s hiding e = is_numeral s.known e

abbrev pub atom : Setting → List Name → Expr → (ℕ → Made core.Expr) → (ℕ → Made core.Expr)
atom s hiding e m = if stands_for_itself s hiding e then m else (do
  x ← m
  bound_to s.prefix (place_of e) x)

-- A name also where it is a number: it is what the literals of the arm around a loop wait for.
abbrev pub as_name : Setting → ℕ → core.Expr → (ℕ → Made core.Expr)
as_name s at (core.Named x_at x) = made (core.Named x_at x)
as_name s at e = bound_to s.prefix at e

-- a name's value: that of a constant, or a value
abbrev pub constant_or_value : ℕ → Name → Option ℤ → core.Expr
constant_or_value at x (Some z) = numeral at z
constant_or_value at x None = core.Named at x

-- the bound of a `for` is 4 where none is written
abbrev pub bound_or_four : Known → ℕ → Option Count → NumberAt
bound_or_four known at None = record { at = at; number = 4 }
bound_or_four known at (Some k) = counted known k

-- a loop's test, with its `let`s
abbrev pub test_with : ℕ → List Held → core.Expr → core.Expr
test_with at [] p = p
test_with at (l ∷ ls) p = test_under at (under (l ∷ ls) (core.Give (core.One p)))

abbrev pub tested : ℕ → (ℕ → Made core.Expr) → (ℕ → Made core.Expr)
tested at m = λ n. record { lets = []; it = test_with at (m n).lets (m n).it; given = (m n).given }

-- the length that `len` gives
abbrev pub measure : Setting → Exprs → ℕ
measure s (One (Named at x)) = slice_index_or (lengths_for s x) 0 0
measure s (More (Named at x) (One d)) = slice_index_or (lengths_for s x) (number_or_zero (constant s.known d)) 0
measure s es = 0

abbrev pub first_or_zero : List ℕ → ℕ
first_or_zero [] = 0
first_or_zero (n ∷ ns) = n

abbrev pub others_of : List ℕ → List ℕ
others_of [] = []
others_of (n ∷ ns) = ns

-- values in a list, where there are some
abbrev pub and_others : core.Expr → Option core.Exprs → core.Exprs
and_others e None = core.One e
and_others e (Some es) = core.More e es

abbrev pub values_or_zero : ℕ → Option core.Exprs → core.Exprs
values_or_zero at None = core.One (core.Number at 0)
values_or_zero at (Some es) = es

-- an argument, unless it is an array that is passed, before those that are values
abbrev pub unless_passed : Option Name → (ℕ → Made core.Expr) → (ℕ → Made (Option core.Exprs)) → (ℕ → Made (Option core.Exprs))
unless_passed (Some array) m rest = rest
unless_passed None m rest = do
  x ← m
  xs ← rest
  made (Some (and_others x xs))

-- A call, by what is called, with the makings of its arguments: of all of them, of those that are values, of the first as an atom,
-- and of two as atoms.
abbrev pub call_made : Setting → ℕ → Bool → Name → Exprs → Callee → (ℕ → Made core.Exprs) → (ℕ → Made (Option core.Exprs)) → (ℕ → Made core.Expr)
    → (ℕ → Made (core.Expr × core.Expr)) → (ℕ → Made core.Expr)
call_made s at strict f es Missing all values first pair = do
  vs ← all
  made (core.Call at strict f vs)
call_made s at strict f es (OfValues params results) all values first pair = do
  vs ← all
  made (core.Call at strict f vs)
call_made s at strict f es (OfArrays ranks results) all values first pair = do
  vs ← values
  made (core.Call at strict (instance_name s.instances f (arrays_passed s es)) (values_or_zero at vs))
call_made s at strict f es (IsBuiltIn Len) all values first pair = made (core.Number at (measure s es))
call_made s at strict f es (IsBuiltIn Abs) all values first pair = do
  x ← first
  sign ← bound_to s.prefix at (sign_of at x)
  made (without_sign at x sign)
call_made s at strict f es (IsBuiltIn Max) all values first pair = do
  two ← pair
  made (chosen at two.0 two.1 (infix_at at Lt two.0 two.1))
call_made s at strict f es (IsBuiltIn Min) all values first pair = do
  two ← pair
  made (chosen at two.0 two.1 (infix_at at Lt two.1 two.0))

-- What each part is in the core. The flag says that only the truth of the expression is asked: it is a loop's test.
abbrev mutual
  pub desugar : Setting → Bool → Expr → (ℕ → Made core.Expr)
  desugar s truth (Number at n) = made (core.Number at n)
  desugar s truth (Named at x) = made (constant_or_value at x (lookup s.known.constants x))
  desugar s truth (Bracket e) = do
    inner ← desugar s truth e
    made (core.Bracket inner)
  desugar s truth (Prefix at op e) = do
    x ← desugar s false e
    made (core.Prefix at op x)
  desugar s truth (Infix at sign l r) = do
    x ← desugar s false l
    y ← desugar s false r
    made (core.Infix at sign x y)
  desugar s true (And at l r) = do
    p ← desugar s true l
    q ← inside (desugar s true r)
    made (both_true at p q)
  desugar s false (And at l r) = do
    p ← atom s [] l (desugar s false l)
    q ← inside (desugar s false r)
    made (both at p q)
  desugar s truth (Or at l r) = do
    p ← atom s [] l (desugar s false l)
    q ← inside (do
      y ← desugar s false r
      made (infix_at at BitOr p y))
    made (either_of at p q)
  desugar s truth (Not at e) = do
    x ← desugar s false e
    made (infix_at at Eq x (core.Number at 0))
  desugar s truth (Fetch at a es) = do
    i ← desugar_index s at (lengths_for s a) es
    made (core.Fetch at (array_for s a) i)
  desugar s truth (Store at a es d) = do
    i ← desugar_index s at (lengths_for s a) es
    x ← desugar s false d
    made (core.Store at (array_for s a) i x)
  desugar s truth (Call at strict f es) = call_made s at strict f es (callee s.known strict f) (λ n. desugar_all s es n) (λ n. desugar_values s es n)
      (λ n. desugar_first s es n) (λ n. desugar_pair s at es n)
  desugar s truth (If at p l r) = do
    q ← desugar s false p
    left ← desugar_body s l
    right ← desugar_body s r
    made (core.If at q left right)
  desugar s truth (Loop at bound firsts turn) = do
    vs ← desugar_all s firsts
    t ← desugar_turn s turn
    made (core.Loop at (counted s.known bound) vs t)
  desugar s truth (For at bound i first end carried body) = do
    begin ← atom s [] first (desugar s false first)
    a ← as_name s (place_of first) begin
    b ← atom s (i.name ∷ bare (carried_names carried)) end (desugar s false end)
    desugar_for s at (bound_or_four s.known at bound) i a b carried (desugar_body s body)

  -- with its names, and the making of its body
  pub desugar_for : Setting → ℕ → NumberAt → NameAt → core.Expr → core.Expr → Carried → (ℕ → Made core.Body) → (ℕ → Made core.Expr)
  desugar_for s at bound i a b Nothing body = do
    next ← fresh s.prefix
    turn ← body
    made (counting at bound i a b next turn)
  desugar_for s at bound i a b (With xs firsts) body = do
    cs ← desugar_atoms s firsts
    next ← fresh s.prefix
    turn ← body
    made (carrying at bound i a b xs cs next turn)

  pub desugar_all : Setting → Exprs → (ℕ → Made core.Exprs)
  desugar_all s (One e) = do
    x ← desugar s false e
    made (core.One x)
  desugar_all s (More e es) = do
    x ← desugar s false e
    xs ← desugar_all s es
    made (core.More x xs)

  pub desugar_atoms : Setting → Exprs → (ℕ → Made core.Exprs)
  desugar_atoms s (One e) = do
    x ← atom s [] e (desugar s false e)
    made (core.One x)
  desugar_atoms s (More e es) = do
    x ← atom s [] e (desugar s false e)
    xs ← desugar_atoms s es
    made (core.More x xs)

  -- the arguments that are values
  pub desugar_values : Setting → Exprs → (ℕ → Made (Option core.Exprs))
  desugar_values s (One e) = unless_passed (array_passed s e) (λ n. desugar s false e n) (made None)
  desugar_values s (More e es) = unless_passed (array_passed s e) (λ n. desugar s false e n) (desugar_values s es)

  pub desugar_first : Setting → Exprs → (ℕ → Made core.Expr)
  desugar_first s (One e) = atom s [] e (desugar s false e)
  desugar_first s (More e es) = atom s [] e (desugar s false e)

  -- two atoms: of two arguments, or of one with two values
  pub desugar_pair : Setting → ℕ → Exprs → (ℕ → Made (core.Expr × core.Expr))
  desugar_pair s at (One e) = do
    x ← desugar s false e
    h ← fresh s.prefix
    k ← fresh s.prefix
    held ← hold at (target at h ∷ target at k ∷ []) (core.One x)
    made (core.Named at h, core.Named at k)
  desugar_pair s at (More e es) = do
    x ← atom s [] e (desugar s false e)
    y ← desugar_first s es
    made (x, y)

  -- the index of a cell of an array with these lengths, whose first one no index needs
  pub desugar_index : Setting → ℕ → List ℕ → Exprs → (ℕ → Made core.Expr)
  desugar_index s at lengths (One e) = desugar s false e
  desugar_index s at lengths (More e es) = do
    i ← atom s [] e (desugar s false e)
    desugar_rows s at (others_of lengths) i None es

  -- with what further indexes add, and the checks so far
  pub desugar_rows : Setting → ℕ → List ℕ → core.Expr → Option core.Expr → Exprs → (ℕ → Made core.Expr)
  desugar_rows s at lengths i checks (One e) = do
    m ← bound_to s.prefix at (core.Number at (first_or_zero lengths))
    j ← desugar s false e
    x ← bound_to s.prefix at (row at i m j)
    made (checked_index at x (some_other at (is_other_row at x m i) checks))
  desugar_rows s at lengths i checks (More e es) = do
    m ← bound_to s.prefix at (core.Number at (first_or_zero lengths))
    j ← desugar s false e
    x ← bound_to s.prefix at (row at i m j)
    desugar_rows s at (others_of lengths) x (Some (some_other at (is_other_row at x m i) checks)) es

  pub desugar_body : Setting → Body → (ℕ → Made core.Body)
  desugar_body s (Let at targets es rest) = enclosed (do
    vs ← desugar_all s es
    body ← desugar_body s rest
    made (core.Let at targets vs body))
  desugar_body s (Do es rest) = enclosed (do
    vs ← desugar_all s es
    body ← desugar_body s rest
    made (core.Do vs body))
  desugar_body s (When tests rest) = enclosed (do
    e ← desugar_tests s tests
    body ← desugar_body s rest
    made (core.Do (core.One e) body))
  desugar_body s (Give es) = enclosed (do
    vs ← desugar_all s es
    made (core.Give vs))
  desugar_body s (Chain e) = otherwise (desugar s false e)

  -- Each arm does its part, and gives its test, which nobody asks for.
  pub desugar_tests : Setting → Tests → (ℕ → Made core.Expr)
  desugar_tests s (Last at p arm) = do
    q ← atom s [] p (desugar s false p)
    left ← desugar_body s arm
    made (core.If at q (giving (core.One q) left) (core.Give (core.One q)))
  desugar_tests s (Else at p arm more) = do
    q ← atom s [] p (desugar s false p)
    left ← desugar_body s arm
    right ← otherwise (desugar_tests s more)
    made (core.If at q (giving (core.One q) left) right)

  pub desugar_turn : Setting → Turn → (ℕ → Made core.Turn)
  desugar_turn s (Before xs p body) = do
    q ← tested (place_of p) (desugar s true p)
    b ← desugar_body s body
    made (core.Before xs q b)
  desugar_turn s (After xs body p) = do
    b ← desugar_body s body
    q ← tested (place_of p) (desugar s true p)
    made (core.After xs b q)
