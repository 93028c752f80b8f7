-- THE STATIC RULES, and the first fault of a program that breaks one. First the heads of the items, in order; then whether
-- there is a function `main`; then the functions, in order. What only the core shows is in `Desugared`.
use Rattle.std.specs.Prelude.{ℕ, suc, ◌+◌, ◌*◌, ◌==◌, ◌&&◌, ◌||◌, not, nat_le, nat_lt, Bool, true, false, pos, int_le, int_lt, List, [], ◌∷◌}
use Rattle.std.specs.Prelude.{◌++◌, length, map, drop, replicate, is_some, Option, None, Some, Result, Ok, ⊤, if◌then◌else◌}
use Rattle.operators.specs.declared.Unary.{Unary}
use Rattle.operators.specs.declared.Unary.TheVariants.{Neg, Not as Flip}
use Rattle.semantics.specs.Graph.{same_name}
use Rattle.source.specs.declared.fault.FaultKind.TheVariants.{SameName, NoSuchName, Arity, BadBound, BadCount, TooMany, TooWide, NoMain}
use Rattle.source.specs.Tree.{Name, NameAt, Target, Bind, Drop}
use Rattle.source.specs.Spelled.{others}
use Rattle.source.specs.Outside.{is_in, bare, bound_by}
use Rattle.source.specs.Rules.{main_name, and_first}
use Rattle.surface.specs.declared.fault.Fault.{Fault}
use Rattle.surface.specs.declared.fault.FaultKind.TheVariants.{BadArray, Core}
use Rattle.surface.specs.Tree.{Count, Expr, Number, Named, Bracket, Prefix, Infix, And, Or, Not, Fetch, Store, Call, If, Loop, For}
use Rattle.surface.specs.Tree.{Exprs, One, More, Body, Let, Do, When, Give, Chain, Tests, Last, Else, Turn, Before, After, Carried, Nothing, With}
use Rattle.surface.specs.Tree.{Param, Function, Item, Cells, Const, Defines, Program, names_of, carried_names}
use Rattle.surface.specs.Fits.{count}
use Rattle.surface.specs.First.{◌>>=◌, refused, must, must_be}
use Rattle.surface.specs.Known.{Known, nothing, lookup, natural, product, some_value}
use Rattle.surface.specs.Known.{Min, Max, Abs, Len, Missing, OfValues, OfArrays, IsBuiltIn, callee}
use Rattle.surface.specs.Constants.{place_of, constant, count_place, count_of, number_or_zero}
use Rattle.surface.specs.Outside.{outside_turn, outside_for}

-- HEADS of items
abbrev pub few_params : List Param → Result ⊤ Fault
few_params [] = Ok tt
few_params (p ∷ ps) = must_be false TooMany p.name.at

-- at most three dimensions, and none for `main`
abbrev pub good_param : Name → Param → Result ⊤ Fault
good_param f p = must (nat_le p.rank 3 && not (same_name f main_name && nat_lt 0 p.rank)) BadArray p.name.at

abbrev pub good_params : Name → List Param → Result ⊤ Fault
good_params f [] = Ok tt
good_params f (p ∷ ps) = do
  good ← good_param f p
  good_params f ps

abbrev pub ranks : List Param → List ℕ
ranks ps = map (λ (p : Param). p.rank) ps

-- one result, where no number is written
abbrev pub results_of : Known → Option Count → Result ℕ Fault
results_of known None = Ok 1
results_of known (Some n) = do
  z ← count_of known n
  fits ← must_be (int_le (pos 1) z && int_le z (pos 16)) BadCount (count_place n)
  Ok (natural z)

-- The lengths of an array's dimensions, where those before have so many cells together.
abbrev pub length_of : Known → ℕ → Expr → Result ℕ Fault
length_of known before e = do
  z ← constant known e
  fits ← must_be (int_le (pos 1) z && int_le z (pos 65536) && nat_le (before * natural z) 65536) BadCount (place_of e)
  Ok (natural z)

abbrev pub lengths_of : Known → ℕ → Exprs → Result (List ℕ) Fault
lengths_of known before (One e) = do
  n ← length_of known before e
  Ok (n ∷ [])
lengths_of known before (More e es) = do
  n ← length_of known before e
  ns ← lengths_of known (before * n) es
  Ok (n ∷ ns)

abbrev pub last_place : Exprs → ℕ
last_place (One e) = place_of e
last_place (More e es) = last_place es

abbrev pub new_item : Known → NameAt → Result ⊤ Fault
new_item known x = must_be (not (is_in x.name known.names)) SameName x.at

abbrev pub head : Known → Item → Result Known Fault
head known (Cells x es) = do
  new ← new_item known x
  few ← must_be (nat_lt (length known.arrays) 64) TooMany x.at
  flat ← must (nat_le (count es) 3) BadArray x.at
  ns ← lengths_of known 1 es
  room ← must_be (nat_le (known.cells + product ns) 65536) TooMany (last_place es)
  Ok record {
    names = x.name ∷ known.names;
    constants = known.constants;
    arrays = (x.name, ns) ∷ known.arrays;
    functions = known.functions;
    cells = known.cells + product ns;
  }
head known (Const x e) = do
  new ← new_item known x
  z ← constant known e
  Ok record {
    names = x.name ∷ known.names;
    constants = (x.name, z) ∷ known.constants;
    arrays = known.arrays;
    functions = known.functions;
    cells = known.cells;
  }
head known (Defines f) = do
  new ← new_item known f.name
  few ← few_params (drop 16 f.params)
  good ← good_params f.name.name f.params
  value ← must (some_value (ranks f.params)) BadArray f.name.at
  n ← results_of known f.results
  Ok record {
    names = f.name.name ∷ known.names;
    constants = known.constants;
    arrays = known.arrays;
    functions = (f.name.name, record { ranks = ranks f.params; results = n }) ∷ known.functions;
    cells = known.cells;
  }

abbrev pub heads : Known → Program → Result Known Fault
heads known [] = Ok known
heads known (i ∷ items) = do
  next ← head known i
  heads next items

-- LOCAL NAMES
-- What is known in a function: of the items, and which of its parameters stand for arrays, with their dimensions.
pub record Around : Type 0 where
  pub known : Known
  pub arrays : List (Name × ℕ)

-- Names of a list: none is that of an item or of an array, and none occurs twice. `before` are the names before in the list.
abbrev pub new_name : Around → List Name → NameAt → Result ⊤ Fault
new_name a before x = must_be (not (is_in x.name a.known.names) && not (is_some (lookup a.arrays x.name)) && not (is_in x.name before)) SameName x.at

abbrev pub new_names : Around → List Name → List NameAt → Result ⊤ Fault
new_names a before [] = Ok tt
new_names a before (x ∷ xs) = do
  new ← new_name a before x
  new_names a (x.name ∷ before) xs

abbrev pub new_targets : Around → List Name → List Target → Result ⊤ Fault
new_targets a before [] = Ok tt
new_targets a before (Drop ∷ targets) = new_targets a before targets
new_targets a before (Bind x ∷ targets) = do
  new ← new_name a before x
  new_targets a (x.name ∷ before) targets

-- the name of a loop at the head of the list, if there is one
abbrev pub new_first : Around → List Name → List NameAt → Result ⊤ Fault
new_first a before [] = Ok tt
new_first a before (x ∷ xs) = new_name a before x

-- VALUES
abbrev pub one_value : Expr → ℕ → Result ℕ Fault
one_value e n = do
  one ← must_be (n == 1) Arity (place_of e)
  Ok 1

abbrev pub is_constant : Known → Name → Bool
is_constant known x = is_some (lookup known.constants x)

-- the dimensions of an array, or of a parameter that stands for one
abbrev pub rank_in : Option ℕ → Option (List ℕ) → Option ℕ
rank_in (Some n) ns = Some n
rank_in None None = None
rank_in None (Some ns) = Some (length ns)

abbrev pub rank_of : Around → Name → Option ℕ
rank_of a x = rank_in (lookup a.arrays x) (lookup a.known.arrays x)

abbrev pub known_array : Around → ℕ → Name → Result ℕ Fault
known_array a at x = elim (rank_of a x) as (λ _. Result ℕ Fault) [ Some n ↦ Ok n | None ↦ refused (Core NoSuchName) at ]

-- the dimensions of an array whose name is the whole argument
abbrev pub argument_rank : Around → Expr → Option ℕ
argument_rank a (Named at x) = rank_of a x
argument_rank a e = None

abbrev pub same_ranks : List ℕ → List ℕ → Bool
same_ranks [] [] = true
same_ranks [] (n ∷ ns) = false
same_ranks (m ∷ ms) [] = false
same_ranks (m ∷ ms) (n ∷ ns) = m == n && same_ranks ms ns

abbrev pub good_bound : Around → Count → Result ⊤ Fault
good_bound a k = do
  z ← count_of a.known k
  must_be (int_le (pos 2) z && int_le z (pos 64)) BadBound (count_place k)

abbrev pub good_bound_if_written : Around → Option Count → Result ⊤ Fault
good_bound_if_written a None = Ok tt
good_bound_if_written a (Some k) = good_bound a k

-- the names that stand for no value
abbrev pub no_values : Around → List Name
no_values a = map (λ (entry : Name × ℕ). entry.0) a.arrays ++ a.known.names

-- a number, one with `-` directly before it, or a constant, also in brackets: it is not carried
abbrev pub is_neg : Unary → Bool
is_neg Neg = true
is_neg Flip = false

abbrev pub is_number : Expr → Bool
is_number (Number at n) = true
is_number e = false

abbrev pub is_numeral : Known → Expr → Bool
is_numeral known (Number at n) = true
is_numeral known (Named at x) = is_constant known x
is_numeral known (Bracket e) = is_numeral known e
is_numeral known (Prefix at op e) = is_number e && is_neg op
is_numeral known e = false

-- whether the number at which a `for` stops is one more value to be carried, beside its names and the outside ones
abbrev pub is_carried : Known → List Name → List Name → Expr → Bool
is_carried known bound outside (Named at x) = not (is_constant known x) && (is_in x bound || not (is_in x outside))
is_carried known bound outside e = not (is_numeral known e)

abbrev pub one_if : Bool → ℕ
one_if b = if b then 1 else 0

abbrev pub for_width : Around → NameAt → Expr → Carried → Body → ℕ
for_width a i end carried body =
    let bound : List Name = i.name ∷ bare (carried_names carried) in
    let outside : List Name = outside_for (no_values a) bound body in
    length bound + length outside + one_if (is_carried a.known bound outside end)

-- as many values as names after `with`; without them any number
abbrev pub is_as_many : ℕ → Carried → Bool
is_as_many n Nothing = true
is_as_many n (With xs firsts) = n == length xs

abbrev pub for_values : Carried → ℕ
for_values Nothing = 1
for_values (With xs firsts) = length xs

-- `len`: of an array's whole name, and of a dimension that it has
abbrev pub good_dimension : Around → ℕ → ℕ → Exprs → Result ℕ Fault
good_dimension a at rank (One e) = do
  z ← constant a.known e
  found ← must_be (int_le (pos 0) z && int_lt z (pos rank)) BadCount (place_of e)
  Ok 1
good_dimension a at rank (More e es) = refused (Core Arity) at

abbrev pub measured : Around → ℕ → Exprs → Result ℕ Fault
measured a at (One (Named x_at x)) = do
  rank ← known_array a x_at x
  Ok 1
measured a at (More (Named x_at x) es) = do
  rank ← known_array a x_at x
  good_dimension a at rank es
measured a at es = refused (Core Arity) at

-- How many values a part has, under the names in scope. First its own name or bound; then its parts from left to right, each
-- followed by the check that it has one value, if it must; then what it has as a whole.
abbrev mutual
  pub values : Around → List Name → Expr → Result ℕ Fault
  values a scope (Number at n) = Ok 1
  values a scope (Named at x) = do
    known ← must_be (is_constant a.known x || is_in x scope) NoSuchName at
    Ok 1
  values a scope (Bracket e) = values a scope e
  values a scope (Prefix at op e) = do
    n ← values a scope e
    one_value e n
  values a scope (Infix at s l r) = do
    n ← values a scope l
    left ← one_value l n
    m ← values a scope r
    one_value r m
  values a scope (And at l r) = do
    n ← values a scope l
    left ← one_value l n
    m ← values a scope r
    one_value r m
  values a scope (Or at l r) = do
    n ← values a scope l
    left ← one_value l n
    m ← values a scope r
    one_value r m
  values a scope (Not at e) = do
    n ← values a scope e
    one_value e n
  values a scope (Fetch at x es) = do
    rank ← known_array a at x
    indexes ← index_values a scope es
    all ← must_be (indexes == rank) Arity at
    Ok 1
  values a scope (Store at x es d) = do
    rank ← known_array a at x
    indexes ← index_values a scope es
    all ← must_be (indexes == rank) Arity at
    n ← values a scope d
    one_value d n
  values a scope (Call at strict f es) = elim (callee a.known strict f) as (λ _. Result ℕ Fault) [
    | Missing ↦ refused (Core NoSuchName) at
    | OfValues params results ↦ do
      n ← list_values a scope es
      all ← must_be (n == params) Arity at
      Ok results
    | OfArrays ranks results ↦ do
      found ← argument_ranks a scope es
      all ← must_be (same_ranks found ranks) Arity at
      Ok results
    | IsBuiltIn which ↦ elim which as (λ _. Result ℕ Fault) [
      | Len ↦ measured a at es
      | Min ↦ do
        n ← list_values a scope es
        all ← must_be (n == 2) Arity at
        Ok 1
      | Max ↦ do
        n ← list_values a scope es
        all ← must_be (n == 2) Arity at
        Ok 1
      | Abs ↦ do
        n ← list_values a scope es
        all ← must_be (n == 1) Arity at
        Ok 1
    ]
  ]
  values a scope (If at q l r) = do
    n ← values a scope q
    one ← one_value q n
    left ← body_values a scope l
    right ← body_values a scope r
    same ← must_be (left == right) Arity at
    Ok left
  values a scope (Loop at bound firsts turn) = do
    fits ← good_bound a bound
    begun ← first_values a scope [] (names_of turn) firsts
    n ← turn_values a (bare (names_of turn) ++ scope) turn
    all ← must_be (n == length (names_of turn)) Arity at
    narrow ← must_be (nat_le (length (names_of turn) + length (outside_turn (no_values a) turn)) 15) TooWide at
    Ok n
  values a scope (For at bound i first end carried body) = do
    fits ← good_bound_if_written a bound
    new ← new_name a [] i
    n ← values a scope first
    one ← one_value first n
    m ← values a scope end
    also ← one_value end m
    begun ← carried_values a scope (i.name ∷ []) carried
    k ← body_values a (i.name ∷ bare (carried_names carried) ++ scope) body
    all ← must_be (is_as_many k carried) Arity at
    narrow ← must_be (nat_le (for_width a i end carried body) 15) TooWide at
    Ok (for_values carried)

  -- the values of a list together
  pub list_values : Around → List Name → Exprs → Result ℕ Fault
  list_values a scope (One e) = values a scope e
  list_values a scope (More e es) = do
    n ← values a scope e
    m ← list_values a scope es
    Ok (n + m)

  -- how many indexes, each of one value
  pub index_values : Around → List Name → Exprs → Result ℕ Fault
  index_values a scope (One e) = do
    n ← values a scope e
    one ← one_value e n
    Ok 1
  index_values a scope (More e es) = do
    n ← values a scope e
    one ← one_value e n
    m ← index_values a scope es
    Ok (suc m)

  -- the dimensions of each array that is passed, and 0 for each value
  pub argument_ranks : Around → List Name → Exprs → Result (List ℕ) Fault
  argument_ranks a scope (One e) = elim (argument_rank a e) as (λ _. Result (List ℕ) Fault) [
    | Some rank ↦ Ok (rank ∷ [])
    | None ↦ do
      n ← values a scope e
      Ok (replicate n 0)
  ]
  argument_ranks a scope (More e es) = elim (argument_rank a e) as (λ _. Result (List ℕ) Fault) [
    | Some rank ↦ do
      others ← argument_ranks a scope es
      Ok (rank ∷ others)
    | None ↦ do
      n ← values a scope e
      others ← argument_ranks a scope es
      Ok (replicate n 0 ++ others)
  ]

  -- a loop's names, each with its first value; `before` are the names before in the list
  pub first_values : Around → List Name → List Name → List NameAt → Exprs → Result ⊤ Fault
  first_values a scope before xs (One e) = do
    new ← new_first a before xs
    n ← values a scope e
    one ← one_value e n
    Ok tt
  first_values a scope before xs (More e es) = do
    new ← new_first a before xs
    n ← values a scope e
    one ← one_value e n
    first_values a scope (and_first before xs) (others xs) es

  pub carried_values : Around → List Name → List Name → Carried → Result ⊤ Fault
  carried_values a scope before Nothing = Ok tt
  carried_values a scope before (With xs firsts) = first_values a scope before xs firsts

  pub body_values : Around → List Name → Body → Result ℕ Fault
  body_values a scope (Let at targets es rest) = do
    new ← new_targets a [] targets
    n ← list_values a scope es
    all ← must_be (n == length targets) Arity at
    body_values a (bound_by targets ++ scope) rest
  body_values a scope (Do es rest) = do
    n ← list_values a scope es
    body_values a scope rest
  body_values a scope (When tests rest) = do
    good ← tests_values a scope tests
    body_values a scope rest
  body_values a scope (Give es) = list_values a scope es
  body_values a scope (Chain e) = values a scope e

  -- the arms of a statement may have any number of values
  pub tests_values : Around → List Name → Tests → Result ⊤ Fault
  tests_values a scope (Last at q arm) = do
    n ← values a scope q
    one ← one_value q n
    m ← body_values a scope arm
    Ok tt
  tests_values a scope (Else at q arm more) = do
    n ← values a scope q
    one ← one_value q n
    m ← body_values a scope arm
    tests_values a scope more

  -- of a turn's body, with the loop's names in scope
  pub turn_values : Around → List Name → Turn → Result ℕ Fault
  turn_values a scope (Before xs q body) = do
    n ← values a scope q
    one ← one_value q n
    body_values a scope body
  turn_values a scope (After xs body q) = do
    m ← body_values a scope body
    n ← values a scope q
    one ← one_value q n
    Ok m

-- FUNCTIONS
abbrev pub param_names : List Param → List NameAt
param_names ps = map (λ (p : Param). p.name) ps

-- those that are values
abbrev pub value_params : List Param → List NameAt
value_params [] = []
value_params (p ∷ ps) = if p.rank == 0 then p.name ∷ value_params ps else value_params ps

-- those that stand for arrays, with their dimensions
abbrev pub array_params : List Param → List (Name × ℕ)
array_params [] = []
array_params (p ∷ ps) = if p.rank == 0 then array_params ps else (p.name.name, p.rank) ∷ array_params ps

abbrev pub results_in : Known → Option Count → ℕ
results_in known None = 1
results_in known (Some n) = number_or_zero (count_of known n)

abbrev pub function_checked : Known → Function → Result ⊤ Fault
function_checked known f = do
  new ← new_names (record { known = known; arrays = [] }) [] (param_names f.params)
  n ← body_values (record { known = known; arrays = array_params f.params }) (bare (value_params f.params)) f.body
  must_be (n == results_in known f.results) Arity f.body_at

abbrev pub functions_checked : Known → List Item → Result ⊤ Fault
functions_checked known [] = Ok tt
functions_checked known (Cells x es ∷ items) = functions_checked known items
functions_checked known (Const x e ∷ items) = functions_checked known items
functions_checked known (Defines f ∷ items) = do
  good ← function_checked known f
  functions_checked known items

-- THE FIRST FAULT OF A PROGRAM, or none. `end` is the place after the last byte of its text.
abbrev pub checked : ℕ → Program → Result ⊤ Fault
checked end p = do
  known ← heads nothing p
  main ← must_be (is_some (lookup known.functions main_name)) NoMain end
  functions_checked known p
