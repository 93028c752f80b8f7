-- THE STATIC RULES, and the first fault of a program that breaks one. First the heads of the items, in order; then whether
-- there is a function `main`; then the functions, in order. Sizes are checked by the lowering.
use Rattle.std.specs.Prelude.{ℕ, ◌+◌, ◌==◌, ◌&&◌, not, nat_le, nat_lt, List, [], ◌∷◌, ◌++◌, length, drop, is_some, Option, None, Some, Result, Ok}
use Rattle.std.specs.Prelude.{⊤, if◌then◌else◌}
use Rattle.semantics.specs.Graph.{same_name}
use Rattle.source.specs.declared.fault.Fault.{Fault}
use Rattle.source.specs.declared.fault.FaultKind.TheVariants.{SameName, NoSuchName, Arity, BadBound, BadCount, TooMany, TooWide, NoMain}
use Rattle.source.specs.Tree.{Name, NameAt, NumberAt, Target, Bind, Drop, Expr, Number, Named, Bracket, Prefix, Infix, Fetch, Store, Call, If, Loop}
use Rattle.source.specs.Tree.{Exprs, One, More, Body, Let, Do, Give, Chain, Turn, Before, After, Function, Item, Cells, Defines, Program, names_of}
use Rattle.source.specs.Spelled.{others}
use Rattle.source.specs.Outside.{is_in, bare, bound_by, outside_turn}
use Rattle.source.specs.First.{◌>>=◌, refused, must}

-- ITEMS by their names
abbrev pub item_name : Item → NameAt
item_name (Cells x len) = x
item_name (Defines f) = f.name

abbrev pub item_names : Program → List Name
item_names [] = []
item_names (i ∷ items) = (item_name i).name ∷ item_names items

abbrev pub array_in : Program → Name → Option ℕ
array_in [] a = None
array_in (Cells x len ∷ items) a = if same_name a x.name then Some len.number else array_in items a
array_in (Defines f ∷ items) a = array_in items a

abbrev pub function_in : Program → Name → Option Function
function_in [] f = None
function_in (Cells x len ∷ items) f = function_in items f
function_in (Defines g ∷ items) f = if same_name f g.name.name then Some g else function_in items f

-- the name `main`
abbrev pub main_name : Name
main_name = 109 ∷ 97 ∷ 105 ∷ 110 ∷ []

-- one result, where no number is written
abbrev pub written_or_one : Option NumberAt → ℕ
written_or_one None = 1
written_or_one (Some n) = n.number

-- HEADS of items: the items before, how many arrays, and how many cells they have
pub record Heads : Type 0 where
  pub names : List Name
  pub arrays : ℕ
  pub cells : ℕ

abbrev pub no_items : Heads
no_items = record { names = []; arrays = 0; cells = 0 }

-- at most 16, else the fault is at the next one
abbrev pub few_params : List NameAt → Result ⊤ Fault
few_params [] = Ok tt
few_params (x ∷ xs) = refused TooMany x.at

abbrev pub good_results : Option NumberAt → Result ⊤ Fault
good_results None = Ok tt
good_results (Some n) = must (nat_le 1 n.number && nat_le n.number 16) BadCount n.at

abbrev pub head : Heads → Item → Result Heads Fault
head before (Cells x len) = do
  new ← must (not (is_in x.name before.names)) SameName x.at
  few ← must (nat_lt before.arrays 64) TooMany x.at
  fits ← must (nat_le 1 len.number && nat_le len.number 65536) BadCount len.at
  room ← must (nat_le (before.cells + len.number) 65536) TooMany len.at
  Ok record { names = x.name ∷ before.names; arrays = before.arrays + 1; cells = before.cells + len.number }
head before (Defines f) = do
  new ← must (not (is_in f.name.name before.names)) SameName f.name.at
  few ← few_params (drop 16 f.params)
  fits ← good_results f.results
  Ok record { names = f.name.name ∷ before.names; arrays = before.arrays; cells = before.cells }

abbrev pub heads : Heads → Program → Result Heads Fault
heads before [] = Ok before
heads before (i ∷ items) = do
  next ← head before i
  heads next items

-- LOCAL NAMES
-- Names of a list: none is that of an item, and none occurs twice. `before` are the names before in the list.
abbrev pub new_name : Program → List Name → NameAt → Result ⊤ Fault
new_name p before x = must (not (is_in x.name (item_names p)) && not (is_in x.name before)) SameName x.at

abbrev pub new_names : Program → List Name → List NameAt → Result ⊤ Fault
new_names p before [] = Ok tt
new_names p before (x ∷ xs) = do
  new ← new_name p before x
  new_names p (x.name ∷ before) xs

abbrev pub new_targets : Program → List Name → List Target → Result ⊤ Fault
new_targets p before [] = Ok tt
new_targets p before (Drop ∷ targets) = new_targets p before targets
new_targets p before (Bind x ∷ targets) = do
  new ← new_name p before x
  new_targets p (x.name ∷ before) targets

-- the name of a loop at the head of the list, if there is one
abbrev pub new_first : Program → List Name → List NameAt → Result ⊤ Fault
new_first p before [] = Ok tt
new_first p before (x ∷ xs) = new_name p before x

-- the names before in the list, with that at its head
abbrev pub and_first : List Name → List NameAt → List Name
and_first before [] = before
and_first before (x ∷ xs) = x.name ∷ before

-- VALUES
-- where the fault is if an expression has not one value
abbrev pub place_of : Expr → ℕ
place_of (Number at n) = at
place_of (Named at x) = at
place_of (Bracket e) = place_of e
place_of (Prefix at op e) = at
place_of (Infix at s l r) = at
place_of (Fetch at a e) = at
place_of (Store at a e d) = at
place_of (Call at strict f es) = at
place_of (If at p l r) = at
place_of (Loop at bound firsts turn) = at

abbrev pub one_value : Expr → ℕ → Result ℕ Fault
one_value e n = do
  one ← must (n == 1) Arity (place_of e)
  Ok 1

abbrev pub known_array : Program → ℕ → Name → Result ⊤ Fault
known_array p at a = must (is_some (array_in p a)) NoSuchName at

abbrev pub known_function : ℕ → Option Function → Result Function Fault
known_function at None = refused NoSuchName at
known_function at (Some g) = Ok g

-- How many values a part has, under the names in scope. First its own name or bound; then its parts from left to right, each
-- followed by the check that it has one value, if it must; then what it has as a whole.
abbrev mutual
  pub values : Program → List Name → Expr → Result ℕ Fault
  values p scope (Number at n) = Ok 1
  values p scope (Named at x) = do
    known ← must (is_in x scope) NoSuchName at
    Ok 1
  values p scope (Bracket e) = values p scope e
  values p scope (Prefix at op e) = do
    n ← values p scope e
    one_value e n
  values p scope (Infix at s l r) = do
    n ← values p scope l
    left ← one_value l n
    m ← values p scope r
    one_value r m
  values p scope (Fetch at a e) = do
    known ← known_array p at a
    n ← values p scope e
    one_value e n
  values p scope (Store at a e d) = do
    known ← known_array p at a
    n ← values p scope e
    index ← one_value e n
    m ← values p scope d
    one_value d m
  values p scope (Call at strict f es) = do
    g ← known_function at (function_in p f)
    n ← list_values p scope es
    all ← must (n == length g.params) Arity at
    Ok (written_or_one g.results)
  values p scope (If at q l r) = do
    n ← values p scope q
    one ← one_value q n
    left ← body_values p scope l
    right ← body_values p scope r
    same ← must (left == right) Arity at
    Ok left
  values p scope (Loop at bound firsts turn) = do
    fits ← must (nat_le 2 bound.number && nat_le bound.number 64) BadBound bound.at
    begun ← first_values p scope [] (names_of turn) firsts
    n ← turn_values p (bare (names_of turn) ++ scope) turn
    all ← must (n == length (names_of turn)) Arity at
    narrow ← must (nat_le (length (names_of turn) + length (outside_turn turn)) 15) TooWide at
    Ok n

  -- the values of a list together
  pub list_values : Program → List Name → Exprs → Result ℕ Fault
  list_values p scope (One e) = values p scope e
  list_values p scope (More e es) = do
    n ← values p scope e
    m ← list_values p scope es
    Ok (n + m)

  -- a loop's names, each with its first value; `before` are the names before in the list
  pub first_values : Program → List Name → List Name → List NameAt → Exprs → Result ⊤ Fault
  first_values p scope before xs (One e) = do
    new ← new_first p before xs
    n ← values p scope e
    one ← one_value e n
    Ok tt
  first_values p scope before xs (More e es) = do
    new ← new_first p before xs
    n ← values p scope e
    one ← one_value e n
    first_values p scope (and_first before xs) (others xs) es

  pub body_values : Program → List Name → Body → Result ℕ Fault
  body_values p scope (Let at targets es rest) = do
    new ← new_targets p [] targets
    n ← list_values p scope es
    all ← must (n == length targets) Arity at
    body_values p (bound_by targets ++ scope) rest
  body_values p scope (Do es rest) = do
    n ← list_values p scope es
    body_values p scope rest
  body_values p scope (Give es) = list_values p scope es
  body_values p scope (Chain e) = values p scope e

  -- of a turn's body, with the loop's names in scope
  pub turn_values : Program → List Name → Turn → Result ℕ Fault
  turn_values p scope (Before xs q body) = do
    n ← values p scope q
    one ← one_value q n
    body_values p scope body
  turn_values p scope (After xs body q) = do
    m ← body_values p scope body
    n ← values p scope q
    one ← one_value q n
    Ok m

-- FUNCTIONS
abbrev pub function_checked : Program → Function → Result ⊤ Fault
function_checked p f = do
  new ← new_names p [] f.params
  n ← body_values p (bare f.params) f.body
  must (n == written_or_one f.results) Arity f.body_at

abbrev pub functions_checked : Program → List Item → Result ⊤ Fault
functions_checked p [] = Ok tt
functions_checked p (Cells x len ∷ items) = functions_checked p items
functions_checked p (Defines f ∷ items) = do
  good ← function_checked p f
  functions_checked p items

-- THE FIRST FAULT OF A PROGRAM, or none. `end` is the place after the last byte of its text.
abbrev pub checked : ℕ → Program → Result ⊤ Fault
checked end p = do
  all ← heads no_items p
  main ← must (is_some (function_in p main_name)) NoMain end
  functions_checked p p
