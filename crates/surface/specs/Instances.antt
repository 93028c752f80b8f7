-- INSTANCES of functions that have parameters for arrays: one for each list of arrays with which they are called.
use Rattle.std.specs.Prelude.{ℕ, zero, suc, ◌+◌, ◌==◌, ◌&&◌, ◌||◌, not, nat_le, Bool, false, List, [], ◌∷◌, ◌++◌, length}
use Rattle.std.specs.Prelude.{slice_get, codes, decimal, filter_map, Option, None, Some, if◌then◌else◌}
use Rattle.std.specs.List.{list_any}
use Rattle.semantics.specs.Graph.{same_name}
use Rattle.source.specs.Tree.{Name}
use Rattle.source.specs.Tokens.{begins, has_double}
use Rattle.source.specs.Outside.{is_in}
use Rattle.surface.specs.Tree.{Expr, Number, Named, Bracket, Prefix, Infix, And, Or, Not, Fetch, Store, Call, If, Loop, For}
use Rattle.surface.specs.Tree.{Exprs, One, More, Body, Let, Do, When, Give, Chain, Tests, Last, Else, Turn, Before, After, Carried, Nothing, With}
use Rattle.surface.specs.Tree.{Param, Function, Cells, Const, Defines, Program}
use Rattle.surface.specs.Spelled.{Lexeme, TheWord, TheSign, TheNumber, TheName, Spelling, program_tokens}
use Rattle.surface.specs.Known.{all_values, Callee, Missing, OfValues, OfArrays, IsBuiltIn, callee}
use Rattle.surface.specs.Rules.{ranks}
use Rattle.surface.specs.Desugar.{Instance, Setting, arrays_passed, same_names}

-- NAMES. Those of the text, as often as they are there.
abbrev pub name_said : Lexeme → Option Name
name_said (TheName x) = Some x
name_said (TheWord k) = None
name_said (TheSign s) = None
name_said (TheNumber n) = None

abbrev pub text_names : Program → List Name
text_names p = filter_map (λ (s : Spelling). name_said s.lexeme) (program_tokens p)

-- h_, h1_, h2_, ..
abbrev pub prefix_number : ℕ → Name
prefix_number zero = codes "h_"
prefix_number (suc n) = codes "h" ++ decimal (suc n) ++ codes "_"

-- the first of these with which no name begins, where there are so many more to try
abbrev pub free_prefix : ℕ → ℕ → List Name → Name
free_prefix zero n names = prefix_number n
free_prefix (suc more) n names = if list_any (begins (prefix_number n)) names then free_prefix more (n + 1) names else prefix_number n

-- each name begins with one of them at most, so one more than there are names is enough
abbrev pub hidden_prefix : List Name → Name
hidden_prefix names = free_prefix (length names) 0 names

-- WHAT IS CALLED with which arrays, in order of the text, a call before the calls in its arguments
pub record Wanted : Type 0 where
  pub function : Name
  pub arrays : List Name

abbrev pub wanted_by : Setting → Name → Exprs → Callee → List Wanted
wanted_by s f es (OfArrays ranks results) = record { function = f; arrays = arrays_passed s es } ∷ []
wanted_by s f es Missing = []
wanted_by s f es (OfValues params results) = []
wanted_by s f es (IsBuiltIn which) = []

abbrev mutual
  pub wanted : Setting → Expr → List Wanted
  wanted s (Number at n) = []
  wanted s (Named at x) = []
  wanted s (Bracket e) = wanted s e
  wanted s (Prefix at op e) = wanted s e
  wanted s (Infix at sign l r) = wanted s l ++ wanted s r
  wanted s (And at l r) = wanted s l ++ wanted s r
  wanted s (Or at l r) = wanted s l ++ wanted s r
  wanted s (Not at e) = wanted s e
  wanted s (Fetch at a es) = list_wanted s es
  wanted s (Store at a es d) = list_wanted s es ++ wanted s d
  wanted s (Call at strict f es) = wanted_by s f es (callee s.known strict f) ++ list_wanted s es
  wanted s (If at p l r) = wanted s p ++ body_wanted s l ++ body_wanted s r
  wanted s (Loop at bound firsts turn) = list_wanted s firsts ++ turn_wanted s turn
  wanted s (For at bound i first end carried body) = wanted s first ++ wanted s end ++ carried_wanted s carried ++ body_wanted s body

  pub list_wanted : Setting → Exprs → List Wanted
  list_wanted s (One e) = wanted s e
  list_wanted s (More e es) = wanted s e ++ list_wanted s es

  pub body_wanted : Setting → Body → List Wanted
  body_wanted s (Let at targets es rest) = list_wanted s es ++ body_wanted s rest
  body_wanted s (Do es rest) = list_wanted s es ++ body_wanted s rest
  body_wanted s (When tests rest) = tests_wanted s tests ++ body_wanted s rest
  body_wanted s (Give es) = list_wanted s es
  body_wanted s (Chain e) = wanted s e

  pub tests_wanted : Setting → Tests → List Wanted
  tests_wanted s (Last at p arm) = wanted s p ++ body_wanted s arm
  tests_wanted s (Else at p arm more) = wanted s p ++ body_wanted s arm ++ tests_wanted s more

  pub turn_wanted : Setting → Turn → List Wanted
  turn_wanted s (Before xs p body) = wanted s p ++ body_wanted s body
  turn_wanted s (After xs body p) = body_wanted s body ++ wanted s p

  pub carried_wanted : Setting → Carried → List Wanted
  carried_wanted s Nothing = []
  carried_wanted s (With xs firsts) = list_wanted s firsts

-- ALL INSTANCES: those that functions of values want, and those that instances want, each once, where it is first
abbrev pub is_wanted : List Wanted → Wanted → Bool
is_wanted [] w = false
is_wanted (v ∷ vs) w = same_name v.function w.function && same_names v.arrays w.arrays || is_wanted vs w

abbrev pub and_new : List Wanted → List Wanted → List Wanted
and_new all [] = all
and_new all (w ∷ ws) = and_new (if is_wanted all w then all else all ++ w ∷ []) ws

abbrev pub arrays_for : List Param → List Name → List (Name × Name)
arrays_for [] arrays = []
arrays_for (p ∷ ps) [] = []
arrays_for (p ∷ ps) (a ∷ arrays) = if p.rank == 0 then arrays_for ps (a ∷ arrays) else (p.name.name, a) ∷ arrays_for ps arrays

abbrev pub in_function : Setting → List (Name × Name) → Setting
in_function s stand_for = record { known = s.known; prefix = s.prefix; instances = s.instances; stand_for = stand_for }

abbrev pub function_in : Program → Name → Option Function
function_in [] f = None
function_in (Cells x es ∷ items) f = function_in items f
function_in (Const x e ∷ items) f = function_in items f
function_in (Defines g ∷ items) f = if same_name f g.name.name then Some g else function_in items f

abbrev pub function_wants : Setting → Function → List Name → List Wanted
function_wants s f arrays = body_wanted (in_function s (arrays_for f.params arrays)) f.body

abbrev pub wants_of : Setting → Option Function → List Name → List Wanted
wants_of s None arrays = []
wants_of s (Some f) arrays = function_wants s f arrays

abbrev pub instance_wants : Setting → Program → Wanted → List Wanted
instance_wants s p w = wants_of s (function_in p w.function) w.arrays

abbrev pub plain_wants : Setting → Program → List Wanted
plain_wants s [] = []
plain_wants s (Cells x es ∷ items) = plain_wants s items
plain_wants s (Const x e ∷ items) = plain_wants s items
plain_wants s (Defines f ∷ items) = (if all_values (ranks f.params) then function_wants s f [] else []) ++ plain_wants s items

-- From instance n on, each adds those that it wants. With more than 256 of them the program is refused, so 257 turns are enough.
abbrev pub closed : ℕ → Setting → Program → ℕ → List Wanted → List Wanted
closed zero s p n all = all
closed (suc more) s p n all = elim (slice_get all n) as (λ _. List Wanted) [
  | None ↦ all
  | Some w ↦ closed more s p (n + 1) (and_new all (instance_wants s p w))
]

abbrev pub all_wanted : Setting → Program → List Wanted
all_wanted s p = closed 257 s p 0 (and_new [] (plain_wants s p))

-- NAMES OF INSTANCES. The function's and the arrays', joined by `_`, where that is a name, no other one, and none of the hidden
-- ones; else the prefix, `f`, and the instance's number, from 1.
abbrev pub joined : Name → List Name → Name
joined f [] = f
joined f (a ∷ arrays) = joined (f ++ codes "_" ++ a) arrays

abbrev pub is_free : Name → List Name → Name → Bool
is_free prefix taken x = nat_le (length x) 24 && not (has_double x) && not (begins prefix x) && not (is_in x taken)

abbrev pub numbered : Name → ℕ → Name
numbered prefix n = prefix ++ codes "f" ++ decimal n

abbrev pub name_for : Name → List Name → ℕ → Wanted → Name
name_for prefix taken n w = if is_free prefix taken (joined w.function w.arrays) then joined w.function w.arrays else numbered prefix n

-- where `taken` are the names of the text and those of the instances before
abbrev pub named_instances : Name → List Name → ℕ → List Wanted → List Instance
named_instances prefix taken n [] = []
named_instances prefix taken n (w ∷ ws) = record { function = w.function; arrays = w.arrays; name = name_for prefix taken n w }
    ∷ named_instances prefix (name_for prefix taken n w ∷ taken) (n + 1) ws
