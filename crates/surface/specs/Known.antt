-- WHAT IS KNOWN OF ITEMS: the constants with their values, the arrays with their lengths, and the functions.
use Rattle.std.specs.Prelude.{ℕ, ◌*◌, ◌==◌, ◌&&◌, ◌||◌, Bool, true, false, ℤ, pos, negsuc, List, [], ◌∷◌, length, codes}
use Rattle.std.specs.Prelude.{Option, None, Some, if◌then◌else◌}
use Rattle.semantics.specs.Graph.{same_name}
use Rattle.source.specs.Tree.{Name}

-- what a name stands for, where it stands for one of these
abbrev pub lookup : {A : Type 0} → List (Name × A) → Name → Option A
lookup [] x = None
lookup (entry ∷ entries) x = if same_name x entry.0 then Some entry.1 else lookup entries x

abbrev pub some_or : {A : Type 0} → A → Option A → A
some_or x None = x
some_or x (Some y) = y

-- a function's parameters, by the dimensions of the arrays that they stand for (0 of a value), and its number of results
pub record Signature : Type 0 where
  pub ranks : List ℕ
  pub results : ℕ

pub record Known : Type 0 where
  -- of all items, the last first
  pub names : List Name
  pub constants : List (Name × ℤ)
  -- the lengths of each array's dimensions
  pub arrays : List (Name × List ℕ)
  pub functions : List (Name × Signature)
  -- the cells of all arrays
  pub cells : ℕ

abbrev pub nothing : Known
nothing = record { names = []; constants = []; arrays = []; functions = []; cells = 0 }

abbrev pub product : List ℕ → ℕ
product [] = 1
product (n ∷ ns) = n * product ns

-- of numbers that are not negative
abbrev pub natural : ℤ → ℕ
natural (pos n) = n
natural (negsuc n) = 0

abbrev pub all_values : List ℕ → Bool
all_values [] = true
all_values (rank ∷ ranks) = rank == 0 && all_values ranks

-- whether some parameter is a value
abbrev pub some_value : List ℕ → Bool
some_value [] = false
some_value (rank ∷ ranks) = rank == 0 || some_value ranks

-- WHAT IS CALLED: a function of values, one that has parameters for arrays, or what is built in where no function has the
-- name and the call is not strict.
pub data BuiltIn : Type 0 where
  Min : BuiltIn
  Max : BuiltIn
  Abs : BuiltIn
  Len : BuiltIn

pub data Callee : Type 0 where
  Missing : Callee
  OfValues : (params results : ℕ) → Callee
  OfArrays : (ranks : List ℕ) (results : ℕ) → Callee
  IsBuiltIn : (which : BuiltIn) → Callee

abbrev pub built_in : Name → Callee
built_in f =
    if same_name f (codes "min") then IsBuiltIn Min
    else if same_name f (codes "max") then IsBuiltIn Max
    else if same_name f (codes "abs") then IsBuiltIn Abs
    else if same_name f (codes "len") then IsBuiltIn Len
    else Missing

abbrev pub called : Signature → Callee
called s = if all_values s.ranks then OfValues (length s.ranks) s.results else OfArrays s.ranks s.results

abbrev pub callee_of : Bool → Name → Option Signature → Callee
callee_of strict f (Some s) = called s
callee_of true f None = Missing
callee_of false f None = built_in f

abbrev pub callee : Known → Bool → Name → Callee
callee known strict f = callee_of strict f (lookup known.functions f)
