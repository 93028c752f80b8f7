-- PROGRAMS that call nothing that is built in, no function with parameters for arrays, and whose arrays have one dimension.
use Rattle.std.specs.Prelude.{◌≡◌, true, [], ◌∷◌, ⊤}
use Rattle.surface.specs.Tree.{Expr, Number, Named, Bracket, Prefix, Infix, And, Or, Not, Fetch, Store, Call, If, Loop, For}
use Rattle.surface.specs.Tree.{Exprs, One, More, Body, Let, Do, When, Give, Chain, Tests, Last, Else, Turn, Before, After, Carried, Nothing, With}
use Rattle.surface.specs.Tree.{Item, Cells, Const, Defines, Program}
use Rattle.surface.specs.Known.{Known, all_values, Callee, Missing, OfValues, OfArrays, IsBuiltIn, callee}
use Rattle.surface.specs.Rules.{ranks}

-- not built in, and with no arrays
abbrev pub Ordinary : Callee → Type 0
Ordinary Missing = ⊤
Ordinary (OfValues params results) = ⊤
Ordinary (OfArrays ranks results) = ⊥
Ordinary (IsBuiltIn which) = ⊥

abbrev mutual
  pub IsPlain : Known → Expr → Type 0
  IsPlain k (Number at n) = ⊤
  IsPlain k (Named at x) = ⊤
  IsPlain k (Bracket e) = IsPlain k e
  IsPlain k (Prefix at op e) = IsPlain k e
  IsPlain k (Infix at sign l r) = IsPlain k l × IsPlain k r
  IsPlain k (And at l r) = IsPlain k l × IsPlain k r
  IsPlain k (Or at l r) = IsPlain k l × IsPlain k r
  IsPlain k (Not at e) = IsPlain k e
  IsPlain k (Fetch at a es) = IsPlainIndex k es
  IsPlain k (Store at a es d) = IsPlainIndex k es × IsPlain k d
  IsPlain k (Call at strict f es) = Ordinary (callee k strict f) × ArePlain k es
  IsPlain k (If at p l r) = IsPlain k p × IsPlainBody k l × IsPlainBody k r
  IsPlain k (Loop at bound firsts turn) = ArePlain k firsts × IsPlainTurn k turn
  IsPlain k (For at bound i a b carried body) = IsPlain k a × IsPlain k b × IsPlainCarried k carried × IsPlainBody k body

  pub IsPlainIndex : Known → Exprs → Type 0
  IsPlainIndex k (One e) = IsPlain k e
  IsPlainIndex k (More e es) = ⊥

  pub ArePlain : Known → Exprs → Type 0
  ArePlain k (One e) = IsPlain k e
  ArePlain k (More e es) = IsPlain k e × ArePlain k es

  pub IsPlainBody : Known → Body → Type 0
  IsPlainBody k (Let at targets es rest) = ArePlain k es × IsPlainBody k rest
  IsPlainBody k (Do es rest) = ArePlain k es × IsPlainBody k rest
  IsPlainBody k (When tests rest) = ArePlainTests k tests × IsPlainBody k rest
  IsPlainBody k (Give es) = ArePlain k es
  IsPlainBody k (Chain e) = IsPlain k e

  pub ArePlainTests : Known → Tests → Type 0
  ArePlainTests k (Last at p arm) = IsPlain k p × IsPlainBody k arm
  ArePlainTests k (Else at p arm others) = IsPlain k p × IsPlainBody k arm × ArePlainTests k others

  pub IsPlainTurn : Known → Turn → Type 0
  IsPlainTurn k (Before xs p body) = IsPlain k p × IsPlainBody k body
  IsPlainTurn k (After xs body p) = IsPlainBody k body × IsPlain k p

  pub IsPlainCarried : Known → Carried → Type 0
  IsPlainCarried k Nothing = ⊤
  IsPlainCarried k (With xs firsts) = ArePlain k firsts

abbrev pub IsPlainItem : Known → Item → Type 0
IsPlainItem k (Cells x es) = ArePlain k es
IsPlainItem k (Const x e) = IsPlain k e
IsPlainItem k (Defines f) = (all_values (ranks f.params) ≡ true) × IsPlainBody k f.body

abbrev pub IsPlainProgram : Known → Program → Type 0
IsPlainProgram k [] = ⊤
IsPlainProgram k (i ∷ items) = IsPlainItem k i × IsPlainProgram k items
