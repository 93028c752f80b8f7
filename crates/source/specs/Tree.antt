-- A PROGRAM AS A TREE. Where a token may be faulty, or be the origin of a fault, the tree has its place in the text: the
-- number of bytes before it. A name is its bytes.
use Rattle.std.specs.Prelude.{ℕ, Bool, List, Option}
use Rattle.operators.specs.declared.Unary.{Unary}
use Rattle.source.specs.declared.word.InfixSign.{InfixSign}

abbrev pub Name : Type 0
Name = List ℕ

-- a name where it is given to something
pub record NameAt : Type 0 where
  pub at : ℕ
  pub name : Name

pub record NumberAt : Type 0 where
  pub at : ℕ
  pub number : ℕ

-- what a `let` does with a value: `_` drops it
pub data Target : Type 0 where
  Bind : (to : NameAt) → Target
  Drop : Target

mutual
  pub data Expr : Type 0 where
    Number : (at number : ℕ) → Expr
    Named : (at : ℕ) (name : Name) → Expr
    Bracket : (inside : Expr) → Expr
    Prefix : (at : ℕ) (op : Unary) (operand : Expr) → Expr
    Infix : (at : ℕ) (sign : InfixSign) (left right : Expr) → Expr
    Fetch : (at : ℕ) (array : Name) (index : Expr) → Expr
    Store : (at : ℕ) (array : Name) (index stored : Expr) → Expr
    Call : (at : ℕ) (strict : Bool) (function : Name) (arguments : Exprs) → Expr
    If : (at : ℕ) (predicate : Expr) (left right : Body) → Expr
    -- the bound is how many turns may be open at once, and says nothing of values; each name has a first value
    Loop : (at : ℕ) (bound : NumberAt) (firsts : Exprs) (turn : Turn) → Expr

  -- a list that is not empty
  pub data Exprs : Type 0 where
    One : (only : Expr) → Exprs
    More : (first : Expr) (others : Exprs) → Exprs

  pub data Body : Type 0 where
    Let : (at : ℕ) (targets : List Target) (values : Exprs) (rest : Body) → Body
    Do : (done : Exprs) (rest : Body) → Body
    Give : (values : Exprs) → Body
    -- the `if` after an `else`
    Chain : (conditional : Expr) → Body

  -- a loop's names, with the test before the body or after it
  pub data Turn : Type 0 where
    Before : (names : List NameAt) (test : Expr) (body : Body) → Turn
    After : (names : List NameAt) (body : Body) (test : Expr) → Turn

pub record Function : Type 0 where
  pub name : NameAt
  pub params : List NameAt
  -- the number of results, where it is written
  pub results : Option NumberAt
  -- the place of the body's brace
  pub body_at : ℕ
  pub body : Body

pub data Item : Type 0 where
  Cells : (name : NameAt) (len : NumberAt) → Item
  Defines : (function : Function) → Item

-- arrays and functions, in the order of the text
abbrev pub Program : Type 0
Program = List Item

abbrev pub names_of : Turn → List NameAt
names_of (Before xs p body) = xs
names_of (After xs body p) = xs
