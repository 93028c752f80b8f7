-- A PROGRAM WITH DERIVED FORMS, AS A TREE. Where a token may be faulty, or be the origin of a fault, the tree has its place
-- in the text, as a tree of the core has it.
use Rattle.std.specs.Prelude.{ℕ, Bool, List, [], Option}
use Rattle.operators.specs.declared.Unary.{Unary}
use Rattle.source.specs.declared.word.InfixSign.{InfixSign}
use Rattle.source.specs.Tree.{Name, NameAt, Target}

-- where the core has a number: this number, or the constant of this name
pub data Count : Type 0 where
  Written : (at number : ℕ) → Count
  Constant : (at : ℕ) (name : Name) → Count

mutual
  pub data Expr : Type 0 where
    Number : (at number : ℕ) → Expr
    -- a value or a constant; as an argument also an array
    Named : (at : ℕ) (name : Name) → Expr
    Bracket : (inside : Expr) → Expr
    Prefix : (at : ℕ) (op : Unary) (operand : Expr) → Expr
    Infix : (at : ℕ) (sign : InfixSign) (left right : Expr) → Expr
    And : (at : ℕ) (left right : Expr) → Expr
    Or : (at : ℕ) (left right : Expr) → Expr
    Not : (at : ℕ) (operand : Expr) → Expr
    -- an index for each dimension
    Fetch : (at : ℕ) (array : Name) (indexes : Exprs) → Expr
    Store : (at : ℕ) (array : Name) (indexes : Exprs) (stored : Expr) → Expr
    -- of a function, or of what is built in where no function has the name
    Call : (at : ℕ) (strict : Bool) (function : Name) (arguments : Exprs) → Expr
    If : (at : ℕ) (predicate : Expr) (left right : Body) → Expr
    Loop : (at : ℕ) (bound : Count) (firsts : Exprs) (turn : Turn) → Expr
    -- the counter goes from `first` up to what is before `end`
    For : (at : ℕ) (bound : Option Count) (counter : NameAt) (first end : Expr) (carried : Carried) (body : Body) → Expr

  -- a list that is not empty
  pub data Exprs : Type 0 where
    One : (only : Expr) → Exprs
    More : (first : Expr) (others : Exprs) → Exprs

  pub data Body : Type 0 where
    Let : (at : ℕ) (targets : List Target) (values : Exprs) (rest : Body) → Body
    Do : (done : Exprs) (rest : Body) → Body
    -- a statement without a last `else`
    When : (tests : Tests) (rest : Body) → Body
    Give : (values : Exprs) → Body
    -- the `if` after an `else`
    Chain : (conditional : Expr) → Body

  -- an `if` with no `else`, or one with such a chain after its `else`
  pub data Tests : Type 0 where
    Last : (at : ℕ) (test : Expr) (arm : Body) → Tests
    Else : (at : ℕ) (test : Expr) (arm : Body) (others : Tests) → Tests

  -- a loop's names, with the test before the body or after it
  pub data Turn : Type 0 where
    Before : (names : List NameAt) (test : Expr) (body : Body) → Turn
    After : (names : List NameAt) (body : Body) (test : Expr) → Turn

  -- what a `for` carries beside its counter: nothing, or the names after `with`, each with a first value
  pub data Carried : Type 0 where
    Nothing : Carried
    With : (names : List NameAt) (firsts : Exprs) → Carried

pub record Param : Type 0 where
  pub name : NameAt
  -- the number of dimensions of the array that it stands for; 0 of a value
  pub rank : ℕ

pub record Function : Type 0 where
  pub name : NameAt
  pub params : List Param
  -- the number of results, where it is written
  pub results : Option Count
  -- the place of the body's brace
  pub body_at : ℕ
  pub body : Body

pub data Item : Type 0 where
  Cells : (name : NameAt) (lengths : Exprs) → Item
  Const : (name : NameAt) (value : Expr) → Item
  Defines : (function : Function) → Item

-- arrays, constants and functions, in the order of the text
abbrev pub Program : Type 0
Program = List Item

abbrev pub names_of : Turn → List NameAt
names_of (Before xs p body) = xs
names_of (After xs body p) = xs

abbrev pub carried_names : Carried → List NameAt
carried_names Nothing = []
carried_names (With xs firsts) = xs
