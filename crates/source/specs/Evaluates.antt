-- What a program means, over a memory that is given: a fetch reads what the memory has in the end, so nothing needs an
-- order. All that is due is evaluated, used or not.
use Rattle.std.specs.Prelude.{◌≡◌, ℕ, ◌+◌, Bool, true, false, ℤ, List, [], ◌∷◌, ◌++◌, Option, Some, None, if◌then◌else◌}
use Rattle.std.specs.Int.{w64, cast_signed}
use Rattle.tags.specs.declared.value.Value.{Value}
use Rattle.tags.specs.declared.value.Value.TheVariants.{Int}
use Rattle.tags.specs.declared.value.Origin.{Origin}
use Rattle.operators.specs.declared.Unary.{Unary}
use Rattle.operators.specs.declared.Binary.TheVariants.{Lt, Le}
use Rattle.operators.specs.Values.{truth, apply1, apply2, Indexed, Place, Outside, index_in}
use Rattle.semantics.specs.Graph.{same_name}
use Rattle.source.specs.declared.word.InfixSign.{InfixSign}
use Rattle.source.specs.declared.word.InfixSign.TheVariants.{Direct, Greater, AtLeast}
use Rattle.source.specs.Tree.{Name, NameAt, NumberAt, Target, Bind, Drop, Expr, Number, Named, Bracket, Prefix, Infix, Fetch, Store, Call, If, Loop}
use Rattle.source.specs.Tree.{Exprs, One, More, Body, Let, Do, Give, Chain, Turn, Before, After, Function, Item, Cells, Defines, Program}
use Rattle.source.specs.Rules.{function_in, main_name}

-- the surroundings of an evaluation: the program, the origin of a fault that is made at a token, and the memory in the end
pub record World : Type 0 where
  pub program : Program
  pub origin : ℕ → Origin
  pub memory : ℕ → Option Value

-- NAMES. What names stand for, those that hide others first.
abbrev pub Env : Type 0
Env = List (Name × Value)

abbrev pub bound : Env → Name → Option Value
bound [] x = None
bound (entry ∷ env) x = if same_name x entry.0 then Some entry.1 else bound env x

-- the names stand for the values, before what was there
abbrev pub entered : List NameAt → List Value → Env → Env
entered (x ∷ xs) (v ∷ vs) env = (x.name, v) ∷ entered xs vs env
entered xs vs env = env

abbrev pub let_in : List Target → List Value → Env → Env
let_in (Bind x ∷ xs) (v ∷ vs) env = (x.name, v) ∷ let_in xs vs env
let_in (Drop ∷ xs) (v ∷ vs) env = let_in xs vs env
let_in xs vs env = env

abbrev pub function : World → Name → Option Function
function w f = function_in w.program f

-- OPERATORS
-- a numeral in two's complement of 64 bits, so that the one of 2 ^ 63 is the least number
abbrev pub signed : ℕ → ℤ
signed n = cast_signed w64 n

-- of two faults, the left one of the operator's operands travels: for `>` and `>=` that is the right one of the text
abbrev pub operated : InfixSign → Value → Value → Origin → Value
operated (Direct op) x y origin = apply2 op x y origin
operated Greater x y origin = apply2 Lt y x origin
operated AtLeast x y origin = apply2 Le y x origin

-- CELLS of all arrays are numbered through, in order of the arrays.
abbrev pub counted_from : ℕ → Indexed → Indexed
counted_from base (Place n) = Place (base + n)
counted_from base (Outside fault) = Outside fault

-- each index of an array that is not there is outside
abbrev pub place_from : ℕ → List Item → Name → Value → Origin → Indexed
place_from base [] a i origin = index_in 0 i origin
place_from base (Cells x len ∷ items) a i origin = if same_name a x.name then counted_from base (index_in len.number i origin) else place_from (base +
    len.number) items a i origin
place_from base (Defines g ∷ items) a i origin = place_from base items a i origin

-- the cell that an index names in the array, or the fault that stands for it, made at the token
abbrev pub place_in : World → ℕ → Name → Value → Indexed
place_in w t a i = place_from 0 w.program a i (w.origin t)

-- what a fetch of it gives
abbrev pub Reads : World → Indexed → Value → Type 0
Reads w (Outside fault) v = v ≡ fault
Reads w (Place x) v = w.memory x ≡ Some v

-- what a store of the value gives, and the stores that it makes
abbrev pub Stores : Type 0
Stores = List (ℕ × Value)

abbrev pub answer : Indexed → Value → Value
answer (Outside fault) v = fault
answer (Place x) v = v

abbrev pub filled : Indexed → Value → Stores
filled (Outside fault) v = []
filled (Place x) v = (x, v) ∷ []

-- EVALUATION: in a world, under names, to values and to the stores that are made.
mutual
  pub data Evaluates (w : World) : Env → Expr → List Value → Stores → Type 0 where
    number : {env : Env} {t n : ℕ} → Evaluates w env (Number t n) (Int (signed n) ∷ []) []
    named : {env : Env} {t : ℕ} {x : Name} {v : Value} → bound env x ≡ Some v → Evaluates w env (Named t x) (v ∷ []) []
    bracket : {env : Env} {e : Expr} {vs : List Value} {ss : Stores} → Evaluates w env e vs ss → Evaluates w env (Bracket e) vs ss
    prefix : {env : Env} {t : ℕ} {op : Unary} {e : Expr} {v : Value} {ss : Stores} → Evaluates w env e (v ∷ []) ss → Evaluates w env (Prefix t op e) (apply1
        op v ∷ []) ss
    infix_ : {env : Env} {t : ℕ} {sign : InfixSign} {l r : Expr} {x y : Value} {ss us : Stores} → Evaluates w env l (x ∷ []) ss → Evaluates w env r (y ∷ []) us
        → Evaluates w env (Infix t sign l r) (operated sign x y (w.origin t) ∷ []) (ss ++ us)
    fetch : {env : Env} {t : ℕ} {a : Name} {e : Expr} {i v : Value} {ss : Stores} → Evaluates w env e (i ∷ []) ss → Reads w (place_in w t a i) v
        → Evaluates w env (Fetch t a e) (v ∷ []) ss
    store : {env : Env} {t : ℕ} {a : Name} {e d : Expr} {i v : Value} {ss us : Stores} → Evaluates w env e (i ∷ []) ss → Evaluates w env d (v ∷ []) us
        → Evaluates w env (Store t a e d) (answer (place_in w t a i) v ∷ []) (ss ++ us ++ filled (place_in w t a i) v)
    call : {env : Env} {t : ℕ} {strict : Bool} {f : Name} {es : Exprs} {g : Function} {vs rs : List Value} {ss us : Stores}
        → EvaluatesAll w env es vs ss → function w f ≡ Some g → Runs w (entered g.params vs []) g.body rs us → Evaluates w env (Call t strict f es) rs (ss
        ++ us)
    if_true : {env : Env} {t : ℕ} {p : Expr} {l r : Body} {b : Value} {vs : List Value} {ss us : Stores}
        → Evaluates w env p (b ∷ []) ss → truth b ≡ true → Runs w env l vs us → Evaluates w env (If t p l r) vs (ss ++ us)
    if_false : {env : Env} {t : ℕ} {p : Expr} {l r : Body} {b : Value} {vs : List Value} {ss us : Stores}
        → Evaluates w env p (b ∷ []) ss → truth b ≡ false → Runs w env r vs us → Evaluates w env (If t p l r) vs (ss ++ us)
    loop : {env : Env} {t : ℕ} {k : NumberAt} {firsts : Exprs} {turn : Turn} {vs rs : List Value} {ss us : Stores}
        → EvaluatesAll w env firsts vs ss → Turns w env turn vs rs us → Evaluates w env (Loop t k firsts turn) rs (ss ++ us)

  pub data EvaluatesAll (w : World) : Env → Exprs → List Value → Stores → Type 0 where
    one : {env : Env} {e : Expr} {vs : List Value} {ss : Stores} → Evaluates w env e vs ss → EvaluatesAll w env (One e) vs ss
    more : {env : Env} {e : Expr} {es : Exprs} {vs us : List Value} {ss qs : Stores} → Evaluates w env e vs ss → EvaluatesAll w env es us qs
        → EvaluatesAll w env (More e es) (vs ++ us) (ss ++ qs)

  pub data Runs (w : World) : Env → Body → List Value → Stores → Type 0 where
    lets : {env : Env} {t : ℕ} {targets : List Target} {es : Exprs} {rest : Body} {vs rs : List Value} {ss us : Stores}
        → EvaluatesAll w env es vs ss → Runs w (let_in targets vs env) rest rs us → Runs w env (Let t targets es rest) rs (ss ++ us)
    does : {env : Env} {es : Exprs} {rest : Body} {vs rs : List Value} {ss us : Stores}
        → EvaluatesAll w env es vs ss → Runs w env rest rs us → Runs w env (Do es rest) rs (ss ++ us)
    gives : {env : Env} {es : Exprs} {vs : List Value} {ss : Stores} → EvaluatesAll w env es vs ss → Runs w env (Give es) vs ss
    chain : {env : Env} {e : Expr} {vs : List Value} {ss : Stores} → Evaluates w env e vs ss → Runs w env (Chain e) vs ss

  -- from the values that a turn has to those that the loop gives
  pub data Turns (w : World) : Env → Turn → List Value → List Value → Stores → Type 0 where
    -- the test is on the values that the turn has
    leaves : {env : Env} {xs : List NameAt} {p : Expr} {body : Body} {b : Value} {vs : List Value} {ss : Stores}
        → Evaluates w (entered xs vs env) p (b ∷ []) ss → truth b ≡ false → Turns w env (Before xs p body) vs vs ss
    goes : {env : Env} {xs : List NameAt} {p : Expr} {body : Body} {b : Value} {vs us rs : List Value} {ss ts qs : Stores}
        → Evaluates w (entered xs vs env) p (b ∷ []) ss → truth b ≡ true → Runs w (entered xs vs env) body us ts
        → Turns w env (Before xs p body) us rs qs → Turns w env (Before xs p body) vs rs (ss ++ ts ++ qs)
    -- the test is on the values that the turn gives, and there is always a first turn
    ends : {env : Env} {xs : List NameAt} {p : Expr} {body : Body} {b : Value} {vs us : List Value} {ts ss : Stores}
        → Runs w (entered xs vs env) body us ts → Evaluates w (entered xs us env) p (b ∷ []) ss → truth b ≡ false → Turns w env (After xs body p) vs us (ts
        ++ ss)
    again : {env : Env} {xs : List NameAt} {p : Expr} {body : Body} {b : Value} {vs us rs : List Value} {ts ss qs : Stores}
        → Runs w (entered xs vs env) body us ts → Evaluates w (entered xs us env) p (b ∷ []) ss → truth b ≡ true
        → Turns w env (After xs body p) us rs qs → Turns w env (After xs body p) vs rs (ts ++ ss ++ qs)

-- the function `main`, on these arguments
pub record RunsMain (w : World) (arguments outputs : List Value) (stores : Stores) : Type 0 where
  pub main : Function
  pub named : function w main_name ≡ Some main
  pub runs : Runs w (entered main.params arguments []) main.body outputs stores
