-- What the rules say of the parts of a part that keeps them.
use Rattle.std.specs.Prelude.{◌≡◌, ℕ, ◌+◌, ◌==◌, ◌&&◌, nat_le, Bool, true, List, [], ◌++◌, length, is_some, Option, Some, None, Result, Ok, ⊤}
use Rattle.std.proofs.Common.{sym, ◌∙◌, eqb-true}
use Rattle.operators.specs.declared.Unary.{Unary}
use Rattle.source.specs.declared.word.InfixSign.{InfixSign}
use Rattle.source.specs.declared.fault.Fault.{Fault}
use Rattle.source.specs.declared.fault.FaultKind.{FaultKind}
use Rattle.source.specs.declared.fault.FaultKind.TheVariants.{Arity, NoSuchName, BadBound, TooWide}
use Rattle.source.specs.Tree.{Name, NameAt, NumberAt, Target, Expr, Named, Prefix, Infix, Fetch, Store, Call, If, Loop, Exprs, One, More, Body, Let}
use Rattle.source.specs.Tree.{Do, Turn, Before, After, Function, Program, names_of}
use Rattle.source.specs.Spelled.{others}
use Rattle.source.specs.Outside.{is_in, bare, bound_by, outside_turn}
use Rattle.source.specs.First.{◌>>=◌, must}
use Rattle.source.specs.Rules.{function_in, array_in, written_or_one, one_value, place_of, known_array, known_function, new_targets, new_first}
use Rattle.source.specs.Rules.{and_first, values, list_values, first_values, body_values, turn_values}
use Rattle.source.proofs.Steps.{then_ok, must_ok, ok_same, ok_as, ok_through}

pub test_ok : (m k : ℕ) (kind : FaultKind) (at : ℕ) (t : ⊤) → must (m == k) kind at ≡ Ok t → m ≡ k
test_ok m k kind at t h = eqb-true m k (must_ok (m == k) kind at t h)

pub one_is : (e : Expr) (m n : ℕ) → one_value e m ≡ Ok n → (m ≡ 1) × (1 ≡ n)
one_is e m n h = let s = then_ok (must (m == 1) Arity (place_of e)) (λ t. Ok 1) n h in (test_ok m 1 Arity (place_of e) s.0 s.1, ok_same 1 n s.2)

-- a part that has one value
pub record HasOne (p : Program) (scope : List Name) (e : Expr) : Type 0 where
  pub values : values p scope e ≡ Ok 1

pub has_one : (p : Program) (scope : List Name) (e : Expr) (n : ℕ) → (values p scope e >>= (λ m. one_value e m)) ≡ Ok n → HasOne p scope e × (1 ≡ n)
has_one p scope e n h =
    let s = then_ok (values p scope e) (λ m. one_value e m) n h in let o = one_is e s.0 n s.2 in (
      record {
        values = ok_as (values p scope e) s.0 1 s.1 o.0;
      },
      o.1,
    )

pub known_name : (p : Program) (scope : List Name) (at : ℕ) (x : Name) (n : ℕ) → values p scope (Named at x) ≡ Ok n → (is_in x scope ≡ true) × (1 ≡ n)
known_name p scope at x n h =
    let s = then_ok (must (is_in x scope) NoSuchName at) (λ t. Ok 1) n h in (must_ok (is_in x scope) NoSuchName at s.0 s.1, ok_same 1 n s.2)

pub in_prefix : (p : Program) (scope : List Name) (at : ℕ) (op : Unary) (e : Expr) (n : ℕ) → values p scope (Prefix at op e) ≡ Ok n → HasOne p scope e × (1 ≡ n)
in_prefix p scope at op e n h = has_one p scope e n h

-- one part with one value, and then another
pub both_one : (p : Program) (scope : List Name) (e d : Expr) (n : ℕ)
    → (values p scope e >>= (λ m. one_value e m >>= (λ one. values p scope d >>= (λ k. one_value d k)))) ≡ Ok n → HasOne p scope e × HasOne p scope d × (1 ≡ n)
both_one p scope e d n h =
    let s = then_ok (values p scope e) (λ m. one_value e m >>= (λ one. values p scope d >>= (λ k. one_value d k))) n h in
    let t = then_ok (one_value e s.0) (λ one. values p scope d >>= (λ k. one_value d k)) n s.2 in
    let o = one_is e s.0 t.0 t.1 in let r = has_one p scope d n t.2 in
    (record { values = ok_as (values p scope e) s.0 1 s.1 o.0 }, r.0, r.1)

pub in_infix : (p : Program) (scope : List Name) (at : ℕ) (s : InfixSign) (l r : Expr) (n : ℕ) → values p scope (Infix at s l r) ≡ Ok n
    → HasOne p scope l × HasOne p scope r × (1 ≡ n)
in_infix p scope at s l r n h = both_one p scope l r n h

pub in_fetch : (p : Program) (scope : List Name) (at : ℕ) (a : Name) (e : Expr) (n : ℕ) → values p scope (Fetch at a e) ≡ Ok n
    → (is_some (array_in p a) ≡ true) × HasOne p scope e × (1 ≡ n)
in_fetch p scope at a e n h =
    let s = then_ok (known_array p at a) (λ known. values p scope e >>= (λ m. one_value e m)) n h in let r = has_one p scope e n s.2 in
    (must_ok (is_some (array_in p a)) NoSuchName at s.0 s.1, r.0, r.1)

pub in_store : (p : Program) (scope : List Name) (at : ℕ) (a : Name) (e d : Expr) (n : ℕ) → values p scope (Store at a e d) ≡ Ok n
    → (is_some (array_in p a) ≡ true) × HasOne p scope e × HasOne p scope d × (1 ≡ n)
in_store p scope at a e d n h =
    let s = then_ok (known_array p at a) (λ known. values p scope e >>= (λ m. one_value e m >>= (λ one. values p scope d >>= (λ k. one_value d k)))) n h in
    let r = both_one p scope e d n s.2 in
    (must_ok (is_some (array_in p a)) NoSuchName at s.0 s.1, r.0, r.1, r.2)

-- the function that a call names exists, and has as many parameters as there are arguments
pub record IsCalled (p : Program) (scope : List Name) (f : Name) (es : Exprs) (n : ℕ) : Type 0 where
  pub function : Function
  pub found : function_in p f ≡ Some function
  pub arguments : list_values p scope es ≡ Ok (length function.params)
  pub results : written_or_one function.results ≡ n

found_is : (at : ℕ) (o : Option Function) (g : Function) → known_function at o ≡ Ok g → o ≡ Some g
found_is at None g h = cc
found_is at (Some k) g h = cc

pub in_call : (p : Program) (scope : List Name) (at : ℕ) (strict : Bool) (f : Name) (es : Exprs) (n : ℕ) → values p scope (Call at strict f es) ≡ Ok n →
    IsCalled p scope f es n
in_call p scope at strict f es n h =
    let s = then_ok (known_function at (function_in p f)) (λ g. list_values p scope es >>= (λ m. must (m == length g.params) Arity at >>= (λ all. Ok
    (written_or_one g.results)))) n h in
    let t = then_ok (list_values p scope es) (λ m. must (m == length s.0.params) Arity at >>= (λ all. Ok (written_or_one s.0.results))) n s.2 in
    let u = then_ok (must (t.0 == length s.0.params) Arity at) (λ all. Ok (written_or_one s.0.results)) n t.2 in
    record {
      function = s.0;
      found = found_is at (function_in p f) s.0 s.1;
      arguments = ok_as (list_values p scope es) t.0 (length s.0.params) t.1 (test_ok t.0 (length s.0.params) Arity at u.0 u.1);
      results = ok_same (written_or_one s.0.results) n u.2;
    }

pub in_if : (p : Program) (scope : List Name) (at : ℕ) (q : Expr) (l r : Body) (n : ℕ) → values p scope (If at q l r) ≡ Ok n
    → HasOne p scope q × (body_values p scope l ≡ Ok n) × (body_values p scope r ≡ Ok n)
in_if p scope at q l r n h =
    let s = then_ok (values p scope q) (λ m. one_value q m >>= (λ one. body_values p scope l >>= (λ left. body_values p scope r >>= (λ right. must (left ==
    right) Arity at >>= (λ same. Ok left))))) n h in
    let t = then_ok (one_value q s.0) (λ one. body_values p scope l >>= (λ left. body_values p scope r >>= (λ right. must (left == right) Arity at >>= (λ
    same. Ok left)))) n s.2 in
    let u = then_ok (body_values p scope l) (λ left. body_values p scope r >>= (λ right. must (left == right) Arity at >>= (λ same. Ok left))) n t.2 in
    let v = then_ok (body_values p scope r) (λ right. must (u.0 == right) Arity at >>= (λ same. Ok u.0)) n u.2 in
    let x = then_ok (must (u.0 == v.0) Arity at) (λ same. Ok u.0) n v.2 in
    let o = one_is q s.0 t.0 t.1 in let e = ok_same u.0 n x.2 in let d = test_ok u.0 v.0 Arity at x.0 x.1 in (
      record { values = ok_as (values p scope q) s.0 1 s.1 o.0 },
      ok_as (body_values p scope l) u.0 n u.1 e,
      ok_through (body_values p scope r) u.0 v.0
          n v.1 d e,
    )

pub record IsTurned (p : Program) (scope : List Name) (bound : NumberAt) (firsts : Exprs) (turn : Turn) (n : ℕ) : Type 0 where
  pub small : (nat_le 2 bound.number && nat_le bound.number 64) ≡ true
  pub begun : first_values p scope [] (names_of turn) firsts ≡ Ok tt
  pub turns : turn_values p (bare (names_of turn) ++ scope) turn ≡ Ok n
  pub names : n ≡ length (names_of turn)
  pub carried : nat_le (length (names_of turn) + length (outside_turn turn)) 15 ≡ true

pub in_loop : (p : Program) (scope : List Name) (at : ℕ) (bound : NumberAt) (firsts : Exprs) (turn : Turn) (n : ℕ) → values p scope (Loop at bound firsts
    turn) ≡ Ok n
    → IsTurned p scope bound firsts turn n
in_loop p scope at bound firsts turn n h =
    let few : Bool = nat_le (length (names_of turn) + length (outside_turn turn)) 15 in
    let fits : Bool = nat_le 2 bound.number && nat_le bound.number 64 in
    let s = then_ok (must fits BadBound bound.at) (λ fits. first_values p scope [] (names_of turn) firsts >>= (λ begun. turn_values p (bare (names_of turn)
    ++ scope) turn >>= (λ m. must (m == length (names_of turn)) Arity at >>= (λ all. must few TooWide at >>= (λ narrow. Ok m))))) n h in
    let t = then_ok (first_values p scope [] (names_of turn) firsts) (λ begun. turn_values p (bare (names_of turn) ++ scope) turn >>= (λ m. must (m ==
    length (names_of turn)) Arity at >>= (λ all. must few TooWide at >>= (λ narrow. Ok m)))) n s.2 in
    let u = then_ok (turn_values p (bare (names_of turn) ++ scope) turn) (λ m. must (m == length (names_of turn)) Arity at >>= (λ all. must few TooWide at
    >>= (λ narrow. Ok m))) n t.2 in
    let v = then_ok (must (u.0 == length (names_of turn)) Arity at) (λ all. must few TooWide at >>= (λ narrow. Ok u.0)) n u.2 in
    let x = then_ok (must few TooWide at) (λ narrow. Ok u.0) n v.2 in
    let e = ok_same u.0 n x.2 in let d = test_ok u.0 (length (names_of turn)) Arity at v.0 v.1 in
    record {
      small = must_ok fits BadBound bound.at s.0 s.1;
      begun = t.1;
      turns = ok_as (turn_values p (bare (names_of turn) ++ scope) turn) u.0 n u.1 e;
      names = sym e ∙ d;
      carried = must_ok few TooWide at x.0 x.1;
    }

pub in_more : (p : Program) (scope : List Name) (e : Expr) (es : Exprs) (n : ℕ) → list_values p scope (More e es) ≡ Ok n
    → (m : ℕ) × (k : ℕ) × (values p scope e ≡ Ok m) × (list_values p scope es ≡ Ok k) × (m + k ≡ n)
in_more p scope e es n h =
    let s = then_ok (values p scope e) (λ m. list_values p scope es >>= (λ k. Ok (m + k))) n h in
    let t = then_ok (list_values p scope es) (λ k. Ok (s.0 + k)) n s.2 in
    (s.0, t.0, s.1, t.1, ok_same (s.0 + t.0) n t.2)

first_is_one : (p : Program) (scope : List Name) (e : Expr) → Path (Result ⊤ Fault) (values p scope e >>= (λ m. one_value e m >>= (λ one. Ok tt))) (Ok tt) →
    HasOne p scope e
first_is_one p scope e h =
    let s = then_ok (values p scope e) (λ m. one_value e m >>= (λ one. Ok tt)) tt h in let t = then_ok (one_value e s.0) (λ one. Ok tt) tt s.2 in
    record { values = ok_as (values p scope e) s.0 1 s.1 (one_is e s.0 t.0 t.1).0 }

pub in_first : (p : Program) (scope before : List Name) (xs : List NameAt) (e : Expr) → first_values p scope before xs (One e) ≡ Ok tt → HasOne p scope e
in_first p scope before xs e h = first_is_one p scope e (then_ok (new_first p before xs) (λ new. values p scope e >>= (λ m. one_value e m >>= (λ one. Ok
    tt))) tt h).2

pub in_firsts : (p : Program) (scope before : List Name) (xs : List NameAt) (e : Expr) (es : Exprs) → first_values p scope before xs (More e es) ≡ Ok tt
    → HasOne p scope e × (first_values p scope (and_first before xs) (others xs) es ≡ Ok tt)
in_firsts p scope before xs e es h =
    let s = then_ok (new_first p before xs) (λ new. values p scope e >>= (λ m. one_value e m >>= (λ one. first_values p scope (and_first before xs) (others
    xs) es))) tt h in
    let t = then_ok (values p scope e) (λ m. one_value e m >>= (λ one. first_values p scope (and_first before xs) (others xs) es)) tt s.2 in
    let u = then_ok (one_value e t.0) (λ one. first_values p scope (and_first before xs) (others xs) es) tt t.2 in
    (record { values = ok_as (values p scope e) t.0 1 t.1 (one_is e t.0 u.0 u.1).0 }, u.2)

pub in_let : (p : Program) (scope : List Name) (at : ℕ) (targets : List Target) (es : Exprs) (rest : Body) (n : ℕ) → body_values p scope (Let at targets es
    rest) ≡ Ok n
    → (new_targets p [] targets ≡ Ok tt) × (list_values p scope es ≡ Ok (length targets)) × (body_values p (bound_by targets ++ scope) rest ≡ Ok n)
in_let p scope at targets es rest n h =
    let s = then_ok (new_targets p [] targets) (λ new. list_values p scope es >>= (λ m. must (m == length targets) Arity at >>= (λ all. body_values p
    (bound_by targets ++ scope) rest))) n h in
    let t = then_ok (list_values p scope es) (λ m. must (m == length targets) Arity at >>= (λ all. body_values p (bound_by targets ++ scope) rest)) n s.2 in
    let u = then_ok (must (t.0 == length targets) Arity at) (λ all. body_values p (bound_by targets ++ scope) rest) n t.2 in
    (s.1, ok_as (list_values p scope es) t.0 (length targets) t.1 (test_ok t.0 (length targets) Arity at u.0 u.1), u.2)

pub in_do : (p : Program) (scope : List Name) (es : Exprs) (rest : Body) (n : ℕ) → body_values p scope (Do es rest) ≡ Ok n
    → (m : ℕ) × (list_values p scope es ≡ Ok m) × (body_values p scope rest ≡ Ok n)
in_do p scope es rest n h = then_ok (list_values p scope es) (λ m. body_values p scope rest) n h

pub in_before : (p : Program) (scope : List Name) (xs : List NameAt) (q : Expr) (body : Body) (n : ℕ) → turn_values p scope (Before xs q body) ≡ Ok n
    → HasOne p scope q × (body_values p scope body ≡ Ok n)
in_before p scope xs q body n h =
    let s = then_ok (values p scope q) (λ m. one_value q m >>= (λ one. body_values p scope body)) n h in
    let t = then_ok (one_value q s.0) (λ one. body_values p scope body) n s.2 in
    (record { values = ok_as (values p scope q) s.0 1 s.1 (one_is q s.0 t.0 t.1).0 }, t.2)

pub in_after : (p : Program) (scope : List Name) (xs : List NameAt) (body : Body) (q : Expr) (n : ℕ) → turn_values p scope (After xs body q) ≡ Ok n
    → (body_values p scope body ≡ Ok n) × HasOne p scope q
in_after p scope xs body q n h =
    let s = then_ok (body_values p scope body) (λ m. values p scope q >>= (λ k. one_value q k >>= (λ one. Ok m))) n h in
    let t = then_ok (values p scope q) (λ k. one_value q k >>= (λ one. Ok s.0)) n s.2 in
    let u = then_ok (one_value q t.0) (λ one. Ok s.0) n t.2 in
    (ok_as (body_values p scope body) s.0 n s.1 (ok_same s.0 n u.2), record { values = ok_as (values p scope q) t.0 1 t.1 (one_is q t.0 u.0 u.1).0 })
