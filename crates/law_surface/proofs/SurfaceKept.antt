-- What the rules say of the parts of a part with derived forms that keeps them.
use Rattle.std.specs.Prelude.{◌≡◌, ℕ, zero, suc, ◌+◌, ◌==◌, ◌&&◌, ◌||◌, nat_le, Bool, true, false, ℤ, pos, int_le, int_lt, List, [], ◌∷◌, ◌++◌}
use Rattle.std.specs.Prelude.{replicate, length, Option, Some, None}
use Rattle.std.specs.Prelude.{Result, Ok, ⊤, refl}
use Rattle.std.proofs.Common.{sym, ◌∙◌, ap, eqb-true}
use Rattle.lemmas.proofs.Bools.{first_of_and, second_of_and, equal_itself}
use Rattle.source.specs.declared.fault.FaultKind.{FaultKind as CoreKind}
use Rattle.source.specs.declared.fault.FaultKind.TheVariants.{Arity, NoSuchName, TooWide, BadCount}
use Rattle.source.specs.Tree.{Name, NameAt, Target}
use Rattle.source.specs.Spelled.{others}
use Rattle.source.specs.Outside.{is_in, bare, bound_by}
use Rattle.source.specs.Rules.{and_first}
use Rattle.surface.specs.declared.fault.Fault.{Fault}
use Rattle.surface.specs.declared.fault.FaultKind.TheVariants.{Core}
use Rattle.surface.specs.Tree.{Count, Expr, Named, Exprs, One, More, Body, Let, Do, When, Tests, Last, Else, Turn, Before, After, Carried, Fetch, Store, Call, If}
use Rattle.surface.specs.Tree.{Loop, For, names_of, carried_names}
use Rattle.surface.specs.First.{◌>>=◌, must_be, refused}
use Rattle.surface.specs.Known.{Callee, Missing, OfValues, OfArrays, IsBuiltIn, Min, Max, Abs, Len, callee}
use Rattle.surface.specs.Constants.{place_of, constant}
use Rattle.surface.specs.Outside.{outside_turn}
use Rattle.surface.specs.Rules.{Around, new_name, new_targets, new_first, one_value, is_constant, rank_of, known_array, same_ranks, good_bound}
use Rattle.surface.specs.Rules.{good_bound_if_written, no_values, for_width, is_as_many, for_values, good_dimension, measured, values, list_values, index_values}
use Rattle.surface.specs.Rules.{argument_ranks, first_values, carried_values, body_values, tests_values, turn_values}
use Rattle.law_surface.proofs.Steps.{then_ok, must_ok, must_then, ok_same}

-- a part that has one value
pub one_is : (e : Expr) (m n : ℕ) → one_value e m ≡ Ok n → (m ≡ 1) × (1 ≡ n)
one_is e m n h =
    let s = must_then (m == 1) (Core Arity) (place_of e) (Ok 1) n h in (eqb-true m 1 s.0, ok_same 1 n s.1)

ok_as : {A : Type 0} (r : Result A Fault) (a b : A) → r ≡ Ok a → a ≡ b → r ≡ Ok b
ok_as r a b h e = h ∙ ap (λ x. Ok x) e

pub has_one : (a : Around) (scope : List Name) (e : Expr) (n : ℕ) → (values a scope e >>= (λ m. one_value e m)) ≡ Ok n → (values a scope e ≡ Ok 1) × (1 ≡ n)
has_one a scope e n h =
    let s = then_ok (values a scope e) (λ m. one_value e m) n h in
    let o = one_is e s.0 n s.2 in (ok_as (values a scope e) s.0 1 s.1 o.0, o.1)

-- one part with one value, and then what follows
pub then_one : {B : Type 0} (a : Around) (scope : List Name) (e : Expr) (f : ℕ → Result B Fault) (n : B) → (values a scope e >>= (λ m. one_value e m >>= f)) ≡
    Ok n → (values a scope e ≡ Ok 1) × (f 1 ≡ Ok n)
then_one a scope e f n h =
    let s = then_ok (values a scope e) (λ m. one_value e m >>= f) n h in
    let t = then_ok (one_value e s.0) f n s.2 in
    let o = one_is e s.0 t.0 t.1 in (ok_as (values a scope e) s.0 1 s.1 o.0, ap f o.1 ∙ t.2)

pub both_one : (a : Around) (scope : List Name) (e d : Expr) (n : ℕ) → (values a scope e >>= (λ m. one_value e m >>= (λ one. values a scope d >>= (λ k. one_value
    d k)))) ≡ Ok n → (values a scope e ≡ Ok 1) × (values a scope d ≡ Ok 1) × (1 ≡ n)
both_one a scope e d n h =
    let s = then_one a scope e (λ one. values a scope d >>= (λ k. one_value d k)) n h in
    let t = has_one a scope d n s.1 in (s.0, t.0, t.1)

pub in_if : (a : Around) (scope : List Name) (at : ℕ) (q : Expr) (l r : Body) (n : ℕ) → values a scope (If at q l r) ≡ Ok n → (values a scope q ≡ Ok 1) ×
    (body_values a scope l ≡ Ok n) × (body_values a scope r ≡ Ok n)
in_if a scope at q l r n h =
    let s = then_one a scope q (λ one. body_values a scope l >>= (λ left. body_values a scope r >>= (λ right. must_be (left == right) Arity at >>= (λ same. Ok
    left)))) n h in
    let u = then_ok (body_values a scope l) (λ left. body_values a scope r >>= (λ right. must_be (left == right) Arity at >>= (λ same. Ok left))) n s.1 in
    let v = then_ok (body_values a scope r) (λ right. must_be (u.0 == right) Arity at >>= (λ same. Ok u.0)) n u.2 in
    let x = must_then (u.0 == v.0) (Core Arity) at (Ok u.0) n v.2 in
    let e = ok_same u.0 n x.1 in (
      s.0,
      ok_as (body_values a scope l) u.0 n u.1 e,
      ok_as (body_values a scope r) v.0 n v.1 (sym (eqb-true u.0 v.0 x.0) ∙ e),
    )

pub record IsTurned (a : Around) (scope : List Name) (bound : Count) (firsts : Exprs) (turn : Turn) (n : ℕ) : Type 0 where
  pub bound_is : good_bound a bound ≡ Ok tt
  pub begun : first_values a scope [] (names_of turn) firsts ≡ Ok tt
  pub turns : turn_values a (bare (names_of turn) ++ scope) turn ≡ Ok n
  pub names : n ≡ length (names_of turn)
  pub narrow : nat_le (length (names_of turn) + length (outside_turn (no_values a) turn)) 15 ≡ true

pub in_loop : (a : Around) (scope : List Name) (at : ℕ) (bound : Count) (firsts : Exprs) (turn : Turn) (n : ℕ) → values a scope (Loop at bound firsts turn) ≡ Ok
    n → IsTurned a scope bound firsts turn n
in_loop a scope at bound firsts turn n h =
    let few : Bool = nat_le (length (names_of turn) + length (outside_turn (no_values a) turn)) 15 in
    let s = then_ok (good_bound a bound) (λ fits. first_values a scope [] (names_of turn) firsts >>= (λ begun. turn_values a (bare (names_of turn) ++ scope)
    turn >>= (λ m. must_be (m == length (names_of turn)) Arity at >>= (λ all. must_be few TooWide at >>= (λ narrow. Ok m))))) n h in
    let t = then_ok (first_values a scope [] (names_of turn) firsts) (λ begun. turn_values a (bare (names_of turn) ++ scope) turn >>= (λ m. must_be (m ==
    length (names_of turn)) Arity at >>= (λ all. must_be few TooWide at >>= (λ narrow. Ok m)))) n s.2 in
    let u = then_ok (turn_values a (bare (names_of turn) ++ scope) turn) (λ m. must_be (m == length (names_of turn)) Arity at >>= (λ all. must_be few TooWide
    at >>= (λ narrow. Ok m))) n t.2 in
    let v = must_then (u.0 == length (names_of turn)) (Core Arity) at (must_be few TooWide at >>= (λ narrow. Ok u.0)) n u.2 in
    let x = must_then few (Core TooWide) at (Ok u.0) n v.1 in
    let e = ok_same u.0 n x.1 in
    record {
      bound_is = s.1;
      begun = t.1;
      turns = ok_as (turn_values a (bare (names_of turn) ++ scope) turn) u.0 n u.1 e;
      names = sym e ∙ eqb-true u.0 (length (names_of turn)) v.0;
      narrow = x.0;
    }

pub record IsCounted (a : Around) (scope : List Name) (bound : Option Count) (i : NameAt) (first end : Expr) (carried : Carried) (body : Body) (n : ℕ) : Type 0 where
  pub bound_is : good_bound_if_written a bound ≡ Ok tt
  pub new : new_name a [] i ≡ Ok tt
  pub first_is : values a scope first ≡ Ok 1
  pub end_is : values a scope end ≡ Ok 1
  pub begun : carried_values a scope (i.name ∷ []) carried ≡ Ok tt
  pub turns : ℕ
  pub body_is : body_values a (i.name ∷ bare (carried_names carried) ++ scope) body ≡ Ok turns
  pub as_many : is_as_many turns carried ≡ true
  pub narrow : nat_le (for_width a i end carried body) 15 ≡ true
  pub count : for_values carried ≡ n

pub in_for : (a : Around) (scope : List Name) (at : ℕ) (bound : Option Count) (i : NameAt) (first end : Expr) (carried : Carried) (body : Body) (n : ℕ)
    → values a scope (For at bound i first end carried body) ≡ Ok n → IsCounted a scope bound i first end carried body n
in_for a scope at bound i first end carried body n h =
    let few : Bool = nat_le (for_width a i end carried body) 15 in
    let inner : List Name = i.name ∷ bare (carried_names carried) ++ scope in
    let r6 : Result ℕ Fault = must_be few TooWide at >>= (λ narrow. Ok (for_values carried)) in
    let r5 : ℕ → Result ℕ Fault = λ k. must_be (is_as_many k carried) Arity at >>= (λ all. r6) in
    let r4 : Result ℕ Fault = carried_values a scope (i.name ∷ []) carried >>= (λ begun. body_values a inner body >>= r5) in
    let r3 : Result ℕ Fault = values a scope end >>= (λ m. one_value end m >>= (λ also. r4)) in
    let r2 : Result ℕ Fault = values a scope first >>= (λ m. one_value first m >>= (λ one. r3)) in
    let s = then_ok (good_bound_if_written a bound) (λ fits. new_name a [] i >>= (λ new. r2)) n h in
    let t = then_ok (new_name a [] i) (λ new. r2) n s.2 in
    let u = then_one a scope first (λ one. r3) n t.2 in
    let v = then_one a scope end (λ also. r4) n u.1 in
    let w = then_ok (carried_values a scope (i.name ∷ []) carried) (λ begun. body_values a inner body >>= r5) n v.1 in
    let x = then_ok (body_values a inner body) r5 n w.2 in
    let y = must_then (is_as_many x.0 carried) (Core Arity) at r6 n x.2 in
    let z = must_then few (Core TooWide) at (Ok (for_values carried)) n y.1 in
    record {
      bound_is = s.1;
      new = t.1;
      first_is = u.0;
      end_is = v.0;
      begun = w.1;
      turns = x.0;
      body_is = x.1;
      as_many = y.0;
      narrow = z.0;
      count = ok_same (for_values carried) n z.1;
    }

pub in_more : (a : Around) (scope : List Name) (e : Expr) (es : Exprs) (n : ℕ) → list_values a scope (More e es) ≡ Ok n → (m : ℕ) × (k : ℕ) × (values a scope e ≡
    Ok m) × (list_values a scope es ≡ Ok k) × (m + k ≡ n)
in_more a scope e es n h =
    let s = then_ok (values a scope e) (λ m. list_values a scope es >>= (λ k. Ok (m + k))) n h in
    let t = then_ok (list_values a scope es) (λ k. Ok (s.0 + k)) n s.2 in (s.0, t.0, s.1, t.1, ok_same (s.0 + t.0) n t.2)

pub in_first : (a : Around) (scope before : List Name) (xs : List NameAt) (e : Expr) → first_values a scope before xs (One e) ≡ Ok tt → (new_first a before xs ≡ Ok
    tt) × (values a scope e ≡ Ok 1)
in_first a scope before xs e h =
    let s = then_ok (new_first a before xs) (λ new. values a scope e >>= (λ m. one_value e m >>= (λ one. Ok tt))) tt h in
    (s.1, (then_one a scope e (λ one. Ok tt) tt s.2).0)

pub in_firsts : (a : Around) (scope before : List Name) (xs : List NameAt) (e : Expr) (es : Exprs) → first_values a scope before xs (More e es) ≡ Ok tt →
    (new_first a before xs ≡ Ok tt) × (values a scope e ≡ Ok 1) × (first_values a scope (and_first before xs) (others xs) es ≡ Ok tt)
in_firsts a scope before xs e es h =
    let s = then_ok (new_first a before xs) (λ new. values a scope e >>= (λ m. one_value e m >>= (λ one. first_values a scope (and_first before xs) (others xs)
    es))) tt h in
    let t = then_one a scope e (λ one. first_values a scope (and_first before xs) (others xs) es) tt s.2 in (s.1, t.0, t.1)

pub in_let : (a : Around) (scope : List Name) (at : ℕ) (targets : List Target) (es : Exprs) (rest : Body) (n : ℕ) → body_values a scope (Let at targets es rest) ≡
    Ok n → (new_targets a [] targets ≡ Ok tt) × (list_values a scope es ≡ Ok (length targets)) × (body_values a (bound_by targets ++ scope) rest ≡ Ok n)
in_let a scope at targets es rest n h =
    let s = then_ok (new_targets a [] targets) (λ new. list_values a scope es >>= (λ m. must_be (m == length targets) Arity at >>= (λ all. body_values a
    (bound_by targets ++ scope) rest))) n h in
    let t = then_ok (list_values a scope es) (λ m. must_be (m == length targets) Arity at >>= (λ all. body_values a (bound_by targets ++ scope) rest)) n s.2 in
    let u = must_then (t.0 == length targets) (Core Arity) at (body_values a (bound_by targets ++ scope) rest) n t.2 in
    (s.1, ok_as (list_values a scope es) t.0 (length targets) t.1 (eqb-true t.0 (length targets) u.0), u.1)

pub in_do : (a : Around) (scope : List Name) (es : Exprs) (rest : Body) (n : ℕ) → body_values a scope (Do es rest) ≡ Ok n → (m : ℕ) × (list_values a scope es ≡ Ok
    m) × (body_values a scope rest ≡ Ok n)
in_do a scope es rest n h = then_ok (list_values a scope es) (λ m. body_values a scope rest) n h

pub in_when : (a : Around) (scope : List Name) (tests : Tests) (rest : Body) (n : ℕ) → body_values a scope (When tests rest) ≡ Ok n → (tests_values a scope tests
    ≡ Ok tt) × (body_values a scope rest ≡ Ok n)
in_when a scope tests rest n h =
    let s = then_ok (tests_values a scope tests) (λ good. body_values a scope rest) n h in (s.1, s.2)

pub in_last : (a : Around) (scope : List Name) (at : ℕ) (q : Expr) (arm : Body) → tests_values a scope (Last at q arm) ≡ Ok tt → (values a scope q ≡ Ok 1) × (m :
    ℕ) × (body_values a scope arm ≡ Ok m)
in_last a scope at q arm h =
    let s = then_one a scope q (λ one. body_values a scope arm >>= (λ m. Ok tt)) tt h in
    let t = then_ok (body_values a scope arm) (λ m. Ok tt) tt s.1 in (s.0, t.0, t.1)

pub in_else : (a : Around) (scope : List Name) (at : ℕ) (q : Expr) (arm : Body) (more : Tests) → tests_values a scope (Else at q arm more) ≡ Ok tt → (values a scope
    q ≡ Ok 1) × (m : ℕ) × (body_values a scope arm ≡ Ok m) × (tests_values a scope more ≡ Ok tt)
in_else a scope at q arm more h =
    let s = then_one a scope q (λ one. body_values a scope arm >>= (λ m. tests_values a scope more)) tt h in
    let t = then_ok (body_values a scope arm) (λ m. tests_values a scope more) tt s.1 in (s.0, t.0, t.1, t.2)

pub in_before : (a : Around) (scope : List Name) (xs : List NameAt) (q : Expr) (body : Body) (n : ℕ) → turn_values a scope (Before xs q body) ≡ Ok n → (values a
    scope q ≡ Ok 1) × (body_values a scope body ≡ Ok n)
in_before a scope xs q body n h = then_one a scope q (λ one. body_values a scope body) n h

pub in_after : (a : Around) (scope : List Name) (xs : List NameAt) (body : Body) (q : Expr) (n : ℕ) → turn_values a scope (After xs body q) ≡ Ok n → (body_values
    a scope body ≡ Ok n) × (values a scope q ≡ Ok 1)
in_after a scope xs body q n h =
    let s = then_ok (body_values a scope body) (λ m. values a scope q >>= (λ k. one_value q k >>= (λ one. Ok m))) n h in
    let t = then_one a scope q (λ one. Ok s.0) n s.2 in (ok_as (body_values a scope body) s.0 n s.1 (ok_same s.0 n t.1), t.0)

-- NAMES of values, and of arrays
pub in_name : (a : Around) (scope : List Name) (at : ℕ) (x : Name) (n : ℕ) → values a scope (Named at x) ≡ Ok n → ((is_constant a.known x || is_in x scope) ≡
    true) × (1 ≡ n)
in_name a scope at x n h =
    let s = must_then (is_constant a.known x || is_in x scope) (Core NoSuchName) at (Ok 1) n h in (s.0, ok_same 1 n s.1)

rank_is : (at : ℕ) (o : Option ℕ) (rank : ℕ) → Path (Result ℕ Fault) (elim o as (λ _. Result ℕ Fault) [ Some n ↦ Ok n | None ↦ refused (Core NoSuchName) at ])
    (Ok rank) → o ≡ Some rank
rank_is at None rank h = cc
rank_is at (Some n) rank h = ap (λ (m : ℕ). Some m) (ok_same n rank h)

pub array_is : (a : Around) (at : ℕ) (x : Name) (rank : ℕ) → known_array a at x ≡ Ok rank → rank_of a x ≡ Some rank
array_is a at x rank h = rank_is at (rank_of a x) rank h

-- as many indexes as the array has dimensions
pub record IsIndexed (a : Around) (scope : List Name) (at : ℕ) (x : Name) (es : Exprs) : Type 0 where
  pub rank : ℕ
  pub found : known_array a at x ≡ Ok rank
  pub array : rank_of a x ≡ Some rank
  pub indexes : index_values a scope es ≡ Ok rank

pub indexed_then : (a : Around) (scope : List Name) (at : ℕ) (x : Name) (es : Exprs) (r : Result ℕ Fault) (n : ℕ) → (known_array a at x >>= (λ rank.
    index_values a scope es >>= (λ indexes. must_be (indexes == rank) Arity at >>= (λ all. r)))) ≡ Ok n → IsIndexed a scope at x es × (r ≡ Ok n)
indexed_then a scope at x es r n h =
    let s = then_ok (known_array a at x) (λ rank. index_values a scope es >>= (λ indexes. must_be (indexes == rank) Arity at >>= (λ all. r))) n h in
    let t = then_ok (index_values a scope es) (λ indexes. must_be (indexes == s.0) Arity at >>= (λ all. r)) n s.2 in
    let u = must_then (t.0 == s.0) (Core Arity) at r n t.2 in (
      record { rank = s.0; found = s.1; array = array_is a at x s.0 s.1; indexes = ok_as (index_values a scope es) t.0 s.0 t.1 (eqb-true t.0 s.0 u.0) },
      u.1,
    )

pub in_fetch : (a : Around) (scope : List Name) (at : ℕ) (x : Name) (es : Exprs) (n : ℕ) → values a scope (Fetch at x es) ≡ Ok n → IsIndexed a scope at x es × (1
    ≡ n)
in_fetch a scope at x es n h =
    let s = indexed_then a scope at x es (Ok 1) n h in (s.0, ok_same 1 n s.1)

pub in_store : (a : Around) (scope : List Name) (at : ℕ) (x : Name) (es : Exprs) (d : Expr) (n : ℕ) → values a scope (Store at x es d) ≡ Ok n → IsIndexed a
    scope at x es × (values a scope d ≡ Ok 1) × (1 ≡ n)
in_store a scope at x es d n h =
    let s = indexed_then a scope at x es (values a scope d >>= (λ m. one_value d m)) n h in
    let t = has_one a scope d n s.1 in (s.0, t.0, t.1)

pub in_index : (a : Around) (scope : List Name) (e : Expr) (n : ℕ) → index_values a scope (One e) ≡ Ok n → (values a scope e ≡ Ok 1) × (1 ≡ n)
in_index a scope e n h = let s = then_one a scope e (λ one. Ok 1) n h in (s.0, ok_same 1 n s.1)

pub in_indexes : (a : Around) (scope : List Name) (e : Expr) (es : Exprs) (n : ℕ) → index_values a scope (More e es) ≡ Ok n → (values a scope e ≡ Ok 1) × (m : ℕ) ×
    (index_values a scope es ≡ Ok m) × (suc m ≡ n)
in_indexes a scope e es n h =
    let s = then_one a scope e (λ one. index_values a scope es >>= (λ m. Ok (suc m))) n h in
    let t = then_ok (index_values a scope es) (λ m. Ok (suc m)) n s.1 in (s.0, t.0, t.1, ok_same (suc t.0) n t.2)

-- CALLS
abbrev pub call_values : Around → List Name → ℕ → Exprs → Callee → Result ℕ Fault
call_values a scope at es c = elim c as (λ _. Result ℕ Fault) [
  | Missing ↦ refused (Core NoSuchName) at
  | OfValues params results ↦ do
    n ← list_values a scope es
    all ← must_be (n == params) Arity at
    Ok results
  | OfArrays ranks results ↦ do
    found ← argument_ranks a scope es
    all ← must_be (same_ranks found ranks) Arity at
    Ok results
  | IsBuiltIn which ↦ elim which as (λ _. Result ℕ Fault) [
    | Len ↦ measured a at es
    | Min ↦ do
      n ← list_values a scope es
      all ← must_be (n == 2) Arity at
      Ok 1
    | Max ↦ do
      n ← list_values a scope es
      all ← must_be (n == 2) Arity at
      Ok 1
    | Abs ↦ do
      n ← list_values a scope es
      all ← must_be (n == 1) Arity at
      Ok 1
  ]
]

pub same_call : (a : Around) (scope : List Name) (at : ℕ) (strict : Bool) (f : Name) (es : Exprs) → values a scope (Call at strict f es) ≡ call_values a scope at es
    (callee a.known strict f)
same_call a scope at strict f es = refl

-- so many arguments
pub in_count : (a : Around) (scope : List Name) (at : ℕ) (es : Exprs) (k m n : ℕ) → (list_values a scope es >>= (λ i. must_be (i == k) Arity at >>= (λ all. Ok
    m))) ≡ Ok n → (list_values a scope es ≡ Ok k) × (m ≡ n)
in_count a scope at es k m n h =
    let s = then_ok (list_values a scope es) (λ i. must_be (i == k) Arity at >>= (λ all. Ok m)) n h in
    let t = must_then (s.0 == k) (Core Arity) at (Ok m) n s.2 in
    (ok_as (list_values a scope es) s.0 k s.1 (eqb-true s.0 k t.0), ok_same m n t.1)

pub same_ranks_is : (ms ns : List ℕ) → same_ranks ms ns ≡ true → ms ≡ ns
same_ranks_is [] [] h = refl
same_ranks_is [] (n ∷ ns) h = cc
same_ranks_is (m ∷ ms) [] h = cc
same_ranks_is (m ∷ ms) (n ∷ ns) h =
    let rest : ms ≡ ns = same_ranks_is ms ns (second_of_and (m == n) (same_ranks ms ns) h) in
    let first : m ≡ n = eqb-true m n (first_of_and (m == n) (same_ranks ms ns) h) in
    ap (λ (k : ℕ). k ∷ ms) first ∙ ap (λ (ks : List ℕ). n ∷ ks) rest

pub same_ranks_itself : (ms : List ℕ) → same_ranks ms ms ≡ true
same_ranks_itself [] = refl
same_ranks_itself (m ∷ ms) = rw (equal_itself m) (same_ranks_itself ms)

pub in_ranks : (a : Around) (scope : List Name) (at : ℕ) (es : Exprs) (ranks : List ℕ) (m n : ℕ) → (argument_ranks a scope es >>= (λ found. must_be (same_ranks
    found ranks) Arity at >>= (λ all. Ok m))) ≡ Ok n → (argument_ranks a scope es ≡ Ok ranks) × (m ≡ n)
in_ranks a scope at es ranks m n h =
    let s = then_ok (argument_ranks a scope es) (λ found. must_be (same_ranks found ranks) Arity at >>= (λ all. Ok m)) n h in
    let t = must_then (same_ranks s.0 ranks) (Core Arity) at (Ok m) n s.2 in
    (s.1 ∙ ap (λ (ks : List ℕ). Ok ks) (same_ranks_is s.0 ranks t.0), ok_same m n t.1)

-- the dimensions of one argument, and of the others
abbrev pub rank_or_values : Around → List Name → Expr → Option ℕ → Result (List ℕ) Fault
rank_or_values a scope e o = elim o as (λ _. Result (List ℕ) Fault) [
  | Some rank ↦ Ok (rank ∷ [])
  | None ↦ do
    n ← values a scope e
    Ok (replicate n 0)
]

abbrev pub ranks_and : Around → List Name → Expr → Exprs → Option ℕ → Result (List ℕ) Fault
ranks_and a scope e es o = elim o as (λ _. Result (List ℕ) Fault) [
  | Some rank ↦ do
    others ← argument_ranks a scope es
    Ok (rank ∷ others)
  | None ↦ do
    n ← values a scope e
    others ← argument_ranks a scope es
    Ok (replicate n 0 ++ others)
]

-- one length of an array
pub measured_is : (a : Around) (at : ℕ) (es : Exprs) (n : ℕ) → measured a at es ≡ Ok n → 1 ≡ n
measured_is a at (One (Named x_at x)) n h = ok_same 1 n (then_ok (known_array a x_at x) (λ rank. Ok 1) n h).2
measured_is a at (More (Named x_at x) (One e)) n h =
    let s = then_ok (known_array a x_at x) (λ rank. good_dimension a at rank (One e)) n h in
    let fits : ℤ → Bool = λ z. int_le (pos 0) z && int_lt z (pos s.0) in
    let t = then_ok (constant a.known e) (λ z. must_be (fits z) BadCount (place_of e) >>= (λ found. Ok 1)) n s.2 in
    ok_same 1 n (must_then (fits t.0) (Core BadCount) (place_of e) (Ok 1) n t.2).1
measured_is a at (More (Named x_at x) (More e es)) n h =
    let s = then_ok (known_array a x_at x) (λ rank. good_dimension a at rank (More e es)) n h in cc
measured_is a at es n h = cc

pub in_rank_array : (a : Around) (scope : List Name) (e : Expr) (es : Exprs) (rank : ℕ) (rs : List ℕ) → ranks_and a scope e es (Some rank) ≡ Ok rs → (ms : List ℕ) ×
    (argument_ranks a scope es ≡ Ok ms) × (rank ∷ ms ≡ rs)
in_rank_array a scope e es rank rs h =
    let s = then_ok (argument_ranks a scope es) (λ ms. Ok (rank ∷ ms)) rs h in (s.0, s.1, ok_same (rank ∷ s.0) rs s.2)

pub in_rank_one : (a : Around) (scope : List Name) (e : Expr) (rs : List ℕ) → rank_or_values a scope e None ≡ Ok rs → (n : ℕ) × (values a scope e ≡ Ok n) ×
    (replicate n 0 ≡ rs)
in_rank_one a scope e rs h =
    let s = then_ok (values a scope e) (λ n. Ok (replicate n 0)) rs h in (s.0, s.1, ok_same (replicate s.0 0) rs s.2)

pub in_rank_more : (a : Around) (scope : List Name) (e : Expr) (es : Exprs) (rs : List ℕ) → ranks_and a scope e es None ≡ Ok rs → (n : ℕ) × (ms : List ℕ) ×
    (values a scope e ≡ Ok n) × (argument_ranks a scope es ≡ Ok ms) × (replicate n 0 ++ ms ≡ rs)
in_rank_more a scope e es rs h =
    let s = then_ok (values a scope e) (λ n. argument_ranks a scope es >>= (λ ms. Ok (replicate n 0 ++ ms))) rs h in
    let t = then_ok (argument_ranks a scope es) (λ ms. Ok (replicate s.0 0 ++ ms)) rs s.2 in
    (s.0, t.0, s.1, t.1, ok_same (replicate s.0 0 ++ t.0) rs t.2)
