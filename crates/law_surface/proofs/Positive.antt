-- Each part that keeps the rules has a value at least.
use Rattle.std.specs.Prelude.{◌≡◌, ℕ, suc, ◌+◌, ◌≤◌, ◌==◌, List, ◌∷◌, length, codes, Option, Some, Ok, ⊤, refl, if◌then◌else◌, Bool, true, false, ◌++◌, None}
use Rattle.std.proofs.Common.{sym, ◌∙◌, ap, arith, eqb-true}
use Rattle.semantics.specs.Graph.{same_name}
use Rattle.source.specs.Tree.{Name}
use Rattle.source.specs.Outside.{bare, bound_by}
use Rattle.surface.specs.Tree.{Expr, Number, Named, Bracket, Prefix, Infix, And, Or, Not, Fetch, Store, Call, If, Loop, For, Exprs, One, More}
use Rattle.surface.specs.Tree.{Body, Let, Do, When, Give, Chain, Turn, Before, After, Carried, Nothing, With, names_of, carried_names}
use Rattle.surface.specs.Known.{Known, Signature, lookup, called, callee_of, built_in, Callee, Missing, OfValues, OfArrays, BuiltIn, IsBuiltIn, Min, Max, Abs, Len, callee, all_values}
use Rattle.surface.specs.Rules.{Around, is_as_many, for_values, measured, values, list_values, body_values, turn_values}
use Rattle.law_surface.proofs.Steps.{then_ok, ok_same}
use Rattle.law_surface.proofs.SurfaceKept.{has_one, both_one, in_if, IsTurned, in_loop, IsCounted, in_for, in_more, in_let, in_do, in_when}
use Rattle.law_surface.proofs.SurfaceKept.{in_before, in_after, in_name, in_fetch, in_store, call_values, in_count, in_ranks, measured_is}

-- each function has a result
abbrev pub HasResults : Callee → Type 0
HasResults Missing = ⊤
HasResults (OfValues params results) = 1 ≤ results
HasResults (OfArrays ranks results) = 1 ≤ results
HasResults (IsBuiltIn which) = ⊤

abbrev pub AllHaveResults : Known → Type 0
AllHaveResults known = (f : Name) (sig : Signature) → lookup known.functions f ≡ Some sig → 1 ≤ sig.results

called_results : (sig : Signature) → 1 ≤ sig.results → HasResults (called sig)
called_results sig h = go (all_values sig.ranks)
  where
    go : (b : Bool) → HasResults (if b then OfValues (length sig.ranks) sig.results else OfArrays sig.ranks sig.results)
    go true = h
    go false = h

pub built_in_is : (P : Callee → Type 0) (f : Name) → P Missing → P (IsBuiltIn Min) → P (IsBuiltIn Max) → P (IsBuiltIn Abs) → P (IsBuiltIn Len) → P (built_in f)
built_in_is P f missing min max abs len = go (same_name f (codes "min")) (same_name f (codes "max")) (same_name f (codes "abs")) (same_name f (codes "len"))
  where
    go : (b c d e : Bool) → P (if b then IsBuiltIn Min else if c then IsBuiltIn Max else if d then IsBuiltIn Abs else if e then IsBuiltIn Len else Missing)
    go true c d e = min
    go false true d e = max
    go false false true e = abs
    go false false false true = len
    go false false false false = missing

pub callee_is : (P : Callee → Type 0) (strict : Bool) (f : Name) (o : Option Signature) → P Missing → ((which : BuiltIn) → P (IsBuiltIn which)) → ((sig : Signature) → o ≡
    Some sig → P (called sig)) → P (callee_of strict f o)
callee_is P strict f (Some sig) missing built found = found sig refl
callee_is P true f None missing built found = missing
callee_is P false f None missing built found = built_in_is P f missing (built Min) (built Max) (built Abs) (built Len)

results_there : (known : Known) → AllHaveResults known → (strict : Bool) (f : Name) → HasResults (callee known strict f)
results_there known r strict f = callee_is HasResults strict f (lookup known.functions f) tt (λ which. tt) (λ sig e. called_results sig (r f sig e))

call_positive : (a : Around) (scope : List Name) (at : ℕ) (es : Exprs) (c : Callee) (n : ℕ) → HasResults c → call_values a scope at es c ≡ Ok n → 1 ≤ n
call_positive a scope at es Missing n r h = cc
call_positive a scope at es (OfValues params results) n r h = let s = in_count a scope at es params results n h in omega (arith, r, s.1)
call_positive a scope at es (OfArrays ranks results) n r h = let s = in_ranks a scope at es ranks results n h in omega (arith, r, s.1)
call_positive a scope at es (IsBuiltIn Len) n r h = omega (arith, measured_is a at es n h)
call_positive a scope at es (IsBuiltIn Min) n r h = let s = in_count a scope at es 2 1 n h in omega (arith, s.1)
call_positive a scope at es (IsBuiltIn Max) n r h = let s = in_count a scope at es 2 1 n h in omega (arith, s.1)
call_positive a scope at es (IsBuiltIn Abs) n r h = let s = in_count a scope at es 1 1 n h in omega (arith, s.1)

carried_positive : (carried : Carried) (turns n : ℕ) → 1 ≤ turns → is_as_many turns carried ≡ true → for_values carried ≡ n → 1 ≤ n
carried_positive Nothing turns n h g e = omega (arith, e)
carried_positive (With xs firsts) turns n h g e = omega (arith, h, eqb-true turns (length xs) g, e)

module _ (a : Around) (r : AllHaveResults a.known) where
  mutual
    pub positive : (scope : List Name) (e : Expr) (n : ℕ) → values a scope e ≡ Ok n → 1 ≤ n
    positive scope (Number at v) n h = omega (arith, ok_same 1 n h)
    positive scope (Named at x) n h = omega (arith, (in_name a scope at x n h).1)
    positive scope (Bracket e) n h = positive scope e n h
    positive scope (Prefix at op e) n h = omega (arith, (has_one a scope e n h).1)
    positive scope (Infix at sign l r) n h = omega (arith, (both_one a scope l r n h).2)
    positive scope (And at l r) n h = omega (arith, (both_one a scope l r n h).2)
    positive scope (Or at l r) n h = omega (arith, (both_one a scope l r n h).2)
    positive scope (Not at e) n h = omega (arith, (has_one a scope e n h).1)
    positive scope (Fetch at x es) n h = omega (arith, (in_fetch a scope at x es n h).1)
    positive scope (Store at x es d) n h = omega (arith, (in_store a scope at x es d n h).2)
    positive scope (Call at strict f es) n h = call_positive a scope at es (callee a.known strict f) n (results_there a.known r strict f) h
    positive scope (If at q left right) n h = body_positive scope left n (in_if a scope at q left right n h).1
    positive scope (Loop at bound firsts turn) n h =
        let s : IsTurned a scope bound firsts turn n = in_loop a scope at bound firsts turn n h in
        turn_positive (bare (names_of turn) ++ scope) turn n s.turns
    positive scope (For at bound i first end carried body) n h =
        let s : IsCounted a scope bound i first end carried body n = in_for a scope at bound i first end carried body n h in
        carried_positive carried s.turns n (body_positive (i.name ∷ bare (carried_names carried) ++ scope) body s.turns s.body_is) s.as_many s.count

    pub list_positive : (scope : List Name) (es : Exprs) (n : ℕ) → list_values a scope es ≡ Ok n → 1 ≤ n
    list_positive scope (One e) n h = positive scope e n h
    list_positive scope (More e es) n h =
        let s = in_more a scope e es n h in omega (arith, positive scope e s.0 s.2, s.4)

    body_positive : (scope : List Name) (body : Body) (n : ℕ) → body_values a scope body ≡ Ok n → 1 ≤ n
    body_positive scope (Let at targets es rest) n h = body_positive (bound_by targets ++ scope) rest n (in_let a scope at targets es rest n h).2
    body_positive scope (Do es rest) n h = body_positive scope rest n (in_do a scope es rest n h).2
    body_positive scope (When tests rest) n h = body_positive scope rest n (in_when a scope tests rest n h).1
    body_positive scope (Give es) n h = list_positive scope es n h
    body_positive scope (Chain e) n h = positive scope e n h

    turn_positive : (scope : List Name) (turn : Turn) (n : ℕ) → turn_values a scope turn ≡ Ok n → 1 ≤ n
    turn_positive scope (Before xs q body) n h = body_positive scope body n (in_before a scope xs q body n h).1
    turn_positive scope (After xs body q) n h = body_positive scope body n (in_after a scope xs body q n h).0
