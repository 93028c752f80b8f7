-- What a part that keeps the rules wants: functions that are there, with as many arrays as they have parameters for.
use Rattle.std.specs.Prelude.{◌≡◌, ℕ, suc, zero, ◌+◌, ◌==◌, ◌&&◌, Bool, true, false, ℤ, pos, int_le, int_lt, List, [], ◌∷◌, ◌++◌, length, is_some, replicate, Option, None, Some, Ok, ⊤, refl}
use Rattle.std.specs.Prelude.{if◌then◌else◌}
use Rattle.std.proofs.Common.{sym, ◌∙◌, ap, subst, arith}
use Rattle.lemmas.proofs.Permutations.{Each, each_append}
use Rattle.source.specs.declared.fault.FaultKind.TheVariants.{BadCount}
use Rattle.source.specs.Tree.{Name, NameAt}
use Rattle.source.specs.Spelled.{others}
use Rattle.source.specs.Outside.{bare, bound_by}
use Rattle.source.specs.Rules.{and_first}
use Rattle.surface.specs.Tree.{Expr, Number, Named, Bracket, Prefix, Infix, And, Or, Not, Fetch, Store, Call, If, Loop, For, Exprs, One, More}
use Rattle.surface.specs.Tree.{Body, Let, Do, When, Give, Chain, Tests, Last, Else, Turn, Before, After, Carried, Nothing, With, names_of, carried_names}
use Rattle.surface.specs.Known.{Known, Signature, lookup, all_values, called, Callee, Missing, OfValues, OfArrays, IsBuiltIn, Min, Max, Abs, Len, callee}
use Rattle.surface.specs.First.{◌>>=◌, must_be}
use Rattle.surface.specs.Constants.{place_of, combined, inverted, constant}
use Rattle.surface.specs.Rules.{Around, rank_of, argument_rank, known_array, good_dimension, measured, values, list_values, index_values, argument_ranks, first_values, carried_values, body_values, tests_values}
use Rattle.surface.specs.Rules.{turn_values}
use Rattle.surface.specs.Desugar.{Setting, array_for, is_array, array_passed, or_more, arrays_passed}
use Rattle.surface.specs.Instances.{Wanted, wanted_by, wanted, list_wanted, body_wanted, tests_wanted, turn_wanted, carried_wanted}
use Rattle.law_surface.proofs.Steps.{then_ok, ok_same}
use Rattle.law_surface.proofs.SurfaceKept.{has_one, both_one, in_if, IsTurned, in_loop, IsCounted, in_for, in_more, in_first, in_firsts, in_let, in_do, in_when}
use Rattle.law_surface.proofs.SurfaceKept.{in_last, in_else, in_before, in_after, IsIndexed, in_fetch, in_store, in_index, in_indexes, call_values, in_count}
use Rattle.law_surface.proofs.SurfaceKept.{in_ranks, rank_or_values, ranks_and, in_rank_array, in_rank_one, in_rank_more}
use Rattle.law_surface.proofs.Positive.{callee_is}
use Rattle.law_surface.proofs.Surroundings.{around, ArraysAre, Passes, an_array, values as is_values, passes}

-- how many parameters stand for arrays
abbrev pub nonzeros : List ℕ → ℕ
nonzeros [] = 0
nonzeros (n ∷ ns) = (if n == 0 then 0 else 1) + nonzeros ns

abbrev pub AllArrays : Known → List Name → Type 0
AllArrays known xs = Each (λ x. is_some (lookup known.arrays x) ≡ true) xs

pub record WantedWell (known : Known) (w : Wanted) : Type 0 where
  pub signature : Signature
  pub found : lookup known.functions w.function ≡ Some signature
  pub some_array : all_values signature.ranks ≡ false
  pub as_many : length w.arrays ≡ nonzeros signature.ranks
  pub arrays_there : AllArrays known w.arrays

-- each array that is passed is one of the program
pub record ArraysThere (s : Setting) (ranks : List (Name × ℕ)) : Type 0 where
  pub arrays_are : ArraysAre s ranks
  pub there : (x : Name) → is_array s x ≡ true → is_some (lookup s.known.arrays (array_for s x)) ≡ true

-- ARRAYS that are passed
name_there : (s : Setting) (ranks : List (Name × ℕ)) → ArraysThere s ranks → (x y : Name) → (if is_array s x then Some (array_for s x) else None) ≡ Some y → is_some (lookup
    s.known.arrays y) ≡ true
name_there s ranks w x y e = go (is_array s x) refl e
  where
    go : (b : Bool) → is_array s x ≡ b → (if b then Some (array_for s x) else None) ≡ Some y → is_some (lookup s.known.arrays y) ≡ true
    go true t i =
        let same : array_for s x ≡ y = cc in ap (λ (z : Name). is_some (lookup s.known.arrays z)) (sym same) ∙ w.there x t
    go false t i = cc

passed_there : (s : Setting) (ranks : List (Name × ℕ)) → ArraysThere s ranks → (e : Expr) (y : Name) → array_passed s e ≡ Some y → is_some (lookup s.known.arrays y) ≡
    true
passed_there s ranks w (Named at x) y e = name_there s ranks w x y e
passed_there s ranks w e y h = cc

none_of : (n : ℕ) → nonzeros (replicate n 0) ≡ 0
none_of zero = refl
none_of (suc n) = omega (arith, none_of n)

nonzeros_and : (ms ns : List ℕ) → nonzeros (ms ++ ns) ≡ nonzeros ms + nonzeros ns
nonzeros_and [] ns = omega arith
nonzeros_and (m ∷ ms) ns = omega (arith, nonzeros_and ms ns)

nonzeros_after : (rank : ℕ) (ns : List ℕ) → (rank == 0) ≡ false → nonzeros (rank ∷ ns) ≡ suc (nonzeros ns)
nonzeros_after rank ns h = rw h (omega arith)

abbrev PassedWell : Setting → List Name → List ℕ → Type 0
PassedWell s xs rs = (length xs ≡ nonzeros rs) × AllArrays s.known xs

module _ (s : Setting) (ranks : List (Name × ℕ)) (w : ArraysThere s ranks) (scope : List Name) (e : Expr) where
  one_passed : (rs : List ℕ) → Passes (around s ranks) s e → argument_ranks (around s ranks) scope (One e) ≡ Ok rs → PassedWell s (or_more (array_passed s e) []) rs
  one_passed rs (an_array rank array e1 nz e2) h =
      let given : rank_or_values (around s ranks) scope e (Some rank) ≡ Ok rs = subst (λ (o : Option ℕ). rank_or_values (around s ranks) scope e o ≡ Ok rs) e1 h in
      let is : rank ∷ [] ≡ rs = ok_same (rank ∷ []) rs given in
      let one : nonzeros rs ≡ 1 = ap (λ (ms : List ℕ). nonzeros ms) (sym is) ∙ nonzeros_after rank [] nz in
      subst (λ (o : Option Name). PassedWell s (or_more o []) rs) (sym e2) (sym one, (passed_there s ranks w e array e2, tt))
  one_passed rs (is_values e1 e2) h =
      let given : rank_or_values (around s ranks) scope e None ≡ Ok rs = subst (λ (o : Option ℕ). rank_or_values (around s ranks) scope e o ≡ Ok rs) e1 h in
      let k = in_rank_one (around s ranks) scope e rs given in
      let none : 0 ≡ nonzeros rs = sym (none_of k.0) ∙ ap (λ (ms : List ℕ). nonzeros ms) k.2 in
      subst (λ (o : Option Name). PassedWell s (or_more o []) rs) (sym e2) (none, tt)

  more_passed : (es : Exprs) (rs : List ℕ) → Passes (around s ranks) s e → argument_ranks (around s ranks) scope (More e es) ≡ Ok rs → ((ms : List ℕ) → argument_ranks
      (around s ranks) scope es ≡ Ok ms → PassedWell s (arrays_passed s es) ms) → PassedWell s (or_more (array_passed s e) (arrays_passed s es)) rs
  more_passed es rs (an_array rank array e1 nz e2) h rest =
      let given : ranks_and (around s ranks) scope e es (Some rank) ≡ Ok rs = subst (λ (o : Option ℕ). ranks_and (around s ranks) scope e es o ≡ Ok rs) e1 h in
      let k = in_rank_array (around s ranks) scope e es rank rs given in
      let later = rest k.0 k.1 in
      let one : suc (nonzeros k.0) ≡ nonzeros rs = sym (nonzeros_after rank k.0 nz) ∙ ap (λ (ms : List ℕ). nonzeros ms) k.2 in
      subst (λ (o : Option Name). PassedWell s (or_more o (arrays_passed s es)) rs) (sym e2) (
        ap (λ (n : ℕ). suc n) later.0 ∙ one,
        (passed_there s ranks w e array e2, later.1),
      )
  more_passed es rs (is_values e1 e2) h rest =
      let given : ranks_and (around s ranks) scope e es None ≡ Ok rs = subst (λ (o : Option ℕ). ranks_and (around s ranks) scope e es o ≡ Ok rs) e1 h in
      let k = in_rank_more (around s ranks) scope e es rs given in
      let later = rest k.1 k.3 in
      let none : nonzeros k.1 ≡ nonzeros rs = omega (arith, none_of k.0, nonzeros_and (replicate k.0 0) k.1, ap (λ (ms : List ℕ). nonzeros ms) k.4) in
      subst (λ (o : Option Name). PassedWell s (or_more o (arrays_passed s es)) rs) (sym e2) (later.0 ∙ none, later.1)

passed_well : (s : Setting) (ranks : List (Name × ℕ)) → ArraysThere s ranks → (scope : List Name) (es : Exprs) (rs : List ℕ) → argument_ranks (around s ranks) scope es ≡
    Ok rs → PassedWell s (arrays_passed s es) rs
passed_well s ranks w scope (One e) rs h = one_passed s ranks w scope e rs (passes s ranks w.arrays_are e) h
passed_well s ranks w scope (More e es) rs h = more_passed s ranks w scope e es rs (passes s ranks w.arrays_are e) h (λ ms g. passed_well s ranks w scope es ms g)

-- CALLS
abbrev SignedCallee : Known → Name → Callee → Type 0
SignedCallee known f Missing = ⊤
SignedCallee known f (OfValues params results) = ⊤
SignedCallee known f (OfArrays ranks results) = (sig : Signature) × (lookup known.functions f ≡ Some sig) × (sig.ranks ≡ ranks) × (all_values sig.ranks ≡ false)
SignedCallee known f (IsBuiltIn which) = ⊤

signed_callee : (known : Known) (strict : Bool) (f : Name) → SignedCallee known f (callee known strict f)
signed_callee known strict f = callee_is (SignedCallee known f) strict f (lookup known.functions f) tt (λ which. tt) (λ sig e. go sig e (all_values sig.ranks) refl)
  where
    go : (sig : Signature) → lookup known.functions f ≡ Some sig → (b : Bool) → all_values sig.ranks ≡ b → SignedCallee known f (if b then OfValues (length sig.ranks)
        sig.results else OfArrays sig.ranks sig.results)
    go sig e true t = tt
    go sig e false t = (sig, e, refl, t)

call_wants : (s : Setting) (ranks : List (Name × ℕ)) → ArraysThere s ranks → (scope : List Name) (at : ℕ) (f : Name) (es : Exprs) (c : Callee) (n : ℕ) → SignedCallee
    s.known f c → call_values (around s ranks) scope at es c ≡ Ok n → Each (WantedWell s.known) (wanted_by s f es c)
call_wants s ranks w scope at f es Missing n g h = tt
call_wants s ranks w scope at f es (OfValues params results) n g h = tt
call_wants s ranks w scope at f es (OfArrays rs results) n g h =
    let k = in_ranks (around s ranks) scope at es rs results n h in
    let p = passed_well s ranks w scope es rs k.0 in (
      record {
        signature = g.0;
        found = g.1;
        some_array = g.3;
        as_many = p.0 ∙ ap (λ (ms : List ℕ). nonzeros ms) (sym g.2);
        arrays_there = p.1;
      },
      tt,
    )
call_wants s ranks w scope at f es (IsBuiltIn which) n g h = tt

call_lists : (s : Setting) (ranks : List (Name × ℕ)) (scope : List Name) (at : ℕ) (es : Exprs) (c : Callee) (n : ℕ) (P : Type 0) → ((m : ℕ) → list_values (around s ranks)
    scope es ≡ Ok m → P) → ((rs : List ℕ) → argument_ranks (around s ranks) scope es ≡ Ok rs → P) → (measured (around s ranks) at es ≡ Ok n → P) → call_values
    (around s ranks) scope at es c ≡ Ok n → P
call_lists s ranks scope at es Missing n P g t m h = cc
call_lists s ranks scope at es (OfValues params results) n P g t m h = g params (in_count (around s ranks) scope at es params results n h).0
call_lists s ranks scope at es (OfArrays rs results) n P g t m h = t rs (in_ranks (around s ranks) scope at es rs results n h).0
call_lists s ranks scope at es (IsBuiltIn Len) n P g t m h = m h
call_lists s ranks scope at es (IsBuiltIn Min) n P g t m h = g 2 (in_count (around s ranks) scope at es 2 1 n h).0
call_lists s ranks scope at es (IsBuiltIn Max) n P g t m h = g 2 (in_count (around s ranks) scope at es 2 1 n h).0
call_lists s ranks scope at es (IsBuiltIn Abs) n P g t m h = g 1 (in_count (around s ranks) scope at es 1 1 n h).0

-- An array that is passed wants nothing, and neither does a constant.
array_wants : (a : Around) (s : Setting) (e : Expr) (rank : ℕ) → argument_rank a e ≡ Some rank → Each (WantedWell s.known) (wanted s e)
array_wants a s (Named at x) rank h = tt
array_wants a s e rank h = cc

one_wants : (s : Setting) (ranks : List (Name × ℕ)) (scope : List Name) (e : Expr) (rs : List ℕ) → Passes (around s ranks) s e → argument_ranks (around s ranks) scope
    (One e) ≡ Ok rs → ((n : ℕ) → values (around s ranks) scope e ≡ Ok n → Each (WantedWell s.known) (wanted s e)) → Each (WantedWell s.known) (wanted s e)
one_wants s ranks scope e rs (an_array rank array e1 nz e2) h each = array_wants (around s ranks) s e rank e1
one_wants s ranks scope e rs (is_values e1 e2) h each =
    let given : rank_or_values (around s ranks) scope e None ≡ Ok rs = subst (λ (o : Option ℕ). rank_or_values (around s ranks) scope e o ≡ Ok rs) e1 h in
    let k = in_rank_one (around s ranks) scope e rs given in each k.0 k.1

more_wants : (s : Setting) (ranks : List (Name × ℕ)) (scope : List Name) (e : Expr) (es : Exprs) (rs : List ℕ) → Passes (around s ranks) s e → argument_ranks (around s
    ranks) scope (More e es) ≡ Ok rs → ((n : ℕ) → values (around s ranks) scope e ≡ Ok n → Each (WantedWell s.known) (wanted s e)) → ((ms : List ℕ) → argument_ranks
    (around s ranks) scope es ≡ Ok ms → Each (WantedWell s.known) (list_wanted s es)) → Each (WantedWell s.known) (list_wanted s (More e es))
more_wants s ranks scope e es rs (an_array rank array e1 nz e2) h each rest =
    let given : ranks_and (around s ranks) scope e es (Some rank) ≡ Ok rs = subst (λ (o : Option ℕ). ranks_and (around s ranks) scope e es o ≡ Ok rs) e1 h in
    let k = in_rank_array (around s ranks) scope e es rank rs given in
    each_append (WantedWell s.known) (wanted s e) (list_wanted s es) (array_wants (around s ranks) s e rank e1) (rest k.0 k.1)
more_wants s ranks scope e es rs (is_values e1 e2) h each rest =
    let given : ranks_and (around s ranks) scope e es None ≡ Ok rs = subst (λ (o : Option ℕ). ranks_and (around s ranks) scope e es o ≡ Ok rs) e1 h in
    let k = in_rank_more (around s ranks) scope e es rs given in
    each_append (WantedWell s.known) (wanted s e) (list_wanted s es) (each k.0 k.2) (rest k.1 k.3)

constant_wants : (known : Known) (s : Setting) (e : Expr) (z : ℤ) → constant known e ≡ Ok z → Each (WantedWell s.known) (wanted s e)
constant_wants known s (Number at n) z h = tt
constant_wants known s (Named at x) z h = tt
constant_wants known s (Bracket e) z h = constant_wants known s e z h
constant_wants known s (Prefix at op e) z h =
    let k = then_ok (constant known e) (λ x. inverted at op x) z h in constant_wants known s e k.0 k.1
constant_wants known s (Infix at sign l r) z h =
    let k = then_ok (constant known l) (λ x. constant known r >>= (λ y. combined at sign x y)) z h in
    let t = then_ok (constant known r) (λ y. combined at sign k.0 y) z k.2 in
    each_append (WantedWell s.known) (wanted s l) (wanted s r) (constant_wants known s l k.0 k.1) (constant_wants known s r t.0 t.1)
constant_wants known s e z h = cc

measured_wants : (a : Around) (s : Setting) (at : ℕ) (es : Exprs) (n : ℕ) → measured a at es ≡ Ok n → Each (WantedWell s.known) (list_wanted s es)
measured_wants a s at (One (Named x_at x)) n h = tt
measured_wants a s at (More (Named x_at x) (One e)) n h =
    let k = then_ok (known_array a x_at x) (λ rank. good_dimension a at rank (One e)) n h in
    let t = then_ok (constant a.known e) (λ z. must_be (int_le (pos 0) z && int_lt z (pos k.0)) BadCount (place_of e) >>= (λ found. Ok 1)) n k.2 in
    constant_wants a.known s e t.0 t.1
measured_wants a s at (More (Named x_at x) (More e es)) n h =
    let k = then_ok (known_array a x_at x) (λ rank. good_dimension a at rank (More e es)) n h in
    let wrong = k.2 in absurd (cc)
measured_wants a s at es n h = cc

-- ALL PARTS
module _ (s : Setting) (ranks : List (Name × ℕ)) (w : ArraysThere s ranks) where
  abbrev a : Around
  a = around s ranks

  abbrev Well : List Wanted → Type 0
  Well ws = Each (WantedWell s.known) ws

  join : (vs ws : List Wanted) → Well vs → Well ws → Well (vs ++ ws)
  join vs ws h g = each_append (WantedWell s.known) vs ws h g

  mutual
    wants : (e : Expr) (scope : List Name) (n : ℕ) → values a scope e ≡ Ok n → Well (wanted s e)
    wants (Number at v) scope n h = tt
    wants (Named at x) scope n h = tt
    wants (Bracket e) scope n h = wants e scope n h
    wants (Prefix at op e) scope n h = wants e scope 1 (has_one a scope e n h).0
    wants (Infix at sign l r) scope n h = let k = both_one a scope l r n h in join (wanted s l) (wanted s r) (wants l scope 1 k.0) (wants r scope 1 k.1)
    wants (And at l r) scope n h = let k = both_one a scope l r n h in join (wanted s l) (wanted s r) (wants l scope 1 k.0) (wants r scope 1 k.1)
    wants (Or at l r) scope n h = let k = both_one a scope l r n h in join (wanted s l) (wanted s r) (wants l scope 1 k.0) (wants r scope 1 k.1)
    wants (Not at e) scope n h = wants e scope 1 (has_one a scope e n h).0
    wants (Fetch at x es) scope n h =
        let d : IsIndexed a scope at x es = (in_fetch a scope at x es n h).0 in index_wants es scope d.rank d.indexes
    wants (Store at x es e) scope n h =
        let k = in_store a scope at x es e n h in
        let d : IsIndexed a scope at x es = k.0 in join (list_wanted s es) (wanted s e) (index_wants es scope d.rank d.indexes) (wants e scope 1 k.1)
    wants (Call at strict f es) scope n h =
        let c : Callee = callee s.known strict f in
        join (wanted_by s f es c) (list_wanted s es) (call_wants s ranks w scope at f es c n (signed_callee s.known strict f) h) (call_lists s ranks scope at es c n (Well
        (list_wanted s es)) (λ m g. list_wants es scope m g) (λ rs g. ranks_want es scope rs g) (λ g. measured_wants a s at es n g) h)
    wants (If at c l r) scope n h =
        let k = in_if a scope at c l r n h in
        join (wanted s c ++ body_wanted s l) (body_wanted s r) (join (wanted s c) (body_wanted s l) (wants c scope 1 k.0) (body_wants l scope n k.1)) (body_wants r scope n
        k.2)
    wants (Loop at bound firsts turn) scope n h =
        let k : IsTurned a scope bound firsts turn n = in_loop a scope at bound firsts turn n h in
        join (list_wanted s firsts) (turn_wanted s turn) (firsts_want firsts [] (names_of turn) scope k.begun) (turn_wants turn (bare (names_of turn) ++ scope) n k.turns)
    wants (For at bound i first end carried body) scope n h =
        let k : IsCounted a scope bound i first end carried body n = in_for a scope at bound i first end carried body n h in
        let two : List Wanted = wanted s first ++ wanted s end in
        let three : List Wanted = two ++ carried_wanted s carried in
        join three (body_wanted s body) (join two (carried_wanted s carried) (join (wanted s first) (wanted s end) (wants first scope 1 k.first_is) (wants end scope 1
        k.end_is)) (carried_wants carried (i.name ∷ []) scope k.begun)) (body_wants body (i.name ∷ bare (carried_names carried) ++ scope) k.turns k.body_is)

    list_wants : (es : Exprs) (scope : List Name) (n : ℕ) → list_values a scope es ≡ Ok n → Well (list_wanted s es)
    list_wants (One e) scope n h = wants e scope n h
    list_wants (More e es) scope n h =
        let k = in_more a scope e es n h in join (wanted s e) (list_wanted s es) (wants e scope k.0 k.2) (list_wants es scope k.1 k.3)

    index_wants : (es : Exprs) (scope : List Name) (n : ℕ) → index_values a scope es ≡ Ok n → Well (list_wanted s es)
    index_wants (One e) scope n h = wants e scope 1 (in_index a scope e n h).0
    index_wants (More e es) scope n h =
        let k = in_indexes a scope e es n h in join (wanted s e) (list_wanted s es) (wants e scope 1 k.0) (index_wants es scope k.1 k.2)

    ranks_want : (es : Exprs) (scope : List Name) (rs : List ℕ) → argument_ranks a scope es ≡ Ok rs → Well (list_wanted s es)
    ranks_want (One e) scope rs h = one_wants s ranks scope e rs (passes s ranks w.arrays_are e) h (λ n g. wants e scope n g)
    ranks_want (More e es) scope rs h = more_wants s ranks scope e es rs (passes s ranks w.arrays_are e) h (λ n g. wants e scope n g) (λ ms g. ranks_want es scope ms g)

    firsts_want : (es : Exprs) (before : List Name) (xs : List NameAt) (scope : List Name) → first_values a scope before xs es ≡ Ok tt → Well (list_wanted s es)
    firsts_want (One e) before xs scope h = wants e scope 1 (in_first a scope before xs e h).1
    firsts_want (More e es) before xs scope h =
        let k = in_firsts a scope before xs e es h in
        join (wanted s e) (list_wanted s es) (wants e scope 1 k.1) (firsts_want es (and_first before xs) (others xs) scope k.2)

    carried_wants : (carried : Carried) (before scope : List Name) → carried_values a scope before carried ≡ Ok tt → Well (carried_wanted s carried)
    carried_wants Nothing before scope h = tt
    carried_wants (With xs firsts) before scope h = firsts_want firsts before xs scope h

    pub body_wants : (body : Body) (scope : List Name) (n : ℕ) → body_values a scope body ≡ Ok n → Well (body_wanted s body)
    body_wants (Let at targets es rest) scope n h =
        let k = in_let a scope at targets es rest n h in
        join (list_wanted s es) (body_wanted s rest) (list_wants es scope (length targets) k.1) (body_wants rest (bound_by targets ++ scope) n k.2)
    body_wants (Do es rest) scope n h =
        let k = in_do a scope es rest n h in join (list_wanted s es) (body_wanted s rest) (list_wants es scope k.0 k.1) (body_wants rest scope n k.2)
    body_wants (When tests rest) scope n h =
        let k = in_when a scope tests rest n h in join (tests_wanted s tests) (body_wanted s rest) (tests_want tests scope k.0) (body_wants rest scope n k.1)
    body_wants (Give es) scope n h = list_wants es scope n h
    body_wants (Chain e) scope n h = wants e scope n h

    tests_want : (tests : Tests) (scope : List Name) → tests_values a scope tests ≡ Ok tt → Well (tests_wanted s tests)
    tests_want (Last at c arm) scope h =
        let k = in_last a scope at c arm h in join (wanted s c) (body_wanted s arm) (wants c scope 1 k.0) (body_wants arm scope k.1 k.2)
    tests_want (Else at c arm more) scope h =
        let k = in_else a scope at c arm more h in
        join (wanted s c ++ body_wanted s arm) (tests_wanted s more) (join (wanted s c) (body_wanted s arm) (wants c scope 1 k.0) (body_wants arm scope k.1 k.2))
        (tests_want more scope k.3)

    turn_wants : (turn : Turn) (scope : List Name) (n : ℕ) → turn_values a scope turn ≡ Ok n → Well (turn_wanted s turn)
    turn_wants (Before xs c body) scope n h =
        let k = in_before a scope xs c body n h in join (wanted s c) (body_wanted s body) (wants c scope 1 k.0) (body_wants body scope n k.1)
    turn_wants (After xs body c) scope n h =
        let k = in_after a scope xs body c n h in join (body_wanted s body) (wanted s c) (body_wants body scope n k.0) (wants c scope 1 k.1)
