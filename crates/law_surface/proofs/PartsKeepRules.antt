-- What each part becomes keeps the rules of the core, in each scope that has the names of the part's.
use Rattle.std.specs.Prelude.{◌≡◌, ℕ, zero, suc, ◌+◌, ◌≤◌, ◌==◌, ◌&&◌, ◌||◌, not, nat_le, Bool, true, false, List, [], ◌∷◌, ◌++◌, map, length, is_some, replicate}
use Rattle.std.specs.Prelude.{Option, None, Some, Result, Ok, ⊤, refl, if◌then◌else◌}
use Rattle.std.proofs.Common.{sym, ◌∙◌, ap, subst, arith, leb-true, eqb-true}
use Rattle.lemmas.proofs.Bools.{equal_itself}
use Rattle.lemmas.proofs.Permutations.{Each}
use Rattle.operators.specs.declared.Binary.TheVariants.{Lt, Eq, Or as BitOr}
use Rattle.semantics.specs.Graph.{same_name}
use Rattle.semantics.proofs.Lines.{same_name_is, same_name_itself}
use Rattle.source.specs.Tree as core
use Rattle.source.specs.Tree.{Name, NameAt, NumberAt}
use Rattle.source.specs.Fits as core_fits
use Rattle.source.specs.Spelled.{others}
use Rattle.source.specs.Outside.{is_in, bare, bound_by, once, without}
use Rattle.source.specs.Rules as core_rules
use Rattle.source.specs.Rules.{and_first, array_in, written_or_one}
use Rattle.surface.specs.Tree.{Count, Expr, Number, Named, Bracket, Prefix, Infix, And, Or, Not, Fetch, Store, Call, If, Loop, For}
use Rattle.surface.specs.Tree.{Exprs, One, More, Body, Let, Do, When, Give, Chain, Tests, Last, Else, Turn, Before, After, Carried, Nothing, With}
use Rattle.surface.specs.Tree.{names_of, carried_names}
use Rattle.surface.specs.Fits.{count}
use Rattle.surface.specs.Known.{Known, lookup, Callee, Missing, OfValues, OfArrays, IsBuiltIn, Min, Max, Abs, Len, callee}
use Rattle.surface.specs.Constants.{place_of, counted}
use Rattle.surface.specs.Making.{Held, Made, made, ◌>>=◌, fresh, hold, target, hidden, bound_to, enclosed, inside, otherwise}
use Rattle.surface.specs.CoreForms.{infix_at, giving, both, both_true, either_of, chosen, sign_of, without_sign, row, is_other_row, some_other}
use Rattle.surface.specs.CoreForms.{checked_index, counting, carrying}
use Rattle.surface.specs.Outside.{uses, body_uses, turn_uses, outside_turn, outside_for}
use Rattle.surface.specs.Rules.{Around, is_constant, is_carried, one_if, no_values, new_name, new_first, for_width, is_as_many, for_values, argument_rank, values, list_values}
use Rattle.surface.specs.Rules.{index_values, argument_ranks, first_values, carried_values, body_values, tests_values, turn_values}
use Rattle.surface.specs.Desugar.{Setting, array_for, lengths_for, array_passed, arrays_passed, instance_name, stands_for_itself, atom, as_name, constant_or_value}
use Rattle.surface.specs.Desugar.{bound_or_four, tested, measure, first_or_zero, others_of, and_others, values_or_zero, unless_passed, call_made}
use Rattle.surface.specs.Desugar.{desugar, desugar_for, desugar_all, desugar_atoms, desugar_values, desugar_first, desugar_pair, desugar_index}
use Rattle.surface.specs.Desugar.{desugar_rows, desugar_body, desugar_tests, desugar_turn}
use Rattle.surface.specs.Instances.{Wanted, wanted_by}
use Rattle.law_surface.proofs.Steps.{then_ok, ok_same}
use Rattle.law_surface.proofs.WiderScope.{Includes, behind_same, behind_more, wide, list_wide, firsts_wide, body_wide}
use Rattle.law_surface.proofs.RulesMade.{GoodLets, MakesIn, in_made, in_then, Closed, then_closed, closed_then, then_fresh, Has, HasAll, HasBody, NoItem, in_bound}
use Rattle.law_surface.proofs.RulesMade.{closed_enclosed, closed_inside, closed_otherwise, closed_tested, name_has, infix_has, prefix_has, if_has, more_has}
use Rattle.law_surface.proofs.RulesMade.{infix_at_has, chosen_has, sign_has, without_sign_has, row_has, HasIfThere, if_there_wide, other_has, checked_has}
use Rattle.law_surface.proofs.RulesMade.{includes_then, giving_has}
use Rattle.law_surface.proofs.SurfaceKept as kept_by
use Rattle.law_surface.proofs.SurfaceKept.{has_one, both_one, in_if, IsTurned, in_loop, IsCounted, in_for, in_more, in_first, in_firsts, in_let, in_do}
use Rattle.law_surface.proofs.SurfaceKept.{in_when, in_last, in_else, in_before, in_after, IsIndexed, in_fetch, in_store, in_index, in_indexes, call_values}
use Rattle.law_surface.proofs.SurfaceKept.{in_count, in_ranks, rank_or_values, ranks_and, in_rank_array, in_rank_one, in_rank_more, measured_is}
use Rattle.law_surface.proofs.HiddenNames.{next_differs}
use Rattle.law_surface.proofs.Narrower.{Keeps, keeps_behind, in_without, in_front, in_later, body_narrow, turn_narrow}
use Rattle.law_surface.proofs.Widths.{from_filter, once_in, in_once}
use Rattle.law_surface.proofs.Ready.{Ready, ReadyAll, ReadyBody, ReadyTests, ReadyTurn, ReadyCarried}
use Rattle.law_surface.proofs.CoreLoops.{InBounds, loop_has, IsNew, NewIn, less_new, TurnIn, counting_has, carrying_has}
use Rattle.law_surface.proofs.Positive.{AllHaveResults, positive, list_positive}
use Rattle.law_surface.proofs.Surroundings.{around, IsFunction, zeros, HasInstance, Fresh, Signed, Surroundings, IsCalled, callee_called, Passes, an_array}
use Rattle.law_surface.proofs.Surroundings.{values as is_values, passes, array_there, NameIsNew, name_is_new, new_in_core, Apart, and_apart, TargetsNew}
use Rattle.law_surface.proofs.Surroundings.{targets_are_new, bound_is, bound_if_written, constant_or_name, in_atom, in_name, EndIs, end_is}

-- ONE PART, TWO, an arm
as_counted : (q : core.Program) (scope : List Name) (m : ℕ → Made core.Expr) (n : ℕ) → 1 ≡ n → MakesIn q scope (Has q 1) m → MakesIn q scope (Has q n) m
as_counted q scope m n e h = subst (λ (k : ℕ). MakesIn q scope (Has q k) m) e h

abbrev pub In : core.Program → List Name → (ℕ → Made core.Expr) → Type 0
In q scope m = MakesIn q scope (Has q 1) m

in_one : (q : core.Program) (scope : List Name) (m : ℕ → Made core.Expr) (f : core.Expr → core.Expr) → In q scope m → ((wider : List Name) (x : core.Expr)
    → Has q 1 wider x → Has q 1 wider (f x)) → In q scope (m >>= (λ x. made (f x)))
in_one q scope m f h g = in_then q scope (Has q 1) (Has q 1) m (λ x. made (f x)) h (λ wider i x k. in_made q wider (Has q 1) (f x) (g wider x k))

in_two : (q : core.Program) (scope : List Name) (m k : ℕ → Made core.Expr) (f : core.Expr → core.Expr → core.Expr) → In q scope m → ((wider : List Name)
    → Includes scope wider → In q wider k) → ((wider : List Name) (x y : core.Expr) → Has q 1 wider x → Has q 1 wider y → Has q 1 wider (f x y)) → In q scope (m >>=
    (λ x. k >>= (λ y. made (f x y))))
in_two q scope m k f h g t = in_then q scope (Has q 1) (Has q 1) m (λ x. k >>= (λ y. made (f x y))) h (λ wider i x a. in_then q wider (Has q 1) (Has q 1) k (λ y.
    made (f x y)) (g wider i) (λ widest j y b. in_made q widest (Has q 1) (f x y) (t widest x y (wide q wider widest j x 1 a) b)))

-- a second part in braces, after the first one
in_arm : (q : core.Program) (scope : List Name) (m : ℕ → Made core.Expr) (k : core.Expr → ℕ → Made core.Expr) (f : core.Expr → core.Body → core.Expr)
    → In q scope m → ((wider : List Name) → Includes scope wider → (x : core.Expr) → Has q 1 wider x → In q wider (k x)) → ((wider : List Name) (x : core.Expr)
    (b : core.Body) → Has q 1 wider x → HasBody q 1 wider b → Has q 1 wider (f x b)) → In q scope (m >>= (λ x. inside (k x) >>= (λ b. made (f x b))))
in_arm q scope m k f h g t = in_then q scope (Has q 1) (Has q 1) m (λ x. inside (k x) >>= (λ b. made (f x b))) h (λ wider i x a. then_closed q wider (HasBody q 1
    wider) (Has q 1) (inside (k x)) (λ b. made (f x b)) (closed_inside q 1 wider (k x) (g wider i x a)) (λ b c. in_made q wider (Has q 1) (f x b) (t wider x b a
    c)))

-- ARGUMENTS that are values
abbrev pub HasSome : core.Program → ℕ → List Name → Option core.Exprs → Type 0
HasSome q n scope None = n ≡ 0
HasSome q n scope (Some es) = HasAll q n scope es

others_have : (q : core.Program) (n m : ℕ) (scope : List Name) (x : core.Expr) (o : Option core.Exprs) → Has q n scope x → HasSome q m scope o → HasAll q (n +
    m) scope (and_others x o)
others_have q n m scope x None h g = h ∙ ap (λ (k : ℕ). Ok k) (omega (arith, g))
others_have q n m scope x (Some es) h g = more_has q n m scope x es h g

in_passed : (q : core.Program) (n m : ℕ) (scope : List Name) (k : ℕ → Made core.Expr) (rest : ℕ → Made (Option core.Exprs)) → MakesIn q scope (Has q n) k
    → ((wider : List Name) → Includes scope wider → MakesIn q wider (HasSome q m) rest) → MakesIn q scope (HasSome q (n + m)) (unless_passed None k rest)
in_passed q n m scope k rest h g = in_then q scope (Has q n) (HasSome q (n + m)) k (λ x. rest >>= (λ xs. made (Some (and_others x xs)))) h (λ wider i x a. in_then
    q wider (HasSome q m) (HasSome q (n + m)) rest (λ xs. made (Some (and_others x xs))) (g wider i) (λ widest j xs b. in_made q widest (HasSome q (n + m)) (Some
    (and_others x xs)) (others_have q n m widest x xs (wide q wider widest j x n a) b)))

zeros_of : (n : ℕ) → zeros (replicate n 0) ≡ n
zeros_of zero = refl
zeros_of (suc n) = omega (arith, zeros_of n)

zeros_and : (ms ns : List ℕ) → zeros (ms ++ ns) ≡ zeros ms + zeros ns
zeros_and [] ns = omega arith
zeros_and (m ∷ ms) ns = omega (arith, zeros_and ms ns)

zeros_after : (rank : ℕ) (ns : List ℕ) → (rank == 0) ≡ false → zeros (rank ∷ ns) ≡ zeros ns
zeros_after rank ns h = rw h (omega arith)

or_zero_has : (q : core.Program) (n : ℕ) (scope : List Name) (at : ℕ) (o : Option core.Exprs) → 1 ≤ n → HasSome q n scope o → HasAll q n scope (values_or_zero at o)
or_zero_has q n scope at None h g = absurd (omega (arith, h, g))
or_zero_has q n scope at (Some es) h g = g

-- two atoms
abbrev pub HasTwo : core.Program → List Name → core.Expr × core.Expr → Type 0
HasTwo q scope two = Has q 1 scope two.0 × Has q 1 scope two.1

-- CALLS
function_has : (q : core.Program) (scope : List Name) (at : ℕ) (strict : Bool) (f : Name) (params results : ℕ) (vs : core.Exprs) → IsFunction q f params results →
    HasAll q params scope vs → Has q results scope (core.Call at strict f vs)
function_has q scope at strict f params results vs g h =
    rw g.found (rw h (rw (ap (λ (k : ℕ). params == k) g.params_are ∙ equal_itself params) (ap (λ (n : ℕ). Ok n) g.results_are)))

call_has : (q : core.Program) (s : Setting) (ranks : List (Name × ℕ)) → Surroundings q s ranks → (scope wider : List Name) (at : ℕ) (strict : Bool) (f : Name) (es :
    Exprs) (c : Callee) (n : ℕ) → IsCalled q s f c → Each (HasInstance q s) (wanted_by s f es c) → call_values (around s ranks) scope at es c ≡ Ok n
    → ((m : ℕ) → list_values (around s ranks) scope es ≡ Ok m → MakesIn q wider (HasAll q m) (desugar_all s es))
    → ((rs : List ℕ) → argument_ranks (around s ranks) scope es ≡ Ok rs → MakesIn q wider (HasSome q (zeros rs)) (desugar_values s es))
    → (list_values (around s ranks) scope es ≡ Ok 1 → In q wider (desugar_first s es))
    → (list_values (around s ranks) scope es ≡ Ok 2 → MakesIn q wider (HasTwo q) (desugar_pair s at es))
    → MakesIn q wider (Has q n) (call_made s at strict f es c (λ n. desugar_all s es n) (λ n. desugar_values s es n) (λ n. desugar_first s es n) (λ n.
    desugar_pair s at es n))
call_has q s ranks w scope wider at strict f es Missing n g e h all vals first pair = cc
call_has q s ranks w scope wider at strict f es (OfValues params results) n g e h all vals first pair =
    let k = in_count (around s ranks) scope at es params results n h in
    subst (λ (n : ℕ). MakesIn q wider (Has q n) ((λ n. desugar_all s es n) >>= (λ vs. made (core.Call at strict f vs)))) k.1 (in_then q wider (HasAll q params)
    (Has q results) (λ n. desugar_all s es n) (λ vs. made (core.Call at strict f vs)) (all params k.0) (λ widest i vs a. in_made q widest (Has q results)
    (core.Call at strict f vs) (function_has q widest at strict f params results vs g a)))
call_has q s ranks w scope wider at strict f es (OfArrays params results) n g e h all vals first pair =
    let k = in_ranks (around s ranks) scope at es params results n h in
    let arrays : List Name = arrays_passed s es in
    let name : Name = instance_name s.instances f arrays in
    let is : IsFunction q name (zeros params) results = g.1 arrays e.0 in
    subst (λ (n : ℕ). MakesIn q wider (Has q n) ((λ n. desugar_values s es n) >>= (λ vs. made (core.Call at strict name (values_or_zero at vs))))) k.1 (in_then q
    wider (HasSome q (zeros params)) (Has q results) (λ n. desugar_values s es n) (λ vs. made (core.Call at strict name (values_or_zero at vs))) (vals params
    k.0) (λ widest i vs a. in_made q widest (Has q results) (core.Call at strict name (values_or_zero at vs)) (function_has q widest at strict name (zeros
    params) results (values_or_zero at vs) is (or_zero_has q (zeros params) widest at vs g.0 a))))
call_has q s ranks w scope wider at strict f es (IsBuiltIn Len) n g e h all vals first pair = as_counted q wider (made (core.Number at (measure s es))) n
    (measured_is (around s ranks) at es n h) (in_made q wider (Has q 1) (core.Number at (measure s es)) refl)
call_has q s ranks w scope wider at strict f es (IsBuiltIn Abs) n g e h all vals first pair =
    let k = in_count (around s ranks) scope at es 1 1 n h in
    let rest : core.Expr → ℕ → Made core.Expr = λ x. bound_to s.prefix at (sign_of at x) >>= (λ sign. made (without_sign at x sign)) in
    as_counted q wider ((λ n. desugar_first s es n) >>= rest) n k.1 (in_then q wider (Has q 1) (Has q 1) (λ n. desugar_first s es n) rest (first k.0) (λ v i x a.
    in_then q v (Has q 1) (Has q 1) (bound_to s.prefix at (sign_of at x)) (λ sign. made (without_sign at x sign)) (in_bound q v s.prefix at (sign_of at x)
    w.hidden_new (sign_has q v at x a)) (λ u j sign b. in_made q u (Has q 1) (without_sign at x sign) (without_sign_has q u at x sign (wide q v u j x 1 a) b))))
call_has q s ranks w scope wider at strict f es (IsBuiltIn Max) n g e h all vals first pair =
    let k = in_count (around s ranks) scope at es 2 1 n h in
    let rest : core.Expr × core.Expr → ℕ → Made core.Expr = λ two. made (chosen at two.0 two.1 (infix_at at Lt two.0 two.1)) in
    as_counted q wider ((λ n. desugar_pair s at es n) >>= rest) n k.1 (in_then q wider (HasTwo q) (Has q 1) (λ n. desugar_pair s at es n) rest (pair k.0) (λ v i
    two a. in_made q v (Has q 1) (chosen at two.0 two.1 (infix_at at Lt two.0 two.1)) (chosen_has q v at two.0 two.1 (infix_at at Lt two.0 two.1) a.0 a.1
    (infix_at_has q v at Lt two.0 two.1 a.0 a.1))))
call_has q s ranks w scope wider at strict f es (IsBuiltIn Min) n g e h all vals first pair =
    let k = in_count (around s ranks) scope at es 2 1 n h in
    let rest : core.Expr × core.Expr → ℕ → Made core.Expr = λ two. made (chosen at two.0 two.1 (infix_at at Lt two.1 two.0)) in
    as_counted q wider ((λ n. desugar_pair s at es n) >>= rest) n k.1 (in_then q wider (HasTwo q) (Has q 1) (λ n. desugar_pair s at es n) rest (pair k.0) (λ v i
    two a. in_made q v (Has q 1) (chosen at two.0 two.1 (infix_at at Lt two.1 two.0)) (chosen_has q v at two.0 two.1 (infix_at at Lt two.1 two.0) a.0 a.1
    (infix_at_has q v at Lt two.1 two.0 a.1 a.0))))

-- VALUES among arguments
module _ (q : core.Program) (s : Setting) (ranks : List (Name × ℕ)) (scope wider : List Name) (e : Expr) where
  values_one : (rs : List ℕ) → Passes (around s ranks) s e → argument_ranks (around s ranks) scope (One e) ≡ Ok rs
      → ((n : ℕ) → values (around s ranks) scope e ≡ Ok n → MakesIn q wider (Has q n) (desugar s false e))
      → MakesIn q wider (HasSome q (zeros rs)) (unless_passed (array_passed s e) (λ n. desugar s false e n) (made None))
  values_one rs (an_array rank array e1 nz e2) h each =
      let given : rank_or_values (around s ranks) scope e (Some rank) ≡ Ok rs = subst (λ (o : Option ℕ). rank_or_values (around s ranks) scope e o ≡ Ok rs) e1 h in
      let is : rank ∷ [] ≡ rs = ok_same (rank ∷ []) rs given in
      let none : zeros rs ≡ 0 = ap (λ (ms : List ℕ). zeros ms) (sym is) ∙ zeros_after rank [] nz in
      subst (λ (o : Option Name). MakesIn q wider (HasSome q (zeros rs)) (unless_passed o (λ n. desugar s false e n) (made None))) (sym e2) (in_made q wider
      (HasSome q (zeros rs)) None none)
  values_one rs (is_values e1 e2) h each =
      let given : rank_or_values (around s ranks) scope e None ≡ Ok rs = subst (λ (o : Option ℕ). rank_or_values (around s ranks) scope e o ≡ Ok rs) e1 h in
      let k = in_rank_one (around s ranks) scope e rs given in
      let as_many : k.0 + 0 ≡ zeros rs = omega (arith, zeros_of k.0, ap (λ (ms : List ℕ). zeros ms) k.2) in
      subst (λ (o : Option Name). MakesIn q wider (HasSome q (zeros rs)) (unless_passed o (λ n. desugar s false e n) (made None))) (sym e2) (subst (λ (m : ℕ).
      MakesIn q wider (HasSome q m) (unless_passed None (λ n. desugar s false e n) (made None))) as_many (in_passed q k.0 0 wider (λ n. desugar s false e n)
      (made None) (each k.0 k.1) (λ v i. in_made q v (HasSome q 0) None refl)))

  values_more : (es : Exprs) (rs : List ℕ) → Passes (around s ranks) s e → argument_ranks (around s ranks) scope (More e es) ≡ Ok rs
      → ((n : ℕ) → values (around s ranks) scope e ≡ Ok n → MakesIn q wider (Has q n) (desugar s false e))
      → ((v : List Name) → Includes wider v → (ms : List ℕ) → argument_ranks (around s ranks) scope es ≡ Ok ms → MakesIn q v (HasSome q (zeros ms))
      (desugar_values s es)) → MakesIn q wider (HasSome q (zeros rs)) (unless_passed (array_passed s e) (λ n. desugar s false e n) (desugar_values s es))
  values_more es rs (an_array rank array e1 nz e2) h each rest =
      let given : ranks_and (around s ranks) scope e es (Some rank) ≡ Ok rs = subst (λ (o : Option ℕ). ranks_and (around s ranks) scope e es o ≡ Ok rs) e1 h in
      let k = in_rank_array (around s ranks) scope e es rank rs given in
      let as_many : zeros k.0 ≡ zeros rs = sym (zeros_after rank k.0 nz) ∙ ap (λ (ms : List ℕ). zeros ms) k.2 in
      subst (λ (o : Option Name). MakesIn q wider (HasSome q (zeros rs)) (unless_passed o (λ n. desugar s false e n) (desugar_values s es))) (sym e2) (subst (λ
      (m : ℕ). MakesIn q wider (HasSome q m) (desugar_values s es)) as_many (rest wider (λ x e. e) k.0 k.1))
  values_more es rs (is_values e1 e2) h each rest =
      let given : ranks_and (around s ranks) scope e es None ≡ Ok rs = subst (λ (o : Option ℕ). ranks_and (around s ranks) scope e es o ≡ Ok rs) e1 h in
      let k = in_rank_more (around s ranks) scope e es rs given in
      let as_many : k.0 + zeros k.1 ≡ zeros rs = omega (arith, zeros_of k.0, zeros_and (replicate k.0 0) k.1, ap (λ (ms : List ℕ). zeros ms) k.4) in
      subst (λ (o : Option Name). MakesIn q wider (HasSome q (zeros rs)) (unless_passed o (λ n. desugar s false e n) (desugar_values s es))) (sym e2) (subst (λ
      (m : ℕ). MakesIn q wider (HasSome q m) (unless_passed None (λ n. desugar s false e n) (desugar_values s es))) as_many (in_passed q k.0 (zeros k.1) wider
      (λ n. desugar s false e n) (desugar_values s es) (each k.0 k.2) (λ v i. rest v i k.1 k.3)))

-- two hidden names for two values
two_hidden : (q : core.Program) (s : Setting) (ranks : List (Name × ℕ)) → Surroundings q s ranks → (scope : List Name) (at : ℕ) (m : ℕ → Made core.Expr)
    → MakesIn q scope (Has q 2) m → MakesIn q scope (HasTwo q) (m >>= (λ x. fresh s.prefix >>= (λ h. fresh s.prefix >>= (λ k. hold at (target at h ∷ target at k ∷
    []) (core.One x) >>= (λ held. made (core.Named at h, core.Named at k))))))
two_hidden q s ranks w scope at m g = in_then q scope (Has q 2) (HasTwo q) m (λ x. fresh s.prefix >>= (λ h. fresh s.prefix >>= (λ k. hold at (target at h ∷
    target at k ∷ []) (core.One x) >>= (λ held. made (core.Named at h, core.Named at k))))) g (λ v i x a n. two n v x a)
  where
    differ : (n : ℕ) (b : Bool) → same_name (hidden s.prefix (n + 1)) (hidden s.prefix n) ≡ b → same_name (hidden s.prefix (n + 1)) (hidden s.prefix n) ≡ false
    differ n true e = absurd (next_differs s.prefix n (same_name_is (hidden s.prefix (n + 1)) (hidden s.prefix n) e))
    differ n false e = e

    two : (n : ℕ) (v : List Name) (x : core.Expr) → Has q 2 v x → GoodLets q v (record {
      at = at;
      targets = target at (hidden s.prefix n) ∷ target at (hidden
          s.prefix (n + 1)) ∷ [];
      values = core.One x;
    } ∷ []) × HasTwo q (hidden s.prefix n ∷ hidden s.prefix (n + 1) ∷ v) (
      core.Named at (hidden s.prefix n),
      core.Named at (hidden s.prefix (n + 1)),
    )
    two n v x a =
        let first : Name = hidden s.prefix n in
        let next : Name = hidden s.prefix (n + 1) in
        let differs : same_name next first ≡ false = differ n (same_name next first) refl in (
          (rw (w.hidden_new n) (rw (w.hidden_new (n + 1)) (rw differs refl)), a, tt),
          (
            name_has q (first ∷ next ∷ v) at first (ap (λ (b : Bool). b || is_in first (next ∷ v)) (same_name_itself first)),
            name_has q (first ∷ next ∷ v) at next (behind_more (first ∷ []) (next ∷ v) next (ap (λ (b : Bool). b || is_in next v) (same_name_itself next))),
          ),
        )

-- THE NAMES of a loop, each with a first value
pub record NamesNew (q : core.Program) (a : Around) (before : List Name) (xs : List NameAt) : Type 0 where
  pub core : NewIn q before xs
  pub apart : (scope : List Name) → Apart a scope → Apart a (bare xs ++ scope)

one_new : (q : core.Program) (a : Around) (before : List Name) (x : NameAt) (xs : List NameAt) → Fresh q a.known x.name → new_first a before (x ∷ xs) ≡ Ok tt
    → NamesNew q a (x.name ∷ before) xs → NamesNew q a before (x ∷ xs)
one_new q a before x xs f h rest =
    let n : NameIsNew a before x.name = name_is_new a before x tt h in
    record {
      core = (new_in_core q a before x.name f n, rest.core);
      apart = λ scope p. and_apart a before x.name (bare xs ++ scope) n (rest.apart scope p);
    }

names_new : (q : core.Program) (a : Around) (scope before : List Name) (xs : List NameAt) (es : Exprs) → count es ≡ length xs → Each (Fresh q a.known) (bare xs)
    → first_values a scope before xs es ≡ Ok tt → NamesNew q a before xs
names_new q a scope before [] es c f h = record { core = tt; apart = λ scope p. p }
names_new q a scope before (x ∷ []) (One e) c f h = one_new q a before x [] f.0 (in_first a scope before (x ∷ []) e h).0 (record { core = tt; apart = λ scope p. p })
names_new q a scope before (x ∷ y ∷ xs) (One e) c f h = absurd (omega (arith, c))
names_new q a scope before (x ∷ xs) (More e es) c f h =
    let s = in_firsts a scope before (x ∷ xs) e es h in
    one_new q a before x xs f.0 s.0 (names_new q a scope (x.name ∷ before) xs es (omega (arith, c)) f.1 s.2)

first_new : (q : core.Program) (a : Around) (before : List Name) (xs : List NameAt) → Each (Fresh q a.known) (bare xs) → new_first a before xs ≡ Ok tt
    → core_rules.new_first q before xs ≡ Ok tt
first_new q a before [] f h = refl
first_new q a before (x ∷ xs) f h = rw (new_in_core q a before x.name f.0 (name_is_new a before x tt h)) refl

each_other : (P : Name → Type 0) (xs : List NameAt) → Each P (bare xs) → Each P (bare (others xs))
each_other P [] h = tt
each_other P (x ∷ xs) h = h.1

-- SCOPES with the outside names alone
outside_apart : (a : Around) (xs : List Name) → Apart a (once (without (no_values a) xs))
outside_apart a xs x e = not_true (is_in x (no_values a)) (from_filter (λ y. not (is_in y (no_values a))) x xs (once_in (without (no_values a) xs) x e)).1
  where
    not_true : (b : Bool) → not b ≡ true → b ≡ false
    not_true true h = cc
    not_true false h = refl

outside_keeps : (a : Around) (xs scope : List Name) → Apart a scope → Keeps xs scope (once (without (no_values a) xs))
outside_keeps a xs scope p x u e = in_once (without (no_values a) xs) x (in_without x (no_values a) xs (p x e) u)

-- A `for`: what it needs, in a scope of the core
pub record ForIn (q : core.Program) (i : NameAt) (names : List NameAt) (turns : ℕ) (scope outside : List Name) (bound : NumberAt) (x b : core.Expr) (m : ℕ → Made
    core.Body) : Type 0 where
  pub bounds : InBounds bound
  pub new : IsNew q [] i.name
  pub begin : Has q 1 scope x
  pub end : Has q 1 scope b
  pub end_inside : Has q 1 (i.name ∷ bare names ++ outside) b
  pub body : (inner : List Name) → Includes (i.name ∷ bare names ++ scope) inner → Closed (HasBody q turns inner) m
  pub body_inside : (inner : List Name) → Includes (i.name ∷ bare names ++ outside) inner → Closed (HasBody q turns inner) m
  pub few : length (i ∷ names) + length outside ≤ 15

for_wider : (q : core.Program) (i : NameAt) (names : List NameAt) (turns : ℕ) (scope wider outside : List Name) (bound : NumberAt) (x b : core.Expr) (m : ℕ → Made
    core.Body) → Includes scope wider → ForIn q i names turns scope outside bound x b m → ForIn q i names turns wider outside bound x b m
for_wider q i names turns scope wider outside bound x b m w f =
    let before : List Name = i.name ∷ bare names in
    record {
      bounds = f.bounds;
      new = f.new;
      begin = wide q scope wider w x 1 f.begin;
      end = wide q scope wider w b 1 f.end;
      end_inside = f.end_inside;
      body = λ inner j. f.body inner (includes_then (before ++ scope) (before ++ wider) inner (behind_same before scope wider w) j);
      body_inside = f.body_inside;
      few = f.few;
    }

both_closed : {A : Type 0} (P Q : A → Type 0) (m : ℕ → Made A) → Closed P m → Closed Q m → Closed (λ x. P x × Q x) m
both_closed P Q m h g n = ((h n).0, ((h n).1, (g n).1))

counting_in : (q : core.Program) (s : Setting) (ranks : List (Name × ℕ)) → Surroundings q s ranks → (at : ℕ) (bound : NumberAt) (i : NameAt) (x b : core.Expr)
    (turns : ℕ) (scope outside : List Name) (m : ℕ → Made core.Body) → ForIn q i [] turns scope outside bound x b m → In q scope (fresh s.prefix >>= (λ next. m >>=
    (λ turn. made (counting at bound i x b next turn))))
counting_in q s ranks w at bound i x b turns scope outside m f = then_fresh q scope (Has q 1) s.prefix (λ next. m >>= (λ turn. made (counting at bound i x b next
    turn))) (λ k.
    let next : Name = hidden s.prefix k in
    let inner : List Name = i.name ∷ scope in
    let least : List Name = i.name ∷ outside in
    then_closed q scope (λ turn. HasBody q turns (next ∷ inner) turn × HasBody q turns (next ∷ least) turn) (Has q 1) m (λ turn. made (counting at bound i x b next
    turn)) (both_closed (HasBody q turns (next ∷ inner)) (HasBody q turns (next ∷ least)) m (f.body (next ∷ inner) (behind_more (next ∷ []) inner)) (f.body_inside
    (next ∷ least) (behind_more (next ∷ []) least))) (λ turn g. in_made q scope (Has q 1) (counting at bound i x b next turn) (counting_has q turns scope outside at
    bound i x b next turn f.bounds (w.hidden_new k) f.new f.begin f.end g.0 (record { end = f.end_inside; body = g.1 }) f.few)))

carrying_in : (q : core.Program) (s : Setting) (ranks : List (Name × ℕ)) → Surroundings q s ranks → (at : ℕ) (bound : NumberAt) (i : NameAt) (x b : core.Expr) (xs :
    List NameAt) (cs : core.Exprs) (scope outside : List Name) (m : ℕ → Made core.Body) → ForIn q i xs (length xs) scope outside bound x b m → NewIn q [] xs → 1 ≤
    length xs → HasAll q (length xs) scope cs → core_rules.first_values q scope (i.name ∷ []) xs cs ≡ Ok tt → MakesIn q scope (Has q (length xs)) (fresh s.prefix >>=
    (λ next. m >>= (λ turn. made (carrying at bound i x b xs cs next turn))))
carrying_in q s ranks w at bound i x b xs cs scope outside m f names some c firsts = then_fresh q scope (Has q (length xs)) s.prefix (λ next. m >>= (λ turn. made
    (carrying at bound i x b xs cs next turn))) (λ k.
    let next : Name = hidden s.prefix k in
    let inner : List Name = i.name ∷ bare xs ++ scope in
    let least : List Name = i.name ∷ bare xs ++ outside in
    then_closed q scope (λ turn. HasBody q (length xs) (next ∷ inner) turn × HasBody q (length xs) (next ∷ least) turn) (Has q (length xs)) m (λ turn. made (carrying
    at bound i x b xs cs next turn)) (both_closed (HasBody q (length xs) (next ∷ inner)) (HasBody q (length xs) (next ∷ least)) m (f.body (next ∷ inner) (behind_more
    (next ∷ []) inner)) (f.body_inside (next ∷ least) (behind_more (next ∷ []) least))) (λ turn g. in_made q scope (Has q (length xs)) (carrying at bound i x b xs cs
    next turn) (carrying_has q scope outside at bound i x b xs cs next turn f.bounds (w.hidden_new k) f.new names some f.begin f.end c firsts g.0 (record {
      end = f.end_inside;
      body = g.1;
    }) f.few)))

-- its range, and what is made of that
in_range : (q : core.Program) (s : Setting) (ranks : List (Name × ℕ)) → Surroundings q s ranks → (n : ℕ) (scope bound outside : List Name) (at : ℕ) (e : Expr) (m :
    ℕ → Made core.Expr) (rest : core.Expr → core.Expr → ℕ → Made core.Expr) → In q scope m → ((wider : List Name) → Includes scope wider → In q wider (desugar s
    false e)) → ((wider : List Name) → Includes scope wider → (x b : core.Expr) → Has q 1 wider x → Has q 1 wider b → EndIs q bound outside (is_carried s.known bound
    outside e) b → MakesIn q wider (Has q n) (rest x b)) → MakesIn q scope (Has q n) (m >>= (λ v. as_name s at v >>= (λ x. atom s bound e (desugar s false e) >>=
    (λ b. rest x b))))
in_range q s ranks w n scope bound outside at e m rest h g t =
    let end : ℕ → Made core.Expr = atom s bound e (desugar s false e) in
    in_then q scope (Has q 1) (Has q n) m (λ v. as_name s at v >>= (λ x. end >>= (λ b. rest x b))) h (λ s1 i1 v g1. in_then q s1 (Has q 1) (Has q n) (as_name s at
    v) (λ x. end >>= (λ b. rest x b)) (in_name q s ranks w s1 at v g1) (λ s2 i2 x g2. in_then q s2 (λ sc b. Has q 1 sc b × EndIs q bound outside (is_carried
    s.known bound outside e) b) (Has q n) end (λ b. rest x b) (λ k. let made = in_atom q s ranks w s2 bound e (desugar s false e) (g s2 (includes_then scope s1
    s2 i1 i2)) k in (made.0, (made.1, end_is q s bound outside e k))) (λ s3 i3 b g3. t s3 (includes_then scope s2 s3 (includes_then scope s1 s2 i1 i2) i3) x b
    (wide q s2 s3 i3 x 1 g2) g3.0 g3.1)))

-- a loop with the same names
named_loop : (q : core.Program) (n : ℕ) (scope outside : List Name) (at : ℕ) (bound : NumberAt) (vs : core.Exprs) (t : core.Turn) (names : List NameAt) → core.names_of
    t ≡ names → InBounds bound → core_rules.first_values q scope [] names vs ≡ Ok tt → core_rules.turn_values q (bare names ++ scope) t ≡ Ok n → n ≡ length names
    → core_rules.turn_values q (bare names ++ outside) t ≡ Ok n → length names + length outside ≤ 15 → Has q n scope (core.Loop at bound vs t)
named_loop q n scope outside at bound vs t names e b f g l u few = loop_has q n scope outside at bound vs t b (subst (λ (xs : List NameAt). core_rules.first_values
    q scope [] xs vs ≡ Ok tt) (sym e) f) (subst (λ (xs : List NameAt). core_rules.turn_values q (bare xs ++ scope) t ≡ Ok n) (sym e) g) (l ∙ ap (λ (xs : List
    NameAt). length xs) (sym e)) (subst (λ (xs : List NameAt). core_rules.turn_values q (bare xs ++ outside) t ≡ Ok n) (sym e) u) (subst (λ (xs : List NameAt).
    length xs + length outside ≤ 15) (sym e) few)

or_name : (c b : Bool) → (c || b) ≡ true → c ≡ false → b ≡ true
or_name true b h e = cc
or_name false b h e = h

fetch_has : (q : core.Program) (scope : List Name) (at : ℕ) (x : Name) (e : core.Expr) → is_some (array_in q x) ≡ true → Has q 1 scope e → Has q 1 scope (core.Fetch
    at x e)
fetch_has q scope at x e h g = rw h (rw g refl)

store_has : (q : core.Program) (scope : List Name) (at : ℕ) (x : Name) (e d : core.Expr) → is_some (array_in q x) ≡ true → Has q 1 scope e → Has q 1 scope d → Has q
    1 scope (core.Store at x e d)
store_has q scope at x e d h g t = rw h (rw g (rw t refl))

bare_length : (xs : List NameAt) → length (bare xs) ≡ length xs
bare_length [] = refl
bare_length (x ∷ xs) = ap (λ (n : ℕ). suc n) (bare_length xs)

appended : (xs ys : List Name) → length (xs ++ ys) ≡ length xs + length ys
appended [] ys = omega arith
appended (x ∷ xs) ys = omega (arith, appended xs ys)

count_some : (es : Exprs) → 1 ≤ count es
count_some (One e) = omega arith
count_some (More e es) = omega arith

-- the facts of a `for` that the rules give, where its end needs one more name at most
for_in : (q : core.Program) (s : Setting) (ranks : List (Name × ℕ)) (at : ℕ) (bound : Option Count) (i : NameAt) (first end : Expr) (carried : Carried) (body : Body)
    (scope wider : List Name) (n : ℕ) (x b : core.Expr) (turns : ℕ) (extra : List Name) → Fresh q s.known i.name → IsCounted (around s ranks) scope bound i first end
    carried body n → Has q 1 wider x → Has q 1 wider b
    → length extra ≤ one_if (is_carried s.known (i.name ∷ bare (carried_names carried)) (outside_for (no_values (around s ranks)) (i.name ∷ bare (carried_names
    carried)) body) end)
    → Has q 1 ((i.name ∷ bare (carried_names carried)) ++ (extra ++ outside_for (no_values (around s ranks)) (i.name ∷ bare (carried_names carried)) body)) b
    → ((inner : List Name) → Includes (i.name ∷ bare (carried_names carried) ++ wider) inner → Closed (HasBody q turns inner) (desugar_body s body))
    → ((inner : List Name) → Includes (i.name ∷ bare (carried_names carried) ++ outside_for (no_values (around s ranks)) (i.name ∷ bare (carried_names carried)) body)
    inner → Closed (HasBody q turns inner) (desugar_body s body))
    → ForIn q i (carried_names carried) turns wider (extra ++ outside_for (no_values (around s ranks)) (i.name ∷ bare (carried_names carried)) body) (bound_or_four
    s.known at bound) x b (desugar_body s body)
for_in q s ranks at bound i first end carried body scope wider n x b turns extra f k g t few inside body_is body_least =
    let names : List Name = i.name ∷ bare (carried_names carried) in
    let outside : List Name = outside_for (no_values (around s ranks)) names body in
    let flag : Bool = is_carried s.known names outside end in
    let narrow : length names + length outside + one_if flag ≤ 15 = leb-true (length names + length outside + one_if flag) 15 k.narrow in
    record {
      bounds = bound_if_written (around s ranks) at bound k.bound_is;
      new = new_in_core q (around s ranks) [] i.name f (name_is_new (around s ranks) [] i tt k.new);
      begin = g;
      end = t;
      end_inside = inside;
      body = body_is;
      body_inside = λ inner j. body_least inner (includes_then (names ++ outside) (names ++ (extra ++ outside)) inner (behind_same names outside (extra ++ outside)
          (behind_more extra outside)) j);
      few = omega (arith, few, narrow, appended extra outside, bare_length (carried_names carried));
    }

-- the counter, and the names after `with`
carried_new : (q : core.Program) (s : Setting) (a : Around) (scope before : List Name) (carried : Carried) → ReadyCarried (Fresh q a.known) (HasInstance q s) s
    carried → carried_values a scope before carried ≡ Ok tt → NamesNew q a before (carried_names carried)
carried_new q s a scope before Nothing r h = record { core = tt; apart = λ scope p. p }
carried_new q s a scope before (With xs firsts) r h = names_new q a scope before xs firsts r.2 r.0 h

for_new : (q : core.Program) (s : Setting) (a : Around) (scope : List Name) (i : NameAt) (carried : Carried) → new_name a [] i ≡ Ok tt → Fresh q a.known i.name
    → ReadyCarried (Fresh q a.known) (HasInstance q s) s carried → carried_values a scope (i.name ∷ []) carried ≡ Ok tt → NamesNew q a [] (i ∷ carried_names carried)
for_new q s a scope i carried new f r h = one_new q a [] i (carried_names carried) f new (carried_new q s a scope (i.name ∷ []) carried r h)

-- ALL PARTS
module _ (q : core.Program) (s : Setting) (ranks : List (Name × ℕ)) (w : Surroundings q s ranks) where
  abbrev a : Around
  a = around s ranks

  abbrev P : Name → Type 0
  P = Fresh q s.known

  abbrev Q : Wanted → Type 0
  Q = HasInstance q s

  has_results : AllHaveResults s.known
  has_results f sig e = (w.functions f sig e).results

  mutual
    kept : (truth : Bool) (e : Expr) (scope wider : List Name) → Includes scope wider → Apart a scope → Ready P Q s e → (n : ℕ) → values a scope e ≡ Ok n
        → MakesIn q wider (Has q n) (desugar s truth e)
    kept truth (Number at v) scope wider i p r n h = as_counted q wider (made (core.Number at v)) n (ok_same 1 n h) (in_made q wider (Has q 1) (core.Number at v)
        refl)
    kept truth (Named at x) scope wider i p r n h =
        let k = kept_by.in_name a scope at x n h in
        let v : core.Expr = constant_or_value at x (lookup s.known.constants x) in
        as_counted q wider (made v) n k.1 (in_made q wider (Has q 1) v (constant_or_name q s.known wider at x (λ e. i x (or_name (is_constant s.known x) (is_in x
        scope) k.0 e))))
    kept truth (Bracket e) scope wider i p r n h = in_then q wider (Has q n) (Has q n) (desugar s truth e) (λ x. made (core.Bracket x)) (kept truth e scope wider i p
        r n h) (λ v j x g. in_made q v (Has q n) (core.Bracket x) g)
    kept truth (Prefix at op e) scope wider i p r n h =
        let k = has_one a scope e n h in
        as_counted q wider (desugar s truth (Prefix at op e)) n k.1 (in_one q wider (desugar s false e) (λ x. core.Prefix at op x) (kept false e scope wider i p r 1
        k.0) (λ v x g. prefix_has q v at op x g))
    kept truth (Infix at sign l r) scope wider i p y n h =
        let k = both_one a scope l r n h in
        as_counted q wider (desugar s truth (Infix at sign l r)) n k.2 (in_two q wider (desugar s false l) (desugar s false r) (λ x y. core.Infix at sign x y) (kept
        false l scope wider i p y.0 1 k.0) (λ v j. kept false r scope v (includes_then scope wider v i j) p y.1 1 k.1) (λ v x z g t. infix_has q v at sign x z g t))
    kept true (And at l r) scope wider i p y n h =
        let k = both_one a scope l r n h in
        as_counted q wider (desugar s true (And at l r)) n k.2 (in_arm q wider (desugar s true l) (λ x. desugar s true r) (λ x b. both_true at x b) (kept true l scope
        wider i p y.0 1 k.0) (λ v j x g. kept true r scope v (includes_then scope wider v i j) p y.1 1 k.1) (λ v x b g t. if_has q 1 v at x b (core.Give (core.One
        (core.Number at 0))) g t refl))
    kept false (And at l r) scope wider i p y n h =
        let k = both_one a scope l r n h in
        as_counted q wider (desugar s false (And at l r)) n k.2 (in_arm q wider (atom s [] l (desugar s false l)) (λ x. desugar s false r) (λ x b. both at x b)
        (in_atom q s ranks w wider [] l (desugar s false l) (kept false l scope wider i p y.0 1 k.0)) (λ v j x g. kept false r scope v (includes_then scope wider v i
        j) p y.1 1 k.1) (λ v x b g t. if_has q 1 v at x b (core.Give (core.One x)) g t g))
    kept truth (Or at l r) scope wider i p y n h =
        let k = both_one a scope l r n h in
        as_counted q wider (desugar s truth (Or at l r)) n k.2 (in_arm q wider (atom s [] l (desugar s false l)) (λ x. desugar s false r >>= (λ y. made (infix_at at
        BitOr x y))) (λ x b. either_of at x b) (in_atom q s ranks w wider [] l (desugar s false l) (kept false l scope wider i p y.0 1 k.0)) (λ v j x g. in_then q v
        (Has q 1) (Has q 1) (desugar s false r) (λ y. made (infix_at at BitOr x y)) (kept false r scope v (includes_then scope wider v i j) p y.1 1 k.1) (λ u m z t.
        in_made q u (Has q 1) (infix_at at BitOr x z) (infix_at_has q u at BitOr x z (wide q v u m x 1 g) t))) (λ v x b g t. if_has q 1 v at x (core.Give (core.One
        x)) b g g t))
    kept truth (Not at e) scope wider i p r n h =
        let k = has_one a scope e n h in
        as_counted q wider (desugar s truth (Not at e)) n k.1 (in_one q wider (desugar s false e) (λ x. infix_at at Eq x (core.Number at 0)) (kept false e scope wider
        i p r 1 k.0) (λ v x g. infix_at_has q v at Eq x (core.Number at 0) g refl))
    kept truth (Fetch at x es) scope wider i p r n h =
        let k = in_fetch a scope at x es n h in
        let d : IsIndexed a scope at x es = k.0 in
        let there = array_there q s ranks w x d.rank d.array in
        as_counted q wider (desugar s truth (Fetch at x es)) n k.1 (in_one q wider (desugar_index s at (lengths_for s x) es) (λ e. core.Fetch at (array_for s x) e)
        (index_kept es at (lengths_for s x) scope wider i p r d.rank d.indexes) (λ v e g. fetch_has q v at (array_for s x) e there g))
    kept truth (Store at x es e) scope wider i p r n h =
        let k = in_store a scope at x es e n h in
        let d : IsIndexed a scope at x es = k.0 in
        let there = array_there q s ranks w x d.rank d.array in
        as_counted q wider (desugar s truth (Store at x es e)) n k.2 (in_two q wider (desugar_index s at (lengths_for s x) es) (desugar s false e) (λ y z. core.Store at
        (array_for s x) y z) (index_kept es at (lengths_for s x) scope wider i p r.0 d.rank d.indexes) (λ v j. kept false e scope v (includes_then scope wider v i j) p
        r.1 1 k.1) (λ v y z g t. store_has q v at (array_for s x) y z there g t))
    kept truth (Call at strict f es) scope wider i p r n h = call_has q s ranks w scope wider at strict f es (callee s.known strict f) n (callee_called q s ranks w
        strict f) r.0 h (λ m g. all_kept es scope wider i p r.1 m g) (λ rs g. values_kept es scope wider i p r.1 rs g) (λ g. first_kept es scope wider i p r.1 g) (λ
        g. pair_kept es at scope wider i p r.1 g)
    kept truth (If at c l r) scope wider i p y n h =
        let k = in_if a scope at c l r n h in
        in_then q wider (Has q 1) (Has q n) (desugar s false c) (λ x. desugar_body s l >>= (λ left. desugar_body s r >>= (λ right. made (core.If at x left right))))
        (kept false c scope wider i p y.0 1 k.0) (λ v j x g. then_closed q v (HasBody q n v) (Has q n) (desugar_body s l) (λ left. desugar_body s r >>= (λ right. made
        (core.If at x left right))) (body_kept l scope v (includes_then scope wider v i j) p y.1 n k.1) (λ left b. then_closed q v (HasBody q n v) (Has q n)
        (desugar_body s r) (λ right. made (core.If at x left right)) (body_kept r scope v (includes_then scope wider v i j) p y.2 n k.2) (λ right c. in_made q v (Has
        q n) (core.If at x left right) (if_has q n v at x left right g b c))))
    kept truth (Loop at bound firsts turn) scope wider i p r n h =
        let k : IsTurned a scope bound firsts turn n = in_loop a scope at bound firsts turn n h in
        let names : List NameAt = names_of turn in
        let outside : List Name = outside_turn (no_values a) turn in
        let new : NamesNew q a [] names = names_new q a scope [] names firsts r.1 r.2 k.begun in
        let least : turn_values a (bare names ++ outside) turn ≡ Ok n = turn_narrow a scope outside turn n (outside_keeps a (turn_uses turn) scope p) k.turns in
        let few : length names + length outside ≤ 15 = leb-true (length names + length outside) 15 k.narrow in
        let number : NumberAt = counted s.known bound in
        in_then q wider (λ sc vs. core_rules.first_values q sc [] names vs ≡ Ok tt) (Has q n) (desugar_all s firsts) (λ vs. desugar_turn s turn >>= (λ t. made
        (core.Loop at number vs t))) (firsts_kept firsts names [] scope wider i p r.0 r.2 k.begun) (λ v j vs f. then_closed q v (λ t. ((core.names_of t ≡ names) ×
        (core_rules.turn_values q (bare names ++ v) t ≡ Ok n)) × ((core.names_of t ≡ names) × (core_rules.turn_values q (bare names ++ outside) t ≡ Ok n))) (Has q n)
        (desugar_turn s turn) (λ t. made (core.Loop at number vs t)) (both_closed (λ t. (core.names_of t ≡ names) × (core_rules.turn_values q (bare names ++ v) t ≡
        Ok n)) (λ t. (core.names_of t ≡ names) × (core_rules.turn_values q (bare names ++ outside) t ≡ Ok n)) (desugar_turn s turn) (turn_kept turn (bare names ++
        scope) (bare names ++ v) (behind_same (bare names) scope v (includes_then scope wider v i j)) (new.apart scope p) r.3 n k.turns) (turn_kept turn (bare names
        ++ outside) (bare names ++ outside) (λ x e. e) (new.apart outside (outside_apart a (turn_uses turn))) r.3 n least)) (λ t g. in_made q v (Has q n) (core.Loop
        at number vs t) (named_loop q n v outside at number vs t names g.0.0 (bound_is a bound k.bound_is) f g.0.1 k.names g.1.1 few)))
    kept truth (For at bound i first end carried body) scope wider v p r n h =
        let k : IsCounted a scope bound i first end carried body n = in_for a scope at bound i first end carried body n h in
        let names : List Name = i.name ∷ bare (carried_names carried) in
        let outside : List Name = outside_for (no_values a) names body in
        let new : NamesNew q a [] (i ∷ carried_names carried) = for_new q s a scope i carried k.new r.0 r.3 k.begun in
        let least : body_values a (names ++ outside) body ≡ Ok k.turns = body_narrow a (names ++ scope) (names ++ outside) body k.turns (keeps_behind names (body_uses
        body) scope outside (outside_keeps a (without names (body_uses body)) scope p)) k.body_is in
        in_range q s ranks w n wider names outside (place_of first) end (atom s [] first (desugar s false first)) (λ x b. desugar_for s at (bound_or_four s.known at
        bound) i x b carried (desugar_body s body)) (in_atom q s ranks w wider [] first (desugar s false first) (kept false first scope wider v p r.1 1 k.first_is)) (λ
        u j. kept false end scope u (includes_then scope wider u v j) p r.2 1 k.end_is) (λ u j x b g t o. for_kept at (bound_or_four s.known at bound) i x b carried
        (desugar_body s body) scope u (o.0 ++ outside) k.turns n (includes_then scope wider u v j) p r.3 new k.begun k.as_many k.count (for_in q s ranks at bound i first
        end carried body scope u n x b k.turns o.0 r.0 k g t o.1 o.2 (λ inner c. body_kept body (names ++ scope) inner (includes_then (names ++ scope) (names ++ u)
        inner (behind_same names scope u (includes_then scope wider u v j)) c) (new.apart scope p) r.4 k.turns k.body_is) (λ inner c. body_kept body (names ++
        outside) inner c (new.apart outside (outside_apart a (without names (body_uses body)))) r.4 k.turns least)))

    -- with its names, and the making of its body
    for_kept : (at : ℕ) (bound : NumberAt) (i : NameAt) (x b : core.Expr) (carried : Carried) (m : ℕ → Made core.Body) (scope wider outside : List Name) (turns n :
        ℕ) → Includes scope wider → Apart a scope → ReadyCarried P Q s carried → NamesNew q a [] (i ∷ carried_names carried) → carried_values a scope (i.name ∷ [])
        carried ≡ Ok tt → is_as_many turns carried ≡ true → for_values carried ≡ n → ForIn q i (carried_names carried) turns wider outside bound x b m → MakesIn q
        wider (Has q n) (desugar_for s at bound i x b carried m)
    for_kept at bound i x b Nothing m scope wider outside turns n v p r new begun many count f = as_counted q wider (desugar_for s at bound i x b Nothing m) n count
        (counting_in q s ranks w at bound i x b turns wider outside m f)
    for_kept at bound i x b (With xs firsts) m scope wider outside turns n v p r new begun many total f =
        let same : turns ≡ length xs = eqb-true turns (length xs) many in
        let f2 : ForIn q i xs (length xs) wider outside bound x b m = subst (λ (k : ℕ). ForIn q i xs k wider outside bound x b m) same f in
        let some : 1 ≤ length xs = omega (arith, count_some firsts, r.2) in
        let names : NewIn q [] xs = less_new q (i.name ∷ []) [] xs (λ y e. cc) new.core.1 in
        let rest : core.Exprs → ℕ → Made core.Expr = λ cs. fresh s.prefix >>= (λ next. m >>= (λ turn. made (carrying at bound i x b xs cs next turn))) in
        subst (λ (k : ℕ). MakesIn q wider (Has q k) (desugar_for s at bound i x b (With xs firsts) m)) total (in_then q wider (λ sc cs. (core_rules.first_values q sc
        (i.name ∷ []) xs cs ≡ Ok tt) × HasAll q (count firsts) sc cs) (Has q (length xs)) (desugar_atoms s firsts) rest (atoms_kept firsts xs (i.name ∷ []) scope wider
        v p r.1 r.0 begun) (λ u j cs g. carrying_in q s ranks w at bound i x b xs cs u outside m (for_wider q i xs (length xs) wider u outside bound x b m j f2) names
        some (g.1 ∙ ap (λ (k : ℕ). Ok k) r.2) g.0))

    firsts_kept : (es : Exprs) (xs : List NameAt) (before scope wider : List Name) → Includes scope wider → Apart a scope → ReadyAll P Q s es → Each P (bare xs)
        → first_values a scope before xs es ≡ Ok tt → MakesIn q wider (λ sc vs. core_rules.first_values q sc before xs vs ≡ Ok tt) (desugar_all s es)
    firsts_kept (One e) xs before scope wider i p r f h =
        let k = in_first a scope before xs e h in
        in_then q wider (Has q 1) (λ sc vs. core_rules.first_values q sc before xs vs ≡ Ok tt) (desugar s false e) (λ x. made (core.One x)) (kept false e scope wider i
        p r 1 k.1) (λ v j x g. in_made q v (λ sc vs. core_rules.first_values q sc before xs vs ≡ Ok tt) (core.One x) (rw (first_new q a before xs f k.0) (rw g refl)))
    firsts_kept (More e es) xs before scope wider i p r f h =
        let k = in_firsts a scope before xs e es h in
        in_then q wider (Has q 1) (λ sc vs. core_rules.first_values q sc before xs vs ≡ Ok tt) (desugar s false e) (λ x. desugar_all s es >>= (λ vs. made (core.More x
        vs))) (kept false e scope wider i p r.0 1 k.1) (λ v j x g. in_then q v (λ sc vs. core_rules.first_values q sc (and_first before xs) (others xs) vs ≡ Ok tt) (λ
        sc vs. core_rules.first_values q sc before xs vs ≡ Ok tt) (desugar_all s es) (λ vs. made (core.More x vs)) (firsts_kept es (others xs) (and_first before xs)
        scope v (includes_then scope wider v i j) p r.1 (each_other P xs f) k.2) (λ u l vs t. in_made q u (λ sc vs. core_rules.first_values q sc before xs vs ≡ Ok tt)
        (core.More x vs) (rw (first_new q a before xs f k.0) (rw (wide q v u l x 1 g) t))))

    atoms_kept : (es : Exprs) (xs : List NameAt) (before scope wider : List Name) → Includes scope wider → Apart a scope → ReadyAll P Q s es → Each P (bare xs)
        → first_values a scope before xs es ≡ Ok tt → MakesIn q wider (λ sc vs. (core_rules.first_values q sc before xs vs ≡ Ok tt) × HasAll q (count es) sc vs)
        (desugar_atoms s es)
    atoms_kept (One e) xs before scope wider i p r f h =
        let k = in_first a scope before xs e h in
        in_then q wider (Has q 1) (λ sc vs. (core_rules.first_values q sc before xs vs ≡ Ok tt) × HasAll q 1 sc vs) (atom s [] e (desugar s false e)) (λ x. made
        (core.One x)) (in_atom q s ranks w wider [] e (desugar s false e) (kept false e scope wider i p r 1 k.1)) (λ v j x g. in_made q v (λ sc vs.
        (core_rules.first_values q sc before xs vs ≡ Ok tt) × HasAll q 1 sc vs) (core.One x) (rw (first_new q a before xs f k.0) (rw g refl), g))
    atoms_kept (More e es) xs before scope wider i p r f h =
        let k = in_firsts a scope before xs e es h in
        in_then q wider (Has q 1) (λ sc vs. (core_rules.first_values q sc before xs vs ≡ Ok tt) × HasAll q (suc (count es)) sc vs) (atom s [] e (desugar s false e)) (λ
        x. desugar_atoms s es >>= (λ vs. made (core.More x vs))) (in_atom q s ranks w wider [] e (desugar s false e) (kept false e scope wider i p r.0 1 k.1)) (λ v j x
        g. in_then q v (λ sc vs. (core_rules.first_values q sc (and_first before xs) (others xs) vs ≡ Ok tt) × HasAll q (count es) sc vs) (λ sc vs.
        (core_rules.first_values q sc before xs vs ≡ Ok tt) × HasAll q (suc (count es)) sc vs) (desugar_atoms s es) (λ vs. made (core.More x vs)) (atoms_kept es
        (others xs) (and_first before xs) scope v (includes_then scope wider v i j) p r.1 (each_other P xs f) k.2) (λ u l vs t. in_made q u (λ sc vs.
        (core_rules.first_values q sc before xs vs ≡ Ok tt) × HasAll q (suc (count es)) sc vs) (core.More x vs) (
          rw (first_new q a before xs f k.0) (rw (wide q v u l x 1 g) t.0),
          more_has q 1 (count es) u x vs (wide q v u l x 1 g) t.1 ∙ ap (λ (k : ℕ). Ok k) (omega arith),
        )))

    all_kept : (es : Exprs) (scope wider : List Name) → Includes scope wider → Apart a scope → ReadyAll P Q s es → (n : ℕ) → list_values a scope es ≡ Ok n
        → MakesIn q wider (HasAll q n) (desugar_all s es)
    all_kept (One e) scope wider i p r n h = in_then q wider (Has q n) (HasAll q n) (desugar s false e) (λ x. made (core.One x)) (kept false e scope wider i p r n h)
        (λ v j x g. in_made q v (HasAll q n) (core.One x) g)
    all_kept (More e es) scope wider i p r n h =
        let k = in_more a scope e es n h in
        subst (λ (n : ℕ). MakesIn q wider (HasAll q n) (desugar_all s (More e es))) k.4 (in_then q wider (Has q k.0) (HasAll q (k.0 + k.1)) (desugar s false e) (λ x.
        desugar_all s es >>= (λ vs. made (core.More x vs))) (kept false e scope wider i p r.0 k.0 k.2) (λ v j x g. in_then q v (HasAll q k.1) (HasAll q (k.0 + k.1))
        (desugar_all s es) (λ vs. made (core.More x vs)) (all_kept es scope v (includes_then scope wider v i j) p r.1 k.1 k.3) (λ u l vs t. in_made q u (HasAll q
        (k.0 + k.1)) (core.More x vs) (more_has q k.0 k.1 u x vs (wide q v u l x k.0 g) t))))

    values_kept : (es : Exprs) (scope wider : List Name) → Includes scope wider → Apart a scope → ReadyAll P Q s es → (rs : List ℕ) → argument_ranks a scope es ≡ Ok
        rs → MakesIn q wider (HasSome q (zeros rs)) (desugar_values s es)
    values_kept (One e) scope wider i p r rs h = values_one q s ranks scope wider e rs (passes s ranks w.arrays_are e) h (λ n g. kept false e scope wider i p r n g)
    values_kept (More e es) scope wider i p r rs h = values_more q s ranks scope wider e es rs (passes s ranks w.arrays_are e) h (λ n g. kept false e scope wider i p r.0 n g)
        (λ v j ms g. values_kept es scope v (includes_then scope wider v i j) p r.1 ms g)

    first_kept : (es : Exprs) (scope wider : List Name) → Includes scope wider → Apart a scope → ReadyAll P Q s es → list_values a scope es ≡ Ok 1 → In q wider
        (desugar_first s es)
    first_kept (One e) scope wider i p r h = in_atom q s ranks w wider [] e (desugar s false e) (kept false e scope wider i p r 1 h)
    first_kept (More e es) scope wider i p r h =
        let k = in_more a scope e es 1 h in
        absurd (omega (arith, k.4, positive a has_results scope e k.0 k.2, list_positive a has_results scope es k.1 k.3))

    pair_kept : (es : Exprs) (at : ℕ) (scope wider : List Name) → Includes scope wider → Apart a scope → ReadyAll P Q s es → list_values a scope es ≡ Ok 2 → MakesIn
        q wider (HasTwo q) (desugar_pair s at es)
    pair_kept (One e) at scope wider i p r h = two_hidden q s ranks w wider at (desugar s false e) (kept false e scope wider i p r 2 h)
    pair_kept (More e es) at scope wider i p r h =
        let k = in_more a scope e es 2 h in
        let some = positive a has_results scope e k.0 k.2 in
        let others = list_positive a has_results scope es k.1 k.3 in
        let one : k.0 ≡ 1 = omega (arith, k.4, some, others) in
        let last : k.1 ≡ 1 = omega (arith, k.4, some, others) in
        in_then q wider (Has q 1) (HasTwo q) (atom s [] e (desugar s false e)) (λ x. desugar_first s es >>= (λ y. made (x, y))) (in_atom q s ranks w wider [] e (desugar
        s false e) (kept false e scope wider i p r.0 1 (k.2 ∙ ap (λ (m : ℕ). Ok m) one))) (λ v j x g. in_then q v (Has q 1) (HasTwo q) (desugar_first s es) (λ y. made
        (x, y)) (first_kept es scope v (includes_then scope wider v i j) p r.1 (k.3 ∙ ap (λ (m : ℕ). Ok m) last)) (λ u l y t. in_made q u (HasTwo q) (x, y) (
          wide q v
              u l x 1 g,
          t,
        )))

    index_kept : (es : Exprs) (at : ℕ) (lengths : List ℕ) (scope wider : List Name) → Includes scope wider → Apart a scope → ReadyAll P Q s es → (n : ℕ)
        → index_values a scope es ≡ Ok n → In q wider (desugar_index s at lengths es)
    index_kept (One e) at lengths scope wider i p r n h = kept false e scope wider i p r 1 (in_index a scope e n h).0
    index_kept (More e es) at lengths scope wider i p r n h =
        let k = in_indexes a scope e es n h in
        in_then q wider (Has q 1) (Has q 1) (atom s [] e (desugar s false e)) (λ x. desugar_rows s at (others_of lengths) x None es) (in_atom q s ranks w wider [] e
        (desugar s false e) (kept false e scope wider i p r.0 1 k.0)) (λ v j x g. rows_kept es at (others_of lengths) x None scope v (includes_then scope wider v i j) p
        r.1 k.1 k.2 g tt)

    rows_kept : (es : Exprs) (at : ℕ) (lengths : List ℕ) (x : core.Expr) (checks : Option core.Expr) (scope wider : List Name) → Includes scope wider → Apart a scope
        → ReadyAll P Q s es → (n : ℕ) → index_values a scope es ≡ Ok n → Has q 1 wider x → HasIfThere q wider checks → In q wider (desugar_rows s at lengths x checks es)
    rows_kept (One e) at lengths x checks scope wider i p r n h g c =
        let k = in_index a scope e n h in
        let number : core.Expr = core.Number at (first_or_zero lengths) in
        let check : core.Expr → core.Expr → core.Expr = λ m y. some_other at (is_other_row at y m x) checks in
        in_then q wider (Has q 1) (Has q 1) (bound_to s.prefix at number) (λ m. desugar s false e >>= (λ j. bound_to s.prefix at (row at x m j) >>= (λ y. made
        (checked_index at y (check m y))))) (in_bound q wider s.prefix at number w.hidden_new refl) (λ v1 i1 m g1. in_then q v1 (Has q 1) (Has q 1) (desugar s false e)
        (λ j. bound_to s.prefix at (row at x m j) >>= (λ y. made (checked_index at y (check m y)))) (kept false e scope v1 (includes_then scope wider v1 i i1) p r 1
        k.0) (λ v2 i2 j g2. let x2 = wide q wider v2 (includes_then wider v1 v2 i1 i2) x 1 g in let m2 = wide q v1 v2 i2 m 1 g1 in in_then q v2 (Has q 1) (Has q 1)
        (bound_to s.prefix at (row at x m j)) (λ y. made (checked_index at y (check m y))) (in_bound q v2 s.prefix at (row at x m j) w.hidden_new (row_has q v2 at x m
        j x2 m2 g2)) (λ v3 i3 y g3. let all = includes_then wider v1 v3 i1 (includes_then v1 v2 v3 i2 i3) in in_made q v3 (Has q 1) (checked_index at y (check m y))
        (checked_has q v3 at y (check m y) g3 (other_has q v3 at y m x checks g3 (wide q v2 v3 i3 m 1 m2) (wide q v2 v3 i3 x 1 x2) (if_there_wide q wider v3 all checks
        c))))))
    rows_kept (More e es) at lengths x checks scope wider i p r n h g c =
        let k = in_indexes a scope e es n h in
        let number : core.Expr = core.Number at (first_or_zero lengths) in
        let check : core.Expr → core.Expr → core.Expr = λ m y. some_other at (is_other_row at y m x) checks in
        in_then q wider (Has q 1) (Has q 1) (bound_to s.prefix at number) (λ m. desugar s false e >>= (λ j. bound_to s.prefix at (row at x m j) >>= (λ y. desugar_rows s
        at (others_of lengths) y (Some (check m y)) es))) (in_bound q wider s.prefix at number w.hidden_new refl) (λ v1 i1 m g1. in_then q v1 (Has q 1) (Has q 1)
        (desugar s false e) (λ j. bound_to s.prefix at (row at x m j) >>= (λ y. desugar_rows s at (others_of lengths) y (Some (check m y)) es)) (kept false e scope v1
        (includes_then scope wider v1 i i1) p r.0 1 k.0) (λ v2 i2 j g2. let x2 = wide q wider v2 (includes_then wider v1 v2 i1 i2) x 1 g in let m2 = wide q v1 v2 i2 m
        1 g1 in in_then q v2 (Has q 1) (Has q 1) (bound_to s.prefix at (row at x m j)) (λ y. desugar_rows s at (others_of lengths) y (Some (check m y)) es) (in_bound q
        v2 s.prefix at (row at x m j) w.hidden_new (row_has q v2 at x m j x2 m2 g2)) (λ v3 i3 y g3. let all = includes_then wider v1 v3 i1 (includes_then v1 v2 v3 i2
        i3) in rows_kept es at (others_of lengths) y (Some (check m y)) scope v3 (includes_then scope wider v3 i all) p r.1 k.1 k.2 g3 (other_has q v3 at y m x checks
        g3 (wide q v2 v3 i3 m 1 m2) (wide q v2 v3 i3 x 1 x2) (if_there_wide q wider v3 all checks c)))))

    pub body_kept : (body : Body) (scope wider : List Name) → Includes scope wider → Apart a scope → ReadyBody P Q s body → (n : ℕ) → body_values a scope body ≡ Ok n
        → Closed (HasBody q n wider) (desugar_body s body)
    body_kept (Let at targets es rest) scope wider i p r n h =
        let k = in_let a scope at targets es rest n h in
        let new : TargetsNew q a targets [] scope = targets_are_new q a [] scope targets r.0 k.0 p in
        let bound : List Name = bound_by targets in
        closed_enclosed q n wider (desugar_all s es >>= (λ vs. desugar_body s rest >>= (λ body. made (core.Let at targets vs body)))) (in_then q wider (HasAll q
        (length targets)) (HasBody q n) (desugar_all s es) (λ vs. desugar_body s rest >>= (λ body. made (core.Let at targets vs body))) (all_kept es scope wider i p r.1
        (length targets) k.1) (λ v j vs g. then_closed q v (HasBody q n (bound ++ v)) (HasBody q n) (desugar_body s rest) (λ body. made (core.Let at targets vs body))
        (body_kept rest (bound ++ scope) (bound ++ v) (behind_same bound scope v (includes_then scope wider v i j)) new.apart r.2 n k.2) (λ body t. in_made q v (HasBody
        q n) (core.Let at targets vs body) (rw new.core (rw g (rw (equal_itself (length targets)) t))))))
    body_kept (Do es rest) scope wider i p r n h =
        let k = in_do a scope es rest n h in
        closed_enclosed q n wider (desugar_all s es >>= (λ vs. desugar_body s rest >>= (λ body. made (core.Do vs body)))) (in_then q wider (HasAll q k.0) (HasBody q n)
        (desugar_all s es) (λ vs. desugar_body s rest >>= (λ body. made (core.Do vs body))) (all_kept es scope wider i p r.0 k.0 k.1) (λ v j vs g. then_closed q v
        (HasBody q n v) (HasBody q n) (desugar_body s rest) (λ body. made (core.Do vs body)) (body_kept rest scope v (includes_then scope wider v i j) p r.1 n k.2) (λ
        body t. in_made q v (HasBody q n) (core.Do vs body) (rw g t))))
    body_kept (When tests rest) scope wider i p r n h =
        let k = in_when a scope tests rest n h in
        closed_enclosed q n wider (desugar_tests s tests >>= (λ e. desugar_body s rest >>= (λ body. made (core.Do (core.One e) body)))) (in_then q wider (Has q 1)
        (HasBody q n) (desugar_tests s tests) (λ e. desugar_body s rest >>= (λ body. made (core.Do (core.One e) body))) (tests_kept tests scope wider i p r.0 k.0) (λ v
        j e g. then_closed q v (HasBody q n v) (HasBody q n) (desugar_body s rest) (λ body. made (core.Do (core.One e) body)) (body_kept rest scope v (includes_then
        scope wider v i j) p r.1 n k.1) (λ body t. in_made q v (HasBody q n) (core.Do (core.One e) body) (rw g t))))
    body_kept (Give es) scope wider i p r n h = closed_enclosed q n wider (desugar_all s es >>= (λ vs. made (core.Give vs))) (in_then q wider (HasAll q n) (HasBody q n)
        (desugar_all s es) (λ vs. made (core.Give vs)) (all_kept es scope wider i p r n h) (λ v j vs g. in_made q v (HasBody q n) (core.Give vs) g))
    body_kept (Chain e) scope wider i p r n h = closed_otherwise q n wider (desugar s false e) (kept false e scope wider i p r n h)

    tests_kept : (tests : Tests) (scope wider : List Name) → Includes scope wider → Apart a scope → ReadyTests P Q s tests → tests_values a scope tests ≡ Ok tt → In q
        wider (desugar_tests s tests)
    tests_kept (Last at c arm) scope wider i p r h =
        let k = in_last a scope at c arm h in
        in_then q wider (Has q 1) (Has q 1) (atom s [] c (desugar s false c)) (λ x. desugar_body s arm >>= (λ left. made (core.If at x (giving (core.One x) left)
        (core.Give (core.One x))))) (in_atom q s ranks w wider [] c (desugar s false c) (kept false c scope wider i p r.0 1 k.0)) (λ v j x g. then_closed q v (HasBody q
        k.1 v) (Has q 1) (desugar_body s arm) (λ left. made (core.If at x (giving (core.One x) left) (core.Give (core.One x)))) (body_kept arm scope v (includes_then
        scope wider v i j) p r.1 k.1 k.2) (λ left t. in_made q v (Has q 1) (core.If at x (giving (core.One x) left) (core.Give (core.One x))) (if_has q 1 v at x
        (giving (core.One x) left) (core.Give (core.One x)) g (giving_has q 1 k.1 v (core.One x) left (λ u l. wide q v u l x 1 g) t) g)))
    tests_kept (Else at c arm more) scope wider i p r h =
        let k = in_else a scope at c arm more h in
        in_then q wider (Has q 1) (Has q 1) (atom s [] c (desugar s false c)) (λ x. desugar_body s arm >>= (λ left. otherwise (desugar_tests s more) >>= (λ right. made
        (core.If at x (giving (core.One x) left) right)))) (in_atom q s ranks w wider [] c (desugar s false c) (kept false c scope wider i p r.0 1 k.0)) (λ v j x g.
        then_closed q v (HasBody q k.1 v) (Has q 1) (desugar_body s arm) (λ left. otherwise (desugar_tests s more) >>= (λ right. made (core.If at x (giving (core.One
        x) left) right))) (body_kept arm scope v (includes_then scope wider v i j) p r.1 k.1 k.2) (λ left t. then_closed q v (HasBody q 1 v) (Has q 1) (otherwise
        (desugar_tests s more)) (λ right. made (core.If at x (giving (core.One x) left) right)) (closed_otherwise q 1 v (desugar_tests s more) (tests_kept more scope v
        (includes_then scope wider v i j) p r.2 k.3)) (λ right y. in_made q v (Has q 1) (core.If at x (giving (core.One x) left) right) (if_has q 1 v at x (giving
        (core.One x) left) right g (giving_has q 1 k.1 v (core.One x) left (λ u l. wide q v u l x 1 g) t) y))))

    turn_kept : (turn : Turn) (scope wider : List Name) → Includes scope wider → Apart a scope → ReadyTurn P Q s turn → (n : ℕ) → turn_values a scope turn ≡ Ok n
        → Closed (λ t. (core.names_of t ≡ names_of turn) × (core_rules.turn_values q wider t ≡ Ok n)) (desugar_turn s turn)
    turn_kept (Before xs c body) scope wider i p r n h =
        let k = in_before a scope xs c body n h in
        closed_then (Has q 1 wider) (λ t. (core.names_of t ≡ xs) × (core_rules.turn_values q wider t ≡ Ok n)) (tested (place_of c) (desugar s true c)) (λ x.
        desugar_body s body >>= (λ b. made (core.Before xs x b))) (closed_tested q wider (place_of c) (desugar s true c) (kept true c scope wider i p r.0 1 k.0)) (λ x
        g. closed_then (HasBody q n wider) (λ t. (core.names_of t ≡ xs) × (core_rules.turn_values q wider t ≡ Ok n)) (desugar_body s body) (λ b. made (core.Before xs x
        b)) (body_kept body scope wider i p r.1 n k.1) (λ b t m. (refl, (refl, rw g t))))
    turn_kept (After xs body c) scope wider i p r n h =
        let k = in_after a scope xs body c n h in
        closed_then (HasBody q n wider) (λ t. (core.names_of t ≡ xs) × (core_rules.turn_values q wider t ≡ Ok n)) (desugar_body s body) (λ b. tested (place_of c)
        (desugar s true c) >>= (λ x. made (core.After xs b x))) (body_kept body scope wider i p r.0 n k.0) (λ b g. closed_then (Has q 1 wider) (λ t. (core.names_of t ≡
        xs) × (core_rules.turn_values q wider t ≡ Ok n)) (tested (place_of c) (desugar s true c)) (λ x. made (core.After xs b x)) (closed_tested q wider (place_of c)
        (desugar s true c) (kept true c scope wider i p r.1 1 k.1)) (λ x t m. (refl, (refl, rw g (rw t refl)))))
