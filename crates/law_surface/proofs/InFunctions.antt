-- A FUNCTION of a good program under a name of the core, where its parameters stand for these arrays, keeps the core's rules.
use Rattle.std.specs.Prelude.{◌≡◌, ℕ, zero, suc, ◌+◌, ◌≤◌, ◌⊎◌, ◌==◌, ◌&&◌, ◌||◌, not, nat_le, nat_lt, Bool, true, false, List, [], ◌∷◌, ◌++◌, map, length, is_some}
use Rattle.std.specs.Prelude.{Option, None, Some, Result, Ok, refl, ⊤, if◌then◌else◌}
use Rattle.std.proofs.Common.{sym, ◌∙◌, ap, subst, arith, inl, inr, eqb-true}
use Rattle.lemmas.proofs.Bools.{equal_itself, or_true}
use Rattle.lemmas.proofs.Permutations.{Each}
use Rattle.semantics.specs.Graph.{same_name}
use Rattle.semantics.proofs.Lines.{same_name_is, same_name_itself}
use Rattle.source.specs.declared.fault.FaultKind.TheVariants.{Arity}
use Rattle.source.specs.declared.token.Keyword.TheVariants as core_word
use Rattle.source.specs.declared.token.Sign.TheVariants as core_sign
use Rattle.source.specs.Tree as core
use Rattle.source.specs.Tree.{Name, NameAt}
use Rattle.source.specs.Outside.{is_in, bare}
use Rattle.source.specs.Rules as core_rules
use Rattle.source.specs.Rules.{written_or_one}
use Rattle.surface.specs.declared.fault.FaultKind.TheVariants.{Core}
use Rattle.surface.specs.Tree.{Param, Function}
use Rattle.surface.specs.First.{◌>>=◌, must_be}
use Rattle.surface.specs.Fits.{FitsBody}
use Rattle.surface.specs.Spelled.{Spelling, comma_and, rank_tokens, params_tokens, body_tokens}
use Rattle.surface.specs.Known.{Known, lookup, some_or, all_values, some_value}
use Rattle.surface.specs.Rules.{Around, ranks, rank_in, rank_of, no_values, new_name, new_names, param_names, value_params, array_params, results_in, body_values, function_checked}
use Rattle.surface.specs.Desugar.{Setting, array_for, is_array, desugar_body}
use Rattle.surface.specs.Instances.{Wanted, arrays_for, in_function, body_wanted}
use Rattle.surface.specs.Desugared.{core_results, core_function}
use Rattle.law_surface.proofs.Steps.{then_ok, must_ok}
use Rattle.law_surface.proofs.WiderScope.{Includes, behind_same}
use Rattle.law_surface.proofs.RulesMade.{NoItem, HasBody, Closed}
use Rattle.law_surface.proofs.CoreLoops.{IsNew}
use Rattle.law_surface.proofs.Ready.{AllSaid, said_back, ReadyBody}
use Rattle.law_surface.proofs.Surroundings.{around, zeros, Fresh, HasInstance, ArraysAre, Surroundings, Apart, NameIsNew, name_is_new, new_in_core, neither}
use Rattle.law_surface.proofs.PartsKeepRules.{body_kept}
use Rattle.law_surface.proofs.WantedWell.{nonzeros, AllArrays, ArraysThere}
use Rattle.law_surface.proofs.SurfaceHeads.{results_same}

-- PARAMETERS for arrays, and these
no_arrays : (ps : List Param) → arrays_for ps [] ≡ []
no_arrays [] = refl
no_arrays (p ∷ ps) = refl

values_first : (p : Param) (ps : List Param) (xs : List Name) → (p.rank == 0) ≡ true → arrays_for (p ∷ ps) xs ≡ arrays_for ps xs
values_first p ps [] e = sym (no_arrays ps)
values_first p ps (x ∷ xs) e = ap (λ (b : Bool). if b then arrays_for ps (x ∷ xs) else (p.name.name, x) ∷ arrays_for ps xs) e

arrays_first : (p : Param) (ps : List Param) (x : Name) (xs : List Name) → (p.rank == 0) ≡ false → arrays_for (p ∷ ps) (x ∷ xs) ≡ (p.name.name, x) ∷ arrays_for ps xs
arrays_first p ps x xs e = ap (λ (b : Bool). if b then arrays_for ps (x ∷ xs) else (p.name.name, x) ∷ arrays_for ps xs) e

-- each parameter for an array stands for one of them
abbrev Stand : Known → List (Name × ℕ) → List (Name × Name) → Type 0
Stand known ns xs = (y : Name) → (is_some (lookup ns y) ≡ is_some (lookup xs y)) × ((n : ℕ) → lookup ns y ≡ Some n → (n == 0) ≡ false) × ((x : Name) → lookup xs y ≡ Some
    x → is_some (lookup known.arrays x) ≡ true)

stand_and : (known : Known) (p : Param) (ns : List (Name × ℕ)) (x : Name) (xs : List (Name × Name)) → (p.rank == 0) ≡ false → is_some (lookup known.arrays x) ≡ true → Stand
    known ns xs → Stand known ((p.name.name, p.rank) ∷ ns) ((p.name.name, x) ∷ xs)
stand_and known p ns x xs e there h y = go (same_name y p.name.name)
  where
    go : (b : Bool) → (is_some (if b then Some p.rank else lookup ns y) ≡ is_some (if b then Some x else lookup xs y)) × ((n : ℕ) → (if b then Some p.rank else lookup ns y)
        ≡ Some n → (n == 0) ≡ false) × ((z : Name) → (if b then Some x else lookup xs y) ≡ Some z → is_some (lookup known.arrays z) ≡ true)
    go true = (
      refl,
      (λ n i. let same : p.rank ≡ n = cc in subst (λ (n : ℕ). (n == 0) ≡ false) same e),
      (λ z i. let same : x ≡ z = cc in subst (λ (z : Name). is_some (lookup known.arrays z) ≡ true) same there),
    )
    go false = h y

stand : (known : Known) (ps : List Param) (xs : List Name) → length xs ≡ nonzeros (ranks ps) → AllArrays known xs → Stand known (array_params ps) (arrays_for ps xs)
stand known [] xs l h = λ y. (refl, (λ n e. cc), (λ x e. cc))
stand known (p ∷ ps) xs l h = go (p.rank == 0) refl xs l h (λ xs l h. stand known ps xs l h)
  where
    first : (b : Bool) → (p.rank == 0) ≡ b → array_params (p ∷ ps) ≡ (if b then array_params ps else (p.name.name, p.rank) ∷ array_params ps)
    first b e = ap (λ (b : Bool). if b then array_params ps else (p.name.name, p.rank) ∷ array_params ps) e

    count : (b : Bool) → (p.rank == 0) ≡ b → nonzeros (ranks (p ∷ ps)) ≡ (if b then 0 else 1) + nonzeros (ranks ps)
    count b e = ap (λ (b : Bool). (if b then 0 else 1) + nonzeros (ranks ps)) e

    go : (b : Bool) → (p.rank == 0) ≡ b → (xs : List Name) → length xs ≡ nonzeros (ranks (p ∷ ps)) → AllArrays known xs → ((xs : List Name) → length xs ≡ nonzeros (ranks
        ps) → AllArrays known xs → Stand known (array_params ps) (arrays_for ps xs)) → Stand known (array_params (p ∷ ps)) (arrays_for (p ∷ ps) xs)
    go true e xs l h later =
        let rest = later xs (omega (arith, l, count true e)) h in
        subst (λ (ns : List (Name × ℕ)). Stand known ns (arrays_for (p ∷ ps) xs)) (sym (first true e)) (subst (λ (ys : List (Name × Name)). Stand known (array_params ps)
        ys) (sym (values_first p ps xs e)) rest)
    go false e [] l h later = absurd (omega (arith, l, count false e))
    go false e (x ∷ xs) l h later =
        let rest = later xs (omega (arith, l, count false e)) h.1 in
        subst (λ (ns : List (Name × ℕ)). Stand known ns (arrays_for (p ∷ ps) (x ∷ xs))) (sym (first false e)) (subst (λ (ys : List (Name × Name)). Stand known ((
          p.name.name,
          p.rank,
        ) ∷ array_params ps) ys) (sym (arrays_first p ps x xs e)) (stand_and known p (array_params ps) x (arrays_for ps xs) e h.0 rest))

some_rank : (o : Option ℕ) (ns : Option (List ℕ)) → is_some (rank_in o ns) ≡ (is_some o || is_some ns)
some_rank (Some n) ns = refl
some_rank None None = refl
some_rank None (Some ns) = refl

-- each array of the program has a dimension
abbrev pub HaveDimensions : Known → Type 0
HaveDimensions known = (x : Name) (ns : List ℕ) → lookup known.arrays x ≡ Some ns → 1 ≤ length ns

not_zero : (n : ℕ) → 1 ≤ n → (n == 0) ≡ false
not_zero n h = go (n == 0) refl
  where
    go : (b : Bool) → (n == 0) ≡ b → (n == 0) ≡ false
    go true e = absurd (omega (arith, h, eqb-true n 0 e))
    go false e = e

rank_found : (o : Option ℕ) (ns : Option (List ℕ)) (n : ℕ) → ((m : ℕ) → o ≡ Some m → (m == 0) ≡ false) → ((ms : List ℕ) → ns ≡ Some ms → 1 ≤ length ms) → rank_in o ns ≡ Some n →
    (n == 0) ≡ false
rank_found (Some m) ns n h g e = let same : m ≡ n = cc in subst (λ (n : ℕ). (n == 0) ≡ false) same (h m refl)
rank_found None None n h g e = cc
rank_found None (Some ms) n h g e =
    let same : length ms ≡ n = cc in subst (λ (n : ℕ). (n == 0) ≡ false) same (not_zero (length ms) (g ms refl))

array_found : (known : Known) (x : Name) (o : Option Name) → ((y : Name) → o ≡ Some y → is_some (lookup known.arrays y) ≡ true) → (is_some o || is_some (lookup known.arrays
    x)) ≡ true → is_some (lookup known.arrays (some_or x o)) ≡ true
array_found known x (Some y) h e = h y refl
array_found known x None h e = e

pub arrays_there : (s : Setting) (ps : List Param) (xs : List Name) → HaveDimensions s.known → length xs ≡ nonzeros (ranks ps) → AllArrays s.known xs → ArraysThere
    (in_function s (arrays_for ps xs)) (array_params ps)
arrays_there s ps xs d l h =
    let all : Stand s.known (array_params ps) (arrays_for ps xs) = stand s.known ps xs l h in
    record {
      arrays_are = record {
        same = λ x. some_rank (lookup (array_params ps) x) (lookup s.known.arrays x) ∙ ap (λ (b : Bool). b || is_some (lookup s.known.arrays x)) (all x).0;
        ranked = λ x n e. rank_found (lookup (array_params ps) x) (lookup s.known.arrays x) n (all x).1 (d x) e;
      };
      there = λ x e. array_found s.known x (lookup (arrays_for ps xs) x) (all x).2 e;
    }

-- NAMES of parameters
abbrev items_alone : Known → Around
items_alone known = record { known = known; arrays = [] }

or_second : (a b : Bool) → (a || b) ≡ false → b ≡ false
or_second true b h = cc
or_second false b h = h

or_first : (a b : Bool) → (a || b) ≡ false → a ≡ false
or_first true b h = cc
or_first false b h = refl

or_later : (a b c : Bool) → (b ≡ true → c ≡ true) → (a || b) ≡ true → (a || c) ≡ true
or_later true b c h e = refl
or_later false b c h e = h e

same_there : (x y : Name) (names : List Name) → same_name y x ≡ true → is_in y (x ∷ names) ≡ true
same_there x y names e = ap (λ (b : Bool). b || is_in y names) e

-- a later name is none before
later_name : (known : Known) (before : List Name) (xs : List NameAt) → new_names (items_alone known) before xs ≡ Ok tt → (y : Name) → is_in y (bare xs) ≡ true → (is_in y
    before ≡ false) × (is_in y known.names ≡ false)
later_name known before [] h y m = cc
later_name known before (x ∷ xs) h y m =
    let s = then_ok (new_name (items_alone known) before x) (λ new. new_names (items_alone known) (x.name ∷ before) xs) tt h in
    go (same_name y x.name) refl m (name_is_new (items_alone known) before x s.0 s.1) (λ e. later_name known (x.name ∷ before) xs s.2 y e)
  where
    go : (b : Bool) → same_name y x.name ≡ b → (b || is_in y (bare xs)) ≡ true → NameIsNew (items_alone known) before x.name → (is_in y (bare xs) ≡ true → (is_in y (x.name ∷
        before) ≡ false) × (is_in y known.names ≡ false)) → (is_in y before ≡ false) × (is_in y known.names ≡ false)
    go true e m n later = (
      ap (λ (z : Name). is_in z before) (same_name_is y x.name e) ∙ n.again,
      ap (λ (z : Name). is_in z known.names) (same_name_is y x.name e) ∙ n.item,
    )
    go false e m n later = (or_second (same_name y x.name) (is_in y before) (later m).0, (later m).1)

value_in : (ps : List Param) (y : Name) → is_in y (bare (value_params ps)) ≡ true → is_in y (bare (param_names ps)) ≡ true
value_in [] y h = h
value_in (p ∷ ps) y h = go (p.rank == 0) h (λ e. value_in ps y e)
  where
    go : (b : Bool) → is_in y (bare (if b then p.name ∷ value_params ps else value_params ps)) ≡ true → (is_in y (bare (value_params ps)) ≡ true → is_in y (bare
        (param_names ps)) ≡ true) → (same_name y p.name.name || is_in y (bare (param_names ps))) ≡ true
    go true h later = or_later (same_name y p.name.name) (is_in y (bare (value_params ps))) (is_in y (bare (param_names ps))) later h
    go false h later = ap (λ (b : Bool). same_name y p.name.name || b) (later h) ∙ or_true (same_name y p.name.name)

abbrev keys : List (Name × ℕ) → List Name
keys entries = map (λ (entry : Name × ℕ). entry.0) entries

array_in_names : (ps : List Param) (y : Name) → is_in y (keys (array_params ps)) ≡ true → is_in y (bare (param_names ps)) ≡ true
array_in_names [] y h = h
array_in_names (p ∷ ps) y h = go (p.rank == 0) h (λ e. array_in_names ps y e)
  where
    go : (b : Bool) → is_in y (keys (if b then array_params ps else (p.name.name, p.rank) ∷ array_params ps)) ≡ true → (is_in y (keys (array_params ps)) ≡ true → is_in y (bare
        (param_names ps)) ≡ true) → (same_name y p.name.name || is_in y (bare (param_names ps))) ≡ true
    go true h later = ap (λ (b : Bool). same_name y p.name.name || b) (later h) ∙ or_true (same_name y p.name.name)
    go false h later = or_later (same_name y p.name.name) (is_in y (keys (array_params ps))) (is_in y (bare (param_names ps))) later h

not_both : (ps : List Param) (y : Name) (b : Bool) → is_in y (keys (array_params ps)) ≡ b → (is_in y (keys (array_params ps)) ≡ true → ⊥) → is_in y (keys (array_params ps)) ≡
    false
not_both ps y true e never = absurd (never e)
not_both ps y false e never = e

value_apart : (known : Known) (before : List Name) (ps : List Param) → new_names (items_alone known) before (param_names ps) ≡ Ok tt → (y : Name) → is_in y (bare
    (value_params ps)) ≡ true → is_in y (keys (array_params ps)) ≡ false
value_apart known before [] h y m = cc
value_apart known before (p ∷ ps) h y m =
    let s = then_ok (new_name (items_alone known) before p.name) (λ new. new_names (items_alone known) (p.name.name ∷ before) (param_names ps)) tt h in
    let after : List Name = p.name.name ∷ before in
    go (p.rank == 0) m (λ e. later_name known after (param_names ps) s.2 y e) (λ e. value_apart known after ps s.2 y e)
  where
    this : (b : Bool) → same_name y p.name.name ≡ b → (b || is_in y (bare (value_params ps))) ≡ true → (is_in y (bare (param_names ps)) ≡ true → (is_in y (p.name.name ∷ before)
        ≡ false) × (is_in y known.names ≡ false)) → (is_in y (bare (value_params ps)) ≡ true → is_in y (keys (array_params ps)) ≡ false) → is_in y (keys (array_params ps)) ≡
        false
    this true e m later rest = not_both ps y (is_in y (keys (array_params ps))) refl (λ i.
        let k = (later (array_in_names ps y i)).0 in
        let there = same_there p.name.name y before e in absurd (cc))
    this false e m later rest = rest m

    go : (b : Bool) → is_in y (bare (if b then p.name ∷ value_params ps else value_params ps)) ≡ true → (is_in y (bare (param_names ps)) ≡ true → (is_in y (p.name.name ∷
        before) ≡ false) × (is_in y known.names ≡ false)) → (is_in y (bare (value_params ps)) ≡ true → is_in y (keys (array_params ps)) ≡ false) → is_in y (keys (if b then
        array_params ps else (p.name.name, p.rank) ∷ array_params ps)) ≡ false
    go true m later rest = this (same_name y p.name.name) refl m later rest
    go false m later rest =
        let k = (later (value_in ps y m)).0 in
        rw (or_first (same_name y p.name.name) (is_in y before) k) (rest m)

not_less : (less before : List Name) (x : Name) → Includes less before → is_in x before ≡ false → is_in x less ≡ false
not_less less before x i e = go (is_in x less) refl
  where
    go : (b : Bool) → is_in x less ≡ b → is_in x less ≡ false
    go true t = let there : is_in x before ≡ true = i x t in absurd (cc)
    go false t = t

params_new : (q : core.Program) (known : Known) (ps : List Param) (before less : List Name) → Includes less before → Each (Fresh q known) (bare (param_names ps)) → new_names
    (items_alone known) before (param_names ps) ≡ Ok tt → core_rules.new_names q less (value_params ps) ≡ Ok tt
params_new q known [] before less i f h = refl
params_new q known (p ∷ ps) before less i f h =
    let x : Name = p.name.name in
    let s = then_ok (new_name (items_alone known) before p.name) (λ new. new_names (items_alone known) (x ∷ before) (param_names ps)) tt h in
    let n : NameIsNew (items_alone known) before x = name_is_new (items_alone known) before p.name s.0 s.1 in
    let less_new : NameIsNew (items_alone known) less x = record { item = n.item; array = n.array; again = not_less less before x i n.again } in
    go (p.rank == 0) (new_in_core q (items_alone known) less x f.0 less_new) (params_new q known ps (x ∷ before) (x ∷ less) (behind_same (x ∷ []) less before i) f.1 s.2)
    (params_new q known ps (x ∷ before) less (λ y e. ap (λ (b : Bool). same_name y x || b) (i y e) ∙ or_true (same_name y x)) f.1 s.2)
  where
    go : (b : Bool) → IsNew q less p.name.name → core_rules.new_names q (p.name.name ∷ less) (value_params ps) ≡ Ok tt → core_rules.new_names q less (value_params ps) ≡ Ok tt
        → core_rules.new_names q less (if b then p.name ∷ value_params ps else value_params ps) ≡ Ok tt
    go true new with_it without_it = rw new with_it
    go false new with_it without_it = without_it

-- ITS BODY
pub function_kept : (q : core.Program) (s : Setting) (f : Function) (name : Name) (xs : List Name) → Surroundings q (in_function s (arrays_for f.params xs)) (array_params
    f.params) → ReadyBody (Fresh q s.known) (HasInstance q (in_function s (arrays_for f.params xs))) (in_function s (arrays_for f.params xs)) f.body → Each (Fresh q
    s.known) (bare (param_names f.params)) → function_checked s.known f ≡ Ok tt → core_rules.function_checked q (core_function s f name xs) ≡ Ok tt
function_kept q s f name xs w ready fresh h =
    let a : Around = record { known = s.known; arrays = array_params f.params } in
    let scope : List Name = bare (value_params f.params) in
    let k = then_ok (new_names (items_alone s.known) [] (param_names f.params)) (λ new. body_values a scope f.body >>= (λ n. must_be (n == results_in s.known f.results) Arity
    f.body_at)) tt h in
    let t = then_ok (body_values a scope f.body) (λ n. must_be (n == results_in s.known f.results) Arity f.body_at) tt k.2 in
    let count : (t.0 == results_in s.known f.results) ≡ true = must_ok (t.0 == results_in s.known f.results) (Core Arity) f.body_at tt t.2 in
    let apart : Apart a scope = λ y m. neither (keys (array_params f.params)) s.known.names y (value_apart s.known [] f.params k.1 y m) (later_name s.known [] (param_names
    f.params) k.1 y (value_in f.params y m)).1 in
    let params : core_rules.new_names q [] (value_params f.params) ≡ Ok tt = params_new q s.known f.params [] [] (λ y e. e) fresh k.1 in
    let inner : Setting = in_function s (arrays_for f.params xs) in
    let body : HasBody q t.0 scope (desugar_body inner f.body 0).it = (body_kept q inner (array_params f.params) w f.body scope scope (λ y e. e) apart ready t.0 t.1 0).1 in
    let all : (t.0 == written_or_one (core_results s.known f.results)) ≡ true = ap (λ (n : ℕ). t.0 == n) (sym (results_same s.known f.results)) ∙ count in
    rw params (rw body (rw all refl))

-- NAMES of its text
pub params_said : (P : Name → Type 0) (ps : List Param) → AllSaid P (params_tokens ps) → Each P (bare (param_names ps))
params_said P [] h = tt
params_said P (p ∷ []) h = (h.0, tt)
params_said P (p ∷ r ∷ ps) h =
    let t = said_back P (rank_tokens p.rank) (comma_and (params_tokens (r ∷ ps))) h.1 in (h.0, params_said P (r ∷ ps) t.1.1)
