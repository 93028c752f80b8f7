-- So a good program of the core is good with derived forms.
use Rattle.std.specs.Prelude.{◌≡◌, ℕ, ◌==◌, true, List, [], ◌∷◌, map, is_some, option_map, Option, None, Some, Ok, ⊤, refl}
use Rattle.std.proofs.Common.{ap}
use Rattle.source.specs.declared.fault.FaultKind.TheVariants.{Arity, NoMain}
use Rattle.source.specs.Tree as core
use Rattle.source.specs.Tree.{Name, NameAt, NumberAt}
use Rattle.source.specs.Outside.{bare}
use Rattle.source.specs.First.{◌>>=◌, must}
use Rattle.source.specs.Fits.{FitsProgram}
use Rattle.source.specs.Rules as core_rules
use Rattle.source.specs.Rules.{no_items, main_name, function_in, written_or_one}
use Rattle.source.proofs.Steps.{then_ok, must_ok}
use Rattle.surface.specs.Known.{Known, nothing}
use Rattle.surface.specs.Rules.{param_names, value_params, array_params, results_in, functions_checked, checked}
use Rattle.surface.specs.Embedded.{written, value_param, embedded}
use Rattle.law_surface.proofs.EmbeddedRules.{Matches, names_new, body_same}
use Rattle.law_surface.proofs.EmbeddedHeads.{Good, all_grown, begun, all_good_heads, heads_are, matches}

names_back : (ps : List NameAt) → param_names (map value_param ps) ≡ ps
names_back [] = refl
names_back (p ∷ ps) = ap (λ (xs : List NameAt). p ∷ xs) (names_back ps)

pub values_back : (ps : List NameAt) → value_params (map value_param ps) ≡ ps
values_back [] = refl
values_back (p ∷ ps) = ap (λ (xs : List NameAt). p ∷ xs) (values_back ps)

no_arrays : (ps : List NameAt) → array_params (map value_param ps) ≡ []
no_arrays [] = refl
no_arrays (p ∷ ps) = no_arrays ps

results_back : (k : Known) (n : Option NumberAt) → results_in k (option_map written n) ≡ written_or_one n
results_back k None = refl
results_back k (Some n) = refl

-- the body of a function that keeps the rules
pub record BodyGood (p : core.Program) (f : core.Function) : Type 0 where
  pub names : core_rules.new_names p [] f.params ≡ Ok tt
  pub count : ℕ
  pub values : core_rules.body_values p (bare f.params) f.body ≡ Ok count
  pub results : (count == written_or_one f.results) ≡ true

pub body_good : (p : core.Program) (f : core.Function) (t : ⊤) → core_rules.function_checked p f ≡ Ok t → BodyGood p f
body_good p f t h =
    let s = then_ok (core_rules.new_names p [] f.params) (λ new. core_rules.body_values p (bare f.params) f.body >>= (λ n. must (n == written_or_one
    f.results) Arity f.body_at)) t h in
    let u = then_ok (core_rules.body_values p (bare f.params) f.body) (λ n. must (n == written_or_one f.results) Arity f.body_at) t s.2 in
    record { names = s.1; count = u.0; values = u.1; results = must_ok (u.0 == written_or_one f.results) Arity f.body_at t u.2 }

functions_same : (p : core.Program) (k : Known) (m : Matches p k) (items : core.Program) (t : ⊤) → core_rules.functions_checked p items ≡ Ok t
    → functions_checked k (embedded items) ≡ Ok tt
functions_same p k m [] t h = refl
functions_same p k m (core.Cells x len ∷ items) t h = functions_same p k m items t h
functions_same p k m (core.Defines f ∷ items) t h =
    let s = then_ok (core_rules.function_checked p f) (λ good. core_rules.functions_checked p items) t h in
    let b : BodyGood p f = body_good p f s.0 s.1 in
    rw (names_back f.params) (rw (names_new p k m [] f.params tt b.names) (rw (no_arrays f.params) (rw (values_back f.params)
    (rw (body_same p k m (bare f.params) f.body b.count b.values) (rw (results_back k f.results) (rw b.results
    (functions_same p k m items t s.2)))))))

-- what a good program has
pub record GoodParts (p : core.Program) : Type 0 where
  pub heads : Good nothing p
  pub main : is_some (function_in p main_name) ≡ true
  pub functions : core_rules.functions_checked p p ≡ Ok tt

pub good_parts : (p : core.Program) (end : ℕ) → FitsProgram p → core_rules.checked end p ≡ Ok tt → GoodParts p
good_parts p end fits h =
    let s = then_ok (core_rules.heads no_items p) (λ all. must (is_some (function_in p main_name)) NoMain end >>= (λ main. core_rules.functions_checked p p))
    tt h in
    let u = then_ok (must (is_some (function_in p main_name)) NoMain end) (λ main. core_rules.functions_checked p p) tt s.2 in
    record {
      heads = all_good_heads no_items nothing begun p s.0 fits s.1;
      main = must_ok (is_some (function_in p main_name)) NoMain end u.0 u.1;
      functions = u.2;
    }

some_there : (o : Option core.Function) → is_some o ≡ true → (g : core.Function) × (o ≡ Some g)
some_there None h = cc
some_there (Some g) h = (g, refl)

pub checked_same : (p : core.Program) (end : ℕ) → GoodParts p → checked end (embedded p) ≡ Ok tt
checked_same p end good =
    let m : Matches p (all_grown nothing p) = matches p good.heads in
    let main = some_there (function_in p main_name) good.main in
    rw (heads_are nothing p good.heads) (rw (m.functions main_name main.0 main.1) (functions_same p (all_grown nothing p) m p tt good.functions))
