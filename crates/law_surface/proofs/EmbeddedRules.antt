-- A program of the core that keeps its rules keeps those of derived forms.
use Rattle.std.specs.Prelude.{◌≡◌, ℕ, suc, ◌+◌, ◌==◌, ◌&&◌, not, nat_le, Bool, true, List, [], ◌∷◌}
use Rattle.std.specs.Prelude.{◌++◌, map, length, is_some, Some, Result, Ok, ⊤, refl}
use Rattle.std.proofs.Common.{sym, ◌∙◌, ap, arith, le-leb, leb-true}
use Rattle.lemmas.proofs.Bools.{equal_itself, and_true}
use Rattle.source.specs.declared.fault.FaultKind.{FaultKind as CoreKind}
use Rattle.source.specs.declared.fault.FaultKind.TheVariants.{SameName}
use Rattle.source.specs.Tree as core
use Rattle.source.specs.Tree.{Name, NameAt, NumberAt, Target, Bind, Drop}
use Rattle.source.specs.Spelled.{others}
use Rattle.source.specs.Outside.{is_in, bare, bound_by}
use Rattle.source.specs.First as core_first
use Rattle.source.specs.First.{◌>>=◌}
use Rattle.source.specs.Rules as core_rules
use Rattle.source.specs.Rules.{item_names, array_in, function_in, written_or_one, and_first}
use Rattle.source.proofs.Steps.{then_ok, must_ok, ok_same}
use Rattle.source.proofs.Kept.{known_name, in_prefix, in_infix, in_fetch, in_store, IsCalled, in_call, in_if, IsTurned, in_loop, in_more}
use Rattle.source.proofs.Kept.{in_first, in_firsts, in_let, in_do, in_before, in_after}
use Rattle.surface.specs.declared.fault.Fault.{Fault}
use Rattle.surface.specs.First.{must_be}
use Rattle.surface.specs.Known.{Known, Signature, lookup, all_values}
use Rattle.surface.specs.Rules.{Around, new_name, new_names, new_targets, new_first, values, list_values, first_values, body_values, turn_values, ranks}
use Rattle.surface.specs.Rules.{no_values}
use Rattle.surface.specs.Outside.{outside_turn}
use Rattle.surface.specs.Embedded.{embedded_expr, embedded_exprs, embedded_body, embedded_turn, value_param}
use Rattle.law_surface.proofs.EmbeddedFits.{names_are}
use Rattle.law_surface.proofs.EmbeddedUses.{no_more}

-- a function of the core, as it is known
abbrev pub core_signature : core.Function → Signature
core_signature f = record { ranks = ranks (map value_param f.params); results = written_or_one f.results }

-- WHAT IS KNOWN of the items of a program of the core
pub record Matches (p : core.Program) (k : Known) : Type 0 where
  pub names : (x : Name) → is_in x k.names ≡ is_in x (item_names p)
  pub constants : k.constants ≡ []
  pub arrays : (x : Name) → is_some (array_in p x) ≡ true → (n : ℕ) × (lookup k.arrays x ≡ Some (n ∷ []))
  pub functions : (f : Name) (g : core.Function) → function_in p f ≡ Some g → lookup k.functions f ≡ Some (core_signature g)

-- in a function, no parameter of which stands for an array
abbrev pub plainly : Known → Around
plainly k = record { known = k; arrays = [] }

pub all_are_values : (xs : List NameAt) → all_values (ranks (map value_param xs)) ≡ true
all_are_values [] = refl
all_are_values (x ∷ xs) = all_are_values xs

pub as_many : (xs : List NameAt) → length (ranks (map value_param xs)) ≡ length xs
as_many [] = refl
as_many (x ∷ xs) = ap (λ (n : ℕ). suc n) (as_many xs)

-- CHECKS
pub is_ok : (b : Bool) (kind : CoreKind) (at : ℕ) → b ≡ true → must_be b kind at ≡ Ok tt
is_ok b kind at h = rw h refl

-- what is known to be tested in the core
tested : (b : Bool) (kind : CoreKind) (at : ℕ) (t : ⊤) → core_first.must b kind at ≡ Ok t → must_be b kind at ≡ Ok tt
tested b kind at t h = is_ok b kind at (must_ok b kind at t h)

one_ok : {n : ℕ} → 1 ≡ n → Path (Result ℕ Fault) (Ok 1) (Ok n)
one_ok h = ap (λ (n : ℕ). Ok n) h

name_test : (p : core.Program) (k : Known) (m : Matches p k) (before : List Name) (x : NameAt)
    → (not (is_in x.name k.names) && true && not (is_in x.name before)) ≡ (not (is_in x.name (item_names p)) && not (is_in x.name before))
name_test p k m before x = ap (λ (b : Bool). b && not (is_in x.name before)) (and_true (not (is_in x.name k.names)))
    ∙ ap (λ (b : Bool). not b && not (is_in x.name before)) (m.names x.name)

new_is : (p : core.Program) (k : Known) (m : Matches p k) (before : List Name) (x : NameAt) (t : ⊤) → core_rules.new_name p before x ≡ Ok t
    → new_name (plainly k) before x ≡ Ok tt
new_is p k m before x t h = is_ok (not (is_in x.name k.names) && true && not (is_in x.name before)) SameName x.at (name_test p k m before x ∙ must_ok (not (is_in x.name (item_names p)) && not (is_in
    x.name before)) SameName x.at t h)

pub names_new : (p : core.Program) (k : Known) (m : Matches p k) (before : List Name) (xs : List NameAt) (t : ⊤) → core_rules.new_names p before xs ≡ Ok t
    → new_names (plainly k) before xs ≡ Ok tt
names_new p k m before [] t h = refl
names_new p k m before (x ∷ xs) t h =
    let s = then_ok (core_rules.new_name p before x) (λ new. core_rules.new_names p (x.name ∷ before) xs) t h in
    rw (new_is p k m before x s.0 s.1) (names_new p k m (x.name ∷ before) xs t s.2)

targets_new : (p : core.Program) (k : Known) (m : Matches p k) (before : List Name) (ts : List Target) (t : ⊤) → core_rules.new_targets p before ts ≡ Ok t
    → new_targets (plainly k) before ts ≡ Ok tt
targets_new p k m before [] t h = refl
targets_new p k m before (Drop ∷ ts) t h = targets_new p k m before ts t h
targets_new p k m before (Bind x ∷ ts) t h =
    let s = then_ok (core_rules.new_name p before x) (λ new. core_rules.new_targets p (x.name ∷ before) ts) t h in
    rw (new_is p k m before x s.0 s.1) (targets_new p k m (x.name ∷ before) ts t s.2)

first_new : (p : core.Program) (k : Known) (m : Matches p k) (before : List Name) (xs : List NameAt) (t : ⊤) → core_rules.new_first p before xs ≡ Ok t
    → new_first (plainly k) before xs ≡ Ok tt
first_new p k m before [] t h = refl
first_new p k m before (x ∷ xs) t h = new_is p k m before x t h

mutual
  same : (p : core.Program) (k : Known) (m : Matches p k) (scope : List Name) (e : core.Expr) (n : ℕ) → core_rules.values p scope e ≡ Ok n
      → values (plainly k) scope (embedded_expr e) ≡ Ok n
  same p k m scope (core.Number at v) n h = one_ok (ok_same 1 n h)
  same p k m scope (core.Named at x) n h =
      let s = known_name p scope at x n h in rw m.constants (rw s.0 (one_ok s.1))
  same p k m scope (core.Bracket e) n h = same p k m scope e n h
  same p k m scope (core.Prefix at op e) n h =
      let s = in_prefix p scope at op e n h in rw (same p k m scope e 1 s.0.values) (one_ok s.1)
  same p k m scope (core.Infix at sign l r) n h =
      let s = in_infix p scope at sign l r n h in rw (same p k m scope l 1 s.0.values) (rw (same p k m scope r 1 s.1.values) (one_ok s.2))
  same p k m scope (core.Fetch at a e) n h =
      let s = in_fetch p scope at a e n h in
      rw (m.arrays a s.0).1 (rw (same p k m scope e 1 s.1.values) (one_ok s.2))
  same p k m scope (core.Store at a e d) n h =
      let s = in_store p scope at a e d n h in
      rw (m.arrays a s.0).1 (rw (same p k m scope e 1 s.1.values) (rw (same p k m scope d 1 s.2.values) (one_ok s.3)))
  same p k m scope (core.Call at strict f es) n h =
      let s : IsCalled p scope f es n = in_call p scope at strict f es n h in
      rw (m.functions f s.function s.found) (rw (all_are_values s.function.params) (rw (as_many s.function.params)
      (rw (list_same p k m scope es (length s.function.params) s.arguments) (rw (equal_itself (length s.function.params))
      (ap (λ (n : ℕ). Ok n) s.results)))))
  same p k m scope (core.If at q l r) n h =
      let s = in_if p scope at q l r n h in
      rw (same p k m scope q 1 s.0.values) (rw (body_same p k m scope l n s.1) (rw (body_same p k m scope r n s.2) (rw (equal_itself n) refl)))
  same p k m scope (core.Loop at bound firsts turn) n h =
      let s : IsTurned p scope bound firsts turn n = in_loop p scope at bound firsts turn n h in
      let narrow : nat_le (length (core.names_of turn) + length (outside_turn (no_values (plainly k)) (embedded_turn turn))) 15 ≡ true =
      le-leb _ 15 (omega (arith, leb-true _ 15 s.carried, no_more (no_values (plainly k)) turn)) in
      rw s.small (rw (names_are turn) (rw (firsts_same p k m scope [] (core.names_of turn) firsts s.begun)
      (rw (turn_same p k m (bare (core.names_of turn) ++ scope) turn n s.turns) (rw (ap (λ (l : ℕ). n == l) (sym s.names) ∙ equal_itself n) (rw narrow refl)))))

  list_same : (p : core.Program) (k : Known) (m : Matches p k) (scope : List Name) (es : core.Exprs) (n : ℕ) → core_rules.list_values p scope es ≡ Ok n
      → list_values (plainly k) scope (embedded_exprs es) ≡ Ok n
  list_same p k m scope (core.One e) n h = same p k m scope e n h
  list_same p k m scope (core.More e es) n h =
      let s = in_more p scope e es n h in rw (same p k m scope e s.0 s.2) (rw (list_same p k m scope es s.1 s.3) (ap (λ (n : ℕ). Ok n) s.4))

  firsts_same : (p : core.Program) (k : Known) (m : Matches p k) (scope before : List Name) (xs : List NameAt) (es : core.Exprs)
      → core_rules.first_values p scope before xs es ≡ Ok tt → first_values (plainly k) scope before xs (embedded_exprs es) ≡ Ok tt
  firsts_same p k m scope before xs (core.One e) h =
      let s = in_first p scope before xs e h in
      let new = then_ok (core_rules.new_first p before xs) (λ new. core_rules.values p scope e >>= (λ m. core_rules.one_value e m >>= (λ one. Ok tt))) tt h in
      rw (first_new p k m before xs new.0 new.1) (rw (same p k m scope e 1 s.values) refl)
  firsts_same p k m scope before xs (core.More e es) h =
      let s = in_firsts p scope before xs e es h in
      let new = then_ok (core_rules.new_first p before xs) (λ new. core_rules.values p scope e >>= (λ m. core_rules.one_value e m >>= (λ one.
      core_rules.first_values p scope (and_first before xs) (others xs) es))) tt h in
      rw (first_new p k m before xs new.0 new.1) (rw (same p k m scope e 1 s.0.values) (firsts_same p k m scope (and_first before xs) (others xs) es s.1))

  pub body_same : (p : core.Program) (k : Known) (m : Matches p k) (scope : List Name) (body : core.Body) (n : ℕ) → core_rules.body_values p scope body ≡ Ok n
      → body_values (plainly k) scope (embedded_body body) ≡ Ok n
  body_same p k m scope (core.Let at targets es rest) n h =
      let s = in_let p scope at targets es rest n h in
      rw (targets_new p k m [] targets tt s.0) (rw (list_same p k m scope es (length targets) s.1) (rw (equal_itself (length targets))
      (body_same p k m (bound_by targets ++ scope) rest n s.2)))
  body_same p k m scope (core.Do es rest) n h =
      let s = in_do p scope es rest n h in rw (list_same p k m scope es s.0 s.1) (body_same p k m scope rest n s.2)
  body_same p k m scope (core.Give es) n h = list_same p k m scope es n h
  body_same p k m scope (core.Chain e) n h = same p k m scope e n h

  turn_same : (p : core.Program) (k : Known) (m : Matches p k) (scope : List Name) (turn : core.Turn) (n : ℕ) → core_rules.turn_values p scope turn ≡ Ok n
      → turn_values (plainly k) scope (embedded_turn turn) ≡ Ok n
  turn_same p k m scope (core.Before xs q body) n h =
      let s = in_before p scope xs q body n h in rw (same p k m scope q 1 s.0.values) (body_same p k m scope body n s.1)
  turn_same p k m scope (core.After xs body q) n h =
      let s = in_after p scope xs body q n h in rw (body_same p k m scope body n s.0) (rw (same p k m scope q 1 s.1.values) refl)
