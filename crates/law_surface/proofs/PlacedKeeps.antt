-- A program with places of its own fits the grammar and keeps the rules where the program does.
use Rattle.std.specs.Prelude.{◌≡◌, ℕ, zero, suc, ◌+◌, ◌<◌, ◌≤◌, ◌⊎◌, ◌==◌, ◌&&◌, not, nat_le, nat_lt, Bool, true, false, IsTrue, List, [], ◌∷◌, ◌++◌, length, drop}
use Rattle.std.specs.Prelude.{is_some, Option, None, Some, Result, Ok, refl, ⊤, if◌then◌else◌}
use Rattle.std.proofs.Common.{sym, ◌∙◌, ap, subst, arith, inl, inr}
use Rattle.lemmas.proofs.Bools.{equal_itself}
use Rattle.operators.specs.declared.Unary.{Unary}
use Rattle.operators.specs.declared.Unary.TheVariants.{Neg, Not}
use Rattle.semantics.specs.Graph.{same_name}
use Rattle.source.specs.declared.fault.Fault.{Fault}
use Rattle.source.specs.declared.fault.FaultKind.TheVariants.{SameName, TooMany, BadCount, Arity, NoMain}
use Rattle.source.specs.Tree.{Name, NameAt, NumberAt, Target, Bind, Drop, Expr, Number, Named, Bracket, Prefix, Infix, Fetch, Store, Call, If, Loop}
use Rattle.source.specs.Tree.{Exprs, One, More, Body, Let, Do, Give, Chain, Turn, Before, After, Function, Item, Cells, Defines, Program, names_of}
use Rattle.source.specs.Spelled.{others}
use Rattle.source.specs.Words.{start_words, part_words, first_words, body_words, result_words, item_words}
use Rattle.source.specs.Outside.{is_in, without, once, bare, bound_by, uses, list_uses, body_uses, turn_uses, outside_turn}
use Rattle.source.specs.Fits.{IsLeast, level, is_if, count, IsSmall, left_level, sign_level, Fits, FitsAll, FitsBody, FitsTurn, FitsItem, FitsProgram}
use Rattle.source.specs.First.{◌>>=◌, must}
use Rattle.source.specs.Rules.{Heads, no_items, item_name, item_names, array_in, function_in, main_name, written_or_one, few_params, good_results, head, heads}
use Rattle.source.specs.Rules.{new_name, new_names, new_targets, new_first, and_first, one_value, values, list_values, first_values, body_values, turn_values}
use Rattle.source.specs.Rules.{function_checked, functions_checked, checked}
use Rattle.source.specs.Counts.{IsGood}
use Rattle.source.proofs.Steps.{then_ok, must_ok, ok_same}
use Rattle.source.proofs.Kept.{known_name, in_prefix, in_infix, in_fetch, in_store, IsCalled, in_call, in_if, IsTurned, in_loop, in_more, in_first, in_firsts}
use Rattle.source.proofs.Kept.{in_let, in_do, in_before, in_after}
use Rattle.surface.specs.Placed.{size, name_from, names_from, targets_from, number_from, starts_from, placed_expr, placed_parts, placed_firsts, placed_body}
use Rattle.surface.specs.Placed.{placed_turn, placed_results, placed_item, placed_from, placed}
use Rattle.law_surface.specs.SurfaceMeans.{PlacedIsGood}

-- NAMES
names_kept : (xs : List NameAt) (n : ℕ) → bare (names_from n xs) ≡ bare xs
names_kept [] n = refl
names_kept (x ∷ xs) n = ap (λ (names : List Name). x.name ∷ names) (names_kept xs (n + 1))

starts_kept : (xs : List NameAt) (es : Exprs) (n : ℕ) → bare (starts_from n xs es) ≡ bare xs
starts_kept [] es n = refl
starts_kept (x ∷ xs) (One e) n = ap (λ (names : List Name). x.name ∷ names) (names_kept xs (n + size e + 2))
starts_kept (x ∷ xs) (More e es) n = ap (λ (names : List Name). x.name ∷ names) (starts_kept xs es (n + size e + 2))

bare_length : (xs : List NameAt) → length (bare xs) ≡ length xs
bare_length [] = refl
bare_length (x ∷ xs) = ap (λ (n : ℕ). suc n) (bare_length xs)

as_long : (xs ys : List NameAt) → bare xs ≡ bare ys → length xs ≡ length ys
as_long xs ys e = sym (bare_length xs) ∙ ap (λ (names : List Name). length names) e ∙ bare_length ys

bound_kept : (ts : List Target) (n : ℕ) → bound_by (targets_from n ts) ≡ bound_by ts
bound_kept [] n = refl
bound_kept (Bind x ∷ ts) n = ap (λ (names : List Name). x.name ∷ names) (bound_kept ts (n + 1))
bound_kept (Drop ∷ ts) n = bound_kept ts (n + 1)

targets_length : (ts : List Target) (n : ℕ) → length (targets_from n ts) ≡ length ts
targets_length [] n = refl
targets_length (Bind x ∷ ts) n = ap (λ (n : ℕ). suc n) (targets_length ts (n + 1))
targets_length (Drop ∷ ts) n = ap (λ (n : ℕ). suc n) (targets_length ts (n + 1))

turn_names : (turn : Turn) (firsts : Exprs) (n : ℕ) → names_of (placed_turn n firsts turn) ≡ starts_from n (names_of turn) firsts
turn_names (Before xs p body) firsts n = refl
turn_names (After xs body p) firsts n = refl

turn_bare : (turn : Turn) (firsts : Exprs) (n : ℕ) → bare (names_of (placed_turn n firsts turn)) ≡ bare (names_of turn)
turn_bare turn firsts n = ap (λ (xs : List NameAt). bare xs) (turn_names turn firsts n) ∙ starts_kept (names_of turn) firsts n

turn_length : (turn : Turn) (firsts : Exprs) (n : ℕ) → length (names_of (placed_turn n firsts turn)) ≡ length (names_of turn)
turn_length turn firsts n = as_long (names_of (placed_turn n firsts turn)) (names_of turn) (turn_bare turn firsts n)

-- IT FITS
level_kept : (e : Expr) (n : ℕ) → level (placed_expr n e) ≡ level e
level_kept (Number at v) n = refl
level_kept (Named at x) n = refl
level_kept (Bracket e) n = refl
level_kept (Prefix at op e) n = refl
level_kept (Infix at s l r) n = refl
level_kept (Fetch at a e) n = refl
level_kept (Store at a e d) n = refl
level_kept (Call at strict f es) n = refl
level_kept (If at p l r) n = refl
level_kept (Loop at bound firsts turn) n = refl

if_kept : (e : Expr) (n : ℕ) → is_if (placed_expr n e) ≡ is_if e
if_kept (Number at v) n = refl
if_kept (Named at x) n = refl
if_kept (Bracket e) n = refl
if_kept (Prefix at op e) n = refl
if_kept (Infix at s l r) n = refl
if_kept (Fetch at a e) n = refl
if_kept (Store at a e d) n = refl
if_kept (Call at strict f es) n = refl
if_kept (If at p l r) n = refl
if_kept (Loop at bound firsts turn) n = refl

least_kept : (op : Unary) (e : Expr) (n : ℕ) → IsLeast op e → IsLeast op (placed_expr n e)
least_kept Neg (Number at v) n h = h
least_kept Neg e n h = absurd h
least_kept Not e n h = absurd h

count_kept : (es : Exprs) (xs : List NameAt) (n : ℕ) → count (placed_firsts n xs es) ≡ count es
count_kept (One e) xs n = refl
count_kept (More e es) xs n = ap (λ (n : ℕ). suc n) (count_kept es (others xs) (n + length (start_words xs) + size e + 1))

mutual
  fits : (e : Expr) (n : ℕ) → Fits e → Fits (placed_expr n e)
  fits (Number at v) n h = h
  fits (Named at x) n h = h
  fits (Bracket e) n h = fits e n h
  fits (Prefix at op e) n (l, inl h) = (subst (λ (m : ℕ). 8 ≤ m) (sym (level_kept e n)) l, inl (fits e n h))
  fits (Prefix at op e) n (l, inr h) = (subst (λ (m : ℕ). 8 ≤ m) (sym (level_kept e n)) l, inr (least_kept op e n h))
  fits (Infix at s l r) n h = (
    fits l n h.0,
    subst (λ (m : ℕ). left_level s ≤ m) (sym (level_kept l n)) h.1,
    fits r (n + size l + 1) h.2,
    subst (λ (m : ℕ). sign_level s < m) (sym (level_kept r (n + size l + 1))) h.3,
  )
  fits (Fetch at a e) n h = fits e (n + 1) h
  fits (Store at a e d) n h = (fits e (n + 1) h.0, fits d (n + size e + 2) h.1)
  fits (Call at strict f es) n h = all_fit es (n + 2) h
  fits (If at p l r) n h = (
    fits p n h.0,
    body_fits false l (n + size p + 1) h.1,
    body_fits true r (n + size p + length (body_words l) + 2) h.2,
  )
  fits (Loop at bound firsts turn) n h = (
    h.0,
    firsts_fit firsts (names_of turn) (n + 2) h.1,
    count_kept firsts (names_of turn) (n + 2) ∙ h.2 ∙ sym (turn_length turn firsts (n + 2)),
    turn_fits turn firsts (n + 2) h.3,
  )

  all_fit : (es : Exprs) (n : ℕ) → FitsAll es → FitsAll (placed_parts n es)
  all_fit (One e) n h = fits e n h
  all_fit (More e es) n h = (fits e n h.0, all_fit es (n + size e + 1) h.1)

  firsts_fit : (es : Exprs) (xs : List NameAt) (n : ℕ) → FitsAll es → FitsAll (placed_firsts n xs es)
  firsts_fit (One e) xs n h = fits e (n + length (start_words xs)) h
  firsts_fit (More e es) xs n h = (fits e (n + length (start_words xs)) h.0, firsts_fit es (others xs) (n + length (start_words xs) + size e + 1) h.1)

  body_fits : (b : Bool) (body : Body) (n : ℕ) → FitsBody b body → FitsBody b (placed_body n body)
  body_fits b (Let at targets es rest) n h = (
    subst (λ (m : ℕ). 0 < m) (sym (targets_length targets (n + 1))) h.0,
    all_fit es (n + length targets + 2) h.1,
    body_fits false rest (n + length targets + length (part_words es) + 3) h.2,
  )
  body_fits b (Do es rest) n h = (all_fit es (n + 1) h.0, body_fits false rest (n + length (part_words es) + 2) h.1)
  body_fits b (Give es) n h = all_fit es (n + 1) h
  body_fits b (Chain e) n h = (h.0, subst (λ (b : Bool). IsTrue b) (sym (if_kept e n)) h.1, fits e n h.2)

  turn_fits : (turn : Turn) (firsts : Exprs) (n : ℕ) → FitsTurn turn → FitsTurn (placed_turn n firsts turn)
  turn_fits (Before xs p body) firsts n h = (
    fits p (n + length (first_words xs firsts) + 1) h.0,
    body_fits false body (n + length (first_words xs firsts) + size p + 2) h.1,
  )
  turn_fits (After xs body p) firsts n h = (
    body_fits false body (n + length (first_words xs firsts) + 1) h.0,
    fits p (n + length (first_words xs firsts) + length (body_words body) + 2) h.1,
  )

results_small : (o : Option NumberAt) (n : ℕ) → IsSmall o → IsSmall (placed_results n o)
results_small None n h = h
results_small (Some k) n h = h

item_fits : (i : Item) (n : ℕ) → FitsItem i → FitsItem (placed_item n i)
item_fits (Cells x len) n h = h
item_fits (Defines f) n h = (
  subst (λ (m : ℕ). 0 < m) (sym (as_long (names_from (n + 1) f.params) f.params (names_kept f.params (n + 1)))) h.0,
  results_small f.results (n + length f.params + 1) h.1,
  body_fits false f.body (n + length f.params + length (result_words f.results) + 2) h.2,
)

program_fits : (p : Program) (n : ℕ) → FitsProgram p → FitsProgram (placed_from n p)
program_fits [] n h = tt
program_fits (i ∷ items) n h = (item_fits i n h.0, program_fits items (n + length (item_words i)) h.1)

-- USES are the same.
side : {xs ys us vs : List Name} → xs ≡ ys → us ≡ vs → xs ++ us ≡ ys ++ vs
side {ys = ys} {us = us} h g = ap (λ (zs : List Name). zs ++ us) h ∙ ap (λ (zs : List Name). ys ++ zs) g

both : {aa bs xs ys : List Name} → aa ≡ bs → xs ≡ ys → without aa xs ≡ without bs ys
both {bs = bs} {xs = xs} h g = ap (λ (zs : List Name). without zs xs) h ∙ ap (λ (zs : List Name). without bs zs) g

mutual
  uses_kept : (e : Expr) (n : ℕ) → uses (placed_expr n e) ≡ uses e
  uses_kept (Number at v) n = refl
  uses_kept (Named at x) n = refl
  uses_kept (Bracket e) n = uses_kept e n
  uses_kept (Prefix at op e) n = uses_kept e n
  uses_kept (Infix at s l r) n = side (uses_kept l n) (uses_kept r (n + size l + 1))
  uses_kept (Fetch at a e) n = uses_kept e (n + 1)
  uses_kept (Store at a e d) n = side (uses_kept e (n + 1)) (uses_kept d (n + size e + 2))
  uses_kept (Call at strict f es) n = list_kept es (n + 2)
  uses_kept (If at p l r) n = side (side (uses_kept p n) (body_kept l (n + size p + 1))) (body_kept r (n + size p + length (body_words l) + 2))
  uses_kept (Loop at bound firsts turn) n = side (firsts_kept firsts (names_of turn) (n + 2)) (turn_kept turn firsts (n + 2))

  list_kept : (es : Exprs) (n : ℕ) → list_uses (placed_parts n es) ≡ list_uses es
  list_kept (One e) n = uses_kept e n
  list_kept (More e es) n = side (uses_kept e n) (list_kept es (n + size e + 1))

  firsts_kept : (es : Exprs) (xs : List NameAt) (n : ℕ) → list_uses (placed_firsts n xs es) ≡ list_uses es
  firsts_kept (One e) xs n = uses_kept e (n + length (start_words xs))
  firsts_kept (More e es) xs n = side (uses_kept e (n + length (start_words xs))) (firsts_kept es (others xs) (n + length (start_words xs) + size e + 1))

  body_kept : (body : Body) (n : ℕ) → body_uses (placed_body n body) ≡ body_uses body
  body_kept (Let at targets es rest) n = side (list_kept es (n + length targets + 2)) (both (bound_kept targets (n + 1)) (body_kept rest (n + length targets + length
      (part_words es) + 3)))
  body_kept (Do es rest) n = side (list_kept es (n + 1)) (body_kept rest (n + length (part_words es) + 2))
  body_kept (Give es) n = list_kept es (n + 1)
  body_kept (Chain e) n = uses_kept e n

  turn_kept : (turn : Turn) (firsts : Exprs) (n : ℕ) → turn_uses (placed_turn n firsts turn) ≡ turn_uses turn
  turn_kept (Before xs p body) firsts n = both (starts_kept xs firsts n) (side (uses_kept p (n + length (first_words xs firsts) + 1)) (body_kept body (n + length
      (first_words xs firsts) + size p + 2)))
  turn_kept (After xs body p) firsts n = both (starts_kept xs firsts n) (side (body_kept body (n + length (first_words xs firsts) + 1)) (uses_kept p (n + length
      (first_words xs firsts) + length (body_words body) + 2)))

-- PROGRAMS whose items are the same but for places
pub record SameFunction (f g : Function) : Type 0 where
  pub params : length g.params ≡ length f.params
  pub results : written_or_one g.results ≡ written_or_one f.results

abbrev SameFound : Option Function → Option Function → Type 0
SameFound None other = other ≡ None
SameFound (Some f) other = (g : Function) × (other ≡ Some g) × SameFunction f g

pub record SameItems (p r : Program) : Type 0 where
  pub names : item_names r ≡ item_names p
  pub arrays : (x : Name) → array_in r x ≡ array_in p x
  pub functions : (x : Name) → SameFound (function_in p x) (function_in r x)

written_kept : (o : Option NumberAt) (n : ℕ) → written_or_one (placed_results n o) ≡ written_or_one o
written_kept None n = refl
written_kept (Some k) n = refl

abbrev placed_function : ℕ → Function → Function
placed_function n f = record {
  name = name_from n f.name;
  params = names_from (n + 1) f.params;
  results = placed_results (n + length f.params + 1) f.results;
  body_at = n + length f.params + length (result_words f.results) + 1;
  body = placed_body (n + length f.params + length (result_words f.results) + 2) f.body;
}

function_same : (f : Function) (n : ℕ) → SameFunction f (placed_function n f)
function_same f n = record {
  params = as_long (names_from (n + 1) f.params) f.params (names_kept f.params (n + 1));
  results = written_kept f.results (n + length f.params + 1);
}

items_same : (p : Program) (n : ℕ) → SameItems p (placed_from n p)
items_same [] n = record { names = refl; arrays = λ x. refl; functions = λ x. refl }
items_same (Cells y len ∷ items) n =
    let rest : SameItems items (placed_from (n + length (item_words (Cells y len))) items) = items_same items (n + length (item_words (Cells y len))) in
    record {
      names = ap (λ (names : List Name). y.name ∷ names) rest.names;
      arrays = λ x. ap (λ (o : Option ℕ). if same_name x y.name then Some len.number else o) (rest.arrays x);
      functions = rest.functions;
    }
items_same (Defines f ∷ items) n =
    let next : ℕ = n + length (item_words (Defines f)) in
    let rest : SameItems items (placed_from next items) = items_same items next in
    record {
      names = ap (λ (names : List Name). f.name.name ∷ names) rest.names;
      arrays = rest.arrays;
      functions = λ x. go x (same_name x f.name.name) (rest.functions x);
    }
  where
    go : (x : Name) (b : Bool) → SameFound (function_in items x) (function_in (placed_from (n + length (item_words (Defines f))) items) x) → SameFound (if b then Some f else
        function_in items x) (if b then Some (placed_function n f) else function_in (placed_from (n + length (item_words (Defines f))) items) x)
    go x true rest = (placed_function n f, refl, function_same f n)
    go x false rest = rest

-- IT KEEPS THE RULES.
module _ (p r : Program) (same : SameItems p r) where
  name_new : (before : List Name) (x : NameAt) (n : ℕ) → new_name p before x ≡ Ok tt → new_name r before (name_from n x) ≡ Ok tt
  name_new before x n h =
      let e : (not (is_in x.name (item_names p)) && not (is_in x.name before)) ≡ true = must_ok (not (is_in x.name (item_names p)) && not (is_in x.name before)) SameName x.at tt h in
      let g : (not (is_in x.name (item_names r)) && not (is_in x.name before)) ≡ true = ap (λ (names : List Name). not (is_in x.name names) && not (is_in x.name before))
      same.names ∙ e in rw g refl

  targets_new : (before : List Name) (ts : List Target) (n : ℕ) → new_targets p before ts ≡ Ok tt → new_targets r before (targets_from n ts) ≡ Ok tt
  targets_new before [] n h = refl
  targets_new before (Drop ∷ ts) n h = targets_new before ts (n + 1) h
  targets_new before (Bind x ∷ ts) n h =
      let s = then_ok (new_name p before x) (λ new. new_targets p (x.name ∷ before) ts) tt h in
      rw (name_new before x n s.1) (targets_new (x.name ∷ before) ts (n + 1) s.2)

  names_new : (before : List Name) (xs : List NameAt) (n : ℕ) → new_names p before xs ≡ Ok tt → new_names r before (names_from n xs) ≡ Ok tt
  names_new before [] n h = refl
  names_new before (x ∷ xs) n h =
      let s = then_ok (new_name p before x) (λ new. new_names p (x.name ∷ before) xs) tt h in
      rw (name_new before x n s.1) (names_new (x.name ∷ before) xs (n + 1) s.2)

  first_new : (before : List Name) (xs : List NameAt) (es : Exprs) (n : ℕ) → new_first p before xs ≡ Ok tt → new_first r before (starts_from n xs es) ≡ Ok tt
  first_new before [] es n h = refl
  first_new before (x ∷ xs) (One e) n h = name_new before x n h
  first_new before (x ∷ xs) (More e es) n h = name_new before x n h

  first_names : (before : List Name) (xs : List NameAt) (e : Expr) (es : Exprs) (n : ℕ) → and_first before (starts_from n xs (More e es)) ≡ and_first before xs
  first_names before [] e es n = refl
  first_names before (x ∷ xs) e es n = refl

  other_starts : (xs : List NameAt) (e : Expr) (es : Exprs) (n : ℕ) → others (starts_from n xs (More e es)) ≡ starts_from (n + size e + 2) (others xs) es
  other_starts [] e es n = refl
  other_starts (x ∷ xs) e es n = refl

  array_kept : (x : Name) → is_some (array_in p x) ≡ true → is_some (array_in r x) ≡ true
  array_kept x h = ap (λ (o : Option ℕ). is_some o) (same.arrays x) ∙ h

  found_kept : (x : Name) (f : Function) → function_in p x ≡ Some f → (g : Function) × (function_in r x ≡ Some g) × SameFunction f g
  found_kept x f h = subst (λ (o : Option Function). SameFound o (function_in r x)) h (same.functions x)

  mutual
    kept : (e : Expr) (n : ℕ) (scope : List Name) (v : ℕ) → values p scope e ≡ Ok v → values r scope (placed_expr n e) ≡ Ok v
    kept (Number at m) n scope v h = h
    kept (Named at x) n scope v h =
        let s = known_name p scope at x v h in rw s.0 (ap (λ (n : ℕ). Ok n) s.1)
    kept (Bracket e) n scope v h = kept e n scope v h
    kept (Prefix at op e) n scope v h =
        let s = in_prefix p scope at op e v h in rw (kept e n scope 1 s.0.values) (ap (λ (n : ℕ). Ok n) s.1)
    kept (Infix at sign left right) n scope v h =
        let s = in_infix p scope at sign left right v h in
        rw (kept left n scope 1 s.0.values) (rw (kept right (n + size left + 1) scope 1 s.1.values) (ap (λ (n : ℕ). Ok n) s.2))
    kept (Fetch at a e) n scope v h =
        let s = in_fetch p scope at a e v h in rw (array_kept a s.0) (rw (kept e (n + 1) scope 1 s.1.values) (ap (λ (n : ℕ). Ok n) s.2))
    kept (Store at a e d) n scope v h =
        let s = in_store p scope at a e d v h in
        rw (array_kept a s.0) (rw (kept e (n + 1) scope 1 s.1.values) (rw (kept d (n + size e + 2) scope 1 s.2.values) (ap (λ (n : ℕ). Ok n) s.3)))
    kept (Call at strict f es) n scope v h =
        let s : IsCalled p scope f es v = in_call p scope at strict f es v h in
        let g = found_kept f s.function s.found in
        let as_many : (length s.function.params == length g.0.params) ≡ true = ap (λ (m : ℕ). length s.function.params == m) g.2.params ∙ equal_itself (length
        s.function.params) in
        rw g.1 (rw (all_kept es (n + 2) scope (length s.function.params) s.arguments) (rw as_many (ap (λ (n : ℕ). Ok n) (g.2.results ∙ s.results))))
    kept (If at q left right) n scope v h =
        let s = in_if p scope at q left right v h in
        rw (kept q n scope 1 s.0.values) (rw (bodies_kept left (n + size q + 1) scope v s.1) (rw (bodies_kept right (n + size q + length (body_words left) + 2) scope v s.2)
        (rw (equal_itself v) refl)))
    kept (Loop at bound firsts turn) n scope v h =
        let s : IsTurned p scope bound firsts turn v = in_loop p scope at bound firsts turn v h in
        let t : Turn = placed_turn (n + 2) firsts turn in
        let names : length (names_of t) ≡ length (names_of turn) = turn_length turn firsts (n + 2) in
        let begun : first_values r scope [] (names_of t) (placed_firsts (n + 2) (names_of turn) firsts) ≡ Ok tt = subst (λ (xs : List NameAt). first_values r scope [] xs
        (placed_firsts (n + 2) (names_of turn) firsts) ≡ Ok tt) (sym (turn_names turn firsts (n + 2))) (begun_kept firsts (names_of turn) (names_of turn) (n + 2) (n + 2) scope
        [] s.begun) in
        let turns : turn_values r (bare (names_of t) ++ scope) t ≡ Ok v = subst (λ (xs : List Name). turn_values r (xs ++ scope) t ≡ Ok v) (sym (turn_bare turn firsts (n + 2)))
        (turns_kept turn firsts (n + 2) (bare (names_of turn) ++ scope) v s.turns) in
        let outside : length (outside_turn t) ≡ length (outside_turn turn) = ap (λ (xs : List Name). length (once xs)) (turn_kept turn firsts (n + 2)) in
        let as_many : (v == length (names_of t)) ≡ true = ap (λ (m : ℕ). v == m) (names ∙ sym s.names) ∙ equal_itself v in
        let narrow : nat_le (length (names_of t) + length (outside_turn t)) 15 ≡ true = ap (λ (m : ℕ). nat_le (m + length (outside_turn t)) 15) names ∙ ap (λ (m : ℕ). nat_le
        (length (names_of turn) + m) 15) outside ∙ s.carried in
        rw s.small (rw begun (rw turns (rw as_many (rw narrow refl))))

    all_kept : (es : Exprs) (n : ℕ) (scope : List Name) (v : ℕ) → list_values p scope es ≡ Ok v → list_values r scope (placed_parts n es) ≡ Ok v
    all_kept (One e) n scope v h = kept e n scope v h
    all_kept (More e es) n scope v h =
        let s = in_more p scope e es v h in rw (kept e n scope s.0 s.2) (rw (all_kept es (n + size e + 1) scope s.1 s.3) (ap (λ (n : ℕ). Ok n) s.4))

    -- the names that the places of the values are counted by are only counted
    begun_kept : (es : Exprs) (xs ys : List NameAt) (n m : ℕ) (scope before : List Name) → first_values p scope before xs es ≡ Ok tt → first_values r scope before (starts_from n
        xs es) (placed_firsts m ys es) ≡ Ok tt
    begun_kept (One e) xs ys n m scope before h =
        let s = then_ok (new_first p before xs) (λ new. values p scope e >>= (λ k. one_value e k >>= (λ one. Ok tt))) tt h in
        let one = in_first p scope before xs e h in
        rw (first_new before xs (One e) n s.1) (rw (kept e (m + length (start_words ys)) scope 1 one.values) refl)
    begun_kept (More e es) xs ys n m scope before h =
        let s = then_ok (new_first p before xs) (λ new. values p scope e >>= (λ k. one_value e k >>= (λ one. first_values p scope (and_first before xs) (others xs) es))) tt h in
        let t = in_firsts p scope before xs e es h in
        let rest = begun_kept es (others xs) (others ys) (n + size e + 2) (m + length (start_words ys) + size e + 1) scope (and_first before xs) t.1 in
        let at_names = subst (λ (zs : List NameAt). first_values r scope (and_first before xs) zs (placed_firsts (m + length (start_words ys) + size e + 1) (others ys) es) ≡ Ok
        tt) (sym (other_starts xs e es n)) rest in
        let all = subst (λ (names : List Name). first_values r scope names (others (starts_from n xs (More e es))) (placed_firsts (m + length (start_words ys) + size e + 1)
        (others ys) es) ≡ Ok tt) (sym (first_names before xs e es n)) at_names in
        rw (first_new before xs (More e es) n s.1) (rw (kept e (m + length (start_words ys)) scope 1 t.0.values) all)

    bodies_kept : (body : Body) (n : ℕ) (scope : List Name) (v : ℕ) → body_values p scope body ≡ Ok v → body_values r scope (placed_body n body) ≡ Ok v
    bodies_kept (Let at targets es rest) n scope v h =
        let s = in_let p scope at targets es rest v h in
        let as_many : (length targets == length (targets_from (n + 1) targets)) ≡ true = ap (λ (m : ℕ). length targets == m) (targets_length targets (n + 1)) ∙ equal_itself
        (length targets) in
        let m : ℕ = n + length targets + length (part_words es) + 3 in
        let inner : body_values r (bound_by (targets_from (n + 1) targets) ++ scope) (placed_body m rest) ≡ Ok v = subst (λ (xs : List Name). body_values r (xs ++ scope)
        (placed_body m rest) ≡ Ok v) (sym (bound_kept targets (n + 1))) (bodies_kept rest m (bound_by targets ++ scope) v s.2) in
        rw (targets_new [] targets (n + 1) s.0) (rw (all_kept es (n + length targets + 2) scope (length targets) s.1) (rw as_many inner))
    bodies_kept (Do es rest) n scope v h =
        let s = in_do p scope es rest v h in
        rw (all_kept es (n + 1) scope s.0 s.1) (bodies_kept rest (n + length (part_words es) + 2) scope v s.2)
    bodies_kept (Give es) n scope v h = all_kept es (n + 1) scope v h
    bodies_kept (Chain e) n scope v h = kept e n scope v h

    turns_kept : (turn : Turn) (firsts : Exprs) (n : ℕ) (scope : List Name) (v : ℕ) → turn_values p scope turn ≡ Ok v → turn_values r scope (placed_turn n firsts turn) ≡ Ok v
    turns_kept (Before xs q body) firsts n scope v h =
        let s = in_before p scope xs q body v h in
        rw (kept q (n + length (first_words xs firsts) + 1) scope 1 s.0.values) (bodies_kept body (n + length (first_words xs firsts) + size q + 2) scope v s.1)
    turns_kept (After xs body q) firsts n scope v h =
        let s = in_after p scope xs body q v h in
        rw (bodies_kept body (n + length (first_words xs firsts) + 1) scope v s.0) (rw (kept q (n + length (first_words xs firsts) + length (body_words body) + 2) scope 1
        s.1.values) refl)

  function_kept : (f : Function) (n : ℕ) → function_checked p f ≡ Ok tt → function_checked r (placed_function n f) ≡ Ok tt
  function_kept f n h =
      let s = then_ok (new_names p [] f.params) (λ new. body_values p (bare f.params) f.body >>= (λ v. must (v == written_or_one f.results) Arity f.body_at)) tt h in
      let t = then_ok (body_values p (bare f.params) f.body) (λ v. must (v == written_or_one f.results) Arity f.body_at) tt s.2 in
      let m : ℕ = n + length f.params + length (result_words f.results) + 2 in
      let body : body_values r (bare (names_from (n + 1) f.params)) (placed_body m f.body) ≡ Ok t.0 = subst (λ (xs : List Name). body_values r xs (placed_body m f.body) ≡ Ok t.0)
      (sym (names_kept f.params (n + 1))) (bodies_kept f.body m (bare f.params) t.0 t.1) in
      let count : (t.0 == written_or_one (placed_results (n + length f.params + 1) f.results)) ≡ true = ap (λ (k : ℕ). t.0 == k) (written_kept f.results (n + length f.params + 1)) ∙
      must_ok (t.0 == written_or_one f.results) Arity f.body_at tt t.2 in
      rw (names_new [] f.params (n + 1) s.1) (rw body (rw count refl))

  functions_kept : (items : Program) (n : ℕ) → functions_checked p items ≡ Ok tt → functions_checked r (placed_from n items) ≡ Ok tt
  functions_kept [] n h = refl
  functions_kept (Cells x len ∷ items) n h = functions_kept items (n + length (item_words (Cells x len))) h
  functions_kept (Defines f ∷ items) n h =
      let s = then_ok (function_checked p f) (λ good. functions_checked p items) tt h in
      rw (function_kept f n s.1) (functions_kept items (n + length (item_words (Defines f))) s.2)

-- HEADS
few_kept : (k : ℕ) (xs : List NameAt) (n : ℕ) → few_params (drop k xs) ≡ Ok tt → few_params (drop k (names_from n xs)) ≡ Ok tt
few_kept zero [] n h = refl
few_kept (suc k) [] n h = refl
few_kept zero (x ∷ xs) n h = cc
few_kept (suc k) (x ∷ xs) n h = few_kept k xs (n + 1) h

good_kept : (o : Option NumberAt) (n : ℕ) → good_results o ≡ Ok tt → good_results (placed_results n o) ≡ Ok tt
good_kept None n h = refl
good_kept (Some k) n h = rw (must_ok (nat_le 1 k.number && nat_le k.number 16) BadCount k.at tt h) refl

head_kept : (h : Heads) (i : Item) (n : ℕ) (next : Heads) → head h i ≡ Ok next → head h (placed_item n i) ≡ Ok next
head_kept h (Cells x len) n next e =
    let end : Heads = record { names = x.name ∷ h.names; arrays = h.arrays + 1; cells = h.cells + len.number } in
    let r3 : Result Heads Fault = must (nat_le (h.cells + len.number) 65536) TooMany len.at >>= (λ t. Ok end) in
    let r2 : Result Heads Fault = must (nat_le 1 len.number && nat_le len.number 65536) BadCount len.at >>= (λ t. r3) in
    let r1 : Result Heads Fault = must (nat_lt h.arrays 64) TooMany x.at >>= (λ t. r2) in
    let s1 = then_ok (must (not (is_in x.name h.names)) SameName x.at) (λ t. r1) next e in
    let s2 = then_ok (must (nat_lt h.arrays 64) TooMany x.at) (λ t. r2) next s1.2 in
    let s3 = then_ok (must (nat_le 1 len.number && nat_le len.number 65536) BadCount len.at) (λ t. r3) next s2.2 in
    let s4 = then_ok (must (nat_le (h.cells + len.number) 65536) TooMany len.at) (λ t. Ok end) next s3.2 in
    rw (must_ok (not (is_in x.name h.names)) SameName x.at s1.0 s1.1) (rw (must_ok (nat_lt h.arrays 64) TooMany x.at s2.0 s2.1) (rw (must_ok (nat_le 1 len.number && nat_le
    len.number 65536) BadCount len.at s3.0 s3.1) (rw (must_ok (nat_le (h.cells + len.number) 65536) TooMany len.at s4.0 s4.1) s4.2)))
head_kept h (Defines f) n next e =
    let end : Heads = record { names = f.name.name ∷ h.names; arrays = h.arrays; cells = h.cells } in
    let r2 : Result Heads Fault = good_results f.results >>= (λ t. Ok end) in
    let r1 : Result Heads Fault = few_params (drop 16 f.params) >>= (λ t. r2) in
    let s1 = then_ok (must (not (is_in f.name.name h.names)) SameName f.name.at) (λ t. r1) next e in
    let s2 = then_ok (few_params (drop 16 f.params)) (λ t. r2) next s1.2 in
    let s3 = then_ok (good_results f.results) (λ t. Ok end) next s2.2 in
    rw (must_ok (not (is_in f.name.name h.names)) SameName f.name.at s1.0 s1.1) (rw (few_kept 16 f.params (n + 1) s2.1) (rw (good_kept f.results (n + length f.params + 1) s3.1)
    s3.2))

heads_kept : (h : Heads) (items : Program) (n : ℕ) (end : Heads) → heads h items ≡ Ok end → heads h (placed_from n items) ≡ Ok end
heads_kept h [] n end e = e
heads_kept h (i ∷ items) n end e =
    let s = then_ok (head h i) (λ next. heads next items) end e in rw (head_kept h i n s.0 s.1) (heads_kept s.0 items (n + length (item_words i)) end s.2)

main_kept : (o r : Option Function) → SameFound o r → is_some o ≡ true → is_some r ≡ true
main_kept None r f h = cc
main_kept (Some g) r f h = ap (λ (o : Option Function). is_some o) f.1

pub placed_is_good : PlacedIsGood
placed_is_good q good =
    let s = then_ok (heads no_items q) (λ all. must (is_some (function_in q main_name)) NoMain good.end >>= (λ main. functions_checked q q)) tt good.checked in
    let t = then_ok (must (is_some (function_in q main_name)) NoMain good.end) (λ main. functions_checked q q) tt s.2 in
    let r : Program = placed_from 0 q in
    let same : SameItems q r = items_same q 0 in
    let main : is_some (function_in r main_name) ≡ true = main_kept (function_in q main_name) (function_in r main_name) (same.functions main_name) (must_ok (is_some (function_in q
    main_name)) NoMain good.end t.0 t.1) in
    record {
      fits = program_fits q 0 good.fits;
      end = good.end;
      checked = rw (heads_kept no_items q 0 s.0 s.1) (rw main (functions_kept q r same q 0 t.2));
    }
