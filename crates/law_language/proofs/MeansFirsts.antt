-- The first values of a loop: each name has one, and no two names of a loop are the same.
use Rattle.std.proofs.Common.{◌≡◌, ℕ, zero, suc, ◌+◌, ◌&&◌, not, Bool, true, false, List, [], ◌∷◌, ◌++◌, length, map, Ok, if◌then◌else◌, refl, ap, ap₂, ◌∙◌}
use Rattle.std.proofs.Common.{arith}
use Rattle.std.specs.Prelude.{⊤}
use Rattle.semantics.specs.Graph.{same_name}
use Rattle.semantics.specs.declared.graph.Source.{Source}
use Rattle.semantics.proofs.Lines.{same_name_itself}
use Rattle.lemmas.proofs.Bools.{second_of_and}
use Rattle.lemmas.proofs.Permutations.{Each}
use Rattle.source.specs.declared.fault.FaultKind.TheVariants.{SameName}
use Rattle.source.specs.Tree.{Name, NameAt, Exprs, One, More, Program}
use Rattle.source.specs.Fits.{count}
use Rattle.source.specs.Spelled.{others}
use Rattle.source.specs.Outside.{is_in, bare}
use Rattle.source.specs.First.{◌>>=◌}
use Rattle.source.specs.Rules.{item_names, one_value, new_name, and_first, values, list_values, first_values}
use Rattle.source.specs.Lowered.{Scope, source_in, scoped, inputs_from, port}
use Rattle.source.proofs.Steps.{then_ok, must_ok}
use Rattle.source.proofs.Kept.{in_first, in_firsts}
use Rattle.source.proofs.NamesUsed.{in_none}

-- as many values as names
pub firsts_list : (p : Program) (scope before : List Name) (xs : List NameAt) (es : Exprs) → first_values p scope before xs es ≡ Ok tt
    → list_values p scope es ≡ Ok (count es)
firsts_list p scope before xs (One e) h = (in_first p scope before xs e h).values
firsts_list p scope before xs (More e es) h =
    let k = in_firsts p scope before xs e es h in
    let first = k.0.values in
    let rest = firsts_list p scope (and_first before xs) (others xs) es k.1 in
    let sum : 1 + count es ≡ suc (count es) = omega arith in
    ap (λ r. r >>= (λ n. list_values p scope es >>= (λ m. Ok (n + m)))) first ∙ ap (λ r. r >>= (λ m. Ok (1 + m))) rest ∙ ap (λ n. Ok n) sum

-- NAMES THAT DIFFER, from those before and from one another
abbrev pub Apart : List Name → List Name → Type 0
Apart before [] = ⊤
Apart before (x ∷ xs) = (is_in x before ≡ false) × Apart (x ∷ before) xs

not_true : (t : Bool) → not t ≡ true → t ≡ false
not_true true e = cc
not_true false e = refl

name_new : (p : Program) (before : List Name) (x : NameAt) → new_name p before x ≡ Ok tt → is_in x.name before ≡ false
name_new p before x h =
    let ok = must_ok (not (is_in x.name (item_names p)) && not (is_in x.name before)) SameName x.at tt h in
    not_true (is_in x.name before) (second_of_and (not (is_in x.name (item_names p))) (not (is_in x.name before)) ok)

pub firsts_apart : (p : Program) (scope before : List Name) (xs : List NameAt) (es : Exprs) → first_values p scope before xs es ≡ Ok tt → count es ≡ length xs
    → Apart before (bare xs)
firsts_apart p scope before [] es h e = tt
firsts_apart p scope before (x ∷ []) (One e) h n =
    let s = then_ok (new_name p before x) (λ new. values p scope e >>= (λ m. one_value e m >>= (λ one. Ok tt))) tt h in
    (name_new p before x s.1, tt)
firsts_apart p scope before (x ∷ y ∷ xs) (One e) h n = absurd (omega (arith, n))
firsts_apart p scope before (x ∷ xs) (More e es) h n =
    let s = then_ok (new_name p before x) (λ new. values p scope e >>= (λ m. one_value e m >>= (λ one. first_values p scope (x.name ∷ before) xs es))) tt h in
    let t = then_ok (values p scope e) (λ m. one_value e m >>= (λ one. first_values p scope (x.name ∷ before) xs es)) tt s.2 in
    let u = then_ok (one_value e t.0) (λ one. first_values p scope (x.name ∷ before) xs es) tt t.2 in
    (name_new p before x s.1, firsts_apart p scope (x.name ∷ before) xs es u.2 (omega (arith, n)))

each_apart : (before xs : List Name) → Apart before xs → Each (λ y. is_in y before ≡ false) xs
each_apart before [] h = tt
each_apart before (x ∷ xs) h = (h.0, later xs (each_apart (x ∷ before) xs h.1))
  where
    later : (ys : List Name) → Each (λ y. is_in y (x ∷ before) ≡ false) ys → Each (λ y. is_in y before ≡ false) ys
    later [] k = tt
    later (y ∷ ys) k = ((in_none (same_name y x) (is_in y before) k.0).1, later ys k.1)

-- Different names stand for their sources.
pub scoped_sources : (before xs : List Name) (ss : List Source) (scope : Scope) → Apart before xs → length xs ≡ length ss
    → map (source_in (scoped xs ss scope)) xs ≡ ss
scoped_sources before [] [] scope h e = refl
scoped_sources before [] (s ∷ ss) scope h e = absurd (omega (arith, e))
scoped_sources before (x ∷ xs) [] scope h e = absurd (omega (arith, e))
scoped_sources before (x ∷ xs) (s ∷ ss) scope h e =
    ap₂ (λ (y : Source) l. y ∷ l) (ap (λ (t : Bool). if t then s else source_in (scoped xs ss scope) x) (same_name_itself x))
    (past xs (each_apart (x ∷ before) xs h.1) ∙ scoped_sources (x ∷ before) xs ss scope h.1 (omega (arith, e)))
  where
    past : (ys : List Name) → Each (λ y. is_in y (x ∷ before) ≡ false) ys → map (source_in ((x, s) ∷ scoped xs ss scope)) ys ≡ map
        (source_in (scoped xs ss scope)) ys
    past [] k = refl
    past (y ∷ ys) k =
        ap₂ (λ (y : Source) l. y ∷ l) (ap (λ (t : Bool). if t then s else source_in (scoped xs ss scope) y) (in_none (same_name y x) (is_in y before) k.0).0)
        (past ys k.1)

-- SCOPES one after the other
pub scoped_both : (xs ys : List Name) (ss ts : List Source) (scope : Scope) → length xs ≡ length ss
    → scoped (xs ++ ys) (ss ++ ts) scope ≡ scoped xs ss (scoped ys ts scope)
scoped_both [] ys [] ts scope e = refl
scoped_both [] ys (s ∷ ss) ts scope e = absurd (omega (arith, e))
scoped_both (x ∷ xs) ys [] ts scope e = absurd (omega (arith, e))
scoped_both (x ∷ xs) ys (s ∷ ss) ts scope e = ap (λ l. (x, s) ∷ l) (scoped_both xs ys ss ts scope (omega (arith, e)))

pub source_past : (y : Name) (xs : List Name) (ss : List Source) (scope : Scope) → is_in y xs ≡ false → source_in (scoped xs ss scope) y ≡ source_in scope y
source_past y [] ss scope e = refl
source_past y (x ∷ xs) [] scope e = refl
source_past y (x ∷ xs) (s ∷ ss) scope e =
    let k = in_none (same_name y x) (is_in y xs) e in
    ap (λ (t : Bool). if t then s else source_in (scoped xs ss scope) y) k.0 ∙ source_past y xs ss scope k.1

pub inputs_both : (i n m : ℕ) → inputs_from i (n + m) ≡ inputs_from i n ++ inputs_from (i + n) m
inputs_both i zero m = let e : 0 + m ≡ m = omega arith in let f : i ≡ i + 0 = omega arith in ap (inputs_from i) e ∙ ap (λ i. inputs_from i m) f
inputs_both i (suc n) m =
    let e : suc n + m ≡ suc (n + m) = omega arith in let f : i + 1 + n ≡ i + suc n = omega arith in
    ap (inputs_from i) e ∙ ap (λ l. port i 0 ∷ l) (inputs_both (i + 1) n m ∙ ap (λ j. inputs_from (i + 1) n ++ inputs_from j m) f)
