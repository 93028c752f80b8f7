-- WHAT NAMES STAND FOR, after what binds names: only the names that are used matter.
use Rattle.std.proofs.Common.{◌≡◌, ◌≤◌, Bool, true, false, not, ◌||◌, List, [], ◌∷◌, ◌++◌, length, map, filter, if◌then◌else◌, refl, ap, ◌∙◌, arith}
use Rattle.lemmas.proofs.Permutations.{Each}
use Rattle.semantics.specs.declared.graph.Source.{Source}
use Rattle.semantics.specs.Graph.{same_name}
use Rattle.semantics.proofs.Lines.{same_name_itself}
use Rattle.source.specs.Tree.{Name, Target, Bind, Drop}
use Rattle.source.specs.Outside.{is_in, without, once, bound_by}
use Rattle.source.specs.Lowered.{Scope, source_in, scoped, let_scoped}
use Rattle.source.proofs.NamesUsed.{AreIn, in_or}
use Rattle.source.proofs.OutsideNames.{uses_once}

-- LISTS OF NAMES
either : (t u : Bool) → u ≡ true → (t || u) ≡ true
either true u e = refl
either false u e = e

pub in_left : (y : Name) (xs outs : List Name) → is_in y xs ≡ true → is_in y (xs ++ outs) ≡ true
in_left y [] outs h = cc
in_left y (x ∷ xs) outs h = go (same_name y x) h (λ h. in_left y xs outs h)
  where
    go : (t : Bool) → (t || is_in y xs) ≡ true → (is_in y xs ≡ true → is_in y (xs ++ outs) ≡ true) → (t || is_in y (xs ++ outs)) ≡ true
    go true h later = refl
    go false h later = later h

pub in_right : (y : Name) (xs outs : List Name) → is_in y outs ≡ true → is_in y (xs ++ outs) ≡ true
in_right y [] outs h = h
in_right y (x ∷ xs) outs h = either (same_name y x) (is_in y (xs ++ outs)) (in_right y xs outs h)

in_more : (x : Name) (xs ys : List Name) → AreIn xs ys → AreIn (x ∷ xs) ys
in_more x xs [] h = tt
in_more x xs (y ∷ ys) h = (either (same_name y x) (is_in y xs) h.0, in_more x xs ys h.1)

pub in_itself : (xs : List Name) → AreIn xs xs
in_itself [] = tt
in_itself (x ∷ xs) = (ap (λ (t : Bool). t || is_in x xs) (same_name_itself x), in_more x xs xs (in_itself xs))

-- a use is one of the names that are bound, or one of the outside names
in_either : (xs outs ys : List Name) → AreIn outs (without xs ys) → AreIn (xs ++ outs) ys
in_either xs outs [] h = tt
in_either xs outs (y ∷ ys) h = go (is_in y xs) refl h (λ h. in_either xs outs ys h)
  where
    go : (t : Bool) → is_in y xs ≡ t → AreIn outs (if not t then y ∷ without xs ys else without xs ys) → (AreIn outs (without xs ys) → AreIn (xs ++ outs) ys)
        → AreIn (xs ++ outs) (y ∷ ys)
    go true e h later = (in_left y xs outs e, later h)
    go false e h later = (in_right y xs outs h.0, later h.1)

pub uses_of_turn : (xs ys : List Name) → AreIn (xs ++ once (without xs ys)) ys
uses_of_turn xs ys = in_either xs (once (without xs ys)) ys (uses_once (without xs ys))

-- what holds of those names, holds of these
pub each_in : (P : Name → Type 0) (names xs : List Name) → ((x : Name) → is_in x names ≡ true → P x) → AreIn names xs → Each P xs
each_in P names [] f h = tt
each_in P names (x ∷ xs) f h = (f x h.0, each_in P names xs f h.1)

each_some : (P : Name → Type 0) (f : Name → Bool) (xs : List Name) → Each P xs → Each P (filter f xs)
each_some P f [] h = tt
each_some P f (x ∷ xs) h = go (f x) (each_some P f xs h.1)
  where
    go : (t : Bool) → Each P (filter f xs) → Each P (if t then x ∷ filter f xs else filter f xs)
    go true k = (h.0, k)
    go false k = k

pub each_once : (P : Name → Type 0) (xs : List Name) → Each P xs → Each P (once xs)
each_once P [] h = tt
each_once P (x ∷ xs) h = (h.0, each_some P (λ y. not (same_name x y)) (once xs) (each_once P xs h.1))

-- SCOPES
module _ (P : Source → Type 0) where
  abbrev Known : Scope → List Name → Type 0
  Known scope xs = Each (λ x. P (source_in scope x)) xs

  front : (t : Bool) (s u : Source) → P s → (t ≡ false → P u) → P (if t then s else u)
  front true s u h k = h
  front false s u h k = k refl

  -- a name of the list
  pub in_scoped : (xs : List Name) (ss : List Source) (scope : Scope) → Each P ss → length xs ≤ length ss → (x : Name) → is_in x xs ≡ true
      → P (source_in (scoped xs ss scope) x)
  in_scoped [] ss scope h e x k = cc
  in_scoped (y ∷ xs) [] scope h e x k = absurd (omega (arith, e))
  in_scoped (y ∷ xs) (s ∷ ss) scope h e x k =
      front (same_name x y) s (source_in (scoped xs ss scope) x) h.0
      (λ f. in_scoped xs ss scope h.1 (omega (arith, e)) x (in_or (same_name x y) (is_in x xs) k f))

  -- any name
  past_scoped : (xs : List Name) (ss : List Source) (scope : Scope) → Each P ss → (x : Name) → P (source_in scope x) → P (source_in (scoped xs ss scope) x)
  past_scoped [] ss scope h x k = k
  past_scoped (y ∷ xs) [] scope h x k = k
  past_scoped (y ∷ xs) (s ∷ ss) scope h x k =
      front (same_name x y) s (source_in (scoped xs ss scope) x) h.0 (λ f. past_scoped xs ss scope h.1 x k)

  pub known_past : (xs : List Name) (ss : List Source) (scope : Scope) → Each P ss → (ys : List Name) → Known scope ys → Known (scoped xs ss scope) ys
  known_past xs ss scope h [] k = tt
  known_past xs ss scope h (y ∷ ys) k = (past_scoped xs ss scope h y k.0, known_past xs ss scope h ys k.1)

  pub known_in : (xs : List Name) (ss : List Source) (scope : Scope) → Each P ss → length xs ≤ length ss → (ys : List Name) → AreIn xs ys
      → Known (scoped xs ss scope) ys
  known_in xs ss scope h e ys k = each_in (λ x. P (source_in (scoped xs ss scope) x)) xs ys (λ x i. in_scoped xs ss scope h e x i) k

  -- the targets of a `let`
  in_let : (ts : List Target) (ss : List Source) (scope : Scope) → Each P ss → length ts ≡ length ss → (x : Name)
      → (is_in x (bound_by ts) ≡ false → P (source_in scope x)) → P (source_in (let_scoped ts ss scope) x)
  in_let [] ss scope h e x k = k refl
  in_let (t ∷ ts) [] scope h e x k = absurd (omega (arith, e))
  in_let (Drop ∷ ts) (s ∷ ss) scope h e x k = in_let ts ss scope h.1 (omega (arith, e)) x k
  in_let (Bind y ∷ ts) (s ∷ ss) scope h e x k =
      front (same_name x y.name) s (source_in (let_scoped ts ss scope) x) h.0
      (λ f. in_let ts ss scope h.1 (omega (arith, e)) x (λ g. k (ap (λ (t : Bool). t || is_in x (bound_by ts)) f ∙ g)))

  pub known_let : (ts : List Target) (ss : List Source) (scope : Scope) → Each P ss → length ts ≡ length ss → (ys : List Name)
      → Known scope (without (bound_by ts) ys) → Known (let_scoped ts ss scope) ys
  known_let ts ss scope h e [] k = tt
  known_let ts ss scope h e (y ∷ ys) k = go (is_in y (bound_by ts)) refl k (λ k. known_let ts ss scope h e ys k)
    where
      go : (t : Bool) → is_in y (bound_by ts) ≡ t → Known scope (if not t then y ∷ without (bound_by ts) ys else without (bound_by ts) ys)
          → (Known scope (without (bound_by ts) ys) → Known (let_scoped ts ss scope) ys) → Known (let_scoped ts ss scope) (y ∷ ys)
      go true f k later = (in_let ts ss scope h e y (λ g. absurd (cc)), later k)
      go false f k later = (in_let ts ss scope h e y (λ g. k.0), later k.1)

  pub each_source : (scope : Scope) (xs : List Name) → Known scope xs → Each P (map (source_in scope) xs)
  each_source scope [] h = tt
  each_source scope (x ∷ xs) h = (h.0, each_source scope xs h.1)
