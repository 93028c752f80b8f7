-- The names of a turn: those of the loop, with the values that the turn has, and the outside names, which are carried.
use Rattle.std.proofs.Common.{◌≡◌, ℤ, Bool, true, false, not, List, [], ◌∷◌, ◌++◌, map, Some, if◌then◌else◌, refl, sym, ap, ◌∙◌, subst}
use Rattle.std.specs.Prelude.{⊤}
use Rattle.tags.specs.declared.value.Value.{Value}
use Rattle.semantics.specs.declared.graph.Source.{Source}
use Rattle.semantics.specs.Graph.{Flow, same_name}
use Rattle.semantics.specs.Meaning.{Context, State, Activity, Run, start}
use Rattle.semantics.proofs.Lines.{same_name_is}
use Rattle.law_confluence.specs.Equations.{Has}
use Rattle.source.specs.Tree.{Name, NameAt}
use Rattle.source.specs.Outside.{is_in, without, bare}
use Rattle.source.specs.Evaluates.{Env, bound, entered}
use Rattle.source.specs.Lowered.{Scope, source_in, scoped}
use Rattle.law_language.specs.MeansAgrees.{Knows, Agrees, Have}
use Rattle.source.proofs.NamesUsed.{in_or, in_none}
use Rattle.law_language.proofs.MeansNamesAgree.{Entered}
use Rattle.law_language.proofs.MeansFirsts.{source_past}

-- each name stands for the value
abbrev pub BoundTo : Env → List Name → List Value → Type 0
BoundTo env [] [] = ⊤
BoundTo env [] (v ∷ vs) = ⊥
BoundTo env (x ∷ xs) [] = ⊥
BoundTo env (x ∷ xs) (v ∷ vs) = (bound env x ≡ Some v) × BoundTo env xs vs

module _ (fl : Flow) (inputs : List ℤ) (run : List Activity) (s : State) (r : Run fl (start inputs) run s) (c : Context) where
  abbrev HasIt : Source → Value → Type 0
  HasIt x v = Has fl inputs run s r c x v

  abbrev HaveIt : List Source → List Value → Type 0
  HaveIt xs vs = Have fl inputs run s r c xs vs

  abbrev KnowsIt : Scope → Env → Name → Type 0
  KnowsIt scope env x = Knows fl inputs run s r c scope env x

  abbrev AgreesIt : Scope → Env → List Name → Type 0
  AgreesIt scope env xs = Agrees fl inputs run s r c scope env xs

  -- THE LOOP'S NAMES, under the scope of the turn
  named_in : (scope : Scope) (env : Env) (xs : List NameAt) (vs : List Value) → HaveIt (map (source_in scope) (bare xs)) vs → (y : Name)
      → is_in y (bare xs) ≡ true → KnowsIt scope (entered xs vs env) y
  named_in scope env [] vs h y e = cc
  named_in scope env (x ∷ xs) [] h y e = absurd h
  named_in scope env (x ∷ xs) (v ∷ vs) h y e = go (same_name y x.name) refl (λ f. named_in scope env xs vs h.1 y
      (in_or (same_name y x.name) (is_in y (bare xs)) e f))
    where
      go : (t : Bool) → same_name y x.name ≡ t → (same_name y x.name ≡ false → KnowsIt scope (entered xs vs env) y)
          → (w : Value) × ((if t then Some v else bound (entered xs vs env) y) ≡ Some w) × HasIt (source_in scope y) w
      go true f later = (v, refl, subst (λ y. HasIt (source_in scope y) v) (sym (same_name_is y x.name f)) h.0)
      go false f later = later f

  named_past : (scope : Scope) (env : Env) (xs : List NameAt) (vs : List Value) (y : Name) → is_in y (bare xs) ≡ false → KnowsIt scope env y
      → KnowsIt scope (entered xs vs env) y
  named_past scope env [] vs y e h = h
  named_past scope env (x ∷ xs) [] y e h = h
  named_past scope env (x ∷ xs) (v ∷ vs) y e h =
      let k = in_none (same_name y x.name) (is_in y (bare xs)) e in
      let later = named_past scope env xs vs y k.1 h in
      (later.0, ap (λ (t : Bool). if t then Some v else bound (entered xs vs env) y) k.0 ∙ later.1, later.2)

  pub agrees_named : (scope : Scope) (env : Env) (xs : List NameAt) (vs : List Value) → HaveIt (map (source_in scope) (bare xs)) vs → (ys : List Name)
      → AgreesIt scope env (without (bare xs) ys)
      → AgreesIt scope (entered xs vs env) ys
  agrees_named scope env xs vs h [] k = tt
  agrees_named scope env xs vs h (y ∷ ys) k = go (is_in y (bare xs)) refl k (λ k. agrees_named scope env xs vs h ys k)
    where
      go : (t : Bool) → is_in y (bare xs) ≡ t → AgreesIt scope env (if not t then y ∷ without (bare xs) ys else without (bare xs) ys)
          → (AgreesIt scope env (without (bare xs) ys) → AgreesIt scope (entered xs vs env) ys) → AgreesIt scope (entered xs vs env) (y ∷ ys)
      go true e k later = (named_in scope env xs vs h y e, later k)
      go false e k later = (named_past scope env xs vs y e k.0, later k.1)

  -- what two parts use besides these names
  pub without_split : (scope : Scope) (env : Env) (xs ys zs : List Name) → AgreesIt scope env (without xs (ys ++ zs))
      → AgreesIt scope env (without xs ys) × AgreesIt scope env (without xs zs)
  without_split scope env xs [] zs h = (tt, h)
  without_split scope env xs (y ∷ ys) zs h = go (is_in y xs) h (λ k. without_split scope env xs ys zs k)
    where
      go : (t : Bool) → AgreesIt scope env (if not t then y ∷ without xs (ys ++ zs) else without xs (ys ++ zs))
          → (AgreesIt scope env (without xs (ys ++ zs)) → AgreesIt scope env (without xs ys) × AgreesIt scope env (without xs zs))
          → AgreesIt scope env (if not t then y ∷ without xs ys else without xs ys) × AgreesIt scope env (without xs zs)
      go true k later = later k
      go false k later = let l = later k.1 in ((k.0, l.0), l.1)

  -- THE OUTSIDE NAMES: what the names stand for are the values of their sources
  pub known_values : (scope : Scope) (env : Env) (xs : List Name) → AgreesIt scope env xs → (vs : List Value) × BoundTo env xs vs × HaveIt
      (map (source_in scope) xs) vs
  known_values scope env [] h = ([], tt, tt)
  known_values scope env (x ∷ xs) h =
      let k = known_values scope env xs h.1 in (h.0.0 ∷ k.0, (h.0.1, k.1), (h.0.2, k.2))

  pub entered_values : (env : Env) (xs : List Name) (ss : List Source) (vs : List Value) → BoundTo env xs vs → HaveIt ss vs
      → Entered fl inputs run s r c env xs ss
  entered_values env [] ss vs b h = tt
  entered_values env (x ∷ xs) ss [] b h = absurd b
  entered_values env (x ∷ xs) [] (v ∷ vs) b h = absurd h
  entered_values env (x ∷ xs) (z ∷ ss) (v ∷ vs) b h = ((v, b.0, h.0), entered_values env xs ss vs b.1 h.1)

  -- names that are none of those in front
  pub agrees_behind : (xs : List Name) (ss : List Source) (scope : Scope) (env : Env) (ys : List Name) → AgreesIt scope env (without xs ys)
      → AgreesIt (scoped xs ss scope) env (without xs ys)
  agrees_behind xs ss scope env [] h = tt
  agrees_behind xs ss scope env (y ∷ ys) h = go (is_in y xs) refl h (λ k. agrees_behind xs ss scope env ys k)
    where
      go : (t : Bool) → is_in y xs ≡ t → AgreesIt scope env (if not t then y ∷ without xs ys else without xs ys)
          → (AgreesIt scope env (without xs ys) → AgreesIt (scoped xs ss scope) env (without xs ys))
          → AgreesIt (scoped xs ss scope) env (if not t then y ∷ without xs ys else without xs ys)
      go true e k later = later k
      go false e k later = ((k.0.0, k.0.1, subst (λ z. HasIt z k.0.0) (sym (source_past y xs ss scope e)) k.0.2), later k.1)
