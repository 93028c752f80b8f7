-- Where scope and names agree, they agree after what binds names: a list of names, a `let`, and the enters of an arm. Only
-- the names that are used matter.
use Rattle.std.proofs.Common.{◌≡◌, ℤ, Bool, true, false, not, ◌||◌, List, [], ◌∷◌, ◌++◌, length, filter, Some, if◌then◌else◌, refl, ap, ◌∙◌, arith}
use Rattle.std.specs.Prelude.{⊤}
use Rattle.tags.specs.declared.value.Value.{Value}
use Rattle.semantics.specs.declared.graph.Source.{Source}
use Rattle.semantics.specs.Graph.{Flow, same_name}
use Rattle.semantics.specs.Meaning.{Context, State, Activity, Run, start}
use Rattle.semantics.proofs.Lines.{same_name_is}
use Rattle.law_confluence.specs.Equations.{Has}
use Rattle.source.specs.Tree.{Name, NameAt, Target, Bind, Drop}
use Rattle.source.specs.Outside.{is_in, without, once, bare, bound_by}
use Rattle.source.specs.Evaluates.{Env, bound, entered, let_in}
use Rattle.source.specs.Lowered.{Scope, source_in, scoped, let_scoped}
use Rattle.law_language.specs.MeansAgrees.{Knows, Agrees, Have}
use Rattle.source.proofs.NamesUsed.{AreIn, in_or}

module _ (fl : Flow) (inputs : List ℤ) (run : List Activity) (s : State) (r : Run fl (start inputs) run s) (c : Context) where
  abbrev HasIt : Source → Value → Type 0
  HasIt x v = Has fl inputs run s r c x v

  abbrev HaveIt : List Source → List Value → Type 0
  HaveIt xs vs = Have fl inputs run s r c xs vs

  abbrev KnowsIt : Scope → Env → Name → Type 0
  KnowsIt scope env x = Knows fl inputs run s r c scope env x

  abbrev AgreesIt : Scope → Env → List Name → Type 0
  AgreesIt scope env xs = Agrees fl inputs run s r c scope env xs

  -- LISTS OF NAMES
  pub agrees_split : (scope : Scope) (env : Env) (xs ys : List Name) → AgreesIt scope env (xs ++ ys) → AgreesIt scope env xs × AgreesIt scope env ys
  agrees_split scope env [] ys h = (tt, h)
  agrees_split scope env (x ∷ xs) ys h = let k = agrees_split scope env xs ys h.1 in ((h.0, k.0), k.1)

  pub agrees_each : (scope : Scope) (env : Env) (names xs : List Name) → ((x : Name) → is_in x names ≡ true → KnowsIt scope env x) → AreIn names xs
      → AgreesIt scope env xs
  agrees_each scope env names [] f h = tt
  agrees_each scope env names (x ∷ xs) f h = (f x h.0, agrees_each scope env names xs f h.1)

  agrees_some : (scope : Scope) (env : Env) (f : Name → Bool) (xs : List Name) → AgreesIt scope env xs → AgreesIt scope env (filter f xs)
  agrees_some scope env f [] h = tt
  agrees_some scope env f (x ∷ xs) h = go (f x) (agrees_some scope env f xs h.1)
    where
      go : (t : Bool) → AgreesIt scope env (filter f xs) → AgreesIt scope env (if t then x ∷ filter f xs else filter f xs)
      go true k = (h.0, k)
      go false k = k

  -- what all uses agree on, the outside names do
  pub agrees_once : (scope : Scope) (env : Env) (xs : List Name) → AgreesIt scope env xs → AgreesIt scope env (once xs)
  agrees_once scope env [] h = tt
  agrees_once scope env (x ∷ xs) h = (h.0, agrees_some scope env (λ y. not (same_name x y)) (once xs) (agrees_once scope env xs h.1))

  -- NAMES IN FRONT
  abbrev Bound : Bool → Value → Env → Source → Scope → Name → Type 0
  Bound t v env x scope name = (w : Value) × ((if t then Some v else bound env name) ≡ Some w) × HasIt (if t then x else source_in scope name) w

  front : (t : Bool) (v : Value) (env : Env) (x : Source) (scope : Scope) (name : Name) → HasIt x v → (t ≡ false → KnowsIt scope env name)
      → Bound t v env x scope name
  front true v env x scope name h k = (v, refl, h)
  front false v env x scope name h k = k refl

  -- a name of the list has the value in its place
  pub known_in : (xs : List NameAt) (ss : List Source) (vs : List Value) (scope : Scope) (env : Env) → HaveIt ss vs → length xs ≡ length ss
      → (x : Name) → is_in x (bare xs) ≡ true → KnowsIt (scoped (bare xs) ss scope) (entered xs vs env) x
  known_in [] ss vs scope env h e x k = cc
  known_in (y ∷ xs) [] vs scope env h e x k = absurd (omega (arith, e))
  known_in (y ∷ xs) (z ∷ ss) [] scope env h e x k = absurd h
  known_in (y ∷ xs) (z ∷ ss) (v ∷ vs) scope env h e x k =
      front (same_name x y.name) v (entered xs vs env) z (scoped (bare xs) ss scope) x h.0
      (λ f. known_in xs ss vs scope env h.1 (omega (arith, e)) x (in_or (same_name x y.name) (is_in x (bare xs)) k f))

  -- and any other name what it had
  pub known_past : (xs : List NameAt) (ss : List Source) (vs : List Value) (scope : Scope) (env : Env) → HaveIt ss vs
      → (x : Name) → KnowsIt scope env x → KnowsIt (scoped (bare xs) ss scope) (entered xs vs env) x
  known_past [] ss vs scope env h x k = k
  known_past (y ∷ xs) [] [] scope env h x k = k
  known_past (y ∷ xs) [] (v ∷ vs) scope env h x k = absurd h
  known_past (y ∷ xs) (z ∷ ss) [] scope env h x k = absurd h
  known_past (y ∷ xs) (z ∷ ss) (v ∷ vs) scope env h x k =
      front (same_name x y.name) v (entered xs vs env) z (scoped (bare xs) ss scope) x h.0 (λ f. known_past xs ss vs scope env h.1 x k)

  pub agrees_entered : (xs : List NameAt) (ss : List Source) (vs : List Value) (scope : Scope) (env : Env) → HaveIt ss vs → length xs ≡ length ss
      → (ys : List Name) → AgreesIt scope env (without (bare xs) ys) → AgreesIt (scoped (bare xs) ss scope) (entered xs vs env) ys
  agrees_entered xs ss vs scope env h e [] k = tt
  agrees_entered xs ss vs scope env h e (y ∷ ys) k = go (is_in y (bare xs)) refl k (λ k. agrees_entered xs ss vs scope env h e ys k)
    where
      go : (t : Bool) → is_in y (bare xs) ≡ t → AgreesIt scope env (if not t then y ∷ without (bare xs) ys else without (bare xs) ys)
          → (AgreesIt scope env (without (bare xs) ys) → AgreesIt (scoped (bare xs) ss scope) (entered xs vs env) ys)
          → AgreesIt (scoped (bare xs) ss scope) (entered xs vs env) (y ∷ ys)
      go true f k later = (known_in xs ss vs scope env h e y f, later k)
      go false f k later = (known_past xs ss vs scope env h y k.0, later k.1)

  -- TARGETS OF A LET
  let_known : (ts : List Target) (ss : List Source) (vs : List Value) (scope : Scope) (env : Env) → HaveIt ss vs → length ts ≡ length ss
      → (x : Name) → (is_in x (bound_by ts) ≡ false → KnowsIt scope env x) → KnowsIt (let_scoped ts ss scope) (let_in ts vs env) x
  let_known [] ss vs scope env h e x k = k refl
  let_known (t ∷ ts) [] vs scope env h e x k = absurd (omega (arith, e))
  let_known (t ∷ ts) (z ∷ ss) [] scope env h e x k = absurd h
  let_known (Drop ∷ ts) (z ∷ ss) (v ∷ vs) scope env h e x k = let_known ts ss vs scope env h.1 (omega (arith, e)) x k
  let_known (Bind y ∷ ts) (z ∷ ss) (v ∷ vs) scope env h e x k =
      front (same_name x y.name) v (let_in ts vs env) z (let_scoped ts ss scope) x h.0
      (λ f. let_known ts ss vs scope env h.1 (omega (arith, e)) x (λ g. k (ap (λ (t : Bool). t || is_in x (bound_by ts)) f ∙ g)))

  pub agrees_let : (ts : List Target) (ss : List Source) (vs : List Value) (scope : Scope) (env : Env) → HaveIt ss vs → length ts ≡ length ss
      → (ys : List Name) → AgreesIt scope env (without (bound_by ts) ys) → AgreesIt (let_scoped ts ss scope) (let_in ts vs env) ys
  agrees_let ts ss vs scope env h e [] k = tt
  agrees_let ts ss vs scope env h e (y ∷ ys) k = go (is_in y (bound_by ts)) refl k (λ k. agrees_let ts ss vs scope env h e ys k)
    where
      go : (t : Bool) → is_in y (bound_by ts) ≡ t → AgreesIt scope env (if not t then y ∷ without (bound_by ts) ys else without (bound_by ts) ys)
          → (AgreesIt scope env (without (bound_by ts) ys) → AgreesIt (let_scoped ts ss scope) (let_in ts vs env) ys)
          → AgreesIt (let_scoped ts ss scope) (let_in ts vs env) (y ∷ ys)
      go true f k later = (let_known ts ss vs scope env h e y (λ g. absurd (cc)), later k)
      go false f k later = (let_known ts ss vs scope env h e y (λ g. k.0), later k.1)

  -- ARMS: each name has its enter, with the value that it stands for.
  abbrev pub Entered : Env → List Name → List Source → Type 0
  Entered env [] ss = ⊤
  Entered env (x ∷ xs) [] = ⊥
  Entered env (x ∷ xs) (z ∷ ss) = ((v : Value) × (bound env x ≡ Some v) × HasIt z v) × Entered env xs ss

  arm_known : (env : Env) (xs : List Name) (ss : List Source) (scope : Scope) → Entered env xs ss → (x : Name) → is_in x xs ≡ true
      → KnowsIt (scoped xs ss scope) env x
  arm_known env [] ss scope h x k = cc
  arm_known env (y ∷ xs) [] scope h x k = absurd h
  arm_known env (y ∷ xs) (z ∷ ss) scope h x k = go (same_name x y) refl (λ e. arm_known env xs ss scope h.1 x e)
    where
      go : (t : Bool) → same_name x y ≡ t → (is_in x xs ≡ true → KnowsIt (scoped xs ss scope) env x)
          → (w : Value) × (bound env x ≡ Some w) × HasIt (if t then z else source_in (scoped xs ss scope) x) w
      go true e later = (h.0.0, ap (bound env) (same_name_is x y e) ∙ h.0.1, h.0.2)
      go false e later = later (in_or (same_name x y) (is_in x xs) k e)

  pub agrees_arm : (env : Env) (xs : List Name) (ss : List Source) (scope : Scope) → Entered env xs ss → (ys : List Name) → AreIn xs ys
      → AgreesIt (scoped xs ss scope) env ys
  agrees_arm env xs ss scope h ys k = agrees_each (scoped xs ss scope) env xs ys (λ x e. arm_known env xs ss scope h x e) k
