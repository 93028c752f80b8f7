-- Sources that have values, one by one.
use Rattle.std.proofs.Common.{◌≡◌, ℕ, zero, suc, ℤ, List, [], ◌∷◌, ◌++◌, length, Some, refl, ap, subst, arith}
use Rattle.std.specs.Prelude.{slice_get}
use Rattle.std.proofs.lemmas.Option.{same_Some}
use Rattle.tags.specs.declared.value.Value.{Value}
use Rattle.semantics.specs.declared.graph.Source.{Source}
use Rattle.semantics.specs.Graph.{Flow}
use Rattle.semantics.specs.Meaning.{Context, State, Activity, Run, start}
use Rattle.law_confluence.specs.Equations.{Has}
use Rattle.law_language.specs.MeansAgrees.{Have}

module _ (fl : Flow) (inputs : List ℤ) (run : List Activity) (s : State) (r : Run fl (start inputs) run s) (c : Context) where
  abbrev HasIt : Source → Value → Type 0
  HasIt x v = Has fl inputs run s r c x v

  abbrev HaveIt : List Source → List Value → Type 0
  HaveIt xs vs = Have fl inputs run s r c xs vs

  pub have_value : (xs : List Source) (vs : List Value) (j : ℕ) (x : Source) → HaveIt xs vs → slice_get xs j ≡ Some x
      → (v : Value) × (slice_get vs j ≡ Some v) × HasIt x v
  have_value [] vs j x h e = cc
  have_value (y ∷ xs) [] j x h e = absurd h
  have_value (y ∷ xs) (v ∷ vs) zero x h e = (v, refl, subst (λ x. HasIt x v) (same_Some y x e) h.0)
  have_value (y ∷ xs) (v ∷ vs) (suc j) x h e = have_value xs vs j x h.1 e

  pub have_source : (xs : List Source) (vs : List Value) (j : ℕ) (v : Value) → HaveIt xs vs → slice_get vs j ≡ Some v
      → (x : Source) × (slice_get xs j ≡ Some x) × HasIt x v
  have_source [] [] j v h e = cc
  have_source (y ∷ xs) [] j v h e = absurd h
  have_source [] (w ∷ vs) j v h e = absurd h
  have_source (y ∷ xs) (w ∷ vs) zero v h e = (y, refl, subst (λ v. HasIt y v) (same_Some w v e) h.0)
  have_source (y ∷ xs) (w ∷ vs) (suc j) v h e = have_source xs vs j v h.1 e

  pub have_length : (xs : List Source) (vs : List Value) → HaveIt xs vs → length xs ≡ length vs
  have_length [] [] h = refl
  have_length [] (v ∷ vs) h = absurd h
  have_length (x ∷ xs) [] h = absurd h
  have_length (x ∷ xs) (v ∷ vs) h = ap suc (have_length xs vs h.1)

  pub have_both : (xs ys : List Source) (vs us : List Value) → HaveIt xs vs → HaveIt ys us → HaveIt (xs ++ ys) (vs ++ us)
  have_both [] ys [] us h k = k
  have_both [] ys (v ∷ vs) us h k = absurd h
  have_both (x ∷ xs) ys [] us h k = absurd h
  have_both (x ∷ xs) ys (v ∷ vs) us h k = (h.0, have_both xs ys vs us h.1 k)

  pub have_split : (xs ys : List Source) (vs us : List Value) → length xs ≡ length vs → HaveIt (xs ++ ys) (vs ++ us) → HaveIt xs vs × HaveIt ys us
  have_split [] ys [] us e h = (tt, h)
  have_split [] ys (v ∷ vs) us e h = absurd (omega (arith, e))
  have_split (x ∷ xs) ys [] us e h = absurd (omega (arith, e))
  have_split (x ∷ xs) ys (v ∷ vs) us e h = let k = have_split xs ys vs us (omega (arith, e)) h.1 in ((h.0, k.0), k.1)
