-- The tokens of a run: each that was present is taken by one activity of the run, or is left.
use Rattle.std.proofs.Common.{◌≡◌, ℕ, zero, suc, ◌⊎◌, ℤ, List, [], ◌∷◌, ◌++◌, length, Some, inl, inr, refl, subst, ⊎_elim, flat_map, Contains}
use Rattle.std.specs.Prelude.{slice_get}
use Rattle.std.proofs.lemmas.Option.{same_Some}
use Rattle.semantics.specs.Graph.{Graph, Flow, flow_of}
use Rattle.semantics.specs.WellFormed.{WellFormed}
use Rattle.semantics.specs.Meaning.{Tagged, State, Activity, taken, Deed, deed, Run, Stood, start}
use Rattle.semantics.specs.Faithful.{inputs_of}
use Rattle.lemmas.proofs.Permutations.{Within, Each, each_from, each_weaker, within_append, within_left, within_flat_map, within_to, get_within}
use Rattle.law_confluence.proofs.History.{stood_ever}
use Rattle.law_confluence.proofs.ActivityKeys.{same_activity}
use Rattle.law_confluence.proofs.ActivityDiamond.{deed_of}
use Rattle.law_confluence.proofs.Outcome.{each_place_once, each_activity_once}

-- the activity of a run that takes a token
pub record Taker (run : List Activity) (x : Tagged) : Type 0 where
  pub place : ℕ
  pub activity : Activity
  pub stands : slice_get run place ≡ Some activity
  pub takes : Within x (taken activity)

later : (a : Activity) (run : List Activity) (x : Tagged) → Taker run x → Taker (a ∷ run) x
later a run x t = record { place = suc t.place; activity = t.activity; stands = t.stands; takes = t.takes }

pub taker : (run : List Activity) (x : Tagged) → Within x (flat_map taken run) → Taker run x
taker [] x h = absurd (none h)
  where
    none : Within x [] → ⊥
    none h = absurd h.1
taker (a ∷ run) x h =
    ⊎_elim (λ (k : Within x (taken a)). record { place = 0; activity = a; stands = refl; takes = k })
    (λ k. later a run x (taker run x k))
    (within_append x (taken a) (flat_map taken run) h)

module _ (g : Graph) (well : WellFormed g) (inputs : List ℤ) (count : length inputs ≡ inputs_of (flow_of g)) (run : List Activity) (s : State)
    (r : Run (flow_of g) (start inputs) run s) where
  pub taken_or_left : (x : Tagged) → Stood (flow_of g) (start inputs) run s r x → Taker run x ⊎ Contains s.tokens x
  taken_or_left x h =
      ⊎_elim (λ k. inl (taker run x k)) (λ k. inr (within_to x s.tokens k))
      (within_append x (flat_map taken run) s.tokens (stood_ever (flow_of g) (start inputs) s run r x h))

  pub one_taker : (x : Tagged) (t u : Taker run x) → t.place ≡ u.place
  one_taker x t u =
      each_activity_once g well inputs count s run r t.place u.place t.activity u.activity x x t.stands u.stands t.takes u.takes (refl, refl, refl)

-- each activity of a run has a deed
pub run_deeds : (fl : Flow) (s t : State) (run : List Activity) → Run fl s run t → (i : ℕ) (a : Activity) → slice_get run i ≡ Some a
    → (d : Deed) × (deed fl a ≡ Some d)
run_deeds fl s t [] r i a e = cc
run_deeds fl s t (b ∷ run) r zero a e =
    let d = deed_of fl s.memory b r.1.does r.1.allowed in (d.0, subst (λ a. deed fl a ≡ Some d.0) (same_Some b a e) d.1)
run_deeds fl s t (b ∷ run) r (suc i) a e = run_deeds fl r.0 t run r.2 i a e

module _ (g : Graph) (well : WellFormed g) (inputs : List ℤ) (count : length inputs ≡ inputs_of (flow_of g)) (run : List Activity) (s : State)
    (r : Run (flow_of g) (start inputs) run s) where
  abbrev Ever : Tagged → Type 0
  Ever x = Within x (flat_map taken run ++ s.tokens)

  -- If all tokens that an activity would take were present, and one of them was taken, that very activity took it.
  pub same_taker : (a : Activity) (d : Deed) → deed (flow_of g) a ≡ Some d → Each (Stood (flow_of g) (start inputs) run s r) (taken a) → (x : Tagged)
      → Within x (taken a) → (t : Taker run x) → t.activity ≡ a
  same_taker a d e held x h t =
      let its = run_deeds (flow_of g) (start inputs) s run r t.place t.activity t.stands in
      let mine : Each Ever (taken a) = each_weaker (Stood (flow_of g) (start inputs) run s r) Ever (λ y k. stood_ever (flow_of g) (start inputs) s run r y k)
      (taken a) held in
      let there : Each Ever (taken t.activity) =
      each_from Ever (taken t.activity) (λ y k. within_left y (flat_map taken run) s.tokens
      (within_flat_map taken t.activity y run (get_within run t.place t.activity t.stands) k)) in
      same_activity (flow_of g) (flat_map taken run ++ s.tokens)
      (each_place_once g well inputs count s run r) t.activity a its.0 d its.1 e there mine x t.takes h
