-- An activity all of whose tokens have been present has happened or is enabled; and a run in which all such have happened is over.
use Rattle.std.proofs.Common.{◌≡◌, ℕ, ◌+◌, ◌<◌, ◌⊎◌, ℤ, List, [], ◌∷◌, ◌++◌, length, Some, inl, inr, refl, sym, ap, subst, arith}
use Rattle.std.proofs.Common.{⊎_elim, flat_map, length-append}
use Rattle.std.proofs.lemmas.List.Sorted.{IsPermutation-sym, length_permutation}
use Rattle.std.specs.Prelude.{sum}
use Rattle.tags.specs.declared.value.Value.{Value}
use Rattle.semantics.specs.Graph.{Graph, Flow, flow_of}
use Rattle.semantics.specs.WellFormed.{WellFormed}
use Rattle.semantics.specs.Meaning.{Context, Statement, AtNode, Tagged, tagged, Operand, Memory, State, Effect, Activity, Fires, Gates, Passes, Returns, Turns, Outputs}
use Rattle.semantics.specs.Meaning.{taken, operands_from, Deed, Says, Reads, Fills, Puts, Sends, tokens_of, when_full, when_empty, adds, with_cell, deed, done, Step}
use Rattle.semantics.specs.Meaning.{Run, Stood, start, fetch_count, Clashes}
use Rattle.semantics.proofs.Sums.{sum_of_zeros}
use Rattle.lemmas.proofs.Permutations.{Put, Perm, Within, Each, each_from, each_within, perm_refl, perm_to, put_first, within_from, within_to, get_within}
use Rattle.lemmas.proofs.Permutations.{within_permutation, put_IsPermutation}
use Rattle.source.specs.Theorem.{RestsWell}
use Rattle.law_confluence.specs.Outcome.{AreInputsOf}
use Rattle.law_confluence.proofs.ActivityKeys.{Differ, Unique, Held}
use Rattle.law_confluence.proofs.ActivityDiamond.{effect_of}
use Rattle.law_confluence.proofs.History.{Ever, run_lawful, stood_ever}
use Rattle.law_confluence.proofs.HistoryDue.{ever_stood}
use Rattle.law_confluence.proofs.HistoryLaws.{lawful_more}
use Rattle.law_confluence.proofs.HistoryRuns.{step_of}
use Rattle.law_confluence.proofs.Outcome.{each_place_once, standing_due}
use Rattle.law_confluence.proofs.OutcomeResolved.{flow_well, fits}
use Rattle.law_confluence.proofs.OutcomeRest.{takes_some, rest_without_tokens}
use Rattle.law_confluence.proofs.EquationsGraphFormed.{shaped, main_block}
use Rattle.law_confluence.proofs.EquationsRunRested.{Rested}
use Rattle.law_confluence.proofs.EquationsRunTakers.{Taker, taken_or_left, same_taker}
use Rattle.law_confluence.proofs.EquationsEndTokens.{no_tokens}
use Rattle.law_ordered_runs.specs.RunsGoOn.{Allows, RunsGoOn, ClosedRunsRest}

-- AN ACTIVITY'S TOKENS ARE AT DIFFERENT PLACES
operands_later : (c : Context) (s : Statement) (v : Value) (h k : ℕ) (vs : List Value) → h < k
    → Each (Differ (tagged c s (Operand h) v)) (operands_from c s k vs)
operands_later c s v h k [] l = tt
operands_later c s v h k (w ∷ vs) l = ((λ same. let p = same.2 in let e : h ≡ k = cc in omega arith), operands_later c s v h (k + 1) vs (omega arith))

operands_differ : (c : Context) (s : Statement) (k : ℕ) (vs : List Value) → Unique (operands_from c s k vs)
operands_differ c s k [] = tt
operands_differ c s k (v ∷ vs) = (operands_later c s v k (k + 1) vs (omega arith), operands_differ c s (k + 1) vs)

taken_differ : (a : Activity) → Unique (taken a)
taken_differ (Fires c n vs) = operands_differ c (AtNode n) 0 vs
taken_differ (Gates c n v b) = (((λ same. let p = same.2 in cc), tt), (tt, tt))
taken_differ (Passes c n i v) = (tt, tt)
taken_differ (Returns c n j v) = (tt, tt)
taken_differ (Turns c n i j b v) = (((λ same. let p = same.2 in cc), tt), (tt, tt))
taken_differ (Outputs j v) = (tt, tt)

-- TOKENS AND THE REST
within_other : (x y : Tagged) (zs ts : List Tagged) → Put x zs ts → Within y ts → Differ x y → Within y zs
within_other x y zs ts p h differ = go (within_permutation y ts (x ∷ zs) (IsPermutation-sym _ _ (put_IsPermutation x zs ts p)) h)
  where
    go : Within y (x ∷ zs) → Within y zs
    go (ws, inl k) =
        absurd (differ (ap (λ (t : Tagged). t.context) (sym k.0), ap (λ (t : Tagged). t.statement) (sym k.0), ap (λ (t : Tagged). t.port) (sym k.0)))
    go (ws, inr k) = (k.0, k.2)

split : (ts us : List Tagged) → Unique us → Held ts us → (rest : List Tagged) × Perm (us ++ rest) ts
split ts [] u h = (ts, perm_refl ts)
split ts (x ∷ us) u h =
    let put = h.0.1 in
    let held : Held h.0.0 us =
    each_from (λ y. Within y h.0.0) us (λ y k. within_other x y h.0.0 ts put (each_within (λ y. Within y ts) y us k h.1) (each_within (Differ x) y us k u.0)) in
    let rest = split h.0.0 us u.1 held in
    (rest.0, (h.0.0, put, rest.1))

-- what the memory allows has an effect
allowed : (fl : Flow) (m : Memory) (d : Deed) → Allows m d → (E : Effect) × (done fl m d ≡ Some E)
allowed fl m (Says x) h = (_, refl)
allowed fl m (Puts j v) h = (_, refl)
allowed fl m (Reads c n x) h = (_, ap (λ o. when_full o (λ v. adds (tokens_of fl (Sends c n 0 v)) m)) h.1)
allowed fl m (Fills c n x v) h = (_, ap (λ o. when_empty o (adds (tokens_of fl (Sends c n 0 v)) (with_cell m x v))) h)

module _ (g : Graph) (inputs : List ℤ) (well : WellFormed g) (count : AreInputsOf g inputs) (run : List Activity) (s : State)
    (r : Run (flow_of g) (start inputs) run s) where
  abbrev Came : Tagged → Type 0
  Came x = Stood (flow_of g) (start inputs) run s r x

  -- either one of these tokens was taken, or all are left
  some_taken : (ts : List Tagged) → Each Came ts → ((x : Tagged) × Within x ts × Taker run x) ⊎ Held s.tokens ts
  some_taken [] h = inr tt
  some_taken (x ∷ ts) h =
      ⊎_elim (λ t. inl (x, (ts, put_first x ts), t))
      (λ k. ⊎_elim (λ l. inl (l.0, (x ∷ l.1.0, inr (l.1.0, refl, l.1.1)), l.2)) (λ l. inr (within_from x s.tokens k, l)) (some_taken ts h.1))
      (taken_or_left g well inputs count run s r x h.0)

  pub goes_on : (a : Activity) (d : Deed) → deed (flow_of g) a ≡ Some d → Each Came (taken a) → Allows s.memory d
      → Within a run ⊎ ((t : State) × Step (flow_of g) a s t)
  goes_on a d e h ok =
      ⊎_elim (λ t. inl (subst (λ a. Within a run) (same_taker g well inputs count run s r a d e h t.0 t.1 t.2)
      (get_within run t.2.place t.2.activity t.2.stands)))
      (λ held.
      let parts = split s.tokens (taken a) (taken_differ a) held in
      let moved = IsPermutation-sym _ _ (perm_to (taken a ++ parts.0) s.tokens parts.1) in
      let E = allowed (flow_of g) s.memory d ok in
      inr (_, step_of (flow_of g) a s E.0 parts.0 (effect_of (flow_of g) s.memory a d E.0 e E.1) moved))
      (some_taken (taken a) h)

  -- A RUN THAT IS CLOSED
  module _ (closed : (a : Activity) (d : Deed) → deed (flow_of g) a ≡ Some d → Each Came (taken a) → Within a run) where
    whole : Rested
    whole =
        let main = main_block g well inputs count in
        record {
          flow = flow_of g;
          inputs = inputs;
          run = run;
          state = s;
          is_run = r;
          well = flow_well g well;
          shaped = shaped g well;
          main = main.0;
          is_main = main.1;
          count = main.2;
          unique = each_place_once g well inputs count s run r;
          lawful = λ x h.
              lawful_more (flow_of g) (Ever (flat_map taken run) s.tokens) Came (ever_stood (flow_of g) (start inputs) s run r) x
              (run_lawful (flow_of g) (flow_well g well) inputs (fits g well inputs count) s run r x (stood_ever (flow_of g) (start inputs) s run r x h));
          due = λ x h. standing_due g well inputs count s run r x h;
          happens = closed;
        }

    none_left : s.tokens ≡ []
    unfolding whole
    none_left = no_tokens whole

    no_clash : (x : ℕ) → Clashes (flow_of g) s x → ⊥
    no_clash x k =
        let some = takes_some (flow_of g) (flow_well g well) (Fires k.context k.node (k.index ∷ k.value ∷ [])) _ k.is_store in
        let long = length_permutation s.tokens _ k.tokens in
        let whole = length-append (taken (Fires k.context k.node (k.index ∷ k.value ∷ []))) k.rest in
        let none = ap length none_left in
        omega (arith, some, long, whole, none)

    pub closed_rests : RestsWell (flow_of g) inputs s
    closed_rests = record {
      reached = record { run = run; is_run = r };
      at_rest = rest_without_tokens (flow_of g) (flow_well g well) s none_left;
      no_clash = no_clash;
      none_waits = sum_of_zeros (sum (flow_of g).arrays) (λ x. fetch_count (flow_of g) x s.tokens)
          (λ x. ap (λ ts. fetch_count (flow_of g) x ts) none_left);
    }

pub runs_go_on : RunsGoOn
runs_go_on g inputs well count run s r a d e h ok =
    ⊎_elim (λ k. inl (within_to a run k)) (λ k. inr k)
    (goes_on g inputs well count run s r a d e (each_from _ (taken a) (λ x k. h x (within_to x (taken a) k))) ok)

pub closed_runs_rest : ClosedRunsRest
closed_runs_rest g inputs well count run s r closed =
    closed_rests g inputs well count run s r
    (λ a d e h. within_from a run (closed a d e (λ t k. each_within _ t (taken a) (within_from t (taken a) k) h)))
