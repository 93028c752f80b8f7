-- What holds of a state holds of it with its tokens in another order.
use Rattle.std.proofs.Common.{ℕ, List, sym, ap, ◌∙◌}
use Rattle.std.proofs.lemmas.List.Sorted.{IsPermutation-sym, IsPermutation-trans}
use Rattle.semantics.specs.Graph.{Flow}
use Rattle.semantics.specs.Meaning.{Memory, State, Activity, Same, AtRest, Clashes}
use Rattle.law_confluence.specs.Outcome.{NoClash}
use Rattle.law_confluence.proofs.OutcomeDeterminacy.{same_sym, step_same, run_same}
use Rattle.oracle.specs.Waves.{AreEnabled, IsWave}

pub clash_same : (fl : Flow) (s t : State) (x : ℕ) → Same s t → Clashes fl s x → Clashes fl t x
clash_same fl s t x h c = record {
  context = c.context;
  node = c.node;
  index = c.index;
  value = c.value;
  held = c.held;
  rest = c.rest;
  is_store = c.is_store;
  tokens = IsPermutation-trans _ _ _ (IsPermutation-sym _ _ h.0) c.tokens;
  full = ap (λ (m : Memory). m.cells x) (sym h.1) ∙ c.full;
}

pub rest_same : (fl : Flow) (s t : State) → Same s t → AtRest fl s → AtRest fl t
rest_same fl s t h rest a u p = rest a u (step_same fl t s u a (same_sym s t h) p)

pub quiet_same : (fl : Flow) (s t : State) → Same s t → NoClash fl s → NoClash fl t
quiet_same fl s t h quiet x c = quiet x (clash_same fl t s x (same_sym s t h) c)

pub enabled_same : (fl : Flow) (s t : State) (acts : List Activity) → Same s t → AreEnabled fl s acts → AreEnabled fl t acts
enabled_same fl s t acts h e = record {
  rest = e.rest;
  takes = IsPermutation-trans _ _ _ (IsPermutation-sym _ _ h.0) e.takes;
  each = λ k a is. let one = e.each k a is in (one.0, step_same fl s t one.0 a h one.1);
  all = λ a u p. e.all a u (step_same fl t s u a (same_sym s t h) p);
  once = e.once;
}

pub wave_same : (fl : Flow) (s t u : State) (acts : List Activity) → Same s t → IsWave fl s acts u → IsWave fl t acts u
wave_same fl s t u acts h w = record { enabled = enabled_same fl s t acts h w.enabled; run = run_same fl s t u acts h w.run }
