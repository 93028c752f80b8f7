-- The activities that were found are exactly those that are enabled at the beginning of the wave.
use Rattle.std.proofs.Common.{◌≡◌, ℕ, ◌⊎◌, ℤ, List, [], ◌∷◌, ◌++◌, map, flat_map, length, Option, Some, None, slice_get, IsPermutation, Contains}
use Rattle.std.proofs.Common.{inl, inr, refl, sym, ap, ap₂, ◌∙◌, subst, ⊎_elim, append_assoc}
use Rattle.std.proofs.lemmas.List.{map-append}
use Rattle.std.proofs.lemmas.List.Sorted.{IsPermutation-refl, IsPermutation-trans, IsPermutation-append_left}
use Rattle.std.proofs.lemmas.Option.{same_Some}
use Rattle.tags.specs.declared.value.Value.{Value}
use Rattle.semantics.specs.Graph.{Graph, flow_of}
use Rattle.semantics.specs.WellFormed.{WellFormed}
use Rattle.semantics.specs.Faithful.{inputs_of}
use Rattle.semantics.specs.Meaning.{Context, AtNode, Tagged, tagged, Memory, State, Activity, taken, deed, done, adds, tokens_of, Step, AtRest}
use Rattle.semantics.specs.Meaning as Meaning
use Rattle.law_confluence.specs.Outcome.{NoClash}
use Rattle.law_confluence.proofs.ActivityDeeds.{full_of}
use Rattle.law_confluence.proofs.ActivityDiamond.{deed_of, held_from, effect_of}
use Rattle.law_confluence.proofs.OutcomeDeterminacy.{same_sym}
use Rattle.law_confluence.proofs.ActivityKeys.{Unique, Held, same_activity}
use Rattle.lemmas.proofs.Permutations.{Within, Each, put_first, each_from, each_within, within_append, within_left, within_right, within_to}
use Rattle.lemmas.proofs.Permutations.{each_weaker, get_within}
use Rattle.law_confluence.proofs.OutcomeResolved.{flow_well}
use Rattle.law_confluence.proofs.OutcomeRest.{takes_some, some_taken}
use Rattle.law_confluence.proofs.HistoryRuns.{activity_once, step_of}
use Rattle.law_confluence.proofs.Outcome.{reached_unique}
use Rattle.oracle.specs.declared.invocations.Invocation.{Invocation}
use Rattle.oracle.specs.Deeds.{Deed}
use Rattle.oracle.specs.declared.state.Gate.TheVariants.{Free}
use Rattle.oracle.specs.declared.tokens.Token.{Token}
use Rattle.oracle.specs.Acting.{gate_of, held_in}
use Rattle.oracle.specs.Running.{Plain, plain}
use Rattle.oracle.specs.Meant.{tagged_of}
use Rattle.oracle.specs.Waves.{AreEnabled}
use Rattle.oracle.proofs.Filling.{memory_of}
use Rattle.oracle.proofs.Finding.{Gathers}
use Rattle.oracle.proofs.Following.{meant}
use Rattle.oracle.proofs.Performing.{does}
use Rattle.oracle.proofs.SameStates.{rest_same, quiet_same, enabled_same}
use Rattle.oracle.proofs.Taking.{all_taken, taking_at, flat_within, one_taken}
use Rattle.oracle.proofs.Waiting.{each_either, IsDeferred, at_rest, no_clash}

module _ (g : Graph) (well : WellFormed g) (inputs : List ℤ) (fit : length inputs ≡ inputs_of (flow_of g)) (k : ℕ) (old : State)
    (xs : List Invocation) (cells outputs : List (Option Value)) (w d : List Token) (acts : List (List Value × Deed))
    (h : Gathers g inputs k old xs cells outputs [] w d acts) where
  abbrev cs : List Context
  cs = h.follows.sound.names

  abbrev s : Plain
  s = plain xs h.held w d cells outputs

  abbrev state : State
  state = meant cs s

  abbrev ts : List Tagged
  ts = map (tagged_of cs) (h.held ++ (w ++ d))

  abbrev m : Memory
  m = memory_of cells outputs

  unique : Unique ts
  unique = reached_unique g well inputs fit state record { run = h.follows.run; is_run = h.follows.is_run }

  -- in three parts
  parts : ts ≡ flat_map taken h.activities ++ (map (tagged_of cs) w ++ map (tagged_of cs) d)
  parts =
      map-append (tagged_of cs) h.held (w ++ d)
      ∙ ap₂ (λ (a b : List Tagged). a ++ b) (all_taken g k cs (length xs) (λ e. gate_of cells e ≡ Free) h.held acts h.activities h.taking)
      (map-append (tagged_of cs) w d)

  takes : IsPermutation ts (flat_map taken h.activities ++ (map (tagged_of cs) w ++ map (tagged_of cs) d))
  takes = subst (λ l. IsPermutation ts l) parts (IsPermutation-refl ts)

  -- each of them is enabled
  each : (i : ℕ) (a : Activity) → slice_get h.activities i ≡ Some a → (t : State) × Step (flow_of g) a state t
  each i a e =
      let one = taking_at g k cs (length xs) (λ e. gate_of cells e ≡ Free) h.held acts h.activities h.taking a (get_within h.activities i a e) in
      let others = one_taken h.activities i a e in
      let rest = map (tagged_of cs) w ++ map (tagged_of cs) d in
      let E = does g inputs k s one.1.0 cs one.1.1 one.3 in
      let p : IsPermutation ts (taken a ++ (others.0 ++ rest)) =
      subst (λ l. IsPermutation ts l) (append_assoc (taken a) others.0 rest)
      (IsPermutation-trans _ _ _ takes (IsPermutation-append_left rest (flat_map taken h.activities) (taken a ++ others.0) others.1)) in
      (_, step_of (flow_of g) a state E.0 (others.0 ++ rest) (effect_of (flow_of g) m a _ E.0 one.2.does E.1) p)

  -- what is enabled is one of them
  held_by : (b : Activity) → Within b h.activities → Held ts (taken b)
  held_by b wb = each_from (λ u. Within u ts) (taken b)
      (λ u wu. subst (λ l. Within u l) (sym parts) (within_left u (flat_map taken h.activities) _ (in_flat u b h.activities wb wu)))
    where
      in_flat : (u : Tagged) (b : Activity) (as' : List Activity) → Within b as' → Within u (taken b) → Within u (flat_map taken as')
      in_flat u b [] wb wu = absurd wb.1
      in_flat u b (a ∷ as') (zs, inl p) wu = within_left u (taken a) (flat_map taken as') (subst (λ x. Within u (taken x)) p.0 wu)
      in_flat u b (a ∷ as') (zs, inr p) wu = within_right u (taken a) (flat_map taken as') (in_flat u b as' (p.0, p.2) wu)

  of_held : (a : Activity) (e : Meaning.Deed) → deed (flow_of g) a ≡ Some e → Held ts (taken a) → (y : Tagged) → Within y (taken a)
      → Within y (flat_map taken h.activities) → Contains h.activities a
  of_held a e is held y ya yf =
      let b = flat_within y h.activities yf in
      let one = taking_at g k cs (length xs) (λ e. gate_of cells e ≡ Free) h.held acts h.activities h.taking b.0 b.1 in
      let same = same_activity (flow_of g) ts unique a b.0 e _ is one.2.does held (held_by b.0 b.1) y ya b.2 in
      subst (λ x. Contains h.activities x) (sym same) (within_to b.0 h.activities b.1)

  -- a deferred fetch is not enabled
  of_deferred : (a : Activity) (e : Meaning.Deed) → deed (flow_of g) a ≡ Some e → Held ts (taken a) → (y : Tagged) → Within y (taken a)
      → Within y (map (tagged_of cs) d)
      → (E : Meaning.Effect) → done (flow_of g) m e ≡ Some E → ⊥
  of_deferred a e is held y ya yd E did =
      let f = each_within (IsDeferred (flow_of g) (held_in cells)) y (map (tagged_of cs) d) yd h.follows.sound.defers in
      let b = Meaning.Fires f.context f.node (f.value ∷ []) in
      let z = tagged f.context (AtNode f.node) (Meaning.Operand 0) f.value in
      let mine : Within z ts = subst (λ u. Within u ts) f.is (each_within (λ u. Within u ts) y (taken a) ya held) in
      let same = same_activity (flow_of g) ts unique a b e (Meaning.Reads f.context f.node f.cell) is f.fetch held (mine, tt) y ya
      (subst (λ u. Within u (z ∷ [])) (sym f.is) ([], put_first z [])) in
      let deeds : e ≡ Meaning.Reads f.context f.node f.cell = same_Some _ _ (sym is ∙ ap (λ x. deed (flow_of g) x) same ∙ f.fetch) in
      let done_it = subst (λ e. done (flow_of g) m e ≡ Some E) deeds did in
      let v = full_of (held_in cells f.cell) (λ v. adds (tokens_of (flow_of g) (Meaning.Sends f.context f.node 0 v)) m) E done_it in
      let no : None ≡ Some v.0 = sym f.empty ∙ v.1 in
      cc

  all : (a : Activity) (t : State) → Step (flow_of g) a state t → Contains h.activities a
  all a t p =
      let e = deed_of (flow_of g) m a p.does p.allowed in
      let held = held_from ts (taken a) p.rest p.takes in
      let W = map (tagged_of cs) w in
      let D = map (tagged_of cs) d in
      let F = flat_map taken h.activities in
      let sides : Each (λ y. Within y W ⊎ (Within y F ⊎ Within y D)) (taken a) =
      each_weaker (λ y. Within y ts) (λ y. Within y W ⊎ (Within y F ⊎ Within y D))
      (λ y q. ⊎_elim (λ r. inr (inl r)) (λ r. ⊎_elim (λ z. inl z) (λ z. inr (inr z)) (within_append y W D r))
      (within_append y F (W ++ D) (subst (λ l. Within y l) parts q))) (taken a) held in
      ⊎_elim (λ q. absurd (h.follows.sound.stuck a e.0 e.1 q))
      (λ one. ⊎_elim (λ q. of_held a e.0 e.1 held one.0 one.1 q) (λ q. absurd (of_deferred a e.0 e.1 held one.0 one.1 q p.does e.2)) one.2)
      (each_either (λ y. Within y W) (λ y. Within y F ⊎ Within y D) (taken a) sides)

  once : (i j : ℕ) (a : Activity) → slice_get h.activities i ≡ Some a → slice_get h.activities j ≡ Some a → i ≡ j
  once i j a e q =
      let one = taking_at g k cs (length xs) (λ e. gate_of cells e ≡ Free) h.held acts h.activities h.taking a (get_within h.activities i a e) in
      let y = some_taken (taken a) (takes_some (flow_of g) (flow_well g well) a _ one.2.does) in
      let whole : Unique (flat_map taken h.activities ++ (map (tagged_of cs) w ++ map (tagged_of cs) d)) = subst Unique parts unique in
      activity_once h.activities _ whole i j a a y.0 y.0 e q y.1 y.1 (refl, refl, refl)

  pub enabled : AreEnabled (flow_of g) old h.activities
  enabled = enabled_same (flow_of g) state old h.activities (same_sym old state h.same) record {
    rest = map (tagged_of cs) w
        ++ map (tagged_of cs) d;
    takes = takes;
    each = each;
    all = all;
    once = once;
  }

  -- none is enabled
  pub rests : h.activities ≡ [] → AtRest (flow_of g) old × NoClash (flow_of g) old
  rests none =
      let here : ts ≡ map (tagged_of cs) w ++ map (tagged_of cs) d = parts
      ∙ ap (λ as'. flat_map taken as' ++ (map (tagged_of cs) w ++ map (tagged_of cs) d)) none in
      let sound = h.follows.sound in (
        rest_same (flow_of g) state old (same_sym old state h.same) (at_rest (flow_of g) (held_in cells) ts (map (tagged_of cs) w)
            (map (tagged_of cs) d) unique here sound.stuck sound.defers (held_in outputs)),
        quiet_same (flow_of g) state old (same_sym old state h.same) (no_clash (flow_of g) (held_in cells) ts (map (tagged_of cs) w)
            (map (tagged_of cs) d) unique here sound.stuck sound.defers (held_in outputs)),
      )
