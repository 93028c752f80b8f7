-- An iteration before the one that asks for a credit that waits has given back its own, if all has happened that any run to the end has in it.
use Rattle.std.proofs.Common.{◌≡◌, refl, sym, ap, ◌∙◌, subst, ℕ, zero, suc, ◌+◌, ◌-◌, ◌<◌, ◌⊎◌, inl, inr, ℤ, true, false, true≢false, List, [], ◌∷◌, ◌++◌}
use Rattle.std.proofs.Common.{flat_map, arith, lt-ltb, append_assoc, ⊎_elim, IsPermutation}
use Rattle.std.specs.Prelude.{Contains}
use Rattle.std.proofs.lemmas.List.Concat.{flat_map-append}
use Rattle.std.proofs.lemmas.List.Elements.{All-contains, Contains-append_left, Contains-append_right}
use Rattle.std.proofs.lemmas.List.Sorted.{Contains-permutation}
use Rattle.lemmas.proofs.Contains.{contains_cases, contains_head, contains_none, contains_flat_mapped}
use Rattle.lemmas.proofs.Permutations.{Within, each_within, spread_append_back, within_append, within_flat_map, within_from, within_left, within_right, within_to}
use Rattle.lemmas.proofs.Permutations.{Each}
use Rattle.tags.specs.declared.value.Value.{Value}
use Rattle.tags.specs.declared.token.Port.TheVariants.{Left}
use Rattle.semantics.specs.declared.graph.Region.TheVariants.{Root}
use Rattle.semantics.specs.Graph.{Flow}
use Rattle.semantics.specs.Meaning.{Context, Turned, Statement, AtNode, Operand, Tagged, tagged, State, Activity, Fires, Gates, Passes, Returns}
use Rattle.semantics.specs.Meaning.{Turns, Outputs, Run, Leads, Stood, Due, taken, start, operands_from}
use Rattle.semantics.specs.Machine.{Machine, Resting}
use Rattle.semantics.specs.Plan.{Plan}
use Rattle.source.specs.Theorem.{RestsWell}
use Rattle.law_confluence.proofs.ActivityKeys.{Differ, Unique}
use Rattle.law_confluence.proofs.History.{History, flow_determinate, history_kept, once, start_history, stood_ever}
use Rattle.law_confluence.proofs.HistoryDue.{ever_stood}
use Rattle.law_confluence.proofs.NetMeans.{run_join}
use Rattle.law_confluence.proofs.OutcomeDeterminacy.{Converges}
use Rattle.law_completion.proofs.DueGrows.{due_grows}
use Rattle.law_completion.proofs.OneRun.{same_activities}
use Rattle.law_net.specs.ContextsParts.{Entry, Line, Giver, Taker, Drained, NextSender, End, InCell, Inlet, inlet, Item, Firing}
use Rattle.law_net.specs.Contexts.{Wires, block_in, IsContext}
use Rattle.law_net.specs.ContextsMeant.{meant}
use Rattle.law_net.specs.ContextsFirings.{HasFired, times}
use Rattle.law_net.specs.ContextsMirror.{Past, granted_of}
use Rattle.law_net.specs.ContextsTheorem.{IsGood}
use Rattle.law_net.specs.ContextsPackages.{InputsFit, Keeps}
use Rattle.law_net.proofs.Credits.{some_firing}
use Rattle.law_net.proofs.WiredInvoked.{is_turned}
use Rattle.law_end.specs.Over.{IsOpen}
use Rattle.law_end.proofs.OverMade.{first_in, taken_stands, turn_linked}
use Rattle.law_end.proofs.CausesCalled.{context_due}
use Rattle.law_end.proofs.CleanCredits.{back_waits}
use Rattle.law_end.proofs.CleanFrames.{over}
use Rattle.law_end.proofs.CleanStill.{AtRest, Arrives, giver_arrives}
use Rattle.law_end.proofs.CleanSupplied.{Supplied}
use Rattle.law_end.proofs.RestReached.{entered_at, fired_open}
use Rattle.law_end.proofs.RestStarted.{all_start}
use Rattle.law_end.proofs.RestStores.{fits_main}
use Rattle.law_end.proofs.RestStory.{Passed, stays_in, story}
use Rattle.law_end.proofs.RestTokens.{Reader, reader}
use Rattle.law_end.proofs.RestWaits.{Held}
use Rattle.law_loops_complete.specs.Within.{IsIn, place_of}
use Rattle.law_loop_credits.specs.NetsWait.{TakeWaits, EndsWell}
use Rattle.law_loop_credits.specs.WithinParts.{IsGivenBack, TokenOfTurn, DoneIsGivenBack}
use Rattle.law_loop_credits.proofs.WaitsNet.{not_over}
use Rattle.law_loop_credits.proofs.WithinHeld.{asked, entry, token_in, token_stands}
use Rattle.law_loop_credits.proofs.WithinNext.{take_waits}

-- ---- WHERE the tokens are that an activity takes
operands_place : (c : Context) (s : Statement) (from : ℕ) (vs : List Value) (x : Tagged) → Contains (operands_from c s from vs) x → x.context ≡ c
operands_place c s from [] x k = absurd (contains_none x k)
operands_place c s from (v ∷ vs) x k =
    pick (contains_cases (tagged c s (Operand from) v) (operands_from c s (from + 1) vs) x k) (operands_place c s (from + 1) vs x)
  where
    pick : (tagged c s (Operand from) v ≡ x) ⊎ Contains (operands_from c s (from + 1) vs) x → (Contains (operands_from c s (from + 1) vs) x → x.context ≡ c)
        → x.context ≡ c
    pick (inl e) more = ap (λ (x : Tagged). x.context) (sym e)
    pick (inr d) more = more d

one_place : (t x : Tagged) → Contains (t ∷ []) x → x.context ≡ t.context
one_place t x k = go (contains_cases t [] x k)
  where
    go : (t ≡ x) ⊎ Contains [] x → x.context ≡ t.context
    go (inl e) = ap (λ (x : Tagged). x.context) (sym e)
    go (inr d) = absurd (contains_none x d)

two_place : (t u x : Tagged) → u.context ≡ t.context → Contains (t ∷ u ∷ []) x → x.context ≡ t.context
two_place t u x same k = go (contains_cases t (u ∷ []) x k)
  where
    go : (t ≡ x) ⊎ Contains (u ∷ []) x → x.context ≡ t.context
    go (inl e) = ap (λ (x : Tagged). x.context) (sym e)
    go (inr d) = one_place u x d ∙ same

taken_place : (a : Activity) (x : Tagged) → Contains (taken a) x → x.context ≡ place_of a
taken_place (Fires c n vs) x k = operands_place c (AtNode n) 0 vs x k
taken_place (Gates c n v b) x k = two_place _ _ x refl k
taken_place (Passes c n i v) x k = one_place _ x k
taken_place (Returns c n j v) x k = one_place _ x k
taken_place (Turns c n i j b v) x k = two_place _ _ x refl k
taken_place (Outputs j v) x k = one_place _ x k

module _ (fl : Flow) (p : Plan) (w : Wires) (inputs : List ℤ) (past : Past) (m : Machine) (good : IsGood fl p w) (fit : InputsFit fl inputs)
    (kept : Keeps fl p w inputs past m) (rest : Resting m) (calm : m.store.requests ≡ []) (c : Context) (n u t : ℕ)
    (T : TakeWaits fl w m kept.tracks.net c n u) (early : t + 1 < u) (ends : EndsWell fl inputs) (whole : List Activity) (e : State)
    (rests : RestsWell fl inputs e) (to : Run fl (start inputs) whole e)
    (happened : (a : Activity) → Contains whole a → IsIn (Turned c n t) (place_of a) → Contains (story fl p w inputs past m good fit kept).run a) where
  abbrev done : List Firing
  done = kept.tracks.net.fired

  abbrev d : Context
  d = Turned c n t

  abbrev S : State
  S = (story fl p w inputs past m good fit kept).state

  abbrev R : List Activity
  R = (story fl p w inputs past m good fit kept).run

  abbrev is_run : Run fl (start inputs) R S
  is_run = (story fl p w inputs past m good fit kept).is_run

  -- ---- THE REST of the run
  meets : Converges fl inputs e
  meets = flow_determinate fl good.well inputs (fits_main fl p w inputs past m good fit kept) e rests.reached rests.at_rest rests.no_clash

  lead : Leads fl S e
  lead = meets.leads S record { run = R; is_run = is_run }

  abbrev long : List Activity
  long = R ++ lead.0

  on : Run fl (start inputs) (R ++ lead.0) e
  on = run_join fl R lead.0 (start inputs) S e is_run lead.1

  same : IsPermutation (R ++ lead.0) whole
  same =
      same_activities fl (History fl inputs) (history_kept fl good.well inputs (fits_main fl p w inputs past m good fit kept)) whole (R ++ lead.0)
      (start inputs) e ([], start_history fl inputs (fits_main fl p w inputs past m good fit kept)) on rests.at_rest rests.no_clash to

  made : (a : Activity) → Contains long a → IsIn d (place_of a) → Contains R a
  made a k h = happened a (Contains-permutation long whole a same k) h

  unique : Unique (flat_map taken R ++ S.tokens)
  unique = once fl good.well inputs (fits_main fl p w inputs past m good fit kept) S R is_run

  -- no token stands in the iteration, or in what it invoked: the rest of the run would take it once more
  quiet : (x : Tagged) → Contains S.tokens x → IsIn d x.context → ⊥
  quiet x k h =
      let stays = stays_in fl lead.0 S e lead.1 x (within_from x S.tokens k) in
      let (a, ka, kx) = contains_flat_mapped taken lead.0 x (gone (within_append x (flat_map taken lead.0) e.tokens stays)) in
      let place = taken_place a x kx in
      let before = made a (Contains-append_right R lead.0 a ka) (subst (IsIn d) place h) in
      let spent = within_flat_map taken a x R (within_from a R before) (within_from x (taken a) kx) in
      let apart = (spread_append_back Differ (flat_map taken R) S.tokens unique).2 in
      each_within (Differ x) x S.tokens (within_from x S.tokens k) (each_within (λ (y : Tagged). Each (Differ y) S.tokens) x (flat_map taken R) spent apart)
      (refl, refl, refl)
    where
      gone : Within x (flat_map taken lead.0) ⊎ Within x e.tokens → Contains (flat_map taken lead.0) x
      gone (inl w') = within_to x (flat_map taken lead.0) w'
      gone (inr w') = absurd (contains_none x (subst (λ (ts : List Tagged). Contains ts x) (ends.none_left e rests) (within_to x e.tokens w')))

  -- ---- NOTHING WAITS in it
  no_reader : (i : Item) (k : ℕ) → Contains kept.tracks.net.waiting i → i.inlet.part ≡ InCell k → IsIn d i.context → ⊥
  no_reader i k o g h =
      let r : Reader fl p w inputs past m good fit kept rest calm (all_start fl p w good) i k =
      reader fl p w inputs past m good fit kept rest calm (all_start fl p w good) i k o g in
      let x : Tagged = tagged i.context (AtNode k) (Operand 0) r.index in
      quiet x (token_in fl p w inputs past m good fit kept i o x (subst (λ (l : List Tagged). Contains l x) (sym r.meant) (contains_head x []))) h

  no_credit : (i : Item) (k s : ℕ) → Contains kept.tracks.net.waiting i → i.inlet ≡ inlet (Taker k) Left (suc s) → IsIn d (Turned i.context k s) → ⊥
  no_credit i k s o g h = by_place X.place
    where
      held : Held fl p w inputs past m good fit kept i.context k s
      held = (i, o, refl, ap (λ (x : Inlet). x.part) g, ap (λ (x : Inlet). x.way) g)

      T' : TakeWaits fl w m kept.tracks.net i.context k (suc s)
      T' = take_waits fl p w inputs past m good fit kept i.context k s held

      X : TokenOfTurn (story fl p w inputs past m good fit kept).state i.context k (suc s)
      X = token_stands fl p w inputs past m good fit kept rest calm i.context k (suc s) T'

      by_in : X.token.context ≡ Turned i.context k (suc s) → (d ≡ Turned i.context k s) ⊎ IsIn d i.context → ⊥
      by_in at (inr z) = quiet X.token X.stands (subst (IsIn d) (sym at) (inr z))
      by_in at (inl z) =
          let a : c ≡ i.context = cc in
          let b : n ≡ k = cc in
          let g : t ≡ s = cc in
          let number : u ≡ suc s = sym T.number ∙ (λ j. granted_of kept.tracks.net (a j) (b j)) ∙ T'.number in
          omega (arith, early, number, g)

      by_place : (X.token.context ≡ Turned i.context k X.before) ⊎ (X.token.context ≡ Turned i.context k (suc s)) → ⊥
      by_place (inl at) =
          let next' = X.next in let number : X.before ≡ s = omega (arith, next') in
          quiet X.token X.stands (subst (IsIn d) (sym (at ∙ ap (Turned i.context k) number)) h)
      by_place (inr at) = by_in at h

  -- ---- IT WAS SUPPLIED
  con : IsContext fl d
  con = is_turned fl p w good c n t T.is_context T.is_loop'

  before : (s : ℕ) → HasFired (Turned c n (suc s)) Entry done → HasFired (Turned c n s) Entry done
  before s f =
      let (j, o, a, g) = first_in fl p w inputs past m good fit kept (Turned c n s) (NextSender 0)
      (turn_linked fl p w inputs past m good fit kept c n s f) in
      subst (λ (c : Context). HasFired c Entry done) a
      (entered_at fl p w inputs past m good fit kept rest calm j (taken_stands fl p w inputs past m good fit kept j o))

  down : (k s j : ℕ) → j ≡ s + k → HasFired (Turned c n j) Entry done → HasFired (Turned c n s) Entry done
  down zero s j g f = let h : j ≡ s = omega (arith, g) in subst (λ (x : ℕ). HasFired (Turned c n x) Entry done) h f
  down (suc k) s j g f =
      let h : j ≡ suc (s + k) = omega (arith, g) in
      down k s (s + k) refl (before (s + k) (subst (λ (x : ℕ). HasFired (Turned c n x) Entry done) h f))

  entered : HasFired d Entry done
  entered =
      let (h, next') = asked fl p w inputs past m good fit kept rest calm c n u T in
      let far : h ≡ t + (h - t) = omega (arith, early, next') in
      down (h - t) t h far (entry fl p w inputs past m good fit kept rest calm c n u T)

  due : Due fl R (Stood fl (start inputs) R S is_run) d
  due =
      let (j, o, a, g) = first_in fl p w inputs past m good fit kept d Entry entered in
      subst (λ (c : Context). Due fl R (Stood fl (start inputs) R S is_run) c) a
      (context_due fl p w inputs past m good fit kept good.earlier j (taken_stands fl p w inputs past m good fit kept j o))

  -- its inputs pass in the longer run, and so have passed
  goes_on : (x : Tagged) → Stood fl (start inputs) R S is_run x → Stood fl (start inputs) (R ++ lead.0) e on x
  goes_on x h =
      ever_stood fl (start inputs) e (R ++ lead.0) on x
      (subst (λ (l : List Tagged). Within x l)
      (sym (ap (λ (l : List Tagged). l ++ e.tokens) (flat_map-append taken R lead.0) ∙ append_assoc (flat_map taken R) (flat_map taken lead.0) e.tokens))
      (⊎_elim (λ k. within_left x (flat_map taken R) (flat_map taken lead.0 ++ e.tokens) k)
      (λ k. within_right x (flat_map taken R) (flat_map taken lead.0 ++ e.tokens) (stays_in fl lead.0 S e lead.1 x k))
      (within_append x (flat_map taken R) S.tokens (stood_ever fl (start inputs) S R is_run x h))))

  passed : (l : ℕ) → l < (block_in fl d).inputs → HasFired d (Line l) done
  passed l low =
      let still = due_grows fl R (R ++ lead.0) (Stood fl (start inputs) R S is_run) (Stood fl (start inputs) (R ++ lead.0) e on) goes_on
      (λ a k. Contains-append_left R lead.0 a k) d due in
      let (v, k) = ends.passes e (R ++ lead.0) on rests d still l low in
      All-contains (Passed fl done) R (Fires d l (v ∷ [])) (story fl p w inputs past m good fit kept).passed (made (Fires d l (v ∷ [])) k (inl refl))
      (lt-ltb l (block_in fl d).inputs low)

  root : IsOpen fl w done d Root
  root = fired_open fl p w inputs past m good fit kept rest calm d con Entry refl refl entered

  abbrev still : AtRest
  still = record {
    fl = fl;
    p = p;
    w = w;
    inputs = inputs;
    past = past;
    m = m;
    good = good;
    fit = fit;
    kept = kept;
    rests = rest;
    calm = calm;
    Inside = IsIn (Turned c n t);
    called = λ c n h. inr h;
    turned = λ c n t h. inr h;
    no_credit = λ i k s o g h. no_credit i k s o g h;
    no_reader = λ i k o g h. no_reader i k o g h;
  }

  supplied : Supplied still d
  supplied =
      let (j, o, a, g) = first_in fl p w inputs past m good fit kept d Entry entered in
      record {
        is_context = con;
        inside = inl refl;
        entry = (j, taken_stands fl p w inputs past m good fit kept j o, a, g);
        inputs = λ l low.
            (let (j, o, a, g) = first_in fl p w inputs past m good fit kept d (Line l) (passed l low) in
            (j, taken_stands fl p w inputs past m good fit kept j o, a, g));
        opened = root;
      }

  -- ---- IT IS OVER, and has given back
  back : Arrives still c (inlet (Giver n) Left t)
  back = giver_arrives still c n t (over still d supplied End refl refl root)

  pub given_back : IsGivenBack kept.tracks.net c n t
  given_back = go (back_waits still c T.is_context n T.is_loop' (Giver n) t refl refl back)
    where
      go : Contains kept.tracks.net.waiting back.0 ⊎ HasFired c (Drained n) done → IsGivenBack kept.tracks.net c n t
      go (inl o) =
          record {
            give = back.0;
            waits = o;
            of_loop = back.2;
            at_giver = ap (λ (x : Inlet). x.part) back.3;
            number = ap (λ (x : Inlet). x.way) back.3;
          }
      go (inr (f, o, a, g)) =
          absurd (true≢false (sym (lt-ltb 0 (times c (Drained n) done) (some_firing c (Drained n) done f o a g))
          ∙ not_over fl p w inputs past m good fit kept c n u T))

pub done_is_given_back : DoneIsGivenBack
done_is_given_back fl p w inputs past m good fit kept rest calm c n u t T early ends whole e rests to happened =
    given_back fl p w inputs past m good fit kept rest calm c n u t T early ends whole e rests to happened
