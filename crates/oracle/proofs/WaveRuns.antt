-- The waves that are run are waves of the meaning.
use Rattle.std.proofs.Common.{◌≡◌, ℕ, zero, suc, ◌+◌, ◌-◌, ◌<◌, ◌≤◌, ◌^◌, ℤ, Bool, true, false, List, [], ◌∷◌, ◌++◌, length, Option, Some, None}
use Rattle.std.proofs.Common.{nat_lt, if◌then◌else◌, IsPermutation, refl, sym, ap, ◌∙◌, subst, arith, append-nil, ltb-true, ltb-false}
use Rattle.std.proofs.lemmas.List.{length-append}
use Rattle.std.proofs.lemmas.List.Sorted.{IsPermutation-refl}
use Rattle.std.proofs.lemmas.Option.{same_Some}
use Rattle.tags.specs.declared.value.Value.{Value}
use Rattle.semantics.specs.Graph.{Graph, Flow, flow_of, array_len}
use Rattle.semantics.specs.Text.{HasText}
use Rattle.semantics.specs.WellFormed.{WellFormed}
use Rattle.semantics.specs.Faithful.{inputs_of}
use Rattle.semantics.specs.Meaning.{Context, State, Activity, Same, Run, Reached, Leads, AtRest, Clashes, start}
use Rattle.law_confluence.specs.Outcome.{NoClash}
use Rattle.law_confluence.proofs.OutcomeDeterminacy.{same_refl, same_sym, same_trans, run_same}
use Rattle.law_confluence.proofs.HistoryRuns.{run_append, reached_leads, run_to_same}
use Rattle.law_confluence.proofs.Outcome.{determinacy, second_store_from}
use Rattle.oracle.specs.Deeds.{Deed}
use Rattle.oracle.specs.declared.state.Gate.{Gate}
use Rattle.oracle.specs.declared.state.Gate.TheVariants.{Free, Defers, Clashes as GateClashes}
use Rattle.oracle.specs.declared.report.MeanEnd.{MeanEnd}
use Rattle.oracle.specs.declared.report.MeanEnd.TheVariants.{Rest, Clash, Steps}
use Rattle.oracle.specs.declared.tokens.Token.{Token}
use Rattle.oracle.specs.Lines.{inputs_at}
use Rattle.oracle.specs.Acting.{gate_of}
use Rattle.oracle.specs.Running.{Plain, plain, main_place, start_of, performed}
use Rattle.oracle.specs.Reporting.{cell_at}
use Rattle.oracle.specs.Gathering.{Gathered, Found, Clashed, Failed, Performed, Does, Hits, performed_all, Waved, Passes, Halts, Breaks, waved_by}
use Rattle.oracle.specs.Gathering.{wave_of_acts, wave_found, wave_among, waves_among, wave_counts}
use Rattle.oracle.specs.Waves.{AreEnabled, IsWave, AreWaves, work, AreWavesOf, WorkIsOne, SpanIsLow}
use Rattle.oracle.proofs.Doing.{ahead, CanDo, IsDone, done_law}
use Rattle.oracle.proofs.Enabled.{enabled, rests}
use Rattle.oracle.proofs.Finding.{Gathers, IsFound, found_law}
use Rattle.oracle.proofs.Following.{all_tokens, meant, RunsSoFar}
use Rattle.oracle.proofs.RowRuns.{bare, performed_bare, performed_waits}
use Rattle.oracle.proofs.Rows.{mine}
use Rattle.oracle.proofs.SameNames.{state_same}
use Rattle.oracle.proofs.SameStates.{wave_same}
use Rattle.oracle.proofs.Taking.{AreTaking, taking_moved, as_many}
use Rattle.oracle.proofs.Turning.{inputs_same}
use Rattle.oracle.proofs.Whole.{begins}

-- WITHOUT THE TOKENS THAT WAIT, which no activity touches once its own are out

abbrev bared : Performed → Performed
bared (Does t) = Does (bare t)
bared (Hits e) = Hits e

all_bare : (g : Graph) (acts : List (List Value × Deed)) (s : Plain) → performed_all g (bare s) acts ≡ bared (performed_all g s acts)
all_bare g [] s = refl
all_bare g (act ∷ acts) s = go (ap (λ t. performed_all g t acts) (performed_bare g s act.0 act.1) ∙ all_bare g acts (performed g s act.0 act.1))
    (gate_of s.cells act.1)
  where
    go : performed_all g (performed g (bare s) act.0 act.1) acts ≡ bared (performed_all g (performed g s act.0 act.1) acts) → (gate : Gate)
        → elim gate as (λ b. Performed) [
          | Free ↦ performed_all g (performed g (bare s) act.0 act.1) acts
          | Defers
              ↦ performed_all g (performed g (bare s) act.0 act.1) acts
          | GateClashes a i ↦ Hits (Clash a i)
        ]
        ≡ bared (elim gate as (λ b. Performed) [
          | Free ↦ performed_all g (performed g s act.0 act.1) acts
          | Defers
              ↦ performed_all g (performed g s act.0 act.1) acts
          | GateClashes a i ↦ Hits (Clash a i)
        ])
    go next Free = next
    go next Defers = next
    go next (GateClashes a i) = refl

abbrev KeepsWaiting : List Token → Performed → Type 0
KeepsWaiting w (Does t) = w ≡ t.waiting
KeepsWaiting w (Hits e) = w ≡ w

all_wait : (g : Graph) (acts : List (List Value × Deed)) (s : Plain) → KeepsWaiting s.waiting (performed_all g s acts)
all_wait g [] s = refl
all_wait g (act ∷ acts) s =
    go (subst (λ w. KeepsWaiting w (performed_all g (performed g s act.0 act.1) acts)) (sym (performed_waits g s act.0 act.1))
    (all_wait g acts (performed g s act.0 act.1))) (gate_of s.cells act.1)
  where
    go : KeepsWaiting s.waiting (performed_all g (performed g s act.0 act.1) acts) → (gate : Gate)
        → KeepsWaiting s.waiting (elim gate as (λ b. Performed) [
          | Free ↦ performed_all g (performed g s act.0 act.1) acts
          | Defers
              ↦ performed_all g (performed g s act.0 act.1) acts
          | GateClashes a i ↦ Hits (Clash a i)
        ])
    go next Free = next
    go next Defers = next
    go next (GateClashes a i) = refl

-- A WAVE
none_taken : (g : Graph) (k : ℕ) (cs : List Context) (m : ℕ) (P : Deed → Type 0) (held : List Token) (as' : List Activity)
    → AreTaking g k cs m P held [] as' → as' ≡ []
none_taken g k cs m P held [] h = refl
none_taken g k cs m P held (a ∷ as') h = absurd h

free_can : (cells : List (Option Value)) (e : Deed) → gate_of cells e ≡ Free → CanDo cells e
free_can cells e free q = let no : Free ≡ Defers = sym free ∙ q in cc

module _ (g : Graph) (text : HasText g) (well : WellFormed g) (inputs : List ℤ) (fit : length inputs ≡ inputs_of (flow_of g)) where
  abbrev IsWaved : ℕ → ℕ → State → Waved → Type 0
  IsWaved k left old (Passes t rows n) =
      (u : Plain) × (t ≡ bare u) × (rows ≡ (λ c. mine c u.waiting)) × (f : RunsSoFar g inputs (k + n) u)
      × ((as' : List Activity) × IsWave (flow_of g) old as' (meant f.sound.names u) × (length as' ≡ n)) × (0 < n) × (n ≤ left)
  IsWaved k left old (Halts Rest) = AtRest (flow_of g) old × NoClash (flow_of g) old
  IsWaved k left old (Halts (Clash a i)) = (i < array_len (flow_of g) a) × ((t : State) × Leads (flow_of g) old t × Clashes (flow_of g) t (cell_at g a i))
  IsWaved k left old (Halts Steps) = (as' : List Activity) × AreEnabled (flow_of g) old as' × (left < length as')
  IsWaved k left old Breaks = ⊥

  module _ (k left : ℕ) (old : State) (s : Plain) (w d : List Token) (act : List Value × Deed) (acts : List (List Value × Deed))
      (h : Gathers g inputs k old s.invocations s.cells s.outputs [] w d (act ∷ acts)) where
    abbrev first : Plain
    first = plain s.invocations [] w d s.cells s.outputs

    abbrev cs : List Context
    cs = h.follows.sound.names

    many : length h.activities ≡ length (act ∷ acts)
    many = as_many g k cs (length s.invocations) (λ e. gate_of s.cells e ≡ Free) h.held (act ∷ acts) h.activities h.taking

    -- all that was found, ahead of no other token
    whole : RunsSoFar g inputs k (ahead h.held first)
    whole = subst (λ l. RunsSoFar g inputs k (plain s.invocations l w d s.cells s.outputs)) (sym (append-nil h.held)) h.follows

    same : Same old (meant whole.sound.names (ahead h.held first))
    same =
        let before = plain s.invocations h.held w d s.cells s.outputs in
        let p : IsPermutation (all_tokens before) (all_tokens (ahead h.held first)) =
        subst (λ l. IsPermutation (all_tokens before) (l ++ (w ++ d))) (sym (append-nil h.held)) (IsPermutation-refl _) in
        same_trans old (meant cs before) (meant whole.sound.names (ahead h.held first)) h.same
        (state_same g before (ahead h.held first) cs whole.sound.names h.follows.sound.named whole.sound.named (λ i x e. e) h.follows.sound.known p refl refl)

    is_done : IsDone g inputs k (meant whole.sound.names (ahead h.held first)) h.activities (performed_all g first (act ∷ acts))
    is_done =
        done_law g inputs (act ∷ acts) h.activities k h.held first whole
        (taking_moved g k s.invocations s.invocations cs whole.sound.names h.follows.sound.named whole.sound.named (λ i x e. e) k
        (λ e. gate_of s.cells e ≡ Free) (CanDo s.cells)
        (λ e t. t) (λ e free. free_can s.cells e free) h.held (act ∷ acts) h.activities h.taking)

    passes : length (act ∷ acts) ≤ left → (p : Performed) → IsDone g inputs k (meant whole.sound.names (ahead h.held first)) h.activities p → KeepsWaiting w p
        → IsWaved k left old (waved_by (bared p) (λ c. mine c w) (length (act ∷ acts)))
    passes le (Does t) done wait =
        let count = done.1 in
        let n : done.0 ≡ k + length (act ∷ acts) = omega (arith, count, many) in
        let f : RunsSoFar g inputs (k + length (act ∷ acts)) t = subst (λ n. RunsSoFar g inputs n t) n done.2 in
        let end : Same (meant done.2.sound.names t) (meant f.sound.names t) =
        state_same g t t done.2.sound.names f.sound.names done.2.sound.named f.sound.named (λ i x e. e) done.2.sound.known (IsPermutation-refl _) refl refl in
        let wave : IsWave (flow_of g) old h.activities (meant f.sound.names t) = record {
          enabled = enabled g well inputs fit k old s.invocations s.cells s.outputs w d (act ∷ acts) h;
          run = run_to_same (flow_of g) old (meant done.2.sound.names t) (meant f.sound.names t) h.activities
              (run_same (flow_of g) (meant whole.sound.names (ahead h.held first)) old (meant done.2.sound.names t) h.activities (same_sym old _ same)
              done.3) end;
        } in
        (t, refl, ap (λ w c. mine c w) wait, f, (h.activities, wave, many), omega arith, le)
    passes le (Hits Rest) done wait = absurd done
    passes le (Hits (Clash a i)) done wait =
        let run = done.1.1 in (
          done.0,
          (
            done.1.0,
            (
              run.0,
              run_same (flow_of g) (meant whole.sound.names (ahead h.held first)) old done.1.0 run.0 (same_sym old _ same)
                  run.1,
            ),
            done.1.2,
          ),
        )
    passes le (Hits Steps) done wait = absurd done

    fits_or : (b : Bool) → nat_lt left (length (act ∷ acts)) ≡ b
        → IsWaved k left old (if b then Halts Steps else waved_by (performed_all g (plain s.invocations [] [] d s.cells s.outputs) (act ∷ acts))
        (λ c. mine c w) (length (act ∷ acts)))
    fits_or true e =
        let more = ltb-true left (length (act ∷ acts)) e in
        (h.activities, enabled g well inputs fit k old s.invocations s.cells s.outputs w d (act ∷ acts) h, omega (arith, more, many))
    fits_or false e =
        subst (λ p. IsWaved k left old (waved_by p (λ c. mine c w) (length (act ∷ acts)))) (sym (all_bare g (act ∷ acts) first))
        (passes (ltb-false left (length (act ∷ acts)) e) (performed_all g first (act ∷ acts)) is_done (all_wait g (act ∷ acts) first))

  of_acts : (k left : ℕ) (old : State) (s : Plain) (w d : List Token) (acts : List (List Value × Deed)) → Gathers g inputs k old s.invocations s.cells
      s.outputs [] w d acts
      → IsWaved k left old (wave_of_acts g left (plain s.invocations [] [] d s.cells s.outputs) (λ c. mine c w) acts)
  of_acts k left old s w d [] h =
      rests g well inputs fit k old s.invocations s.cells s.outputs w d [] h
      (none_taken g k h.follows.sound.names (length s.invocations) (λ e. gate_of s.cells e ≡ Free) h.held h.activities h.taking)
  of_acts k left old s w d (act ∷ acts) h = fits_or k left old s w d act acts h (nat_lt left (length (act ∷ acts))) refl

  of_found : (k left : ℕ) (low : k < 2 ^ 64) (old : State) (s : Plain) (o : Gathered) → IsFound g text well inputs fit k low old s.invocations s.cells
      s.outputs o → IsWaved k left old (wave_found g left (bare s) o)
  of_found k left low old s (Found rows d acts) h =
      subst (λ rows. IsWaved k left old (wave_of_acts g left (plain s.invocations [] [] d s.cells s.outputs) rows acts)) (sym h.1)
      (of_acts k left old s h.0 d acts h.2)
  of_found k left low old s (Clashed Rest) h = absurd h
  of_found k left low old s (Clashed (Clash a i)) h = (h.0, (old, ([], same_refl old), h.1))
  of_found k left low old s (Clashed Steps) h = absurd h
  of_found k left low old s Failed h = absurd h

  wave_law : (k left : ℕ) → k < 2 ^ 64 → (s : Plain) (f : RunsSoFar g inputs k s) → IsWaved k left (meant f.sound.names s)
      (wave_among g left (bare s) (λ c. mine c s.waiting))
  wave_law k left low s f =
      let old = meant f.sound.names s in
      let s' = plain s.invocations (s.fresh ++ []) s.waiting s.deferred s.cells s.outputs in
      let f' : RunsSoFar g inputs k s' = subst (λ l. RunsSoFar g inputs k (plain s.invocations l s.waiting s.deferred s.cells s.outputs))
      (sym (append-nil s.fresh)) f in
      let p : IsPermutation (all_tokens s) (all_tokens s') = subst (λ l. IsPermutation (all_tokens s) (l ++ (s.waiting ++ s.deferred)))
      (sym (append-nil s.fresh)) (IsPermutation-refl _) in
      let h : Gathers g inputs k old s.invocations s.cells s.outputs s.fresh s.waiting s.deferred [] = record {
        held = [];
        activities = [];
        follows = f';
        taking = refl;
        same = state_same g s s' f.sound.names f'.sound.names f.sound.named f'.sound.named (λ i x e. e) f.sound.known p refl refl;
      } in
      of_found k left low old s _ (found_law g text well inputs fit k low old s.invocations s.cells s.outputs s.fresh s.waiting s.deferred [] h)

-- WAVES
waves_more : (fl : Flow) (counts : List ℕ) (s t u : State) (acts : List Activity) (n : ℕ) → AreWaves fl s counts t → IsWave fl t acts u → length acts
    ≡ n → 0 < n → AreWaves fl s (counts ++ n ∷ []) u
waves_more fl [] s t u acts n h w e some = (acts, u, wave_same fl t s u acts (same_sym s t h) w, e, some, same_refl u)
waves_more fl (m ∷ counts) s t u acts n h w e some = (h.0, h.1, h.2, h.3, h.4, waves_more fl counts h.1 t u acts n h.5 w e some)

work_more : (counts : List ℕ) (n : ℕ) → work (counts ++ n ∷ []) ≡ work counts + n
work_more [] n = omega arith
work_more (m ∷ counts) n = let ih = work_more counts n in omega (arith, ih)

pub waves_run : (fl : Flow) (counts : List ℕ) (s t : State) → AreWaves fl s counts t → (run : List Activity) × Run fl s run t × (length run ≡ work counts)
waves_run fl [] s t h = ([], h, refl)
waves_run fl (n ∷ counts) s t h =
    let ih = waves_run fl counts h.1 t h.5 in
    let long = length-append h.0 ih.0 in
    let count = h.3 in
    let later = ih.2 in
    (h.0 ++ ih.0, run_append fl s h.1 t h.0 ih.0 h.2.run ih.1, omega (arith, long, count, later))

module _ (g : Graph) (text : HasText g) (well : WellFormed g) (inputs : List ℤ) (fit : length inputs ≡ inputs_of (flow_of g)) (steps : ℕ)
    (low : steps < 2 ^ 64) where
  abbrev AreCounted : Option (MeanEnd × List ℕ) → Type 0
  AreCounted None = ⊥
  AreCounted (Some r) = AreWavesOf g inputs steps r.0 r.1

  -- the waves so far
  abbrev SoFar : ℕ → List ℕ → Plain → Type 0
  SoFar left counts s = (k : ℕ) × (k ≡ work counts) × (work counts + left ≡ steps) × (f : RunsSoFar g inputs k s)
      × AreWaves (flow_of g) (start inputs) counts (meant f.sound.names s)

  reached : (counts : List ℕ) (s : State) → AreWaves (flow_of g) (start inputs) counts s → Reached (flow_of g) inputs s
  reached counts s h = let r = waves_run (flow_of g) counts (start inputs) s h in record { run = r.0; is_run = r.1 }

  halts : (left : ℕ) (counts : List ℕ) (s : Plain) (h : SoFar left counts s) (e : MeanEnd) → IsWaved g text well inputs fit h.0 left
      (meant h.3.sound.names s) (Halts e) → AreCounted (Some (e, counts))
  halts left counts s h Rest o =
      let sums = h.2 in
      let state = meant h.3.sound.names s in
      record {
        state = state;
        waves = h.4;
        few = omega (arith, sums);
        ended = o;
        outcome = determinacy g well inputs fit state
            (reached counts state h.4) o.0 o.1;
      }
  halts left counts s h (Clash a i) o =
      let sums = h.2 in
      let state = meant h.3.sound.names s in
      let there = reached_leads (flow_of g) inputs state o.1.0 (reached counts state h.4) o.1.1 in
      record {
        state = state;
        waves = h.4;
        few = omega (arith, sums);
        ended = o;
        outcome = (second_store_from g well inputs fit o.1.0 (cell_at g a i)
            there o.1.2).always;
      }
  halts left counts s h Steps o =
      let sums = h.2 in
      let more = o.2 in
      record { state = meant h.3.sound.names s; waves = h.4; few = omega (arith, sums); ended = (o.0, o.1, omega (arith, sums, more)); outcome = tt }

  waves_law : (most left : ℕ) (counts : List ℕ) (s : Plain) → left < most → SoFar left counts s
      → AreCounted (waves_among g most left (bare s) (λ c. mine c s.waiting) counts)
  waves_law zero left counts s few h = absurd (omega (arith, few))
  waves_law (suc most) left counts s few h =
      let first = h.1 in
      let sums = h.2 in
      let below : h.0 < 2 ^ 64 = omega (arith, first, sums, low) in
      let cases : (v : Waved) → IsWaved g text well inputs fit h.0 left (meant h.3.sound.names s) v
      → AreCounted (elim v as (λ v. Option (MeanEnd × List ℕ)) [
        | Passes t rs n ↦ waves_among g most (left - n) t rs (counts ++ n ∷ [])
        | Halts e
            ↦ Some (e, counts)
        | Breaks ↦ None
      ])
      = λ v. elim v as (λ v. IsWaved g text well inputs fit h.0 left (meant h.3.sound.names s) v
      → AreCounted (elim v as (λ v. Option (MeanEnd × List ℕ)) [
        | Passes t rs n ↦ waves_among g most (left - n) t rs (counts ++ n ∷ [])
        | Halts e
            ↦ Some (e, counts)
        | Breaks ↦ None
      ])) [
        | Passes t rs n ↦ λ o.
            let u = o.0 in
            let some = o.5 in
            let le = o.6 in
            let more = work_more counts n in
            let whole : AreWaves (flow_of g) (start inputs) (counts ++ n ∷ []) (meant o.3.sound.names u) = waves_more (flow_of g) counts
            (start inputs) (meant h.3.sound.names s) (meant o.3.sound.names u) o.4.0 n h.4 o.4.1 o.4.2 some in
            let so_far : SoFar (left - n) (counts ++ n ∷ []) u = (h.0 + n, omega (arith, first, more), omega (arith, sums, more, le), o.3, whole) in
            subst (λ t. AreCounted (waves_among g most (left - n) t rs (counts ++ n ∷ []))) (sym o.1)
            (subst (λ rows. AreCounted (waves_among g most (left - n) (bare u) rows (counts ++ n ∷ []))) (sym o.2)
            (waves_law most (left - n) (counts ++ n ∷ []) u (omega (arith, few, some, le)) so_far))
        | Halts e ↦ λ o. halts left counts s h e o
        | Breaks ↦ λ o. absurd o
      ] in
      cases (wave_among g left (bare s) (λ c. mine c s.waiting)) (wave_law g text well inputs fit h.0 left below s h.3)

  no_run : (s : State) (run : List Activity) → length run ≡ 0 → Run (flow_of g) (start inputs) run s → Same (start inputs) s
  no_run s [] e r = r
  no_run s (a ∷ run) e r = absurd (omega (arith, e))

  run_result : AreCounted (wave_counts g inputs steps)
  run_result =
      let f = begins g well inputs in
      let first : AreWaves (flow_of g) (start inputs) [] (meant f.sound.names (start_of g inputs)) = no_run (meant f.sound.names (start_of g inputs))
      f.run f.count f.is_run in
      waves_law (suc steps) steps [] (start_of g inputs) (omega arith) (0, refl, omega arith, f, first)

  some_told : (o : Option (MeanEnd × List ℕ)) → AreCounted o → (r : MeanEnd × List ℕ) × (o ≡ Some r)
  some_told None h = absurd h
  some_told (Some r) h = (r, refl)

  true_told : (end : MeanEnd) (counts : List ℕ) (o : Option (MeanEnd × List ℕ)) → AreCounted o → o ≡ Some (end, counts) → AreWavesOf g inputs steps end counts
  true_told end counts None h e = absurd h
  true_told end counts (Some r) h e = let same = same_Some r (end, counts) e in subst (λ (q : MeanEnd × List ℕ). AreWavesOf g inputs steps q.0 q.1) same h

pub waves_end : (g : Graph) (inputs : List ℤ) (steps : ℕ) → HasText g → WellFormed g → length inputs ≡ inputs_at g (main_place g) → steps < 2 ^ 64
    → (r : MeanEnd × List ℕ) × (wave_counts g inputs steps ≡ Some r)
waves_end g inputs steps text well fit low =
    let fit' = fit ∙ inputs_same g in
    some_told g text well inputs fit' steps low (wave_counts g inputs steps) (run_result g text well inputs fit' steps low)

pub waves_true : (g : Graph) (inputs : List ℤ) (steps : ℕ) (end : MeanEnd) (counts : List ℕ) → HasText g → WellFormed g → length inputs
    ≡ inputs_at g (main_place g) → steps < 2 ^ 64
    → wave_counts g inputs steps ≡ Some (end, counts) → AreWavesOf g inputs steps end counts
waves_true g inputs steps end counts text well fit low e =
    let fit' = fit ∙ inputs_same g in
    true_told g text well inputs fit' steps low end counts (wave_counts g inputs steps) (run_result g text well inputs fit' steps low) e

-- WORK AND SPAN
pub work_law : WorkIsOne
work_law g inputs steps counts well fit h run s r rest =
    let q = waves_run (flow_of g) counts (start inputs) h.state h.waves in
    let same = h.outcome.one_end s record { run = run; is_run = r } rest in
    h.outcome.same_length run q.0 (run_to_same (flow_of g) (start inputs) s h.state run r same) q.1 ∙ q.2

span_low : (fl : Flow) (counts : List ℕ) (s t : State) → AreWaves fl s counts t → length counts ≤ work counts
span_low fl [] s t h = omega arith
span_low fl (n ∷ counts) s t h =
    let ih = span_low fl counts h.1 t h.5 in
    let some = h.4 in
    omega (arith, ih, some)

pub span_law : SpanIsLow
span_law g inputs steps end counts h = span_low (flow_of g) counts (start inputs) h.state h.waves
