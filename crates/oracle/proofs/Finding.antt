-- What was found when all tokens were looked at: activities of the meaning whose tokens are out.
use Rattle.std.proofs.Common.{◌≡◌, ℕ, ◌<◌, ◌^◌, ℤ, List, [], ◌∷◌, ◌++◌, map, length, Option, Some, slice_get, IsPermutation, refl, sym, ap, ◌∙◌}
use Rattle.std.proofs.Common.{subst, subst₂, append_assoc}
use Rattle.std.proofs.lemmas.List.Sorted.{IsPermutation-sym, IsPermutation-trans}
use Rattle.tags.specs.declared.value.Value.{Value}
use Rattle.semantics.specs.Graph.{Graph, flow_of, array_len}
use Rattle.semantics.specs.Text.{HasText}
use Rattle.semantics.specs.WellFormed.{WellFormed}
use Rattle.semantics.specs.Faithful.{inputs_of}
use Rattle.semantics.specs.Meaning.{Context, State, Activity, Same, Clashes}
use Rattle.lemmas.proofs.Permutations.{each_append_back, each_permutation}
use Rattle.law_confluence.proofs.OutcomeDeterminacy.{same_sym, same_trans}
use Rattle.oracle.specs.declared.invocations.Invocation.{Invocation}
use Rattle.oracle.specs.Deeds.{Deed, Sends, Steers, Enters, EntersAll, Stops, Reads, Fills, Puts}
use Rattle.oracle.specs.declared.report.MeanEnd.TheVariants.{Rest, Clash, Steps}
use Rattle.oracle.specs.declared.state.Gate.{Gate}
use Rattle.oracle.specs.declared.state.Gate.TheVariants.{Free, Defers, Clashes as GateClashes}
use Rattle.oracle.specs.declared.tokens.Token.{Token}
use Rattle.oracle.specs.Lines.{spots_in, outputs_at}
use Rattle.oracle.specs.Acting.{gate_of}
use Rattle.oracle.specs.Running.{Plain, plain, Matched, Alone, Joins, Fails, join_in, main_place}
use Rattle.oracle.specs.Meant.{tagged_of, activity_of}
use Rattle.oracle.specs.Naming.{IsKnown}
use Rattle.oracle.specs.Agreeing.{zipped}
use Rattle.oracle.specs.Reporting.{cell_at}
use Rattle.oracle.specs.Gathering.{Gathered, Found, Clashed, Failed, gathered}
use Rattle.oracle.proofs.Acts.{act_law}
use Rattle.oracle.proofs.Clashing.{clash_of}
use Rattle.oracle.proofs.Entering.{AreKnown}
use Rattle.oracle.proofs.Following.{meant, RunsSoFar, PutLow, to_waiting, to_deferred, to_taken, to_fresh}
use Rattle.oracle.proofs.Gaining.{gated, joined}
use Rattle.oracle.proofs.Gating.{gate_defers}
use Rattle.oracle.proofs.Nexting.{moved, moved_past, takes_one, x, made, block, here, others_known, waits, view, join, takes, is_known, left_stuck, left_same, put_low, defers}
use Rattle.oracle.proofs.Partners.{taken_out}
use Rattle.oracle.proofs.RowRuns.{cut, in_mine, left_by, rows_alone, rows_left}
use Rattle.oracle.proofs.Rows.{mine}
use Rattle.oracle.proofs.SameNames.{state_same}
use Rattle.oracle.proofs.SameStates.{clash_same}
use Rattle.oracle.proofs.ShapeLaws.{own_law, taken_law}
use Rattle.oracle.proofs.Taking.{IsShown, Taking, AreTaking, taking_more, taking_moved}
use Rattle.oracle.proofs.Turning.{turn_law}
use Rattle.oracle.proofs.Views.{IsMatched, never_fails}

-- Activities were found whose tokens are out, and none is done. With these tokens after the fresh ones the state is that at
-- the beginning of the wave.
pub record Gathers (g : Graph) (inputs : List ℤ) (k : ℕ) (old : State) (xs : List Invocation) (cells outputs : List (Option Value))
    (ts w d : List Token) (acts : List (List Value × Deed)) : Type 0 where
  pub held : List Token
  pub activities : List Activity
  pub follows : RunsSoFar g inputs k (plain xs (ts ++ held) w d cells outputs)
  pub taking : AreTaking g k follows.sound.names (length xs) (λ e. gate_of cells e ≡ Free) held acts activities
  pub same : Same old (meant follows.sound.names (plain xs (ts ++ held) w d cells outputs))

shown_of : (g : Graph) (d : Deed) (s : Plain) → length s.outputs ≡ outputs_at g (main_place g) → PutLow d s → IsShown g d
shown_of g (Puts j v) s e h = subst (λ n. j < n) e h
shown_of g (Sends c n p v) s e h = tt
shown_of g (Steers c n v) s e h = tt
shown_of g (Enters m b i v) s e h = tt
shown_of g (EntersAll m b) s e h = tt
shown_of g Stops s e h = tt
shown_of g (Reads c n y) s e h = tt
shown_of g (Fills c n y a i v) s e h = tt

module _ (g : Graph) (text : HasText g) (well : WellFormed g) (inputs : List ℤ) (fit : length inputs ≡ inputs_of (flow_of g)) (k : ℕ) (low : k < 2 ^ 64)
    (old : State) (xs : List Invocation) (cells outputs : List (Option Value)) where
  abbrev Has : List Token → List Token → List Token → List (List Value × Deed) → Type 0
  Has ts w d acts = Gathers g inputs k old xs cells outputs ts w d acts

  abbrev pub IsFound : Gathered → Type 0
  IsFound (Found rows d acts) = (w : List Token) × (rows ≡ (λ c. mine c w)) × Has [] w d acts
  IsFound (Clashed Rest) = ⊥
  IsFound (Clashed (Clash a i)) = (i < array_len (flow_of g) a) × Clashes (flow_of g) old (cell_at g a i)
  IsFound (Clashed Steps) = ⊥
  IsFound Failed = ⊥

  -- the same activities with the other tokens in other lists
  again : (ts w d ts' w' d' : List Token) (acts : List (List Value × Deed)) (h : Has ts w d acts)
      → RunsSoFar g inputs k (plain xs (ts' ++ h.held) w' d' cells outputs)
      → IsPermutation ((ts ++ h.held) ++ (w ++ d)) ((ts' ++ h.held) ++ (w' ++ d')) → Has ts' w' d' acts
  again ts w d ts' w' d' acts h f p =
      let s = plain xs (ts ++ h.held) w d cells outputs in
      let s' = plain xs (ts' ++ h.held) w' d' cells outputs in
      let cs = h.follows.sound.names in
      let P : Deed → Type 0 = λ e. gate_of cells e ≡ Free in
      record {
        held = h.held;
        activities = h.activities;
        follows = f;
        taking = taking_moved g k xs xs cs f.sound.names h.follows.sound.named f.sound.named (λ i y e. e) k P P (λ e t. t) (λ e t. t) h.held acts
            h.activities h.taking;
        same = same_trans old (meant cs s) (meant f.sound.names s') h.same (state_same g s s' cs f.sound.names h.follows.sound.named f.sound.named
            (λ i y e. e) h.follows.sound.known p refl refl);
      }

  module _ (t : Token) (ts w d : List Token) (acts : List (List Value × Deed)) (h : Has (t ∷ ts) w d acts) where
    abbrev later : List Token
    later = ts ++ h.held

    abbrev f : RunsSoFar g inputs k (plain xs (t ∷ later) w d cells outputs)
    f = h.follows

    abbrev cs : List Context
    cs = h.follows.sound.names

    abbrev its : (y : Invocation) × (slice_get xs t.context ≡ Some y)
    its = x g text well inputs fit k low xs cells outputs t later w d f

    gains_alone : join_in g w t (Some its.0) ≡ Alone → Has ts (w ++ t ∷ []) d acts
    gains_alone e = again (t ∷ ts) w d ts (w ++ t ∷ []) d acts h (waits g text well inputs fit k low xs cells outputs t later w d f e) (to_waiting t later w d)

    module _ (left : List Token) (vs : List Value) (deed' : Deed) (e : join_in g w t (Some its.0) ≡ Joins left vs deed') where
      gains_defers : gate_of cells deed' ≡ Defers → Has ts left (d ++ t ∷ []) acts
      gains_defers gate =
          let r = gate_defers cells deed' gate in
          let known : IsKnown g cs (length xs) vs (Reads r.0 r.1 r.2) = subst (IsKnown g cs (length xs) vs) r.3
          (is_known g text well inputs fit k low xs cells outputs t later w d f left vs deed' e) in
          let same = left_same g text well inputs fit k low xs cells outputs t later w d f left vs deed' e known.1 in
          again (t ∷ ts) w d ts left (d ++ t ∷ []) acts h (defers g text well inputs fit k low xs cells outputs t later w d f left vs deed' e gate)
          (subst (λ l. IsPermutation ((t ∷ later) ++ (w ++ d)) (later ++ (l ++ (d ++ t ∷ [])))) (sym same) (to_deferred t later w d))

      gains_clash : (a i : ℕ) → gate_of cells deed' ≡ GateClashes a i → IsFound (Clashed (Clash a i))
      gains_clash a i gate =
          let state = meant cs (plain xs (t ∷ later) w d cells outputs) in
          let j = join g text well inputs fit k low xs cells outputs t later w d f left vs deed' e in
          let c = clash_of g cs (length xs) vs deed' cells state j.0 (map (tagged_of cs) (later ++ (left ++ d))) j.2
          (is_known g text well inputs fit k low xs cells outputs t later w d f left vs deed' e) (takes g text well inputs fit k low xs cells outputs
          t later w d f left vs deed' e) refl a i gate in
          (c.0, clash_same (flow_of g) state old (cell_at g a i) (same_sym old state h.same) c.1)

      abbrev its_view : IsMatched g w t its.0 left vs deed'
      its_view = view g text well inputs fit k low xs cells outputs t later w d f left vs deed' e

      abbrev own : List Token
      own = zipped t.context (spots_in its_view.shape) vs

      abbrev activity : Activity
      activity = activity_of cs t.context its.0.made its_view.shape vs

      out : IsPermutation (t ∷ w) (own ++ left)
      out =
          let v = its_view in
          let ss = spots_in v.shape in
          subst₂ (λ (us : List Value) (l : List Token). IsPermutation (t ∷ w) (zipped t.context ss us ++ l)) v.values v.rest
          (taken_out t ss w (own_law g its.0.made its.0.block t.spot v.shape v.here) (ap length v.values ∙ v.long))

      order : IsPermutation ((t ∷ later) ++ (w ++ d)) ((ts ++ (h.held ++ own)) ++ (left ++ d))
      order =
          subst (λ l. IsPermutation ((t ∷ later) ++ (w ++ d)) (l ++ (left ++ d))) (append_assoc ts h.held own)
          (IsPermutation-trans _ _ _ (to_taken t later w d own left out) (IsPermutation-sym _ _ (to_fresh later own (left ++ d))))

      one : Taking g k cs (length xs) own (vs, deed') activity
      one =
          let v = its_view in
          let P : Token → Type 0 = λ u. u.context < length xs in
          let low_here = here g text well inputs fit k low xs cells outputs t later w d f in
          let others = others_known g text well inputs fit k low xs cells outputs t later w d f in
          let is_made = made g text well inputs fit k low xs cells outputs t later w d f in
          let is_block = block g text well inputs fit k low xs cells outputs t later w d f in
          record {
            known = (each_append_back P own left (each_permutation P (t ∷ w) (own ++ left) out (low_here, others.1))).0;
            takes = taken_law g cs t.context its.0 is_made v.shape vs deed' v.deed v.long;
            does = act_law g text cs t.context its.0 is_block v.shape vs deed' v.deed;
            is_known = is_known g text well inputs fit k low xs cells outputs t later w d f left vs deed' e;
            turn = turn_law g k t.context its.0 (f.sound.turns t.context its.0 its.1) v.shape vs deed' v.deed;
            put = shown_of g deed' (plain xs later left d cells outputs) f.sound.output_count (put_low g text well inputs fit k low xs cells outputs t
                later w d f left vs deed' e deed' refl);
            some = takes_one g text well inputs fit k low xs cells outputs t later w d f left vs deed' e;
          }

      gains_free : gate_of cells deed' ≡ Free → Has ts left d (acts ++ (vs, deed') ∷ [])
      gains_free gate =
          let P : Token → Type 0 = λ u. u.context < length xs in
          let s = f.sound in
          let old' = plain xs (t ∷ later) w d cells outputs in
          let new' = plain xs (ts ++ (h.held ++ own)) left d cells outputs in
          let known : AreKnown (length xs) ((ts ++ (h.held ++ own)) ++ (left ++ d)) = each_permutation P ((t ∷ later) ++ (w ++ d))
          ((ts ++ (h.held ++ own)) ++ (left ++ d)) order s.known in
          record {
            held = h.held ++ own;
            activities = h.activities ++ activity ∷ [];
            follows = record {
              sound = record {
                names = cs;
                named = s.named;
                differ = s.differ;
                turns = s.turns;
                known = known;
                stuck = left_stuck g text well inputs fit k low xs cells outputs t later w d f left vs deed' e;
                defers = s.defers;
                cell_count = s.cell_count;
                output_count = s.output_count;
              };
              run = f.run;
              is_run = moved g text well inputs fit k low xs cells outputs old' (ts ++ (h.held ++ own)) left d cs f.run f.is_run order refl refl;
              count = f.count;
              past = moved_past g text well inputs fit k low xs cells outputs cs f.run ((t ∷ later) ++ (w ++ d)) ((ts ++ (h.held ++ own)) ++ (left ++ d))
                  order f.past;
            };
            taking = taking_more g k cs (length xs) (λ e. gate_of cells e ≡ Free) h.held acts h.activities h.taking own (vs, deed') activity one gate;
            same = same_trans old (meant cs old') (meant cs new') h.same (state_same g old' new' cs cs s.named s.named (λ i y e. e) s.known order refl refl);
          }

    abbrev Later : Type 0
    Later = (w d : List Token) (acts : List (List Value × Deed)) → Has ts w d acts → IsFound (gathered g xs cells ts (λ c. mine c w) d acts)

    gates : Later → (left : List Token) (vs : List Value) (deed' : Deed) → join_in g w t (Some its.0) ≡ Joins left vs deed' → (gate : Gate)
        → gate_of cells deed' ≡ gate
        → IsFound (gated g xs cells t ts (λ c. mine c w) d acts (mine t.context left) vs deed' gate)
    gates next left vs deed' e Free q =
        let by = left_by g w t (Some its.0) left vs deed' e in
        subst (λ rows. IsFound (gathered g xs cells ts rows d (acts ++ (vs, deed') ∷ []))) (sym (rows_left w t by.0 left by.1))
        (next left d (acts ++ (vs, deed') ∷ []) (gains_free left vs deed' e q))
    gates next left vs deed' e Defers q =
        let by = left_by g w t (Some its.0) left vs deed' e in
        subst (λ rows. IsFound (gathered g xs cells ts rows (d ++ t ∷ []) acts)) (sym (rows_left w t by.0 left by.1))
        (next left (d ++ t ∷ []) acts (gains_defers left vs deed' e q))
    gates next left vs deed' e (GateClashes a i) q = gains_clash left vs deed' e a i q

    cases : Later → (j : Matched) → join_in g w t (Some its.0) ≡ j → IsFound (joined g xs cells t ts (λ c. mine c w) d acts (cut t.context j))
    cases next Alone e = subst (λ rows. IsFound (gathered g xs cells ts rows d acts)) (sym (rows_alone w t)) (next (w ++ t ∷ []) d acts (gains_alone e))
    cases next (Joins left vs deed') e = gates next left vs deed' e (gate_of cells deed') refl
    cases next Fails e = never_fails g well w t its.0 k low (f.sound.turns t.context its.0 its.1) e

    looked : Later → IsFound (gathered g xs cells (t ∷ ts) (λ c. mine c w) d acts)
    looked next =
        subst (λ j. IsFound (joined g xs cells t ts (λ c. mine c w) d acts j))
        (sym (in_mine g w t (slice_get xs t.context) ∙ ap (λ o. cut t.context (join_in g w t o)) its.1))
        (cases next (join_in g w t (Some its.0)) refl)

  pub found_law : (ts w d : List Token) (acts : List (List Value × Deed)) → Has ts w d acts → IsFound (gathered g xs cells ts (λ c. mine c w) d acts)
  found_law [] w d acts h = (w, refl, h)
  found_law (t ∷ ts) w d acts h = looked t ts w d acts h (λ w' d' acts' h'. found_law ts w' d' acts' h')
