-- What comes next in a run: an activity that is enabled in the meaning, or a true end.
use Rattle.std.proofs.Common.{◌≡◌, ℕ, ◌+◌, ◌<◌, ◌^◌, ℤ, List, [], ◌∷◌, ◌++◌, map, length, Option, Some, slice_get, IsPermutation, refl, sym, ap, ◌∙◌, subst}
use Rattle.std.proofs.Common.{append-nil, arith}
use Rattle.std.proofs.lemmas.List.{map-append}
use Rattle.std.proofs.lemmas.List.Sorted.{IsPermutation-sym, IsPermutation-map}
use Rattle.tags.specs.declared.value.Value.{Value}
use Rattle.semantics.specs.Graph.{Graph, flow_of}
use Rattle.semantics.specs.Text.{HasText}
use Rattle.semantics.specs.WellFormed.{WellFormed}
use Rattle.semantics.specs.Faithful.{inputs_of}
use Rattle.semantics.specs.Meaning.{Context, Statement, AtNode, AtOut, Tagged, tagged, State, Activity, taken, operands_from, deed, Run, Same, start, Clashes}
use Rattle.semantics.specs.Meaning as Meaning
use Rattle.lemmas.proofs.Permutations.{Within, Each, put_first, each_from, each_within, each_permutation, each_append, each_append_back}
use Rattle.lemmas.proofs.Permutations.{within_permutation, within_left}
use Rattle.lemmas.proofs.SliceGet.{get_some}
use Rattle.law_confluence.proofs.ActivityShapes.{storing, showing}
use Rattle.law_confluence.proofs.HistoryRuns.{run_to_same}
use Rattle.law_confluence.proofs.Outcome.{reached_unique}
use Rattle.oracle.specs.declared.invocations.Invocation.{Invocation}
use Rattle.oracle.specs.Deeds.{Deed, Sends, Steers, Enters, EntersAll, Stops, Reads, Fills, Puts}
use Rattle.oracle.specs.declared.report.MeanEnd.TheVariants.{Clash}
use Rattle.oracle.specs.declared.state.Gate.{Gate}
use Rattle.oracle.specs.declared.state.Gate.TheVariants.{Free, Defers, Clashes as GateClashes}
use Rattle.oracle.specs.declared.tokens.Spot.{Spot}
use Rattle.oracle.specs.declared.tokens.Token.{Token}
use Rattle.oracle.specs.Lines.{spots_in}
use Rattle.oracle.specs.Acting.{gate_of, held_in, remaining_of}
use Rattle.oracle.specs.Running.{Plain, plain, Matched, Alone, Joins, Fails, join_in, Came, Acts, Ends, Broken, next_of}
use Rattle.oracle.specs.Meant.{name_in, made_of, tagged_of, deed_of}
use Rattle.oracle.specs.Naming.{IsKnown}
use Rattle.oracle.specs.Agreeing.{IsJoin}
use Rattle.oracle.specs.Reporting.{cell_at}
use Rattle.oracle.proofs.Counted.{Touched, past_of, touched_moved, own_some}
use Rattle.oracle.proofs.Entering.{AreKnown}
use Rattle.oracle.proofs.Filling.{memory_of}
use Rattle.oracle.proofs.Following.{all_tokens, meant, Sound, RunsSoFar, PutLow, Ready, Ended, Outcome, to_waiting, to_deferred, to_taken}
use Rattle.oracle.proofs.Gating.{gate_defers, gate_clashes, fetch_of}
use Rattle.oracle.proofs.Gathered.{left_within, one_own, one_left}
use Rattle.oracle.proofs.Joining.{join_law}
use Rattle.oracle.proofs.Known.{known_law}
use Rattle.oracle.proofs.Resolved.{firsts_same, lens_same}
use Rattle.oracle.proofs.ShapeLaws.{own_law}
use Rattle.oracle.proofs.Turning.{turn_law, out_low}
use Rattle.oracle.proofs.Views.{IsMatched, joined_view, never_fails}
use Rattle.oracle.proofs.Waiting.{Stuck, IsDeferred, stuck_left, stuck_more, at_rest, no_clash}

module _ (g : Graph) (text : HasText g) (well : WellFormed g) (inputs : List ℤ) (fit : length inputs ≡ inputs_of (flow_of g)) (k : ℕ) (low : k < 2 ^ 64)
    (xs : List Invocation) (cells outputs : List (Option Value)) where
  abbrev Now : List Token → List Token → List Token → Type 0
  Now ts w d = RunsSoFar g inputs k (plain xs ts w d cells outputs)

  abbrev Comes : List Token → List Token → List Token → Type 0
  Comes ts w d = Outcome g inputs k (next_of g xs cells outputs ts w d)

  -- nothing is left to be looked at
  rests : (w d : List Token) → Now [] w d → Comes [] w d
  rests w d f =
      let s = f.sound in
      let cs = s.names in
      let state = meant cs (plain xs [] w d cells outputs) in
      let unique = reached_unique g well inputs fit state record { run = f.run; is_run = f.is_run } in
      let here = map-append (tagged_of cs) w d in
      record {
        ended = record {
          run = f.run;
          state = state;
          is_run = f.is_run;
          count = f.count;
          memory = refl;
          cell_count = s.cell_count;
          output_count = s.output_count;
          ended = (
            at_rest (flow_of g) (held_in cells) state.tokens (map (tagged_of cs) w) (map (tagged_of cs) d) unique here s.stuck s.defers (held_in outputs),
            no_clash (flow_of g) (held_in cells) state.tokens (map (tagged_of cs) w) (map (tagged_of cs) d) unique here s.stuck s.defers (held_in outputs),
          );
        };
        names = cs;
        named = s.named;
        differ = s.differ;
        past = f.past;
        stuck = λ none. subst (λ l. Stuck (flow_of g) (map (tagged_of cs) l)) (sym (ap (λ d. w ++ d) none ∙ append-nil w)) s.stuck;
      }

  -- the same state, with its tokens in other lists
  pub moved : (s : Plain) (ts w d : List Token) (cs : List Context) (run : List Activity) → Run (flow_of g) (start inputs) run (meant cs s)
      → IsPermutation (all_tokens s) (ts ++ (w ++ d)) → s.cells ≡ cells → s.outputs ≡ outputs
      → Run (flow_of g) (start inputs) run (meant cs (plain xs ts w d cells outputs))
  moved s ts w d cs run r p e h =
      run_to_same (flow_of g) (start inputs) (meant cs s) (meant cs (plain xs ts w d cells outputs)) run r
      (IsPermutation-map (tagged_of cs) (all_tokens s) (ts ++ (w ++ d)) p, ap (λ c. memory_of c s.outputs) e ∙ ap (memory_of cells) h)

  pub moved_past : (cs : List Context) (run : List Activity) (old new : List Token) → IsPermutation old new
      → Touched (past_of run (map (tagged_of cs) old)) cs → Touched (past_of run (map (tagged_of cs) new)) cs
  moved_past cs run old new p h =
      touched_moved run (map (tagged_of cs) old) (map (tagged_of cs) new) cs (IsPermutation-map (tagged_of cs) old new p) h

  module _ (t : Token) (ts w d : List Token) (f : Now (t ∷ ts) w d) where
    abbrev s : Sound g k (plain xs (t ∷ ts) w d cells outputs)
    s = f.sound

    abbrev cs : List Context
    cs = f.sound.names

    pub here : t.context < length xs
    here = s.known.0

    pub x : (x : Invocation) × (slice_get xs t.context ≡ Some x)
    x = get_some xs t.context here

    pub made : made_of cs x.0.made ≡ name_in cs t.context
    made = s.named.made t.context x.0 x.1

    pub block : Meaning.block_number (flow_of g) (name_in cs t.context) ≡ Some x.0.block
    block = s.named.block t.context x.0 x.1

    pub others_known : AreKnown (length xs) ts × AreKnown (length xs) w × AreKnown (length xs) d
    others_known =
        let p = each_append_back (λ (t : Token). t.context < length xs) ts (w ++ d) s.known.1 in
        let q = each_append_back (λ (t : Token). t.context < length xs) w d p.1 in
        (p.0, q.0, q.1)

    pub waits : join_in g w t (Some x.0) ≡ Alone → Now ts (w ++ t ∷ []) d
    waits e =
        let order = to_waiting t ts w d in
        record {
          sound = record {
            names = cs;
            named = s.named;
            differ = s.differ;
            turns = s.turns;
            known = each_permutation (λ (t : Token). t.context < length xs) ((t ∷ ts) ++ (w ++ d)) (ts ++ ((w ++ t ∷ []) ++ d)) order s.known;
            stuck = stuck_more g xs cs s.named s.differ t x.0 x.1 here w others_known.1 e s.stuck;
            defers = s.defers;
            cell_count = s.cell_count;
            output_count = s.output_count;
          };
          run = f.run;
          is_run = moved (plain xs (t ∷ ts) w d cells outputs) ts (w ++ t ∷ []) d cs f.run f.is_run order refl refl;
          count = f.count;
          past = moved_past cs f.run ((t ∷ ts) ++ (w ++ d)) (ts ++ ((w ++ t ∷ []) ++ d)) order f.past;
        }

    module _ (left : List Token) (vs : List Value) (deed' : Deed) (e : join_in g w t (Some x.0) ≡ Joins left vs deed') where
      pub view : IsMatched g w t x.0 left vs deed'
      view = joined_view g w t x.0 left vs deed' e

      pub join : IsJoin g cs t w (Joins left vs deed')
      join = subst (IsJoin g cs t w) e (join_law g text cs t x.0 made block w)

      pub is_known : IsKnown g cs (length xs) vs deed'
      is_known = known_law g cs (length xs) t.context x.0 here (s.named.below t.context x.0 x.1) made block view.shape vs deed' view.deed

      pub left_known : AreKnown (length xs) left
      left_known = subst (AreKnown (length xs)) view.rest (known_left (spots_in view.shape) w others_known.1)
        where
          known_left : (ss : List Spot) (w : List Token) → AreKnown (length xs) w → AreKnown (length xs) (remaining_of t ss w)
          known_left ss w h = each_from (λ (u : Token). u.context < length xs) (remaining_of t ss w)
              (λ u k. each_within (λ (u : Token). u.context < length xs) u w (left_within t ss w u k) h)

      pub left_stuck : Stuck (flow_of g) (map (tagged_of cs) left)
      left_stuck = subst (λ l. Stuck (flow_of g) (map (tagged_of cs) l)) view.rest (stuck_left (flow_of g) (tagged_of cs) t (spots_in view.shape) w s.stuck)

      -- what the activity takes is out
      pub takes : IsPermutation (meant cs (plain xs (t ∷ ts) w d cells outputs)).tokens (taken join.0 ++ map (tagged_of cs) (ts ++ (left ++ d)))
      takes =
          let h = tagged_of cs in
          let old : map h ((t ∷ ts) ++ (w ++ d)) ≡ (h t ∷ map h ts) ++ (map h w ++ map h d) = ap (λ l. h t ∷ l) (map-append h ts (w ++ d)
          ∙ ap (λ l. map h ts ++ l) (map-append h w d)) in
          let new : map h (ts ++ (left ++ d)) ≡ map h ts ++ (map h left ++ map h d) = map-append h ts (left ++ d)
          ∙ ap (λ l. map h ts ++ l) (map-append h left d) in
          subst (λ l. IsPermutation l (taken join.0 ++ map h (ts ++ (left ++ d)))) (sym old)
          (subst (λ l. IsPermutation ((h t ∷ map h ts) ++ (map h w ++ map h d)) (taken join.0 ++ l)) (sym new)
          (to_taken (h t) (map h ts) (map h w) (map h d) (taken join.0) (map h left) join.1))

      pub put_low : (e : Deed) → e ≡ deed' → PutLow e (plain xs ts left d cells outputs)
      put_low (Puts j v) q =
          let a = join.0 in
          let is : a ≡ Meaning.Outputs j v = showing (flow_of g) a j v (join.2 ∙ ap (λ e. Some (deed_of cs vs e)) (sym q)) in
          let y = tagged Meaning.Main (AtOut j) (Meaning.Operand 0) v in
          let first : Within y (taken a) = subst (λ a. Within y (taken a)) (sym is) ([], put_first y []) in
          let there : Within y (meant cs (plain xs (t ∷ ts) w d cells outputs)).tokens = within_permutation y _ _ (IsPermutation-sym _ _ takes)
          (within_left y (taken a) (map (tagged_of cs) (ts ++ (left ++ d))) first) in
          subst (λ n. j < n) (sym s.output_count) (out_low g well inputs fit (meant cs (plain xs (t ∷ ts) w d cells outputs)) f.run f.is_run j
          (Meaning.Operand 0) v there)
      put_low (Sends c n p v) q = tt
      put_low (Steers c n v) q = tt
      put_low (Enters m b i v) q = tt
      put_low (EntersAll m b) q = tt
      put_low Stops q = tt
      put_low (Reads c n y) q = tt
      put_low (Fills c n y a i v) q = tt

      pub takes_one : 0 < length vs
      takes_one =
          let one = own_some t.spot (spots_in view.shape) (own_law g x.0.made x.0.block t.spot view.shape view.here) in
          let long = view.long in
          omega (arith, one, long)

      pub acts : gate_of cells deed' ≡ Free → Ready g inputs k (plain xs ts left d cells outputs) vs deed'
      acts free = record {
        sound = record {
          names = cs;
          named = s.named;
          differ = s.differ;
          turns = s.turns;
          known = each_append (λ (t : Token). t.context < length xs) ts (left ++ d) others_known.0 (each_append (λ (t : Token). t.context < length xs)
              left d left_known others_known.2);
          stuck = left_stuck;
          defers = s.defers;
          cell_count = s.cell_count;
          output_count = s.output_count;
        };
        run = f.run;
        old = meant cs (plain xs (t ∷ ts) w d cells outputs);
        is_run = f.is_run;
        count = f.count;
        activity = join.0;
        takes = takes;
        memory = refl;
        does = join.2;
        is_known = is_known;
        free = free;
        turn = turn_law g k t.context x.0 (s.turns t.context x.0 x.1) view.shape vs deed' view.deed;
        put = put_low deed' refl;
        some = takes_one;
        past = f.past;
      }

      -- a fetch of an empty cell takes no other token
      pub left_same : length vs ≡ 1 → left ≡ w
      left_same one =
          let ss = spots_in view.shape in
          let spots : ss ≡ t.spot ∷ [] = one_own t.spot ss (own_law g x.0.made x.0.block t.spot view.shape view.here) (sym view.long ∙ one) in
          sym view.rest ∙ ap (λ ss. remaining_of t ss w) spots ∙ one_left t w

      pub defers : gate_of cells deed' ≡ Defers → Now ts left (d ++ t ∷ [])
      defers gate =
          let r = gate_defers cells deed' gate in
          let known : IsKnown g cs (length xs) vs (Reads r.0 r.1 r.2) = subst (IsKnown g cs (length xs) vs) r.3 is_known in
          let same = left_same known.1 in
          let c = name_in cs r.0 in
          let does : deed (flow_of g) join.0 ≡ Some (Meaning.Reads c r.1 r.2) = join.2 ∙ ap (λ e. Some (deed_of cs vs e)) r.3 in
          let fetch = fetch_of (flow_of g) join.0 c r.1 r.2 (tagged_of cs t) (map (tagged_of cs) w) does
          (subst (λ l. IsPermutation (map (tagged_of cs) (t ∷ w)) (taken join.0 ++ map (tagged_of cs) l)) same join.1) in
          let mine : IsDeferred (flow_of g) (held_in cells) (tagged_of cs t) = record {
            context = c;
            node = r.1;
            cell = r.2;
            value = fetch.0;
            is =
                fetch.1;
            fetch = fetch.2;
            empty = r.4;
          } in
          let order : IsPermutation ((t ∷ ts) ++ (w ++ d)) (ts ++ (left ++ (d ++ t ∷ []))) = subst
          (λ l. IsPermutation ((t ∷ ts) ++ (w ++ d)) (ts ++ (l ++ (d ++ t ∷ [])))) (sym same) (to_deferred t ts w d) in
          record {
            sound = record {
              names = cs;
              named = s.named;
              differ = s.differ;
              turns = s.turns;
              known = each_permutation (λ (t : Token). t.context < length xs) ((t ∷ ts) ++ (w ++ d)) (ts ++ (left ++ (d ++ t ∷ []))) order s.known;
              stuck = left_stuck;
              defers = subst (Each (IsDeferred (flow_of g) (held_in cells))) (sym (map-append (tagged_of cs) d (t ∷ [])))
                  (each_append (IsDeferred (flow_of g) (held_in cells)) (map (tagged_of cs) d) (tagged_of cs t ∷ []) s.defers (mine, tt));
              cell_count = s.cell_count;
              output_count = s.output_count;
            };
            run = f.run;
            is_run = moved (plain xs (t ∷ ts) w d cells outputs) ts left (d ++ t ∷ []) cs f.run f.is_run order refl refl;
            count = f.count;
            past = moved_past cs f.run ((t ∷ ts) ++ (w ++ d)) (ts ++ (left ++ (d ++ t ∷ []))) order f.past;
          }

      pub clashes : (a i : ℕ) → gate_of cells deed' ≡ GateClashes a i → Ended g inputs k cells outputs (Clash a i)
      clashes a i gate =
          let r = gate_clashes cells deed' a i gate in
          let known : IsKnown g cs (length xs) vs (Fills r.0 r.1 r.2 a i r.3) = subst (IsKnown g cs (length xs) vs) r.5 is_known in
          let c = name_in cs r.0 in
          let fills : deed (flow_of g) join.0 ≡ Some (Meaning.Fills c r.1 r.2 r.3) = join.2 ∙ ap (λ e. Some (deed_of cs vs e)) r.5 in
          let is = storing (flow_of g) join.0 c r.1 r.2 r.3 fills in
          let state = meant cs (plain xs (t ∷ ts) w d cells outputs) in
          let clash : Clashes (flow_of g) state r.2 = record {
            context = c;
            node = r.1;
            index = is.0;
            value = r.3;
            held = r.4;
            rest = map (tagged_of cs) (ts ++ (left ++ d));
            is_store = subst (λ a. deed (flow_of g) a ≡ Some (Meaning.Fills c r.1 r.2 r.3)) is.1 fills;
            tokens = subst (λ a. IsPermutation state.tokens (taken a ++ map (tagged_of cs) (ts ++ (left ++ d)))) is.1 takes;
            full = r.6;
          } in
          let cell : r.2 ≡ cell_at g a i = known.1 ∙ ap (λ n. n + i) (firsts_same g.arrays a) in
          record {
            run = f.run;
            state = state;
            is_run = f.is_run;
            count = f.count;
            memory = refl;
            cell_count = s.cell_count;
            output_count = s.output_count;
            ended = (subst (λ n. i < n) (lens_same g.arrays a) known.2, subst (Clashes (flow_of g) state) cell clash);
          }

    -- the first of the fresh ones is looked at, and then the others
    looked : ((w d : List Token) → Now ts w d → Comes ts w d) → Comes (t ∷ ts) w d
    looked later =
        let P : Matched → Type 0 = λ j. Outcome g inputs k (elim j as (λ j. Came) [
          | Alone ↦ next_of g xs cells outputs ts (w ++ t ∷ []) d
          | Joins left vs deed' ↦ elim (gate_of cells deed') as (λ b. Came) [
            | Free ↦ Acts (plain xs ts left d cells outputs) vs deed'
            | Defers ↦ next_of g xs cells outputs ts left (d ++ t ∷ [])
            | GateClashes a i ↦ Ends (plain xs ts left d cells outputs) (Clash a i)
          ]
          | Fails ↦ Broken
        ]) in
        let cases : (j : Matched) → join_in g w t (Some x.0) ≡ j → P j
        = λ j. elim j as (λ j. join_in g w t (Some x.0) ≡ j → P j) [
          | Alone ↦ λ e. later (w ++ t ∷ []) d (waits e)
          | Joins left vs deed' ↦ λ e.
              let gates : (b : Gate) → gate_of cells deed' ≡ b → Outcome g inputs k (elim b as (λ b. Came) [
                | Free ↦ Acts (plain xs ts left d cells outputs) vs deed'
                | Defers ↦ next_of g xs cells outputs ts left (d ++ t ∷ [])
                | GateClashes a i ↦ Ends (plain xs ts left d cells outputs) (Clash a i)
              ])
              = λ b. elim b as (λ b. gate_of cells deed' ≡ b → Outcome g inputs k (elim b as (λ b. Came) [
                | Free ↦ Acts (plain xs ts left d cells outputs) vs deed'
                | Defers ↦ next_of g xs cells outputs ts left (d ++ t ∷ [])
                | GateClashes a i ↦ Ends (plain xs ts left d cells outputs) (Clash a i)
              ])) [
                | Free ↦ λ q. acts left vs deed' e q
                | Defers ↦ λ q. later left (d ++ t ∷ []) (defers left vs deed' e q)
                | GateClashes a i ↦ λ q. clashes left vs deed' e a i q
              ] in
              gates (gate_of cells deed') refl
          | Fails ↦ λ e. never_fails g well w t x.0 k low (s.turns t.context x.0 x.1) e
        ] in
        subst P (ap (join_in g w t) (sym x.1)) (cases (join_in g w t (Some x.0)) refl)

  pub next_law : (ts w d : List Token) → Now ts w d → Comes ts w d
  next_law [] w d f = rests w d f
  next_law (t ∷ ts) w d f = looked t ts w d f (λ w' d' f'. next_law ts w' d' f')
