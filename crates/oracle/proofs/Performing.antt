-- What an activity does in a run is what it does in the meaning.
use Rattle.std.proofs.Common.{◌≡◌, ℕ, suc, ◌+◌, ◌<◌, ◌≤◌, ◌⊎◌, inl, ℤ, List, [], ◌∷◌, ◌++◌, map, length, Option, Some, None, if◌then◌else◌, IsPermutation}
use Rattle.std.proofs.Common.{refl, sym, ap, ◌∙◌, subst, arith}
use Rattle.std.specs.Prelude.{is_some}
use Rattle.std.proofs.lemmas.List.{map-append, length-append}
use Rattle.std.proofs.lemmas.List.Sorted.{IsPermutation-refl, IsPermutation-map}
use Rattle.tags.specs.declared.value.Value.{Value}
use Rattle.semantics.specs.Graph.{Graph, flow_of}
use Rattle.semantics.specs.Meaning.{Context, Tagged, Memory, Effect, State, Activity, taken, effect, done, adds, tokens_of, with_cell, with_output}
use Rattle.semantics.specs.Meaning.{when_full, when_empty, Step, Run, start}
use Rattle.semantics.specs.Meaning as Meaning
use Rattle.lemmas.proofs.Permutations.{Within, Each, each_append, each_append_back, each_weaker}
use Rattle.law_confluence.proofs.ActivityDiamond.{effect_of}
use Rattle.law_confluence.proofs.OutcomeDeterminacy.{same_refl}
use Rattle.law_confluence.proofs.HistoryRuns.{run_append, step_of}
use Rattle.oracle.specs.declared.invocations.Made.{Made}
use Rattle.oracle.specs.Deeds.{Deed, Sends, Steers, Enters, EntersAll, Stops, Reads, Fills, Puts}
use Rattle.oracle.specs.declared.state.Gate.TheVariants.{Free, Defers, Clashes}
use Rattle.oracle.specs.declared.tokens.Spot.TheVariants.{Operand}
use Rattle.oracle.specs.declared.tokens.Token.{Token}
use Rattle.oracle.specs.Lines.{first_of}
use Rattle.oracle.specs.Sending.{token_at, entering_tokens}
use Rattle.oracle.specs.Acting.{gate_of, held_in, filled_in}
use Rattle.oracle.specs.Running.{Plain, plain, number_in, with_made, sent_of, sent_in, steered_in, answered, performed}
use Rattle.oracle.specs.Meant.{name_in, made_of, tagged_of, deed_of}
use Rattle.oracle.specs.Naming.{CanEnter}
use Rattle.oracle.proofs.Apart.{EachMade, mades_more, made_more}
use Rattle.oracle.proofs.Counted.{touched_more, token_named, entered_wide, entered_first, entered_fresh}
use Rattle.oracle.proofs.Entering.{AreKnown, entered_law, tokens_kept}
use Rattle.oracle.proofs.Filling.{memory_of, filled_long, filled_same, cell_low}
use Rattle.oracle.proofs.Following.{all_tokens, meant, Sound, RunsSoFar, Ready, to_fresh, to_woken}
use Rattle.oracle.proofs.Steering.{AreOf, entering_same, entering_of, sends_same, tells_same}
use Rattle.oracle.proofs.Turning.{turn_more}
use Rattle.oracle.proofs.Views.{TurnBelow}
use Rattle.oracle.proofs.Waiting.{Stuck, IsDeferred}

known_of : (c m : ℕ) → c < m → (ts : List Token) → AreOf c ts → AreKnown m ts
known_of c m low ts h = each_weaker (λ (t : Token). t.context ≡ c) (λ (t : Token). t.context < m) (λ t e. subst (λ n. n < m) (sym e) low) ts h

turns_more : (k : ℕ) (s : Plain) → EachMade (TurnBelow k) s.invocations → EachMade (TurnBelow (suc k)) s.invocations
turns_more k s h i x e = turn_more k x.made (h i x e)

-- the memory allows what is free
free_reads : (o : Option Value) → (if is_some o then Free else Defers) ≡ Free → (v : Value) × (o ≡ Some v)
free_reads None h = cc
free_reads (Some v) h = (v, refl)

free_fills : (o : Option Value) (a i : ℕ) → (if is_some o then Clashes a i else Free) ≡ Free → o ≡ None
free_fills None a i h = refl
free_fills (Some v) a i h = cc

entering_some : (c i : ℕ) (vs : List Value) → 0 < length vs → 0 < length (entering_tokens c i vs)
entering_some c i [] h = absurd (omega (arith, h))
entering_some c i (v ∷ vs) h = omega arith

-- the names after it are those before it, and perhaps one of an invocation that its tokens are in
record Grows (names more : List Context) (added : List Tagged) : Type 0 where
  others : List Context
  first : more ≡ Meaning.Main ∷ others
  wide : (c : Context) → Within c names → Within c more
  fresh : (c : Context) → Within c more → Within c names ⊎ ((x : Tagged) × Within x added × (x.context ≡ c))

-- the activity leads to that state
pub record Acted (g : Graph) (inputs : List ℤ) (k : ℕ) (s : Plain) (vs : List Value) (d : Deed) (r : Ready g inputs k s vs d) (t : Plain) : Type 0 where
  pub follows : RunsSoFar g inputs (suc k) t
  pub step : Step (flow_of g) r.activity r.old (meant follows.sound.names t)

module _ (g : Graph) (inputs : List ℤ) (k : ℕ) (s : Plain) (vs : List Value) where
  abbrev m : Memory
  m = memory_of s.cells s.outputs

  -- a free deed is done
  pub does : (cs : List Context) (d : Deed) → gate_of s.cells d ≡ Free → (E : Effect) × (done (flow_of g) m (deed_of cs vs d) ≡ Some E)
  does cs (Sends c n p v) h = (_, refl)
  does cs (Steers c n v) h = (_, refl)
  does cs (Enters made f i v) h = (_, refl)
  does cs (EntersAll made f) h = (_, refl)
  does cs Stops h = (_, refl)
  does cs (Reads c n x) h =
      let r = free_reads (held_in s.cells x) h in
      (_, ap (λ o. when_full o (λ v. adds (tokens_of (flow_of g) (Meaning.Sends (name_in cs c) n 0 v)) m)) r.1)
  does cs (Fills c n x a i v) h =
      (_, ap (λ o. when_empty o (adds (tokens_of (flow_of g) (Meaning.Sends (name_in cs c) n 0 v)) (with_cell m x v))) (free_fills (held_in s.cells x) a i h))
  does cs (Puts j v) h = (_, refl)

  module _ (d : Deed) (r : Ready g inputs k s vs d) where
    abbrev names : List Context
    names = r.sound.names

    allowed : (E : Effect) → done (flow_of g) m (deed_of names vs d) ≡ Some E → effect (flow_of g) r.old.memory r.activity ≡ Some E
    allowed E h = ap (λ m. effect (flow_of g) m r.activity) r.memory ∙ effect_of (flow_of g) m r.activity (deed_of names vs d) E r.does h

    -- an activity is enabled
    pub enabled : (a : Activity) × (t : State) × Step (flow_of g) a r.old t
    enabled =
        let e = does names d r.free in
        (r.activity, _, step_of (flow_of g) r.activity r.old e.0 (map (tagged_of names) (all_tokens s)) (allowed e.0 e.1) r.takes)

    same_names : (added : List Tagged) → Grows names names added
    same_names added = record { others = r.past.others; first = r.past.first; wide = λ c k. k; fresh = λ c k. inl k }

    -- the run goes on to a state that stands for what the effect makes
    goes : (E : Effect) → done (flow_of g) m (deed_of names vs d) ≡ Some E → (t : Plain) (sound : Sound g (suc k) t)
        → IsPermutation (map (tagged_of sound.names) (all_tokens t)) (E.added ++ map (tagged_of names) (all_tokens s)) → memory_of t.cells t.outputs
        ≡ E.memory → Grows names sound.names E.added → Acted g inputs k s vs d r t
    goes E h t sound tokens memory grows =
        let step : Step (flow_of g) r.activity r.old (meant sound.names t) = record {
          does = E;
          rest = map (tagged_of names) (all_tokens s);
          allowed = allowed E h;
          takes = r.takes;
          leaves = tokens;
          memory = memory;
        } in
        let long = length-append r.run (r.activity ∷ []) in
        let count = r.count in
        record {
          follows = record {
            sound = sound;
            run = r.run ++ r.activity ∷ [];
            is_run = run_append (flow_of g) (start inputs) r.old (meant sound.names t) r.run (r.activity ∷ []) r.is_run
                (meant sound.names t, step, same_refl (meant sound.names t));
            count = omega (arith, long, count);
            past = touched_more r.run r.activity r.old.tokens (meant sound.names t).tokens E.added (map (tagged_of names) (all_tokens s)) r.takes tokens
                names sound.names r.past grows.others grows.first grows.wide
                (λ x k. token_named sound.names (length t.invocations) (all_tokens t) (sym sound.named.count) sound.known x k) grows.fresh;
          };
          step = step;
        }

    -- MORE TOKENS, and nothing else
    sent_sound : (new : List Token) → AreKnown (length s.invocations) new
        → Sound g (suc k) (plain s.invocations (s.fresh ++ new) s.waiting s.deferred s.cells s.outputs)
    sent_sound new known =
        let P : Token → Type 0 = λ t. t.context < length s.invocations in
        let old = each_append_back P s.fresh (s.waiting ++ s.deferred) r.sound.known in
        record {
          names = names;
          named = r.sound.named;
          differ = r.sound.differ;
          turns = turns_more k s r.sound.turns;
          known = each_append P (s.fresh ++ new) (s.waiting ++ s.deferred) (each_append P s.fresh new old.0 known) old.1;
          stuck = r.sound.stuck;
          defers = r.sound.defers;
          cell_count = r.sound.cell_count;
          output_count = r.sound.output_count;
        }

    fresh_order : (cs : List Context) (new : List Token) → IsPermutation (map (tagged_of cs) ((s.fresh ++ new) ++ (s.waiting ++ s.deferred)))
        (map (tagged_of cs) new ++ map (tagged_of cs) (all_tokens s))
    fresh_order cs new =
        subst (λ l. IsPermutation (map (tagged_of cs) ((s.fresh ++ new) ++ (s.waiting ++ s.deferred))) l) (map-append (tagged_of cs) new (all_tokens s))
        (IsPermutation-map (tagged_of cs) ((s.fresh ++ new) ++ (s.waiting ++ s.deferred)) (new ++ all_tokens s)
        (to_fresh s.fresh new (s.waiting ++ s.deferred)))

    sent_more : (new : List Token) (added : List Tagged) → AreKnown (length s.invocations) new → map (tagged_of names) new ≡ added
        → done (flow_of g) m (deed_of names vs d) ≡ Some record { added = added; memory = m }
        → Acted g inputs k s vs d r (plain s.invocations (s.fresh ++ new) s.waiting s.deferred s.cells s.outputs)
    unfolding sent_sound
    sent_more new added known same h =
        goes record { added = added; memory = m } h (plain s.invocations (s.fresh ++ new) s.waiting s.deferred s.cells s.outputs) (sent_sound new known)
        (subst (λ l. IsPermutation (map (tagged_of names) ((s.fresh ++ new) ++ (s.waiting ++ s.deferred)))
        (l ++ map (tagged_of names) (all_tokens s))) same (fresh_order names new)) refl (same_names added)

    stops : done (flow_of g) m (deed_of names vs d) ≡ Some record { added = []; memory = m } → Acted g inputs k s vs d r s
    stops h =
        let sound : Sound g (suc k) s = record {
          names = names;
          named = r.sound.named;
          differ = r.sound.differ;
          turns = turns_more k s r.sound.turns;
          known = r.sound.known;
          stuck = r.sound.stuck;
          defers = r.sound.defers;
          cell_count = r.sound.cell_count;
          output_count = r.sound.output_count;
        } in
        goes record { added = []; memory = m } h s sound (IsPermutation-refl _) refl (same_names [])

    -- A CELL IS FILLED
    fills : (x : ℕ) (v : Value) (new : List Token) (added : List Tagged) → x < length s.cells → AreKnown (length s.invocations) new
        → map (tagged_of names) new ≡ added
        → done (flow_of g) m (deed_of names vs d) ≡ Some record { added = added; memory = with_cell m x v }
        → Acted g inputs k s vs d r (plain s.invocations ((s.fresh ++ s.deferred) ++ new) s.waiting [] (filled_in s.cells x v) s.outputs)
    fills x v new added low known same h =
        let P : Token → Type 0 = λ t. t.context < length s.invocations in
        let one = each_append_back P s.fresh (s.waiting ++ s.deferred) r.sound.known in
        let two = each_append_back P s.waiting s.deferred one.1 in
        let t : Plain = plain s.invocations ((s.fresh ++ s.deferred) ++ new) s.waiting [] (filled_in s.cells x v) s.outputs in
        let sound : Sound g (suc k) t = record {
          names = names;
          named = r.sound.named;
          differ = r.sound.differ;
          turns = turns_more k s r.sound.turns;
          known = each_append P ((s.fresh ++ s.deferred) ++ new) (s.waiting ++ [])
              (each_append P (s.fresh ++ s.deferred) new (each_append P s.fresh s.deferred one.0 two.1) known) (each_append P s.waiting [] two.0 tt);
          stuck = r.sound.stuck;
          defers = tt;
          cell_count = filled_long s.cells x v low ∙ r.sound.cell_count;
          output_count = r.sound.output_count;
        } in
        let order : IsPermutation (map (tagged_of names) (all_tokens t)) (map (tagged_of names) new ++ map (tagged_of names) (all_tokens s)) =
        subst (λ l. IsPermutation (map (tagged_of names) (all_tokens t)) l) (map-append (tagged_of names) new (all_tokens s))
        (IsPermutation-map (tagged_of names) (all_tokens t) (new ++ all_tokens s) (to_woken s.fresh s.waiting s.deferred new)) in
        goes record { added = added; memory = with_cell m x v } h t sound
        (subst (λ l. IsPermutation (map (tagged_of names) (all_tokens t)) (l ++ map (tagged_of names) (all_tokens s))) same order)
        (ap (λ (f : ℕ → Option Value). record { cells = f; outputs = held_in s.outputs }) (filled_same s.cells x v low)) (same_names added)

    -- AN OUTPUT IS FILLED
    puts : (j : ℕ) (v : Value) → j < length s.outputs → done (flow_of g) m (deed_of names vs d) ≡ Some record { added = []; memory = with_output m j v }
        → Acted g inputs k s vs d r (plain s.invocations s.fresh s.waiting s.deferred s.cells (filled_in s.outputs j v))
    puts j v low h =
        let t : Plain = plain s.invocations s.fresh s.waiting s.deferred s.cells (filled_in s.outputs j v) in
        let sound : Sound g (suc k) t = record {
          names = names;
          named = r.sound.named;
          differ = r.sound.differ;
          turns = turns_more k s r.sound.turns;
          known = r.sound.known;
          stuck = r.sound.stuck;
          defers = r.sound.defers;
          cell_count = r.sound.cell_count;
          output_count = filled_long s.outputs j v low ∙ r.sound.output_count;
        } in
        goes record { added = []; memory = with_output m j v } h t sound (IsPermutation-refl _)
        (ap (λ (f : ℕ → Option Value). record { cells = held_in s.cells; outputs = f }) (filled_same s.outputs j v low)) (same_names [])

    -- AN INVOCATION IS ENTERED
    enters : (made : Made) (f : ℕ) (new : List Token) (added : List Tagged) → CanEnter g names (length s.invocations) made f → TurnBelow (suc k) made
        → AreOf (number_in s.invocations made) new → 0 < length new
        → ((cs : List Context) → name_in cs (number_in s.invocations made) ≡ made_of names made → map (tagged_of cs) new ≡ added)
        → done (flow_of g) m (deed_of names vs d) ≡ Some record { added = added; memory = m }
        → Acted g inputs k s vs d r (plain (with_made s.invocations made f) (s.fresh ++ new) s.waiting s.deferred s.cells s.outputs)
    enters made f new added can turn of some same h =
        let e = entered_law g s.invocations names made f r.sound.named can in
        let t : Plain = plain (with_made s.invocations made f) (s.fresh ++ new) s.waiting s.deferred s.cells s.outputs in
        let count = r.sound.named.count in
        let new_count = e.named.count in
        let more = e.more in
        let wide : length s.invocations ≤ length (with_made s.invocations made f) = omega (arith, count, new_count, more) in
        let P : Token → Type 0 = λ t. t.context < length s.invocations in
        let Q : Token → Type 0 = λ t. t.context < length (with_made s.invocations made f) in
        let one = each_append_back P s.fresh (s.waiting ++ s.deferred) r.sound.known in
        let two = each_append_back P s.waiting s.deferred one.1 in
        let later : (ts : List Token) → Each P ts → Each Q ts = λ ts h. each_weaker P Q (λ t low. omega (arith, low, wide)) ts h in
        let kept : (ts : List Token) → Each P ts → map (tagged_of e.names) ts ≡ map (tagged_of names) ts =
        λ ts h. tokens_kept names e.names e.kept ts (subst (λ n. AreKnown n ts) (sym count) h) in
        let here : number_in s.invocations made < length (with_made s.invocations made f) = let low = e.number in omega (arith, low, new_count) in
        let sound : Sound g (suc k) t = record {
          names = e.names;
          named = e.named;
          differ = mades_more s.invocations made f r.sound.differ;
          turns = made_more (TurnBelow (suc k)) s.invocations made f (turns_more k s r.sound.turns) turn;
          known = each_append Q (s.fresh ++ new) (s.waiting ++ s.deferred) (each_append Q s.fresh new (later s.fresh one.0)
              (known_of (number_in s.invocations made) _ here new of)) (later (s.waiting ++ s.deferred) one.1);
          stuck = subst (Stuck (flow_of g)) (sym (kept s.waiting two.0)) r.sound.stuck;
          defers = subst (Each (IsDeferred (flow_of g) (held_in s.cells))) (sym (kept s.deferred two.1)) r.sound.defers;
          cell_count = r.sound.cell_count;
          output_count = r.sound.output_count;
        } in
        goes record { added = added; memory = m } h t sound
        (subst (λ l. IsPermutation (map (tagged_of e.names) (all_tokens t)) (added ++ l)) (kept (all_tokens s) r.sound.known)
        (subst (λ l. IsPermutation (map (tagged_of e.names) (all_tokens t)) (l ++ map (tagged_of e.names) (all_tokens s))) (same e.names e.name)
        (fresh_order e.names new))) refl
        record {
          others = (entered_first g s.invocations names made f count e r.past.others r.past.first).0;
          first = (entered_first g s.invocations names made f count e r.past.others r.past.first).1;
          wide = entered_wide g s.invocations names made f count e;
          fresh = λ c k. subst (λ l. Within c names ⊎ ((x : Tagged) × Within x l × (x.context ≡ c))) (same e.names e.name)
              (entered_fresh g s.invocations names made f count e new of some c k);
        }

  -- Each deed in its turn.
  pub acts : (d : Deed) (r : Ready g inputs k s vs d) → Acted g inputs k s vs d r (performed g s vs d)
  acts (Sends c n p v) r =
      let q = sends_same g s.invocations r.sound.names r.sound.named c r.is_known v n p in
      sent_more (Sends c n p v) r (sent_in g s.invocations (sent_of c v) n p) _ (known_of c _ r.is_known _ q.1) q.0 refl
  acts (Steers c n v) r =
      let q = tells_same g s.invocations r.sound.names r.sound.named c r.is_known v n in
      sent_more (Steers c n v) r (steered_in g s.invocations (sent_of c v) n) _ (known_of c _ r.is_known _ q.1) q.0 refl
  acts (Enters made f i v) r =
      let c = number_in s.invocations made in
      enters (Enters made f i v) r made f (token_at (sent_of c v) (Operand i 0) ∷ []) _ r.is_known r.turn (refl, tt) (omega arith)
      (λ cs e. ap (λ c. Meaning.tagged c (Meaning.AtNode i) (Meaning.Operand 0) v ∷ []) e) refl
  acts (EntersAll made f) r =
      let c = number_in s.invocations made in
      enters (EntersAll made f) r made f (entering_tokens c 0 vs) _ r.is_known r.turn (entering_of c 0 vs) (entering_some c 0 vs r.some)
      (λ cs e. entering_same cs c 0 vs ∙ ap (λ c. Meaning.entering c 0 vs) e) refl
  acts Stops r = stops Stops r refl
  acts (Reads c n x) r =
      let cs = r.sound.names in
      let held = free_reads (held_in s.cells x) r.free in
      let q = sends_same g s.invocations cs r.sound.named c r.is_known.0 held.0 n 0 in
      subst (λ o. Acted g inputs k s vs (Reads c n x) r (plain s.invocations (s.fresh ++ answered g s.invocations c n o) s.waiting s.deferred s.cells
      s.outputs)) (sym held.1)
      (sent_more (Reads c n x) r (sent_in g s.invocations (sent_of c held.0) n 0) _ (known_of c _ r.is_known.0 _ q.1) q.0
      (ap (λ o. when_full o (λ v. adds (tokens_of (flow_of g) (Meaning.Sends (name_in cs c) n 0 v)) m)) held.1))
  acts (Fills c n x a i v) r =
      let cs = r.sound.names in
      let q = sends_same g s.invocations cs r.sound.named c r.is_known.0 v n 0 in
      let low : x < length s.cells = subst (λ y. y < length s.cells) (sym r.is_known.1)
      (subst (λ l. first_of g.arrays a + i < l) (sym r.sound.cell_count) (cell_low g.arrays a i r.is_known.2)) in
      fills (Fills c n x a i v) r x v (sent_in g s.invocations (sent_of c v) n 0) _ low (known_of c _ r.is_known.0 _ q.1) q.0
      (ap (λ o. when_empty o (adds (tokens_of (flow_of g) (Meaning.Sends (name_in cs c) n 0 v)) (with_cell m x v))) (free_fills (held_in s.cells x) a i r.free))
  acts (Puts j v) r = puts (Puts j v) r j v r.put refl

  pub acted : (d : Deed) → Ready g inputs k s vs d → RunsSoFar g inputs (suc k) (performed g s vs d)
  acted d r = (acts d r).follows
