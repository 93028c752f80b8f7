-- The run of the old code, in which literals and copies that may fire at once.
use Rattle.std.proofs.Common.{◌≡◌, refl, sym, ap, ◌∙◌, subst, ℕ, ◌+◌, ◌*◌, ◌≤◌, ◌⊎◌, inl, inr, Bool, true, false, ℤ, List, [], ◌∷◌, ◌++◌, Option, Some, None}
use Rattle.std.proofs.Common.{IsPermutation, Contains, append_assoc, append-nil, arith}
use Rattle.std.specs.Prelude.{if◌then◌else◌}
use Rattle.std.proofs.lemmas.Bool.{eq-eqb}
use Rattle.std.proofs.lemmas.List.Elements.{Contains-append_left, Contains-append_right, Contains-append_cases}
use Rattle.std.proofs.lemmas.List.Sorted.{Contains-permutation, IsPermutation-refl, IsPermutation-sym, IsPermutation-trans, IsPermutation-append_left}
use Rattle.tags.specs.declared.value.Value.{Value}
use Rattle.tags.specs.declared.token.Port.{Port}
use Rattle.tags.specs.declared.token.Port.TheVariants.{Left, Right}
use Rattle.tags.specs.declared.token.Word.{Word}
use Rattle.tags.specs.declared.token.To.{To}
use Rattle.tags.specs.declared.token.Token.{Token}
use Rattle.tags.specs.declared.slot.SlotState.{SlotState}
use Rattle.tags.specs.declared.slot.SlotState.TheVariants as Slot
use Rattle.tags.specs.declared.slot.SlotState.TheVariants.{Empty}
use Rattle.tags.specs.Addresses.{element_of}
use Rattle.semantics.specs.declared.program.Dest.{Dest}
use Rattle.semantics.specs.declared.program.Op.{Op}
use Rattle.semantics.specs.declared.program.Op.TheVariants.{Apply2}
use Rattle.semantics.specs.Program.{Instr, Program, instr_at}
use Rattle.semantics.specs.Rule.{token, Point, Outcome, Becomes, fires, fire_two, meets, outcome_of, rule_at, slot_of, to_all}
use Rattle.semantics.specs.Machine.{Machine, Store as MStore, Size, Event, Events, Run, at_start, put_at, with_slot, slot_in, slot_used, Fires, Happens}
use Rattle.semantics.specs.Machine.{excluded_by, stuck_rule}
use Rattle.operators.specs.declared.Binary.{Binary}
use Rattle.semantics.specs.Cause.{is_request, request_count, seeks_credit, is_credit_event, credit_count}
use Rattle.semantics.specs.Handed.{handed_by, handed, EachOnce}
use Rattle.semantics.specs.Plan.{Plan}
use Rattle.semantics.specs.Wired.{IsWired}
use Rattle.semantics.specs.Orderly.{Orderly, IsOrderlyRun, IsStart, met}
use Rattle.law_reuse.proofs.FramesSnoc.{run_snoc, handed_snoc, tally, tally_snoc, some_snoc}
use Rattle.law_reuse.proofs.FramesCounts.{requests_more, credits_more}
use Rattle.law_reuse.proofs.SlotsHistory.{taken, Kept, kept_next}
use Rattle.law_reuse.proofs.BoundsTallies.{Counter, count_at}
use Rattle.semantics.specs.Orderly.{is_at, is_entry}
use Rattle.law_fresh_frames.proofs.BoundedWeights.{tot_append}
use Rattle.law_fresh_frames.proofs.BoundedRows.{unit}
use Rattle.folding.specs.Laws.{other_port}
use Rattle.semantics.specs.Arcs.{UsesArc, SomeEvent}
use Rattle.std.specs.Prelude.{⊤}
use Rattle.lemmas.proofs.Contains.{contains_cases, contains_head, contains_none, contains_tail}
use Rattle.lemmas.proofs.Lists.{map_append}
use Rattle.tags.specs.declared.token.Port.{Port}
use Rattle.law_simulation.specs.Places.{is_answered}
use Rattle.law_simulation.specs.Simulates.{Clumped, FitsWord, IsValue, Pairs, Plain, Settles, counts_none, fired, hands_on, settled}
use Rattle.law_simulation.proofs.SimulationFires.{both_wait, hands_fires, hands_op}
use Rattle.law_simulation.proofs.SimulationParts.{Fair, Says, Sums, count_none, hands_none, no_seek, none_seeks, unit_of, with_spent}
use Rattle.law_simulation.proofs.SimulationPorts.{ones}
use Rattle.law_simulation.proofs.SimulationRules.{Made}
use Rattle.law_simulation.proofs.SimulationWords.{AllFit, Worded, happens_fits}

-- ---- THE OLD RUN
module _ (p q : Plan) (g h : ℕ → ℕ) (answers : (a : ℕ) (i : Instr) → instr_at p.program a ≡ Some i → is_answered i.op ≡ true
    → (d : Dest) × (i.firsts ≡ d ∷ []) × Plain p.program q.program h (a + d.ahead))
    (wired : IsWired p) (orderly : Orderly p) (inputs : List ℤ) (z : Size) (start : IsStart p z inputs) where
  abbrev P : Program
  P = p.program

  abbrev Q : Program
  Q = q.program

  abbrev first : Machine
  first = at_start P inputs

  abbrev total : ℕ
  total = z.elements * z.frames

  -- A run of the old code so far, to such a state, that met those tokens.
  pub record Reached (s : MStore) (ts : List Token) (T : Sums) : Type 0 where
    pub done : Events
    pub last : Machine
    pub run : Run P z first done last
    pub hands : handed P z first done last run ≡ T.gone
    pub kept : Kept p z first done last run (taken done)
    pub same : last.store ≡ s
    pub pool : IsPermutation last.pool ts
    pub requests : request_count done ≡ T.asked
    pub credits : credit_count P done ≡ T.credited
    pub grown : (x : Token) → Contains T.olds x → Contains (met done last) x
    pub took : (f a : ℕ) (r : Port) → ones f a r T.spent ≤ ones f a r (taken done)
    pub counts : (x : Counter) (f : ℕ) → Fair P Q h x → tally (count_at p P x f) P z first done last run ≡ T.counts x f
    pub words : AllFit P Q g h last.pool × Worded P Q g h last.store
    pub arcs : (f a : ℕ) (r : Port) → SomeEvent (UsesArc p f a r) P z first done last run → T.arcs f a r

  -- the same in other words
  pub again : (s : MStore) (ts us : List Token) (T U : Sums) → Reached s ts T → IsPermutation ts us → Says P Q h T U → Reached s us U
  again s ts us T U R e S = record {
    done = R.done;
    last = R.last;
    run = R.run;
    hands = R.hands ∙ S.gone;
    kept = R.kept;
    same = R.same;
    pool = IsPermutation-trans _ _ _ R.pool e;
    requests = R.requests ∙ S.asked;
    credits = R.credits ∙ S.credited;
    grown = λ x k. R.grown x (S.olds x k);
    took = λ f a r. (let l = R.took f a r in let m = S.spent f a r in omega (arith, l, m));
    counts = λ x f fair. R.counts x f fair ∙ S.counts x f fair;
    words = R.words;
    arcs = λ f a r k. S.arcs f a r (R.arcs f a r k);
  }

  pub same_sums : (T : Sums) → Says P Q h T T
  same_sums T =
      record { gone = refl; asked = refl; credited = refl; olds = λ x k. k; spent = λ f a r. omega arith; counts = λ x f fair. refl; arcs = λ f a r k. k }

  abbrev pub Once : Sums → Type 0
  Once T = EachOnce (0 ∷ T.gone)

  pub order_of : (s : MStore) (ts : List Token) (T : Sums) (R : Reached s ts T) → Once T → IsOrderlyRun p z first R.done R.last R.run
  order_of s ts T R once = orderly inputs z R.done R.last start R.run (subst (λ (l : List ℕ). EachOnce (0 ∷ l)) (sym R.hands) once)

  met_grows : (done : Events) (e : ℕ) (u : Token) (pool made rest : List Token) → IsPermutation pool (u ∷ rest) → (x : Token) → Contains (taken done ++ pool) x
      → Contains (taken (done ++ (e, u) ∷ []) ++ (made ++ rest)) x
  met_grows done e u pool made rest takes x inside =
      subst (λ (l : List Token). Contains (l ++ (made ++ rest)) x) (sym (map_append (λ (ev : ℕ × Token). ev.1) done ((e, u) ∷ [])))
      (go (Contains-append_cases (taken done) pool x inside))
    where
      pick : (u ≡ x) ⊎ Contains rest x → Contains ((taken done ++ u ∷ []) ++ (made ++ rest)) x
      pick (inl d) =
          Contains-append_left (taken done ++ u ∷ []) (made ++ rest) x
          (Contains-append_right (taken done) (u ∷ []) x (subst (Contains (u ∷ [])) d (contains_head u [])))
      pick (inr c) = Contains-append_right (taken done ++ u ∷ []) (made ++ rest) x (Contains-append_right made rest x c)

      go : Contains (taken done) x ⊎ Contains pool x → Contains ((taken done ++ u ∷ []) ++ (made ++ rest)) x
      go (inl c) = Contains-append_left (taken done ++ u ∷ []) (made ++ rest) x (Contains-append_left (taken done) (u ∷ []) x c)
      go (inr c) = pick (contains_cases u rest x (Contains-permutation _ _ x takes c))

  abbrev pub after_event : Sums → MStore → MStore → Token → List Token → List Token → Sums
  after_event T s after u made rest = record {
    gone = T.gone ++ handed_by u.to made;
    asked = T.asked + unit_of (is_request u.to);
    credited = T.credited + unit_of (is_credit_event P u.to);
    olds = T.olds;
    spent = T.spent ++ u ∷ [];
    counts = λ x f. T.counts x f + count_at p P x f s u.to made;
    arcs = λ f a r. T.arcs f a r ⊎ UsesArc p f a r u made record { store = after; pool = made ++ rest };
  }

  -- one more event
  pub step_on : (s after : MStore) (ts made rest : List Token) (T : Sums) → Reached s ts T → Once T → (u : Token) → IsPermutation ts (u ∷ rest)
      → Happens P total s u.to u.word made after → Reached after (made ++ rest) (after_event T s after u made rest)
  step_on s after ts made rest T R once u takes happens =
      let e : ℕ = element_of z.elements u.to in
      let now : Machine = record { store = after; pool = made ++ rest } in
      let there : IsPermutation R.last.pool (u ∷ rest) = IsPermutation-trans _ _ _ R.pool takes in
      let here : Happens P total R.last.store u.to u.word made after = subst (λ (s : MStore). Happens P total s u.to u.word made after) (sym R.same) happens in
      let evp : Event P z e u R.last now =
      record { made = made; rest = rest; addressed = refl; takes = there; happens = here; leaves = IsPermutation-refl (made ++ rest) } in
      let a = requests_more R.done e u in
      let b = credits_more P R.done e u in
      let fit = happens_fits P Q g h answers total R.last.store R.words.1 u.to u.word made after
      (R.words.0 u (Contains-permutation _ _ u (IsPermutation-sym _ _ there) (contains_head u rest))) here in
      record {
        done = R.done ++ (e, u) ∷ [];
        last = now;
        run = run_snoc P z first R.last now R.done e u R.run evp;
        hands = handed_snoc P z first R.last now R.done e u R.run evp ∙ ap (λ (l : List ℕ). l ++ handed_by u.to made) R.hands;
        kept = kept_next p wired z first R.done R.last now R.run e u evp (order_of s ts T R once) R.kept;
        same = refl;
        pool = IsPermutation-refl (made ++ rest);
        requests = a ∙ ap (λ (n : ℕ). n + unit_of (is_request u.to)) R.requests;
        credits = b ∙ ap (λ (n : ℕ). n + unit_of (is_credit_event P u.to)) R.credits;
        grown = λ x inside. met_grows R.done e u R.last.pool made rest there x (R.grown x inside);
        took = λ f a r.
            (let l = R.took f a r in let m = tot_append (λ (t : Token). unit (is_at f a r t.to)) T.spent (u ∷ []) in
            let n = tot_append (λ (t : Token). unit (is_at f a r t.to)) (taken R.done) (u ∷ []) in
            let k = ap (ones f a r) (map_append (λ (ev : ℕ × Token). ev.1) R.done ((e, u) ∷ [])) in omega (arith, l, m, n, k));
        counts = λ x f fair.
            (let l = tally_snoc (count_at p P x f) P z first R.last now R.done e u R.run evp in let m = R.counts x f fair in
            let n = ap (λ (s : MStore). count_at p P x f s u.to made) R.same in omega (arith, l, m, n));
        arcs = λ f a r k. uses f a r (some_snoc (UsesArc p f a r) P z first R.last now R.done e u R.run evp k);
        words = (joined made rest fit.0 (λ t k. R.words.0 t (Contains-permutation _ _ t (IsPermutation-sym _ _ there) (contains_tail u rest t k))), fit.1);
      }
    where
      uses : (f a : ℕ) (r : Port) → SomeEvent (UsesArc p f a r) P z first R.done R.last R.run
          ⊎ UsesArc p f a r u made record { store = after; pool = made ++ rest }
          → T.arcs f a r ⊎ UsesArc p f a r u made record { store = after; pool = made ++ rest }
      uses f a r (inl k) = inl (R.arcs f a r k)
      uses f a r (inr k) = inr k

      joined : (made rest : List Token) → AllFit P Q g h made → AllFit P Q g h rest → AllFit P Q g h (made ++ rest)
      joined made rest a b t k = go (Contains-append_cases made rest t k)
        where
          go : Contains made t ⊎ Contains rest t → FitsWord P Q h t.word
          go (inl k) = a t k
          go (inr k) = b t k

  -- an event of an instruction that asks for nothing and counts nothing
  pub quiet : (s after : MStore) (ts made rest : List Token) (T : Sums) → Reached s ts T → Once T → (f a : ℕ) (r : Port) (w : Word) (i : Instr)
      → IsPermutation ts (token (To.Instr f a r) w ∷ rest) → Happens P total s (To.Instr f a r) w made after
      → instr_at P a ≡ Some i → counts_none i.op ≡ true → seeks_credit (instr_at P a) ≡ false
      → ((k b : ℕ) (t : Port) → UsesArc p k b t (token (To.Instr f a r) w) made record { store = after; pool = made ++ rest } → T.arcs k b t)
      → Reached after (made ++ rest) (with_spent T (token (To.Instr f a r) w ∷ []))
  quiet s after ts made rest T R once f a r w i takes happens at none off uses =
      again after (made ++ rest) (made ++ rest) (after_event T s after (token (To.Instr f a r) w) made rest) (with_spent T (token (To.Instr f a r) w ∷ []))
      (step_on s after ts made rest T R once (token (To.Instr f a r) w) takes happens) (IsPermutation-refl _) record {
        gone = append-nil T.gone;
        asked = omega arith;
        credited = (let o = ap unit_of off in omega (arith, o));
        olds = λ x k. k;
        spent = λ f a r. omega arith;
        counts = λ x k fair. (let c = count_none p x k f a r s made i at none in omega (arith, c));
        arcs = λ k b t e. taken_in k b t e;
      }
    where
      taken_in : (k b : ℕ) (t : Port) → T.arcs k b t ⊎ UsesArc p k b t (token (To.Instr f a r) w) made record { store = after; pool = made ++ rest }
          → T.arcs k b t
      taken_in k b t (inl e) = e
      taken_in k b t (inr e) = uses k b t e

  -- the arcs of what may pass on are known already
  abbrev pub Absorbs : (ℕ → ℕ → Type 0) → Sums → Type 0
  Absorbs may T = (f l : ℕ) → may f l → (is_entry P.blocks l ≡ false → T.arcs f l Left) → (w v : Word) (i : Instr) → instr_at P l ≡ Some i
      → hands_on i.op ≡ true → (k b : ℕ) (t : Port) → (m : Machine)
      → UsesArc p k b t (token (To.Instr f l Left) w) (to_all record { frame = f; ip = l } v i) m → T.arcs k b t

  -- what passes on does so
  pub settle : (may : ℕ → ℕ → Type 0) (xs ys : List Token) → Settles may P xs ys → (s : MStore) (rest : List Token) (T : Sums) → Absorbs may T
      → Reached s (xs ++ rest) T → Once T → Reached s (ys ++ rest) T
  settle may xs ys (settled us vs e) s rest T told R once = again s (xs ++ rest) (ys ++ rest) T T R (IsPermutation-append_left rest xs ys e) (same_sums T)
  settle may xs ys (fired us vs f a w v i beside e at is k does) s rest T told R once =
      let takes : IsPermutation (xs ++ rest) (token (To.Instr f a Left) w ∷ (beside ++ rest)) =
      IsPermutation-append_left rest xs (token (To.Instr f a Left) w ∷ beside) e in
      let happens : Happens P total s (To.Instr f a Left) w (to_all record { frame = f; ip = a } v i) s =
      subst (λ (o : Option Instr). Fires s f (slot_used o) (rule_at P record { frame = f; ip = a } o (slot_in s f (slot_used o)) Left w)
      (to_all record { frame = f; ip = a } v i) s)
      (sym at) (hands_fires (λ w. ⊤) P f a w v i s is) in
      let inside : Contains R.last.pool (token (To.Instr f a Left) w) = Contains-permutation _ _ _ (IsPermutation-sym _ _ R.pool)
      (Contains-permutation _ _ _ (IsPermutation-sym _ _ takes) (contains_head (token (To.Instr f a Left) w) (beside ++ rest))) in
      let arrived : is_entry P.blocks a ≡ false → T.arcs f a Left =
      λ none. R.arcs f a Left ((order_of s (xs ++ rest) T R once).caused f a Left w none inside) in
      let on = hands_op (λ w. ⊤) i.op w v is in
      let none = hands_none i.op on in
      let fired_one : Reached s (to_all record { frame = f; ip = a } v i ++ (beside ++ rest)) (with_spent T (token (To.Instr f a Left) w ∷ [])) =
      quiet s s (xs ++ rest) (to_all record { frame = f; ip = a } v i) (beside ++ rest) T R once f a Left w i takes happens at none
      (no_seek (instr_at P a) i i.op at refl (none_seeks i.op none))
      (λ k b t U. told f a does arrived w v i at on k b t record { store = s; pool = to_all record { frame = f; ip = a } v i ++ (beside ++ rest) } U) in
      let regrouped : Reached s ((to_all record { frame = f; ip = a } v i ++ beside) ++ rest) T =
      again s (to_all record { frame = f; ip = a } v i ++ (beside ++ rest)) ((to_all record { frame = f; ip = a } v i ++ beside) ++ rest) (with_spent T
      (token (To.Instr f a Left) w ∷ [])) T fired_one
      (subst (IsPermutation (to_all record { frame = f; ip = a } v i ++ (beside ++ rest))) (sym (append_assoc
      (to_all record { frame = f; ip = a } v i) beside rest)) (IsPermutation-refl _)) record {
        gone = refl;
        asked = refl;
        credited = refl;
        olds = λ x k. k;
        spent = λ k b r. (let l = tot_append (λ (t : Token). unit (is_at k b r t.to)) T.spent (token (To.Instr f a Left) w ∷ []) in omega (arith, l));
        counts = λ x k fair. refl;
        arcs = λ k b r e. e;
      } in
      settle may (to_all record { frame = f; ip = a } v i ++ beside) ys k s rest T told regrouped once

  -- ---- VALUES
  some_none : (n : ℕ) → Some n ≡ None → ⊥
  some_none n e = cc

  -- an operator that gets two words gets values
  left_value : (s : Point) (i : Instr) (o : Binary) (w : Word) (v : Value) → i.op ≡ Apply2 o → excluded_by (meets P s i (Slot.Left w) Right (Word.Val v)) ≡ None
      → IsValue w
  left_value s i o w v e free = go w (sym (ap (λ (op : Op). excluded_by (fires Empty (fire_two P s i op w (Word.Val v)))) e) ∙ free)
    where
      go : (w : Word) → excluded_by (fires Empty (fire_two P s i (Apply2 o) w (Word.Val v))) ≡ None → IsValue w
      go (Word.Val u) k = (u, refl)
      go (Word.Frame u) k = absurd (some_none 4 k)
      go (Word.Back u) k = absurd (some_none 4 k)

  right_value : (s : Point) (i : Instr) (o : Binary) (w : Word) (v : Value) → i.op ≡ Apply2 o
      → excluded_by (meets P s i (Slot.Right w) Left (Word.Val v)) ≡ None
      → IsValue w
  right_value s i o w v e free = go w (sym (ap (λ (op : Op). excluded_by (fires Empty (fire_two P s i op (Word.Val v) w))) e) ∙ free)
    where
      go : (w : Word) → excluded_by (fires Empty (fire_two P s i (Apply2 o) (Word.Val v) w)) ≡ None → IsValue w
      go (Word.Val u) k = (u, refl)
      go (Word.Frame u) k = absurd (some_none 4 k)
      go (Word.Back u) k = absurd (some_none 4 k)

  module _ (f a : ℕ) (i : Instr) (o : Binary) (at : instr_at P a ≡ Some i) (op : i.op ≡ Apply2 o) where
    abbrev seat : Point
    seat = record { frame = f; ip = a }

    -- what is there of the operator's words is not excluded
    pub free_at : (s : MStore) (ts : List Token) (T : Sums) → Reached s ts T → Once T → (r : Port) (w : Word) → Contains ts (token (To.Instr f a r) w)
        → excluded_by (meets P seat i (s.slots f i.slot) r w) ≡ None
    free_at s ts T R once r w inside =
        sym (ap (λ (y : Option Instr). excluded_by (rule_at P seat y (slot_in s f (slot_used y)) r w)) at
        ∙ ap (λ (y : Op). excluded_by (outcome_of P seat i y (slot_in s f (slot_of i y)) r w)) op)
        ∙ subst (λ (s : MStore). stuck_rule P s (To.Instr f a r) w ≡ None) R.same
        ((order_of s ts T R once).matching (token (To.Instr f a r) w)
        (Contains-permutation _ _ (token (To.Instr f a r) w) (IsPermutation-sym _ _ R.pool) inside))

    waits : (s : MStore) (r : Port) (w : Word) (x : SlotState) → s.slots f i.slot ≡ Empty → meets P seat i Empty r w ≡ Becomes x []
        → Happens P total s (To.Instr f a r) w [] (with_slot s f i.slot x)
    waits s r w x free becomes =
        subst (λ (y : Option Instr). Fires s f (slot_used y) (rule_at P seat y (slot_in s f (slot_used y)) r w) [] (with_slot s f i.slot x)) (sym at)
        (subst (λ (y : Op). Fires s f (slot_of i y) (outcome_of P seat i y (slot_in s f (slot_of i y)) r w) [] (with_slot s f i.slot x)) (sym op)
        (subst (λ (y : SlotState). Fires s f (Some i.slot) (meets P seat i y r w) [] (with_slot s f i.slot x)) (sym free)
        (subst (λ (y : Outcome). Fires s f (Some i.slot) y [] (with_slot s f i.slot x)) (sym becomes) (refl, refl))))

    pub slot_now : (s : MStore) (x : SlotState) → (with_slot s f i.slot x).slots f i.slot ≡ x
    slot_now s x =
        ap (λ (b : Bool). (if b then put_at (s.slots f) i.slot x else s.slots f) i.slot) (eq-eqb f f refl)
        ∙ ap (λ (b : Bool). if b then x else s.slots f i.slot) (eq-eqb i.slot i.slot refl)

    -- the one word waits
    pub one_waits : (s : MStore) (ts rest : List Token) (T : Sums) → Reached s ts T → Once T → (r : Port) (w : Word) (x : SlotState)
        → IsPermutation ts (token (To.Instr f a r) w ∷ rest) → s.slots f i.slot ≡ Empty → meets P seat i Empty r w ≡ Becomes x []
        → Reached (with_slot s f i.slot x) rest (with_spent T (token (To.Instr f a r) w ∷ []))
    one_waits s ts rest T R once r w x takes free becomes =
        quiet s (with_slot s f i.slot x) ts [] rest T R once f a r w i takes (waits s r w x free becomes) at (ap counts_none op)
        (no_seek (instr_at P a) i (Apply2 o) at op refl)
        (λ k b t U. absurd (contains_none U.t U.is_made))

    pub value_of : (s : MStore) (rest : List Token) (T : Sums) (r : Port) (w : Word) (v : Value)
        → Reached s (token (To.Instr f a r) w ∷ token (To.Instr f a (other_port r)) (Word.Val v) ∷ rest) T → Once T → IsValue w
    value_of s rest T Left w v R once =
        let free = both_wait P seat i (s.slots f i.slot) w (Word.Val v)
        (free_at s _ T R once Left w (contains_head (token (To.Instr f a Left) w) (token (To.Instr f a Right) (Word.Val v) ∷ rest)))
        (free_at s _ T R once Right (Word.Val v)
        (contains_tail (token (To.Instr f a Left) w) (token (To.Instr f a Right) (Word.Val v) ∷ rest) (token (To.Instr f a Right) (Word.Val v))
        (contains_head (token (To.Instr f a Right) (Word.Val v)) rest))) in
        let waited = one_waits s _ (token (To.Instr f a Right) (Word.Val v) ∷ rest) T R once Left w (Slot.Left w) (IsPermutation-refl _) free refl in
        left_value seat i o w v op (subst (λ (x : SlotState). excluded_by (meets P seat i x Right (Word.Val v)) ≡ None) (slot_now s (Slot.Left w))
        (free_at (with_slot s f i.slot (Slot.Left w)) _ _ waited once Right (Word.Val v) (contains_head (token (To.Instr f a Right) (Word.Val v)) rest)))
    value_of s rest T Right w v R once =
        let free = both_wait P seat i (s.slots f i.slot) (Word.Val v) w
        (free_at s _ T R once Left (Word.Val v)
        (contains_tail (token (To.Instr f a Right) w) (token (To.Instr f a Left) (Word.Val v) ∷ rest) (token (To.Instr f a Left) (Word.Val v))
        (contains_head (token (To.Instr f a Left) (Word.Val v)) rest)))
        (free_at s _ T R once Right w (contains_head (token (To.Instr f a Right) w) (token (To.Instr f a Left) (Word.Val v) ∷ rest))) in
        let waited = one_waits s _ (token (To.Instr f a Left) (Word.Val v) ∷ rest) T R once Right w (Slot.Right w) (IsPermutation-refl _) free refl in
        right_value seat i o w v op (subst (λ (x : SlotState). excluded_by (meets P seat i x Left (Word.Val v)) ≡ None) (slot_now s (Slot.Right w))
        (free_at (with_slot s f i.slot (Slot.Right w)) _ _ waited once Left (Word.Val v) (contains_head (token (To.Instr f a Left) (Word.Val v)) rest)))

  abbrev any_arcs : Sums → Sums
  any_arcs T = record { gone = T.gone; asked = T.asked; credited = T.credited; olds = T.olds; spent = T.spent; counts = T.counts; arcs = λ f a r. ⊤ }

  -- what is made stands for what results from what was made
  pub ready : (s : MStore) (rest : List Token) (T : Sums) (new old : List Token) → Made P Q g h new old → Reached s (old ++ rest) T → Once T
      → Clumped P Q g h new old
  ready s rest T new old (w, M) R once = go M.tells
    where
      go : Clumped P Q g h new old ⊎ Pairs P old w → Clumped P Q g h new old
      go (inl C) = C
      go (inr A) =
          let pair : List Token = token (To.Instr A.frame A.a A.r) w ∷ token (To.Instr A.frame A.a (other_port A.r)) (Word.Val A.v) ∷ A.rest in
          let any_told : Reached s (old ++ rest) (any_arcs T) =
          again s (old ++ rest) (old ++ rest) T (any_arcs T) R
          (IsPermutation-refl
          _) record {
            gone = refl;
            asked = refl;
            credited = refl;
            olds = λ x k. k;
            spent = λ f a r. omega arith;
            counts = λ x f fair. refl;
            arcs = λ f a r k. tt;
          } in
          M.value (value_of A.frame A.a A.i A.o A.at A.op s (A.rest ++ rest) (any_arcs T) A.r w A.v
          (settle (λ f l. ⊤) old pair A.settles s rest (any_arcs T) (λ f l k came w v i at is x b t m U. tt) any_told once) once)
