-- Each run of the new code is a run of the old one, in which literals fire at once.
use Rattle.std.proofs.Common.{◌≡◌, refl, sym, ap, ◌∙◌, subst, ℕ, zero, suc, ◌+◌, ◌*◌, ◌<◌, ◌≤◌, ◌⊎◌, inl, inr, ℤ, Contains, List, [], ◌∷◌, ◌++◌, length}
use Rattle.std.proofs.Common.{IsPermutation, append_assoc, append-nil, arith}
use Rattle.std.proofs.lemmas.List.Sorted.{IsPermutation-refl, IsPermutation-sym, IsPermutation-trans}
use Rattle.lemmas.proofs.Contains.{contains_cases, contains_none}
use Rattle.tags.specs.declared.token.Port.{Port}
use Rattle.tags.specs.declared.value.Value.TheVariants.{Int}
use Rattle.tags.specs.declared.token.Port.TheVariants.{Left}
use Rattle.tags.specs.declared.token.Cont.{Cont}
use Rattle.tags.specs.declared.token.Word.{Word}
use Rattle.tags.specs.declared.token.To.{To}
use Rattle.tags.specs.declared.token.Token.{Token}
use Rattle.semantics.specs.Program.{Program, first_of}
use Rattle.semantics.specs.Rule.{token, to_all}
use Rattle.semantics.specs.Machine.{Machine, Store as MStore, Size, Events, Run, input_tokens, at_start}
use Rattle.semantics.specs.Cause.{request_count, credit_count}
use Rattle.semantics.specs.Handed.{handed_by, handed, EachOnce, UsesEachOnce}
use Rattle.semantics.specs.Plan.{Plan}
use Rattle.semantics.specs.Wired.{IsWired}
use Rattle.semantics.specs.Orderly.{Orderly, IsStart}
use Rattle.law_reuse.proofs.SlotsHistory.{kept_start}
use Rattle.law_reuse.proofs.SlotsRuns.{once_before}
use Rattle.law_fresh_frames.specs.Alike.{LandsRightly}
use Rattle.law_simulation.specs.Simulates.{Clumped, Fresh, Plain, Relates, Sends}
use Rattle.law_simulation.proofs.SimulationNext.{sim_next}
use Rattle.law_simulation.proofs.SimulationParts.{Clump, Sums, clumps_of, meant_of, seen_of}
use Rattle.law_simulation.proofs.SimulationPast.{Reached, ready, settle}
use Rattle.law_simulation.proofs.SimulationRules.{Made, cons_clumped, none_clumped}
use Rattle.law_simulation.proofs.SimulationState.{Sim, counted_of}
use Rattle.law_simulation.proofs.SimulationTold.{Told, came_perm, told_perm, told_behind}
use Rattle.law_simulation.proofs.SimulationTraces.{Step, step, steps_of}
use Rattle.law_simulation.proofs.SimulationWords.{start_fits}

-- the inputs
start_clumped : (p q : Program) (g h : ℕ → ℕ) (a b : ℕ) (xs : List ℤ) → ((k : ℕ) → k < length xs → (h (a + k) ≡ b + k) × Plain p q h (a + k))
    → Made p q g h (input_tokens b xs) (input_tokens a xs)
start_clumped p q g h a b [] e = none_clumped p q g h
start_clumped p q g h a b (x ∷ xs) e =
    let old_zero : a ≡ a + 0 = omega arith in
    let new_zero : b + 0 ≡ b = omega arith in
    let d = e 0 (omega arith) in
    let first_one : h a ≡ b = ap h old_zero ∙ d.0 ∙ new_zero in
    let more : Made p q g h (input_tokens (b + 1) xs) (input_tokens (a + 1) xs) =
    start_clumped p q g h (a + 1) (b + 1) xs
    (λ k l. (let r = e (suc k) (omega (arith, l)) in let old_next : a + 1 + k ≡ a + suc k = omega arith in let new_next : b + suc k ≡ b + 1 + k = omega arith in
    let old_back : a + suc k ≡ a + 1 + k = omega arith in (ap h old_next ∙ r.0 ∙ new_next, subst (Plain p q h) old_back r.1))) in
    let old_first : a + 0 ≡ a = omega arith in
    subst (λ (n : ℕ). Made p q g h (token (To.Instr 0 n Left) (Word.Val (Int x)) ∷ input_tokens (b + 1) xs) (input_tokens a (x ∷ xs))) first_one
    (cons_clumped p q g h (token (To.Instr 0 a Left) (Word.Val (Int x))) (input_tokens (b + 1) xs) (input_tokens (a + 1) xs) more
    (subst (Plain p q h) old_first d.1))

same_place : {a b x y : ℕ} {r s : Port} → To.Instr a x r ≡ To.Instr b y s → x ≡ y
same_place e = cc

inputs_at : (n : ℕ) (xs : List ℤ) (t : Token) → Contains (input_tokens n xs) t → (f ip : ℕ) (r : Port) → t.to ≡ To.Instr f ip r
    → (k : ℕ) × (k < length xs) × (ip ≡ n + k)
inputs_at n [] t c f ip r to = absurd (contains_none t c)
inputs_at n (x ∷ xs) t c f ip r to =
    go (contains_cases (token (To.Instr 0 n Left) (Word.Val (Int x))) (input_tokens (n + 1) xs) t c) (λ c. inputs_at (n + 1) xs t c f ip r to)
  where
    go : (token (To.Instr 0 n Left) (Word.Val (Int x)) ≡ t) ⊎ Contains (input_tokens (n + 1) xs) t
        → (Contains (input_tokens (n + 1) xs) t → (k : ℕ) × (k < length xs) × (ip ≡ n + 1 + k)) → (k : ℕ) × (k < length (x ∷ xs)) × (ip ≡ n + k)
    go (inl e) more = let k = same_place (ap (λ (t : Token). t.to) e ∙ to) in (0, omega arith, omega (arith, k))
    go (inr d) more = let m = more d in let a = m.1 in let b = m.2 in (suc m.0, omega (arith, a), omega (arith, b))

-- a token of the start is at main's first instruction or at one of the inputs after it
start_at : (p : Program) (inputs : List ℤ) (t : Token) → Contains (at_start p inputs).pool t → (f ip : ℕ) (r : Port) → t.to ≡ To.Instr f ip r
    → (k : ℕ) × (k ≤ length inputs) × (ip ≡ first_of p p.main + k)
start_at p inputs t c f ip r to =
    go (contains_cases (token (To.Instr 0 (first_of p p.main) Left) (Word.Back (Cont.Host 0))) (input_tokens (first_of p p.main + 1) inputs) t c)
  where
    go : (token (To.Instr 0 (first_of p p.main) Left) (Word.Back (Cont.Host 0)) ≡ t) ⊎ Contains (input_tokens (first_of p p.main + 1) inputs) t
        → (k : ℕ) × (k ≤ length inputs) × (ip ≡ first_of p p.main + k)
    go (inl e) = let k = same_place (ap (λ (t : Token). t.to) e ∙ to) in (0, omega arith, omega (arith, k))
    go (inr d) = let m = inputs_at (first_of p p.main + 1) inputs t d f ip r to in let a = m.1 in let b = m.2 in (suc m.0, omega (arith, a), omega (arith, b))

module _ (p q : Plan) (S : Relates p q) (wired : IsWired p) (orderly : Orderly p) (lands : LandsRightly p) (inputs : List ℤ) (z : Size)
    (start : IsStart p z inputs) where
  abbrev P : Program
  P = p.program

  abbrev Q : Program
  Q = q.program

  abbrev g : ℕ → ℕ
  g = S.g

  abbrev h : ℕ → ℕ
  h = S.h

  abbrev first : Machine
  first = at_start P inputs

  abbrev total : ℕ
  total = z.elements * z.frames

  abbrev C : Type 0
  C = Clump P Q g h

  abbrev seen_in : List C → List Token
  seen_in cs = seen_of P Q g h cs

  abbrev meant_in : List C → List Token
  meant_in cs = meant_of P Q g h cs

  abbrev Past : MStore → List Token → Sums → Type 0
  Past = Reached p q g h S.answers wired orderly inputs z start

  abbrev sums : Events → List ℕ → List Step → List Token → List Token → List Token → Sums
  sums events gone ss pool olds spent =
      record {
        gone = gone;
        asked = request_count events;
        credited = credit_count Q events;
        olds = olds;
        spent = spent;
        counts = counted_of q h ss;
        arcs = Told p q S ss pool;
      }

  abbrev SimAt : Events → Machine → List ℕ → List Step → Type 0
  SimAt = Sim p q S wired orderly lands inputs z start

  -- ---- RUNS
  sim_run : (later events : Events) (m c : Machine) (gone : List ℕ) (ss : List Step) → SimAt events m gone ss → (r : Run Q z m later c)
      → EachOnce (0 ∷ gone ++ handed Q z m later c r) → SimAt (events ++ later) c (gone ++ handed Q z m later c r) (ss ++ steps_of Q z m later c r)
  sim_run [] events m c gone ss V r once =
      let reordered : SimAt events c gone ss = record {
        old = V.old;
        clumps = V.clumps;
        part = record {
          done = V.part.done;
          last = V.part.last;
          run = V.part.run;
          hands = V.part.hands;
          kept = V.part.kept;
          same = V.part.same;
          pool = V.part.pool;
          requests = V.part.requests;
          credits = V.part.credits;
          grown = V.part.grown;
          took = V.part.took;
          counts = V.part.counts;
          words = V.part.words;
          arcs = λ f a k e. told_perm p q S ss m.pool c.pool r.0 f a k (V.part.arcs f a k e);
        };
        seen = IsPermutation-trans _ _ _ (IsPermutation-sym _ _ r.0) V.seen;
        store = r.1 ∙ V.store;
        known = V.known;
        counted = V.counted;
        came = came_perm p q S ss m.pool c.pool r.0 V.came;
      } in
      subst (λ (l : List Step). SimAt (events ++ []) c (gone ++ []) l) (sym (append-nil ss))
      (subst (λ (l : List ℕ). SimAt (events ++ []) c l ss) (sym (append-nil gone))
      (subst (λ (l : Events). SimAt l c gone ss) (sym (append-nil events)) reordered))
  sim_run (x ∷ later) events m c gone ss V r once =
      let fs : List ℕ = handed_by x.1.to r.1.made in
      let more : List ℕ = handed Q z r.0 later c r.2 in
      let this_one : Step = step m.store x.1 r.1.made r.0 in
      let after : List Step = steps_of Q z r.0 later c r.2 in
      let before : EachOnce (0 ∷ gone) = once_before (0 ∷ gone) (fs ++ more) once in
      let all : EachOnce (0 ∷ (gone ++ fs) ++ more) = subst (λ (l : List ℕ). EachOnce (0 ∷ l)) (sym (append_assoc gone fs more)) once in
      let next : SimAt (events ++ (x.0, x.1) ∷ []) r.0 (gone ++ fs) (ss ++ this_one ∷ []) =
      sim_next p q S wired orderly lands inputs z start events m gone ss V before x.0 x.1 r.0 r.1 (once_before (0 ∷ gone ++ fs) more all) in
      let rest : SimAt ((events ++ (x.0, x.1) ∷ []) ++ later) c ((gone ++ fs) ++ more) ((ss ++ this_one ∷ []) ++ after) =
      sim_run later (events ++ (x.0, x.1) ∷ []) r.0 c (gone ++ fs) (ss ++ this_one ∷ []) next r.2 all in
      subst (λ (l : List Step). SimAt (events ++ x ∷ later) c (gone ++ (fs ++ more)) l) (append_assoc ss (this_one ∷ []) after)
      (subst (λ (l : List ℕ). SimAt (events ++ x ∷ later) c l ((ss ++ this_one ∷ []) ++ after)) (append_assoc gone fs more)
      (subst (λ (l : Events). SimAt l c ((gone ++ fs) ++ more) ((ss ++ this_one ∷ []) ++ after)) (append_assoc events (x ∷ []) later) rest))

  sim_start : SimAt [] (at_start Q inputs) [] []
  sim_start =
      let old_zero : first_of P P.main ≡ first_of P P.main + 0 = omega arith in
      let new_zero : first_of Q Q.main + 0 ≡ first_of Q Q.main = omega arith in
      let old_back : first_of P P.main + 0 ≡ first_of P P.main = omega arith in
      let entry = S.entries 0 (omega arith) in
      let begins : h (first_of P P.main) ≡ first_of Q Q.main = ap h old_zero ∙ entry.0 ∙ new_zero in
      let fits = start.inputs_fit in
      let values : Made P Q g h (input_tokens (first_of Q Q.main + 1) inputs) (input_tokens (first_of P P.main + 1) inputs) =
      start_clumped P Q g h (first_of P P.main + 1) (first_of Q Q.main + 1) inputs
      (λ k l. (let r = S.entries (1 + k) (omega (arith, l, fits)) in let old_next : first_of P P.main + 1 + k ≡ first_of P P.main + (1 + k) = omega arith in
      let new_next : first_of Q Q.main + (1 + k) ≡ first_of Q Q.main + 1 + k = omega arith in
      let next_back : first_of P P.main + (1 + k) ≡ first_of P P.main + 1 + k = omega arith in
      (ap h old_next ∙ r.0 ∙ new_next, subst (Plain P Q h) next_back r.1))) in
      let all : Made P Q g h (at_start Q inputs).pool first.pool =
      subst (λ (n : ℕ). Made P Q g h (token (To.Instr 0 n Left) (Word.Back (Cont.Host 0)) ∷ input_tokens (first_of Q Q.main + 1) inputs) first.pool) begins
      (cons_clumped P Q g h (token (To.Instr 0 (first_of P P.main) Left) (Word.Back (Cont.Host 0))) (input_tokens (first_of Q Q.main + 1) inputs)
      (input_tokens (first_of P P.main + 1) inputs) values (subst (Plain P Q h) old_back entry.1)) in
      let begun : Past first.store (first.pool ++ []) (sums [] [] [] (at_start Q inputs).pool [] []) = record {
        done = [];
        last = first;
        run = (IsPermutation-refl _, refl);
        hands = refl;
        kept = kept_start p z inputs (IsPermutation-refl _, refl);
        same = refl;
        pool = subst (IsPermutation first.pool) (sym (append-nil first.pool)) (IsPermutation-refl _);
        requests = refl;
        credits = refl;
        grown = λ x c. absurd (contains_none x c);
        took = λ f a r. omega arith;
        counts = λ x f fair. refl;
        words = start_fits P Q g h inputs;
        arcs = λ f a r e. absurd e;
      } in
      let X : Clumped P Q g h (at_start Q inputs).pool first.pool =
      ready p q g h S.answers wired orderly inputs z start first.store [] (sums [] [] [] (at_start Q inputs).pool [] [])
      (at_start Q inputs).pool first.pool all begun single in
      let fired : Past first.store (X.meant ++ []) (sums [] [] [] (at_start Q inputs).pool [] []) =
      settle p q g h S.answers wired orderly inputs z start (Sends P Q h (at_start Q inputs).pool) first.pool X.meant X.settles first.store []
      (sums [] [] [] (at_start Q inputs).pool [] [])
      (λ f l sends came w v i at is k b r m U. told_behind p q S [] (at_start Q inputs).pool f l sends came w i at is k b r
      (to_all record { frame = f; ip = l } v i) m U)
      begun
      single in
      let cl = clumps_of P Q g h (at_start Q inputs).pool X.meant X.stand in
      record {
        old = first.store;
        clumps = cl.0;
        part = subst (λ (l : List Token). Past first.store l (sums [] [] [] (at_start Q inputs).pool [] [])) (append-nil X.meant ∙ sym cl.2) fired;
        seen = subst (IsPermutation (at_start Q inputs).pool) (sym cl.1) (IsPermutation-refl _);
        store = refl;
        known = λ t c. absurd (contains_none t c);
        counted = λ f ip r x L. omega arith;
        came = start_came;
      }
    where
      -- the start's tokens are at entries
      start_came : (t : Token) → Contains (at_start Q inputs).pool t → (f ip : ℕ) (r : Port) → t.to ≡ To.Instr f ip r → Fresh P Q h ip → ⊥
      start_came t inside f ip r to fresh =
          let a = start_at Q inputs t inside f ip r to in
          let low = a.1 in let fit = start.inputs_fit in
          let entry = S.entries a.0 (omega (arith, low, fit)) in
          fresh (first_of P P.main + a.0) entry.1 (a.2 ∙ sym entry.0)

      single : EachOnce (0 ∷ [])
      single zero zero f a b = refl
      single zero (suc j) f a b = absurd (cc)
      single (suc i) j f a b = absurd (cc)

  pub simulated : (events : Events) (m : Machine) (r : Run Q z (at_start Q inputs) events m) → UsesEachOnce Q z inputs events m r
      → SimAt events m (handed Q z (at_start Q inputs) events m r) (steps_of Q z (at_start Q inputs) events m r)
  simulated events m r once = sim_run events [] (at_start Q inputs) m [] [] sim_start r once
