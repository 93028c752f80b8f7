-- What is seen of a run of the new code is what is seen of the run of the old one.
use Rattle.std.proofs.Common.{◌≡◌, refl, sym, ap, ◌∙◌, subst, ℕ, ◌*◌, ◌⊎◌, inl, inr, ℤ, List, [], ◌∷◌, IsPermutation, Contains}
use Rattle.std.proofs.lemmas.List.{length-map}
use Rattle.std.proofs.lemmas.List.Elements.{Contains-append_right, Contains-append_cases}
use Rattle.std.proofs.lemmas.List.Sorted.{Contains-permutation, IsPermutation-sym}
use Rattle.lemmas.proofs.Contains.{contains_head, contains_mapped}
use Rattle.tags.specs.declared.value.Value.{Value}
use Rattle.tags.specs.declared.token.Port.TheVariants.{Left}
use Rattle.tags.specs.declared.token.Word.{Word}
use Rattle.tags.specs.declared.token.To.{To}
use Rattle.tags.specs.declared.token.Token.{Token}
use Rattle.semantics.specs.Program.{Program}
use Rattle.semantics.specs.Rule.{token}
use Rattle.semantics.specs.Machine.{CellState, Vacant, Full, Deferred, Machine, Store as MStore, Size, Events, at_start, Resting, Wants, reader_count, value_in}
use Rattle.semantics.specs.Faithful.{HasStoreOfFull}
use Rattle.semantics.specs.Handed.{handed, EachOnce}
use Rattle.semantics.specs.Plan.{Plan}
use Rattle.semantics.specs.Wired.{IsWired}
use Rattle.semantics.specs.Orderly.{Orderly, IsStart, met}
use Rattle.law_reuse.proofs.SlotsHistory.{taken}
use Rattle.law_reuse.proofs.SlotsClauses.{perm_nil}
use Rattle.law_fresh_frames.specs.Alike.{LooksAlike, LandsRightly}
use Rattle.law_simulation.specs.Places.{ip_cell, ip_cont, ip_slot, ip_store, ip_to}
use Rattle.law_simulation.specs.Simulates.{RelatedRunsAlike, Relates, Stands, left, moved, right, through}
use Rattle.law_simulation.proofs.SimulationEvents.{none_asked}
use Rattle.law_simulation.proofs.SimulationParts.{in_meant, meant_of, seen_of}
use Rattle.law_simulation.proofs.SimulationRuns.{simulated}
use Rattle.law_simulation.proofs.SimulationState.{C, Explained, Sim}
use Rattle.law_simulation.proofs.SimulationTraces.{Step, steps_of}

module _ (p q : Plan) (S : Relates p q) (wired : IsWired p) (orderly : Orderly p) (lands : LandsRightly p) (inputs : List ℤ) (z : Size)
    (start : IsStart p z inputs) where
  abbrev P : Program
  P = p.program

  abbrev Q : Program
  Q = q.program

  abbrev g : ℕ → ℕ
  g = S.g

  abbrev h : ℕ → ℕ
  h = S.h

  abbrev K : Type 0
  K = C p q S wired orderly lands inputs z start

  value_same : (c : CellState) → value_in (ip_cell h c) ≡ value_in c
  value_same Vacant = refl
  value_same (Full v) = refl
  value_same (Deferred cs) = refl

  readers_same : (c : CellState) → reader_count (ip_cell h c) ≡ reader_count c
  readers_same Vacant = refl
  readers_same (Full v) = refl
  readers_same (Deferred cs) = length-map cs (ip_cont h)

  full_back : (c : CellState) (w : Value) → ip_cell h c ≡ Full w → c ≡ Full w
  full_back Vacant w e = e
  full_back (Full v) w e = e
  full_back (Deferred cs) w e = absurd (cc)

  no_clumps : (cs : List K) → seen_of P Q g h cs ≡ [] → cs ≡ []
  no_clumps [] e = refl
  no_clumps (c ∷ cs) e = absurd (cc)

  module _ (events : Events) (m : Machine) (gone : List ℕ) (ss : List Step) (V : Sim p q S wired orderly lands inputs z start events m gone ss) where
    rests : Resting m → Resting V.part.last
    rests e =
        let none : V.clumps ≡ [] = no_clumps V.clumps
        (perm_nil (seen_of P Q g h V.clumps) (subst (λ (l : List Token). IsPermutation (seen_of P Q g h V.clumps) l) e (IsPermutation-sym _ _ V.seen))) in
        perm_nil V.part.last.pool (subst (λ (cs : List K). IsPermutation V.part.last.pool (meant_of P Q g h cs)) none V.part.pool)

    -- the stores
    stores : m.store ≡ ip_store h V.part.last.store
    stores = V.store ∙ ap (ip_store h) (sym V.part.same)

    wants : Wants V.part.last → Wants m
    wants (inl some) =
        inl (λ e. some (none_asked P Q g h S.arrays S.outputs (z.elements * z.frames) V.part.last.store V.part.last.store.requests
        (sym (ap (λ (s : MStore). s.requests) stores) ∙ e)))
    wants (inr (f, r, c, e)) = inr (f, r, ip_cont h c, ap (λ (s : MStore). s.slots f r) stores ∙ ap (ip_slot h) e)

    -- a store's token stands for itself
    store_clump : (x : ℕ) (v : Value) (k : Word) (seen : Token) (meant : List Token) → seen ≡ token (To.Store x v) k → Stands P Q g h seen meant
        → (w : Word) × (meant ≡ token (To.Store x v) w ∷ [])
    store_clump x v k seen meant e (moved s ts u is one fits) = go u.to u.word (ap (λ (t : Token). t.to) (sym is ∙ e)) one
      where
        go : (to : To) (w : Word) → ip_to h to ≡ To.Store x v → meant ≡ token to w ∷ [] → (w : Word) × (meant ≡ token (To.Store x v) w ∷ [])
        go (To.Instr f a r) w d one = absurd (cc)
        go (To.Fetch y) w d one = absurd (cc)
        go (To.Store y u) w d one = (w, one ∙ ap (λ (to : To). token to w ∷ []) d)
        go To.Manager w d one = absurd (cc)
        go (To.Release f) w d one = absurd (cc)
        go (To.Host j) w d one = absurd (cc)
    store_clump x v k seen meant e (through s ts f ip w y j is at op all d some fresh) = absurd (apart (ap (λ (t : Token). t.to) (sym is ∙ e)))
      where
        apart : To.Instr f ip Left ≡ To.Store x v → ⊥
        apart d = cc
    store_clump x v k seen meant e (right s ts f a w o n i j is at op to new all fresh) = absurd (apart (ap (λ (t : Token). t.to) (sym is ∙ e)))
      where
        apart : To.Instr f (g a) Left ≡ To.Store x v → ⊥
        apart d = cc
    store_clump x v k seen meant e (left s ts f a w o n i j is at op to new all fresh) = absurd (apart (ap (λ (t : Token). t.to) (sym is ∙ e)))
      where
        apart : To.Instr f (g a) Left ≡ To.Store x v → ⊥
        apart d = cc

    stored : (x : ℕ) → HasStoreOfFull m x → HasStoreOfFull V.part.last x
    stored x (v, w, k, inside, full) =
        let c = contains_mapped (λ (c : K). c.seen) V.clumps (token (To.Store x v) k) (Contains-permutation _ _ _ V.seen inside) in
        let s = store_clump x v k (c.0).seen (c.0).meant c.2 (c.0).stands in
        let there : Contains (meant_of P Q g h V.clumps) (token (To.Store x v) s.0) =
        in_meant P Q g h V.clumps c.0 c.1 (token (To.Store x v) s.0)
        (subst (λ (l : List Token). Contains l (token (To.Store x v) s.0)) (sym s.1) (contains_head (token (To.Store x v) s.0) [])) in (
          v,
          w,
          s.0,
          Contains-permutation _ _ _ (IsPermutation-sym _ _ V.part.pool) there,
          full_back (V.part.last.store.cells x) w (sym (ap (λ (s : MStore). s.cells x) stores) ∙ full),
        )

    -- each token that was met stands for some that were
    pub met_known : (t : Token) → Contains (met events m) t → Explained p q S wired orderly lands inputs z start V.part.done V.part.last t
    met_known t inside = go (Contains-append_cases (taken events) m.pool t inside)
      where
        go : Contains (taken events) t ⊎ Contains m.pool t → Explained p q S wired orderly lands inputs z start V.part.done V.part.last t
        go (inl c) = V.known t c
        go (inr c) =
            let k = contains_mapped (λ (c : K). c.seen) V.clumps t (Contains-permutation _ _ _ V.seen c) in
            record {
              tokens = (k.0).meant;
              stands = subst (λ (t : Token). Stands P Q g h t (k.0).meant) k.2 (k.0).stands;
              were =
                  λ u there. Contains-append_right (taken V.part.done) V.part.last.pool u
                  (Contains-permutation _ _ _ (IsPermutation-sym _ _ V.part.pool) (in_meant P Q g h V.clumps k.0 k.1 u there));
            }

    pub looks_alike : LooksAlike m V.part.last
    looks_alike = record {
      outputs = λ j. ap (λ (s : MStore). s.outputs j) stores;
      cells = λ x. ap (λ (s : MStore). value_in (s.cells x)) stores ∙ value_same (V.part.last.store.cells x);
      readers = λ x. ap (λ (s : MStore). reader_count (s.cells x)) stores ∙ readers_same (V.part.last.store.cells x);
      rests = rests;
      wants = wants;
      second_store = stored;
      clean =
          λ c. record {
            frames = λ f. ap (λ (s : MStore). s.out f) stores ∙ c.frames f;
            slots = λ f r. ap (λ (s : MStore). s.slots f r) stores ∙ ap (ip_slot h) (c.slots f r);
          };
    }

pub related_runs_alike : RelatedRunsAlike
related_runs_alike p q S wired orderly lands inputs z events m start r once =
    let here_start : IsStart p z inputs =
    record { some_element = start.some_element; some_frame = start.some_frame; inputs_fit = start.inputs_fit ∙ S.inputs } in
    let V = simulated p q S wired orderly lands inputs z here_start events m r once in
    record {
      done = V.part.done;
      last = V.part.last;
      run = V.part.run;
      once = subst (λ (l : List ℕ). EachOnce (0 ∷ l)) (sym V.part.hands) once;
      alike =
          looks_alike p q S wired orderly lands inputs z here_start events m (handed q.program z (at_start q.program inputs) events m r)
          (steps_of q.program z (at_start q.program inputs) events m r) V;
      requests = sym V.part.requests;
      credits = sym V.part.credits;
    }
