-- The unfolded run, continued: each request that waits is served with a frame that was never used.
use Rattle.std.proofs.Common.{◌≡◌, refl, sym, ap, ◌∙◌, subst, ℕ, suc, ◌+◌, ◌*◌, ◌<◌, ◌≤◌, ◌⊎◌, inl, inr, ℤ, Bool, true, false, List, [], ◌∷◌, ◌++◌, map, length}
use Rattle.std.proofs.Common.{IsPermutation, arith, mul_left_comm, mul-pos}
use Rattle.std.specs.Prelude.{⊤}
use Rattle.std.proofs.lemmas.List.Sorted.{IsPermutation-refl, IsPermutation-sym, IsPermutation-trans, IsPermutation-middle, IsPermutation-append_comm}
use Rattle.lemmas.proofs.Permutations.{each_weaker}
use Rattle.tags.specs.declared.token.Cont.{Cont}
use Rattle.tags.specs.declared.token.Word.{Word}
use Rattle.tags.specs.declared.token.To.{To}
use Rattle.tags.specs.declared.token.Token.{Token}
use Rattle.semantics.specs.Program.{Program}
use Rattle.semantics.specs.Rule.{token}
use Rattle.semantics.specs.Machine.{CellState, Vacant, Full, Deferred, value_in, Machine, Size, Event, Events, Run, at_start, put_at, with_out, answer}
use Rattle.semantics.specs.Plan.{Plan}
use Rattle.semantics.specs.Handed.{handed, EachOnce}
use Rattle.tags.specs.declared.slot.SlotState.TheVariants.{Empty}
use Rattle.semantics.specs.Renamed.{re_cont, re_token, re_cell}
use Rattle.law_reuse.proofs.FramesCounts.{Counted, counted_serves}
use Rattle.law_reuse.proofs.FramesLists.{all_differ}
use Rattle.law_reuse.proofs.FramesFold.{put_other}
use Rattle.law_reuse.proofs.FramesFreed.{place, place_low, place_same, place_fresh}
use Rattle.law_reuse.proofs.Frames.{So, so_start, so_after, Once, once_more, waits, Used, FreesOnce, Next, wide, last_state}

module _ (P : Plan) (p : Program) (inputs : List ℤ) (elements frames n : ℕ) (some_frame : 0 < frames) (some_element : 0 < elements) (done : Events)
    (gen : ℕ → ℕ) (out : ℕ → Bool) where
  abbrev total : ℕ
  total = elements * frames

  abbrev size : Size
  size = wide P p inputs elements frames n some_frame

  abbrev h : ℕ → ℕ
  h = place total gen

  pos : 0 < total
  pos = mul-pos some_element some_frame

  -- the frames that were used, and the later uses of frame 0 to the J-th
  abbrev UsedTo : ℕ → ℕ → Type 0
  UsedTo J f = Used total gen out f ⊎ ((j : ℕ) × (gen 0 < j) × (j ≤ J) × (f ≡ 0 + j * total))

  abbrev Counts : ℕ → (events : Events) (u : Machine) → Run p size (at_start p inputs) events u → Type 0
  Counts w = λ events u run. Counted p done events w

  fresh : (J : ℕ) → gen 0 ≤ J → UsedTo J (0 + suc J * total) → ⊥
  fresh J low (inl (g, j, below, e, q)) = go q
    where
      both : (0 ≡ g) × (suc J ≡ j)
      both = place_same total 0 g (suc J) j pos below e

      go : (j < gen g) ⊎ ((j ≡ gen g) × (out g ≡ true)) → ⊥
      go (inl less) = let a = both.1 in let b : gen 0 ≡ gen g = ap gen both.0 in omega (arith, a, b, less, low)
      go (inr same) = let a = both.1 in let b : gen 0 ≡ gen g = ap gen both.0 in let c = same.0 in omega (arith, a, b, c, low)
  fresh J low (inr (j, more, within, e)) = let both = place_same total 0 0 (suc J) j pos pos e in let a = both.1 in omega (arith, a, within)

  record All (u : Machine) : Type 0 where
    pub last : Machine
    pub once : Once p size (at_start p inputs) (λ f. ⊤) (Counts 0) last
    pub cells : last.store.cells ≡ u.store.cells
    pub outputs : last.store.outputs ≡ u.store.outputs

  serve : (cs : List Cont) (J : ℕ) (u : Machine) (rest : List Token) → J + length cs ≤ n → gen 0 ≤ J → IsPermutation u.pool (waits h cs ++ rest)
      → ((j : ℕ) → J < j → j ≤ n → u.store.out (0 + j * total) ≡ false) → Once p size (at_start p inputs) (UsedTo J) (Counts (length cs)) u → All u
  serve [] J u rest room low pool free O = record {
    last = u;
    once =
        record {
          events = O.events;
          run = O.run;
          among = each_weaker (UsedTo J) (λ f. ⊤) (λ f x. tt) (0 ∷ handed p size (at_start p inputs) O.events u O.run) O.among;
          differ = O.differ;
          said = O.said;
        };
    cells = refl;
    outputs = refl;
  }
  serve (c ∷ cs) J u rest room low pool free O =
      let all = serve cs (suc J) after (answer (re_cont h c) (Word.Frame F) ∷ rest) (omega (arith, room)) (omega (arith, low))
      (IsPermutation-sym _ _ (IsPermutation-middle (waits h cs) (answer (re_cont h c) (Word.Frame F)) rest)) still once in
      record { last = all.last; once = all.once; cells = all.cells; outputs = all.outputs }
    where
      F : ℕ
      F = 0 + suc J * total

      below : F < elements * (suc n * frames)
      below = subst (λ (x : ℕ). F < x) (sym (mul_left_comm elements (suc n) frames)) (place_low total n 0 (suc J) pos (omega (arith, room)))

      t : Token
      t = token To.Manager (Word.Back (re_cont h c))

      after : Machine
      after = record { store = with_out u.store F true; pool = answer (re_cont h c) (Word.Frame F) ∷ (waits h cs ++ rest) }

      ev : Event p size 0 t u after
      ev = record {
        made = answer (re_cont h c) (Word.Frame F) ∷ [];
        rest = waits h cs ++ rest;
        addressed = refl;
        takes = pool;
        happens = inl (F, below, free (suc J) (omega arith) (omega (arith, room)), refl, refl);
        leaves = IsPermutation-refl after.pool;
      }

      grows : (f : ℕ) → UsedTo J f → UsedTo (suc J) f
      grows f (inl was) = inl was
      grows f (inr (j, more, within, e)) = inr (j, more, omega (arith, within), e)

      still : (j : ℕ) → suc J < j → j ≤ n → put_at u.store.out F true (0 + j * total) ≡ false
      still j more within =
          put_other u.store.out F true (0 + j * total) (λ e. (let both = place_same total 0 0 (suc J) j pos pos e in let a = both.1 in omega (arith, a, more)))
          ∙ free j (omega (arith, more)) within

      once : Once p size (at_start p inputs) (UsedTo (suc J)) (Counts (length cs)) after
      once = once_more p size (at_start p inputs) (UsedTo J) (UsedTo (suc J)) (Counts (length (c ∷ cs))) (Counts (length cs)) u after 0 t O ev
          (F ∷ []) refl (inr (suc J, omega (arith, low), omega arith, refl), tt) (tt, tt) (fresh J low, tt) grows
          (counted_serves p done O.events (length cs) 0 (Word.Back (re_cont h c)) O.said)

pub value_in_re : (h : ℕ → ℕ) (y : CellState) → value_in (re_cell h y) ≡ value_in y
value_in_re h Vacant = refl
value_in_re h (Full v) = refl
value_in_re h (Deferred cs) = refl

-- ---- all requests of a run's last state
pub record HasServed (p : Program) (inputs : List ℤ) (z : Size) (events : Events) (m : Machine) : Type 0 where
  pub frames : ℕ
  pub some_frame : 0 < frames
  pub unfolded : Events
  pub last : Machine
  pub run : Run p record { elements = z.elements; frames = frames } (at_start p inputs) unfolded last
  pub once : EachOnce (0 ∷ handed p record { elements = z.elements; frames = frames } (at_start p inputs) unfolded last run)
  pub counted : Counted p events unfolded 0
  pub cells : (x : ℕ) → value_in (last.store.cells x) ≡ value_in (m.store.cells x)
  pub outputs : last.store.outputs ≡ m.store.outputs

module _ (P : Plan) (p : Program) (inputs : List ℤ) (z : Size) (events : Events) (m : Machine) (some_element : 0 < z.elements) (some_frame : 0 < z.frames)
    (frees : FreesOnce p inputs z.elements)
    (r : Run p z (at_start p inputs) events m) where
  abbrev many : ℕ
  many = length events + length events

  abbrev tracked : So
  tracked = so_after P p so_start z (at_start p inputs) events m r

  abbrev N : Next P p inputs z.elements z.frames many some_frame (length events) events tracked m
  N = last_state P p inputs z events m some_element some_frame frees r

  room : N.gen 0 + length m.store.requests ≤ many
  room =
      let a = N.naming.room 0 (pos P p inputs z.elements z.frames many some_frame some_element events N.gen m.store.out) in
      let b = N.once.said.counted.events in
      omega (arith, a, b)

  free : (j : ℕ) → N.gen 0 < j → j ≤ many → N.after.store.out (0 + j * (z.elements * z.frames)) ≡ false
  free j more within = go (N.folds.fold.others (0 + j * (z.elements * z.frames)))
    where
      go : (((r : ℕ) → N.after.store.slots (0 + j * (z.elements * z.frames)) r ≡ Empty) × (N.after.store.out (0 + j * (z.elements * z.frames)) ≡ false))
          ⊎ ((g : ℕ) × (0 + j * (z.elements * z.frames) ≡ place (z.elements * z.frames) N.gen g)) → N.after.store.out (0 + j * (z.elements * z.frames)) ≡ false
      go (inl o) = o.1
      go (inr o) =
          absurd (place_fresh (z.elements * z.frames) many (length events) N.gen N.naming 0 j
          (pos P p inputs z.elements z.frames many some_frame some_element events N.gen m.store.out) more within o.0 o.1)

  served : All P p inputs z.elements z.frames many some_frame some_element events N.gen m.store.out N.after
  served =
      let h : ℕ → ℕ = place (z.elements * z.frames) N.gen in
      serve P p inputs z.elements z.frames many some_frame some_element events N.gen m.store.out m.store.requests (N.gen 0) N.after
      (map (re_token h) m.pool) room (omega arith)
      (IsPermutation-trans _ _ _ N.folds.pool (IsPermutation-append_comm (map (re_token h) m.pool) (waits h m.store.requests))) free record {
        events = N.once.events;
        run = N.once.run;
        among =
            each_weaker (Used (z.elements * z.frames) N.gen m.store.out)
            (λ f. UsedTo P p inputs z.elements z.frames many some_frame some_element events N.gen m.store.out (N.gen 0) f) (λ f x. inl x)
            (0 ∷ handed p (wide P p inputs z.elements z.frames many some_frame) (at_start p inputs) N.once.events N.after N.once.run) N.once.among;
        differ = N.once.differ;
        said = N.once.said.counted;
      }

  pub has_served : HasServed p inputs z events m
  has_served = record {
    frames = suc many * z.frames;
    some_frame = (let one : 0 < suc many = omega arith in mul-pos one some_frame);
    unfolded = served.once.events;
    last = served.last;
    run = served.once.run;
    once =
        all_differ (0 ∷ handed p (wide P p inputs z.elements z.frames many some_frame) (at_start p inputs) served.once.events served.last served.once.run)
        served.once.differ;
    counted = served.once.said;
    cells =
        λ x. ap (λ (c : ℕ → CellState). value_in (c x)) served.cells ∙ ap value_in (N.folds.fold.cells x)
        ∙ value_in_re (place (z.elements * z.frames) N.gen) (m.store.cells x);
    outputs = served.outputs ∙ N.folds.fold.outputs;
  }
