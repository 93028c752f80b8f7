-- The clauses of a faithful run, from the plan's run to that over shared slots.
use Rattle.std.proofs.Common.{◌≡◌, refl, sym, ap, ◌∙◌, subst, ℕ, zero, suc, ◌+◌, ◌*◌, ◌≤◌, max, ◌⊎◌, inl, inr, Bool, ℤ, List, [], ◌∷◌, ◌++◌, length, Option}
use Rattle.std.proofs.Common.{Some, None, IsPermutation, Contains, arith}
use Rattle.std.specs.Prelude.{slice_get, count_by, flat_map}
use Rattle.std.proofs.lemmas.List.Sorted.{Contains-permutation, IsPermutation-sym, length_permutation}
use Rattle.tags.specs.declared.value.Value.{Value}
use Rattle.tags.specs.declared.token.To.{To}
use Rattle.tags.specs.declared.token.Token.{Token}
use Rattle.tags.specs.declared.slot.SlotState.TheVariants.{Empty, Waiter}
use Rattle.semantics.specs.Graph.{Flow}
use Rattle.semantics.specs.Meaning as Meaning
use Rattle.semantics.specs.Meaning.{State, Reached}
use Rattle.semantics.specs.Program.{Instr, CodeBlock, Program, instr_at}
use Rattle.semantics.specs.Machine.{CellState, Machine, Size, Events, Resting, Wants, stuck_rule, reader_count, value_in}
use Rattle.semantics.specs.Cause.{SameSeen, HasCause, HasBounds, request_count, seeks_credit, is_credit_event, credit_count, is_turn, opened_by, open_bounds}
use Rattle.semantics.specs.Cause.{loop_bounds}
use Rattle.semantics.specs.Faithful.{IsExact, IsSecondStore, HasStoreOfFull, NoReader, IsClean, IsBounded, largest, IsRun, Faithful}
use Rattle.semantics.specs.Plan.{Plan}
use Rattle.semantics.specs.Sharing.{placed_instrs}
use Rattle.semantics.specs.Placed.{placed, placed_blocks}
use Rattle.law_reuse.specs.Slots.{HasOwnSlots}
use Rattle.law_reuse.proofs.SlotsPlacedCode.{empty_or, length_placed, Located, Nowhere, There, located}

-- all that faithfulness says of one run
pub record KeepsFaith (fl : Flow) (p : Program) (inputs : List ℤ) (events : Events) (m : Machine) : Type 0 where
  pub reachable : (s : State) × Reached fl inputs s × SameSeen m.store s.memory
  pub exact : Resting m → (Wants m → ⊥) → IsExact fl inputs m
  pub second_store : (x : ℕ) → HasStoreOfFull m x → IsSecondStore fl inputs x
  pub matching : (t : Token) → Contains m.pool t → stuck_rule p m.store t.to t.word ≡ None
  pub clean : Resting m → (Wants m → ⊥) → NoReader m → IsClean m
  pub cause : HasCause fl p inputs events m
  pub bound : IsBounded p events

pub keeps_faith : (fl : Flow) (p : Program) → Faithful fl p → (inputs : List ℤ) (z : Size) (events : Events) (m : Machine) → IsRun fl p inputs z events m
    → KeepsFaith fl p inputs events m
keeps_faith fl p F inputs z events m r = record {
  reachable = F.reachable inputs z events m r;
  exact = F.exact inputs z events m r;
  second_store = λ x. F.second_store inputs z events m x r;
  matching = λ t. F.matching inputs z events m t r;
  clean = F.clean inputs z events m r;
  cause = F.cause inputs z events m r;
  bound = F.bound inputs z events m r;
}

pub faith_kept : (fl : Flow) (p : Program) → p.arrays ≡ fl.arrays → HasBounds fl p
    → ((inputs : List ℤ) (z : Size) (events : Events) (m : Machine) → IsRun fl p inputs z events m → KeepsFaith fl p inputs events m) → Faithful fl p
faith_kept fl p arrays bounds each = record {
  arrays = arrays;
  bounds = bounds;
  reachable = λ inputs z events m r. (each inputs z events m r).reachable;
  exact = λ inputs z events m r. (each inputs z events m r).exact;
  second_store = λ inputs z events m x r. (each inputs z events m r).second_store x;
  matching = λ inputs z events m t r. (each inputs z events m r).matching t;
  clean = λ inputs z events m r. (each inputs z events m r).clean;
  cause = λ inputs z events m r. (each inputs z events m r).cause;
  bound = λ inputs z events m r. (each inputs z events m r).bound;
}

-- ---- THE CODE OF A PLAN

pub largest_same : (slots : List (List ℕ)) (cs : List CodeBlock) → length slots ≡ length cs → largest (placed_blocks slots cs) ≡ largest cs
largest_same [] [] e = refl
largest_same [] (c ∷ cs) e = absurd (omega (arith, e))
largest_same (ss ∷ slots) [] e = absurd (omega (arith, e))
largest_same (ss ∷ slots) (c ∷ cs) e = (λ k. max (length_placed ss c.instrs k) (largest_same slots cs (omega (arith, e)) k))

bounds_same : (ss : List ℕ) (is : List Instr) → flat_map (λ (i : Instr). opened_by i.op) (placed_instrs ss is) ≡ flat_map (λ (i : Instr). opened_by i.op) is
bounds_same ss [] = refl
bounds_same ss (i ∷ is) = ap (λ (l : List ℕ). opened_by i.op ++ l) (bounds_same ss is)

count_same : (slots : List (List ℕ)) (cs : List CodeBlock) → length slots ≡ length cs → length (placed_blocks slots cs) ≡ length cs
count_same [] [] e = refl
count_same [] (c ∷ cs) e = absurd (omega (arith, e))
count_same (ss ∷ slots) [] e = absurd (omega (arith, e))
count_same (ss ∷ slots) (c ∷ cs) e = ap suc (count_same slots cs (omega (arith, e)))

block_same : (slots : List (List ℕ)) (cs : List CodeBlock) (b : ℕ) (d : CodeBlock) → slice_get (placed_blocks slots cs) b ≡ Some d
    → (c : CodeBlock) × (slice_get cs b ≡ Some c) × (open_bounds d ≡ open_bounds c)
block_same [] cs b d e = absurd (cc)
block_same (ss ∷ slots) [] b d e = absurd (cc)
block_same (ss ∷ slots) (c ∷ cs) zero d e = (c, refl, ap open_bounds (some_same e) ∙ bounds_same ss c.instrs)
  where
    some_same : {x y : CodeBlock} → Some x ≡ Some y → y ≡ x
    some_same e = cc
block_same (ss ∷ slots) (c ∷ cs) (suc b) d e = block_same slots cs b d e

pub code_bounds : (fl : Flow) (p : Plan) (slots : List (List ℕ)) → length slots ≡ length p.program.blocks → HasBounds fl p.program
    → HasBounds fl (placed p slots)
code_bounds fl p slots long H = (
  count_same slots p.program.blocks long ∙ H.0,
  λ b d g at_d at_g. (let c = block_same slots p.program.blocks b d at_d in
      subst (λ (l : List ℕ). IsPermutation l (loop_bounds g)) (sym c.2) (H.1 b c.0 g c.1 at_g)),
)

seeks_same : (p : Plan) (slots : List (List ℕ)) (ip : ℕ) → Located slots p.program.blocks ip
    → seeks_credit (instr_at (placed p slots) ip) ≡ seeks_credit (instr_at p.program ip)
seeks_same p slots ip (Nowhere at none) = ap seeks_credit none ∙ sym (ap seeks_credit at)
seeks_same p slots ip (There b n ss c i at_slots at_block at_instr plan_at code_at place) = ap seeks_credit code_at ∙ sym (ap seeks_credit plan_at)

event_same : (p : Plan) (slots : List (List ℕ)) → length slots ≡ length p.program.blocks → (to : To)
    → is_credit_event (placed p slots) to ≡ is_credit_event p.program to
event_same p slots long (To.Instr f ip q) = seeks_same p slots ip (located slots p.program.blocks long ip)
event_same p slots long To.Manager = refl
event_same p slots long (To.Fetch x) = refl
event_same p slots long (To.Store x v) = refl
event_same p slots long (To.Release f) = refl
event_same p slots long (To.Host j) = refl

pub credits_same : (p : Plan) (slots : List (List ℕ)) → length slots ≡ length p.program.blocks → (events : Events)
    → credit_count (placed p slots) events ≡ credit_count p.program events
credits_same p slots long events = ap (λ (f : To → Bool). count_by (λ (ev : ℕ × Token). f ev.1.to) events) (λ k to. event_same p slots long to k)

-- ---- ONE RUN

pub perm_nil : {X : Type 0} (xs : List X) → IsPermutation xs [] → xs ≡ []
perm_nil [] e = refl
perm_nil (x ∷ xs) e = let n = length_permutation _ _ e in absurd (omega (arith, n))

module _ (slots : List (List ℕ)) (m u : Machine) (O : HasOwnSlots slots m u) where
  pub seen_same : (s : Meaning.Memory) → SameSeen u.store s → SameSeen m.store s
  seen_same s S = record {
    outputs = λ j. ap (λ (o : ℕ → Option Value). o j) (sym O.outputs) ∙ S.outputs j;
    cells = λ x. ap (λ (c : ℕ → CellState). value_in (c x)) (sym O.cells) ∙ S.cells x;
  }

  pub resting_same : Resting m → Resting u
  resting_same e = perm_nil u.pool (subst (IsPermutation u.pool) e O.pool)

  pub wants_same : Wants u → Wants m
  wants_same (inl some) = inl (λ e. some (O.requests ∙ e))
  wants_same (inr (f, h, c, e)) = let s = O.shown f h (λ n. waits (sym n ∙ e)) in inr (f, s.0, c, sym s.2 ∙ e)
    where
      waits : Empty ≡ Waiter c → ⊥
      waits e = cc

  readers_same : (x : ℕ) → reader_count (u.store.cells x) ≡ reader_count (m.store.cells x)
  readers_same x = ap (λ (c : ℕ → CellState). reader_count (c x)) O.cells

  pub exact_same : (fl : Flow) (inputs : List ℤ) → IsExact fl inputs u → IsExact fl inputs m
  exact_same fl inputs E = record {
    state = E.state;
    reached = E.reached;
    seen = seen_same E.state.memory E.seen;
    at_rest = E.at_rest;
    only = E.only;
    no_clash = E.no_clash;
    readers = λ x. sym (readers_same x) ∙ E.readers x;
  }

  pub store_same : (x : ℕ) → HasStoreOfFull m x → HasStoreOfFull u x
  store_same x (v, w, k, inside, full) =
      (v, w, k, Contains-permutation _ _ _ (IsPermutation-sym _ _ O.pool) inside, ap (λ (c : ℕ → CellState). c x) O.cells ∙ full)

  pub clean_same : IsClean u → IsClean m
  clean_same C = record { frames = λ f. ap (λ (o : ℕ → Bool). o f) (sym O.out) ∙ C.frames f; slots = λ f s. go f s (empty_or (m.store.slots f s)) }
    where
      go : (f s : ℕ) → (m.store.slots f s ≡ Empty) ⊎ (m.store.slots f s ≡ Empty → ⊥) → m.store.slots f s ≡ Empty
      go f s (inl e) = e
      go f s (inr full) = let h = O.held f s full in sym h.2 ∙ C.slots f h.0

  pub faith_same : (fl : Flow) (p : Plan) → length slots ≡ length p.program.blocks → (inputs : List ℤ) (events : Events)
      → ((t : Token) → Contains m.pool t → stuck_rule (placed p slots) m.store t.to t.word ≡ stuck_rule p.program u.store t.to t.word)
      → KeepsFaith fl p.program inputs events u → KeepsFaith fl (placed p slots) inputs events m
  faith_same fl p long inputs events rules F = record {
    reachable = (F.reachable.0, F.reachable.1, seen_same (F.reachable.0).memory F.reachable.2);
    exact = λ rest calm. exact_same fl inputs (F.exact (resting_same rest) (λ w. calm (wants_same w)));
    second_store = λ x some. F.second_store x (store_same x some);
    matching = λ t inside. rules t inside ∙ F.matching t (Contains-permutation _ _ t (IsPermutation-sym _ _ O.pool) inside);
    clean = λ rest calm none. clean_same (F.clean (resting_same rest) (λ w. calm (wants_same w)) (λ x. readers_same x ∙ none x));
    cause = record {
      run = F.cause.run;
      state = F.cause.state;
      is_run = F.cause.is_run;
      seen = seen_same F.cause.state.memory F.cause.seen;
      due = F.cause.due;
      are_due = F.cause.are_due;
      enough = F.cause.enough;
      credits = subst (λ (n : ℕ). n ≤ count_by is_turn F.cause.due) (sym (credits_same p slots long events)) F.cause.credits;
    };
    bound = subst (λ (n : ℕ). length events ≤ 6 * (n + 1) * (1 + request_count events)) (sym (largest_same slots p.program.blocks long)) F.bound;
  }
