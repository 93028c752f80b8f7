-- A run over good slots that hands out each frame at most once is, event by event, a run of the plan.
use Rattle.std.proofs.Common.{◌≡◌, refl, sym, ap, ◌∙◌, subst, ℕ, zero, suc, ◌+◌, ◌*◌, ◌⊎◌, inl, inr, Bool, true, false, true≢false, ◌&&◌, ℤ, List, [], ◌∷◌}
use Rattle.std.proofs.Common.{◌++◌, Option, Some, None, Contains, IsPermutation, append_assoc, append-nil, arith}
use Rattle.std.specs.Prelude.{slice_get, if◌then◌else◌, ◌==◌}
use Rattle.std.proofs.lemmas.Bool.{cases_eq, and_parts, and_from, eqb-true, eq-eqb}
use Rattle.std.proofs.lemmas.List.Elements.{Contains-append_left, Contains-append_right, Contains-push}
use Rattle.std.proofs.lemmas.List.Sorted.{Contains-permutation, IsPermutation-refl, IsPermutation-sym, IsPermutation-trans}
use Rattle.std.proofs.lemmas.Option.{same_Some}
use Rattle.lemmas.proofs.Contains.{contains_head}
use Rattle.lemmas.proofs.Lists.{map_append}
use Rattle.tags.specs.declared.token.Port.{Port}
use Rattle.tags.specs.declared.token.Port.TheVariants.{Left}
use Rattle.tags.specs.declared.token.Cont.{Cont}
use Rattle.tags.specs.declared.token.Word.{Word}
use Rattle.tags.specs.declared.token.To.{To}
use Rattle.tags.specs.declared.token.Token.{Token}
use Rattle.tags.specs.declared.slot.SlotState.{SlotState}
use Rattle.tags.specs.declared.slot.SlotState.TheVariants as Slot
use Rattle.tags.specs.declared.slot.SlotState.TheVariants.{Empty, Credits, Waiter, Draining}
use Rattle.semantics.specs.Program.{Instr, Program, instr_at}
use Rattle.semantics.specs.Rule.{token, rule_at, slot_of}
use Rattle.semantics.specs.Machine.{Machine, Store as MStore, Size, Event, Events, Run, input_tokens, at_start, slot_in, slot_used, Fires, Happens}
use Rattle.semantics.specs.Plan.{Plan}
use Rattle.semantics.specs.Sharing.{Good, placed_slot}
use Rattle.semantics.specs.Placed.{placed}
use Rattle.semantics.specs.Handed.{handed_by, handed, EachOnce, UsesEachOnce}
use Rattle.semantics.specs.Orderly.{Orderly, IsStart, IsOrderlyRun}
use Rattle.semantics.specs.Unfolded.{HasSlot}
use Rattle.semantics.specs.Wired.{IsWired}
use Rattle.law_reuse.proofs.FramesSnoc.{run_snoc, handed_snoc, tally, tally_snoc}
use Rattle.law_reuse.proofs.BoundsTallies.{Counter, Grants, Releases, count_at, count_apart}
use Rattle.law_reuse.proofs.Frames.{So, so_start}
use Rattle.semantics.specs.Credits.{granted_in, released_in}
use Rattle.law_reuse.proofs.SlotsPlacedCode.{moved_to, Located, Nowhere, There, located, first_same, Agrees, agrees_idle, agrees_at, empty_or}
use Rattle.law_reuse.proofs.SlotsPlacedEvents.{Alone, slot_moved, slot_same, Unmoved, Shown, instr_placed}
use Rattle.law_reuse.proofs.SlotsOtherEvents.{Same, Carried, fetch_carried, store_carried, request_carried, host_carried, release_carried}
use Rattle.law_reuse.proofs.SlotsPlaced.{IsPlaced}
use Rattle.law_reuse.proofs.SlotsFillings.{at_port, later_on, Move, move_of, slot_cases}
use Rattle.law_reuse.proofs.SlotsUsedArcs.{Ports, one_frame}
use Rattle.semantics.specs.Holders.{Holder, same_holder, holder_of, holder_at, held_after, uses_slot, held_by_event, holds}
use Rattle.law_reuse.proofs.SlotsClaims.{index_got, holder_here, Claim, ClaimOr, claim_later, claim_slot, claim_same, slot_there, slot_is}
use Rattle.law_reuse.proofs.SlotsHistory.{taken, Kept, ports_of, kept_next, kept_start}
use Rattle.law_reuse.proofs.SlotsInvocation.{alone_here}

-- ---- THE TWO STATES

-- block b runs in the frame: some token came to it
pub record Busy (p : Plan) (slots : List (List ℕ)) (ts : List Token) (f : ℕ) (code plan : ℕ → SlotState) : Type 0 where
  pub b : ℕ
  pub n : ℕ
  pub i : Instr
  pub q : Port
  pub w : Word
  pub ss : List ℕ
  pub stands : IsPlaced p.program b n i
  pub at_slots : slice_get slots b ≡ Some ss
  pub came : Contains ts (at_port p.program f b n q w)
  pub agrees : Agrees ss code plan

abbrev pub Idle : (code plan : ℕ → SlotState) → Type 0
Idle code plan = ((s : ℕ) → code s ≡ Empty) × ((h : ℕ) → plan h ≡ Empty)

abbrev pub IdleOr : Plan → List (List ℕ) → List Token → ℕ → (code plan : ℕ → SlotState) → Type 0
IdleOr p slots ts f code plan = Idle code plan ⊎ Busy p slots ts f code plan

pub record Tied (p : Plan) (slots : List (List ℕ)) (ts : List Token) (m u : Machine) : Type 0 where
  pub pool : IsPermutation u.pool m.pool
  pub same : Same m.store u.store
  pub frames : (f : ℕ) → IdleOr p slots ts f (m.store.slots f) (u.store.slots f)

busy_later : (p : Plan) (slots : List (List ℕ)) (ts : List Token) (t : Token) (f : ℕ) (code plan : ℕ → SlotState) → IdleOr p slots ts f code plan
    → IdleOr p slots (ts ++ t ∷ []) f code plan
busy_later p slots ts t f code plan (inl idle) = inl idle
busy_later p slots ts t f code plan (inr B) =
    inr record {
      b = B.b;
      n = B.n;
      i = B.i;
      q = B.q;
      w = B.w;
      ss = B.ss;
      stands = B.stands;
      at_slots = B.at_slots;
      came = later_on ts t (at_port p.program f B.b B.n B.q B.w) B.came;
      agrees = B.agrees;
    }

frame_later : (p : Plan) (slots : List (List ℕ)) (ts : List Token) (t : Token) (f : ℕ) (code plan code2 plan2 : ℕ → SlotState) → code2 ≡ code → plan2 ≡ plan
    → IdleOr p slots ts f code plan → IdleOr p slots (ts ++ t ∷ []) f code2 plan2
frame_later p slots ts t f code plan code2 plan2 c d s =
    subst (λ (x : ℕ → SlotState). IdleOr p slots (ts ++ t ∷ []) f x plan2) (sym c)
    (subst (λ (x : ℕ → SlotState). IdleOr p slots (ts ++ t ∷ []) f code x) (sym d) (busy_later p slots ts t f code plan s))

-- in the frame of a token that waits, the slots are those of its block
pub frame_agrees : (p : Plan) (slots : List (List ℕ)) (ts pool : List Token) → Ports p ts pool
    → (f b n : ℕ) (i : Instr) (q : Port) (w : Word) (ss : List ℕ) (code plan : ℕ → SlotState)
    → IsPlaced p.program b n i → slice_get slots b ≡ Some ss → Contains pool (at_port p.program f b n q w) → IdleOr p slots ts f code plan → Agrees ss code plan
frame_agrees p slots ts pool P f b n i q w ss code plan s at inside (inl idle) = agrees_idle ss code plan idle.0 idle.1
frame_agrees p slots ts pool P f b n i q w ss code plan s at inside (inr B) =
    let same : B.b ≡ b = one_frame p ts pool P f B.b b B.n n B.i i B.q q B.w w B.stands s
    (Contains-append_left ts pool (at_port p.program f B.b B.n B.q B.w) B.came) (Contains-append_right ts pool (at_port p.program f b n q w) inside) in
    let row : B.ss ≡ ss = same_Some B.ss ss (sym B.at_slots ∙ ap (slice_get slots) same ∙ at) in
    subst (λ (ss : List ℕ). Agrees ss code plan) row B.agrees

-- ---- ONE EVENT

-- what is known of a run that uses each frame once, event by event
abbrev pub own_so_next : Plan → Program → So → MStore → To → List Token → MStore → So
own_so_next P q so old to made new =
    record { held = λ g s. held_by_event P q g s (so.held g s) to new; counted = λ x F. so.counted x F + count_at P q x F old to made }

abbrev pub own_so_after : (P : Plan) (q : Program) (so : So) (z : Size) (old : Machine) (events : Events) (new : Machine) → Run q z old events new → So
own_so_after P q so z old [] new r = so
own_so_after P q so z old (x ∷ events) new r = own_so_after P q (own_so_next P q so old.store x.1.to r.1.made r.0.store) z r.0 events new r.2

pub own_held : (P : Plan) (q : Program) (so : So) (z : Size) (old : Machine) (events : Events) (new : Machine) (r : Run q z old events new) (f s : ℕ)
    → (own_so_after P q so z old events new r).held f s ≡ holds P q f s (so.held f s) z old events new r
own_held P q so z old [] new r f s = refl
own_held P q so z old (x ∷ events) new r f s = own_held P q (own_so_next P q so old.store x.1.to r.1.made r.0.store) z r.0 events new r.2 f s

pub own_counted : (P : Plan) (q : Program) (so : So) (z : Size) (old : Machine) (events : Events) (new : Machine) (r : Run q z old events new) (x : Counter)
    (F : ℕ)
    → (own_so_after P q so z old events new r).counted x F ≡ so.counted x F + tally (count_at P q x F) q z old events new r
own_counted P q so z old [] new r x F = omega arith
own_counted P q so z old (y ∷ events) new r x F =
    let more = own_counted P q (own_so_next P q so old.store y.1.to r.1.made r.0.store) z r.0 events new r.2 x F in omega (arith, more)

-- `gone`: the frames that were handed out. `so`: who holds a slot of a frame, and what was counted at a frame.
pub record Own (p : Plan) (slots : List (List ℕ)) (z : Size) (inputs : List ℤ) (events : Events) (m : Machine) (gone : List ℕ) (so : So) : Type 0 where
  pub last : Machine
  pub run : Run p.program z (at_start p.program inputs) events last
  pub hands : handed p.program z (at_start p.program inputs) events last run ≡ gone
  pub kept : Kept p z (at_start p.program inputs) events last run (taken events)
  pub tied : Tied p slots (taken events) m last
  pub claims : (g s : ℕ) → ClaimOr p slots (taken events) last.store.slots g s (so.held g s)
  pub tallies : (x : Counter) (F : ℕ) → tally (count_at p p.program x F) p.program z (at_start p.program inputs) events last run ≡ so.counted x F

uses_some : (s : ℕ) (o : Option ℕ) → uses_slot s o ≡ true → o ≡ Some s
uses_some s None e = absurd (true≢false (sym e))
uses_some s (Some r) e = ap Some (eqb-true r s e)

or_same : (y x : Holder) → (Some y ≡ None) ⊎ (Some y ≡ Some x) → Some y ≡ Some x
or_same y x (inl e) = absurd (cc)
or_same y x (inr e) = e

held_full : (before by : Option Holder) (v : SlotState) (x : Holder) → (v ≡ Empty → ⊥) → by ≡ Some x → (before ≡ None) ⊎ (before ≡ Some x)
    → held_after before by v ≡ Some x
held_full before by Empty x full e d = absurd (full refl)
held_full None by (Slot.Left w) x full e d = e
held_full None by (Slot.Right w) x full e d = e
held_full None by (Credits n) x full e d = e
held_full None by (Waiter c) x full e d = e
held_full None by (Draining n) x full e d = e
held_full (Some y) by (Slot.Left w) x full e d = or_same y x d
held_full (Some y) by (Slot.Right w) x full e d = or_same y x d
held_full (Some y) by (Credits n) x full e d = or_same y x d
held_full (Some y) by (Waiter c) x full e d = or_same y x d
held_full (Some y) by (Draining n) x full e d = or_same y x d

get_append : (xs ys : List ℕ) (i f : ℕ) → slice_get xs i ≡ Some f → slice_get (xs ++ ys) i ≡ Some f
get_append [] ys i f e = absurd (cc)
get_append (x ∷ xs) ys zero f e = e
get_append (x ∷ xs) ys (suc i) f e = get_append xs ys i f e

pub once_before : (xs ys : List ℕ) → EachOnce (xs ++ ys) → EachOnce xs
once_before xs ys once i j f a b = once i j f (get_append xs ys i f a) (get_append xs ys j f b)

module _ (p : Plan) (slots : List (List ℕ)) (wired : IsWired p) (good : Good p slots) (orderly : Orderly p) (inputs : List ℤ) (z : Size)
    (start : IsStart p z inputs) where
  abbrev code : Program
  code = placed p slots

  abbrev total : ℕ
  total = z.elements * z.frames

  pub orderly_here : (events : Events) (m : Machine) (gone : List ℕ) (so : So) (own : Own p slots z inputs events m gone so) → EachOnce (0 ∷ gone)
      → IsOrderlyRun p z (at_start p.program inputs) events own.last own.run
  orderly_here events m gone so own once = orderly inputs z events own.last start own.run (subst (λ (l : List ℕ). EachOnce (0 ∷ l)) (sym own.hands) once)

  -- what the event of the code is to the plan
  record Answers (ts : List Token) (so : So) (to : To) (w : Word) (made : List Token) (t : Token) (m m' u : MStore) : Type 0 where
    pub after : MStore
    pub happens : Happens p.program total u to w made after
    pub same : Same m' after
    pub frames : (f : ℕ) → IdleOr p slots (ts ++ t ∷ []) f (m'.slots f) (after.slots f)
    pub claims : (g s : ℕ) → ClaimOr p slots (ts ++ t ∷ []) after.slots g s (held_by_event p code g s (so.held g s) to m')
    -- the same is counted
    pub counts : (x : Counter) (F : ℕ) → count_at p code x F m to made ≡ count_at p p.program x F u to made

  module _ (events : Events) (m : Machine) (gone : List ℕ) (so : So) (own : Own p slots z inputs events m gone so) (once : EachOnce (0 ∷ gone)) (c : Machine)
      (e : ℕ) (t : Token) (ev : Event code z e t m c) where
    abbrev ts : List Token
    ts = taken events

    abbrev u : Machine
    u = own.last

    abbrev O : IsOrderlyRun p z (at_start p.program inputs) events u own.run
    O = orderly_here events m gone so own once

    pending : Contains u.pool t
    pending = Contains-permutation _ _ t (IsPermutation-sym _ _ (IsPermutation-trans _ _ _ own.tied.pool ev.takes)) (contains_head t ev.rest)

    by_carried : (to : To) (w : Word) → ((g s : ℕ) → held_by_event p code g s (so.held g s) to c.store ≡ so.held g s)
        → ((g ip : ℕ) (r : Port) → to ≡ To.Instr g ip r → ⊥) → Carried m.store u.store c.store (λ after. Happens p.program total u.store to w ev.made after)
        → Answers ts so to w ev.made t m.store c.store u.store
    by_carried to w still ne (after, does, same, slots_m, slots_u) = record {
      after = after;
      happens = does;
      same = same;
      frames =
          λ f. frame_later p slots ts t f (m.store.slots f) (u.store.slots f) (c.store.slots f) (after.slots f) (ap (λ (s : ℕ → ℕ → SlotState). s f) slots_m)
          (ap (λ (s : ℕ → ℕ → SlotState). s f) slots_u) (own.tied.frames f);
      claims = λ g s. subst (ClaimOr p slots (ts ++ t ∷ []) after.slots g s) (sym (still g s))
          (claim_later p slots ts t u.store.slots after.slots g s (so.held g s)
          (λ x e C empty. ap (λ (s : ℕ → ℕ → SlotState). s g x.number) (sym slots_u) ∙ empty) (own.claims g s));
      counts = λ x F. count_apart p code x F m.store to ev.made ne ∙ sym (count_apart p p.program x F u.store to ev.made ne);
    }

    by_instr : (f ip : ℕ) (q : Port) → t.to ≡ To.Instr f ip q → Located slots p.program.blocks ip
        → Happens code total m.store (To.Instr f ip q) t.word ev.made c.store → Answers ts so (To.Instr f ip q) t.word ev.made t m.store c.store u.store
    by_instr f ip q to (Nowhere at none) happens =
        absurd (subst (λ (o : Option Instr). Fires m.store f (slot_used o)
        (rule_at code record { frame = f; ip = ip } o (slot_in m.store f (slot_used o)) q t.word) ev.made c.store) none happens)
    by_instr f ip q to (There b n ss d i at_slots at_block at_instr plan_at code_at place) happens =
        record {
          after = shown.0;
          happens = shown.1;
          same = same;
          frames = λ g. frame g (cases_eq f g);
          claims = λ g s. claim g s ((f == g) && uses_slot s (slot_used (instr_at code ip))) refl;
          counts = λ x F. counts x F;
        }
      where
        stands : IsPlaced p.program b n i
        stands = record { code = d; block = at_block; instr = at_instr }

        is : t ≡ at_port p.program f b n q t.word
        is = ap (λ (x : To). token x t.word) (to ∙ ap (λ (ip : ℕ). To.Instr f ip q) place)

        inside : Contains u.pool (at_port p.program f b n q t.word)
        inside = subst (Contains u.pool) is pending

        agrees : Agrees ss (m.store.slots f) (u.store.slots f)
        agrees =
            frame_agrees p slots ts u.pool (ports_of p z (at_start p.program inputs) events u own.run O) f b n i q t.word ss (m.store.slots f)
            (u.store.slots f) stands at_slots inside (own.tied.frames f)

        alone : Alone ss (slot_of i i.op) (u.store.slots f)
        alone =
            alone_here p wired z (at_start p.program inputs) events u own.run O own.kept f b d at_block n i q t.word stands
            (Contains-append_right ts u.pool (at_port p.program f b n q t.word) inside) slots good ss at_slots n i q t.word stands inside

        shown : Shown ss f u.store c.store m.store (λ after. Happens p.program total u.store (To.Instr f ip q) t.word ev.made after)
        shown = instr_placed p slots good.all total m.store u.store c.store f ip q t.word ev.made ss i plan_at code_at alone agrees happens

        moved_m : Unmoved f m.store c.store
        moved_m = shown.3

        moved_u : Unmoved f u.store shown.0
        moved_u = shown.4

        same : Same c.store shown.0
        same = record {
          cells = moved_u.cells ∙ own.tied.same.cells ∙ sym moved_m.cells;
          out = moved_u.out ∙ own.tied.same.out ∙ sym moved_m.out;
          requests = moved_u.requests ∙ own.tied.same.requests ∙ sym moved_m.requests;
          outputs = moved_u.outputs ∙ own.tied.same.outputs ∙ sym moved_m.outputs;
          done = moved_u.done ∙ own.tied.same.done ∙ sym moved_m.done;
        }

        frame : (g : ℕ) → (f ≡ g) ⊎ (f ≡ g → ⊥) → IdleOr p slots (ts ++ t ∷ []) g (c.store.slots g) (shown.0.slots g)
        frame g (inl e) = subst (λ (g : ℕ). IdleOr p slots (ts ++ t ∷ []) g (c.store.slots g) (shown.0.slots g)) e
            (inr record {
              b = b;
              n = n;
              i = i;
              q = q;
              w = t.word;
              ss = ss;
              stands = stands;
              at_slots = at_slots;
              came = subst (Contains (ts ++ t ∷ [])) is (Contains-push ts t);
              agrees = shown.2;
            })
        frame g (inr ne) =
            frame_later p slots ts t g (m.store.slots g) (u.store.slots g) (c.store.slots g) (shown.0.slots g) (moved_m.slots g ne) (moved_u.slots g ne)
            (own.tied.frames g)

        move : Move p.program f b n q t.word i ev.made u.store shown.0
        move =
            move_of p.program total f b n q t.word i ev.made u.store shown.0 stands
            (subst (λ (ip : ℕ). Happens p.program total u.store (To.Instr f ip q) t.word ev.made shown.0) place shown.1)

        P : Ports p ts u.pool
        P = ports_of p z (at_start p.program inputs) events u own.run O

        some_one : (j k : ℕ) → slot_of i i.op ≡ Some j → slot_of i i.op ≡ Some k → j ≡ k
        some_one j k x y = cc

        -- the instruction's holder has the slot after the event, if it is not empty
        filled_now : (k s : ℕ) → slot_of i i.op ≡ Some k → slice_get ss k ≡ Some s → c.store.slots f s ≡ shown.0.slots f k
        filled_now k s holds at_k =
            agrees_at ss (c.store.slots f) (shown.0.slots f) shown.2 k s at_k
            (λ j ne at_j. others j ne at_j (slot_cases p.program f b n q t.word i ev.made u.store shown.0 move f j))
          where
            others : (j : ℕ) → (j ≡ k → ⊥) → slice_get ss j ≡ Some s
                → (shown.0.slots f j ≡ u.store.slots f j)
                ⊎ ((f ≡ f) × (slot_of i i.op ≡ Some j) × (slot_in u.store f (slot_of i i.op) ≡ u.store.slots f j) × (shown.0.slots f j ≡ move.v))
                → shown.0.slots f j ≡ Empty
            others j ne at_j (inl same) = same ∙ (alone k holds).1 j ne (at_j ∙ sym at_k ∙ (alone k holds).0)
            others j ne at_j (inr d) = absurd (ne (some_one j k d.1 holds))

        has_slot : (k s : ℕ) → slice_get ss k ≡ Some s → HasSlot slots b k s
        has_slot k s at_k = ap (λ (l : List ℕ). slice_get l k) (index_got slots b ss at_slots) ∙ at_k

        by_holder : (k s : ℕ) → slot_of i i.op ≡ Some k → slice_get ss k ≡ Some s
            → ClaimOr p slots (ts ++ t ∷ []) shown.0.slots f s (held_after (so.held f s) (holder_at p ip) (c.store.slots f s))
        by_holder k s holds at_k = pick (empty_or (c.store.slots f s)) (so.held f s) refl (own.claims f s)
          where
            me : Holder
            me = record { block = b; number = k }

            is_me : holder_at p ip ≡ Some me
            is_me = ap (holder_at p) place ∙ holder_here p b n i stands ∙ ap (holder_of b) holds

            mine : (c.store.slots f s ≡ Empty → ⊥) → Claim p slots (ts ++ t ∷ []) shown.0.slots f s me
            mine full =
                record {
                  n = n;
                  i = i;
                  q = q;
                  w = t.word;
                  stands = stands;
                  came = subst (Contains (ts ++ t ∷ [])) is (Contains-push ts t);
                  slot = has_slot k s at_k;
                  full = λ e. full (filled_now k s holds at_k ∙ e);
                }

            one_of : (o : Option Holder) → so.held f s ≡ o → ClaimOr p slots ts u.store.slots f s o → (so.held f s ≡ None) ⊎ (so.held f s ≡ Some me)
            one_of None e C = inl e
            one_of (Some x) e C = inr (e ∙ claim_same p slots ts u.pool P f b n i q t.word ss u.store.slots stands at_slots inside alone s k holds at_k x C)

            pick : (c.store.slots f s ≡ Empty) ⊎ (c.store.slots f s ≡ Empty → ⊥) → (o : Option Holder) → so.held f s ≡ o
                → ClaimOr p slots ts u.store.slots f s o
                → ClaimOr p slots (ts ++ t ∷ []) shown.0.slots f s (held_after (so.held f s) (holder_at p ip) (c.store.slots f s))
            pick (inl e) o d C =
                subst (λ (v : SlotState). ClaimOr p slots (ts ++ t ∷ []) shown.0.slots f s (held_after (so.held f s) (holder_at p ip) v)) (sym e) tt
            pick (inr full) o d C =
                subst (ClaimOr p slots (ts ++ t ∷ []) shown.0.slots f s)
                (sym (held_full (so.held f s) (holder_at p ip) (c.store.slots f s) me full is_me (one_of o d C))) (mine full)

        claim : (g s : ℕ) (x : Bool) → ((f == g) && uses_slot s (slot_used (instr_at code ip))) ≡ x
            → ClaimOr p slots (ts ++ t ∷ []) shown.0.slots g s (if x then held_after (so.held g s) (holder_at p ip) (c.store.slots g s) else so.held g s)
        claim g s true e =
            let both = and_parts _ _ e in
            let frame : f ≡ g = eqb-true f g both.0 in
            let slot : slot_used (Some (moved_to ss i)) ≡ Some s = ap slot_used (sym code_at) ∙ uses_some s (slot_used (instr_at code ip)) both.1 in
            let k = slot_there p slots ts u.pool P f b n i q t.word ss u.store.slots stands at_slots inside alone s slot in
            subst (λ (g : ℕ). ClaimOr p slots (ts ++ t ∷ []) shown.0.slots g s (held_after (so.held g s) (holder_at p ip) (c.store.slots g s))) frame
            (by_holder k.0 s k.1 k.2)
        claim g s false e =
            claim_later p slots ts t u.store.slots shown.0.slots g s (so.held g s)
            (λ x is C empty. kept x C empty (slot_cases p.program f b n q t.word i ev.made u.store shown.0 move g x.number)) (own.claims g s)
          where
            kept : (x : Holder) → Claim p slots ts u.store.slots g s x → shown.0.slots g x.number ≡ Empty
                → (shown.0.slots g x.number ≡ u.store.slots g x.number)
                ⊎ ((f ≡ g) × (slot_of i i.op ≡ Some x.number) × (slot_in u.store f (slot_of i i.op) ≡ u.store.slots g x.number)
                × (shown.0.slots g x.number ≡ move.v))
                → u.store.slots g x.number ≡ Empty
            kept x C empty (inl same) = sym same ∙ empty
            kept x C empty (inr (frame, holds, was, now)) =
                let C2 : Claim p slots ts u.store.slots f s x = subst (λ (g : ℕ). Claim p slots ts u.store.slots g s x) (sym frame) C in
                let at_x = claim_slot p slots ts u.pool P f b n i q t.word ss u.store.slots stands at_slots inside alone s x C2 in
                let slot = slot_is p slots ts u.pool P f b n i q t.word ss u.store.slots stands at_slots inside alone s x.number holds at_x in
                let uses : uses_slot s (slot_used (instr_at code ip)) ≡ true = ap (λ (o : Option Instr). uses_slot s (slot_used o)) code_at
                ∙ ap (uses_slot s) slot ∙ eq-eqb s s refl in
                absurd (true≢false (sym (and_from _ _ (eq-eqb f g frame) uses) ∙ e))

        slots_same : slot_in m.store f (slot_used (instr_at code ip)) ≡ slot_in u.store f (slot_used (instr_at p.program ip))
        slots_same =
            ap (λ (o : Option Instr). slot_in m.store f (slot_used o)) code_at ∙ ap (slot_in m.store f) (slot_moved i (placed_slot ss (slot_of i i.op)) i.op)
            ∙ slot_same ss f m.store u.store (slot_of i i.op) alone agrees ∙ sym (ap (λ (o : Option Instr). slot_in u.store f (slot_used o)) plan_at)

        counts : (x : Counter) (F : ℕ) → count_at p code x F m.store (To.Instr f ip q) ev.made ≡ count_at p p.program x F u.store (To.Instr f ip q) ev.made
        counts (Grants loop) F =
            ap (λ (s : SlotState). if (f == F) && same_holder loop (holder_at p ip) then granted_in (instr_at code ip) s else 0) slots_same
            ∙ ap (λ (o : Option Instr). if (f == F) && same_holder loop (holder_at p ip)
            then granted_in o (slot_in u.store f (slot_used (instr_at p.program ip))) else 0) code_at
            ∙ sym (ap (λ (o : Option Instr). if (f == F) && same_holder loop (holder_at p ip)
            then granted_in o (slot_in u.store f (slot_used (instr_at p.program ip))) else 0) plan_at)
        counts (Releases base) F =
            ap (λ (o : Option Instr). released_in o F base ev.made) code_at ∙ sym (ap (λ (o : Option Instr). released_in o F base ev.made) plan_at)

    answers : (to : To) (w : Word) → t.to ≡ to → t.word ≡ w → Happens code total m.store to w ev.made c.store
        → Answers ts so to w ev.made t m.store c.store u.store
    answers (To.Instr f ip q) w is word happens =
        subst (λ (w : Word). Answers ts so (To.Instr f ip q) w ev.made t m.store c.store u.store) word
        (by_instr f ip q is (located slots p.program.blocks good.all ip)
        (subst (λ (w : Word). Happens code total m.store (To.Instr f ip q) w ev.made c.store) (sym word) happens))
    answers (To.Fetch x) w is word happens =
        by_carried (To.Fetch x) w (λ g s. refl) (λ g ip r e. cc) (fetch_carried p.program code total m.store u.store c.store x w ev.made own.tied.same happens)
    answers (To.Store x v) w is word happens =
        by_carried (To.Store x v) w (λ g s. refl) (λ g ip r e. cc)
        (store_carried p.program code total m.store u.store c.store x v w ev.made own.tied.same happens)
    answers To.Manager (Word.Back k) is word happens =
        by_carried To.Manager (Word.Back k) (λ g s. refl) (λ g ip r e. cc) (request_carried total m.store u.store c.store k ev.made own.tied.same happens)
    answers To.Manager (Word.Val v) is word happens = absurd happens
    answers To.Manager (Word.Frame f) is word happens = absurd happens
    answers (To.Release f) w is word happens =
        by_carried (To.Release f) w (λ g s. refl) (λ g ip r e. cc) (release_carried m.store u.store c.store f ev.made own.tied.same happens)
    answers (To.Host j) w is word happens =
        by_carried (To.Host j) w (λ g s. refl) (λ g ip r e. cc) (host_carried p slots good.all total m.store u.store c.store j w ev.made own.tied.same happens)

    abbrev found : Answers ts so t.to t.word ev.made t m.store c.store u.store
    found = answers t.to t.word refl refl ev.happens

    next : Machine
    next = record { store = found.after; pool = ev.made ++ ev.rest }

    event : Event p.program z e t u next
    unfolding next
    event =
        record {
          made = ev.made;
          rest = ev.rest;
          addressed = ev.addressed;
          takes = IsPermutation-trans _ _ _ own.tied.pool ev.takes;
          happens = found.happens;
          leaves = IsPermutation-refl (ev.made ++ ev.rest);
        }

    pub own_next : Own p slots z inputs (events ++ (e, t) ∷ []) c (gone ++ handed_by t.to ev.made) (own_so_next p code so m.store t.to ev.made c.store)
    unfolding next event
    own_next = record {
      last = next;
      run = run_snoc p.program z (at_start p.program inputs) u next events e t own.run event;
      hands = handed_snoc p.program z (at_start p.program inputs) u next events e t own.run event ∙ ap (λ (l : List ℕ). l ++ handed_by t.to ev.made) own.hands;
      kept = kept_next p wired z (at_start p.program inputs) events u next own.run e t event O own.kept;
      tied = subst (λ (ts : List Token). Tied p slots ts c next) (sym (map_append (λ (ev : ℕ × Token). ev.1) events ((e, t) ∷ [])))
          record { pool = IsPermutation-sym _ _ ev.leaves; same = found.same; frames = found.frames };
      claims =
          λ g s. subst (λ (ts : List Token). ClaimOr p slots ts found.after.slots g s (held_by_event p code g s (so.held g s) t.to c.store))
          (sym (map_append (λ (ev : ℕ × Token). ev.1) events ((e, t) ∷ []))) (found.claims g s);
      tallies = λ x F. (let a = tally_snoc (count_at p p.program x F) p.program z (at_start p.program inputs) u next events e t own.run event in
          let b = own.tallies x F in
          let d = found.counts x F in
          omega (arith, a, b, d));
    }

  -- ---- A WHOLE RUN
  own_all : (later : Events) (before : Events) (m c : Machine) (gone : List ℕ) (so : So) → Own p slots z inputs before m gone so → (r : Run code z m later c)
      → EachOnce (0 ∷ (gone ++ handed code z m later c r))
      → Own p slots z inputs (before ++ later) c (gone ++ handed code z m later c r) (own_so_after p code so z m later c r)
  own_all [] before m c gone so own r once =
      subst (λ (l : List ℕ). Own p slots z inputs (before ++ []) c l so) (sym (append-nil gone))
      (subst (λ (l : Events). Own p slots z inputs l c gone so) (sym (append-nil before)) record {
        last = own.last;
        run = own.run;
        hands = own.hands;
        kept = own.kept;
        tied = subst (λ (c : Machine). Tied p slots (taken before) c own.last) (λ k. record { store = sym r.1 k; pool = c.pool })
            record { pool = IsPermutation-trans _ _ _ own.tied.pool r.0; same = own.tied.same; frames = own.tied.frames };
        claims = own.claims;
        tallies = own.tallies;
      })
  own_all (x ∷ later) before m c gone so own r once =
      let by : List ℕ = handed_by x.1.to r.1.made in
      let more : List ℕ = handed code z r.0 later c r.2 in
      let so2 : So = own_so_next p code so m.store x.1.to r.1.made (r.0).store in
      let last : So = own_so_after p code so z m (x ∷ later) c r in
      let whole : (gone ++ by) ++ more ≡ gone ++ (by ++ more) = append_assoc gone by more in
      let one = own_next before m gone so own (once_before (0 ∷ gone) (by ++ more) once) r.0 x.0 x.1 r.1 in
      let all : Own p slots z inputs ((before ++ x ∷ []) ++ later) c ((gone ++ by) ++ more) last =
      own_all later (before ++ x ∷ []) r.0 c (gone ++ by) so2 one r.2 (subst (λ (l : List ℕ). EachOnce (0 ∷ l)) (sym whole) once) in
      subst (λ (l : List ℕ). Own p slots z inputs (before ++ x ∷ later) c l last) whole
      (subst (λ (l : Events). Own p slots z inputs l c ((gone ++ by) ++ more) last) (append_assoc before (x ∷ []) later) all)

  own_start : Own p slots z inputs [] (at_start code inputs) [] so_start
  own_start = record {
    last = at_start p.program inputs;
    run = (IsPermutation-refl _, refl);
    hands = refl;
    kept = kept_start p z inputs (IsPermutation-refl _, refl);
    tied = record {
      pool =
          subst (IsPermutation (at_start p.program inputs).pool)
          (ap (λ (x : ℕ). token (To.Instr 0 x Left) (Word.Back (Cont.Host 0)) ∷ input_tokens (x + 1) inputs)
          (sym (first_same p.program slots good.all p.program.main))) (IsPermutation-refl _);
      same = record { cells = refl; out = refl; requests = refl; outputs = refl; done = refl };
      frames = λ f. inl (λ s. refl, λ h. refl);
    };
    claims = λ g s. tt;
    tallies = λ x F. refl;
  }

  pub own_run : (events : Events) (m : Machine) (r : Run code z (at_start code inputs) events m) → UsesEachOnce code z inputs events m r
      → Own p slots z inputs events m (handed code z (at_start code inputs) events m r) (own_so_after p code so_start z (at_start code inputs) events m r)
  own_run events m r once = own_all events [] (at_start code inputs) m [] so_start own_start r once
