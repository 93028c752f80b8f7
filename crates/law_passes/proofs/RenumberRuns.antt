-- A run of the plan whose holders have other numbers that hands out each frame at most once is, event by event, a run of
-- the plan.
use Rattle.std.proofs.Common.{◌≡◌, refl, sym, ap, ◌∙◌, subst, ℕ, ◌+◌, ◌*◌, ◌⊎◌, inl, inr, ℤ, List, [], ◌∷◌, ◌++◌, Option, Some, Contains, IsPermutation}
use Rattle.std.proofs.Common.{append_assoc, append-nil}
use Rattle.std.specs.Prelude.{slice_get, ⊤}
use Rattle.std.proofs.lemmas.Bool.{cases_eq}
use Rattle.std.proofs.lemmas.List.Elements.{Contains-append_left, Contains-append_right, Contains-push}
use Rattle.std.proofs.lemmas.List.Sorted.{Contains-permutation, IsPermutation-refl, IsPermutation-sym, IsPermutation-trans}
use Rattle.std.proofs.lemmas.Option.{same_Some}
use Rattle.lemmas.proofs.Contains.{contains_head}
use Rattle.lemmas.proofs.Lists.{map_append}
use Rattle.tags.specs.declared.token.Port.{Port}
use Rattle.tags.specs.declared.token.Port.TheVariants.{Left}
use Rattle.tags.specs.declared.token.Cont.{Cont}
use Rattle.tags.specs.declared.token.Word.{Word}
use Rattle.tags.specs.declared.token.To.{To}
use Rattle.tags.specs.declared.token.Token.{Token}
use Rattle.tags.specs.declared.slot.SlotState.{SlotState}
use Rattle.tags.specs.declared.slot.SlotState.TheVariants.{Empty}
use Rattle.semantics.specs.Program.{Instr, CodeBlock, Program, instr_at}
use Rattle.semantics.specs.Rule.{token, rule_at, slot_of}
use Rattle.semantics.specs.Machine.{Machine, Store as MStore, Size, Event, Events, Run, input_tokens, at_start, slot_in, slot_used, Fires, Happens}
use Rattle.semantics.specs.Plan.{Plan}
use Rattle.semantics.specs.Handed.{handed_by, handed, EachOnce, UsesEachOnce}
use Rattle.semantics.specs.Orderly.{Orderly, IsStart, IsOrderlyRun}
use Rattle.law_reuse.proofs.FramesSnoc.{run_snoc, handed_snoc}
use Rattle.law_reuse.proofs.SlotsOtherEvents.{Same, Carried}
use Rattle.law_reuse.proofs.SlotsPlaced.{IsPlaced}
use Rattle.law_reuse.proofs.SlotsFillings.{at_port, later_on}
use Rattle.law_reuse.proofs.SlotsUsedArcs.{Ports, one_frame}
use Rattle.law_reuse.proofs.SlotsHistory.{taken, ports_of}
use Rattle.law_reuse.proofs.SlotsRuns.{once_before}
use Rattle.law_passes.specs.Renumber.{RenumbersAll, with_blocks}
use Rattle.law_passes.proofs.RenumberPlaces.{Located, Nowhere, There, located, first_is}
use Rattle.law_passes.proofs.RenumberEvents.{held, slot_held, Agrees, agrees_idle, Answered, instr_answered, other_carried}

-- ---- THE TWO STATES

-- block b runs in the frame: some token came to it
pub record Busy (p : Plan) (hold : ℕ → ℕ → ℕ) (ts : List Token) (f : ℕ) (new old : ℕ → SlotState) : Type 0 where
  pub b : ℕ
  pub n : ℕ
  pub c : CodeBlock
  pub i : Instr
  pub r : Port
  pub w : Word
  pub block : slice_get p.program.blocks b ≡ Some c
  pub instr : slice_get c.instrs n ≡ Some i
  pub came : Contains ts (at_port p.program f b n r w)
  pub agrees : Agrees (hold b) c new old

abbrev pub Idle : (new old : ℕ → SlotState) → Type 0
Idle new old = ((s : ℕ) → new s ≡ Empty) × ((r : ℕ) → old r ≡ Empty)

abbrev pub IdleOr : Plan → (ℕ → ℕ → ℕ) → List Token → ℕ → (new old : ℕ → SlotState) → Type 0
IdleOr p hold ts f new old = Idle new old ⊎ Busy p hold ts f new old

pub record Tied (p : Plan) (hold : ℕ → ℕ → ℕ) (ts : List Token) (m u : Machine) : Type 0 where
  pub pool : IsPermutation u.pool m.pool
  pub same : Same m.store u.store
  pub frames : (f : ℕ) → IdleOr p hold ts f (m.store.slots f) (u.store.slots f)

busy_later : (p : Plan) (hold : ℕ → ℕ → ℕ) (ts : List Token) (t : Token) (f : ℕ) (new old : ℕ → SlotState) → IdleOr p hold ts f new old
    → IdleOr p hold (ts ++ t ∷ []) f new old
busy_later p hold ts t f new old (inl idle) = inl idle
busy_later p hold ts t f new old (inr B) =
    inr record {
      b = B.b;
      n = B.n;
      c = B.c;
      i = B.i;
      r = B.r;
      w = B.w;
      block = B.block;
      instr = B.instr;
      came = later_on ts t (at_port p.program f B.b B.n B.r B.w) B.came;
      agrees = B.agrees;
    }

frame_later : (p : Plan) (hold : ℕ → ℕ → ℕ) (ts : List Token) (t : Token) (f : ℕ) (new old new2 old2 : ℕ → SlotState) → new2 ≡ new → old2 ≡ old
    → IdleOr p hold ts f new old → IdleOr p hold (ts ++ t ∷ []) f new2 old2
frame_later p hold ts t f new old new2 old2 c d s =
    subst (λ (x : ℕ → SlotState). IdleOr p hold (ts ++ t ∷ []) f x old2) (sym c)
    (subst (λ (x : ℕ → SlotState). IdleOr p hold (ts ++ t ∷ []) f new x) (sym d) (busy_later p hold ts t f new old s))

-- in the frame of a token that waits, the slots are those of its block
pub frame_agrees : (p : Plan) (hold : ℕ → ℕ → ℕ) (ts pool : List Token) → Ports p ts pool
    → (f b n : ℕ) (c : CodeBlock) (i : Instr) (r : Port) (w : Word) (new old : ℕ → SlotState)
    → slice_get p.program.blocks b ≡ Some c → slice_get c.instrs n ≡ Some i → Contains (ts ++ pool) (at_port p.program f b n r w) → IdleOr p hold ts f new old
    → Agrees (hold b) c new old
frame_agrees p hold ts pool P f b n c i r w new old at_b at_n inside (inl idle) = agrees_idle (hold b) c new old idle.0 idle.1
frame_agrees p hold ts pool P f b n c i r w new old at_b at_n inside (inr B) =
    let one : IsPlaced p.program B.b B.n B.i = record { code = B.c; block = B.block; instr = B.instr } in
    let two : IsPlaced p.program b n i = record { code = c; block = at_b; instr = at_n } in
    let same : B.b ≡ b = one_frame p ts pool P f B.b b B.n n B.i i B.r r B.w w one two
    (Contains-append_left ts pool (at_port p.program f B.b B.n B.r B.w) B.came) inside in
    let code : B.c ≡ c = same_Some B.c c (sym B.block ∙ ap (slice_get p.program.blocks) same ∙ at_b) in
    subst (λ (b : ℕ). Agrees (hold b) c new old) same (subst (λ (c : CodeBlock). Agrees (hold B.b) c new old) code B.agrees)

-- ---- TWO RUNS SIDE BY SIDE

-- one event in both: it makes the same, and the slot of its instruction is the same before and after
pub record Paired (P Q : Program) (to : To) (m u : MStore) (made made_old : List Token) (m' u' : MStore) : Type 0 where
  pub made_same : made_old ≡ made
  pub before : (f ip : ℕ) (r : Port) → to ≡ To.Instr f ip r → slot_in m f (slot_used (instr_at Q ip)) ≡ slot_in u f (slot_used (instr_at P ip))
  pub after : (f ip : ℕ) (r : Port) → to ≡ To.Instr f ip r → slot_in m' f (slot_used (instr_at Q ip)) ≡ slot_in u' f (slot_used (instr_at P ip))

abbrev pub Along : (P Q : Program) (z : Size) (events : Events) (m u c d : Machine) → Run Q z m events c → Run P z u events d → Type 0
Along P Q z [] m u c d rq rp = ⊤
Along P Q z (x ∷ events) m u c d rq rp =
    Paired P Q x.1.to m.store u.store rq.1.made rp.1.made (rq.0).store (rp.0).store × Along P Q z events rq.0 rp.0 c d rq.2 rp.2

module _ (p : Plan) (ds : List CodeBlock) (hold : ℕ → ℕ → ℕ) (R : RenumbersAll hold p.program.blocks ds) (orderly : Orderly p) (inputs : List ℤ) (z : Size)
    (start : IsStart p z inputs) where
  abbrev P : Program
  P = p.program

  abbrev Q : Program
  Q = (with_blocks p ds).program

  abbrev total : ℕ
  total = z.elements * z.frames

  -- the plan's run so far
  pub record Sim (events : Events) (m : Machine) (gone : List ℕ) : Type 0 where
    pub last : Machine
    pub run : Run P z (at_start P inputs) events last
    pub hands : handed P z (at_start P inputs) events last run ≡ gone
    pub tied : Tied p hold (taken events) m last

  pub orderly_here : (events : Events) (m : Machine) (gone : List ℕ) (V : Sim events m gone) → EachOnce (0 ∷ gone)
      → IsOrderlyRun p z (at_start P inputs) events V.last V.run
  orderly_here events m gone V once = orderly inputs z events V.last start V.run (subst (λ (l : List ℕ). EachOnce (0 ∷ l)) (sym V.hands) once)

  -- what the event is to the plan
  record Answers (ts : List Token) (to : To) (w : Word) (made : List Token) (t : Token) (m m' u : MStore) : Type 0 where
    pub after : MStore
    pub happens : Happens P total u to w made after
    pub same : Same m' after
    pub frames : (f : ℕ) → IdleOr p hold (ts ++ t ∷ []) f (m'.slots f) (after.slots f)
    pub before_same : (f ip : ℕ) (r : Port) → to ≡ To.Instr f ip r → slot_in m f (slot_used (instr_at Q ip)) ≡ slot_in u f (slot_used (instr_at P ip))
    pub after_same : (f ip : ℕ) (r : Port) → to ≡ To.Instr f ip r → slot_in m' f (slot_used (instr_at Q ip)) ≡ slot_in after f (slot_used (instr_at P ip))

  module _ (events : Events) (m : Machine) (gone : List ℕ) (V : Sim events m gone) (once : EachOnce (0 ∷ gone)) (c : Machine) (e : ℕ) (t : Token)
      (ev : Event Q z e t m c) where
    abbrev ts : List Token
    ts = taken events

    abbrev u : Machine
    u = V.last

    O : IsOrderlyRun p z (at_start P inputs) events u V.run
    O = orderly_here events m gone V once

    pending : Contains u.pool t
    pending = Contains-permutation _ _ t (IsPermutation-sym _ _ (IsPermutation-trans _ _ _ V.tied.pool ev.takes)) (contains_head t ev.rest)

    by_carried : (to : To) (w : Word) → ((g ip : ℕ) (r : Port) → to ≡ To.Instr g ip r → ⊥)
        → Carried m.store u.store c.store (λ after. Happens P total u.store to w ev.made after) → Answers ts to w ev.made t m.store c.store u.store
    by_carried to w none (after, does, same, slots_m, slots_u) = record {
      after = after;
      happens = does;
      same = same;
      frames =
          λ f. frame_later p hold ts t f (m.store.slots f) (u.store.slots f) (c.store.slots f) (after.slots f) (ap (λ (s : ℕ → ℕ → SlotState). s f) slots_m)
          (ap (λ (s : ℕ → ℕ → SlotState). s f) slots_u) (V.tied.frames f);
      before_same = λ f ip r e. absurd (none f ip r e);
      after_same = λ f ip r e. absurd (none f ip r e);
    }

    to_one : (f ip g jp : ℕ) (q r : Port) → To.Instr f ip q ≡ To.Instr g jp r → (f ≡ g) × (ip ≡ jp)
    to_one f ip g jp q r e = (cc, cc)

    by_instr : (f ip : ℕ) (r : Port) (w : Word) → t ≡ token (To.Instr f ip r) w → Located hold P.blocks ds ip
        → Happens Q total m.store (To.Instr f ip r) w ev.made c.store → Answers ts (To.Instr f ip r) w ev.made t m.store c.store u.store
    by_instr f ip r w is (Nowhere x y) happens =
        absurd (subst (λ (o : Option Instr). Fires m.store f (slot_used o)
        (rule_at Q record { frame = f; ip = ip } o (slot_in m.store f (slot_used o)) r w) ev.made c.store) y happens)
    by_instr f ip r w is (There b n code d i j at_b at_d at_n at_j B I at_p at_q place) happens = record {
      after = K.after;
      happens = K.does;
      same = record {
        cells = K.moved_old.cells ∙ V.tied.same.cells ∙ sym K.moved.cells;
        out = K.moved_old.out ∙ V.tied.same.out ∙ sym K.moved.out;
        requests = K.moved_old.requests ∙ V.tied.same.requests ∙ sym K.moved.requests;
        outputs = K.moved_old.outputs ∙ V.tied.same.outputs ∙ sym K.moved.outputs;
        done = K.moved_old.done ∙ V.tied.same.done ∙ sym K.moved.done;
      };
      frames = λ g. frame g (cases_eq f g);
      before_same = λ g jp q e. slots g jp q m.store u.store e K.before_same;
      after_same = λ g jp q e. slots g jp q c.store K.after e K.after_same;
    }
      where
        here : t ≡ at_port P f b n r w
        here = is ∙ ap (λ (ip : ℕ). token (To.Instr f ip r) w) place

        inside : Contains u.pool (at_port P f b n r w)
        inside = subst (Contains u.pool) here pending

        agrees : Agrees (hold b) code (m.store.slots f) (u.store.slots f)
        agrees =
            frame_agrees p hold ts u.pool (ports_of p z (at_start P inputs) events u V.run O) f b n code i r w (m.store.slots f) (u.store.slots f) at_b at_n
            (Contains-append_right ts u.pool (at_port P f b n r w) inside) (V.tied.frames f)

        K : Answered (hold b) code f (slot_of i i.op) m.store u.store c.store (λ after. Happens P total u.store (To.Instr f ip r) w ev.made after)
        K = instr_answered p ds hold R b code d n i j at_n B I total m.store u.store c.store f ip r w ev.made at_p at_q agrees happens

        frame : (g : ℕ) → (f ≡ g) ⊎ (f ≡ g → ⊥) → IdleOr p hold (ts ++ t ∷ []) g (c.store.slots g) (K.after.slots g)
        frame g (inl e) = subst (λ (g : ℕ). IdleOr p hold (ts ++ t ∷ []) g (c.store.slots g) (K.after.slots g)) e
            (inr record {
              b = b;
              n = n;
              c = code;
              i = i;
              r = r;
              w = w;
              block = at_b;
              instr = at_n;
              came = subst (Contains (ts ++ t ∷ [])) here (Contains-push ts t);
              agrees = K.agrees;
            })
        frame g (inr ne) =
            frame_later p hold ts t g (m.store.slots g) (u.store.slots g) (c.store.slots g) (K.after.slots g) (K.moved.slots g ne) (K.moved_old.slots g ne)
            (V.tied.frames g)

        slots : (g jp : ℕ) (q : Port) (x y : MStore) → To.Instr f ip r ≡ To.Instr g jp q
            → slot_in x f (held (hold b) (slot_of i i.op)) ≡ slot_in y f (slot_of i i.op)
            → slot_in x g (slot_used (instr_at Q jp)) ≡ slot_in y g (slot_used (instr_at P jp))
        slots g jp q x y e same =
            let k = to_one f ip g jp r q e in
            subst (λ (g : ℕ). slot_in x g (slot_used (instr_at Q jp)) ≡ slot_in y g (slot_used (instr_at P jp))) k.0
            (subst (λ (jp : ℕ). slot_in x f (slot_used (instr_at Q jp)) ≡ slot_in y f (slot_used (instr_at P jp))) k.1
            (ap (λ (o : Option Instr). slot_in x f (slot_used o)) at_q ∙ ap (slot_in x f) (slot_held (hold b) i j I) ∙ same
            ∙ sym (ap (λ (o : Option Instr). slot_in y f (slot_used o)) at_p)))

    by_other : (to : To) (w : Word) → ((g ip : ℕ) (r : Port) → to ≡ To.Instr g ip r → ⊥) → Happens Q total m.store to w ev.made c.store
        → Answers ts to w ev.made t m.store c.store u.store
    by_other to w none happens = by_carried to w none (other_carried p ds hold R total m.store u.store c.store to w ev.made none V.tied.same happens)

    answers : (to : To) (w : Word) → t ≡ token to w → Happens Q total m.store to w ev.made c.store → Answers ts to w ev.made t m.store c.store u.store
    answers (To.Instr f ip r) w is happens = by_instr f ip r w is (located hold P.blocks ds R ip) happens
    answers (To.Fetch x) w is happens = by_other (To.Fetch x) w (λ g ip r e. cc) happens
    answers (To.Store x v) w is happens = by_other (To.Store x v) w (λ g ip r e. cc) happens
    answers To.Manager w is happens = by_other To.Manager w (λ g ip r e. cc) happens
    answers (To.Release f) w is happens = by_other (To.Release f) w (λ g ip r e. cc) happens
    answers (To.Host j) w is happens = by_other (To.Host j) w (λ g ip r e. cc) happens

    found : Answers ts t.to t.word ev.made t m.store c.store u.store
    found = answers t.to t.word refl ev.happens

    abbrev next : Machine
    next = record { store = found.after; pool = ev.made ++ ev.rest }

    event : Event P z e t u next
    event =
        record {
          made = ev.made;
          rest = ev.rest;
          addressed = ev.addressed;
          takes = IsPermutation-trans _ _ _ V.tied.pool ev.takes;
          happens = found.happens;
          leaves = IsPermutation-refl (ev.made ++ ev.rest);
        }

    sim : Sim (events ++ (e, t) ∷ []) c (gone ++ handed_by t.to ev.made)
    unfolding event
    sim = record {
      last = next;
      run = run_snoc P z (at_start P inputs) u next events e t V.run event;
      hands = handed_snoc P z (at_start P inputs) u next events e t V.run event ∙ ap (λ (l : List ℕ). l ++ handed_by t.to ev.made) V.hands;
      tied = subst (λ (ts : List Token). Tied p hold ts c next) (sym (map_append (λ (ev : ℕ × Token). ev.1) events ((e, t) ∷ [])))
          record { pool = IsPermutation-sym _ _ ev.leaves; same = found.same; frames = found.frames };
    }

    -- the plan's state after it, and the event
    pub record Follows : Type 0 where
      pub sim : Sim (events ++ (e, t) ∷ []) c (gone ++ handed_by t.to ev.made)
      pub event : Event P z e t u sim.last
      pub paired : Paired P Q t.to m.store u.store ev.made event.made c.store (sim.last).store

    pub follows : Follows
    unfolding event sim
    follows = record { sim = sim; event = event; paired = record { made_same = refl; before = found.before_same; after = found.after_same } }

  -- ---- A WHOLE RUN

  pub record Whole (before later : Events) (m u c : Machine) (r : Run Q z m later c) : Type 0 where
    pub last : Machine
    pub run : Run P z u later last
    pub hands : handed P z u later last run ≡ handed Q z m later c r
    pub along : Along P Q z later m u c last r run
    pub tied : Tied p hold (taken (before ++ later)) c last

  whole : (later before : Events) (m c : Machine) (gone : List ℕ) (V : Sim before m gone) (r : Run Q z m later c)
      → EachOnce (0 ∷ (gone ++ handed Q z m later c r)) → Whole before later m V.last c r
  whole [] before m c gone V r once = record {
    last = V.last;
    run = (IsPermutation-refl _, refl);
    hands = refl;
    along = tt;
    tied = subst (λ (l : Events). Tied p hold (taken l) c V.last) (sym (append-nil before))
        (subst (λ (c : Machine). Tied p hold (taken before) c V.last)
        (λ
        k. record { store = sym r.1 k; pool = c.pool }) record {
          pool = IsPermutation-trans _ _ _ V.tied.pool r.0;
          same = V.tied.same;
          frames = V.tied.frames;
        });
  }
  whole (x ∷ later) before m c gone V r once =
      let by : List ℕ = handed_by x.1.to r.1.made in
      let more : List ℕ = handed Q z r.0 later c r.2 in
      let all : (gone ++ by) ++ more ≡ gone ++ (by ++ more) = append_assoc gone by more in
      let F = follows before m gone V (once_before (0 ∷ gone) (by ++ more) once) r.0 x.0 x.1 r.1 in
      let W = whole later (before ++ x ∷ []) r.0 c (gone ++ by) F.sim r.2 (subst (λ (l : List ℕ). EachOnce (0 ∷ l)) (sym all) once) in
      record {
        last = W.last;
        run = ((F.sim).last, F.event, W.run);
        hands = λ k. handed_by x.1.to (F.paired.made_same k) ++ W.hands k;
        along = (F.paired, W.along);
        tied = subst (λ (l : Events). Tied p hold (taken l) c W.last) (append_assoc before (x ∷ []) later) W.tied;
      }

  sim_start : Sim [] (at_start Q inputs) []
  sim_start = record {
    last = at_start P inputs;
    run = (IsPermutation-refl _, refl);
    hands = refl;
    tied = record {
      pool =
          subst (IsPermutation (at_start P inputs).pool)
          (ap (λ (x : ℕ). token (To.Instr 0 x Left) (Word.Back (Cont.Host 0)) ∷ input_tokens (x + 1) inputs) (sym (first_is p ds hold R P.main)))
          (IsPermutation-refl _);
      same = record { cells = refl; out = refl; requests = refl; outputs = refl; done = refl };
      frames = λ f. inl (λ s. refl, λ r. refl);
    };
  }

  -- the plan's run with the same events
  pub record Twin (events : Events) (m : Machine) (r : Run Q z (at_start Q inputs) events m) : Type 0 where
    pub last : Machine
    pub run : Run P z (at_start P inputs) events last
    pub hands : handed P z (at_start P inputs) events last run ≡ handed Q z (at_start Q inputs) events m r
    pub along : Along P Q z events (at_start Q inputs) (at_start P inputs) m last r run
    pub tied : Tied p hold (taken events) m last
    pub once : UsesEachOnce P z inputs events last run

  pub twin : (events : Events) (m : Machine) (r : Run Q z (at_start Q inputs) events m) → UsesEachOnce Q z inputs events m r → Twin events m r
  unfolding sim_start
  twin events m r once =
      let W : Whole [] events (at_start Q inputs) (at_start P inputs) m r = whole events [] (at_start Q inputs) m [] sim_start r once in
      record { last = W.last; run = W.run; hands = W.hands; along = W.along; tied = W.tied; once = subst (λ (l : List ℕ). EachOnce (0 ∷ l)) (sym W.hands) once }
