-- An event of the plan whose holders have other numbers is one of the plan.
use Rattle.std.proofs.Common.{◌≡◌, refl, sym, ap, ◌∙◌, subst, ℕ, ◌⊎◌, inl, inr, List, Option, Some, None}
use Rattle.std.specs.Prelude.{slice_get}
use Rattle.std.proofs.lemmas.Bool.{cases_eq}
use Rattle.tags.specs.declared.value.Value.{Value}
use Rattle.tags.specs.declared.token.Port.{Port}
use Rattle.tags.specs.declared.token.Word.{Word}
use Rattle.tags.specs.declared.token.To.{To}
use Rattle.tags.specs.declared.token.Token.{Token}
use Rattle.tags.specs.declared.slot.SlotState.{SlotState}
use Rattle.tags.specs.declared.slot.SlotState.TheVariants.{Empty}
use Rattle.semantics.specs.Program.{Instr, CodeBlock, Program, instr_at}
use Rattle.semantics.specs.Rule.{Point, Outcome, Becomes, Excluded, outcome_of, rule_at, slot_of}
use Rattle.semantics.specs.Machine.{Store as MStore, put_at, with_slot, with_output, with_done, slot_in, slot_used, Fires, Hosts, Happens, outputs_of}
use Rattle.semantics.specs.Plan.{Plan}
use Rattle.law_reuse.proofs.FramesFold.{put_same, put_other}
use Rattle.law_reuse.proofs.SlotsPlacedCode.{outcome_same}
use Rattle.law_reuse.proofs.SlotsPlacedEvents.{Unmoved, in_slot, slot_moved, unmoved_put, unmoved_refl}
use Rattle.law_reuse.proofs.SlotsOtherEvents.{Same, Carried, fetch_carried, store_carried, request_carried, release_carried}
use Rattle.law_passes.specs.Renumber.{IsRenumbered, HoldsIn, RenumbersBlock, RenumbersAll, with_blocks}
use Rattle.law_passes.proofs.RenumberPlaces.{first_is, outputs_is}

-- ---- THE SAME RULE

abbrev pub held : (ℕ → ℕ) → Option ℕ → Option ℕ
held hold None = None
held hold (Some r) = Some (hold r)

-- the instruction except for its slot
pub renumbered_is : (hold : ℕ → ℕ) (i j : Instr) → IsRenumbered hold i j → j ≡ record i { slot = j.slot }
renumbered_is hold i j I = λ k. record { op = I.op k; origin = I.origin k; slot = j.slot; firsts = I.firsts k; seconds = I.seconds k }

pub slot_held : (hold : ℕ → ℕ) (i j : Instr) → IsRenumbered hold i j → slot_of j j.op ≡ held hold (slot_of i i.op)
slot_held hold i j I = ap (λ (x : Instr). slot_of x x.op) (renumbered_is hold i j I) ∙ slot_moved i j.slot i.op ∙ go (slot_of i i.op) refl
  where
    go : (o : Option ℕ) → slot_of i i.op ≡ o → in_slot j.slot o ≡ held hold o
    go None e = refl
    go (Some r) e = ap (λ (s : ℕ). Some s) (I.slot r e)

-- ---- THE SLOTS OF ONE FRAME: `new` and `old`

pub record Agrees (hold : ℕ → ℕ) (c : CodeBlock) (new old : ℕ → SlotState) : Type 0 where
  pub same : (r : ℕ) → HoldsIn c r → new (hold r) ≡ old r
  pub held : (s : ℕ) → (new s ≡ Empty → ⊥) → (r : ℕ) × HoldsIn c r × (hold r ≡ s)
  pub shown : (r : ℕ) → (old r ≡ Empty → ⊥) → HoldsIn c r

-- all slots are empty
pub agrees_idle : (hold : ℕ → ℕ) (c : CodeBlock) (new old : ℕ → SlotState) → ((s : ℕ) → new s ≡ Empty) → ((r : ℕ) → old r ≡ Empty) → Agrees hold c new old
agrees_idle hold c new old n o = record { same = λ r h. n (hold r) ∙ sym (o r); held = λ s full. absurd (full (n s)); shown = λ r full. absurd (full (o r)) }

-- an instruction changes the slot of its holder
agrees_put : (hold : ℕ → ℕ) (c : CodeBlock) (new old : ℕ → SlotState) (r : ℕ) (v : SlotState)
    → ((a b : ℕ) → HoldsIn c a → HoldsIn c b → hold a ≡ hold b → a ≡ b) → HoldsIn c r → Agrees hold c new old
    → Agrees hold c (put_at new (hold r) v) (put_at old r v)
agrees_put hold c new old r v apart h A =
    record { same = λ k u. same k u (cases_eq r k); held = λ s full. has s (cases_eq (hold r) s) full; shown = λ k full. shown k (cases_eq r k) full }
  where
    same : (k : ℕ) → HoldsIn c k → (r ≡ k) ⊎ (r ≡ k → ⊥) → put_at new (hold r) v (hold k) ≡ put_at old r v k
    same k u (inl e) = put_same new (hold r) v (hold k) (ap hold e) ∙ sym (put_same old r v k e)
    same k u (inr ne) = put_other new (hold r) v (hold k) (λ e. ne (apart r k h u e)) ∙ A.same k u ∙ sym (put_other old r v k ne)

    has : (s : ℕ) → (hold r ≡ s) ⊎ (hold r ≡ s → ⊥) → (put_at new (hold r) v s ≡ Empty → ⊥) → (k : ℕ) × HoldsIn c k × (hold k ≡ s)
    has s (inl e) full = (r, h, e)
    has s (inr ne) full = A.held s (λ e. full (put_other new (hold r) v s ne ∙ e))

    shown : (k : ℕ) → (r ≡ k) ⊎ (r ≡ k → ⊥) → (put_at old r v k ≡ Empty → ⊥) → HoldsIn c k
    shown k (inl e) full = subst (HoldsIn c) e h
    shown k (inr ne) full = A.shown k (λ e. full (put_other old r v k ne ∙ e))

-- What the event is to the plan, whose state is u
pub record Answered (hold : ℕ → ℕ) (c : CodeBlock) (f : ℕ) (o : Option ℕ) (m u new : MStore) (Does : MStore → Type 0) : Type 0 where
  pub after : MStore
  pub does : Does after
  pub agrees : Agrees hold c (new.slots f) (after.slots f)
  pub moved : Unmoved f m new
  pub moved_old : Unmoved f u after
  -- the slot of the instruction before and after
  pub before_same : slot_in m f (held hold o) ≡ slot_in u f o
  pub after_same : slot_in new f (held hold o) ≡ slot_in after f o

slot_same : (hold : ℕ → ℕ) (c : CodeBlock) (f : ℕ) (m u : MStore) (o : Option ℕ) → ((r : ℕ) → o ≡ Some r → HoldsIn c r) → Agrees hold c (m.slots f) (u.slots f)
    → slot_in m f (held hold o) ≡ slot_in u f o
slot_same hold c f m u None of A = refl
slot_same hold c f m u (Some r) of A = A.same r (of r refl)

slot_fires : (hold : ℕ → ℕ) (c : CodeBlock) (f : ℕ) (m u new : MStore) (o : Option ℕ) (x : Outcome) (made : List Token)
    → ((a b : ℕ) → HoldsIn c a → HoldsIn c b → hold a ≡ hold b → a ≡ b)
    → ((r : ℕ) → o ≡ Some r → HoldsIn c r) → Agrees hold c (m.slots f) (u.slots f) → Fires m f (held hold o) x made new
    → Answered hold c f o m u new (λ after. Fires u f o x made after)
slot_fires hold c f m u new o (Excluded n) made apart of A e = absurd e
slot_fires hold c f m u new None (Becomes v ts) made apart of A e = record {
  after = u;
  does = (e.0, refl);
  agrees = subst (λ (n : MStore). Agrees hold c (n.slots f) (u.slots f)) (sym e.1) A;
  moved = subst (Unmoved f m) (sym e.1) (unmoved_refl f m);
  moved_old = unmoved_refl f u;
  before_same = refl;
  after_same = refl;
}
slot_fires hold c f m u new (Some r) (Becomes v ts) made apart of A e =
    let after : MStore = with_slot u f r v in
    let h : HoldsIn c r = of r refl in
    let put : Agrees hold c (put_at (m.slots f) (hold r) v) (put_at (u.slots f) r v) = agrees_put hold c (m.slots f) (u.slots f) r v apart h A in
    let one : put_at (m.slots f) (hold r) v ≡ (with_slot m f (hold r) v).slots f = sym (put_same m.slots f (put_at (m.slots f) (hold r) v) f refl) in
    let two : put_at (u.slots f) r v ≡ after.slots f = sym (put_same u.slots f (put_at (u.slots f) r v) f refl) in
    let both : Agrees hold c ((with_slot m f (hold r) v).slots f) (after.slots f) =
    subst (λ (x : ℕ → SlotState). Agrees hold c x (after.slots f)) one
    (subst (λ (x : ℕ → SlotState). Agrees hold c (put_at (m.slots f) (hold r) v) x) two put) in
    let now : Agrees hold c (new.slots f) (after.slots f) = subst (λ (n : MStore). Agrees hold c (n.slots f) (after.slots f)) (sym e.1) both in
    record {
      after = after;
      does = (e.0, refl);
      agrees = now;
      moved = subst (Unmoved f m) (sym e.1) (unmoved_put f (hold r) v m);
      moved_old = unmoved_put f r v u;
      before_same = A.same r h;
      after_same = now.same r h;
    }

module _ (p : Plan) (ds : List CodeBlock) (hold : ℕ → ℕ → ℕ) (R : RenumbersAll hold p.program.blocks ds) where
  abbrev P : Program
  P = p.program

  abbrev Q : Program
  Q = (with_blocks p ds).program

  pub rule_same : (b : ℕ) (s : Point) (i j : Instr) → IsRenumbered (hold b) i j → (slot : SlotState) (r : Port) (w : Word)
      → outcome_of Q s j j.op slot r w ≡ outcome_of P s i i.op slot r w
  rule_same b s i j I slot r w =
      ap (λ (x : Instr). outcome_of Q s x x.op slot r w) (renumbered_is (hold b) i j I) ∙ outcome_same P ds s i j.slot (first_is p ds hold R) i.op slot r w

  -- an instruction's event
  pub instr_answered : (b : ℕ) (c d : CodeBlock) (n : ℕ) (i j : Instr) → slice_get c.instrs n ≡ Some i → RenumbersBlock (hold b) c d → IsRenumbered (hold b) i j
      → (t : ℕ) (m u new : MStore) (f ip : ℕ) (r : Port) (w : Word) (made : List Token) → instr_at P ip ≡ Some i → instr_at Q ip ≡ Some j
      → Agrees (hold b) c (m.slots f) (u.slots f)
      → Happens Q t m (To.Instr f ip r) w made new → Answered (hold b) c f (slot_of i i.op) m u new (λ after. Happens P t u (To.Instr f ip r) w made after)
  instr_answered b c d n i j there B I t m u new f ip r w made at_p at_q A happens =
      let s : Point = record { frame = f; ip = ip } in
      let o : Option ℕ = slot_of i i.op in
      let of : (k : ℕ) → o ≡ Some k → HoldsIn c k = λ (k : ℕ) (e : o ≡ Some k). record { place = n; instr = i; there = there; holds = e } in
      let one : Fires m f (slot_of j j.op) (outcome_of Q s j j.op (slot_in m f (slot_of j j.op)) r w) made new =
      subst (λ (x : Option Instr). Fires m f (slot_used x) (rule_at Q s x (slot_in m f (slot_used x)) r w) made new) at_q happens in
      let two : Fires m f (held (hold b) o) (outcome_of Q s j j.op (slot_in m f (held (hold b) o)) r w) made new =
      subst (λ (x : Option ℕ). Fires m f x (outcome_of Q s j j.op (slot_in m f x) r w) made new) (slot_held (hold b) i j I) one in
      let three : Fires m f (held (hold b) o) (outcome_of P s i i.op (slot_in u f o) r w) made new =
      subst (λ (x : Outcome). Fires m f (held (hold b) o) x made new)
      (rule_same b s i j I (slot_in m f (held (hold b) o)) r w ∙ ap (λ (x : SlotState). outcome_of P s i i.op x r w) (slot_same (hold b) c f m u o of A)) two in
      let K = slot_fires (hold b) c f m u new o (outcome_of P s i i.op (slot_in u f o) r w) made B.apart of A three in
      record {
        after = K.after;
        does = subst (λ (x : Option Instr). Fires u f (slot_used x) (rule_at P s x (slot_in u f (slot_used x)) r w) made K.after) (sym at_p) K.does;
        agrees = K.agrees;
        moved = K.moved;
        moved_old = K.moved_old;
        before_same = K.before_same;
        after_same = K.after_same;
      }

  hosts_carried : (k : ℕ) (m u new : MStore) (j : ℕ) (w : Word) (made : List Token) → Same m u → Hosts k m j w made new
      → Carried m u new (λ after. Hosts k u j w made after)
  hosts_carried k m u new j w made S (inl e) = (
    with_output u j e.2.0,
    inl (e.0, ap (λ (o : ℕ → Option Value). o j) S.outputs ∙ e.1, (e.2.0, e.2.1, e.2.2, refl)),
    subst (λ (n : MStore). Same n (with_output u j e.2.0))
        (sym
        e.2.3) record {
          cells = S.cells;
          out = S.out;
          requests = S.requests;
          outputs = ap (λ (o : ℕ → Option Value). put_at o j (Some e.2.0)) S.outputs;
          done = S.done;
        },
    ap (λ (n : MStore). n.slots) e.2.3,
    refl,
  )
  hosts_carried k m u new j w made S (inr e) = (
    with_done u,
    inr (e.0, S.done ∙ e.1, e.2, refl),
    subst (λ (n : MStore). Same n (with_done u)) (sym e.3) record { cells = S.cells; out = S.out; requests = S.requests; outputs = S.outputs; done = refl },
    ap (λ (n : MStore). n.slots) e.3,
    refl,
  )

  -- any other event
  pub other_carried : (t : ℕ) (m u new : MStore) (to : To) (w : Word) (made : List Token) → ((g ip : ℕ) (r : Port) → to ≡ To.Instr g ip r → ⊥) → Same m u
      → Happens Q t m to w made new
      → Carried m u new (λ after. Happens P t u to w made after)
  other_carried t m u new (To.Instr f ip r) w made others S e = absurd (others f ip r refl)
  other_carried t m u new (To.Fetch x) w made others S e = fetch_carried P Q t m u new x w made S e
  other_carried t m u new (To.Store x v) w made others S e = store_carried P Q t m u new x v w made S e
  other_carried t m u new To.Manager (Word.Back k) made others S e = request_carried t m u new k made S e
  other_carried t m u new To.Manager (Word.Val v) made others S e = absurd e
  other_carried t m u new To.Manager (Word.Frame f) made others S e = absurd e
  other_carried t m u new (To.Release f) w made others S e = release_carried m u new f made S e
  other_carried t m u new (To.Host j) w made others S e =
      hosts_carried (outputs_of P) m u new j w made S (subst (λ (k : ℕ). Hosts k m j w made new) (outputs_is p ds hold R) e)
