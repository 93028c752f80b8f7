-- An instruction's event of the code is one of the plan, where every other holder of the slot is empty.
use Rattle.std.proofs.Common.{◌≡◌, refl, sym, subst, ℕ, List, length, Option, Some, None, slice_get}
use Rattle.std.specs.Prelude.{slice_index_or}
use Rattle.tags.specs.declared.token.Port.{Port}
use Rattle.tags.specs.declared.token.Word.{Word}
use Rattle.tags.specs.declared.token.To.{To}
use Rattle.tags.specs.declared.token.Token.{Token}
use Rattle.tags.specs.declared.slot.SlotState.{SlotState}
use Rattle.tags.specs.declared.slot.SlotState.TheVariants.{Empty}
use Rattle.semantics.specs.declared.program.Op.{Op}
use Rattle.semantics.specs.declared.program.Op.TheVariants.{Apply2, Sync, Switch, Store, Send, Return, Ask, Open, Take, Give, Drain, Release}
use Rattle.semantics.specs.Program.{Instr, Program, instr_at}
use Rattle.semantics.specs.Rule.{Point, Outcome, Becomes, Excluded, outcome_of, rule_at, slot_of}
use Rattle.semantics.specs.Machine.{Store as MStore, put_at, with_slot, slot_in, slot_used, Fires, Happens}
use Rattle.semantics.specs.Plan.{Plan}
use Rattle.semantics.specs.Sharing.{placed_slot}
use Rattle.semantics.specs.Placed.{placed, placed_blocks}
use Rattle.law_reuse.proofs.FramesFold.{put_same, put_other}
use Rattle.law_reuse.proofs.SlotsPlacedCode.{outcome_same, first_same, moved_to, Agrees, agrees_at, agrees_put}

abbrev pub in_slot : ℕ → Option ℕ → Option ℕ
in_slot r None = None
in_slot r (Some h) = Some r

pub slot_moved : (i : Instr) (r : ℕ) (op : Op) → slot_of record i { slot = r } op ≡ in_slot r (slot_of i op)
slot_moved i r (Apply2 op) = refl
slot_moved i r Sync = refl
slot_moved i r Switch = refl
slot_moved i r (Store a) = refl
slot_moved i r (Send b e) = refl
slot_moved i r (Return o) = refl
slot_moved i r (Ask o) = refl
slot_moved i r (Release o) = refl
slot_moved i r (Open k) = refl
slot_moved i r (Take k) = refl
slot_moved i r (Give k) = refl
slot_moved i r (Drain k) = refl
slot_moved i r op = refl

-- nothing but the slots of frame f is changed
pub record Unmoved (f : ℕ) (old new : MStore) : Type 0 where
  pub slots : (g : ℕ) → (f ≡ g → ⊥) → new.slots g ≡ old.slots g
  pub cells : new.cells ≡ old.cells
  pub out : new.out ≡ old.out
  pub requests : new.requests ≡ old.requests
  pub outputs : new.outputs ≡ old.outputs
  pub done : new.done ≡ old.done

pub unmoved_put : (f r : ℕ) (v : SlotState) (m : MStore) → Unmoved f m (with_slot m f r v)
unmoved_put f r v m =
    record { slots = λ g ne. put_other m.slots f (put_at (m.slots f) r v) g ne; cells = refl; out = refl; requests = refl; outputs = refl; done = refl }

pub unmoved_refl : (f : ℕ) (m : MStore) → Unmoved f m m
unmoved_refl f m = record { slots = λ g ne. refl; cells = refl; out = refl; requests = refl; outputs = refl; done = refl }

-- the holder, if there is one, has a slot, and all others of that slot are empty
abbrev pub Alone : List ℕ → Option ℕ → (ℕ → SlotState) → Type 0
Alone ss o plan = (h : ℕ) → o ≡ Some h → (slice_get ss h ≡ Some (slice_index_or ss h 0))
    × ((k : ℕ) → (k ≡ h → ⊥) → slice_get ss k ≡ Some (slice_index_or ss h 0) → plan k ≡ Empty)

abbrev pub Shown : List ℕ → ℕ → (u new : MStore) (m : MStore) (Does : MStore → Type 0) → Type 0
Shown ss f u new m Does = (after : MStore) × Does after × Agrees ss (new.slots f) (after.slots f) × Unmoved f m new × Unmoved f u after

put_fires : (ss : List ℕ) (f h s : ℕ) (m u new : MStore) (o : Outcome) (made : List Token) → slice_get ss h ≡ Some s
    → ((k : ℕ) → (k ≡ h → ⊥) → slice_get ss k ≡ Some s → u.slots f k ≡ Empty) → Agrees ss (m.slots f) (u.slots f)
    → Fires m f (Some s) o made new → Shown ss f u new m (λ after. Fires u f (Some h) o made after)
put_fires ss f h s m u new (Excluded n) made at only A e = absurd e
put_fires ss f h s m u new (Becomes v ts) made at only A e =
    let after : MStore = with_slot u f h v in
    let agrees : Agrees ss (put_at (m.slots f) s v) (put_at (u.slots f) h v) = agrees_put ss (m.slots f) (u.slots f) h s v at only A in
    let code : put_at (m.slots f) s v ≡ (with_slot m f s v).slots f = sym (put_same m.slots f (put_at (m.slots f) s v) f refl) in
    let plan : put_at (u.slots f) h v ≡ after.slots f = sym (put_same u.slots f (put_at (u.slots f) h v) f refl) in
    let both : Agrees ss ((with_slot m f s v).slots f) (after.slots f) =
    subst (λ (c : ℕ → SlotState). Agrees ss c (after.slots f)) code (subst (λ (c : ℕ → SlotState). Agrees ss (put_at (m.slots f) s v) c) plan agrees) in (
      after,
      (e.0, refl),
      subst (λ (n : MStore). Agrees ss (n.slots f) (after.slots f)) (sym e.1) both,
      subst (Unmoved f m) (sym e.1) (unmoved_put f s v m),
      unmoved_put f h v u,
    )

none_fires : (ss : List ℕ) (f : ℕ) (m u new : MStore) (o : Outcome) (made : List Token) → Agrees ss (m.slots f) (u.slots f)
    → Fires m f None o made new → Shown ss f u new m (λ after. Fires u f None o made after)
none_fires ss f m u new (Excluded n) made A e = absurd e
none_fires ss f m u new (Becomes v ts) made A e =
    (u, (e.0, refl), subst (λ (n : MStore). Agrees ss (n.slots f) (u.slots f)) (sym e.1) A, subst (Unmoved f m) (sym e.1) (unmoved_refl f m), unmoved_refl f u)

slot_fires : (ss : List ℕ) (f : ℕ) (m u new : MStore) (o : Option ℕ) (does : SlotState → Outcome) (made : List Token) → Alone ss o (u.slots f)
    → Agrees ss (m.slots f) (u.slots f)
    → Fires m f (in_slot (placed_slot ss o) o) (does (slot_in m f (in_slot (placed_slot ss o) o))) made new
    → Shown ss f u new m (λ after. Fires u f o (does (slot_in u f o)) made after)
slot_fires ss f m u new None does made only A e = none_fires ss f m u new (does Empty) made A e
slot_fires ss f m u new (Some h) does made only A e =
    let s : ℕ = slice_index_or ss h 0 in
    let here = only h refl in
    let same : m.slots f s ≡ u.slots f h = agrees_at ss (m.slots f) (u.slots f) A h s here.0 here.1 in
    put_fires ss f h s m u new (does (u.slots f h)) made here.0 here.1 A (subst (λ (v : SlotState). Fires m f (Some s) (does v) made new) same e)

-- the slot of an instruction is its holder's
pub slot_same : (ss : List ℕ) (f : ℕ) (m u : MStore) (o : Option ℕ) → Alone ss o (u.slots f) → Agrees ss (m.slots f) (u.slots f)
    → slot_in m f (in_slot (placed_slot ss o) o) ≡ slot_in u f o
slot_same ss f m u None only A = refl
slot_same ss f m u (Some h) only A = let here = only h refl in agrees_at ss (m.slots f) (u.slots f) A h (slice_index_or ss h 0) here.0 here.1

pub instr_placed : (p : Plan) (slots : List (List ℕ)) → length slots ≡ length p.program.blocks
    → (t : ℕ) (m u new : MStore) (f ip : ℕ) (q : Port) (w : Word) (made : List Token) (ss : List ℕ) (i : Instr)
    → instr_at p.program ip ≡ Some i → instr_at (placed p slots) ip ≡ Some (moved_to ss i) → Alone ss (slot_of i i.op) (u.slots f)
    → Agrees ss (m.slots f) (u.slots f)
    → Happens (placed p slots) t m (To.Instr f ip q) w made new → Shown ss f u new m (λ after. Happens p.program t u (To.Instr f ip q) w made after)
instr_placed p slots long t m u new f ip q w made ss i at moved only A e =
    let r : ℕ = placed_slot ss (slot_of i i.op) in
    let point : Point = record { frame = f; ip = ip } in
    let code : Program = placed p slots in
    let one : Fires m f (slot_of (moved_to ss i) i.op) (outcome_of code point (moved_to ss i) i.op (slot_in m f (slot_of (moved_to ss i) i.op)) q w) made new =
    subst (λ (o : Option Instr). Fires m f (slot_used o) (rule_at code point o (slot_in m f (slot_used o)) q w) made new) moved e in
    let two : Fires m f (in_slot r (slot_of i i.op)) (outcome_of code point (moved_to ss i) i.op (slot_in m f (in_slot r (slot_of i i.op))) q w) made new =
    subst (λ (o : Option ℕ). Fires m f o (outcome_of code point (moved_to ss i) i.op (slot_in m f o) q w) made new) (slot_moved i r i.op) one in
    let three : Fires m f (in_slot r (slot_of i i.op)) (outcome_of p.program point i i.op (slot_in m f (in_slot r (slot_of i i.op))) q w) made new =
    subst (λ (o : Outcome). Fires m f (in_slot r (slot_of i i.op)) o made new)
    (outcome_same p.program (placed_blocks slots p.program.blocks) point i r (first_same p.program slots long) i.op
    (slot_in m f (in_slot r (slot_of i i.op))) q w) two in
    let shown = slot_fires ss f m u new (slot_of i i.op) (λ (v : SlotState). outcome_of p.program point i i.op v q w) made only A three in (
      shown.0,
      subst (λ (o : Option Instr). Fires u f (slot_used o) (rule_at p.program point o (slot_in u f (slot_used o)) q w) made shown.0) (sym at) shown.1,
      shown.2,
      shown.3,
      shown.4,
    )
