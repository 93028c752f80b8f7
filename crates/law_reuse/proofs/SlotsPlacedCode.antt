-- The code of a plan has the plan's rules, and a slot that one holder has is that holder's.
use Rattle.std.proofs.Common.{◌≡◌, ◌≤◌, zero-add, ltb-false, refl, sym, ap, ◌∙◌, ℕ, zero, suc, ◌+◌, ◌-◌, ◌⊎◌, inl, inr, Bool, true, false, List, [], ◌∷◌, map}
use Rattle.std.proofs.Common.{length, take, sum, Some, None, slice_get, arith}
use Rattle.std.specs.Prelude.{if◌then◌else◌, nat_lt}
use Rattle.std.proofs.lemmas.Bool.{cases_eq}
use Rattle.std.proofs.lemmas.Option.{same_Some}
use Rattle.tags.specs.declared.token.Port.{Port}
use Rattle.tags.specs.declared.token.Port.TheVariants.{Left, Right}
use Rattle.tags.specs.declared.token.Word.{Word}
use Rattle.tags.specs.declared.token.To.{To}
use Rattle.tags.specs.declared.slot.SlotState.{SlotState}
use Rattle.tags.specs.declared.slot.SlotState.TheVariants as Slot
use Rattle.tags.specs.declared.slot.SlotState.TheVariants.{Empty, Credits, Waiter, Draining}
use Rattle.semantics.specs.declared.program.Op.{Op}
use Rattle.semantics.specs.declared.program.Op.TheVariants.{Apply2, Sync, Switch, Store, Link, Send, Return, Ask, Open, Take, Give, Drain, Release}
use Rattle.semantics.specs.Program.{Instr, CodeBlock, Program, first_of, instr_from}
use Rattle.semantics.specs.Rule.{token, signal, Point, to_each, to_all, landing_at, fires, fire_one, fire_two, meets, alone, outcome_of, slot_of}
use Rattle.semantics.specs.Machine.{put_at}
use Rattle.semantics.specs.Sharing.{placed_slot, placed_instrs}
use Rattle.semantics.specs.Placed.{placed_blocks}
use Rattle.semantics.proofs.BlockPlaces.{first_in, first_next}
use Rattle.law_reuse.proofs.FramesFold.{put_same, put_other}

-- ---- the same rule

module _ (p : Program) (bs : List CodeBlock) (s : Point) (i : Instr) (r : ℕ)
    (firsts : (b : ℕ) → first_of record { blocks = bs; arrays = p.arrays; main = p.main } b ≡ first_of p b) where
  abbrev other : Program
  other = record { blocks = bs; arrays = p.arrays; main = p.main }

  abbrev moved : Instr
  moved = record i { slot = r }

  one_same : (op : Op) (w : Word) → fire_one other s moved op w ≡ fire_one p s i op w
  one_same (Link b) (Word.Frame f) =
      ap (λ (x : ℕ). Some (token (To.Instr f x Left) (Word.Back (landing_at s i.firsts)) ∷ to_each s signal i.seconds)) (firsts b)
  one_same op w = refl

  two_same : (op : Op) (l w : Word) → fire_two other s moved op l w ≡ fire_two p s i op l w
  two_same (Send b e) (Word.Frame f) w = ap (λ (x : ℕ). Some (token (To.Instr f (x + e) Left) w ∷ to_all s signal i)) (firsts b)
  two_same op l w = refl

  meets_same : (slot : SlotState) (q : Port) (w : Word) → meets other s moved slot q w ≡ meets p s i slot q w
  meets_same (Slot.Left l) Right w = ap (fires Empty) (two_same i.op l w)
  meets_same (Slot.Right l) Left w = ap (fires Empty) (two_same i.op w l)
  meets_same slot q w = refl

  alone_same : (slot : SlotState) (q : Port) (w : Word) → alone other s moved slot q w ≡ alone p s i slot q w
  alone_same slot Left w = ap (fires slot) (one_same i.op w)
  alone_same slot Right w = refl

  pub outcome_same : (op : Op) (slot : SlotState) (q : Port) (w : Word) → outcome_of other s moved op slot q w ≡ outcome_of p s i op slot q w
  outcome_same (Apply2 op) slot q w = meets_same slot q w
  outcome_same Sync slot q w = meets_same slot q w
  outcome_same Switch slot q w = meets_same slot q w
  outcome_same (Store a) slot q w = meets_same slot q w
  outcome_same (Send b e) slot q w = meets_same slot q w
  outcome_same (Return o) slot q w = meets_same slot q w
  outcome_same (Ask o) slot q w = meets_same slot q w
  outcome_same (Release o) slot q w = meets_same slot q w
  outcome_same (Open k) slot q w = refl
  outcome_same (Take k) slot q w = refl
  outcome_same (Give k) slot q w = refl
  outcome_same (Drain k) slot q w = refl
  outcome_same op slot q w = alone_same slot q w

-- ---- the same places

pub length_placed : (ss : List ℕ) (is : List Instr) → length (placed_instrs ss is) ≡ length is
length_placed ss [] = refl
length_placed ss (i ∷ is) = ap suc (length_placed ss is)

lengths_same : (slots : List (List ℕ)) (cs : List CodeBlock) → length slots ≡ length cs → (b : ℕ)
    → map (λ (x : CodeBlock). length x.instrs) (take b (placed_blocks slots cs)) ≡ map (λ (x : CodeBlock). length x.instrs) (take b cs)
lengths_same slots cs e zero = refl
lengths_same [] [] e (suc b) = refl
lengths_same [] (c ∷ cs) e (suc b) = absurd (omega (arith, e))
lengths_same (ss ∷ slots) [] e (suc b) = absurd (omega (arith, e))
lengths_same (ss ∷ slots) (c ∷ cs) e (suc b) =
    ap (λ (k : ℕ). k ∷ map (λ (x : CodeBlock). length x.instrs) (take b (placed_blocks slots cs))) (length_placed ss c.instrs)
    ∙ ap (λ (l : List ℕ). length c.instrs ∷ l) (lengths_same slots cs (omega (arith, e)) b)

pub first_same : (p : Program) (slots : List (List ℕ)) → length slots ≡ length p.blocks → (b : ℕ)
    → first_of record { blocks = placed_blocks slots p.blocks; arrays = p.arrays; main = p.main } b ≡ first_of p b
first_same p slots e b = ap sum (lengths_same slots p.blocks e b)

abbrev pub moved_to : List ℕ → Instr → Instr
moved_to ss i = record i { slot = placed_slot ss (slot_of i i.op) }

-- where an instruction is, in the plan and in the placed code
pub data Located (slots : List (List ℕ)) (cs : List CodeBlock) (ip : ℕ) : Type 0 where
  Nowhere : instr_from cs ip ≡ None → instr_from (placed_blocks slots cs) ip ≡ None → Located slots cs ip
  There : (b n : ℕ) (ss : List ℕ) (c : CodeBlock) (i : Instr) → slice_get slots b ≡ Some ss → slice_get cs b ≡ Some c → slice_get c.instrs n ≡ Some i
      → instr_from cs ip ≡ Some i → instr_from (placed_blocks slots cs) ip ≡ Some (moved_to ss i) → ip ≡ first_in cs b + n → Located slots cs ip

get_placed : (ss : List ℕ) (is : List Instr) (n : ℕ) → ((slice_get is n ≡ None) × (slice_get (placed_instrs ss is) n ≡ None))
    ⊎ ((i : Instr) × (slice_get is n ≡ Some i) × (slice_get (placed_instrs ss is) n ≡ Some (moved_to ss i)))
get_placed ss [] n = inl (refl, refl)
get_placed ss (i ∷ is) zero = inr (i, refl, refl)
get_placed ss (i ∷ is) (suc n) = get_placed ss is n

pub located : (slots : List (List ℕ)) (cs : List CodeBlock) → length slots ≡ length cs → (ip : ℕ) → Located slots cs ip
located [] [] e ip = Nowhere refl refl
located [] (c ∷ cs) e ip = absurd (omega (arith, e))
located (ss ∷ slots) [] e ip = absurd (omega (arith, e))
located (ss ∷ slots) (c ∷ cs) e ip = go (nat_lt ip (length c.instrs)) refl (located slots cs (omega (arith, e)) (ip - length c.instrs))
  where
    same : nat_lt ip (length (placed_instrs ss c.instrs)) ≡ nat_lt ip (length c.instrs)
    same = ap (nat_lt ip) (length_placed ss c.instrs)

    plan_at : (t : Bool) → nat_lt ip (length c.instrs) ≡ t
        → instr_from (c ∷ cs) ip ≡ (if t then slice_get c.instrs ip else instr_from cs (ip - length c.instrs))
    plan_at t e = ap (λ (t : Bool). if t then slice_get c.instrs ip else instr_from cs (ip - length c.instrs)) e

    code_at : (t : Bool) → nat_lt ip (length c.instrs) ≡ t
        → instr_from (placed_blocks (ss ∷ slots) (c ∷ cs)) ip
        ≡ (if t then slice_get (placed_instrs ss c.instrs) ip else instr_from (placed_blocks slots cs) (ip - length c.instrs))
    code_at t e =
        ap (λ (k : ℕ). if nat_lt ip (length (placed_instrs ss c.instrs)) then slice_get (placed_instrs ss c.instrs) ip
        else instr_from (placed_blocks slots cs) (ip - k)) (length_placed ss c.instrs)
        ∙ ap (λ (t : Bool). if t then slice_get (placed_instrs ss c.instrs) ip else instr_from (placed_blocks slots cs) (ip - length c.instrs)) (same ∙ e)

    here : nat_lt ip (length c.instrs) ≡ true → ((slice_get c.instrs ip ≡ None) × (slice_get (placed_instrs ss c.instrs) ip ≡ None))
        ⊎ ((i : Instr) × (slice_get c.instrs ip ≡ Some i) × (slice_get (placed_instrs ss c.instrs) ip ≡ Some (moved_to ss i)))
        → Located (ss ∷ slots) (c ∷ cs) ip
    here t (inl o) = Nowhere (plan_at true t ∙ o.0) (code_at true t ∙ o.1)
    here t (inr o) = There 0 ip ss c o.0 refl refl o.1 (plan_at true t ∙ o.1) (code_at true t ∙ o.2) (sym (zero-add ip))

    later : nat_lt ip (length c.instrs) ≡ false → Located slots cs (ip - length c.instrs) → Located (ss ∷ slots) (c ∷ cs) ip
    later t (Nowhere x y) = Nowhere (plan_at false t ∙ x) (code_at false t ∙ y)
    later t (There b n ts d i p q r x y at) =
        let far : length c.instrs ≤ ip = ltb-false ip (length c.instrs) t in
        let next = first_next c cs b in
        There (suc b) n ts d i p q r (plan_at false t ∙ x) (code_at false t ∙ y) (omega (arith, at, next))

    go : (t : Bool) → nat_lt ip (length c.instrs) ≡ t → Located slots cs (ip - length c.instrs) → Located (ss ∷ slots) (c ∷ cs) ip
    go true t rest = here t (get_placed ss c.instrs ip)
    go false t rest = later t rest

-- ---- THE SLOTS OF ONE FRAME: `code` by the slots, `plan` by the holders. What is in a slot is one holder's, and what a
-- holder has is in its slot.
pub record Agrees (ss : List ℕ) (code plan : ℕ → SlotState) : Type 0 where
  pub held : (s : ℕ) → (code s ≡ Empty → ⊥) → (h : ℕ) × (slice_get ss h ≡ Some s) × (plan h ≡ code s)
  pub shown : (h : ℕ) → (plan h ≡ Empty → ⊥) → (s : ℕ) × (slice_get ss h ≡ Some s) × (plan h ≡ code s)

pub empty_or : (s : SlotState) → (s ≡ Empty) ⊎ (s ≡ Empty → ⊥)
empty_or Empty = inl refl
empty_or (Slot.Left w) = inr (λ e. cc)
empty_or (Slot.Right w) = inr (λ e. cc)
empty_or (Credits n) = inr (λ e. cc)
empty_or (Waiter c) = inr (λ e. cc)
empty_or (Draining n) = inr (λ e. cc)

-- all slots are empty
pub agrees_idle : (ss : List ℕ) (code plan : ℕ → SlotState) → ((s : ℕ) → code s ≡ Empty) → ((h : ℕ) → plan h ≡ Empty) → Agrees ss code plan
agrees_idle ss code plan c p = record { held = λ s full. absurd (full (c s)); shown = λ h full. absurd (full (p h)) }

-- a slot is what its one live holder has
pub agrees_at : (ss : List ℕ) (code plan : ℕ → SlotState) → Agrees ss code plan → (h s : ℕ) → slice_get ss h ≡ Some s
    → ((k : ℕ) → (k ≡ h → ⊥) → slice_get ss k ≡ Some s → plan k ≡ Empty) → code s ≡ plan h
agrees_at ss code plan A h s at only = go (empty_or (plan h)) (empty_or (code s))
  where
    go : ((plan h ≡ Empty) ⊎ (plan h ≡ Empty → ⊥)) → ((code s ≡ Empty) ⊎ (code s ≡ Empty → ⊥)) → code s ≡ plan h
    go (inl e) (inl f) = f ∙ sym e
    go (inr full) d =
        let k = A.shown h full in
        let same : k.0 ≡ s = same_Some k.0 s (sym k.1 ∙ at) in
        sym (k.2 ∙ ap code same)
    go (inl e) (inr full) = pick (A.held s full)
      where
        pick : ((k : ℕ) × (slice_get ss k ≡ Some s) × (plan k ≡ code s)) → code s ≡ plan h
        pick (k, at_k, e) = other (cases_eq k h)
          where
            other : ((k ≡ h) ⊎ (k ≡ h → ⊥)) → code s ≡ plan h
            other (inl same) = sym e ∙ ap plan same
            other (inr ne) = absurd (full (sym e ∙ only k ne at_k))

-- EVENT: an instruction of holder h changes its slot while every other holder of the slot is empty
pub agrees_put : (ss : List ℕ) (code plan : ℕ → SlotState) (h s : ℕ) (v : SlotState) → slice_get ss h ≡ Some s
    → ((k : ℕ) → (k ≡ h → ⊥) → slice_get ss k ≡ Some s → plan k ≡ Empty) → Agrees ss code plan → Agrees ss (put_at code s v) (put_at plan h v)
agrees_put ss code plan h s v at only A = record { held = λ r full. held r (cases_eq s r) full; shown = λ k full. shown k (cases_eq h k) full }
  where
    held : (r : ℕ) → ((s ≡ r) ⊎ (s ≡ r → ⊥)) → (put_at code s v r ≡ Empty → ⊥) → (k : ℕ) × (slice_get ss k ≡ Some r) × (put_at plan h v k ≡ put_at code s v r)
    held r (inl e) full = (h, at ∙ ap Some e, put_same plan h v h refl ∙ sym (put_same code s v r e))
    held r (inr ne) full =
        let before = A.held r (λ e. full (put_other code s v r ne ∙ e)) in (
          before.0,
          before.1,
          put_other plan h v before.0 (λ e. ne (same_Some s r (sym at ∙ ap (slice_get ss) e ∙ before.1))) ∙ before.2 ∙ sym (put_other code s v r ne),
        )

    shown : (k : ℕ) → ((h ≡ k) ⊎ (h ≡ k → ⊥)) → (put_at plan h v k ≡ Empty → ⊥) → (r : ℕ) × (slice_get ss k ≡ Some r) × (put_at plan h v k ≡ put_at code s v r)
    shown k (inl e) full = (s, ap (slice_get ss) (sym e) ∙ at, put_same plan h v k e ∙ sym (put_same code s v s refl))
    shown k (inr ne) full =
        let filled : plan k ≡ Empty → ⊥ = λ e. full (put_other plan h v k ne ∙ e) in
        let before = A.shown k filled in (
          before.0,
          before.1,
          put_other plan h v k ne ∙ before.2
              ∙ sym (put_other code s v before.0 (λ e. filled (only k (λ q. ne (sym q)) (before.1 ∙ ap Some (sym e))))),
        )
