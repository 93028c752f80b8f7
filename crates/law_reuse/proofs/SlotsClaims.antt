-- Who holds a slot of the code, as the plan's run shows: the holder has something, and the slot is its own.
use Rattle.std.proofs.Common.{◌≡◌, refl, zero-add, sym, ap, ◌∙◌, subst, ℕ, zero, suc, ◌+◌, ◌-◌, ◌<◌, ◌⊎◌, inl, inr, Bool, List, [], ◌∷◌, ◌++◌, length, Option}
use Rattle.std.proofs.Common.{Some, None, Contains, arith, lt-ltb, le-ltb}
use Rattle.std.specs.Prelude.{slice_get, slice_index_or, if◌then◌else◌, nat_lt, ⊤}
use Rattle.std.proofs.lemmas.Bool.{cases_eq}
use Rattle.std.proofs.lemmas.List.Elements.{Contains-append_left, Contains-append_right}
use Rattle.std.proofs.lemmas.Option.{same_Some}
use Rattle.tags.specs.declared.token.Port.{Port}
use Rattle.tags.specs.declared.token.Word.{Word}
use Rattle.tags.specs.declared.token.Token.{Token}
use Rattle.tags.specs.declared.slot.SlotState.{SlotState}
use Rattle.tags.specs.declared.slot.SlotState.TheVariants.{Empty}
use Rattle.semantics.specs.Program.{Instr, CodeBlock, first_of}
use Rattle.semantics.specs.Rule.{slot_of}
use Rattle.semantics.specs.Machine.{slot_used}
use Rattle.semantics.specs.Plan.{Plan}
use Rattle.semantics.specs.Sharing.{placed_slot}
use Rattle.semantics.specs.Holders.{Holder, holder_of, holder_from, holder_at}
use Rattle.semantics.specs.Unfolded.{HasSlot}
use Rattle.semantics.proofs.BlockPlaces.{first_in, first_next}
use Rattle.law_reuse.proofs.SlotsPlacedCode.{moved_to}
use Rattle.law_reuse.proofs.SlotsPlacedEvents.{Alone, in_slot, slot_moved}
use Rattle.law_reuse.proofs.SlotsPlaced.{IsPlaced, stands_within}
use Rattle.law_reuse.proofs.SlotsFillings.{at_port, later_on}
use Rattle.law_reuse.proofs.SlotsUsedArcs.{Ports, one_frame}

pub index_got : (slots : List (List ℕ)) (b : ℕ) (ss : List ℕ) → slice_get slots b ≡ Some ss → slice_index_or slots b [] ≡ ss
index_got [] b ss e = absurd (cc)
index_got (x ∷ slots) zero ss e = same_Some x ss e
index_got (x ∷ slots) (suc b) ss e = index_got slots b ss e

holder_in : (bs : List CodeBlock) (a b n : ℕ) (c : CodeBlock) → slice_get bs b ≡ Some c → n < length c.instrs
    → holder_from a bs (first_in bs b + n) ≡ holder_of (a + b) (slot_used (slice_get c.instrs n))
holder_in [] a b n c e h = absurd (cc)
holder_in (x ∷ bs) a zero n c e h =
    let same : x ≡ c = cc in
    let start : a ≡ a + 0 = omega arith in
    ap (holder_from a (x ∷ bs)) (zero-add n)
    ∙ subst (λ (y : CodeBlock). (if nat_lt n (length y.instrs) then holder_of a (slot_used (slice_get y.instrs n))
    else holder_from (a + 1) bs (n - length y.instrs)) ≡ holder_of (a + 0) (slot_used (slice_get c.instrs n))) (sym same)
    (ap (λ (t : Bool). if t then holder_of a (slot_used (slice_get c.instrs n)) else holder_from (a + 1) bs (n - length c.instrs))
    (lt-ltb n (length c.instrs) h)
    ∙ ap (λ (k : ℕ). holder_of k (slot_used (slice_get c.instrs n))) start)
holder_in (x ∷ bs) a (suc b) n c e h =
    let m = first_next x bs b in
    let ip = first_in (x ∷ bs) (suc b) + n in
    let back : ip - length x.instrs ≡ first_in bs b + n = omega (arith, m) in
    let on : a + 1 + b ≡ a + suc b = omega arith in
    ap (λ (t : Bool). if t then holder_of a (slot_used (slice_get x.instrs ip)) else holder_from (a + 1) bs (ip - length x.instrs))
    (le-ltb ip (length x.instrs) (omega (arith, m)))
    ∙ ap (holder_from (a + 1) bs) back ∙ holder_in bs (a + 1) b n c e h ∙ ap (λ (k : ℕ). holder_of k (slot_used (slice_get c.instrs n))) on

-- the holder of an instruction
pub holder_here : (p : Plan) (b n : ℕ) (i : Instr) → IsPlaced p.program b n i → holder_at p (first_of p.program b + n) ≡ holder_of b (slot_of i i.op)
holder_here p b n i s =
    holder_in p.program.blocks 0 b n s.code s.block (stands_within p.program b n i s) ∙ ap (λ (o : Option Instr). holder_of (0 + b) (slot_used o)) s.instr
    ∙ ap (λ (k : ℕ). holder_of k (slot_of i i.op)) (zero-add b)

-- holder x holds slot s of frame g
pub record Claim (p : Plan) (slots : List (List ℕ)) (ts : List Token) (plan : ℕ → ℕ → SlotState) (g s : ℕ) (x : Holder) : Type 0 where
  pub n : ℕ
  pub i : Instr
  pub q : Port
  pub w : Word
  pub stands : IsPlaced p.program x.block n i
  pub came : Contains ts (at_port p.program g x.block n q w)
  pub slot : HasSlot slots x.block x.number s
  pub full : plan g x.number ≡ Empty → ⊥

abbrev pub ClaimOr : Plan → List (List ℕ) → List Token → (ℕ → ℕ → SlotState) → ℕ → ℕ → Option Holder → Type 0
ClaimOr p slots ts plan g s None = ⊤
ClaimOr p slots ts plan g s (Some x) = Claim p slots ts plan g s x

pub claim_later : (p : Plan) (slots : List (List ℕ)) (ts : List Token) (t : Token) (old new : ℕ → ℕ → SlotState) (g s : ℕ) (o : Option Holder)
    → ((x : Holder) → o ≡ Some x → Claim p slots ts old g s x → new g x.number ≡ Empty → old g x.number ≡ Empty)
    → ClaimOr p slots ts old g s o → ClaimOr p slots (ts ++ t ∷ []) new g s o
claim_later p slots ts t old new g s None kept C = tt
claim_later p slots ts t old new g s (Some x) kept C =
    record {
      n = C.n;
      i = C.i;
      q = C.q;
      w = C.w;
      stands = C.stands;
      came = later_on ts t (at_port p.program g x.block C.n C.q C.w) C.came;
      slot = C.slot;
      full = λ e. C.full (kept x refl C e);
    }

-- ---- IN THE FRAME OF A TOKEN THAT WAITS

module _ (p : Plan) (slots : List (List ℕ)) (ts pool : List Token) (P : Ports p ts pool) (f b n : ℕ) (i : Instr) (q : Port) (w : Word) (ss : List ℕ)
    (plan : ℕ → ℕ → SlotState)
    (stands : IsPlaced p.program b n i) (at_slots : slice_get slots b ≡ Some ss) (inside : Contains pool (at_port p.program f b n q w))
    (alone : Alone ss (slot_of i i.op) (plan f)) where
  pub claim_block : (s : ℕ) (x : Holder) → Claim p slots ts plan f s x → x.block ≡ b
  claim_block s x C =
      one_frame p ts pool P f x.block b C.n n C.i i C.q q C.w w C.stands stands (Contains-append_left ts pool (at_port p.program f x.block C.n C.q C.w) C.came)
      (Contains-append_right ts pool (at_port p.program f b n q w) inside)

  pub claim_slot : (s : ℕ) (x : Holder) → Claim p slots ts plan f s x → slice_get ss x.number ≡ Some s
  claim_slot s x C =
      ap (λ (l : List ℕ). slice_get l x.number) (sym (index_got slots b ss at_slots))
      ∙ ap (λ (b : ℕ). slice_get (slice_index_or slots b []) x.number) (sym (claim_block s x C)) ∙ C.slot

  -- the slot of the instruction's holder
  pub slot_got : (k : ℕ) → slot_of i i.op ≡ Some k → slice_get ss k ≡ Some (slice_index_or ss k 0)
  slot_got k holds = (alone k holds).0

  -- the holder that has the slot is the instruction's
  pub claim_same : (s k : ℕ) → slot_of i i.op ≡ Some k → slice_get ss k ≡ Some s → (x : Holder) → Claim p slots ts plan f s x
      → Some x ≡ Some record { block = b; number = k }
  claim_same s k holds at x C = go (cases_eq x.number k)
    where
      go : (x.number ≡ k) ⊎ (x.number ≡ k → ⊥) → Some x ≡ Some record { block = b; number = k }
      go (inl e) = (λ j. Some record { block = claim_block s x C j; number = e j })
      go (inr ne) = absurd (C.full ((alone k holds).1 x.number ne (claim_slot s x C ∙ sym at ∙ slot_got k holds)))

  -- the slot that the code's instruction uses
  pub slot_there : (s : ℕ) → slot_used (Some (moved_to ss i)) ≡ Some s → (k : ℕ) × (slot_of i i.op ≡ Some k) × (slice_get ss k ≡ Some s)
  slot_there s e = go (slot_of i i.op) refl (sym (slot_moved i (placed_slot ss (slot_of i i.op)) i.op) ∙ e)
    where
      go : (o : Option ℕ) → slot_of i i.op ≡ o → in_slot (placed_slot ss o) o ≡ Some s → (k : ℕ) × (slot_of i i.op ≡ Some k) × (slice_get ss k ≡ Some s)
      go None at e = absurd (cc)
      go (Some k) at e = (k, at, slot_got k at ∙ e)

  pub slot_is : (s k : ℕ) → slot_of i i.op ≡ Some k → slice_get ss k ≡ Some s → slot_used (Some (moved_to ss i)) ≡ Some s
  slot_is s k holds at =
      slot_moved i (placed_slot ss (slot_of i i.op)) i.op ∙ ap (λ (o : Option ℕ). in_slot (placed_slot ss o) o) holds ∙ sym (slot_got k holds) ∙ at
