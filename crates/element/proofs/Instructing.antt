-- An instruction's event.
use Rattle.std.proofs.Common.{◌≡◌, sym, subst, ℕ, ◌+◌, ◌*◌, ◌%◌, ◌<◌, ◌≤◌, ◌^◌, List, length, Option, Some, None, arith, ⊎_elim}
use Rattle.std.specs.Prelude.{sum, IfSome, take, slice_index_or, option_to_list}
use Rattle.std.proofs.lemmas.List.{get_or_past}
use Rattle.std.proofs.lemmas.List.Sums.{sum_by-take-drop, sum_by-drop_more}
use Rattle.std.proofs.lemmas.Grind.{common_steps}
use Rattle.std.proofs.lemmas.Bool.{cases_lt}
use Rattle.tags.specs.declared.token.Port.{Port}
use Rattle.tags.specs.declared.token.Cont.{Cont}
use Rattle.tags.specs.declared.token.Word.{Word}
use Rattle.tags.specs.declared.token.To.{To}
use Rattle.tags.specs.declared.token.Token.{Token}
use Rattle.tags.specs.declared.slot.SlotState.{SlotState}
use Rattle.tags.specs.declared.slot.SlotState.TheVariants as Slot
use Rattle.tags.specs.declared.slot.SlotState.TheVariants.{Empty}
use Rattle.tags.specs.Addresses.{element_of}
use Rattle.semantics.specs.declared.program.Dest.{Dest}
use Rattle.semantics.specs.declared.program.Op.{Op}
use Rattle.semantics.specs.declared.program.Op.TheVariants.{Apply2, Sync, Switch, Store, Send, Return, Ask, Open, Take, Give, Drain, Release}
use Rattle.semantics.specs.Program.{Instr, Program, instr_at}
use Rattle.semantics.specs.Rule.{Outcome, Becomes, outcome_of, slot_of, answer_to, landing_at}
use Rattle.element.specs.Short.{ShortInstr}
use Rattle.element.specs.Decoded.{instr_of, dest_in, IsShort}
use Rattle.element.specs.Fired.{HasRoom, HasRoomInWord, HasRoomInSlot}
use Rattle.element.specs.Near.{Bounds, IsNearCont, IsNearWord, IsNearTo, IsNearToken, IsNearSlot}
use Rattle.element.specs.Parts.{Part, IsSound, bounds, slot_place}
use Rattle.element.specs.Changed.{state_in, with_state_in}
use Rattle.element.specs.Acts.{Changes}
use Rattle.element.proofs.Nearness.{IsNearPoint, NearOutcome, outcome_near}
use Rattle.element.proofs.Changing.{IsLow, instr_changes}

room_cont : (b : Bounds) (c : Cont) → IsNearCont b c → HasRoom c
room_cont b (Cont.Frame f ip q) n = n.1
room_cont b (Cont.Host q) n = n

pub room_word : (b : Bounds) (w : Word) → IsNearWord b w → HasRoomInWord w
room_word b (Word.Val v) n = tt
room_word b (Word.Frame f) n = tt
room_word b (Word.Back c) n = room_cont b c n

room_slot : (b : Bounds) (v : SlotState) → IsNearSlot b v → HasRoomInSlot v
room_slot b (Slot.Left w) n = room_word b w n
room_slot b (Slot.Right w) n = room_word b w n
room_slot b v n = tt

state_near : (p : Program) (h : Part) (f : ℕ) (r : Option ℕ) → IsSound p h → IsNearSlot (bounds p h.shape) (state_in h f r)
state_near p h f None sound = tt
state_near p h f (Some r) sound = ⊎_elim
    (λ (l : slot_place h.shape f r < length h.states). sound.slots (slot_place h.shape f r) Empty l)
    (λ (l : length h.states ≤ slot_place h.shape f r). subst (λ (v : SlotState). IsNearSlot (bounds p h.shape) v)
    (sym (get_or_past h.states (slot_place h.shape f r) Empty l)) tt)
    (cases_lt (slot_place h.shape f r) (length h.states))

pub room_in_slot : (p : Program) (h : Part) (f : ℕ) (r : Option ℕ) → IsSound p h → HasRoomInSlot (state_in h f r)
room_in_slot p h f r sound = room_slot (bounds p h.shape) (state_in h f r) (state_near p h f r sound)

pub low_slot : (i : Instr) (op : Op) (width : ℕ) → i.slot < width → IsLow width (slot_of i op)
low_slot i (Apply2 op) width l = l
low_slot i Sync width l = l
low_slot i Switch width l = l
low_slot i (Store a) width l = l
low_slot i (Send b e) width l = l
low_slot i (Return o) width l = l
low_slot i (Ask o) width l = l
low_slot i (Release o) width l = l
low_slot i (Open k) width l = l
low_slot i (Take k) width l = l
low_slot i (Give k) width l = l
low_slot i (Drain k) width l = l
low_slot i op width l = tt

answer_near : (b : Bounds) (f ip : ℕ) (first : Option Dest) → f < b.frames → ip < 2 ^ 30 → IfSome first (λ (d : Dest). d.ahead < 2 ^ 30)
    → IsNearCont b (answer_to record { frame = f; ip = ip } (option_to_list first))
answer_near b f ip None l m n = (l, omega arith)
answer_near b f ip (Some d) l m n = (l, omega arith)

landing_near : (b : Bounds) (f ip : ℕ) (first : Option Dest) → f < b.frames → ip < 2 ^ 30 → IfSome first (λ (d : Dest). d.ahead < 2 ^ 30)
    → IsNearCont b (landing_at record { frame = f; ip = ip } (option_to_list first))
landing_near b f ip None l m n = (l, omega arith)
landing_near b f ip (Some d) l m n = (l, omega arith)

-- a place in an array is a cell
pub cell_there : (arrays : List ℕ) (a x : ℕ) → x < slice_index_or arrays a 0 → sum (take a arrays) + x < sum arrays
cell_there arrays a x l = ⊎_elim
    (λ (low : a < length arrays). let whole = sum_by-take-drop (λ (n : ℕ). n) arrays a in let rest = sum_by-drop_more (λ (n : ℕ). n) arrays a 0 low
    in grind (arith, common_steps, whole, rest, l))
    (λ (past : length arrays ≤ a). absurd (let none = get_or_past arrays a 0 past in omega arith))
    (cases_lt a (length arrays))

pub instructed : (p : Program) (width : ℕ) (h : Part) (t : Token) (f ip : ℕ) (port : Port) (i : ShortInstr) (v : SlotState) (made : List Token)
    (slot : SlotState) → IsSound p h → width ≤ h.shape.width
    → t.to ≡ To.Instr f ip port → IsNearToken (bounds p h.shape) t → element_of h.shape.elements t.to ≡ h.shape.element → IsShort width ip i
    → instr_at p ip ≡ Some (instr_of i)
    → slot ≡ state_in h f (slot_of (instr_of i) i.op) → outcome_of p record { frame = f; ip = ip } (instr_of i) i.op slot port t.word ≡ Becomes v made
    → Changes p h t made (with_state_in h f (slot_of (instr_of i) i.op) v)
instructed p width h t f ip port i v made slot sound wide to_is near addressed short found slot_is comes =
    instr_changes p h f v sound ours there t ip port (instr_of i) made to_is found
    (low_slot (instr_of i) i.op h.shape.width (omega (arith, short.slot))) at_slot after.0 after.1
  where
    b : Bounds
    b = bounds p h.shape

    there : f < h.shape.elements * h.shape.frames
    there = subst (λ (to : To). IsNearTo b to) to_is near.to

    ours : f % h.shape.elements ≡ h.shape.element
    ours = subst (λ (to : To). element_of h.shape.elements to ≡ h.shape.element) to_is addressed

    at_slot : outcome_of p record { frame = f; ip = ip } (instr_of i) i.op (state_in h f (slot_of (instr_of i) i.op)) port t.word ≡ Becomes v made
    at_slot = subst (λ (s : SlotState). outcome_of p record { frame = f; ip = ip } (instr_of i) i.op s port t.word ≡ Becomes v made) slot_is comes

    at_point : IsNearPoint p b record { frame = f; ip = ip } (instr_of i)
    at_point = record {
      frame = there;
      back = answer_near b f ip (dest_in i.first) there short.near short.first;
      land = landing_near b f ip
          (dest_in i.first) there short.near short.first;
      cells = λ a x l. cell_there p.arrays a x l;
    }

    after : NearOutcome b (Becomes v made)
    after = subst (λ (o : Outcome). NearOutcome b o) at_slot (outcome_near p b record { frame = f; ip = ip } (instr_of i) at_point i.op
        (state_in h f (slot_of (instr_of i) i.op)) port t.word (state_near p h f (slot_of (instr_of i) i.op) sound) near.word)
