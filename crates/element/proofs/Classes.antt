-- The result of an instruction that fires or not, put together.
use Rattle.std.proofs.Common.{◌≡◌, refl, sym, ◌∙◌, ap, subst, ℕ, ◌*◌, ◌%◌, ◌<◌, ◌≤◌, List, [], ◌++◌, Option, Some, None, arith}
use Rattle.tags.specs.declared.token.Port.{Port}
use Rattle.tags.specs.declared.token.Word.{Word}
use Rattle.tags.specs.declared.token.To.{To}
use Rattle.tags.specs.declared.token.Token.{Token}
use Rattle.tags.specs.declared.slot.SlotState.{SlotState}
use Rattle.tags.specs.Addresses.{element_of}
use Rattle.semantics.specs.declared.program.Op.{Op}
use Rattle.semantics.specs.declared.program.Op.TheVariants.{Apply1, Apply2, Apply2Right, Apply2Left, Lit, Copy, Sync, Switch, Fetch, Store, Frame}
use Rattle.semantics.specs.declared.program.Op.TheVariants.{Link, Send, Return, Ask, Open, Take, Give, Drain, Release}
use Rattle.std.specs.Prelude.{option_to_list}
use Rattle.semantics.specs.declared.program.Dest.{Dest}
use Rattle.semantics.specs.Program.{Instr, Program, instr_at}
use Rattle.semantics.specs.Rule.{Point, Outcome, Becomes, Excluded, outcome_of, slot_of, fires, meets, alone, rule_at, fire_one, to_each}
use Rattle.semantics.specs.Machine.{slot_in, slot_used, excluded_by, stuck_rule}
use Rattle.element.specs.Short.{ShortInstr}
use Rattle.element.specs.declared.lane.Stepped.{Stepped}
use Rattle.element.specs.declared.lane.Stepped.TheVariants as Step
use Rattle.element.specs.Decoded.{instr_of, dest_in, IsShort, IsPair, IsLone, IsCredit}
use Rattle.element.specs.Fired.{to_half}
use Rattle.element.specs.Near.{IsNearToken, IsNearTo}
use Rattle.element.specs.Parts.{IsSound, bounds}
use Rattle.element.specs.Holding.{Holding, taken, with_part}
use Rattle.element.specs.Changed.{state_in, with_state_in}
use Rattle.element.specs.Acts.{Changes, Acts, ActsAs, FiresAs, IsStuck}
use Rattle.element.proofs.Changing.{slot_same}
use Rattle.element.proofs.Instructing.{instructed, low_slot}
use Rattle.element.proofs.Acting.{acts_none}

-- THE KINDS OF INSTRUCTIONS
pub pair_slot : (i : Instr) (op : Op) → IsPair op → slot_of i op ≡ Some i.slot
pair_slot i (Apply2 op) k = refl
pair_slot i Sync k = refl
pair_slot i Switch k = refl
pair_slot i (Store a) k = refl
pair_slot i (Send b e) k = refl
pair_slot i (Return o) k = refl
pair_slot i (Ask o) k = refl
pair_slot i (Release o) k = refl
pair_slot i op k = absurd k

pub pair_meets : (p : Program) (s : Point) (i : Instr) (op : Op) (slot : SlotState) (port : Port) (w : Word) → IsPair op
    → outcome_of p s i op slot port w ≡ meets p s i slot port w
pair_meets p s i (Apply2 op) slot port w k = refl
pair_meets p s i Sync slot port w k = refl
pair_meets p s i Switch slot port w k = refl
pair_meets p s i (Store a) slot port w k = refl
pair_meets p s i (Send b e) slot port w k = refl
pair_meets p s i (Return o) slot port w k = refl
pair_meets p s i (Ask o) slot port w k = refl
pair_meets p s i (Release o) slot port w k = refl
pair_meets p s i op slot port w k = absurd k

pub lone_slot : (i : Instr) (op : Op) → IsLone op → slot_of i op ≡ None
lone_slot i (Apply1 op) k = refl
lone_slot i (Apply2Right op z) k = refl
lone_slot i (Apply2Left op z) k = refl
lone_slot i (Lit z) k = refl
lone_slot i Copy k = refl
lone_slot i (Fetch a) k = refl
lone_slot i Frame k = refl
lone_slot i (Link b) k = refl
lone_slot i op k = absurd k

pub lone_alone : (p : Program) (s : Point) (i : Instr) (op : Op) (slot : SlotState) (port : Port) (w : Word) → IsLone op
    → outcome_of p s i op slot port w ≡ alone p s i slot port w
lone_alone p s i (Apply1 op) slot port w k = refl
lone_alone p s i (Apply2Right op z) slot port w k = refl
lone_alone p s i (Apply2Left op z) slot port w k = refl
lone_alone p s i (Lit z) slot port w k = refl
lone_alone p s i Copy slot port w k = refl
lone_alone p s i (Fetch a) slot port w k = refl
lone_alone p s i Frame slot port w k = refl
lone_alone p s i (Link b) slot port w k = refl
lone_alone p s i op slot port w k = absurd k

pub credit_slot : (i : Instr) (op : Op) → IsCredit op → slot_of i op ≡ Some i.slot
credit_slot i (Open n) k = refl
credit_slot i (Take n) k = refl
credit_slot i (Give n) k = refl
credit_slot i (Drain n) k = refl
credit_slot i op k = absurd k

-- a copy passes its word on to both destinations
to_two : (s : Point) (w : Word) (a b : Option Dest) → to_each s w (option_to_list a ++ option_to_list b) ≡ to_each s w (option_to_list a)
    ++ to_each s w (option_to_list b)
to_two s w None b = refl
to_two s w (Some d) b = refl

pub copied : (p : Program) (s : Point) (i : ShortInstr) (w : Word) → i.op ≡ Copy → fire_one p s (instr_of i) i.op w
    ≡ Some (to_half s w i.first ++ to_half s w i.second)
copied p s i w is = ap (λ (op : Op). fire_one p s (instr_of i) op w) is ∙ ap (λ (ts : List Token). Some ts) (to_two s w (dest_in i.first) (dest_in i.second))

-- THE RESULT OF A TOKEN
abbrev point : ℕ → ℕ → Point
point f ip = record { frame = f; ip = ip }

module _ (p : Program) (width : ℕ) (old : Holding) (t : Token) (f ip : ℕ) (port : Port) (i : ShortInstr) (r : Option ℕ) (slot : SlotState)
    (sound : IsSound p old.part) (wide : width ≤ old.part.shape.width)
    (to_is : t.to ≡ To.Instr f ip port) (near : IsNearToken (bounds p old.part.shape) t) (addressed : element_of old.part.shape.elements t.to
    ≡ old.part.shape.element) (short : IsShort width ip i)
    (found : instr_at p ip ≡ Some (instr_of i)) (uses : slot_of (instr_of i) i.op ≡ r) (slot_is : slot ≡ state_in old.part f r) where
  there : f < old.part.shape.elements * old.part.shape.frames
  there = subst (λ (to : To). IsNearTo (bounds p old.part.shape) to) to_is near.to

  ours : f % old.part.shape.elements ≡ old.part.shape.element
  ours = subst (λ (to : To). element_of old.part.shape.elements to ≡ old.part.shape.element) to_is addressed

  slot_here : slot ≡ state_in old.part f (slot_of (instr_of i) i.op)
  slot_here = slot_is ∙ ap (λ (q : Option ℕ). state_in old.part f q) (sym uses)

  changed : (v : SlotState) (made : List Token) → outcome_of p (point f ip) (instr_of i) i.op slot port t.word ≡ Becomes v made
      → Changes p old.part t made (with_state_in old.part f r v)
  changed v made comes = subst (λ (q : Option ℕ). Changes p old.part t made (with_state_in old.part f q v)) uses
      (instructed p width old.part t f ip port i v made slot sound wide to_is near addressed short found slot_here comes)

  pub stuck_as : (rule : ℕ) → outcome_of p (point f ip) (instr_of i) i.op slot port t.word ≡ Excluded rule → IsStuck p old.part t rule
  stuck_as rule comes = λ s part.
      let same : slot_in s f (slot_of (instr_of i) i.op) ≡ slot = slot_same p old.part f slot sound ours there (slot_of (instr_of i) i.op) s
      (low_slot (instr_of i) i.op old.part.shape.width (omega (arith, short.slot, wide))) part ∙ sym slot_here in
      let at_slot : excluded_by (outcome_of p (point f ip) (instr_of i) i.op (slot_in s f (slot_of (instr_of i) i.op)) port t.word) ≡ Some rule
      = ap (λ (v : SlotState). excluded_by (outcome_of p (point f ip) (instr_of i) i.op v port t.word)) same ∙ ap (λ (o : Outcome). excluded_by o) comes in
      let here : stuck_rule p s (To.Instr f ip port) t.word ≡ Some rule
      = subst (λ (x : Option Instr). excluded_by (rule_at p (point f ip) x (slot_in s f (slot_used x)) port t.word) ≡ Some rule) (sym found) at_slot in
      subst (λ (to : To). stuck_rule p s to t.word ≡ Some rule) (sym to_is) here

  pub waits_as : (v : SlotState) (at : ℕ) (before : List Token) (new : Holding) → outcome_of p (point f ip) (instr_of i) i.op slot port t.word
      ≡ Becomes v [] → new ≡ taken (with_part old (with_state_in old.part f r v)) at → Acts p old at t before new before
  waits_as v at before new comes e = acts_none p old old new at t (with_state_in old.part f r v) before before refl refl (changed v [] comes) e

  pub fired_as : (v : SlotState) (fired : Option (List Token)) (at : ℕ) (before : List Token) (result : Stepped) (new : Holding) (after : List Token)
      → outcome_of p (point f ip) (instr_of i) i.op slot port t.word ≡ fires v fired
      → FiresAs fired (with_state_in old.part f r v) old at before result new after → ActsAs p old at t before result new after
  fired_as v fired at before Step.Did new after comes (made, e, held, sent) = record {
    made = made;
    part = with_state_in old.part f r v;
    changes = changed v made (comes ∙ ap (λ (o : Option (List Token)). fires v o) e);
    held = held;
    sent = sent;
  }
  fired_as v fired at before (Step.Stuck rule) new after comes (e, four, still) =
      (stuck_as rule (comes ∙ ap (λ (o : Option (List Token)). fires v o) e ∙ ap (λ (n : ℕ). Excluded n) (sym four)), still)
  fired_as v fired at before Step.Memory new after comes still = still
  fired_as v fired at before Step.Idle new after comes bad = absurd bad
  fired_as v fired at before (Step.Clash cell) new after comes bad = absurd bad
