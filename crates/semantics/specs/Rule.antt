-- What an instruction does with a token: the slot after it and the tokens that it makes, or the first rule that excludes
-- the token.
use Rattle.std.specs.Prelude.{ℕ, zero, suc, ◌+◌, ◌-◌, pos, List, [], ◌∷◌, ◌++◌, map, sum, take, Option, Some, None, nat_lt, ◌==◌, slice_index_or, if◌then◌else◌}
use Rattle.tags.specs.declared.value.Value.{Value}
use Rattle.tags.specs.declared.value.Value.TheVariants.{Int}
use Rattle.tags.specs.declared.token.Port.{Port}
use Rattle.tags.specs.declared.token.Port.TheVariants.{Left, Right}
use Rattle.tags.specs.declared.token.Cont.{Cont}
use Rattle.tags.specs.declared.token.Word.{Word}
use Rattle.tags.specs.declared.token.To.{To}
use Rattle.tags.specs.declared.token.Token.{Token}
use Rattle.tags.specs.declared.slot.SlotState.{SlotState}
use Rattle.tags.specs.declared.slot.SlotState.TheVariants as Slot
use Rattle.tags.specs.declared.slot.SlotState.TheVariants.{Empty, Credits, Waiter, Draining}
use Rattle.operators.specs.Values.{truth, apply1, apply2, Indexed, Place, Outside, index_in}
use Rattle.semantics.specs.declared.program.Dest.{Dest}
use Rattle.semantics.specs.declared.program.Op.{Op}
use Rattle.semantics.specs.declared.program.Op.TheVariants.{Apply1, Apply2, Apply2Right, Apply2Left, Lit, Copy, Sync, Switch, Fetch, Store, Frame}
use Rattle.semantics.specs.declared.program.Op.TheVariants.{Link, Send, Return, Ask, Open, Take, Give, Drain, Release}
use Rattle.semantics.specs.Program.{Instr, Program, first_of}

abbrev pub token : To → Word → Token
token to word = record { to = to; word = word }

-- what only signals that something happened
abbrev pub signal : Word
signal = Word.Val (Int (pos 0))

-- where an instruction is: the frame and the instruction's number
pub record Point : Type 0 where
  pub frame : ℕ
  pub ip : ℕ

abbrev pub at_dest : Point → Word → Dest → Token
at_dest s w d = token (To.Instr s.frame (s.ip + d.ahead) d.port) w

abbrev pub to_each : Point → Word → List Dest → List Token
to_each s w ds = map (at_dest s w) ds

abbrev pub to_all : Point → Word → Instr → List Token
to_all s w i = to_each s w (i.firsts ++ i.seconds)

-- a continuation moved on by an offset
abbrev pub beyond : Cont → ℕ → To
beyond (Cont.Frame f ip p) o = To.Instr f (ip + o) Left
beyond (Cont.Host p) o = To.Host (p + o)

-- a continuation itself
abbrev pub back_to : Cont → To
back_to (Cont.Frame f ip p) = To.Instr f ip p
back_to (Cont.Host p) = To.Host p

-- where an answer goes: the first destination. An instruction that is answered has one.
abbrev pub answer_to : Point → List Dest → Cont
answer_to s [] = Cont.Frame s.frame s.ip Left
answer_to s (d ∷ ds) = Cont.Frame s.frame (s.ip + d.ahead) d.port

-- where a link's landing begins: always at a left port
abbrev pub landing_at : Point → List Dest → Cont
landing_at s [] = Cont.Frame s.frame s.ip Left
landing_at s (d ∷ ds) = Cont.Frame s.frame (s.ip + d.ahead) Left

-- the result of a token: it waits in the slot, it makes the instruction fire, or a rule excludes it
pub data Outcome : Type 0 where
  Becomes : (slot : SlotState) (made : List Token) → Outcome
  Excluded : (rule : ℕ) → Outcome

abbrev pub fires : SlotState → Option (List Token) → Outcome
fires s None = Excluded 4
fires s (Some made) = Becomes s made

abbrev pub array_base : Program → ℕ → ℕ
array_base p a = sum (take a p.arrays)

abbrev pub array_len : Program → ℕ → ℕ
array_len p a = slice_index_or p.arrays a 0

abbrev pub asks_for : Program → Point → Instr → ℕ → Indexed → List Token
asks_for p s i a (Outside v) = to_each s (Word.Val v) (take 1 i.firsts)
asks_for p s i a (Place x) = token (To.Fetch (array_base p a + x)) (Word.Back (answer_to s i.firsts)) ∷ []

abbrev pub puts : Program → Point → Instr → ℕ → Value → Indexed → List Token
puts p s i a v (Outside w) = to_each s (Word.Val w) (take 1 i.firsts)
puts p s i a v (Place x) = token (To.Store (array_base p a + x) v) (Word.Back (answer_to s i.firsts)) ∷ []

-- a monadic instruction and its word: what it makes, if the word is of the kind that it wants
abbrev pub fire_one : Program → Point → Instr → Op → Word → Option (List Token)
fire_one p s i (Apply1 op) (Word.Val v) = Some (to_all s (Word.Val (apply1 op v)) i)
fire_one p s i (Apply2Right op z) (Word.Val v) = Some (to_all s (Word.Val (apply2 op v (Int z) i.origin)) i)
fire_one p s i (Apply2Left op z) (Word.Val v) = Some (to_all s (Word.Val (apply2 op (Int z) v i.origin)) i)
fire_one p s i (Lit z) w = Some (to_all s (Word.Val (Int z)) i)
fire_one p s i Copy w = Some (to_all s w i)
fire_one p s i (Fetch a) (Word.Val v) = Some (asks_for p s i a (index_in (array_len p a) v i.origin))
fire_one p s i Frame w = Some (token To.Manager (Word.Back (answer_to s i.firsts)) ∷ [])
fire_one p s i (Link b) (Word.Frame f) = Some (token (To.Instr f (first_of p b) Left) (Word.Back (landing_at s i.firsts)) ∷ to_each s signal i.seconds)
fire_one p s i op w = None

-- a dyadic instruction and its two words
abbrev pub fire_two : Program → Point → Instr → Op → Word → Word → Option (List Token)
fire_two p s i (Apply2 op) (Word.Val v) (Word.Val w) = Some (to_all s (Word.Val (apply2 op v w i.origin)) i)
fire_two p s i Sync l r = Some (to_all s signal i)
fire_two p s i Switch l (Word.Val v) = Some (to_each s l (if truth v then i.firsts else i.seconds))
fire_two p s i (Store a) (Word.Val v) (Word.Val w) = Some (puts p s i a w (index_in (array_len p a) v i.origin))
fire_two p s i (Send b e) (Word.Frame f) w = Some (token (To.Instr f (first_of p b + e) Left) w ∷ to_all s signal i)
fire_two p s i (Return o) (Word.Back c) (Word.Val v) = Some (token (beyond c o) (Word.Val v) ∷ to_all s signal i)
fire_two p s i (Ask o) (Word.Back c) w = Some (token (beyond c o) (Word.Back (answer_to s i.firsts)) ∷ [])
fire_two p s i (Release o) (Word.Back c) w = Some (token (To.Release s.frame) signal ∷ token (beyond c o) signal ∷ [])
fire_two p s i op l r = None

abbrev pub meets : Program → Point → Instr → SlotState → Port → Word → Outcome
meets p s i Empty Left w = Becomes (Slot.Left w) []
meets p s i Empty Right w = Becomes (Slot.Right w) []
meets p s i (Slot.Left l) Right r = fires Empty (fire_two p s i i.op l r)
meets p s i (Slot.Right r) Left l = fires Empty (fire_two p s i i.op l r)
meets p s i slot port w = Excluded 3

-- the credits of a loop
abbrev pub signal_to : Cont → List Token
signal_to c = token (back_to c) signal ∷ []

abbrev pub opens : Point → Instr → ℕ → SlotState → Outcome
opens s i k Empty = Becomes (Credits (k - 1)) (to_all s signal i)
opens s i k slot = Excluded 3

abbrev pub takes : SlotState → Word → Outcome
takes (Credits zero) (Word.Back c) = Becomes (Waiter c) []
takes (Credits (suc n)) (Word.Back c) = Becomes (Credits n) (signal_to c)
takes (Credits n) w = Excluded 4
takes slot w = Excluded 3

abbrev pub gives : Point → Instr → ℕ → SlotState → Outcome
gives s i k (Credits n) = if nat_lt n k then Becomes (Credits (n + 1)) [] else Excluded 3
gives s i k (Waiter c) = Becomes (Credits 0) (signal_to c)
gives s i k (Draining zero) = Excluded 3
gives s i k (Draining (suc zero)) = Becomes Empty (to_all s signal i)
gives s i k (Draining (suc (suc n))) = Becomes (Draining (suc n)) []
gives s i k slot = Excluded 3

abbrev pub drains : Point → Instr → ℕ → SlotState → Outcome
drains s i k (Credits n) = if n == k then Becomes Empty (to_all s signal i) else if nat_lt n k then Becomes (Draining (k - n)) [] else Excluded 3
drains s i k slot = Excluded 3

-- an instruction with one input takes no right token and leaves the slot alone
abbrev pub alone : Program → Point → Instr → SlotState → Port → Word → Outcome
alone p s i slot Left w = fires slot (fire_one p s i i.op w)
alone p s i slot Right w = Excluded 2

abbrev pub on_left : Port → Outcome → Outcome
on_left Left o = o
on_left Right o = Excluded 2

abbrev pub outcome_of : Program → Point → Instr → Op → SlotState → Port → Word → Outcome
outcome_of p s i (Apply2 op) slot port w = meets p s i slot port w
outcome_of p s i Sync slot port w = meets p s i slot port w
outcome_of p s i Switch slot port w = meets p s i slot port w
outcome_of p s i (Store a) slot port w = meets p s i slot port w
outcome_of p s i (Send b e) slot port w = meets p s i slot port w
outcome_of p s i (Return o) slot port w = meets p s i slot port w
outcome_of p s i (Ask o) slot port w = meets p s i slot port w
outcome_of p s i (Release o) slot port w = meets p s i slot port w
outcome_of p s i (Open k) slot port w = on_left port (opens s i k slot)
outcome_of p s i (Take k) slot port w = on_left port (takes slot w)
outcome_of p s i (Give k) slot port w = on_left port (gives s i k slot)
outcome_of p s i (Drain k) slot port w = on_left port (drains s i k slot)
outcome_of p s i op slot port w = alone p s i slot port w

abbrev pub rule_at : Program → Point → Option Instr → SlotState → Port → Word → Outcome
rule_at p s None slot port w = Excluded 1
rule_at p s (Some i) slot port w = outcome_of p s i i.op slot port w

-- the slot that an instruction uses, if it uses one
abbrev pub slot_of : Instr → Op → Option ℕ
slot_of i (Apply2 op) = Some i.slot
slot_of i Sync = Some i.slot
slot_of i Switch = Some i.slot
slot_of i (Store a) = Some i.slot
slot_of i (Send b e) = Some i.slot
slot_of i (Return o) = Some i.slot
slot_of i (Ask o) = Some i.slot
slot_of i (Release o) = Some i.slot
slot_of i (Open k) = Some i.slot
slot_of i (Take k) = Some i.slot
slot_of i (Give k) = Some i.slot
slot_of i (Drain k) = Some i.slot
slot_of i op = None
