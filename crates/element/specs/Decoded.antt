-- A decoded instruction as one of the definitions.
use Rattle.std.specs.Prelude.{ℕ, ◌-◌, ◌/◌, ◌%◌, ◌<◌, ◌^◌, ◌==◌, if◌then◌else◌, Option, Some, None, IfSome, option_to_list, ⊤}
use Rattle.tags.specs.declared.token.Port.{Port}
use Rattle.tags.specs.declared.token.Port.TheVariants.{Left, Right}
use Rattle.tags.specs.declared.value.Origin.{Origin}
use Rattle.tags.specs.declared.value.Origin.TheVariants.{Untold, At}
use Rattle.semantics.specs.declared.program.Dest.{Dest}
use Rattle.semantics.specs.declared.program.Op.{Op}
use Rattle.semantics.specs.declared.program.Op.TheVariants.{Apply1, Apply2, Apply2Right, Apply2Left, Lit, Copy, Sync, Switch, Fetch, Store, Frame}
use Rattle.semantics.specs.declared.program.Op.TheVariants.{Link, Send, Return, Ask, Open, Take, Give, Drain, Release}
use Rattle.semantics.specs.Program.{Instr}
use Rattle.element.specs.Short.{ShortInstr}

abbrev pub port_in : ℕ → Port
port_in b = if b == 0 then Left else Right

-- the destination in a half word: 15 bits of a displacement, which is 0 where there is none, and a port
abbrev pub dest_in : ℕ → Option Dest
dest_in h = if h % 2 ^ 15 == 0 then None else Some record { ahead = h % 2 ^ 15; port = port_in (h / 2 ^ 15) }

-- the origin of a number
abbrev pub origin_in : ℕ → Origin
origin_in n = if n == 0 then Untold else At ((n - 1) / 1024 % 256) ((n - 1) % 1024)

abbrev pub instr_of : ShortInstr → Instr
instr_of i = record {
  op = i.op;
  origin = origin_in i.origin;
  slot = i.slot;
  firsts = option_to_list (dest_in i.first);
  seconds = option_to_list
      (dest_in i.second);
}

-- its numbers leave room for sums
pub record IsShort (width ip : ℕ) (i : ShortInstr) : Type 0 where
  pub near : ip < 2 ^ 30
  pub slot : i.slot < width
  pub first : IfSome (dest_in i.first) (λ (d : Dest). d.ahead < 2 ^ 30)
  pub second : IfSome (dest_in i.second) (λ (d : Dest). d.ahead < 2 ^ 30)

-- it has two inputs
abbrev pub IsPair : Op → Type 0
IsPair (Apply2 op) = ⊤
IsPair Sync = ⊤
IsPair Switch = ⊤
IsPair (Store a) = ⊤
IsPair (Send b e) = ⊤
IsPair (Return o) = ⊤
IsPair (Ask o) = ⊤
IsPair (Release o) = ⊤
IsPair op = ⊥

-- it has one input and no slot
abbrev pub IsLone : Op → Type 0
IsLone (Apply1 op) = ⊤
IsLone (Apply2Right op z) = ⊤
IsLone (Apply2Left op z) = ⊤
IsLone (Lit z) = ⊤
IsLone Copy = ⊤
IsLone (Fetch a) = ⊤
IsLone Frame = ⊤
IsLone (Link b) = ⊤
IsLone op = ⊥

-- it keeps the credits of a loop
abbrev pub IsCredit : Op → Type 0
IsCredit (Open k) = ⊤
IsCredit (Take k) = ⊤
IsCredit (Give k) = ⊤
IsCredit (Drain k) = ⊤
IsCredit op = ⊥
