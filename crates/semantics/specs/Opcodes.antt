-- The facts of operations that do not depend on their operand: an operation without it is an opcode. The number of its code and its
-- flag in an object, its word in a listing, and what it requires of an instruction.
use Rattle.std.specs.Prelude.{ℕ, ◌/◌, ◌%◌, ◌^◌, Bool, true, false, ◌&&◌, ◌||◌, ◌==◌, nat_le, if◌then◌else◌, Option, Some, None, is_some, is_none}
use Rattle.std.specs.Prelude.{option_map, ℤ, pos, List, [], ◌∷◌, codes}
use Rattle.std.specs.Str.{bytes_eq}
use Rattle.tags.specs.declared.token.Port.{Port}
use Rattle.tags.specs.declared.token.Port.TheVariants.{Left, Right}
use Rattle.operators.specs.declared.Unary.TheVariants.{Neg, Not}
use Rattle.operators.specs.declared.Binary.{Binary}
use Rattle.operators.specs.declared.Binary.TheVariants.{Add, Sub, Mul, Div, Rem, And, Or, Xor, Shl, Shr, Eq, Ne, Lt, Le}
use Rattle.operators.specs.Values.{binaries, is_division}
use Rattle.semantics.specs.declared.program.Dest.{Dest}
use Rattle.semantics.specs.declared.program.Op.{Op}
use Rattle.semantics.specs.declared.program.Op.TheVariants as ops
use Rattle.semantics.specs.declared.words.Operator.{Operator}
use Rattle.semantics.specs.declared.words.Operator.TheVariants.{One, Two}
use Rattle.semantics.specs.declared.opcode.Opcode.{Opcode}
use Rattle.semantics.specs.declared.opcode.Opcode.TheVariants.{Apply1, Apply2, Apply2Right, Apply2Left, Lit, Copy, Sync, Switch, Fetch, Store}
use Rattle.semantics.specs.declared.opcode.Opcode.TheVariants.{Frame, Link, Send, Return, Ask, Open, Take, Give, Drain, Release}
use Rattle.semantics.specs.Program.{uses_slot}
use Rattle.semantics.specs.Text.{unary_word, binary_word}
use Rattle.semantics.specs.Words.{operator_of}
use Rattle.semantics.specs.Wired.{is_dyadic}

-- FACTS OF AN OPERATION: it may make a fault, and so have an origin
abbrev pub may_fault : Op → Bool
may_fault (ops.Apply2 op) = is_division op
may_fault (ops.Apply2Right op z) = is_division op
may_fault (ops.Apply2Left op z) = is_division op
may_fault (ops.Fetch a) = true
may_fault (ops.Store a) = true
may_fault op = false

-- its first and second destinations get different tokens
abbrev pub has_sides : Op → Bool
has_sides ops.Switch = true
has_sides (ops.Link b) = true
has_sides op = false

-- the operation without its operand
abbrev pub opcode_for : Op → Opcode
opcode_for (ops.Apply1 op) = Apply1 op
opcode_for (ops.Apply2 op) = Apply2 op
opcode_for (ops.Apply2Right op z) = Apply2Right op
opcode_for (ops.Apply2Left op z) = Apply2Left op
opcode_for (ops.Lit z) = Lit
opcode_for ops.Copy = Copy
opcode_for ops.Sync = Sync
opcode_for ops.Switch = Switch
opcode_for (ops.Fetch a) = Fetch
opcode_for (ops.Store a) = Store
opcode_for ops.Frame = Frame
opcode_for (ops.Link b) = Link
opcode_for (ops.Send b e) = Send
opcode_for (ops.Return o) = Return
opcode_for (ops.Ask o) = Ask
opcode_for (ops.Open k) = Open
opcode_for (ops.Take k) = Take
opcode_for (ops.Give k) = Give
opcode_for (ops.Drain k) = Drain
opcode_for (ops.Release o) = Release

-- the operation with its operand, which is a literal's number or another one
abbrev pub with : Opcode → ℕ → ℤ → Op
with (Apply1 op) k z = Op.Apply1 op
with (Apply2 op) k z = Op.Apply2 op
with (Apply2Right op) k z = Op.Apply2Right op z
with (Apply2Left op) k z = Op.Apply2Left op z
with Lit k z = Op.Lit z
with Copy k z = Op.Copy
with Sync k z = Op.Sync
with Switch k z = Op.Switch
with Fetch k z = Op.Fetch (k % 256)
with Store k z = Op.Store (k % 256)
with Frame k z = Op.Frame
with Link k z = Op.Link (k % 65536)
with Send k z = Op.Send (k / 65536 % 65536) (k % 65536)
with Return k z = Op.Return (k % 256)
with Ask k z = Op.Ask (k % 256)
with Open k z = Op.Open (k % 256)
with Take k z = Op.Take (k % 256)
with Give k z = Op.Give (k % 256)
with Drain k z = Op.Drain (k % 256)
with Release k z = Op.Release (k % 256)

-- FACTS OF AN OPCODE are those of its operations
abbrev pub plain : Opcode → Op
plain o = with o 0 (pos 0)

abbrev pub takes_two : Opcode → Bool
takes_two o = is_dyadic (plain o)

abbrev pub takes_slot : Opcode → Bool
takes_slot o = uses_slot (plain o)

abbrev pub makes_faults : Opcode → Bool
makes_faults o = may_fault (plain o)

-- NUMBERS of codes and flags
abbrev pub binary_code : Binary → ℕ
binary_code Add = 1
binary_code Sub = 2
binary_code Mul = 3
binary_code Div = 4
binary_code Rem = 5
binary_code And = 6
binary_code Or = 7
binary_code Xor = 8
binary_code Shl = 9
binary_code Shr = 10
binary_code Eq = 11
binary_code Ne = 12
binary_code Lt = 13
binary_code Le = 14

abbrev pub code_number : Opcode → ℕ
code_number (Apply1 Neg) = 15
code_number (Apply1 Not) = 16
code_number (Apply2 op) = binary_code op
code_number (Apply2Right op) = binary_code op
code_number (Apply2Left op) = binary_code op
code_number Lit = 17
code_number Copy = 18
code_number Sync = 19
code_number Switch = 20
code_number Fetch = 21
code_number Store = 22
code_number Frame = 23
code_number Link = 24
code_number Send = 25
code_number Return = 26
code_number Ask = 27
code_number Open = 28
code_number Take = 29
code_number Give = 30
code_number Drain = 31
code_number Release = 32

abbrev pub flag_number : Opcode → ℕ
flag_number (Apply2Right op) = 1
flag_number (Apply2Left op) = 2
flag_number o = 0

-- the other way round
abbrev pub coded : List Binary → ℕ → Option Binary
coded [] c = None
coded (op ∷ ops) c = if c == binary_code op then Some op else coded ops c

abbrev pub binary_of : ℕ → Option Binary
binary_of c = coded binaries c

abbrev pub flagged : Binary → ℕ → Option Opcode
flagged op f =
    if f == 0 then Some (Apply2 op)
    else if f == 1 then Some (Apply2Right op)
    else if f == 2 then Some (Apply2Left op)
    else None

abbrev pub unflagged : ℕ → Option Opcode
unflagged c =
    if c == 15 then Some (Apply1 Neg)
    else if c == 16 then Some (Apply1 Not)
    else if c == 17 then Some Lit
    else if c == 18 then Some Copy
    else if c == 19 then Some Sync
    else if c == 20 then Some Switch
    else if c == 21 then Some Fetch
    else if c == 22 then Some Store
    else if c == 23 then Some Frame
    else if c == 24 then Some Link
    else if c == 25 then Some Send
    else if c == 26 then Some Return
    else if c == 27 then Some Ask
    else if c == 28 then Some Open
    else if c == 29 then Some Take
    else if c == 30 then Some Give
    else if c == 31 then Some Drain
    else if c == 32 then Some Release
    else None

abbrev pub opcode_from : Option Binary → ℕ → ℕ → Option Opcode
opcode_from (Some op) c f = flagged op f
opcode_from None c f = if f == 0 then unflagged c else None

-- what an opcode and its flag say, if they exist
unfoldable pub opcode_of : ℕ → ℕ → Option Opcode
opcode_of c f = opcode_from (binary_of c) c f

-- WORDS
abbrev pub opcode_word : Opcode → List ℕ
opcode_word (Apply1 op) = unary_word op
opcode_word (Apply2 op) = binary_word op
opcode_word (Apply2Right op) = binary_word op
opcode_word (Apply2Left op) = binary_word op
opcode_word Lit = codes "lit"
opcode_word Copy = codes "copy"
opcode_word Sync = codes "sync"
opcode_word Switch = codes "switch"
opcode_word Fetch = codes "fetch"
opcode_word Store = codes "store"
opcode_word Frame = codes "frame"
opcode_word Link = codes "link"
opcode_word Send = codes "send"
opcode_word Return = codes "return"
opcode_word Ask = codes "ask"
opcode_word Open = codes "open"
opcode_word Take = codes "take"
opcode_word Give = codes "give"
opcode_word Drain = codes "drain"
opcode_word Release = codes "release"

-- the word of an operation
abbrev pub op_word : Op → List ℕ
op_word op = opcode_word (opcode_for op)

-- those that are no operator
abbrev pub other_opcodes : List Opcode
other_opcodes = Lit ∷ Copy ∷ Sync ∷ Switch ∷ Fetch ∷ Store ∷ Frame ∷ Link ∷ Send ∷ Return ∷ Ask ∷ Open ∷ Take ∷ Give ∷ Drain ∷ Release ∷ []

abbrev pub with_operator : Operator → Opcode
with_operator (One op) = Apply1 op
with_operator (Two op) = Apply2 op

-- the one of these that has the word, or else what is given
abbrev pub opcode_among : List Opcode → Option Opcode → List ℕ → Option Opcode
opcode_among [] otherwise w = otherwise
opcode_among (o ∷ os) otherwise w = if bytes_eq w (opcode_word o) then Some o else opcode_among os otherwise w

unfoldable pub operator_named : List ℕ → Option Opcode
operator_named w = option_map with_operator (operator_of w)

-- The opcode that has the word: that of an operator takes both operands from tokens.
unfoldable pub opcode_named : List ℕ → Option Opcode
opcode_named w = opcode_among other_opcodes (operator_named w) w

-- WHAT AN OPCODE REQUIRES of an operand and of destinations
abbrev pub is_bound : ℕ → Bool
is_bound k = nat_le 2 k && nat_le k 64

abbrev pub may_have : Opcode → ℕ → Bool
may_have Open k = is_bound k
may_have Take k = is_bound k
may_have Give k = is_bound k
may_have Drain k = is_bound k
may_have (Apply1 op) k = k == 0
may_have (Apply2 op) k = k == 0
may_have Copy k = k == 0
may_have Sync k = k == 0
may_have Switch k = k == 0
may_have Frame k = k == 0
may_have o k = true

abbrev pub is_left : Port → Bool
is_left Left = true
is_left Right = false

abbrev pub goes_left : Option Dest → Bool
goes_left None = false
goes_left (Some d) = is_left d.port

abbrev pub may_go_to : Opcode → Option Dest → Option Dest → Bool
may_go_to Fetch d e = is_some d && is_none e
may_go_to Store d e = is_some d && is_none e
may_go_to Frame d e = is_some d && is_none e
may_go_to Ask d e = is_some d && is_none e
may_go_to Link d e = goes_left d
may_go_to Take d e = is_none d && is_none e
may_go_to Release d e = is_none d && is_none e
may_go_to Give d e = is_none e
may_go_to Drain d e = is_none e
may_go_to Switch d e = true
may_go_to o d e = is_some d || is_none e
