-- What a word says: the name of an operation, an operand, a slot, a destination, an origin.
use Rattle.std.specs.Prelude.{ℕ, ◌==◌, ◌-◌, nat_lt, Bool, true, false, ℤ, List, [], ◌∷◌, length, take, slice_index, Option, Some, None, option_map}
use Rattle.std.specs.Prelude.{codes, if◌then◌else◌}
use Rattle.std.specs.Str.{bytes_eq}
use Rattle.tags.specs.declared.token.Port.{Port}
use Rattle.tags.specs.declared.token.Port.TheVariants.{Left, Right}
use Rattle.tags.specs.declared.value.Origin.{Origin}
use Rattle.tags.specs.declared.value.Origin.TheVariants.{At}
use Rattle.operators.specs.declared.Binary.{Binary}
use Rattle.semantics.specs.declared.program.Dest.{Dest}
use Rattle.semantics.specs.declared.program.Op.{Op}
use Rattle.semantics.specs.declared.program.Op.TheVariants as ops
use Rattle.graph_file.specs.Lines.{parts}
use Rattle.graph_file.specs.Fields.{number_of, literal_of}
use Rattle.semantics.specs.declared.opcode.Opcode.{Opcode}
use Rattle.semantics.specs.declared.opcode.Opcode.TheVariants.{Apply1, Apply2, Apply2Right, Apply2Left, Lit, Copy, Sync, Switch, Fetch, Store}
use Rattle.semantics.specs.declared.opcode.Opcode.TheVariants.{Frame, Link, Send, Return, Ask, Open, Take, Give, Drain, Release}

-- SMALL PARTS
abbrev pub then_some : {A B : Type 0} → Option A → (A → Option B) → Option B
then_some None f = None
then_some (Some x) f = f x

-- what follows a byte at the front
unfoldable pub tagged : ℕ → List ℕ → Option (List ℕ)
tagged tag [] = None
tagged tag (b ∷ bs) = if b == tag then Some bs else None

abbrev pub below : ℕ → Option ℕ → Option ℕ
below limit None = None
below limit (Some n) = if nat_lt n limit then Some n else None

unfoldable pub small_of : List ℕ → Option ℕ
small_of w = below 256 (number_of w)

unfoldable pub wide_of : List ℕ → Option ℕ
wide_of w = below 65536 (number_of w)

unfoldable pub small_behind : ℕ → List ℕ → Option ℕ
small_behind tag w = then_some (tagged tag w) small_of

unfoldable pub wide_behind : ℕ → List ℕ → Option ℕ
wide_behind tag w = then_some (tagged tag w) wide_of

-- a literal after `#`
unfoldable pub literal_behind : List ℕ → Option ℤ
literal_behind w = then_some (tagged 35 w) literal_of

-- a literal after `r#` or `l#`
unfoldable pub side_behind : ℕ → List ℕ → Option ℤ
side_behind tag w = then_some (tagged tag w) literal_behind

-- OPERANDS
unfoldable pub no_operand : Op → List ℕ → Option Op
no_operand op w = if bytes_eq w (codes "-") then Some op else None

abbrev pub sided : Binary → Option ℤ → Option ℤ → Option Op
sided op (Some z) l = Some (ops.Apply2Right op z)
sided op None (Some z) = Some (ops.Apply2Left op z)
sided op None None = None

unfoldable pub binary_from : Binary → List ℕ → Option Op
binary_from op w = if bytes_eq w (codes "-") then Some (ops.Apply2 op) else sided op (side_behind 114 w) (side_behind 108 w)

abbrev pub pair_of : Option ℕ → Option ℕ → Option (ℕ × ℕ)
pair_of None n = None
pair_of (Some m) None = None
pair_of (Some m) (Some n) = Some (m, n)

abbrev pub entry_parts : List (List ℕ) → Option (ℕ × ℕ)
entry_parts [] = None
entry_parts (b ∷ []) = None
entry_parts (b ∷ e ∷ []) = pair_of (wide_of b) (wide_of e)
entry_parts (b ∷ e ∷ p ∷ ps) = None

-- `B.E`
unfoldable pub entry_of : List ℕ → Option (ℕ × ℕ)
entry_of w = entry_parts (parts 46 w)

unfoldable pub entry_behind : List ℕ → Option (ℕ × ℕ)
entry_behind w = then_some (tagged 98 w) entry_of

-- The operation of that opcode, which a word names, with the operand that the word says. No word says that an operand is a literal.
unfoldable pub op_of : Opcode → List ℕ → Option Op
op_of (Apply1 op) w = no_operand (ops.Apply1 op) w
op_of (Apply2 op) w = binary_from op w
op_of (Apply2Right op) w = None
op_of (Apply2Left op) w = None
op_of Lit w = option_map ops.Lit (literal_behind w)
op_of Copy w = no_operand ops.Copy w
op_of Sync w = no_operand ops.Sync w
op_of Switch w = no_operand ops.Switch w
op_of Fetch w = option_map ops.Fetch (small_behind 97 w)
op_of Store w = option_map ops.Store (small_behind 97 w)
op_of Frame w = no_operand ops.Frame w
op_of Link w = option_map ops.Link (wide_behind 98 w)
op_of Send w = option_map (λ (p : ℕ × ℕ). ops.Send p.0 p.1) (entry_behind w)
op_of Return w = option_map ops.Return (small_behind 111 w)
op_of Ask w = option_map ops.Ask (small_behind 111 w)
op_of Open w = option_map ops.Open (small_behind 107 w)
op_of Take w = option_map ops.Take (small_behind 107 w)
op_of Give w = option_map ops.Give (small_behind 107 w)
op_of Drain w = option_map ops.Drain (small_behind 107 w)
op_of Release w = option_map ops.Release (small_behind 111 w)

-- SLOTS
-- There is a slot where the operation uses one, and else `-`.
unfoldable pub slot_from : Bool → List ℕ → Option ℕ
slot_from true w = number_of w
slot_from false w = if bytes_eq w (codes "-") then Some 0 else None

-- DESTINATIONS
abbrev pub dest_to : Port → Option ℕ → Option (Option Dest)
dest_to port None = None
dest_to port (Some n) = Some (Some record { ahead = n; port = port })

-- what is before the last byte, and the last byte
abbrev pub dest_parts : List ℕ → ℕ → Option (Option Dest)
dest_parts digits last = if last == 108 then dest_to Left (number_of digits) else if last == 114 then dest_to Right (number_of digits) else None

-- after the `+`
unfoldable pub dest_behind : List ℕ → Option (Option Dest)
dest_behind w = dest_parts (take (length w - 1) w) (slice_index w (length w - 1))

-- `-`, or `+`, a number and `l` or `r`
unfoldable pub dest_of : List ℕ → Option (Option Dest)
dest_of w = if bytes_eq w (codes "-") then Some None else then_some (tagged 43 w) dest_behind

-- ORIGINS
unfoldable pub node_of : List ℕ → Option ℕ
node_of w = below 1024 (number_of w)

abbrev pub place_of : Option ℕ → Option ℕ → Option Origin
place_of None n = None
place_of (Some b) None = None
place_of (Some b) (Some n) = Some (At b n)

abbrev pub place_parts : List (List ℕ) → Option Origin
place_parts [] = None
place_parts (b ∷ []) = None
place_parts (b ∷ n ∷ []) = place_of (small_of b) (node_of n)
place_parts (b ∷ n ∷ p ∷ ps) = None

-- `B.N`
unfoldable pub place_in : List ℕ → Option Origin
place_in w = place_parts (parts 46 w)

-- `@B.N`
unfoldable pub origin_of : List ℕ → Option Origin
origin_of w = then_some (tagged 64 w) place_in
