-- A word that is written is read again: operands, slots, destinations and origins.
use Rattle.std.proofs.Common.{◌≡◌, ℕ, ◌+◌, ◌-◌, ◌^◌, ◌<◌, ◌≤◌, eqb, true, false, List, [], ◌∷◌, ◌++◌, length, get_or, Option, Some, None, Ok, ℤ}
use Rattle.std.proofs.Common.{refl, sym, ap, ◌∙◌, arith}
use Rattle.std.specs.Prelude.{⊤, codes, option_to_list}
use Rattle.std.specs.Int.{w64}
use Rattle.std.specs.Int.RustNames.{FitsSigned}
use Rattle.std.specs.Fmt.{decimal}
use Rattle.std.proofs.lemmas.Bool.{lt-ltb, eq-eqb}
use Rattle.std.proofs.lemmas.List.Splits.{slice_split_none, slice_split_at}
use Rattle.lemmas.proofs.Lists.{front_of, last_of}
use Rattle.tags.specs.declared.token.Port.{Port}
use Rattle.tags.specs.declared.token.Port.TheVariants.{Left, Right}
use Rattle.tags.specs.declared.value.Origin.{Origin}
use Rattle.tags.specs.declared.value.Origin.TheVariants.{Untold, At}
use Rattle.operators.specs.declared.Unary.{Unary}
use Rattle.operators.specs.declared.Unary.TheVariants.{Neg, Not}
use Rattle.operators.specs.declared.Binary.{Binary}
use Rattle.semantics.specs.declared.program.Dest.{Dest}
use Rattle.semantics.specs.declared.program.Op.{Op}
use Rattle.semantics.specs.declared.program.Op.TheVariants as ops
use Rattle.semantics.specs.Program.{Instr, CodeBlock, uses_slot}
use Rattle.semantics.specs.Rule.{slot_of}
use Rattle.semantics.specs.Words.{operator_of as operators_of}
use Rattle.semantics.specs.Text.{literal, unary_word, binary_word}
use Rattle.semantics.specs.Bytes.{IsSlot}
use Rattle.disassembler.specs.Listing.{slot_text, port_letter, dest_text, operand_text}
use Rattle.disassembler.specs.Listing as Listing
use Rattle.graph_file.specs.Lines.{parts}
use Rattle.graph_file.specs.Fields.{number_of, literal_of}
use Rattle.graph_file.proofs.Marks.{number_again, literal_again, decimal_no_dot}
use Rattle.semantics.proofs.OperatorWords.{named_by}
use Rattle.assembler.specs.Grammar.{origin_words}
use Rattle.assembler.specs.Fields.{then_some, tagged, below, small_of, wide_of, small_behind, wide_behind, literal_behind, side_behind, no_operand}
use Rattle.assembler.specs.Fields.{sided, binary_from, pair_of, entry_parts, entry_of, entry_behind, op_of, slot_from, dest_to, dest_parts}
use Rattle.assembler.specs.Fields.{dest_behind, dest_of, node_of, place_of, place_parts, place_in, origin_of}
use Rattle.assembler.specs.Lines.{origin_from}
use Rattle.assembler.proofs.Spelled.{dotted, send_text, at_text}

-- ---- small parts
tagged_again : (c : ℕ) (r : List ℕ) → tagged c (c ∷ r) ≡ Some r
unfolding tagged
tagged_again c r = rw (eq-eqb c c refl) refl

below_again : (limit : ℕ) (o : Option ℕ) (n : ℕ) → o ≡ Some n → n < limit → below limit o ≡ Some n
below_again limit o n e h = ap (below limit) e ∙ rw (lt-ltb n limit h) refl

small_again : (n : ℕ) → n < 256 → small_of (decimal n) ≡ Some n
unfolding small_of
small_again n h = below_again 256 (number_of (decimal n)) n (number_again n (omega arith)) h

wide_again : (n : ℕ) → n < 65536 → wide_of (decimal n) ≡ Some n
unfolding wide_of
wide_again n h = below_again 65536 (number_of (decimal n)) n (number_again n (omega arith)) h

node_again : (n : ℕ) → n < 1024 → node_of (decimal n) ≡ Some n
unfolding node_of
node_again n h = below_again 1024 (number_of (decimal n)) n (number_again n (omega arith)) h

small_behind_again : (c n : ℕ) → n < 256 → small_behind c (c ∷ decimal n) ≡ Some n
unfolding small_behind
small_behind_again c n h = ap (λ (o : Option (List ℕ)). then_some o small_of) (tagged_again c (decimal n)) ∙ small_again n h

wide_behind_again : (c n : ℕ) → n < 65536 → wide_behind c (c ∷ decimal n) ≡ Some n
unfolding wide_behind
wide_behind_again c n h = ap (λ (o : Option (List ℕ)). then_some o wide_of) (tagged_again c (decimal n)) ∙ wide_again n h

literal_behind_again : (z : ℤ) → FitsSigned w64 z → literal_behind (35 ∷ literal z) ≡ Some z
unfolding literal_behind
literal_behind_again z h = ap (λ (o : Option (List ℕ)). then_some o literal_of) (tagged_again 35 (literal z)) ∙ literal_again z h

side_again : (c : ℕ) (z : ℤ) → FitsSigned w64 z → side_behind c (c ∷ 35 ∷ literal z) ≡ Some z
unfolding side_behind
side_again c z h = ap (λ (o : Option (List ℕ)). then_some o literal_behind) (tagged_again c (35 ∷ literal z)) ∙ literal_behind_again z h

-- ---- operands
right_again : (op : Binary) (z : ℤ) → FitsSigned w64 z → binary_from op (114 ∷ 35 ∷ literal z) ≡ Some (ops.Apply2Right op z)
unfolding binary_from
right_again op z h = ap (λ (o : Option ℤ). sided op o (side_behind 108 (114 ∷ 35 ∷ literal z))) (side_again 114 z h)

not_right : (w : List ℕ) → side_behind 114 (108 ∷ w) ≡ None
unfolding side_behind tagged
not_right w = refl

left_again : (op : Binary) (z : ℤ) → FitsSigned w64 z → binary_from op (108 ∷ 35 ∷ literal z) ≡ Some (ops.Apply2Left op z)
unfolding binary_from
left_again op z h = ap (λ (o : Option ℤ). sided op o (side_behind 108 (108 ∷ 35 ∷ literal z))) (not_right (35 ∷ literal z))
    ∙ ap (λ (o : Option ℤ). sided op None o) (side_again 108 z h)

plain_again : (op : Binary) → binary_from op (codes "-") ≡ Some (ops.Apply2 op)
unfolding binary_from
plain_again op = refl

none_again : (op : Op) → no_operand op (codes "-") ≡ Some op
unfolding no_operand
none_again op = refl

two_parts : (b n : ℕ) → b < 2 ^ 32 → n < 2 ^ 32 → parts 46 (dotted b n) ≡ decimal b ∷ decimal n ∷ []
two_parts b n h k =
    let first : parts 46 (dotted b n) ≡ decimal b ∷ parts 46 (decimal n) = slice_split_at (λ c. eqb c 46) (decimal b) 46 (decimal n)
    (decimal_no_dot b (omega arith)) refl in
    let second : parts 46 (decimal n) ≡ decimal n ∷ [] = slice_split_none (λ c. eqb c 46) (decimal n) (decimal_no_dot n (omega arith)) in
    first ∙ ap (λ (ps : List (List ℕ)). decimal b ∷ ps) second

entry_again : (b e : ℕ) → b < 65536 → e < 65536 → entry_of (dotted b e) ≡ Some (b, e)
unfolding entry_of
entry_again b e h k =
    ap entry_parts (two_parts b e (omega arith) (omega arith))
    ∙ ap (λ (o : Option ℕ). pair_of o (wide_of (decimal e))) (wide_again b h) ∙ ap (λ (o : Option ℕ). pair_of (Some b) o) (wide_again e k)

entry_behind_again : (b e : ℕ) → b < 65536 → e < 65536 → entry_behind (operand_text (ops.Send b e)) ≡ Some (b, e)
unfolding entry_behind
entry_behind_again b e h k =
    ap (λ (w : List ℕ). then_some (tagged 98 w) entry_of) (send_text b e)
    ∙ ap (λ (o : Option (List ℕ)). then_some o entry_of) (tagged_again 98 (dotted b e)) ∙ entry_again b e h k

-- whether the operand's text says it all
abbrev pub HasRoom : Op → Type 0
HasRoom (ops.Apply2Right op z) = FitsSigned w64 z
HasRoom (ops.Apply2Left op z) = FitsSigned w64 z
HasRoom (ops.Lit z) = FitsSigned w64 z
HasRoom (ops.Fetch a) = a < 256
HasRoom (ops.Store a) = a < 256
HasRoom (ops.Link b) = b < 65536
HasRoom (ops.Send b e) = (b < 65536) × (e < 65536)
HasRoom (ops.Return o) = o < 256
HasRoom (ops.Ask o) = o < 256
HasRoom (ops.Release o) = o < 256
HasRoom (ops.Open k) = k < 256
HasRoom (ops.Take k) = k < 256
HasRoom (ops.Give k) = k < 256
HasRoom (ops.Drain k) = k < 256
HasRoom op = ⊤

pub op_again : (op : Op) → HasRoom op → op_of (named_by op) (operand_text op) ≡ Some op
unfolding op_of
op_again (ops.Apply1 op) h = none_again (ops.Apply1 op)
op_again (ops.Apply2 op) h = plain_again op
op_again (ops.Apply2Right op z) h = right_again op z h
op_again (ops.Apply2Left op z) h = left_again op z h
op_again (ops.Lit z) h = rw (literal_behind_again z h) refl
op_again ops.Copy h = none_again ops.Copy
op_again ops.Sync h = none_again ops.Sync
op_again ops.Switch h = none_again ops.Switch
op_again (ops.Fetch a) h = rw (small_behind_again 97 a h) refl
op_again (ops.Store a) h = rw (small_behind_again 97 a h) refl
op_again ops.Frame h = none_again ops.Frame
op_again (ops.Link b) h = rw (wide_behind_again 98 b h) refl
op_again (ops.Send b e) h = rw (entry_behind_again b e h.0 h.1) refl
op_again (ops.Return o) h = rw (small_behind_again 111 o h) refl
op_again (ops.Ask o) h = rw (small_behind_again 111 o h) refl
op_again (ops.Open k) h = rw (small_behind_again 107 k h) refl
op_again (ops.Take k) h = rw (small_behind_again 107 k h) refl
op_again (ops.Give k) h = rw (small_behind_again 107 k h) refl
op_again (ops.Drain k) h = rw (small_behind_again 107 k h) refl
op_again (ops.Release o) h = rw (small_behind_again 111 o h) refl

-- ---- slots
used_again : (s : ℕ) → s < 2 ^ 32 → slot_from true (decimal s) ≡ Some s
unfolding slot_from
used_again s h = number_again s h

unused_again : (s : ℕ) → s ≡ 0 → slot_from false (codes "-") ≡ Some s
unfolding slot_from
unused_again s e = ap (λ (n : ℕ). Some n) (sym e)

pub slot_again : (b : CodeBlock) (i : Instr) (op : Op) → b.slots ≤ 512 → IsSlot b i (slot_of i op)
    → slot_from (uses_slot op) (slot_text (slot_of i op)) ≡ Some i.slot
slot_again b i (ops.Apply1 o) few h = unused_again i.slot h
slot_again b i (ops.Apply2 o) few h = used_again i.slot (omega arith)
slot_again b i (ops.Apply2Right o z) few h = unused_again i.slot h
slot_again b i (ops.Apply2Left o z) few h = unused_again i.slot h
slot_again b i (ops.Lit z) few h = unused_again i.slot h
slot_again b i ops.Copy few h = unused_again i.slot h
slot_again b i ops.Sync few h = used_again i.slot (omega arith)
slot_again b i ops.Switch few h = used_again i.slot (omega arith)
slot_again b i (ops.Fetch a) few h = unused_again i.slot h
slot_again b i (ops.Store a) few h = used_again i.slot (omega arith)
slot_again b i ops.Frame few h = unused_again i.slot h
slot_again b i (ops.Link c) few h = unused_again i.slot h
slot_again b i (ops.Send c x) few h = used_again i.slot (omega arith)
slot_again b i (ops.Return o) few h = used_again i.slot (omega arith)
slot_again b i (ops.Ask o) few h = used_again i.slot (omega arith)
slot_again b i (ops.Open k) few h = used_again i.slot (omega arith)
slot_again b i (ops.Take k) few h = used_again i.slot (omega arith)
slot_again b i (ops.Give k) few h = used_again i.slot (omega arith)
slot_again b i (ops.Drain k) few h = used_again i.slot (omega arith)
slot_again b i (ops.Release o) few h = used_again i.slot (omega arith)

-- ---- destinations
abbrev made_dest : ℕ → Port → Dest
made_dest n port = record { ahead = n; port = port }

behind_again : (n c : ℕ) (port : Port) → n < 2 ^ 32 → dest_parts (decimal n) c ≡ dest_to port (number_of (decimal n))
    → dest_behind (decimal n ++ c ∷ []) ≡ Some (Some (made_dest n port))
unfolding dest_behind
behind_again n c port h e =
    ap (λ (w : List ℕ). dest_parts w (get_or (decimal n ++ c ∷ []) (length (decimal n ++ c ∷ []) - 1) 0)) (front_of (decimal n) c)
    ∙ ap (λ (x : ℕ). dest_parts (decimal n) x) (last_of (decimal n) c) ∙ e ∙ ap (dest_to port) (number_again n h)

one_again : (n : ℕ) (port : Port) → n < 2 ^ 32 → dest_behind (decimal n ++ port_letter port) ≡ Some (Some (made_dest n port))
one_again n Left h = behind_again n 108 Left h refl
one_again n Right h = behind_again n 114 Right h refl

to_one : (w : List ℕ) → dest_of (43 ∷ w) ≡ dest_behind w
unfolding dest_of
to_one w = ap (λ (o : Option (List ℕ)). then_some o dest_behind) (tagged_again 43 w)

to_none : dest_of (codes "-") ≡ Some None
unfolding dest_of
to_none = refl

-- a destination at most, and not too far
abbrev pub IsNear : List Dest → Type 0
IsNear [] = ⊤
IsNear (d ∷ ds) = (d.ahead < 2 ^ 32) × (ds ≡ [])

pub dest_again : (ds : List Dest) → IsNear ds → (o : Option Dest) × (dest_of (dest_text ds) ≡ Some o) × (option_to_list o ≡ ds)
dest_again [] h = (None, to_none, refl)
dest_again (d ∷ ds) h = (Some d, to_one (decimal d.ahead ++ port_letter d.port) ∙ one_again d.ahead d.port h.0, ap (λ (es : List Dest). d ∷ es) (sym h.1))

-- ---- origins
abbrev pub IsPlace : Origin → Type 0
IsPlace Untold = ⊤
IsPlace (At b n) = (b < 256) × (n < 1024)

place_again : (b n : ℕ) → b < 256 → n < 1024 → origin_of (64 ∷ dotted b n) ≡ Some (At b n)
unfolding origin_of place_in
place_again b n h k =
    ap (λ (o : Option (List ℕ)). then_some o place_in) (tagged_again 64 (dotted b n)) ∙ ap place_parts (two_parts b n (omega arith) (omega arith))
    ∙ ap (λ (o : Option ℕ). place_of o (node_of (decimal n))) (small_again b h) ∙ ap (λ (o : Option ℕ). place_of (Some b) o) (node_again n k)

pub origin_again : (o : Origin) → IsPlace o → origin_from (origin_words o) ≡ Ok o
unfolding origin_from
origin_again Untold h = refl
origin_again (At b n) h = ap origin_from (at_text b n) ∙ rw (place_again b n h.0 h.1) refl
