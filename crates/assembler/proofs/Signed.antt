-- The literals that are read from a text have 64 bits, and so what is assembled of it has an object.
use Rattle.std.proofs.Common.{◌≡◌, ℕ, ◌+◌, cond, List, [], ◌∷◌, ◌++◌, length, All, Option, Some, None, Ok, Err, ℤ, refl, subst, ◌∙◌, sym, inl, inr}
use Rattle.std.specs.Prelude.{⊤, codes, ok_or, option_map}
use Rattle.std.specs.Int.{w64}
use Rattle.std.specs.Int.RustNames.{FitsSigned}
use Rattle.std.specs.Ordering.{int_cmp}
use Rattle.std.specs.Str.{bytes_eq}
use Rattle.std.proofs.lemmas.List.Elements.{All-nil, All-push}
use Rattle.std.proofs.lemmas.Map.Views.{All-insert_key}
use Rattle.lemmas.proofs.Bools.{cond_cases}
use Rattle.operators.specs.declared.Binary.{Binary}
use Rattle.semantics.specs.declared.program.Op.{Op}
use Rattle.semantics.specs.declared.program.Op.TheVariants as ops
use Rattle.semantics.specs.Program.{Instr, Code, uses_slot}
use Rattle.semantics.specs.Bytes.{IsCode}
use Rattle.disassembler.specs.Listing as Listing
use Rattle.graph_file.specs.Giving.{◌>>=◌}
use Rattle.graph_file.specs.Fields.{literal_of}
use Rattle.graph_file.proofs.Binds.{bind_ok}
use Rattle.graph_file.proofs.Marks.{literal_is}
use Rattle.assembler.specs.declared.fault.AsmFaultKind.TheVariants.{BadLine, BadNumber, BadName, BadSlot, BadDestination, BadOperand}
use Rattle.assembler.specs.declared.found.Part.{Part}
use Rattle.assembler.specs.declared.found.Part.TheVariants.{Head, Start, Blocks, Arrays, Literals}
use Rattle.semantics.specs.declared.opcode.Opcode.{Opcode}
use Rattle.semantics.specs.declared.opcode.Opcode.TheVariants.{Apply1, Apply2, Apply2Right, Apply2Left, Lit, Copy, Sync, Switch, Fetch, Store}
use Rattle.semantics.specs.declared.opcode.Opcode.TheVariants.{Frame, Link, Send, Return, Ask, Open, Take, Give, Drain, Release}
use Rattle.assembler.specs.Words.{Word, lines_in}
use Rattle.assembler.specs.Giving.{must}
use Rattle.assembler.specs.Grammar.{with_literal, IsListingOf}
use Rattle.assembler.specs.Found.{Found}
use Rattle.semantics.specs.Opcodes.{opcode_named}
use Rattle.assembler.specs.Fields.{tagged, small_behind, wide_behind, literal_behind, side_behind, no_operand, sided, binary_from, entry_behind}
use Rattle.assembler.specs.Fields.{op_of, slot_from, dest_of}
use Rattle.assembler.specs.Lines.{word_from, none_from, count_from, head_from, block_from, array_from, literal_from, origin_from, op_from, Tail}
use Rattle.assembler.specs.Lines.{tail_from, named_from, instr_from}
use Rattle.assembler.specs.Reading.{all_blocks, with_instr, nothing, head_line, first_block, next_block, array_line, literal_line, instr_line}
use Rattle.assembler.specs.Reading.{takes_array, takes_literal, block_line, other_line, step, code_with, end_from, text_from}
use Rattle.assembler.specs.Checks.{Checked, code_checked}
use Rattle.assembler.specs.Assembling.{unless_refused, assembled}
use Rattle.assembler.proofs.Spelled.{then_is, map_is}
use Rattle.assembler.proofs.Taken.{ok_is, ok_or_is, made_instr, dests_from}
use Rattle.assembler.proofs.Steps.{steps, text_stripped}
use Rattle.assembler.proofs.Prefixes.{Lines, by_word, step_is, no_step}
use Rattle.assembler.proofs.Fitting.{has_object}
use Rattle.assembler.proofs.Sound.{is_listing}

abbrev IsSigned : ℤ → Type 0
IsSigned z = FitsSigned w64 z

-- a literal, if there is one
abbrev AnySigned : Option ℤ → Type 0
AnySigned None = ⊤
AnySigned (Some z) = IsSigned z

abbrev HasSigned : Op → Type 0
HasSigned op = AnySigned (Listing.literal_of op)

-- ---- operands
behind_signed : (w : List ℕ) (z : ℤ) → literal_behind w ≡ Some z → IsSigned z
unfolding literal_behind
behind_signed w z e = let t = then_is (tagged 35 w) literal_of z e in (literal_is t.0 z t.2).1

side_signed : (c : ℕ) (w : List ℕ) (z : ℤ) → side_behind c w ≡ Some z → IsSigned z
unfolding side_behind
side_signed c w z e = let t = then_is (tagged c w) literal_behind z e in behind_signed t.0 z t.2

none_signed : (op : Op) (w : List ℕ) (y : Op) → HasSigned op → no_operand op w ≡ Some y → HasSigned y
unfolding no_operand
none_signed op w y h e =
    elim (cond_cases (bytes_eq w (codes "-")) (Some op) None (Some y) e) as (λ _. HasSigned y) [
      | inl k ↦ (let same : op ≡ y = let q = k.1 in cc in subst HasSigned same h)
      | inr k ↦ absurd (let q = k.1 in cc)
    ]

sided_signed : (op : Binary) (r l : Option ℤ) (y : Op) → ((z : ℤ) → r ≡ Some z → IsSigned z) → ((z : ℤ) → l ≡ Some z → IsSigned z) → sided op r l
    ≡ Some y → HasSigned y
sided_signed op (Some z) l y right left e = let same : ops.Apply2Right op z ≡ y = cc in subst HasSigned same (right z refl)
sided_signed op None (Some z) y right left e = let same : ops.Apply2Left op z ≡ y = cc in subst HasSigned same (left z refl)
sided_signed op None None y right left e = absurd cc

binary_signed : (op : Binary) (w : List ℕ) (y : Op) → binary_from op w ≡ Some y → HasSigned y
unfolding binary_from
binary_signed op w y e =
    elim (cond_cases (bytes_eq w (codes "-")) (Some (ops.Apply2 op)) (sided op (side_behind 114 w) (side_behind 108 w)) (Some y) e) as (λ _. HasSigned y) [
      | inl k ↦ (let same : ops.Apply2 op ≡ y = let q = k.1 in cc in subst HasSigned same tt)
      | inr k ↦ sided_signed op (side_behind 114 w) (side_behind 108 w) y (λ z h. side_signed 114 w z h) (λ z h. side_signed 108 w z h) k.1
    ]

mapped_signed : {A : Type 0} (make : A → Op) (o : Option A) (y : Op) → ((x : A) → o ≡ Some x → HasSigned (make x)) → option_map make o ≡ Some y → HasSigned y
mapped_signed make o y h e = let m = map_is make o y e in subst HasSigned m.2 (h m.0 m.1)

op_signed : (n : Opcode) (w : List ℕ) (y : Op) → op_of n w ≡ Some y → HasSigned y
unfolding op_of
op_signed (Apply1 op) w y e = none_signed (ops.Apply1 op) w y tt e
op_signed (Apply2 op) w y e = binary_signed op w y e
op_signed (Apply2Right op) w y e = absurd cc
op_signed (Apply2Left op) w y e = absurd cc
op_signed Lit w y e = mapped_signed ops.Lit (literal_behind w) y (λ z k. behind_signed w z k) e
op_signed Copy w y e = none_signed ops.Copy w y tt e
op_signed Sync w y e = none_signed ops.Sync w y tt e
op_signed Switch w y e = none_signed ops.Switch w y tt e
op_signed Fetch w y e = mapped_signed ops.Fetch (small_behind 97 w) y (λ a k. tt) e
op_signed Store w y e = mapped_signed ops.Store (small_behind 97 w) y (λ a k. tt) e
op_signed Frame w y e = none_signed ops.Frame w y tt e
op_signed Link w y e = mapped_signed ops.Link (wide_behind 98 w) y (λ b k. tt) e
op_signed Send w y e = mapped_signed (λ (p : ℕ × ℕ). ops.Send p.0 p.1) (entry_behind w) y (λ p k. tt) e
op_signed Return w y e = mapped_signed ops.Return (small_behind 111 w) y (λ o k. tt) e
op_signed Ask w y e = mapped_signed ops.Ask (small_behind 111 w) y (λ o k. tt) e
op_signed Open w y e = mapped_signed ops.Open (small_behind 107 w) y (λ o k. tt) e
op_signed Take w y e = mapped_signed ops.Take (small_behind 107 w) y (λ o k. tt) e
op_signed Give w y e = mapped_signed ops.Give (small_behind 107 w) y (λ o k. tt) e
op_signed Drain w y e = mapped_signed ops.Drain (small_behind 107 w) y (λ o k. tt) e
op_signed Release w y e = mapped_signed ops.Release (small_behind 111 w) y (λ o k. tt) e

-- ---- lines
from_signed : (name operand : Word) (op : Op) → op_from name operand ≡ Ok op → HasSigned op
unfolding op_from
from_signed name operand op e =
    let n = bind_ok (ok_or (opcode_named name) BadName) (λ n. ok_or (op_of n operand) BadOperand) op e in
    op_signed n.0 operand op (ok_or_is (op_of n.0 operand) BadOperand op n.2)

named_signed : (name : Word) (t : Tail) (i : Instr) → named_from name t ≡ Ok i → HasSigned i.op
unfolding named_from
named_signed name t i e =
    let o = bind_ok (op_from name t.3) (λ op. ok_or (slot_from (uses_slot op) t.0) BadSlot >>= λ slot. dests_from t op slot) i e in
    let s = bind_ok (ok_or (slot_from (uses_slot o.0) t.0) BadSlot) (λ slot. dests_from t o.0 slot) i o.2 in
    let d = bind_ok (ok_or (dest_of t.1) BadDestination) (λ d. ok_or (dest_of t.2) BadDestination >>= λ x. origin_from t.4 >>= λ origin. Ok
    (made_instr o.0 s.0 d x origin)) i s.2 in
    let x = bind_ok (ok_or (dest_of t.2) BadDestination) (λ x. origin_from t.4 >>= λ origin. Ok (made_instr o.0 s.0 d.0 x origin)) i d.2 in
    let g = bind_ok (origin_from t.4) (λ origin. Ok (made_instr o.0 s.0 d.0 x.0 origin)) i x.2 in
    subst (λ (j : Instr). HasSigned j.op) (ok_is (made_instr o.0 s.0 d.0 x.0 g.0) i g.2) (from_signed name t.3 o.0 o.1)

instr_signed : (n : ℕ) (ws : List Word) (i : Instr) → instr_from n ws ≡ Ok i → HasSigned i.op
unfolding instr_from
instr_signed n ws i e =
    let r = bind_ok (count_from n ws) (λ rest. word_from rest >>= λ name. tail_from name.1 >>= λ t. named_from name.0 t) i e in
    let m = bind_ok (word_from r.0) (λ name. tail_from name.1 >>= λ t. named_from name.0 t) i r.2 in
    let t = bind_ok (tail_from m.0.1) (λ t. named_from m.0.0 t) i m.2 in
    named_signed m.0.0 t.0 i t.2

literal_signed : (n : ℕ) (ws : List Word) (z : ℤ) → literal_from n ws ≡ Ok z → IsSigned z
unfolding literal_from
literal_signed n ws z e =
    let r = bind_ok (count_from n ws) (λ rest. word_from rest >>= λ w. ok_or (literal_of w.0) BadNumber >>= λ y. none_from w.1 >>= λ none. Ok y) z e in
    let w = bind_ok (word_from r.0) (λ w. ok_or (literal_of w.0) BadNumber >>= λ y. none_from w.1 >>= λ none. Ok y) z r.2 in
    let y = bind_ok (ok_or (literal_of w.0.0) BadNumber) (λ y. none_from w.0.1 >>= λ none. Ok y) z w.2 in
    let x = bind_ok (none_from w.0.1) (λ none. Ok y.0) z y.2 in
    subst IsSigned (ok_is y.0 z x.2) (literal_is w.0.0 y.0 (ok_or_is (literal_of w.0.0) BadNumber y.0 y.1)).1

-- ---- what was read so far
abbrev AllSigned : Found × Part → Type 0
AllSigned s = All IsSigned s.0.used × All IsSigned s.0.literals

with_signed : (o : Option ℤ) (t : List ℤ) → AnySigned o → All IsSigned t → All IsSigned (with_literal o t)
with_signed None t h all = all
with_signed (Some z) t h all = All-insert_key int_cmp z IsSigned t all h

head_signed : (f : Found) (ws : List Word) (s : Found × Part) → head_line f ws ≡ Ok s → AllSigned (f, Head) → AllSigned s
unfolding head_line
head_signed f ws s e h =
    let b = bind_ok (head_from ws) (λ h. Ok (record f { version = h.0; main = h.1 }, Start)) s e in
    subst AllSigned (ok_is (record f { version = b.0.0; main = b.0.1 }, Start) s b.2) h

first_signed : (f : Found) (ws : List Word) (s : Found × Part) → first_block f ws ≡ Ok s → AllSigned (f, Head) → AllSigned s
unfolding first_block
first_signed f ws s e h =
    let b = bind_ok (block_from 0 ws) (λ b. Ok (record f { last = b }, Blocks)) s e in
    subst AllSigned (ok_is (record f { last = b.0 }, Blocks) s b.2) h

next_signed : (f : Found) (ws : List Word) (s : Found × Part) → next_block f ws ≡ Ok s → AllSigned (f, Head) → AllSigned s
unfolding next_block
next_signed f ws s e h =
    let b = bind_ok (block_from (length f.blocks + 1) ws) (λ b. Ok (record f { blocks = all_blocks f; last = b }, Blocks)) s e in
    subst AllSigned (ok_is (record f { blocks = all_blocks f; last = b.0 }, Blocks) s b.2) h

array_signed : (f : Found) (ws : List Word) (s : Found × Part) → array_line f ws ≡ Ok s → AllSigned (f, Head) → AllSigned s
unfolding array_line
array_signed f ws s e h =
    let b = bind_ok (array_from (length f.arrays) ws) (λ len. Ok (record f { arrays = f.arrays ++ len ∷ [] }, Arrays)) s e in
    subst AllSigned (ok_is (record f { arrays = f.arrays ++ b.0 ∷ [] }, Arrays) s b.2) h

table_signed : (f : Found) (ws : List Word) (s : Found × Part) → literal_line f ws ≡ Ok s → AllSigned (f, Head) → AllSigned s
unfolding literal_line
table_signed f ws s e h =
    let b = bind_ok (literal_from (length f.literals) ws) (λ z. Ok (record f { literals = f.literals ++ z ∷ [] }, Literals)) s e in
    let made : AllSigned (record f { literals = f.literals ++ b.0 ∷ [] }, Literals) =
    (h.0, All-push IsSigned f.literals b.0 h.1 (literal_signed (length f.literals) ws b.0 b.1)) in
    subst AllSigned (ok_is (record f { literals = f.literals ++ b.0 ∷ [] }, Literals) s b.2) made

put_signed : (f : Found) (ws : List Word) (s : Found × Part) → instr_line f ws ≡ Ok s → AllSigned (f, Head) → AllSigned s
unfolding instr_line
put_signed f ws s e h =
    let b = bind_ok (instr_from (length f.last.instrs) ws)
    (λ i. Ok (record f { last = with_instr f.last i; used = with_literal (Listing.literal_of i.op) f.used }, Blocks)) s e in
    let g : Found = record f { last = with_instr f.last b.0; used = with_literal (Listing.literal_of b.0.op) f.used } in
    let made : AllSigned (g, Blocks) = (with_signed (Listing.literal_of b.0.op) f.used (instr_signed (length f.last.instrs) ws b.0 b.1) h.0, h.1) in
    subst AllSigned (ok_is (g, Blocks) s b.2) made

block_signed : (f : Found) (p : Part) (ws : List Word) (s : Found × Part) → block_line f p ws ≡ Ok s → AllSigned (f, Head) → AllSigned s
unfolding block_line
block_signed f Head ws s e h = absurd cc
block_signed f Start ws s e h = first_signed f ws s e h
block_signed f Blocks ws s e h = next_signed f ws s e h
block_signed f Arrays ws s e h = absurd cc
block_signed f Literals ws s e h = absurd cc

other_signed : (f : Found) (p : Part) (ws : List Word) (s : Found × Part) → other_line f p ws ≡ Ok s → AllSigned (f, Head) → AllSigned s
unfolding other_line
other_signed f Head ws s e h = head_signed f ws s e h
other_signed f Start ws s e h = absurd cc
other_signed f Blocks ws s e h = put_signed f ws s e h
other_signed f Arrays ws s e h = absurd cc
other_signed f Literals ws s e h = absurd cc

word_signed : (f : Found) (p : Part) (w : Word) (ws : List Word) (s : Found × Part) → by_word f p w ws ≡ Ok s → AllSigned (f, Head) → AllSigned s
word_signed f p w ws s e h =
    let array = must (takes_array p) BadLine >>= λ may. array_line f ws in
    let table = must (takes_literal p) BadLine >>= λ may. literal_line f ws in
    let rest = cond (bytes_eq w (codes "literal")) table (other_line f p (w ∷ ws)) in
    elim (cond_cases (bytes_eq w (codes "block")) (block_line f p ws) (cond (bytes_eq w (codes "array")) array rest) (Ok s) e) as (λ _. AllSigned s) [
      | inl k ↦ block_signed f p ws s k.1 h
      | inr k ↦ elim (cond_cases (bytes_eq w (codes "array")) array rest (Ok s) k.1) as (λ _. AllSigned s) [
        | inl j ↦ array_signed f ws s (bind_ok (must (takes_array p) BadLine) (λ may. array_line f ws) s j.1).2 h
        | inr j ↦ elim (cond_cases (bytes_eq w (codes "literal")) table (other_line f p (w ∷ ws)) (Ok s) j.1) as (λ _. AllSigned s) [
          | inl i ↦ table_signed f ws s (bind_ok (must (takes_literal p) BadLine) (λ may. literal_line f ws) s i.1).2 h
          | inr i ↦ other_signed f p (w ∷ ws) s i.1 h
        ]
      ]
    ]

step_signed : (f : Found) (p : Part) (ws : List Word) (s : Found × Part) → step f p ws ≡ Ok s → AllSigned (f, Head) → AllSigned s
step_signed f p [] s e h = absurd (no_step f p s e)
step_signed f p (w ∷ ws) s e h = word_signed f p w ws s (sym (step_is f p w ws) ∙ e) h

-- ---- the whole
end_signed : (f : Found) (p : Part) (r : ℕ × Code) → end_from f p ≡ Ok r → AllSigned (f, Head) → All IsSigned r.1.literals
unfolding end_from
end_signed f Head r e h = absurd cc
end_signed f Start r e h = absurd cc
end_signed f Blocks r e h = subst (λ (q : ℕ × Code). All IsSigned q.1.literals) (ok_is (code_with f f.used) r e) h.0
end_signed f Arrays r e h = subst (λ (q : ℕ × Code). All IsSigned q.1.literals) (ok_is (code_with f f.used) r e) h.0
end_signed f Literals r e h = subst (λ (q : ℕ × Code). All IsSigned q.1.literals) (ok_is (code_with f f.literals) r e) h.1

steps_signed : (f : Found) (p : Part) (wss : Lines) (r : ℕ × Code) → steps f p wss ≡ Ok r → AllSigned (f, Head) → All IsSigned r.1.literals
steps_signed f p [] r e h = end_signed f p r e h
steps_signed f p (ws ∷ wss) r e h =
    let b = bind_ok (step f p ws) (λ s. steps s.0 s.1 wss) r e in
    steps_signed b.0.0 b.0.1 wss r b.2 (step_signed f p ws b.0 b.1 h)

text_signed : (text : List ℕ) (r : ℕ × Code) → text_from text ≡ Ok r → All IsSigned r.1.literals
text_signed text r e = steps_signed nothing Head (lines_in text) r (text_stripped text r e) (All-nil IsSigned, All-nil IsSigned)

abbrev IsObjectOf : List ℕ → ℕ × Code → Type 0
IsObjectOf text r = IsListingOf text r.0 r.1 × IsCode r.0 r.1

accepted : (text : List ℕ) (r q : ℕ × Code) (k : Checked) → code_checked r.0 r.1 ≡ k → text_from text ≡ Ok r → unless_refused text r k ≡ Ok q
    → IsObjectOf text q
accepted text r q (Ok x) c e h =
    let same : r ≡ q = cc (h) in
    subst (IsObjectOf text) same (is_listing text r e, has_object r.0 r.1 (text_signed text r e) c)
accepted text r q (Err f) c e h = absurd (let k = h in cc)

-- what is assembled of a text has an object, and the text is a listing of it
pub all_sound : (text : List ℕ) (version : ℕ) (c : Code) → assembled text ≡ Ok (version, c) → IsListingOf text version c × IsCode version c
unfolding assembled
all_sound text version c e =
    let b = bind_ok (text_from text) (λ r. unless_refused text r (code_checked r.0 r.1)) (version, c) e in
    accepted text b.0 (version, c) (code_checked b.0.0 b.0.1) refl b.1 b.2
