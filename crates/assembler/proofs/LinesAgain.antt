-- A line that is written is read again: its words, from left to right.
use Rattle.std.proofs.Common.{◌≡◌, ℕ, ◌^◌, ◌<◌, ◌≤◌, eqb, true, cond, List, [], ◌∷◌, Option, Some, Result, Ok, Err, ℤ, refl, ap, ◌∙◌}
use Rattle.std.specs.Prelude.{codes, ok_or, option_to_list}
use Rattle.std.specs.Int.{w64}
use Rattle.std.specs.Int.RustNames.{FitsSigned}
use Rattle.std.specs.Fmt.{decimal}
use Rattle.std.specs.Str.{bytes_eq}
use Rattle.std.proofs.lemmas.Bool.{eq-eqb}
use Rattle.std.proofs.lemmas.Slice.Eq.{bytes_eq-Decides}
use Rattle.tags.specs.declared.value.Origin.{Origin}
use Rattle.semantics.specs.declared.program.Op.{Op}
use Rattle.semantics.specs.declared.program.Dest.{Dest}
use Rattle.semantics.specs.Program.{Instr, CodeBlock, uses_slot}
use Rattle.semantics.specs.Rule.{slot_of}
use Rattle.semantics.specs.Text.{literal}
use Rattle.semantics.specs.Bytes.{IsSlot}
use Rattle.disassembler.specs.Listing.{slot_text, dest_text, operand_text}
use Rattle.disassembler.specs.Listing as Listing
use Rattle.graph_file.specs.Giving.{◌>>=◌}
use Rattle.graph_file.specs.Fields.{number_of, literal_of}
use Rattle.graph_file.proofs.Marks.{number_again, literal_again}
use Rattle.assembler.specs.declared.fault.AsmFaultKind.{AsmFaultKind}
use Rattle.assembler.specs.declared.fault.AsmFaultKind.TheVariants.{BadLine, BadNumber, BadName, BadSlot, BadDestination, BadOperand}
use Rattle.assembler.specs.Words.{Word}
use Rattle.assembler.specs.Grammar.{head_words, origin_words, instr_words}
use Rattle.semantics.specs.Opcodes.{op_word, opcode_named}
use Rattle.semantics.proofs.OperatorWords.{named_by, word_again}
use Rattle.assembler.specs.Fields.{op_of, slot_from, dest_of}
use Rattle.assembler.specs.Lines.{word_from, none_from, key_from, number_from, count_from, keyed_from, head_from, block_from, array_from}
use Rattle.assembler.specs.Lines.{literal_from, origin_from, op_from, Tail, tail_from, named_from, instr_from}
use Rattle.assembler.proofs.Again.{HasRoom, op_again, slot_again, IsNear, dest_again, IsPlace, origin_again}

-- first this, which succeeds, and then that
pub then_gives : {A B E : Type 0} (r : Result A E) (x : A) (f : A → Result B E) (y : Result B E) → r ≡ Ok x → f x ≡ y → (r >>= f) ≡ y
then_gives r x f y e h = ap (λ t. t >>= f) e ∙ h

some_gives : {A : Type 0} (o : Option A) (k : AsmFaultKind) (x : A) → o ≡ Some x → ok_or o k ≡ Ok x
some_gives o k x e = ap (λ t. ok_or t k) e

word_gives : (w : Word) (ws : List Word) → word_from (w ∷ ws) ≡ Ok (w, ws)
unfolding word_from
word_gives w ws = refl

none_gives : none_from [] ≡ Ok tt
unfolding none_from
none_gives = refl

pub same_word : (w : Word) → bytes_eq w w ≡ true
same_word w = (bytes_eq-Decides w w).1 refl

key_gives : (key : Word) (ws : List Word) → key_from key (key ∷ ws) ≡ Ok ws
unfolding key_from
key_gives key ws =
    then_gives (word_from (key ∷ ws)) (key, ws) (λ w. cond (bytes_eq w.0 key) (Ok w.1) (Err BadLine)) (Ok ws) (word_gives key ws)
    (rw (same_word key) refl)

number_gives : (n : ℕ) (ws : List Word) → n < 2 ^ 32 → number_from (decimal n ∷ ws) ≡ Ok (n, ws)
unfolding number_from
number_gives n ws h =
    then_gives (word_from (decimal n ∷ ws)) (decimal n, ws) (λ w. ok_or (number_of w.0) BadNumber >>= λ m. Ok (m, w.1)) (Ok (n, ws)) (word_gives (decimal n) ws)
    (rw (number_again n h) refl)

count_gives : (n : ℕ) (ws : List Word) → n < 2 ^ 32 → count_from n (decimal n ∷ ws) ≡ Ok ws
unfolding count_from
count_gives n ws h =
    then_gives (number_from (decimal n ∷ ws)) (n, ws) (λ m. cond (eqb m.0 n) (Ok m.1) (Err BadNumber)) (Ok ws) (number_gives n ws h)
    (rw (eq-eqb n n refl) refl)

keyed_gives : (key : Word) (n : ℕ) (ws : List Word) → n < 2 ^ 32 → keyed_from key (key ∷ decimal n ∷ ws) ≡ Ok (n, ws)
unfolding keyed_from
keyed_gives key n ws h = then_gives (key_from key (key ∷ decimal n ∷ ws)) (decimal n ∷ ws) (λ r. number_from r) (Ok (n, ws))
    (key_gives key (decimal n ∷ ws)) (number_gives n ws h)

pub head_gives : (v m : ℕ) → v < 2 ^ 32 → m < 2 ^ 32 → head_from (head_words v m) ≡ Ok (v, m)
unfolding head_from
head_gives v m h k =
    let rest : List Word = codes "main" ∷ decimal m ∷ [] in
    then_gives (keyed_from (codes "ets") (head_words v m)) (v, rest) (λ x. keyed_from (codes "main") x.1 >>= λ y. none_from y.1 >>= λ none. Ok
    (x.0, y.0)) (Ok (v, m)) (keyed_gives (codes "ets") v rest h)
    (then_gives (keyed_from (codes "main") rest) (m, []) (λ y. none_from y.1 >>= λ none. Ok (v, y.0)) (Ok (v, m)) (keyed_gives (codes "main") m [] k)
    (then_gives (none_from []) tt (λ none. Ok (v, m)) (Ok (v, m)) none_gives refl))

abbrev pub empty_block : ℕ → ℕ → ℕ → CodeBlock
empty_block i o s = record { inputs = i; outputs = o; slots = s; instrs = [] }

abbrev pub behind_block : ℕ → ℕ → ℕ → ℕ → List Word
behind_block n i o s = decimal n ∷ codes "inputs" ∷ decimal i ∷ codes "outputs" ∷ decimal o ∷ codes "slots" ∷ decimal s ∷ []

pub block_gives : (n i o s : ℕ) → n < 2 ^ 32 → i < 2 ^ 32 → o < 2 ^ 32 → s < 2 ^ 32 → block_from n (behind_block n i o s) ≡ Ok (empty_block i o s)
unfolding block_from
block_gives n i o s a b c d =
    let three : List Word = codes "slots" ∷ decimal s ∷ [] in
    let two : List Word = codes "outputs" ∷ decimal o ∷ three in
    let one : List Word = codes "inputs" ∷ decimal i ∷ two in
    let made = Ok (empty_block i o s) in
    then_gives (count_from n (decimal n ∷ one)) one (λ r. keyed_from (codes "inputs") r >>= λ x. keyed_from (codes "outputs") x.1 >>= λ y. keyed_from
    (codes "slots") y.1 >>= λ z. none_from z.1 >>= λ none. Ok (empty_block x.0 y.0 z.0)) made (count_gives n one a)
    (then_gives (keyed_from (codes "inputs") one) (i, two) (λ x. keyed_from (codes "outputs") x.1 >>= λ y. keyed_from (codes "slots") y.1 >>= λ z.
    none_from z.1 >>= λ none. Ok (empty_block x.0 y.0 z.0)) made (keyed_gives (codes "inputs") i two b)
    (then_gives (keyed_from (codes "outputs") two) (o, three) (λ y. keyed_from (codes "slots") y.1 >>= λ z. none_from z.1 >>= λ none. Ok
    (empty_block i y.0 z.0)) made (keyed_gives (codes "outputs") o three c)
    (then_gives (keyed_from (codes "slots") three) (s, []) (λ z. none_from z.1 >>= λ none. Ok (empty_block i o z.0)) made (keyed_gives (codes "slots") s [] d)
    (then_gives (none_from []) tt (λ none. Ok (empty_block i o s)) made none_gives refl))))

pub array_gives : (n len : ℕ) → n < 2 ^ 32 → len < 2 ^ 32 → array_from n (decimal n ∷ decimal len ∷ []) ≡ Ok len
unfolding array_from
array_gives n len h k =
    then_gives (count_from n (decimal n ∷ decimal len ∷ [])) (decimal len ∷ []) (λ r. number_from r >>= λ m. none_from m.1 >>= λ none. Ok m.0)
    (Ok len) (count_gives n (decimal len ∷ []) h)
    (then_gives (number_from (decimal len ∷ [])) (len, []) (λ m. none_from m.1 >>= λ none. Ok m.0) (Ok len) (number_gives len [] k)
    (then_gives (none_from []) tt (λ none. Ok len) (Ok len) none_gives refl))

pub literal_gives : (n : ℕ) (z : ℤ) → n < 2 ^ 32 → FitsSigned w64 z → literal_from n (decimal n ∷ literal z ∷ []) ≡ Ok z
unfolding literal_from
literal_gives n z h k =
    then_gives (count_from n (decimal n ∷ literal z ∷ [])) (literal z ∷ []) (λ r. word_from r >>= λ w. ok_or (literal_of w.0) BadNumber >>= λ y.
    none_from w.1 >>= λ none. Ok y) (Ok z) (count_gives n (literal z ∷ []) h)
    (then_gives (word_from (literal z ∷ [])) (literal z, []) (λ w. ok_or (literal_of w.0) BadNumber >>= λ y. none_from w.1 >>= λ none. Ok y) (Ok z)
    (word_gives (literal z) [])
    (then_gives (ok_or (literal_of (literal z)) BadNumber) z (λ y. none_from [] >>= λ none. Ok y) (Ok z)
    (some_gives (literal_of (literal z)) BadNumber z (literal_again z k))
    (then_gives (none_from []) tt (λ none. Ok z) (Ok z) none_gives refl)))

-- ---- instructions
-- what an instruction's line says of it, if it is one of this block
pub record HasLine (b : CodeBlock) (i : Instr) : Type 0 where
  pub room : HasRoom i.op
  pub few : b.slots ≤ 512
  pub slot : IsSlot b i (slot_of i i.op)
  pub firsts : IsNear i.firsts
  pub seconds : IsNear i.seconds
  pub origin : IsPlace i.origin

op_gives : (op : Op) → HasRoom op → op_from (op_word op) (operand_text op) ≡ Ok op
unfolding op_from
op_gives op h =
    then_gives (ok_or (opcode_named (op_word op)) BadName) (named_by op) (λ n. ok_or (op_of n (operand_text op)) BadOperand) (Ok op)
    (some_gives (opcode_named (op_word op)) BadName (named_by op) (word_again op))
    (some_gives (op_of (named_by op) (operand_text op)) BadOperand op (op_again op h))

tail_gives : (s d e o : Word) (ws : List Word) → tail_from (s ∷ d ∷ e ∷ o ∷ ws) ≡ Ok (s, d, e, o, ws)
unfolding tail_from word_from
tail_gives s d e o ws = refl

abbrev made_instr : Op → ℕ → Option Dest → Option Dest → Origin → Instr
made_instr op slot d e origin = record { op = op; origin = origin; slot = slot; firsts = option_to_list d; seconds = option_to_list e }

abbrev tail_of : Instr → Tail
tail_of i = (slot_text (slot_of i i.op), dest_text i.firsts, dest_text i.seconds, operand_text i.op, origin_words i.origin)

remade : (i : Instr) (d e : Option Dest) → option_to_list d ≡ i.firsts → option_to_list e ≡ i.seconds → made_instr i.op i.slot d e i.origin ≡ i
remade i d e h k =
    let made : List Dest → List Dest → Instr = λ ds es. record { op = i.op; origin = i.origin; slot = i.slot; firsts = ds; seconds = es } in
    ap (λ (ds : List Dest). made ds (option_to_list e)) h ∙ ap (λ (es : List Dest). made i.firsts es) k

named_gives : (b : CodeBlock) (i : Instr) → HasLine b i → named_from (op_word i.op) (tail_of i) ≡ Ok i
unfolding named_from
named_gives b i h =
    let t = tail_of i in
    let d = dest_again i.firsts h.firsts in
    let e = dest_again i.seconds h.seconds in
    let made = Ok i in
    then_gives (op_from (op_word i.op) t.3) i.op (λ op. ok_or (slot_from (uses_slot op) t.0) BadSlot >>= λ slot. ok_or (dest_of t.1) BadDestination
    >>= λ x. ok_or (dest_of t.2) BadDestination >>= λ y. origin_from t.4 >>= λ origin. Ok (made_instr op slot x y origin)) made (op_gives i.op h.room)
    (then_gives (ok_or (slot_from (uses_slot i.op) t.0) BadSlot) i.slot (λ slot. ok_or (dest_of t.1) BadDestination >>= λ x. ok_or (dest_of t.2)
    BadDestination >>= λ y. origin_from t.4 >>= λ origin. Ok (made_instr i.op slot x y origin)) made
    (some_gives (slot_from (uses_slot i.op) t.0) BadSlot i.slot (slot_again b i i.op h.few h.slot))
    (then_gives (ok_or (dest_of t.1) BadDestination) d.0 (λ x. ok_or (dest_of t.2) BadDestination >>= λ y. origin_from t.4 >>= λ origin. Ok
    (made_instr i.op i.slot x y origin)) made (some_gives (dest_of t.1) BadDestination d.0 d.1)
    (then_gives (ok_or (dest_of t.2) BadDestination) e.0 (λ y. origin_from t.4 >>= λ origin. Ok (made_instr i.op i.slot d.0 y origin)) made
    (some_gives (dest_of t.2) BadDestination e.0 e.1)
    (then_gives (origin_from t.4) i.origin (λ origin. Ok (made_instr i.op i.slot d.0 e.0 origin)) made (origin_again i.origin h.origin)
    (ap (λ (j : Instr). Ok j) (remade i d.0 e.0 d.2 e.2))))))

pub instr_gives : (b : CodeBlock) (n : ℕ) (i : Instr) → n < 2 ^ 32 → HasLine b i → instr_from n (instr_words n i) ≡ Ok i
unfolding instr_from
instr_gives b n i lt h =
    let t = tail_of i in
    let behind : List Word = t.0 ∷ t.1 ∷ t.2 ∷ t.3 ∷ t.4 in
    let named : List Word = op_word i.op ∷ behind in
    then_gives (count_from n (decimal n ∷ named)) named (λ r. word_from r >>= λ name. tail_from name.1 >>= λ u. named_from name.0 u) (Ok i)
    (count_gives n named lt)
    (then_gives (word_from named) (op_word i.op, behind) (λ name. tail_from name.1 >>= λ u. named_from name.0 u) (Ok i) (word_gives (op_word i.op) behind)
    (then_gives (tail_from behind) t (λ u. named_from (op_word i.op) u) (Ok i) (tail_gives t.0 t.1 t.2 t.3 t.4) (named_gives b i h)))
