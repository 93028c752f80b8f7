-- What is written of a code that has an object falls into the lines of this code.
use Rattle.std.proofs.Common.{◌≡◌, ℕ, ◌+◌, ◌^◌, ◌<◌, ◌≤◌, not, eqb, leb, Bool, true, false, List, [], ◌∷◌, ◌++◌, length, All, Option, Some, None, ℤ}
use Rattle.std.proofs.Common.{pos, negsuc, refl, sym, ap, subst, ◌∙◌, append_assoc, arith}
use Rattle.std.specs.Prelude.{codes, nat_lt}
use Rattle.std.specs.Int.{w64}
use Rattle.std.specs.Int.RustNames.{FitsSigned}
use Rattle.std.specs.Fmt.{decimal}
use Rattle.std.specs.List.{list_all}
use Rattle.std.specs.Char.{is_ascii_digit}
use Rattle.std.proofs.lemmas.Bool.{ltb-true, leb-true, le-leb, ne_eqb, and_parts, and_from, not_from_false}
use Rattle.std.proofs.lemmas.List.{append-nil, length-append}
use Rattle.std.proofs.lemmas.List.Folds.{list_all-append}
use Rattle.std.proofs.lemmas.List.Elements.{All-head, All-tail}
use Rattle.std.proofs.lemmas.Fmt.{digits_decimal, decimal_nonempty}
use Rattle.tags.specs.declared.token.Port.{Port}
use Rattle.tags.specs.declared.token.Port.TheVariants.{Left, Right}
use Rattle.tags.specs.declared.value.Origin.{Origin}
use Rattle.tags.specs.declared.value.Origin.TheVariants.{Untold, At}
use Rattle.operators.specs.declared.Unary.{Unary}
use Rattle.operators.specs.declared.Unary.TheVariants.{Neg, Not}
use Rattle.operators.specs.declared.Binary.{Binary}
use Rattle.operators.proofs.Every.{all_binary}
use Rattle.semantics.specs.declared.program.Dest.{Dest}
use Rattle.semantics.specs.declared.program.Op.{Op}
use Rattle.semantics.specs.declared.program.Op.TheVariants.{Apply1, Apply2, Apply2Right, Apply2Left, Lit, Copy, Sync, Switch, Fetch, Store, Frame}
use Rattle.semantics.specs.declared.program.Op.TheVariants.{Link, Send, Return, Ask, Open, Take, Give, Drain, Release}
use Rattle.semantics.specs.Program.{Instr, CodeBlock, Code}
use Rattle.semantics.specs.Rule.{slot_of}
use Rattle.semantics.specs.Text.{field, literal, unary_word, binary_word}
use Rattle.semantics.specs.Bytes.{IsSlot, IsCode}
use Rattle.sink.specs.Numbered.{numbered}
use Rattle.disassembler.specs.Listing.{right_in, left_in, slot_text, port_letter, dest_text, operand_text, origin_text, instr_line, literal_line}
use Rattle.disassembler.specs.Listing.{block_line, array_line, head_line, listing, listing_with_literals}
use Rattle.semantics.specs.Opcodes.{op_word}
use Rattle.disassembler.specs.Listing as Listing
use Rattle.graph_file.proofs.Numbers.{own, same_digits}
use Rattle.graph_file.proofs.Marks.{weaker}
use Rattle.assembler.specs.Words.{Word, lines_in}
use Rattle.assembler.specs.Grammar.{head_words, block_words, origin_words, instr_words, array_words, literal_words, numbered_lines, block_lines}
use Rattle.assembler.specs.Grammar.{table_lines, code_lines}
use Rattle.assembler.proofs.Prefixes.{Lines}
use Rattle.assembler.proofs.Again.{HasRoom, IsNear, IsPlace}
use Rattle.assembler.proofs.LinesAgain.{HasLine}
use Rattle.assembler.proofs.StepsAgain.{HasNumbers, HasLines}
use Rattle.assembler.proofs.Room.{all_lines, all_lengths}
use Rattle.assembler.proofs.Reread.{is_word_byte, IsWord, Says, says_word, says_field, says_right, says_left, says_pair, Rereads, rereads_none}
use Rattle.assembler.proofs.Reread.{rereads_line, rereads_both, reread}
use Rattle.assembler.proofs.CodeAgain.{version_few}

-- ---- which bytes are words
digit_word : (b : ℕ) → is_ascii_digit b ≡ true → is_word_byte b ≡ true
digit_word b e =
    let p = and_parts (leb 48 b) (leb b 57) e in
    let low = leb-true 48 b p.0 in
    let high = leb-true b 57 p.1 in
    and_from (leb 33 b) (not (eqb b 59)) (le-leb 33 b (omega arith)) (not_from_false (eqb b 59) (ne_eqb b 59 (λ z. absurd (omega (arith, z)))))

word_number : (n : ℕ) → n < 2 ^ 64 → IsWord (decimal n)
word_number n h = record {
  some = decimal_nonempty n h;
  plain = weaker is_ascii_digit is_word_byte digit_word (decimal n) (same_digits (decimal n)
      ∙ digits_decimal own n h);
}

known : (w : Word) → 0 < length w → list_all is_word_byte w ≡ true → IsWord w
known w h e = record { some = h; plain = e }

word_both : (v w : Word) → IsWord v → IsWord w → IsWord (v ++ w)
word_both v w h k = record {
  some = let some = h.some in omega (arith, length-append v w);
  plain = list_all-append is_word_byte v w ∙ and_from (list_all is_word_byte v) (list_all is_word_byte w) h.plain k.plain;
}

-- a word after a byte
word_more : (b : ℕ) (w : Word) → is_word_byte b ≡ true → IsWord w → IsWord (b ∷ w)
word_more b w e h = record { some = omega arith; plain = and_from (is_word_byte b) (list_all is_word_byte w) e h.plain }

word_literal : (z : ℤ) → FitsSigned w64 z → IsWord (literal z)
word_literal (pos n) h = let lt = h.sfits in word_number n (omega arith)
word_literal (negsuc n) h = let lt = h.sfits in word_more 45 (decimal (n + 1)) refl (word_number (n + 1) (omega arith))

word_unary : (op : Unary) → IsWord (unary_word op)
word_unary Neg = known (codes "neg") (omega arith) refl
word_unary Not = known (codes "not") (omega arith) refl

word_binary : (op : Binary) → IsWord (binary_word op)
word_binary op = known (binary_word op) (ltb-true 0 (length (binary_word op)) (all_binary (λ o. nat_lt 0 (length (binary_word o))) refl op))
    (all_binary (λ o. list_all is_word_byte (binary_word o)) refl op)

word_name : (op : Op) → IsWord (op_word op)
word_name (Apply1 op) = word_unary op
word_name (Apply2 op) = word_binary op
word_name (Apply2Right op z) = word_binary op
word_name (Apply2Left op z) = word_binary op
word_name (Lit z) = known (codes "lit") (omega arith) refl
word_name Copy = known (codes "copy") (omega arith) refl
word_name Sync = known (codes "sync") (omega arith) refl
word_name Switch = known (codes "switch") (omega arith) refl
word_name (Fetch a) = known (codes "fetch") (omega arith) refl
word_name (Store a) = known (codes "store") (omega arith) refl
word_name Frame = known (codes "frame") (omega arith) refl
word_name (Link b) = known (codes "link") (omega arith) refl
word_name (Send b e) = known (codes "send") (omega arith) refl
word_name (Return o) = known (codes "return") (omega arith) refl
word_name (Ask o) = known (codes "ask") (omega arith) refl
word_name (Open k) = known (codes "open") (omega arith) refl
word_name (Take k) = known (codes "take") (omega arith) refl
word_name (Give k) = known (codes "give") (omega arith) refl
word_name (Drain k) = known (codes "drain") (omega arith) refl
word_name (Release o) = known (codes "release") (omega arith) refl

word_none : IsWord (codes "-")
word_none = known (codes "-") (omega arith) refl

word_slot : (b : CodeBlock) (i : Instr) (o : Option ℕ) → b.slots ≤ 512 → IsSlot b i o → IsWord (slot_text o)
word_slot b i None few h = word_none
word_slot b i (Some r) few h = word_number r (omega arith)

word_port : (p : Port) → IsWord (port_letter p)
word_port Left = known (codes "l") (omega arith) refl
word_port Right = known (codes "r") (omega arith) refl

word_dest : (ds : List Dest) → IsNear ds → IsWord (dest_text ds)
word_dest [] h = word_none
word_dest (d ∷ ds) h = word_more 43 (decimal d.ahead ++ port_letter d.port) refl (word_both (decimal d.ahead) (port_letter d.port)
    (word_number d.ahead (let lt = h.0 in omega arith)) (word_port d.port))

-- two numbers with a dot between
word_dotted : (m n : ℕ) → m < 65536 → n < 65536 → IsWord ((decimal m ++ codes ".") ++ decimal n)
word_dotted m n h k = word_both (decimal m ++ codes ".") (decimal n) (word_both (decimal m) (codes ".") (word_number m (omega arith))
    (known (codes ".") (omega arith) refl)) (word_number n (omega arith))

word_operand : (op : Op) → HasRoom op → IsWord (operand_text op)
word_operand (Apply1 op) h = word_none
word_operand (Apply2 op) h = word_none
word_operand (Apply2Right op z) h = word_more 114 (35 ∷ literal z) refl (word_more 35 (literal z) refl (word_literal z h))
word_operand (Apply2Left op z) h = word_more 108 (35 ∷ literal z) refl (word_more 35 (literal z) refl (word_literal z h))
word_operand (Lit z) h = word_more 35 (literal z) refl (word_literal z h)
word_operand Copy h = word_none
word_operand Sync h = word_none
word_operand Switch h = word_none
word_operand (Fetch a) h = word_more 97 (decimal a) refl (word_number a (omega arith))
word_operand (Store a) h = word_more 97 (decimal a) refl (word_number a (omega arith))
word_operand Frame h = word_none
word_operand (Link b) h = word_more 98 (decimal b) refl (word_number b (omega arith))
word_operand (Send b e) h = word_more 98 ((decimal b ++ codes ".") ++ decimal e) refl (word_dotted b e h.0 h.1)
word_operand (Return o) h = word_more 111 (decimal o) refl (word_number o (omega arith))
word_operand (Ask o) h = word_more 111 (decimal o) refl (word_number o (omega arith))
word_operand (Open k) h = word_more 107 (decimal k) refl (word_number k (omega arith))
word_operand (Take k) h = word_more 107 (decimal k) refl (word_number k (omega arith))
word_operand (Give k) h = word_more 107 (decimal k) refl (word_number k (omega arith))
word_operand (Drain k) h = word_more 107 (decimal k) refl (word_number k (omega arith))
word_operand (Release o) h = word_more 111 (decimal o) refl (word_number o (omega arith))

-- ---- what a line says
says_origin : (bs : List ℕ) (ws : List Word) (o : Origin) → IsPlace o → Says bs ws → Says (bs ++ origin_text o) (ws ++ origin_words o)
says_origin bs ws Untold h says = subst (λ (xs : List ℕ). Says xs (ws ++ [])) (sym (append-nil bs))
    (subst (λ (vs : List Word). Says bs vs) (sym (append-nil ws)) says)
says_origin bs ws (At b n) h says =
    let at : Word = 64 ∷ ((decimal b ++ codes ".") ++ decimal n) in
    says_field bs at ws (at ∷ []) says (says_word at (word_more 64 ((decimal b ++ codes ".") ++ decimal n) refl
    (word_dotted b n (let lt = h.0 in omega arith) (let lt = h.1 in omega arith))))

-- one more word in a column
says_column : (bs : List ℕ) (ws : List Word) (width : ℕ) (w : Word) → IsWord w → Says bs ws → Says (bs ++ field (right_in width w)) (ws ++ w ∷ [])
says_column bs ws width w h says = says_field bs (right_in width w) ws (w ∷ []) says (says_right width w h)

rereads_instr : (b : CodeBlock) (n : ℕ) (i : Instr) → n < 2 ^ 32 → HasLine b i → Rereads (instr_line n i) (instr_words n i ∷ [])
rereads_instr b n i lt h =
    let name = op_word i.op in
    let slot = slot_text (slot_of i i.op) in
    let first = dest_text i.firsts in
    let second = dest_text i.seconds in
    let operand = operand_text i.op in
    let number : Says (right_in 5 (decimal n)) (decimal n ∷ []) = says_right 5 (decimal n) (word_number n (omega arith)) in
    let two = says_field (right_in 5 (decimal n)) (left_in 8 name) (decimal n ∷ []) (name ∷ []) number (says_left 8 name (word_name i.op)) in
    let three = says_column _ _ 4 slot (word_slot b i (slot_of i i.op) h.few h.slot) two in
    let four = says_column _ _ 7 first (word_dest i.firsts h.firsts) three in
    let five = says_column _ _ 7 second (word_dest i.seconds h.seconds) four in
    let six = says_field _ operand _ (operand ∷ []) five (says_word operand (word_operand i.op h.room)) in
    let all = says_origin _ _ i.origin h.origin six in
    rereads_line _ (decimal n) (name ∷ slot ∷ first ∷ second ∷ operand ∷ origin_words i.origin) all

-- a fixed word and a number
says_key : (key : Word) (n : ℕ) → IsWord key → n < 2 ^ 32 → Says (key ++ field (decimal n)) (key ∷ decimal n ∷ [])
says_key key n h lt = says_field key (decimal n) (key ∷ []) (decimal n ∷ []) (says_word key h) (says_word (decimal n) (word_number n (omega arith)))

says_last : (bs : List ℕ) (ws : List Word) (w : Word) → IsWord w → Says bs ws → Says ((bs ++ codes " ") ++ w) (ws ++ w ∷ [])
says_last bs ws w h says = subst (λ (xs : List ℕ). Says xs (ws ++ w ∷ [])) (sym (append_assoc bs (codes " ") w))
    (says_field bs w ws (w ∷ []) says (says_word w h))

rereads_head : (v m : ℕ) → v < 2 ^ 32 → m < 2 ^ 32 → Rereads (head_line v m) (head_words v m ∷ [])
rereads_head v m h k =
    let one = says_key (codes "ets") v (known (codes "ets") (omega arith) refl) h in
    let all = says_pair (codes "ets " ++ decimal v) (codes "ets" ∷ decimal v ∷ []) (codes "main") (decimal m)
    (known (codes "main") (omega arith) refl) (word_number m (omega arith)) one in
    rereads_line _ (codes "ets") (decimal v ∷ codes "main" ∷ decimal m ∷ []) all

rereads_block_line : (n : ℕ) (b : CodeBlock) → n < 2 ^ 32 → HasNumbers b → Rereads (block_line n b.inputs b.outputs b.slots) (block_words n b ∷ [])
rereads_block_line n b lt h =
    let one = says_key (codes "block") n (known (codes "block") (omega arith) refl) lt in
    let two = says_pair (codes "block " ++ decimal n) (codes "block" ∷ decimal n ∷ []) (codes "inputs") (decimal b.inputs)
    (known (codes "inputs") (omega arith) refl) (word_number b.inputs (let few = h.inputs in omega arith)) one in
    let three = says_pair _ _ (codes "outputs") (decimal b.outputs) (known (codes "outputs") (omega arith) refl)
    (word_number b.outputs (let few = h.outputs in omega arith)) two in
    let four = says_pair _ _ (codes "slots") (decimal b.slots) (known (codes "slots") (omega arith) refl)
    (word_number b.slots (let few = h.slots in omega arith)) three in
    rereads_line _ (codes "block") _ four

rereads_array : (n len : ℕ) → n < 2 ^ 32 → len < 2 ^ 32 → Rereads (array_line n len) (array_words n len ∷ [])
rereads_array n len h k =
    let one = says_key (codes "array") n (known (codes "array") (omega arith) refl) h in
    rereads_line _ (codes "array") (decimal n ∷ decimal len ∷ []) (says_last (codes "array " ++ decimal n) (codes "array" ∷ decimal n ∷ [])
    (decimal len) (word_number len (omega arith)) one)

rereads_literal : (n : ℕ) (z : ℤ) → n < 2 ^ 32 → FitsSigned w64 z → Rereads (literal_line n z) (literal_words n z ∷ [])
rereads_literal n z h k =
    let one = says_key (codes "literal") n (known (codes "literal") (omega arith) refl) h in
    rereads_line _ (codes "literal") (decimal n ∷ literal z ∷ []) (says_last (codes "literal " ++ decimal n) (codes "literal" ∷ decimal n ∷ [])
    (literal z) (word_literal z k) one)

-- ---- all lines
rereads_all : {X : Type 0} (P : X → Type 0) (text : ℕ → X → List ℕ) (words : ℕ → X → List Word) (n : ℕ) (xs : List X)
    → ((k : ℕ) (x : X) → k < 2 ^ 32 → P x → Rereads (text k x) (words k x ∷ [])) → n + length xs ≤ 2 ^ 32 → All P xs
    → Rereads (numbered text n xs) (numbered_lines words n xs)
unfolding numbered_lines
rereads_all P text words n [] tell few all = rereads_none
rereads_all P text words n (x ∷ xs) tell few all =
    rereads_both (text n x) (numbered text (n + 1) xs) (words n x ∷ []) (numbered_lines words (n + 1) xs) (tell n x (omega arith) (All-head P x xs all))
    (rereads_all P text words (n + 1) xs tell (omega arith) (All-tail P x xs all))

rereads_block : (n : ℕ) (b : CodeBlock) → n < 2 ^ 32 → HasLines b → Rereads (Listing.block_lines n b) (block_words n b ∷ numbered_lines instr_words 0 b.instrs)
rereads_block n b lt h =
    rereads_both (block_line n b.inputs b.outputs b.slots) (numbered instr_line 0 b.instrs) (block_words n b ∷ []) (numbered_lines instr_words 0 b.instrs)
    (rereads_block_line n b lt h.numbers) (rereads_all (HasLine b) instr_line instr_words 0 b.instrs (rereads_instr b) (let few =
    h.few in omega arith) h.instrs)

rereads_blocks : (n : ℕ) (bs : List CodeBlock) → n + length bs ≤ 2 ^ 32 → All HasLines bs → Rereads (numbered Listing.block_lines n bs) (block_lines n bs)
unfolding block_lines
rereads_blocks n [] few all = rereads_none
rereads_blocks n (b ∷ bs) few all =
    rereads_both (Listing.block_lines n b) (numbered Listing.block_lines (n + 1) bs) (block_words n b ∷ numbered_lines instr_words 0 b.instrs)
    (block_lines (n + 1) bs)
    (rereads_block n b (omega arith) (All-head HasLines b bs all)) (rereads_blocks (n + 1) bs (omega arith) (All-tail HasLines b bs all))

rereads_table : (v : ℕ) (c : Code) → IsCode v c → Rereads (numbered literal_line 0 c.literals) (table_lines true c.literals)
rereads_table v c is = rereads_all (λ (z : ℤ). FitsSigned w64 z) literal_line literal_words 0 c.literals rereads_literal (let few = is.few_literals
    in omega arith) is.literals

abbrev head_and_blocks : ℕ → Code → Lines
head_and_blocks v c = head_words v c.program.main ∷ block_lines 0 c.program.blocks

abbrev array_part : Code → Lines
array_part c = numbered_lines array_words 0 c.program.arrays

rereads_program : (v : ℕ) (c : Code) → IsCode v c → Rereads (listing v c.program) (head_and_blocks v c ++ array_part c)
rereads_program v c is =
    let m = c.program.main in
    let main-few : m < 2 ^ 32 = let h = is.main in let k = is.some_block.1 in omega arith in
    let one = rereads_both (head_line v m) (numbered Listing.block_lines 0 c.program.blocks) (head_words v m ∷ []) (block_lines 0 c.program.blocks)
    (rereads_head v m (version_few v is.version_known) main-few) (rereads_blocks 0 c.program.blocks (let few = is.some_block.1 in omega arith)
    (all_lines v c is)) in
    rereads_both (head_line v m ++ numbered Listing.block_lines 0 c.program.blocks) (numbered array_line 0 c.program.arrays) (head_and_blocks v c)
    (array_part c) one (rereads_all (λ n. n < 2 ^ 32) array_line array_words 0 c.program.arrays rereads_array (let few = is.few_arrays
    in omega arith) (all_lengths v c is))

-- the lines of the listing, and of the listing with the literals
pub lines_has_listing : (v : ℕ) (c : Code) → IsCode v c → lines_in (listing v c.program) ≡ code_lines false v c
lines_has_listing v c is =
    reread (listing v c.program) (head_and_blocks v c ++ array_part c) (rereads_program v c is) ∙ ap (λ (more : Lines). head_and_blocks v c ++ more)
    (sym (append-nil (array_part c)))

pub lines_with_literals : (v : ℕ) (c : Code) → IsCode v c → lines_in (listing_with_literals v c) ≡ code_lines true v c
lines_with_literals v c is =
    let table : Lines = table_lines true c.literals in
    let all = rereads_both (listing v c.program) (numbered literal_line 0 c.literals) (head_and_blocks v c ++ array_part c) table
    (rereads_program v c is) (rereads_table v c is) in
    reread (listing_with_literals v c) ((head_and_blocks v c ++ array_part c) ++ table) all ∙ append_assoc (head_and_blocks v c) (array_part c) table
