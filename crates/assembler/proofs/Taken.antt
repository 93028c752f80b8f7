-- A line that is read is the line that is written.
use Rattle.std.proofs.Common.{◌≡◌, ℕ, eqb, Bool, true, false, cond, List, [], ◌∷◌, Option, Some, None, Result, Ok, Err, ℤ, refl, ap, subst, ◌∙◌}
use Rattle.std.specs.Prelude.{⊤, codes, ok_or, option_to_list}
use Rattle.std.specs.Fmt.{decimal}
use Rattle.std.specs.Str.{bytes_eq}
use Rattle.std.proofs.lemmas.Bool.{eqb-true}
use Rattle.std.proofs.lemmas.Slice.Eq.{bytes_eq-Decides}
use Rattle.tags.specs.declared.value.Origin.{Origin}
use Rattle.tags.specs.declared.value.Origin.TheVariants.{Untold}
use Rattle.semantics.specs.declared.program.Op.{Op}
use Rattle.semantics.specs.declared.program.Dest.{Dest}
use Rattle.semantics.specs.Program.{Instr, CodeBlock, uses_slot}
use Rattle.semantics.specs.Rule.{slot_of}
use Rattle.semantics.specs.Text.{literal}
use Rattle.disassembler.specs.Listing.{slot_text, dest_text, operand_text}
use Rattle.disassembler.specs.Listing as Listing
use Rattle.graph_file.specs.Giving.{◌>>=◌}
use Rattle.graph_file.specs.Fields.{number_of, literal_of}
use Rattle.graph_file.proofs.Binds.{bind_ok}
use Rattle.graph_file.proofs.Marks.{number_is, literal_is}
use Rattle.assembler.specs.declared.fault.AsmFaultKind.{AsmFaultKind}
use Rattle.assembler.specs.declared.fault.AsmFaultKind.TheVariants.{BadLine, BadNumber, BadName, BadSlot, BadDestination, BadOperand, BadOrigin}
use Rattle.assembler.specs.Words.{Word}
use Rattle.assembler.specs.Grammar.{head_words, block_words, origin_words, instr_words, array_words, literal_words}
use Rattle.semantics.specs.Opcodes.{opcode_named, op_word}
use Rattle.semantics.proofs.OperatorWords.{opcode_is}
use Rattle.assembler.specs.Fields.{op_of, slot_from, dest_of, origin_of}
use Rattle.assembler.specs.Lines.{word_from, none_from, key_from, number_from, count_from, keyed_from, head_from, block_from, array_from}
use Rattle.assembler.specs.Lines.{literal_from, origin_from, op_from, Tail, tail_from, named_from, instr_from}
use Rattle.assembler.proofs.Spelled.{op_is, slot_is, dest_is, origin_is}

abbrev done : {A : Type 0} → A → Result A AsmFaultKind
done x = Ok x

pub ok_is : {A : Type 0} (x y : A) → done x ≡ done y → x ≡ y
ok_is x y e = cc

pub ok_or_is : {A : Type 0} (o : Option A) (k : AsmFaultKind) (x : A) → ok_or o k ≡ done x → o ≡ Some x
ok_or_is (Some y) k x e = cc
ok_or_is None k x e = absurd cc

pub word_takes : (ws : List Word) (x : Word × List Word) → word_from ws ≡ Ok x → ws ≡ x.0 ∷ x.1
unfolding word_from
word_takes [] x e = absurd cc
word_takes (w ∷ ws) x e = let k = ok_is (w, ws) x e in ap (λ (p : Word × List Word). p.0 ∷ p.1) k

none_takes : (ws : List Word) (x : ⊤) → none_from ws ≡ Ok x → ws ≡ []
unfolding none_from
none_takes [] x e = refl
none_takes (w ∷ ws) x e = absurd cc

key_takes : (key : Word) (ws r : List Word) → key_from key ws ≡ Ok r → ws ≡ key ∷ r
unfolding key_from
key_takes key ws r e =
    let b = bind_ok (word_from ws) (λ w. cond (bytes_eq w.0 key) (Ok w.1) (Err BadLine)) r e in
    let w = word_takes ws b.0 b.1 in
    go b.0 (bytes_eq b.0.0 key) refl w b.2
  where
    go : (x : Word × List Word) (t : Bool) → bytes_eq x.0 key ≡ t → ws ≡ x.0 ∷ x.1 → cond (bytes_eq x.0 key) (done x.1) (Err BadLine) ≡ done r → ws ≡ key ∷ r
    go x true t is h =
        let k : done x.1 ≡ done r = rw t at h in
        is ∙ ap (λ (w : Word). w ∷ x.1) ((bytes_eq-Decides x.0 key).0 t) ∙ ap (λ (ys : List Word). key ∷ ys) (ok_is x.1 r k)
    go x false t is h = absurd (let k : Err BadLine ≡ done r = rw t at h in cc)

number_takes : (ws : List Word) (x : ℕ × List Word) → number_from ws ≡ Ok x → ws ≡ decimal x.0 ∷ x.1
unfolding number_from
number_takes ws x e =
    let b = bind_ok (word_from ws) (λ w. ok_or (number_of w.0) BadNumber >>= λ n. Ok (n, w.1)) x e in
    let c = bind_ok (ok_or (number_of b.0.0) BadNumber) (λ n. Ok (n, b.0.1)) x b.2 in
    let n = number_is b.0.0 c.0 (ok_or_is (number_of b.0.0) BadNumber c.0 c.1) in
    word_takes ws b.0 b.1 ∙ ap (λ (w : Word). w ∷ b.0.1) n.0 ∙ ap (λ (p : ℕ × List Word). decimal p.0 ∷ p.1) (ok_is (c.0, b.0.1) x c.2)

count_takes : (n : ℕ) (ws r : List Word) → count_from n ws ≡ Ok r → ws ≡ decimal n ∷ r
unfolding count_from
count_takes n ws r e =
    let b = bind_ok (number_from ws) (λ m. cond (eqb m.0 n) (Ok m.1) (Err BadNumber)) r e in
    go b.0 (eqb b.0.0 n) refl (number_takes ws b.0 b.1) b.2
  where
    go : (x : ℕ × List Word) (t : Bool) → eqb x.0 n ≡ t → ws ≡ decimal x.0 ∷ x.1 → cond (eqb x.0 n) (done x.1) (Err BadNumber) ≡ done r → ws ≡ decimal n ∷ r
    go x true t is h =
        let k : done x.1 ≡ done r = rw t at h in
        is ∙ ap (λ (m : ℕ). decimal m ∷ x.1) (eqb-true x.0 n t) ∙ ap (λ (ys : List Word). decimal n ∷ ys) (ok_is x.1 r k)
    go x false t is h = absurd (let k : Err BadNumber ≡ done r = rw t at h in cc)

keyed_takes : (key : Word) (ws : List Word) (x : ℕ × List Word) → keyed_from key ws ≡ Ok x → ws ≡ key ∷ decimal x.0 ∷ x.1
unfolding keyed_from
keyed_takes key ws x e =
    let b = bind_ok (key_from key ws) (λ rest. number_from rest) x e in
    key_takes key ws b.0 b.1 ∙ ap (λ (ys : List Word). key ∷ ys) (number_takes b.0 x b.2)

pub head_takes : (ws : List Word) (x : ℕ × ℕ) → head_from ws ≡ Ok x → ws ≡ head_words x.0 x.1
unfolding head_from
head_takes ws x e =
    let v = bind_ok (keyed_from (codes "ets") ws) (λ v. keyed_from (codes "main") v.1 >>= λ m. none_from m.1 >>= λ none. Ok (v.0, m.0)) x e in
    let m = bind_ok (keyed_from (codes "main") v.0.1) (λ m. none_from m.1 >>= λ none. Ok (v.0.0, m.0)) x v.2 in
    let n = bind_ok (none_from m.0.1) (λ none. Ok (v.0.0, m.0.0)) x m.2 in
    keyed_takes (codes "ets") ws v.0 v.1
    ∙ ap (λ (ys : List Word). codes "ets" ∷ decimal v.0.0 ∷ ys) (keyed_takes (codes "main") v.0.1 m.0 m.1
    ∙ ap (λ (ys : List Word). codes "main" ∷ decimal m.0.0 ∷ ys) (none_takes m.0.1 n.0 n.1))
    ∙ ap (λ (p : ℕ × ℕ). head_words p.0 p.1) (ok_is (v.0.0, m.0.0) x n.2)

abbrev made_block : ℕ → ℕ → ℕ → CodeBlock
made_block i o s = record { inputs = i; outputs = o; slots = s; instrs = [] }

abbrev BlockTakes : ℕ → List Word → CodeBlock → Type 0
BlockTakes n ws b = (codes "block" ∷ ws ≡ block_words n b) × (b.instrs ≡ [])

pub block_takes : (n : ℕ) (ws : List Word) (b : CodeBlock) → block_from n ws ≡ Ok b → BlockTakes n ws b
unfolding block_from
block_takes n ws b e =
    let r = bind_ok (count_from n ws) (λ rest. keyed_from (codes "inputs") rest >>= λ i. keyed_from (codes "outputs") i.1 >>= λ o. keyed_from
    (codes "slots") o.1 >>= λ s. none_from s.1 >>= λ none. Ok (made_block i.0 o.0 s.0)) b e in
    let i = bind_ok (keyed_from (codes "inputs") r.0) (λ i. keyed_from (codes "outputs") i.1 >>= λ o. keyed_from (codes "slots") o.1 >>= λ s.
    none_from s.1 >>= λ none. Ok (made_block i.0 o.0 s.0)) b r.2 in
    let o = bind_ok (keyed_from (codes "outputs") i.0.1) (λ o. keyed_from (codes "slots") o.1 >>= λ s. none_from s.1 >>= λ none. Ok
    (made_block i.0.0 o.0 s.0)) b i.2 in
    let s = bind_ok (keyed_from (codes "slots") o.0.1) (λ s. none_from s.1 >>= λ none. Ok (made_block i.0.0 o.0.0 s.0)) b o.2 in
    let z = bind_ok (none_from s.0.1) (λ none. Ok (made_block i.0.0 o.0.0 s.0.0)) b s.2 in
    let k : made_block i.0.0 o.0.0 s.0.0 ≡ b = ok_is (made_block i.0.0 o.0.0 s.0.0) b z.2 in
    let four : s.0.1 ≡ [] = none_takes s.0.1 z.0 z.1 in
    let three : o.0.1 ≡ codes "slots" ∷ decimal s.0.0 ∷ [] = keyed_takes (codes "slots") o.0.1 s.0 s.1
    ∙ ap (λ (ys : List Word). codes "slots" ∷ decimal s.0.0 ∷ ys) four in
    let two : i.0.1 ≡ codes "outputs" ∷ decimal o.0.0 ∷ codes "slots" ∷ decimal s.0.0 ∷ [] = keyed_takes (codes "outputs") i.0.1 o.0 o.1
    ∙ ap (λ (ys : List Word). codes "outputs" ∷ decimal o.0.0 ∷ ys) three in
    let one : r.0 ≡ codes "inputs" ∷ decimal i.0.0 ∷ codes "outputs" ∷ decimal o.0.0 ∷ codes "slots" ∷ decimal s.0.0
    ∷ [] = keyed_takes (codes "inputs") r.0 i.0 i.1 ∙ ap (λ (ys : List Word). codes "inputs" ∷ decimal i.0.0 ∷ ys) two in
    let all : BlockTakes n ws (made_block i.0.0 o.0.0 s.0.0) = (
      ap (λ (ys : List Word). codes "block" ∷ ys) (count_takes n ws r.0 r.1
          ∙ ap (λ (ys : List Word). decimal n ∷ ys) one),
      refl,
    ) in
    subst (BlockTakes n ws) k all

pub array_takes : (n : ℕ) (ws : List Word) (len : ℕ) → array_from n ws ≡ Ok len → codes "array" ∷ ws ≡ array_words n len
unfolding array_from
array_takes n ws len e =
    let r = bind_ok (count_from n ws) (λ rest. number_from rest >>= λ m. none_from m.1 >>= λ none. Ok m.0) len e in
    let m = bind_ok (number_from r.0) (λ m. none_from m.1 >>= λ none. Ok m.0) len r.2 in
    let z = bind_ok (none_from m.0.1) (λ none. Ok m.0.0) len m.2 in
    let rest : r.0 ≡ decimal m.0.0 ∷ [] = number_takes r.0 m.0 m.1 ∙ ap (λ (ys : List Word). decimal m.0.0 ∷ ys) (none_takes m.0.1 z.0 z.1) in
    ap (λ (ys : List Word). codes "array" ∷ ys) (count_takes n ws r.0 r.1 ∙ ap (λ (ys : List Word). decimal n ∷ ys) rest)
    ∙ ap (λ (x : ℕ). array_words n x) (ok_is m.0.0 len z.2)

pub literal_takes : (n : ℕ) (ws : List Word) (z : ℤ) → literal_from n ws ≡ Ok z → codes "literal" ∷ ws ≡ literal_words n z
unfolding literal_from
literal_takes n ws z e =
    let r = bind_ok (count_from n ws) (λ rest. word_from rest >>= λ w. ok_or (literal_of w.0) BadNumber >>= λ y. none_from w.1 >>= λ none. Ok y) z e in
    let w = bind_ok (word_from r.0) (λ w. ok_or (literal_of w.0) BadNumber >>= λ y. none_from w.1 >>= λ none. Ok y) z r.2 in
    let y = bind_ok (ok_or (literal_of w.0.0) BadNumber) (λ y. none_from w.0.1 >>= λ none. Ok y) z w.2 in
    let x = bind_ok (none_from w.0.1) (λ none. Ok y.0) z y.2 in
    let l = literal_is w.0.0 y.0 (ok_or_is (literal_of w.0.0) BadNumber y.0 y.1) in
    let rest : r.0 ≡ literal y.0 ∷ [] = word_takes r.0 w.0 w.1 ∙ ap (λ (v : Word). v ∷ w.0.1) l.0 ∙ ap (λ (ys : List Word). literal y.0 ∷ ys)
    (none_takes w.0.1 x.0 x.1) in
    ap (λ (ys : List Word). codes "literal" ∷ ys) (count_takes n ws r.0 r.1 ∙ ap (λ (ys : List Word). decimal n ∷ ys) rest)
    ∙ ap (λ (v : ℤ). literal_words n v) (ok_is y.0 z x.2)

origin_takes : (ws : List Word) (o : Origin) → origin_from ws ≡ Ok o → ws ≡ origin_words o
unfolding origin_from
origin_takes [] o e = let k : Untold ≡ o = ok_is Untold o e in ap origin_words k
origin_takes (w ∷ []) o e = origin_is w o (ok_or_is (origin_of w) BadOrigin o e)
origin_takes (w ∷ x ∷ ws) o e = absurd cc

abbrev OpTakes : Word → Word → Op → Type 0
OpTakes name operand op = (name ≡ op_word op) × (operand ≡ operand_text op)

op_takes : (name operand : Word) (op : Op) → op_from name operand ≡ Ok op → OpTakes name operand op
unfolding op_from
op_takes name operand op e =
    let n = bind_ok (ok_or (opcode_named name) BadName) (λ n. ok_or (op_of n operand) BadOperand) op e in
    let is = op_is n.0 operand op (ok_or_is (op_of n.0 operand) BadOperand op n.2) in
    (opcode_is name n.0 (ok_or_is (opcode_named name) BadName n.0 n.1) ∙ is.0, is.1)

tail_takes : (ws : List Word) (t : Tail) → tail_from ws ≡ Ok t → ws ≡ t.0 ∷ t.1 ∷ t.2 ∷ t.3 ∷ t.4
unfolding tail_from
tail_takes ws t e =
    let s = bind_ok (word_from ws) (λ s. word_from s.1 >>= λ d. word_from d.1 >>= λ x. word_from x.1 >>= λ o. Ok (s.0, d.0, x.0, o.0, o.1)) t e in
    let d = bind_ok (word_from s.0.1) (λ d. word_from d.1 >>= λ x. word_from x.1 >>= λ o. Ok (s.0.0, d.0, x.0, o.0, o.1)) t s.2 in
    let x = bind_ok (word_from d.0.1) (λ x. word_from x.1 >>= λ o. Ok (s.0.0, d.0.0, x.0, o.0, o.1)) t d.2 in
    let o = bind_ok (word_from x.0.1) (λ o. Ok (s.0.0, d.0.0, x.0.0, o.0, o.1)) t x.2 in
    let made : Tail = (s.0.0, d.0.0, x.0.0, o.0.0, o.0.1) in
    word_takes ws s.0 s.1 ∙ ap (λ (ys : List Word). s.0.0 ∷ ys) (word_takes s.0.1 d.0 d.1
    ∙ ap (λ (ys : List Word). d.0.0 ∷ ys) (word_takes d.0.1 x.0 x.1 ∙ ap (λ (ys : List Word). x.0.0 ∷ ys) (word_takes x.0.1 o.0 o.1)))
    ∙ ap (λ (y : Tail). y.0 ∷ y.1 ∷ y.2 ∷ y.3 ∷ y.4) (ok_is made t o.2)

five : (a p b q c r d s : Word) (e t : List Word) → a ≡ p → b ≡ q → c ≡ r → d ≡ s → e ≡ t → a ∷ b ∷ c ∷ d ∷ e ≡ p ∷ q ∷ r ∷ s ∷ t
five a p b q c r d s e t h i j k l = rw (h, i, j, k, l) refl

abbrev pub made_instr : Op → ℕ → Option Dest → Option Dest → Origin → Instr
made_instr op slot d e origin = record { op = op; origin = origin; slot = slot; firsts = option_to_list d; seconds = option_to_list e }

abbrev behind_name : Instr → List Word
behind_name i = slot_text (slot_of i i.op) ∷ dest_text i.firsts ∷ dest_text i.seconds ∷ operand_text i.op ∷ origin_words i.origin

abbrev NamedTakes : Word → Tail → Instr → Type 0
NamedTakes name t i = (name ≡ op_word i.op) × (t.0 ∷ t.1 ∷ t.2 ∷ t.3 ∷ t.4 ≡ behind_name i)

abbrev pub dests_from : Tail → Op → ℕ → Result Instr AsmFaultKind
dests_from t op slot = ok_or (dest_of t.1) BadDestination >>= λ d. ok_or (dest_of t.2) BadDestination >>= λ x. origin_from t.4 >>= λ origin. Ok
    (made_instr op slot d x origin)

dests_take : (name : Word) (t : Tail) (op : Op) (slot : ℕ) (i : Instr) → OpTakes name t.3 op → slot_from (uses_slot op) t.0 ≡ Some slot
    → dests_from t op slot ≡ Ok i → NamedTakes name t i
dests_take name t op slot i o s e =
    let d = bind_ok (ok_or (dest_of t.1) BadDestination) (λ d. ok_or (dest_of t.2) BadDestination >>= λ x. origin_from t.4 >>= λ origin. Ok
    (made_instr op slot d x origin)) i e in
    let x = bind_ok (ok_or (dest_of t.2) BadDestination) (λ x. origin_from t.4 >>= λ origin. Ok (made_instr op slot d.0 x origin)) i d.2 in
    let g = bind_ok (origin_from t.4) (λ origin. Ok (made_instr op slot d.0 x.0 origin)) i x.2 in
    let made : Instr = made_instr op slot d.0 x.0 g.0 in
    let written : t.0 ≡ slot_text (slot_of made op) = slot_is made t.0 s in
    let first = dest_is t.1 d.0 (ok_or_is (dest_of t.1) BadDestination d.0 d.1) in
    let second = dest_is t.2 x.0 (ok_or_is (dest_of t.2) BadDestination x.0 x.1) in
    let origin = origin_takes t.4 g.0 g.1 in
    let all : NamedTakes name t made = (
      o.0,
      five t.0 (slot_text (slot_of made op)) t.1 (dest_text (option_to_list d.0)) t.2
          (dest_text (option_to_list x.0)) t.3 (operand_text op) t.4 (origin_words g.0) written first second o.1 origin,
    ) in
    subst (NamedTakes name t) (ok_is made i g.2) all

named_takes : (name : Word) (t : Tail) (i : Instr) → named_from name t ≡ Ok i → NamedTakes name t i
unfolding named_from
named_takes name t i e =
    let o = bind_ok (op_from name t.3) (λ op. ok_or (slot_from (uses_slot op) t.0) BadSlot >>= λ slot. dests_from t op slot) i e in
    let s = bind_ok (ok_or (slot_from (uses_slot o.0) t.0) BadSlot) (λ slot. dests_from t o.0 slot) i o.2 in
    dests_take name t o.0 s.0 i (op_takes name t.3 o.0 o.1) (ok_or_is (slot_from (uses_slot o.0) t.0) BadSlot s.0 s.1) s.2

pub instr_takes : (n : ℕ) (ws : List Word) (i : Instr) → instr_from n ws ≡ Ok i → ws ≡ instr_words n i
unfolding instr_from
instr_takes n ws i e =
    let r = bind_ok (count_from n ws) (λ rest. word_from rest >>= λ name. tail_from name.1 >>= λ t. named_from name.0 t) i e in
    let m = bind_ok (word_from r.0) (λ name. tail_from name.1 >>= λ t. named_from name.0 t) i r.2 in
    let t = bind_ok (tail_from m.0.1) (λ t. named_from m.0.0 t) i m.2 in
    let k = named_takes m.0.0 t.0 i t.2 in
    let rest : r.0 ≡ op_word i.op ∷ behind_name i = word_takes r.0 m.0 m.1 ∙ ap (λ (w : Word). w ∷ m.0.1) k.0
    ∙ ap (λ (ys : List Word). op_word i.op ∷ ys) (tail_takes m.0.1 t.0 t.1 ∙ k.1) in
    count_takes n ws r.0 r.1 ∙ ap (λ (ys : List Word). decimal n ∷ ys) rest
