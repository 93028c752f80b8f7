-- Each operator has a word and a number of its own, and each opcode of a listing a word.
use Rattle.std.proofs.Common.{◌≡◌, ℕ, ◌<◌, ◌^◌, Bool, true, false, List, [], ◌∷◌, Option, Some, None, refl, sym, ap, ◌∙◌}
use Rattle.std.specs.Prelude.{nat_lt, ◌==◌}
use Rattle.std.proofs.lemmas.Bool.{eqb-true, ltb-true}
use Rattle.std.specs.Str.{bytes_eq}
use Rattle.std.proofs.lemmas.Slice.Eq.{bytes_eq-Decides}
use Rattle.operators.specs.declared.Unary.TheVariants.{Neg, Not}
use Rattle.operators.specs.declared.Binary.{Binary}
use Rattle.operators.specs.Values.{binaries}
use Rattle.operators.proofs.Every.{each_binary, all_binary}
use Rattle.operators.specs.declared.Unary.{Unary}
use Rattle.semantics.specs.Text.{unary_word, binary_word}
use Rattle.semantics.specs.declared.program.Op.{Op}
use Rattle.semantics.specs.declared.program.Op.TheVariants as ops
use Rattle.semantics.specs.declared.opcode.Opcode.{Opcode}
use Rattle.semantics.specs.declared.opcode.Opcode.TheVariants.{Apply1, Apply2}
use Rattle.semantics.specs.declared.words.Operator.{Operator}
use Rattle.semantics.specs.declared.words.Operator.TheVariants.{One, Two}
use Rattle.semantics.specs.Words.{operator_word, operators, operator_in, operator_of}
use Rattle.semantics.specs.Opcodes.{binary_code, coded, binary_of, opcode_word, op_word, opcode_for, other_opcodes, with_operator, opcode_among}
use Rattle.semantics.specs.Opcodes.{operator_named, opcode_named}

operator_in_is : (os : List Operator) (bytes : List ℕ) (o : Operator) → operator_in os bytes ≡ Some o → bytes ≡ operator_word o
operator_in_is [] bytes o e = absurd cc
operator_in_is (x ∷ xs) bytes o e = go (bytes_eq bytes (operator_word x)) refl (operator_in_is xs bytes o)
  where
    go : (t : Bool) → bytes_eq bytes (operator_word x) ≡ t → (operator_in xs bytes ≡ Some o → bytes ≡ operator_word o) → bytes ≡ operator_word o
    go true t rec =
        let same : Some x ≡ Some o = rw t at e in
        let is : x ≡ o = cc in
        (bytes_eq-Decides bytes (operator_word x)).0 t ∙ ap operator_word is
    go false t rec = rec (let k : operator_in xs bytes ≡ Some o = rw t at e in k)

pub operator_is : (bytes : List ℕ) (o : Operator) → operator_of bytes ≡ Some o → bytes ≡ operator_word o
unfolding operator_of
operator_is bytes o e = operator_in_is operators bytes o e

pub operator_again : (o : Operator) → operator_of (operator_word o) ≡ Some o
unfolding operator_of
operator_again (One Neg) = refl
operator_again (One Not) = refl
operator_again (Two op) = each_binary (λ o. operator_of (operator_word (Two o)) ≡ Some (Two o))
    (refl, (refl, (refl, (refl, (refl, (refl, (refl, (refl, (refl, (refl, (refl, (refl, (refl, (refl, tt)))))))))))))) op

-- and a number of its own
pub binary_back : (op : Binary) → binary_of (binary_code op) ≡ Some op
binary_back = each_binary (λ op. binary_of (binary_code op) ≡ Some op)
    (refl, (refl, (refl, (refl, (refl, (refl, (refl, (refl, (refl, (refl, (refl, (refl, (refl, (refl, tt))))))))))))))

pub binary_few : (op : Binary) → binary_code op < 2 ^ 8
binary_few op = ltb-true (binary_code op) (2 ^ 8) (all_binary (λ o. nat_lt (binary_code o) (2 ^ 8)) refl op)

pub binary_numbered : (c : ℕ) (op : Binary) → binary_of c ≡ Some op → binary_code op ≡ c
binary_numbered c op e = in_list binaries e
  where
    in_list : (ops : List Binary) → coded ops c ≡ Some op → binary_code op ≡ c
    in_list [] e = absurd cc
    in_list (o ∷ os) e = go (c == binary_code o) refl (in_list os)
      where
        go : (t : Bool) → (c == binary_code o) ≡ t → (coded os c ≡ Some op → binary_code op ≡ c) → binary_code op ≡ c
        go true t rec =
            let same : Some o ≡ Some op = rw t at e in
            let is : o ≡ op = cc in
            ap binary_code (sym is) ∙ sym (eqb-true c (binary_code o) t)
        go false t rec = rec (let k : coded os c ≡ Some op = rw t at e in k)

-- THE WORDS OF ALL OPCODES
among_is : (os : List Opcode) (otherwise : Option Opcode) (w : List ℕ) (o : Opcode) → (otherwise ≡ Some o → w ≡ opcode_word o)
    → opcode_among os otherwise w ≡ Some o → w ≡ opcode_word o
among_is [] otherwise w o k e = k e
among_is (x ∷ xs) otherwise w o k e = go (bytes_eq w (opcode_word x)) refl (among_is xs otherwise w o k)
  where
    go : (t : Bool) → bytes_eq w (opcode_word x) ≡ t → (opcode_among xs otherwise w ≡ Some o → w ≡ opcode_word o) → w ≡ opcode_word o
    go true t rec =
        let same : Some x ≡ Some o = rw t at e in
        let is : x ≡ o = cc in
        (bytes_eq-Decides w (opcode_word x)).0 t ∙ ap opcode_word is
    go false t rec = rec (let k : opcode_among xs otherwise w ≡ Some o = rw t at e in k)

operator_named_is : (w : List ℕ) (o : Opcode) → operator_named w ≡ Some o → w ≡ opcode_word o
unfolding operator_named
operator_named_is w o e = go (operator_of w) refl
  where
    text : (p : Operator) → operator_word p ≡ opcode_word (with_operator p)
    text (One op) = refl
    text (Two op) = refl

    go : (m : Option Operator) → operator_of w ≡ m → w ≡ opcode_word o
    go None t = absurd (let k : None ≡ Some o = rw t at e in cc)
    go (Some p) t =
        let k : Some (with_operator p) ≡ Some o = rw t at e in
        let same : with_operator p ≡ o = cc in
        operator_is w p t ∙ text p ∙ ap opcode_word same

pub opcode_is : (w : List ℕ) (o : Opcode) → opcode_named w ≡ Some o → w ≡ opcode_word o
unfolding opcode_named
opcode_is w o e = among_is other_opcodes (operator_named w) w o (operator_named_is w o) e

-- the opcode that the word of an operation names
abbrev pub named_by : Op → Opcode
named_by (ops.Apply2Right op z) = Apply2 op
named_by (ops.Apply2Left op z) = Apply2 op
named_by op = opcode_for op

unary_again : (op : Unary) → opcode_named (unary_word op) ≡ Some (Apply1 op)
unfolding opcode_named operator_named operator_of
unary_again Neg = refl
unary_again Not = refl

binary_again : (op : Binary) → opcode_named (binary_word op) ≡ Some (Apply2 op)
unfolding opcode_named operator_named operator_of
binary_again = each_binary (λ op. opcode_named (binary_word op) ≡ Some (Apply2 op))
    (refl, (refl, (refl, (refl, (refl, (refl, (refl, (refl, (refl, (refl, (refl, (refl, (refl, (refl, tt))))))))))))))

pub word_again : (op : Op) → opcode_named (op_word op) ≡ Some (named_by op)
unfolding opcode_named operator_named operator_of
word_again (ops.Apply1 op) = unary_again op
word_again (ops.Apply2 op) = binary_again op
word_again (ops.Apply2Right op z) = binary_again op
word_again (ops.Apply2Left op z) = binary_again op
word_again (ops.Lit z) = refl
word_again ops.Copy = refl
word_again ops.Sync = refl
word_again ops.Switch = refl
word_again (ops.Fetch a) = refl
word_again (ops.Store a) = refl
word_again ops.Frame = refl
word_again (ops.Link b) = refl
word_again (ops.Send b e) = refl
word_again (ops.Return o) = refl
word_again (ops.Ask o) = refl
word_again (ops.Open k) = refl
word_again (ops.Take k) = refl
word_again (ops.Give k) = refl
word_again (ops.Drain k) = refl
word_again (ops.Release o) = refl
