-- Lists that are counted up.
use Rattle.std.proofs.Common.{◌≡◌, ℕ, ◌+◌, ◌-◌, ◌<◌, suc, List, [], ◌∷◌, ◌++◌, Option, None, ap, sym, ◌∙◌, arith, append_assoc}
use Rattle.tags.specs.declared.value.Value.{Value}
use Rattle.oracle.specs.declared.report.Full.{Full}
use Rattle.oracle.specs.Acting.{held_in}
use Rattle.oracle.specs.Running.{nones, full_if, full_from}
use Rattle.oracle.specs.declared.tokens.Token.{Token}
use Rattle.oracle.specs.declared.tokens.Spot.{Spot}
use Rattle.oracle.specs.declared.tokens.Spot.TheVariants.{Operand, Flag}
use Rattle.oracle.specs.declared.sending.Sent.{Sent}
use Rattle.oracle.specs.Lines.{operand_spots}
use Rattle.oracle.specs.Sending.{flag_tokens, token_at}

pub less_one : (i n : ℕ) → i < n → n - i ≡ suc (n - (i + 1))
less_one i n h = omega (arith, h)

pub spots_more : (n i count : ℕ) (all so_far : List Spot) → i < count → all ≡ so_far ++ operand_spots n i (count - i) → all
    ≡ (so_far ++ Operand n i ∷ []) ++ operand_spots n (i + 1) (count - (i + 1))
spots_more n i count all so_far h e = e ∙ ap (λ k. so_far ++ operand_spots n i k) (less_one i count h)
    ∙ sym (append_assoc so_far (Operand n i ∷ []) (operand_spots n (i + 1) (count - (i + 1))))

pub flags_more : (x : Sent) (i count : ℕ) (all so_far : List Token) → i < count → all ≡ so_far ++ flag_tokens x (i + 1) (count - i)
    → all ≡ (so_far ++ token_at x (Flag (i + 1)) ∷ []) ++ flag_tokens x (i + 1 + 1) (count - (i + 1))
flags_more x i count all so_far h e =
    e ∙ ap (λ k. so_far ++ flag_tokens x (i + 1) k) (less_one i count h)
    ∙ sym (append_assoc so_far (token_at x (Flag (i + 1)) ∷ []) (flag_tokens x (i + 1 + 1) (count - (i + 1))))

pub nones_more : (i count : ℕ) (all so_far : List (Option Value)) → i < count → all ≡ so_far ++ nones (count - i) → all ≡ (so_far ++ None ∷ [])
    ++ nones (count - (i + 1))
nones_more i count all so_far h e = e ∙ ap (λ k. so_far ++ nones k) (less_one i count h) ∙ sym (append_assoc so_far (None ∷ []) (nones (count - (i + 1))))

next_place : (x i : ℕ) → x + i + 1 ≡ x + (i + 1)
next_place x i = omega arith

pub full_more : (cells : List (Option Value)) (a x i count : ℕ) (all so_far : List Full) → i < count → all ≡ so_far ++ full_from cells a (x + i) i (count - i)
    → all ≡ (so_far ++ full_if a i (held_in cells (x + i))) ++ full_from cells a (x + (i + 1)) (i + 1) (count - (i + 1))
full_more cells a x i count all so_far h e =
    let k = count - (i + 1) in
    e
    ∙ ap (λ k. so_far ++ full_from cells a (x + i) i k) (less_one i count h)
    ∙ ap (λ y. so_far ++ (full_if a i (held_in cells (x + i)) ++ full_from cells a y (i + 1) k)) (next_place x i)
    ∙ sym (append_assoc so_far (full_if a i (held_in cells (x + i))) (full_from cells a (x + (i + 1)) (i + 1) k))
