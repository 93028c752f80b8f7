-- The tokens that an activity takes, one by one.
use Rattle.std.proofs.Common.{◌≡◌, ℕ, suc, ◌+◌, ◌<◌, ◌⊎◌, inl, inr, List, [], ◌∷◌, length, refl, ap, ◌∙◌, arith}
use Rattle.tags.specs.declared.value.Value.{Value}
use Rattle.semantics.specs.Meaning.{Context, Statement, AtNode, AtOut, AtTurn, Port, Tagged, tagged, Activity, taken, operands_from, deed, on_block}
use Rattle.semantics.specs.Meaning.{on_node, fired, fired_in, input_passed, gated, passed, block_number, block_numbered, block_of}
use Rattle.semantics.specs.Meaning as Meaning
use Rattle.lemmas.proofs.Permutations.{Within, Each, put_first, each_weaker}
use Rattle.law_confluence.proofs.ActivityKeys.{within_one}
use Rattle.oracle.specs.Lines.{operand_spots}
use Rattle.oracle.specs.Meant.{statement_of, port_of}

abbrev pub OperandAt : Context → Statement → ℕ → List Value → Tagged → Type 0
OperandAt c s from vs y = (i : ℕ) × (y.context ≡ c) × (y.statement ≡ s) × (y.port ≡ Meaning.Operand (from + i)) × (i < length vs)

pub operand_at : (c : Context) (s : Statement) (from : ℕ) (vs : List Value) (y : Tagged) → Within y (operands_from c s from vs) → OperandAt c s from vs y
operand_at c s from [] y h = absurd h.1
operand_at c s from (v ∷ vs) y (zs, inl p) = (
  0,
  ap (λ (t : Tagged). t.context) p.0,
  ap (λ (t : Tagged). t.statement) p.0,
  ap (λ (t : Tagged). t.port) p.0
      ∙ ap Meaning.Operand (omega arith),
  omega arith,
)
operand_at c s from (v ∷ vs) y (zs, inr p) =
    let r = operand_at c s (from + 1) vs y (p.0, p.2) in
    let low = r.4 in
    (suc r.0, r.1, r.2, r.3 ∙ ap Meaning.Operand (omega arith), omega (arith, low))

pub no_more : (i : ℕ) → 0 + i ≡ i
no_more i = omega arith

pub operands_each : (c : Context) (n from : ℕ) (vs : List Value)
    → Each (λ s. (v : Value) × Within (tagged c (statement_of s) (port_of s) v) (operands_from c (AtNode n) from vs)) (operand_spots n from (length vs))
operands_each c n from [] = tt
operands_each c n from (v ∷ vs) =
    let first = tagged c (AtNode n) (Meaning.Operand from) v in (
      (v, (_, put_first first (operands_from c (AtNode n) (from + 1) vs))),
      each_weaker _ _ (λ s h. (h.0, (first ∷ h.1.0, inr (h.1.0, refl, h.1.1)))) (operand_spots n (from + 1) (length vs)) (operands_each c n (from + 1) vs),
    )

pub within_two : (t u w : Tagged) → Within t (u ∷ w ∷ []) → (t ≡ u) ⊎ (t ≡ w)
within_two t u w (zs, inl h) = inl h.0
within_two t u w (zs, inr h) = inr (within_one t w (h.0, h.2))
