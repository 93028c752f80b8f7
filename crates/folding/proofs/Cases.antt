-- What folding does to an instruction, stated without the names of folds.
use Rattle.std.proofs.Common.{◌≡◌, refl, sym, ap, ◌∙◌, ℕ, ℤ, ◌+◌, Bool, true, false, true≢false, Some}
use Rattle.std.specs.Prelude.{pos, slice_get}
use Rattle.tags.specs.declared.token.Port.{Port}
use Rattle.tags.specs.declared.token.Port.TheVariants.{Left, Right}
use Rattle.operators.specs.declared.Binary.{Binary}
use Rattle.semantics.specs.declared.program.Dest.{Dest}
use Rattle.semantics.specs.declared.program.Op.{Op}
use Rattle.semantics.specs.declared.program.Op.TheVariants.{Apply2, Apply2Right, Apply2Left, Lit}
use Rattle.semantics.specs.Program.{Instr, CodeBlock}
use Rattle.semantics.specs.Plan.{Plan}
use Rattle.semantics.specs.Orderly.{eq_port}
use Rattle.folding.specs.declared.folds.Fold.{Fold}
use Rattle.folding.specs.declared.folds.Fold.TheVariants.{Unchanged, OnRight, LeftLiteral}
use Rattle.folding.specs.Namers.{namer_of, namers_of}
use Rattle.folding.specs.Folds.{is_folded, is_closed, new_port, new_op}
use Rattle.folding.specs.Places.{layout_of, folds_at}
use Rattle.folding.specs.Laws.{dests_of, TakesLiteral}
use Rattle.folding.proofs.Naming.{knows_namers}
use Rattle.folding.proofs.Taken.{folds_on_right, folds_on_left}
use Rattle.folding.proofs.Sole.{this_one}
use Rattle.std.proofs.lemmas.Option.{slice_get_within}
use Rattle.folding.proofs.Named.{same_number}

-- the port of the operand that is in the code, and the operand
abbrev port_in : Fold → Port
port_in (LeftLiteral z) = Left
port_in f = Right

abbrev value_in : Fold → ℤ
value_in (OnRight z) = z
value_in (LeftLiteral z) = z
value_in Unchanged = pos 0

module _ (p : Plan) (c : CodeBlock) where
  abbrev pub port_at : ℕ → Port
  port_at m = port_in (folds_at (layout_of p c) m)

  abbrev pub value_at : ℕ → ℤ
  value_at m = value_in (folds_at (layout_of p c) m)

  pub record KeptAt (m : ℕ) : Type 0 where
    pub folded : is_folded (folds_at (layout_of p c) m) ≡ false
    pub port : (q : Port) → new_port (folds_at (layout_of p c) m) q ≡ q
    pub op : (op : Op) → new_op (folds_at (layout_of p c) m) op ≡ op
    pub shut : (q : Port) → is_closed (folds_at (layout_of p c) m) q ≡ false

  pub record FoldedAt (m : ℕ) (qc : Port) : Type 0 where
    pub folded : is_folded (folds_at (layout_of p c) m) ≡ true
    pub port : (q : Port) → new_port (folds_at (layout_of p c) m) q ≡ Left
    pub shut : (q : Port) → is_closed (folds_at (layout_of p c) m) q ≡ eq_port q qc
    pub closed : port_at m ≡ qc
    pub i : Instr
    pub o : Binary
    pub there : slice_get c.instrs m ≡ Some i
    pub was : i.op ≡ Apply2 o

  abbrev pub RightAt : ℕ → Type 0
  RightAt m = FoldedAt m Right × ((o : Binary) → new_op (folds_at (layout_of p c) m) (Apply2 o) ≡ Apply2Right o (value_at m))

  abbrev pub LeftAt : ℕ → Type 0
  LeftAt m = FoldedAt m Left × ((o : Binary) → new_op (folds_at (layout_of p c) m) (Apply2 o) ≡ Apply2Left o (value_at m))

  pub data FoldCase (m : ℕ) : Type 0 where
    is_kept : KeptAt m → FoldCase m
    is_right : RightAt m → FoldCase m
    is_left : LeftAt m → FoldCase m

  pub fold_cases : (m : ℕ) → FoldCase m
  fold_cases m = go (folds_at (layout_of p c) m) refl
    where
      right_shut : (z : ℤ) (q : Port) → is_closed (OnRight z) q ≡ eq_port q Right
      right_shut z Left = refl
      right_shut z Right = refl

      left_shut : (z : ℤ) (q : Port) → is_closed (LeftLiteral z) q ≡ eq_port q Left
      left_shut z Left = refl
      left_shut z Right = refl

      go : (f : Fold) → folds_at (layout_of p c) m ≡ f → FoldCase m
      go Unchanged e = is_kept record {
        folded = ap is_folded e;
        port = λ q. ap (λ (f : Fold). new_port f q) e;
        op = λ op. ap
            (λ (f : Fold). new_op f op) e;
        shut = λ q. ap (λ (f : Fold). is_closed f q) e;
      }
      go (OnRight z) e =
          let T = folds_on_right p c m z e in
          is_right (
            record {
              folded = ap is_folded e;
              port = λ q. ap (λ (f : Fold). new_port f q) e;
              shut = λ q. ap (λ (f : Fold). is_closed f q) e ∙ right_shut z q;
              closed = ap port_in e;
              i = T.operator.0;
              o = T.operator.1;
              there = T.operator.2;
              was = T.operator.3;
            },
            λ o. ap (λ (f : Fold). new_op f (Apply2 o)) e ∙ ap (λ (f : Fold). Apply2Right o (value_in f)) (sym e),
          )
      go (LeftLiteral z) e =
          let T = folds_on_left p c m z e in
          is_left (
            record {
              folded = ap is_folded e;
              port = λ q. ap (λ (f : Fold). new_port f q) e;
              shut = λ q. ap (λ (f : Fold). is_closed f q) e ∙ left_shut z q;
              closed = ap port_in e;
              i = T.operator.0;
              o = T.operator.1;
              there = T.operator.2;
              was = T.operator.3;
            },
            λ o. ap (λ (f : Fold). new_op f (Apply2 o)) e ∙ ap (λ (f : Fold). Apply2Left o (value_in f)) (sym e),
          )

  lit_same : (y z : ℤ) → Lit y ≡ Lit z → y ≡ z
  lit_same y z e = cc

  some_op : (i j : Instr) → Some i ≡ Some j → i.op ≡ j.op
  some_op i j e = let d : i ≡ j = cc in ap (λ (x : Instr). x.op) d

  -- What names a closed port is the literal that the operator has in its code.
  pub closed_by : (k x : ℕ) (i : Instr) (s : Bool) (d : Dest) → slice_get c.instrs k ≡ Some i → slice_get (dests_of i s) x ≡ Some d
      → is_closed (folds_at (layout_of p c) (k + d.ahead)) d.port ≡ true
      → (i.op ≡ Lit (value_at (k + d.ahead))) × (d.port ≡ port_at (k + d.ahead))
  closed_by k x i s d at there shut = go (folds_at (layout_of p c) (k + d.ahead)) d.port refl refl shut
    where
      by : (q : Port) (z : ℤ) → d.port ≡ q → TakesLiteral p c (k + d.ahead) q z → i.op ≡ Lit z
      by q z e T =
          let l = slice_get_within c.instrs (k + d.ahead) T.operator.0 T.operator.2 in
          let named = knows_namers p c k x i s d at there l in
          let same : k ≡ T.lit = same_number k T.lit s T.lit_side (this_one k T.lit s T.lit_side (namer_of (namers_of p c) (k + d.ahead) d.port) named
          (ap (namer_of (namers_of p c) (k + d.ahead)) e ∙ T.alone)) in
          some_op i T.literal.0 (sym at ∙ ap (slice_get c.instrs) same ∙ T.literal.1) ∙ T.literal.2

      go : (f : Fold) (q : Port) → folds_at (layout_of p c) (k + d.ahead) ≡ f → d.port ≡ q → is_closed f q ≡ true
          → (i.op ≡ Lit (value_at (k + d.ahead))) × (d.port ≡ port_at (k + d.ahead))
      go (OnRight z) Right e f h = (by Right z f (folds_on_right p c (k + d.ahead) z e) ∙ ap (λ (y : Fold). Lit (value_in y)) (sym e), f ∙ sym (ap port_in e))
      go (LeftLiteral z) Left e f h = (by Left z f (folds_on_left p c (k + d.ahead) z e) ∙ ap (λ (y : Fold). Lit (value_in y)) (sym e), f ∙ sym (ap port_in e))
      go (OnRight z) Left e f h = absurd (true≢false (sym h))
      go (LeftLiteral z) Right e f h = absurd (true≢false (sym h))
      go Unchanged q e f h = absurd (true≢false (sym h))
