-- The machine on names, literals, operators and cells.
use Rattle.std.proofs.Common.{◌≡◌, ℕ, true, false, List, [], ◌∷◌, ◌++◌, length, refl, ◌∙◌, ap, arith, length-append}
use Rattle.operators.specs.declared.Unary.{Unary}
use Rattle.operators.specs.declared.Unary.TheVariants.{Neg, Not}
use Rattle.semantics.specs.declared.graph.Source.{Source}
use Rattle.semantics.specs.declared.graph.Kind.{Kind}
use Rattle.semantics.specs.declared.graph.Kind.TheVariants as node
use Rattle.source.specs.declared.word.InfixSign.{InfixSign}
use Rattle.source.specs.declared.word.Word.TheVariants as word
use Rattle.source.specs.Tree.{Name, Expr, Number, Named, Bracket, Prefix, Infix, Fetch, Store, Call, If, Loop, Program}
use Rattle.source.specs.Words.{words}
use Rattle.source.specs.Evaluates.{signed}
use Rattle.source.specs.Lowered.{Made, Lowered, lower, ended, joined, spot_after, prefixed, made, operator_of, operands}
use Rattle.lowering.specs.Counts.{many, Counted}
use Rattle.lowering.specs.Plans.{plans}
use Rattle.lowering.specs.State.{State, after, planned, noted}
use Rattle.lowering.specs.Operators.{operated, prefix, as_they_are}
use Rattle.lowering.proofs.Algebra.{and_then, both_plans, after_joined, after_operated, last_of_nodes}
use Rattle.lowering.proofs.HowMany.{so_many}
use Rattle.lowering.proofs.Says.{Says, is_numeral}

pub number_says : (p : Program) (at n : ℕ) → Says p (Number at n)
number_says p at n s ps = refl

pub name_says : (p : Program) (at : ℕ) (x : Name) → Says p (Named at x)
name_says p at x s ps = refl

pub bracket_says : (p : Program) (e : Expr) → Says p e → Says p (Bracket e)
bracket_says p e ih s ps = and_then p _ _ _ (words e) (word.Bracket ∷ []) (ih s ps) refl

-- a sign before an operand
prefix_step : (p : Program) (s : State) (at : ℕ) (op : Unary) (e : Expr) → length (lower p s.site s.spot s.scope e).sources ≡ 1
    → prefix (noted (is_numeral e) (after s (lower p s.site s.spot s.scope e))) at op (is_numeral e)
    ≡ noted (is_numeral e) (after s (prefixed s.site s.spot at op e (lower p s.site s.spot s.scope e)))
prefix_step p s at Not e one = after_operated (noted (is_numeral e) s) (lower p s.site s.spot s.scope e) at (node.Apply1 Not) 1 as_they_are one
prefix_step p s at Neg (Number u n) one =
    ap (λ (ms : List Made). record (noted true (after s (lower p s.site s.spot s.scope (Number u n)))) { nodes = ms })
    (last_of_nodes at s.nodes (made s.site u (node.Lit (signed n)) (s.site.trigger ∷ [])))
prefix_step p s at Neg (Named u x) one = after_operated (noted false s) (lower p s.site s.spot s.scope (Named u x)) at (node.Apply1 Neg) 1 as_they_are one
prefix_step p s at Neg (Bracket e) one = after_operated (noted false s) (lower p s.site s.spot s.scope (Bracket e)) at (node.Apply1 Neg) 1 as_they_are one
prefix_step p s at Neg (Prefix u op e) one = after_operated (noted false s) (lower p s.site s.spot s.scope (Prefix u op e)) at (node.Apply1 Neg) 1
    as_they_are one
prefix_step p s at Neg (Infix u g l r) one = after_operated (noted false s) (lower p s.site s.spot s.scope (Infix u g l r)) at (node.Apply1 Neg) 1
    as_they_are one
prefix_step p s at Neg (Fetch u a e) one = after_operated (noted false s) (lower p s.site s.spot s.scope (Fetch u a e)) at (node.Apply1 Neg) 1 as_they_are one
prefix_step p s at Neg (Store u a e d) one = after_operated (noted false s) (lower p s.site s.spot s.scope (Store u a e d)) at (node.Apply1 Neg) 1
    as_they_are one
prefix_step p s at Neg (Call u strict f es) one =
    after_operated (noted false s) (lower p s.site s.spot s.scope (Call u strict f es)) at (node.Apply1 Neg) 1 as_they_are one
prefix_step p s at Neg (If u q l r) one = after_operated (noted false s) (lower p s.site s.spot s.scope (If u q l r)) at (node.Apply1 Neg) 1 as_they_are one
prefix_step p s at Neg (Loop u k es t) one = after_operated (noted false s) (lower p s.site s.spot s.scope (Loop u k es t)) at (node.Apply1 Neg) 1
    as_they_are one

pub prefix_says : (p : Program) (at : ℕ) (op : Unary) (e : Expr) → Says p e → Counted p e → many p e ≡ 1 → Says p (Prefix at op e)
prefix_says p at op e ih c one s ps = and_then p _ _ _ (words e) (word.Prefix at op ∷ []) (ih s ps)
    (ap (noted false) (prefix_step p (planned s ps) at op e (so_many p s.site s.spot s.scope e c ∙ one)))

pub fetch_says : (p : Program) (at : ℕ) (a : Name) (e : Expr) → Says p e → Counted p e → many p e ≡ 1 → Says p (Fetch at a e)
fetch_says p at a e ih c one s ps =
    and_then p _ _ _ (words e) (word.Fetch at a ∷ []) (ih (noted false s) ps)
    (ap (noted false) (after_operated (planned s ps) (lower p s.site s.spot s.scope e) at (node.Fetch a) 1 as_they_are
    (so_many p s.site s.spot s.scope e c ∙ one)))

-- two operands
two : (s : State) (l r : Lowered) (at : ℕ) (kind : Kind Name) (order : List Source → List Source) → length l.sources ≡ 1 → length r.sources ≡ 1
    → operated (after (after s l) r) at kind 2 order ≡ after s (ended s.site s.spot (joined l r) at kind (order (l.sources ++ r.sources)) 1)
two s l r at kind order a b = ap (λ (t : State). operated t at kind 2 order) (after_joined s l r)
    ∙ after_operated s (joined l r) at kind 2 order (omega (arith, length-append l.sources r.sources, a, b))

pub infix_says : (p : Program) (at : ℕ) (sign : InfixSign) (l r : Expr) → Says p l → Counted p l → many p l ≡ 1 → Says p r → Counted p r → many p r ≡ 1
    → Says p (Infix at sign l r)
infix_says p at sign l r ih c one jh d only s ps =
    let a : Lowered = lower p s.site s.spot s.scope l in
    both_plans p s _ (plans l) (plans r) ps (words (Infix at sign l r))
    (and_then p _ _ _ (words l ++ word.Left ∷ words r) (word.Infix at sign ∷ [])
    (and_then p _ _ _ (words l) (word.Left ∷ words r) (ih s (plans r ++ ps)) (jh (noted false (after s a)) ps))
    (ap (noted false) (two (planned s ps) a (lower p s.site (spot_after s.spot a) s.scope r) at (node.Apply2 (operator_of sign)) (operands sign)
    (so_many p s.site s.spot s.scope l c ∙ one) (so_many p s.site (spot_after s.spot a) s.scope r d ∙ only))))

pub store_says : (p : Program) (at : ℕ) (x : Name) (l r : Expr) → Says p l → Counted p l → many p l ≡ 1 → Says p r → Counted p r → many p r ≡ 1
    → Says p (Store at x l r)
store_says p at x l r ih c one jh d only s ps =
    let a : Lowered = lower p s.site s.spot s.scope l in
    both_plans p s _ (plans l) (plans r) ps (words (Store at x l r))
    (and_then p _ _ _ (words l ++ word.Index ∷ words r) (word.Store at x ∷ [])
    (and_then p _ _ _ (words l) (word.Index ∷ words r) (ih (noted false s) (plans r ++ ps)) (jh (noted false (after s a)) ps))
    (ap (noted false) (two (planned s ps) a (lower p s.site (spot_after s.spot a) s.scope r) at (node.Store x) as_they_are
    (so_many p s.site s.spot s.scope l c ∙ one) (so_many p s.site (spot_after s.spot a) s.scope r d ∙ only))))
