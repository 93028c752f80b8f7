-- THE FORMS of parts, from what holds of their parts.
use Rattle.std.proofs.Common.{◌≡◌, ℕ, ◌+◌, ◌<◌, Bool, true, false, List, [], ◌∷◌, ◌++◌, length, reverse, inl, inr, refl, sym, ap, ◌∙◌, subst, arith}
use Rattle.std.proofs.Common.{length-append, FitsSigned}
use Rattle.std.specs.Prelude.{◌⊎◌, ℤ, Contains}
use Rattle.std.specs.Int.{w64}
use Rattle.lemmas.proofs.Lists.{one_element}
use Rattle.lemmas.proofs.Permutations.{Each, each_append, each_append_back}
use Rattle.operators.specs.declared.Unary.{Unary}
use Rattle.operators.specs.declared.Unary.TheVariants.{Neg, Not}
use Rattle.operators.specs.Values.{on_int}
use Rattle.semantics.specs.declared.graph.Region.TheVariants.{Arm}
use Rattle.semantics.specs.declared.graph.Source.{Source}
use Rattle.semantics.specs.declared.graph.Kind.{Kind}
use Rattle.semantics.specs.declared.graph.Kind.TheVariants as node
use Rattle.semantics.specs.Graph.{Block, Graph, array_names}
use Rattle.semantics.specs.WellFormed.{HasShape, HasPortOf, NamesWell, AllLieIn, LiesWell}
use Rattle.source.specs.declared.word.InfixSign.{InfixSign}
use Rattle.source.specs.declared.word.InfixSign.TheVariants.{Direct, Greater, AtLeast}
use Rattle.source.specs.Tree.{Name, Expr, Number, Named, Bracket, Prefix, Infix, Fetch, Store, Call, If, Loop}
use Rattle.source.specs.Fits.{Fits, IsLeast}
use Rattle.source.specs.Evaluates.{signed}
use Rattle.source.specs.Lowered.{Lowered, Site, Spot, only, joined, ended, literal, prefixed, operands, operator_of, call_kind, first_of, chosen}
use Rattle.law_language.specs.LoweredWell.{LiteralFits, IsGoodSource, AreGood, IsSite, IsIncluded, IsWell}
use Rattle.law_language.proofs.LoweredSources.{region_later, site_later, joined_well, first_held, rest_held}
use Rattle.law_language.proofs.LoweredEnding.{only_well, plain_node, inner_held, ended_well}
use Rattle.law_language.proofs.LoweredLiterals.{negated_fits}
use Rattle.law_language.proofs.LoweredArms.{IsCondIn, cond_later, parts_held, cond_is, chosen_well}

-- OPERANDS
two_of : (ss us : List Source) → length ss ≡ 1 → length us ≡ 1 → length (ss ++ us) ≡ 2
two_of ss us e f = omega (arith, length-append ss us, e, f)

operands_two : (s : InfixSign) (ss us : List Source) → length ss ≡ 1 → length us ≡ 1 → length (operands s (ss ++ us)) ≡ 2
operands_two (Direct op) ss us e f = two_of ss us e f
operands_two Greater ss us e f =
    let x = one_element ss e in let y = one_element us f in
    ap (λ ss. length (reverse (ss ++ us))) x.1 ∙ ap (λ us. length (reverse (x.0 ∷ us))) y.1
operands_two AtLeast ss us e f =
    let x = one_element ss e in let y = one_element us f in
    ap (λ ss. length (reverse (ss ++ us))) x.1 ∙ ap (λ us. length (reverse (x.0 ∷ us))) y.1

operands_each : (P : Source → Type 0) (s : InfixSign) (ss us : List Source) → length ss ≡ 1 → length us ≡ 1 → Each P ss → Each P us
    → Each P (operands s (ss ++ us))
operands_each P (Direct op) ss us e f h k = each_append P ss us h k
operands_each P Greater ss us e f h k =
    let x = one_element ss e in
    let y = one_element us f in
    subst (λ ss. Each P (reverse (ss ++ us))) (sym x.1) (subst (λ us. Each P (reverse (x.0 ∷ us))) (sym y.1)
    ((subst (Each P) y.1 k).0, ((subst (Each P) x.1 h).0, tt)))
operands_each P AtLeast ss us e f h k =
    let x = one_element ss e in
    let y = one_element us f in
    subst (λ ss. Each P (reverse (ss ++ us))) (sym x.1) (subst (λ us. Each P (reverse (x.0 ∷ us))) (sym y.1)
    ((subst (Each P) y.1 k).0, ((subst (Each P) x.1 h).0, tt)))

pub first_each : (P : Source → Type 0) (ss : List Source) → length ss ≡ 1 → Each P ss → P (first_of ss)
first_each P [] e h = absurd (omega (arith, e))
first_each P (s ∷ ss) e h = h.0

-- SIGNS before an operand: one literal, or a node of its own
abbrev Signed : Site → Spot → ℕ → Unary → Expr → Lowered → Type 0
Signed site spot at op e l =
    ((k : ℕ) × (prefixed site spot at op e l ≡ literal site spot at (node.Lit (on_int Neg (signed k)))))
    ⊎ (Fits e × (prefixed site spot at op e l ≡ ended site spot l at (node.Apply1 op) l.sources 1))

but_none : {A : Type 0} → A ⊎ ⊥ → A
but_none (inl a) = a
but_none (inr none) = absurd none

sign_is : (site : Site) (spot : Spot) (at : ℕ) (op : Unary) (e : Expr) (l : Lowered) → Fits e ⊎ IsLeast op e → Signed site spot at op e l
sign_is site spot at Neg (Number u k) l h = inl (k, refl)
sign_is site spot at Neg (Named u x) l h = inr (but_none h, refl)
sign_is site spot at Neg (Bracket e) l h = inr (but_none h, refl)
sign_is site spot at Neg (Prefix u op e) l h = inr (but_none h, refl)
sign_is site spot at Neg (Infix u s e d) l h = inr (but_none h, refl)
sign_is site spot at Neg (Fetch u a e) l h = inr (but_none h, refl)
sign_is site spot at Neg (Store u a e d) l h = inr (but_none h, refl)
sign_is site spot at Neg (Call u b f es) l h = inr (but_none h, refl)
sign_is site spot at Neg (If u q a b) l h = inr (but_none h, refl)
sign_is site spot at Neg (Loop u b f t) l h = inr (but_none h, refl)
sign_is site spot at Not e l h = inr (but_none h, refl)

module _ (g : Graph) (b : Block Name) (site : Site) (spot : Spot) (at : ℕ) where
  abbrev Well : ℕ → Lowered → Type 0
  Well n l = IsIncluded g b site.function n l → IsWell g b site.function site.region n l

  -- a node after a part
  pub node_well : (l : Lowered) (kind : Kind Name) (ss : List Source) (values : ℕ) → IsSite g b site spot.next → NamesWell g kind (length ss)
      → (AllLieIn b site.region ss → LiesWell b (spot.next + length l.nodes) site.region kind ss) → LiteralFits kind →
      ((k : ℕ) → k < values → HasPortOf g kind k ss)
      → Well spot.next l → (IsWell g b site.function site.region spot.next l → AreGood g b site.region (spot.next + length l.nodes) ss)
      → Well spot.next (ended site spot l at kind ss values)
  node_well l kind ss values here names lie fits ports inner good held =
      let n : ℕ = spot.next + length l.nodes in
      let w = inner (inner_held g b site spot l at kind ss values held) in
      ended_well g b site spot l at kind ss values site.region held w
      (plain_node g b n site.region kind ss (region_later b spot.next n site.region (omega arith) here.region) names lie (good w) fits) ports

  pub literal_well : (z : ℤ) → FitsSigned w64 z → IsSite g b site spot.next → Well spot.next (literal site spot at (node.Lit z))
  literal_well z fits here held =
      node_well (only []) (node.Lit z) (site.trigger ∷ []) 1 here refl (λ h. h) fits (λ k h. omega (arith, h))
      (λ h. only_well g b site.function site.region spot.next [] tt)
      (λ w. ((site_later g b site spot.next (spot.next + 0) (omega arith) here).trigger, tt)) held

  pub prefix_well : (op : Unary) (e : Expr) (l : Lowered) → IsSite g b site spot.next → Fits e ⊎ IsLeast op e → (Fits e → Well spot.next l)
      → length l.sources ≡ 1
      → Well spot.next (prefixed site spot at op e l)
  prefix_well op e l here fits inner one held = go (sign_is site spot at op e l fits)
    where
      go : Signed site spot at op e l → IsWell g b site.function site.region spot.next (prefixed site spot at op e l)
      go (inl (k, is)) =
          subst (IsWell g b site.function site.region spot.next) (sym is)
          (literal_well (on_int Neg (signed k)) (negated_fits k) here (subst (IsIncluded g b site.function spot.next) is held))
      go (inr (fits, is)) =
          subst (IsWell g b site.function site.region spot.next) (sym is)
          (node_well l (node.Apply1 op) l.sources 1 here one (λ h. h) tt (λ k h. omega (arith, h)) (inner fits) (λ w. w.sources)
          (subst (IsIncluded g b site.function spot.next) is held))

  pub both_well : (l r : Lowered) → Well spot.next l → Well (spot.next + length l.nodes) r → Well spot.next (joined l r)
  both_well l r x y held =
      joined_well g b site.function site.region spot.next l r (x (first_held g b site.function site.region spot.next l r held))
      (y (rest_held g b site.function site.region spot.next l r held))

  both_good : (l r : Lowered) → IsWell g b site.function site.region spot.next (joined l r)
      → AreGood g b site.region (spot.next + length (joined l r).nodes) l.sources × AreGood g b site.region (spot.next + length (joined l r).nodes) r.sources
  both_good l r w = each_append_back (λ s. IsGoodSource g b site.region (spot.next + length (joined l r).nodes) s) l.sources r.sources w.sources

  pub infix_well : (s : InfixSign) (l r : Lowered) → IsSite g b site spot.next → length l.sources ≡ 1 → length r.sources ≡ 1 → Well spot.next l
      → Well (spot.next + length l.nodes) r
      → Well spot.next (ended site spot (joined l r) at (node.Apply2 (operator_of s)) (operands s (l.sources ++ r.sources)) 1)
  infix_well s l r here left right x y held =
      node_well (joined l r) (node.Apply2 (operator_of s)) (operands s (l.sources ++ r.sources)) 1 here (operands_two s l.sources r.sources left right)
      (λ h. h) tt
      (λ k h. omega (arith, h)) (both_well l r x y)
      (λ w. operands_each (λ z. IsGoodSource g b site.region (spot.next + length (joined l r).nodes) z) s l.sources r.sources left right
      (both_good l r w).0 (both_good l r w).1)
      held

  pub store_well : (a : Name) (l r : Lowered) → IsSite g b site spot.next → Contains (array_names g) a → length l.sources ≡ 1 → length r.sources ≡ 1
      → Well spot.next l → Well (spot.next + length l.nodes) r
      → Well spot.next (ended site spot (joined l r) at (node.Store a) (l.sources ++ r.sources) 1)
  store_well a l r here there left right x y held =
      node_well (joined l r) (node.Store a) (l.sources ++ r.sources) 1 here (there, two_of l.sources r.sources left right) (λ h. h) tt
      (λ k h. omega (arith, h)) (both_well l r x y) (λ w. w.sources) held

  pub call_well : (strict : Bool) (f : Name) (l : Lowered) (values : ℕ) → IsSite g b site spot.next → HasShape g f (length l.sources) values → Well spot.next l
      → Well spot.next (ended site spot l at (call_kind strict f) l.sources values)
  call_well true f l values here shape inner held =
      node_well l (node.StrictCall f) l.sources values here (values, shape) (λ h. h) tt (λ k h. (shape.0, shape.1, omega (arith, h, shape.3))) inner
      (λ w. w.sources) held
  call_well false f l values here shape inner held =
      node_well l (node.Call f) l.sources values here (values, shape) (λ h. h) tt (λ k h. (shape.0, shape.1, omega (arith, h, shape.3))) inner
      (λ w. w.sources) held

  -- a conditional, from its arms
  pub chosen_from : (predicate : List Source) (l r : Lowered) → IsSite g b site spot.next → AreGood g b site.region spot.next predicate → length predicate ≡ 1
      → (IsCondIn g b site.region spot.next (spot.next + 1) → IsIncluded g b site.function (spot.next + 1) l → IsWell g b site.function (Arm spot.next true)
      (spot.next + 1) l)
      → (IsCondIn g b site.region spot.next (spot.next + 1 + length l.nodes) → IsIncluded g b site.function (spot.next + 1 + length l.nodes) r
      → IsWell g b site.function (Arm spot.next false) (spot.next + 1 + length l.nodes) r)
      → Well spot.next (chosen site spot at predicate l r)
  chosen_from predicate l r here good one x y held =
      let parts = parts_held g b site spot at predicate l r held in
      let c = cond_is g b site spot at predicate l r parts in
      chosen_well g b site spot at predicate l r here.region good one parts (x c parts.left)
      (y (cond_later g b site.region spot.next (spot.next + 1) (spot.next + 1 + length l.nodes) (omega arith) c) parts.right)
