-- A part is lowered to a source for each of its values.
use Rattle.std.proofs.Common.{◌≡◌, ℕ, suc, Bool, true, false, List, [], ◌∷◌, length, refl, sym, ◌∙◌, ap, arith, length-append}
use Rattle.semantics.specs.declared.graph.Source.{Source}
use Rattle.source.specs.Tree.{NameAt, Expr, Number, Named, Bracket, Prefix, Infix, Fetch, Store, Call, If, Loop, Exprs, One, More, Body, Let, Do}
use Rattle.source.specs.Tree.{Give, Chain, Program, names_of}
use Rattle.source.specs.Outside.{bare, outside_body}
use Rattle.source.specs.Lowered.{Lowered, Site, Spot, Scope, lower, lower_list, lower_body, merges, spot_after, let_scoped, arm, first_of, next_spot}
use Rattle.source.proofs.CountedSources.{ports_length, inputs_count, prefixed_one}
use Rattle.lowering.specs.Counts.{many, list_many, body_many, Counted, ListCounted, BodyCounted}

pub so_many_merges : (site : Site) (at cond : ℕ) (ss ts : List Source) → length ss ≡ length ts → length (merges site at cond ss ts) ≡ length ss
so_many_merges site at cond [] ts e = refl
so_many_merges site at cond (s ∷ ss) [] e = cc
so_many_merges site at cond (s ∷ ss) (t ∷ ts) e = ap suc (so_many_merges site at cond ss ts (omega (arith, e)))

pub so_many_bare : (xs : List NameAt) → length (bare xs) ≡ length xs
so_many_bare [] = refl
so_many_bare (x ∷ xs) = ap suc (so_many_bare xs)

-- an arm with its body
abbrev pub arm_of : Program → Site → ℕ → Bool → Spot → ℕ → Scope → Source → Body → Lowered
arm_of p site cond side spot at scope predicate b =
    arm site cond side spot at scope predicate (outside_body b) (λ here inner names. lower_body p here inner names b)

mutual
  pub so_many : (p : Program) (site : Site) (spot : Spot) (scope : Scope) (e : Expr) → Counted p e → length (lower p site spot scope e).sources ≡ many p e
  so_many p site spot scope (Number at n) c = refl
  so_many p site spot scope (Named at x) c = refl
  so_many p site spot scope (Bracket e) c = so_many p site spot scope e c
  so_many p site spot scope (Prefix at op e) c = prefixed_one site spot at op e (lower p site spot scope e)
  so_many p site spot scope (Infix at s l r) c = refl
  so_many p site spot scope (Fetch at a e) c = refl
  so_many p site spot scope (Store at a e d) c = refl
  so_many p site spot scope (Call at strict f es) c = ports_length _ 0 _
  so_many p site spot scope (If at q l r) c =
      let k : Spot = spot_after spot (lower p site spot scope q) in
      let predicate : Source = first_of (lower p site spot scope q).sources in
      let a : Lowered = arm_of p site k.next true (next_spot k) at scope predicate l in
      let b : Lowered = arm_of p site k.next false (spot_after (next_spot k) a) at scope predicate r in
      let x : length a.sources ≡ body_many p l = so_many_given p _ _ _ l c.2 in
      let y : length b.sources ≡ body_many p r = so_many_given p _ _ _ r c.3 in
      inputs_count _ _ ∙ so_many_merges site at k.next a.sources b.sources (x ∙ c.4 ∙ sym y) ∙ x
  so_many p site spot scope (Loop at bound firsts turn) c = ports_length _ 0 _ ∙ so_many_bare (names_of turn)

  pub so_many_all : (p : Program) (site : Site) (spot : Spot) (scope : Scope) (es : Exprs) → ListCounted p es
      → length (lower_list p site spot scope es).sources ≡ list_many p es
  so_many_all p site spot scope (One e) c = so_many p site spot scope e c
  so_many_all p site spot scope (More e es) c =
      let l : Lowered = lower p site spot scope e in let r : Lowered = lower_list p site (spot_after spot l) scope es in
      omega (arith, length-append l.sources r.sources, so_many p site spot scope e c.0, so_many_all p site (spot_after spot l) scope es c.1)

  pub so_many_given : (p : Program) (site : Site) (spot : Spot) (scope : Scope) (b : Body) → BodyCounted p b
      → length (lower_body p site spot scope b).sources ≡ body_many p b
  so_many_given p site spot scope (Let at targets es rest) c =
      let l : Lowered = lower_list p site spot scope es in so_many_given p site (spot_after spot l) (let_scoped targets l.sources scope) rest c.1
  so_many_given p site spot scope (Do es rest) c =
      let l : Lowered = lower_list p site spot scope es in so_many_given p site (spot_after spot l) scope rest c.1
  so_many_given p site spot scope (Give es) c = so_many_all p site spot scope es c
  so_many_given p site spot scope (Chain e) c = so_many p site spot scope e c
