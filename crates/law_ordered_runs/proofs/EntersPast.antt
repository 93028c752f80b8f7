-- THE ENTERS OF A PART are of conditionals of that part: none comes before it.
use Rattle.std.proofs.Common.{◌≡◌, ℕ, ◌≤◌, Bool, true, false, List, [], ◌∷◌, ◌++◌, map, refl, sym, ap, ◌∙◌, arith}
use Rattle.operators.specs.declared.Unary.{Unary}
use Rattle.operators.specs.declared.Unary.TheVariants.{Neg, Not}
use Rattle.semantics.specs.declared.graph.Region.{Region}
use Rattle.semantics.specs.declared.graph.Region.TheVariants.{Arm}
use Rattle.semantics.specs.declared.graph.Source.{Source}
use Rattle.semantics.specs.declared.graph.Kind.TheVariants as node
use Rattle.lemmas.proofs.Permutations.{Each, each_append}
use Rattle.source.specs.Tree.{Name, Expr, Number, Named, Bracket, Prefix, Infix, Fetch, Store, Call, If, Loop, Exprs, One, More, Body, Let, Do, Give, Chain}
use Rattle.source.specs.Tree.{Program}
use Rattle.source.specs.Outside.{outside_body}
use Rattle.source.specs.Lowered.{Made, made, Lowered, Site, Spot, Scope, spot_after, next_spot, first_of, prefixed, or_predicate, source_in, entered_names}
use Rattle.source.specs.Lowered.{arm_site, arm_scope, arm, merges, chosen, let_scoped, lower, lower_list, lower_body, call_kind}

module _ (p : Program) (lo : ℕ) where
  -- if it is an enter, its conditional is at lo or past it
  abbrev pub Past : Made → Type 0
  Past m = (k : ℕ) (side : Bool) → m.node.kind ≡ node.Enter → m.node.region ≡ Arm k side → lo ≤ k

  ended_past : (ms : List Made) (m : Made) → (m.node.kind ≡ node.Enter → ⊥) → Each Past ms → Each Past (ms ++ m ∷ [])
  ended_past ms m other h = each_append Past ms (m ∷ []) h ((λ k side e f. absurd (other e)), tt)

  call_past : (strict : Bool) (f : Name) → call_kind strict f ≡ node.Enter → ⊥
  call_past true f e = cc
  call_past false f e = cc

  prefixed_past : (site : Site) (spot : Spot) (at : ℕ) (op : Unary) (e : Expr) (l : Lowered) → Each Past l.nodes → Each Past (prefixed site spot at op e l).nodes
  prefixed_past site spot at Neg (Number u k) l h = ((λ k side e f. cc), tt)
  prefixed_past site spot at Neg (Named u x) l h = ended_past l.nodes _ (λ e. cc) h
  prefixed_past site spot at Neg (Bracket e) l h = ended_past l.nodes _ (λ e. cc) h
  prefixed_past site spot at Neg (Prefix u op e) l h = ended_past l.nodes _ (λ e. cc) h
  prefixed_past site spot at Neg (Infix u s e d) l h = ended_past l.nodes _ (λ e. cc) h
  prefixed_past site spot at Neg (Fetch u a e) l h = ended_past l.nodes _ (λ e. cc) h
  prefixed_past site spot at Neg (Store u a e d) l h = ended_past l.nodes _ (λ e. cc) h
  prefixed_past site spot at Neg (Call u t f' es) l h = ended_past l.nodes _ (λ e. cc) h
  prefixed_past site spot at Neg (If u q x y) l h = ended_past l.nodes _ (λ e. cc) h
  prefixed_past site spot at Neg (Loop u k f' t) l h = ended_past l.nodes _ (λ e. cc) h
  prefixed_past site spot at Not e l h = ended_past l.nodes _ (λ e. cc) h

  -- CONDITIONALS
  abbrev conditional_of : Region → ℕ
  conditional_of (Arm k side) = k
  conditional_of r = 0

  enters_past : (here : Site) (at cond : ℕ) (side : Bool) (ss : List Source) → here.region ≡ Arm cond side → lo ≤ cond
      → Each Past (map (λ (s : Source). made here at node.Enter (s ∷ [])) ss)
  enters_past here at cond side [] e low = tt
  enters_past here at cond side (s ∷ ss) e low =
      ((λ k t f r. (let same : cond ≡ k = ap conditional_of (sym e ∙ r) in omega (arith, same, low))), enters_past here at cond side ss e low)

  merges_past : (site : Site) (at cond : ℕ) (ss ts : List Source) → Each Past (merges site at cond ss ts)
  merges_past site at cond (s ∷ ss) (t ∷ ts) = ((λ k side e f. cc), merges_past site at cond ss ts)
  merges_past site at cond (s ∷ ss) [] = tt
  merges_past site at cond [] ts = tt

  chosen_past : (site : Site) (k : Spot) (at : ℕ) (predicate : List Source) (l r : Lowered) → Each Past l.nodes → Each Past r.nodes
      → Each Past (chosen site k at predicate l r).nodes
  chosen_past site k at predicate l r h i = (
    (λ k side e f. cc),
    each_append Past (l.nodes ++ r.nodes) (merges site at k.next l.sources r.sources) (each_append Past l.nodes r.nodes h i)
        (merges_past site at k.next l.sources r.sources),
  )

  arm_past : (site : Site) (cond : ℕ) (side : Bool) (spot : Spot) (at : ℕ) (scope : Scope) (predicate : Source) (xs : List Name)
      (body : Site → Spot → Scope → Lowered) → lo ≤ cond → lo ≤ spot.next
      → ((here : Site) (inner : Spot) (names : Scope) → lo ≤ inner.next → Each Past (body here inner names).nodes)
      → Each Past (arm site cond side spot at scope predicate xs body).nodes
  arm_past site cond side spot at scope predicate xs body low next f =
      let here = arm_site site cond side spot in
      let l : Lowered = entered_names here spot at scope predicate xs in
      each_append Past l.nodes (body here (spot_after spot l) (arm_scope l xs)).nodes
      (enters_past here at cond side (or_predicate predicate (map (source_in scope) xs)) refl low) (f here (spot_after spot l) (arm_scope l xs) (omega (arith, next)))

  mutual
    past : (site : Site) (spot : Spot) (scope : Scope) (e : Expr) → lo ≤ spot.next → Each Past (lower p site spot scope e).nodes
    past site spot scope (Number at n) low = ((λ k side e f. cc), tt)
    past site spot scope (Named at x) low = tt
    past site spot scope (Bracket e) low = past site spot scope e low
    past site spot scope (Prefix at op e) low = prefixed_past site spot at op e (lower p site spot scope e) (past site spot scope e low)
    past site spot scope (Infix at s e d) low =
        let l = lower p site spot scope e in let r = lower p site (spot_after spot l) scope d in
        ended_past (l.nodes ++ r.nodes) _ (λ e. cc)
        (each_append Past l.nodes r.nodes (past site spot scope e low) (past site (spot_after spot l) scope d (omega (arith, low))))
    past site spot scope (Fetch at a e) low = ended_past (lower p site spot scope e).nodes _ (λ e. cc) (past site spot scope e low)
    past site spot scope (Store at a e d) low =
        let l = lower p site spot scope e in let r = lower p site (spot_after spot l) scope d in
        ended_past (l.nodes ++ r.nodes) _ (λ e. cc)
        (each_append Past l.nodes r.nodes (past site spot scope e low) (past site (spot_after spot l) scope d (omega (arith, low))))
    past site spot scope (Call at strict f es) low =
        ended_past (lower_list p site spot scope es).nodes _ (call_past strict f) (list_past site spot scope es low)
    past site spot scope (If at q l r) low =
        let c : Lowered = lower p site spot scope q in let k : Spot = spot_after spot c in
        let x : Lowered = arm site k.next true (next_spot k) at scope (first_of c.sources) (outside_body l)
        (λ here inner names. lower_body p here inner names l) in
        let y : Lowered = arm site k.next false (spot_after (next_spot k) x) at scope (first_of c.sources) (outside_body r)
        (λ here inner names. lower_body p here inner names r) in
        each_append Past c.nodes (chosen site k at c.sources x y).nodes (past site spot scope q low)
        (chosen_past site k at c.sources x y
        (arm_past site k.next true (next_spot k) at scope (first_of c.sources) (outside_body l) (λ here inner names. lower_body p here inner names l)
        (omega (arith, low)) (omega (arith, low)) (λ here inner names w. body_past here inner names l w))
        (arm_past site k.next false (spot_after (next_spot k) x) at scope (first_of c.sources) (outside_body r)
        (λ here inner names. lower_body p here inner names r) (omega (arith, low)) (omega (arith, low)) (λ here inner names w. body_past here inner names r w)))
    past site spot scope (Loop at bound firsts turn) low =
        ended_past (lower_list p site spot scope firsts).nodes _ (λ e. cc) (list_past site spot scope firsts low)

    list_past : (site : Site) (spot : Spot) (scope : Scope) (es : Exprs) → lo ≤ spot.next → Each Past (lower_list p site spot scope es).nodes
    list_past site spot scope (One e) low = past site spot scope e low
    list_past site spot scope (More e es) low =
        let l = lower p site spot scope e in
        each_append Past l.nodes (lower_list p site (spot_after spot l) scope es).nodes (past site spot scope e low)
        (list_past site (spot_after spot l) scope es (omega (arith, low)))

    pub body_past : (site : Site) (spot : Spot) (scope : Scope) (body : Body) → lo ≤ spot.next → Each Past (lower_body p site spot scope body).nodes
    body_past site spot scope (Let at targets es rest) low =
        let l = lower_list p site spot scope es in
        each_append Past l.nodes (lower_body p site (spot_after spot l) (let_scoped targets l.sources scope) rest).nodes (list_past site spot scope es low)
        (body_past site (spot_after spot l) (let_scoped targets l.sources scope) rest (omega (arith, low)))
    body_past site spot scope (Do es rest) low =
        let l = lower_list p site spot scope es in
        each_append Past l.nodes (lower_body p site (spot_after spot l) scope rest).nodes (list_past site spot scope es low)
        (body_past site (spot_after spot l) scope rest (omega (arith, low)))
    body_past site spot scope (Give es) low = list_past site spot scope es low
    body_past site spot scope (Chain e) low = past site spot scope e low
