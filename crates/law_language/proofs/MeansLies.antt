-- WHERE THE LINES OF A PART LIE: in its region, or in an arm of a conditional that lies there.
use Rattle.std.proofs.Common.{◌≡◌, ℕ, ◌+◌, Bool, true, false, List, [], ◌∷◌, ◌++◌, length, map, refl, ap, subst}
use Rattle.std.proofs.lemmas.List.{length-map}
use Rattle.operators.specs.declared.Unary.{Unary}
use Rattle.operators.specs.declared.Unary.TheVariants.{Neg, Not}
use Rattle.semantics.specs.declared.graph.Region.{Region}
use Rattle.semantics.specs.declared.graph.Region.TheVariants.{Arm}
use Rattle.semantics.specs.declared.graph.Source.{Source}
use Rattle.semantics.specs.Graph.{Block, Graph, node_at}
use Rattle.semantics.specs.Meaning.{arm_of}
use Rattle.lemmas.proofs.Permutations.{Each, each_append, each_weaker}
use Rattle.source.specs.Tree.{Name, Expr, Number, Named, Bracket, Prefix, Infix, Fetch, Store, Call, If, Loop, Exprs, One, More, Body, Let, Do, Give, Chain}
use Rattle.source.specs.Tree.{Program}
use Rattle.source.specs.Outside.{outside_body}
use Rattle.source.specs.Lowered.{Made, Lowered, Site, Spot, Scope, spot_after, next_spot, first_of, prefixed, or_predicate, source_in, enters, entered_names}
use Rattle.source.specs.Lowered.{arm_site, arm_scope, arm, merges, chosen, let_scoped, lower, lower_list, lower_body}
use Rattle.source.specs.Holds.{Holds}
use Rattle.law_language.specs.MeansHolds.{resolved}
use Rattle.source.proofs.Holding.{holds_split}
use Rattle.law_language.proofs.MeansHolding.{resolved_append}

-- the way outwards from a region leads to r
pub data Inside (b : Block ℕ) (r : Region) : Region → Type 0 where
  Here : {q : Region} → q ≡ r → Inside b r q
  Further : {q : Region} (k : ℕ) (side : Bool) → q ≡ Arm k side → Inside b r (arm_of (node_at b k)) → Inside b r q

-- what lies in an arm lies in the region round it, too
pub outwards : (b : Block ℕ) (r : Region) (k : ℕ) (side : Bool) → arm_of (node_at b k) ≡ r → (q : Region) → Inside b (Arm k side) q → Inside b r q
outwards b r k side e q (Here f) = Further k side f (Here e)
outwards b r k side e q (Further j s f h) = Further j s f (outwards b r k side e (arm_of (node_at b j)) h)

abbrev pub LieIn : Block ℕ → Region → List Made → Type 0
LieIn b r ms = Each (λ (m : Made). Inside b r m.node.region) ms

pub all_outwards : (b : Block ℕ) (r : Region) (k : ℕ) (side : Bool) → arm_of (node_at b k) ≡ r → (ms : List Made) → LieIn b (Arm k side) ms → LieIn b r ms
all_outwards b r k side e ms h =
    each_weaker (λ (m : Made). Inside b (Arm k side) m.node.region) (λ (m : Made). Inside b r m.node.region) (λ m h. outwards b r k side e m.node.region h) ms h

module _ (p : Program) (g : Graph) (b : Block ℕ) where
  abbrev pub HoldsMade : ℕ → List Made → Type 0
  HoldsMade n ms = Holds b n (map (resolved g) ms)

  pub made_split : (n : ℕ) (xs ys : List Made) → HoldsMade n (xs ++ ys) → HoldsMade n xs × HoldsMade (n + length xs) ys
  made_split n xs ys h =
      let s = holds_split b n (map (resolved g) xs) (map (resolved g) ys) (subst (λ ls. Holds b n ls) (resolved_append g xs ys) h) in
      (s.0, subst (λ k. HoldsMade (n + k) ys) (length-map xs (resolved g)) s.1)

  lie_both : (r : Region) (n : ℕ) (xs ys : List Made) → HoldsMade n (xs ++ ys) → (HoldsMade n xs → LieIn b r xs)
      → (HoldsMade (n + length xs) ys → LieIn b r ys) → LieIn b r (xs ++ ys)
  lie_both r n xs ys h f k = let s = made_split n xs ys h in each_append (λ (m : Made). Inside b r m.node.region) xs ys (f s.0) (k s.1)

  -- with one line more, in the region
  lie_ended : (r : Region) (n : ℕ) (xs : List Made) (m : Made) → m.node.region ≡ r → HoldsMade n (xs ++ m ∷ []) → (HoldsMade n xs → LieIn b r xs)
      → LieIn b r (xs ++ m ∷ [])
  lie_ended r n xs m e h f = lie_both r n xs (m ∷ []) h f (λ k. (Here e, tt))

  lie_prefixed : (site : Site) (spot : Spot) (at : ℕ) (op : Unary) (e : Expr) (l : Lowered) → HoldsMade spot.next (prefixed site spot at op e l).nodes
      → (HoldsMade spot.next l.nodes → LieIn b site.region l.nodes) → LieIn b site.region (prefixed site spot at op e l).nodes
  lie_prefixed site spot at Neg (Number u k) l h f = (Here refl, tt)
  lie_prefixed site spot at Neg (Named u x) l h f = lie_ended site.region spot.next l.nodes _ refl h f
  lie_prefixed site spot at Neg (Bracket e) l h f = lie_ended site.region spot.next l.nodes _ refl h f
  lie_prefixed site spot at Neg (Prefix u op e) l h f = lie_ended site.region spot.next l.nodes _ refl h f
  lie_prefixed site spot at Neg (Infix u s e d) l h f = lie_ended site.region spot.next l.nodes _ refl h f
  lie_prefixed site spot at Neg (Fetch u a e) l h f = lie_ended site.region spot.next l.nodes _ refl h f
  lie_prefixed site spot at Neg (Store u a e d) l h f = lie_ended site.region spot.next l.nodes _ refl h f
  lie_prefixed site spot at Neg (Call u t f' es) l h f = lie_ended site.region spot.next l.nodes _ refl h f
  lie_prefixed site spot at Neg (If u q x y) l h f = lie_ended site.region spot.next l.nodes _ refl h f
  lie_prefixed site spot at Neg (Loop u k f' t) l h f = lie_ended site.region spot.next l.nodes _ refl h f
  lie_prefixed site spot at Not e l h f = lie_ended site.region spot.next l.nodes _ refl h f

  -- CONDITIONALS
  pub lie_enters : (site : Site) (spot : Spot) (at : ℕ) (ss : List Source) → LieIn b site.region (enters site spot at ss).nodes
  lie_enters site spot at [] = tt
  lie_enters site spot at (s ∷ ss) = (Here refl, lie_enters site spot at ss)

  lie_merges : (site : Site) (at cond : ℕ) (ss ts : List Source) → LieIn b site.region (merges site at cond ss ts)
  lie_merges site at cond (s ∷ ss) (t ∷ ts) = (Here refl, lie_merges site at cond ss ts)
  lie_merges site at cond (s ∷ ss) [] = tt
  lie_merges site at cond [] ts = tt

  pub lie_arm : (site : Site) (cond : ℕ) (side : Bool) (spot : Spot) (at : ℕ) (scope : Scope) (predicate : Source) (xs : List Name)
      (body : Site → Spot → Scope → Lowered)
      → ((inner : Spot) (names : Scope) → HoldsMade inner.next (body (arm_site site cond side spot) inner names).nodes
      → LieIn b (Arm cond side) (body (arm_site site cond side spot) inner names).nodes)
      → HoldsMade spot.next (arm site cond side spot at scope predicate xs body).nodes → LieIn b (Arm cond side)
      (arm site cond side spot at scope predicate xs body).nodes
  lie_arm site cond side spot at scope predicate xs body f h =
      let here = arm_site site cond side spot in
      let l : Lowered = entered_names here spot at scope predicate xs in
      lie_both (Arm cond side) spot.next l.nodes (body here (spot_after spot l) (arm_scope l xs)).nodes h
      (λ k. lie_enters here spot at (or_predicate predicate (map (source_in scope) xs))) (λ k. f (spot_after spot l) (arm_scope l xs) k)

  lie_chosen : (site : Site) (k : Spot) (at : ℕ) (predicate : List Source) (l r : Lowered) → HoldsMade k.next (chosen site k at predicate l r).nodes
      → (HoldsMade (k.next + 1) l.nodes → LieIn b (Arm k.next true) l.nodes) → (HoldsMade (k.next + 1 + length l.nodes) r.nodes
      → LieIn b (Arm k.next false) r.nodes)
      → LieIn b site.region (chosen site k at predicate l r).nodes
  lie_chosen site k at predicate l r h left right =
      let ms : List Made = merges site at k.next l.sources r.sources in
      let round : arm_of (node_at b k.next) ≡ site.region = ap arm_of h.0 in (
        Here refl,
        lie_both site.region (k.next + 1) (l.nodes ++ r.nodes) ms h.1
            (λ x.
            lie_both site.region (k.next + 1) l.nodes r.nodes x (λ y. all_outwards b site.region k.next true round l.nodes (left y))
            (λ y. all_outwards b site.region k.next false round r.nodes (right y)))
            (λ x. lie_merges site at k.next l.sources r.sources),
      )

  mutual
    pub lies : (site : Site) (spot : Spot) (scope : Scope) (e : Expr) → HoldsMade spot.next (lower p site spot scope e).nodes
        → LieIn b site.region (lower p site spot scope e).nodes
    lies site spot scope (Number at n) h = (Here refl, tt)
    lies site spot scope (Named at x) h = tt
    lies site spot scope (Bracket e) h = lies site spot scope e h
    lies site spot scope (Prefix at op e) h = lie_prefixed site spot at op e (lower p site spot scope e) h (λ k. lies site spot scope e k)
    lies site spot scope (Infix at s e d) h =
        let l = lower p site spot scope e in let r = lower p site (spot_after spot l) scope d in
        lie_ended site.region spot.next (l.nodes ++ r.nodes) _ refl h
        (λ k. lie_both site.region spot.next l.nodes r.nodes k (λ x. lies site spot scope e x) (λ x. lies site (spot_after spot l) scope d x))
    lies site spot scope (Fetch at a e) h = lie_ended site.region spot.next (lower p site spot scope e).nodes _ refl h (λ k. lies site spot scope e k)
    lies site spot scope (Store at a e d) h =
        let l = lower p site spot scope e in let r = lower p site (spot_after spot l) scope d in
        lie_ended site.region spot.next (l.nodes ++ r.nodes) _ refl h
        (λ k. lie_both site.region spot.next l.nodes r.nodes k (λ x. lies site spot scope e x) (λ x. lies site (spot_after spot l) scope d x))
    lies site spot scope (Call at strict f es) h = lie_ended site.region spot.next (lower_list p site spot scope es).nodes _ refl h
        (λ k. list_lies site spot scope es k)
    lies site spot scope (If at q l r) h =
        let c : Lowered = lower p site spot scope q in let k : Spot = spot_after spot c in
        let x : Lowered = arm site k.next true (next_spot k) at scope (first_of c.sources) (outside_body l)
        (λ here inner names. lower_body p here inner names l) in
        let y : Lowered = arm site k.next false (spot_after (next_spot k) x) at scope (first_of c.sources) (outside_body r)
        (λ here inner names. lower_body p here inner names r) in
        lie_both site.region spot.next c.nodes (chosen site k at c.sources x y).nodes h (λ i. lies site spot scope q i)
        (λ i. lie_chosen site k at c.sources x y i
        (λ j. lie_arm site k.next true (next_spot k) at scope (first_of c.sources) (outside_body l) (λ here inner names. lower_body p here inner names l)
        (λ inner names w. body_lies (arm_site site k.next true (next_spot k)) inner names l w) j)
        (λ j. lie_arm site k.next false (spot_after (next_spot k) x) at scope (first_of c.sources) (outside_body r)
        (λ here inner names. lower_body p here inner names r)
        (λ inner names w. body_lies (arm_site site k.next false (spot_after (next_spot k) x)) inner names r w) j))
    lies site spot scope (Loop at bound firsts turn) h = lie_ended site.region spot.next (lower_list p site spot scope firsts).nodes _ refl h
        (λ k. list_lies site spot scope firsts k)

    pub list_lies : (site : Site) (spot : Spot) (scope : Scope) (es : Exprs) → HoldsMade spot.next (lower_list p site spot scope es).nodes
        → LieIn b site.region (lower_list p site spot scope es).nodes
    list_lies site spot scope (One e) h = lies site spot scope e h
    list_lies site spot scope (More e es) h =
        let l = lower p site spot scope e in
        lie_both site.region spot.next l.nodes (lower_list p site (spot_after spot l) scope es).nodes h (λ k. lies site spot scope e k)
        (λ k. list_lies site (spot_after spot l) scope es k)

    pub body_lies : (site : Site) (spot : Spot) (scope : Scope) (body : Body) → HoldsMade spot.next (lower_body p site spot scope body).nodes
        → LieIn b site.region (lower_body p site spot scope body).nodes
    body_lies site spot scope (Let at targets es rest) h =
        let l = lower_list p site spot scope es in
        lie_both site.region spot.next l.nodes (lower_body p site (spot_after spot l) (let_scoped targets l.sources scope) rest).nodes h
        (λ k. list_lies site spot scope es k)
        (λ k. body_lies site (spot_after spot l) (let_scoped targets l.sources scope) rest k)
    body_lies site spot scope (Do es rest) h =
        let l = lower_list p site spot scope es in
        lie_both site.region spot.next l.nodes (lower_body p site (spot_after spot l) scope rest).nodes h (λ k. list_lies site spot scope es k)
        (λ k. body_lies site (spot_after spot l) scope rest k)
    body_lies site spot scope (Give es) h = list_lies site spot scope es h
    body_lies site spot scope (Chain e) h = lies site spot scope e h
