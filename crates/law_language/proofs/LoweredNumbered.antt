-- The blocks of a function's loops are numbered through, from 1 on.
use Rattle.std.proofs.Common.{◌≡◌, ℕ, suc, ◌+◌, ◌≤◌, Bool, true, false, List, [], ◌∷◌, ◌++◌, length, refl, subst, arith}
use Rattle.std.specs.Prelude.{⊤}
use Rattle.lemmas.proofs.Permutations.{Each, each_weaker}
use Rattle.operators.specs.declared.Unary.{Unary}
use Rattle.operators.specs.declared.Unary.TheVariants.{Neg, Not}
use Rattle.semantics.specs.declared.graph.Source.{Source}
use Rattle.source.specs.Tree.{Name, Expr, Number, Named, Bracket, Prefix, Infix, Fetch, Store, Call, If, Loop, Exprs, One, More, Body, Let, Do, Give, Chain}
use Rattle.source.specs.Tree.{Turn, Before, After, Program, names_of}
use Rattle.source.specs.Outside.{bare, outside_body, outside_turn}
use Rattle.source.specs.Lowered.{MadeBlock, Lowered, Site, Spot, Scope, spot_after, next_spot, let_scoped, scoped, prefixed, first_of, arm_site, arm_scope, arm}
use Rattle.source.specs.Lowered.{entered_names, turn_site, turn_spot, turn_scope, turn_block, lower, lower_list, lower_body, lower_turn}

-- counted on from n
abbrev pub AreNumbered : ℕ → List MadeBlock → Type 0
AreNumbered n [] = ⊤
AreNumbered n (b ∷ bs) = (b.loop ≡ n + 1) × AreNumbered (n + 1) bs

numbered_as : (n m : ℕ) (bs : List MadeBlock) → n ≡ m → AreNumbered n bs → AreNumbered m bs
numbered_as n m bs e h = subst (λ k. AreNumbered k bs) e h

numbered_both : (n : ℕ) (xs ys : List MadeBlock) → AreNumbered n xs → AreNumbered (n + length xs) ys → AreNumbered n (xs ++ ys)
numbered_both n [] ys h k = numbered_as (n + length {A = MadeBlock} []) n ys (omega arith) k
numbered_both n (x ∷ xs) ys h k = (h.0, numbered_both (n + 1) xs ys h.1 (numbered_as (n + length (x ∷ xs)) (n + 1 + length xs) ys (omega arith) k))

pub numbers_low : (n : ℕ) (bs : List MadeBlock) → AreNumbered n bs → Each (λ (b : MadeBlock). b.loop ≤ n + length bs) bs
numbers_low n [] h = tt
numbers_low n (b ∷ bs) h =
    let first = h.0 in (
      omega (arith, first),
      each_weaker (λ (b : MadeBlock). b.loop ≤ n + 1 + length bs) (λ (b : MadeBlock). b.loop ≤ n + suc (length bs))
          (λ b low. omega (arith, low)) bs (numbers_low (n + 1) bs h.1),
    )

numbered_prefix : (site : Site) (spot : Spot) (at : ℕ) (op : Unary) (e : Expr) (l : Lowered) → AreNumbered spot.loops l.blocks
    → AreNumbered spot.loops (prefixed site spot at op e l).blocks
numbered_prefix site spot at Neg (Number u k) l h = tt
numbered_prefix site spot at Neg (Named u x) l h = h
numbered_prefix site spot at Neg (Bracket e) l h = h
numbered_prefix site spot at Neg (Prefix u op e) l h = h
numbered_prefix site spot at Neg (Infix u s e d) l h = h
numbered_prefix site spot at Neg (Fetch u a e) l h = h
numbered_prefix site spot at Neg (Store u a e d) l h = h
numbered_prefix site spot at Neg (Call u b f es) l h = h
numbered_prefix site spot at Neg (If u q a b) l h = h
numbered_prefix site spot at Neg (Loop u b f t) l h = h
numbered_prefix site spot at Not e l h = h

-- the enters before an arm's body have no blocks
arm_numbered : (site : Site) (cond : ℕ) (side : Bool) (spot : Spot) (at : ℕ) (scope : Scope) (predicate : Source) (xs : List Name) (body : Site → Spot
    → Scope → Lowered)
    → ((here : Site) (inner : Spot) (names : Scope) → AreNumbered inner.loops (body here inner names).blocks)
    → AreNumbered spot.loops (arm site cond side spot at scope predicate xs body).blocks
arm_numbered site cond side spot at scope predicate xs body numbered =
    let here : Site = arm_site site cond side spot in
    let gates : Lowered = entered_names here spot at scope predicate xs in
    numbered_as (spot_after spot gates).loops spot.loops (body here (spot_after spot gates) (arm_scope gates xs)).blocks (omega arith)
    (numbered here (spot_after spot gates) (arm_scope gates xs))

module _ (p : Program) where
  mutual
    expr_numbered : (e : Expr) (site : Site) (spot : Spot) (scope : Scope) → AreNumbered spot.loops (lower p site spot scope e).blocks
    expr_numbered (Number at k) site spot scope = tt
    expr_numbered (Named at x) site spot scope = tt
    expr_numbered (Bracket e) site spot scope = expr_numbered e site spot scope
    expr_numbered (Prefix at op e) site spot scope = numbered_prefix site spot at op e (lower p site spot scope e) (expr_numbered e site spot scope)
    expr_numbered (Infix at s d e) site spot scope =
        let l : Lowered = lower p site spot scope d in
        numbered_both spot.loops l.blocks (lower p site (spot_after spot l) scope e).blocks (expr_numbered d site spot scope)
        (expr_numbered e site (spot_after spot l) scope)
    expr_numbered (Fetch at a e) site spot scope = expr_numbered e site spot scope
    expr_numbered (Store at a d e) site spot scope =
        let l : Lowered = lower p site spot scope d in
        numbered_both spot.loops l.blocks (lower p site (spot_after spot l) scope e).blocks (expr_numbered d site spot scope)
        (expr_numbered e site (spot_after spot l) scope)
    expr_numbered (Call at strict f es) site spot scope = list_numbered es site spot scope
    expr_numbered (If at q l r) site spot scope =
        let c : Lowered = lower p site spot scope q in
        let s : Spot = spot_after spot c in
        let a : Lowered = arm site s.next true (next_spot s) at scope (first_of c.sources) (outside_body l)
        (λ here inner names. lower_body p here inner names l) in
        let o : Spot = spot_after (next_spot s) a in
        let d : Lowered = arm site s.next false o at scope (first_of c.sources) (outside_body r) (λ here inner names. lower_body p here inner names r) in
        numbered_both spot.loops c.blocks (a.blocks ++ d.blocks) (expr_numbered q site spot scope)
        (numbered_both s.loops a.blocks d.blocks
        (arm_numbered site s.next true (next_spot s) at scope (first_of c.sources) (outside_body l) (λ here inner names. lower_body p here inner names l)
        (λ here inner names. body_numbered l here inner names))
        (arm_numbered site s.next false o at scope (first_of c.sources) (outside_body r) (λ here inner names. lower_body p here inner names r)
        (λ here inner names. body_numbered r here inner names)))
    expr_numbered (Loop at bound firsts turn) site spot scope =
        let xs : List Name = bare (names_of turn) in
        let outs : List Name = outside_turn turn in
        let f : Lowered = lower_list p site spot scope firsts in
        let t : Lowered = lower_turn p site.function (turn_spot spot f xs outs) at (turn_scope xs outs) turn in
        numbered_both spot.loops f.blocks (turn_block at (spot.loops + length f.blocks + 1) xs outs t ∷ t.blocks) (list_numbered firsts site spot scope)
        (refl, turn_numbered turn site.function (turn_spot spot f xs outs) at (turn_scope xs outs))

    list_numbered : (es : Exprs) (site : Site) (spot : Spot) (scope : Scope) → AreNumbered spot.loops (lower_list p site spot scope es).blocks
    list_numbered (One e) site spot scope = expr_numbered e site spot scope
    list_numbered (More e es) site spot scope =
        let l : Lowered = lower p site spot scope e in
        numbered_both spot.loops l.blocks (lower_list p site (spot_after spot l) scope es).blocks (expr_numbered e site spot scope)
        (list_numbered es site (spot_after spot l) scope)

    body_numbered : (body : Body) (site : Site) (spot : Spot) (scope : Scope) → AreNumbered spot.loops (lower_body p site spot scope body).blocks
    body_numbered (Let at targets es rest) site spot scope =
        let l : Lowered = lower_list p site spot scope es in
        let inner : Scope = let_scoped targets l.sources scope in
        numbered_both spot.loops l.blocks (lower_body p site (spot_after spot l) inner rest).blocks (list_numbered es site spot scope)
        (body_numbered rest site (spot_after spot l) inner)
    body_numbered (Do es rest) site spot scope =
        let l : Lowered = lower_list p site spot scope es in
        numbered_both spot.loops l.blocks (lower_body p site (spot_after spot l) scope rest).blocks (list_numbered es site spot scope)
        (body_numbered rest site (spot_after spot l) scope)
    body_numbered (Give es) site spot scope = list_numbered es site spot scope
    body_numbered (Chain e) site spot scope = expr_numbered e site spot scope

    turn_numbered : (turn : Turn) (f : Name) (spot : Spot) (at : ℕ) (scope : Scope) → AreNumbered spot.loops (lower_turn p f spot at scope turn).blocks
    turn_numbered (Before xs q body) f spot at scope =
        let site : Site = turn_site f in
        let c : Lowered = lower p site spot scope q in
        let s : Spot = spot_after spot c in
        let a : Lowered = arm site s.next true (next_spot s) at scope (first_of c.sources) (outside_body body)
        (λ here inner names. lower_body p here inner names body) in
        numbered_both spot.loops c.blocks (a.blocks ++ []) (expr_numbered q site spot scope)
        (numbered_both s.loops a.blocks [] (arm_numbered site s.next true (next_spot s) at scope (first_of c.sources) (outside_body body)
        (λ here inner names. lower_body p here inner names body)
        (λ here inner names. body_numbered body here inner names)) tt)
    turn_numbered (After xs body q) f spot at scope =
        let l : Lowered = lower_body p (turn_site f) spot scope body in
        let inner : Scope = scoped (bare xs) l.sources scope in
        numbered_both spot.loops l.blocks (lower p (turn_site f) (spot_after spot l) inner q).blocks (body_numbered body (turn_site f) spot scope)
        (expr_numbered q (turn_site f) (spot_after spot l) inner)

  pub blocks_numbered : (body : Body) (site : Site) (spot : Spot) (scope : Scope) → AreNumbered spot.loops (lower_body p site spot scope body).blocks
  blocks_numbered body site spot scope = body_numbered body site spot scope
