-- From a side from which no wire leaves inside a block one leaves where its region's ends are joined, and from another one none.
use Rattle.std.proofs.Common.{◌≡◌, ◌≢◌, ℕ, zero, suc, ◌+◌, ◌<◌, ◌≤◌, ◌&&◌, Bool, true, false, List, [], ◌∷◌, ◌++◌, Option, Some, None}
use Rattle.std.proofs.Common.{refl, sym, ap, ◌∙◌, subst, arith, if◌then◌else◌}
use Rattle.tags.specs.declared.token.Port.{Port}
use Rattle.tags.specs.declared.token.Port.TheVariants.{Left, Right}
use Rattle.semantics.specs.declared.graph.Region.{Region}
use Rattle.semantics.specs.declared.graph.Region.TheVariants.{Root, Arm}
use Rattle.semantics.specs.declared.graph.Kind.{Kind}
use Rattle.semantics.specs.declared.graph.Kind.TheVariants.{Cond}
use Rattle.semantics.specs.Graph.{Flow, Node, Block, node_at, node_count}
use Rattle.semantics.specs.Meaning.{arm_of}
use Rattle.schemas.specs.Ends.{same_region}
use Rattle.law_confluence.specs.OrdersTotals.{one}
use Rattle.law_net.specs.ContextsParts.{Part, Entry, Line, Join, CondEnd, same_part}
use Rattle.law_net.specs.ContextsParts as Parts
use Rattle.law_net.specs.ContextsBlocks.{Side, side, Site, leaves_in, lies_in, is_switch}
use Rattle.law_net.specs.ContextsWires.{has_no_wire}
use Rattle.law_net.proofs.ContextsSames.{same_part-true}
use Rattle.law_wiring.specs.Written.{Wire, wire, same_side, is_open, open_of, sides_of, sides, in_region, chain_wires, chain_end, joined_wires, signal_wires}
use Rattle.law_wiring.specs.Written.{Ended, arm_ends, close, close_kind, close_nodes, close_flag, cond_sides, inner, closed, root_ends, first_ends, inner_wires}
use Rattle.law_wiring.specs.Written.{inner_parts, wires_in}
use Rattle.law_wiring.specs.WrittenFit.{IsFit}
use Rattle.law_wiring.proofs.PartsSame.{side_is}
use Rattle.law_wiring.proofs.PartsCounts.{tally}
use Rattle.law_wiring.proofs.Parts.{node_within}
use Rattle.law_wiring.proofs.PartsThere.{region_self, region_other}
use Rattle.law_wiring.proofs.WrittenMembers.{region_is}
use Rattle.law_wiring.proofs.LaidArcsMore.{size, size_both}

-- how often a side occurs among sides
abbrev hits : Side → List Side → ℕ
hits t [] = 0
hits t (u ∷ us) = one (same_side t u) + hits t us

hits_both : (t : Side) (xs ys : List Side) → hits t (xs ++ ys) ≡ hits t xs + hits t ys
hits_both t [] ys = omega arith
hits_both t (x ∷ xs) ys = let h = hits_both t xs ys in omega (arith, h)

-- OPEN SIDES
open_size : (t : Side) (ws : List Wire) → is_open t ws ≡ true → size t ws ≡ 0
open_size t [] h = refl
open_size t (w ∷ ws) h = go (same_side t w.from) h (open_size t ws)
  where
    go : (s : Bool) → (if s then false else is_open t ws) ≡ true → (is_open t ws ≡ true → size t ws ≡ 0) → one s + size t ws ≡ 0
    go true h more = absurd (cc)
    go false h more = let m = more h in omega (arith, m)

-- from which a wire leaves is none, and others are as many as before
open_hits : (t : Side) (ws : List Wire) (ts : List Side) → (0 < size t ws → hits t (open_of ws ts) ≡ 0) × (hits t (open_of ws ts) ≤ hits t ts)
open_hits t ws [] = (λ l. refl, omega arith)
open_hits t ws (u ∷ ts) = go (is_open u ws) refl (open_hits t ws ts)
  where
    none : is_open u ws ≡ true → 0 < size t ws → one (same_side t u) ≡ 0
    none f l = by (same_side t u) refl
      where
        by : (s : Bool) → same_side t u ≡ s → one s ≡ 0
        by true e = let z = open_size t ws (ap (λ v. is_open v ws) (side_is t u e) ∙ f) in absurd (omega (arith, l, z))
        by false e = refl

    go : (x : Bool) → is_open u ws ≡ x → (0 < size t ws → hits t (open_of ws ts) ≡ 0) × (hits t (open_of ws ts) ≤ hits t ts)
        → (0 < size t ws → hits t (if x then u ∷ open_of ws ts else open_of ws ts) ≡ 0)
        × (hits t (if x then u ∷ open_of ws ts else open_of ws ts) ≤ one (same_side t u) + hits t ts)
    go true f h = (λ l. let a = none f l in let c = h.0 l in omega (arith, a, c), let c = h.1 in omega (arith, c))
    go false f h = (h.0, let c = h.1 in omega (arith, c))

module _ (b : Block ℕ) (n : ℕ) where
  abbrev t : Side
  t = side (Line n) false

  abbrev q : Region
  q = lies_in b n

  -- JOINS
  chain_size : (r : Region) (i : ℕ) (s : Side) (ts : List Side) (part : Part) (port : Port)
      → size t (chain_wires r i s ts) + size t (wire (chain_end r i s ts) part port ∷ []) ≡ one (same_side t s) + hits t ts
  chain_size r i s [] part port = omega arith
  chain_size r i s (u ∷ ts) part port = let h = chain_size r (i + 1) (side (Join r i) false) ts part port in omega (arith, h)

  joins_size : (r : Region) (ts : List Side) (part : Part) (port : Port) → size t (joined_wires r ts) + size t (signal_wires r ts part port) ≡ hits t ts
  joins_size r [] part port = refl
  joins_size r (u ∷ ts) part port = chain_size r 0 u ts part port

  region_hits : (r : Region) (ts : List Side) → hits t (in_region b r ts) ≡ (if same_region q r then hits t ts else 0)
  region_hits r [] = by (same_region q r)
    where
      by : (x : Bool) → hits t [] ≡ (if x then hits t [] else 0)
      by true = refl
      by false = refl
  region_hits r (u ∷ ts) = go (same_side t u) refl (same_region (leaves_in b u.part u.second) r) refl (same_region q r) refl (region_hits r ts)
    where
      same : same_side t u ≡ true → same_region q r ≡ same_region (leaves_in b u.part u.second) r
      same e = ap (λ (v : Side). same_region (leaves_in b v.part v.second) r) (side_is t u e)

      go : (x : Bool) → same_side t u ≡ x → (y : Bool) → same_region (leaves_in b u.part u.second) r ≡ y → (z : Bool) → same_region q r ≡ z
          → hits t (in_region b r ts) ≡ (if z then hits t ts else 0)
          → hits t (if y then u ∷ in_region b r ts else in_region b r ts) ≡ (if z then one x + hits t ts else 0)
      go true e true f true g h = let o = ap one e in omega (arith, o, h)
      go true e false f true g h = let m = same e in absurd (cc)
      go true e true f false g h = let m = same e in absurd (cc)
      go true e false f false g h = h
      go false e true f true g h = let o = ap one e in omega (arith, o, h)
      go false e true f false g h = let o = ap one e in omega (arith, o, h)
      go false e false f true g h = omega (arith, h)
      go false e false f false g h = h

  -- CONDITIONALS
  close_size : (k : ℕ) (e : Ended) → size t (close b k e).wires ≡ size t e.wires + (hits t (arm_ends b k true e) + hits t (arm_ends b k false e))
  close_size k e =
      let a : List Side = arm_ends b k true e in
      let c : List Side = arm_ends b k false e in
      let w1 : List Wire = joined_wires (Arm k true) a in
      let w2 : List Wire = joined_wires (Arm k false) c in
      let w3 : List Wire = signal_wires (Arm k true) a (CondEnd k) Left in
      let w4 : List Wire = signal_wires (Arm k false) c (CondEnd k) Left in
      let s1 = size_both t e.wires (w1 ++ (w2 ++ (w3 ++ w4))) in
      let s2 = size_both t w1 (w2 ++ (w3 ++ w4)) in
      let s3 = size_both t w2 (w3 ++ w4) in
      let s4 = size_both t w3 w4 in
      let x = joins_size (Arm k true) a (CondEnd k) Left in
      let y = joins_size (Arm k false) c (CondEnd k) Left in
      omega (arith, s1, s2, s3, s4, x, y)

  close_ends : (k : ℕ) (e : Ended) → hits t (close b k e).ends ≡ hits t e.ends
  close_ends k e =
      let ts : List Side = arm_ends b k true e ++ arm_ends b k false e in
      let s = hits_both t e.ends (cond_sides k ts) in
      let z = none ts in
      omega (arith, s, z)
    where
      none : (ts : List Side) → hits t (cond_sides k ts) ≡ 0
      none [] = refl
      none (u ∷ ts) = refl

  arm_none : (k : ℕ) (u : Bool) (e : Ended) → q ≢ Arm k u → hits t (arm_ends b k u e) ≡ 0
  arm_none k u e d = region_hits (Arm k u) e.ends ∙ ap (λ x. if x then hits t e.ends else 0) (region_other q (Arm k u) d)

  arm_most : (k : ℕ) (u : Bool) (e : Ended) → hits t (arm_ends b k u e) ≤ hits t e.ends
  arm_most k u e = let h = region_hits (Arm k u) e.ends in go (same_region q (Arm k u)) h
    where
      go : (x : Bool) → hits t (arm_ends b k u e) ≡ (if x then hits t e.ends else 0) → hits t (arm_ends b k u e) ≤ hits t e.ends
      go true h = omega (arith, h)
      go false h = omega (arith, h)

  -- the node lies in no arm of a conditional from there on
  abbrev Far : ℕ → Type 0
  Far k = (j : ℕ) (u : Bool) → q ≡ Arm j u → j < k

  close_far : (k : ℕ) (e : Ended) → Far k → size t (close b k e).wires ≡ size t e.wires
  close_far k e far =
      let s = close_size k e in
      let a = arm_none k true e (λ p. let l = far k true p in omega (arith, l)) in
      let c = arm_none k false e (λ p. let l = far k false p in omega (arith, l)) in
      omega (arith, s, a, c)

  nodes_ends : (k : ℕ) (xs : List (Node ℕ)) (e : Ended) → hits t (close_nodes b k xs e).ends ≡ hits t e.ends
  nodes_ends k [] e = refl
  nodes_ends k (x ∷ xs) e = by_kind x.kind ∙ nodes_ends (k + 1) xs e
    where
      by_kind : (kind : Kind ℕ) → hits t (close_kind b k (close_nodes b (k + 1) xs e) kind).ends ≡ hits t (close_nodes b (k + 1) xs e).ends
      by_kind Cond = close_ends k (close_nodes b (k + 1) xs e)
      by_kind kind = refl

  nodes_far : (k : ℕ) (xs : List (Node ℕ)) (e : Ended) → Far k → size t (close_nodes b k xs e).wires ≡ size t e.wires
  nodes_far k [] e far = refl
  nodes_far k (x ∷ xs) e far = by_kind x.kind ∙ nodes_far (k + 1) xs e (λ j u p. let l = far j u p in omega (arith, l))
    where
      by_kind : (kind : Kind ℕ) → size t (close_kind b k (close_nodes b (k + 1) xs e) kind).wires ≡ size t (close_nodes b (k + 1) xs e).wires
      by_kind Cond = close_far k (close_nodes b (k + 1) xs e) far
      by_kind kind = refl

  nodes_most : (k : ℕ) (xs : List (Node ℕ)) (e : Ended) → size t (close_nodes b k xs e).wires ≤ size t e.wires + hits t e.ends
  nodes_most k [] e = omega arith
  nodes_most k (x ∷ xs) e =
      by_kind x.kind (nodes_most (k + 1) xs e) (nodes_far (k + 1) xs e) (same_region q (Arm k true)) refl (same_region q (Arm k false)) refl
    where
      rest : Ended
      rest = close_nodes b (k + 1) xs e

      next : (u : Bool) → q ≡ Arm k u → Far (k + 1)
      next u p j v r = let same : k ≡ j = number (sym p ∙ r) in omega (arith, same)
        where
          number : Arm k u ≡ Arm j v → k ≡ j
          number z = cc

      apart : (u : Bool) → same_region q (Arm k u) ≡ false → q ≢ Arm k u
      apart u f p = let y = ap (λ r. same_region r (Arm k u)) p ∙ region_self (Arm k u) in absurd (cc)

      other : q ≡ Arm k true → q ≡ Arm k false → ⊥
      other p r = let z : Arm k true ≡ Arm k false = sym p ∙ r in absurd (cc)

      by_kind : (kind : Kind ℕ) → size t (close_nodes b (k + 1) xs e).wires ≤ size t e.wires + hits t e.ends
          → (Far (k + 1) → size t (close_nodes b (k + 1) xs e).wires ≡ size t e.wires)
          → (y : Bool) → same_region q (Arm k true) ≡ y → (z : Bool) → same_region q (Arm k false) ≡ z
          → size t (close_kind b k (close_nodes b (k + 1) xs e) kind).wires ≤ size t e.wires + hits t e.ends
      by_kind Cond h more true f z g =
          let p = region_is q (Arm k true) f in
          let s = close_size k (close_nodes b (k + 1) xs e) in
          let same = more (next true p) in
          let a = arm_most k true (close_nodes b (k + 1) xs e) in
          let c = arm_none k false (close_nodes b (k + 1) xs e) (other p) in
          let d = nodes_ends (k + 1) xs e in
          omega (arith, s, same, a, c, d)
      by_kind Cond h more false f true g =
          let p = region_is q (Arm k false) g in
          let s = close_size k (close_nodes b (k + 1) xs e) in
          let same = more (next false p) in
          let a = arm_most k false (close_nodes b (k + 1) xs e) in
          let c = arm_none k true (close_nodes b (k + 1) xs e) (apart true f) in
          let d = nodes_ends (k + 1) xs e in
          omega (arith, s, same, a, c, d)
      by_kind Cond h more false f false g =
          let s = close_size k (close_nodes b (k + 1) xs e) in
          let a = arm_none k true (close_nodes b (k + 1) xs e) (apart true f) in
          let c = arm_none k false (close_nodes b (k + 1) xs e) (apart false g) in
          omega (arith, s, a, c, h)
      by_kind kind h more y f z g = h

  -- SIDES of parts
  part_hits : (r : Part) → hits t (sides_of r) ≤ one (same_part (Line n) r)
  part_hits r = go (same_part (Line n) r) refl
    where
      none : (x y : Bool) → same_part (Line n) r ≡ false
          → hits t (if x then [] else if y then side r false ∷ side r true ∷ [] else side r false ∷ []) ≡ 0
      none true y e = refl
      none false true e =
          let a : one (same_side t (side r false)) ≡ 0 = ap (λ p. one (p && true)) e in
          let c : one (same_side t (side r true)) ≡ 0 = ap (λ p. one (p && false)) e in
          omega (arith, a, c)
      none false false e = let a : one (same_side t (side r false)) ≡ 0 = ap (λ p. one (p && true)) e in omega (arith, a)

      most : (x : Bool) → one x + 0 ≤ 1
      most true = omega arith
      most false = omega arith

      go : (x : Bool) → same_part (Line n) r ≡ x → hits t (sides_of r) ≤ one x
      go true e = subst (λ p. hits t (sides_of p) ≤ 1) (same_part-true (Line n) r e) (most (same_side t (side (Line n) false)))
      go false e = let z = none (has_no_wire r) (is_switch r) e in omega (arith, z)

  sides_hits : (rs : List Part) → hits t (sides rs) ≤ tally (same_part (Line n)) rs
  sides_hits [] = omega arith
  sides_hits (r ∷ rs) =
      let a = part_hits r in
      let c = sides_hits rs in
      let s = hits_both t (sides_of r) (sides rs) in
      omega (arith, a, c, s)

-- THE WHOLE BLOCK
module _ (fl : Flow) (s : Site) (fit : IsFit fl s.block) (n : ℕ) where
  abbrev out : Side
  out = side (Line n) false

  -- an arm is of an earlier conditional
  before : (j : ℕ) (u : Bool) → lies_in s.block n ≡ Arm j u → j < node_count s.block
  before j u p = go (node_at s.block n) refl p
    where
      go : (o : Option (Node ℕ)) → node_at s.block n ≡ o → arm_of o ≡ Arm j u → j < node_count s.block
      go None e p = absurd (cc)
      go (Some x) e p =
          let earlier = ((fit.nodes n x e).round j u p).0 in
          let within = (node_within s.block n x e).1 in
          omega (arith, earlier, within)

  flag_size : (x : Bool) (e : Ended) → (size out (close_flag s.block x e).wires ≡ size out e.wires) × (hits out (close_flag s.block x e).ends ≡ hits out e.ends)
  flag_size false e = (refl, refl)
  flag_size true e = (close_far s.block n (node_count s.block) e before, close_ends s.block n (node_count s.block) e)

  wires_most : size out (wires_in fl s) ≤ size out (inner_wires s) + hits out (first_ends fl s)
  wires_most = go (same_region (lies_in s.block n) Root) refl (region_hits s.block n Root (closed fl s).ends)
    where
      counted : size out (wires_in fl s) ≡ size out (closed fl s).wires + hits out (root_ends fl s)
      counted =
          let ts : List Side = root_ends fl s in
          let joins : List Wire = joined_wires Root ts in
          let last : List Wire = signal_wires Root ts Parts.End Right in
          let s1 = size_both out (closed fl s).wires (joins ++ (wire (side Entry false) Parts.End Left ∷ last)) in
          let s2 = size_both out joins (wire (side Entry false) Parts.End Left ∷ last) in
          let j = joins_size s.block n Root ts Parts.End Right in
          omega (arith, s1, s2, j)

      go : (x : Bool) → same_region (lies_in s.block n) Root ≡ x → hits out (root_ends fl s) ≡ (if x then hits out (closed fl s).ends else 0)
          → size out (wires_in fl s) ≤ size out (inner_wires s) + hits out (first_ends fl s)
      go true f r =
          let p = region_is (lies_in s.block n) Root f in
          let e : Ended = close_flag s.block s.turns (inner fl s) in
          let same = nodes_far s.block n s.block.inputs s.block.nodes e (λ j u z. let k : Root ≡ Arm j u = sym p ∙ z in absurd (cc)) in
          let flag = flag_size s.turns (inner fl s) in
          let f0 = flag.0 in
          let f1 = flag.1 in
          let d = nodes_ends s.block n s.block.inputs s.block.nodes e in
          let c = counted in
          omega (arith, c, same, f0, f1, d, r)
      go false f r =
          let e : Ended = close_flag s.block s.turns (inner fl s) in
          let m = nodes_most s.block n s.block.inputs s.block.nodes e in
          let flag = flag_size s.turns (inner fl s) in
          let f0 = flag.0 in
          let f1 = flag.1 in
          let c = counted in
          omega (arith, c, m, f0, f1, r)

  pub one_leaves : size out (inner_wires s) ≤ 1 → tally (same_part (Line n)) (inner_parts fl s) ≤ 1 → size out (wires_in fl s) ≤ 1
  one_leaves few once =
      let m = wires_most in
      let h = open_hits out (inner_wires s) (sides (inner_parts fl s)) in
      let none = h.0 in
      let most = h.1 in
      let there = sides_hits s.block n (inner_parts fl s) in
      go (size out (inner_wires s)) refl m few none most there
    where
      go : (k : ℕ) → size out (inner_wires s) ≡ k → size out (wires_in fl s) ≤ k + hits out (first_ends fl s) → k ≤ 1
          → (0 < k → hits out (first_ends fl s) ≡ 0) → hits out (first_ends fl s) ≤ hits out (sides (inner_parts fl s))
          → hits out (sides (inner_parts fl s)) ≤ tally (same_part (Line n)) (inner_parts fl s) → size out (wires_in fl s) ≤ 1
      go zero e m few none most there = omega (arith, m, most, there, once)
      go (suc k) e m few none most there = let z = none (omega arith) in omega (arith, m, few, z)
