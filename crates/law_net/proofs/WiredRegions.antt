-- The arms round a region: an arm's are itself and those round its conditional.
use Rattle.std.proofs.Common.{◌≡◌, ℕ, zero, suc, ◌+◌, ◌<◌, ◌≤◌, Bool, List, [], ◌∷◌, ◌++◌, refl, sym, ap, subst, arith}
use Rattle.std.specs.Prelude.{Contains}
use Rattle.lemmas.proofs.Contains.{contains_head, contains_tail}
use Rattle.semantics.specs.declared.graph.Region.{Region}
use Rattle.semantics.specs.declared.graph.Region.TheVariants.{Root, Arm}
use Rattle.semantics.specs.Graph.{Block, Flow, node_count}
use Rattle.semantics.specs.Meaning.{Context, arms_round}
use Rattle.law_net.specs.ContextsBlocks.{lies_in}
use Rattle.law_net.specs.Contexts.{block_in}
use Rattle.law_net.specs.ContextsAround.{Way, way, own_ways, ways_round}
use Rattle.law_net.specs.ContextsLaws.{in_region}

pub arms_root : (b : Block ℕ) (d : ℕ) → arms_round d b Root ≡ []
arms_root b zero = refl
arms_root b (suc d) = refl

module _ (b : Block ℕ) (rounds : (n k : ℕ) (t : Bool) → lies_in b n ≡ Arm k t → k < n) where
  abbrev pub reach : Region → ℕ
  reach Root = 0
  reach (Arm k t) = k + 1

  pub reach_in : (k : ℕ) → reach (lies_in b k) ≤ k
  reach_in k = go (lies_in b k) refl
    where
      go : (r : Region) → lies_in b k ≡ r → reach r ≤ k
      go Root e = omega arith
      go (Arm m t) e = let h = rounds k m t e in omega (arith, h)

  -- more depth than that finds no more
  stable : (d e : ℕ) (r : Region) → reach r ≤ d → reach r ≤ e → arms_round d b r ≡ arms_round e b r
  stable zero zero r h g = refl
  stable zero (suc e) Root h g = refl
  stable zero (suc e) (Arm k t) h g = absurd (omega (arith, h))
  stable (suc d) zero Root h g = refl
  stable (suc d) zero (Arm k t) h g = absurd (omega (arith, g))
  stable (suc d) (suc e) Root h g = refl
  stable (suc d) (suc e) (Arm k t) h g =
      let m = reach_in k in
      let one : reach (lies_in b k) ≤ d = omega (arith, m, h) in let two : reach (lies_in b k) ≤ e = omega (arith, m, g) in
      ap (λ (l : List (ℕ × Bool)). (k, t) ∷ l) (stable d e (lies_in b k) one two)

  pub arms_by_reach : (d k : ℕ) (t : Bool) → reach (lies_in b k) < d → arms_round d b (Arm k t) ≡ (k, t) ∷ arms_round d b (lies_in b k)
  arms_by_reach zero k t h = absurd (omega (arith, h))
  arms_by_reach (suc d) k t h =
      let one : reach (lies_in b k) ≤ d = omega (arith, h) in let two : reach (lies_in b k) ≤ suc d = omega (arith, h) in
      ap (λ (l : List (ℕ × Bool)). (k, t) ∷ l) (stable d (suc d) (lies_in b k) one two)

  pub arms_arm : (d k : ℕ) (t : Bool) → k < d → arms_round d b (Arm k t) ≡ (k, t) ∷ arms_round d b (lies_in b k)
  arms_arm zero k t h = absurd (omega (arith, h))
  arms_arm (suc d) k t h =
      let m = reach_in k in
      let one : reach (lies_in b k) ≤ d = omega (arith, m, h) in let two : reach (lies_in b k) ≤ suc d = omega (arith, m, h) in
      ap (λ (l : List (ℕ × Bool)). (k, t) ∷ l) (stable d (suc d) (lies_in b k) one two)

-- in a context
module _ (fl : Flow) (c : Context) (rounds : (n k : ℕ) (t : Bool) → lies_in (block_in fl c) n ≡ Arm k t → k < n) where
  pub region_arm : (k : ℕ) (t : Bool) → k < node_count (block_in fl c) → in_region fl c (Arm k t) ≡ way c k t ∷ in_region fl c (lies_in (block_in fl c) k)
  region_arm k t h = ap (λ (l : List (ℕ × Bool)). own_ways c l ++ ways_round fl c) (arms_arm (block_in fl c) rounds (node_count (block_in fl c)) k t h)

  -- the arm itself
  pub in_arm : (k : ℕ) (t : Bool) → k < node_count (block_in fl c) → Contains (in_region fl c (Arm k t)) (way c k t)
  in_arm k t h =
      subst (λ (l : List Way). Contains l (way c k t)) (sym (region_arm k t h)) (contains_head (way c k t) (in_region fl c (lies_in (block_in fl c) k)))

  -- and what lies round it
  pub round_arm : (k : ℕ) (t : Bool) (x : Way) → k < node_count (block_in fl c) → Contains (in_region fl c (lies_in (block_in fl c) k)) x
      → Contains (in_region fl c (Arm k t)) x
  round_arm k t x h in' =
      subst (λ (l : List Way). Contains l x) (sym (region_arm k t h)) (contains_tail (way c k t) (in_region fl c (lies_in (block_in fl c) k)) x in')
