-- The regions that are taken: of one node as of another in the same region, from an arm outwards, and from a conditional into its arm.
use Rattle.std.proofs.Common.{◌≡◌, ℕ, zero, suc, ◌<◌, Bool, Option, Some, None, refl, sym, ap, ◌∙◌, subst, arith}
use Rattle.tags.specs.declared.value.Value.{Value}
use Rattle.operators.specs.Values.{truth}
use Rattle.semantics.specs.declared.graph.Region.{Region}
use Rattle.semantics.specs.declared.graph.Region.TheVariants.{Root, Arm}
use Rattle.semantics.specs.Graph.{Node, Block, node_at, node_count}
use Rattle.semantics.specs.Meaning.{Context, AtNode, Operand, tagged, ArmsTaken, arm_of, arms_round, arms_at, block_of, block_number, block_numbered}
use Rattle.law_confluence.proofs.HistoryGrounds.{own_arm, node_class}
use Rattle.law_confluence.proofs.HistoryLaws.{ArmLaw}
use Rattle.law_confluence.proofs.ActivityRows.{Steering, class_of, class_node, class_in, class_at, region_in, region_at, region_is_arm}
use Rattle.law_confluence.specs.Equations.{TakenAt}
use Rattle.law_confluence.proofs.EquationsGraphForms.{IsBlock, IsCondAt}
use Rattle.law_confluence.proofs.EquationsRunRested.{Rested, Came, RegionTaken}
use Rattle.law_confluence.proofs.EquationsValuesSides.{one_more}

abbrev pub TakenIn : Rested → Context → ℕ → Type 0
TakenIn z c n = TakenAt z.flow z.inputs z.run z.state z.is_run c n

pub block_shaped : (z : Rested) (c : Context) (b : Block ℕ) → block_of z.flow c ≡ Some b → IsBlock z.flow b
block_shaped z c b e = go (block_number z.flow c) e
  where
    go : (o : Option ℕ) → block_numbered z.flow o ≡ Some b → IsBlock z.flow b
    go None f = cc
    go (Some i) f = z.shaped i b f

module _ (z : Rested) (c : Context) (b : Block ℕ) (eb : block_of z.flow c ≡ Some b) where
  pub taken_in : (n : ℕ) → TakenIn z c n → RegionTaken z c b (arm_of (node_at b n))
  taken_in n h = subst (λ o. ArmsTaken (Came z) c (arms_at o n)) eb h

  pub in_taken : (n : ℕ) → RegionTaken z c b (arm_of (node_at b n)) → TakenIn z c n
  in_taken n h = subst (λ o. ArmsTaken (Came z) c (arms_at o n)) (sym eb) h

  pub round_at : (m k : ℕ) (side : Bool) → arm_of (node_at b m) ≡ Arm k side → (k < m) × IsCondAt b k
  round_at m k side e = go (node_at b m) refl e
    where
      go : (o : Option (Node ℕ)) → node_at b m ≡ o → arm_of o ≡ Arm k side → (k < m) × IsCondAt b k
      go None f g = cc
      go (Some line) f g = ((block_shaped z c b eb).lines m line f).round k side g

  -- the list of a region's arms is complete once the depth is past its conditional
  deeper : (depth : ℕ) (r : Region) → ((k : ℕ) (side : Bool) → r ≡ Arm k side → k < depth) → ArmsTaken (Came z) c (arms_round depth b r)
      → ArmsTaken (Came z) c (arms_round (suc depth) b r)
  deeper zero Root low h = tt
  deeper zero (Arm k side) low h = let l = low k side refl in absurd (omega (arith, l))
  deeper (suc depth) Root low h = tt
  deeper (suc depth) (Arm k side) low h =
      let l = low k side refl in
      (h.0, deeper depth (arm_of (node_at b k)) (λ j s e. let in_it = round_at k j s e in omega (arith, in_it.0, l)) h.1)

  -- from an arm outwards
  pub outside : (k : ℕ) (side : Bool) → k < node_count b → RegionTaken z c b (Arm k side)
      → RegionTaken z c b (arm_of (node_at b k)) × ((v : Value) × Came z (tagged c (AtNode k) (Operand 0) v) × (truth v ≡ side))
  outside k side low h = go (node_count b) low h
    where
      go : (depth : ℕ) → k < depth → ArmsTaken (Came z) c (arms_round depth b (Arm k side))
          → ArmsTaken (Came z) c (arms_round depth b (arm_of (node_at b k))) × ((v : Value) × Came z (tagged c (AtNode k) (Operand 0) v) × (truth v ≡ side))
      go zero l h = absurd (omega (arith, l))
      go (suc depth) l h = (deeper depth (arm_of (node_at b k)) (λ j s e. let in_it = round_at k j s e in omega (arith, in_it.0, l)) h.1, h.0)

  -- from a conditional into its arm
  pub inside : (k : ℕ) (side : Bool) (v : Value) → Came z (tagged c (AtNode k) (Operand 0) v) → truth v ≡ side → RegionTaken z c b (arm_of (node_at b k))
      → RegionTaken z c b (Arm k side)
  inside k side v h e arms = one_more (Came z) c b (node_count b) k side v h e arms

  cond_class : (k : ℕ) → IsCondAt b k → class_node (node_at b k) ≡ Steering
  cond_class k h = ap class_node h.1 ∙ ap class_of h.2

  -- where the law of the innermost arm holds, all arms round it are taken
  pub arm_taken : (depth : ℕ) (r : Region) → ((k : ℕ) (side : Bool) → r ≡ Arm k side → IsCondAt b k) → ArmLaw (Came z) c r
      → ArmsTaken (Came z) c (arms_round depth b r)
  arm_taken zero r cond law = tt
  arm_taken (suc depth) Root cond law = tt
  arm_taken (suc depth) (Arm k side) cond law =
      let class : class_at z.flow c k ≡ Steering = ap (λ o. class_in o k) eb ∙ node_class b k (cond_class k (cond k side refl)) in
      let own = own_arm z.flow z.well (Came z) z.lawful c k 0 law.0 law.1 (λ e. cc) (λ e. cc) in
      let here : ArmLaw (Came z) c (arm_of (node_at b k)) = subst (λ r. ArmLaw (Came z) c r) (ap (λ o. region_in o k) eb ∙ region_is_arm (node_at b k)) own in
      ((law.0, law.1, law.2), arm_taken depth (arm_of (node_at b k)) (λ j s e. (round_at k j s e).1) here)

  pub lawful_taken : (n : ℕ) → ArmLaw (Came z) c (region_at z.flow c n) → RegionTaken z c b (arm_of (node_at b n))
  lawful_taken n law =
      arm_taken (node_count b) (arm_of (node_at b n)) (λ k side e. (round_at n k side e).1)
      (subst (λ r. ArmLaw (Came z) c r) (ap (λ o. region_in o n) eb ∙ region_is_arm (node_at b n)) law)
