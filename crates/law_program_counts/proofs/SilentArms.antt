-- IN AN ARM THAT IS NOT TAKEN no invocation is made.
use Rattle.std.proofs.Common.{◌≡◌, ℕ, zero, suc, ◌+◌, ◌<◌, Bool, List, Option, Some, None, refl, ap, ◌∙◌, subst, arith}
use Rattle.std.proofs.Common.{length}
use Rattle.tags.specs.declared.value.Value.{Value}
use Rattle.operators.specs.Values.{truth}
use Rattle.semantics.specs.declared.graph.Region.{Region}
use Rattle.semantics.specs.declared.graph.Region.TheVariants.{Arm}
use Rattle.semantics.specs.Graph.{Node, Block, node_at, node_count}
use Rattle.semantics.specs.Meaning.{Context, AtNode, Operand, tagged, ArmsTaken, arm_of, arms_round, arms_at, block_of}
use Rattle.lemmas.proofs.Permutations.{Each}
use Rattle.law_confluence.specs.Equations.{TakenAt}
use Rattle.law_confluence.proofs.EquationsGraphForms.{IsBlock, line_below}
use Rattle.source.specs.Holds.{Holds}
use Rattle.law_language.proofs.MeansScene.{Scene, flow, StoodIn}
use Rattle.law_language.proofs.MeansLies.{Inside, Here, Further}
use Rattle.law_program_counts.proofs.MadeAt.{made_taken}
use Rattle.law_program_counts.proofs.Lists.{Empty, lines_at}

-- Where all arms round a region are taken, so is one that it lies in.
module _ (z : Scene) (c : Context) (b : Block ℕ) (shape : IsBlock (flow z) b) where
  round_before : (k j : ℕ) (side : Bool) → arm_of (node_at b k) ≡ Arm j side → j < k
  round_before k j side e = go (node_at b k) refl e
    where
      go : (o : Option (Node ℕ)) → node_at b k ≡ o → arm_of o ≡ Arm j side → j < k
      go None f g = cc
      go (Some line) f g = ((shape.lines k line f).round j side g).0

  abbrev Took : ℕ → Bool → Type 0
  Took k side = (v : Value) × StoodIn z (tagged c (AtNode k) (Operand 0) v) × (truth v ≡ side)

  arm_took : (depth : ℕ) (q : Region) (k : ℕ) (side : Bool) → ((j : ℕ) (s : Bool) → q ≡ Arm j s → j < depth) → ArmsTaken (StoodIn z) c (arms_round depth b q)
      → Inside b (Arm k side) q → Took k side
  arm_took zero q k side low h (Here e) = let l = low k side e in absurd (omega (arith, l))
  arm_took zero q k side low h (Further j s e i) = let l = low j s e in absurd (omega (arith, l))
  arm_took (suc depth) q k side low h (Here e) = (subst (λ q. ArmsTaken (StoodIn z) c (arms_round (suc depth) b q)) e h).0
  arm_took (suc depth) q k side low h (Further j s e i) =
      let l = low j s e in
      arm_took depth (arm_of (node_at b j)) k side (λ m t f. let before = round_before j m t f in omega (arith, before, l))
      (subst (λ q. ArmsTaken (StoodIn z) c (arms_round (suc depth) b q)) e h).1 i

  -- a line that is taken, in an arm
  pub line_took : (eb : block_of (flow z) c ≡ Some b) (n : ℕ) (line : Node ℕ) → node_at b n ≡ Some line → TakenAt (flow z) z.inputs z.run z.state z.is_run c n
      → (k : ℕ) (side : Bool) → Inside b (Arm k side) line.region → Took k side
  line_took eb n line el taken k side i =
      let arms : ArmsTaken (StoodIn z) c (arms_round (node_count b) b (arm_of (node_at b n))) = subst (λ o. ArmsTaken (StoodIn z) c (arms_at o n)) eb taken in
      let below = line_below b n line el in
      arm_took (node_count b) line.region k side (λ j s e. let before = round_before n j s (ap arm_of el ∙ e) in omega (arith, before, below))
      (subst (λ o. ArmsTaken (StoodIn z) c (arms_round (node_count b) b (arm_of o))) el arms) i

pub empty_arm : (z : Scene) (c : Context) (b : Block ℕ) → block_of (flow z) c ≡ Some b → (n : ℕ) (lines : List (Node ℕ)) → Holds b n lines
    → IsBlock (flow z) b → (cond : ℕ) (side : Bool) → Each (λ (line : Node ℕ). Inside b (Arm cond side) line.region) lines
    → ((v : Value) → StoodIn z (tagged c (AtNode cond) (Operand 0) v) → truth v ≡ side → ⊥) → Empty z c n (n + length lines)
empty_arm z c b eb n lines h shape cond side inside none d k due e low high =
    let at = lines_at b n lines h (λ (line : Node ℕ). Inside b (Arm cond side) line.region) inside k low high in
    let took = line_took z c b shape eb k at.0 at.1 (made_taken z c d k due e) cond side at.2 in
    none took.0 took.1 took.2
