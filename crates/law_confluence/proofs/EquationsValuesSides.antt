-- What a conditional's value says of its arms: a node in the arm of that truth is taken.
use Rattle.std.proofs.Common.{◌≡◌, ℕ, zero, suc, ℤ, Bool, List, Option, Some, None, sym, ap, ◌∙◌, subst}
use Rattle.tags.specs.declared.value.Value.{Value}
use Rattle.operators.specs.Values.{truth}
use Rattle.semantics.specs.declared.graph.Region.{Region}
use Rattle.semantics.specs.declared.graph.Region.TheVariants.{Root, Arm}
use Rattle.semantics.specs.declared.graph.Source.{Source}
use Rattle.semantics.specs.declared.graph.Kind.TheVariants.{Cond}
use Rattle.semantics.specs.Graph.{Node, Block, Flow, node_at, node_count}
use Rattle.semantics.specs.Meaning.{Context, AtNode, Operand, Tagged, tagged, State, Activity, Run, Stood, ArmsTaken, arm_of, arms_round, arms_at, block_of}
use Rattle.semantics.specs.Meaning.{node_of, start}
use Rattle.law_confluence.specs.EquationsHave.{source_at}
use Rattle.law_confluence.specs.Equations.{IsDue, TakenAt, HasSome, Argument}
use Rattle.law_confluence.specs.EquationsSettled.{Settled}

fewer : (stood : Tagged → Type 0) (c : Context) (b : Block ℕ) (depth : ℕ) (r : Region) → ArmsTaken stood c (arms_round (suc depth) b r)
    → ArmsTaken stood c (arms_round depth b r)
fewer stood c b zero r h = tt
fewer stood c b (suc depth) Root h = tt
fewer stood c b (suc depth) (Arm k side) h = (h.0, fewer stood c b depth (arm_of (node_at b k)) h.1)

pub one_more : (stood : Tagged → Type 0) (c : Context) (b : Block ℕ) (depth k : ℕ) (side : Bool) (v : Value) → stood (tagged c (AtNode k) (Operand 0) v)
    → truth v ≡ side
    → ArmsTaken stood c (arms_round depth b (arm_of (node_at b k))) → ArmsTaken stood c (arms_round depth b (Arm k side))
one_more stood c b zero k side v h e arms = tt
one_more stood c b (suc depth) k side v h e arms = ((v, h, e), fewer stood c b depth (arm_of (node_at b k)) arms)

module _ (fl : Flow) (inputs : List ℤ) (run : List Activity) (s : State) (r : Run fl (start inputs) run s) (all : Settled fl inputs run s r) where
  pub one_argument : (c : Context) (k i : ℕ) (v w : Value) → Argument fl inputs run s r c k i v → Argument fl inputs run s r c k i w → v ≡ w
  one_argument c k i v w = go (source_at fl c k i)
    where
      go : (o : Option Source) → HasSome fl inputs run s r c o v → HasSome fl inputs run s r c o w → v ≡ w
      go None g h = absurd g
      go (Some x) g h = all.one_value c x.node x.port v w g h

  -- n lies in the arm of the conditional k whose side is the truth of the conditional's value: so it is taken where k is
  pub arm_taken : (c : Context) (b : Block ℕ) (k n : ℕ) (line : Node ℕ) (q : Value) (side : Bool) → IsDue fl inputs run s r c → block_of fl c ≡ Some b
      → TakenAt fl inputs run s r c k
      → node_of fl c k ≡ Some line → line.kind ≡ Cond → Argument fl inputs run s r c k 0 q → truth q ≡ side → arm_of (node_at b n) ≡ Arm k side
      → TakenAt fl inputs run s r c n
  arm_taken c b k n line q side due eb taken el cond argument t arm =
      let d = all.decided c k line due taken el cond in
      let same = one_argument c k 0 d.value q d.argument argument in
      let stood = Stood fl (start inputs) run s r in
      let round : ArmsTaken stood c (arms_round (node_count b) b (arm_of (node_at b k))) = subst (λ o. ArmsTaken stood c (arms_at o k)) eb taken in
      let mine : ArmsTaken stood c (arms_round (node_count b) b (arm_of (node_at b n))) =
      subst (λ a. ArmsTaken stood c (arms_round (node_count b) b a)) (sym arm)
      (one_more stood c b (node_count b) k side d.value d.stood (ap truth same ∙ t) round) in
      subst (λ o. ArmsTaken stood c (arms_at o n)) (sym eb) mine
