-- An arm that is not taken makes no store, and neither do lines that are quiet.
use Rattle.std.proofs.Common.{◌≡◌, ℕ, zero, suc, ◌+◌, ◌<◌, ◌≤◌, ◌&&◌, Bool, true, false, List, [], ◌∷◌, length, map, Option, Some, None, refl, sym, ap, ◌∙◌}
use Rattle.std.proofs.Common.{subst, arith, leb-true, ltb-true, ltb-false}
use Rattle.std.specs.Prelude.{nat_le, nat_lt}
use Rattle.tags.specs.declared.value.Value.{Value}
use Rattle.operators.specs.Values.{truth}
use Rattle.semantics.specs.declared.graph.Region.{Region}
use Rattle.semantics.specs.declared.graph.Region.TheVariants.{Arm}
use Rattle.semantics.specs.Graph.{Node, Block, node_at, node_count}
use Rattle.semantics.specs.Meaning.{Context, Called, Turned, AtNode, Operand, tagged, ArmsTaken, Fills, arm_of, arms_round, arms_at, block_of, node_in, start}
use Rattle.lemmas.proofs.Bools.{first_of_and, second_of_and}
use Rattle.lemmas.proofs.Permutations.{Within, Each, each_from, within_to}
use Rattle.law_confluence.specs.EquationsHave.{Gives, Stored, stores_of}
use Rattle.law_confluence.specs.Equations.{TakenAt}
use Rattle.law_confluence.proofs.EquationsGraphForms.{IsBlock, line_below}
use Rattle.law_confluence.proofs.EquationsEndCells.{stored_from}
use Rattle.source.specs.Holds.{Holds}
use Rattle.law_language.specs.MeansBelow.{node_under, is_within, is_below, cell_and_value}
use Rattle.law_language.proofs.MeansStoreLines.{IsQuiet, quiet_under, stored_at, kept_none, false_by, within_some}
use Rattle.law_language.proofs.MeansUnder.{AtIt, Itself, InCall, InTurn, under_cases, under_due}
use Rattle.law_language.proofs.MeansScene.{Scene, flow, StoodIn, DueIn, StoresIn}
use Rattle.law_language.proofs.MeansLies.{Inside, Here, Further}

-- ARMS. Where all arms round a region are taken, so is one that it lies in.
module _ (z : Scene) (c : Context) (b : Block ℕ) (shape : IsBlock (flow z) b) where
  round_before : (k j : ℕ) (side : Bool) → arm_of (node_at b k) ≡ Arm j side → j < k
  round_before k j side e = go (node_at b k) refl e
    where
      go : (o : Option (Node ℕ)) → node_at b k ≡ o → arm_of o ≡ Arm j side → j < k
      go None f g = cc
      go (Some line) f g = ((shape.lines k line f).round j side g).0

  abbrev Took : ℕ → Bool → Type 0
  Took k side = (v : Value) × StoodIn z (tagged c (AtNode k) (Operand 0) v) × (truth v ≡ side)

  arm_took : (depth : ℕ) (q : Region) (k : ℕ) (side : Bool) → ((j : ℕ) (s : Bool) → q ≡ Arm j s → j < depth) → ArmsTaken (StoodIn z) c (arms_round depth b q)
      → Inside b (Arm k side) q → Took k side
  arm_took zero q k side low h (Here e) = let l = low k side e in absurd (omega (arith, l))
  arm_took zero q k side low h (Further j s e i) = let l = low j s e in absurd (omega (arith, l))
  arm_took (suc depth) q k side low h (Here e) = (subst (λ q. ArmsTaken (StoodIn z) c (arms_round (suc depth) b q)) e h).0
  arm_took (suc depth) q k side low h (Further j s e i) =
      let l = low j s e in
      arm_took depth (arm_of (node_at b j)) k side (λ m t f. let before = round_before j m t f in omega (arith, before, l))
      (subst (λ q. ArmsTaken (StoodIn z) c (arms_round (suc depth) b q)) e h).1 i

  -- a line that is taken, in an arm
  line_took : (eb : block_of (flow z) c ≡ Some b) (n : ℕ) (line : Node ℕ) → node_at b n ≡ Some line → TakenAt (flow z) z.inputs z.run z.state z.is_run c n
      → (k : ℕ) (side : Bool) → Inside b (Arm k side) line.region → Took k side
  line_took eb n line el taken k side i =
      let arms : ArmsTaken (StoodIn z) c (arms_round (node_count b) b (arm_of (node_at b n))) = subst (λ o. ArmsTaken (StoodIn z) c (arms_at o n)) eb taken in
      let below = line_below b n line el in
      arm_took (node_count b) line.region k side (λ j s e. let before = round_before n j s (ap arm_of el ∙ e) in omega (arith, before, below))
      (subst (λ o. ArmsTaken (StoodIn z) c (arms_round (node_count b) b (arm_of o))) el arms) i

-- the node of a store is taken
stored_taken : (z : Scene) (w : Stored) → Within w (stores_of (flow z) z.run) → TakenAt (flow z) z.inputs z.run z.state z.is_run w.context w.node
stored_taken z w h =
    let a = stored_from (flow z) (start z.inputs) z.state z.run z.is_run w h in
    let gives : Gives (flow z) z.run z.state.memory w.context w.node 0 w.value = (
      a.0,
      Fills w.context w.node w.cell w.value,
      within_to a.0 z.run a.1,
      a.2,
      refl,
    ) in
    z.settled.silent_arms w.context w.node 0 w.value gives

-- the node that a store lies at is taken, in the invocation that it lies in
under_taken : (z : Scene) (c : Context) (w : Stored) → Within w (stores_of (flow z) z.run) → DueIn z w.context → (n : ℕ)
    → node_under c w.context w.node ≡ Some n
    → TakenAt (flow z) z.inputs z.run z.state z.is_run c n
under_taken z c w h due n e = go (under_cases c n w.context w.node e)
  where
    go : AtIt c n w.context w.node → TakenAt (flow z) z.inputs z.run z.state z.is_run c n
    go (Itself ec en) = subst (λ c. TakenAt (flow z) z.inputs z.run z.state z.is_run c n) ec
        (subst (λ n. TakenAt (flow z) z.inputs z.run z.state z.is_run w.context n) en (stored_taken z w h))
    go (InCall k f) = let call : DueIn z (Called c n) = under_due z.graph z.inputs z.run z.state z.is_run (Called c n) w.context w.node k due f in call.2
    go (InTurn t k f) = let turn : DueIn z (Turned c n t) = under_due z.graph z.inputs z.run z.state z.is_run (Turned c n t) w.context w.node k due f in turn.2

-- LINES OF A RANGE
lines_at : (b : Block ℕ) (n : ℕ) (lines : List (Node ℕ)) → Holds b n lines → (P : Node ℕ → Type 0) → Each P lines → (k : ℕ) → n ≤ k → k < n + length lines
    → (line : Node ℕ) × (node_at b k ≡ Some line) × P line
lines_at b n [] h P all k low high = absurd (omega (arith, low, high))
lines_at b n (line ∷ lines) h P all k low high = go (nat_lt n k) refl (λ l. lines_at b (n + 1) lines h.1 P all.1 k (omega (arith, l)) (omega (arith, high)))
  where
    go : (t : Bool) → nat_lt n k ≡ t → (n < k → (line : Node ℕ) × (node_at b k ≡ Some line) × P line) → (line : Node ℕ) × (node_at b k ≡ Some line) × P line
    go true e later = later (ltb-true n k e)
    go false e later =
        let l = ltb-false n k e in let same : n ≡ k = omega (arith, l, low) in
        (line, subst (λ n. node_at b n ≡ Some line) same h.0, all.0)

module _ (z : Scene) (c : Context) (b : Block ℕ) (eb : block_of (flow z) c ≡ Some b) (n : ℕ) (lines : List (Node ℕ)) (h : Holds b n lines) where
  -- a range of lines at none of which a store lies
  none_there : ((w : Stored) → Within w (stores_of (flow z) z.run) → (k : ℕ) → n ≤ k → k < n + length lines → node_under c w.context w.node ≡ Some k → ⊥)
      → StoresIn z c n (n + length lines) ≡ []
  none_there none =
      ap (λ (us : List Stored). map cell_and_value us)
      (kept_none (λ (w : Stored). is_below c n (n + length lines) w.context w.node) (stores_of (flow z) z.run)
      (each_from _ (stores_of (flow z) z.run)
      (λ w i.
      false_by (is_below c n (n + length lines) w.context w.node)
      (λ t.
      let k = within_some n (n + length lines) (node_under c w.context w.node) t in
      let both : (nat_le n k.0 && nat_lt k.0 (n + length lines)) ≡ true = sym (ap (is_within n (n + length lines)) k.1) ∙ t in
      none w i k.0 (leb-true n k.0 (first_of_and (nat_le n k.0) (nat_lt k.0 (n + length lines)) both))
      (ltb-true k.0 (n + length lines) (second_of_and (nat_le n k.0) (nat_lt k.0 (n + length lines)) both)) k.1))))

  pub quiet_lines : Each (λ (line : Node ℕ). IsQuiet line.kind) lines → StoresIn z c n (n + length lines) ≡ []
  quiet_lines silent =
      none_there
      (λ w i k low high e.
      let at = lines_at b n lines h (λ (line : Node ℕ). IsQuiet line.kind) silent k low high in
      quiet_under (flow z) z.inputs z.run z.state z.is_run z.settled c k at.0 (ap (λ o. node_in o k) eb ∙ at.1) at.2 w i e)

  -- an arm that is not taken
  pub silent_arm : IsBlock (flow z) b → (cond : ℕ) (side : Bool) → Each (λ (line : Node ℕ). Inside b (Arm cond side) line.region) lines
      → ((v : Value) → StoodIn z (tagged c (AtNode cond) (Operand 0) v) → truth v ≡ side → ⊥) → StoresIn z c n (n + length lines) ≡ []
  silent_arm shape cond side inside none =
      none_there
      (λ w i k low high e.
      let at = lines_at b n lines h (λ (line : Node ℕ). Inside b (Arm cond side) line.region) inside k low high in
      let due = (stored_at (flow z) z.inputs z.run z.state z.is_run z.settled w i).0 in
      let took = line_took z c b shape eb k at.0 at.1 (under_taken z c w i due k e) cond side at.2 in
      none took.0 took.1 took.2)
