-- The invocations of a conditional are those of its predicate and of the arm that the predicate chooses.
use Rattle.std.proofs.Common.{◌≡◌, ℕ, ◌+◌, Bool, true, false, List, [], ◌∷◌, ◌++◌, length, map, Some, Ok, refl, sym, ap, ◌∙◌, subst, arith, length-append}
use Rattle.std.specs.Prelude.{slice_get}
use Rattle.std.proofs.lemmas.List.{length-map}
use Rattle.tags.specs.declared.value.Value.{Value}
use Rattle.operators.specs.Values.{truth}
use Rattle.semantics.specs.declared.graph.Region.TheVariants.{Arm}
use Rattle.semantics.specs.declared.graph.Source.{Source}
use Rattle.semantics.specs.declared.graph.Kind.TheVariants as node
use Rattle.semantics.specs.Graph.{Node, Block, node_count}
use Rattle.semantics.specs.Meaning.{Context, Main, AtNode, Operand, tagged, ArmsTaken, arm_of, arms_round, arms_at, block_of, node_in, node_of}
use Rattle.law_confluence.specs.EquationsHave.{source_line}
use Rattle.law_confluence.specs.Equations.{TakenAt, HasSome}
use Rattle.lemmas.proofs.Permutations.{Each, each_map}
use Rattle.law_confluence.proofs.EquationsGraphFormed.{shaped}
use Rattle.source.specs.Tree.{Name, Expr, Body}
use Rattle.source.specs.Fits.{FitsBody}
use Rattle.source.specs.Outside.{outside_body, uses, body_uses}
use Rattle.source.specs.Rules.{body_values}
use Rattle.source.specs.Evaluates.{Env, Stores, Evaluates, Runs, if_true, if_false}
use Rattle.source.specs.Once.{OneAnswer}
use Rattle.source.specs.Lowered.{Made, Lowered, Site, Spot, Scope, spot_after, next_spot, first_of, followed, made, source_in, or_predicate, enters}
use Rattle.source.specs.Lowered.{entered_names, arm_site, arm_scope, arm, merges, chosen, lower, lower_body}
use Rattle.source.proofs.Kept.{in_if}
use Rattle.source.proofs.OutsideNames.{uses_once}
use Rattle.law_completion.specs.TotalProgram.{Count, counted, body_counted}
use Rattle.law_language.specs.MeansHolds.{resolved}
use Rattle.law_language.proofs.MeansNamesAgree.{agrees_split, agrees_once, agrees_arm}
use Rattle.law_language.proofs.MeansParts.{own_line, block_is}
use Rattle.law_language.proofs.MeansScene.{Scene, flow, world_of, StoodIn, RegionIn, HasIn, HaveIn, KnownIn, ActiveIn, AllIn}
use Rattle.law_language.proofs.MeansStanding.{first_in, rest_in, stands_in_arm}
use Rattle.law_language.proofs.MeansLies.{HoldsMade, made_split, LieIn, Inside, lie_arm, body_lies}
use Rattle.law_language.proofs.MeansConditionals.{arm_entered, arm_trigger, cond_block, open_there, left_stands, right_stands}
use Rattle.law_program_counts.proofs.Lists.{Empty, Lists, MakesNone, lists_before, lists_behind, lists_to, empty_node, empty_lines}
use Rattle.law_program_counts.proofs.SilentArms.{empty_arm}
use Rattle.law_program_counts.proofs.SameAnswers.{same_values}
use Rattle.law_program_counts.proofs.Parts.{ListsOf, ExprCounts, BodyCounts}
use Rattle.law_program_counts.proofs.Operators.{both_lists}

-- ENTERS make none.
pub enters_empty : (z : Scene) (c : Context) (b : Block ℕ) → block_of (flow z) c ≡ Some b → (here : Site) (spot : Spot) (at : ℕ) (ss : List Source)
    → HoldsMade z.program z.graph b spot.next (enters here spot at ss).nodes
    → Empty z c spot.next (spot.next + length (enters here spot at ss).nodes)
enters_empty z c b eb here spot at ss h =
    subst (λ n. Empty z c spot.next (spot.next + n)) (length-map (enters here spot at ss).nodes (resolved z.graph))
    (empty_lines z c b eb spot.next (map (resolved z.graph) (enters here spot at ss).nodes) h
    (each_map (λ (line : Node ℕ). MakesNone line.kind) (resolved z.graph) (enters here spot at ss).nodes
    (each_map (λ (m : Made). MakesNone (resolved z.graph m).kind) (λ (s : Source). made here at node.Enter (s ∷ [])) ss (all ss))))
  where
    all : (ss : List Source) → Each (λ (s : Source). MakesNone (resolved z.graph (made here at node.Enter (s ∷ []))).kind) ss
    all [] = tt
    all (s ∷ ss) = (tt, all ss)

-- THE CONDITIONAL of a predicate with value v
module _ (z : Scene) (c : Context) (site : Site) (k : Spot) (at : ℕ) (ps : List Source) (a b : Lowered) (x : Source) (v : Value) (only : ps ≡ x ∷ [])
    (has : HasIn z c x v)
    (h : ActiveIn z c site k (chosen site k at ps a b)) where
  abbrev ms : List Made
  ms = merges site at k.next a.sources b.sources

  abbrev cond : Made
  cond = made site at node.Cond ps

  abbrev Lines : ℕ → List Made → Type 0
  Lines n ns = HoldsMade z.program z.graph h.block n ns

  is_block : block_of (flow z) c ≡ Some h.block
  is_block = cond_block z c site k at ps a b x v only has h

  line_is : node_of (flow z) c k.next ≡ Some (resolved z.graph cond)
  line_is =
      ap (λ o. node_in o k.next) is_block
      ∙ (own_line z.program z.graph z.origin z.inputs z.run z.state z.is_run c site k (chosen site k at ps a b) cond (a.nodes ++ b.nodes ++ ms) refl h).0

  both_lines : Lines (k.next + 1) (a.nodes ++ b.nodes) × Lines (k.next + 1 + length (a.nodes ++ b.nodes)) ms
  both_lines = made_split z.program z.graph h.block (k.next + 1) (a.nodes ++ b.nodes) ms h.lines.1

  arm_lines : Lines (k.next + 1) a.nodes × Lines (k.next + 1 + length a.nodes) b.nodes
  arm_lines = made_split z.program z.graph h.block (k.next + 1) a.nodes b.nodes both_lines.0

  -- it took that value alone
  cond_taken : TakenAt (flow z) z.inputs z.run z.state z.is_run c k.next
  cond_taken =
      subst (λ o. ArmsTaken (StoodIn z) c (arms_at o k.next)) (sym is_block)
      (subst (λ o. ArmsTaken (StoodIn z) c (arms_round (node_count h.block) h.block (arm_of o)))
      (sym (sym (ap (λ o. node_in o k.next) is_block) ∙ line_is)) h.taken)

  other_side : (side : Bool) → (truth v ≡ side → ⊥) → (w : Value) → StoodIn z (tagged c (AtNode k.next) (Operand 0) w) → truth w ≡ side → ⊥
  other_side side not_so w stood e =
      let decides = z.settled.decided c k.next (resolved z.graph cond) h.due cond_taken line_is refl in
      let its : HasIn z c x decides.value =
      subst (λ o. HasSome (flow z) z.inputs z.run z.state z.is_run c o decides.value) (ap (λ o. source_line o 0) line_is ∙ ap (λ ss. slice_get ss 0) only)
      decides.argument in
      let same = z.settled.one_value c x.node x.port decides.value v its has in
      not_so (ap truth (sym (decides.only w stood ∙ same)) ∙ e)

  cond_empty : Empty z c k.next (k.next + 1)
  cond_empty = empty_node z c k.next (resolved z.graph cond) line_is tt

  merges_none : (ls rs : List Source) → Each (λ (m : Made). MakesNone (resolved z.graph m).kind) (merges site at k.next ls rs)
  merges_none [] rs = tt
  merges_none (l ∷ ls) [] = tt
  merges_none (l ∷ ls) (r ∷ rs) = (tt, merges_none ls rs)

  merges_empty : Empty z c (k.next + 1 + length (a.nodes ++ b.nodes)) (k.next + 1 + length (a.nodes ++ b.nodes) + length ms)
  merges_empty =
      subst (λ n. Empty z c (k.next + 1 + length (a.nodes ++ b.nodes)) (k.next + 1 + length (a.nodes ++ b.nodes) + n)) (length-map ms (resolved z.graph))
      (empty_lines z c h.block is_block (k.next + 1 + length (a.nodes ++ b.nodes)) (map (resolved z.graph) ms) both_lines.1
      (each_map (λ (line : Node ℕ). MakesNone line.kind) (resolved z.graph) ms (merges_none a.sources b.sources)))

  other_empty : (side : Bool) → (truth v ≡ side → ⊥) → (n : ℕ) (ns : List Made) → Lines n ns → LieIn h.block (Arm k.next side) ns
      → Empty z c n (n + length ns)
  other_empty side not_so n ns holds lies =
      subst (λ i. Empty z c n (n + i)) (length-map ns (resolved z.graph))
      (empty_arm z c h.block is_block n (map (resolved z.graph) ns) holds (shaped z.graph z.well h.number h.block h.is_block) k.next side
      (each_map (λ (line : Node ℕ). Inside h.block (Arm k.next side) line.region) (resolved z.graph) ns lies)
      (other_side side not_so))

  -- with what both arms have
  all_lists : (count : Count) → Lists z c (k.next + 1) (k.next + 1 + length a.nodes + length b.nodes) count
      → ListsOf z c k (chosen site k at ps a b) count
  all_lists count f =
      let two : k.next + 1 + length a.nodes + length b.nodes ≡ k.next + 1 + length (a.nodes ++ b.nodes) = let n = length-append a.nodes b.nodes in
      omega (arith, n) in
      let arms = lists_to z c (k.next + 1) (k.next + 1 + length a.nodes + length b.nodes) (k.next + 1 + length (a.nodes ++ b.nodes)) count two f in
      let end : ℕ = k.next + 1 + length (a.nodes ++ b.nodes) + length ms in
      let behind = lists_behind z c (k.next + 1) (k.next + 1 + length (a.nodes ++ b.nodes)) end count (omega arith) arms merges_empty in
      let long : end ≡ k.next + length (chosen site k at ps a b).nodes =
      let n = length-append (a.nodes ++ b.nodes) ms in let m = length-append a.nodes (b.nodes ++ ms) in let i = length-append b.nodes ms in
      let j = length-append a.nodes b.nodes in omega (arith, n, m, i, j) in
      lists_to z c k.next end (k.next + length (chosen site k at ps a b).nodes) count long (lists_before z c k.next (k.next + 1) end count (omega arith) cond_empty behind)

  pub left_lists : truth v ≡ true → (count : Count) → Lists z c (k.next + 1) (k.next + 1 + length a.nodes) count
      → (Lines (k.next + 1 + length a.nodes) b.nodes → LieIn h.block (Arm k.next false) b.nodes) → ListsOf z c k (chosen site k at ps a b) count
  left_lists t count f lies =
      all_lists count
      (lists_behind z c (k.next + 1) (k.next + 1 + length a.nodes) (k.next + 1 + length a.nodes + length b.nodes) count (omega arith) f
      (other_empty false (λ e. cc) (k.next + 1 + length a.nodes) b.nodes arm_lines.1 (lies arm_lines.1)))

  pub right_lists : truth v ≡ false → (count : Count) → Lists z c (k.next + 1 + length a.nodes) (k.next + 1 + length a.nodes + length b.nodes) count
      → (Lines (k.next + 1) a.nodes → LieIn h.block (Arm k.next true) a.nodes) → ListsOf z c k (chosen site k at ps a b) count
  right_lists t count f lies =
      all_lists count
      (lists_before z c (k.next + 1) (k.next + 1 + length a.nodes) (k.next + 1 + length a.nodes + length b.nodes) count (omega arith)
      (other_empty true (λ e. cc) (k.next + 1) a.nodes arm_lines.0 (lies arm_lines.0)) f)

-- AN ARM whose region is taken has the invocations of its body.
module _ (z : Scene) (c : Context) (site : Site) (cond : ℕ) (side : Bool) (spot : Spot) (at : ℕ) (scope : Scope) (predicate : Source) (body : Body) where
  abbrev pub an_arm : Lowered
  an_arm = arm site cond side spot at scope predicate (outside_body body) (λ here inner names. lower_body z.program here inner names body)

  abbrev here : Site
  here = arm_site site cond side spot

  abbrev l : Lowered
  l = entered_names here spot at scope predicate (outside_body body)

  abbrev inside : Lowered
  inside = lower_body z.program here (spot_after spot l) (arm_scope l (outside_body body)) body

  pub arm_lists : {env : Env} {vs : List Value} {ss : Stores} (names : List Name) (n : ℕ) (behind_else : Bool) → FitsBody behind_else body
      → body_values z.program names body ≡ Ok n
      → (g : Runs (world_of z) env body vs ss) → BodyCounts z c g
      → (h : ActiveIn z c site spot an_arm) → RegionIn z c h.block (Arm cond side) → KnownIn z c scope env (body_uses body)
      → ListsOf z c spot an_arm (body_counted g)
  arm_lists {env = env} names n behind_else fits rule g means h taken known =
      let eb = block_is z.program z.graph z.origin z.inputs z.run z.state z.is_run c site spot an_arm h in
      let lines = (made_split z.program z.graph h.block spot.next l.nodes inside.nodes h.lines).0 in
      let some = arm_trigger z c h.block eb h.due here taken at spot scope predicate (outside_body body) lines in
      let all : ActiveIn z c here spot an_arm = stands_in_arm z c site spot an_arm cond side h taken some.0 some.1 in
      let stands : ActiveIn z c here (spot_after spot l) inside = rest_in z c here spot l inside an_arm refl refl all in
      let outer = agrees_once (flow z) z.inputs z.run z.state z.is_run c scope env (body_uses body) known in
      let entered = arm_entered z c h.block eb h.due here taken at spot scope env predicate (outside_body body) outer lines in
      let knows = agrees_arm (flow z) z.inputs z.run z.state z.is_run c env (outside_body body) l.sources [] entered (body_uses body)
      (uses_once (body_uses body)) in
      let out = means here (spot_after spot l) (arm_scope l (outside_body body)) names n behind_else fits rule stands knows in
      let none = enters_empty z c h.block eb here spot at (or_predicate predicate (map (source_in scope) (outside_body body))) lines in
      let long : spot.next + length l.nodes + length inside.nodes ≡ spot.next + length an_arm.nodes = let x = length-append l.nodes inside.nodes in
      omega (arith, x) in
      lists_to z c spot.next (spot.next + length l.nodes + length inside.nodes) (spot.next + length an_arm.nodes) (body_counted g) long
      (lists_before z c spot.next (spot.next + length l.nodes) (spot.next + length l.nodes + length inside.nodes) (body_counted g) (omega arith) none out)

-- where the lines of an arm lie
pub arm_lies : (z : Scene) (b : Block ℕ) (site : Site) (cond : ℕ) (side : Bool) (spot : Spot) (at : ℕ) (scope : Scope) (predicate : Source) (body : Body)
    → HoldsMade z.program z.graph b spot.next (an_arm z Main site cond side spot at scope predicate body).nodes
    → LieIn b (Arm cond side) (an_arm z Main site cond side spot at scope predicate body).nodes
arm_lies z b site cond side spot at scope predicate body lines =
    lie_arm z.program z.graph b site cond side spot at scope predicate (outside_body body) (λ here inner names. lower_body z.program here inner names body)
    (λ inner names w. body_lies z.program z.graph b (arm_site site cond side spot) inner names body w) lines

module _ (z : Scene) (c : Context) (at : ℕ) (l r : Body) (site : Site) (k : Spot) (scope : Scope) (ps : List Source) where
  abbrev yes_arm : Lowered
  yes_arm = an_arm z c site k.next true (next_spot k) at scope (first_of ps) l

  abbrev no_arm : Lowered
  no_arm = an_arm z c site k.next false (spot_after (next_spot k) yes_arm) at scope (first_of ps) r

  abbrev both_arms : Lowered
  both_arms = chosen site k at ps yes_arm no_arm

  module _ (x : Source) (v : Value) (only : ps ≡ x ∷ []) (has : HasIn z c x v) (h : ActiveIn z c site k both_arms) (env : Env) (names : List Name) (n : ℕ) where
    yes_lists : {vs : List Value} {ss : Stores} → truth v ≡ true → FitsBody false l → body_values z.program names l ≡ Ok n
        → KnownIn z c scope env (body_uses l) → (g : Runs (world_of z) env l vs ss) → BodyCounts z c g → ListsOf z c k both_arms (body_counted g)
    yes_lists t fits rule known g counts =
        let there = left_stands z c site k at ps yes_arm no_arm x v only has h in
        let taken = open_there z c site k at ps yes_arm no_arm x v only has h true t site (next_spot k) yes_arm there in
        left_lists z c site k at ps yes_arm no_arm x v only has h t (body_counted g)
        (arm_lists z c site k.next true (next_spot k) at scope (first_of ps) l names n false fits rule g counts there taken known)
        (λ lines. arm_lies z h.block site k.next false (spot_after (next_spot k) yes_arm) at scope (first_of ps) r lines)

    no_lists : {vs : List Value} {ss : Stores} → truth v ≡ false → FitsBody true r → body_values z.program names r ≡ Ok n
        → KnownIn z c scope env (body_uses r) → (g : Runs (world_of z) env r vs ss) → BodyCounts z c g → ListsOf z c k both_arms (body_counted g)
    no_lists t fits rule known g counts =
        let there = right_stands z c site k at ps yes_arm no_arm x v only has h in
        let taken = open_there z c site k at ps yes_arm no_arm x v only has h false t site (spot_after (next_spot k) yes_arm) no_arm there in
        right_lists z c site k at ps yes_arm no_arm x v only has h t (body_counted g)
        (arm_lists z c site k.next false (spot_after (next_spot k) yes_arm) at scope (first_of ps) r names n true fits rule g counts there taken known)
        (λ lines. arm_lies z h.block site k.next true (next_spot k) at scope (first_of ps) l lines)

-- THE PREDICATE's source has the value that the predicate is evaluated to.
pub record Tested (z : Scene) (c : Context) (xs : List Source) (v : Value) : Type 0 where
  pub source : Source
  pub sources : xs ≡ source ∷ []
  pub has : HasIn z c source v

pub tested : (z : Scene) (c : Context) (xs : List Source) (v : Value) → HaveIn z c xs (v ∷ []) → Tested z c xs v
tested z c [] v h = absurd h
tested z c (x ∷ []) v h = record { source = x; sources = refl; has = h.0 }
tested z c (x ∷ y ∷ xs) v h = absurd h.1

module _ (z : Scene) (c : Context) (one_answer : OneAnswer) (all : AllIn z c) (at : ℕ) (q : Expr) (l r : Body) where
  pub counts_if_true : {env : Env} {b : Value} {vs : List Value} {ss us : Stores} (d : Evaluates (world_of z) env q (b ∷ []) ss) (t : truth b ≡ true)
      (g : Runs (world_of z) env l vs us) → ExprCounts z c d → BodyCounts z c g → ExprCounts z c (if_true {t = at} {p = q} {l = l} {r = r} d t g)
  counts_if_true {env = env} {b = v} {ss = ss} d t g test arm_counts site spot scope names n fits rule h known =
      let p : Lowered = lower z.program site spot scope q in
      let k : Spot = spot_after spot p in
      let m : Lowered = both_arms z c at l r site k scope p.sources in
      let rules = in_if z.program names at q l r n rule in
      let outer = agrees_split (flow z) z.inputs z.run z.state z.is_run c scope env (uses q ++ body_uses l) (body_uses r) known in
      let inner = agrees_split (flow z) z.inputs z.run z.state z.is_run c scope env (uses q) (body_uses l) outer.0 in
      let before : ActiveIn z c site spot p = first_in z c site spot p (followed p m) m.nodes m.blocks refl refl h in
      let behind : ActiveIn z c site k m = rest_in z c site spot p m (followed p m) refl refl h in
      let out = all.expr q site spot scope env names 1 fits.0 rules.0.values before inner.0 in
      let x = tested z c p.sources v (subst (λ vs. HaveIn z c p.sources vs) (same_values one_answer (world_of z) env q out.vs (v ∷ []) out.ss ss out.evaluated d)
      out.have) in
      both_lists z c spot p m (counted d) (body_counted g) (test site spot scope names 1 fits.0 rules.0.values before inner.0)
      (yes_lists z c at l r site k scope p.sources x.source v x.sources x.has behind env names n t fits.1 rules.1 inner.1 g arm_counts)

  pub counts_if_false : {env : Env} {b : Value} {vs : List Value} {ss us : Stores} (d : Evaluates (world_of z) env q (b ∷ []) ss) (t : truth b ≡ false)
      (g : Runs (world_of z) env r vs us) → ExprCounts z c d → BodyCounts z c g → ExprCounts z c (if_false {t = at} {p = q} {l = l} {r = r} d t g)
  counts_if_false {env = env} {b = v} {ss = ss} d t g test arm_counts site spot scope names n fits rule h known =
      let p : Lowered = lower z.program site spot scope q in
      let k : Spot = spot_after spot p in
      let m : Lowered = both_arms z c at l r site k scope p.sources in
      let rules = in_if z.program names at q l r n rule in
      let outer = agrees_split (flow z) z.inputs z.run z.state z.is_run c scope env (uses q ++ body_uses l) (body_uses r) known in
      let inner = agrees_split (flow z) z.inputs z.run z.state z.is_run c scope env (uses q) (body_uses l) outer.0 in
      let before : ActiveIn z c site spot p = first_in z c site spot p (followed p m) m.nodes m.blocks refl refl h in
      let behind : ActiveIn z c site k m = rest_in z c site spot p m (followed p m) refl refl h in
      let out = all.expr q site spot scope env names 1 fits.0 rules.0.values before inner.0 in
      let x = tested z c p.sources v (subst (λ vs. HaveIn z c p.sources vs) (same_values one_answer (world_of z) env q out.vs (v ∷ []) out.ss ss out.evaluated d)
      out.have) in
      both_lists z c spot p m (counted d) (body_counted g) (test site spot scope names 1 fits.0 rules.0.values before inner.0)
      (no_lists z c at l r site k scope p.sources x.source v x.sources x.has behind env names n t fits.2 rules.2 outer.1 g arm_counts)
