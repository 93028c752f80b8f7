-- A CONDITIONAL delivers what the arm delivers that its predicate chooses.
use Rattle.std.proofs.Common.{◌≡◌, ℕ, ◌+◌, Bool, true, false, List, [], ◌∷◌, ◌++◌, length, map, Some, if◌then◌else◌, refl, sym, ap, ◌∙◌, subst, arith}
use Rattle.std.proofs.Common.{length-append}
use Rattle.std.specs.Prelude.{slice_get}
use Rattle.std.proofs.lemmas.List.{length-map}
use Rattle.std.proofs.lemmas.Option.{same_Some}
use Rattle.tags.specs.declared.value.Value.{Value}
use Rattle.operators.specs.Values.{truth}
use Rattle.semantics.specs.declared.graph.Region.TheVariants.{Arm}
use Rattle.semantics.specs.declared.graph.Source.{Source}
use Rattle.semantics.specs.declared.graph.Kind.TheVariants as node
use Rattle.semantics.specs.Graph.{Node, Block, node_at, node_count}
use Rattle.semantics.specs.Meaning.{Context, AtNode, Operand, tagged, ArmsTaken, arm_of, arms_round, arms_at, block_of, node_in, node_of}
use Rattle.lemmas.proofs.Permutations.{Each, each_map}
use Rattle.law_confluence.specs.EquationsHave.{source_line}
use Rattle.law_confluence.specs.Equations.{TakenAt, HasSome, Argument}
use Rattle.law_confluence.specs.EquationsSettled.{Decides}
use Rattle.law_confluence.proofs.EquationsGraphFormed.{shaped}
use Rattle.law_confluence.proofs.EquationsValuesSides.{one_more}
use Rattle.source.specs.Tree.{Name}
use Rattle.source.specs.Evaluates.{Env, Stores}
use Rattle.source.specs.Lowered.{Made, Lowered, Site, Spot, Scope, spot_after, next_spot, made, source_in, enters, entered_names, merges, chosen, inputs_from}
use Rattle.source.specs.Lowered.{port}
use Rattle.law_language.specs.MeansHolds.{resolved}
use Rattle.law_language.proofs.MeansNamesAgree.{Entered}
use Rattle.law_language.proofs.MeansStoreLines.{IsQuiet, quiet}
use Rattle.law_language.proofs.MeansParts.{own_line, block_is, line_gives}
use Rattle.law_language.proofs.MeansLeaves.{append_nothing}
use Rattle.law_language.proofs.MeansScene.{Scene, flow, StoodIn, DueIn, RegionIn, HasIn, HaveIn, KnownIn, StoresIn, ActiveIn, DeliversIn}
use Rattle.law_language.proofs.MeansStanding.{first_in, rest_in, stands_at, MakesIn, makes_none, makes_both, makes_to, makes_same}
use Rattle.law_language.proofs.MeansLies.{HoldsMade, made_split, LieIn, Inside}
use Rattle.law_language.proofs.MeansSilent.{quiet_lines, silent_arm}

-- ENTERS of an arm that is taken: each has the value of its source.
module _ (z : Scene) (c : Context) (b : Block ℕ) (eb : block_of (flow z) c ≡ Some b) (due : DueIn z c) (here : Site) (here_taken : RegionIn z c b here.region)
    (at : ℕ) where
  abbrev pub Held : ℕ → List Made → Type 0
  Held n ms = HoldsMade z.program z.graph b n ms

  abbrev pub enter : Source → Made
  enter s = made here at node.Enter (s ∷ [])

  enter_has : (n : ℕ) (s : Source) (v : Value) → node_at b n ≡ Some (resolved z.graph (enter s)) → HasIn z c s v → HasIn z c (port n 0) v
  enter_has n s v el h =
      let w = line_gives (flow z) z.inputs z.run z.state z.is_run z.settled c b n 0 (resolved z.graph (enter s)) eb due el here_taken (omega arith) in
      let same : w.0 ≡ v = z.settled.one_value c s.node s.port w.0 v w.2 h in
      subst (λ v. HasIn z c (port n 0) v) same w.1

  pub enters_have : (n : ℕ) (ss : List Source) (vs : List Value) → HaveIn z c ss vs → Held n (map (λ (s : Source). enter s) ss)
      → HaveIn z c (inputs_from n (length ss)) vs
  enters_have n [] [] h k = tt
  enters_have n [] (v ∷ vs) h k = absurd h
  enters_have n (s ∷ ss) [] h k = absurd h
  enters_have n (s ∷ ss) (v ∷ vs) h k = (enter_has n s v k.0 h.0, enters_have (n + 1) ss vs h.1 k.1)

  enters_known : (n : ℕ) (scope : Scope) (env : Env) (xs : List Name) → KnownIn z c scope env xs
      → Held n (map (λ (s : Source). enter s) (map (source_in scope) xs))
      → Entered (flow z) z.inputs z.run z.state z.is_run c env xs (inputs_from n (length (map (source_in scope) xs)))
  enters_known n scope env [] h k = tt
  enters_known n scope env (x ∷ xs) h k = ((h.0.0, h.0.1, enter_has n (source_in scope x) h.0.0 k.0 h.0.2), enters_known (n + 1) scope env xs h.1 k.1)

  pub arm_entered : (spot : Spot) (scope : Scope) (env : Env) (predicate : Source) (xs : List Name) → KnownIn z c scope env xs
      → Held spot.next (entered_names here spot at scope predicate xs).nodes
      → Entered (flow z) z.inputs z.run z.state z.is_run c env xs (entered_names here spot at scope predicate xs).sources
  arm_entered spot scope env predicate [] h k = tt
  arm_entered spot scope env predicate (x ∷ xs) h k = enters_known spot.next scope env (x ∷ xs) h k

-- enters are quiet
pub enters_quiet : (z : Scene) (c : Context) (b : Block ℕ) → block_of (flow z) c ≡ Some b → (here : Site) (spot : Spot) (at : ℕ) (ss : List Source)
    → HoldsMade z.program z.graph b spot.next (enters here spot at ss).nodes
    → StoresIn z c spot.next (spot.next + length (enters here spot at ss).nodes) ≡ []
enters_quiet z c b eb here spot at ss h =
    subst (λ n. StoresIn z c spot.next (spot.next + n) ≡ []) (length-map (enters here spot at ss).nodes (resolved z.graph))
    (quiet_lines z c b eb spot.next (map (resolved z.graph) (enters here spot at ss).nodes) h
    (each_map (λ (line : Node ℕ). IsQuiet line.kind) (resolved z.graph) (enters here spot at ss).nodes
    (each_map (λ (m : Made). IsQuiet (resolved z.graph m).kind) (λ (s : Source). made here at node.Enter (s ∷ [])) ss (all ss))))
  where
    all : (ss : List Source) → Each (λ (s : Source). IsQuiet (resolved z.graph (made here at node.Enter (s ∷ []))).kind) ss
    all [] = tt
    all (s ∷ ss) = (tt, all ss)

-- the first enter of an arm has a value, once the region of the arm is taken
pub arm_trigger : (z : Scene) (c : Context) (b : Block ℕ) → block_of (flow z) c ≡ Some b → DueIn z c → (here : Site) → RegionIn z c b here.region
    → (at : ℕ) (spot : Spot) (scope : Scope) (predicate : Source) (xs : List Name)
    → HoldsMade z.program z.graph b spot.next (entered_names here spot at scope predicate xs).nodes → (v : Value) × HasIn z c (port spot.next 0) v
arm_trigger z c b eb due here here_taken at spot scope predicate xs h = go xs h
  where
    one : (s : Source) → node_at b spot.next ≡ Some (resolved z.graph (made here at node.Enter (s ∷ []))) → (v : Value) × HasIn z c (port spot.next 0) v
    one s el =
        let w = line_gives (flow z) z.inputs z.run z.state z.is_run z.settled c b spot.next 0
        (resolved z.graph (made here at node.Enter (s ∷ []))) eb due el here_taken (omega arith) in
        (w.0, w.1)

    go : (xs : List Name) → HoldsMade z.program z.graph b spot.next (entered_names here spot at scope predicate xs).nodes
        → (v : Value) × HasIn z c (port spot.next 0) v
    go [] h = one predicate h.0
    go (x ∷ xs) h = one (source_in scope x) h.0

-- THE CONDITIONAL, its arms and its merges
module _ (z : Scene) (c : Context) (site : Site) (k : Spot) (at : ℕ) (ps : List Source) (a b : Lowered) (x : Source) (v : Value) (only : ps ≡ x ∷ [])
    (has : HasIn z c x v)
    (h : ActiveIn z c site k (chosen site k at ps a b)) where
  abbrev pub ms : List Made
  ms = merges site at k.next a.sources b.sources

  abbrev cond : Made
  cond = made site at node.Cond ps

  abbrev line : Node ℕ
  line = resolved z.graph cond

  pub cond_block : block_of (flow z) c ≡ Some h.block
  cond_block = block_is z.program z.graph z.origin z.inputs z.run z.state z.is_run c site k (chosen site k at ps a b) h

  el : node_at h.block k.next ≡ Some line
  el = (own_line z.program z.graph z.origin z.inputs z.run z.state z.is_run c site k (chosen site k at ps a b) cond (a.nodes ++ b.nodes ++ ms) refl h).0

  line_is : node_of (flow z) c k.next ≡ Some line
  line_is = ap (λ o. node_in o k.next) cond_block ∙ el

  cond_taken : TakenAt (flow z) z.inputs z.run z.state z.is_run c k.next
  cond_taken =
      subst (λ o. ArmsTaken (StoodIn z) c (arms_at o k.next)) (sym cond_block)
      (subst (λ o. ArmsTaken (StoodIn z) c (arms_round (node_count h.block) h.block (arm_of o))) (sym el) h.taken)

  decides : Decides (flow z) z.inputs z.run z.state z.is_run c k.next
  decides = z.settled.decided c k.next line h.due cond_taken line_is refl

  argument_is : (w : Value) → Argument (flow z) z.inputs z.run z.state z.is_run c k.next 0 w → w ≡ v
  argument_is w e =
      let its : HasIn z c x w =
      subst (λ o. HasSome (flow z) z.inputs z.run z.state z.is_run c o w) (ap (λ o. source_line o 0) line_is ∙ ap (λ ss. slice_get ss 0) only) e in
      z.settled.one_value c x.node x.port w v its has

  pub arm_open : (side : Bool) → truth v ≡ side → RegionIn z c h.block (Arm k.next side)
  arm_open side e =
      one_more (StoodIn z) c h.block (node_count h.block) k.next side decides.value decides.stood (ap truth (argument_is decides.value decides.argument) ∙ e)
      (subst (λ r. RegionIn z c h.block r) (sym (ap arm_of el)) h.taken)

  arm_shut : (side : Bool) → (truth v ≡ side → ⊥) → (w : Value) → StoodIn z (tagged c (AtNode k.next) (Operand 0) w) → truth w ≡ side → ⊥
  arm_shut side not_so w stood e = not_so (ap truth (sym (decides.only w stood ∙ argument_is decides.value decides.argument)) ∙ e)

  -- PARTS
  abbrev rest : Lowered
  rest = record { nodes = a.nodes ++ b.nodes ++ ms; sources = []; blocks = a.blocks ++ b.blocks }

  abbrev both : Lowered
  both = record { nodes = a.nodes ++ b.nodes; sources = []; blocks = a.blocks ++ b.blocks }

  rest_stands : ActiveIn z c site (next_spot k) rest
  rest_stands =
      let head : Lowered = record { nodes = cond ∷ []; sources = []; blocks = [] } in
      stands_at z c site (spot_after k head) (next_spot k) rest (omega arith) (rest_in z c site k head rest (chosen site k at ps a b) refl refl h)

  both_stand : ActiveIn z c site (next_spot k) both
  both_stand = first_in z c site (next_spot k) both rest ms [] refl (sym (append_nothing both.blocks)) rest_stands

  pub left_stands : ActiveIn z c site (next_spot k) a
  left_stands = first_in z c site (next_spot k) a both b.nodes b.blocks refl refl both_stand

  pub right_stands : ActiveIn z c site (spot_after (next_spot k) a) b
  right_stands = rest_in z c site (next_spot k) a b both refl refl both_stand

  -- the region of an arm that is taken, for whatever is active there
  pub open_there : (side : Bool) → truth v ≡ side → (to : Site) (spot : Spot) (l : Lowered) (there : ActiveIn z c to spot l)
      → RegionIn z c there.block (Arm k.next side)
  open_there side e to spot l there =
      let its = block_is z.program z.graph z.origin z.inputs z.run z.state z.is_run c to spot l there in
      let same : h.block ≡ there.block = same_Some h.block there.block (sym cond_block ∙ its) in
      subst (λ b. RegionIn z c b (Arm k.next side)) same (arm_open side e)

  abbrev Lines : ℕ → List Made → Type 0
  Lines n ns = HoldsMade z.program z.graph h.block n ns

  both_lines : Lines (k.next + 1) both.nodes × Lines (k.next + 1 + length both.nodes) ms
  both_lines = made_split z.program z.graph h.block (k.next + 1) both.nodes ms h.lines.1

  arm_lines : Lines (k.next + 1) a.nodes × Lines (k.next + 1 + length a.nodes) b.nodes
  arm_lines = made_split z.program z.graph h.block (k.next + 1) a.nodes b.nodes both_lines.0

  -- MERGES
  merge_gives : (n : ℕ) (s t : Source) → node_at h.block n ≡ Some (resolved z.graph (made site at (node.Merge k.next) (s ∷ t ∷ [])))
      → (w : Value) × HasIn z c (port n 0) w × HasIn z c (if truth v then s else t) w
  merge_gives n s t e =
      let w = line_gives (flow z) z.inputs z.run z.state z.is_run z.settled c h.block n 0 (resolved z.graph (made site at (node.Merge k.next) (s ∷ t ∷ [])))
      cond_block h.due e h.taken (omega arith) in
      (w.0, w.1, subst (λ q. HasIn z c (if truth q then s else t) w.0) (argument_is w.2.0 w.2.1) w.2.2)

  merges_left : truth v ≡ true → (n : ℕ) (ls rs : List Source) (vs : List Value) → length ls ≡ length rs → HaveIn z c ls vs
      → HoldsMade z.program z.graph h.block n (merges site at k.next ls rs)
      → HaveIn z c (inputs_from n (length (merges site at k.next ls rs))) vs
  merges_left t n [] [] [] e g i = tt
  merges_left t n [] [] (w ∷ vs) e g i = absurd g
  merges_left t n [] (r ∷ rs) vs e g i = absurd (omega (arith, e))
  merges_left t n (l ∷ ls) [] vs e g i = absurd (omega (arith, e))
  merges_left t n (l ∷ ls) (r ∷ rs) [] e g i = absurd g
  merges_left t n (l ∷ ls) (r ∷ rs) (w ∷ vs) e g i =
      let m = merge_gives n l r i.0 in
      let its : HasIn z c l m.0 = subst (λ (t : Bool). HasIn z c (if t then l else r) m.0) t m.2 in
      let same : m.0 ≡ w = z.settled.one_value c l.node l.port m.0 w its g.0 in
      (subst (λ w. HasIn z c (port n 0) w) same m.1, merges_left t (n + 1) ls rs vs (omega (arith, e)) g.1 i.1)

  merges_right : truth v ≡ false → (n : ℕ) (ls rs : List Source) (vs : List Value) → length ls ≡ length rs → HaveIn z c rs vs
      → HoldsMade z.program z.graph h.block n (merges site at k.next ls rs)
      → HaveIn z c (inputs_from n (length (merges site at k.next ls rs))) vs
  merges_right t n [] [] [] e g i = tt
  merges_right t n [] [] (w ∷ vs) e g i = absurd g
  merges_right t n [] (r ∷ rs) vs e g i = absurd (omega (arith, e))
  merges_right t n (l ∷ ls) [] vs e g i = absurd (omega (arith, e))
  merges_right t n (l ∷ ls) (r ∷ rs) [] e g i = absurd g
  merges_right t n (l ∷ ls) (r ∷ rs) (w ∷ vs) e g i =
      let m = merge_gives n l r i.0 in
      let its : HasIn z c r m.0 = subst (λ (t : Bool). HasIn z c (if t then l else r) m.0) t m.2 in
      let same : m.0 ≡ w = z.settled.one_value c r.node r.port m.0 w its g.0 in
      (subst (λ w. HasIn z c (port n 0) w) same m.1, merges_right t (n + 1) ls rs vs (omega (arith, e)) g.1 i.1)

  -- STORES: those of the arms
  merges_quiet : (ls rs : List Source) → Each (λ (m : Made). IsQuiet (resolved z.graph m).kind) (merges site at k.next ls rs)
  merges_quiet [] rs = tt
  merges_quiet (l ∷ ls) [] = tt
  merges_quiet (l ∷ ls) (r ∷ rs) = (tt, merges_quiet ls rs)

  joins_quiet : StoresIn z c (k.next + 1 + length both.nodes) (k.next + 1 + length both.nodes + length ms) ≡ []
  joins_quiet =
      subst (λ n. StoresIn z c (k.next + 1 + length both.nodes) (k.next + 1 + length both.nodes + n) ≡ []) (length-map ms (resolved z.graph))
      (quiet_lines z c h.block cond_block (k.next + 1 + length both.nodes) (map (resolved z.graph) ms) both_lines.1
      (each_map (λ (line : Node ℕ). IsQuiet line.kind) (resolved z.graph) ms (merges_quiet a.sources b.sources)))

  cond_quiet : StoresIn z c k.next (k.next + 1) ≡ []
  cond_quiet = quiet (flow z) z.inputs z.run z.state z.is_run z.settled c k.next line line_is tt

  all_stored : (ss us : Stores) → MakesIn z c ss (k.next + 1) (k.next + 1 + length a.nodes)
      → MakesIn z c us (k.next + 1 + length a.nodes) (k.next + 1 + length a.nodes + length b.nodes)
      → MakesIn z c (ss ++ us) k.next (k.next + length (chosen site k at ps a b).nodes)
  all_stored ss us f g =
      let arms = makes_both z c (k.next + 1) (length a.nodes) (length b.nodes) ss us f g in
      let two : k.next + 1 + length a.nodes + length b.nodes ≡ k.next + 1 + length both.nodes = let n = length-append a.nodes b.nodes in omega (arith, n) in
      let before = makes_to z c (ss ++ us) (k.next + 1) (k.next + 1 + length a.nodes + length b.nodes) (k.next + 1 + length both.nodes) two arms in
      let none = makes_none z c (k.next + 1 + length both.nodes) (k.next + 1 + length both.nodes + length ms) joins_quiet in
      let behind = makes_both z c (k.next + 1) (length both.nodes) (length ms) (ss ++ us) [] before none in
      let here = makes_same z c (ss ++ us ++ []) (ss ++ us) (k.next + 1) (k.next + 1 + length both.nodes + length ms) (append_nothing (ss ++ us)) behind in
      let first = makes_none z c k.next (k.next + 1) cond_quiet in
      let sum : k.next + 1 + length both.nodes + length ms ≡ k.next + 1 + (length both.nodes + length ms) = omega arith in
      let whole = makes_both z c k.next 1 (length both.nodes + length ms) [] (ss ++ us) first
      (makes_to z c (ss ++ us) (k.next + 1) (k.next + 1 + length both.nodes + length ms) (k.next + 1 + (length both.nodes + length ms)) sum here) in
      let long : k.next + 1 + (length both.nodes + length ms) ≡ k.next + length (chosen site k at ps a b).nodes = let n = length-append both.nodes ms in
      omega (arith, n) in
      makes_to z c (ss ++ us) k.next (k.next + 1 + (length both.nodes + length ms)) (k.next + length (chosen site k at ps a b).nodes) long whole

  other_silent : (side : Bool) → (truth v ≡ side → ⊥) → (n : ℕ) (ns : List Made) → HoldsMade z.program z.graph h.block n ns
      → LieIn h.block (Arm k.next side) ns → StoresIn z c n (n + length ns) ≡ []
  other_silent side not_so n ns holds lies =
      subst (λ i. StoresIn z c n (n + i) ≡ []) (length-map ns (resolved z.graph))
      (silent_arm z c h.block cond_block n (map (resolved z.graph) ns) holds (shaped z.graph z.well h.number h.block h.is_block) k.next side
      (each_map (λ (line : Node ℕ). Inside h.block (Arm k.next side) line.region) (resolved z.graph) ns lies) (arm_shut side not_so))

  -- IT DELIVERS what the arm that is taken delivers
  sources_at : k.next + 1 + length both.nodes ≡ k.next + 1 + length a.nodes + length b.nodes
  sources_at = let n = length-append a.nodes b.nodes in omega (arith, n)

  pub chosen_left : truth v ≡ true → length a.sources ≡ length b.sources → (gives : List Value → Stores → Type 0)
      → DeliversIn z c gives a.sources (k.next + 1) (k.next + 1 + length a.nodes)
      → (HoldsMade z.program z.graph h.block (k.next + 1 + length a.nodes) b.nodes → LieIn h.block (Arm k.next false) b.nodes)
      → DeliversIn z c gives (chosen site k at ps a b).sources k.next (k.next + length (chosen site k at ps a b).nodes)
  chosen_left t same gives out lies =
      let none = makes_none z c (k.next + 1 + length a.nodes) (k.next + 1 + length a.nodes + length b.nodes)
      (other_silent false (λ e. cc) (k.next + 1 + length a.nodes) b.nodes arm_lines.1 (lies arm_lines.1)) in
      record {
        vs = out.vs;
        ss = out.ss;
        evaluated = out.evaluated;
        have = subst (λ n. HaveIn z c (inputs_from n (length ms)) out.vs) sources_at (merges_left t
            (k.next + 1 + length both.nodes) a.sources b.sources out.vs same out.have both_lines.1);
        stored = makes_same z c (out.ss ++ []) out.ss k.next (k.next + length (chosen site k at ps a b).nodes) (append_nothing out.ss)
            (all_stored out.ss [] out.stored none);
      }

  pub chosen_right : truth v ≡ false → length a.sources ≡ length b.sources → (gives : List Value → Stores → Type 0)
      → DeliversIn z c gives b.sources (k.next + 1 + length a.nodes) (k.next + 1 + length a.nodes + length b.nodes)
      → (HoldsMade z.program z.graph h.block (k.next + 1) a.nodes → LieIn h.block (Arm k.next true) a.nodes)
      → DeliversIn z c gives (chosen site k at ps a b).sources k.next (k.next + length (chosen site k at ps a b).nodes)
  chosen_right t same gives out lies =
      let none = makes_none z c (k.next + 1) (k.next + 1 + length a.nodes) (other_silent true (λ e. cc) (k.next + 1) a.nodes arm_lines.0 (lies arm_lines.0)) in
      record {
        vs = out.vs;
        ss = out.ss;
        evaluated = out.evaluated;
        have = subst (λ n. HaveIn z c (inputs_from n (length ms)) out.vs) sources_at (merges_right t
            (k.next + 1 + length both.nodes) a.sources b.sources out.vs same out.have both_lines.1);
        stored = all_stored [] out.ss none out.stored;
      }
