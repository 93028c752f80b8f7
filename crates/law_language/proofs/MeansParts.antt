-- Parts of an active part are active, too, and an active line has its value.
use Rattle.std.proofs.Common.{◌≡◌, ℕ, ◌+◌, ◌<◌, ℤ, Bool, false, List, ◌∷◌, ◌++◌, length, map, Option, Some, nat_lt, sym, ap, ◌∙◌, subst, arith, le-ltb}
use Rattle.std.proofs.lemmas.List.{length-map}
use Rattle.tags.specs.declared.value.Value.{Value}
use Rattle.tags.specs.declared.value.Origin.{Origin}
use Rattle.tags.specs.declared.value.Origin.TheVariants.{At}
use Rattle.semantics.specs.Graph.{Node, Block, Graph, Flow, node_at, node_count, flow_of}
use Rattle.semantics.specs.Meaning.{Context, State, Activity, Run, Stood, ArmsTaken, arm_of, arms_round, arms_at, block_of, block_numbered, start}
use Rattle.law_confluence.specs.EquationsHave.{Gives, ports_of, ports_in}
use Rattle.law_confluence.specs.Equations.{IsDue, TakenAt, BlockEquation, NodeEquation, LineEquation}
use Rattle.law_confluence.specs.EquationsSettled.{Settled}
use Rattle.law_confluence.proofs.EquationsGraphForms.{line_past, ports_line_at}
use Rattle.source.specs.Tree.{Program}
use Rattle.source.specs.Lowered.{Made, MadeBlock, Lowered, Site, Spot, spot_after}
use Rattle.source.specs.Holds.{Holds}
use Rattle.law_language.specs.MeansHolds.{resolved, MayFail, AreTraced, HasBlocks}
use Rattle.law_language.specs.Means.{IsActive}
use Rattle.source.proofs.Holding.{holds_split}
use Rattle.law_language.proofs.MeansHolding.{traced_split, blocks_split, resolved_append}

-- A LINE of an invocation that is due, where its region is taken: each port has a value, which satisfies its equation.
module _ (fl : Flow) (inputs : List ℤ) (run : List Activity) (s : State) (r : Run fl (start inputs) run s) (st : Settled fl inputs run s r) where
  pub line_gives : (c : Context) (b : Block ℕ) (n q : ℕ) (line : Node ℕ) → block_of fl c ≡ Some b → IsDue fl inputs run s r c → node_at b n ≡ Some line
      → ArmsTaken (Stood fl (start inputs) run s r) c (arms_round (node_count b) b line.region) → q < ports_of fl line.kind line.sources
      → (v : Value) × Gives fl run s.memory c n q v × LineEquation fl inputs run s r c n q v line.kind line.sources
  line_gives c b n q line eb due el arms low =
      let taken : TakenAt fl inputs run s r c n =
      subst (λ (o : Option (Block ℕ)). ArmsTaken (Stood fl (start inputs) run s r) c (arms_at o n)) (sym eb)
      (subst (λ (o : Option (Node ℕ)). ArmsTaken (Stood fl (start inputs) run s r) c (arms_round (node_count b) b (arm_of o))) (sym el) arms) in
      let ports = ap (λ (o : Option (Block ℕ)). ports_in fl o n) eb ∙ ports_line_at fl b n line el in
      let v = st.given c n q due taken (omega (arith, ports, low)) in
      let past : nat_lt n b.inputs ≡ false = le-ltb n b.inputs (line_past b n line el).0 in
      let e = subst (λ (o : Option (Block ℕ)). BlockEquation fl inputs run s r c n q v.0 o) eb (st.equations c n q v.0 v.1) in
      let f = subst (λ (t : Bool). NodeEquation fl inputs run s r c n q v.0 t (node_at b n)) past e in
      (v.0, v.1, subst (λ (o : Option (Node ℕ)). NodeEquation fl inputs run s r c n q v.0 false o) el f)

module _ (p : Program) (g : Graph) (origin : ℕ → Origin) (inputs : List ℤ) (run : List Activity) (s : State)
    (r : Run (flow_of g) (start inputs) run s) (c : Context) (site : Site) (spot : Spot) where
  abbrev ActiveHere : Spot → Lowered → Type 0
  ActiveHere at l = IsActive p g origin inputs run s r c site at l

  -- what is before the rest
  pub first_part : (l m : Lowered) (ns : List Made) (bs : List MadeBlock) → m.nodes ≡ l.nodes ++ ns → m.blocks ≡ l.blocks ++ bs → ActiveHere spot m
      → ActiveHere spot l
  first_part l m ns bs en eb h =
      record {
        number = h.number;
        block = h.block;
        is_number = h.is_number;
        is_block = h.is_block;
        due = h.due;
        taken = h.taken;
        trigger = h.trigger;
        triggered = h.triggered;
        lines = (holds_split h.block spot.next (map (resolved g) l.nodes) (map (resolved g) ns)
            (subst (λ ls. Holds h.block spot.next ls) (ap (λ ms. map (resolved g) ms) en ∙ resolved_append g l.nodes ns) h.lines)).0;
        traced = (traced_split origin h.number spot.next l.nodes ns (subst (λ ms. AreTraced origin h.number spot.next ms) en h.traced)).0;
        loops = (blocks_split g origin site.function l.blocks bs (subst (λ bs. HasBlocks g origin site.function bs) eb h.loops)).0;
      }

  -- and the rest after it
  pub rest_part : (l r' m : Lowered) → m.nodes ≡ l.nodes ++ r'.nodes → m.blocks ≡ l.blocks ++ r'.blocks → ActiveHere spot m → ActiveHere (spot_after spot l) r'
  rest_part l r' m en eb h =
      let long : length (map (resolved g) l.nodes) ≡ length l.nodes = length-map l.nodes (resolved g) in
      record {
        number = h.number;
        block = h.block;
        is_number = h.is_number;
        is_block = h.is_block;
        due = h.due;
        taken = h.taken;
        trigger = h.trigger;
        triggered = h.triggered;
        lines = subst (λ n. Holds h.block (spot.next + n) (map (resolved g) r'.nodes)) long
            (holds_split h.block spot.next (map (resolved g) l.nodes) (map (resolved g) r'.nodes)
            (subst (λ ls. Holds h.block spot.next ls) (ap (λ ms. map (resolved g) ms) en ∙ resolved_append g l.nodes r'.nodes) h.lines)).1;
        traced = (traced_split origin h.number spot.next l.nodes r'.nodes (subst (λ ms. AreTraced origin h.number spot.next ms) en h.traced)).1;
        loops = (blocks_split g origin site.function l.blocks r'.blocks (subst (λ bs. HasBlocks g origin site.function bs) eb h.loops)).1;
      }

  -- the first line
  pub own_line : (l : Lowered) (m : Made) (ms : List Made) → l.nodes ≡ m ∷ ms → (h : ActiveHere spot l)
      → (node_at h.block spot.next ≡ Some (resolved g m)) × (MayFail m.node.kind → origin m.at ≡ At h.number spot.next)
  own_line l m ms e h =
      ((subst (λ ms. Holds h.block spot.next (map (resolved g) ms)) e h.lines).0, (subst (λ ms. AreTraced origin h.number spot.next ms) e h.traced).0)

  pub block_is : (l : Lowered) (h : ActiveHere spot l) → block_of (flow_of g) c ≡ Some h.block
  block_is l h = ap (λ o. block_numbered (flow_of g) o) h.is_number ∙ h.is_block
