-- WHERE THE TOKENS OF A RUN COME FROM, and that an activity has happened where a token at one of its places was taken.
use Rattle.std.proofs.Common.{◌≡◌, ℕ, ◌<◌, ℤ, List, [], ◌∷◌, ◌++◌, length, flat_map, Some, Contains, refl, sym, ap, ◌∙◌}
use Rattle.std.proofs.Common.{subst, arith, ⊎_elim}
use Rattle.std.specs.Prelude.{slice_get}
use Rattle.std.proofs.lemmas.Option.{same_Some}
use Rattle.std.proofs.lemmas.List.Sorted.{IsPermutation-sym, IsPermutation-append_left}
use Rattle.tags.specs.declared.value.Value.{Value}
use Rattle.semantics.specs.declared.graph.Source.{Source}
use Rattle.semantics.specs.Graph.{Graph, Node, Block, Flow, flow_of, node_at}
use Rattle.semantics.specs.WellFormed.{WellFormed}
use Rattle.semantics.specs.Meaning.{Context, AtNode, AtOut, Operand, Tagged, tagged, Activity, Fires, Gates, Passes, Returns, Turns, Outputs}
use Rattle.semantics.specs.Meaning.{taken, Deed, Message, Sends, Steers, Enters, Nothing, deed, block_of, start}
use Rattle.lemmas.proofs.Permutations.{Within, Each, each_within, within_from, within_left, within_flat_map, within_permutation, put_first}
use Rattle.lemmas.proofs.Contains.{contains_get}
use Rattle.law_confluence.specs.Outcome.{AreInputsOf, SameTag}
use Rattle.law_confluence.specs.Equations.{IsDue}
use Rattle.law_confluence.proofs.ActivityRows.{region_node}
use Rattle.law_confluence.proofs.ActivityUses.{UseOf, AsOperand, AsResult, AsFlag, AsCarried, Member}
use Rattle.law_confluence.proofs.History.{Ever, run_history, run_lawful, stood_ever, Cause, at_start}
use Rattle.law_confluence.proofs.HistoryDue.{ever_stood}
use Rattle.law_confluence.proofs.HistoryLaws.{Lawful, ArmLaw, LineLaw, PlaceLaw, lawful_more, source_of}
use Rattle.law_confluence.proofs.Outcome.{stood_once, standing_due}
use Rattle.law_confluence.proofs.OutcomeResolved.{flow_well, fits}
use Rattle.law_confluence.proofs.OutcomeRest.{takes_some}
use Rattle.law_confluence.proofs.EquationsGraphForms.{line_past}
use Rattle.law_confluence.proofs.EquationsRunTakers.{Taker, run_deeds, same_taker}
use Rattle.law_loops_complete.specs.Within.{place_of}
use Rattle.law_ordered_runs.proofs.Extending.{Going, Came}

module _ (g : Graph) (inputs : List ℤ) (well : WellFormed g) (count : AreInputsOf g inputs) (x : Going g inputs) where
  abbrev fl : Flow
  fl = flow_of g

  abbrev CameIn : Tagged → Type 0
  CameIn t = Came g inputs well count x t

  abbrev pub DueIn : Context → Type 0
  DueIn c = IsDue fl inputs x.run x.state x.is_run c

  -- an activity of the graph, all of whose tokens have come
  pub record Comes (a : Activity) : Type 0 where
    pub does : Deed
    pub is_deed : deed fl a ≡ Some does
    pub came : Each CameIn (taken a)

  ever : (t : Tagged) → CameIn t → Ever (flat_map taken x.run) x.state.tokens t
  ever t h = stood_ever fl (start inputs) x.state x.run x.is_run t h

  pub lawful : (t : Tagged) → CameIn t → Lawful fl CameIn t
  lawful t h =
      lawful_more fl (Ever (flat_map taken x.run) x.state.tokens) CameIn (ever_stood fl (start inputs) x.state x.run x.is_run) t
      (run_lawful fl (flow_well g well) inputs (fits g well inputs count) x.state x.run x.is_run t (ever t h))

  -- one place, one token
  pub one_token : (t u : Tagged) → CameIn t → CameIn u → SameTag t u → t ≡ u
  one_token t u h k same = stood_once g well inputs count x.state x.run x.is_run t u h k same

  pub taken_came : (a : Activity) → Contains x.run a → (t : Tagged) → Within t (taken a) → CameIn t
  taken_came a h t k =
      ever_stood fl (start inputs) x.state x.run x.is_run t
      (within_left t (flat_map taken x.run) x.state.tokens (within_flat_map taken a t x.run (within_from a x.run h) k))

  -- AN ACTIVITY HAS HAPPENED where one that did takes from one of its places.
  pub happened_at : (a b : Activity) → Comes a → Contains x.run b → (t u : Tagged) → Within t (taken b) → Within u (taken a) → SameTag t u → Contains x.run a
  happened_at a b h k t u i j same =
      let e : t ≡ u = one_token t u (taken_came b k t i) (each_within CameIn u (taken a) j h.came) same in
      let at = contains_get x.run b k in
      let took : Taker x.run u = record { place = at.0; activity = b; stands = at.1; takes = subst (λ t. Within t (taken b)) e i } in
      subst (λ b. Contains x.run b) (same_taker g well inputs count x.run x.state x.is_run a h.does h.is_deed h.came u j took) k

  pub some_operand : (a : Activity) → Comes a → 0 < length (taken a)
  some_operand a h = takes_some fl (flow_well g well) a h.does h.is_deed

  -- where it takes place is due
  pub place_due : (a : Activity) → Comes a → DueIn (place_of a)
  place_due a h = go a h.came (some_operand a h)
    where
      due : (t : Tagged) → CameIn t → DueIn t.context
      due t k = standing_due g well inputs count x.state x.run x.is_run t k

      go : (a : Activity) → Each CameIn (taken a) → 0 < length (taken a) → DueIn (place_of a)
      go (Fires c n []) k l = absurd (omega (arith, l))
      go (Fires c n (v ∷ vs)) k l = due (tagged c (AtNode n) (Operand 0) v) k.0
      go (Gates c n v b) k l = due (tagged c (AtNode n) (Operand 0) v) k.0
      go (Passes c n i v) k l = due (tagged c (AtNode n) (Operand i) v) k.0
      go (Returns c n j v) k l = due _ k.0
      go (Turns c n i j b v) k l = due _ k.0
      go (Outputs j v) k l = due _ k.0

  -- A NODE THAT HAS FIRED fires with nothing else.
  pub fired_once : (c : Context) (n : ℕ) (vs ws : List Value) → Contains x.run (Fires c n vs) → Comes (Fires c n ws) → Contains x.run (Fires c n ws)
  fired_once c n vs ws k h = go vs ws k h (some_operand (Fires c n ws) h) (takes (contains_get x.run (Fires c n vs) k))
    where
      takes : (i : ℕ) × (slice_get x.run i ≡ Some (Fires c n vs)) → 0 < length (taken (Fires c n vs))
      takes at =
          let d = run_deeds fl (start inputs) x.state x.run x.is_run at.0 (Fires c n vs) at.1 in takes_some fl (flow_well g well) (Fires c n vs) d.0 d.1

      go : (vs ws : List Value) → Contains x.run (Fires c n vs) → Comes (Fires c n ws) → 0 < length (taken (Fires c n ws)) → 0 < length (taken (Fires c n vs))
          → Contains x.run (Fires c n ws)
      go vs [] k h l m = absurd (omega (arith, l))
      go [] (w ∷ ws) k h l m = absurd (omega (arith, m))
      go (v ∷ vs) (w ∷ ws) k h l m =
          happened_at (Fires c n (w ∷ ws)) (Fires c n (v ∷ vs)) h k (tagged c (AtNode n) (Operand 0) v) (tagged c (AtNode n) (Operand 0) w) (_, put_first _ _)
          (_, put_first _ _) (refl, refl, refl)

  -- ORIGINS. An operand's token is of one of the node's sources, in whose region an arm is taken.
  pub operand_source : (c : Context) (b : Block ℕ) (n i : ℕ) (line : Node ℕ) (v : Value) → block_of fl c ≡ Some b → node_at b n ≡ Some line
      → CameIn (tagged c (AtNode n) (Operand i) v)
      → (s : Source) × (slice_get line.sources i ≡ Some s) × ArmLaw CameIn c (region_node (node_at b s.node))
  operand_source c b n i line v eb el h = go ((lawful _ h).1)
    where
      go : PlaceLaw fl CameIn c v (AtNode n) (Operand i)
          → (s : Source) × (slice_get line.sources i ≡ Some s) × ArmLaw CameIn c (region_node (node_at b s.node))
      go law =
          let bs : law.0 ≡ b = same_Some law.0 b (sym law.1 ∙ eb) in
          ⊎_elim (λ l. (let past = (line_past b n line el).0 in let low = l.0 in let same = ap (λ (b : Block ℕ). b.inputs) bs in
          absurd (omega (arith, low, same, past)))) (λ (l : LineLaw CameIn c law.0 n i).
          (let lines = same_Some l.0 line (sym l.2 ∙ ap (λ (b : Block ℕ). node_at b n) bs ∙ el) in (
            l.1,
            subst (λ (line : Node ℕ). slice_get line.sources i ≡ Some l.1) lines l.3,
            subst (λ (b : Block ℕ). ArmLaw CameIn c (region_node (node_at b l.1.node))) bs l.4,
          ))) law.2

  -- A token at a result is of a source of that.
  pub result_source : (c : Context) (b : Block ℕ) (j : ℕ) (v : Value) → block_of fl c ≡ Some b → CameIn (tagged c (AtOut j) (Operand 0) v)
      → (s : Source) × (slice_get b.results j ≡ Some s)
  result_source c b j v eb h =
      let past = run_history fl (flow_well g well) inputs (fits g well inputs count) x.state x.run x.is_run in
      let moved = IsPermutation-append_left x.state.tokens past.0 (flat_map taken x.run) past.2 in
      let there : Ever past.0 x.state.tokens (tagged c (AtOut j) (Operand 0) v) =
      within_permutation _ (flat_map taken x.run ++ x.state.tokens) (past.0 ++ x.state.tokens) (IsPermutation-sym _ _ moved) (ever _ h) in
      ⊎_elim (λ k. of_message (at_start inputs) k) (λ (k : Cause fl past.0 (tagged c (AtOut j) (Operand 0) v)). of_message k.message k.member)
      (past.1.caused _ there)
    where
      of_use : (k : Block ℕ) (d : Context) (n p : ℕ) → block_of fl d ≡ Some k → c ≡ d → UseOf k d n p (AtOut j) (Operand 0)
          → (s : Source) × (slice_get b.results j ≡ Some s)
      of_use k d n p ek ed (AsResult i es eq src) =
          let same : i ≡ j = cc in
          let s = source_of n p (slice_get k.results i) src in
          let blocks : k ≡ b = same_Some k b (sym ek ∙ sym (ap (block_of fl) ed) ∙ eb) in
          (s.0, subst (λ (b : Block ℕ). slice_get b.results j ≡ Some s.0) blocks (ap (λ i. slice_get k.results i) (sym same) ∙ s.1))
      of_use k d n p ek ed (AsOperand m i line es eq low el src) = absurd (cc)
      of_use k d n p ek ed (AsFlag i es eq low high src turned) = absurd (cc)
      of_use k d n p ek ed (AsCarried i es eq low src) = absurd (cc)

      of_message : (m : Message) → Member fl m (tagged c (AtOut j) (Operand 0) v) → (s : Source) × (slice_get b.results j ≡ Some s)
      of_message (Sends d n p w) k = of_use k.2.0 d n p k.2.1 k.0 k.2.2
      of_message (Steers d m w) k = let port = k.2 in absurd (cc)
      of_message (Enters d from vs) k = let at = k.2.2 in absurd (cc)
      of_message Nothing k = absurd k
