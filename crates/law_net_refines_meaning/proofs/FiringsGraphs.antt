-- A well-formed graph has as many operands as its nodes want.
use Rattle.std.proofs.Common.{◌≡◌, ℕ, ◌<◌, List, [], ◌∷◌, length, Some, sym, ap, ◌∙◌, subst, subst₂, arith}
use Rattle.std.specs.Prelude.{slice_get}
use Rattle.lemmas.proofs.Alls.{all_at}
use Rattle.lemmas.proofs.SliceGet.{map_get_back}
use Rattle.semantics.specs.declared.graph.Region.{Region}
use Rattle.semantics.specs.declared.graph.Source.{Source}
use Rattle.semantics.specs.declared.graph.Kind.{Kind}
use Rattle.semantics.specs.declared.graph.Kind.TheVariants.{Lit, Apply1, Apply2, Cond, Enter, Merge, Fetch, Store, Call, StrictCall, Loop}
use Rattle.semantics.specs.Graph.{Node, Block, Graph, flow_of, node_at, array_names, block_names, resolved_kind}
use Rattle.semantics.specs.WellFormed.{WellFormed, IsBlockWell, IsEarlier, NamesWell, LiesWell}
use Rattle.law_confluence.proofs.OutcomeResolved.{block_in, node_back}
use Rattle.law_net.specs.ContextsOperands.{HasOperands, HaveOperands, SourcesAreEarlier}
use Rattle.law_net_refines_meaning.specs.Firings.{GraphsHaveOperands, GraphsAreEarlier}

module _ (g : Graph) where
  kind_has : (b : Block (List ℕ)) (n : ℕ) (r : Region) (k : Kind (List ℕ)) (ss : List Source) → NamesWell g k (length ss) → LiesWell b n r k ss
      → HasOperands r (resolved_kind (array_names g) (block_names g) k) (length ss)
  kind_has b n r (Lit z) ss h l = h
  kind_has b n r (Apply1 op) ss h l = h
  kind_has b n r (Apply2 op) ss h l = h
  kind_has b n r Cond ss h l = h
  kind_has b n r Enter ss h l = (h, l.0)
  kind_has b n r (Merge k) [] h l = absurd l
  kind_has b n r (Merge k) (s ∷ []) h l = absurd l
  kind_has b n r (Merge k) (s ∷ t ∷ []) h l = h
  kind_has b n r (Merge k) (s ∷ t ∷ u ∷ ss) h l = absurd l
  kind_has b n r (Fetch a) ss h l = h.1
  kind_has b n r (Store a) ss h l = h.1
  kind_has b n r (Call f) ss h l = tt
  kind_has b n r (StrictCall f) ss h l = tt
  kind_has b n r (Loop f k) ss h l = let two = h.1 in omega (arith, two)

  pub have_operands : WellFormed g → HaveOperands (flow_of g)
  have_operands h i n b line e f =
      let named = map_get_back (λ (b : List ℕ × Block (List ℕ)). block_in g b.1) g.blocks i b e in
      let well = all_at (λ (named : List ℕ × Block (List ℕ)). IsBlockWell g named.1) g.blocks i named.0 h.blocks named.1 in
      let back = node_back g named.0.1 n line (subst (λ b. node_at b n ≡ Some line) (sym named.2) f) in
      let node = well.nodes n back.0 back.1 in
      subst₂ (λ (b : Block ℕ) (line : Node ℕ). HasOperands line.region line.kind (length line.sources)) named.2 back.2
      (kind_has named.0.1 n back.0.region back.0.kind back.0.sources node.names node.lies)

  pub are_earlier : WellFormed g → SourcesAreEarlier (flow_of g)
  are_earlier h i n l b line s e f at =
      let named = map_get_back (λ (b : List ℕ × Block (List ℕ)). block_in g b.1) g.blocks i b e in
      let well = all_at (λ (named : List ℕ × Block (List ℕ)). IsBlockWell g named.1) g.blocks i named.0 h.blocks named.1 in
      let back = node_back g named.0.1 n line (subst (λ b. node_at b n ≡ Some line) (sym named.2) f) in
      let node = well.nodes n back.0 back.1 in
      (all_at (IsEarlier g named.0.1 n) back.0.sources l s node.earlier (ap (λ (line : Node ℕ). slice_get line.sources l) back.2 ∙ at)).0

pub graphs_have_operands : GraphsHaveOperands
graphs_have_operands g h = have_operands g h

pub graphs_are_earlier : GraphsAreEarlier
graphs_are_earlier g h = are_earlier g h
