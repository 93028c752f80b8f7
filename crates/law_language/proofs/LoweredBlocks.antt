-- BLOCKS: where the lines are in good form, and the results lie in the root, the block is in good form. Its inputs lie in the
-- root.
use Rattle.std.proofs.Common.{◌≡◌, ℕ, zero, suc, ◌+◌, ◌-◌, ◌<◌, ◌≤◌, Bool, true, false, List, [], ◌∷◌, length, map, Some, None, nat_lt, if◌then◌else◌, refl}
use Rattle.std.proofs.Common.{sym, ap, ◌∙◌, subst, arith, lt-ltb, ltb-false}
use Rattle.std.specs.Prelude.{slice_get}
use Rattle.std.proofs.lemmas.List.{length-map}
use Rattle.std.proofs.lemmas.Option.{same_Some}
use Rattle.lemmas.proofs.Permutations.{Each}
use Rattle.semantics.specs.declared.graph.Region.TheVariants.{Root}
use Rattle.semantics.specs.Graph.{Node, Block, Graph, node_at, node_count}
use Rattle.semantics.specs.WellFormed.{HasPortIn, region_in, IsNodeWell}
use Rattle.source.specs.Tree.{Name}
use Rattle.source.specs.Lowered.{Made, MadeBlock, node_of, port, inputs_from, graph_block}
use Rattle.law_language.specs.LoweredWell.{LiteralFits, IsGoodSource, AreGood, AreWell, IsBlockGood}
use Rattle.law_language.proofs.LoweredSources.{all_earlier, all_lie}

module _ (g : Graph) (b : Block Name) where
  -- INPUTS
  pub input_good : (i m : ℕ) → i < b.inputs → i < m → IsGoodSource g b Root m (port i 0)
  input_good i m low h =
      let none : node_at b i ≡ None = ap (λ (t : Bool). if t then None else slice_get b.nodes (i - b.inputs)) (lt-ltb i b.inputs low) in
      record { earlier = (h, subst (λ o. HasPortIn g o 0) (sym none) refl); lies = ap region_in none }

  pub inputs_good : (n count m : ℕ) → n + count ≤ b.inputs → n + count ≤ m → AreGood g b Root m (inputs_from n count)
  inputs_good n zero m low h = tt
  inputs_good n (suc count) m low h =
      (input_good n m (omega (arith, low)) (omega (arith, h)), inputs_good (n + 1) count m (omega (arith, low)) (omega (arith, h)))

  -- LINES
  well_at : (m : ℕ) (ms : List Made) (i : ℕ) (line : Node Name) → AreWell g b m ms → slice_get (map node_of ms) i ≡ Some line → IsNodeWell g b (m + i) line
  well_at m [] i line w e = cc
  well_at m (n ∷ ms) zero line w e =
      let same : n.node ≡ line = same_Some n.node line e in
      let here : m ≡ m + 0 = omega arith in
      subst (λ k. IsNodeWell g b k line) here (subst (IsNodeWell g b m) same w.0.well)
  well_at m (n ∷ ms) (suc i) line w e =
      let there : m + 1 + i ≡ m + suc i = omega arith in subst (λ k. IsNodeWell g b k line) there (well_at (m + 1) ms i line w.1 e)

  pub literals_of : (m : ℕ) (ms : List Made) → AreWell g b m ms → Each (λ (line : Node Name). LiteralFits line.kind) (map node_of ms)
  literals_of m [] w = tt
  literals_of m (n ∷ ms) w = (w.0.literal, literals_of (m + 1) ms w.1)

  pub node_well : (ms : List Made) → b.nodes ≡ map node_of ms → AreWell g b b.inputs ms → (n : ℕ) (line : Node Name) → node_at b n ≡ Some line
      → IsNodeWell g b n line
  node_well ms e w n line at = go (nat_lt n b.inputs) refl at
    where
      go : (t : Bool) → nat_lt n b.inputs ≡ t → (if t then None else slice_get b.nodes (n - b.inputs)) ≡ Some line → IsNodeWell g b n line
      go true p at = cc
      go false p at =
          let past = ltb-false n b.inputs p in
          let same : b.inputs + (n - b.inputs) ≡ n = omega (arith, past) in
          subst (λ k. IsNodeWell g b k line) same
          (well_at b.inputs ms (n - b.inputs) line w (ap (λ (ls : List (Node Name)). slice_get ls (n - b.inputs)) (sym e) ∙ at))

-- A BLOCK that is made, with good lines and good results
module _ (g : Graph) (f : Name) (mb : MadeBlock) where
  abbrev its_block : Block Name
  its_block = (graph_block f mb).1

  pub block_good : 0 < mb.inputs → 0 < length mb.results → mb.inputs ≤ 16 → length mb.results ≤ 16 → AreWell g its_block mb.inputs mb.nodes
      → AreGood g its_block Root (mb.inputs + length mb.nodes) mb.results → IsBlockGood g its_block
  block_good some gives few narrow w good =
      let long : length (map node_of mb.nodes) ≡ length mb.nodes = length-map mb.nodes node_of in
      let all : AreGood g its_block Root (node_count its_block) mb.results =
      subst (λ k. AreGood g its_block Root (mb.inputs + k) mb.results) (sym long) good in
      record {
        well = record {
          some_input = some;
          some_output = gives;
          nodes = node_well g its_block mb.nodes refl w;
          result_count = refl;
          results = all_earlier g its_block Root (node_count its_block) mb.results all;
          in_root = all_lie g its_block Root (node_count its_block) mb.results all;
        };
        literals = literals_of g its_block mb.inputs mb.nodes w;
        inputs = few;
        outputs = narrow;
      }
