-- One text that satisfies all premises of the theorem: a program that gives its input back. So the premises can be satisfied.
use Rattle.std.proofs.Common.{◌≡◌, ℕ, zero, suc, ℤ, Bool, true, false, List, [], ◌∷◌, length, Some, None, Ok, Err, nat_lt, if◌then◌else◌, refl, sym, subst}
use Rattle.std.proofs.Common.{arith, length-append}
use Rattle.std.specs.Prelude.{codes, slice_get, sum}
use Rattle.std.proofs.lemmas.List.Sorted.{length_permutation}
use Rattle.std.proofs.lemmas.Option.{same_Some}
use Rattle.lemmas.proofs.Alls.{all_from}
use Rattle.tags.specs.declared.value.Value.TheVariants.{Int}
use Rattle.semantics.specs.declared.graph.Region.TheVariants.{Root}
use Rattle.semantics.specs.declared.graph.Source.{Source}
use Rattle.semantics.specs.Graph.{Node, Block, Graph, flow_of, node_at}
use Rattle.semantics.specs.WellFormed.{AllDiffer, region_of, IsEarlier, IsBlockWell, WellFormed}
use Rattle.semantics.specs.Meaning.{Clashes, Fires, taken, fetch_count}
use Rattle.semantics.proofs.Sums.{sum_of_zeros}
use Rattle.law_confluence.proofs.OutcomeRest.{rest_without_tokens}
use Rattle.law_confluence.proofs.OutcomeResolved.{flow_well}
use Rattle.law_confluence.proofs.EquationsExampleEcho.{run, at_end, echo_run}
use Rattle.source.specs.declared.token.Token.{Token}
use Rattle.source.specs.Tokens.{lexed}
use Rattle.source.specs.Tree.{Named, One, Give, Cells, Defines, Program}
use Rattle.source.specs.Spelled.{program_tokens}
use Rattle.source.specs.Lowered.{port, origin_of}
use Rattle.source.specs.Theorem.{Computes, RestsWell}
use Rattle.source.proofs.Spelling.{spelled}
use Rattle.law_language.specs.MeansTheorem.{IsLoweredText}
use Rattle.law_language.proofs.MeansTheorem.{texts_keep_meaning}

abbrev pub text : List ℕ
text = codes "array W[4]; fn main(n) { n }"

abbrev pub program : Program
program = Cells (record { at = 6; name = codes "W" }) (record { at = 8; number = 4 }) ∷ Defines (record {
  name = record { at = 15; name = codes "main" };
  params = record { at = 20; name = codes "n" } ∷ [];
  results = None;
  body_at = 23;
  body = Give (One (Named 25 (codes "n")));
}) ∷ []

abbrev tokens : List Token
tokens = elim (lexed text) as (λ _. List Token) [ Ok ts ↦ ts | Err fault ↦ [] ]

abbrev block : Block (List ℕ)
block = record { inputs = 1; outputs = 1; nodes = []; results = port 0 0 ∷ [] }

abbrev graph : Graph
graph = record { version = 2; arrays = (codes "W", 4) ∷ []; blocks = (codes "main", block) ∷ []; main = codes "main" }

is_lowered : IsLoweredText text program graph (origin_of program)
is_lowered = record {
  tokens = tokens;
  read = refl;
  spelled = spelled text (program_tokens program) tokens refl refl;
  lowered = record {
    good = record { fits = (omega arith, ((omega arith, tt, tt), tt)); end = length text; checked = refl };
    graph = refl;
    origins = λ at. refl;
  };
}

-- THE GRAPH is well formed.
one_name : (x : List ℕ) → AllDiffer (x ∷ [])
one_name x zero zero name e f = refl
one_name x zero (suc j) name e f = cc
one_name x (suc i) j name e f = cc

no_line : (n : ℕ) (line : Node (List ℕ)) → node_at block n ≡ Some line → ⊥
no_line n line e = go (nat_lt n 1) e
  where
    go : (t : Bool) → (if t then None else None) ≡ Some line → ⊥
    go true e = cc
    go false e = cc

block_well : IsBlockWell graph block
block_well = record {
  some_input = omega arith;
  some_output = omega arith;
  nodes = λ n line e. absurd (no_line n line e);
  result_count = refl;
  results = all_from _ (port 0 0 ∷ []) (λ i s e. result i s e);
  in_root = all_from _ (port 0 0 ∷ []) (λ i s e. root i s e);
}
  where
    result : (i : ℕ) (s : Source) → slice_get (port 0 0 ∷ []) i ≡ Some s → IsEarlier graph block 1 s
    result zero s e = subst (λ s. IsEarlier graph block 1 s) (same_Some (port 0 0) s e) (omega arith, refl)
    result (suc i) s e = cc

    root : (i : ℕ) (s : Source) → slice_get (port 0 0 ∷ []) i ≡ Some s → region_of block s.node ≡ Root
    root zero s e = subst (λ (s : Source). region_of block s.node ≡ Root) (same_Some (port 0 0) s e) refl
    root (suc i) s e = cc

is_well : WellFormed graph
is_well = record {
  arrays_differ = one_name (codes "W");
  blocks_differ = one_name (codes "main");
  main = (0, omega arith, refl);
  blocks = all_from _ graph.blocks (λ i named e. each i named e);
}
  where
    each : (i : ℕ) (named : List ℕ × Block (List ℕ)) → slice_get graph.blocks i ≡ Some named → IsBlockWell graph named.1
    each zero named e = subst (λ (named : List ℕ × Block (List ℕ)). IsBlockWell graph named.1) (same_Some (codes "main", block) named e) block_well
    each (suc i) named e = cc

-- THE RUN rests, so the theorem says what its results are.
module _ (z : ℤ) where
  rests : RestsWell (flow_of graph) (z ∷ []) (at_end z)
  rests = record {
    reached = record { run = run z; is_run = echo_run z };
    at_rest = rest_without_tokens (flow_of graph) (flow_well graph is_well) (at_end z) refl;
    no_clash = λ x h. clash x h;
    none_waits = sum_of_zeros (sum (flow_of graph).arrays) (λ x. fetch_count (flow_of graph) x []) (λ x. refl);
  }
    where
      clash : (x : ℕ) → Clashes (flow_of graph) (at_end z) x → ⊥
      clash x h =
          let long = length_permutation [] _ h.tokens in
          let whole = length-append (taken (Fires h.context h.node (h.index ∷ h.value ∷ []))) h.rest in
          omega (arith, long, whole)

  pub computes : Computes program (origin_of program) (z ∷ []) (at_end z).memory
  computes = texts_keep_meaning text program graph (origin_of program) is_lowered is_well (z ∷ []) refl (at_end z) rests

  -- its first output is the input
  pub echo : slice_get computes.outputs 0 ≡ Some (Int z)
  echo = sym (computes.shown 0)
