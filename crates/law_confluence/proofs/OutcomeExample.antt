-- One whole run: a graph of one block that gives its input back. It is well formed, and comes to rest with the input as
-- its output.
use Rattle.std.proofs.Common.{◌≡◌, ℕ, zero, suc, ℤ, Bool, true, false, List, [], ◌∷◌, Some, None, refl, arith, slice_get, nat_lt, if◌then◌else◌}
use Rattle.std.proofs.lemmas.List.Sorted.{IsPermutation-refl}
use Rattle.std.proofs.lemmas.List.Elements.{All-nil, All-cons}
use Rattle.tags.specs.declared.value.Value.TheVariants.{Int}
use Rattle.semantics.specs.declared.graph.Region.TheVariants.{Root}
use Rattle.semantics.specs.declared.graph.Source.{Source}
use Rattle.semantics.specs.Graph.{Node, Block, Graph, flow_of}
use Rattle.semantics.specs.WellFormed.{WellFormed, IsBlockWell, IsNodeWell, IsEarlier, region_of}
use Rattle.semantics.specs.Meaning.{Main, AtOut, Operand, tagged, State, Fires, Outputs, with_output, start, Step, Reached, AtRest}
use Rattle.law_confluence.proofs.OutcomeRest.{rest_without_tokens}
use Rattle.law_confluence.proofs.OutcomeResolved.{flow_well}

abbrev from : ℕ → ℕ → Source
from n p = record { node = n; port = p }

abbrev echo_block : Block (List ℕ)
echo_block = record { inputs = 1; outputs = 1; nodes = []; results = record { node = 0; port = 0 } ∷ [] }

abbrev echo : Graph
echo = record { version = 1; arrays = []; blocks = (109 ∷ [], echo_block) ∷ []; main = 109 ∷ [] }

abbrev after_input : ℤ → State
after_input z = record { tokens = tagged Main (AtOut 0) (Operand 0) (Int z) ∷ []; memory = (start (z ∷ [])).memory }

abbrev at_end : ℤ → State
at_end z = record { tokens = []; memory = with_output (start (z ∷ [])).memory 0 (Int z) }

first_step : (z : ℤ) → Step (flow_of echo) (Fires Main 0 (Int z ∷ [])) (start (z ∷ [])) (after_input z)
first_step z = record {
  does = record { added = tagged Main (AtOut 0) (Operand 0) (Int z) ∷ []; memory = (start (z ∷ [])).memory };
  rest = [];
  allowed = refl;
  takes = IsPermutation-refl _;
  leaves = IsPermutation-refl _;
  memory = refl;
}

last_step : (z : ℤ) → Step (flow_of echo) (Outputs 0 (Int z)) (after_input z) (at_end z)
last_step z = record {
  does = record { added = []; memory = with_output (start (z ∷ [])).memory 0 (Int z) };
  rest = [];
  allowed = refl;
  takes = IsPermutation-refl _;
  leaves = IsPermutation-refl _;
  memory = refl;
}

echo_reached : (z : ℤ) → Reached (flow_of echo) (z ∷ []) (at_end z)
echo_reached z =
    record {
      run = Fires Main 0 (Int z ∷ []) ∷ Outputs 0 (Int z) ∷ [];
      is_run = (after_input z, first_step z, (at_end z, last_step z, (IsPermutation-refl [], refl)));
    }

echo_well : WellFormed echo
echo_well = record {
  arrays_differ = λ i j name e f. cc;
  blocks_differ = one_name;
  main = (0, omega arith, refl);
  blocks = All-cons (λ (named : List ℕ × Block (List ℕ)). IsBlockWell echo named.1) (109 ∷ [], echo_block) [] record {
    some_input = omega arith;
    some_output = omega arith;
    nodes = λ n node e. no_node n node (nat_lt n 1) e;
    result_count = refl;
    results = All-cons (IsEarlier echo echo_block 1) (from 0 0) [] (omega arith, refl) (All-nil (IsEarlier echo echo_block 1));
    in_root = All-cons (λ s. region_of echo_block s.node ≡ Root) (from 0 0) [] refl (All-nil (λ s. region_of echo_block s.node ≡ Root));
  }
      (All-nil (λ (named : List ℕ × Block (List ℕ)). IsBlockWell echo named.1));
}
  where
    no_node : (n : ℕ) (node : Node (List ℕ)) (t : Bool) → (if t then None else None) ≡ Some node → IsNodeWell echo echo_block n node
    no_node n node true e = cc
    no_node n node false e = cc

    one_name : (i j : ℕ) (name : List ℕ) → slice_get ((109 ∷ []) ∷ []) i ≡ Some name → slice_get ((109 ∷ []) ∷ []) j ≡ Some name → i ≡ j
    one_name zero zero name e f = refl
    one_name zero (suc j) name e f = cc
    one_name (suc i) j name e f = cc

echo_rests : (z : ℤ) → AtRest (flow_of echo) (at_end z)
echo_rests z = rest_without_tokens (flow_of echo) (flow_well echo echo_well) (at_end z) refl
