-- Two premises that are needed: without 'no waiting fetch', and without 'no clash', the law is false.
use Rattle.std.proofs.Common.{◌≡◌, ℕ, zero, suc, ◌<◌, ℤ, List, [], ◌∷◌, ◌++◌, Some, None, refl, ap, subst, arith, slice_get, All}
use Rattle.std.specs.Prelude.{pos}
use Rattle.std.proofs.lemmas.List.Sorted.{IsPermutation-refl, length_permutation}
use Rattle.std.proofs.lemmas.List.Elements.{All-nil, All-cons}
use Rattle.tags.specs.declared.value.Value.{Value}
use Rattle.tags.specs.declared.value.Value.TheVariants.{Int}
use Rattle.semantics.specs.declared.graph.Region.TheVariants.{Root}
use Rattle.semantics.specs.declared.graph.Source.{Source}
use Rattle.semantics.specs.declared.graph.Kind.TheVariants.{Fetch, Store}
use Rattle.semantics.specs.Graph.{Node, Block, Graph, Flow, flow_of, node_at}
use Rattle.semantics.specs.WellFormed.{WellFormed, IsBlockWell, IsNodeWell, IsEarlier, region_of}
use Rattle.semantics.specs.Meaning.{Main, AtNode, AtOut, Operand, Tagged, tagged, State, Memory, Activity, Fires, Outputs, taken, Deed, Reads, Fills, deed}
use Rattle.semantics.specs.Meaning.{effect, with_cell, with_output, start, Run, AtRest}
use Rattle.law_confluence.specs.Outcome.{AreInputsOf, NoClash}
use Rattle.lemmas.proofs.Permutations.{Within, Each, each_within, put_first, put_later}
use Rattle.law_confluence.proofs.ActivityKeys.{Unique, Held, same_activity}
use Rattle.law_confluence.proofs.ActivityDiamond.{deed_of}
use Rattle.law_confluence.proofs.HistoryLaws.{IsFlowWell}
use Rattle.law_confluence.proofs.OutcomeRest.{rest_by_tokens}
use Rattle.law_confluence.proofs.OutcomeResolved.{flow_well}
use Rattle.law_confluence.specs.EquationsSettled.{Settled, NoneWaits}
use Rattle.law_confluence.proofs.EquationsGraphForms.{line_below}

abbrev from : ℕ → Source
from n = record { node = n; port = 0 }

-- a state whose tokens are those of one activity, which is not allowed, is at rest
stuck_rests : (fl : Flow) → IsFlowWell fl → (s : State) → Unique s.tokens → (b : Activity) (d : Deed) → deed fl b ≡ Some d → Held s.tokens (taken b)
    → Each (λ x. Within x (taken b)) s.tokens → effect fl s.memory b ≡ None → AtRest fl s
stuck_rests fl w s all b d e held its none =
    rest_by_tokens fl w s (λ t h a E k there f.
    let does = deed_of fl s.memory a E f in
    let same = same_activity fl s.tokens all a b does.0 d does.1 e there held t k (each_within (λ x. Within x (taken b)) t s.tokens h its) in
    let g = ap (effect fl s.memory) same in cc)

one_name : (name : List ℕ) (i j : ℕ) (x : List ℕ) → slice_get (name ∷ []) i ≡ Some x → slice_get (name ∷ []) j ≡ Some x → i ≡ j
one_name name zero zero x e f = refl
one_name name zero (suc j) x e f = cc
one_name name (suc i) j x e f = cc

-- a graph of one block, which is main, over an array of one cell
abbrev only : Block (List ℕ) → Graph
only b = record { version = 2; arrays = (65 ∷ [], 1) ∷ []; blocks = (109 ∷ [], b) ∷ []; main = 109 ∷ [] }

only_well : (b : Block (List ℕ)) → IsBlockWell (only b) b → WellFormed (only b)
only_well b h = record {
  arrays_differ = one_name (65 ∷ []);
  blocks_differ = one_name (109 ∷ []);
  main = (0, omega arith, refl);
  blocks =
      All-cons (λ (named : List ℕ × Block (List ℕ)). IsBlockWell (only b) named.1) (109 ∷ [], b) [] h
      (All-nil (λ (named : List ℕ × Block (List ℕ)). IsBlockWell (only b) named.1));
}

-- A FETCH THAT WAITS
abbrev reads : Block (List ℕ)
reads = record { inputs = 1; outputs = 1; nodes = record { region = Root; kind = Fetch (65 ∷ []); sources = from 0 ∷ [] } ∷ []; results = from 1 ∷ [] }

abbrev waiting : Graph
waiting = only reads

reads_well : IsBlockWell waiting reads
reads_well = record {
  some_input = omega arith;
  some_output = omega arith;
  nodes = node;
  result_count = refl;
  results = All-cons (IsEarlier waiting reads 2) (from 1) [] (omega arith, refl) (All-nil (IsEarlier waiting reads 2));
  in_root = All-cons (λ s. region_of reads s.node ≡ Root) (from 1) [] refl (All-nil (λ s. region_of reads s.node ≡ Root));
}
  where
    node : (n : ℕ) (line : Node (List ℕ)) → node_at reads n ≡ Some line → IsNodeWell waiting reads n line
    node zero line e = cc
    node (suc zero) line e =
        subst (λ line. IsNodeWell waiting reads 1 line)
        (let same : record { region = Root; kind = Fetch (65 ∷ []); sources = from 0 ∷ [] } ≡ line = cc in same) record {
          region = tt;
          names = ((0, omega arith, refl), refl);
          earlier = All-cons (IsEarlier waiting reads 1) (from 0) [] (omega arith, refl) (All-nil (IsEarlier waiting reads 1));
          lies = All-cons (λ s. region_of reads s.node ≡ Root) (from 0) [] refl (All-nil (λ s. region_of reads s.node ≡ Root));
        }
    node (suc (suc n)) line e = let low = line_below reads (suc (suc n)) line e in absurd (omega (arith, low))

abbrev index : Tagged
index = tagged Main (AtNode 1) (Operand 0) (Int (pos 0))

abbrev waits : State
waits = record { tokens = index ∷ []; memory = (start (pos 0 ∷ [])).memory }

waits_run : Run (flow_of waiting) (start (pos 0 ∷ [])) (Fires Main 0 (Int (pos 0) ∷ []) ∷ []) waits
waits_run = (
  waits,
  record {
    does = record { added = index ∷ []; memory = (start (pos 0 ∷ [])).memory };
    rest = [];
    allowed = refl;
    takes = IsPermutation-refl _;
    leaves = IsPermutation-refl _;
    memory = refl;
  },
  (IsPermutation-refl _, refl),
)

waits_rests : AtRest (flow_of waiting) waits
waits_rests =
    stuck_rests (flow_of waiting) (flow_well waiting (only_well reads reads_well)) waits (tt, tt) (Fires Main 1 (Int (pos 0) ∷ [])) (Reads Main 1 0) refl
    (([], put_first index []), tt) (([], put_first index []), tt) refl

waits_quiet : NoClash (flow_of waiting) waits
waits_quiet x c =
    let long = length_permutation waits.tokens (taken (Fires c.context c.node (c.index ∷ c.value ∷ [])) ++ c.rest) c.tokens in
    omega (arith, long)

-- without 'no waiting fetch'
abbrev WithoutWaiting : Type 0
WithoutWaiting = (g : Graph) (inputs : List ℤ) → WellFormed g → AreInputsOf g inputs
    → (run : List Activity) (s : State) (r : Run (flow_of g) (start inputs) run s)
    → AtRest (flow_of g) s → NoClash (flow_of g) s → Settled (flow_of g) inputs run s r

pub waiting_is_needed : WithoutWaiting → ⊥
waiting_is_needed law =
    let left = (law waiting (pos 0 ∷ []) (only_well reads reads_well) refl
    (Fires Main 0 (Int (pos 0) ∷ []) ∷ []) waits waits_run waits_rests waits_quiet).no_tokens in
    cc

-- A SECOND STORE TO ONE CELL
abbrev stores : Node (List ℕ)
stores = record { region = Root; kind = Store (65 ∷ []); sources = from 0 ∷ from 0 ∷ [] }

abbrev twice : Block (List ℕ)
twice = record { inputs = 1; outputs = 1; nodes = stores ∷ stores ∷ []; results = from 1 ∷ [] }

abbrev clashing : Graph
clashing = only twice

twice_well : IsBlockWell clashing twice
twice_well = record {
  some_input = omega arith;
  some_output = omega arith;
  nodes = node;
  result_count = refl;
  results = All-cons (IsEarlier clashing twice 3) (from 1) [] (omega arith, refl) (All-nil (IsEarlier clashing twice 3));
  in_root = All-cons (λ s. region_of twice s.node ≡ Root) (from 1) [] refl (All-nil (λ s. region_of twice s.node ≡ Root));
}
  where
    both : (P : Source → Type 0) → P (from 0) → All P (from 0 ∷ from 0 ∷ [])
    both P h = All-cons P (from 0) (from 0 ∷ []) h (All-cons P (from 0) [] h (All-nil P))

    its : (n : ℕ) → 0 < n → IsNodeWell clashing twice n stores
    its n low = record {
      region = tt;
      names = ((0, omega arith, refl), refl);
      earlier = both (IsEarlier clashing twice n) (low, refl);
      lies = both (λ s. region_of twice s.node ≡ Root) refl;
    }

    node : (n : ℕ) (line : Node (List ℕ)) → node_at twice n ≡ Some line → IsNodeWell clashing twice n line
    node zero line e = cc
    node (suc zero) line e = subst (λ line. IsNodeWell clashing twice 1 line) (let same : stores ≡ line = cc in same) (its 1 (omega arith))
    node (suc (suc zero)) line e = subst (λ line. IsNodeWell clashing twice 2 line) (let same : stores ≡ line = cc in same) (its 2 (omega arith))
    node (suc (suc (suc n))) line e = let low = line_below twice (suc (suc (suc n))) line e in absurd (omega (arith, low))

abbrev operand : ℕ → ℕ → Tagged
operand n i = tagged Main (AtNode n) (Operand i) (Int (pos 0))

abbrev zero_is : Value
zero_is = Int (pos 0)

abbrev first : State
first = start (pos 0 ∷ [])

abbrev filled : Memory
filled = with_cell first.memory 0 zero_is

abbrev both_wait : State
both_wait = record { tokens = operand 1 0 ∷ operand 1 1 ∷ operand 2 0 ∷ operand 2 1 ∷ []; memory = first.memory }

abbrev one_stored : State
one_stored = record { tokens = tagged Main (AtOut 0) (Operand 0) zero_is ∷ operand 2 0 ∷ operand 2 1 ∷ []; memory = filled }

abbrev clashes : State
clashes = record { tokens = operand 2 0 ∷ operand 2 1 ∷ []; memory = with_output filled 0 zero_is }

clash_run : Run (flow_of clashing) first (Fires Main 0 (zero_is ∷ []) ∷ Fires Main 1 (zero_is ∷ zero_is ∷ []) ∷ Outputs 0 zero_is ∷ []) clashes
clash_run = (
  both_wait,
  record {
    does = record { added = both_wait.tokens; memory = first.memory };
    rest = [];
    allowed = refl;
    takes = IsPermutation-refl _;
    leaves = IsPermutation-refl _;
    memory = refl;
  },
  (
    one_stored,
    record {
      does = record { added = tagged Main (AtOut 0) (Operand 0) zero_is ∷ []; memory = filled };
      rest = operand 2 0 ∷ operand 2 1 ∷ [];
      allowed = refl;
      takes = IsPermutation-refl _;
      leaves = IsPermutation-refl _;
      memory = refl;
    },
    (
      clashes,
      record {
        does = record { added = []; memory = with_output filled 0 zero_is };
        rest = operand 2 0 ∷ operand 2 1 ∷ [];
        allowed = refl;
        takes = IsPermutation-refl _;
        leaves = IsPermutation-refl _;
        memory = refl;
      },
      (IsPermutation-refl _, refl),
    ),
  ),
)

clash_rests : AtRest (flow_of clashing) clashes
clash_rests =
    stuck_rests (flow_of clashing) (flow_well clashing (only_well twice twice_well)) clashes (((λ same. let p = same.2 in cc), tt), (tt, tt))
    (Fires Main 2 (zero_is ∷ zero_is ∷ [])) (Fills Main 2 0 zero_is) refl
    held held refl
  where
    held : Held clashes.tokens clashes.tokens
    held = (
      (operand 2 1 ∷ [], put_first (operand 2 0) (operand 2 1 ∷ [])),
      ((operand 2 0 ∷ [], put_later (operand 2 1) (operand 2 0) [] (operand 2 1 ∷ []) (put_first (operand 2 1) [])), tt),
    )

no_fetch : NoneWaits (flow_of clashing) clashes
no_fetch x = refl

-- without 'no clash'
abbrev WithoutClash : Type 0
WithoutClash = (g : Graph) (inputs : List ℤ) → WellFormed g → AreInputsOf g inputs
    → (run : List Activity) (s : State) (r : Run (flow_of g) (start inputs) run s)
    → AtRest (flow_of g) s → NoneWaits (flow_of g) s → Settled (flow_of g) inputs run s r

pub no_clash_is_needed : WithoutClash → ⊥
no_clash_is_needed law =
    let left = (law clashing (pos 0 ∷ []) (only_well twice twice_well) refl
    (Fires Main 0 (zero_is ∷ []) ∷ Fires Main 1 (zero_is ∷ zero_is ∷ []) ∷ Outputs 0 zero_is ∷ []) clashes clash_run clash_rests no_fetch).no_tokens in
    cc
