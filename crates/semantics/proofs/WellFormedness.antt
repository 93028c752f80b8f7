-- Worked examples of well-formedness: lines that are in order, and one of each kind that is not.
use Rattle.std.proofs.Common.{◌≡◌, refl, ℕ, zero, suc, ◌+◌, subst, true, false, List, [], ◌∷◌, Some, None, arith}
use Rattle.std.proofs.lemmas.List.Elements.{All-nil, All-cons, All-head}
use Rattle.std.specs.Prelude.{All, Bool, ◌-◌, nat_lt, slice_get, if◌then◌else◌}
use Rattle.std.proofs.lemmas.Option.{same_Some}
use Rattle.operators.specs.declared.Unary.TheVariants as U
use Rattle.operators.specs.declared.Binary.TheVariants as B
use Rattle.semantics.specs.declared.graph.Region.{Region}
use Rattle.semantics.specs.declared.graph.Region.TheVariants.{Root, Arm}
use Rattle.semantics.specs.declared.graph.Source.{Source}
use Rattle.semantics.specs.declared.graph.Kind.{Kind}
use Rattle.semantics.specs.declared.graph.Kind.TheVariants.{Apply1, Apply2, Cond, Enter, Merge, Loop}
use Rattle.semantics.specs.Graph.{Node, Block, Graph}
use Rattle.semantics.specs.WellFormed.{AllDiffer, region_of, IsRegion, IsEarlier, AllLieIn, LiesWell, NamesWell, IsNodeWell, IsBlockWell, WellFormed}
use Rattle.semantics.proofs.Interpreter.{src, one, two}

abbrev line : Region → Kind (List ℕ) → List Source → Node (List ℕ)
line r k ss = record { region = r; kind = k; sources = ss }

abbrev name : List ℕ
name = 109 ∷ []

-- the two inputs' quotient, a conditional on it, an `enter` in each arm, a negation in one, and the merge
abbrev chooses : Block (List ℕ)
chooses = record {
  inputs = 2;
  outputs = 1;
  nodes = line Root (Apply2 B.Div) (two 0 1) ∷ line Root Cond (one 2) ∷ line (Arm 3 true) Enter (one 0) ∷ line (Arm 3 false) Enter (one 1)
      ∷ line (Arm 3 false) (Apply1 U.Neg) (one 5)
      ∷ line Root (Merge 3) (two 4 6) ∷ [];
  results = one 7;
}

abbrev graph : Graph
graph = record { version = 1; arrays = []; blocks = (name, chooses) ∷ []; main = name }

-- one source that is earlier, and two of them
one_earlier : (n m : ℕ) → IsEarlier graph chooses n (src m 0) → All (IsEarlier graph chooses n) (one m)
one_earlier n m h = All-cons (IsEarlier graph chooses n) (src m 0) [] h (All-nil (IsEarlier graph chooses n))

abbrev LiesIn : Source → Type 0
LiesIn s = region_of chooses s.node ≡ Root

-- an `enter` in an arm takes its source from the region of its conditional
enter_is_well : IsNodeWell graph chooses 5 (line (Arm 3 false) Enter (one 1))
enter_is_well = record {
  region = (omega arith, refl);
  names = refl;
  earlier = one_earlier 5 1 (omega arith, refl);
  lies = (λ e. cc, All-cons LiesIn (src 1 0) [] refl (All-nil LiesIn));
}

-- a merge takes its sources from the two arms, the true one first
merge_is_well : IsNodeWell graph chooses 7 (line Root (Merge 3) (two 4 6))
merge_is_well = record {
  region = tt;
  names = refl;
  earlier = All-cons (IsEarlier graph chooses 7) (src 4 0) (one 6) (omega arith, refl) (one_earlier 7 6 (omega arith, refl));
  lies = (omega arith, refl, refl, refl, refl);
}

-- THE WHOLE GRAPH is well formed
two_earlier : (n m k : ℕ) → IsEarlier graph chooses n (src m 0) → IsEarlier graph chooses n (src k 0) → All (IsEarlier graph chooses n) (two m k)
two_earlier n m k h j = All-cons (IsEarlier graph chooses n) (src m 0) (one k) h (one_earlier n k j)

-- one source in a region, and two of them
one_in : (r : Region) (m : ℕ) → region_of chooses m ≡ r → AllLieIn chooses r (one m)
one_in r m e = All-cons (λ (s : Source). region_of chooses s.node ≡ r) (src m 0) [] e (All-nil (λ (s : Source). region_of chooses s.node ≡ r))

two_in : (r : Region) (m k : ℕ) → region_of chooses m ≡ r → region_of chooses k ≡ r → AllLieIn chooses r (two m k)
two_in r m k e f = All-cons (λ (s : Source). region_of chooses s.node ≡ r) (src m 0) (one k) e (one_in r k f)

-- each line, by its number
each_line : (m : ℕ) (node : Node (List ℕ)) → slice_get chooses.nodes m ≡ Some node → IsNodeWell graph chooses (m + 2) node
each_line zero node e = subst (λ (x : Node (List ℕ)). IsNodeWell graph chooses 2 x) (same_Some _ node e)
    record { region = tt; names = refl; earlier = two_earlier 2 0 1 (omega arith, refl) (omega arith, refl); lies = two_in Root 0 1 refl refl }
each_line (suc zero) node e = subst (λ (x : Node (List ℕ)). IsNodeWell graph chooses 3 x) (same_Some _ node e)
    record { region = tt; names = refl; earlier = one_earlier 3 2 (omega arith, refl); lies = one_in Root 2 refl }
each_line (suc (suc zero)) node e = subst (λ (x : Node (List ℕ)). IsNodeWell graph chooses 4 x) (same_Some _ node e)
    record { region = (omega arith, refl); names = refl; earlier = one_earlier 4 0 (omega arith, refl); lies = (λ f. cc, one_in Root 0 refl) }
each_line (suc (suc (suc zero))) node e = subst (λ (x : Node (List ℕ)). IsNodeWell graph chooses 5 x) (same_Some _ node e) enter_is_well
each_line (suc (suc (suc (suc zero)))) node e = subst (λ (x : Node (List ℕ)). IsNodeWell graph chooses 6 x) (same_Some _ node e)
    record { region = (omega arith, refl); names = refl; earlier = one_earlier 6 5 (omega arith, refl); lies = one_in (Arm 3 false) 5 refl }
each_line (suc (suc (suc (suc (suc zero))))) node e = subst (λ (x : Node (List ℕ)). IsNodeWell graph chooses 7 x) (same_Some _ node e) merge_is_well
each_line (suc (suc (suc (suc (suc (suc m)))))) node e = cc

-- and so each node that is a line
line_at : (n : ℕ) (t : Bool) → nat_lt n 2 ≡ t → (node : Node (List ℕ)) → (if t then None else slice_get chooses.nodes (n - 2)) ≡ Some node
    → IsNodeWell graph chooses n node
line_at n true at node e = cc
line_at n false at node e =
    let same : (n - 2) + 2 ≡ n = grind (arith, at) in
    subst (λ (k : ℕ). IsNodeWell graph chooses k node) same (each_line (n - 2) node e)

-- the block, with its result
block_is_well : IsBlockWell graph chooses
block_is_well = record {
  some_input = omega arith;
  some_output = omega arith;
  nodes = λ n node e. line_at n (nat_lt n 2) refl node e;
  result_count = refl;
  results = one_earlier 8 7 (omega arith, refl);
  in_root = one_in Root 7 refl;
}

-- each name occurs once
one_name : AllDiffer (name ∷ [])
one_name zero zero x e f = refl
one_name zero (suc j) x e f = cc
one_name (suc i) j x e f = cc

-- the graph
graph_is_well : WellFormed graph
graph_is_well = record {
  arrays_differ = λ i j x e f. cc;
  blocks_differ = one_name;
  main = (0, omega arith, refl);
  blocks = All-cons (λ (named : List ℕ × Block (List ℕ)). IsBlockWell graph named.1) (name, chooses) [] block_is_well
      (All-nil (λ (named : List ℕ × Block (List ℕ)). IsBlockWell graph named.1));
}

-- NOT WELL: an arc goes from one arm to the other, or into an arm without an `enter`
across_arms : LiesWell chooses 6 (Arm 3 false) (Apply1 U.Neg) (one 4) → ⊥
across_arms h = let same : Arm 3 true ≡ Arm 3 false = All-head (λ (s : Source). region_of chooses s.node ≡ Arm 3 false) (src 4 0) [] h in cc

-- the root has to be left by an `enter`
into_arm : LiesWell chooses 6 (Arm 3 false) (Apply1 U.Neg) (one 0) → ⊥
into_arm h = let same : Root ≡ Arm 3 false = All-head (λ (s : Source). region_of chooses s.node ≡ Arm 3 false) (src 0 0) [] h in cc

-- a merge takes its arms the wrong way round, or lies in another region than its conditional
wrong_way_round : LiesWell chooses 7 Root (Merge 3) (two 6 4) → ⊥
wrong_way_round h = cc

-- the merge lies in an arm, and its conditional in the root
merge_in_arm : LiesWell chooses 7 (Arm 3 true) (Merge 3) (two 4 6) → ⊥
merge_in_arm h = cc

-- an `enter` lies in the root
enter_in_root : LiesWell chooses 4 Root Enter (one 0) → ⊥
enter_in_root h = h.0 refl

-- an arm is of a node that is no conditional, or of a later one
arm_of_no_conditional : IsRegion chooses 4 (Arm 2 true) → ⊥
arm_of_no_conditional h = cc

-- a node is not in an arm of itself
arm_of_later : IsRegion chooses 3 (Arm 3 true) → ⊥
arm_of_later h = omega (arith, h.0)

-- a source is not earlier, or is an output port that is not there: an operator has one, and a conditional none
own_result : IsEarlier graph chooses 6 (src 6 0) → ⊥
own_result h = omega (arith, h.0)

-- an `enter` has one output port
no_second_port : IsEarlier graph chooses 6 (src 5 1) → ⊥
no_second_port h = cc

-- a conditional has none
port_of_conditional : IsEarlier graph chooses 6 (src 3 0) → ⊥
port_of_conditional h = h.1

-- a loop's bound is 2 to 64, and a loop of n values names a block with n + 1 outputs
bound_1 : (f : List ℕ) (n : ℕ) → NamesWell graph (Loop f 1) n → ⊥
bound_1 f n h = omega (arith, h.1)

-- nor 65
bound_65 : (f : List ℕ) (n : ℕ) → NamesWell graph (Loop f 65) n → ⊥
bound_65 f n h = omega (arith, h.2)
