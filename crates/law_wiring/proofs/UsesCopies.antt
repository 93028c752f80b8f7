-- From a fetch or a store whose answer is used often one wire leaves, to the copy of its answer.
use Rattle.std.proofs.Common.{◌≡◌, ◌≢◌, ℕ, zero, suc, ◌+◌, ◌<◌, ◌≤◌, ◌⊎◌, inl, inr, Bool, true, false, List, [], ◌∷◌, ◌++◌, length, refl, sym, ap, ◌∙◌, arith}
use Rattle.std.proofs.Common.{if◌then◌else◌, Some}
use Rattle.std.proofs.lemmas.Bool.{cases_lt}
use Rattle.std.proofs.lemmas.Option.{same_Some}
use Rattle.tags.specs.declared.token.Port.TheVariants.{Left}
use Rattle.semantics.specs.declared.graph.Region.{Region}
use Rattle.semantics.specs.declared.graph.Source.{Source}
use Rattle.semantics.specs.declared.graph.Kind.{Kind}
use Rattle.semantics.specs.declared.graph.Kind.TheVariants.{Fetch, Store}
use Rattle.semantics.specs.Graph.{Node, Flow, node_at}
use Rattle.law_net.specs.ContextsParts as Parts
use Rattle.law_net.specs.ContextsParts.{Part, Entry, Line, Answer, Opener, Fanned, Strict, Trigger, TurnCont, TurnFlag, TurnValue, NextFanned, Join, CondEnd}
use Rattle.law_net.specs.ContextsParts.{Inlet, inlet}
use Rattle.law_net.specs.ContextsBlocks.{Side, side, Site, is_kind, cell_kind}
use Rattle.law_wiring.specs.Written.{Wire, wire, is_shared, answer_wires, along, inlet_of, leaves, operand_wires, meet_wires, kind_wires, node_wires}
use Rattle.law_wiring.specs.Written.{value_wires, next_wires, last_wires, turn_wires, tail_wires, inner_wires, wires_in}
use Rattle.law_wiring.proofs.PartsCounts.{Follow, follow_more, follow_here}
use Rattle.law_wiring.proofs.Parts.{follow, node_within}
use Rattle.law_wiring.proofs.WrittenMembers.{all_both, side_self}
use Rattle.law_wiring.proofs.WrittenNodes.{node_some}
use Rattle.law_wiring.proofs.WrittenBothArms.{copy_apart}
use Rattle.law_wiring.proofs.Uses.{along_both}
use Rattle.law_wiring.proofs.UsesAlone.{Others, FromOther, none_along, kind_other, results_other, values_other, behind}

module _ (fl : Flow) (s : Site) (n : ℕ) (cell : is_kind cell_kind s.block n ≡ true) (shared : is_shared s n ≡ true) where
  abbrev t : Side
  t = side (Line n) false

  value : (x : Source) → leaves s x ≢ t
  value x = copy_apart s x.node x.port n cell shared

  abbrev Far : List Wire → Type 0
  Far ws = Others fl s t refl value ws

  none : (ws : List Wire) → Far ws → along s.block t ws ≡ []
  none ws h = none_along fl s t refl value ws h

  other_line : (m : ℕ) → m ≢ n → side (Line m) false ≢ t
  other_line m ne e = let p : Line m ≡ Line n = ap (λ (v : Side). v.part) e in let same : m ≡ n = cc in ne same

  kind_far : (m : ℕ) (x : Node ℕ) → m ≢ n → Far (kind_wires s m x.region x.kind x.sources)
  kind_far m x ne = kind_other fl s t refl value m x.region x.kind x.sources (other_line m ne)

  operands_far : (from : ℕ) (xs : List Source) → Far (operand_wires s (Line n) from xs)
  operands_far from [] = tt
  operands_far from (x ∷ xs) = (value x, operands_far (from + 1) xs)

  abbrev Its : List Inlet
  Its = inlet (Answer n) Left 0 ∷ []

  copy_here : (u : Bool) → u ≡ true → along s.block t (answer_wires n u) ≡ Its
  copy_here true e = ap (λ x. if x then inlet_of s.block (wire t (Answer n) Left) ∷ [] else []) (side_self t)
  copy_here false e = absurd (cc)

  line_here : (xs : List Source) → along s.block t (operand_wires s (Line n) 0 xs ++ answer_wires n (is_shared s n)) ≡ Its
  line_here xs =
      along_both s.block t (operand_wires s (Line n) 0 xs) (answer_wires n (is_shared s n))
      ∙ (λ i. none (operand_wires s (Line n) 0 xs) (operands_far 0 xs) i ++ copy_here (is_shared s n) shared i)

  kind_here : (g : Region) (k : Kind ℕ) (xs : List Source) → cell_kind k ≡ true → along s.block t (kind_wires s n g k xs) ≡ Its
  kind_here g (Fetch a) xs h = line_here xs
  kind_here g (Store a) xs h = line_here xs
  kind_here g k xs h = absurd (cc)

  nodes_after : (m : ℕ) (xs : List (Node ℕ)) → n < m → along s.block t (node_wires s m xs) ≡ []
  nodes_after m [] l = refl
  nodes_after m (x ∷ xs) l =
      along_both s.block t (kind_wires s m x.region x.kind x.sources) (node_wires s (m + 1) xs)
      ∙ (λ i. none (kind_wires s m x.region x.kind x.sources) (kind_far m x (λ q. omega (arith, q, l))) i ++ nodes_after (m + 1) xs (omega (arith, l)) i)

  nodes_here : (m : ℕ) (x : Node ℕ) (xs : List (Node ℕ)) → Follow s.block m xs → m ≤ n → n < m + length xs → node_at s.block n ≡ Some x
      → cell_kind x.kind ≡ true → along s.block t (node_wires s m xs) ≡ Its
  nodes_here m x [] f l u e c = absurd (omega (arith, l, u))
  nodes_here m x (y ∷ xs) f l u e c =
      along_both s.block t (kind_wires s m y.region y.kind y.sources) (node_wires s (m + 1) xs)
      ∙ go (cases_lt m n) (λ a d. nodes_here (m + 1) x xs (follow_more s.block m y xs f) a d e c)
    where
      go : (m < n) ⊎ (n ≤ m) → (m + 1 ≤ n → n < (m + 1) + length xs → along s.block t (node_wires s (m + 1) xs) ≡ Its)
          → along s.block t (kind_wires s m y.region y.kind y.sources) ++ along s.block t (node_wires s (m + 1) xs) ≡ Its
      go (inl a) more =
          ap (λ zs. zs ++ along s.block t (node_wires s (m + 1) xs)) (none (kind_wires s m y.region y.kind y.sources) (kind_far m y (λ q. omega (arith, q, a))))
          ∙ more (omega (arith, a)) (omega (arith, u))
      go (inr a) more =
          let same : n ≡ m = omega (arith, l, a) in
          let it : x ≡ y = same_Some x y (sym e ∙ ap (node_at s.block) same ∙ follow_here s.block m y xs f) in
          let here : along s.block t (kind_wires s m y.region y.kind y.sources) ≡ Its
          = (λ i. along s.block t (kind_wires s (sym same i) (sym it i).region (sym it i).kind (sym it i).sources)) ∙ kind_here x.region x.kind x.sources c in
          let rest = nodes_after (m + 1) xs (omega (arith, same)) in
          (λ i. here i ++ rest i)

  -- the turn of a loop
  abbrev is_line : Part → Bool
  is_line (Line m) = true
  is_line r = false

  far_part : (u : Side) → is_line u.part ≡ false → u ≢ t
  far_part u h e = let z = ap (λ (v : Side). is_line v.part) e in absurd (cc)

  no_value : (j : ℕ) (u : Bool) → side (TurnValue j) u ≢ t
  no_value j u = far_part (side (TurnValue j) u) refl

  nexts_far : (from m : ℕ) → Far (next_wires from m)
  nexts_far from zero = tt
  nexts_far from (suc m) = (far_part (side NextFanned false) refl, (no_value from false, nexts_far (from + 1) m))

  lasts_far : (from m : ℕ) → Far (last_wires from m)
  lasts_far from zero = tt
  lasts_far from (suc m) = (far_part (side TurnCont true) refl, (no_value (from + 1) true, lasts_far (from + 1) m))

  turns_far : (xs : List Source) → Far (turn_wires s xs)
  turns_far [] = tt
  turns_far (x ∷ xs) =
      let ends : List Wire = meet_wires (side TurnCont true) (side TurnFlag true) Parts.DrainReturn in (
        far_part (side Entry false) refl,
        (
          value x,
          (
            value x,
            (
              value x,
              all_both (FromOther fl s t refl value) (value_wires s (leaves s x) 1 xs)
                  (meet_wires (side TurnCont false) (side TurnFlag false) Parts.Asker
                  ++ (meet_wires (side NextFanned false) (side TurnCont false) (Parts.NextSender 0)
                  ++ (next_wires 1 (length xs) ++ (last_wires 0 (length xs) ++ ends))))
                  (values_other fl s t refl value x 1 xs) (
                    far_part (side TurnCont false) refl,
                    (
                      far_part (side TurnFlag false) refl,
                      (
                        far_part (side NextFanned false) refl,
                        (
                          far_part (side TurnCont false) refl,
                          all_both (FromOther fl s t refl value) (next_wires 1 (length xs)) (last_wires 0 (length xs) ++ ends) (nexts_far 1 (length xs))
                              (all_both (FromOther fl s t refl value) (last_wires 0 (length xs)) ends (lasts_far 0 (length xs))
                              (far_part (side TurnCont true) refl, (far_part (side TurnFlag true) refl, tt))),
                        ),
                      ),
                    ),
                  ),
            ),
          ),
        ),
      )

  tails_far : (u : Bool) → Far (tail_wires s u)
  tails_far false = results_other fl s t refl value 0 s.block.results
  tails_far true = turns_far s.block.results

  inner_along : along s.block t (inner_wires s) ≡ Its
  inner_along =
      let x = node_some s.block cell_kind n cell in
      let w = node_within s.block n x.0 x.1 in
      along_both s.block t (node_wires s s.block.inputs s.block.nodes) (tail_wires s s.turns)
      ∙ (λ i. nodes_here s.block.inputs x.0 s.block.nodes (follow s.block) w.0 w.1 x.1 x.2 i ++ none (tail_wires s s.turns) (tails_far s.turns) i)

  pub copy_along : along s.block (side (Line n) false) (wires_in fl s) ≡ inlet (Answer n) Left 0 ∷ []
  copy_along = behind fl s t refl value (inlet (Answer n) Left 0) [] inner_along
