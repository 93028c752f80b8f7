-- In the code of a loop's turn what leaves goes to its uses: the values to the turns that carry them, and the flag to every turn.
use Rattle.std.proofs.Common.{◌≡◌, ◌≢◌, ℕ, zero, suc, ◌+◌, ◌<◌, inl, inr, Bool, true, false, List, [], ◌∷◌, ◌++◌, length, refl, sym, ap, ◌∙◌, subst, arith}
use Rattle.std.proofs.Common.{append-nil, if◌then◌else◌, Some, All}
use Rattle.std.specs.Prelude.{flat_map, IsPermutation}
use Rattle.std.proofs.lemmas.List.Elements.{All-head, All-tail}
use Rattle.std.proofs.lemmas.List.Sorted.{IsPermutation-trans, IsPermutation-append_right}
use Rattle.lemmas.proofs.Permutations.{permutation_same}
use Rattle.tags.specs.declared.value.Value.{Value}
use Rattle.tags.specs.declared.token.Port.TheVariants.{Left, Right}
use Rattle.semantics.specs.declared.graph.Source.{Source}
use Rattle.semantics.specs.Graph.{Flow}
use Rattle.semantics.specs.Meaning.{Context, AtTurn, Flag, Carried, Tagged, tagged, block_of, positions, turns_from, result_uses}
use Rattle.law_confluence.proofs.Orders.{shuffled, Part, ◌⊕◌}
use Rattle.law_net.specs.ContextsParts.{Entry, TurnCont, TurnFlag, TurnValue, Asker, NextFanned, NextSender, DrainReturn}
use Rattle.law_net.specs.ContextsBlocks.{Side, side, Site}
use Rattle.law_net.specs.ContextsMeant.{settled_sent}
use Rattle.law_net.specs.ContextsWires.{meant_along}
use Rattle.law_wiring.specs.Written.{Wire, wire, along, leaves_at, leaves, meet_wires, value_wires, next_wires, last_wires, turn_wires, tail_wires, wires_in}
use Rattle.law_wiring.specs.WrittenFit.{IsPrior, IsFit}
use Rattle.law_wiring.proofs.WrittenMembers.{AllW, all_both}
use Rattle.law_wiring.proofs.WrittenNodes.{is_value, leaves_own}
use Rattle.law_wiring.proofs.FedEnds.{TurnsWell}
use Rattle.law_wiring.proofs.Uses.{IsPort, side_test, heard, heard_both, heard_one, Quiet, quiet, quiet_before, settle, made, settle_both, test}
use Rattle.law_wiring.proofs.UsesAll.{after, all_told}

module _ (fl : Flow) (s : Site) (fit : IsFit fl s.block) (c : Context) (v : Value) (there : block_of fl c ≡ Some s.block) (n q : ℕ) (port : IsPort s n q) where
  abbrev T : Side
  T = leaves_at s n q

  abbrev H : List Wire → List Tagged
  H ws = heard fl s fit c v T ws

  abbrev is_used : Source → Bool
  is_used x = test fl s fit c v there n q port x

  -- quiet are those of a turn's own parts
  own_part : (t : Side) → is_value t.part ≡ false → T ≢ t
  own_part t h e = let z = sym (leaves_own s n q).0 ∙ ap (λ (u : Side). is_value u.part) e ∙ h in absurd (cc)

  nexts_quiet : (from m : ℕ) → AllW (Quiet fl s fit c v T) (next_wires from m)
  nexts_quiet from zero = tt
  nexts_quiet from (suc m) = (inr (own_part (side NextFanned false) refl), (inr (own_part (side (TurnValue from) false) refl), nexts_quiet (from + 1) m))

  lasts_quiet : (from m : ℕ) → AllW (Quiet fl s fit c v T) (last_wires from m)
  lasts_quiet from zero = tt
  lasts_quiet from (suc m) = (inr (own_part (side TurnCont true) refl), (inr (own_part (side (TurnValue (from + 1)) true) refl), lasts_quiet (from + 1) m))

  values_alone : (x : Source) (xs : List Source) → H (turn_wires s (x ∷ xs)) ≡ H (value_wires s (leaves s x) 1 xs)
  values_alone x xs =
      let ends : List Wire = meet_wires (side TurnCont true) (side TurnFlag true) DrainReturn in
      let last : List Wire = last_wires 0 (length xs) ++ ends in
      let next : List Wire = next_wires 1 (length xs) ++ last in
      let sent : List Wire = meet_wires (side NextFanned false) (side TurnCont false) (NextSender 0) in
      let asked : List Wire = meet_wires (side TurnCont false) (side TurnFlag false) Asker in
      let values : List Wire = value_wires s (leaves s x) 1 xs in
      let first : List Wire = meet_wires (side Entry false) (leaves s x) TurnCont ++ meet_wires (leaves s x) (leaves s x) TurnFlag in
      let behind : AllW (Quiet fl s fit c v T) (asked ++ (sent ++ next)) = (
        inl refl,
        (
          inl refl,
          (
            inl refl,
            (
              inl refl,
              all_both (Quiet fl s fit c v T) (next_wires 1 (length xs)) last (nexts_quiet 1 (length xs))
                  (all_both (Quiet fl s fit c v T) (last_wires 0 (length xs)) ends (lasts_quiet 0 (length xs)) (inl refl, (inl refl, tt))),
            ),
          ),
        ),
      ) in
      quiet_before fl s fit c v T first (values ++ (asked ++ (sent ++ next))) (inl refl, (inl refl, (inl refl, (inl refl, tt))))
      ∙ heard_both fl s fit c v T values (asked ++ (sent ++ next)) ∙ ap (λ zs. H values ++ zs) (quiet fl s fit c v T (asked ++ (sent ++ next)) behind)
      ∙ append-nil (H values)

  -- THE FLAG'S uses, and those of the values
  abbrev flags : ℕ → ℕ → List Tagged
  flags from zero = []
  flags from (suc m) = tagged c (AtTurn from) Flag v ∷ flags (from + 1) m

  flags_settled : (from m : ℕ) → settle fl s fit c v (made fl s fit c v (turns_from from m)) ≡ flags from m
  flags_settled from zero = refl
  flags_settled from (suc m) = ap (λ zs. tagged c (AtTurn from) Flag v ∷ zs) (flags_settled (from + 1) m)

  abbrev flags_if : Bool → ℕ → ℕ → List Tagged
  flags_if t from m = if t then flags from m else []

  flags_more : (t : Bool) (from m : ℕ) → flags_if t from (suc m) ≡ (if t then tagged c (AtTurn from) Flag v ∷ [] else []) ++ flags_if t (from + 1) m
  flags_more true from m = refl
  flags_more false from m = refl

  abbrev A : ℕ → List Source → List Tagged
  A from xs = after fl s fit c v there n q port from xs

  -- four lists, in another order
  turned : {X : Type 0} (a b c d : List X) → IsPermutation (a ++ (b ++ (c ++ d))) ((b ++ c) ++ (a ++ d))
  turned a b c d = shuffled (a ∷ b ∷ c ∷ d ∷ []) (Part 0 ⊕ (Part 1 ⊕ (Part 2 ⊕ Part 3))) ((Part 1 ⊕ Part 2) ⊕ (Part 0 ⊕ Part 3)) refl

  module _ (first : result_uses c s.block.inputs 0 ≡ turns_from 1 s.block.inputs)
      (later : (j : ℕ) → 0 < j → result_uses c s.block.inputs j ≡ (AtTurn j, Carried) ∷ []) where
    after_more : (from : ℕ) (x : Source) (xs : List Source) → 0 < from
        → A from (x ∷ xs) ≡ (if is_used x then tagged c (AtTurn from) Carried v ∷ [] else []) ++ A (from + 1) xs
    after_more from x xs l = go (is_used x)
      where
        go : (t : Bool) → settle fl s fit c v
            (made fl s fit c v (flat_map (λ j. result_uses c s.block.inputs j) (if t then from ∷ positions n q (from + 1) xs else positions n q (from + 1) xs)))
            ≡ (if t then tagged c (AtTurn from) Carried v ∷ [] else []) ++ A (from + 1) xs
        go true =
            ap (λ us. settle fl s fit c v (made fl s fit c v (us ++ flat_map (λ j. result_uses c s.block.inputs j) (positions n q (from + 1) xs))))
            (later from l)
        go false = refl

    values_heard : (x : Source) (m : ℕ) → IsPrior fl s.block m x → (from : ℕ) → 0 < from → (xs : List Source) → All (IsPrior fl s.block m) xs
        → IsPermutation (H (value_wires s (leaves s x) from xs)) (flags_if (is_used x) from (length xs) ++ A from xs)
    values_heard x m h from l [] all = permutation_same [] (flags_if (is_used x) from 0 ++ A from []) (none (is_used x))
      where
        none : (t : Bool) → [] ≡ flags_if t from 0 ++ A from []
        none true = refl
        none false = refl
    values_heard x m h from l (z ∷ xs) all =
        let a : List Tagged = if is_used z then tagged c (AtTurn from) Carried v ∷ [] else [] in
        let b : List Tagged = if is_used x then tagged c (AtTurn from) Flag v ∷ [] else [] in
        let fs : List Tagged = flags_if (is_used x) (from + 1) (length xs) in
        let ls : List Tagged = A (from + 1) xs in
        let ws : List Wire = value_wires s (leaves s x) (from + 1) xs in
        let one : Wire = wire (leaves s z) (TurnValue from) Left in
        let two : Wire = wire (leaves s x) (TurnValue from) Right in
        let its = side_test s n q z port (All-head (IsPrior fl s.block m) z xs all).first in
        let flag = side_test s n q x port h.first in
        let split : H (one ∷ two ∷ ws) ≡ a ++ (b ++ H ws)
        = heard_one fl s fit c v T one (two ∷ ws) ∙ ap (λ t. (if t then tagged c (AtTurn from) Carried v ∷ [] else []) ++ H (two ∷ ws)) its
        ∙ ap (λ zs. a ++ zs) (heard_one fl s fit c v T two ws ∙ ap (λ t. (if t then tagged c (AtTurn from) Flag v ∷ [] else []) ++ H ws) flag) in
        let back : (b ++ fs) ++ (a ++ ls) ≡ flags_if (is_used x) from (suc (length xs)) ++ A from (z ∷ xs) =
        (λ i. sym (flags_more (is_used x) from (length xs)) i ++ sym (after_more from z xs l) i) in
        subst (λ zs. IsPermutation zs (flags_if (is_used x) from (suc (length xs)) ++ A from (z ∷ xs))) (sym split)
        (subst (λ zs. IsPermutation (a ++ (b ++ H ws)) zs) back
        (IsPermutation-trans (a ++ (b ++ H ws)) (a ++ (b ++ (fs ++ ls))) ((b ++ fs) ++ (a ++ ls))
        (IsPermutation-append_right a (b ++ H ws) (b ++ (fs ++ ls))
        (IsPermutation-append_right b (H ws) (fs ++ ls) (values_heard x m h (from + 1) (omega (arith, l)) xs (All-tail (IsPrior fl s.block m) z xs all))))
        (turned a b fs ls)))

    -- the results' uses begin with the flag's
    results_begin : (x : Source) (xs : List Source) → length xs ≡ s.block.inputs → A 0 (x ∷ xs) ≡ flags_if (is_used x) 1 (length xs) ++ A 1 xs
    results_begin x xs e = go (is_used x)
      where
        go : (t : Bool) → settle fl s fit c v
            (made fl s fit c v (flat_map (λ j. result_uses c s.block.inputs j) (if t then 0 ∷ positions n q 1 xs else positions n q 1 xs)))
            ≡ flags_if t 1 (length xs) ++ A 1 xs
        go true =
            settle_both fl s fit c v (result_uses c s.block.inputs 0) (flat_map (λ j. result_uses c s.block.inputs j) (positions n q 1 xs))
            ∙ ap (λ zs. zs ++ A 1 xs) (ap (λ us. settle fl s fit c v (made fl s fit c v us)) first ∙ flags_settled 1 s.block.inputs ∙ ap (flags 1) (sym e))
        go false = refl

    results_heard : (xs : List Source) (m : ℕ) → length xs ≡ suc s.block.inputs → All (IsPrior fl s.block m) xs
        → IsPermutation (H (turn_wires s xs)) (A 0 xs)
    results_heard [] m e all = absurd (omega (arith, e))
    results_heard (x ∷ xs) m e all =
        let same : length xs ≡ s.block.inputs = omega (arith, e) in
        subst (λ zs. IsPermutation zs (A 0 (x ∷ xs))) (sym (values_alone x xs))
        (subst (λ zs. IsPermutation (H (value_wires s (leaves s x) 1 xs)) zs) (sym (results_begin x xs same))
        (values_heard x m (All-head (IsPrior fl s.block m) x xs all) 1 (omega arith) xs (All-tail (IsPrior fl s.block m) x xs all)))

    pub turn_told : TurnsWell s → s.turns ≡ true
        → IsPermutation (meant_along fl c v (along s.block (leaves_at s n q) (wires_in fl s))) (settled_sent fl c n q v)
    turn_told well e =
        all_told fl s fit c v there n q port
        (subst (λ t. IsPermutation (H (tail_wires s t)) (A 0 s.block.results)) (sym e)
        (results_heard s.block.results (s.block.inputs + length s.block.nodes) (well e) fit.results))
