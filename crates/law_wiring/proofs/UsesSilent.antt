-- What is no node's value stands for no token.
use Rattle.std.proofs.Common.{◌≡◌, ◌≢◌, ℕ, zero, suc, ◌+◌, ◌⊎◌, inl, inr, Bool, true, false, List, [], ◌∷◌, ◌++◌, length, refl, sym, ap, ◌∙◌, subst}
use Rattle.tags.specs.declared.value.Value.{Value}
use Rattle.tags.specs.declared.token.Port.TheVariants.{Left}
use Rattle.semantics.specs.declared.graph.Region.{Region}
use Rattle.semantics.specs.declared.graph.Region.TheVariants.{Root, Arm}
use Rattle.semantics.specs.declared.graph.Source.{Source}
use Rattle.semantics.specs.declared.graph.Kind.{Kind}
use Rattle.semantics.specs.declared.graph.Kind.TheVariants.{Lit, Apply1, Apply2, Cond, Enter, Merge, Fetch, Store, Call, StrictCall, Loop}
use Rattle.semantics.specs.Graph.{Node, Flow}
use Rattle.semantics.specs.Meaning.{Context}
use Rattle.law_net.specs.ContextsParts as Parts
use Rattle.law_net.specs.ContextsParts.{Part, Line, TurnCont, TurnFlag, TurnValue, Asker, NextFanned, NextSender, DrainReturn}
use Rattle.law_net.specs.ContextsBlocks.{Side, side, Site}
use Rattle.law_net.specs.ContextsMeant.{meant_at}
use Rattle.law_net.specs.ContextsWires.{IsSilent}
use Rattle.law_wiring.specs.Written.{Wire, is_shared, is_triggered, answer_wires, leaves, trigger_side, operand_wires, merge_wires, meet_wires, value_wires}
use Rattle.law_wiring.specs.Written.{next_wires, last_wires, turn_wires, tail_wires, trigger_wires, gate_wires, sender_wires, invoke_wires, strict_wires}
use Rattle.law_wiring.specs.Written.{strict_end, strict_call_wires, kind_wires, node_wires, result_wires, inner_wires, wires_in}
use Rattle.law_wiring.specs.WrittenFit.{IsFit}
use Rattle.law_wiring.proofs.WrittenMembers.{AllW, all_both, all_weaker}
use Rattle.law_wiring.proofs.Uses.{tells, heard, Quiet, quiet}
use Rattle.law_wiring.proofs.UsesQuiet.{all_heard}

module _ (fl : Flow) (s : Site) (fit : IsFit fl s.block) (c : Context) (v : Value) where
  -- a wire stands for no token, or a node's value leaves along it, or it comes from a part that speaks by itself
  abbrev Says : Wire → Type 0
  Says u = (tells fl s fit c v u ≡ []) ⊎ (((x : Source) × (u.from ≡ leaves s x)) ⊎ (IsSilent u.from.part → ⊥))

  operands_say : (r : Part) (from : ℕ) (xs : List Source) → AllW Says (operand_wires s r from xs)
  operands_say r from [] = tt
  operands_say r from (x ∷ xs) = (inr (inl (x, refl)), operands_say r (from + 1) xs)

  merges_say : (r : Part) (xs : List Source) → AllW Says (merge_wires s r xs)
  merges_say r [] = tt
  merges_say r (x ∷ xs) = (inr (inl (x, refl)), merges_say r xs)

  gates_say : (n : ℕ) (g : Region) (xs : List Source) → AllW Says (gate_wires s n g xs)
  gates_say n Root xs = tt
  gates_say n (Arm k t) xs = (inr (inl (_, refl)), (inr (inl (_, refl)), tt))

  copies_say : (n : ℕ) (t : Bool) → AllW Says (answer_wires n t)
  copies_say n true = (inr (inr (λ z. z)), tt)
  copies_say n false = tt

  triggers_say : (n : ℕ) (t : Bool) (x : Source) → AllW Says (trigger_wires s n t x)
  triggers_say n true x = (inl refl, (inl refl, tt))
  triggers_say n false x = tt

  senders_say : (n from : ℕ) (xs : List Source) → AllW Says (sender_wires s n from xs)
  senders_say n from [] = tt
  senders_say n from (x ∷ xs) = (inl refl, (inr (inl (x, refl)), senders_say n (from + 1) xs))

  invoke_say : (n : ℕ) (t : Side) (xs : List Source) → AllW Says (invoke_wires s n t xs)
  invoke_say n t xs = (inl refl, (inl refl, senders_say n 0 xs))

  strict_say : (n from : ℕ) (t : Side) (xs : List Source) → AllW Says (strict_wires s n from t xs)
  strict_say n from t [] = tt
  strict_say n from t (x ∷ xs) = (inl refl, (inl refl, strict_say n (from + 1) (side (Parts.Strict n from) false) xs))

  strict_call_say : (n : ℕ) (xs : List Source) → AllW Says (strict_call_wires s n xs)
  strict_call_say n [] = tt
  strict_call_say n (x ∷ xs) =
      all_both Says (strict_wires s n 1 (leaves s x) xs) (invoke_wires s n (strict_end n 1 (leaves s x) xs) (x ∷ xs)) (strict_say n 1 (leaves s x) xs)
      (invoke_say n (strict_end n 1 (leaves s x) xs) (x ∷ xs))

  kind_say : (n : ℕ) (g : Region) (k : Kind ℕ) (xs : List Source) → AllW Says (kind_wires s n g k xs)
  kind_say n g Cond xs = triggers_say n (is_triggered s.block n) _
  kind_say n g Enter xs = gates_say n g xs
  kind_say n g (Merge j) xs = merges_say (Parts.Merge n) xs
  kind_say n g (Lit z) xs = operands_say (Line n) 0 xs
  kind_say n g (Apply1 op) xs = operands_say (Line n) 0 xs
  kind_say n g (Apply2 op) xs = operands_say (Line n) 0 xs
  kind_say n g (Fetch a) xs =
      all_both Says (operand_wires s (Line n) 0 xs) (answer_wires n (is_shared s n)) (operands_say (Line n) 0 xs) (copies_say n (is_shared s n))
  kind_say n g (Store a) xs =
      all_both Says (operand_wires s (Line n) 0 xs) (answer_wires n (is_shared s n)) (operands_say (Line n) 0 xs) (copies_say n (is_shared s n))
  kind_say n g (Call f) xs = invoke_say n (trigger_side g) xs
  kind_say n g (StrictCall f) xs = strict_call_say n xs
  kind_say n g (Loop f j) xs = (inl refl, invoke_say n (side (Parts.Opener n) false) xs)

  nodes_say : (n : ℕ) (xs : List (Node ℕ)) → AllW Says (node_wires s n xs)
  nodes_say n [] = tt
  nodes_say n (x ∷ xs) =
      all_both Says (kind_wires s n x.region x.kind x.sources) (node_wires s (n + 1) xs) (kind_say n x.region x.kind x.sources) (nodes_say (n + 1) xs)

  results_say : (from : ℕ) (xs : List Source) → AllW Says (result_wires s from xs)
  results_say from [] = tt
  results_say from (x ∷ xs) = (inl refl, (inr (inl (x, refl)), results_say (from + 1) xs))

  -- the turn of a loop: its values go to the next turn, or back
  values_say : (x : Source) (from : ℕ) (xs : List Source) → AllW Says (value_wires s (leaves s x) from xs)
  values_say x from [] = tt
  values_say x from (z ∷ xs) = (inr (inl (z, refl)), (inr (inl (x, refl)), values_say x (from + 1) xs))

  frames_tell : (j : ℕ) → meant_at fl c (NextSender j) Left 0 v ≡ []
  frames_tell zero = refl
  frames_tell (suc j) = refl

  nexts_say : (from n : ℕ) → AllW Says (next_wires from n)
  nexts_say from zero = tt
  nexts_say from (suc n) = (inl (frames_tell from), (inr (inr (λ z. z)), nexts_say (from + 1) n))

  lasts_say : (from n : ℕ) → AllW Says (last_wires from n)
  lasts_say from zero = tt
  lasts_say from (suc n) = (inl refl, (inr (inr (λ z. z)), lasts_say (from + 1) n))

  turns_say : (xs : List Source) → AllW Says (turn_wires s xs)
  turns_say [] = tt
  turns_say (x ∷ xs) =
      let ends : List Wire = meet_wires (side TurnCont true) (side TurnFlag true) DrainReturn in (
        inl refl,
        (
          inl refl,
          (
            inl refl,
            (
              inl refl,
              all_both Says (value_wires s (leaves s x) 1 xs)
                  (meet_wires (side TurnCont false) (side TurnFlag false) Asker
                  ++ (meet_wires (side NextFanned false) (side TurnCont false) (NextSender 0)
                  ++ (next_wires 1 (length xs) ++ (last_wires 0 (length xs) ++ ends))))
                  (values_say x 1 xs) (
                    inl refl,
                    (
                      inl refl,
                      (
                        inl refl,
                        (
                          inl refl,
                          all_both Says (next_wires 1 (length xs)) (last_wires 0 (length xs) ++ ends) (nexts_say 1 (length xs))
                              (all_both Says (last_wires 0 (length xs)) ends (lasts_say 0 (length xs)) (inl refl, (inl refl, tt))),
                        ),
                      ),
                    ),
                  ),
            ),
          ),
        ),
      )

  tails_say : (t : Bool) → AllW Says (tail_wires s t)
  tails_say false = results_say 0 s.block.results
  tails_say true = turns_say s.block.results

  pub silent : (t : Side) → IsSilent t.part → ((x : Source) → leaves s x ≢ t) → heard fl s fit c v t (wires_in fl s) ≡ []
  silent t is_silent apart =
      let says = all_both Says (node_wires s s.block.inputs s.block.nodes) (tail_wires s s.turns) (nodes_say s.block.inputs s.block.nodes)
      (tails_say s.turns) in
      all_heard fl s fit c v t ∙ quiet fl s fit c v t (inner_wires s) (all_weaker Says (Quiet fl s fit c v t) (inner_wires s) (λ u h. each u h) says)
    where
      each : (u : Wire) → Says u → Quiet fl s fit c v t u
      each u (inl e) = inl e
      each u (inr (inr m)) = inr (λ q. m (subst IsSilent (ap (λ (z : Side). z.part) q) is_silent))
      each u (inr (inl x)) = inr (λ q. apart x.0 (sym x.1 ∙ sym q))
