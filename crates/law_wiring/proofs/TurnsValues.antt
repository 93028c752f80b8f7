-- In the code of a loop's turn, each value goes to the next turn along one side, and back along the other.
use Rattle.std.proofs.Common.{◌≡◌, ◌≢◌, ℕ, zero, suc, ◌+◌, ◌<◌, ◌≤◌, ◌⊎◌, inl, inr, Bool, true, false, ◌&&◌, List, [], ◌∷◌, ◌++◌, length, refl, sym, ap, ◌∙◌}
use Rattle.std.proofs.Common.{arith, if◌then◌else◌, nat_lt}
use Rattle.std.proofs.lemmas.Bool.{cases_lt, ltb-true}
use Rattle.tags.specs.declared.token.Port.TheVariants.{Left, Right}
use Rattle.semantics.specs.declared.graph.Source.{Source}
use Rattle.semantics.specs.Graph.{Node, Flow}
use Rattle.law_net.specs.ContextsParts.{Entry, Line, TurnCont, TurnFlag, TurnValue, Asker, NextFanned, NextSender, LastReturn, DrainReturn, Inlet, inlet}
use Rattle.law_net.specs.ContextsBlocks.{Side, side, Site, Wiring}
use Rattle.law_wiring.specs.Written.{Wire, wire, along, inlet_of, same_side, leaves, kind_wires, node_wires, meet_wires, value_wires, next_wires, last_wires}
use Rattle.law_wiring.specs.Written.{turn_wires, tail_wires, inner_wires, wires_in}
use Rattle.law_wiring.specs.WrittenHalves.{IsWritten}
use Rattle.law_wiring.proofs.WrittenMembers.{all_both, side_self}
use Rattle.law_wiring.proofs.WrittenNodes.{is_value, leaves_own}
use Rattle.law_wiring.proofs.FedEnds.{TurnsWell}
use Rattle.law_wiring.proofs.Uses.{along_both}
use Rattle.law_wiring.proofs.UsesAlone.{Others, FromOther, none_along, else_part, kind_other, values_other, behind}
use Rattle.law_wiring.proofs.UsesWhole.{TurnsOn}

module _ (fl : Flow) (s : Site) (k : ℕ) (second : Bool) where
  abbrev t : Side
  t = side (TurnValue k) second

  -- no node's value leaves there
  value : (x : Source) → leaves s x ≢ t
  value x e = let z = sym (leaves_own s x.node x.port).0 ∙ ap (λ (u : Side). is_value u.part) e in absurd (cc)

  line : (m : ℕ) → side (Line m) false ≢ t
  line m e = let p : Line m ≡ TurnValue k = ap (λ (u : Side). u.part) e in cc

  abbrev Far : List Wire → Type 0
  Far ws = Others fl s t refl value ws

  abbrev A : List Wire → List Inlet
  A ws = along s.block t ws

  none : (ws : List Wire) → Far ws → A ws ≡ []
  none ws h = none_along fl s t refl value ws h

  none_before : (ws us : List Wire) → Far ws → A (ws ++ us) ≡ A us
  none_before ws us h = along_both s.block t ws us ∙ ap (λ zs. zs ++ A us) (none ws h)

  apart : (u : Side) → u.part ≢ t.part → u ≢ t
  apart u h e = h (ap (λ (v : Side). v.part) e)

  nodes_far : (m : ℕ) (xs : List (Node ℕ)) → Far (node_wires s m xs)
  nodes_far m [] = tt
  nodes_far m (x ∷ xs) =
      all_both (FromOther fl s t refl value) (kind_wires s m x.region x.kind x.sources) (node_wires s (m + 1) xs)
      (kind_other fl s t refl value m x.region x.kind x.sources (line m)) (nodes_far (m + 1) xs)

  here : (w : Wire) (ws : List Wire) → w.from ≡ t → A (w ∷ ws) ≡ inlet_of s.block w ∷ A ws
  here w ws e = ap (λ q. if q then inlet_of s.block w ∷ A ws else A ws) (ap (same_side t) e ∙ side_self t)

  -- WHAT LEAVES to the next turn and back
  nexts_none : (from n : ℕ) → ((j : ℕ) → from ≤ j → side (TurnValue j) false ≢ t) → Far (next_wires from n)
  nexts_none from zero h = tt
  nexts_none from (suc n) h =
      (else_part fl s t refl value (side NextFanned false) refl, (h from (omega arith), nexts_none (from + 1) n (λ j l. h j (omega (arith, l)))))

  lasts_none : (from n : ℕ) → ((j : ℕ) → from ≤ j → side (TurnValue (j + 1)) true ≢ t) → Far (last_wires from n)
  lasts_none from zero h = tt
  lasts_none from (suc n) h =
      (else_part fl s t refl value (side TurnCont true) refl, (h from (omega arith), lasts_none (from + 1) n (λ j l. h j (omega (arith, l)))))

  ends_none : Far (meet_wires (side TurnCont true) (side TurnFlag true) DrainReturn)
  ends_none = (else_part fl s t refl value (side TurnCont true) refl, (else_part fl s t refl value (side TurnFlag true) refl, tt))

  -- before these, no wire leaves there
  pub turn_along : (x : Source) (xs : List Source) → A (turn_wires s (x ∷ xs)) ≡ A (next_wires 1 (length xs)) ++ A (last_wires 0 (length xs))
  turn_along x xs =
      let ends : List Wire = meet_wires (side TurnCont true) (side TurnFlag true) DrainReturn in
      let last : List Wire = last_wires 0 (length xs) ++ ends in
      let next : List Wire = next_wires 1 (length xs) ++ last in
      let sent : List Wire = meet_wires (side NextFanned false) (side TurnCont false) (NextSender 0) in
      let asked : List Wire = meet_wires (side TurnCont false) (side TurnFlag false) Asker in
      let values : List Wire = value_wires s (leaves s x) 1 xs in
      let flagged : List Wire = meet_wires (leaves s x) (leaves s x) TurnFlag in
      let entered : List Wire = meet_wires (side Entry false) (leaves s x) TurnCont in
      none_before entered (flagged ++ (values ++ (asked ++ (sent ++ next)))) (else_part fl s t refl value (side Entry false) refl, (value x, tt))
      ∙ none_before flagged (values ++ (asked ++ (sent ++ next))) (value x, (value x, tt))
      ∙ none_before values (asked ++ (sent ++ next)) (values_other fl s t refl value x 1 xs)
      ∙ none_before asked (sent ++ next) (else_part fl s t refl value (side TurnCont false) refl, (else_part fl s t refl value (side TurnFlag false) refl, tt))
      ∙ none_before sent next (else_part fl s t refl value (side NextFanned false) refl, (else_part fl s t refl value (side TurnCont false) refl, tt))
      ∙ along_both s.block t (next_wires 1 (length xs)) last
      ∙ ap (λ zs. A (next_wires 1 (length xs)) ++ zs)
      (along_both s.block t (last_wires 0 (length xs)) ends ∙ ap (λ zs. A (last_wires 0 (length xs)) ++ zs) (none ends ends_none)
      ∙ nil_behind (A (last_wires 0 (length xs))))
    where
      nil_behind : (zs : List Inlet) → zs ++ [] ≡ zs
      nil_behind [] = refl
      nil_behind (z ∷ zs) = ap (λ ys. z ∷ ys) (nil_behind zs)

  pub inner_along : s.turns ≡ true → (xs : List Source) → s.block.results ≡ xs → (n : ℕ) → length xs ≡ suc n
      → A (inner_wires s) ≡ A (next_wires 1 n) ++ A (last_wires 0 n)
  inner_along e [] r n l = absurd (omega (arith, l))
  inner_along e (x ∷ xs) r n l =
      let same : length xs ≡ n = omega (arith, l) in
      none_before (node_wires s s.block.inputs s.block.nodes) (tail_wires s s.turns) (nodes_far s.block.inputs s.block.nodes)
      ∙ ap (λ q. A (tail_wires s q)) e ∙ ap (λ zs. A (turn_wires s zs)) r ∙ turn_along x xs ∙ ap (λ m. A (next_wires 1 m) ++ A (last_wires 0 m)) same

module _ (fl : Flow) (s : Site) where
  differ : (j k : ℕ) (u v : Bool) → j ≢ k → side (TurnValue j) u ≢ side (TurnValue k) v
  differ j k u v h e = let p : TurnValue j ≡ TurnValue k = ap (λ (t : Side). t.part) e in let same : j ≡ k = cc in h same

  sides_differ : (j k : ℕ) → side (TurnValue j) true ≢ side (TurnValue k) false
  sides_differ j k e = let z = ap (λ (t : Side). t.second) e in absurd (cc)

  -- to the next turn
  next_here : (k from n : ℕ) → from ≤ k → k < from + n → along s.block (side (TurnValue k) false) (next_wires from n) ≡ inlet (NextSender k) Right 0 ∷ []
  next_here k from zero l m = absurd (omega (arith, l, m))
  next_here k from (suc n) l m =
      none_before fl s k false (wire (side NextFanned false) (NextSender from) Left ∷ [])
      (wire (side (TurnValue from) false) (NextSender from) Right ∷ next_wires (from + 1) n)
      (else_part fl s (side (TurnValue k) false) refl (value fl s k false) (side NextFanned false) refl, tt)
      ∙ go (cases_lt from k) (λ a c. next_here k (from + 1) n a c)
    where
      w : Wire
      w = wire (side (TurnValue from) false) (NextSender from) Right

      go : (from < k) ⊎ (k ≤ from) → (from + 1 ≤ k → k < from + 1 + n
          → along s.block (side (TurnValue k) false) (next_wires (from + 1) n) ≡ inlet (NextSender k) Right 0 ∷ [])
          → along s.block (side (TurnValue k) false) (w ∷ next_wires (from + 1) n) ≡ inlet (NextSender k) Right 0 ∷ []
      go (inl a) more =
          none_before fl s k false (w ∷ []) (next_wires (from + 1) n) (differ from k false false (λ e. omega (arith, e, a)), tt)
          ∙ more (omega (arith, a)) (omega (arith, m))
      go (inr a) more =
          let same : from ≡ k = omega (arith, l, a) in
          here fl s k false w (next_wires (from + 1) n) (ap (λ j. side (TurnValue j) false) same)
          ∙ (λ i. inlet (NextSender (same i)) Right 0
          ∷ none fl s k false (next_wires (from + 1) n)
          (nexts_none fl s k false (from + 1) n (λ j c. differ j k false false (λ e. omega (arith, e, c, same)))) i)

  -- and back
  last_here : (k from n : ℕ) → from ≤ k → k < from + n → along s.block (side (TurnValue (k + 1)) true) (last_wires from n) ≡ inlet (LastReturn k) Right 0 ∷ []
  last_here k from zero l m = absurd (omega (arith, l, m))
  last_here k from (suc n) l m =
      none_before fl s (k + 1) true (wire (side TurnCont true) (LastReturn from) Left ∷ [])
      (wire (side (TurnValue (from + 1)) true) (LastReturn from) Right ∷ last_wires (from + 1) n)
      (else_part fl s (side (TurnValue (k + 1)) true) refl (value fl s (k + 1) true) (side TurnCont true) refl, tt)
      ∙ go (cases_lt from k) (λ a c. last_here k (from + 1) n a c)
    where
      w : Wire
      w = wire (side (TurnValue (from + 1)) true) (LastReturn from) Right

      go : (from < k) ⊎ (k ≤ from) → (from + 1 ≤ k → k < from + 1 + n
          → along s.block (side (TurnValue (k + 1)) true) (last_wires (from + 1) n) ≡ inlet (LastReturn k) Right 0 ∷ [])
          → along s.block (side (TurnValue (k + 1)) true) (w ∷ last_wires (from + 1) n) ≡ inlet (LastReturn k) Right 0 ∷ []
      go (inl a) more =
          none_before fl s (k + 1) true (w ∷ []) (last_wires (from + 1) n) (differ (from + 1) (k + 1) true true (λ e. omega (arith, e, a)), tt)
          ∙ more (omega (arith, a)) (omega (arith, m))
      go (inr a) more =
          let same : from ≡ k = omega (arith, l, a) in
          here fl s (k + 1) true w (last_wires (from + 1) n) (ap (λ j. side (TurnValue (j + 1)) true) same)
          ∙ (λ i. inlet (LastReturn (same i)) Right 0
          ∷ none fl s (k + 1) true (last_wires (from + 1) n)
          (lasts_none fl s (k + 1) true (from + 1) n (λ j c. differ (j + 1) (k + 1) true true (λ e. omega (arith, e, c, same)))) i)

  -- ALL WIRES of a turn's value
  module _ (well : TurnsWell s) (e : s.turns ≡ true) (j : ℕ) (l : j < s.block.inputs) where
    next_along : along s.block (side (TurnValue (j + 1)) false) (wires_in fl s) ≡ inlet (NextSender (j + 1)) Right 0 ∷ []
    next_along =
        behind fl s (side (TurnValue (j + 1)) false) refl (value fl s (j + 1) false) (inlet (NextSender (j + 1)) Right 0) []
        (inner_along fl s (j + 1) false e s.block.results refl s.block.inputs (well e)
        ∙ (λ i. next_here (j + 1) 1 s.block.inputs (omega arith) (omega (arith, l)) i
        ++ none fl s (j + 1) false (last_wires 0 s.block.inputs) (lasts_none fl s (j + 1) false 0 s.block.inputs (λ m c. sides_differ (m + 1) (j + 1))) i))

    last_along : along s.block (side (TurnValue (j + 1)) true) (wires_in fl s) ≡ inlet (LastReturn j) Right 0 ∷ []
    last_along =
        behind fl s (side (TurnValue (j + 1)) true) refl (value fl s (j + 1) true) (inlet (LastReturn j) Right 0) []
        (inner_along fl s (j + 1) true e s.block.results refl s.block.inputs (well e)
        ∙ (λ i. none fl s (j + 1) true (next_wires 1 s.block.inputs) (nexts_none fl s (j + 1) true 1 s.block.inputs (λ m c q. sides_differ (j + 1) m (sym q))) i
        ++ last_here j 0 s.block.inputs (omega arith) (omega (arith, l)) i))

  both_are : (t u : Bool) → (t && u) ≡ true → (t ≡ true) × (u ≡ true)
  both_are true true h = (refl, refl)
  both_are true false h = absurd (cc)
  both_are false u h = absurd (cc)

  pub turns_on : TurnsWell s → (w : Wiring) → (h : IsWritten fl s w) → TurnsOn fl s w
  turns_on well w h j there =
      let a = both_are s.turns (nat_lt 0 (j + 1) && nat_lt (j + 1) (s.block.inputs + 1)) there in
      let c = both_are (nat_lt 0 (j + 1)) (nat_lt (j + 1) (s.block.inputs + 1)) a.1 in
      let d = ltb-true (j + 1) (s.block.inputs + 1) c.1 in
      let l : j < s.block.inputs = omega (arith, d) in
      (h.wire (side (TurnValue (j + 1)) false) there ∙ next_along well a.0 j l, h.wire (side (TurnValue (j + 1)) true) there ∙ last_along well a.0 j l)
