-- Wires that leave from other sides than one, which is that of a line or of a turn's value. After the ends no wire leaves from it, where one leaves before.
use Rattle.std.proofs.Common.{◌≡◌, ◌≢◌, ℕ, ◌+◌, Bool, true, false, List, [], ◌∷◌, ◌++◌, refl, sym, ap, ◌∙◌, append-nil, if◌then◌else◌}
use Rattle.tags.specs.declared.token.Port.TheVariants.{Left, Right}
use Rattle.semantics.specs.declared.graph.Region.{Region}
use Rattle.semantics.specs.declared.graph.Region.TheVariants.{Root, Arm}
use Rattle.semantics.specs.declared.graph.Source.{Source}
use Rattle.semantics.specs.declared.graph.Kind.{Kind}
use Rattle.semantics.specs.declared.graph.Kind.TheVariants.{Lit, Apply1, Apply2, Cond, Enter, Merge, Fetch, Store, Call, StrictCall, Loop}
use Rattle.semantics.specs.Graph.{Node, Block, Flow, node_count}
use Rattle.schemas.specs.Ends.{same_region}
use Rattle.law_net.specs.ContextsParts as Parts
use Rattle.law_net.specs.ContextsParts.{Part, Entry, Line, Answer, Opener, Fanned, Strict, Trigger, TurnCont, TurnFlag, TurnValue, NextFanned, Join, CondEnd}
use Rattle.law_net.specs.ContextsParts.{Inlet, inlet}
use Rattle.law_net.specs.ContextsBlocks.{Side, side, Site, leaves_in}
use Rattle.law_wiring.specs.Written as Written
use Rattle.law_wiring.specs.Written.{Wire, wire, is_shared, is_triggered, answer_wires, along, inlet_of, same_side, leaves_at, leaves, trigger_side}
use Rattle.law_wiring.specs.Written.{operand_wires, merge_wires, meet_wires, trigger_wires, gate_wires, sender_wires, invoke_wires, strict_wires, strict_end}
use Rattle.law_wiring.specs.Written.{strict_call_wires, kind_wires, node_wires, result_wires, value_wires, next_wires, last_wires, turn_wires, tail_wires}
use Rattle.law_wiring.specs.Written.{inner_wires, inner_parts, sides, open_of, is_open, in_region, chain_wires, chain_end, joined_wires, signal_wires}
use Rattle.law_wiring.specs.Written.{cond_sides, Ended, arm_ends, close, close_kind, close_nodes, close_flag, inner, root_ends, wires_in}
use Rattle.law_wiring.proofs.PartsSame.{side_is}
use Rattle.law_wiring.proofs.WrittenMembers.{AllW, all_both, AllS, sides_both}
use Rattle.law_wiring.proofs.Uses.{along_both}

-- what is open is no side from which a wire leaves
open_apart : (t : Side) (ws : List Wire) (ts : List Side) → is_open t ws ≡ false → AllS (λ u. u ≢ t) (open_of ws ts)
open_apart t ws [] h = tt
open_apart t ws (u ∷ ts) h = go (is_open u ws) refl (open_apart t ws ts h)
  where
    go : (q : Bool) → is_open u ws ≡ q → AllS (λ u. u ≢ t) (open_of ws ts) → AllS (λ u. u ≢ t) (if q then u ∷ open_of ws ts else open_of ws ts)
    go true e k = (λ q. let z = ap (λ x. is_open x ws) q in absurd (cc), k)
    go false e k = k

-- a side along which something leads is not open
along_open : (b : Block ℕ) (t : Side) (ws : List Wire) (x : Inlet) (xs : List Inlet) → along b t ws ≡ x ∷ xs → is_open t ws ≡ false
along_open b t [] x xs e = absurd (cc)
along_open b t (w ∷ ws) x xs e = go (same_side t w.from) e (along_open b t ws x xs)
  where
    go : (q : Bool) → (if q then inlet_of b w ∷ along b t ws else along b t ws) ≡ x ∷ xs → (along b t ws ≡ x ∷ xs → is_open t ws ≡ false)
        → (if q then false else is_open t ws) ≡ false
    go true e more = refl
    go false e more = more e

-- the parts that are meant
abbrev pub is_alone : Part → Bool
is_alone (Line n) = true
is_alone (TurnValue j) = true
is_alone r = false

module _ (fl : Flow) (s : Site) (t : Side) (alone : is_alone t.part ≡ true) (value : (x : Source) → leaves s x ≢ t) where
  abbrev pub Other : Side → Type 0
  Other u = u ≢ t

  -- wires from other sides
  abbrev pub FromOther : Wire → Type 0
  FromOther w = Other w.from

  abbrev pub Others : List Wire → Type 0
  Others ws = AllW FromOther ws

  pub none_along : (ws : List Wire) → Others ws → along s.block t ws ≡ []
  none_along [] h = refl
  none_along (w ∷ ws) h = go (same_side t w.from) refl (none_along ws h.1)
    where
      go : (q : Bool) → same_side t w.from ≡ q → along s.block t ws ≡ [] → (if q then inlet_of s.block w ∷ along s.block t ws else along s.block t ws) ≡ []
      go true e k = absurd (h.0 (sym (side_is t w.from e)))
      go false e k = k

  -- a side of any other part
  pub else_part : (u : Side) → is_alone u.part ≡ false → Other u
  else_part u h e = let z = sym h ∙ ap (λ (v : Side). is_alone v.part) e ∙ alone in absurd (cc)

  -- NODES
  operands_other : (r : Part) (from : ℕ) (xs : List Source) → Others (operand_wires s r from xs)
  operands_other r from [] = tt
  operands_other r from (x ∷ xs) = (value x, operands_other r (from + 1) xs)

  merges_other : (r : Part) (xs : List Source) → Others (merge_wires s r xs)
  merges_other r [] = tt
  merges_other r (x ∷ xs) = (value x, merges_other r xs)

  gates_other : (m : ℕ) (g : Region) (xs : List Source) → Others (gate_wires s m g xs)
  gates_other m Root xs = tt
  gates_other m (Arm k u) xs = (value _, (value _, tt))

  copies_other : (m : ℕ) (u : Bool) → Other (side (Line m) false) → Others (answer_wires m u)
  copies_other m true h = (h, tt)
  copies_other m false h = tt

  triggers_other : (m : ℕ) (u : Bool) (x : Source) → Others (trigger_wires s m u x)
  triggers_other m true x = (value x, (value x, tt))
  triggers_other m false x = tt

  trigger_other : (g : Region) → Other (trigger_side g)
  trigger_other Root = else_part (side Entry false) refl
  trigger_other (Arm k true) = else_part (side (Trigger k) false) refl
  trigger_other (Arm k false) = else_part (side (Trigger k) true) refl

  senders_other : (m from : ℕ) (xs : List Source) → Others (sender_wires s m from xs)
  senders_other m from [] = tt
  senders_other m from (x ∷ xs) = (else_part (side (Fanned m) false) refl, (value x, senders_other m (from + 1) xs))

  invoke_other : (m : ℕ) (u : Side) (xs : List Source) → Other u → Others (invoke_wires s m u xs)
  invoke_other m u xs h = (h, (else_part (side (Fanned m) false) refl, senders_other m 0 xs))

  strict_other : (m from : ℕ) (u : Side) (xs : List Source) → Other u → Others (strict_wires s m from u xs) × Other (strict_end m from u xs)
  strict_other m from u [] h = (tt, h)
  strict_other m from u (x ∷ xs) h =
      let rest = strict_other m (from + 1) (side (Strict m from) false) xs (else_part (side (Strict m from) false) refl) in ((h, (value x, rest.0)), rest.1)

  strict_call_other : (m : ℕ) (xs : List Source) → Others (strict_call_wires s m xs)
  strict_call_other m [] = tt
  strict_call_other m (x ∷ xs) =
      let chain = strict_other m 1 (leaves s x) xs (value x) in
      all_both FromOther (strict_wires s m 1 (leaves s x) xs) (invoke_wires s m (strict_end m 1 (leaves s x) xs) (x ∷ xs)) chain.0
      (invoke_other m (strict_end m 1 (leaves s x) xs) (x ∷ xs) chain.1)

  -- one row for each kind of node
  pub kind_other : (m : ℕ) (g : Region) (k : Kind ℕ) (xs : List Source) → Other (side (Line m) false) → Others (kind_wires s m g k xs)
  kind_other m g Cond xs ne = triggers_other m (is_triggered s.block m) _
  kind_other m g Enter xs ne = gates_other m g xs
  kind_other m g (Merge c) xs ne = merges_other (Parts.Merge m) xs
  kind_other m g (Lit z) xs ne = operands_other (Line m) 0 xs
  kind_other m g (Apply1 op) xs ne = operands_other (Line m) 0 xs
  kind_other m g (Apply2 op) xs ne = operands_other (Line m) 0 xs
  kind_other m g (Fetch a) xs ne =
      all_both FromOther (operand_wires s (Line m) 0 xs) (answer_wires m (is_shared s m)) (operands_other (Line m) 0 xs) (copies_other m (is_shared s m) ne)
  kind_other m g (Store a) xs ne =
      all_both FromOther (operand_wires s (Line m) 0 xs) (answer_wires m (is_shared s m)) (operands_other (Line m) 0 xs) (copies_other m (is_shared s m) ne)
  kind_other m g (Call f) xs ne = invoke_other m (trigger_side g) xs (trigger_other g)
  kind_other m g (StrictCall f) xs ne = strict_call_other m xs
  kind_other m g (Loop f c) xs ne = (trigger_other g, invoke_other m (side (Opener m) false) xs (else_part (side (Opener m) false) refl))

  -- RESULTS, and the turn of a loop
  pub results_other : (from : ℕ) (xs : List Source) → Others (result_wires s from xs)
  results_other from [] = tt
  results_other from (x ∷ xs) = (else_part (side Entry false) refl, (value x, results_other (from + 1) xs))

  pub values_other : (x : Source) (from : ℕ) (xs : List Source) → Others (value_wires s (leaves s x) from xs)
  values_other x from [] = tt
  values_other x from (z ∷ xs) = (value z, (value x, values_other x (from + 1) xs))

  -- CLOSINGS
  region_other : (r : Region) (us : List Side) → AllS Other us → AllS Other (in_region s.block r us)
  region_other r [] h = tt
  region_other r (u ∷ us) h = go (same_region (leaves_in s.block u.part u.second) r) (region_other r us h.1)
    where
      go : (q : Bool) → AllS Other (in_region s.block r us) → AllS Other (if q then u ∷ in_region s.block r us else in_region s.block r us)
      go true k = (h.0, k)
      go false k = k

  chain_other : (r : Region) (m : ℕ) (u : Side) (us : List Side) → Other u → AllS Other us → Others (chain_wires r m u us) × Other (chain_end r m u us)
  chain_other r m u [] h k = (tt, h)
  chain_other r m u (x ∷ xs) h k =
      let rest = chain_other r (m + 1) (side (Join r m) false) xs (else_part (side (Join r m) false) refl) k.1 in ((h, (k.0, rest.0)), rest.1)

  joined_other : (r : Region) (us : List Side) → AllS Other us → Others (joined_wires r us)
  joined_other r [] h = tt
  joined_other r (u ∷ us) h = (chain_other r 0 u us h.0 h.1).0

  signal_other : (r : Region) (us : List Side) (part : Part) → AllS Other us → Others (signal_wires r us part Left)
  signal_other r [] part h = tt
  signal_other r (u ∷ us) part h = ((chain_other r 0 u us h.0 h.1).1, tt)

  end_other : (us : List Side) → AllS Other us → Others (signal_wires Root us Parts.End Right)
  end_other [] h = tt
  end_other (u ∷ us) h = ((chain_other Root 0 u us h.0 h.1).1, tt)

  module _ (y : Inlet) (ys : List Inlet) where
    record Kept (x : Ended) : Type 0 where
      pub wires : along s.block t x.wires ≡ y ∷ ys
      pub ends : AllS Other x.ends

    more_wires : (ws us : List Wire) → along s.block t ws ≡ y ∷ ys → Others us → along s.block t (ws ++ us) ≡ y ∷ ys
    more_wires ws us h o = along_both s.block t ws us ∙ (λ i. h i ++ none_along us o i) ∙ append-nil (y ∷ ys)

    close_kept : (k : ℕ) (x : Ended) → Kept x → Kept (close s.block k x)
    close_kept k x h =
        let ts : List Side = arm_ends s.block k true x in
        let us : List Side = arm_ends s.block k false x in
        let a = region_other (Arm k true) x.ends h.ends in
        let c = region_other (Arm k false) x.ends h.ends in
        let up : List Wire = signal_wires (Arm k true) ts (CondEnd k) Left in
        let down : List Wire = signal_wires (Arm k false) us (CondEnd k) Left in
        record {
          wires = more_wires x.wires (joined_wires (Arm k true) ts ++ (joined_wires (Arm k false) us ++ (up ++ down))) h.wires
              (all_both FromOther (joined_wires (Arm k true) ts) (joined_wires (Arm k false) us ++ (up ++ down)) (joined_other (Arm k true) ts a)
              (all_both FromOther (joined_wires (Arm k false) us) (up ++ down) (joined_other (Arm k false) us c)
              (all_both FromOther up down (signal_other (Arm k true) ts (CondEnd k) a) (signal_other (Arm k false) us (CondEnd k) c))));
          ends = sides_both Other x.ends (cond_sides k (ts ++ us)) h.ends (new (ts ++ us));
        }
      where
        new : (vs : List Side) → AllS Other (cond_sides k vs)
        new [] = tt
        new (v ∷ vs) = (else_part (side (CondEnd k) false) refl, tt)

    kind_kept : (m : ℕ) (x : Ended) (k : Kind ℕ) → Kept x → Kept (close_kind s.block m x k)
    kind_kept m x Cond h = close_kept m x h
    kind_kept m x k h = h

    nodes_kept : (m : ℕ) (xs : List (Node ℕ)) (x : Ended) → Kept x → Kept (close_nodes s.block m xs x)
    nodes_kept m [] x h = h
    nodes_kept m (y ∷ xs) x h = kind_kept m (close_nodes s.block (m + 1) xs x) y.kind (nodes_kept (m + 1) xs x h)

    flag_kept : (u : Bool) (x : Ended) → Kept x → Kept (close_flag s.block u x)
    flag_kept true x h = close_kept (node_count s.block) x h
    flag_kept false x h = h

    -- what leads on before the ends is all
    pub behind : along s.block t (inner_wires s) ≡ y ∷ ys → along s.block t (wires_in fl s) ≡ y ∷ ys
    behind h =
        let first : Kept (inner fl s) =
        record { wires = h; ends = open_apart t (inner_wires s) (sides (inner_parts fl s)) (along_open s.block t (inner_wires s) y ys h) } in
        let all = nodes_kept s.block.inputs s.block.nodes (close_flag s.block s.turns (inner fl s)) (flag_kept s.turns (inner fl s) first) in
        let ts : List Side = root_ends fl s in
        let a = region_other Root (Written.closed fl s).ends all.ends in
        let last : List Wire = wire (side Entry false) Parts.End Left ∷ signal_wires Root ts Parts.End Right in
        more_wires (Written.closed fl s).wires (joined_wires Root ts ++ last) all.wires
        (all_both FromOther (joined_wires Root ts) last (joined_other Root ts a) (else_part (side Entry false) refl, end_other ts a))
