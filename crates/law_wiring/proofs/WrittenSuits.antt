-- The word that goes along a wire is of the kind that its inlet takes.
use Rattle.std.proofs.Common.{◌≡◌, ℕ, zero, suc, ◌+◌, ◌-◌, ◌<◌, ◌≤◌, ◌⊎◌, inl, inr, Bool, true, false, List, [], ◌∷◌, ◌++◌, length, refl, sym, ap, ◌∙◌, arith}
use Rattle.std.proofs.Common.{Some}
use Rattle.std.specs.Prelude.{slice_get}
use Rattle.tags.specs.declared.token.Port.TheVariants.{Left, Right}
use Rattle.semantics.specs.declared.graph.Region.{Region}
use Rattle.semantics.specs.declared.graph.Region.TheVariants.{Root, Arm}
use Rattle.semantics.specs.declared.graph.Source.{Source}
use Rattle.semantics.specs.declared.graph.Kind.{Kind}
use Rattle.semantics.specs.declared.graph.Kind.TheVariants.{Lit, Apply1, Apply2, Cond, Enter, Merge, Fetch, Store, Call, StrictCall, Loop}
use Rattle.semantics.specs.Graph.{Node, Flow, node_at, node_count}
use Rattle.schemas.specs.Builds.{first_source}
use Rattle.schemas.specs.Scopes.{predicate_of}
use Rattle.law_net.specs.ContextsParts as Parts
use Rattle.law_net.specs.ContextsParts.{Part, Entry, Line, Answer, Gate, Opener, Framer, Fanned, Linker, Sender, Landing, CallDone, Giver, Taker, Drainer}
use Rattle.law_net.specs.ContextsParts.{LoopDone, Strict, Result, TurnCont, TurnFlag, TurnValue, Asker, NextFramer, NextFanned, NextSender, LastReturn}
use Rattle.law_net.specs.ContextsParts.{DrainReturn, Join, CondEnd}
use Rattle.law_net.specs.ContextsBlocks.{Side, side, Site, leaves_in, outputs_in}
use Rattle.law_net.specs.ContextsWires.{AValue, Suits, is_frame, arrives_at, goes_from}
use Rattle.law_net.specs.ContextsExpanded.{row, invoked, turn_parts}
use Rattle.law_wiring.specs.Written as Written
use Rattle.law_wiring.specs.Written.{Wire, wire, is_shared, is_triggered, leaves, trigger_side, operand_wires, merge_wires, meet_wires, trigger_wires}
use Rattle.law_wiring.specs.Written.{gate_wires, answer_wires, sender_wires, invoke_wires, strict_wires, strict_end, strict_call_wires, kind_wires, node_wires}
use Rattle.law_wiring.specs.Written.{result_wires, value_wires, next_wires, last_wires, turn_wires, tail_wires, inner_wires, answer_parts, trigger_parts}
use Rattle.law_wiring.specs.Written.{kind_parts, node_parts, tail_parts, inner_parts, sides_of, sides, is_open, open_of, first_ends, in_region, chain_wires}
use Rattle.law_wiring.specs.Written.{chain_end, joined_wires, signal_wires, cond_sides, Ended, arm_ends, close, close_kind, close_nodes, close_flag, inner}
use Rattle.law_wiring.specs.Written.{root_ends, wires_in}
use Rattle.law_wiring.specs.WrittenFit.{Takes, IsFit}
use Rattle.law_wiring.proofs.PartsCounts.{Follow, follow_more, follow_here}
use Rattle.law_wiring.proofs.WrittenMembers.{AllW, all_both, AllS, sides_both, parts_both, all_of, all_in, In, open_is, region_from, region, Used, used_left}
use Rattle.law_wiring.proofs.WrittenMembers.{used_right, used_later, used_here}
use Rattle.law_wiring.proofs.Parts.{follow}
use Rattle.law_wiring.proofs.WrittenNodes.{leaves_value}
use Rattle.law_wiring.proofs.WrittenSides.{row_sides}
use Rattle.law_wiring.proofs.FedEnds.{TurnsWell}
use Rattle.law_wiring.proofs.FedFrom.{region_kept}

abbrev pub AreSuited : Wire → Type 0
AreSuited v = Suits (arrives_at v.part v.port) (goes_from v.from.part)

-- what leaves there is no frame
abbrev NoFrame : Side → Type 0
NoFrame t = is_frame (goes_from t.part) ≡ false

trigger_no_frame : (r : Region) → NoFrame (trigger_side r)
trigger_no_frame Root = refl
trigger_no_frame (Arm k t) = refl

module _ (s : Site) where
  -- NODES
  operands_suit : (n from : ℕ) (xs : List Source) → AllW AreSuited (operand_wires s (Line n) from xs)
  operands_suit n from [] = tt
  operands_suit n from (x ∷ xs) = (sym (leaves_value s x.node x.port), operands_suit n (from + 1) xs)

  copies_suit : (n : ℕ) (t : Bool) → AllW AreSuited (answer_wires n t)
  copies_suit n true = (refl, tt)
  copies_suit n false = tt

  merges_suit : (n : ℕ) (xs : List Source) → AllW AreSuited (merge_wires s (Parts.Merge n) xs)
  merges_suit n [] = tt
  merges_suit n (x ∷ xs) = (sym (leaves_value s x.node x.port), merges_suit n xs)

  gates_suit : (n : ℕ) (g : Region) (xs : List Source) → AllW AreSuited (gate_wires s n g xs)
  gates_suit n Root xs = tt
  gates_suit n (Arm k t) xs = (
    sym (leaves_value s (first_source xs).node (first_source xs).port),
    (sym (leaves_value s (predicate_of s.block k).node (predicate_of s.block k).port), tt),
  )

  triggers_suit : (n : ℕ) (t : Bool) (x : Source) → AllW AreSuited (trigger_wires s n t x)
  triggers_suit n true x = (sym (leaves_value s x.node x.port), (sym (leaves_value s x.node x.port), tt))
  triggers_suit n false x = tt

  senders_suit : (n from : ℕ) (xs : List Source) → AllW AreSuited (sender_wires s n from xs)
  senders_suit n from [] = tt
  senders_suit n from (x ∷ xs) = (refl, (sym (leaves_value s x.node x.port), senders_suit n (from + 1) xs))

  leaves_no_frame : (x : Source) → NoFrame (leaves s x)
  leaves_no_frame x = ap is_frame (leaves_value s x.node x.port)

  invoke_suit : (n : ℕ) (t : Side) (xs : List Source) → NoFrame t → AllW AreSuited (invoke_wires s n t xs)
  invoke_suit n t xs e = (e, (refl, senders_suit n 0 xs))

  strict_suit : (n from : ℕ) (t : Side) (xs : List Source) → NoFrame t → AllW AreSuited (strict_wires s n from t xs) × NoFrame (strict_end n from t xs)
  strict_suit n from t [] e = (tt, e)
  strict_suit n from t (x ∷ xs) e = let rest = strict_suit n (from + 1) (side (Strict n from) false) xs refl in ((e, (leaves_no_frame x, rest.0)), rest.1)

  strict_call_suit : (n : ℕ) (xs : List Source) → AllW AreSuited (strict_call_wires s n xs)
  strict_call_suit n [] = tt
  strict_call_suit n (x ∷ xs) =
      let chain = strict_suit n 1 (leaves s x) xs (leaves_no_frame x) in
      all_both AreSuited (strict_wires s n 1 (leaves s x) xs) (invoke_wires s n (strict_end n 1 (leaves s x) xs) (x ∷ xs)) chain.0
      (invoke_suit n (strict_end n 1 (leaves s x) xs) (x ∷ xs) chain.1)

  kind_suit : (n : ℕ) (g : Region) (k : Kind ℕ) (xs : List Source) → AllW AreSuited (kind_wires s n g k xs)
  kind_suit n g Cond xs = triggers_suit n (is_triggered s.block n) (first_source xs)
  kind_suit n g Enter xs = gates_suit n g xs
  kind_suit n g (Merge c) xs = merges_suit n xs
  kind_suit n g (Lit z) xs = operands_suit n 0 xs
  kind_suit n g (Apply1 op) xs = operands_suit n 0 xs
  kind_suit n g (Apply2 op) xs = operands_suit n 0 xs
  kind_suit n g (Fetch a) xs =
      all_both AreSuited (operand_wires s (Line n) 0 xs) (answer_wires n (is_shared s n)) (operands_suit n 0 xs) (copies_suit n (is_shared s n))
  kind_suit n g (Store a) xs =
      all_both AreSuited (operand_wires s (Line n) 0 xs) (answer_wires n (is_shared s n)) (operands_suit n 0 xs) (copies_suit n (is_shared s n))
  kind_suit n g (Call f) xs = invoke_suit n (trigger_side g) xs (trigger_no_frame g)
  kind_suit n g (StrictCall f) xs = strict_call_suit n xs
  kind_suit n g (Loop f c) xs = (trigger_no_frame g, invoke_suit n (side (Opener n) false) xs refl)

  nodes_suit : (n : ℕ) (xs : List (Node ℕ)) → AllW AreSuited (node_wires s n xs)
  nodes_suit n [] = tt
  nodes_suit n (x ∷ xs) =
      all_both AreSuited (kind_wires s n x.region x.kind x.sources) (node_wires s (n + 1) xs) (kind_suit n x.region x.kind x.sources) (nodes_suit (n + 1) xs)

  results_suit : (from : ℕ) (xs : List Source) → AllW AreSuited (result_wires s from xs)
  results_suit from [] = tt
  results_suit from (x ∷ xs) = (refl, (sym (leaves_value s x.node x.port), results_suit (from + 1) xs))

  -- the turn of a loop
  values_suit : (z : Source) (from : ℕ) (xs : List Source) → AllW AreSuited (value_wires s (leaves s z) from xs)
  values_suit z from [] = tt
  values_suit z from (x ∷ xs) = (sym (leaves_value s x.node x.port), (sym (leaves_value s z.node z.port), values_suit z (from + 1) xs))

  nexts_suit : (from n : ℕ) → 1 ≤ from → AllW AreSuited (next_wires from n)
  nexts_suit from zero l = tt
  nexts_suit zero (suc n) l = absurd (omega (arith, l))
  nexts_suit (suc from) (suc n) l = (refl, (refl, nexts_suit (suc from + 1) n (omega arith)))

  lasts_suit : (from n : ℕ) → AllW AreSuited (last_wires from n)
  lasts_suit from zero = tt
  lasts_suit from (suc n) = (refl, (refl, lasts_suit (from + 1) n))

  tails_suit : (t : Bool) → AllW AreSuited (tail_wires s t)
  tails_suit false = results_suit 0 s.block.results
  tails_suit true = go s.block.results
    where
      go : (xs : List Source) → AllW AreSuited (turn_wires s xs)
      go [] = tt
      go (x ∷ xs) =
          let e = sym (leaves_value s x.node x.port) in
          let drain = meet_wires (side TurnCont true) (side TurnFlag true) DrainReturn in (
            refl,
            (
              e,
              (
                e,
                (
                  e,
                  all_both AreSuited (value_wires s (leaves s x) 1 xs)
                      (meet_wires (side TurnCont false) (side TurnFlag false) Asker
                      ++ (meet_wires (side NextFanned false) (side TurnCont false) (NextSender 0)
                      ++ (next_wires 1 (length xs) ++ (last_wires 0 (length xs) ++ drain))))
                      (values_suit x 1 xs) (
                        refl,
                        (
                          refl,
                          (
                            refl,
                            (
                              refl,
                              all_both AreSuited (next_wires 1 (length xs)) (last_wires 0 (length xs) ++ drain) (nexts_suit 1 (length xs) (omega arith))
                                  (all_both AreSuited (last_wires 0 (length xs)) drain (lasts_suit 0 (length xs)) (refl, (refl, tt))),
                            ),
                          ),
                        ),
                      ),
                ),
              ),
            ),
          )

  inner_suit : AllW AreSuited (inner_wires s)
  inner_suit =
      all_both AreSuited (node_wires s s.block.inputs s.block.nodes) (tail_wires s s.turns) (nodes_suit s.block.inputs s.block.nodes) (tails_suit s.turns)

  -- ENDS. A first side that carries no value is used by the wires of its node or of the turn, or is the entry.
  abbrev Good : List Wire → Side → Type 0
  Good ws t = ((goes_from t.part ≡ AValue) ⊎ (t.part ≡ Entry)) ⊎ Used t ws

  good_left : (xs ys : List Wire) (ts : List Side) → AllS (Good xs) ts → AllS (Good (xs ++ ys)) ts
  good_left xs ys [] h = tt
  good_left xs ys (t ∷ ts) h = (go h.0, good_left xs ys ts h.1)
    where
      go : Good xs t → Good (xs ++ ys) t
      go (inl e) = inl e
      go (inr u) = inr (used_left t xs ys u)

  good_right : (xs ys : List Wire) (ts : List Side) → AllS (Good ys) ts → AllS (Good (xs ++ ys)) ts
  good_right xs ys [] h = tt
  good_right xs ys (t ∷ ts) h = (go h.0, good_right xs ys ts h.1)
    where
      go : Good ys t → Good (xs ++ ys) t
      go (inl e) = inl e
      go (inr u) = inr (used_right t xs ys u)

  module _ (ws : List Wire) where
    value_good : (t : Side) → goes_from t.part ≡ AValue → Good ws t
    value_good t e = inl (inl e)

    answers_good : (n : ℕ) (t : Bool) → AllS (Good ws) (sides (answer_parts n t))
    answers_good n true = (inl (inl refl), tt)
    answers_good n false = tt

    triggers_good : (n : ℕ) (t : Bool) → AllS (Good ws) (sides (trigger_parts n t))
    triggers_good n true = (inl (inl refl), (inl (inl refl), tt))
    triggers_good n false = tt

    invoked_good : (n m results : ℕ) → Used (side (Fanned n) false) ws → AllS (Good ws) (sides (invoked n m results))
    invoked_good n m results u = (
      inr u,
      parts_both (Good ws) (row (Sender n) 0 m) (row (Landing n) 0 results) (row_sides (Good ws) (Sender n) 0 m (λ j. (inl (inl refl), tt)))
          (row_sides (Good ws) (Landing n) 0 results (λ j. (inl (inl refl), tt))),
    )

    call_good : (n m results : ℕ) → Used (side (Fanned n) false) ws → AllS (Good ws) (sides (invoked n m results ++ CallDone n ∷ []))
    call_good n m results u = parts_both (Good ws) (invoked n m results) (CallDone n ∷ []) (invoked_good n m results u) (inl (inl refl), tt)

  fanned_used : (n : ℕ) (t : Side) (xs : List Source) → Used (side (Fanned n) false) (invoke_wires s n t xs)
  fanned_used n t xs =
      used_later (side (Fanned n) false) (wire t (Framer n) Left) (wire (side (Fanned n) false) (Linker n) Left ∷ sender_wires s n 0 xs)
      (used_here (side (Fanned n) false) (side (Fanned n) false) (Linker n) Left (sender_wires s n 0 xs) refl)

  strict_fanned : (n : ℕ) (xs : List Source) → 0 < length xs → Used (side (Fanned n) false) (strict_call_wires s n xs)
  strict_fanned n [] l = absurd (omega (arith, l))
  strict_fanned n (x ∷ xs) l =
      used_right (side (Fanned n) false) (strict_wires s n 1 (leaves s x) xs) (invoke_wires s n (strict_end n 1 (leaves s x) xs) (x ∷ xs))
      (fanned_used n (strict_end n 1 (leaves s x) xs) (x ∷ xs))

module _ (fl : Flow) (s : Site) (fit : IsFit fl s.block) where
  kind_good : (n : ℕ) (x : Node ℕ) → node_at s.block n ≡ Some x
      → AllS (Good s (kind_wires s n x.region x.kind x.sources)) (sides (kind_parts fl s n (length x.sources) x.kind))
  kind_good n x at = go x.kind (fit.nodes n x at).takes
    where
      go : (k : Kind ℕ) → Takes fl k (length x.sources) → AllS (Good s (kind_wires s n x.region k x.sources)) (sides (kind_parts fl s n (length x.sources) k))
      go Cond t = triggers_good s (kind_wires s n x.region Cond x.sources) n (is_triggered s.block n)
      go Enter t = (inl (inl refl), (inl (inl refl), tt))
      go (Merge c) t = (inl (inl refl), tt)
      go (Lit z) t = (inl (inl refl), tt)
      go (Apply1 op) t = (inl (inl refl), tt)
      go (Apply2 op) t = (inl (inl refl), tt)
      go (Fetch a) t = (inl (inl refl), answers_good s (kind_wires s n x.region (Fetch a) x.sources) n (is_shared s n))
      go (Store a) t = (inl (inl refl), answers_good s (kind_wires s n x.region (Store a) x.sources) n (is_shared s n))
      go (Call f) t =
          call_good s (kind_wires s n x.region (Call f) x.sources) n (length x.sources) (outputs_in (slice_get fl.blocks f))
          (fanned_used s n (trigger_side x.region) x.sources)
      go (StrictCall f) t =
          let ws = kind_wires s n x.region (StrictCall f) x.sources in
          parts_both (Good s ws) (row (Strict n) 1 (length x.sources - 1))
          (invoked n (length x.sources) (outputs_in (slice_get fl.blocks f)) ++ CallDone n ∷ [])
          (row_sides (Good s ws) (Strict n) 1 (length x.sources - 1) (λ j. (inl (inl refl), tt)))
          (call_good s ws n (length x.sources) (outputs_in (slice_get fl.blocks f)) (strict_fanned s n x.sources t.some_input))
      go (Loop f c) t =
          let ws = kind_wires s n x.region (Loop f c) x.sources in (
            inl (inl refl),
            parts_both (Good s ws) (invoked n (length x.sources) (length x.sources)) (Giver n ∷ Taker n ∷ Drainer n ∷ LoopDone n ∷ [])
                (invoked_good s ws n (length x.sources) (length x.sources)
                (used_later (side (Fanned n) false) (wire (trigger_side x.region) (Opener n) Left) (invoke_wires s n (side (Opener n) false) x.sources)
                (fanned_used s n (side (Opener n) false) x.sources)))
                (inl (inl refl), tt),
          )

  nodes_good : (n : ℕ) (xs : List (Node ℕ)) → Follow s.block n xs → AllS (Good s (node_wires s n xs)) (sides (node_parts fl s n xs))
  nodes_good n [] f = tt
  nodes_good n (x ∷ xs) f =
      let mine = kind_wires s n x.region x.kind x.sources in
      let rest = node_wires s (n + 1) xs in
      parts_both (Good s (mine ++ rest)) (kind_parts fl s n (length x.sources) x.kind) (node_parts fl s (n + 1) xs)
      (good_left s mine rest (sides (kind_parts fl s n (length x.sources) x.kind)) (kind_good n x (follow_here s.block n x xs f)))
      (good_right s mine rest (sides (node_parts fl s (n + 1) xs)) (nodes_good (n + 1) xs (follow_more s.block n x xs f)))

  tails_good : (t : Bool) → s.turns ≡ t → TurnsWell s → AllS (Good s (tail_wires s t)) (sides (tail_parts s.block t))
  tails_good false e well = row_sides (Good s (tail_wires s false)) Result 0 (length s.block.results) (λ j. (inl (inl refl), tt))
  tails_good true e well = go s.block.results (well e)
    where
      go : (xs : List Source) → length xs ≡ suc s.block.inputs → AllS (Good s (turn_wires s xs)) (sides (turn_parts s.block.inputs))
      go [] l = absurd (omega (arith, l))
      go (x ∷ xs) l =
          let n : ℕ = s.block.inputs in
          let values = value_wires s (leaves s x) 1 xs in
          let nexts = next_wires 1 (length xs) in
          let lasts = last_wires 0 (length xs) in
          let ask = meet_wires (side TurnCont false) (side TurnFlag false) Asker in
          let first = meet_wires (side NextFanned false) (side TurnCont false) (NextSender 0) in
          let drain = meet_wires (side TurnCont true) (side TurnFlag true) DrainReturn in
          let begin = meet_wires (side Entry false) (leaves s x) TurnCont ++ meet_wires (leaves s x) (leaves s x) TurnFlag in
          let all = turn_wires s (x ∷ xs) in
          let down : (t : Side) → Used t (ask ++ (first ++ (nexts ++ (lasts ++ drain))))
          → Used t all =
          λ t u. used_right t begin (values ++ (ask ++ (first ++ (nexts ++ (lasts ++ drain)))))
          (used_right t values (ask ++ (first ++ (nexts ++ (lasts ++ drain)))) u) in
          let cont = down (side TurnCont false)
          (used_here (side TurnCont false) (side TurnCont false) Asker Left
          (wire (side TurnFlag false) Asker Right ∷ (first ++ (nexts ++ (lasts ++ drain)))) refl) in
          let last = down (side TurnCont true)
          (used_right (side TurnCont true) ask (first ++ (nexts ++ (lasts ++ drain))) (used_right (side TurnCont true) first (nexts ++ (lasts ++ drain))
          (used_right (side TurnCont true) nexts (lasts ++ drain)
          (used_right (side TurnCont true) lasts drain
          (used_here (side TurnCont true) (side TurnCont true) DrainReturn Left (wire (side TurnFlag true) DrainReturn Right ∷ []) refl))))) in
          let fan = down (side NextFanned false)
          (used_right (side NextFanned false) ask (first ++ (nexts ++ (lasts ++ drain)))
          (used_here (side NextFanned false) (side NextFanned false) (NextSender 0) Left
          (wire (side TurnCont false) (NextSender 0) Right ∷ (nexts ++ (lasts ++ drain))) refl)) in (
            inr cont,
            (
              inr last,
              (
                inl (inl refl),
                (
                  inl (inl refl),
                  parts_both (Good s all) (row TurnValue 1 n)
                      (Asker ∷ NextFramer ∷ NextFanned ∷ row NextSender 0 (n + 1) ++ (row LastReturn 0 n ++ DrainReturn ∷ []))
                      (row_sides (Good s all) TurnValue 1 n (λ j. (inl (inl refl), (inl (inl refl), tt)))) (
                        inr fan,
                        parts_both (Good s all) (row NextSender 0 (n + 1)) (row LastReturn 0 n ++ DrainReturn ∷ [])
                            (row_sides (Good s all) NextSender 0 (n + 1) (λ j. (inl (inl refl), tt)))
                            (parts_both (Good s all) (row LastReturn 0 n) (DrainReturn ∷ []) (row_sides (Good s all) LastReturn 0 n (λ j. (inl (inl refl), tt)))
                            (inl (inl refl), tt)),
                      ),
                ),
              ),
            ),
          )

  -- an end carries a value, or is in the root
  abbrev IsEnd : Side → Type 0
  IsEnd t = (goes_from t.part ≡ AValue) ⊎ (t.part ≡ Entry)

  module _ (well : TurnsWell s) where
    inner_good : AllS (Good s (inner_wires s)) (sides (inner_parts fl s))
    inner_good =
        let nodes = node_wires s s.block.inputs s.block.nodes in
        let tail = tail_wires s s.turns in
        parts_both (Good s (nodes ++ tail)) (Entry ∷ row Line 0 s.block.inputs ++ node_parts fl s s.block.inputs s.block.nodes) (tail_parts s.block s.turns) (
          inl (inr refl),
          parts_both (Good s (nodes ++ tail)) (row Line 0 s.block.inputs) (node_parts fl s s.block.inputs s.block.nodes)
              (row_sides (Good s (nodes ++ tail)) Line 0 s.block.inputs (λ j. (inl (inl refl), tt)))
              (good_left s nodes tail (sides (node_parts fl s s.block.inputs s.block.nodes)) (nodes_good s.block.inputs s.block.nodes (follow s.block))),
        )
        (good_right s nodes tail (sides (tail_parts s.block s.turns)) (tails_good s.turns refl well))

    first_ends_end : AllS IsEnd (first_ends fl s)
    first_ends_end =
        all_of IsEnd (first_ends fl s) (λ t i. let o = open_is t (inner_wires s) (sides (inner_parts fl s)) i in
        go t o.1 (all_in (Good s (inner_wires s)) t (sides (inner_parts fl s)) inner_good o.0))
      where
        go : (t : Side) → is_open t (inner_wires s) ≡ true → Good s (inner_wires s) t → IsEnd t
        go t o (inl e) = e
        go t o (inr u) = absurd (cc)

    -- CLOSINGS
    record IsSuited (x : Ended) : Type 0 where
      wires : AllW AreSuited x.wires
      ends : AllS IsEnd x.ends

    end_no_frame : (t : Side) → IsEnd t → NoFrame t
    end_no_frame t (inl e) = ap is_frame e
    end_no_frame t (inr e) = ap (λ r. is_frame (goes_from r)) e

    chain_suit : (r : Region) (n : ℕ) (t : Side) (ts : List Side) → NoFrame t → AllS IsEnd ts
        → AllW AreSuited (chain_wires r n t ts) × NoFrame (chain_end r n t ts)
    chain_suit r n t [] e h = (tt, e)
    chain_suit r n t (u ∷ us) e h = let rest = chain_suit r (n + 1) (side (Join r n) false) us refl h.1 in ((e, (end_no_frame u h.0, rest.0)), rest.1)

    joined_suit : (r : Region) (ts : List Side) → AllS IsEnd ts → AllW AreSuited (joined_wires r ts)
    joined_suit r [] h = tt
    joined_suit r (t ∷ ts) h = (chain_suit r 0 t ts (end_no_frame t h.0) h.1).0

    chain_value : (r : Region) (n : ℕ) (t : Side) (ts : List Side) → goes_from t.part ≡ AValue → goes_from (chain_end r n t ts).part ≡ AValue
    chain_value r n t [] e = e
    chain_value r n t (u ∷ us) e = chain_value r (n + 1) (side (Join r n) false) us refl

    signal_suit : (k : ℕ) (r : Region) (ts : List Side) → ((t : Side) → In t ts → goes_from t.part ≡ AValue)
        → AllW AreSuited (signal_wires r ts (CondEnd k) Left)
    signal_suit k r [] h = tt
    signal_suit k r (t ∷ ts) h = (sym (chain_value r 0 t ts (h t (inl refl))), tt)

    root_suit : (ts : List Side) → AllS IsEnd ts → AllW AreSuited (signal_wires Root ts Parts.End Right)
    root_suit [] h = tt
    root_suit (t ∷ ts) h = ((chain_suit Root 0 t ts (end_no_frame t h.0) h.1).1, tt)

    arm_values : (k : ℕ) (u : Bool) (x : Ended) → AllS IsEnd x.ends → (t : Side) → In t (arm_ends s.block k u x) → goes_from t.part ≡ AValue
    arm_values k u x h t i = let j = region_from s.block t (Arm k u) x.ends i in go (all_in IsEnd t x.ends h j.0) j.1
      where
        go : IsEnd t → region s.block t ≡ Arm k u → goes_from t.part ≡ AValue
        go (inl e) q = e
        go (inr e) q = let no : Root ≡ Arm k u = sym (ap (λ r. leaves_in s.block r t.second) e) ∙ q in absurd (cc)

    conds_end : (k : ℕ) (us : List Side) → AllS IsEnd (cond_sides k us)
    conds_end k [] = tt
    conds_end k (u ∷ us) = (inl refl, tt)

    close_suit : (k : ℕ) (x : Ended) → IsSuited x → IsSuited (close s.block k x)
    close_suit k x h =
        let ts : List Side = arm_ends s.block k true x in
        let us : List Side = arm_ends s.block k false x in
        let up : List Wire = signal_wires (Arm k true) ts (CondEnd k) Left in
        let down : List Wire = signal_wires (Arm k false) us (CondEnd k) Left in
        record {
          wires = all_both AreSuited x.wires (joined_wires (Arm k true) ts ++ (joined_wires (Arm k false) us ++ (up ++ down))) h.wires
              (all_both AreSuited (joined_wires (Arm k true) ts) (joined_wires (Arm k false) us ++ (up ++ down))
              (joined_suit (Arm k true) ts (region_kept IsEnd s.block (Arm k true) x.ends h.ends))
              (all_both AreSuited (joined_wires (Arm k false) us) (up ++ down)
              (joined_suit (Arm k false) us (region_kept IsEnd s.block (Arm k false) x.ends h.ends))
              (all_both AreSuited up down (signal_suit k (Arm k true) ts (arm_values k true x h.ends))
              (signal_suit k (Arm k false) us (arm_values k false x h.ends)))));
          ends = sides_both IsEnd x.ends (cond_sides k (ts ++ us)) h.ends (conds_end k (ts ++ us));
        }

    kind_closes : (n : ℕ) (x : Ended) (k : Kind ℕ) → IsSuited x → IsSuited (close_kind s.block n x k)
    kind_closes n x Cond h = close_suit n x h
    kind_closes n x (Lit z) h = h
    kind_closes n x (Apply1 op) h = h
    kind_closes n x (Apply2 op) h = h
    kind_closes n x Enter h = h
    kind_closes n x (Merge c) h = h
    kind_closes n x (Fetch a) h = h
    kind_closes n x (Store a) h = h
    kind_closes n x (Call f) h = h
    kind_closes n x (StrictCall f) h = h
    kind_closes n x (Loop f c) h = h

    nodes_close : (n : ℕ) (xs : List (Node ℕ)) (x : Ended) → IsSuited x → IsSuited (close_nodes s.block n xs x)
    nodes_close n [] x h = h
    nodes_close n (y ∷ xs) x h = kind_closes n (close_nodes s.block (n + 1) xs x) y.kind (nodes_close (n + 1) xs x h)

    flag_suit : (t : Bool) (x : Ended) → IsSuited x → IsSuited (close_flag s.block t x)
    flag_suit false x h = h
    flag_suit true x h = close_suit (node_count s.block) x h

    pub all_suit : AllW AreSuited (wires_in fl s)
    all_suit =
        let inside : IsSuited (inner fl s) = record { wires = inner_suit s; ends = first_ends_end } in
        let all = nodes_close s.block.inputs s.block.nodes (close_flag s.block s.turns (inner fl s)) (flag_suit s.turns (inner fl s) inside) in
        let roots = region_kept IsEnd s.block Root (Written.closed fl s).ends all.ends in
        let end = wire (side Entry false) Parts.End Left ∷ signal_wires Root (root_ends fl s) Parts.End Right in
        all_both AreSuited (Written.closed fl s).wires (joined_wires Root (root_ends fl s) ++ end) all.wires
        (all_both AreSuited (joined_wires Root (root_ends fl s)) end (joined_suit Root (root_ends fl s) roots) (refl, root_suit (root_ends fl s) roots))
