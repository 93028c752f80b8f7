-- The arcs of a block are its wires, except where the machine answers.
use Rattle.std.proofs.Common.{◌≡◌, ℕ, ◌+◌, Bool, true, false, List, [], ◌∷◌, ◌++◌, length, refl, sym, ap, ◌∙◌, append-nil, append_assoc, if◌then◌else◌}
use Rattle.tags.specs.declared.token.Port.TheVariants.{Left, Right}
use Rattle.semantics.specs.declared.graph.Region.{Region}
use Rattle.semantics.specs.declared.graph.Region.TheVariants.{Root, Arm}
use Rattle.semantics.specs.declared.graph.Source.{Source}
use Rattle.semantics.specs.declared.graph.Kind.{Kind}
use Rattle.semantics.specs.declared.graph.Kind.TheVariants.{Lit, Apply1, Apply2, Cond, Enter, Merge, Fetch, Store, Call, StrictCall, Loop}
use Rattle.semantics.specs.Graph.{Node, Block, Flow, node_count}
use Rattle.schemas.specs.Ends.{is_empty}
use Rattle.law_net.specs.ContextsParts as Parts
use Rattle.law_net.specs.ContextsParts.{Part, Entry, Opener, Framer, Fanned, Linker, Landing, Giver, Drainer, LoopDone, TurnCont, TurnFlag, Asker, NextFramer}
use Rattle.law_net.specs.ContextsParts.{NextFanned, NextSender, DrainReturn, Inlet}
use Rattle.law_net.specs.ContextsBlocks.{Side, side, Site, is_switch}
use Rattle.law_net.specs.ContextsWires.{has_no_wire}
use Rattle.law_wiring.specs.Written as Written
use Rattle.law_wiring.specs.Written.{Wire, wire, same_side, is_open, open_of, sides, sides_of, leaves, trigger_side, meet_wires, sender_wires, strict_wires}
use Rattle.law_wiring.specs.Written.{strict_end, strict_call_wires, invoke_wires, kind_wires, node_wires, value_wires, next_wires, last_wires, turn_wires}
use Rattle.law_wiring.specs.Written.{tail_wires, inner_wires, joined_parts, Ended, close, close_kind, close_flag, close_nodes, first_ends, parts_in, wires_in}
use Rattle.law_wiring.proofs.PartsSame.{side_is}
use Rattle.law_wiring.proofs.Laid.{Env, goes, dest}
use Rattle.law_wiring.proofs.LaidArcs.{invoke_arcs, strict_call_arcs, credit_arcs, kind_arcs, node_arcs, turn_arcs, tail_arcs, inner_arcs, inner_with}
use Rattle.law_wiring.proofs.LaidArcs.{closed_with, root_with, wires_with, arcs_in}

module _ (e : Env) where
  -- the same wires leave each side, except where the machine answers
  abbrev pub Agree : List Wire → List Wire → Type 0
  Agree vs ws = (t : Side) → has_no_wire t.part ≡ false → goes e t vs ≡ goes e t ws

  pub goes_both : (t : Side) (xs ys : List Wire) → goes e t (xs ++ ys) ≡ goes e t xs ++ goes e t ys
  goes_both t [] ys = refl
  goes_both t (x ∷ xs) ys = go (same_side t x.from) (goes_both t xs ys)
    where
      go : (s : Bool) → goes e t (xs ++ ys) ≡ goes e t xs ++ goes e t ys
          → (if s then dest e x ∷ goes e t (xs ++ ys) else goes e t (xs ++ ys)) ≡ (if s then dest e x ∷ goes e t xs else goes e t xs) ++ goes e t ys
      go true h = ap (λ ds. dest e x ∷ ds) h
      go false h = h

  pub agree_self : (ws : List Wire) → Agree ws ws
  agree_self ws t h = refl

  pub agree_both : (vs ws cs us : List Wire) → Agree vs ws → Agree cs us → Agree (vs ++ cs) (ws ++ us)
  agree_both vs ws cs us h k t n = let a = h t n in let c = k t n in goes_both t vs cs ∙ (λ i. a i ++ c i) ∙ sym (goes_both t ws us)

  agree_more : (w : Wire) (vs ws : List Wire) → Agree vs ws → Agree (w ∷ vs) (w ∷ ws)
  agree_more w vs ws h t n = ap (λ ds. if same_side t w.from then dest e w ∷ ds else ds) (h t n)

  agree_extra : (w : Wire) (vs ws : List Wire) → has_no_wire w.from.part ≡ true → Agree vs ws → Agree (w ∷ vs) ws
  agree_extra w vs ws x h t n = go (same_side t w.from) refl (h t n)
    where
      go : (s : Bool) → same_side t w.from ≡ s → goes e t vs ≡ goes e t ws → (if s then dest e w ∷ goes e t vs else goes e t vs) ≡ goes e t ws
      go false f k = k
      go true f k = let same : has_no_wire t.part ≡ has_no_wire w.from.part = ap (λ (u : Side). has_no_wire u.part) (side_is t w.from f) in absurd (cc)

  module _ (s : Site) where
    invokes_agree : (n : ℕ) (t : Side) (xs : List Source) → Agree (invoke_arcs s n t xs) (invoke_wires s n t xs)
    invokes_agree n t xs u h =
        agree_more (wire t (Framer n) Left) (wire (side (Framer n) false) (Fanned n) Left ∷ rest)
        (wire (side (Fanned n) false) (Linker n) Left ∷ sender_wires s n 0 xs)
        (agree_extra (wire (side (Framer n) false) (Fanned n) Left) rest (wire (side (Fanned n) false) (Linker n) Left ∷ sender_wires s n 0 xs) refl
        (agree_more (wire (side (Fanned n) false) (Linker n) Left) (sender_wires s n 0 xs ++ link ∷ []) (sender_wires s n 0 xs) last)) u h
      where
        link : Wire
        link = wire (side (Linker n) false) (Landing n 0) Left

        rest : List Wire
        rest = wire (side (Fanned n) false) (Linker n) Left ∷ (sender_wires s n 0 xs ++ link ∷ [])

        last : Agree (sender_wires s n 0 xs ++ link ∷ []) (sender_wires s n 0 xs)
        last v k =
            agree_both (sender_wires s n 0 xs) (sender_wires s n 0 xs) (link ∷ []) [] (agree_self (sender_wires s n 0 xs))
            (agree_extra link [] [] refl (agree_self [])) v k
            ∙ ap (goes e v) (append-nil (sender_wires s n 0 xs))

    stricts_agree : (n : ℕ) (xs : List Source) → Agree (strict_call_arcs s n xs) (strict_call_wires s n xs)
    stricts_agree n [] = agree_self []
    stricts_agree n (x ∷ xs) =
        agree_both (strict_wires s n 1 (leaves s x) xs) (strict_wires s n 1 (leaves s x) xs) (invoke_arcs s n (strict_end n 1 (leaves s x) xs) (x ∷ xs))
        (invoke_wires s n (strict_end n 1 (leaves s x) xs) (x ∷ xs))
        (agree_self (strict_wires s n 1 (leaves s x) xs)) (invokes_agree n (strict_end n 1 (leaves s x) xs) (x ∷ xs))

    loops_agree : (n : ℕ) (t : Side) (xs : List Source)
        → Agree (wire t (Opener n) Left ∷ (invoke_arcs s n (side (Opener n) false) xs ++ credit_arcs n))
        (wire t (Opener n) Left ∷ invoke_wires s n (side (Opener n) false) xs)
    loops_agree n t xs =
        agree_more (wire t (Opener n) Left) (invoke_arcs s n (side (Opener n) false) xs ++ credit_arcs n) (invoke_wires s n (side (Opener n) false) xs) last
      where
        credits : Agree (credit_arcs n) []
        credits =
            agree_extra (wire (side (Giver n) false) (LoopDone n) Left) (wire (side (Drainer n) false) (LoopDone n) Left ∷ []) [] refl
            (agree_extra (wire (side (Drainer n) false) (LoopDone n) Left) [] [] refl (agree_self []))

        last : Agree (invoke_arcs s n (side (Opener n) false) xs ++ credit_arcs n) (invoke_wires s n (side (Opener n) false) xs)
        last v k =
            agree_both (invoke_arcs s n (side (Opener n) false) xs) (invoke_wires s n (side (Opener n) false) xs) (credit_arcs n) []
            (invokes_agree n (side (Opener n) false) xs) credits v k
            ∙ ap (goes e v) (append-nil (invoke_wires s n (side (Opener n) false) xs))

    kinds_agree : (n : ℕ) (r : Region) (k : Kind ℕ) (xs : List Source) → Agree (kind_arcs s n r k xs) (kind_wires s n r k xs)
    kinds_agree n r (Call f) xs = invokes_agree n (trigger_side r) xs
    kinds_agree n r (StrictCall f) xs = stricts_agree n xs
    kinds_agree n r (Loop f k) xs = loops_agree n (trigger_side r) xs
    kinds_agree n r (Lit z) xs = agree_self (kind_wires s n r (Lit z) xs)
    kinds_agree n r (Apply1 op) xs = agree_self (kind_wires s n r (Apply1 op) xs)
    kinds_agree n r (Apply2 op) xs = agree_self (kind_wires s n r (Apply2 op) xs)
    kinds_agree n r Cond xs = agree_self (kind_wires s n r Cond xs)
    kinds_agree n r Enter xs = agree_self (kind_wires s n r Enter xs)
    kinds_agree n r (Merge k) xs = agree_self (kind_wires s n r (Merge k) xs)
    kinds_agree n r (Fetch a) xs = agree_self (kind_wires s n r (Fetch a) xs)
    kinds_agree n r (Store a) xs = agree_self (kind_wires s n r (Store a) xs)

    nodes_agree : (n : ℕ) (xs : List (Node ℕ)) → Agree (node_arcs s n xs) (node_wires s n xs)
    nodes_agree n [] = agree_self []
    nodes_agree n (x ∷ xs) =
        agree_both (kind_arcs s n x.region x.kind x.sources) (kind_wires s n x.region x.kind x.sources) (node_arcs s (n + 1) xs) (node_wires s (n + 1) xs)
        (kinds_agree n x.region x.kind x.sources) (nodes_agree (n + 1) xs)

    turns_agree : (xs : List Source) → Agree (turn_arcs s xs) (turn_wires s xs)
    turns_agree [] = agree_self []
    turns_agree (x ∷ xs) =
        agree_both a1 a1 (a2 ++ (a3 ++ (a4 ++ (two ++ rest)))) (a2 ++ (a3 ++ (a4 ++ rest))) (agree_self a1)
        (agree_both a2 a2 (a3 ++ (a4 ++ (two ++ rest))) (a3 ++ (a4 ++ rest)) (agree_self a2)
        (agree_both a3 a3 (a4 ++ (two ++ rest)) (a4 ++ rest) (agree_self a3)
        (agree_both a4 a4 (two ++ rest) rest (agree_self a4)
        (agree_extra (wire (side Asker false) NextFramer Left) (wire (side NextFramer false) NextFanned Left ∷ rest) rest refl
        (agree_extra (wire (side NextFramer false) NextFanned Left) rest rest refl (agree_self rest))))))
      where
        a1 : List Wire
        a1 = meet_wires (side Entry false) (leaves s x) TurnCont

        a2 : List Wire
        a2 = meet_wires (leaves s x) (leaves s x) TurnFlag

        a3 : List Wire
        a3 = value_wires s (leaves s x) 1 xs

        a4 : List Wire
        a4 = meet_wires (side TurnCont false) (side TurnFlag false) Asker

        two : List Wire
        two = wire (side Asker false) NextFramer Left ∷ wire (side NextFramer false) NextFanned Left ∷ []

        rest : List Wire
        rest =
            meet_wires (side NextFanned false) (side TurnCont false) (NextSender 0)
            ++ (next_wires 1 (length xs) ++ (last_wires 0 (length xs) ++ meet_wires (side TurnCont true) (side TurnFlag true) DrainReturn))

    tails_agree : (t : Bool) → Agree (tail_arcs s t) (tail_wires s t)
    tails_agree false = agree_self (tail_wires s false)
    tails_agree true = turns_agree s.block.results

    pub inners_agree : Agree (inner_arcs s) (inner_wires s)
    inners_agree =
        agree_both (node_arcs s s.block.inputs s.block.nodes) (node_wires s s.block.inputs s.block.nodes) (tail_arcs s s.turns) (tail_wires s s.turns)
        (nodes_agree s.block.inputs s.block.nodes) (tails_agree s.turns)

  -- so the same sides are open
  pub is_open_by : (t : Side) (ws : List Wire) → is_open t ws ≡ is_empty (goes e t ws)
  is_open_by t [] = refl
  is_open_by t (w ∷ ws) = go (same_side t w.from) (is_open_by t ws)
    where
      go : (x : Bool) → is_open t ws ≡ is_empty (goes e t ws)
          → (if x then false else is_open t ws) ≡ is_empty (if x then dest e w ∷ goes e t ws else goes e t ws)
      go true h = refl
      go false h = h

  opens_agree : (vs ws : List Wire) (t : Side) → Agree vs ws → has_no_wire t.part ≡ false → is_open t vs ≡ is_open t ws
  opens_agree vs ws t h n = is_open_by t vs ∙ ap is_empty (h t n) ∙ sym (is_open_by t ws)

  open_one : (vs ws : List Wire) (ts us : List Side) (t : Side) → is_open t vs ≡ is_open t ws → open_of vs ts ≡ open_of ws us
      → open_of vs (t ∷ ts) ≡ open_of ws (t ∷ us)
  open_one vs ws ts us t p q = (λ i. if p i then t ∷ q i else q i)

  pub ends_agree : (vs ws : List Wire) (rs : List Part) → Agree vs ws → open_of vs (sides rs) ≡ open_of ws (sides rs)
  ends_agree vs ws [] h = refl
  ends_agree vs ws (r ∷ rs) h = go (ends_agree vs ws rs h) (has_no_wire r) refl (is_switch r)
    where
      go : open_of vs (sides rs) ≡ open_of ws (sides rs) → (x : Bool) → has_no_wire r ≡ x → (y : Bool)
          → open_of vs ((if x then [] else if y then side r false ∷ side r true ∷ [] else side r false ∷ []) ++ sides rs)
          ≡ open_of ws ((if x then [] else if y then side r false ∷ side r true ∷ [] else side r false ∷ []) ++ sides rs)
      go rest true n y = rest
      go rest false n true =
          open_one vs ws (side r true ∷ sides rs) (side r true ∷ sides rs) (side r false) (opens_agree vs ws (side r false) h n)
          (open_one vs ws (sides rs) (sides rs) (side r true) (opens_agree vs ws (side r true) h n) rest)
      go rest false n false = open_one vs ws (sides rs) (sides rs) (side r false) (opens_agree vs ws (side r false) h n) rest

-- CLOSINGS add wires after those that there are, whichever these are.
abbrev swapped : Ended → List Wire → Ended
swapped x ws = record { parts = x.parts; wires = ws ++ x.wires; ends = x.ends }

module _ (b : Block ℕ) where
  close_swapped : (k : ℕ) (x : Ended) (ws : List Wire) → close b k (swapped x ws) ≡ swapped (close b k x) ws
  close_swapped k x ws =
      (λ i. record {
        parts = (close b k x).parts;
        wires = append_assoc ws x.wires more i;
        ends = (close b k x).ends;
      })
    where
      more : List Wire
      more =
          Written.joined_wires (Arm k true) (Written.arm_ends b k true x) ++ (Written.joined_wires (Arm k false) (Written.arm_ends b k false x)
          ++ (Written.signal_wires (Arm k true) (Written.arm_ends b k true x) (Parts.CondEnd k) Left
          ++ Written.signal_wires (Arm k false) (Written.arm_ends b k false x) (Parts.CondEnd k) Left))

  kind_swapped : (n : ℕ) (x : Ended) (ws : List Wire) (k : Kind ℕ) → close_kind b n (swapped x ws) k ≡ swapped (close_kind b n x k) ws
  kind_swapped n x ws Cond = close_swapped n x ws
  kind_swapped n x ws k = refl

  nodes_swapped : (n : ℕ) (xs : List (Node ℕ)) (x : Ended) (ws : List Wire) → close_nodes b n xs (swapped x ws) ≡ swapped (close_nodes b n xs x) ws
  nodes_swapped n [] x ws = refl
  nodes_swapped n (y ∷ xs) x ws = ap (λ z. close_kind b n z y.kind) (nodes_swapped (n + 1) xs x ws) ∙ kind_swapped n (close_nodes b (n + 1) xs x) ws y.kind

  flag_swapped : (t : Bool) (x : Ended) (ws : List Wire) → close_flag b t (swapped x ws) ≡ swapped (close_flag b t x) ws
  flag_swapped false x ws = refl
  flag_swapped true x ws = close_swapped (node_count b) x ws

module _ (fl : Flow) (s : Site) where
  closed_swapped : (ws : List Wire) → closed_with fl s ws ≡ swapped (closed_with fl s []) ws
  closed_swapped ws =
      ap (λ us. closed_with fl s us) (sym (append-nil ws))
      ∙ ap (close_nodes s.block s.block.inputs s.block.nodes) (flag_swapped s.block s.turns (inner_with fl s []) ws)
      ∙ nodes_swapped s.block s.block.inputs s.block.nodes (close_flag s.block s.turns (inner_with fl s [])) ws

  abbrev pub parts_with : List Wire → List Part
  parts_with ws = (closed_with fl s ws).parts ++ (joined_parts Root (root_with fl s ws) ++ Parts.End ∷ [])

  abbrev parts_by : Ended → List Part
  parts_by x = x.parts ++ (joined_parts Root (Written.in_region s.block Root x.ends) ++ Parts.End ∷ [])

  abbrev wires_by : Ended → List Wire
  wires_by x =
      x.wires ++ (Written.joined_wires Root (Written.in_region s.block Root x.ends)
      ++ (wire (side Entry false) Parts.End Left ∷ Written.signal_wires Root (Written.in_region s.block Root x.ends) Parts.End Right))

  pub parts_same : (ws : List Wire) → parts_with ws ≡ parts_in fl s
  parts_same ws = ap parts_by (closed_swapped ws) ∙ sym (ap parts_by (closed_swapped (inner_wires s)))

  pub wires_split : (ws : List Wire) → wires_with fl s ws ≡ ws ++ wires_with fl s []
  wires_split ws =
      ap wires_by (closed_swapped ws)
      ∙ append_assoc ws (closed_with fl s []).wires
      (Written.joined_wires Root (root_with fl s [])
      ++ (wire (side Entry false) Parts.End Left ∷ Written.signal_wires Root (root_with fl s []) Parts.End Right))

  -- the arcs are the wires, except where the machine answers
  pub arcs_agree : (e : Env) → Agree e (arcs_in fl s) (wires_in fl s)
  arcs_agree e t n =
      ap (goes e t) (wires_split (inner_arcs s))
      ∙ agree_both e (inner_arcs s) (inner_wires s) (wires_with fl s []) (wires_with fl s []) (inners_agree e s) (agree_self e (wires_with fl s [])) t n
      ∙ sym (ap (goes e t) (wires_split (inner_wires s)))
