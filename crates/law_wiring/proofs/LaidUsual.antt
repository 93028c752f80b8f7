-- What is known of the parts of a block: a gate lies in an arm, and where the machine answers, and at a turn, arcs leave.
use Rattle.std.proofs.Common.{◌≡◌, ◌≢◌, ℕ, zero, suc, ◌+◌, ◌-◌, ◌<◌, ◌==◌, ◌&&◌, Bool, true, false, List, [], ◌∷◌, ◌++◌, length, refl, ap, ◌∙◌, subst, arith}
use Rattle.std.proofs.Common.{if◌then◌else◌, Some}
use Rattle.std.specs.Prelude.{slice_get}
use Rattle.lemmas.proofs.Bools.{equal_itself}
use Rattle.tags.specs.declared.token.Port.TheVariants.{Left, Right}
use Rattle.semantics.specs.declared.graph.Region.{Region}
use Rattle.semantics.specs.declared.graph.Region.TheVariants.{Root, Arm}
use Rattle.semantics.specs.declared.graph.Source.{Source}
use Rattle.semantics.specs.declared.graph.Kind.{Kind}
use Rattle.semantics.specs.declared.graph.Kind.TheVariants.{Lit, Apply1, Apply2, Cond, Enter, Merge, Fetch, Store, Call, StrictCall, Loop}
use Rattle.semantics.specs.Graph.{Node, Block, Flow, node_at}
use Rattle.semantics.specs.Meaning.{arm_of}
use Rattle.law_net.specs.ContextsParts as Parts
use Rattle.law_net.specs.ContextsParts.{Part, Entry, Line, Gate, Opener, Framer, Fanned, Linker, Sender, Landing, CallDone, Giver, Taker, Drainer, LoopDone}
use Rattle.law_net.specs.ContextsParts.{Strict, Result, same_part}
use Rattle.law_net.specs.ContextsBlocks.{Side, side, Site, lies_in, outputs_in}
use Rattle.law_net.specs.ContextsExpanded as Expanded
use Rattle.law_net.specs.ContextsExpanded.{row, invoked}
use Rattle.law_wiring.specs.Written.{Wire, wire, same_side, is_open, is_shared, is_triggered, answer_parts, trigger_parts, trigger_side, kind_parts, node_parts}
use Rattle.law_wiring.specs.Written.{inner_parts, inner_wires, sender_wires, strict_wires, strict_end, leaves, first_ends, joined_parts, joined_wires}
use Rattle.law_wiring.specs.Written.{signal_wires, Ended, close, close_kind, close_nodes, parts_in}
use Rattle.law_wiring.specs.Written as Written
use Rattle.law_wiring.specs.WrittenFit.{IsFit}
use Rattle.law_wiring.proofs.Laid.{Env}
use Rattle.law_wiring.proofs.Parts.{follow}
use Rattle.law_wiring.proofs.LaidArcs.{invoke_arcs, strict_call_arcs, credit_arcs, kind_arcs, node_arcs, turn_arcs, tail_arcs, inner_arcs}
use Rattle.law_wiring.proofs.LaidNodes.{env}
use Rattle.law_wiring.proofs.LaidEnds.{AllUsual, IsUsual}
use Rattle.law_wiring.proofs.WrittenMembers.{side_self}

-- OPEN SIDES
open_here : (t : Side) (w : Wire) (ws : List Wire) → same_side t w.from ≡ true → is_open t (w ∷ ws) ≡ false
open_here t w ws h = ap (λ x. if x then false else is_open t ws) h

open_later : (t : Side) (w : Wire) (ws : List Wire) → is_open t ws ≡ false → is_open t (w ∷ ws) ≡ false
open_later t w ws h = go (same_side t w.from)
  where
    go : (x : Bool) → (if x then false else is_open t ws) ≡ false
    go true = refl
    go false = h

open_right : (t : Side) (ws us : List Wire) → is_open t us ≡ false → is_open t (ws ++ us) ≡ false
open_right t [] us h = h
open_right t (w ∷ ws) us h = open_later t w (ws ++ us) (open_right t ws us h)

open_left : (t : Side) (ws us : List Wire) → is_open t ws ≡ false → is_open t (ws ++ us) ≡ false
open_left t [] us h = absurd (cc)
open_left t (w ∷ ws) us h = go (same_side t w.from) h (open_left t ws us)
  where
    go : (x : Bool) → (if x then false else is_open t ws) ≡ false → (is_open t ws ≡ false → is_open t (ws ++ us) ≡ false)
        → (if x then false else is_open t (ws ++ us)) ≡ false
    go true h more = refl
    go false h more = more h

-- ALL
-- a block that a loop names has an output for each input, and the flag
abbrev pub HasTurns : Site → Type 0
HasTurns s = s.turns ≡ true → length s.block.results ≡ suc s.block.inputs

module _ (fl : Flow) (S : Site) (place : Part → ℕ) (apart : (r q : Part) → same_part r q ≡ true → place r ≡ place q) (fit : IsFit fl S.block) where
  abbrev b : Block ℕ
  b = S.block

  abbrev pub it : Env
  it = env fl S place apart

  abbrev Usual : List Wire → List Part → Type 0
  Usual ws rs = AllUsual it ws rs

  usual_both : (ws : List Wire) (rs qs : List Part) → Usual ws rs → Usual ws qs → Usual ws (rs ++ qs)
  usual_both ws [] qs h k = k
  usual_both ws (r ∷ rs) qs h k = (h.0, usual_both ws rs qs h.1 k)

  one_right : (ws us : List Wire) (r : Part) → IsUsual it us r → IsUsual it (ws ++ us) r
  one_right ws us (Framer n) h = open_right (side (Framer n) false) ws us h
  one_right ws us (Linker n) h = open_right (side (Linker n) false) ws us h
  one_right ws us (Giver n) h = open_right (side (Giver n) false) ws us h
  one_right ws us (Drainer n) h = open_right (side (Drainer n) false) ws us h
  one_right ws us Parts.Asker h = open_right (side Parts.Asker false) ws us h
  one_right ws us Parts.NextFramer h = open_right (side Parts.NextFramer false) ws us h
  one_right ws us Parts.NextFanned h = open_right (side Parts.NextFanned false) ws us h
  one_right ws us Parts.TurnCont h = (open_right (side Parts.TurnCont false) ws us h.0, open_right (side Parts.TurnCont true) ws us h.1)
  one_right ws us Parts.TurnFlag h = (open_right (side Parts.TurnFlag false) ws us h.0, open_right (side Parts.TurnFlag true) ws us h.1)
  one_right ws us (Parts.TurnValue j) h = (open_right (side (Parts.TurnValue j) false) ws us h.0, open_right (side (Parts.TurnValue j) true) ws us h.1)
  one_right ws us Parts.End h = h
  one_right ws us r h = h

  one_left : (ws us : List Wire) (r : Part) → IsUsual it ws r → IsUsual it (ws ++ us) r
  one_left ws us (Framer n) h = open_left (side (Framer n) false) ws us h
  one_left ws us (Linker n) h = open_left (side (Linker n) false) ws us h
  one_left ws us (Giver n) h = open_left (side (Giver n) false) ws us h
  one_left ws us (Drainer n) h = open_left (side (Drainer n) false) ws us h
  one_left ws us Parts.Asker h = open_left (side Parts.Asker false) ws us h
  one_left ws us Parts.NextFramer h = open_left (side Parts.NextFramer false) ws us h
  one_left ws us Parts.NextFanned h = open_left (side Parts.NextFanned false) ws us h
  one_left ws us Parts.TurnCont h = (open_left (side Parts.TurnCont false) ws us h.0, open_left (side Parts.TurnCont true) ws us h.1)
  one_left ws us Parts.TurnFlag h = (open_left (side Parts.TurnFlag false) ws us h.0, open_left (side Parts.TurnFlag true) ws us h.1)
  one_left ws us (Parts.TurnValue j) h = (open_left (side (Parts.TurnValue j) false) ws us h.0, open_left (side (Parts.TurnValue j) true) ws us h.1)
  one_left ws us Parts.End h = h
  one_left ws us r h = h

  usual_right : (ws us : List Wire) (rs : List Part) → Usual us rs → Usual (ws ++ us) rs
  usual_right ws us [] h = tt
  usual_right ws us (r ∷ rs) h = (one_right ws us r h.0, usual_right ws us rs h.1)

  usual_left : (ws us : List Wire) (rs : List Part) → Usual ws rs → Usual (ws ++ us) rs
  usual_left ws us [] h = tt
  usual_left ws us (r ∷ rs) h = (one_left ws us r h.0, usual_left ws us rs h.1)

  -- rows of parts of which nothing is asked
  row_usual : (ws : List Wire) (f : ℕ → Part) (from n : ℕ) → ((j : ℕ) → IsUsual it ws (f j)) → Usual ws (row f from n)
  row_usual ws f from zero h = tt
  row_usual ws f from (suc n) h = (h from, row_usual ws f (from + 1) n h)

  in_arm : (n : ℕ) (ws : List Wire) (r : Region) → lies_in b n ≡ r → r ≢ Root → IsUsual it ws (Gate n)
  in_arm n ws Root e h = absurd (h refl)
  in_arm n ws (Arm k t) e h = (k, t, e)

  answers_usual : (ws : List Wire) (n : ℕ) (t : Bool) → Usual ws (answer_parts n t)
  answers_usual ws n true = (tt, tt)
  answers_usual ws n false = tt

  triggers_usual : (ws : List Wire) (n : ℕ) (t : Bool) → Usual ws (trigger_parts n t)
  triggers_usual ws n true = (tt, tt)
  triggers_usual ws n false = tt

  -- where the machine answers, an arc leaves
  self : (n : ℕ) → ((n == n) && true) ≡ true
  self n = ap (λ t. t && true) (equal_itself n)

  twice : (n : ℕ) → (((n == n) && true) && true) ≡ true
  twice n = ap (λ t. (t && true) && true) (equal_itself n)

  invoked_usual : (n m q : ℕ) (t : Side) (xs : List Source) → Usual (invoke_arcs S n t xs) (invoked n m q)
  invoked_usual n m q t xs =
      let vs = invoke_arcs S n t xs in
      let link : Wire = wire (side (Linker n) false) (Landing n 0) Left in
      let frame : Wire = wire (side (Framer n) false) (Fanned n) Left in
      let fan : Wire = wire (side (Fanned n) false) (Linker n) Left in
      let framed = open_later (side (Framer n) false) (wire t (Framer n) Left) (frame ∷ fan ∷ (sender_wires S n 0 xs ++ link ∷ []))
      (open_here (side (Framer n) false) frame (fan ∷ (sender_wires S n 0 xs ++ link ∷ [])) (twice n)) in
      let linked = open_right (side (Linker n) false) (wire t (Framer n) Left ∷ frame ∷ fan ∷ sender_wires S n 0 xs) (link ∷ [])
      (open_here (side (Linker n) false) link [] (twice n)) in
      let rows = usual_both vs (row (Sender n) 0 m) (row (Landing n) 0 q) (row_usual vs (Sender n) 0 m (λ j. tt)) (row_usual vs (Landing n) 0 q (λ j. tt)) in
      (framed, (tt, (linked, rows)))

  called_usual : (n m q : ℕ) (t : Side) (xs : List Source) → Usual (invoke_arcs S n t xs) (invoked n m q ++ CallDone n ∷ [])
  called_usual n m q t xs = usual_both (invoke_arcs S n t xs) (invoked n m q) (CallDone n ∷ []) (invoked_usual n m q t xs) (tt, tt)

  strict_usual : (n q : ℕ) (xs : List Source) → 0 < length xs
      → Usual (strict_call_arcs S n xs) (row (Strict n) 1 (length xs - 1) ++ (invoked n (length xs) q ++ CallDone n ∷ []))
  strict_usual n q [] l = absurd (omega (arith, l))
  strict_usual n q (x ∷ xs) l =
      let first = strict_wires S n 1 (leaves S x) xs in
      let arcs = invoke_arcs S n (strict_end n 1 (leaves S x) xs) (x ∷ xs) in
      usual_both (first ++ arcs) (row (Strict n) 1 (length (x ∷ xs) - 1)) (invoked n (length (x ∷ xs)) q ++ CallDone n ∷ [])
      (row_usual (first ++ arcs) (Strict n) 1 (length (x ∷ xs) - 1) (λ j. tt))
      (usual_right first arcs (invoked n (length (x ∷ xs)) q ++ CallDone n ∷ []) (called_usual n (length (x ∷ xs)) q (strict_end n 1 (leaves S x) xs) (x ∷ xs)))

  loop_usual : (n m : ℕ) (t : Side) (xs : List Source)
      → Usual (wire t (Opener n) Left ∷ (invoke_arcs S n (side (Opener n) false) xs ++ credit_arcs n))
      (Opener n ∷ invoked n m m ++ (Giver n ∷ Taker n ∷ Drainer n ∷ LoopDone n ∷ []))
  loop_usual n m t xs =
      let first : List Wire = wire t (Opener n) Left ∷ [] in
      let arcs = invoke_arcs S n (side (Opener n) false) xs in
      let give : Wire = wire (side (Giver n) false) (LoopDone n) Left in
      let drain : Wire = wire (side (Drainer n) false) (LoopDone n) Left in
      let given = open_right (side (Giver n) false) arcs (credit_arcs n) (open_here (side (Giver n) false) give (drain ∷ []) (twice n)) in
      let drained = open_right (side (Drainer n) false) arcs (credit_arcs n)
      (open_later (side (Drainer n) false) give (drain ∷ []) (open_here (side (Drainer n) false) drain [] (twice n))) in
      let credits : List Part = Giver n ∷ Taker n ∷ Drainer n ∷ LoopDone n ∷ [] in
      let inside = usual_left arcs (credit_arcs n) (invoked n m m) (invoked_usual n m m (side (Opener n) false) xs) in (
        tt,
        usual_right first (arcs ++ credit_arcs n) (invoked n m m ++ credits)
            (usual_both (arcs ++ credit_arcs n) (invoked n m m) credits inside (given, (tt, (drained, (tt, tt))))),
      )

  kind_usual : (n : ℕ) (r : Region) (k : Kind ℕ) (ss : List Source) → node_at b n ≡ Some (record { region = r; kind = k; sources = ss })
      → Usual (kind_arcs S n r k ss) (kind_parts fl S n (length ss) k)
  kind_usual n r Cond ss e = triggers_usual (kind_arcs S n r Cond ss) n (is_triggered b n)
  kind_usual n r Enter ss e =
      (in_arm n (kind_arcs S n r Enter ss) r (ap arm_of e) (fit.nodes n (record { region = r; kind = Enter; sources = ss }) e).lies.0, tt)
  kind_usual n r (Merge k) ss e = (tt, tt)
  kind_usual n r (Lit z) ss e = (tt, tt)
  kind_usual n r (Apply1 op) ss e = (tt, tt)
  kind_usual n r (Apply2 op) ss e = (tt, tt)
  kind_usual n r (Fetch a) ss e = (tt, answers_usual (kind_arcs S n r (Fetch a) ss) n (is_shared S n))
  kind_usual n r (Store a) ss e = (tt, answers_usual (kind_arcs S n r (Store a) ss) n (is_shared S n))
  kind_usual n r (Call f) ss e = called_usual n (length ss) (outputs_in (slice_get fl.blocks f)) (trigger_side r) ss
  kind_usual n r (StrictCall f) ss e =
      strict_usual n (outputs_in (slice_get fl.blocks f)) ss (fit.nodes n (record { region = r; kind = StrictCall f; sources = ss }) e).takes.some_input
  kind_usual n r (Loop f k) ss e = loop_usual n (length ss) (trigger_side r) ss

  nodes_usual : (n : ℕ) (xs : List (Node ℕ)) → ((j : ℕ) (y : Node ℕ) → slice_get xs j ≡ Some y → node_at b (n + j) ≡ Some y)
      → Usual (node_arcs S n xs) (node_parts fl S n xs)
  nodes_usual n [] there = tt
  nodes_usual n (x ∷ xs) there =
      let zeroless : n ≡ n + 0 = omega arith in
      let arcs : List Wire = kind_arcs S n x.region x.kind x.sources in
      let parts : List Part = kind_parts fl S n (length x.sources) x.kind in
      usual_both (arcs ++ node_arcs S (n + 1) xs) parts (node_parts fl S (n + 1) xs)
      (usual_left arcs (node_arcs S (n + 1) xs) parts (kind_usual n x.region x.kind x.sources (ap (node_at b) zeroless ∙ there 0 x refl)))
      (usual_right arcs (node_arcs S (n + 1) xs) (node_parts fl S (n + 1) xs)
      (nodes_usual (n + 1) xs (λ j z f. let k : (n + 1) + j ≡ n + suc j = omega arith in ap (node_at b) k ∙ there (suc j) z f)))

  -- a turn
  met_left : (t u : Side) (r : Part) (ws : List Wire) → is_open t (Written.meet_wires t u r ++ ws) ≡ false
  met_left t u r ws = open_here t (wire t r Left) (wire u r Right ∷ ws) (side_self t)

  met_right : (t u : Side) (r : Part) (ws : List Wire) → is_open u (Written.meet_wires t u r ++ ws) ≡ false
  met_right t u r ws = open_later u (wire t r Left) (wire u r Right ∷ ws) (open_here u (wire u r Right) ws (side_self u))

  value_next : (from n j : ℕ) → j < n → is_open (side (Parts.TurnValue (from + j)) false) (Written.next_wires from n) ≡ false
  value_next from zero j l = absurd (omega (arith, l))
  value_next from (suc n) zero l =
      let same : from ≡ from + 0 = omega arith in
      subst (λ k. is_open (side (Parts.TurnValue k) false) (Written.next_wires from (suc n)) ≡ false) same
      (met_right (side Parts.NextFanned false) (side (Parts.TurnValue from) false) (Parts.NextSender from) (Written.next_wires (from + 1) n))
  value_next from (suc n) (suc j) l =
      let same : (from + 1) + j ≡ from + suc j = omega arith in
      subst (λ k. is_open (side (Parts.TurnValue k) false) (Written.next_wires from (suc n)) ≡ false) same
      (open_right (side (Parts.TurnValue ((from + 1) + j)) false)
      (Written.meet_wires (side Parts.NextFanned false) (side (Parts.TurnValue from) false) (Parts.NextSender from)) (Written.next_wires (from + 1) n)
      (value_next (from + 1) n j (omega (arith, l))))

  value_last : (from n j : ℕ) → j < n → is_open (side (Parts.TurnValue ((from + j) + 1)) true) (Written.last_wires from n) ≡ false
  value_last from zero j l = absurd (omega (arith, l))
  value_last from (suc n) zero l =
      let same : from ≡ from + 0 = omega arith in
      subst (λ k. is_open (side (Parts.TurnValue (k + 1)) true) (Written.last_wires from (suc n)) ≡ false) same
      (met_right (side Parts.TurnCont true) (side (Parts.TurnValue (from + 1)) true) (Parts.LastReturn from) (Written.last_wires (from + 1) n))
  value_last from (suc n) (suc j) l =
      let same : (from + 1) + j ≡ from + suc j = omega arith in
      subst (λ k. is_open (side (Parts.TurnValue (k + 1)) true) (Written.last_wires from (suc n)) ≡ false) same
      (open_right (side (Parts.TurnValue (((from + 1) + j) + 1)) true)
      (Written.meet_wires (side Parts.TurnCont true) (side (Parts.TurnValue (from + 1)) true) (Parts.LastReturn from)) (Written.last_wires (from + 1) n)
      (value_last (from + 1) n j (omega (arith, l))))

  rows_usual : (ws : List Wire) (f : ℕ → Part) (from n : ℕ) → ((j : ℕ) → j < n → IsUsual it ws (f (from + j))) → Usual ws (row f from n)
  rows_usual ws f from zero h = tt
  rows_usual ws f from (suc n) h =
      let same : from + 0 ≡ from = omega arith in (
        subst (λ k. IsUsual it ws (f k)) same (h 0 (omega arith)),
        rows_usual ws f (from + 1) n (λ j l. let at : from + suc j ≡ (from + 1) + j = omega arith in
            subst (λ k. IsUsual it ws (f k)) at (h (suc j) (omega (arith, l)))),
      )

  turn_usual : (x : Source) (xs : List Source) → length xs ≡ b.inputs → Usual (turn_arcs S (x ∷ xs)) (Expanded.turn_parts b.inputs)
  turn_usual x xs count =
      let n : ℕ = length xs in
      let t : Side = leaves S x in
      let w1 : List Wire = Written.meet_wires (side Entry false) t Parts.TurnCont in
      let w2 : List Wire = Written.meet_wires t t Parts.TurnFlag in
      let w3 : List Wire = Written.value_wires S t 1 xs in
      let w4 : List Wire = Written.meet_wires (side Parts.TurnCont false) (side Parts.TurnFlag false) Parts.Asker in
      let ask : Wire = wire (side Parts.Asker false) Parts.NextFramer Left in
      let fan : Wire = wire (side Parts.NextFramer false) Parts.NextFanned Left in
      let w7 : List Wire = Written.meet_wires (side Parts.NextFanned false) (side Parts.TurnCont false) (Parts.NextSender 0) in
      let w8 : List Wire = Written.next_wires 1 n in
      let w9 : List Wire = Written.last_wires 0 n in
      let w10 : List Wire = Written.meet_wires (side Parts.TurnCont true) (side Parts.TurnFlag true) Parts.DrainReturn in
      let u9 : List Wire = w9 ++ w10 in
      let u8 : List Wire = w8 ++ u9 in
      let u7 : List Wire = w7 ++ u8 in
      let u6 : List Wire = fan ∷ u7 in
      let u5 : List Wire = ask ∷ u6 in
      let u4 : List Wire = w4 ++ u5 in
      let vs : List Wire = turn_arcs S (x ∷ xs) in
      let past : (v : Side) → is_open v u4 ≡ false
      → is_open v vs ≡ false = λ v h. open_right v w1 (w2 ++ (w3 ++ u4)) (open_right v w2 (w3 ++ u4) (open_right v w3 u4 h)) in
      let later : (v : Side) → is_open v u7 ≡ false → is_open v vs ≡ false = λ v h. past v (open_right v w4 u5 (open_later v ask u6 (open_later v fan u7 h))) in
      let last : (v : Side) → is_open v u9 ≡ false → is_open v vs ≡ false = λ v h. later v (open_right v w7 u8 (open_right v w8 u9 h)) in
      let cont = past (side Parts.TurnCont false) (met_left (side Parts.TurnCont false) (side Parts.TurnFlag false) Parts.Asker u5) in
      let cont2 = last (side Parts.TurnCont true)
      (open_right (side Parts.TurnCont true) w9 w10 (met_left (side Parts.TurnCont true) (side Parts.TurnFlag true) Parts.DrainReturn [])) in
      let flag = past (side Parts.TurnFlag false) (met_right (side Parts.TurnCont false) (side Parts.TurnFlag false) Parts.Asker u5) in
      let flag2 = last (side Parts.TurnFlag true)
      (open_right (side Parts.TurnFlag true) w9 w10 (met_right (side Parts.TurnCont true) (side Parts.TurnFlag true) Parts.DrainReturn [])) in
      let asks = past (side Parts.Asker false) (open_right (side Parts.Asker false) w4 u5 (open_here (side Parts.Asker false) ask u6 refl)) in
      let frames = past (side Parts.NextFramer false)
      (open_right (side Parts.NextFramer false) w4 u5
      (open_later (side Parts.NextFramer false) ask u6 (open_here (side Parts.NextFramer false) fan u7 refl))) in
      let fans = later (side Parts.NextFanned false) (met_left (side Parts.NextFanned false) (side Parts.TurnCont false) (Parts.NextSender 0) u8) in
      let values = rows_usual vs Parts.TurnValue 1 b.inputs (λ j l.
      let v : Side = side (Parts.TurnValue (1 + j)) false in
      let first = later v (open_right v w7 u8 (open_left v w8 u9 (value_next 1 n j (omega (arith, l, count))))) in
      let same : (0 + j) + 1 ≡ 1 + j = omega arith in
      let u : Side = side (Parts.TurnValue (1 + j)) true in
      let second = last u (open_left u w9 w10
      (subst (λ k. is_open (side (Parts.TurnValue k) true) w9 ≡ false) same (value_last 0 n j (omega (arith, l, count))))) in
      (first, second)) in
      let senders = row_usual vs Parts.NextSender 0 (b.inputs + 1) (λ j. tt) in
      let returns = row_usual vs Parts.LastReturn 0 b.inputs (λ j. tt) in
      let ends = usual_both vs (row Parts.NextSender 0 (b.inputs + 1)) (row Parts.LastReturn 0 b.inputs ++ Parts.DrainReturn ∷ []) senders
      (usual_both vs (row Parts.LastReturn 0 b.inputs) (Parts.DrainReturn ∷ []) returns (tt, tt)) in (
        (cont, cont2),
        (
          (flag, flag2),
          usual_both vs (row Parts.TurnValue 1 b.inputs)
              (Parts.Asker ∷ Parts.NextFramer ∷ Parts.NextFanned ∷ row Parts.NextSender 0 (b.inputs + 1)
              ++ (row Parts.LastReturn 0 b.inputs ++ Parts.DrainReturn ∷ []))
              values (asks, (frames, (fans, ends))),
        ),
      )

  tail_usual : (t : Bool) → (t ≡ true → length b.results ≡ suc b.inputs) → Usual (tail_arcs S t) (Written.tail_parts b t)
  tail_usual false h = row_usual (tail_arcs S false) Result 0 (length b.results) (λ j. tt)
  tail_usual true h = go b.results (h refl)
    where
      go : (xs : List Source) → length xs ≡ suc b.inputs → Usual (turn_arcs S xs) (Expanded.turn_parts b.inputs)
      go [] e = absurd (omega (arith, e))
      go (x ∷ xs) e = turn_usual x xs (omega (arith, e))

  module _ (turned : HasTurns S) where
    pub inner_usual : Usual (inner_arcs S) (inner_parts fl S)
    inner_usual =
        let nodes : List Wire = node_arcs S b.inputs b.nodes in
        let last : List Wire = tail_arcs S S.turns in
        let lines = row_usual (nodes ++ last) Line 0 b.inputs (λ j. tt) in
        usual_both (nodes ++ last) (Entry ∷ row Line 0 b.inputs ++ node_parts fl S b.inputs b.nodes) (Written.tail_parts b S.turns) (
          tt,
          usual_both (nodes ++ last) (row Line 0 b.inputs) (node_parts fl S b.inputs b.nodes) lines
              (usual_left nodes last (node_parts fl S b.inputs b.nodes) (nodes_usual b.inputs b.nodes (follow b))),
        )
        (usual_right nodes last (Written.tail_parts b S.turns) (tail_usual S.turns turned))
