-- The arcs that are no wires: one where the machine answers, and no other leaves there.
use Rattle.std.proofs.Common.{◌≡◌, ◌≢◌, ℕ, zero, suc, ◌+◌, ◌-◌, ◌<◌, ◌≤◌, ◌⊎◌, inl, inr, Bool, true, false, ◌||◌, List, [], ◌∷◌, ◌++◌, length, refl}
use Rattle.std.proofs.Common.{sym, ap, ◌∙◌, ◌==◌, subst, arith, append-nil, Some, None, Option, Contains, if◌then◌else◌}
use Rattle.std.specs.Prelude.{slice_get}
use Rattle.std.proofs.lemmas.Bool.{le-ltb, lt-ltb, cases_lt, eqb-true, eq-eqb}
use Rattle.lemmas.proofs.Bools.{and_false}
use Rattle.std.proofs.lemmas.List.Elements.{Contains-append_left, Contains-append_right, Contains-append_cases}
use Rattle.lemmas.proofs.Contains.{contains_cases, contains_head, contains_tail, contains_none}
use Rattle.tags.specs.declared.token.Port.TheVariants.{Left}
use Rattle.semantics.specs.declared.graph.Region.{Region}
use Rattle.semantics.specs.declared.graph.Source.{Source}
use Rattle.semantics.specs.declared.graph.Kind.{Kind}
use Rattle.semantics.specs.declared.graph.Kind.TheVariants.{Lit, Apply1, Apply2, Cond, Enter, Merge, Fetch, Store, Call, StrictCall, Loop}
use Rattle.semantics.specs.Graph.{Node, Block, Flow, node_at}
use Rattle.law_confluence.specs.OrdersTotals.{one}
use Rattle.law_net.specs.ContextsParts as Parts
use Rattle.law_net.specs.ContextsParts.{Part, same_part, Opener, Framer, Fanned, Linker, Landing, Giver, Drainer, LoopDone, Asker, NextFramer, NextFanned}
use Rattle.law_net.specs.ContextsParts.{TurnCont, TurnFlag, Entry, NextSender, DrainReturn}
use Rattle.law_net.specs.ContextsBlocks.{Side, side, Site, is_kind, call_kind, loop_kind}
use Rattle.law_net.specs.ContextsWires.{answered_at, has_no_wire}
use Rattle.law_wiring.specs.Written.{Wire, wire, same_side, along, inlet_of, leaves, trigger_side, meet_wires, sender_wires, strict_wires, strict_end}
use Rattle.law_wiring.specs.Written.{strict_call_wires, invoke_wires, kind_wires, node_wires, value_wires, next_wires, last_wires, turn_wires, tail_wires}
use Rattle.law_wiring.specs.Written.{inner_wires, wires_in}
use Rattle.law_wiring.specs.WrittenFit.{Takes, IsFit}
use Rattle.law_wiring.proofs.Laid.{Env, goes, dest}
use Rattle.law_wiring.proofs.LaidArcs.{invoke_arcs, strict_call_arcs, credit_arcs, kind_arcs, node_arcs, turn_arcs, tail_arcs, inner_arcs, wires_with, arcs_in}
use Rattle.law_wiring.proofs.LaidArcsSame.{wires_split}
use Rattle.law_wiring.proofs.PartsSame.{side_is}
use Rattle.law_wiring.proofs.WrittenMembers.{AllW, side_self}

-- how many leave a side
abbrev pub size : Side → List Wire → ℕ
size t [] = 0
size t (w ∷ ws) = one (same_side t w.from) + size t ws

pub size_both : (t : Side) (xs ys : List Wire) → size t (xs ++ ys) ≡ size t xs + size t ys
size_both t [] ys = omega arith
size_both t (x ∷ xs) ys = let h = size_both t xs ys in omega (arith, h)

pub size_goes : (e : Env) (t : Side) (ws : List Wire) → length (goes e t ws) ≡ size t ws
size_goes e t [] = refl
size_goes e t (w ∷ ws) = go (same_side t w.from) (size_goes e t ws)
  where
    go : (x : Bool) → length (goes e t ws) ≡ size t ws → length (if x then dest e w ∷ goes e t ws else goes e t ws) ≡ one x + size t ws
    go true h = omega (arith, h)
    go false h = omega (arith, h)

pub no_size : (b : Block ℕ) (t : Side) (ws : List Wire) → size t ws ≡ 0 → along b t ws ≡ []
no_size b t [] h = refl
no_size b t (w ∷ ws) h = go (same_side t w.from) h (no_size b t ws)
  where
    go : (x : Bool) → one x + size t ws ≡ 0 → (size t ws ≡ 0 → along b t ws ≡ []) → (if x then inlet_of b w ∷ along b t ws else along b t ws) ≡ []
    go true h more = absurd (omega (arith, h))
    go false h more = more (omega (arith, h))

pub some_size : (w : Wire) (ws : List Wire) → Contains ws w → 0 < size w.from ws
some_size w [] h = absurd (contains_none w h)
some_size w (x ∷ ws) h = go (contains_cases x ws w h) (some_size w ws)
  where
    go : (x ≡ w) ⊎ Contains ws w → (Contains ws w → 0 < size w.from ws) → 0 < one (same_side w.from x.from) + size w.from ws
    go (inl e) more =
        let o : one (same_side w.from x.from) ≡ 1 = ap (λ (y : Wire). one (same_side w.from y.from)) e ∙ ap one (side_self w.from) in omega (arith, o)
    go (inr c) more = let m = more c in omega (arith, m)

pub goes_there : (e : Env) (w : Wire) (ws : List Wire) → Contains ws w → Contains (goes e w.from ws) (dest e w)
goes_there e w [] h = absurd (contains_none w h)
goes_there e w (x ∷ ws) h = go (same_side w.from x.from) refl (contains_cases x ws w h) (goes_there e w ws)
  where
    go : (s : Bool) → same_side w.from x.from ≡ s → (x ≡ w) ⊎ Contains ws w → (Contains ws w → Contains (goes e w.from ws) (dest e w))
        → Contains (if s then dest e x ∷ goes e w.from ws else goes e w.from ws) (dest e w)
    go true f (inl q) more = subst (λ (y : Wire). Contains (dest e y ∷ goes e w.from ws) (dest e w)) (sym q) (contains_head (dest e w) (goes e w.from ws))
    go false f (inl q) more = let yes : same_side w.from x.from ≡ true = ap (λ (y : Wire). same_side w.from y.from) q ∙ side_self w.from in absurd (cc)
    go true f (inr c) more = contains_tail (dest e x) (goes e w.from ws) (dest e w) (more c)
    go false f (inr c) more = more c

-- ARCS are wires and more
pub record AreMixed (vs ws xs : List Wire) : Type 0 where
  pub counts : (t : Side) → size t vs ≡ size t ws + size t xs
  pub has : (w : Wire) → Contains xs w → Contains vs w

mixed_self : (ws : List Wire) → AreMixed ws ws []
mixed_self ws = record { counts = λ t. omega arith; has = λ w h. absurd (contains_none w h) }

mixed_more : (w : Wire) (vs ws xs : List Wire) → AreMixed vs ws xs → AreMixed (w ∷ vs) (w ∷ ws) xs
mixed_more w vs ws xs h = record { counts = λ t. let c = h.counts t in omega (arith, c); has = λ x k. contains_tail w vs x (h.has x k) }

mixed_extra : (w : Wire) (vs ws xs : List Wire) → AreMixed vs ws xs → AreMixed (w ∷ vs) ws (w ∷ xs)
mixed_extra w vs ws xs h = record { counts = λ t. let c = h.counts t in omega (arith, c); has = λ x k. go x (contains_cases w xs x k) }
  where
    go : (x : Wire) → (w ≡ x) ⊎ Contains xs x → Contains (w ∷ vs) x
    go x (inl e) = subst (λ y. Contains (y ∷ vs) x) (sym e) (contains_head x vs)
    go x (inr c) = contains_tail w vs x (h.has x c)

mixed_both : (vs ws xs us ts ys : List Wire) → AreMixed vs ws xs → AreMixed us ts ys → AreMixed (vs ++ us) (ws ++ ts) (xs ++ ys)
mixed_both vs ws xs us ts ys h k = record {
  counts = λ t. let a = h.counts t in let c = k.counts t in let x = size_both t vs us in let y = size_both t ws ts in let z = size_both t xs ys in
      omega (arith, a, c, x, y, z);
  has = λ w c. go w (Contains-append_cases xs ys w c);
}
  where
    go : (w : Wire) → Contains xs w ⊎ Contains ys w → Contains (vs ++ us) w
    go w (inl c) = Contains-append_left vs us w (h.has w c)
    go w (inr c) = Contains-append_right vs us w (k.has w c)

-- THE ARCS OF ANSWERS
abbrev pub frame_arc : ℕ → Wire
frame_arc n = wire (side (Framer n) false) (Fanned n) Left

abbrev pub link_arc : ℕ → Wire
link_arc n = wire (side (Linker n) false) (Landing n 0) Left

abbrev pub give_arc : ℕ → Wire
give_arc n = wire (side (Giver n) false) (LoopDone n) Left

abbrev pub drain_arc : ℕ → Wire
drain_arc n = wire (side (Drainer n) false) (LoopDone n) Left

abbrev pub ask_arc : Wire
ask_arc = wire (side Asker false) NextFramer Left

abbrev pub fan_arc : Wire
fan_arc = wire (side NextFramer false) NextFanned Left

abbrev pub invoke_more : ℕ → List Wire
invoke_more n = frame_arc n ∷ link_arc n ∷ []

abbrev strict_more : ℕ → List Source → List Wire
strict_more n [] = []
strict_more n (x ∷ xs) = invoke_more n

abbrev kind_more : ℕ → Kind ℕ → List Source → List Wire
kind_more n (Call f) xs = invoke_more n
kind_more n (StrictCall f) xs = strict_more n xs
kind_more n (Loop f k) xs = invoke_more n ++ credit_arcs n
kind_more n k xs = []

abbrev node_more : ℕ → List (Node ℕ) → List Wire
node_more n [] = []
node_more n (x ∷ xs) = kind_more n x.kind x.sources ++ node_more (n + 1) xs

abbrev turn_more : List Source → List Wire
turn_more [] = []
turn_more (x ∷ xs) = wire (side Asker false) NextFramer Left ∷ wire (side NextFramer false) NextFanned Left ∷ []

abbrev tail_more : Block ℕ → Bool → List Wire
tail_more b false = []
tail_more b true = turn_more b.results

abbrev pub answer_arcs : Site → List Wire
answer_arcs s = node_more s.block.inputs s.block.nodes ++ tail_more s.block s.turns

module _ (s : Site) where
  invokes_mixed : (n : ℕ) (t : Side) (xs : List Source) → AreMixed (invoke_arcs s n t xs) (invoke_wires s n t xs) (invoke_more n)
  invokes_mixed n t xs =
      let fan : Wire = wire (side (Fanned n) false) (Linker n) Left in
      let senders : List Wire = sender_wires s n 0 xs in
      let last : AreMixed (senders ++ link_arc n ∷ []) senders (link_arc n ∷ []) =
      subst (λ ws. AreMixed (senders ++ link_arc n ∷ []) ws (link_arc n ∷ [])) (append-nil senders)
      (mixed_both senders senders [] (link_arc n ∷ []) [] (link_arc n ∷ []) (mixed_self senders) (mixed_extra (link_arc n) [] [] [] (mixed_self []))) in
      mixed_more (wire t (Framer n) Left) (frame_arc n ∷ fan ∷ (senders ++ link_arc n ∷ [])) (fan ∷ senders) (invoke_more n)
      (mixed_extra (frame_arc n) (fan ∷ (senders ++ link_arc n ∷ [])) (fan ∷ senders) (link_arc n ∷ [])
      (mixed_more fan (senders ++ link_arc n ∷ []) senders (link_arc n ∷ []) last))

  stricts_mixed : (n : ℕ) (xs : List Source) → AreMixed (strict_call_arcs s n xs) (strict_call_wires s n xs) (strict_more n xs)
  stricts_mixed n [] = mixed_self []
  stricts_mixed n (x ∷ xs) =
      let first = strict_wires s n 1 (leaves s x) xs in
      let t = strict_end n 1 (leaves s x) xs in
      mixed_both first first [] (invoke_arcs s n t (x ∷ xs)) (invoke_wires s n t (x ∷ xs)) (invoke_more n) (mixed_self first) (invokes_mixed n t (x ∷ xs))

  loops_mixed : (n : ℕ) (t : Side) (xs : List Source)
      → AreMixed (wire t (Opener n) Left ∷ (invoke_arcs s n (side (Opener n) false) xs ++ credit_arcs n))
      (wire t (Opener n) Left ∷ invoke_wires s n (side (Opener n) false) xs) (invoke_more n ++ credit_arcs n)
  loops_mixed n t xs =
      let arcs = invoke_arcs s n (side (Opener n) false) xs in
      let wires = invoke_wires s n (side (Opener n) false) xs in
      let credits : AreMixed (credit_arcs n) [] (credit_arcs n) =
      mixed_extra (give_arc n) (drain_arc n ∷ []) [] (drain_arc n ∷ []) (mixed_extra (drain_arc n) [] [] [] (mixed_self [])) in
      mixed_more (wire t (Opener n) Left) (arcs ++ credit_arcs n) wires (invoke_more n ++ credit_arcs n)
      (subst (λ ws. AreMixed (arcs ++ credit_arcs n) ws (invoke_more n ++ credit_arcs n)) (append-nil wires)
      (mixed_both arcs wires (invoke_more n) (credit_arcs n) [] (credit_arcs n) (invokes_mixed n (side (Opener n) false) xs) credits))

  kinds_mixed : (n : ℕ) (r : Region) (k : Kind ℕ) (xs : List Source) → AreMixed (kind_arcs s n r k xs) (kind_wires s n r k xs) (kind_more n k xs)
  kinds_mixed n r (Call f) xs = invokes_mixed n (trigger_side r) xs
  kinds_mixed n r (StrictCall f) xs = stricts_mixed n xs
  kinds_mixed n r (Loop f k) xs = loops_mixed n (trigger_side r) xs
  kinds_mixed n r (Lit z) xs = mixed_self (kind_wires s n r (Lit z) xs)
  kinds_mixed n r (Apply1 op) xs = mixed_self (kind_wires s n r (Apply1 op) xs)
  kinds_mixed n r (Apply2 op) xs = mixed_self (kind_wires s n r (Apply2 op) xs)
  kinds_mixed n r Cond xs = mixed_self (kind_wires s n r Cond xs)
  kinds_mixed n r Enter xs = mixed_self (kind_wires s n r Enter xs)
  kinds_mixed n r (Merge k) xs = mixed_self (kind_wires s n r (Merge k) xs)
  kinds_mixed n r (Fetch a) xs = mixed_self (kind_wires s n r (Fetch a) xs)
  kinds_mixed n r (Store a) xs = mixed_self (kind_wires s n r (Store a) xs)

  nodes_mixed : (n : ℕ) (xs : List (Node ℕ)) → AreMixed (node_arcs s n xs) (node_wires s n xs) (node_more n xs)
  nodes_mixed n [] = mixed_self []
  nodes_mixed n (x ∷ xs) =
      mixed_both (kind_arcs s n x.region x.kind x.sources) (kind_wires s n x.region x.kind x.sources) (kind_more n x.kind x.sources) (node_arcs s (n + 1) xs)
      (node_wires s (n + 1) xs) (node_more (n + 1) xs)
      (kinds_mixed n x.region x.kind x.sources) (nodes_mixed (n + 1) xs)

  turns_mixed : (xs : List Source) → AreMixed (turn_arcs s xs) (turn_wires s xs) (turn_more xs)
  turns_mixed [] = mixed_self []
  turns_mixed (x ∷ xs) =
      let ask : Wire = wire (side Asker false) NextFramer Left in
      let fan : Wire = wire (side NextFramer false) NextFanned Left in
      let a1 : List Wire = meet_wires (side Entry false) (leaves s x) TurnCont in
      let a2 : List Wire = meet_wires (leaves s x) (leaves s x) TurnFlag in
      let a3 : List Wire = value_wires s (leaves s x) 1 xs in
      let a4 : List Wire = meet_wires (side TurnCont false) (side TurnFlag false) Asker in
      let rest : List Wire = meet_wires (side NextFanned false) (side TurnCont false) (NextSender 0)
      ++ (next_wires 1 (length xs) ++ (last_wires 0 (length xs) ++ meet_wires (side TurnCont true) (side TurnFlag true) DrainReturn)) in
      let two : List Wire = ask ∷ fan ∷ [] in
      mixed_both a1 a1 [] (a2 ++ (a3 ++ (a4 ++ (two ++ rest)))) (a2 ++ (a3 ++ (a4 ++ rest))) two (mixed_self a1)
      (mixed_both a2 a2 [] (a3 ++ (a4 ++ (two ++ rest))) (a3 ++ (a4 ++ rest)) two (mixed_self a2)
      (mixed_both a3 a3 [] (a4 ++ (two ++ rest)) (a4 ++ rest) two (mixed_self a3)
      (mixed_both a4 a4 [] (two ++ rest) rest two (mixed_self a4)
      (mixed_extra ask (fan ∷ rest) rest (fan ∷ []) (mixed_extra fan rest rest [] (mixed_self rest))))))

  tails_mixed : (t : Bool) → AreMixed (tail_arcs s t) (tail_wires s t) (tail_more s.block t)
  tails_mixed false = mixed_self (tail_wires s false)
  tails_mixed true = turns_mixed s.block.results

  pub arcs_mixed : (fl : Flow) → AreMixed (arcs_in fl s) (wires_in fl s) (answer_arcs s)
  arcs_mixed fl =
      let nodes = nodes_mixed s.block.inputs s.block.nodes in
      let tails = tails_mixed s.turns in
      let inner = mixed_both (node_arcs s s.block.inputs s.block.nodes) (node_wires s s.block.inputs s.block.nodes) (node_more s.block.inputs s.block.nodes)
      (tail_arcs s s.turns) (tail_wires s s.turns) (tail_more s.block s.turns) nodes tails in
      let rest : List Wire = wires_with fl s [] in
      let all = mixed_both (inner_arcs s) (inner_wires s) (answer_arcs s) rest rest [] inner (mixed_self rest) in
      subst (λ vs. AreMixed vs (wires_in fl s) (answer_arcs s)) (sym (wires_split fl s (inner_arcs s)))
      (subst (λ ws. AreMixed (inner_arcs s ++ rest) ws (answer_arcs s)) (sym (wires_split fl s (inner_wires s)))
      (subst (λ xs. AreMixed (inner_arcs s ++ rest) (inner_wires s ++ rest) xs) (append-nil (answer_arcs s)) all))

-- WHERE THEY ARE
abbrev Node_has : ℕ → List (Node ℕ) → Wire → Type 0
Node_has n xs w = (j : ℕ) (x : Node ℕ) → slice_get xs j ≡ Some x → Contains (kind_more (n + j) x.kind x.sources) w → Contains (node_more n xs) w

more_there : (n : ℕ) (xs : List (Node ℕ)) (w : Wire) → Node_has n xs w
more_there n [] w j x e h = absurd (cc)
more_there n (y ∷ xs) w zero x e h =
    let same : x ≡ y = cc in
    let at : n + 0 ≡ n = omega arith in
    Contains-append_left (kind_more n y.kind y.sources) (node_more (n + 1) xs) w
    (subst (λ k. Contains (kind_more k y.kind y.sources) w) at (subst (λ (z : Node ℕ). Contains (kind_more (n + 0) z.kind z.sources) w) same h))
more_there n (y ∷ xs) w (suc j) x e h =
    let at : n + suc j ≡ (n + 1) + j = omega arith in
    Contains-append_right (kind_more n y.kind y.sources) (node_more (n + 1) xs) w
    (more_there (n + 1) xs w j x e (subst (λ k. Contains (kind_more k x.kind x.sources) w) at h))

module _ (fl : Flow) (s : Site) (fit : IsFit fl s.block) where
  abbrev b : Block ℕ
  b = s.block

  node_slot : (k : ℕ) (x : Node ℕ) → node_at b k ≡ Some x → (b.inputs ≤ k) × (slice_get b.nodes (k - b.inputs) ≡ Some x)
  node_slot k x e = go (cases_lt k b.inputs)
    where
      go : (k < b.inputs) ⊎ (b.inputs ≤ k) → (b.inputs ≤ k) × (slice_get b.nodes (k - b.inputs) ≡ Some x)
      go (inl l) = let none = ap (λ t. if t then None else slice_get b.nodes (k - b.inputs)) (lt-ltb k b.inputs l) in absurd (cc)
      go (inr l) = (l, sym (ap (λ t. if t then None else slice_get b.nodes (k - b.inputs)) (le-ltb k b.inputs l)) ∙ e)

  at_node : (k : ℕ) (x : Node ℕ) (w : Wire) → node_at b k ≡ Some x → Contains (kind_more k x.kind x.sources) w → Contains (answer_arcs s) w
  at_node k x w e h =
      let y = node_slot k x e in
      let low = y.0 in
      let at : k ≡ b.inputs + (k - b.inputs) = omega (arith, low) in
      Contains-append_left (node_more b.inputs b.nodes) (tail_more b s.turns) w
      (more_there b.inputs b.nodes w (k - b.inputs) x y.1 (subst (λ j. Contains (kind_more j x.kind x.sources) w) at h))

  invoke_has : (n : ℕ) (w : Wire) → Contains (invoke_more n) w → (k : Kind ℕ) (ss : List Source) → (call_kind k || loop_kind k) ≡ true → 0 < length ss
      → Contains (kind_more n k ss) w
  invoke_has n w h (Call f) ss t l = h
  invoke_has n w h (StrictCall f) [] t l = absurd (omega (arith, l))
  invoke_has n w h (StrictCall f) (x ∷ ss) t l = h
  invoke_has n w h (Loop f k) ss t l = Contains-append_left (invoke_more n) (credit_arcs n) w h
  invoke_has n w h k ss t l = absurd (cc)

  loop_has : (n : ℕ) (w : Wire) → Contains (credit_arcs n) w → (k : Kind ℕ) (ss : List Source) → loop_kind k ≡ true → Contains (kind_more n k ss) w
  loop_has n w h (Loop f k) ss t = Contains-append_right (invoke_more n) (credit_arcs n) w h
  loop_has n w h k ss t = absurd (cc)

  some_source : (n : ℕ) (x : Node ℕ) → node_at b n ≡ Some x → (call_kind x.kind || loop_kind x.kind) ≡ true → 0 < length x.sources
  some_source n x e t = go x.kind refl t
    where
      takes : (k : Kind ℕ) → x.kind ≡ k → Takes fl k (length x.sources)
      takes k q = subst (λ j. Takes fl j (length x.sources)) q (fit.nodes n x e).takes

      go : (k : Kind ℕ) → x.kind ≡ k → (call_kind k || loop_kind k) ≡ true → 0 < length x.sources
      go (Call f) q t = (takes (Call f) q).some_input
      go (StrictCall f) q t = (takes (StrictCall f) q).some_input
      go (Loop f k) q t = (takes (Loop f k) q).0.some_input
      go k q t = absurd (cc)

  pub invoke_there : (n : ℕ) (w : Wire) → Contains (invoke_more n) w → (is_kind call_kind b n || is_kind loop_kind b n) ≡ true → Contains (answer_arcs s) w
  invoke_there n w h t = go (node_at b n) refl t
    where
      go : (o : Option (Node ℕ)) → node_at b n ≡ o
          → (elim o as (λ x. Bool) [ None ↦ false | Some line ↦ call_kind line.kind ]
          || elim o as (λ x. Bool) [ None ↦ false | Some line ↦ loop_kind line.kind ]) ≡ true → Contains (answer_arcs s) w
      go None e t = absurd (cc)
      go (Some x) e t = at_node n x w e (invoke_has n w h x.kind x.sources t (some_source n x e t))

  pub loop_there : (n : ℕ) (w : Wire) → Contains (credit_arcs n) w → is_kind loop_kind b n ≡ true → Contains (answer_arcs s) w
  loop_there n w h t = go (node_at b n) refl t
    where
      go : (o : Option (Node ℕ)) → node_at b n ≡ o → elim o as (λ x. Bool) [ None ↦ false | Some line ↦ loop_kind line.kind ] ≡ true
          → Contains (answer_arcs s) w
      go None e t = absurd (cc)
      go (Some x) e t = at_node n x w e (loop_has n w h x.kind x.sources t)

  pub turn_there : length s.block.results ≡ suc s.block.inputs → (w : Wire) → Contains (ask_arc ∷ fan_arc ∷ []) w → s.turns ≡ true → Contains (answer_arcs s) w
  turn_there count w h t =
      Contains-append_right (node_more b.inputs b.nodes) (tail_more b s.turns) w (subst (λ u. Contains (tail_more b u) w) (sym t) (go b.results count))
    where
      go : (xs : List Source) → length xs ≡ suc b.inputs → Contains (turn_more xs) w
      go [] e = absurd (omega (arith, e))
      go (x ∷ xs) e = h

-- HOW OFTEN. The machine answers one side of a part at most once
size_none : (t : Side) (ws : List Wire) → AllW (λ v. t ≢ v.from) ws → size t ws ≡ 0
size_none t [] h = refl
size_none t (w ∷ ws) h = go (same_side t w.from) refl (size_none t ws h.1)
  where
    go : (s : Bool) → same_side t w.from ≡ s → size t ws ≡ 0 → one s + size t ws ≡ 0
    go true e z = absurd (h.0 (side_is t w.from e))
    go false e z = omega (arith, z)

module _ (t : Side) where
  abbrev each : ℕ → ℕ
  each n = size t (invoke_more n) + size t (credit_arcs n)

  kind_each : (n : ℕ) (k : Kind ℕ) (ss : List Source) → size t (kind_more n k ss) ≤ each n
  kind_each n (Call f) ss = omega arith
  kind_each n (StrictCall f) [] = omega arith
  kind_each n (StrictCall f) (x ∷ ss) = omega arith
  kind_each n (Loop f k) ss = let s = size_both t (invoke_more n) (credit_arcs n) in omega (arith, s)
  kind_each n k ss = omega arith

  -- only one node's number has any
  module _ (m most : ℕ) (far : (n : ℕ) → n ≢ m → each n ≡ 0) (near : each m ≤ most) where
    none_after : (n : ℕ) (xs : List (Node ℕ)) → m < n → size t (node_more n xs) ≡ 0
    none_after n [] l = refl
    none_after n (x ∷ xs) l =
        let z = far n (λ e. omega (arith, e, l)) in
        let k = kind_each n x.kind x.sources in
        let r = none_after (n + 1) xs (omega (arith, l)) in
        let s = size_both t (kind_more n x.kind x.sources) (node_more (n + 1) xs) in
        omega (arith, z, k, r, s)

    nodes_most : (n : ℕ) (xs : List (Node ℕ)) → size t (node_more n xs) ≤ most
    nodes_most n [] = omega arith
    nodes_most n (x ∷ xs) = go (n == m) refl (nodes_most (n + 1) xs)
      where
        go : (y : Bool) → (n == m) ≡ y → size t (node_more (n + 1) xs) ≤ most → size t (node_more n (x ∷ xs)) ≤ most
        go true e h =
            let same : n ≡ m = eqb-true n m e in
            let here = ap each same in
            let k = kind_each n x.kind x.sources in
            let r = none_after (n + 1) xs (omega (arith, same)) in
            let s = size_both t (kind_more n x.kind x.sources) (node_more (n + 1) xs) in
            omega (arith, here, near, k, r, s)
        go false e h =
            let z = far n (λ q. let y = eq-eqb n m q in absurd (cc)) in
            let k = kind_each n x.kind x.sources in
            let s = size_both t (kind_more n x.kind x.sources) (node_more (n + 1) xs) in
            omega (arith, z, h, k, s)

  turns_most : (xs : List Source) → size t (turn_more xs) ≤ size t (ask_arc ∷ fan_arc ∷ [])
  turns_most [] = omega arith
  turns_most (x ∷ xs) = omega arith

  tail_most : (b : Block ℕ) (turns : Bool) → size t (tail_more b turns) ≤ size t (ask_arc ∷ fan_arc ∷ [])
  tail_most b false = omega arith
  tail_most b true = turns_most b.results

  all_most : (s : Site) (m most last : ℕ) → ((n : ℕ) → n ≢ m → each n ≡ 0) → each m ≤ most → size t (ask_arc ∷ fan_arc ∷ []) ≤ last
      → size t (answer_arcs s) ≤ most + last
  all_most s m most last far near turn =
      let a = nodes_most m most far near s.block.inputs s.block.nodes in
      let c = tail_most s.block s.turns in
      let d = size_both t (node_more s.block.inputs s.block.nodes) (tail_more s.block s.turns) in
      omega (arith, a, c, d, turn)

one_most : (x : Bool) → one x ≤ 1
one_most true = omega arith
one_most false = omega arith

differ : (u v : Side) → u ≢ v → one (same_side u v) ≡ 0
differ u v d = go (same_side u v) refl
  where
    go : (x : Bool) → same_side u v ≡ x → one x ≡ 0
    go true e = absurd (d (side_is u v e))
    go false e = refl

other_number : (f : ℕ → Part) → ((m n : ℕ) → f m ≡ f n → n ≡ m) → (m n : ℕ) → n ≢ m → one (same_side (side (f m) false) (side (f n) false)) ≡ 0
other_number f same m n d = differ (side (f m) false) (side (f n) false) (λ e. d (same m n (ap (λ (u : Side). u.part) e)))

-- no second side
second_none : (r q : Part) → one (same_side (side r true) (side q false)) ≡ 0
second_none r q = ap one (and_false (same_part r q))

abbrev pub answers : Part → Bool → ℕ
answers r true = 0
answers r false = length (answered_at r)

pub answers_most : (s : Site) (r : Part) (second : Bool) → has_no_wire r ≡ true → size (side r second) (answer_arcs s) ≤ answers r second
answers_most s r true h =
    all_most (side r true) s 0 0 0 (λ n d. none n) (let z = none 0 in omega (arith, z))
    (let a = second_none r Asker in let c = second_none r NextFramer in omega (arith, a, c))
  where
    none : (n : ℕ) → size (side r true) (invoke_more n) + size (side r true) (credit_arcs n) ≡ 0
    none n =
        let a = second_none r (Framer n) in
        let c = second_none r (Linker n) in
        let d = second_none r (Giver n) in
        let e = second_none r (Drainer n) in
        omega (arith, a, c, d, e)
answers_most s (Framer m) false h =
    all_most (side (Framer m) false) s m 1 0
    (λ n d. let z = other_number Framer (λ j k e. cc) m n d in omega (arith, z))
    (let z = one_most (same_side (side (Framer m) false) (side (Framer m) false)) in omega (arith, z)) (omega arith)
answers_most s (Linker m) false h =
    all_most (side (Linker m) false) s m 1 0
    (λ n d. let z = other_number Linker (λ j k e. cc) m n d in omega (arith, z))
    (let z = one_most (same_side (side (Linker m) false) (side (Linker m) false)) in omega (arith, z)) (omega arith)
answers_most s (Giver m) false h =
    all_most (side (Giver m) false) s m 1 0
    (λ n d. let z = other_number Giver (λ j k e. cc) m n d in omega (arith, z))
    (let z = one_most (same_side (side (Giver m) false) (side (Giver m) false)) in omega (arith, z)) (omega arith)
answers_most s (Drainer m) false h =
    all_most (side (Drainer m) false) s m 1 0
    (λ n d. let z = other_number Drainer (λ j k e. cc) m n d in omega (arith, z))
    (let z = one_most (same_side (side (Drainer m) false) (side (Drainer m) false)) in omega (arith, z)) (omega arith)
answers_most s (Parts.Taker m) false h = all_most (side (Parts.Taker m) false) s 0 0 0 (λ n d. refl) (omega arith) (omega arith)
answers_most s Parts.End false h = all_most (side Parts.End false) s 0 0 0 (λ n d. refl) (omega arith) (omega arith)
answers_most s NextFramer false h = all_most (side NextFramer false) s 0 0 1 (λ n d. refl) (omega arith) (omega arith)
answers_most s Asker false h = all_most (side Asker false) s 0 0 1 (λ n d. refl) (omega arith) (omega arith)
answers_most s r false h = absurd (cc)

-- so where no wire leaves, there are as many arcs as answers
pub arcs_of_answers : (fl : Flow) (s : Site) (r : Part) (second : Bool) → AllW (λ v. side r second ≢ v.from) (wires_in fl s) → has_no_wire r ≡ true
    → (size (side r second) (arcs_in fl s) ≤ answers r second) × (size (side r second) (wires_in fl s) ≡ 0)
arcs_of_answers fl s r second none h =
    let c = (arcs_mixed s fl).counts (side r second) in
    let z = size_none (side r second) (wires_in fl s) none in
    let a = answers_most s r second h in
    (omega (arith, c, z, a), z)
