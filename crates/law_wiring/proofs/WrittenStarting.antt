-- What starts a call, a loop or the next turn: a call that is not strict, and a loop, wait for nothing but the entry or the trigger of their
-- arm, and a turn asks for a credit after its flag. All arguments are sent before a result arrives.
use Rattle.std.proofs.Common.{◌≡◌, ◌≢◌, ℕ, ◌<◌, ◌⊎◌, inl, inr, Bool, true, false, List, [], ◌∷◌, ◌++◌, length, refl, sym, ap, ◌∙◌, subst, arith, Contains}
use Rattle.lemmas.proofs.Contains.{contains_cases, contains_none}
use Rattle.tags.specs.declared.token.Port.TheVariants.{Left, Right}
use Rattle.semantics.specs.declared.graph.Region.{Region}
use Rattle.semantics.specs.declared.graph.Region.TheVariants.{Root, Arm}
use Rattle.semantics.specs.declared.graph.Source.{Source}
use Rattle.semantics.specs.declared.graph.Kind.{Kind}
use Rattle.semantics.specs.declared.graph.Kind.TheVariants.{Call, StrictCall, Loop}
use Rattle.semantics.specs.Graph.{Node, Flow}
use Rattle.law_confluence.specs.OrdersTotals.{one}
use Rattle.law_net.specs.ContextsParts.{Part, Framer, Opener, Asker, TurnFlag, DrainReturn, TurnCont, NextSender, NextFanned, Inlet, inlet, same_inlet}
use Rattle.law_net.specs.ContextsBlocks.{Side, side, Site, Wiring, there_in, is_call, is_strict, is_loop, call_kind, strict_kind, loop_kind}
use Rattle.law_net.specs.ContextsWires.{hits, is_start, IsFed, StartsRightly}
use Rattle.law_net.proofs.ContextsSames.{same_inlet-refl}
use Rattle.law_wiring.specs.Written.{Wire, wire, same_side, leaves, trigger_side, meet_wires, value_wires, next_wires, last_wires, kind_wires, turn_wires}
use Rattle.law_wiring.specs.Written.{tail_wires, wires_in}
use Rattle.law_wiring.specs.WrittenFit.{IsFit}
use Rattle.law_wiring.specs.WrittenHalves.{IsWritten}
use Rattle.law_wiring.proofs.PartsSame.{side_is}
use Rattle.law_wiring.proofs.WrittenMembers.{InW, wire_right, side_self}
use Rattle.law_wiring.proofs.WrittenNodes.{node_some, kind_at}
use Rattle.law_wiring.proofs.WrittenNodeWires.{node_in_block, tail_in_block}
use Rattle.law_wiring.proofs.FedEnds.{TurnsWell}
use Rattle.law_wiring.proofs.Fed.{are_fed}
use Rattle.law_wiring.proofs.WrittenWaits.{wire_there, wire_leads}

some_hit : (x : Inlet) (xs : List Inlet) → Contains xs x → 0 < hits x xs
some_hit x [] c = absurd (contains_none x c)
some_hit x (y ∷ xs) c = go (contains_cases y xs x c) (some_hit x xs)
  where
    go : (y ≡ x) ⊎ Contains xs x → (Contains xs x → 0 < hits x xs) → 0 < hits x (y ∷ xs)
    go (inl e) more = let o : one (same_inlet x y) ≡ 1 = ap (λ z. one (same_inlet x z)) e ∙ ap one (same_inlet-refl x) in omega (arith, o)
    go (inr k) more = let m = more k in omega (arith, m)

-- the wire that asks for a credit in a turn
asks_first : (s : Site) (xs : List Source) → 0 < length xs → InW (wire (side TurnFlag false) Asker Right) (turn_wires s xs)
asks_first s [] l = absurd (omega (arith, l))
asks_first s (x ∷ xs) l =
    let asked = wire (side TurnFlag false) Asker Right in
    let drain = meet_wires (side TurnCont true) (side TurnFlag true) DrainReturn in
    let rest = meet_wires (side NextFanned false) (side TurnCont false) (NextSender 0) ++ (next_wires 1 (length xs) ++ (last_wires 0 (length xs) ++ drain)) in
    inr
    (inr
    (inr (inr (wire_right asked (value_wires s (leaves s x) 1 xs) (meet_wires (side TurnCont false) (side TurnFlag false) Asker ++ rest) (inr (inl refl))))))

-- of a call that is not strict, and of a loop
call_starts : (s : Site) (n : ℕ) (r : Region) (k : Kind ℕ) (xs : List Source) → call_kind k ≡ true → strict_kind k ≡ false
    → InW (wire (trigger_side r) (Framer n) Left) (kind_wires s n r k xs)
call_starts s n r (Call f) xs c o = inl refl
call_starts s n r (StrictCall f) xs c o = absurd (cc)
call_starts s n r k xs c o = absurd (cc)

loop_starts : (s : Site) (n : ℕ) (r : Region) (k : Kind ℕ) (xs : List Source) → loop_kind k ≡ true
    → InW (wire (trigger_side r) (Opener n) Left) (kind_wires s n r k xs)
loop_starts s n r (Loop f k) xs l = inl refl
loop_starts s n r k xs l = absurd (cc)

trigger_starts : (r : Region) → is_start (trigger_side r).part ≡ true
trigger_starts Root = refl
trigger_starts (Arm k t) = refl

module _ (fl : Flow) (s : Site) (fit : IsFit fl s.block) (well : TurnsWell s) (w : Wiring) (h : IsWritten fl s w) where
  abbrev There : Part → Type 0
  There r = there_in fl s w r ≡ true

  -- ONE SIDE leads to an inlet
  the_one : (t u : Side) (x : Inlet) → There t.part → ((v : Side) → There v.part → v ≢ u → hits x (w.wire v) ≡ 0) → Contains (w.wire t) x → t ≡ u
  the_one t u x there none c = go (same_side t u) refl
    where
      go : (q : Bool) → same_side t u ≡ q → t ≡ u
      go true e = side_is t u e
      go false e =
          let apart : t ≢ u = λ q. let z = ap (same_side t) q ∙ e in let y = side_self t in absurd (cc) in
          let zero_hits = none t there apart in
          let some = some_hit x (w.wire t) c in
          absurd (omega (arith, zero_hits, some))

  same_origin : (t u : Side) (x : Inlet) → There t.part → There u.part → Contains (w.wire t) x → Contains (w.wire u) x → t ≡ u
  same_origin t u x there at c d =
      let fed = are_fed fl s fit well w h in
      let k = fed.inlets t x there c in
      let f : IsFed fl s w x = fed.fed x k.0 k.1 k.2 k.3 in
      the_one t f.0 x there f.4 c ∙ sym (the_one u f.0 x at f.4 d)

  -- so what leads to the end of a wire is where the wire comes from
  arrives_from : (v : Wire) (t : Side) (x : Inlet) → InW v (wires_in fl s) → Contains (w.wire v.from) x → There t.part → Contains (w.wire t) x → t ≡ v.from
  arrives_from v t x i d there c = same_origin t v.from x there (wire_there fl s fit well w h v i) c d

  pub starts_rightly : StartsRightly fl s w
  starts_rightly = record { calls = calls; loops = loops; asks = asks; sends = h.sends }
    where
      calls : (n : ℕ) (t : Side) → is_call s.block n ≡ true → is_strict s.block n ≡ false → There t.part → Contains (w.wire t) (inlet (Framer n) Left 0)
          → is_start t.part ≡ true
      calls n t call loose there c =
          let y = node_some s.block call_kind n call in
          let node : Node ℕ = y.0 in
          let v = wire (trigger_side node.region) (Framer n) Left in
          let i = node_in_block fl s v n node y.1
          (call_starts s n node.region node.kind node.sources y.2 (sym (kind_at s.block strict_kind n node y.1) ∙ loose)) in
          let from = arrives_from v t (inlet (Framer n) Left 0) i (wire_leads fl s fit well w h v i) there c in
          ap (λ (u : Side). is_start u.part) from ∙ trigger_starts node.region

      loops : (n : ℕ) (t : Side) → is_loop s.block n ≡ true → There t.part → Contains (w.wire t) (inlet (Opener n) Left 0) → is_start t.part ≡ true
      loops n t loop there c =
          let y = node_some s.block loop_kind n loop in
          let node : Node ℕ = y.0 in
          let v = wire (trigger_side node.region) (Opener n) Left in
          let i = node_in_block fl s v n node y.1 (loop_starts s n node.region node.kind node.sources y.2) in
          let from = arrives_from v t (inlet (Opener n) Left 0) i (wire_leads fl s fit well w h v i) there c in
          ap (λ (u : Side). is_start u.part) from ∙ trigger_starts node.region

      asks : (t : Side) → There t.part → Contains (w.wire t) (inlet Asker Right 0) → t.part ≡ TurnFlag
      asks t there c =
          let turns : s.turns ≡ true = h.lands t (inlet Asker Right 0) there c in
          let count = well turns in
          let v = wire (side TurnFlag false) Asker Right in
          let i = tail_in_block fl s v (subst (λ q. InW v (tail_wires s q)) (sym turns) (asks_first s s.block.results (omega (arith, count)))) in
          let from = arrives_from v t (inlet Asker Right 0) i (wire_leads fl s fit well w h v i) there c in
          ap (λ (u : Side). u.part) from
