-- Along the wires of any context: what feeds an inlet, what chose an arm, and that what decides a conditional is earlier.
use Rattle.std.proofs.Common.{◌≡◌, ℕ, zero, suc, ◌+◌, ◌<◌, ◌≤◌, Bool, true, false, not, ◌⊎◌, inl, inr, List, [], Some, refl, sym, ap, ◌∙◌, subst, arith}
use Rattle.std.proofs.Common.{true≢false, ltb-true}
use Rattle.std.specs.Prelude.{Contains}
use Rattle.std.proofs.lemmas.Bool.{and_parts, or_left, or_right}
use Rattle.std.proofs.lemmas.List.Elements.{Contains-append_left}
use Rattle.lemmas.proofs.Contains.{contains_head, contains_none}
use Rattle.tags.specs.declared.value.Value.{Value}
use Rattle.tags.specs.declared.token.Port.TheVariants.{Left, Right}
use Rattle.operators.specs.Values.{truth}
use Rattle.semantics.specs.declared.graph.Region.{Region}
use Rattle.semantics.specs.declared.graph.Region.TheVariants.{Root, Arm}
use Rattle.semantics.specs.Graph.{Block, Flow}
use Rattle.semantics.specs.Meaning.{Context}
use Rattle.semantics.proofs.Lines.{same_arm}
use Rattle.law_net.specs.ContextsParts.{Part, Entry, Line, Trigger, Gate, Framer, Fanned, Linker, Landing, CallDone, Giver, Taker, Drainer, LoopDone, TurnCont}
use Rattle.law_net.specs.ContextsParts.{TurnFlag, TurnValue, Asker, NextFramer, NextFanned, Inlet, inlet, Datum, Firing}
use Rattle.law_net.specs.ContextsBlocks.{Side, side, waits_in, invokes, is_call, is_loop, is_switch, region_of, entered, leaves_in, arm_round, lies_in, flag}
use Rattle.law_net.specs.Contexts.{block_in, site_in, wiring_in, IsContext}
use Rattle.law_net.specs.ContextsWires.{AValue, arrives_at, IsLaidOut, answered_at, has_no_wire, is_unwired, wired_way, wired_port, is_side, predicate_at}
use Rattle.law_net.specs.ContextsWires.{right_only, cond_round, decider}
use Rattle.law_net.specs.ContextsFirings.{right_way}
use Rattle.law_net.specs.ContextsLaws.{maker_of}
use Rattle.law_net.proofs.ContextsSames.{inlet_found}
use Rattle.law_net.proofs.WiredSends.{side_by, switch_side}
use Rattle.law_net.proofs.WiredInvoked.{code_at}
use Rattle.law_net.proofs.WiredRounds.{input_root}
use Rattle.law_end.specs.Over.{is_turning}
use Rattle.law_end.proofs.OverSorts.{IsHere, laws, Quiet, Joined, Switched, Other, Sort, Last, Joins, Switches, Others, sort, Taking, ByArm, ByOne, taking}
use Rattle.law_end.proofs.OverPaths.{Wire, wire_of}
use Rattle.law_end.proofs.CleanStill.{AtRest}

-- WHAT SWITCHES share
pub record Chooser (b : Block ℕ) (r : Part) : Type 0 where
  pub waits : waits_in b r ≡ true
  pub given : is_unwired b r ≡ false
  pub way : wired_way r 0 ≡ true
  pub value : arrives_at r Right ≡ AValue
  pub maker : maker_of b r ≡ r
  pub right : (fl : Flow) (c : Context) → right_way fl c r ≡ 0
  pub sends : (fl : Flow) (h : Firing) (v : Value) → h.right ≡ Datum v → side_by fl h r ≡ Some (side r (not (truth v)))

pub chooser : (b : Block ℕ) (r : Part) → is_switch r ≡ true → Chooser b r
chooser b (Trigger k) e =
    record { waits = refl; given = refl; way = refl; value = refl; maker = refl; right = λ fl c. refl; sends = λ fl h v g. ap (switch_side (Trigger k)) g }
chooser b (Gate n) e =
    record { waits = refl; given = refl; way = refl; value = refl; maker = refl; right = λ fl c. refl; sends = λ fl h v g. ap (switch_side (Gate n)) g }
chooser b TurnCont e =
    record { waits = refl; given = refl; way = refl; value = refl; maker = refl; right = λ fl c. refl; sends = λ fl h v g. ap (switch_side TurnCont) g }
chooser b TurnFlag e =
    record { waits = refl; given = refl; way = refl; value = refl; maker = refl; right = λ fl c. refl; sends = λ fl h v g. ap (switch_side TurnFlag) g }
chooser b (TurnValue j) e =
    record { waits = refl; given = refl; way = refl; value = refl; maker = refl; right = λ fl c. refl; sends = λ fl h v g. ap (switch_side (TurnValue j)) g }
chooser b r e = absurd (true≢false (sym e))

root_arm : (r : Region) (k : ℕ) (t : Bool) → r ≡ Root → r ≡ Arm k t → ⊥
root_arm r k t e f = let g : Root ≡ Arm k t = sym e ∙ f in absurd (cc)

-- its right word is that of the conditional whose arms it leads to
pub predicate_is : (b : Block ℕ) (r : Part) (j : ℕ) (t : Bool) → is_switch r ≡ true → leaves_in b r true ≡ Arm j t → predicate_at b r Right ≡ Some j
predicate_is b (Trigger k) j t e g = ap Some (same_arm k j false t g)
predicate_is b (Gate n) j t e g = go (lies_in b n) refl g
  where
    go : (r : Region) → lies_in b n ≡ r → arm_round r false ≡ Arm j t → right_only Right (cond_round r) ≡ Some j
    go Root e g = absurd (root_arm Root j t refl g)
    go (Arm k s) e g = ap Some (same_arm k j false t g)
predicate_is b TurnCont j t e g = ap Some (same_arm (flag b) j false t g)
predicate_is b TurnFlag j t e g = ap Some (same_arm (flag b) j false t g)
predicate_is b (TurnValue i) j t e g = ap Some (same_arm (flag b) j false t g)
predicate_is b r j t e g = absurd (true≢false (sym e))

module _ (u : AtRest) (c : Context) (con : IsContext u.fl c) where
  abbrev pub Here : Part → Type 0
  Here r = IsHere u.fl u.p u.w u.good c con r

  abbrev pub place : Part → ℕ
  place r = (wiring_in u.fl u.w c).place r

  abbrev pub block : Block ℕ
  block = block_in u.fl c

  -- THE SIDE that feeds an inlet
  pub record Feeder (x : Inlet) : Type 0 where
    pub from : Side
    pub is_side : is_side from ≡ true
    pub wire : Wire u.fl u.p u.w u.good c con from x
    pub turning : is_turning from.part ≡ false

  -- a part that sends along a wire is no credit's
  sends_turning : (s : Side) (x : Inlet) → (r : Part) → s.part ≡ r → Contains ((wiring_in u.fl u.w c).wire s) x → is_turning r ≡ false
  sends_turning s x (Giver n) e d =
      absurd (contains_none x (subst (λ (l : List Inlet). Contains l x) ((laws u.fl u.p u.w u.good c con).fed.sides s (inr (ap has_no_wire e))) d))
  sends_turning s x (Taker n) e d =
      absurd (contains_none x (subst (λ (l : List Inlet). Contains l x) ((laws u.fl u.p u.w u.good c con).fed.sides s (inr (ap has_no_wire e))) d))
  sends_turning s x (Drainer n) e d =
      absurd (contains_none x (subst (λ (l : List Inlet). Contains l x) ((laws u.fl u.p u.w u.good c con).fed.sides s (inr (ap has_no_wire e))) d))
  sends_turning s x r e d = refl

  -- what has no wire sends nothing
  pub sends_none : (s : Side) (x : Inlet) → has_no_wire s.part ≡ true → Contains ((wiring_in u.fl u.w c).wire s) x → ⊥
  sends_none s x e d = contains_none x (subst (λ (l : List Inlet). Contains l x) ((laws u.fl u.p u.w u.good c con).fed.sides s (inr e)) d)

  pub feeder : (x : Inlet) → Here x.part → wired_way x.part x.way ≡ true → wired_port (block_in u.fl c) x.part x.port ≡ true
      → is_unwired (block_in u.fl c) x.part ≡ false → Feeder x
  feeder x h way port given =
      let f = (laws u.fl u.p u.w u.good c con).fed.fed x h way port given in
      let o = inlet_found x ((wiring_in u.fl u.w c).wire f.0) (let one = f.3 in omega (arith, one)) in
      let goes = subst (λ (y : Inlet). Contains ((wiring_in u.fl u.w c).wire f.0) y) o.2 o.1 in
      record { from = f.0; is_side = f.2; wire = wire_of u.fl u.p u.w u.good c con f.0 x f.1 goes; turning = sends_turning f.0 x f.0.part refl goes }

  -- a side of a part that is no switch is its first
  pub first_side : (s : Side) → is_side s ≡ true → is_switch s.part ≡ false → s ≡ side s.part false
  first_side s e f = go s.second refl
    where
      go : (t : Bool) → s.second ≡ t → s ≡ side s.part false
      go true g = absurd (true≢false (sym (subst (λ (t : Bool). (elim t as (λ x. Bool) [ true ↦ is_switch s.part | false ↦ true ]) ≡ true) g e) ∙ f))
      go false g = λ k. record { part = s.part; second = g k }

  -- WHAT IS BEFORE a part to which no wire leads
  pub record Behind (r : Part) : Type 0 where
    pub from : Part
    pub here : IsHere u.fl u.p u.w u.good c con from
    pub turning : is_turning from ≡ false
    pub region : region_of (block_in u.fl c) from ≡ region_of (block_in u.fl c) r
    pub leaves : leaves_in (block_in u.fl c) from false ≡ region_of (block_in u.fl c) from
    pub rises : (wiring_in u.fl u.w c).place from < (wiring_in u.fl u.w c).place r

  pub answer_later : (r q : Part) → Here r → Contains (answered_at r) (inlet q Left 0) → place r < place q
  answer_later r q h d =
      (laws u.fl u.p u.w u.good c con).leads.forward (side r false) (inlet q Left 0) h
      (Contains-append_left (answered_at r) ((wiring_in u.fl u.w c).wire (side r false)) (inlet q Left 0) d)

  pub laid : IsLaidOut u.fl u.p u.w.variant (site_in u.fl u.w c) (wiring_in u.fl u.w c) (code_at u.fl u.p u.w u.good c con).code
  laid = (code_at u.fl u.p u.w u.good c con).laid

  pub link_first : (n : ℕ) → invokes (block_in u.fl c) n ≡ true → place (Linker n) < place (Landing n 0)
  link_first n h = answer_later (Linker n) (Landing n 0) h (contains_head (inlet (Landing n 0) Left 0) [])

  pub landing_at : (n j : ℕ) → Here (Landing n j) → place (Landing n j) ≡ place (Landing n 0) + j
  landing_at n j h = laid.landing n j h

  pub called_later : (n : ℕ) → is_call (block_in u.fl c) n ≡ true → place (Landing n 0) ≤ place (CallDone n)
  called_later n e = let row = laid.call_done n e in omega (arith, row)

  pub looped_later : (n : ℕ) → is_loop (block_in u.fl c) n ≡ true → place (Landing n 0) ≤ place (LoopDone n)
  looped_later n e =
      let row = (laid.credits n e).0 in let giver = answer_later (Giver n) (LoopDone n) e (contains_head (inlet (LoopDone n) Left 0) []) in
      omega (arith, row, giver)

  pub invokes_loop : (n : ℕ) → is_loop (block_in u.fl c) n ≡ true → invokes (block_in u.fl c) n ≡ true
  invokes_loop n e = or_right (is_call (block_in u.fl c) n) (is_loop (block_in u.fl c) n) e

  pub invokes_call : (n : ℕ) → is_call (block_in u.fl c) n ≡ true → invokes (block_in u.fl c) n ≡ true
  invokes_call n e = or_left (is_call (block_in u.fl c) n) (is_loop (block_in u.fl c) n) e

  behind_link : (n : ℕ) (r : Part) → invokes (block_in u.fl c) n ≡ true → lies_in (block_in u.fl c) n ≡ region_of (block_in u.fl c) r
      → place (Landing n 0) ≤ place r → Behind r
  behind_link n r h e later =
      let up = link_first n h in record { from = Linker n; here = h; turning = refl; region = e; leaves = refl; rises = omega (arith, up, later) }

  -- or it lies in the root
  pub behind : (r : Part) → Here r → is_turning r ≡ false → is_unwired (block_in u.fl c) r ≡ true → (region_of (block_in u.fl c) r ≡ Root) ⊎ Behind r
  behind Entry h t g = inl refl
  behind (Line n) h t g = inl (input_root (block_in u.fl c) n (ltb-true n (block_in u.fl c).inputs g))
  behind (Landing n j) h t g = let row = landing_at n j h in inr (behind_link n (Landing n j) (and_parts _ _ h).0 refl (omega (arith, row)))
  behind (CallDone n) h t g = inr (behind_link n (CallDone n) (invokes_call n h) refl (called_later n h))
  behind (LoopDone n) h t g = inr (behind_link n (LoopDone n) (invokes_loop n h) refl (looped_later n h))
  behind (Fanned n) h t g =
      inr
      (record {
        from = Framer n;
        here = h;
        turning = refl;
        region = refl;
        leaves = refl;
        rises = answer_later (Framer n) (Fanned n) h (contains_head (inlet (Fanned n) Left 0) []);
      })
  behind NextFanned h t g =
      inr
      (record {
        from = NextFramer;
        here = h;
        turning = refl;
        region = refl;
        leaves = refl;
        rises = answer_later NextFramer NextFanned h (contains_head (inlet NextFanned Left 0) []);
      })
  behind NextFramer h t g =
      inr
      (record {
        from = Asker;
        here = h;
        turning = refl;
        region = refl;
        leaves = refl;
        rises = answer_later Asker NextFramer h (contains_head (inlet NextFramer Left 0) []);
      })
  behind (Giver n) h t g = absurd (true≢false t)
  behind (Taker n) h t g = absurd (true≢false t)
  behind (Drainer n) h t g = absurd (true≢false t)
  behind r h t g = absurd (true≢false (sym g))

  -- WHAT CHOSE an arm
  pub record ArmStart (k : ℕ) (low : ℕ) : Type 0 where
    pub part : Part
    pub here : IsHere u.fl u.p u.w u.good c con part
    pub switch : Switched u.fl u.p u.w u.good c con k part
    pub early : (wiring_in u.fl u.w c).place part ≤ low

  abbrev StartsBelow : ℕ → Type 0
  StartsBelow n = (s : Side) → Here s.part → is_turning s.part ≡ false → is_side s ≡ true → place s.part < n → (k : ℕ) (t : Bool)
      → leaves_in (block_in u.fl c) s.part s.second ≡ Arm k t → ArmStart k (place s.part)

  start_early : (k low up : ℕ) → low ≤ up → ArmStart k low → ArmStart k up
  start_early k low up h a = let e = a.early in record { part = a.part; here = a.here; switch = a.switch; early = omega (arith, h, e) }

  -- what feeds an inlet that lies in an arm
  from_feeder : (n : ℕ) → StartsBelow n → (x : Inlet) → Feeder x → place x.part ≤ n → (k : ℕ) (t : Bool) → entered (block_in u.fl c) x.part x.way ≡ Arm k t
      → ArmStart k (place x.part)
  from_feeder n below x f near k t e =
      let up = f.wire.rises in
      start_early k (place f.from.part) (place x.part) (omega (arith, up))
      (below f.from f.wire.from f.turning f.is_side (omega (arith, up, near)) k t (sym f.wire.region ∙ e))

  pub zero_way : (r : Part) → Here r → is_unwired (block_in u.fl c) r ≡ false → wired_way r 0 ≡ true
  zero_way r h g = go (taking u.fl u.p u.w u.good c con r h g)
    where
      go : Taking u.fl u.p u.w u.good c con r → wired_way r 0 ≡ true
      go (ByArm j join) = join.way 0
      go (ByOne zeros one) = one 0

  pub left_feeder : (r : Part) → Here r → is_unwired (block_in u.fl c) r ≡ false → Feeder (inlet r Left 0)
  left_feeder r h g = feeder (inlet r Left 0) h (zero_way r h g) refl g

  arm_starts : (n : ℕ) → StartsBelow n
  arm_starts zero s h turns is near k t leaves = absurd (omega (arith, near))
  arm_starts (suc n) s h turns is near k t leaves = by_sort (sort u.fl u.p u.w u.good c con s.part h turns) (arm_starts n)
    where
      low : place s.part ≤ n
      low = omega (arith, near)

      out_of : Quiet u.fl u.p u.w u.good c con s.part → region_of (block_in u.fl c) s.part ≡ Arm k t
      out_of quiet = sym quiet.leaves ∙ ap (λ (s : Side). leaves_in (block_in u.fl c) s.part s.second) (sym (first_side s is quiet.switch)) ∙ leaves

      by_behind : StartsBelow n → region_of (block_in u.fl c) s.part ≡ Arm k t → (region_of (block_in u.fl c) s.part ≡ Root) ⊎ Behind s.part
          → ArmStart k (place s.part)
      by_behind below out (inl root) = absurd (root_arm (region_of (block_in u.fl c) s.part) k t root out)
      by_behind below out (inr b) =
          let up = b.rises in
          start_early k (place b.from) (place s.part) (omega (arith, up))
          (below (side b.from false) b.here b.turning refl (omega (arith, up, low)) k t (b.leaves ∙ b.region ∙ out))

      by_given : Other u.fl u.p u.w u.good c con s.part → region_of (block_in u.fl c) s.part ≡ Arm k t → StartsBelow n → (g : Bool)
          → is_unwired (block_in u.fl c) s.part ≡ g → ArmStart k (place s.part)
      by_given other out below true g = by_behind below out (behind s.part h turns g)
      by_given other out below false g = from_feeder n below (inlet s.part Left 0) (left_feeder s.part h g) low k t (other.enters 0 ∙ out)

      by_sort : Sort u.fl u.p u.w u.good c con s.part → StartsBelow n → ArmStart k (place s.part)
      by_sort (Last g) below =
          absurd (root_arm (leaves_in (block_in u.fl c) s.part s.second) k t (ap (λ (q : Part). leaves_in (block_in u.fl c) q s.second) g) leaves)
      by_sort (Switches j switch) below =
          let same : j ≡ k = same_arm j k (not s.second) t (sym (switch.leaves s.second) ∙ leaves) in
          record { part = s.part; here = h; switch = subst (λ (j : ℕ). Switched u.fl u.p u.w u.good c con j s.part) same switch; early = omega arith }
      by_sort (Others other) below = by_given other (out_of other.quiet) below (is_unwired (block_in u.fl c) s.part) refl
      by_sort (Joins j join) below =
          let inner = from_feeder n below (inlet s.part Left 0) (left_feeder s.part h join.given) low j true (join.enters 0) in
          let early = inner.early in let o = chooser (block_in u.fl c) inner.part inner.switch.switch in
          start_early k (place inner.part) (place s.part) early
          (from_feeder n below (inlet inner.part Left 0) (feeder (inlet inner.part Left 0) inner.here o.way refl o.given) (omega (arith, early, low)) k t
          (inner.switch.enters 0 ∙ sym join.region ∙ out_of join.quiet))

  -- WHAT DECIDES a conditional whose arms meet is earlier
  pub record Decides (k : ℕ) (up : ℕ) : Type 0 where
    pub from : Side
    pub is_side : is_side from ≡ true
    pub turning : is_turning from.part ≡ false
    pub here : IsHere u.fl u.p u.w u.good c con from.part
    pub is : from ≡ decider (block_in u.fl c) (wiring_in u.fl u.w c) k
    pub region : leaves_in (block_in u.fl c) from.part from.second ≡ lies_in (block_in u.fl c) k
    pub early : (wiring_in u.fl u.w c).place from.part < up

  decides : (k up : ℕ) → ArmStart k up → Decides k up
  decides k up a =
      let o = chooser (block_in u.fl c) a.part a.switch.switch in
      let f = feeder (inlet a.part Right 0) a.here o.way o.waits o.given in
      let rises = f.wire.rises in let early = a.early in
      record {
        from = f.from;
        is_side = f.is_side;
        turning = f.turning;
        here = f.wire.from;
        is =
            (laws u.fl u.p u.w u.good c con).arms.agree f.from (inlet a.part Right 0) k f.wire.from f.wire.goes
            (predicate_is (block_in u.fl c) a.part k false a.switch.switch (a.switch.leaves true));
        region = sym f.wire.region ∙ a.switch.enters 0;
        early = omega (arith, rises, early);
      }

  pub join_decides : (k : ℕ) (r : Part) → Here r → Joined u.fl u.p u.w u.good c con k r → Decides k (place r)
  join_decides k r h join =
      decides k (place r) (from_feeder (place r) (arm_starts (place r)) (inlet r Left 0) (left_feeder r h join.given) (omega arith) k true (join.enters 0))
