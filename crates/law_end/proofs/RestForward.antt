-- What has fired sent its word along its wires: so the word is there.
use Rattle.std.proofs.Common.{◌≡◌, ℕ, ◌+◌, ◌<◌, ℤ, Bool, true, false, not, ◌⊎◌, inl, inr, List, ◌++◌, Option, Some, None, if◌then◌else◌, refl, sym, ap, ◌∙◌}
use Rattle.std.proofs.Common.{subst, arith, true≢false}
use Rattle.std.specs.Prelude.{Contains, flat_map}
use Rattle.std.proofs.lemmas.Bool.{cases_Bool}
use Rattle.std.proofs.lemmas.List.Elements.{Contains-append_left, Contains-append_right}
use Rattle.lemmas.proofs.Contains.{contains_none, contains_map}
use Rattle.tags.specs.declared.value.Value.{Value}
use Rattle.tags.specs.declared.token.Port.TheVariants.{Right}
use Rattle.operators.specs.Values.{truth}
use Rattle.semantics.specs.declared.graph.Region.{Region}
use Rattle.semantics.specs.declared.graph.Region.TheVariants.{Root, Arm}
use Rattle.semantics.specs.Graph.{Flow, Block}
use Rattle.semantics.specs.Plan.{Plan}
use Rattle.semantics.specs.Meaning.{Context}
use Rattle.semantics.specs.Machine.{Machine}
use Rattle.law_confluence.specs.OrdersTotals.{one, total}
use Rattle.law_confluence.proofs.Net.{weigh}
use Rattle.law_confluence.proofs.Orders.{total-append, total_there}
use Rattle.law_net.specs.ContextsParts.{Part, Line, Trigger, Gate, Framer, Linker, Giver, Taker, Drainer, TurnCont, TurnFlag, TurnValue, Asker, NextFramer, End}
use Rattle.law_net.specs.ContextsParts.{Asked, NextAsked, InCell, Drained, Shown, Done, Freed, Inlet, inlet, Datum, Item, item, Firing, Spot, spot_of}
use Rattle.law_net.specs.ContextsParts.{same_spot}
use Rattle.law_net.specs.ContextsParts.{Role}
use Rattle.law_net.specs.ContextsBlocks.{Side, side, waits_in, is_cell, leaves_in, lies_in, arm_round, is_switch, flag}
use Rattle.law_net.specs.Contexts.{Wires, block_in, wiring_in, IsContext}
use Rattle.law_net.specs.ContextsWires.{Carried, AValue, has_no_wire, is_unwired, is_side, wired_way, wired_port, predicate_at, right_only, cond_round, decider}
use Rattle.law_net.specs.ContextsWires.{arrives_at}
use Rattle.law_net.specs.ContextsFirings.{begins, takes, makes, sent_word, right_way, truth_of, HasFired}
use Rattle.law_net.specs.ContextsLaws.{maker_of, Carries}
use Rattle.law_net.specs.ContextsMirror.{Past}
use Rattle.law_net.specs.ContextsTheorem.{IsGood}
use Rattle.law_net.specs.ContextsPackages.{Keeps, InputsFit}
use Rattle.law_net.proofs.ContextsSames.{hits_at, hit_found, hit_counted, inlet_found}
use Rattle.law_net.proofs.WiredSends.{switch_side, side_by, sent_along, gives_by, splits, takes_right}
use Rattle.law_net.proofs.WiredNets.{all_of, total_flat, taken_in}
use Rattle.law_end.specs.Over.{is_turning, IsDecided, IsOpen}
use Rattle.law_end.proofs.OverSorts.{IsHere, laws, Sort, Last, Joins, Switches, Others, sort, Switched}
use Rattle.law_end.proofs.OverPaths.{Wire, wire_of}
use Rattle.law_end.proofs.OverMade.{Mirrors, taken_stands, allowed}
use Rattle.law_end.proofs.OverOpen.{one_side, arm_decided}
use Rattle.law_end.proofs.RestWaits.{carries}

-- a switch's second word is its conditional's
predicate_of : (b : Block ℕ) (r : Part) (j : ℕ) → is_switch r ≡ true → ((u : Bool) → leaves_in b r u ≡ Arm j (not u)) → predicate_at b r Right ≡ Some j
predicate_of b (Trigger k) j e l = let z : Arm k true ≡ Arm j true = l false in let same : k ≡ j = cc in ap Some same
predicate_of b (Gate n) j e l = go (lies_in b n) (l false)
  where
    go : (r : Region) → arm_round r true ≡ Arm j true → right_only Right (cond_round r) ≡ Some j
    go Root f = absurd (cc)
    go (Arm k t) f = let same : k ≡ j = cc in ap Some same
predicate_of b TurnCont j e l = let z : Arm (flag b) true ≡ Arm j true = l false in let same : flag b ≡ j = cc in ap Some same
predicate_of b TurnFlag j e l = let z : Arm (flag b) true ≡ Arm j true = l false in let same : flag b ≡ j = cc in ap Some same
predicate_of b (TurnValue v) j e l = let z : Arm (flag b) true ≡ Arm j true = l false in let same : flag b ≡ j = cc in ap Some same
predicate_of b r j e l = absurd (true≢false (sym e))

switch_value : (r : Part) → is_switch r ≡ true → arrives_at r Right ≡ AValue
switch_value (Trigger k) e = refl
switch_value (Gate n) e = refl
switch_value TurnCont e = refl
switch_value TurnFlag e = refl
switch_value (TurnValue j) e = refl
switch_value r e = absurd (true≢false (sym e))

switch_maker : (b : Block ℕ) (r : Part) → is_switch r ≡ true → maker_of b r ≡ r
switch_maker b (Trigger k) e = refl
switch_maker b (Gate n) e = refl
switch_maker b TurnCont e = refl
switch_maker b TurnFlag e = refl
switch_maker b (TurnValue j) e = refl
switch_maker b r e = absurd (true≢false (sym e))

switch_waits : (b : Block ℕ) (r : Part) → is_switch r ≡ true → (waits_in b r ≡ true)
switch_waits b (Trigger k) e = refl
switch_waits b (Gate n) e = refl
switch_waits b TurnCont e = refl
switch_waits b TurnFlag e = refl
switch_waits b (TurnValue j) e = refl
switch_waits b r e = absurd (true≢false (sym e))

switch_zero : (fl : Flow) (c : Context) (r : Part) → is_switch r ≡ true → right_way fl c r ≡ 0
switch_zero fl c (Trigger k) e = refl
switch_zero fl c (Gate n) e = refl
switch_zero fl c TurnCont e = refl
switch_zero fl c TurnFlag e = refl
switch_zero fl c (TurnValue j) e = refl
switch_zero fl c r e = absurd (true≢false (sym e))

switch_by : (fl : Flow) (h : Firing) (r : Part) → is_switch r ≡ true → side_by fl h r ≡ switch_side r h.right
switch_by fl h (Trigger k) e = refl
switch_by fl h (Gate n) e = refl
switch_by fl h TurnCont e = refl
switch_by fl h TurnFlag e = refl
switch_by fl h (TurnValue j) e = refl
switch_by fl h r e = absurd (true≢false (sym e))

turning_wires : (r : Part) → is_turning r ≡ true → has_no_wire r ≡ true
turning_wires (Giver n) e = refl
turning_wires (Taker n) e = refl
turning_wires (Drainer n) e = refl
turning_wires r e = absurd (true≢false (sym e))

not_turning : (r : Part) → has_no_wire r ≡ false → is_turning r ≡ false
not_turning r e = go (cases_Bool (is_turning r))
  where
    go : (is_turning r ≡ true) ⊎ (is_turning r ≡ false) → is_turning r ≡ false
    go (inl f) = absurd (true≢false (sym (turning_wires r f) ∙ e))
    go (inr f) = f

module _ (fl : Flow) (p : Plan) (w : Wires) (inputs : List ℤ) (past : Past) (m : Machine) (good : IsGood fl p w) (fit : InputsFit fl inputs)
    (kept : Keeps fl p w inputs past m) where
  abbrev done : List Firing
  done = kept.tracks.net.fired

  abbrev Stood : Item → Type 0
  Stood i = Mirrors fl p w inputs past m good fit kept i

  -- WHAT WAS MADE IS THERE
  stands_of : (x : Spot) → 0 < hits_at x (begins inputs) + weigh (makes fl w) (λ (i : Item). one (same_spot x (spot_of i))) kept.tracks.net.fired
      → (i : Item) × Stood i × (spot_of i ≡ x)
  stands_of x h =
      let net = kept.tracks.net in
      let g : Item → ℕ = λ (i : Item). one (same_spot x (spot_of i)) in
      let m = kept.sound.marked g in
      let first = total-append g net.pending (net.waiting ++ flat_map (takes fl) net.fired) in
      let second = total-append g net.waiting (flat_map (takes fl) net.fired) in
      let third = total_flat g (takes fl) net.fired in
      hit_found x (all_of fl net) (omega (arith, h, m, first, second, third))

  pub begin_stands : (i : Item) → Contains (begins inputs) i → (j : Item) × Stood j × (spot_of j ≡ spot_of i)
  begin_stands i c = stands_of (spot_of i) (let h = hit_counted (begins inputs) i c in omega (arith, h))

  pub made_stands : (h : Firing) (i : Item) → Contains done h → Contains (makes fl w h) i → (j : Item) × Stood j × (spot_of j ≡ spot_of i)
  made_stands h i c d =
      let g : Item → ℕ = λ (j : Item). one (same_spot (spot_of i) (spot_of j)) in
      let k = hit_counted (makes fl w h) i d in
      let more = total_there (λ (f : Firing). total g (makes fl w f)) kept.tracks.net.fired h c in
      stands_of (spot_of i) (omega (arith, k, more))

  -- what was given besides
  pub gift_stands : (h : Firing) (r : Part) (i : Item) → Contains done h → h.part ≡ r → Contains (gives_by fl w h r) i
      → (j : Item) × Stood j × (spot_of j ≡ spot_of i)
  gift_stands h r i c e d = made_stands h i c (subst (λ (l : List Item). Contains l i) (sym (splits fl w h))
      (Contains-append_left (gives_by fl w h h.part) (sent_along fl w h (side_by fl h h.part)) i
      (subst (λ (r : Part). Contains (gives_by fl w h r) i) (sym e) d)))

  pub sent_stands : (h : Firing) (s : Side) (x : Inlet) → Contains done h → Contains ((wiring_in fl w h.context).wire s) x → side_by fl h h.part ≡ Some s
      → (i : Item) × Stood i × (i.context ≡ h.context) × (i.inlet ≡ x)
  sent_stands h s x c goes g =
      let made : Contains (sent_along fl w h (Some s)) (item h.context x (sent_word fl h h.part)) =
      contains_map (λ (y : Inlet). item h.context y (sent_word fl h h.part)) ((wiring_in fl w h.context).wire s) x goes in
      let all = subst (λ (l : List Item). Contains l (item h.context x (sent_word fl h h.part))) (sym (splits fl w h))
      (Contains-append_right (gives_by fl w h h.part) (sent_along fl w h (side_by fl h h.part)) (item h.context x (sent_word fl h h.part))
      (subst (λ (o : Option Side). Contains (sent_along fl w h o) (item h.context x (sent_word fl h h.part))) (sym g) made)) in
      let (j, d, k) = made_stands h (item h.context x (sent_word fl h h.part)) c all in
      (j, d, ap (λ (y : Spot). y.context) k, ap (λ (y : Spot). y.inlet) k)

  -- IN A CONTEXT
  module _ (c : Context) (con : IsContext fl c) where
    abbrev b : Block ℕ
    b = block_in fl c

    abbrev pub Here : Part → Type 0
    Here r = IsHere fl p w good c con r

    abbrev pub Opens : Region → Type 0
    Opens r = IsOpen fl w kept.tracks.net.fired c r

    abbrev pub Fires : Part → Type 0
    Fires r = HasFired c r kept.tracks.net.fired

    -- an item at an inlet
    abbrev pub At : Inlet → Type 0
    At x = (i : Item) × Mirrors fl p w inputs past m good fit kept i × (i.context ≡ c) × (i.inlet ≡ x)

    -- who feeds an inlet
    pub feeder : (x : Inlet) → Here x.part → wired_way x.part x.way ≡ true → wired_port b x.part x.port ≡ true → is_unwired b x.part ≡ false
        → (s : Side) × Wire fl p w good c con s x
    feeder x here way port given =
        let fed = (laws fl p w good c con).fed.fed x here way port given in
        let hits = fed.3 in
        let found = inlet_found x ((wiring_in fl w c).wire fed.0) (omega (arith, hits)) in
        (fed.0, wire_of fl p w good c con fed.0 x fed.1 (subst (λ (y : Inlet). Contains ((wiring_in fl w c).wire fed.0) y) found.2 found.1))

    -- a side that leads somewhere is one, of a part with wires
    has_wires : (s : Side) (x : Inlet) → Contains ((wiring_in fl w c).wire s) x → (has_no_wire s.part ≡ false) × (is_side s ≡ true)
    has_wires s x d = (wires (cases_Bool (has_no_wire s.part)), sides (cases_Bool (is_side s)))
      where
        wires : (has_no_wire s.part ≡ true) ⊎ (has_no_wire s.part ≡ false) → has_no_wire s.part ≡ false
        wires (inr e) = e
        wires (inl e) = absurd (contains_none x (subst (λ (l : List Inlet). Contains l x) ((laws fl p w good c con).fed.sides s (inr e)) d))

        sides : (is_side s ≡ true) ⊎ (is_side s ≡ false) → is_side s ≡ true
        sides (inl e) = e
        sides (inr e) = absurd (contains_none x (subst (λ (l : List Inlet). Contains l x) ((laws fl p w good c con).fed.sides s (inl e)) d))

    -- THE SIDE along which it sent
    quiet_side : (h : Firing) → h.context ≡ c → (r : Part) → Here r → is_switch r ≡ false → has_no_wire r ≡ false
        → side_by fl h (maker_of b r) ≡ Some (side r false)
    quiet_side h a (Line n) here s e = go (is_cell b n) refl
      where
        go : (t : Bool) → is_cell b n ≡ t → side_by fl h (if t then InCell n else Line n) ≡ Some (side (Line n) false)
        go true g = refl
        go false g = ap (λ (t : Bool). if t then None else Some (side (Line n) false)) (ap (λ (d : Context). is_cell (block_in fl d) n) a ∙ g)
    quiet_side h a (InCell n) here s e = absurd (true≢false (sym here))
    quiet_side h a (Asked n) here s e = absurd (true≢false (sym here))
    quiet_side h a NextAsked here s e = absurd (true≢false (sym here))
    quiet_side h a (Drained n) here s e = absurd (true≢false (sym here))
    quiet_side h a (Shown j) here s e = absurd (true≢false (sym here))
    quiet_side h a Done here s e = absurd (true≢false (sym here))
    quiet_side h a Freed here s e = absurd (true≢false (sym here))
    quiet_side h a (Framer n) here s e = absurd (true≢false e)
    quiet_side h a (Linker n) here s e = absurd (true≢false e)
    quiet_side h a (Giver n) here s e = absurd (true≢false e)
    quiet_side h a (Taker n) here s e = absurd (true≢false e)
    quiet_side h a (Drainer n) here s e = absurd (true≢false e)
    quiet_side h a Asker here s e = absurd (true≢false e)
    quiet_side h a NextFramer here s e = absurd (true≢false e)
    quiet_side h a End here s e = absurd (true≢false e)
    quiet_side h a (Trigger k) here s e = absurd (true≢false s)
    quiet_side h a (Gate n) here s e = absurd (true≢false s)
    quiet_side h a TurnCont here s e = absurd (true≢false s)
    quiet_side h a TurnFlag here s e = absurd (true≢false s)
    quiet_side h a (TurnValue j) here s e = absurd (true≢false s)
    quiet_side h a r here s e = refl

    twice_not : (t u : Bool) → t ≡ not u → not t ≡ u
    twice_not t true e = ap not e
    twice_not t false e = ap not e

    switch_sent : (h : Firing) → Contains done h → h.context ≡ c → (r : Part) (second : Bool) → Here r → is_switch r ≡ true → h.part ≡ r → (j : ℕ)
        → Switched fl p w good c con j r → Opens (Arm j (not second)) → side_by fl h h.part ≡ Some (side r second)
    switch_sent h d a r second here s e j switch open' =
        let i = item h.context (inlet h.part Right (right_way fl h.context h.part)) h.right in
        let i' : Item = item c (inlet r Right 0) h.right in
        let same : i ≡ i' = (λ k. item (a k) (inlet (e k) Right (((λ l. right_way fl (a l) (e l)) ∙ switch_zero fl c r s) k)) h.right) in
        let took = taken_in fl done h i d (takes_right fl w h ((λ k. waits_in (block_in fl (a k)) (e k)) ∙ switch_waits b r s)) in
        let stood = subst Stood same (taken_stands fl p w inputs past m good fit kept i took) in
        let value : Carries fl w c 0 (arrives_at r Right) h.right = carries fl p w inputs past m good fit kept i' stood in
        by_value (subst (λ (x : Carried). Carries fl w c 0 x h.right) (switch_value r s) value)
        ((allowed fl p w inputs past m good fit kept i' stood).word (record { context = c; cond = j }) (refl, predicate_of b r j s switch.leaves))
      where
        by_value : (v : Value) × (h.right ≡ Datum v) → IsDecided fl w done (record { context = c; cond = j }) (truth_of h.right)
            → side_by fl h h.part ≡ Some (side r second)
        by_value (v, g) meant =
            let sides = one_side fl p w inputs past m good fit kept (record { context = c; cond = j }) (truth_of h.right) (not second) meant
            (arm_decided fl p w inputs past m good fit kept c con j (not second) switch.choice open') in
            ap (side_by fl h) e ∙ switch_by fl h r s ∙ ap (switch_side r) g
            ∙ ap (λ (t : Bool). Some (side r t)) (twice_not (truth v) second (ap truth_of (sym g) ∙ sides))

    pub sends : (h : Firing) → Contains done h → h.context ≡ c → (s : Side) (x : Inlet) → Wire fl p w good c con s x → h.part ≡ maker_of b s.part
        → Opens (leaves_in b s.part s.second) → side_by fl h h.part ≡ Some s
    sends h d a s x wire e open' = pick (cases_Bool (is_switch s.part))
      where
        wires : (has_no_wire s.part ≡ false) × (is_side s ≡ true)
        wires = has_wires s x wire.goes

        second_off : (t : Bool) → s.second ≡ t → is_switch s.part ≡ false → s.second ≡ false
        second_off false g f = g
        second_off true g f = absurd (true≢false (sym wires.1 ∙ ap (λ (t : Bool). elim t as (λ x. Bool) [ true ↦ is_switch s.part | false ↦ true ]) g ∙ f))

        by_sort : is_switch s.part ≡ true → Sort fl p w good c con s.part → side_by fl h h.part ≡ Some s
        by_sort f (Switches j x) = switch_sent h d a s.part s.second wire.from f (e ∙ switch_maker b s.part f) j x (subst Opens (x.leaves s.second) open')
        by_sort f (Last g) = absurd (true≢false (sym f ∙ ap is_switch g))
        by_sort f (Joins j x) = absurd (true≢false (sym f ∙ x.quiet.switch))
        by_sort f (Others o) = absurd (true≢false (sym f ∙ o.quiet.switch))

        pick : (is_switch s.part ≡ true) ⊎ (is_switch s.part ≡ false) → side_by fl h h.part ≡ Some s
        pick (inl f) = by_sort f (sort fl p w good c con s.part wire.from (not_turning s.part wires.0))
        pick (inr f) =
            ap (side_by fl h) e ∙ quiet_side h a s.part wire.from f wires.0 ∙ ap (λ (t : Bool). Some (side s.part t)) (sym (second_off s.second refl f))

    -- so its word is where the wire leads
    pub along : (s : Side) (x : Inlet) → Wire fl p w good c con s x → Fires (maker_of b s.part) → Opens (leaves_in b s.part s.second) → At x
    along s x wire (h, d, a, e) open' =
        let (i, stood, at, is) = sent_stands h s x d (subst (λ (c : Context). Contains ((wiring_in fl w c).wire s) x) (sym a) wire.goes)
        (sends h d a s x wire e open') in
        (i, stood, at ∙ a, is)

    -- what arrives from where a conditional is decided
    pub decided_arrives : (j : ℕ) (t : Bool) (s : Side) (x : Inlet) → Wire fl p w good c con s x → s ≡ decider b (wiring_in fl w c) j
        → IsDecided fl w done (record { context = c; cond = j }) t → Opens (leaves_in b s.part s.second) → At x
    decided_arrives j t s x wire same (h, d, source, says) open' =
        along s x wire (h, d, ap (λ (r : Role). r.context) source, ap (λ (r : Role). r.part) source ∙ ap (λ (s : Side). maker_of b s.part) (sym same)) open'
