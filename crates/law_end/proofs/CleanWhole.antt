-- At rest each part of a supplied context that lies in an open region has fired, if the same holds of all that the context invokes: by
-- the places of its parts.
use Rattle.std.proofs.Common.{◌≡◌, ℕ, zero, suc, ◌+◌, ◌<◌, ◌≤◌, Bool, true, false, ◌⊎◌, inl, inr, [], Option, Some, None, nat_lt, ◌==◌, if◌then◌else◌, refl}
use Rattle.std.proofs.Common.{sym, ap, ◌∙◌, subst, arith, true≢false, ltb-true, lt-ltb}
use Rattle.std.proofs.lemmas.Bool.{cases_Bool, cases_eq, and_parts, and_from, or_cases}
use Rattle.lemmas.proofs.Contains.{contains_head}
use Rattle.tags.specs.declared.token.Port.TheVariants.{Left, Right}
use Rattle.semantics.specs.declared.graph.Region.{Region}
use Rattle.semantics.specs.declared.graph.Region.TheVariants.{Root, Arm}
use Rattle.semantics.specs.Graph.{Block, Node}
use Rattle.semantics.specs.Meaning.{Context, Main, Called, Turned}
use Rattle.semantics.specs.Cause.{is_turn}
use Rattle.semantics.proofs.Lines.{same_arm}
use Rattle.law_net.specs.ContextsParts.{Part, Entry, Line, Framer, Fanned, Linker, Sender, Landing, CallDone, Giver, Taker, Drainer, LoopDone, Result, TurnFlag}
use Rattle.law_net.specs.ContextsParts.{Asker, NextFramer, NextFanned, NextSender, LastReturn, DrainReturn, End, Asked, NextAsked, InCell, Drained}
use Rattle.law_net.specs.ContextsParts.{Inlet, inlet}
use Rattle.law_net.specs.ContextsParts.{Firing, role, turn_in}
use Rattle.law_net.specs.ContextsBlocks.{Side, there_in, waits_in, is_cell, is_call, is_loop, invokes, pair_kind, source_count, result_count, lies_in}
use Rattle.law_net.specs.ContextsBlocks.{region_of, entered, leaves_in, flag}
use Rattle.law_net.specs.Contexts.{block_in, site_in, wiring_in, IsContext, is_strict_in}
use Rattle.law_net.specs.ContextsWires.{wired_way, wired_port, is_unwired, decider}
use Rattle.law_net.specs.ContextsFirings.{right_way}
use Rattle.law_net.specs.ContextsLaws.{maker_of, says}
use Rattle.law_net_refines_meaning.proofs.FiringsNodes.{input_none}
use Rattle.law_net.proofs.WiredInvoked.{call_invoked, loop_invoked}
use Rattle.law_end.specs.Over.{IsDecided, IsOpen, is_turning}
use Rattle.law_end.proofs.OverSorts.{laws, Joined, Switched, Sort, Last, Joins, Switches, Others, sort}
use Rattle.law_end.proofs.OverOpen.{arm_open}
use Rattle.law_end.proofs.OverBack.{frame_from}
use Rattle.law_end.proofs.CleanStill.{AtRest, Arrives, Fired, asked_arrives, argument_arrives, fanned_arrives, result_arrives, last_arrives}
use Rattle.law_end.proofs.CleanStill.{drain_arrives, called_arrives}
use Rattle.law_end.proofs.CleanStill.{giver_arrives, credit_arrives, framer_arrives, next_asked_arrives, next_fanned_arrives, loop_done_arrives}
use Rattle.law_end.proofs.CleanFires.{fires_one, fires_two}
use Rattle.law_end.proofs.CleanStarts.{feeder, zero_way, left_feeder, answer_later, link_first, landing_at, called_later, looped_later, invokes_call}
use Rattle.law_end.proofs.CleanStarts.{invokes_loop, join_decides}
use Rattle.law_end.proofs.CleanAlong.{side_open, maker_fires, chose, sends}
use Rattle.law_end.proofs.CleanCredits.{taker_fires, drained_fires}
use Rattle.law_end.proofs.CleanSupplied.{size, turn_of, AllFired, Supplied, AllSent, call_supplied, loop_supplied, next_supplied, late}
use Rattle.law_confluence.specs.OrdersTotals.{total}

-- the flag of a turn
pub flag_switched : (u : AtRest) (c : Context) (con : IsContext u.fl c) → is_turn c ≡ true
    → Switched u.fl u.p u.w u.good c con (flag (block_in u.fl c)) TurnFlag
flag_switched u c con e = go (sort u.fl u.p u.w u.good c con TurnFlag e refl)
  where
    go : Sort u.fl u.p u.w u.good c con TurnFlag → Switched u.fl u.p u.w u.good c con (flag (block_in u.fl c)) TurnFlag
    go (Last g) = absurd (cc)
    go (Joins k j) = absurd (true≢false j.quiet.switch)
    go (Others o) = absurd (true≢false o.quiet.switch)
    go (Switches k s) =
        subst (λ (k : ℕ). Switched u.fl u.p u.w u.good c con k TurnFlag) (sym (same_arm (flag (block_in u.fl c)) k false false (s.leaves true))) s

-- no `take` makes what goes along wires
maker_turn : (b : Block ℕ) (r : Part) (t : ℕ) → is_turning r ≡ false → turn_in (maker_of b r) t ≡ 0
maker_turn b (Line n) t e = go (is_cell b n)
  where
    go : (s : Bool) → turn_in (if s then InCell n else Line n) t ≡ 0
    go true = refl
    go false = refl
maker_turn b (Taker n) t e = absurd (true≢false e)
maker_turn b r t e = refl

abbrev way_for : Bool → ℕ
way_for t = if t then 0 else 1

two_way : (t : Bool) → nat_lt (way_for t) 2 ≡ true
two_way true = refl
two_way false = refl

back_way : (t : Bool) → (way_for t == 0) ≡ t
back_way true = refl
back_way false = refl

module _ (u : AtRest) (c : Context) (sup : Supplied u c) (inner : (d : Context) → size d ≡ suc (size c) → Supplied u d → AllFired u d) where
  con : IsContext u.fl c
  con = sup.is_context

  abbrev Here : Part → Type 0
  Here r = there_in u.fl (site_in u.fl u.w c) (wiring_in u.fl u.w c) r ≡ true

  abbrev place : Part → ℕ
  place r = (wiring_in u.fl u.w c).place r

  abbrev Open : Region → Type 0
  Open r = IsOpen u.fl u.w u.kept.tracks.net.fired c r

  abbrev RestBelow : ℕ → Type 0
  RestBelow n = (r : Part) → Here r → is_turning r ≡ false → place r < n → Open (region_of (block_in u.fl c) r) → Fired u c r

  -- WHAT IT INVOKES is supplied when its landing is reached
  all_sent : (n : ℕ) → invokes (block_in u.fl c) n ≡ true → (up : ℕ) → place (Landing n 0) ≤ up → RestBelow up → Open (lies_in (block_in u.fl c) n)
      → AllSent u c n
  all_sent n h up low below open' = record {
    linker = below (Linker n) h refl (let first = link_first u c con n h in omega (arith, first, low)) open';
    senders =
        λ l less. below (Sender n l) (and_from _ _ h (lt-ltb l (source_count (block_in u.fl c) n) less)) refl
        (let first = (laws u.fl u.p u.w u.good c con).leads.starts.sends n l h less in omega (arith, first, low)) open';
    opened = open';
  }

  call_over : (n : ℕ) → is_call (block_in u.fl c) n ≡ true → AllSent u c n → AllFired u (Called c n)
  call_over n e s = inner (Called c n) refl (call_supplied u c con sup.inside n e s)

  -- all turns of a loop, to the last
  pub record TurnsOver (n : ℕ) : Type 0 where
    pub last : ℕ
    pub over : (t : ℕ) → t ≤ last → AllFired u (Turned c n t) × IsOpen u.fl u.w u.kept.tracks.net.fired (Turned c n t) Root
    pub leaves : IsOpen u.fl u.w u.kept.tracks.net.fired (Turned c n last) (Arm (flag (block_in u.fl (Turned c n last))) false)

  module _ (n : ℕ) (l : is_loop (block_in u.fl c) n ≡ true) where
    abbrev Over : ℕ → Type 0
    Over t = AllFired u (Turned c n t) × IsOpen u.fl u.w u.kept.tracks.net.fired (Turned c n t) Root

    flagged : (t : ℕ) (s : Supplied u (Turned c n t)) → Fired u (Turned c n t) TurnFlag
        → (way : Bool) × IsOpen u.fl u.w u.kept.tracks.net.fired (Turned c n t) (Arm (flag (block_in u.fl (Turned c n t))) way)
    flagged t s f =
        let switch = flag_switched u (Turned c n t) s.is_context refl in
        let o = chose u (Turned c n t) s.is_context s.inside (flag (block_in u.fl (Turned c n t))) TurnFlag switch f in (
          o.way,
          arm_open u.fl u.p u.w u.inputs u.past u.m u.good u.fit u.kept (Turned c n t) s.is_context
              (flag (block_in u.fl (Turned c n t))) o.way switch.choice o.decided
              (subst (λ (r : Region). IsOpen u.fl u.w u.kept.tracks.net.fired (Turned c n t) r) switch.region s.opened),
        )

    chain : (k t : ℕ) → total (λ (f : Firing). turn_of f.context) u.kept.tracks.net.fired < t + k → Supplied u (Turned c n t) → ((s : ℕ) → s < t → Over s)
        → TurnsOver n
    chain zero t far s before = let low = late u (Turned c n t) Entry (fires_one u (Turned c n t) s.inside Entry 0 refl refl s.entry) in absurd (omega (arith, far, low))
    chain (suc k) t far s before = go (flagged t s (all TurnFlag refl refl s.opened)) (λ more. chain k (suc t) (omega (arith, far)) more now)
      where
        all : AllFired u (Turned c n t)
        all = inner (Turned c n t) refl s

        now : (v : ℕ) → v < suc t → Over v
        now v low = pick (cases_eq v t)
          where
            pick : (v ≡ t) ⊎ (v ≡ t → ⊥) → Over v
            pick (inl e) = subst Over (sym e) (all, s.opened)
            pick (inr x) = before v (omega (arith, low, x))

        go : (way : Bool) × IsOpen u.fl u.w u.kept.tracks.net.fired (Turned c n t) (Arm (flag (block_in u.fl (Turned c n t))) way)
            → (Supplied u (Turned c n (suc t)) → TurnsOver n) → TurnsOver n
        go (true, open') more =
            more (next_supplied u c con n t (u.turned c n (suc t) sup.inside) l open' (λ j low. all (NextSender j) (lt-ltb j ((block_in u.fl (Turned c n t)).inputs + 1) low) refl open'))
        go (false, open') more = record { last = t; over = λ v low. now v (omega (arith, low)); leaves = open' }

    turns_over : AllSent u c n → TurnsOver n
    turns_over s =
        chain (suc (total (λ (f : Firing). turn_of f.context) u.kept.tracks.net.fired)) 0 (omega arith) (loop_supplied u c con sup.inside n l s)
        (λ v low. absurd (omega (arith, low)))

    loop_drained : AllSent u c n → Fired u c (Drained n)
    loop_drained s =
        let o = turns_over s in
        drained_fires u c con n l o.last (drain_arrives u c n o.last ((o.over o.last (omega arith)).0 DrainReturn refl refl o.leaves))
        (λ v low. giver_arrives u c n v ((o.over v low).0 End refl refl (o.over v low).1))

    loop_lands : (j : ℕ) → nat_lt j (result_count u.fl (block_in u.fl c) n) ≡ true → AllSent u c n → Fired u c (Landing n j)
    loop_lands j low s =
        let o = turns_over s in
        let same = (loop_invoked u.fl u.p u.w u.good c n o.last con l).1 in
        fires_one u c sup.inside (Landing n j) o.last refl refl
        (last_arrives u c n o.last j ((o.over o.last (omega arith)).0 (LastReturn j) (ap (nat_lt j) (sym same) ∙ low) refl o.leaves))

  -- WHERE NO WIRE LEADS
  asked_back : (d : Context) → d ≡ c → is_turn d ≡ true → Fired u d Asker → Fired u c NextFramer
  asked_back Main e t f = absurd (true≢false (sym t))
  asked_back (Called d n) e t f = absurd (true≢false (sym t))
  asked_back (Turned d n t) e turn f =
      let con' : IsContext u.fl (Turned d n t) = subst (IsContext u.fl) (sym e) con in
      let (h, o, a, g, way) = taker_fires u d con'.0 n con'.1 t (subst u.Inside (sym e) sup.inside) (credit_arrives u d n t f) in
      subst (λ (c : Context). Fired u c NextFramer) e (fires_one u (Turned d n t) (subst u.Inside (sym e) sup.inside) NextFramer 0 refl refl (framer_arrives u d n t h o a g way))

  given_fires : (r : Part) → Here r → is_turning r ≡ false → is_unwired (block_in u.fl c) r ≡ true → Open (region_of (block_in u.fl c) r) → RestBelow (place r)
      → Fired u c r
  given_fires Entry h t g open' below = fires_one u c sup.inside Entry 0 refl refl sup.entry
  given_fires (Line n) h t g open' below =
      fires_one u c sup.inside (Line n) 0 refl (ap (λ (o : Option (Node ℕ)). elim o as (λ x. Bool) [ None ↦ false | Some node ↦ pair_kind node.kind ])
      (input_none (block_in u.fl c) n g)) (sup.inputs n (ltb-true n (block_in u.fl c).inputs g))
  given_fires (Fanned n) h t g open' below =
      let framer = below (Framer n) h refl (answer_later u c con (Framer n) (Fanned n) h (contains_head (inlet (Fanned n) Left 0) [])) open' in
      fires_one u c sup.inside (Fanned n) 0 refl refl (fanned_arrives u c n (fires_one u c sup.inside (Asked n) 0 refl refl (asked_arrives u c n framer)))
  given_fires NextFanned h t g open' below =
      let framer = below NextFramer h refl (answer_later u c con NextFramer NextFanned h (contains_head (inlet NextFanned Left 0) [])) open' in
      fires_one u c sup.inside NextFanned 0 refl refl (next_fanned_arrives u c (fires_one u c sup.inside NextAsked 0 refl refl (next_asked_arrives u c framer)))
  given_fires NextFramer h t g open' below =
      asked_back c refl h (below Asker h refl (answer_later u c con Asker NextFramer h (contains_head (inlet NextFramer Left 0) [])) open')
  given_fires (Landing n j) h t g open' below = pick (or_cases (is_call (block_in u.fl c) n) (is_loop (block_in u.fl c) n) (both h).0)
    where
      both : Here (Landing n j) → (invokes (block_in u.fl c) n ≡ true) × (nat_lt j (result_count u.fl (block_in u.fl c) n) ≡ true)
      both h = and_parts (invokes (block_in u.fl c) n) (nat_lt j (result_count u.fl (block_in u.fl c) n)) h

      low : nat_lt j (result_count u.fl (block_in u.fl c) n) ≡ true
      low = (both h).1

      up : place (Landing n 0) ≤ place (Landing n j)
      up = let row = landing_at u c con n j h in omega (arith, row)

      sent : AllSent u c n
      sent = all_sent n (both h).0 (place (Landing n j)) up below open'

      pick : (is_call (block_in u.fl c) n ≡ true) ⊎ (is_loop (block_in u.fl c) n ≡ true) → Fired u c (Landing n j)
      pick (inr l) = loop_lands n l j low sent
      pick (inl e) =
          let same = (call_invoked u.fl u.p u.w u.good c n con e).1 in
          fires_one u c sup.inside (Landing n j) 0 refl refl
          (result_arrives u c n j (call_over n e sent (Result j) (ap (nat_lt j) (sym same) ∙ low) refl (call_supplied u c con sup.inside n e sent).opened))
  given_fires (CallDone n) h t g open' below =
      let sent = all_sent n (invokes_call u c con n h) (place (CallDone n)) (called_later u c con n h) below open' in
      fires_one u c sup.inside (CallDone n) 0 refl refl (called_arrives u c n (call_over n h sent End refl refl (call_supplied u c con sup.inside n h sent).opened))
  given_fires (LoopDone n) h t g open' below =
      fires_one u c sup.inside (LoopDone n) 0 refl refl
      (loop_done_arrives u c n (loop_drained n h (all_sent n (invokes_loop u c con n h) (place (LoopDone n)) (looped_later u c con n h) below open')))
  given_fires (Giver n) h t g open' below = absurd (true≢false t)
  given_fires (Taker n) h t g open' below = absurd (true≢false t)
  given_fires (Drainer n) h t g open' below = absurd (true≢false t)
  given_fires r h t g open' below = absurd (true≢false (sym g))

  -- WHERE A WIRE LEADS
  arrives : (x : Inlet) → Here x.part → wired_way x.part x.way ≡ true → wired_port (block_in u.fl c) x.part x.port ≡ true
      → is_unwired (block_in u.fl c) x.part ≡ false → Open (entered (block_in u.fl c) x.part x.way) → RestBelow (place x.part) → Arrives u c x
  arrives x h way port given open' below =
      let f = feeder u c con x h way port given in
      let leaves = subst Open f.wire.region open' in
      sends u c con sup.inside f.from x f.wire f.is_side f.turning leaves
      (below f.from.part f.wire.from f.turning f.wire.rises (side_open u c con sup.inside f.from f.wire.from f.turning f.is_side leaves))

  -- the right word: a strict call's arguments are sent when it fires
  strict_arrives : (n l : ℕ) → Here (Sender n l) → is_strict_in u.fl c n ≡ true → Open (lies_in (block_in u.fl c) n) → RestBelow (place (Sender n l))
      → Arrives u c (inlet (Sender n l) Right 1)
  strict_arrives n l h strict open' below =
      let invoked = (and_parts (invokes (block_in u.fl c) n) (nat_lt l (source_count (block_in u.fl c) n)) h).0 in
      let f = left_feeder u c con (Sender n l) h refl in
      let from = frame_from n f.from.part ((laws u.fl u.p u.w u.good c con).leads.suits f.from (inlet (Sender n l) Left 0) f.wire.from f.wire.goes) in
      let near : place (Fanned n) < place (Sender n l) = subst (λ (r : Part). place r < place (Sender n l)) from f.wire.rises in
      let up = answer_later u c con (Framer n) (Fanned n) invoked (contains_head (inlet (Fanned n) Left 0) []) in
      argument_arrives u c n l (below (Framer n) invoked refl (omega (arith, near, up)) open') strict
      (ltb-true l (source_count (block_in u.fl c) n) (and_parts (invokes (block_in u.fl c) n) (nat_lt l (source_count (block_in u.fl c) n)) h).1)

  right_arrives : (r : Part) → Here r → waits_in (block_in u.fl c) r ≡ true → is_unwired (block_in u.fl c) r ≡ false → Open (region_of (block_in u.fl c) r)
      → Open (entered (block_in u.fl c) r 0) → RestBelow (place r) → Arrives u c (inlet r Right (right_way u.fl c r))
  right_arrives (Sender n l) h two given region open' below = go (is_strict_in u.fl c n) refl
    where
      go : (t : Bool) → is_strict_in u.fl c n ≡ t → Arrives u c (inlet (Sender n l) Right (if t then 1 else 0))
      go true e = strict_arrives n l h e region below
      go false e = arrives (inlet (Sender n l) Right 0) h (zero_way u c con (Sender n l) h given) two given open' below
  right_arrives r h two given region open' below = arrives (inlet r Right 0) h (zero_way u c con r h given) two given open' below

  plainly : (r : Part) → Here r → is_turning r ≡ false → is_unwired (block_in u.fl c) r ≡ false → Open (region_of (block_in u.fl c) r)
      → Open (entered (block_in u.fl c) r 0) → RestBelow (place r) → Fired u c r
  plainly r h turns given region open' below = go (cases_Bool (waits_in (block_in u.fl c) r))
    where
      left : Arrives u c (inlet r Left 0)
      left = arrives (inlet r Left 0) h (zero_way u c con r h given) refl given open' below

      go : (waits_in (block_in u.fl c) r ≡ true) ⊎ (waits_in (block_in u.fl c) r ≡ false) → Fired u c r
      go (inl two) = fires_two u c r 0 turns left (right_arrives r h two given region open' below)
      go (inr one) = fires_one u c sup.inside r 0 turns one left

  -- what joins two arms takes the word of that which was taken
  joining : (k : ℕ) (r : Part) → Here r → Joined u.fl u.p u.w u.good c con k r → Open (lies_in (block_in u.fl c) k) → RestBelow (place r) → Fired u c r
  joining k r h join open' below =
      let d = join_decides u c con k r h join in
      let leaves : Open (leaves_in (block_in u.fl c) d.from.part d.from.second) = subst Open (sym d.region) open' in
      by_source d.from d.is d.turning (maker_fires u c con sup.inside d.from.part
      (below d.from.part d.here d.turning d.early (side_open u c con sup.inside d.from d.here d.turning d.is_side leaves)))
    where
      by_way : (t : Bool) → IsDecided u.fl u.w u.kept.tracks.net.fired (record { context = c; cond = k }) t → Fired u c r
      by_way t decided =
          let opened : Open (entered (block_in u.fl c) r (way_for t)) = subst Open (sym (join.enters (way_for t) ∙ ap (Arm k) (back_way t)))
          (arm_open u.fl u.p u.w u.inputs u.past u.m u.good u.fit u.kept c con k t join.choice decided open') in
          fires_one u c sup.inside r (way_for t) join.quiet.turning join.waits
          (arrives (inlet r Left (way_for t)) h (join.way (way_for t) ∙ two_way t) refl join.given opened below)

      by_source : (s : Side) → s ≡ decider (block_in u.fl c) (wiring_in u.fl u.w c) k → is_turning s.part ≡ false
          → Fired u c (maker_of (block_in u.fl c) s.part) → Fired u c r
      by_source s is turns (f, d, a, e) =
          let part : f.part ≡ maker_of (block_in u.fl c) (decider (block_in u.fl c) (wiring_in u.fl u.w c) k).part = e
          ∙ ap (λ (s : Side). maker_of (block_in u.fl c) s.part) is in
          let turn : turn_in f.part f.way ≡ 0 = ap (λ (r : Part). turn_in r f.way) e ∙ maker_turn (block_in u.fl c) s.part f.way turns in
          by_way (says u.fl f) (f, d, (λ i. role (a i) (part i) (turn i)), refl)

  rest_below : (n : ℕ) → RestBelow n
  rest_below zero r h turns low open' = absurd (omega (arith, low))
  rest_below (suc n) r h turns low open' =
      by_given (is_unwired (block_in u.fl c) r) refl (λ q here t lower o. rest_below n q here t (omega (arith, low, lower)) o)
    where
      by_sort : is_unwired (block_in u.fl c) r ≡ false → Sort u.fl u.p u.w u.good c con r → RestBelow (place r) → Fired u c r
      by_sort g (Last e) below = plainly r h turns g open' (subst (λ (q : Part). Open (entered (block_in u.fl c) q 0)) (sym e) sup.opened) below
      by_sort g (Joins k j) below = joining k r h j (subst Open j.region open') below
      by_sort g (Switches k s) below = plainly r h turns g open' (subst Open (s.region ∙ sym (s.enters 0)) open') below
      by_sort g (Others o) below = plainly r h turns g open' (subst Open (sym (o.enters 0)) open') below

      by_given : (t : Bool) → is_unwired (block_in u.fl c) r ≡ t → RestBelow (place r) → Fired u c r
      by_given true g below = given_fires r h turns g open' below
      by_given false g below = by_sort g (sort u.fl u.p u.w u.good c con r h turns) below

  pub all_fired : AllFired u c
  all_fired r h turns open' = rest_below (suc (place r)) r h turns (omega arith) open'
