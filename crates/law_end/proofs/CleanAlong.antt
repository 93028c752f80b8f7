-- At rest: a part that has fired sent along each of its sides whose region is open; and a switch that has fired shows for which side it was decided.
use Rattle.std.proofs.Common.{◌≡◌, ℕ, Bool, true, false, not, Some, None, if◌then◌else◌, refl, sym, ap, ◌∙◌, subst, true≢false}
use Rattle.std.specs.Prelude.{Contains}
use Rattle.tags.specs.declared.token.Port.TheVariants.{Right}
use Rattle.operators.specs.Values.{truth}
use Rattle.semantics.specs.declared.graph.Region.{Region}
use Rattle.semantics.specs.Meaning.{Context}
use Rattle.law_net.specs.ContextsParts.{Part, Line, Trigger, Gate, Framer, Linker, Giver, Taker, Drainer, TurnCont, TurnFlag, TurnValue, Asker, NextFramer, End}
use Rattle.law_net.specs.ContextsParts.{Asked, NextAsked, InCell, Drained, Shown, Done, Freed, Inlet, inlet, item, Firing}
use Rattle.law_net.specs.ContextsBlocks.{Side, side, waits_in, is_cell, is_switch, region_of, leaves_in}
use Rattle.law_net.specs.Contexts.{block_in, IsContext}
use Rattle.law_net.specs.ContextsWires.{Carried, arrives_at, has_no_wire, is_side, predicate_at}
use Rattle.law_net.specs.ContextsFirings.{truth_of, right_way}
use Rattle.law_net.specs.ContextsLaws.{Carries, maker_of}
use Rattle.law_net.proofs.ContextsWords.{carries_of}
use Rattle.law_net.proofs.WiredSends.{side_by, takes_right}
use Rattle.law_net.proofs.WiredNets.{taken_in}
use Rattle.law_end.specs.Over.{IsDecided, IsOpen, is_turning}
use Rattle.law_end.proofs.OverSorts.{IsHere, Quiet, Switched, Sort, Last, Joins, Switches, Others, sort}
use Rattle.law_end.proofs.OverPaths.{Wire}
use Rattle.law_end.proofs.OverMade.{allowed, word, taken_stands}
use Rattle.law_end.proofs.OverOpen.{one_side, arm_decided, arm_round}
use Rattle.law_end.proofs.CleanStill.{AtRest, Arrives, Fired, sent, held_arrives}
use Rattle.law_end.proofs.CleanFires.{fires_one}
use Rattle.law_end.proofs.CleanStarts.{chooser, predicate_is, sends_none, first_side}

module _ (u : AtRest) (c : Context) (con : IsContext u.fl c) (ins : u.Inside c) where
  abbrev Here : Part → Type 0
  Here r = IsHere u.fl u.p u.w u.good c con r

  abbrev pub Opens : Region → Type 0
  Opens r = IsOpen u.fl u.w u.kept.tracks.net.fired c r

  abbrev pub Decided : ℕ → Bool → Type 0
  Decided k t = IsDecided u.fl u.w u.kept.tracks.net.fired (record { context = c; cond = k }) t

  -- a side whose region is open is of a part whose region is
  pub side_open : (s : Side) → Here s.part → is_turning s.part ≡ false → is_side s ≡ true → Opens (leaves_in (block_in u.fl c) s.part s.second)
      → Opens (region_of (block_in u.fl c) s.part)
  side_open s h turns e open' = by_sort (sort u.fl u.p u.w u.good c con s.part h turns)
    where
      quietly : Quiet u.fl u.p u.w u.good c con s.part → Opens (region_of (block_in u.fl c) s.part)
      quietly quiet = subst Opens (ap (λ (s : Side). leaves_in (block_in u.fl c) s.part s.second) (first_side u c con s e quiet.switch) ∙ quiet.leaves) open'

      by_sort : Sort u.fl u.p u.w u.good c con s.part → Opens (region_of (block_in u.fl c) s.part)
      by_sort (Last g) =
          subst (λ (q : Part). Opens (region_of (block_in u.fl c) q)) (sym g) (subst (λ (q : Part). Opens (leaves_in (block_in u.fl c) q s.second)) g open')
      by_sort (Joins k j) = quietly j.quiet
      by_sort (Others o) = quietly o.quiet
      by_sort (Switches k x) =
          subst Opens (sym x.region) (arm_round u.fl u.p u.w u.inputs u.past u.m u.good u.fit u.kept c con k (not s.second) x.choice
          (subst Opens (x.leaves s.second) open'))

  -- what an operation asked its cell has answered
  pub maker_fires : (r : Part) → Fired u c r → Fired u c (maker_of (block_in u.fl c) r)
  maker_fires (Line n) f = go (is_cell (block_in u.fl c) n) refl
    where
      go : (t : Bool) → is_cell (block_in u.fl c) n ≡ t → Fired u c (if t then InCell n else Line n)
      go true e = fires_one u c ins (InCell n) 0 refl refl (held_arrives u c n e f)
      go false e = f
  maker_fires r f = f

  -- what is no switch sends along its one side
  line_sends : (h : Firing) → h.context ≡ c → (n : ℕ) (t : Bool) → is_cell (block_in u.fl c) n ≡ t
      → side_by u.fl h (if t then InCell n else Line n) ≡ Some (side (Line n) false)
  line_sends h a n true e = refl
  line_sends h a n false e = ap (λ (t : Bool). if t then None else Some (side (Line n) false)) (ap (λ (c : Context). is_cell (block_in u.fl c) n) a ∙ e)

  quiet_sends : (h : Firing) → h.context ≡ c → (r : Part) → Here r → is_switch r ≡ false → has_no_wire r ≡ false
      → side_by u.fl h (maker_of (block_in u.fl c) r) ≡ Some (side r false)
  quiet_sends h a (Line n) here s x = line_sends h a n (is_cell (block_in u.fl c) n) refl
  quiet_sends h a (Trigger k) here s x = absurd (true≢false s)
  quiet_sends h a (Gate n) here s x = absurd (true≢false s)
  quiet_sends h a TurnCont here s x = absurd (true≢false s)
  quiet_sends h a TurnFlag here s x = absurd (true≢false s)
  quiet_sends h a (TurnValue j) here s x = absurd (true≢false s)
  quiet_sends h a (Framer n) here s x = absurd (true≢false x)
  quiet_sends h a (Linker n) here s x = absurd (true≢false x)
  quiet_sends h a End here s x = absurd (true≢false x)
  quiet_sends h a Asker here s x = absurd (true≢false x)
  quiet_sends h a (Taker n) here s x = absurd (true≢false x)
  quiet_sends h a NextFramer here s x = absurd (true≢false x)
  quiet_sends h a (Giver n) here s x = absurd (true≢false x)
  quiet_sends h a (Drainer n) here s x = absurd (true≢false x)
  quiet_sends h a (Asked n) here s x = absurd (true≢false (sym here))
  quiet_sends h a NextAsked here s x = absurd (true≢false (sym here))
  quiet_sends h a (InCell n) here s x = absurd (true≢false (sym here))
  quiet_sends h a (Drained n) here s x = absurd (true≢false (sym here))
  quiet_sends h a (Shown j) here s x = absurd (true≢false (sym here))
  quiet_sends h a Done here s x = absurd (true≢false (sym here))
  quiet_sends h a Freed here s x = absurd (true≢false (sym here))
  quiet_sends h a r here s x = refl

  -- A SWITCH that fired got the word of its conditional, and sends by it
  pub record Chose (k : ℕ) (r : Part) : Type 0 where
    pub way : Bool
    pub decided : IsDecided u.fl u.w u.kept.tracks.net.fired (record { context = c; cond = k }) way
    pub firing : Firing
    pub arrive : Contains u.kept.tracks.net.fired firing
    pub at : firing.context ≡ c
    pub sends : side_by u.fl firing firing.part ≡ Some (side r (not way))

  pub chose : (k : ℕ) (r : Part) → Switched u.fl u.p u.w u.good c con k r → Fired u c r → Chose k r
  chose k r switch (h, d, a, e) =
      let o = chooser (block_in u.fl c) r switch.switch in
      let right = item h.context (inlet h.part Right (right_way u.fl h.context h.part)) h.right in
      let took = takes_right u.fl u.w h (subst (λ (c : Context). waits_in (block_in u.fl c) h.part ≡ true) (sym a)
      (ap (waits_in (block_in u.fl c)) e ∙ o.waits)) in
      let there = taken_stands u.fl u.p u.w u.inputs u.past u.m u.good u.fit u.kept right (taken_in u.fl u.kept.tracks.net.fired h right d took) in
      let value = subst (λ (kind : Carried). Carries u.fl u.w h.context (right_way u.fl h.context h.part) kind h.right)
      (ap (λ (q : Part). arrives_at q Right) e ∙ o.value)
      (carries_of u.fl u.w right (word u.fl u.p u.w u.inputs u.past u.m u.good u.fit u.kept right there)) in
      let v = value.0 in
      let said = (allowed u.fl u.p u.w u.inputs u.past u.m u.good u.fit u.kept right there).word (record { context = c; cond = k }) (
        a,
        ap (λ (c : Context). predicate_at (block_in u.fl c) h.part Right) a ∙ ap (λ (q : Part). predicate_at (block_in u.fl c) q Right) e
            ∙ predicate_is (block_in u.fl c) r k false switch.switch (switch.leaves true),
      ) in
      record {
        way = truth v;
        decided = subst (λ (t : Bool). Decided k t) (ap truth_of value.1) said;
        firing = h;
        arrive = d;
        at = a;
        sends = ap (side_by u.fl h) e ∙ o.sends u.fl h v value.1;
      }

  not_not : (t s : Bool) → t ≡ not s → not t ≡ s
  not_not true false e = refl
  not_not false true e = refl
  not_not true true e = absurd (true≢false e)
  not_not false false e = absurd (true≢false (sym e))

  -- WHAT HAS FIRED sent along each of its sides whose region is open
  pub sends : (s : Side) (x : Inlet) → Wire u.fl u.p u.w u.good c con s x → is_side s ≡ true → is_turning s.part ≡ false
      → Opens (leaves_in (block_in u.fl c) s.part s.second) → Fired u c s.part → Arrives u c x
  sends s x wire there turns open' f = by_sort (sort u.fl u.p u.w u.good c con s.part wire.from turns)
    where
      wired : (t : Bool) → has_no_wire s.part ≡ t → has_no_wire s.part ≡ false
      wired true e = absurd (sends_none u c con s x e wire.goes)
      wired false e = e

      quietly : Quiet u.fl u.p u.w u.good c con s.part → Fired u c (maker_of (block_in u.fl c) s.part) → Arrives u c x
      quietly quiet (h, d, a, e) = sent u h c s x d a
          (ap (side_by u.fl h) e ∙ quiet_sends h a s.part wire.from quiet.switch (wired (has_no_wire s.part) refl)
          ∙ ap (λ (s : Side). Some s) (sym (first_side u c con s there quiet.switch))) wire.goes

      chosen : (k : ℕ) → Switched u.fl u.p u.w u.good c con k s.part → Arrives u c x
      chosen k switch =
          let o = chose k s.part switch f in
          let asked = arm_decided u.fl u.p u.w u.inputs u.past u.m u.good u.fit u.kept c con k (not s.second) switch.choice
          (subst Opens (switch.leaves s.second) open') in
          let same = one_side u.fl u.p u.w u.inputs u.past u.m u.good u.fit u.kept (record { context = c; cond = k }) o.way
          (not s.second) o.decided asked in
          sent u o.firing c s x o.arrive o.at (o.sends ∙ (λ j. Some (record { part = s.part; second = not_not o.way s.second same j }))) wire.goes

      by_sort : Sort u.fl u.p u.w u.good c con s.part → Arrives u c x
      by_sort (Last g) = absurd (sends_none u c con s x (ap has_no_wire g) wire.goes)
      by_sort (Joins k j) = quietly j.quiet (maker_fires s.part f)
      by_sort (Others o) = quietly o.quiet (maker_fires s.part f)
      by_sort (Switches k w') = chosen k w'
