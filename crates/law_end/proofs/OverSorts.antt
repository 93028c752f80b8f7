-- The parts of any code block: switches, what joins two arms, the last part, and all others, with what passes its word on without a wire.
use Rattle.std.proofs.Common.{◌≡◌, ℕ, ◌<◌, Bool, true, false, not, ◌⊎◌, inl, inr, [], length, Option, Some, None, nat_lt, ◌==◌, refl, sym, ap, ◌∙◌, arith}
use Rattle.std.proofs.Common.{true≢false}
use Rattle.std.specs.Prelude.{Contains}
use Rattle.std.proofs.lemmas.Bool.{and_parts, or_cases}
use Rattle.std.proofs.lemmas.List.Elements.{Contains-append_left}
use Rattle.tags.specs.declared.token.Port.TheVariants.{Left}
use Rattle.semantics.specs.declared.graph.Region.{Region}
use Rattle.semantics.specs.declared.graph.Region.TheVariants.{Root, Arm}
use Rattle.semantics.specs.declared.graph.Kind.{Kind}
use Rattle.semantics.specs.Graph.{Block, Flow}
use Rattle.semantics.specs.Plan.{Plan}
use Rattle.semantics.specs.Meaning.{Context, arm_of, block_number, block_numbered}
use Rattle.semantics.specs.Cause.{is_turn}
use Rattle.std.specs.Prelude.{slice_get}
use Rattle.lemmas.proofs.Contains.{contains_head}
use Rattle.law_net.specs.ContextsParts.{Part, Trigger, Gate, Merge, Framer, Fanned, Linker, Landing, CallDone, Giver, Taker, Drainer, LoopDone, TurnCont}
use Rattle.law_net.specs.ContextsParts.{TurnFlag, TurnValue, Asker, NextFramer, NextFanned, CondEnd, End, inlet, Firing, InCell, Drained}
use Rattle.law_net.specs.ContextsBlocks.{side, Wiring, there_in, waits_in, enter_kind, is_call, is_loop, merge_cond, lies_in, outside, region_of, entered}
use Rattle.law_net.specs.ContextsBlocks.{arm_round, leaves_in, is_switch, flag}
use Rattle.law_net.specs.Contexts.{Wires, block_in, site_in, wiring_in, IsContext}
use Rattle.law_net.specs.ContextsWires.{AreLawful, IsLaidOut, answered_at, has_no_wire, is_unwired, wired_way}
use Rattle.law_net.specs.ContextsFirings.{left_way, left_item}
use Rattle.law_net.specs.ContextsLaws.{way_fits}
use Rattle.law_net.specs.ContextsOperands.{HasOperands}
use Rattle.law_net.specs.ContextsTheorem.{IsGood}
use Rattle.law_net.proofs.WiredSends.{first_taken}
use Rattle.law_net.proofs.WiredInvoked.{kind_line, block_here, code_at, lawful_at}
use Rattle.law_net.proofs.WiredRounds.{IsChoice, end_choice, flag_root}
use Rattle.law_end.specs.Over.{is_turning}

enter_lies : (r : Region) (k : Kind ℕ) (num : ℕ) → enter_kind k ≡ true → HasOperands r k num → r ≡ Root → ⊥
enter_lies r Kind.Enter num e h f = h.1 f
enter_lies r k num e h f = true≢false (sym e)

module _ (fl : Flow) (p : Plan) (w : Wires) (good : IsGood fl p w) (c : Context) (con : IsContext fl c) where
  abbrev pub b : Block ℕ
  b = block_in fl c

  abbrev pub places : Wiring
  places = wiring_in fl w c

  abbrev pub IsHere : Part → Type 0
  IsHere r = there_in fl (site_in fl w c) (wiring_in fl w c) r ≡ true

  pub laws : AreLawful fl (site_in fl w c) (wiring_in fl w c)
  laws = lawful_at fl p w good c con

  -- WHAT ALL SHARE
  pub first_item : (f : Firing) (r : Part) → IsHere r → first_taken fl w f r ≡ left_item f.context r f.way f.left
  first_item f (InCell n) h = absurd (true≢false (sym h))
  first_item f (Drained n) h = absurd (true≢false (sym h))
  first_item f r h = refl

  pub given_turning : (r : Part) → is_unwired b r ≡ false → is_turning r ≡ false
  given_turning (Giver n) g = absurd (true≢false g)
  given_turning (Taker n) g = absurd (true≢false g)
  given_turning (Drainer n) g = absurd (true≢false g)
  given_turning r g = refl

  -- WHAT PASSES ON without a wire: the manager, a take, or what is invoked answers after it
  pub data Hands (r q : Part) : Type 0 where
    HFramer : (n : ℕ) → r ≡ Framer n → q ≡ Fanned n → Hands r q
    HNextFramer : r ≡ NextFramer → q ≡ NextFanned → Hands r q
    HAsker : r ≡ Asker → q ≡ NextFramer → Hands r q
    HCall : (n : ℕ) → is_call b n ≡ true → r ≡ Linker n → q ≡ CallDone n → Hands r q
    HLoop : (n : ℕ) → is_loop b n ≡ true → r ≡ Linker n → q ≡ LoopDone n → Hands r q

  pub record Handed (r : Part) : Type 0 where
    pub to : Part
    pub here : IsHere to
    pub hands : Hands r to
    pub rises : places.place r < places.place to
    pub region : region_of b to ≡ region_of b r
    pub turning : is_turning to ≡ false
    pub leaves : leaves_in b to false ≡ region_of b to

  answer_later : (r q : Part) → IsHere r → Contains (answered_at r) (inlet q Left 0) → places.place r < places.place q
  answer_later r q h d =
      laws.leads.forward (side r false) (inlet q Left 0) h (Contains-append_left (answered_at r) (places.wire (side r false)) (inlet q Left 0) d)

  laid : IsLaidOut fl p w.variant (site_in fl w c) (wiring_in fl w c) (code_at fl p w good c con).code
  laid = (code_at fl p w good c con).laid

  linked : (n : ℕ) → IsHere (Linker n) → Handed (Linker n)
  linked n h = pick (or_cases (is_call b n) (is_loop b n) h)
    where
      up : places.place (Linker n) < places.place (Landing n 0)
      up = answer_later (Linker n) (Landing n 0) h (contains_head (inlet (Landing n 0) Left 0) [])

      pick : (is_call b n ≡ true) ⊎ (is_loop b n ≡ true) → Handed (Linker n)
      pick (inl e) = let row = laid.call_done n e in
          record { to = CallDone n; here = e; hands = HCall n e refl refl; rises = omega (arith, row, up); region = refl; turning = refl; leaves = refl }
      pick (inr e) =
          let row = (laid.credits n e).0 in let giver = answer_later (Giver n) (LoopDone n) e (contains_head (inlet (LoopDone n) Left 0) []) in
          record { to = LoopDone n; here = e; hands = HLoop n e refl refl; rises = omega (arith, row, up, giver); region = refl; turning = refl; leaves = refl }

  -- SORTS
  pub record Quiet (r : Part) : Type 0 where
    pub switch : is_switch r ≡ false
    pub turning : is_turning r ≡ false
    pub leaves : leaves_in b r false ≡ region_of b r

  -- it joins the arms of a conditional: by its way
  pub record Joined (j : ℕ) (r : Part) : Type 0 where
    pub choice : IsChoice fl p w good c j
    pub enters : (t : ℕ) → entered b r t ≡ Arm j (t == 0)
    pub region : region_of b r ≡ lies_in b j
    pub quiet : Quiet r
    pub wires : has_no_wire r ≡ false
    pub given : is_unwired b r ≡ false
    pub waits : waits_in b r ≡ false
    pub left : (t : ℕ) → left_way r t ≡ t
    pub way : (t : ℕ) → wired_way r t ≡ nat_lt t 2
    pub fits : (t : ℕ) → way_fits fl c r Left t ≡ nat_lt t 2

  -- it chooses between them
  pub record Switched (j : ℕ) (r : Part) : Type 0 where
    pub choice : IsChoice fl p w good c j
    pub enters : (t : ℕ) → entered b r t ≡ lies_in b j
    pub region : region_of b r ≡ lies_in b j
    pub leaves : (u : Bool) → leaves_in b r u ≡ Arm j (not u)
    pub switch : is_switch r ≡ true
    pub turning : is_turning r ≡ false
    pub wires : has_no_wire r ≡ false

  pub record Other (r : Part) : Type 0 where
    pub enters : (t : ℕ) → entered b r t ≡ region_of b r
    pub quiet : Quiet r
    pub onward : (has_no_wire r ≡ false) ⊎ Handed r

  pub data Sort (r : Part) : Type 0 where
    Last : r ≡ End → Sort r
    Joins : (j : ℕ) → Joined j r → Sort r
    Switches : (j : ℕ) → Switched j r → Sort r
    Others : Other r → Sort r

  abbrev wired : (r : Part) → ((t : ℕ) → entered b r t ≡ region_of b r) → is_switch r ≡ false → is_turning r ≡ false → leaves_in b r false ≡ region_of b r
      → has_no_wire r ≡ false → Sort r
  wired r e s t l h = Others (record { enters = e; quiet = record { switch = s; turning = t; leaves = l }; onward = inl h })

  abbrev handing : (r : Part) → ((t : ℕ) → entered b r t ≡ region_of b r) → is_switch r ≡ false → is_turning r ≡ false → leaves_in b r false ≡ region_of b r
      → Handed r → Sort r
  handing r e s t l h = Others (record { enters = e; quiet = record { switch = s; turning = t; leaves = l }; onward = inr h })

  gate_region : (n : ℕ) → IsHere (Gate n) → lies_in b n ≡ Root → ⊥
  gate_region n h e =
      let (line, en, kind) = kind_line enter_kind b n h in
      let at = block_at (block_number fl c) (block_here fl p w good c con) in
      enter_lies line.region line.kind (length line.sources) kind (good.operands at.0 n b line at.1 en) (sym (ap arm_of en) ∙ e)
    where
      block_at : (o : Option ℕ) → block_numbered fl o ≡ Some (block_in fl c) → (i : ℕ) × (slice_get fl.blocks i ≡ Some (block_in fl c))
      block_at None e = absurd (cc)
      block_at (Some i) e = (i, e)

  gate_sort : (n : ℕ) → IsHere (Gate n) → (r : Region) → lies_in b n ≡ r → Sort (Gate n)
  gate_sort n h Root e = absurd (gate_region n h e)
  gate_sort n h (Arm k t) e = Switches k (record {
    choice = inl (laws.arms.rounds n k t e).1;
    enters = λ t. ap (outside b) e;
    region = ap (outside b) e;
    leaves = λ u. ap (λ (r : Region). arm_round r (not u)) e;
    switch = refl;
    turning = refl;
    wires = refl;
  })

  abbrev flag_switch : (r : Part) → is_turn c ≡ true → ((t : ℕ) → entered b r t ≡ Root) → region_of b r ≡ Root
      → ((u : Bool) → leaves_in b r u ≡ Arm (flag b) (not u)) → is_switch r ≡ true → is_turning r ≡ false → has_no_wire r ≡ false → Sort r
  flag_switch r h e g l s t x = Switches (flag b) (record {
    choice = inr (h, refl);
    enters = λ t. e t ∙ sym (flag_root b);
    region = g ∙ sym (flag_root b);
    leaves = l;
    switch = s;
    turning = t;
    wires = x;
  })

  merge_joins : (n : ℕ) → IsHere (Merge n) → Joined (merge_cond b n) (Merge n)
  merge_joins n h = let m = laws.arms.merges n h in record {
    choice = inl m.0;
    enters = λ t. refl;
    region = m.1;
    quiet = record { switch = refl; turning = refl; leaves = refl };
    wires = refl;
    given = refl;
    waits = refl;
    left = λ t. refl;
    way = λ t. refl;
    fits = λ t. refl;
  }

  end_joins : (k : ℕ) → IsHere (CondEnd k) → Joined k (CondEnd k)
  end_joins k h = record {
    choice = end_choice fl p w good c k h;
    enters = λ t. refl;
    region = refl;
    quiet = record { switch = refl; turning = refl; leaves = refl };
    wires = refl;
    given = refl;
    waits = refl;
    left = λ t. refl;
    way = λ t. refl;
    fits = λ t. refl;
  }

  pub sort : (r : Part) → IsHere r → is_turning r ≡ false → Sort r
  sort End h t = Last refl
  sort (Giver n) h t = absurd (true≢false t)
  sort (Taker n) h t = absurd (true≢false t)
  sort (Drainer n) h t = absurd (true≢false t)
  sort (Trigger k) h t = Switches k (record {
    choice = inl (and_parts _ _ h).0;
    enters = λ t. refl;
    region = refl;
    leaves = λ u. refl;
    switch = refl;
    turning = refl;
    wires = refl;
  })
  sort (Gate n) h t = gate_sort n h (lies_in b n) refl
  sort TurnCont h t = flag_switch TurnCont h (λ t. refl) refl (λ u. refl) refl refl refl
  sort TurnFlag h t = flag_switch TurnFlag h (λ t. refl) refl (λ u. refl) refl refl refl
  sort (TurnValue j) h t = flag_switch (TurnValue j) (and_parts _ _ h).0 (λ t. refl) refl (λ u. refl) refl refl refl
  sort (Merge n) h t = Joins (merge_cond b n) (merge_joins n h)
  sort (CondEnd k) h t = Joins k (end_joins k h)
  sort (Framer n) h t = handing (Framer n) (λ t. refl) refl refl refl
      (record {
        to = Fanned n;
        here = h;
        hands = HFramer n refl refl;
        rises = answer_later (Framer n) (Fanned n) h (contains_head (inlet (Fanned n) Left 0) []);
        region = refl;
        turning = refl;
        leaves = refl;
      })
  sort NextFramer h t = handing NextFramer (λ t. refl) refl refl refl
      (record {
        to = NextFanned;
        here = h;
        hands = HNextFramer refl refl;
        rises = answer_later NextFramer NextFanned h (contains_head (inlet NextFanned Left 0) []);
        region = refl;
        turning = refl;
        leaves = refl;
      })
  sort Asker h t = handing Asker (λ t. refl) refl refl refl
      (record {
        to = NextFramer;
        here = h;
        hands = HAsker refl refl;
        rises = answer_later Asker NextFramer h (contains_head (inlet NextFramer Left 0) []);
        region = refl;
        turning = refl;
        leaves = refl;
      })
  sort (Linker n) h t = handing (Linker n) (λ t. refl) refl refl refl (linked n h)
  sort r h t = wired r (λ t. refl) refl refl refl refl

  -- BY WHICH WAY a part takes its words, where they arrive along wires
  pub data Taking (r : Part) : Type 0 where
    ByArm : (j : ℕ) → Joined j r → Taking r
    ByOne : ((t : ℕ) → left_way r t ≡ 0) → ((t : ℕ) → wired_way r t ≡ (t == 0)) → Taking r

  pub taking : (r : Part) → IsHere r → is_unwired b r ≡ false → Taking r
  taking (Merge n) h g = ByArm (merge_cond b n) (merge_joins n h)
  taking (CondEnd k) h g = ByArm k (end_joins k h)
  taking (Landing n j) h g = absurd (true≢false g)
  taking (Taker n) h g = absurd (true≢false g)
  taking r h g = ByOne (λ t. refl) (λ t. refl)
