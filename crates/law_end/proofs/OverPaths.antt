-- Along the wires of any code block, and where a word is passed on without one: each arm that is entered ends in a part that joins it to the other.
use Rattle.std.proofs.Common.{◌≡◌, ℕ, zero, suc, ◌+◌, ◌<◌, Bool, true, false, ◌⊎◌, inl, inr, ◌==◌, refl, sym, ap, ◌∙◌, subst, arith, true≢false}
use Rattle.std.specs.Prelude.{Contains}
use Rattle.std.proofs.lemmas.List.Elements.{Contains-append_right}
use Rattle.semantics.specs.declared.graph.Region.{Region}
use Rattle.semantics.specs.declared.graph.Region.TheVariants.{Root, Arm}
use Rattle.semantics.specs.Graph.{Flow}
use Rattle.semantics.specs.Plan.{Plan}
use Rattle.semantics.specs.Meaning.{Context}
use Rattle.law_net.specs.ContextsParts.{Part, End, Inlet}
use Rattle.law_net.specs.ContextsBlocks.{Side, side, entered, leaves_in, is_switch, region_of}
use Rattle.law_net.specs.Contexts.{Wires, block_in, wiring_in, IsContext}
use Rattle.law_net.specs.ContextsWires.{answered_at, has_no_wire, wired_way, wired_port, is_unwired, is_side}
use Rattle.law_net.specs.ContextsTheorem.{IsGood}
use Rattle.law_end.specs.Over.{is_turning}
use Rattle.law_end.proofs.OverSorts.{IsHere, laws, given_turning, Handed, Quiet, Joined, Switched, Other, Sort, Last, Joins, Switches, Others, sort}

module _ (fl : Flow) (p : Plan) (w : Wires) (good : IsGood fl p w) (c : Context) (con : IsContext fl c) where
  abbrev Here : Part → Type 0
  Here r = IsHere fl p w good c con r

  abbrev place : Part → ℕ
  place r = (wiring_in fl w c).place r

  -- A WIRE
  pub record Wire (s : Side) (x : Inlet) : Type 0 where
    pub goes : Contains ((wiring_in fl w c).wire s) x
    pub from : IsHere fl p w good c con s.part
    pub here : IsHere fl p w good c con x.part
    pub way : wired_way x.part x.way ≡ true
    pub port : wired_port (block_in fl c) x.part x.port ≡ true
    pub given : is_unwired (block_in fl c) x.part ≡ false
    pub turning : is_turning x.part ≡ false
    pub region : entered (block_in fl c) x.part x.way ≡ leaves_in (block_in fl c) s.part s.second
    pub rises : (wiring_in fl w c).place s.part < (wiring_in fl w c).place x.part

  pub wire_of : (s : Side) (x : Inlet) → Here s.part → Contains ((wiring_in fl w c).wire s) x → Wire s x
  wire_of s x h d = let o = (laws fl p w good c con).fed.inlets s x h d in record {
    goes = d;
    from = h;
    here = o.0;
    way = o.1;
    port = o.2;
    given = o.3;
    turning = given_turning fl p w good c con x.part o.3;
    region = (laws fl p w good c con).arms.arms s x h d;
    rises = (laws fl p w good c con).leads.forward s x h (Contains-append_right (answered_at s.part) ((wiring_in fl w c).wire s) x d);
  }

  -- a side that leads somewhere
  pub next : (s : Side) → Here s.part → is_side s ≡ true → has_no_wire s.part ≡ false → (x : Inlet) × Wire s x
  next s h e wires = let o = (laws fl p w good c con).leads.leads s h e wires in (o.0, wire_of s o.0 h o.1)

  -- THE END OF AN ARM
  pub record ArmEnd (j : ℕ) (low : ℕ) : Type 0 where
    pub part : Part
    pub here : IsHere fl p w good c con part
    pub joins : Joined fl p w good c con j part
    pub later : low < (wiring_in fl w c).place part

  arm_later : (j low up : ℕ) → low < up → ArmEnd j up → ArmEnd j low
  arm_later j low up h a = let l = a.later in record { part = a.part; here = a.here; joins = a.joins; later = omega (arith, h, l) }

  same_cond : (i j : ℕ) (t u : Bool) → Arm i u ≡ Arm j t → i ≡ j
  same_cond i j t u e = cc

  root_arm : (r : Region) (j : ℕ) (t : Bool) → r ≡ Root → r ≡ Arm j t → ⊥
  root_arm r j t e f = let g : Root ≡ Arm j t = sym e ∙ f in absurd (cc)

  -- what leaves a side in an arm
  abbrev EndsFrom : ℕ → Type 0
  EndsFrom n = (r : Part) (u : Bool) → Here r → is_turning r ≡ false → is_side (side r u) ≡ true → place End < place r + n → (j : ℕ) (t : Bool)
      → leaves_in (block_in fl c) r u ≡ Arm j t → ArmEnd j (place r)

  pub ends_from : (n : ℕ) → EndsFrom n
  ends_from zero r u h turns is near j t e = let low = (laws fl p w good c con).leads.last r h in absurd (omega (arith, near, low))
  ends_from (suc n) r u h turns is near j t leaves = by_sort (sort fl p w good c con r h turns) (ends_from n)
    where
      -- along a wire
      by_wire : EndsFrom n → (x : Inlet) × Wire (side r u) x → ArmEnd j (place r)
      by_wire later (x, wire) = go (sort fl p w good c con x.part wire.here wire.turning)
        where
          up : place r < place x.part
          up = wire.rises

          near' : place End < place x.part + n
          near' = omega (arith, up, near)

          region : entered (block_in fl c) x.part x.way ≡ Arm j t
          region = wire.region ∙ leaves

          go : Sort fl p w good c con x.part → ArmEnd j (place r)
          go (Last g) = absurd (root_arm (entered (block_in fl c) x.part x.way) j t (ap (λ (q : Part). entered (block_in fl c) q x.way) g) region)
          go (Joins i join) =
              let same : i ≡ j = same_cond i j t (x.way == 0) (sym (join.enters x.way) ∙ region) in
              record { part = x.part; here = wire.here; joins = subst (λ (i : ℕ). Joined fl p w good c con i x.part) same join; later = up }
          go (Switches i switch) =
              let inner = later x.part false wire.here wire.turning refl near' i true (switch.leaves false) in
              let upper = inner.later in
              let out : leaves_in (block_in fl c) inner.part false ≡ Arm j t = inner.joins.quiet.leaves ∙ inner.joins.region ∙ sym (switch.enters x.way)
              ∙ region in
              arm_later j (place r) (place inner.part) (omega (arith, up, upper))
              (later inner.part false inner.here inner.joins.quiet.turning refl (omega (arith, near', upper)) j t out)
          go (Others other) =
              arm_later j (place r) (place x.part) up
              (later x.part false wire.here wire.turning refl near' j t (other.quiet.leaves ∙ sym (other.enters x.way) ∙ region))

      -- or passed on
      by_hand : EndsFrom n → leaves_in (block_in fl c) r u ≡ region_of (block_in fl c) r → Handed fl p w good c con r → ArmEnd j (place r)
      by_hand later mine handed =
          let up = handed.rises in
          arm_later j (place r) (place handed.to) up
          (later handed.to false handed.here handed.turning refl (omega (arith, up, near)) j t (handed.leaves ∙ handed.region ∙ sym mine ∙ leaves))

      first_side : (v : Bool) → u ≡ v → is_switch r ≡ false → u ≡ false
      first_side true g s = absurd (true≢false (sym (subst (λ (v : Bool). is_side (side r v) ≡ true) g is) ∙ s))
      first_side false g s = g

      out_of : Quiet fl p w good c con r → leaves_in (block_in fl c) r u ≡ region_of (block_in fl c) r
      out_of quiet = ap (leaves_in (block_in fl c) r) (first_side u refl quiet.switch) ∙ quiet.leaves

      onward : EndsFrom n → Other fl p w good c con r → (has_no_wire r ≡ false) ⊎ Handed fl p w good c con r → ArmEnd j (place r)
      onward later other (inl wires) = by_wire later (next (side r u) h is wires)
      onward later other (inr handed) = by_hand later (out_of other.quiet) handed

      by_sort : Sort fl p w good c con r → EndsFrom n → ArmEnd j (place r)
      by_sort (Last g) later = absurd (root_arm (leaves_in (block_in fl c) r u) j t (ap (λ (q : Part). leaves_in (block_in fl c) q u) g) leaves)
      by_sort (Joins i join) later = by_wire later (next (side r u) h is join.wires)
      by_sort (Switches i switch) later = by_wire later (next (side r u) h is switch.wires)
      by_sort (Others other) later = onward later other other.onward

  -- a switch's arms are joined after it
  pub arm_ends : (r : Part) (j : ℕ) → Here r → Switched fl p w good c con j r → ArmEnd j (place r)
  arm_ends r j h switch = ends_from (suc (place End)) r false h switch.turning refl (omega arith) j true (switch.leaves false)
