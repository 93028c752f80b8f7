-- When the last part of a context has fired, all parts that lie in open arms have fired.
use Rattle.std.proofs.Common.{◌≡◌, ℕ, zero, suc, ◌+◌, ◌<◌, ℤ, Bool, true, false, not, ◌⊎◌, inl, inr, List, refl, sym, ap, ◌∙◌, subst, arith}
use Rattle.lemmas.proofs.Bools.{not_not}
use Rattle.semantics.specs.declared.graph.Region.{Region}
use Rattle.semantics.specs.declared.graph.Region.TheVariants.{Arm}
use Rattle.semantics.specs.Graph.{Flow}
use Rattle.semantics.specs.Meaning.{Context}
use Rattle.semantics.specs.Plan.{Plan}
use Rattle.semantics.specs.Machine.{Machine}
use Rattle.law_net.specs.ContextsParts.{Part, End, Inlet, Firing}
use Rattle.law_net.specs.ContextsBlocks.{Side, side, region_of, entered, leaves_in, is_switch}
use Rattle.law_net.specs.Contexts.{Wires, block_in, wiring_in, IsContext}
use Rattle.law_net.specs.ContextsWires.{has_no_wire, is_side}
use Rattle.law_net.specs.ContextsFirings.{HasFired}
use Rattle.law_net.specs.ContextsLaws.{maker_of}
use Rattle.law_net.specs.ContextsMirror.{Past}
use Rattle.law_net.specs.ContextsTheorem.{IsGood}
use Rattle.law_net.specs.ContextsPackages.{InputsFit, Keeps}
use Rattle.law_end.specs.Over.{IsDecided, IsOpen, is_turning}
use Rattle.law_end.proofs.OverSorts.{IsHere, laws, Handed, Quiet, Switched, Other, Sort, Last, Joins, Switches, Others, sort}
use Rattle.law_end.proofs.OverPaths.{Wire, next, arm_ends}
use Rattle.law_end.proofs.OverMade.{fired, maker_fired}
use Rattle.law_end.proofs.OverOpen.{cond_of, arm_open, region_open, join_decided, through}
use Rattle.law_end.proofs.OverBack.{handed_back}

module _ (fl : Flow) (p : Plan) (w : Wires) (inputs : List ℤ) (past : Past) (m : Machine) (good : IsGood fl p w) (fit : InputsFit fl inputs)
    (kept : Keeps fl p w inputs past m) (c : Context) (con : IsContext fl c) where
  abbrev Here : Part → Type 0
  Here r = IsHere fl p w good c con r

  abbrev place : Part → ℕ
  place r = (wiring_in fl w c).place r

  abbrev done : List Firing
  done = fired fl p w inputs past m good fit kept

  abbrev Fires : Part → Type 0
  Fires r = HasFired c r (fired fl p w inputs past m good fit kept)

  abbrev Opens : Region → Type 0
  Opens r = IsOpen fl w (fired fl p w inputs past m good fit kept) c r

  -- WHAT FIRED BEFORE THE END
  abbrev OverBelow : ℕ → Type 0
  OverBelow n = (r : Part) → Here r → is_turning r ≡ false → place End < place r + n → Opens (region_of (block_in fl c) r) → Fires r

  -- by a wire from a side whose region is open
  by_wire : (n : ℕ) → OverBelow n → (s : Side) (x : Inlet) → Wire fl p w good c con s x → place End < place s.part + suc n
      → Opens (leaves_in (block_in fl c) s.part s.second) → Fires (maker_of (block_in fl c) s.part)
  by_wire n below s x wire near open' =
      let up = wire.rises in
      let here : Opens (entered (block_in fl c) x.part x.way) = subst Opens (sym wire.region) open' in
      through fl p w inputs past m good fit kept c con s x wire
      (below x.part wire.here wire.turning (omega (arith, near, up))
      (region_open fl p w inputs past m good fit kept c con x.part x.way wire.here wire.turning here)) here

  pub over_below : Fires End → (n : ℕ) → OverBelow n
  over_below last zero r h turns near open' = let low = (laws fl p w good c con).leads.last r h in absurd (omega (arith, near, low))
  over_below last (suc n) r h turns near open' = by_sort (sort fl p w good c con r h turns) (over_below last n)
    where
      fire : Fires (maker_of (block_in fl c) r) → Fires r
      fire f = maker_fired fl p w inputs past m good fit kept c r f

      quietly : Quiet fl p w good c con r → has_no_wire r ≡ false → OverBelow n → Fires r
      quietly quiet wires below =
          let (x, wire) = next fl p w good c con (side r false) h refl wires in
          fire (by_wire n below (side r false) x wire near (subst Opens (sym quiet.leaves) open'))

      handed : Handed fl p w good c con r → OverBelow n → Fires r
      handed to below =
          let up = to.rises in
          handed_back fl p w inputs past m good fit kept c con r to.to to.here to.hands
          (below to.to to.here to.turning (omega (arith, near, up)) (subst Opens (sym to.region) open'))

      onward : Other fl p w good c con r → (has_no_wire r ≡ false) ⊎ Handed fl p w good c con r → OverBelow n → Fires r
      onward other (inl wires) below = quietly other.quiet wires below
      onward other (inr to) below = handed to below

      either : (t : Bool) → is_switch r ≡ true → is_side (side r t) ≡ true
      either true e = e
      either false e = refl

      -- a switch: what joins its arms has fired, and so it is decided
      chosen : (j : ℕ) → Switched fl p w good c con j r → OverBelow n → (t : Bool)
          → IsDecided fl w done (cond_of fl p w inputs past m good fit kept c con j) t → Fires r
      chosen j switch below t decided =
          let (x, wire) = next fl p w good c con (side r (not t)) h (either (not t) switch.switch) switch.wires in
          fire (by_wire n below (side r (not t)) x wire near
          (subst Opens (sym (switch.leaves (not t) ∙ ap (Arm j) (not_not t)))
          (arm_open fl p w inputs past m good fit kept c con j t switch.choice decided (subst Opens switch.region open'))))

      by_sort : Sort fl p w good c con r → OverBelow n → Fires r
      by_sort (Last e) below = subst Fires (sym e) last
      by_sort (Joins j x) below = quietly x.quiet x.wires below
      by_sort (Others o) below = onward o o.onward below
      by_sort (Switches j s) below =
          let e = arm_ends fl p w good c con r j h s in
          let later = e.later in
          let side_taken = join_decided fl p w inputs past m good fit kept c con j e.part e.here e.joins
          (below e.part e.here e.joins.quiet.turning (omega (arith, near, later)) (subst Opens (s.region ∙ sym e.joins.region) open')) in
          chosen j s below side_taken.0 side_taken.1

  pub all_over : Fires End → (r : Part) → Here r → is_turning r ≡ false → Opens (region_of (block_in fl c) r) → Fires r
  all_over last r h turns open' = over_below last (suc (place End)) r h turns (omega arith) open'

  -- and what makes its words
  pub maker_over : Fires End → (r : Part) → Here r → is_turning r ≡ false → has_no_wire r ≡ false
      → leaves_in (block_in fl c) r false ≡ region_of (block_in fl c) r → Opens (region_of (block_in fl c) r) → Fires (maker_of (block_in fl c) r)
  maker_over last r h turns wires leaves open' =
      let (x, wire) = next fl p w good c con (side r false) h refl wires in
      by_wire (suc (place End)) (over_below last (suc (place End))) (side r false) x wire (omega arith) (subst Opens (sym leaves) open')
