-- The books of a run of an object, over the object's code.
use Rattle.std.proofs.Common.{◌≡◌, ◌+◌, ◌*◌, ◌^◌, ◌<◌, ◌≤◌, ◌∙◌, ◌++◌, ℕ, ℤ, Bool, false, List, length, sym, refl, ap, subst, arith, rules, take}
use Rattle.std.proofs.Common.{drop, take-append-drop}
use Rattle.std.specs.Prelude.{sum}
use Rattle.std.proofs.lemmas.Nat.{mul-le}
use Rattle.std.proofs.Math.Nat.{one-le-mul}
use Rattle.semantics.specs.Bytes.{IsObject}
use Rattle.semantics.specs.Machine.{Events, outputs_of}
use Rattle.semantics.specs.Program.{Program, first_of}
use Rattle.semantics.specs.Report.{Report}
use Rattle.object_view.specs.Reading.{Opened, opened}
use Rattle.replay.specs.declared.extent.Extent.{Extent}
use Rattle.replay.specs.Views.{BooksView}
use Rattle.replay.specs.Books.{KeepsBooks}
use Rattle.replay.specs.declared.fault.ReplayRefusal.{ReplayRefusal}
use Rattle.replay.specs.declared.fault.ReplayRefusal.TheVariants.{NotARun}
use Rattle.replay.specs.Entering.{IsExtent, AreBooks, Says, HasNoRun}
use Rattle.frame_order.specs.InOrder.{IsOrdered}
use Rattle.schedule.specs.declared.config.Config.{Config}
use Rattle.schedule.specs.Setting.{inputs_of}
use Rattle.driver.specs.ListedEvents.{HasBooks}
use Rattle.driver.specs.Objects.{ShowsObject}
use Rattle.driver.specs.Orders.{size_of}
use Rattle.driver.proofs.Watched.{fit, same}

module _ (bytes : List ℕ) (inputs : List ℤ) (c : Config) (may_stop : Bool) (r : Report) (shows : ShowsObject bytes inputs c false may_stop r) where
  -- the numbers of its machine
  pub extent_is : (p : Program) (width : ℕ) (x : Extent) → x.elements ≡ c.elements → x.frames ≡ c.elements * c.frames → x.slots ≡ width → 0 < x.slots
      → x.slots ≤ 512 → x.cells ≡ sum p.arrays → x.main ≡ first_of p p.main → x.main < 2 ^ 30 → x.outputs ≡ outputs_of p → x.outputs ≤ 16
      → IsExtent p width x
  extent_is p width x elements frames slots some_slots few_slots cells main short outputs few_outputs =
      let some = shows.good.elements in
      let some_frame = shows.some_frame in
      let all : 1 ≤ c.elements * c.frames = one-le-mul some some_frame in
      let most : c.elements * c.frames ≤ 16 * 1024 = mul-le c.elements c.frames 16 1024 shows.good.elements_most shows.good.frames in
      record {
        elements = omega (arith, elements, some);
        some_frames = omega (arith, frames, all);
        few_frames = omega (arith, frames, most);
        some_slots = some_slots;
        few_slots = few_slots;
        slots = omega (arith, slots);
        cells = cells;
        main = main;
        short = short;
        outputs = outputs;
        few_outputs = few_outputs;
      }

  -- there are few of them
  pub few_inputs : (o : Opened) → opened bytes ≡ o → IsObject bytes o.version o.code → (count : ℕ) → count ≡ inputs_of o.code.program → count ≤ 16
      → length inputs ≤ 16
  few_inputs o is object count exact few =
      let same = fit bytes inputs c may_stop r o is object shows in
      omega (arith, same, exact, few)

-- its events are those of a run in order
pub fitting : (bytes : List ℕ) (inputs : List ℤ) (c : Config) (may_stop : Bool) (r : Report) (o : Opened) → opened bytes ≡ o
    → (object : IsObject bytes o.version o.code) → (shows : ShowsObject bytes inputs c false may_stop r) → (x : Extent) → x.elements ≡ c.elements
    → x.frames ≡ c.elements * c.frames → (first : ℕ) (earlier events : Events) → earlier ≡ take first r.events → events ≡ drop first r.events
    → (f : ReplayRefusal) → f ≡ NotARun → Says f (HasNoRun o.code.program x inputs (earlier ++ events)) → ⊥
fitting bytes inputs c may_stop r o is object shows x elements frames first earlier events front rest f never none =
    let p : Program = o.code.program in
    let all : earlier ++ events ≡ r.events = ap (λ (es : Events). es ++ events) front ∙ ap (λ (es : Events). take first r.events ++ es) rest
    ∙ take-append-drop first r.events in
    let code : IsOrdered p (size_of c) inputs r.events = subst (λ (q : Program). IsOrdered q (size_of c) inputs r.events)
    (same bytes inputs c may_stop r o is object shows) shows.in_order in
    let run : IsOrdered p (size_of c) inputs (earlier ++ events) = subst (λ (es : Events). IsOrdered p (size_of c) inputs es) (sym all) code in
    let fault : HasNoRun p x inputs (earlier ++ events) = subst (λ (g : ReplayRefusal). Says g (HasNoRun p x inputs (earlier ++ events))) never none in
    fault (size_of c) (sym elements) (sym frames) run

-- the books of the machine's extent are those of the report
pub booked : (bytes : List ℕ) (inputs : List ℤ) (c : Config) (r : Report) (o : Opened) → opened bytes ≡ o → (x : Extent) → x.elements ≡ c.elements
    → x.frames ≡ c.elements * c.frames → (first : ℕ) (earlier events : Events) (books : BooksView) → earlier ≡ take first r.events → events
    ≡ drop first r.events
    → AreBooks o.code.program x inputs earlier events books → HasBooks bytes inputs c first r books
booked bytes inputs c r o is x elements frames first earlier events books front rest books_are =
    let kept : KeepsBooks o.code.program (size_of c) inputs earlier events books = books_are (size_of c) (sym elements) (sym frames) in
    subst (λ (v : Opened). KeepsBooks v.code.program (size_of c) inputs (take first r.events) (drop first r.events) books) (sym is)
    (subst (λ (es : Events). KeepsBooks o.code.program (size_of c) inputs es (drop first r.events) books) front
    (subst (λ (es : Events). KeepsBooks o.code.program (size_of c) inputs earlier es books) rest kept))
