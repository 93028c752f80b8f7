-- A machine that has what one run of the meaning calls for completes every run.
use Rattle.std.proofs.Common.{◌≡◌, refl, subst, ℕ, zero, suc, ◌+◌, ◌*◌, ◌^◌, ◌<◌, ◌≤◌, inr, false, ℤ, List, Option, Some, None, arith}
use Rattle.std.specs.Prelude.{count_by, IfNone}
use Rattle.semantics.specs.Cause.{is_turn}
use Rattle.semantics.specs.Faithful.{largest}
use Rattle.semantics.specs.Graph.{Graph, flow_of}
use Rattle.semantics.specs.Machine.{Size}
use Rattle.semantics.specs.Meaning.{fetch_count}
use Rattle.semantics.specs.Report.{sum_below}
use Rattle.semantics.specs.WellFormed.{WellFormed}
use Rattle.schedule.specs.Unlisted.{with_events}
use Rattle.driver.specs.declared.order.Order.{Order}
use Rattle.law_compiler.specs.Objects.{plan_of}
use Rattle.law_confluence.specs.Outcome.{AreInputsOf}
use Rattle.law_completion.specs.TotalGraph.{NeedsAtMost, IsLargeEnough}
use Rattle.law_completion.proofs.OneRun.{one_run_counts}
use Rattle.oracle.specs.Calling.{CallsFor}
use Rattle.semantics.specs.Plan.{Plan}
use Rattle.driver.specs.declared.needs.MachineNeeds.{MachineNeeds}
use Rattle.driver.specs.Needs.{least_steps, AreUntold, AreNeedsOf, HasNeeds, NeedsSuffice, NeedsSufficeInModes, NeedsSufficeQuietly}
use Rattle.driver.specs.Orders.{size_of}
use Rattle.driver.proofs.Completed.{report_completes}

none_below : (n : ℕ) (f : ℕ → ℕ) → ((x : ℕ) → f x ≡ 0) → sum_below n f ≡ 0
none_below zero f h = refl
none_below (suc n) f h = let less = none_below n f h in let last = h n in omega (arith, less, last)

-- One run of the meaning counts for all.
pub calls_needed : (g : Graph) (inputs : List ℤ) → WellFormed g → AreInputsOf g inputs → (activities called iterations : ℕ)
    → CallsFor g inputs activities called iterations → NeedsAtMost g inputs called iterations
calls_needed g inputs well fit activities called iterations c =
    let fl = flow_of g in
    let needs = one_run_counts g inputs well fit c.state
    record {
      reached = record { run = c.run; is_run = c.is_run };
      at_rest = c.at_rest;
      no_clash = c.no_clash;
      none_waits = none_below _ (λ x. fetch_count fl x c.state.tokens) c.none_waits;
    } c.run c.is_run c.called c.all in
    subst (λ (t : ℕ). NeedsAtMost g inputs called t) c.iteration_count (subst (λ (d : ℕ). NeedsAtMost g inputs d (count_by is_turn c.called)) c.invocation_count needs)

pub some_elements : (e f n : ℕ) → 1 + n ≤ e * f → 0 < e
some_elements zero f n h = absurd (omega (arith, h))
some_elements (suc e) f n h = omega arith

pub some_frames : (e f n : ℕ) → 1 + n ≤ e * f → 0 < f
some_frames e zero n h = absurd (omega (arith, h))
some_frames e (suc f) n h = omega arith

large : (g : Graph) (inputs : List ℤ) (z : Size) (limit activities frames steps iterations : ℕ) (n : AreNeedsOf g inputs activities frames steps iterations)
    → HasNeeds g z limit frames steps iterations → IsLargeEnough g (plan_of g).program z limit n.called iterations
large g inputs z limit activities frames steps iterations n h =
    let room : 1 + n.called ≤ z.elements * z.frames = subst (λ (f : ℕ). f ≤ z.elements * z.frames) n.frames_are h.frames_fit in
    let most = n.steps_are in
    let fits = h.steps_fit in
    record {
      some_element = some_elements z.elements z.frames n.called room;
      some_frame = some_frames z.elements z.frames n.called room;
      frames = room;
      steps = omega (arith, most, fits);
      credits = h.bounds;
    }

pub needs_suffice : NeedsSuffice
needs_suffice text g inputs z limit by_list may_stop r h activities frames steps iterations n has uncut =
    report_completes text g inputs z limit by_list may_stop r h n.called iterations
    (calls_needed g inputs h.well_formed h.inputs_fit activities n.called iterations n.calls)
    (large g inputs z limit activities frames steps iterations n has) uncut

pub needs_suffice_in_modes : NeedsSufficeInModes
needs_suffice_in_modes (Order.InTurn take) text g inputs c may_stop r h = needs_suffice text g inputs (size_of c) c.steps false false r h.0
needs_suffice_in_modes (Order.InRounds take) text g inputs c may_stop r h = needs_suffice text g inputs (size_of c) c.steps false may_stop r h
needs_suffice_in_modes (Order.Free take) text g inputs c may_stop r h = needs_suffice text g inputs (size_of c) c.steps false may_stop r h

pub needs_suffice_quietly : NeedsSufficeQuietly
needs_suffice_quietly order text g inputs c may_stop r h activities frames steps iterations n has uncut =
    let v = needs_suffice_in_modes order text g inputs c may_stop (with_events r h.2.1) h.2.2 activities frames steps iterations n has
    record { memory = uncut.memory; gate = uncut.gate; list = uncut.list } in
    record { rest = v.rest; none_waits = v.none_waits }

-- The steps have too many bits.
pub untold : (g : Graph) (inputs : List ℤ) (activities called iterations : ℕ) (p : Plan) → p ≡ plan_of g → CallsFor g inputs activities called iterations
    → (r : Option MachineNeeds) → IfNone r (2 ^ 128 ≤ least_steps (largest p.program.blocks) called) → IfNone r (AreUntold g inputs activities)
untold g inputs activities called iterations p is calls (Some n) h = tt
untold g inputs activities called iterations p is calls None h =
    inr (inr (called, iterations, calls, subst (λ (p : Plan). 2 ^ 128 ≤ least_steps (largest p.program.blocks) called) is h))
