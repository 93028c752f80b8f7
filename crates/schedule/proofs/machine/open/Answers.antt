use Rattle.std.proofs.Common.{◌≡◌, refl, ◌∙◌, sym, ap, subst, List, length, map, arith, rules}
use Rattle.std.proofs.lemmas.List.{length-map}
use Rattle.semantics.specs.Program.{first_of}
use Rattle.semantics.specs.Machine.{Events}
use Rattle.std.specs.Prelude.{All}
use Rattle.std.proofs.Math.Nat.{one-le-mul}
use Rattle.element.specs.Holding.{Holding, Fixed, held_of, fixed_of}
use Rattle.schedule.specs.Setting.{IsGoodSetting}
use Rattle.schedule.specs.State.{IsAt, IsSoundState, RunsAs, delivered}
use Rattle.schedule.specs.Runs.{Began}
use Rattle.schedule.specs.Starts.{IsFresh, sized, setting_of, start_tokens}
use Rattle.schedule.proofs.Places.{from_weaker}
use Rattle.schedule.proofs.Starting.{fresh_over, runs_over, runs_good, runs_some, good_setting, lanes_are, opens_sound, opens_began}
use Rattle.schedule.proofs.machine.open.Goals as goal

pub give_inputs-requires-clause-at : goal.give_inputs-requires-clause-at
give_inputs-requires-clause-at g c =
    let p = g.C.Instructions.program c.args.code.now in
    let k = c.args.config.now in
    let v = c.insert-store.result.now in
    let lanes = map held_of c.in_ok-lanes.lanes.items in
    let fixed = map fixed_of c.in_ok-lanes.lanes.items in
    let stored : v ≡ c.in_ok-made.made = search rules in
    let fresh = fresh_over p v k.elements k.frames c.slots.result c.slots.result lanes (stored ∙ c.in_ok-made.ensures) refl c.in_ok-lanes.ensures.fresh in
    from_weaker (IsFresh (sized p k.elements k.frames c.slots.result 0)) (IsAt k.elements) (λ i h f. (f.element, f.elements)) 0 lanes fresh

pub give_inputs-requires-clause-frames : goal.give_inputs-requires-clause-frames
give_inputs-requires-clause-frames g c =
    let p = g.C.Instructions.program c.args.code.now in
    let k = c.args.config.now in
    let v = c.insert-store.result.now in
    let fixed = map fixed_of c.in_ok-lanes.lanes.items in
    let stored : v ≡ c.in_ok-made.made = search rules in
    let runs = runs_over p v k.elements k.frames c.slots.result c.slots.result k.steps fixed (stored ∙ c.in_ok-made.ensures) refl c.in_ok-lanes.ensures.runs in
    let e = c.requires.good.elements in
    let f = c.requires.some_frame in
    let some = one-le-mul {a = k.elements} {b = k.frames} (omega arith) (omega arith) in
    runs_some (sized p k.elements k.frames c.slots.result k.steps) fixed some runs

pub invariant_of-result : goal.invariant_of-result
invariant_of-result g c =
    let p = g.C.Instructions.program c.args.code.now in
    let w = g.C.Instructions.width c.args.code.now in
    let k = c.args.config.now in
    let v = c.insert-store.result.now in
    let lanes = map held_of c.in_ok-lanes.lanes.items in
    let fixed = map fixed_of c.in_ok-lanes.lanes.items in
    let stored : v ≡ c.in_ok-made.made = search rules in
    let as_made = stored ∙ c.in_ok-made.ensures in
    let fresh = fresh_over p v k.elements k.frames c.slots.result w lanes as_made c.slots.ensures.exact c.in_ok-lanes.ensures.fresh in
    let good : IsGoodSetting (setting_of p w k) = good_setting p w c.slots.result k c.requires.good c.requires.some_frame c.slots.ensures.exact
    c.slots.ensures.some c.slots.ensures.few c.slots.ensures.fits in
    let count : length lanes ≡ k.elements = length-map c.in_ok-lanes.lanes.items held_of ∙ c.in_ok-lanes.ensures.count ∙ ap (λ x. x.elements) as_made in
    let are = lanes_are p c.give_inputs.new.lanes.items c.new-2.result.items c.main_entry.result c.args.inputs.now lanes c.new-2.ensures.items
    c.main_entry.ensures.exact c.in_ok-give_inputs.ensures.ok in
    record {
      arrived = omega arith;
      runs = subst (λ (fs : List Fixed). All (RunsAs (setting_of p w k)) fs) (sym c.give_inputs.ensures.fixed)
          (runs_good p w k fixed (runs_over p v k.elements k.frames c.slots.result w k.steps fixed as_made c.slots.ensures.exact c.in_ok-lanes.ensures.runs));
      sound = subst (λ (l : List Holding). IsSoundState (record { setting = setting_of p w k; lanes = l })) are
          (opens_sound (setting_of p w k) c.args.inputs.now lanes good count fresh);
    }

pub returns : goal.returns
returns g c =
    let p = g.C.Instructions.program c.args.code.now in
    let w = g.C.Instructions.width c.args.code.now in
    let k = c.args.config.now in
    let v = c.insert-store.result.now in
    let lanes = map held_of c.in_ok-lanes.lanes.items in
    let fixed = map fixed_of c.in_ok-lanes.lanes.items in
    let stored : v ≡ c.in_ok-made.made = search rules in
    let as_made = stored ∙ c.in_ok-made.ensures in
    let fresh = fresh_over p v k.elements k.frames c.slots.result w lanes as_made c.slots.ensures.exact c.in_ok-lanes.ensures.fresh in
    let good : IsGoodSetting (setting_of p w k) = good_setting p w c.slots.result k c.requires.good c.requires.some_frame c.slots.ensures.exact
    c.slots.ensures.some c.slots.ensures.few c.slots.ensures.fits in
    let count : length lanes ≡ k.elements = length-map c.in_ok-lanes.lanes.items held_of ∙ c.in_ok-lanes.ensures.count ∙ ap (λ x. x.elements) as_made in
    let are = lanes_are p c.give_inputs.new.lanes.items c.new-2.result.items c.main_entry.result c.args.inputs.now lanes c.new-2.ensures.items
    c.main_entry.ensures.exact c.in_ok-give_inputs.ensures.ok in
    record {
      arity = c.requires.arity;
      some_frame = c.requires.some_frame;
      good = c.requires.good;
      setting = refl;
      sound = subst (λ (l : List Holding). IsSoundState (record { setting = setting_of p w k; lanes = l })) are
          (opens_sound (setting_of p w k) c.args.inputs.now lanes good count fresh);
      began = subst (λ (l : List Holding). Began c.args.inputs.now (record { setting = setting_of p w k; lanes = l }) c.new-3.result.events.items) are
          (subst (λ (evs : Events). Began c.args.inputs.now
          (record { setting = setting_of p w k; lanes = delivered (start_tokens (first_of p p.main) c.args.inputs.now) lanes }) evs)
          (sym c.new-3.ensures) (opens_began (setting_of p w k) c.args.inputs.now lanes good count fresh));
      lanes = (lanes, fresh, sym are);
      events = c.new-3.ensures;
    }
