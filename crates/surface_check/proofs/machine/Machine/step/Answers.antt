use Rattle.std.proofs.Common.{◌≡◌, ◌∙◌, ℕ, ap, sym, subst}
use Rattle.surface_check.specs.declared.machine.Mode.TheVariants as mode
use Rattle.surface_check.specs.Machine.{MachineView, items_in, state_in}
use Rattle.surface_check.specs.Renamed.{numbers_in}
use Rattle.surface_check.specs.Steps.{State, step}
use Rattle.surface_check.specs.Table.{DoesAs}
use Rattle.surface_check.proofs.Dispatch.{measuring_state}
use Rattle.surface_check.proofs.machine.Machine.step.Goals as goal

pub returns-in-Measuring : goal.returns-in-Measuring
returns-in-Measuring g c =
    let m : c.args.self.now.mode ≡ mode.Measuring c.in-Measuring.at c.in-Measuring.rank =
    ap (λ (v : MachineView). v.mode) (sym c.self.view_is) ∙ c.in-Measuring.is in
    subst (λ (v : State ℕ). DoesAs c.measuring.result (state_in c.measuring.new.self) (step (numbers_in c.args.names.now) (items_in c.args.table.now) v c.args.word
    c.args.later.now)) (sym (measuring_state c.args.self.now c.in-Measuring.at c.in-Measuring.rank m)) (c.measuring.ensures (numbers_in c.args.names.now) c.args.later.now)
