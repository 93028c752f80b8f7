use Rattle.std.proofs.Common.{◌≡◌, ◌∙◌, [], ap, sym}
use Rattle.source.specs.declared.word.Word.TheVariants as core_word
use Rattle.surface_check.specs.Machine.{MachineView, items_in}
use Rattle.surface_check.specs.Renamed.{numbers_in}
use Rattle.surface_check.specs.Steps as steps
use Rattle.surface_check.proofs.Alike.{name_read_alike, rank_alike, end_loop_alike, bound_alike}
use Rattle.surface_check.proofs.Dispatch.{does_plainly, core_word_step, one_of_three}
use Rattle.surface_check.proofs.machine.Machine.core_step.Goals as goal

pub returns-in-Name : goal.returns-in-Name
returns-in-Name g c =
    let k = items_in c.args.table.now in
    let s = c.self-in-Name.inside.opened in
    let e : c.args.word ≡ core_word.Name c.in-Name.at c.in-Name.name = cc c.in-Name.is in
    let v : c.args.self.now.opened ≡ s = ap (λ (m : MachineView). m.opened) (sym c.self-in-Name.view_is) in
    does_plainly c.name_read.result c.name_read.new.self c.self-in-Name.inside.evaluator c.self-in-Name.inside.mode
    (steps.core_step (numbers_in c.args.names.now) k c.args.self.now.opened c.args.word c.args.later.now)
    (steps.name_read (numbers_in []) k s c.in-Name.at c.in-Name.name c.args.later.now)
    (ap (λ (m : MachineView). m.mode) c.self-in-Name.view_is ∙ c.requires.plain) c.name_read.ensures
    (core_word_step c.args.names.now k c.args.self.now.opened s c.args.word (core_word.Name c.in-Name.at c.in-Name.name) c.args.later.now e v
    ∙ name_read_alike c.args.names.now k s c.in-Name.at c.in-Name.name c.args.later.now)

pub returns-in-Cell : goal.returns-in-Cell
returns-in-Cell g c =
    let k = items_in c.args.table.now in
    let s = c.self-in-Cell.inside.opened in
    let e : c.args.word ≡ core_word.Cell c.in-Cell.at c.in-Cell.array = cc c.in-Cell.is in
    let v : c.args.self.now.opened ≡ s = ap (λ (m : MachineView). m.opened) (sym c.self-in-Cell.view_is) in
    does_plainly c.cell.result c.cell.new.self c.self-in-Cell.inside.evaluator c.self-in-Cell.inside.mode
    (steps.core_step (numbers_in c.args.names.now) k c.args.self.now.opened c.args.word c.args.later.now)
    (steps.cell s c.in-Cell.at (steps.rank_at (numbers_in []) k s c.in-Cell.array))
    (ap (λ (m : MachineView). m.mode) c.self-in-Cell.view_is ∙ c.requires.plain) c.cell.ensures
    (core_word_step c.args.names.now k c.args.self.now.opened s c.args.word (core_word.Cell c.in-Cell.at c.in-Cell.array) c.args.later.now e v
    ∙ ap (steps.cell s c.in-Cell.at) (rank_alike c.args.names.now k s c.in-Cell.array))

pub returns-in-EndLoop : goal.returns-in-EndLoop
returns-in-EndLoop g c =
    let k = items_in c.args.table.now in
    let s = c.self-in-EndLoop.inside.opened in
    let e : c.args.word ≡ core_word.EndLoop c.in-EndLoop.at c.in-EndLoop.bound = cc c.in-EndLoop.is in
    let v : c.args.self.now.opened ≡ s = ap (λ (m : MachineView). m.opened) (sym c.self-in-EndLoop.view_is) in
    does_plainly c.end_loop.result c.end_loop.new.self c.self-in-EndLoop.inside.evaluator c.self-in-EndLoop.inside.mode
    (steps.core_step (numbers_in c.args.names.now) k c.args.self.now.opened c.args.word c.args.later.now)
    (steps.end_loop (numbers_in []) k (steps.popped s) c.in-EndLoop.at (steps.top s.frames))
    (ap (λ (m : MachineView). m.mode) c.self-in-EndLoop.view_is ∙ c.requires.plain) c.end_loop.ensures
    (core_word_step c.args.names.now k c.args.self.now.opened s c.args.word (core_word.EndLoop c.in-EndLoop.at c.in-EndLoop.bound) c.args.later.now e v
    ∙ end_loop_alike c.args.names.now k (steps.popped s) c.in-EndLoop.at (steps.top s.frames))

pub returns-in-Parameter : goal.returns-in-Parameter
returns-in-Parameter g c =
    let k = items_in c.args.table.now in
    let s = c.self-in-Parameter.inside.opened in
    let at = c.in-Parameter.at in
    let x = c.in-Parameter.name in
    let bound = steps.bound (numbers_in []) k (steps.popped s) at x (steps.top s.frames) in
    let alike = bound_alike c.args.names.now k (steps.popped s) at x (steps.top s.frames) in
    let v : c.args.self.now.opened ≡ s = ap (λ (m : MachineView). m.opened) (sym c.self-in-Parameter.view_is) in
    does_plainly c.bound.result c.bound.new.self c.self-in-Parameter.inside.evaluator c.self-in-Parameter.inside.mode
    (steps.core_step (numbers_in c.args.names.now) k c.args.self.now.opened c.args.word c.args.later.now) bound
    (ap (λ (m : MachineView). m.mode) c.self-in-Parameter.view_is ∙ c.requires.plain) c.bound.ensures
    (one_of_three c.args.names.now k c.args.self.now.opened s c.args.word (core_word.Parameter at x) (core_word.Start at x) (core_word.Bind at x) c.args.later.now
    bound c.in-Parameter.is v alike alike alike)
