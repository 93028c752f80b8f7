use Rattle.std.proofs.Common.{◌≡◌, ◌∙◌, [], ap, sym}
use Rattle.surface.specs.declared.word.Word.TheVariants as word
use Rattle.surface_check.specs.Machine.{MachineView, items_in}
use Rattle.surface_check.specs.Renamed.{numbers_in}
use Rattle.surface_check.specs.Steps as steps
use Rattle.surface_check.proofs.Alike.{bound_alike, array_bound_alike, end_loop_alike, end_for_alike}
use Rattle.surface_check.proofs.Dispatch.{does_plainly, word_step}
use Rattle.surface_check.proofs.machine.Machine.plain_step.Goals as goal

pub returns-in-ArrayParameter : goal.returns-in-ArrayParameter
returns-in-ArrayParameter g c =
    let k = items_in c.args.table.now in
    let s = c.self.inside.opened in
    let e : c.args.word ≡ word.ArrayParameter c.in-ArrayParameter.at c.in-ArrayParameter.name c.in-ArrayParameter.rank = cc c.in-ArrayParameter.is in
    let v : c.args.self.now.opened ≡ s = ap (λ (m : MachineView). m.opened) (sym c.self.view_is) in
    does_plainly c.array_bound.result c.array_bound.new.self c.self.inside.evaluator c.self.inside.mode
    (steps.plain_step (numbers_in c.args.names.now) k c.args.self.now.opened c.args.word c.args.later.now)
    (steps.array_bound (numbers_in []) k (steps.popped s) c.in-ArrayParameter.at c.in-ArrayParameter.name c.in-ArrayParameter.rank (steps.top s.frames))
    (ap (λ (m : MachineView). m.mode) c.self.view_is ∙ c.requires.plain) c.array_bound.ensures
    (word_step c.args.names.now k c.args.self.now.opened s c.args.word (word.ArrayParameter c.in-ArrayParameter.at c.in-ArrayParameter.name c.in-ArrayParameter.rank) c.args.later.now e v
    ∙ array_bound_alike c.args.names.now k (steps.popped s) c.in-ArrayParameter.at c.in-ArrayParameter.name c.in-ArrayParameter.rank (steps.top s.frames))

pub returns-in-EndConstantLoop : goal.returns-in-EndConstantLoop
returns-in-EndConstantLoop g c =
    let k = items_in c.args.table.now in
    let s = c.self-in-EndConstantLoop.inside.opened in
    let e : c.args.word ≡ word.EndConstantLoop c.in-EndConstantLoop.at c.in-EndConstantLoop.name = cc c.in-EndConstantLoop.is in
    let v : c.args.self.now.opened ≡ s = ap (λ (m : MachineView). m.opened) (sym c.self-in-EndConstantLoop.view_is) in
    does_plainly c.end_loop.result c.end_loop.new.self c.self-in-EndConstantLoop.inside.evaluator c.self-in-EndConstantLoop.inside.mode
    (steps.plain_step (numbers_in c.args.names.now) k c.args.self.now.opened c.args.word c.args.later.now)
    (steps.end_loop (numbers_in []) k (steps.popped s) c.in-EndConstantLoop.at (steps.top s.frames))
    (ap (λ (m : MachineView). m.mode) c.self-in-EndConstantLoop.view_is ∙ c.requires.plain) c.end_loop.ensures
    (word_step c.args.names.now k c.args.self.now.opened s c.args.word (word.EndConstantLoop c.in-EndConstantLoop.at c.in-EndConstantLoop.name) c.args.later.now e v
    ∙ end_loop_alike c.args.names.now k (steps.popped s) c.in-EndConstantLoop.at (steps.top s.frames))

pub returns-in-Counter : goal.returns-in-Counter
returns-in-Counter g c =
    let k = items_in c.args.table.now in
    let s = c.self-in-Counter.inside.opened in
    let e : c.args.word ≡ word.Counter c.in-Counter.at c.in-Counter.name = cc c.in-Counter.is in
    let v : c.args.self.now.opened ≡ s = ap (λ (m : MachineView). m.opened) (sym c.self-in-Counter.view_is) in
    does_plainly c.bound.result c.bound.new.self c.self-in-Counter.inside.evaluator c.self-in-Counter.inside.mode
    (steps.plain_step (numbers_in c.args.names.now) k c.args.self.now.opened c.args.word c.args.later.now)
    (steps.bound (numbers_in []) k (steps.popped s) c.in-Counter.at c.in-Counter.name (steps.top s.frames))
    (ap (λ (m : MachineView). m.mode) c.self-in-Counter.view_is ∙ c.requires.plain) c.bound.ensures
    (word_step c.args.names.now k c.args.self.now.opened s c.args.word (word.Counter c.in-Counter.at c.in-Counter.name) c.args.later.now e v
    ∙ bound_alike c.args.names.now k (steps.popped s) c.in-Counter.at c.in-Counter.name (steps.top s.frames))

pub returns-in-EndFor : goal.returns-in-EndFor
returns-in-EndFor g c =
    let k = items_in c.args.table.now in
    let s = c.self-in-EndFor.inside.opened in
    let e : c.args.word ≡ word.EndFor c.in-EndFor.at = cc c.in-EndFor.is in
    let v : c.args.self.now.opened ≡ s = ap (λ (m : MachineView). m.opened) (sym c.self-in-EndFor.view_is) in
    does_plainly c.end_for.result c.end_for.new.self c.self-in-EndFor.inside.evaluator c.self-in-EndFor.inside.mode
    (steps.plain_step (numbers_in c.args.names.now) k c.args.self.now.opened c.args.word c.args.later.now)
    (steps.end_for (numbers_in []) k (steps.popped s) c.in-EndFor.at (steps.top s.frames))
    (ap (λ (m : MachineView). m.mode) c.self-in-EndFor.view_is ∙ c.requires.plain) c.end_for.ensures
    (word_step c.args.names.now k c.args.self.now.opened s c.args.word (word.EndFor c.in-EndFor.at) c.args.later.now e v
    ∙ end_for_alike c.args.names.now k (steps.popped s) c.in-EndFor.at (steps.top s.frames))
