use Rattle.std.proofs.Common.{sym, ap, ◌∙◌}
use Rattle.slot_alloc.specs.Tables.{after_word}
use Rattle.slot_alloc.proofs.Blocking.{group_passed}
use Rattle.slot_alloc.proofs.table.Table.note_group.Goals as goal

pub returns-then-lanes-clause-exact : goal.returns-then-lanes-clause-exact
returns-then-lanes-clause-exact g c =
    let same = ap (λ n. after_word c.args.self.now.after n c.args.group) (sym c.requires.next) in
    group_passed c.args.self.now c.args.slots.now c.args.blocked.now c.args.group (same ∙ sym c.after_lanes-lanes.ensures ∙ c.if-lanes.true)
