use Rattle.std.proofs.Common.{◌≡◌, sym, ◌∙◌, arith}
use Rattle.std.specs.Prelude.{Some, slice_get}
use Rattle.lemmas.proofs.Lists.{taken_next}
use Rattle.loaded.specs.Ready.{entries_in}
use Rattle.loaded.proofs.Tables.{parsed_entry, all_entries}
use Rattle.loaded.proofs.making.entries_of.Goals as goal

pub loop-number-preserved : goal.loop-number-preserved
loop-number-preserved g c =
    let p = c.args.object.now.code.program in
    let there : slice_get (entries_in 0 p.blocks) c.loop-number.number ≡ Some c.in-Some.entry = parsed_entry p c.loop-number.number c.in-Some.entry
    (sym c.in-Some.is ∙ c.entry.ensures) in
    taken_next c.loop-number.number (entries_in 0 p.blocks) c.loop-number.entries.items c.push.new.self.items c.in-Some.entry there
    c.loop-number.invariant c.in_ok-push.ensures.items

pub returns : goal.returns
returns g c = all_entries c.args.object.now.code.program.blocks c.loop-number.number c.loop-number.entries.items c.loop-number.invariant
    (omega (arith, c.loop-number-test.false, c.block_count-number-end.ensures))
