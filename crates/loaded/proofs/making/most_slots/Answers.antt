use Rattle.std.proofs.Common.{ℕ, max, sym, ap, ◌∙◌}
use Rattle.semantics.specs.Program.{first_of}
use Rattle.loaded.proofs.Tables.{parsed_widest}
use Rattle.loaded.proofs.making.most_slots.Goals as goal

pub loop-number-preserved : goal.loop-number-preserved
loop-number-preserved c =
    let p = c.args.object.now.code.program in
    let b = c.in-Some.block in
    c.max-most.ensures ∙ ap (λ (n : ℕ). max n b.slots) c.loop-number.invariant
    ∙ parsed_widest p.blocks c.loop-number.number (first_of p c.loop-number.number) b (sym c.in-Some.is ∙ c.block.ensures)
