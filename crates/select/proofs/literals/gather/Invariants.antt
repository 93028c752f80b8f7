use Rattle.std.proofs.Common.{◌≡◌, drop}
use Rattle.select.specs.Literals.{entered, used_in, table_of, first_too_far, too_far}
use Rattle.select.proofs.literals.gather.Given as goal

abbrev pub invariant-loop-number : goal.invariant-loop-number
invariant-loop-number g l =
    (entered l.table.keys (used_in (drop l.number l.blocks)) ≡ table_of l.blocks)
    × (first_too_far l.number l.table.keys (drop l.number l.blocks) ≡ too_far l.blocks)
