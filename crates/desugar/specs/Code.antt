-- IN CODE the values of constants and the sizes of arrays are in the table of what is known.
use Rattle.std.specs.Prelude.{ℕ, ◌+◌, ◌==◌, nat_lt, List, [], Option, None, if◌then◌else◌}
use Rattle.surface.specs.Known.{some_or, product}
use Rattle.surface_check.specs.declared.entry.Entry.{Entry}
use Rattle.surface_check.specs.Table.{item_in}
use Rattle.surface_check.specs.Pins.{constant_in, array_in}
use Rattle.desugar.specs.Steps.{Names}

-- What numbers stand for, where a program has so many names: those of the table, and then hidden ones.
abbrev pub numbers : List (Option Entry) → ℕ → Names ℕ
numbers entries count = record {
  same = λ i j. i == j;
  constant = λ n. if nat_lt n count then constant_in (item_in entries n) else None;
  array = λ n. n;
  cells = λ n. product (some_or [] (if nat_lt n count then array_in (item_in entries n) else None));
  hidden = λ n. count + n;
}
