-- What becomes of bytes; this depends on their first refusal.
use Rattle.std.specs.Prelude.{Option, Some, None}
use Rattle.object_view.specs.declared.fault.ObjectFault.{ObjectFault}
use Rattle.test_object_changes.specs.declared.outcome.Outcome.{Outcome}
use Rattle.test_object_changes.specs.declared.outcome.Outcome.TheVariants.{Refused, Same}

-- An object is written again to the same bytes, and all other bytes are refused.
abbrev pub outcome : Option ObjectFault → Outcome
outcome None = Same
outcome (Some fault) = Refused fault
