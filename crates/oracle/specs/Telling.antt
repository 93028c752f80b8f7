-- The deed of an act: its task, with its value.
use Rattle.std.specs.Prelude.{Option, Some, None}
use Rattle.tags.specs.declared.value.Value.{Value}
use Rattle.oracle.specs.declared.deeds.Act.{Act}
use Rattle.oracle.specs.declared.deeds.Task.{Task}
use Rattle.oracle.specs.declared.deeds.Task.TheVariants.{Sends, Steers, Enters, EntersAll, Stops, Reads, Fills, Puts}
use Rattle.oracle.specs.Deeds.{Deed}
use Rattle.oracle.specs.Deeds as Deeds

abbrev pub deed_with : Task → Value → Deed
deed_with (Sends c n p) v = Deeds.Sends c n p v
deed_with (Steers c k) v = Deeds.Steers c k v
deed_with (Enters made f i) v = Deeds.Enters made f i v
deed_with (EntersAll made f) v = Deeds.EntersAll made f
deed_with Stops v = Deeds.Stops
deed_with (Reads c n x) v = Deeds.Reads c n x
deed_with (Fills c n x a i) v = Deeds.Fills c n x a i v
deed_with (Puts j) v = Deeds.Puts j v

abbrev pub told : Act → Deed
told act = deed_with act.task act.value

abbrev pub told_if : Option Act → Option Deed
told_if None = None
told_if (Some act) = Some (told act)
