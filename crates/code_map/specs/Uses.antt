-- The counts of uses that the map's own table has, as the schemas count.
use Rattle.std.specs.Prelude.{List, map}
use Rattle.schemas.specs.declared.uses.Uses as Declared
use Rattle.code_map.specs.declared.uses.Use.{Use}
use Rattle.code_map.specs.declared.uses.Use.TheVariants.{Never, Once, Often}

abbrev pub count_of : Use → Declared.Uses
count_of Never = Declared.TheVariants.Never
count_of Once = Declared.TheVariants.Once
count_of Often = Declared.TheVariants.Often

abbrev pub counts_of : List Use → List Declared.Uses
counts_of us = map count_of us

abbrev pub once_more : Use → Use
once_more Never = Once
once_more Once = Often
once_more Often = Often
