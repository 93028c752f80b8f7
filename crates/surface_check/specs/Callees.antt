-- WHAT IS CALLED, as code has it.
use Rattle.std.specs.Prelude.{◌≡◌, ℕ, Bool, Option, List, take, drop}
use Rattle.source.specs.Tree.{Name}
use Rattle.surface.specs.Known.{Known, Callee, Missing, OfValues, OfArrays, IsBuiltIn, BuiltIn, Min, Max, Abs, Len, callee}
use Rattle.surface_check.specs.declared.callee.BuiltIn.{BuiltIn as Which}
use Rattle.surface_check.specs.declared.callee.BuiltIn.TheVariants as which
use Rattle.surface_check.specs.declared.callee.Callee.{Callee as Called}
use Rattle.surface_check.specs.declared.callee.Callee.TheVariants as called
use Rattle.surface_check.specs.declared.entry.Entry.{Entry}
use Rattle.surface_check.specs.Checks.{by_bytes}
use Rattle.surface_check.specs.Pins.{Pins}
use Rattle.surface_check.specs.Steps.{callee_at}

abbrev pub which_in : Which → BuiltIn
which_in which.Min = Min
which_in which.Max = Max
which_in which.Abs = Abs
which_in which.Len = Len

-- where these are the ranks of all parameters
abbrev pub callee_of : List ℕ → Called → Callee
callee_of ranks called.Missing = Missing
callee_of ranks (called.OfValues params results) = OfValues params results
callee_of ranks (called.OfArrays first params results) = OfArrays (take params (drop first ranks)) results
callee_of ranks (called.IsBuiltIn built_in) = IsBuiltIn (which_in built_in)

-- WHAT THE STEPS CALL is what the rules call.
abbrev pub CalleesAreKnown : Type 0
CalleesAreKnown = (item : Name → Option Entry) (ranks : List ℕ) (known : Known) → Pins item ranks known → (strict : Bool) (f : Name)
    → callee_at by_bytes (record { item = item; ranks = ranks }) strict f ≡ callee known strict f
