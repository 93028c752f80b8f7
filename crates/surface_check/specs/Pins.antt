-- WHAT THE TABLE SAYS of a name is what is known of it.
use Rattle.std.specs.Prelude.{◌≡◌, ℕ, ℤ, Bool, true, false, List, take, drop, is_some, Option, None, Some}
use Rattle.source.specs.Tree.{Name}
use Rattle.source.specs.Outside.{is_in}
use Rattle.surface.specs.Known.{Known, Signature, Callee, Missing, lookup, called}
use Rattle.surface_check.specs.declared.entry.Entry.{Entry}
use Rattle.surface_check.specs.declared.entry.Entry.TheVariants as entry
use Rattle.surface_check.specs.Heads.{lengths_in}

abbrev pub constant_in : Option Entry → Option ℤ
constant_in (Some (entry.Constant z)) = Some z
constant_in o = None

abbrev pub array_in : Option Entry → Option (List ℕ)
array_in (Some (entry.Array lengths)) = Some (lengths_in lengths)
array_in o = None

abbrev pub signature_in : List ℕ → Option Entry → Option Signature
signature_in ranks (Some (entry.Function first params results)) = Some (record { ranks = take params (drop first ranks); results = results })
signature_in ranks o = None

-- what is called by a name, where `built_in` is what the name means where no function has it
abbrev pub callee_in : Bool → Callee → Option Signature → Callee
callee_in strict built_in (Some s) = called s
callee_in true built_in None = Missing
callee_in false built_in None = built_in

-- The items and the ranks are those that are known.
pub record Pins (item : Name → Option Entry) (ranks : List ℕ) (known : Known) : Type 0 where
  pub constants : (x : Name) → constant_in (item x) ≡ lookup known.constants x
  pub arrays : (x : Name) → array_in (item x) ≡ lookup known.arrays x
  pub functions : (x : Name) → signature_in ranks (item x) ≡ lookup known.functions x
  pub names : (x : Name) → is_some (item x) ≡ is_in x known.names
