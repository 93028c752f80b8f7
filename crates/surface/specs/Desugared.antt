-- WHAT A PROGRAM IS SHORT FOR: a program of the core; or the first fault that only the core shows.
use Rattle.std.specs.Prelude.{ℕ, List, [], ◌∷◌, ◌++◌, drop}
use Rattle.std.specs.Prelude.{Option, None, Some, Result, Ok, ⊤, if◌then◌else◌}
use Rattle.semantics.specs.Graph.{same_name}
use Rattle.source.specs.declared.fault.FaultKind.TheVariants.{TooBig}
use Rattle.source.specs.Tree as core
use Rattle.source.specs.Tree.{Name, NameAt, NumberAt}
use Rattle.surface.specs.declared.fault.Fault.{Fault}
use Rattle.surface.specs.declared.fault.FaultKind.TheVariants.{Core}
use Rattle.surface.specs.Tree.{Count, Function, Item, Cells, Const, Defines, Program}
use Rattle.surface.specs.First.{◌>>=◌, refused}
use Rattle.surface.specs.Known.{Known, nothing, lookup, some_or, product, all_values}
use Rattle.surface.specs.Constants.{counted}
use Rattle.surface.specs.Rules.{heads, ranks, value_params, last_place}
use Rattle.surface.specs.Desugar.{Instance, Setting, desugar_body}
use Rattle.surface.specs.Instances.{Wanted, text_names, hidden_prefix, all_wanted, arrays_for, in_function, function_in, named_instances}

abbrev pub core_results : Known → Option Count → Option NumberAt
core_results known None = None
core_results known (Some n) = Some (counted known n)

-- a function under a name of the core, where its parameters stand for these arrays
abbrev pub core_function : Setting → Function → Name → List Name → core.Function
core_function s f name arrays = record {
  name = record { at = f.name.at; name = name };
  params = value_params f.params;
  results = core_results s.known f.results;
  body_at = f.body_at;
  body = (desugar_body (in_function s (arrays_for f.params arrays)) f.body 0).it;
}

-- instances are where their function is, in their order
abbrev pub instances_of : Setting → Function → List Instance → core.Program
instances_of s f [] = []
instances_of s f (i ∷ instances) =
    if same_name f.name.name i.function then core.Defines (core_function s f i.name i.arrays) ∷ instances_of s f instances
    else instances_of s f instances

abbrev pub core_item : Setting → Item → core.Program
core_item s (Cells x es) = core.Cells x (record { at = last_place es; number = product (some_or [] (lookup s.known.arrays x.name)) }) ∷ []
core_item s (Const x e) = []
core_item s (Defines f) = if all_values (ranks f.params) then core.Defines (core_function s f f.name.name []) ∷ [] else instances_of s f s.instances

abbrev pub core_items : Setting → Program → core.Program
core_items s [] = []
core_items s (i ∷ items) = core_item s i ++ core_items s items

-- before instances are known
abbrev pub first_setting : Known → Program → Setting
first_setting known p = record { known = known; prefix = hidden_prefix (text_names p); instances = []; stand_for = [] }

abbrev pub with_instances : Setting → Program → List Wanted → Setting
with_instances s p ws = record { known = s.known; prefix = s.prefix; instances = named_instances s.prefix (text_names p) 1 ws; stand_for = [] }

-- the place of a function's name
abbrev pub function_place : Option Function → ℕ
function_place None = 0
function_place (Some f) = f.name.at

-- 256 instances at most, else the fault is at the function of the next one
abbrev pub few_instances : Program → List Wanted → Result ⊤ Fault
few_instances p [] = Ok tt
few_instances p (w ∷ ws) = refused (Core TooBig) (function_place (function_in p w.function))

abbrev pub desugared_in : Setting → Program → List Wanted → Result core.Program Fault
desugared_in s p ws = do
  few ← few_instances p (drop 256 ws)
  Ok (core_items (with_instances s p ws) p)

abbrev pub desugared : Program → Result core.Program Fault
desugared p = do
  known ← heads nothing p
  desugared_in (first_setting known p) p (all_wanted (first_setting known p) p)
