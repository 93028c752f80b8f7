-- So what a good program is short for fits the grammar of the core.
use Rattle.std.specs.Prelude.{◌≡◌, ℕ, ◌<◌, ◌==◌, ◌||◌, Bool, true, false, List, [], ◌∷◌, ◌++◌, drop, length, Option, None, Some, Result, Ok, refl, if◌then◌else◌}
use Rattle.std.proofs.Common.{subst, arith}
use Rattle.semantics.specs.Graph.{same_name}
use Rattle.source.specs.Tree as core
use Rattle.source.specs.Tree.{Name, NameAt}
use Rattle.source.specs.Fits as core_fits
use Rattle.source.specs.Fits.{Small}
use Rattle.surface.specs.declared.fault.Fault.{Fault}
use Rattle.surface.specs.Tree.{Count, Param, Function, Item, Cells, Const, Defines, Program}
use Rattle.surface.specs.Fits.{IsSmallIfWritten, FitsItem, FitsProgram}
use Rattle.surface.specs.Known.{Known, nothing, lookup, some_or, product, all_values, some_value}
use Rattle.surface.specs.Rules.{heads, ranks, value_params}
use Rattle.surface.specs.Desugar.{Setting, Instance}
use Rattle.surface.specs.Instances.{Wanted, all_wanted, arrays_for, in_function}
use Rattle.surface.specs.Desugared.{core_results, core_function, instances_of, core_item, core_items, first_setting, with_instances, few_instances}
use Rattle.surface.specs.Desugared.{desugared_in}
use Rattle.law_surface.specs.GoodGivesGood.{DesugaredFits}
use Rattle.law_surface.proofs.Steps.{then_ok, ok_same}
use Rattle.law_surface.proofs.DesugaredFits.{KnownSmall, counted_small, body_fits}
use Rattle.law_surface.proofs.ConstantsSmall.{HasValue, HaveValues, items_small, nothing_small}

join : (ps qs : core.Program) → core_fits.FitsProgram ps → core_fits.FitsProgram qs → core_fits.FitsProgram (ps ++ qs)
join [] qs h g = g
join (i ∷ ps) qs h g = (h.0, join ps qs h.1 g)

some_are_values : (ps : List Param) → some_value (ranks ps) ≡ true → 0 < length (value_params ps)
some_are_values [] h = cc
some_are_values (p ∷ ps) h = go (p.rank == 0) h (λ e. some_are_values ps e)
  where
    go : (b : Bool) → (b || some_value (ranks ps)) ≡ true → (some_value (ranks ps) ≡ true → 0 < length (value_params ps)) → 0 < length (if b then p.name ∷
        value_params ps else value_params ps)
    go true e later = omega arith
    go false e later = later e

results_small : (known : Known) → KnownSmall known → (n : Option Count) → IsSmallIfWritten n → core_fits.IsSmall (core_results known n)
results_small known k None h = tt
results_small known k (Some n) h = counted_small known k n h

function_fits : (s : Setting) → KnownSmall s.known → (f : Function) (name : Name) (arrays : List Name) → FitsItem (Defines f) → HasValue (Defines f)
    → core_fits.FitsItem (core.Defines (core_function s f name arrays))
function_fits s k f name arrays h v = (
  some_are_values f.params v,
  results_small s.known k f.results h.1,
  (body_fits (in_function s (arrays_for f.params arrays)) k false f.body h.2 0).1,
)

instances_fit : (s : Setting) → KnownSmall s.known → (f : Function) (instances : List Instance) → FitsItem (Defines f) → HasValue (Defines f)
    → core_fits.FitsProgram (instances_of s f instances)
instances_fit s k f [] h v = tt
instances_fit s k f (i ∷ instances) h v = go (same_name f.name.name i.function) (instances_fit s k f instances h v)
  where
    go : (b : Bool) → core_fits.FitsProgram (instances_of s f instances) → core_fits.FitsProgram (if b then core.Defines (core_function s f i.name i.arrays) ∷
        instances_of s f instances else instances_of s f instances)
    go true rest = (function_fits s k f i.name i.arrays h v, rest)
    go false rest = rest

cells_small : (s : Setting) → KnownSmall s.known → (x : Name) → Small (product (some_or [] (lookup s.known.arrays x)))
cells_small s k x = go (lookup s.known.arrays x) refl
  where
    go : (o : Option (List ℕ)) → lookup s.known.arrays x ≡ o → Small (product (some_or [] o))
    go None e = omega arith
    go (Some ns) e = (k.arrays x ns e).1

item_fits : (s : Setting) → KnownSmall s.known → (i : Item) → FitsItem i → HasValue i → core_fits.FitsProgram (core_item s i)
item_fits s k (Cells x es) h v = (cells_small s k x.name, tt)
item_fits s k (Const x e) h v = tt
item_fits s k (Defines f) h v = go (all_values (ranks f.params))
  where
    go : (b : Bool) → core_fits.FitsProgram (if b then core.Defines (core_function s f f.name.name []) ∷ [] else instances_of s f s.instances)
    go true = (function_fits s k f f.name.name [] h v, tt)
    go false = instances_fit s k f s.instances h v

items_fit : (s : Setting) → KnownSmall s.known → (p : Program) → FitsProgram p → HaveValues p → core_fits.FitsProgram (core_items s p)
items_fit s k [] h v = tt
items_fit s k (i ∷ items) h v = join (core_item s i) (core_items s items) (item_fits s k i h.0 v.0) (items_fit s k items h.1 v.1)

pub desugared_fits : DesugaredFits
desugared_fits p q end short =
    let made : Known → Result core.Program Fault = λ known. desugared_in (first_setting known p) p (all_wanted
    (first_setting known p) p) in
    let s = then_ok (heads nothing p) made q short.is in
    let first : Setting = first_setting s.0 p in
    let ws : List Wanted = all_wanted first p in
    let t = then_ok (few_instances p (drop 256 ws)) (λ few. Ok (core_items (with_instances first p ws) p)) q s.2 in
    let small = items_small nothing nothing_small p s.0 short.fits s.1 in
    subst (λ (q : core.Program). core_fits.FitsProgram q) (ok_same (core_items (with_instances first p ws) p) q t.2) (items_fit (with_instances first p ws)
    small.0 p short.fits small.1)
