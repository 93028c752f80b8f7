-- The items that heads have are those of the program, since no two have one name.
use Rattle.std.specs.Prelude.{◌≡◌, refl, ℕ, ◌+◌, ◌||◌, ◌&&◌, not, nat_le, nat_lt, drop, ⊤, Bool, true, false, List, [], ◌∷◌, is_some, Option, None}
use Rattle.std.specs.Prelude.{Some, Result, Ok, Err, if◌then◌else◌}
use Rattle.std.proofs.Common.{◌∙◌, ap, sym, subst}
use Rattle.std.proofs.lemmas.Bool.{or_right}
use Rattle.source.specs.declared.fault.Fault.{Fault}
use Rattle.semantics.specs.Graph.{same_name}
use Rattle.semantics.proofs.Lines.{same_name_is}
use Rattle.source.specs.declared.fault.FaultKind.TheVariants.{SameName, BadCount, TooMany}
use Rattle.source.specs.First.{◌>>=◌, must}
use Rattle.source.specs.Tree.{Name, Item, Cells, Defines, Program}
use Rattle.source.specs.Outside.{is_in}
use Rattle.source.specs.Rules as rules
use Rattle.source.specs.Rules.{item_name, item_names, array_in, function_in, few_params, good_results, no_items, heads, known_function, written_or_one}
use Rattle.source_check.specs.declared.frame.Entry.{Entry}
use Rattle.source_check.specs.declared.frame.Entry.TheVariants as entry
use Rattle.source_check.specs.Heads.{with_item}
use Rattle.source_check.specs.Steps.{is_array, shape_at}
use Rattle.source_check.specs.Checks.{is_function}
use Rattle.source_check.proofs.Runs.{mapped}
use Rattle.source_check.proofs.Over.{Knows, shape_of}
use Rattle.source_check.proofs.HeadsRead.{entry_of, with_items}

-- no name is one of these, or occurs twice
abbrev Apart : List Name → List Item → Type 0
Apart names [] = Unit {0}
Apart names (i ∷ items) = (is_in (item_name i).name names ≡ false) × Apart ((item_name i).name ∷ names) items

-- the first item of that name
abbrev entry_in : List Item → Name → Option Entry
entry_in [] x = None
entry_in (i ∷ items) x = if same_name x (item_name i).name then Some (entry_of i) else entry_in items x

err_is_no_ok : {A B : Type 0} (e : Fault) (x : A) → Err e ≡ Ok x → B
err_is_no_ok e x h = absurd (cc)

cells_apart : {A B : Type 0} (b c d f : Bool) (at from : ℕ) (n : A) (r : B) (K : A → Result B Fault)
    → ((must (not b) SameName at >>= λ new. must c TooMany at >>= λ few. must d BadCount from >>= λ fits. must f TooMany from >>= λ room. Ok n) >>= K) ≡ Ok
    r → (b ≡ false) × (K n ≡ Ok r)
cells_apart false true true true at from n r K h = (refl, h)
cells_apart true c d f at from n r K h = err_is_no_ok _ _ h
cells_apart false false d f at from n r K h = err_is_no_ok _ _ h
cells_apart false true false f at from n r K h = err_is_no_ok _ _ h
cells_apart false true true false at from n r K h = err_is_no_ok _ _ h

function_apart : {A B : Type 0} (b : Bool) (s t : Result ⊤ Fault) (at : ℕ) (n : A) (r : B) (K : A → Result B Fault)
    → ((must (not b) SameName at >>= λ new. s >>= λ few. t >>= λ fits. Ok n) >>= K) ≡ Ok r → (b ≡ false) × (K n ≡ Ok r)
function_apart false (Ok x) (Ok y) at n r K h = (refl, h)
function_apart true s t at n r K h = err_is_no_ok _ _ h
function_apart false (Err e) t at n r K h = err_is_no_ok _ _ h
function_apart false (Ok x) (Err e) at n r K h = err_is_no_ok _ _ h

heads_apart : (items : List Item) (b r : rules.Heads) → heads b items ≡ Ok r → Apart b.names items
heads_apart [] b r h = tt
heads_apart (Cells x len ∷ items) b r h =
    let k = cells_apart (is_in x.name b.names) (nat_lt b.arrays 64) (nat_le 1 len.number && nat_le len.number 65536) (nat_le
    (b.cells + len.number) 65536) x.at len.at
    (record { names = x.name ∷ b.names; arrays = b.arrays + 1; cells = b.cells + len.number }) r (λ next. heads next items) h in
    (k.0, heads_apart items (record { names = x.name ∷ b.names; arrays = b.arrays + 1; cells = b.cells + len.number }) r k.1)
heads_apart (Defines f ∷ items) b r h =
    let k = function_apart (is_in f.name.name b.names) (few_params (drop 16 f.params)) (good_results f.results) f.name.at
    (record { names = f.name.name ∷ b.names; arrays = b.arrays; cells = b.cells }) r (λ next. heads next items) h in
    (k.0, heads_apart items (record { names = f.name.name ∷ b.names; arrays = b.arrays; cells = b.cells }) r k.1)

-- A name before is none of these.
not_again : (x y : Name) (names : List Name) → is_in x names ≡ true → is_in y names ≡ false → same_name x y ≡ false
not_again x y names h k = go (same_name x y) refl
  where
    go : (b : Bool) → same_name x y ≡ b → b ≡ false
    go false e = refl
    go true e = let d : x ≡ y = same_name_is x y e in sym (subst (λ z. is_in z names ≡ true) d h) ∙ k

record IsNone (items : List Item) (x : Name) : Type 0 where
  entry : entry_in items x ≡ None
  array : array_in items x ≡ None
  function : function_in items x ≡ None

none_later : (items : List Item) (names : List Name) (x : Name) → Apart names items → is_in x names ≡ true → IsNone items x
none_later [] names x a h = record { entry = refl; array = refl; function = refl }
none_later (Cells y len ∷ items) names x a h =
    let e : same_name x y.name ≡ false = not_again x y.name names h a.0 in
    let k : IsNone items x = none_later items (y.name ∷ names) x a.1 (or_right (same_name x y.name) (is_in x names) h) in
    record { entry = rw e k.entry; array = rw e k.array; function = k.function }
none_later (Defines f ∷ items) names x a h =
    let e : same_name x f.name.name ≡ false = not_again x f.name.name names h a.0 in
    let k : IsNone items x = none_later items (f.name.name ∷ names) x a.1 (or_right (same_name x f.name.name) (is_in x names) h) in
    record { entry = rw e k.entry; array = k.array; function = rw e k.function }

stands_first : (x y : Name) (names : List Name) → same_name x y ≡ true → is_in x (y ∷ names) ≡ true
stands_first x y names h = rw h refl

abbrev or_else : Option Entry → Option Entry → Option Entry
or_else None y = y
or_else (Some x) y = Some x

with_all : (items : List Item) (names : List Name) (item : Name → Option Entry) (x : Name) → Apart names items
    → with_items item items x ≡ or_else (entry_in items x) (item x)
with_all [] names item x a = refl
with_all (i ∷ items) names item x a = with_all items ((item_name i).name ∷ names) (with_item same_name item (item_name i).name (entry_of i)) x a.1
    ∙ go (same_name x (item_name i).name) refl
  where
    go : (b : Bool) → same_name x (item_name i).name ≡ b → or_else (entry_in items x) (if b then Some (entry_of i) else item x) ≡ or_else (if b then Some
        (entry_of i) else entry_in items x) (item x)
    go false e = refl
    go true e = let k : IsNone items x = none_later items ((item_name i).name ∷ names) x a.1 (stands_first x (item_name i).name names e) in rw k.entry refl

or_none : (o : Option Entry) → or_else o None ≡ o
or_none None = refl
or_none (Some x) = refl

array_known : (items : List Item) (names : List Name) (x : Name) → Apart names items → is_array (entry_in items x) ≡ is_some (array_in items x)
array_known [] names x a = refl
array_known (Cells y len ∷ items) names x a = go (same_name x y.name) (array_known items (y.name ∷ names) x a.1)
  where
    go : (b : Bool) → is_array (entry_in items x) ≡ is_some (array_in items x) → is_array (if b then Some entry.Array else entry_in items x) ≡ is_some
        (if b then Some len.number else array_in items x)
    go true h = refl
    go false h = h
array_known (Defines f ∷ items) names x a = go (same_name x f.name.name) refl (array_known items (f.name.name ∷ names) x a.1)
  where
    go : (b : Bool) → same_name x f.name.name ≡ b → is_array (entry_in items x) ≡ is_some (array_in items x)
        → is_array (if b then Some (entry_of (Defines f)) else entry_in items x) ≡ is_some (array_in items x)
    go true e h = let k : IsNone items x = none_later items (f.name.name ∷ names) x a.1 (stands_first x f.name.name names e) in rw k.array refl
    go false e h = h

function_known : (items : List Item) (names : List Name) (at : ℕ) (x : Name) → Apart names items
    → shape_at at (entry_in items x) ≡ mapped shape_of (known_function at (function_in items x))
function_known [] names at x a = refl
function_known (Cells y len ∷ items) names at x a = go (same_name x y.name) refl (function_known items (y.name ∷ names) at x a.1)
  where
    go : (b : Bool) → same_name x y.name ≡ b → shape_at at (entry_in items x) ≡ mapped shape_of (known_function at (function_in items x))
        → shape_at at (if b then Some entry.Array else entry_in items x) ≡ mapped shape_of (known_function at (function_in items x))
    go true e h = let k : IsNone items x = none_later items (y.name ∷ names) x a.1 (stands_first x y.name names e) in rw k.function refl
    go false e h = h
function_known (Defines f ∷ items) names at x a = go (same_name x f.name.name) (function_known items (f.name.name ∷ names) at x a.1)
  where
    go : (b : Bool) → shape_at at (entry_in items x) ≡ mapped shape_of (known_function at (function_in items x))
        → shape_at at (if b then Some (entry_of (Defines f)) else entry_in items x) ≡ mapped shape_of (known_function at
        (if b then Some f else function_in items x))
    go true h = refl
    go false h = h

is_function_known : (items : List Item) (names : List Name) (x : Name) → Apart names items → is_function (entry_in items x) ≡ is_some (function_in items x)
is_function_known [] names x a = refl
is_function_known (Cells y len ∷ items) names x a = go (same_name x y.name) refl (is_function_known items (y.name ∷ names) x a.1)
  where
    go : (b : Bool) → same_name x y.name ≡ b → is_function (entry_in items x) ≡ is_some (function_in items x)
        → is_function (if b then Some entry.Array else entry_in items x) ≡ is_some (function_in items x)
    go true e h = let k : IsNone items x = none_later items (y.name ∷ names) x a.1 (stands_first x y.name names e) in rw k.function refl
    go false e h = h
is_function_known (Defines f ∷ items) names x a = go (same_name x f.name.name) (is_function_known items (f.name.name ∷ names) x a.1)
  where
    go : (b : Bool) → is_function (entry_in items x) ≡ is_some (function_in items x)
        → is_function (if b then Some (entry_of (Defines f)) else entry_in items x) ≡ is_some (if b then Some f else function_in items x)
    go true h = refl
    go false h = h

item_known : (items : List Item) (x : Name) → is_some (entry_in items x) ≡ is_in x (item_names items)
item_known [] x = refl
item_known (i ∷ items) x = go (same_name x (item_name i).name) (item_known items x)
  where
    go : (b : Bool) → is_some (entry_in items x) ≡ is_in x (item_names items) → is_some (if b then Some (entry_of i) else entry_in items x) ≡
        (b || is_in x (item_names items))
    go true h = refl
    go false h = h

-- THE ITEMS OF A PROGRAM whose heads are good
items_are : (p : Program) (r : rules.Heads) → heads no_items p ≡ Ok r → (x : Name) → with_items (λ y. None) p x ≡ entry_in p x
items_are p r h x = with_all p [] (λ y. None) x (heads_apart p no_items r h) ∙ or_none (entry_in p x)

pub all_known : (p : Program) (r : rules.Heads) → heads no_items p ≡ Ok r → Knows (with_items (λ x. None) p) p
all_known p r h =
    let a : Apart [] p = heads_apart p no_items r h in
    record {
      array = λ x. ap is_array (items_are p r h x) ∙ array_known p [] x a;
      function = λ at x. ap (shape_at at) (items_are p r h x) ∙ function_known p [] at x a;
      taken = λ x. ap (λ (o : Option Entry). is_some o) (items_are p r h x) ∙ item_known p x;
    }

pub function_is_known : (p : Program) (r : rules.Heads) → heads no_items p ≡ Ok r → (x : Name)
    → is_function (with_items (λ y. None) p x) ≡ is_some (function_in p x)
function_is_known p r h x = ap is_function (items_are p r h x) ∙ is_function_known p [] x (heads_apart p no_items r h)
