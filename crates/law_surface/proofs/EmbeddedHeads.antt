-- What is known of the items of a program of the core.
use Rattle.std.specs.Prelude.{◌≡◌, ℕ, zero, suc, ◌+◌, ◌*◌, ◌&&◌, ◌||◌, not, nat_le, nat_lt, ◌≤◌, ◌<◌, Bool, true, false, List, [], ◌∷◌, map, length, drop, is_some}
use Rattle.std.specs.Prelude.{option_map, Option, None, Some, Result, Ok, ⊤, refl, if◌then◌else◌}
use Rattle.std.proofs.Common.{sym, ◌∙◌, ap, arith, leb-true, le-leb}
use Rattle.lemmas.proofs.Bools.{second_of_and, and_false, or_true}
use Rattle.semantics.specs.Graph.{same_name}
use Rattle.semantics.proofs.Lines.{same_name_is}
use Rattle.source.specs.declared.fault.Fault.{Fault}
use Rattle.source.specs.declared.fault.FaultKind.{FaultKind}
use Rattle.source.specs.declared.fault.FaultKind.TheVariants.{SameName, TooMany, BadCount}
use Rattle.source.specs.Tree as core
use Rattle.source.specs.Tree.{Name, NameAt, NumberAt}
use Rattle.source.specs.Outside.{is_in}
use Rattle.source.specs.First.{◌>>=◌, must}
use Rattle.source.specs.Rules as core_rules
use Rattle.source.specs.Rules.{Heads, no_items, main_name, item_name, item_names, array_in, function_in, written_or_one}
use Rattle.source.specs.Fits.{FitsItem, FitsProgram}
use Rattle.source.proofs.Steps.{then_ok, must_ok, ok_same}
use Rattle.surface.specs.Known.{Known, nothing, lookup, product, some_value}
use Rattle.surface.specs.Tree.{Param}
use Rattle.surface.specs.Rules.{head, heads, few_params, good_params, ranks, results_of}
use Rattle.surface.specs.Embedded.{value_param, written, embedded_item, embedded}
use Rattle.law_surface.proofs.EmbeddedRules.{core_signature, Matches}

-- WHAT AN ITEM ADDS
abbrev pub grown : Known → core.Item → Known
grown k (core.Cells x len) = record {
  names = x.name ∷ k.names;
  constants = k.constants;
  arrays = (x.name, len.number ∷ []) ∷ k.arrays;
  functions = k.functions;
  cells = k.cells + product (len.number ∷ []);
}
grown k (core.Defines f) = record {
  names = f.name.name ∷ k.names;
  constants = k.constants;
  arrays = k.arrays;
  functions = (f.name.name, core_signature f) ∷ k.functions;
  cells = k.cells;
}

abbrev pub all_grown : Known → core.Program → Known
all_grown k [] = k
all_grown k (i ∷ items) = all_grown (grown k i) items

-- the heads of the core say the same
pub record Alike (h : Heads) (k : Known) : Type 0 where
  pub names : h.names ≡ k.names
  pub arrays : h.arrays ≡ length k.arrays
  pub cells : h.cells ≡ k.cells

or_false : (b : Bool) → (b || false) ≡ b
or_false true = refl
or_false false = refl

must_then : {A : Type 0} (b : Bool) (kind : FaultKind) (at : ℕ) (r : Result A Fault) (y : A) → (must b kind at >>= (λ t. r)) ≡ Ok y → (b ≡ true) × (r ≡ Ok y)
must_then true kind at r y h = (refl, h)
must_then false kind at r y h = cc

-- PARAMETERS that are values, at most 16
drop_params : (n : ℕ) (ps : List NameAt) → drop n (map value_param ps) ≡ map value_param (drop n ps)
drop_params zero ps = refl
drop_params (suc n) [] = refl
drop_params (suc n) (p ∷ ps) = drop_params n ps

few_of : (ps : List NameAt) (t : ⊤) → core_rules.few_params ps ≡ Ok t → few_params (map value_param ps) ≡ Ok tt
few_of [] t h = refl
few_of (p ∷ ps) t h = cc

few_same : (ps : List NameAt) (n : ℕ) (t : ⊤) → core_rules.few_params (drop n ps) ≡ Ok t → few_params (drop n (map value_param ps)) ≡ Ok tt
few_same ps n t h = ap (λ (qs : List Param). few_params qs) (drop_params n ps) ∙ few_of (drop n ps) t h

all_good : (f : Name) (ps : List NameAt) → good_params f (map value_param ps) ≡ Ok tt
all_good f [] = refl
all_good f (p ∷ ps) = rw (and_false (same_name f main_name)) (all_good f ps)

some_is_value : (ps : List NameAt) → 0 < length ps → some_value (ranks (map value_param ps)) ≡ true
some_is_value [] h = absurd (omega (arith, h))
some_is_value (p ∷ ps) h = refl

results_same : (k : Known) (n : Option NumberAt) (t : ⊤) → core_rules.good_results n ≡ Ok t → results_of k (option_map written n) ≡ Ok (written_or_one n)
results_same k None t h = refl
results_same k (Some n) t h = rw (must_ok (nat_le 1 n.number && nat_le n.number 16) BadCount n.at t h) refl

-- ONE ITEM, and all of them
pub record Adds (k : Known) (i : core.Item) (next : Heads) : Type 0 where
  pub head : head k (embedded_item i) ≡ Ok (grown k i)
  pub alike : Alike next (grown k i)

not_there : (h : Heads) (k : Known) → Alike h k → (x : Name) → not (is_in x h.names) ≡ true → not (is_in x k.names) ≡ true
not_there h k a x e = ap (λ (xs : List Name). not (is_in x xs)) (sym a.names) ∙ e

adds : (h : Heads) (k : Known) → Alike h k → (i : core.Item) (next : Heads) → FitsItem i → core_rules.head h i ≡ Ok next → Adds k i next
adds h k a (core.Cells x len) next fits e =
    let n : ℕ = len.number in
    let end : Heads = record { names = x.name ∷ h.names; arrays = h.arrays + 1; cells = h.cells + n } in
    let r4 : Result Heads Fault = Ok end in
    let r3 : Result Heads Fault = must (nat_le (h.cells + n) 65536) TooMany len.at >>= (λ t. r4) in
    let r2 : Result Heads Fault = must (nat_le 1 n && nat_le n 65536) BadCount len.at >>= (λ t. r3) in
    let r1 : Result Heads Fault = must (nat_lt h.arrays 64) TooMany x.at >>= (λ t. r2) in
    let s1 = must_then (not (is_in x.name h.names)) SameName x.at r1 next e in
    let s2 = must_then (nat_lt h.arrays 64) TooMany x.at r2 next s1.1 in
    let s3 = must_then (nat_le 1 n && nat_le n 65536) BadCount len.at r3 next s2.1 in
    let s4 = must_then (nat_le (h.cells + n) 65536) TooMany len.at r4 next s3.1 in
    let is : end ≡ next = ok_same end next s4.1 in
    let few : nat_lt (length k.arrays) 64 ≡ true = ap (λ (m : ℕ). nat_lt m 64) (sym a.arrays) ∙ s2.0 in
    let small : n ≤ 65536 = leb-true n 65536 (second_of_and (nat_le 1 n) (nat_le n 65536) s3.0) in
    let also : nat_le (1 * n) 65536 ≡ true = le-leb (1 * n) 65536 (omega (arith, small)) in
    let room : nat_le (k.cells + product (n ∷ [])) 65536 ≡ true = le-leb (k.cells + product (n ∷ [])) 65536
    (omega (arith, leb-true (h.cells + n) 65536 s4.0, a.cells)) in
    record {
      head = rw (not_there h k a x.name s1.0) (rw few (rw s3.0 (rw also (rw room refl))));
      alike = record {
        names = ap (λ (h : Heads). h.names) (sym is) ∙ ap (λ (xs : List Name). x.name ∷ xs) a.names;
        arrays = ap (λ (h : Heads). h.arrays) (sym is) ∙ omega (arith, a.arrays);
        cells = ap (λ (h : Heads). h.cells) (sym is) ∙ omega (arith, a.cells);
      };
    }
adds h k a (core.Defines f) next fits e =
    let x : NameAt = f.name in
    let end : Heads = record { names = x.name ∷ h.names; arrays = h.arrays; cells = h.cells } in
    let r3 : Result Heads Fault = Ok end in
    let r2 : Result Heads Fault = core_rules.good_results f.results >>= (λ t. r3) in
    let r1 : Result Heads Fault = core_rules.few_params (drop 16 f.params) >>= (λ t. r2) in
    let s1 = must_then (not (is_in x.name h.names)) SameName x.at r1 next e in
    let s2 = then_ok (core_rules.few_params (drop 16 f.params)) (λ t. r2) next s1.1 in
    let s3 = then_ok (core_rules.good_results f.results) (λ t. r3) next s2.2 in
    let is : end ≡ next = ok_same end next s3.2 in
    record {
      head = rw (not_there h k a x.name s1.0) (rw (few_same f.params 16 s2.0 s2.1) (rw (all_good x.name f.params) (rw (some_is_value f.params fits.0)
          (rw (results_same k f.results s3.0 s3.1) refl))));
      alike = record {
        names = ap (λ (h : Heads). h.names) (sym is) ∙ ap (λ (xs : List Name). x.name ∷ xs) a.names;
        arrays = ap (λ (h : Heads). h.arrays) (sym is) ∙ a.arrays;
        cells = ap (λ (h : Heads). h.cells) (sym is) ∙ a.cells;
      };
    }

-- The heads of these items are good, from what was known before.
pub data Good : Known → core.Program → Type 0 where
  none : {k : Known} → Good k []
  more : {k : Known} {i : core.Item} {items : core.Program} → not (is_in (item_name i).name k.names) ≡ true → head k (embedded_item i) ≡ Ok (grown k i)
      → Good (grown k i) items → Good k (i ∷ items)

new_there : (h : Heads) (k : Known) → Alike h k → (i : core.Item) (next : Heads) → core_rules.head h i ≡ Ok next → not (is_in (item_name i).name k.names) ≡ true
new_there h k a (core.Cells x len) next e =
    let s = then_ok (must (not (is_in x.name h.names)) SameName x.at) (λ new. must (nat_lt h.arrays 64) TooMany x.at >>= (λ few. must (nat_le 1 len.number &&
    nat_le len.number 65536) BadCount len.at >>= (λ fits. must (nat_le (h.cells + len.number) 65536) TooMany len.at >>= (λ room. Ok (record {
      names = x.name ∷ h.names;
      arrays = h.arrays + 1;
      cells = h.cells + len.number;
    }))))) next e in
    not_there h k a x.name (must_ok (not (is_in x.name h.names)) SameName x.at s.0 s.1)
new_there h k a (core.Defines f) next e =
    let s = then_ok (must (not (is_in f.name.name h.names)) SameName f.name.at) (λ new. core_rules.few_params (drop 16 f.params) >>= (λ few.
    core_rules.good_results f.results >>= (λ fits. Ok (record { names = f.name.name ∷ h.names; arrays = h.arrays; cells = h.cells })))) next e in
    not_there h k a f.name.name (must_ok (not (is_in f.name.name h.names)) SameName f.name.at s.0 s.1)

pub all_good_heads : (h : Heads) (k : Known) → Alike h k → (p : core.Program) (end : Heads) → FitsProgram p → core_rules.heads h p ≡ Ok end → Good k p
all_good_heads h k a [] end fits e = none
all_good_heads h k a (i ∷ items) end fits e =
    let s = then_ok (core_rules.head h i) (λ next. core_rules.heads next items) end e in
    let first : Adds k i s.0 = adds h k a i s.0 fits.0 s.1 in
    more (new_there h k a i s.0 s.1) first.head (all_good_heads s.0 (grown k i) first.alike items end fits.1 s.2)

pub heads_are : (k : Known) (p : core.Program) → Good k p → heads k (embedded p) ≡ Ok (all_grown k p)
heads_are k [] none = refl
heads_are k (i ∷ items) (more new first rest) = rw first (heads_are (grown k i) items rest)

-- WHAT IS KNOWN in the end
or_swapped : (a b c : Bool) → (a || (b || c)) ≡ (b || a || c)
or_swapped true true c = refl
or_swapped true false c = refl
or_swapped false true c = refl
or_swapped false false c = refl

name_added : (k : Known) (i : core.Item) (x : Name) → is_in x (grown k i).names ≡ (same_name x (item_name i).name || is_in x k.names)
name_added k (core.Cells y len) x = refl
name_added k (core.Defines f) x = refl

names_in : (k : Known) (p : core.Program) (x : Name) → is_in x (all_grown k p).names ≡ (is_in x (item_names p) || is_in x k.names)
names_in k [] x = refl
names_in k (i ∷ items) x = names_in (grown k i) items x ∙ ap (λ (b : Bool). is_in x (item_names items) || b) (name_added k i x)
    ∙ or_swapped (is_in x (item_names items)) (same_name x (item_name i).name) (is_in x k.names)

constants_kept : (k : Known) (i : core.Item) → (grown k i).constants ≡ k.constants
constants_kept k (core.Cells y len) = refl
constants_kept k (core.Defines f) = refl

no_constants : (k : Known) (p : core.Program) → (all_grown k p).constants ≡ k.constants
no_constants k [] = refl
no_constants k (i ∷ items) = no_constants (grown k i) items ∙ constants_kept k i

-- a name that is there is not that of a new item
differs : (k : Known) (x y : Name) → is_in x k.names ≡ true → not (is_in y k.names) ≡ true → same_name x y ≡ false
differs k x y there new = go (same_name x y) refl
  where
    go : (b : Bool) → same_name x y ≡ b → same_name x y ≡ false
    go false e = e
    go true e = let again : is_in y k.names ≡ true = ap (λ (z : Name). is_in z k.names) (sym (same_name_is x y e)) ∙ there in cc

still_in : (k : Known) (i : core.Item) (x : Name) → is_in x k.names ≡ true → is_in x (grown k i).names ≡ true
still_in k i x there = name_added k i x ∙ ap (λ (b : Bool). same_name x (item_name i).name || b) there ∙ or_true (same_name x (item_name i).name)

array_kept : (k : Known) (i : core.Item) (x : Name) → is_in x k.names ≡ true → not (is_in (item_name i).name k.names) ≡ true → lookup (grown k i).arrays x ≡
    lookup k.arrays x
array_kept k (core.Cells y len) x there new = rw (differs k x y.name there new) refl
array_kept k (core.Defines f) x there new = refl

function_kept : (k : Known) (i : core.Item) (x : Name) → is_in x k.names ≡ true → not (is_in (item_name i).name k.names) ≡ true → lookup (grown k
    i).functions x ≡ lookup k.functions x
function_kept k (core.Cells y len) x there new = refl
function_kept k (core.Defines f) x there new = rw (differs k x f.name.name there new) refl

pub arrays_kept : (k : Known) (p : core.Program) → Good k p → (x : Name) → is_in x k.names ≡ true → lookup (all_grown k p).arrays x ≡ lookup
    k.arrays x
arrays_kept k [] none x there = refl
arrays_kept k (i ∷ items) (more new first rest) x there = arrays_kept (grown k i) items rest x (still_in k i x there) ∙ array_kept k i x there new

functions_kept : (k : Known) (p : core.Program) → Good k p → (x : Name) → is_in x k.names ≡ true → lookup (all_grown k p).functions x ≡
    lookup k.functions x
functions_kept k [] none x there = refl
functions_kept k (i ∷ items) (more new first rest) x there = functions_kept (grown k i) items rest x (still_in k i x there) ∙ function_kept k i x there new

named_there : (k : Known) (i : core.Item) (x : Name) → same_name x (item_name i).name ≡ true → is_in x (grown k i).names ≡ true
named_there k i x e = name_added k i x ∙ ap (λ (b : Bool). b || is_in x k.names) e

found_array : (k : Known) (p : core.Program) → Good k p → (x : Name) → is_some (array_in p x) ≡ true → (n : ℕ) × (lookup (all_grown k p).arrays
    x ≡ Some (n ∷ []))
found_array k [] none x there = cc
found_array k (core.Cells y len ∷ items) (more new first rest) x there = go (same_name x y.name) refl there (λ e. found_array (grown k (core.Cells y len))
    items rest x e)
  where
    go : (b : Bool) → same_name x y.name ≡ b → is_some (if b then Some len.number else array_in items x) ≡ true
        → (is_some (array_in items x) ≡ true → (n : ℕ) × (lookup (all_grown (grown k (core.Cells y len)) items).arrays x ≡ Some (n ∷ [])))
        → (n : ℕ) × (lookup (all_grown (grown k (core.Cells y len)) items).arrays x ≡ Some (n ∷ []))
    go true e t later = (len.number, arrays_kept (grown k (core.Cells y len)) items rest x (named_there k (core.Cells y len) x e) ∙ rw e refl)
    go false e t later = later t
found_array k (core.Defines f ∷ items) (more new first rest) x there = found_array (grown k (core.Defines f)) items rest x there

found_function : (k : Known) (p : core.Program) → Good k p → (x : Name) (g : core.Function) → function_in p x ≡ Some g
    → lookup (all_grown k p).functions x ≡ Some (core_signature g)
found_function k [] none x g there = cc
found_function k (core.Cells y len ∷ items) (more new first rest) x g there = found_function (grown k (core.Cells y len)) items rest x g there
found_function k (core.Defines f ∷ items) (more new first rest) x g there = go (same_name x f.name.name) refl there
    (λ e. found_function (grown k (core.Defines f)) items rest x g e)
  where
    go : (b : Bool) → same_name x f.name.name ≡ b → (if b then Some f else function_in items x) ≡ Some g
        → (function_in items x ≡ Some g → lookup (all_grown (grown k (core.Defines f)) items).functions x ≡ Some (core_signature g))
        → lookup (all_grown (grown k (core.Defines f)) items).functions x ≡ Some (core_signature g)
    go true e t later =
        let is : f ≡ g = cc in
        functions_kept (grown k (core.Defines f)) items rest x (named_there k (core.Defines f) x e) ∙ rw e (ap (λ (g : core.Function). Some (core_signature
        g)) is)
    go false e t later = later t

pub begun : Alike no_items nothing
begun = record { names = refl; arrays = refl; cells = refl }

pub matches : (p : core.Program) → Good nothing p → Matches p (all_grown nothing p)
matches p good = record {
  names = λ x. names_in nothing p x ∙ or_false (is_in x (item_names p));
  constants = no_constants nothing p;
  arrays = λ x there. found_array nothing p good x there;
  functions = λ f g there. found_function nothing p good f g there;
}
