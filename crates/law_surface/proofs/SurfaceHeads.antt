-- WHAT IS KNOWN of the items of a good program: each step, and what stays.
use Rattle.std.specs.Prelude.{◌≡◌, ℕ, zero, suc, ◌+◌, ◌*◌, ◌≤◌, ◌<◌, ◌⊎◌, ◌&&◌, ◌||◌, not, nat_le, nat_lt, Bool, true, false, ℤ, pos, negsuc, int_le, List, [], ◌∷◌, map}
use Rattle.std.specs.Prelude.{length, drop, Option, None, Some, Result, Ok, refl, ⊤, if◌then◌else◌}
use Rattle.std.proofs.Common.{sym, ◌∙◌, ap, subst, arith, inl, inr, leb-true, ltb-true}
use Rattle.lemmas.proofs.Bools.{first_of_and, second_of_and, or_true}
use Rattle.semantics.specs.Graph.{same_name}
use Rattle.semantics.proofs.Lines.{same_name_is, same_name_itself}
use Rattle.source.specs.declared.fault.FaultKind.TheVariants.{NoSuchName, SameName, TooMany, BadCount}
use Rattle.source.specs.Tree.{Name, NameAt}
use Rattle.source.specs.Outside.{is_in}
use Rattle.source.specs.Rules.{written_or_one}
use Rattle.surface.specs.declared.fault.Fault.{Fault}
use Rattle.surface.specs.declared.fault.FaultKind.TheVariants.{BadConst, BadArray, Core}
use Rattle.surface.specs.Tree.{Count, Written, Constant, Expr, Exprs, One, More, Param, Function, Item, Cells, Const, Defines, Program}
use Rattle.surface.specs.Fits.{count}
use Rattle.surface.specs.First.{◌>>=◌, must, must_be, refused}
use Rattle.surface.specs.Known.{Known, Signature, nothing, lookup, natural, product, some_value}
use Rattle.surface.specs.Constants.{place_of, constant, constant_or, count_of, count_place, number_or_zero}
use Rattle.surface.specs.Rules.{few_params, good_params, ranks, results_of, length_of, lengths_of, last_place, head, heads, results_in}
use Rattle.surface.specs.Instances.{function_in}
use Rattle.surface.specs.Desugared.{core_results}
use Rattle.law_surface.proofs.Steps.{then_ok, must_then, ok_same}
use Rattle.law_surface.proofs.WiderScope.{Includes}

-- ITEMS that are added
abbrev pub with_cells : Known → Name → List ℕ → Known
with_cells known x ns = record {
  names = x ∷ known.names;
  constants = known.constants;
  arrays = (x, ns) ∷ known.arrays;
  functions = known.functions;
  cells = known.cells + product ns;
}

abbrev pub with_constant : Known → Name → ℤ → Known
with_constant known x z = record {
  names = x ∷ known.names;
  constants = (x, z) ∷ known.constants;
  arrays = known.arrays;
  functions = known.functions;
  cells = known.cells;
}

abbrev pub signature_of : Function → ℕ → Signature
signature_of f n = record { ranks = ranks f.params; results = n }

abbrev pub with_function : Known → Function → ℕ → Known
with_function known f n = record {
  names = f.name.name ∷ known.names;
  constants = known.constants;
  arrays = known.arrays;
  functions = (f.name.name, signature_of f n) ∷ known.functions;
  cells = known.cells;
}

pub record CellsGood (known : Known) (x : Name) (ns : List ℕ) : Type 0 where
  pub new : is_in x known.names ≡ false
  pub few : length known.arrays < 64
  pub dimensions : 1 ≤ length ns
  pub some : 1 ≤ product ns
  pub room : known.cells + product ns ≤ 65536

pub record FunctionGood (known : Known) (f : Function) (n : ℕ) : Type 0 where
  pub new : is_in f.name.name known.names ≡ false
  pub few : few_params (drop 16 f.params) ≡ Ok tt
  pub params : good_params f.name.name f.params ≡ Ok tt
  pub value : some_value (ranks f.params) ≡ true
  pub results : results_of known f.results ≡ Ok n

abbrev pub Steps : Known → Program → Known → Type 0
Steps known [] end = known ≡ end
Steps known (Cells x es ∷ items) end = (ns : List ℕ) × CellsGood known x.name ns × Steps (with_cells known x.name ns) items end
Steps known (Const x e ∷ items) end = (z : ℤ) × (is_in x.name known.names ≡ false) × Steps (with_constant known x.name z) items end
Steps known (Defines f ∷ items) end = (n : ℕ) × FunctionGood known f n × Steps (with_function known f n) items end

not_true : (b : Bool) → not b ≡ true → b ≡ false
not_true true h = cc
not_true false h = refl

some_natural : (z : ℤ) → int_le (pos 1) z ≡ true → 1 ≤ natural z
some_natural (pos n) h = leb-true 1 n h
some_natural (negsuc n) h = cc

length_some : (known : Known) (before : ℕ) (e : Expr) (n : ℕ) → length_of known before e ≡ Ok n → 1 ≤ n
length_some known before e n h =
    let test : ℤ → Bool = λ z. int_le (pos 1) z && int_le z (pos 65536) && nat_le (before * natural z) 65536 in
    let s = then_ok (constant known e) (λ z. must_be (test z) BadCount (place_of e) >>= (λ t. Ok (natural z))) n h in
    let t = must_then (test s.0) (Core BadCount) (place_of e) (Ok (natural s.0)) n s.2 in
    let both = first_of_and (int_le (pos 1) s.0 && int_le s.0 (pos 65536)) (nat_le (before * natural s.0) 65536) t.0 in
    omega (arith, some_natural s.0 (first_of_and (int_le (pos 1) s.0) (int_le s.0 (pos 65536)) both), ok_same (natural s.0) n t.1)

times_some : (n m : ℕ) → 1 ≤ n → 1 ≤ m → 1 ≤ n * m
times_some zero m h g = absurd (omega (arith, h))
times_some (suc n) m h g = grind (arith, g)

lengths_some : (known : Known) (before : ℕ) (es : Exprs) (ns : List ℕ) → lengths_of known before es ≡ Ok ns → (1 ≤ product ns) × (1 ≤ length ns)
lengths_some known before (One e) ns h =
    let s = then_ok (length_of known before e) (λ n. Ok (n ∷ [])) ns h in
    let is : s.0 ∷ [] ≡ ns = ok_same (s.0 ∷ []) ns s.2 in
    let some : 1 ≤ product (s.0 ∷ []) = times_some s.0 1 (length_some known before e s.0 s.1) (omega arith) in
    subst (λ (ns : List ℕ). (1 ≤ product ns) × (1 ≤ length ns)) is (some, omega arith)
lengths_some known before (More e es) ns h =
    let s = then_ok (length_of known before e) (λ n. lengths_of known (before * n) es >>= (λ ns. Ok (n ∷ ns))) ns h in
    let t = then_ok (lengths_of known (before * s.0) es) (λ ns. Ok (s.0 ∷ ns)) ns s.2 in
    let is : s.0 ∷ t.0 ≡ ns = ok_same (s.0 ∷ t.0) ns t.2 in
    let rest = lengths_some known (before * s.0) es t.0 t.1 in
    let some : 1 ≤ product (s.0 ∷ t.0) = times_some s.0 (product t.0) (length_some known before e s.0 s.1) rest.0 in
    subst (λ (ns : List ℕ). (1 ≤ product ns) × (1 ≤ length ns)) is (some, omega (arith, rest.1))

pub steps_are : (known : Known) (p : Program) (end : Known) → heads known p ≡ Ok end → Steps known p end
steps_are known [] end h = ok_same known end h
steps_are known (Cells x es ∷ items) end h =
    let s = then_ok (head known (Cells x es)) (λ next. heads next items) end h in
    let end4 : List ℕ → Result Known Fault = λ ns. must_be (nat_le (known.cells + product ns) 65536) TooMany (last_place es) >>= (λ t. Ok (with_cells known x.name ns)) in
    let r3 : Result Known Fault = lengths_of known 1 es >>= end4 in
    let r2 : Result Known Fault = must (nat_le (count es) 3) BadArray x.at >>= (λ t. r3) in
    let r1 : Result Known Fault = must_be (nat_lt (length known.arrays) 64) TooMany x.at >>= (λ t. r2) in
    let s1 = must_then (not (is_in x.name known.names)) (Core SameName) x.at r1 s.0 s.1 in
    let s2 = must_then (nat_lt (length known.arrays) 64) (Core TooMany) x.at r2 s.0 s1.1 in
    let s3 = must_then (nat_le (count es) 3) BadArray x.at r3 s.0 s2.1 in
    let s4 = then_ok (lengths_of known 1 es) end4 s.0 s3.1 in
    let s5 = must_then (nat_le (known.cells + product s4.0) 65536) (Core TooMany) (last_place es) (Ok (with_cells known x.name s4.0)) s.0 s4.2 in
    let next : with_cells known x.name s4.0 ≡ s.0 = ok_same (with_cells known x.name s4.0) s.0 s5.1 in
    let some = lengths_some known 1 es s4.0 s4.1 in (
      s4.0,
      record {
        new = not_true (is_in x.name known.names) s1.0;
        few = ltb-true (length known.arrays) 64 s2.0;
        dimensions = some.1;
        some = some.0;
        room = leb-true (known.cells + product s4.0) 65536 s5.0;
      },
      subst (λ (k : Known). Steps k items end) (sym next) (steps_are s.0 items end s.2),
    )
steps_are known (Const x e ∷ items) end h =
    let s = then_ok (head known (Const x e)) (λ next. heads next items) end h in
    let last : ℤ → Result Known Fault = λ z. Ok (with_constant known x.name z) in
    let s1 = must_then (not (is_in x.name known.names)) (Core SameName) x.at (constant known e >>= last) s.0 s.1 in
    let s2 = then_ok (constant known e) last s.0 s1.1 in
    let next : with_constant known x.name s2.0 ≡ s.0 = ok_same (with_constant known x.name s2.0) s.0 s2.2 in (
      s2.0,
      not_true (is_in x.name known.names) s1.0,
      subst (λ (k : Known). Steps k items end) (sym next) (steps_are s.0 items end s.2),
    )
steps_are known (Defines f ∷ items) end h =
    let s = then_ok (head known (Defines f)) (λ next. heads next items) end h in
    let last : ℕ → Result Known Fault = λ n. Ok (with_function known f n) in
    let r4 : Result Known Fault = results_of known f.results >>= last in
    let r3 : Result Known Fault = must (some_value (ranks f.params)) BadArray f.name.at >>= (λ t. r4) in
    let r2 : Result Known Fault = good_params f.name.name f.params >>= (λ t. r3) in
    let r1 : Result Known Fault = few_params (drop 16 f.params) >>= (λ t. r2) in
    let s1 = must_then (not (is_in f.name.name known.names)) (Core SameName) f.name.at r1 s.0 s.1 in
    let s2 = then_ok (few_params (drop 16 f.params)) (λ t. r2) s.0 s1.1 in
    let s3 = then_ok (good_params f.name.name f.params) (λ t. r3) s.0 s2.2 in
    let s4 = must_then (some_value (ranks f.params)) BadArray f.name.at r4 s.0 s3.2 in
    let s5 = then_ok (results_of known f.results) last s.0 s4.1 in
    let next : with_function known f s5.0 ≡ s.0 = ok_same (with_function known f s5.0) s.0 s5.2 in (
      s5.0,
      record { new = not_true (is_in f.name.name known.names) s1.0; few = s2.1; params = s3.1; value = s4.0; results = s5.1 },
      subst (λ (k : Known). Steps k items end) (sym next) (steps_are s.0 items end s.2),
    )

-- EACH ENTRY has the name of an item.
abbrev pub Named : {A : Type 0} → List (Name × A) → List Name → Type 0
Named {A} entries names = (x : Name) (v : A) → lookup entries x ≡ Some v → is_in x names ≡ true

pub record NamesThere (k : Known) : Type 0 where
  pub constants : Named k.constants k.names
  pub arrays : Named k.arrays k.names
  pub functions : Named k.functions k.names

pub nothing_there : NamesThere nothing
nothing_there = record { constants = λ x v e. cc; arrays = λ x v e. cc; functions = λ x v e. cc }

more_named : {A : Type 0} (entries : List (Name × A)) (names : List Name) (y : Name) → Named entries names → Named entries (y ∷ names)
more_named entries names y n x v e = ap (λ (b : Bool). same_name x y || b) (n x v e) ∙ or_true (same_name x y)

and_named : {A : Type 0} (entries : List (Name × A)) (names : List Name) (y : Name) (u : A) → Named entries names → Named ((y, u) ∷ entries) (y ∷ names)
and_named {A = A} entries names y u n x v e = go (same_name x y) e
  where
    go : (b : Bool) → (if b then Some u else lookup entries x) ≡ Some v → (b || is_in x names) ≡ true
    go true e = refl
    go false e = n x v e

-- WHAT STAYS as it is
abbrev pub Stays : {A : Type 0} → List (Name × A) → List (Name × A) → Type 0
Stays {A} entries others = (x : Name) (v : A) → lookup entries x ≡ Some v → lookup others x ≡ Some v

pub record Kept (k end : Known) : Type 0 where
  pub names : Includes k.names end.names
  pub constants : Stays k.constants end.constants
  pub arrays : Stays k.arrays end.arrays
  pub functions : Stays k.functions end.functions

and_stays : {A : Type 0} (entries : List (Name × A)) (names : List Name) (y : Name) (u : A) → Named entries names → is_in y names ≡ false → Stays entries ((y, u) ∷ entries)
and_stays {A = A} entries names y u n new x v e = go (same_name x y) refl
  where
    go : (b : Bool) → same_name x y ≡ b → (if b then Some u else lookup entries x) ≡ Some v
    go true t =
        let there : is_in y names ≡ true = ap (λ (z : Name). is_in z names) (sym (same_name_is x y t)) ∙ n x v e in absurd (cc)
    go false t = e

pub kept_names : (y : Name) (names : List Name) → Includes names (y ∷ names)
kept_names y names x e = ap (λ (b : Bool). same_name x y || b) e ∙ or_true (same_name x y)

then_kept : (k next end : Known) → Kept k next → Kept next end → Kept k end
then_kept k next end h g = record {
  names = λ x e. g.names x (h.names x e);
  constants = λ x v e. g.constants x v (h.constants x v e);
  arrays = λ x v e. g.arrays x v (h.arrays x v e);
  functions = λ x v e. g.functions x v (h.functions x v e);
}

pub there_cells : (k : Known) (x : Name) (ns : List ℕ) → NamesThere k → NamesThere (with_cells k x ns)
there_cells k x ns n = record {
  constants = more_named k.constants k.names x n.constants;
  arrays = and_named k.arrays k.names x ns n.arrays;
  functions = more_named k.functions k.names x n.functions;
}

pub there_constant : (k : Known) (x : Name) (z : ℤ) → NamesThere k → NamesThere (with_constant k x z)
there_constant k x z n = record {
  constants = and_named k.constants k.names x z n.constants;
  arrays = more_named k.arrays k.names x n.arrays;
  functions = more_named k.functions k.names x n.functions;
}

pub there_function : (k : Known) (f : Function) (m : ℕ) → NamesThere k → NamesThere (with_function k f m)
there_function k f m n = record {
  constants = more_named k.constants k.names f.name.name n.constants;
  arrays = more_named k.arrays k.names f.name.name n.arrays;
  functions = and_named k.functions k.names f.name.name (signature_of f m) n.functions;
}

pub all_kept : (k : Known) (p : Program) (end : Known) → NamesThere k → Steps k p end → Kept k end
all_kept k [] end n h = subst (λ (end : Known). Kept k end) h (record { names = λ x e. e; constants = λ x v e. e; arrays = λ x v e. e; functions = λ x v e. e })
all_kept k (Cells x es ∷ items) end n h = then_kept k (with_cells k x.name h.0) end (record {
  names = kept_names x.name k.names;
  constants = λ x v e. e;
  arrays = and_stays k.arrays k.names x.name h.0 n.arrays h.1.new;
  functions = λ x v e. e;
}) (all_kept (with_cells k x.name h.0) items end (there_cells k x.name h.0 n) h.2)
all_kept k (Const x e ∷ items) end n h = then_kept k (with_constant k x.name h.0) end (record {
  names = kept_names x.name k.names;
  constants = and_stays k.constants k.names x.name h.0 n.constants h.1;
  arrays = λ x v e. e;
  functions = λ x v e. e;
}) (all_kept (with_constant k x.name h.0) items end (there_constant k x.name h.0 n) h.2)
all_kept k (Defines f ∷ items) end n h = then_kept k (with_function k f h.0) end (record {
  names = kept_names f.name.name k.names;
  constants = λ x v e. e;
  arrays = λ x v e. e;
  functions = and_stays k.functions k.names f.name.name (signature_of f h.0) n.functions h.1.new;
}) (all_kept (with_function k f h.0) items end (there_function k f h.0 n) h.2)

-- RESULTS are as many where all items are known.
constant_found : (k : Known) (at : ℕ) (x : Name) (o : Option ℤ) (z : ℤ) → constant_or k at x o ≡ Ok z → o ≡ Some z
constant_found k at x (Some y) z h = ap (λ (z : ℤ). Some z) (ok_same y z h)
constant_found k at x None z h = go (is_in x k.names) h
  where
    go : (b : Bool) → Path (Result ℤ Fault) (if b then refused BadConst at else refused (Core NoSuchName) at) (Ok z) → Path (Option ℤ) None (Some z)
    go true e = cc
    go false e = cc

count_kept : (k end : Known) → Kept k end → (c : Count) (z : ℤ) → count_of k c ≡ Ok z → count_of end c ≡ Ok z
count_kept k end g (Written at n) z h = h
count_kept k end g (Constant at x) z h = ap (λ (o : Option ℤ). constant_or end at x o) (g.constants x z (constant_found k at x (lookup k.constants x) z h))

pub record ResultsAre (end : Known) (results : Option Count) (n : ℕ) : Type 0 where
  pub are : written_or_one (core_results end results) ≡ n
  pub some : 1 ≤ n
  pub few : n ≤ 16

few_natural : (z : ℤ) → int_le z (pos 16) ≡ true → natural z ≤ 16
few_natural (pos n) h = leb-true n 16 h
few_natural (negsuc n) h = omega arith

pub results_are : (k end : Known) → Kept k end → (results : Option Count) (n : ℕ) → results_of k results ≡ Ok n → ResultsAre end results n
results_are k end g None n h =
    let one : 1 ≡ n = ok_same 1 n h in record { are = one; some = omega (arith, one); few = omega (arith, one) }
results_are k end g (Some c) n h =
    let test : ℤ → Bool = λ z. int_le (pos 1) z && int_le z (pos 16) in
    let s = then_ok (count_of k c) (λ z. must_be (test z) BadCount (count_place c) >>= (λ t. Ok (natural z))) n h in
    let t = must_then (test s.0) (Core BadCount) (count_place c) (Ok (natural s.0)) n s.2 in
    let is : natural s.0 ≡ n = ok_same (natural s.0) n t.1 in
    let same : count_of end c ≡ Ok s.0 = count_kept k end g c s.0 s.1 in
    record {
      are = ap (λ (r : Result ℤ Fault). number_or_zero r) same ∙ is;
      some = omega (arith, is, some_natural s.0 (first_of_and (int_le (pos 1) s.0) (int_le s.0 (pos 16)) t.0));
      few = omega (arith, is, few_natural s.0 (second_of_and (int_le (pos 1) s.0) (int_le s.0 (pos 16)) t.0));
    }

pub results_same : (end : Known) (results : Option Count) → results_in end results ≡ written_or_one (core_results end results)
results_same end None = refl
results_same end (Some c) = refl

-- MEMBERS
abbrev pub Member : {X : Type 0} → X → List X → Type 0
Member x [] = ⊥
Member x (y ∷ ys) = (x ≡ y) ⊎ Member x ys

no_cells : (f : Function) (x : NameAt) (es : Exprs) → Path Item (Defines f) (Cells x es) → ⊥
no_cells f x es e = cc

no_constant : (f : Function) (x : NameAt) (c : Expr) → Path Item (Defines f) (Const x c) → ⊥
no_constant f x c e = cc

pub one_function : (f g : Function) → Path Item (Defines f) (Defines g) → f ≡ g
one_function f g e = cc

-- A function that is known is one of the items, and each of the items is known.
pub record FunctionFrom (end : Known) (items : Program) (f : Name) (sig : Signature) : Type 0 where
  pub function : Function
  pub member : Member (Defines function) items
  pub name : f ≡ function.name.name
  pub ranks_are : sig.ranks ≡ ranks function.params
  pub results_are : ResultsAre end function.results sig.results
  pub value : some_value (ranks function.params) ≡ true
  pub params : good_params function.name.name function.params ≡ Ok tt

later_function : (end : Known) (i : Item) (items : Program) (f : Name) (sig : Signature) → FunctionFrom end items f sig → FunctionFrom end (i ∷ items) f sig
later_function end i items f sig h = record {
  function = h.function;
  member = inr h.member;
  name = h.name;
  ranks_are = h.ranks_are;
  results_are = h.results_are;
  value = h.value;
  params = h.params;
}

pub function_from : (k : Known) (items : Program) (end : Known) → NamesThere k → Steps k items end → (f : Name) (sig : Signature) → lookup end.functions f ≡ Some sig
    → (lookup k.functions f ≡ Some sig) ⊎ FunctionFrom end items f sig
function_from k [] end n h f sig e = inl (ap (λ (k : Known). lookup k.functions f) h ∙ e)
function_from k (Cells x es ∷ items) end n h f sig e = go (function_from (with_cells k x.name h.0) items end (there_cells k x.name h.0 n) h.2 f sig e)
  where
    go : (lookup k.functions f ≡ Some sig) ⊎ FunctionFrom end items f sig → (lookup k.functions f ≡ Some sig) ⊎ FunctionFrom end (Cells x es ∷ items) f sig
    go (inl g) = inl g
    go (inr g) = inr (later_function end (Cells x es) items f sig g)
function_from k (Const x c ∷ items) end n h f sig e = go (function_from (with_constant k x.name h.0) items end (there_constant k x.name h.0 n) h.2 f sig e)
  where
    go : (lookup k.functions f ≡ Some sig) ⊎ FunctionFrom end items f sig → (lookup k.functions f ≡ Some sig) ⊎ FunctionFrom end (Const x c ∷ items) f sig
    go (inl g) = inl g
    go (inr g) = inr (later_function end (Const x c) items f sig g)
function_from k (Defines function ∷ items) end n h f sig e = go (function_from (with_function k function h.0) items end (there_function k function h.0 n) h.2 f sig e)
  where
    this : (b : Bool) → same_name f function.name.name ≡ b → (if b then Some (signature_of function h.0) else lookup k.functions f) ≡ Some sig
        → (lookup k.functions f ≡ Some sig) ⊎ FunctionFrom end (Defines function ∷ items) f sig
    this true t g =
        let is : signature_of function h.0 ≡ sig = cc in
        inr (subst (λ (sig : Signature). FunctionFrom end (Defines function ∷ items) f sig) is (record {
          function = function;
          member = inl refl;
          name = same_name_is f function.name.name t;
          ranks_are = refl;
          results_are = results_are k end (all_kept k (Defines function ∷ items) end n h) function.results h.0 h.1.results;
          value = h.1.value;
          params = h.1.params;
        }))
    this false t g = inl g

    go : ((if same_name f function.name.name then Some (signature_of function h.0) else lookup k.functions f) ≡ Some sig) ⊎ FunctionFrom end items f sig
        → (lookup k.functions f ≡ Some sig) ⊎ FunctionFrom end (Defines function ∷ items) f sig
    go (inl g) = this (same_name f function.name.name) refl g
    go (inr g) = inr (later_function end (Defines function) items f sig g)

-- an array that is known is one of the items
pub record ArrayFrom (items : Program) (x : Name) (ns : List ℕ) : Type 0 where
  pub name : NameAt
  pub lengths : Exprs
  pub member : Member (Cells name lengths) items
  pub same : x ≡ name.name
  pub dimensions : 1 ≤ length ns

later_array : (i : Item) (items : Program) (x : Name) (ns : List ℕ) → ArrayFrom items x ns → ArrayFrom (i ∷ items) x ns
later_array i items x ns h = record { name = h.name; lengths = h.lengths; member = inr h.member; same = h.same; dimensions = h.dimensions }

later_or : (i : Item) (items : Program) (k : Known) (x : Name) (ns : List ℕ) → (lookup k.arrays x ≡ Some ns) ⊎ ArrayFrom items x ns → (lookup k.arrays x ≡ Some ns) ⊎
    ArrayFrom (i ∷ items) x ns
later_or i items k x ns (inl g) = inl g
later_or i items k x ns (inr g) = inr (later_array i items x ns g)

pub array_from : (k : Known) (items : Program) (end : Known) → Steps k items end → (x : Name) (ns : List ℕ) → lookup end.arrays x ≡ Some ns → (lookup k.arrays x ≡ Some ns) ⊎
    ArrayFrom items x ns
array_from k [] end h x ns e = inl (ap (λ (k : Known). lookup k.arrays x) h ∙ e)
array_from k (Const y c ∷ items) end h x ns e = later_or (Const y c) items k x ns (array_from (with_constant k y.name h.0) items end h.2 x ns e)
array_from k (Defines f ∷ items) end h x ns e = later_or (Defines f) items k x ns (array_from (with_function k f h.0) items end h.2 x ns e)
array_from k (Cells y es ∷ items) end h x ns e = go (array_from (with_cells k y.name h.0) items end h.2 x ns e)
  where
    this : (b : Bool) → same_name x y.name ≡ b → (if b then Some h.0 else lookup k.arrays x) ≡ Some ns → (lookup k.arrays x ≡ Some ns) ⊎ ArrayFrom (Cells y es ∷ items) x ns
    this true t g =
        let is : h.0 ≡ ns = cc in
        inr (record {
          name = y;
          lengths = es;
          member = inl refl;
          same = same_name_is x y.name t;
          dimensions = subst (λ (ns : List ℕ). 1 ≤ length ns) is h.1.dimensions;
        })
    this false t g = inl g

    go : ((if same_name x y.name then Some h.0 else lookup k.arrays x) ≡ Some ns) ⊎ ArrayFrom items x ns → (lookup k.arrays x ≡ Some ns) ⊎ ArrayFrom (Cells y es ∷ items) x ns
    go (inl g) = this (same_name x y.name) refl g
    go (inr g) = inr (later_array (Cells y es) items x ns g)

-- Each function is known, and is the one with its name.
pub record FunctionIs (k : Known) (items : Program) (end : Known) (f : Function) : Type 0 where
  pub results : ℕ
  pub known : lookup end.functions f.name.name ≡ Some (signature_of f results)
  pub new : is_in f.name.name k.names ≡ false
  pub found : function_in items f.name.name ≡ Some f

not_behind : (x y : Name) (names : List Name) → is_in x (y ∷ names) ≡ false → (same_name x y ≡ false) × (is_in x names ≡ false)
not_behind x y names h = go (same_name x y) h
  where
    go : (b : Bool) → (b || is_in x names) ≡ false → (b ≡ false) × (is_in x names ≡ false)
    go true e = cc
    go false e = (refl, e)

pub function_is : (k : Known) (items : Program) (end : Known) (f : Function) → NamesThere k → Steps k items end → Member (Defines f) items → FunctionIs k items end f
function_is k [] end f n h m = absurd m
function_is k (Cells x es ∷ items) end f n h (inl e) = absurd (no_cells f x es e)
function_is k (Cells x es ∷ items) end f n h (inr m) =
    let g : FunctionIs (with_cells k x.name h.0) items end f = function_is (with_cells k x.name h.0) items end f (there_cells k x.name h.0 n) h.2 m in
    record { results = g.results; known = g.known; new = (not_behind f.name.name x.name k.names g.new).1; found = g.found }
function_is k (Const x c ∷ items) end f n h (inl e) = absurd (no_constant f x c e)
function_is k (Const x c ∷ items) end f n h (inr m) =
    let g : FunctionIs (with_constant k x.name h.0) items end f = function_is (with_constant k x.name h.0) items end f (there_constant k x.name h.0 n) h.2 m in
    record { results = g.results; known = g.known; new = (not_behind f.name.name x.name k.names g.new).1; found = g.found }
function_is k (Defines g ∷ items) end f n h (inl e) =
    let same : g ≡ f = sym (one_function f g e) in
    let next : Known = with_function k g h.0 in
    let kept : Kept next end = all_kept next items end (there_function k g h.0 n) h.2 in
    let sig : Signature = signature_of g h.0 in
    let known : lookup end.functions g.name.name ≡ Some sig = kept.functions g.name.name sig (ap (λ (b : Bool). if b then Some sig else lookup k.functions g.name.name)
    (same_name_itself g.name.name)) in
    subst (λ (f : Function). FunctionIs k (Defines g ∷ items) end f) same (record {
      results = h.0;
      known = known;
      new = h.1.new;
      found = ap (λ (b : Bool). if b then Some g else function_in items g.name.name) (same_name_itself g.name.name);
    })
function_is k (Defines g ∷ items) end f n h (inr m) =
    let r : FunctionIs (with_function k g h.0) items end f = function_is (with_function k g h.0) items end f (there_function k g h.0 n) h.2 m in
    let parts = not_behind f.name.name g.name.name k.names r.new in
    record {
      results = r.results;
      known = r.known;
      new = parts.1;
      found = ap (λ (b : Bool). if b then Some g else function_in items f.name.name) parts.0 ∙ r.found;
    }
