-- THE ITEMS of the core program: their heads are good, each has its own name, and each item and instance is found.
use Rattle.std.specs.Prelude.{◌≡◌, ℕ, zero, suc, ◌+◌, ◌≤◌, ◌<◌, ◌⊎◌, ◌==◌, ◌&&◌, ◌||◌, not, nat_le, nat_lt, Bool, true, false, List, [], ◌∷◌, ◌++◌, length, drop}
use Rattle.std.specs.Prelude.{is_some, Option, None, Some, Result, Ok, refl, ⊤, if◌then◌else◌}
use Rattle.std.proofs.Common.{sym, ◌∙◌, ap, subst, arith, inl, inr, le-leb, lt-ltb}
use Rattle.lemmas.proofs.Bools.{or_true}
use Rattle.semantics.specs.Graph.{same_name}
use Rattle.semantics.proofs.Lines.{same_name_is, same_name_itself}
use Rattle.source.specs.declared.fault.Fault.{Fault}
use Rattle.source.specs.declared.fault.FaultKind.TheVariants.{SameName, TooMany, BadCount}
use Rattle.source.specs.Tree as core
use Rattle.source.specs.Tree.{Name, NameAt, NumberAt}
use Rattle.source.specs.Outside.{is_in}
use Rattle.source.specs.First.{◌>>=◌, must}
use Rattle.source.specs.Rules as core_rules
use Rattle.source.specs.Rules.{Heads, item_name, item_names, array_in, function_in, written_or_one}
use Rattle.source.proofs.Steps.{then_ok, must_ok, ok_same}
use Rattle.surface.specs.Tree.{Count, Param, Function, Item, Cells, Const, Defines, Program}
use Rattle.surface.specs.Spelled.{item_tokens}
use Rattle.surface.specs.Known.{Known, lookup, some_or, product, all_values}
use Rattle.surface.specs.Rules.{few_params, ranks, value_params, last_place}
use Rattle.surface.specs.Desugar.{Instance, Setting}
use Rattle.surface.specs.Desugared.{core_results, core_function, instances_of, core_item, core_items}
use Rattle.law_surface.specs.InstancesAreNew.{NotHidden, AreNew}
use Rattle.law_surface.proofs.WiderScope.{Includes}
use Rattle.law_surface.proofs.Ready.{AllSaid}
use Rattle.law_surface.proofs.SurfaceHeads.{with_cells, with_constant, with_function, CellsGood, FunctionGood, Steps, NamesThere, there_cells, there_constant}
use Rattle.law_surface.proofs.SurfaceHeads.{there_function, Kept, kept_names, all_kept, ResultsAre, results_are, Member}

abbrev pub AllItemsSaid : (Name → Type 0) → Program → Type 0
AllItemsSaid P [] = ⊤
AllItemsSaid P (i ∷ items) = AllSaid P (item_tokens i) × AllItemsSaid P items

-- INSTANCES: no two have one name, and none that of the text
abbrev pub DistinctNames : List Instance → Type 0
DistinctNames [] = ⊤
DistinctNames (i ∷ is) = ((j : Instance) → Member j is → same_name j.name i.name ≡ false) × DistinctNames is

either_false : (a b : Bool) → (a || b) ≡ false → (a ≡ false) × (b ≡ false)
either_false true b h = cc
either_false false b h = (refl, h)

pub not_taken : (prefix : Name) (taken : List Name) (is : List Instance) (i : Instance) → AreNew prefix taken is → Member i is → is_in i.name taken ≡ false
not_taken prefix taken [] i h m = absurd m
not_taken prefix taken (j ∷ is) i h (inl e) = ap (λ (k : Instance). is_in k.name taken) e ∙ h.0
not_taken prefix taken (j ∷ is) i h (inr m) = (either_false (same_name i.name j.name) (is_in i.name taken) (not_taken prefix (j.name ∷ taken) is i h.2 m)).1

pub shown : (prefix : Name) (taken : List Name) (is : List Instance) (i : Instance) → AreNew prefix taken is → Member i is → NotHidden prefix i.name
shown prefix taken [] i h m = absurd m
shown prefix taken (j ∷ is) i h (inl e) = subst (λ (k : Instance). NotHidden prefix k.name) (sym e) h.1
shown prefix taken (j ∷ is) i h (inr m) = shown prefix (j.name ∷ taken) is i h.2 m

pub all_distinct : (prefix : Name) (taken : List Name) (is : List Instance) → AreNew prefix taken is → DistinctNames is
all_distinct prefix taken [] h = tt
all_distinct prefix taken (i ∷ is) h = (
  (λ j m. (either_false (same_name j.name i.name) (is_in j.name taken) (not_taken prefix (i.name ∷ taken) is j h.2 m)).0),
  all_distinct prefix (i.name ∷ taken) is h.2,
)

apart : (i j : Instance) → same_name i.name j.name ≡ false → i.name ≡ j.name → ⊥
apart i j h e =
    let same : same_name i.name j.name ≡ true = ap (λ (x : Name). same_name i.name x) (sym e) ∙ same_name_itself i.name in absurd (cc)

pub one_name : (is : List Instance) (i j : Instance) → DistinctNames is → Member i is → Member j is → i.name ≡ j.name → i ≡ j
one_name [] i j d m n e = absurd m
one_name (k ∷ is) i j d (inl a) (inl b) e = a ∙ sym b
one_name (k ∷ is) i j d (inl a) (inr b) e = absurd (apart j k (d.0 j b) (sym e ∙ ap (λ (i : Instance). i.name) a))
one_name (k ∷ is) i j d (inr a) (inl b) e = absurd (apart i k (d.0 i a) (e ∙ ap (λ (i : Instance). i.name) b))
one_name (k ∷ is) i j d (inr a) (inr b) e = one_name is i j d.1 a b e

-- ONE HEAD
abbrev and_cells : Heads → Name → ℕ → Heads
and_cells h x n = record { names = x ∷ h.names; arrays = h.arrays + 1; cells = h.cells + n }

abbrev and_function : Heads → Name → Heads
and_function h x = record { names = x ∷ h.names; arrays = h.arrays; cells = h.cells }

cells_head : (h : Heads) (x : NameAt) (len : NumberAt) → is_in x.name h.names ≡ false → h.arrays < 64 → 1 ≤ len.number → h.cells + len.number ≤ 65536 → core_rules.head h
    (core.Cells x len) ≡ Ok (and_cells h x.name len.number)
cells_head h x len new few some room =
    let one : nat_le 1 len.number ≡ true = le-leb 1 len.number some in
    let all : nat_le len.number 65536 ≡ true = le-leb len.number 65536 (omega (arith, room)) in
    rw new (rw (lt-ltb h.arrays 64 few) (rw one (rw all (rw (le-leb (h.cells + len.number) 65536 room) refl))))

function_head : (h : Heads) (g : core.Function) → is_in g.name.name h.names ≡ false → core_rules.few_params (drop 16 g.params) ≡ Ok tt → core_rules.good_results g.results
    ≡ Ok tt → core_rules.head h (core.Defines g) ≡ Ok (and_function h g.name.name)
function_head h g new few results = rw new (rw few (rw results refl))

-- PARAMETERS: at most 16
shorter : (ps : List Param) → length (value_params ps) ≤ length ps
shorter [] = omega arith
shorter (p ∷ ps) = go (p.rank == 0) (shorter ps)
  where
    go : (b : Bool) → length (value_params ps) ≤ length ps → length (if b then p.name ∷ value_params ps else value_params ps) ≤ suc (length ps)
    go true h = omega (arith, h)
    go false h = omega (arith, h)

at_most : (n : ℕ) (ps : List Param) → few_params (drop n ps) ≡ Ok tt → length ps ≤ n
at_most n [] h = omega arith
at_most zero (p ∷ ps) h = cc
at_most (suc n) (p ∷ ps) h = omega (arith, at_most n ps h)

few_of : (n : ℕ) (xs : List NameAt) → length xs ≤ n → core_rules.few_params (drop n xs) ≡ Ok tt
few_of zero [] h = refl
few_of (suc n) [] h = refl
few_of zero (x ∷ xs) h = absurd (omega (arith, h))
few_of (suc n) (x ∷ xs) h = few_of n xs (omega (arith, h))

pub few_values : (ps : List Param) → few_params (drop 16 ps) ≡ Ok tt → core_rules.few_params (drop 16 (value_params ps)) ≡ Ok tt
few_values ps h = few_of 16 (value_params ps) (omega (arith, shorter ps, at_most 16 ps h))

good_number : (end : Known) (results : Option Count) (n : ℕ) → ResultsAre end results n → core_rules.good_results (core_results end results) ≡ Ok tt
good_number end None n h = refl
good_number end (Some c) n h = rw (le-leb 1 (written_or_one (core_results end (Some c))) (omega (arith, h.are, h.some))) (rw (le-leb (written_or_one (core_results end (Some
    c))) 16 (omega (arith, h.are, h.few))) refl)

-- ALL HEADS
abbrev pub InstanceIn : List Instance → List Name → Name → Type 0
InstanceIn is names x = (i : Instance) × Member i is × (x ≡ i.name) × (is_in i.function names ≡ true)

abbrev pub Origins : List Instance → List Name → List Name → Type 0
Origins is names known = (x : Name) → is_in x names ≡ true → (is_in x known ≡ true) ⊎ InstanceIn is known x

abbrev pub AllSaidOf : List Name → List Name → Type 0
AllSaidOf taken names = Includes names taken

pub record HeadsAre (is : List Instance) (h : Heads) (k : Known) : Type 0 where
  pub arrays : h.arrays ≡ length k.arrays
  pub cells : h.cells ≡ k.cells
  pub names : Origins is h.names k.names

pub record CoreHeadsGood (s : Setting) (q : core.Program) (h : Heads) (end : Known) : Type 0 where
  pub last : Heads
  pub good : core_rules.heads h q ≡ Ok last
  pub are : HeadsAre s.instances last end

heads_join : (h : Heads) (xs ys : core.Program) (next : Heads) → core_rules.heads h xs ≡ Ok next → core_rules.heads h (xs ++ ys) ≡ core_rules.heads next ys
heads_join h [] ys next e = ap (λ (h : Heads). core_rules.heads h ys) (ok_same h next e)
heads_join h (i ∷ xs) ys next e =
    let s = then_ok (core_rules.head h i) (λ next. core_rules.heads next xs) next e in rw s.1 (heads_join s.0 xs ys next s.2)

-- with one more item
more_origins : (is : List Instance) (names known : List Name) (y : Name) → Origins is names known → Origins is names (y ∷ known)
more_origins is names known y h x e = go (h x e)
  where
    go : (is_in x known ≡ true) ⊎ InstanceIn is known x → (is_in x (y ∷ known) ≡ true) ⊎ InstanceIn is (y ∷ known) x
    go (inl g) = inl (kept_names y known x g)
    go (inr g) = inr (g.0, g.1, g.2, kept_names y known g.0.function g.3)

and_origin : (is : List Instance) (names known : List Name) (y : Name) → Origins is names known → Origins is (y ∷ names) (y ∷ known)
and_origin is names known y h x e = go (same_name x y) refl e
  where
    go : (b : Bool) → same_name x y ≡ b → (b || is_in x names) ≡ true → (is_in x (y ∷ known) ≡ true) ⊎ InstanceIn is (y ∷ known) x
    go true t e = inl (ap (λ (b : Bool). b || is_in x known) t)
    go false t e = more_origins is names known y h x e

new_there : (prefix : Name) (taken : List Name) (is : List Instance) (names known : List Name) (x : Name) → AreNew prefix taken is → Origins is names known → is_in x known ≡
    false → is_in x taken ≡ true → is_in x names ≡ false
new_there prefix taken is names known x a h new said = go (is_in x names) refl
  where
    from : (is_in x known ≡ true) ⊎ InstanceIn is known x → ⊥
    from (inl g) = absurd (cc)
    from (inr g) =
        let not_said : is_in x taken ≡ false = ap (λ (y : Name). is_in y taken) g.2 ∙ not_taken prefix taken is g.0 a g.1 in absurd (cc)

    go : (b : Bool) → is_in x names ≡ b → is_in x names ≡ false
    go true e = absurd (from (h x e))
    go false e = e

-- the instances of a function
abbrev FromIn : Function → List Instance → Name → Type 0
FromIn f is x = (i : Instance) × Member i is × (x ≡ i.name) × (same_name f.name.name i.function ≡ true)

pub record InstancesGood (s : Setting) (f : Function) (is : List Instance) (h : Heads) : Type 0 where
  pub last : Heads
  pub good : core_rules.heads h (instances_of s f is) ≡ Ok last
  pub arrays : last.arrays ≡ h.arrays
  pub cells : last.cells ≡ h.cells
  pub names : (x : Name) → is_in x last.names ≡ true → (is_in x h.names ≡ true) ⊎ FromIn f is x

abbrev NewFor : Function → List Instance → Heads → Type 0
NewFor f is h = (i : Instance) → Member i is → same_name f.name.name i.function ≡ true → is_in i.name h.names ≡ false

pub record FunctionFits (s : Setting) (f : Function) : Type 0 where
  pub params : core_rules.few_params (drop 16 (value_params f.params)) ≡ Ok tt
  pub results : core_rules.good_results (core_results s.known f.results) ≡ Ok tt

from_later : (f : Function) (i : Instance) (is : List Instance) (names : List Name) (x : Name) → (is_in x names ≡ true) ⊎ FromIn f is x → (is_in x names ≡ true) ⊎ FromIn
    f (i ∷ is) x
from_later f i is names x (inl g) = inl g
from_later f i is names x (inr g) = inr (g.0, inr g.1, g.2, g.3)

from_here : (f : Function) (i : Instance) (is : List Instance) (names : List Name) (x : Name) → same_name f.name.name i.function ≡ true → (is_in x (i.name ∷ names) ≡ true) ⊎
    FromIn f is x → (is_in x names ≡ true) ⊎ FromIn f (i ∷ is) x
from_here f i is names x t (inr g) = inr (g.0, inr g.1, g.2, g.3)
from_here f i is names x t (inl g) = go (same_name x i.name) refl g
  where
    go : (b : Bool) → same_name x i.name ≡ b → (b || is_in x names) ≡ true → (is_in x names ≡ true) ⊎ FromIn f (i ∷ is) x
    go true e g = inr (i, inl refl, same_name_is x i.name e, t)
    go false e g = inl g

abbrev instance_items : Setting → Function → Instance → List Instance → Bool → core.Program
instance_items s f i is b = if b then core.Defines (core_function s f i.name i.arrays) ∷ instances_of s f is else instances_of s f is

taken_in : (s : Setting) (f : Function) (i : Instance) (is : List Instance) (h : Heads) → FunctionFits s f → same_name f.name.name i.function ≡ true → is_in i.name h.names ≡
    false → InstancesGood s f is (and_function h i.name) → InstancesGood s f (i ∷ is) h
taken_in s f i is h fits t new later = record {
  last = later.last;
  good = ap (λ (b : Bool). core_rules.heads h (instance_items s f i is b)) t ∙ rw (function_head h (core_function s f i.name i.arrays) new fits.params fits.results)
      later.good;
  arrays = later.arrays;
  cells = later.cells;
  names = λ x e. from_here f i is h.names x t (later.names x e);
}

left_out : (s : Setting) (f : Function) (i : Instance) (is : List Instance) (h : Heads) → same_name f.name.name i.function ≡ false → InstancesGood s f is h → InstancesGood s
    f (i ∷ is) h
left_out s f i is h t later = record {
  last = later.last;
  good = ap (λ (b : Bool). core_rules.heads h (instance_items s f i is b)) t ∙ later.good;
  arrays = later.arrays;
  cells = later.cells;
  names = λ x e. from_later f i is h.names x (later.names x e);
}

still_new : (f : Function) (i : Instance) (is : List Instance) (h : Heads) → DistinctNames (i ∷ is) → NewFor f (i ∷ is) h → NewFor f is (and_function h i.name)
still_new f i is h d new j m t =
    let differ = d.0 j m in
    let old = new j (inr m) t in rw differ old

instances_good : (s : Setting) (f : Function) (is : List Instance) (h : Heads) → FunctionFits s f → DistinctNames is → NewFor f is h → InstancesGood s f is h
instances_good s f [] h fits d new = record { last = h; good = refl; arrays = refl; cells = refl; names = λ x e. inl e }
instances_good s f (i ∷ is) h fits d new = go (same_name f.name.name i.function) refl (instances_good s f is (and_function h i.name) fits d.1 (still_new f i is h d new))
    (instances_good s f is h fits d.1 (λ j m t. new j (inr m) t))
  where
    go : (b : Bool) → same_name f.name.name i.function ≡ b → InstancesGood s f is (and_function h i.name) → InstancesGood s f is h → InstancesGood s f (i ∷ is) h
    go true t with_it without_it = taken_in s f i is h fits t (new i (inl refl) t) with_it
    go false t with_it without_it = left_out s f i is h t without_it

-- ONE ITEM, and all of them
module _ (s : Setting) (prefix : Name) (taken : List Name) (a : AreNew prefix taken s.instances) where
  abbrev is : List Instance
  is = s.instances

  abbrev Said : Name → Type 0
  Said x = is_in x taken ≡ true

  -- the heads after an item
  pub record ItemGood (h : Heads) (q : core.Program) (k : Known) : Type 0 where
    pub next : Heads
    pub good : core_rules.heads h q ≡ Ok next
    pub are : HeadsAre is next k

  cells_good : (h : Heads) (k : Known) (x : NameAt) (at : ℕ) (ns : List ℕ) → HeadsAre is h k → Said x.name → CellsGood k x.name ns → lookup s.known.arrays x.name ≡ Some ns →
      ItemGood h (core.Cells x (record { at = at; number = product (some_or [] (lookup s.known.arrays x.name)) }) ∷ []) (with_cells k x.name ns)
  cells_good h k x at ns r said good found =
      let len : ℕ → NumberAt = λ n. record { at = at; number = n } in
      let m : ℕ = product (some_or [] (lookup s.known.arrays x.name)) in
      let same : m ≡ product ns = ap (λ (o : Option (List ℕ)). product (some_or [] o)) found in
      let new = new_there prefix taken is h.names k.names x.name a r.names good.new said in
      let head : core_rules.head h (core.Cells x (len m)) ≡ Ok (and_cells h x.name m) = cells_head h x (len m) new (omega (arith, good.few, r.arrays)) (omega (
        arith,
        same,
        good.some,
      )) (omega (arith, same, good.room, r.cells)) in
      record {
        next = and_cells h x.name m;
        good = rw head refl;
        are = record {
          arrays = omega (arith, r.arrays);
          cells = omega (arith, r.cells, same);
          names = and_origin is h.names k.names x.name r.names;
        };
      }

  plain_good : (h : Heads) (k : Known) (f : Function) (n : ℕ) → HeadsAre is h k → Said f.name.name → FunctionGood k f n → FunctionFits s f → ItemGood h (core.Defines
      (core_function s f f.name.name []) ∷ []) (with_function k f n)
  plain_good h k f n r said good fits =
      let new = new_there prefix taken is h.names k.names f.name.name a r.names good.new said in
      record {
        next = and_function h f.name.name;
        good = rw (function_head h (core_function s f f.name.name []) new fits.params fits.results) refl;
        are = record { arrays = r.arrays; cells = r.cells; names = and_origin is h.names k.names f.name.name r.names };
      }

  -- an instance is not there before its function
  instance_new : (h : Heads) (k : Known) (f : Function) → HeadsAre is h k → is_in f.name.name k.names ≡ false → AllSaidOf taken k.names → NewFor f is h
  instance_new h k f r new said i m t = go (is_in i.name h.names) refl
    where
      same_function : (j : Instance) → Member j is → i.name ≡ j.name → is_in j.function k.names ≡ true → ⊥
      same_function j n e there =
          let one : i ≡ j = one_name is i j (all_distinct prefix taken is a) m n e in
          let here : is_in f.name.name k.names ≡ true = ap (λ (x : Name). is_in x k.names) (same_name_is f.name.name i.function t) ∙ ap (λ (j : Instance). is_in j.function
          k.names) one ∙ there in absurd (cc)

      from : (is_in i.name k.names ≡ true) ⊎ InstanceIn is k.names i.name → ⊥
      from (inl g) =
          let in_text : is_in i.name taken ≡ true = said i.name g in
          let not_in : is_in i.name taken ≡ false = not_taken prefix taken is i a m in absurd (cc)
      from (inr g) = same_function g.0 g.1 g.2 g.3

      go : (b : Bool) → is_in i.name h.names ≡ b → is_in i.name h.names ≡ false
      go true e = absurd (from (r.names i.name e))
      go false e = e

  arrays_good : (h : Heads) (k : Known) (f : Function) (n : ℕ) → HeadsAre is h k → FunctionGood k f n → FunctionFits s f → AllSaidOf taken k.names → ItemGood h (instances_of s
      f is) (with_function k f n)
  arrays_good h k f n r good fits said =
      let g : InstancesGood s f is h = instances_good s f is h fits (all_distinct prefix taken is a) (instance_new h k f r good.new said) in
      record {
        next = g.last;
        good = g.good;
        are = record { arrays = g.arrays ∙ r.arrays; cells = g.cells ∙ r.cells; names = λ x e. from x (g.names x e) };
      }
    where
      from : (x : Name) → (is_in x h.names ≡ true) ⊎ FromIn f is x → (is_in x (f.name.name ∷ k.names) ≡ true) ⊎ InstanceIn is (f.name.name ∷ k.names) x
      from x (inl e) = more_origins is h.names k.names f.name.name r.names x e
      from x (inr e) = inr (
        e.0,
        e.1,
        e.2,
        ap (λ (y : Name). is_in y (f.name.name ∷ k.names)) (sym (same_name_is f.name.name e.0.function e.3)) ∙ ap (λ (b : Bool). b || is_in f.name.name k.names)
            (same_name_itself f.name.name),
      )

  function_good : (h : Heads) (k : Known) (f : Function) (n : ℕ) → HeadsAre is h k → Said f.name.name → FunctionGood k f n → FunctionFits s f → AllSaidOf taken k.names →
      ItemGood h (core_item s (Defines f)) (with_function k f n)
  function_good h k f n r said good fits all = go (all_values (ranks f.params))
    where
      go : (b : Bool) → ItemGood h (if b then core.Defines (core_function s f f.name.name []) ∷ [] else instances_of s f s.instances) (with_function k f n)
      go true = plain_good h k f n r said good fits
      go false = arrays_good h k f n r good fits all

  and_said : (x : Name) (names : List Name) → Said x → AllSaidOf taken names → AllSaidOf taken (x ∷ names)
  and_said x names said all y e = go (same_name y x) refl e
    where
      go : (b : Bool) → same_name y x ≡ b → (b || is_in y names) ≡ true → is_in y taken ≡ true
      go true t e = ap (λ (z : Name). is_in z taken) (same_name_is y x t) ∙ said
      go false t e = all y e

  then_good : (h : Heads) (xs ys : core.Program) (k end : Known) → (g : ItemGood h xs k) → CoreHeadsGood s ys g.next end → CoreHeadsGood s (xs ++ ys) h end
  then_good h xs ys k end g later = record { last = later.last; good = heads_join h xs ys g.next g.good ∙ later.good; are = later.are }

  pub core_heads : (k : Known) (items : Program) (h : Heads) → NamesThere k → Steps k items s.known → HeadsAre is h k → AllItemsSaid Said items → AllSaidOf taken k.names →
      CoreHeadsGood s (core_items s items) h s.known
  core_heads k [] h n st r said all = record { last = h; good = refl; are = subst (λ (k : Known). HeadsAre is h k) st r }
  core_heads k (Cells x es ∷ items) h n st r said all =
      let next : Known = with_cells k x.name st.0 in
      let kept : Kept next s.known = all_kept next items s.known (there_cells k x.name st.0 n) st.2 in
      let found : lookup s.known.arrays x.name ≡ Some st.0 = kept.arrays x.name st.0 (ap (λ (b : Bool). if b then Some st.0 else lookup k.arrays x.name) (same_name_itself
      x.name)) in
      let here : Said x.name = said.0.1.0 in
      let one : ItemGood h (core_item s (Cells x es)) next = cells_good h k x (last_place es) st.0 r here st.1 found in
      then_good h (core_item s (Cells x es)) (core_items s items) next s.known one (core_heads next items one.next (there_cells k x.name st.0 n) st.2 one.are said.1 (and_said
      x.name k.names here all))
  core_heads k (Const x e ∷ items) h n st r said all =
      let next : Known = with_constant k x.name st.0 in
      let here : Said x.name = said.0.1.0 in
      core_heads next items h (there_constant k x.name st.0 n) st.2 (record {
        arrays = r.arrays;
        cells = r.cells;
        names = more_origins is h.names k.names x.name r.names;
      }) said.1 (and_said x.name k.names here all)
  core_heads k (Defines f ∷ items) h n st r said all =
      let next : Known = with_function k f st.0 in
      let kept : Kept k s.known = all_kept k (Defines f ∷ items) s.known n st in
      let here : Said f.name.name = said.0.1.0 in
      let fits : FunctionFits s f = record {
        params = few_values f.params st.1.few;
        results = good_number s.known f.results st.0 (results_are k s.known kept f.results st.0 st.1.results);
      } in
      let one : ItemGood h (core_item s (Defines f)) next = function_good h k f st.0 r here st.1 fits all in
      then_good h (core_item s (Defines f)) (core_items s items) next s.known one (core_heads next items one.next (there_function k f st.0 n) st.2 one.are said.1 (and_said
      f.name.name k.names here all))

not_false : (b : Bool) → not b ≡ true → b ≡ false
not_false true h = cc
not_false false h = refl

passed_over : (i : core.Item) (q : core.Program) (g : core.Function) → same_name g.name.name (item_name i).name ≡ false → function_in (i ∷ q) g.name.name ≡ function_in q
    g.name.name
passed_over (core.Cells x len) q g e = refl
passed_over (core.Defines f) q g e = ap (λ (b : Bool). if b then Some f else function_in q g.name.name) e

-- WHAT IS FOUND in a program whose heads are good
head_adds : (h : Heads) (i : core.Item) (next : Heads) → core_rules.head h i ≡ Ok next → (is_in (item_name i).name h.names ≡ false) × (next.names ≡ (item_name i).name ∷
    h.names)
head_adds h (core.Cells x len) next e =
    let end : Heads = and_cells h x.name len.number in
    let r3 : Result Heads Fault = must (nat_le (h.cells + len.number) 65536) TooMany len.at >>= (λ t. Ok end) in
    let r2 : Result Heads Fault = must (nat_le 1 len.number && nat_le len.number 65536) BadCount len.at >>= (λ t. r3) in
    let r1 : Result Heads Fault = must (nat_lt h.arrays 64) TooMany x.at >>= (λ t. r2) in
    let s1 = then_ok (must (not (is_in x.name h.names)) SameName x.at) (λ t. r1) next e in
    let s2 = then_ok (must (nat_lt h.arrays 64) TooMany x.at) (λ t. r2) next s1.2 in
    let s3 = then_ok (must (nat_le 1 len.number && nat_le len.number 65536) BadCount len.at) (λ t. r3) next s2.2 in
    let s4 = then_ok (must (nat_le (h.cells + len.number) 65536) TooMany len.at) (λ t. Ok end) next s3.2 in (
      not_false (is_in x.name h.names) (must_ok (not (is_in x.name h.names)) SameName x.at s1.0 s1.1),
      ap (λ (h : Heads). h.names) (sym (ok_same end next s4.2)),
    )
head_adds h (core.Defines f) next e =
    let end : Heads = and_function h f.name.name in
    let r2 : Result Heads Fault = core_rules.good_results f.results >>= (λ t. Ok end) in
    let r1 : Result Heads Fault = core_rules.few_params (drop 16 f.params) >>= (λ t. r2) in
    let s1 = then_ok (must (not (is_in f.name.name h.names)) SameName f.name.at) (λ t. r1) next e in
    let s2 = then_ok (core_rules.few_params (drop 16 f.params)) (λ t. r2) next s1.2 in
    let s3 = then_ok (core_rules.good_results f.results) (λ t. Ok end) next s2.2 in (
      not_false (is_in f.name.name h.names) (must_ok (not (is_in f.name.name h.names)) SameName f.name.at s1.0 s1.1),
      ap (λ (h : Heads). h.names) (sym (ok_same end next s3.2)),
    )

pub names_last : (h : Heads) (q : core.Program) (last : Heads) → core_rules.heads h q ≡ Ok last → (x : Name) → (is_in x (item_names q) || is_in x h.names) ≡ true → is_in x
    last.names ≡ true
names_last h [] last e x g = ap (λ (h : Heads). is_in x h.names) (sym (ok_same h last e)) ∙ g
names_last h (i ∷ q) last e x g =
    let s = then_ok (core_rules.head h i) (λ next. core_rules.heads next q) last e in
    let adds = head_adds h i s.0 s.1 in
    names_last s.0 q last s.2 x (ap (λ (names : List Name). is_in x (item_names q) || is_in x names) adds.1 ∙ swapped (same_name x (item_name i).name) (is_in x (item_names
    q)) (is_in x h.names) g)
  where
    swapped : (a b c : Bool) → ((a || b) || c) ≡ true → (b || (a || c)) ≡ true
    swapped a true c g = refl
    swapped true false c g = refl
    swapped false false c g = g

pub function_found : (h : Heads) (q : core.Program) (last : Heads) (g : core.Function) → core_rules.heads h q ≡ Ok last → Member (core.Defines g) q → (is_in g.name.name
    h.names ≡ false) × (function_in q g.name.name ≡ Some g)
function_found h [] last g e m = absurd m
function_found h (i ∷ q) last g e (inl same) =
    let s = then_ok (core_rules.head h i) (λ next. core_rules.heads next q) last e in
    let adds = head_adds h i s.0 s.1 in (
      ap (λ (i : core.Item). is_in (item_name i).name h.names) same ∙ adds.0,
      ap (λ (i : core.Item). function_in (i ∷ q) g.name.name) (sym same) ∙ ap (λ (b : Bool). if b then Some g else function_in q g.name.name) (same_name_itself g.name.name),
    )
function_found h (i ∷ q) last g e (inr m) =
    let s = then_ok (core_rules.head h i) (λ next. core_rules.heads next q) last e in
    let adds = head_adds h i s.0 s.1 in
    let later = function_found s.0 q last g s.2 m in
    let both : is_in g.name.name ((item_name i).name ∷ h.names) ≡ false = ap (λ (names : List Name). is_in g.name.name names) (sym adds.1) ∙ later.0 in
    let parts = either_false (same_name g.name.name (item_name i).name) (is_in g.name.name h.names) both in
    (parts.1, passed_over i q g parts.0 ∙ later.1)

pub array_found : (q : core.Program) (x : NameAt) (len : NumberAt) → Member (core.Cells x len) q → is_some (array_in q x.name) ≡ true
array_found [] x len m = absurd m
array_found (i ∷ q) x len (inl same) = ap (λ (i : core.Item). is_some (array_in (i ∷ q) x.name)) (sym same) ∙ ap (λ (b : Bool). is_some (if b then Some len.number else
    array_in q x.name)) (same_name_itself x.name)
array_found (core.Cells y n ∷ q) x len (inr m) = go (same_name x.name y.name) (array_found q x len m)
  where
    go : (b : Bool) → is_some (array_in q x.name) ≡ true → is_some (if b then Some n.number else array_in q x.name) ≡ true
    go true e = refl
    go false e = e
array_found (core.Defines f ∷ q) x len (inr m) = array_found q x len m

-- MEMBERS of the core program
in_front : {X : Type 0} (x : X) (xs ys : List X) → Member x xs → Member x (xs ++ ys)
in_front x [] ys m = absurd m
in_front x (y ∷ xs) ys (inl e) = inl e
in_front x (y ∷ xs) ys (inr m) = inr (in_front x xs ys m)

in_back : {X : Type 0} (x : X) (xs ys : List X) → Member x ys → Member x (xs ++ ys)
in_back x [] ys m = m
in_back x (y ∷ xs) ys m = inr (in_back x xs ys m)

pub member_of : (s : Setting) (p : Program) (i : Item) (c : core.Item) → Member i p → Member c (core_item s i) → Member c (core_items s p)
member_of s [] i c m g = absurd m
member_of s (j ∷ items) i c (inl e) g = in_front c (core_item s j) (core_items s items) (subst (λ (i : Item). Member c (core_item s i)) e g)
member_of s (j ∷ items) i c (inr m) g = in_back c (core_item s j) (core_items s items) (member_of s items i c m g)

pub plain_member : (s : Setting) (f : Function) → all_values (ranks f.params) ≡ true → Member (core.Defines (core_function s f f.name.name [])) (core_item s (Defines f))
plain_member s f e =
    let here : core.Program = core.Defines (core_function s f f.name.name []) ∷ [] in
    subst (λ (b : Bool). Member (core.Defines (core_function s f f.name.name [])) (if b then here else instances_of s f s.instances)) (sym e) (inl refl)

instance_in : (s : Setting) (f : Function) (is : List Instance) (i : Instance) → Member i is → same_name f.name.name i.function ≡ true → Member (core.Defines (core_function s f
    i.name i.arrays)) (instances_of s f is)
instance_in s f [] i m t = absurd m
instance_in s f (j ∷ is) i (inl e) t =
    let c : core.Item = core.Defines (core_function s f i.name i.arrays) in
    subst (λ (j : Instance). Member c (instances_of s f (j ∷ is))) e (subst (λ (b : Bool). Member c (instance_items s f i is b)) (sym t) (inl refl))
instance_in s f (j ∷ is) i (inr m) t = go (same_name f.name.name j.function) (instance_in s f is i m t)
  where
    go : (b : Bool) → Member (core.Defines (core_function s f i.name i.arrays)) (instances_of s f is) → Member (core.Defines (core_function s f i.name i.arrays))
        (instance_items s f j is b)
    go true g = inr g
    go false g = g

pub instance_member : (s : Setting) (f : Function) (i : Instance) → all_values (ranks f.params) ≡ false → Member i s.instances → same_name f.name.name i.function ≡ true →
    Member (core.Defines (core_function s f i.name i.arrays)) (core_item s (Defines f))
instance_member s f i e m t =
    let c : core.Item = core.Defines (core_function s f i.name i.arrays) in
    let here : core.Program = core.Defines (core_function s f f.name.name []) ∷ [] in
    subst (λ (b : Bool). Member c (if b then here else instances_of s f s.instances)) (sym e) (instance_in s f s.instances i m t)
