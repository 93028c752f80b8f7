-- What is known of the items of a good program is small.
use Rattle.std.specs.Prelude.{◌≡◌, ℕ, suc, ◌+◌, ◌*◌, ◌^◌, ◌<◌, ◌≤◌, ◌⊎◌, ◌&&◌, not, nat_le, nat_lt, Bool, true, false, ℤ, pos, negsuc, ◌+ℤ◌, ◌-ℤ◌, ◌*ℤ◌}
use Rattle.std.specs.Prelude.{neg_ℤ, int_le, int_lt, List, [], ◌∷◌, length, drop, Option, None, Some, Result, Ok, refl, ⊤, if◌then◌else◌}
use Rattle.std.proofs.Common.{subst, arith, inl, inr, leb-true, ltb-true, ltb-false}
use Rattle.lemmas.proofs.Bools.{first_of_and, second_of_and}
use Rattle.tags.specs.declared.value.Value.{Value}
use Rattle.tags.specs.declared.value.Value.TheVariants.{Int, Fault as FaultyValue}
use Rattle.tags.specs.declared.value.Origin.TheVariants.{Untold}
use Rattle.operators.specs.declared.Unary.{Unary}
use Rattle.operators.specs.declared.Unary.TheVariants.{Neg, Not as Flip}
use Rattle.operators.specs.declared.Binary.{Binary}
use Rattle.operators.specs.declared.Binary.TheVariants as binary
use Rattle.operators.specs.Values.{on_int, on_ints}
use Rattle.semantics.specs.Graph.{same_name}
use Rattle.source.specs.declared.fault.FaultKind.TheVariants.{NoSuchName, SameName, TooMany, BadCount}
use Rattle.source.specs.declared.word.InfixSign.{InfixSign}
use Rattle.source.specs.declared.word.InfixSign.TheVariants.{Direct, Greater, AtLeast}
use Rattle.source.specs.Tree.{Name}
use Rattle.source.specs.Fits.{Small}
use Rattle.source.specs.Outside.{is_in}
use Rattle.surface.specs.declared.fault.Fault.{Fault}
use Rattle.surface.specs.declared.fault.FaultKind.TheVariants.{BadConst, BadArray, Core}
use Rattle.surface.specs.Tree.{Expr, Number, Named, Bracket, Prefix, Infix, Exprs, One, More}
use Rattle.surface.specs.Tree.{Item, Cells, Const, Defines, Program}
use Rattle.surface.specs.Fits.{count, Fits, FitsItem, FitsProgram}
use Rattle.surface.specs.First.{◌>>=◌, must, refused}
use Rattle.surface.specs.Known.{Known, nothing, lookup, natural, product, some_value}
use Rattle.surface.specs.Constants.{place_of, is_in_64_bits, in_64_bits, integer_in, is_shift, shift_factor, directly, combined, inverted, constant_or, constant}
use Rattle.surface.specs.Rules.{few_params, good_params, results_of, length_of, lengths_of, last_place, head, heads, ranks}
use Rattle.law_surface.proofs.Steps.{then_ok, must_then, ok_same}
use Rattle.law_surface.proofs.DesugaredFits.{IsNumeral, AllSmall, KnownSmall}

-- NUMBERS of 64 bits
below_or_at : (n k : ℕ) → n ≤ k → (n < k) ⊎ (n ≡ k)
below_or_at n k h = go (nat_lt n k) refl
  where
    go : (b : Bool) → nat_lt n k ≡ b → (n < k) ⊎ (n ≡ k)
    go true e = inl (ltb-true n k e)
    go false e = inr (omega (arith, ltb-false n k e, h))

in_range : (z : ℤ) → is_in_64_bits z ≡ true → IsNumeral z
in_range (pos n) h = omega (arith, leb-true n 9223372036854775807 h)
in_range (negsuc n) h = below_or_at (suc n) (2 ^ 63) (omega (arith, leb-true n 9223372036854775807 (first_of_and (nat_le n 9223372036854775807) true h)))

in_64_small : (at : ℕ) (z y : ℤ) → in_64_bits at z ≡ Ok y → IsNumeral y
in_64_small at z y h = go (is_in_64_bits z) refl h
  where
    go : (b : Bool) → is_in_64_bits z ≡ b → Path (Result ℤ Fault) (if b then Ok z else refused BadConst at) (Ok y) → IsNumeral y
    go true e i = subst (λ (x : ℤ). IsNumeral x) (ok_same z y i) (in_range z e)
    go false e i = cc

value_small : (at : ℕ) (v : Value) (y : ℤ) → integer_in at v ≡ Ok y → IsNumeral y
value_small at (Int z) y h = in_64_small at z y h
value_small at (FaultyValue k o) y h = cc

unless_refused : (b : Bool) (at : ℕ) (r : Result ℤ Fault) (y : ℤ) → (r ≡ Ok y → IsNumeral y) → (if b then r else refused BadConst at) ≡ Ok y → IsNumeral y
unless_refused true at r y h i = h i
unless_refused false at r y h i = cc

if_not_refused : (b : Bool) (at : ℕ) (r : Result ℤ Fault) (y : ℤ) → (r ≡ Ok y → IsNumeral y) → (if b then refused BadConst at else r) ≡ Ok y → IsNumeral y
if_not_refused true at r y h i = cc
if_not_refused false at r y h i = h i

directly_small : (at : ℕ) (op : Binary) (x y z : ℤ) → directly at op x y ≡ Ok z → IsNumeral z
directly_small at binary.Add x y z h = in_64_small at (x +ℤ y) z h
directly_small at binary.Sub x y z h = in_64_small at (x -ℤ y) z h
directly_small at binary.Mul x y z h = in_64_small at (x *ℤ y) z h
directly_small at binary.Div x y z h = if_not_refused (int_lt x (negsuc 9223372036854775806) && int_lt y (pos 0) && int_lt (negsuc 1) y) at (integer_in at
    (on_ints binary.Div x y Untold)) z (λ i. value_small at (on_ints binary.Div x y Untold) z i) h
directly_small at binary.Rem x y z h = value_small at (on_ints binary.Rem x y Untold) z h
directly_small at binary.And x y z h = value_small at (on_ints binary.And x y Untold) z h
directly_small at binary.Or x y z h = value_small at (on_ints binary.Or x y Untold) z h
directly_small at binary.Xor x y z h = value_small at (on_ints binary.Xor x y Untold) z h
directly_small at binary.Shl x y z h = unless_refused (is_shift y) at (in_64_bits at (x *ℤ shift_factor y)) z (λ i. in_64_small at (x *ℤ shift_factor y) z i) h
directly_small at binary.Shr x y z h = unless_refused (is_shift y) at (integer_in at (on_ints binary.Shr x y Untold)) z (λ i. value_small at (on_ints
    binary.Shr x y Untold) z i) h
directly_small at binary.Eq x y z h = value_small at (on_ints binary.Eq x y Untold) z h
directly_small at binary.Ne x y z h = value_small at (on_ints binary.Ne x y Untold) z h
directly_small at binary.Lt x y z h = value_small at (on_ints binary.Lt x y Untold) z h
directly_small at binary.Le x y z h = value_small at (on_ints binary.Le x y Untold) z h

combined_small : (at : ℕ) (s : InfixSign) (x y z : ℤ) → combined at s x y ≡ Ok z → IsNumeral z
combined_small at (Direct op) x y z h = directly_small at op x y z h
combined_small at Greater x y z h = directly_small at binary.Lt y x z h
combined_small at AtLeast x y z h = directly_small at binary.Le y x z h

inverted_small : (at : ℕ) (op : Unary) (x z : ℤ) → inverted at op x ≡ Ok z → IsNumeral z
inverted_small at Neg x z h = in_64_small at (neg_ℤ x) z h
inverted_small at Flip x z h = in_64_small at (on_int Flip x) z h

refused_not : (b : Bool) (at : ℕ) (z : ℤ) → (if b then refused BadConst at else refused (Core NoSuchName) at) ≡ Ok z → IsNumeral z
refused_not true at z h = cc
refused_not false at z h = cc

constant_small : (known : Known) → KnownSmall known → (e : Expr) (z : ℤ) → Fits e → constant known e ≡ Ok z → IsNumeral z
constant_small known k (Number at n) z f h = subst (λ (x : ℤ). IsNumeral x) (ok_same (pos n) z h) f
constant_small known k (Named at x) z f h = go (lookup known.constants x) refl h
  where
    go : (o : Option ℤ) → lookup known.constants x ≡ o → constant_or known at x o ≡ Ok z → IsNumeral z
    go (Some y) e i = subst (λ (x : ℤ). IsNumeral x) (ok_same y z i) (k.constants x y e)
    go None e i = refused_not (is_in x known.names) at z i
constant_small known k (Bracket e) z f h = constant_small known k e z f h
constant_small known k (Prefix at op e) z f h =
    let s = then_ok (constant known e) (λ x. inverted at op x) z h in inverted_small at op s.0 z s.2
constant_small known k (Infix at sign l r) z f h =
    let s = then_ok (constant known l) (λ x. constant known r >>= (λ y. combined at sign x y)) z h in
    let t = then_ok (constant known r) (λ y. combined at sign s.0 y) z s.2 in combined_small at sign s.0 t.0 z t.2
constant_small known k e z f h = cc

-- LENGTHS
natural_below : (z : ℤ) → int_le z (pos 65536) ≡ true → natural z ≤ 65536
natural_below (pos n) h = leb-true n 65536 h
natural_below (negsuc n) h = omega arith

length_small : (known : Known) (before : ℕ) (e : Expr) (n : ℕ) → length_of known before e ≡ Ok n → n ≤ 65536
length_small known before e n h =
    let test : ℤ → Bool = λ z. int_le (pos 1) z && int_le z (pos 65536) && nat_le (before * natural z) 65536 in
    let s = then_ok (constant known e) (λ z. must (test z) (Core BadCount) (place_of e) >>= (λ t. Ok (natural z))) n h in
    let t = must_then (test s.0) (Core BadCount) (place_of e) (Ok (natural s.0)) n s.2 in
    let both = first_of_and (int_le (pos 1) s.0 && int_le s.0 (pos 65536)) (nat_le (before * natural s.0) 65536) t.0 in
    let below = natural_below s.0 (second_of_and (int_le (pos 1) s.0) (int_le s.0 (pos 65536)) both) in
    omega (arith, below, ok_same (natural s.0) n t.1)

lengths_are_small : (known : Known) (before : ℕ) (es : Exprs) (ns : List ℕ) → lengths_of known before es ≡ Ok ns → AllSmall ns
lengths_are_small known before (One e) ns h =
    let s = then_ok (length_of known before e) (λ n. Ok (n ∷ [])) ns h in
    let small : s.0 < 2 ^ 63 = omega (arith, length_small known before e s.0 s.1) in
    subst (λ (ns : List ℕ). AllSmall ns) (ok_same (s.0 ∷ []) ns s.2) (small, tt)
lengths_are_small known before (More e es) ns h =
    let s = then_ok (length_of known before e) (λ n. lengths_of known (before * n) es >>= (λ ns. Ok (n ∷ ns))) ns h in
    let t = then_ok (lengths_of known (before * s.0) es) (λ ns. Ok (s.0 ∷ ns)) ns s.2 in
    let small : s.0 < 2 ^ 63 = omega (arith, length_small known before e s.0 s.1) in
    subst (λ (ns : List ℕ). AllSmall ns) (ok_same (s.0 ∷ t.0) ns t.2) (small, lengths_are_small known (before * s.0) es t.0 t.1)

-- ITEMS
constants_and : (known : Known) → KnownSmall known → (x : Name) (z : ℤ) → IsNumeral z → (y : Name) (v : ℤ) → lookup ((x, z) ∷ known.constants) y ≡ Some v →
    IsNumeral v
constants_and known k x z h y v e = go (same_name y x) e
  where
    go : (b : Bool) → (if b then Some z else lookup known.constants y) ≡ Some v → IsNumeral v
    go true i = let same : z ≡ v = cc in subst (λ (x : ℤ). IsNumeral x) same h
    go false i = k.constants y v i

arrays_and : (known : Known) → KnownSmall known → (x : Name) (ns : List ℕ) → AllSmall ns × Small (product ns) → (y : Name) (ms : List ℕ) → lookup ((x, ns) ∷
    known.arrays) y ≡ Some ms → AllSmall ms × Small (product ms)
arrays_and known k x ns h y ms e = go (same_name y x) e
  where
    go : (b : Bool) → (if b then Some ns else lookup known.arrays y) ≡ Some ms → AllSmall ms × Small (product ms)
    go true i = let same : ns ≡ ms = cc in subst (λ (xs : List ℕ). AllSmall xs × Small (product xs)) same h
    go false i = k.arrays y ms i

-- what an item adds is small, and a function has a parameter that is a value
abbrev pub HasValue : Item → Type 0
HasValue (Cells x es) = ⊤
HasValue (Const x e) = ⊤
HasValue (Defines f) = some_value (ranks f.params) ≡ true

pub record ItemSmall (i : Item) (next : Known) : Type 0 where
  pub known : KnownSmall next
  pub value : HasValue i

abbrev FitsConst : Item → Type 0
FitsConst (Cells x es) = ⊤
FitsConst (Const x e) = Fits e
FitsConst (Defines f) = ⊤

with_cells : Known → Name → List ℕ → Known
with_cells known x ns = record {
  names = x ∷ known.names;
  constants = known.constants;
  arrays = (x, ns) ∷ known.arrays;
  functions = known.functions;
  cells = known.cells + product ns;
}

item_small : (known : Known) → KnownSmall known → (i : Item) (next : Known) → FitsConst i → head known i ≡ Ok next → ItemSmall i next
unfolding with_cells
item_small known k (Cells x es) next f h =
    let end : List ℕ → Result Known Fault = λ ns. must (nat_le (known.cells + product ns) 65536) (Core TooMany) (last_place es) >>= (λ t. Ok (with_cells known
    x.name ns)) in
    let r3 : Result Known Fault = lengths_of known 1 es >>= end in
    let r2 : Result Known Fault = must (nat_le (count es) 3) BadArray x.at >>= (λ t. r3) in
    let r1 : Result Known Fault = must (nat_lt (length known.arrays) 64) (Core TooMany) x.at >>= (λ t. r2) in
    let s1 = must_then (not (is_in x.name known.names)) (Core SameName) x.at r1 next h in
    let s2 = must_then (nat_lt (length known.arrays) 64) (Core TooMany) x.at r2 next s1.1 in
    let s3 = must_then (nat_le (count es) 3) BadArray x.at r3 next s2.1 in
    let s4 = then_ok (lengths_of known 1 es) end next s3.1 in
    let s5 = must_then (nat_le (known.cells + product s4.0) 65536) (Core TooMany) (last_place es) (Ok (with_cells known x.name s4.0)) next s4.2 in
    let few : product s4.0 < 2 ^ 63 = omega (arith, leb-true (known.cells + product s4.0) 65536 s5.0) in
    let small : KnownSmall (with_cells known x.name s4.0) = record {
      constants = k.constants;
      arrays = λ y ms e. arrays_and known k x.name s4.0 (lengths_are_small known 1 es s4.0 s4.1, few) y ms e;
    } in
    record { known = subst (λ (known : Known). KnownSmall known) (ok_same (with_cells known x.name s4.0) next s5.1) small; value = tt }
item_small known k (Const x e) next f h =
    let end : ℤ → Result Known Fault = λ z. Ok (record {
      names = x.name ∷ known.names;
      constants = (x.name, z) ∷ known.constants;
      arrays = known.arrays;
      functions = known.functions;
      cells = known.cells;
    }) in
    let s1 = must_then (not (is_in x.name known.names)) (Core SameName) x.at (constant known e >>= end) next h in
    let s2 = then_ok (constant known e) end next s1.1 in
    let last : Known = record {
      names = x.name ∷ known.names;
      constants = (x.name, s2.0) ∷ known.constants;
      arrays = known.arrays;
      functions = known.functions;
      cells = known.cells;
    } in
    let small : KnownSmall last = record {
      constants = λ y v i. constants_and known k x.name s2.0 (constant_small known k e s2.0 f s2.1) y v i;
      arrays = k.arrays;
    } in
    record { known = subst (λ (known : Known). KnownSmall known) (ok_same last next s2.2) small; value = tt }
item_small known k (Defines g) next f h =
    let end : ℕ → Result Known Fault = λ n. Ok (record {
      names = g.name.name ∷ known.names;
      constants = known.constants;
      arrays = known.arrays;
      functions = (g.name.name, record { ranks = ranks g.params; results = n }) ∷ known.functions;
      cells = known.cells;
    }) in
    let r4 : Result Known Fault = results_of known g.results >>= end in
    let r3 : Result Known Fault = must (some_value (ranks g.params)) BadArray g.name.at >>= (λ t. r4) in
    let r2 : Result Known Fault = good_params g.name.name g.params >>= (λ t. r3) in
    let r1 : Result Known Fault = few_params (drop 16 g.params) >>= (λ t. r2) in
    let s1 = must_then (not (is_in g.name.name known.names)) (Core SameName) g.name.at r1 next h in
    let s2 = then_ok (few_params (drop 16 g.params)) (λ t. r2) next s1.1 in
    let s3 = then_ok (good_params g.name.name g.params) (λ t. r3) next s2.2 in
    let s4 = must_then (some_value (ranks g.params)) BadArray g.name.at r4 next s3.2 in
    let s5 = then_ok (results_of known g.results) end next s4.1 in
    let last : Known = record {
      names = g.name.name ∷ known.names;
      constants = known.constants;
      arrays = known.arrays;
      functions = (g.name.name, record { ranks = ranks g.params; results = s5.0 }) ∷ known.functions;
      cells = known.cells;
    } in
    let small : KnownSmall last = record { constants = k.constants; arrays = k.arrays } in
    record { known = subst (λ (known : Known). KnownSmall known) (ok_same last next s5.2) small; value = s4.0 }

abbrev pub HaveValues : Program → Type 0
HaveValues [] = ⊤
HaveValues (i ∷ items) = HasValue i × HaveValues items

constant_fits : (i : Item) → FitsItem i → FitsConst i
constant_fits (Cells x es) h = tt
constant_fits (Const x e) h = h
constant_fits (Defines f) h = tt

pub items_small : (known : Known) → KnownSmall known → (p : Program) (end : Known) → FitsProgram p → heads known p ≡ Ok end → KnownSmall end × HaveValues p
items_small known k [] end f h = (subst (λ (known : Known). KnownSmall known) (ok_same known end h) k, tt)
items_small known k (i ∷ items) end f h =
    let s = then_ok (head known i) (λ next. heads next items) end h in
    let first : ItemSmall i s.0 = item_small known k i s.0 (constant_fits i f.0) s.1 in
    let rest = items_small s.0 first.known items end f.1 s.2 in
    (rest.0, (first.value, rest.1))

pub nothing_small : KnownSmall nothing
nothing_small = record { constants = λ x z e. cc; arrays = λ x ns e. cc }
