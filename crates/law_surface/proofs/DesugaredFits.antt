-- What a good program is short for fits the grammar of the core: its parts.
use Rattle.std.specs.Prelude.{◌≡◌, ℕ, zero, suc, ◌+◌, ◌^◌, ◌≤◌, ◌⊎◌, Bool, true, false, IsTrue, ℤ, pos, negsuc, List, [], ◌∷◌, length}
use Rattle.std.specs.Prelude.{slice_index_or, Option, None, Some, refl, ⊤, if◌then◌else◌}
use Rattle.std.proofs.Common.{sym, ◌∙◌, ap, arith, inl, inr}
use Rattle.operators.specs.declared.Unary.{Unary}
use Rattle.operators.specs.declared.Unary.TheVariants.{Neg, Not as Flip}
use Rattle.operators.specs.declared.Binary.TheVariants.{Lt, Eq, Or as BitOr}
use Rattle.source.specs.declared.fault.FaultKind.TheVariants.{NoSuchName}
use Rattle.source.specs.Tree as core
use Rattle.source.specs.Tree.{Name, NameAt, NumberAt}
use Rattle.source.specs.Fits as core_fits
use Rattle.source.specs.Fits.{Small}
use Rattle.source.specs.Outside.{is_in, bare}
use Rattle.surface.specs.declared.fault.FaultKind.TheVariants.{BadConst, Core}
use Rattle.surface.specs.First.{refused}
use Rattle.surface.specs.Tree.{Count, Written, Constant, Expr, Number, Named, Bracket, Prefix, Infix, And, Or, Not, Fetch, Store, Call, If, Loop, For}
use Rattle.surface.specs.Tree.{Exprs, One, More, Body, Let, Do, When, Give, Chain, Tests, Last, Else, Turn, Before, After, Carried, Nothing, With}
use Rattle.surface.specs.Tree.{names_of, carried_names}
use Rattle.surface.specs.Fits.{level, IsLeast, is_if, count, IsSmall, IsSmallIfWritten, Fits, FitsAll, FitsBody, FitsTests, FitsTurn, FitsCarried}
use Rattle.surface.specs.Known.{Known, lookup, some_or, product, natural, Callee, Missing, OfValues, OfArrays, IsBuiltIn, Min, Max, Abs, Len, callee}
use Rattle.surface.specs.Constants.{place_of, constant, constant_or, number_or_zero, counted}
use Rattle.surface.specs.Making.{Held, Made, made, ◌>>=◌, fresh, hold, target, bound_to, inside, otherwise}
use Rattle.surface.specs.CoreForms.{infix_at, numeral, giving, both, both_true, either_of, chosen, sign_of, without_sign, row, is_other_row, some_other}
use Rattle.surface.specs.CoreForms.{checked_index, counting, carrying}
use Rattle.surface.specs.Desugar.{Setting, array_for, lengths_for, array_passed, arrays_passed, instance_name, stands_for_itself, atom, as_name}
use Rattle.surface.specs.Desugar.{constant_or_value, bound_or_four, test_with, tested, measure, first_or_zero, others_of, and_others, values_or_zero}
use Rattle.surface.specs.Desugar.{unless_passed, call_made, desugar, desugar_for, desugar_all, desugar_atoms, desugar_values, desugar_first, desugar_pair}
use Rattle.surface.specs.Desugar.{desugar_index, desugar_rows, desugar_body, desugar_tests, desugar_turn}
use Rattle.law_surface.proofs.FitMade.{LetsFit, Makes, makes_made, makes_then, makes_more, Anything, makes_fresh, makes_hold, makes_bound, next_small}
use Rattle.law_surface.proofs.FitMade.{left_small, infix_fits, after_else, makes_enclosed, makes_inside, IsIf, makes_otherwise, giving_fits, chosen_fits}
use Rattle.law_surface.proofs.FitMade.{sign_fits, without_sign_fits, row_fits, other_fits, FitsIfThere, some_other_fits, checked_fits, counting_fits}
use Rattle.law_surface.proofs.FitMade.{carrying_fits, under_fits}

-- WHAT IS KNOWN IS SMALL: constants are integers of 64 bits, and arrays have few cells.
abbrev pub IsNumeral : ℤ → Type 0
IsNumeral (pos n) = Small n
IsNumeral (negsuc n) = Small (suc n) ⊎ (suc n ≡ 2 ^ 63)

abbrev pub AllSmall : List ℕ → Type 0
AllSmall [] = ⊤
AllSmall (n ∷ ns) = Small n × AllSmall ns

pub record KnownSmall (k : Known) : Type 0 where
  pub constants : (x : Name) (z : ℤ) → lookup k.constants x ≡ Some z → IsNumeral z
  pub arrays : (x : Name) (ns : List ℕ) → lookup k.arrays x ≡ Some ns → AllSmall ns × Small (product ns)

lengths_small : (s : Setting) → KnownSmall s.known → (x : Name) → AllSmall (lengths_for s x)
lengths_small s k x = go (lookup s.known.arrays (array_for s x)) refl
  where
    go : (o : Option (List ℕ)) → lookup s.known.arrays (array_for s x) ≡ o → AllSmall (some_or [] o)
    go None e = tt
    go (Some ns) e = (k.arrays (array_for s x) ns e).0

first_small : (ns : List ℕ) → AllSmall ns → Small (first_or_zero ns)
first_small [] h = omega arith
first_small (n ∷ ns) h = h.0

others_small : (ns : List ℕ) → AllSmall ns → AllSmall (others_of ns)
others_small [] h = tt
others_small (n ∷ ns) h = h.1

each_small : (ns : List ℕ) (i : ℕ) → AllSmall ns → Small (slice_index_or ns i 0)
each_small [] i h = omega arith
each_small (n ∷ ns) zero h = h.0
each_small (n ∷ ns) (suc i) h = each_small ns i h.1

measure_small : (s : Setting) → KnownSmall s.known → (es : Exprs) → Small (measure s es)
measure_small s k (One (Named at x)) = each_small (lengths_for s x) 0 (lengths_small s k x)
measure_small s k (More (Named at x) (One d)) = each_small (lengths_for s x) (number_or_zero (constant s.known d)) (lengths_small s k x)
measure_small s k es = omega arith

natural_small : (z : ℤ) → IsNumeral z → Small (natural z)
natural_small (pos n) h = h
natural_small (negsuc n) h = omega arith

-- a count as the core has it
refused_small : (at : ℕ) (b : Bool) → Small (number_or_zero (if b then refused BadConst at else refused (Core NoSuchName) at))
refused_small at true = omega arith
refused_small at false = omega arith

pub counted_small : (known : Known) → KnownSmall known → (n : Count) → IsSmall n → Small (counted known n).number
counted_small known k (Written at n) h = h
counted_small known k (Constant at x) h = go (lookup known.constants x) refl
  where
    go : (o : Option ℤ) → lookup known.constants x ≡ o → Small (number_or_zero (constant_or known at x o))
    go (Some z) e = natural_small z (k.constants x z e)
    go None e = refused_small at (is_in x known.names)

bound_small : (known : Known) → KnownSmall known → (at : ℕ) (bound : Option Count) → IsSmallIfWritten bound → Small (bound_or_four known at bound).number
bound_small known k at None h = omega arith
bound_small known k at (Some n) h = counted_small known k n h

-- WHAT AN EXPRESSION BECOMES fits, and has the level that it had in the grammar, as far as an operator may ask for it.
abbrev pub High : Expr → core.Expr → Type 0
High e x = (m : ℕ) → m ≤ 8 → 3 + m ≤ level e → m ≤ core_fits.level x

abbrev pub IsFor : Expr → core.Expr → Type 0
IsFor e x = core_fits.Fits x × High e x × (is_if e ≡ true → IsTrue (core_fits.is_if x))

plain_for : (e : Expr) (x : core.Expr) → is_if e ≡ false → core_fits.Fits x → 8 ≤ core_fits.level x → IsFor e x
plain_for e x i h g = (h, λ m a b. omega (arith, a, g), λ j. cc)

-- as a primary is
abbrev pub IsPrimary : core.Expr → Type 0
IsPrimary x = core_fits.Fits x × (8 ≤ core_fits.level x)

numeral_fits : (at : ℕ) (z : ℤ) → IsNumeral z → IsPrimary (numeral at z)
numeral_fits at (pos n) h = (h, omega arith)
numeral_fits at (negsuc n) h = ((omega arith, h), omega arith)

name_fits : (s : Setting) → KnownSmall s.known → (at : ℕ) (x : Name) → IsPrimary (constant_or_value at x (lookup s.known.constants x))
name_fits s k at x = go (lookup s.known.constants x) refl
  where
    go : (o : Option ℤ) → lookup s.known.constants x ≡ o → IsPrimary (constant_or_value at x o)
    go (Some z) e = numeral_fits at z (k.constants x z e)
    go None e = (tt, omega arith)

makes_atom : (s : Setting) (hiding : List Name) (e : Expr) (m : ℕ → Made core.Expr) → Makes core_fits.Fits m → Makes core_fits.Fits (atom s hiding e m)
makes_atom s hiding e m h = go (stands_for_itself s hiding e)
  where
    go : (b : Bool) → Makes core_fits.Fits (if b then m else m >>= (λ x. bound_to s.prefix (place_of e) x))
    go true = h
    go false = makes_then core_fits.Fits core_fits.Fits m (λ x. bound_to s.prefix (place_of e) x) h (λ x g. makes_bound s.prefix (place_of e) x g)

makes_name : (s : Setting) (at : ℕ) (e : core.Expr) → core_fits.Fits e → Makes core_fits.Fits (as_name s at e)
makes_name s at (core.Named x_at x) h = makes_made core_fits.Fits (core.Named x_at x) tt
makes_name s at e h = makes_bound s.prefix at e h

test_fits : (at : ℕ) (ls : List Held) (p : core.Expr) → LetsFit ls → core_fits.Fits p → core_fits.Fits (test_with at ls p)
test_fits at [] p h g = g
test_fits at (l ∷ ls) p h g = (omega arith, under_fits (l ∷ ls) (core.Give (core.One p)) h g, omega arith)

makes_tested : (at : ℕ) (m : ℕ → Made core.Expr) → Makes core_fits.Fits m → Makes core_fits.Fits (tested at m)
makes_tested at m h n = (tt, test_fits at (m n).lets (m n).it (h n).0 (h n).1)

-- CALLS
abbrev pub FitsSome : Option core.Exprs → Type 0
FitsSome None = ⊤
FitsSome (Some es) = core_fits.FitsAll es

abbrev pub FitsTwo : core.Expr × core.Expr → Type 0
FitsTwo two = core_fits.Fits two.0 × core_fits.Fits two.1

or_zero_fits : (at : ℕ) (o : Option core.Exprs) → FitsSome o → core_fits.FitsAll (values_or_zero at o)
or_zero_fits at None h = omega arith
or_zero_fits at (Some es) h = h

others_fit : (e : core.Expr) (o : Option core.Exprs) → core_fits.Fits e → FitsSome o → core_fits.FitsAll (and_others e o)
others_fit e None h g = h
others_fit e (Some es) h g = (h, g)

makes_passed : (o : Option Name) (m : ℕ → Made core.Expr) (rest : ℕ → Made (Option core.Exprs)) → Makes core_fits.Fits m → Makes FitsSome rest
    → Makes FitsSome (unless_passed o m rest)
makes_passed (Some a) m rest h g = g
makes_passed None m rest h g =
    makes_then core_fits.Fits FitsSome m (λ x. rest >>= (λ xs. made (Some (and_others x xs)))) h (λ x i. makes_then FitsSome FitsSome rest (λ xs. made (Some
    (and_others x xs))) g (λ xs j. makes_made FitsSome (Some (and_others x xs)) (others_fit x xs i j)))

call_fits : (s : Setting) → KnownSmall s.known → (at : ℕ) (strict : Bool) (f : Name) (es : Exprs) (c : Callee) (all : ℕ → Made core.Exprs) (values : ℕ → Made
    (Option core.Exprs)) (first : ℕ → Made core.Expr) (pair : ℕ → Made (core.Expr × core.Expr))
    → Makes core_fits.FitsAll all → Makes FitsSome values → Makes core_fits.Fits first → Makes FitsTwo pair
    → Makes IsPrimary (call_made s at strict f es c all values first pair)
call_fits s k at strict f es Missing all values first pair h g i j =
    makes_then core_fits.FitsAll IsPrimary all (λ vs. made (core.Call at strict f vs)) h (λ vs l. makes_made IsPrimary (core.Call at strict f vs) (
      l,
      omega
          arith,
    ))
call_fits s k at strict f es (OfValues params results) all values first pair h g i j =
    makes_then core_fits.FitsAll IsPrimary all (λ vs. made (core.Call at strict f vs)) h (λ vs l. makes_made IsPrimary (core.Call at strict f vs) (
      l,
      omega
          arith,
    ))
call_fits s k at strict f es (OfArrays ranks results) all values first pair h g i j =
    let name : Name = instance_name s.instances f (arrays_passed s es) in
    makes_then FitsSome IsPrimary values (λ vs. made (core.Call at strict name (values_or_zero at vs))) g (λ vs l. makes_made IsPrimary (core.Call at strict
    name (values_or_zero at vs)) (or_zero_fits at vs l, omega arith))
call_fits s k at strict f es (IsBuiltIn Len) all values first pair h g i j = makes_made IsPrimary (core.Number at (measure s es)) (
  measure_small s k es,
  omega
      arith,
)
call_fits s k at strict f es (IsBuiltIn Abs) all values first pair h g i j =
    makes_then core_fits.Fits IsPrimary first (λ x. bound_to s.prefix at (sign_of at x) >>= (λ sign. made (without_sign at x sign))) i (λ x l. makes_then
    core_fits.Fits IsPrimary (bound_to s.prefix at (sign_of at x)) (λ sign. made (without_sign at x sign)) (makes_bound s.prefix at (sign_of at x)
    (sign_fits at x l)) (λ sign m. makes_made IsPrimary (without_sign at x sign) (without_sign_fits at x sign l m, omega arith)))
call_fits s k at strict f es (IsBuiltIn Max) all values first pair h g i j =
    makes_then FitsTwo IsPrimary pair (λ two. made (chosen at two.0 two.1 (infix_at at Lt two.0 two.1))) j (λ two l. makes_made IsPrimary (chosen at two.0
    two.1 (infix_at at Lt two.0 two.1)) (
      chosen_fits at two.0 two.1 (infix_at at Lt two.0 two.1) l.0 l.1 (infix_fits at Lt two.0 two.1 l.0 l.1),
      omega
          arith,
    ))
call_fits s k at strict f es (IsBuiltIn Min) all values first pair h g i j =
    makes_then FitsTwo IsPrimary pair (λ two. made (chosen at two.0 two.1 (infix_at at Lt two.1 two.0))) j (λ two l. makes_made IsPrimary (chosen at two.0
    two.1 (infix_at at Lt two.1 two.0)) (
      chosen_fits at two.0 two.1 (infix_at at Lt two.1 two.0) l.0 l.1 (infix_fits at Lt two.1 two.0 l.1 l.0),
      omega
          arith,
    ))

-- THE PARTS
-- The least number is none without its sign.
prefix_fits : (s : Setting) (truth : Bool) (at : ℕ) (op : Unary) (e : Expr) → IsLeast op e → Makes (IsFor (Prefix at op e)) (desugar s truth (Prefix at op e))
prefix_fits s truth at Neg (Number t n) h = makes_made (IsFor (Prefix at Neg (Number t n))) (core.Prefix at Neg (core.Number t n)) (plain_for (Prefix at Neg
    (Number t n)) (core.Prefix at Neg (core.Number t n)) refl (omega arith, inr h) (omega arith))
prefix_fits s truth at Neg (Named t x) h = absurd h
prefix_fits s truth at Neg (Bracket e) h = absurd h
prefix_fits s truth at Neg (Prefix t op e) h = absurd h
prefix_fits s truth at Neg (Infix t sign l r) h = absurd h
prefix_fits s truth at Neg (And t l r) h = absurd h
prefix_fits s truth at Neg (Or t l r) h = absurd h
prefix_fits s truth at Neg (Not t e) h = absurd h
prefix_fits s truth at Neg (Fetch t a es) h = absurd h
prefix_fits s truth at Neg (Store t a es d) h = absurd h
prefix_fits s truth at Neg (Call t strict f es) h = absurd h
prefix_fits s truth at Neg (If t p l r) h = absurd h
prefix_fits s truth at Neg (Loop t bound firsts turn) h = absurd h
prefix_fits s truth at Neg (For t bound i a b carried body) h = absurd h
prefix_fits s truth at Flip e h = absurd h

-- what fits, of what is for an expression
bare_fits : (e : Expr) (m : ℕ → Made core.Expr) → Makes (IsFor e) m → Makes core_fits.Fits m
bare_fits e m h = makes_more (IsFor e) core_fits.Fits m h (λ x g. g.0)

primary_for : (e : Expr) (m : ℕ → Made core.Expr) → is_if e ≡ false → Makes IsPrimary m → Makes (IsFor e) m
primary_for e m i h = makes_more IsPrimary (IsFor e) m h (λ x g. plain_for e x i g.0 g.1)

any_flag : (b : Bool) (m : ℕ → Made core.Body) → Makes (core_fits.FitsBody false) m → Makes (core_fits.FitsBody b) m
any_flag true m h = makes_more (core_fits.FitsBody false) (core_fits.FitsBody true) m h (λ body g. after_else body g)
any_flag false m h = h

only_after_else : (b : Bool) (m : ℕ → Made core.Body) → IsTrue b → Makes (core_fits.FitsBody true) m → Makes (core_fits.FitsBody b) m
only_after_else true m i h = h
only_after_else false m i h = cc

-- values, as many as there were
abbrev pub AsMany : Exprs → core.Exprs → Type 0
AsMany es xs = core_fits.FitsAll xs × (core_fits.count xs ≡ count es)

all_of : (es : Exprs) (m : ℕ → Made core.Exprs) → Makes (AsMany es) m → Makes core_fits.FitsAll m
all_of es m h = makes_more (AsMany es) core_fits.FitsAll m h (λ xs g. g.0)

-- a turn with the same names
abbrev pub SameTurn : Turn → core.Turn → Type 0
SameTurn turn t = core_fits.FitsTurn t × (core.names_of t ≡ names_of turn)

mutual
  fits : (s : Setting) → KnownSmall s.known → (truth : Bool) (e : Expr) → Fits e → Makes (IsFor e) (desugar s truth e)
  fits s k truth (Number at n) h = makes_made (IsFor (Number at n)) (core.Number at n) (plain_for (Number at n) (core.Number at n) refl h (omega arith))
  fits s k truth (Named at x) h =
      let v : core.Expr = constant_or_value at x (lookup s.known.constants x) in
      let g : IsPrimary v = name_fits s k at x in makes_made (IsFor (Named at x)) v (plain_for (Named at x) v refl g.0 g.1)
  fits s k truth (Bracket e) h = makes_then (IsFor e) (IsFor (Bracket e)) (desugar s truth e) (λ x. made (core.Bracket x)) (fits s k truth e h) (λ x g.
      makes_made (IsFor (Bracket e)) (core.Bracket x) (plain_for (Bracket e) (core.Bracket x) refl g.0 (omega arith)))
  fits s k truth (Prefix at op e) (l, inr h) = prefix_fits s truth at op e h
  fits s k truth (Prefix at op e) (l, inl h) = makes_then (IsFor e) (IsFor (Prefix at op e)) (desugar s false e) (λ x. made (core.Prefix at op x)) (fits s k
      false e h) (λ x g. makes_made (IsFor (Prefix at op e)) (core.Prefix at op x) (plain_for (Prefix at op e) (core.Prefix at op x) refl (
        g.1 8 (omega
            arith) l,
        inl g.0,
      ) (omega arith)))
  fits s k truth (Infix at sign l r) h = makes_then (IsFor l) (IsFor (Infix at sign l r)) (desugar s false l) (λ x. desugar s false r >>= (λ y. made
      (core.Infix at sign x y))) (fits s k false l h.0) (λ x g. makes_then (IsFor r) (IsFor (Infix at sign l r)) (desugar s false r) (λ y. made (core.Infix
      at sign x y)) (fits s k false r h.2) (λ y i. makes_made (IsFor (Infix at sign l r)) (core.Infix at sign x y) (
        (g.0, g.1 (core_fits.left_level sign) (left_small sign) h.1, i.0, i.1 (suc (core_fits.sign_level sign)) (next_small sign) (omega (arith, h.3))),
        (λ m a b. omega (arith, b)),
        (λ j. cc),
      )))
  fits s k true (And at l r) h = makes_then (IsFor l) (IsFor (And at l r)) (desugar s true l) (λ p. inside (desugar s true r) >>= (λ q. made (both_true at p
      q))) (fits s k true l h.0) (λ p g. makes_then (core_fits.FitsBody false) (IsFor (And at l r)) (inside (desugar s true r)) (λ q. made (both_true at p
      q)) (makes_inside (desugar s true r) (bare_fits r (desugar s true r) (fits s k true r h.2))) (λ q i. makes_made (IsFor (And at l r)) (both_true at p q)
      (plain_for (And at l r) (both_true at p q) refl (g.0, i, omega arith) (omega arith))))
  fits s k false (And at l r) h = makes_then core_fits.Fits (IsFor (And at l r)) (atom s [] l (desugar s false l)) (λ p. inside (desugar s false r) >>= (λ q.
      made (both at p q))) (makes_atom s [] l (desugar s false l) (bare_fits l (desugar s false l) (fits s k false l h.0))) (λ p g. makes_then
      (core_fits.FitsBody false) (IsFor (And at l r)) (inside (desugar s false r)) (λ q. made (both at p q)) (makes_inside (desugar s false r) (bare_fits r
      (desugar s false r) (fits s k false r h.2))) (λ q i. makes_made (IsFor (And at l r)) (both at p q) (plain_for (And at l r) (both at p q) refl (g, i, g)
      (omega arith))))
  fits s k truth (Or at l r) h =
      let right : core.Expr → ℕ → Made core.Expr = λ p. desugar s false r >>= (λ y. made (infix_at at BitOr p y)) in
      makes_then core_fits.Fits (IsFor (Or at l r)) (atom s [] l (desugar s false l)) (λ p. inside (right p) >>= (λ q. made (either_of at p q))) (makes_atom s
      [] l (desugar s false l) (bare_fits l (desugar s false l) (fits s k false l h.0))) (λ p g. makes_then (core_fits.FitsBody false) (IsFor (Or at l r))
      (inside (right p)) (λ q. made (either_of at p q)) (makes_inside (right p) (makes_then (IsFor r) core_fits.Fits (desugar s false r) (λ y. made
      (infix_at at BitOr p y)) (fits s k false r h.2) (λ y j. makes_made core_fits.Fits (infix_at at BitOr p y) (infix_fits at BitOr p y g j.0)))) (λ q i.
      makes_made (IsFor (Or at l r)) (either_of at p q) (plain_for (Or at l r) (either_of at p q) refl (g, g, after_else q i) (omega arith))))
  fits s k truth (Not at e) h = makes_then (IsFor e) (IsFor (Not at e)) (desugar s false e) (λ x. made (infix_at at Eq x (core.Number at 0))) (fits s k false
      e h.0) (λ x g. makes_made (IsFor (Not at e)) (infix_at at Eq x (core.Number at 0)) (
        infix_fits at Eq x (core.Number at 0) g.0 (omega arith),
        (λ m a b.
            omega (arith, b)),
        (λ j. cc),
      ))
  fits s k truth (Fetch at a es) h = makes_then core_fits.Fits (IsFor (Fetch at a es)) (desugar_index s at (lengths_for s a) es) (λ i. made (core.Fetch at
      (array_for s a) i)) (index_fits s k at (lengths_for s a) es (lengths_small s k a) h) (λ i g. makes_made (IsFor (Fetch at a es)) (core.Fetch at
      (array_for s a) i) (plain_for (Fetch at a es) (core.Fetch at (array_for s a) i) refl g (omega arith)))
  fits s k truth (Store at a es d) h = makes_then core_fits.Fits (IsFor (Store at a es d)) (desugar_index s at (lengths_for s a) es) (λ i. desugar s false d
      >>= (λ x. made (core.Store at (array_for s a) i x))) (index_fits s k at (lengths_for s a) es (lengths_small s k a) h.0) (λ i g. makes_then (IsFor d)
      (IsFor (Store at a es d)) (desugar s false d) (λ x. made (core.Store at (array_for s a) i x)) (fits s k false d h.1) (λ x j. makes_made (IsFor (Store at
      a es d)) (core.Store at (array_for s a) i x) ((g, j.0), (λ m l b. omega (arith, b)), (λ e. cc))))
  fits s k truth (Call at strict f es) h = primary_for (Call at strict f es) (desugar s truth (Call at strict f es)) refl (call_fits s k at strict f es
      (callee s.known strict f) (λ n. desugar_all s es n) (λ n. desugar_values s es n) (λ n. desugar_first s es n) (λ n. desugar_pair s at es n) (all_of es
      (desugar_all s es) (all_fit s k es h)) (values_fit s k es h) (first_fits s k es h) (pair_fits s k at es h))
  fits s k truth (If at p l r) h = makes_then (IsFor p) (IsFor (If at p l r)) (desugar s false p) (λ q. desugar_body s l >>= (λ left. desugar_body s r >>= (λ
      right. made (core.If at q left right)))) (fits s k false p h.0) (λ q g. makes_then (core_fits.FitsBody false) (IsFor (If at p l r)) (desugar_body s l)
      (λ left. desugar_body s r >>= (λ right. made (core.If at q left right))) (body_fits s k false l h.1) (λ left i. makes_then (core_fits.FitsBody true)
      (IsFor (If at p l r)) (desugar_body s r) (λ right. made (core.If at q left right)) (body_fits s k true r h.2) (λ right j. makes_made (IsFor (If at p l
      r)) (core.If at q left right) ((g.0, i, j), (λ m a b. omega (arith, a)), (λ e. refl)))))
  fits s k truth (Loop at bound firsts turn) h = makes_then (AsMany firsts) (IsFor (Loop at bound firsts turn)) (desugar_all s firsts) (λ vs. desugar_turn s
      turn >>= (λ t. made (core.Loop at (counted s.known bound) vs t))) (all_fit s k firsts h.1) (λ vs g. makes_then (SameTurn turn) (IsFor (Loop at bound
      firsts turn)) (desugar_turn s turn) (λ t. made (core.Loop at (counted s.known bound) vs t)) (turn_fits s k turn h.3) (λ t i. makes_made (IsFor (Loop at
      bound firsts turn)) (core.Loop at (counted s.known bound) vs t) (plain_for (Loop at bound firsts turn) (core.Loop at (counted s.known bound) vs t) refl
      (counted_small s.known k bound h.0, g.0, g.1 ∙ h.2 ∙ ap (λ (xs : List NameAt). length xs) (sym i.1), i.0) (omega arith))))
  fits s k truth (For at bound i first end carried body) h =
      let b0 : NumberAt = bound_or_four s.known at bound in
      let names : List Name = i.name ∷ bare (carried_names carried) in
      primary_for (For at bound i first end carried body) (desugar s truth (For at bound i first end carried body)) refl
      (makes_then core_fits.Fits IsPrimary (atom s [] first (desugar s false first)) (λ begin. as_name s (place_of first) begin >>= (λ a. atom s names end
      (desugar s false end) >>= (λ b. desugar_for s at b0 i a b carried (desugar_body s body)))) (makes_atom s [] first (desugar s false first) (bare_fits
      first (desugar s false first) (fits s k false first h.1))) (λ begin g. makes_then core_fits.Fits IsPrimary (as_name s (place_of first) begin) (λ a.
      atom s names end (desugar s false end) >>= (λ b. desugar_for s at b0 i a b carried (desugar_body s body))) (makes_name s (place_of first) begin g) (λ
      a j. makes_then core_fits.Fits IsPrimary (atom s names end (desugar s false end)) (λ b. desugar_for s at b0 i a b carried (desugar_body s body))
      (makes_atom s names end (desugar s false end) (bare_fits end (desugar s false end) (fits s k false end h.2))) (λ b l. for_fits s k at b0 i a b carried
      (desugar_body s body) (bound_small s.known k at bound h.0) j l h.3 (body_fits s k false body h.4)))))

  for_fits : (s : Setting) → KnownSmall s.known → (at : ℕ) (bound : NumberAt) (i : NameAt) (a b : core.Expr) (carried : Carried) (body : ℕ → Made core.Body)
      → Small bound.number → core_fits.Fits a → core_fits.Fits b → FitsCarried carried → Makes (core_fits.FitsBody false) body
      → Makes IsPrimary (desugar_for s at bound i a b carried body)
  for_fits s k at bound i a b Nothing body m h g c j = makes_then Anything IsPrimary (fresh s.prefix) (λ next. body >>= (λ turn. made (counting at bound i a b
      next turn))) (makes_fresh s.prefix) (λ next t. makes_then (core_fits.FitsBody false) IsPrimary body (λ turn. made (counting at bound i a b next turn)) j
      (λ turn l. makes_made IsPrimary (counting at bound i a b next turn) (counting_fits at bound i a b next turn m h g l, omega arith)))
  for_fits s k at bound i a b (With xs firsts) body m h g c j = makes_then (AsMany firsts) IsPrimary (desugar_atoms s firsts) (λ cs. fresh s.prefix >>= (λ
      next. body >>= (λ turn. made (carrying at bound i a b xs cs next turn)))) (atoms_fit s k firsts c.0) (λ cs f. makes_then Anything IsPrimary (fresh
      s.prefix) (λ next. body >>= (λ turn. made (carrying at bound i a b xs cs next turn))) (makes_fresh s.prefix) (λ next t. makes_then (core_fits.FitsBody
      false) IsPrimary body (λ turn. made (carrying at bound i a b xs cs next turn)) j (λ turn l. makes_made IsPrimary (carrying at bound i a b xs cs next
      turn) (carrying_fits at bound i a b xs cs next turn m h g f.0 (f.1 ∙ c.1) l, omega arith))))

  all_fit : (s : Setting) → KnownSmall s.known → (es : Exprs) → FitsAll es → Makes (AsMany es) (desugar_all s es)
  all_fit s k (One e) h = makes_then (IsFor e) (AsMany (One e)) (desugar s false e) (λ x. made (core.One x)) (fits s k false e h) (λ x g. makes_made (AsMany
      (One e)) (core.One x) (g.0, refl))
  all_fit s k (More e es) h = makes_then (IsFor e) (AsMany (More e es)) (desugar s false e) (λ x. desugar_all s es >>= (λ xs. made (core.More x xs))) (fits s
      k false e h.0) (λ x g. makes_then (AsMany es) (AsMany (More e es)) (desugar_all s es) (λ xs. made (core.More x xs)) (all_fit s k es h.1) (λ xs i.
      makes_made (AsMany (More e es)) (core.More x xs) ((g.0, i.0), ap (λ (n : ℕ). suc n) i.1)))

  atoms_fit : (s : Setting) → KnownSmall s.known → (es : Exprs) → FitsAll es → Makes (AsMany es) (desugar_atoms s es)
  atoms_fit s k (One e) h = makes_then core_fits.Fits (AsMany (One e)) (atom s [] e (desugar s false e)) (λ x. made (core.One x)) (makes_atom s [] e (desugar
      s false e) (bare_fits e (desugar s false e) (fits s k false e h))) (λ x g. makes_made (AsMany (One e)) (core.One x) (g, refl))
  atoms_fit s k (More e es) h = makes_then core_fits.Fits (AsMany (More e es)) (atom s [] e (desugar s false e)) (λ x. desugar_atoms s es >>= (λ xs. made
      (core.More x xs))) (makes_atom s [] e (desugar s false e) (bare_fits e (desugar s false e) (fits s k false e h.0))) (λ x g. makes_then (AsMany es)
      (AsMany (More e es)) (desugar_atoms s es) (λ xs. made (core.More x xs)) (atoms_fit s k es h.1) (λ xs i. makes_made (AsMany (More e es)) (core.More x xs)
      ((g, i.0), ap (λ (n : ℕ). suc n) i.1)))

  values_fit : (s : Setting) → KnownSmall s.known → (es : Exprs) → FitsAll es → Makes FitsSome (desugar_values s es)
  values_fit s k (One e) h = makes_passed (array_passed s e) (λ n. desugar s false e n) (made None) (bare_fits e (desugar s false e) (fits s k false e h))
      (makes_made FitsSome None tt)
  values_fit s k (More e es) h = makes_passed (array_passed s e) (λ n. desugar s false e n) (desugar_values s es) (bare_fits e (desugar s false e) (fits s k
      false e h.0)) (values_fit s k es h.1)

  first_fits : (s : Setting) → KnownSmall s.known → (es : Exprs) → FitsAll es → Makes core_fits.Fits (desugar_first s es)
  first_fits s k (One e) h = makes_atom s [] e (desugar s false e) (bare_fits e (desugar s false e) (fits s k false e h))
  first_fits s k (More e es) h = makes_atom s [] e (desugar s false e) (bare_fits e (desugar s false e) (fits s k false e h.0))

  pair_fits : (s : Setting) → KnownSmall s.known → (at : ℕ) (es : Exprs) → FitsAll es → Makes FitsTwo (desugar_pair s at es)
  pair_fits s k at (One e) h = makes_then (IsFor e) FitsTwo (desugar s false e) (λ x. fresh s.prefix >>= (λ a. fresh s.prefix >>= (λ b. hold at (target at a ∷
      target at b ∷ []) (core.One x) >>= (λ held. made (core.Named at a, core.Named at b))))) (fits s k false e h) (λ x g. makes_then Anything FitsTwo (fresh
      s.prefix) (λ a. fresh s.prefix >>= (λ b. hold at (target at a ∷ target at b ∷ []) (core.One x) >>= (λ held. made (core.Named at a, core.Named at b))))
      (makes_fresh s.prefix) (λ a t. makes_then Anything FitsTwo (fresh s.prefix) (λ b. hold at (target at a ∷ target at b ∷ []) (core.One x) >>= (λ held.
      made (core.Named at a, core.Named at b))) (makes_fresh s.prefix) (λ b u. makes_then Anything FitsTwo (hold at (target at a ∷ target at b ∷ []) (core.One
      x)) (λ held. made (core.Named at a, core.Named at b)) (makes_hold at (target at a ∷ target at b ∷ []) (core.One x) (omega arith) g.0) (λ held v.
      makes_made FitsTwo (core.Named at a, core.Named at b) (tt, tt)))))
  pair_fits s k at (More e es) h = makes_then core_fits.Fits FitsTwo (atom s [] e (desugar s false e)) (λ x. desugar_first s es >>= (λ y. made (x, y)))
      (makes_atom s [] e (desugar s false e) (bare_fits e (desugar s false e) (fits s k false e h.0))) (λ x g. makes_then core_fits.Fits FitsTwo
      (desugar_first s es) (λ y. made (x, y)) (first_fits s k es h.1) (λ y i. makes_made FitsTwo (x, y) (g, i)))

  index_fits : (s : Setting) → KnownSmall s.known → (at : ℕ) (lengths : List ℕ) (es : Exprs) → AllSmall lengths → FitsAll es
      → Makes core_fits.Fits (desugar_index s at lengths es)
  index_fits s k at lengths (One e) a h = bare_fits e (desugar s false e) (fits s k false e h)
  index_fits s k at lengths (More e es) a h = makes_then core_fits.Fits core_fits.Fits (atom s [] e (desugar s false e)) (λ i. desugar_rows s at (others_of
      lengths) i None es) (makes_atom s [] e (desugar s false e) (bare_fits e (desugar s false e) (fits s k false e h.0))) (λ i g. rows_fit s k at (others_of
      lengths) i None es (others_small lengths a) g tt h.1)

  rows_fit : (s : Setting) → KnownSmall s.known → (at : ℕ) (lengths : List ℕ) (i : core.Expr) (checks : Option core.Expr) (es : Exprs) → AllSmall lengths
      → core_fits.Fits i → FitsIfThere checks → FitsAll es → Makes core_fits.Fits (desugar_rows s at lengths i checks es)
  rows_fit s k at lengths i checks (One e) a h c g = makes_then core_fits.Fits core_fits.Fits (bound_to s.prefix at (core.Number at (first_or_zero lengths)))
      (λ m. desugar s false e >>= (λ j. bound_to s.prefix at (row at i m j) >>= (λ x. made (checked_index at x (some_other at (is_other_row at x m i)
      checks))))) (makes_bound s.prefix at (core.Number at (first_or_zero lengths)) (first_small lengths a)) (λ m b. makes_then (IsFor e) core_fits.Fits
      (desugar s false e) (λ j. bound_to s.prefix at (row at i m j) >>= (λ x. made (checked_index at x (some_other at (is_other_row at x m i) checks)))) (fits
      s k false e g) (λ j d. makes_then core_fits.Fits core_fits.Fits (bound_to s.prefix at (row at i m j)) (λ x. made (checked_index at x (some_other at
      (is_other_row at x m i) checks))) (makes_bound s.prefix at (row at i m j) (row_fits at i m j h b d.0)) (λ x l. makes_made core_fits.Fits (checked_index
      at x (some_other at (is_other_row at x m i) checks)) (checked_fits at x (some_other at (is_other_row at x m i) checks) l (some_other_fits at
      (is_other_row at x m i) checks (other_fits at x m i l b h) c)))))
  rows_fit s k at lengths i checks (More e es) a h c g = makes_then core_fits.Fits core_fits.Fits (bound_to s.prefix at (core.Number at (first_or_zero
      lengths))) (λ m. desugar s false e >>= (λ j. bound_to s.prefix at (row at i m j) >>= (λ x. desugar_rows s at (others_of lengths) x (Some (some_other at
      (is_other_row at x m i) checks)) es))) (makes_bound s.prefix at (core.Number at (first_or_zero lengths)) (first_small lengths a)) (λ m b. makes_then
      (IsFor e) core_fits.Fits (desugar s false e) (λ j. bound_to s.prefix at (row at i m j) >>= (λ x. desugar_rows s at (others_of lengths) x (Some
      (some_other at (is_other_row at x m i) checks)) es)) (fits s k false e g.0) (λ j d. makes_then core_fits.Fits core_fits.Fits (bound_to s.prefix at (row
      at i m j)) (λ x. desugar_rows s at (others_of lengths) x (Some (some_other at (is_other_row at x m i) checks)) es) (makes_bound s.prefix at (row at i m
      j) (row_fits at i m j h b d.0)) (λ x l. rows_fit s k at (others_of lengths) x (Some (some_other at (is_other_row at x m i) checks)) es (others_small
      lengths a) l (some_other_fits at (is_other_row at x m i) checks (other_fits at x m i l b h) c) g.1)))

  pub body_fits : (s : Setting) → KnownSmall s.known → (b : Bool) (body : Body) → FitsBody b body → Makes (core_fits.FitsBody b) (desugar_body s body)
  body_fits s k b (Let at targets es rest) h = any_flag b (desugar_body s (Let at targets es rest)) (makes_enclosed (desugar_all s es >>= (λ vs. desugar_body
      s rest >>= (λ body. made (core.Let at targets vs body)))) (makes_then core_fits.FitsAll (core_fits.FitsBody false) (desugar_all s es) (λ vs.
      desugar_body s rest >>= (λ body. made (core.Let at targets vs body))) (all_of es (desugar_all s es) (all_fit s k es h.1)) (λ vs g. makes_then
      (core_fits.FitsBody false) (core_fits.FitsBody false) (desugar_body s rest) (λ body. made (core.Let at targets vs body)) (body_fits s k false rest h.2)
      (λ body i. makes_made (core_fits.FitsBody false) (core.Let at targets vs body) (h.0, g, i)))))
  body_fits s k b (Do es rest) h = any_flag b (desugar_body s (Do es rest)) (makes_enclosed (desugar_all s es >>= (λ vs. desugar_body s rest >>= (λ body. made
      (core.Do vs body)))) (makes_then core_fits.FitsAll (core_fits.FitsBody false) (desugar_all s es) (λ vs. desugar_body s rest >>= (λ body. made (core.Do
      vs body))) (all_of es (desugar_all s es) (all_fit s k es h.0)) (λ vs g. makes_then (core_fits.FitsBody false) (core_fits.FitsBody false) (desugar_body s
      rest) (λ body. made (core.Do vs body)) (body_fits s k false rest h.1) (λ body i. makes_made (core_fits.FitsBody false) (core.Do vs body) (g, i)))))
  body_fits s k b (When tests rest) h = any_flag b (desugar_body s (When tests rest)) (makes_enclosed (desugar_tests s tests >>= (λ e. desugar_body s rest >>=
      (λ body. made (core.Do (core.One e) body)))) (makes_then IsIf (core_fits.FitsBody false) (desugar_tests s tests) (λ e. desugar_body s rest >>= (λ body.
      made (core.Do (core.One e) body))) (tests_fit s k tests h.0) (λ e g. makes_then (core_fits.FitsBody false) (core_fits.FitsBody false) (desugar_body s
      rest) (λ body. made (core.Do (core.One e) body)) (body_fits s k false rest h.1) (λ body i. makes_made (core_fits.FitsBody false) (core.Do (core.One e)
      body) (g.1, i)))))
  body_fits s k b (Give es) h = any_flag b (desugar_body s (Give es)) (makes_enclosed (desugar_all s es >>= (λ vs. made (core.Give vs))) (makes_then
      core_fits.FitsAll (core_fits.FitsBody false) (desugar_all s es) (λ vs. made (core.Give vs)) (all_of es (desugar_all s es) (all_fit s k es h)) (λ vs g.
      makes_made (core_fits.FitsBody false) (core.Give vs) g)))
  body_fits s k b (Chain e) h = only_after_else b (desugar_body s (Chain e)) h.0 (makes_otherwise (desugar s false e) (makes_more (IsFor e) IsIf (desugar s
      false e) (fits s k false e h.2) (λ x g. (g.2 h.1, g.0))))

  tests_fit : (s : Setting) → KnownSmall s.known → (tests : Tests) → FitsTests tests → Makes IsIf (desugar_tests s tests)
  tests_fit s k (Last at p arm) h = makes_then core_fits.Fits IsIf (atom s [] p (desugar s false p)) (λ q. desugar_body s arm >>= (λ left. made (core.If at q
      (giving (core.One q) left) (core.Give (core.One q))))) (makes_atom s [] p (desugar s false p) (bare_fits p (desugar s false p) (fits s k false p h.0)))
      (λ q g. makes_then (core_fits.FitsBody false) IsIf (desugar_body s arm) (λ left. made (core.If at q (giving (core.One q) left) (core.Give (core.One
      q)))) (body_fits s k false arm h.1) (λ left i. makes_made IsIf (core.If at q (giving (core.One q) left) (core.Give (core.One q))) (
        refl,
        (
          g,
          giving_fits
              (core.One q) left g i,
          g,
        ),
      )))
  tests_fit s k (Else at p arm more) h = makes_then core_fits.Fits IsIf (atom s [] p (desugar s false p)) (λ q. desugar_body s arm >>= (λ left. otherwise
      (desugar_tests s more) >>= (λ right. made (core.If at q (giving (core.One q) left) right)))) (makes_atom s [] p (desugar s false p) (bare_fits p
      (desugar s false p) (fits s k false p h.0))) (λ q g. makes_then (core_fits.FitsBody false) IsIf (desugar_body s arm) (λ left. otherwise (desugar_tests s
      more) >>= (λ right. made (core.If at q (giving (core.One q) left) right))) (body_fits s k false arm h.1) (λ left i. makes_then (core_fits.FitsBody true)
      IsIf (otherwise (desugar_tests s more)) (λ right. made (core.If at q (giving (core.One q) left) right)) (makes_otherwise (desugar_tests s more)
      (tests_fit s k more h.2)) (λ right j. makes_made IsIf (core.If at q (giving (core.One q) left) right) (
        refl,
        (
          g,
          giving_fits (core.One q) left g i,
          j,
        ),
      ))))

  turn_fits : (s : Setting) → KnownSmall s.known → (turn : Turn) → FitsTurn turn → Makes (SameTurn turn) (desugar_turn s turn)
  turn_fits s k (Before xs p body) h = makes_then core_fits.Fits (SameTurn (Before xs p body)) (tested (place_of p) (desugar s true p)) (λ q. desugar_body s
      body >>= (λ b. made (core.Before xs q b))) (makes_tested (place_of p) (desugar s true p) (bare_fits p (desugar s true p) (fits s k true p h.0))) (λ q g.
      makes_then (core_fits.FitsBody false) (SameTurn (Before xs p body)) (desugar_body s body) (λ b. made (core.Before xs q b)) (body_fits s k false body
      h.1) (λ b i. makes_made (SameTurn (Before xs p body)) (core.Before xs q b) ((g, i), refl)))
  turn_fits s k (After xs body p) h = makes_then (core_fits.FitsBody false) (SameTurn (After xs body p)) (desugar_body s body) (λ b. tested (place_of p)
      (desugar s true p) >>= (λ q. made (core.After xs b q))) (body_fits s k false body h.0) (λ b g. makes_then core_fits.Fits (SameTurn (After xs body p))
      (tested (place_of p) (desugar s true p)) (λ q. made (core.After xs b q)) (makes_tested (place_of p) (desugar s true p) (bare_fits p (desugar s true p)
      (fits s k true p h.1))) (λ q i. makes_made (SameTurn (After xs body p)) (core.After xs b q) ((g, i), refl)))
