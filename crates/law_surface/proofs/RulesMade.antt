-- What is made of parts keeps the rules of the core where the parts do.
use Rattle.std.specs.Prelude.{◌≡◌, ℕ, suc, ◌+◌, ◌==◌, ◌&&◌, ◌||◌, not, nat_lt, Bool, true, false, List, [], ◌∷◌, ◌++◌, map, length}
use Rattle.std.specs.Prelude.{Option, None, Some, Result, Ok, ⊤, refl, if◌then◌else◌}
use Rattle.std.proofs.Common.{sym, ◌∙◌, ap, subst, arith}
use Rattle.lemmas.proofs.Bools.{equal_itself}
use Rattle.lemmas.proofs.Permutations.{Each}
use Rattle.operators.specs.declared.Binary.{Binary}
use Rattle.operators.specs.declared.Binary.TheVariants.{Add, Sub, Mul, Div, And, Or, Xor, Shr, Ne}
use Rattle.operators.specs.declared.Unary.{Unary}
use Rattle.operators.specs.declared.Unary.TheVariants.{Neg}
use Rattle.source.specs.declared.word.InfixSign.{InfixSign}
use Rattle.source.specs.declared.word.InfixSign.TheVariants.{Direct}
use Rattle.semantics.specs.Graph.{same_name}
use Rattle.semantics.proofs.Lines.{same_name_itself}
use Rattle.source.specs.Tree.{Name, NameAt, NumberAt, Target, Bind, Drop, Expr, Number, Named, Bracket, Prefix, Infix, If, Exprs, One, More, Body, Let, Do}
use Rattle.source.specs.Tree.{Give, Chain, Program}
use Rattle.source.specs.Fits.{level, left_level, sign_level}
use Rattle.source.specs.Outside.{is_in, bound_by}
use Rattle.source.specs.Rules.{item_names, new_targets, values, list_values, body_values}
use Rattle.source.proofs.Kept.{in_let, in_do}
use Rattle.surface.specs.Making.{Held, Made, made, behind, ◌>>=◌, fresh, hold, target, hidden, bound_to, under, enclosed, inside, chained, otherwise}
use Rattle.surface.specs.CoreForms.{at_level, infix_at, negative, named_all, giving, giving_first, test_under, chosen, sign_of, without_sign, row}
use Rattle.surface.specs.CoreForms.{is_other_row, some_other, checked_index}
use Rattle.surface.specs.Desugar.{test_with, tested}
use Rattle.law_surface.proofs.WiderScope.{Includes, behind_more, wide, list_wide, body_wide}

-- LETS that keep the rules, in order, and the scope after them
abbrev pub GoodLets : Program → List Name → List Held → Type 0
GoodLets q scope [] = ⊤
GoodLets q scope (l ∷ ls) = (new_targets q [] l.targets ≡ Ok tt) × (list_values q scope l.values ≡ Ok (length l.targets)) × GoodLets q (bound_by l.targets ++
    scope) ls

abbrev pub scope_after : List Name → List Held → List Name
scope_after scope [] = scope
scope_after scope (l ∷ ls) = scope_after (bound_by l.targets ++ scope) ls

lets_join : (q : Program) (scope : List Name) (ls ms : List Held) → GoodLets q scope ls → GoodLets q (scope_after scope ls) ms → GoodLets q scope (ls ++ ms)
lets_join q scope [] ms h g = g
lets_join q scope (l ∷ ls) ms h g = (h.0, h.1, lets_join q (bound_by l.targets ++ scope) ls ms h.2 g)

scope_join : (scope : List Name) (ls ms : List Held) → scope_after scope (ls ++ ms) ≡ scope_after (scope_after scope ls) ms
scope_join scope [] ms = refl
scope_join scope (l ∷ ls) ms = scope_join (bound_by l.targets ++ scope) ls ms

pub after_includes : (scope : List Name) (ls : List Held) → Includes scope (scope_after scope ls)
after_includes scope [] x e = e
after_includes scope (l ∷ ls) x e = after_includes (bound_by l.targets ++ scope) ls x (behind_more (bound_by l.targets) scope x e)

-- WHAT IS MADE HAS A PROPERTY in the scope after its lets, which keep the rules.
abbrev pub MakesIn : Program → List Name → {A : Type 0} → (List Name → A → Type 0) → (ℕ → Made A) → Type 0
MakesIn q scope P m = (n : ℕ) → GoodLets q scope (m n).lets × P (scope_after scope (m n).lets) (m n).it

pub in_made : {A : Type 0} (q : Program) (scope : List Name) (P : List Name → A → Type 0) (x : A) → P scope x → MakesIn q scope P (made x)
in_made q scope P x h n = (tt, h)

pub in_then : {A B : Type 0} (q : Program) (scope : List Name) (P : List Name → A → Type 0) (Q : List Name → B → Type 0) (m : ℕ → Made A) (f : A → ℕ → Made
    B) → MakesIn q scope P m → ((wider : List Name) → Includes scope wider → (x : A) → P wider x → MakesIn q wider Q (f x)) → MakesIn q scope Q (m >>= f)
in_then q scope P Q m f h g n =
    let lets : List Held = (m n).lets in
    let more : List Held = (f (m n).it (m n).given).lets in
    let next = g (scope_after scope lets) (after_includes scope lets) (m n).it (h n).1 (m n).given in (
      lets_join q scope lets more (h n).0 next.0,
      subst (λ (s : List Name). Q s (f (m n).it (m n).given).it) (sym (scope_join scope lets more)) next.1,
    )

-- so many values, in a scope
abbrev pub Has : Program → ℕ → List Name → Expr → Type 0
Has q n scope e = values q scope e ≡ Ok n

abbrev pub HasAll : Program → ℕ → List Name → Exprs → Type 0
HasAll q n scope es = list_values q scope es ≡ Ok n

abbrev pub HasBody : Program → ℕ → List Name → Body → Type 0
HasBody q n scope body = body_values q scope body ≡ Ok n

-- of what has no lets, in no scope
abbrev pub Closed : {A : Type 0} → (A → Type 0) → (ℕ → Made A) → Type 0
Closed P m = (n : ℕ) → ((m n).lets ≡ []) × P (m n).it

pub then_closed : {A B : Type 0} (q : Program) (scope : List Name) (P : A → Type 0) (Q : List Name → B → Type 0) (m : ℕ → Made A) (f : A → ℕ → Made B)
    → Closed P m → ((x : A) → P x → MakesIn q scope Q (f x)) → MakesIn q scope Q (m >>= f)
then_closed {B = B} q scope P Q m f h g n =
    let after : Made B = f (m n).it (m n).given in
    subst (λ (ls : List Held). GoodLets q scope (ls ++ after.lets) × Q (scope_after scope (ls ++ after.lets)) after.it) (sym (h n).0) (g (m n).it (h n).1 (m n).given)

pub closed_then : {A B : Type 0} (P : A → Type 0) (Q : B → Type 0) (m : ℕ → Made A) (f : A → ℕ → Made B) → Closed P m → ((x : A) → P x → Closed Q (f x))
    → Closed Q (m >>= f)
closed_then {B = B} P Q m f h g n =
    let after : Made B = f (m n).it (m n).given in
    let next = g (m n).it (h n).1 (m n).given in
    (ap (λ (ls : List Held). ls ++ after.lets) (h n).0 ∙ next.0, next.1)

pub closed_in : {A : Type 0} (q : Program) (scope : List Name) (P : A → Type 0) (m : ℕ → Made A) → Closed P m → MakesIn q scope (λ s x. P x) m
closed_in q scope P m h n = (subst (λ (ls : List Held). GoodLets q scope ls) (sym (h n).0) tt, (h n).1)

pub then_fresh : {B : Type 0} (q : Program) (scope : List Name) (Q : List Name → B → Type 0) (prefix : Name) (f : Name → ℕ → Made B)
    → ((k : ℕ) → MakesIn q scope Q (f (hidden prefix k))) → MakesIn q scope Q (fresh prefix >>= f)
then_fresh q scope Q prefix f h n = h n (n + 1)

-- HIDDEN NAMES are no items.
abbrev pub NoItem : Program → Name → Type 0
NoItem q x = is_in x (item_names q) ≡ false

pub new_hidden : (q : Program) (at : ℕ) (x : Name) → NoItem q x → new_targets q [] (target at x ∷ []) ≡ Ok tt
new_hidden q at x h = rw h refl

pub in_bound : (q : Program) (scope : List Name) (prefix : Name) (at : ℕ) (e : Expr) → ((n : ℕ) → NoItem q (hidden prefix n)) → Has q 1 scope e → MakesIn q
    scope (Has q 1) (bound_to prefix at e)
in_bound q scope prefix at e none h n = (
  (new_hidden q at (hidden prefix n) (none n), h, tt),
  rw (same_name_itself (hidden prefix n)) refl,
)

-- BODIES
under_has : (q : Program) (n : ℕ) (scope : List Name) (ls : List Held) (body : Body) → GoodLets q scope ls → HasBody q n (scope_after scope ls) body → HasBody
    q n scope (under ls body)
under_has q n scope [] body h g = g
under_has q n scope (l ∷ ls) body h g = rw h.0 (rw h.1 (rw (equal_itself (length l.targets)) (under_has q n (bound_by l.targets ++ scope) ls body h.2 g)))

pub closed_enclosed : (q : Program) (n : ℕ) (scope : List Name) (m : ℕ → Made Body) → MakesIn q scope (HasBody q n) m → Closed (HasBody q n scope) (enclosed m)
closed_enclosed q n scope m h k = (refl, under_has q n scope (m k).lets (m k).it (h k).0 (h k).1)

pub closed_inside : (q : Program) (n : ℕ) (scope : List Name) (m : ℕ → Made Expr) → MakesIn q scope (Has q n) m → Closed (HasBody q n scope) (inside m)
closed_inside q n scope m h = closed_enclosed q n scope (m >>= (λ e. made (Give (One e)))) (in_then q scope (Has q n) (HasBody q n) m (λ e. made (Give (One
    e))) h (λ wider w e g. in_made q wider (HasBody q n) (Give (One e)) g))

chained_has : (q : Program) (n : ℕ) (scope : List Name) (ls : List Held) (e : Expr) → GoodLets q scope ls → Has q n (scope_after scope ls) e → HasBody q n
    scope (chained ls e)
chained_has q n scope [] e h g = g
chained_has q n scope (l ∷ ls) e h g = under_has q n scope (l ∷ ls) (Give (One e)) h g

pub closed_otherwise : (q : Program) (n : ℕ) (scope : List Name) (m : ℕ → Made Expr) → MakesIn q scope (Has q n) m → Closed (HasBody q n scope) (otherwise m)
closed_otherwise q n scope m h k = (refl, chained_has q n scope (m k).lets (m k).it (h k).0 (h k).1)

-- PARTS
pub name_has : (q : Program) (scope : List Name) (at : ℕ) (x : Name) → is_in x scope ≡ true → Has q 1 scope (Named at x)
name_has q scope at x h = rw h refl

pub infix_has : (q : Program) (scope : List Name) (at : ℕ) (sign : InfixSign) (l r : Expr) → Has q 1 scope l → Has q 1 scope r → Has q 1 scope (Infix at sign l r)
infix_has q scope at sign l r h g = rw h (rw g refl)

pub prefix_has : (q : Program) (scope : List Name) (at : ℕ) (op : Unary) (e : Expr) → Has q 1 scope e → Has q 1 scope (Prefix at op e)
prefix_has q scope at op e h = rw h refl

pub if_has : (q : Program) (n : ℕ) (scope : List Name) (at : ℕ) (p : Expr) (l r : Body) → Has q 1 scope p → HasBody q n scope l → HasBody q n scope r
    → Has q n scope (If at p l r)
if_has q n scope at p l r h g i = rw h (rw g (rw i (rw (equal_itself n) refl)))

pub more_has : (q : Program) (n m : ℕ) (scope : List Name) (e : Expr) (es : Exprs) → Has q n scope e → HasAll q m scope es → HasAll q (n + m) scope (More e es)
more_has q n m scope e es h g = rw h (rw g refl)

test_has : (q : Program) (scope : List Name) (at : ℕ) (ls : List Held) (p : Expr) → GoodLets q scope ls → Has q 1 (scope_after scope ls) p → Has q 1 scope
    (test_with at ls p)
test_has q scope at [] p h g = g
test_has q scope at (l ∷ ls) p h g = if_has q 1 scope at (Number at 1) (under (l ∷ ls) (Give (One p))) (Give (One (Number at 0))) refl (under_has q 1 scope
    (l ∷ ls) (Give (One p)) h g) refl

pub closed_tested : (q : Program) (scope : List Name) (at : ℕ) (m : ℕ → Made Expr) → MakesIn q scope (Has q 1) m → Closed (Has q 1 scope) (tested at m)
closed_tested q scope at m h k = (refl, test_has q scope at (m k).lets (m k).it (h k).0 (h k).1)

-- OPERATORS
bracketed : (q : Program) (n k : ℕ) (scope : List Name) (e : Expr) → Has q n scope e → Has q n scope (at_level k e)
bracketed q n k scope e h = go (nat_lt (level e) k)
  where
    go : (b : Bool) → values q scope (if b then Bracket e else e) ≡ Ok n
    go true = h
    go false = h

pub infix_at_has : (q : Program) (scope : List Name) (at : ℕ) (op : Binary) (l r : Expr) → Has q 1 scope l → Has q 1 scope r → Has q 1 scope (infix_at at op l r)
infix_at_has q scope at op l r h g =
    let left : ℕ = left_level (Direct op) in
    let right : ℕ = suc (sign_level (Direct op)) in
    infix_has q scope at (Direct op) (at_level left l) (at_level right r) (bracketed q 1 left scope l h) (bracketed q 1 right scope r g)

negative_has : (q : Program) (scope : List Name) (at : ℕ) (e : Expr) → Has q 1 scope e → Has q 1 scope (negative at e)
negative_has q scope at e h = prefix_has q scope at Neg (at_level 8 e) (bracketed q 1 8 scope e h)

pub chosen_has : (q : Program) (scope : List Name) (at : ℕ) (x y is_other : Expr) → Has q 1 scope x → Has q 1 scope y → Has q 1 scope is_other → Has q 1
    scope (chosen at x y is_other)
chosen_has q scope at x y is_other h g k =
    let differing : Expr = Bracket (infix_at at Xor x y) in
    let masked : Expr = Bracket (infix_at at And differing (negative at is_other)) in
    infix_at_has q scope at Xor x masked h (infix_at_has q scope at And differing (negative at is_other) (infix_at_has q scope at Xor x y h g) (negative_has q
    scope at is_other k))

pub sign_has : (q : Program) (scope : List Name) (at : ℕ) (x : Expr) → Has q 1 scope x → Has q 1 scope (sign_of at x)
sign_has q scope at x h = infix_at_has q scope at Shr x (Number at 63) h refl

pub without_sign_has : (q : Program) (scope : List Name) (at : ℕ) (x s : Expr) → Has q 1 scope x → Has q 1 scope s → Has q 1 scope (without_sign at x s)
without_sign_has q scope at x s h g = infix_at_has q scope at Sub (Bracket (infix_at at Xor x s)) s (infix_at_has q scope at Xor x s h g) g

pub row_has : (q : Program) (scope : List Name) (at : ℕ) (i m j : Expr) → Has q 1 scope i → Has q 1 scope m → Has q 1 scope j → Has q 1 scope (row at i m j)
row_has q scope at i m j h g k = infix_at_has q scope at Add (infix_at at Mul i m) j (infix_at_has q scope at Mul i m h g) k

-- the checks so far, where there are some
abbrev pub HasIfThere : Program → List Name → Option Expr → Type 0
HasIfThere q scope None = ⊤
HasIfThere q scope (Some e) = Has q 1 scope e

pub if_there_wide : (q : Program) (scope wider : List Name) → Includes scope wider → (checks : Option Expr) → HasIfThere q scope checks → HasIfThere q wider checks
if_there_wide q scope wider w None h = tt
if_there_wide q scope wider w (Some e) h = wide q scope wider w e 1 h

pub other_has : (q : Program) (scope : List Name) (at : ℕ) (x m i : Expr) (checks : Option Expr) → Has q 1 scope x → Has q 1 scope m → Has q 1 scope i →
    HasIfThere q scope checks → Has q 1 scope (some_other at (is_other_row at x m i) checks)
other_has q scope at x m i None h g k c = infix_at_has q scope at Ne (infix_at at Div x m) i (infix_at_has q scope at Div x m h g) k
other_has q scope at x m i (Some e) h g k c = infix_at_has q scope at Or (Bracket (is_other_row at x m i)) (Bracket e) (infix_at_has q scope at Ne (infix_at at
    Div x m) i (infix_at_has q scope at Div x m h g) k) c

pub checked_has : (q : Program) (scope : List Name) (at : ℕ) (x check : Expr) → Has q 1 scope x → Has q 1 scope check → Has q 1 scope (checked_index at x check)
checked_has q scope at x check h g = infix_at_has q scope at Or x (negative at check) h (negative_has q scope at check g)

-- VALUES that are done, and others given
pub includes_then : (a b c : List Name) → Includes a b → Includes b c → Includes a c
includes_then a b c h g x e = g x (h x e)

pub giving_has : (q : Program) (n k : ℕ) (scope : List Name) (es : Exprs) (body : Body) → ((wider : List Name) → Includes scope wider → HasAll q n wider es)
    → HasBody q k scope body → HasBody q n scope (giving es body)
giving_has q n k scope es (Let at targets vs rest) h g =
    let s = in_let q scope at targets vs rest k g in
    let inner : List Name = bound_by targets ++ scope in
    rw s.0 (rw s.1 (rw (equal_itself (length targets)) (giving_has q n k inner es rest (λ wider w. h wider (includes_then scope inner wider (behind_more
    (bound_by targets) scope) w)) s.2)))
giving_has q n k scope es (Do vs rest) h g =
    let s = in_do q scope vs rest k g in rw s.1 (giving_has q n k scope es rest h s.2)
giving_has q n k scope es (Give vs) h g = rw g (h scope (λ x e. e))
giving_has q n k scope es (Chain e) h g = rw g (h scope (λ x e. e))

pub giving_first_has : (q : Program) (k : ℕ) (scope : List Name) (x : Expr) (body : Body) → ((wider : List Name) → Includes scope wider → Has q 1 wider x)
    → HasBody q k scope body → HasBody q (1 + k) scope (giving_first x body)
giving_first_has q k scope x (Let at targets vs rest) h g =
    let s = in_let q scope at targets vs rest k g in
    let inner : List Name = bound_by targets ++ scope in
    rw s.0 (rw s.1 (rw (equal_itself (length targets)) (giving_first_has q k inner x rest (λ wider w. h wider (includes_then scope inner wider (behind_more
    (bound_by targets) scope) w)) s.2)))
giving_first_has q k scope x (Do vs rest) h g =
    let s = in_do q scope vs rest k g in rw s.1 (giving_first_has q k scope x rest h s.2)
giving_first_has q k scope x (Give vs) h g = more_has q 1 k scope x vs (h scope (λ y e. e)) g
giving_first_has q k scope x (Chain e) h g = more_has q 1 k scope x (One e) (h scope (λ y e. e)) g

-- names in scope
pub named_has : (q : Program) (scope : List Name) (at : ℕ) (x : NameAt) (xs : List NameAt) → Each (λ (x : NameAt). is_in x.name scope ≡ true) (x ∷ xs)
    → HasAll q (length (x ∷ xs)) scope (named_all at (x ∷ xs))
named_has q scope at x [] h = rw h.0 refl
named_has q scope at x (y ∷ xs) h =
    let rest : HasAll q (length (y ∷ xs)) scope (named_all at (y ∷ xs)) = named_has q scope at y xs h.1 in
    rw h.0 (rw rest (ap (λ (n : ℕ). Ok n) (omega arith)))
