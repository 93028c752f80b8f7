-- Loops of the core that keep its rules, and the counting ones that a `for` is short for.
use Rattle.std.specs.Prelude.{◌≡◌, ℕ, suc, ◌+◌, ◌≤◌, ◌==◌, ◌&&◌, ◌||◌, not, nat_le, Bool, true, false, List, [], ◌∷◌, ◌++◌, map, length, Ok, ⊤, refl}
use Rattle.std.proofs.Common.{sym, ◌∙◌, ap, subst, arith, le-leb}
use Rattle.lemmas.proofs.Bools.{equal_itself, or_true}
use Rattle.lemmas.proofs.Permutations.{Each, each_weaker}
use Rattle.operators.specs.declared.Binary.TheVariants.{Add, Lt}
use Rattle.semantics.specs.Graph.{same_name}
use Rattle.semantics.proofs.Lines.{same_name_itself}
use Rattle.source.specs.Tree.{Name, NameAt, NumberAt, Target, Expr, Number, Named, Loop, Exprs, One, More, Body, Let, Give, Turn, After, Program, names_of}
use Rattle.source.specs.Fits.{count}
use Rattle.source.specs.Outside.{is_in, bare, bound_by, outside_turn}
use Rattle.source.specs.Rules.{item_names, new_name, new_targets, values, first_values, body_values, turn_values}
use Rattle.surface.specs.Making.{target}
use Rattle.surface.specs.CoreForms.{infix_at, named_all, giving, giving_first, stepping, goes_on, counting, drop_first, carrying}
use Rattle.law_surface.proofs.WiderScope.{Includes, behind_same, behind_more, wide}
use Rattle.law_surface.proofs.Narrower.{in_front}
use Rattle.law_surface.proofs.RulesMade.{Has, HasAll, HasBody, NoItem, new_hidden, name_has, infix_at_has, if_has, giving_has, giving_first_has, named_has}
use Rattle.law_surface.proofs.Widths.{turn_takes}

abbrev pub InBounds : NumberAt → Type 0
InBounds bound = (nat_le 2 bound.number && nat_le bound.number 64) ≡ true

-- `outside` has the names that the turn takes from outside
pub loop_has : (q : Program) (n : ℕ) (scope outside : List Name) (at : ℕ) (bound : NumberAt) (firsts : Exprs) (turn : Turn) → InBounds bound → first_values q
    scope [] (names_of turn) firsts ≡ Ok tt → turn_values q (bare (names_of turn) ++ scope) turn ≡ Ok n → n ≡ length (names_of turn)
    → turn_values q (bare (names_of turn) ++ outside) turn ≡ Ok n → length (names_of turn) + length outside ≤ 15 → Has q n scope (Loop at bound firsts turn)
loop_has q n scope outside at bound firsts turn b f t e u few =
    let narrow : nat_le (length (names_of turn) + length (outside_turn turn)) 15 ≡ true = le-leb (length (names_of turn) + length (outside_turn turn)) 15
    (omega (arith, turn_takes q outside turn n u, few)) in
    rw b (rw f (rw t (rw (ap (λ (l : ℕ). n == l) (sym e) ∙ equal_itself n) (rw narrow refl))))

-- NEW NAMES: no items, and none twice
abbrev pub IsNew : Program → List Name → Name → Type 0
IsNew q before x = (not (is_in x (item_names q)) && not (is_in x before)) ≡ true

abbrev pub NewIn : Program → List Name → List NameAt → Type 0
NewIn q before [] = ⊤
NewIn q before (x ∷ xs) = IsNew q before x.name × NewIn q (x.name ∷ before) xs

new_or : (a b c : Bool) → (b ≡ true → c ≡ true) → (not a && not c) ≡ true → (not a && not b) ≡ true
new_or true b c h e = e
new_or false true c h e = let so = h refl in absurd (cc)
new_or false false c h e = refl

pub less_new : (q : Program) (before less : List Name) (xs : List NameAt) → Includes less before → NewIn q before xs → NewIn q less xs
less_new q before less [] i h = tt
less_new q before less (x ∷ xs) i h = (
  new_or (is_in x.name (item_names q)) (is_in x.name less) (is_in x.name before) (i x.name) h.0,
  less_new q (x.name ∷ before) (x.name ∷ less) xs (behind_same (x.name ∷ []) less before i) h.1,
)

abbrev targets_of : ℕ → List NameAt → List Target
targets_of at xs = map (λ (x : NameAt). target at x.name) xs

targets_new : (q : Program) (at : ℕ) (before : List Name) (xs : List NameAt) → NewIn q before xs → new_targets q before (targets_of at xs) ≡ Ok tt
targets_new q at before [] h = refl
targets_new q at before (x ∷ xs) h = rw h.0 (targets_new q at (x.name ∷ before) xs h.1)

as_many : (at : ℕ) (xs : List NameAt) → length (targets_of at xs) ≡ length xs
as_many at [] = refl
as_many at (x ∷ xs) = ap (λ (n : ℕ). suc n) (as_many at xs)

all_bound : (at : ℕ) (xs : List NameAt) → Each (λ (x : NameAt). is_in x.name (bound_by (targets_of at xs)) ≡ true) xs
all_bound at [] = tt
all_bound at (x ∷ xs) =
    let names : List Name = bound_by (targets_of at xs) in (
      ap (λ (b : Bool). b || is_in x.name names) (same_name_itself x.name),
      each_weaker (λ (y : NameAt). is_in y.name names ≡ true) (λ (y : NameAt). is_in y.name (x.name ∷ names) ≡ true) (λ y e. ap (λ (b : Bool). same_name y.name
          x.name || b) e ∙ or_true (same_name y.name x.name)) xs (all_bound at xs),
    )

-- TURNS that step their counter
after_has : (q : Program) (n : ℕ) (scope : List Name) (xs : List NameAt) (body : Body) (p : Expr) → HasBody q n scope body → Has q 1 scope p → turn_values q scope
    (After xs body p) ≡ Ok n
after_has q n scope xs body p h g = rw h (rw g refl)

steps_has : (q : Program) (n : ℕ) (scope : List Name) (at : ℕ) (i : NameAt) (next : Name) (rest : Body) → NoItem q next → is_in i.name scope ≡ true → HasBody q n
    (next ∷ scope) rest → HasBody q n scope (stepping at i next rest)
steps_has q n scope at i next rest new there h =
    let one : Has q 1 scope (infix_at at Add (Named at i.name) (Number at 1)) = infix_at_has q scope at Add (Named at i.name) (Number at 1) (name_has q scope at
    i.name there) refl in
    rw (new_hidden q at next new) (rw one h)

self_in : (x : Name) (xs : List Name) → is_in x (x ∷ xs) ≡ true
self_in x xs = ap (λ (b : Bool). b || is_in x xs) (same_name_itself x)

goes_has : (q : Program) (scope : List Name) (at : ℕ) (i : NameAt) (b : Expr) → is_in i.name scope ≡ true → Has q 1 scope b → Has q 1 scope (goes_on at i b)
goes_has q scope at i b there h = infix_at_has q scope at Lt (Named at i.name) b (name_has q scope at i.name there) h

-- what a turn of a `for` needs, in the scope of its names
pub record TurnIn (q : Program) (k : ℕ) (scope : List Name) (next : Name) (b : Expr) (turn : Body) : Type 0 where
  pub end : Has q 1 scope b
  pub body : HasBody q k (next ∷ scope) turn

counting_turn : (q : Program) (k : ℕ) (scope : List Name) (at : ℕ) (i : NameAt) (next : Name) (b : Expr) (turn : Body) → NoItem q next → TurnIn q k (i.name ∷
    scope) next b turn → turn_values q (i.name ∷ scope) (After (i ∷ []) (stepping at i next (giving (One (Named at next)) turn)) (goes_on at i b)) ≡ Ok 1
counting_turn q k scope at i next b turn new t =
    let inner : List Name = i.name ∷ scope in
    let there : is_in i.name inner ≡ true = self_in i.name scope in
    let rest : Body = giving (One (Named at next)) turn in
    let given : HasBody q 1 (next ∷ inner) rest = giving_has q 1 k (next ∷ inner) (One (Named at next)) turn (λ wider w. name_has q wider at next (w next
    (self_in next inner))) t.body in
    after_has q 1 inner (i ∷ []) (stepping at i next rest) (goes_on at i b) (steps_has q 1 inner at i next rest new there given) (goes_has q inner at i b
    there t.end)

pub counting_has : (q : Program) (k : ℕ) (scope outside : List Name) (at : ℕ) (bound : NumberAt) (i : NameAt) (a b : Expr) (next : Name) (turn : Body) → InBounds
    bound → NoItem q next → IsNew q [] i.name → Has q 1 scope a → Has q 1 scope b → HasBody q k (next ∷ i.name ∷ scope) turn → TurnIn q k (i.name ∷ outside)
    next b turn → 1 + length outside ≤ 15 → Has q 1 scope (counting at bound i a b next turn)
counting_has q k scope outside at bound i a b next turn s new fresh h g t u few =
    let core_turn : Turn = After (i ∷ []) (stepping at i next (giving (One (Named at next)) turn)) (goes_on at i b) in
    let here : TurnIn q k (i.name ∷ scope) next b turn = record { end = wide q scope (i.name ∷ scope) (behind_more (i.name ∷ []) scope) b 1 g; body = t } in
    let begun : first_values q scope [] (i ∷ []) (One a) ≡ Ok tt = rw fresh (rw h refl) in
    let turns : Has q 1 scope (Loop at bound (One a) core_turn) = loop_has q 1 scope outside at bound (One a) core_turn s begun (counting_turn q k scope at i
    next b turn new here) refl (counting_turn q k outside at i next b turn new u) few in
    if_has q 1 scope at (infix_at at Lt a b) (Give (One (Loop at bound (One a) core_turn))) (Give (One a)) (infix_at_has q scope at Lt a b h g) turns h

-- with further names
carrying_turn : (q : Program) (scope : List Name) (at : ℕ) (i : NameAt) (xs : List NameAt) (next : Name) (b : Expr) (turn : Body) → NoItem q next → TurnIn q
    (length xs) (i.name ∷ bare xs ++ scope) next b turn → turn_values q (i.name ∷ bare xs ++ scope) (After (i ∷ xs) (stepping at i next (giving_first (Named
    at next) turn)) (goes_on at i b)) ≡ Ok (1 + length xs)
carrying_turn q scope at i xs next b turn new t =
    let inner : List Name = i.name ∷ bare xs ++ scope in
    let there : is_in i.name inner ≡ true = self_in i.name (bare xs ++ scope) in
    let rest : Body = giving_first (Named at next) turn in
    let n : ℕ = 1 + length xs in
    let given : HasBody q n (next ∷ inner) rest = giving_first_has q (length xs) (next ∷ inner) (Named at next) turn (λ wider w. name_has q wider at next (w
    next (self_in next inner))) t.body in
    after_has q n inner (i ∷ xs) (stepping at i next rest) (goes_on at i b) (steps_has q n inner at i next rest new there given) (goes_has q inner at i b
    there t.end)

count_some : (es : Exprs) → 1 ≤ count es
count_some (One e) = omega arith
count_some (More e es) = omega arith

named_out : (q : Program) (scope : List Name) (at : ℕ) (xs : List NameAt) → 1 ≤ length xs → HasAll q (length xs) (bound_by (drop_first at xs) ++ scope)
    (named_all at xs)
named_out q scope at [] h = absurd (omega (arith, h))
named_out q scope at (x ∷ xs) h =
    let names : List Name = bound_by (targets_of at (x ∷ xs)) in
    named_has q (names ++ scope) at x xs (each_weaker (λ (y : NameAt). is_in y.name names ≡ true) (λ (y : NameAt). is_in y.name (names ++ scope) ≡ true) (λ y e.
    in_front y.name names scope e) (x ∷ xs) (all_bound at (x ∷ xs)))

taken_out : (q : Program) (scope : List Name) (at : ℕ) (xs : List NameAt) (turns : Expr) → NewIn q [] xs → 1 ≤ length xs → Has q (1 + length xs) scope turns
    → HasBody q (length xs) scope (Let at (drop_first at xs) (One turns) (Give (named_all at xs)))
taken_out q scope at xs turns new some h =
    let targets : List Target = drop_first at xs in
    let all : (1 + length xs == length targets) ≡ true = ap (λ (m : ℕ). 1 + length xs == m) (omega (arith, as_many at xs)) ∙ equal_itself (1 + length xs) in
    rw (targets_new q at [] xs new) (rw h (rw all (named_out q scope at xs some)))

pub carrying_has : (q : Program) (scope outside : List Name) (at : ℕ) (bound : NumberAt) (i : NameAt) (a b : Expr) (xs : List NameAt) (firsts : Exprs) (next :
    Name) (turn : Body) → InBounds bound → NoItem q next → IsNew q [] i.name → NewIn q [] xs → 1 ≤ length xs → Has q 1 scope a → Has q 1 scope b
    → HasAll q (length xs) scope firsts → first_values q scope (i.name ∷ []) xs firsts ≡ Ok tt → HasBody q (length xs) (next ∷ i.name ∷ bare xs ++ scope) turn
    → TurnIn q (length xs) (i.name ∷ bare xs ++ outside) next b turn → length (i ∷ xs) + length outside ≤ 15
    → Has q (length xs) scope (carrying at bound i a b xs firsts next turn)
carrying_has q scope outside at bound i a b xs firsts next turn s new fresh names some h g c f t u few =
    let core_turn : Turn = After (i ∷ xs) (stepping at i next (giving_first (Named at next) turn)) (goes_on at i b) in
    let inner : List Name = i.name ∷ bare xs ++ scope in
    let here : TurnIn q (length xs) inner next b turn = record { end = wide q scope inner (behind_more (i.name ∷ bare xs) scope) b 1 g; body = t } in
    let begun : first_values q scope [] (i ∷ xs) (More a firsts) ≡ Ok tt = rw fresh (rw h f) in
    let loop : Expr = Loop at bound (More a firsts) core_turn in
    let turns : Has q (1 + length xs) scope loop = loop_has q (1 + length xs) scope outside at bound (More a firsts) core_turn s begun (carrying_turn q scope
    at i xs next b turn new here) (omega arith) (carrying_turn q outside at i xs next b turn new u) few in
    if_has q (length xs) scope at (infix_at at Lt a b) (Let at (drop_first at xs) (One loop) (Give (named_all at xs))) (Give firsts) (infix_at_has q scope at Lt
    a b h g) (taken_out q scope at xs loop names some turns) c
