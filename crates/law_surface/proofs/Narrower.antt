-- A part that keeps the rules keeps them also in a scope that has no more than the names which it uses.
use Rattle.std.specs.Prelude.{◌≡◌, ℕ, suc, ◌+◌, ◌==◌, ◌||◌, not, Bool, true, false, List, [], ◌∷◌, ◌++◌, filter, replicate, length, Option, Some, None}
use Rattle.std.specs.Prelude.{Result, Ok, ⊤, refl, if◌then◌else◌}
use Rattle.std.proofs.Common.{sym, ◌∙◌, ap}
use Rattle.lemmas.proofs.Bools.{equal_itself, or_true}
use Rattle.semantics.specs.Graph.{same_name}
use Rattle.semantics.proofs.Lines.{same_name_is, same_name_itself}
use Rattle.source.specs.Tree.{Name, NameAt}
use Rattle.source.specs.Spelled.{others}
use Rattle.source.specs.Outside.{is_in, without, bare, bound_by}
use Rattle.source.specs.Rules.{and_first}
use Rattle.surface.specs.declared.fault.Fault.{Fault}
use Rattle.surface.specs.Tree.{Expr, Number, Named, Bracket, Prefix, Infix, And, Or, Not, Fetch, Store, Call, If, Loop, For, Exprs, One, More}
use Rattle.surface.specs.Tree.{Body, Let, Do, When, Give, Chain, Tests, Last, Else, Turn, Before, After, Carried, Nothing, With, names_of, carried_names}
use Rattle.surface.specs.Known.{Callee, Missing, OfValues, OfArrays, IsBuiltIn, Min, Max, Abs, Len, callee}
use Rattle.surface.specs.Outside.{uses, list_uses, body_uses, tests_uses, turn_uses, carried_uses}
use Rattle.surface.specs.Rules.{Around, is_constant, argument_rank, for_values, values, list_values, index_values, argument_ranks, first_values}
use Rattle.surface.specs.Rules.{carried_values, body_values, tests_values, turn_values}
use Rattle.surface.specs.First.{◌>>=◌}
use Rattle.law_surface.proofs.Steps.{then_ok, ok_same}
use Rattle.law_surface.proofs.WiderScope.{behind_more}
use Rattle.law_surface.proofs.SurfaceKept.{has_one, both_one, in_if, IsTurned, in_loop, IsCounted, in_for, in_more, in_first, in_firsts, in_let, in_do, in_when}
use Rattle.law_surface.proofs.SurfaceKept.{in_last, in_else, in_before, in_after, in_name, IsIndexed, in_fetch, in_store, in_index, in_indexes, call_values}
use Rattle.law_surface.proofs.SurfaceKept.{in_count, in_ranks, same_ranks_itself, rank_or_values, ranks_and}

-- NAMES IN LISTS
pub in_front : (x : Name) (xs ys : List Name) → is_in x xs ≡ true → is_in x (xs ++ ys) ≡ true
in_front x [] ys h = cc
in_front x (y ∷ xs) ys h = go (same_name x y) h (λ e. in_front x xs ys e)
  where
    go : (b : Bool) → (b || is_in x xs) ≡ true → (is_in x xs ≡ true → is_in x (xs ++ ys) ≡ true) → (b || is_in x (xs ++ ys)) ≡ true
    go true e later = refl
    go false e later = later e

pub in_filter : (f : Name → Bool) (x : Name) (xs : List Name) → f x ≡ true → is_in x xs ≡ true → is_in x (filter f xs) ≡ true
in_filter f x [] h e = cc
in_filter f x (y ∷ xs) h e = go (same_name x y) (f y) refl refl e (λ k. in_filter f x xs h k)
  where
    go : (t u : Bool) → same_name x y ≡ t → f y ≡ u → (t || is_in x xs) ≡ true → (is_in x xs ≡ true → is_in x (filter f xs) ≡ true)
        → is_in x (if u then y ∷ filter f xs else filter f xs) ≡ true
    go true true a b k later = ap (λ (t : Bool). t || is_in x (filter f xs)) a
    go true false a b k later =
        let same : f x ≡ f y = ap f (same_name_is x y a) in absurd (cc)
    go false true a b k later = ap (λ (t : Bool). t || is_in x (filter f xs)) a ∙ later k
    go false false a b k later = later k

pub in_without : (x : Name) (bound xs : List Name) → is_in x bound ≡ false → is_in x xs ≡ true → is_in x (without bound xs) ≡ true
in_without x bound xs h e = in_filter (λ y. not (is_in y bound)) x xs (ap (λ (b : Bool). not b) h) e

pub in_later : (x : Name) (before scope : List Name) → is_in x (before ++ scope) ≡ true → is_in x before ≡ false → is_in x scope ≡ true
in_later x [] scope h e = h
in_later x (y ∷ before) scope h e = go (same_name x y) h e (λ h e. in_later x before scope h e)
  where
    go : (t : Bool) → (t || is_in x (before ++ scope)) ≡ true → (t || is_in x before) ≡ false
        → (is_in x (before ++ scope) ≡ true → is_in x before ≡ false → is_in x scope ≡ true) → is_in x scope ≡ true
    go true h e k = cc
    go false h e k = k h e

-- SCOPES that have what is used of another
abbrev pub Keeps : List Name → List Name → List Name → Type 0
Keeps xs scope other = (x : Name) → is_in x xs ≡ true → is_in x scope ≡ true → is_in x other ≡ true

keeps_front : (xs ys scope other : List Name) → Keeps (xs ++ ys) scope other → Keeps xs scope other
keeps_front xs ys scope other k x e i = k x (in_front x xs ys e) i

keeps_back : (xs ys scope other : List Name) → Keeps (xs ++ ys) scope other → Keeps ys scope other
keeps_back xs ys scope other k x e i = k x (behind_more xs ys x e) i

pub keeps_behind : (bound xs scope other : List Name) → Keeps (without bound xs) scope other → Keeps xs (bound ++ scope) (bound ++ other)
keeps_behind bound xs scope other k x e i = go (is_in x bound) refl
  where
    go : (b : Bool) → is_in x bound ≡ b → is_in x (bound ++ other) ≡ true
    go true t = in_front x bound other t
    go false t = behind_more bound other x (k x (in_without x bound xs t e) (in_later x bound scope i t))

-- a name that is used
name_kept : (c : Bool) (x : Name) (scope other : List Name) → Keeps (x ∷ []) scope other → same_name x x ≡ true → (c || is_in x scope) ≡ true → (c || is_in x
    other) ≡ true
name_kept true x scope other k self h = refl
name_kept false x scope other k self h = k x (ap (λ (b : Bool). b || false) self) h

call_narrow : (a : Around) (scope other : List Name) (at : ℕ) (es : Exprs) (c : Callee) (n : ℕ) → ((m : ℕ) → list_values a scope es ≡ Ok m → list_values a other
    es ≡ Ok m) → ((rs : List ℕ) → argument_ranks a scope es ≡ Ok rs → argument_ranks a other es ≡ Ok rs) → call_values a scope at es c ≡ Ok n
    → call_values a other at es c ≡ Ok n
call_narrow a scope other at es Missing n g i h = h
call_narrow a scope other at es (OfValues params results) n g i h =
    let s = in_count a scope at es params results n h in rw (g params s.0) (rw (equal_itself params) (ap (λ (n : ℕ). Ok n) s.1))
call_narrow a scope other at es (OfArrays ranks results) n g i h =
    let s = in_ranks a scope at es ranks results n h in rw (i ranks s.0) (rw (same_ranks_itself ranks) (ap (λ (n : ℕ). Ok n) s.1))
call_narrow a scope other at es (IsBuiltIn Len) n g i h = h
call_narrow a scope other at es (IsBuiltIn Min) n g i h =
    let s = in_count a scope at es 2 1 n h in rw (g 2 s.0) (ap (λ (n : ℕ). Ok n) s.1)
call_narrow a scope other at es (IsBuiltIn Max) n g i h =
    let s = in_count a scope at es 2 1 n h in rw (g 2 s.0) (ap (λ (n : ℕ). Ok n) s.1)
call_narrow a scope other at es (IsBuiltIn Abs) n g i h =
    let s = in_count a scope at es 1 1 n h in rw (g 1 s.0) (ap (λ (n : ℕ). Ok n) s.1)

mutual
  narrow : (a : Around) (scope other : List Name) (e : Expr) (n : ℕ) → Keeps (uses e) scope other → values a scope e ≡ Ok n → values a other e ≡ Ok n
  narrow a scope other (Number at v) n k h = h
  narrow a scope other (Named at x) n k h =
      let s = in_name a scope at x n h in
      rw (name_kept (is_constant a.known x) x scope other k (same_name_itself x) s.0) (ap (λ (n : ℕ). Ok n) s.1)
  narrow a scope other (Bracket e) n k h = narrow a scope other e n k h
  narrow a scope other (Prefix at op e) n k h =
      let s = has_one a scope e n h in rw (narrow a scope other e 1 k s.0) (ap (λ (n : ℕ). Ok n) s.1)
  narrow a scope other (Infix at sign l r) n k h =
      let s = both_one a scope l r n h in
      rw (narrow a scope other l 1 (keeps_front (uses l) (uses r) scope other k) s.0) (rw (narrow a scope other r 1 (keeps_back (uses l) (uses r) scope other
      k) s.1) (ap (λ (n : ℕ). Ok n) s.2))
  narrow a scope other (And at l r) n k h =
      let s = both_one a scope l r n h in
      rw (narrow a scope other l 1 (keeps_front (uses l) (uses r) scope other k) s.0) (rw (narrow a scope other r 1 (keeps_back (uses l) (uses r) scope other
      k) s.1) (ap (λ (n : ℕ). Ok n) s.2))
  narrow a scope other (Or at l r) n k h =
      let s = both_one a scope l r n h in
      rw (narrow a scope other l 1 (keeps_front (uses l) (uses r) scope other k) s.0) (rw (narrow a scope other r 1 (keeps_back (uses l) (uses r) scope other
      k) s.1) (ap (λ (n : ℕ). Ok n) s.2))
  narrow a scope other (Not at e) n k h =
      let s = has_one a scope e n h in rw (narrow a scope other e 1 k s.0) (ap (λ (n : ℕ). Ok n) s.1)
  narrow a scope other (Fetch at x es) n k h =
      let s = in_fetch a scope at x es n h in
      let i : IsIndexed a scope at x es = s.0 in
      rw i.found (rw (index_narrow a scope other es i.rank k i.indexes) (rw (equal_itself i.rank) (ap (λ (n : ℕ). Ok n) s.1)))
  narrow a scope other (Store at x es d) n k h =
      let s = in_store a scope at x es d n h in
      let i : IsIndexed a scope at x es = s.0 in
      rw i.found (rw (index_narrow a scope other es i.rank (keeps_front (list_uses es) (uses d) scope other k) i.indexes) (rw (equal_itself i.rank) (rw
      (narrow a scope other d 1 (keeps_back (list_uses es) (uses d) scope other k) s.1) (ap (λ (n : ℕ). Ok n) s.2))))
  narrow a scope other (Call at strict f es) n k h = call_narrow a scope other at es (callee a.known strict f) n (λ m g. list_narrow a scope other es m k g) (λ
      rs g. ranks_narrow a scope other es rs k g) h
  narrow a scope other (If at q l r) n k h =
      let s = in_if a scope at q l r n h in
      let front : List Name = uses q ++ body_uses l in
      let both = keeps_front front (body_uses r) scope other k in
      rw (narrow a scope other q 1 (keeps_front (uses q) (body_uses l) scope other both) s.0) (rw (body_narrow a scope other l n (keeps_back (uses q)
      (body_uses l) scope other both) s.1) (rw (body_narrow a scope other r n (keeps_back front (body_uses r) scope other k) s.2) (rw (equal_itself n) refl)))
  narrow a scope other (Loop at bound firsts turn) n k h =
      let s : IsTurned a scope bound firsts turn n = in_loop a scope at bound firsts turn n h in
      let fuse : List Name = list_uses firsts in
      rw s.bound_is (rw (firsts_narrow a scope other [] (names_of turn) firsts (keeps_front fuse (turn_uses turn) scope other k) s.begun) (rw (turn_narrow a
      scope other turn n (keeps_back fuse (turn_uses turn) scope other k) s.turns) (rw (ap (λ (l : ℕ). n == l) (sym s.names) ∙ equal_itself n) (rw s.narrow
      refl))))
  narrow a scope other (For at bound i first end carried body) n k h =
      let s : IsCounted a scope bound i first end carried body n = in_for a scope at bound i first end carried body n h in
      let bounds : List Name = i.name ∷ bare (carried_names carried) in
      let inner : List Name = without bounds (body_uses body) in
      let two : List Name = uses first ++ uses end in
      let three : List Name = two ++ carried_uses carried in
      let k3 = keeps_front three inner scope other k in
      let k2 = keeps_front two (carried_uses carried) scope other k3 in
      rw s.bound_is (rw s.new (rw (narrow a scope other first 1 (keeps_front (uses first) (uses end) scope other k2) s.first_is) (rw (narrow a scope other end 1
      (keeps_back (uses first) (uses end) scope other k2) s.end_is) (rw (carried_narrow a scope other (i.name ∷ []) carried (keeps_back two (carried_uses
      carried) scope other k3) s.begun) (rw (body_narrow a (bounds ++ scope) (bounds ++ other) body s.turns (keeps_behind bounds (body_uses body) scope other
      (keeps_back three inner scope other k)) s.body_is) (rw s.as_many (rw s.narrow (ap (λ (n : ℕ). Ok n) s.count))))))))

  list_narrow : (a : Around) (scope other : List Name) (es : Exprs) (n : ℕ) → Keeps (list_uses es) scope other → list_values a scope es ≡ Ok n → list_values a
      other es ≡ Ok n
  list_narrow a scope other (One e) n k h = narrow a scope other e n k h
  list_narrow a scope other (More e es) n k h =
      let s = in_more a scope e es n h in
      rw (narrow a scope other e s.0 (keeps_front (uses e) (list_uses es) scope other k) s.2) (rw (list_narrow a scope other es s.1 (keeps_back (uses e)
      (list_uses es) scope other k) s.3) (ap (λ (n : ℕ). Ok n) s.4))

  index_narrow : (a : Around) (scope other : List Name) (es : Exprs) (n : ℕ) → Keeps (list_uses es) scope other → index_values a scope es ≡ Ok n → index_values a
      other es ≡ Ok n
  index_narrow a scope other (One e) n k h =
      let s = in_index a scope e n h in rw (narrow a scope other e 1 k s.0) (ap (λ (n : ℕ). Ok n) s.1)
  index_narrow a scope other (More e es) n k h =
      let s = in_indexes a scope e es n h in
      rw (narrow a scope other e 1 (keeps_front (uses e) (list_uses es) scope other k) s.0) (rw (index_narrow a scope other es s.1 (keeps_back (uses e)
      (list_uses es) scope other k) s.2) (ap (λ (n : ℕ). Ok n) s.3))

  ranks_narrow : (a : Around) (scope other : List Name) (es : Exprs) (rs : List ℕ) → Keeps (list_uses es) scope other → argument_ranks a scope es ≡ Ok rs
      → argument_ranks a other es ≡ Ok rs
  ranks_narrow a scope other (One e) rs k h = go (argument_rank a e) h (λ m g. narrow a scope other e m k g)
    where
      go : (o : Option ℕ) → rank_or_values a scope e o ≡ Ok rs → ((m : ℕ) → values a scope e ≡ Ok m → values a other e ≡ Ok m) → rank_or_values a other e o ≡ Ok rs
      go (Some rank) h g = h
      go None h g = let s = then_ok (values a scope e) (λ n. Ok (replicate n 0)) rs h in rw (g s.0 s.1) s.2
  ranks_narrow a scope other (More e es) rs k h = go (argument_rank a e) h (λ m g. narrow a scope other e m (keeps_front (uses e) (list_uses es) scope other k) g)
      (λ ms g. ranks_narrow a scope other es ms (keeps_back (uses e) (list_uses es) scope other k) g)
    where
      go : (o : Option ℕ) → ranks_and a scope e es o ≡ Ok rs → ((m : ℕ) → values a scope e ≡ Ok m → values a other e ≡ Ok m) → ((ms : List ℕ) → argument_ranks a
          scope es ≡ Ok ms → argument_ranks a other es ≡ Ok ms) → ranks_and a other e es o ≡ Ok rs
      go (Some rank) h g i =
          let s = then_ok (argument_ranks a scope es) (λ ms. Ok (rank ∷ ms)) rs h in rw (i s.0 s.1) s.2
      go None h g i =
          let s = then_ok (values a scope e) (λ n. argument_ranks a scope es >>= (λ ms. Ok (replicate n 0 ++ ms))) rs h in
          let t = then_ok (argument_ranks a scope es) (λ ms. Ok (replicate s.0 0 ++ ms)) rs s.2 in
          rw (g s.0 s.1) (rw (i t.0 t.1) t.2)

  firsts_narrow : (a : Around) (scope other before : List Name) (xs : List NameAt) (es : Exprs) → Keeps (list_uses es) scope other → first_values a scope before
      xs es ≡ Ok tt → first_values a other before xs es ≡ Ok tt
  firsts_narrow a scope other before xs (One e) k h =
      let s = in_first a scope before xs e h in rw s.0 (rw (narrow a scope other e 1 k s.1) refl)
  firsts_narrow a scope other before xs (More e es) k h =
      let s = in_firsts a scope before xs e es h in
      rw s.0 (rw (narrow a scope other e 1 (keeps_front (uses e) (list_uses es) scope other k) s.1) (firsts_narrow a scope other (and_first before xs) (others
      xs) es (keeps_back (uses e) (list_uses es) scope other k) s.2))

  carried_narrow : (a : Around) (scope other before : List Name) (carried : Carried) → Keeps (carried_uses carried) scope other → carried_values a scope before
      carried ≡ Ok tt → carried_values a other before carried ≡ Ok tt
  carried_narrow a scope other before Nothing k h = h
  carried_narrow a scope other before (With xs firsts) k h = firsts_narrow a scope other before xs firsts k h

  pub body_narrow : (a : Around) (scope other : List Name) (body : Body) (n : ℕ) → Keeps (body_uses body) scope other → body_values a scope body ≡ Ok n →
      body_values a other body ≡ Ok n
  body_narrow a scope other (Let at targets es rest) n k h =
      let s = in_let a scope at targets es rest n h in
      let later : List Name = without (bound_by targets) (body_uses rest) in
      rw s.0 (rw (list_narrow a scope other es (length targets) (keeps_front (list_uses es) later scope other k) s.1) (rw (equal_itself (length targets))
      (body_narrow a (bound_by targets ++ scope) (bound_by targets ++ other) rest n (keeps_behind (bound_by targets) (body_uses rest) scope other (keeps_back
      (list_uses es) later scope other k)) s.2)))
  body_narrow a scope other (Do es rest) n k h =
      let s = in_do a scope es rest n h in
      rw (list_narrow a scope other es s.0 (keeps_front (list_uses es) (body_uses rest) scope other k) s.1) (body_narrow a scope other rest n (keeps_back
      (list_uses es) (body_uses rest) scope other k) s.2)
  body_narrow a scope other (When tests rest) n k h =
      let s = in_when a scope tests rest n h in
      rw (tests_narrow a scope other tests (keeps_front (tests_uses tests) (body_uses rest) scope other k) s.0) (body_narrow a scope other rest n (keeps_back
      (tests_uses tests) (body_uses rest) scope other k) s.1)
  body_narrow a scope other (Give es) n k h = list_narrow a scope other es n k h
  body_narrow a scope other (Chain e) n k h = narrow a scope other e n k h

  tests_narrow : (a : Around) (scope other : List Name) (tests : Tests) → Keeps (tests_uses tests) scope other → tests_values a scope tests ≡ Ok tt
      → tests_values a other tests ≡ Ok tt
  tests_narrow a scope other (Last at p arm) k h =
      let s = in_last a scope at p arm h in
      rw (narrow a scope other p 1 (keeps_front (uses p) (body_uses arm) scope other k) s.0) (rw (body_narrow a scope other arm s.1 (keeps_back (uses p)
      (body_uses arm) scope other k) s.2) refl)
  tests_narrow a scope other (Else at p arm more) k h =
      let s = in_else a scope at p arm more h in
      let front : List Name = uses p ++ body_uses arm in
      let both = keeps_front front (tests_uses more) scope other k in
      rw (narrow a scope other p 1 (keeps_front (uses p) (body_uses arm) scope other both) s.0) (rw (body_narrow a scope other arm s.1 (keeps_back (uses p)
      (body_uses arm) scope other both) s.2) (tests_narrow a scope other more (keeps_back front (tests_uses more) scope other k) s.3))

  pub turn_narrow : (a : Around) (scope other : List Name) (turn : Turn) (n : ℕ) → Keeps (turn_uses turn) scope other → turn_values a (bare (names_of turn) ++
      scope) turn ≡ Ok n → turn_values a (bare (names_of turn) ++ other) turn ≡ Ok n
  turn_narrow a scope other (Before xs q body) n k h =
      let s = in_before a (bare xs ++ scope) xs q body n h in
      let inner = keeps_behind (bare xs) (uses q ++ body_uses body) scope other k in
      rw (narrow a (bare xs ++ scope) (bare xs ++ other) q 1 (keeps_front (uses q) (body_uses body) (bare xs ++ scope) (bare xs ++ other) inner) s.0)
      (body_narrow a (bare xs ++ scope) (bare xs ++ other) body n (keeps_back (uses q) (body_uses body) (bare xs ++ scope) (bare xs ++ other) inner) s.1)
  turn_narrow a scope other (After xs body q) n k h =
      let s = in_after a (bare xs ++ scope) xs body q n h in
      let inner = keeps_behind (bare xs) (body_uses body ++ uses q) scope other k in
      rw (body_narrow a (bare xs ++ scope) (bare xs ++ other) body n (keeps_front (body_uses body) (uses q) (bare xs ++ scope) (bare xs ++ other) inner) s.0) (rw
      (narrow a (bare xs ++ scope) (bare xs ++ other) q 1 (keeps_back (body_uses body) (uses q) (bare xs ++ scope) (bare xs ++ other) inner) s.1) refl)
