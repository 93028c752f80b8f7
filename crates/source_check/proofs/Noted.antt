-- THE OUTSIDE NAMES OF TURNS: those that the steps note are those of the definition.
use Rattle.std.specs.Prelude.{◌≡◌, refl, ℕ, ◌+◌, ◌≤◌, ◌||◌, not, Bool, true, false, Option, List, [], ◌∷◌, ◌++◌, length, filter, if◌then◌else◌}
use Rattle.std.specs.List.{list_any}
use Rattle.std.proofs.Common.{◌∙◌, ap, sym, subst, arith}
use Rattle.std.proofs.lemmas.Bool.{or_left, or_right}
use Rattle.semantics.specs.Graph.{same_name}
use Rattle.semantics.proofs.Lines.{same_name_is, same_name_itself}
use Rattle.source.specs.Tree.{Name}
use Rattle.source.specs.Outside.{is_in, without, once}
use Rattle.source_check.specs.declared.frame.Entry.{Entry}
use Rattle.source_check.specs.Steps.{Names, since, onto, noted, all_noted}
use Rattle.source_check.proofs.Stacks.{since-append, since-deeper, onto-append}

-- names by their bytes
abbrev pub by_bytes : (Name → Option Entry) → Names Name
by_bytes item = record { same = same_name; item = item }

-- a name joins those that are gathered, the last one first
abbrev pub gathers : List Name → Name → List Name
gathers have x = if is_in x have then have else x ∷ have

abbrev pub gathered : List Name → List Name → List Name
gathered have [] = have
gathered have (x ∷ xs) = gathered (gathers have x) xs

pub all_noted-append : {N : Type 0} (t : Names N) (inner : List N) (k : ℕ) (xs ys used : List N)
    → all_noted t inner k used (xs ++ ys) ≡ all_noted t inner k (all_noted t inner k used xs) ys
all_noted-append t inner k [] ys used = refl
all_noted-append t inner k (x ∷ xs) ys used = all_noted-append t inner k xs ys (noted t inner k used x)

pub noted_grows : {N : Type 0} (t : Names N) (inner : List N) (k : ℕ) (used : List N) (x : N) → length used ≤ length (noted t inner k used x)
noted_grows t inner k used x = go (list_any (t.same x) inner || list_any (t.same x) (since k used))
  where
    go : (b : Bool) → length used ≤ length (if b then used else x ∷ used)
    go true = omega arith
    go false = omega arith

pub all_noted_grows : {N : Type 0} (t : Names N) (inner : List N) (k : ℕ) (xs used : List N) → length used ≤ length (all_noted t inner k used xs)
all_noted_grows t inner k [] used = omega arith
all_noted_grows t inner k (x ∷ xs) used = omega (arith, noted_grows t inner k used x, all_noted_grows t inner k xs (noted t inner k used x))

-- names that the turn binds are no outside names
or-assoc : (a b c : Bool) → ((a || b) || c) ≡ (a || (b || c))
or-assoc true b c = refl
or-assoc false b c = refl

any-append : {X : Type 0} (p : X → Bool) (xs ys : List X) → list_any p (xs ++ ys) ≡ (list_any p xs || list_any p ys)
any-append p [] ys = refl
any-append p (x ∷ xs) ys = rw (any-append p xs ys) (sym (or-assoc (p x) (list_any p xs) (list_any p ys)))

pub all_noted-without : (item : Name → Option Entry) (inner more : List Name) (k : ℕ) (xs used : List Name)
    → all_noted (by_bytes item) (more ++ inner) k used xs ≡ all_noted (by_bytes item) inner k used (without more xs)
all_noted-without item inner more k [] used = refl
all_noted-without item inner more k (x ∷ xs) used = rw (any-append (same_name x) more inner) (go (is_in x more) (all_noted-without item inner more k xs))
  where
    go : (b : Bool) → ((u : List Name) → all_noted (by_bytes item) (more ++ inner) k u xs ≡ all_noted (by_bytes item) inner k u (without more xs))
        → all_noted (by_bytes item) (more ++ inner) k (if (b || is_in x inner) || is_in x (since k used) then used else x ∷ used) xs
        ≡ all_noted (by_bytes item) inner k used (if not b then x ∷ without more xs else without more xs)
    go true h = h used
    go false h = h (noted (by_bytes item) inner k used x)

-- A turn's outside names are gathered above those of the turns around it.
pub noted_above : (item : Name → Option Entry) (inner used : List Name) (xs have : List Name)
    → all_noted (by_bytes item) inner (length used) (have ++ used) xs ≡ gathered have (without inner xs) ++ used
noted_above item inner used [] have = refl
noted_above item inner used (x ∷ xs) have = rw (since-append have used) (go (is_in x inner) (noted_above item inner used xs))
  where
    fresh : (c : Bool) → ((h : List Name) → all_noted (by_bytes item) inner (length used) (h ++ used) xs ≡ gathered h (without inner xs) ++ used)
        → all_noted (by_bytes item) inner (length used) (if c then have ++ used else x ∷ (have ++ used)) xs ≡ gathered (if c then have else x ∷ have)
        (without inner xs) ++ used
    fresh true h = h have
    fresh false h = h (x ∷ have)

    go : (b : Bool) → ((h : List Name) → all_noted (by_bytes item) inner (length used) (h ++ used) xs ≡ gathered h (without inner xs) ++ used)
        → all_noted (by_bytes item) inner (length used) (if b || is_in x have then have ++ used else x ∷ (have ++ used)) xs
        ≡ gathered have (if not b then x ∷ without inner xs else without inner xs) ++ used
    go true h = h have
    go false h = fresh (is_in x have) h

-- ONCE
true_is_not_false : true ≡ false → ⊥
true_is_not_false e = cc

same_sym : (x y : Name) → same_name x y ≡ same_name y x
same_sym x y = go (same_name x y) (same_name y x) refl refl
  where
    go : (b c : Bool) → same_name x y ≡ b → same_name y x ≡ c → b ≡ c
    go true true p q = refl
    go false false p q = refl
    go true false p q = let e : x ≡ y = same_name_is x y p in sym (subst (λ z. same_name z x ≡ true) e (same_name_itself x)) ∙ q
    go false true p q = let e : y ≡ x = same_name_is y x q in sym p ∙ subst (λ z. same_name z y ≡ true) e (same_name_itself y)

-- a filter that takes away nothing that another leaves
needless : (p : Name → Bool) (x : Name) (xs : List Name) → p x ≡ false → filter p (filter (λ y. not (same_name x y)) xs) ≡ filter p xs
needless p x [] h = refl
needless p x (y ∷ ys) h = go (same_name x y) refl (p y) refl (needless p x ys h)
  where
    go : (b : Bool) → same_name x y ≡ b → (c : Bool) → p y ≡ c → filter p (filter (λ z. not (same_name x z)) ys) ≡ filter p ys
        → filter p (if not b then y ∷ filter (λ z. not (same_name x z)) ys else filter (λ z. not (same_name x z)) ys) ≡
        (if c then y ∷ filter p ys else filter p ys)
    go true e false q k = k
    go true e true q k = let d : x ≡ y = same_name_is x y e in absurd (true_is_not_false (sym q ∙ subst (λ z. p z ≡ false) d h))
    go false e false q k = rw q k
    go false e true q k = rw q (ap (λ zs. y ∷ zs) k)

filters : (p q : Name → Bool) (xs : List Name) → filter p (filter q xs) ≡ filter q (filter p xs)
filters p q [] = refl
filters p q (x ∷ xs) = go (p x) refl (q x) refl (filters p q xs)
  where
    go : (b : Bool) → p x ≡ b → (c : Bool) → q x ≡ c → filter p (filter q xs) ≡ filter q (filter p xs)
        → filter p (if c then x ∷ filter q xs else filter q xs) ≡ filter q (if b then x ∷ filter p xs else filter p xs)
    go true e true d k = rw (e, d) (ap (λ zs. x ∷ zs) k)
    go true e false d k = rw d k
    go false e true d k = rw e k
    go false e false d k = k

once_filtered : (p : Name → Bool) (xs : List Name) → once (filter p xs) ≡ filter p (once xs)
once_filtered p [] = refl
once_filtered p (x ∷ xs) = go (p x) refl (once_filtered p xs)
  where
    go : (b : Bool) → p x ≡ b → once (filter p xs) ≡ filter p (once xs)
        → once (if b then x ∷ filter p xs else filter p xs) ≡ (if b then x ∷ filter p (filter (λ y. not (same_name x y)) (once xs)) else filter p (filter
        (λ y. not (same_name x y)) (once xs)))
    go true e k = rw k (ap (λ zs. x ∷ zs) (filters (λ y. not (same_name x y)) p (once xs)))
    go false e k = k ∙ sym (needless p x (once xs) e)

without_one_more : (x : Name) (have xs : List Name) → without (x ∷ have) xs ≡ filter (λ y. not (same_name x y)) (without have xs)
without_one_more x have [] = refl
without_one_more x have (y ∷ ys) = rw (same_sym y x) (go (same_name x y) refl (is_in y have) (without_one_more x have ys))
  where
    go : (b : Bool) → same_name x y ≡ b → (c : Bool) → without (x ∷ have) ys ≡ filter (λ z. not (same_name x z)) (without have ys)
        → (if not (b || c) then y ∷ without (x ∷ have) ys else without (x ∷ have) ys) ≡ filter (λ z. not (same_name x z))
        (if not c then y ∷ without have ys else without have ys)
    go true e true k = k
    go true e false k = rw e k
    go false e true k = k
    go false e false k = rw e (ap (λ zs. y ∷ zs) k)

pub gathered_once : (have xs : List Name) → length (gathered have xs) ≡ length (once (without have xs)) + length have
gathered_once have [] = omega arith
gathered_once have (x ∷ xs) = go (is_in x have) (gathered_once have xs) (gathered_once (x ∷ have) xs)
  where
    go : (b : Bool) → length (gathered have xs) ≡ length (once (without have xs)) + length have
        → length (gathered (x ∷ have) xs) ≡ length (once (without (x ∷ have) xs)) + length (x ∷ have)
        → length (gathered (if b then have else x ∷ have) xs) ≡ length (once (if not b then x ∷ without have xs else without have xs)) + length have
    go true h k = h
    go false h k =
        let e : once (without (x ∷ have) xs) ≡ filter (λ y. not (same_name x y)) (once (without have xs)) =
        ap once (without_one_more x have xs) ∙ once_filtered (λ y. not (same_name x y)) (without have xs) in
        let d : length (once (without (x ∷ have) xs)) ≡ length (filter (λ y. not (same_name x y)) (once (without have xs))) = ap length e in
        omega (arith, k, d)

-- BACK IN THE TURN AROUND IT
-- it is bound in the turn, or noted
abbrev settled : List Name → ℕ → List Name → Name → Bool
settled inner k used x = is_in x inner || is_in x (since k used)

or_more : (a b c : Bool) → (a || b) ≡ true → (a || (c || b)) ≡ true
or_more true b c h = refl
or_more false b true h = refl
or_more false b false h = h

settled_stays : (item : Name → Option Entry) (inner : List Name) (k : ℕ) (used : List Name) (x y : Name) → k ≤ length used → settled inner k used x ≡ true
    → settled inner k (noted (by_bytes item) inner k used y) x ≡ true
settled_stays item inner k used x y h e = go (settled inner k used y)
  where
    go : (b : Bool) → settled inner k (if b then used else y ∷ used) x ≡ true
    go true = e
    go false = rw (since-deeper k (y ∷ []) used h) (or_more (is_in x inner) (is_in x (since k used)) (same_name x y) e)

settled_ever : (item : Name → Option Entry) (inner : List Name) (k : ℕ) (ys used : List Name) (x : Name) → k ≤ length used → settled inner k used x ≡ true
    → settled inner k (all_noted (by_bytes item) inner k used ys) x ≡ true
settled_ever item inner k [] used x h e = e
settled_ever item inner k (y ∷ ys) used x h e =
    settled_ever item inner k ys (noted (by_bytes item) inner k used y) x (omega (arith, h, noted_grows (by_bytes item) inner k used y))
    (settled_stays item inner k used x y h e)

noted_is_settled : (item : Name → Option Entry) (inner : List Name) (k : ℕ) (used : List Name) (x : Name) → k ≤ length used
    → settled inner k (noted (by_bytes item) inner k used x) x ≡ true
noted_is_settled item inner k used x h = go (settled inner k used x) refl
  where
    go : (b : Bool) → settled inner k used x ≡ b → settled inner k (if b then used else x ∷ used) x ≡ true
    go true e = e
    go false e = rw (since-deeper k (x ∷ []) used h, same_name_itself x) (or_right (is_in x inner) true refl)

all_are_settled : (item : Name → Option Entry) (inner : List Name) (k : ℕ) (ys used : List Name) (x : Name) → k ≤ length used → is_in x ys ≡ true
    → settled inner k (all_noted (by_bytes item) inner k used ys) x ≡ true
all_are_settled item inner k [] used x h e = absurd (true_is_not_false (sym e))
all_are_settled item inner k (y ∷ ys) used x h e = go (same_name x y) refl e (all_are_settled item inner k ys (noted (by_bytes item) inner k used y) x longer)
  where
    longer : k ≤ length (noted (by_bytes item) inner k used y)
    longer = omega (arith, h, noted_grows (by_bytes item) inner k used y)

    go : (b : Bool) → same_name x y ≡ b → (b || is_in x ys) ≡ true → (is_in x ys ≡ true
        → settled inner k (all_noted (by_bytes item) inner k (noted (by_bytes item) inner k used y) ys) x ≡ true)
        → settled inner k (all_noted (by_bytes item) inner k (noted (by_bytes item) inner k used y) ys) x ≡ true
    go true d q later =
        let same : x ≡ y = same_name_is x y d in
        settled_ever item inner k ys (noted (by_bytes item) inner k used y) x longer
        (subst (λ z. settled inner k (noted (by_bytes item) inner k used y) z ≡ true) (sym same) (noted_is_settled item inner k used y h))
    go false d q later = later q

in_onto : (x : Name) (xs ys : List Name) → (is_in x xs || is_in x ys) ≡ true → is_in x (onto xs ys) ≡ true
in_onto x [] ys h = h
in_onto x (y ∷ xs) ys h = in_onto x xs (y ∷ ys) (or_swap (same_name x y) (is_in x xs) (is_in x ys) h)
  where
    or_swap : (a b c : Bool) → ((a || b) || c) ≡ true → (b || (a || c)) ≡ true
    or_swap true true c h = refl
    or_swap true false c h = refl
    or_swap false true c h = refl
    or_swap false false c h = h

-- what a turn has gathered, noted in the turn around it, is what it uses
pub noted_again : (item : Name → Option Entry) (inner : List Name) (k : ℕ) (used : List Name) (xs have : List Name) → k ≤ length used
    → all_noted (by_bytes item) inner k used (onto (gathered have xs) []) ≡ all_noted (by_bytes item) inner k (all_noted (by_bytes item) inner k used
    (onto have [])) xs
noted_again item inner k used [] have h = refl
noted_again item inner k used (x ∷ xs) have h =
    noted_again item inner k used xs (gathers have x) h ∙ ap (λ v. all_noted (by_bytes item) inner k v xs) (go (is_in x have) refl)
  where
    go : (b : Bool) → is_in x have ≡ b → all_noted (by_bytes item) inner k used (onto (if b then have else x ∷ have) []) ≡ noted (by_bytes item) inner k
        (all_noted (by_bytes item) inner k used (onto have [])) x
    go true e =
        let there : settled inner k (all_noted (by_bytes item) inner k used (onto have [])) x ≡ true =
        all_are_settled item inner k (onto have []) used x h (in_onto x have [] (or_left (is_in x have) false e)) in
        sym (ap (λ c. if c then all_noted (by_bytes item) inner k used (onto have []) else x ∷ all_noted (by_bytes item) inner k used (onto have [])) there)
    go false e = ap (all_noted (by_bytes item) inner k used) (onto-append have [] (x ∷ []))
        ∙ all_noted-append (by_bytes item) inner k (onto have []) (x ∷ []) used
