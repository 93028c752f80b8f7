-- THE OUTSIDE NAMES OF TURNS: those that the steps note are those of the definition.
use Rattle.std.specs.Prelude.{◌≡◌, refl, ℕ, ◌≤◌, ◌||◌, not, Bool, true, false, List, [], ◌∷◌, ◌++◌, length, map, is_some, Option, None, Some, if◌then◌else◌}
use Rattle.std.specs.List.{list_any}
use Rattle.std.proofs.Common.{◌∙◌, ap, sym, arith}
use Rattle.semantics.specs.Graph.{same_name}
use Rattle.source.specs.Tree.{Name}
use Rattle.source.specs.Outside.{is_in, without, once}
use Rattle.source.proofs.CountedSources.{without_none}
use Rattle.surface.specs.Known.{lookup}
use Rattle.surface.specs.Rules.{no_values}
use Rattle.source_check.specs.Steps as core
use Rattle.source_check.specs.Steps.{since, onto}
use Rattle.source_check.proofs.Noted as core_noted
use Rattle.source_check.proofs.Noted.{gathered, gathered_once, noted_above, noted_again}
use Rattle.surface_check.specs.Steps.{Open, lookup_by, no_value, noted, all_noted}
use Rattle.surface_check.proofs.HeadsRead.{by_bytes}
use Rattle.surface_check.proofs.Over.{Setting, around, lookup_is}
use Rattle.surface_check.proofs.OverLets.{any-append}

-- the names that stand for no value
array_names : (arrays : List (Name × ℕ)) (x : Name) → list_any (same_name x) (map (λ (entry : Name × ℕ). entry.0) arrays) ≡ is_some (lookup arrays x)
array_names [] x = refl
array_names (e ∷ arrays) x = go (same_name x e.0) (array_names arrays x)
  where
    go : (b : Bool) → list_any (same_name x) (map (λ (entry : Name × ℕ). entry.0) arrays) ≡ is_some (lookup arrays x)
        → (b || list_any (same_name x) (map (λ (entry : Name × ℕ). entry.0) arrays)) ≡ is_some (if b then Some e.1 else lookup arrays x)
    go true h = refl
    go false h = h

or_swap : (a b : Bool) → (a || b) ≡ (b || a)
or_swap true true = refl
or_swap true false = refl
or_swap false true = refl
or_swap false false = refl

pub hidden_is : (g : Setting) (s : Open Name) (x : Name) → no_value by_bytes g.items s x ≡ is_in x (no_values (around g s))
hidden_is g s x = ap (λ (b : Bool). b || is_some (lookup_by by_bytes s.arrays x)) (g.pins.names x)
    ∙ ap (λ (o : Option ℕ). is_in x g.known.names || is_some o) (lookup_is s.arrays x)
    ∙ or_swap (is_in x g.known.names) (is_some (lookup s.arrays x))
    ∙ ap (λ (b : Bool). b || is_in x g.known.names) (sym (array_names s.arrays x))
    ∙ sym (any-append (same_name x) (map (λ (entry : Name × ℕ). entry.0) s.arrays) g.known.names)

-- names that are hidden are as those that a turn binds
one_listed : (hidden : Name → Bool) (others : List Name) → ((x : Name) → hidden x ≡ is_in x others) → (inner : List Name) (k : ℕ) (used : List Name) (x : Name)
    → noted by_bytes hidden inner k used x ≡ core.noted (core_noted.by_bytes (λ y. None)) (inner ++ others) k used x
one_listed hidden others h inner k used x = ap (λ (b : Bool). if b || is_in x (since k used) then used else x ∷ used) (ap (λ (b : Bool). is_in x inner || b) (h x)
    ∙ sym (any-append (same_name x) inner others))

pub as_listed : (hidden : Name → Bool) (others : List Name) → ((x : Name) → hidden x ≡ is_in x others) → (inner : List Name) (k : ℕ) (xs used : List Name)
    → all_noted by_bytes hidden inner k used xs ≡ core.all_noted (core_noted.by_bytes (λ y. None)) (inner ++ others) k used xs
as_listed hidden others h inner k [] used = refl
as_listed hidden others h inner k (x ∷ xs) used = ap (λ (u : List Name). all_noted by_bytes hidden inner k u xs) (one_listed hidden others h inner k used x)
    ∙ as_listed hidden others h inner k xs (core.noted (core_noted.by_bytes (λ y. None)) (inner ++ others) k used x)

-- what a turn notes above the outside names of those around it
pub gathers_above : (hidden : Name → Bool) (others : List Name) → ((x : Name) → hidden x ≡ is_in x others) → (inner xs used : List Name)
    → all_noted by_bytes hidden inner (length used) used xs ≡ gathered [] (without (inner ++ others) xs) ++ used
gathers_above hidden others h inner xs used = as_listed hidden others h inner (length used) xs used ∙ noted_above (λ y. None) (inner ++ others) used xs []

-- and noted again in the turn around it
pub gathers_again : (hidden : Name → Bool) (others : List Name) → ((x : Name) → hidden x ≡ is_in x others) → (inner : List Name) (k : ℕ) (used xs : List Name)
    → k ≤ length used
    → all_noted by_bytes hidden inner k used (onto (gathered [] xs) []) ≡ all_noted by_bytes hidden inner k used xs
gathers_again hidden others h inner k used xs l = as_listed hidden others h inner k (onto (gathered [] xs) []) used
    ∙ noted_again (λ y. None) (inner ++ others) k used xs [] l ∙ sym (as_listed hidden others h inner k xs used)

-- hidden names may be left out
pub hidden_out : (hidden : Name → Bool) (others : List Name) → ((x : Name) → hidden x ≡ is_in x others) → (inner : List Name) (k : ℕ) (xs used : List Name)
    → all_noted by_bytes hidden inner k used (without others xs) ≡ all_noted by_bytes hidden inner k used xs
hidden_out hidden others h inner k [] used = refl
hidden_out hidden others h inner k (x ∷ xs) used = go (is_in x others) refl (λ u. hidden_out hidden others h inner k xs u)
  where
    or_here : (a : Bool) → (a || true) ≡ true
    or_here true = refl
    or_here false = refl

    go : (b : Bool) → is_in x others ≡ b
        → ((u : List Name) → all_noted by_bytes hidden inner k u (without others xs) ≡ all_noted by_bytes hidden inner k u xs)
        → all_noted by_bytes hidden inner k used (if not b then x ∷ without others xs else without others xs)
        ≡ all_noted by_bytes hidden inner k (noted by_bytes hidden inner k used x) xs
    go true e f = rw (h x ∙ e, or_here (is_in x inner)) (f used)
    go false e f = f (noted by_bytes hidden inner k used x)

pub gathered_length : (xs : List Name) → length (gathered [] xs) ≡ length (once xs)
gathered_length xs = let e : length (once (without [] xs)) ≡ length (once xs) = ap (λ ys. length (once ys)) (without_none xs) in omega
    (arith, gathered_once [] xs, e)
