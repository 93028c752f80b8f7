-- A set of literals that is filled from a table.
use Rattle.std.proofs.Common.{◌≡◌, ℕ, ◌+◌, ◌<◌, ◌≤◌, not, ◌&&◌, ◌||◌, Bool, true, false, cond, List, [], ◌∷◌, length, get_or, drop, ℤ, refl, sym, ap, ◌∙◌}
use Rattle.std.proofs.Common.{Less, Equal, Greater}
use Rattle.std.proofs.Math.ListN.{drop_of_length-le}
use Rattle.std.specs.Prelude.{int_lt}
use Rattle.std.specs.Ordering.{int_cmp, is_eq}
use Rattle.std.specs.BTreeMap.{is_at}
use Rattle.std.specs.BTreeSet.{BTreeSet, contains_by, UpdatesBy}
use Rattle.std.specs.List.{list_any}
use Rattle.lemmas.proofs.Lists.{drop_opens}
use Rattle.assembler.specs.Checks.{is_same, has_literal, IsSetOf}

-- with the rest of the table, it has the literals of all of it
abbrev pub IsFilled : BTreeSet ℤ → List ℤ → List ℤ → Type 0
IsFilled set rest table = (z : ℤ) → (contains_by (int_cmp z) set || has_literal rest z) ≡ has_literal table z

pub empty_filled : (set : BTreeSet ℤ) (table : List ℤ) → set.keys ≡ [] → IsFilled set table table
empty_filled set table none z = ap (λ (ks : List ℤ). list_any (is_at (int_cmp z)) ks || has_literal table z) none

same_way : (x z : ℤ) → is_at (int_cmp x) z ≡ is_same z x
same_way x z = by (int_lt x z) (int_lt z x)
  where
    by : (a b : Bool) → is_eq (cond a Less (cond b Greater Equal)) ≡ (not a && not b)
    by true true = refl
    by true false = refl
    by false true = refl
    by false false = refl

pub one_more : (old new : BTreeSet ℤ) (x : ℤ) (zs table : List ℤ) (n : ℕ) → n < length zs → x ≡ get_or zs n x → UpdatesBy int_cmp (int_cmp x) old new true
    → IsFilled old (drop n zs) table → IsFilled new (drop (n + 1) zs) table
one_more old new x zs table n lt is updates filled z =
    let rest : Bool = has_literal (drop (n + 1) zs) z in
    ap (λ (b : Bool). b || rest) (updates.0 z ∙ ap (λ (b : Bool). cond b true (contains_by (int_cmp z) old)) (same_way x z))
    ∙ by (is_same z x) (contains_by (int_cmp z) old) rest
    ∙ sym (ap (λ (ys : List ℤ). contains_by (int_cmp z) old || has_literal ys z) (drop_opens zs n x lt is))
    ∙ filled z
  where
    by : (s a r : Bool) → (cond s true a || r) ≡ (a || (s || r))
    by true true r = refl
    by true false r = refl
    by false true r = refl
    by false false r = refl

pub all_filled : (set : BTreeSet ℤ) (zs table : List ℤ) (n : ℕ) → length zs ≤ n → IsFilled set (drop n zs) table → IsSetOf set table
all_filled set zs table n le filled z =
    sym (or_false (contains_by (int_cmp z) set))
    ∙ sym (ap (λ (ys : List ℤ). contains_by (int_cmp z) set || has_literal ys z) (drop_of_length-le zs le))
    ∙ filled z
  where
    or_false : (b : Bool) → (b || false) ≡ b
    or_false true = refl
    or_false false = refl
