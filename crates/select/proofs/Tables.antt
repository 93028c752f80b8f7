-- The table of literals ascends, and has exactly the literals that instructions use.
use Rattle.std.proofs.Common.{◌≡◌, ℕ, zero, suc, ◌+◌, ◌≤◌, ℤ, Bool, true, false, Some, None, List, [], ◌∷◌, length, refl, ap, sym, ◌∙◌, subst, All}
use Rattle.std.proofs.Common.{Contains, cond, Ordering, add-one, arith}
use Rattle.std.specs.Prelude.{slice_get, int_lt, nat_lt}
use Rattle.std.specs.Ordering.{int_cmp, match_ordering}
use Rattle.std.specs.declared.cmp.Ordering.TheVariants.{Less, Equal, Greater}
use Rattle.std.specs.BTreeSet.{insert_key}
use Rattle.std.specs.List.Sorted.{IsStrictlySortedBy}
use Rattle.std.proofs.lemmas.List.Elements.{All-nil, All-cons, All-head, All-tail, All-contains, All-contains_itself, Contains-append_right}
use Rattle.std.proofs.lemmas.Map.Lookups.{exact_signed}
use Rattle.std.proofs.lemmas.Map.Keys.{sorted_tail}
use Rattle.std.proofs.lemmas.Map.Views.{All-insert_key, All-after_first}
use Rattle.lemmas.proofs.Contains.{contains_head}
use Rattle.semantics.specs.Program.{CodeBlock}
use Rattle.select.specs.Literals.{used_by, used_in, entered, table_of, first_too_far, IsAscending}
use Rattle.select.proofs.Steps.{entered_append}

all_with : {X : Type 0} {P Q : X → Type 0} (xs : List X) → ((x : X) → P x → Q x) → All P xs → All Q xs
all_with xs f h k d lt = f _ (h k d lt)

stands_later : {X : Type 0} (y x : X) (xs : List X) → Contains xs x → Contains (y ∷ xs) x
stands_later y x xs h = Contains-append_right (y ∷ []) xs x h

has_old : (k : ℤ) (xs : List ℤ) → All (Contains (insert_key int_cmp xs k)) xs
has_old k [] = All-nil (Contains (k ∷ []))
has_old k (x ∷ xs) = by (int_cmp k x) (has_old k xs)
  where
    by : (r : Ordering) → All (Contains (insert_key int_cmp xs k)) xs
        → All (Contains (match_ordering r (k ∷ x ∷ xs) (x ∷ xs) (x ∷ insert_key int_cmp xs k))) (x ∷ xs)
    by Less h = all_with (x ∷ xs) (λ z. stands_later k z (x ∷ xs)) (All-contains_itself (x ∷ xs))
    by Equal h = All-contains_itself (x ∷ xs)
    by Greater h = All-cons (Contains (x ∷ insert_key int_cmp xs k)) x xs (contains_head x (insert_key int_cmp xs k))
        (all_with xs (λ z. stands_later x z (insert_key int_cmp xs k)) h)

has_new : (k : ℤ) (xs : List ℤ) → Contains (insert_key int_cmp xs k) k
has_new k [] = contains_head k []
has_new k (x ∷ xs) = by (int_cmp k x) refl (has_new k xs)
  where
    by : (r : Ordering) → int_cmp k x ≡ r → Contains (insert_key int_cmp xs k) k
        → Contains (match_ordering r (k ∷ x ∷ xs) (x ∷ xs) (x ∷ insert_key int_cmp xs k)) k
    by Less e h = contains_head k (x ∷ xs)
    by Equal e h = let same : k ≡ x = exact_signed k x e in subst (λ (z : ℤ). Contains (z ∷ xs) k) same (contains_head k xs)
    by Greater e h = stands_later x k (insert_key int_cmp xs k) h

kept : (zs table : List ℤ) (z : ℤ) → Contains table z → Contains (entered table zs) z
kept [] table z h = h
kept (y ∷ zs) table z h = kept zs (insert_key int_cmp table y) z (All-contains (Contains (insert_key int_cmp table y)) table z (has_old y table) h)

has_all : (zs table : List ℤ) → All (Contains (entered table zs)) zs
has_all [] table = All-nil (Contains table)
has_all (z ∷ zs) table =
    let more = insert_key int_cmp table z in
    All-cons (Contains (entered more zs)) z zs (kept zs more z (has_new z table)) (has_all zs more)

has_only : (P : ℤ → Type 0) (zs table : List ℤ) → All P table → All P zs → All P (entered table zs)
has_only P [] table t a = t
has_only P (z ∷ zs) table t a = has_only P zs (insert_key int_cmp table z) (All-insert_key int_cmp z P table t (All-head P z zs a)) (All-tail P z zs a)

-- each literal that is used is in the table
pub table_has : (cs : List CodeBlock) → All (Contains (table_of cs)) (used_in cs)
table_has cs = has_all (used_in cs) []

-- each literal of the table is used
pub table_only : (cs : List CodeBlock) → All (Contains (used_in cs)) (table_of cs)
table_only cs = has_only (Contains (used_in cs)) (used_in cs) [] (All-nil (Contains (used_in cs))) (All-contains_itself (used_in cs))

below : (x y : ℤ) (r s : Bool) → int_lt x y ≡ r → cond r Less (cond s Greater Equal) ≡ Less → int_lt x y ≡ true
below x y true s e h = e
below x y false true e h = cc
below x y false false e h = cc

less_is : (x y : ℤ) → int_cmp x y ≡ Less → int_lt x y ≡ true
less_is x y h = below x y (int_lt x y) (int_lt y x) refl h

ascends : (zs : List ℤ) (k : ℕ) (y z : ℤ) → IsStrictlySortedBy int_cmp zs → slice_get zs k ≡ Some y → slice_get zs (suc k) ≡ Some z → int_lt y z ≡ true
ascends [] k y z s hy hz = cc
ascends (x ∷ []) zero y z s hy hz = cc
ascends (x ∷ w ∷ zs) zero y z s hy hz =
    let low : int_cmp x w ≡ Less = All-head (λ (q : ℤ). int_cmp x q ≡ Less) w zs (All-after_first int_cmp x (w ∷ zs) s) in
    let a : x ≡ y = cc in let b : w ≡ z = cc in
    less_is y z (ap (λ u. int_cmp u z) (sym a) ∙ ap (int_cmp x) (sym b) ∙ low)
ascends (x ∷ zs) (suc k) y z s hy hz = ascends zs k y z (sorted_tail int_cmp x zs s) hy hz

pub ascending : (zs : List ℤ) → IsStrictlySortedBy int_cmp zs → IsAscending zs
ascending zs s = record { steps = λ k y z hy hz. ascends zs k y z s hy (subst (λ n. slice_get zs n ≡ Some z) (add-one k) hz) }

not_above : (m n : ℕ) → nat_lt m n ≡ false → n ≤ m
not_above m n h = grind arith

none_in : (n : ℕ) (table : List ℤ) (c : CodeBlock) (cs : List CodeBlock) (r s : Bool) → nat_lt 32768 (length c.instrs) ≡ r
    → nat_lt 65536 (length (entered table (used_by c.instrs))) ≡ s
    → cond r (Some n) (cond s (Some n) (first_too_far (n + 1) (entered table (used_by c.instrs)) cs)) ≡ None
    → (length c.instrs ≤ 32768) × (length (entered table (used_by c.instrs)) ≤ 65536) × (first_too_far (n + 1) (entered table (used_by c.instrs)) cs ≡ None)
none_in n table c cs true s e f h = cc
none_in n table c cs false true e f h = cc
none_in n table c cs false false e f h = (not_above 32768 (length c.instrs) e, not_above 65536 _ f, h)

-- where no block is too far, each is short, and there are not too many literals
pub near : (cs : List CodeBlock) (n : ℕ) (table : List ℤ) → length table ≤ 65536 → first_too_far n table cs ≡ None
    → All (λ (c : CodeBlock). length c.instrs ≤ 32768) cs × (length (entered table (used_in cs)) ≤ 65536)
near [] n table few h = (All-nil (λ (c : CodeBlock). length c.instrs ≤ 32768), few)
near (c ∷ cs) n table few h =
    let more = entered table (used_by c.instrs) in
    let one = none_in n table c cs (nat_lt 32768 (length c.instrs)) (nat_lt 65536 (length more)) refl refl h in
    let rest = near cs (n + 1) more one.1 one.2 in (
      All-cons (λ (b : CodeBlock). length b.instrs ≤ 32768) c cs one.0 rest.0,
      subst (λ zs. length zs ≤ 65536)
          (sym (entered_append (used_by c.instrs) (used_in cs) table)) rest.1,
    )
