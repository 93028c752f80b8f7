-- No commit follows a history that leaves no token.
use Rattle.std.proofs.Common.{◌≡◌, ℕ, ◌<◌, List, [], ◌∷◌, ◌++◌, map, length, refl, sym, ◌∙◌, subst, arith, length-append}
use Rattle.std.proofs.lemmas.List.{append-nil}
use Rattle.std.proofs.lemmas.List.Sorted.{IsPermutation-refl, length_permutation}
use mathlib.Core.Option.{some}
use mathlib.Core.List.{map-append}
use lib.ListN.{get_elem?}
use Rattle.tags.specs.declared.token.Token.{Token}
use Rattle.semantics.specs.Pool as pool
use Rattle.semantics.specs.Pool.{LeavesPool}
use Rattle.mesh.specs.declared.view.Commit.{Commit}
use Rattle.mesh.specs.declared.view.Part.{Part}
use Rattle.mesh.specs.declared.view.View.{View}
use Rattle.mesh.specs.Deeds.{entry, Busy}
use Rattle.mesh.specs.Rule.{Leaves, Includes}

abbrev Ts : Type 0
Ts = List Token

-- how many tokens are left does not depend on which were taken
same_count : (n : ℕ) (xs ys : Ts) (h : List pool.Commit) (a b : Ts) → length xs ≡ length ys → LeavesPool n xs h a → LeavesPool n ys h b → length a ≡ length b
same_count n xs ys [] a b same p q = let l = length_permutation xs a p in let m = length_permutation ys b q in omega arith
same_count n xs ys (c ∷ later) a b same p q =
    let l : length (c.spent ++ p.0) ≡ length xs = length_permutation xs (c.spent ++ p.0) p.1 in let m : length (c.spent ++ q.0)
    ≡ length ys = length_permutation ys (c.spent ++ q.0) q.1 in
    let l' = length-append c.spent p.0 in let m' = length-append c.spent q.0 in let l'' = length-append c.made p.0 in let m'' = length-append c.made q.0 in
    same_count n (c.made ++ p.0) (c.made ++ q.0) later a b (omega arith) p.3 q.3

-- the pool between two parts of a history
cut : (n : ℕ) (xs : Ts) (h more : List pool.Commit) (last : Ts) → LeavesPool n xs (h ++ more) last → (mid : Ts) × LeavesPool n xs h mid
    × LeavesPool n mid more last
cut n xs [] more last p = (xs, IsPermutation-refl xs, p)
cut n xs (c ∷ later) more last p = let r = cut n (c.made ++ p.0) later more last p.3 in (r.0, (p.0, p.1, p.2, r.1), r.2)

none_more : (n : ℕ) (xs : Ts) (c : pool.Commit) (more : List pool.Commit) (last : Ts) → length xs ≡ 0 → 0 < length c.spent → LeavesPool n xs (c ∷ more) last → ⊥
none_more n xs c more last empty any p = let l : length (c.spent ++ p.0) ≡ length xs = length_permutation xs (c.spent ++ p.0) p.1
    in let m = length-append c.spent p.0 in omega arith

at_middle : (h : List Commit) (c : Commit) (more : List Commit) → get_elem? (h ++ c ∷ more) (length h) ≡ some c
at_middle [] c more = refl
at_middle (x ∷ h) c more = at_middle h c more

pub ends : (n : ℕ) (first : Ts) (h more : List Commit) (last : Ts) → LeavesPool n first (map entry h) [] → LeavesPool n first (map entry (h ++ more))
    last → Busy (h ++ more) → h ≡ h ++ more
ends n first h [] last a b busy = sym (append-nil h)
ends n first h (c ∷ more) last a b busy =
    let b' : LeavesPool n first (map entry h ++ map entry (c ∷ more)) last = subst (λ (z : List pool.Commit). LeavesPool n first z last)
    (map-append entry h (c ∷ more)) b in
    let r = cut n first (map entry h) (map entry (c ∷ more)) last b' in
    let empty : length r.0 ≡ length {A = Token} [] = same_count n first first (map entry h) r.0 [] refl r.1 a in
    absurd (none_more n r.0 (entry c) (map entry more) last empty (busy (length h) c (at_middle h c more)) r.2)

-- a history that some part saw, and that leaves nothing, is the whole
pub finished : (v : View) (count : ℕ) (p : Part) (i : ℕ) → Leaves v count → Includes v → get_elem? v.parts i ≡ some p
    → LeavesPool v.elements v.start (map entry p.last) [] → p.last ≡ v.seen
finished v count p i legal all at empty =
    let pre = all i p at in
    ends v.elements v.start p.last pre.0 legal.0 empty (subst (λ (z : List Commit). LeavesPool v.elements v.start (map entry z) legal.0) (sym pre.1)
    legal.1) (subst Busy (sym pre.1) legal.3) ∙ pre.1
