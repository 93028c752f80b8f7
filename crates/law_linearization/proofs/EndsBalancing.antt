-- What a history leaves is what the elements hold and what lies in their boxes.
use Rattle.std.proofs.Common.{◌≡◌, ◌≢◌, refl, sym, ◌∙◌, ap, subst, ℕ, zero, suc, ◌<◌, ◌≤◌, Bool, true, false, List, [], ◌∷◌, ◌++◌, append_assoc, arith}
use Rattle.std.specs.Prelude.{IsPermutation, ◌==◌, if◌then◌else◌, map, nat_lt}
use Rattle.std.proofs.lemmas.Bool.{eqb-true, eqb-false, eq-eqb, ne_eqb, ltb-true, ltb-false}
use Rattle.std.proofs.lemmas.List.{append-nil}
use Rattle.std.proofs.lemmas.List.Sorted.{IsPermutation-refl, IsPermutation-sym, IsPermutation-trans, IsPermutation-append, IsPermutation-append_comm}
use Rattle.lemmas.proofs.Permutations.{permutation_cancel, permutation_exchange}
use Rattle.tags.specs.declared.token.Token.{Token}
use Rattle.semantics.specs.Pool.{LeavesPool}
use Rattle.mesh.specs.declared.view.Commit.{Commit}
use Rattle.mesh.specs.declared.view.Deed.{Deed}
use Rattle.mesh.specs.declared.view.Deed.TheVariants.{Committed, Posted, FoundFull, Took, FoundEmpty, SawLive, Stopped, SawStop}
use Rattle.mesh.specs.Deeds.{posted, taken, commits_of, commits_by, if_by, entry}
use Rattle.law_linearization.specs.HistoryLaws.{made_of, spent_of, joined, all_posted, all_taken, all_of, WhatIsLeft}
use Rattle.law_linearization.proofs.HistoryReordering.{behind}

abbrev Tokens : Type 0
Tokens = List Token

pub same_perm : (a b : Tokens) → a ≡ b → IsPermutation a b
same_perm a b e = subst (IsPermutation a) e (IsPermutation-refl a)

pub then_perm : {a b c : Tokens} → IsPermutation a b → IsPermutation b c → IsPermutation a c
then_perm {a} {b} {c} p q = IsPermutation-trans a b c p q

-- ALL OF SO MANY
pub all_perm : (n : ℕ) (f g : ℕ → Tokens) → ((e : ℕ) → e < n → IsPermutation (f e) (g e)) → IsPermutation (all_of n f) (all_of n g)
all_perm zero f g h = IsPermutation-refl []
all_perm (suc n) f g h = IsPermutation-append (all_of n f) (all_of n g) (f n) (g n) (all_perm n f g (λ e l. h e (omega (arith, l)))) (h n (omega arith))

-- (a ++ b) ++ (c ++ d) and (a ++ c) ++ (b ++ d)
crossed : (a b c d : Tokens) → IsPermutation ((a ++ b) ++ (c ++ d)) ((a ++ c) ++ (b ++ d))
crossed a b c d =
    let one = same_perm ((a ++ b) ++ (c ++ d)) (a ++ (b ++ (c ++ d))) (append_assoc a b (c ++ d)) in
    let two = behind a (b ++ (c ++ d)) (c ++ (b ++ d)) (permutation_exchange b c d) in
    let three = same_perm (a ++ (c ++ (b ++ d))) ((a ++ c) ++ (b ++ d)) (sym (append_assoc a c (b ++ d))) in
    then_perm one (then_perm two three)

pub all_both : (n : ℕ) (f g : ℕ → Tokens) → IsPermutation (all_of n (λ e. f e ++ g e)) (all_of n f ++ all_of n g)
all_both zero f g = IsPermutation-refl []
all_both (suc n) f g =
    let ih = IsPermutation-append (all_of n (λ e. f e ++ g e)) (all_of n f ++ all_of n g) (f n ++ g n) (f n ++ g n) (all_both n f g)
    (IsPermutation-refl (f n ++ g n)) in
    then_perm ih (crossed (all_of n f) (all_of n g) (f n) (g n))

all_none : (n : ℕ) (f : ℕ → Tokens) → ((e : ℕ) → e < n → f e ≡ []) → all_of n f ≡ []
all_none zero f h = refl
all_none (suc n) f h = ap (λ (l : Tokens). l ++ f n) (all_none n f (λ e l. h e (omega (arith, l)))) ∙ h n (omega arith)

-- rows first or columns first
exchanged : (n m : ℕ) (f : ℕ → ℕ → Tokens) → IsPermutation (all_of n (λ a. all_of m (λ b. f a b))) (all_of m (λ b. all_of n (λ a. f a b)))
exchanged zero m f = same_perm [] (all_of m (λ b. [])) (sym (all_none m (λ b. []) (λ e l. refl)))
exchanged (suc n) m f =
    let ih = IsPermutation-append (all_of n (λ a. all_of m (λ b. f a b))) (all_of m (λ b. all_of n (λ a. f a b))) (all_of m (λ b. f n b))
    (all_of m (λ b. f n b)) (exchanged n m f) (IsPermutation-refl (all_of m (λ b. f n b))) in
    then_perm ih (IsPermutation-sym (all_of m (λ b. all_of n (λ a. f a b) ++ f n b)) (all_of m (λ b. all_of n (λ a. f a b)) ++ all_of m (λ b. f n b))
    (all_both m (λ b. all_of n (λ a. f a b)) (λ b. f n b)))

-- where all but one are empty
one_of : (n k : ℕ) (f : ℕ → Tokens) → k < n → ((e : ℕ) → e ≢ k → f e ≡ []) → all_of n f ≡ f k
one_of zero k f lt others = absurd (omega (arith, lt))
one_of (suc n) k f lt others = by_case (n == k) refl (λ l. one_of n k f l others) where
  by_case : (t : Bool) → (n == k) ≡ t → (k < n → all_of n f ≡ f k) → all_of (suc n) f ≡ f k
  by_case true t again =
      let same = eqb-true n k t in
      ap (λ (l : Tokens). l ++ f n) (all_none n f (λ e l. others e (λ s. let at : n ≡ k = same in omega (arith, l, s, at)))) ∙ ap f same
  by_case false t again =
      let other = eqb-false n k t in
      let below : k < n = omega (arith, lt, other) in
      ap (λ (l : Tokens). l ++ f n) (again below) ∙ ap (λ (l : Tokens). f k ++ l) (others n other) ∙ append-nil (f k)

-- COMMITS
abbrev over : (Commit → Tokens) → List Commit → Tokens
over pick [] = []
over pick (c ∷ log) = pick c ++ over pick log

over_append : (pick : Commit → Tokens) (xs ys : List Commit) → over pick (xs ++ ys) ≡ over pick xs ++ over pick ys
over_append pick [] ys = refl
over_append pick (x ∷ xs) ys = ap (λ (l : Tokens). pick x ++ l) (over_append pick xs ys) ∙ sym (append_assoc (pick x) (over pick xs) (over pick ys))

-- what is made and spent along a legal history
history : (n : ℕ) (start last : Tokens) (log : List Commit) → LeavesPool n start (map entry log) last
    → IsPermutation (start ++ over (λ c. c.made) log) (last ++ over (λ c. c.spent) log)
history n start last [] leaves = IsPermutation-append start last [] [] leaves (IsPermutation-refl [])
history n start last (c ∷ log) leaves =
    let m = over (λ (d : Commit). d.made) log in
    let s = over (λ (d : Commit). d.spent) log in
    let rest = leaves.0 in
    let ih = history n (c.made ++ rest) last log leaves.3 in
    let one = IsPermutation-append start (c.spent ++ rest) (c.made ++ m) (c.made ++ m) leaves.1 (IsPermutation-refl (c.made ++ m)) in
    let two = same_perm ((c.spent ++ rest) ++ (c.made ++ m)) (c.spent ++ (rest ++ (c.made ++ m))) (append_assoc c.spent rest (c.made ++ m)) in
    let three = behind c.spent (rest ++ (c.made ++ m)) (c.made ++ (rest ++ m)) (permutation_exchange rest c.made m) in
    let four = behind c.spent (c.made ++ (rest ++ m)) (last ++ s)
    (then_perm (same_perm (c.made ++ (rest ++ m)) ((c.made ++ rest) ++ m) (sym (append_assoc c.made rest m))) ih) in
    then_perm one (then_perm two (then_perm three (then_perm four (permutation_exchange c.spent last s))))

-- element by element
by_elements : (pick : Commit → Tokens) (n : ℕ) (log : List Commit) → ((e : ℕ) → n ≤ e → commits_by e log ≡ [])
    → IsPermutation (over pick log) (all_of n (λ e. over pick (commits_by e log)))
by_elements pick n [] none = same_perm [] (all_of n (λ e. [])) (sym (all_none n (λ e. []) (λ e l. refl)))
by_elements pick n (c ∷ log) none =
    let f : ℕ → Tokens = λ e. over pick (if_by e c) in
    let g : ℕ → Tokens = λ e. over pick (commits_by e log) in
    let below : c.element < n = below_all n c log none in
    let ih = by_elements pick n log (λ e l. later_none e c log (none e l)) in
    let own : f c.element ≡ pick c = ap (λ (t : Bool). over pick (if t then c ∷ [] else [])) (eq-eqb c.element c.element refl) ∙ append-nil (pick c) in
    let mine : all_of n f ≡ pick c = one_of n c.element f below
    (λ e ne. ap (λ (t : Bool). over pick (if t then c ∷ [] else [])) (ne_eqb c.element e (λ (s : c.element ≡ e). ne (sym s)))) ∙ own in
    let both = all_both n f g in
    let whole : IsPermutation (all_of n (λ e. over pick (commits_by e (c ∷ log)))) (all_of n (λ e. f e ++ g e)) =
    all_perm n (λ e. over pick (commits_by e (c ∷ log))) (λ e. f e ++ g e)
    (λ e l. same_perm (over pick (commits_by e (c ∷ log))) (f e ++ g e) (over_append pick (if_by e c) (commits_by e log))) in
    let parts = then_perm whole both in
    let lead = IsPermutation-append (pick c) (all_of n f) (over pick log) (all_of n g) (same_perm (pick c) (all_of n f) (sym mine)) ih in
    then_perm lead (IsPermutation-sym (all_of n (λ e. over pick (commits_by e (c ∷ log)))) (all_of n f ++ all_of n g) parts)
  where
    not_none : (t : Bool) (c : Commit) (rest : List Commit) → t ≡ true → (if t then c ∷ [] else []) ++ rest ≡ [] → ⊥
    not_none true c rest e h = cc
    not_none false c rest e h = cc

    below_by : (n : ℕ) (c : Commit) (log : List Commit) → ((e : ℕ) → n ≤ e → commits_by e (c ∷ log) ≡ []) → (t : Bool) → nat_lt c.element n ≡ t → c.element < n
    below_by n c log none true t = ltb-true c.element n t
    below_by n c log none false t =
        absurd (not_none (c.element == c.element) c (commits_by c.element log) (eq-eqb c.element c.element refl) (none c.element (ltb-false c.element n t)))

    below_all : (n : ℕ) (c : Commit) (log : List Commit) → ((e : ℕ) → n ≤ e → commits_by e (c ∷ log) ≡ []) → c.element < n
    below_all n c log none = below_by n c log none (nat_lt c.element n) refl

    nothing_after : (xs ys : List Commit) → xs ++ ys ≡ [] → ys ≡ []
    nothing_after [] ys h = h
    nothing_after (x ∷ xs) ys h = cc

    later_none : (e : ℕ) (c : Commit) (log : List Commit) → commits_by e (c ∷ log) ≡ [] → commits_by e log ≡ []
    later_none e c log h = nothing_after (if_by e c) (commits_by e log) h

made_is : (e : ℕ) (ds : List Deed) → over (λ c. c.made) (commits_of e ds) ≡ made_of ds
made_is e [] = refl
made_is e (Committed spent made ∷ ds) = ap (λ (l : Tokens). made ++ l) (made_is e ds)
made_is e (Posted to x ∷ ds) = made_is e ds
made_is e (FoundFull to x ∷ ds) = made_is e ds
made_is e (Took from x ∷ ds) = made_is e ds
made_is e (FoundEmpty from ∷ ds) = made_is e ds
made_is e (SawLive count ∷ ds) = made_is e ds
made_is e (Stopped reason found ∷ ds) = made_is e ds
made_is e (SawStop found ∷ ds) = made_is e ds

spent_is : (e : ℕ) (ds : List Deed) → over (λ c. c.spent) (commits_of e ds) ≡ spent_of ds
spent_is e [] = refl
spent_is e (Committed spent made ∷ ds) = ap (λ (l : Tokens). spent ++ l) (spent_is e ds)
spent_is e (Posted to x ∷ ds) = spent_is e ds
spent_is e (FoundFull to x ∷ ds) = spent_is e ds
spent_is e (Took from x ∷ ds) = spent_is e ds
spent_is e (FoundEmpty from ∷ ds) = spent_is e ds
spent_is e (SawLive count ∷ ds) = spent_is e ds
spent_is e (Stopped reason found ∷ ds) = spent_is e ds
spent_is e (SawStop found ∷ ds) = spent_is e ds

-- BOXES
posted_is : (n : ℕ) (ds : List Deed) → all_posted n ds ≡ all_of n (λ b. joined (posted b ds))
posted_is zero ds = refl
posted_is (suc n) ds = ap (λ (l : Tokens). l ++ joined (posted n ds)) (posted_is n ds)

taken_is : (n : ℕ) (ds : List Deed) → all_taken n ds ≡ all_of n (λ a. joined (taken a ds))
taken_is zero ds = refl
taken_is (suc n) ds = ap (λ (l : Tokens). l ++ joined (taken n ds)) (taken_is n ds)

-- what all posted is what all took, and the boxes
all_boxes : (n : ℕ) (deeds : ℕ → List Deed) (boxes : ℕ → ℕ → Tokens)
    → ((a b : ℕ) → a < n → b < n → joined (posted b (deeds a)) ≡ joined (taken a (deeds b)) ++ boxes a b)
    → IsPermutation (all_of n (λ a. all_posted n (deeds a))) (all_of n (λ b. all_taken n (deeds b)) ++ all_of n (λ a. all_of n (λ b. boxes a b)))
all_boxes n deeds boxes h =
    let row : (a : ℕ) → a < n → IsPermutation (all_posted n (deeds a)) (all_of n (λ b. joined (taken a (deeds b))) ++ all_of n (λ b. boxes a b)) =
    λ a l. then_perm (same_perm (all_posted n (deeds a)) (all_of n (λ b. joined (posted b (deeds a)))) (posted_is n (deeds a)))
    (then_perm (all_perm n (λ b. joined (posted b (deeds a))) (λ b. joined (taken a (deeds b)) ++ boxes a b)
    (λ b k. same_perm (joined (posted b (deeds a))) (joined (taken a (deeds b)) ++ boxes a b) (h a b l k)))
    (all_both n (λ b. joined (taken a (deeds b))) (λ b. boxes a b))) in
    let rows = then_perm (all_perm n (λ a. all_posted n (deeds a)) (λ a. all_of n (λ b. joined (taken a (deeds b))) ++ all_of n (λ b. boxes a b)) row)
    (all_both n (λ a. all_of n (λ b. joined (taken a (deeds b)))) (λ a. all_of n (λ b. boxes a b))) in
    let turn = exchanged n n (λ a b. joined (taken a (deeds b))) in
    let names = all_perm n (λ b. all_of n (λ a. joined (taken a (deeds b)))) (λ b. all_taken n (deeds b))
    (λ b l. same_perm (all_of n (λ a. joined (taken a (deeds b)))) (all_taken n (deeds b)) (sym (taken_is n (deeds b)))) in
    then_perm rows (IsPermutation-append (all_of n (λ a. all_of n (λ b. joined (taken a (deeds b))))) (all_of n (λ b. all_taken n (deeds b)))
    (all_of n (λ a. all_of n (λ b. boxes a b))) (all_of n (λ a. all_of n (λ b. boxes a b)))
    (then_perm turn names) (IsPermutation-refl (all_of n (λ a. all_of n (λ b. boxes a b)))))

-- THE ACCOUNTS OF ALL
-- began, made, took; held, spent, posted
settled : (b m t h s p x start last ml sl : Tokens) → IsPermutation (b ++ (m ++ t)) (h ++ (s ++ p)) → IsPermutation p (t ++ x) → IsPermutation start b
    → IsPermutation ml m → IsPermutation sl s
    → IsPermutation (start ++ ml) (last ++ sl) → IsPermutation last (h ++ x)
settled b m t h s p x start last ml sl balance boxes begins made spent went =
    let left = then_perm (IsPermutation-append_comm t (b ++ m)) (same_perm ((b ++ m) ++ t) (b ++ (m ++ t)) (append_assoc b m t)) in
    let inner = then_perm (behind s p (t ++ x) boxes) (permutation_exchange s t x) in
    let right = then_perm (behind h (s ++ p) (t ++ (s ++ x)) inner) (permutation_exchange h t (s ++ x)) in
    let less = permutation_cancel t (b ++ m) (h ++ (s ++ x)) (then_perm left (then_perm balance right)) in
    let log = then_perm (IsPermutation-append b start m ml (IsPermutation-sym start b begins) (IsPermutation-sym ml m made))
    (then_perm went (IsPermutation-append last last sl s (IsPermutation-refl last) spent)) in
    let whole = then_perm (IsPermutation-append_comm s last)
    (then_perm (IsPermutation-sym (b ++ m) (last ++ s) log) (then_perm less (permutation_exchange h s x))) in
    permutation_cancel s last (h ++ x) whole

pub what_is_left : WhatIsLeft
what_is_left n start last log deeds held began boxes leaves none commits balanced begins agree =
    let made : ℕ → Tokens = λ e. made_of (deeds e) in
    let spent : ℕ → Tokens = λ e. spent_of (deeds e) in
    let took : ℕ → Tokens = λ e. all_taken n (deeds e) in
    let sent : ℕ → Tokens = λ e. all_posted n (deeds e) in
    let sum = all_perm n (λ e. began e ++ (made e ++ took e)) (λ e. held e ++ (spent e ++ sent e)) balanced in
    let left = then_perm (all_both n began (λ e. made e ++ took e))
    (behind (all_of n began) (all_of n (λ e. made e ++ took e)) (all_of n made ++ all_of n took) (all_both n made took)) in
    let right = then_perm (all_both n held (λ e. spent e ++ sent e))
    (behind (all_of n held) (all_of n (λ e. spent e ++ sent e)) (all_of n spent ++ all_of n sent) (all_both n spent sent)) in
    let balance = then_perm (IsPermutation-sym (all_of n (λ e. began e ++ (made e ++ took e))) (all_of n began ++ (all_of n made ++ all_of n took)) left)
    (then_perm sum right) in
    let ml = then_perm (by_elements (λ c. c.made) n log none)
    (all_perm n (λ e. over (λ c. c.made) (commits_by e log)) made
    (λ e l. same_perm (over (λ c. c.made) (commits_by e log)) (made e) (ap (over (λ c. c.made)) (commits e l) ∙ made_is e (deeds e)))) in
    let sl = then_perm (by_elements (λ c. c.spent) n log none)
    (all_perm n (λ e. over (λ c. c.spent) (commits_by e log)) spent
    (λ e l. same_perm (over (λ c. c.spent) (commits_by e log)) (spent e) (ap (over (λ c. c.spent)) (commits e l) ∙ spent_is e (deeds e)))) in
    settled (all_of n began) (all_of n made) (all_of n took) (all_of n held) (all_of n spent) (all_of n sent)
    (all_of n (λ a. all_of n (λ b. boxes a b))) start last (over (λ c. c.made) log) (over (λ c. c.spent) log)
    balance (all_boxes n deeds boxes agree) begins ml sl (history n start last log leaves)
