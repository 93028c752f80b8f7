-- An account after one more deed.
use Rattle.std.proofs.Common.{◌≡◌, refl, sym, ◌∙◌, ap, ℕ, zero, suc, ◌<◌, List, [], ◌∷◌, ◌++◌, arith, append_assoc}
use mathlib.Core.Logic.{dite}
use native.Mathlib.Decide.{ℕ_discrete}
use Rattle.std.specs.Prelude.{IsPermutation}
use Rattle.std.proofs.lemmas.List.{append-nil}
use Rattle.std.proofs.lemmas.List.Sorted.{IsPermutation-refl, IsPermutation-sym, IsPermutation-trans, IsPermutation-append_left, IsPermutation-append_right}
use Rattle.law_confluence.proofs.Orders.{shuffled, Part as Piece, ◌⊕◌, at_first, at_last}
use Rattle.tags.specs.declared.token.Token.{Token}
use Rattle.mesh.specs.declared.view.Deed.{Deed}
use Rattle.mesh.specs.declared.view.Deed.TheVariants.{Committed, Posted, FoundFull, Took, FoundEmpty, SawLive, Stopped, SawStop}
use Rattle.mesh.specs.Deeds.{Bundle, posts, posted, takes_from, taken, commits_in}
use Rattle.mesh.proofs.Deeds.{posted_more, taken_more, posted_same, taken_same, posts_here, posts_else, takes_here, takes_else}
use Rattle.law_linearization.specs.HistoryLaws.{made_of, spent_of, joined, all_posted, all_taken}
use Rattle.law_linearization.proofs.EndsJoining.{joined_append}

abbrev Ts : Type 0
Ts = List Token

-- a deed that makes, spends, posts and takes nothing
pub record IsQuiet (d : Deed) : Type 0 where
  pub made : made_of (d ∷ []) ≡ []
  pub spent : spent_of (d ∷ []) ≡ []
  pub posts : (b : ℕ) → posts b d ≡ []
  pub takes : (a : ℕ) → takes_from a d ≡ []
  pub commits : (e : ℕ) → commits_in e d ≡ []

pub found_full : (to : ℕ) (x : Bundle) → IsQuiet (FoundFull to x)
found_full to x = record { made = refl; spent = refl; posts = λ b. refl; takes = λ a. refl; commits = λ e. refl }

pub found_empty : (from : ℕ) → IsQuiet (FoundEmpty from)
found_empty from = record { made = refl; spent = refl; posts = λ b. refl; takes = λ a. refl; commits = λ e. refl }

pub saw_live : (count : ℕ) → IsQuiet (SawLive count)
saw_live count = record { made = refl; spent = refl; posts = λ b. refl; takes = λ a. refl; commits = λ e. refl }

pub saw_stop : (found : ℕ) → IsQuiet (SawStop found)
saw_stop found = record { made = refl; spent = refl; posts = λ b. refl; takes = λ a. refl; commits = λ e. refl }

pub tried_stop : (reason found : ℕ) → IsQuiet (Stopped reason found)
tried_stop reason found = record { made = refl; spent = refl; posts = λ b. refl; takes = λ a. refl; commits = λ e. refl }

made_more : (ds : List Deed) (d : Deed) → made_of (ds ++ d ∷ []) ≡ made_of ds ++ made_of (d ∷ [])
made_more [] d = refl
made_more (Committed spent made ∷ ds) d = ap (λ (l : Ts). made ++ l) (made_more ds d) ∙ sym (append_assoc made (made_of ds) (made_of (d ∷ [])))
made_more (Posted to x ∷ ds) d = made_more ds d
made_more (FoundFull to x ∷ ds) d = made_more ds d
made_more (Took from x ∷ ds) d = made_more ds d
made_more (FoundEmpty from ∷ ds) d = made_more ds d
made_more (SawLive count ∷ ds) d = made_more ds d
made_more (Stopped reason found ∷ ds) d = made_more ds d
made_more (SawStop found ∷ ds) d = made_more ds d

spent_more : (ds : List Deed) (d : Deed) → spent_of (ds ++ d ∷ []) ≡ spent_of ds ++ spent_of (d ∷ [])
spent_more [] d = refl
spent_more (Committed spent made ∷ ds) d = ap (λ (l : Ts). spent ++ l) (spent_more ds d) ∙ sym (append_assoc spent (spent_of ds) (spent_of (d ∷ [])))
spent_more (Posted to x ∷ ds) d = spent_more ds d
spent_more (FoundFull to x ∷ ds) d = spent_more ds d
spent_more (Took from x ∷ ds) d = spent_more ds d
spent_more (FoundEmpty from ∷ ds) d = spent_more ds d
spent_more (SawLive count ∷ ds) d = spent_more ds d
spent_more (Stopped reason found ∷ ds) d = spent_more ds d
spent_more (SawStop found ∷ ds) d = spent_more ds d

-- a deed that takes nothing from the first n
taken_still : (n : ℕ) (ds : List Deed) (d : Deed) → ((a : ℕ) → a < n → takes_from a d ≡ []) → all_taken n (ds ++ d ∷ []) ≡ all_taken n ds
taken_still zero ds d none = refl
taken_still (suc n) ds d none =
    ap (λ (l : Ts). l ++ joined (taken n (ds ++ d ∷ []))) (taken_still n ds d (λ a l. none a (omega (arith, l))))
    ∙ ap (λ (l : List Bundle). all_taken n ds ++ joined l) (taken_same n ds d (none n (omega arith)))

posted_still : (n : ℕ) (ds : List Deed) (d : Deed) → ((a : ℕ) → a < n → posts a d ≡ []) → all_posted n (ds ++ d ∷ []) ≡ all_posted n ds
posted_still zero ds d none = refl
posted_still (suc n) ds d none =
    ap (λ (l : Ts). l ++ joined (posted n (ds ++ d ∷ []))) (posted_still n ds d (λ a l. none a (omega (arith, l))))
    ∙ ap (λ (l : List Bundle). all_posted n ds ++ joined l) (posted_same n ds d (none n (omega arith)))

-- a bundle more at the end of one row
row_more : (row : List Bundle) (x : Bundle) → joined (row ++ x ∷ []) ≡ joined row ++ x
row_more row x = joined_append row (x ∷ []) ∙ ap (λ (l : Ts). joined row ++ l) (append-nil x)

behind_row : (a x j : Ts) → IsPermutation ((a ++ x) ++ j) ((a ++ j) ++ x)
behind_row a x j = shuffled (a ∷ x ∷ j ∷ []) ((Piece 0 ⊕ Piece 1) ⊕ Piece 2) ((Piece 0 ⊕ Piece 2) ⊕ Piece 1) refl

taken_grows : (n : ℕ) (ds : List Deed) (a : ℕ) (x : Bundle) → a < n → IsPermutation (all_taken n (ds ++ Took a x ∷ [])) (all_taken n ds ++ x)
taken_grows zero ds a x low = absurd (omega (arith, low))
taken_grows (suc n) ds a x low = dite (ℕ_discrete n a)
    (λ hit.
    let still : all_taken n (ds ++ Took a x ∷ []) ≡ all_taken n ds = taken_still n ds (Took a x)
    (λ b l. takes_else b a x (λ (s : a ≡ b). omega (arith, l, s, hit))) in
    let row : taken n (ds ++ Took a x ∷ []) ≡ taken n ds ++ x ∷ [] = taken_more n ds (Took a x) ∙ ap (λ (l : List Bundle). taken n ds ++ l)
    (ap (λ (k : ℕ). takes_from k (Took a x)) hit ∙ takes_here a x) in
    at_first (ap (λ (l : Ts). l ++ joined (taken n (ds ++ Took a x ∷ []))) still ∙ ap (λ (l : List Bundle). all_taken n ds ++ joined l) row
    ∙ ap (λ (l : Ts). all_taken n ds ++ l) (row_more (taken n ds) x))
    (at_first (sym (append_assoc (all_taken n ds) (joined (taken n ds)) x)) (IsPermutation-refl ((all_taken n ds ++ joined (taken n ds)) ++ x))))
    (λ miss.
    let below : a < n = omega (arith, low, miss) in
    let row : taken n (ds ++ Took a x ∷ []) ≡ taken n ds = taken_same n ds (Took a x) (takes_else n a x (λ (s : a ≡ n). miss (sym s))) in
    at_first (ap (λ (l : List Bundle). all_taken n (ds ++ Took a x ∷ []) ++ joined l) row)
    (IsPermutation-trans _ _ _ (IsPermutation-append_left (joined (taken n ds)) (all_taken n (ds ++ Took a x ∷ [])) (all_taken n ds ++ x)
    (taken_grows n ds a x below)) (behind_row (all_taken n ds) x (joined (taken n ds)))))

posted_grows : (n : ℕ) (ds : List Deed) (a : ℕ) (x : Bundle) → a < n → IsPermutation (all_posted n (ds ++ Posted a x ∷ [])) (all_posted n ds ++ x)
posted_grows zero ds a x low = absurd (omega (arith, low))
posted_grows (suc n) ds a x low = dite (ℕ_discrete n a)
    (λ hit.
    let still : all_posted n (ds ++ Posted a x ∷ []) ≡ all_posted n ds = posted_still n ds (Posted a x)
    (λ b l. posts_else b a x (λ (s : a ≡ b). omega (arith, l, s, hit))) in
    let row : posted n (ds ++ Posted a x ∷ []) ≡ posted n ds ++ x ∷ [] = posted_more n ds (Posted a x) ∙ ap (λ (l : List Bundle). posted n ds ++ l)
    (ap (λ (k : ℕ). posts k (Posted a x)) hit ∙ posts_here a x) in
    at_first (ap (λ (l : Ts). l ++ joined (posted n (ds ++ Posted a x ∷ []))) still ∙ ap (λ (l : List Bundle). all_posted n ds ++ joined l) row
    ∙ ap (λ (l : Ts). all_posted n ds ++ l) (row_more (posted n ds) x))
    (at_first (sym (append_assoc (all_posted n ds) (joined (posted n ds)) x)) (IsPermutation-refl ((all_posted n ds ++ joined (posted n ds)) ++ x))))
    (λ miss.
    let below : a < n = omega (arith, low, miss) in
    let row : posted n (ds ++ Posted a x ∷ []) ≡ posted n ds = posted_same n ds (Posted a x) (posts_else n a x (λ (s : a ≡ n). miss (sym s))) in
    at_first (ap (λ (l : List Bundle). all_posted n (ds ++ Posted a x ∷ []) ++ joined l) row)
    (IsPermutation-trans _ _ _ (IsPermutation-append_left (joined (posted n ds)) (all_posted n (ds ++ Posted a x ∷ [])) (all_posted n ds ++ x)
    (posted_grows n ds a x below)) (behind_row (all_posted n ds) x (joined (posted n ds)))))

-- THE BALANCE
abbrev pub Balance : ℕ → Ts → List Deed → Ts → Type 0
Balance n began ds held = IsPermutation (began ++ (made_of ds ++ all_taken n ds)) (held ++ (spent_of ds ++ all_posted n ds))

pub still_balanced : (n : ℕ) (began held : Ts) (ds : List Deed) (d : Deed) → IsQuiet d → Balance n began ds held → Balance n began (ds ++ d ∷ []) held
still_balanced n began held ds d quiet b =
    let made : made_of (ds ++ d ∷ []) ≡ made_of ds = made_more ds d ∙ ap (λ (l : Ts). made_of ds ++ l) quiet.made ∙ append-nil (made_of ds) in
    let spent : spent_of (ds ++ d ∷ []) ≡ spent_of ds = spent_more ds d ∙ ap (λ (l : Ts). spent_of ds ++ l) quiet.spent ∙ append-nil (spent_of ds) in
    let took : all_taken n (ds ++ d ∷ []) ≡ all_taken n ds = taken_still n ds d (λ a l. quiet.takes a) in
    let post : all_posted n (ds ++ d ∷ []) ≡ all_posted n ds = posted_still n ds d (λ a l. quiet.posts a) in
    at_first (ap (λ (l : Ts). began ++ (l ++ all_taken n (ds ++ d ∷ []))) made ∙ ap (λ (l : Ts). began ++ (made_of ds ++ l)) took)
    (at_last b (ap (λ (l : Ts). held ++ (l ++ all_posted n ds)) (sym spent) ∙ ap (λ (l : Ts). held ++ (spent_of (ds ++ d ∷ []) ++ l)) (sym post)))

pub taken_balanced : (n : ℕ) (began held : Ts) (ds : List Deed) (a : ℕ) (x : Bundle) → a < n → Balance n began ds held
    → Balance n began (ds ++ Took a x ∷ []) (x ++ held)
taken_balanced n began held ds a x low b =
    let d : Deed = Took a x in
    let m = made_of ds in let s = spent_of ds in let t = all_taken n ds in let p = all_posted n ds in
    let made : made_of (ds ++ d ∷ []) ≡ m = made_more ds d ∙ append-nil m in
    let spent : spent_of (ds ++ d ∷ []) ≡ s = spent_more ds d ∙ append-nil s in
    let post : all_posted n (ds ++ d ∷ []) ≡ p = posted_still n ds d (λ k l. refl) in
    let grown : IsPermutation (began ++ (m ++ all_taken n (ds ++ d ∷ []))) (began ++ (m ++ (t ++ x))) = IsPermutation-append_right began _ _
    (IsPermutation-append_right m _ _ (taken_grows n ds a x low)) in
    let turn : IsPermutation (began ++ (m ++ (t ++ x))) (x ++ (began ++ (m ++ t))) = shuffled (began ∷ m ∷ t ∷ x ∷ [])
    (Piece 0 ⊕ (Piece 1 ⊕ (Piece 2 ⊕ Piece 3))) (Piece 3 ⊕ (Piece 0 ⊕ (Piece 1 ⊕ Piece 2))) refl in
    let both : IsPermutation (x ++ (began ++ (m ++ t))) (x ++ (held ++ (s ++ p))) = IsPermutation-append_right x _ _ b in
    at_first (ap (λ (l : Ts). began ++ (l ++ all_taken n (ds ++ d ∷ []))) made)
    (at_last (IsPermutation-trans _ _ _ grown (IsPermutation-trans _ _ _ turn both))
    (sym (append_assoc x held (s ++ p)) ∙ ap (λ (l : Ts). (x ++ held) ++ (l ++ p)) (sym spent)
    ∙ ap (λ (l : Ts). (x ++ held) ++ (spent_of (ds ++ d ∷ []) ++ l)) (sym post)))

pub posted_balanced : (n : ℕ) (began held unposted : Ts) (ds : List Deed) (a : ℕ) (x : Bundle) → a < n → IsPermutation held (x ++ unposted)
    → Balance n began ds held → Balance n began (ds ++ Posted a x ∷ []) unposted
posted_balanced n began held unposted ds a x low out b =
    let d : Deed = Posted a x in
    let m = made_of ds in let s = spent_of ds in let t = all_taken n ds in let p = all_posted n ds in
    let made : made_of (ds ++ d ∷ []) ≡ m = made_more ds d ∙ append-nil m in
    let spent : spent_of (ds ++ d ∷ []) ≡ s = spent_more ds d ∙ append-nil s in
    let took : all_taken n (ds ++ d ∷ []) ≡ t = taken_still n ds d (λ k l. refl) in
    let less : IsPermutation (held ++ (s ++ p)) ((x ++ unposted) ++ (s ++ p)) = IsPermutation-append_left (s ++ p) held (x ++ unposted) out in
    let turn : IsPermutation ((x ++ unposted) ++ (s ++ p)) (unposted ++ (s ++ (p ++ x))) = shuffled (x ∷ unposted ∷ s ∷ p ∷ [])
    ((Piece 0 ⊕ Piece 1) ⊕ (Piece 2 ⊕ Piece 3)) (Piece 1 ⊕ (Piece 2 ⊕ (Piece 3 ⊕ Piece 0))) refl in
    let grown : IsPermutation (unposted ++ (s ++ (p ++ x))) (unposted ++ (s ++ all_posted n (ds ++ d ∷ []))) = IsPermutation-append_right unposted _ _
    (IsPermutation-append_right s _ _ (IsPermutation-sym _ _ (posted_grows n ds a x low))) in
    at_first (ap (λ (l : Ts). began ++ (l ++ all_taken n (ds ++ d ∷ []))) made ∙ ap (λ (l : Ts). began ++ (m ++ l)) took)
    (at_last (IsPermutation-trans _ _ _ b (IsPermutation-trans _ _ _ less (IsPermutation-trans _ _ _ turn grown)))
    (ap (λ (l : Ts). unposted ++ (l ++ all_posted n (ds ++ d ∷ []))) (sym spent)))

pub committed_balanced : (n : ℕ) (began held unposted spent made : Ts) (ds : List Deed) → IsPermutation held (spent ++ unposted)
    → Balance n began ds held → Balance n began (ds ++ Committed spent made ∷ []) (made ++ unposted)
committed_balanced n began held unposted spent made ds out b =
    let d : Deed = Committed spent made in
    let m = made_of ds in let s = spent_of ds in let t = all_taken n ds in let p = all_posted n ds in
    let makes : made_of (ds ++ d ∷ []) ≡ m ++ made = made_more ds d ∙ ap (λ (l : Ts). m ++ l) (append-nil made) in
    let spends : spent_of (ds ++ d ∷ []) ≡ s ++ spent = spent_more ds d ∙ ap (λ (l : Ts). s ++ l) (append-nil spent) in
    let took : all_taken n (ds ++ d ∷ []) ≡ t = taken_still n ds d (λ k l. refl) in
    let post : all_posted n (ds ++ d ∷ []) ≡ p = posted_still n ds d (λ k l. refl) in
    let front : IsPermutation (began ++ ((m ++ made) ++ t)) (made ++ (began ++ (m ++ t))) = shuffled (began ∷ m ∷ made ∷ t ∷ [])
    (Piece 0 ⊕ ((Piece 1 ⊕ Piece 2) ⊕ Piece 3)) (Piece 2 ⊕ (Piece 0 ⊕ (Piece 1 ⊕ Piece 3))) refl in
    let mid : IsPermutation (made ++ (began ++ (m ++ t))) (made ++ (held ++ (s ++ p))) = IsPermutation-append_right made _ _ b in
    let less : IsPermutation (made ++ (held ++ (s ++ p))) (made ++ ((spent ++ unposted) ++ (s ++ p))) = IsPermutation-append_right made _ _
    (IsPermutation-append_left (s ++ p) held (spent ++ unposted) out) in
    let turn : IsPermutation (made ++ ((spent ++ unposted) ++ (s ++ p))) ((made ++ unposted) ++ ((s ++ spent) ++ p)) = shuffled (made ∷ spent
    ∷ unposted ∷ s ∷ p ∷ []) (Piece 0 ⊕ ((Piece 1 ⊕ Piece 2) ⊕ (Piece 3 ⊕ Piece 4))) ((Piece 0 ⊕ Piece 2) ⊕ ((Piece 3 ⊕ Piece 1) ⊕ Piece 4)) refl in
    at_first (ap (λ (l : Ts). began ++ (l ++ all_taken n (ds ++ d ∷ []))) makes ∙ ap (λ (l : Ts). began ++ ((m ++ made) ++ l)) took)
    (at_last (IsPermutation-trans _ _ _ front (IsPermutation-trans _ _ _ mid (IsPermutation-trans _ _ _ less turn)))
    (ap (λ (l : Ts). (made ++ unposted) ++ (l ++ p)) (sym spends) ∙ ap (λ (l : Ts). (made ++ unposted) ++ (spent_of (ds ++ d ∷ []) ++ l)) (sym post)))

-- nothing done yet
pub first_balanced : (n : ℕ) (began : Ts) → Balance n began [] began
first_balanced n began =
    let took : all_taken n [] ≡ [] = none_taken n in
    let post : all_posted n [] ≡ [] = none_posted n in
    at_first (ap (λ (l : Ts). began ++ l) took) (at_last (IsPermutation-refl (began ++ [])) (ap (λ (l : Ts). began ++ l) (sym post)))
  where
    none_taken : (n : ℕ) → all_taken n [] ≡ []
    none_taken zero = refl
    none_taken (suc n) = ap (λ (l : Ts). l ++ []) (none_taken n)

    none_posted : (n : ℕ) → all_posted n [] ≡ []
    none_posted zero = refl
    none_posted (suc n) = ap (λ (l : Ts). l ++ []) (none_posted n)
