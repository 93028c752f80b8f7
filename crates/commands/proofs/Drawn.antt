-- Picks, drawn one after the other.
use Rattle.std.proofs.Common.{◌≡◌, ◌<◌, ◌≤◌, ◌-◌, ◌+◌, ◌++◌, ◌∷◌, [], List, ℕ, zero, suc, ap, sym, ◌∙◌, arith, append_assoc, append-nil}
use Rattle.commands.specs.Ordered.{next_number, number_after, pick_of, picks_from}

one_pick : (e n i x : ℕ) → i < n → picks_from e (n - i) x ≡ pick_of e x ∷ picks_from e (n - (i + 1)) (next_number (next_number x))
unfolding picks_from
one_pick e n i x low =
    let less : n - i ≡ suc (n - (i + 1)) = omega (arith, low) in
    ap (λ m. picks_from e m x) less

-- one pick more
pub drawn_more : (e n i x y : ℕ) (picks all : List (ℕ × ℕ)) (pick : ℕ × ℕ) → i < n → pick ≡ pick_of e x → y ≡ next_number (next_number x)
    → picks ++ picks_from e (n - i) x ≡ all → (picks ++ pick ∷ []) ++ picks_from e (n - (i + 1)) y ≡ all
drawn_more e n i x y picks all pick low is next h =
    append_assoc picks (pick ∷ []) (picks_from e (n - (i + 1)) y)
    ∙ ap (λ p. picks ++ p ∷ picks_from e (n - (i + 1)) y) is
    ∙ ap (λ z. picks ++ pick_of e x ∷ picks_from e (n - (i + 1)) z) next
    ∙ ap (λ l. picks ++ l) (sym (one_pick e n i x low)) ∙ h

no_pick : (e n i x : ℕ) → n ≤ i → picks_from e (n - i) x ≡ []
unfolding picks_from
no_pick e n i x le =
    let none : n - i ≡ 0 = omega (arith, le) in
    ap (λ m. picks_from e m x) none

pub drawn_all : (e n i x : ℕ) (picks all : List (ℕ × ℕ)) → n ≤ i → picks ++ picks_from e (n - i) x ≡ all → picks ≡ all
drawn_all e n i x picks all le h = sym (append-nil picks) ∙ ap (λ l. picks ++ l) (sym (no_pick e n i x le)) ∙ h

-- the number after one pick more, and after all
pub after_more : (n i x : ℕ) → i < n → number_after (n - i) x ≡ number_after (n - (i + 1)) (next_number (next_number x))
unfolding number_after
after_more n i x low =
    let less : n - i ≡ suc (n - (i + 1)) = omega (arith, low) in
    ap (λ m. number_after m x) less

pub after_all : (n i x : ℕ) → n ≤ i → number_after (n - i) x ≡ x
unfolding number_after
after_all n i x le =
    let none : n - i ≡ 0 = omega (arith, le) in
    ap (λ m. number_after m x) none

-- picks, and picks after them
pub picks_joined : (e m n x : ℕ) → picks_from e (m + n) x ≡ picks_from e m x ++ picks_from e n (number_after m x)
unfolding picks_from number_after
picks_joined e zero n x = let z : 0 + n ≡ n = omega arith in ap (λ k. picks_from e k x) z
picks_joined e (suc m) n x =
    let s : suc m + n ≡ suc (m + n) = omega arith in
    ap (λ k. picks_from e k x) s ∙ ap (λ (l : List (ℕ × ℕ)). pick_of e x ∷ l) (picks_joined e m n (next_number (next_number x)))

pub after_joined : (m n x : ℕ) → number_after (m + n) x ≡ number_after n (number_after m x)
unfolding number_after
after_joined zero n x = let z : 0 + n ≡ n = omega arith in ap (λ k. number_after k x) z
after_joined (suc m) n x =
    let s : suc m + n ≡ suc (m + n) = omega arith in
    ap (λ k. number_after k x) s ∙ after_joined m n (next_number (next_number x))
