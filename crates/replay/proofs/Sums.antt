-- Sums of which one term changes, and how many frames are out.
use Rattle.std.proofs.Common.{◌≡◌, ◌≢◌, refl, sym, ◌∙◌, ap, ℕ, zero, suc, ◌+◌, ◌<◌, ◌≤◌, Bool, true, false, arith, ⊎_elim}
use Rattle.std.proofs.lemmas.Bool.{cases_eq}
use Rattle.tags.specs.declared.slot.SlotState.{SlotState}
use Rattle.semantics.specs.Report.{sum_below, one_if}
use Rattle.semantics.specs.Machine.{put_at}
use Rattle.semantics.proofs.Sums.{one_if_le, sum_same}
use Rattle.semantics.proofs.Stores.{put_other, put_same}
use Rattle.replay.specs.Moments.{fullness}

pub sum_changed : (n f : ℕ) (g h : ℕ → ℕ) → f < n → ((k : ℕ) → k ≢ f → g k ≡ h k) → sum_below n g + h f ≡ sum_below n h + g f
sum_changed zero f g h lt others = absurd (let no : ⊥ = omega (arith, lt) in no)
sum_changed (suc n) f g h lt others = ⊎_elim
    (λ (e : n ≡ f).
    let before = sum_same n g h (λ k l. others k (λ q. absurd (let no : ⊥ = omega (arith, l, q, e) in no))) in
    let g_here : g n ≡ g f = ap g e in
    let h_here : h n ≡ h f = ap h e in
    omega (arith, before, g_here, h_here))
    (λ (ne : n ≡ f → ⊥).
    let before = sum_changed n f g h (omega arith) others in
    let here : g n ≡ h n = others n ne in
    omega (arith, before, here))
    (cases_eq n f)

sum_le : (n : ℕ) (out : ℕ → Bool) → sum_below n (λ f. one_if (out f)) ≤ n
sum_le zero out = omega arith
sum_le (suc n) out = let before = sum_le n out in let here = one_if_le (out n) in omega (arith, before, here)

pub all_out : (n : ℕ) (out : ℕ → Bool) → ((f : ℕ) → f < n → out f ≡ true) → sum_below n (λ f. one_if (out f)) ≡ n
all_out zero out all = refl
all_out (suc n) out all =
    let before = all_out n out (λ f l. all f (omega (arith, l))) in
    let here : one_if (out n) ≡ 1 = ap one_if (all n (omega arith)) in
    omega (arith, before, here)

pub one_free : (n f : ℕ) (out : ℕ → Bool) → f < n → out f ≡ false → sum_below n (λ k. one_if (out k)) < n
one_free zero f out l e = absurd (let no : ⊥ = omega (arith, l) in no)
one_free (suc n) f out l e = ⊎_elim
    (λ (is : n ≡ f).
    let before = sum_le n out in
    let here : one_if (out n) ≡ 0 = ap (λ k. one_if (out k)) is ∙ ap one_if e in
    omega (arith, before, here))
    (λ (ne : n ≡ f → ⊥).
    let low : f < n = omega arith in
    let before = one_free n f out low e in
    let here = one_if_le (out n) in
    omega (arith, before, here))
    (cases_eq n f)

-- one frame's flag is changed
pub out_changed : (n f : ℕ) (out : ℕ → Bool) (b : Bool) → f < n
    → sum_below n (λ k. one_if (put_at out f b k)) + one_if (out f) ≡ sum_below n (λ k. one_if (out k)) + one_if b
out_changed n f out b l =
    let all = sum_changed n f (λ k. one_if (put_at out f b k)) (λ k. one_if (out k)) l (λ k ne. ap one_if (put_other out f k b (λ e. ne (sym e)))) in
    let here : one_if (put_at out f b f) ≡ one_if b = ap one_if (put_same out f f b refl) in
    omega (arith, all, here)

abbrev pub row : ℕ → (ℕ → ℕ → SlotState) → ℕ → ℕ
row width slots f = sum_below width (λ r. fullness (slots f r))

-- one slot is changed
pub full_changed : (n width f r : ℕ) (slots : ℕ → ℕ → SlotState) (v : SlotState) → f < n → r < width
    → sum_below n (λ g. sum_below width (λ q. fullness (put_at slots f (put_at (slots f) r v) g q))) + fullness (slots f r) ≡ sum_below n
    (λ g. sum_below width (λ q. fullness (slots g q))) + fullness v
full_changed n width f r slots v l low =
    let new : ℕ → ℕ → SlotState = put_at slots f (put_at (slots f) r v) in
    let frame : new f ≡ put_at (slots f) r v = put_same slots f f (put_at (slots f) r v) refl in
    let all = sum_changed n f (row width new) (row width slots) l
    (λ k ne. ap (λ (s : ℕ → SlotState). sum_below width (λ q. fullness (s q))) (put_other slots f k (put_at (slots f) r v) (λ e. ne (sym e)))) in
    let within = sum_changed width r (λ q. fullness (new f q)) (λ q. fullness (slots f q)) low
    (λ k ne. ap (λ (s : ℕ → SlotState). fullness (s k)) frame ∙ ap fullness (put_other (slots f) r k v (λ e. ne (sym e)))) in
    let here : fullness (new f r) ≡ fullness v = ap (λ (s : ℕ → SlotState). fullness (s r)) frame ∙ ap fullness (put_same (slots f) r r v refl) in
    omega (arith, all, within, here)
