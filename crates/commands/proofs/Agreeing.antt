-- Orders that agree, one after the other.
use Rattle.std.proofs.Common.{◌≡◌, ℕ, zero, suc, ◌+◌, ◌<◌, ◌≤◌, ℤ, List, ◌⊎◌, inl, inr, refl, sym, subst, arith}
use Rattle.std.specs.Prelude.{Option, Some, None, IfSome}
use Rattle.semantics.specs.Graph.{Graph}
use Rattle.semantics.specs.Report.{Report}
use Rattle.schedule.specs.declared.config.Config.{Config}
use Rattle.commands.specs.Agreed.{AllAgree, AreSame, IsOrder}

pub same_as_itself : (r : Report) → AreSame r r
same_as_itself r = record { end = refl; outputs = refl; cells = refl; deferred = refl; waiting_frames = refl; waiting_credits = refl; frames_out = refl }

split : (k n : ℕ) → k < n + 1 → (k < n) ⊎ (k ≡ n)
split zero zero low = inr refl
split (suc k) zero low = absurd omega (arith, low)
split zero (suc n) low = inl omega (arith)
split (suc k) (suc n) low = up (split k n omega (arith, low))
  where
    up : (k < n) ⊎ (k ≡ n) → (suc k < suc n) ⊎ (suc k ≡ suc n)
    up (inl less) = inl omega (arith, less)
    up (inr same) = inr omega (arith, same)

module _ (text : List ℕ) (inputs : List ℤ) (c : Config) (seed : ℕ) (g : Graph) (r : Report) where
  -- an order's report that is the same as that of order 0
  Agrees : ℕ → Type 0
  Agrees k = (h : Graph) × (s : Report) × IsOrder text inputs c seed k h s × AreSame r s

  only : IsOrder text inputs c seed 0 g r → (k : ℕ) → (k < 0) ⊎ (k ≡ 0) → Agrees k
  unfolding Agrees
  only first k (inl low) = absurd omega (arith, low)
  only first k (inr same) = subst (λ (j : ℕ). Agrees j) (sym same) (g, r, first, same_as_itself r)

  pub begin : IsOrder text inputs c seed 0 g r → AllAgree text inputs c seed 1 g r
  unfolding Agrees
  begin first = record { first = first; each = λ k low. only first k (split k 0 low) }

  more : (n : ℕ) → AllAgree text inputs c seed n g r → Agrees n → (k : ℕ) → (k < n) ⊎ (k ≡ n) → Agrees k
  unfolding Agrees
  more n so_far last k (inl low) = so_far.each k low
  more n so_far last k (inr same) = subst (λ (j : ℕ). Agrees j) (sym same) last

  pub go_on : (n : ℕ) → AllAgree text inputs c seed n g r → (h : Graph) (s : Report) → IsOrder text inputs c seed n h s → AreSame r s
      → AllAgree text inputs c seed (n + 1) g r
  unfolding Agrees
  go_on n so_far h s order same = record { first = so_far.first; each = λ k low. more n so_far (h, s, order, same) k (split k n low) }

  pub all : (n count : ℕ) → count ≤ n → AllAgree text inputs c seed n g r → AllAgree text inputs c seed count g r
  all n count enough so_far = record { first = so_far.first; each = λ k low. so_far.each k omega (arith, low, enough) }

pub if_some : {X : Type 0} (P Q : X → Type 0) (x : Option X) → ((y : X) → P y → Q y) → IfSome x P → IfSome x Q
if_some P Q None f h = tt
if_some P Q (Some y) f h = f y h

pub at_some : (X : Type 0) (P : X → Type 0) (x : Option X) (y : X) → x ≡ Some y → IfSome x P → P y
at_some X P x y is h = subst (λ (z : Option X). IfSome z P) is h
