-- Firings of a loop's credits: they hand out no frame, so all tokens stay as they were, and other loops' counts, too.
use Rattle.std.proofs.Common.{◌≡◌, ℕ, true, false, [], sym, ap, ◌∙◌, inl, inr, ◌⊎◌, None}
use Rattle.std.proofs.lemmas.Bool.{false_from_ne_true}
use Rattle.semantics.specs.Graph.{Flow}
use Rattle.semantics.specs.Meaning.{Context}
use Rattle.law_net.specs.ContextsParts.{Part, Opener, Giver, Taker, Drainer, Drained, Firing}
use Rattle.law_net.specs.ContextsFirings.{handed_to, renewed, is_firing}
use Rattle.law_net.specs.ContextsMirror.{is_asked}
use Rattle.law_net.proofs.RunsPigeons.{firing_there}
use Rattle.law_machine_refines_net.proofs.MovesPlain.{is_silent}

-- WHERE ITEMS WAIT for a loop's credits
pub data IsLoops (n : ℕ) (r : Part) : Type 0 where
  LGiver : r ≡ Giver n → IsLoops n r
  LTaker : r ≡ Taker n → IsLoops n r
  LDrainer : r ≡ Drainer n → IsLoops n r

-- they meet no other word, ask for no frame and no cell
pub loops_asked : (n : ℕ) (r : Part) → IsLoops n r → is_asked r ≡ false
loops_asked n r (LGiver e) = ap is_asked e
loops_asked n r (LTaker e) = ap is_asked e
loops_asked n r (LDrainer e) = ap is_asked e

-- WHAT FIRES
pub data IsLender (n : ℕ) (r : Part) : Type 0 where
  AnOpener : r ≡ Opener n → IsLender n r
  ATaker : r ≡ Taker n → IsLender n r
  ADrained : r ≡ Drained n → IsLender n r

pub lender_hands : (fl : Flow) (c : Context) (n : ℕ) (r : Part) → IsLender n r → handed_to fl c r ≡ None
lender_hands fl c n r (AnOpener e) = ap (handed_to fl c) e
lender_hands fl c n r (ATaker e) = ap (handed_to fl c) e
lender_hands fl c n r (ADrained e) = ap (handed_to fl c) e

pub lender_renews : (fl : Flow) (f : Firing) (n : ℕ) (r : Part) → IsLender n r → renewed fl f r ≡ []
lender_renews fl f n r (AnOpener e) = ap (renewed fl f) e
lender_renews fl f n r (ATaker e) = ap (renewed fl f) e
lender_renews fl f n r (ADrained e) = ap (renewed fl f) e

pub lender_silent : (n : ℕ) (r : Part) → IsLender n r → is_silent r ≡ true
lender_silent n r (AnOpener e) = ap is_silent e
lender_silent n r (ATaker e) = ap is_silent e
lender_silent n r (ADrained e) = ap is_silent e

-- which loop a part counts for
abbrev pub IsPart : Part → ℕ → Type 0
IsPart q m = (q ≡ Opener m) ⊎ ((q ≡ Taker m) ⊎ (q ≡ Drained m))

lender_node : (n m : ℕ) (r q : Part) → IsLender n r → r ≡ q → IsPart q m → m ≡ n
lender_node n m r q (AnOpener e) h (inl k) = let z : Opener n ≡ Opener m = sym e ∙ h ∙ k in cc
lender_node n m r q (AnOpener e) h (inr (inl k)) = let z : Opener n ≡ Taker m = sym e ∙ h ∙ k in absurd (cc)
lender_node n m r q (AnOpener e) h (inr (inr k)) = let z : Opener n ≡ Drained m = sym e ∙ h ∙ k in absurd (cc)
lender_node n m r q (ATaker e) h (inl k) = let z : Taker n ≡ Opener m = sym e ∙ h ∙ k in absurd (cc)
lender_node n m r q (ATaker e) h (inr (inl k)) = let z : Taker n ≡ Taker m = sym e ∙ h ∙ k in cc
lender_node n m r q (ATaker e) h (inr (inr k)) = let z : Taker n ≡ Drained m = sym e ∙ h ∙ k in absurd (cc)
lender_node n m r q (ADrained e) h (inl k) = let z : Drained n ≡ Opener m = sym e ∙ h ∙ k in absurd (cc)
lender_node n m r q (ADrained e) h (inr (inl k)) = let z : Drained n ≡ Taker m = sym e ∙ h ∙ k in absurd (cc)
lender_node n m r q (ADrained e) h (inr (inr k)) = let z : Drained n ≡ Drained m = sym e ∙ h ∙ k in cc

-- they fire for no other loop
pub lender_idle : (c d : Context) (n m : ℕ) (q : Part) (f : Firing) → f.context ≡ c → IsLender n f.part → IsPart q m → (d ≡ c → m ≡ n → ⊥)
    → is_firing d q f ≡ false
lender_idle c d n m q f a o k apart =
    false_from_ne_true (is_firing d q f) (λ e. let x = firing_there d q f e in apart (sym x.0 ∙ a) (lender_node n m f.part q o x.1 k))
