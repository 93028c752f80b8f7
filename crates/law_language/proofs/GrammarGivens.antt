-- What holds whatever a stack reads: how stacks are joined, and how a symbol that acts as another one is right.
use Rattle.std.proofs.Common.{◌≡◌, ℕ, ◌+◌, ◌-◌, ◌<◌, ◌≤◌, max, Bool, true, false, List, [], ◌∷◌, ◌++◌, refl, ◌∙◌, append_assoc, append-nil, arith}
use Rattle.std.proofs.Common.{if◌then◌else◌}
use Rattle.std.specs.Prelude.{◌^◌, ◌==◌, nat_le, nat_lt}
use Rattle.std.proofs.lemmas.Bool.{leb-true, ltb-true}
use Rattle.std.proofs.Math.Nat.{max-le}
use Rattle.source.specs.Tree.{Name}
use Rattle.source.specs.Spelled.{Lexeme, Spelling}
use Rattle.source.specs.Words.{Words}
use Rattle.law_language.specs.declared.symbol.Symbol.{Symbol}
use Rattle.law_language.specs.GrammarAutomaton.{Stack, Outcome, Takes, Passes, Refuses, appending, above, within, small}
use Rattle.law_language.proofs.GrammarYielded.{Operands}
use Rattle.law_language.specs.GrammarReady.{Ready, AllReady}
use Rattle.law_language.proofs.GrammarMeaning.{Yields, Given, Explains, takes, passes, refuses}

-- DEPTHS
pub deep_max : (d a b limit : ℕ) → d + a ≤ limit → d + b ≤ limit → d + max a b ≤ limit
deep_max d a b limit p q =
    let h : max a b ≤ limit - d = max-le (omega arith) (omega arith) in omega arith

-- LISTS
pub regroup : {A : Type 0} (a b c d : List A) → ((a ++ b) ++ c) ++ d ≡ a ++ ((b ++ c) ++ d)
regroup a b c d = simp append_assoc

pub none_between : {A : Type 0} (a b : List A) → a ++ b ≡ (a ++ []) ++ b
none_between a b = simp append-nil

pub none_after : {A : Type 0} (a b c : List A) → (a ++ b) ++ c ≡ ((a ++ b) ++ []) ++ c
none_after a b c = simp append-nil

pub none_between₂ : {A : Type 0} (a b c : List A) → (a ++ b) ++ c ≡ ((a ++ []) ++ b) ++ c
none_between₂ a b c = simp append-nil

pub regroup_tokens : {A : Type 0} (a b c : List A) (x y : A) → (a ++ x ∷ b) ++ y ∷ c ≡ ((((((a ++ []) ++ x ∷ []) ++ b) ++ []) ++ y ∷ []) ++ c) ++ []
regroup_tokens a b c x y = simp (append_assoc, append-nil)

pub regroup_words : {A : Type 0} (a b c : List A) (x y z : A)
    → ((a ++ x ∷ b) ++ y ∷ c) ++ z ∷ [] ≡ ((((((a ++ x ∷ []) ++ []) ++ b) ++ y ∷ []) ++ []) ++ c) ++ z ∷ []
regroup_words a b c x y z = simp (append_assoc, append-nil)

-- STACKS
pub ready_append : (limit : ℕ) (P Q : Stack) → AllReady limit P → AllReady limit Q → AllReady limit (P ++ Q)
ready_append limit [] Q p q = q
ready_append limit (s ∷ P) Q p q = (p.0, ready_append limit P Q p.1 q)

pub given_map : (limit : ℕ) (P : Stack) (K J : List Spelling → Words → Type 0) (v : Words) → ((ss : List Spelling) (ws : Words) → K ss ws → J ss (v ++ ws))
    → (a : List Spelling) (w : Words) → Given limit P K a w → Given limit P J a (v ++ w)
given_map limit [] K J v f a w h = f a w h
given_map limit (s ∷ P) K J v f a w h = λ ts vs y. rw (append_assoc v w vs) (given_map limit P K J v f (a ++ ts) (w ++ vs) (h ts vs y))

pub given_then : (limit : ℕ) (P Q : Stack) (K J : List Spelling → Words → Type 0) (u : List Spelling) (v : Words)
    → ((ss : List Spelling) (ws : Words) → K ss ws → Given limit Q J (u ++ ss) (v ++ ws))
    → (a : List Spelling) (w : Words) → Given limit P K a w → Given limit (P ++ Q) J (u ++ a) (v ++ w)
given_then limit [] Q K J u v f a w h = f a w h
given_then limit (s ∷ P) Q K J u v f a w h =
    λ ts vs y. rw (append_assoc u a ts, append_assoc v w vs) (given_then limit P Q K J u v f (a ++ ts) (w ++ vs) (h ts vs y))

-- TESTS
module _ {limit : ℕ} {s : Symbol Name} {at : ℕ} {l : Lexeme} where
  pub explains_if : {o p : Outcome} (b : Bool) → (b ≡ true → Explains limit s at l o) → (b ≡ false → Explains limit s at l p)
      → Explains limit s at l (if b then o else p)
  explains_if true f g = f refl
  explains_if false f g = g refl

  pub explains_within : {o : Outcome} (d : ℕ) → (d ≤ limit → Explains limit s at l o) → Explains limit s at l (within limit d o)
  explains_within d f = explains_if (nat_le d limit) (λ h. f (leb-true d limit h)) (λ h. refuses)

  pub explains_small : {o : Outcome} (n : ℕ) → (n < 2 ^ 63 → Explains limit s at l o) → Explains limit s at l (small n o)
  explains_small n f = explains_if (nat_lt n (2 ^ 63)) (λ h. f (ltb-true n (2 ^ 63) h)) (λ h. explains_if (n == 2 ^ 63) (λ k. refuses) (λ k. refuses))

-- A SYMBOL THAT ACTS AS ANOTHER
module _ (limit : ℕ) (s t : Symbol Name) (at : ℕ) (l : Lexeme) where
  pub explains_as : (v : Words) → ((ss : List Spelling) (ws : Words) → Yields limit s ss ws → Yields limit t ss (v ++ ws))
      → (o : Outcome) → Explains limit s at l o → Explains limit t at l (appending v o)
  explains_as v f (Takes ws P) (takes place is ready given) =
      takes place is ready (given_map limit P _ _ v (λ ss vs y. f (record { place = place; lexeme = l } ∷ ss) vs y) [] ws given)
  explains_as v f (Passes ws) (passes y) = passes (f [] ws y)
  explains_as v f (Refuses kind) h = refuses

  -- with the same words
  pub explains_for : ((ss : List Spelling) (ws : Words) → Yields limit s ss ws → Yields limit t ss ws) → (o : Outcome) → Explains limit s at l o
      → Explains limit t at l o
  explains_for f (Takes ws P) (takes place is ready given) =
      takes place is ready (given_map limit P _ _ [] (λ ss vs y. f (record { place = place; lexeme = l } ∷ ss) vs y) [] ws given)
  explains_for f (Passes ws) (passes y) = passes (f [] ws y)
  explains_for f (Refuses kind) h = refuses

  -- with one more symbol below
  pub explains_above : (v : Words) (q : Symbol Name) → Ready limit q
      → ((ss : List Spelling) (ws : Words) → Yields limit s ss ws → (ts : List Spelling) (vs : Words) → Yields limit q ts vs
      → Yields limit t (ss ++ ts) ((v ++ ws) ++ vs))
      → (o : Outcome) → Explains limit s at l o → ((ws : Words) → o ≡ Passes ws → ⊥) → Explains limit t at l (appending v (above (q ∷ []) o))
  explains_above v q r f (Takes ws P) (takes place is ready given) never = takes place is (ready_append limit P (q ∷ []) ready (r, tt))
      (given_then limit P (q ∷ []) _ _ [] v (λ ss vs y ts us z. f (record { place = place; lexeme = l } ∷ ss) vs y ts us z) [] ws given)
  explains_above v q r f (Passes ws) h never = absurd (never ws refl)
  explains_above v q r f (Refuses kind) h never = refuses

-- the same, whose tokens and words are equal ones
pub as_operand : {limit m d : ℕ} {ss ts : List Spelling} {ws vs : Words} → Operands limit m d ss ws → ss ≡ ts → ws ≡ vs → Operands limit m d ts vs
as_operand r p q = record { e = r.e; ok = r.ok; spelled = r.spelled ∙ p; says = r.says ∙ q }
