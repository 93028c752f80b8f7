-- What holds whatever a stack reads: how stacks are joined, and how a symbol that acts as another one is right.
use Rattle.std.proofs.Common.{◌≡◌, ℕ, ◌<◌, Bool, true, false, List, [], ◌∷◌, ◌++◌, refl, subst, ◌∙◌, append_assoc}
use Rattle.std.proofs.Common.{if◌then◌else◌}
use Rattle.std.specs.Prelude.{◌^◌, nat_lt}
use Rattle.std.proofs.lemmas.Bool.{ltb-true}
use Rattle.surface.specs.Spelled.{Lexeme, Spelling}
use Rattle.surface.specs.Words.{Words}
use Rattle.law_surface_text.specs.Automaton.{Stack, Outcome, Takes, Passes, Lacks, Refuses, appending, above, small}
use Rattle.law_surface_text.specs.Ready.{AllReady}
use Rattle.law_surface_text.proofs.Meaning.{Sort, rest, Is, Given, meaning_below, Explains, takes, passes, lacks, refuses}

-- STACKS
pub ready_append : (limit : ℕ) (P Q : Stack) → AllReady limit P → AllReady limit Q → AllReady limit (P ++ Q)
ready_append limit [] Q p q = q
ready_append limit (s ∷ P) Q p q = (p.0, ready_append limit P Q p.1 q)

module _ (limit : ℕ) where
  pub given_map : (b : Bool) (P : Stack) (K J : Bool → List Spelling → Words → Type 0)
      → ((c : Bool) (ss : List Spelling) (ws : Words) → K c ss ws → J c ss ws) → Given limit b P K → Given limit b P J
  given_map b [] K J f h = f b [] [] h
  given_map b (s ∷ P) K J f h = λ a. given_map ((meaning_below b limit s).lacks a) P _ _ (λ c ss ws k. f c _ _ k) (h a)

  pub given_append : (b : Bool) (P Q : Stack) (K : Bool → List Spelling → Words → Type 0)
      → Given limit b P (λ c ss ws. Given limit c Q (λ e ts vs. K e (ss ++ ts) (ws ++ vs))) → Given limit b (P ++ Q) K
  given_append b [] Q K h = h
  given_append b (s ∷ P) Q K h = λ a.
      let xs = (meaning_below b limit s).spelled a in
      let us = (meaning_below b limit s).says a in
      given_append ((meaning_below b limit s).lacks a) P Q _
      (given_map ((meaning_below b limit s).lacks a) P _ _
      (λ c ss ws g. given_map c Q _ _ (λ e ts vs k. rw (← append_assoc xs ss ts, ← append_assoc us ws vs) k) g) (h a))

-- PARTS
pub as_is : {S : Sort} {c : Bool} {ss ts : List Spelling} {ws vs : Words} → Is S c ss ws → ss ≡ ts → ws ≡ vs → Is S c ts vs
as_is y p q = record { part = y.part; ends = y.ends; spelled = y.spelled ∙ p; says = y.says ∙ q }

pub held : (R : List Spelling → Words → Type 0) (ss : List Spelling) (ws : Words) → R ss ws → Is (rest R) false ss ws
held R ss ws y = record { part = record { ss = ss; ws = ws; is = y }; ends = refl; spelled = refl; says = refl }

-- TESTS
module _ {limit : ℕ} {S : Sort} {at : ℕ} {l : Lexeme} where
  pub explains_if : {o p : Outcome} (b : Bool) → (b ≡ true → Explains limit S at l o) → (b ≡ false → Explains limit S at l p)
      → Explains limit S at l (if b then o else p)
  explains_if true f g = f refl
  explains_if false f g = g refl

  pub explains_small : {o : Outcome} (n : ℕ) → (n < 2 ^ 63 → Explains limit S at l o) → Explains limit S at l (small n o)
  explains_small n f = explains_if (nat_lt n (2 ^ 63)) (λ h. f (ltb-true n (2 ^ 63) h)) (λ h. refuses)

-- whether the token is not for what is below
abbrev pub stays : Outcome → Bool
stays (Takes needed ws P) = true
stays (Passes ws) = false
stays (Lacks ws) = false
stays Refuses = true

pub stays_if : (b : Bool) (o : Outcome) → stays o ≡ true → stays (if b then o else Refuses) ≡ true
stays_if true o h = h
stays_if false o h = refl

-- A SYMBOL THAT ACTS AS ANOTHER
module _ (limit : ℕ) (S T : Sort) (at : ℕ) (l : Lexeme) where
  pub explains_as : (v : Words) → ((c : Bool) (ss : List Spelling) (ws : Words) → Is S c ss ws → Is T c ss (v ++ ws)) → (o : Outcome)
      → Explains limit S at l o → Explains limit T at l (appending v o)
  explains_as v f (Takes needed ws P) (takes place is ready given) =
      takes place is ready (λ h. given_map limit false P _ _ (λ c ss vs y. rw (append_assoc v ws vs) (f c _ _ y)) (given h))
  explains_as v f (Passes ws) (passes y) = passes (f false [] ws y)
  explains_as v f (Lacks ws) (lacks y) = lacks (f true [] ws y)
  explains_as v f Refuses h = refuses

  -- with further symbols below
  pub explains_above : (v : Words) (Q : Stack) → AllReady limit Q
      → ((c : Bool) (ss : List Spelling) (ws : Words) → Is S c ss ws → Given limit c Q (λ e ts vs. Is T e (ss ++ ts) (v ++ (ws ++ vs)))) → (o : Outcome)
      → Explains limit S at l o → stays o ≡ true → Explains limit T at l (appending v (above Q o))
  explains_above v Q r f (Takes needed ws P) (takes place is ready given) kept = takes place is (λ h. ready_append limit P Q (ready h) r)
      (λ h. given_append limit false P Q _ (given_map limit false P _ _ (λ c ss us y. given_map limit c Q _ _
      (λ e ts vs k. subst (λ t. Is T e (record { place = place; lexeme = l } ∷ (ss ++ ts)) t) (regrouped v ws us vs) k) (f c _ _ y)) (given h)))
    where
      regrouped : (a b c d : Words) → a ++ ((b ++ c) ++ d) ≡ (a ++ b) ++ (c ++ d)
      regrouped a b c d = simp append_assoc
  explains_above v Q r f (Passes ws) h kept = absurd cc
  explains_above v Q r f (Lacks ws) h kept = absurd cc
  explains_above v Q r f Refuses h kept = refuses
