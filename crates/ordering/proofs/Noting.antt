-- Events are noted one after the other.
use Rattle.std.proofs.Common.{◌≡◌, sym, ◌∙◌, ap, ℕ, zero, suc, ◌+◌, ◌<◌, ◌≤◌, List, [], ◌∷◌, ◌++◌, length, take, take_all, get_or, append_assoc, arith}
use Rattle.tags.specs.declared.token.Token.{Token}
use Rattle.semantics.specs.Machine.{Events}
use Rattle.rounds.specs.Turns.{by}

by_next : (e : ℕ) (ts : List Token) (i : ℕ) (t : Token) → i < length ts → t ≡ get_or ts i t → by e (take (suc i) ts) ≡ by e (take i ts) ++ (e, t) ∷ []
by_next e [] i t low is = absurd (let no : ⊥ = omega (arith, low) in no)
by_next e (u ∷ ts) zero t low is = ap (λ (v : Token). (e, v) ∷ []) (sym is)
by_next e (u ∷ ts) (suc i) t low is = let within : i < length ts = omega (arith, low) in ap (λ (l : Events). (e, u) ∷ l) (by_next e ts i t within is)

by_more : (e : ℕ) (ts : List Token) (i : ℕ) (t : Token) → i < length ts → t ≡ get_or ts i t → by e (take (i + 1) ts) ≡ by e (take i ts) ++ (e, t) ∷ []
by_more e ts i t low is = let next : i + 1 ≡ suc i = omega arith in ap (λ (k : ℕ). by e (take k ts)) next ∙ by_next e ts i t low is

pub noted_more : (before now next : Events) (e : ℕ) (ts : List Token) (i : ℕ) (t : Token) → i < length ts → t ≡ get_or ts i t → now ≡ before
    ++ by e (take i ts) → next ≡ now ++ (e, t) ∷ [] → next ≡ before ++ by e (take (i + 1) ts)
noted_more before now next e ts i t low is noted pushed =
    pushed ∙ ap (λ (l : Events). l ++ (e, t) ∷ []) noted ∙ append_assoc before (by e (take i ts)) ((e, t) ∷ [])
    ∙ ap (λ (l : Events). before ++ l) (sym (by_more e ts i t low is))

pub noted_whole : (before : Events) (e : ℕ) (ts : List Token) (i : ℕ) → length ts ≤ i → before ++ by e (take i ts) ≡ before ++ by e ts
noted_whole before e ts i past = ap (λ (us : List Token). before ++ by e us) (take_all i ts past)
