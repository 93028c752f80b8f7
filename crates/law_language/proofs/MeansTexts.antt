-- No two tokens of a text have one place, so no two tokens of its tree do.
use Rattle.std.proofs.Common.{◌≡◌, ℕ, zero, suc, ◌+◌, ◌-◌, ◌≤◌, List, [], ◌∷◌, Option, Some, None, Result, Ok, Err, refl, sym, ap, subst, arith}
use Rattle.std.specs.Prelude.{⊤, slice_get}
use Rattle.std.proofs.lemmas.Option.{same_Some}
use Rattle.source.specs.declared.fault.Fault.{Fault}
use Rattle.source.specs.declared.token.Token.{Token}
use Rattle.source.specs.Spelled.{Spelling, IsPlace, AreSpelled, program_tokens}
use Rattle.source.specs.Tokens.{Beginning, Skipped, Read, Refused, beginning, preceded, lexed_then, lexed_from}
use Rattle.law_language.specs.MeansTheorem.{and_place, places, Rise, TokensRise, SpellingsDiffer}

-- tokens from a place on, each after those before
abbrev Rises : ℕ → List Token → Type 0
Rises n [] = ⊤
Rises n (t ∷ ts) = (n ≤ t.at) × Rises (t.at + 1) ts

rises_from : (n m : ℕ) (ts : List Token) → n ≤ m → Rises m ts → Rises n ts
rises_from n m [] low h = tt
rises_from n m (t ∷ ts) low h = let first = h.0 in (omega (arith, first, low), h.1)

all_past : (n : ℕ) (ts : List Token) (j : ℕ) (u : Token) → Rises n ts → slice_get ts j ≡ Some u → n ≤ u.at
all_past n [] j u h e = cc
all_past n (t ∷ ts) zero u h e = let same = ap (λ (t : Token). t.at) (same_Some t u e) in let first = h.0 in omega (arith, same, first)
all_past n (t ∷ ts) (suc j) u h e = let low = all_past (t.at + 1) ts j u h.1 e in let first = h.0 in omega (arith, low, first)

rises_all : (n : ℕ) (ts : List Token) → Rises n ts → Rise ts
rises_all n [] h i j t u e f low = cc
rises_all n (x ∷ ts) h i zero t u e f low = absurd (omega (arith, low))
rises_all n (x ∷ ts) h zero (suc j) t u e f low =
    let past = all_past (x.at + 1) ts j u h.1 f in let same = ap (λ (t : Token). t.at) (same_Some x t e) in omega (arith, past, same)
rises_all n (x ∷ ts) h (suc i) (suc j) t u e f low = rises_all (x.at + 1) ts h.1 i j t u e f (omega (arith, low))

all_rise : (n : ℕ) (ts : List Token) → ((j : ℕ) (u : Token) → slice_get ts j ≡ Some u → n ≤ u.at) → Rise ts → Rises n ts
all_rise n [] past h = tt
all_rise n (t ∷ ts) past h = (
  past 0 t refl,
  all_rise (t.at + 1) ts (λ j u e. let low = h 0 (suc j) t u refl e (omega arith) in omega (arith, low))
      (λ i j u w e f low. h (suc i) (suc j) u w e f (omega (arith, low))),
)

-- THE TOKENS OF A TEXT rise.
lexed_rises : (bytes : List ℕ) (at past : ℕ) (ts : List Token) → lexed_from bytes at past ≡ Ok ts → Rises at ts
lexed_rises [] at past ts e = let same : [] ≡ ts = cc in subst (λ ts. Rises at ts) same tt
lexed_rises (b ∷ bytes) at (suc past) ts e = rises_from at (at + 1) ts (omega arith) (lexed_rises bytes (at + 1) past ts e)
lexed_rises (b ∷ bytes) at zero ts e = go (beginning b bytes) e (λ n us f. lexed_rises bytes (at + 1) n us f)
  where
    read : (t : Token) → t.at ≡ at → (r : Result (List Token) Fault) → preceded t r ≡ Ok ts → ((us : List Token) → r ≡ Ok us → Rises (at + 1) us) → Rises at ts
    read t place (Err fault) f later = cc
    read t place (Ok us) f later =
        let same : t ∷ us ≡ ts = cc in
        subst (λ ts. Rises at ts) same (omega (arith, place), subst (λ n. Rises (n + 1) us) (sym place) (later us refl))

    go : (x : Beginning) → lexed_then at x (λ n. lexed_from bytes (at + 1) n) ≡ Ok ts → ((n : ℕ) (us : List Token) → lexed_from bytes (at + 1) n ≡ Ok us
        → Rises (at + 1) us) → Rises at ts
    go (Skipped len) f later = rises_from at (at + 1) ts (omega arith) (later (len - 1) ts f)
    go (Read kind len) f later = read (record { kind = kind; at = at }) refl (lexed_from bytes (at + 1) (len - 1)) f (λ us k. later (len - 1) us k)
    go (Refused kind) f later = cc

pub tokens_rise : TokensRise
tokens_rise text ts e = rises_all 0 ts (lexed_rises text 0 0 ts e)

-- A TREE THAT IS SPELLED BY THEM
place_past : (text : List ℕ) (ss : List Spelling) (ts : List Token) (n : ℕ) → AreSpelled text ss ts → Rises n ts → (i x : ℕ) → slice_get (places ss) i ≡ Some x
    → n ≤ x
place_past text [] ts n h r i x e = cc
place_past text (s ∷ ss) [] n h r i x e = absurd h
place_past text (s ∷ ss) (t ∷ ts) n h r i x e = go s.place h.0.1 i e (λ i e. place_past text ss ts (t.at + 1) h.1 r.1 i x e)
  where
    go : (o : Option ℕ) → IsPlace o t.at → (i : ℕ) → slice_get (and_place o (places ss)) i ≡ Some x
        → ((i : ℕ) → slice_get (places ss) i ≡ Some x → t.at + 1 ≤ x) → n ≤ x
    go None k i e later = let low = later i e in let first = r.0 in omega (arith, low, first)
    go (Some y) k zero e later = let same = same_Some y x e in let first = r.0 in omega (arith, same, first, k)
    go (Some y) k (suc i) e later = let low = later i e in let first = r.0 in omega (arith, low, first)

differ : (text : List ℕ) (ss : List Spelling) (ts : List Token) (n : ℕ) → AreSpelled text ss ts → Rises n ts → (i j x : ℕ) → slice_get (places ss) i ≡ Some x
    → slice_get (places ss) j ≡ Some x → i ≡ j
differ text [] ts n h r i j x e f = cc
differ text (s ∷ ss) [] n h r i j x e f = absurd h
differ text (s ∷ ss) (t ∷ ts) n h r i j x e f = go s.place h.0.1 i j e f (λ i j e f. differ text ss ts (t.at + 1) h.1 r.1 i j x e f)
  where
    past : (y : ℕ) → y ≡ t.at → y ≡ x → (j : ℕ) → slice_get (places ss) j ≡ Some x → ⊥
    past y k e j f = let low = place_past text ss ts (t.at + 1) h.1 r.1 j x f in omega (arith, low, k, e)

    go : (o : Option ℕ) → IsPlace o t.at → (i j : ℕ) → slice_get (and_place o (places ss)) i ≡ Some x → slice_get (and_place o (places ss)) j ≡ Some x
        → ((i j : ℕ) → slice_get (places ss) i ≡ Some x → slice_get (places ss) j ≡ Some x → i ≡ j) → i ≡ j
    go None k i j e f later = later i j e f
    go (Some y) k zero zero e f later = refl
    go (Some y) k zero (suc j) e f later = absurd (past y k (same_Some y x e) j f)
    go (Some y) k (suc i) zero e f later = absurd (past y k (same_Some y x f) i e)
    go (Some y) k (suc i) (suc j) e f later = ap suc (later i j e f)

pub spellings_differ : SpellingsDiffer
spellings_differ text ts p h rise i j x e f = differ text (program_tokens p) ts 0 h (all_rise 0 ts (λ j u e. omega arith) rise) i j x e f
