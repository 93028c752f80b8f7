-- Names are the same with derived forms.
use Rattle.std.specs.Prelude.{◌≡◌, ℕ, ◌&&◌, ◌||◌, not, nat_le, Bool, true, false, List, [], ◌∷◌, ◌++◌, map, length, find, bytes_eq, codes, None, Some}
use Rattle.std.specs.Prelude.{refl, ⊤, if◌then◌else◌}
use Rattle.std.specs.List.{list_any}
use Rattle.lemmas.proofs.Bools.{first_of_and, second_of_and}
use Rattle.source.specs.declared.token.Keyword.{Keyword as CoreKeyword}
use Rattle.source.specs.Tokens as core
use Rattle.source.specs.Tokens.{begins, has_double}
use Rattle.surface.specs.declared.token.Keyword.{Keyword}
use Rattle.surface.specs.declared.token.Keyword.TheVariants as word
use Rattle.surface.specs.Tokens.{keyword_text, keywords, kept, keyword_of, is_name}
use Rattle.law_surface.specs.SameNames.{NamesAreSame}

-- that none of a list passes a test
abbrev AllFalse : {X : Type 0} → (X → Bool) → List X → Type 0
AllFalse p [] = ⊤
AllFalse p (x ∷ xs) = (p x ≡ false) × AllFalse p xs

none_of : {X : Type 0} (p : X → Bool) (xs : List X) → list_any p xs ≡ false → AllFalse p xs
none_of p [] h = tt
none_of p (x ∷ xs) h = go (p x) refl h (λ e. none_of p xs e)
  where
    go : (b : Bool) → p x ≡ b → (b || list_any p xs) ≡ false → (list_any p xs ≡ false → AllFalse p xs) → (p x ≡ false) × AllFalse p xs
    go true e h later = cc
    go false e h later = (e, later h)

of_none : {X : Type 0} (p : X → Bool) (xs : List X) → AllFalse p xs → list_any p xs ≡ false
of_none p [] h = refl
of_none p (x ∷ xs) h = rw h.0 (of_none p xs h.1)

not_found : {X : Type 0} (p : X → Bool) (xs : List X) → find p xs ≡ None → AllFalse p xs
not_found p [] h = tt
not_found p (x ∷ xs) h = go (p x) refl h (λ e. not_found p xs e)
  where
    go : (b : Bool) → p x ≡ b → (if b then Some x else find p xs) ≡ None → (find p xs ≡ None → AllFalse p xs) → (p x ≡ false) × AllFalse p xs
    go true e h later = cc
    go false e h later = (e, later h)

no_find : {X : Type 0} (p : X → Bool) (xs : List X) → AllFalse p xs → find p xs ≡ None
no_find p [] h = refl
no_find p (x ∷ xs) h = rw h.0 (no_find p xs h.1)

-- THE WORDS
abbrev new_words : List Keyword
new_words = word.Const ∷ word.For ∷ word.In ∷ word.With ∷ word.And ∷ word.Or ∷ word.Not ∷ []

-- the words of the core, and the new ones
split : (p : Keyword → Bool) (ks : List CoreKeyword) (ws : List Keyword) → AllFalse p (map (λ k. word.Core k) ks ++ ws) → AllFalse (λ (k : CoreKeyword). p (word.Core
    k)) ks × AllFalse p ws
split p [] ws h = (tt, h)
split p (k ∷ ks) ws h = let rest = split p ks ws h.1 in ((h.0, rest.0), rest.1)

joined : (p : Keyword → Bool) (ks : List CoreKeyword) (ws : List Keyword) → AllFalse (λ (k : CoreKeyword). p (word.Core k)) ks → AllFalse p ws → AllFalse p (map (λ k.
    word.Core k) ks ++ ws)
joined p [] ws h g = g
joined p (k ∷ ks) ws h g = (h.0, joined p ks ws h.1 g)

-- what else a name must be
abbrev else_good : List ℕ → Bool
else_good run = not (begins (codes "_") run) && nat_le (length run) 24 && not (has_double run)

abbrev is_word : List ℕ → Keyword → Bool
is_word run k = bytes_eq run (keyword_text k)

not_true : (b : Bool) → not b ≡ true → b ≡ false
not_true true h = cc
not_true false h = refl

good_and : (a b : Bool) → a ≡ true → b ≡ false → (a && not b) ≡ true
good_and a b h g = rw h (rw g refl)

pub names_are_same : NamesAreSame
names_are_same run = (there, back)
  where
    there : (core.keyword_of run ≡ None) × (core.is_name run ≡ true) → (keyword_of run ≡ None) × (is_name run ≡ true)
    there h =
        let c : AllFalse (bytes_eq run) core.kept = none_of (bytes_eq run) core.kept (not_true (list_any (bytes_eq run) core.kept) (second_of_and (else_good run)
        (not (list_any (bytes_eq run) core.kept)) h.1)) in
        let old : AllFalse (λ (k : CoreKeyword). bytes_eq run (core.keyword_text k)) core.keywords = not_found (λ (k : CoreKeyword). bytes_eq run (core.keyword_text k))
        core.keywords h.0 in
        let n : AllFalse (is_word run) new_words = (c.1.1.1.1.0, (c.1.1.1.1.1.1.1.1.0, (c.1.1.1.1.1.1.1.1.1.0, (c.1.1.1.1.1.1.1.1.1.1.1.1.1.1.1.1.1.1.1.1.0, (c.0, (c.1.1.1.1.1.1.1.1.1.1.1.1.1.0, (c.1.1.1.1.1.1.1.1.1.1.1.1.0, tt))))))) in
        let k : AllFalse (bytes_eq run) kept = (c.1.0, (c.1.1.0, (c.1.1.1.0, (c.1.1.1.1.1.0, (c.1.1.1.1.1.1.0, (c.1.1.1.1.1.1.1.0, (c.1.1.1.1.1.1.1.1.1.1.0, (c.1.1.1.1.1.1.1.1.1.1.1.0, (c.1.1.1.1.1.1.1.1.1.1.1.1.1.1.0, (c.1.1.1.1.1.1.1.1.1.1.1.1.1.1.1.0, (c.1.1.1.1.1.1.1.1.1.1.1.1.1.1.1.1.0, (c.1.1.1.1.1.1.1.1.1.1.1.1.1.1.1.1.1.0, (c.1.1.1.1.1.1.1.1.1.1.1.1.1.1.1.1.1.1.0, (c.1.1.1.1.1.1.1.1.1.1.1.1.1.1.1.1.1.1.1.0, (c.1.1.1.1.1.1.1.1.1.1.1.1.1.1.1.1.1.1.1.1.1.0, tt))))))))))))))) in (
          no_find (is_word run) keywords (joined (is_word run) core.keywords new_words old n),
          good_and (else_good run) (list_any (bytes_eq run) kept) (first_of_and
              (else_good run) (not (list_any (bytes_eq run) core.kept)) h.1) (of_none (bytes_eq run) kept k),
        )

    back : (keyword_of run ≡ None) × (is_name run ≡ true) → (core.keyword_of run ≡ None) × (core.is_name run ≡ true)
    back h =
        let k : AllFalse (bytes_eq run) kept = none_of (bytes_eq run) kept (not_true (list_any (bytes_eq run) kept) (second_of_and (else_good run) (not (list_any
        (bytes_eq run) kept)) h.1)) in
        let parts = split (is_word run) core.keywords new_words (not_found (is_word run) keywords h.0) in
        let n : AllFalse (is_word run) new_words = parts.1 in
        let c : AllFalse (bytes_eq run) core.kept = (n.1.1.1.1.0, (k.0, (k.1.0, (k.1.1.0, (n.0, (k.1.1.1.0, (k.1.1.1.1.0, (k.1.1.1.1.1.0, (n.1.0, (n.1.1.0, (k.1.1.1.1.1.1.0, (k.1.1.1.1.1.1.1.0, (n.1.1.1.1.1.1.0, (n.1.1.1.1.1.0, (k.1.1.1.1.1.1.1.1.0, (k.1.1.1.1.1.1.1.1.1.0, (k.1.1.1.1.1.1.1.1.1.1.0, (k.1.1.1.1.1.1.1.1.1.1.1.0, (k.1.1.1.1.1.1.1.1.1.1.1.1.0, (k.1.1.1.1.1.1.1.1.1.1.1.1.1.0, (n.1.1.1.0, (k.1.1.1.1.1.1.1.1.1.1.1.1.1.1.0, tt)))))))))))))))))))))) in (
          no_find (λ (k : CoreKeyword). bytes_eq run (core.keyword_text k)) core.keywords parts.0,
          good_and (else_good run) (list_any (bytes_eq run) core.kept)
              (first_of_and (else_good run) (not (list_any (bytes_eq run) kept)) h.1) (of_none (bytes_eq run) core.kept c),
        )
