-- What a text begins with is some bytes, which lie in it, and a token that it begins with says so.
use Rattle.std.proofs.Common.{◌≡◌, ℕ, ◌+◌, ◌≤◌, Bool, true, false, List, [], ◌∷◌, length, Option, Some, None, codes, refl, sym, ap, subst, ◌∙◌, arith, find}
use Rattle.std.proofs.Common.{bytes_eq, cond, take_while}
use Rattle.std.proofs.lemmas.List.Sums.{prefix_len-le-length}
use Rattle.std.proofs.lemmas.List.Folds.{length-prefix_len}
use Rattle.std.proofs.lemmas.Slice.Eq.{bytes_eq-Decides}
use Rattle.source.specs.declared.fault.FaultKind.{FaultKind as CoreFaultKind}
use Rattle.source.specs.declared.fault.FaultKind.TheVariants as core_fault
use Rattle.source.specs.declared.token.TokenKind.TheVariants as core_kind
use Rattle.source.specs.Tokens as core
use Rattle.source.specs.Tokens.{begins, is_run_byte}
use Rattle.source_tokens.specs.HasToken.{run_of}
use Rattle.source_tokens.proofs.Sound as core_sound
use Rattle.surface.specs.declared.token.Keyword.{Keyword}
use Rattle.surface.specs.Tokens.{Beginning, Skipped, Read, Refused, keyword_text, beginning, comment_len, comment_read}
use Rattle.surface_tokens.specs.Beginnings.{new_words, new_word, word_or_fault, refusal, with_forms}
use Rattle.surface_tokens.specs.HasToken.{BeginsWith}
use Rattle.surface_tokens.proofs.CommentEnds.{begins_two, comment_within}
use Rattle.surface_tokens.proofs.WithForms.{beginnings_are}

abbrev pub IsSound : List ℕ → Beginning → Type 0
IsSound rest (Skipped len) = (1 ≤ len) × (len ≤ length rest)
IsSound rest (Read kind len) = (1 ≤ len) × (len ≤ length rest) × BeginsWith rest kind
IsSound rest (Refused kind) = Unit {0}

-- NEW WORDS
abbrev is_word : List ℕ → Keyword → Bool
is_word run k = bytes_eq run (keyword_text k)

abbrev AreSome : List Keyword → Type 0
AreSome [] = Unit {0}
AreSome (k ∷ ks) = (1 ≤ length (keyword_text k)) × AreSome ks

new_words_are_some : AreSome new_words
new_words_are_some = (omega arith, (omega arith, (omega arith, (omega arith, (omega arith, (omega arith, (omega arith, tt)))))))

of_found : (rest : List ℕ) (ks : List Keyword) (k : Keyword) → AreSome ks → find (is_word (run_of rest)) ks ≡ Some k
    → (1 ≤ length (run_of rest)) × (run_of rest ≡ keyword_text k)
of_found rest [] k some e = absurd cc
of_found rest (x ∷ ks) k some e = first (is_word (run_of rest) x) refl e (λ f. of_found rest ks k some.1 f)
  where
    first : (t : Bool) → is_word (run_of rest) x ≡ t → cond t (Some x) (find (is_word (run_of rest)) ks) ≡ Some k
        → (find (is_word (run_of rest)) ks ≡ Some k → (1 ≤ length (run_of rest)) × (run_of rest ≡ keyword_text k))
        → (1 ≤ length (run_of rest)) × (run_of rest ≡ keyword_text k)
    first true is e more =
        let same : x ≡ k = cc in
        let its : run_of rest ≡ keyword_text x = (bytes_eq-Decides (run_of rest) (keyword_text x)).0 is in
        let n : length (run_of rest) ≡ length (keyword_text x) = ap (λ (xs : List ℕ). length xs) its in
        (omega (arith, n, some.0), its ∙ ap keyword_text same)
    first false is e more = more e

run_within : (rest : List ℕ) → length (run_of rest) ≤ length rest
run_within rest = let n = length-prefix_len is_run_byte rest in let few = prefix_len-le-length is_run_byte rest in omega (arith, n, few)

of_refused : (rest : List ℕ) (o : Option Keyword) → new_word (run_of rest) ≡ o → IsSound rest (word_or_fault (run_of rest) o)
of_refused rest None e = tt
of_refused rest (Some k) e = let its = of_found rest new_words k new_words_are_some e in (its.0, run_within rest, its.1)

of_refusal : (rest : List ℕ) (kind : CoreFaultKind) → IsSound rest (refusal (run_of rest) kind)
of_refusal rest core_fault.BadName = of_refused rest (new_word (run_of rest)) refl
of_refusal rest kind = tt

-- what the text begins with in the core
of_core : (rest : List ℕ) (o : core.Beginning) → core_sound.IsSound rest o → IsSound rest (with_forms (run_of rest) o)
of_core rest (core.Skipped len) h = h
of_core rest (core.Read (core_kind.Word k) len) h = h
of_core rest (core.Read (core_kind.Mark s) len) h = h
of_core rest (core.Read (core_kind.Number n) len) h = h
of_core rest (core.Read (core_kind.Name n) len) h = h
of_core rest (core.Refused kind) h = of_refusal rest kind

-- ALL OF THEM
abbrev OpensWell : List ℕ → Type 0
OpensWell [] = Unit {0}
OpensWell (b ∷ bytes) = IsSound (b ∷ bytes) (beginning b bytes)

of_comment : (after : List ℕ) (o : Option ℕ) → comment_len after ≡ o → IsSound (47 ∷ 42 ∷ after) (comment_read o)
of_comment after None e = tt
of_comment after (Some n) e = let less = comment_within after n e in (omega arith, omega (arith, less))

with_comment : (b : ℕ) (bytes : List ℕ) → begins (codes "/*") (b ∷ bytes) ≡ true → OpensWell (b ∷ bytes)
with_comment b bytes e =
    let two = begins_two 47 42 (b ∷ bytes) e in
    subst OpensWell (sym two.1) (of_comment two.0 (comment_len two.0) refl)

with_range : (b : ℕ) (bytes : List ℕ) → begins (codes "..") (b ∷ bytes) ≡ true → OpensWell (b ∷ bytes)
with_range b bytes e = let two = begins_two 46 46 (b ∷ bytes) e in subst OpensWell (sym two.1) (omega arith, omega arith, refl)

pub beginning_is_sound : (b : ℕ) (bytes : List ℕ) → IsSound (b ∷ bytes) (beginning b bytes)
beginning_is_sound b bytes = by_signs (begins (codes "/*") (b ∷ bytes)) refl (begins (codes "..") (b ∷ bytes)) refl
  where
    by_signs : (t : Bool) → begins (codes "/*") (b ∷ bytes) ≡ t → (u : Bool) → begins (codes "..") (b ∷ bytes) ≡ u → IsSound (b ∷ bytes) (beginning b bytes)
    by_signs true e u f = with_comment b bytes e
    by_signs false e true f = with_range b bytes f
    by_signs false e false f =
        let h = of_core (b ∷ bytes) (core.beginning b bytes) (core_sound.beginning_is_sound b bytes) in
        subst (λ (o : Beginning). IsSound (b ∷ bytes) o) (sym (beginnings_are b bytes e f)) h
