-- Runs that begin with no digit: those that are new words are names of no core program, and the others are what they are there.
use Rattle.std.specs.Prelude.{◌≡◌, ℕ, ◌&&◌, not, nat_le, Bool, true, false, List, [], ◌∷◌, ◌++◌, map, length, find, bytes_eq, codes, option_map}
use Rattle.std.specs.Prelude.{Option, None, Some, if◌then◌else◌, cond, refl, ⊤}
use Rattle.std.specs.List.{list_any}
use Rattle.std.specs.Option.{option_or}
use Rattle.std.proofs.Common.{ap, sym, subst, ◌∙◌}
use Rattle.std.proofs.lemmas.List.Folds.{find-append}
use Rattle.std.proofs.lemmas.Slice.Eq.{bytes_eq-Decides}
use Rattle.source.specs.declared.fault.FaultKind.TheVariants as core_fault
use Rattle.source.specs.declared.token.Keyword.{Keyword as CoreKeyword}
use Rattle.source.specs.declared.token.Sign.TheVariants as core_sign
use Rattle.source.specs.declared.token.TokenKind.TheVariants as core_kind
use Rattle.source.specs.Tokens as core
use Rattle.source.specs.Tokens.{begins, has_double}
use Rattle.surface.specs.declared.fault.FaultKind.TheVariants as fault
use Rattle.surface.specs.declared.token.Keyword.{Keyword}
use Rattle.surface.specs.declared.token.Keyword.TheVariants as word
use Rattle.surface.specs.declared.token.Sign.TheVariants as sign
use Rattle.surface.specs.declared.token.TokenKind.TheVariants.{Word, Mark, Name}
use Rattle.surface.specs.Tokens.{Beginning, Skipped, Read, Refused, keyword_text, keyword_of, kept, is_name, name_run, keyword_or_name, word_run}
use Rattle.surface_tokens.specs.Beginnings.{new_words, new_word, word_or_fault, with_forms}

-- both ways of a test
pub either_way : (run : List ℕ) (t : Bool) (x y : Beginning) (u v : core.Beginning) → x ≡ with_forms run u → y ≡ with_forms run v
    → (if t then x else y) ≡ with_forms run (if t then u else v)
either_way run true x y u v e f = e
either_way run false x y u v e f = f

-- what is found among mapped ones
pub find_mapped : {X Y : Type 0} (f : X → Y) (p : Y → Bool) (xs : List X) → find p (map f xs) ≡ option_map f (find (λ x. p (f x)) xs)
find_mapped f p [] = refl
find_mapped {X} {Y} f p (x ∷ xs) = go (p (f x)) (find_mapped f p xs)
  where
    go : (t : Bool) → find p (map f xs) ≡ option_map f (find (λ x. p (f x)) xs)
        → cond t (Some (f x)) (find p (map f xs)) ≡ option_map f (cond t (Some x) (find (λ x. p (f x)) xs))
    go true h = refl
    go false h = h

-- A NEW WORD
abbrev IsReadSo : List ℕ → Type 0
IsReadSo run = word_run run ≡ with_forms run (core.word_run run)

abbrev AreReadSo : List Keyword → Type 0
AreReadSo [] = ⊤
AreReadSo (k ∷ ks) = IsReadSo (keyword_text k) × AreReadSo ks

new_words_are : AreReadSo new_words
new_words_are = (refl, (refl, (refl, (refl, (refl, (refl, (refl, tt)))))))

abbrev is_word : List ℕ → Keyword → Bool
is_word run k = bytes_eq run (keyword_text k)

of_new : (run : List ℕ) (ks : List Keyword) (k : Keyword) → AreReadSo ks → find (is_word run) ks ≡ Some k → IsReadSo run
of_new run [] k all e = absurd cc
of_new run (x ∷ ks) k all e = first (is_word run x) refl e (λ f. of_new run ks k all.1 f)
  where
    first : (t : Bool) → is_word run x ≡ t → cond t (Some x) (find (is_word run) ks) ≡ Some k → (find (is_word run) ks ≡ Some k → IsReadSo run) → IsReadSo run
    first true is e more = subst IsReadSo (sym ((bytes_eq-Decides run (keyword_text x)).0 is)) all.0
    first false is e more = more e

-- ANOTHER RUN
abbrev AreOthers : List ℕ → List Keyword → Type 0
AreOthers run [] = ⊤
AreOthers run (k ∷ ks) = (is_word run k ≡ false) × AreOthers run ks

others : (run : List ℕ) (ks : List Keyword) → find (is_word run) ks ≡ None → AreOthers run ks
others run [] e = tt
others run (k ∷ ks) e = first (is_word run k) refl e (λ f. others run ks f)
  where
    first : (t : Bool) → is_word run k ≡ t → cond t (Some k) (find (is_word run) ks) ≡ None → (find (is_word run) ks ≡ None → AreOthers run ks) → AreOthers run (k ∷ ks)
    first true is e more = absurd cc
    first false is e more = (is, more e)

kept_without : (p : List ℕ → Bool) → p (codes "const") ≡ false → p (codes "for") ≡ false → p (codes "in") ≡ false → p (codes "with") ≡ false
    → p (codes "and") ≡ false → p (codes "or") ≡ false → p (codes "not") ≡ false → list_any p kept ≡ list_any p core.kept
kept_without p a b c d e f g = rw (a, b, c, d, e, f, g) refl

abbrev well_formed : List ℕ → Bool
well_formed run = not (begins (codes "_") run) && nat_le (length run) 24 && not (has_double run)

same_names : (run : List ℕ) → AreOthers run new_words → is_name run ≡ core.is_name run
same_names run o =
    ap (λ (t : Bool). well_formed run && not t) (kept_without (bytes_eq run) o.0 o.1.0 o.1.1.0 o.1.1.1.0 o.1.1.1.1.0 o.1.1.1.1.1.0 o.1.1.1.1.1.1.0)

name_or_not : (run : List ℕ) → new_word run ≡ None → name_run run ≡ with_forms run (core.name_run run)
name_or_not run none =
    let n : ℕ = length run in
    let refused : Refused (fault.Core core_fault.BadName) ≡ word_or_fault run (new_word run) = ap (word_or_fault run) (sym none) in
    ap (λ (t : Bool). if t then Read (Name n) n else Refused (fault.Core core_fault.BadName)) (same_names run (others run new_words none))
    ∙ either_way run (core.is_name run) (Read (Name n) n) (Refused (fault.Core core_fault.BadName)) (core.Read (core_kind.Name n) n) (core.Refused core_fault.BadName)
    refl refused

with_keyword : (run : List ℕ) (o : Option CoreKeyword) → new_word run ≡ None
    → keyword_or_name run (option_map (λ k. word.Core k) o) ≡ with_forms run (core.keyword_or_name run o)
with_keyword run (Some k) none = refl
with_keyword run None none = name_or_not run none

-- the words of the core are before the new ones
core_first : (run : List ℕ) → new_word run ≡ None → keyword_of run ≡ option_map (λ k. word.Core k) (core.keyword_of run)
core_first run none =
    let old : List Keyword = map (λ k. word.Core k) core.keywords in
    find-append (is_word run) old new_words ∙ ap (λ (o : Option Keyword). option_or (find (is_word run) old) o) none
    ∙ or_none (find (is_word run) old) ∙ find_mapped (λ k. word.Core k) (is_word run) core.keywords
  where
    or_none : (o : Option Keyword) → option_or o None ≡ o
    or_none None = refl
    or_none (Some k) = refl

of_other : (run : List ℕ) → new_word run ≡ None → IsReadSo run
of_other run none =
    either_way run (bytes_eq run (codes "_")) (Read (Mark (sign.Core core_sign.Underscore)) 1) (keyword_or_name run (keyword_of run))
    (core.Read (core_kind.Mark core_sign.Underscore) 1) (core.keyword_or_name run (core.keyword_of run)) refl
    (ap (keyword_or_name run) (core_first run none) ∙ with_keyword run (core.keyword_of run) none)

pub words_are : (run : List ℕ) → word_run run ≡ with_forms run (core.word_run run)
words_are run = go (new_word run) refl
  where
    go : (o : Option Keyword) → new_word run ≡ o → IsReadSo run
    go (Some k) e = of_new run new_words k new_words_are e
    go None e = of_other run e
