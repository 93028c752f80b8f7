-- NUMBERS OF NAMES. What words mean does not depend on names that a longer table has, so each number is one of the table.
use Rattle.std.proofs.Common.{◌≡◌, ℕ, ◌+◌, ◌-◌, ◌<◌, Bool, true, false, nat_lt, List, [], ◌∷◌, ◌++◌, map, length, replicate, All, refl, ◌∙◌, arith}
use Rattle.std.proofs.Common.{ltb-true, ltb-false}
use Rattle.std.proofs.lemmas.List.{get_or-append_right, get_or-replicate}
use Rattle.std.proofs.lemmas.List.Elements.{All-nil, All-cons}
use Rattle.std.proofs.Math.ListN.{get_or-eq_default}
use Rattle.lemmas.proofs.Lists.{same_head, same_tail}
use Rattle.surface.specs.declared.word.Word.{Word}
use Rattle.source.specs.declared.word.Word.{Word as CoreWord}
use Rattle.source.specs.declared.word.Word.TheVariants as core_word
use Rattle.surface.specs.declared.word.Word.TheVariants as word
use Rattle.source.specs.Tree.{Name}
use Rattle.source.specs.Words as core
use Rattle.source.specs.Words.{name_of}
use Rattle.surface.specs.Words.{of_core, named, numbers_of}
use Rattle.surface_text.specs.Naming.{Extends}

known_number : (names : List Name) (x : ℕ) → ((table : List Name) → Extends names table → name_of names x ≡ name_of table x) → x < length names
known_number names x h = go (nat_lt x (length names)) refl
  where
    go : (t : Bool) → nat_lt x (length names) ≡ t → x < length names
    go true p = ltb-true x (length names) p
    go false p =
        let past = ltb-false x (length names) p in
        let more : List Name = replicate (x + 1) (0 ∷ []) in
        let none : name_of names x ≡ [] = get_or-eq_default names [] past in
        let some : name_of (names ++ more) x ≡ 0 ∷ [] = get_or-append_right names more (length names) x [] refl past
        ∙ get_or-replicate (x + 1) (x - length names) (0 ∷ []) [] (omega (arith, past)) in
        let same = h (names ++ more) (record { more = more; is = refl }) in
        absurd (cc)

one_known : (names : List Name) (x : ℕ) → ((table : List Name) → Extends names table → name_of names x ≡ name_of table x) → All (λ n. n < length names) (x ∷ [])
one_known names x h = All-cons (λ n. n < length names) x [] (known_number names x h) (All-nil (λ n. n < length names))

known_core : (names : List Name) (w : CoreWord ℕ) → ((table : List Name) → Extends names table → core.named names w ≡ core.named table w)
    → All (λ n. n < length names) (core.numbers_of w)
known_core names (core_word.Array at x) h = one_known names x (λ table e. let f = h table e in cc)
known_core names (core_word.Function at x) h = one_known names x (λ table e. let f = h table e in cc)
known_core names (core_word.Parameter at x) h = one_known names x (λ table e. let f = h table e in cc)
known_core names (core_word.Name at x) h = one_known names x (λ table e. let f = h table e in cc)
known_core names (core_word.Cell at x) h = one_known names x (λ table e. let f = h table e in cc)
known_core names (core_word.Fetch at x) h = one_known names x (λ table e. let f = h table e in cc)
known_core names (core_word.Store at x) h = one_known names x (λ table e. let f = h table e in cc)
known_core names (core_word.Callee at x) h = one_known names x (λ table e. let f = h table e in cc)
known_core names (core_word.Call at strict x) h = one_known names x (λ table e. let f = h table e in cc)
known_core names (core_word.Start at x) h = one_known names x (λ table e. let f = h table e in cc)
known_core names (core_word.Bind at x) h = one_known names x (λ table e. let f = h table e in cc)
known_core names w h = All-nil (λ n. n < length names)

same_core : (v w : CoreWord Name) → of_core v ≡ of_core w → v ≡ w
same_core v w e = cc

known_word : (names : List Name) (w : Word ℕ) → ((table : List Name) → Extends names table → named names w ≡ named table w)
    → All (λ n. n < length names) (numbers_of w)
known_word names (word.Core w) h = known_core names w (λ table e. same_core _ _ (h table e))
known_word names (word.Constant at x) h = one_known names x (λ table e. let f = h table e in cc)
known_word names (word.ArrayParameter at x rank) h = one_known names x (λ table e. let f = h table e in cc)
known_word names (word.ConstantResults at x) h = one_known names x (λ table e. let f = h table e in cc)
known_word names (word.ConstantBound at x) h = one_known names x (λ table e. let f = h table e in cc)
known_word names (word.EndConstantLoop at x) h = one_known names x (λ table e. let f = h table e in cc)
known_word names (word.Counter at x) h = one_known names x (λ table e. let f = h table e in cc)
known_word names w h = All-nil (λ n. n < length names)

pub known_words : (names : List Name) (ws : List (Word ℕ)) → ((table : List Name) → Extends names table → map (named names) ws ≡ map (named table) ws)
    → All (λ w. All (λ n. n < length names) (numbers_of w)) ws
known_words names [] h = All-nil _
known_words names (w ∷ ws) h =
    All-cons (λ w. All (λ n. n < length names) (numbers_of w)) w ws
    (known_word names w (λ table e. same_head _ _ _ _ (h table e)))
    (known_words names ws (λ table e. same_tail _ _ _ _ (h table e)))
