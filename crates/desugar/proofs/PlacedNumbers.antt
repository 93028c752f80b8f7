-- Words with numbers for names are placed as those with the names are.
use Rattle.std.specs.Prelude.{◌≡◌, refl, ℕ, ◌+◌, ◌<◌, List, [], ◌∷◌, map, length, All}
use Rattle.std.proofs.Common.{◌∙◌, ap, ap₂, sym, subst}
use Rattle.std.proofs.lemmas.List.Elements.{All-cons, All-head, All-tail}
use Rattle.source.specs.declared.word.Word.{Word}
use Rattle.source.specs.declared.word.Word.TheVariants as word
use Rattle.source.specs.Tree.{Name}
use Rattle.source.specs.Words.{named, numbers_of}
use Rattle.surface.specs.Placed.{word_place}
use Rattle.desugar.specs.Placing.{Role, role, place_for, opened_after, moved_to, placed_word, placed_words, place_at}
use Rattle.desugar.specs.PlacedWords.{NumbersArePlaced, PlacesAreTabled}
use Rattle.desugar.proofs.Placed.{words_are_placed}

-- A WORD
named_moved : (names : List Name) (n : ℕ) (w : Word ℕ) → named names (moved_to n w) ≡ moved_to n (named names w)
named_moved names n (word.Array at x) = refl
named_moved names n (word.Length at k) = refl
named_moved names n (word.Function at x) = refl
named_moved names n (word.Parameter at x) = refl
named_moved names n (word.Results at k) = refl
named_moved names n (word.Body at) = refl
named_moved names n word.EndFunction = refl
named_moved names n (word.Number at k) = refl
named_moved names n (word.Name at x) = refl
named_moved names n word.Bracket = refl
named_moved names n (word.Prefix at op) = refl
named_moved names n word.Left = refl
named_moved names n (word.Infix at s) = refl
named_moved names n (word.Cell at x) = refl
named_moved names n (word.Fetch at x) = refl
named_moved names n word.Index = refl
named_moved names n (word.Store at x) = refl
named_moved names n (word.Callee at x) = refl
named_moved names n (word.Call at strict x) = refl
named_moved names n word.Then = refl
named_moved names n word.Else = refl
named_moved names n (word.EndIf at) = refl
named_moved names n (word.Loop at) = refl
named_moved names n (word.Bound at k) = refl
named_moved names n (word.Start at x) = refl
named_moved names n word.First = refl
named_moved names n word.TestFirst = refl
named_moved names n word.While = refl
named_moved names n word.BodyFirst = refl
named_moved names n word.Until = refl
named_moved names n (word.EndLoop at k) = refl
named_moved names n word.List = refl
named_moved names n word.Part = refl
named_moved names n (word.Let at) = refl
named_moved names n (word.Bind at x) = refl
named_moved names n word.Drop = refl
named_moved names n (word.EndLet at) = refl
named_moved names n word.Do = refl
named_moved names n word.Give = refl
named_moved names n word.Chain = refl

named_role : (names : List Name) (w : Word ℕ) → role (named names w) ≡ role w
named_role names (word.Array at x) = refl
named_role names (word.Length at k) = refl
named_role names (word.Function at x) = refl
named_role names (word.Parameter at x) = refl
named_role names (word.Results at k) = refl
named_role names (word.Body at) = refl
named_role names word.EndFunction = refl
named_role names (word.Number at k) = refl
named_role names (word.Name at x) = refl
named_role names word.Bracket = refl
named_role names (word.Prefix at op) = refl
named_role names word.Left = refl
named_role names (word.Infix at s) = refl
named_role names (word.Cell at x) = refl
named_role names (word.Fetch at x) = refl
named_role names word.Index = refl
named_role names (word.Store at x) = refl
named_role names (word.Callee at x) = refl
named_role names (word.Call at strict x) = refl
named_role names word.Then = refl
named_role names word.Else = refl
named_role names (word.EndIf at) = refl
named_role names (word.Loop at) = refl
named_role names (word.Bound at k) = refl
named_role names (word.Start at x) = refl
named_role names word.First = refl
named_role names word.TestFirst = refl
named_role names word.While = refl
named_role names word.BodyFirst = refl
named_role names word.Until = refl
named_role names (word.EndLoop at k) = refl
named_role names word.List = refl
named_role names word.Part = refl
named_role names (word.Let at) = refl
named_role names (word.Bind at x) = refl
named_role names word.Drop = refl
named_role names (word.EndLet at) = refl
named_role names word.Do = refl
named_role names word.Give = refl
named_role names word.Chain = refl

numbers_moved : (n : ℕ) (w : Word ℕ) → numbers_of (moved_to n w) ≡ numbers_of w
numbers_moved n (word.Array at x) = refl
numbers_moved n (word.Length at k) = refl
numbers_moved n (word.Function at x) = refl
numbers_moved n (word.Parameter at x) = refl
numbers_moved n (word.Results at k) = refl
numbers_moved n (word.Body at) = refl
numbers_moved n word.EndFunction = refl
numbers_moved n (word.Number at k) = refl
numbers_moved n (word.Name at x) = refl
numbers_moved n word.Bracket = refl
numbers_moved n (word.Prefix at op) = refl
numbers_moved n word.Left = refl
numbers_moved n (word.Infix at s) = refl
numbers_moved n (word.Cell at x) = refl
numbers_moved n (word.Fetch at x) = refl
numbers_moved n word.Index = refl
numbers_moved n (word.Store at x) = refl
numbers_moved n (word.Callee at x) = refl
numbers_moved n (word.Call at strict x) = refl
numbers_moved n word.Then = refl
numbers_moved n word.Else = refl
numbers_moved n (word.EndIf at) = refl
numbers_moved n (word.Loop at) = refl
numbers_moved n (word.Bound at k) = refl
numbers_moved n (word.Start at x) = refl
numbers_moved n word.First = refl
numbers_moved n word.TestFirst = refl
numbers_moved n word.While = refl
numbers_moved n word.BodyFirst = refl
numbers_moved n word.Until = refl
numbers_moved n (word.EndLoop at k) = refl
numbers_moved n word.List = refl
numbers_moved n word.Part = refl
numbers_moved n (word.Let at) = refl
numbers_moved n (word.Bind at x) = refl
numbers_moved n word.Drop = refl
numbers_moved n (word.EndLet at) = refl
numbers_moved n word.Do = refl
numbers_moved n word.Give = refl
numbers_moved n word.Chain = refl

named_place : (names : List Name) (w : Word ℕ) → word_place (named names w) ≡ place_at w
named_place names (word.Array at x) = refl
named_place names (word.Length at k) = refl
named_place names (word.Function at x) = refl
named_place names (word.Parameter at x) = refl
named_place names (word.Results at k) = refl
named_place names (word.Body at) = refl
named_place names word.EndFunction = refl
named_place names (word.Number at k) = refl
named_place names (word.Name at x) = refl
named_place names word.Bracket = refl
named_place names (word.Prefix at op) = refl
named_place names word.Left = refl
named_place names (word.Infix at s) = refl
named_place names (word.Cell at x) = refl
named_place names (word.Fetch at x) = refl
named_place names word.Index = refl
named_place names (word.Store at x) = refl
named_place names (word.Callee at x) = refl
named_place names (word.Call at strict x) = refl
named_place names word.Then = refl
named_place names word.Else = refl
named_place names (word.EndIf at) = refl
named_place names (word.Loop at) = refl
named_place names (word.Bound at k) = refl
named_place names (word.Start at x) = refl
named_place names word.First = refl
named_place names word.TestFirst = refl
named_place names word.While = refl
named_place names word.BodyFirst = refl
named_place names word.Until = refl
named_place names (word.EndLoop at k) = refl
named_place names word.List = refl
named_place names word.Part = refl
named_place names (word.Let at) = refl
named_place names (word.Bind at x) = refl
named_place names word.Drop = refl
named_place names (word.EndLet at) = refl
named_place names word.Do = refl
named_place names word.Give = refl
named_place names word.Chain = refl

named_placed : (names : List Name) (n : ℕ) (outer : List ℕ) (w : Word ℕ) → named names (placed_word n outer w) ≡ placed_word n outer (named names w)
named_placed names n outer w = named_moved names (place_for (role w) n outer) w
    ∙ ap (λ (r : Role). moved_to (place_for r n outer) (named names w)) (sym (named_role names w))

-- WORDS
words_named : (names : List Name) (n : ℕ) (outer : List ℕ) (ws : List (Word ℕ)) → map (named names) (placed_words n outer ws)
    ≡ placed_words n outer (map (named names) ws)
words_named names n outer [] = refl
words_named names n outer (w ∷ ws) =
    ap₂ (λ (v : Word Name) (vs : List (Word Name)). v ∷ vs) (named_placed names n outer w)
    (words_named names (n + 1) (opened_after (role w) n outer) ws
    ∙ ap (λ (r : Role). placed_words (n + 1) (opened_after r n outer) (map (named names) ws)) (sym (named_role names w)))

abbrev AreKnown : List Name → List (Word ℕ) → Type 0
AreKnown names ws = All (λ w. All (λ k. k < length names) (numbers_of w)) ws

known_placed : (names : List Name) (n : ℕ) (outer : List ℕ) (ws : List (Word ℕ)) → AreKnown names ws → AreKnown names (placed_words n outer ws)
known_placed names n outer [] h = h
known_placed names n outer (w ∷ ws) h =
    let Known : Word ℕ → Type 0 = λ v. All (λ k. k < length names) (numbers_of v) in
    All-cons Known (placed_word n outer w) (placed_words (n + 1) (opened_after (role w) n outer) ws)
    (subst (λ (ks : List ℕ). All (λ k. k < length names) ks) (sym (numbers_moved (place_for (role w) n outer) w)) (All-head Known w ws h))
    (known_placed names (n + 1) (opened_after (role w) n outer) ws (All-tail Known w ws h))

pub numbers_are_placed : NumbersArePlaced
numbers_are_placed names ws q h = record {
  words = words_named names 0 [] ws ∙ ap (λ (vs : List (Word Name)). placed_words 0 [] vs) h.words ∙ words_are_placed q;
  known = known_placed names 0 [] ws h.known;
  distinct = h.distinct;
}

places_named : (names : List Name) (ws : List (Word ℕ)) → map word_place (map (named names) ws) ≡ map place_at ws
places_named names [] = refl
places_named names (w ∷ ws) = ap₂ (λ (n : ℕ) (ns : List ℕ). n ∷ ns) (named_place names w) (places_named names ws)

pub places_are_tabled : PlacesAreTabled
places_are_tabled names ws q h = sym (places_named names ws) ∙ ap (λ (vs : List (Word Name)). map word_place vs) h.words
