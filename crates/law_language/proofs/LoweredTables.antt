-- The items of a program in code have names as texts have them, and so none with `__` in it.
use Rattle.std.proofs.Common.{◌≡◌, ℕ, ◌<◌, ◌&&◌, not, nat_le, bytes_eq, codes, Bool, true, false, List, [], ◌∷◌, length, map, All, refl, subst}
use Rattle.std.specs.Prelude.{⊤}
use Rattle.std.specs.List.{list_any}
use Rattle.std.proofs.lemmas.List.Elements.{All-nil, All-cons, All-head, All-tail, All-get_or}
use Rattle.lemmas.proofs.Permutations.{Each, each_append_back}
use Rattle.source.specs.declared.word.Word.{Word}
use Rattle.source.specs.declared.word.Word.TheVariants as word
use Rattle.source.specs.Tree.{Name, Item, Cells, Defines, Program}
use Rattle.source.specs.Tokens.{begins, kept, has_double, IsSpelledName}
use Rattle.source.specs.Rules.{item_name, item_names}
use Rattle.source.specs.Words.{name_of, named, numbers_of, item_words, program_words}
use Rattle.law_language.specs.LoweredHasText.{HasSpelledNames, NamesAreSpelled, SpelledNamesAreSingle}

-- a word that begins an item has a name as texts have it
abbrev BeginsSpelled : Word Name → Type 0
BeginsSpelled (word.Array at x) = IsSpelledName x
BeginsSpelled (word.Length at n) = ⊤
BeginsSpelled (word.Function at x) = IsSpelledName x
BeginsSpelled (word.Parameter at x) = ⊤
BeginsSpelled (word.Results at n) = ⊤
BeginsSpelled (word.Body at) = ⊤
BeginsSpelled word.EndFunction = ⊤
BeginsSpelled (word.Number at n) = ⊤
BeginsSpelled (word.Name at x) = ⊤
BeginsSpelled word.Bracket = ⊤
BeginsSpelled (word.Prefix at op) = ⊤
BeginsSpelled word.Left = ⊤
BeginsSpelled (word.Infix at s) = ⊤
BeginsSpelled (word.Cell at x) = ⊤
BeginsSpelled (word.Fetch at x) = ⊤
BeginsSpelled word.Index = ⊤
BeginsSpelled (word.Store at x) = ⊤
BeginsSpelled (word.Callee at x) = ⊤
BeginsSpelled (word.Call at strict x) = ⊤
BeginsSpelled word.Then = ⊤
BeginsSpelled word.Else = ⊤
BeginsSpelled (word.EndIf at) = ⊤
BeginsSpelled (word.Loop at) = ⊤
BeginsSpelled (word.Bound at n) = ⊤
BeginsSpelled (word.Start at x) = ⊤
BeginsSpelled word.First = ⊤
BeginsSpelled word.TestFirst = ⊤
BeginsSpelled word.While = ⊤
BeginsSpelled word.BodyFirst = ⊤
BeginsSpelled word.Until = ⊤
BeginsSpelled (word.EndLoop at n) = ⊤
BeginsSpelled word.List = ⊤
BeginsSpelled word.Part = ⊤
BeginsSpelled (word.Let at) = ⊤
BeginsSpelled (word.Bind at x) = ⊤
BeginsSpelled word.Drop = ⊤
BeginsSpelled (word.EndLet at) = ⊤
BeginsSpelled word.Do = ⊤
BeginsSpelled word.Give = ⊤
BeginsSpelled word.Chain = ⊤

module _ (names : List Name) (spelled : All IsSpelledName names) where
  own_name : (n : ℕ) → All (λ n. n < length names) (n ∷ []) → IsSpelledName (name_of names n)
  own_name n low = All-get_or IsSpelledName names n [] (All-head (λ n. n < length names) n [] low) spelled

  begins_spelled : (w : Word ℕ) → All (λ n. n < length names) (numbers_of w) → BeginsSpelled (named names w)
  begins_spelled (word.Array at x) low = own_name x low
  begins_spelled (word.Length at n) low = tt
  begins_spelled (word.Function at x) low = own_name x low
  begins_spelled (word.Parameter at x) low = tt
  begins_spelled (word.Results at n) low = tt
  begins_spelled (word.Body at) low = tt
  begins_spelled word.EndFunction low = tt
  begins_spelled (word.Number at n) low = tt
  begins_spelled (word.Name at x) low = tt
  begins_spelled word.Bracket low = tt
  begins_spelled (word.Prefix at op) low = tt
  begins_spelled word.Left low = tt
  begins_spelled (word.Infix at s) low = tt
  begins_spelled (word.Cell at x) low = tt
  begins_spelled (word.Fetch at x) low = tt
  begins_spelled word.Index low = tt
  begins_spelled (word.Store at x) low = tt
  begins_spelled (word.Callee at x) low = tt
  begins_spelled (word.Call at strict x) low = tt
  begins_spelled word.Then low = tt
  begins_spelled word.Else low = tt
  begins_spelled (word.EndIf at) low = tt
  begins_spelled (word.Loop at) low = tt
  begins_spelled (word.Bound at n) low = tt
  begins_spelled (word.Start at x) low = tt
  begins_spelled word.First low = tt
  begins_spelled word.TestFirst low = tt
  begins_spelled word.While low = tt
  begins_spelled word.BodyFirst low = tt
  begins_spelled word.Until low = tt
  begins_spelled (word.EndLoop at n) low = tt
  begins_spelled word.List low = tt
  begins_spelled word.Part low = tt
  begins_spelled (word.Let at) low = tt
  begins_spelled (word.Bind at x) low = tt
  begins_spelled word.Drop low = tt
  begins_spelled (word.EndLet at) low = tt
  begins_spelled word.Do low = tt
  begins_spelled word.Give low = tt
  begins_spelled word.Chain low = tt

  all_begin : (ws : List (Word ℕ)) → All (λ w. All (λ n. n < length names) (numbers_of w)) ws → Each BeginsSpelled (map (named names) ws)
  all_begin [] known = tt
  all_begin (w ∷ ws) known =
      let Known = λ (w : Word ℕ). All (λ n. n < length names) (numbers_of w) in
      (begins_spelled w (All-head Known w ws known), all_begin ws (All-tail Known w ws known))

-- the first word of an item, and those after it
first_word : (i : Item) → Each BeginsSpelled (item_words i) → IsSpelledName (item_name i).name
first_word (Cells x len) h = h.0
first_word (Defines f) h = h.0

items_spelled : (items : Program) → Each BeginsSpelled (program_words items) → HasSpelledNames items
items_spelled [] h = All-nil IsSpelledName
items_spelled (i ∷ items) h =
    let split = each_append_back BeginsSpelled (item_words i) (program_words items) h in
    All-cons IsSpelledName (item_name i).name (item_names items) (first_word i split.0) (items_spelled items split.1)

pub names_are_spelled : NamesAreSpelled
names_are_spelled names ws p are spelled =
    items_spelled p (subst (Each BeginsSpelled) are.words (all_begin names spelled ws are.known))

third_of_four : (a b c d : Bool) → (a && b && not c && d) ≡ true → c ≡ false
third_of_four false b c d e = cc
third_of_four true false c d e = cc
third_of_four true true true d e = cc
third_of_four true true false d e = refl

pub spelled_names_are_single : SpelledNamesAreSingle
spelled_names_are_single p spelled = single (item_names p) spelled
  where
    single : (xs : List Name) → All IsSpelledName xs → All (λ x. has_double x ≡ false) xs
    single [] h = All-nil (λ x. has_double x ≡ false)
    single (x ∷ xs) h =
        All-cons (λ x. has_double x ≡ false) x xs (third_of_four (not (begins (codes "_") x)) (nat_le (length x) 24) (has_double x)
        (not (list_any (bytes_eq x) kept)) (All-head IsSpelledName x xs h).name) (single xs (All-tail IsSpelledName x xs h))
