-- What code makes of a good program is a program of the core that keeps the rules.
use Rattle.std.specs.Prelude.{◌≡◌, refl, ℕ, zero, suc, ◌<◌, ◌^◌, Bool, true, false, List, [], ◌∷◌, length, Ok}
use Rattle.std.specs.List.{list_any}
use Rattle.std.proofs.Common.{◌∙◌, ap, sym, subst, arith, inl, inr}
use Rattle.semantics.specs.Graph.{same_name}
use Rattle.semantics.proofs.Lines.{same_name_is, same_name_itself}
use Rattle.source.specs.declared.word.Word.{Word}
use Rattle.source.specs.Tree as core
use Rattle.source.specs.Tree.{Name}
use Rattle.source.specs.Tokens.{begins}
use Rattle.source.specs.Words.{name_of, IsProgram}
use Rattle.source.specs.Rules.{main_name, checked}
use Rattle.source.specs.Counts.{IsGood}
use Rattle.source_check.specs.Checked.{IsChecked}
use Rattle.source_check.specs.Numbers.{IsMain}
use Rattle.source_check.proofs.Numbers.{numbers_are_checked}
use Rattle.source_check.proofs.Whole.{is_checked}
use Rattle.surface.specs.declared.word.Word.{Word as SurfaceWord}
use Rattle.surface.specs.Tree.{Program}
use Rattle.surface.specs.Instances.{text_names, hidden_prefix}
use Rattle.surface.specs.Placed.{placed}
use Rattle.law_surface.specs.GoodGivesGood.{GoodGivesGood}
use Rattle.law_surface.specs.PrefixIsFree.{PrefixIsFree}
use Rattle.law_surface.specs.SurfaceMeans.{PlacedIsGood}
use Rattle.desugar.specs.Placing.{placed_words}
use Rattle.desugar.specs.PlacedWords.{NumbersArePlaced, PlacesAreTabled}
use Rattle.desugar.specs.Tables.{with_hidden, WordsHaveAllNames, NamesAreFew, TablesAreFree, PrefixIsFound}
use Rattle.desugar.specs.CoreMade.{made_words, IsCoreMade, PlainIsMade, TableIsSpelled}
use Rattle.law_desugar.specs.CoreIsChecked.{IsGoodCode, IsGoodCore, CodeIsGood, PrefixIsTables, IsTabled, PlainCodeIsGood}

-- THE NUMBER OF `main`
main_in : (names : List Name) → (m : ℕ) × IsMain names m
main_in [] = (0, inr (refl, λ n l e. absurd (omega (arith, l))))
main_in (x ∷ names) = go (same_name x main_name) refl (main_in names)
  where
    later : same_name x main_name ≡ false → ((m : ℕ) × IsMain names m) → (m : ℕ) × IsMain (x ∷ names) m
    later e (m, inl (h, is)) = (suc m, inl (omega (arith, h), is))
    later e (m, inr (end, none)) = (suc m, inr (omega (arith, end), λ n l is. not_there n l is))
      where
        not_there : (n : ℕ) → n < length (x ∷ names) → name_of (x ∷ names) n ≡ main_name → ⊥
        not_there zero l is = let same : same_name x main_name ≡ true = ap (λ (y : Name). same_name y main_name) is ∙ same_name_itself main_name in cc
        not_there (suc n) l is = none n (omega (arith, l)) is

    go : (b : Bool) → same_name x main_name ≡ b → ((m : ℕ) × IsMain names m) → (m : ℕ) × IsMain (x ∷ names) m
    go true e rest = (zero, inl (omega arith, same_name_is x main_name e))
    go false e rest = later e rest

-- Words of a program that keeps the rules are checked, whatever tree they have.
words_are_checked : (names : List Name) (ws : List (Word ℕ)) (q : core.Program) (end : ℕ) → IsProgram names ws q → checked end q ≡ Ok tt → IsChecked names ws
words_are_checked names ws q end i h =
    let m = main_in names in
    is_checked names ws m.0 end m.1 (numbers_are_checked names ws m.0 end q i.fits i.words m.1 ∙ h)

-- THE CORE
few_names : NamesAreFew → (names : List Name) (ws : List (SurfaceWord ℕ)) (p : Program) (q : core.Program) (end : ℕ) → IsGoodCode names ws p q end
    → length (text_names p) < 2 ^ 64
few_names fewer names ws p q end code = omega (arith, code.few, fewer names ws p code.words)

pub code_is_good : NamesAreFew → GoodGivesGood → PlacedIsGood → NumbersArePlaced → PlacesAreTabled → CodeIsGood
code_is_good fewer gives placed_so numbers places names table ws made p q end code words spelled =
    let few : length (text_names p) < 2 ^ 64 = few_names fewer names ws p q end code in
    let good : IsGood (placed q) = placed_so q (gives p q end code.short few) in
    let is : IsProgram table (placed_words 0 [] made) (placed q) = record { fits = good.fits; words = numbers table made q words } in
    record {
      is = is;
      tree = record { tree = placed q; is = is; spelled = spelled };
      checked = words_are_checked table (placed_words 0 [] made) (placed q) good.end is good.checked;
      places = places table made q words;
    }

-- THE PREFIX
module _ (fewer : NamesAreFew) (free : PrefixIsFree) (all : WordsHaveAllNames) (found : PrefixIsFound) where
  pub prefix_is_tables : PrefixIsTables
  prefix_is_tables names ws p q end code few = found names p (record { said = code.said; all = all names ws p code.words }) (free names few)
      (free (text_names p) (few_names fewer names ws p q end code))

-- A PLAIN PROGRAM
pub plain_code_is_good : NamesAreFew → PrefixIsFree → TablesAreFree → PrefixIsTables → PlainIsMade → TableIsSpelled → CodeIsGood → PlainCodeIsGood
plain_code_is_good fewer free tables prefix makes spells gives names ws p known q end count code heads plain tabled =
    let same : hidden_prefix (text_names p) ≡ hidden_prefix names = sym (prefix names ws p q end code (omega (arith, tabled.few))) in
    go (hidden_prefix names) same tabled
  where
    go : (x : Name) → hidden_prefix (text_names p) ≡ x → IsTabled names x count (made_words names known x ws)
        → IsGoodCore (with_hidden names x count) (made_words names known x ws) q
    go x same tabled = subst (λ (y : Name). IsTabled names y count (made_words names known y ws)
        → IsGoodCore (with_hidden names y count) (made_words names known y ws) q) same of_text tabled
      where
        hp : Name
        hp = hidden_prefix (text_names p)

        of_text : IsTabled names hp count (made_words names known hp ws) → IsGoodCore (with_hidden names hp count) (made_words names known hp ws) q
        of_text t =
            let few : length (text_names p) < 2 ^ 64 = few_names fewer names ws p q end code in
            let none : list_any (begins hp) names ≡ false = tables names p hp code.said (free (text_names p) few) in
            let small : count < 2 ^ 64 = omega (arith, t.few) in
            let made : IsCoreMade names hp count (made_words names known hp ws) q = makes names ws p known q count
            (record { words = code.words; fits = code.short.fits; heads = heads; plain = plain; is = code.short.is }) none small t.below in
            gives names (with_hidden names hp count) ws (made_words names known hp ws) p q end code made.words
            (spells names p count code.spelled few small t.short)
