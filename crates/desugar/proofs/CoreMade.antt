-- A plain program in code is made into a core program in code.
use Rattle.std.specs.Prelude.{ℕ, zero, suc, ◌<◌, ◌≤◌, ◌^◌, List, [], ◌∷◌, length, All}
use Rattle.std.proofs.Common.{arith}
use Rattle.std.proofs.lemmas.List.Elements.{All-nil, All-cons, All-append, All-head}
use Rattle.lemmas.proofs.Alls.{all_left, all_right}
use Rattle.source.specs.Tree.{Name}
use Rattle.source.specs.Tokens.{IsSpelledName}
use Rattle.surface.specs.Making.{hidden}
use Rattle.surface.specs.Instances.{text_names, hidden_prefix}
use Rattle.desugar.specs.Tables.{hidden_names}
use Rattle.desugar.specs.CoreMade.{made_words, PlainIsMade, TableIsSpelled}
use Rattle.desugar.proofs.Numbers.{numbers_desugar}
use Rattle.desugar.proofs.HiddenTable.{hidden_names_are_new, free_is_not_hidden}
use Rattle.desugar.proofs.HiddenSpelled.{hidden_names_are_spelled}
use Rattle.desugar.proofs.PlacedNumbers.{numbers_are_placed, places_are_tabled}

pub plain_is_made : PlainIsMade
plain_is_made names ws p known q count h free small below =
    let prefix : Name = hidden_prefix (text_names p) in
    let made = made_words names known prefix ws in
    let words = hidden_names_are_new names prefix count made q h.words.distinct small (free_is_not_hidden names prefix free) below
    (numbers_desugar names ws p known q h.words free h.fits h.heads h.plain h.is) in
    record {
      words = words;
      own_places = numbers_are_placed _ made q words;
      places = places_are_tabled _ made q words;
    }

hidden_spelled : (names : List Name) (count : ℕ) → length names < 2 ^ 64 → count < 2 ^ 64 → All (λ x. length x ≤ 24) (hidden_names (hidden_prefix names) count)
    → All IsSpelledName (hidden_names (hidden_prefix names) count)
hidden_spelled names zero few small short = All-nil IsSpelledName
hidden_spelled names (suc n) few small short =
    let prefix : Name = hidden_prefix names in
    let Short : Name → Type 0 = λ x. length x ≤ 24 in
    let front = all_left Short (hidden_names prefix n) (hidden prefix n ∷ []) short in
    let last = All-head Short (hidden prefix n) [] (all_right Short (hidden_names prefix n) (hidden prefix n ∷ []) short) in
    All-append IsSpelledName (hidden_names prefix n) (hidden prefix n ∷ []) (hidden_spelled names n few (omega (arith, small)) front)
    (All-cons IsSpelledName (hidden prefix n) [] (hidden_names_are_spelled names n few (omega (arith, small)) last) (All-nil IsSpelledName))

pub table_is_spelled : TableIsSpelled
table_is_spelled names p count spelled few small short = All-append IsSpelledName names (hidden_names (hidden_prefix (text_names p)) count) spelled
    (hidden_spelled (text_names p) count few small short)
