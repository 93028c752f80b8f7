-- The walk over a report's lines.
use Rattle.std.proofs.Common.{◌≡◌, ℕ, Bool, true, false, List, [], ◌∷◌, ◌++◌, length, Option, None, Result, Ok, Err, refl, sym, ap, ◌∙◌, append_assoc}
use Rattle.std.specs.Prelude.{⊤, ◌==◌, if◌then◌else◌}
use Rattle.std.specs.Io.KnownBytes.{Appends}
use Rattle.command_line.specs.Words.{Text}
use Rattle.graph_file.specs.Lines.{parts}
use Rattle.sink.specs.Sends.{Sends}
use Rattle.sink.proofs.Sent.{appends_none, appends_then, sends_less, sends_more, sends_same}
use Rattle.chosen_cells.specs.Chosen.{Row, chosen, closing, line_text, lines_text, row_of_line}

no_line : (cells grid : Option Text) (row : Option Row) → lines_text cells grid row [] ≡ closing row
unfolding lines_text
no_line cells grid row = refl

last_line : (cells grid : Option Text) (row : Option Row) (text : Text) (more : List Text) → true ≡ (length more == 0)
    → lines_text cells grid row (text ∷ more) ≡ closing row ++ text
unfolding lines_text
last_line cells grid row text more e =
    ap (λ (b : Bool). if b then closing row ++ text else line_text cells grid row text ++ lines_text cells grid (row_of_line cells grid row text) more) (sym e)

next_line : (cells grid : Option Text) (row : Option Row) (text : Text) (more : List Text) → false ≡ (length more == 0)
    → lines_text cells grid row (text ∷ more) ≡ line_text cells grid row text ++ lines_text cells grid (row_of_line cells grid row text) more
unfolding lines_text
next_line cells grid row text more e =
    ap (λ (b : Bool). if b then closing row ++ text else line_text cells grid row text ++ lines_text cells grid (row_of_line cells grid row text) more) (sym e)

-- Of the whole text a beginning is sent, and what is left is that of the lines that are left.
abbrev pub Walked : Option Text → Option Text → Text → Option Row → List Text → Option (List ℕ) → Option (List ℕ) → Type 0
Walked cells grid text row lines a b = (front : List ℕ) × (chosen cells grid text ≡ front ++ lines_text cells grid row lines) × Appends a b front

pub begins : (cells grid : Option Text) (text : Text) (lines : List Text) (a : Option (List ℕ)) → lines ≡ parts 10 text → Walked cells grid text None lines a a
begins cells grid text lines a e = ([], ap (lines_text cells grid None) (sym e), appends_none a)

pub ends : {E : Type 0} (cells grid : Option Text) (text : Text) (row : Option Row) (lines : List Text) (r : Result ⊤ E) (a b c : Option (List ℕ))
    → lines ≡ [] → Walked cells grid text row lines a b → Sends r b c (closing row) → Sends r a c (chosen cells grid text)
ends cells grid text row lines r a b c e w q =
    let whole : chosen cells grid text ≡ w.0 ++ closing row =
    w.1 ∙ ap (λ (ls : List Text). w.0 ++ lines_text cells grid row ls) e ∙ ap (λ (l : List ℕ). w.0 ++ l) (no_line cells grid row) in
    sends_same r a c (w.0 ++ closing row) (chosen cells grid text) (sym whole) (sends_more r a b c w.0 (closing row) w.2 q)

pub ends_with : {E : Type 0} (cells grid : Option Text) (text : Text) (row : Option Row) (lines more : List Text) (last : Text) (r : Result ⊤ E)
    (a b c : Option (List ℕ)) → lines ≡ last ∷ more → true ≡ (length more == 0) → Walked cells grid text row lines a b → Sends r b c (closing row ++ last)
    → Sends r a c (chosen cells grid text)
ends_with cells grid text row lines more last r a b c e none w q =
    let whole : chosen cells grid text ≡ w.0 ++ (closing row ++ last) =
    w.1 ∙ ap (λ (ls : List Text). w.0 ++ lines_text cells grid row ls) e ∙ ap (λ (l : List ℕ). w.0 ++ l) (last_line cells grid row last more none) in
    sends_same r a c (w.0 ++ (closing row ++ last)) (chosen cells grid text) (sym whole) (sends_more r a b c w.0 (closing row ++ last) w.2 q)

one_more : (cells grid : Option Text) (text : Text) (row : Option Row) (lines more : List Text) (next : Text) (front : List ℕ)
    → lines ≡ next ∷ more → false ≡ (length more == 0) → chosen cells grid text ≡ front ++ lines_text cells grid row lines
    → chosen cells grid text ≡ (front ++ line_text cells grid row next) ++ lines_text cells grid (row_of_line cells grid row next) more
one_more cells grid text row lines more next front e some w =
    w ∙ ap (λ (ls : List Text). front ++ lines_text cells grid row ls) e ∙ ap (λ (l : List ℕ). front ++ l) (next_line cells grid row next more some)
    ∙ sym (append_assoc front (line_text cells grid row next) (lines_text cells grid (row_of_line cells grid row next) more))

pub stops : {E : Type 0} (cells grid : Option Text) (text : Text) (row : Option Row) (lines more : List Text) (next : Text) (e : E)
    (a b c : Option (List ℕ)) → lines ≡ next ∷ more → false ≡ (length more == 0) → Walked cells grid text row lines a b
    → Sends (Err e) b c (line_text cells grid row next) → Sends (Err e) a c (chosen cells grid text)
stops cells grid text row lines more next e a b c is some w q =
    let t1 : List ℕ = w.0 ++ line_text cells grid row next in
    let t2 : List ℕ = lines_text cells grid (row_of_line cells grid row next) more in
    sends_same (Err e) a c (t1 ++ t2) (chosen cells grid text) (sym (one_more cells grid text row lines more next w.0 is some w.1))
    (sends_less e a c t1 t2 (sends_more (Err e) a b c w.0 (line_text cells grid row next) w.2 q))

pub goes_on : (cells grid : Option Text) (text : Text) (row : Option Row) (lines more : List Text) (next : Text) (a b c : Option (List ℕ))
    → lines ≡ next ∷ more → false ≡ (length more == 0) → Walked cells grid text row lines a b → Appends b c (line_text cells grid row next)
    → Walked cells grid text (row_of_line cells grid row next) more a c
goes_on cells grid text row lines more next a b c is some w q = (
  w.0 ++ line_text cells grid row next,
  one_more cells grid text row lines more next w.0 is some w.1,
  appends_then a b c w.0 (line_text cells grid row next) w.2 q,
)
