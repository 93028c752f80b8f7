-- The walk over the pieces of a template, and over the lines of a text.
use Rattle.std.proofs.Common.{◌≡◌, ℕ, suc, Bool, true, false, List, [], ◌∷◌, ◌++◌, ap, ◌∙◌}
use Rattle.std.specs.Prelude.{if◌then◌else◌}
use Rattle.json_text.specs.Json.{Text, Object, after_piece, after_value, is_last, lines_text, next_value, object_end, open_after, piece_text, pieces_text, read_line, read_text, values_text}

pub no_piece : (pieces : List Text) (words : Text) → pieces ≡ [] → pieces_text pieces words ≡ []
unfolding pieces_text
no_piece pieces words e = ap (λ (ps : List Text). pieces_text ps words) e

pub next_piece : (pieces more : List Text) (piece words : Text) → pieces ≡ piece ∷ more
    → pieces_text pieces words ≡ piece_text piece words ++ pieces_text more (after_piece piece words)
unfolding pieces_text
next_piece pieces more piece words e = ap (λ (ps : List Text). pieces_text ps words) e

pub no_line : (lines : List Text) (object : Object) → lines ≡ [] → lines_text object lines ≡ object_end object
unfolding lines_text
no_line lines object e = ap (λ (ls : List Text). lines_text object ls) e

either_line : (text : Text) (more : List Text) (object : Object) (b : Bool) → is_last text more ≡ b
    → lines_text object (text ∷ more) ≡ if b then object_end object else read_text object (read_line text) ++ lines_text (open_after object (read_line text).0) more
unfolding lines_text
either_line text more object b e =
    ap (λ (c : Bool). if c then object_end object else read_text object (read_line text) ++ lines_text (open_after object (read_line text).0) more) e

pub last_line : (lines more : List Text) (text : Text) (object : Object) → lines ≡ text ∷ more → is_last text more ≡ true
    → lines_text object lines ≡ object_end object
last_line lines more text object e is = ap (λ (ls : List Text). lines_text object ls) e ∙ either_line text more object true is

pub next_line : (lines more : List Text) (text : Text) (object : Object) → lines ≡ text ∷ more → is_last text more ≡ false
    → lines_text object lines ≡ read_text object (read_line text) ++ lines_text (open_after object (read_line text).0) more
next_line lines more text object e is = ap (λ (ls : List Text). lines_text object ls) e ∙ either_line text more object false is

pub more_values : (n m : ℕ) (words : Text) → n ≡ suc m → values_text n words ≡ next_value words ++ values_text m (after_value words)
unfolding values_text
more_values n m words e = ap (λ (k : ℕ). values_text k words) e

pub no_values : (n : ℕ) (words : Text) → n ≡ 0 → values_text n words ≡ []
unfolding values_text
no_values n words e = ap (λ (k : ℕ). values_text k words) e
