-- A text that begins with no new comment and no `..` begins as it does in the core, but for the new words.
use Rattle.std.specs.Prelude.{◌≡◌, ℕ, ◌^◌, ◌&&◌, nat_le, Bool, true, false, List, [], ◌∷◌, drop, map, length, find, codes, option_map, take_while}
use Rattle.std.specs.Prelude.{Option, None, Some, if◌then◌else◌, refl}
use Rattle.std.specs.Char.{is_ascii_digit}
use Rattle.std.specs.Str.Parse.{digits_value}
use Rattle.std.proofs.Common.{sym, subst, ap, ◌∙◌}
use Rattle.source.specs.declared.fault.FaultKind.TheVariants as core_fault
use Rattle.source.specs.declared.token.Sign.{Sign as CoreSign}
use Rattle.source.specs.declared.token.TokenKind.TheVariants as core_kind
use Rattle.source.specs.Tokens as core
use Rattle.source.specs.Tokens.{begins, line_from, is_blank, is_run_byte, is_numeral}
use Rattle.source_tokens.specs.declared.beginning.Beginning as core_code
use Rattle.source_tokens.specs.Beginnings.{said as core_said, opening as core_opening}
use Rattle.surface.specs.declared.fault.FaultKind.TheVariants as fault
use Rattle.surface.specs.declared.token.Sign.{Sign}
use Rattle.surface.specs.declared.token.Sign.TheVariants as sign
use Rattle.surface.specs.declared.token.TokenKind.TheVariants.{Mark, Number}
use Rattle.surface.specs.Tokens.{Beginning, Skipped, Read, Refused, numeral_run, word_run, run_read, sign_text, signs, sign_read, beginning}
use Rattle.surface.specs.Tokens.{comment_len, comment_read, behind}
use Rattle.surface_tokens.specs.Beginnings.{opening, with_forms}
use Rattle.surface_tokens.proofs.CommentEnds.{begins_two}
use Rattle.surface_tokens.proofs.NewWords.{either_way, find_mapped, words_are}

-- RUNS
numerals_are : (run : List ℕ) → numeral_run run ≡ with_forms run (core.numeral_run run)
numerals_are run =
    let v : ℕ = digits_value 10 run in
    either_way run (is_numeral run && nat_le v (2 ^ 63)) (Read (Number v) (length run)) (Refused (fault.Core core_fault.BadNumber))
    (core.Read (core_kind.Number v) (length run)) (core.Refused core_fault.BadNumber) refl refl

runs_are : (b : ℕ) (run : List ℕ) → run_read b run ≡ with_forms run (core.run_read b run)
runs_are b run = either_way run (is_ascii_digit b) (numeral_run run) (word_run run) (core.numeral_run run) (core.word_run run) (numerals_are run) (words_are run)

-- SIGNS
of_core : (run : List ℕ) (o : Option CoreSign) → sign_read (option_map (λ s. sign.Core s) o) ≡ with_forms run (core.sign_read o)
of_core run None = refl
of_core run (Some s) = refl

signs_are : (run text : List ℕ) → begins (codes "..") text ≡ false
    → sign_read (find (λ s. begins (sign_text s) text) signs) ≡ with_forms run (core.sign_read (find (λ s. begins (core.sign_text s) text) core.signs))
signs_are run text no_range =
    let test = λ (s : Sign). begins (sign_text s) text in
    let passed : find test signs ≡ find test (map (λ s. sign.Core s) core.signs) = rw no_range refl in
    ap sign_read (passed ∙ find_mapped (λ s. sign.Core s) test core.signs) ∙ of_core run (find (λ s. begins (core.sign_text s) text) core.signs)

-- ALL OF THEM
abbrev core_token : ℕ → List ℕ → core.Beginning
core_token b bytes =
    if is_run_byte b then core.run_read b (take_while is_run_byte (b ∷ bytes))
    else core.sign_read (find (λ s. begins (core.sign_text s) (b ∷ bytes)) core.signs)

abbrev token : ℕ → List ℕ → Beginning
token b bytes =
    if is_run_byte b then run_read b (take_while is_run_byte (b ∷ bytes))
    else sign_read (find (λ s. begins (sign_text s) (b ∷ bytes)) signs)

tokens_are : (b : ℕ) (bytes : List ℕ) → begins (codes "..") (b ∷ bytes) ≡ false
    → token b bytes ≡ with_forms (take_while is_run_byte (b ∷ bytes)) (core_token b bytes)
tokens_are b bytes no_range =
    let run : List ℕ = take_while is_run_byte (b ∷ bytes) in
    either_way run (is_run_byte b) (run_read b run) (sign_read (find (λ s. begins (sign_text s) (b ∷ bytes)) signs))
    (core.run_read b run) (core.sign_read (find (λ s. begins (core.sign_text s) (b ∷ bytes)) core.signs)) (runs_are b run) (signs_are run (b ∷ bytes) no_range)

not_so : (t : Bool) (x y : Beginning) → t ≡ false → (if t then x else y) ≡ y
not_so t x y e = rw e refl

pub beginnings_are : (b : ℕ) (bytes : List ℕ) → begins (codes "/*") (b ∷ bytes) ≡ false → begins (codes "..") (b ∷ bytes) ≡ false
    → beginning b bytes ≡ with_forms (take_while is_run_byte (b ∷ bytes)) (core.beginning b bytes)
beginnings_are b bytes no_comment no_range =
    let text : List ℕ = b ∷ bytes in
    let run : List ℕ = take_while is_run_byte text in
    let comment : Beginning = comment_read (comment_len (behind bytes)) in
    let n : ℕ = length (line_from text) in
    either_way run (is_blank b) (Skipped 1) (if begins (codes "//") text then Skipped n else if begins (codes "/*") text then comment else token b bytes)
    (core.Skipped 1) (if begins (codes "//") text then core.Skipped n else core_token b bytes) refl
    (either_way run (begins (codes "//") text) (Skipped n) (if begins (codes "/*") text then comment else token b bytes)
    (core.Skipped n) (core_token b bytes) refl
    (not_so (begins (codes "/*") text) comment (token b bytes) no_comment ∙ tokens_are b bytes no_range))

pub openings_are : (text : List ℕ) → begins (codes "/*") text ≡ false → begins (codes "..") text ≡ false
    → opening text ≡ option_map (with_forms (take_while is_run_byte text)) (core_opening text)
openings_are [] no_comment no_range = refl
openings_are (b ∷ bytes) no_comment no_range = ap (λ (x : Beginning). Some x) (beginnings_are b bytes no_comment no_range)

-- A TEXT, as code has what it begins with
pub with_comment : (text : List ℕ) → begins (codes "/*") text ≡ true → opening text ≡ Some (comment_read (comment_len (drop 2 text)))
with_comment text e =
    let two = begins_two 47 42 text e in
    subst (λ (xs : List ℕ). opening xs ≡ Some (comment_read (comment_len (drop 2 xs)))) (sym two.1) refl

pub with_range : (text : List ℕ) → begins (codes "..") text ≡ true → opening text ≡ Some (Read (Mark sign.Range) 2)
with_range text e =
    let two = begins_two 46 46 text e in
    subst (λ (xs : List ℕ). opening xs ≡ Some (Read (Mark sign.Range) 2)) (sym two.1) refl

pub as_in_core : (text : List ℕ) (o : Option core_code.Beginning) (b : core_code.Beginning) (x : Beginning)
    → begins (codes "/*") text ≡ false → begins (codes "..") text ≡ false → option_map core_said o ≡ core_opening text → o ≡ Some b
    → x ≡ with_forms (take_while is_run_byte text) (core_said b) → Some x ≡ opening text
as_in_core text o b x no_comment no_range is found e =
    let forms = with_forms (take_while is_run_byte text) in
    let same : Some (core_said b) ≡ core_opening text = ap (option_map core_said) (sym found) ∙ is in
    ap (λ (y : Beginning). Some y) e ∙ ap (option_map forms) same ∙ sym (openings_are text no_comment no_range)
