-- THE OBJECT THAT A LISTING IS OF, or the listing's first fault: first what is no listing of any code, then what no object has.
use Rattle.std.specs.Prelude.{◌≡◌, ◌⊎◌, ℕ, ◌+◌, ◌-◌, ◌==◌, List, [], ◌∷◌, Result, Ok, Err, if◌then◌else◌}
use Rattle.semantics.specs.Program.{Code}
use Rattle.graph_file.specs.Giving.{◌>>=◌}
use Rattle.graph_file.specs.Lines.{parts}
use Rattle.assembler.specs.declared.fault.AsmFault.{AsmFault}
use Rattle.assembler.specs.declared.fault.AsmFaultKind.TheVariants.{Memory}
use Rattle.assembler.specs.declared.checks.Refusal.{Refusal}
use Rattle.assembler.specs.Causes.{unfit_kind}
use Rattle.assembler.specs.Words.{words_of, has_words}
use Rattle.assembler.specs.Reading.{text_from}
use Rattle.assembler.specs.Checks.{Checked, code_checked}

-- the number of the line with words that has this index, of the lines after the first n ones
unfoldable pub line_at : ℕ → ℕ → List (List ℕ) → ℕ
line_at n index [] = n
line_at n index (line ∷ lines) =
    if has_words (words_of line) then (if index == 0 then n + 1 else line_at (n + 1) (index - 1) lines)
    else line_at (n + 1) index lines

abbrev pub refused : List ℕ → Refusal → AsmFault
refused text r = record { kind = unfit_kind r.unfit; line = line_at 0 r.index (parts 10 text) }

abbrev pub unless_refused : List ℕ → ℕ × Code → Checked → Result (ℕ × Code) AsmFault
unless_refused text r (Ok x) = Ok r
unless_refused text r (Err e) = Err (refused text e)

unfoldable pub assembled : List ℕ → Result (ℕ × Code) AsmFault
assembled text = text_from text >>= λ r. unless_refused text r (code_checked r.0 r.1)

-- A fault is the text's first one, unless memory ran out.
abbrev pub IsFirstFault : AsmFault → Result (ℕ × Code) AsmFault → Type 0
IsFirstFault fault spec = (fault.kind ≡ Memory) ⊎ (spec ≡ Err fault)
