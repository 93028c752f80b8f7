-- One number of a list of numbers of elements.
use Rattle.std.proofs.Common.{◌≡◌, ap, ◌∙◌, ℕ, suc, Option, Some, None, refl, sym}
use Rattle.std.specs.Prelude.{option_and_then}
use Rattle.command_line.specs.Words.{Text, more_sizes, number_of, parts_at, sizes_from, with_size}
use Rattle.command_line.specs.declared.sizes.Sizes.{Sizes}

pub no_room : (z : Sizes) (text : Text) → sizes_from z 0 text ≡ None
unfolding sizes_from
no_room z text = refl

-- the result for the parts of the list
go_on : Sizes → ℕ → Text × Option Text → Option Sizes
go_on z room parts = option_and_then (λ n. more_sizes (with_size z n) parts.1 (λ y more. sizes_from y room more)) (number_of parts.0)

step : (z : Sizes) (room rest : ℕ) (text : Text) → room ≡ suc rest → sizes_from z room text ≡ go_on z rest (parts_at 44 text)
unfolding sizes_from go_on
step z room rest text e = ap (λ r. sizes_from z r text) e

by_number : Sizes → ℕ → Option Text → Option ℕ → Option Sizes
by_number z rest more number = option_and_then (λ n. more_sizes (with_size z n) more (λ y text. sizes_from y rest text)) number

-- the first number is none
pub no_number : (z : Sizes) (room rest : ℕ) (first text : Text) (more : Option Text) → room ≡ suc rest
    → (first, more) ≡ parts_at 44 text → None ≡ number_of first → sizes_from z room text ≡ None
unfolding go_on by_number
no_number z room rest first text more e p h = step z room rest text e ∙ ap (go_on z rest) (sym p) ∙ ap (by_number z rest more) (sym h)

pub one_number : (z : Sizes) (room rest n : ℕ) (first text : Text) (more : Option Text) → room ≡ suc rest
    → (first, more) ≡ parts_at 44 text → Some n ≡ number_of first
    → sizes_from z room text ≡ more_sizes (with_size z n) more (λ y later. sizes_from y rest later)
unfolding go_on by_number
one_number z room rest n first text more e p h = step z room rest text e ∙ ap (go_on z rest) (sym p) ∙ ap (by_number z rest more) (sym h)
