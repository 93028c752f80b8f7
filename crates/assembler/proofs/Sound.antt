-- What is assembled is an object, and the text is a listing of it.
use Rattle.std.proofs.Common.{◌≡◌, ℕ, true, false, List, All, Ok, ℤ, refl, inl, inr, subst}
use Rattle.std.specs.Prelude.{FitsSigned}
use Rattle.std.specs.Int.{w64}
use Rattle.semantics.specs.Program.{Code}
use Rattle.semantics.specs.Bytes.{IsCode}
use Rattle.assembler.specs.declared.found.Part.TheVariants.{Head}
use Rattle.assembler.specs.Words.{lines_in}
use Rattle.assembler.specs.Grammar.{IsListingOf}
use Rattle.assembler.specs.Reading.{nothing, text_from}
use Rattle.assembler.specs.Checks.{code_checked}
use Rattle.assembler.proofs.Steps.{text_stripped}
use Rattle.assembler.proofs.Prefixes.{Says, steps_say}
use Rattle.assembler.proofs.Fitting.{has_object}

listing_from : (text : List ℕ) (r : ℕ × Code) → Says (lines_in text) r → IsListingOf text r.0 r.1
listing_from text r (true, some, e) = inl (some, e)
listing_from text r (false, reread, e) = inr (reread, e)

pub is_listing : (text : List ℕ) (r : ℕ × Code) → text_from text ≡ Ok r → IsListingOf text r.0 r.1
is_listing text r e = listing_from text r (steps_say nothing Head (lines_in text) r (text_stripped text r e) (refl, refl, refl, refl))

pub sound : (text : List ℕ) (v w : ℕ) (c : Code) → v ≡ w → All (λ (z : ℤ). FitsSigned w64 z) c.literals → text_from text ≡ Ok (v, c)
    → code_checked v c ≡ Ok tt → IsListingOf text w c × IsCode w c
sound text v w c same fit read checked = subst (λ (u : ℕ). IsListingOf text u c × IsCode u c) same (is_listing text (v, c) read, has_object v c fit checked)
