-- What is written for bytes that should be an object: its listing, alone or with its literals, its picture, or the same code as version 2.
use Rattle.std.specs.Prelude.{◌≡◌, ◌++◌, ℕ, List, Option, Some, None, Result, Ok, Err, ⊤}
use Rattle.std.specs.Io.KnownBytes.{Appends}
use Rattle.object_view.specs.Reading.{opened}
use Rattle.object_view.specs.Checks.{first_refusal}
use Rattle.object_view.specs.declared.fault.ObjectFault.{ObjectFault}
use Rattle.semantics.specs.Program.{Code}
use Rattle.semantics.specs.Bytes.{IsObject, bytes_of}
use Rattle.disassembler.specs.Listing.{listing, listing_with_literals}
use Rattle.dot.specs.CodeDot.{code_dot}
use Rattle.driver.specs.declared.objects.ObjectRefusal.{ObjectRefusal}
use Rattle.driver.specs.declared.objects.ObjectRefusal.TheVariants.{Object, Write}

-- the bytes are an object, of this code and of no other
pub record IsOpened (bytes : List ℕ) : Type 0 where
  pub unrefused : first_refusal bytes ≡ None
  pub object : IsObject bytes (opened bytes).version (opened bytes).code
  pub only : (v : ℕ) (c : Code) → IsObject bytes v c → ((opened bytes).version ≡ v) × ((opened bytes).code ≡ c)

-- the bytes are an object of no code, and this is their first fault
pub record IsUnopened (bytes : List ℕ) (fault : ObjectFault) : Type 0 where
  pub first : first_refusal bytes ≡ Some fault
  pub none : (v : ℕ) (c : Code) → IsObject bytes v c → ⊥

abbrev pub listing_of : List ℕ → List ℕ
listing_of bytes = listing (opened bytes).version (opened bytes).code.program

-- with its table of literals
abbrev pub listing_with_literals_of : List ℕ → List ℕ
listing_with_literals_of bytes = listing_with_literals (opened bytes).version (opened bytes).code

-- For an object this text is written. For other bytes nothing is, and the first fault is given. After a failed write a
-- beginning of the text was written.
abbrev pub Writes : (List ℕ → List ℕ) → Result ⊤ ObjectRefusal → Option (List ℕ) → Option (List ℕ) → List ℕ → Type 0
Writes text (Ok x) old new bytes = IsOpened bytes × Appends old new (text bytes)
Writes text (Err (Object fault)) old new bytes = IsUnopened bytes fault × (new ≡ old)
Writes text (Err (Write e)) old new bytes = IsOpened bytes × ((front : List ℕ) × (rest : List ℕ) × (text bytes ≡ front ++ rest) × Appends old new front)

abbrev pub Disassembles : Result ⊤ ObjectRefusal → Option (List ℕ) → Option (List ℕ) → List ℕ → Type 0
Disassembles = Writes listing_of

abbrev pub DisassemblesWithLiterals : Result ⊤ ObjectRefusal → Option (List ℕ) → Option (List ℕ) → List ℕ → Type 0
DisassemblesWithLiterals = Writes listing_with_literals_of

-- the picture of the code
abbrev pub picture_of : List ℕ → List ℕ
picture_of bytes = code_dot (opened bytes).code.program

abbrev pub Draws : Result ⊤ ObjectRefusal → Option (List ℕ) → Option (List ℕ) → List ℕ → Type 0
Draws = Writes picture_of

-- the one spelling of the code in version 2
abbrev pub upgrade_of : List ℕ → List ℕ
upgrade_of bytes = bytes_of 2 (opened bytes).code

abbrev pub Upgrades : Result ⊤ ObjectRefusal → Option (List ℕ) → Option (List ℕ) → List ℕ → Type 0
Upgrades = Writes upgrade_of
