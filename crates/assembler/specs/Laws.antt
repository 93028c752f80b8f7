-- Listings and objects: what is assembled of a text is the one object that the text is a listing of, and what is listed of an
-- object gives the object's bytes again: with its table of literals always, and without it where the instructions determine the table.
use Rattle.std.specs.Prelude.{◌≡◌, ◌↔◌, ℕ, List, Ok}
use Rattle.semantics.specs.Program.{Code}
use Rattle.semantics.specs.Bytes.{bytes_of, IsCode, IsObject}
use Rattle.disassembler.specs.Listing.{listing, listing_with_literals}
use Rattle.assembler.specs.Grammar.{IsListingOf, AllOperands, with_operands}
use Rattle.assembler.specs.Assembling.{assembled}

-- What is assembled of a text is the code that has an object and that the text is a listing of.
abbrev pub IsExact : Type 0
IsExact = (text : List ℕ) (version : ℕ) (c : Code) → (assembled text ≡ Ok (version, c)) ↔ (IsListingOf text version c × IsCode version c)

-- no text is a listing of two objects
abbrev pub IsUnique : Type 0
IsUnique = (text : List ℕ) (v w : ℕ) (c d : Code) → IsListingOf text v c → IsCode v c → IsListingOf text w d → IsCode w d → (v ≡ w) × (c ≡ d)

-- What is written of an object with its literals is a listing of it; without them, of the same program with the table that its
-- instructions determine, which is the object's own exactly where they determine all of it.
pub record HasListing (version : ℕ) (c : Code) : Type 0 where
  pub whole : IsListingOf (listing_with_literals version c) version c
  pub program : IsListingOf (listing version c.program) version (with_operands c)
  pub object : IsCode version (with_operands c)
  pub same : (with_operands c ≡ c) ↔ AllOperands c

abbrev pub AllHaveListings : Type 0
AllHaveListings = (version : ℕ) (c : Code) → IsCode version c → HasListing version c

-- The bytes of a version and a code are the given ones. The listing with the literals is assembled as these; the listing
-- without them, too, where the instructions determine the table, and else as the same program with the table that they determine.
pub record Reassembles (bytes : List ℕ) (version : ℕ) (c : Code) : Type 0 where
  pub whole : assembled (listing_with_literals version c) ≡ Ok (version, c)
  pub reread : AllOperands c → assembled (listing version c.program) ≡ Ok (version, c)
  pub program : assembled (listing version c.program) ≡ Ok (version, with_operands c)
  pub spelling : bytes_of version c ≡ bytes

-- each object is restored
abbrev pub RoundTrips : Type 0
RoundTrips = (bytes : List ℕ) (version : ℕ) (c : Code) → IsObject bytes version c → Reassembles bytes version c
