-- Which blocks a log stands for.
use Rattle.std.specs.Prelude.{◌≡◌, List, [], ◌++◌, map, length, All}
use Rattle.std.specs.List.{flat_map}
use Rattle.tags.specs.declared.token.Token.{Token}
use Rattle.law_linearization.specs.History.{Act, Block}
use Rattle.ordering.specs.declared.log.Counts.{Counts}
use Rattle.ordering.specs.Noted.{Noted}

-- the token that each event of the block took
abbrev pub taken_in : Block → List Token
taken_in b = map (λ (a : Act). a.token) b.acts

abbrev pub made_in : Block → List Token
made_in b = b.made

abbrev pub counts_of : Block → Counts
counts_of b = record { events = length b.acts; spent = length b.spent; made = length b.made }

-- the tokens that it spent are the first ones that its events took
abbrev pub SpendsOldest : Block → Type 0
SpendsOldest b = (later : List Token) × (taken_in b ≡ b.spent ++ later)

-- A log has these whole blocks, and then events that took these tokens, and tokens that were made.
pub record Notes (n : Noted) (blocks : List Block) (last_taken last_made : List Token) : Type 0 where
  pub taken : n.taken ≡ flat_map taken_in blocks ++ last_taken
  pub made : n.made ≡ flat_map made_in blocks ++ last_made
  pub counts : n.blocks ≡ map counts_of blocks
  pub oldest : All SpendsOldest blocks

-- A log has these blocks and nothing else.
abbrev pub Logs : Noted → List Block → Type 0
Logs n blocks = Notes n blocks [] []
