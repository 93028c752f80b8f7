-- What is left of a log, and how it goes on.
use Rattle.std.specs.Prelude.{◌≡◌, ◌≢◌, ℕ, ◌+◌, ◌<◌, List, [], ◌∷◌, ◌++◌, length, take, drop, All, slice_get, Some, ⊤}
use Rattle.tags.specs.declared.token.Token.{Token}
use Rattle.tags.specs.Addresses.{element_of}
use Rattle.semantics.specs.Machine.{Events}
use Rattle.law_linearization.specs.History.{Block, events_in, blocks_by, LeavesTokens}
use Rattle.ordering.specs.declared.log.Counts.{Counts}
use Rattle.ordering.specs.declared.rest.Rest.{Rest}
use Rattle.ordering.specs.Logs.{taken_in}
use Rattle.ordering.specs.Pools.{all_copies}

-- the tokens that the first of these blocks spends
abbrev pub first_spent : List Token → List Counts → List Token
first_spent taken [] = []
first_spent taken (c ∷ later) = take c.spent taken

-- What is left of a log stands for these blocks. The first of them has those of its spent tokens that it still needs.
abbrev pub IsLogOf : List Token → List Token → List Token → List Counts → List Block → Type 0
IsLogOf needed taken made counts [] = (needed ≡ []) × (counts ≡ [])
IsLogOf needed taken made counts (b ∷ later) =
    (needed ≡ b.spent) × (c : Counts) × (cs : List Counts) × (counts ≡ c ∷ cs) × (take c.events taken ≡ taken_in b) × (take c.made made ≡ b.made)
    × IsLogOf (first_spent (drop c.events taken) cs) (drop c.events taken) (drop c.made made) cs later

abbrev pub IsRestOf : Rest → List Block → Type 0
IsRestOf r blocks = IsLogOf r.needed.now r.taken.now r.made.now r.blocks.now blocks

-- all blocks of such lists are left
abbrev pub IsWhole : List Token → List Token → List Counts → Rest → Type 0
IsWhole taken made counts r = (r.needed.now ≡ first_spent taken counts) × (r.taken.now ≡ taken) × (r.made.now ≡ made) × (r.blocks.now ≡ counts)

-- the tokens are those that are counted so
abbrev pub Holds : (Token → ℕ) → List Token → Type 0
Holds amounts tokens = (q : Token) → amounts q ≡ all_copies q tokens

-- the block with other tokens to spend
abbrev pub with_spent : List Token → Block → Block
with_spent ts b = record { element = b.element; spent = ts; made = b.made; acts = b.acts }

-- the blocks are of the element, and spend tokens that are addressed to it
abbrev pub AreOwn : ℕ → ℕ → List Block → Type 0
AreOwn n e [] = ⊤
AreOwn n e (b ∷ later) = (b.element ≡ e) × All (λ (t : Token). element_of n t.to ≡ e) b.spent × AreOwn n e later

-- the others have the same blocks in both histories
abbrev pub SameOthers : ℕ → List Block → List Block → Type 0
SameOthers e one two = (i : ℕ) → i ≢ e → blocks_by i one ≡ blocks_by i two

-- Element e went on: from these tokens of the pool and these blocks with `made` as its next events, to those. So a legal history goes on as one that is legal
-- there, and one that is legal there goes back to one that is legal here.
pub record Leads (n e : ℕ) (tokens : List Token) (blocks : List Block) (made : Events) (left : List Token) (later : List Block) : Type 0 where
  pub own : AreOwn n e blocks → AreOwn n e later
  pub forth : (log : List Block) (last : List Token) → LeavesTokens n tokens log last → blocks_by e log ≡ blocks
      → (next : List Block) × LeavesTokens n left next last × (blocks_by e next ≡ later) × SameOthers e next log
  pub back : AreOwn n e blocks → (next : List Block) (last : List Token) → LeavesTokens n left next last → blocks_by e next ≡ later
      → (log : List Block) × LeavesTokens n tokens log last × (blocks_by e log ≡ blocks) × SameOthers e log next × (events_in log ≡ made ++ events_in next)

-- What an element did as it went on: what it leaves, for whichever blocks and tokens memory stood for
pub record GoesOn (n e : ℕ) (tokens : List Token) (blocks : List Block) (before : Events) (amounts : Token → ℕ) (rest : Rest) (after : Events) : Type 0 where
  pub left : List Token
  pub later : List Block
  pub made : Events
  pub holds : Holds amounts left
  pub stands : IsRestOf rest later
  pub noted : after ≡ before ++ made
  pub leads : Leads n e tokens blocks made left later

-- Some of the tokens that the next block needs, the first ones, were taken out of the pool.
abbrev pub TakesNeeded : (Token → ℕ) → Rest → (Token → ℕ) → Rest → Type 0
TakesNeeded before old after new =
    (taken : List Token) × (old.needed.now ≡ taken ++ new.needed.now) × ((q : Token) → before q ≡ after q + all_copies q taken)
    × (new.taken.now ≡ old.taken.now) × (new.made.now ≡ old.made.now) × (new.blocks.now ≡ old.blocks.now)

-- The next block waits for a token that is not in the pool, or there is none.
abbrev pub IsStuck : (Token → ℕ) → Rest → Type 0
IsStuck amounts r = 0 < length r.blocks.now → (t : Token) × (slice_get r.needed.now 0 ≡ Some t) × (amounts t ≡ 0)
