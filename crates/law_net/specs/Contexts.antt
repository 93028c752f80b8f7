-- The code of a context: its block, its code block, and what it invokes.
use Rattle.std.specs.Prelude.{◌≡◌, ℕ, ◌+◌, Bool, true, [], Option, Some, None, if◌then◌else◌}
use Rattle.tags.specs.declared.token.Port.TheVariants.{Left}
use Rattle.semantics.specs.Graph.{Block, Flow}
use Rattle.semantics.specs.Meaning.{Context, Main, Called, Turned, block_number, block_of}
use Rattle.semantics.specs.Cause.{is_turn}
use Rattle.law_net.specs.ContextsParts.{Landing, Note, BackTo, ToHost, inlet}
use Rattle.law_net.specs.ContextsBlocks.{Wiring, Site, is_call, is_loop, is_strict}

-- The wirings of all code blocks, and the code block of each block's loop variant
pub record Wires : Type 0 where
  pub variant : ℕ → ℕ
  pub wiring : ℕ → Wiring

abbrev pub or_zero : Option ℕ → ℕ
or_zero None = 0
or_zero (Some n) = n

abbrev pub no_block : Block ℕ
no_block = record { inputs = 0; outputs = 0; nodes = []; results = [] }

abbrev pub or_none : Option (Block ℕ) → Block ℕ
or_none None = no_block
or_none (Some b) = b

abbrev pub block_in : Flow → Context → Block ℕ
block_in fl c = or_none (block_of fl c)

abbrev pub number_in : Flow → Context → ℕ
number_in fl c = or_zero (block_number fl c)

-- the number of its code block
abbrev pub code_in : Flow → Wires → Context → ℕ
code_in fl w c = if is_turn c then w.variant (number_in fl c) else number_in fl c

abbrev pub site_in : Flow → Wires → Context → Site
site_in fl w c = record { block = block_in fl c; number = number_in fl c; turns = is_turn c; own = code_in fl w c }

abbrev pub wiring_in : Flow → Wires → Context → Wiring
wiring_in fl w c = w.wiring (code_in fl w c)

-- The graph has the context.
abbrev pub HasBlock : Flow → Context → Type 0
HasBlock fl c = (b : Block ℕ) × (block_of fl c ≡ Some b)

abbrev pub IsContext : Flow → Context → Type 0
IsContext fl Main = HasBlock fl Main
IsContext fl (Called c n) = IsContext fl c × (is_call (block_in fl c) n ≡ true) × HasBlock fl (Called c n)
IsContext fl (Turned c n i) = IsContext fl c × (is_loop (block_in fl c) n ≡ true) × HasBlock fl (Turned c n i)

-- what a call or a loop at a node makes first
abbrev pub child : Flow → Context → ℕ → Context
child fl c n = if is_loop (block_in fl c) n then Turned c n 0 else Called c n

-- the turn after it
abbrev pub next : Context → Context
next (Turned c n i) = Turned c n (i + 1)
next c = c

-- the continuation with which it is entered
abbrev pub return_of : Context → Note
return_of Main = ToHost
return_of (Called c n) = BackTo c (inlet (Landing n 0) Left 0)
return_of (Turned c n i) = BackTo c (inlet (Landing n 0) Left 0)

abbrev pub is_strict_in : Flow → Context → ℕ → Bool
is_strict_in fl c n = is_strict (block_in fl c) n
