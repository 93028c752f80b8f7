-- What a log notes, and the room that it has.
use Rattle.std.specs.Prelude.{ℕ, ◌+◌, ◌≤◌, List, [], ◌∷◌, ◌++◌, vec_len}
use Rattle.std.specs.Vec.{vec_capacity}
use Rattle.tags.specs.declared.token.Token.{Token}
use Rattle.ordering.specs.declared.log.Counts.{Counts}
use Rattle.ordering.specs.declared.log.BlockLog.{BlockLog}

pub record Noted : Type 0 where
  pub taken : List Token
  pub made : List Token
  pub blocks : List Counts

abbrev pub noted_in : {A : Type 0} → BlockLog A → Noted
noted_in l = record { taken = l.taken.items; made = l.made.items; blocks = l.blocks.items }

abbrev pub nothing : Noted
nothing = record { taken = []; made = []; blocks = [] }

-- with one more event, token that was made, or block, after the others
abbrev pub with_event : Noted → Token → Noted
with_event n t = record { taken = n.taken ++ t ∷ []; made = n.made; blocks = n.blocks }

abbrev pub with_made : Noted → Token → Noted
with_made n t = record { taken = n.taken; made = n.made ++ t ∷ []; blocks = n.blocks }

abbrev pub with_block : Noted → Counts → Noted
with_block n c = record { taken = n.taken; made = n.made; blocks = n.blocks ++ c ∷ [] }

-- there is room for these numbers of further events, made tokens and blocks
abbrev pub HasRoom : {A : Type 0} → ℕ → ℕ → ℕ → BlockLog A → Type 0
HasRoom events made blocks l = (vec_len l.taken + events ≤ vec_capacity l.taken) × (vec_len l.made + made ≤ vec_capacity l.made)
    × (vec_len l.blocks + blocks ≤ vec_capacity l.blocks)
