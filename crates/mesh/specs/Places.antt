-- What clauses inside the crate say of a place at the table.
use Rattle.std.specs.Prelude.{◌≡◌, ℕ, ◌<◌, ◌≤◌, List, [], ◌∷◌, ◌++◌, IsPermutation}
use Rattle.atomic_table.specs.Table.{Me}
use Rattle.atomic_table.specs.Seated.{TableId}
use Rattle.atomic_table.specs.declared.shared.Seat as at_table
use Rattle.tags.specs.declared.token.Token.{Token}
use Rattle.mesh.specs.declared.view.Commit.{Commit}
use Rattle.mesh.specs.declared.view.Stage.TheVariants.{Idle}
use Rattle.mesh.specs.declared.view.Part.{Part}
use Rattle.mesh.specs.declared.view.View.{View}
use Rattle.mesh.specs.Deeds.{commit}
use Rattle.mesh.specs.Seats.{first_of, others_of}
use Rattle.mesh.specs.Rule.{Sits, after_commit, with_seen, Leaves}

-- the table of a mesh
abbrev pub IsBuilt : TableId → ℕ → Type 0
IsBuilt table elements = (table.words ≡ 258) × (table.slots ≡ 256) × (0 < elements) × (elements ≤ 16)

module _ {S : Type 0} where
  abbrev pub part_of : at_table.Seat S View → Part
  part_of s = first_of s.me.0.parts

  -- the place is at this table, which is that of a mesh
  abbrev pub IsTop : TableId → at_table.Seat S View → Type 0
  IsTop table s = (s.table_id ≡ table) × (table.words ≡ 258) × (table.slots ≡ 256)

  -- it holds no slot, and has no parts to give out
  abbrev pub IsSeated : Me S View → Type 0
  IsSeated m = (m.1 ≡ []) × Sits m.0

  -- that of this element alone, between two calls
  abbrev pub IsOf : ℕ → at_table.Seat S View → Type 0
  IsOf e s = (s.me.1 ≡ []) × Sits s.me.0 × (s.me.0.parts ≡ part_of s ∷ []) × ((part_of s).element ≡ e) × ((part_of s).stage ≡ Idle)

  -- that of this element, or of several of which this is the first, between two calls
  pub record IsReady (e : ℕ) (m : Me S View) : Type 0 where
    pub seated : IsSeated m
    pub parts : m.0.parts ≡ first_of m.0.parts ∷ others_of m.0.parts
    pub element : (first_of m.0.parts).element ≡ e
    pub idle : (first_of m.0.parts).stage ≡ Idle
    pub below : e < 16

  -- a commit of these tokens: the history goes on from all that was seen, and ends with it
  abbrev pub Commits : List Token → List Token → Me S View → Me S View → Type 0
  Commits spent made old new =
      (kept : List Token) × (between : List Commit) × IsPermutation (first_of old.0.parts).held (spent ++ kept)
      × (new ≡ (
        with_seen old.0 (after_commit (first_of old.0.parts) spent made kept) ((old.0.seen ++ between)
            ++ commit (first_of old.0.parts).element spent made ∷ []),
        [],
      ))
      × ((count : ℕ) × Leaves new.0 count)
