-- What clauses say of a mesh and of its seats.
use Rattle.std.specs.Prelude.{◌≡◌, ℕ, ◌+◌, ◌≤◌, map, List, [], ◌∷◌, ◌++◌, length, filter, IsPermutation, All, ◌==◌, if◌then◌else◌}
use mathlib.Core.Option.{some}
use mathlib.Core.List.{IsPrefix}
use lib.ListN.{get_elem?}
use Rattle.atomic_table.specs.Seated.{TableId}
use Rattle.tags.specs.declared.token.Token.{Token}
use Rattle.tags.specs.Addresses.{element_of}
use Rattle.semantics.specs.Pool.{LeavesPool}
use Rattle.mesh.specs.declared.view.Commit.{Commit}
use Rattle.mesh.specs.declared.view.Deed.{Deed}
use Rattle.mesh.specs.declared.view.Deed.TheVariants.{Committed, Posted, Took, SawLive}
use Rattle.mesh.specs.declared.view.Stage.TheVariants.{Idle}
use Rattle.mesh.specs.declared.view.Part.{Part}
use Rattle.mesh.specs.declared.view.View.{View}
use Rattle.mesh.specs.Deeds.{Bundle, posted, taken, commits_of, commits_by, commit, wins, Says, entry, Busy}

-- Which mesh it is, how many elements it has, and the tokens that it began with
pub record MeshId : Type 0 where
  pub table : TableId
  pub elements : ℕ
  pub start : List Token

-- What one element did and found, in its order; the tokens that it holds, in any order; and the history as its own last commit or look at the live word saw it
pub record Account : Type 0 where
  pub element : ℕ
  pub deeds : List Deed
  pub held : List Token
  pub last : List Commit

-- A seat: its mesh, the history that it has seen, the account of its element, and, after `join_seats`, those of the others
pub record SeatView : Type 0 where
  pub mesh : MeshId
  pub seen : List Commit
  pub own : Account
  pub joined : List Account

-- every token is addressed to the element e of n
abbrev pub AllTo : ℕ → ℕ → List Token → Type 0
AllTo n e tokens = All (λ (t : Token). element_of n t.to ≡ e) tokens

-- these tokens are among those held
abbrev pub Has : List Token → List Token → Type 0
Has held some_of_them = (kept : List Token) × IsPermutation held (some_of_them ++ kept)

-- the history is legal, each commit of it takes a token, and it leaves `count` tokens
abbrev pub Leaves : MeshId → List Commit → ℕ → Type 0
Leaves mesh history count = (pool : List Token) × LeavesPool mesh.elements mesh.start (map entry history) pool × (length pool ≡ count) × Busy history

-- the seat of an element that has done nothing, and holds the start tokens that are addressed to it
abbrev pub fresh_seat : MeshId → ℕ → SeatView
fresh_seat mesh e = record {
  mesh = mesh;
  seen = [];
  own = record { element = e; deeds = []; held = filter (λ (t : Token). element_of mesh.elements t.to == e) mesh.start; last = [] };
  joined = [];
}

-- one for each element, in order
abbrev pub AreFresh : MeshId → List SeatView → Type 0
AreFresh mesh seats = (i : ℕ) (s : SeatView) → get_elem? seats i ≡ some s → s ≡ fresh_seat mesh i

-- the same seat after one more deed, that changes nothing else
abbrev pub noting : SeatView → Deed → SeatView
noting s d = record s { own = record { element = s.own.element; deeds = s.own.deeds ++ d ∷ []; held = s.own.held; last = s.own.last } }

abbrev pub having_posted : SeatView → ℕ → Bundle → List Token → SeatView
having_posted s to x kept = record s { own = record { element = s.own.element; deeds = s.own.deeds ++ Posted to x ∷ []; held = kept; last = s.own.last } }

abbrev pub having_taken : SeatView → ℕ → Bundle → SeatView
having_taken s from x = record s {
  own = record {
    element = s.own.element;
    deeds = s.own.deeds ++ Took from x ∷ [];
    held = x
        ++ s.own.held;
    last = s.own.last;
  };
}

abbrev pub having_committed : SeatView → Bundle → Bundle → List Token → List Commit → SeatView
having_committed s spent made kept seen =
    record s { seen = seen; own = record { element = s.own.element; deeds = s.own.deeds ++ Committed spent made ∷ []; held = made ++ kept; last = seen } }

abbrev pub having_seen_live : SeatView → ℕ → List Commit → SeatView
having_seen_live s count seen =
    record s { seen = seen; own = record { element = s.own.element; deeds = s.own.deeds ++ SawLive count ∷ []; held = s.own.held; last = seen } }

-- a bundle left the seat: it still holds the other tokens that it held
abbrev pub Posts : ℕ → Bundle → SeatView → SeatView → Type 0
Posts to x old new = (kept : List Token) × IsPermutation old.own.held (x ++ kept) × (new ≡ having_posted old to x kept)

-- a commit of these tokens: the history goes on from all that was seen, ends with this commit, and is legal
abbrev pub Commits : Bundle → Bundle → SeatView → SeatView → Type 0
Commits spent made old new =
    (kept : List Token) × (between : List Commit) × IsPermutation old.own.held (spent ++ kept)
    × (new ≡ having_committed old spent made kept ((old.seen ++ between) ++ commit old.own.element spent made ∷ []))
    × ((count : ℕ) × Leaves new.mesh new.seen count)

-- a look at the live word: the history goes on from all that was seen, and leaves `count` tokens
abbrev pub Counts : ℕ → SeatView → SeatView → Type 0
Counts count old new = (between : List Commit) × (new ≡ having_seen_live old count (old.seen ++ between)) × Leaves new.mesh new.seen count

-- seats of this mesh, of one element each
abbrev pub AreAt : MeshId → List SeatView → Type 0
AreAt mesh seats = (i : ℕ) (s : SeatView) → get_elem? seats i ≡ some s → (s.mesh ≡ mesh) × (s.joined ≡ [])

-- the seats of all elements of this mesh, in order
abbrev pub AreAll : MeshId → List SeatView → Type 0
AreAll mesh seats = (length seats ≡ mesh.elements) × ((i : ℕ) (s : SeatView) → get_elem? seats i ≡ some s → (s.mesh ≡ mesh) × (s.joined ≡ [])
    × (s.own.element ≡ i))

abbrev pub accounts : SeatView → List Account
accounts s = s.own ∷ s.joined

-- the history has of each account's element just the commits of that account, in its order, and of other elements none
abbrev pub HasCommits : SeatView → Type 0
HasCommits s =
    ((i : ℕ) (a : Account) → get_elem? (accounts s) i ≡ some a → commits_by a.element s.seen ≡ commits_of a.element a.deeds)
    × ((e : ℕ) → s.mesh.elements ≤ e → commits_by e s.seen ≡ [])

-- what b took from a is a beginning of what a posted to b
abbrev pub Agree : SeatView → Type 0
Agree s = (i j : ℕ) (a b : Account) → get_elem? (accounts s) i ≡ some a → get_elem? (accounts s) j ≡ some b
    → IsPrefix (taken a.element b.deeds) (posted b.element a.deeds)

-- each account saw a beginning of the history
abbrev pub Includes : SeatView → Type 0
Includes s = (i : ℕ) (a : Account) → get_elem? (accounts s) i ≡ some a → IsPrefix a.last s.seen

-- an account that saw a history which leaves no token saw the whole: no commit follows it
abbrev pub IsFinal : SeatView → Type 0
IsFinal s = (i : ℕ) (a : Account) → get_elem? (accounts s) i ≡ some a → Leaves s.mesh a.last 0 → a.last ≡ s.seen

abbrev pub all_wins : List Account → ℕ
all_wins [] = 0
all_wins (a ∷ as_well) = wins a.deeds + all_wins as_well

-- One call set the reason to stop, or none did; what each account set or saw is this reason, or 0
abbrev pub OneStop : SeatView → Type 0
OneStop s = (word : ℕ) × ((i : ℕ) (a : Account) → get_elem? (accounts s) i ≡ some a → Says word a.deeds)
    × (all_wins (accounts s) ≡ (if word == 0 then 0 else 1))

-- THE VALUES

abbrev pub no_part : Part
no_part = record { element = 0; deeds = []; held = []; stage = Idle; last = [] }

abbrev pub first_of : List Part → Part
first_of [] = no_part
first_of (p ∷ ps) = p

abbrev pub others_of : List Part → List Part
others_of [] = []
others_of (p ∷ ps) = ps

abbrev pub account : Part → Account
account p = record { element = p.element; deeds = p.deeds; held = p.held; last = p.last }

abbrev pub mesh_id : TableId → ℕ → List Token → MeshId
mesh_id table elements start = record { table = table; elements = elements; start = start }

abbrev pub seat_view : TableId → View → SeatView
seat_view table v = record {
  mesh = mesh_id table v.elements v.start;
  seen = v.seen;
  own = account (first_of v.parts);
  joined = map account
      (others_of v.parts);
}
