-- The rule over the words, the boxes' slots and the views, and what each step shows.
-- Word 16 * a + b is 1 where the box from a to b is full, and its slot has the same number.
use Rattle.std.specs.Prelude.{◌≡◌, ◌⊎◌, ℕ, ◌+◌, ◌*◌, ◌^◌, ◌<◌, ◌≤◌, zero, suc, map, Bool, true, false, List, [], ◌∷◌, ◌++◌, length, slice_index}
use Rattle.std.specs.Prelude.{Option, Some, None, ◌==◌, nat_lt, if◌then◌else◌, IsPermutation, filter}
use mathlib.Core.Option.{some, none}
use mathlib.Core.Option as maybe
use mathlib.Core.List.{IsPrefix}
use lib.ListN.{get_elem?}
use Rattle.atomic_table.specs.Table.{State}
use Rattle.tags.specs.declared.token.Token.{Token}
use Rattle.tags.specs.Addresses.{element_of}
use Rattle.semantics.specs.Pool.{LeavesPool}
use Rattle.mesh.specs.declared.view.Commit.{Commit}
use Rattle.mesh.specs.declared.view.Deed.{Deed}
use Rattle.mesh.specs.declared.view.Deed.TheVariants.{Committed, Posted, Took}
use Rattle.mesh.specs.declared.view.Stage.{Stage}
use Rattle.mesh.specs.declared.view.Stage.TheVariants.{Idle}
use Rattle.mesh.specs.declared.view.Part.{Part}
use Rattle.mesh.specs.declared.view.View.{View}
use Rattle.mesh.specs.Seats.{AllTo}
use Rattle.mesh.specs.Deeds.{Bundle, posted, taken, posting, taking, commits_of, commits_by, created, wins, Says, entry, Busy}

abbrev pub fresh : ℕ → List Token → ℕ → Part
fresh n start e = record { element = e; deeds = []; held = filter (λ (t : Token). element_of n t.to == e) start; stage = Idle; last = [] }

abbrev pub first_view : ℕ → List Token → View
first_view n start = record { elements = n; start = start; spare = 0; parts = []; seen = [] }

-- what a seat is left with that was joined to another
abbrev pub spent_view : View
spent_view = record { elements = 0; start = []; spare = 0; parts = []; seen = [] }

abbrev pub rest_view : View → View
rest_view v = record v { spare = v.spare + 1 }

abbrev pub next_view : View → View
next_view v = record { elements = v.elements; start = v.start; spare = v.elements; parts = fresh v.elements v.start v.spare ∷ []; seen = v.seen }

abbrev pub longer : List Commit → List Commit → List Commit
longer xs ys = if nat_lt (length xs) (length ys) then ys else xs

abbrev pub both_views : View → View → View
both_views v w = record v { parts = v.parts ++ w.parts; seen = longer v.seen w.seen }

-- what a view knows of the whole
pub record Fits (n : ℕ) (start : List Token) (part : ℕ → Part) (owner : ℕ → ℕ) (log : List Commit) (id : ℕ) (v : View) : Type 0 where
  pub about : 0 < v.elements → (v.elements ≡ n) × (v.start ≡ start) × ((e : ℕ) → v.spare ≤ e → e < n → (owner e ≡ id) × (part e ≡ fresh n start e))
  pub parts : (j : ℕ) (p : Part) → get_elem? v.parts j ≡ some p → (p.element < n) × (owner p.element ≡ id) × (part p.element ≡ p)
  pub apart : (i j : ℕ) (p q : Part) → get_elem? v.parts i ≡ some p → get_elem? v.parts j ≡ some q → p.element ≡ q.element → i ≡ j
  pub seen : IsPrefix v.seen log
  pub lasts : (j : ℕ) (p : Part) → get_elem? v.parts j ≡ some p → IsPrefix p.last log
  pub whole : (j : ℕ) (p : Part) → get_elem? v.parts j ≡ some p → commits_by p.element v.seen ≡ commits_by p.element log

-- the lists f 0, f 1 and so on below m, put together
unfoldable pub gather : ℕ → (ℕ → List Token) → List Token
gather zero f = []
gather (suc m) f = gather m f ++ f m

unfoldable pub total : ℕ → (ℕ → ℕ) → ℕ
total zero f = 0
total (suc m) f = total m f + f m

abbrev pub held_by : (ℕ → Part) → ℕ → List Token
held_by part e = (part e).held

abbrev pub created_by : (ℕ → Part) → ℕ → ℕ
created_by part e = created (part e).deeds

-- The history is legal and leaves the pool, which is what the elements hold and what lies in the boxes. It has the commits of the elements and no others
pub record Past (n : ℕ) (start : List Token) (part : ℕ → Part) (load : ℕ → List Token) (log : List Commit) (live : ℕ) : Type 0 where
  pub pool : List Token
  pub legal : LeavesPool n start (map entry log) pool
  pub size : live ≡ length pool
  pub shares : IsPermutation pool (gather n (held_by part) ++ gather 256 load)
  pub own : (e : ℕ) → e < n → commits_by e log ≡ commits_of e (part e).deeds
  pub others : (e : ℕ) → n ≤ e → commits_by e log ≡ []
  pub bound : length pool ≤ length start + total n (created_by part)
  pub each : (e : ℕ) → e < n → created (part e).deeds ≤ 2 ^ 40
  pub brief : length start ≤ 2 ^ 40
  pub busy : Busy log

abbrev pub wins_by : (ℕ → Part) → ℕ → ℕ
wins_by part e = wins (part e).deeds

-- The stop word was set by one call, or by none and is 0
pub record Stops (n : ℕ) (part : ℕ → Part) (word : ℕ) : Type 0 where
  pub once : total n (wins_by part) ≡ (if word == 0 then 0 else 1)
  pub known : (e : ℕ) → e < n → Says word (part e).deeds

module _ {B : Type 0} (items : B → List Token) where
  -- A box: its word, its slot, its tokens, what was posted, whether its poster has the slot, what was taken, and what its taker holds
  abbrev pub BoxIs : ℕ → maybe.Option (maybe.Option (Option B)) → List Token → List Bundle → Bool → List Bundle → Option Bundle → Type 0
  BoxIs n h l ps true ts hand = (n ≡ 0) × (ps ≡ ts) × (l ≡ []) × (hand ≡ None) × (h ≡ some none)
  BoxIs n h l ps false ts (Some x) = (n ≡ 1) × (ps ≡ ts ++ x ∷ []) × (l ≡ x) × (h ≡ some none)
  BoxIs n h l ps false ts None =
      ((n ≡ 0) × (ps ≡ ts) × (l ≡ []) × (h ≡ some (some None)))
      ⊎ ((x : B) × (n ≡ 1) × (ps ≡ ts ++ items x ∷ []) × (l ≡ items x) × (h ≡ some (some (Some x))))

  abbrev pub BoxAt : List ℕ → List (maybe.Option (Option B)) → (ℕ → List Token) → (ℕ → Part) → ℕ → ℕ → Type 0
  BoxAt words homes load part a b =
      BoxIs (slice_index words (16 * a + b)) (get_elem? homes (16 * a + b)) (load (16 * a + b)) (posted b (part a).deeds) (posting b (part a).stage)
      (taken a (part b).deeds) (taking a (part b).stage)

  pub record Preserved (n : ℕ) (start : List Token) (s : State (Option B) View) : Type 0 where
    pub part : ℕ → Part
    pub owner : ℕ → ℕ
    pub load : ℕ → List Token
    pub log : List Commit
    pub few : n ≤ 16
    pub wide : length s.words ≡ 258
    pub deep : length s.homes ≡ 256
    pub named : (e : ℕ) → e < n → (part e).element ≡ e
    pub seats : (id : ℕ) (v : View) → get_elem? s.views id ≡ some v → Fits n start part owner log id v
    pub addressed : (a b : ℕ) → a < n → b < n → AllTo n b (load (16 * a + b))
    pub past : Past n start part load log (slice_index s.words 256)
    pub stops : Stops n part (slice_index s.words 257)
    pub boxes : (a b : ℕ) → a < n → b < n → BoxAt s.words s.homes load part a b

-- the view with this one part
abbrev pub with_part : View → Part → View
with_part v p = record v { parts = p ∷ [] }

abbrev pub posed : Part → Stage → Part
posed p g = record p { stage = g }

abbrev pub noted : Part → Deed → Part
noted p d = record p { deeds = p.deeds ++ d ∷ [] }

abbrev pub after_post : Part → ℕ → Bundle → List Token → Part
after_post p b x kept = record { element = p.element; deeds = p.deeds ++ Posted b x ∷ []; held = kept; stage = Idle; last = p.last }

abbrev pub after_take : Part → ℕ → Bundle → Part
after_take p a x = record { element = p.element; deeds = p.deeds ++ Took a x ∷ []; held = x ++ p.held; stage = Idle; last = p.last }

abbrev pub after_commit : Part → Bundle → Bundle → List Token → Part
after_commit p spent made kept = record {
  element = p.element;
  deeds = p.deeds ++ Committed spent made ∷ [];
  held = made
      ++ kept;
  stage = p.stage;
  last = p.last;
}

-- the view with this one part and this history seen
abbrev pub with_seen : View → Part → List Commit → View
with_seen v p seen = record v { parts = (record p { last = seen }) ∷ []; seen = seen }

-- the view of a seat of an element, which gives out no more parts
abbrev pub Sits : View → Type 0
Sits v = (0 < v.elements) × (v.elements ≤ v.spare)

-- the history that was seen is legal and leaves `count` tokens
abbrev pub Leaves : View → ℕ → Type 0
Leaves v count = (last : List Token) × LeavesPool v.elements v.start (map entry v.seen) last × (length last ≡ count) × Busy v.seen

-- what two parts of one seat know of each other: what q took from p is a beginning of what p posted to q
abbrev pub Agree : View → Type 0
Agree v = (i j : ℕ) (p q : Part) → get_elem? v.parts i ≡ some p → get_elem? v.parts j ≡ some q → IsPrefix (taken p.element q.deeds) (posted q.element p.deeds)

-- each part saw a beginning of the history
abbrev pub Includes : View → Type 0
Includes v = (i : ℕ) (p : Part) → get_elem? v.parts i ≡ some p → IsPrefix p.last v.seen

-- the history has commits of the mesh's elements alone
abbrev pub NoOthers : View → Type 0
NoOthers v = (e : ℕ) → v.elements ≤ e → commits_by e v.seen ≡ []

-- a part that saw a history which leaves no token saw the whole
abbrev pub IsFinal : View → Type 0
IsFinal v = (i : ℕ) (p : Part) → get_elem? v.parts i ≡ some p → LeavesPool v.elements v.start (map entry p.last) [] → p.last ≡ v.seen

-- each part's commits, in its order, are just those that the history has of its element
abbrev pub HasCommits : View → Type 0
HasCommits v = (i : ℕ) (p : Part) → get_elem? v.parts i ≡ some p → commits_by p.element v.seen ≡ commits_of p.element p.deeds

abbrev pub part_wins : List Part → ℕ
part_wins [] = 0
part_wins (p ∷ ps) = wins p.deeds + part_wins ps

-- the parts are those of all elements, in order
abbrev pub HasAll : View → Type 0
HasAll v = (length v.parts ≡ v.elements) × ((i : ℕ) (p : Part) → get_elem? v.parts i ≡ some p → p.element ≡ i)

-- each part knows the stop word as one reason, or as 0 where no call set it
abbrev pub OneStop : View → Type 0
OneStop v = (word : ℕ) × ((i : ℕ) (p : Part) → get_elem? v.parts i ≡ some p → Says word p.deeds) × (HasAll v → part_wins v.parts ≡ (if word == 0 then 0 else 1))
