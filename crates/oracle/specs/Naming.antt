-- The names that the numbers of invocations stand for.
use Rattle.std.specs.Prelude.{◌≡◌, ℕ, ◌+◌, ◌<◌, ◌≤◌, List, length, Some, slice_get, ⊤}
use Rattle.tags.specs.declared.value.Value.{Value}
use Rattle.semantics.specs.Graph.{Graph, flow_of}
use Rattle.semantics.specs.Meaning.{Context, block_number}
use Rattle.oracle.specs.declared.invocations.Made.{Made}
use Rattle.oracle.specs.declared.invocations.Made.TheVariants.{Main, Called, Turned}
use Rattle.oracle.specs.declared.invocations.Invocation.{Invocation}
use Rattle.oracle.specs.declared.shapes.Shape.{Shape}
use Rattle.oracle.specs.Deeds.{Deed, Sends, Steers, Enters, EntersAll, Stops, Reads, Fills, Puts}
use Rattle.oracle.specs.Lines.{first_of, len_of}
use Rattle.oracle.specs.Acting.{deed_in}
use Rattle.oracle.specs.Running.{number_in, with_made}
use Rattle.oracle.specs.Meant.{name_in, made_of}

abbrev pub IsBelow : ℕ → Made → Type 0
IsBelow m Main = ⊤
IsBelow m (Called by n) = by < m
IsBelow m (Turned by n i) = by < m

-- an invocation of that block can be made there
abbrev pub CanEnter : Graph → List Context → ℕ → Made → ℕ → Type 0
CanEnter g cs m made block = IsBelow m made × (block_number (flow_of g) (made_of cs made) ≡ Some block)

-- of m invocations
abbrev pub IsKnown : Graph → List Context → ℕ → List Value → Deed → Type 0
IsKnown g cs m vs (Sends c n p v) = c < m
IsKnown g cs m vs (Steers c k v) = c < m
IsKnown g cs m vs (Enters made f i v) = CanEnter g cs m made f
IsKnown g cs m vs (EntersAll made f) = CanEnter g cs m made f
IsKnown g cs m vs Stops = ⊤
IsKnown g cs m vs (Reads c n x) = (c < m) × (length vs ≡ 1)
IsKnown g cs m vs (Fills c n x a i v) = (c < m) × (x ≡ first_of g.arrays a + i) × (i < len_of g.arrays a)
IsKnown g cs m vs (Puts j v) = ⊤

-- each number has a name
pub record Named (g : Graph) (xs : List Invocation) (cs : List Context) : Type 0 where
  pub count : length cs ≡ length xs
  pub made : (i : ℕ) (x : Invocation) → slice_get xs i ≡ Some x → made_of cs x.made ≡ name_in cs i
  pub block : (i : ℕ) (x : Invocation) → slice_get xs i ≡ Some x → block_number (flow_of g) (name_in cs i) ≡ Some x.block
  pub below : (i : ℕ) (x : Invocation) → slice_get xs i ≡ Some x → IsBelow (length xs) x.made

-- An invocation is entered: it has its number and its name, and all other names stay.
pub record IsEntered (g : Graph) (xs : List Invocation) (cs : List Context) (made : Made) (block : ℕ) : Type 0 where
  pub names : List Context
  pub named : Named g (with_made xs made block) names
  pub kept : (i : ℕ) → i < length cs → name_in names i ≡ name_in cs i
  pub more : length cs ≤ length names
  pub number : number_in xs made < length names
  pub name : name_in names (number_in xs made) ≡ made_of cs made

-- A deed names what is there: invocations that have numbers, blocks that they invoke, and cells of their arrays.
abbrev pub DeedsAreKnown : Type 0
DeedsAreKnown = (g : Graph) (cs : List Context) (m c : ℕ) (x : Invocation) → c < m → IsBelow m x.made → made_of cs x.made ≡ name_in cs c
    → block_number (flow_of g) (name_in cs c) ≡ Some x.block
    → (shape : Shape) (vs : List Value) (d : Deed) → deed_in g c x shape vs ≡ Some d → IsKnown g cs m vs d

-- Each invocation that is entered has one number, which stands for its name.
abbrev pub EnteringAgrees : Type 0
EnteringAgrees = (g : Graph) (xs : List Invocation) (cs : List Context) (made : Made) (block : ℕ) → Named g xs cs
    → CanEnter g cs (length xs) made block → IsEntered g xs cs made block
