-- Cells, their readers, and the fetches and stores of nodes.
use Rattle.std.proofs.Common.{◌≡◌, ℕ, ◌+◌, ◌<◌, Bool, true, false, ◌⊎◌, inl, inr, List, [], ◌∷◌, map, length, Option, Some, None, nat_lt, if◌then◌else◌, refl}
use Rattle.std.proofs.Common.{sym, ap, ◌∙◌, arith, true≢false}
use Rattle.std.specs.Prelude.{Contains, pos, negsuc}
use Rattle.lemmas.proofs.Contains.{contains_cases, contains_head, contains_none, contains_tail}
use Rattle.tags.specs.declared.value.Value.{Value}
use Rattle.tags.specs.declared.value.Value.TheVariants.{Int, Fault}
use Rattle.tags.specs.declared.value.FaultKind.TheVariants.{Range}
use Rattle.tags.specs.declared.value.Origin.{Origin}
use Rattle.tags.specs.declared.value.Origin.TheVariants.{Untold}
use Rattle.tags.specs.declared.token.To.{To}
use Rattle.operators.specs.Values.{Indexed, Place, Outside, index_in}
use Rattle.semantics.specs.declared.graph.Kind.{Kind}
use Rattle.semantics.specs.Graph.{Flow}
use Rattle.semantics.specs.Meaning.{Context, Memory, done, fetched, when_full, adds, sent, cell_is, cell_in}
use Rattle.semantics.specs.Machine.{CellState, Vacant, Full, Deferred, reader_count, value_in}
use Rattle.semantics.specs.Orderly.{readers_of}
use Rattle.law_confluence.specs.OrdersTotals.{total}
use Rattle.law_net.specs.ContextsBlocks.{cell_kind, store_kind}
use Rattle.law_net.specs.ContextsFirings.{place_at}
use Rattle.law_net.specs.ContextsMirror.{reads_cell, cell_to}

-- LISTS
pub one_of : {X : Type 0} (x y : X) → Contains (x ∷ []) y → y ≡ x
one_of x y c = pick (contains_cases x [] y c)
  where
    pick : (x ≡ y) ⊎ Contains [] y → y ≡ x
    pick (inl e) = sym e
    pick (inr d) = absurd (contains_none y d)

pub map_empty : {X Y : Type 0} (f : X → Y) (xs : List X) → map f xs ≡ [] → xs ≡ []
map_empty f [] e = refl
map_empty f (x ∷ xs) e = absurd (cc)

-- totals that agree on what is there
pub total_agree : {X : Type 0} (f g : X → ℕ) (xs : List X) → ((x : X) → Contains xs x → f x ≡ g x) → total f xs ≡ total g xs
total_agree f g [] h = refl
total_agree f g (x ∷ xs) h = let a = h x (contains_head x xs) in let b = total_agree f g xs (λ y c. h y (contains_tail x xs y c)) in omega (arith, a, b)

pub total_nothing : {X : Type 0} (f : X → ℕ) (xs : List X) → ((x : X) → Contains xs x → f x ≡ 0) → total f xs ≡ 0
total_nothing f [] h = refl
total_nothing f (x ∷ xs) h = let a = h x (contains_head x xs) in let b = total_nothing f xs (λ y c. h y (contains_tail x xs y c)) in omega (arith, a, b)

pub two_values : (vs : List Value) → length vs ≡ 2 → (v : Value) × (u : Value) × (vs ≡ v ∷ u ∷ [])
two_values [] e = absurd (omega (arith, e))
two_values (v ∷ []) e = absurd (omega (arith, e))
two_values (v ∷ u ∷ []) e = (v, u, refl)
two_values (v ∷ u ∷ z ∷ vs) e = absurd (omega (arith, e))

-- KINDS
pub store_of : (k : Kind ℕ) → store_kind k ≡ true → (a : ℕ) × (k ≡ Kind.Store a)
store_of (Kind.Store a) e = (a, refl)
store_of k e = absurd (true≢false (sym e))

pub fetch_of : (k : Kind ℕ) → cell_kind k ≡ true → store_kind k ≡ false → (a : ℕ) × (k ≡ Kind.Fetch a)
fetch_of (Kind.Fetch a) e s = (a, refl)
fetch_of (Kind.Store a) e s = absurd (true≢false s)
fetch_of k e s = absurd (true≢false (sym e))

-- READERS
pub reader_length : (c : CellState) → reader_count c ≡ length (readers_of c)
reader_length Vacant = refl
reader_length (Full v) = refl
reader_length (Deferred cs) = refl

-- a cell with readers holds no value
pub no_value : (c : CellState) → 0 < length (readers_of c) → value_in c ≡ None
no_value Vacant h = refl
no_value (Full v) h = absurd (omega (arith, h))
no_value (Deferred cs) h = refl

-- an index names the same cell whatever the origin of the fault that it would be
pub same_cell : (len : ℕ) (v : Value) (o : Origin) (base : ℕ) → place_at base (index_in len v o) ≡ cell_in base (index_in len v Untold)
same_cell len (Int (pos k)) o base = go (nat_lt k len)
  where
    go : (t : Bool) → place_at base (if t then Place k else Outside (Fault Range o)) ≡ cell_in base (if t then Place k else Outside (Fault Range Untold))
    go true = refl
    go false = refl
same_cell len (Int (negsuc k)) o base = refl
same_cell len (Fault k q) o base = refl

pub same_test : (x : ℕ) (o : Option ℕ) → cell_is x o ≡ reads_cell x o
same_test x None = refl
same_test x (Some y) = refl

-- a fetch of an empty cell does nothing
pub fetch_none : (fl : Flow) (m : Memory) (c : Context) (n base x : ℕ) (i : Indexed) → place_at base i ≡ Some x → m.cells x ≡ None
    → done fl m (fetched c n base i) ≡ None
fetch_none fl m c n base x (Place j) e none =
    let same : base + j ≡ x = cc in
    ap (λ (y : ℕ). when_full (m.cells y) (λ (v : Value). adds (sent fl c n 0 v) m)) same
    ∙ ap (λ (o : Option Value). when_full o (λ (v : Value). adds (sent fl c n 0 v) m)) none
fetch_none fl m c n base x (Outside v) e none = absurd (cc)

-- a store on its way
pub cell_store : (o : Option ℕ) (s : Bool) (z : Value) (x : ℕ) (v : Value) → cell_to o s z ≡ To.Store x v → (o ≡ Some x) × (s ≡ true) × (z ≡ v)
cell_store None s z x v e = absurd (cc)
cell_store (Some y) false z x v e = absurd (cc)
cell_store (Some y) true z x v e = let a : y ≡ x = cc in let b : z ≡ v = cc in (ap Some a, refl, b)
