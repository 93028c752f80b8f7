-- Lists at a place, and what of an instruction no arc changes.
use Rattle.std.proofs.Common.{◌≡◌, ℕ, zero, suc, ◌+◌, ◌-◌, ◌⊎◌, Bool, true, false, List, [], ◌∷◌, ◌++◌, map, length, refl, ap, inl, inr, Some}
use Rattle.std.specs.Prelude.{slice_get, slice_set, slice_index_or}
use Rattle.std.proofs.lemmas.List.{map_push}
use Rattle.tags.specs.declared.value.Origin.{Origin}
use Rattle.tags.specs.declared.token.Port.{Port}
use Rattle.semantics.specs.declared.program.Dest.{Dest}
use Rattle.semantics.specs.declared.program.Op.{Op}
use Rattle.semantics.specs.Program.{Instr}
use Rattle.schemas.specs.declared.builder.Outlet.{Outlet}
use Rattle.schemas.specs.Builds.{bare, with_dest, no_instr, connected_in}

-- PLACES
pub push_cases : {X : Type 0} (xs : List X) (x y : X) (n : ℕ) → slice_get (xs ++ x ∷ []) n ≡ Some y → (slice_get xs n ≡ Some y) ⊎ ((n ≡ length xs) × (x ≡ y))
push_cases [] x y zero e = inr (refl, cc)
push_cases [] x y (suc n) e = absurd (cc)
push_cases (z ∷ xs) x y zero e = inl e
push_cases (z ∷ xs) x y (suc n) e = go (push_cases xs x y n e)
  where
    go : (slice_get xs n ≡ Some y) ⊎ ((n ≡ length xs) × (x ≡ y)) → (slice_get xs n ≡ Some y) ⊎ ((suc n ≡ suc (length xs)) × (x ≡ y))
    go (inl f) = inl f
    go (inr f) = inr (ap suc f.0, f.1)

pub push_old : {X : Type 0} (xs : List X) (x y : X) (n : ℕ) → slice_get xs n ≡ Some y → slice_get (xs ++ x ∷ []) n ≡ Some y
push_old [] x y n e = absurd (cc)
push_old (z ∷ xs) x y zero e = e
push_old (z ∷ xs) x y (suc n) e = push_old xs x y n e

-- one place has one element
pub same_at : {X : Type 0} (xs : List X) (m n : ℕ) (x y : X) → m ≡ n → slice_get xs m ≡ Some x → slice_get xs n ≡ Some y → x ≡ y
same_at xs m n x y s e f = let at : slice_get xs m ≡ slice_get xs n = ap (slice_get xs) s in cc

-- HEADS: an instruction without its destinations
abbrev pub head : Instr → Instr
head i = bare i.op i.origin i.slot

abbrev pub heads : List Instr → List Instr
heads is = map head is

same_head : (i : Instr) (s : Bool) (d : Dest) → head (with_dest i s d) ≡ head i
same_head i true d = refl
same_head i false d = refl

heads_set : (is : List Instr) (n : ℕ) (s : Bool) (d : Dest) → heads (slice_set is n (with_dest (slice_index_or is n no_instr) s d)) ≡ heads is
heads_set [] n s d = refl
heads_set (i ∷ is) zero s d = ap (λ h. h ∷ heads is) (same_head i s d)
heads_set (i ∷ is) (suc n) s d = ap (λ hs. head i ∷ hs) (heads_set is n s d)

pub heads_connected : (is : List Instr) (o : Outlet) (to : ℕ) (p : Port) → heads (connected_in is o to p) ≡ heads is
heads_connected is o to p = heads_set is (o.place + o.port) o.second (record { ahead = (to - o.place) - o.port; port = p })

pub heads_added : (is : List Instr) (op : Op) (o : Origin) (slot : ℕ) → heads (is ++ bare op o slot ∷ []) ≡ heads is ++ bare op o slot ∷ []
heads_added is op o slot = map_push head is (bare op o slot)
