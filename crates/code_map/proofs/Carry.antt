-- What the passes make of places in the place of marks gives the owners.
use Rattle.std.proofs.Common.{◌≡◌, ℕ, ◌+◌, Bool, true, false, List, [], ◌∷◌, ◌++◌, length, map, replicate, refl, sym, ap, ◌∙◌}
use Rattle.std.specs.Prelude.{if◌then◌else◌}
use Rattle.std.proofs.lemmas.List.{append_assoc, length-append, length-replicate, replicate-append-replicate}
use Rattle.semantics.specs.declared.program.Mark.{Mark}
use Rattle.semantics.specs.declared.program.Mark.TheVariants.{Unmarked, OfCond}
use Rattle.semantics.specs.Program.{Instr}
use Rattle.folding.specs.Places as Folding
use Rattle.folding.specs.Folded as Folded
use Rattle.fanout.specs.Rows.{is_tied}
use Rattle.fanout.specs.Places.{size}
use Rattle.fanout.specs.Narrowed.{held, released, spread_of}
use Rattle.fanout.specs.Narrowed as Narrowed
use Rattle.code_map.specs.declared.owner.Owner.{Owner}
use Rattle.code_map.specs.Carried.{owner_at}
use Rattle.code_map.specs.Picked.{pick, mores}
use Rattle.code_map.specs.Laws.{PlacesGiveOwners}

-- FOLDING: what is left stands for the same, whatever it stands for
pub remaining_map : {X Y : Type 0} (f : X → Y) (l : Folding.Layout) (one : ℕ → Instr → X) (n : ℕ) (is : List Instr)
    → map f (Folded.remaining_from l one n is) ≡ Folded.remaining_from l (λ m i. f (one m i)) n is
remaining_map f l one n [] = refl
remaining_map f l one n (i ∷ is) = go (Folding.gone_at l n) (remaining_map f l one (n + 1) is)
  where
    go : (t : Bool) → map f (Folded.remaining_from l one (n + 1) is) ≡ Folded.remaining_from l (λ m j. f (one m j)) (n + 1) is
        → map f (if t then Folded.remaining_from l one (n + 1) is else one n i ∷ Folded.remaining_from l one (n + 1) is)
        ≡ (if t then Folded.remaining_from l (λ m j. f (one m j)) (n + 1) is else f (one n i) ∷ Folded.remaining_from l (λ m j. f (one m j)) (n + 1) is)
    go true e = e
    go false e = ap (λ ys. f (one n i) ∷ ys) e

-- PICKING
-- so many copies, and then more
pick_copies : (os : List Owner) (w ys : List Owner) (ms : List Mark) → pick os (replicate (length w) Unmarked ++ ms) (w ++ ys) ≡ w ++ pick os ms ys
pick_copies os [] ys ms = refl
pick_copies os (y ∷ w) ys ms = ap (λ zs. y ∷ zs) (pick_copies os w ys ms)

unmarked_more : (m n : ℕ) → replicate m Unmarked ++ replicate n Unmarked ≡ replicate (m + n) Unmarked
unmarked_more m n = replicate-append-replicate m n Unmarked

-- what still waits at the end
all_waiting : (os v : List Owner) → pick os (replicate (length v) Unmarked) (v ++ []) ≡ v
all_waiting os [] = refl
all_waiting os (y ∷ v) = ap (λ zs. y ∷ zs) (all_waiting os v)

-- NARROWING: marks that are places, spread, with the owners of the copies, give the spread owners
module _ (ts : List Bool) (os : List Owner) (place : ℕ → ℕ) where
  abbrev marked : ℕ → Instr → Mark
  marked n i = OfCond (place n)

  abbrev owned : ℕ → Instr → Owner
  owned n i = owner_at os (place n)

  abbrev copied : ℕ → Instr → List Owner
  copied n i = replicate (size i) (owner_at os (place n))

  copied_length : (n : ℕ) (i : Instr) → length (copied n i) ≡ size i
  copied_length n i = length-replicate (size i) (owner_at os (place n))

  -- what waits
  pub spread_picked : (n : ℕ) (w : List Owner) (is : List Instr)
      → pick os (spread_of ts marked Narrowed.unmarked n (replicate (length w) Unmarked) is) (w ++ mores copied n is) ≡ spread_of ts owned copied n w is
  spread_picked n w [] = all_waiting os w
  spread_picked n w (i ∷ is) =
      ap (λ zs. owner_at os (place n) ∷ zs) (waits ∙ go (is_tied ts n) (λ v. spread_picked (n + 1) v is))
    where
      now : List Owner
      now = w ++ copied n i

      long : length now ≡ length w + size i
      long = length-append w (copied n i) ∙ ap (λ k. length w + k) (copied_length n i)

      marks : replicate (length w) Unmarked ++ replicate (size i) Unmarked ≡ replicate (length now) Unmarked
      marks = unmarked_more (length w) (size i) ∙ ap (λ k. replicate k Unmarked) (sym long)

      after : List Mark → List Mark
      after ms = released (is_tied ts n) ms ++ spread_of ts marked Narrowed.unmarked (n + 1) (held (is_tied ts n) ms) is

      waits : pick os (after (replicate (length w) Unmarked ++ replicate (size i) Unmarked)) (w ++ (copied n i ++ mores copied (n + 1) is))
          ≡ pick os (after (replicate (length now) Unmarked)) (now ++ mores copied (n + 1) is)
      waits = ap (λ ms. pick os (after ms) (w ++ (copied n i ++ mores copied (n + 1) is))) marks
          ∙ ap (pick os (after (replicate (length now) Unmarked))) (sym (append_assoc w (copied n i) (mores copied (n + 1) is)))

      go : (t : Bool)
          → ((v : List Owner) → pick os (spread_of ts marked Narrowed.unmarked (n + 1) (replicate (length v) Unmarked) is) (v ++ mores copied (n + 1) is)
          ≡ spread_of ts owned copied (n + 1) v is)
          → pick os (released t (replicate (length now) Unmarked) ++ spread_of ts marked Narrowed.unmarked (n + 1) (held t (replicate (length now) Unmarked)) is)
          (now ++ mores copied (n + 1) is)
          ≡ released t now ++ spread_of ts owned copied (n + 1) (held t now) is
      go true rest = rest now
      go false rest = pick_copies os now (mores copied (n + 1) is) (spread_of ts marked Narrowed.unmarked (n + 1) [] is)
          ∙ ap (λ zs. now ++ zs) (rest [])

pub places_give_owners : PlacesGiveOwners
places_give_owners ts os place is = spread_picked ts os place 0 [] is
