-- Where the instructions of a block are in the folded block.
use Rattle.std.proofs.Common.{◌≡◌, ℕ, zero, suc, ◌+◌, ◌<◌, Bool, true, false, List, ◌∷◌, length, refl, sym, ap, ◌∙◌, arith, Some, if◌then◌else◌}
use Rattle.std.proofs.Common.{le_of_suc-le-suc, not-suc-le-zero, true≢false, []}
use Rattle.std.specs.Prelude.{slice_get, slice_index_or}
use Rattle.std.proofs.lemmas.Option.{slice_get_within, get_or_from_slice_get}
use Rattle.semantics.specs.Program.{Instr, CodeBlock}
use Rattle.semantics.specs.Plan.{Plan}
use Rattle.folding.specs.declared.folds.Fold.{Fold}
use Rattle.folding.specs.Folds.{gone_from, folds_of}
use Rattle.folding.specs.Places.{Layout, numbers_from, layout_of, new_place, gone_at}
use Rattle.folding.specs.Moved.{moved}
use Rattle.folding.specs.Folded.{remaining_from}
use Rattle.folding.specs.Laws.{KeepsInstrs, HasNoOthers, KeepsOrder}

-- how many of the first n are left
abbrev pub before : List Bool → ℕ → ℕ
before gs zero = 0
before [] (suc k) = 0
before (true ∷ gs) (suc k) = before gs k
before (false ∷ gs) (suc k) = suc (before gs k)

pub number_is : (at : ℕ) (gs : List Bool) (k : ℕ) → k < length gs → slice_get (numbers_from at gs) k ≡ Some (at + before gs k)
number_is at [] k h = absurd (not-suc-le-zero h)
number_is at (g ∷ gs) zero h = let e : at ≡ at + 0 = omega arith in ap (λ (m : ℕ). Some m) e
number_is at (true ∷ gs) (suc k) h = number_is at gs k (le_of_suc-le-suc h)
number_is at (false ∷ gs) (suc k) h = let e : at + 1 + before gs k ≡ at + suc (before gs k) = omega arith
    in number_is (at + 1) gs k (le_of_suc-le-suc h) ∙ ap (λ (m : ℕ). Some m) e

pub before_grows : (gs : List Bool) (m n : ℕ) → m < n → m < length gs → slice_index_or gs m false ≡ false → before gs m < before gs n
before_grows [] m n h l stay = absurd (not-suc-le-zero l)
before_grows (g ∷ gs) m zero h l stay = absurd (not-suc-le-zero h)
before_grows (true ∷ gs) zero (suc n) h l stay = absurd (true≢false stay)
before_grows (false ∷ gs) zero (suc n) h l stay = omega arith
before_grows (true ∷ gs) (suc m) (suc n) h l stay = before_grows gs m n (le_of_suc-le-suc h) (le_of_suc-le-suc l) stay
before_grows (false ∷ gs) (suc m) (suc n) h l stay = let k = before_grows gs m n (le_of_suc-le-suc h) (le_of_suc-le-suc l) stay in omega (arith, k)

-- the flags of the instructions from the n-th on
abbrev Flags : Layout → ℕ → List Bool → Type 0
Flags l n gs = (j : ℕ) → gone_at l (n + j) ≡ slice_index_or gs j false

flag_here : (l : Layout) (n : ℕ) (g : Bool) (gs : List Bool) → Flags l n (g ∷ gs) → gone_at l n ≡ g
flag_here l n g gs flags = let z : n ≡ n + 0 = omega arith in ap (gone_at l) z ∙ flags 0

flags_next : (l : Layout) (n : ℕ) (g : Bool) (gs : List Bool) → Flags l n (g ∷ gs) → Flags l (n + 1) gs
flags_next l n g gs flags j = let z : n + 1 + j ≡ n + suc j = omega arith in ap (gone_at l) z ∙ flags (suc j)

stands : {X : Type 0} (l : Layout) (one : ℕ → Instr → X) (n : ℕ) (gs : List Bool) (is : List Instr) (k : ℕ) (i : Instr) → length gs ≡ length is → Flags l n gs
    → slice_get is k ≡ Some i → slice_index_or gs k false ≡ false → slice_get (remaining_from l one n is) (before gs k) ≡ Some (one (n + k) i)
stands l one n gs [] k i all flags at stay = absurd (cc)
stands l one n [] (j ∷ is) k i all flags at stay = absurd (omega (arith, all))
stands l one n (true ∷ gs) (j ∷ is) zero i all flags at stay = absurd (true≢false stay)
stands l one n (false ∷ gs) (j ∷ is) zero i all flags at stay =
    let e : j ≡ i = cc in let z : n ≡ n + 0 = omega arith in
    ap (λ t. slice_get (if t then remaining_from l one (n + 1) is else one n j ∷ remaining_from l one (n + 1) is) 0) (flag_here l n false gs flags)
    ∙ (λ k. Some (one (z k) (e k)))
stands l one n (true ∷ gs) (j ∷ is) (suc k) i all flags at stay =
    let z : n + 1 + k ≡ n + suc k = omega arith in
    ap (λ t. slice_get (if t then remaining_from l one (n + 1) is else one n j ∷ remaining_from l one (n + 1) is) (before gs k)) (flag_here l n true gs flags)
    ∙ stands l one (n + 1) gs is k i (omega (arith, all)) (flags_next l n true gs flags) at stay ∙ ap (λ m. Some (one m i)) z
stands l one n (false ∷ gs) (j ∷ is) (suc k) i all flags at stay =
    let z : n + 1 + k ≡ n + suc k = omega arith in
    ap (λ t. slice_get (if t then remaining_from l one (n + 1) is else one n j ∷ remaining_from l one (n + 1) is) (suc (before gs k)))
    (flag_here l n false gs flags)
    ∙ stands l one (n + 1) gs is k i (omega (arith, all)) (flags_next l n false gs flags) at stay ∙ ap (λ m. Some (one m i)) z

-- the instruction that something in the new order stands for
abbrev Source : {X : Type 0} → (ℕ → Instr → X) → ℕ → List Bool → List Instr → ℕ → X → Type 0
Source one n gs is m x = (k : ℕ) × (i : Instr) × (slice_get is k ≡ Some i) × (slice_index_or gs k false ≡ false) × (before gs k ≡ m) × (x ≡ one (n + k) i)

source_past : {X : Type 0} (one : ℕ → Instr → X) (n : ℕ) (gs : List Bool) (is : List Instr) (m : ℕ) (x : X) (j : Instr) → Source one (n + 1) gs is m x
    → Source one n (true ∷ gs) (j ∷ is) m x
source_past one n gs is m x j (k, i, at, stay, e, y) = let z : n + 1 + k ≡ n + suc k = omega arith in (suc k, i, at, stay, e, y ∙ ap (λ m. one m i) z)

source_next : {X : Type 0} (one : ℕ → Instr → X) (n : ℕ) (gs : List Bool) (is : List Instr) (m : ℕ) (x : X) (j : Instr) → Source one (n + 1) gs is m x
    → Source one n (false ∷ gs) (j ∷ is) (suc m) x
source_next one n gs is m x j (k, i, at, stay, e, y) = let z : n + 1 + k ≡ n + suc k = omega arith in (suc k, i, at, stay, ap suc e, y ∙ ap (λ m. one m i) z)

comes : {X : Type 0} (l : Layout) (one : ℕ → Instr → X) (n : ℕ) (gs : List Bool) (is : List Instr) (m : ℕ) (x : X) → length gs ≡ length is → Flags l n gs
    → slice_get (remaining_from l one n is) m ≡ Some x → Source one n gs is m x
comes l one n gs [] m x all flags at = absurd (cc)
comes l one n [] (j ∷ is) m x all flags at = absurd (omega (arith, all))
comes l one n (true ∷ gs) (j ∷ is) m x all flags at =
    source_past one n gs is m x j (comes l one (n + 1) gs is m x (omega (arith, all)) (flags_next l n true gs flags)
    (sym (ap (λ t. slice_get (if t then remaining_from l one (n + 1) is else one n j ∷ remaining_from l one (n + 1) is) m) (flag_here l n true gs flags)) ∙ at))
comes l one n (false ∷ gs) (j ∷ is) zero x all flags at =
    let here : slice_get (one n j ∷ remaining_from l one (n + 1) is) 0
    ≡ Some x = sym (ap (λ t. slice_get (if t then remaining_from l one (n + 1) is else one n j ∷ remaining_from l one (n + 1) is) 0)
    (flag_here l n false gs flags)) ∙ at in
    let e : x ≡ one n j = cc in let z : n ≡ n + 0 = omega arith in
    (0, j, refl, refl, refl, e ∙ ap (λ m. one m j) z)
comes l one n (false ∷ gs) (j ∷ is) (suc m) x all flags at =
    source_next one n gs is m x j (comes l one (n + 1) gs is m x (omega (arith, all)) (flags_next l n false gs flags)
    (sym (ap (λ t. slice_get (if t then remaining_from l one (n + 1) is else one n j ∷ remaining_from l one (n + 1) is) (suc m))
    (flag_here l n false gs flags)) ∙ at))

gone_length : (fs : List Fold) (n : ℕ) (is : List Instr) → length (gone_from fs n is) ≡ length is
gone_length fs n [] = refl
gone_length fs n (i ∷ is) = ap suc (gone_length fs (n + 1) is)

module _ (p : Plan) (c : CodeBlock) where
  abbrev pub l : Layout
  l = layout_of p c

  pub all : length l.gone ≡ length c.instrs
  all = gone_length (folds_of p c) 0 c.instrs

  pub flags : Flags l 0 l.gone
  flags j = let z : 0 + j ≡ j = omega arith in ap (gone_at l) z

  pub place_is : (n : ℕ) → n < length c.instrs → new_place l n ≡ before l.gone n
  place_is n h =
      let e = all in let z : 0 + before l.gone n ≡ before l.gone n = omega arith in
      get_or_from_slice_get l.places n (0 + before l.gone n) n (number_is 0 l.gone n (omega (arith, h, e))) ∙ z

  -- what an instruction that is not left out stands for
  pub stands_at : {X : Type 0} (one : ℕ → Instr → X) (n : ℕ) (i : Instr) → slice_get c.instrs n ≡ Some i → gone_at l n ≡ false
      → slice_get (remaining_from l one 0 c.instrs) (new_place l n) ≡ Some (one n i)
  stands_at one n i at stay =
      let z : 0 + n ≡ n = omega arith in
      ap (slice_get (remaining_from l one 0 c.instrs)) (place_is n (slice_get_within c.instrs n i at)) ∙ stands l one 0 l.gone c.instrs n i all flags
      at stay ∙ ap (λ m. Some (one m i)) z

  pub comes_from : {X : Type 0} (one : ℕ → Instr → X) (m : ℕ) (x : X) → slice_get (remaining_from l one 0 c.instrs) m ≡ Some x
      → (n : ℕ) × (i : Instr) × (slice_get c.instrs n ≡ Some i) × (gone_at l n ≡ false) × (new_place l n ≡ m) × (x ≡ one n i)
  comes_from one m x at = found (comes l one 0 l.gone c.instrs m x all flags at)
    where
      found : Source one 0 l.gone c.instrs m x → (n : ℕ) × (i : Instr) × (slice_get c.instrs n ≡ Some i) × (gone_at l n ≡ false) × (new_place l n ≡ m)
          × (x ≡ one n i)
      found (n, i, at, stay, e, y) = let z : 0 + n ≡ n = omega arith in (
        n,
        i,
        at,
        stay,
        place_is n (slice_get_within c.instrs n i at) ∙ e,
        y
            ∙ ap (λ m. one m i) z,
      )

pub keeps_instrs : KeepsInstrs
keeps_instrs p c n i at stay = stands_at p c (moved (layout_of p c)) n i at stay

pub has_no_others : HasNoOthers
has_no_others p c m j at = comes_from p c (moved (layout_of p c)) m j at

pub keeps_order : KeepsOrder
keeps_order p c m n h there stay =
    let e = all p c in let a = place_is p c m (omega (arith, h, there)) in let b = place_is p c n there in
    let k = before_grows (layout_of p c).gone m n h (omega (arith, h, there, e)) stay in
    omega (arith, a, b, k)
