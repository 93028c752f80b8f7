-- Items sent one after the other, of which so much is left.
use Rattle.std.proofs.Common.{◌≡◌, ℕ, zero, suc, ◌+◌, ◌-◌, ◌<◌, ◌≤◌, List, [], ◌∷◌, ◌++◌, length, drop, Option, Some, None, Result, Ok, Err, refl}
use Rattle.std.proofs.Common.{sym, ap, ◌∙◌, subst, arith, append_assoc}
use Rattle.std.specs.Prelude.{⊤, slice_get, option_map, nat_lt, true, false, Bool, if◌then◌else◌}
use Rattle.std.specs.Io.KnownBytes.{Appends}
use Rattle.std.proofs.lemmas.List.{append-nil, drop_all}
use Rattle.semantics.specs.Program.{CodeBlock}
use Rattle.sink.specs.Sends.{Sends}
use Rattle.sink.proofs.Sent.{appends_none, appends_then, sends_more, sends_less, sends_same, sends_whole}
use Rattle.trace_text.specs.TraceText.{paired, place_from, lane_text, lanes_text}

-- of the whole a beginning was sent, and this is left
abbrev pub IsLeft : Option (List ℕ) → Option (List ℕ) → List ℕ → List ℕ → Type 0
IsLeft a b whole rest = (sent : List ℕ) × (whole ≡ sent ++ rest) × Appends a b sent

pub all_left : (a : Option (List ℕ)) (whole : List ℕ) → IsLeft a a whole whole
all_left a whole = ([], refl, appends_none a)

pub less_left : (a b c : Option (List ℕ)) (whole rest x later : List ℕ) → rest ≡ x ++ later → IsLeft a b whole rest → Appends b c x → IsLeft a c whole later
less_left a b c whole rest x later is so q = (
  so.0 ++ x,
  so.1 ∙ ap (λ (l : List ℕ). so.0 ++ l) is ∙ sym (append_assoc so.0 x later),
  appends_then a b c so.0 x so.2 q,
)

pub stopped : {E : Type 0} (e : E) (a b c : Option (List ℕ)) (whole rest x later : List ℕ) → rest ≡ x ++ later → IsLeft a b whole rest
    → Sends (Err e) b c x → Sends (Err e) a c whole
stopped e a b c whole rest x later is so q =
    sends_same (Err e) a c ((so.0 ++ x) ++ later) whole
    (append_assoc so.0 x later ∙ ap (λ (l : List ℕ). so.0 ++ l) (sym is) ∙ sym so.1)
    (sends_less e a c (so.0 ++ x) later (sends_more (Err e) a b c so.0 x so.2 q))

pub none_left : {E : Type 0} (r : Result ⊤ E) (x : ⊤) (a b : Option (List ℕ)) (whole rest : List ℕ) → r ≡ Ok x → rest ≡ [] → IsLeft a b whole rest
    → Sends r a b whole
none_left r x a b whole rest is none so =
    sends_whole r x a b whole is (subst (λ (l : List ℕ). Appends a b l) (sym (so.1 ∙ ap (λ (l : List ℕ). so.0 ++ l) none ∙ append-nil so.0)) so.2)

-- ---- pairs

from_place : {X : Type 0} (xs : List X) (n : ℕ) (x : X) → slice_get xs n ≡ Some x → drop n xs ≡ x ∷ drop (suc n) xs
from_place [] n x e = cc
from_place (y ∷ xs) zero x e = cc
from_place (y ∷ xs) (suc n) x e = from_place xs n x e

pair : {X Y : Type 0} (text : ℕ → X → Y → List ℕ) (n : ℕ) (xs xs1 : List X) (ys ys1 : List Y) (x : X) (y : Y) → xs ≡ x ∷ xs1 → ys ≡ y ∷ ys1
    → paired text n xs ys ≡ text n x y ++ paired text (n + 1) xs1 ys1
pair text n xs xs1 ys ys1 x y e f = rw (e, f) refl

-- the next pair
pub next_pair : {X Y : Type 0} (text : ℕ → X → Y → List ℕ) (n i : ℕ) (xs : List X) (ys : List Y) (x : X) (y : Y) → slice_get xs i ≡ Some x
    → slice_get ys i ≡ Some y
    → paired text (n + i) (drop i xs) (drop i ys) ≡ text (n + i) x y ++ paired text (n + (i + 1)) (drop (i + 1) xs) (drop (i + 1) ys)
next_pair text n i xs ys x y e f =
    let up : suc i ≡ i + 1 = omega arith in
    let number : n + i + 1 ≡ n + (i + 1) = omega arith in
    pair text (n + i) (drop i xs) (drop (suc i) xs) (drop i ys) (drop (suc i) ys) x y (from_place xs i x e) (from_place ys i y f)
    ∙ ap (λ (k : ℕ). text (n + i) x y ++ paired text (n + i + 1) (drop k xs) (drop k ys)) up
    ∙ ap (λ (k : ℕ). text (n + i) x y ++ paired text k (drop (i + 1) xs) (drop (i + 1) ys)) number

pub no_event : {X Y : Type 0} (text : ℕ → X → Y → List ℕ) (n i : ℕ) (xs : List X) (ys : List Y) → length xs ≤ i → paired text n (drop i xs) ys ≡ []
no_event {X} text n i xs ys le = ap (λ (l : List X). paired text n l ys) (drop_all i xs le)

abbrev nothing : (Y : Type 0) → List Y
nothing Y = []

no_second : {X Y : Type 0} (text : ℕ → X → Y → List ℕ) (n : ℕ) (xs : List X) → paired text n xs (nothing Y) ≡ []
no_second text n [] = refl
no_second text n (x ∷ xs) = refl

past : {X : Type 0} (xs : List X) (n : ℕ) → slice_get xs n ≡ None → drop n xs ≡ []
past [] zero e = refl
past [] (suc n) e = refl
past (x ∷ xs) zero e = absurd cc
past (x ∷ xs) (suc n) e = past xs n e

pub no_moment : {X Y : Type 0} (text : ℕ → X → Y → List ℕ) (n i : ℕ) (xs : List X) (ys : List Y) → slice_get ys i ≡ None → paired text n xs (drop i ys) ≡ []
no_moment {X} {Y} text n i xs ys e = ap (λ (l : List Y). paired text n xs l) (past ys i e) ∙ no_second text n xs

-- ---- lanes

pub next_lane : (k n : ℕ) → k < n → lanes_text k (n - k) ≡ lane_text k ++ lanes_text (k + 1) (n - (k + 1))
next_lane k n lt =
    let one : n - k ≡ suc (n - (k + 1)) = omega (arith, lt) in
    ap (λ (m : ℕ). lanes_text k m) one

pub no_lane : (k n : ℕ) → n ≤ k → lanes_text k (n - k) ≡ []
no_lane k n le =
    let none : n - k ≡ 0 = omega (arith, le) in
    ap (λ (m : ℕ). lanes_text k m) none

-- ---- the block of an instruction

step : (blocks rest : List CodeBlock) (n i : ℕ) (block : CodeBlock) (b : Bool) → blocks ≡ block ∷ rest → nat_lt i (length block.instrs) ≡ b
    → place_from n blocks i ≡ (if b then Some (n, i) else place_from (n + 1) rest (i - length block.instrs))
step blocks rest n i block b e h = rw (e, h) refl

pub lies_in : (blocks : List CodeBlock) (n i : ℕ) (block : CodeBlock) (total : Option (ℕ × ℕ)) → slice_get blocks n ≡ Some block
    → nat_lt i (length block.instrs) ≡ true
    → place_from n (drop n blocks) i ≡ total → Some (n, i) ≡ total
lies_in blocks n i block total e h so_far = sym (step (drop n blocks) (drop (suc n) blocks) n i block true (from_place blocks n block e) h) ∙ so_far

pub lies_behind : (blocks : List CodeBlock) (n i : ℕ) (block : CodeBlock) (total : Option (ℕ × ℕ)) → slice_get blocks n ≡ Some block
    → nat_lt i (length block.instrs) ≡ false
    → place_from n (drop n blocks) i ≡ total → place_from (n + 1) (drop (suc n) blocks) (i - length block.instrs) ≡ total
lies_behind blocks n i block total e h so_far = sym (step (drop n blocks) (drop (suc n) blocks) n i block false (from_place blocks n block e) h) ∙ so_far

pub lies_nowhere : (blocks : List CodeBlock) (n i : ℕ) (total : Option (ℕ × ℕ)) → length blocks ≤ n
    → place_from n (drop n blocks) i ≡ total → None ≡ total
lies_nowhere blocks n i total le so_far = sym (ap (λ (l : List CodeBlock). place_from n l i) (drop_all n blocks le)) ∙ so_far

-- what is seen of a block
pub seen : {V : Type 0} (show : CodeBlock → V) (o : Option CodeBlock) (v : V) → option_map show o ≡ Some v → (block : CodeBlock) × (o ≡ Some block)
    × (v ≡ show block)
seen show None v e = absurd cc
seen show (Some block) v e = (block, refl, cc)
