-- Stacks of names in code.
use Rattle.std.specs.Prelude.{◌≡◌, refl, ℕ, zero, suc, ◌+◌, ◌-◌, ◌≤◌, ◌<◌, ◌==◌, ◌||◌, nat_lt, Bool, true, false, List, [], ◌∷◌, ◌++◌, length, take}
use Rattle.std.specs.Prelude.{drop, slice_index_or, slice_set, slice_get, Option, None, Some, if◌then◌else◌}
use Rattle.std.specs.List.{list_any}
use Rattle.std.proofs.Common.{◌∙◌, ap, sym, arith}
use Rattle.std.proofs.lemmas.Bool.{lt-ltb, le-ltb, ltb-true, ltb-false, eqb-true, eqb-false, eq-eqb}
use Rattle.std.proofs.lemmas.List.{length-append, length-take-le, get_or-set_same, get_or-set_other}
use Rattle.std.proofs.Math.Seq.{take-length, drop-length}
use Rattle.source_check.specs.declared.bindings.Binding.{Binding}
use Rattle.source_check.specs.declared.frame.Entry.{Entry}
use Rattle.source_check.specs.Heads.{with_item}
use Rattle.source_check.specs.declared.frame.Frame.{Frame}
use Rattle.source_check.specs.declared.frame.Frame.TheVariants as frame
use Rattle.source_check.specs.Steps.{Names, State, since, back, onto, noted, all_noted, end_loop}
use Rattle.source_check.specs.Stack.{item_in, by_number, numbers, place, names_in, turned_round, AreShadowed, IsStack}
use Rattle.source_check.proofs.Stacks.{since-deeper, back-deeper}

pub onto-snoc : {X : Type 0} (xs : List X) (x : X) (ys : List X) → onto (xs ++ x ∷ []) ys ≡ x ∷ onto xs ys
onto-snoc [] x ys = refl
onto-snoc (z ∷ xs) x ys = onto-snoc xs x (z ∷ ys)

pub length-round : {X : Type 0} (xs ys : List X) → length (onto xs ys) ≡ length xs + length ys
length-round [] ys = omega arith
length-round (x ∷ xs) ys = omega (arith, length-round xs (x ∷ ys))

pub length-names : (bs : List Binding) → length (names_in bs) ≡ length bs
length-names [] = refl
length-names (b ∷ bs) = ap suc (length-names bs)

place_within : (n : ℕ) (xs : List ℕ) → place n xs ≤ length xs
place_within n [] = omega arith
place_within n (x ∷ xs) = go (n == x) (place_within n xs)
  where
    go : (b : Bool) → place n xs ≤ length xs → (if b then suc (length xs) else place n xs) ≤ suc (length xs)
    go true h = omega arith
    go false h = omega (arith, h)

take_none : {X : Type 0} (n : ℕ) → take {A = X} n [] ≡ []
take_none zero = refl
take_none (suc n) = refl

nothing_since : (k x : ℕ) (xs : List ℕ) → length xs < k → since k (x ∷ xs) ≡ []
nothing_since k x xs h = let e : suc (length xs) - k ≡ 0 = omega (arith, h) in rw e refl

pub place_since : (n k : ℕ) (xs : List ℕ) → nat_lt k (place n xs) ≡ list_any (λ x. n == x) (since k xs)
place_since n k [] = rw (take_none {X = ℕ} (0 - k)) (le-ltb k 0 (omega arith))
place_since n k (x ∷ xs) = go (nat_lt (length xs) k) refl (place_since n k xs)
  where
    higher : k ≤ length xs → (b : Bool) → nat_lt k (place n xs) ≡ list_any (λ y. n == y) (since k xs)
        → nat_lt k (if b then suc (length xs) else place n xs) ≡ (b || list_any (λ y. n == y) (since k xs))
    higher d true h = lt-ltb k (suc (length xs)) (omega (arith, d))
    higher d false h = h

    go : (c : Bool) → nat_lt (length xs) k ≡ c → nat_lt k (place n xs) ≡ list_any (λ y. n == y) (since k xs)
        → nat_lt k (place n (x ∷ xs)) ≡ list_any (λ y. n == y) (since k (x ∷ xs))
    go true e h = let d : length xs < k = ltb-true (length xs) k e in let w : place n (x ∷ xs) ≤ suc (length xs) = place_within n (x ∷ xs) in
        rw (nothing_since k x xs d) (le-ltb k (place n (x ∷ xs)) (omega (arith, d, w)))
    go false e h = let d : k ≤ length xs = ltb-false (length xs) k e in rw (since-deeper k (x ∷ []) xs d) (higher d (n == x) h)

all_since : (xs : List ℕ) → since 0 xs ≡ xs
all_since xs = let e : length xs - 0 ≡ length xs = omega arith in rw e (take-length xs)

pub place_there : (n : ℕ) (xs : List ℕ) → nat_lt 0 (place n xs) ≡ list_any (λ x. n == x) xs
place_there n xs = place_since n 0 xs ∙ ap (list_any (λ x. n == x)) (all_since xs)

-- a table with one more item
pub set_item : (entries grown : List (Option Entry)) (name : ℕ) (e : Entry) → ((n : ℕ) → slice_index_or grown n None ≡ slice_index_or entries n None)
    → name < length grown
    → item_in (slice_set grown name (Some e)) ≡ with_item by_number (item_in entries) name e
set_item entries grown name e same room = λ i n. go n (n == name) refl i
  where
    go : (n : ℕ) (b : Bool) → (n == name) ≡ b → slice_index_or (slice_set grown name (Some e)) n None ≡ (if b then Some e else slice_index_or entries n None)
    go n true d = rw (eqb-true n name d) (get_or-set_same grown name (Some e) None room)
    go n false d = get_or-set_other grown name n (Some e) None (eqb-false n name d) ∙ same n

pub back_none : (xs : List ℕ) → back 0 xs ≡ []
back_none xs = let e : length xs - 0 ≡ length xs = omega arith in rw e (drop-length xs)

pub length_since : (n : ℕ) (xs : List ℕ) → length (since n xs) ≡ length xs - n
length_since n xs = length-take-le (length xs - n) xs (omega arith)

-- one more name is moved
pub moves_on : (start x : ℕ) (old rest to new orig onto_orig : List ℕ) → start < length old → slice_get old 0 ≡ Some x → rest ≡ drop 1 old → new ≡ x ∷ to
    → (back start old ≡ back start orig) × (onto (since start old) to ≡ onto (since start orig) onto_orig)
    → (back start rest ≡ back start orig) × (onto (since start rest) new ≡ onto (since start orig) onto_orig)
moves_on start x [] rest to new orig onto_orig l g r n h = absurd (omega (arith, l))
moves_on start x (y ∷ ys) rest to new orig onto_orig l g r n h =
    let d : start ≤ length ys = omega (arith, l) in
    let e : y ≡ x = cc in
    let f : rest ≡ ys = r in
    let k : new ≡ y ∷ to = n ∙ ap (λ z. z ∷ to) (sym e) in
    let b : back start (y ∷ ys) ≡ back start ys = back-deeper start (y ∷ []) ys d in
    let s : since start (y ∷ ys) ≡ y ∷ since start ys = since-deeper start (y ∷ []) ys d in
    (ap (back start) f ∙ sym b ∙ h.0, ap (λ z. onto (since start z) new) f ∙ ap (onto (since start ys)) k ∙ sym (ap (λ z. onto z to) s) ∙ h.1)

-- one more name is noted
pub notes_on : (t : Names ℕ) (inner : List ℕ) (k x : ℕ) (old rest used new orig first : List ℕ) → 0 < length old → slice_get old 0 ≡ Some x
    → rest ≡ drop 1 old → new ≡ noted t inner k used x
    → all_noted t inner k used old ≡ all_noted t inner k first orig → all_noted t inner k new rest ≡ all_noted t inner k first orig
notes_on t inner k x [] rest used new orig first l g r n h = absurd (omega (arith, l))
notes_on t inner k x (y ∷ ys) rest used new orig first l g r n h =
    let e : x ≡ y = cc in
    let f : new ≡ noted t inner k used y = n ∙ ap (noted t inner k used) e in
    ap (all_noted t inner k new) r ∙ ap (λ z. all_noted t inner k z ys) f ∙ h

pub nothing_to_note : (t : Names ℕ) (inner : List ℕ) (k : ℕ) (used xs : List ℕ) → length xs ≤ 0 → all_noted t inner k used xs ≡ used
nothing_to_note t inner k used [] h = refl
nothing_to_note t inner k used (x ∷ xs) h = absurd (omega (arith, h))

-- What items are does not matter where names are noted.
pub noted_alike : (entries : List (Option Entry)) (inner : List ℕ) (k : ℕ) (xs used : List ℕ)
    → all_noted (numbers entries) inner k used xs ≡ all_noted (numbers []) inner k used xs
noted_alike entries inner k [] used = refl
noted_alike entries inner k (x ∷ xs) used = noted_alike entries inner k xs (noted (numbers []) inner k used x)

pub end_loop_alike : (entries : List (Option Entry)) (s : State ℕ) (at : ℕ) (o : Option Frame)
    → end_loop (numbers entries) s at o ≡ end_loop (numbers []) s at o
end_loop_alike entries s at (Some (frame.Open outer names mark)) =
    rw (noted_alike entries (since outer.base (back s.turn.base s.scope)) outer.start (onto (since s.turn.start s.used) []) (back s.turn.start s.used)) refl
end_loop_alike entries s at (Some (frame.Tested outer names given)) =
    rw (noted_alike entries (since outer.base (back s.turn.base s.scope)) outer.start (onto (since s.turn.start s.used) []) (back s.turn.start s.used)) refl
end_loop_alike entries s at o = refl

-- CHANGES
pub empty_stack : IsStack [] []
empty_stack = record { placed = λ n. refl; shadowed = tt }

pub last_zero : (places : List ℕ) (n : ℕ) → slice_index_or (places ++ 0 ∷ []) n 0 ≡ slice_index_or places n 0
last_zero [] zero = refl
last_zero [] (suc n) = refl
last_zero (x ∷ places) zero = refl
last_zero (x ∷ places) (suc n) = last_zero places n

outside : (places : List ℕ) (n : ℕ) → length places ≤ n → slice_index_or places n 0 ≡ 0
outside [] n h = refl
outside (x ∷ places) zero h = absurd (omega (arith, h))
outside (x ∷ places) (suc n) h = outside places n (omega (arith, h))

pub roomier : (entries : List Binding) (places more : List ℕ) → IsStack entries places → ((n : ℕ) → slice_index_or more n 0 ≡ slice_index_or places n 0)
    → IsStack entries more
roomier entries places more s e = record { placed = λ n. e n ∙ s.placed n; shadowed = s.shadowed }

pub pushed_names : (entries : List Binding) (b : Binding) → names_in (turned_round (entries ++ b ∷ [])) ≡ b.name ∷ names_in (turned_round entries)
pushed_names entries b = ap names_in (onto-snoc entries b [])

height : (entries : List Binding) → length (names_in (turned_round entries)) ≡ length entries
height entries = let e : length (names_in (turned_round entries)) ≡ length (turned_round entries) = length-names (turned_round entries) in omega
    (arith, e, length-round entries [])

pub pushed_stack : (entries : List Binding) (places : List ℕ) (b : Binding) (n : ℕ) → IsStack entries places
    → b.before ≡ place b.name (names_in (turned_round entries)) → b.name < length places → n ≡ length (entries ++ b ∷ [])
    → IsStack (entries ++ b ∷ []) (slice_set places b.name n)
pushed_stack entries places b n s e h l = record {
  placed = λ k. rw (onto-snoc entries b []) (go k (k == b.name) refl);
  shadowed = rw (onto-snoc entries b []) (e, s.shadowed);
}
  where
    go : (k : ℕ) (c : Bool) → (k == b.name) ≡ c → slice_index_or (slice_set places b.name n) k 0 ≡ (if c then suc (length (names_in
        (turned_round entries))) else place k (names_in (turned_round entries)))
    go k true d = let f : k ≡ b.name = eqb-true k b.name d in
        let g : n ≡ suc (length (names_in (turned_round entries))) = omega (arith, l, height entries, length-append entries (b ∷ [])) in
        rw f (get_or-set_same places b.name n 0 h ∙ g)
    go k false d = get_or-set_other places b.name k n 0 (eqb-false k b.name d) ∙ s.placed k

pub popped_within : (front : List Binding) (b : Binding) (places : List ℕ) → IsStack (front ++ b ∷ []) places → b.name < length places
popped_within front b places s = go (nat_lt b.name (length places)) refl
  where
    go : (c : Bool) → nat_lt b.name (length places) ≡ c → b.name < length places
    go true e = ltb-true b.name (length places) e
    go false e =
        let none : slice_index_or places b.name 0 ≡ 0 = outside places b.name (ltb-false b.name (length places) e) in
        let first : place b.name (b.name ∷ names_in (turned_round front)) ≡ suc (length (names_in (turned_round front))) =
        ap (λ (c : Bool). if c then suc (length (names_in (turned_round front))) else place b.name (names_in (turned_round front)))
        (eq-eqb b.name b.name refl) in
        let there : slice_index_or places b.name 0 ≡ place b.name (b.name ∷ names_in (turned_round front)) = s.placed b.name
        ∙ ap (place b.name) (pushed_names front b) in
        absurd (omega (arith, none, first, there))

pub popped_stack : (front : List Binding) (b : Binding) (places : List ℕ) → IsStack (front ++ b ∷ []) places → IsStack front (slice_set places b.name b.before)
popped_stack front b places s = record {
  placed = λ k. go k (k == b.name) refl;
  shadowed = shadows.1;
}
  where
    shadows : AreShadowed (b ∷ turned_round front)
    shadows = rw onto-snoc at s.shadowed

    other : (k : ℕ) → slice_index_or places k 0 ≡ place k (b.name ∷ names_in (turned_round front))
    other k = s.placed k ∙ ap (place k) (pushed_names front b)

    go : (k : ℕ) (c : Bool) → (k == b.name) ≡ c → slice_index_or (slice_set places b.name b.before) k 0 ≡ place k (names_in (turned_round front))
    go k true d = let f : k ≡ b.name = eqb-true k b.name d in rw f (get_or-set_same places b.name b.before 0 (popped_within front b places s) ∙ shadows.0)
    go k false d = get_or-set_other places b.name k b.before 0 (eqb-false k b.name d) ∙ other k
        ∙ ap (λ (c : Bool). if c then suc (length (names_in (turned_round front))) else place k (names_in (turned_round front))) d
