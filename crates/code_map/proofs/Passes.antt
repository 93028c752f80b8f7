-- Places that go through folding and narrowing in the place of marks give the owners of an object's instructions.
use Rattle.std.proofs.Common.{◌≡◌, ℕ, zero, suc, ◌+◌, ◌-◌, ◌/◌, ◌<◌, ◌≤◌, Bool, true, false, ◌⊎◌, inl, inr, List, [], ◌∷◌, ◌++◌, length, map, replicate, refl, sym, ap, ◌∙◌, arith, Some, take, drop}
use Rattle.std.specs.Prelude.{if◌then◌else◌, slice_get, slice_index_or, unwrap_or}
use Rattle.std.proofs.lemmas.List.{length-append, length-map, length-drop}
use Rattle.semantics.specs.declared.program.Mark.{Mark}
use Rattle.semantics.specs.declared.program.Mark.TheVariants.{Unmarked, OfCond, OfFlag}
use Rattle.semantics.specs.declared.program.Dest.{Dest}
use Rattle.semantics.specs.declared.program.Op.{Op}
use Rattle.semantics.specs.declared.program.Op.TheVariants.{Apply1, Apply2, Apply2Right, Apply2Left, Lit, Copy, Sync, Switch, Fetch, Store, Frame, Link, Send, Return, Ask, Open, Take, Give, Drain, Release}
use Rattle.semantics.specs.Graph.{Graph, flow_of}
use Rattle.semantics.specs.Program.{Instr, CodeBlock}
use Rattle.semantics.specs.Plan.{Plan}
use Rattle.code.specs.Marks.{marks_in}
use Rattle.schemas.specs.Expanded.{expanded}
use Rattle.folding.specs.Namers.{Namers, note_link, note_dests, note_instr, note_all, entries_noted}
use Rattle.folding.specs.Folds.{folds_from}
use Rattle.folding.specs.Places as Folding
use Rattle.folding.specs.Folded.{folded, folded_block, folded_blocks, remaining_from, moved_from}
use Rattle.folding.specs.Folded as Folded
use Rattle.folding.specs.Moved as Moved
use Rattle.fanout.specs.Rows.{tie, tie_instr, tie_all, is_tied}
use Rattle.fanout.specs.Sides.{parted, parting_of, first_half, last_half, firsts_of, seconds_of, copies}
use Rattle.fanout.specs.Places as Fanout
use Rattle.fanout.specs.Places.{size}
use Rattle.fanout.specs.Narrowed.{narrowed, held, released, spread_of, unmarked, parts_of, spread_marks}
use Rattle.fanout.specs.Narrowed as Narrowed
use Rattle.code_map.specs.declared.owner.Owner.{Owner}
use Rattle.code_map.specs.Owners.{expanded_owners}
use Rattle.code_map.specs.Carried.{owner_at, copied, folded_owners, narrowed_owners, all_folded, all_narrowed, carried, owners_of}
use Rattle.code_map.specs.Carried as Carried
use Rattle.code_map.specs.Picked.{pick, mores}
use Rattle.code_map.specs.Numbered.{places, numbers_of, numbered, owner_by, mark_at, copy_count, all_copied, copies_from, picked, owners_in, picked_block, picked_blocks}
use Rattle.code_map.specs.Numbered as Numbered
use Rattle.code_map.proofs.Carry.{remaining_map, places_give_owners}

-- MARKS. The passes do not look at them to find out where instructions go.
abbrev remarked : Plan → List (List Mark) → Plan
remarked p ms = record { program = p.program; plain = p.plain; marks = ms }

module _ (p : Plan) (ms : List (List Mark)) where
  link_same : (ns : Namers) (n : ℕ) (i : Instr) (op : Op) → note_link (remarked p ms) ns n i op ≡ note_link p ns n i op
  link_same ns n i (Apply1 op) = refl
  link_same ns n i (Apply2 op) = refl
  link_same ns n i (Apply2Right op z) = refl
  link_same ns n i (Apply2Left op z) = refl
  link_same ns n i (Lit z) = refl
  link_same ns n i Copy = refl
  link_same ns n i Sync = refl
  link_same ns n i Switch = refl
  link_same ns n i (Fetch a) = refl
  link_same ns n i (Store a) = refl
  link_same ns n i Frame = refl
  link_same ns n i (Link b) = refl
  link_same ns n i (Send b e) = refl
  link_same ns n i (Return o) = refl
  link_same ns n i (Ask o) = refl
  link_same ns n i (Open k) = refl
  link_same ns n i (Take k) = refl
  link_same ns n i (Give k) = refl
  link_same ns n i (Drain k) = refl
  link_same ns n i (Release o) = refl

  noted_same : (ns : Namers) (n : ℕ) (is : List Instr) → note_all (remarked p ms) ns n is ≡ note_all p ns n is
  noted_same ns n [] = refl
  noted_same ns n (i ∷ is) =
      ap (λ xs. note_all (remarked p ms) xs (n + 1) is) (link_same (note_dests (note_dests ns n false i.firsts) n true i.seconds) n i i.op)
      ∙ noted_same (note_instr p ns n i) (n + 1) is

  folding_same : (c : CodeBlock) → Folding.layout_of (remarked p ms) c ≡ Folding.layout_of p c
  folding_same c = ap (λ ns. Folding.layout_with (folds_from ns c.instrs 0 c.instrs) c) (noted_same (entries_noted c.inputs (length c.instrs)) 0 c.instrs)

  block_same : (c : CodeBlock) → folded_block (remarked p ms) c ≡ folded_block p c
  block_same c = ap (λ l. record c { slots = Folding.remaining_of l.freed; instrs = moved_from l 0 c.instrs }) (folding_same c)

  blocks_same : (cs : List CodeBlock) → folded_blocks (remarked p ms) cs ≡ folded_blocks p cs
  blocks_same [] = refl
  blocks_same (c ∷ cs) = ap (λ d. d ∷ folded_blocks (remarked p ms) cs) (block_same c) ∙ ap (λ ds. folded_block p c ∷ ds) (blocks_same cs)

  tied_at : (ts : List Bool) (n : ℕ) (i : Instr) (op : Op) → tie_instr (remarked p ms) ts n i op ≡ tie_instr p ts n i op
  tied_at ts n i (Apply1 op) = refl
  tied_at ts n i (Apply2 op) = refl
  tied_at ts n i (Apply2Right op z) = refl
  tied_at ts n i (Apply2Left op z) = refl
  tied_at ts n i (Lit z) = refl
  tied_at ts n i Copy = refl
  tied_at ts n i Sync = refl
  tied_at ts n i Switch = refl
  tied_at ts n i (Fetch a) = refl
  tied_at ts n i (Store a) = refl
  tied_at ts n i Frame = refl
  tied_at ts n i (Link b) = refl
  tied_at ts n i (Send b e) = refl
  tied_at ts n i (Return o) = refl
  tied_at ts n i (Ask o) = refl
  tied_at ts n i (Open k) = refl
  tied_at ts n i (Take k) = refl
  tied_at ts n i (Give k) = refl
  tied_at ts n i (Drain k) = refl
  tied_at ts n i (Release o) = refl

  tied_same : (ts : List Bool) (n : ℕ) (is : List Instr) → tie_all (remarked p ms) ts n is ≡ tie_all p ts n is
  tied_same ts n [] = refl
  tied_same ts n (i ∷ is) =
      ap (λ xs. tie_all (remarked p ms) xs (n + 1) is) (tied_at ts n i i.op) ∙ tied_same (tie_instr p ts n i i.op) (n + 1) is

  narrowing_same : (c : CodeBlock) → Narrowed.layout_of (remarked p ms) c ≡ Narrowed.layout_of p c
  narrowing_same c = ap (λ ts. Fanout.layout_with ts (parts_of c)) (tied_same (tie (replicate (length (parts_of c)) false) 0 c.inputs) 0 (parts_of c))

-- PICKING, from one of the copies on
abbrev no_owners : List Owner
no_owners = []

drop_none : (n : ℕ) → drop n no_owners ≡ no_owners
drop_none zero = refl
drop_none (suc n) = refl

next_of_flag : (os ys : List Owner) (n : ℕ) (ms : List Mark) → owner_at ys n ∷ pick os ms (drop (suc n) ys) ≡ pick os (OfFlag ∷ ms) (drop n ys)
next_of_flag os [] n ms = ap (λ zs. owner_at [] n ∷ pick os ms zs) (drop_none (suc n)) ∙ ap (λ zs. pick os (OfFlag ∷ ms) zs) (sym (drop_none n))
next_of_flag os (y ∷ ys) zero ms = refl
next_of_flag os (y ∷ ys) (suc n) ms = next_of_flag os ys n ms

next_unmarked : (os ys : List Owner) (n : ℕ) (ms : List Mark) → owner_at ys n ∷ pick os ms (drop (suc n) ys) ≡ pick os (Unmarked ∷ ms) (drop n ys)
next_unmarked os [] n ms = ap (λ zs. owner_at [] n ∷ pick os ms zs) (drop_none (suc n)) ∙ ap (λ zs. pick os (Unmarked ∷ ms) zs) (sym (drop_none n))
next_unmarked os (y ∷ ys) zero ms = refl
next_unmarked os (y ∷ ys) (suc n) ms = next_unmarked os ys n ms

picked_is_pick : (os ys : List Owner) (n : ℕ) (ms : List Mark) → picked os ys n ms ≡ pick os ms (drop n ys)
picked_is_pick os ys n [] = refl
picked_is_pick os ys n (OfCond k ∷ ms) = ap (λ zs. owner_at os k ∷ zs) (picked_is_pick os ys n ms)
picked_is_pick os ys n (OfFlag ∷ ms) =
    let e : n + 1 ≡ suc n = omega arith in
    ap (λ zs. owner_at ys n ∷ zs) (picked_is_pick os ys (n + 1) ms ∙ ap (λ m. pick os ms (drop m ys)) e) ∙ next_of_flag os ys n ms
picked_is_pick os ys n (Unmarked ∷ ms) =
    let e : n + 1 ≡ suc n = omega arith in
    ap (λ zs. owner_at ys n ∷ zs) (picked_is_pick os ys (n + 1) ms ∙ ap (λ m. pick os ms (drop m ys)) e) ∙ next_unmarked os ys n ms

-- PLACES
here_or_before : (m k : ℕ) → m < suc k → (m < k) ⊎ (m ≡ k)
here_or_before zero zero l = inr refl
here_or_before zero (suc k) l = inl (omega arith)
here_or_before (suc m) zero l = absurd (omega (arith, l))
here_or_before (suc m) (suc k) l = go (here_or_before m k (omega (arith, l)))
  where
    go : (m < k) ⊎ (m ≡ k) → (suc m < suc k) ⊎ (suc m ≡ suc k)
    go (inl h) = inl (omega (arith, h))
    go (inr h) = inr (ap suc h)

before_last : {X : Type 0} (xs : List X) (y : X) (m : ℕ) → m < length xs → slice_get (xs ++ y ∷ []) m ≡ slice_get xs m
before_last [] y m l = absurd (omega (arith, l))
before_last (x ∷ xs) y zero l = refl
before_last (x ∷ xs) y (suc m) l = before_last xs y m (omega (arith, l))

at_last : {X : Type 0} (xs : List X) (y : X) → slice_get (xs ++ y ∷ []) (length xs) ≡ Some y
at_last [] y = refl
at_last (x ∷ xs) y = at_last xs y

places_length : (k : ℕ) → length (places k) ≡ k
places_length zero = refl
places_length (suc k) =
    let e = places_length k in
    length-append (places k) (OfCond k ∷ []) ∙ omega (arith, e)

place_in : (k m : ℕ) → m < k → slice_get (places k) m ≡ Some (OfCond m)
place_in zero m l = absurd (omega (arith, l))
place_in (suc k) m l = go (here_or_before m k l) (place_in k m)
  where
    go : (m < k) ⊎ (m ≡ k) → (m < k → slice_get (places k) m ≡ Some (OfCond m)) → slice_get (places k ++ OfCond k ∷ []) m ≡ Some (OfCond m)
    go (inl h) rest = let e = places_length k in before_last (places k) (OfCond k) m (omega (arith, e, h)) ∙ rest h
    go (inr h) rest =
        ap (λ j. slice_get (places k ++ OfCond k ∷ []) j) (h ∙ sym (places_length k)) ∙ at_last (places k) (OfCond k) ∙ ap (λ j. Some (OfCond j)) (sym h)

-- FOLDING
remaining_same : {X : Type 0} (l : Folding.Layout) (f g : ℕ → Instr → X) (n : ℕ) (is : List Instr) → ((m : ℕ) (i : Instr) → m < n + length is → f m i ≡ g m i)
    → remaining_from l f n is ≡ remaining_from l g n is
remaining_same l f g n [] h = refl
remaining_same l f g n (i ∷ is) h =
    go (Folding.gone_at l n) (h n i (omega arith)) (remaining_same l f g (n + 1) is (λ m j k. h m j (omega (arith, k))))
  where
    go : (t : Bool) → f n i ≡ g n i → remaining_from l f (n + 1) is ≡ remaining_from l g (n + 1) is
        → (if t then remaining_from l f (n + 1) is else f n i ∷ remaining_from l f (n + 1) is)
        ≡ (if t then remaining_from l g (n + 1) is else g n i ∷ remaining_from l g (n + 1) is)
    go true e rest = rest
    go false e rest = ap (λ x. x ∷ remaining_from l f (n + 1) is) e ∙ ap (λ xs. g n i ∷ xs) rest

remaining_even : {X Y : Type 0} (l : Folding.Layout) (f : ℕ → Instr → X) (g : ℕ → Instr → Y) (n : ℕ) (is : List Instr)
    → length (remaining_from l f n is) ≡ length (remaining_from l g n is)
remaining_even l f g n [] = refl
remaining_even l f g n (i ∷ is) = go (Folding.gone_at l n) (remaining_even l f g (n + 1) is)
  where
    go : (t : Bool) → length (remaining_from l f (n + 1) is) ≡ length (remaining_from l g (n + 1) is)
        → length (if t then remaining_from l f (n + 1) is else f n i ∷ remaining_from l f (n + 1) is)
        ≡ length (if t then remaining_from l g (n + 1) is else g n i ∷ remaining_from l g (n + 1) is)
    go true e = e
    go false e = ap suc e

-- the places of what is left
abbrev left_in : Folding.Layout → List Instr → List ℕ
left_in l is = remaining_from l (λ m i. m) 0 is

marks_left : (l : Folding.Layout) (is : List Instr) → Folded.marks_from l (places (length is)) 0 is ≡ map (λ m. OfCond m) (left_in l is)
marks_left l is =
    remaining_same l (λ m i. Folded.mark_of (places (length is)) m) (λ m i. OfCond m) 0 is
    (λ m i k. ap (λ o. unwrap_or o Unmarked) (place_in (length is) m (omega (arith, k))))
    ∙ sym (remaining_map (λ m. OfCond m) l (λ m i. m) 0 is)

-- NARROWING
spread_same : {X : Type 0} (ts : List Bool) (f g : ℕ → Instr → X) (d e : ℕ → Instr → List X) (n : ℕ) (w : List X) (is : List Instr)
    → ((m : ℕ) (i : Instr) → m < n + length is → f m i ≡ g m i) → ((m : ℕ) (i : Instr) → m < n + length is → d m i ≡ e m i)
    → spread_of ts f d n w is ≡ spread_of ts g e n w is
spread_same ts f g d e n w [] same more = refl
spread_same ts f g d e n w (i ∷ is) same more =
    ap (λ x. x ∷ (released (is_tied ts n) (w ++ d n i) ++ spread_of ts f d (n + 1) (held (is_tied ts n) (w ++ d n i)) is)) (same n i (omega arith))
    ∙ ap (λ v. g n i ∷ (released (is_tied ts n) (w ++ v) ++ spread_of ts f d (n + 1) (held (is_tied ts n) (w ++ v)) is)) (more n i (omega arith))
    ∙ ap (λ zs. g n i ∷ (released (is_tied ts n) (w ++ e n i) ++ zs))
    (spread_same ts f g d e (n + 1) (held (is_tied ts n) (w ++ e n i)) is (λ m j k. same m j (omega (arith, k))) (λ m j k. more m j (omega (arith, k))))

-- what was at the n-th place that is left
abbrev was_at : List ℕ → ℕ → ℕ
was_at ns n = slice_index_or ns n 0

mark_in : (ns : List ℕ) (n : ℕ) → n < length ns → Narrowed.mark_of (map (λ m. OfCond m) ns) n ≡ OfCond (was_at ns n)
mark_in [] n l = absurd (omega (arith, l))
mark_in (m ∷ ns) zero l = refl
mark_in (m ∷ ns) (suc n) l = mark_in ns n (omega (arith, l))

mark_indexed : (ns : List ℕ) (n : ℕ) → n < length ns → mark_at (map (λ m. OfCond m) ns) n ≡ OfCond (was_at ns n)
mark_indexed [] n l = absurd (omega (arith, l))
mark_indexed (m ∷ ns) zero l = refl
mark_indexed (m ∷ ns) (suc n) l = mark_indexed ns n (omega (arith, l))

owner_in : (os : List Owner) (ns : List ℕ) (n : ℕ) → n < length ns → owner_at (map (owner_at os) ns) n ≡ owner_at os (was_at ns n)
owner_in os [] n l = absurd (omega (arith, l))
owner_in os (m ∷ ns) zero l = refl
owner_in os (m ∷ ns) (suc n) l = owner_in os ns n (omega (arith, l))

taken_length : {X : Type 0} (n : ℕ) (xs : List X) → n ≤ length xs → length (take n xs) ≡ n
taken_length zero xs l = refl
taken_length (suc n) [] l = absurd (omega (arith, l))
taken_length (suc n) (x ∷ xs) l = ap suc (taken_length n xs (omega (arith, l)))

halves : (ds : List Dest) → copies (first_half ds) + copies (last_half ds) ≡ length ds - 2
halves ds =
    let t = taken_length (length ds - length ds / 2) ds (omega arith) in
    let d = length-drop (length ds - length ds / 2) ds in
    omega (arith, t, d)

-- how many copies there are of an instruction whose destinations are put into two sides
both_sides : (m n : ℕ) (ds : List Dest) → length ds ≡ m + n → copies (first_half ds) + copies (last_half ds) ≡ m + n - 2
both_sides m n ds e = halves ds ∙ ap (λ k. k - 2) e

one_side : (m n : ℕ) (ds : List Dest) → length ds ≡ m + n → copies ds + 0 ≡ m + n - 1
one_side m n ds e = omega (arith, e)

size_by : (op : Op) (ds es : List Dest) → copies (firsts_of (parting_of op) ds es) + copies (seconds_of (parting_of op) ds es) ≡ copy_count op (length ds) (length es)
size_by (Apply1 op) ds es = both_sides (length ds) (length es) (ds ++ es) (length-append ds es)
size_by (Apply2 op) ds es = both_sides (length ds) (length es) (ds ++ es) (length-append ds es)
size_by (Apply2Right op z) ds es = both_sides (length ds) (length es) (ds ++ es) (length-append ds es)
size_by (Apply2Left op z) ds es = both_sides (length ds) (length es) (ds ++ es) (length-append ds es)
size_by (Lit z) ds es = both_sides (length ds) (length es) (ds ++ es) (length-append ds es)
size_by Copy ds es = both_sides (length ds) (length es) (ds ++ es) (length-append ds es)
size_by Sync ds es = both_sides (length ds) (length es) (ds ++ es) (length-append ds es)
size_by Switch ds es = refl
size_by (Fetch a) ds es = both_sides (length ds) (length es) (ds ++ es) (length-append ds es)
size_by (Store a) ds es = both_sides (length ds) (length es) (ds ++ es) (length-append ds es)
size_by Frame ds es = both_sides (length ds) (length es) (ds ++ es) (length-append ds es)
size_by (Link b) ds es = refl
size_by (Send b e) ds es = both_sides (length ds) (length es) (ds ++ es) (length-append ds es)
size_by (Return o) ds es = both_sides (length ds) (length es) (ds ++ es) (length-append ds es)
size_by (Ask o) ds es = both_sides (length ds) (length es) (ds ++ es) (length-append ds es)
size_by (Open k) ds es = both_sides (length ds) (length es) (ds ++ es) (length-append ds es)
size_by (Take k) ds es = both_sides (length ds) (length es) (ds ++ es) (length-append ds es)
size_by (Give k) ds es = one_side (length ds) (length es) (ds ++ es) (length-append ds es)
size_by (Drain k) ds es = one_side (length ds) (length es) (ds ++ es) (length-append ds es)
size_by (Release o) ds es = both_sides (length ds) (length es) (ds ++ es) (length-append ds es)

size_parted : (i : Instr) → size (parted i) ≡ copy_count i.op (length i.firsts) (length i.seconds)
size_parted i = size_by i.op i.firsts i.seconds

-- the copies, in the order of what they belong to
abbrev more_of : List Owner → List ℕ → ℕ → Instr → List Owner
more_of os ns n i = replicate (size i) (owner_at os (was_at ns n))

copies_same : (os : List Owner) (ns : List ℕ) (n : ℕ) (is : List Instr) → n + length is ≤ length ns
    → copies_from os (map (λ m. OfCond m) ns) n is ≡ mores (more_of os ns) n (map parted is)
copies_same os ns n [] l = refl
copies_same os ns n (i ∷ is) l =
    ap (λ mk. all_copied i (owner_by os mk) ++ copies_from os (map (λ m. OfCond m) ns) (n + 1) is) (mark_indexed ns n (omega (arith, l)))
    ∙ ap (λ k. replicate k (owner_at os (was_at ns n)) ++ copies_from os (map (λ m. OfCond m) ns) (n + 1) is) (sym (size_parted i))
    ∙ ap (λ zs. more_of os ns n (parted i) ++ zs) (copies_same os ns (n + 1) is (omega (arith, l)))

-- A BLOCK, of which these places are left
narrow_picked : (os : List Owner) (ts : List Bool) (ns : List ℕ) (is : List Instr) → length is ≡ length ns
    → picked os (copies_from os (map (λ m. OfCond m) ns) 0 is) 0 (spread_marks ts (map (λ m. OfCond m) ns) 0 [] (map parted is))
    ≡ spread_of ts (λ n i. owner_at (map (owner_at os) ns) n) (copied (map (owner_at os) ns)) 0 [] (map parted is)
narrow_picked os ts ns is e =
    picked_is_pick os (copies_from os ms 0 is) 0 (spread_marks ts ms 0 [] (map parted is))
    ∙ ap (pick os (spread_marks ts ms 0 [] (map parted is))) (copies_same os ns 0 is (omega (arith, e)))
    ∙ ap (λ xs. pick os xs (mores (more_of os ns) 0 (map parted is)))
    (spread_same ts (λ n i. Narrowed.mark_of ms n) (λ n i. OfCond (was_at ns n)) unmarked unmarked 0 [] (map parted is)
    (λ m i k. mark_in ns m (within m k)) (λ m i k. refl))
    ∙ places_give_owners ts os (was_at ns) (map parted is)
    ∙ sym (spread_same ts (λ n i. owner_at (map (owner_at os) ns) n) (λ n i. owner_at os (was_at ns n)) (copied (map (owner_at os) ns)) (more_of os ns) 0 []
    (map parted is) (λ m i k. owner_in os ns m (within m k)) (λ m i k. ap (λ o. replicate (size i) o) (owner_in os ns m (within m k))))
  where
    ms : List Mark
    ms = map (λ m. OfCond m) ns

    within : (m : ℕ) → m < 0 + length (map parted is) → m < length ns
    within m k = let f = length-map is parted in omega (arith, k, e, f)

-- ALL BLOCKS
shifted : {Y : Type 0} (f h : ℕ → Y) (n : ℕ) → ((k : ℕ) → f (n + k) ≡ h k) → (k : ℕ) → f (n + 1 + k) ≡ h (suc k)
shifted f h n e k = let s : n + 1 + k ≡ n + suc k = omega arith in ap f s ∙ e (suc k)

first_of : {Y : Type 0} (f h : ℕ → Y) (n : ℕ) → ((k : ℕ) → f (n + k) ≡ h k) → f n ≡ h zero
first_of f h n e = let s : n ≡ n + zero = omega arith in ap f s ∙ e zero

abbrev list_at : {X : Type 0} → List (List X) → ℕ → List X
list_at xss k = unwrap_or (slice_get xss k) []

module _ (p : Plan) (oss : List (List Owner)) where
  abbrev q : Plan
  q = numbered p

  abbrev carried_marks : List (List Mark)
  carried_marks = Folded.all_marks q 0 p.program.blocks

  abbrev g : Plan
  g = remarked (folded p) carried_marks

  head_picked : (n : ℕ) (os : List Owner) (c : CodeBlock) → owners_in oss n ≡ os → marks_in q n ≡ places (length c.instrs)
      → marks_in g n ≡ Folded.folded_marks q (marks_in q n) c → marks_in (narrowed g) n ≡ Narrowed.narrowed_marks g (marks_in g n) (folded_block p c)
      → picked_block oss g (narrowed g) n (folded_block p c) ≡ narrowed_owners (folded p) (folded_owners p os c) (folded_block p c)
  head_picked n os c own num fold narrow =
      ap (λ xs. picked xs (copies_from xs (marks_in g n) 0 is) 0 (marks_in (narrowed g) n)) own
      ∙ ap (λ xs. picked os (copies_from os (marks_in g n) 0 is) 0 xs) narrow
      ∙ ap (λ l. picked os (copies_from os (marks_in g n) 0 is) 0 (spread_marks l.tied (marks_in g n) 0 [] (map parted is)))
      (narrowing_same (folded p) carried_marks (folded_block p c))
      ∙ ap (λ xs. picked os (copies_from os xs 0 is) 0 (spread_marks ts xs 0 [] (map parted is))) left
      ∙ narrow_picked os ts ns is (remaining_even l (Moved.moved l) (λ m i. m) 0 c.instrs)
      ∙ ap (λ xs. spread_of ts (λ m i. owner_at xs m) (copied xs) 0 [] (map parted is)) (remaining_map (owner_at os) l (λ m i. m) 0 c.instrs)
    where
      l : Folding.Layout
      l = Folding.layout_of p c

      is : List Instr
      is = (folded_block p c).instrs

      ns : List ℕ
      ns = left_in l c.instrs

      ts : List Bool
      ts = (Narrowed.layout_of (folded p) (folded_block p c)).tied

      left : marks_in g n ≡ map (λ m. OfCond m) ns
      left = fold ∙ ap (λ ms. Folded.folded_marks q ms c) num
          ∙ ap (λ k. Folded.marks_from k (places (length c.instrs)) 0 c.instrs) (folding_same p (map numbers_of p.program.blocks) c)
          ∙ marks_left l c.instrs

  all_picked : (n : ℕ) (rest : List (List Owner)) (cs : List CodeBlock) → ((k : ℕ) → owners_in oss (n + k) ≡ owners_in rest k)
      → ((k : ℕ) → marks_in q (n + k) ≡ list_at (map numbers_of cs) k) → ((k : ℕ) → marks_in g (n + k) ≡ list_at (Folded.all_marks q n cs) k)
      → ((k : ℕ) → marks_in (narrowed g) (n + k) ≡ list_at (Narrowed.all_marks g n (folded_blocks p cs)) k)
      → picked_blocks oss g (narrowed g) n (folded_blocks p cs) ≡ Carried.joined (all_narrowed (folded p) (all_folded p rest cs) (folded_blocks p cs))
  all_picked n rest [] own num fold narrow = refl
  all_picked n [] (c ∷ cs) own num fold narrow =
      ap (λ xs. xs ++ picked_blocks oss g (narrowed g) (n + 1) (folded_blocks p cs)) (head_picked n [] c (first_of (owners_in oss) (owners_in []) n own)
      (first_of (marks_in q) (list_at (map numbers_of (c ∷ cs))) n num) (first_of (marks_in g) (list_at (Folded.all_marks q n (c ∷ cs))) n fold)
      (first_of (marks_in (narrowed g)) (list_at (Narrowed.all_marks g n (folded_blocks p (c ∷ cs)))) n narrow))
      ∙ ap (λ xs. narrowed_owners (folded p) (folded_owners p [] c) (folded_block p c) ++ xs) (all_picked (n + 1) [] cs (shifted (owners_in oss) (owners_in []) n own)
      (shifted (marks_in q) (list_at (map numbers_of (c ∷ cs))) n num) (shifted (marks_in g) (list_at (Folded.all_marks q n (c ∷ cs))) n fold)
      (shifted (marks_in (narrowed g)) (list_at (Narrowed.all_marks g n (folded_blocks p (c ∷ cs)))) n narrow))
  all_picked n (os ∷ rest) (c ∷ cs) own num fold narrow =
      ap (λ xs. xs ++ picked_blocks oss g (narrowed g) (n + 1) (folded_blocks p cs)) (head_picked n os c (first_of (owners_in oss) (owners_in (os ∷ rest)) n own)
      (first_of (marks_in q) (list_at (map numbers_of (c ∷ cs))) n num) (first_of (marks_in g) (list_at (Folded.all_marks q n (c ∷ cs))) n fold)
      (first_of (marks_in (narrowed g)) (list_at (Narrowed.all_marks g n (folded_blocks p (c ∷ cs)))) n narrow))
      ∙ ap (λ xs. narrowed_owners (folded p) (folded_owners p os c) (folded_block p c) ++ xs) (all_picked (n + 1) rest cs (shifted (owners_in oss) (owners_in (os ∷ rest)) n own)
      (shifted (marks_in q) (list_at (map numbers_of (c ∷ cs))) n num) (shifted (marks_in g) (list_at (Folded.all_marks q n (c ∷ cs))) n fold)
      (shifted (marks_in (narrowed g)) (list_at (Narrowed.all_marks g n (folded_blocks p (c ∷ cs)))) n narrow))

  none_before : {Y : Type 0} (f : ℕ → Y) (k : ℕ) → f (0 + k) ≡ f k
  none_before f k = let s : 0 + k ≡ k = omega arith in ap f s

  pub joined_places : Numbered.joined oss (folded (numbered p)) (narrowed (folded (numbered p))) ≡ Carried.joined (carried p oss)
  joined_places =
      ap (λ bs. Numbered.joined oss (with_blocks bs) (narrowed (with_blocks bs))) (blocks_same p (map numbers_of p.program.blocks) p.program.blocks)
      ∙ all_picked 0 oss p.program.blocks (none_before (owners_in oss)) (none_before (marks_in q)) (none_before (marks_in g)) (none_before (marks_in (narrowed g)))
    where
      with_blocks : List CodeBlock → Plan
      with_blocks bs = record { program = record { blocks = bs; arrays = p.program.arrays; main = p.program.main }; plain = p.plain; marks = carried_marks }

-- and so the whole map, pass by pass
pub map_owned : (gr : Graph) (p wide folds narrow : Plan) (oss : List (List Owner)) (os : List Owner) → p ≡ expanded (flow_of gr)
    → oss ≡ expanded_owners (flow_of gr) → wide ≡ numbered p → folds ≡ folded wide → narrow ≡ narrowed folds
    → os ≡ Numbered.joined oss folds narrow → os ≡ owners_of (flow_of gr)
map_owned gr p wide f n oss os plan owners number fold narrow join =
    join
    ∙ ap (λ x. Numbered.joined oss f x) narrow
    ∙ ap (λ x. Numbered.joined oss x (narrowed x)) (fold ∙ ap folded number)
    ∙ joined_places p oss
    ∙ ap (λ x. Carried.joined (carried x oss)) plan
    ∙ ap (λ x. Carried.joined (carried (expanded (flow_of gr)) x)) owners
