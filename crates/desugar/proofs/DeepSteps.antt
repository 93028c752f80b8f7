-- The first part that is too deep is found from the end, word by word.
use Rattle.std.specs.Prelude.{◌≡◌, refl, ℕ, ◌+◌, ◌<◌, ◌==◌, Bool, true, false, List, [], ◌∷◌, ◌++◌, map, Option, None, Some, if◌then◌else◌}
use Rattle.std.proofs.Common.{◌∙◌, ap, sym, arith, eqb-true}
use Rattle.operators.specs.declared.Unary.{Unary}
use Rattle.operators.specs.declared.Unary.TheVariants.{Neg, Not}
use Rattle.source.specs.declared.word.Word.{Word}
use Rattle.source.specs.declared.word.Word.TheVariants as word
use Rattle.source.specs.Tree.{Name, NameAt, NumberAt, Target, Bind, Drop, Expr, Number, Named, Bracket, Prefix, Infix, Fetch, Store, Call, If, Loop}
use Rattle.source.specs.Tree.{Exprs, One, More, Body, Let, Do, Give, Chain, Turn, Before, After, Item, Cells, Defines, Program, names_of}
use Rattle.source.specs.Spelled.{others}
use Rattle.source.specs.Rules.{place_of}
use Rattle.source.specs.Words.{target_word, start_words, words, part_words, first_words, body_words, turn_words, result_words, item_words, program_words, named}
use Rattle.surface.specs.Deep.{or_then, opened, prefix_opened, too_deep, list_too_deep, body_too_deep, turn_too_deep, item_too_deep, program_too_deep}
use Rattle.desugar.specs.DeepSteps.{Sought, Nothing, Place, PlaceUnlessNumber, Depths, found_at, sought_in, in_brackets, operand_of, if_found}
use Rattle.desugar.specs.DeepSteps.{at_end, deeper_before, deeper, words_too_deep, DepthIsByWords, DepthIsByNumbers}

-- BEYOND 200 nothing is found any more.
beyond : (at d : ℕ) (inner : Option ℕ) → 200 < d → inner ≡ None → opened at d inner ≡ None
beyond at d inner h e = go (d == 200) refl
  where
    go : (b : Bool) → (d == 200) ≡ b → (if b then Some at else inner) ≡ None
    go true i = absurd (omega (arith, eqb-true d 200 i, h))
    go false i = e

both_none : (a b : Option ℕ) → a ≡ None → b ≡ None → or_then a b ≡ None
both_none a b h g = rw h g

prefix_beyond : (d : ℕ) (op : Unary) (e : Expr) (inner : Option ℕ) → 200 < d → inner ≡ None → prefix_opened op e d inner ≡ None
prefix_beyond d Neg (Number at n) inner h g = refl
prefix_beyond d Neg (Named at x) inner h g = beyond at d inner h g
prefix_beyond d Neg (Bracket e) inner h g = beyond (place_of e) d inner h g
prefix_beyond d Neg (Prefix at op e) inner h g = beyond at d inner h g
prefix_beyond d Neg (Infix at s l r) inner h g = beyond at d inner h g
prefix_beyond d Neg (Fetch at a e) inner h g = beyond at d inner h g
prefix_beyond d Neg (Store at a e x) inner h g = beyond at d inner h g
prefix_beyond d Neg (Call at strict f es) inner h g = beyond at d inner h g
prefix_beyond d Neg (If at p l r) inner h g = beyond at d inner h g
prefix_beyond d Neg (Loop at bound firsts turn) inner h g = beyond at d inner h g
prefix_beyond d Not e inner h g = beyond (place_of e) d inner h g

mutual
  none : (d : ℕ) (e : Expr) → 200 < d → too_deep d e ≡ None
  none d (Number at n) h = refl
  none d (Named at x) h = refl
  none d (Bracket e) h = beyond (place_of e) d (too_deep (d + 1) e) h (none (d + 1) e (omega (arith, h)))
  none d (Prefix at op e) h = prefix_beyond d op e (too_deep (d + 1) e) h (none (d + 1) e (omega (arith, h)))
  none d (Infix at s l r) h = both_none (too_deep d l) (too_deep d r) (none d l h) (none d r h)
  none d (Fetch at a e) h = beyond (place_of e) d (too_deep (d + 1) e) h (none (d + 1) e (omega (arith, h)))
  none d (Store at a e x) h =
      let later : 200 < d + 1 = omega (arith, h) in
      both_none (opened (place_of e) d (too_deep (d + 1) e)) (opened (place_of x) d (too_deep (d + 1) x))
      (beyond (place_of e) d (too_deep (d + 1) e) h (none (d + 1) e later)) (beyond (place_of x) d (too_deep (d + 1) x) h (none (d + 1) x later))
  none d (Call at strict f es) h = list_none d es h
  none d (If at p l r) h =
      let later : 200 < d + 1 = omega (arith, h) in
      let test = beyond (place_of p) (d + 1) (too_deep (d + 2) p) later (none (d + 2) p (omega (arith, h))) in
      beyond at d (or_then (opened (place_of p) (d + 1) (too_deep (d + 2) p)) (or_then (body_too_deep (d + 1) l) (body_too_deep (d + 1) r))) h
      (both_none (opened (place_of p) (d + 1) (too_deep (d + 2) p)) (or_then (body_too_deep (d + 1) l) (body_too_deep (d + 1) r)) test
      (both_none (body_too_deep (d + 1) l) (body_too_deep (d + 1) r) (body_none (d + 1) l later) (body_none (d + 1) r later)))
  none d (Loop at bound firsts turn) h = both_none (list_too_deep d firsts) (turn_too_deep d turn) (list_none d firsts h) (turn_none d turn h)

  list_none : (d : ℕ) (es : Exprs) → 200 < d → list_too_deep d es ≡ None
  list_none d (One e) h = beyond (place_of e) d (too_deep (d + 1) e) h (none (d + 1) e (omega (arith, h)))
  list_none d (More e es) h = both_none (opened (place_of e) d (too_deep (d + 1) e)) (list_too_deep d es)
      (beyond (place_of e) d (too_deep (d + 1) e) h (none (d + 1) e (omega (arith, h)))) (list_none d es h)

  body_none : (d : ℕ) (b : Body) → 200 < d → body_too_deep d b ≡ None
  body_none d (Let at targets es rest) h = both_none (list_too_deep d es) (body_too_deep d rest) (list_none d es h) (body_none d rest h)
  body_none d (Do es rest) h = both_none (list_too_deep d es) (body_too_deep d rest) (list_none d es h) (body_none d rest h)
  body_none d (Give es) h = list_none d es h
  body_none d (Chain e) h = none d e h

  turn_none : (d : ℕ) (turn : Turn) → 200 < d → turn_too_deep d turn ≡ None
  turn_none d (Before xs p b) h = both_none (opened (place_of p) d (too_deep (d + 1) p)) (body_too_deep d b)
      (beyond (place_of p) d (too_deep (d + 1) p) h (none (d + 1) p (omega (arith, h)))) (body_none d b h)
  turn_none d (After xs b p) h = both_none (body_too_deep d b) (opened (place_of p) d (too_deep (d + 1) p)) (body_none d b h)
      (beyond (place_of p) d (too_deep (d + 1) p) h (none (d + 1) p (omega (arith, h))))

-- WHAT IS FOUND at the end of an expression
abbrev is_number : Expr → Bool
is_number (Number at n) = true
is_number e = false

abbrev found_for : Sought → Expr → Option ℕ → Option ℕ
found_for Nothing e f = f
found_for Place e f = Some (place_of e)
found_for PlaceUnlessNumber e f = if is_number e then f else Some (place_of e)

found_so : (w : Sought) (e : Expr) (f : Option ℕ) → is_number e ≡ false → found_at w (place_of e) f ≡ found_for w e f
found_so Nothing e f h = refl
found_so Place e f h = refl
found_so PlaceUnlessNumber e f h = rw h refl

or_assoc : (a b c : Option ℕ) → or_then a (or_then b c) ≡ or_then (or_then a b) c
or_assoc None b c = refl
or_assoc (Some at) b c = refl

-- Words lead from a state to one where nothing is sought.
abbrev st : ℕ → Sought → List ℕ → Option ℕ → Depths
st d w o f = record { depth = d; outer = o; sought = w; found = f }

record Leads (ws : List (Word Name)) (k : Depths) (o : List ℕ) (f : Option ℕ) : Type 0 where
  depth : ℕ
  is : deeper ws k ≡ st depth Nothing o f

stays : (m : ℕ) (o : List ℕ) (f : Option ℕ) → Leads [] (st m Nothing o f) o f
stays m o f = record { depth = m; is = refl }

joined : (ws us : List (Word Name)) (k : Depths) → deeper (ws ++ us) k ≡ deeper ws (deeper us k)
joined [] us k = refl
joined (w ∷ ws) us k = ap (λ j. deeper_before w j) (joined ws us k)

also : {ws us : List (Word Name)} {k : Depths} {o q : List ℕ} {f g : Option ℕ} → Leads us k o f → ((m : ℕ) → Leads ws (st m Nothing o f) q g) → Leads (ws ++ us) k q g
also {ws} {us} {k} {o} {q} {f} {g} p s =
    let r = s p.depth in record { depth = r.depth; is = joined ws us k ∙ ap (λ j. deeper ws j) p.is ∙ r.is }

first : {us : List (Word Name)} {k : Depths} {o q : List ℕ} {f g : Option ℕ} (w : Word Name) → Leads us k o f → ((m : ℕ) → Leads [] (deeper_before w (st m Nothing o f)) q
    g) → Leads (w ∷ us) k q g
first {us} {k} {o} {q} {f} {g} w p s = let r = s p.depth in record { depth = r.depth; is = ap (λ j. deeper_before w j) p.is ∙ r.is }

mid : {ws us : List (Word Name)} {k : Depths} {o q : List ℕ} {f g : Option ℕ} (w : Word Name) → Leads us k o f
    → ((m : ℕ) → Leads ws (deeper_before w (st m Nothing o f)) q g) → Leads (ws ++ w ∷ us) k q g
mid {ws} {us} {k} {o} {q} {f} {g} w p s =
    let r = s p.depth in record { depth = r.depth; is = joined ws (w ∷ us) k ∙ ap (λ j. deeper ws (deeper_before w j)) p.is ∙ r.is }

last : {ws : List (Word Name)} {k : Depths} {o : List ℕ} {f : Option ℕ} (w : Word Name) → Leads ws (deeper_before w k) o f → Leads (ws ++ w ∷ []) k o f
last {ws} {k} {o} {f} w p = record { depth = p.depth; is = joined ws (w ∷ []) k ∙ p.is }

so : {ws : List (Word Name)} {k : Depths} {o : List ℕ} {f g : Option ℕ} → f ≡ g → Leads ws k o f → Leads ws k o g
so {ws} {k} {o} {f} {g} e p = record { depth = p.depth; is = p.is ∙ ap (λ h. st p.depth Nothing o h) e }

-- ONE MORE IS OPEN around an expression.
more_found : (d : ℕ) (e : Expr) (f : Option ℕ) → or_then (too_deep (d + 1) e) (found_for (sought_in d Place Nothing) e f)
    ≡ or_then (opened (place_of e) d (too_deep (d + 1) e)) f
more_found d e f = go (d == 200) refl
  where
    go : (b : Bool) → (d == 200) ≡ b → or_then (too_deep (d + 1) e) (found_for (if b then Place else Nothing) e f)
        ≡ or_then (if b then Some (place_of e) else too_deep (d + 1) e) f
    go true i = rw (none (d + 1) e (omega (arith, eqb-true d 200 i))) refl
    go false i = refl

bracket_found : (d : ℕ) (w : Sought) (e : Expr) (f : Option ℕ) → or_then (too_deep (d + 1) e) (found_for (sought_in d Place (in_brackets w)) e f)
    ≡ or_then (opened (place_of e) d (too_deep (d + 1) e)) (found_for w (Bracket e) f)
bracket_found d w e f = go (d == 200) refl w
  where
    go : (b : Bool) → (d == 200) ≡ b → (w : Sought) → or_then (too_deep (d + 1) e) (found_for (if b then Place else in_brackets w) e f)
        ≡ or_then (if b then Some (place_of e) else too_deep (d + 1) e) (found_for w (Bracket e) f)
    go true i w = rw (none (d + 1) e (omega (arith, eqb-true d 200 i))) refl
    go false i Nothing = refl
    go false i Place = refl
    go false i PlaceUnlessNumber = refl

-- of a `-`, unless it is before a number
unless_found : (d : ℕ) (e : Expr) (f : Option ℕ) → is_number e ≡ false → or_then (too_deep (d + 1) e) (found_for (sought_in d PlaceUnlessNumber Nothing) e f)
    ≡ or_then (opened (place_of e) d (too_deep (d + 1) e)) f
unless_found d e f h = go (d == 200) refl
  where
    go : (b : Bool) → (d == 200) ≡ b → or_then (too_deep (d + 1) e) (found_for (if b then PlaceUnlessNumber else Nothing) e f)
        ≡ or_then (if b then Some (place_of e) else too_deep (d + 1) e) f
    go true i = rw (none (d + 1) e (omega (arith, eqb-true d 200 i)), h) refl
    go false i = refl

number_found : (d at n : ℕ) (f : Option ℕ) → found_for (sought_in d PlaceUnlessNumber Nothing) (Number at n) f ≡ f
number_found d at n f = go (d == 200)
  where
    go : (b : Bool) → found_for (if b then PlaceUnlessNumber else Nothing) (Number at n) f ≡ f
    go true = refl
    go false = refl

prefix_found : (d : ℕ) (op : Unary) (e : Expr) (f : Option ℕ) → or_then (too_deep (d + 1) e) (found_for (sought_in d (operand_of op) Nothing) e f)
    ≡ or_then (prefix_opened op e d (too_deep (d + 1) e)) f
prefix_found d Neg (Number at n) f = number_found d at n f
prefix_found d Neg (Named at x) f = unless_found d (Named at x) f refl
prefix_found d Neg (Bracket e) f = unless_found d (Bracket e) f refl
prefix_found d Neg (Prefix at op e) f = unless_found d (Prefix at op e) f refl
prefix_found d Neg (Infix at s l r) f = unless_found d (Infix at s l r) f refl
prefix_found d Neg (Fetch at a e) f = unless_found d (Fetch at a e) f refl
prefix_found d Neg (Store at a e x) f = unless_found d (Store at a e x) f refl
prefix_found d Neg (Call at strict g es) f = unless_found d (Call at strict g es) f refl
prefix_found d Neg (If at p l r) f = unless_found d (If at p l r) f refl
prefix_found d Neg (Loop at bound firsts turn) f = unless_found d (Loop at bound firsts turn) f refl
prefix_found d Not e f = more_found d e f

-- an `if`: nothing is found in one that is too deep
if_so : (at d : ℕ) (a b c : Option ℕ) (g : Option ℕ) → (200 < d + 1 → or_then a (or_then b c) ≡ None) → or_then a (or_then b (or_then c (if_found at d g)))
    ≡ or_then (opened at d (or_then a (or_then b c))) g
if_so at d a b c g h = go (d == 200) refl
  where
    flat : (x : Option ℕ) → or_then a (or_then b (or_then c x)) ≡ or_then (or_then a (or_then b c)) x
    flat x = ap (λ y. or_then a y) (or_assoc b c x) ∙ or_assoc a (or_then b c) x

    go : (t : Bool) → (d == 200) ≡ t → or_then a (or_then b (or_then c (if t then Some at else g))) ≡ or_then (if t then Some at else or_then a (or_then b c)) g
    go true i = flat (Some at) ∙ ap (λ y. or_then y (Some at)) (h (omega (arith, eqb-true d 200 i)))
    go false i = flat g

-- TARGETS AND NAMES are passed over.
over_targets : (ts : List Target) (k : Depths) → deeper (map target_word ts) k ≡ k
over_targets [] k = refl
over_targets (Bind x ∷ ts) k = over_targets ts k
over_targets (Drop ∷ ts) k = over_targets ts k

over_start : (xs : List NameAt) (k : Depths) → deeper (start_words xs) k ≡ k
over_start [] k = refl
over_start (x ∷ xs) k = refl

passes : {ws : List (Word Name)} (m : ℕ) (o : List ℕ) (f : Option ℕ) → deeper ws (st m Nothing o f) ≡ st m Nothing o f → Leads ws (st m Nothing o f) o f
passes m o f e = record { depth = m; is = e }

inside : (e : Expr) (d : ℕ) (o : List ℕ) (f : Option ℕ) → Leads (words e) (st (d + 1) (sought_in d Place Nothing) o f) o (or_then (too_deep (d + 1) e)
    (found_for (sought_in d Place Nothing) e f)) → Leads (words e) (st (d + 1) (sought_in d Place Nothing) o f) o (or_then (opened (place_of e) d (too_deep (d + 1) e)) f)
inside e d o f p = so (more_found d e f) p

mutual
  expr : (e : Expr) (d : ℕ) (w : Sought) (o : List ℕ) (f : Option ℕ) → Leads (words e) (st d w o f) o (or_then (too_deep d e) (found_for w e f))
  expr (Number at n) d Nothing o f = record { depth = d; is = refl }
  expr (Number at n) d Place o f = record { depth = d; is = refl }
  expr (Number at n) d PlaceUnlessNumber o f = record { depth = d; is = refl }
  expr (Named at x) d w o f = record { depth = d; is = ap (λ g. st d Nothing o g) (found_so w (Named at x) f refl) }
  expr (Bracket e) d w o f = so (bracket_found d w e f) (last word.Bracket (expr e (d + 1) (sought_in d Place (in_brackets w)) o f))
  expr (Prefix at op e) d w o f =
      let g : Option ℕ = found_at w at f in
      so (prefix_found d op e g ∙ ap (λ h. or_then (prefix_opened op e d (too_deep (d + 1) e)) h) (found_so w (Prefix at op e) f refl))
      (last (word.Prefix at op) (expr e (d + 1) (sought_in d (operand_of op) Nothing) o g))
  expr (Infix at s l r) d w o f =
      let g : Option ℕ = found_at w at f in
      so (or_assoc (too_deep d l) (too_deep d r) g ∙ ap (λ h. or_then (or_then (too_deep d l) (too_deep d r)) h) (found_so w (Infix at s l r) f refl))
      (last (word.Infix at s) (mid word.Left (expr r d Nothing (d ∷ o) g) (λ m. expr l d Nothing o (or_then (too_deep d r) g))))
  expr (Fetch at a e) d w o f =
      let g : Option ℕ = found_at w at f in
      so (ap (λ h. or_then (opened (place_of e) d (too_deep (d + 1) e)) h) (found_so w (Fetch at a e) f refl))
      (last (word.Fetch at a) (first (word.Cell at a) (inside e d o g (expr e (d + 1) (sought_in d Place Nothing) o g)) (λ m. stays m o (or_then (opened (place_of e) d (too_deep (d + 1) e)) g))))
  expr (Store at a e x) d w o f =
      let g : Option ℕ = found_at w at f in
      let i : Option ℕ = opened (place_of e) d (too_deep (d + 1) e) in
      let v : Option ℕ = opened (place_of x) d (too_deep (d + 1) x) in
      so (or_assoc i v g ∙ ap (λ h. or_then (or_then i v) h) (found_so w (Store at a e x) f refl))
      (last (word.Store at a) (mid word.Index (inside x d (d ∷ o) g (expr x (d + 1) (sought_in d Place Nothing) (d ∷ o) g)) (λ m. first (word.Cell at a) (inside e d o (or_then v g) (expr e (d + 1) (sought_in d Place Nothing) o (or_then v g))) (λ j. stays j o (or_then i (or_then v g))))))
  expr (Call at strict h es) d w o f =
      let g : Option ℕ = found_at w at f in
      let all : Option ℕ = or_then (list_too_deep d es) g in
      so (ap (λ h. or_then (list_too_deep d es) h) (found_so w (Call at strict h es) f refl))
      (last (word.Call at strict h) (first (word.Callee at h) (first word.List (parts es d d Nothing o g) (λ m. stays m (d ∷ o) all)) (λ m. stays m o all)))
  expr (If at p l r) d w o f =
      let g : Option ℕ = found_at w at f in
      let a : Option ℕ = opened (place_of p) (d + 1) (too_deep (d + 2) p) in
      let b : Option ℕ = body_too_deep (d + 1) l in
      let c : Option ℕ = body_too_deep (d + 1) r in
      let i : Option ℕ = if_found at d g in
      let two : d + 1 + 1 ≡ d + 2 = omega arith in
      so (ap (λ (n : ℕ). or_then (opened (place_of p) (d + 1) (too_deep n p)) (or_then b (or_then c i))) two ∙ if_so at d a b c g (λ h. both_none a (or_then b c) (beyond (place_of p) (d + 1) (too_deep (d + 2) p) h (none (d + 2) p (omega (arith, h))))
      (both_none b c (body_none (d + 1) l h) (body_none (d + 1) r h))) ∙ ap (λ h. or_then (opened at d (or_then a (or_then b c))) h) (found_so w (If at p l r) f refl))
      (last (word.EndIf at) (mid word.Else (body r (d + 1) d Nothing o i) (λ m. mid word.Then (body l (d + 1) m Nothing o (or_then c i))
      (λ j. inside p (d + 1) o (or_then b (or_then c i)) (expr p ((d + 1) + 1) (sought_in (d + 1) Place Nothing) o (or_then b (or_then c i)))))))
  expr (Loop at bound firsts turn) d w o f =
      let g : Option ℕ = found_at w at f in
      let t : Option ℕ = turn_too_deep d turn in
      let l : Option ℕ = list_too_deep d firsts in
      so (or_assoc l t g ∙ ap (λ h. or_then (or_then l t) h) (found_so w (Loop at bound firsts turn) f refl))
      (last (word.EndLoop at bound.number) (also (turns turn d o g) (λ m. first (word.Loop at) (first (word.Bound bound.at bound.number) (all_first (names_of turn) firsts d m Nothing o (or_then t g))
      (λ j. stays j (d ∷ o) (or_then l (or_then t g)))) (λ j. stays j o (or_then l (or_then t g))))))

  parts : (es : Exprs) (d m : ℕ) (w : Sought) (o : List ℕ) (f : Option ℕ) → Leads (part_words es) (st m w (d ∷ o) f) (d ∷ o) (or_then (list_too_deep d es) f)
  parts (One e) d m w o f = last word.Part (inside e d (d ∷ o) f (expr e (d + 1) (sought_in d Place Nothing) (d ∷ o) f))
  parts (More e es) d m w o f = so (or_assoc (opened (place_of e) d (too_deep (d + 1) e)) (list_too_deep d es) f)
      (mid word.Part (parts es d m w o f) (λ j. inside e d (d ∷ o) (or_then (list_too_deep d es) f) (expr e (d + 1) (sought_in d Place Nothing) (d ∷ o) (or_then (list_too_deep d es) f))))

  all_first : (xs : List NameAt) (es : Exprs) (d m : ℕ) (w : Sought) (o : List ℕ) (f : Option ℕ) → Leads (first_words xs es) (st m w (d ∷ o) f) (d ∷ o)
      (or_then (list_too_deep d es) f)
  all_first xs (One e) d m w o f =
      let g : Option ℕ = or_then (opened (place_of e) d (too_deep (d + 1) e)) f in
      last word.First (also (inside e d (d ∷ o) f (expr e (d + 1) (sought_in d Place Nothing) (d ∷ o) f)) (λ j. passes {ws = start_words xs} j (d ∷ o) g (over_start xs (st j Nothing (d ∷ o) g))))
  all_first xs (More e es) d m w o f =
      let l : Option ℕ = list_too_deep d es in
      let g : Option ℕ = or_then (opened (place_of e) d (too_deep (d + 1) e)) (or_then l f) in
      so (or_assoc (opened (place_of e) d (too_deep (d + 1) e)) l f)
      (mid word.First (all_first (others xs) es d m w o f) (λ j. also (inside e d (d ∷ o) (or_then l f) (expr e (d + 1) (sought_in d Place Nothing) (d ∷ o) (or_then l f))) (λ i. passes {ws = start_words xs} i (d ∷ o) g (over_start xs (st i Nothing (d ∷ o) g)))))

  body : (b : Body) (d m : ℕ) (w : Sought) (o : List ℕ) (f : Option ℕ) → Leads (body_words b) (st m w (d ∷ o) f) (d ∷ o) (or_then (body_too_deep d b) f)
  body (Let at ts es rest) d m w o f =
      let r : Option ℕ = or_then (body_too_deep d rest) f in
      let l : Option ℕ = or_then (list_too_deep d es) r in
      so (or_assoc (list_too_deep d es) (body_too_deep d rest) f)
      (mid (word.EndLet at) (body rest d m w o f) (λ j. mid word.List (parts es d j Nothing o r) (λ i. first (word.Let at) (passes {ws = map target_word ts} i (d ∷ o) l
      (over_targets ts (st i Nothing (d ∷ o) l))) (λ k. stays k (d ∷ o) l))))
  body (Do es rest) d m w o f =
      let r : Option ℕ = or_then (body_too_deep d rest) f in
      let l : Option ℕ = or_then (list_too_deep d es) r in
      so (or_assoc (list_too_deep d es) (body_too_deep d rest) f)
      (mid word.Do (body rest d m w o f) (λ j. first word.List (parts es d j Nothing o r) (λ i. stays i (d ∷ o) l)))
  body (Give es) d m w o f = last word.Give (first word.List (parts es d m Nothing o f) (λ j. stays j (d ∷ o) (or_then (list_too_deep d es) f)))
  body (Chain e) d m w o f = last word.Chain (expr e d Nothing (d ∷ o) f)

  turns : (t : Turn) (d : ℕ) (o : List ℕ) (f : Option ℕ) → Leads (turn_words t) (st (d + 1) (sought_in d Place Nothing) (d ∷ o) f) (d ∷ o) (or_then (turn_too_deep d t) f)
  turns (Before xs p b) d o f =
      let r : Option ℕ = or_then (body_too_deep d b) f in
      let t : Option ℕ = opened (place_of p) d (too_deep (d + 1) p) in
      so (or_assoc t (body_too_deep d b) f)
      (mid word.While (body b d (d + 1) (sought_in d Place Nothing) o f) (λ j. first word.TestFirst (inside p d (d ∷ o) r (expr p (d + 1) (sought_in d Place Nothing) (d ∷ o) r)) (λ i. stays i (d ∷ o) (or_then t r))))
  turns (After xs b p) d o f =
      let t : Option ℕ = or_then (opened (place_of p) d (too_deep (d + 1) p)) f in
      so (or_assoc (body_too_deep d b) (opened (place_of p) d (too_deep (d + 1) p)) f)
      (mid word.Until (inside p d (d ∷ o) f (expr p (d + 1) (sought_in d Place Nothing) (d ∷ o) f)) (λ j. first word.BodyFirst (body b d j Nothing o t) (λ i. stays i (d ∷ o) (or_then (body_too_deep d b) t))))

-- ITEMS
over_params : (xs : List NameAt) (k : Depths) → deeper (map (λ (x : NameAt). word.Parameter x.at x.name) xs) k ≡ k
over_params [] k = refl
over_params (x ∷ xs) k = over_params xs k

over_results : (n : Option NumberAt) (k : Depths) → deeper (result_words n) k ≡ k
over_results None k = refl
over_results (Some n) k = refl

item : (i : Item) (m : ℕ) (o : List ℕ) (f : Option ℕ) → Leads (item_words i) (st m Nothing o f) o (or_then (item_too_deep i) f)
item (Cells x len) m o f = record { depth = m; is = refl }
item (Defines h) m o f =
    let r : Option ℕ = or_then (body_too_deep 0 h.body) f in
    last word.EndFunction (mid (word.Body h.body_at) (body h.body 0 m Nothing o f) (λ j. also (passes {ws = result_words h.results} j o r (over_results h.results (st j Nothing o r)))
    (λ i. first (word.Function h.name.at h.name.name) (passes {ws = map (λ (x : NameAt). word.Parameter x.at x.name) h.params} i o r (over_params h.params (st i Nothing o r))) (λ k. stays k o r))))

items : (p : Program) (m : ℕ) (o : List ℕ) (f : Option ℕ) → Leads (program_words p) (st m Nothing o f) o (or_then (program_too_deep p) f)
items [] m o f = stays m o f
items (i ∷ p) m o f = so (or_assoc (item_too_deep i) (program_too_deep p) f) (also (items p m o f) (λ j. item i j o (or_then (program_too_deep p) f)))

or_none : (a : Option ℕ) → or_then a None ≡ a
or_none None = refl
or_none (Some at) = refl

pub depth_is_by_words : DepthIsByWords
depth_is_by_words p = ap (λ (k : Depths). k.found) (items p 0 [] None).is ∙ or_none (program_too_deep p)

-- whatever names stand for
named_before : (names : List Name) (w : Word ℕ) (d : Depths) → deeper_before (named names w) d ≡ deeper_before w d
named_before names (word.Array at x) d = refl
named_before names (word.Length at k) d = refl
named_before names (word.Function at x) d = refl
named_before names (word.Parameter at x) d = refl
named_before names (word.Results at k) d = refl
named_before names (word.Body at) d = refl
named_before names word.EndFunction d = refl
named_before names (word.Number at k) d = refl
named_before names (word.Name at x) d = refl
named_before names word.Bracket d = refl
named_before names (word.Prefix at op) d = refl
named_before names word.Left d = refl
named_before names (word.Infix at s) d = refl
named_before names (word.Cell at x) d = refl
named_before names (word.Fetch at x) d = refl
named_before names word.Index d = refl
named_before names (word.Store at x) d = refl
named_before names (word.Callee at x) d = refl
named_before names (word.Call at strict x) d = refl
named_before names word.Then d = refl
named_before names word.Else d = refl
named_before names (word.EndIf at) d = refl
named_before names (word.Loop at) d = refl
named_before names (word.Bound at k) d = refl
named_before names (word.Start at x) d = refl
named_before names word.First d = refl
named_before names word.TestFirst d = refl
named_before names word.While d = refl
named_before names word.BodyFirst d = refl
named_before names word.Until d = refl
named_before names (word.EndLoop at k) d = refl
named_before names word.List d = refl
named_before names word.Part d = refl
named_before names (word.Let at) d = refl
named_before names (word.Bind at x) d = refl
named_before names word.Drop d = refl
named_before names (word.EndLet at) d = refl
named_before names word.Do d = refl
named_before names word.Give d = refl
named_before names word.Chain d = refl

named_deeper : (names : List Name) (ws : List (Word ℕ)) (d : Depths) → deeper (map (named names) ws) d ≡ deeper ws d
named_deeper names [] d = refl
named_deeper names (w ∷ ws) d = named_before names w (deeper (map (named names) ws) d) ∙ ap (λ j. deeper_before w j) (named_deeper names ws d)

pub depth_is_by_numbers : DepthIsByNumbers
depth_is_by_numbers names ws p h = ap (λ (k : Depths). k.found) (sym (named_deeper names ws at_end)) ∙ ap (λ (vs : List (Word Name)). words_too_deep vs) h.words
    ∙ depth_is_by_words p
