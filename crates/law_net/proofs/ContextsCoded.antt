-- Each code block is that of a block of the graph, or of the turns of one that is looped: there are no more.
use Rattle.std.proofs.Common.{◌≡◌, ℕ, zero, suc, ◌+◌, ◌-◌, ◌<◌, ◌≤◌, Bool, true, false, List, [], ◌∷◌, length, refl, sym, ap, ◌∙◌, inl, inr, ◌⊎◌, arith}
use Rattle.std.proofs.Common.{true≢false, ltb-true, ltb-false, lt-ltb, le-ltb, nat_lt, length-append, if◌then◌else◌}
use Rattle.std.specs.Prelude.{Contains}
use Rattle.std.proofs.lemmas.Bool.{cases_eq, cases_Bool}
use Rattle.std.proofs.lemmas.Option.{slice_get_within}
use Rattle.lemmas.proofs.Contains.{contains_cases, contains_none}
use Rattle.lemmas.proofs.SliceGet.{get_some}
use Rattle.tags.specs.declared.token.Port.TheVariants.{Left}
use Rattle.semantics.specs.Graph.{Block, Flow}
use Rattle.semantics.specs.Meaning.{Main}
use Rattle.semantics.specs.Plan.{Plan}
use Rattle.semantics.specs.Cause.{is_looped, looped_from}
use Rattle.law_confluence.specs.OrdersTotals.{one, total}
use Rattle.law_net.specs.ContextsParts.{Line, inlet, signal, Item, item, Spot, spot_of}
use Rattle.law_net.specs.Contexts.{Wires}
use Rattle.law_net.specs.ContextsTheorem.{IsGood}
use Rattle.law_net.specs.ContextsCoded.{AllCoded}
use Rattle.law_net.proofs.ContextsSames.{hits_at}
use Rattle.law_net.proofs.WiredFed.{cons_once}
use Rattle.law_net.proofs.RunsPigeons.{few_pigeons}

module _ (fl : Flow) (p : Plan) (w : Wires) (good : IsGood fl p w) where
  -- A PIGEON for the turns of each looped block
  abbrev pigeon_at : ℕ → Item
  pigeon_at v = item Main (inlet (Line v) Left 0) signal

  abbrev pigeon : ℕ → Item
  pigeon f = pigeon_at (w.variant f)

  abbrev flock : ℕ → List (Block ℕ) → List Item
  flock f [] = []
  flock f (b ∷ bs) = if is_looped fl f then pigeon f ∷ flock (f + 1) bs else flock (f + 1) bs

  flock_size : (f : ℕ) (bs : List (Block ℕ)) → total (λ (i : Item). one true) (flock f bs) ≡ length (looped_from fl f bs)
  flock_size f [] = refl
  flock_size f (b ∷ bs) = go (is_looped fl f) (flock_size (f + 1) bs)
    where
      go : (t : Bool) → total (λ (i : Item). one true) (flock (f + 1) bs) ≡ length (looped_from fl (f + 1) bs)
          → total (λ (i : Item). one true) (if t then pigeon f ∷ flock (f + 1) bs else flock (f + 1) bs)
          ≡ length (if t then b ∷ looped_from fl (f + 1) bs else looped_from fl (f + 1) bs)
      go true more = omega (arith, more)
      go false more = more

  abbrev InFlock : ℕ → ℕ → Item → Type 0
  InFlock low high i = (j : ℕ) × (low ≤ j) × (j < high) × (is_looped fl j ≡ true) × (i ≡ pigeon j)

  in_flock : (f : ℕ) (bs : List (Block ℕ)) (i : Item) → Contains (flock f bs) i → InFlock f (f + length bs) i
  in_flock f [] i c = absurd (contains_none i c)
  in_flock f (b ∷ bs) i c = go (is_looped fl f) refl c (in_flock (f + 1) bs i)
    where
      later : InFlock (f + 1) (f + 1 + length bs) i → InFlock f (f + length (b ∷ bs)) i
      later (j, low, high, l, e) = (j, omega (arith, low), omega (arith, high), l, e)

      go : (t : Bool) → is_looped fl f ≡ t → Contains (if t then pigeon f ∷ flock (f + 1) bs else flock (f + 1) bs) i
          → (Contains (flock (f + 1) bs) i → InFlock (f + 1) (f + 1 + length bs) i) → InFlock f (f + length (b ∷ bs)) i
      go false l c more = later (more c)
      go true l c more = pick (contains_cases (pigeon f) (flock (f + 1) bs) i c)
        where
          pick : (pigeon f ≡ i) ⊎ Contains (flock (f + 1) bs) i → InFlock f (f + length (b ∷ bs)) i
          pick (inl e) = (f, omega arith, omega arith, l, sym e)
          pick (inr d) = later (more d)

  line_is : (v u : ℕ) → spot_of (pigeon_at v) ≡ spot_of (pigeon_at u) → v ≡ u
  line_is v u e = let k : Line v ≡ Line u = ap (λ (x : Spot). x.inlet.part) e in cc

  -- no two are alike
  flock_once : (x : Spot) (f : ℕ) (bs : List (Block ℕ)) → hits_at x (flock f bs) ≤ 1
  flock_once x f [] = omega arith
  flock_once x f (b ∷ bs) = go (is_looped fl f) refl (flock_once x (f + 1) bs)
    where
      go : (t : Bool) → is_looped fl f ≡ t → hits_at x (flock (f + 1) bs) ≤ 1 → hits_at x (if t then pigeon f ∷ flock (f + 1) bs else flock (f + 1) bs) ≤ 1
      go false l more = more
      go true l more = cons_once x (pigeon f) (flock (f + 1) bs) more (λ j c e. apart j (in_flock (f + 1) bs j c) e)
        where
          apart : (j : Item) → InFlock (f + 1) (f + 1 + length bs) j → spot_of j ≡ spot_of (pigeon f) → ⊥
          apart j (g, low, high, m, same) e =
              let v = line_is (w.variant g) (w.variant f) (ap spot_of (sym same) ∙ e) in
              let k = good.wired.differ g f m l v in omega (arith, k, low)

  abbrev plain : ℕ
  plain = length fl.blocks

  abbrev looped : ℕ
  looped = length (looped_from fl 0 fl.blocks)

  blocks_are : length p.program.blocks ≡ plain + looped
  blocks_are = good.bounds.0 ∙ length-append fl.blocks (looped_from fl 0 fl.blocks)

  -- where the turns of a looped block are
  turns_lie : (j : ℕ) → j < plain → is_looped fl j ≡ true → (plain ≤ w.variant j) × (w.variant j < plain + looped)
  turns_lie j h l =
      let g = get_some fl.blocks j h in
      let x = good.wired.turns j g.0 g.1 l in
      let within = slice_get_within p.program.blocks (w.variant j) x.code x.there in let count = blocks_are in
      (good.wired.others j g.0 g.1 l, omega (arith, within, count))

  -- THE HOLE for a pigeon, if a block b is no one's
  abbrev hole : ℕ → ℕ → ℕ
  hole b u = if nat_lt (plain + u) b then plain + u else plain + u + 1

  hole_low : (b u : ℕ) → plain + u < b → hole b u ≡ plain + u
  hole_low b u h = ap (λ (t : Bool). if t then plain + u else plain + u + 1) (lt-ltb (plain + u) b h)

  hole_high : (b u : ℕ) → b ≤ plain + u → hole b u ≡ plain + u + 1
  hole_high b u h = ap (λ (t : Bool). if t then plain + u else plain + u + 1) (le-ltb (plain + u) b h)

  find : (b n : ℕ) → ((i : ℕ) × (i < n) × (is_looped fl i ≡ true) × (b ≡ w.variant i)) ⊎ ((i : ℕ) → i < n → is_looped fl i ≡ true → b ≡ w.variant i → ⊥)
  find b zero = inr (λ i h l e. omega (arith, h))
  find b (suc n) = pick (find b n) (cases_Bool (is_looped fl n)) (cases_eq b (w.variant n))
    where
      pick : ((i : ℕ) × (i < n) × (is_looped fl i ≡ true) × (b ≡ w.variant i)) ⊎ ((i : ℕ) → i < n → is_looped fl i ≡ true → b ≡ w.variant i → ⊥)
          → (is_looped fl n ≡ true) ⊎ (is_looped fl n ≡ false) → (b ≡ w.variant n) ⊎ (b ≡ w.variant n → ⊥)
          → ((i : ℕ) × (i < suc n) × (is_looped fl i ≡ true) × (b ≡ w.variant i)) ⊎ ((i : ℕ) → i < suc n → is_looped fl i ≡ true → b ≡ w.variant i → ⊥)
      pick (inl (i, h, l, e)) t u = inl (i, omega (arith, h), l, e)
      pick (inr none) (inl l) (inl e) = inl (n, omega arith, l, e)
      pick (inr none) (inr l) u = inr (λ i h m e. last i h m e (cases_eq i n))
        where
          last : (i : ℕ) → i < suc n → is_looped fl i ≡ true → b ≡ w.variant i → (i ≡ n) ⊎ (i ≡ n → ⊥) → ⊥
          last i h m e (inl g) = true≢false (sym m ∙ ap (is_looped fl) g ∙ l)
          last i h m e (inr g) = none i (omega (arith, h, g)) m e
      pick (inr none) (inl l) (inr d) = inr (λ i h m e. last i h m e (cases_eq i n))
        where
          last : (i : ℕ) → i < suc n → is_looped fl i ≡ true → b ≡ w.variant i → (i ≡ n) ⊎ (i ≡ n → ⊥) → ⊥
          last i h m e (inl g) = d (e ∙ ap w.variant g)
          last i h m e (inr g) = none i (omega (arith, h, g)) m e

  pub all_coded : AllCoded fl p w
  all_coded b c e = pick (cases_Bool (nat_lt b plain)) (find b plain)
    where
      below : b < plain + looped
      below = let h = slice_get_within p.program.blocks b c e in let count = blocks_are in omega (arith, h, count)

      too_many : plain ≤ b → ((i : ℕ) → i < plain → is_looped fl i ≡ true → b ≡ w.variant i → ⊥) → ⊥
      too_many low none =
          let few = few_pigeons (λ i. true) (λ u. spot_of (pigeon_at (hole b u))) (looped - 1) (flock 0 fl.blocks) (λ x. flock_once x 0 fl.blocks)
          (λ i d t. fits i (in_flock 0 fl.blocks i d)) in
          let size = flock_size 0 fl.blocks in let h = below in omega (arith, few, size, h, low)
        where
          fits : (i : Item) → InFlock 0 (0 + plain) i → (u : ℕ) × (u < looped - 1) × (spot_of i ≡ spot_of (pigeon_at (hole b u)))
          fits i (j, zero', high, l, same) = by (turns_lie j (omega (arith, high)) l) (none j (omega (arith, high)) l) (cases_Bool (nat_lt (w.variant j) b))
            where
              by : (plain ≤ w.variant j) × (w.variant j < plain + looped) → (b ≡ w.variant j → ⊥)
                  → (nat_lt (w.variant j) b ≡ true) ⊎ (nat_lt (w.variant j) b ≡ false)
                  → (u : ℕ) × (u < looped - 1) × (spot_of i ≡ spot_of (pigeon_at (hole b u)))
              by (a, d) apart (inl t) =
                  let less = ltb-true (w.variant j) b t in let h = below in
                  let at : plain + (w.variant j - plain) ≡ w.variant j = omega (arith, a) in
                  let there = hole_low b (w.variant j - plain) (omega (arith, at, less)) in
                  (w.variant j - plain, omega (arith, a, less, h), ap spot_of same ∙ ap (λ (v : ℕ). spot_of (pigeon_at v)) (sym at ∙ sym there))
              by (a, d) apart (inr t) =
                  let more = ltb-false (w.variant j) b t in
                  let over : b < w.variant j = omega (arith, more, apart) in
                  let at : plain + (w.variant j - plain - 1) + 1 ≡ w.variant j = omega (arith, a, over, low) in
                  let there = hole_high b (w.variant j - plain - 1) (omega (arith, at, over)) in
                  (w.variant j - plain - 1, omega (arith, a, d, over, low), ap spot_of same ∙ ap (λ (v : ℕ). spot_of (pigeon_at v)) (sym at ∙ sym there))

      pick : (nat_lt b plain ≡ true) ⊎ (nat_lt b plain ≡ false)
          → ((i : ℕ) × (i < plain) × (is_looped fl i ≡ true) × (b ≡ w.variant i)) ⊎ ((i : ℕ) → i < plain → is_looped fl i ≡ true → b ≡ w.variant i → ⊥)
          → (b < plain) ⊎ ((i : ℕ) × (i < plain) × (is_looped fl i ≡ true) × (b ≡ w.variant i))
      pick (inl h) f = inl (ltb-true b plain h)
      pick (inr h) (inl f) = inr f
      pick (inr h) (inr none) = absurd (too_many (ltb-false b plain h) none)
