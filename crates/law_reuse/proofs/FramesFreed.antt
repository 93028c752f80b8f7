-- A frame that is handed back: nothing else names it, so from then on it stands for another frame, one that was never used.
use Rattle.std.proofs.Common.{◌≡◌, refl, sym, ap, ◌∙◌, subst, ℕ, suc, ◌+◌, ◌*◌, ◌<◌, ◌≤◌, ◌⊎◌, inl, inr, true, false, List, [], ◌∷◌, map, length, Contains}
use Rattle.std.proofs.Common.{arith, suc-mul, mul-le-mul_right}
use Rattle.std.proofs.lemmas.Bool.{cases_eq, cases_lt}
use Rattle.std.proofs.lemmas.Nat.{same_from_place}
use Rattle.tags.specs.declared.token.Cont.{Cont}
use Rattle.tags.specs.declared.token.Word.{Word}
use Rattle.tags.specs.declared.token.To.{To}
use Rattle.tags.specs.declared.token.Token.{Token}
use Rattle.tags.specs.declared.slot.SlotState.{SlotState}
use Rattle.tags.specs.declared.slot.SlotState.TheVariants as Slot
use Rattle.tags.specs.declared.slot.SlotState.TheVariants.{Empty, Credits, Waiter, Draining}
use Rattle.semantics.specs.Rule.{token}
use Rattle.semantics.specs.Machine.{CellState, Vacant, Full, Deferred, Store, put_at, with_out}
use Rattle.semantics.specs.Orderly.{NamesCont, NamesWord, NamesTo, NamesSlot, readers_of}
use Rattle.semantics.specs.Renamed.{re_cont, re_word, re_to, re_token, re_slot, re_cell}
use Rattle.law_reuse.proofs.FramesFold.{Injective, Fold, put_same, put_other}

-- ---- THE NAMES OF FRAMES. Frame g of t is in its gen g-th use. The numbers from t on are names of no frame: they get
-- names beyond those of n uses.
abbrev pub place : ℕ → (ℕ → ℕ) → ℕ → ℕ
place t gen g = g + gen g * t

pub record IsNaming (t n k : ℕ) (gen : ℕ → ℕ) : Type 0 where
  pub above : (g : ℕ) → t ≤ g → gen g ≡ suc n
  pub room : (g : ℕ) → g < t → gen g + k ≤ n

-- two frames that are one
pub place_same : (t g k j i : ℕ) → g < t → k < t → g + j * t ≡ k + i * t → (g ≡ k) × (j ≡ i)
place_same t g k j i p q e =
    let both = same_from_place j g i k t p q (omega (arith, e)) in
    (both.1, both.0)

pub place_low : (t n g j : ℕ) → g < t → j ≤ n → g + j * t < suc n * t
place_low t n g j p q =
    let a : j * t ≤ n * t = mul-le-mul_right t q in
    let b : suc n * t ≡ n * t + t = suc-mul n t in
    omega arith

place_high : (t n : ℕ) (gen : ℕ → ℕ) (g : ℕ) → gen g ≡ suc n → suc n * t ≤ place t gen g
place_high t n gen g e =
    let a : gen g * t ≡ suc n * t = ap (λ (x : ℕ). x * t) e in
    omega arith

-- a use that is still ahead is no frame's name
pub place_fresh : (t n k : ℕ) (gen : ℕ → ℕ) → IsNaming t n k gen → (g j : ℕ) → g < t → gen g < j → j ≤ n → (f : ℕ) → g + j * t ≡ place t gen f → ⊥
place_fresh t n k gen N g j below more within f e = go (cases_lt f t)
  where
    go : ((f < t) ⊎ (t ≤ f)) → ⊥
    go (inl p) =
        let both = place_same t g f j (gen f) below p e in
        let same : gen g ≡ gen f = ap gen both.0 in
        let there : j ≡ gen f = both.1 in
        omega arith
    go (inr p) =
        let a = place_low t n g j below within in
        let b = place_high t n gen f (N.above f p) in
        omega (arith, e)

pub place_injective : (t n k : ℕ) (gen : ℕ → ℕ) → IsNaming t n k gen → Injective (place t gen)
place_injective t n k gen N x y e = go (cases_lt x t) (cases_lt y t)
  where
    go : ((x < t) ⊎ (t ≤ x)) → ((y < t) ⊎ (t ≤ y)) → x ≡ y
    go (inl p) (inl q) = (place_same t x y (gen x) (gen y) p q e).0
    go (inl p) (inr q) =
        let r = N.room x p in
        let a = place_low t n x (gen x) p (omega (arith, r)) in
        let b = place_high t n gen y (N.above y q) in
        absurd (omega (arith, e))
    go (inr p) (inl q) =
        let r = N.room y q in
        let a = place_low t n y (gen y) q (omega (arith, r)) in
        let b = place_high t n gen x (N.above x p) in
        absurd (omega (arith, e))
    go (inr p) (inr q) =
        let a : gen x * t ≡ suc n * t = ap (λ (x : ℕ). x * t) (N.above x p) in
        let b : gen y * t ≡ suc n * t = ap (λ (x : ℕ). x * t) (N.above y q) in
        omega (arith, e)

abbrev pub next_use : (ℕ → ℕ) → ℕ → ℕ → ℕ
next_use gen f = put_at gen f (suc (gen f))

pub naming_later : (t n k : ℕ) (gen : ℕ → ℕ) → IsNaming t n (suc k) gen → IsNaming t n k gen
naming_later t n k gen N = record { above = N.above; room = λ g p. let r = N.room g p in omega (arith, r) }

pub naming_next : (t n k : ℕ) (gen : ℕ → ℕ) (f : ℕ) → f < t → IsNaming t n (suc k) gen → IsNaming t n k (next_use gen f)
naming_next t n k gen f below N = record {
  above = λ g p. put_other gen f (suc (gen f)) g (λ e. let e2 : f ≡ g = e in omega arith) ∙ N.above g p;
  room = λ g p. in_room g p (cases_eq f g);
}
  where
    in_room : (g : ℕ) → g < t → ((f ≡ g) ⊎ (f ≡ g → ⊥)) → next_use gen f g + k ≤ n
    in_room g p (inl e) =
        let a : next_use gen f g ≡ suc (gen f) = put_same gen f (suc (gen f)) g e in
        let r = N.room f below in
        omega (arith, r)
    in_room g p (inr ne) =
        let a : next_use gen f g ≡ gen g = put_other gen f (suc (gen f)) g ne in
        let r = N.room g p in
        omega (arith, r)

-- ---- another name for one frame
pub record Renews (h k : ℕ → ℕ) (f : ℕ) : Type 0 where
  pub same : (g : ℕ) → (g ≡ f → ⊥) → k g ≡ h g
  pub fresh : (g : ℕ) → k f ≡ h g → ⊥

pub renews_next : (t n k : ℕ) (gen : ℕ → ℕ) (f : ℕ) → f < t → IsNaming t n (suc k) gen → Renews (place t gen) (place t (next_use gen f)) f
renews_next t n k gen f below N = record {
  same = λ g ne. ap (λ (x : ℕ). g + x * t) (put_other gen f (suc (gen f)) g (λ e. ne (sym e)));
  fresh = λ g e.
      let r = N.room f below in
      place_fresh t n (suc k) gen N f (suc (gen f)) below (omega arith) (omega (arith, r)) g
      (sym (ap (λ (x : ℕ). f + x * t) (put_same gen f (suc (gen f)) f refl)) ∙ e);
}

module _ (h k : ℕ → ℕ) (f : ℕ) (renews : Renews h k f) where
  pub keep_frame : (g : ℕ) → (h g ≡ h f → ⊥) → k g ≡ h g
  keep_frame g ne = renews.same g (λ e. ne (ap h e))

  pub keep_cont : (c : Cont) → (NamesCont (h f) (re_cont h c) → ⊥) → re_cont k c ≡ re_cont h c
  keep_cont (Cont.Frame g ip p) ne = ap (λ (x : ℕ). Cont.Frame x ip p) (keep_frame g ne)
  keep_cont (Cont.Host j) ne = refl

  pub keep_word : (w : Word) → (NamesWord (h f) (re_word h w) → ⊥) → re_word k w ≡ re_word h w
  keep_word (Word.Val v) ne = refl
  keep_word (Word.Frame g) ne = ap (λ (x : ℕ). Word.Frame x) (keep_frame g ne)
  keep_word (Word.Back c) ne = ap (λ (x : Cont). Word.Back x) (keep_cont c ne)

  pub keep_to : (to : To) → (NamesTo (h f) (re_to h to) → ⊥) → re_to k to ≡ re_to h to
  keep_to (To.Instr g ip p) ne = ap (λ (x : ℕ). To.Instr x ip p) (keep_frame g ne)
  keep_to (To.Release g) ne = ap (λ (x : ℕ). To.Release x) (keep_frame g ne)
  keep_to (To.Fetch x) ne = refl
  keep_to (To.Store x v) ne = refl
  keep_to To.Manager ne = refl
  keep_to (To.Host j) ne = refl

  pub keep_token : (t : Token) → (NamesTo (h f) (re_to h t.to) → ⊥) → (NamesWord (h f) (re_word h t.word) → ⊥) → re_token k t ≡ re_token h t
  keep_token t p q = ap (λ (x : To). token x (re_word k t.word)) (keep_to t.to p) ∙ ap (λ (x : Word). token (re_to h t.to) x) (keep_word t.word q)

  pub keep_slot : (s : SlotState) → (NamesSlot (h f) (re_slot h s) → ⊥) → re_slot k s ≡ re_slot h s
  keep_slot (Slot.Left w) ne = ap (λ (x : Word). Slot.Left x) (keep_word w ne)
  keep_slot (Slot.Right w) ne = ap (λ (x : Word). Slot.Right x) (keep_word w ne)
  keep_slot (Waiter c) ne = ap (λ (x : Cont). Waiter x) (keep_cont c ne)
  keep_slot Empty ne = refl
  keep_slot (Credits n) ne = refl
  keep_slot (Draining n) ne = refl

  here : {X : Type 0} (x : X) (xs : List X) → Contains (x ∷ xs) x
  here x xs = (0, omega arith, refl)

  later : {X : Type 0} (x y : X) (xs : List X) → Contains xs y → Contains (x ∷ xs) y
  later x y xs c = let below : c.0 < length xs = c.1 in (suc c.0, omega arith, c.2)

  pub keep_conts : (cs : List Cont) → ((c : Cont) → Contains (map (re_cont h) cs) c → NamesCont (h f) c → ⊥) → map (re_cont k) cs ≡ map (re_cont h) cs
  keep_conts [] none = refl
  keep_conts (c ∷ cs) none =
      ap (λ (x : Cont). x ∷ map (re_cont k) cs) (keep_cont c (none (re_cont h c) (here (re_cont h c) (map (re_cont h) cs))))
      ∙ ap (λ (l : List Cont). re_cont h c ∷ l) (keep_conts cs (λ d inside. none d (later (re_cont h c) d (map (re_cont h) cs) inside)))

  pub keep_cell : (y : CellState) → ((c : Cont) → Contains (readers_of (re_cell h y)) c → NamesCont (h f) c → ⊥) → re_cell k y ≡ re_cell h y
  keep_cell Vacant none = refl
  keep_cell (Full v) none = refl
  keep_cell (Deferred cs) none = ap (λ (l : List Cont). Deferred l) (keep_conts cs none)

  pub keep_tokens : (ts : List Token) → ((t : Token) → Contains (map (re_token h) ts) t → (NamesTo (h f) t.to → ⊥) × (NamesWord (h f) t.word → ⊥))
      → map (re_token k) ts ≡ map (re_token h) ts
  keep_tokens [] none = refl
  keep_tokens (t ∷ ts) none =
      let first = none (re_token h t) (here (re_token h t) (map (re_token h) ts)) in
      ap (λ (x : Token). x ∷ map (re_token k) ts) (keep_token t first.0 first.1)
      ∙ ap (λ (l : List Token). re_token h t ∷ l) (keep_tokens ts (λ d inside. none d (later (re_token h t) d (map (re_token h) ts) inside)))

pub empty_back : (h : ℕ → ℕ) (s : SlotState) → Empty ≡ re_slot h s → s ≡ Empty
empty_back h Empty e = refl
empty_back h (Slot.Left w) e = cc
empty_back h (Slot.Right w) e = cc
empty_back h (Credits n) e = cc
empty_back h (Waiter c) e = cc
empty_back h (Draining n) e = cc

-- EVENT: a release
pub free_fold : (t : ℕ) (h k : ℕ → ℕ) → Injective h → (f : ℕ) → Renews h k f → (m u : Store) → Fold t h m u
    → ((x : ℕ) (c : Cont) → Contains (readers_of (u.cells x)) c → NamesCont (h f) c → ⊥)
    → ((g r : ℕ) → NamesSlot (h f) (u.slots g r) → ⊥) → ((r : ℕ) → u.slots (h f) r ≡ Empty)
    → Fold t k (with_out m f false) (with_out u (h f) false)
free_fold t h k inj f N m u F readers words slots = record {
  slots = λ g r. slot g r (cases_eq g f);
  cells =
      λ x. F.cells x ∙ sym (keep_cell h k f N (m.cells x)
      (λ c inside. readers x c (subst (λ (y : CellState). Contains (readers_of y) c) (sym (F.cells x)) inside)));
  out = λ g. out g (cases_eq g f);
  none_waits = F.none_waits;
  outputs = F.outputs;
  done = F.done;
  others = λ x. other x (cases_eq (h f) x) (F.others x);
  within = λ g. inside g (cases_eq f g);
}
  where
    fresh : (((r : ℕ) → u.slots (k f) r ≡ Empty) × (u.out (k f) ≡ false)) ⊎ ((g : ℕ) × (k f ≡ h g))
        → ((r : ℕ) → u.slots (k f) r ≡ Empty) × (u.out (k f) ≡ false)
    fresh (inl o) = o
    fresh (inr o) = absurd (N.fresh o.0 o.1)

    slot : (g r : ℕ) → ((g ≡ f) ⊎ (g ≡ f → ⊥)) → u.slots (k g) r ≡ re_slot k (m.slots g r)
    slot g r (inl e) =
        let none : m.slots f r ≡ Empty = empty_back h (m.slots f r) (sym (slots r) ∙ F.slots f r) in
        ap (λ (x : ℕ). u.slots (k x) r) e ∙ (fresh (F.others (k f))).0 r ∙ ap (re_slot k) (sym none) ∙ ap (λ (x : ℕ). re_slot k (m.slots x r)) (sym e)
    slot g r (inr ne) =
        ap (λ (x : ℕ). u.slots x r) (N.same g ne) ∙ F.slots g r
        ∙ sym (keep_slot h k f N (m.slots g r) (λ names. words (h g) r (subst (NamesSlot (h f)) (sym (F.slots g r)) names)))

    out : (g : ℕ) → ((g ≡ f) ⊎ (g ≡ f → ⊥)) → put_at u.out (h f) false (k g) ≡ put_at m.out f false g
    out g (inl e) =
        ap (λ (x : ℕ). put_at u.out (h f) false (k x)) e ∙ put_other u.out (h f) false (k f) (λ q. N.fresh f (sym q)) ∙ (fresh (F.others (k f))).1
        ∙ sym (put_same m.out f false g (sym e))
    out g (inr ne) =
        ap (put_at u.out (h f) false) (N.same g ne) ∙ put_other u.out (h f) false (h g) (λ q. ne (sym (inj f g q))) ∙ F.out g
        ∙ sym (put_other m.out f false g (λ q. ne (sym q)))

    other : (x : ℕ) → ((h f ≡ x) ⊎ (h f ≡ x → ⊥)) → (((r : ℕ) → u.slots x r ≡ Empty) × (u.out x ≡ false)) ⊎ ((g : ℕ) × (x ≡ h g))
        → (((r : ℕ) → u.slots x r ≡ Empty) × (put_at u.out (h f) false x ≡ false)) ⊎ ((g : ℕ) × (x ≡ k g))
    other x (inl e) o = inl (λ r. ap (λ (y : ℕ). u.slots y r) (sym e) ∙ slots r, put_same u.out (h f) false x e)
    other x (inr ne) (inl o) = inl (o.0, put_other u.out (h f) false x ne ∙ o.1)
    other x (inr ne) (inr o) = inr (o.0, o.1 ∙ sym (N.same o.0 (λ e. ne (sym (ap h e) ∙ sym o.1))))

    inside : (g : ℕ) → ((f ≡ g) ⊎ (f ≡ g → ⊥)) → put_at m.out f false g ≡ true → g < t
    inside g (inl e) q = let no : false ≡ true = sym (put_same m.out f false g e) ∙ q in absurd (cc)
    inside g (inr ne) q = F.within g (sym (put_other m.out f false g ne) ∙ q)
