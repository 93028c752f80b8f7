-- All elements in turn, from the opening pool to the last block.
use Rattle.std.proofs.Common.{◌≡◌, ◌≢◌, refl, sym, ◌∙◌, ap, subst, ℕ, zero, suc, ◌<◌, ◌≤◌, List, [], ◌∷◌, ◌++◌, length, drop, get_or, map, ◌⊎◌, inl}
use Rattle.std.proofs.Common.{inr, ⊎_elim, append_assoc, append-nil, Some, arith}
use Rattle.std.specs.Prelude.{IsPermutation, slice_get, slice_set, ◌==◌}
use Rattle.std.proofs.lemmas.List.Sorted.{IsPermutation-sym}
use Rattle.lemmas.proofs.SliceGet.{get_some}
use Rattle.lemmas.proofs.Bools.{by_equality}
use Rattle.tags.specs.declared.token.Token.{Token}
use Rattle.semantics.specs.Machine.{Events}
use Rattle.law_linearization.specs.History.{Block, events_in, blocks_by, entry_of, LeavesTokens, AreBelow}
use Rattle.law_linearization.proofs.HistoryRunning.{leaves_same, by_same}
use Rattle.law_linearization.proofs.HistoryWeaving.{all_below}
use Rattle.law_linearization.proofs.HistoryReordering.{first_other}
use Rattle.ordering.specs.declared.log.Counts.{Counts}
use Rattle.ordering.specs.declared.log.BlockLog.{BlockLog}
use Rattle.ordering.specs.declared.rest.Rest.{Rest}
use Rattle.ordering.specs.Noted.{noted_in}
use Rattle.ordering.specs.Pools.{all_copies}
use Rattle.ordering.specs.Rests.{IsWhole, IsRestOf, Holds, GoesOn, IsStuck}
use Rattle.ordering.specs.Orders.{IsHistory, IsOrdered, OrderedSoFar, AreWholeSoFar, AreWhole}
use Rattle.ordering.proofs.Copies.{in_front}
use Rattle.ordering.proofs.Moving.{all_own}
use Rattle.ordering.proofs.Standing.{log_stands}

abbrev Tokens : Type 0
Tokens = List Token

abbrev Amounts : Type 0
Amounts = Token → ℕ

-- LISTS
pub set_same : {X : Type 0} (xs : List X) (i : ℕ) (x y : X) → slice_get (slice_set xs i y) i ≡ Some x → x ≡ y
set_same [] i x y e = absurd (let no : ⊥ = cc in no)
set_same (z ∷ xs) zero x y e = cc
set_same (z ∷ xs) (suc i) x y e = set_same xs i x y e

pub set_apart : {X : Type 0} (xs : List X) (i j : ℕ) (y : X) → i ≢ j → slice_get (slice_set xs i y) j ≡ slice_get xs j
set_apart [] i j y ne = refl
set_apart (x ∷ xs) zero zero y ne = absurd (ne refl)
set_apart (x ∷ xs) zero (suc j) y ne = refl
set_apart (x ∷ xs) (suc i) zero y ne = refl
set_apart (x ∷ xs) (suc i) (suc j) y ne = set_apart xs i j y (λ (s : i ≡ j). ne (ap suc s))

pub first_of_dropped : {X : Type 0} (n : ℕ) (xs : List X) → slice_get (drop n xs) 0 ≡ slice_get xs n
first_of_dropped zero xs = refl
first_of_dropped (suc n) [] = refl
first_of_dropped (suc n) (x ∷ xs) = first_of_dropped n xs

pub get_at : {X : Type 0} (xs : List X) (i : ℕ) (x : X) → i < length xs → x ≡ get_or xs i x → slice_get xs i ≡ Some x
get_at [] i x low is = absurd (let no : ⊥ = omega (arith, low) in no)
get_at (y ∷ ys) zero x low is = ap Some (sym is)
get_at (y ∷ ys) (suc i) x low is = let within : i < length ys = omega (arith, low) in get_at ys i x within is

get_pushed : {X : Type 0} (xs : List X) (y : X) (e : ℕ) (r : X) → slice_get (xs ++ y ∷ []) e ≡ Some r → (slice_get xs e ≡ Some r) ⊎ ((e ≡ length xs) × (r ≡ y))
get_pushed [] y zero r is = inr (refl, cc)
get_pushed [] y (suc e) r is = absurd (let no : ⊥ = cc in no)
get_pushed (x ∷ xs) y zero r is = inl is
get_pushed (x ∷ xs) y (suc e) r is = ⊎_elim (λ h. inl h) (λ h. inr (ap suc h.0, h.1)) (get_pushed xs y e r is)

-- WHICH ELEMENTS HAVE BLOCKS
none_above : (n : ℕ) (log : List Block) (e : ℕ) → AreBelow n log → n ≤ e → blocks_by e log ≡ []
none_above n [] e below high = refl
none_above n (b ∷ later) e below high =
    let low : b.element < n = below.0 in
    first_other b later e (λ (s : b.element ≡ e). let at : b.element ≡ e = s in let no : ⊥ = omega (arith, low, high, at) in no)
    ∙ none_above n later e below.1 high

-- AT THE START
pub starts : {A : Type 0} (logs : List (BlockLog A)) (log : List Block) (start last opening : Tokens) (amounts : Amounts) (rests : List Rest)
    → IsHistory logs log start last → IsPermutation opening start → AreWhole logs rests → Holds amounts opening
    → OrderedSoFar (length logs) log start last amounts rests []
starts logs log start last opening amounts rests history perm whole holds = record {
  tokens = opening;
  left = log;
  holds = holds;
  leaves = leaves_same (length logs) opening start (map entry_of log) last perm history.leaves;
  below = λ e high. none_above (length logs) log e history.below high;
  stands = λ e r get. let w = whole.1 e r get in log_stands r (noted_in w.0) (blocks_by e log) w.2 (history.noted e w.0 w.1);
  back = λ next leaves same. (next, leaves_same (length logs) start opening (map entry_of next) last (IsPermutation-sym opening start perm) leaves, same, refl);
}

pub whole_pushed : {A : Type 0} (logs : List (BlockLog A)) (rests : List Rest) (l : BlockLog A) (r : Rest) → length rests < length logs → l
    ≡ get_or logs (length rests) l → IsWhole l.taken.items l.made.items l.blocks.items r
    → AreWholeSoFar logs rests → AreWholeSoFar logs (rests ++ r ∷ [])
whole_pushed {A} logs rests l r low is whole so_far e q get =
    ⊎_elim (λ old. so_far e q old)
    (λ here. (
      l,
      ap (slice_get logs) here.0 ∙ get_at logs (length rests) l low is,
      subst (IsWhole l.taken.items l.made.items l.blocks.items)
          (sym here.1) whole,
    ))
    (get_pushed rests r e q get)

-- ONE ELEMENT GOES ON
pub goes_further : (n : ℕ) (log : List Block) (start last : Tokens) (before after : Amounts) (rests : List Rest) (one two : Events) (at : ℕ) (old new : Rest)
    → at < n → slice_get rests at ≡ Some old → ((tokens : Tokens) (blocks : List Block) → Holds before tokens → IsRestOf old blocks
    → GoesOn n at tokens blocks one after new two)
    → OrderedSoFar n log start last before rests one → OrderedSoFar n log start last after (slice_set rests at new) two
goes_further n log start last before after rests one two at old new low get goes s =
    let bs : List Block = blocks_by at s.left in
    let go : GoesOn n at s.tokens bs one after new two = goes s.tokens bs s.holds (s.stands at old get) in
    let next = go.leads.forth s.left last s.leaves refl in
    record {
      tokens = go.left;
      left = next.0;
      holds = go.holds;
      leaves = next.1;
      below = λ e high. next.3 e (λ (is : e ≡ at). let same : e ≡ at = is in let no : ⊥ = omega (arith, low, high, same) in no) ∙ s.below e high;
      stands = λ e r there. by_equality (IsRestOf r (blocks_by e next.0)) e at
          (λ (is : e ≡ at).
          let here : r ≡ new = set_same rests at r new (subst (λ (k : ℕ). slice_get (slice_set rests at new) k ≡ Some r) is there) in
          subst (λ (k : ℕ). IsRestOf r (blocks_by k next.0)) (sym is) (subst (λ (q : Rest). IsRestOf q (blocks_by at next.0)) (sym here)
          (subst (IsRestOf new) (sym next.2) go.stands)))
          (λ (ne : e ≢ at). subst (IsRestOf r) (sym (next.3 e ne)) (s.stands e r (sym (set_apart rests at e new (λ (is : at ≡ e). ne (sym is))) ∙ there)))
          (e == at) refl;
      back = λ later leaves same.
          let own = all_own n at s.left s.tokens last s.leaves in
          let b = go.leads.back own later last leaves (same at ∙ next.2) in
          let w = s.back b.0 b.1 (λ e. by_equality (blocks_by e b.0 ≡ blocks_by e s.left) e at
          (λ (is : e ≡ at). subst (λ (k : ℕ). blocks_by k b.0 ≡ blocks_by k s.left) (sym is) b.2)
          (λ (ne : e ≢ at). b.3 e ne ∙ same e ∙ next.3 e ne) (e == at) refl) in (
            w.0,
            w.1,
            w.2,
            w.3 ∙ ap (λ (l : Events). one ++ l) b.4 ∙ sym (append_assoc one go.made (events_in later))
                ∙ ap (λ (l : Events). l ++ events_in later) (sym go.noted),
          );
    }

-- AT THE END
first_some : (t u : Token) (us : Tokens) → slice_get (u ∷ us) 0 ≡ Some t → u ≡ t
first_some t u us e = cc

not_first : (t : Token) → slice_get {X = Token} [] 0 ≡ Some t → ⊥
not_first t e = cc

-- a block whose tokens are in the pool waits for none
waits : (spent rest tokens : Tokens) (amounts : Amounts) (t : Token) → slice_get spent 0 ≡ Some t → amounts t ≡ 0 → Holds amounts tokens
    → IsPermutation tokens (spent ++ rest) → ⊥
waits [] rest tokens amounts t first none holds perm = not_first t first
waits (u ∷ us) rest tokens amounts t first none holds perm =
    let some : 0 < all_copies u tokens = in_front u tokens us rest perm in
    let here : amounts u ≡ 0 = subst (λ (v : Token). amounts v ≡ 0) (sym (first_some t u us first)) none in
    let held = holds u in
    omega (arith, some, here, held)

stuck_first : (n : ℕ) (b : Block) (later : List Block) (tokens last : Tokens) (amounts : Amounts) (r : Rest) → LeavesTokens n tokens (b ∷ later) last
    → Holds amounts tokens → IsRestOf r (b ∷ blocks_by b.element later) → IsStuck amounts r → ⊥
stuck_first n b later tokens last amounts r leaves holds stands stuck =
    let some : 0 < length r.blocks.now = subst (λ (cs : List Counts). 0 < length cs) (sym stands.3) (omega arith) in
    let waiting = stuck some in
    waits b.spent leaves.0 tokens amounts waiting.0 (subst (λ (ts : Tokens). slice_get ts 0 ≡ Some waiting.0) stands.0 waiting.1) waiting.2 holds leaves.1

-- where no block can be taken, none is left
none_left : (n : ℕ) (left : List Block) (tokens last : Tokens) (amounts : Amounts) (rests : List Rest) → length rests ≡ n
    → LeavesTokens n tokens left last → Holds amounts tokens → ((e : ℕ) → n ≤ e → blocks_by e left ≡ [])
    → ((e : ℕ) (r : Rest) → slice_get rests e ≡ Some r → IsRestOf r (blocks_by e left)) → ((e : ℕ) (r : Rest) → slice_get rests e ≡ Some r
    → IsStuck amounts r) → left ≡ []
none_left n [] tokens last amounts rests count leaves holds below stands stuck = refl
none_left n (b ∷ later) tokens last amounts rests count leaves holds below stands stuck =
    let low : b.element < n = (all_below n (b ∷ later) below).0 in
    let here = get_some rests b.element (omega (arith, low, count)) in
    absurd (stuck_first n b later tokens last amounts here.0 leaves holds (subst (IsRestOf here.0) (by_same b later) (stands b.element here.0 here.1))
    (stuck b.element here.0 here.1))

pub ends : {A : Type 0} (logs : List (BlockLog A)) (log : List Block) (start last : Tokens) (amounts : Amounts) (rests : List Rest) (events : Events)
    → IsHistory logs log start last → length rests ≡ length logs → OrderedSoFar (length logs) log start last amounts rests events
    → ((e : ℕ) (r : Rest) → slice_get rests e ≡ Some r → IsStuck amounts r) → IsOrdered (length logs) log start last events
ends logs log start last amounts rests events history count s stuck =
    let n : ℕ = length logs in
    let none : s.left ≡ [] = none_left n s.left s.tokens last amounts rests count s.leaves s.holds s.below s.stands stuck in
    let w = s.back [] (subst (λ (l : List Block). LeavesTokens n s.tokens l last) none s.leaves) (λ e. ap (blocks_by e) (sym none)) in
    record {
      history = w.0;
      leaves = w.1;
      below = all_below n w.0 (λ e high. w.2 e ∙ none_above n log e history.below high);
      blocks = w.2;
      events = sym (w.3 ∙ append-nil events);
    }
