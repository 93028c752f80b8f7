-- The flags of the frames, and the set of the words that are not 0.
use Rattle.std.proofs.Common.{◌≡◌, ◌≢◌, ℕ, ◌+◌, ◌*◌, ◌/◌, ◌%◌, ◌^◌, ◌<◌, ◌≤◌, ◌==◌, Bool, true, false, not, eqb, List, ◌++◌, length, set, get_or}
use Rattle.std.proofs.Common.{take, drop, replicate, sym, ap, ◌∙◌, refl, arith, subst, ⊎_elim, w64}
use Rattle.std.specs.Prelude.{Option, Some, None, IfNone}
use Rattle.std.specs.Int.{trailing_zeros, bit_at}
use Rattle.std.proofs.lemmas.Bool.{cases_eq, cases_lt, eq-eqb, ne_eqb}
use Rattle.std.proofs.lemmas.List.{get_or-set_same, get_or-set_other, get_or_past, same_lists, length-set, drop_all, append-nil, take_all}
use Rattle.std.proofs.lemmas.List.{get_or-replicate, length-replicate}
use Rattle.std.proofs.lemmas.List.FromFn.{length-map-range_with_len, get_or-map-range_with_len}
use Rattle.std.proofs.lemmas.Nat.Bits.{bit_at-lt, bit_at-zero}
use Rattle.frame_manager.specs.Bits.{bit_of, IsFirst}
use Rattle.frame_manager.specs.Flags.{out_flags, flag_at, IsLeastFree, IsSummed}
use Rattle.frame_manager.specs.Managed.{NoneFree}
use Rattle.frame_manager.proofs.Words.{first_there, NoneBelow}

pub length_flags : (n : ℕ) (words : List ℕ) → length (out_flags n words) ≡ n
length_flags n words = length-map-range_with_len (λ f. bit_of words f == 0) 0 n

pub flag_within : (n : ℕ) (words : List ℕ) (f : ℕ) (d : Bool) → f < n → get_or (out_flags n words) f d ≡ (bit_of words f == 0)
flag_within n words f d h = get_or-map-range_with_len (λ f. bit_of words f == 0) 0 n f f d h (omega arith)

pub flag_past : (n : ℕ) (words : List ℕ) (f : ℕ) → n ≤ f → flag_at (out_flags n words) f ≡ false
flag_past n words f h = get_or_past (out_flags n words) f false (subst (λ k. k ≤ f) (sym (length_flags n words)) h)

-- a bit that is not 1 is 0
bit_tests : (b : ℕ) → b < 2 → not (eqb b 1) ≡ eqb b 0
bit_tests b h = ⊎_elim
    (λ (e : b ≡ 0). ap (λ n. not (eqb n 1)) e ∙ sym (eq-eqb b 0 e))
    (λ (ne : b ≡ 0 → ⊥). let one : b ≡ 1 = omega arith in ap not (eq-eqb b 1 one) ∙ sym (ne_eqb b 0 ne))
    (cases_eq b 0)

pub flag_by_test : (n : ℕ) (words : List ℕ) (f : ℕ) (r : Bool) → f < n → r ≡ (bit_of words f == 1) → not r ≡ flag_at (out_flags n words) f
flag_by_test n words f r h e = ap not e ∙ bit_tests (bit_of words f) (bit_at-lt _ _) ∙ sym (flag_within n words f false h)

-- one flag is changed
pub flags_changed : (n : ℕ) (old new : List ℕ) (f : ℕ) (b : Bool) → f < n → (bit_of new f == 0) ≡ b → ((i : ℕ) → i ≢ f → bit_of new i ≡ bit_of old i)
    → out_flags n new ≡ set (out_flags n old) f b
flags_changed n old new f b h at others =
    same_lists (out_flags n new) (set (out_flags n old) f b) (length_flags n new ∙ sym (length-set (out_flags n old) f b ∙ length_flags n old))
    (λ k d lt. let below : k < n = subst (λ m. k < m) (length_flags n new) lt in ⊎_elim
    (λ (e : k ≡ f). flag_within n new k d below ∙ ap (λ i. bit_of new i == 0) e ∙ at ∙ sym (ap (λ i. get_or (set (out_flags n old) f b) i d) e
    ∙ get_or-set_same (out_flags n old) f b d (subst (λ m. f < m) (sym (length_flags n old)) h)))
    (λ (ne : k ≡ f → ⊥). flag_within n new k d below ∙ ap (λ i. i == 0) (others k ne) ∙ sym (get_or-set_other (out_flags n old) f k b d ne
    ∙ flag_within n old k d below))
    (cases_eq k f))

-- THE LEAST FREE FRAME
-- where no word is in use, no frame is free
pub none_free : (n : ℕ) (words groups : List ℕ) → IsSummed n words groups → ((w : ℕ) → bit_of groups w ≡ 0) → NoneFree (out_flags n words)
none_free n words groups s none f h =
    let below : f < n = subst (λ m. f < m) (length_flags n words) h in
    flag_within n words f false below ∙ eq-eqb (bit_of words f) 0 (ap (λ w. bit_at w (f % 64)) (s.used (f / 64) (none (f / 64))) ∙ bit_at-zero (f % 64))

used_word : (n : ℕ) (words groups : List ℕ) (w : ℕ) → IsSummed n words groups → bit_of groups w ≡ 1 → 0 < get_or words w 0
used_word n words groups w s e = ⊎_elim
    (λ (z : get_or words w 0 ≡ 0). let no : bit_of groups w ≡ 0 = s.empty w z in absurd (omega arith))
    (λ (nz : get_or words w 0 ≡ 0 → ⊥). omega arith)
    (cases_eq (get_or words w 0) 0)

pub word_inside : (n : ℕ) (words groups : List ℕ) (w : ℕ) → IsSummed n words groups → IsFirst groups w → w < length words
word_inside n words groups w s i = ⊎_elim
    (λ (lt : w < length words). lt)
    (λ (ge : length words ≤ w). let z : get_or words w 0 ≡ 0 = get_or_past words w 0 ge in let p = used_word n words groups w s i.there in absurd (omega arith))
    (cases_lt w (length words))

none_below : (n : ℕ) (words groups : List ℕ) (w : ℕ) → IsSummed n words groups → IsFirst groups w → NoneBelow words (64 * w)
none_below n words groups w s i k h =
    let lower : k / 64 < w = omega arith in
    ap (λ x. bit_at x (k % 64)) (s.used (k / 64) (i.least (k / 64) lower)) ∙ bit_at-zero (k % 64)

pub least_free : (n : ℕ) (words groups : List ℕ) (w : ℕ) → IsSummed n words groups → IsFirst groups w → get_or words w 0 < 2 ^ 64
    → IsLeastFree (out_flags n words) (64 * w + trailing_zeros w64 (get_or words w 0))
least_free n words groups w s i fits =
    let f : IsFirst words (64 * w + trailing_zeros w64 (get_or words w 0)) = first_there words w (get_or words w 0) (none_below n words groups w s i)
    refl (used_word n words groups w s i.there) fits in
    go (64 * w + trailing_zeros w64 (get_or words w 0)) f where
      go : (g : ℕ) → IsFirst words g → IsLeastFree (out_flags n words) g
      go g f =
          let inside : g < n = ⊎_elim (λ (lt : g < n). lt) (λ (ge : n ≤ g). let z = s.beyond g ge in let o = f.there in absurd (omega arith)) (cases_lt g n) in
          record {
            there = subst (λ m. g < m) (sym (length_flags n words)) inside;
            free = flag_within n words g false inside ∙ ap (λ b. b == 0) f.there;
            least = λ k lt. let below : k < n = omega arith in flag_within n words k false below ∙ eq-eqb (bit_of words k) 0 (f.least k lt);
          }

-- A CHANGE OF ONE WORD
-- a slice that was lent whole
pub lent_whole : (n : ℕ) (xs ys : List ℕ) → length xs ≡ length ys → length ys ≡ n → take n (xs ++ drop (length xs) ys) ≡ xs
lent_whole n xs ys e f = ap (λ zs. take n (xs ++ zs)) (drop_all (length xs) ys (omega arith)) ∙ ap (take n) (append-nil xs) ∙ take_all n xs (omega arith)

beyond_kept : (n f : ℕ) (words words' : List ℕ) → f < n → ((i : ℕ) → i ≢ f → bit_of words' i ≡ bit_of words i)
    → ((g : ℕ) → n ≤ g → bit_of words g ≡ 0) → (g : ℕ) → n ≤ g → bit_of words' g ≡ 0
beyond_kept n f words words' h others beyond g ge = others g (λ e. absurd (omega arith)) ∙ beyond g ge

-- a frame was put into the set, and its word into the groups
pub summed_with : (n f : ℕ) (words words' groups groups' : List ℕ) → IsSummed n words groups → f < n
    → length words' ≡ length words → length groups' ≡ length groups
    → bit_of words' f ≡ 1 → ((i : ℕ) → i ≢ f → bit_of words' i ≡ bit_of words i) → ((w : ℕ) → w ≢ f / 64 → get_or words' w 0 ≡ get_or words w 0)
    → bit_of groups' (f / 64) ≡ 1 → ((w : ℕ) → w ≢ f / 64 → bit_of groups' w ≡ bit_of groups w)
    → IsSummed n words' groups'
summed_with n f words words' groups groups' s h lw lg there others elsewhere gthere gothers = record {
  covered = let c = s.covered in omega arith;
  grouped = let c = s.grouped in omega arith;
  small = let c = s.small in omega arith;
  small_groups = let c = s.small_groups in omega arith;
  beyond = beyond_kept n f words words' h others s.beyond;
  empty = λ w z. ⊎_elim
      (λ (e : w ≡ f / 64). let z' : get_or words' (f / 64) 0 ≡ 0 = subst (λ v. get_or words' v 0 ≡ 0) e z in
      let no : bit_of words' f ≡ 0 = ap (λ x. bit_at x (f % 64)) z' ∙ bit_at-zero (f % 64) in absurd (omega arith))
      (λ (ne : w ≡ f / 64 → ⊥). gothers w ne ∙ s.empty w (sym (elsewhere w ne) ∙ z))
      (cases_eq w (f / 64));
  used = λ w z. ⊎_elim
      (λ (e : w ≡ f / 64). let no : bit_of groups' w ≡ 1 = ap (bit_of groups') e ∙ gthere in absurd (omega arith))
      (λ (ne : w ≡ f / 64 → ⊥). elsewhere w ne ∙ s.used w (sym (gothers w ne) ∙ z))
      (cases_eq w (f / 64));
}

-- a frame was taken out of the set, and its word is 0 now
pub summed_without_word : (n f : ℕ) (words words' groups groups' : List ℕ) → IsSummed n words groups → f < n
    → length words' ≡ length words → length groups' ≡ length groups
    → ((i : ℕ) → i ≢ f → bit_of words' i ≡ bit_of words i) → ((w : ℕ) → w ≢ f / 64 → get_or words' w 0 ≡ get_or words w 0)
    → get_or words' (f / 64) 0 ≡ 0
    → bit_of groups' (f / 64) ≡ 0 → ((w : ℕ) → w ≢ f / 64 → bit_of groups' w ≡ bit_of groups w)
    → IsSummed n words' groups'
summed_without_word n f words words' groups groups' s h lw lg others elsewhere zero_now ggone gothers = record {
  covered = let c = s.covered in omega arith;
  grouped = let c = s.grouped in omega arith;
  small = let c = s.small in omega arith;
  small_groups = let c = s.small_groups in omega arith;
  beyond = beyond_kept n f words words' h others s.beyond;
  empty = λ w z. ⊎_elim
      (λ (e : w ≡ f / 64). ap (bit_of groups') e ∙ ggone)
      (λ (ne : w ≡ f / 64 → ⊥). gothers w ne ∙ s.empty w (sym (elsewhere w ne) ∙ z))
      (cases_eq w (f / 64));
  used = λ w z. ⊎_elim
      (λ (e : w ≡ f / 64). ap (λ v. get_or words' v 0) e ∙ zero_now)
      (λ (ne : w ≡ f / 64 → ⊥). elsewhere w ne ∙ s.used w (sym (gothers w ne) ∙ z))
      (cases_eq w (f / 64));
}

-- a frame was taken out of the set, and its word is not 0
pub summed_without : (n f : ℕ) (words words' groups : List ℕ) → IsSummed n words groups → f < n
    → length words' ≡ length words
    → ((i : ℕ) → i ≢ f → bit_of words' i ≡ bit_of words i) → ((w : ℕ) → w ≢ f / 64 → get_or words' w 0 ≡ get_or words w 0)
    → (get_or words (f / 64) 0 ≡ 0 → get_or words' (f / 64) 0 ≡ 0)
    → (get_or words' (f / 64) 0 ≡ 0 → ⊥)
    → IsSummed n words' groups
summed_without n f words words' groups s h lw others elsewhere stays nonzero = record {
  covered = let c = s.covered in omega arith;
  grouped = let c = s.grouped in omega arith;
  small = let c = s.small in omega arith;
  small_groups = s.small_groups;
  beyond = beyond_kept n f words words' h others s.beyond;
  empty = λ w z. ⊎_elim
      (λ (e : w ≡ f / 64). absurd (nonzero (subst (λ v. get_or words' v 0 ≡ 0) e z)))
      (λ (ne : w ≡ f / 64 → ⊥). s.empty w (sym (elsewhere w ne) ∙ z))
      (cases_eq w (f / 64));
  used = λ w z. ⊎_elim
      (λ (e : w ≡ f / 64). absurd (nonzero (stays (s.used (f / 64) (subst (λ v. bit_of groups v ≡ 0) e z)))))
      (λ (ne : w ≡ f / 64 → ⊥). elsewhere w ne ∙ s.used w z)
      (cases_eq w (f / 64));
}

pub summed_as : (n : ℕ) (words words' groups groups' : List ℕ) → words' ≡ words → groups' ≡ groups → IsSummed n words groups → IsSummed n words' groups'
summed_as n words words' groups groups' e f s = subst (λ ws. IsSummed n ws groups') (sym e) (subst (λ gs. IsSummed n words gs) (sym f) s)

-- ALL ARE OUT
get_or_zeros : (n i : ℕ) → get_or {A = ℕ} (replicate n 0) i 0 ≡ 0
get_or_zeros n i = ⊎_elim
    (λ (lt : i < n). get_or-replicate n i 0 0 lt)
    (λ (ge : n ≤ i). get_or_past (replicate n 0) i 0 (subst (λ m. m ≤ i) (sym (length-replicate n 0)) ge))
    (cases_lt i n)

bit_of_zeros : (n i : ℕ) → bit_of (replicate n 0) i ≡ 0
bit_of_zeros n i = ap (λ w. bit_at w (i % 64)) (get_or_zeros n (i / 64)) ∙ bit_at-zero (i % 64)

pub flags_of_zeros : (n m : ℕ) → out_flags n (replicate m 0) ≡ replicate n true
flags_of_zeros n m = same_lists (out_flags n (replicate m 0)) (replicate n true) (length_flags n (replicate m 0) ∙ sym (length-replicate n true))
    (λ k d lt. let below : k < n = subst (λ l. k < l) (length_flags n (replicate m 0)) lt in
    flag_within n (replicate m 0) k d below ∙ eq-eqb (bit_of (replicate m 0) k) 0 (bit_of_zeros m k) ∙ sym (get_or-replicate n k true d below))

pub summed_zeros : (n m k : ℕ) → n ≤ 64 * m → m ≤ 64 * k → 64 * m < 2 ^ 63 → 64 * k < 2 ^ 63 → IsSummed n (replicate m 0) (replicate k 0)
summed_zeros n m k a b c d =
    let lm : length {A = ℕ} (replicate m 0) ≡ m = length-replicate {A = ℕ} m 0 in
    let lk : length {A = ℕ} (replicate k 0) ≡ k = length-replicate {A = ℕ} k 0 in
    record {
      covered = omega (arith, lm);
      grouped = omega (arith, lm, lk);
      small = omega (arith, lm);
      small_groups = omega (arith, lk);
      beyond = λ f h. bit_of_zeros m f;
      empty = λ w z. bit_of_zeros k w;
      used = λ w z. get_or_zeros m w;
    }

-- a frame that has a flag is counted
pub counted : (n : ℕ) (words : List ℕ) (flags : List Bool) (f : ℕ) → out_flags n words ≡ flags → f < length flags → f < n
counted n words flags f e h = subst (λ m. f < m) (ap length (sym e) ∙ length_flags n words) h

pub if_none : {A : Type 0} (o : Option A) (P : Type 0) → P → IfNone o P
if_none None P p = p
if_none (Some x) P p = tt
