-- THE TABLE with hidden names: each number stands for the name that it stood for before, and no name is twice there.
use Rattle.std.specs.Prelude.{◌≡◌, refl, ℕ, zero, suc, ◌+◌, ◌-◌, ◌<◌, ◌≤◌, ◌^◌, nat_lt, max, Bool, true, false, List, [], ◌∷◌, ◌++◌, length, map, decimal, All}
use Rattle.std.proofs.Common.{◌∙◌, ap, ap₂, sym, subst, arith, length-append}
use Rattle.std.proofs.lemmas.Bool.{ltb-true, ltb-false}
use Rattle.std.proofs.lemmas.Fmt.{decimal_injective}
use Rattle.std.proofs.lemmas.List.{append_cancel_left, get_or_append_left, get_or-append_right}
use Rattle.std.proofs.lemmas.List.Elements.{All-nil, All-cons, All-head, All-tail}
use Rattle.source.specs.declared.word.Word.{Word}
use Rattle.source.specs.Tree.{Name}
use Rattle.source.specs.Tokens.{begins}
use Rattle.source.specs.Words.{name_of, named, numbers_of}
use Rattle.surface.specs.Making.{hidden}
use Rattle.desugar.specs.Renamed.{core_renamed}
use Rattle.desugar.specs.NumbersDesugar.{name_with}
use Rattle.desugar.specs.Tables.{hidden_names, with_hidden, reached, all_reached, AreBelow, AllAreReached, IsDistinct, NoneIsHidden, FreeIsNotHidden, HiddenNamesAreNew}
use Rattle.desugar.proofs.Numbers.{within, beyond, core_is, none_begins, begins_itself}

-- HOW LONG IT IS
pub weaker : {X : Type 0} (P Q : X → Type 0) (xs : List X) → ((x : X) → P x → Q x) → All P xs → All Q xs
weaker P Q [] f h = All-nil Q
weaker P Q (x ∷ xs) f h = All-cons Q x xs (f x (All-head P x xs h)) (weaker P Q xs f (All-tail P x xs h))

reached_more : (n : ℕ) (ks : List ℕ) → n ≤ reached n ks
reached_more n [] = omega arith
reached_more n (k ∷ ks) = omega (arith, reached_more (max n (suc k)) ks)

reached_below : (n : ℕ) (ks : List ℕ) → All (λ k. k < reached n ks) ks
reached_below n [] = All-nil (λ k. k < n)
reached_below n (k ∷ ks) = All-cons (λ j. j < reached (max n (suc k)) ks) k ks (omega (arith, reached_more (max n (suc k)) ks)) (reached_below (max n (suc k)) ks)

all_more : (n : ℕ) (ws : List (Word ℕ)) → n ≤ all_reached n ws
all_more n [] = omega arith
all_more n (w ∷ ws) = omega (arith, reached_more n (numbers_of w), all_more (reached n (numbers_of w)) ws)

all_below : (n : ℕ) (ws : List (Word ℕ)) → AreBelow (all_reached n ws) ws
all_below n [] = All-nil (λ w. All (λ k. k < n) (numbers_of w))
all_below n (w ∷ ws) =
    let m : ℕ = reached n (numbers_of w) in
    let end : ℕ = all_reached m ws in
    All-cons (λ v. All (λ k. k < end) (numbers_of v)) w ws
    (weaker (λ k. k < m) (λ k. k < end) (numbers_of w) (λ k h. omega (arith, h, all_more m ws)) (reached_below n (numbers_of w)))
    (all_below m ws)

pub all_are_reached : AllAreReached
all_are_reached n ws = (all_more n ws, all_below n ws)

-- HIDDEN NAMES
pub hidden_length : (prefix : Name) (count : ℕ) → length (hidden_names prefix count) ≡ count
hidden_length prefix zero = refl
hidden_length prefix (suc n) = omega (arith, length-append (hidden_names prefix n) (hidden prefix n ∷ []), hidden_length prefix n)

hidden_at : (prefix : Name) (count i : ℕ) → i < count → name_of (hidden_names prefix count) i ≡ hidden prefix i
hidden_at prefix zero i h = absurd (omega (arith, h))
hidden_at prefix (suc n) i h = go (nat_lt i n) refl (hidden_at prefix n i)
  where
    go : (b : Bool) → nat_lt i n ≡ b → (i < n → name_of (hidden_names prefix n) i ≡ hidden prefix i) → name_of (hidden_names prefix n ++ hidden prefix n ∷ []) i ≡ hidden prefix i
    go true e before =
        let l : i < n = ltb-true i n e in
        get_or_append_left (hidden_names prefix n) (hidden prefix n ∷ []) [] i (omega (arith, l, hidden_length prefix n)) ∙ before l
    go false e before =
        let l : n ≤ i = ltb-false i n e in
        let same : i ≡ n = omega (arith, l, h) in
        let first : i - n ≡ 0 = omega (arith, same) in
        get_or-append_right (hidden_names prefix n) (hidden prefix n ∷ []) n i [] (hidden_length prefix n) l
        ∙ ap (λ (k : ℕ). name_of (hidden prefix n ∷ []) k) first ∙ ap (λ (k : ℕ). hidden prefix k) (sym same)

hidden_differ : (prefix : Name) (a b : ℕ) → a + 1 < 2 ^ 64 → b + 1 < 2 ^ 64 → hidden prefix a ≡ hidden prefix b → a ≡ b
hidden_differ prefix a b h g e =
    let same : a + 1 ≡ b + 1 = decimal_injective (a + 1) (b + 1) h g (append_cancel_left prefix (decimal (a + 1)) (decimal (b + 1)) e) in omega (arith, same)

module _ (names : List Name) (prefix : Name) (count : ℕ) where
  pub table_length : length (with_hidden names prefix count) ≡ length names + count
  table_length = omega (arith, length-append names (hidden_names prefix count), hidden_length prefix count)

  stands_for : (n : ℕ) → n < length names + count → name_of (with_hidden names prefix count) n ≡ name_with names prefix n
  stands_for n h = go (nat_lt n (length names)) refl
    where
      go : (b : Bool) → nat_lt n (length names) ≡ b → name_of (with_hidden names prefix count) n ≡ name_with names prefix n
      go true e =
          let l : n < length names = ltb-true n (length names) e in
          get_or_append_left names (hidden_names prefix count) [] n l ∙ sym (within names prefix n l)
      go false e =
          let l : length names ≤ n = ltb-false n (length names) e in
          get_or-append_right names (hidden_names prefix count) (length names) n [] refl l
          ∙ hidden_at prefix count (n - length names) (omega (arith, h, l)) ∙ sym (beyond names prefix n l)

  module _ (d : IsDistinct names) (small : count < 2 ^ 64) (other : NoneIsHidden prefix names) where
    one_number : (i j : ℕ) → i < length names + count → j < length names + count → name_with names prefix i ≡ name_with names prefix j → i ≡ j
    one_number i j h g e = go (nat_lt i (length names)) (nat_lt j (length names)) refl refl
      where
        go : (a b : Bool) → nat_lt i (length names) ≡ a → nat_lt j (length names) ≡ b → i ≡ j
        go true true p q =
            let k : i < length names = ltb-true i (length names) p in
            let l : j < length names = ltb-true j (length names) q in
            d i j k l (sym (within names prefix i k) ∙ e ∙ within names prefix j l)
        go true false p q =
            let k : i < length names = ltb-true i (length names) p in
            let l : length names ≤ j = ltb-false j (length names) q in
            absurd (other i (j - length names) k (sym (within names prefix i k) ∙ e ∙ beyond names prefix j l))
        go false true p q =
            let k : length names ≤ i = ltb-false i (length names) p in
            let l : j < length names = ltb-true j (length names) q in
            absurd (other j (i - length names) l (sym (within names prefix j l) ∙ sym e ∙ beyond names prefix i k))
        go false false p q =
            let l : length names ≤ i = ltb-false i (length names) p in
            let m : length names ≤ j = ltb-false j (length names) q in
            let same : i - length names ≡ j - length names = hidden_differ prefix (i - length names) (j - length names) (omega (arith, h, l, small))
            (omega (arith, g, m, small)) (sym (beyond names prefix i l) ∙ e ∙ beyond names prefix j m) in
            omega (arith, l, m, same)

    distinct : IsDistinct (with_hidden names prefix count)
    distinct i j h g e =
        let k : i < length names + count = omega (arith, h, table_length) in
        let l : j < length names + count = omega (arith, g, table_length) in
        one_number i j k l (sym (stands_for i k) ∙ e ∙ stands_for j l)

  abbrev AreKnown : List (Word ℕ) → Type 0
  AreKnown ws = AreBelow (length (with_hidden names prefix count)) ws

  words_named : (ws : List (Word ℕ)) → AreKnown ws → map (named (with_hidden names prefix count)) ws ≡ map (core_renamed (name_with names prefix)) ws
  words_named [] h = refl
  words_named (w ∷ ws) h =
      let Known : Word ℕ → Type 0 = λ v. All (λ k. k < length (with_hidden names prefix count)) (numbers_of v) in
      ap₂ (λ (v : Word Name) (vs : List (Word Name)). v ∷ vs)
      (core_is (with_hidden names prefix count) (name_with names prefix) (λ n l. stands_for n (omega (arith, l, table_length))) w (All-head Known w ws h))
      (words_named ws (All-tail Known w ws h))

pub hidden_names_are_new : HiddenNamesAreNew
hidden_names_are_new names prefix count ws q d small other below e =
    let known : AreBelow (length (with_hidden names prefix count)) ws = subst (λ (n : ℕ). AreBelow n ws) (sym (table_length names prefix count)) below in
    record {
      words = words_named names prefix count ws known ∙ e;
      known = known;
      distinct = distinct names prefix count d small other;
    }

pub free_is_not_hidden : FreeIsNotHidden
free_is_not_hidden names prefix free i n h e =
    let shown : begins prefix (name_of names i) ≡ true = ap (λ (x : Name). begins prefix x) e ∙ begins_itself prefix (decimal (n + 1)) in
    let hides : begins prefix (name_of names i) ≡ false = none_begins prefix names i h free in
    cc
