-- The name of an instance is new.
use Rattle.std.specs.Prelude.{◌≡◌, ℕ, ◌+◌, ◌^◌, ◌<◌, ◌⊎◌, ◌&&◌, ◌||◌, not, nat_le, Bool, true, false, List, [], ◌∷◌, ◌++◌, length, decimal}
use Rattle.std.specs.Prelude.{refl, ⊤, if◌then◌else◌}
use Rattle.std.specs.List.{list_any}
use Rattle.std.specs.Str.Parse.{digits_value}
use Rattle.std.proofs.Common.{sym, ◌∙◌, ap, arith, inl, inr}
use Rattle.std.proofs.lemmas.Fmt.{decimal_is_IsNumeral}
use Rattle.lemmas.proofs.Bools.{first_of_and, second_of_and, equal_itself}
use Rattle.semantics.specs.Graph.{same_name}
use Rattle.semantics.proofs.Lines.{same_name_is}
use Rattle.source.specs.Tree.{Name}
use Rattle.source.specs.Tokens.{begins, has_double}
use Rattle.source.specs.Outside.{is_in}
use Rattle.surface.specs.Instances.{Wanted, hidden_prefix, joined, is_free, numbered, name_for, named_instances}
use Rattle.law_surface.specs.InstancesAreNew.{NotHidden, AreNew, InstancesAreNew}
use Rattle.law_surface.proofs.HiddenNames.{cancel, begins_itself, digits_low, other_is_shown}
use Rattle.law_surface.proofs.PrefixIsFree.{AllLow, prefix_is_free}

-- TEXTS that begin alike
letter : (p d : List ℕ) → (p ++ 102 ∷ []) ++ d ≡ p ++ 102 ∷ d
letter [] d = refl
letter (c ∷ p) d = ap (λ (xs : List ℕ). c ∷ xs) (letter p d)

numbered_is : (prefix : Name) (n : ℕ) → numbered prefix n ≡ prefix ++ 102 ∷ decimal n
numbered_is prefix n = letter prefix (decimal n)

numbered_begins : (prefix : Name) (n : ℕ) → begins prefix (numbered prefix n) ≡ true
numbered_begins prefix n = ap (λ (x : Name). begins prefix x) (numbered_is prefix n) ∙ begins_itself prefix (102 ∷ decimal n)

one_number : (prefix : Name) (k n : ℕ) → k < 2 ^ 64 → n < 2 ^ 64 → numbered prefix k ≡ numbered prefix n → k ≡ n
one_number prefix k n h g e =
    let both : 102 ∷ decimal k ≡ 102 ∷ decimal n = cancel prefix (102 ∷ decimal k) (102 ∷ decimal n) (sym (numbered_is prefix k) ∙ e ∙ numbered_is prefix n) in
    let digits : decimal k ≡ decimal n = cc in
    sym (decimal_is_IsNumeral k h).1 ∙ ap (λ (ds : List ℕ). digits_value 10 ds) digits ∙ (decimal_is_IsNumeral n g).1

-- `f` is no digit.
no_letter : (ds es : List ℕ) → AllLow ds → 102 ∷ es ≡ ds → ⊥
no_letter [] es h e = cc
no_letter (d ∷ ds) es h e = let same : 102 ≡ d = cc in omega (arith, same, h.0)

number_not_hidden : (prefix : Name) (n : ℕ) → NotHidden prefix (numbered prefix n)
number_not_hidden prefix n k e =
    no_letter (decimal (k + 1)) (decimal n) (digits_low (k + 1)) (cancel prefix (102 ∷ decimal n) (decimal (k + 1)) (sym (numbered_is prefix n) ∙ e))

-- NAMES SO FAR: those that do not begin as the hidden ones, and the numbered ones before
abbrev Old : Name → ℕ → Name → Type 0
Old prefix n x = (begins prefix x ≡ false) ⊎ ((k : ℕ) × (k < n) × (x ≡ numbered prefix k))

abbrev AllOld : Name → ℕ → List Name → Type 0
AllOld prefix n [] = ⊤
AllOld prefix n (x ∷ xs) = Old prefix n x × AllOld prefix n xs

still_old : (prefix : Name) (n : ℕ) (x : Name) → Old prefix n x → Old prefix (n + 1) x
still_old prefix n x (inl h) = inl h
still_old prefix n x (inr h) = inr (h.0, omega (arith, h.1), h.2)

all_still : (prefix : Name) (n : ℕ) (xs : List Name) → AllOld prefix n xs → AllOld prefix (n + 1) xs
all_still prefix n [] h = tt
all_still prefix n (x ∷ xs) h = (still_old prefix n x h.0, all_still prefix n xs h.1)

not_this : (prefix : Name) (n : ℕ) (x : Name) → n < 2 ^ 64 → Old prefix n x → same_name (numbered prefix n) x ≡ true → ⊥
not_this prefix n x h (inl g) e =
    let so : begins prefix x ≡ true = ap (λ (y : Name). begins prefix y) (sym (same_name_is (numbered prefix n) x e)) ∙ numbered_begins prefix n in cc
not_this prefix n x h (inr g) e =
    let same : n ≡ g.0 = one_number prefix n g.0 h (omega (arith, h, g.1)) (same_name_is (numbered prefix n) x e ∙ g.2) in omega (arith, same, g.1)

number_is_new : (prefix : Name) (n : ℕ) (xs : List Name) → n < 2 ^ 64 → AllOld prefix n xs → is_in (numbered prefix n) xs ≡ false
number_is_new prefix n [] h g = refl
number_is_new prefix n (x ∷ xs) h g = go (same_name (numbered prefix n) x) refl (number_is_new prefix n xs h g.1)
  where
    go : (b : Bool) → same_name (numbered prefix n) x ≡ b → is_in (numbered prefix n) xs ≡ false → (b || is_in (numbered prefix n) xs) ≡ false
    go true e rest = absurd (not_this prefix n x h g.0 e)
    go false e rest = rest

text_is_old : (prefix : Name) (n : ℕ) (xs : List Name) → list_any (begins prefix) xs ≡ false → AllOld prefix n xs
text_is_old prefix n [] h = tt
text_is_old prefix n (x ∷ xs) h = go (begins prefix x) refl h (λ e. text_is_old prefix n xs e)
  where
    go : (b : Bool) → begins prefix x ≡ b → (b || list_any (begins prefix) xs) ≡ false → (list_any (begins prefix) xs ≡ false → AllOld prefix n xs) → Old prefix n
        x × AllOld prefix n xs
    go true e g later = cc
    go false e g later = (inl e, later g)

-- ONE NAME, and all
not_true : (b : Bool) → not b ≡ true → b ≡ false
not_true true h = cc
not_true false h = refl

pub record IsNew (prefix : Name) (taken : List Name) (n : ℕ) (x : Name) : Type 0 where
  pub new : is_in x taken ≡ false
  pub shown : NotHidden prefix x
  pub old : Old prefix (n + 1) x

name_is_new : (prefix : Name) (taken : List Name) (n : ℕ) (w : Wanted) → n < 2 ^ 64 → AllOld prefix n taken → IsNew prefix taken n (name_for prefix taken n w)
name_is_new prefix taken n w h g = go (is_free prefix taken (joined w.function w.arrays)) refl
  where
    go : (b : Bool) → is_free prefix taken (joined w.function w.arrays) ≡ b → IsNew prefix taken n (if b then joined w.function w.arrays else numbered prefix n)
    go true e =
        let x : Name = joined w.function w.arrays in
        let front : (nat_le (length x) 24 && not (has_double x) && not (begins prefix x)) ≡ true = first_of_and (nat_le (length x) 24 && not (has_double x) &&
        not (begins prefix x)) (not (is_in x taken)) e in
        let other : begins prefix x ≡ false = not_true (begins prefix x) (second_of_and (nat_le (length x) 24 && not (has_double x)) (not (begins prefix x))
        front) in
        record {
          new = not_true (is_in x taken) (second_of_and (nat_le (length x) 24 && not (has_double x) && not (begins prefix x)) (not (is_in x taken)) e);
          shown = other_is_shown prefix x other;
          old = inl other;
        }
    go false e = record {
      new = number_is_new prefix n taken h g;
      shown = number_not_hidden prefix n;
      old = inr (n, omega arith, refl);
    }

all_new : (prefix : Name) (taken : List Name) (n : ℕ) (ws : List Wanted) → n + length ws < 2 ^ 64 → AllOld prefix n taken → AreNew prefix taken (named_instances
    prefix taken n ws)
all_new prefix taken n [] h g = tt
all_new prefix taken n (w ∷ ws) h g =
    let x : Name = name_for prefix taken n w in
    let one : IsNew prefix taken n x = name_is_new prefix taken n w (omega (arith, h)) g in
    (one.new, one.shown, all_new prefix (x ∷ taken) (n + 1) ws (omega (arith, h)) (one.old, all_still prefix n taken g))

pub instances_are_new : InstancesAreNew
instances_are_new names ws h few =
    let prefix : Name = hidden_prefix names in
    all_new prefix names 1 ws (omega (arith, few)) (text_is_old prefix 1 names (prefix_is_free names h))
