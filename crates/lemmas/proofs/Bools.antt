-- What a Bool that is made of others says of them, and what is chosen by one.
use Rattle.std.proofs.Common.{◌&&◌, ◌+◌, ◌==◌, ◌||◌, ◌∙◌, ◌≡◌, ◌≢◌, ◌⊎◌, Bool, ap, arith, cond, eq-eqb, eqb-true, false, if◌then◌else◌, inl, inr}
use Rattle.std.proofs.Common.{lt-ltb, nat_lt, not, refl, suc, sym, true, true≢false, zero, zero-add, ℕ}
use Rattle.std.proofs.lemmas.Bool.{eqb-false}

-- AND, OR, NOT
pub first_of_and : (x y : Bool) → (x && y) ≡ true → x ≡ true
first_of_and true y e = refl
first_of_and false y e = e

pub second_of_and : (x y : Bool) → (x && y) ≡ true → y ≡ true
second_of_and true y e = e
second_of_and false y e = absurd (true≢false (sym e))

pub and_true : (x : Bool) → (x && true) ≡ x
and_true true = refl
and_true false = refl

pub and_false : (x : Bool) → (x && false) ≡ false
and_false true = refl
and_false false = refl

pub or_true : (x : Bool) → (x || true) ≡ true
or_true true = refl
or_true false = refl

pub not_not : (x : Bool) → not (not x) ≡ x
not_not true = refl
not_not false = refl

-- CHOICES
pub if_parts : (x y : Bool) → (if x then y else false) ≡ true → (x ≡ true) × (y ≡ true)
if_parts true y e = (refl, e)
if_parts false y e = cc

pub cond_cases : {A : Type 0} (b : Bool) (x y z : A) → cond b x y ≡ z → ((b ≡ true) × (x ≡ z)) ⊎ ((b ≡ false) × (y ≡ z))
cond_cases true x y z e = inl (refl, e)
cond_cases false x y z e = inr (refl, e)

pub zero_if : (b : Bool) (n : ℕ) → n ≡ 0 → (if b then n else 0) ≡ 0
zero_if true n e = e
zero_if false n e = refl

-- EQUAL AND POSITIVE NUMBERS
pub equal_itself : (n : ℕ) → (n == n) ≡ true
equal_itself n = eq-eqb n n refl

-- what holds where they are equal, and where they are not, holds by their test
pub by_equality : (P : Type 0) (i e : ℕ) → (i ≡ e → P) → (i ≢ e → P) → (b : Bool) → (i == e) ≡ b → P
by_equality P i e same other true is = same (eqb-true i e is)
by_equality P i e same other false is = other (eqb-false i e is)

-- a sum is positive where one of the two is
pub sum_is_positive : (a b : ℕ) (x y : Bool) → x ≡ nat_lt 0 a → y ≡ nat_lt 0 b → (if x then true else y) ≡ nat_lt 0 (a + b)
sum_is_positive zero b x y e f = ap (λ u. if u then true else y) e ∙ f ∙ ap (nat_lt 0) (sym (zero-add b))
sum_is_positive (suc a) b x y e f = ap (λ u. if u then true else y) (e ∙ lt-ltb 0 (suc a) (omega arith)) ∙ sym (lt-ltb 0 (suc a + b) (omega arith))
