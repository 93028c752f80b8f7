-- The order of integers, as a test.
use Rattle.std.proofs.Common.{◌≡◌, arith, false, le-ltb, lt-ltb, ltb-true, negsuc, pos, refl, true, ℤ}
use Rattle.std.specs.Prelude.{int_lt}

pub int_lt_trans : (a b c : ℤ) → int_lt a b ≡ true → int_lt b c ≡ true → int_lt a c ≡ true
int_lt_trans (pos a) (pos b) (pos c) p q = lt-ltb a c (omega (arith, ltb-true a b p, ltb-true b c q))
int_lt_trans (pos a) (pos b) (negsuc c) p q = absurd cc
int_lt_trans (pos a) (negsuc b) c p q = absurd cc
int_lt_trans (negsuc a) (pos b) (pos c) p q = refl
int_lt_trans (negsuc a) (pos b) (negsuc c) p q = absurd cc
int_lt_trans (negsuc a) (negsuc b) (pos c) p q = refl
int_lt_trans (negsuc a) (negsuc b) (negsuc c) p q = lt-ltb c a (omega (arith, ltb-true b a p, ltb-true c b q))

pub int_lt_itself : (z : ℤ) → int_lt z z ≡ false
int_lt_itself (pos a) = le-ltb a a (omega arith)
int_lt_itself (negsuc a) = le-ltb a a (omega arith)
