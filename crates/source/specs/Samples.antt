-- Small programs: their texts, and their trees.
use Rattle.std.specs.Prelude.{ℕ, true, false, List, [], ◌∷◌, ◌++◌, codes, None, Some}
use Rattle.operators.specs.declared.Unary.TheVariants.{Neg, Not}
use Rattle.operators.specs.declared.Binary.TheVariants.{Add, Sub, Mul, Div, Rem, And, Or, Xor, Shl, Lt, Le}
use Rattle.source.specs.declared.word.InfixSign.TheVariants.{Direct, Greater, AtLeast}
use Rattle.source.specs.Tree.{Name, NameAt, NumberAt, Bind, Drop, Number, Named, Bracket, Prefix, Infix, Fetch, Store, Call, If, Loop, One, More}
use Rattle.source.specs.Tree.{Let, Do, Give, Chain, Before, After, Cells, Defines, Program}

abbrev given : ℕ → Name → NameAt
given at x = record { at = at; name = x }

abbrev counted : ℕ → ℕ → NumberAt
counted at n = record { at = at; number = n }

-- a number, and one with `-` directly before it
abbrev pub literals_text : List ℕ
literals_text = codes "fn main(n) { 5 - -5 }"

abbrev pub literals : Program
literals = Defines (record {
  name = given 3 (codes "main");
  params = ((given 8 (codes "n")) ∷ []);
  results = None;
  body_at = 11;
  body = (Give (One (Infix 15
      (Direct Sub) (Number 13 5) (Prefix 17 Neg (Number 18 5)))));
}) ∷ []

-- the least number
abbrev pub least_text : List ℕ
least_text = codes "fn main(n) { -9223372036854775808 }"

abbrev pub least : Program
least = Defines (record {
  name = given 3 (codes "main");
  params = ((given 8 (codes "n")) ∷ []);
  results = None;
  body_at = 11;
  body = (Give (One (Prefix 13
      Neg (Number 14 9223372036854775808))));
}) ∷ []

-- signs before operands, and brackets
abbrev pub signs_text : List ℕ
signs_text = codes "fn main(n) { -n + ~-(n) - -(5) }"

abbrev pub signs : Program
signs = Defines (record {
  name = given 3 (codes "main");
  params = ((given 8 (codes "n")) ∷ []);
  results = None;
  body_at = 11;
  body = (Give (One (Infix 24
      (Direct Sub) (Infix 16 (Direct Add) (Prefix 13 Neg (Named 14 (codes "n"))) (Prefix 18 Not (Prefix 19 Neg (Bracket (Named 21 (codes "n")))))) (Prefix 26
      Neg (Bracket (Number 28 5))))));
}) ∷ []

-- tighter signs first, and those of one level from left to right
abbrev pub arithmetic_text : List ℕ
arithmetic_text = codes "fn main(n) { n - 2 * n - n << 1 & n ^ n | n }"

abbrev pub arithmetic : Program
arithmetic = Defines (record {
  name = given 3 (codes "main");
  params = ((given 8 (codes "n")) ∷ []);
  results = None;
  body_at = 11;
  body = (Give (One (Infix
      40 (Direct Or) (Infix 36 (Direct Xor) (Infix 32 (Direct And) (Infix 27 (Direct Shl) (Infix 23 (Direct Sub) (Infix 15 (Direct Sub) (Named 13 (codes "n"))
      (Infix 19 (Direct Mul) (Number 17 2) (Named 21 (codes "n")))) (Named 25 (codes "n"))) (Number 30 1)) (Named 34 (codes "n"))) (Named 38 (codes "n")))
      (Named 42 (codes "n")))));
}) ∷ []

-- `>` and `>=` are `<` and `<=` with their operands swapped
abbrev pub swapped_text : List ℕ
swapped_text = codes "fn main(a, b) { (a > b) + (a >= b) + (a < b) + (a <= b) }"

abbrev pub swapped : Program
swapped = Defines (record {
  name = given 3 (codes "main");
  params = ((given 8 (codes "a")) ∷ (given 11 (codes "b")) ∷ []);
  results = None;
  body_at = 14;
  body = (Give (One (Infix 45 (Direct Add) (Infix 35 (Direct Add) (Infix 24 (Direct Add) (Bracket (Infix 19 Greater (Named 17 (codes "a")) (Named 21
      (codes "b")))) (Bracket (Infix 29 AtLeast (Named 27 (codes "a")) (Named 32 (codes "b"))))) (Bracket (Infix 40 (Direct Lt) (Named 38 (codes "a")) (Named
      42 (codes "b"))))) (Bracket (Infix 50 (Direct Le) (Named 48 (codes "a")) (Named 53 (codes "b")))))));
}) ∷ []

-- a store, and a fetch of it
abbrev pub cells_text : List ℕ
cells_text = codes "array A[2]; fn main(n) { A[1] := n + 3; A[1] }"

abbrev pub cells : Program
cells = Cells (given 6 (codes "A")) (counted 8 2) ∷ Defines (record {
  name = given 15 (codes "main");
  params = ((given 20 (codes "n")) ∷ []);
  results =
      None;
  body_at = 23;
  body = (Do (One (Store 25 (codes "A") (Number 27 1) (Infix 35 (Direct Add) (Named 33 (codes "n")) (Number 37 3)))) (Give (One (Fetch
      40 (codes "A") (Number 42 1)))));
}) ∷ []

-- a store gives what is stored
abbrev pub stored_twice_text : List ℕ
stored_twice_text = codes "array A[2]; array B[3]; fn main(n) { A[0] := B[n] := 7 }"

abbrev pub stored_twice : Program
stored_twice = Cells (given 6 (codes "A")) (counted 8 2) ∷ Cells (given 18 (codes "B")) (counted 20 3) ∷ Defines (record {
  name = given 27 (codes "main");
  params = ((given 32 (codes "n")) ∷ []);
  results = None;
  body_at = 35;
  body = (Give (One (Store 37 (codes "A") (Number 39 0) (Store 45 (codes "B") (Named
      47 (codes "n")) (Number 53 7)))));
}) ∷ []

-- a call with two values
abbrev pub pairs_text : List ℕ
pairs_text = codes "fn pair(a, b) -> 2 { b, a } fn main(n) { let x, _ = pair(pair(n, 1)); x }"

abbrev pub pairs : Program
pairs = Defines (record {
  name = given 3 (codes "pair");
  params = ((given 8 (codes "a")) ∷ (given 11 (codes "b")) ∷ []);
  results = Some (counted 17 2);
  body_at = 19;
  body = (Give (More (Named 21 (codes "b")) (One (Named 24 (codes "a")))));
}) ∷ Defines (record {
  name = given 31 (codes "main");
  params =
      ((given 36 (codes "n")) ∷ []);
  results = None;
  body_at = 39;
  body = (Let 41 (Bind (given 45 (codes "x")) ∷ Drop ∷ []) (One (Call 52 false (codes "pair")
      (One (Call 57 false (codes "pair") (More (Named 62 (codes "n")) (One (Number 65 1))))))) (Give (One (Named 70 (codes "x")))));
}) ∷ []

-- a strict call
abbrev pub strict_call_text : List ℕ
strict_call_text = codes "array A[1]; fn f(x, y) { y } fn main(n) { strict f(A[0], n) }"

abbrev pub strict_call : Program
strict_call = Cells (given 6 (codes "A")) (counted 8 1) ∷ Defines (record {
  name = given 15 (codes "f");
  params = ((given 17 (codes "x")) ∷ (given 20 (codes
      "y")) ∷ []);
  results = None;
  body_at = 23;
  body = (Give (One (Named 25 (codes "y"))));
}) ∷ Defines (record {
  name = given 32 (codes "main");
  params =
      ((given 37 (codes "n")) ∷ []);
  results = None;
  body_at = 40;
  body = (Give (One (Call 49 true (codes "f") (More (Fetch 51 (codes "A") (Number 53 0)) (One
      (Named 57 (codes "n")))))));
}) ∷ []

-- a conditional, and a function that calls itself
abbrev pub factorial_text : List ℕ
factorial_text = codes "fn main(n) { if n <= 1 { 1 } else { n * main(n - 1) } }"

abbrev pub factorial : Program
factorial = Defines (record {
  name = given 3 (codes "main");
  params = ((given 8 (codes "n")) ∷ []);
  results = None;
  body_at = 11;
  body = (Give (One (If 13
      (Infix 18 (Direct Le) (Named 16 (codes "n")) (Number 21 1)) (Give (One (Number 25 1))) (Give (One (Infix 38 (Direct Mul) (Named 36 (codes "n")) (Call 40
      false (codes "main") (One (Infix 47 (Direct Sub) (Named 45 (codes "n")) (Number 49 1))))))))));
}) ∷ []

-- a chain of conditionals: the inner one is lowered in the arm
abbrev pub else_if_text : List ℕ
else_if_text = codes "fn main(n) { if n { n } else if n + 1 { 2 } else { n, 3; 4 } }"

abbrev pub else_if : Program
else_if = Defines (record {
  name = given 3 (codes "main");
  params = ((given 8 (codes "n")) ∷ []);
  results = None;
  body_at = 11;
  body = (Give (One (If 13
      (Named 16 (codes "n")) (Give (One (Named 20 (codes "n")))) (Chain (If 29 (Infix 34 (Direct Add) (Named 32 (codes "n")) (Number 36 1)) (Give (One (Number
      40 2))) (Do (More (Named 51 (codes "n")) (One (Number 54 3))) (Give (One (Number 57 4)))))))));
}) ∷ []

-- arms with two values, and outside names in order of first uses
abbrev pub two_arms_text : List ℕ
two_arms_text = codes "fn main(a, b) -> 2 { let c = a; if a { b, a + c } else { let b = c; b, b } }"

abbrev pub two_arms : Program
two_arms = Defines (record {
  name = given 3 (codes "main");
  params = ((given 8 (codes "a")) ∷ (given 11 (codes "b")) ∷ []);
  results = Some (counted 17 2);
  body_at = 19;
  body = (Let 21 (Bind (given 25 (codes "c")) ∷ []) (One (Named 29 (codes "a"))) (Give (One (If 32 (Named 35 (codes "a")) (Give (More (Named
      39 (codes "b")) (One (Infix 44 (Direct Add) (Named 42 (codes "a")) (Named 46 (codes "c")))))) (Let 57 (Bind (given 61 (codes "b")) ∷ []) (One (Named 65
      (codes "c"))) (Give (More (Named 68 (codes "b")) (One (Named 71 (codes "b"))))))))));
}) ∷ []

-- a loop with its test before the body
abbrev pub sum_up_text : List ℕ
sum_up_text = codes "fn main(n) { let i, s = loop 2 (i = 0, s = 0) while i < n { i + 1, s + i }; s }"

abbrev pub sum_up : Program
sum_up = Defines (record {
  name = given 3 (codes "main");
  params = ((given 8 (codes "n")) ∷ []);
  results = None;
  body_at = 11;
  body = (Let 13 (Bind (given
      17 (codes "i")) ∷ Bind (given 20 (codes "s")) ∷ []) (One (Loop 24 (counted 29 2) (More (Number 36 0) (One (Number 43 0))) (Before ((given 32 (codes
      "i")) ∷ (given 39 (codes "s")) ∷ []) (Infix 54 (Direct Lt) (Named 52 (codes "i")) (Named 56 (codes "n"))) (Give (More (Infix 62 (Direct Add) (Named 60
      (codes "i")) (Number 64 1)) (One (Infix 69 (Direct Add) (Named 67 (codes "s")) (Named 71 (codes "i"))))))))) (Give (One (Named 76 (codes "s")))));
}) ∷ []

-- a loop with its test after the body
abbrev pub count_up_text : List ℕ
count_up_text = codes "fn main(n) { loop 2 (i = 0) { i + 1 } while (n > i) }"

abbrev pub count_up : Program
count_up = Defines (record {
  name = given 3 (codes "main");
  params = ((given 8 (codes "n")) ∷ []);
  results = None;
  body_at = 11;
  body = (Give (One (Loop 13
      (counted 18 2) (One (Number 25 0)) (After ((given 21 (codes "i")) ∷ []) (Give (One (Infix 32 (Direct Add) (Named 30 (codes "i")) (Number 34 1)))) (Infix
      47 Greater (Named 45 (codes "n")) (Named 49 (codes "i")))))));
}) ∷ []

-- loops in a first value, in a test, in a body, and after
abbrev pub nested_text : List ℕ
nested_text = codes "fn f(n, m) { loop 3 (i = loop 2 (j = n) { j - 1 } while (j)) while loop 4 (k = i) while k { m } { loop 64 (i " ++ codes
    "= i) { n } while (0) } } fn main(n) { f(n, 2); loop 2 (i = n) while i { i - 1 } }"

abbrev pub nested : Program
nested = Defines (record {
  name = given 3 (codes "f");
  params = ((given 5 (codes "n")) ∷ (given 8 (codes "m")) ∷ []);
  results = None;
  body_at = 11;
  body =
      (Give (One (Loop 13 (counted 18 3) (One (Loop 25 (counted 30 2) (One (Named 37 (codes "n"))) (After ((given 33 (codes "j")) ∷ []) (Give (One (Infix 44
      (Direct Sub) (Named 42 (codes "j")) (Number 46 1)))) (Named 57 (codes "j"))))) (Before ((given 21 (codes "i")) ∷ []) (Loop 67 (counted 72 4) (One (Named
      79 (codes "i"))) (Before ((given 75 (codes "k")) ∷ []) (Named 88 (codes "k")) (Give (One (Named 92 (codes "m")))))) (Give (One (Loop 98 (counted 103 64)
      (One (Named 111 (codes "i"))) (After ((given 107 (codes "i")) ∷ []) (Give (One (Named 116 (codes "n")))) (Number 127 0)))))))));
}) ∷ Defines (record {
  name = given 137 (codes "main");
  params = ((given 142 (codes "n")) ∷ []);
  results = None;
  body_at = 145;
  body = (Do (One (Call 147 false (codes "f")
      (More (Named 149 (codes "n")) (One (Number 152 2))))) (Give (One (Loop 156 (counted 161 2) (One (Named 168 (codes "n"))) (Before ((given 164 (codes
      "i")) ∷ []) (Named 177 (codes "i")) (Give (One (Infix 183 (Direct Sub) (Named 181 (codes "i")) (Number 185 1)))))))));
}) ∷ []

-- a local name that hides another
abbrev pub hidden_text : List ℕ
hidden_text = codes "fn main(n) { let n = n + 1; let _, n, _ = 1, n, 2; n }"

abbrev pub hidden : Program
hidden = Defines (record {
  name = given 3 (codes "main");
  params = ((given 8 (codes "n")) ∷ []);
  results = None;
  body_at = 11;
  body = (Let 13 (Bind (given
      17 (codes "n")) ∷ []) (One (Infix 23 (Direct Add) (Named 21 (codes "n")) (Number 25 1))) (Let 28 (Drop ∷ Bind (given 35 (codes "n")) ∷ Drop ∷ []) (More
      (Number 42 1) (More (Named 45 (codes "n")) (One (Number 48 2)))) (Give (One (Named 51 (codes "n"))))));
}) ∷ []

-- one source used twice, and a parameter as a result
abbrev pub shared_text : List ℕ
shared_text = codes "fn main(n) -> 3 { let a = n; a, a, n }"

abbrev pub shared : Program
shared = Defines (record {
  name = given 3 (codes "main");
  params = ((given 8 (codes "n")) ∷ []);
  results = Some (counted 14 3);
  body_at = 16;
  body = (Let 18
      (Bind (given 22 (codes "a")) ∷ []) (One (Named 26 (codes "n"))) (Give (More (Named 29 (codes "a")) (More (Named 32 (codes "a")) (One (Named 35 (codes
      "n")))))));
}) ∷ []

-- a store outside of the array
abbrev pub misses_text : List ℕ
misses_text = codes "array A[2]; fn main(n) { A[n] := 1 }"

abbrev pub misses : Program
misses = Cells (given 6 (codes "A")) (counted 8 2) ∷ Defines (record {
  name = given 15 (codes "main");
  params = ((given 20 (codes "n")) ∷ []);
  results =
      None;
  body_at = 23;
  body = (Give (One (Store 25 (codes "A") (Named 27 (codes "n")) (Number 33 1))));
}) ∷ []

-- two faults under `>`
abbrev pub two_faults_text : List ℕ
two_faults_text = codes "fn main(n) { n / 0 > n % 0 }"

abbrev pub two_faults : Program
two_faults = Defines (record {
  name = given 3 (codes "main");
  params = ((given 8 (codes "n")) ∷ []);
  results = None;
  body_at = 11;
  body = (Give (One (Infix
      19 Greater (Infix 15 (Direct Div) (Named 13 (codes "n")) (Number 17 0)) (Infix 23 (Direct Rem) (Named 21 (codes "n")) (Number 25 0)))));
}) ∷ []
