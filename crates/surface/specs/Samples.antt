-- Small programs with derived forms: their texts, and their trees.
use Rattle.std.specs.Prelude.{ℕ, false, List, [], ◌∷◌, codes, None, Some}
use Rattle.operators.specs.declared.Unary.TheVariants.{Neg}
use Rattle.operators.specs.declared.Binary.TheVariants.{Add, Sub, Mul, Div, Eq, Lt}
use Rattle.source.specs.declared.word.InfixSign.TheVariants.{Direct, Greater}
use Rattle.source.specs.Tree.{Name, NameAt, Bind}
use Rattle.surface.specs.Tree.{Written, Number, Named, Bracket, Prefix, Infix, And, Or, Not, Fetch, Store, Call, If, Loop, For}
use Rattle.surface.specs.Tree.{One, More, Let, Do, When, Give, Chain, Last, Else, Before, After, Nothing, With}
use Rattle.surface.specs.Tree.{Param, Cells, Const, Defines, Program}

abbrev given : ℕ → Name → NameAt
given at x = record { at = at; name = x }

abbrev param : ℕ → Name → ℕ → Param
param at x rank = record { name = given at x; rank = rank }

-- constants, of numbers and of constants before
abbrev pub constants_text : List ℕ
constants_text = codes "const N = 3; const M = N * -N; fn main(n) { n + M - N }"

abbrev pub constants : Program
constants = Const (given 6 (codes "N")) (Number 10 3) ∷ Const (given 19 (codes "M")) (Infix 25 (Direct Mul) (Named 23 (codes "N")) (Prefix 27 Neg (Named 28 (codes "N")))) ∷ Defines (record { name = (given 34 (codes "main")); params = (param 39 (codes "n") 0 ∷ []); results = None; body_at = 42; body = (Give (One (Infix 50 (Direct Sub) (Infix 46 (Direct Add) (Named 44 (codes "n")) (Named 48 (codes "M"))) (Named 52 (codes "N"))))) }) ∷ []

-- a `for` gives its counter
abbrev pub counting_text : List ℕ
counting_text = codes "fn main(n) { for i in 0..n { i * 2 } }"

abbrev pub counting : Program
counting = Defines (record { name = (given 3 (codes "main")); params = (param 8 (codes "n") 0 ∷ []); results = None; body_at = 11; body = (Give (One (For 13 None (given 17 (codes "i")) (Number 22 0) (Named 25 (codes "n")) Nothing (Give (One (Infix 31 (Direct Mul) (Named 29 (codes "i")) (Number 33 2))))))) }) ∷ []

-- a `for` gives what it carries
abbrev pub carrying_text : List ℕ
carrying_text = codes "fn main(a) -> 2 { for 8 i in a..a + 9 with s = 0, t = a { s + i, t - s } }"

abbrev pub carrying : Program
carrying = Defines (record { name = (given 3 (codes "main")); params = (param 8 (codes "a") 0 ∷ []); results = (Some (Written 14 2)); body_at = 16; body = (Give (One (For 18 (Some (Written 22 8)) (given 24 (codes "i")) (Named 29 (codes "a")) (Infix 34 (Direct Add) (Named 32 (codes "a")) (Number 36 9)) (With ((given 43 (codes "s")) ∷ (given 50 (codes "t")) ∷ []) (More (Number 47 0) (One (Named 54 (codes "a"))))) (Give (More (Infix 60 (Direct Add) (Named 58 (codes "s")) (Named 62 (codes "i"))) (One (Infix 67 (Direct Sub) (Named 65 (codes "t")) (Named 69 (codes "s"))))))))) }) ∷ []

-- the counter hides the name of the end
abbrev pub counter_hides_text : List ℕ
counter_hides_text = codes "fn main(n) { for n in 2..n { n; n } }"

abbrev pub counter_hides : Program
counter_hides = Defines (record { name = (given 3 (codes "main")); params = (param 8 (codes "n") 0 ∷ []); results = None; body_at = 11; body = (Give (One (For 13 None (given 17 (codes "n")) (Number 22 2) (Named 25 (codes "n")) Nothing (Do (One (Named 29 (codes "n"))) (Give (One (Named 32 (codes "n")))))))) }) ∷ []

-- the second loop is in the first one's turn
abbrev pub nested_for_text : List ℕ
nested_for_text = codes "fn main(n) { for i in 0..n { for j in i..7 with s = i { s + j } } }"

abbrev pub nested_for : Program
nested_for = Defines (record { name = (given 3 (codes "main")); params = (param 8 (codes "n") 0 ∷ []); results = None; body_at = 11; body = (Give (One (For 13 None (given 17 (codes "i")) (Number 22 0) (Named 25 (codes "n")) Nothing (Give (One (For 29 None (given 33 (codes "j")) (Named 38 (codes "i")) (Number 41 7) (With ((given 48 (codes "s")) ∷ []) (One (Named 52 (codes "i")))) (Give (One (Infix 58 (Direct Add) (Named 56 (codes "s")) (Named 60 (codes "j"))))))))))) }) ∷ []

-- `and` does not ask for its right operand where the left one is not true
abbrev pub both_text : List ℕ
both_text = codes "fn main(a, b) { a and b and a < b }"

abbrev pub both : Program
both = Defines (record { name = (given 3 (codes "main")); params = (param 8 (codes "a") 0 ∷ param 11 (codes "b") 0 ∷ []); results = None; body_at = 14; body = (Give (One (And 24 (And 18 (Named 16 (codes "a")) (Named 22 (codes "b"))) (Infix 30 (Direct Lt) (Named 28 (codes "a")) (Named 32 (codes "b")))))) }) ∷ []

-- `or` keeps the fault of its left operand
abbrev pub either_text : List ℕ
either_text = codes "fn main(a, b) { a / b or not b or 5 }"

abbrev pub either : Program
either = Defines (record { name = (given 3 (codes "main")); params = (param 8 (codes "a") 0 ∷ param 11 (codes "b") 0 ∷ []); results = None; body_at = 14; body = (Give (One (Or 31 (Or 22 (Infix 18 (Direct Div) (Named 16 (codes "a")) (Named 20 (codes "b"))) (Not 25 (Named 29 (codes "b")))) (Number 34 5)))) }) ∷ []

-- what the right operand needs is in the arm
abbrev pub lets_inside_text : List ℕ
lets_inside_text = codes "fn main(a, b) { a and (b * b or a) }"

abbrev pub lets_inside : Program
lets_inside = Defines (record { name = (given 3 (codes "main")); params = (param 8 (codes "a") 0 ∷ param 11 (codes "b") 0 ∷ []); results = None; body_at = 14; body = (Give (One (And 18 (Named 16 (codes "a")) (Bracket (Or 29 (Infix 25 (Direct Mul) (Named 23 (codes "b")) (Named 27 (codes "b"))) (Named 32 (codes "a"))))))) }) ∷ []

-- of a loop's test only the truth is asked
abbrev pub tests_text : List ℕ
tests_text = codes "fn main(n) { loop 2 (i = n) while i > 1 and (i < 90 and not i == 7) { i - 1 } }"

abbrev pub tests : Program
tests = Defines (record { name = (given 3 (codes "main")); params = (param 8 (codes "n") 0 ∷ []); results = None; body_at = 11; body = (Give (One (Loop 13 (Written 18 2) (One (Named 25 (codes "n"))) (Before ((given 21 (codes "i")) ∷ []) (And 40 (Infix 36 Greater (Named 34 (codes "i")) (Number 38 1)) (Bracket (And 52 (Infix 47 (Direct Lt) (Named 45 (codes "i")) (Number 49 90)) (Not 56 (Infix 62 (Direct Eq) (Named 60 (codes "i")) (Number 65 7)))))) (Give (One (Infix 72 (Direct Sub) (Named 70 (codes "i")) (Number 74 1)))))))) }) ∷ []

-- a test that needs names
abbrev pub tests_under_text : List ℕ
tests_under_text = codes "fn main(n) { loop 2 (i = n) { i - 1 } while (i * i or n) }"

abbrev pub tests_under : Program
tests_under = Defines (record { name = (given 3 (codes "main")); params = (param 8 (codes "n") 0 ∷ []); results = None; body_at = 11; body = (Give (One (Loop 13 (Written 18 2) (One (Named 25 (codes "n"))) (After ((given 21 (codes "i")) ∷ []) (Give (One (Infix 32 (Direct Sub) (Named 30 (codes "i")) (Number 34 1)))) (Or 51 (Infix 47 (Direct Mul) (Named 45 (codes "i")) (Named 49 (codes "i"))) (Named 54 (codes "n"))))))) }) ∷ []

-- an `if` after `else` that needs names
abbrev pub chains_text : List ℕ
chains_text = codes "fn main(a, b) { if a { 1 } else if a * b or b { 2 } else { 3 } }"

abbrev pub chains : Program
chains = Defines (record { name = (given 3 (codes "main")); params = (param 8 (codes "a") 0 ∷ param 11 (codes "b") 0 ∷ []); results = None; body_at = 14; body = (Give (One (If 16 (Named 19 (codes "a")) (Give (One (Number 23 1))) (Chain (If 32 (Or 41 (Infix 37 (Direct Mul) (Named 35 (codes "a")) (Named 39 (codes "b"))) (Named 44 (codes "b"))) (Give (One (Number 48 2))) (Give (One (Number 59 3)))))))) }) ∷ []

-- statements without a last `else`
abbrev pub whens_text : List ℕ
whens_text = codes "array A[4]; fn main(n) { if n > 2 { A[0] := 1 }; if n { let x = n; A[x] := n } else if n < 7 { A[1] := 2, 3 }; 0 }"

abbrev pub whens : Program
whens = Cells (given 6 (codes "A")) (One (Number 8 4)) ∷ Defines (record { name = (given 15 (codes "main")); params = (param 20 (codes "n") 0 ∷ []); results = None; body_at = 23; body = (When (Last 25 (Infix 30 Greater (Named 28 (codes "n")) (Number 32 2)) (Give (One (Store 36 (codes "A") (One (Number 38 0)) (Number 44 1))))) (When (Else 49 (Named 52 (codes "n")) (Let 56 (Bind (given 60 (codes "x")) ∷ []) (One (Named 64 (codes "n"))) (Give (One (Store 67 (codes "A") (One (Named 69 (codes "x"))) (Named 75 (codes "n")))))) (Last 84 (Infix 89 (Direct Lt) (Named 87 (codes "n")) (Number 91 7)) (Give (More (Store 95 (codes "A") (One (Number 97 1)) (Number 103 2)) (One (Number 106 3)))))) (Give (One (Number 111 0))))) }) ∷ []

-- two dimensions
abbrev pub table_text : List ℕ
table_text = codes "array A[3, 4]; fn main(i, j) { A[i + 1, j] := 7; A[1, 2] }"

abbrev pub table : Program
table = Cells (given 6 (codes "A")) (More (Number 8 3) (One (Number 11 4))) ∷ Defines (record { name = (given 18 (codes "main")); params = (param 23 (codes "i") 0 ∷ param 26 (codes "j") 0 ∷ []); results = None; body_at = 29; body = (Do (One (Store 31 (codes "A") (More (Infix 35 (Direct Add) (Named 33 (codes "i")) (Number 37 1)) (One (Named 40 (codes "j")))) (Number 46 7))) (Give (One (Fetch 49 (codes "A") (More (Number 51 1) (One (Number 54 2))))))) }) ∷ []

-- three dimensions
abbrev pub cube_text : List ℕ
cube_text = codes "array A[2, 3, 4]; fn main(i, j) { A[i, j, 1] }"

abbrev pub cube : Program
cube = Cells (given 6 (codes "A")) (More (Number 8 2) (More (Number 11 3) (One (Number 14 4)))) ∷ Defines (record { name = (given 21 (codes "main")); params = (param 26 (codes "i") 0 ∷ param 29 (codes "j") 0 ∷ []); results = None; body_at = 32; body = (Give (One (Fetch 34 (codes "A") (More (Named 36 (codes "i")) (More (Named 39 (codes "j")) (One (Number 42 1))))))) }) ∷ []

-- what is built in
abbrev pub built_in_text : List ℕ
built_in_text = codes "array A[3, 4]; fn main(a, b) { max(a, b + 1) - min(5, abs(a)) * len(A) + len(A, 1) }"

abbrev pub built_in : Program
built_in = Cells (given 6 (codes "A")) (More (Number 8 3) (One (Number 11 4))) ∷ Defines (record { name = (given 18 (codes "main")); params = (param 23 (codes "a") 0 ∷ param 26 (codes "b") 0 ∷ []); results = None; body_at = 29; body = (Give (One (Infix 71 (Direct Add) (Infix 45 (Direct Sub) (Call 31 false (codes "max") (More (Named 35 (codes "a")) (One (Infix 40 (Direct Add) (Named 38 (codes "b")) (Number 42 1))))) (Infix 62 (Direct Mul) (Call 47 false (codes "min") (More (Number 51 5) (One (Call 54 false (codes "abs") (One (Named 58 (codes "a"))))))) (Call 64 false (codes "len") (One (Named 68 (codes "A")))))) (Call 73 false (codes "len") (More (Named 77 (codes "A")) (One (Number 80 1))))))) }) ∷ []

-- `max` of one argument with two values
abbrev pub of_pairs_text : List ℕ
of_pairs_text = codes "fn pair(x) -> 2 { x, -x } fn main(n) { max(pair(n)) }"

abbrev pub of_pairs : Program
of_pairs = Defines (record { name = (given 3 (codes "pair")); params = (param 8 (codes "x") 0 ∷ []); results = (Some (Written 14 2)); body_at = 16; body = (Give (More (Named 18 (codes "x")) (One (Prefix 21 Neg (Named 22 (codes "x")))))) }) ∷ Defines (record { name = (given 29 (codes "main")); params = (param 34 (codes "n") 0 ∷ []); results = None; body_at = 37; body = (Give (One (Call 39 false (codes "max") (One (Call 43 false (codes "pair") (One (Named 48 (codes "n")))))))) }) ∷ []

-- a function has the name of what is built in
abbrev pub own_min_text : List ℕ
own_min_text = codes "fn min(a) { a } fn main(n) { min(n) }"

abbrev pub own_min : Program
own_min = Defines (record { name = (given 3 (codes "min")); params = (param 7 (codes "a") 0 ∷ []); results = None; body_at = 10; body = (Give (One (Named 12 (codes "a")))) }) ∷ Defines (record { name = (given 19 (codes "main")); params = (param 24 (codes "n") 0 ∷ []); results = None; body_at = 27; body = (Give (One (Call 29 false (codes "min") (One (Named 33 (codes "n")))))) }) ∷ []

-- one for each array
abbrev pub instances_text : List ℕ
instances_text = codes "array A[4]; array B[4]; fn get(T[], i) { T[i] } fn main(n) { get(A, n) + get(B, n) + get(A, 0) }"

abbrev pub instances : Program
instances = Cells (given 6 (codes "A")) (One (Number 8 4)) ∷ Cells (given 18 (codes "B")) (One (Number 20 4)) ∷ Defines (record { name = (given 27 (codes "get")); params = (param 31 (codes "T") 1 ∷ param 36 (codes "i") 0 ∷ []); results = None; body_at = 39; body = (Give (One (Fetch 41 (codes "T") (One (Named 43 (codes "i")))))) }) ∷ Defines (record { name = (given 51 (codes "main")); params = (param 56 (codes "n") 0 ∷ []); results = None; body_at = 59; body = (Give (One (Infix 83 (Direct Add) (Infix 71 (Direct Add) (Call 61 false (codes "get") (More (Named 65 (codes "A")) (One (Named 68 (codes "n"))))) (Call 73 false (codes "get") (More (Named 77 (codes "B")) (One (Named 80 (codes "n")))))) (Call 85 false (codes "get") (More (Named 89 (codes "A")) (One (Number 92 0))))))) }) ∷ []

-- an instance calls others
abbrev pub passed_on_text : List ℕ
passed_on_text = codes "array A[4]; array B[2, 2]; fn f(S[], x, T[,]) { g(T, x) + S[x] } fn g(T[,], x) { T[x, 0] + len(T, 1) } fn main(n) { f(A, n, B) }"

abbrev pub passed_on : Program
passed_on = Cells (given 6 (codes "A")) (One (Number 8 4)) ∷ Cells (given 18 (codes "B")) (More (Number 20 2) (One (Number 23 2))) ∷ Defines (record { name = (given 30 (codes "f")); params = (param 32 (codes "S") 1 ∷ param 37 (codes "x") 0 ∷ param 40 (codes "T") 2 ∷ []); results = None; body_at = 46; body = (Give (One (Infix 56 (Direct Add) (Call 48 false (codes "g") (More (Named 50 (codes "T")) (One (Named 53 (codes "x"))))) (Fetch 58 (codes "S") (One (Named 60 (codes "x"))))))) }) ∷ Defines (record { name = (given 68 (codes "g")); params = (param 70 (codes "T") 2 ∷ param 76 (codes "x") 0 ∷ []); results = None; body_at = 79; body = (Give (One (Infix 89 (Direct Add) (Fetch 81 (codes "T") (More (Named 83 (codes "x")) (One (Number 86 0)))) (Call 91 false (codes "len") (More (Named 95 (codes "T")) (One (Number 98 1))))))) }) ∷ Defines (record { name = (given 106 (codes "main")); params = (param 111 (codes "n") 0 ∷ []); results = None; body_at = 114; body = (Give (One (Call 116 false (codes "f") (More (Named 118 (codes "A")) (More (Named 121 (codes "n")) (One (Named 124 (codes "B")))))))) }) ∷ []

-- an instance's name is no hidden one, and has 24 bytes at most
abbrev pub numbered_text : List ℕ
numbered_text = codes "array f2[4]; array averylongarraynameof_it[4]; fn h(T[], n) { T[n] } fn main(n) { h(f2, 0) + h(averylongarraynameof_it, 0) }"

abbrev pub numbered : Program
numbered = Cells (given 6 (codes "f2")) (One (Number 9 4)) ∷ Cells (given 19 (codes "averylongarraynameof_it")) (One (Number 43 4)) ∷ Defines (record { name = (given 50 (codes "h")); params = (param 52 (codes "T") 1 ∷ param 57 (codes "n") 0 ∷ []); results = None; body_at = 60; body = (Give (One (Fetch 62 (codes "T") (One (Named 64 (codes "n")))))) }) ∷ Defines (record { name = (given 72 (codes "main")); params = (param 77 (codes "n") 0 ∷ []); results = None; body_at = 80; body = (Give (One (Infix 91 (Direct Add) (Call 82 false (codes "h") (More (Named 84 (codes "f2")) (One (Number 88 0)))) (Call 93 false (codes "h") (More (Named 95 (codes "averylongarraynameof_it")) (One (Number 120 0))))))) }) ∷ []

-- no name begins as the hidden ones do
abbrev pub prefixes_text : List ℕ
prefixes_text = codes "fn main(h_1) { h_1 * 2 and h_1 }"

abbrev pub prefixes : Program
prefixes = Defines (record { name = (given 3 (codes "main")); params = (param 8 (codes "h_1") 0 ∷ []); results = None; body_at = 13; body = (Give (One (And 23 (Infix 19 (Direct Mul) (Named 15 (codes "h_1")) (Number 21 2)) (Named 27 (codes "h_1"))))) }) ∷ []
