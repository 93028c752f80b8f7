-- The words of the samples.
use Rattle.std.specs.Prelude.{◌≡◌, true, false, [], ◌∷◌, codes, refl}
use Rattle.operators.specs.declared.Unary.TheVariants.{Neg, Not}
use Rattle.operators.specs.declared.Binary.TheVariants.{Add, Sub, Mul, Div, Rem, And, Or, Xor, Shl, Lt, Le}
use Rattle.source.specs.declared.word.InfixSign.TheVariants.{Direct, Greater, AtLeast}
use Rattle.source.specs.declared.word.Word.TheVariants as word
use Rattle.source.specs.Words.{program_words}
use Rattle.source.specs.Samples.{literals, least, signs, arithmetic, swapped, cells, stored_twice, pairs, strict_call, factorial, else_if, two_arms}
use Rattle.source.specs.Samples.{sum_up, count_up, nested, hidden, shared, misses, two_faults}

-- fn main(n) { 5 - -5 }
literals_words : program_words literals ≡
    word.Function 3 (codes "main") ∷ word.Parameter 8 (codes "n") ∷ word.Body 11 ∷ word.List ∷ word.Number 13 5 ∷ word.Left ∷ word.Number 18 5 ∷
    word.Prefix 17 Neg ∷ word.Infix 15 (Direct Sub) ∷ word.Part ∷ word.Give ∷ word.EndFunction ∷ []
literals_words = refl

-- fn main(n) { -9223372036854775808 }
least_words : program_words least ≡
    word.Function 3 (codes "main") ∷ word.Parameter 8 (codes "n") ∷ word.Body 11 ∷ word.List ∷ word.Number 14 9223372036854775808 ∷
    word.Prefix 13 Neg ∷ word.Part ∷ word.Give ∷ word.EndFunction ∷ []
least_words = refl

-- fn main(n) { -n + ~-(n) - -(5) }
signs_words : program_words signs ≡
    word.Function 3 (codes "main") ∷ word.Parameter 8 (codes "n") ∷ word.Body 11 ∷ word.List ∷ word.Name 14 (codes "n") ∷ word.Prefix 13 Neg ∷
    word.Left ∷ word.Name 21 (codes "n") ∷ word.Bracket ∷ word.Prefix 19 Neg ∷ word.Prefix 18 Not ∷ word.Infix 16 (Direct Add) ∷ word.Left ∷
    word.Number 28 5 ∷ word.Bracket ∷ word.Prefix 26 Neg ∷ word.Infix 24 (Direct Sub) ∷ word.Part ∷ word.Give ∷ word.EndFunction ∷ []
signs_words = refl

-- fn main(n) { n - 2 * n - n << 1 & n ^ n | n }
arithmetic_words : program_words arithmetic ≡
    word.Function 3 (codes "main") ∷ word.Parameter 8 (codes "n") ∷ word.Body 11 ∷ word.List ∷ word.Name 13 (codes "n") ∷ word.Left ∷
    word.Number 17 2 ∷ word.Left ∷ word.Name 21 (codes "n") ∷ word.Infix 19 (Direct Mul) ∷ word.Infix 15 (Direct Sub) ∷ word.Left ∷
    word.Name 25 (codes "n") ∷ word.Infix 23 (Direct Sub) ∷ word.Left ∷ word.Number 30 1 ∷ word.Infix 27 (Direct Shl) ∷ word.Left ∷
    word.Name 34 (codes "n") ∷ word.Infix 32 (Direct And) ∷ word.Left ∷ word.Name 38 (codes "n") ∷ word.Infix 36 (Direct Xor) ∷ word.Left ∷
    word.Name 42 (codes "n") ∷ word.Infix 40 (Direct Or) ∷ word.Part ∷ word.Give ∷ word.EndFunction ∷ []
arithmetic_words = refl

-- fn main(a, b) { (a > b) + (a >= b) + (a < b) + (a <= b) }
swapped_words : program_words swapped ≡
    word.Function 3 (codes "main") ∷ word.Parameter 8 (codes "a") ∷ word.Parameter 11 (codes "b") ∷ word.Body 14 ∷ word.List ∷
    word.Name 17 (codes "a") ∷ word.Left ∷ word.Name 21 (codes "b") ∷ word.Infix 19 Greater ∷ word.Bracket ∷ word.Left ∷ word.Name 27 (codes "a") ∷
    word.Left ∷ word.Name 32 (codes "b") ∷ word.Infix 29 AtLeast ∷ word.Bracket ∷ word.Infix 24 (Direct Add) ∷ word.Left ∷ word.Name 38 (codes "a") ∷
    word.Left ∷ word.Name 42 (codes "b") ∷ word.Infix 40 (Direct Lt) ∷ word.Bracket ∷ word.Infix 35 (Direct Add) ∷ word.Left ∷
    word.Name 48 (codes "a") ∷ word.Left ∷ word.Name 53 (codes "b") ∷ word.Infix 50 (Direct Le) ∷ word.Bracket ∷ word.Infix 45 (Direct Add) ∷
    word.Part ∷ word.Give ∷ word.EndFunction ∷ []
swapped_words = refl

-- array A[2]; fn main(n) { A[1] := n + 3; A[1] }
cells_words : program_words cells ≡
    word.Array 6 (codes "A") ∷ word.Length 8 2 ∷ word.Function 15 (codes "main") ∷ word.Parameter 20 (codes "n") ∷ word.Body 23 ∷ word.List ∷
    word.Cell 25 (codes "A") ∷ word.Number 27 1 ∷ word.Index ∷ word.Name 33 (codes "n") ∷ word.Left ∷ word.Number 37 3 ∷ word.Infix 35 (Direct Add) ∷
    word.Store 25 (codes "A") ∷ word.Part ∷ word.Do ∷ word.List ∷ word.Cell 40 (codes "A") ∷ word.Number 42 1 ∷ word.Fetch 40 (codes "A") ∷
    word.Part ∷ word.Give ∷ word.EndFunction ∷ []
cells_words = refl

-- array A[2]; array B[3]; fn main(n) { A[0] := B[n] := 7 }
stored_twice_words : program_words stored_twice ≡
    word.Array 6 (codes "A") ∷ word.Length 8 2 ∷ word.Array 18 (codes "B") ∷ word.Length 20 3 ∷ word.Function 27 (codes "main") ∷
    word.Parameter 32 (codes "n") ∷ word.Body 35 ∷ word.List ∷ word.Cell 37 (codes "A") ∷ word.Number 39 0 ∷ word.Index ∷ word.Cell 45 (codes "B") ∷
    word.Name 47 (codes "n") ∷ word.Index ∷ word.Number 53 7 ∷ word.Store 45 (codes "B") ∷ word.Store 37 (codes "A") ∷ word.Part ∷ word.Give ∷
    word.EndFunction ∷ []
stored_twice_words = refl

-- fn pair(a, b) -> 2 { b, a } fn main(n) { let x, _ = pair(pair(n, 1)); x }
pairs_words : program_words pairs ≡
    word.Function 3 (codes "pair") ∷ word.Parameter 8 (codes "a") ∷ word.Parameter 11 (codes "b") ∷ word.Results 17 2 ∷ word.Body 19 ∷ word.List ∷
    word.Name 21 (codes "b") ∷ word.Part ∷ word.Name 24 (codes "a") ∷ word.Part ∷ word.Give ∷ word.EndFunction ∷ word.Function 31 (codes "main") ∷
    word.Parameter 36 (codes "n") ∷ word.Body 39 ∷ word.Let 41 ∷ word.Bind 45 (codes "x") ∷ word.Drop ∷ word.List ∷ word.Callee 52 (codes "pair") ∷
    word.List ∷ word.Callee 57 (codes "pair") ∷ word.List ∷ word.Name 62 (codes "n") ∷ word.Part ∷ word.Number 65 1 ∷ word.Part ∷
    word.Call 57 false (codes "pair") ∷ word.Part ∷ word.Call 52 false (codes "pair") ∷ word.Part ∷ word.EndLet 41 ∷ word.List ∷
    word.Name 70 (codes "x") ∷ word.Part ∷ word.Give ∷ word.EndFunction ∷ []
pairs_words = refl

-- array A[1]; fn f(x, y) { y } fn main(n) { strict f(A[0], n) }
strict_call_words : program_words strict_call ≡
    word.Array 6 (codes "A") ∷ word.Length 8 1 ∷ word.Function 15 (codes "f") ∷ word.Parameter 17 (codes "x") ∷ word.Parameter 20 (codes "y") ∷
    word.Body 23 ∷ word.List ∷ word.Name 25 (codes "y") ∷ word.Part ∷ word.Give ∷ word.EndFunction ∷ word.Function 32 (codes "main") ∷
    word.Parameter 37 (codes "n") ∷ word.Body 40 ∷ word.List ∷ word.Callee 49 (codes "f") ∷ word.List ∷ word.Cell 51 (codes "A") ∷ word.Number 53 0 ∷
    word.Fetch 51 (codes "A") ∷ word.Part ∷ word.Name 57 (codes "n") ∷ word.Part ∷ word.Call 49 true (codes "f") ∷ word.Part ∷ word.Give ∷
    word.EndFunction ∷ []
strict_call_words = refl

-- fn main(n) { if n <= 1 { 1 } else { n * main(n - 1) } }
factorial_words : program_words factorial ≡
    word.Function 3 (codes "main") ∷ word.Parameter 8 (codes "n") ∷ word.Body 11 ∷ word.List ∷ word.Name 16 (codes "n") ∷ word.Left ∷
    word.Number 21 1 ∷ word.Infix 18 (Direct Le) ∷ word.Then ∷ word.List ∷ word.Number 25 1 ∷ word.Part ∷ word.Give ∷ word.Else ∷ word.List ∷
    word.Name 36 (codes "n") ∷ word.Left ∷ word.Callee 40 (codes "main") ∷ word.List ∷ word.Name 45 (codes "n") ∷ word.Left ∷ word.Number 49 1 ∷
    word.Infix 47 (Direct Sub) ∷ word.Part ∷ word.Call 40 false (codes "main") ∷ word.Infix 38 (Direct Mul) ∷ word.Part ∷ word.Give ∷ word.EndIf 13 ∷
    word.Part ∷ word.Give ∷ word.EndFunction ∷ []
factorial_words = refl

-- fn main(n) { if n { n } else if n + 1 { 2 } else { n, 3; 4 } }
else_if_words : program_words else_if ≡
    word.Function 3 (codes "main") ∷ word.Parameter 8 (codes "n") ∷ word.Body 11 ∷ word.List ∷ word.Name 16 (codes "n") ∷ word.Then ∷ word.List ∷
    word.Name 20 (codes "n") ∷ word.Part ∷ word.Give ∷ word.Else ∷ word.Name 32 (codes "n") ∷ word.Left ∷ word.Number 36 1 ∷
    word.Infix 34 (Direct Add) ∷ word.Then ∷ word.List ∷ word.Number 40 2 ∷ word.Part ∷ word.Give ∷ word.Else ∷ word.List ∷
    word.Name 51 (codes "n") ∷ word.Part ∷ word.Number 54 3 ∷ word.Part ∷ word.Do ∷ word.List ∷ word.Number 57 4 ∷ word.Part ∷ word.Give ∷
    word.EndIf 29 ∷ word.Chain ∷ word.EndIf 13 ∷ word.Part ∷ word.Give ∷ word.EndFunction ∷ []
else_if_words = refl

-- fn main(a, b) -> 2 { let c = a; if a { b, a + c } else { let b = c; b, b } }
two_arms_words : program_words two_arms ≡
    word.Function 3 (codes "main") ∷ word.Parameter 8 (codes "a") ∷ word.Parameter 11 (codes "b") ∷ word.Results 17 2 ∷ word.Body 19 ∷ word.Let 21 ∷
    word.Bind 25 (codes "c") ∷ word.List ∷ word.Name 29 (codes "a") ∷ word.Part ∷ word.EndLet 21 ∷ word.List ∷ word.Name 35 (codes "a") ∷ word.Then ∷
    word.List ∷ word.Name 39 (codes "b") ∷ word.Part ∷ word.Name 42 (codes "a") ∷ word.Left ∷ word.Name 46 (codes "c") ∷ word.Infix 44 (Direct Add) ∷
    word.Part ∷ word.Give ∷ word.Else ∷ word.Let 57 ∷ word.Bind 61 (codes "b") ∷ word.List ∷ word.Name 65 (codes "c") ∷ word.Part ∷ word.EndLet 57 ∷
    word.List ∷ word.Name 68 (codes "b") ∷ word.Part ∷ word.Name 71 (codes "b") ∷ word.Part ∷ word.Give ∷ word.EndIf 32 ∷ word.Part ∷ word.Give ∷
    word.EndFunction ∷ []
two_arms_words = refl

-- fn main(n) { let i, s = loop 2 (i = 0, s = 0) while i < n { i + 1, s + i }; s }
sum_up_words : program_words sum_up ≡
    word.Function 3 (codes "main") ∷ word.Parameter 8 (codes "n") ∷ word.Body 11 ∷ word.Let 13 ∷ word.Bind 17 (codes "i") ∷
    word.Bind 20 (codes "s") ∷ word.List ∷ word.Loop 24 ∷ word.Bound 29 2 ∷ word.Start 32 (codes "i") ∷ word.Number 36 0 ∷ word.First ∷
    word.Start 39 (codes "s") ∷ word.Number 43 0 ∷ word.First ∷ word.TestFirst ∷ word.Name 52 (codes "i") ∷ word.Left ∷ word.Name 56 (codes "n") ∷
    word.Infix 54 (Direct Lt) ∷ word.While ∷ word.List ∷ word.Name 60 (codes "i") ∷ word.Left ∷ word.Number 64 1 ∷ word.Infix 62 (Direct Add) ∷
    word.Part ∷ word.Name 67 (codes "s") ∷ word.Left ∷ word.Name 71 (codes "i") ∷ word.Infix 69 (Direct Add) ∷ word.Part ∷ word.Give ∷
    word.EndLoop 24 2 ∷ word.Part ∷ word.EndLet 13 ∷ word.List ∷ word.Name 76 (codes "s") ∷ word.Part ∷ word.Give ∷ word.EndFunction ∷ []
sum_up_words = refl

-- fn main(n) { loop 2 (i = 0) { i + 1 } while (n > i) }
count_up_words : program_words count_up ≡
    word.Function 3 (codes "main") ∷ word.Parameter 8 (codes "n") ∷ word.Body 11 ∷ word.List ∷ word.Loop 13 ∷ word.Bound 18 2 ∷
    word.Start 21 (codes "i") ∷ word.Number 25 0 ∷ word.First ∷ word.BodyFirst ∷ word.List ∷ word.Name 30 (codes "i") ∷ word.Left ∷
    word.Number 34 1 ∷ word.Infix 32 (Direct Add) ∷ word.Part ∷ word.Give ∷ word.Until ∷ word.Name 45 (codes "n") ∷ word.Left ∷
    word.Name 49 (codes "i") ∷ word.Infix 47 Greater ∷ word.EndLoop 13 2 ∷ word.Part ∷ word.Give ∷ word.EndFunction ∷ []
count_up_words = refl

-- fn f(n, m) { loop 3 (i = loop 2 (j = n) { j - 1 } while (j)) while loop 4 (k = i) while k { m } { loop 64 (i = i) { n } while (0) } } fn main(n) { f(n,
-- 2); loop 2 (i = n) while i { i - 1 } }
nested_words : program_words nested ≡
    word.Function 3 (codes "f") ∷ word.Parameter 5 (codes "n") ∷ word.Parameter 8 (codes "m") ∷ word.Body 11 ∷ word.List ∷ word.Loop 13 ∷
    word.Bound 18 3 ∷ word.Start 21 (codes "i") ∷ word.Loop 25 ∷ word.Bound 30 2 ∷ word.Start 33 (codes "j") ∷ word.Name 37 (codes "n") ∷
    word.First ∷ word.BodyFirst ∷ word.List ∷ word.Name 42 (codes "j") ∷ word.Left ∷ word.Number 46 1 ∷ word.Infix 44 (Direct Sub) ∷ word.Part ∷
    word.Give ∷ word.Until ∷ word.Name 57 (codes "j") ∷ word.EndLoop 25 2 ∷ word.First ∷ word.TestFirst ∷ word.Loop 67 ∷ word.Bound 72 4 ∷
    word.Start 75 (codes "k") ∷ word.Name 79 (codes "i") ∷ word.First ∷ word.TestFirst ∷ word.Name 88 (codes "k") ∷ word.While ∷ word.List ∷
    word.Name 92 (codes "m") ∷ word.Part ∷ word.Give ∷ word.EndLoop 67 4 ∷ word.While ∷ word.List ∷ word.Loop 98 ∷ word.Bound 103 64 ∷
    word.Start 107 (codes "i") ∷ word.Name 111 (codes "i") ∷ word.First ∷ word.BodyFirst ∷ word.List ∷ word.Name 116 (codes "n") ∷ word.Part ∷
    word.Give ∷ word.Until ∷ word.Number 127 0 ∷ word.EndLoop 98 64 ∷ word.Part ∷ word.Give ∷ word.EndLoop 13 3 ∷ word.Part ∷ word.Give ∷
    word.EndFunction ∷ word.Function 137 (codes "main") ∷ word.Parameter 142 (codes "n") ∷ word.Body 145 ∷ word.List ∷ word.Callee 147 (codes "f") ∷
    word.List ∷ word.Name 149 (codes "n") ∷ word.Part ∷ word.Number 152 2 ∷ word.Part ∷ word.Call 147 false (codes "f") ∷ word.Part ∷ word.Do ∷
    word.List ∷ word.Loop 156 ∷ word.Bound 161 2 ∷ word.Start 164 (codes "i") ∷ word.Name 168 (codes "n") ∷ word.First ∷ word.TestFirst ∷
    word.Name 177 (codes "i") ∷ word.While ∷ word.List ∷ word.Name 181 (codes "i") ∷ word.Left ∷ word.Number 185 1 ∷ word.Infix 183 (Direct Sub) ∷
    word.Part ∷ word.Give ∷ word.EndLoop 156 2 ∷ word.Part ∷ word.Give ∷ word.EndFunction ∷ []
nested_words = refl

-- fn main(n) { let n = n + 1; let _, n, _ = 1, n, 2; n }
hidden_words : program_words hidden ≡
    word.Function 3 (codes "main") ∷ word.Parameter 8 (codes "n") ∷ word.Body 11 ∷ word.Let 13 ∷ word.Bind 17 (codes "n") ∷ word.List ∷
    word.Name 21 (codes "n") ∷ word.Left ∷ word.Number 25 1 ∷ word.Infix 23 (Direct Add) ∷ word.Part ∷ word.EndLet 13 ∷ word.Let 28 ∷ word.Drop ∷
    word.Bind 35 (codes "n") ∷ word.Drop ∷ word.List ∷ word.Number 42 1 ∷ word.Part ∷ word.Name 45 (codes "n") ∷ word.Part ∷ word.Number 48 2 ∷
    word.Part ∷ word.EndLet 28 ∷ word.List ∷ word.Name 51 (codes "n") ∷ word.Part ∷ word.Give ∷ word.EndFunction ∷ []
hidden_words = refl

-- fn main(n) -> 3 { let a = n; a, a, n }
shared_words : program_words shared ≡
    word.Function 3 (codes "main") ∷ word.Parameter 8 (codes "n") ∷ word.Results 14 3 ∷ word.Body 16 ∷ word.Let 18 ∷ word.Bind 22 (codes "a") ∷
    word.List ∷ word.Name 26 (codes "n") ∷ word.Part ∷ word.EndLet 18 ∷ word.List ∷ word.Name 29 (codes "a") ∷ word.Part ∷ word.Name 32 (codes "a") ∷
    word.Part ∷ word.Name 35 (codes "n") ∷ word.Part ∷ word.Give ∷ word.EndFunction ∷ []
shared_words = refl

-- array A[2]; fn main(n) { A[n] := 1 }
misses_words : program_words misses ≡
    word.Array 6 (codes "A") ∷ word.Length 8 2 ∷ word.Function 15 (codes "main") ∷ word.Parameter 20 (codes "n") ∷ word.Body 23 ∷ word.List ∷
    word.Cell 25 (codes "A") ∷ word.Name 27 (codes "n") ∷ word.Index ∷ word.Number 33 1 ∷ word.Store 25 (codes "A") ∷ word.Part ∷ word.Give ∷
    word.EndFunction ∷ []
misses_words = refl

-- fn main(n) { n / 0 > n % 0 }
two_faults_words : program_words two_faults ≡
    word.Function 3 (codes "main") ∷ word.Parameter 8 (codes "n") ∷ word.Body 11 ∷ word.List ∷ word.Name 13 (codes "n") ∷ word.Left ∷
    word.Number 17 0 ∷ word.Infix 15 (Direct Div) ∷ word.Left ∷ word.Name 21 (codes "n") ∷ word.Left ∷ word.Number 25 0 ∷
    word.Infix 23 (Direct Rem) ∷ word.Infix 19 Greater ∷ word.Part ∷ word.Give ∷ word.EndFunction ∷ []
two_faults_words = refl
