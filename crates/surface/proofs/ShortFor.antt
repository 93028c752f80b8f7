-- What the samples are short for: the tokens of the core program say what the text beside it says, and it keeps the core's rules.
use Rattle.std.specs.Prelude.{◌≡◌, ℕ, List, [], map, codes, Result, Ok, Err, ⊤, refl}
use Rattle.std.specs.Fmt.{digits}
use Rattle.source.specs.Tokens.{lexed}
use Rattle.source.specs.Spelled.{Lexeme, lexeme}
use Rattle.source.specs.Parses.{says}
use Rattle.source.specs.declared.fault.Fault.{Fault}
use Rattle.source.specs.Rules.{checked}
use Rattle.surface.specs.Tree.{Program}
use Rattle.surface.specs.Desugared.{desugared}
use Rattle.surface.specs.Samples.{constants, counting, carrying, counter_hides, nested_for, both, either, lets_inside, tests, tests_under}
use Rattle.surface.specs.Samples.{chains, whens, table, cube, built_in, of_pairs, own_min, instances, passed_on, numbered, prefixes}

abbrev said : List ℕ → List Lexeme
said text = elim (lexed text) as (λ _. List Lexeme) [ Ok ts ↦ map (lexeme text) ts | Err fault ↦ [] ]

abbrev short_for : Program → List Lexeme
short_for p = elim (desugared p) as (λ _. List Lexeme) [ Ok q ↦ says q | Err fault ↦ [] ]

abbrev core_checked : Program → Result ⊤ Fault
core_checked p = elim (desugared p) as (λ _. Result ⊤ Fault) [ Ok q ↦ checked 0 q | Err fault ↦ Ok tt ]

-- const N = 3; const M = N * -N; fn main(n) { n + M - N }
constants_is : short_for constants ≡ said (codes "fn main(n) { n + -9 - 3 }")
unfolding digits
constants_is = refl

constants_good : core_checked constants ≡ Ok tt
unfolding digits
constants_good = refl

-- fn main(n) { for i in 0..n { i * 2 } }
counting_is : short_for counting ≡ said (codes "fn main(n) { let h_1 = 0; if h_1 < n { loop 4 (i = h_1) { let h_2 = i + 1; i * 2; h_2 } while (i < n) } else { h_1 } }")
unfolding digits
counting_is = refl

counting_good : core_checked counting ≡ Ok tt
unfolding digits
counting_good = refl

-- fn main(a) -> 2 { for 8 i in a..a + 9 with s = 0, t = a { s + i, t - s } }
carrying_is : short_for carrying ≡ said (codes "fn main(a) -> 2 { let h_1 = a + 9; if a < h_1 { let _, s, t = loop 8 (i = a, s = 0, t = a) { let h_2 = i + 1; h_2, s + i, t - s } while (i < h_1); s, t } else { 0, a } }")
unfolding digits
carrying_is = refl

carrying_good : core_checked carrying ≡ Ok tt
unfolding digits
carrying_good = refl

-- fn main(n) { for n in 2..n { n; n } }
counter_hides_is : short_for counter_hides ≡ said (codes "fn main(n) { let h_1 = 2; let h_2 = n; if h_1 < h_2 { loop 4 (n = h_1) { let h_3 = n + 1; n; n; h_3 } while (n < h_2) } else { h_1 } }")
unfolding digits
counter_hides_is = refl

counter_hides_good : core_checked counter_hides ≡ Ok tt
unfolding digits
counter_hides_good = refl

-- fn main(n) { for i in 0..n { for j in i..7 with s = i { s + j } } }
nested_for_is : short_for nested_for ≡ said (codes "fn main(n) { let h_1 = 0; if h_1 < n { loop 4 (i = h_1) { let h_2 = i + 1; if i < 7 { let _, s = loop 4 (j = i, s = i) { let h_3 = j + 1; h_3, s + j } while (j < 7); s } else { i }; h_2 } while (i < n) } else { h_1 } }")
unfolding digits
nested_for_is = refl

nested_for_good : core_checked nested_for ≡ Ok tt
unfolding digits
nested_for_good = refl

-- fn main(a, b) { a and b and a < b }
both_is : short_for both ≡ said (codes "fn main(a, b) { let h_1 = if a { b } else { a }; if h_1 { a < b } else { h_1 } }")
unfolding digits
both_is = refl

both_good : core_checked both ≡ Ok tt
unfolding digits
both_good = refl

-- fn main(a, b) { a / b or not b or 5 }
either_is : short_for either ≡ said (codes "fn main(a, b) { let h_1 = a / b; let h_2 = if h_1 { h_1 } else { h_1 | (b == 0) }; if h_2 { h_2 } else { h_2 | 5 } }")
unfolding digits
either_is = refl

either_good : core_checked either ≡ Ok tt
unfolding digits
either_good = refl

-- fn main(a, b) { a and (b * b or a) }
lets_inside_is : short_for lets_inside ≡ said (codes "fn main(a, b) { if a { let h_1 = b * b; (if h_1 { h_1 } else { h_1 | a }) } else { a } }")
unfolding digits
lets_inside_is = refl

lets_inside_good : core_checked lets_inside ≡ Ok tt
unfolding digits
lets_inside_good = refl

-- fn main(n) { loop 2 (i = n) while i > 1 and (i < 90 and not i == 7) { i - 1 } }
tests_is : short_for tests ≡ said (codes "fn main(n) { loop 2 (i = n) while if i > 1 { (if i < 90 { (i == 7) == 0 } else { 0 }) } else { 0 } { i - 1 } }")
unfolding digits
tests_is = refl

tests_good : core_checked tests ≡ Ok tt
unfolding digits
tests_good = refl

-- fn main(n) { loop 2 (i = n) { i - 1 } while (i * i or n) }
tests_under_is : short_for tests_under ≡ said (codes "fn main(n) { loop 2 (i = n) { i - 1 } while (if 1 { let h_1 = i * i; if h_1 { h_1 } else { h_1 | n } } else { 0 }) }")
unfolding digits
tests_under_is = refl

tests_under_good : core_checked tests_under ≡ Ok tt
unfolding digits
tests_under_good = refl

-- fn main(a, b) { if a { 1 } else if a * b or b { 2 } else { 3 } }
chains_is : short_for chains ≡ said (codes "fn main(a, b) { if a { 1 } else { let h_1 = a * b; if if h_1 { h_1 } else { h_1 | b } { 2 } else { 3 } } }")
unfolding digits
chains_is = refl

chains_good : core_checked chains ≡ Ok tt
unfolding digits
chains_good = refl

-- array A[4]; fn main(n) { if n > 2 { A[0] := 1 }; if n { let x = n; A[x] := n } else if n < 7 { A[1] := 2, 3 }; 0 }
whens_is : short_for whens ≡ said (codes "array A[4]; fn main(n) { let h_1 = n > 2; if h_1 { A[0] := 1; h_1 } else { h_1 }; if n { let x = n; A[x] := n; n } else { let h_2 = n < 7; if h_2 { A[1] := 2, 3; h_2 } else { h_2 } }; 0 }")
unfolding digits
whens_is = refl

whens_good : core_checked whens ≡ Ok tt
unfolding digits
whens_good = refl

-- array A[3, 4]; fn main(i, j) { A[i + 1, j] := 7; A[1, 2] }
table_is : short_for table ≡ said (codes "array A[12]; fn main(i, j) { let h_1 = i + 1; let h_2 = 4; let h_3 = h_1 * h_2 + j; A[h_3 | -(h_3 / h_2 != h_1)] := 7; let h_4 = 4; let h_5 = 1 * h_4 + 2; A[h_5 | -(h_5 / h_4 != 1)] }")
unfolding digits
table_is = refl

table_good : core_checked table ≡ Ok tt
unfolding digits
table_good = refl

-- array A[2, 3, 4]; fn main(i, j) { A[i, j, 1] }
cube_is : short_for cube ≡ said (codes "array A[24]; fn main(i, j) { let h_1 = 3; let h_2 = i * h_1 + j; let h_3 = 4; let h_4 = h_2 * h_3 + 1; A[h_4 | -((h_4 / h_3 != h_2) | (h_2 / h_1 != i))] }")
unfolding digits
cube_is = refl

cube_good : core_checked cube ≡ Ok tt
unfolding digits
cube_good = refl

-- array A[3, 4]; fn main(a, b) { max(a, b + 1) - min(5, abs(a)) * len(A) + len(A, 1) }
built_in_is : short_for built_in ≡ said (codes "array A[12]; fn main(a, b) { let h_1 = b + 1; let h_2 = a >> 63; let h_3 = ((a ^ h_2) - h_2); (a ^ ((a ^ h_1) & -(a < h_1))) - (5 ^ ((5 ^ h_3) & -(h_3 < 5))) * 3 + 4 }")
unfolding digits
built_in_is = refl

built_in_good : core_checked built_in ≡ Ok tt
unfolding digits
built_in_good = refl

-- fn pair(x) -> 2 { x, -x } fn main(n) { max(pair(n)) }
of_pairs_is : short_for of_pairs ≡ said (codes "fn pair(x) -> 2 { x, -x } fn main(n) { let h_1, h_2 = pair(n); (h_1 ^ ((h_1 ^ h_2) & -(h_1 < h_2))) }")
unfolding digits
of_pairs_is = refl

of_pairs_good : core_checked of_pairs ≡ Ok tt
unfolding digits
of_pairs_good = refl

-- fn min(a) { a } fn main(n) { min(n) }
own_min_is : short_for own_min ≡ said (codes "fn min(a) { a } fn main(n) { min(n) }")
unfolding digits
own_min_is = refl

own_min_good : core_checked own_min ≡ Ok tt
unfolding digits
own_min_good = refl

-- array A[4]; array B[4]; fn get(T[], i) { T[i] } fn main(n) { get(A, n) + get(B, n) + get(A, 0) }
instances_is : short_for instances ≡ said (codes "array A[4]; array B[4]; fn get_A(i) { A[i] } fn get_B(i) { B[i] } fn main(n) { get_A(n) + get_B(n) + get_A(0) }")
unfolding digits
instances_is = refl

instances_good : core_checked instances ≡ Ok tt
unfolding digits
instances_good = refl

-- array A[4]; array B[2, 2]; fn f(S[], x, T[,]) { g(T, x) + S[x] } fn g(T[,], x) { T[x, 0] + len(T, 1) } fn main(n) { f(A, n, B) }
passed_on_is : short_for passed_on ≡ said (codes "array A[4]; array B[4]; fn f_A_B(x) { g_B(x) + A[x] } fn g_B(x) { let h_1 = 2; let h_2 = x * h_1 + 0; B[h_2 | -(h_2 / h_1 != x)] + 2 } fn main(n) { f_A_B(n) }")
unfolding digits
passed_on_is = refl

passed_on_good : core_checked passed_on ≡ Ok tt
unfolding digits
passed_on_good = refl

-- array f2[4]; array averylongarraynameof_it[4]; fn h(T[], n) { T[n] } fn main(n) { h(f2, 0) + h(averylongarraynameof_it, 0) }
numbered_is : short_for numbered ≡ said (codes "array f2[4]; array averylongarraynameof_it[4]; fn h_f1(n) { f2[n] } fn h_f2(n) { averylongarraynameof_it[n] } fn main(n) { h_f1(0) + h_f2(0) }")
unfolding digits
numbered_is = refl

numbered_good : core_checked numbered ≡ Ok tt
unfolding digits
numbered_good = refl

-- fn main(h_1) { h_1 * 2 and h_1 }
prefixes_is : short_for prefixes ≡ said (codes "fn main(h_1) { let h1_1 = h_1 * 2; if h1_1 { h_1 } else { h1_1 } }")
unfolding digits
prefixes_is = refl

prefixes_good : core_checked prefixes ≡ Ok tt
unfolding digits
prefixes_good = refl
