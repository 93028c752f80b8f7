-- Programs that break a rule, each with its fault; and some that are near to one and break none.
use Rattle.std.specs.Prelude.{◌≡◌, ℕ, true, false, [], ◌∷◌, codes, None, Some, Ok, refl}
use Rattle.operators.specs.declared.Unary.TheVariants.{Neg}
use Rattle.operators.specs.declared.Binary.TheVariants.{Add, Sub, Div, Shl, Lt}
use Rattle.source.specs.declared.word.InfixSign.TheVariants.{Direct, Greater}
use Rattle.source.specs.declared.fault.FaultKind.TheVariants.{Arity, BadBound, BadCount, NoMain, NoSuchName, SameName, TooMany, TooWide}
use Rattle.source.specs.Tree.{Name, NameAt, Bind}
use Rattle.surface.specs.declared.fault.FaultKind.TheVariants.{Core, BadConst, BadArray}
use Rattle.surface.specs.Tree.{Written, Constant, Number, Named, Bracket, Prefix, Infix, And, Or, Not, Fetch, Store, Call, If, Loop, For}
use Rattle.surface.specs.Tree.{One, More, Let, Do, When, Give, Last, Else, Before, Nothing, With}
use Rattle.surface.specs.Tree.{Param, Cells, Const, Defines, Program}
use Rattle.surface.specs.First.{refused}
use Rattle.surface.specs.Rules.{checked}

abbrev given : ℕ → Name → NameAt
given at x = record { at = at; name = x }

abbrev param : ℕ → Name → ℕ → Param
param at x rank = record { name = given at x; rank = rank }

-- fn main(n) { /**/ n /* a /* b // c */ + 1 }
abbrev ok_1_program : Program
ok_1_program = Defines (record { name = (given 3 (codes "main")); params = (param 8 (codes "n") 0 ∷ []); results = None; body_at = 11; body = (Give (One (Infix 38 (Direct Add) (Named 18 (codes "n")) (Number 40 1)))) }) ∷ []

ok_1 : checked 43 ok_1_program ≡ Ok tt
ok_1 = refl

-- fn main(n) { // /* n /*  */ }
abbrev ok_2_program : Program
ok_2_program = Defines (record { name = (given 3 (codes "main")); params = (param 8 (codes "n") 0 ∷ []); results = None; body_at = 11; body = (Give (One (Named 19 (codes "n")))) }) ∷ []

ok_2 : checked 29 ok_2_program ≡ Ok tt
ok_2 = refl

-- fn main(n) { if n > 1 { n } else if n { n }; n }
abbrev ok_3_program : Program
ok_3_program = Defines (record { name = (given 3 (codes "main")); params = (param 8 (codes "n") 0 ∷ []); results = None; body_at = 11; body = (When (Else 13 (Infix 18 Greater (Named 16 (codes "n")) (Number 20 1)) (Give (One (Named 24 (codes "n")))) (Last 33 (Named 36 (codes "n")) (Give (One (Named 40 (codes "n")))))) (Give (One (Named 45 (codes "n"))))) }) ∷ []

ok_3 : checked 48 ok_3_program ≡ Ok tt
ok_3 = refl

-- fn main(n) { if n > 1 { n } else { 1 } + 3, 4; n }
abbrev ok_4_program : Program
ok_4_program = Defines (record { name = (given 3 (codes "main")); params = (param 8 (codes "n") 0 ∷ []); results = None; body_at = 11; body = (Do (More (Infix 39 (Direct Add) (If 13 (Infix 18 Greater (Named 16 (codes "n")) (Number 20 1)) (Give (One (Named 24 (codes "n")))) (Give (One (Number 35 1)))) (Number 41 3)) (One (Number 44 4))) (Give (One (Named 47 (codes "n"))))) }) ∷ []

ok_4 : checked 50 ok_4_program ≡ Ok tt
ok_4 = refl

-- fn main(n) { 1 + (not n) and not not n or n }
abbrev ok_5_program : Program
ok_5_program = Defines (record { name = (given 3 (codes "main")); params = (param 8 (codes "n") 0 ∷ []); results = None; body_at = 11; body = (Give (One (Or 39 (And 25 (Infix 15 (Direct Add) (Number 13 1) (Bracket (Not 18 (Named 22 (codes "n"))))) (Not 29 (Not 33 (Named 37 (codes "n"))))) (Named 42 (codes "n"))))) }) ∷ []

ok_5 : checked 45 ok_5_program ≡ Ok tt
ok_5 = refl

-- const N = 8; const N = 9; fn main(n) { n }
abbrev same_name_1_program : Program
same_name_1_program = Const (given 6 (codes "N")) (Number 10 8) ∷ Const (given 19 (codes "N")) (Number 23 9) ∷ Defines (record { name = (given 29 (codes "main")); params = (param 34 (codes "n") 0 ∷ []); results = None; body_at = 37; body = (Give (One (Named 39 (codes "n")))) }) ∷ []

same_name_1 : checked 42 same_name_1_program ≡ refused (Core SameName) 19
same_name_1 = refl

-- const N = 8; fn main(N) { 1 }
abbrev same_name_2_program : Program
same_name_2_program = Const (given 6 (codes "N")) (Number 10 8) ∷ Defines (record { name = (given 16 (codes "main")); params = (param 21 (codes "N") 0 ∷ []); results = None; body_at = 24; body = (Give (One (Number 26 1))) }) ∷ []

same_name_2 : checked 29 same_name_2_program ≡ refused (Core SameName) 21
same_name_2 = refl

-- const N = 8; fn main(n) { for N in 0..n { N } }
abbrev same_name_3_program : Program
same_name_3_program = Const (given 6 (codes "N")) (Number 10 8) ∷ Defines (record { name = (given 16 (codes "main")); params = (param 21 (codes "n") 0 ∷ []); results = None; body_at = 24; body = (Give (One (For 26 None (given 30 (codes "N")) (Number 35 0) (Named 38 (codes "n")) Nothing (Give (One (Named 42 (codes "N"))))))) }) ∷ []

same_name_3 : checked 47 same_name_3_program ≡ refused (Core SameName) 30
same_name_3 = refl

-- fn main(n) { for i in 0..n with i = 0 { i } }
abbrev same_name_4_program : Program
same_name_4_program = Defines (record { name = (given 3 (codes "main")); params = (param 8 (codes "n") 0 ∷ []); results = None; body_at = 11; body = (Give (One (For 13 None (given 17 (codes "i")) (Number 22 0) (Named 25 (codes "n")) (With ((given 32 (codes "i")) ∷ []) (One (Number 36 0))) (Give (One (Named 40 (codes "i"))))))) }) ∷ []

same_name_4 : checked 45 same_name_4_program ≡ refused (Core SameName) 32
same_name_4 = refl

-- fn main(n) { for i in 0..n with s = 0, s = 1 { i, i } }
abbrev same_name_5_program : Program
same_name_5_program = Defines (record { name = (given 3 (codes "main")); params = (param 8 (codes "n") 0 ∷ []); results = None; body_at = 11; body = (Give (One (For 13 None (given 17 (codes "i")) (Number 22 0) (Named 25 (codes "n")) (With ((given 32 (codes "s")) ∷ (given 39 (codes "s")) ∷ []) (More (Number 36 0) (One (Number 43 1)))) (Give (More (Named 47 (codes "i")) (One (Named 50 (codes "i")))))))) }) ∷ []

same_name_5 : checked 55 same_name_5_program ≡ refused (Core SameName) 39
same_name_5 = refl

-- array A[4]; fn f(A[], n) { n } fn main(n) { n }
abbrev same_name_6_program : Program
same_name_6_program = Cells (given 6 (codes "A")) (One (Number 8 4)) ∷ Defines (record { name = (given 15 (codes "f")); params = (param 17 (codes "A") 1 ∷ param 22 (codes "n") 0 ∷ []); results = None; body_at = 25; body = (Give (One (Named 27 (codes "n")))) }) ∷ Defines (record { name = (given 34 (codes "main")); params = (param 39 (codes "n") 0 ∷ []); results = None; body_at = 42; body = (Give (One (Named 44 (codes "n")))) }) ∷ []

same_name_6 : checked 47 same_name_6_program ≡ refused (Core SameName) 17
same_name_6 = refl

-- fn f(T[], T) { T } fn main(n) { n }
abbrev same_name_7_program : Program
same_name_7_program = Defines (record { name = (given 3 (codes "f")); params = (param 5 (codes "T") 1 ∷ param 10 (codes "T") 0 ∷ []); results = None; body_at = 13; body = (Give (One (Named 15 (codes "T")))) }) ∷ Defines (record { name = (given 22 (codes "main")); params = (param 27 (codes "n") 0 ∷ []); results = None; body_at = 30; body = (Give (One (Named 32 (codes "n")))) }) ∷ []

same_name_7 : checked 35 same_name_7_program ≡ refused (Core SameName) 10
same_name_7 = refl

-- fn f(T[], n) { let T = n; T } fn main(n) { n }
abbrev same_name_8_program : Program
same_name_8_program = Defines (record { name = (given 3 (codes "f")); params = (param 5 (codes "T") 1 ∷ param 10 (codes "n") 0 ∷ []); results = None; body_at = 13; body = (Let 15 (Bind (given 19 (codes "T")) ∷ []) (One (Named 23 (codes "n"))) (Give (One (Named 26 (codes "T"))))) }) ∷ Defines (record { name = (given 33 (codes "main")); params = (param 38 (codes "n") 0 ∷ []); results = None; body_at = 41; body = (Give (One (Named 43 (codes "n")))) }) ∷ []

same_name_8 : checked 46 same_name_8_program ≡ refused (Core SameName) 19
same_name_8 = refl

-- const N = 9223372036854775807 + 1; fn main(n) { n }
abbrev bad_const_1_program : Program
bad_const_1_program = Const (given 6 (codes "N")) (Infix 30 (Direct Add) (Number 10 9223372036854775807) (Number 32 1)) ∷ Defines (record { name = (given 38 (codes "main")); params = (param 43 (codes "n") 0 ∷ []); results = None; body_at = 46; body = (Give (One (Named 48 (codes "n")))) }) ∷ []

bad_const_1 : checked 51 bad_const_1_program ≡ refused BadConst 30
bad_const_1 = refl

-- const N = 8 / 0; fn main(n) { n }
abbrev bad_const_2_program : Program
bad_const_2_program = Const (given 6 (codes "N")) (Infix 12 (Direct Div) (Number 10 8) (Number 14 0)) ∷ Defines (record { name = (given 20 (codes "main")); params = (param 25 (codes "n") 0 ∷ []); results = None; body_at = 28; body = (Give (One (Named 30 (codes "n")))) }) ∷ []

bad_const_2 : checked 33 bad_const_2_program ≡ refused BadConst 12
bad_const_2 = refl

-- const N = 1 << 64; fn main(n) { n }
abbrev bad_const_3_program : Program
bad_const_3_program = Const (given 6 (codes "N")) (Infix 12 (Direct Shl) (Number 10 1) (Number 15 64)) ∷ Defines (record { name = (given 22 (codes "main")); params = (param 27 (codes "n") 0 ∷ []); results = None; body_at = 30; body = (Give (One (Named 32 (codes "n")))) }) ∷ []

bad_const_3 : checked 35 bad_const_3_program ≡ refused BadConst 12
bad_const_3 = refl

-- const N = 1 << 63; fn main(n) { n }
abbrev bad_const_4_program : Program
bad_const_4_program = Const (given 6 (codes "N")) (Infix 12 (Direct Shl) (Number 10 1) (Number 15 63)) ∷ Defines (record { name = (given 22 (codes "main")); params = (param 27 (codes "n") 0 ∷ []); results = None; body_at = 30; body = (Give (One (Named 32 (codes "n")))) }) ∷ []

bad_const_4 : checked 35 bad_const_4_program ≡ refused BadConst 12
bad_const_4 = refl

-- const N = -9223372036854775808; const M = -N; fn main(n) { n }
abbrev bad_const_5_program : Program
bad_const_5_program = Const (given 6 (codes "N")) (Prefix 10 Neg (Number 11 9223372036854775808)) ∷ Const (given 38 (codes "M")) (Prefix 42 Neg (Named 43 (codes "N"))) ∷ Defines (record { name = (given 49 (codes "main")); params = (param 54 (codes "n") 0 ∷ []); results = None; body_at = 57; body = (Give (One (Named 59 (codes "n")))) }) ∷ []

bad_const_5 : checked 62 bad_const_5_program ≡ refused BadConst 42
bad_const_5 = refl

-- const N = main(8); fn main(n) { n }
abbrev bad_const_6_program : Program
bad_const_6_program = Const (given 6 (codes "N")) (Call 10 false (codes "main") (One (Number 15 8))) ∷ Defines (record { name = (given 22 (codes "main")); params = (param 27 (codes "n") 0 ∷ []); results = None; body_at = 30; body = (Give (One (Named 32 (codes "n")))) }) ∷ []

bad_const_6 : checked 35 bad_const_6_program ≡ refused BadConst 10
bad_const_6 = refl

-- const N = 1 and 2; fn main(n) { n }
abbrev bad_const_7_program : Program
bad_const_7_program = Const (given 6 (codes "N")) (And 12 (Number 10 1) (Number 16 2)) ∷ Defines (record { name = (given 22 (codes "main")); params = (param 27 (codes "n") 0 ∷ []); results = None; body_at = 30; body = (Give (One (Named 32 (codes "n")))) }) ∷ []

bad_const_7 : checked 35 bad_const_7_program ≡ refused BadConst 12
bad_const_7 = refl

-- array A[8]; const N = A; fn main(n) { n }
abbrev bad_const_8_program : Program
bad_const_8_program = Cells (given 6 (codes "A")) (One (Number 8 8)) ∷ Const (given 18 (codes "N")) (Named 22 (codes "A")) ∷ Defines (record { name = (given 28 (codes "main")); params = (param 33 (codes "n") 0 ∷ []); results = None; body_at = 36; body = (Give (One (Named 38 (codes "n")))) }) ∷ []

bad_const_8 : checked 41 bad_const_8_program ≡ refused BadConst 22
bad_const_8 = refl

-- array A[8]; const N = A[0]; fn main(n) { n }
abbrev bad_const_9_program : Program
bad_const_9_program = Cells (given 6 (codes "A")) (One (Number 8 8)) ∷ Const (given 18 (codes "N")) (Fetch 22 (codes "A") (One (Number 24 0))) ∷ Defines (record { name = (given 31 (codes "main")); params = (param 36 (codes "n") 0 ∷ []); results = None; body_at = 39; body = (Give (One (Named 41 (codes "n")))) }) ∷ []

bad_const_9 : checked 44 bad_const_9_program ≡ refused BadConst 22
bad_const_9 = refl

-- const N = M; const M = 8; fn main(n) { n }
abbrev no_such_name_1_program : Program
no_such_name_1_program = Const (given 6 (codes "N")) (Named 10 (codes "M")) ∷ Const (given 19 (codes "M")) (Number 23 8) ∷ Defines (record { name = (given 29 (codes "main")); params = (param 34 (codes "n") 0 ∷ []); results = None; body_at = 37; body = (Give (One (Named 39 (codes "n")))) }) ∷ []

no_such_name_1 : checked 42 no_such_name_1_program ≡ refused (Core NoSuchName) 10
no_such_name_1 = refl

-- array A[N]; const N = 8; fn main(n) { n }
abbrev no_such_name_2_program : Program
no_such_name_2_program = Cells (given 6 (codes "A")) (One (Named 8 (codes "N"))) ∷ Const (given 18 (codes "N")) (Number 22 8) ∷ Defines (record { name = (given 28 (codes "main")); params = (param 33 (codes "n") 0 ∷ []); results = None; body_at = 36; body = (Give (One (Named 38 (codes "n")))) }) ∷ []

no_such_name_2 : checked 41 no_such_name_2_program ≡ refused (Core NoSuchName) 8
no_such_name_2 = refl

-- fn main(n) -> K { n } const K = 1;
abbrev no_such_name_3_program : Program
no_such_name_3_program = Defines (record { name = (given 3 (codes "main")); params = (param 8 (codes "n") 0 ∷ []); results = (Some (Constant 14 (codes "K"))); body_at = 16; body = (Give (One (Named 18 (codes "n")))) }) ∷ Const (given 28 (codes "K")) (Number 32 1) ∷ []

no_such_name_3 : checked 34 no_such_name_3_program ≡ refused (Core NoSuchName) 14
no_such_name_3 = refl

-- fn main(n) { K } const K = 1;
abbrev ok_6_program : Program
ok_6_program = Defines (record { name = (given 3 (codes "main")); params = (param 8 (codes "n") 0 ∷ []); results = None; body_at = 11; body = (Give (One (Named 13 (codes "K")))) }) ∷ Const (given 23 (codes "K")) (Number 27 1) ∷ []

ok_6 : checked 29 ok_6_program ≡ Ok tt
ok_6 = refl

-- const N = 0; array A[N]; fn main(n) { n }
abbrev bad_count_1_program : Program
bad_count_1_program = Const (given 6 (codes "N")) (Number 10 0) ∷ Cells (given 19 (codes "A")) (One (Named 21 (codes "N"))) ∷ Defines (record { name = (given 28 (codes "main")); params = (param 33 (codes "n") 0 ∷ []); results = None; body_at = 36; body = (Give (One (Named 38 (codes "n")))) }) ∷ []

bad_count_1 : checked 41 bad_count_1_program ≡ refused (Core BadCount) 21
bad_count_1 = refl

-- const N = 8; array A[N - 9]; fn main(n) { n }
abbrev bad_count_2_program : Program
bad_count_2_program = Const (given 6 (codes "N")) (Number 10 8) ∷ Cells (given 19 (codes "A")) (One (Infix 23 (Direct Sub) (Named 21 (codes "N")) (Number 25 9))) ∷ Defines (record { name = (given 32 (codes "main")); params = (param 37 (codes "n") 0 ∷ []); results = None; body_at = 40; body = (Give (One (Named 42 (codes "n")))) }) ∷ []

bad_count_2 : checked 45 bad_count_2_program ≡ refused (Core BadCount) 23
bad_count_2 = refl

-- array A[256, 257]; fn main(n) { n }
abbrev bad_count_3_program : Program
bad_count_3_program = Cells (given 6 (codes "A")) (More (Number 8 256) (One (Number 13 257))) ∷ Defines (record { name = (given 22 (codes "main")); params = (param 27 (codes "n") 0 ∷ []); results = None; body_at = 30; body = (Give (One (Named 32 (codes "n")))) }) ∷ []

bad_count_3 : checked 35 bad_count_3_program ≡ refused (Core BadCount) 13
bad_count_3 = refl

-- array A[4, 0, 4]; fn main(n) { n }
abbrev bad_count_4_program : Program
bad_count_4_program = Cells (given 6 (codes "A")) (More (Number 8 4) (More (Number 11 0) (One (Number 14 4)))) ∷ Defines (record { name = (given 21 (codes "main")); params = (param 26 (codes "n") 0 ∷ []); results = None; body_at = 29; body = (Give (One (Named 31 (codes "n")))) }) ∷ []

bad_count_4 : checked 34 bad_count_4_program ≡ refused (Core BadCount) 11
bad_count_4 = refl

-- array A[256, 255]; array B[16, 32]; fn main(n) { n }
abbrev too_many_1_program : Program
too_many_1_program = Cells (given 6 (codes "A")) (More (Number 8 256) (One (Number 13 255))) ∷ Cells (given 25 (codes "B")) (More (Number 27 16) (One (Number 31 32))) ∷ Defines (record { name = (given 39 (codes "main")); params = (param 44 (codes "n") 0 ∷ []); results = None; body_at = 47; body = (Give (One (Named 49 (codes "n")))) }) ∷ []

too_many_1 : checked 52 too_many_1_program ≡ refused (Core TooMany) 31
too_many_1 = refl

-- const K = 17; fn main(n) -> K { n }
abbrev bad_count_5_program : Program
bad_count_5_program = Const (given 6 (codes "K")) (Number 10 17) ∷ Defines (record { name = (given 17 (codes "main")); params = (param 22 (codes "n") 0 ∷ []); results = (Some (Constant 28 (codes "K"))); body_at = 30; body = (Give (One (Named 32 (codes "n")))) }) ∷ []

bad_count_5 : checked 35 bad_count_5_program ≡ refused (Core BadCount) 28
bad_count_5 = refl

-- array A[2, 2, 2, 2]; fn main(n) { n }
abbrev bad_array_1_program : Program
bad_array_1_program = Cells (given 6 (codes "A")) (More (Number 8 2) (More (Number 11 2) (More (Number 14 2) (One (Number 17 2))))) ∷ Defines (record { name = (given 24 (codes "main")); params = (param 29 (codes "n") 0 ∷ []); results = None; body_at = 32; body = (Give (One (Named 34 (codes "n")))) }) ∷ []

bad_array_1 : checked 37 bad_array_1_program ≡ refused BadArray 6
bad_array_1 = refl

-- fn f(T[,,,], n) { n } fn main(n) { n }
abbrev bad_array_2_program : Program
bad_array_2_program = Defines (record { name = (given 3 (codes "f")); params = (param 5 (codes "T") 4 ∷ param 13 (codes "n") 0 ∷ []); results = None; body_at = 16; body = (Give (One (Named 18 (codes "n")))) }) ∷ Defines (record { name = (given 25 (codes "main")); params = (param 30 (codes "n") 0 ∷ []); results = None; body_at = 33; body = (Give (One (Named 35 (codes "n")))) }) ∷ []

bad_array_2 : checked 38 bad_array_2_program ≡ refused BadArray 5
bad_array_2 = refl

-- fn main(n, T[]) { n }
abbrev bad_array_3_program : Program
bad_array_3_program = Defines (record { name = (given 3 (codes "main")); params = (param 8 (codes "n") 0 ∷ param 11 (codes "T") 1 ∷ []); results = None; body_at = 16; body = (Give (One (Named 18 (codes "n")))) }) ∷ []

bad_array_3 : checked 21 bad_array_3_program ≡ refused BadArray 11
bad_array_3 = refl

-- fn f(T[]) { T[0] } fn main(n) { n }
abbrev bad_array_4_program : Program
bad_array_4_program = Defines (record { name = (given 3 (codes "f")); params = (param 5 (codes "T") 1 ∷ []); results = None; body_at = 10; body = (Give (One (Fetch 12 (codes "T") (One (Number 14 0))))) }) ∷ Defines (record { name = (given 22 (codes "main")); params = (param 27 (codes "n") 0 ∷ []); results = None; body_at = 30; body = (Give (One (Named 32 (codes "n")))) }) ∷ []

bad_array_4 : checked 35 bad_array_4_program ≡ refused BadArray 3
bad_array_4 = refl

-- fn main(n) { for 1 i in 0..n { i } }
abbrev bad_bound_1_program : Program
bad_bound_1_program = Defines (record { name = (given 3 (codes "main")); params = (param 8 (codes "n") 0 ∷ []); results = None; body_at = 11; body = (Give (One (For 13 (Some (Written 17 1)) (given 19 (codes "i")) (Number 24 0) (Named 27 (codes "n")) Nothing (Give (One (Named 31 (codes "i"))))))) }) ∷ []

bad_bound_1 : checked 36 bad_bound_1_program ≡ refused (Core BadBound) 17
bad_bound_1 = refl

-- const K = 65; fn main(n) { loop K (i = 0) while i < n { i + 1 } }
abbrev bad_bound_2_program : Program
bad_bound_2_program = Const (given 6 (codes "K")) (Number 10 65) ∷ Defines (record { name = (given 17 (codes "main")); params = (param 22 (codes "n") 0 ∷ []); results = None; body_at = 25; body = (Give (One (Loop 27 (Constant 32 (codes "K")) (One (Number 39 0)) (Before ((given 35 (codes "i")) ∷ []) (Infix 50 (Direct Lt) (Named 48 (codes "i")) (Named 52 (codes "n"))) (Give (One (Infix 58 (Direct Add) (Named 56 (codes "i")) (Number 60 1)))))))) }) ∷ []

bad_bound_2 : checked 65 bad_bound_2_program ≡ refused (Core BadBound) 32
bad_bound_2 = refl

-- fn main(n) { for K i in 0..n { i } }
abbrev no_such_name_4_program : Program
no_such_name_4_program = Defines (record { name = (given 3 (codes "main")); params = (param 8 (codes "n") 0 ∷ []); results = None; body_at = 11; body = (Give (One (For 13 (Some (Constant 17 (codes "K"))) (given 19 (codes "i")) (Number 24 0) (Named 27 (codes "n")) Nothing (Give (One (Named 31 (codes "i"))))))) }) ∷ []

no_such_name_4 : checked 36 no_such_name_4_program ≡ refused (Core NoSuchName) 17
no_such_name_4 = refl

-- fn main(n) { for f i in 0..n { i } } fn f(x) { x }
abbrev bad_const_10_program : Program
bad_const_10_program = Defines (record { name = (given 3 (codes "main")); params = (param 8 (codes "n") 0 ∷ []); results = None; body_at = 11; body = (Give (One (For 13 (Some (Constant 17 (codes "f"))) (given 19 (codes "i")) (Number 24 0) (Named 27 (codes "n")) Nothing (Give (One (Named 31 (codes "i"))))))) }) ∷ Defines (record { name = (given 40 (codes "f")); params = (param 42 (codes "x") 0 ∷ []); results = None; body_at = 45; body = (Give (One (Named 47 (codes "x")))) }) ∷ []

bad_const_10 : checked 50 bad_const_10_program ≡ refused BadConst 17
bad_const_10 = refl

-- fn main(n) { for i in 0..i { i } }
abbrev no_such_name_5_program : Program
no_such_name_5_program = Defines (record { name = (given 3 (codes "main")); params = (param 8 (codes "n") 0 ∷ []); results = None; body_at = 11; body = (Give (One (For 13 None (given 17 (codes "i")) (Number 22 0) (Named 25 (codes "i")) Nothing (Give (One (Named 29 (codes "i"))))))) }) ∷ []

no_such_name_5 : checked 34 no_such_name_5_program ≡ refused (Core NoSuchName) 25
no_such_name_5 = refl

-- fn main(n) { for i in 0..n with s = 0, t = s { s, t } }
abbrev no_such_name_6_program : Program
no_such_name_6_program = Defines (record { name = (given 3 (codes "main")); params = (param 8 (codes "n") 0 ∷ []); results = None; body_at = 11; body = (Give (One (For 13 None (given 17 (codes "i")) (Number 22 0) (Named 25 (codes "n")) (With ((given 32 (codes "s")) ∷ (given 39 (codes "t")) ∷ []) (More (Number 36 0) (One (Named 43 (codes "s"))))) (Give (More (Named 47 (codes "s")) (One (Named 50 (codes "t")))))))) }) ∷ []

no_such_name_6 : checked 55 no_such_name_6_program ≡ refused (Core NoSuchName) 43
no_such_name_6 = refl

-- fn main(n) { for i in 0..n { i }, i }
abbrev no_such_name_7_program : Program
no_such_name_7_program = Defines (record { name = (given 3 (codes "main")); params = (param 8 (codes "n") 0 ∷ []); results = None; body_at = 11; body = (Give (More (For 13 None (given 17 (codes "i")) (Number 22 0) (Named 25 (codes "n")) Nothing (Give (One (Named 29 (codes "i"))))) (One (Named 34 (codes "i"))))) }) ∷ []

no_such_name_7 : checked 37 no_such_name_7_program ≡ refused (Core NoSuchName) 34
no_such_name_7 = refl

-- array A[8]; fn main(n) { A[0], A, B[0] }
abbrev no_such_name_8_program : Program
no_such_name_8_program = Cells (given 6 (codes "A")) (One (Number 8 8)) ∷ Defines (record { name = (given 15 (codes "main")); params = (param 20 (codes "n") 0 ∷ []); results = None; body_at = 23; body = (Give (More (Fetch 25 (codes "A") (One (Number 27 0))) (More (Named 31 (codes "A")) (One (Fetch 34 (codes "B") (One (Number 36 0))))))) }) ∷ []

no_such_name_8 : checked 40 no_such_name_8_program ≡ refused (Core NoSuchName) 31
no_such_name_8 = refl

-- fn main(n) { strict min(n, n) }
abbrev no_such_name_9_program : Program
no_such_name_9_program = Defines (record { name = (given 3 (codes "main")); params = (param 8 (codes "n") 0 ∷ []); results = None; body_at = 11; body = (Give (One (Call 20 true (codes "min") (More (Named 24 (codes "n")) (One (Named 27 (codes "n"))))))) }) ∷ []

no_such_name_9 : checked 31 no_such_name_9_program ≡ refused (Core NoSuchName) 20
no_such_name_9 = refl

-- fn main(n) { len(n) }
abbrev no_such_name_10_program : Program
no_such_name_10_program = Defines (record { name = (given 3 (codes "main")); params = (param 8 (codes "n") 0 ∷ []); results = None; body_at = 11; body = (Give (One (Call 13 false (codes "len") (One (Named 17 (codes "n")))))) }) ∷ []

no_such_name_10 : checked 21 no_such_name_10_program ≡ refused (Core NoSuchName) 17
no_such_name_10 = refl

-- array A[8]; fn main(n) { abs(n, A) }
abbrev no_such_name_11_program : Program
no_such_name_11_program = Cells (given 6 (codes "A")) (One (Number 8 8)) ∷ Defines (record { name = (given 15 (codes "main")); params = (param 20 (codes "n") 0 ∷ []); results = None; body_at = 23; body = (Give (One (Call 25 false (codes "abs") (More (Named 29 (codes "n")) (One (Named 32 (codes "A"))))))) }) ∷ []

no_such_name_11 : checked 36 no_such_name_11_program ≡ refused (Core NoSuchName) 32
no_such_name_11 = refl

-- fn main(n) { min(n) }
abbrev arity_1_program : Program
arity_1_program = Defines (record { name = (given 3 (codes "main")); params = (param 8 (codes "n") 0 ∷ []); results = None; body_at = 11; body = (Give (One (Call 13 false (codes "min") (One (Named 17 (codes "n")))))) }) ∷ []

arity_1 : checked 21 arity_1_program ≡ refused (Core Arity) 13
arity_1 = refl

-- fn main(n) { for i in 0..n with s = 0 { s, s } }
abbrev arity_2_program : Program
arity_2_program = Defines (record { name = (given 3 (codes "main")); params = (param 8 (codes "n") 0 ∷ []); results = None; body_at = 11; body = (Give (One (For 13 None (given 17 (codes "i")) (Number 22 0) (Named 25 (codes "n")) (With ((given 32 (codes "s")) ∷ []) (One (Number 36 0))) (Give (More (Named 40 (codes "s")) (One (Named 43 (codes "s")))))))) }) ∷ []

arity_2 : checked 48 arity_2_program ≡ refused (Core Arity) 13
arity_2 = refl

-- fn f(n) -> 2 { n, n } fn main(n) { for i in f(n)..n { i } }
abbrev arity_3_program : Program
arity_3_program = Defines (record { name = (given 3 (codes "f")); params = (param 5 (codes "n") 0 ∷ []); results = (Some (Written 11 2)); body_at = 13; body = (Give (More (Named 15 (codes "n")) (One (Named 18 (codes "n"))))) }) ∷ Defines (record { name = (given 25 (codes "main")); params = (param 30 (codes "n") 0 ∷ []); results = None; body_at = 33; body = (Give (One (For 35 None (given 39 (codes "i")) (Call 44 false (codes "f") (One (Named 46 (codes "n")))) (Named 50 (codes "n")) Nothing (Give (One (Named 54 (codes "i"))))))) }) ∷ []

arity_3 : checked 59 arity_3_program ≡ refused (Core Arity) 44
arity_3 = refl

-- fn f(n) -> 2 { n, n } fn main(n) { if f(n) { n }; n }
abbrev arity_4_program : Program
arity_4_program = Defines (record { name = (given 3 (codes "f")); params = (param 5 (codes "n") 0 ∷ []); results = (Some (Written 11 2)); body_at = 13; body = (Give (More (Named 15 (codes "n")) (One (Named 18 (codes "n"))))) }) ∷ Defines (record { name = (given 25 (codes "main")); params = (param 30 (codes "n") 0 ∷ []); results = None; body_at = 33; body = (When (Last 35 (Call 38 false (codes "f") (One (Named 40 (codes "n")))) (Give (One (Named 45 (codes "n"))))) (Give (One (Named 50 (codes "n"))))) }) ∷ []

arity_4 : checked 53 arity_4_program ≡ refused (Core Arity) 38
arity_4 = refl

-- fn f(n) -> 2 { n, n } fn main(n) { f(n) and n }
abbrev arity_5_program : Program
arity_5_program = Defines (record { name = (given 3 (codes "f")); params = (param 5 (codes "n") 0 ∷ []); results = (Some (Written 11 2)); body_at = 13; body = (Give (More (Named 15 (codes "n")) (One (Named 18 (codes "n"))))) }) ∷ Defines (record { name = (given 25 (codes "main")); params = (param 30 (codes "n") 0 ∷ []); results = None; body_at = 33; body = (Give (One (And 40 (Call 35 false (codes "f") (One (Named 37 (codes "n")))) (Named 44 (codes "n"))))) }) ∷ []

arity_5 : checked 47 arity_5_program ≡ refused (Core Arity) 35
arity_5 = refl

-- fn f(n) -> 2 { n, n } fn main(n) { not f(n) }
abbrev arity_6_program : Program
arity_6_program = Defines (record { name = (given 3 (codes "f")); params = (param 5 (codes "n") 0 ∷ []); results = (Some (Written 11 2)); body_at = 13; body = (Give (More (Named 15 (codes "n")) (One (Named 18 (codes "n"))))) }) ∷ Defines (record { name = (given 25 (codes "main")); params = (param 30 (codes "n") 0 ∷ []); results = None; body_at = 33; body = (Give (One (Not 35 (Call 39 false (codes "f") (One (Named 41 (codes "n"))))))) }) ∷ []

arity_6 : checked 45 arity_6_program ≡ refused (Core Arity) 39
arity_6 = refl

-- array A[4, 4]; fn main(n) { A[n] }
abbrev arity_7_program : Program
arity_7_program = Cells (given 6 (codes "A")) (More (Number 8 4) (One (Number 11 4))) ∷ Defines (record { name = (given 18 (codes "main")); params = (param 23 (codes "n") 0 ∷ []); results = None; body_at = 26; body = (Give (One (Fetch 28 (codes "A") (One (Named 30 (codes "n")))))) }) ∷ []

arity_7 : checked 34 arity_7_program ≡ refused (Core Arity) 28
arity_7 = refl

-- array A[4]; fn main(n) { A[n, n] := 1 }
abbrev arity_8_program : Program
arity_8_program = Cells (given 6 (codes "A")) (One (Number 8 4)) ∷ Defines (record { name = (given 15 (codes "main")); params = (param 20 (codes "n") 0 ∷ []); results = None; body_at = 23; body = (Give (One (Store 25 (codes "A") (More (Named 27 (codes "n")) (One (Named 30 (codes "n")))) (Number 36 1)))) }) ∷ []

arity_8 : checked 39 arity_8_program ≡ refused (Core Arity) 25
arity_8 = refl

-- fn f(T[,], n) { T[n] } fn main(n) { n }
abbrev arity_9_program : Program
arity_9_program = Defines (record { name = (given 3 (codes "f")); params = (param 5 (codes "T") 2 ∷ param 11 (codes "n") 0 ∷ []); results = None; body_at = 14; body = (Give (One (Fetch 16 (codes "T") (One (Named 18 (codes "n")))))) }) ∷ Defines (record { name = (given 26 (codes "main")); params = (param 31 (codes "n") 0 ∷ []); results = None; body_at = 34; body = (Give (One (Named 36 (codes "n")))) }) ∷ []

arity_9 : checked 39 arity_9_program ≡ refused (Core Arity) 16
arity_9 = refl

-- fn f(T[,], n) { f(T, T, n) } fn main(n) { n }
abbrev arity_10_program : Program
arity_10_program = Defines (record { name = (given 3 (codes "f")); params = (param 5 (codes "T") 2 ∷ param 11 (codes "n") 0 ∷ []); results = None; body_at = 14; body = (Give (One (Call 16 false (codes "f") (More (Named 18 (codes "T")) (More (Named 21 (codes "T")) (One (Named 24 (codes "n")))))))) }) ∷ Defines (record { name = (given 32 (codes "main")); params = (param 37 (codes "n") 0 ∷ []); results = None; body_at = 40; body = (Give (One (Named 42 (codes "n")))) }) ∷ []

arity_10 : checked 45 arity_10_program ≡ refused (Core Arity) 16
arity_10 = refl

-- array A[4]; fn f(T[,], n) { T[n, n] } fn main(n) { f(A, n) }
abbrev arity_11_program : Program
arity_11_program = Cells (given 6 (codes "A")) (One (Number 8 4)) ∷ Defines (record { name = (given 15 (codes "f")); params = (param 17 (codes "T") 2 ∷ param 23 (codes "n") 0 ∷ []); results = None; body_at = 26; body = (Give (One (Fetch 28 (codes "T") (More (Named 30 (codes "n")) (One (Named 33 (codes "n"))))))) }) ∷ Defines (record { name = (given 41 (codes "main")); params = (param 46 (codes "n") 0 ∷ []); results = None; body_at = 49; body = (Give (One (Call 51 false (codes "f") (More (Named 53 (codes "A")) (One (Named 56 (codes "n"))))))) }) ∷ []

arity_11 : checked 60 arity_11_program ≡ refused (Core Arity) 51
arity_11 = refl

-- array A[4]; fn f(T[], n) { T[n] } fn main(n) { f(n, A) }
abbrev arity_12_program : Program
arity_12_program = Cells (given 6 (codes "A")) (One (Number 8 4)) ∷ Defines (record { name = (given 15 (codes "f")); params = (param 17 (codes "T") 1 ∷ param 22 (codes "n") 0 ∷ []); results = None; body_at = 25; body = (Give (One (Fetch 27 (codes "T") (One (Named 29 (codes "n")))))) }) ∷ Defines (record { name = (given 37 (codes "main")); params = (param 42 (codes "n") 0 ∷ []); results = None; body_at = 45; body = (Give (One (Call 47 false (codes "f") (More (Named 49 (codes "n")) (One (Named 52 (codes "A"))))))) }) ∷ []

arity_12 : checked 56 arity_12_program ≡ refused (Core Arity) 47
arity_12 = refl

-- array A[4]; fn f(T[], n) { T[n] } fn main(n) { f((A), n) }
abbrev no_such_name_12_program : Program
no_such_name_12_program = Cells (given 6 (codes "A")) (One (Number 8 4)) ∷ Defines (record { name = (given 15 (codes "f")); params = (param 17 (codes "T") 1 ∷ param 22 (codes "n") 0 ∷ []); results = None; body_at = 25; body = (Give (One (Fetch 27 (codes "T") (One (Named 29 (codes "n")))))) }) ∷ Defines (record { name = (given 37 (codes "main")); params = (param 42 (codes "n") 0 ∷ []); results = None; body_at = 45; body = (Give (One (Call 47 false (codes "f") (More (Bracket (Named 50 (codes "A"))) (One (Named 54 (codes "n"))))))) }) ∷ []

no_such_name_12 : checked 58 no_such_name_12_program ≡ refused (Core NoSuchName) 50
no_such_name_12 = refl

-- array A[4]; fn f(n, T[], m, k) { T[n] } fn g(n) -> 2 { n, n } fn main(n) { f(n, A, g(n)) }
abbrev ok_7_program : Program
ok_7_program = Cells (given 6 (codes "A")) (One (Number 8 4)) ∷ Defines (record { name = (given 15 (codes "f")); params = (param 17 (codes "n") 0 ∷ param 20 (codes "T") 1 ∷ param 25 (codes "m") 0 ∷ param 28 (codes "k") 0 ∷ []); results = None; body_at = 31; body = (Give (One (Fetch 33 (codes "T") (One (Named 35 (codes "n")))))) }) ∷ Defines (record { name = (given 43 (codes "g")); params = (param 45 (codes "n") 0 ∷ []); results = (Some (Written 51 2)); body_at = 53; body = (Give (More (Named 55 (codes "n")) (One (Named 58 (codes "n"))))) }) ∷ Defines (record { name = (given 65 (codes "main")); params = (param 70 (codes "n") 0 ∷ []); results = None; body_at = 73; body = (Give (One (Call 75 false (codes "f") (More (Named 77 (codes "n")) (More (Named 80 (codes "A")) (One (Call 83 false (codes "g") (One (Named 85 (codes "n")))))))))) }) ∷ []

ok_7 : checked 90 ok_7_program ≡ Ok tt
ok_7 = refl

-- array A[4]; fn main(n) { len(A, 1) }
abbrev bad_count_6_program : Program
bad_count_6_program = Cells (given 6 (codes "A")) (One (Number 8 4)) ∷ Defines (record { name = (given 15 (codes "main")); params = (param 20 (codes "n") 0 ∷ []); results = None; body_at = 23; body = (Give (One (Call 25 false (codes "len") (More (Named 29 (codes "A")) (One (Number 32 1)))))) }) ∷ []

bad_count_6 : checked 36 bad_count_6_program ≡ refused (Core BadCount) 32
bad_count_6 = refl

-- array A[4]; fn main(n) { len(A, f) } fn f(x) { x }
abbrev bad_const_11_program : Program
bad_const_11_program = Cells (given 6 (codes "A")) (One (Number 8 4)) ∷ Defines (record { name = (given 15 (codes "main")); params = (param 20 (codes "n") 0 ∷ []); results = None; body_at = 23; body = (Give (One (Call 25 false (codes "len") (More (Named 29 (codes "A")) (One (Named 32 (codes "f"))))))) }) ∷ Defines (record { name = (given 40 (codes "f")); params = (param 42 (codes "x") 0 ∷ []); results = None; body_at = 45; body = (Give (One (Named 47 (codes "x")))) }) ∷ []

bad_const_11 : checked 50 bad_const_11_program ≡ refused BadConst 32
bad_const_11 = refl

-- array A[4]; fn main(n) { len(A, m) }
abbrev no_such_name_13_program : Program
no_such_name_13_program = Cells (given 6 (codes "A")) (One (Number 8 4)) ∷ Defines (record { name = (given 15 (codes "main")); params = (param 20 (codes "n") 0 ∷ []); results = None; body_at = 23; body = (Give (One (Call 25 false (codes "len") (More (Named 29 (codes "A")) (One (Named 32 (codes "m"))))))) }) ∷ []

no_such_name_13 : checked 36 no_such_name_13_program ≡ refused (Core NoSuchName) 32
no_such_name_13 = refl

-- array A[4]; fn min(x) { x } fn main(n) { min(n) + max(n, len(A)) }
abbrev ok_8_program : Program
ok_8_program = Cells (given 6 (codes "A")) (One (Number 8 4)) ∷ Defines (record { name = (given 15 (codes "min")); params = (param 19 (codes "x") 0 ∷ []); results = None; body_at = 22; body = (Give (One (Named 24 (codes "x")))) }) ∷ Defines (record { name = (given 31 (codes "main")); params = (param 36 (codes "n") 0 ∷ []); results = None; body_at = 39; body = (Give (One (Infix 48 (Direct Add) (Call 41 false (codes "min") (One (Named 45 (codes "n")))) (Call 50 false (codes "max") (More (Named 54 (codes "n")) (One (Call 57 false (codes "len") (One (Named 61 (codes "A")))))))))) }) ∷ []

ok_8 : checked 66 ok_8_program ≡ Ok tt
ok_8 = refl

-- const N = 8;
abbrev no_main_1_program : Program
no_main_1_program = Const (given 6 (codes "N")) (Number 10 8) ∷ []

no_main_1 : checked 13 no_main_1_program ≡ refused (Core NoMain) 13
no_main_1 = refl

-- fn main(a, b, c, d, e, f, g, h, i, j, k, l, m, n) { (for x in 0..n with s = 0 { a + b + c + d + e + f + g + h + i + j + k + l + m + n }) }
abbrev too_wide_1_program : Program
too_wide_1_program = Defines (record { name = (given 3 (codes "main")); params = (param 8 (codes "a") 0 ∷ param 11 (codes "b") 0 ∷ param 14 (codes "c") 0 ∷ param 17 (codes "d") 0 ∷ param 20 (codes "e") 0 ∷ param 23 (codes "f") 0 ∷ param 26 (codes "g") 0 ∷ param 29 (codes "h") 0 ∷ param 32 (codes "i") 0 ∷ param 35 (codes "j") 0 ∷ param 38 (codes "k") 0 ∷ param 41 (codes "l") 0 ∷ param 44 (codes "m") 0 ∷ param 47 (codes "n") 0 ∷ []); results = None; body_at = 50; body = (Give (One (Bracket (For 53 None (given 57 (codes "x")) (Number 62 0) (Named 65 (codes "n")) (With ((given 72 (codes "s")) ∷ []) (One (Number 76 0))) (Give (One (Infix 130 (Direct Add) (Infix 126 (Direct Add) (Infix 122 (Direct Add) (Infix 118 (Direct Add) (Infix 114 (Direct Add) (Infix 110 (Direct Add) (Infix 106 (Direct Add) (Infix 102 (Direct Add) (Infix 98 (Direct Add) (Infix 94 (Direct Add) (Infix 90 (Direct Add) (Infix 86 (Direct Add) (Infix 82 (Direct Add) (Named 80 (codes "a")) (Named 84 (codes "b"))) (Named 88 (codes "c"))) (Named 92 (codes "d"))) (Named 96 (codes "e"))) (Named 100 (codes "f"))) (Named 104 (codes "g"))) (Named 108 (codes "h"))) (Named 112 (codes "i"))) (Named 116 (codes "j"))) (Named 120 (codes "k"))) (Named 124 (codes "l"))) (Named 128 (codes "m"))) (Named 132 (codes "n"))))))))) }) ∷ []

too_wide_1 : checked 138 too_wide_1_program ≡ refused (Core TooWide) 53
too_wide_1 = refl

-- fn main(a, b, c, d, e, f, g, h, i, j, k, l, m, n) { for x in 0..n with s = 0 { a + b + c + d + e + f + g + h + i + j + k + l + n } }
abbrev ok_9_program : Program
ok_9_program = Defines (record { name = (given 3 (codes "main")); params = (param 8 (codes "a") 0 ∷ param 11 (codes "b") 0 ∷ param 14 (codes "c") 0 ∷ param 17 (codes "d") 0 ∷ param 20 (codes "e") 0 ∷ param 23 (codes "f") 0 ∷ param 26 (codes "g") 0 ∷ param 29 (codes "h") 0 ∷ param 32 (codes "i") 0 ∷ param 35 (codes "j") 0 ∷ param 38 (codes "k") 0 ∷ param 41 (codes "l") 0 ∷ param 44 (codes "m") 0 ∷ param 47 (codes "n") 0 ∷ []); results = None; body_at = 50; body = (Give (One (For 52 None (given 56 (codes "x")) (Number 61 0) (Named 64 (codes "n")) (With ((given 71 (codes "s")) ∷ []) (One (Number 75 0))) (Give (One (Infix 125 (Direct Add) (Infix 121 (Direct Add) (Infix 117 (Direct Add) (Infix 113 (Direct Add) (Infix 109 (Direct Add) (Infix 105 (Direct Add) (Infix 101 (Direct Add) (Infix 97 (Direct Add) (Infix 93 (Direct Add) (Infix 89 (Direct Add) (Infix 85 (Direct Add) (Infix 81 (Direct Add) (Named 79 (codes "a")) (Named 83 (codes "b"))) (Named 87 (codes "c"))) (Named 91 (codes "d"))) (Named 95 (codes "e"))) (Named 99 (codes "f"))) (Named 103 (codes "g"))) (Named 107 (codes "h"))) (Named 111 (codes "i"))) (Named 115 (codes "j"))) (Named 119 (codes "k"))) (Named 123 (codes "l"))) (Named 127 (codes "n")))))))) }) ∷ []

ok_9 : checked 132 ok_9_program ≡ Ok tt
ok_9 = refl

-- fn main(a, b, c, d, e, f, g, h, i, j, k, l, m, n) { for x in 0..n - 1 with s = 0 { a + b + c + d + e + f + g + h + i + j + k + l + n } }
abbrev too_wide_2_program : Program
too_wide_2_program = Defines (record { name = (given 3 (codes "main")); params = (param 8 (codes "a") 0 ∷ param 11 (codes "b") 0 ∷ param 14 (codes "c") 0 ∷ param 17 (codes "d") 0 ∷ param 20 (codes "e") 0 ∷ param 23 (codes "f") 0 ∷ param 26 (codes "g") 0 ∷ param 29 (codes "h") 0 ∷ param 32 (codes "i") 0 ∷ param 35 (codes "j") 0 ∷ param 38 (codes "k") 0 ∷ param 41 (codes "l") 0 ∷ param 44 (codes "m") 0 ∷ param 47 (codes "n") 0 ∷ []); results = None; body_at = 50; body = (Give (One (For 52 None (given 56 (codes "x")) (Number 61 0) (Infix 66 (Direct Sub) (Named 64 (codes "n")) (Number 68 1)) (With ((given 75 (codes "s")) ∷ []) (One (Number 79 0))) (Give (One (Infix 129 (Direct Add) (Infix 125 (Direct Add) (Infix 121 (Direct Add) (Infix 117 (Direct Add) (Infix 113 (Direct Add) (Infix 109 (Direct Add) (Infix 105 (Direct Add) (Infix 101 (Direct Add) (Infix 97 (Direct Add) (Infix 93 (Direct Add) (Infix 89 (Direct Add) (Infix 85 (Direct Add) (Named 83 (codes "a")) (Named 87 (codes "b"))) (Named 91 (codes "c"))) (Named 95 (codes "d"))) (Named 99 (codes "e"))) (Named 103 (codes "f"))) (Named 107 (codes "g"))) (Named 111 (codes "h"))) (Named 115 (codes "i"))) (Named 119 (codes "j"))) (Named 123 (codes "k"))) (Named 127 (codes "l"))) (Named 131 (codes "n")))))))) }) ∷ []

too_wide_2 : checked 136 too_wide_2_program ≡ refused (Core TooWide) 52
too_wide_2 = refl

-- fn main(a, b, c, d, e, f, g, h, i, j, k, l, m, n) { for x in 0..9 with s = 0 { a + b + c + d + e + f + g + h + i + j + k + l + n } }
abbrev ok_10_program : Program
ok_10_program = Defines (record { name = (given 3 (codes "main")); params = (param 8 (codes "a") 0 ∷ param 11 (codes "b") 0 ∷ param 14 (codes "c") 0 ∷ param 17 (codes "d") 0 ∷ param 20 (codes "e") 0 ∷ param 23 (codes "f") 0 ∷ param 26 (codes "g") 0 ∷ param 29 (codes "h") 0 ∷ param 32 (codes "i") 0 ∷ param 35 (codes "j") 0 ∷ param 38 (codes "k") 0 ∷ param 41 (codes "l") 0 ∷ param 44 (codes "m") 0 ∷ param 47 (codes "n") 0 ∷ []); results = None; body_at = 50; body = (Give (One (For 52 None (given 56 (codes "x")) (Number 61 0) (Number 64 9) (With ((given 71 (codes "s")) ∷ []) (One (Number 75 0))) (Give (One (Infix 125 (Direct Add) (Infix 121 (Direct Add) (Infix 117 (Direct Add) (Infix 113 (Direct Add) (Infix 109 (Direct Add) (Infix 105 (Direct Add) (Infix 101 (Direct Add) (Infix 97 (Direct Add) (Infix 93 (Direct Add) (Infix 89 (Direct Add) (Infix 85 (Direct Add) (Infix 81 (Direct Add) (Named 79 (codes "a")) (Named 83 (codes "b"))) (Named 87 (codes "c"))) (Named 91 (codes "d"))) (Named 95 (codes "e"))) (Named 99 (codes "f"))) (Named 103 (codes "g"))) (Named 107 (codes "h"))) (Named 111 (codes "i"))) (Named 115 (codes "j"))) (Named 119 (codes "k"))) (Named 123 (codes "l"))) (Named 127 (codes "n")))))))) }) ∷ []

ok_10 : checked 132 ok_10_program ≡ Ok tt
ok_10 = refl
