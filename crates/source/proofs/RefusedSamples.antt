-- Programs that break a rule, each with its fault.
use Rattle.std.specs.Prelude.{◌≡◌, ℕ, false, [], ◌∷◌, codes, None, Some, refl}
use Rattle.operators.specs.declared.Binary.TheVariants.{Add, Sub}
use Rattle.source.specs.declared.word.InfixSign.TheVariants.{Direct}
use Rattle.source.specs.Tree.{Name, NameAt, NumberAt, Bind, Number, Named, Infix, Fetch, Call, If, Loop, One, More, Let, Give, Before, After, Cells}
use Rattle.source.specs.Tree.{Defines, Program}
use Rattle.source.specs.declared.fault.FaultKind.TheVariants.{SameName, NoSuchName, Arity, BadBound, BadCount, TooMany, TooWide, NoMain}
use Rattle.source.specs.First.{refused}
use Rattle.source.specs.Rules.{checked}

abbrev given : ℕ → Name → NameAt
given at x = record { at = at; name = x }

abbrev counted : ℕ → ℕ → NumberAt
counted at n = record { at = at; number = n }

-- fn main(n, n) { n }
abbrev parameters : Program
parameters = Defines (record {
  name = given 3 (codes "main");
  params = ((given 8 (codes "n")) ∷ (given 11 (codes "n")) ∷ []);
  results = None;
  body_at = 14;
  body = (Give (One (Named 16 (codes "n"))));
}) ∷ []

parameters_refused : checked 19 parameters ≡ refused SameName 11
parameters_refused = refl

-- array f[2]; fn f(n) { n }
abbrev item_and_item : Program
item_and_item = Cells (given 6 (codes "f")) (counted 8 2) ∷ Defines (record {
  name = given 15 (codes "f");
  params = ((given 17 (codes "n")) ∷ []);
  results =
      None;
  body_at = 20;
  body = (Give (One (Named 22 (codes "n"))));
}) ∷ []

item_and_item_refused : checked 25 item_and_item ≡ refused SameName 15
item_and_item_refused = refl

-- fn main(f) { f } fn f(x) { x }
abbrev parameter_and_function : Program
parameter_and_function = Defines (record {
  name = given 3 (codes "main");
  params = ((given 8 (codes "f")) ∷ []);
  results = None;
  body_at = 11;
  body = (Give
      (One (Named 13 (codes "f"))));
}) ∷ Defines (record {
  name = given 20 (codes "f");
  params = ((given 22 (codes "x")) ∷ []);
  results = None;
  body_at = 25;
  body = (Give (One (Named 27 (codes "x"))));
}) ∷ []

parameter_and_function_refused : checked 30 parameter_and_function ≡ refused SameName 8
parameter_and_function_refused = refl

-- fn main(n) { let a, a = n, n; a }
abbrev targets : Program
targets = Defines (record {
  name = given 3 (codes "main");
  params = ((given 8 (codes "n")) ∷ []);
  results = None;
  body_at = 11;
  body = (Let 13 (Bind (given
      17 (codes "a")) ∷ Bind (given 20 (codes "a")) ∷ []) (More (Named 24 (codes "n")) (One (Named 27 (codes "n")))) (Give (One (Named 30 (codes "a")))));
}) ∷ []

targets_refused : checked 33 targets ≡ refused SameName 20
targets_refused = refl

-- fn main(n) { loop 4 (i = 1, i = 2) while i { i, i } }
abbrev loop_names : Program
loop_names = Defines (record {
  name = given 3 (codes "main");
  params = ((given 8 (codes "n")) ∷ []);
  results = None;
  body_at = 11;
  body = (Give (One (Loop
      13 (counted 18 4) (More (Number 25 1) (One (Number 32 2))) (Before ((given 21 (codes "i")) ∷ (given 28 (codes "i")) ∷ []) (Named 41 (codes "i")) (Give
      (More (Named 45 (codes "i")) (One (Named 48 (codes "i")))))))));
}) ∷ []

loop_names_refused : checked 53 loop_names ≡ refused SameName 28
loop_names_refused = refl

-- fn main(n) { x }
abbrev value : Program
value = Defines (record {
  name = given 3 (codes "main");
  params = ((given 8 (codes "n")) ∷ []);
  results = None;
  body_at = 11;
  body = (Give (One (Named 13
      (codes "x"))));
}) ∷ []

value_refused : checked 16 value ≡ refused NoSuchName 13
value_refused = refl

-- fn main(n) { let x = x; x }
abbrev own_target : Program
own_target = Defines (record {
  name = given 3 (codes "main");
  params = ((given 8 (codes "n")) ∷ []);
  results = None;
  body_at = 11;
  body = (Let 13 (Bind
      (given 17 (codes "x")) ∷ []) (One (Named 21 (codes "x"))) (Give (One (Named 24 (codes "x")))));
}) ∷ []

own_target_refused : checked 27 own_target ≡ refused NoSuchName 21
own_target_refused = refl

-- fn main(n) { g(n) }
abbrev function : Program
function = Defines (record {
  name = given 3 (codes "main");
  params = ((given 8 (codes "n")) ∷ []);
  results = None;
  body_at = 11;
  body = (Give (One (Call 13
      false (codes "g") (One (Named 15 (codes "n"))))));
}) ∷ []

function_refused : checked 19 function ≡ refused NoSuchName 13
function_refused = refl

-- fn main(n) { A[n] }
abbrev array : Program
array = Defines (record {
  name = given 3 (codes "main");
  params = ((given 8 (codes "n")) ∷ []);
  results = None;
  body_at = 11;
  body = (Give (One (Fetch 13
      (codes "A") (Named 15 (codes "n")))));
}) ∷ []

array_refused : checked 19 array ≡ refused NoSuchName 13
array_refused = refl

-- fn main(n) { if n { let y = 1; y } else { 1 + y } }
abbrev other_arm : Program
other_arm = Defines (record {
  name = given 3 (codes "main");
  params = ((given 8 (codes "n")) ∷ []);
  results = None;
  body_at = 11;
  body = (Give (One (If 13
      (Named 16 (codes "n")) (Let 20 (Bind (given 24 (codes "y")) ∷ []) (One (Number 28 1)) (Give (One (Named 31 (codes "y"))))) (Give (One (Infix 44 (Direct
      Add) (Number 42 1) (Named 46 (codes "y"))))))));
}) ∷ []

other_arm_refused : checked 51 other_arm ≡ refused NoSuchName 46
other_arm_refused = refl

-- fn main(n) { loop 4 (i = n) { let j = i - 1; j } while (i + j) }
abbrev body_of_a_turn : Program
body_of_a_turn = Defines (record {
  name = given 3 (codes "main");
  params = ((given 8 (codes "n")) ∷ []);
  results = None;
  body_at = 11;
  body = (Give (One
      (Loop 13 (counted 18 4) (One (Named 25 (codes "n"))) (After ((given 21 (codes "i")) ∷ []) (Let 30 (Bind (given 34 (codes "j")) ∷ []) (One (Infix 40
      (Direct Sub) (Named 38 (codes "i")) (Number 42 1))) (Give (One (Named 45 (codes "j"))))) (Infix 58 (Direct Add) (Named 56 (codes "i")) (Named 60 (codes
      "j")))))));
}) ∷ []

body_of_a_turn_refused : checked 64 body_of_a_turn ≡ refused NoSuchName 60
body_of_a_turn_refused = refl

-- fn main(n) { main(n, n) }
abbrev arguments : Program
arguments = Defines (record {
  name = given 3 (codes "main");
  params = ((given 8 (codes "n")) ∷ []);
  results = None;
  body_at = 11;
  body = (Give (One (Call 13
      false (codes "main") (More (Named 18 (codes "n")) (One (Named 21 (codes "n")))))));
}) ∷ []

arguments_refused : checked 25 arguments ≡ refused Arity 13
arguments_refused = refl

-- fn main(n) { n, n }
abbrev results : Program
results = Defines (record {
  name = given 3 (codes "main");
  params = ((given 8 (codes "n")) ∷ []);
  results = None;
  body_at = 11;
  body = (Give (More (Named 13
      (codes "n")) (One (Named 16 (codes "n")))));
}) ∷ []

results_refused : checked 19 results ≡ refused Arity 11
results_refused = refl

-- fn two(n) -> 2 { n, n } fn main(n) { 1 + two(n) }
abbrev operand : Program
operand = Defines (record {
  name = given 3 (codes "two");
  params = ((given 7 (codes "n")) ∷ []);
  results = Some (counted 13 2);
  body_at = 15;
  body = (Give
      (More (Named 17 (codes "n")) (One (Named 20 (codes "n")))));
}) ∷ Defines (record {
  name = given 27 (codes "main");
  params = ((given 32 (codes "n")) ∷
      []);
  results = None;
  body_at = 35;
  body = (Give (One (Infix 39 (Direct Add) (Number 37 1) (Call 41 false (codes "two") (One (Named 45 (codes "n")))))));
}) ∷ []

operand_refused : checked 49 operand ≡ refused Arity 41
operand_refused = refl

-- fn main(n) { let a, b = n; a }
abbrev few_values : Program
few_values = Defines (record {
  name = given 3 (codes "main");
  params = ((given 8 (codes "n")) ∷ []);
  results = None;
  body_at = 11;
  body = (Let 13 (Bind
      (given 17 (codes "a")) ∷ Bind (given 20 (codes "b")) ∷ []) (One (Named 24 (codes "n"))) (Give (One (Named 27 (codes "a")))));
}) ∷ []

few_values_refused : checked 30 few_values ≡ refused Arity 13
few_values_refused = refl

-- fn main(n) { if n { 1, 2 } else { 3 } }
abbrev arms : Program
arms = Defines (record {
  name = given 3 (codes "main");
  params = ((given 8 (codes "n")) ∷ []);
  results = None;
  body_at = 11;
  body = (Give (One (If 13 (Named
      16 (codes "n")) (Give (More (Number 20 1) (One (Number 23 2)))) (Give (One (Number 34 3))))));
}) ∷ []

arms_refused : checked 39 arms ≡ refused Arity 13
arms_refused = refl

-- fn main(n) { loop 4 (i = n) while i { i, i } }
abbrev turn : Program
turn = Defines (record {
  name = given 3 (codes "main");
  params = ((given 8 (codes "n")) ∷ []);
  results = None;
  body_at = 11;
  body = (Give (One (Loop 13
      (counted 18 4) (One (Named 25 (codes "n"))) (Before ((given 21 (codes "i")) ∷ []) (Named 34 (codes "i")) (Give (More (Named 38 (codes "i")) (One (Named
      41 (codes "i")))))))));
}) ∷ []

turn_refused : checked 46 turn ≡ refused Arity 13
turn_refused = refl

-- fn main(n) { loop 1 (i = n) while i { i - 1 } }
abbrev bound_of_one : Program
bound_of_one = Defines (record {
  name = given 3 (codes "main");
  params = ((given 8 (codes "n")) ∷ []);
  results = None;
  body_at = 11;
  body = (Give (One (Loop
      13 (counted 18 1) (One (Named 25 (codes "n"))) (Before ((given 21 (codes "i")) ∷ []) (Named 34 (codes "i")) (Give (One (Infix 40 (Direct Sub) (Named 38
      (codes "i")) (Number 42 1))))))));
}) ∷ []

bound_of_one_refused : checked 47 bound_of_one ≡ refused BadBound 18
bound_of_one_refused = refl

-- fn main(n) { loop 65 (i = n) while i { i - 1 } }
abbrev bound_of_65 : Program
bound_of_65 = Defines (record {
  name = given 3 (codes "main");
  params = ((given 8 (codes "n")) ∷ []);
  results = None;
  body_at = 11;
  body = (Give (One (Loop
      13 (counted 18 65) (One (Named 26 (codes "n"))) (Before ((given 22 (codes "i")) ∷ []) (Named 35 (codes "i")) (Give (One (Infix 41 (Direct Sub) (Named 39
      (codes "i")) (Number 43 1))))))));
}) ∷ []

bound_of_65_refused : checked 48 bound_of_65 ≡ refused BadBound 18
bound_of_65_refused = refl

-- array A[0]; fn main(n) { n }
abbrev no_cells : Program
no_cells = Cells (given 6 (codes "A")) (counted 8 0) ∷ Defines (record {
  name = given 15 (codes "main");
  params = ((given 20 (codes "n")) ∷ []);
  results =
      None;
  body_at = 23;
  body = (Give (One (Named 25 (codes "n"))));
}) ∷ []

no_cells_refused : checked 28 no_cells ≡ refused BadCount 8
no_cells_refused = refl

-- array A[65537]; fn main(n) { n }
abbrev many_cells : Program
many_cells = Cells (given 6 (codes "A")) (counted 8 65537) ∷ Defines (record {
  name = given 19 (codes "main");
  params = ((given 24 (codes "n")) ∷ []);
  results = None;
  body_at = 27;
  body = (Give (One (Named 29 (codes "n"))));
}) ∷ []

many_cells_refused : checked 32 many_cells ≡ refused BadCount 8
many_cells_refused = refl

-- fn main(n) -> 0 { n }
abbrev no_results : Program
no_results = Defines (record {
  name = given 3 (codes "main");
  params = ((given 8 (codes "n")) ∷ []);
  results = Some (counted 14 0);
  body_at = 16;
  body =
      (Give (One (Named 18 (codes "n"))));
}) ∷ []

no_results_refused : checked 21 no_results ≡ refused BadCount 14
no_results_refused = refl

-- fn main(n) -> 17 { n }
abbrev many_results : Program
many_results = Defines (record {
  name = given 3 (codes "main");
  params = ((given 8 (codes "n")) ∷ []);
  results = Some (counted 14 17);
  body_at = 17;
  body =
      (Give (One (Named 19 (codes "n"))));
}) ∷ []

many_results_refused : checked 22 many_results ≡ refused BadCount 14
many_results_refused = refl

-- array A[65536]; array B[1]; fn main(n) { n }
abbrev all_cells : Program
all_cells = Cells (given 6 (codes "A")) (counted 8 65536) ∷ Cells (given 22 (codes "B")) (counted 24 1) ∷ Defines (record {
  name = given 31 (codes "main");
  params = ((given 36 (codes "n")) ∷ []);
  results = None;
  body_at = 39;
  body = (Give (One (Named 41 (codes "n"))));
}) ∷ []

all_cells_refused : checked 44 all_cells ≡ refused TooMany 24
all_cells_refused = refl

-- fn main(a, b, c, d, e, f, g, h, i, j, k, l, m, n, o, p, q) { a }
abbrev parameter_17 : Program
parameter_17 = Defines (record {
  name = given 3 (codes "main");
  params = ((given 8 (codes "a")) ∷ (given 11 (codes "b")) ∷ (given 14 (codes "c")) ∷ (given
      17 (codes "d")) ∷ (given 20 (codes "e")) ∷ (given 23 (codes "f")) ∷ (given 26 (codes "g")) ∷ (given 29 (codes "h")) ∷ (given 32 (codes "i")) ∷ (given 35
      (codes "j")) ∷ (given 38 (codes "k")) ∷ (given 41 (codes "l")) ∷ (given 44 (codes "m")) ∷ (given 47 (codes "n")) ∷ (given 50 (codes "o")) ∷ (given 53
      (codes "p")) ∷ (given 56 (codes "q")) ∷ []);
  results = None;
  body_at = 59;
  body = (Give (One (Named 61 (codes "a"))));
}) ∷ []

parameter_17_refused : checked 64 parameter_17 ≡ refused TooMany 56
parameter_17_refused = refl

-- fn f(a, b, c, d, e, g, h, i, j, k, l, m, n, o, p, q) { loop 4 (x = 1) while x { a + b + c + d + e + g + h + i + j + k + l + m + n + o + p } } fn main(n)
-- { n }
abbrev sixteen_carried : Program
sixteen_carried = Defines (record {
  name = given 3 (codes "f");
  params = ((given 5 (codes "a")) ∷ (given 8 (codes "b")) ∷ (given 11 (codes "c")) ∷ (given 14
      (codes "d")) ∷ (given 17 (codes "e")) ∷ (given 20 (codes "g")) ∷ (given 23 (codes "h")) ∷ (given 26 (codes "i")) ∷ (given 29 (codes "j")) ∷ (given 32
      (codes "k")) ∷ (given 35 (codes "l")) ∷ (given 38 (codes "m")) ∷ (given 41 (codes "n")) ∷ (given 44 (codes "o")) ∷ (given 47 (codes "p")) ∷ (given 50
      (codes "q")) ∷ []);
  results = None;
  body_at = 53;
  body = (Give (One (Loop 55 (counted 60 4) (One (Number 67 1)) (Before ((given 63 (codes "x")) ∷ [])
      (Named 76 (codes "x")) (Give (One (Infix 134 (Direct Add) (Infix 130 (Direct Add) (Infix 126 (Direct Add) (Infix 122 (Direct Add) (Infix 118 (Direct
      Add) (Infix 114 (Direct Add) (Infix 110 (Direct Add) (Infix 106 (Direct Add) (Infix 102 (Direct Add) (Infix 98 (Direct Add) (Infix 94 (Direct Add)
      (Infix 90 (Direct Add) (Infix 86 (Direct Add) (Infix 82 (Direct Add) (Named 80 (codes "a")) (Named 84 (codes "b"))) (Named 88 (codes "c"))) (Named 92
      (codes "d"))) (Named 96 (codes "e"))) (Named 100 (codes "g"))) (Named 104 (codes "h"))) (Named 108 (codes "i"))) (Named 112 (codes "j"))) (Named 116
      (codes "k"))) (Named 120 (codes "l"))) (Named 124 (codes "m"))) (Named 128 (codes "n"))) (Named 132 (codes "o"))) (Named 136 (codes "p")))))))));
}) ∷
    Defines (record {
      name = given 145 (codes "main");
      params = ((given 150 (codes "n")) ∷ []);
      results = None;
      body_at = 153;
      body = (Give (One (Named 155
          (codes "n"))));
    }) ∷ []

sixteen_carried_refused : checked 158 sixteen_carried ≡ refused TooWide 55
sixteen_carried_refused = refl

-- fn f(n) { n }
abbrev no_main : Program
no_main = Defines (record {
  name = given 3 (codes "f");
  params = ((given 5 (codes "n")) ∷ []);
  results = None;
  body_at = 8;
  body = (Give (One (Named 10
      (codes "n"))));
}) ∷ []

no_main_refused : checked 14 no_main ≡ refused NoMain 14
no_main_refused = refl
