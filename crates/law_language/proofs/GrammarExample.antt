-- Small texts with their programs, and the first fault of others.
use Rattle.std.specs.Prelude.{◌≡◌, ℕ, ◌^◌, true, false, List, [], ◌∷◌, ◌++◌, codes, replicate, None, Some, Result, Ok, Err, is_ok, refl}
use Rattle.operators.specs.declared.Unary.TheVariants.{Neg, Not}
use Rattle.operators.specs.declared.Binary.TheVariants.{Add, Sub, Mul, Or, And, Lt}
use Rattle.source.specs.declared.fault.Fault.{Fault}
use Rattle.source.specs.declared.fault.FaultKind.{FaultKind}
use Rattle.source.specs.declared.fault.FaultKind.TheVariants.{Unexpected, Unended, TooDeep, NotACell, BadNumber}
use Rattle.source.specs.declared.token.Token.{Token}
use Rattle.source.specs.declared.word.InfixSign.TheVariants.{Direct, Greater}
use Rattle.source.specs.Tokens.{lexed}
use Rattle.source.specs.Tree.{Name, NameAt, Bind, Drop, Expr, Number, Named, Bracket, Prefix, Infix, Fetch, Store, Call, If, Loop, One, More, Body, Let, Do}
use Rattle.source.specs.Tree.{Give, Chain, Before, After, Cells, Defines}
use Rattle.source.specs.Words.{Words, program_words}
use Rattle.law_language.specs.GrammarAutomaton.{parsed}

abbrev parsed_then : List ℕ → Result (List Token) Fault → Result Words Fault
parsed_then text (Ok ts) = parsed text ts
parsed_then text (Err fault) = Err fault

abbrev read : List ℕ → Result Words Fault
read text = parsed_then text (lexed text)

-- a function f of n with this body, whose text is put between its braces
abbrev around : List ℕ → List ℕ
around body = codes "fn f(n){" ++ body ++ codes "}"

abbrev n : Name
n = codes "n"

abbrev named : ℕ → List ℕ → NameAt
named at x = record { at = at; name = x }

abbrev function : Body → Result Words Fault
function body = Ok (program_words (Defines (record { name = named 3 (codes "f"); params = named 5 n ∷ []; results = None; body_at = 7; body = body }) ∷ []))

abbrev expression : Expr → Result Words Fault
expression e = function (Give (One e))

abbrev refused : FaultKind → ℕ → Result Words Fault
refused kind at = Err (record { kind = kind; at = at })

-- all of it on one line, with the least spacing
least_spacing : is_ok (read (codes "fn main(n)->1{let a=1;a--n*-3+~-n&1|n^2<<1>>n}")) ≡ true
least_spacing = refl

-- ITEMS
no_items : read [] ≡ Ok []
no_items = refl

array : read (codes "array W[100];") ≡ Ok (program_words (Cells (named 6 (codes "W")) (record { at = 8; number = 100 }) ∷ []))
array = refl

two_items : read (codes "array W[1]; fn f(a, b) -> 2 { a, b }") ≡ Ok (program_words (Cells (named 6 (codes "W")) (record { at = 8; number = 1 })
    ∷ Defines (record {
      name = named 15 (codes "f");
      params = named 17 (codes "a") ∷ named 20 (codes "b") ∷ [];
      results = Some (record { at = 26; number = 2 });
      body_at = 28;
      body = Give (More (Named 30 (codes "a")) (One (Named 33 (codes "b"))));
    }) ∷ []))
two_items = refl

-- EXPRESSIONS
to_the_left : read (around (codes "n-1-2")) ≡ expression (Infix 11 (Direct Sub) (Infix 9 (Direct Sub) (Named 8 n) (Number 10 1)) (Number 12 2))
to_the_left = refl

binds_tighter : read (around (codes "n+1*2<n"))
    ≡ expression (Infix 13 (Direct Lt) (Infix 9 (Direct Add) (Named 8 n) (Infix 11 (Direct Mul) (Number 10 1) (Number 12 2))) (Named 14 n))
binds_tighter = refl

binds_less : read (around (codes "n*1|n&2"))
    ≡ expression (Infix 11 (Direct Or) (Infix 9 (Direct Mul) (Named 8 n) (Number 10 1)) (Infix 13 (Direct And) (Named 12 n) (Number 14 2)))
binds_less = refl

prefixes : read (around (codes "--n*~-1"))
    ≡ expression (Infix 11 (Direct Mul) (Prefix 8 Neg (Prefix 9 Neg (Named 10 n))) (Prefix 12 Not (Prefix 13 Neg (Number 14 1))))
prefixes = refl

least : read (around (codes "n--9223372036854775808")) ≡ expression (Infix 9 (Direct Sub) (Named 8 n) (Prefix 10 Neg (Number 11 (2 ^ 63))))
least = refl

brackets : read (around (codes "(n)-(1>n)")) ≡ expression (Infix 11 (Direct Sub) (Bracket (Named 9 n)) (Bracket (Infix 14 Greater (Number 13 1) (Named 15 n))))
brackets = refl

fetches : read (around (codes "-A[n]+A[A[1]]"))
    ≡ expression (Infix 13 (Direct Add) (Prefix 8 Neg (Fetch 9 (codes "A") (Named 11 n))) (Fetch 14 (codes "A") (Fetch 16 (codes "A") (Number 18 1))))
fetches = refl

stores : read (around (codes "A[n]:=B[1]:=n+1"))
    ≡ expression (Store 8 (codes "A") (Named 10 n) (Store 14 (codes "B") (Number 16 1) (Infix 21 (Direct Add) (Named 20 n) (Number 22 1))))
stores = refl

store_in_brackets : read (around (codes "1+(A[0]:=n)"))
    ≡ expression (Infix 9 (Direct Add) (Number 8 1) (Bracket (Store 11 (codes "A") (Number 13 0) (Named 17 n))))
store_in_brackets = refl

calls : read (around (codes "f(n,1)+strict g(n)"))
    ≡ expression (Infix 14 (Direct Add) (Call 8 false (codes "f") (More (Named 10 n) (One (Number 12 1)))) (Call 22 true (codes "g") (One (Named 24 n))))
calls = refl

conditional : read (around (codes "if n{1}else{2}-1"))
    ≡ expression (Infix 22 (Direct Sub) (If 8 (Named 11 n) (Give (One (Number 13 1))) (Give (One (Number 20 2)))) (Number 23 1))
conditional = refl

chain : read (around (codes "if n{1}else if 2{3}else{4}"))
    ≡ expression (If 8 (Named 11 n) (Give (One (Number 13 1))) (Chain (If 20 (Number 23 2) (Give (One (Number 25 3))) (Give (One (Number 32 4))))))
chain = refl

loop_with_test_first : read (around (codes "loop 4(i=n,j=1)while i{i,j}"))
    ≡ expression (Loop 8 (record { at = 13; number = 4 }) (More (Named 17 n) (One (Number 21 1)))
    (Before (named 15 (codes "i") ∷ named 19 (codes "j") ∷ []) (Named 29 (codes "i")) (Give (More (Named 31 (codes "i")) (One (Named 33 (codes "j")))))))
loop_with_test_first = refl

loop_with_body_first : read (around (codes "loop 4(i=n){i}while(i)")) ≡ expression (Loop 8 (record { at = 13; number = 4 }) (One (Named 17 n))
    (After (named 15 (codes "i") ∷ []) (Give (One (Named 20 (codes "i")))) (Named 28 (codes "i"))))
loop_with_body_first = refl

-- BODIES
steps : read (around (codes "let a,_=n,1;a,n;a")) ≡ function (Let 8 (Bind (named 12 (codes "a")) ∷ Drop ∷ []) (More (Named 16 n) (One (Number 18 1)))
    (Do (More (Named 20 (codes "a")) (One (Named 22 n))) (Give (One (Named 24 (codes "a"))))))
steps = refl

-- FAULTS
numeral : read (around (codes "n-9223372036854775808")) ≡ refused BadNumber 10
numeral = refl

numeral_alone : read (codes "fn main(n) { 9223372036854775808 }") ≡ refused BadNumber 13
numeral_alone = refl

two_least : is_ok (read (codes "fn main(n) { -9223372036854775808 - -9223372036854775808 }")) ≡ true
two_least = refl

large_length : read (codes "array A[9223372036854775808];") ≡ refused BadNumber 8
large_length = refl

-- where no number is possible
numeral_elsewhere : read (codes "array 9223372036854775808") ≡ refused Unexpected 6
numeral_elsewhere = refl

word_as_name : read (codes "fn main(while) { 1 }") ≡ refused Unexpected 8
word_as_name = refl

dropped_parameter : read (codes "fn main(_) { 1 }") ≡ refused Unexpected 8
dropped_parameter = refl

no_parameters : read (codes "fn main() { 1 }") ≡ refused Unexpected 8
no_parameters = refl

trailing_comma : read (codes "fn main(n,) { n }") ≡ refused Unexpected 10
trailing_comma = refl

trailing_value : read (codes "fn main(n) { n, }") ≡ refused Unexpected 16
trailing_value = refl

empty_body : read (codes "fn main(n) { }") ≡ refused Unexpected 13
empty_body = refl

no_values : read (codes "fn main(n) { n; }") ≡ refused Unexpected 16
no_values = refl

chained_comparison : read (codes "fn main(n) { 1 < n < 3 }") ≡ refused Unexpected 19
chained_comparison = refl

no_else : read (codes "fn main(n) { if n { 1 } }") ≡ refused Unexpected 24
no_else = refl

no_bracket : read (codes "fn main(n) { loop 4 (i = n) { i - 1 } while i > 0 }") ≡ refused Unexpected 44
no_bracket = refl

no_item : read (codes "let x = 1;") ≡ refused Unexpected 0
no_item = refl

unended : read (codes "fn main(n) { n") ≡ refused Unended 14
unended = refl

unended_comment : read (codes "fn main(n) { // }" ++ 10 ∷ []) ≡ refused Unended 18
unended_comment = refl

no_cell : read (codes "fn main(n) { n := 1 }") ≡ refused NotACell 15
no_cell = refl

sum_of_cell : read (codes "fn main(n) { 1 + A[0] := 1 }") ≡ refused NotACell 22
sum_of_cell = refl

bracketed_cell : read (around (codes "(A[0]):=1")) ≡ refused NotACell 14
bracketed_cell = refl

-- where no operator is possible either
no_operand : read (around (codes "1+:=1")) ≡ refused Unexpected 10
no_operand = refl

compared_cell : read (around (codes "n<A[0]:=1")) ≡ refused NotACell 14
compared_cell = refl

-- DEPTH. The body's expression is the first of 200.
deepest : is_ok (read (around (replicate 199 40 ++ n ++ replicate 199 41))) ≡ true
deepest = refl

too_deep : read (around (replicate 200 40 ++ n ++ replicate 200 41)) ≡ refused TooDeep 207
too_deep = refl

-- a `-` directly before a number is no deeper
deepest_prefixes : is_ok (read (around (replicate 200 45 ++ codes "1"))) ≡ true
deepest_prefixes = refl

too_many_prefixes : read (around (replicate 201 45 ++ codes "1")) ≡ refused TooDeep 208
too_many_prefixes = refl

-- it is the operand that is too deep
too_deep_operand : read (around (replicate 200 45 ++ n)) ≡ refused TooDeep 208
too_deep_operand = refl

-- an `if` and its predicate are two more
deepest_conditional : is_ok (read (around (replicate 197 40 ++ codes "if n{1}else{2}" ++ replicate 197 41))) ≡ true
deepest_conditional = refl

too_deep_conditional : read (around (replicate 198 40 ++ codes "if n{1}else{2}" ++ replicate 198 41)) ≡ refused TooDeep 206
too_deep_conditional = refl

-- a token that nothing has there is no deeper
no_deeper : read (around (replicate 200 45 ++ codes "+")) ≡ refused Unexpected 208
no_deeper = refl
