-- The samples, lowered.
use Rattle.std.specs.Prelude.{◌≡◌, true, false, pos, negsuc, List, [], ◌∷◌, codes, Ok, refl}
use Rattle.operators.specs.declared.Unary.TheVariants.{Neg, Not}
use Rattle.operators.specs.declared.Binary.TheVariants.{Add, Sub, Mul, Div, Rem, And, Or, Xor, Shl, Lt, Le}
use Rattle.semantics.specs.declared.graph.Region.{Region}
use Rattle.semantics.specs.declared.graph.Region.TheVariants.{Root, Arm}
use Rattle.semantics.specs.declared.graph.Source.{Source}
use Rattle.semantics.specs.declared.graph.Kind.{Kind}
use Rattle.semantics.specs.declared.graph.Kind.TheVariants as node
use Rattle.semantics.specs.Graph.{Node, Graph}
use Rattle.std.specs.Fmt.{digits}
use Rattle.source.specs.Tree.{Name}
use Rattle.source.specs.Lowered.{port, lowered}
use Rattle.source.specs.Samples.{literals, least, signs, arithmetic, swapped, cells, stored_twice, pairs, strict_call, factorial, else_if, two_arms}
use Rattle.source.specs.Samples.{sum_up, count_up, nested, hidden, shared, misses, two_faults}

abbrev line : Region → Kind Name → List Source → Node Name
line region kind sources = record { region = region; kind = kind; sources = sources }

-- fn main(n) { 5 - -5 }
abbrev literals_graph : Graph
literals_graph = record {
  version = 2;
  arrays = [];
  blocks = (
    codes "main",
    record {
      inputs = 1;
      outputs = 1;
      nodes =
          line Root (node.Lit (pos 5)) (port 0 0 ∷ []) ∷
          line Root (node.Lit (negsuc 4)) (port 0 0 ∷ []) ∷
          line Root (node.Apply2 Sub) (port 1 0 ∷ port 2 0 ∷ []) ∷
          [];
      results = port 3 0 ∷ [];
    },
  ) ∷ [];
  main = codes "main";
}

literals_lowered : lowered literals ≡ Ok literals_graph
unfolding digits
literals_lowered = refl

-- fn main(n) { -9223372036854775808 }
abbrev least_graph : Graph
least_graph = record {
  version = 2;
  arrays = [];
  blocks = (
    codes "main",
    record {
      inputs = 1;
      outputs = 1;
      nodes =
          line Root (node.Lit (negsuc 9223372036854775807)) (port 0 0 ∷ []) ∷
          [];
      results = port 1 0 ∷ [];
    },
  ) ∷ [];
  main = codes "main";
}

least_lowered : lowered least ≡ Ok least_graph
unfolding digits
least_lowered = refl

-- fn main(n) { -n + ~-(n) - -(5) }
abbrev signs_graph : Graph
signs_graph = record {
  version = 2;
  arrays = [];
  blocks = (
    codes "main",
    record {
      inputs = 1;
      outputs = 1;
      nodes =
          line Root (node.Apply1 Neg) (port 0 0 ∷ []) ∷
          line Root (node.Apply1 Neg) (port 0 0 ∷ []) ∷
          line Root (node.Apply1 Not) (port 2 0 ∷ []) ∷
          line Root (node.Apply2 Add) (port 1 0 ∷ port 3 0 ∷ []) ∷
          line Root (node.Lit (pos 5)) (port 0 0 ∷ []) ∷
          line Root (node.Apply1 Neg) (port 5 0 ∷ []) ∷
          line Root (node.Apply2 Sub) (port 4 0 ∷ port 6 0 ∷ []) ∷
          [];
      results = port 7 0 ∷ [];
    },
  ) ∷ [];
  main = codes "main";
}

signs_lowered : lowered signs ≡ Ok signs_graph
unfolding digits
signs_lowered = refl

-- fn main(n) { n - 2 * n - n << 1 & n ^ n | n }
abbrev arithmetic_graph : Graph
arithmetic_graph = record {
  version = 2;
  arrays = [];
  blocks = (
    codes "main",
    record {
      inputs = 1;
      outputs = 1;
      nodes =
          line Root (node.Lit (pos 2)) (port 0 0 ∷ []) ∷
          line Root (node.Apply2 Mul) (port 1 0 ∷ port 0 0 ∷ []) ∷
          line Root (node.Apply2 Sub) (port 0 0 ∷ port 2 0 ∷ []) ∷
          line Root (node.Apply2 Sub) (port 3 0 ∷ port 0 0 ∷ []) ∷
          line Root (node.Lit (pos 1)) (port 0 0 ∷ []) ∷
          line Root (node.Apply2 Shl) (port 4 0 ∷ port 5 0 ∷ []) ∷
          line Root (node.Apply2 And) (port 6 0 ∷ port 0 0 ∷ []) ∷
          line Root (node.Apply2 Xor) (port 7 0 ∷ port 0 0 ∷ []) ∷
          line Root (node.Apply2 Or) (port 8 0 ∷ port 0 0 ∷ []) ∷
          [];
      results = port 9 0 ∷ [];
    },
  ) ∷ [];
  main = codes "main";
}

arithmetic_lowered : lowered arithmetic ≡ Ok arithmetic_graph
unfolding digits
arithmetic_lowered = refl

-- fn main(a, b) { (a > b) + (a >= b) + (a < b) + (a <= b) }
abbrev swapped_graph : Graph
swapped_graph = record {
  version = 2;
  arrays = [];
  blocks = (
    codes "main",
    record {
      inputs = 2;
      outputs = 1;
      nodes =
          line Root (node.Apply2 Lt) (port 1 0 ∷ port 0 0 ∷ []) ∷
          line Root (node.Apply2 Le) (port 1 0 ∷ port 0 0 ∷ []) ∷
          line Root (node.Apply2 Add) (port 2 0 ∷ port 3 0 ∷ []) ∷
          line Root (node.Apply2 Lt) (port 0 0 ∷ port 1 0 ∷ []) ∷
          line Root (node.Apply2 Add) (port 4 0 ∷ port 5 0 ∷ []) ∷
          line Root (node.Apply2 Le) (port 0 0 ∷ port 1 0 ∷ []) ∷
          line Root (node.Apply2 Add) (port 6 0 ∷ port 7 0 ∷ []) ∷
          [];
      results = port 8 0 ∷ [];
    },
  ) ∷ [];
  main = codes "main";
}

swapped_lowered : lowered swapped ≡ Ok swapped_graph
unfolding digits
swapped_lowered = refl

-- array A[2]; fn main(n) { A[1] := n + 3; A[1] }
abbrev cells_graph : Graph
cells_graph = record {
  version = 2;
  arrays = (codes "A", 2) ∷ [];
  blocks = (
    codes "main",
    record {
      inputs = 1;
      outputs = 1;
      nodes =
          line Root (node.Lit (pos 1)) (port 0 0 ∷ []) ∷
          line Root (node.Lit (pos 3)) (port 0 0 ∷ []) ∷
          line Root (node.Apply2 Add) (port 0 0 ∷ port 2 0 ∷ []) ∷
          line Root (node.Store (codes "A")) (port 1 0 ∷ port 3 0 ∷ []) ∷
          line Root (node.Lit (pos 1)) (port 0 0 ∷ []) ∷
          line Root (node.Fetch (codes "A")) (port 5 0 ∷ []) ∷
          [];
      results = port 6 0 ∷ [];
    },
  ) ∷ [];
  main = codes "main";
}

cells_lowered : lowered cells ≡ Ok cells_graph
unfolding digits
cells_lowered = refl

-- array A[2]; array B[3]; fn main(n) { A[0] := B[n] := 7 }
abbrev stored_twice_graph : Graph
stored_twice_graph = record {
  version = 2;
  arrays = (codes "A", 2) ∷ (codes "B", 3) ∷ [];
  blocks = (
    codes "main",
    record {
      inputs = 1;
      outputs = 1;
      nodes =
          line Root (node.Lit (pos 0)) (port 0 0 ∷ []) ∷
          line Root (node.Lit (pos 7)) (port 0 0 ∷ []) ∷
          line Root (node.Store (codes "B")) (port 0 0 ∷ port 2 0 ∷ []) ∷
          line Root (node.Store (codes "A")) (port 1 0 ∷ port 3 0 ∷ []) ∷
          [];
      results = port 4 0 ∷ [];
    },
  ) ∷ [];
  main = codes "main";
}

stored_twice_lowered : lowered stored_twice ≡ Ok stored_twice_graph
unfolding digits
stored_twice_lowered = refl

-- fn pair(a, b) -> 2 { b, a } fn main(n) { let x, _ = pair(pair(n, 1)); x }
abbrev pairs_graph : Graph
pairs_graph = record {
  version = 2;
  arrays = [];
  blocks = (
    codes "pair",
    record {
      inputs = 2;
      outputs = 2;
      nodes =
          [];
      results = port 1 0 ∷ port 0 0 ∷ [];
    },
  ) ∷ (
    codes "main",
    record {
      inputs = 1;
      outputs = 1;
      nodes =
          line Root (node.Lit (pos 1)) (port 0 0 ∷ []) ∷
          line Root (node.Call (codes "pair")) (port 0 0 ∷ port 1 0 ∷ []) ∷
          line Root (node.Call (codes "pair")) (port 2 0 ∷ port 2 1 ∷ []) ∷
          [];
      results = port 3 0 ∷ [];
    },
  ) ∷ [];
  main = codes "main";
}

pairs_lowered : lowered pairs ≡ Ok pairs_graph
unfolding digits
pairs_lowered = refl

-- array A[1]; fn f(x, y) { y } fn main(n) { strict f(A[0], n) }
abbrev strict_call_graph : Graph
strict_call_graph = record {
  version = 2;
  arrays = (codes "A", 1) ∷ [];
  blocks = (
    codes "f",
    record {
      inputs = 2;
      outputs = 1;
      nodes =
          [];
      results = port 1 0 ∷ [];
    },
  ) ∷ (
    codes "main",
    record {
      inputs = 1;
      outputs = 1;
      nodes =
          line Root (node.Lit (pos 0)) (port 0 0 ∷ []) ∷
          line Root (node.Fetch (codes "A")) (port 1 0 ∷ []) ∷
          line Root (node.StrictCall (codes "f")) (port 2 0 ∷ port 0 0 ∷ []) ∷
          [];
      results = port 3 0 ∷ [];
    },
  ) ∷ [];
  main = codes "main";
}

strict_call_lowered : lowered strict_call ≡ Ok strict_call_graph
unfolding digits
strict_call_lowered = refl

-- fn main(n) { if n <= 1 { 1 } else { n * main(n - 1) } }
abbrev factorial_graph : Graph
factorial_graph = record {
  version = 2;
  arrays = [];
  blocks = (
    codes "main",
    record {
      inputs = 1;
      outputs = 1;
      nodes =
          line Root (node.Lit (pos 1)) (port 0 0 ∷ []) ∷
          line Root (node.Apply2 Le) (port 0 0 ∷ port 1 0 ∷ []) ∷
          line Root node.Cond (port 2 0 ∷ []) ∷
          line (Arm 3 true) node.Enter (port 2 0 ∷ []) ∷
          line (Arm 3 true) (node.Lit (pos 1)) (port 4 0 ∷ []) ∷
          line (Arm 3 false) node.Enter (port 0 0 ∷ []) ∷
          line (Arm 3 false) (node.Lit (pos 1)) (port 6 0 ∷ []) ∷
          line (Arm 3 false) (node.Apply2 Sub) (port 6 0 ∷ port 7 0 ∷ []) ∷
          line (Arm 3 false) (node.Call (codes "main")) (port 8 0 ∷ []) ∷
          line (Arm 3 false) (node.Apply2 Mul) (port 6 0 ∷ port 9 0 ∷ []) ∷
          line Root (node.Merge 3) (port 5 0 ∷ port 10 0 ∷ []) ∷
          [];
      results = port 11 0 ∷ [];
    },
  ) ∷ [];
  main = codes "main";
}

factorial_lowered : lowered factorial ≡ Ok factorial_graph
unfolding digits
factorial_lowered = refl

-- fn main(n) { if n { n } else if n + 1 { 2 } else { n, 3; 4 } }
abbrev else_if_graph : Graph
else_if_graph = record {
  version = 2;
  arrays = [];
  blocks = (
    codes "main",
    record {
      inputs = 1;
      outputs = 1;
      nodes =
          line Root node.Cond (port 0 0 ∷ []) ∷
          line (Arm 1 true) node.Enter (port 0 0 ∷ []) ∷
          line (Arm 1 false) node.Enter (port 0 0 ∷ []) ∷
          line (Arm 1 false) (node.Lit (pos 1)) (port 3 0 ∷ []) ∷
          line (Arm 1 false) (node.Apply2 Add) (port 3 0 ∷ port 4 0 ∷ []) ∷
          line (Arm 1 false) node.Cond (port 5 0 ∷ []) ∷
          line (Arm 6 true) node.Enter (port 5 0 ∷ []) ∷
          line (Arm 6 true) (node.Lit (pos 2)) (port 7 0 ∷ []) ∷
          line (Arm 6 false) node.Enter (port 3 0 ∷ []) ∷
          line (Arm 6 false) (node.Lit (pos 3)) (port 9 0 ∷ []) ∷
          line (Arm 6 false) (node.Lit (pos 4)) (port 9 0 ∷ []) ∷
          line (Arm 1 false) (node.Merge 6) (port 8 0 ∷ port 11 0 ∷ []) ∷
          line Root (node.Merge 1) (port 2 0 ∷ port 12 0 ∷ []) ∷
          [];
      results = port 13 0 ∷ [];
    },
  ) ∷ [];
  main = codes "main";
}

else_if_lowered : lowered else_if ≡ Ok else_if_graph
unfolding digits
else_if_lowered = refl

-- fn main(a, b) -> 2 { let c = a; if a { b, a + c } else { let b = c; b, b } }
abbrev two_arms_graph : Graph
two_arms_graph = record {
  version = 2;
  arrays = [];
  blocks = (
    codes "main",
    record {
      inputs = 2;
      outputs = 2;
      nodes =
          line Root node.Cond (port 0 0 ∷ []) ∷
          line (Arm 2 true) node.Enter (port 1 0 ∷ []) ∷
          line (Arm 2 true) node.Enter (port 0 0 ∷ []) ∷
          line (Arm 2 true) node.Enter (port 0 0 ∷ []) ∷
          line (Arm 2 true) (node.Apply2 Add) (port 4 0 ∷ port 5 0 ∷ []) ∷
          line (Arm 2 false) node.Enter (port 0 0 ∷ []) ∷
          line Root (node.Merge 2) (port 3 0 ∷ port 7 0 ∷ []) ∷
          line Root (node.Merge 2) (port 6 0 ∷ port 7 0 ∷ []) ∷
          [];
      results = port 8 0 ∷ port 9 0 ∷ [];
    },
  ) ∷ [];
  main = codes "main";
}

two_arms_lowered : lowered two_arms ≡ Ok two_arms_graph
unfolding digits
two_arms_lowered = refl

-- fn main(n) { let i, s = loop 2 (i = 0, s = 0) while i < n { i + 1, s + i }; s }
abbrev sum_up_graph : Graph
sum_up_graph = record {
  version = 2;
  arrays = [];
  blocks = (
    codes "main",
    record {
      inputs = 1;
      outputs = 1;
      nodes =
          line Root (node.Lit (pos 0)) (port 0 0 ∷ []) ∷
          line Root (node.Lit (pos 0)) (port 0 0 ∷ []) ∷
          line Root (node.Loop (codes "main__1") 2) (port 1 0 ∷ port 2 0 ∷ port 0 0 ∷ []) ∷
          [];
      results = port 3 1 ∷ [];
    },
  ) ∷ (
    codes "main__1",
    record {
      inputs = 3;
      outputs = 4;
      nodes =
          line Root (node.Apply2 Lt) (port 0 0 ∷ port 2 0 ∷ []) ∷
          line Root node.Cond (port 3 0 ∷ []) ∷
          line (Arm 4 true) node.Enter (port 0 0 ∷ []) ∷
          line (Arm 4 true) node.Enter (port 1 0 ∷ []) ∷
          line (Arm 4 true) (node.Lit (pos 1)) (port 5 0 ∷ []) ∷
          line (Arm 4 true) (node.Apply2 Add) (port 5 0 ∷ port 7 0 ∷ []) ∷
          line (Arm 4 true) (node.Apply2 Add) (port 6 0 ∷ port 5 0 ∷ []) ∷
          line (Arm 4 false) node.Enter (port 0 0 ∷ []) ∷
          line (Arm 4 false) node.Enter (port 1 0 ∷ []) ∷
          line Root (node.Merge 4) (port 8 0 ∷ port 10 0 ∷ []) ∷
          line Root (node.Merge 4) (port 9 0 ∷ port 11 0 ∷ []) ∷
          [];
      results = port 3 0 ∷ port 12 0 ∷ port 13 0 ∷ port 2 0 ∷ [];
    },
  ) ∷ [];
  main = codes "main";
}

sum_up_lowered : lowered sum_up ≡ Ok sum_up_graph
unfolding digits
sum_up_lowered = refl

-- fn main(n) { loop 2 (i = 0) { i + 1 } while (n > i) }
abbrev count_up_graph : Graph
count_up_graph = record {
  version = 2;
  arrays = [];
  blocks = (
    codes "main",
    record {
      inputs = 1;
      outputs = 1;
      nodes =
          line Root (node.Lit (pos 0)) (port 0 0 ∷ []) ∷
          line Root (node.Loop (codes "main__1") 2) (port 1 0 ∷ port 0 0 ∷ []) ∷
          [];
      results = port 2 0 ∷ [];
    },
  ) ∷ (
    codes "main__1",
    record {
      inputs = 2;
      outputs = 3;
      nodes =
          line Root (node.Lit (pos 1)) (port 0 0 ∷ []) ∷
          line Root (node.Apply2 Add) (port 0 0 ∷ port 2 0 ∷ []) ∷
          line Root (node.Apply2 Lt) (port 3 0 ∷ port 1 0 ∷ []) ∷
          [];
      results = port 4 0 ∷ port 3 0 ∷ port 1 0 ∷ [];
    },
  ) ∷ [];
  main = codes "main";
}

count_up_lowered : lowered count_up ≡ Ok count_up_graph
unfolding digits
count_up_lowered = refl

-- fn f(n, m) { loop 3 (i = loop 2 (j = n) { j - 1 } while (j)) while loop 4 (k = i) while k { m } { loop 64 (i = i) { n } while (0) } } fn main(n) { f(n,
-- 2); loop 2 (i = n) while i { i - 1 } }
abbrev nested_graph : Graph
nested_graph = record {
  version = 2;
  arrays = [];
  blocks = (
    codes "f",
    record {
      inputs = 2;
      outputs = 1;
      nodes =
          line Root (node.Loop (codes "f__1") 2) (port 0 0 ∷ []) ∷
          line Root (node.Loop (codes "f__2") 3) (port 2 0 ∷ port 1 0 ∷ port 0 0 ∷ []) ∷
          [];
      results = port 3 0 ∷ [];
    },
  ) ∷ (
    codes "f__1",
    record {
      inputs = 1;
      outputs = 2;
      nodes =
          line Root (node.Lit (pos 1)) (port 0 0 ∷ []) ∷
          line Root (node.Apply2 Sub) (port 0 0 ∷ port 1 0 ∷ []) ∷
          [];
      results = port 2 0 ∷ port 2 0 ∷ [];
    },
  ) ∷ (
    codes "f__2",
    record {
      inputs = 3;
      outputs = 4;
      nodes =
          line Root (node.Loop (codes "f__3") 4) (port 0 0 ∷ port 1 0 ∷ []) ∷
          line Root node.Cond (port 3 0 ∷ []) ∷
          line (Arm 4 true) node.Enter (port 0 0 ∷ []) ∷
          line (Arm 4 true) node.Enter (port 2 0 ∷ []) ∷
          line (Arm 4 true) (node.Loop (codes "f__4") 64) (port 5 0 ∷ port 6 0 ∷ []) ∷
          line (Arm 4 false) node.Enter (port 0 0 ∷ []) ∷
          line Root (node.Merge 4) (port 7 0 ∷ port 8 0 ∷ []) ∷
          [];
      results = port 3 0 ∷ port 9 0 ∷ port 1 0 ∷ port 2 0 ∷ [];
    },
  ) ∷ (
    codes "f__3",
    record {
      inputs = 2;
      outputs = 3;
      nodes =
          line Root node.Cond (port 0 0 ∷ []) ∷
          line (Arm 2 true) node.Enter (port 1 0 ∷ []) ∷
          line (Arm 2 false) node.Enter (port 0 0 ∷ []) ∷
          line Root (node.Merge 2) (port 3 0 ∷ port 4 0 ∷ []) ∷
          [];
      results = port 0 0 ∷ port 5 0 ∷ port 1 0 ∷ [];
    },
  ) ∷ (
    codes "f__4",
    record {
      inputs = 2;
      outputs = 3;
      nodes =
          line Root (node.Lit (pos 0)) (port 0 0 ∷ []) ∷
          [];
      results = port 2 0 ∷ port 1 0 ∷ port 1 0 ∷ [];
    },
  ) ∷ (
    codes "main",
    record {
      inputs = 1;
      outputs = 1;
      nodes =
          line Root (node.Lit (pos 2)) (port 0 0 ∷ []) ∷
          line Root (node.Call (codes "f")) (port 0 0 ∷ port 1 0 ∷ []) ∷
          line Root (node.Loop (codes "main__1") 2) (port 0 0 ∷ []) ∷
          [];
      results = port 3 0 ∷ [];
    },
  ) ∷ (
    codes "main__1",
    record {
      inputs = 1;
      outputs = 2;
      nodes =
          line Root node.Cond (port 0 0 ∷ []) ∷
          line (Arm 1 true) node.Enter (port 0 0 ∷ []) ∷
          line (Arm 1 true) (node.Lit (pos 1)) (port 2 0 ∷ []) ∷
          line (Arm 1 true) (node.Apply2 Sub) (port 2 0 ∷ port 3 0 ∷ []) ∷
          line (Arm 1 false) node.Enter (port 0 0 ∷ []) ∷
          line Root (node.Merge 1) (port 4 0 ∷ port 5 0 ∷ []) ∷
          [];
      results = port 0 0 ∷ port 6 0 ∷ [];
    },
  ) ∷ [];
  main = codes "main";
}

nested_lowered : lowered nested ≡ Ok nested_graph
unfolding digits
nested_lowered = refl

-- fn main(n) { let n = n + 1; let _, n, _ = 1, n, 2; n }
abbrev hidden_graph : Graph
hidden_graph = record {
  version = 2;
  arrays = [];
  blocks = (
    codes "main",
    record {
      inputs = 1;
      outputs = 1;
      nodes =
          line Root (node.Lit (pos 1)) (port 0 0 ∷ []) ∷
          line Root (node.Apply2 Add) (port 0 0 ∷ port 1 0 ∷ []) ∷
          line Root (node.Lit (pos 1)) (port 0 0 ∷ []) ∷
          line Root (node.Lit (pos 2)) (port 0 0 ∷ []) ∷
          [];
      results = port 2 0 ∷ [];
    },
  ) ∷ [];
  main = codes "main";
}

hidden_lowered : lowered hidden ≡ Ok hidden_graph
unfolding digits
hidden_lowered = refl

-- fn main(n) -> 3 { let a = n; a, a, n }
abbrev shared_graph : Graph
shared_graph = record {
  version = 2;
  arrays = [];
  blocks = (
    codes "main",
    record {
      inputs = 1;
      outputs = 3;
      nodes =
          [];
      results = port 0 0 ∷ port 0 0 ∷ port 0 0 ∷ [];
    },
  ) ∷ [];
  main = codes "main";
}

shared_lowered : lowered shared ≡ Ok shared_graph
unfolding digits
shared_lowered = refl

-- array A[2]; fn main(n) { A[n] := 1 }
abbrev misses_graph : Graph
misses_graph = record {
  version = 2;
  arrays = (codes "A", 2) ∷ [];
  blocks = (
    codes "main",
    record {
      inputs = 1;
      outputs = 1;
      nodes =
          line Root (node.Lit (pos 1)) (port 0 0 ∷ []) ∷
          line Root (node.Store (codes "A")) (port 0 0 ∷ port 1 0 ∷ []) ∷
          [];
      results = port 2 0 ∷ [];
    },
  ) ∷ [];
  main = codes "main";
}

misses_lowered : lowered misses ≡ Ok misses_graph
unfolding digits
misses_lowered = refl

-- fn main(n) { n / 0 > n % 0 }
abbrev two_faults_graph : Graph
two_faults_graph = record {
  version = 2;
  arrays = [];
  blocks = (
    codes "main",
    record {
      inputs = 1;
      outputs = 1;
      nodes =
          line Root (node.Lit (pos 0)) (port 0 0 ∷ []) ∷
          line Root (node.Apply2 Div) (port 0 0 ∷ port 1 0 ∷ []) ∷
          line Root (node.Lit (pos 0)) (port 0 0 ∷ []) ∷
          line Root (node.Apply2 Rem) (port 0 0 ∷ port 3 0 ∷ []) ∷
          line Root (node.Apply2 Lt) (port 4 0 ∷ port 2 0 ∷ []) ∷
          [];
      results = port 5 0 ∷ [];
    },
  ) ∷ [];
  main = codes "main";
}

two_faults_lowered : lowered two_faults ≡ Ok two_faults_graph
unfolding digits
two_faults_lowered = refl
