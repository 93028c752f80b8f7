-- Worked examples of the two formats: a graph's text, and an object's bytes.
use Rattle.std.proofs.Common.{◌≡◌, refl, ℕ, ◌+◌, ◌*◌, true, false, negsuc, ◌++◌, List, [], ◌∷◌}
use Rattle.std.specs.Prelude.{codes}
use Rattle.std.specs.Fmt.{digits}
use Rattle.tags.specs.declared.value.Origin.TheVariants.{At}
use Rattle.operators.specs.declared.Binary.TheVariants as B
use Rattle.semantics.specs.declared.graph.Region.TheVariants.{Root, Arm}
use Rattle.semantics.specs.declared.graph.Kind.TheVariants.{Lit, Apply2, Merge, Loop}
use Rattle.semantics.specs.Graph.{Graph}
use Rattle.semantics.specs.Text.{text_of, node_line}
use Rattle.semantics.specs.declared.program.Op.TheVariants.{Apply2Right, Send}
use Rattle.semantics.specs.Bytes.{bytes_of, instr_words}
use Rattle.semantics.proofs.Interpreter.{src, one, two}
use Rattle.semantics.proofs.Emulator.{right, none}
use Rattle.semantics.proofs.HandMade.{adds}

abbrev lf : List ℕ
lf = 10 ∷ []

abbrev sums : Graph
sums = record {
  version = 1;
  arrays = [];
  blocks =
      (codes "m", record { inputs = 2; outputs = 1; nodes = record { region = Root; kind = Apply2 B.Add; sources = two 0 1 } ∷ []; results = one 2 })
      ∷ [];
  main = codes "m";
}

-- the text of a graph that adds its two inputs
text_of_sums : text_of sums ≡ codes "etsgraph 1" ++ lf ++ codes "block m 2 1" ++ lf ++ codes "- add 0.0 1.0" ++ lf ++ codes "out 2.0" ++ lf
    ++ codes "end" ++ lf ++ codes "main m" ++ lf
unfolding digits
text_of_sums = refl

-- node lines in an arm: with a literal, and with the conditional of a merge
literal_in_true_arm : node_line record { region = Arm 3 true; kind = Lit (negsuc 6); sources = one 4 } ≡ codes "3+ lit -7 4.0" ++ lf
unfolding digits
literal_in_true_arm = refl

-- the conditional of a merge is after the word
merge_in_false_arm : node_line record { region = Arm 3 false; kind = Merge 7; sources = two 9 10 } ≡ codes "3- merge 7 9.0 10.0" ++ lf
unfolding digits
merge_in_false_arm = refl

-- a block, a bound, and two sources
loop_of_two_values : node_line record { region = Root; kind = Loop (codes "b") 2; sources = src 1 0 ∷ src 3 1 ∷ [] } ≡ codes "- loop b 2 1.0 3.1" ++ lf
unfolding digits
loop_of_two_values = refl

-- the object of the code made by hand for it: 19 words
bytes_of_sums : bytes_of 1 record { program = adds; literals = [] }
    ≡ 69 ∷ 84 ∷ 83 ∷ 79 ∷ 66 ∷ 74 ∷ 67 ∷ 84 ∷ 1 ∷ 0 ∷ 0 ∷ 0 ∷ 0 ∷ 0 ∷ 0 ∷ 0 ∷ 1 ∷ 0 ∷ 0 ∷ 0 ∷ 0 ∷ 0 ∷ 0 ∷ 0 ∷ 0 ∷ 0 ∷ 0 ∷ 0 ∷ 0 ∷ 0 ∷ 0 ∷ 0
    ∷ 0 ∷ 0 ∷ 0 ∷ 0 ∷ 0 ∷ 0 ∷ 0 ∷ 0 ∷ 0 ∷ 0 ∷ 0 ∷ 0 ∷ 0 ∷ 0 ∷ 0 ∷ 0 ∷ 6 ∷ 0 ∷ 0 ∷ 0 ∷ 2 ∷ 1 ∷ 3 ∷ 0
    ∷ 18 ∷ 0 ∷ 0 ∷ 0 ∷ 4 ∷ 0 ∷ 5 ∷ 0 ∷ 0 ∷ 0 ∷ 0 ∷ 0 ∷ 0 ∷ 0 ∷ 0 ∷ 0 ∷ 18 ∷ 0 ∷ 0 ∷ 0 ∷ 2 ∷ 0 ∷ 0 ∷ 0 ∷ 0 ∷ 0 ∷ 0 ∷ 0 ∷ 0 ∷ 0 ∷ 0 ∷ 0
    ∷ 18 ∷ 0 ∷ 0 ∷ 0 ∷ 1 ∷ 128 ∷ 0 ∷ 0 ∷ 0 ∷ 0 ∷ 0 ∷ 0 ∷ 0 ∷ 0 ∷ 0 ∷ 0 ∷ 1 ∷ 0 ∷ 0 ∷ 0 ∷ 1 ∷ 128 ∷ 0 ∷ 0 ∷ 0 ∷ 0 ∷ 0 ∷ 0 ∷ 0 ∷ 0 ∷ 0 ∷ 0
    ∷ 26 ∷ 0 ∷ 1 ∷ 0 ∷ 1 ∷ 128 ∷ 0 ∷ 0 ∷ 0 ∷ 0 ∷ 0 ∷ 0 ∷ 0 ∷ 0 ∷ 0 ∷ 0 ∷ 32 ∷ 0 ∷ 2 ∷ 0 ∷ 0 ∷ 0 ∷ 0 ∷ 0 ∷ 1 ∷ 0 ∷ 0 ∷ 0 ∷ 0 ∷ 0 ∷ 0 ∷ 0 ∷ []
bytes_of_sums = refl

-- an operator with the second literal as its right operand and an origin: opcode 4, flag 1, 5 ahead on the right; the
-- literal's number, and above it 1 + 1024 * 2 + 3
words_of_flagged : instr_words (negsuc 8 ∷ negsuc 6 ∷ []) record {
  op = Apply2Right B.Div (negsuc 6);
  origin = At 2 3;
  slot = 0;
  firsts = right 5;
  seconds = none;
}
    ≡ (4 + 256 + 4294967296 * 32773) ∷ (1 + 4294967296 * 2052) ∷ []
words_of_flagged = refl

-- entry 1 of block 3
operand_of_send : instr_words [] record { op = Send 3 1; origin = At 0 0; slot = 7; firsts = none; seconds = none } ≡ (25 + 65536 * 7)
    ∷ (1 + 65536 * 3 + 4294967296) ∷ []
operand_of_send = refl
