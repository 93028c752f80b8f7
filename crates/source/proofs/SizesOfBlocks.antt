-- What is too big, and what is just not too big.
use Rattle.std.specs.Prelude.{◌≡◌, ℕ, [], ◌∷◌, replicate, Ok, refl}
use Rattle.semantics.specs.declared.graph.Region.TheVariants.{Root}
use Rattle.semantics.specs.declared.graph.Kind.TheVariants.{Enter}
use Rattle.source.specs.declared.fault.FaultKind.TheVariants.{TooBig}
use Rattle.source.specs.First.{refused}
use Rattle.source.specs.Lowered.{MadeBlock, sizes}

-- a block at place 7 with two inputs and so many node lines
abbrev with_nodes : ℕ → MadeBlock
with_nodes n = record {
  at = 7;
  loop = 0;
  inputs = 2;
  nodes = replicate n
      (record { at = 0; node = record { region = Root; kind = Enter; sources = [] } });
  results = [];
}

full_block : sizes 0 (with_nodes 1022 ∷ []) ≡ Ok tt
full_block = refl

big_block : sizes 0 (with_nodes 1 ∷ with_nodes 1023 ∷ []) ≡ refused TooBig 7
big_block = refl

last_block : sizes 255 (with_nodes 1 ∷ []) ≡ Ok tt
last_block = refl

one_block_more : sizes 256 (with_nodes 1 ∷ []) ≡ refused TooBig 7
one_block_more = refl
