-- What is stated of lines and of blocks splits where they do.
use Rattle.std.proofs.Common.{◌≡◌, ℕ, ◌+◌, List, [], ◌∷◌, ◌++◌, length, map, refl, ap, subst, arith}
use Rattle.tags.specs.declared.value.Origin.{Origin}
use Rattle.semantics.specs.Graph.{Graph}
use Rattle.source.specs.Tree.{Name}
use Rattle.source.specs.Lowered.{Made, MadeBlock, node_of}
use Rattle.law_language.specs.MeansHolds.{resolved, AreTraced, HasBlocks}
use Rattle.law_confluence.proofs.OutcomeResolved.{node_in}

pub traced_split : (origin : ℕ → Origin) (i n : ℕ) (xs ys : List Made) → AreTraced origin i n (xs ++ ys)
    → AreTraced origin i n xs × AreTraced origin i (n + length xs) ys
traced_split origin i n [] ys h = (tt, subst (λ m. AreTraced origin i m ys) (omega arith) h)
traced_split origin i n (x ∷ xs) ys h =
    let later = traced_split origin i (n + 1) xs ys h.1 in ((h.0, later.0), subst (λ m. AreTraced origin i m ys) (omega arith) later.1)

pub blocks_split : (g : Graph) (origin : ℕ → Origin) (f : Name) (xs ys : List MadeBlock) → HasBlocks g origin f (xs ++ ys)
    → HasBlocks g origin f xs × HasBlocks g origin f ys
blocks_split g origin f [] ys h = (tt, h)
blocks_split g origin f (x ∷ xs) ys h = let later = blocks_split g origin f xs ys h.1 in ((h.0, later.0), later.1)

pub resolved_all : (g : Graph) (ms : List Made) → map (node_in g) (map node_of ms) ≡ map (resolved g) ms
resolved_all g [] = refl
resolved_all g (m ∷ ms) = ap (λ l. resolved g m ∷ l) (resolved_all g ms)

-- the lines of parts one after another
pub resolved_append : (g : Graph) (xs ys : List Made) → map (resolved g) (xs ++ ys) ≡ map (resolved g) xs ++ map (resolved g) ys
resolved_append g [] ys = refl
resolved_append g (x ∷ xs) ys = ap (λ l. resolved g x ∷ l) (resolved_append g xs ys)
