-- What was read, and what is refused.
use Rattle.std.proofs.Common.{◌≡◌, ◌∙◌, ◌⊎◌, inl, inr, sym, ap, subst, ℕ, List}
use Rattle.source.specs.declared.fault.Fault.{Fault}
use Rattle.source.specs.declared.fault.FaultKind.TheVariants.{Memory}
use Rattle.source.specs.declared.word.Word.{Word}
use Rattle.source.specs.Tokens.{program_of}
use Rattle.source.specs.Tree.{Name, Program}
use Rattle.source.specs.Words.{IsProgram}
use Rattle.source_text.specs.Reading.{HasFault, IsRead}
use Rattle.source_check.specs.Stack.{out_of_memory}
use Rattle.lowered_text.specs.declared.fault.LowerFault.{LowerFault}
use Rattle.lowered_text.specs.Lowers.{IsProgramOf, IsFirstFault, of_text, IsRefusedProgram}
use Rattle.lowered_text.specs.Reported.{placed, IsUntold}

pub reported_of : (text program : List ℕ) (fault : Fault) (reported : LowerFault) → program ≡ program_of text
    → (fault.kind ≡ Memory) ⊎ IsFirstFault text fault → IsUntold (placed program fault) reported → IsRefusedProgram text reported
reported_of text program fault reported is first (inl (k, t)) = subst (IsRefusedProgram text) (sym t) tt
reported_of text program fault reported is (inl m) (inr (n, t)) = elim (n m) [ ]
reported_of text program fault (LowerFault.Program refusal) is (inr f) (inr (n, t)) = (fault, f, n, t ∙ ap (λ (p : List ℕ). placed p fault) is)
reported_of text program fault LowerFault.Memory is (inr f) (inr (n, t)) = tt

pub read_fault : (text : List ℕ) (fault : Fault) → HasFault (program_of text) fault → (fault.kind ≡ Memory) ⊎ IsFirstFault text fault
read_fault text fault (inl m) = inl m
read_fault text fault (inr f) = inr (of_text f)

pub later_fault : (text : List ℕ) (fault : Fault) {X : Type 0} → (X → IsFirstFault text fault) → (fault ≡ out_of_memory) ⊎ X
    → (fault.kind ≡ Memory) ⊎ IsFirstFault text fault
later_fault text fault go (inl e) = inl (ap (λ (f : Fault). f.kind) e)
later_fault text fault go (inr x) = inr (go x)

-- the program that was read
pub record Tree (text : List ℕ) (names : List Name) (ws : List (Word ℕ)) : Type 0 where
  pub tree : Program
  pub of_text : IsProgramOf text tree
  pub words : IsProgram names ws tree

pub tree_of : (text program : List ℕ) (names : List Name) (ws : List (Word ℕ)) (inputs : List ℕ) → IsRead text program names ws inputs → Tree text names ws
tree_of text program names ws inputs r =
    let p : Program = r.has.are.program.0 in
    record {
      tree = p;
      of_text = record { tokens = r.has.tokens; lexed = r.has.lexed; parses = r.has.are.program.1 };
      words = record { fits = r.has.are.program.1.fits; words = r.has.are.only p r.has.are.program.1 };
    }
