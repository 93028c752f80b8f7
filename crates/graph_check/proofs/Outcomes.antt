-- The result of all checks of a graph.
use Rattle.std.proofs.Common.{◌≡◌, ℕ, ◌⊎◌, List, Some, None, Result, Err, IfErr, inl, inr, sym, ap, ◌∙◌, subst}
use Rattle.semantics.specs.Graph.{Block, Graph}
use Rattle.semantics.specs.WellFormed.{WellFormed}
use Rattle.graph_check.specs.declared.causes.CheckRefusal.{CheckRefusal}
use Rattle.graph_check.specs.declared.faults.CheckFault.{CheckFault}
use Rattle.graph_check.specs.Causes.{fault_of}
use Rattle.graph_check.specs.FirstFault.{names_fault, main_fault, all_blocks_fault, blocks_fault, first_fault, out_of_memory, IsRefusal}
use Rattle.graph_check.proofs.Firsts.{or_later_none, or_later_some}
use Rattle.graph_check.proofs.NoFault.{none_later}
use Rattle.graph_check.proofs.Exact.{well_formed, not_well_formed}
use Rattle.graph_check.proofs.NotMemory.{first_never_memory}

pub answered : {X : Type 0} (g : Graph) (r : Result X CheckRefusal) (e y : CheckRefusal) → r ≡ Err y → y ≡ e → IsRefusal g (fault_of e)
    → IfErr r (λ r. IsRefusal g (fault_of r))
answered g r e y is same h = subst (λ r. IfErr r (λ r. IsRefusal g (fault_of r))) (sym is) (subst (λ y. IsRefusal g (fault_of y)) (sym same) h)

refusal : (g : Graph) (e : CheckFault) → first_fault g ≡ Some e → IsRefusal g e
refusal g e is = inr (is, first_never_memory g e is, not_well_formed g e is)

pub names_refusal : (g : Graph) (e : CheckFault) → (e ≡ out_of_memory) ⊎ (names_fault g ≡ Some e) → IsRefusal g e
names_refusal g e (inl memory) = inl memory
names_refusal g e (inr is) = refusal g e (or_later_some _ _ e is)

pub main_refusal : (g named : Graph) (e : CheckFault) → named ≡ g → names_fault g ≡ None → Some e ≡ main_fault named → IsRefusal g e
main_refusal g named e same none is =
    refusal g e (or_later_none _ _ none ∙ or_later_some _ _ e (ap main_fault (sym same) ∙ sym is))

blocks_same : (g named : Graph) (blocks : List (List ℕ × Block (List ℕ))) → named ≡ g → blocks ≡ named.blocks → all_blocks_fault named blocks ≡ blocks_fault g
blocks_same g named blocks same are = ap (λ bs. all_blocks_fault named bs) are ∙ ap blocks_fault same

pub blocks_refusal : (g named : Graph) (blocks : List (List ℕ × Block (List ℕ))) (e : CheckFault) → named ≡ g → names_fault g ≡ None → None ≡ main_fault named
    → blocks ≡ named.blocks → Some e ≡ all_blocks_fault named blocks → IsRefusal g e
blocks_refusal g named blocks e same none main are is =
    refusal g e (or_later_none _ _ none ∙ or_later_none _ _ (ap main_fault (sym same) ∙ sym main) ∙ sym (blocks_same g named blocks same are) ∙ sym is)

pub accepted : (g named : Graph) (blocks : List (List ℕ × Block (List ℕ))) → named ≡ g → names_fault g ≡ None → None ≡ main_fault named
    → blocks ≡ named.blocks → None ≡ all_blocks_fault named blocks → WellFormed g
accepted g named blocks same none main are all =
    well_formed g (none_later _ _ none (none_later _ _ (ap main_fault (sym same) ∙ sym main) (sym (blocks_same g named blocks same are) ∙ sym all)))
