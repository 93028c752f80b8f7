-- Worked examples of shared slots: which holders of a plan may share one.
use Rattle.std.proofs.Common.{◌≡◌, refl, sym, ap, ◌∙◌, subst, ℕ, zero, suc, Bool, true, false, not, arith, inl, inr, List, [], ◌∷◌, Option, Some, None}
use Rattle.std.proofs.lemmas.List.Elements.{All-from_recursion, All-contains}
use Rattle.std.specs.Prelude.{Contains, All, slice_get}
use Rattle.tags.specs.declared.token.Port.{Port}
use Rattle.tags.specs.declared.token.Port.TheVariants.{Left, Right}
use Rattle.operators.specs.declared.Binary.TheVariants as B
use Rattle.semantics.specs.declared.program.Dest.{Dest}
use Rattle.semantics.specs.declared.program.Op.TheVariants.{Apply2, Copy, Switch}
use Rattle.semantics.specs.Program.{Instr, CodeBlock}
use Rattle.semantics.specs.declared.program.Mark.{Mark}
use Rattle.semantics.specs.declared.program.Mark.TheVariants.{Unmarked, OfCond}
use Rattle.semantics.specs.Plan.{Plan, mark_at, instr_in}
use Rattle.semantics.specs.Machine.{slot_used}
use Rattle.semantics.specs.Sharing.{Inlet, inlet, Arc, arc, arcs_in, IsAfter, is_after, Leads, by_choice, by_port, Holds, IsEnd, IsSide}
use Rattle.semantics.specs.Sharing.{IsHolderPort, AllAfter, AllOnSide, MayShare}
use Rattle.semantics.proofs.Emulator.{instr}

abbrev l : ℕ → Dest
l n = record { ahead = n; port = Left }

abbrev r : ℕ → Dest
r n = record { ahead = n; port = Right }

abbrev plan_of : List Instr → Plan
plan_of is = record {
  program = record { blocks = record { inputs = 1; outputs = 1; slots = 2; instrs = is } ∷ []; arrays = []; main = 0 };
  plain = 1;
  marks = (Unmarked ∷ Unmarked ∷ OfCond 1 ∷ OfCond 1 ∷ []) ∷ [];
}

abbrev block_of : Plan → Option CodeBlock
block_of p = slice_get p.program.blocks 0

-- a holder's port is at an instruction with its number
numbered : (c : Option CodeBlock) (h n : ℕ) (i : Instr) → Holds c h n i → slot_used (instr_in c n) ≡ Some h
numbered c h n i is = ap slot_used is.0 ∙ is.1

-- both ports of an instruction follow where each has an arc, and each arc into them is chosen
both_follow : (arcs : List Arc) (chosen : Arc → Type 0) (n : ℕ) (x y : Arc) → Contains arcs x → x.to ≡ inlet n Left → Contains arcs y → y.to ≡ inlet n Right
    → ((z : Arc) → Contains arcs z → z.to.place ≡ n → chosen z) → (side : Port) → IsAfter arcs chosen (inlet n side)
both_follow arcs chosen n x y a to b to' all Left = is_after (inlet n Left) x a to (λ z there e. by_choice z (all z there (ap (λ (q : Inlet). q.place) e)))
both_follow arcs chosen n x y a to b to' all Right = is_after (inlet n Right) y b to' (λ z there e. by_choice z (all z there (ap (λ (q : Inlet). q.place) e)))

-- ONE AFTER THE OTHER: the `or` of an input with itself, and the `and` of that with itself
abbrev or : Instr
or = instr (Apply2 B.Or) 0 (l 1 ∷ r 1 ∷ []) []

abbrev chain : Plan
chain = plan_of (instr Copy 0 [] [] ∷ instr Copy 0 (l 1 ∷ r 1 ∷ []) [] ∷ or ∷ instr (Apply2 B.And) 1 [] [] ∷ [])

-- the second holder is at number 3 alone
place_of_and : (n : ℕ) → slot_used (instr_in (block_of chain) n) ≡ Some 1 → n ≡ 3
place_of_and zero e = cc
place_of_and (suc zero) e = cc
place_of_and (suc (suc zero)) e = cc
place_of_and (suc (suc (suc zero))) e = refl
place_of_and (suc (suc (suc (suc n)))) e = cc

-- and each arc to it starts at the `or`
abbrev StartsAtOr : Arc → Type 0
StartsAtOr x = x.to.place ≡ 3 → x.from ≡ 2

arcs_to_and : All StartsAtOr (arcs_in chain (block_of chain))
arcs_to_and = All-from_recursion StartsAtOr (arcs_in chain (block_of chain)) ((λ e. cc), ((λ e. cc), ((λ e. refl), ((λ e. refl), tt))))

ends_or : (x : Arc) → x.from ≡ 2 → IsEnd (block_of chain) 0 x
ends_or x e = (or, (subst (λ (n : ℕ). instr_in (block_of chain) n ≡ Some or) (sym e) refl, refl), refl)

and_after_or : AllAfter chain 0 1 0
and_after_or q is =
    subst (λ (n : ℕ). IsAfter (arcs_in chain (block_of chain)) (IsEnd (block_of chain) 0) (inlet n q.port))
    (sym (place_of_and q.place (numbered (block_of chain) 1 q.place is.0 is.1)))
    (both_follow (arcs_in chain (block_of chain)) (IsEnd (block_of chain) 0) 3 (arc 2 false (inlet 3 Left)) (arc 2 false (inlet 3 Right))
    (2, omega arith, refl) refl (3, omega arith, refl) refl
    (λ y there to. ends_or y (All-contains StartsAtOr (arcs_in chain (block_of chain)) y arcs_to_and there to)) q.port)

chain_may_share : MayShare chain 0 0 1
chain_may_share = inr (inr and_after_or)

-- ON TWO SIDES of one conditional: a switch, an `add` on its true side and a `mul` on its false side
abbrev choice : Plan
choice = plan_of (instr Copy 0 [] [] ∷ instr Copy 0 (l 1 ∷ r 1 ∷ []) [] ∷ instr Switch 2 (l 1 ∷ r 1 ∷ []) (l 2 ∷ r 2 ∷ [])
    ∷ instr (Apply2 B.Add) 0 [] [] ∷ instr (Apply2 B.Mul) 1 [] [] ∷ [])

place_of_add : (n : ℕ) → slot_used (instr_in (block_of choice) n) ≡ Some 0 → n ≡ 3
place_of_add zero e = cc
place_of_add (suc zero) e = cc
place_of_add (suc (suc zero)) e = cc
place_of_add (suc (suc (suc zero))) e = refl
place_of_add (suc (suc (suc (suc zero)))) e = cc
place_of_add (suc (suc (suc (suc (suc n))))) e = cc

place_of_mul : (n : ℕ) → slot_used (instr_in (block_of choice) n) ≡ Some 1 → n ≡ 4
place_of_mul zero e = cc
place_of_mul (suc zero) e = cc
place_of_mul (suc (suc zero)) e = cc
place_of_mul (suc (suc (suc zero))) e = cc
place_of_mul (suc (suc (suc (suc zero)))) e = refl
place_of_mul (suc (suc (suc (suc (suc n))))) e = cc

abbrev BySwitch : ℕ → Bool → Arc → Type 0
BySwitch n second x = x.to.place ≡ n → (x.from ≡ 2) × (x.second ≡ second)

arcs_to_add : All (BySwitch 3 false) (arcs_in choice (block_of choice))
arcs_to_add = All-from_recursion (BySwitch 3 false) (arcs_in choice (block_of choice))
    ((λ e. (cc, cc)), ((λ e. (cc, cc)), ((λ e. (refl, refl)), ((λ e. (refl, refl)), ((λ e. (cc, cc)), ((λ e. (cc, cc)), tt))))))

arcs_to_mul : All (BySwitch 4 true) (arcs_in choice (block_of choice))
arcs_to_mul = All-from_recursion (BySwitch 4 true) (arcs_in choice (block_of choice))
    ((λ e. (cc, cc)), ((λ e. (cc, cc)), ((λ e. (cc, cc)), ((λ e. (cc, cc)), ((λ e. (refl, refl)), ((λ e. (refl, refl)), tt))))))

on_side : (side : Bool) (x : Arc) → (x.from ≡ 2) × (x.second ≡ not side) → IsSide choice 0 (OfCond 1) side x
on_side side x e = (ap (λ (n : ℕ). mark_at choice 0 n) e.0, (λ same. cc), e.1)

add_on_true : AllOnSide choice 0 0 (OfCond 1) true
add_on_true q is =
    subst (λ (n : ℕ). IsAfter (arcs_in choice (block_of choice)) (IsSide choice 0 (OfCond 1) true) (inlet n q.port))
    (sym (place_of_add q.place (numbered (block_of choice) 0 q.place is.0 is.1)))
    (both_follow (arcs_in choice (block_of choice)) (IsSide choice 0 (OfCond 1) true) 3 (arc 2 false (inlet 3 Left)) (arc 2 false (inlet 3 Right))
    (2, omega arith, refl) refl (3, omega arith, refl) refl
    (λ y there to. on_side true y (All-contains (BySwitch 3 false) (arcs_in choice (block_of choice)) y arcs_to_add there to)) q.port)

mul_on_false : AllOnSide choice 0 1 (OfCond 1) false
mul_on_false q is =
    subst (λ (n : ℕ). IsAfter (arcs_in choice (block_of choice)) (IsSide choice 0 (OfCond 1) false) (inlet n q.port))
    (sym (place_of_mul q.place (numbered (block_of choice) 1 q.place is.0 is.1)))
    (both_follow (arcs_in choice (block_of choice)) (IsSide choice 0 (OfCond 1) false) 4 (arc 2 true (inlet 4 Left)) (arc 2 true (inlet 4 Right))
    (4, omega arith, refl) refl (5, omega arith, refl) refl
    (λ y there to. on_side false y (All-contains (BySwitch 4 true) (arcs_in choice (block_of choice)) y arcs_to_mul there to)) q.port)

arms_may_share : MayShare choice 0 0 1
arms_may_share = inl (OfCond 1, true, add_on_true, mul_on_false)

-- SIDE BY SIDE: two operators of one input. Neither follows the other, and no switch is there: they may not share
abbrev parallel : Plan
parallel = plan_of (instr Copy 0 [] [] ∷ instr Copy 0 (l 1 ∷ r 1 ∷ l 2 ∷ r 2 ∷ []) [] ∷ instr (Apply2 B.Add) 0 [] [] ∷ instr (Apply2 B.Mul) 1 [] [] ∷ [])

-- each arc starts at the input, and none leads to it
abbrev FromInput : Arc → Type 0
FromInput x = (x.from ≡ 1) × (x.to.place ≡ 1 → ⊥)

numbers : ◌≡◌ {A = ℕ} 2 1 → ⊥
numbers e = omega (arith, e)

others : ◌≡◌ {A = ℕ} 3 1 → ⊥
others e = omega (arith, e)

arcs_from_input : All FromInput (arcs_in parallel (block_of parallel))
arcs_from_input = All-from_recursion FromInput (arcs_in parallel (block_of parallel))
    ((refl, λ e. numbers e), ((refl, λ e. numbers e), ((refl, λ e. others e), ((refl, λ e. others e), tt))))

from_input : (x : Arc) → Contains (arcs_in parallel (block_of parallel)) x → FromInput x
from_input x there = All-contains FromInput (arcs_in parallel (block_of parallel)) x arcs_from_input there

input_follows_nothing : (chosen : Arc → Type 0) (q : Inlet) → q.place ≡ 1 → IsAfter (arcs_in parallel (block_of parallel)) chosen q → ⊥
input_follows_nothing chosen q e (is_after _ x there to all) = (from_input x there).1 (ap (λ (p : Inlet). p.place) to ∙ e)

input_leads_nothing : (chosen : Arc → Type 0) → ((x : Arc) → x.from ≡ 1 → chosen x → ⊥) → (x : Arc) → x.from ≡ 1
    → Leads (arcs_in parallel (block_of parallel)) chosen x → ⊥
input_leads_nothing chosen none x e (by_choice _ is) = none x e is
input_leads_nothing chosen none x e (by_port _ side after) = input_follows_nothing chosen (inlet x.from side) e after

nothing_follows : (chosen : Arc → Type 0) → ((x : Arc) → x.from ≡ 1 → chosen x → ⊥) → (q : Inlet) → IsAfter (arcs_in parallel (block_of parallel)) chosen q → ⊥
nothing_follows chosen none q (is_after _ x there to all) = input_leads_nothing chosen none x (from_input x there).0 (all x there to)

-- the input's arcs are no holder's, and on no side
no_end : (h : ℕ) (x : Arc) → x.from ≡ 1 → IsEnd (block_of parallel) h x → ⊥
no_end h x e is = no_slot (subst (λ (n : ℕ). slot_used (instr_in (block_of parallel) n) ≡ Some h) e (numbered (block_of parallel) h x.from is.0 is.1))
  where
    no_slot : None ≡ Some h → ⊥
    no_slot f = cc

no_side : (m : Mark) (side : Bool) (x : Arc) → x.from ≡ 1 → IsSide parallel 0 m side x → ⊥
no_side m side x e is = is.1 (sym is.0 ∙ ap (λ (n : ℕ). mark_at parallel 0 n) e)

add_port : IsHolderPort (block_of parallel) 0 (inlet 2 Left)
add_port = (instr (Apply2 B.Add) 0 [] [], (refl, refl), refl)

mul_port : IsHolderPort (block_of parallel) 1 (inlet 3 Left)
mul_port = (instr (Apply2 B.Mul) 1 [] [], (refl, refl), refl)

parallel_may_not_share : MayShare parallel 0 0 1 → ⊥
parallel_may_not_share (inl h) = nothing_follows (IsSide parallel 0 h.0 h.1) (no_side h.0 h.1) (inlet 2 Left) (h.2 (inlet 2 Left) add_port)
parallel_may_not_share (inr (inl h)) = nothing_follows (IsEnd (block_of parallel) 1) (no_end 1) (inlet 2 Left) (h (inlet 2 Left) add_port)
parallel_may_not_share (inr (inr h)) = nothing_follows (IsEnd (block_of parallel) 0) (no_end 0) (inlet 3 Left) (h (inlet 3 Left) mul_port)
