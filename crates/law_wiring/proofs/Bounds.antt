-- The loops of a code block open with the bounds of its graph block, only its switches are marked, and its holders are
-- numbered in order.
use Rattle.std.proofs.Common.{◌≡◌, ℕ, zero, suc, ◌+◌, ◌-◌, Bool, true, false, List, [], ◌∷◌, ◌++◌, refl, sym, ap, ◌∙◌, subst, append_assoc, append-nil}
use Rattle.std.proofs.Common.{if◌then◌else◌, Option}
use Rattle.std.specs.Prelude.{flat_map, slice_set, slice_index_or, ⊤}
use Rattle.semantics.specs.declared.program.Dest.{Dest}
use Rattle.semantics.specs.declared.program.Mark.{Mark}
use Rattle.semantics.specs.declared.program.Op.{Op}
use Rattle.semantics.specs.Program.{Instr}
use Rattle.semantics.specs.Cause.{loop_bounds, opened_by}
use Rattle.semantics.specs.Plan.{is_credit}
use Rattle.law_wiring.specs.BoundsKeeping.{Fits, AreNumbered}
use Rattle.schemas.specs.Builds.{Build, with_dest, no_instr, bare, slot_in, takes_holder}
use Rattle.schemas.specs.Scopes.{Scope}
use Rattle.law_wiring.proofs.KeepingSteps.{Stage, bounds_at, step_bounds, code_build, all_keep}
use Rattle.law_wiring.proofs.ArcsLists.{same_op}

abbrev pub opens : List Instr → List ℕ
opens is = flat_map (λ (i : Instr). opened_by i.op) is

opens-push : (is : List Instr) (i : Instr) → opens (is ++ i ∷ []) ≡ opens is ++ opened_by i.op
opens-push [] i = append-nil (opened_by i.op)
opens-push (j ∷ is) i = ap (λ ys. opened_by j.op ++ ys) (opens-push is i) ∙ sym (append_assoc (opened_by j.op) (opens is) (opened_by i.op))

opens-set : (is : List Instr) (n : ℕ) (s : Bool) (d : Dest) → opens (slice_set is n (with_dest (slice_index_or is n no_instr) s d)) ≡ opens is
opens-set [] n s d = refl
opens-set (i ∷ is) zero s d = ap (λ op. opened_by op ++ opens is) (same_op i s d)
opens-set (i ∷ is) (suc n) s d = ap (λ ys. opened_by i.op ++ ys) (opens-set is n s d)

abbrev Opens : Stage → Build → Type 0
Opens s b = opens b.instrs ≡ bounds_at s

pub code_opens : (s : Scope) (turn : Option ℕ) → opens (code_build s turn).instrs ≡ loop_bounds s.block
code_opens = all_keep Opens
    (λ s t b op o m r e f h. opens-push b.instrs (bare op o (slot_in b op)) ∙ ap (λ ys. ys ++ opened_by op) h ∙ sym (step_bounds s op t e))
    (λ s b o to p h. opens-set b.instrs (o.place + o.port) o.second (record { ahead = (to - o.place) - o.port; port = p }) ∙ h)
    (λ s b o h. h) refl

-- MARKS
abbrev pub AreFit : List Instr → List Mark → Type 0
AreFit [] [] = ⊤
AreFit (i ∷ is) (m ∷ ms) = Fits i.op m × AreFit is ms
AreFit is ms = ⊥

fit-push : (is : List Instr) (ms : List Mark) (i : Instr) (m : Mark) → AreFit is ms → Fits i.op m → AreFit (is ++ i ∷ []) (ms ++ m ∷ [])
fit-push [] [] i m h f = (f, tt)
fit-push (j ∷ is) (n ∷ ms) i m h f = (h.0, fit-push is ms i m h.1 f)
fit-push [] (n ∷ ms) i m h f = absurd h
fit-push (j ∷ is) [] i m h f = absurd h

fit-set : (is : List Instr) (ms : List Mark) (n : ℕ) (s : Bool) (d : Dest) → AreFit is ms
    → AreFit (slice_set is n (with_dest (slice_index_or is n no_instr) s d)) ms
fit-set [] ms n s d h = h
fit-set (i ∷ is) (m ∷ ms) zero s d h = (subst (λ op. Fits op m) (sym (same_op i s d)) h.0, h.1)
fit-set (i ∷ is) (m ∷ ms) (suc n) s d h = (h.0, fit-set is ms n s d h.1)
fit-set (i ∷ is) [] n s d h = absurd h

abbrev Marked : Stage → Build → Type 0
Marked s b = AreFit b.instrs b.marks

pub code_fits : (s : Scope) (turn : Option ℕ) → AreFit (code_build s turn).instrs (code_build s turn).marks
code_fits = all_keep Marked
    (λ s t b op o m r e f h. fit-push b.instrs b.marks (bare op o (slot_in b op)) m h f)
    (λ s b o to p h. fit-set b.instrs b.marks (o.place + o.port) o.second (record { ahead = (to - o.place) - o.port; port = p }) h)
    (λ s b o h. h) tt

-- HOLDERS
numbered-push : (n : ℕ) (is : List Instr) (count : ℕ) (i : Instr) → AreNumbered n is count → (takes_holder i.op ≡ true → i.slot ≡ count)
    → AreNumbered n (is ++ i ∷ []) (if takes_holder i.op then count + 1 else count)
numbered-push n [] count i h f = (λ e. f e ∙ sym h, ap (λ k. if takes_holder i.op then k + 1 else k) h)
numbered-push n (j ∷ is) count i h f = (h.0, numbered-push (if takes_holder j.op then n + 1 else n) is count i h.1 f)

numbered-set : (n : ℕ) (is : List Instr) (count k : ℕ) (s : Bool) (d : Dest) → AreNumbered n is count
    → AreNumbered n (slice_set is k (with_dest (slice_index_or is k no_instr) s d)) count
numbered-set n [] count k s d h = h
numbered-set n (i ∷ is) count zero true d h = h
numbered-set n (i ∷ is) count zero false d h = h
numbered-set n (i ∷ is) count (suc k) s d h = (h.0, numbered-set (if takes_holder i.op then n + 1 else n) is count k s d h.1)

abbrev Numbered : Stage → Build → Type 0
Numbered s b = AreNumbered 0 b.instrs b.holders

its_slot : (b : Build) (op : Op) → takes_holder op ≡ true → slot_in b op ≡ b.holders
its_slot b op e = ap (λ t. if t then b.holders else if is_credit op then b.opened else 0) e

pub code_numbered : (s : Scope) (turn : Option ℕ) → AreNumbered 0 (code_build s turn).instrs (code_build s turn).holders
code_numbered = all_keep Numbered
    (λ s t b op o m r e f h. numbered-push 0 b.instrs b.holders (bare op o (slot_in b op)) h (its_slot b op))
    (λ s b o to p h. numbered-set 0 b.instrs b.holders (o.place + o.port) o.second (record { ahead = (to - o.place) - o.port; port = p }) h)
    (λ s b o h. h) refl
