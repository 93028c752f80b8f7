-- The test of chosen arcs identifies the end arcs of a holder, and the arcs of one side of a mark.
use Rattle.std.proofs.Common.{◌≡◌, ◌≢◌, refl, sym, ap, ◌∙◌, subst, ℕ, Bool, true, false, not, List, [], Option, Some, None}
use Rattle.std.specs.Prelude.{slice_get, unwrap_or}
use Rattle.std.specs.Bool.{Decides}
use Rattle.std.proofs.lemmas.Bool.{both_ways, and_parts, and_from, eqb-true, eq-eqb}
use Rattle.std.proofs.lemmas.Option.{same_Some}
use Rattle.semantics.specs.declared.program.Mark.{Mark}
use Rattle.semantics.specs.declared.program.Mark.TheVariants.{Unmarked, OfCond, OfFlag}
use Rattle.semantics.specs.Program.{Instr, CodeBlock}
use Rattle.semantics.specs.Rule.{slot_of}
use Rattle.semantics.specs.Plan.{Plan, mark_at, mark_in}
use Rattle.semantics.specs.Sharing.{Arc, IsEnd, IsSide, ends_with}
use Rattle.code.specs.Marks.{marks_in}
use Rattle.slot_alloc.specs.Passes.{Ends, Side}
use Rattle.slot_alloc.specs.Passes.{is_holder, same_mark, is_chosen, mark_of}

is_holder_exact : (o : Option ℕ) (h : ℕ) → Decides (is_holder o h) (o ≡ Some h)
is_holder_exact None h = (λ e. absurd (both_ways false refl e), λ e. cc)
is_holder_exact (Some g) h = (λ e. ap (λ n. Some n) (eqb-true g h e), λ e. eq-eqb g h (same_Some g h e))

-- the mark of an instruction
mark_in_of : (o : Option (List Mark)) (n : ℕ) → mark_in o n ≡ mark_of (unwrap_or o []) n
mark_in_of None n = refl
mark_in_of (Some ms) n = by_mark (slice_get ms n)
  where
    by_mark : (o : Option Mark) → (elim o as (λ x. Mark) [ None ↦ Unmarked | Some m ↦ m ]) ≡ unwrap_or o Unmarked
    by_mark None = refl
    by_mark (Some m) = refl

pub mark_at_of : (p : Plan) (b n : ℕ) → mark_at p b n ≡ mark_of (marks_in p b) n
mark_at_of p b n = mark_in_of (slice_get p.marks b) n

pub same_mark_exact : (m n : Mark) → Decides (same_mark m n) ((n ≡ m) × (m ≢ Unmarked))
same_mark_exact Unmarked n = (λ e. absurd (both_ways false refl e), λ w. absurd (w.1 refl))
same_mark_exact (OfCond c) Unmarked = (λ e. absurd (both_ways false refl e), λ w. cc)
same_mark_exact (OfCond c) (OfCond d) = (λ e. (ap (λ (k : ℕ). OfCond k) (sym (eqb-true c d e)), λ f. cc), λ w. eq-eqb c d (cond_of c d w.0))
  where
    cond_of : (x y : ℕ) → OfCond y ≡ OfCond x → x ≡ y
    cond_of x y e = cc
same_mark_exact (OfCond c) OfFlag = (λ e. absurd (both_ways false refl e), λ w. cc)
same_mark_exact OfFlag Unmarked = (λ e. absurd (both_ways false refl e), λ w. cc)
same_mark_exact OfFlag (OfCond d) = (λ e. absurd (both_ways false refl e), λ w. cc)
same_mark_exact OfFlag OfFlag = (λ e. (refl, λ f. cc), λ w. refl)

-- the arcs of the instruction at a place
pub ends_tell : (c : CodeBlock) (h n : ℕ) (i : Instr) (m : Mark) (y : Arc) → slice_get c.instrs n ≡ Some i → y.from ≡ n
    → Decides (is_chosen (Ends h) i m y.second) (IsEnd (Some c) h y)
ends_tell c h n i m y at from = (
  λ e.
      let w = and_parts (is_holder (slot_of i i.op) h) (ends_with i.op) e in
      (i, (ap (λ k. slice_get c.instrs k) from ∙ at, (is_holder_exact (slot_of i i.op) h).0 w.0), w.1),
  λ w.
      let same : w.0 ≡ i = same_Some w.0 i (sym w.1.0 ∙ ap (λ k. slice_get c.instrs k) from ∙ at) in
      and_from (is_holder (slot_of i i.op) h) (ends_with i.op)
      ((is_holder_exact (slot_of i i.op) h).1 (subst (λ (j : Instr). slot_of j j.op ≡ Some h) same w.1.1))
      (subst (λ (j : Instr). ends_with j.op ≡ true) same w.2),
)

side_exact : (side second : Bool) (m n : Mark) (i : Instr) → Decides (is_chosen (Side side m) i n second) ((n ≡ m) × (m ≢ Unmarked) × (second ≡ not side))
side_exact true second m n i = (
  λ e. let w = and_parts (same_mark m n) (not second) e in let d = (same_mark_exact m n).0 w.0 in (d.0, d.1, is_false second w.1),
  λ w. and_from (same_mark m n) (not second) ((same_mark_exact m n).1 (w.0, w.1)) (ap not w.2),
)
  where
    is_false : (s : Bool) → not s ≡ true → s ≡ false
    is_false true e = absurd (both_ways false refl e)
    is_false false e = refl
side_exact false second m n i = (
  λ e. let w = and_parts (same_mark m n) second e in let d = (same_mark_exact m n).0 w.0 in (d.0, d.1, w.1),
  λ w. and_from (same_mark m n) second ((same_mark_exact m n).1 (w.0, w.1)) w.2,
)

pub sides_tell : (p : Plan) (b : ℕ) (side : Bool) (m : Mark) (n : ℕ) (i : Instr) (y : Arc) → y.from ≡ n
    → Decides (is_chosen (Side side m) i (mark_of (marks_in p b) n) y.second) (IsSide p b m side y)
sides_tell p b side m n i y from =
    let mark : mark_at p b y.from ≡ mark_of (marks_in p b) n = mark_at_of p b y.from ∙ ap (mark_of (marks_in p b)) from in
    let d = side_exact side y.second m (mark_of (marks_in p b) n) i in
    (λ e. let w = d.0 e in (mark ∙ w.0, w.1, w.2), λ w. d.1 (sym mark ∙ w.0, w.1, w.2))
