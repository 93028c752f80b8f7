-- The marks of a folded plan are those of its switches.
use Rattle.std.proofs.Common.{◌≡◌, ℕ, zero, suc, ◌+◌, false, List, ◌∷◌, refl, sym, ap, ◌∙◌, arith, Option, Some, None, unwrap_or, []}
use Rattle.std.specs.Prelude.{◌≢◌, slice_get}
use Rattle.lemmas.proofs.SliceGet.{map_got}
use Rattle.semantics.specs.declared.program.Mark.{Mark}
use Rattle.semantics.specs.declared.program.Mark.TheVariants.{Unmarked}
use Rattle.semantics.specs.declared.program.Op.{Op}
use Rattle.semantics.specs.declared.program.Op.TheVariants.{Switch, Apply2}
use Rattle.semantics.specs.Program.{Instr, CodeBlock}
use Rattle.semantics.specs.Plan.{Plan, mark_in, mark_at}
use Rattle.code.specs.Marks.{marks_in}
use Rattle.folding.specs.declared.folds.Fold.{Fold}
use Rattle.folding.specs.declared.folds.Fold.TheVariants.{Unchanged, OnRight, LeftLiteral}
use Rattle.folding.specs.Folds.{new_op}
use Rattle.folding.specs.Places.{layout_of, new_place, gone_at, folds_at}
use Rattle.folding.specs.Moved.{moved}
use Rattle.folding.specs.Folded.{mark_of, folded_block, folded_marks, all_marks, folded}
use Rattle.folding.specs.Laws.{KeepsMarks, StillMarksSwitches, StillMarksNoOthers}
use Rattle.folding.proofs.Standing.{stands_at, has_no_others}

marks_of_block : (p : Plan) (n : ℕ) (cs : List CodeBlock) (b : ℕ) (c : CodeBlock) → slice_get cs b ≡ Some c → slice_get (all_marks p n cs) b
    ≡ Some (folded_marks p (marks_in p (n + b)) c)
marks_of_block p n [] b c at = absurd (cc)
marks_of_block p n (d ∷ cs) zero c at = let e : d ≡ c = cc in let z : n ≡ n + 0 = omega arith in (λ k. Some (folded_marks p (marks_in p (z k)) (e k)))
marks_of_block p n (d ∷ cs) (suc b) c at = let z : n + 1 + b ≡ n + suc b = omega arith in marks_of_block p (n + 1) cs b c at
    ∙ ap (λ m. Some (folded_marks p (marks_in p m) c)) z

mark_is : (ms : List Mark) (n : ℕ) → mark_in (Some ms) n ≡ mark_of ms n
mark_is ms n = elim (slice_get ms n) as (λ o. (elim o as (λ x. Mark) [ None ↦ Unmarked | Some m ↦ m ]) ≡ unwrap_or o Unmarked) [ None ↦ refl | Some m ↦ refl ]

mark_there : (o : Option (List Mark)) (n : ℕ) → mark_of (unwrap_or o []) n ≡ mark_in o n
mark_there None n = refl
mark_there (Some ms) n = sym (mark_is ms n)

pub keeps_marks : KeepsMarks
keeps_marks p b c n i at there stay =
    let l = layout_of p c in let ms = marks_in p b in let z : 0 + b ≡ b = omega arith in
    ap (λ o. mark_in o (new_place l n)) (marks_of_block p 0 p.program.blocks b c at ∙ ap (λ m. Some (folded_marks p (marks_in p m) c)) z)
    ∙ mark_is (folded_marks p ms c) (new_place l n)
    ∙ ap (λ o. unwrap_or o Unmarked) (stands_at p c (λ m i. mark_of ms m) n i there stay)
    ∙ mark_there (slice_get p.marks b) n

switch_after : (f : Fold) → new_op f Switch ≡ Switch
switch_after Unchanged = refl
switch_after (OnRight z) = refl
switch_after (LeftLiteral z) = refl

switch_before : (f : Fold) (op : Op) → new_op f op ≡ Switch → op ≡ Switch
switch_before (OnRight z) (Apply2 op) e = absurd (cc)
switch_before (LeftLiteral z) (Apply2 op) e = absurd (cc)
switch_before f op e = e

-- an instruction of the folded plan is one of the plan, with its mark
abbrev Origin : Plan → ℕ → ℕ → Instr → Type 0
Origin p b m j = (n : ℕ) × (c : CodeBlock) × (i : Instr) × (f : Fold) × (slice_get p.program.blocks b ≡ Some c) × (slice_get c.instrs n ≡ Some i)
    × (j.op ≡ new_op f i.op) × (mark_at (folded p) b m ≡ mark_at p b n)

origin : (p : Plan) (b m : ℕ) (d : CodeBlock) (j : Instr) → slice_get (folded p).program.blocks b ≡ Some d → slice_get d.instrs m ≡ Some j → Origin p b m j
origin p b m d j block at = in_block (map_got (folded_block p) p.program.blocks b d block)
  where
    in_block : (c : CodeBlock) × (slice_get p.program.blocks b ≡ Some c) × (d ≡ folded_block p c) → Origin p b m j
    in_block (c, there, same) = found (has_no_others p c m j (sym (ap (λ (x : CodeBlock). slice_get x.instrs m) same) ∙ at))
      where
        found : (n : ℕ) × (i : Instr) × (slice_get c.instrs n ≡ Some i) × (gone_at (layout_of p c) n ≡ false) × (new_place (layout_of p c) n ≡ m)
            × (j ≡ moved (layout_of p c) n i) → Origin p b m j
        found (n, i, stood, stay, place, e) = (
          n,
          c,
          i,
          folds_at (layout_of p c) n,
          there,
          stood,
          ap (λ (x : Instr). x.op) e,
          sym
              (ap (mark_at (folded p) b) place) ∙ keeps_marks p b c n i there stood stay,
        )

pub still_marks_switches : StillMarksSwitches
still_marks_switches p marked b m d j block at switch = by_origin (origin p b m d j block at)
  where
    by_origin : Origin p b m j → mark_at (folded p) b m ≢ Unmarked
    by_origin (n, c, i, f, there, stood, op, mark) none = marked b n c i there stood (switch_before f i.op (sym op ∙ switch)) (sym mark ∙ none)

pub still_marks_no_others : StillMarksNoOthers
still_marks_no_others p marked b m d j block at mark = by_origin (origin p b m d j block at)
  where
    by_origin : Origin p b m j → j.op ≡ Switch
    by_origin (n, c, i, f, there, stood, op, same) = op ∙ ap (new_op f) (marked b n c i there stood (λ none. mark (same ∙ none))) ∙ switch_after f
