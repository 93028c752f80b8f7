-- The destinations of a folded plan are sound.
use Rattle.std.proofs.Common.{◌≡◌, ℕ, ◌+◌, ◌-◌, ◌<◌, ◌≤◌, Bool, true, false, ◌++◌, length, refl, sym, ap, ◌∙◌, subst, inl, inr, ◌⊎◌, arith, Some}
use Rattle.std.proofs.Common.{None, if◌then◌else◌}
use Rattle.std.specs.Prelude.{slice_get, Contains}
use Rattle.std.proofs.lemmas.Option.{slice_get_within}
use Rattle.std.proofs.lemmas.List.Elements.{Contains-append_left, Contains-append_right, Contains-append_cases}
use Rattle.lemmas.proofs.SliceGet.{get_some}
use Rattle.tags.specs.declared.token.Port.{Port}
use Rattle.tags.specs.declared.token.Port.TheVariants.{Right}
use Rattle.semantics.specs.declared.program.Dest.{Dest}
use Rattle.semantics.specs.declared.program.Op.{Op}
use Rattle.semantics.specs.declared.program.Op.TheVariants.{Apply2, Sync, Switch, Store, Send, Return, Ask, Release, Open, Take, Give, Drain}
use Rattle.semantics.specs.Program.{Instr, CodeBlock}
use Rattle.semantics.specs.Rule.{slot_of}
use Rattle.semantics.specs.Plan.{Plan, is_credit}
use Rattle.semantics.specs.Bytes as Bytes
use Rattle.semantics.specs.Wired as Wired
use Rattle.code.specs.Sound.{StandApart, IsSoundDest, DestsAreSound}
use Rattle.folding.specs.declared.folds.Fold.{Fold}
use Rattle.folding.specs.declared.folds.Fold.TheVariants.{Unchanged, OnRight, LeftLiteral}
use Rattle.folding.specs.Folds.{new_op, new_port}
use Rattle.folding.specs.Places.{Layout, layout_of, new_place, gone_at, folds_at}
use Rattle.folding.specs.Moved.{is_shut, moved, moved_dests, new_dest}
use Rattle.folding.specs.Folded.{folded_block, folded}
use Rattle.folding.proofs.Standing.{keeps_order, keeps_instrs, has_no_others}
use Rattle.folding.proofs.Taken.{keeps_entries}
use Rattle.folding.proofs.SoundLists.{moved_back, block_back}
use Rattle.folding.proofs.SoundRows.{shut_stays, sound_dest, stand_apart}

dyadic_op : (i : Instr) (op : Op) → (elim (slot_of i op) as (λ x. Bool) [ None ↦ false | Some r ↦ if is_credit op then false else true ]) ≡ Wired.is_dyadic op
dyadic_op i (Apply2 op) = refl
dyadic_op i Sync = refl
dyadic_op i Switch = refl
dyadic_op i (Store a) = refl
dyadic_op i (Send b e) = refl
dyadic_op i (Return o) = refl
dyadic_op i (Ask o) = refl
dyadic_op i (Release o) = refl
dyadic_op i (Open k) = refl
dyadic_op i (Take k) = refl
dyadic_op i (Give k) = refl
dyadic_op i (Drain k) = refl
dyadic_op i op = refl

-- Whether there are two operands is determined by the operation.
pub dyadic_is : (i : Instr) → Bytes.is_dyadic (Some i) ≡ Wired.is_dyadic i.op
dyadic_is i = dyadic_op i i.op

-- The operand that an operator still takes from outside arrives at the left port.
right_port : (f : Fold) (q : Port) → new_port f q ≡ Right → (f ≡ Unchanged) × (q ≡ Right)
right_port Unchanged q e = (refl, e)
right_port (OnRight z) q e = absurd (cc)
right_port (LeftLiteral z) q e = absurd (cc)

module _ (p : Plan) (sound : DestsAreSound p) (b : ℕ) (c : CodeBlock) (at_b : slice_get p.program.blocks b ≡ Some c)
    (size : c.inputs + 1 ≤ length c.instrs) where
  abbrev l : Layout
  l = layout_of p c

  module _ (n : ℕ) (i : Instr) (d : Dest) (at : slice_get c.instrs n ≡ Some i) (named : Contains (i.firsts ++ i.seconds) d) (stay : gone_at l n
      ≡ false) (shut : is_shut l (n + d.ahead) d.port ≡ false) where
    abbrev to : ℕ
    to = n + d.ahead

    s : IsSoundDest p c n d
    s = sound_dest p sound b c at_b size n i d at named

    stands : gone_at l to ≡ false
    stands = shut_stays l to d.port shut

    in_order : new_place l n < new_place l to
    in_order = let later = s.dest.later in keeps_order p c n to (omega (arith, later)) s.dest.inside stay

    place : new_place l n + (new_place l to - new_place l n) ≡ new_place l to
    place = let k = in_order in omega (arith, k)

    target : (j : Instr) × (slice_get c.instrs to ≡ Some j)
    target = get_some c.instrs to s.dest.inside

    moved_there : slice_get (folded_block p c).instrs (new_place l to) ≡ Some (moved l to target.0)
    moved_there = keeps_instrs p c to target.0 target.1 stands

    still_right : new_port (folds_at l to) d.port ≡ Right
        → Bytes.is_dyadic (slice_get (folded_block p c).instrs (new_place l n + (new_place l to - new_place l n))) ≡ true
    still_right e =
        let k = right_port (folds_at l to) d.port e in
        let same : (moved l to target.0).op ≡ target.0.op = ap (λ f. new_op f target.0.op) k.0 in
        ap (λ m. Bytes.is_dyadic (slice_get (folded_block p c).instrs m)) place
        ∙ ap Bytes.is_dyadic moved_there
        ∙ dyadic_is (moved l to target.0)
        ∙ ap Wired.is_dyadic same
        ∙ sym (dyadic_is target.0)
        ∙ sym (ap Bytes.is_dyadic target.1)
        ∙ s.dest.right k.1

    pub still_sound : IsSoundDest (folded p) (folded_block p c) (new_place l n) (new_dest l n to d.port)
    still_sound =
        let k = in_order in
        let e = place in
        let within = slice_get_within (folded_block p c).instrs (new_place l to) (moved l to target.0) moved_there in
        let entry = keeps_entries p c c.inputs (omega arith) (omega (arith, size)) in
        let same = entry.1 in
        let past = keeps_order p c c.inputs to s.past s.dest.inside entry.0 in
        record {
          dest = record { later = omega (arith, k); inside = omega (arith, e, within); right = still_right };
          past = omega (arith, e, past, same);
          apart = subst (StandApart (folded p) (folded_block p c) (new_place l n)) (sym e) (stand_apart p sound b c at_b size n to stay s.dest.inside s.apart);
        }

pub dests_stay_sound : (p : Plan) → DestsAreSound p → ((b : ℕ) (c : CodeBlock) → slice_get p.program.blocks b ≡ Some c
    → c.inputs + 1 ≤ length c.instrs) → DestsAreSound (folded p)
dests_stay_sound p sound sizes b n e x h = by_block (block_back p b e h.block)
  where
    by_block : (c : CodeBlock) × (slice_get p.program.blocks b ≡ Some c) × (folded_block p c ≡ e) → IsSoundDest (folded p) e n x
    by_block (c, at_b, same) = found (has_no_others p c n h.i (ap (λ (y : CodeBlock). slice_get y.instrs n) same ∙ h.there))
      where
        by_dest : (m : ℕ) (i : Instr) → slice_get c.instrs m ≡ Some i → gone_at (layout_of p c) m ≡ false → new_place (layout_of p c) m ≡ n
            → (d : Dest) × Contains (i.firsts ++ i.seconds) d × (is_shut (layout_of p c) (m + d.ahead) d.port ≡ false)
            × (x ≡ new_dest (layout_of p c) m (m + d.ahead) d.port) → IsSoundDest (folded p) e n x
        by_dest m i at stay place (d, named, shut, new) =
            subst (λ (y : CodeBlock). IsSoundDest (folded p) y n x) same
            (subst (λ k. IsSoundDest (folded p) (folded_block p c) k x) place
            (subst (IsSoundDest (folded p) (folded_block p c) (new_place (layout_of p c) m)) (sym new)
            (still_sound p sound b c at_b (sizes b c at_b) m i d at named stay shut)))

        by_list : (m : ℕ) (i : Instr) → Contains (moved_dests (layout_of p c) m i.firsts) x ⊎ Contains (moved_dests (layout_of p c) m i.seconds) x
            → (d : Dest) × Contains (i.firsts ++ i.seconds) d × (is_shut (layout_of p c) (m + d.ahead) d.port ≡ false)
            × (x ≡ new_dest (layout_of p c) m (m + d.ahead) d.port)
        by_list m i (inl k) = let r = moved_back (layout_of p c) m i.firsts x k in (r.0, Contains-append_left i.firsts i.seconds r.0 r.1, r.2, r.3)
        by_list m i (inr k) = let r = moved_back (layout_of p c) m i.seconds x k in (r.0, Contains-append_right i.firsts i.seconds r.0 r.1, r.2, r.3)

        found : (m : ℕ) × (i : Instr) × (slice_get c.instrs m ≡ Some i) × (gone_at (layout_of p c) m ≡ false) × (new_place (layout_of p c) m ≡ n)
            × (h.i ≡ moved (layout_of p c) m i) → IsSoundDest (folded p) e n x
        found (m, i, at, stay, place, new) =
            let names = subst (λ (y : Instr). Contains (y.firsts ++ y.seconds) x) new h.named in
            by_dest m i at stay place (by_list m i (Contains-append_cases (moved_dests (layout_of p c) m i.firsts)
            (moved_dests (layout_of p c) m i.seconds) x names))
