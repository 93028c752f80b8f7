-- A sound plan stays sound when it is folded.
use Rattle.std.proofs.Common.{◌≡◌, ℕ, length, subst, Some}
use Rattle.std.specs.Prelude.{slice_get}
use Rattle.lemmas.proofs.Alls.{all_at, all_from}
use Rattle.lemmas.proofs.Contains.{contains_get, get_contains}
use Rattle.semantics.specs.Program.{Instr, CodeBlock}
use Rattle.semantics.specs.Plan.{Plan, HasShape, IsPlanBlock, IsPlan}
use Rattle.semantics.specs.Wired.{LoopsAgree, IsWired}
use Rattle.code.specs.Sound.{DestsAreSound, IsSound}
use Rattle.folding.specs.Folded.{folded_block, folded}
use Rattle.folding.specs.Laws.{IsBelow}
use Rattle.folding.specs.Sound.{StillSound}
use Rattle.folding.proofs.Marked.{still_marks_switches, still_marks_no_others}
use Rattle.folding.proofs.Held.{keeps_holders, keeps_below}
use Rattle.folding.proofs.Used.{keeps_used}
use Rattle.folding.proofs.SoundLists.{block_back}
use Rattle.folding.proofs.SoundDests.{dests_stay_sound}
use Rattle.folding.proofs.SoundInstrs.{block_sound, program_stays_sound}
use Rattle.folding.proofs.SoundArcs.{past_entries, right_dyadic}
use Rattle.folding.proofs.SoundLoops.{loops_stay}

module _ (p : Plan) (sound : IsSound p) where
  dests : DestsAreSound (folded p)
  dests = dests_stay_sound p sound.dests (λ b c at. (sound.program.blocks b c at).size)

  module _ (b : ℕ) (c : CodeBlock) (at_b : slice_get p.program.blocks b ≡ Some c) where
    old : IsPlanBlock c
    old = all_at IsPlanBlock p.program.blocks b c sound.wired.plan.blocks at_b

    below : IsBelow c
    below n h i at held = old.below i h (get_contains c.instrs n i at) held

    plan_block : IsPlanBlock (folded_block p c)
    plan_block = record {
      shapes = all_from (λ (i : Instr). HasShape i.op (length i.firsts) (length i.seconds)) (folded_block p c).instrs
          (λ n i at. ((block_sound p sound b c at_b).instrs n i at).shape);
      holders = keeps_holders p c old.holders below;
      below = λ i h has held. let g = contains_get (folded_block p c).instrs i has in keeps_below p c old.holders below g.0 h i g.1 held;
      used = keeps_used p c old.used;
    }

    loops : LoopsAgree (folded_block p c)
    loops = loops_stay p c old.holders below old.used (sound.wired.loops b c at_b)

  plan : IsPlan (folded p)
  plan = record {
    blocks = all_from IsPlanBlock (folded p).program.blocks (λ b e at. let o = block_back p b e at in subst IsPlanBlock o.2 (plan_block b o.0 o.1));
    marked = still_marks_switches p sound.wired.plan.marked;
  }

  wired : IsWired (folded p)
  wired = record {
    plan = plan;
    entries = λ b c x at has. past_entries (folded p) dests b c at x has;
    rights = λ b c x at has right. right_dyadic (folded p) dests b c at x has right;
    switches = still_marks_no_others p sound.wired.switches;
    loops = λ b e at. let o = block_back p b e at in subst LoopsAgree o.2 (loops b o.0 o.1);
  }

pub still_sound : StillSound
still_sound p sound = record { program = program_stays_sound p sound; dests = dests p sound; wired = wired p sound }
