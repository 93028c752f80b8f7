-- What narrowing keeps, and that the code of a narrowed plan is faithful.
use Rattle.std.proofs.Common.{refl}
use Rattle.std.specs.Prelude.{All}
use Rattle.lemmas.proofs.Alls.{all_at}
use Rattle.semantics.specs.Program.{CodeBlock}
use Rattle.semantics.specs.Plan.{Plan}
use Rattle.fanout.specs.Laws.{HasFew}
use Rattle.fanout.specs.Narrowed.{narrowed}
use Rattle.fanout.proofs.Shapes.{narrowed_few}
use Rattle.fanout.proofs.LoopsStay.{still_has_bounds}
use Rattle.fanout.proofs.SoundPlans.{stays_sound}
use Rattle.law_fresh_frames.specs.Bounded.{HasFewDests}
use Rattle.law_fresh_frames.proofs.FreshReady.{ready_stays, ready_code_is_faithful}
use Rattle.law_passes.proofs.SpreadKeeps.{spread_plans_keep}
use Rattle.law_passes.proofs.SpreadTidy.{spread_plans_stay_tidy}
use Rattle.law_passes.specs.Narrowed.{NarrowingKeeps, NarrowedIsTidy, NarrowedIsReady, NarrowedCodeIsFaithful}
use Rattle.law_passes.proofs.NarrowSpread.{narrowed_spreads}

pub narrowing_keeps : NarrowingKeeps
narrowing_keeps p s orderly lands tidy = spread_plans_keep p (narrowed p) (narrowed_spreads p s tidy) s.wired orderly lands

pub narrowed_is_tidy : NarrowedIsTidy
narrowed_is_tidy p s tidy = spread_plans_stay_tidy p (narrowed p) (narrowed_spreads p s tidy) s tidy

pub narrowed_is_ready : NarrowedIsReady
narrowed_is_ready fl p r =
    ready_stays fl p (narrowed p) (narrowing_keeps p r.sound r.orderly r.lands r.tidy) (stays_sound p r.sound) (narrowed_is_tidy p r.sound r.tidy) refl
    (still_has_bounds fl p r.faithful.bounds) (narrowed_spreads p r.sound r.tidy).inputs r

few_dests : (p : Plan) → HasFewDests (narrowed p).program
few_dests p b n c i at_b at_n =
    all_at HasFew c.instrs n i (all_at (λ (c : CodeBlock). All HasFew c.instrs) (narrowed p).program.blocks b c (narrowed_few p) at_b) at_n

pub narrowed_code_is_faithful : NarrowedCodeIsFaithful
narrowed_code_is_faithful fl p slots r good = ready_code_is_faithful fl (narrowed p) slots (narrowed_is_ready fl p r) (few_dests p) good
