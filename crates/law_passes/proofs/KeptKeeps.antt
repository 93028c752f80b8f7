-- What folding keeps where each instruction has the slot that it had.
use Rattle.std.proofs.Common.{refl, ℕ, ◌+◌, ◌<◌, arith}
use Rattle.semantics.specs.Credits.{IsLink}
use Rattle.semantics.specs.Plan.{Plan, landing}
use Rattle.code.specs.Sound.{IsSound}
use Rattle.law_reuse.proofs.SlotsPlaced.{Found, found}
use Rattle.law_fresh_frames.specs.Alike.{HasLanding, IsTidy}
use Rattle.law_passes.specs.Kept.{kept_slots, KeptSlotsTidy, KeptSlotsLands, KeptSlotsKeepBounds, KeptSlotsOrderly, KeptSlotsKeep}
use Rattle.law_passes.proofs.KeptMoves.{kept_slots_folds, no_skips}
use Rattle.law_passes.proofs.KeptEntries.{entries_kept}
use Rattle.law_passes.proofs.KeptStatic.{stays_for, comes_back, marks_kept, blocks_kept, same_landings, landings_moved, lone_leaf, kept_tidy}
use Rattle.law_simulation.specs.Simulates.{Relates, Simulates}
use Rattle.law_simulation.proofs.SimulationKeeps.{simulation_keeps}
use Rattle.law_simulation.proofs.SimulationLands.{lands_kept}

-- what a link leads to is its landing
link_landing : (p : Plan) → IsTidy p → (ip callee base o : ℕ) → IsLink p.program ip callee base → o < landing p callee → HasLanding p base o
link_landing p tidy ip callee base o L low =
    let F : Found p.program ip L.instr = found p.program ip L.instr L.is_at in
    let room = tidy.landings F.b F.n F.stands.code L.instr L.dest callee F.stands.block F.stands.instr L.does L.lands in
    let begins = L.begins in let place = F.place in
    record {
      b = F.b;
      n = F.n;
      c = F.stands.code;
      i = L.instr;
      d = L.dest;
      callee = callee;
      block = F.stands.block;
      instr = F.stands.instr;
      links = L.does;
      lands = L.lands;
      begins = omega (arith, begins, place);
      within = low;
      inside = omega (arith, room, low);
    }

kept_slots_simulate : (p : Plan) → IsSound p → IsTidy p → Simulates p (kept_slots p)
unfolding kept_slots_folds
kept_slots_simulate p s tidy =
    let S : Relates p (kept_slots p) = kept_slots_folds p s in
    record {
      relates = S;
      stays = λ a i at off. stays_for p s i.op off a i at refl;
      back = comes_back p s;
      sizes = same_landings p s;
      rows = λ ip callee base o L low. (S.landings base o (link_landing p tidy ip callee base o L low)).0;
      lands = landings_moved p s;
      unskipped = λ ip callee base o L low K. no_skips p s (base + o) K;
      marks = marks_kept p s;
      blocks = blocks_kept p s;
      lone = lone_leaf p s tidy;
      entries = entries_kept p s;
    }

pub kept_slots_tidy : KeptSlotsTidy
kept_slots_tidy p s tidy = kept_tidy p s tidy

pub kept_slots_lands : KeptSlotsLands
unfolding kept_slots_folds
kept_slots_lands p s orderly lands = lands_kept p (kept_slots p) (kept_slots_folds p s) (landings_moved p s) s.wired orderly lands

pub kept_slots_keep : KeptSlotsKeep
kept_slots_keep p s orderly lands tidy = simulation_keeps p (kept_slots p) (kept_slots_simulate p s tidy) s.wired orderly lands

pub kept_slots_bounds : KeptSlotsKeepBounds
kept_slots_bounds p s tidy orderly lands = (kept_slots_keep p s orderly lands tidy).bounds

pub kept_slots_orderly : KeptSlotsOrderly
kept_slots_orderly p s tidy orderly lands = (kept_slots_keep p s orderly lands tidy).orderly
