-- The entries of the folded plan that still has its slots are those of the plan.
use Rattle.std.proofs.Common.{◌≡◌, ap, ◌∙◌, ℕ, true}
use Rattle.std.proofs.Common.{arith}
use Rattle.lemmas.proofs.SliceGet.{get_some}
use Rattle.semantics.specs.Plan.{Plan}
use Rattle.semantics.specs.Orderly.{is_entry}
use Rattle.semantics.proofs.BlockPlaces.{entry_in, entry_of}
use Rattle.code.specs.Sound.{IsSound}
use Rattle.folding.proofs.Taken.{keeps_entries}
use Rattle.law_passes.specs.Kept.{kept_block, kept_slots}
use Rattle.law_passes.proofs.KeptNumbering.{word_ip}
use Rattle.law_passes.proofs.KeptPlaces.{new_block}
use Rattle.law_passes.proofs.KeptSpots.{new_within}
use Rattle.law_passes.proofs.KeptMoves.{entry_at}

-- the entries are entries
pub entries_kept : (p : Plan) (s : IsSound p) (a : ℕ) → is_entry p.program.blocks a ≡ true → is_entry (kept_slots p).program.blocks (word_ip p a) ≡ true
entries_kept p s a e =
    let E = entry_of p.program.blocks a e in
    let k = get_some E.c.instrs E.n E.within in
    let r = keeps_entries p E.c E.n E.low E.within in
    let at = (entry_at p s E.b E.c E.block E.n E.low).0 in
    let w = new_within p s E.b E.c E.block E.n k.0 k.1 r.0 in
    let same = r.1 in
    ap (λ (n : ℕ). is_entry (kept_slots p).program.blocks (word_ip p n)) E.place ∙ ap (is_entry (kept_slots p).program.blocks) at
    ∙ entry_in (kept_slots p).program.blocks E.b E.n (kept_block p E.c) (new_block p s E.b E.c E.block) E.low (omega (arith, w, same))
