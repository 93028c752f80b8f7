-- The entries of a narrowed block are those of the block, in their places.
use Rattle.std.proofs.Common.{◌≡◌, ap, ◌∙◌, ℕ, ◌+◌, ◌<◌, ◌≤◌, true, length, Some, zero-add, arith}
use Rattle.std.specs.Prelude.{slice_get}
use Rattle.std.specs.Option.{option_map}
use Rattle.std.proofs.lemmas.Option.{slice_get-map}
use Rattle.semantics.specs.Program.{CodeBlock, first_of}
use Rattle.semantics.specs.Plan.{Plan}
use Rattle.semantics.specs.Orderly.{is_entry}
use Rattle.code.specs.Sound.{IsSound}
use Rattle.fanout.specs.Narrowed.{layout_of, narrowed, narrowed_block}
use Rattle.fanout.specs.Places.{place_of}
use Rattle.law_fresh_frames.specs.Alike.{IsTidy}
use Rattle.std.proofs.Common.{◌≡◌, ap, ◌∙◌, ℕ, ◌+◌, ◌<◌, ◌≤◌, true, length, Some, arith, zero-add}
use Rattle.std.specs.Prelude.{slice_get}
use Rattle.std.proofs.lemmas.Option.{slice_get_within, slice_get-map}
use Rattle.lemmas.proofs.SliceGet.{get_some}
use Rattle.semantics.specs.Program.{CodeBlock, first_of}
use Rattle.semantics.specs.Plan.{Plan}
use Rattle.semantics.proofs.BlockPlaces.{entry_in, entry_of}
use Rattle.code.specs.Sound.{IsSound}
use Rattle.fanout.specs.Sides.{parted}
use Rattle.fanout.specs.Rows.{is_tied}
use Rattle.fanout.specs.Places.{place_of}
use Rattle.fanout.specs.Narrowed.{layout_of, narrowed, narrowed_block}
use Rattle.fanout.proofs.Spots.{place_is}
use Rattle.fanout.proofs.Flags.{entries_tied, place_tied}
use Rattle.fanout.proofs.Plans.{is, ts, l, all}
use Rattle.fanout.proofs.Arrows.{in_parts}
use Rattle.law_passes.proofs.NarrowPlaces.{new_ip, ip_at, place_in}
use Rattle.law_passes.proofs.NarrowTrees.{h_at}

pub entry_at : (p : Plan) (s : IsSound p) (tidy : IsTidy p) (b : ℕ) (c : CodeBlock) (at_b : slice_get p.program.blocks b ≡ Some c) (n : ℕ) → n ≤ c.inputs
    → new_ip p p.program.blocks (first_of p.program b + n) ≡ first_of (narrowed p).program b + n
entry_at p s tidy b c at_b n low =
    let size = (s.program.blocks b c at_b).size in
    let within : n < length c.instrs = omega (arith, low, size) in
    let i = get_some c.instrs n within in
    let at_i = in_parts c n i.0 i.1 in
    let long = slice_get_within (is p c) n (parted i.0) at_i in
    let m = place_tied (ts p c) 0 0 0 (is p c) n (place_of (l p c) n)
    (λ k u. let z : 0 + k ≡ k = zero-add k in ap (is_tied (ts p c)) z ∙ entries_tied p c.inputs (is p c) k (omega (arith, low, u)) (omega (arith, long, u)))
    (place_is (ts p c) (is p c) (all p c) n (parted i.0) at_i) in
    let h = h_at p s tidy b c at_b n within in
    omega (arith, h, m)

pub entries_kept : (p : Plan) (s : IsSound p) (tidy : IsTidy p) (a : ℕ) → is_entry p.program.blocks a ≡ true
    → is_entry (narrowed p).program.blocks (new_ip p p.program.blocks a) ≡ true
entries_kept p s tidy a e =
    let E = entry_of p.program.blocks a e in
    let new : slice_get (narrowed p).program.blocks E.b ≡ Some (narrowed_block p E.c) = slice_get-map (narrowed_block p) p.program.blocks E.b
    ∙ ap (option_map (narrowed_block p)) E.block in
    let at : new_ip p p.program.blocks (first_of p.program E.b + E.n) ≡ first_of (narrowed p).program E.b + E.n = entry_at p s tidy E.b E.c E.block E.n E.low in
    let k : new_ip p p.program.blocks (first_of p.program E.b + E.n) ≡ first_of (narrowed p).program E.b + place_of (layout_of p E.c) E.n =
    ip_at p p.program.blocks E.b E.n E.c E.block E.within in
    let w = place_in p E.c E.n E.within in
    let room : E.n < length (narrowed_block p E.c).instrs = omega (arith, at, k, w) in
    ap (λ (n : ℕ). is_entry (narrowed p).program.blocks (new_ip p p.program.blocks n)) E.place
    ∙ ap (is_entry (narrowed p).program.blocks) at
    ∙ entry_in (narrowed p).program.blocks E.b E.n (narrowed_block p E.c) new E.low room
