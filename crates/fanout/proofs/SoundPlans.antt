-- A sound plan stays sound when it is narrowed.
use Rattle.std.proofs.Common.{◌≡◌, ℕ, ◌+◌, ◌≤◌, List, ◌++◌, length, ap, ◌∙◌, subst, arith, Some}
use Rattle.std.specs.Prelude.{slice_get, All, Contains}
use Rattle.std.specs.Option.{option_map}
use Rattle.std.proofs.lemmas.List.{length-map}
use Rattle.std.proofs.lemmas.Option.{slice_get_within, slice_get-map}
use Rattle.lemmas.proofs.Alls.{all_at, all_from}
use Rattle.lemmas.proofs.SliceGet.{map_get_back, get_some}
use Rattle.semantics.specs.declared.program.Dest.{Dest}
use Rattle.semantics.specs.declared.program.Op.{Op}
use Rattle.semantics.specs.declared.program.Op.TheVariants.{Fetch, Store, Frame, Link, Send, Ask, Take, Release}
use Rattle.semantics.specs.Program.{Instr, CodeBlock}
use Rattle.semantics.specs.Plan.{Plan, HasShape}
use Rattle.semantics.specs.Bytes.{HasDests, IsDest}
use Rattle.semantics.specs.Wired.{IsInstrAt}
use Rattle.code.specs.Sound as Sound
use Rattle.code.specs.Sound.{NamesRightly, IsPlace, IsSoundInstr, IsSoundBlock, IsSoundDest, IsSound}
use Rattle.fanout.specs.Places.{place_of}
use Rattle.fanout.specs.Trees.{moved}
use Rattle.fanout.specs.Sides.{parted}
use Rattle.fanout.specs.Narrowed.{narrowed, narrowed_block}
use Rattle.fanout.specs.Laws.{LandsLeft, IsShaped, HasItsDests, KeepsClear}
use Rattle.fanout.specs.Sound.{StaysSound, SoundHasDests}
use Rattle.fanout.proofs.Positions.{place_low}
use Rattle.fanout.proofs.Spots.{place_is}
use Rattle.fanout.proofs.Shapes.{block_all, narrowed_dests}
use Rattle.fanout.proofs.Plans.{is, ts, l, all, at_place}
use Rattle.fanout.proofs.Arrows.{in_parts, dests_stay}
use Rattle.fanout.proofs.Wires.{past_entries, stays_wired}
use Rattle.fanout.proofs.SoundFlags.{sound_keeps_clear}
use Rattle.fanout.proofs.SoundRows.{stand_apart}

-- DESTINATIONS, as many as each kind has
lands_so : (op : Op) (ds : List Dest) → Sound.LandsLeft op ds → LandsLeft op ds
lands_so (Link b) ds h = h
lands_so op ds h = tt

pub sound_has_dests : SoundHasDests
sound_has_dests p s = narrowed_dests p
    (all_from (λ (c : CodeBlock). All IsShaped c.instrs) p.program.blocks (λ b c e.
    all_from IsShaped c.instrs (λ n i f. let h = (s.program.blocks b c e).instrs n i f in (h.shape, lands_so i.op i.firsts h.lands))))

-- and so of the shape that a plan asks for
has_shape : (op : Op) (ds es : List Dest) → HasDests op ds es → HasShape op (length ds) (length es)
has_shape (Fetch a) ds es h = h
has_shape (Store a) ds es h = h
has_shape Frame ds es h = h
has_shape (Ask o) ds es h = h
has_shape (Link b) ds es h = h.0
has_shape (Take k) ds es h = h
has_shape (Release o) ds es h = h
has_shape op ds es h = tt

has_landing : (op : Op) (ds es : List Dest) → HasDests op ds es → Sound.LandsLeft op ds
has_landing (Link b) ds es h = h.1
has_landing op ds es h = tt

-- WHAT OPERANDS NAME
named_still : (p : Plan) (op : Op) → NamesRightly p.program op → NamesRightly (narrowed p).program op
named_still p (Link b) h = let n = length-map p.program.blocks (narrowed_block p) in omega (arith, h, n)
named_still p (Send b e) h = (narrowed_block p h.0, slice_get-map (narrowed_block p) p.program.blocks b ∙ ap (option_map (narrowed_block p)) h.1, h.2)
named_still p op h = h

-- what a narrowed plan says of an instruction, except for its destinations
abbrev NamesWell : Plan → Instr → Type 0
NamesWell p i = NamesRightly (narrowed p).program i.op × IsPlace i.origin

module _ (p : Plan) (s : IsSound p) (b : ℕ) (c : CodeBlock) (at : slice_get p.program.blocks b ≡ Some c) where
  old : IsSoundBlock p.program c
  old = s.program.blocks b c at

  clear : KeepsClear p
  clear = sound_keeps_clear p s

  at_new : slice_get (narrowed p).program.blocks b ≡ Some (narrowed_block p c)
  at_new = slice_get-map (narrowed_block p) p.program.blocks b ∙ ap (option_map (narrowed_block p)) at

  names_well : All (NamesWell p) (narrowed_block p c).instrs
  names_well = block_all (NamesWell p) (NamesWell p) (NamesWell p) (λ l n i h. h) (λ l n at j ds. (tt, tt)) (λ i h. h) p c
      (all_from (NamesWell p) c.instrs (λ n i e. let h = old.instrs n i e in (named_still p i.op h.operand, h.origin)))

  with_dests : All HasItsDests (narrowed_block p c).instrs
  with_dests = all_at (λ (c : CodeBlock). All HasItsDests c.instrs) (narrowed p).program.blocks b (narrowed_block p c) (sound_has_dests p s) at_new

  sound_instr : (n : ℕ) (i : Instr) → IsInstrAt (narrowed_block p c) n i → IsSoundInstr (narrowed p).program i
  sound_instr n i e =
      let h = all_at (NamesWell p) (narrowed_block p c).instrs n i names_well e in
      let k = all_at HasItsDests (narrowed_block p c).instrs n i with_dests e in
      record { operand = h.0; origin = h.1; shape = has_shape i.op i.firsts i.seconds k; lands = has_landing i.op i.firsts i.seconds k }

  still_there : c.inputs + 1 ≤ length (narrowed_block p c).instrs
  still_there =
      let size = old.size in
      let x = get_some c.instrs c.inputs (omega (arith, size)) in
      let up = place_low (ts p c) 0 0 0 (is p c) c.inputs (place_of (l p c) c.inputs) (omega arith)
      (place_is (ts p c) (is p c) (all p c) c.inputs (parted x.0) (in_parts c c.inputs x.0 x.1)) in
      let w = slice_get_within (narrowed_block p c).instrs (place_of (l p c) c.inputs) (moved (l p c) c.inputs (parted x.0)) (at_place p c c.inputs x.0 x.1) in
      omega (arith, up, w)

  pub sound_block : IsSoundBlock (narrowed p).program (narrowed_block p c)
  sound_block = record { inputs = old.inputs; outputs = old.outputs; size = still_there; instrs = sound_instr }

  pub sound_dest : (n : ℕ) (i : Instr) (d : Dest) → IsInstrAt (narrowed_block p c) n i → Contains (i.firsts ++ i.seconds) d
      → IsSoundDest (narrowed p) (narrowed_block p c) n d
  sound_dest n i d e h =
      let is_dest : IsDest (narrowed_block p c) n d = dests_stay p clear.rows clear.dests b n (narrowed_block p c) d
      (record { i = i; block = at_new; there = e; named = h }) in
      record { dest = is_dest; past = past_entries p clear b c at n i d e h; apart = stand_apart p s b c at n i d e h is_dest.later }

pub stays_sound : StaysSound
stays_sound p s = record {
  program = record {
    some_block = let n = length-map p.program.blocks (narrowed_block p) in let k = s.program.some_block.0 in let m = s.program.some_block.1
        in (omega (arith, n, k), omega (arith, n, m));
    main = let n = length-map p.program.blocks (narrowed_block p) in let k = s.program.main in omega (arith, n, k);
    few_arrays = s.program.few_arrays;
    arrays = s.program.arrays;
    cells = s.program.cells;
    blocks = λ b c e. let o = map_get_back (narrowed_block p) p.program.blocks b c e in subst (IsSoundBlock (narrowed p).program) o.2
        (sound_block p s b o.0 o.1);
  };
  dests = λ b n c d h.
      let o = map_get_back (narrowed_block p) p.program.blocks b c h.block in
      subst (λ c. IsSoundDest (narrowed p) c n d) o.2 (sound_dest p s b o.0 o.1 n h.i d (ap (λ (c : CodeBlock). slice_get c.instrs n) o.2 ∙ h.there) h.named);
  wired = stays_wired p (sound_keeps_clear p s) s.wired;
}
