-- The narrowed code is that of the plan with copies inserted.
use Rattle.std.proofs.Common.{◌≡◌, refl, sym, ap, ◌∙◌, subst, ℕ, ◌+◌, ◌<◌, List, [], ◌∷◌, ◌++◌, length, Some, Contains, arith}
use Rattle.std.specs.Prelude.{slice_get}
use Rattle.std.specs.Option.{option_map}
use Rattle.std.proofs.lemmas.Option.{slice_get-map}
use Rattle.lemmas.proofs.SliceGet.{get_some}
use Rattle.semantics.specs.declared.program.Dest.{Dest}
use Rattle.semantics.specs.declared.program.Op.{Op}
use Rattle.semantics.specs.declared.program.Op.TheVariants.{Link, Send}
use Rattle.semantics.specs.Program.{Instr, CodeBlock, first_of, instr_at}
use Rattle.semantics.specs.Machine.{results_in}
use Rattle.semantics.specs.Plan.{Plan, landing}
use Rattle.semantics.specs.Wired.{IsInstrAt}
use Rattle.semantics.specs.Orderly.{inputs_in}
use Rattle.code.specs.Sound.{NamesRightly, IsSound}
use Rattle.code.proofs.Mains.{main_block}
use Rattle.law_reuse.proofs.SlotsPlaced.{Found, found}
use Rattle.fanout.specs.Sides.{parted, firsts_of, seconds_of, parting_of}
use Rattle.fanout.specs.Places.{place_of}
use Rattle.fanout.specs.Trees.{moved}
use Rattle.fanout.specs.Narrowed.{narrowed, narrowed_block}
use Rattle.fanout.proofs.Standing.{landings_stay, instrs_stay}
use Rattle.fanout.proofs.Plans.{l}
use Rattle.law_passes.specs.Spreads.{Leads, Enters, IsMoved}
use Rattle.law_fresh_frames.specs.Alike.{IsTidy}
use Rattle.law_passes.specs.Narrowed.{NarrowedSpreads}
use Rattle.law_passes.proofs.NarrowPlaces.{new_ip, holders_in, apart_in, instrs_in}
use Rattle.law_passes.proofs.NarrowTrees.{h_at, h_here, stands_new, lead_firsts, lead_seconds, lead_all, answered_once}
use Rattle.law_passes.proofs.NarrowEntries.{entry_at, entries_kept}
use Rattle.law_passes.proofs.NarrowBlocks.{same_landings, keeps_marks, keeps_blocks, stands_for_some}

enters_at : (p : Plan) (s : IsSound p) (tidy : IsTidy p) (op : Op) → NamesRightly p.program op
    → Enters p.program (narrowed p).program (new_ip p p.program.blocks) op
enters_at p s tidy (Link b) h =
    let c = get_some p.program.blocks b h in
    let e = entry_at p s tidy b c.0 c.1 0 (omega arith) in
    let z : first_of p.program b + 0 ≡ first_of p.program b = omega arith in
    let y : first_of (narrowed p).program b + 0 ≡ first_of (narrowed p).program b = omega arith in
    ap (new_ip p p.program.blocks) (sym z) ∙ e ∙ y
enters_at p s tidy (Send b n) h = entry_at p s tidy b h.0 h.1 n h.2
enters_at p s tidy op h = tt

is_moved : (p : Plan) (s : IsSound p) (tidy : IsTidy p) (b : ℕ) (c : CodeBlock) (at_b : slice_get p.program.blocks b ≡ Some c) (v : ℕ) (i : Instr)
    (at_v : IsInstrAt c v i)
    → IsMoved p.program (narrowed p).program (new_ip p p.program.blocks) (first_of p.program b + v) i
is_moved p s tidy b c at_b v i at_v =
    let P = p.program in
    let Q = (narrowed p).program in
    let k : new_ip p p.program.blocks (first_of p.program b + v) ≡ first_of (narrowed p).program b + place_of (l p c) v = h_here p s tidy b c at_b v i at_v in
    let y : Instr = moved (l p c) v (parted i) in
    let lf = lead_firsts p s tidy b c at_b v i at_v in
    let ls = lead_seconds p s tidy b c at_b v i at_v in
    record {
      j = moved (l p c) v (parted i);
      there = ap (instr_at (narrowed p).program) k ∙ stands_new p s tidy b c at_b (place_of (l p c) v) (moved (l p c) v (parted i)) (instrs_stay p c v i at_v);
      op = refl;
      origin = refl;
      slot = refl;
      all =
          subst (λ (n : ℕ). Leads (narrowed p).program (new_ip p p.program.blocks) n (y.firsts ++ y.seconds) (first_of p.program b + v) (i.firsts ++ i.seconds))
          (sym k) (lead_all p s tidy b c at_b v i at_v);
      firsts = λ e.
          subst (λ (n : ℕ). Leads (narrowed p).program (new_ip p p.program.blocks) n y.firsts (first_of p.program b + v) i.firsts) (sym k)
          (subst (λ (ds : List Dest). Leads (narrowed p).program (new_ip p p.program.blocks) (first_of (narrowed p).program b + place_of (l p c) v) y.firsts
          (first_of p.program b + v) ds) (ap (λ (op : Op). firsts_of (parting_of op) i.firsts i.seconds) e) lf);
      seconds = (
        λ e.
            subst (λ (n : ℕ). Leads (narrowed p).program (new_ip p p.program.blocks) n y.seconds (first_of p.program b + v) i.seconds) (sym k)
            (subst (λ (ds : List Dest). Leads (narrowed p).program (new_ip p p.program.blocks) (first_of (narrowed p).program b + place_of (l p c) v) y.seconds
            (first_of p.program b + v) ds) (ap (λ (op : Op). seconds_of (parting_of op) i.firsts i.seconds) e) ls),
        λ t e.
            subst (λ (n : ℕ). Leads (narrowed p).program (new_ip p p.program.blocks) n y.seconds (first_of p.program b + v) i.seconds) (sym k)
            (subst (λ (ds : List Dest). Leads (narrowed p).program (new_ip p p.program.blocks) (first_of (narrowed p).program b + place_of (l p c) v) y.seconds
            (first_of p.program b + v) ds) (ap (λ (op : Op). seconds_of (parting_of op) i.firsts i.seconds) e) ls),
      );
      answered = answered_once p s tidy b c at_b v i at_v;
      enters = enters_at p s tidy i.op ((s.program.blocks b c at_b).instrs v i at_v).operand;
    }

new_main : (p : Plan) (c : CodeBlock) → slice_get p.program.blocks p.program.main ≡ Some c
    → slice_get (narrowed p).program.blocks p.program.main ≡ Some (narrowed_block p c)
new_main p c e = slice_get-map (narrowed_block p) p.program.blocks p.program.main ∙ ap (option_map (narrowed_block p)) e

pub narrowed_spreads : NarrowedSpreads
narrowed_spreads p s tidy = record {
  h = new_ip p p.program.blocks;
  holders = λ a. holders_in p 0 p.program.blocks a;
  apart = λ x y e. apart_in p p.program.blocks x y e;
  arrays = refl;
  outputs = ap results_in (new_main p m.0 m.1) ∙ sym (ap results_in m.1);
  inputs = ap inputs_in (new_main p m.0 m.1) ∙ sym (ap inputs_in m.1);
  instrs = instrs;
  rows = rows;
  lengths = same_landings p s tidy;
  marks = keeps_marks p s tidy;
  alone = λ a j e. instrs_in p p.program.blocks a j e;
  all = stands_for_some p s tidy;
  blocks = keeps_blocks p s tidy;
  starts = λ a e. entries_kept p s tidy a e;
  entries = λ n low. (let e = ap inputs_in m.1 in entry_at p s tidy p.program.main m.0 m.1 n (omega (arith, low, e)));
}
  where
    m : (c : CodeBlock) × (slice_get p.program.blocks p.program.main ≡ Some c)
    m = main_block p s

    instrs : (a : ℕ) (i : Instr) → instr_at p.program a ≡ Some i → IsMoved p.program (narrowed p).program (new_ip p p.program.blocks) a i
    instrs a i e =
        let F : Found p.program a i = found p.program a i e in
        subst (λ (a : ℕ). IsMoved p.program (narrowed p).program (new_ip p p.program.blocks) a i) (sym F.place)
        (is_moved p s tidy F.b F.stands.code F.stands.block F.n i F.stands.instr)

    rows : (a callee o : ℕ) (i : Instr) (d : Dest) → instr_at p.program a ≡ Some i → i.op ≡ Link callee → i.firsts ≡ d ∷ [] → o < landing p callee
        → new_ip p p.program.blocks (a + d.ahead + o) ≡ new_ip p p.program.blocks (a + d.ahead) + o
    rows a callee o i d at links lands low =
        let F : Found p.program a i = found p.program a i at in
        let to : ℕ = F.n + d.ahead in
        let place = F.place in
        let room = tidy.landings F.b F.n F.stands.code i d callee F.stands.block F.stands.instr links lands in
        let inside : to + o < length F.stands.code.instrs = omega (arith, room, low) in
        let x = get_some F.stands.code.instrs (to + o) inside in
        let r = landings_stay p F.n callee o F.stands.code i x.0 d F.stands.instr links
        (subst (λ (ds : List Dest). Contains ds d) (sym lands) (0, omega arith, refl)) low x.1 in
        let one = h_at p s tidy F.b F.stands.code F.stands.block (to + o) inside in
        let two = h_at p s tidy F.b F.stands.code F.stands.block to (omega (arith, inside)) in
        let e1 = ap (new_ip p p.program.blocks) (let z : a + d.ahead + o ≡ first_of p.program F.b + (to + o) = omega (arith, place) in z) in
        let e2 = ap (new_ip p p.program.blocks) (let z : a + d.ahead ≡ first_of p.program F.b + to = omega (arith, place) in z) in
        omega (arith, r, one, two, e1, e2)
