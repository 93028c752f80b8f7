-- The instructions and the blocks of a folded plan are sound.
use Rattle.std.proofs.Common.{◌≡◌, ℕ, ℤ, ◌+◌, ◌≤◌, Bool, true, false, List, ◌∷◌, ◌++◌, length, refl, sym, ap, ◌∙◌, subst, arith, Some, true≢false, []}
use Rattle.std.specs.Prelude.{slice_get, Contains}
use Rattle.std.proofs.lemmas.Option.{slice_get_within}
use Rattle.std.proofs.lemmas.List.{length-map}
use Rattle.std.proofs.lemmas.List.Elements.{Contains-append_left, Contains-append_right, All-contains}
use Rattle.lemmas.proofs.Alls.{all_from}
use Rattle.lemmas.proofs.Contains.{get_contains}
use Rattle.lemmas.proofs.SliceGet.{get_some}
use Rattle.tags.specs.declared.token.Port.{Port}
use Rattle.tags.specs.declared.token.Port.TheVariants.{Left}
use Rattle.semantics.specs.declared.program.Dest.{Dest}
use Rattle.semantics.specs.declared.program.Op.{Op}
use Rattle.semantics.specs.declared.program.Op.TheVariants.{Apply2, Lit, Fetch, Store, Frame, Link, Send, Ask, Take, Release}
use Rattle.semantics.specs.Program.{Instr, CodeBlock}
use Rattle.semantics.specs.Plan.{Plan, HasShape}
use Rattle.semantics.specs.Bytes as Bytes
use Rattle.code.specs.Sound.{NamesRightly, LandsLeft, IsSoundInstr, IsSoundBlock, IsSoundProgram, IsSound}
use Rattle.folding.specs.declared.folds.Fold.{Fold}
use Rattle.folding.specs.declared.folds.Fold.TheVariants.{Unchanged, OnRight, LeftLiteral}
use Rattle.folding.specs.Folds.{is_lit, new_op, new_port}
use Rattle.folding.specs.Places.{Layout, layout_of, new_place, folds_at}
use Rattle.folding.specs.Moved.{moved, moved_dests}
use Rattle.folding.specs.Folded.{folded_block, folded}
use Rattle.folding.specs.Laws.{dests_of, SparesLiterals}
use Rattle.folding.proofs.Standing.{keeps_instrs, has_no_others}
use Rattle.folding.proofs.Taken.{keeps_entries}
use Rattle.folding.proofs.Sole.{keeps_sole}
use Rattle.folding.proofs.SoundLists.{Stood, moved_back, block_back, block_there}
use Rattle.folding.proofs.SoundRows.{sound_dest}
use Rattle.folding.proofs.SoundDests.{dyadic_is}

-- OPERANDS
names_same : (p : Plan) (op : Op) → NamesRightly p.program op → NamesRightly (folded p).program op
names_same p (Link b) h = let len = length-map p.program.blocks (folded_block p) in omega (arith, len, h)
names_same p (Send b e) (c, at, low) = (folded_block p c, block_there p b c at, low)
names_same p op h = h

names_new : (p : Plan) (f : Fold) (op : Op) → NamesRightly p.program op → NamesRightly (folded p).program (new_op f op)
names_new p (OnRight z) (Apply2 op) h = h
names_new p (LeftLiteral z) (Apply2 op) h = h
names_new p f op h = names_same p op h

-- SHAPES
shape_new : (f : Fold) (op : Op) (m n : ℕ) → HasShape op m n → HasShape (new_op f op) m n
shape_new (OnRight z) (Apply2 op) m n h = h
shape_new (LeftLiteral z) (Apply2 op) m n h = h
shape_new f op m n h = h

none_stay : (l : Layout) (n : ℕ) (ds : List Dest) → length ds ≡ 0 → length (moved_dests l n ds) ≡ 0
none_stay l n [] e = refl
none_stay l n (d ∷ ds) e = absurd (omega (arith, e))

not_lit : (i : Instr) (op : Op) → i.op ≡ op → is_lit op ≡ false → (z : ℤ) → i.op ≡ Lit z → ⊥
not_lit i op e f z lit = true≢false (sym (ap is_lit lit) ∙ ap is_lit e ∙ f)

-- LANDINGS
left_stays : (f : Fold) (q : Port) → q ≡ Left → new_port f q ≡ Left
left_stays Unchanged q e = e
left_stays (OnRight z) q e = refl
left_stays (LeftLiteral z) q e = refl

lands_same : (l : Layout) (n : ℕ) (op : Op) (ds : List Dest) → LandsLeft op ds → LandsLeft op (moved_dests l n ds)
lands_same l n (Link b) ds h = all_from (λ (d : Dest). d.port ≡ Left) (moved_dests l n ds)
    (λ k x e. by_old x (moved_back l n ds x (get_contains (moved_dests l n ds) k x e)))
  where
    by_old : (x : Dest) → Stood l n ds x → x.port ≡ Left
    by_old x (d, has, shut, e) = ap (λ (y : Dest). y.port) e ∙ left_stays (folds_at l (n + d.ahead)) d.port
        (All-contains (λ (d : Dest). d.port ≡ Left) ds d h has)
lands_same l n op ds h = h

lands_new : (f : Fold) (op : Op) (ds : List Dest) → LandsLeft op ds → LandsLeft (new_op f op) ds
lands_new (OnRight z) (Apply2 op) ds h = h
lands_new (LeftLiteral z) (Apply2 op) ds h = h
lands_new f op ds h = h

in_either : (i : Instr) (s : Bool) (k : ℕ) (d : Dest) → slice_get (dests_of i s) k ≡ Some d → Contains (i.firsts ++ i.seconds) d
in_either i true k d e = Contains-append_right i.firsts i.seconds d (get_contains i.seconds k d e)
in_either i false k d e = Contains-append_left i.firsts i.seconds d (get_contains i.firsts k d e)

-- ONE BLOCK
module _ (p : Plan) (sound : IsSound p) (b : ℕ) (c : CodeBlock) (at_b : slice_get p.program.blocks b ≡ Some c) where
  abbrev l : Layout
  l = layout_of p c

  block : IsSoundBlock p.program c
  block = sound.program.blocks b c at_b

  spares : SparesLiterals c
  spares n k i s d j at named there right =
      let t = sound_dest p sound.dests b c at_b block.size n i d at (in_either i s k d named) in
      sym (dyadic_is j) ∙ sym (ap Bytes.is_dyadic there) ∙ t.dest.right right

  one_stays : (n : ℕ) (i : Instr) → slice_get c.instrs n ≡ Some i → length i.firsts ≡ 1 → ((z : ℤ) → i.op ≡ Lit z → ⊥) → length (moved_dests l n i.firsts) ≡ 1
  one_stays n i at len other = pick i.firsts refl len
    where
      pick : (ds : List Dest) → i.firsts ≡ ds → length ds ≡ 1 → length (moved_dests l n i.firsts) ≡ 1
      pick [] e k = absurd (omega (arith, k))
      pick (d ∷ []) e k = ap length (keeps_sole p c spares n i d at e other)
      pick (d ∷ x ∷ ds) e k = absurd (omega (arith, k))

  shape_same : (n : ℕ) (i : Instr) → slice_get c.instrs n ≡ Some i → (op : Op) → i.op ≡ op → HasShape op (length i.firsts) (length i.seconds)
      → HasShape op (length (moved_dests l n i.firsts)) (length (moved_dests l n i.seconds))
  shape_same n i at (Fetch a) e (h, k) = (one_stays n i at h (not_lit i (Fetch a) e refl), none_stay l n i.seconds k)
  shape_same n i at (Store a) e (h, k) = (one_stays n i at h (not_lit i (Store a) e refl), none_stay l n i.seconds k)
  shape_same n i at Frame e (h, k) = (one_stays n i at h (not_lit i Frame e refl), none_stay l n i.seconds k)
  shape_same n i at (Ask o) e (h, k) = (one_stays n i at h (not_lit i (Ask o) e refl), none_stay l n i.seconds k)
  shape_same n i at (Link x) e h = one_stays n i at h (not_lit i (Link x) e refl)
  shape_same n i at (Take k) e (h, m) = (none_stay l n i.firsts h, none_stay l n i.seconds m)
  shape_same n i at (Release o) e (h, m) = (none_stay l n i.firsts h, none_stay l n i.seconds m)
  shape_same n i at op e h = h

  instr_sound : (n : ℕ) (i : Instr) → slice_get c.instrs n ≡ Some i → IsSoundInstr (folded p).program (moved l n i)
  instr_sound n i at =
      let s = block.instrs n i at in
      record {
        operand = names_new p (folds_at l n) i.op s.operand;
        origin = s.origin;
        shape = shape_new (folds_at l n) i.op (length (moved_dests l n i.firsts)) (length (moved_dests l n i.seconds)) (shape_same n i at i.op refl s.shape);
        lands = lands_new (folds_at l n) i.op (moved_dests l n i.firsts) (lands_same l n i.op i.firsts s.lands);
      }

  last_entry : c.inputs + 1 ≤ length (folded_block p c).instrs
  last_entry =
      let size = block.size in
      let entry = keeps_entries p c c.inputs (omega arith) (omega (arith, size)) in
      let there = get_some c.instrs c.inputs (omega (arith, size)) in
      let within = slice_get_within (folded_block p c).instrs (new_place l c.inputs) (moved l c.inputs there.0)
      (keeps_instrs p c c.inputs there.0 there.1 entry.0) in
      let same = entry.1 in
      omega (arith, within, same)

  pub block_sound : IsSoundBlock (folded p).program (folded_block p c)
  block_sound = record {
    inputs = block.inputs;
    outputs = block.outputs;
    size = last_entry;
    instrs = λ m j at. let o = has_no_others p c m j at in subst (IsSoundInstr (folded p).program) (sym o.5) (instr_sound o.0 o.1 o.2);
  }

pub program_stays_sound : (p : Plan) → IsSound p → IsSoundProgram (folded p).program
program_stays_sound p sound =
    let s = sound.program in
    let len = length-map p.program.blocks (folded_block p) in
    let low = s.some_block.0 in
    let high = s.some_block.1 in
    let main = s.main in
    record {
      some_block = (omega (arith, low, len), omega (arith, high, len));
      main = omega (arith, main, len);
      few_arrays = s.few_arrays;
      arrays = s.arrays;
      cells = s.cells;
      blocks = λ b e at. let o = block_back p b e at in subst (IsSoundBlock (folded p).program) o.2 (block_sound p sound b o.0 o.1);
    }
