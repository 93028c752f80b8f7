-- The loops of a narrowed plan open with the bounds that they had.
use Rattle.std.proofs.Common.{◌≡◌, ℕ, zero, suc, ◌+◌, Bool, true, false, List, [], ◌∷◌, ◌++◌, map, refl, sym, ap, ◌∙◌, subst}
use Rattle.std.specs.Prelude.{flat_map, IsPermutation}
use Rattle.std.proofs.lemmas.List.{length-map}
use Rattle.std.proofs.lemmas.Grind.{flat_map-append}
use Rattle.lemmas.proofs.SliceGet.{map_get_back}
use Rattle.semantics.specs.declared.program.Dest.{Dest}
use Rattle.semantics.specs.Program.{Instr, CodeBlock}
use Rattle.semantics.specs.Plan.{Plan}
use Rattle.semantics.specs.Cause.{opened_by, open_bounds, loop_bounds}
use Rattle.fanout.specs.Sides.{parted, copies}
use Rattle.fanout.specs.Rows.{is_tied}
use Rattle.fanout.specs.Places.{Layout, base_of}
use Rattle.fanout.specs.Trees.{copy_at, tree, copies_of}
use Rattle.fanout.specs.Narrowed.{held, released, spread, parts_of, layout_of, narrowed_block}
use Rattle.fanout.specs.Loops.{StillHasBounds, KeepsArrays}

abbrev opens : List Instr → List ℕ
opens is = flat_map (λ (i : Instr). opened_by i.op) is

opens_join : (xs ys : List Instr) → opens (xs ++ ys) ≡ opens xs ++ opens ys
opens_join xs ys = flat_map-append (λ (i : Instr). opened_by i.op) xs ys

none_join : (xs ys : List Instr) → opens xs ≡ [] → opens ys ≡ [] → opens (xs ++ ys) ≡ []
none_join xs ys e f = opens_join xs ys ∙ ap (λ zs. zs ++ opens ys) e ∙ f

-- copies open no loop
tree_opens : (l : Layout) (n root : ℕ) (ds : List Dest) (k : ℕ) → opens (tree l n root ds k) ≡ []
tree_opens l n root ds zero = refl
tree_opens l n root ds (suc k) = none_join (tree l n root ds k) (copy_at l n (root + k) k ds ∷ []) (tree_opens l n root ds k) refl

copies_open : (l : Layout) (n : ℕ) (i : Instr) → opens (copies_of l n i) ≡ []
copies_open l n i =
    none_join (tree l n (base_of l n) i.firsts (copies i.firsts)) (tree l n (base_of l n + copies i.firsts) i.seconds (copies i.seconds))
    (tree_opens l n (base_of l n) i.firsts (copies i.firsts)) (tree_opens l n (base_of l n + copies i.firsts) i.seconds (copies i.seconds))

held_opens : (t : Bool) (xs : List Instr) → opens xs ≡ [] → opens (held t xs) ≡ []
held_opens true xs e = e
held_opens false xs e = refl

released_opens : (t : Bool) (xs : List Instr) → opens xs ≡ [] → opens (released t xs) ≡ []
released_opens true xs e = refl
released_opens false xs e = e

-- instructions stay in order, with copies between them
spread_opens : (l : Layout) (n : ℕ) (waiting is : List Instr) → opens waiting ≡ [] → opens (spread l n waiting is) ≡ opens is
spread_opens l n waiting [] none = none
spread_opens l n waiting (i ∷ is) none =
    let t : Bool = is_tied l.tied n in
    let copied : List Instr = waiting ++ copies_of l n i in
    let quiet : opens copied ≡ [] = none_join waiting (copies_of l n i) none (copies_open l n i) in
    ap (λ xs. opened_by i.op ++ xs)
    (opens_join (released t copied) (spread l (n + 1) (held t copied) is)
    ∙ ap (λ xs. xs ++ opens (spread l (n + 1) (held t copied) is)) (released_opens t copied quiet)
    ∙ spread_opens l (n + 1) (held t copied) is (held_opens t copied quiet))

parts_open : (is : List Instr) → opens (map parted is) ≡ opens is
parts_open [] = refl
parts_open (i ∷ is) = ap (λ xs. opened_by i.op ++ xs) (parts_open is)

pub block_opens : (p : Plan) (c : CodeBlock) → open_bounds (narrowed_block p c) ≡ open_bounds c
block_opens p c = spread_opens (layout_of p c) 0 [] (parts_of c) refl ∙ parts_open c.instrs

pub still_has_bounds : StillHasBounds
still_has_bounds fl p h = (
  length-map p.program.blocks (narrowed_block p) ∙ h.0,
  λ b e g at named. let o = map_get_back (narrowed_block p) p.program.blocks b e at in subst (λ xs. IsPermutation xs (loop_bounds g))
      (sym (block_opens p o.0) ∙ ap open_bounds o.2) (h.1 b o.0 g o.1 named),
)

pub keeps_arrays : KeepsArrays
keeps_arrays p = refl
