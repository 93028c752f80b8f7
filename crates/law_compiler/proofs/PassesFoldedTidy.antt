-- A tidy plan is tidy when it is folded.
use Rattle.std.proofs.Common.{◌≡◌, refl, sym, ap, ◌∙◌, subst, ℕ, zero, suc, ◌+◌, ◌-◌, ◌<◌, ◌≤◌, ◌⊎◌, inl, inr, Bool, true, false, ℤ, List, [], ◌∷◌, ◌++◌}
use Rattle.std.proofs.Common.{length, get_or, Option, Some, None, Contains, arith}
use Rattle.std.specs.Prelude.{slice_get, nat_lt}
use Rattle.std.proofs.lemmas.List.Elements.{Contains-append_left, Contains-append_right, Contains-append_cases}
use Rattle.std.proofs.lemmas.Option.{slice_get_within, slice_get_cases, same_Some}
use Rattle.lemmas.proofs.Contains.{contains_head, get_contains}
use Rattle.lemmas.proofs.Lists.{one_element}
use Rattle.operators.specs.declared.Binary.{Binary}
use Rattle.semantics.specs.declared.program.Dest.{Dest}
use Rattle.semantics.specs.declared.program.Op.{Op}
use Rattle.semantics.specs.declared.program.Op.TheVariants.{Apply2, Apply2Right, Apply2Left, Lit, Link}
use Rattle.semantics.specs.Program.{Instr, CodeBlock, first_of, instr_at}
use Rattle.semantics.specs.Plan.{Plan, HasShape, landing, landing_in}
use Rattle.semantics.specs.Orderly.{often}
use Rattle.code.specs.Sound.{IsSound, IsSoundDest, IsSoundBlock, NamesRightly}
use Rattle.folding.specs.Folds.{new_op}
use Rattle.folding.specs.Places.{Layout, layout_of, new_place, folds_at, gone_at}
use Rattle.folding.specs.Moved.{new_dest, moved_dests, moved}
use Rattle.folding.specs.Folded.{folded_block, folded}
use Rattle.folding.specs.Laws.{dests_of, SparesLiterals}
use Rattle.folding.proofs.Standing.{keeps_instrs, has_no_others}
use Rattle.folding.proofs.Sole.{keeps_sole}
use Rattle.folding.proofs.Landing.{keeps_landings}
use Rattle.folding.proofs.SoundLists.{Stood, moved_back, block_back, block_there, landing_same}
use Rattle.folding.proofs.SoundRows.{link_before, shut_stays, place_low}
use Rattle.folding.proofs.SoundDests.{dyadic_is}
use Rattle.folding.proofs.Cases.{value_at, FoldCase, is_kept, is_right, is_left, fold_cases}
use Rattle.semantics.specs.Bytes as Bytes
use Rattle.law_reuse.proofs.SlotsPlaced.{instr_in}
use Rattle.law_fresh_frames.specs.Alike.{plain_dests, IsTidy}
use Rattle.law_compiler.specs.Passes.{FoldedIsTidy}
use Rattle.law_compiler.proofs.PassesTidy.{some_landing, one_only, often_op, all_named, PlainOr, plain_or}

module _ (p : Plan) (s : IsSound p) (b : ℕ) (c : CodeBlock) (at_b : slice_get p.program.blocks b ≡ Some c) where
  abbrev l : Layout
  l = layout_of p c

  block : IsSoundBlock p.program c
  block = s.program.blocks b c at_b

  sound_dest : (n : ℕ) (i : Instr) (d : Dest) → slice_get c.instrs n ≡ Some i → Contains (i.firsts ++ i.seconds) d → IsSoundDest p c n d
  sound_dest n i d at named = s.dests b n c d record { i = i; block = at_b; there = at; named = named }

  named_in : (i : Instr) (side : Bool) (k : ℕ) (d : Dest) → slice_get (dests_of i side) k ≡ Some d → Contains (i.firsts ++ i.seconds) d
  named_in i false k d e = Contains-append_left i.firsts i.seconds d (get_contains i.firsts k d e)
  named_in i true k d e = Contains-append_right i.firsts i.seconds d (get_contains i.seconds k d e)

  spares : SparesLiterals c
  spares n k i side d j at named there right =
      sym (dyadic_is j) ∙ ap Bytes.is_dyadic (sym there) ∙ (sound_dest n i d at (named_in i side k d named)).dest.right right

  -- how far a moved destination is
  far_is : (n to : ℕ) → gone_at l n ≡ false → n ≤ to → to < length c.instrs → new_place l n + (new_place l to - new_place l n) ≡ new_place l to
  far_is n to stay le low = let k = place_low p s.dests b c at_b block.size n to le low stay in omega (arith, k)

  -- the operation of a moved instruction gets its tokens as often
  often_same : (n : ℕ) (i : Instr) → slice_get c.instrs n ≡ Some i → often (Some (moved l n i)) ≡ often (Some i)
  often_same n i at = go (fold_cases p c n)
    where
      op_of : (j : Instr) → slice_get c.instrs n ≡ Some j → j.op ≡ i.op
      op_of j there = ap (λ (x : Instr). x.op) (same_Some j i (sym there ∙ at))

      no_right : (x y : Instr) (o : Binary) (z : ℤ) → x.op ≡ Apply2Right o z → y.op ≡ Apply2 o → often (Some x) ≡ often (Some y)
      no_right x y o z e f = often_op x record x { op = Apply2Right o z } e ∙ sym (often_op y record y { op = Apply2 o } f)

      no_left : (x y : Instr) (o : Binary) (z : ℤ) → x.op ≡ Apply2Left o z → y.op ≡ Apply2 o → often (Some x) ≡ often (Some y)
      no_left x y o z e f = often_op x record x { op = Apply2Left o z } e ∙ sym (often_op y record y { op = Apply2 o } f)

      go : FoldCase p c n → often (Some (moved l n i)) ≡ often (Some i)
      go (is_kept K) = often_op (moved l n i) i (K.op i.op)
      go (is_right (F, op)) =
          no_right (moved l n i) i F.o (value_at p c n) (ap (new_op (folds_at l n)) (sym (op_of F.i F.there) ∙ F.was) ∙ op F.o)
          (sym (op_of F.i F.there) ∙ F.was)
      go (is_left (F, op)) =
          no_left (moved l n i) i F.o (value_at p c n) (ap (new_op (folds_at l n)) (sym (op_of F.i F.there) ∙ F.was) ∙ op F.o) (sym (op_of F.i F.there) ∙ F.was)

  module _ (tidy : IsTidy p) where
    landing_fits : (n : ℕ) (i : Instr) (x : Dest) (callee : ℕ) → slice_get c.instrs n ≡ Some i → gone_at l n ≡ false → i.op ≡ Link callee
        → (moved l n i).firsts ≡ x ∷ []
        → new_place l n + x.ahead + landing p callee ≤ length (folded_block p c).instrs
    landing_fits n i x callee at stay links lands = go (one_element i.firsts one)
      where
        shape : HasShape (Link callee) (length i.firsts) (length i.seconds)
        shape = subst (λ (op : Op). HasShape op (length i.firsts) (length i.seconds)) links (block.instrs n i at).shape

        one : length i.firsts ≡ 1
        one = shape

        lit : (z : ℤ) → i.op ≡ Lit z → ⊥
        lit z e = let f : Link callee ≡ Lit z = sym links ∙ e in cc

        some : (k : ℕ) → landing p callee ≡ suc k → (d : Dest) → i.firsts ≡ d ∷ []
            → new_place l n + x.ahead + landing p callee ≤ length (folded_block p c).instrs
        some k size d is =
            let inside = (sound_dest n i d at (subst (λ (ds : List Dest). Contains (ds ++ i.seconds) d) (sym is) (contains_head d i.seconds))).dest.inside in
            let fits = tidy.landings b n c i d callee at_b at links is in
            let low : n + d.ahead + k < length c.instrs = omega (arith, fits, size) in
            let row = keeps_landings p c n 0 k callee i d at links (ap (λ (ds : List Dest). slice_get ds 0) is) (omega (arith, size)) low in
            let e : new_dest l n (n + d.ahead) d.port ≡ x =
            one_only (new_dest l n (n + d.ahead) d.port) [] x [] (sym (keeps_sole p c spares n i d at is lit) ∙ lands) in
            let far = ap (λ (d : Dest). d.ahead) e in
            let to = far_is n (n + d.ahead) stay (omega arith) inside in
            last k size d (n + d.ahead + k) low row.0 row.1 (omega (arith, far, to))
          where
            last : (k : ℕ) → landing p callee ≡ suc k → (d : Dest) (m : ℕ) → m < length c.instrs → gone_at l m ≡ false
                → new_place l m ≡ new_place l (n + d.ahead) + k → new_place l n + x.ahead ≡ new_place l (n + d.ahead)
                → new_place l n + x.ahead + landing p callee ≤ length (folded_block p c).instrs
            last k size d m low stays row far = pick (slice_get c.instrs m) refl
              where
                pick : (o : Option Instr) → slice_get c.instrs m ≡ o → new_place l n + x.ahead + landing p callee ≤ length (folded_block p c).instrs
                pick None e = absurd (none (slice_get_cases c.instrs m).1)
                  where
                    none : ((y : Instr) × (m < length c.instrs) × (slice_get c.instrs m ≡ Some y) × (get_or c.instrs m y ≡ y))
                        ⊎ ((length c.instrs ≤ m) × (slice_get c.instrs m ≡ None)) → ⊥
                    none (inl y) = let d : Some y.0 ≡ None = sym y.2 ∙ e in cc
                    none (inr y) = let f = y.0 in omega (arith, f, low)
                pick (Some j) e =
                    let w = slice_get_within (folded_block p c).instrs (new_place l m) (moved l m j) (keeps_instrs p c m j e stays) in
                    omega (arith, w, row, far, size)

        callee_there : (j : CodeBlock) × (slice_get p.program.blocks callee ≡ Some j)
        callee_there = pick (slice_get_cases p.program.blocks callee).1
          where
            there : callee < length p.program.blocks
            there = subst (λ (op : Op). NamesRightly p.program op) links (block.instrs n i at).operand

            pick : ((y : CodeBlock) × (callee < length p.program.blocks) × (slice_get p.program.blocks callee ≡ Some y)
                × (get_or p.program.blocks callee y ≡ y)) ⊎ ((length p.program.blocks ≤ callee) × (slice_get p.program.blocks callee ≡ None))
                → (j : CodeBlock) × (slice_get p.program.blocks callee ≡ Some j)
            pick (inl y) = (y.0, y.2)
            pick (inr y) = let f = y.0 in let t = there in absurd (omega (arith, f, t))

        positive : 0 < landing p callee
        positive =
            subst (λ (o : Option CodeBlock). 0 < landing_in (nat_lt callee p.plain) o) (sym callee_there.1)
            (some_landing (nat_lt callee p.plain) callee_there.0)

        go : (d : Dest) × (i.firsts ≡ d ∷ []) → new_place l n + x.ahead + landing p callee ≤ length (folded_block p c).instrs
        go (d, is) = by_size (landing p callee) refl
          where
            by_size : (k : ℕ) → landing p callee ≡ k → new_place l n + x.ahead + landing p callee ≤ length (folded_block p c).instrs
            by_size zero e = let z = positive in absurd (omega (arith, z, e))
            by_size (suc k) e = some k e d is

    once_fits : (n : ℕ) (i : Instr) (x : Dest) → slice_get c.instrs n ≡ Some i → gone_at l n ≡ false → Contains (plain_dests (moved l n i) (moved l n i).op) x
        → often (instr_at (folded p).program (first_of (folded p).program b + new_place l n + x.ahead)) ≡ false
    once_fits n i x at stay inside = go (old_op (new_op (folds_at l n) i.op) refl (plain_or (new_op (folds_at l n) i.op)) (plain_or i.op))
      where
        joined : Contains (moved_dests l n i.firsts ++ moved_dests l n i.seconds) x → Stood l n (i.firsts ++ i.seconds) x
        joined h = pick (Contains-append_cases (moved_dests l n i.firsts) (moved_dests l n i.seconds) x h)
          where
            pick : Contains (moved_dests l n i.firsts) x ⊎ Contains (moved_dests l n i.seconds) x → Stood l n (i.firsts ++ i.seconds) x
            pick (inl h) = let o = moved_back l n i.firsts x h in (o.0, Contains-append_left i.firsts i.seconds o.0 o.1, o.2, o.3)
            pick (inr h) = let o = moved_back l n i.seconds x h in (o.0, Contains-append_right i.firsts i.seconds o.0 o.1, o.2, o.3)

        -- a link is not folded
        link_stays : (callee : ℕ) → i.op ≡ Link callee → new_op (folds_at l n) i.op ≡ Link callee
        link_stays callee links = pick (fold_cases p c n)
          where
            no_link : (j : Instr) (o : Binary) → slice_get c.instrs n ≡ Some j → j.op ≡ Apply2 o → ⊥
            no_link j o there e = let f : Link callee ≡ Apply2 o = sym links ∙ ap (λ (x : Instr). x.op) (same_Some i j (sym at ∙ there)) ∙ e in cc

            pick : FoldCase p c n → new_op (folds_at l n) i.op ≡ Link callee
            pick (is_kept K) = K.op i.op ∙ links
            pick (is_right (F, op)) = absurd (no_link F.i F.o F.there F.was)
            pick (is_left (F, op)) = absurd (no_link F.i F.o F.there F.was)

        old_op : (op : Op) → new_op (folds_at l n) i.op ≡ op → PlainOr op
            → PlainOr i.op → Stood l n (plain_dests i i.op) x
        old_op op e (inr (callee, f)) d =
            let links : i.op ≡ Link callee = link_before (folds_at l n) i.op callee (e ∙ f) in
            subst (λ (y : Op). Stood l n (plain_dests i y) x) (sym links)
            (moved_back l n i.seconds x (subst (λ (y : Op). Contains (plain_dests (moved l n i) y) x) (e ∙ f) inside))
        old_op op e (inl plain) (inl was) =
            subst (λ (ds : List Dest). Stood l n ds x) (sym (was i))
            (joined (subst (λ (ds : List Dest). Contains ds x) (ap (plain_dests (moved l n i)) e ∙ plain (moved l n i)) inside))
        old_op op e (inl plain) (inr (callee, links)) =
            subst (λ (y : Op). Stood l n (plain_dests i y) x) (sym links)
            (moved_back l n i.seconds x (subst (λ (y : Op). Contains (plain_dests (moved l n i) y) x) (link_stays callee links) inside))

        go : Stood l n (plain_dests i i.op) x → often (instr_at (folded p).program (first_of (folded p).program b + new_place l n + x.ahead)) ≡ false
        go (d, named, unshut, is) = there (slice_get c.instrs (n + d.ahead)) refl
          where
            low : n + d.ahead < length c.instrs
            low = (sound_dest n i d at (all_named i i.op d named)).dest.inside

            stays : gone_at l (n + d.ahead) ≡ false
            stays = shut_stays l (n + d.ahead) d.port unshut

            far : new_place l n + x.ahead ≡ new_place l (n + d.ahead)
            far = ap (λ (d : Dest). new_place l n + d.ahead) is ∙ far_is n (n + d.ahead) stay (omega arith) low

            old : often (instr_at p.program (first_of p.program b + n + d.ahead)) ≡ false
            old = tidy.once b n c i d at_b at named

            there : (o : Option Instr) → slice_get c.instrs (n + d.ahead) ≡ o
                → often (instr_at (folded p).program (first_of (folded p).program b + new_place l n + x.ahead)) ≡ false
            there None e = absurd (none (slice_get_cases c.instrs (n + d.ahead)).1)
              where
                none : ((y : Instr) × (n + d.ahead < length c.instrs) × (slice_get c.instrs (n + d.ahead) ≡ Some y) × (get_or c.instrs (n + d.ahead) y ≡ y))
                    ⊎ ((length c.instrs ≤ n + d.ahead) × (slice_get c.instrs (n + d.ahead) ≡ None)) → ⊥
                none (inl y) = let d : Some y.0 ≡ None = sym y.2 ∙ e in cc
                none (inr y) = let f = y.0 in let g = low in omega (arith, f, g)
            there (Some j) e =
                let new = keeps_instrs p c (n + d.ahead) j e stays in
                let at_new : instr_at (folded p).program (first_of (folded p).program b + new_place l (n + d.ahead)) ≡ Some (moved l (n + d.ahead) j) =
                instr_in (folded p).program.blocks b (new_place l (n + d.ahead)) (folded_block p c) (block_there p b c at_b)
                (slice_get_within (folded_block p c).instrs (new_place l (n + d.ahead)) (moved l (n + d.ahead) j) new) ∙ new in
                let at_old : instr_at p.program (first_of p.program b + (n + d.ahead)) ≡ Some j = instr_in p.program.blocks b (n + d.ahead) c at_b low ∙ e in
                let z : first_of p.program b + n + d.ahead ≡ first_of p.program b + (n + d.ahead) = omega arith in
                let f = far in
                let y : first_of (folded p).program b + new_place l n + x.ahead ≡ first_of (folded p).program b + new_place l (n + d.ahead) =
                omega (arith, f) in
                ap (λ (k : ℕ). often (instr_at (folded p).program k)) y ∙ ap often at_new ∙ often_same (n + d.ahead) j e ∙ sym (ap often at_old)
                ∙ sym (ap (λ (k : ℕ). often (instr_at p.program k)) z) ∙ old

pub folded_is_tidy : FoldedIsTidy
folded_is_tidy p s tidy = record { landings = landings; once = once }
  where
    landings : (b n : ℕ) (k : CodeBlock) (j : Instr) (x : Dest) (callee : ℕ) → slice_get (folded p).program.blocks b ≡ Some k → slice_get k.instrs n ≡ Some j
        → j.op ≡ Link callee
        → j.firsts ≡ x ∷ [] → n + x.ahead + landing (folded p) callee ≤ length k.instrs
    landings b n k j x callee at_b at_n links lands =
        let B = block_back p b k at_b in
        let o = has_no_others p B.0 n j (ap (λ (k : CodeBlock). slice_get k.instrs n) B.2 ∙ at_n) in
        let fits = landing_fits p s b B.0 B.1 tidy o.0 o.1 x callee o.2 o.3
        (link_before (folds_at (layout_of p B.0) o.0) o.1.op callee (sym (ap (λ (j : Instr). j.op) o.5) ∙ links))
        (sym (ap (λ (j : Instr). j.firsts) o.5) ∙ lands) in
        let land = landing_same p callee in let place = o.4 in let size = ap (λ (k : CodeBlock). length k.instrs) B.2 in
        omega (arith, fits, land, place, size)

    once : (b n : ℕ) (k : CodeBlock) (j : Instr) (x : Dest) → slice_get (folded p).program.blocks b ≡ Some k → slice_get k.instrs n ≡ Some j
        → Contains (plain_dests j j.op) x
        → often (instr_at (folded p).program (first_of (folded p).program b + n + x.ahead)) ≡ false
    once b n k j x at_b at_n inside =
        let B = block_back p b k at_b in
        let o = has_no_others p B.0 n j (ap (λ (k : CodeBlock). slice_get k.instrs n) B.2 ∙ at_n) in
        let fits = once_fits p s b B.0 B.1 tidy o.0 o.1 x o.2 o.3 (subst (λ (j : Instr). Contains (plain_dests j j.op) x) o.5 inside) in
        subst (λ (n : ℕ). often (instr_at (folded p).program (first_of (folded p).program b + n + x.ahead)) ≡ false) o.4 fits
