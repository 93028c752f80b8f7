-- Rows: what is apart in a block is apart in the folded one.
use Rattle.std.proofs.Common.{◌≡◌, ℕ, zero, suc, ◌+◌, ◌-◌, ◌<◌, ◌≤◌, Bool, true, false, ◌||◌, ◌++◌, length, refl, sym, ap, ◌∙◌, subst, inl, inr}
use Rattle.std.proofs.Common.{◌⊎◌, arith, Some, true≢false}
use Rattle.std.specs.Prelude.{slice_get, Contains}
use Rattle.std.proofs.lemmas.Bool.{cases_lt}
use Rattle.std.proofs.lemmas.List.Elements.{Contains-append_left}
use Rattle.lemmas.proofs.Contains.{contains_get}
use Rattle.tags.specs.declared.token.Port.{Port}
use Rattle.semantics.specs.declared.program.Dest.{Dest}
use Rattle.semantics.specs.declared.program.Op.{Op}
use Rattle.semantics.specs.declared.program.Op.TheVariants.{Apply2, Link}
use Rattle.semantics.specs.Program.{Instr, CodeBlock}
use Rattle.semantics.specs.Plan.{Plan, landing}
use Rattle.code.specs.Sound.{IsInLanding, IsTied, StandApart, IsSoundDest, DestsAreSound}
use Rattle.folding.specs.declared.folds.Fold.{Fold}
use Rattle.folding.specs.declared.folds.Fold.TheVariants.{OnRight, LeftLiteral}
use Rattle.folding.specs.Folds.{is_closed, new_op}
use Rattle.folding.specs.Places.{Layout, layout_of, new_place, gone_at, folds_at}
use Rattle.folding.specs.Moved.{is_shut, moved}
use Rattle.folding.specs.Folded.{folded_block, folded}
use Rattle.folding.proofs.Standing.{keeps_order, has_no_others}
use Rattle.folding.proofs.Taken.{keeps_entries}
use Rattle.folding.proofs.Landing.{keeps_landings}
use Rattle.folding.proofs.SoundLists.{Stood, moved_back, landing_same}

-- what no literal operand makes was there before
pub link_before : (f : Fold) (op : Op) (b : ℕ) → new_op f op ≡ Link b → op ≡ Link b
link_before (OnRight z) (Apply2 op) b e = absurd (cc)
link_before (LeftLiteral z) (Apply2 op) b e = absurd (cc)
link_before f op b e = e

-- where words still arrive, the instruction stays
pub shut_stays : (l : Layout) (m : ℕ) (q : Port) → is_shut l m q ≡ false → gone_at l m ≡ false
shut_stays l m q h = go (gone_at l m) refl h
  where
    go : (t : Bool) → gone_at l m ≡ t → (t || is_closed (folds_at l m) q) ≡ false → gone_at l m ≡ false
    go false e h = e
    go true e h = absurd (true≢false h)

module _ (p : Plan) (sound : DestsAreSound p) (b : ℕ) (c : CodeBlock) (at_b : slice_get p.program.blocks b ≡ Some c)
    (size : c.inputs + 1 ≤ length c.instrs) where
  abbrev l : Layout
  l = layout_of p c

  -- what an instruction names is a sound destination
  pub sound_dest : (n : ℕ) (i : Instr) (d : Dest) → slice_get c.instrs n ≡ Some i → Contains (i.firsts ++ i.seconds) d → IsSoundDest p c n d
  sound_dest n i d at named = sound b n c d (record { i = i; block = at_b; there = at; named = named })

  pub place_low : (m n : ℕ) → m ≤ n → n < length c.instrs → gone_at l m ≡ false → new_place l m ≤ new_place l n
  place_low m n h there stay = pick (cases_lt m n)
    where
      pick : (m < n) ⊎ (n ≤ m) → new_place l m ≤ new_place l n
      pick (inl less) = let k = keeps_order p c m n less there stay in omega (arith, k)
      pick (inr more) = let e : m ≡ n = omega (arith, h, more) in let k = ap (new_place l) e in omega (arith, k)

  inputs_stay : (gone_at l c.inputs ≡ false) × (new_place l c.inputs ≡ c.inputs)
  inputs_stay = keeps_entries p c c.inputs (omega arith) (omega (arith, size))

  -- what has to be directly after something else stays
  tied_stays : (k : ℕ) → k + 1 < length c.instrs → IsTied p c k → gone_at l (k + 1) ≡ false
  tied_stays k h (inl e) = (keeps_entries p c (k + 1) (omega (arith, e)) h).0
  tied_stays k h (inr (m, t)) =
      let low = t.from in let high = t.to in
      let g = contains_get t.link.firsts t.dest t.named in
      let e : m + t.dest.ahead + (k + 1 - (m + t.dest.ahead)) ≡ k + 1 = omega (arith, low) in
      sym (ap (gone_at l) e) ∙ (keeps_landings p c m g.0 (k + 1 - (m + t.dest.ahead)) t.block t.link t.dest t.there t.links g.1
      (omega (arith, low, high)) (omega (arith, e, h))).0

  -- before what is left out there is something that stays, and it is free of the next one
  abbrev Front : ℕ → ℕ → Type 0
  Front n m = (k : ℕ) × (n ≤ k) × (k < m) × (gone_at l k ≡ false) × (gone_at l (k + 1) ≡ true)

  front : (n j : ℕ) → gone_at l n ≡ false → gone_at l (n + j) ≡ true → Front n (n + j)
  front n zero stay gone = let z : n + 0 ≡ n = omega arith in absurd (true≢false (sym gone ∙ ap (gone_at l) z ∙ stay))
  front n (suc j) stay gone = pick (gone_at l (n + j)) refl (front n j stay)
    where
      pick : (t : Bool) → gone_at l (n + j) ≡ t → (gone_at l (n + j) ≡ true → Front n (n + j)) → Front n (n + suc j)
      pick false e more = let z : n + suc j ≡ n + j + 1 = omega arith in (n + j, omega arith, omega arith, e, sym (ap (gone_at l) z) ∙ gone)
      pick true e more = let r = more e in let low = r.1 in let high = r.2 in (r.0, low, omega (arith, high), r.3, r.4)

  -- So what lies between two places may be something that stays.
  abbrev Between : ℕ → ℕ → Type 0
  Between n m = (k : ℕ) × (n ≤ k) × (k < m) × (gone_at l k ≡ false) × (IsTied p c k → ⊥)

  between : (n m : ℕ) → gone_at l n ≡ false → m < length c.instrs → StandApart p c n m → Between n m
  between n m stay there (k, low, high, free) = pick (gone_at l k) refl
    where
      e : n + (k - n) ≡ k
      e = omega (arith, low)

      pick : (t : Bool) → gone_at l k ≡ t → Between n m
      pick false g = (k, low, high, g, free)
      pick true g =
          let r = front n (k - n) stay (ap (gone_at l) e ∙ g) in let first = r.1 in let last = r.2 in
          (r.0, first, omega (arith, last, e, high), r.3, λ t. true≢false (sym r.4 ∙ tied_stays r.0 (omega (arith, last, e, high, there)) t))

  -- A folded landing that ties the new place ties the old one.
  module _ (k : ℕ) (there : k < length c.instrs) (stay : gone_at l k ≡ false) (free : IsTied p c k → ⊥) where
    by_row : (u : ℕ) (i : Instr) (d : Dest) (x : ℕ) → slice_get c.instrs u ≡ Some i → gone_at l u ≡ false → i.op ≡ Link x → Contains i.firsts d
        → gone_at l (u + d.ahead) ≡ false
        → new_place l (u + d.ahead) ≤ new_place l k → new_place l k + 1 < new_place l (u + d.ahead) + landing p x → ⊥
    by_row u i d x at stays op named stand from to = go (cases_lt k (u + d.ahead)) (cases_lt (k + 1) (u + d.ahead + landing p x))
      where
        s : IsSoundDest p c u d
        s = sound_dest u i d at (Contains-append_left i.firsts i.seconds d named)

        go : (k < u + d.ahead) ⊎ (u + d.ahead ≤ k) → (k + 1 < u + d.ahead + landing p x) ⊎ (u + d.ahead + landing p x ≤ k + 1) → ⊥
        go (inl less) o = let in_order = keeps_order p c k (u + d.ahead) less s.dest.inside stay in absurd (omega (arith, in_order, from))
        go (inr more) (inl less) = free (inr (u, record { link = i; there = at; block = x; links = op; dest = d; named = named; from = more; to = less }))
        go (inr more) (inr past) =
            let g = contains_get i.firsts d named in
            let o = new_place l k - new_place l (u + d.ahead) in
            let e : new_place l (u + d.ahead) + o ≡ new_place l k = omega (arith, from) in
            let r = keeps_landings p c u g.0 o x i d at op g.1 (omega (arith, to, e)) (omega (arith, to, e, past, there)) in
            let same = r.1 in
            let in_order = keeps_order p c (u + d.ahead + o) k (omega (arith, to, e, past)) there r.0 in
            absurd (omega (arith, same, in_order, e))

    by_landing : (m : ℕ) (t : IsInLanding (folded p) (folded_block p c) m (new_place l k)) → (u : ℕ) (i : Instr) → slice_get c.instrs u ≡ Some i
        → gone_at l u ≡ false → new_place l u ≡ m → t.link ≡ moved l u i → ⊥
    by_landing m t u i at stays place same = by_dest (moved_back l u i.firsts t.dest (subst (λ (x : Instr). Contains x.firsts t.dest) same t.named))
      where
        op : i.op ≡ Link t.block
        op = link_before (folds_at l u) i.op t.block (sym (ap (λ (x : Instr). x.op) same) ∙ t.links)

        by_dest : Stood l u i.firsts t.dest → ⊥
        by_dest (d, named, shut, e) =
            let s = sound_dest u i d at (Contains-append_left i.firsts i.seconds d named) in
            let later = s.dest.later in
            let in_order = keeps_order p c u (u + d.ahead) (omega (arith, later)) s.dest.inside stays in
            let ahead : t.dest.ahead ≡ new_place l (u + d.ahead) - new_place l u = ap (λ (x : Dest). x.ahead) e in
            let long = landing_same p t.block in
            let low = t.from in let high = t.to in
            by_row u i d t.block at stays op named (shut_stays l (u + d.ahead) d.port shut) (omega (arith, low, ahead, place, in_order))
            (omega (arith, high, ahead, place, in_order, long))

    still_free : IsTied (folded p) (folded_block p c) (new_place l k) → ⊥
    still_free (inl e) = pick (cases_lt k c.inputs)
      where
        pick : (k < c.inputs) ⊎ (c.inputs ≤ k) → ⊥
        pick (inl less) = free (inl less)
        pick (inr more) = let same = inputs_stay.1 in let low = place_low c.inputs k more there inputs_stay.0 in absurd (omega (arith, e, same, low))
    still_free (inr (m, t)) = found (has_no_others p c m t.link t.there)
      where
        found : (u : ℕ) × (i : Instr) × (slice_get c.instrs u ≡ Some i) × (gone_at l u ≡ false) × (new_place l u ≡ m) × (t.link ≡ moved l u i) → ⊥
        found (u, i, at, stays, place, same) = by_landing m t u i at stays place same

  pub stand_apart : (n m : ℕ) → gone_at l n ≡ false → m < length c.instrs → StandApart p c n m → StandApart (folded p) (folded_block p c)
      (new_place l n) (new_place l m)
  stand_apart n m stay there apart = found (between n m stay there apart)
    where
      found : Between n m → StandApart (folded p) (folded_block p c) (new_place l n) (new_place l m)
      found (k, low, high, stays, free) = (
        new_place l k,
        place_low n k low (omega (arith, high, there)) stay,
        keeps_order p c k m high there stays,
        still_free k (omega (arith, high, there)) stays free,
      )
