-- The marks, the blocks and the landings of narrowed plans, and what their instructions stand for.
use Rattle.std.proofs.Common.{◌≡◌, refl, sym, ap, ◌∙◌, subst, ℕ, zero, suc, ◌+◌, ◌<◌, ◌⊎◌, inl, inr, Bool, true, false, List, [], ◌∷◌, ◌++◌, length}
use Rattle.std.proofs.Common.{Option, Some, None, Contains, arith, nat_lt}
use Rattle.std.specs.Prelude.{slice_get}
use Rattle.std.proofs.lemmas.List.Elements.{Contains-append_cases}
use Rattle.std.proofs.lemmas.Option.{slice_get_within, slice_get-map}
use Rattle.tags.specs.declared.token.Port.{Port}
use Rattle.tags.specs.declared.token.Port.TheVariants.{Left}
use Rattle.semantics.specs.declared.program.Dest.{Dest}
use Rattle.semantics.specs.declared.program.Mark.{Mark}
use Rattle.semantics.specs.Program.{Instr, CodeBlock, Program, first_of, instr_at}
use Rattle.semantics.specs.Plan.{Plan, landing, landing_in}
use Rattle.semantics.specs.Orderly.{same_block, IsMarked}
use Rattle.code.specs.Sound.{IsSound}
use Rattle.law_reuse.proofs.SlotsPlaced.{one_block, stands_within, Found, found}
use Rattle.fanout.specs.Places.{size, place_of}
use Rattle.fanout.specs.Narrowed.{layout_of, narrowed, narrowed_block, narrowed_blocks}
use Rattle.fanout.specs.Laws.{KeepsClear}
use Rattle.fanout.specs.Trees.{moved}
use Rattle.fanout.specs.Sides.{parted}
use Rattle.fanout.proofs.Plans.{l, IsOld, IsNew, origin_of, mark_old}
use Rattle.fanout.proofs.Arrows.{dests_stay}
use Rattle.fanout.proofs.SoundFlags.{sound_keeps_clear}
use Rattle.law_fresh_frames.specs.Alike.{IsTidy}
use Rattle.law_passes.specs.Spreads.{Replaces, here, fork}
use Rattle.std.specs.Option.{option_map}
use Rattle.lemmas.proofs.Contains.{contains_cases, contains_none}
use Rattle.lemmas.proofs.SliceGet.{map_get_back, get_some}
use Rattle.semantics.proofs.BlockPlaces.{block_of, first_in, same_in}
use Rattle.law_passes.proofs.NarrowPlaces.{new_ip, back_in, place_in, ip_at}
use Rattle.law_passes.proofs.NarrowTrees.{copy_node}
use Rattle.law_simulation.specs.Places.{Spot}

module _ (p : Plan) (s : IsSound p) (tidy : IsTidy p) where
  abbrev P : Program
  P = p.program

  abbrev Q : Program
  Q = (narrowed p).program

  abbrev H : ℕ → ℕ
  H = new_ip p P.blocks

  clear : KeepsClear p
  clear = sound_keeps_clear p s

  -- the number lies in that block
  abbrev Inside : ℕ → ℕ → Type 0
  Inside b ip = (c : CodeBlock) × (n : ℕ) × (slice_get Q.blocks b ≡ Some c) × (n < length c.instrs) × (ip ≡ first_of Q b + n)

  -- what names a number of the block is of the block
  named_inside : (b ip : ℕ) (i : Instr) (d : Dest) → instr_at Q ip ≡ Some i → Contains (i.firsts ++ i.seconds) d → Inside b (ip + d.ahead) → Inside b ip
  named_inside b ip i d at named I =
      let F : Found Q ip i = found Q ip i at in
      let within = stands_within Q F.b F.n i F.stands in
      let far = (dests_stay p clear.rows clear.dests F.b F.n F.stands.code
      d record { i = i; block = F.stands.block; there = F.stands.instr; named = named }).inside in
      let place = F.place in let at_d = I.4 in
      let e : first_in Q.blocks F.b + (F.n + d.ahead) ≡ first_in Q.blocks b + I.1 = omega (arith, place, at_d) in
      let same : same_block Q.blocks (first_in Q.blocks F.b + (F.n + d.ahead)) (first_in Q.blocks b + I.1) ≡ true =
      subst (λ (x : ℕ). same_block Q.blocks (first_in Q.blocks F.b + (F.n + d.ahead)) x ≡ true) e
      (same_in Q.blocks F.b (F.n + d.ahead) (F.n + d.ahead) F.stands.code F.stands.block far far) in
      let eq : F.b ≡ b = one_block Q.blocks F.b b (F.n + d.ahead) I.1 F.stands.code I.0 F.stands.block I.2 far I.3 same in
      (F.stands.code, F.n, ap (slice_get Q.blocks) (sym eq) ∙ F.stands.block, within, place ∙ ap (λ (b : ℕ). first_of Q b + F.n) eq)

  old_inside : (b j : ℕ) (c : CodeBlock) → slice_get P.blocks b ≡ Some c → j < length c.instrs → Inside b (H (first_of P b + j))
  old_inside b j c at low = (narrowed_block p c, place_of (l p c) j, new_block, place_in p c j low, ip_at p P.blocks b j c at low)
    where
      new_block : slice_get Q.blocks b ≡ Some (narrowed_block p c)
      new_block = here P.blocks b at
        where
          here : (bs : List CodeBlock) (b : ℕ) → slice_get bs b ≡ Some c → slice_get (narrowed_blocks p bs) b ≡ Some (narrowed_block p c)
          here [] b e = absurd (cc)
          here (x ∷ bs) zero e = let k : x ≡ c = cc in ap (λ (c : CodeBlock). Some (narrowed_block p c)) k
          here (x ∷ bs) (suc b) e = here bs b e

  stands_inside : (b ip : ℕ) (r : Port) (xs : List Spot) (x : Spot) → Replaces Q H ip r xs → Contains xs x → Inside b (H x.0) → Inside b ip
  stands_inside b ip r xs x (here n t ys a at one) inside I = pick (contains_cases (a, r) [] x (subst (λ (l : List Spot). Contains l x) one inside))
    where
      pick : ((a, r) ≡ x) ⊎ Contains [] x → Inside b ip
      pick (inl e) = subst (Inside b) (ap (λ (x : Spot). H x.0) (sym e) ∙ sym at) I
      pick (inr c) = absurd (contains_none x c)
  stands_inside b ip r xs x (fork n t ys us vs K left su sv one) inside I =
      go (Contains-append_cases us vs x (subst (λ (l : List Spot). Contains l x) one inside)) (λ c. stands_inside b (ip + K.d.ahead) K.d.port us x su c I)
      (λ c. stands_inside b (ip + K.e.ahead) K.e.port vs x sv c I)
    where
      both : (K.d ∷ []) ++ (K.e ∷ []) ≡ K.i.firsts ++ K.i.seconds
      both = (λ k. sym K.first k ++ sym K.second k)

      go : Contains us x ⊎ Contains vs x → (Contains us x → Inside b (ip + K.d.ahead)) → (Contains vs x → Inside b (ip + K.e.ahead)) → Inside b ip
      go (inl c) f g = named_inside b ip K.i K.d K.there (subst (λ (l : List Dest). Contains l K.d) both (0, omega arith, refl)) (f c)
      go (inr c) f g = named_inside b ip K.i K.e K.there (subst (λ (l : List Dest). Contains l K.e) both (1, omega arith, refl)) (g c)

  pub keeps_blocks : (ip jp : ℕ) (r t : Port) (xs ys : List Spot) (x y : Spot) → Replaces Q H ip r xs → Replaces Q H jp t ys → Contains xs x → Contains ys y
      → same_block P.blocks x.0 y.0 ≡ true → same_block Q.blocks ip jp ≡ true
  keeps_blocks ip jp r t xs ys x y sx sy cx cy e =
      let B = block_of P.blocks x.0 y.0 e in
      let X : Inside B.b ip = stands_inside B.b ip r xs x sx cx (subst (λ (n : ℕ). Inside B.b (H n)) (sym B.one) (old_inside B.b B.j B.c B.block B.low)) in
      let Y : Inside B.b jp = stands_inside B.b jp t ys y sy cy (subst (λ (n : ℕ). Inside B.b (H n)) (sym B.two) (old_inside B.b B.k B.c B.block B.high)) in
      let same : Y.0 ≡ X.0 = some_c Y.0 X.0 (sym Y.2 ∙ X.2) in
      let len = ap (λ (c : CodeBlock). length c.instrs) same in let low = Y.3 in
      (λ k. same_block Q.blocks (X.4 k) (Y.4 k)) ∙ same_in Q.blocks B.b X.1 Y.1 X.0 X.2 X.3 (omega (arith, len, low))
    where
      some_c : (c d : CodeBlock) → Some c ≡ Some d → c ≡ d
      some_c c d e = cc

  pub keeps_marks : (a : ℕ) (m : Mark) → IsMarked (narrowed p) (H a) m → IsMarked p a m
  keeps_marks a m (b, n, c2, at2, low, place, marked, some) =
      let o = map_get_back (narrowed_block p) P.blocks b c2 at2 in
      let c : CodeBlock = o.0 in
      let len : n < length (narrowed_block p c).instrs = subst (λ (d : CodeBlock). n < length d.instrs) (sym o.2) low in
      let r = back_in p P.blocks b n a c o.1 len place in
      let i = get_some c.instrs r.0 r.1 in
      let is : IsOld p c n (moved (l p c) r.0 (parted i.0)) = record { v = r.0; i = i.0; there = i.1; at = r.3; op = refl; slot = refl } in
      (b, r.0, c, o.1, r.1, r.2, sym (mark_old p b c o.1 n (moved (l p c) r.0 (parted i.0)) is) ∙ marked, some)

  pub same_landings : (b : ℕ) → landing (narrowed p) b ≡ landing p b
  same_landings b = ap (landing_in (nat_lt b p.plain)) (slice_get-map (narrowed_block p) P.blocks b) ∙ go (nat_lt b p.plain) (slice_get P.blocks b)
    where
      go : (t : Bool) (o : Option CodeBlock) → landing_in t (option_map (narrowed_block p) o) ≡ landing_in t o
      go t None = refl
      go true (Some c) = refl
      go false (Some c) = refl

  -- each instruction of the new code stands for some of the old one
  pub stands_for_some : (ip : ℕ) (j : Instr) → instr_at Q ip ≡ Some j → (zs : List Spot) × Replaces Q H ip Left zs
  stands_for_some ip j at =
      let F : Found Q ip j = found Q ip j at in
      let o = map_get_back (narrowed_block p) P.blocks F.b F.stands.code F.stands.block in
      go F o.0 o.1 (origin_of p o.0 F.n j (ap (λ (c : CodeBlock). slice_get c.instrs F.n) o.2 ∙ F.stands.instr))
    where
      go : (F : Found Q ip j) (c : CodeBlock) → slice_get P.blocks F.b ≡ Some c → IsOld p c F.n j ⊎ IsNew p c F.n j
          → (zs : List Spot) × Replaces Q H ip Left zs
      go F c e (inl K) =
          let k : H (first_of P F.b + K.v) ≡ first_in (narrowed_blocks p P.blocks) F.b + place_of (layout_of p c) K.v =
          ip_at p P.blocks F.b K.v c e (slice_get_within c.instrs K.v K.i K.there) in
          let a : ℕ = first_of P F.b + K.v in
          ((a, Left) ∷ [], here ip Left ((a, Left) ∷ []) a (F.place ∙ ap (λ (n : ℕ). first_of Q F.b + n) K.at ∙ sym k) refl)
      go F c e (inr K) =
          let q = map_get_back parted c.instrs K.v K.i K.there in
          let x = copy_node p s tidy F.b c e K.v q.0 q.1 K.j (subst (λ (i : Instr). K.j < size i) (sym q.2) K.below) in
          (x.0, subst (λ (n : ℕ). Replaces Q H n Left x.0) (ap (λ (n : ℕ). first_of Q F.b + n) (sym K.at) ∙ sym F.place) x.1)
