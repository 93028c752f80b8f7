-- Marks, blocks, landings and loops of the folded plan that still has its slots.
use Rattle.std.proofs.Common.{◌≡◌, refl, sym, ap, ◌∙◌, subst, ℕ, ℤ, zero, suc, ◌+◌, ◌<◌, ◌≤◌, ◌⊎◌, inl, inr, Bool, true, false, true≢false, List, [], ◌∷◌}
use Rattle.std.proofs.Common.{◌++◌, length, Option, Some, None, Contains, nat_lt, arith}
use Rattle.std.specs.Prelude.{slice_get}
use Rattle.std.specs.Option.{option_map}
use Rattle.std.proofs.lemmas.Option.{slice_get_within, slice_get-map, same_Some}
use Rattle.std.proofs.lemmas.List.Elements.{Contains-append_left, Contains-append_right}
use Rattle.lemmas.proofs.Contains.{contains_get, get_contains}
use Rattle.lemmas.proofs.SliceGet.{get_some}
use Rattle.lemmas.proofs.Lists.{one_element}
use Rattle.tags.specs.declared.token.Port.{Port}
use Rattle.operators.specs.declared.Binary.{Binary}
use Rattle.semantics.specs.declared.program.Dest.{Dest}
use Rattle.semantics.specs.declared.program.Mark.{Mark}
use Rattle.semantics.specs.declared.program.Op.{Op}
use Rattle.semantics.specs.declared.program.Op.TheVariants.{Apply2, Apply2Right, Apply2Left, Lit, Link, Give, Take}
use Rattle.semantics.specs.Program.{Instr, CodeBlock, Program, first_of, instr_at}
use Rattle.semantics.specs.Plan.{Plan, mark_at, landing, landing_in}
use Rattle.semantics.specs.Orderly.{same_block, often, IsMarked}
use Rattle.semantics.proofs.BlockPlaces.{block_of, first_in, same_in}
use Rattle.code.specs.Sound.{IsSound}
use Rattle.law_reuse.proofs.SlotsPlaced.{one_block, instr_in, Found, found}
use Rattle.folding.specs.Folds.{new_op}
use Rattle.folding.specs.Places.{layout_of, folds_at, gone_at, new_place}
use Rattle.folding.specs.Moved.{new_dest, moved_dests}
use Rattle.folding.specs.Laws.{dests_of}
use Rattle.folding.proofs.Standing.{keeps_order, stands_at}
use Rattle.folding.proofs.Landing.{keeps_landings}
use Rattle.folding.proofs.Marked.{keeps_marks}
use Rattle.folding.proofs.Sole.{keeps_sole}
use Rattle.folding.proofs.SoundLists.{moved_back}
use Rattle.folding.proofs.SoundRows.{shut_stays}
use Rattle.folding.proofs.Pairs.{closed_uses}
use Rattle.folding.proofs.Cases.{KeptAt, FoldCase, is_kept, is_right, is_left, fold_cases}
use Rattle.folding.proofs.Plain.{PlainAt, landing_plain, sole_plain}
use Rattle.law_fresh_frames.specs.Alike.{HasLanding, IsTidy, plain_dests}
use Rattle.law_passes.proofs.KeptMoves.{shape_one}
use Rattle.law_passes.specs.Kept.{slotted, kept_block, kept_slots}
use Rattle.law_passes.proofs.KeptClosed.{lit_or}
use Rattle.law_passes.proofs.KeptNumbering.{place_ip, word_ip}
use Rattle.law_passes.proofs.KeptPlaces.{new_block, spares, inside, ahead, there_old, there_new, g_at}
use Rattle.law_passes.proofs.KeptSpots.{stays, kept_of, plain_at_h, plain_here, new_within, apply_stays, At, at_of, NewAt, new_at}
use Rattle.law_passes.proofs.KeptSpots.{DestAt, dest_of, dest_place}
use Rattle.law_simulation.specs.Places.{Spot, is_answered}
use Rattle.law_simulation.specs.Simulates.{Leaf, Plain, at_moved, at_pair, behind, counts_none, hands_on, is_pair}
use Rattle.law_simulation.proofs.SimulationParts.{hands_no_pair}

often_op : (i j : Instr) → j.op ≡ i.op → often (Some j) ≡ often (Some i)
often_op i j e = ap (λ (op : Op). elim op as (λ x. Bool) [ Give k ↦ true | Take k ↦ true | _ ↦ false ]) e

-- the number lies in that block
abbrev pub Inside : Program → ℕ → ℕ → Type 0
Inside p b ip = (c : CodeBlock) × (n : ℕ) × (slice_get p.blocks b ≡ Some c) × (n < length c.instrs) × (ip ≡ first_of p b + n)

-- in one block only
pub inside_one : (p : Program) (a b ip : ℕ) → Inside p a ip → Inside p b ip → a ≡ b
inside_one p a b ip A B =
    one_block p.blocks a b A.1 B.1 A.0 B.0 A.2 B.2 A.3 B.3
    (subst (λ (x : ℕ). same_block p.blocks (first_in p.blocks a + A.1) x ≡ true) (sym A.4 ∙ B.4) (same_in p.blocks a A.1 A.1 A.0 A.2 A.3 A.3))

module _ (p : Plan) (s : IsSound p) where
  abbrev P : Program
  P = p.program

  abbrev Q : Program
  Q = (kept_slots p).program

  abbrev h : ℕ → ℕ
  h = word_ip p

  abbrev L : ℕ → Port → Spot → Type 0
  L = Leaf P Q (place_ip p) h

  -- ---- OPERATIONS
  pair_not : (c : CodeBlock) (n : ℕ) (i : Instr) → slice_get c.instrs n ≡ Some i → is_pair (slotted (layout_of p c) n i).op ≡ false → KeptAt p c n
  pair_not c n i at off = go (fold_cases p c n)
    where
      go : FoldCase p c n → KeptAt p c n
      go (is_kept K) = K
      go (is_right (D, op)) =
          let same : i ≡ D.i = same_Some i D.i (sym at ∙ D.there) in
          absurd
          (true≢false (sym (ap (λ (i : Instr). is_pair (new_op (folds_at (layout_of p c) n) i.op)) same
          ∙ ap (λ (o : Op). is_pair (new_op (folds_at (layout_of p c) n) o)) D.was ∙ ap is_pair (op D.o)) ∙ off))
      go (is_left (D, op)) =
          let same : i ≡ D.i = same_Some i D.i (sym at ∙ D.there) in
          absurd
          (true≢false (sym (ap (λ (i : Instr). is_pair (new_op (folds_at (layout_of p c) n) i.op)) same
          ∙ ap (λ (o : Op). is_pair (new_op (folds_at (layout_of p c) n) o)) D.was ∙ ap is_pair (op D.o)) ∙ off))

  no_pair : (op : Op) → counts_none op ≡ false → is_pair op ≡ false
  no_pair (Apply2Right o z) e = absurd (true≢false e)
  no_pair (Apply2Left o z) e = absurd (true≢false e)
  no_pair op e = refl

  -- an operation with nothing to fold stays
  pub plain_of_op : (c : CodeBlock) (n : ℕ) (i : Instr) → slice_get c.instrs n ≡ Some i → counts_none i.op ≡ false → PlainAt p c n
  plain_of_op c n i at off = go (lit_or p c n i at) (fold_cases p c n)
    where
      no_apply : (j : Instr) (o : Binary) → slice_get c.instrs n ≡ Some j → j.op ≡ Apply2 o → ⊥
      no_apply j o at_j e = true≢false (sym (ap counts_none (ap (λ (i : Instr). i.op) (same_Some i j (sym at ∙ at_j)) ∙ e)) ∙ off)

      go : (closed_uses p c n ≡ []) ⊎ ((z : ℤ) × (i.op ≡ Lit z)) → FoldCase p c n → PlainAt p c n
      go (inr l) o = absurd (true≢false (sym (ap counts_none l.1) ∙ off))
      go (inl none) (is_kept K) = record { folded = K.folded; unused = none }
      go (inl none) (is_right (D, op)) = absurd (no_apply D.i D.o D.there D.was)
      go (inl none) (is_left (D, op)) = absurd (no_apply D.i D.o D.there D.was)

  pub stays_for : (op : Op) → counts_none op ≡ false → (a : ℕ) (i : Instr) → instr_at P a ≡ Some i → i.op ≡ op → Plain P Q h a
  stays_for op off a i at e = go (found P a i at)
    where
      go : Found P a i → Plain P Q h a
      go N =
          subst (Plain P Q h) (sym N.place) (plain_here p s N.b N.stands.code N.stands.block N.n i N.stands.instr
          (plain_of_op N.stands.code N.n i N.stands.instr (ap counts_none e ∙ off)))

  pub comes_back : (ip : ℕ) (j : Instr) → instr_at Q ip ≡ Some j → counts_none j.op ≡ false → (a : ℕ) × (ip ≡ h a) × Plain P Q h a
  comes_back ip j at off =
      let N : NewAt p s ip j = new_at p s ip j at in
      let new_off : counts_none (slotted (layout_of p N.c) N.n N.i).op ≡ false = ap (λ (j : Instr). counts_none j.op) (sym N.is) ∙ off in
      let K : KeptAt p N.c N.n = pair_not N.c N.n N.i N.instr (no_pair (slotted (layout_of p N.c) N.n N.i).op new_off) in
      let plain : PlainAt p N.c N.n = plain_of_op N.c N.n N.i N.instr (ap counts_none (sym (K.op (N.i).op)) ∙ new_off) in (
        first_of P N.b + N.n,
        N.place ∙ sym (plain_at_h p s N.b N.c N.block N.n (slice_get_within N.c.instrs N.n N.i N.instr) plain),
        plain_here p s N.b N.c N.block N.n N.i N.instr plain,
      )

  -- ---- MARKS
  pub marks_kept : (a : ℕ) (m : Mark) → Plain P Q h a → IsMarked (kept_slots p) (h a) m → IsMarked p a m
  marks_kept a m K (b, n, c, at_b, low, place, marked, some) =
      let A : At p s a = at_of p s a K in
      let new : Inside Q A.b (h a) = (
        kept_block p A.c,
        new_place (layout_of p A.c) A.n,
        new_block p s A.b A.c A.block,
        new_within p s A.b A.c A.block A.n A.i A.instr (stays p A.c A.n A.i A.instr A.plain.unused),
        A.moved,
      ) in
      let eb : b ≡ A.b = inside_one Q b A.b (h a) (c, n, at_b, low, place) new in
      let moved = A.moved in let f = ap (first_of Q) eb in
      let en : n ≡ new_place (layout_of p A.c) A.n = omega (arith, place, moved, f) in (
        A.b,
        A.n,
        A.c,
        A.block,
        slice_get_within A.c.instrs A.n A.i A.instr,
        A.place,
        sym (keeps_marks p A.b A.c A.n A.i A.block A.instr (stays p A.c A.n A.i A.instr A.plain.unused)) ∙ (λ k. mark_at (kept_slots p) (sym eb k) (sym en k))
            ∙ marked,
        some,
      )

  -- ---- BLOCKS
  old_inside : (b n : ℕ) (c : CodeBlock) (i : Instr) → slice_get P.blocks b ≡ Some c → slice_get c.instrs n ≡ Some i → Inside P b (first_of P b + n)
  old_inside b n c i at_b at = (c, n, at_b, slice_get_within c.instrs n i at, refl)

  moved_inside : (a b : ℕ) → Plain P Q h a → Inside P b a → Inside Q b (h a)
  moved_inside a b K I =
      let A : At p s a = at_of p s a K in
      let eb : A.b ≡ b = inside_one P A.b b a (subst (Inside P A.b) (sym A.place) (old_inside A.b A.n A.c A.i A.block A.instr)) I in
      subst (λ (b : ℕ). Inside Q b (h a)) eb (
        kept_block p A.c,
        new_place (layout_of p A.c) A.n,
        new_block p s A.b A.c A.block,
        new_within p s A.b A.c A.block A.n A.i A.instr (stays p A.c A.n A.i A.instr A.plain.unused),
        A.moved,
      )

  new_inside : (ip : ℕ) (j : Instr) (N : NewAt p s ip j) → Inside Q N.b ip
  new_inside ip j N =
      (kept_block p N.c, new_place (layout_of p N.c) N.n, new_block p s N.b N.c N.block, new_within p s N.b N.c N.block N.n N.i N.instr N.stay, N.place)

  -- the operator of that place
  pair_inside : (a b : ℕ) (i : Instr) (o : Binary) → instr_at P a ≡ Some i → i.op ≡ Apply2 o → Inside P b a → Inside Q b (place_ip p a)
  pair_inside a b i o at op I = go (found P a i at)
    where
      go : Found P a i → Inside Q b (place_ip p a)
      go M =
          let low = slice_get_within M.stands.code.instrs M.n i M.stands.instr in
          let eb : M.b ≡ b = inside_one P M.b b a (subst (Inside P M.b) (sym M.place) (old_inside M.b M.n M.stands.code i M.stands.block M.stands.instr)) I in
          let at_g : place_ip p a ≡ first_of Q M.b + new_place (layout_of p M.stands.code) M.n = ap (place_ip p) M.place
          ∙ g_at p s M.b M.stands.code M.stands.block M.n low in
          subst (λ (b : ℕ). Inside Q b (place_ip p a)) eb (
            kept_block p M.stands.code,
            new_place (layout_of p M.stands.code) M.n,
            new_block p s M.b M.stands.code M.stands.block,
            new_within p s M.b M.stands.code M.stands.block M.n i M.stands.instr (apply_stays p s M.stands.code M.n i o M.stands.instr op),
            at_g,
          )

  -- where a destination leads
  dest_target : (c : CodeBlock) (n : ℕ) (b : ℕ) (at_b : slice_get P.blocks b ≡ Some c) (i : Instr) (at : slice_get c.instrs n ≡ Some i) (d : Dest)
      (D : DestAt p s c n i d) → (k : Instr) × (slice_get c.instrs (n + D.old.ahead) ≡ Some k)
  dest_target c n b at_b i at d D = get_some c.instrs (n + D.old.ahead) (inside p s b c at_b n D.k i D.side D.old at D.named)

  from_dest : (ip : ℕ) (j : Instr) (d : Dest) → instr_at Q ip ≡ Some j → Contains (j.firsts ++ j.seconds) d → (b : ℕ) → Inside Q b (ip + d.ahead)
      → Inside Q b ip
  from_dest ip j d at k b I =
      let N : NewAt p s ip j = new_at p s ip j at in
      let D : DestAt p s N.c N.n N.i d = dest_of p s N.c N.n N.i d (subst (λ (j : Instr). Contains (j.firsts ++ j.seconds) d) N.is k) in
      let T = dest_target N.c N.n N.b N.block N.i N.instr d D in
      let e = (dest_place p s N.b N.c N.block N.n N.i N.instr N.stay d D).1 in
      let place = N.place in
      let there : Inside Q N.b (ip + d.ahead) = (
        kept_block p N.c,
        new_place (layout_of p N.c) (N.n + D.old.ahead),
        new_block p s N.b N.c N.block,
        new_within p s N.b N.c N.block (N.n + D.old.ahead) T.0 T.1 (shut_stays (layout_of p N.c) (N.n + D.old.ahead) D.old.port D.shut),
        omega (arith, e, place),
      ) in
      subst (λ (b : ℕ). Inside Q b ip) (inside_one Q N.b b (ip + d.ahead) there I) (new_inside ip j N)

  leaf_inside : (ip : ℕ) (r : Port) (x : Spot) → L ip r x → (b : ℕ) → Inside P b x.0 → Inside Q b ip
  leaf_inside ip r x (at_moved n1 r1 x1 a e K is) b I = subst (Inside Q b) (sym e) (moved_inside a b K (subst (λ (x : Spot). Inside P b x.0) is I))
  leaf_inside ip r x (at_pair n1 r1 x1 a i j o e at op there pair fresh left is) b I =
      subst (Inside Q b) (sym e) (pair_inside a b i o at op (subst (λ (x : Spot). Inside P b x.0) is I))
  leaf_inside ip r x (behind n1 r1 x1 j d there op fresh left k more) b I = from_dest ip j d there k b (leaf_inside (ip + d.ahead) d.port x more b I)

  pub blocks_kept : (ip jp : ℕ) (r t : Port) (x y : Spot) → L ip r x → L jp t y → same_block P.blocks x.0 y.0 ≡ true → same_block Q.blocks ip jp ≡ true
  blocks_kept ip jp r t x y lx ly e =
      let B = block_of P.blocks x.0 y.0 e in
      let X : Inside Q B.b ip = leaf_inside ip r x lx B.b (B.c, B.j, B.block, B.low, B.one) in
      let Y : Inside Q B.b jp = leaf_inside jp t y ly B.b (B.c, B.k, B.block, B.high, B.two) in
      let same : Y.0 ≡ X.0 = same_Some Y.0 X.0 (sym Y.2 ∙ X.2) in
      let len = ap (λ (c : CodeBlock). length c.instrs) same in let low = Y.3 in
      (λ k. same_block Q.blocks (X.4 k) (Y.4 k)) ∙ same_in Q.blocks B.b X.1 Y.1 X.0 X.2 X.3 (omega (arith, len, low))

  -- ---- LANDINGS
  pub same_landings : (b : ℕ) → landing (kept_slots p) b ≡ landing p b
  same_landings b = ap (landing_in (nat_lt b p.plain)) (slice_get-map (kept_block p) P.blocks b) ∙ go (nat_lt b p.plain) (slice_get P.blocks b)
    where
      go : (t : Bool) (o : Option CodeBlock) → landing_in t (option_map (kept_block p) o) ≡ landing_in t o
      go t None = refl
      go true (Some c) = refl
      go false (Some c) = refl

  no_link_lit : (b : ℕ) (z : ℤ) → Link b ≡ Lit z → ⊥
  no_link_lit b z e = cc

  pub landings_moved : (base o : ℕ) → HasLanding p base o → HasLanding (kept_slots p) (h base) o
  landings_moved base o N =
      let to : ℕ = N.n + N.d.ahead in
      let within = N.inside in
      let below = N.within in
      let first : slice_get (dests_of N.i false) 0 ≡ Some N.d = ap (λ (l : List Dest). slice_get l 0) N.lands in
      let z0 : to + 0 ≡ to = omega arith in
      let K : PlainAt p N.c to = subst (PlainAt p N.c) z0
      (landing_plain p N.c N.n 0 N.callee N.i N.d N.instr N.links first (omega (arith, below)) (omega (arith, within))) in
      let low : to < length N.c.instrs = omega (arith, within) in
      let self : PlainAt p N.c N.n = plain_of_op N.c N.n N.i N.instr (ap counts_none N.links) in
      let stay = stays p N.c N.n N.i N.instr self.unused in
      let more = ahead p s N.b N.c N.block N.n 0 N.i false N.d N.instr first in
      let up = keeps_order p N.c N.n to (omega (arith, more)) low stay in
      let row = keeps_landings p N.c N.n 0 o N.callee N.i N.d N.instr N.links first below within in
      let k = get_some N.c.instrs (to + o) within in
      let last = new_within p s N.b N.c N.block (to + o) k.0 k.1 row.0 in
      let moves = row.1 in
      let begins = N.begins in
      let at_base = ap h begins ∙ plain_at_h p s N.b N.c N.block to low K in
      let lm = same_landings N.callee in
      record {
        b = N.b;
        n = new_place (layout_of p N.c) N.n;
        c = kept_block p N.c;
        i = slotted (layout_of p N.c) N.n N.i;
        d = new_dest (layout_of p N.c) N.n to N.d.port;
        callee = N.callee;
        block = new_block p s N.b N.c N.block;
        instr = stands_at p N.c (slotted (layout_of p N.c)) N.n N.i N.instr stay;
        links = (kept_of p N.c N.n self.folded).op (N.i).op ∙ N.links;
        lands = keeps_sole p N.c (spares p s N.b N.c N.block) N.n N.i N.d N.instr N.lands (λ z e. no_link_lit N.callee z (sym N.links ∙ e));
        begins = omega (arith, at_base, up);
        within = omega (arith, below, lm);
        inside = omega (arith, last, moves, up);
      }

  -- ---- PORTS THAT GET ANY NUMBER OF TOKENS
  often_new : (c : CodeBlock) (n : ℕ) (i : Instr) → slice_get c.instrs n ≡ Some i → often (Some i) ≡ false → often (Some (slotted (layout_of p c) n i)) ≡ false
  often_new c n i at off = go (fold_cases p c n)
    where
      by_pair : is_pair (slotted (layout_of p c) n i).op ≡ true → often (Some (slotted (layout_of p c) n i)) ≡ false
      by_pair e = pair_often (slotted (layout_of p c) n i).op e
        where
          pair_often : (op : Op) → is_pair op ≡ true → (elim op as (λ x. Bool) [ Give k ↦ true | Take k ↦ true | _ ↦ false ]) ≡ false
          pair_often (Give k) e = absurd (true≢false (sym e))
          pair_often (Take k) e = absurd (true≢false (sym e))
          pair_often op e = refl

      go : FoldCase p c n → often (Some (slotted (layout_of p c) n i)) ≡ false
      go (is_kept K) = often_op i (slotted (layout_of p c) n i) (K.op i.op) ∙ off
      go (is_right (D, op)) =
          by_pair (ap (λ (i : Instr). is_pair (new_op (folds_at (layout_of p c) n) i.op)) (same_Some i D.i (sym at ∙ D.there))
          ∙ ap (λ (o : Op). is_pair (new_op (folds_at (layout_of p c) n) o)) D.was ∙ ap is_pair (op D.o))
      go (is_left (D, op)) =
          by_pair (ap (λ (i : Instr). is_pair (new_op (folds_at (layout_of p c) n) i.op)) (same_Some i D.i (sym at ∙ D.there))
          ∙ ap (λ (o : Op). is_pair (new_op (folds_at (layout_of p c) n) o)) D.was ∙ ap is_pair (op D.o))

  module _ (tidy : IsTidy p) where
    -- what a destination leads to gets one token
    dest_lone : (b : ℕ) (c : CodeBlock) (at_b : slice_get P.blocks b ≡ Some c) (n : ℕ) (i : Instr) (at : slice_get c.instrs n ≡ Some i)
        → gone_at (layout_of p c) n ≡ false → (d : Dest) (D : DestAt p s c n i d) → Contains (plain_dests i i.op) D.old
        → often (instr_at Q (first_of Q b + new_place (layout_of p c) n + d.ahead)) ≡ false
    dest_lone b c at_b n i at stay d D named =
        let T = dest_target c n b at_b i at d D in
        let e = (dest_place p s b c at_b n i at stay d D).1 in
        let place : first_of Q b + new_place (layout_of p c) n + d.ahead ≡ first_of Q b + new_place (layout_of p c) (n + D.old.ahead) = omega (arith, e) in
        let z : first_of P b + (n + D.old.ahead) ≡ first_of P b + n + D.old.ahead = omega arith in
        let off : often (Some T.0) ≡ false = ap often (sym (there_old p s b c at_b (n + D.old.ahead) T.0 T.1)) ∙ ap (λ (x : ℕ). often (instr_at P x)) z
        ∙ tidy.once b n c i D.old at_b at named in
        ap (λ (x : ℕ). often (instr_at Q x)) place
        ∙ ap often (there_new p s b c at_b (n + D.old.ahead) T.0 T.1 (shut_stays (layout_of p c) (n + D.old.ahead) D.old.port D.shut))
        ∙ often_new c (n + D.old.ahead) T.0 T.1 off

    hands_plain : (i : Instr) (op : Op) → hands_on op ≡ true → (d : Dest) → Contains (i.firsts ++ i.seconds) d → Contains (plain_dests i op) d
    hands_plain i (Link b) e d k = absurd (true≢false (sym e))
    hands_plain i op e d k = k

    side_in : (i : Instr) (side : Bool) (k : ℕ) (d : Dest) → slice_get (dests_of i side) k ≡ Some d → Contains (i.firsts ++ i.seconds) d
    side_in i false k d e = Contains-append_left i.firsts i.seconds d (get_contains i.firsts k d e)
    side_in i true k d e = Contains-append_right i.firsts i.seconds d (get_contains i.seconds k d e)

    hands_target : (ip : ℕ) (j : Instr) (d : Dest) → instr_at Q ip ≡ Some j → hands_on j.op ≡ true → Contains (j.firsts ++ j.seconds) d
        → often (instr_at Q (ip + d.ahead)) ≡ false
    hands_target ip j d at op k =
        let N : NewAt p s ip j = new_at p s ip j at in
        let D : DestAt p s N.c N.n N.i d = dest_of p s N.c N.n N.i d (subst (λ (j : Instr). Contains (j.firsts ++ j.seconds) d) N.is k) in
        let new : hands_on (slotted (layout_of p N.c) N.n N.i).op ≡ true = ap (λ (j : Instr). hands_on j.op) (sym N.is) ∙ op in
        let K : KeptAt p N.c N.n = pair_not N.c N.n N.i N.instr (hands_no_pair (slotted (layout_of p N.c) N.n N.i).op new) in
        ap (λ (x : ℕ). often (instr_at Q (x + d.ahead))) N.place
        ∙ dest_lone N.b N.c N.block N.n N.i N.instr N.stay d D
        (hands_plain N.i (N.i).op (ap hands_on (sym (K.op (N.i).op)) ∙ new) D.old (side_in N.i D.side D.k D.old D.named))

    apply_once : (i : Instr) (o : Binary) → i.op ≡ Apply2 o → often (Some i) ≡ false
    apply_once i o e = ap (λ (op : Op). elim op as (λ x. Bool) [ Give k ↦ true | Take k ↦ true | _ ↦ false ]) e

    moved_once : (a : ℕ) → Plain P Q h a → often (instr_at Q (h a)) ≡ false → often (instr_at P a) ≡ false
    moved_once a K off =
        let A : At p s a = at_of p s a K in
        let j : Instr = slotted (layout_of p A.c) A.n A.i in
        let new : instr_at Q (h a) ≡ Some j = ap (instr_at Q) A.moved
        ∙ there_new p s A.b A.c A.block A.n A.i A.instr (stays p A.c A.n A.i A.instr A.plain.unused) in
        ap (λ (x : ℕ). often (instr_at P x)) A.place ∙ ap often (there_old p s A.b A.c A.block A.n A.i A.instr)
        ∙ sym (often_op A.i j ((kept_of p A.c A.n A.plain.folded).op (A.i).op)) ∙ sym (ap often new) ∙ off

    pub lone_leaf : (ip : ℕ) (r : Port) (x : Spot) → L ip r x → often (instr_at Q ip) ≡ false → often (instr_at P x.0) ≡ false
    lone_leaf ip r x (at_moved n1 r1 x1 a e K is) off =
        subst (λ (x : Spot). often (instr_at P x.0) ≡ false) (sym is) (moved_once a K (ap (λ (n : ℕ). often (instr_at Q n)) (sym e) ∙ off))
    lone_leaf ip r x (at_pair n1 r1 x1 a i j o e at op there pair fresh left is) off =
        subst (λ (x : Spot). often (instr_at P x.0) ≡ false) (sym is) (ap often at ∙ apply_once i o op)
    lone_leaf ip r x (behind n1 r1 x1 j d there op fresh left k more) off = lone_leaf (ip + d.ahead) d.port x more (hands_target ip j d there op k)

    -- ---- IT IS TIDY
    plain_back : (c : CodeBlock) (n : ℕ) (i : Instr) (d : Dest) (op new : Op) → i.op ≡ op → (slotted (layout_of p c) n i).op ≡ new
        → ((b : ℕ) → op ≡ Link b → new ≡ Link b) → Contains (plain_dests (slotted (layout_of p c) n i) new) d
        → (D : DestAt p s c n i d) × Contains (plain_dests i op) D.old
    plain_back c n i d (Link b) new e f both k = seconds (subst (λ (op : Op). Contains (plain_dests (slotted (layout_of p c) n i) op) d) (both b refl) k)
      where
        seconds : Contains (moved_dests (layout_of p c) n i.seconds) d → (D : DestAt p s c n i d) × Contains i.seconds D.old
        seconds k =
            let o = moved_back (layout_of p c) n i.seconds d k in let g = contains_get i.seconds o.0 o.1 in
            (record { side = true; k = g.0; old = o.0; named = g.1; shut = o.2; is = o.3 }, o.1)
    plain_back c n i d op new e f both k = let D = dest_of p s c n i d (all_of new k) in (D, side_in i D.side D.k D.old D.named)
      where
        all_of : (new : Op) → Contains (plain_dests (slotted (layout_of p c) n i) new) d
            → Contains ((slotted (layout_of p c) n i).firsts ++ (slotted (layout_of p c) n i).seconds) d
        all_of (Link b) k = Contains-append_right (slotted (layout_of p c) n i).firsts (slotted (layout_of p c) n i).seconds d k
        all_of op k = k

    -- a link stays one
    link_new : (c : CodeBlock) (n : ℕ) (i : Instr) → slice_get c.instrs n ≡ Some i → (b : ℕ) → i.op ≡ Link b → (slotted (layout_of p c) n i).op ≡ Link b
    link_new c n i at b e = (kept_of p c n (plain_of_op c n i at (ap counts_none e)).folded).op i.op ∙ e

    pub kept_tidy : IsTidy (kept_slots p)
    kept_tidy = record { landings = rows; once = ones }
      where
        rows : (b n : ℕ) (c : CodeBlock) (i : Instr) (d : Dest) (callee : ℕ) → slice_get Q.blocks b ≡ Some c → slice_get c.instrs n ≡ Some i
            → i.op ≡ Link callee → i.firsts ≡ d ∷ [] → n + d.ahead + landing (kept_slots p) callee ≤ length c.instrs
        rows b n c i d callee at_b at op lands = by (new_at p s (first_of Q b + n) i (instr_in Q.blocks b n c at_b (slice_get_within c.instrs n i at) ∙ at))
          where
            by : NewAt p s (first_of Q b + n) i → n + d.ahead + landing (kept_slots p) callee ≤ length c.instrs
            by N =
                let I : Inside Q b (first_of Q b + n) = (c, n, at_b, slice_get_within c.instrs n i at, refl) in
                let eb : N.b ≡ b = inside_one Q N.b b (first_of Q b + n) (new_inside (first_of Q b + n) i N) I in
                let ec : kept_block p N.c ≡ c = same_Some (kept_block p N.c) c (sym (new_block p s N.b N.c N.block) ∙ ap (slice_get Q.blocks) eb ∙ at_b) in
                let f = ap (first_of Q) eb in let place = N.place in
                let en : new_place (layout_of p N.c) N.n ≡ n = omega (arith, place, f) in
                let new_link : (slotted (layout_of p N.c) N.n N.i).op ≡ Link callee = ap (λ (j : Instr). j.op) (sym N.is) ∙ op in
                let K : KeptAt p N.c N.n = pair_not N.c N.n N.i N.instr (ap is_pair new_link) in
                let link : N.i.op ≡ Link callee = sym (K.op (N.i).op) ∙ new_link in
                let shape = ((s.program.blocks N.b N.c N.block).instrs N.n N.i N.instr).shape in
                let o = one_element N.i.firsts (shape_one N.i.op (length N.i.firsts) (length N.i.seconds) (ap is_answered link) shape) in
                let first : slice_get (dests_of N.i false) 0 ≡ Some o.0 = ap (λ (l : List Dest). slice_get l 0) o.1 in
                let sole = keeps_sole p N.c (spares p s N.b N.c N.block) N.n N.i o.0 N.instr o.1 (λ z e. no_link_lit callee z (sym link ∙ e)) in
                let same_d : d ≡ new_dest (layout_of p N.c) N.n (N.n + (o.0).ahead) (o.0).port =
                one_same d (new_dest (layout_of p N.c) N.n (N.n + (o.0).ahead) (o.0).port) (sym lands ∙ ap (λ (j : Instr). j.firsts) N.is ∙ sole) in
                let low = inside p s N.b N.c N.block N.n 0 N.i false o.0 N.instr first in
                let more = ahead p s N.b N.c N.block N.n 0 N.i false o.0 N.instr first in
                let up = keeps_order p N.c N.n (N.n + (o.0).ahead) (omega (arith, more)) low N.stay in
                let ad = ap (λ (d : Dest). d.ahead) same_d in
                let room = tidy.landings N.b N.n N.c N.i o.0 callee N.block N.instr link o.1 in
                let lm = same_landings callee in
                let len = ap (λ (c : CodeBlock). length c.instrs) ec in
                let rest = row N o.0 (landing p callee) refl link first room low
                (sole_plain p N.c (spares p s N.b N.c N.block) N.n N.i o.0 N.instr o.1 (λ z e. no_link_lit callee z (sym link ∙ e)) low) in
                omega (arith, en, up, ad, lm, len, rest)
              where
                one_same : (d e : Dest) → d ∷ [] ≡ e ∷ [] → d ≡ e
                one_same d e k = cc

                row : (N : NewAt p s (first_of Q b + n) i) (e : Dest) (k : ℕ) → landing p callee ≡ k → N.i.op ≡ Link callee
                    → slice_get (dests_of N.i false) 0 ≡ Some e → N.n + e.ahead + landing p callee ≤ length N.c.instrs → N.n + e.ahead < length N.c.instrs
                    → PlainAt p N.c (N.n + e.ahead)
                    → new_place (layout_of p N.c) (N.n + e.ahead) + landing p callee ≤ length (kept_block p N.c).instrs
                row N e zero none link first room low K =
                    let t = get_some N.c.instrs (N.n + e.ahead) low in
                    let w = new_within p s N.b N.c N.block (N.n + e.ahead) t.0 t.1 (stays p N.c (N.n + e.ahead) t.0 t.1 K.unused) in
                    omega (arith, none, w)
                row N e (suc k) some link first room low K =
                    let inside_last : N.n + e.ahead + k < length N.c.instrs = omega (arith, some, room) in
                    let r = keeps_landings p N.c N.n 0 k callee N.i e N.instr link first (omega (arith, some)) inside_last in
                    let t = get_some N.c.instrs (N.n + e.ahead + k) inside_last in
                    let w = new_within p s N.b N.c N.block (N.n + e.ahead + k) t.0 t.1 r.0 in
                    let moves = r.1 in
                    omega (arith, w, moves, some)

        ones : (b n : ℕ) (c : CodeBlock) (i : Instr) (d : Dest) → slice_get Q.blocks b ≡ Some c → slice_get c.instrs n ≡ Some i
            → Contains (plain_dests i i.op) d → often (instr_at Q (first_of Q b + n + d.ahead)) ≡ false
        ones b n c i d at_b at named = by (new_at p s (first_of Q b + n) i (instr_in Q.blocks b n c at_b (slice_get_within c.instrs n i at) ∙ at))
          where
            by : NewAt p s (first_of Q b + n) i → often (instr_at Q (first_of Q b + n + d.ahead)) ≡ false
            by N =
                let j : Instr = slotted (layout_of p N.c) N.n N.i in
                let R = plain_back N.c N.n N.i d N.i.op j.op refl refl (λ b e. link_new N.c N.n N.i N.instr b e)
                (subst (λ (j : Instr). Contains (plain_dests j j.op) d) N.is named) in
                ap (λ (x : ℕ). often (instr_at Q (x + d.ahead))) N.place ∙ dest_lone N.b N.c N.block N.n N.i N.instr N.stay d R.0 R.1
