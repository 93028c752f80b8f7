-- Which instructions stand for themselves in the folded code, where they are, and that no two are at one place.
use Rattle.std.proofs.Common.{◌≡◌, refl, sym, ap, ◌∙◌, subst, ℕ, ℤ, ◌+◌, ◌<◌, ◌≤◌, ◌⊎◌, inl, inr, Bool, true, false, true≢false, List, [], ◌∷◌, ◌++◌, length}
use Rattle.std.proofs.Common.{Some, None, Contains, if◌then◌else◌, arith}
use Rattle.std.specs.Prelude.{slice_get, ◌&&◌, not}
use Rattle.std.proofs.lemmas.Bool.{cases_lt}
use Rattle.std.proofs.lemmas.List.Elements.{Contains-append_cases}
use Rattle.std.proofs.lemmas.Option.{slice_get_within, same_Some}
use Rattle.lemmas.proofs.Contains.{contains_get}
use Rattle.semantics.specs.Program.{Instr, CodeBlock, Program, first_of, instr_at}
use Rattle.semantics.specs.Plan.{Plan}
use Rattle.semantics.specs.Orderly.{same_block}
use Rattle.code.specs.Sound.{IsSound}
use Rattle.law_reuse.proofs.SlotsPlaced.{one_block, Found, found}
use Rattle.law_reuse.proofs.SlotsPlaced as Places
use Rattle.law_reuse.proofs.SlotsClaims.{holder_here}
use Rattle.semantics.specs.Holders.{holder_of, holder_at}
use Rattle.operators.specs.declared.Binary.{Binary}
use Rattle.semantics.specs.declared.program.Dest.{Dest}
use Rattle.semantics.specs.declared.program.Op.TheVariants.{Apply2, Lit}
use Rattle.semantics.proofs.BlockPlaces.{first_in, same_in}
use Rattle.folding.specs.Folds.{is_folded}
use Rattle.folding.specs.Places.{layout_of, folds_at, gone_at, new_place}
use Rattle.folding.specs.Moved.{is_shut, new_dest, moved_dests}
use Rattle.folding.specs.Laws.{dests_of}
use Rattle.folding.proofs.Standing.{keeps_order, stands_at, comes_from}
use Rattle.folding.proofs.Taken.{leaves_out}
use Rattle.folding.proofs.SoundLists.{moved_back}
use Rattle.folding.proofs.Pairs.{closed_uses}
use Rattle.folding.proofs.Cases.{KeptAt, FoldCase, is_kept, is_right, is_left, fold_cases}
use Rattle.folding.proofs.Plain.{PlainAt}
use Rattle.law_passes.specs.Kept.{slotted, kept_block, kept_slots}
use Rattle.law_passes.proofs.KeptClosed.{gone_some}
use Rattle.law_passes.proofs.KeptNumbering.{is_nil, plain_at, place_ip, word_ip, new_ip, plain_ip, end_of, plain_is, none_at_end, places_meet}
use Rattle.law_passes.proofs.KeptPlaces.{new_block, ahead, inside, there_old, there_new, g_at, h_at}
use Rattle.law_passes.proofs.KeptBlocks.{kept_back}
use Rattle.law_simulation.specs.Simulates.{Fresh, Plain, empty, itself}
use Rattle.law_simulation.proofs.SimulationTraces.{slot_same}

pub plain_parts : (a b : Bool) → (not a && b) ≡ true → (a ≡ false) × (b ≡ true)
plain_parts true b e = absurd (true≢false (sym e))
plain_parts false b e = (refl, e)

pub nil_is : (xs : List ℕ) → is_nil xs ≡ true → xs ≡ []
nil_is [] e = refl
nil_is (x ∷ xs) e = absurd (true≢false (sym e))

module _ (p : Plan) (c : CodeBlock) where
  pub stays : (n : ℕ) (i : Instr) → slice_get c.instrs n ≡ Some i → closed_uses p c n ≡ [] → gone_at (layout_of p c) n ≡ false
  stays n i at none = go (gone_at (layout_of p c) n) refl
    where
      go : (t : Bool) → gone_at (layout_of p c) n ≡ t → gone_at (layout_of p c) n ≡ false
      go false e = e
      go true e = absurd (gone_some p c n i at e none)

  pub kept_of : (n : ℕ) → is_folded (folds_at (layout_of p c) n) ≡ false → KeptAt p c n
  kept_of n off = go (fold_cases p c n)
    where
      go : FoldCase p c n → KeptAt p c n
      go (is_kept K) = K
      go (is_right (D, op)) = absurd (true≢false (sym D.folded ∙ off))
      go (is_left (D, op)) = absurd (true≢false (sym D.folded ∙ off))

  pub plain_of : (n : ℕ) → plain_at p c n ≡ true → PlainAt p c n
  plain_of n e =
      let k = plain_parts (is_folded (folds_at (layout_of p c) n)) (is_nil (closed_uses p c n)) e in
      record { folded = k.0; unused = nil_is (closed_uses p c n) k.1 }

  -- two that stay have two places
  pub place_apart : (m n : ℕ) (i j : Instr) → slice_get c.instrs m ≡ Some i → slice_get c.instrs n ≡ Some j → gone_at (layout_of p c) m ≡ false
      → gone_at (layout_of p c) n ≡ false
      → new_place (layout_of p c) m ≡ new_place (layout_of p c) n → m ≡ n
  place_apart m n i j at there stay stays e = pick (cases_lt m n) (cases_lt n m)
    where
      pick : (m < n) ⊎ (n ≤ m) → (n < m) ⊎ (m ≤ n) → m ≡ n
      pick (inl less) o = let k = keeps_order p c m n less (slice_get_within c.instrs n j there) stay in absurd (omega (arith, k, e))
      pick (inr low) (inl less) = let k = keeps_order p c n m less (slice_get_within c.instrs m i at) stays in absurd (omega (arith, k, e))
      pick (inr low) (inr high) = omega (arith, low, high)

-- where there is nothing
pub not_plain : (p : Plan) (a : ℕ) → plain_ip p p.program.blocks a ≡ false → instr_at (kept_slots p).program (word_ip p a) ≡ None
not_plain p a e =
    ap (λ (t : Bool). instr_at (kept_slots p).program (if t then new_ip p p.program.blocks a else end_of (kept_slots p).program.blocks)) e
    ∙ none_at_end (kept_slots p).program.blocks

module _ (p : Plan) (s : IsSound p) where
  abbrev P : Program
  P = p.program

  abbrev Q : Program
  Q = (kept_slots p).program

  abbrev h : ℕ → ℕ
  h = word_ip p

  module _ (b : ℕ) (c : CodeBlock) (at_b : slice_get P.blocks b ≡ Some c) where
    pub plain_at_h : (n : ℕ) → n < length c.instrs → PlainAt p c n → h (first_of P b + n) ≡ first_of Q b + new_place (layout_of p c) n
    plain_at_h n low K = h_at p s b c at_b n low K.folded K.unused

    -- what is there
    pub plain_there : (n : ℕ) (i : Instr) → slice_get c.instrs n ≡ Some i → PlainAt p c n
        → instr_at Q (h (first_of P b + n)) ≡ Some (slotted (layout_of p c) n i)
    plain_there n i at K = ap (instr_at Q) (plain_at_h n (slice_get_within c.instrs n i at) K) ∙ there_new p s b c at_b n i at (stays p c n i at K.unused)

    pub plain_here : (n : ℕ) (i : Instr) → slice_get c.instrs n ≡ Some i → PlainAt p c n → Plain P Q h (first_of P b + n)
    plain_here n i at K = itself i (slotted (layout_of p c) n i) (there_old p s b c at_b n i at) (plain_there n i at K)

    pub new_within : (n : ℕ) (i : Instr) → slice_get c.instrs n ≡ Some i → gone_at (layout_of p c) n ≡ false
        → new_place (layout_of p c) n < length (kept_block p c).instrs
    new_within n i at stay =
        slice_get_within (kept_block p c).instrs (new_place (layout_of p c) n) (slotted (layout_of p c) n i)
        (stands_at p c (slotted (layout_of p c)) n i at stay)

  -- an instruction that stands for itself
  pub record At (a : ℕ) : Type 0 where
    pub b : ℕ
    pub n : ℕ
    pub c : CodeBlock
    pub i : Instr
    pub block : slice_get P.blocks b ≡ Some c
    pub instr : slice_get c.instrs n ≡ Some i
    pub plain : PlainAt p c n
    pub place : a ≡ first_of P b + n
    pub moved : h a ≡ first_of Q b + new_place (layout_of p c) n

  some_none : (i : Instr) → Some i ≡ None → ⊥
  some_none i e = cc

  pub at_of : (a : ℕ) → Plain P Q h a → At a
  at_of a (empty none none_new apart) = absurd (places_meet p apart)
  at_of a (itself i j old new) = go (found P a i old)
    where
      go : Found P a i → At a
      go N =
          let low = slice_get_within N.stands.code.instrs N.n i N.stands.instr in
          let is : plain_ip p P.blocks a ≡ plain_at p N.stands.code N.n = ap (plain_ip p P.blocks) N.place
          ∙ plain_is p P.blocks N.b N.n N.stands.code N.stands.block low in
          pick (plain_at p N.stands.code N.n) refl is
        where
          pick : (t : Bool) → plain_at p N.stands.code N.n ≡ t → plain_ip p P.blocks a ≡ plain_at p N.stands.code N.n → At a
          pick true t is =
              let k = plain_of p N.stands.code N.n t in
              record {
                b = N.b;
                n = N.n;
                c = N.stands.code;
                i = i;
                block = N.stands.block;
                instr = N.stands.instr;
                plain = k;
                place = N.place;
                moved = ap h N.place ∙ plain_at_h N.b N.stands.code N.stands.block N.n (slice_get_within N.stands.code.instrs N.n i N.stands.instr) k;
              }
          pick false t is = absurd (some_none j (sym new ∙ not_plain p a (is ∙ t)))

  -- two that stay are at one place only if they are one
  pub record Same (b b2 n n2 : ℕ) (c c2 : CodeBlock) : Type 0 where
    pub block : b ≡ b2
    pub code : c ≡ c2
    pub number : n ≡ n2

  pub same_place : (b b2 n n2 : ℕ) (c c2 : CodeBlock) (i i2 : Instr) → slice_get P.blocks b ≡ Some c → slice_get P.blocks b2 ≡ Some c2
      → slice_get c.instrs n ≡ Some i → slice_get c2.instrs n2 ≡ Some i2
      → gone_at (layout_of p c) n ≡ false → gone_at (layout_of p c2) n2 ≡ false
      → first_of Q b + new_place (layout_of p c) n ≡ first_of Q b2 + new_place (layout_of p c2) n2 → Same b b2 n n2 c c2
  same_place b b2 n n2 c c2 i i2 at_b at_b2 at at2 stay stay2 e =
      let low = new_within b c at_b n i at stay in
      let low2 = new_within b2 c2 at_b2 n2 i2 at2 stay2 in
      let one : same_block Q.blocks (first_in Q.blocks b + new_place (layout_of p c) n) (first_in Q.blocks b2 + new_place (layout_of p c2) n2) ≡ true =
      subst (λ (x : ℕ). same_block Q.blocks (first_in Q.blocks b + new_place (layout_of p c) n) x ≡ true) e
      (same_in Q.blocks b (new_place (layout_of p c) n) (new_place (layout_of p c) n) (kept_block p c) (new_block p s b c at_b) low low) in
      let eb : b ≡ b2 = one_block Q.blocks b b2 (new_place (layout_of p c) n) (new_place (layout_of p c2) n2) (kept_block p c) (kept_block p c2)
      (new_block p s b c at_b) (new_block p s b2 c2 at_b2) low low2 one in
      let ec : c ≡ c2 = same_Some c c2 (sym at_b ∙ ap (slice_get P.blocks) eb ∙ at_b2) in
      let f = ap (first_of Q) eb in
      let l2 = ap (λ (c : CodeBlock). new_place (layout_of p c) n2) ec in
      let en : n ≡ n2 =
      place_apart p c n n2 i i2 at (subst (λ (c : CodeBlock). slice_get c.instrs n2 ≡ Some i2) (sym ec) at2) stay
      (subst (λ (c : CodeBlock). gone_at (layout_of p c) n2 ≡ false) (sym ec) stay2) (omega (arith, e, f, l2)) in
      record { block = eb; code = ec; number = en }

  -- what stands for itself is not where something else is,
  pub fresh_at : (b : ℕ) (c : CodeBlock) (at_b : slice_get P.blocks b ≡ Some c) (n : ℕ) (i : Instr) → slice_get c.instrs n ≡ Some i
      → gone_at (layout_of p c) n ≡ false → plain_at p c n ≡ false
      → Fresh P Q h (first_of Q b + new_place (layout_of p c) n)
  fresh_at b c at_b n i at stay other x K e =
      let A : At x = at_of x K in
      let S : Same b A.b n A.n c A.c = same_place b A.b n A.n c A.c i A.i at_b A.block at A.instr stay (stays p A.c A.n A.i A.instr A.plain.unused)
      (e ∙ A.moved) in
      let is : plain_at p A.c A.n ≡ true = (λ k. not (A.plain.folded k) && is_nil (A.plain.unused k)) in
      true≢false (sym is ∙ (λ k. plain_at p (sym S.code k) (sym S.number k)) ∙ other)

  -- nor is what is not plain where it was
  pub plain_only : (b : ℕ) (c : CodeBlock) (at_b : slice_get P.blocks b ≡ Some c) (n : ℕ) → n < length c.instrs → Plain P Q h (first_of P b + n)
      → plain_at p c n ≡ true
  plain_only b c at_b n low K =
      let A : At (first_of P b + n) = at_of (first_of P b + n) K in
      let low2 = slice_get_within A.c.instrs A.n A.i A.instr in
      let one : same_block P.blocks (first_in P.blocks b + n) (first_in P.blocks A.b + A.n) ≡ true =
      subst (λ (x : ℕ). same_block P.blocks (first_in P.blocks b + n) x ≡ true) A.place (same_in P.blocks b n n c at_b low low) in
      let eb : b ≡ A.b = one_block P.blocks b A.b n A.n c A.c at_b A.block low low2 one in
      let ec : c ≡ A.c = same_Some c A.c (sym at_b ∙ ap (slice_get P.blocks) eb ∙ A.block) in
      let f = ap (first_of P) eb in let place = A.place in
      let en : n ≡ A.n = omega (arith, place, f) in
      (λ k. plain_at p (ec k) (en k)) ∙ (λ k. not (A.plain.folded k) && is_nil (A.plain.unused k))

  -- and no two such are at one place
  pub plain_apart : (a x : ℕ) → Plain P Q h a → Plain P Q h x → h a ≡ h x → a ≡ x
  plain_apart a x K L e =
      let A : At a = at_of a K in
      let B : At x = at_of x L in
      let S : Same A.b B.b A.n B.n A.c B.c =
      same_place A.b B.b A.n B.n A.c B.c A.i B.i A.block B.block A.instr B.instr (stays p A.c A.n A.i A.instr A.plain.unused)
      (stays p B.c B.n B.i B.instr B.plain.unused) (sym A.moved ∙ e ∙ B.moved) in
      A.place ∙ (λ k. first_of P (S.block k) + S.number k) ∙ sym B.place

  -- each has its holder
  pub plain_holders : (a : ℕ) → Plain P Q h a → holder_at (kept_slots p) (h a) ≡ holder_at p a
  plain_holders a K =
      let A : At a = at_of a K in
      let j : Instr = slotted (layout_of p A.c) A.n A.i in
      let old : Places.IsPlaced P A.b A.n A.i = record { code = A.c; block = A.block; instr = A.instr } in
      let new : Places.IsPlaced Q A.b (new_place (layout_of p A.c) A.n) j =
      record {
        code = kept_block p A.c;
        block = new_block p s A.b A.c A.block;
        instr = stands_at p A.c (slotted (layout_of p A.c)) A.n A.i A.instr (stays p A.c A.n A.i A.instr A.plain.unused);
      } in
      ap (holder_at (kept_slots p)) A.moved ∙ holder_here (kept_slots p) A.b (new_place (layout_of p A.c) A.n) j new
      ∙ ap (holder_of A.b) (slot_same A.i j ((kept_of p A.c A.n A.plain.folded).op (A.i).op) refl) ∙ sym (holder_here p A.b A.n A.i old)
      ∙ ap (holder_at p) (sym A.place)

  pub apply_stays : (c : CodeBlock) (n : ℕ) (i : Instr) (o : Binary) → slice_get c.instrs n ≡ Some i → i.op ≡ Apply2 o → gone_at (layout_of p c) n ≡ false
  apply_stays c n i o at op = go (gone_at (layout_of p c) n) refl
    where
      apart : (z : ℤ) → Apply2 o ≡ Lit z → ⊥
      apart z e = cc

      go : (t : Bool) → gone_at (layout_of p c) n ≡ t → gone_at (layout_of p c) n ≡ false
      go false e = e
      go true e = let l = (leaves_out p c n i at e).literal in absurd (apart l.0 (sym op ∙ l.1))

  -- no two operators are at one place
  pub pairs_apart : (a x : ℕ) (i k j : Instr) (o u : Binary) → instr_at P a ≡ Some i → instr_at P x ≡ Some k → i.op ≡ Apply2 o → k.op ≡ Apply2 u
      → instr_at Q (place_ip p a) ≡ Some j → place_ip p a ≡ place_ip p x → a ≡ x
  pairs_apart a x i k j o u at_a at_x op op2 there e = go (found P a i at_a) (found P x k at_x)
    where
      go : Found P a i → Found P x k → a ≡ x
      go M N =
          let one : place_ip p a ≡ first_of Q M.b + new_place (layout_of p M.stands.code) M.n = ap (place_ip p) M.place
          ∙ g_at p s M.b M.stands.code M.stands.block M.n (slice_get_within M.stands.code.instrs M.n i M.stands.instr) in
          let two : place_ip p x ≡ first_of Q N.b + new_place (layout_of p N.stands.code) N.n = ap (place_ip p) N.place
          ∙ g_at p s N.b N.stands.code N.stands.block N.n (slice_get_within N.stands.code.instrs N.n k N.stands.instr) in
          let S : Same M.b N.b M.n N.n M.stands.code N.stands.code =
          same_place M.b N.b M.n N.n M.stands.code N.stands.code i k M.stands.block N.stands.block M.stands.instr N.stands.instr
          (apply_stays M.stands.code M.n i o M.stands.instr op) (apply_stays N.stands.code N.n k u N.stands.instr op2)
          (sym one ∙ e ∙ two) in
          M.place ∙ (λ v. first_of P (S.block v) + S.number v) ∙ sym N.place

  -- ---- WHAT IS IN THE NEW CODE
  pub record NewAt (ip : ℕ) (j : Instr) : Type 0 where
    pub b : ℕ
    pub n : ℕ
    pub c : CodeBlock
    pub i : Instr
    pub block : slice_get P.blocks b ≡ Some c
    pub instr : slice_get c.instrs n ≡ Some i
    pub stay : gone_at (layout_of p c) n ≡ false
    pub place : ip ≡ first_of Q b + new_place (layout_of p c) n
    pub is : j ≡ slotted (layout_of p c) n i

  pub new_at : (ip : ℕ) (j : Instr) → instr_at Q ip ≡ Some j → NewAt ip j
  new_at ip j at = go (found Q ip j at)
    where
      go : Found Q ip j → NewAt ip j
      go N =
          let B = kept_back p P.blocks N.b N.stands.code N.stands.block in
          let o = comes_from p B.0 (slotted (layout_of p B.0)) N.n j (ap (λ (c : CodeBlock). slice_get c.instrs N.n) B.2 ∙ N.stands.instr) in
          record {
            b = N.b;
            n = o.0;
            c = B.0;
            i = o.1;
            block = B.1;
            instr = o.2;
            stay = o.3;
            place = N.place ∙ ap (λ (n : ℕ). first_of Q N.b + n) (sym o.4);
            is = o.5;
          }

  -- a destination of it
  pub record DestAt (c : CodeBlock) (n : ℕ) (i : Instr) (d : Dest) : Type 0 where
    pub side : Bool
    pub k : ℕ
    pub old : Dest
    pub named : slice_get (dests_of i side) k ≡ Some old
    pub shut : is_shut (layout_of p c) (n + old.ahead) old.port ≡ false
    pub is : d ≡ new_dest (layout_of p c) n (n + old.ahead) old.port

  pub dest_of : (c : CodeBlock) (n : ℕ) (i : Instr) (d : Dest) → Contains ((slotted (layout_of p c) n i).firsts ++ (slotted (layout_of p c) n i).seconds) d
      → DestAt c n i d
  dest_of c n i d inside = go (Contains-append_cases (moved_dests (layout_of p c) n i.firsts) (moved_dests (layout_of p c) n i.seconds) d inside)
    where
      by : (side : Bool) → Contains (moved_dests (layout_of p c) n (dests_of i side)) d → DestAt c n i d
      by side k =
          let o = moved_back (layout_of p c) n (dests_of i side) d k in let g = contains_get (dests_of i side) o.0 o.1 in
          record { side = side; k = g.0; old = o.0; named = g.1; shut = o.2; is = o.3 }

      go : Contains (moved_dests (layout_of p c) n i.firsts) d ⊎ Contains (moved_dests (layout_of p c) n i.seconds) d → DestAt c n i d
      go (inl k) = by false k
      go (inr k) = by true k

  -- it lies ahead, where the old one leads
  pub dest_place : (b : ℕ) (c : CodeBlock) (at_b : slice_get P.blocks b ≡ Some c) (n : ℕ) (i : Instr) (at : slice_get c.instrs n ≡ Some i)
      → gone_at (layout_of p c) n ≡ false → (d : Dest) (D : DestAt c n i d)
      → (0 < d.ahead) × (new_place (layout_of p c) n + d.ahead ≡ new_place (layout_of p c) (n + D.old.ahead))
  dest_place b c at_b n i at stay d D =
      let more = ahead p s b c at_b n D.k i D.side D.old at D.named in
      let low = inside p s b c at_b n D.k i D.side D.old at D.named in
      let up = keeps_order p c n (n + D.old.ahead) (omega (arith, more)) low stay in
      let e = ap (λ (d : Dest). d.ahead) D.is in
      (omega (arith, up, e), omega (arith, up, e))

  pub later : (ip : ℕ) (j : Instr) (d : Dest) → instr_at Q ip ≡ Some j → Contains (j.firsts ++ j.seconds) d → 0 < d.ahead
  later ip j d at k =
      let N : NewAt ip j = new_at ip j at in
      let D : DestAt N.c N.n N.i d = dest_of N.c N.n N.i d (subst (λ (j : Instr). Contains (j.firsts ++ j.seconds) d) N.is k) in
      (dest_place N.b N.c N.block N.n N.i N.instr N.stay d D).0
