-- What a plan that is another one with copies inserted says of single instructions and landings.
use Rattle.std.proofs.Common.{◌≡◌, refl, sym, ap, ◌∙◌, subst, ℕ, ◌+◌, ◌<◌, Bool, true, List, [], ◌∷◌, length, Option, Some, None, arith}
use Rattle.std.specs.Prelude.{slice_get, false}
use Rattle.std.proofs.lemmas.Option.{slice_get_within, same_Some}
use Rattle.lemmas.proofs.Contains.{contains_head}
use Rattle.lemmas.proofs.SliceGet.{get_some}
use Rattle.tags.specs.declared.token.Port.TheVariants.{Left}
use Rattle.semantics.specs.declared.program.Dest.{Dest}
use Rattle.semantics.specs.declared.program.Op.{Op}
use Rattle.semantics.specs.declared.program.Op.TheVariants.{Copy, Give, Take}
use Rattle.semantics.specs.Program.{Instr, CodeBlock, Program, first_of, instr_at}
use Rattle.semantics.specs.Plan.{Plan}
use Rattle.semantics.specs.Orderly.{same_block, often}
use Rattle.semantics.proofs.BlockPlaces.{same_in}
use Rattle.law_reuse.proofs.SlotsPlaced.{instr_in, IsPlaced, stands_at, stands_block, stands_within, Found, found}
use Rattle.law_fresh_frames.proofs.FreshParts.{one_part}
use Rattle.law_fresh_frames.specs.Alike.{HasLanding}
use Rattle.law_passes.specs.Spreads.{Replaces, here, fork, IsMoved, Spreads}
use Rattle.law_simulation.specs.Places.{Spot, is_answered}

-- what is beyond the beginning of a landing stays so far beyond it
pub row_stays : (p q : Plan) (S : Spreads p q) (base o : ℕ) → HasLanding p base o → S.h (base + o) ≡ S.h base + o
row_stays p q S base o L =
    let a : ℕ = first_of p.program L.b + L.n in
    let at : instr_at p.program a ≡ Some L.i = instr_in p.program.blocks L.b L.n L.c L.block (slice_get_within L.c.instrs L.n L.i L.instr) ∙ L.instr in
    let begins = L.begins in
    let e : a + L.d.ahead ≡ base = omega (arith, begins) in
    subst (λ (n : ℕ). S.h (n + o) ≡ S.h n + o) e (S.rows a L.callee o L.i L.d at L.links L.lands L.within)

module _ (p q : Plan) (S : Spreads p q) where
  abbrev P : Program
  P = p.program

  abbrev Q : Program
  Q = q.program

  abbrev h : ℕ → ℕ
  h = S.h

  op_often : (i j : Instr) → j.op ≡ i.op → often (Some j) ≡ often (Some i)
  op_often i j e = ap (λ (op : Op). elim op as (λ x. Bool) [ Give k ↦ true | Take k ↦ true | _ ↦ false ]) e

  -- an instruction is as often asked in its new place
  pub often_kept : (a : ℕ) (i : Instr) → instr_at p.program a ≡ Some i → often (instr_at q.program (h a)) ≡ often (instr_at p.program a)
  often_kept a i at = let M = S.instrs a i at in ap often M.there ∙ op_often i M.j M.op ∙ sym (ap often at)

  pub often_moved : (a : ℕ) → often (instr_at q.program (h a)) ≡ false → often (instr_at p.program a) ≡ false
  often_moved a none = go (instr_at p.program a) refl
    where
      go : (o : Option Instr) → instr_at p.program a ≡ o → often (instr_at p.program a) ≡ false
      go None at = ap often at
      go (Some i) at = sym (often_kept a i at) ∙ none

  -- what is no copy is a moved instruction
  pub comes_back : (ip : ℕ) (j : Instr) → instr_at Q ip ≡ Some j → (j.op ≡ Copy → ⊥) → (a : ℕ) × (ip ≡ h a)
  comes_back ip j at other = let k = S.all ip j at in go k.0 k.1
    where
      go : (zs : List Spot) → Replaces Q h ip Left zs → (a : ℕ) × (ip ≡ h a)
      go zs (here n r ys a e one) = (a, e)
      go zs (fork n r ys us vs K left su sv one) = absurd (other (ap (λ (i : Instr). i.op) (same_Some j K.i (sym at ∙ K.there)) ∙ K.copies))

  -- the place of a landing's link
  abbrev link_of : (base o : ℕ) → HasLanding p base o → ℕ
  link_of base o L = first_of P L.b + L.n

  link_at : (base o : ℕ) (L : HasLanding p base o) → instr_at P (link_of base o L) ≡ Some L.i
  link_at base o L = instr_in P.blocks L.b L.n L.c L.block (slice_get_within L.c.instrs L.n L.i L.instr) ∙ L.instr

  -- in its new place the link has its landing as far ahead, and in its block
  pub landing_inside : (base o : ℕ) (L : HasLanding p base o) (b n : ℕ) (j : Instr) (e : Dest) (stands : IsPlaced Q b n j)
      → h (link_of base o L) ≡ first_of Q b + n → j.firsts ≡ e ∷ []
      → (h base ≡ h (link_of base o L) + e.ahead) × (n + e.ahead + o < length stands.code.instrs)
  landing_inside base o L b n j e stands at_link lands =
      let a : ℕ = link_of base o L in
      let to : ℕ = first_of P L.b + (L.n + L.d.ahead + o) in
      let M : IsMoved P Q h a L.i = S.instrs a L.i (link_at base o L) in
      let A = M.answered (ap is_answered L.links) in
      let d_same : A.0 ≡ L.d = one_part A.0 L.d (sym A.2 ∙ L.lands) in
      let j_same : M.j ≡ j = same_Some M.j j (sym M.there ∙ ap (instr_at Q) at_link ∙ stands_at Q b n j stands) in
      let e_same : A.1 ≡ e = one_part A.1 e (sym A.3 ∙ ap (λ (j : Instr). j.firsts) j_same ∙ lands) in
      let k = get_some L.c.instrs (L.n + L.d.ahead + o) L.inside in
      let at_k : instr_at P to ≡ Some k.0 = instr_in P.blocks L.b (L.n + L.d.ahead + o) L.c L.block L.inside ∙ k.1 in
      let begins = L.begins in
      let place : to ≡ base + o = omega (arith, begins) in
      let MK = S.instrs to k.0 at_k in
      let FK : Found Q (h to) MK.j = found Q (h to) MK.j MK.there in
      let b_same : same_block Q.blocks (h a) (h to) ≡ true =
      S.blocks (h a) (h to) Left Left ((a, Left) ∷ []) ((to, Left) ∷ []) (a, Left) (to, Left) (here (h a) Left ((a, Left) ∷ []) a refl refl)
      (here (h to) Left ((to, Left) ∷ []) to refl refl) (contains_head (a, Left) []) (contains_head (to, Left) [])
      (same_in P.blocks L.b L.n (L.n + L.d.ahead + o) L.c L.block (slice_get_within L.c.instrs L.n L.i L.instr) L.inside) in
      let eq : b ≡ FK.b = stands_block Q b FK.b n FK.n j MK.j stands FK.stands ((λ t. same_block Q.blocks (sym at_link t) (sym FK.place t)) ∙ b_same) in
      let ends = stands_within Q FK.b FK.n MK.j FK.stands in
      let row = row_stays p q S base o L in
      let goes : h base ≡ h a + A.1.ahead = ap h (let ad = ap (λ (d : Dest). d.ahead) d_same in let z : base ≡ a + A.0.ahead = omega (arith, begins, ad) in z)
      ∙ A.4 in
      let kp = ap h place in let fk = FK.place in let ae = ap (λ (d : Dest). d.ahead) e_same in
      let fo = ap (first_of Q) eq in
      let code : stands.code ≡ FK.stands.code = same_Some stands.code FK.stands.code (sym stands.block ∙ ap (slice_get Q.blocks) eq ∙ FK.stands.block) in
      let len = ap (λ (c : CodeBlock). length c.instrs) code in (omega (arith, goes, ae), omega (arith, ends, len, kp, at_link, fk, fo, goes, row, ae))

  -- so a landing is one in its new place
  pub landing_moved : (base o : ℕ) → HasLanding p base o → HasLanding q (h base) o
  landing_moved base o L =
      let M : IsMoved P Q h (link_of base o L) L.i = S.instrs (link_of base o L) L.i (link_at base o L) in
      let A = M.answered (ap is_answered L.links) in
      let F : Found Q (h (link_of base o L)) M.j = found Q (h (link_of base o L)) M.j M.there in
      let k = landing_inside base o L F.b F.n M.j A.1 F.stands F.place A.3 in
      let goes = k.0 in let place = F.place in let lengths = S.lengths L.callee in let within = L.within in
      record {
        b = F.b;
        n = F.n;
        c = F.stands.code;
        i = M.j;
        d = A.1;
        callee = L.callee;
        block = F.stands.block;
        instr = F.stands.instr;
        links = M.op ∙ L.links;
        lands = A.3;
        begins = omega (arith, goes, place);
        within = omega (arith, within, lengths);
        inside = k.1;
      }
