-- A narrowed plan is wired: no arc leads to an entry, and a right port is one of an instruction with two operands.
use Rattle.std.proofs.Common.{◌≡◌, ℕ, suc, ◌+◌, ◌<◌, ◌≤◌, Bool, true, false, List, ◌∷◌, ◌++◌, refl, sym, ap, ◌∙◌, inl, inr, ◌⊎◌, arith, true≢false}
use Rattle.std.proofs.Common.{Option, Some, None, if◌then◌else◌, []}
use Rattle.std.specs.Prelude.{slice_get, Contains}
use Rattle.std.proofs.lemmas.Bool.{cases_lt}
use Rattle.std.proofs.lemmas.Option.{slice_get_within}
use Rattle.std.proofs.lemmas.List.Elements.{Contains-append_cases}
use Rattle.lemmas.proofs.Contains.{contains_none}
use Rattle.lemmas.proofs.SliceGet.{map_get_back, get_some}
use Rattle.tags.specs.declared.token.Port.TheVariants.{Left, Right}
use Rattle.semantics.specs.declared.program.Dest.{Dest}
use Rattle.semantics.specs.declared.program.Op.{Op}
use Rattle.semantics.specs.declared.program.Op.TheVariants.{Apply2, Sync, Switch, Store, Send, Return, Ask, Release}
use Rattle.semantics.specs.Program.{Instr, CodeBlock}
use Rattle.semantics.specs.Rule.{slot_of}
use Rattle.semantics.specs.Plan.{Plan, landing, is_credit}
use Rattle.semantics.specs.Sharing.{Arc, Inlet, inlet, arc, arcs_from, arcs_of}
use Rattle.semantics.specs.Wired.{IsInstrAt}
use Rattle.semantics.specs.Wired as Wired
use Rattle.semantics.specs.Bytes as Bytes
use Rattle.semantics.proofs.ArcEnds.{Leads, arcs_from_lead}
use Rattle.fanout.specs.Sides.{parted}
use Rattle.fanout.specs.Rows.{is_tied}
use Rattle.fanout.specs.Places.{size, place_of, base_of}
use Rattle.fanout.specs.Trees.{leaf}
use Rattle.fanout.specs.Narrowed.{narrowed, narrowed_block}
use Rattle.fanout.specs.Laws.{Names, KeepsClear, StaysWired}
use Rattle.fanout.proofs.Positions.{place_low}
use Rattle.fanout.proofs.Spots.{place_is, copy_apart}
use Rattle.fanout.proofs.Flags.{entries_tied, place_tied}
use Rattle.fanout.proofs.Plans.{is, ts, l, all, stays_plan, marks_stay, loops_stay}
use Rattle.fanout.proofs.Arrows.{Known, past, names_all, in_parts, dests_stay}

-- WHAT AN ARC COMES FROM: a destination that its instruction names; it leads there, or further on in a landing
pub record FromDest (c : CodeBlock) (x : Arc) : Type 0 where
  pub n : ℕ
  pub i : Instr
  pub d : Dest
  pub there : IsInstrAt c n i
  pub named : Contains (i.firsts ++ i.seconds) d
  pub to : (x.to ≡ inlet (n + d.ahead) d.port) ⊎ ((x.to.port ≡ Left) × (n + d.ahead ≤ x.to.place))

in_instrs : (q : Plan) (from : ℕ) (is : List Instr) (x : Arc) → Contains (arcs_of q from is) x → (k n : ℕ) × (i : Instr) × (n ≡ from + k)
    × (slice_get is k ≡ Some i) × Leads n (i.firsts ++ i.seconds) x
in_instrs q from [] x h = absurd (contains_none x h)
in_instrs q from (i ∷ is) x h = pick (Contains-append_cases (arcs_from q from i i.op) (arcs_of q (from + 1) is) x h) (in_instrs q (from + 1) is x)
  where
    pick : Contains (arcs_from q from i i.op) x ⊎ Contains (arcs_of q (from + 1) is) x
        → (Contains (arcs_of q (from + 1) is) x → (k n : ℕ) × (j : Instr) × (n ≡ from + 1 + k) × (slice_get is k ≡ Some j) × Leads n (j.firsts ++ j.seconds) x)
        → (k n : ℕ) × (j : Instr) × (n ≡ from + k) × (slice_get (i ∷ is) k ≡ Some j) × Leads n (j.firsts ++ j.seconds) x
    pick (inl m) more = (0, from, i, omega arith, refl, arcs_from_lead q from i i.op x m)
    pick (inr m) more = let r = more m in let e = r.3 in (suc r.0, r.1, r.2, omega (arith, e), r.4, r.5)

from_dest : (q : Plan) (c : CodeBlock) (x : Arc) → Contains (arcs_of q 0 c.instrs) x → FromDest c x
from_dest q c x h =
    let r = in_instrs q 0 c.instrs x h in let e = r.3 in let z : r.0 ≡ r.1 = omega (arith, e) in
    record { n = r.1; i = r.2; d = r.5.0; there = sym (ap (slice_get c.instrs) z) ∙ r.4; named = r.5.1; to = r.5.2 }

-- an instruction whose words meet in a slot has two operands
dyadic_op : (i : Instr) (op : Op) → (elim (slot_of i op) as (λ x. Bool) [ None ↦ false | Some r ↦ if is_credit op then false else true ]) ≡ true
    → Wired.is_dyadic op ≡ true
dyadic_op i (Apply2 op) h = refl
dyadic_op i Sync h = refl
dyadic_op i Switch h = refl
dyadic_op i (Store a) h = refl
dyadic_op i (Send b e) h = refl
dyadic_op i (Return o) h = refl
dyadic_op i (Ask o) h = refl
dyadic_op i (Release o) h = refl
dyadic_op i op h = absurd (true≢false (sym h))

right_there : (c : CodeBlock) (m : ℕ) → Bytes.is_dyadic (slice_get c.instrs m) ≡ true → (i : Instr) × IsInstrAt c m i × (Wired.is_dyadic i.op ≡ true)
right_there c m h = pick (slice_get c.instrs m) refl h
  where
    pick : (o : Option Instr) → slice_get c.instrs m ≡ o → Bytes.is_dyadic o ≡ true → (i : Instr) × IsInstrAt c m i × (Wired.is_dyadic i.op ≡ true)
    pick None e h = absurd (true≢false (sym h))
    pick (Some i) e h = (i, e, dyadic_op i i.op h)

-- NO DESTINATION IS AN ENTRY
module _ (p : Plan) (clear : KeepsClear p) (b : ℕ) (c : CodeBlock) (at_b : slice_get p.program.blocks b ≡ Some c) where
  abbrev Past : ℕ → Dest → Type 0
  Past at d = c.inputs < at + d.ahead

  entry_stays : (k : ℕ) (i : Instr) → slice_get (is p c) k ≡ Some i → k ≤ c.inputs → place_of (l p c) k ≡ k
  entry_stays k i e h =
      let low = slice_get_within (is p c) k i e in
      let m = place_tied (ts p c) 0 0 0 (is p c) k (place_of (l p c) k) (λ j u. let z : 0 + j ≡ j = omega arith in ap (is_tied (ts p c)) z
      ∙ entries_tied p c.inputs (is p c) j (omega (arith, h, u)) (omega (arith, low, u))) (place_is (ts p c) (is p c) (all p c) k i e) in
      omega (arith, m)

  known : (v : ℕ) (i : Instr) → slice_get c.instrs v ≡ Some i → Known p c Past v i
  known v i e = (of_leaf, of_copy)
    where
      here : slice_get (is p c) v ≡ Some (parted i)
      here = in_parts c v i e

      of_leaf : (at : ℕ) (d : Dest) → at < base_of (l p c) v + size (parted i) → Contains (i.firsts ++ i.seconds) d → Past at (leaf (l p c) v at d)
      of_leaf at d low h =
          let n : Names p b v c d = record { i = i; block = at_b; there = e; named = h } in
          let far = past p c v i here (λ d k. clear.rows b v c d (record { i = i; block = at_b; there = e; named = k }))
          (λ d k. clear.dests b v c d (record { i = i; block = at_b; there = e; named = k })) d h in
          let t = v + d.ahead in
          let to = get_some c.instrs t (clear.dests b v c d n).inside in
          let up = place_low (ts p c) 0 0 0 (is p c) t (place_of (l p c) t) (omega arith) (place_is (ts p c) (is p c) (all p c) t (parted to.0)
          (in_parts c t to.0 to.1)) in
          let f = clear.entries b v c d n in
          omega (arith, far, low, up, f)

      of_copy : (at q ahead : ℕ) → at + ahead ≡ base_of (l p c) v + q → 0 < ahead → q < size (parted i) → Past at (record { ahead = ahead; port = Left })
      of_copy at q ahead f some low = pick (cases_lt c.inputs (at + ahead))
        where
          pick : (c.inputs < at + ahead) ⊎ (at + ahead ≤ c.inputs) → c.inputs < at + ahead
          pick (inl h) = h
          pick (inr h) =
              let k = get_some c.instrs (at + ahead) (let u = clear.there b c at_b in omega (arith, u, h)) in
              let g = in_parts c (at + ahead) k.0 k.1 in
              absurd (copy_apart (ts p c) (is p c) (all p c) (at + ahead) v q (parted k.0) (parted i) g here low
              (entry_stays (at + ahead) (parted k.0) g h ∙ f))

  pub past_entries : (n : ℕ) (y : Instr) (d : Dest) → slice_get (narrowed_block p c).instrs n ≡ Some y → Contains (y.firsts ++ y.seconds) d
      → c.inputs < n + d.ahead
  past_entries = names_all p c Past known

pub stays_wired : StaysWired
stays_wired p clear w = record {
  plan = stays_plan p w.plan;
  entries = λ b c x e h. let f = from_dest (narrowed p) c x h in let o = map_get_back (narrowed_block p) p.program.blocks b c e
      in no_entry b c x f o.0 o.1 o.2 f.to;
  rights = λ b c x e h r. let f = from_dest (narrowed p) c x h in right b c x e f r f.to;
  switches = marks_stay p w.switches;
  loops = loops_stay p w.loops;
}
  where
    no_entry : (b : ℕ) (c : CodeBlock) (x : Arc) (f : FromDest c x) (o : CodeBlock) → slice_get p.program.blocks b ≡ Some o → narrowed_block p o ≡ c
        → (x.to ≡ inlet (f.n + f.d.ahead) f.d.port) ⊎ ((x.to.port ≡ Left) × (f.n + f.d.ahead ≤ x.to.place)) → c.inputs < x.to.place
    no_entry b c x f o at same to =
        let i = ap (λ (c : CodeBlock). c.inputs) same in
        let k = past_entries p clear b o at f.n f.i f.d (ap (λ (c : CodeBlock). slice_get c.instrs f.n) same ∙ f.there) f.named in
        by_to (omega (arith, i, k)) to
      where
        by_to : c.inputs < f.n + f.d.ahead → (x.to ≡ inlet (f.n + f.d.ahead) f.d.port) ⊎ ((x.to.port ≡ Left) × (f.n + f.d.ahead ≤ x.to.place))
            → c.inputs < x.to.place
        by_to k (inl e) = let z = ap (λ (x : Inlet). x.place) e in omega (arith, k, z)
        by_to k (inr (e, z)) = omega (arith, k, z)

    right : (b : ℕ) (c : CodeBlock) (x : Arc) → slice_get (narrowed p).program.blocks b ≡ Some c → (f : FromDest c x) → x.to.port ≡ Right
        → (x.to ≡ inlet (f.n + f.d.ahead) f.d.port) ⊎ ((x.to.port ≡ Left) × (f.n + f.d.ahead ≤ x.to.place)) → (i : Instr) × IsInstrAt c x.to.place i
        × (Wired.is_dyadic i.op ≡ true)
    right b c x e f r (inl z) =
        let d = dests_stay p clear.rows clear.dests b f.n c f.d (record { i = f.i; block = e; there = f.there; named = f.named }) in
        right_there c x.to.place (ap (λ (x : Inlet). Bytes.is_dyadic (slice_get c.instrs x.place)) z ∙ d.right (sym (ap (λ (x : Inlet). x.port) z) ∙ r))
    right b c x e f r (inr (z, k)) = absurd (not_both (sym z ∙ r))
      where
        not_both : Left ≡ Right → ⊥
        not_both e = absurd (cc)
