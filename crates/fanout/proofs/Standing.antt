-- The landing of a link stays in a row.
use Rattle.std.proofs.Common.{◌≡◌, ℕ, zero, suc, ◌+◌, ◌-◌, ◌<◌, Bool, true, false, List, ◌∷◌, length, replicate, sym, ap, ◌∙◌, subst, inl, inr, ◌⊎◌}
use Rattle.std.proofs.Common.{arith, Some, if◌then◌else◌, []}
use Rattle.std.specs.Prelude.{slice_get, Contains}
use Rattle.std.proofs.lemmas.Option.{slice_get_within, same_Some}
use Rattle.lemmas.proofs.Contains.{contains_cases, contains_none}
use Rattle.lemmas.proofs.SliceGet.{get_some}
use Rattle.lemmas.proofs.Lists.{length_of_falses}
use Rattle.semantics.specs.declared.program.Dest.{Dest}
use Rattle.semantics.specs.declared.program.Op.TheVariants.{Link}
use Rattle.semantics.specs.Program.{Instr, CodeBlock}
use Rattle.semantics.specs.Plan.{Plan, landing}
use Rattle.semantics.specs.Wired.{IsInstrAt}
use Rattle.fanout.specs.Sides.{parted, firsts_of, parting_of}
use Rattle.fanout.specs.Rows.{tie, tie_landings, tie_instr, tie_all, is_tied}
use Rattle.fanout.specs.Places.{size, places_from, place_of}
use Rattle.fanout.specs.Laws.{LandingsStay, InstrsStay}
use Rattle.fanout.proofs.Spots.{place_is}
use Rattle.fanout.proofs.Flags.{tie_length, tie_these, landings_keep, all_keeps, instr_length}
use Rattle.fanout.proofs.Plans.{is, ts, l, all, at_place}
use Rattle.fanout.proofs.Arrows.{in_parts}

-- the next instruction is directly after one that is tied to it
place_next : (ts : List Bool) (n before copied : ℕ) (is : List Instr) (v m m' : ℕ) → slice_get (places_from ts n before copied is) v ≡ Some m
    → slice_get (places_from ts n before copied is) (suc v) ≡ Some m' → is_tied ts (n + v) ≡ true → m' ≡ m + 1
place_next ts n before copied [] v m m' e f t = absurd (cc)
place_next ts n before copied (i ∷ []) zero m m' e f t = absurd (cc)
place_next ts n before copied (i ∷ j ∷ is) zero m m' e f t =
    let z : n + 0 ≡ n = omega arith in
    let here : is_tied ts n ≡ true = sym (ap (is_tied ts) z) ∙ t in
    let a = same_Some (n + before) m e in
    let b = same_Some (n + 1 + before) m' (sym (ap (λ (t : Bool). Some (n + 1 + (if t then before else copied + size i))) here) ∙ f) in
    omega (arith, a, b)
place_next ts n before copied (i ∷ is) (suc v) m m' e f t =
    let z : n + 1 + v ≡ n + suc v = omega arith in
    place_next ts (n + 1) (if is_tied ts n then before else copied + size i) (copied + size i) is v m m' e f (ap (is_tied ts) z ∙ t)

-- the instructions of a landing are tied
landings_tie : (ts : List Bool) (n size : ℕ) (ds : List Dest) (d : Dest) (k : ℕ) → Contains ds d → k + 1 < size → n + d.ahead + k < length ts
    → is_tied (tie_landings ts n size ds) (n + d.ahead + k) ≡ true
landings_tie ts n size [] d k h low within = absurd (contains_none d h)
landings_tie ts n size (e ∷ ds) d k h low within = pick (contains_cases e ds d h) (landings_tie (tie ts (n + e.ahead) (size - 1)) n size ds d k)
  where
    len : length (tie ts (n + e.ahead) (size - 1)) ≡ length ts
    len = tie_length ts (n + e.ahead) (size - 1)

    pick : (e ≡ d) ⊎ Contains ds d
        → (Contains ds d → k + 1 < size → n + d.ahead + k < length (tie ts (n + e.ahead) (size - 1))
        → is_tied (tie_landings (tie ts (n + e.ahead) (size - 1)) n size ds) (n + d.ahead + k) ≡ true)
        → is_tied (tie_landings (tie ts (n + e.ahead) (size - 1)) n size ds) (n + d.ahead + k) ≡ true
    pick (inl q) more =
        let a = ap (λ (d : Dest). d.ahead) q in
        landings_keep (tie ts (n + e.ahead) (size - 1)) n size ds (n + d.ahead + k) (tie_these ts (n + e.ahead) (size - 1) (n + d.ahead + k)
        (omega (arith, a)) (omega (arith, a, low)) within)
    pick (inr c) more = more c low (omega (arith, within, len))

instr_ties : (p : Plan) (ts : List Bool) (n t : ℕ) (i : Instr) (d : Dest) (k : ℕ) → i.op ≡ Link t → Contains i.firsts d → k + 1 < landing p t
    → n + d.ahead + k < length ts → is_tied (tie_instr p ts n i i.op) (n + d.ahead + k) ≡ true
instr_ties p ts n t i d k e h low within = ap (λ op. is_tied (tie_instr p ts n i op) (n + d.ahead + k)) e ∙ landings_tie ts n (landing p t) i.firsts d
    k h low within

all_tie : (p : Plan) (ts : List Bool) (from : ℕ) (is : List Instr) (v n t : ℕ) (i : Instr) (d : Dest) (k : ℕ) → slice_get is v ≡ Some i → n ≡ from + v
    → i.op ≡ Link t → Contains i.firsts d → k + 1 < landing p t → n + d.ahead + k < length ts
    → is_tied (tie_all p ts from is) (n + d.ahead + k) ≡ true
all_tie p ts from [] v n t i d k at e o h low within = absurd (cc)
all_tie p ts from (j ∷ is) zero n t i d k at e o h low within =
    let q : j ≡ i = cc in
    let z : n ≡ from = omega (arith, e) in
    all_keeps p (tie_instr p ts from j j.op) (from + 1) is (n + d.ahead + k)
    (subst (λ (j : Instr). is_tied (tie_instr p ts from j j.op) (n + d.ahead + k) ≡ true) (sym q)
    (subst (λ f. is_tied (tie_instr p ts f i i.op) (n + d.ahead + k) ≡ true) z (instr_ties p ts n t i d k o h low within)))
all_tie p ts from (j ∷ is) (suc v) n t i d k at e o h low within =
    let len = instr_length p ts from j j.op in
    all_tie p (tie_instr p ts from j j.op) (from + 1) is v n t i d k at (omega (arith, e)) o h low (omega (arith, within, len))

module _ (p : Plan) (c : CodeBlock) (n t : ℕ) (i : Instr) (d : Dest) (there_i : IsInstrAt c n i) (link : i.op ≡ Link t) (lands : Contains i.firsts d) where
  tied_here : (k : ℕ) → k + 1 < landing p t → n + d.ahead + k < length (is p c) → is_tied (ts p c) (n + d.ahead + k) ≡ true
  tied_here k low within =
      let size = tie_length (replicate (length (is p c)) false) 0 c.inputs in
      let len = length_of_falses (length (is p c)) in
      all_tie p (tie (replicate (length (is p c)) false) 0 c.inputs) 0 (is p c) n n t (parted i) d k (in_parts c n i there_i) (omega arith) link
      (subst (λ ds. Contains ds d) (sym (ap (λ op. firsts_of (parting_of op) i.firsts i.seconds) link)) lands) low (omega (arith, within, size, len))

  stays : (k : ℕ) (j : Instr) → k < landing p t → IsInstrAt c (n + d.ahead + k) j → place_of (l p c) (n + d.ahead + k) ≡ place_of (l p c) (n + d.ahead) + k
  stays zero j low at = let z : n + d.ahead + 0 ≡ n + d.ahead = omega arith in let e = ap (place_of (l p c)) z in omega (arith, e)
  stays (suc k) j low at =
      let within = slice_get_within c.instrs (n + d.ahead + suc k) j at in
      let o = get_some c.instrs (n + d.ahead + k) (omega (arith, within)) in
      let ih = stays k o.0 (omega (arith, low)) o.1 in
      let s : n + d.ahead + suc k ≡ suc (n + d.ahead + k) = omega arith in
      let z : 0 + (n + d.ahead + k) ≡ n + d.ahead + k = omega arith in
      let low_here = slice_get_within (is p c) (n + d.ahead + k) (parted o.0) (in_parts c (n + d.ahead + k) o.0 o.1) in
      let next = place_next (ts p c) 0 0 0 (is p c) (n + d.ahead + k) (place_of (l p c) (n + d.ahead + k)) (place_of (l p c) (suc (n + d.ahead + k)))
      (place_is (ts p c) (is p c) (all p c) (n + d.ahead + k) (parted o.0) (in_parts c (n + d.ahead + k) o.0 o.1))
      (place_is (ts p c) (is p c) (all p c) (suc (n + d.ahead + k)) (parted j) (in_parts c (suc (n + d.ahead + k)) j (sym (ap (slice_get c.instrs) s) ∙ at)))
      (ap (is_tied (ts p c)) z ∙ tied_here k (omega (arith, low)) low_here) in
      let f = ap (place_of (l p c)) s in
      omega (arith, ih, next, f)

pub landings_stay : LandingsStay
landings_stay p n t k c i j d here link lands low at = stays p c n t i d here link lands k j low at

pub instrs_stay : InstrsStay
instrs_stay p c n i e = at_place p c n i e
