-- The tail of a block: as many returns as outputs, or the turn of an iteration.
use Rattle.std.proofs.Common.{◌≤◌, ◌≡◌, ℕ, zero, suc, ◌+◌, ◌-◌, true, false, List, [], ◌∷◌, ◌++◌, length, replicate, refl, sym, ap, subst, ◌∙◌, arith}
use Rattle.std.proofs.lemmas.List.{append_assoc, append-nil, length-append, length-replicate, replicate-append-replicate}
use Rattle.semantics.specs.declared.graph.Region.{Region}
use Rattle.semantics.specs.declared.graph.Region.TheVariants.{Root, Arm}
use Rattle.semantics.specs.declared.graph.Source.{Source}
use Rattle.semantics.specs.declared.program.Mark.TheVariants.{Unmarked, OfFlag}
use Rattle.semantics.specs.declared.program.Op.{Op}
use Rattle.schemas.specs.declared.tail.Turn.{Turn}
use Rattle.schemas.specs.Builds.{Build, outlet, first_of, second_of, outlet_of, behind, meeting}
use Rattle.schemas.specs.Tails.{returns, switches, next_values, last_values, turned_continuation, turned_flag, turning, turn_of, go_on, stop, turned, iterate}
use Rattle.code_map.specs.declared.part.Part.{Part}
use Rattle.schemas.specs.Blocks.{body}
use Rattle.code_map.specs.Laws.{TailsHaveOwners}
use Rattle.code_map.specs.Parts.{filled, body_parts, output_parts}
use Rattle.code_map.specs.Counts.{Rows, laid, laid_body, laid_outputs, laid_turn}
use Rattle.code_map.proofs.Lengths.{Outlet, Grows, grows_none, grows_then, grows_as, grows_behind, grows_meeting, laid_more, Tracks, tracks_more, tracks_body}

-- OUTPUTS
pub tracks_outputs : (ss : List Source) (from : ℕ) (r : Rows) (b : Build) (ps : List Part) → Tracks r b ps
    → Tracks (laid_outputs r from ss) (returns b from ss) (output_parts ps b from ss)
tracks_outputs [] from r b ps t = t
tracks_outputs (s ∷ ss) from r b ps t =
    let c = returns b from (s ∷ []) in
    tracks_outputs ss (from + 1) (laid r 1 (Part.Output from) Root) c (filled ps c (Part.Output from))
    (tracks_more r b c ps 1 (Part.Output from) Root t (grows_meeting b (Op.Return from) Unmarked Root (first_of 0) (outlet_of b s)))

-- THE TURN
grows_switches : (b c : Build) (k : ℕ) → Grows b k Root c → (flag : Outlet) (ss : List Source) → Grows b (k + length ss) Root (switches c flag ss)
grows_switches b c k x flag [] = grows_as b c k (k + 0) Root (omega arith) x
grows_switches b c k x flag (s ∷ ss) =
    let d = meeting c Op.Switch OfFlag Root (outlet_of c s) flag in
    grows_as b (switches c flag (s ∷ ss)) (k + 1 + length ss) (k + length (s ∷ ss)) Root (omega arith)
    (grows_switches b d (k + 1) (grows_then b c d k 1 Root x (grows_meeting c Op.Switch OfFlag Root (outlet_of c s) flag)) flag ss)

grows_turning : (b : Build) (flag : Outlet) (ss : List Source) → Grows b (1 + 1 + length ss) Root (turning b flag ss)
unfolding turning
grows_turning b flag ss =
    let c = turned_continuation b flag in
    grows_switches b (turned_flag b flag) (1 + 1)
    (grows_then b c (turned_flag b flag) 1 1 Root (grows_meeting b Op.Switch OfFlag Root (first_of 0) flag) (grows_meeting c Op.Switch OfFlag Root flag flag))
    flag ss

grows_next : (b : Build) (f : ℕ) (r : Region) (frame : Outlet) (values n : ℕ) → Grows b n r (next_values b f r frame values n)
grows_next b f r frame values zero = grows_none b r
grows_next b f r frame values (suc n) =
    let c = next_values b f r frame values n in
    grows_as b (next_values b f r frame values (suc n)) (n + 1) (suc n) r (omega arith)
    (grows_then b c (next_values b f r frame values (suc n)) n 1 r (grows_next b f r frame values n)
    (grows_meeting c (Op.Send f (n + 1)) Unmarked r frame (outlet values n false)))

grows_last : (b : Build) (r : Region) (continuation : Outlet) (values n : ℕ) → Grows b n r (last_values b r continuation values n)
grows_last b r continuation values zero = grows_none b r
grows_last b r continuation values (suc n) =
    let c = last_values b r continuation values n in
    grows_as b (last_values b r continuation values (suc n)) (n + 1) (suc n) r (omega arith)
    (grows_then b c (last_values b r continuation values (suc n)) n 1 r (grows_last b r continuation values n)
    (grows_meeting c (Op.Return n) Unmarked r continuation (outlet values n true)))

-- filled twice with one part
pub filled_twice : (ps : List Part) (c d : Build) (p : Part) → length ps ≤ length c.instrs → length c.instrs ≤ length d.instrs
    → filled (filled ps c p) d p ≡ filled ps d p
filled_twice ps c d p low high =
    let m = length c.instrs - length ps in
    let long : length (filled ps c p) ≡ length ps + m = length-append ps (replicate m p) ∙ ap (λ n. length ps + n) (length-replicate m p) in
    ap (λ n. (ps ++ replicate m p) ++ replicate (length d.instrs - n) p) long ∙ append_assoc ps (replicate m p) (replicate (length d.instrs - (length ps + m)) p)
    ∙ ap (λ qs. ps ++ qs) (replicate-append-replicate m (length d.instrs - (length ps + m)) p)
    ∙ ap (λ n. ps ++ replicate n p) (omega (arith, low, high))

-- the builds of a turn, one after another
module _ (b : Build) (f k : ℕ) (flag : Outlet) (ss : List Source) where
  abbrev t : Turn
  t = turn_of b flag (length ss)

  abbrev b1 : Build
  b1 = turning b flag ss

  abbrev b2 : Build
  b2 = meeting b1 (Op.Ask (t.count + 1)) Unmarked Root (first_of t.continuation) (first_of t.flag)

  abbrev b3 : Build
  b3 = behind b2 (first_of (length b1.instrs)) Op.Frame Root

  abbrev b4 : Build
  b4 = behind b3 (first_of (length b2.instrs)) Op.Copy Root

  abbrev b5 : Build
  b5 = meeting b4 (Op.Send f 0) Unmarked (Arm k true) (first_of (length b3.instrs)) (first_of t.continuation)

  abbrev b6 : Build
  b6 = next_values b5 f (Arm k true) (first_of (length b3.instrs)) t.values t.count

  abbrev b7 : Build
  b7 = last_values b6 (Arm k false) (second_of t.continuation) t.values t.count

  abbrev b8 : Build
  b8 = meeting b7 (Op.Return (t.count + 2)) Unmarked (Arm k false) (second_of t.continuation) (second_of t.flag)

  is_last : turned (turning b flag ss) (turn_of b flag (length ss)) f k ≡ b8
  unfolding go_on stop
  is_last = refl

  grows_root : Grows b (5 + length ss) Root b4
  grows_root = grows_as b b4 (1 + 1 + length ss + 1 + 1 + 1) (5 + length ss) Root (omega arith)
      (grows_then b b3 b4 (1 + 1 + length ss + 1 + 1) 1 Root
      (grows_then b b2 b3 (1 + 1 + length ss + 1) 1 Root
      (grows_then b b1 b2 (1 + 1 + length ss) 1 Root (grows_turning b flag ss)
      (grows_meeting b1 (Op.Ask (t.count + 1)) Unmarked Root (first_of t.continuation) (first_of t.flag)))
      (grows_behind b2 (first_of (length b1.instrs)) Op.Frame Root))
      (grows_behind b3 (first_of (length b2.instrs)) Op.Copy Root))

  counted : t.count ≡ length ss
  unfolding turn_of
  counted = refl

  grows_on : Grows b4 (suc (length ss)) (Arm k true) b6
  grows_on = grows_as b4 b6 (1 + t.count) (suc (length ss)) (Arm k true) (let e = counted in omega (arith, e))
      (grows_then b4 b5 b6 1 t.count (Arm k true)
      (grows_meeting b4 (Op.Send f 0) Unmarked (Arm k true) (first_of (length b3.instrs)) (first_of t.continuation))
      (grows_next b5 f (Arm k true) (first_of (length b3.instrs)) t.values t.count))

  grows_off : Grows b6 (suc (length ss)) (Arm k false) b8
  grows_off = grows_as b6 b8 (t.count + 1) (suc (length ss)) (Arm k false) (let e = counted in omega (arith, e))
      (grows_then b6 b7 b8 t.count 1 (Arm k false)
      (grows_last b6 (Arm k false) (second_of t.continuation) t.values t.count)
      (grows_meeting b7 (Op.Return (t.count + 2)) Unmarked (Arm k false) (second_of t.continuation) (second_of t.flag)))

  -- the rows of the turn are those of its code
  pub tracks_turn : (r : Rows) (ps : List Part) → Tracks r b ps → (x : Source) → Tracks (laid_turn r k (x ∷ ss)) b8 (filled ps b8 Part.Turn)
  tracks_turn r ps t x =
      let r4 = laid r (4 + suc (length ss)) Part.Turn Root in
      let p4 = filled ps b4 Part.Turn in
      let t4 = tracks_more r b b4 ps (4 + suc (length ss)) Part.Turn Root t (grows_as b b4 (5 + length ss) (4 + suc (length ss)) Root (omega arith) grows_root) in
      let r6 = laid r4 (suc (length ss)) Part.Turn (Arm k true) in
      let p6 = filled p4 b6 Part.Turn in
      let t6 = tracks_more r4 b4 b6 p4 (suc (length ss)) Part.Turn (Arm k true) t4 grows_on in
      let t8 = tracks_more r6 b6 b8 p6 (suc (length ss)) Part.Turn (Arm k false) t6 grows_off in
      let long4 : length b4.instrs ≡ length ps + (5 + length ss) = grows_root.instrs ∙ ap (λ n. n + (5 + length ss)) t.instrs in
      let long6 : length b6.instrs ≡ length ps + (5 + length ss) + suc (length ss) = grows_on.instrs ∙ ap (λ n. n + suc (length ss)) long4 in
      let long8 : length b8.instrs ≡ length ps + (5 + length ss) + suc (length ss) + suc (length ss) = grows_off.instrs ∙ ap (λ n. n + suc (length ss)) long6 in
      let same6 : p6 ≡ filled ps b6 Part.Turn = filled_twice ps b4 b6 Part.Turn (omega (arith, long4)) (omega (arith, long4, long6)) in
      let same8 : filled p6 b8 Part.Turn ≡ filled ps b8 Part.Turn
      = ap (λ qs. filled qs b8 Part.Turn) same6 ∙ filled_twice ps b6 b8 Part.Turn (omega (arith, long6)) (omega (arith, long6, long8)) in
      subst (λ q. Tracks (laid (laid q (suc (length ss)) Part.Turn (Arm k true)) (suc (length ss)) Part.Turn (Arm k false)) b8 (filled ps b8 Part.Turn))
      (sym (laid_more r 4 (suc (length ss)) Part.Turn Root))
      (subst (λ qs. Tracks (laid r6 (suc (length ss)) Part.Turn (Arm k false)) b8 qs) same8 t8)

-- with no results there is no turn
none_filled : (ps : List Part) (b : Build) (p : Part) → length b.instrs ≡ length ps → ps ≡ filled ps b p
none_filled ps b p e = sym (ap (λ n. ps ++ replicate n p) (none (length b.instrs) (length ps) e) ∙ append-nil ps)
  where
    none : (m n : ℕ) → m ≡ n → m - n ≡ 0
    none m n d = omega (arith, d)

pub tracks_iterate : (b : Build) (f k : ℕ) (ss : List Source) (r : Rows) (ps : List Part) → Tracks r b ps
    → Tracks (laid_turn r k ss) (iterate b f k ss) (filled ps (iterate b f k ss) Part.Turn)
tracks_iterate b f k [] r ps t = subst (Tracks r b) (none_filled ps b Part.Turn t.instrs) t
tracks_iterate b f k (x ∷ ss) r ps t =
    subst (λ c. Tracks (laid_turn r k (x ∷ ss)) c (filled ps c Part.Turn)) (sym (is_last b f k (outlet_of b x) ss)) (tracks_turn b f k (outlet_of b x) ss r ps t x)

pub tails_have_owners : TailsHaveOwners
tails_have_owners s =
    let t = tracks_outputs s.block.results 0 (laid_body s.blocks s.triggers s.uses s.block) (body s) (body_parts s) (tracks_body s) in
    (sym t.instrs, t.parts, t.regions)
