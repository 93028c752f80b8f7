-- The code of a loop's turn is laid out as it is written down.
use Rattle.std.proofs.Common.{◌≡◌, ℕ, zero, suc, ◌+◌, ◌<◌, ◌≤◌, Bool, true, false, List, [], ◌∷◌, ◌++◌, length, refl, sym, ap, ◌∙◌, subst, arith, append-nil}
use Rattle.std.proofs.Common.{append_assoc, All, length-append}
use Rattle.std.specs.Prelude.{slice_get}
use Rattle.std.proofs.lemmas.List.Elements.{All-head, All-tail}
use Rattle.tags.specs.declared.token.Port.TheVariants.{Left}
use Rattle.semantics.specs.declared.graph.Region.{Region}
use Rattle.semantics.specs.declared.graph.Region.TheVariants.{Root, Arm}
use Rattle.semantics.specs.declared.graph.Source.{Source}
use Rattle.semantics.specs.declared.program.Mark.TheVariants.{Unmarked, OfFlag}
use Rattle.semantics.specs.declared.program.Op.{Op}
use Rattle.semantics.specs.Graph.{Block, Flow, node_count}
use Rattle.law_wiring.specs.WrittenTypes.{Outlet}
use Rattle.schemas.specs.Builds.{Build, outlet, first_of, second_of, outlet_of, behind, meeting}
use Rattle.schemas.specs.Tails.{switches, next_values, last_values, turned_continuation, turned_flag, turning, turn_of, go_on, stop, iterate}
use Rattle.law_wiring.proofs.ArcsLists.{length_push}
use Rattle.law_net.specs.ContextsParts.{Part, Entry, TurnCont, TurnFlag, TurnValue, Asker, NextFramer, NextFanned, NextSender, LastReturn, DrainReturn}
use Rattle.law_net.specs.ContextsParts.{same_part}
use Rattle.law_net.specs.ContextsBlocks.{Side, side, Site}
use Rattle.law_net.specs.ContextsExpanded.{row, turn_parts}
use Rattle.law_wiring.specs.Written.{Wire, wire, leaves, meet_wires, value_wires, next_wires, last_wires}
use Rattle.law_wiring.specs.WrittenFit.{IsPrior}
use Rattle.law_wiring.proofs.Laid.{OutAt, source_out, out_more}
use Rattle.law_wiring.proofs.PartsStanding.{Stand, stand_left, stand_right, stand_row, row_length, row_push}
use Rattle.law_wiring.proofs.LaidArcs.{turn_arcs}
use Rattle.law_wiring.proofs.LaidNodes.{env, Grown, grown_same, grown_behind, grown_meeting, out_here}
use Rattle.law_wiring.proofs.LaidCalls.{get_row}

-- WIRES of one value more
next_push : (from n : ℕ) → next_wires from (suc n) ≡ next_wires from n
    ++ meet_wires (side NextFanned false) (side (TurnValue (from + n)) false) (NextSender (from + n))
next_push from zero = let same : from ≡ from + 0 = omega arith in ap (λ k. meet_wires (side NextFanned false) (side (TurnValue k) false) (NextSender k)) same
next_push from (suc n) =
    let same : (from + 1) + n ≡ from + suc n = omega arith in
    ap (λ ws. meet_wires (side NextFanned false) (side (TurnValue from) false) (NextSender from) ++ ws) (next_push (from + 1) n)
    ∙ ap (λ k. next_wires from (suc n) ++ meet_wires (side NextFanned false) (side (TurnValue k) false) (NextSender k)) same

last_push : (from n : ℕ) → last_wires from (suc n) ≡ last_wires from n
    ++ meet_wires (side TurnCont true) (side (TurnValue ((from + n) + 1)) true) (LastReturn (from + n))
last_push from zero = let same : from ≡ from + 0 = omega arith in ap (λ k. meet_wires (side TurnCont true) (side (TurnValue (k + 1)) true) (LastReturn k)) same
last_push from (suc n) =
    let same : (from + 1) + n ≡ from + suc n = omega arith in
    ap (λ ws. meet_wires (side TurnCont true) (side (TurnValue (from + 1)) true) (LastReturn from) ++ ws) (last_push (from + 1) n)
    ∙ ap (λ k. last_wires from (suc n) ++ meet_wires (side TurnCont true) (side (TurnValue (k + 1)) true) (LastReturn k)) same

ten : {X : Type 0} (u a c d e f g h i j k : List X)
    → (((((((((u ++ a) ++ c) ++ d) ++ e) ++ f) ++ g) ++ h) ++ i) ++ j) ++ k ≡ u ++ (a ++ (c ++ (d ++ (e ++ (f ++ (g ++ (h ++ (i ++ (j ++ k)))))))))
ten u a c d e f g h i j k = simp append_assoc

module _ (fl : Flow) (s : Site) (place : Part → ℕ) (apart : (r q : Part) → same_part r q ≡ true → place r ≡ place q) where
  abbrev b : Block ℕ
  b = s.block

  abbrev G : Build → List Part → List Wire → ℕ → Type 0
  G c rs ws n = Grown fl s place apart c rs ws n

  abbrev Before : ℕ → Source → Type 0
  Before n x = IsPrior fl b n x

  -- where the values' switches lead
  abbrev ValuesAt : List Part → ℕ → ℕ → Type 0
  ValuesAt rs values m = (j : ℕ) (t : Bool) → j < m → OutAt rs (outlet values j t) (side (TurnValue (1 + j)) t)

  switches_laid : (c : Build) (rs : List Part) (ws : List Wire) (n from : ℕ) (o : Outlet) (t : Side) (ss : List Source) → G c rs ws n → All (Before n) ss
      → OutAt rs o t → Stand place (length rs) (row TurnValue from (length ss))
      → G (switches c o ss) (rs ++ row TurnValue from (length ss)) (ws ++ value_wires s t from ss) n
  switches_laid c rs ws n from o t [] h all out at = grown_same fl s place apart c rs (rs ++ []) ws (ws ++ []) n (sym (append-nil rs)) (sym (append-nil ws)) h
  switches_laid c rs ws n from o t (x ∷ ss) h all out at =
      let d : Build = meeting c Op.Switch OfFlag Root (outlet_of c x) o in
      let new : List Part = TurnValue from ∷ [] in
      let two : List Wire = meet_wires (leaves s x) t (TurnValue from) in
      let met = grown_meeting fl s place apart c rs ws n Op.Switch OfFlag Root (outlet_of c x) o (leaves s x) t (TurnValue from) h
      (source_out (env fl s place apart) c rs n x h.exits (All-head (Before n) x ss all)) out refl refl refl (λ f. absurd (cc)) at.0 in
      let long = length_push rs (TurnValue from) in
      let rest = switches_laid d (rs ++ new) (ws ++ two) n (from + 1) o t ss met (All-tail (Before n) x ss all) (out_more rs new o t out)
      (subst (λ k. Stand place k (row TurnValue (from + 1) (length ss))) (sym long) at.1) in
      grown_same fl s place apart (switches c o (x ∷ ss)) ((rs ++ new) ++ row TurnValue (from + 1) (length ss)) (rs ++ row TurnValue from (length (x ∷ ss)))
      ((ws ++ two) ++ value_wires s t (from + 1) ss) (ws ++ value_wires s t from (x ∷ ss)) n
      (append_assoc rs new (row TurnValue (from + 1) (length ss))) (append_assoc ws two (value_wires s t (from + 1) ss)) rest

  next_laid : (c : Build) (rs : List Part) (ws : List Wire) (n k m values : ℕ) (o : Outlet) → G c rs ws n → k ≤ m → OutAt rs o (side NextFanned false)
      → ValuesAt rs values m → Stand place (length rs) (row NextSender 1 m)
      → G (next_values c s.own (Arm (node_count b) true) o values k) (rs ++ row NextSender 1 k) (ws ++ next_wires 1 k) n
  next_laid c rs ws n zero m values o h l out vs at = grown_same fl s place apart c rs (rs ++ []) ws (ws ++ []) n (sym (append-nil rs)) (sym (append-nil ws)) h
  next_laid c rs ws n (suc k) m values o h l out vs at =
      let rest = next_laid c rs ws n k m values o h (omega (arith, l)) out vs at in
      let qs : List Part = rs ++ row NextSender 1 k in
      let d : Build = next_values c s.own (Arm (node_count b) true) o values k in
      let long = length-append rs (row NextSender 1 k) in
      let count = row_length NextSender 1 k in
      let here = stand_row place NextSender (length rs) 1 m k at (omega (arith, l)) in
      let more = row NextSender 1 k in
      let from = out_more rs more (outlet values k false) (side (TurnValue (1 + k)) false) (vs k false (omega (arith, l))) in
      let same : k + 1 ≡ 1 + k = omega arith in
      let met = grown_meeting fl s place apart d qs (ws ++ next_wires 1 k) n (Op.Send s.own (k + 1)) Unmarked (Arm (node_count b) true) o
      (outlet values k false) (side NextFanned false) (side (TurnValue (1 + k)) false) (NextSender (1 + k)) rest
      (out_more rs more o (side NextFanned false) out) from (ap (λ i. Op.Send s.own i) same) refl refl (λ f. refl) (omega (arith, here, long, count)) in
      grown_same fl s place apart (next_values c s.own (Arm (node_count b) true) o values (suc k)) (qs ++ NextSender (1 + k) ∷ [])
      (rs ++ row NextSender 1 (suc k)) ((ws ++ next_wires 1 k) ++ meet_wires (side NextFanned false) (side (TurnValue (1 + k)) false) (NextSender (1 + k)))
      (ws ++ next_wires 1 (suc k)) n
      (append_assoc rs more (NextSender (1 + k) ∷ []) ∙ ap (λ xs. rs ++ xs) (sym (row_push NextSender 1 k)))
      (append_assoc ws (next_wires 1 k) (meet_wires (side NextFanned false) (side (TurnValue (1 + k)) false) (NextSender (1 + k)))
      ∙ ap (λ xs. ws ++ xs) (sym (next_push 1 k))) met

  last_laid : (c : Build) (rs : List Part) (ws : List Wire) (n k m values : ℕ) (o : Outlet) → G c rs ws n → k ≤ m → OutAt rs o (side TurnCont true)
      → ValuesAt rs values m → Stand place (length rs) (row LastReturn 0 m)
      → G (last_values c (Arm (node_count b) false) o values k) (rs ++ row LastReturn 0 k) (ws ++ last_wires 0 k) n
  last_laid c rs ws n zero m values o h l out vs at = grown_same fl s place apart c rs (rs ++ []) ws (ws ++ []) n (sym (append-nil rs)) (sym (append-nil ws)) h
  last_laid c rs ws n (suc k) m values o h l out vs at =
      let rest = last_laid c rs ws n k m values o h (omega (arith, l)) out vs at in
      let qs : List Part = rs ++ row LastReturn 0 k in
      let d : Build = last_values c (Arm (node_count b) false) o values k in
      let long = length-append rs (row LastReturn 0 k) in
      let count = row_length LastReturn 0 k in
      let here = stand_row place LastReturn (length rs) 0 m k at (omega (arith, l)) in
      let more = row LastReturn 0 k in
      let same : 1 + k ≡ (0 + k) + 1 = omega arith in
      let zeroless : k ≡ 0 + k = omega arith in
      let u : Side = side (TurnValue ((0 + k) + 1)) true in
      let from = subst (λ i. OutAt qs (outlet values k true) (side (TurnValue i) true)) same
      (out_more rs more (outlet values k true) (side (TurnValue (1 + k)) true) (vs k true (omega (arith, l)))) in
      let met = grown_meeting fl s place apart d qs (ws ++ last_wires 0 k) n (Op.Return k) Unmarked (Arm (node_count b) false) o (outlet values k true)
      (side TurnCont true) u (LastReturn (0 + k)) rest
      (out_more rs more o (side TurnCont true) out) from (ap (λ i. Op.Return i) zeroless) refl refl (λ f. refl) (omega (arith, here, long, count)) in
      grown_same fl s place apart (last_values c (Arm (node_count b) false) o values (suc k)) (qs ++ LastReturn (0 + k) ∷ []) (rs ++ row LastReturn 0 (suc k))
      ((ws ++ last_wires 0 k) ++ meet_wires (side TurnCont true) u (LastReturn (0 + k))) (ws ++ last_wires 0 (suc k)) n
      (append_assoc rs more (LastReturn (0 + k) ∷ []) ∙ ap (λ xs. rs ++ xs) (sym (row_push LastReturn 0 k)))
      (append_assoc ws (last_wires 0 k) (meet_wires (side TurnCont true) u (LastReturn (0 + k))) ∙ ap (λ xs. ws ++ xs) (sym (last_push 0 k))) met

  abbrev turned_parts : ℕ → List Part
  turned_parts m =
      TurnCont ∷ TurnFlag ∷ (row TurnValue 1 m
      ++ (Asker ∷ NextFramer ∷ NextFanned ∷ NextSender 0 ∷ (row NextSender 1 m ++ (row LastReturn 0 m ++ DrainReturn ∷ []))))

  turned_same : (m : ℕ) → turned_parts m ≡ turn_parts m
  turned_same m =
      let same : suc m ≡ m + 1 = omega arith in
      ap (λ k. TurnCont ∷ TurnFlag ∷ row TurnValue 1 m ++ (Asker ∷ NextFramer ∷ NextFanned ∷ row NextSender 0 k ++ (row LastReturn 0 m ++ DrainReturn ∷ [])))
      same

  turned_laid : (c : Build) (rs : List Part) (ws : List Wire) (n : ℕ) (x : Source) (ss : List Source) → G c rs ws n → Before n x → All (Before n) ss
      → length ss ≡ b.inputs → Stand place (length rs) (turned_parts (length ss))
      → G (iterate c s.own (node_count b) (x ∷ ss)) (rs ++ turned_parts (length ss)) (ws ++ turn_arcs s (x ∷ ss)) n
  unfolding turning turn_of go_on stop
  turned_laid c rs ws n x ss h first all count at =
      let e = env fl s place apart in
      let m : ℕ = length ss in
      let f : Outlet = outlet_of c x in
      let t : Side = leaves s x in
      let yes : Region = Arm (node_count b) true in
      let no : Region = Arm (node_count b) false in
      let values : List Part = row TurnValue 1 m in
      let nexts : List Part = row NextSender 1 m in
      let lasts : List Part = row LastReturn 0 m in
      let p1 : List Part = rs ++ TurnCont ∷ [] in
      let p2 : List Part = p1 ++ TurnFlag ∷ [] in
      let p3 : List Part = p2 ++ values in
      let p4 : List Part = p3 ++ Asker ∷ [] in
      let p5 : List Part = p4 ++ NextFramer ∷ [] in
      let p6 : List Part = p5 ++ NextFanned ∷ [] in
      let p7 : List Part = p6 ++ NextSender 0 ∷ [] in
      let p8 : List Part = p7 ++ nexts in
      let p9 : List Part = p8 ++ lasts in
      let w1 : List Wire = meet_wires (side Entry false) t TurnCont in
      let w2 : List Wire = meet_wires t t TurnFlag in
      let w3 : List Wire = value_wires s t 1 ss in
      let w4 : List Wire = meet_wires (side TurnCont false) (side TurnFlag false) Asker in
      let w5 : List Wire = wire (side Asker false) NextFramer Left ∷ [] in
      let w6 : List Wire = wire (side NextFramer false) NextFanned Left ∷ [] in
      let w7 : List Wire = meet_wires (side NextFanned false) (side TurnCont false) (NextSender 0) in
      let w8 : List Wire = next_wires 1 m in
      let w9 : List Wire = last_wires 0 m in
      let w10 : List Wire = meet_wires (side TurnCont true) (side TurnFlag true) DrainReturn in
      let v1 : List Wire = ws ++ w1 in
      let v2 : List Wire = v1 ++ w2 in
      let v3 : List Wire = v2 ++ w3 in
      let v4 : List Wire = v3 ++ w4 in
      let v5 : List Wire = v4 ++ w5 in
      let v6 : List Wire = v5 ++ w6 in
      let v7 : List Wire = v6 ++ w7 in
      let v8 : List Wire = v7 ++ w8 in
      let v9 : List Wire = v8 ++ w9 in
      let c1 : Build = turned_continuation c f in
      let c2 : Build = turned_flag c f in
      let c3 : Build = switches c2 f ss in
      let cont : ℕ = length c.instrs in
      let flag : ℕ = length c1.instrs in
      let at_values : ℕ = length c2.instrs in
      let c4 : Build = meeting c3 (Op.Ask (m + 1)) Unmarked Root (first_of cont) (first_of flag) in
      let c5 : Build = behind c4 (first_of (length c3.instrs)) Op.Frame Root in
      let c6 : Build = behind c5 (first_of (length c4.instrs)) Op.Copy Root in
      let copy : Outlet = first_of (length c5.instrs) in
      let c7 : Build = meeting c6 (Op.Send s.own 0) Unmarked yes copy (first_of cont) in
      let c8 : Build = next_values c7 s.own yes copy at_values m in
      let c9 : Build = last_values c8 no (second_of cont) at_values m in
      let long1 = length_push rs TurnCont in
      let long2 = length_push p1 TurnFlag in
      let long3 = length-append p2 values in
      let from = source_out e c rs n x h.exits first in
      let g1 : G c1 p1 v1 n = grown_meeting fl s place apart c rs ws n Op.Switch OfFlag Root (first_of 0) f
      (side Entry false) t TurnCont h h.entry from refl refl refl (λ q. absurd (cc)) at.0 in
      let cont1 : (u : Bool) → OutAt p1 (outlet cont 0 u) (side TurnCont u) = λ u. out_here fl s place apart c rs TurnCont u h.laid.size in
      let from1 = out_more rs (TurnCont ∷ []) f t from in
      let g2 : G c2 p2 v2 n = grown_meeting fl s place apart c1 p1 v1 n Op.Switch OfFlag Root f f t t TurnFlag g1 from1 from1 refl refl refl (λ q. absurd (cc))
      (at.1.0 ∙ sym long1) in
      let flag2 : (u : Bool) → OutAt p2 (outlet flag 0 u) (side TurnFlag u) = λ u. out_here fl s place apart c1 p1 TurnFlag u g1.laid.size in
      let from2 = out_more p1 (TurnFlag ∷ []) f t from1 in
      let tail : List Part = Asker ∷ NextFramer ∷ NextFanned ∷ NextSender 0 ∷ (nexts ++ (lasts ++ DrainReturn ∷ [])) in
      let at2 : Stand place (length p2) (values ++ tail) = subst (λ k. Stand place k (values ++ tail)) (omega (arith, long1, long2)) at.1.1 in
      let g3 : G c3 p3 v3 n = switches_laid c2 p2 v2 n 1 f t ss g2 all from2 (stand_left place (length p2) values tail at2) in
      let at3 : Stand place (length p3) tail = stand_right place (length p2) (length p3) values tail at2 long3 in
      let size2 = g2.laid.size in
      let values3 : ValuesAt p3 at_values m = λ j u l. record { part = ap (λ k. slice_get p3 (k + j)) size2 ∙ get_row p2 TurnValue 1 m j l; second = refl } in
      let cont3 : (u : Bool) → OutAt p3 (outlet cont 0 u) (side TurnCont u) =
      λ u. out_more p2 values (outlet cont 0 u) (side TurnCont u) (out_more p1 (TurnFlag ∷ []) (outlet cont 0 u) (side TurnCont u) (cont1 u)) in
      let flag3 : (u : Bool) → OutAt p3 (outlet flag 0 u) (side TurnFlag u) = λ u. out_more p2 values (outlet flag 0 u) (side TurnFlag u) (flag2 u) in
      let g4 : G c4 p4 v4 n = grown_meeting fl s place apart c3 p3 v3 n (Op.Ask (m + 1)) Unmarked Root (first_of cont) (first_of flag) (side TurnCont false)
      (side TurnFlag false) Asker g3 (cont3 false) (flag3 false) (ap (λ k. Op.Ask (k + 1)) count) refl refl (λ q. absurd (cc)) at3.0 in
      let long4 = length_push p3 Asker in
      let long5 = length_push p4 NextFramer in
      let long6 = length_push p5 NextFanned in
      let long7 = length_push p6 (NextSender 0) in
      let a5 = at3.1.0 in
      let a6 = at3.1.1.0 in
      let a7 = at3.1.1.1.0 in
      let g5 : G c5 p5 v5 n = grown_behind fl s place apart c4 p4 v4 n (first_of (length c3.instrs)) (side Asker false) Op.Frame Root NextFramer g4
      (out_here fl s place apart c3 p3 Asker false g3.laid.size) refl refl refl (λ q. absurd (cc)) (a5 ∙ sym long4) in
      let g6 : G c6 p6 v6 n = grown_behind fl s place apart c5 p5 v5 n (first_of (length c4.instrs)) (side NextFramer false) Op.Copy Root NextFanned g5
      (out_here fl s place apart c4 p4 NextFramer false g4.laid.size) refl refl refl (λ q. absurd (cc)) (omega (arith, a6, long4, long5)) in
      let copy6 : OutAt p6 copy (side NextFanned false) = out_here fl s place apart c5 p5 NextFanned false g5.laid.size in
      let cont6 : (u : Bool) → OutAt p6 (outlet cont 0 u) (side TurnCont u)
      =
      λ u. out_more p5 (NextFanned ∷ []) (outlet cont 0 u) (side TurnCont u)
      (out_more p4 (NextFramer ∷ []) (outlet cont 0 u) (side TurnCont u) (out_more p3 (Asker ∷ []) (outlet cont 0 u) (side TurnCont u) (cont3 u))) in
      let g7 : G c7 p7 v7 n = grown_meeting fl s place apart c6 p6 v6 n (Op.Send s.own 0) Unmarked yes copy (first_of cont) (side NextFanned false)
      (side TurnCont false) (NextSender 0) g6 copy6 (cont6 false) refl refl refl (λ q. refl) (omega (arith, a7, long4, long5, long6)) in
      let more : (o : Outlet) (u : Side) → OutAt p3 o u → OutAt p7 o u
      = λ o u q. out_more p6 (NextSender 0 ∷ []) o u (out_more p5 (NextFanned ∷ []) o u (out_more p4 (NextFramer ∷ []) o u (out_more p3 (Asker ∷ []) o u q))) in
      let values7 : ValuesAt p7 at_values m = λ j u l. more (outlet at_values j u) (side (TurnValue (1 + j)) u) (values3 j u l) in
      let at7 : Stand place (length p7) (nexts ++ (lasts ++ DrainReturn ∷ [])) =
      subst (λ k. Stand place k (nexts ++ (lasts ++ DrainReturn ∷ []))) (omega (arith, long4, long5, long6, long7)) at3.1.1.1.1 in
      let g8 : G c8 p8 v8 n = next_laid c7 p7 v7 n m m at_values copy g7 (omega arith)
      (out_more p6 (NextSender 0 ∷ []) copy (side NextFanned false) copy6) values7 (stand_left place (length p7) nexts (lasts ++ DrainReturn ∷ []) at7) in
      let at8 : Stand place (length p8) (lasts ++ DrainReturn ∷ []) =
      stand_right place (length p7) (length p8) nexts (lasts ++ DrainReturn ∷ []) at7 (length-append p7 nexts) in
      let values8 : ValuesAt p8 at_values m = λ j u l. out_more p7 nexts (outlet at_values j u) (side (TurnValue (1 + j)) u) (values7 j u l) in
      let cont8 : OutAt p8 (second_of cont) (side TurnCont true) =
      out_more p7 nexts (second_of cont) (side TurnCont true) (more (second_of cont) (side TurnCont true) (cont3 true)) in
      let flag8 : OutAt p8 (second_of flag) (side TurnFlag true) =
      out_more p7 nexts (second_of flag) (side TurnFlag true) (more (second_of flag) (side TurnFlag true) (flag3 true)) in
      let g9 : G c9 p9 v9 n = last_laid c8 p8 v8 n m m at_values (second_of cont) g8 (omega arith) cont8 values8
      (stand_left place (length p8) lasts (DrainReturn ∷ []) at8) in
      let at9 : Stand place (length p9) (DrainReturn ∷ []) = stand_right place (length p8) (length p9) lasts (DrainReturn ∷ []) at8 (length-append p8 lasts) in
      let g10 = grown_meeting fl s place apart c9 p9 v9 n (Op.Return (m + 2)) Unmarked no (second_of cont) (second_of flag) (side TurnCont true)
      (side TurnFlag true) DrainReturn g9
      (out_more p8 lasts (second_of cont) (side TurnCont true) cont8) (out_more p8 lasts (second_of flag) (side TurnFlag true) flag8)
      (ap (λ k. Op.Return (k + 2)) count) refl refl (λ q. refl) at9.0 in
      grown_same fl s place apart (iterate c s.own (node_count b) (x ∷ ss)) (p9 ++ DrainReturn ∷ []) (rs ++ turned_parts m) (v9 ++ w10)
      (ws ++ turn_arcs s (x ∷ ss)) n
      (ten rs (TurnCont ∷ []) (TurnFlag ∷ []) values (Asker ∷ []) (NextFramer ∷ []) (NextFanned ∷ []) (NextSender 0 ∷ []) nexts lasts (DrainReturn ∷ []))
      (ten ws w1 w2 w3 w4 w5 w6 w7 w8 w9 w10) g10

  pub turn_laid : (c : Build) (rs : List Part) (ws : List Wire) (n : ℕ) (ss : List Source) → G c rs ws n → All (Before n) ss → length ss ≡ suc b.inputs
      → Stand place (length rs) (turn_parts b.inputs)
      → G (iterate c s.own (node_count b) ss) (rs ++ turn_parts b.inputs) (ws ++ turn_arcs s ss) n
  turn_laid c rs ws n [] h all count at = absurd (omega (arith, count))
  turn_laid c rs ws n (x ∷ ss) h all count at =
      let same : length ss ≡ b.inputs = omega (arith, count) in
      let parts : turned_parts (length ss) ≡ turn_parts b.inputs = turned_same (length ss) ∙ ap turn_parts same in
      subst (λ ps. G (iterate c s.own (node_count b) (x ∷ ss)) (rs ++ ps) (ws ++ turn_arcs s (x ∷ ss)) n) parts
      (turned_laid c rs ws n x ss h (All-head (Before n) x ss all) (All-tail (Before n) x ss all) same (subst (Stand place (length rs)) (sym parts) at))
