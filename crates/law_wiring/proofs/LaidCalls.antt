-- The code of calls, strict calls and loops is laid out as it is written down.
use Rattle.std.proofs.Common.{◌≡◌, ℕ, zero, suc, ◌+◌, ◌-◌, ◌<◌, ◌≤◌, true, false, List, [], ◌∷◌, ◌++◌, length, refl, sym, ap, ◌∙◌, subst, arith, append-nil}
use Rattle.std.proofs.Common.{append_assoc, Some, All, length-append}
use Rattle.std.specs.Prelude.{slice_get}
use Rattle.std.proofs.lemmas.Option.{slice_get_within}
use Rattle.std.proofs.lemmas.List.Elements.{All-head, All-tail}
use Rattle.tags.specs.declared.value.Origin.TheVariants.{Untold}
use Rattle.tags.specs.declared.token.Port.TheVariants.{Left}
use Rattle.semantics.specs.declared.graph.Region.{Region}
use Rattle.semantics.specs.declared.graph.Region.TheVariants.{Root, Arm}
use Rattle.semantics.specs.declared.graph.Source.{Source}
use Rattle.semantics.specs.declared.program.Mark.TheVariants.{Unmarked}
use Rattle.semantics.specs.declared.program.Op.{Op}
use Rattle.semantics.specs.Graph.{Node, Block, Flow}
use Rattle.law_wiring.specs.WrittenTypes.{Outlet}
use Rattle.schemas.specs.Triggers.{takes_trigger}
use Rattle.schemas.specs.Builds.{Build, first_of, quieted, connected, outlet_of, trigger_of, behind, meeting, copies}
use Rattle.schemas.specs.Rows as Rows
use Rattle.law_wiring.proofs.ArcsLists.{length_push}
use Rattle.law_net.specs.ContextsParts.{Part, Opener, Framer, Fanned, Linker, Sender, Landing, CallDone, Giver, Taker, Drainer, LoopDone, Strict, same_part}
use Rattle.law_net.specs.ContextsBlocks.{Side, side, Site, lies_in, callee_code, bound_at, is_kind, cond_kind}
use Rattle.law_net.specs.ContextsExpanded.{row, variant_in, invoked}
use Rattle.law_wiring.specs.Written.{Wire, wire, leaves, leaves_at, trigger_side, meet_wires, sender_wires, strict_wires, strict_end}
use Rattle.law_wiring.specs.WrittenFit.{port_count, IsPrior, IsLineFit}
use Rattle.law_wiring.proofs.Laid.{OutAt, source_out, trigger_out, out_more}
use Rattle.law_wiring.proofs.PartsStanding.{Stand, stand_left, stand_right, stand_row, row_length, row_push}
use Rattle.law_wiring.proofs.LaidArcs.{invoke_arcs, strict_call_arcs, credit_arcs}
use Rattle.law_wiring.proofs.LaidNodes.{env, Grown, grown_same, grown_added, grown_connected, grown_linked, grown_behind, grown_meeting, grown_exited, out_here}

-- a row after what there is
pub get_row : (rs : List Part) (f : ℕ → Part) (from q j : ℕ) → j < q → slice_get (rs ++ row f from q) (length rs + j) ≡ Some (f (from + j))
get_row [] f from zero j l = absurd (omega (arith, l))
get_row [] f from (suc q) zero l = let same : from + 0 ≡ from = omega arith in ap (λ k. Some (f k)) (sym same)
get_row [] f from (suc q) (suc j) l =
    let here : 0 + suc j ≡ suc (0 + j) = omega arith in
    let same : (from + 1) + j ≡ from + suc j = omega arith in
    ap (slice_get (row f from (suc q))) here ∙ get_row [] f (from + 1) q j (omega (arith, l)) ∙ ap (λ k. Some (f k)) same
get_row (r ∷ rs) f from q j l =
    let same : suc (length rs) + j ≡ suc (length rs + j) = omega arith in ap (slice_get (r ∷ rs ++ row f from q)) same ∙ get_row rs f from q j l

module _ (fl : Flow) (s : Site) (place : Part → ℕ) (apart : (r q : Part) → same_part r q ≡ true → place r ≡ place q) where
  abbrev b : Block ℕ
  b = s.block

  abbrev G : Build → List Part → List Wire → ℕ → Type 0
  G c rs ws n = Grown fl s place apart c rs ws n

  abbrev Before : ℕ → Source → Type 0
  Before n x = IsPrior fl b n x

  next : (rs : List Part) (r : Part) (qs : List Part) → Stand place (suc (length rs)) qs → Stand place (length (rs ++ r ∷ [])) qs
  next rs r qs h = subst (λ k. Stand place k qs) (sym (length_push rs r)) h

  -- where the signal of a node's region leaves
  pub signal_out : (c : Build) (rs : List Part) (ws : List Wire) (n : ℕ) (node : Node ℕ) → G c rs ws n → IsLineFit fl b n node → takes_trigger node.kind ≡ true
      → OutAt rs (trigger_of c node.region) (trigger_side node.region)
  signal_out c rs ws n node h fit takes = go node.region refl
    where
      go : (r : Region) → node.region ≡ r → OutAt rs (trigger_of c r) (trigger_side r)
      go Root e = h.entry
      go (Arm k t) e = let round = fit.round k t e in trigger_out (env fl s place apart) c rs n k t h.exits round.0 round.1 (fit.triggered k t e takes)

  -- SENDERS
  senders_laid : (c : Build) (rs : List Part) (ws : List Wire) (n f from : ℕ) (g : Region) (o : Outlet) (ss : List Source) → G c rs ws n → All (Before n) ss
      → OutAt rs o (side (Fanned n) false) → f ≡ callee_code (variant_in fl) b n → g ≡ lies_in b n
      → Stand place (length rs) (row (Sender n) from (length ss))
      → G (Rows.sends c o f g from ss) (rs ++ row (Sender n) from (length ss)) (ws ++ sender_wires s n from ss) n
  senders_laid c rs ws n f from g o [] h all out code region at =
      grown_same fl s place apart c rs (rs ++ []) ws (ws ++ []) n (sym (append-nil rs)) (sym (append-nil ws)) h
  senders_laid c rs ws n f from g o (x ∷ ss) h all out code region at =
      let op : Op = Op.Send f (from + 1) in
      let d : Build = meeting c op Unmarked g o (outlet_of c x) in
      let new : List Part = Sender n from ∷ [] in
      let two : List Wire = meet_wires (side (Fanned n) false) (leaves s x) (Sender n from) in
      let from_out = source_out (env fl s place apart) c rs n x h.exits (All-head (Before n) x ss all) in
      let met = grown_meeting fl s place apart c rs ws n op Unmarked g o (outlet_of c x) (side (Fanned n) false) (leaves s x) (Sender n from) h out from_out
      (ap (λ k. Op.Send k (from + 1)) code) refl refl (λ e. region) at.0 in
      let rest = senders_laid d (rs ++ new) (ws ++ two) n f (from + 1) g o ss met (All-tail (Before n) x ss all)
      (out_more rs new o (side (Fanned n) false) out) code region (next rs (Sender n from) (row (Sender n) (from + 1) (length ss)) at.1) in
      grown_same fl s place apart (Rows.sends c o f g from (x ∷ ss)) ((rs ++ new) ++ row (Sender n) (from + 1) (length ss))
      (rs ++ row (Sender n) from (length (x ∷ ss)))
      ((ws ++ two) ++ sender_wires s n (from + 1) ss) (ws ++ sender_wires s n from (x ∷ ss)) n (append_assoc rs new (row (Sender n) (from + 1) (length ss)))
      (append_assoc ws two (sender_wires s n (from + 1) ss)) rest

  -- LANDINGS
  copies_laid : (c : Build) (rs : List Part) (ws : List Wire) (n k q : ℕ) (g : Region) → G c rs ws n → g ≡ lies_in b n → k ≤ q
      → Stand place (length rs) (row (Landing n) 0 q) → G (copies c g k) (rs ++ row (Landing n) 0 k) ws n
  copies_laid c rs ws n zero q g h region l at = subst (λ xs. G c xs ws n) (sym (append-nil rs)) h
  copies_laid c rs ws n (suc k) q g h region l at =
      let rest = copies_laid c rs ws n k q g h region (omega (arith, l)) at in
      let qs : List Part = rs ++ row (Landing n) 0 k in
      let d : Build = copies c g k in
      let zeroless : 0 + k ≡ k = omega arith in
      let long = length-append rs (row (Landing n) 0 k) in
      let count = row_length (Landing n) 0 k in
      let here = stand_row place (Landing n) (length rs) 0 q k at (omega (arith, l)) in
      let new = grown_added fl s place apart d qs ws n Op.Copy Untold Unmarked g (Landing n (0 + k)) rest refl refl refl (λ e. region)
      (here ∙ omega (arith, long, count)) in
      subst (λ xs. G (copies c g (suc k)) xs ws n)
      (append_assoc rs (row (Landing n) 0 k) (Landing n (0 + k) ∷ []) ∙ ap (λ xs. rs ++ xs) (sym (row_push (Landing n) 0 k))) new

  -- THE INVOCATION, after its signal
  invoked_laid : (c : Build) (rs : List Part) (ws : List Wire) (n f q : ℕ) (g : Region) (o : Outlet) (t : Side) (ss : List Source) → G c rs ws n
      → All (Before n) ss → OutAt rs o t → f ≡ callee_code (variant_in fl) b n → g ≡ lies_in b n → 0 < q
      → is_kind cond_kind b n ≡ false → port_count fl b n ≡ q → ((j : ℕ) → leaves_at s n j ≡ side (Landing n j) false)
      → Stand place (length rs) (invoked n (length ss) q)
      → G (Rows.invoke (behind c o Op.Frame g) (length c.instrs) f q g ss) (rs ++ invoked n (length ss) q) (ws ++ invoke_arcs s n t ss) (n + 1)
  invoked_laid c rs ws n f q g o t ss h all out code region some no_cond ports leave at =
      let e = env fl s place apart in
      let p1 : List Part = rs ++ Framer n ∷ [] in
      let p2 : List Part = p1 ++ Fanned n ∷ [] in
      let p3 : List Part = p2 ++ Linker n ∷ [] in
      let senders : List Part = row (Sender n) 0 (length ss) in
      let landings : List Part = row (Landing n) 0 q in
      let p4 : List Part = p3 ++ senders in
      let p5 : List Part = p4 ++ landings in
      let w1 : List Wire = wire t (Framer n) Left ∷ [] in
      let w2 : List Wire = wire (side (Framer n) false) (Fanned n) Left ∷ [] in
      let w3 : List Wire = wire (side (Fanned n) false) (Linker n) Left ∷ [] in
      let w4 : List Wire = sender_wires s n 0 ss in
      let w5 : List Wire = wire (side (Linker n) false) (Landing n 0) Left ∷ [] in
      let c1 : Build = behind c o Op.Frame g in
      let c2 : Build = behind c1 (first_of (length c.instrs)) Op.Copy g in
      let c3 : Build = behind c2 (first_of (length c1.instrs)) (Op.Link f) g in
      let c4 : Build = Rows.sends c3 (first_of (length c1.instrs)) f g 0 ss in
      let c5 : Build = copies c4 g q in
      let g1 = grown_behind fl s place apart c rs ws n o t Op.Frame g (Framer n) h out refl refl refl (λ x. region) at.0 in
      let o1 = out_here fl s place apart c rs (Framer n) false h.laid.size in
      let long1 = length_push rs (Framer n) in
      let g2 = grown_behind fl s place apart c1 p1 (ws ++ w1) n (first_of (length c.instrs)) (side (Framer n) false) Op.Copy g (Fanned n) g1 o1 refl refl refl
      (λ x. region) (at.1.0 ∙ sym long1) in
      let o2 = out_here fl s place apart c1 p1 (Fanned n) false g1.laid.size in
      let long2 = length_push p1 (Fanned n) in
      let stand3 = at.1.1.0 in
      let g3 = grown_behind fl s place apart c2 p2 ((ws ++ w1) ++ w2) n (first_of (length c1.instrs)) (side (Fanned n) false) (Op.Link f) g (Linker n) g2 o2
      (ap (λ k. Op.Link k) code) refl refl (λ x. region) (omega (arith, stand3, long1, long2)) in
      let o3 = out_here fl s place apart c2 p2 (Linker n) false g2.laid.size in
      let long3 = length_push p2 (Linker n) in
      let rows_at : Stand place (length p3) (senders ++ landings) =
      subst (λ k. Stand place k (senders ++ landings)) (omega (arith, long1, long2, long3)) at.1.1.1 in
      let g4 : G c4 p4 ((((ws ++ w1) ++ w2) ++ w3) ++ w4) n =
      senders_laid c3 p3 (((ws ++ w1) ++ w2) ++ w3) n f 0 g (first_of (length c1.instrs)) ss g3 all
      (out_more p2 (Linker n ∷ []) (first_of (length c1.instrs)) (side (Fanned n) false) o2) code region
      (stand_left place (length p3) senders landings rows_at) in
      let landings_at : Stand place (length p4) landings = stand_right place (length p3) (length p4) senders landings rows_at (length-append p3 senders) in
      let g5 : G c5 p5 ((((ws ++ w1) ++ w2) ++ w3) ++ w4) n =
      copies_laid c4 p4 ((((ws ++ w1) ++ w2) ++ w3) ++ w4) n q q g g4 region (omega arith) landings_at in
      let first_at = stand_row place (Landing n) (length p4) 0 q 0 landings_at some in
      let size = g4.laid.size in
      let link_out : OutAt p5 (first_of (length c2.instrs)) (side (Linker n) false) =
      out_more p4 landings (first_of (length c2.instrs)) (side (Linker n) false)
      (out_more p3 senders (first_of (length c2.instrs)) (side (Linker n) false) o3) in
      let low = slice_get_within p3 (length c2.instrs + 0) (Linker n) o3.part in
      let linker = g3.laid.placed (length c2.instrs + 0) (Linker n) o3.part in
      let long4 = length-append p3 senders in
      let long5 = length-append p4 landings in
      let count = row_length (Landing n) 0 q in
      let g6 : G (connected c5 (first_of (length c2.instrs)) (length c4.instrs) Left) p5 (((((ws ++ w1) ++ w2) ++ w3) ++ w4) ++ w5) n =
      grown_connected fl s place apart c5 p5 ((((ws ++ w1) ++ w2) ++ w3) ++ w4) n (first_of (length c2.instrs)) (length c4.instrs)
      (wire (side (Linker n) false) (Landing n 0) Left) g5 link_out (omega (arith, first_at, size))
      (omega (arith, low, linker, long4, first_at), omega (arith, first_at, long5, count, some)) in
      let done = grown_exited fl s place apart (connected c5 (first_of (length c2.instrs)) (length c4.instrs) Left) p5
      (((((ws ++ w1) ++ w2) ++ w3) ++ w4) ++ w5) n (first_of (length c4.instrs)) g6
      (λ k j l. let zeroless : 0 + j ≡ j = omega arith in record {
        part =
            ap (λ m. slice_get p5 (m + j)) size ∙ get_row p4 (Landing n) 0 q j (omega (arith, l, ports)) ∙ ap (λ i. Some (Landing n i)) zeroless
            ∙ ap (λ (u : Side). Some u.part) (sym (leave j));
        second = ap (λ (u : Side). u.second) (sym (leave j));
      }) (λ k l. absurd (cc)) in
      grown_same fl s place apart (Rows.invoke c1 (length c.instrs) f q g ss) p5 (rs ++ invoked n (length ss) q) (((((ws ++ w1) ++ w2) ++ w3) ++ w4) ++ w5)
      (ws ++ invoke_arcs s n t ss) (n + 1)
      (five rs (Framer n ∷ []) (Fanned n ∷ []) (Linker n ∷ []) senders landings) (five ws w1 w2 w3 w4 w5) done
    where
      five : {X : Type 0} (u a c d e f : List X) → ((((u ++ a) ++ c) ++ d) ++ e) ++ f ≡ u ++ (a ++ (c ++ (d ++ (e ++ f))))
      five u a c d e f = simp append_assoc

  -- CALLS
  pub called_laid : (c : Build) (rs : List Part) (ws : List Wire) (n f q : ℕ) (g : Region) (o : Outlet) (t : Side) (ss : List Source) → G c rs ws n
      → All (Before n) ss → OutAt rs o t → f ≡ callee_code (variant_in fl) b n → g ≡ lies_in b n → 0 < q
      → is_kind cond_kind b n ≡ false → port_count fl b n ≡ q → ((j : ℕ) → leaves_at s n j ≡ side (Landing n j) false)
      → Stand place (length rs) (invoked n (length ss) q ++ CallDone n ∷ [])
      → G (Rows.called c o f q g ss) (rs ++ (invoked n (length ss) q ++ CallDone n ∷ [])) (ws ++ invoke_arcs s n t ss) (n + 1)
  unfolding Rows.called
  called_laid c rs ws n f q g o t ss h all out code region some no_cond ports leave at =
      let parts : List Part = invoked n (length ss) q in
      let d : Build = Rows.invoke (behind c o Op.Frame g) (length c.instrs) f q g ss in
      let first : G d (rs ++ parts) (ws ++ invoke_arcs s n t ss) (n + 1) =
      invoked_laid c rs ws n f q g o t ss h all out code region some no_cond ports leave (stand_left place (length rs) parts (CallDone n ∷ []) at) in
      let last = stand_right place (length rs) (length (rs ++ parts)) parts (CallDone n ∷ []) at (length-append rs parts) in
      let done = grown_added fl s place apart d (rs ++ parts) (ws ++ invoke_arcs s n t ss) (n + 1) Op.Copy Untold Unmarked g (CallDone n) first refl refl refl
      (λ x. region) last.0 in
      subst (λ xs. G (quieted d Op.Copy g) xs (ws ++ invoke_arcs s n t ss) (n + 1)) (append_assoc rs parts (CallDone n ∷ [])) done

  -- STRICT CALLS: the arguments are joined first
  record JoinedAt (j : Rows.Joined) (rs : List Part) (ws : List Wire) (n : ℕ) (t : Side) : Type 0 where
    laid : G j.build rs ws n
    out : OutAt rs j.signal t

  joined_laid : (c : Build) (rs : List Part) (ws : List Wire) (n from : ℕ) (g : Region) (o : Outlet) (t : Side) (ss : List Source) → G c rs ws n
      → All (Before n) ss → OutAt rs o t → g ≡ lies_in b n
      → Stand place (length rs) (row (Strict n) from (length ss))
      → JoinedAt (Rows.join_sources c o g ss) (rs ++ row (Strict n) from (length ss)) (ws ++ strict_wires s n from t ss) n (strict_end n from t ss)
  joined_laid c rs ws n from g o t [] h all out region at =
      record { laid = grown_same fl s place apart c rs (rs ++ []) ws (ws ++ []) n (sym (append-nil rs)) (sym (append-nil ws)) h; out = out_more rs [] o t out }
  joined_laid c rs ws n from g o t (x ∷ ss) h all out region at =
      let d : Build = meeting c Op.Sync Unmarked g o (outlet_of c x) in
      let new : List Part = Strict n from ∷ [] in
      let two : List Wire = meet_wires t (leaves s x) (Strict n from) in
      let u : Side = side (Strict n from) false in
      let met = grown_meeting fl s place apart c rs ws n Op.Sync Unmarked g o (outlet_of c x) t (leaves s x) (Strict n from) h out
      (source_out (env fl s place apart) c rs n x h.exits (All-head (Before n) x ss all)) refl refl refl (λ e. region) at.0 in
      let rest = joined_laid d (rs ++ new) (ws ++ two) n (from + 1) g (first_of (length c.instrs)) u ss met (All-tail (Before n) x ss all)
      (out_here fl s place apart c rs (Strict n from) false h.laid.size) region
      (next rs (Strict n from) (row (Strict n) (from + 1) (length ss)) at.1) in
      let j : Rows.Joined = Rows.join_sources c o g (x ∷ ss) in
      let ps : (rs ++ new) ++ row (Strict n) (from + 1) (length ss) ≡ rs ++ row (Strict n) from (length (x ∷ ss)) =
      append_assoc rs new (row (Strict n) (from + 1) (length ss)) in
      let us : (ws ++ two) ++ strict_wires s n (from + 1) u ss ≡ ws ++ strict_wires s n from t (x ∷ ss) =
      append_assoc ws two (strict_wires s n (from + 1) u ss) in
      record {
        laid =
            grown_same fl s place apart j.build ((rs ++ new) ++ row (Strict n) (from + 1) (length ss)) (rs ++ row (Strict n) from (length (x ∷ ss)))
            ((ws ++ two) ++ strict_wires s n (from + 1) u ss) (ws ++ strict_wires s n from t (x ∷ ss)) n ps us rest.laid;
        out = subst (λ xs. OutAt xs j.signal (strict_end n from t (x ∷ ss))) ps rest.out;
      }

  abbrev strict_parts : ℕ → ℕ → ℕ → List Part
  strict_parts n m q = row (Strict n) 1 (m - 1) ++ (invoked n m q ++ CallDone n ∷ [])

  pub strict_laid : (c : Build) (rs : List Part) (ws : List Wire) (n f q : ℕ) (g : Region) (ss : List Source) → G c rs ws n → All (Before n) ss → 0 < length ss
      → f ≡ callee_code (variant_in fl) b n → g ≡ lies_in b n → 0 < q
      → is_kind cond_kind b n ≡ false → port_count fl b n ≡ q → ((j : ℕ) → leaves_at s n j ≡ side (Landing n j) false)
      → Stand place (length rs) (strict_parts n (length ss) q)
      → G (Rows.strict_call c f q g ss) (rs ++ strict_parts n (length ss) q) (ws ++ strict_call_arcs s n ss) (n + 1)
  strict_laid c rs ws n f q g [] h all more code region some no_cond ports leave at = absurd (omega (arith, more))
  strict_laid c rs ws n f q g (x ∷ ss) h all more code region some no_cond ports leave at =
      let same : length ss ≡ suc (length ss) - 1 = omega arith in
      let joins : List Part = row (Strict n) 1 (length ss) in
      let rest : List Part = invoked n (suc (length ss)) q ++ CallDone n ∷ [] in
      let at2 = subst (λ k. Stand place (length rs) (row (Strict n) 1 k ++ rest)) (sym same) at in
      let o : Outlet = outlet_of c x in
      let first_out = source_out (env fl s place apart) c rs n x h.exits (All-head (Before n) x ss all) in
      let joined = joined_laid c rs ws n 1 g o (leaves s x) ss h (All-tail (Before n) x ss all) first_out region
      (stand_left place (length rs) joins rest at2) in
      let j : Rows.Joined = Rows.join_sources c o g ss in
      let last : Side = strict_end n 1 (leaves s x) ss in
      let done = called_laid j.build (rs ++ joins) (ws ++ strict_wires s n 1 (leaves s x) ss) n f q g j.signal last
      (x ∷ ss) joined.laid all joined.out code region some no_cond ports leave
      (stand_right place (length rs) (length (rs ++ joins)) joins rest at2 (length-append rs joins)) in
      let end : Build = Rows.strict_call c f q g (x ∷ ss) in
      grown_same fl s place apart end ((rs ++ joins) ++ rest) (rs ++ strict_parts n (length (x ∷ ss)) q)
      ((ws ++ strict_wires s n 1 (leaves s x) ss) ++ invoke_arcs s n last (x ∷ ss)) (ws ++ strict_call_arcs s n (x ∷ ss)) (n + 1)
      (append_assoc rs joins rest ∙ ap (λ k. rs ++ (row (Strict n) 1 k ++ rest)) same)
      (append_assoc ws (strict_wires s n 1 (leaves s x) ss) (invoke_arcs s n last (x ∷ ss))) done

  -- LOOPS
  abbrev credit_parts : ℕ → List Part
  credit_parts n = Giver n ∷ Taker n ∷ Drainer n ∷ LoopDone n ∷ []

  credits_laid : (c : Build) (rs : List Part) (ws : List Wire) (n k m : ℕ) (g : Region) → G c rs ws m → k ≡ bound_at b n → g ≡ lies_in b n
      → Stand place (length rs) (credit_parts n)
      → G (Rows.credits c k g) (rs ++ credit_parts n) (ws ++ credit_arcs n) m
  credits_laid c rs ws n k m g h bound region at =
      let p1 : List Part = rs ++ Giver n ∷ [] in
      let p2 : List Part = p1 ++ Taker n ∷ [] in
      let p3 : List Part = p2 ++ Drainer n ∷ [] in
      let c1 : Build = quieted c (Op.Give k) g in
      let c2 : Build = quieted c1 (Op.Take k) g in
      let c3 : Build = quieted c2 (Op.Drain k) g in
      let c4 : Build = behind c3 (first_of (length c.instrs)) Op.Copy g in
      let long1 = length_push rs (Giver n) in
      let long2 = length_push p1 (Taker n) in
      let long3 = length_push p2 (Drainer n) in
      let a2 = at.1.1.0 in
      let a3 = at.1.1.1.0 in
      let g1 : G c1 p1 ws m = grown_added fl s place apart c rs ws m (Op.Give k) Untold Unmarked g (Giver n) h (ap (λ i. Op.Give i) bound) refl refl
      (λ x. region) at.0 in
      let g2 : G c2 p2 ws m = grown_added fl s place apart c1 p1 ws m (Op.Take k) Untold Unmarked g (Taker n) g1 (ap (λ i. Op.Take i) bound) refl refl
      (λ x. region) (at.1.0 ∙ sym long1) in
      let g3 : G c3 p3 ws m = grown_added fl s place apart c2 p2 ws m (Op.Drain k) Untold Unmarked g (Drainer n) g2 (ap (λ i. Op.Drain i) bound) refl refl
      (λ x. region) (omega (arith, a2, long1, long2)) in
      let give : OutAt p1 (first_of (length c.instrs)) (side (Giver n) false) = out_here fl s place apart c rs (Giver n) false h.laid.size in
      let drain : OutAt p3 (first_of (length c2.instrs)) (side (Drainer n) false) = out_here fl s place apart c2 p2 (Drainer n) false g2.laid.size in
      let give3 : OutAt p3 (first_of (length c.instrs)) (side (Giver n) false)
      =
      out_more p2 (Drainer n ∷ []) (first_of (length c.instrs)) (side (Giver n) false)
      (out_more p1 (Taker n ∷ []) (first_of (length c.instrs)) (side (Giver n) false) give) in
      let w1 : List Wire = wire (side (Giver n) false) (LoopDone n) Left ∷ [] in
      let g4 : G c4 (p3 ++ LoopDone n ∷ []) (ws ++ w1) m =
      grown_behind fl s place apart c3 p3 ws m (first_of (length c.instrs)) (side (Giver n) false) Op.Copy g (LoopDone n) g3 give3 refl refl refl (λ x. region)
      (omega (arith, a3, long1, long2, long3)) in
      let size = g3.laid.size in
      let g5 = grown_linked fl s place apart c4 p3 (ws ++ w1) m (first_of (length c2.instrs)) (length c3.instrs)
      (wire (side (Drainer n) false) (LoopDone n) Left) g4 drain (omega (arith, a3, long1, long2, long3, size)) in
      grown_same fl s place apart (Rows.credits c k g) (p3 ++ LoopDone n ∷ []) (rs ++ credit_parts n)
      ((ws ++ w1) ++ wire (side (Drainer n) false) (LoopDone n) Left ∷ []) (ws ++ credit_arcs n) m
      (four rs (Giver n ∷ []) (Taker n ∷ []) (Drainer n ∷ []) (LoopDone n ∷ [])) (append_assoc ws w1 (wire (side (Drainer n) false) (LoopDone n) Left ∷ [])) g5
    where
      four : {X : Type 0} (u a c d e : List X) → (((u ++ a) ++ c) ++ d) ++ e ≡ u ++ (a ++ (c ++ (d ++ e)))
      four u a c d e = simp append_assoc

  abbrev loop_parts : ℕ → ℕ → List Part
  loop_parts n m = Opener n ∷ invoked n m m ++ credit_parts n

  abbrev loop_arcs : ℕ → Side → List Source → List Wire
  loop_arcs n t ss = wire t (Opener n) Left ∷ (invoke_arcs s n (side (Opener n) false) ss ++ credit_arcs n)

  pub loop_laid : (c : Build) (rs : List Part) (ws : List Wire) (n f k : ℕ) (g : Region) (ss : List Source) (t : Side) → G c rs ws n → All (Before n) ss
      → OutAt rs (trigger_of c g) t → 0 < length ss → f ≡ callee_code (variant_in fl) b n → k ≡ bound_at b n
      → g ≡ lies_in b n → is_kind cond_kind b n ≡ false → port_count fl b n ≡ length ss → ((j : ℕ) → leaves_at s n j ≡ side (Landing n j) false)
      → Stand place (length rs) (loop_parts n (length ss)) → G (Rows.repeat c f k g ss) (rs ++ loop_parts n (length ss)) (ws ++ loop_arcs n t ss) (n + 1)
  loop_laid c rs ws n f k g ss t h all out some code bound region no_cond ports leave at =
      let m : ℕ = length ss in
      let p1 : List Part = rs ++ Opener n ∷ [] in
      let w1 : List Wire = wire t (Opener n) Left ∷ [] in
      let c1 : Build = behind c (trigger_of c g) (Op.Open k) g in
      let c2 : Build = Rows.invoke (behind c1 (first_of (length c.instrs)) Op.Frame g) (length c1.instrs) f m g ss in
      let arcs : List Wire = invoke_arcs s n (side (Opener n) false) ss in
      let g1 : G c1 p1 (ws ++ w1) n = grown_behind fl s place apart c rs ws n (trigger_of c g) t (Op.Open k) g (Opener n) h out
      (ap (λ i. Op.Open i) bound) refl refl (λ x. region) at.0 in
      let open_out = out_here fl s place apart c rs (Opener n) false h.laid.size in
      let rest_at = next rs (Opener n) (invoked n m m ++ credit_parts n) at.1 in
      let g2 : G c2 (p1 ++ invoked n m m) ((ws ++ w1) ++ arcs) (n + 1) =
      invoked_laid c1 p1 (ws ++ w1) n f m g (first_of (length c.instrs)) (side (Opener n) false) ss g1 all open_out code region some no_cond ports leave
      (stand_left place (length p1) (invoked n m m) (credit_parts n) rest_at) in
      let done = credits_laid c2 (p1 ++ invoked n m m) ((ws ++ w1) ++ arcs) n k (n + 1) g g2 bound region
      (stand_right place (length p1) (length (p1 ++ invoked n m m)) (invoked n m m) (credit_parts n) rest_at (length-append p1 (invoked n m m))) in
      grown_same fl s place apart (Rows.repeat c f k g ss) ((p1 ++ invoked n m m) ++ credit_parts n) (rs ++ loop_parts n m)
      (((ws ++ w1) ++ arcs) ++ credit_arcs n) (ws ++ loop_arcs n t ss) (n + 1)
      (three rs (Opener n ∷ []) (invoked n m m) (credit_parts n)) (three ws w1 arcs (credit_arcs n)) done
    where
      three : {X : Type 0} (u a c d : List X) → ((u ++ a) ++ c) ++ d ≡ u ++ (a ++ (c ++ d))
      three u a c d = simp append_assoc
