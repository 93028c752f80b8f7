-- Operators of two operands, fetches and stores, where a run reaches their operands.
use Rattle.std.proofs.Common.{◌≡◌, ℕ, ◌+◌, List, [], ◌∷◌, ◌++◌, length, reverse, Some, None, Ok, Contains, inl, inr, refl, sym, ap, ◌∙◌, subst, subst₂, ⊎_elim}
use Rattle.std.proofs.lemmas.Option.{same_Some}
use Rattle.lemmas.proofs.Contains.{contains_none, contains_head, contains_cases}
use Rattle.tags.specs.declared.value.Value.{Value}
use Rattle.operators.specs.Values.{Indexed, Place, Outside, index_in}
use Rattle.semantics.specs.declared.graph.Source.{Source}
use Rattle.semantics.specs.declared.graph.Kind.TheVariants as node
use Rattle.semantics.specs.Graph as graph
use Rattle.semantics.specs.Graph.{array_names, first_cell, array_len}
use Rattle.semantics.specs.Meaning as Meaning
use Rattle.semantics.specs.Meaning.{Context, Memory, Says, Sends, Fires, fetched, stored}
use Rattle.source.specs.declared.word.InfixSign.{InfixSign}
use Rattle.source.specs.declared.word.InfixSign.TheVariants.{Direct, Greater, AtLeast}
use Rattle.source.specs.Tree.{Name, Expr}
use Rattle.source.specs.Fits.{Fits}
use Rattle.source.specs.Outside.{uses}
use Rattle.source.specs.Rules.{values}
use Rattle.source.specs.Evaluates as eval
use Rattle.source.specs.Evaluates.{Env, Stores, Evaluates, infix_, operated, place_in, counted_from, answer, filled}
use Rattle.source.specs.Lowered.{Lowered, Site, Spot, Scope, made, joined, ended, operator_of, operands, lower, spot_after, ports_from}
use Rattle.source.proofs.Kept.{in_infix, in_fetch, in_store}
use Rattle.law_language.specs.MeansHolds.{resolved}
use Rattle.law_language.proofs.MeansNamesAgree.{agrees_split}
use Rattle.law_language.proofs.MeansLeaves.{append_nothing}
use Rattle.law_language.proofs.MeansCells.{cell_named}
use Rattle.law_ordered_runs.specs.InOrder.{reading, filling, touches}
use Rattle.law_ordered_runs.proofs.Extending.{Extended, on_then, read_gives, read_memory, filled_gives, filled_full, filled_other}
use Rattle.law_ordered_runs.proofs.Lines.{line_happens}
use Rattle.law_ordered_runs.proofs.Memory.{ReadsFull, Changed, fills, fills_both, reads_both, reads_more, ready_first, ready_then, changed_both, changed_same}
use Rattle.law_ordered_runs.proofs.Staying.{agrees_on, active_on}
use Rattle.law_ordered_runs.proofs.Reaching.{Land, RunOf, flow, world_of, cells_of, HaveX, KnownX, ActiveX, ReadyX, Reaches, ExprReaches, Ending, first_in, rest_in}
use Rattle.law_ordered_runs.proofs.Reaching.{ending, line_does, line_says}
use Rattle.law_ordered_runs.proofs.ReachingParts.{both_parts}

-- TWO OPERANDS, one after the other
module _ (z : Land) (c : Context) where
  pub operands_reached : {env : Env} {a b : Value} {ss us : Stores} (e f : Expr) (d : Evaluates (world_of z) env e (a ∷ []) ss)
      (g : Evaluates (world_of z) env f (b ∷ []) us)
      → ExprReaches z c d → ExprReaches z c g → (x : RunOf z) (site : Site) (spot : Spot) (scope : Scope) (names : List Name)
      → Fits e → Fits f → values z.program names e ≡ Ok 1 → values z.program names f ≡ Ok 1
      → ActiveX z x c site spot (joined (lower z.program site spot scope e) (lower z.program site (spot_after spot (lower z.program site spot scope e)) scope f))
      → KnownX z x c scope env (uses e ++ uses f) → ReadyX z x (ss ++ us) (touches d ++ touches g)
      → Reaches z x c spot.next
      (spot.next + length (joined (lower z.program site spot scope e) (lower z.program site (spot_after spot (lower z.program site spot scope e)) scope f)).nodes)
      ((lower z.program site spot scope e).sources ++ (lower z.program site (spot_after spot (lower z.program site spot scope e)) scope f).sources)
      (a ∷ b ∷ []) (ss ++ us)
  operands_reached {env = env} {a = a} {b = b} {ss = ss} {us = us} e f d g left right x site spot scope names fe ff re rf h known ready =
      let l : Lowered = lower z.program site spot scope e in
      let k : Lowered = lower z.program site (spot_after spot l) scope f in
      let agree = agrees_split (flow z) z.inputs x.run x.state x.is_run c scope env (uses e) (uses f) known in
      let before : ActiveX z x c site spot l = first_in z x c site spot l (joined l k) k.nodes k.blocks refl refl h in
      let behind : ActiveX z x c site (spot_after spot l) k = rest_in z x c site spot l k (joined l k) refl refl h in
      let r = left x site spot scope names 1 fe re before agree.0 (ready_first z.memory (cells_of z x) ss us (touches d) (touches g) ready) in
      let q = right r.to site (spot_after spot l) scope names 1 ff rf
      (active_on z.graph z.inputs z.well z.count x r.to r.on z.program z.origin c site (spot_after spot l) k behind)
      (agrees_on z.graph z.inputs z.well z.count x r.to r.on c scope env (uses f) agree.1)
      (ready_then z.memory (cells_of z x) (cells_of z r.to) ss us (touches d) (touches g) ready r.on.cells r.changed (fills d)) in
      both_parts z x c spot.next l.nodes k.nodes l.sources k.sources (a ∷ []) (b ∷ []) ss us r q

-- `>` and `>=` have their operands swapped
swapped : (z : Land) (x : RunOf z) (c : Context) (lo hi : ℕ) (ls ks : List Source) (a b : Value) (ss : Stores)
    → Reaches z x c lo hi (ls ++ ks) (a ∷ b ∷ []) ss → Reaches z x c lo hi (reverse (ls ++ ks)) (b ∷ a ∷ []) ss
swapped z x c lo hi ls ks a b ss r = record { to = r.to; on = r.on; does = r.does; have = turned (ls ++ ks) r.have; changed = r.changed }
  where
    turned : (ss : List Source) → HaveX z r.to c ss (a ∷ b ∷ []) → HaveX z r.to c (reverse ss) (b ∷ a ∷ [])
    turned [] h = absurd h
    turned (s ∷ []) h = absurd h.1
    turned (s ∷ t ∷ []) h = (h.1.0, (h.0, tt))
    turned (s ∷ t ∷ u ∷ ss) h = absurd h.1.1

infix_line : (z : Land) (x : RunOf z) (c : Context) (site : Site) (spot : Spot) (m : Lowered) (at : ℕ) (sign : InfixSign) (ls ks : List Source) (a b : Value)
    (ss : Stores)
    → Ending z x c site spot m at (node.Apply2 (operator_of sign)) (operands sign (ls ++ ks))
    → Reaches z x c spot.next (spot.next + length m.nodes) (ls ++ ks) (a ∷ b ∷ []) ss
    → Reaches z x c spot.next (spot.next + length (m.nodes ++ made site at (node.Apply2 (operator_of sign)) (operands sign (ls ++ ks)) ∷ []))
    (ports_from (spot.next + length m.nodes) 0 1) (operated sign a b (z.origin at) ∷ []) ss
infix_line z x c site spot m at (Direct op) ls ks a b ss end r =
    line_says z x c site spot m at (node.Apply2 op) (ls ++ ks) (a ∷ b ∷ []) (operated (Direct op) a b (z.origin at)) ss end tt r
    (ap (λ o. Some (Says (Sends c (spot.next + length m.nodes) 0 (operated (Direct op) a b o)))) (end.traced tt))
infix_line z x c site spot m at Greater ls ks a b ss end r =
    line_says z x c site spot m at (node.Apply2 (operator_of Greater)) (reverse (ls ++ ks)) (b ∷ a ∷ []) (operated Greater a b (z.origin at)) ss end tt
    (swapped z x c spot.next (spot.next + length m.nodes) ls ks a b ss r) (ap (λ o. Some (Says (Sends c (spot.next + length m.nodes) 0 (operated Greater a b o)))) (end.traced tt))
infix_line z x c site spot m at AtLeast ls ks a b ss end r =
    line_says z x c site spot m at (node.Apply2 (operator_of AtLeast)) (reverse (ls ++ ks)) (b ∷ a ∷ []) (operated AtLeast a b (z.origin at)) ss end tt
    (swapped z x c spot.next (spot.next + length m.nodes) ls ks a b ss r) (ap (λ o. Some (Says (Sends c (spot.next + length m.nodes) 0 (operated AtLeast a b o)))) (end.traced tt))

-- A FETCH of a cell that is full, or of none
fetch_line : (z : Land) (x : RunOf z) (c : Context) (site : Site) (spot : Spot) (l : Lowered) (at : ℕ) (a : Name) (i v : Value) (ss : Stores)
    (end : Ending z x c site spot l at (node.Fetch a) l.sources) (r : Reaches z x c spot.next (spot.next + length l.nodes) l.sources (i ∷ []) ss)
    → ((q : ℕ) (w : Value) → cells_of z r.to q ≡ Some w → z.memory q ≡ Some w)
    → (ix : Indexed) → index_in (array_len (flow z) (graph.place_of a (array_names z.graph))) i (z.origin at) ≡ ix
    → eval.Reads (world_of z) (counted_from (first_cell (flow z) (graph.place_of a (array_names z.graph))) ix) v
    → ReadsFull (λ q. (w : Value) × (cells_of z r.to q ≡ Some w)) (reading (counted_from (first_cell (flow z) (graph.place_of a (array_names z.graph))) ix))
    → Reaches z x c spot.next (spot.next + length (l.nodes ++ made site at (node.Fetch a) l.sources ∷ [])) (ports_from (spot.next + length l.nodes) 0 1) (v ∷ []) ss
fetch_line z x c site spot l at a i v ss end r sound (Outside f) e reads full =
    let array : ℕ = graph.place_of a (array_names z.graph) in
    let base : ℕ = first_cell (flow z) array in
    let own : ℕ = spot.next + length l.nodes in
    let end_at : ℕ = spot.next + length (l.nodes ++ made site at (node.Fetch a) l.sources ∷ []) in
    subst (λ v. Reaches z x c spot.next end_at (ports_from own 0 1) (v ∷ []) ss) (sym reads)
    (line_says z x c site spot l at (node.Fetch a) l.sources (i ∷ []) f ss end tt r
    (ap (λ o. Some (fetched c own base (index_in (array_len (flow z) array) i o))) (end.traced tt) ∙ ap (λ ix. Some (fetched c own base ix)) e))
fetch_line z x c site spot l at a i v ss end r sound (Place k) e reads full =
    let array : ℕ = graph.place_of a (array_names z.graph) in
    let base : ℕ = first_cell (flow z) array in
    let own : ℕ = spot.next + length l.nodes in
    let line = resolved z.graph (made site at (node.Fetch a) l.sources) in
    let same : full.0.0 ≡ v = same_Some full.0.0 v (sym (sound (base + k) full.0.0 full.0.1) ∙ reads) in
    let more : Extended z.graph z.inputs z.well z.count r.to (Fires c own (i ∷ [])) (Meaning.Reads c own (base + k)) =
    line_happens z.graph z.inputs z.well z.count r.to c end.block end.is_block own line end.line_at (i ∷ []) (Meaning.Reads c own (base + k)) r.have
    (ap (λ o. Some (fetched c own base (index_in (array_len (flow z) array) i o))) (end.traced tt) ∙ ap (λ ix. Some (fetched c own base ix)) e) full.0 in
    let end_at : ℕ = spot.next + length (l.nodes ++ made site at (node.Fetch a) l.sources ∷ []) in
    subst (λ v. Reaches z x c spot.next end_at (ports_from own 0 1) (v ∷ []) ss) same
    (record {
      to = more.to;
      on = on_then z.graph z.inputs z.well z.count x r.to more.to r.on more.on;
      does = line_does z x c site spot l at (node.Fetch a) l.sources (i ∷ []) ss (Meaning.Reads c own (base + k)) end tt r more;
      have = (read_gives z.graph z.inputs z.well z.count r.to (Fires c own (i ∷ [])) c own (base + k) full.0.0 more full.0.1, tt);
      changed = changed_same (cells_of z x) (cells_of z r.to) (cells_of z more.to) ss
          (sym (ap (λ (m : Memory). m.cells) (read_memory z.graph z.inputs z.well z.count r.to (Fires c own (i ∷ [])) c own (base + k) more))) r.changed;
    })

-- A STORE to an empty cell, or to none
store_line : (z : Land) (x : RunOf z) (c : Context) (site : Site) (spot : Spot) (m : Lowered) (at : ℕ) (a : Name) (i v : Value) (ss : Stores)
    (end : Ending z x c site spot m at (node.Store a) m.sources) (r : Reaches z x c spot.next (spot.next + length m.nodes) m.sources (i ∷ v ∷ []) ss)
    → (ix : Indexed) → index_in (array_len (flow z) (graph.place_of a (array_names z.graph))) i (z.origin at) ≡ ix
    → ((q : ℕ) (w : Value) → Contains (filled (counted_from (first_cell (flow z) (graph.place_of a (array_names z.graph))) ix) v) (q, w)
    → cells_of z r.to q ≡ None)
    → Reaches z x c spot.next (spot.next + length (m.nodes ++ made site at (node.Store a) m.sources ∷ [])) (ports_from (spot.next + length m.nodes) 0 1)
    (answer (counted_from (first_cell (flow z) (graph.place_of a (array_names z.graph))) ix) v ∷ [])
    (ss ++ filled (counted_from (first_cell (flow z) (graph.place_of a (array_names z.graph))) ix) v)
store_line z x c site spot m at a i v ss end r (Outside f) e empty =
    let array : ℕ = graph.place_of a (array_names z.graph) in
    let base : ℕ = first_cell (flow z) array in
    let own : ℕ = spot.next + length m.nodes in
    let end_at : ℕ = spot.next + length (m.nodes ++ made site at (node.Store a) m.sources ∷ []) in
    subst (λ ss. Reaches z x c spot.next end_at (ports_from own 0 1) (f ∷ []) ss) (sym (append_nothing ss))
    (line_says z x c site spot m at (node.Store a) m.sources (i ∷ v ∷ []) f ss end tt r
    (ap (λ o. Some (stored c own base v (index_in (array_len (flow z) array) i o))) (end.traced tt) ∙ ap (λ ix. Some (stored c own base v ix)) e))
store_line z x c site spot m at a i v ss end r (Place k) e empty =
    let array : ℕ = graph.place_of a (array_names z.graph) in
    let base : ℕ = first_cell (flow z) array in
    let own : ℕ = spot.next + length m.nodes in
    let line = resolved z.graph (made site at (node.Store a) m.sources) in
    let act = Fires c own (i ∷ v ∷ []) in
    let one : Stores = (base + k, v) ∷ [] in
    let more : Extended z.graph z.inputs z.well z.count r.to act (Meaning.Fills c own (base + k) v) =
    line_happens z.graph z.inputs z.well z.count r.to c end.block end.is_block own line end.line_at (i ∷ v ∷ []) (Meaning.Fills c own (base + k) v) r.have
    (ap (λ o. Some (stored c own base v (index_in (array_len (flow z) array) i o))) (end.traced tt) ∙ ap (λ ix. Some (stored c own base v ix)) e)
    (empty (base + k) v (contains_head (base + k, v) [])) in
    let full = filled_full z.graph z.inputs z.well z.count r.to act c own (base + k) v more in
    let mine : Changed (cells_of z r.to) (cells_of z more.to) one =
    record {
      full = λ q w h. ⊎_elim (λ (e : (base + k, v) ≡ (q, w)).
          subst₂ (λ q w. cells_of z more.to q ≡ Some w) (ap (λ (t : ℕ × Value). t.0) e) (ap (λ (t : ℕ × Value). t.1) e) full)
          (λ n. absurd (contains_none (q, w) n)) (contains_cases (base + k, v) [] (q, w) h);
      other = λ q. ⊎_elim (λ e. inl e) (λ (e : base + k ≡ q). inr (v, subst (λ q. Contains one (q, v)) e (contains_head (base + k, v) [])))
          (filled_other z.graph z.inputs z.well z.count r.to act c own (base + k) v more q);
    } in
    record {
      to = more.to;
      on = on_then z.graph z.inputs z.well z.count x r.to more.to r.on more.on;
      does = line_does z x c site spot m at (node.Store a) m.sources (i ∷ v ∷ []) ss (Meaning.Fills c own (base + k) v) end tt r more;
      have = (filled_gives z.graph z.inputs z.well z.count r.to act c own (base + k) v more, tt);
      changed = changed_both (cells_of z x) (cells_of z r.to) (cells_of z more.to) ss one more.on.cells r.changed mine;
    }

module _ (z : Land) (c : Context) where
  pub reaches_infix : {env : Env} {a b : Value} {ss us : Stores} (at : ℕ) (sign : InfixSign) (e f : Expr) (d : Evaluates (world_of z) env e (a ∷ []) ss)
      (g : Evaluates (world_of z) env f (b ∷ []) us) → ExprReaches z c d → ExprReaches z c g → ExprReaches z c (infix_ {t = at} {sign = sign} d g)
  reaches_infix {a = a} {b = b} {ss = ss} {us = us} at sign e f d g left right x site spot scope names n fits rule h known ready =
      let l : Lowered = lower z.program site spot scope e in
      let k : Lowered = lower z.program site (spot_after spot l) scope f in
      let qs : List Source = operands sign (l.sources ++ k.sources) in
      let m : Lowered = ended site spot (joined l k) at (node.Apply2 (operator_of sign)) qs 1 in
      let rules = in_infix z.program names at sign e f n rule in
      let all : ActiveX z x c site spot (joined l k) = first_in z x c site spot (joined l k) m (made site at (node.Apply2 (operator_of sign)) qs ∷ []) [] refl
      (sym (append_nothing (joined l k).blocks)) h in
      infix_line z x c site spot (joined l k) at sign l.sources k.sources a b (ss ++ us)
      (ending z x c site spot (joined l k) at (node.Apply2 (operator_of sign)) qs 1 h)
      (operands_reached z c e f d g left right x site spot scope names fits.0 fits.2 rules.0.values rules.1.values all known ready)

  pub reaches_fetch : {env : Env} {i : Value} {ss : Stores} (v : Value) (at : ℕ) (a : Name) (e : Expr) (d : Evaluates (world_of z) env e (i ∷ []) ss)
      (r : eval.Reads (world_of z) (place_in (world_of z) at a i) v) → ExprReaches z c d → ExprReaches z c (eval.fetch {t = at} {a = a} d r)
  reaches_fetch {i = i} {ss = ss} v at a e d r means x site spot scope names n fits rule h known ready =
      let l : Lowered = lower z.program site spot scope e in
      let m : Lowered = ended site spot l at (node.Fetch a) l.sources 1 in
      let rules = in_fetch z.program names at a e n rule in
      let before : ActiveX z x c site spot l = first_in z x c site spot l m (made site at (node.Fetch a) l.sources ∷ []) [] refl
      (sym (append_nothing l.blocks)) h in
      let parts = reads_both _ (touches d) (reading (place_in (world_of z) at a i)) ready.reads in
      let out = means x site spot scope names 1 fits rules.1.values before known
      (record { sound = ready.sound; stores = ready.stores; empty = ready.empty; once = ready.once; reads = parts.0 }) in
      let named = cell_named z.program z.graph z.is_graph a i (z.origin at) rules.0 in
      let full = reads_more _ (λ q. (w : Value) × (cells_of z out.to q ≡ Some w))
      (λ q k. ⊎_elim (λ (w : (w : Value) × (cells_of z x q ≡ Some w)). (w.0, out.on.cells q w.0 w.1))
      (λ k. (let s = fills d q k in (s.0, out.changed.full q s.0 s.1))) k) (reading (place_in (world_of z) at a i)) parts.1 in
      fetch_line z x c site spot l at a i v ss (ending z x c site spot l at (node.Fetch a) l.sources 1 h) out
      (λ q w k. ⊎_elim (λ e. ready.sound q w (sym e ∙ k)) (λ (s : (u : Value) × Contains ss (q, u)). ready.stores q s.0 s.1 ∙ sym (out.changed.full q s.0 s.1) ∙ k)
      (out.changed.other q))
      (index_in (array_len (flow z) (graph.place_of a (array_names z.graph))) i (z.origin at)) refl
      (subst (λ ix. eval.Reads (world_of z) ix v) named r)
      (subst (λ ix. ReadsFull (λ q. (w : Value) × (cells_of z out.to q ≡ Some w)) (reading ix)) named full)

  pub reaches_store : {env : Env} {i v : Value} {ss us : Stores} (at : ℕ) (a : Name) (e f : Expr) (d : Evaluates (world_of z) env e (i ∷ []) ss)
      (g : Evaluates (world_of z) env f (v ∷ []) us) → ExprReaches z c d → ExprReaches z c g → ExprReaches z c (eval.store {t = at} {a = a} d g)
  reaches_store {i = i} {v = v} {ss = ss} {us = us} at a e f d g left right x site spot scope names n fits rule h known ready =
      let l : Lowered = lower z.program site spot scope e in
      let k : Lowered = lower z.program site (spot_after spot l) scope f in
      let both : Lowered = joined l k in
      let m : Lowered = ended site spot both at (node.Store a) both.sources 1 in
      let rules = in_store z.program names at a e f n rule in
      let all : ActiveX z x c site spot both = first_in z x c site spot both m (made site at (node.Store a) both.sources ∷ []) [] refl
      (sym (append_nothing both.blocks)) h in
      let place : Indexed = place_in (world_of z) at a i in
      let r = operands_reached z c e f d g left right x site spot scope names fits.0 fits.1 rules.1.values rules.2.values all known
      (ready_first z.memory (cells_of z x) (ss ++ us) (filled place v) (touches d ++ touches g) (filling place) ready) in
      let named = cell_named z.program z.graph z.is_graph a i (z.origin at) rules.0 in
      let later = ready_then z.memory (cells_of z x) (cells_of z r.to) (ss ++ us) (filled place v) (touches d ++ touches g) (filling place) ready r.on.cells
      r.changed (fills_both (touches d) (touches g) ss us (fills d) (fills g)) in
      subst (λ ix. Reaches z x c spot.next (spot.next + length m.nodes) m.sources (answer ix v ∷ []) (ss ++ us ++ filled ix v)) (sym named)
      (store_line z x c site spot both at a i v (ss ++ us) (ending z x c site spot both at (node.Store a) both.sources 1 h) r
      (index_in (array_len (flow z) (graph.place_of a (array_names z.graph))) i (z.origin at)) refl
      (subst (λ ix. (q : ℕ) (w : Value) → Contains (filled ix v) (q, w) → cells_of z r.to q ≡ None) named (λ q w k. later.empty q w k)))
