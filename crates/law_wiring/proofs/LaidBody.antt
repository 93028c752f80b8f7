-- The entries, the nodes and the results of a block are laid out as they are written down.
use Rattle.std.proofs.Common.{◌≡◌, ℕ, zero, suc, ◌+◌, ◌-◌, ◌<◌, ◌≤◌, Bool, true, false, List, [], ◌∷◌, ◌++◌, length, refl, sym, ap, ◌∙◌, subst, arith}
use Rattle.std.proofs.Common.{append-nil, append_assoc, if◌then◌else◌, Some, None, Option, All, length-append}
use Rattle.std.specs.Prelude.{slice_get}
use Rattle.std.proofs.lemmas.List.Elements.{All-head, All-tail}
use Rattle.std.proofs.lemmas.Bool.{lt-ltb}
use Rattle.tags.specs.declared.value.Origin.TheVariants.{Untold}
use Rattle.tags.specs.declared.token.Port.TheVariants.{Left, Right}
use Rattle.semantics.specs.declared.graph.Region.{Region}
use Rattle.semantics.specs.declared.graph.Region.TheVariants.{Root, Arm}
use Rattle.semantics.specs.declared.graph.Source.{Source}
use Rattle.semantics.specs.declared.graph.Kind.{Kind}
use Rattle.semantics.specs.declared.graph.Kind.TheVariants.{Lit, Apply1, Apply2, Cond, Enter, Merge, Fetch, Store, Call, StrictCall, Loop}
use Rattle.semantics.specs.declared.program.Mark.TheVariants.{Unmarked}
use Rattle.semantics.specs.declared.program.Op.{Op}
use Rattle.semantics.specs.Graph.{Node, Block, Flow, node_at}
use Rattle.semantics.specs.Meaning.{arm_of, origin_in}
use Rattle.schemas.specs.Scopes.{Scope}
use Rattle.schemas.specs.Builds.{Build, nothing, first_of, added, quieted, outlet_of, trigger_of, meeting}
use Rattle.schemas.specs.Rows as Rows
use Rattle.schemas.specs.Tails.{returns}
use Rattle.schemas.specs.Blocks as Expansion
use Rattle.schemas.specs.Blocks.{repeated, with_kind, with_nodes, with_inputs, entries, body, variant_of}
use Rattle.law_net.specs.ContextsParts.{Part, Entry, Line, Result, same_part}
use Rattle.law_net.specs.ContextsBlocks as Blocks
use Rattle.law_net.specs.ContextsBlocks.{Side, side, Site, kind_op, is_kind, cond_kind, callee_code, code_called, bound_at, bound_in}
use Rattle.law_net.specs.ContextsExpanded.{row, variant_in}
use Rattle.law_wiring.specs.Written.{Wire, wire, is_shared, is_triggered, exit_of, leaves, trigger_side, result_wires, kind_parts, node_parts}
use Rattle.law_wiring.specs.WrittenFit.{IsCallee, kind_ports, IsPrior, IsLineFit, IsFit}
use Rattle.law_wiring.proofs.Laid.{IsLaid, laid_added, source_out}
use Rattle.law_wiring.proofs.PartsStanding.{Stand, stand_left, stand_right, stand_row, row_length, row_push}
use Rattle.law_wiring.proofs.LaidArcs.{kind_arcs, node_arcs}
use Rattle.law_wiring.proofs.LaidNodes.{env, scope, Grown, grown_same, grown_added, grown_meeting, leaves_by, leaves_there, its_region, its_exit, its_cond}
use Rattle.law_wiring.proofs.LaidNodes.{its_ports, operator_laid, answered_laid, merge_laid, cond_laid, enter_laid}
use Rattle.law_wiring.proofs.LaidCalls.{signal_out, called_laid, strict_laid, loop_laid}

pub outputs_same : (o : Option (Block ℕ)) → Expansion.outputs_in o ≡ Blocks.outputs_in o
outputs_same None = refl
outputs_same (Some b) = refl

some_results : (fl : Flow) (f m : ℕ) → IsCallee fl f m → 0 < Blocks.outputs_in (slice_get fl.blocks f)
some_results fl f m c = let e = ap Blocks.outputs_in c.there in let l = c.some_output in omega (arith, e, l)

module _ (fl : Flow) (s : Site) (place : Part → ℕ) (apart : (r q : Part) → same_part r q ≡ true → place r ≡ place q) (fit : IsFit fl s.block) where
  abbrev b : Block ℕ
  b = s.block

  abbrev G : Build → List Part → List Wire → ℕ → Type 0
  G c rs ws n = Grown fl s place apart c rs ws n

  abbrev Sc : Scope
  Sc = scope fl s

  its_code : (n : ℕ) (node : Node ℕ) → node_at b n ≡ Some node → callee_code (variant_in fl) b n ≡ code_called (variant_in fl) node.kind
  its_code n node e = ap (λ o. elim o as (λ x. ℕ) [ None ↦ 0 | Some line ↦ code_called (variant_in fl) line.kind ]) e

  its_bound : (n : ℕ) (node : Node ℕ) → node_at b n ≡ Some node → bound_at b n ≡ bound_in node.kind
  its_bound n node e = ap (λ o. elim o as (λ x. ℕ) [ None ↦ 0 | Some line ↦ bound_in line.kind ]) e

  kind_laid : (c : Build) (rs : List Part) (ws : List Wire) (n : ℕ) (r : Region) (k : Kind ℕ) (ss : List Source) → G c rs ws n
      → node_at b n ≡ Some (record { region = r; kind = k; sources = ss })
      → IsLineFit fl b n (record { region = r; kind = k; sources = ss }) → Stand place (length rs) (kind_parts fl s n (length ss) k)
      → G (with_kind c Sc n k r ss) (rs ++ kind_parts fl s n (length ss) k) (ws ++ kind_arcs s n r k ss) (n + 1)
  unfolding with_kind repeated
  kind_laid c rs ws n r (Lit z) ss h e f at =
      let node : Node ℕ = record { region = r; kind = Lit z; sources = ss } in
      operator_laid fl s place apart c rs ws n node (Op.Lit z) h e refl
      (leaves_by fl s place apart n node (side (Line n) false) e (λ q. refl) refl refl) f.earlier at.0
  kind_laid c rs ws n r (Apply1 op) ss h e f at =
      let node : Node ℕ = record { region = r; kind = Apply1 op; sources = ss } in
      operator_laid fl s place apart c rs ws n node (Op.Apply1 op) h e refl
      (leaves_by fl s place apart n node (side (Line n) false) e (λ q. refl) refl refl) f.earlier at.0
  kind_laid c rs ws n r (Apply2 op) ss h e f at =
      let node : Node ℕ = record { region = r; kind = Apply2 op; sources = ss } in
      operator_laid fl s place apart c rs ws n node (Op.Apply2 op) h e refl
      (leaves_by fl s place apart n node (side (Line n) false) e (λ q. refl) refl refl) f.earlier at.0
  kind_laid c rs ws n r Cond ss h e f at = cond_laid fl s place apart c rs ws n r ss (is_triggered b n) refl h e f.takes f.earlier at
  kind_laid c rs ws n Root Enter ss h e f at = absurd (f.lies.0 refl)
  kind_laid c rs ws n (Arm k t) Enter ss h e f at = enter_laid fl s place apart fit c rs ws n k t ss h e at.0
  kind_laid c rs ws n r (Merge k) ss h e f at = merge_laid fl s place apart c rs ws n k r ss h e f.earlier at.0
  kind_laid c rs ws n r (Fetch a) ss h e f at =
      let node : Node ℕ = record { region = r; kind = Fetch a; sources = ss } in
      answered_laid fl s place apart c rs ws n node (Op.Fetch a) (is_shared s n) h e refl
      (leaves_by fl s place apart n node (exit_of s n 0 r (Fetch a)) e (λ q. refl) refl refl) f.earlier at
  kind_laid c rs ws n r (Store a) ss h e f at =
      let node : Node ℕ = record { region = r; kind = Store a; sources = ss } in
      answered_laid fl s place apart c rs ws n node (Op.Store a) (is_shared s n) h e refl
      (leaves_by fl s place apart n node (exit_of s n 0 r (Store a)) e (λ q. refl) refl refl) f.earlier at
  kind_laid c rs ws n r (Call g) ss h e f at =
      let node : Node ℕ = record { region = r; kind = Call g; sources = ss } in
      let q : ℕ = Blocks.outputs_in (slice_get fl.blocks g) in
      let done = called_laid fl s place apart c rs ws n g q r (trigger_of c r) (trigger_side r) ss h f.earlier
      (signal_out fl s place apart c rs ws n node h f refl) (sym (its_code n node e)) (sym (its_region fl s place apart n node e))
      (some_results fl g (length ss) f.takes) (its_cond fl s place apart n node e) (its_ports fl s place apart n node e)
      (λ j. its_exit fl s place apart n j node e) at in
      subst (λ m. G (Rows.call c g m r ss) (rs ++ kind_parts fl s n (length ss) (Call g)) (ws ++ kind_arcs s n r (Call g) ss) (n + 1))
      (sym (outputs_same (slice_get fl.blocks g))) done
  kind_laid c rs ws n r (StrictCall g) ss h e f at =
      let node : Node ℕ = record { region = r; kind = StrictCall g; sources = ss } in
      let q : ℕ = Blocks.outputs_in (slice_get fl.blocks g) in
      let done = strict_laid fl s place apart c rs ws n g q r ss h f.earlier f.takes.some_input (sym (its_code n node e))
      (sym (its_region fl s place apart n node e))
      (some_results fl g (length ss) f.takes) (its_cond fl s place apart n node e) (its_ports fl s place apart n node e)
      (λ j. its_exit fl s place apart n j node e) at in
      subst (λ m. G (Rows.strict_call c g m r ss) (rs ++ kind_parts fl s n (length ss) (StrictCall g)) (ws ++ kind_arcs s n r (StrictCall g) ss) (n + 1))
      (sym (outputs_same (slice_get fl.blocks g))) done
  kind_laid c rs ws n r (Loop g k) ss h e f at =
      let node : Node ℕ = record { region = r; kind = Loop g k; sources = ss } in
      loop_laid fl s place apart c rs ws n (variant_of Sc.variants g) k r ss (trigger_side r) h f.earlier
      (signal_out fl s place apart c rs ws n node h f refl) f.takes.0.some_input (sym (its_code n node e)) (sym (its_bound n node e))
      (sym (its_region fl s place apart n node e)) (its_cond fl s place apart n node e) (its_ports fl s place apart n node e)
      (λ j. its_exit fl s place apart n j node e) at

  nodes_laid : (c : Build) (rs : List Part) (ws : List Wire) (n : ℕ) (xs : List (Node ℕ)) → G c rs ws n
      → ((j : ℕ) (x : Node ℕ) → slice_get xs j ≡ Some x → node_at b (n + j) ≡ Some x)
      → Stand place (length rs) (node_parts fl s n xs) → G (with_nodes c Sc n xs) (rs ++ node_parts fl s n xs) (ws ++ node_arcs s n xs) (n + length xs)
  unfolding with_nodes
  nodes_laid c rs ws n [] h there at =
      let same : n ≡ n + 0 = omega arith in
      subst (λ k. G c (rs ++ []) (ws ++ []) k) same (grown_same fl s place apart c rs (rs ++ []) ws (ws ++ []) n (sym (append-nil rs)) (sym (append-nil ws)) h)
  nodes_laid c rs ws n (x ∷ xs) h there at =
      let zero_more : n ≡ n + 0 = omega arith in
      let e : node_at b n ≡ Some x = ap (node_at b) zero_more ∙ there 0 x refl in
      let parts : List Part = kind_parts fl s n (length x.sources) x.kind in
      let arcs : List Wire = kind_arcs s n x.region x.kind x.sources in
      let d : Build = with_kind c Sc n x.kind x.region x.sources in
      let both = length-append rs parts in
      let one : G d (rs ++ parts) (ws ++ arcs) (n + 1) =
      kind_laid c rs ws n x.region x.kind x.sources h e (fit.nodes n x e) (stand_left place (length rs) parts (node_parts fl s (n + 1) xs) at) in
      let rest = nodes_laid d (rs ++ parts) (ws ++ arcs) (n + 1) xs one
      (λ j y g. let k : (n + 1) + j ≡ n + suc j = omega arith in ap (node_at b) k ∙ there (suc j) y g)
      (stand_right place (length rs) (length (rs ++ parts)) parts (node_parts fl s (n + 1) xs) at both) in
      let count : (n + 1) + length xs ≡ n + suc (length xs) = omega arith in
      let end : Build = with_nodes d Sc (n + 1) xs in
      subst (λ k. G end (rs ++ (parts ++ node_parts fl s (n + 1) xs)) (ws ++ (arcs ++ node_arcs s (n + 1) xs)) k) count
      (grown_same fl s place apart end ((rs ++ parts) ++ node_parts fl s (n + 1) xs) (rs ++ (parts ++ node_parts fl s (n + 1) xs))
      ((ws ++ arcs) ++ node_arcs s (n + 1) xs) (ws ++ (arcs ++ node_arcs s (n + 1) xs)) ((n + 1) + length xs)
      (append_assoc rs parts (node_parts fl s (n + 1) xs)) (append_assoc ws arcs (node_arcs s (n + 1) xs)) rest)

  -- ENTRIES
  input_node : (n : ℕ) → n < b.inputs → node_at b n ≡ None
  input_node n l = ap (λ t. if t then None else slice_get b.nodes (n - b.inputs)) (lt-ltb n b.inputs l)

  inputs_laid : (n : ℕ) → n ≤ b.inputs → Stand place 0 (Entry ∷ row Line 0 b.inputs)
      → G (with_inputs (quieted nothing Op.Copy Root) Sc n) (Entry ∷ row Line 0 n) [] n
  inputs_laid zero l at = record {
    laid = laid_first;
    exits = record { count = refl; at = λ m k. absurd (omega (arith, k)); triggers = λ m k. absurd (omega (arith, k)) };
    entry = record { part = refl; second = refl };
  }
    where
      nothing_laid : IsLaid (env fl s place apart) nothing [] []
      nothing_laid = record {
        size = refl;
        mark_count = refl;
        region_count = refl;
        instrs = λ n r i x y. absurd (cc);
        marks = λ n r x. absurd (cc);
        regions = λ n r x y. absurd (cc);
        placed = λ n r x. absurd (cc);
        ahead = tt;
      }

      laid_first : IsLaid (env fl s place apart) (quieted nothing Op.Copy Root) (Entry ∷ []) []
      laid_first = laid_added (env fl s place apart) nothing [] [] Op.Copy Untold Unmarked Root Entry nothing_laid refl refl refl (λ f. refl) at.0
  inputs_laid (suc n) l at =
      let h = inputs_laid n (omega (arith, l)) at in
      let rs : List Part = Entry ∷ row Line 0 n in
      let c : Build = with_inputs (quieted nothing Op.Copy Root) Sc n in
      let o = origin_in fl.version (Some s.number) n in
      let size = h.laid.size in
      let none = input_node n (omega (arith, l)) in
      let count = row_length Line 0 n in
      let stands : place (Line (0 + n)) ≡ 1 + n = stand_row place Line 1 0 b.inputs n at.1 (omega (arith, l)) in
      let zeroless : n ≡ 0 + n = omega arith in
      let here : place (Line n) ≡ length rs = ap (λ k. place (Line k)) zeroless ∙ stands ∙ omega (arith, count) in
      let new = grown_added fl s place apart c rs [] n Op.Copy o Unmarked Root (Line n) h
      (sym (ap (λ o. elim o as (λ x. Op) [ None ↦ Op.Copy | Some line ↦ kind_op line.kind ]) none)) refl refl (λ f. sym (ap arm_of none)) here in
      let all = leaves_there fl s place apart (added c Op.Copy o Unmarked Root) rs (Line n) [] n (length c.instrs) false new size (record {
        at = λ q. ap (λ o. elim o as (λ x. Side) [ None ↦ side (Line n) false | Some line ↦ exit_of s n q line.region line.kind ]) none;
        one = ap (λ o. elim o as (λ x. ℕ) [ None ↦ 1 | Some line ↦ kind_ports fl (length line.sources) line.kind ]) none;
        no_cond = ap (λ o. elim o as (λ x. Bool) [ None ↦ false | Some line ↦ cond_kind line.kind ]) none;
      }) in
      let more : n + 1 ≡ suc n = omega arith in
      let list : rs ++ Line n ∷ [] ≡ Entry ∷ row Line 0 (suc n) = ap (λ k. rs ++ Line k ∷ []) zeroless ∙ ap (λ xs. Entry ∷ xs) (sym (row_push Line 0 n)) in
      let end : Build = with_inputs (quieted nothing Op.Copy Root) Sc (suc n) in
      subst (λ k. G end (Entry ∷ row Line 0 (suc n)) [] k) more (subst (λ xs. G end xs [] (n + 1)) list all)

  abbrev pub body_parts : List Part
  body_parts = Entry ∷ row Line 0 b.inputs ++ node_parts fl s b.inputs b.nodes

  pub body_laid : ((j : ℕ) (x : Node ℕ) → slice_get b.nodes j ≡ Some x → node_at b (b.inputs + j) ≡ Some x) → Stand place 0 body_parts
      → G (body Sc) body_parts (node_arcs s b.inputs b.nodes) (b.inputs + length b.nodes)
  unfolding entries
  body_laid there at =
      let first : List Part = Entry ∷ row Line 0 b.inputs in
      let nodes : List Part = node_parts fl s b.inputs b.nodes in
      let begun = inputs_laid b.inputs (omega arith) (stand_left place 0 first nodes at) in
      nodes_laid (entries Sc) first [] b.inputs b.nodes begun there (stand_right place 0 (length first) first nodes at (omega arith))

  -- RESULTS
  pub returns_laid : (c : Build) (rs : List Part) (ws : List Wire) (n from : ℕ) (ss : List Source) → G c rs ws n → All (IsPrior fl b n) ss
      → Stand place (length rs) (row Result from (length ss)) → G (returns c from ss) (rs ++ row Result from (length ss)) (ws ++ result_wires s from ss) n
  returns_laid c rs ws n from [] h all at = grown_same fl s place apart c rs (rs ++ []) ws (ws ++ []) n (sym (append-nil rs)) (sym (append-nil ws)) h
  returns_laid c rs ws n from (x ∷ ss) h all at =
      let d : Build = meeting c (Op.Return from) Unmarked Root (first_of 0) (outlet_of c x) in
      let two : List Wire = wire (side Entry false) (Result from) Left ∷ wire (leaves s x) (Result from) Right ∷ [] in
      let size = length-append rs (Result from ∷ []) in
      let met = grown_meeting fl s place apart c rs ws n (Op.Return from) Unmarked Root (first_of 0) (outlet_of c x) (side Entry false) (leaves s x)
      (Result from) h h.entry
      (source_out (env fl s place apart) c rs n x h.exits (All-head (IsPrior fl b n) x ss all)) refl refl refl (λ f. refl) at.0 in
      let rest = returns_laid d (rs ++ Result from ∷ []) (ws ++ two) n (from + 1) ss met (All-tail (IsPrior fl b n) x ss all)
      (subst (λ k. Stand place k (row Result (from + 1) (length ss))) (omega (arith, size)) at.1) in
      let end : Build = returns d (from + 1) ss in
      grown_same fl s place apart end ((rs ++ Result from ∷ []) ++ row Result (from + 1) (length ss)) (rs ++ row Result from (length (x ∷ ss)))
      ((ws ++ two) ++ result_wires s (from + 1) ss) (ws ++ result_wires s from (x ∷ ss)) n
      (append_assoc rs (Result from ∷ []) (row Result (from + 1) (length ss))) (append_assoc ws two (result_wires s (from + 1) ss)) rest
