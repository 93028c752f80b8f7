-- The code of each kind of node, except calls and loops, is laid out as it is written down.
use Rattle.std.proofs.Common.{◌≡◌, ℕ, suc, ◌+◌, ◌<◌, Bool, true, false, List, [], ◌∷◌, ◌++◌, length, refl, sym, ap, ◌∙◌, subst, arith, append-nil, append_assoc}
use Rattle.std.proofs.Common.{if◌then◌else◌, Some, None, Option, All}
use Rattle.std.specs.Prelude.{slice_get}
use Rattle.std.proofs.lemmas.List.Elements.{All-head, All-tail}
use Rattle.tags.specs.declared.value.Origin.{Origin}
use Rattle.tags.specs.declared.value.Origin.TheVariants.{Untold}
use Rattle.tags.specs.declared.token.Port.TheVariants.{Left, Right}
use Rattle.semantics.specs.declared.graph.Region.{Region}
use Rattle.semantics.specs.declared.graph.Region.TheVariants.{Arm}
use Rattle.semantics.specs.declared.graph.Source.{Source}
use Rattle.semantics.specs.declared.graph.Kind.{Kind}
use Rattle.semantics.specs.declared.graph.Kind.TheVariants.{Cond, Enter, Merge}
use Rattle.semantics.specs.declared.program.Mark.{Mark}
use Rattle.semantics.specs.declared.program.Mark.TheVariants.{Unmarked, OfCond}
use Rattle.semantics.specs.declared.program.Op.{Op}
use Rattle.semantics.specs.Graph.{Node, Block, Flow, node_at}
use Rattle.semantics.specs.Meaning.{arm_of, origin_in}
use Rattle.law_wiring.specs.WrittenTypes.{Outlet}
use Rattle.schemas.specs.Scopes.{Scope, predicate_in, predicate_of}
use Rattle.schemas.specs.Variants.{variants_of}
use Rattle.schemas.specs.Builds as Builds
use Rattle.schemas.specs.Builds.{Build, nowhere, outlet, first_of, second_of, added, quieted, connected, outlet_of, exited, behind, meeting, operands}
use Rattle.schemas.specs.Builds.{alternatives, first_source, exit_at}
use Rattle.schemas.specs.Rows as Rows
use Rattle.schemas.specs.Expanded.{scope_of}
use Rattle.law_wiring.proofs.ArcsLists.{get_new, length_push}
use Rattle.law_net.specs.ContextsParts.{Part, Entry, Line, Answer, Trigger, Gate, same_part}
use Rattle.law_net.specs.ContextsParts as Parts
use Rattle.law_net.specs.ContextsBlocks as Blocks
use Rattle.law_net.specs.ContextsBlocks.{Side, side, Site, line_op, kind_op, lies_in, mark_round, is_kind, cond_kind, second_side, op_of, origin_of}
use Rattle.law_net.specs.ContextsExpanded.{variant_in}
use Rattle.law_wiring.specs.Written.{Wire, wire, is_triggered, answer_side, answer_parts, answer_wires, trigger_parts, trigger_wires, exit_of, leaves}
use Rattle.law_wiring.specs.Written.{leaves_at, operand_wires, merge_wires, gate_wires}
use Rattle.law_wiring.specs.WrittenFit.{Takes, kind_ports, port_count, IsPrior, IsFit}
use Rattle.law_wiring.proofs.Laid.{Env, IsLaid, OutAt, has_region, HasExits, PortsAt, TriggerAt, laid_added, laid_connected, laid_linked, laid_behind}
use Rattle.law_wiring.proofs.Laid.{laid_meeting, exits_more, exits_last, source_out, out_more}
use Rattle.law_wiring.proofs.PartsStanding.{Stand}

abbrev pub scope : Flow → Site → Scope
scope fl s = scope_of fl.version fl.blocks (variants_of fl.blocks) s.number s.block s.turns

module _ (fl : Flow) (s : Site) (place : Part → ℕ) (apart : (r q : Part) → same_part r q ≡ true → place r ≡ place q) where
  abbrev b : Block ℕ
  b = s.block

  abbrev pub env : Env
  env = record { flow = fl; variant = variant_in fl; site = s; place = place; apart = apart }

  abbrev Before : ℕ → Source → Type 0
  Before n x = IsPrior fl b n x

  -- with the exits of the first n nodes
  pub record Grown (c : Build) (rs : List Part) (ws : List Wire) (n : ℕ) : Type 0 where
    pub laid : IsLaid env c rs ws
    pub exits : HasExits env c rs n
    pub entry : OutAt rs (first_of 0) (side Entry false)

  pub grown_same : (c : Build) (rs qs : List Part) (ws us : List Wire) (n : ℕ) → rs ≡ qs → ws ≡ us → Grown c rs ws n → Grown c qs us n
  grown_same c rs qs ws us n p q h = subst (λ xs. Grown c xs us n) p (subst (λ xs. Grown c rs xs n) q h)

  more_wires : (c : Build) (rs : List Part) (ws vs us : List Wire) (n : ℕ) → Grown c rs ((ws ++ vs) ++ us) n → Grown c rs (ws ++ (vs ++ us)) n
  more_wires c rs ws vs us n h = subst (λ xs. Grown c rs xs n) (append_assoc ws vs us) h

  -- ONE STEP: a part, and a wire
  pub grown_added : (c : Build) (rs : List Part) (ws : List Wire) (n : ℕ) (op : Op) (o : Origin) (m : Mark) (g : Region) (r : Part) → Grown c rs ws n
      → op ≡ op_of (variant_in fl) s r → o ≡ origin_of fl s r → m ≡ Blocks.mark_of b r → (has_region r ≡ true → g ≡ Blocks.region_of b r) → place r ≡ length rs
      → Grown (added c op o m g) (rs ++ r ∷ []) ws n
  grown_added c rs ws n op o m g r h p q k f at = record {
    laid = laid_added env c rs ws op o m g r h.laid p q k f at;
    exits = let x = exits_more env c rs (r ∷ []) n h.exits in record { count = x.count; at = x.at; triggers = x.triggers };
    entry = out_more rs (r ∷ []) (first_of 0) (side Entry false) h.entry;
  }

  pub grown_connected : (c : Build) (rs : List Part) (ws : List Wire) (n : ℕ) (o : Outlet) (to : ℕ) (w : Wire) → Grown c rs ws n → OutAt rs o w.from
      → to ≡ place w.part → (place w.from.part < place w.part) × (place w.part < length rs) → Grown (connected c o to w.port) rs (ws ++ w ∷ []) n
  grown_connected c rs ws n o to w h out at up = record {
    laid = laid_connected env c rs ws o to w h.laid out at up;
    exits = record { count = h.exits.count; at = h.exits.at; triggers = h.exits.triggers };
    entry = h.entry;
  }

  pub grown_linked : (c : Build) (rs : List Part) (ws : List Wire) (n : ℕ) (o : Outlet) (to : ℕ) (w : Wire) → Grown c (rs ++ w.part ∷ []) ws n
      → OutAt rs o w.from → to ≡ place w.part → Grown (connected c o to w.port) (rs ++ w.part ∷ []) (ws ++ w ∷ []) n
  grown_linked c rs ws n o to w h out at = record {
    laid = laid_linked env c rs ws o to w h.laid out at;
    exits = record { count = h.exits.count; at = h.exits.at; triggers = h.exits.triggers };
    entry = h.entry;
  }

  pub grown_behind : (c : Build) (rs : List Part) (ws : List Wire) (n : ℕ) (o : Outlet) (t : Side) (op : Op) (g : Region) (r : Part) → Grown c rs ws n
      → OutAt rs o t
      → op ≡ op_of (variant_in fl) s r → Untold ≡ origin_of fl s r → Unmarked ≡ Blocks.mark_of b r → (has_region r ≡ true → g ≡ Blocks.region_of b r)
      → place r ≡ length rs
      → Grown (behind c o op g) (rs ++ r ∷ []) (ws ++ wire t r Left ∷ []) n
  grown_behind c rs ws n o t op g r h out p q k f at = record {
    laid = laid_behind env c rs ws o t op g r h.laid out p q k f at;
    exits = let x = exits_more env c rs (r ∷ []) n h.exits in record { count = x.count; at = x.at; triggers = x.triggers };
    entry = out_more rs (r ∷ []) (first_of 0) (side Entry false) h.entry;
  }

  pub grown_meeting : (c : Build) (rs : List Part) (ws : List Wire) (n : ℕ) (op : Op) (m : Mark) (g : Region) (left right : Outlet) (t u : Side) (r : Part)
      → Grown c rs ws n → OutAt rs left t → OutAt rs right u
      → op ≡ op_of (variant_in fl) s r → Untold ≡ origin_of fl s r → m ≡ Blocks.mark_of b r → (has_region r ≡ true → g ≡ Blocks.region_of b r)
      → place r ≡ length rs
      → Grown (meeting c op m g left right) (rs ++ r ∷ []) (ws ++ wire t r Left ∷ wire u r Right ∷ []) n
  grown_meeting c rs ws n op m g left right t u r h x y p q k f at = record {
    laid = laid_meeting env c rs ws op m g left right t u r h.laid x y p q k f at;
    exits = let z = exits_more env c rs (r ∷ []) n h.exits in record { count = z.count; at = z.at; triggers = z.triggers };
    entry = out_more rs (r ∷ []) (first_of 0) (side Entry false) h.entry;
  }

  -- the part that was added last
  pub out_here : (c : Build) (rs : List Part) (r : Part) (second : Bool) → length c.instrs ≡ length rs
      → OutAt (rs ++ r ∷ []) (outlet (length c.instrs) 0 second) (side r second)
  out_here c rs r second size =
      let zeroless : length c.instrs + 0 ≡ length rs = omega (arith, size) in
      record { part = ap (slice_get (rs ++ r ∷ [])) zeroless ∙ get_new rs r; second = refl }

  -- SOURCES, to the part that was added last
  abbrev Sources : Build → List Part → ℕ → Type 0
  Sources c rs n = (x : Source) → Before n x → OutAt rs (outlet_of c x) (leaves s x)

  operands_laid : (c : Build) (rs : List Part) (ws : List Wire) (n to from : ℕ) (r : Part) (ss : List Source) → Grown c (rs ++ r ∷ []) ws n
      → Sources c rs n → All (Before n) ss → to ≡ place r
      → Grown (operands c to from ss) (rs ++ r ∷ []) (ws ++ operand_wires s r from ss) n
  operands_laid c rs ws n to from r [] h old all at = subst (λ xs. Grown c (rs ++ r ∷ []) xs n) (sym (append-nil ws)) h
  operands_laid c rs ws n to from r (x ∷ ss) h old all at =
      let w : Wire = wire (leaves s x) r (Builds.side from) in
      let d : Build = connected c (outlet_of c x) to (Builds.side from) in
      more_wires (operands d to (from + 1) ss) (rs ++ r ∷ []) ws (w ∷ []) (operand_wires s r (from + 1) ss) n
      (operands_laid d rs (ws ++ w ∷ []) n to (from + 1) r ss (grown_linked c rs ws n (outlet_of c x) to w h (old x (All-head (Before n) x ss all)) at) old
      (All-tail (Before n) x ss all) at)

  alternatives_laid : (c : Build) (rs : List Part) (ws : List Wire) (n to : ℕ) (r : Part) (ss : List Source) → Grown c (rs ++ r ∷ []) ws n
      → Sources c rs n → All (Before n) ss → to ≡ place r
      → Grown (alternatives c to ss) (rs ++ r ∷ []) (ws ++ merge_wires s r ss) n
  alternatives_laid c rs ws n to r [] h old all at = subst (λ xs. Grown c (rs ++ r ∷ []) xs n) (sym (append-nil ws)) h
  alternatives_laid c rs ws n to r (x ∷ ss) h old all at =
      let w : Wire = wire (leaves s x) r Left in
      let d : Build = connected c (outlet_of c x) to Left in
      more_wires (alternatives d to ss) (rs ++ r ∷ []) ws (w ∷ []) (merge_wires s r ss) n
      (alternatives_laid d rs (ws ++ w ∷ []) n to r ss (grown_linked c rs ws n (outlet_of c x) to w h (old x (All-head (Before n) x ss all)) at) old
      (All-tail (Before n) x ss all) at)

  -- NODES
  its_op : (n : ℕ) (node : Node ℕ) → node_at b n ≡ Some node → line_op b n ≡ kind_op node.kind
  its_op n node e = ap (λ o. elim o as (λ x. Op) [ None ↦ Op.Copy | Some line ↦ kind_op line.kind ]) e

  pub its_region : (n : ℕ) (node : Node ℕ) → node_at b n ≡ Some node → lies_in b n ≡ node.region
  its_region n node e = ap arm_of e

  pub its_exit : (n q : ℕ) (node : Node ℕ) → node_at b n ≡ Some node → leaves_at s n q ≡ exit_of s n q node.region node.kind
  its_exit n q node e = ap (λ o. elim o as (λ x. Side) [ None ↦ side (Line n) false | Some line ↦ exit_of s n q line.region line.kind ]) e

  pub its_cond : (n : ℕ) (node : Node ℕ) → node_at b n ≡ Some node → is_kind cond_kind b n ≡ cond_kind node.kind
  its_cond n node e = ap (λ o. elim o as (λ x. Bool) [ None ↦ false | Some line ↦ cond_kind line.kind ]) e

  pub its_ports : (n : ℕ) (node : Node ℕ) → node_at b n ≡ Some node → port_count fl b n ≡ kind_ports fl (length node.sources) node.kind
  its_ports n node e = ap (λ o. elim o as (λ x. ℕ) [ None ↦ 1 | Some line ↦ kind_ports fl (length line.sources) line.kind ]) e

  pub exited_laid : (c : Build) (rs : List Part) (ws : List Wire) (o : Outlet) → IsLaid env c rs ws → IsLaid env (exited c o) rs ws
  exited_laid c rs ws o l =
      record {
        size = l.size;
        mark_count = l.mark_count;
        region_count = l.region_count;
        instrs = l.instrs;
        marks = l.marks;
        regions = l.regions;
        placed = l.placed;
        ahead = l.ahead;
      }

  pub grown_exited : (c : Build) (rs : List Part) (ws : List Wire) (n : ℕ) (o : Outlet) → Grown c rs ws n → PortsAt env rs n o → TriggerAt env rs n o
      → Grown (exited c o) rs ws (n + 1)
  grown_exited c rs ws n o h p t = record { laid = exited_laid c rs ws o h.laid; exits = exits_last env c rs n o h.exits p t; entry = h.entry }

  -- a node with one output port, which leaves at one side
  pub record LeavesAt (n : ℕ) (t : Side) : Type 0 where
    pub at : (q : ℕ) → leaves_at s n q ≡ t
    pub one : port_count fl b n ≡ 1
    pub no_cond : is_kind cond_kind b n ≡ false

  pub leaves_by : (n : ℕ) (node : Node ℕ) (t : Side) → node_at b n ≡ Some node → ((q : ℕ) → exit_of s n q node.region node.kind ≡ t)
      → kind_ports fl (length node.sources) node.kind ≡ 1 → cond_kind node.kind ≡ false → LeavesAt n t
  leaves_by n node t e f p c = record { at = λ q. its_exit n q node e ∙ f q; one = its_ports n node e ∙ p; no_cond = its_cond n node e ∙ c }

  -- a node's exit, at the part that was added last
  pub leaves_there : (c : Build) (rs : List Part) (r : Part) (ws : List Wire) (n at : ℕ) (second : Bool) → Grown c (rs ++ r ∷ []) ws n → at ≡ length rs
      → LeavesAt n (side r second)
      → Grown (exited c (outlet at 0 second)) (rs ++ r ∷ []) ws (n + 1)
  leaves_there c rs r ws n at second h e f = grown_exited c (rs ++ r ∷ []) ws n (outlet at 0 second) h ports (λ k. let no = f.no_cond in absurd (cc))
    where
      ports : PortsAt env (rs ++ r ∷ []) n (outlet at 0 second)
      ports k q l =
          let one = f.one in
          let here : at + q ≡ length rs = omega (arith, e, l, one) in
          record {
            part = ap (slice_get (rs ++ r ∷ [])) here ∙ get_new rs r ∙ ap (λ (t : Side). Some t.part) (sym (f.at q));
            second = ap (λ (t : Side). t.second) (sym (f.at q));
          }

  pub operator_laid : (c : Build) (rs : List Part) (ws : List Wire) (n : ℕ) (node : Node ℕ) (op : Op) → Grown c rs ws n → node_at b n ≡ Some node
      → op ≡ kind_op node.kind
      → LeavesAt n (side (Line n) false) → All (Before n) node.sources → place (Line n) ≡ length rs
      → Grown (Rows.operator c op (origin_in fl.version (Some s.number) n) node.region node.sources) (rs ++ Line n ∷ [])
      (ws ++ operand_wires s (Line n) 0 node.sources) (n + 1)
  operator_laid c rs ws n node op h e p q all at =
      let o = origin_in fl.version (Some s.number) n in
      let one : Build = added c op o Unmarked node.region in
      let size = h.laid.size in
      let new = grown_added c rs ws n op o Unmarked node.region (Line n) h (p ∙ sym (its_op n node e)) refl refl (λ f. sym (its_region n node e)) at in
      let full = operands_laid one rs ws n (length c.instrs) 0 (Line n) node.sources new (λ x before. source_out env c rs n x h.exits before) all
      (size ∙ sym at) in
      leaves_there (operands one (length c.instrs) 0 node.sources) rs (Line n) (ws ++ operand_wires s (Line n) 0 node.sources) n
      (length c.instrs) false full size q

  -- a node whose answer has a copy
  shared_laid : (c : Build) (rs : List Part) (ws : List Wire) (n : ℕ) (node : Node ℕ) (op : Op) → Grown c rs ws n → node_at b n ≡ Some node
      → op ≡ kind_op node.kind
      → LeavesAt n (side (Answer n) false) → All (Before n) node.sources → place (Line n) ≡ length rs → place (Answer n) ≡ suc (length rs)
      → Grown (Rows.shared_answer c op (origin_in fl.version (Some s.number) n) node.region node.sources) (rs ++ (Line n ∷ Answer n ∷ []))
      (ws ++ (operand_wires s (Line n) 0 node.sources ++ wire (side (Line n) false) (Answer n) Left ∷ [])) (n + 1)
  shared_laid c rs ws n node op h e p q all at at2 =
      let o = origin_in fl.version (Some s.number) n in
      let one : Build = added c op o Unmarked node.region in
      let size = h.laid.size in
      let os : List Wire = operand_wires s (Line n) 0 node.sources in
      let qs : List Part = rs ++ Line n ∷ [] in
      let last : List Wire = wire (side (Line n) false) (Answer n) Left ∷ [] in
      let new = grown_added c rs ws n op o Unmarked node.region (Line n) h (p ∙ sym (its_op n node e)) refl refl (λ f. sym (its_region n node e)) at in
      let full = operands_laid one rs ws n (length c.instrs) 0 (Line n) node.sources new (λ x before. source_out env c rs n x h.exits before) all
      (size ∙ sym at) in
      let d : Build = operands one (length c.instrs) 0 node.sources in
      let long : length qs ≡ suc (length rs) = length_push rs (Line n) in
      let both = grown_behind d qs (ws ++ os) n (first_of (length c.instrs)) (side (Line n) false) Op.Copy node.region (Answer n) full
      (out_here c rs (Line n) false size) refl refl refl (λ f. sym (its_region n node e)) (at2 ∙ sym long) in
      let done = leaves_there (behind d (first_of (length c.instrs)) Op.Copy node.region) qs (Answer n) ((ws ++ os) ++ last) n
      (length d.instrs) false both full.laid.size q in
      let end : Build = Rows.shared_answer c op o node.region node.sources in
      grown_same end (qs ++ Answer n ∷ []) (rs ++ (Line n ∷ Answer n ∷ [])) ((ws ++ os) ++ last) (ws ++ (os ++ last)) (n + 1)
      (append_assoc rs (Line n ∷ []) (Answer n ∷ [])) (append_assoc ws os last) done

  -- a fetch or a store
  pub answered_laid : (c : Build) (rs : List Part) (ws : List Wire) (n : ℕ) (node : Node ℕ) (op : Op) (t : Bool) → Grown c rs ws n → node_at b n ≡ Some node
      → op ≡ kind_op node.kind
      → LeavesAt n (answer_side n t) → All (Before n) node.sources → Stand place (length rs) (Line n ∷ answer_parts n t)
      → Grown (if t then Rows.shared_answer c op (origin_in fl.version (Some s.number) n) node.region node.sources
      else Rows.operator c op (origin_in fl.version (Some s.number) n) node.region node.sources)
      (rs ++ (Line n ∷ answer_parts n t)) (ws ++ (operand_wires s (Line n) 0 node.sources ++ answer_wires n t)) (n + 1)
  answered_laid c rs ws n node op true h e p q all at = shared_laid c rs ws n node op h e p q all at.0 at.1.0
  answered_laid c rs ws n node op false h e p q all at =
      subst (λ xs. Grown (Rows.operator c op (origin_in fl.version (Some s.number) n) node.region node.sources) (rs ++ Line n ∷ []) (ws ++ xs) (n + 1))
      (sym (append-nil (operand_wires s (Line n) 0 node.sources)))
      (operator_laid c rs ws n node op h e p q all at.0)

  pub merge_laid : (c : Build) (rs : List Part) (ws : List Wire) (n k : ℕ) (r : Region) (ss : List Source) → Grown c rs ws n
      → node_at b n ≡ Some (record { region = r; kind = Merge k; sources = ss })
      → All (Before n) ss → place (Parts.Merge n) ≡ length rs
      → Grown (Rows.merge c r ss) (rs ++ Parts.Merge n ∷ []) (ws ++ merge_wires s (Parts.Merge n) ss) (n + 1)
  merge_laid c rs ws n k r ss h e all at =
      let node : Node ℕ = record { region = r; kind = Merge k; sources = ss } in
      let one : Build = quieted c Op.Copy r in
      let size = h.laid.size in
      let new = grown_added c rs ws n Op.Copy Untold Unmarked r (Parts.Merge n) h refl refl refl (λ f. sym (its_region n node e)) at in
      let full = alternatives_laid one rs ws n (length c.instrs) (Parts.Merge n) ss new (λ x before. source_out env c rs n x h.exits before) all
      (size ∙ sym at) in
      leaves_there (alternatives one (length c.instrs) ss) rs (Parts.Merge n) (ws ++ merge_wires s (Parts.Merge n) ss) n (length c.instrs) false full size
      (leaves_by n node (side (Parts.Merge n) false) e (λ q. refl) refl refl)

  pub first_before : (n : ℕ) (ss : List Source) → length ss ≡ 1 → All (Before n) ss → Before n (first_source ss)
  first_before n [] one all = absurd (omega (arith, one))
  first_before n (x ∷ ss) one all = All-head (Before n) x ss all

  pub later : (n m : ℕ) (x : Source) → n < m → Before n x → Before m x
  later n m x l h = record { earlier = (let a = h.earlier in omega (arith, a, l)); port = h.port; no_cond = h.no_cond; first = h.first }

  cond_node : (k : ℕ) → is_kind cond_kind b k ≡ true → (line : Node ℕ) × (node_at b k ≡ Some line) × (cond_kind line.kind ≡ true)
  cond_node k h = go (node_at b k) refl h
    where
      go : (o : Option (Node ℕ)) → node_at b k ≡ o → elim o as (λ x. Bool) [ None ↦ false | Some line ↦ cond_kind line.kind ] ≡ true
          → (line : Node ℕ) × (node_at b k ≡ Some line) × (cond_kind line.kind ≡ true)
      go None e h = absurd (cc)
      go (Some line) e h = (line, e, h)

  cond_takes : (kind : Kind ℕ) (n : ℕ) → cond_kind kind ≡ true → Takes fl kind n → n ≡ 1
  cond_takes Cond n h t = t
  cond_takes kind n h t = absurd (cc)

  -- CONDITIONALS
  pub cond_laid : (c : Build) (rs : List Part) (ws : List Wire) (n : ℕ) (r : Region) (ss : List Source) (t : Bool) → is_triggered b n ≡ t → Grown c rs ws n
      → node_at b n ≡ Some (record { region = r; kind = Cond; sources = ss })
      → length ss ≡ 1 → All (Before n) ss → Stand place (length rs) (trigger_parts n t)
      → Grown (Rows.conditional c t n r ss) (rs ++ trigger_parts n t) (ws ++ trigger_wires s n t (first_source ss)) (n + 1)
  cond_laid c rs ws n r ss false off h e one all at =
      grown_same (exited c nowhere) rs (rs ++ []) ws (ws ++ []) (n + 1) (sym (append-nil rs)) (sym (append-nil ws))
      (grown_exited c rs ws n nowhere h (λ k. let is = its_cond n (record { region = r; kind = Cond; sources = ss }) e in absurd (cc)) (λ k l. absurd (cc)))
  cond_laid c rs ws n r ss true on h e one all at =
      let node : Node ℕ = record { region = r; kind = Cond; sources = ss } in
      let size = h.laid.size in
      let from = source_out env c rs n (first_source ss) h.exits (first_before n ss one all) in
      let o : Outlet = outlet_of c (first_source ss) in
      let met = grown_meeting c rs ws n Op.Switch (OfCond n) r o o (leaves s (first_source ss)) (leaves s (first_source ss))
      (Trigger n) h from from refl refl refl (λ f. absurd (cc)) at.0 in
      grown_exited (meeting c Op.Switch (OfCond n) r o o) (rs ++ Trigger n ∷ []) (ws ++ trigger_wires s n true (first_source ss)) n
      (first_of (length c.instrs)) met
      (λ k. let is = its_cond n node e in absurd (cc)) (λ k l. ap (slice_get (rs ++ Trigger n ∷ [])) size ∙ get_new rs (Trigger n))

  module _ (fit : IsFit fl b) where
    predicate_before : (n k : ℕ) → k < n → is_kind cond_kind b k ≡ true → Before n (predicate_of b k)
    predicate_before n k l h =
        let c = cond_node k h in
        let line = fit.nodes k c.0 c.1 in
        subst (Before n) (ap predicate_in (sym c.1))
        (later k n (first_source c.0.sources) l (first_before k c.0.sources (cond_takes c.0.kind (length c.0.sources) c.2 line.takes) line.earlier))

    pub enter_laid : (c : Build) (rs : List Part) (ws : List Wire) (n k : ℕ) (t : Bool) (ss : List Source) → Grown c rs ws n
        → node_at b n ≡ Some (record { region = Arm k t; kind = Enter; sources = ss })
        → place (Gate n) ≡ length rs → Grown (Rows.enter c k t ss (predicate_of b k)) (rs ++ Gate n ∷ []) (ws ++ gate_wires s n (Arm k t) ss) (n + 1)
    enter_laid c rs ws n k t ss h e at =
        let node : Node ℕ = record { region = Arm k t; kind = Enter; sources = ss } in
        let line = fit.nodes n node e in
        let size = h.laid.size in
        let round = line.round k t refl in
        let value = first_before n ss line.takes line.earlier in
        let predicate = predicate_before n k round.0 round.1 in
        let met = grown_meeting c rs ws n Op.Switch (OfCond k) (Arm k t) (outlet_of c (first_source ss)) (outlet_of c (predicate_of b k))
        (leaves s (first_source ss)) (leaves s (predicate_of b k)) (Gate n) h
        (source_out env c rs n (first_source ss) h.exits value) (source_out env c rs n (predicate_of b k) h.exits predicate) refl refl
        (ap mark_round (sym (its_region n node e))) (λ f. absurd (cc)) at in
        go t met size (leaves_by n node (side (Gate n) (second_side (Arm k t))) e (λ q. refl) refl refl)
      where
        d : Build
        d = meeting c Op.Switch (OfCond k) (Arm k t) (outlet_of c (first_source ss)) (outlet_of c (predicate_of b k))

        go : (u : Bool) → Grown d (rs ++ Gate n ∷ []) (ws ++ gate_wires s n (Arm k t) ss) n → length c.instrs ≡ length rs
            → LeavesAt n (side (Gate n) (second_side (Arm k u)))
            → Grown (exited d (if u then first_of (length c.instrs) else second_of (length c.instrs))) (rs ++ Gate n ∷ []) (ws ++ gate_wires s n (Arm k t) ss)
            (n + 1)
        go true met size f = leaves_there d rs (Gate n) (ws ++ gate_wires s n (Arm k t) ss) n (length c.instrs) false met size f
        go false met size f = leaves_there d rs (Gate n) (ws ++ gate_wires s n (Arm k t) ss) n (length c.instrs) true met size f
