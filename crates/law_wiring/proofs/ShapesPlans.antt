-- Each instruction of a plan has as many destinations as its kind wants, and each block ends in `release`: read off its wires.
use Rattle.std.proofs.Common.{◌≡◌, ℕ, ◌+◌, ◌-◌, ◌<◌, ◌&&◌, Bool, true, false, List, [], ◌∷◌, ◌++◌, map, length, get_or, Option}
use Rattle.std.proofs.Common.{Some, None, refl, sym, ap, ◌∙◌, subst, arith, inl, inr, if◌then◌else◌}
use Rattle.std.specs.Prelude.{slice_get, Contains, IsPermutation}
use Rattle.std.proofs.lemmas.List.{length-map, length-append}
use Rattle.std.proofs.lemmas.List.Sorted.{length_permutation}
use Rattle.std.proofs.lemmas.Option.{slice_get_within}
use Rattle.lemmas.proofs.Alls.{all_from}
use Rattle.lemmas.proofs.Contains.{contains_none}
use Rattle.semantics.specs.declared.graph.Kind.{Kind}
use Rattle.semantics.specs.declared.graph.Kind.TheVariants.{Fetch, Store}
use Rattle.semantics.specs.declared.program.Dest.{Dest}
use Rattle.semantics.specs.declared.program.Op.{Op}
use Rattle.semantics.specs.Graph.{Flow, Node, Block, flow_of, node_at}
use Rattle.semantics.specs.Program.{Instr, CodeBlock}
use Rattle.semantics.specs.Plan.{HasShape}
use Rattle.schemas.specs.Expanded.{expanded}
use Rattle.law_wiring.specs.Shapes.{AreShaped, PlansAreShaped, HasExactShape, AreExact, PlansAreExact, is_release, EndsInRelease, PlansEndInRelease}
use Rattle.law_confluence.specs.OrdersTotals.{one}
use Rattle.law_net.specs.ContextsParts.{Part, Line, Answer, Framer, Linker, Giver, Taker, Drainer, Asker, NextFramer, End, Inlet, same_part}
use Rattle.law_net.specs.ContextsBlocks.{Side, side, there_in, op_of, kind_op, is_kind, cell_kind}
use Rattle.law_net.specs.ContextsWires.{answered_at, has_no_wire, leads_to, ip_and_port}
use Rattle.law_net.specs.ContextsExpanded.{variant_in}
use Rattle.law_wiring.specs.Written.{Wire, same_side, along, inlet_of, is_shared, parts_in, wires_in}
use Rattle.law_wiring.proofs.Parts.{node_within}
use Rattle.law_wiring.proofs.PartsCounts.{count_is}
use Rattle.law_wiring.proofs.PartsThere.{missing}
use Rattle.law_wiring.proofs.LaidArcsMore.{size}
use Rattle.law_wiring.proofs.UsesWhole.{copied}
use Rattle.law_wiring.proofs.ShapesNoted.{inner_most}
use Rattle.law_wiring.proofs.ShapesClosed.{one_leaves}
use Rattle.law_wiring.proofs.CodeRead.{IsRead, code_read, Stands, stands}

along_length : (b : Block ℕ) (t : Side) (ws : List Wire) → length (along b t ws) ≡ size t ws
along_length b t [] = refl
along_length b t (w ∷ ws) = go (same_side t w.from) (along_length b t ws)
  where
    go : (s : Bool) → length (along b t ws) ≡ size t ws → length (if s then inlet_of b w ∷ along b t ws else along b t ws) ≡ one s + size t ws
    go true h = omega (arith, h)
    go false h = omega (arith, h)

some_length : {X : Type 0} (xs : List X) (x : X) → Contains xs x → 0 < length xs
some_length [] x h = absurd (contains_none x h)
some_length (y ∷ xs) x h = omega arith

-- OPERATIONS
line_release : (o : Option (Node ℕ)) → is_release (elim o as (λ x. Op) [ None ↦ Op.Copy | Some line ↦ kind_op line.kind ]) ≡ false
line_release None = refl
line_release (Some x) = by_kind x.kind
  where
    by_kind : (k : Kind ℕ) → is_release (kind_op k) ≡ false
    by_kind (Kind.Lit z) = refl
    by_kind (Kind.Apply1 op) = refl
    by_kind (Kind.Apply2 op) = refl
    by_kind (Fetch a) = refl
    by_kind (Store a) = refl
    by_kind k = refl

module _ (fl : Flow) (c : CodeBlock) (x : IsRead fl c) where
  abbrev b : Block ℕ
  b = x.site.block

  abbrev IsThere : Part → Type 0
  IsThere r = there_in fl x.site x.wiring r ≡ true

  abbrev wires : Part → Bool → List Inlet
  wires r second = x.wiring.wire (side r second)

  no_wires : (r : Part) (second : Bool) → has_no_wire r ≡ true → length (wires r second) ≡ 0
  no_wires r second h = ap (λ (ys : List Inlet). length ys) (x.fed.sides (side r second) (inr h))

  -- A NODE THAT IS ANSWERED
  is_cell : (k : ℕ) (node : Node ℕ) → node_at b k ≡ Some node → cell_kind node.kind ≡ true → is_kind cell_kind b k ≡ true
  is_cell k node e h = ap (λ o. elim o as (λ x. Bool) [ None ↦ false | Some line ↦ cell_kind line.kind ]) e ∙ h

  one_answer : (k : ℕ) (node : Node ℕ) → node_at b k ≡ Some node → cell_kind node.kind ≡ true → IsThere (Line k) → length (wires (Line k) false) ≡ 1
  one_answer k node e h there = go (is_shared x.site k) refl
    where
      cell : is_kind cell_kind b k ≡ true
      cell = is_cell k node e h

      go : (t : Bool) → is_shared x.site k ≡ t → length (wires (Line k) false) ≡ 1
      go true f =
          let answers : x.wiring.answers k ≡ true = x.written.answers k ∙ ap (λ t. t && is_shared x.site k) cell ∙ f in
          let stands : IsThere (Answer k) = ap (λ t. t && x.wiring.answers k) cell ∙ answers in
          ap (λ (ys : List Inlet). length ys) (copied fl x.site x.fit x.wiring x.written k stands)
      go false f =
          let low = (node_within b k node e).1 in
          let once = x.written.once (Line k) in
          let counted = count_is (same_part (Line k)) (parts_in fl x.site) in
          let inside = missing fl x.site c.instrs (same_part (Line k)) ((λ r i. refl), λ j. refl) in
          let inner = inner_most fl x.site x.fit k f low in
          let most = one_leaves fl x.site x.fit k inner (omega (arith, once, counted, inside)) in
          let all = ap (λ (ys : List Inlet). length ys) (x.written.wire (side (Line k) false) there)
          ∙ along_length b (side (Line k) false) (wires_in fl x.site) in
          let first = x.leads.leads (side (Line k) false) there refl refl in
          let some = some_length (wires (Line k) false) first.0 first.1 in
          omega (arith, most, all, some)

  line_exact : (k : ℕ) (o : Option (Node ℕ)) → node_at b k ≡ o → IsThere (Line k) → (m n : ℕ) → m ≡ length (wires (Line k) false)
      → n ≡ length (wires (Line k) true)
      → HasExactShape (elim o as (λ x. Op) [ None ↦ Op.Copy | Some line ↦ kind_op line.kind ]) m n
  line_exact k None e there m n p q = tt
  line_exact k (Some node) e there m n p q = by_kind node.kind refl
    where
      none : length (wires (Line k) true) ≡ 0
      none = ap (λ (ys : List Inlet). length ys) (x.fed.sides (side (Line k) true) (inl refl))

      by_kind : (kind : Kind ℕ) → node.kind ≡ kind → HasExactShape (kind_op kind) m n
      by_kind (Fetch a) f = (p ∙ one_answer k node e (ap cell_kind f) there, q ∙ none)
      by_kind (Store a) f = (p ∙ one_answer k node e (ap cell_kind f) there, q ∙ none)
      by_kind kind f = tt

  -- ANY PART
  exact_at : (r : Part) → IsThere r → (m n : ℕ) → m ≡ length (answered_at r) + length (wires r false) → n ≡ length (wires r true)
      → HasExactShape (op_of (variant_in fl) x.site r) m n
  exact_at (Line k) h m n p q = line_exact k (node_at b k) refl h m n (omega (arith, p)) q
  exact_at (Framer k) h m n p q = let a = no_wires (Framer k) false refl in let d = no_wires (Framer k) true refl in (omega (arith, p, a), q ∙ d)
  exact_at (Linker k) h m n p q = let a = no_wires (Linker k) false refl in let d = no_wires (Linker k) true refl in (omega (arith, p, a), q ∙ d)
  exact_at (Giver k) h m n p q = let a = no_wires (Giver k) false refl in let d = no_wires (Giver k) true refl in (omega (arith, p, a), q ∙ d)
  exact_at (Taker k) h m n p q = let a = no_wires (Taker k) false refl in let d = no_wires (Taker k) true refl in (omega (arith, p, a), q ∙ d)
  exact_at (Drainer k) h m n p q = let a = no_wires (Drainer k) false refl in let d = no_wires (Drainer k) true refl in (omega (arith, p, a), q ∙ d)
  exact_at Asker h m n p q = let a = no_wires Asker false refl in let d = no_wires Asker true refl in (omega (arith, p, a), q ∙ d)
  exact_at NextFramer h m n p q = let a = no_wires NextFramer false refl in let d = no_wires NextFramer true refl in (omega (arith, p, a), q ∙ d)
  exact_at End h m n p q = let a = no_wires End false refl in let d = no_wires End true refl in (omega (arith, p, a), q ∙ d)
  exact_at r h m n p q = tt

  same_length : (n : ℕ) (ds : List Dest) (ys : List Inlet) → IsPermutation (map (leads_to n) ds) (map (ip_and_port x.wiring) ys) → length ds ≡ length ys
  same_length n ds ys p =
      let a = length-map ds (leads_to n) in
      let d = length-map ys (ip_and_port x.wiring) in
      let e = length_permutation (map (leads_to n) ds) (map (ip_and_port x.wiring) ys) p in
      omega (arith, a, d, e)

  is_exact : (n : ℕ) (i : Instr) → slice_get c.instrs n ≡ Some i → HasExactShape i.op (length i.firsts) (length i.seconds)
  is_exact n i e =
      let h = stands fl c x n i e in
      let first = same_length (x.wiring.place h.part) i.firsts (answered_at h.part ++ wires h.part false) h.is.firsts in
      let both = length-append (answered_at h.part) (wires h.part false) in
      let second = same_length (x.wiring.place h.part) i.seconds (wires h.part true) h.is.seconds in
      subst (λ op. HasExactShape op (length i.firsts) (length i.seconds)) (sym h.is.op)
      (exact_at h.part h.there (length i.firsts) (length i.seconds) (omega (arith, first, both)) second)

  pub are_exact : AreExact c
  are_exact = all_from (λ (i : Instr). HasExactShape i.op (length i.firsts) (length i.seconds)) c.instrs is_exact

  -- THE LAST INSTRUCTION
  end_of : (r : Part) → is_release (op_of (variant_in fl) x.site r) ≡ true → r ≡ End
  end_of End h = refl
  end_of (Line k) h = let no = line_release (node_at b k) in absurd (cc)
  end_of r h = absurd (cc)

  end_place : x.wiring.place End + 1 ≡ length c.instrs
  end_place =
      let here = x.laid.here End refl in
      let within = slice_get_within c.instrs (x.wiring.place End) here.0 here.1 in
      let last = x.laid.each (length c.instrs - 1) (omega (arith, within)) in
      let most = x.written.last last.0 last.1 in
      let at = last.2 in
      omega (arith, within, most, at)

  pub ends_in_release : EndsInRelease c.instrs
  ends_in_release p i e = (
    λ f.
        let same = ap x.wiring.place (end_of h.part (sym (ap is_release h.is.op) ∙ f)) in
        let at = h.at in
        let end = end_place in
        omega (arith, at, end, same),
    λ f.
        let at = h.at in
        let end = end_place in
        let same : h.part ≡ End = x.laid.apart h.part End h.there refl (omega (arith, at, end, f)) in
        ap is_release h.is.op ∙ ap (λ r. is_release (op_of (variant_in fl) x.site r)) same,
  )
    where
      h : Stands fl x.site x.wiring p i
      h = stands fl c x p i e

-- OF ALL BLOCKS
pub plans_are_exact : PlansAreExact
plans_are_exact g well = all_from AreExact (expanded (flow_of g)).program.blocks (λ n c e. are_exact (flow_of g) c (code_read g well n c e))

exact_shape : (op : Op) (m n : ℕ) → HasExactShape op m n → HasShape op m n
exact_shape (Op.Fetch a) m n h = h
exact_shape (Op.Store a) m n h = h
exact_shape Op.Frame m n h = h
exact_shape (Op.Ask o) m n h = h
exact_shape (Op.Link b) m n h = h.0
exact_shape (Op.Take k) m n h = h
exact_shape (Op.Release o) m n h = h
exact_shape op m n h = tt

code_shaped : (c : CodeBlock) → AreExact c → AreShaped c
code_shaped c h = λ k d l. let i : Instr = get_or c.instrs k d in exact_shape i.op (length i.firsts) (length i.seconds) (h k d l)

pub plans_are_shaped : PlansAreShaped
plans_are_shaped g well =
    let cs : List CodeBlock = (expanded (flow_of g)).program.blocks in
    λ k d l. code_shaped (get_or cs k d) (plans_are_exact g well k d l)

pub plans_end_in_release : PlansEndInRelease
plans_end_in_release g well b c e p i f = ends_in_release (flow_of g) c (code_read g well b c e) p i f
