-- A continuation that arrives at a return, a credit's asking or a release is that of a link with so long a landing.
use Rattle.std.proofs.Common.{◌≡◌, ℕ, ◌+◌, ◌<◌, true, false, ℤ, List, [], ◌∷◌, map, length, refl, sym, ap, ◌∙◌, subst, inl, inr, ◌⊎◌, arith, true≢false, Option}
use Rattle.std.proofs.Common.{Some, None, nat_lt, ltb-true, lt-ltb, le-ltb, if◌then◌else◌}
use Rattle.std.specs.Prelude.{Contains, IsPermutation, slice_get}
use Rattle.std.proofs.lemmas.Bool.{and_from, or_left, or_right}
use Rattle.std.proofs.lemmas.Option.{slice_get_within}
use Rattle.std.proofs.lemmas.List.{length-map}
use Rattle.std.proofs.lemmas.List.Sorted.{length_permutation, Contains-permutation}
use Rattle.std.proofs.lemmas.List.Elements.{All-contains}
use Rattle.lemmas.proofs.Contains.{contains_cases, contains_head, contains_none}
use Rattle.tags.specs.declared.token.Port.{Port}
use Rattle.tags.specs.declared.token.Port.TheVariants.{Left}
use Rattle.tags.specs.declared.token.Cont.{Cont}
use Rattle.tags.specs.declared.token.Word.{Word}
use Rattle.semantics.specs.declared.graph.Kind.{Kind}
use Rattle.semantics.specs.declared.program.Dest.{Dest}
use Rattle.semantics.specs.declared.program.Op.{Op}
use Rattle.semantics.specs.Graph.{Block, Flow, Node, node_at}
use Rattle.semantics.specs.Meaning.{Context, Main, Called, Turned, callee}
use Rattle.semantics.specs.Plan.{Plan, landing, landing_in}
use Rattle.semantics.specs.Program.{Instr, CodeBlock, first_of, instr_at}
use Rattle.semantics.specs.Machine.{Machine}
use Rattle.law_fresh_frames.specs.Alike.{HasLanding, offset_of}
use Rattle.law_net.proofs.ContextsWords.{carries_of}
use Rattle.law_net.specs.ContextsParts.{Part, Line, Linker, Landing, CallDone, Giver, Taker, Drainer, Result, Asker, LastReturn, DrainReturn, End, Inlet, inlet}
use Rattle.law_net.specs.ContextsParts.{Note}
use Rattle.law_net.specs.ContextsBlocks.{side, op_of, line_op, kind_op, there_in, is_call, is_loop, call_kind, loop_kind, code_called, callee_code}
use Rattle.law_net.specs.ContextsBlocks.{result_count}
use Rattle.law_net.specs.Contexts.{Wires, or_zero, block_in, code_in, site_in, wiring_in, return_of, IsContext}
use Rattle.law_net.specs.ContextsWires.{arrives_at, IsInstr, leads_to, ip_and_port}
use Rattle.law_net.specs.ContextsLaws.{WordFits, Carries}
use Rattle.law_net.specs.ContextsMirror.{Past, ip_of, word_of}
use Rattle.law_net.specs.ContextsTheorem.{IsGood}
use Rattle.law_net.specs.ContextsPackages.{Keeps, Lands}
use Rattle.law_net.proofs.WiredInvoked.{kind_line, call_invoked, loop_invoked, looped_at, lawful_at}
use Rattle.law_net.proofs.RunsArrives.{net, all_here, code, code_there, from_met, laid, instr_here, place_below}

-- OFFSETS. An instruction with one takes its context's continuation.
line_no_offset : (b : Block ℕ) (n o : ℕ) → offset_of (line_op b n) ≡ Some o → ⊥
line_no_offset b n o e = go (node_at b n) e
  where
    by_kind : (kind : Kind ℕ) → offset_of (kind_op kind) ≡ Some o → ⊥
    by_kind (Kind.Lit z) e = absurd (cc)
    by_kind (Kind.Apply1 op) e = absurd (cc)
    by_kind (Kind.Apply2 op) e = absurd (cc)
    by_kind (Kind.Fetch a) e = absurd (cc)
    by_kind (Kind.Store a) e = absurd (cc)
    by_kind kind e = absurd (cc)

    go : (x : Option (Node ℕ)) → offset_of (elim x as (λ x. Op) [ None ↦ Op.Copy | Some line ↦ kind_op line.kind ]) ≡ Some o → ⊥
    go None e = absurd (cc)
    go (Some line) e = by_kind line.kind e

pub data Offset (fl : Flow) (w : Wires) (c : Context) (r : Part) (o : ℕ) : Type 0 where
  OfResult : (j : ℕ) → r ≡ Result j → o ≡ j → Offset fl w c r o
  OfLast : (j : ℕ) → r ≡ LastReturn j → o ≡ j → Offset fl w c r o
  OfDrain : r ≡ DrainReturn → o ≡ (block_in fl c).inputs + 2 → Offset fl w c r o
  OfAsker : r ≡ Asker → o ≡ (block_in fl c).inputs + 1 → Offset fl w c r o
  OfEnd : r ≡ End → o ≡ (if (site_in fl w c).turns then (block_in fl c).inputs else (block_in fl c).outputs) → Offset fl w c r o

some_nat : (a b : ℕ) → Some a ≡ Some b → b ≡ a
some_nat a b e = cc

module _ (fl : Flow) (w : Wires) (c : Context) (o : ℕ) where
  offset_cases : (r : Part) → offset_of (op_of w.variant (site_in fl w c) r) ≡ Some o → Offset fl w c r o
  offset_cases (Line n) e = absurd (line_no_offset (block_in fl c) n o e)
  offset_cases (Result j) e = OfResult j refl (some_nat j o e)
  offset_cases (LastReturn j) e = OfLast j refl (some_nat j o e)
  offset_cases DrainReturn e = OfDrain refl (some_nat ((block_in fl c).inputs + 2) o e)
  offset_cases Asker e = OfAsker refl (some_nat ((block_in fl c).inputs + 1) o e)
  offset_cases End e = OfEnd refl (some_nat (if (site_in fl w c).turns then (block_in fl c).inputs else (block_in fl c).outputs) o e)
  offset_cases r e = absurd (cc)

  -- and its left word is that
  returns : (r : Part) → Offset fl w c r o → (t : ℕ) (k : Note) → Carries fl w c t (arrives_at r Left) k → k ≡ return_of c
  returns r (OfResult j e g) t k h = subst (λ (r : Part). Carries fl w c t (arrives_at r Left) k) e h
  returns r (OfLast j e g) t k h = subst (λ (r : Part). Carries fl w c t (arrives_at r Left) k) e h
  returns r (OfDrain e g) t k h = subst (λ (r : Part). Carries fl w c t (arrives_at r Left) k) e h
  returns r (OfAsker e g) t k h = subst (λ (r : Part). Carries fl w c t (arrives_at r Left) k) e h
  returns r (OfEnd e g) t k h = subst (λ (r : Part). Carries fl w c t (arrives_at r Left) k) e h

pub call_code : (v : ℕ → ℕ) (kind : Kind ℕ) (f : ℕ) → call_kind kind ≡ true → callee kind ≡ Some f → code_called v kind ≡ f
call_code v (Kind.Call g) f h e = cc
call_code v (Kind.StrictCall g) f h e = cc
call_code v kind f h e = absurd (true≢false (sym h))

pub loop_code : (v : ℕ → ℕ) (kind : Kind ℕ) (f : ℕ) → loop_kind kind ≡ true → callee kind ≡ Some f → code_called v kind ≡ v f
loop_code v (Kind.Loop g k) f h e = let same : g ≡ f = cc in ap v same
loop_code v kind f h e = absurd (true≢false (sym h))

-- one destination
pub one_dest : (ds : List Dest) (f : Dest → ℕ × Port) (x : ℕ × Port) → IsPermutation (map f ds) (x ∷ []) → (d : Dest) × (ds ≡ d ∷ []) × (f d ≡ x)
one_dest [] f x p = let n = length_permutation _ _ p in absurd (omega (arith, n))
one_dest (d ∷ []) f x p = (d, refl, same (contains_cases x [] (f d) (Contains-permutation _ _ (f d) p (contains_head (f d) []))))
  where
    same : (x ≡ f d) ⊎ Contains [] (f d) → f d ≡ x
    same (inl e) = sym e
    same (inr c) = absurd (contains_none (f d) c)
one_dest (d ∷ e ∷ ds) f x p = let n = length_permutation _ _ p in let m = length-map ds f in absurd (omega (arith, n, m))

module _ (fl : Flow) (p : Plan) (w : Wires) (inputs : List ℤ) (q : Past) (m : Machine) (good : IsGood fl p w)
    (k : Keeps fl p w inputs q m) where
  -- THE LINK of what a node of d invokes, whose landing is long enough
  module _ (d : Context) (here : IsContext fl d) (n : ℕ) (link : there_in fl (site_in fl w d) (wiring_in fl w d) (Linker n) ≡ true) where
    abbrev place : Part → ℕ
    place r = (wiring_in fl w d).place r

    abbrev block : CodeBlock
    block = code fl p w inputs q m good k d here

    abbrev linked : (i : Instr) × (slice_get block.instrs (place (Linker n)) ≡ Some i) × IsInstr fl p w.variant (site_in fl w d) (wiring_in fl w d) (Linker n) i
    linked = (laid fl p w inputs q m good k d here).here (Linker n) link

    landing_dest : (x : Dest) × (linked.0.firsts ≡ x ∷ []) × (leads_to (place (Linker n)) x ≡ (place (Landing n 0), Left))
    landing_dest = one_dest linked.0.firsts (leads_to (place (Linker n))) (place (Landing n 0), Left)
        (subst (λ (l : List Inlet). IsPermutation (map (leads_to (place (Linker n))) linked.0.firsts)
        (map (ip_and_port (wiring_in fl w d)) (inlet (Landing n 0) Left 0 ∷ l)))
        ((lawful_at fl p w good d here).fed.sides (side (Linker n) false) (inr refl)) linked.2.firsts)

    pub has_landing : (base o : ℕ) → base ≡ ip_of fl p w d (Landing n 0) → o < landing p (callee_code w.variant (block_in fl d) n)
        → place (Landing n 0) + o < length block.instrs → HasLanding p base o
    has_landing base o e within inside = let x = landing_dest in let at = ap (λ (y : ℕ × Port). y.0) x.2 in record {
      b = code_in fl w d;
      n = place (Linker n);
      c = block;
      i = linked.0;
      d = x.0;
      callee = callee_code w.variant (block_in fl d) n;
      block = code_there fl p w inputs q m good k d here;
      instr = linked.1;
      links = linked.2.op;
      lands = x.1;
      begins = e ∙ ap (λ (l : ℕ). first_of p.program (code_in fl w d) + l) (sym at);
      within = within;
      inside = omega (arith, at, inside);
    }

  -- the code that is called
  called_code : (d : Context) (n : ℕ) → IsContext fl (Called d n) → callee_code w.variant (block_in fl d) n ≡ code_in fl w (Called d n)
  called_code d n h =
      let line = kind_line call_kind (block_in fl d) n h.1 in let i = (call_invoked fl p w good d n h.0 h.1).0 in
      ap (λ (x : Option (Node ℕ)). elim x as (λ x. ℕ) [ None ↦ 0 | Some line ↦ code_called w.variant line.kind ]) line.1
      ∙ call_code w.variant line.0.kind i.number line.2 (i.named line.0 line.1) ∙ sym (ap or_zero i.numbered)

  turned_code : (d : Context) (n t : ℕ) → IsContext fl (Turned d n t) → callee_code w.variant (block_in fl d) n ≡ code_in fl w (Turned d n t)
  turned_code d n t h =
      let line = kind_line loop_kind (block_in fl d) n h.1 in let i = (loop_invoked fl p w good d n t h.0 h.1).0 in
      ap (λ (x : Option (Node ℕ)). elim x as (λ x. ℕ) [ None ↦ 0 | Some line ↦ code_called w.variant line.kind ]) line.1
      ∙ loop_code w.variant line.0.kind i.number line.2 (i.named line.0 line.1) ∙ ap w.variant (sym (ap or_zero i.numbered))

  -- its landing
  called_landing : (d : Context) (n : ℕ) → IsContext fl (Called d n)
      → landing p (callee_code w.variant (block_in fl d) n) ≡ (block_in fl (Called d n)).outputs + 1
  called_landing d n h =
      let c = Called d n in let i = (call_invoked fl p w good d n h.0 h.1).0 in
      let below = slice_get_within fl.blocks i.number (block_in fl c) i.found in let count = good.wired.plain_count in let at = ap or_zero i.numbered in
      ap (landing p) (called_code d n h)
      ∙ (λ t. landing_in (lt-ltb (code_in fl w c) p.plain (omega (arith, below, count, at)) t) (code_there fl p w inputs q m good k c h t))
      ∙ ap (λ (o : ℕ). o + 1) (laid fl p w inputs q m good k c h).outputs

  turned_landing : (d : Context) (n t : ℕ) → IsContext fl (Turned d n t)
      → landing p (callee_code w.variant (block_in fl d) n) ≡ (block_in fl (Turned d n t)).inputs + 3
  turned_landing d n t h =
      let c = Turned d n t in let i = (loop_invoked fl p w good d n t h.0 h.1).0 in
      let over = good.wired.others i.number (block_in fl c) i.found (looped_at fl p w good d n t i.number h.0 h.1 i.numbered) in
      let count = good.wired.plain_count in let at = ap w.variant (ap or_zero i.numbered) in
      ap (landing p) (turned_code d n t h)
      ∙ (λ s. landing_in (le-ltb (code_in fl w c) p.plain (omega (arith, over, count, at)) s) (code_there fl p w inputs q m good k c h s))
      ∙ ap (λ (o : ℕ). o + 3) (laid fl p w inputs q m good k c h).inputs

  -- WHERE IT LANDS, from the block that is called
  abbrev There : Context → Part → Type 0
  There c r = there_in fl (site_in fl w c) (wiring_in fl w c) r ≡ true

  call_inside : (d : Context) (n o : ℕ) (r : Part) (h : IsContext fl (Called d n)) → There (Called d n) r → Offset fl w (Called d n) r o
      → (o < (block_in fl (Called d n)).outputs + 1) × ((wiring_in fl w d).place (Landing n 0) + o < length (code fl p w inputs q m good k d h.0).instrs)
  call_inside d n o r h t x = go x
    where
      count : result_count fl (block_in fl d) n ≡ (block_in fl (Called d n)).outputs
      count = (call_invoked fl p w good d n h.0 h.1).1

      go : Offset fl w (Called d n) r o → (o < (block_in fl (Called d n)).outputs + 1)
          × ((wiring_in fl w d).place (Landing n 0) + o < length (code fl p w inputs q m good k d h.0).instrs)
      go (OfResult j e g) =
          let out : nat_lt j (block_in fl (Called d n)).outputs ≡ true = subst (There (Called d n)) e t in
          let low = ltb-true j (block_in fl (Called d n)).outputs out in
          let there : There d (Landing n j) = and_from _ _ (or_left (is_call (block_in fl d) n) (is_loop (block_in fl d) n) h.1) (ap (nat_lt j) count ∙ out) in
          let at = (laid fl p w inputs q m good k d h.0).landing n j there in
          let below = place_below fl p w inputs q m good k d h.0 (Landing n j) there in
          (omega (arith, low, g), omega (arith, at, below, g))
      go (OfLast j e g) = absurd (true≢false (sym (subst (There (Called d n)) e t)))
      go (OfDrain e g) = absurd (true≢false (sym (subst (There (Called d n)) e t)))
      go (OfAsker e g) = absurd (true≢false (sym (subst (There (Called d n)) e t)))
      go (OfEnd e g) =
          let at = (laid fl p w inputs q m good k d h.0).call_done n h.1 in
          let below = place_below fl p w inputs q m good k d h.0 (CallDone n) h.1 in
          (omega (arith, g), omega (arith, at, below, g, count))

  turn_inside : (d : Context) (n u o : ℕ) (r : Part) (h : IsContext fl (Turned d n u)) → There (Turned d n u) r → Offset fl w (Turned d n u) r o
      → (o < (block_in fl (Turned d n u)).inputs + 3) × ((wiring_in fl w d).place (Landing n 0) + o < length (code fl p w inputs q m good k d h.0).instrs)
  turn_inside d n u o r h t x = go x
    where
      count : result_count fl (block_in fl d) n ≡ (block_in fl (Turned d n u)).inputs
      count = (loop_invoked fl p w good d n u h.0 h.1).1

      rows : ((wiring_in fl w d).place (Giver n) ≡ (wiring_in fl w d).place (Landing n 0) + result_count fl (block_in fl d) n)
          × ((wiring_in fl w d).place (Taker n) ≡ (wiring_in fl w d).place (Giver n) + 1)
          × ((wiring_in fl w d).place (Drainer n) ≡ (wiring_in fl w d).place (Giver n) + 2)
      rows = (laid fl p w inputs q m good k d h.0).credits n h.1

      go : Offset fl w (Turned d n u) r o → (o < (block_in fl (Turned d n u)).inputs + 3)
          × ((wiring_in fl w d).place (Landing n 0) + o < length (code fl p w inputs q m good k d h.0).instrs)
      go (OfResult j e g) = absurd (true≢false (sym (subst (There (Turned d n u)) e t)))
      go (OfLast j e g) =
          let out : nat_lt j (block_in fl (Turned d n u)).inputs ≡ true = subst (There (Turned d n u)) e t in
          let low = ltb-true j (block_in fl (Turned d n u)).inputs out in
          let there : There d (Landing n j) = and_from _ _ (or_right (is_call (block_in fl d) n) (is_loop (block_in fl d) n) h.1) (ap (nat_lt j) count ∙ out) in
          let at = (laid fl p w inputs q m good k d h.0).landing n j there in
          let below = place_below fl p w inputs q m good k d h.0 (Landing n j) there in
          (omega (arith, low, g), omega (arith, at, below, g))
      go (OfDrain e g) =
          let giver = rows.0 in let drainer = rows.2 in
          let below = place_below fl p w inputs q m good k d h.0 (Drainer n) h.1 in (omega (arith, g), omega (arith, giver, drainer, below, g, count))
      go (OfAsker e g) =
          let giver = rows.0 in let taker = rows.1 in
          let below = place_below fl p w inputs q m good k d h.0 (Taker n) h.1 in (omega (arith, g), omega (arith, giver, taker, below, g, count))
      go (OfEnd e g) =
          let giver = rows.0 in
          let below = place_below fl p w inputs q m good k d h.0 (Giver n) h.1 in (omega (arith, g), omega (arith, giver, below, g, count))

  -- the link is there that a call or a loop has
  abbrev word : Note → Word
  word x = word_of fl p w (net fl p w inputs q m good k).fired x

  lands_by : (c : Context) (o : ℕ) (r : Part) → IsContext fl c → There c r → Offset fl w c r o → (g base : ℕ) (s : Port)
      → word (return_of c) ≡ Word.Back (Cont.Frame g base s) → HasLanding p base o
  lands_by Main o r h t x g base s e = absurd (cc)
  lands_by (Called d n) o r h t x g base s e =
      let in' = call_inside d n o r h t x in let size = called_landing d n h in let low = in'.0 in
      let at : base ≡ ip_of fl p w d (Landing n 0) = cc in
      has_landing d h.0 n (or_left (is_call (block_in fl d) n) (is_loop (block_in fl d) n) h.1) base o at (omega (arith, size, low)) in'.1
  lands_by (Turned d n u) o r h t x g base s e =
      let in' = turn_inside d n u o r h t x in let size = turned_landing d n u h in let low = in'.0 in
      let at : base ≡ ip_of fl p w d (Landing n 0) = cc in
      has_landing d h.0 n (or_right (is_call (block_in fl d) n) (is_loop (block_in fl d) n) h.1) base o at (omega (arith, size, low)) in'.1

  pub lands : Lands fl p inputs q m
  lands f ip g base o r i e d c =
      let x = from_met fl p w inputs q m good k f ip Left (Word.Back (Cont.Frame g base r)) c in
      let came = x.1 in
      let part = x.0.inlet.part in let context = x.0.context in
      let here = (laid fl p w inputs q m good k context came.context).here part came.part_here in
      let at = instr_here fl p w inputs q m good k context came.context part came.part_here in
      let same : here.0 ≡ i = some_instr here.0 i (sym at ∙ ap (instr_at p.program) came.place ∙ e) in
      let op : offset_of (op_of w.variant (site_in fl w context) part) ≡ Some o = ap offset_of (sym here.2.op ∙ ap (λ (i : Instr). i.op) same) ∙ d in
      let offset = offset_cases fl w context o part op in
      let fits = carries_of fl w x.0 (All-contains (WordFits fl w) (all_here fl p w inputs q m good k) x.0 k.fits came.stands) in
      let host : x.0.word ≡ return_of context =
      returns fl w context o part offset x.0.inlet.way x.0.word
      (subst (λ (s : Port). Carries fl w context x.0.inlet.way (arrives_at part s) x.0.word) came.port fits) in
      lands_by context o part came.context came.part_here offset g base r (sym (ap word host) ∙ x.2)
    where
      some_instr : (a b : Instr) → Some a ≡ Some b → a ≡ b
      some_instr a b e = cc
