-- The loop of an `open`: its take, its link, and the landing in which they lie.
use Rattle.std.proofs.Common.{◌≡◌, ℕ, ◌+◌, true, false, List, [], ◌∷◌, map, length, refl, sym, ap, ◌∙◌, subst, inr, arith, Option, Some, None, le-ltb}
use Rattle.std.specs.Prelude.{IsPermutation, slice_get}
use Rattle.std.proofs.lemmas.Bool.{or_right}
use Rattle.std.proofs.lemmas.Option.{slice_get_within}
use Rattle.tags.specs.declared.token.Port.{Port}
use Rattle.tags.specs.declared.token.Port.TheVariants.{Left}
use Rattle.semantics.specs.declared.graph.Kind.{Kind}
use Rattle.semantics.specs.declared.program.Dest.{Dest}
use Rattle.semantics.specs.declared.program.Op.{Op}
use Rattle.semantics.specs.declared.program.Op.TheVariants.{Open, Take}
use Rattle.semantics.specs.Graph.{Block, Flow, Node, node_at}
use Rattle.semantics.specs.Meaning.{Context}
use Rattle.semantics.specs.Plan.{Plan, landing, landing_in}
use Rattle.semantics.specs.Program.{Instr, first_of, instr_at}
use Rattle.semantics.specs.Holders.{Holder, holder_at, holder_of}
use Rattle.semantics.specs.Rule.{slot_of}
use Rattle.semantics.specs.Credits.{IsPart, IsLink, IsLoop}
use Rattle.semantics.proofs.Lines.{body_is_looped}
use Rattle.law_reuse.proofs.SlotsClaims.{holder_here}
use Rattle.law_reuse.proofs.SlotsPlaced.{IsPlaced, instr_in}
use Rattle.law_net.specs.ContextsParts.{Part, Line, Opener, Linker, Landing, Taker, Inlet, inlet}
use Rattle.law_net.specs.ContextsBlocks.{Wiring, Site, side, loop_kind, is_call, is_loop, bound_at, op_of, line_op, kind_op, there_in, callee_code, code_called}
use Rattle.law_net.specs.ContextsBlocks.{result_count, kind_results}
use Rattle.law_net.specs.Contexts.{Wires}
use Rattle.law_net.specs.ContextsWires.{IsWiredCode, IsInstr, leads_to, ip_and_port}
use Rattle.law_net.specs.ContextsTheorem.{IsGood}
use Rattle.law_net.proofs.WiredInvoked.{kind_line, loop_names}
use Rattle.law_net.proofs.RunsLands.{loop_code, one_dest}

-- an instruction that opens is a loop's opener
line_opens_not : (b : Block ℕ) (n k : ℕ) → line_op b n ≡ Open k → ⊥
line_opens_not b n k e = go (node_at b n) e
  where
    by_kind : (kind : Kind ℕ) → kind_op kind ≡ Open k → ⊥
    by_kind (Kind.Lit z) e = absurd (cc)
    by_kind (Kind.Apply1 op) e = absurd (cc)
    by_kind (Kind.Apply2 op) e = absurd (cc)
    by_kind (Kind.Fetch a) e = absurd (cc)
    by_kind (Kind.Store a) e = absurd (cc)
    by_kind kind e = absurd (cc)

    go : (x : Option (Node ℕ)) → (elim x as (λ x. Op) [ None ↦ Op.Copy | Some line ↦ kind_op line.kind ]) ≡ Open k → ⊥
    go None e = absurd (cc)
    go (Some line) e = by_kind line.kind e

opener_of : (v : ℕ → ℕ) (s : Site) (k : ℕ) (r : Part) → op_of v s r ≡ Open k → (n : ℕ) × (r ≡ Opener n) × (bound_at s.block n ≡ k)
opener_of v s k (Opener n) e = (n, refl, cc)
opener_of v s k (Line n) e = absurd (line_opens_not s.block n k e)
opener_of v s k r e = absurd (cc)

module _ (fl : Flow) (p : Plan) (w : Wires) (good : IsGood fl p w) where
  module _ (Here : Context → Type 0) (s : Site) (wi : Wiring) (x : IsWiredCode fl p w.variant Here s wi) where
    abbrev IsThere : Part → Type 0
    IsThere r = there_in fl s wi r ≡ true

    abbrev at_part : Part → ℕ
    at_part r = first_of p.program s.own + wi.place r

    -- the instruction of a part
    abbrev instr_of : (r : Part) → IsThere r → Instr
    instr_of r h = (x.laid.here r h).0

    instr_is : (r : Part) (h : IsThere r) → IsInstr fl p w.variant s wi r (instr_of r h)
    instr_is r h = (x.laid.here r h).2

    stands : (r : Part) (h : IsThere r) → IsPlaced p.program s.own (wi.place r) (instr_of r h)
    stands r h = record { code = x.code; block = x.there; instr = (x.laid.here r h).1 }

    instr_there : (r : Part) (h : IsThere r) → instr_at p.program (at_part r) ≡ Some (instr_of r h)
    instr_there r h =
        instr_in p.program.blocks s.own (wi.place r) x.code x.there (slice_get_within x.code.instrs (wi.place r) (instr_of r h) (x.laid.here r h).1)
        ∙ (x.laid.here r h).1

    -- THE LANDING of a loop's link is as long as its turns want
    landing_long : (i : ℕ) → slice_get fl.blocks i ≡ Some s.block → (n : ℕ) → is_loop s.block n ≡ true
        → landing p (callee_code w.variant s.block n) ≡ result_count fl s.block n + 3
    landing_long i found n l =
        let line = kind_line loop_kind s.block n l in
        let names = loop_names fl (length line.0.sources) line.0.kind line.2 in
        let well = (good.well.lines i s.block found n line.0 line.1).invokes names.0 names.1 in
        let looped = body_is_looped fl i n names.0 s.block line.0 found line.1 names.3 in
        let code = good.wired.turns names.0 well.0 well.1 looped in
        let over = good.wired.others names.0 well.0 well.1 looped in let count = good.wired.plain_count in
        let callee : callee_code w.variant s.block n ≡ w.variant names.0 =
        ap (λ (o : Option (Node ℕ)). elim o as (λ x. ℕ) [ None ↦ 0 | Some line ↦ code_called w.variant line.kind ]) line.1
        ∙ loop_code w.variant line.0.kind names.0 line.2 names.1 in
        let results : result_count fl s.block n ≡ length line.0.sources =
        ap (λ (o : Option (Node ℕ)). elim o as (λ x. ℕ) [ None ↦ 0 | Some line ↦ kind_results fl (length line.sources) line.kind ]) line.1 ∙ names.2 in
        ap (landing p) callee
        ∙ (let plain = le-ltb (w.variant names.0) p.plain (omega (arith, over, count)) in let there = code.there in λ t. landing_in (plain t) (there t))
        ∙ (let inputs = code.laid.inputs in let same = well.2 in let r = results in omega (arith, inputs, same, r))

    -- THE LOOP
    module _ (i : ℕ) (found : slice_get fl.blocks i ≡ Some s.block) (loop : Holder) (k nn ip sl : ℕ) (o : Instr) (at : slice_get x.code.instrs nn ≡ Some o)
        (does : o.op ≡ Open k) (place : ip ≡ first_of p.program s.own + nn) (uses : o.slot ≡ sl) (holds : holder_at p ip ≡ Some loop) where
      pub part : (r : Part) × (there_in fl s wi r ≡ true) × (wi.place r ≡ nn)
      part = x.laid.each nn (slice_get_within x.code.instrs nn o at)

      same_instr : (a b : Instr) → Some a ≡ Some b → a ≡ b
      same_instr a b e = cc

      is_o : instr_of part.0 part.1 ≡ o
      is_o = same_instr (instr_of part.0 part.1) o (sym (x.laid.here part.0 part.1).1 ∙ ap (slice_get x.code.instrs) part.2 ∙ at)

      pub opener : (n : ℕ) × (part.0 ≡ Opener n) × (bound_at s.block n ≡ k)
      opener = opener_of w.variant s k part.0 (sym (instr_is part.0 part.1).op ∙ ap (λ (o : Instr). o.op) is_o ∙ does)

      pub loops : is_loop s.block opener.0 ≡ true
      loops = subst (λ (r : Part). there_in fl s wi r ≡ true) opener.1 part.1

      pub bound_is : bound_at s.block opener.0 ≡ k
      bound_is = opener.2

      pub slot_is : wi.slot (Opener opener.0) ≡ sl
      slot_is = ap wi.slot (sym opener.1) ∙ sym (instr_is part.0 part.1).slot ∙ ap (λ (o : Instr). o.slot) is_o ∙ uses

      some_holder : (a b : Holder) → Some a ≡ Some b → b ≡ a
      some_holder a b e = cc

      pub loop_is : loop ≡ record { block = s.own; number = wi.slot (Opener opener.0) }
      loop_is =
          let here = holder_here p s.own nn o (record { code = x.code; block = x.there; instr = at }) in
          let slotted : slot_of o o.op ≡ Some o.slot = ap (slot_of o) does in
          some_holder (record { block = s.own; number = wi.slot (Opener opener.0) }) loop
          (ap (λ (n : ℕ). Some (record { block = s.own; number = n })) (slot_is ∙ sym uses) ∙ sym (ap (holder_of s.own) slotted) ∙ sym here
          ∙ ap (holder_at p) (sym place) ∙ holds)

      taker_part : IsPart p p.program loop (Take k) (at_part (Taker opener.0)) sl
      taker_part =
          let h = instr_is (Taker opener.0) loops in
          let o = instr_of (Taker opener.0) loops in
          let slot = h.slot ∙ (x.laid.loops opener.0 loops).1 ∙ slot_is in
          let here = holder_here p s.own (wi.place (Taker opener.0)) o (stands (Taker opener.0) loops) in
          let slotted : slot_of o o.op ≡ Some o.slot = ap (slot_of o) h.op in
          record {
            instr = o;
            is_at = instr_there (Taker opener.0) loops;
            does = h.op ∙ ap Take opener.2;
            uses = slot;
            holds =
                here ∙ ap (holder_of s.own) slotted ∙ ap (λ (n : ℕ). Some (record { block = s.own; number = n })) (slot ∙ sym slot_is) ∙ ap Some (sym loop_is);
          }

      linker_there : there_in fl s wi (Linker opener.0) ≡ true
      linker_there = or_right (is_call s.block opener.0) (is_loop s.block opener.0) loops

      linker_dest : (d : Dest) × ((instr_of (Linker opener.0) linker_there).firsts ≡ d ∷ [])
          × (leads_to (wi.place (Linker opener.0)) d ≡ (wi.place (Landing opener.0 0), Left))
      linker_dest = one_dest (instr_of (Linker opener.0) linker_there).firsts (leads_to (wi.place (Linker opener.0))) (wi.place (Landing opener.0 0), Left)
          (subst (λ (l : List Inlet). IsPermutation (map (leads_to (wi.place (Linker opener.0))) (instr_of (Linker opener.0) linker_there).firsts)
          (map (ip_and_port wi) (inlet (Landing opener.0 0) Left 0 ∷ l)))
          (x.lawful.fed.sides (side (Linker opener.0) false) (inr refl)) (instr_is (Linker opener.0) linker_there).firsts)

      linker_link : IsLink p.program (at_part (Linker opener.0)) (callee_code w.variant s.block opener.0) (at_part (Landing opener.0 0))
      linker_link = let d = linker_dest in let at = ap (λ (y : ℕ × Port). y.0) d.2 in record {
        instr = instr_of (Linker opener.0) linker_there;
        dest = d.0;
        is_at = instr_there (Linker opener.0) linker_there;
        does = (instr_is (Linker opener.0) linker_there).op;
        lands = d.1;
        begins = omega (arith, at);
      }

      pub is_loop_here : IsPart p p.program loop (Open k) ip sl → IsLoop p p.program loop k sl (at_part (Landing opener.0 0))
      is_loop_here opens =
          let rows = x.laid.credits opener.0 loops in let giver = rows.0 in let taker = rows.1 in let long = landing_long i found opener.0 loops in record {
            open_ip = ip;
            take_ip = at_part (Taker opener.0);
            link_ip = at_part (Linker opener.0);
            callee = callee_code w.variant s.block opener.0;
            opens = opens;
            takes = taker_part;
            links = linker_link;
            lands = (omega (arith, giver, taker), omega (arith, giver, taker, long));
          }
