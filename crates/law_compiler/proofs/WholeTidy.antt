-- Of a plan that is wired as a graph: nothing but a link's landing leads to a `give` or a `take`, since no wire feeds these.
use Rattle.std.proofs.Common.{◌≡◌, ℕ, ◌+◌, ◌<◌, Bool, true, false, ◌⊎◌, inl, inr, [], ◌∷◌, ◌++◌, length, Option, Some, None, refl, sym, ap, ◌∙◌, subst, arith}
use Rattle.std.proofs.Common.{true≢false}
use Rattle.std.specs.Prelude.{Contains, IsPermutation, slice_get}
use Rattle.std.proofs.lemmas.Option.{slice_get_within}
use Rattle.std.proofs.lemmas.List.Elements.{Contains-append_cases}
use Rattle.std.proofs.lemmas.List.Sorted.{Contains-permutation}
use Rattle.lemmas.proofs.Contains.{contains_mapped, contains_cases, contains_none, contains_map}
use Rattle.lemmas.proofs.SliceGet.{get_some}
use Rattle.semantics.specs.declared.graph.Kind.{Kind}
use Rattle.semantics.specs.declared.program.Dest.{Dest}
use Rattle.semantics.specs.declared.program.Op.{Op}
use Rattle.semantics.specs.declared.program.Op.TheVariants.{Give, Take, Link}
use Rattle.semantics.specs.Graph.{Block, Flow, Node, node_at}
use Rattle.semantics.specs.Meaning.{Context}
use Rattle.semantics.specs.Program.{Instr, CodeBlock, instr_at, first_of}
use Rattle.semantics.specs.Plan.{Plan}
use Rattle.semantics.specs.Cause.{is_looped}
use Rattle.semantics.specs.Orderly.{often}
use Rattle.law_reuse.proofs.SlotsPlaced.{stands_at}
use Rattle.law_fresh_frames.specs.Alike.{plain_dests}
use Rattle.law_net.specs.ContextsParts.{Part, Line, Giver, Taker, Drainer, LoopDone, Framer, Fanned, Linker, Asker, NextFramer, NextFanned, Inlet, inlet}
use Rattle.law_net.specs.ContextsBlocks.{Site, Wiring, side, there_in, op_of, kind_op, line_op}
use Rattle.law_net.specs.Contexts.{Wires}
use Rattle.law_net.specs.ContextsWires as Wires
use Rattle.law_net.specs.ContextsWires.{IsWiredCode, answered_at, is_unwired, leads_to}
use Rattle.law_net.specs.ContextsTheorem.{IsGood}
use Rattle.law_net.proofs.ContextsCoded.{all_coded}
use Rattle.law_compiler.specs.Graphs.{LeadsToNoneOften}

-- which operations are a `give` or a `take`
abbrev often_op : Op → Bool
often_op o = elim o as (λ x. Bool) [ Give k ↦ true | Take k ↦ true | _ ↦ false ]

kind_calm : (k : Kind ℕ) → often_op (kind_op k) ≡ false
kind_calm (Kind.Lit z) = refl
kind_calm (Kind.Apply1 op) = refl
kind_calm (Kind.Apply2 op) = refl
kind_calm (Kind.Fetch a) = refl
kind_calm (Kind.Store a) = refl
kind_calm k = refl

line_calm : (b : Block ℕ) (n : ℕ) → often_op (line_op b n) ≡ false
line_calm b n = go (node_at b n)
  where
    go : (o : Option (Node ℕ)) → often_op (elim o as (λ x. Op) [ None ↦ Op.Copy | Some line ↦ kind_op line.kind ]) ≡ false
    go None = refl
    go (Some line) = kind_calm line.kind

-- what a wire may feed is neither
calm : (variant : ℕ → ℕ) (s : Site) (q : Part) → is_unwired s.block q ≡ false → often_op (op_of variant s q) ≡ false
calm variant s (Line n) e = line_calm s.block n
calm variant s (Giver n) e = absurd (true≢false e)
calm variant s (Taker n) e = absurd (true≢false e)
calm variant s q e = refl

-- a destination that is no link's landing
dest_cases : (i : Instr) (op : Op) (d : Dest) → Contains (plain_dests i op) d → Contains i.seconds d ⊎ (Contains i.firsts d × ((b : ℕ) → op ≡ Link b → ⊥))
dest_cases i (Link b) d c = inl c
dest_cases i op d c = swap (Contains-append_cases i.firsts i.seconds d c)
  where
    swap : Contains i.firsts d ⊎ Contains i.seconds d → Contains i.seconds d ⊎ (Contains i.firsts d × ((b : ℕ) → op ≡ Link b → ⊥))
    swap (inl a) = inr (a, λ b e. cc)
    swap (inr a) = inl a

-- A PART that is there, and neither a `give` nor a `take`
abbrev IsCalm : Flow → (ℕ → ℕ) → Site → Wiring → Part → Type 0
IsCalm fl variant s w q = (there_in fl s w q ≡ true) × (often_op (op_of variant s q) ≡ false)

only_one : (x y : Inlet) → Contains (x ∷ []) y → x ≡ y
only_one x y c = pick (contains_cases x [] y c)
  where
    pick : (x ≡ y) ⊎ Contains [] y → x ≡ y
    pick (inl e) = e
    pick (inr d) = absurd (contains_none y d)

-- so is what answers beside the wires, except for a landing
answered_calm : (fl : Flow) (variant : ℕ → ℕ) (s : Site) (w : Wiring) (r : Part) (x : Inlet) → there_in fl s w r ≡ true → ((n : ℕ) → r ≡ Linker n → ⊥)
    → Contains (answered_at r) x → IsCalm fl variant s w x.part
answered_calm fl variant s w (Linker n) x h other c = absurd (other n refl)
answered_calm fl variant s w (Giver n) x h other c = subst (λ (y : Inlet). IsCalm fl variant s w y.part) (only_one _ x c) (h, refl)
answered_calm fl variant s w (Drainer n) x h other c = subst (λ (y : Inlet). IsCalm fl variant s w y.part) (only_one _ x c) (h, refl)
answered_calm fl variant s w (Framer n) x h other c = subst (λ (y : Inlet). IsCalm fl variant s w y.part) (only_one _ x c) (h, refl)
answered_calm fl variant s w NextFramer x h other c = subst (λ (y : Inlet). IsCalm fl variant s w y.part) (only_one _ x c) (h, refl)
answered_calm fl variant s w Asker x h other c = subst (λ (y : Inlet). IsCalm fl variant s w y.part) (only_one _ x c) (h, refl)
answered_calm fl variant s w r x h other c = absurd (contains_none x c)

module _ (fl : Flow) (p : Plan) (variant : ℕ → ℕ) (Here : Context → Type 0) (s : Site) (w : Wiring) (k : IsWiredCode fl p variant Here s w) where
  -- a destination leads to such a part
  calm_dest : (n : ℕ) (i : Instr) (d : Dest) → slice_get k.code.instrs n ≡ Some i → Contains (plain_dests i i.op) d
      → (j : Instr) × (slice_get k.code.instrs (n + d.ahead) ≡ Some j) × (often_op j.op ≡ false)
  calm_dest n i d e c = by_dest (dest_cases i i.op d c)
    where
      part : (r : Part) × (there_in fl s w r ≡ true) × (w.place r ≡ n)
      part = k.laid.each n (slice_get_within k.code.instrs n i e)

      r : Part
      r = part.0

      instr : Wires.IsInstr fl p variant s w r i
      instr =
          let h = k.laid.here r part.1 in
          let same : Some h.0 ≡ Some i = sym h.1 ∙ ap (slice_get k.code.instrs) part.2 ∙ e in
          let one : h.0 ≡ i = cc in
          subst (Wires.IsInstr fl p variant s w r) one h.2

      leads : (x : Inlet) → IsCalm fl variant s w x.part → (w.place x.part, x.port) ≡ leads_to (w.place r) d
          → (j : Instr) × (slice_get k.code.instrs (n + d.ahead) ≡ Some j) × (often_op j.op ≡ false)
      leads x calm at =
          let h = k.laid.here x.part calm.0 in
          let place : w.place x.part ≡ n + d.ahead = ap (λ (y : ℕ × _). y.0) at ∙ ap (λ (m : ℕ). m + d.ahead) part.2 in
          (h.0, ap (slice_get k.code.instrs) (sym place) ∙ h.1, ap often_op h.2.op ∙ calm.1)

      wired : (t : Bool) (x : Inlet) → Contains (w.wire (side r t)) x → IsCalm fl variant s w x.part
      wired t x c = let f = k.lawful.fed.inlets (side r t) x part.1 c in (f.0, calm variant s x.part f.3)

      by_dest : Contains i.seconds d ⊎ (Contains i.firsts d × ((b : ℕ) → i.op ≡ Link b → ⊥))
          → (j : Instr) × (slice_get k.code.instrs (n + d.ahead) ≡ Some j) × (often_op j.op ≡ false)
      by_dest (inl a) =
          let x = contains_mapped (Wires.ip_and_port w) (w.wire (side r true)) (leads_to (w.place r) d)
          (Contains-permutation _ _ _ instr.seconds (contains_map (leads_to (w.place r)) i.seconds d a)) in
          leads x.0 (wired true x.0 x.1) x.2
      by_dest (inr a) =
          let x = contains_mapped (Wires.ip_and_port w) (answered_at r ++ w.wire (side r false)) (leads_to (w.place r) d)
          (Contains-permutation _ _ _ instr.firsts (contains_map (leads_to (w.place r)) i.firsts d a.0)) in
          leads x.0 (by_inlet x.0 (Contains-append_cases (answered_at r) (w.wire (side r false)) x.0 x.1)) x.2
        where
          by_inlet : (x : Inlet) → Contains (answered_at r) x ⊎ Contains (w.wire (side r false)) x → IsCalm fl variant s w x.part
          by_inlet x (inl b) = answered_calm fl variant s w r x part.1 (λ m g. a.1 _ (instr.op ∙ ap (op_of variant s) g)) b
          by_inlet x (inr b) = wired false x b

  pub calm_at : (n : ℕ) (i : Instr) (d : Dest) → slice_get k.code.instrs n ≡ Some i → Contains (plain_dests i i.op) d
      → often (instr_at p.program (first_of p.program s.own + n + d.ahead)) ≡ false
  calm_at n i d e c =
      let j = calm_dest n i d e c in
      let at = stands_at p.program s.own (n + d.ahead) j.0 (record { code = k.code; block = k.there; instr = j.1 }) in
      let same : first_of p.program s.own + n + d.ahead ≡ first_of p.program s.own + (n + d.ahead) = omega arith in
      ap (λ (m : ℕ). often (instr_at p.program m)) same ∙ ap often at ∙ j.2

-- EVERY GOOD PLAN
pub wired_leads : (fl : Flow) (p : Plan) (w : Wires) → IsGood fl p w → LeadsToNoneOften p
wired_leads fl p w good b n c i d at e has = by_code (all_coded fl p w good b c at)
  where
    some_code : (x y : CodeBlock) → Some x ≡ Some y → x ≡ y
    some_code x y e = cc

    by_site : (Here : Context → Type 0) (s : Site) (wg : Wiring) → IsWiredCode fl p w.variant Here s wg → s.own ≡ b
        → often (instr_at p.program (first_of p.program b + n + d.ahead)) ≡ false
    by_site Here s wg k own =
        let same : c ≡ k.code = some_code c k.code (sym at ∙ ap (slice_get p.program.blocks) (sym own) ∙ k.there) in
        subst (λ (b : ℕ). often (instr_at p.program (first_of p.program b + n + d.ahead)) ≡ false) own
        (calm_at fl p w.variant Here s wg k n i d (ap (λ (c : CodeBlock). slice_get c.instrs n) (sym same) ∙ e) has)

    by_code : (b < length fl.blocks) ⊎ ((j : ℕ) × (j < length fl.blocks) × (is_looped fl j ≡ true) × (b ≡ w.variant j))
        → often (instr_at p.program (first_of p.program b + n + d.ahead)) ≡ false
    by_code (inl h) = let x = get_some fl.blocks b h in by_site (Wires.Runs fl w b) (Wires.plain_site x.0 b) (w.wiring b) (good.wired.plain b x.0 x.1) refl
    by_code (inr (j, h, l, g)) =
        let x = get_some fl.blocks j h in by_site (Wires.Runs fl w (w.variant j)) (Wires.turn_site x.0 j (w.variant j)) (w.wiring (w.variant j))
        (good.wired.turns j x.0 x.1 l) (sym g)
