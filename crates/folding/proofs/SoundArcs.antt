-- Where the destinations of a plan are sound, its arcs are wired.
use Rattle.std.proofs.Common.{◌≡◌, ℕ, suc, ◌+◌, ◌<◌, ◌≤◌, true, List, ◌∷◌, ◌++◌, refl, sym, ap, ◌∙◌, inl, inr, ◌⊎◌, arith, Some, []}
use Rattle.std.specs.Prelude.{slice_get, Contains}
use Rattle.std.proofs.lemmas.List.Elements.{Contains-append_cases}
use Rattle.lemmas.proofs.Contains.{contains_none}
use Rattle.lemmas.proofs.SliceGet.{get_some}
use Rattle.tags.specs.declared.token.Port.TheVariants.{Left, Right}
use Rattle.semantics.specs.declared.program.Dest.{Dest}
use Rattle.semantics.specs.Program.{Instr, CodeBlock}
use Rattle.semantics.specs.Plan.{Plan, landing}
use Rattle.semantics.specs.Sharing.{Arc, Inlet, inlet, arc, arcs_from, arcs_of}
use Rattle.semantics.specs.Wired.{IsInstrAt}
use Rattle.semantics.specs.Wired as Wired
use Rattle.semantics.specs.Bytes as Bytes
use Rattle.semantics.proofs.ArcEnds.{Leads, arcs_from_lead}
use Rattle.code.specs.Sound.{IsSoundDest, DestsAreSound}
use Rattle.folding.proofs.SoundDests.{dyadic_is}

-- WHAT AN ARC COMES FROM: a destination; it leads there, or further on in a landing
abbrev LeadsBy : ℕ → Dest → Arc → Type 0
LeadsBy n d x = (x.to ≡ inlet (n + d.ahead) d.port) ⊎ ((x.to.port ≡ Left) × (n + d.ahead ≤ x.to.place))

abbrev Found : ℕ → List Instr → Arc → Type 0
Found from is x = (k n : ℕ) × (i : Instr) × (n ≡ from + k) × (slice_get is k ≡ Some i) × Leads n (i.firsts ++ i.seconds) x

in_instrs : (q : Plan) (from : ℕ) (is : List Instr) (x : Arc) → Contains (arcs_of q from is) x → Found from is x
in_instrs q from [] x h = absurd (contains_none x h)
in_instrs q from (i ∷ is) x h = pick (Contains-append_cases (arcs_from q from i i.op) (arcs_of q (from + 1) is) x h) (in_instrs q (from + 1) is x)
  where
    pick : Contains (arcs_from q from i i.op) x ⊎ Contains (arcs_of q (from + 1) is) x
        → (Contains (arcs_of q (from + 1) is) x → Found (from + 1) is x) → Found from (i ∷ is) x
    pick (inl m) more = (0, from, i, omega arith, refl, arcs_from_lead q from i i.op x m)
    pick (inr m) more = let r = more m in let e = r.3 in (suc r.0, r.1, r.2, omega (arith, e), r.4, r.5)

-- a sound destination by which an arc leads
pub record IsSoundArc (q : Plan) (c : CodeBlock) (x : Arc) : Type 0 where
  pub n : ℕ
  pub d : Dest
  pub sound : IsSoundDest q c n d
  pub to : (x.to ≡ inlet (n + d.ahead) d.port) ⊎ ((x.to.port ≡ Left) × (n + d.ahead ≤ x.to.place))

module _ (q : Plan) (sound : DestsAreSound q) (b : ℕ) (c : CodeBlock) (at_b : slice_get q.program.blocks b ≡ Some c) (x : Arc)
    (has : Contains (arcs_of q 0 c.instrs) x) where
  sound_arc : IsSoundArc q c x
  sound_arc =
      let r = in_instrs q 0 c.instrs x has in
      let e = r.3 in
      let z : r.0 ≡ r.1 = omega (arith, e) in
      record {
        n = r.1;
        d = r.5.0;
        sound = sound b r.1 c r.5.0 (record {
          i = r.2;
          block = at_b;
          there = sym (ap (slice_get c.instrs) z)
              ∙ r.4;
          named = r.5.1;
        });
        to = r.5.2;
      }

  -- No arc leads to an entry,
  pub past_entries : c.inputs < x.to.place
  past_entries = pick sound_arc.to
    where
      pick : LeadsBy sound_arc.n sound_arc.d x → c.inputs < x.to.place
      pick (inl e) = let s = sound_arc.sound.past in let k = ap (λ (y : Inlet). y.place) e in omega (arith, s, k)
      pick (inr (left, low)) = let s = sound_arc.sound.past in omega (arith, s, low)

  -- and a right port is one of an instruction with two operands.
  pub right_dyadic : x.to.port ≡ Right → (i : Instr) × IsInstrAt c x.to.place i × (Wired.is_dyadic i.op ≡ true)
  right_dyadic right = pick sound_arc.to
    where
      target : (j : Instr) × (slice_get c.instrs (sound_arc.n + sound_arc.d.ahead) ≡ Some j)
      target = get_some c.instrs (sound_arc.n + sound_arc.d.ahead) sound_arc.sound.dest.inside

      pick : LeadsBy sound_arc.n sound_arc.d x → (i : Instr) × IsInstrAt c x.to.place i × (Wired.is_dyadic i.op ≡ true)
      pick (inl e) = (
        target.0,
        ap (λ (y : Inlet). slice_get c.instrs y.place) e ∙ target.1,
        sym (dyadic_is target.0) ∙ sym (ap Bytes.is_dyadic target.1) ∙ sound_arc.sound.dest.right (sym (ap (λ (y : Inlet). y.port) e) ∙ right),
      )
      pick (inr (left, low)) = let k : Left ≡ Right = sym left ∙ right in absurd (cc)
