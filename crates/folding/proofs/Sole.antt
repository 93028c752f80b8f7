-- An instruction with one destination keeps it.
use Rattle.std.proofs.Common.{◌≡◌, ℕ, ℤ, zero, suc, ◌+◌, ◌<◌, ◌≤◌, Bool, true, false, ◌||◌, ◌∷◌, ◌++◌, length, refl, sym, ap, ◌∙◌, subst, inl, inr}
use Rattle.std.proofs.Common.{◌⊎◌, arith, Some, if◌then◌else◌, true≢false, []}
use Rattle.std.specs.Prelude.{slice_get}
use Rattle.std.proofs.lemmas.Option.{slice_get_within}
use Rattle.std.proofs.lemmas.Bool.{cases_lt}
use Rattle.std.proofs.lemmas.List.{get_or_past}
use Rattle.lemmas.proofs.SliceGet.{get_some}
use Rattle.tags.specs.declared.token.Port.{Port}
use Rattle.tags.specs.declared.token.Port.TheVariants.{Left, Right}
use Rattle.operators.specs.declared.Binary.{Binary}
use Rattle.semantics.specs.declared.program.Dest.{Dest}
use Rattle.semantics.specs.declared.program.Op.TheVariants.{Apply2, Lit}
use Rattle.semantics.specs.Program.{Instr, CodeBlock}
use Rattle.semantics.specs.Plan.{Plan}
use Rattle.semantics.specs.Wired.{is_dyadic}
use Rattle.folding.specs.declared.namers.Namer.{Namer}
use Rattle.folding.specs.declared.namers.Namer.TheVariants.{One}
use Rattle.folding.specs.Namers.{namer_of, namers_of}
use Rattle.folding.specs.Folds.{is_closed}
use Rattle.folding.specs.Places.{layout_of, gone_at, folds_at}
use Rattle.folding.specs.Moved.{is_shut, moved_dests, new_dest}
use Rattle.folding.specs.Laws.{dests_of, NamedBy, other_port, TakesLiteral, IsDropped, SparesLiterals, KeepsSole}
use Rattle.folding.proofs.Standing.{all}
use Rattle.folding.proofs.Naming.{knows_namers}
use Rattle.folding.proofs.Named.{namers_name, same_number}
use Rattle.folding.proofs.Taken.{closed_takes, leaves_out}

pub this_one : (a b : ℕ) (s t : Bool) (x : Namer) → NamedBy a s x → x ≡ One b t → One a s ≡ One b t
this_one a b s t x (inl e) f = sym e ∙ f
this_one a b s t x (inr e) f = absurd (cc)

one_only : (d x : Dest) (k : ℕ) → slice_get (d ∷ []) k ≡ Some x → x ≡ d
one_only d x zero e = cc
one_only d x (suc k) e = absurd (cc)

module _ (p : Plan) (c : CodeBlock) (spares : SparesLiterals c) (n : ℕ) (i : Instr) (d : Dest) (at : slice_get c.instrs n ≡ Some i) (sole : i.firsts
    ≡ d ∷ []) (other : (z : ℤ) → i.op ≡ Lit z → ⊥) where
  abbrev to : ℕ
  to = n + d.ahead

  there : slice_get (dests_of i false) 0 ≡ Some d
  there = ap (λ ds. slice_get ds 0) sole

  -- the port is no closed one, since no `lit` names it
  not_closed : (z : ℤ) × TakesLiteral p c to d.port z → ⊥
  not_closed (z, t) = by_literal t.literal
    where
      same : n ≡ t.lit
      same = same_number n t.lit false t.lit_side (this_one n t.lit false t.lit_side (namer_of (namers_of p c) to d.port)
          (knows_namers p c n 0 i false d at there (slice_get_within c.instrs to t.operator.0 t.operator.2)) t.alone)

      by_literal : (j : Instr) × (slice_get c.instrs t.lit ≡ Some j) × (j.op ≡ Lit z) → ⊥
      by_literal (j, stands, op) = let e : slice_get c.instrs n ≡ Some j = ap (slice_get c.instrs) same ∙ stands in let f : j ≡ i = cc
          in other z (sym (ap (λ (x : Instr). x.op) f) ∙ op)

  -- where it leads, nothing is left out: else it would lead to the operator, too
  not_gone : (j : Instr) → slice_get c.instrs to ≡ Some j → IsDropped p c to j → ⊥
  not_gone j stands out = by_port d.port refl
    where
      lit_port : d.port ≡ Right → (z : ℤ) × (j.op ≡ Lit z) → ⊥
      lit_port q (z, op) = absurd (true≢false (sym (spares n 0 i false d j at there stands q) ∙ ap is_dyadic op))

      by_name : (x : ℕ) (q : Port) (z : ℤ) → (y : Instr) × (o : Binary) × (slice_get c.instrs x ≡ Some y) × (y.op ≡ Apply2 o) → (w : ℤ) × (j.op ≡ Lit w)
          → (i : Instr) × (k : ℕ) × (d : Dest) × (slice_get c.instrs n ≡ Some i) × (slice_get (dests_of i false) k ≡ Some d) × (n + d.ahead ≡ x)
          × (d.port ≡ q) → ⊥
      by_name x q z (y, o, standing, op) (w, lit) (i2, k, d2, at2, also, lead, port) =
          let f : i2 ≡ i = cc in
          let dd : d2 ≡ d = one_only d d2 k (sym (ap (λ ds. slice_get ds k) (ap (λ (x : Instr). x.firsts) f ∙ sole)) ∙ also) in
          let e : to ≡ x = sym (ap (λ (d : Dest). n + d.ahead) dd) ∙ lead in
          let g : slice_get c.instrs to ≡ Some y = ap (slice_get c.instrs) e ∙ standing in
          let h : y ≡ j = cc in
          let r : Apply2 o ≡ Lit w = sym op ∙ ap (λ (x : Instr). x.op) h ∙ lit in
          absurd (cc)

      by_take : (s : Bool) (u : Dest) (z : ℤ) → slice_get (dests_of j s) 0 ≡ Some u → d.port ≡ Left → TakesLiteral p c (to + u.ahead) u.port z → ⊥
      by_take s u z e q t =
          let lit_here = same_number to t.lit s t.lit_side (this_one to t.lit s t.lit_side (namer_of (namers_of p c) (to + u.ahead) u.port)
          (knows_namers p c to 0 j s u stands e (slice_get_within c.instrs (to + u.ahead) t.operator.0 t.operator.2)) t.alone) in
          let named = ap (λ m. namer_of (namers_of p c) m Left) lit_here ∙ t.to_lit in
          let mine = subst (λ q. NamedBy n false (namer_of (namers_of p c) to q)) q
          (knows_namers p c n 0 i false d at there (slice_get_within c.instrs to j stands)) in
          let same = this_one n t.source false t.source_side (namer_of (namers_of p c) to Left) mine named in
          by_name (to + u.ahead) (other_port u.port) z t.operator out.literal (namers_name p c (to + u.ahead) (other_port u.port) n false
          (t.to_operator ∙ sym same))

      by_use : d.port ≡ Left → (s : Bool) × (u : Dest) × (slice_get (dests_of j s) 0 ≡ Some u) → ⊥
      by_use q (s, u, e) = taken (closed_takes p c (to + u.ahead) u.port (out.closed s 0 u e))
        where
          taken : (z : ℤ) × TakesLiteral p c (to + u.ahead) u.port z → ⊥
          taken (z, t) = by_take s u z e q t

      by_port : (q : Port) → d.port ≡ q → ⊥
      by_port Left e = by_use e out.used
      by_port Right e = lit_port e out.literal

  open_there : is_shut (layout_of p c) to d.port ≡ false
  open_there = pick (gone_at (layout_of p c) to) refl (is_closed (folds_at (layout_of p c) to) d.port) refl (cases_lt to (length c.instrs))
    where
      found : gone_at (layout_of p c) to ≡ true → (j : Instr) × (slice_get c.instrs to ≡ Some j) → ⊥
      found g (j, stands) = not_gone j stands (leaves_out p c to j stands g)

      pick : (t : Bool) → gone_at (layout_of p c) to ≡ t → (u : Bool) → is_closed (folds_at (layout_of p c) to) d.port ≡ u
          → (to < length c.instrs) ⊎ (length c.instrs ≤ to) → is_shut (layout_of p c) to d.port ≡ false
      pick false g false e h = (λ k. g k || e k)
      pick t g true e h = absurd (not_closed (closed_takes p c to d.port e))
      pick true g false e (inl h) = absurd (found g (get_some c.instrs to h))
      pick true g false e (inr h) = let len = all p c in absurd (true≢false (sym g ∙ get_or_past (layout_of p c).gone to false (omega (arith, h, len))))

pub keeps_sole : KeepsSole
keeps_sole p c spares n i d at sole other =
    ap (moved_dests (layout_of p c) n) sole ∙ ap (λ t. (if t then [] else new_dest (layout_of p c) n (n + d.ahead) d.port ∷ []) ++ [])
    (open_there p c spares n i d at sole other)
