-- Two holders that may share a slot are never both live: over what one invocation met and used.
use Rattle.std.proofs.Common.{◌≡◌, ℕ, inl, inr, Bool, not, List, Contains}
use Rattle.std.specs.Prelude.{slice_get}
use Rattle.tags.specs.declared.token.Port.{Port}
use Rattle.semantics.specs.Plan.{Plan}
use Rattle.semantics.specs.declared.program.Mark.{Mark}
use Rattle.semantics.specs.Sharing.{Inlet, inlet, Arc, arcs_in, IsAfter, is_after, Leads, by_choice, by_port, IsEnd, IsSide, IsHolderPort, MayShare}

-- what is needed of the ports that tokens were met at, and of the arcs that were used
pub record IsCaused (arcs : List Arc) (Met : Inlet → Type 0) (Used : Arc → Type 0) : Type 0 where
  -- a token at a port that has arcs came by one of them
  pub came : (q : Inlet) (x : Arc) → Contains arcs x → x.to ≡ q → Met q → (y : Arc) × Contains arcs y × (y.to ≡ q) × Used y
  -- an instruction that fired had met a token at each of its ports
  pub fired : (y : Arc) (side : Port) (x : Arc) → Contains arcs x → x.to ≡ inlet y.from side → Used y → Met (inlet y.from side)

module _ (arcs : List Arc) (chosen : Arc → Type 0) where
  arc_into : (q : Inlet) → IsAfter arcs chosen q → (x : Arc) × Contains arcs x × (x.to ≡ q)
  arc_into _ (is_after q x inside to all) = (x, inside, to)

module _ (arcs : List Arc) (Met : Inlet → Type 0) (Used : Arc → Type 0) (caused : IsCaused arcs Met Used) (chosen : Arc → Type 0) where
  mutual
    pub chosen_used : (q : Inlet) → IsAfter arcs chosen q → Met q → (x : Arc) × chosen x × Used x
    chosen_used _ (is_after q x inside to all) met =
        let came = caused.came q x inside to met in
        used_leads came.0 (all came.0 came.1 came.2) came.3

    used_leads : (y : Arc) → Leads arcs chosen y → Used y → (x : Arc) × chosen x × Used x
    used_leads _ (by_choice y is) used = (y, is, used)
    used_leads _ (by_port y side after) used =
        let into = arc_into arcs chosen (inlet y.from side) after in
        chosen_used (inlet y.from side) after (caused.fired y side into.0 into.1 into.2 used)

-- what is needed of the holders: `Live h` is that the holder's slot is not empty, or that a token waits for one of its ports
pub record IsKept (p : Plan) (b : ℕ) (Met : Inlet → Type 0) (Used : Arc → Type 0) (Live : ℕ → Type 0) : Type 0 where
  pub caused : IsCaused (arcs_in p (slice_get p.program.blocks b)) Met Used
  pub begun : (h : ℕ) → Live h → (q : Inlet) × IsHolderPort (slice_get p.program.blocks b) h q × Met q
  pub ended : (h : ℕ) (x : Arc) → IsEnd (slice_get p.program.blocks b) h x → Used x → Live h → ⊥
  pub sides : (m : Mark) (side : Bool) (x y : Arc) → IsSide p b m side x → IsSide p b m (not side) y → Used x → Used y → ⊥

-- two holders that may share are never both live
pub one_live : (p : Plan) (b : ℕ) (Met : Inlet → Type 0) (Used : Arc → Type 0) (Live : ℕ → Type 0) → IsKept p b Met Used Live
    → (g h : ℕ) → MayShare p b g h → Live g → Live h → ⊥
one_live p b Met Used Live K g h (inl (m, side, on_g, on_h)) live_g live_h =
    let port_g = K.begun g live_g in
    let port_h = K.begun h live_h in
    let arc_g = chosen_used (arcs_in p (slice_get p.program.blocks b)) Met Used K.caused (IsSide p b m side) port_g.0 (on_g port_g.0 port_g.1) port_g.2 in
    let arc_h = chosen_used (arcs_in p (slice_get p.program.blocks b)) Met Used K.caused (IsSide p b m (not side)) port_h.0 (on_h port_h.0 port_h.1) port_h.2 in
    K.sides m side arc_g.0 arc_h.0 arc_g.1 arc_h.1 arc_g.2 arc_h.2
one_live p b Met Used Live K g h (inr (inl after)) live_g live_h =
    let port = K.begun g live_g in
    let used = chosen_used (arcs_in p (slice_get p.program.blocks b)) Met Used K.caused (IsEnd (slice_get p.program.blocks b) h) port.0
    (after port.0 port.1) port.2 in
    K.ended h used.0 used.1 used.2 live_h
one_live p b Met Used Live K g h (inr (inr after)) live_g live_h =
    let port = K.begun h live_h in
    let used = chosen_used (arcs_in p (slice_get p.program.blocks b)) Met Used K.caused (IsEnd (slice_get p.program.blocks b) g) port.0
    (after port.0 port.1) port.2 in
    K.ended g used.0 used.1 used.2 live_g
