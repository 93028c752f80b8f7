-- From the table of a block to its holders.
use Rattle.std.proofs.Common.{◌≡◌, ◌≢◌, sym, ap, ◌∙◌, subst, ℕ, ◌<◌, ◌≤◌, List, length, get_or, Some, ⊎_elim, arith}
use Rattle.std.specs.Prelude.{All, slice_get}
use Rattle.std.proofs.lemmas.Bool.{both_ways, cases_lt}
use Rattle.std.proofs.lemmas.List.{get_or_default}
use Rattle.std.proofs.lemmas.Option.{slice_get_within, slice_get-get_or, get_or_from_slice_get}
use Rattle.semantics.specs.Program.{CodeBlock}
use Rattle.semantics.specs.Plan.{Plan}
use Rattle.semantics.specs.Sharing.{MayShare, IsGoodBlock}
use Rattle.code.specs.Marks.{marks_in}
use Rattle.slot_alloc.specs.Tables.{Table, table_of, may_share, AdmitsAll, IsClosedAt, AreLeastOpen, IsFilled, IsFull}
use Rattle.slot_alloc.specs.Assigned.{IsClosed, AreLeast, IsBlockAssigned, IsCrowded}
use Rattle.slot_alloc.proofs.Counts.{so_long}
use Rattle.slot_alloc.proofs.Shared.{shared_exact, other_way}

module _ (p : Plan) (b : ℕ) (c : CodeBlock) (at : slice_get p.program.blocks b ≡ Some c) where
  abbrev pub the_table : Table
  the_table = table_of p (marks_in p b) c

  module _ (ss : List ℕ) (few : length ss ≤ c.slots) where
    slot_at : (g s : ℕ) → slice_get ss g ≡ Some s → get_or ss g 0 ≡ s
    slot_at g s e = get_or_from_slice_get ss g s 0 e

    below_from : AdmitsAll the_table ss → All (λ s. s < 512) ss
    below_from h = λ k d lt. subst (λ x. x < 512) (get_or_default ss k 0 d lt) (h k lt).0

    earlier_shares : AdmitsAll the_table ss → (g h s : ℕ) → slice_get ss g ≡ Some s → slice_get ss h ≡ Some s → g < h → MayShare p b g h
    earlier_shares all g h s gs hs lt =
        let in_h = slice_get_within ss h s hs in
        (shared_exact p b c at g h (omega (arith, lt, in_h, few)) (omega (arith, in_h, few))).0
        ((all h in_h).1 g lt (slot_at g s gs ∙ sym (slot_at h s hs)))

    share_from : AdmitsAll the_table ss → (g h s : ℕ) → slice_get ss g ≡ Some s → slice_get ss h ≡ Some s → g ≢ h → MayShare p b g h
    share_from all g h s gs hs ne = ⊎_elim
        (λ lt. earlier_shares all g h s gs hs lt)
        (λ le. let lt : h < g = omega (arith, le, ne) in other_way p b c at h g (earlier_shares all h g s hs gs lt))
        (cases_lt g h)

    closed_from : (h s : ℕ) → h < c.slots → IsClosedAt the_table ss h s → IsClosed p b ss h s
    closed_from h s below w =
        let lt = w.1 in (
          w.0,
          w.1,
          slice_get-get_or ss w.0 0 w.2 ∙ ap (λ (x : ℕ). Some x) w.3,
          λ m. both_ways (may_share the_table w.0 h) w.4 ((shared_exact p b c at w.0 h (omega (arith, lt, below)) below).1 m),
        )

    least_from : AreLeastOpen the_table ss → AreLeast p b ss
    least_from least = λ h s hs r lt.
        let in_h = slice_get_within ss h s hs in
        closed_from h r (omega (arith, in_h, few)) (least h in_h r (subst (λ x. r < x) (sym (slot_at h s hs)) lt))

  pub good_from : (ss : List ℕ) → length ss ≡ c.slots → AdmitsAll the_table ss → IsGoodBlock p b c ss
  good_from ss all h = let few : length ss ≤ c.slots = omega (arith, all) in record {
    all = all;
    below = below_from ss few h;
    share = share_from ss few h;
  }

  pub admits_from : (ss : List ℕ) → IsGoodBlock p b c ss → AdmitsAll the_table ss
  admits_from ss good = λ g below. (
    good.below g 0 below,
    λ h lt same.
        let len = good.all in
        let in_h : h < length ss = omega (arith, lt, below) in
        let gs = slice_get-get_or ss g 0 below in
        let hs = slice_get-get_or ss h 0 in_h ∙ ap (λ (x : ℕ). Some x) same in
        (shared_exact p b c at h g (omega (arith, in_h, len)) (omega (arith, below, len))).1
        (good.share h g (get_or ss g 0) hs gs (λ e. omega (arith, e, lt))),
  )

  pub assigned_from : (ss : List ℕ) → length ss ≡ c.slots → IsFilled the_table ss → IsBlockAssigned p b c ss
  assigned_from ss all h = let few : length ss ≤ c.slots = omega (arith, all) in record {
    good = good_from ss all h.admitted;
    least = least_from ss few h.least;
  }

  pub crowded_from : (ss : List ℕ) → IsFull the_table c.slots ss → IsCrowded p b c
  crowded_from ss h = let left = h.left in let few : length ss ≤ c.slots = omega (arith, left) in record {
    slots = ss;
    left = h.left;
    below = below_from ss few h.filled.admitted;
    share = share_from ss few h.filled.admitted;
    least = least_from ss few h.filled.least;
    closed = λ s lt. closed_from ss few (length ss) s h.left (h.closed s lt);
    many =
        (let long = so_long 512 ss (λ s lt. let w = h.closed s lt in (w.0, w.2, w.3)) in
        omega (arith, left, long));
  }
