-- Code whose loops open with the graph's bounds has as many credits as the graph's loops.
use Rattle.std.proofs.Common.{◌≡◌, sym, ap, subst, ℕ, ◌+◌, ◌≤◌, ◌⊎◌, inl, inr, Bool, true, false, List, [], ◌∷◌}
use Rattle.std.proofs.Common.{Contains, All, arith}
use Rattle.std.specs.Prelude.{if◌then◌else◌}
use Rattle.std.proofs.lemmas.Option.{slice_get_within}
use Rattle.std.proofs.lemmas.List.Elements.{Contains-append_cases}
use Rattle.std.proofs.lemmas.List.Sorted.{Contains-permutation}
use Rattle.lemmas.proofs.Contains.{contains_cases, contains_head, contains_tail, contains_get, get_contains}
use Rattle.lemmas.proofs.SliceGet.{get_some}
use Rattle.lemmas.proofs.Alls.{all_at}
use Rattle.lemmas.proofs.Permutations.{within_from, within_to, within_flat_map}
use Rattle.semantics.specs.Graph.{Block, Flow}
use Rattle.semantics.specs.Program.{Instr}
use Rattle.semantics.specs.Cause.{HasBounds, coded_blocks, looped_from, is_looped, loop_bounds, open_bounds, opened_by}
use Rattle.law_reuse.proofs.SlotsPlaced.{Found, found}
use Rattle.law_completion.specs.Total.{BoundsAreCredits}

of_all : {X : Type 0} (P : X → Type 0) (xs : List X) (x : X) → All P xs → Contains xs x → P x
of_all P xs x all c = let i = contains_get xs x c in all_at P xs i.0 x all i.1

-- a block that is coded once more is a block of the graph
looped_among : (fl : Flow) (n : ℕ) (bs : List (Block ℕ)) (b : Block ℕ) → Contains (looped_from fl n bs) b → Contains bs b
looped_among fl n [] b c = c
looped_among fl n (x ∷ bs) b c = go (is_looped fl n) c (looped_among fl (n + 1) bs b)
  where
    go : (t : Bool) → Contains (if t then x ∷ looped_from fl (n + 1) bs else looped_from fl (n + 1) bs) b
        → (Contains (looped_from fl (n + 1) bs) b → Contains bs b) → Contains (x ∷ bs) b
    go false c more = contains_tail x bs b (more c)
    go true c more = pick (contains_cases x (looped_from fl (n + 1) bs) b c)
      where
        pick : (x ≡ b) ⊎ Contains (looped_from fl (n + 1) bs) b → Contains (x ∷ bs) b
        pick (inl e) = subst (Contains (x ∷ bs)) e (contains_head x bs)
        pick (inr c) = contains_tail x bs b (more c)

coded_among : (fl : Flow) (b : Block ℕ) → Contains (coded_blocks fl) b → Contains fl.blocks b
coded_among fl b c = go (Contains-append_cases fl.blocks (looped_from fl 0 fl.blocks) b c)
  where
    go : Contains fl.blocks b ⊎ Contains (looped_from fl 0 fl.blocks) b → Contains fl.blocks b
    go (inl c) = c
    go (inr c) = looped_among fl 0 fl.blocks b c

pub bounds_are_credits : BoundsAreCredits
bounds_are_credits fl p t faithful loops ip k i at opens =
    let F : Found p ip i = found p ip i at in
    let bounds : HasBounds fl p = faithful.bounds in
    let low = slice_get_within p.blocks F.b F.stands.code F.stands.block in
    let same = bounds.0 in
    let g = get_some (coded_blocks fl) F.b (omega (arith, low, same)) in
    let here : Contains (opened_by i.op) k = subst (λ (l : List ℕ). Contains l k) (sym (ap opened_by opens)) (contains_head k []) in
    let inside : Contains (open_bounds F.stands.code) k =
    within_to k (open_bounds F.stands.code)
    (within_flat_map (λ (i : Instr). opened_by i.op) i k F.stands.code.instrs
    (within_from i F.stands.code.instrs (get_contains F.stands.code.instrs F.n i F.stands.instr)) (within_from k (opened_by i.op) here)) in
    let moved = bounds.1 F.b F.stands.code g.0 F.stands.block g.1 in
    let named = Contains-permutation (open_bounds F.stands.code) (loop_bounds g.0) k moved inside in
    let block = coded_among fl g.0 (get_contains (coded_blocks fl) F.b g.0 g.1) in
    of_all (λ k. t ≤ k) (loop_bounds g.0) k (of_all (λ (b : Block ℕ). All (λ k. t ≤ k) (loop_bounds b)) fl.blocks g.0 loops block) named
