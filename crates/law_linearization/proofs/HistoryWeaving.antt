-- A history of commits, with the events that each stands for.
use Rattle.std.proofs.Common.{◌≡◌, refl, sym, ◌∙◌, ap, subst, ℕ, ◌<◌, ◌≤◌, Bool, true, false, List, [], ◌∷◌, ◌++◌}
use Rattle.std.specs.Prelude.{◌==◌, if◌then◌else◌, map, nat_lt}
use Rattle.std.proofs.lemmas.Bool.{eqb-true, eq-eqb, ltb-true, ltb-false}
use Rattle.lemmas.proofs.Lists.{nothing_after}
use Rattle.mesh.specs.declared.view.Commit.{Commit}
use Rattle.mesh.specs.Deeds.{commits_by, entry}
use Rattle.law_linearization.specs.History.{Block, blocks_by, if_by, commit_of, entry_of, AreBelow}
use Rattle.law_linearization.proofs.HistoryRunning.{by_same}

-- a history of blocks that has these commits, and of each element these blocks
abbrev pub Woven : List Commit → (ℕ → List Block) → Type 0
Woven seen blocks = (log : List Block) × (map commit_of log ≡ seen) × ((e : ℕ) → blocks_by e log ≡ blocks e)

abbrev later_of : List Block → List Block
later_of [] = []
later_of (b ∷ bs) = bs

-- the blocks of all elements except the first one of element k
abbrev without : ℕ → (ℕ → List Block) → ℕ → List Block
without k blocks e = if k == e then later_of (blocks e) else blocks e

none_of : (bs : List Block) → [] ≡ map commit_of bs → [] ≡ bs
none_of [] e = refl
none_of (b ∷ bs) e = absurd (let no : ⊥ = cc in no)

-- the first commit is that of the first block
abbrev Starts : Commit → List Block → Type 0
Starts c bs = (b : Block) × (commit_of b ≡ c) × (bs ≡ b ∷ later_of bs)

starts : (c : Commit) (cs : List Commit) (bs : List Block) → c ∷ cs ≡ map commit_of bs → Starts c bs
starts c cs [] e = absurd (let no : ⊥ = cc in no)
starts c cs (b ∷ bs) e = let same : commit_of b ≡ c = cc in (b, same, refl)

later_same : (c : Commit) (cs : List Commit) (bs : List Block) → c ∷ cs ≡ map commit_of bs → cs ≡ map commit_of (later_of bs)
later_same c cs [] e = absurd (let no : ⊥ = cc in no)
later_same c cs (b ∷ bs) e = let same : cs ≡ map commit_of bs = cc in same

-- the commits of an element, with and without one of element k
by_first : (c : Commit) (later : List Commit) (e : ℕ) (t : Bool) → (c.element == e) ≡ t
    → (if t then c ∷ [] else []) ++ commits_by e later ≡ commits_by e (c ∷ later)
by_first c later e t is = ap (λ (u : Bool). (if u then c ∷ [] else []) ++ commits_by e later) (sym is)

-- what is left of all blocks has the later commits
left_same : (c : Commit) (later : List Commit) (blocks : ℕ → List Block) (e : ℕ) → commits_by e (c ∷ later) ≡ map commit_of (blocks e) → (t : Bool)
    → (c.element == e) ≡ t → commits_by e later ≡ map commit_of (without c.element blocks e)
left_same c later blocks e same true is =
    later_same c (commits_by e later) (blocks e) (by_first c later e true is ∙ same)
    ∙ ap (λ (t : Bool). map commit_of (if t then later_of (blocks e) else blocks e)) (sym is)
left_same c later blocks e same false is =
    by_first c later e false is ∙ same ∙ ap (λ (t : Bool). map commit_of (if t then later_of (blocks e) else blocks e)) (sym is)

-- with that block before them, the blocks of each element are whole again
whole_again : (k : ℕ) (blocks : ℕ → List Block) (b : Block) (log : List Block) → b.element ≡ k → blocks k ≡ b ∷ later_of (blocks k) → (e : ℕ)
    → blocks_by e log ≡ without k blocks e
    → (t : Bool) → (k == e) ≡ t → blocks_by e (b ∷ log) ≡ blocks e
whole_again k blocks b log at first e rest true is =
    let front : blocks_by e (b ∷ log) ≡ b ∷ blocks_by e log = ap (λ (n : ℕ). (if n == e then b ∷ [] else []) ++ blocks_by e log) at
    ∙ ap (λ (t : Bool). (if t then b ∷ [] else []) ++ blocks_by e log) is in
    let back : blocks_by e log ≡ later_of (blocks e) = rest ∙ ap (λ (t : Bool). if t then later_of (blocks e) else blocks e) is in
    let here : blocks e ≡ b ∷ later_of (blocks e) = subst (λ (n : ℕ). blocks n ≡ b ∷ later_of (blocks n)) (eqb-true k e is) first in
    front ∙ ap (λ (l : List Block). b ∷ l) back ∙ sym here
whole_again k blocks b log at first e rest false is =
    let front : blocks_by e (b ∷ log) ≡ blocks_by e log = ap (λ (n : ℕ). (if n == e then b ∷ [] else []) ++ blocks_by e log) at
    ∙ ap (λ (t : Bool). (if t then b ∷ [] else []) ++ blocks_by e log) is in
    front ∙ rest ∙ ap (λ (t : Bool). if t then later_of (blocks e) else blocks e) is

-- If the history has of each element the commits of its blocks, they make one history of blocks.
pub weave : (seen : List Commit) (blocks : ℕ → List Block) → ((e : ℕ) → commits_by e seen ≡ map commit_of (blocks e)) → Woven seen blocks
weave [] blocks same = ([], refl, λ e. none_of (blocks e) (same e))
weave (c ∷ later) blocks same =
    let k : ℕ = c.element in
    let own : c ∷ commits_by k later ≡ map commit_of (blocks k) = first_own c later ∙ same k in
    let first : Starts c (blocks k) = starts c (commits_by k later) (blocks k) own in
    let ih : Woven later (without k blocks) = weave later (without k blocks) (λ e. left_same c later blocks e (same e) (k == e) refl) in
    let at : first.0.element ≡ k = ap (λ (d : Commit). d.element) first.1 in (
      first.0 ∷ ih.0,
      ap (λ (d : Commit). d ∷ map commit_of ih.0) first.1 ∙ ap (λ (l : List Commit). c ∷ l) ih.1,
      (λ e. whole_again k blocks first.0 ih.0 at first.2 e (ih.2 e) (k == e) refl),
    )
  where
    first_own : (c : Commit) (later : List Commit) → c ∷ commits_by c.element later ≡ commits_by c.element (c ∷ later)
    first_own c later = by_first c later c.element true (eq-eqb c.element c.element refl)

-- its commits as the pool has them
pub same_entries : (log : List Block) → map entry (map commit_of log) ≡ map entry_of log
same_entries [] = refl
same_entries (b ∷ log) = ap (λ (l : List _). entry_of b ∷ l) (same_entries log)

-- where no element from n on has a block, each block is of an element below n
pub all_below : (n : ℕ) (log : List Block) → ((e : ℕ) → n ≤ e → blocks_by e log ≡ []) → AreBelow n log
all_below n [] none = tt
all_below n (b ∷ log) none = (by_case (nat_lt b.element n) refl, all_below n log (λ e over. nothing_after (if_by e b) (blocks_by e log) (none e over))) where
  by_case : (t : Bool) → nat_lt b.element n ≡ t → b.element < n
  by_case true is = ltb-true b.element n is
  by_case false is =
      absurd (let h : b ∷ blocks_by b.element log ≡ [] = sym (by_same b log) ∙ none b.element (ltb-false b.element n is) in let no : ⊥ = cc in no)
