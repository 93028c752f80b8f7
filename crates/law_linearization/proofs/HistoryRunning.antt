-- A legal history of blocks is one run of the machine.
use Rattle.std.proofs.Common.{◌≡◌, ◌≢◌, refl, sym, ◌∙◌, ap, subst, ℕ, ◌*◌, ◌<◌, Bool, List, [], ◌∷◌, ◌++◌, append_assoc}
use Rattle.std.specs.Prelude.{All, IsPermutation, ◌==◌, if◌then◌else◌, map}
use Rattle.std.proofs.lemmas.Bool.{ne_eqb, eq-eqb}
use Rattle.std.proofs.lemmas.List.Elements.{All-append, All-head, All-tail}
use Rattle.std.proofs.lemmas.List.Sorted.{IsPermutation-refl, IsPermutation-trans, IsPermutation-append_left, All-permutation}
use Rattle.lemmas.proofs.Bools.{by_equality}
use Rattle.tags.specs.declared.token.Token.{Token}
use Rattle.semantics.specs.Machine.{Machine, Store, Event, Happens}
use Rattle.semantics.specs.Pool.{LeavesPool}
use Rattle.semantics.specs.Pool as pool
use Rattle.element.specs.Near.{IsNearToken}
use Rattle.element.specs.Parts.{Part, IsPart}
use Rattle.frame_order.specs.InOrder.{OrderedEvent, OrderedRun}
use Rattle.frame_order.proofs.InOrder.{run_join}
use Rattle.schedule.specs.Setting.{Setting, size, total, IsGoodSetting}
use Rattle.schedule.specs.State.{IsBounded}
use Rattle.schedule.proofs.Bounding.{bounded_after}
use Rattle.law_linearization.specs.History.{Act, Block, by_element, events_in, blocks_by, entry_of, LeavesTokens, AreBelow, bounds_of, IsOwn, Chain, Flows}
use Rattle.law_linearization.specs.History.{Blocks, Begins}
use Rattle.law_linearization.specs.HistoryLaws.{RunOfHistory, Came}
use Rattle.law_linearization.proofs.HistoryActing.{acts_commute}

-- HISTORIES
pub leaves_same : (n : ℕ) (one two : List Token) (log : List pool.Commit) (last : List Token) → IsPermutation one two → LeavesPool n two log last
    → LeavesPool n one log last
leaves_same n one two [] last perm leaves = IsPermutation-trans one two last perm leaves
leaves_same n one two (c ∷ log) last perm (rest, takes, addressed, more) = (rest, IsPermutation-trans one two (c.spent ++ rest) perm takes, addressed, more)

pub by_same : (b : Block) (later : List Block) → blocks_by b.element (b ∷ later) ≡ b ∷ blocks_by b.element later
by_same b later = ap (λ (t : Bool). (if t then b ∷ [] else []) ++ blocks_by b.element later) (eq-eqb b.element b.element refl)

pub by_other : (b : Block) (later : List Block) (i : ℕ) → i ≢ b.element → blocks_by i (b ∷ later) ≡ blocks_by i later
by_other b later i ne = ap (λ (t : Bool). (if t then b ∷ [] else []) ++ blocks_by i later) (ne_eqb b.element i (λ (s : b.element ≡ i). ne (sym s)))

module _ (g : Setting) (good : IsGoodSetting g) where
  abbrev Near : Token → Type 0
  Near t = IsNearToken (bounds_of g) t

  -- ONE BLOCK
  record After (e : ℕ) (m : Machine) (acts : List Act) (last : List Token) (new : Part) : Type 0 where
    pub next : Machine
    pub run : OrderedRun g.program (size g) m (by_element e acts) next
    pub pool : IsPermutation next.pool last
    pub near : All Near next.pool
    pub bounded : IsBounded g next.store
    pub part : IsPart new next.store
    pub others : (i : ℕ) (h : Part) → IsOwn g i h → i ≢ e → IsPart h m.store → IsPart h next.store

  total_is : (e : ℕ) (h : Part) → IsOwn g e h → h.shape.elements * h.shape.frames ≡ total g
  total_is e h own = ap (λ (n : ℕ). n * h.shape.frames) own.elements ∙ ap (λ (n : ℕ). g.elements * n) own.frames

  run_acts : (e : ℕ) (acts : List Act) (m : Machine) (old new : Part) (first last rest : List Token) → IsOwn g e old → IsPart old m.store → All Near m.pool
      → IsBounded g m.store
      → IsPermutation m.pool (first ++ rest) → Flows first acts last → Chain g e old acts new → After e m acts (last ++ rest) new
  run_acts e [] m old new first last rest own part near bounded holds flows chain = record {
    next = m;
    run = (IsPermutation-refl m.pool, refl);
    pool = IsPermutation-trans m.pool (first ++ rest) (last ++ rest) holds (IsPermutation-append_left rest first last flows);
    near = near;
    bounded = bounded;
    part = subst (λ (h : Part). IsPart h m.store) (sym chain) part;
    others = λ i h theirs ne there. there;
  }
  run_acts e (a ∷ later) m old new first last rest own part near bounded holds (left, takes, flows) (mid, mid_own, addressed, near_made, law, chain) =
      let t : Token = a.token in
      let happened = law m.store part in
      let s : Store = happened.0 in
      let happens : Happens g.program (total g) m.store t.to t.word a.made s =
      subst (λ (n : ℕ). Happens g.program n m.store t.to t.word a.made s) (total_is e old own) happened.1 in
      let taken : IsPermutation m.pool (t ∷ (left ++ rest)) =
      IsPermutation-trans m.pool (first ++ rest) (t ∷ (left ++ rest)) holds (IsPermutation-append_left rest first (t ∷ left) takes) in
      let next : Machine = record { store = s; pool = a.made ++ (left ++ rest) } in
      let event : Event g.program (size g) e t m next =
      record {
        made = a.made;
        rest = left ++ rest;
        addressed = addressed;
        takes = taken;
        happens = happens;
        leaves = IsPermutation-refl (a.made ++ (left ++ rest));
      } in
      let ordered : OrderedEvent g.program (size g) e t m next = record { event = event; in_order = happened.4 } in
      let all : All Near (t ∷ (left ++ rest)) = All-permutation Near m.pool (t ∷ (left ++ rest)) taken near in
      let near_t : Near t = All-head Near t (left ++ rest) all in
      let near_next : All Near (a.made ++ (left ++ rest)) = All-append Near a.made (left ++ rest) near_made (All-tail Near t (left ++ rest) all) in
      let bounded_next : IsBounded g s = bounded_after g m.store bounded good.fits t.to t.word a.made s near_t.to happens in
      let regrouped : IsPermutation (a.made ++ (left ++ rest)) ((a.made ++ left) ++ rest) =
      subst (λ (l : List Token). IsPermutation l ((a.made ++ left) ++ rest)) (append_assoc a.made left rest) (IsPermutation-refl ((a.made ++ left) ++ rest)) in
      let later_on : After e next later (last ++ rest) new =
      run_acts e later next mid new (a.made ++ left) last rest mid_own happened.2 near_next bounded_next regrouped flows chain in
      record {
        next = later_on.next;
        run = (next, ordered, later_on.run);
        pool = later_on.pool;
        near = later_on.near;
        bounded = later_on.bounded;
        part = later_on.part;
        others = λ i h theirs ne there. later_on.others i h theirs ne (acts_commute g e i old h m.store s own theirs ne happened.3 there);
      }

  -- ALL BLOCKS
  history : (log : List Block) (m : Machine) (last : List Token) (parts : ℕ → Part) → All Near m.pool → IsBounded g m.store → AreBelow g.elements log
      → LeavesTokens g.elements m.pool log last
      → ((e : ℕ) → e < g.elements → Begins g m log (parts e) e) → Came g m log last parts
  history [] m last parts near bounded below leaves begins = record {
    machine = m;
    run = (IsPermutation-refl m.pool, refl);
    pool = leaves;
    near = near;
    bounded = bounded;
    is = λ e low. let b = begins e low in (subst (λ (h : Part). IsOwn g e h) (sym b.blocks) b.own, subst (λ (h : Part). IsPart h m.store) (sym b.blocks) b.is);
  }
  history (b ∷ later) m last parts near bounded (low, below) (rest, takes, addressed, leaves) begins =
      let e : ℕ = b.element in
      let mine : Begins g m (b ∷ later) (parts e) e = begins e low in
      let blocks : Blocks g e mine.part (b ∷ blocks_by e later) (parts e) =
      subst (λ (bs : List Block). Blocks g e mine.part bs (parts e)) (by_same b later) mine.blocks in
      let mid : Part = blocks.0 in
      let after : After e m b.acts (b.made ++ rest) mid =
      run_acts e b.acts m mine.part mid b.spent b.made rest mine.own mine.is near bounded takes blocks.2 blocks.3 in
      let n : Machine = after.next in
      let here : Begins g n later (parts e) e = record { part = mid; own = blocks.1; is = after.part; blocks = blocks.4 } in
      let elsewhere : (i : ℕ) → i < g.elements → i ≢ e → Begins g n later (parts i) i = λ i within ne. let h = begins i within in record {
        part = h.part;
        own = h.own;
        is = after.others i h.part h.own ne h.is;
        blocks = subst (λ (bs : List Block). Blocks g i h.part bs (parts i)) (by_other b later i ne) h.blocks;
      } in
      let begun : (i : ℕ) → i < g.elements → Begins g n later (parts i) i
      =
      λ i within. by_equality (Begins g n later (parts i) i) i e (λ (same : i ≡ e). subst (λ (k : ℕ). Begins g n later (parts k) k) (sym same) here)
      (λ (ne : i ≢ e). elsewhere i within ne) (i == e) refl in
      let came : Came g n later last parts =
      history later n last parts after.near after.bounded below
      (leaves_same g.elements n.pool (b.made ++ rest) (map entry_of later) last after.pool leaves) begun in
      record {
        machine = came.machine;
        run = run_join g.program (size g) m n came.machine (by_element e b.acts) (events_in later) after.run came.run;
        pool = came.pool;
        near = came.near;
        bounded = came.bounded;
        is = came.is;
      }

pub run_of_history : RunOfHistory
run_of_history g good log start last parts near bounded below leaves begins = history g good log start last parts near bounded below leaves begins
