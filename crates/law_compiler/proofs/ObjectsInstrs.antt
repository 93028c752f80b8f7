-- What holds of each instruction of a folded plan, and of a narrowed one.
use Rattle.std.proofs.Common.{◌≡◌, refl, ℕ, zero, suc, ◌+◌, Bool, true, false, if◌then◌else◌, List, [], ◌∷◌, map}
use Rattle.std.specs.Prelude.{All}
use Rattle.std.proofs.lemmas.List.Elements.{All-cons, All-nil, All-append, All-head, All-tail, All-map, All-weaker}
use Rattle.tags.specs.declared.value.Origin.TheVariants.{Untold}
use Rattle.semantics.specs.declared.program.Dest.{Dest}
use Rattle.semantics.specs.Program.{Instr, CodeBlock}
use Rattle.semantics.specs.Plan.{Plan}
use Rattle.fanout.specs.Sides.{copies, parted}
use Rattle.fanout.specs.Rows.{tied_in}
use Rattle.fanout.specs.Places as Places
use Rattle.fanout.specs.Places.{layout_with, base_of}
use Rattle.fanout.specs.Trees as Trees
use Rattle.fanout.specs.Trees.{copy_at, tree, copies_of}
use Rattle.fanout.specs.Narrowed.{parts_of, narrowed, narrowed_block}
use Rattle.fanout.proofs.Positions.{all_spread}
use Rattle.fanout.proofs.Spots.{sized}
use Rattle.folding.specs.Places.{Layout, layout_of, gone_at}
use Rattle.folding.specs.Moved.{moved}
use Rattle.folding.specs.Folded.{folded, folded_block, moved_from}

-- all instructions of a plan's blocks
abbrev pub AllInstrs : (Instr → Type 0) → List CodeBlock → Type 0
AllInstrs P cs = All (λ (c : CodeBlock). All P c.instrs) cs

-- FOLDED. It holds of each, if it holds of what each instruction becomes.
all_moved : (P Q : Instr → Type 0) (l : Layout) → ((n : ℕ) (i : Instr) → Q i → P (moved l n i)) → (n : ℕ) (is : List Instr) → All Q is
    → All P (moved_from l n is)
all_moved P Q l f n [] h = All-nil P
all_moved P Q l f n (i ∷ is) h = by_test (gone_at l n) (all_moved P Q l f (n + 1) is (All-tail Q i is h))
  where
    by_test : (t : Bool) → All P (moved_from l (n + 1) is) → All P (if t then moved_from l (n + 1) is else moved l n i ∷ moved_from l (n + 1) is)
    by_test true more = more
    by_test false more = All-cons P (moved l n i) (moved_from l (n + 1) is) (f n i (All-head Q i is h)) more

pub all_folded : (P Q : Instr → Type 0) → ((l : Layout) (n : ℕ) (i : Instr) → Q i → P (moved l n i)) → (p : Plan) (cs : List CodeBlock) → AllInstrs Q cs
    → AllInstrs P (map (folded_block p) cs)
all_folded P Q f p cs h =
    All-map (λ (c : CodeBlock). All P c.instrs) (folded_block p) cs
    (All-weaker (λ (c : CodeBlock). All Q c.instrs) (λ (c : CodeBlock). All P (folded_block p c).instrs)
    (λ c k. all_moved P Q (layout_of p c) (f (layout_of p c)) 0 c.instrs k) cs h)

-- NARROWED. It holds of each, if it does wherever the destinations lead, and of copies.
pub record IsFree (P : Instr → Type 0) : Type 0 where
  pub when_moved : (l : Places.Layout) (n : ℕ) (i : Instr) → P i → P (Trees.moved l n i)
  pub when_parted : (i : Instr) → P i → P (parted i)
  pub when_copied : (l : Places.Layout) (n at j : ℕ) (ds : List Dest) → P (copy_at l n at j ds)

module _ (P : Instr → Type 0) (free : IsFree P) where
  tree_holds : (l : Places.Layout) (n root : ℕ) (ds : List Dest) (k : ℕ) → All P (tree l n root ds k)
  tree_holds l n root ds zero = All-nil P
  tree_holds l n root ds (suc k) =
      All-append P (tree l n root ds k) (copy_at l n (root + k) k ds ∷ []) (tree_holds l n root ds k)
      (All-cons P (copy_at l n (root + k) k ds) [] (free.when_copied l n (root + k) k ds) (All-nil P))

  copies_hold : (l : Places.Layout) (n : ℕ) (i : Instr) → All P (copies_of l n i)
  copies_hold l n i =
      All-append P (tree l n (base_of l n) i.firsts (copies i.firsts)) (tree l n (base_of l n + copies i.firsts) i.seconds (copies i.seconds))
      (tree_holds l n (base_of l n) i.firsts (copies i.firsts)) (tree_holds l n (base_of l n + copies i.firsts) i.seconds (copies i.seconds))

  block_holds : (p : Plan) (c : CodeBlock) → All P c.instrs → All P (narrowed_block p c).instrs
  block_holds p c h =
      let ts = tied_in p c.inputs (parts_of c) in let l = layout_with ts (parts_of c) in
      all_spread ts (Trees.moved l) (copies_of l) (sized l) P P (free.when_moved l) (copies_hold l) (parts_of c)
      (All-map P parted c.instrs (All-weaker P (λ (i : Instr). P (parted i)) free.when_parted c.instrs h))

  pub all_narrowed : (p : Plan) (cs : List CodeBlock) → AllInstrs P cs → AllInstrs P (map (narrowed_block p) cs)
  all_narrowed p cs h =
      All-map (λ (c : CodeBlock). All P c.instrs) (narrowed_block p) cs
      (All-weaker (λ (c : CodeBlock). All P c.instrs) (λ (c : CodeBlock). All P (narrowed_block p c).instrs) (λ c k. block_holds p c k) cs h)

-- THE TWO TOGETHER
pub all_both : (P : Instr → Type 0) → IsFree P → ((l : Layout) (n : ℕ) (i : Instr) → P i → P (moved l n i)) → (p : Plan) → AllInstrs P p.program.blocks
    → AllInstrs P (narrowed (folded p)).program.blocks
all_both P free f p h = all_narrowed P free (folded p) (folded p).program.blocks (all_folded P P f p p.program.blocks h)

-- ORIGINS
abbrev pub IsUntold : Instr → Type 0
IsUntold i = i.origin ≡ Untold

pub all_untold : (p : Plan) → AllInstrs IsUntold p.program.blocks → AllInstrs IsUntold (narrowed (folded p)).program.blocks
all_untold p h = all_both IsUntold (record { when_moved = λ l n i k. k; when_parted = λ i k. k; when_copied = λ l n at j ds. refl }) (λ l n i k. k) p h
