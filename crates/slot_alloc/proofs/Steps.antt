-- Block by block.
use Rattle.std.proofs.Common.{◌≡◌, sym, ap, ◌∙◌, subst, ℕ, ◌+◌, ◌<◌, ◌≤◌, List, [], ◌∷◌, ◌++◌, length, get_or, Some, ⊎_elim, arith}
use Rattle.std.specs.Prelude.{slice_get}
use Rattle.std.proofs.lemmas.Bool.{cases_eq}
use Rattle.std.proofs.lemmas.List.{length_push, get_or_push, get_or_append_left}
use Rattle.std.proofs.lemmas.Option.{slice_get_within, slice_get-get_or, get_or_from_slice_get, same_Some}
use Rattle.semantics.specs.Program.{CodeBlock}
use Rattle.semantics.specs.Plan.{Plan}
use Rattle.semantics.specs.Sharing.{IsGoodBlock, Good}
use Rattle.slot_alloc.specs.declared.faults.AssignFault.{AssignFault}
use Rattle.slot_alloc.specs.declared.faults.AssignFault.TheVariants.{TooManySlots, Memory}
use Rattle.slot_alloc.specs.Tables.{Table, IsClosedAt, IsFilled, IsFull}
use Rattle.slot_alloc.specs.Assigned.{AreLeast, IsBlockAssigned, IsAssigned, IsCrowded, IsRefused, IsBlockRefused, IsFillRefused}
use Rattle.slot_alloc.proofs.Holders.{the_table, crowded_from}

-- CHECKING
abbrev pub GoodBelow : Plan → ℕ → List (List ℕ) → Type 0
GoodBelow p n slots = (b : ℕ) (c : CodeBlock) (ss : List ℕ) → b < n → slice_get p.program.blocks b ≡ Some c → slice_get slots b ≡ Some ss → IsGoodBlock p b c ss

pub good_more : (p : Plan) (n : ℕ) (slots : List (List ℕ)) (c : CodeBlock) (ss : List ℕ) → slice_get p.program.blocks n ≡ Some c → slice_get slots n ≡ Some ss
    → GoodBelow p n slots → IsGoodBlock p n c ss → GoodBelow p (n + 1) slots
good_more p n slots c ss at is old new = λ b d rs below here there. ⊎_elim
    (λ (e : b ≡ n).
    let block : c ≡ d = same_Some c d (sym at ∙ ap (λ k. slice_get p.program.blocks k) (sym e) ∙ here) in
    let list : ss ≡ rs = same_Some ss rs (sym is ∙ ap (λ k. slice_get slots k) (sym e) ∙ there) in
    subst (λ k. IsGoodBlock p k d rs) (sym e) (subst (λ x. IsGoodBlock p n x rs) block (subst (λ x. IsGoodBlock p n c x) list new)))
    (λ (ne : b ≡ n → ⊥). old b d rs (omega (arith, below, ne)) here there)
    (cases_eq b n)

pub good_all : (p : Plan) (n : ℕ) (slots : List (List ℕ)) → GoodBelow p n slots → length slots ≡ length p.program.blocks → length p.program.blocks ≤ n
    → Good p slots
good_all p n slots h all end = record {
  all = all;
  blocks = λ b c ss here there. let lt = slice_get_within p.program.blocks b c here in h b c ss (omega (arith, lt, end)) here there;
}

-- ASSIGNING
abbrev pub AssignedBelow : Plan → ℕ → List (List ℕ) → Type 0
AssignedBelow p n lists = (b : ℕ) (c : CodeBlock) → b < n → slice_get p.program.blocks b ≡ Some c → (ss : List ℕ) × (slice_get lists b ≡ Some ss)
    × IsBlockAssigned p b c ss

get_old : (lists : List (List ℕ)) (new ss : List ℕ) (b : ℕ) → slice_get lists b ≡ Some ss → slice_get (lists ++ new ∷ []) b ≡ Some ss
get_old lists new ss b e =
    let lt = slice_get_within lists b ss e in
    let len = length_push lists new in
    slice_get-get_or (lists ++ new ∷ []) b [] (omega (arith, lt, len)) ∙ ap (λ (x : List ℕ). Some x) (get_or_append_left lists (new ∷ []) [] b lt
    ∙ get_or_from_slice_get lists b ss [] e)

get_new : (lists : List (List ℕ)) (new : List ℕ) (b : ℕ) → length lists ≡ b → slice_get (lists ++ new ∷ []) b ≡ Some new
get_new lists new b e =
    let len = length_push lists new in
    slice_get-get_or (lists ++ new ∷ []) b [] (omega (arith, e, len)) ∙ ap (λ (x : List ℕ). Some x) (get_or_push lists new [] b e)

pub assigned_more : (p : Plan) (n : ℕ) (lists : List (List ℕ)) (c : CodeBlock) (new : List ℕ) → slice_get p.program.blocks n ≡ Some c → length lists ≡ n
    → AssignedBelow p n lists → IsBlockAssigned p n c new → AssignedBelow p (n + 1) (lists ++ new ∷ [])
assigned_more p n lists c new at len old is = λ b d below here. ⊎_elim
    (λ (e : b ≡ n).
    let block : c ≡ d = same_Some c d (sym at ∙ ap (λ k. slice_get p.program.blocks k) (sym e) ∙ here) in (
      new,
      get_new lists new b (len ∙ sym e),
      subst (λ k. IsBlockAssigned p k d new) (sym e) (subst (λ x. IsBlockAssigned p n x new) block is),
    ))
    (λ (ne : b ≡ n → ⊥). let w = old b d (omega (arith, below, ne)) here in (w.0, get_old lists new w.0 b w.1, w.2))
    (cases_eq b n)

pub assigned_all : (p : Plan) (n : ℕ) (lists : List (List ℕ)) → AssignedBelow p n lists → length lists ≡ n → n ≡ length p.program.blocks → IsAssigned p lists
assigned_all p n lists h len end = record {
  good = record {
    all = len ∙ end;
    blocks = λ b c ss here there.
        let lt = slice_get_within p.program.blocks b c here in
        let w = h b c (omega (arith, lt, end)) here in
        subst (λ x. IsGoodBlock p b c x) (same_Some w.0 ss (sym w.1 ∙ there)) w.2.good;
  };
  least = λ b ss there.
      let lt = slice_get_within lists b ss there in
      let d : CodeBlock = record { inputs = 0; outputs = 0; slots = 0; instrs = [] } in
      let w = h b (get_or p.program.blocks b d) (omega (arith, lt, len)) (slice_get-get_or p.program.blocks b d (omega (arith, lt, len, end))) in
      subst (λ x. AreLeast p b x) (same_Some w.0 ss (sym w.1 ∙ there)) w.2.least;
}

pub refused_first : (p : Plan) (n : ℕ) (lists : List (List ℕ)) (c : CodeBlock) (e : AssignFault) → slice_get p.program.blocks n ≡ Some c
    → AssignedBelow p n lists → IsBlockRefused p n c e → IsRefused p e
refused_first p n lists c (TooManySlots b) at old h = record {
  block = c;
  here = ap (λ k. slice_get p.program.blocks k) h.0 ∙ at;
  crowded = subst (λ k. IsCrowded p k c) (sym h.0) h.1;
  before = λ a d below here. let e = h.0 in let w = old a d (omega (arith, below, e)) here in (w.0, w.2);
}
refused_first p n lists c Memory at old h = tt

-- A BLOCK by its table
pub fill_refused : (p : Plan) (n : ℕ) (c : CodeBlock) (at : slice_get p.program.blocks n ≡ Some c) (t : Table) (holders : ℕ) (e : AssignFault)
    → t ≡ the_table p n c at → holders ≡ c.slots → IsFillRefused t n holders e → IsBlockRefused p n c e
fill_refused p n c at t holders (TooManySlots b) same all h =
    (h.0, crowded_from p n c at h.1.0 (subst (λ k. IsFull (the_table p n c at) k h.1.0) all (subst (λ x. IsFull x holders h.1.0) same h.1.1)))
fill_refused p n c at t holders Memory same all h = tt

pub full_by : (t : Table) (holders n : ℕ) (ss seen : List ℕ) → seen ≡ ss → IsFilled t ss → length ss ≡ n → n < holders
    → ((s : ℕ) → s < 512 → IsClosedAt t seen (length seen) s) → IsFull t holders ss
full_by t holders n ss seen same filled len left closed = record {
  left = omega (arith, len, left);
  filled = filled;
  closed = subst (λ (zs : List ℕ). (s : ℕ) → s < 512 → IsClosedAt t zs (length zs) s) same closed;
}
