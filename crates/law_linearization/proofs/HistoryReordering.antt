-- Tokens are addressed, so only an element's own blocks spend them: a block whose tokens are in the pool may be taken first.
use Rattle.std.proofs.Common.{◌≡◌, ◌≢◌, refl, sym, ◌∙◌, ap, subst, ℕ, suc, Bool, true, false, List, [], ◌∷◌, ◌++◌, length, ⊎_elim}
use Rattle.std.specs.Prelude.{All, IsPermutation, ◌==◌, map}
use Rattle.std.proofs.lemmas.Bool.{eqb-true, eqb-false}
use Rattle.std.proofs.lemmas.List.Elements.{All-contains}
use Rattle.std.proofs.lemmas.List.Sorted.{IsPermutation-refl, IsPermutation-sym, IsPermutation-trans, IsPermutation-append}
use Rattle.lemmas.proofs.Permutations.{within_to, Meet, permutation_cancel, permutation_meet, permutation_exchange}
use Rattle.lemmas.proofs.Lists.{same_head, same_tail}
use Rattle.tags.specs.declared.token.Token.{Token}
use Rattle.tags.specs.Addresses.{element_of}
use Rattle.law_linearization.specs.History.{Block, blocks_by, if_by, entry_of, LeavesTokens}
use Rattle.law_linearization.specs.HistoryLaws.{TakesFirst}
use Rattle.law_linearization.proofs.HistoryRunning.{leaves_same, by_same, by_other}

-- a list after another one may be in another order
pub behind : (as' bs cs : List Token) → IsPermutation bs cs → IsPermutation (as' ++ bs) (as' ++ cs)
behind as' bs cs p = IsPermutation-append as' as' bs cs (IsPermutation-refl as') p

abbrev Taken : ℕ → ℕ → Block → List Block → List Block → List Token → List Token → Type 0
Taken n e b later log rest last =
    (left : List Block) × LeavesTokens n (b.made ++ rest) left last × (blocks_by e left ≡ later) × ((i : ℕ) → i ≢ e → blocks_by i left ≡ blocks_by i log)
    × (length log ≡ suc (length left))

abbrev Mine : ℕ → ℕ → List Token → Type 0
Mine n e ts = All (λ (t : Token). element_of n t.to ≡ e) ts

-- the history's first block is of that element, or not
pub first_own : (x : Block) (log : List Block) (e : ℕ) → x.element ≡ e → blocks_by e (x ∷ log) ≡ x ∷ blocks_by e log
first_own x log e same = subst (λ (k : ℕ). blocks_by k (x ∷ log) ≡ x ∷ blocks_by k log) same (by_same x log)

pub first_other : (x : Block) (log : List Block) (e : ℕ) → (x.element ≡ e → ⊥) → blocks_by e (x ∷ log) ≡ blocks_by e log
first_other x log e other = by_other x log e (λ (s : e ≡ x.element). other (sym s))

-- what a block of the element spends is addressed to it
mine_spent : (n e : ℕ) (b : Block) (later log : List Block) (tokens last : List Token) → LeavesTokens n tokens log last → blocks_by e log ≡ b ∷ later
    → Mine n e b.spent
mine_spent n e b later [] tokens last leaves is = absurd cc
mine_spent n e b later (x ∷ log) tokens last leaves is =
    by_case (x.element == e) refl (λ h. mine_spent n e b later log (x.made ++ leaves.0) last leaves.3 h) where
      by_case : (t : Bool) → (x.element == e) ≡ t → (blocks_by e log ≡ b ∷ later → Mine n e b.spent) → Mine n e b.spent
      by_case true t again =
          let same = eqb-true x.element e t in
          let one = same_head x b (blocks_by e log) later (sym (first_own x log e same) ∙ is) in
          subst (λ (y : Block). Mine n e y.spent) one (subst (λ (k : ℕ). Mine n k x.spent) same leaves.2)
      by_case false t again = again (sym (first_other x log e (eqb-false x.element e t)) ∙ is)

taken_own : (n e : ℕ) (x : Block) (log : List Block) (tokens rest last : List Token) → x.element ≡ e → LeavesTokens n tokens (x ∷ log) last
    → IsPermutation tokens (x.spent ++ rest)
    → Taken n e x (blocks_by e log) (x ∷ log) rest last
taken_own n e x log tokens rest last same leaves perm =
    let left = permutation_cancel x.spent rest leaves.0
    (IsPermutation-trans (x.spent ++ rest) tokens (x.spent ++ leaves.0) (IsPermutation-sym tokens (x.spent ++ rest) perm) leaves.1) in (
      log,
      leaves_same n (x.made ++ rest) (x.made ++ leaves.0) (map entry_of log) last (behind x.made rest leaves.0 left) leaves.3,
      refl,
      (λ i ne. sym (first_other x log i (λ s. ne (sym s ∙ same)))),
      refl,
    )

taken_other : (n e : ℕ) (x b : Block) (later log : List Block) (tokens rest last : List Token) → (x.element ≡ e → ⊥)
    → (leaves : LeavesTokens n tokens (x ∷ log) last) → blocks_by e log ≡ b ∷ later
    → (ws : List Token) → IsPermutation rest (x.spent ++ ws)
    → Taken n e b later log (x.made ++ ws) last → Taken n e b later (x ∷ log) rest last
taken_other n e x b later log tokens rest last other leaves is ws meets ih =
    let before = IsPermutation-trans (b.made ++ rest) (b.made ++ (x.spent ++ ws)) (x.spent ++ (b.made ++ ws)) (behind b.made rest (x.spent ++ ws) meets)
    (permutation_exchange b.made x.spent ws) in (
      x ∷ ih.0,
      (
        b.made ++ ws,
        before,
        leaves.2,
        leaves_same n (x.made ++ (b.made ++ ws)) (b.made ++ (x.made ++ ws)) (map entry_of ih.0) last (permutation_exchange x.made b.made ws) ih.1,
      ),
      first_other x ih.0 e other ∙ ih.2,
      (λ i ne. ap (λ (l : List Block). if_by i x ++ l) (ih.3 i ne)),
      ap suc ih.4,
    )

no_meet : (n e : ℕ) (x b : Block) → (x.element ≡ e → ⊥) → Mine n e b.spent → Mine n x.element x.spent → Meet b.spent x.spent → ⊥
no_meet n e x b other mine theirs m =
    let here = All-contains (λ (t : Token). element_of n t.to ≡ e) b.spent m.0 mine (within_to m.0 b.spent m.1) in
    let there = All-contains (λ (t : Token). element_of n t.to ≡ x.element) x.spent m.0 theirs (within_to m.0 x.spent m.2) in
    other (sym there ∙ here)

pub takes_first : TakesFirst
takes_first n e b later [] tokens rest last leaves is perm = absurd cc
takes_first n e b later (x ∷ log) tokens rest last leaves is perm =
    by_case (x.element == e) refl (λ ts rs l h p. takes_first n e b later log ts rs last l h p) where
      by_case : (t : Bool) → (x.element == e) ≡ t
          → ((ts rs : List Token) → LeavesTokens n ts log last → blocks_by e log ≡ b ∷ later → IsPermutation ts (b.spent ++ rs) → Taken n e b later log rs last)
          → Taken n e b later (x ∷ log) rest last
      by_case true t again =
          let same = eqb-true x.element e t in
          let cons = sym (first_own x log e same) ∙ is in
          let one = same_head x b (blocks_by e log) later cons in
          let all = same_tail x b (blocks_by e log) later cons in
          let perm_x = subst (λ (y : Block). IsPermutation tokens (y.spent ++ rest)) (sym one) perm in
          let taken = taken_own n e x log tokens rest last same leaves perm_x in
          subst (λ (ls : List Block). Taken n e b ls (x ∷ log) rest last) all
          (subst (λ (y : Block). Taken n e y (blocks_by e log) (x ∷ log) rest last) one taken)
      by_case false t again =
          let other = eqb-false x.element e t in
          let here = sym (first_other x log e other) ∙ is in
          let mine = mine_spent n e b later log (x.made ++ leaves.0) last leaves.3 here in
          let both = IsPermutation-trans (b.spent ++ rest) tokens (x.spent ++ leaves.0) (IsPermutation-sym tokens (b.spent ++ rest) perm) leaves.1 in
          ⊎_elim (λ (m : Meet b.spent x.spent). absurd (no_meet n e x b other mine leaves.2 m))
          (λ h.
          let next = IsPermutation-trans (x.made ++ leaves.0) (x.made ++ (b.spent ++ h.0)) (b.spent ++ (x.made ++ h.0))
          (behind x.made leaves.0 (b.spent ++ h.0) h.2) (permutation_exchange x.made b.spent h.0) in
          taken_other n e x b later log tokens rest last other leaves here h.0 h.1 (again (x.made ++ leaves.0) (x.made ++ h.0) leaves.3 here next))
          (permutation_meet b.spent x.spent rest leaves.0 both)
