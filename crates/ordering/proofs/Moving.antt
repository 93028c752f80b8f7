-- Tokens that the next block of an element spends are taken out of the pool before the block has its place, and may be put back.
use Rattle.std.proofs.Common.{◌≡◌, refl, sym, ◌∙◌, ap, subst, ℕ, Bool, true, false, List, [], ◌∷◌, ◌++◌, append_assoc, ⊎_elim}
use Rattle.std.specs.Prelude.{All, IsPermutation, ◌==◌}
use Rattle.std.proofs.lemmas.Bool.{eqb-true, eqb-false}
use Rattle.std.proofs.lemmas.List.Elements.{All-contains, All-append, All-nil, All-cons, All-head, All-tail}
use Rattle.std.proofs.lemmas.List.Sorted.{IsPermutation-refl, IsPermutation-sym, IsPermutation-trans}
use Rattle.lemmas.proofs.Permutations.{within_to, Meet, permutation_cancel, permutation_meet, permutation_exchange}
use Rattle.lemmas.proofs.Lists.{same_head, same_tail}
use Rattle.tags.specs.declared.token.Token.{Token}
use Rattle.tags.specs.Addresses.{element_of}
use Rattle.semantics.specs.Machine.{Events}
use Rattle.law_linearization.specs.History.{Block, by_element, events_in, blocks_by, if_by, LeavesTokens}
use Rattle.law_linearization.proofs.HistoryReordering.{behind, takes_first, first_other, first_own}
use Rattle.ordering.specs.Rests.{with_spent, AreOwn, SameOthers, Leads}

abbrev Tokens : Type 0
Tokens = List Token

abbrev Mine : ℕ → ℕ → Tokens → Type 0
Mine n e ts = All (λ (t : Token). element_of n t.to ≡ e) ts

front_mine : (n e : ℕ) (ts us : Tokens) → Mine n e (ts ++ us) → Mine n e ts
front_mine n e [] us all = All-nil (λ (t : Token). element_of n t.to ≡ e)
front_mine n e (t ∷ ts) us all = All-cons (λ (t : Token). element_of n t.to ≡ e) t ts (All-head (λ (t : Token). element_of n t.to ≡ e) t (ts ++ us)
    all) (front_mine n e ts us (All-tail (λ (t : Token). element_of n t.to ≡ e) t (ts ++ us) all))

behind_mine : (n e : ℕ) (ts us : Tokens) → Mine n e (ts ++ us) → Mine n e us
behind_mine n e [] us all = all
behind_mine n e (t ∷ ts) us all = behind_mine n e ts us (All-tail (λ (t : Token). element_of n t.to ≡ e) t (ts ++ us) all)

-- LISTS OF BLOCKS
-- the blocks of an element in a legal history are its own
pub all_own : (n e : ℕ) (log : List Block) (tokens last : Tokens) → LeavesTokens n tokens log last → AreOwn n e (blocks_by e log)
all_own n e [] tokens last leaves = tt
all_own n e (x ∷ log) tokens last leaves = by_case (x.element == e) refl (all_own n e log (x.made ++ leaves.0) last leaves.3) where
  by_case : (t : Bool) → (x.element == e) ≡ t → AreOwn n e (blocks_by e log) → AreOwn n e (blocks_by e (x ∷ log))
  by_case true t later =
      let same = eqb-true x.element e t in
      subst (AreOwn n e) (sym (first_own x log e same)) (same, subst (λ (k : ℕ). Mine n k x.spent) same leaves.2, later)
  by_case false t later = subst (AreOwn n e) (sym (first_other x log e (eqb-false x.element e t))) later

-- OUT OF THE POOL
abbrev Aside : ℕ → ℕ → Block → List Block → Tokens → List Block → Tokens → Tokens → Type 0
Aside n e b later need log rest last = (next : List Block) × LeavesTokens n rest next last × (blocks_by e next ≡ with_spent need b ∷ later)
    × SameOthers e next log

aside_own : (n e : ℕ) (x : Block) (log : List Block) (tokens rest last ts need : Tokens) → x.element ≡ e → LeavesTokens n tokens (x ∷ log) last
    → x.spent ≡ ts ++ need → IsPermutation tokens (ts ++ rest)
    → Aside n e x (blocks_by e log) need (x ∷ log) rest last
aside_own n e x log tokens rest last ts need same leaves spent perm =
    let y : Block = with_spent need x in
    let both : IsPermutation (ts ++ rest) (ts ++ (need ++ leaves.0))
    = IsPermutation-trans (ts ++ rest) tokens (ts ++ (need ++ leaves.0)) (IsPermutation-sym tokens (ts ++ rest) perm)
    (subst (IsPermutation tokens) (ap (λ (l : Tokens). l ++ leaves.0) spent ∙ append_assoc ts need leaves.0) leaves.1) in
    let mine : Mine n x.element (ts ++ need) = subst (Mine n x.element) spent leaves.2 in (
      y ∷ log,
      (leaves.0, permutation_cancel ts rest (need ++ leaves.0) both, behind_mine n x.element ts need mine, leaves.3),
      first_own y log e same,
      λ i ne. first_other y log i (λ s. ne (sym s ∙ same)) ∙ sym (first_other x log i (λ s. ne (sym s ∙ same))),
    )

aside_other : (n e : ℕ) (x b : Block) (later log : List Block) (tokens rest last need : Tokens) → (x.element ≡ e → ⊥)
    → (leaves : LeavesTokens n tokens (x ∷ log) last)
    → (ws : Tokens) → IsPermutation rest (x.spent ++ ws) → Aside n e b later need log (x.made ++ ws) last → Aside n e b later need (x ∷ log) rest last
aside_other n e x b later log tokens rest last need other leaves ws meets ih = (
  x ∷ ih.0,
  (ws, meets, leaves.2, ih.1),
  first_other x ih.0 e other ∙ ih.2,
  λ i ne. ap (λ (l : List Block). if_by i x ++ l) (ih.3 i ne),
)

no_meet : (n e : ℕ) (x : Block) (ts : Tokens) → (x.element ≡ e → ⊥) → Mine n e ts → Mine n x.element x.spent → Meet ts x.spent → ⊥
no_meet n e x ts other mine theirs m =
    let here = All-contains (λ (t : Token). element_of n t.to ≡ e) ts m.0 mine (within_to m.0 ts m.1) in
    let there = All-contains (λ (t : Token). element_of n t.to ≡ x.element) x.spent m.0 theirs (within_to m.0 x.spent m.2) in
    other (sym there ∙ here)

-- Tokens that the next block of an element spends first are taken out of the pool: what is left is legal if the block spends the others.
pub sets_aside : (n e : ℕ) (b : Block) (later log : List Block) (tokens rest last ts need : Tokens) → LeavesTokens n tokens log last → blocks_by e log
    ≡ b ∷ later → b.spent ≡ ts ++ need → Mine n e ts → IsPermutation tokens (ts ++ rest)
    → Aside n e b later need log rest last
sets_aside n e b later [] tokens rest last ts need leaves is spent mine perm = absurd cc
sets_aside n e b later (x ∷ log) tokens rest last ts need leaves is spent mine perm =
    by_case (x.element == e) refl (λ us rs l h p. sets_aside n e b later log us rs last ts need l h spent mine p) where
      by_case : (t : Bool) → (x.element == e) ≡ t
          → ((us rs : Tokens) → LeavesTokens n us log last → blocks_by e log ≡ b ∷ later → IsPermutation us (ts ++ rs) → Aside n e b later need log rs last)
          → Aside n e b later need (x ∷ log) rest last
      by_case true t again =
          let same = eqb-true x.element e t in
          let cons = sym (first_own x log e same) ∙ is in
          let one = same_head x b (blocks_by e log) later cons in
          let all = same_tail x b (blocks_by e log) later cons in
          let here = aside_own n e x log tokens rest last ts need same leaves (ap (λ (y : Block). y.spent) one ∙ spent) perm in
          subst (λ (ls : List Block). Aside n e b ls need (x ∷ log) rest last) all
          (subst (λ (y : Block). Aside n e y (blocks_by e log) need (x ∷ log) rest last) one here)
      by_case false t again =
          let other = eqb-false x.element e t in
          let here = sym (first_other x log e other) ∙ is in
          let both = IsPermutation-trans (ts ++ rest) tokens (x.spent ++ leaves.0) (IsPermutation-sym tokens (ts ++ rest) perm) leaves.1 in
          ⊎_elim (λ (m : Meet ts x.spent). absurd (no_meet n e x ts other mine leaves.2 m))
          (λ h.
          let next = IsPermutation-trans (x.made ++ leaves.0) (x.made ++ (ts ++ h.0)) (ts ++ (x.made ++ h.0)) (behind x.made leaves.0 (ts ++ h.0) h.2)
          (permutation_exchange x.made ts h.0) in
          aside_other n e x b later log tokens rest last need other leaves h.0 h.1 (again (x.made ++ leaves.0) (x.made ++ h.0) leaves.3 here next))
          (permutation_meet ts x.spent rest leaves.0 both)

-- BACK INTO THE POOL
abbrev PutBack : ℕ → ℕ → Block → List Block → List Block → Tokens → Tokens → Type 0
PutBack n e b later next tokens last = (log : List Block) × LeavesTokens n tokens log last × (blocks_by e log ≡ b ∷ later) × SameOthers e log next
    × (events_in log ≡ events_in next)

back_own : (n e : ℕ) (x b : Block) (next : List Block) (tokens rest last ts need : Tokens) → x ≡ with_spent need b → b.element ≡ e
    → LeavesTokens n rest (x ∷ next) last → b.spent ≡ ts ++ need → Mine n e ts → IsPermutation tokens (ts ++ rest)
    → PutBack n e b (blocks_by e next) (x ∷ next) tokens last
back_own n e x b next tokens rest last ts need one same leaves spent mine perm =
    let need_is : x.spent ≡ need = ap (λ (y : Block). y.spent) one in
    let element_is : x.element ≡ e = ap (λ (y : Block). y.element) one ∙ same in
    let made_is : x.made ≡ b.made = ap (λ (y : Block). y.made) one in
    let first : IsPermutation tokens (ts ++ (need ++ leaves.0)) = IsPermutation-trans tokens (ts ++ rest) (ts ++ (need ++ leaves.0)) perm
    (behind ts rest (need ++ leaves.0) (subst (λ (l : Tokens). IsPermutation rest (l ++ leaves.0)) need_is leaves.1)) in
    let takes : IsPermutation tokens (b.spent ++ leaves.0) = subst (IsPermutation tokens)
    (sym (ap (λ (l : Tokens). l ++ leaves.0) spent ∙ append_assoc ts need leaves.0)) first in
    let theirs : Mine n e need = subst (λ (k : ℕ). Mine n k need) element_is (subst (Mine n x.element) need_is leaves.2) in
    let all : Mine n b.element b.spent = subst (λ (k : ℕ). Mine n k b.spent) (sym same)
    (subst (Mine n e) (sym spent) (All-append (λ (t : Token). element_of n t.to ≡ e) ts need mine theirs)) in (
      b ∷ next,
      (leaves.0, takes, all, subst (λ (l : Tokens). LeavesTokens n (l ++ leaves.0) next last) made_is leaves.3),
      first_own b next e same,
      λ i ne. first_other b next i (λ s. ne (sym s ∙ same)) ∙ sym (first_other x next i (λ s. ne (sym s ∙ element_is))),
      ap (λ (y : Block). by_element y.element y.acts ++ events_in next) (sym one),
    )

-- Tokens of an element are put into the pool: the history is legal there if the next block of the element spends them, too.
pub puts_back : (n e : ℕ) (b : Block) (later next : List Block) (tokens rest last ts need : Tokens) → LeavesTokens n rest next last → blocks_by e next
    ≡ with_spent need b ∷ later → b.element ≡ e → b.spent ≡ ts ++ need → Mine n e ts → IsPermutation tokens (ts ++ rest)
    → PutBack n e b later next tokens last
puts_back n e b later [] tokens rest last ts need leaves is same spent mine perm = absurd cc
puts_back n e b later (x ∷ next) tokens rest last ts need leaves is same spent mine perm =
    by_case (x.element == e) refl (λ us rs l h p. puts_back n e b later next us rs last ts need l h same spent mine p) where
      by_case : (t : Bool) → (x.element == e) ≡ t
          → ((us rs : Tokens) → LeavesTokens n rs next last → blocks_by e next ≡ with_spent need b ∷ later → IsPermutation us (ts ++ rs)
          → PutBack n e b later next us last)
          → PutBack n e b later (x ∷ next) tokens last
      by_case true t again =
          let cons = sym (first_own x next e (eqb-true x.element e t)) ∙ is in
          let one = same_head x (with_spent need b) (blocks_by e next) later cons in
          let all = same_tail x (with_spent need b) (blocks_by e next) later cons in
          subst (λ (ls : List Block). PutBack n e b ls (x ∷ next) tokens last) all (back_own n e x b next tokens rest last ts need one same leaves
          spent mine perm)
      by_case false t again =
          let other = eqb-false x.element e t in
          let here = sym (first_other x next e other) ∙ is in
          let ws : Tokens = ts ++ leaves.0 in
          let takes : IsPermutation tokens (x.spent ++ ws) = IsPermutation-trans tokens (ts ++ (x.spent ++ leaves.0)) (x.spent ++ (ts ++ leaves.0))
          (IsPermutation-trans tokens (ts ++ rest) (ts ++ (x.spent ++ leaves.0)) perm (behind ts rest (x.spent ++ leaves.0) leaves.1))
          (permutation_exchange ts x.spent leaves.0) in
          let ih = again (x.made ++ ws) (x.made ++ leaves.0) leaves.3 here (permutation_exchange x.made ts leaves.0) in (
            x ∷ ih.0,
            (ws, takes, leaves.2, ih.1),
            first_other x ih.0 e other ∙ ih.2,
            (λ i ne. ap (λ (l : List Block). if_by i x ++ l) (ih.3 i ne)),
            ap (λ (l : Events). by_element x.element x.acts ++ l) ih.4,
          )

-- STEPS
-- nothing is done
pub leads_nowhere : (n e : ℕ) (tokens : Tokens) (blocks : List Block) → Leads n e tokens blocks [] tokens blocks
leads_nowhere n e tokens blocks = record {
  own = λ o. o;
  forth = λ log last leaves is. (log, leaves, is, λ i ne. refl);
  back = λ o next last leaves is. (next, leaves, is, (λ i ne. refl), refl);
}

-- tokens of the next block are taken out
pub leads_aside : (n e : ℕ) (b : Block) (later : List Block) (tokens rest ts need : Tokens) → b.spent ≡ ts ++ need → IsPermutation tokens (ts ++ rest)
    → Leads n e tokens (b ∷ later) [] rest (with_spent need b ∷ later)
leads_aside n e b later tokens rest ts need spent perm = record {
  own = λ o. (o.0, behind_mine n e ts need (subst (Mine n e) spent o.1), o.2);
  forth = λ log last leaves is.
      let own = subst (AreOwn n e) is (all_own n e log tokens last leaves) in
      sets_aside n e b later log tokens rest last ts need leaves is spent (front_mine n e ts need (subst (Mine n e) spent own.1)) perm;
  back = λ o next last leaves is. puts_back n e b later next tokens rest last ts need leaves is o.0 spent
      (front_mine n e ts need (subst (Mine n e) spent o.1)) perm;
}

-- a block of which all spent tokens were taken out has its place
pub leads_block : (n e : ℕ) (b : Block) (later : List Block) (tokens : Tokens) → b.spent ≡ [] → Leads n e tokens (b ∷ later) (by_element e b.acts)
    (b.made ++ tokens) later
leads_block n e b later tokens none = record {
  own = λ o. o.2;
  forth = λ log last leaves is.
      let taken = takes_first n e b later log tokens tokens last leaves is (subst (λ (l : Tokens). IsPermutation tokens (l ++ tokens)) (sym none)
      (IsPermutation-refl tokens)) in
      (taken.0, taken.1, taken.2, taken.3);
  back = λ o next last leaves is. (
    b ∷ next,
    (
      tokens,
      subst (λ (l : Tokens). IsPermutation tokens (l ++ tokens)) (sym none) (IsPermutation-refl tokens),
      subst (λ (k : ℕ). Mine n k b.spent)
          (sym o.0) o.1,
      leaves,
    ),
    first_own b next e o.0 ∙ ap (λ (l : List Block). b ∷ l) is,
    (λ i ne. first_other b next i (λ s. ne (sym s ∙ o.0))),
    ap (λ (k : ℕ). by_element k b.acts ++ events_in next) o.0,
  );
}

-- one after another
pub leads_then : (n e : ℕ) (one two three : Tokens) (first second third : List Block) (made more : Events) → Leads n e one first made two second
    → Leads n e two second more three third → Leads n e one first (made ++ more) three third
leads_then n e one two three first second third made more f g = record {
  own = λ o. g.own (f.own o);
  forth = λ log last leaves is.
      let a = f.forth log last leaves is in
      let b = g.forth a.0 last a.1 a.2 in
      (b.0, b.1, b.2, λ i ne. b.3 i ne ∙ a.3 i ne);
  back = λ o next last leaves is.
      let b = g.back (f.own o) next last leaves is in
      let a = f.back o b.0 last b.1 b.2 in
      (a.0, a.1, a.2, (λ i ne. a.3 i ne ∙ b.3 i ne), a.4 ∙ ap (λ (l : Events). made ++ l) b.4 ∙ sym (append_assoc made more (events_in next)));
}
