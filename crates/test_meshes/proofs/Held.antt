-- What a seat holds when it passes tokens on.
use Rattle.std.proofs.Common.{◌≡◌, ℕ, ◌+◌, List, [], ◌∷◌, ◌++◌, ap, sym, subst, append_assoc, arith}
use Rattle.std.proofs.lemmas.List.{append-nil}
use Rattle.std.specs.List.Sorted.{IsPermutation}
use Rattle.std.proofs.lemmas.List.Sorted.{IsPermutation-refl, IsPermutation-sym, IsPermutation-trans, IsPermutation-append_comm}
use Rattle.std.proofs.lemmas.List.Sorted.{IsPermutation-append_left, IsPermutation-append_right}
use Rattle.lemmas.proofs.Permutations.{permutation_cancel}
use Rattle.std.proofs.lemmas.List.Elements.{All-cons, All-nil}
use Rattle.tags.specs.Addresses.{element_of}
use Rattle.tags.specs.declared.token.Token.{Token}
use Rattle.mesh.specs.declared.view.Deed.{Deed}
use Rattle.mesh.specs.Deeds.{created, made_in}
use Rattle.mesh.specs.Seats.{Has, AllTo}
use Rattle.mesh.proofs.Deeds.{created_more}

abbrev Ts : Type 0
Ts = List Token

pub more_created : (ds ds' : List Deed) (d : Deed) (n : ℕ) → ds' ≡ ds ++ d ∷ [] → created ds ≡ n → created ds' ≡ n + made_in d
more_created ds ds' d n is was = let more = created_more ds d in let same : created ds' ≡ created (ds ++ d ∷ []) = ap created is in omega arith

pub has_nothing : (held : Ts) → Has held []
has_nothing held = (held, IsPermutation-refl held)

pub has_first : (held b kept : Ts) → Has held (b ++ kept) → Has held b
has_first held b kept h = (kept ++ h.0, subst (λ (z : Ts). IsPermutation held z) (append_assoc b kept h.0) h.1)

pub has_last : (held b kept : Ts) → Has held (b ++ kept) → Has held kept
has_last held b kept h = (
  b ++ h.0,
  IsPermutation-trans _ _ _ h.1 (subst (λ (z : Ts). IsPermutation ((b ++ kept) ++ h.0) z) (append_assoc kept b h.0)
      (IsPermutation-append_left h.0 (b ++ kept) (kept ++ b) (IsPermutation-append_comm b kept))),
)

-- the tokens that were taken are first
pub has_more : (held b kept : Ts) → Has held kept → Has (b ++ held) (b ++ kept)
has_more held b kept h = (
  h.0,
  subst (λ (z : Ts). IsPermutation (b ++ held) z) (sym (append_assoc b kept h.0))
      (IsPermutation-append_right b held (kept ++ h.0) h.1),
)

-- after a commit of b, with what was made of it
pub has_made : (held b kept made rest : Ts) → Has held (b ++ kept) → IsPermutation held (b ++ rest) → Has (made ++ rest) (kept ++ made)
has_made held b kept made rest h p =
    let two : IsPermutation (b ++ rest) (b ++ (kept ++ h.0)) = IsPermutation-trans _ _ _ (IsPermutation-sym _ _ p)
    (subst (λ (z : Ts). IsPermutation held z) (append_assoc b kept h.0) h.1) in
    let one : IsPermutation rest (kept ++ h.0) = permutation_cancel b rest (kept ++ h.0) two in
    let a : IsPermutation (made ++ rest) (made ++ (kept ++ h.0)) = IsPermutation-append_right made rest (kept ++ h.0) one in
    let c : IsPermutation ((made ++ kept) ++ h.0) ((kept ++ made) ++ h.0) = IsPermutation-append_left h.0 (made ++ kept) (kept ++ made)
    (IsPermutation-append_comm made kept) in
    (h.0, IsPermutation-trans _ _ _ a (subst (λ (z : Ts). IsPermutation z ((kept ++ made) ++ h.0)) (append_assoc made kept h.0) c))

-- after a post of b
pub has_rest : (held b kept rest : Ts) → Has held (b ++ kept) → IsPermutation held (b ++ rest) → Has rest kept
has_rest held b kept rest h p = (
  h.0,
  permutation_cancel b rest (kept ++ h.0) (IsPermutation-trans _ _ _ (IsPermutation-sym _ _ p)
      (subst (λ (z : Ts). IsPermutation held z) (append_assoc b kept h.0) h.1)),
)

pub has_made_first : (held b kept made rest : Ts) → Has held (b ++ kept) → IsPermutation held (b ++ rest) → Has (made ++ rest) (made ++ kept)
has_made_first held b kept made rest h p = has_more rest made kept (has_rest held b kept rest h p)

pub has_more_last : (held b kept : Ts) → Has held kept → Has (b ++ held) (kept ++ b)
has_more_last held b kept h = let more = has_more held b kept h in
    (more.0, IsPermutation-trans _ _ _ more.1 (IsPermutation-append_left more.0 (b ++ kept) (kept ++ b) (IsPermutation-append_comm b kept)))

-- a list of one token
pub all_one : (n e : ℕ) (t : Token) → element_of n t.to ≡ e → AllTo n e (t ∷ [])
all_one n e t to = All-cons (λ (u : Token). element_of n u.to ≡ e) t [] to (All-nil (λ (u : Token). element_of n u.to ≡ e))

pub has_whole : (held b : Ts) → Has held b → Has held (b ++ [])
has_whole held b h = subst (Has held) (sym (append-nil b)) h
