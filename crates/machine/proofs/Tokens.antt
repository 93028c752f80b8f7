-- Some tokens taken out of others. Which tokens a block spent is what the element held and holds no more.
use Rattle.std.proofs.Common.{◌≡◌, refl, sym, ◌∙◌, ap, subst, ℕ, zero, suc, ℤ, Bool, true, false, List, [], ◌∷◌, ◌++◌, inl, inr, pos, negsuc}
use Rattle.std.specs.Prelude.{IsPermutation, if◌then◌else◌, ◌&&◌}
use Rattle.std.specs.Cmp.Rules.{signed_items}
use lib.Pointwise.{pointwise}
use Rattle.std.specs.Ordering.{int_eq}
use Rattle.std.proofs.lemmas.List.Sorted.{IsPermutation-refl, IsPermutation-sym, IsPermutation-trans, IsPermutation-cons}
use Rattle.lemmas.proofs.Permutations.{Put, Within, put_first, within_permutation, permutation_cancel}
use Rattle.law_confluence.proofs.Orders.{shuffled, Part as Piece, ◌⊕◌}
use Rattle.tags.specs.declared.value.FaultKind.{FaultKind}
use Rattle.tags.specs.declared.value.Origin.{Origin}
use Rattle.tags.specs.declared.value.Value.{Value}
use Rattle.tags.specs.declared.token.Port.{Port}
use Rattle.tags.specs.declared.token.Cont.{Cont}
use Rattle.tags.specs.declared.token.Word.{Word}
use Rattle.tags.specs.declared.token.To.{To}
use Rattle.tags.specs.declared.token.Token.{Token}

-- TOKENS AS NUMBERS
abbrev nat_of : ℤ → ℕ
nat_of (pos n) = n
nat_of (negsuc n) = 0

abbrev code_port : Port → ℤ
code_port Port.Left = pos 0
code_port Port.Right = pos 1

abbrev port_of : ℤ → Port
port_of (pos zero) = Port.Left
port_of n = Port.Right

abbrev code_cont : Cont → List ℤ
code_cont (Cont.Frame f ip p) = pos 0 ∷ pos f ∷ pos ip ∷ code_port p ∷ []
code_cont (Cont.Host j) = pos 1 ∷ pos j ∷ []

abbrev cont_of : List ℤ → Cont
cont_of (pos zero ∷ f ∷ ip ∷ p ∷ []) = Cont.Frame (nat_of f) (nat_of ip) (port_of p)
cont_of (k ∷ j ∷ []) = Cont.Host (nat_of j)
cont_of n = Cont.Host 0

abbrev code_kind : FaultKind → ℤ
code_kind FaultKind.Zero = pos 0
code_kind FaultKind.Range = pos 1

abbrev kind_of : ℤ → FaultKind
kind_of (pos zero) = FaultKind.Zero
kind_of n = FaultKind.Range

abbrev code_value : Value → List ℤ
code_value (Value.Int x) = x ∷ []
code_value (Value.Fault k Origin.Untold) = code_kind k ∷ pos 0 ∷ []
code_value (Value.Fault k (Origin.At b n)) = code_kind k ∷ pos b ∷ pos n ∷ []

abbrev value_of : List ℤ → Value
value_of (x ∷ []) = Value.Int x
value_of (k ∷ z ∷ []) = Value.Fault (kind_of k) Origin.Untold
value_of (k ∷ b ∷ n ∷ []) = Value.Fault (kind_of k) (Origin.At (nat_of b) (nat_of n))
value_of n = Value.Int (pos 0)

abbrev code_word : Word → List ℤ
code_word (Word.Val v) = pos 0 ∷ code_value v
code_word (Word.Frame f) = pos 1 ∷ pos f ∷ []
code_word (Word.Back c) = pos 2 ∷ code_cont c

abbrev word_of : List ℤ → Word
word_of (pos zero ∷ v) = Word.Val (value_of v)
word_of (pos (suc zero) ∷ f ∷ []) = Word.Frame (nat_of f)
word_of (k ∷ c) = Word.Back (cont_of c)
word_of [] = Word.Frame 0

abbrev code_to : To → List ℤ
code_to (To.Instr f ip p) = pos 0 ∷ pos f ∷ pos ip ∷ code_port p ∷ []
code_to (To.Fetch x) = pos 1 ∷ pos x ∷ []
code_to (To.Store x v) = pos 2 ∷ pos x ∷ code_value v
code_to To.Manager = pos 3 ∷ []
code_to (To.Release f) = pos 4 ∷ pos f ∷ []
code_to (To.Host j) = pos 5 ∷ pos j ∷ []

abbrev to_of : List ℤ → To
to_of (pos zero ∷ f ∷ ip ∷ p ∷ []) = To.Instr (nat_of f) (nat_of ip) (port_of p)
to_of (pos (suc zero) ∷ x ∷ []) = To.Fetch (nat_of x)
to_of (pos (suc (suc zero)) ∷ x ∷ v) = To.Store (nat_of x) (value_of v)
to_of (pos (suc (suc (suc (suc zero)))) ∷ f ∷ []) = To.Release (nat_of f)
to_of (pos (suc (suc (suc (suc (suc zero))))) ∷ j ∷ []) = To.Host (nat_of j)
to_of n = To.Manager

same_port : (p : Port) → port_of (code_port p) ≡ p
same_port Port.Left = refl
same_port Port.Right = refl

same_kind : (k : FaultKind) → kind_of (code_kind k) ≡ k
same_kind FaultKind.Zero = refl
same_kind FaultKind.Range = refl

same_cont : (c : Cont) → cont_of (code_cont c) ≡ c
same_cont (Cont.Frame f ip p) = ap (λ (q : Port). Cont.Frame f ip q) (same_port p)
same_cont (Cont.Host j) = refl

same_value : (v : Value) → value_of (code_value v) ≡ v
same_value (Value.Int x) = refl
same_value (Value.Fault k Origin.Untold) = ap (λ (z : FaultKind). Value.Fault z Origin.Untold) (same_kind k)
same_value (Value.Fault k (Origin.At b n)) = ap (λ (z : FaultKind). Value.Fault z (Origin.At b n)) (same_kind k)

same_word : (w : Word) → word_of (code_word w) ≡ w
same_word (Word.Val v) = ap (λ (x : Value). Word.Val x) (same_value v)
same_word (Word.Frame f) = refl
same_word (Word.Back c) = ap (λ (x : Cont). Word.Back x) (same_cont c)

same_to : (t : To) → to_of (code_to t) ≡ t
same_to (To.Instr f ip p) = ap (λ (q : Port). To.Instr f ip q) (same_port p)
same_to (To.Fetch x) = refl
same_to (To.Store x v) = ap (λ (y : Value). To.Store x y) (same_value v)
same_to To.Manager = refl
same_to (To.Release f) = refl
same_to (To.Host j) = refl

-- whether two tokens are the same
abbrev is_same : Token → Token → Bool
is_same t u = pointwise int_eq (code_to t.to) (code_to u.to) && pointwise int_eq (code_word t.word) (code_word u.word)

both_true : (a b : Bool) → a && b ≡ true → (a ≡ true) × (b ≡ true)
both_true true b e = (refl, e)
both_true false b e = absurd cc

same_token : (t u : Token) → is_same t u ≡ true → t ≡ u
same_token t u e =
    let both = both_true (pointwise int_eq (code_to t.to) (code_to u.to)) (pointwise int_eq (code_word t.word) (code_word u.word)) e in
    let to : t.to ≡ u.to = sym (same_to t.to) ∙ ap to_of ((signed_items (code_to t.to) (code_to u.to)).0 both.0) ∙ same_to u.to in
    let word : t.word ≡ u.word = sym (same_word t.word) ∙ ap word_of ((signed_items (code_word t.word) (code_word u.word)).0 both.1) ∙ same_word u.word in
    ap (λ (x : To). let z : Token = record { to = x; word = t.word } in z) to ∙ ap (λ (x : Word). let z : Token = record { to = u.to; word = x } in z) word

is_self : (t : Token) → is_same t t ≡ true
is_self t =
    ap (λ (b : Bool). b && pointwise int_eq (code_word t.word) (code_word t.word)) ((signed_items (code_to t.to) (code_to t.to)).1 refl)
    ∙ (signed_items (code_word t.word) (code_word t.word)).1 refl

-- TAKING OUT
abbrev pub without : Token → List Token → List Token
without t [] = []
without t (u ∷ us) = if is_same t u then us else u ∷ without t us

-- these without those
abbrev pub minus : List Token → List Token → List Token
minus held [] = held
minus held (t ∷ ts) = minus (without t held) ts

without_put : (t : Token) (held : List Token) → Within t held → IsPermutation held (t ∷ without t held)
without_put t [] within = absurd within.1
without_put t (u ∷ us) within = by_case (is_same t u) refl within.1 (λ w. without_put t us w)
  where
    by_case : (b : Bool) → is_same t u ≡ b → Put t within.0 (u ∷ us) → (Within t us → IsPermutation us (t ∷ without t us))
        → IsPermutation (u ∷ us) (t ∷ without t (u ∷ us))
    by_case true is put again =
        let this : without t (u ∷ us) ≡ us = ap (λ (b : Bool). if b then us else u ∷ without t us) is in
        subst (λ (l : List Token). IsPermutation (u ∷ us) (t ∷ l)) (sym this) (subst (λ (x : Token). IsPermutation (u ∷ us) (x ∷ us))
        (sym (same_token t u is)) (IsPermutation-refl (u ∷ us)))
    by_case false is (inl here) again = absurd (let self : is_same t u ≡ true = subst (λ (x : Token). is_same t x ≡ true) here.0 (is_self t)
        in let no : ⊥ = cc in no)
    by_case false is (inr later) again =
        let this : without t (u ∷ us) ≡ u ∷ without t us = ap (λ (b : Bool). if b then us else u ∷ without t us) is in
        let rest = again (later.0, later.2) in
        subst (λ (l : List Token). IsPermutation (u ∷ us) (t ∷ l)) (sym this)
        (IsPermutation-trans _ _ _ (IsPermutation-cons u us (t ∷ without t us) rest) (shuffled ((u ∷ []) ∷ (t ∷ []) ∷ without t us ∷ [])
        (Piece 0 ⊕ (Piece 1 ⊕ Piece 2)) (Piece 1 ⊕ (Piece 0 ⊕ Piece 2)) refl))

-- what is left of a list without some of its tokens
pub minus_is : (held ts rest : List Token) → IsPermutation held (ts ++ rest) → IsPermutation (minus held ts) rest
minus_is held [] rest p = p
minus_is held (t ∷ ts) rest p =
    let within : Within t held = within_permutation t (t ∷ (ts ++ rest)) held (IsPermutation-sym held (t ∷ (ts ++ rest)) p)
    (ts ++ rest, put_first t (ts ++ rest)) in
    let out : IsPermutation (t ∷ without t held) (t ∷ (ts ++ rest)) = IsPermutation-trans _ _ _ (IsPermutation-sym _ _ (without_put t held within)) p in
    minus_is (without t held) ts rest (permutation_cancel (t ∷ []) (without t held) (ts ++ rest) out)
