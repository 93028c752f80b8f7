-- How many tokens are at a port.
use Rattle.std.proofs.Common.{◌≡◌, sym, ap, ◌∙◌, subst, ℕ, ◌<◌, ◌≤◌, ◌⊎◌, inl, inr, Bool, true, false, true≢false, List, [], ◌∷◌}
use Rattle.std.proofs.Common.{IsPermutation, Contains, nat_lt, eqb-true, arith}
use Rattle.std.specs.Prelude.{◌==◌, ◌&&◌}
use Rattle.std.proofs.lemmas.Bool.{cases_Bool, and_parts}
use Rattle.lemmas.proofs.Contains.{contains_cases, contains_head, contains_none, contains_tail}
use Rattle.tags.specs.declared.token.Port.{Port}
use Rattle.tags.specs.declared.token.Word.{Word}
use Rattle.tags.specs.declared.token.To.{To}
use Rattle.tags.specs.declared.token.Token.{Token}
use Rattle.semantics.specs.Rule.{token}
use Rattle.semantics.specs.Orderly.{is_at, eq_port}
use Rattle.semantics.proofs.Ports.{is_at_itself, eq_port_true}
use Rattle.law_fresh_frames.proofs.BoundedWeights.{tot}
use Rattle.law_fresh_frames.proofs.BoundedRows.{unit}
use Rattle.lemmas.proofs.Permutations.{one_out}
use Rattle.std.proofs.lemmas.List.Sorted.{Contains-permutation, IsPermutation-cons, IsPermutation-trans}

-- how many of the tokens are at the port
abbrev pub ones : ℕ → ℕ → Port → List Token → ℕ
ones f ip r ts = tot (λ (t : Token). unit (is_at f ip r t.to)) ts

pub at_true : (f ip : ℕ) (r : Port) (to : To) → is_at f ip r to ≡ true → to ≡ To.Instr f ip r
at_true f ip r (To.Instr g n t) e =
    let a = and_parts ((g == f) && (n == ip)) (eq_port r t) e in
    let b = and_parts (g == f) (n == ip) a.0 in
    (λ k. To.Instr (eqb-true g f b.0 k) (eqb-true n ip b.1 k) (sym (eq_port_true r t a.1) k))
at_true f ip r (To.Fetch x) e = absurd (true≢false (sym e))
at_true f ip r (To.Store x v) e = absurd (true≢false (sym e))
at_true f ip r To.Manager e = absurd (true≢false (sym e))
at_true f ip r (To.Release g) e = absurd (true≢false (sym e))
at_true f ip r (To.Host j) e = absurd (true≢false (sym e))

-- what is among them is counted
pub ones_there : (f ip : ℕ) (r : Port) (ts : List Token) (t : Token) → Contains ts t → t.to ≡ To.Instr f ip r → 1 ≤ ones f ip r ts
ones_there f ip r [] t inside e = absurd (contains_none t inside)
ones_there f ip r (u ∷ ts) t inside e = go (contains_cases u ts t inside) (λ c. ones_there f ip r ts t c e)
  where
    go : (u ≡ t) ⊎ Contains ts t → (Contains ts t → 1 ≤ ones f ip r ts) → 1 ≤ ones f ip r (u ∷ ts)
    go (inl d) more =
        let a : unit (is_at f ip r u.to) ≡ 1 = ap (λ (to : To). unit (is_at f ip r to)) (ap (λ (t : Token). t.to) d ∙ e) ∙ ap unit (is_at_itself f ip r) in
        omega (arith, a)
    go (inr c) more = let a = more c in omega (arith, a)

-- and what is counted is among them
pub ones_some : (f ip : ℕ) (r : Port) (ts : List Token) → 0 < ones f ip r ts → (w : Word) × Contains ts (token (To.Instr f ip r) w)
ones_some f ip r [] l = absurd (omega (arith, l))
ones_some f ip r (t ∷ ts) l = go (cases_Bool (is_at f ip r t.to)) (ones_some f ip r ts)
  where
    go : (is_at f ip r t.to ≡ true) ⊎ (is_at f ip r t.to ≡ false) → (0 < ones f ip r ts → (w : Word) × Contains ts (token (To.Instr f ip r) w))
        → (w : Word) × Contains (t ∷ ts) (token (To.Instr f ip r) w)
    go (inl e) more = (t.word, subst (λ (to : To). Contains (t ∷ ts) (token to t.word)) (at_true f ip r t.to e) (contains_head t ts))
    go (inr e) more = let a = ap unit e in let m = more (omega (arith, l, a)) in (m.0, contains_tail t ts (token (To.Instr f ip r) m.0) m.1)

-- the token is at an instruction after that one
abbrev pub is_past : ℕ → To → Bool
is_past ip (To.Instr g n r) = nat_lt ip n
is_past ip to = false

-- two that are among them, and the others
pub two_out : {X : Type 0} (xs : List X) (x y : X) → Contains xs x → Contains xs y → (x ≡ y → ⊥) → (rest : List X) × IsPermutation xs (x ∷ y ∷ rest)
two_out {X} xs x y inx iny apart =
    let a = one_out xs x inx in
    let b = one_out a.0 y (go a.0 (contains_cases x a.0 y (Contains-permutation _ _ y a.1 iny))) in
    (b.0, IsPermutation-trans _ _ _ a.1 (IsPermutation-cons x a.0 (y ∷ b.0) b.1))
  where
    go : (rest : List X) → (x ≡ y) ⊎ Contains rest y → Contains rest y
    go rest (inl e) = absurd (apart e)
    go rest (inr c) = c
