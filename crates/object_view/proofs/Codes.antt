-- The code tells the opcode, where it exists.
use Rattle.std.proofs.Common.{◌≡◌, ℕ, ◌/◌, ◌%◌, ◌^◌, ◌<◌, ◌≤◌, Bool, true, false, ◌==◌, if◌then◌else◌, List, [], ◌∷◌, ◌++◌, Option, Some, None}
use Rattle.std.proofs.Common.{refl, sym, ap, subst, ◌∙◌}
use Rattle.std.specs.Prelude.{IsSome, nat_lt, nat_le, ◌&&◌, map}
use Rattle.std.proofs.lemmas.Bool.{ltb-true, leb-true, and_parts}
use Rattle.operators.specs.declared.Binary.{Binary}
use Rattle.operators.specs.Values.{binaries}
use Rattle.operators.proofs.Every.{all_binary}
use Rattle.semantics.specs.declared.opcode.Opcode.{Opcode}
use Rattle.semantics.specs.Opcodes.{binary_code, code_number, binary_of, flagged, unflagged, opcode_from, opcode_of}
use Rattle.semantics.proofs.OperatorWords.{binary_back, binary_numbered}
use Rattle.object_view.specs.Fields.{opcode_in}
use Rattle.object_view.proofs.Spelling.{others, other_is}

code_read : (x c : ℕ) (m : Option Binary) → x % 2 ^ 8 ≡ c → binary_of c ≡ m → opcode_in x ≡ opcode_from m c (x / 2 ^ 8 % 2 ^ 8)
unfolding opcode_of
code_read x c m e b =
    ap (λ (n : ℕ). opcode_of n (x / 2 ^ 8 % 2 ^ 8)) e ∙ ap (λ (t : Option Binary). opcode_from t c (x / 2 ^ 8 % 2 ^ 8)) b

-- the opcode of an operator on two values
pub operator_known : (x : ℕ) (op : Binary) → x % 2 ^ 8 ≡ binary_code op → opcode_in x ≡ flagged op (x / 2 ^ 8 % 2 ^ 8)
operator_known x op e = code_read x (binary_code op) (Some op) e (binary_back op)

-- the flag of one that exists
pub flag_known : (x : ℕ) (op : Binary) → IsSome (opcode_in x) → x % 2 ^ 8 ≡ binary_code op → IsSome (flagged op (x / 2 ^ 8 % 2 ^ 8))
flag_known x op h e = subst (λ (m : Option Opcode). IsSome m) (operator_known x op e) h

none_there : (m : Option Opcode) → m ≡ None → IsSome m → ⊥
none_there None e k = absurd cc
none_there (Some o) e k = absurd cc

-- and one that has no flag
other_known : (x : ℕ) (o : Opcode) → IsSome (opcode_in x) → x % 2 ^ 8 ≡ code_number o → binary_of (code_number o) ≡ None
    → unflagged (code_number o) ≡ Some o → opcode_in x ≡ Some o
other_known x o h e none plain = go (x / 2 ^ 8 % 2 ^ 8 == 0) (code_read x (code_number o) None e none)
  where
    go : (t : Bool) → opcode_in x ≡ (if t then unflagged (code_number o) else None) → opcode_in x ≡ Some o
    go true q = q ∙ plain
    go false q = absurd (none_there (opcode_in x) q h)

-- and of a number that is the code
pub plain_known : (x r : ℕ) (o : Opcode) → IsSome (opcode_in x) → r ≡ x % 2 ^ 8 → r ≡ code_number o → binary_of (code_number o) ≡ None
    → unflagged (code_number o) ≡ Some o → opcode_in x ≡ Some o
plain_known x r o h e is none plain = other_known x o h (sym e ∙ is) none plain

-- WHICH CODES THERE ARE: those of the operators on two values, and the others
abbrev largest : List ℕ → ℕ
largest [] = 0
largest (n ∷ ns) = if nat_lt n (largest ns) then largest ns else n

abbrev pub last_code : ℕ
last_code = largest (map binary_code binaries ++ map code_number others)

abbrev in_range : ℕ → Bool
in_range c = nat_lt 0 c && nat_le c last_code

range_of : (c : ℕ) → in_range c ≡ true → (0 < c) × (c ≤ last_code)
range_of c e = let h = and_parts (nat_lt 0 c) (nat_le c last_code) e in (ltb-true 0 c h.0, leb-true c last_code h.1)

code_within : (c f : ℕ) → IsSome (opcode_of c f) → (0 < c) × (c ≤ last_code)
unfolding opcode_of
code_within c f h = go (binary_of c) refl h
  where
    plainly : (m : Option Opcode) → unflagged c ≡ m → IsSome m → (0 < c) × (c ≤ last_code)
    plainly None e k = absurd cc
    plainly (Some o) e k =
        let p = other_is (λ (o : Opcode). in_range (code_number o)) refl c o e in
        range_of c (subst (λ (n : ℕ). in_range n ≡ true) p.0 p.1)

    unflagged_there : (t : Bool) → IsSome (if t then unflagged c else None) → (0 < c) × (c ≤ last_code)
    unflagged_there true k = plainly (unflagged c) refl k
    unflagged_there false k = absurd cc

    go : (m : Option Binary) → binary_of c ≡ m → IsSome (opcode_from m c f) → (0 < c) × (c ≤ last_code)
    go None e k = unflagged_there (f == 0) k
    go (Some op) e k =
        range_of c (subst (λ (n : ℕ). in_range n ≡ true) (binary_numbered c op e) (all_binary (λ (o : Binary). in_range (binary_code o)) refl op))

pub code_known : (x : ℕ) → IsSome (opcode_in x) → (0 < x % 2 ^ 8) × (x % 2 ^ 8 ≤ last_code)
code_known x h = code_within (x % 2 ^ 8) (x / 2 ^ 8 % 2 ^ 8) h
