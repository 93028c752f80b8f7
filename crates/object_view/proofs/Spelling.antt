-- An instruction that passed the checks is spelt by its two words.
use Rattle.std.proofs.Common.{◌≡◌, ℕ, ◌+◌, ◌-◌, ◌*◌, ◌/◌, ◌%◌, ◌^◌, ◌<◌, ◌≤◌, Bool, true, false, ◌==◌, if◌then◌else◌, List, [], ◌∷◌, Option, Some}
use Rattle.std.proofs.Common.{None, ℤ, refl, sym, ap, subst, ◌∙◌, arith, eqb-true}
use Rattle.std.specs.Prelude.{⊤, option_to_list, map}
use Rattle.std.specs.List.{list_all}
use Rattle.std.proofs.lemmas.Bool.{eqb-false, and_parts}
use Rattle.tags.specs.declared.token.Port.TheVariants.{Left, Right}
use Rattle.tags.specs.declared.value.Origin.TheVariants.{Untold, At}
use Rattle.operators.specs.declared.Unary.TheVariants.{Neg, Not}
use Rattle.operators.specs.declared.Binary.{Binary}
use Rattle.semantics.specs.Bytes.{number_from, head, head_of, dest_word, port_bit, origin_code}
use Rattle.semantics.specs.declared.version.Version.{Version}
use Rattle.semantics.specs.declared.opcode.Opcode.{Opcode}
use Rattle.semantics.specs.declared.opcode.Opcode.TheVariants.{Apply1, Apply2, Apply2Right, Apply2Left, Lit, Copy, Sync, Switch, Fetch, Store}
use Rattle.semantics.specs.declared.opcode.Opcode.TheVariants.{Frame, Link, Send, Return, Ask, Open, Take, Give, Drain, Release}
use Rattle.semantics.proofs.OperatorWords.{binary_numbered}
use Rattle.semantics.specs.Opcodes.{binary_code, code_number, flag_number}
use Rattle.object_view.specs.Fields.{dest_of, port_of, has_origin, operand_in, origin_number, origin_of}
use Rattle.semantics.specs.Opcodes.{binary_of, flagged, unflagged, opcode_from, opcode_of, other_opcodes, with}

-- OPCODES BY THEIR NUMBERS
lookup : {X : Type 0} → ℕ → List (ℕ × X) → Option X
lookup c [] = None
lookup c (p ∷ ps) = if c == p.0 then Some p.1 else lookup c ps

Holds : {X : Type 0} → (ℕ → X → Type 0) → List (ℕ × X) → Type 0
Holds P [] = ⊤
Holds P (p ∷ ps) = P p.0 p.1 × Holds P ps

lookup_holds : {X : Type 0} (P : ℕ → X → Type 0) (c : ℕ) (x : X) (ps : List (ℕ × X)) → Holds P ps → lookup c ps ≡ Some x → P c x
unfolding lookup Holds
lookup_holds P c x [] k h = absurd cc
lookup_holds {X} P c x (p ∷ ps) k h = go (lookup_holds P c x ps k.1) (c == p.0) refl h
  where
    go : (lookup c ps ≡ Some x → P c x) → (t : Bool) → (c == p.0) ≡ t → (if t then Some p.1 else lookup c ps) ≡ Some x → P c x
    go later true e q =
        let same : p.1 ≡ x = cc in
        let key : p.0 ≡ c = sym (eqb-true c p.0 e) in
        subst (λ (n : ℕ). P n x) key (subst (λ (y : X). P p.0 y) same k.0)
    go later false e q = later q

-- those that have no flag, by their codes
abbrev pub others : List Opcode
others = Apply1 Neg ∷ Apply1 Not ∷ other_opcodes

abbrev by_code : List Opcode → List (ℕ × Opcode)
by_code os = map (λ (o : Opcode). (code_number o, o)) os

-- of these holds what was computed of each
each_holds : (test : Opcode → Bool) (os : List Opcode) → list_all test os ≡ true
    → Holds (λ (n : ℕ) (o : Opcode). (code_number o ≡ n) × (test o ≡ true)) (by_code os)
unfolding Holds
each_holds test [] e = tt
each_holds test (o ∷ os) e = let h = and_parts (test o) (list_all test os) e in ((refl, h.0), each_holds test os h.1)

pub other_is : (test : Opcode → Bool) → list_all test others ≡ true → (c : ℕ) (o : Opcode) → unflagged c ≡ Some o → (code_number o ≡ c) × (test o ≡ true)
unfolding lookup
other_is test e c o h = lookup_holds (λ (n : ℕ) (p : Opcode). (code_number p ≡ n) × (test p ≡ true)) c o (by_code others) (each_holds test others e) h

abbrev flags : Binary → List (ℕ × Opcode)
flags op = (0, Apply2 op) ∷ (1, Apply2Right op) ∷ (2, Apply2Left op) ∷ []

plain_numbered : (c : ℕ) (o : Opcode) → unflagged c ≡ Some o → (code_number o ≡ c) × (flag_number o ≡ 0)
plain_numbered c o h = let p = other_is (λ (o : Opcode). flag_number o == 0) refl c o h in (p.0, eqb-true (flag_number o) 0 p.1)

flag_numbered : (op : Binary) (f : ℕ) (o : Opcode) → flagged op f ≡ Some o → (code_number o ≡ binary_code op) × (flag_number o ≡ f)
unfolding lookup Holds
flag_numbered op f o h = lookup_holds (λ (n : ℕ) (p : Opcode). (code_number p ≡ binary_code op) × (flag_number p ≡ n)) f o (flags op)
    ((refl, refl), ((refl, refl), ((refl, refl), tt))) h

pub numbered : (c f : ℕ) (o : Opcode) → opcode_of c f ≡ Some o → (code_number o ≡ c) × (flag_number o ≡ f)
unfolding opcode_of
numbered c f o h = go (binary_of c) refl h
  where
    plainly : (t : Bool) → (f == 0) ≡ t → (if t then unflagged c else None) ≡ Some o → (code_number o ≡ c) × (flag_number o ≡ f)
    plainly true e q =
        let n = plain_numbered c o q in
        (n.0, n.1 ∙ sym (eqb-true f 0 e))
    plainly false e q = absurd cc

    go : (m : Option Binary) → binary_of c ≡ m → opcode_from m c f ≡ Some o → (code_number o ≡ c) × (flag_number o ≡ f)
    go None e q = plainly (f == 0) refl q
    go (Some op) e q =
        let n = flag_numbered op f o q in
        (n.0 ∙ binary_numbered c op e, n.1)

-- OPERANDS
abbrev pub IsSpelt : List ℤ → Opcode → ℕ → ℤ → Type 0
IsSpelt ls (Apply1 op) k z = k ≡ 0
IsSpelt ls (Apply2 op) k z = k ≡ 0
IsSpelt ls (Apply2Right op) k z = number_from 0 z ls ≡ k
IsSpelt ls (Apply2Left op) k z = number_from 0 z ls ≡ k
IsSpelt ls Lit k z = number_from 0 z ls ≡ k
IsSpelt ls Copy k z = k ≡ 0
IsSpelt ls Sync k z = k ≡ 0
IsSpelt ls Switch k z = k ≡ 0
IsSpelt ls Fetch k z = k < 256
IsSpelt ls Store k z = k < 256
IsSpelt ls Frame k z = k ≡ 0
IsSpelt ls Link k z = k < 65536
IsSpelt ls Send k z = k / 65536 < 65536
IsSpelt ls Return k z = k < 256
IsSpelt ls Ask k z = k < 256
IsSpelt ls Open k z = k < 256
IsSpelt ls Take k z = k < 256
IsSpelt ls Give k z = k < 256
IsSpelt ls Drain k z = k < 256
IsSpelt ls Release k z = k < 256

same_head : (c f k j : ℕ) → k ≡ j → head c f k ≡ head c f j
same_head c f k j e = ap (λ n. head c f n) e

-- a small number is its lowest bits
pub spelt_head : (ls : List ℤ) (o : Opcode) (k : ℕ) (z : ℤ) → IsSpelt ls o k z → head_of ls (with o k z) ≡ head (code_number o) (flag_number o) k
spelt_head ls (Apply1 Neg) k z h = same_head _ _ _ _ (sym h)
spelt_head ls (Apply1 Not) k z h = same_head _ _ _ _ (sym h)
spelt_head ls (Apply2 op) k z h = same_head _ _ _ _ (sym h)
spelt_head ls (Apply2Right op) k z h = same_head _ _ _ _ h
spelt_head ls (Apply2Left op) k z h = same_head _ _ _ _ h
spelt_head ls Lit k z h = same_head _ _ _ _ h
spelt_head ls Copy k z h = same_head _ _ _ _ (sym h)
spelt_head ls Sync k z h = same_head _ _ _ _ (sym h)
spelt_head ls Switch k z h = same_head _ _ _ _ (sym h)
spelt_head ls Fetch k z h = same_head _ _ (k % 256) k (omega (arith, h))
spelt_head ls Store k z h = same_head _ _ (k % 256) k (omega (arith, h))
spelt_head ls Frame k z h = same_head _ _ _ _ (sym h)
spelt_head ls Link k z h = same_head _ _ (k % 65536) k (omega (arith, h))
spelt_head ls Send k z h = same_head _ _ (k % 65536 + 65536 * (k / 65536 % 65536)) k (omega (arith, h))
spelt_head ls Return k z h = same_head _ _ (k % 256) k (omega (arith, h))
spelt_head ls Ask k z h = same_head _ _ (k % 256) k (omega (arith, h))
spelt_head ls Open k z h = same_head _ _ (k % 256) k (omega (arith, h))
spelt_head ls Take k z h = same_head _ _ (k % 256) k (omega (arith, h))
spelt_head ls Give k z h = same_head _ _ (k % 256) k (omega (arith, h))
spelt_head ls Drain k z h = same_head _ _ (k % 256) k (omega (arith, h))
spelt_head ls Release k z h = same_head _ _ (k % 256) k (omega (arith, h))

-- HALF WORDS, and the words that they make
pub half_spelt : (h : ℕ) → h < 65536 → (h % 2 ^ 15 ≡ 0 → h ≡ 0) → dest_word (option_to_list (dest_of h)) ≡ h
half_spelt h few none = go (h % 2 ^ 15 == 0) refl
  where
    port : (t : Bool) → (h / 2 ^ 15 == 0) ≡ t → h % 2 ^ 15 + 2 ^ 15 * port_bit (if t then Left else Right) ≡ h
    port true e = omega (arith, eqb-true _ _ e)
    port false e = omega (arith, eqb-false _ _ e)

    go : (t : Bool) → (h % 2 ^ 15 == 0) ≡ t → dest_word
        (option_to_list (if t then None else Some record { ahead = h % 2 ^ 15; port = port_of (h / 2 ^ 15) })) ≡ h
    go true e = sym (none (eqb-true _ _ e))
    go false e = port (h / 2 ^ 15 == 0) refl

pub word_split : (x : ℕ) → x % 2 ^ 8 + 2 ^ 8 * (x / 2 ^ 8 % 2 ^ 8) + 2 ^ 16 * (x / 2 ^ 16 % 2 ^ 16) + 2 ^ 32 * (x / 2 ^ 32 % 2 ^ 16) + 2 ^ 48 * (x / 2 ^ 48) ≡ x
word_split x = omega arith

pub entry_split : (x : ℕ) → x % 2 ^ 32 + 2 ^ 32 * (x / 2 ^ 32 % 2 ^ 8) + 2 ^ 40 * (x / 2 ^ 40 % 2 ^ 8) + 2 ^ 48 * (x / 2 ^ 48) ≡ x
entry_split x = omega arith

pub origin_spelt : (n : ℕ) → n ≤ 262144 → origin_code (origin_of n) ≡ n
origin_spelt n few = go (n == 0) refl
  where
    go : (t : Bool) → (n == 0) ≡ t → origin_code (if t then Untold else At ((n - 1) / 1024 % 256) ((n - 1) % 1024)) ≡ n
    go true e = sym (eqb-true n 0 e)
    go false e = omega (arith, eqb-false n 0 e)

pub operand_spelt : (v : Version) (o : Opcode) (y : ℕ) → operand_in v o y + 2 ^ 32 * origin_number v o y ≡ y
operand_spelt v o y = go (has_origin v o)
  where
    go : (t : Bool) → (if t then y % 2 ^ 32 else y) + 2 ^ 32 * (if t then y / 2 ^ 32 else 0) ≡ y
    go true = omega arith
    go false = omega arith
