-- A word that is read is the word that is written.
use Rattle.std.proofs.Common.{◌≡◌, ℕ, ◌-◌, ◌<◌, eqb, ltb, Bool, true, false, cond, List, [], ◌∷◌, ◌++◌, length, get_or, take, Option, Some, None, ℤ}
use Rattle.std.proofs.Common.{refl, sym, ap, subst, ◌∙◌, append_assoc, arith, inl, inr}
use Rattle.std.specs.Prelude.{⊤, codes, option_map, option_to_list}
use Rattle.std.specs.Fmt.{decimal}
use Rattle.std.specs.List.{join_with_byte}
use Rattle.std.specs.Str.{bytes_eq}
use Rattle.std.proofs.lemmas.Bool.{eqb-true, ltb-true}
use Rattle.std.proofs.lemmas.List.Splits.{join_with_byte-slice_split}
use Rattle.std.proofs.lemmas.Slice.Eq.{bytes_eq-Decides}
use Rattle.lemmas.proofs.Bools.{cond_cases}
use Rattle.lemmas.proofs.Lists.{front_and_last}
use Rattle.tags.specs.declared.token.Port.{Port}
use Rattle.tags.specs.declared.token.Port.TheVariants.{Left, Right}
use Rattle.tags.specs.declared.value.Origin.{Origin}
use Rattle.tags.specs.declared.value.Origin.TheVariants.{At}
use Rattle.operators.specs.declared.Binary.{Binary}
use Rattle.semantics.specs.declared.program.Dest.{Dest}
use Rattle.semantics.specs.declared.program.Op.{Op}
use Rattle.semantics.specs.declared.program.Op.TheVariants as ops
use Rattle.semantics.specs.Program.{Instr, uses_slot}
use Rattle.semantics.specs.Rule.{slot_of}
use Rattle.semantics.specs.Text.{literal, unary_word, binary_word}
use Rattle.disassembler.specs.Listing.{slot_text, port_letter, dest_text, operand_text}
use Rattle.disassembler.specs.Listing as Listing
use Rattle.graph_file.specs.Lines.{parts}
use Rattle.graph_file.specs.Fields.{number_of, literal_of}
use Rattle.graph_file.proofs.Marks.{number_is, literal_is}
use Rattle.semantics.specs.declared.opcode.Opcode.{Opcode}
use Rattle.semantics.specs.declared.opcode.Opcode.TheVariants.{Apply1, Apply2, Apply2Right, Apply2Left, Lit, Copy, Sync, Switch, Fetch, Store}
use Rattle.semantics.specs.declared.opcode.Opcode.TheVariants.{Frame, Link, Send, Return, Ask, Open, Take, Give, Drain, Release}
use Rattle.assembler.specs.Grammar.{origin_words}
use Rattle.semantics.specs.Opcodes.{opcode_word}
use Rattle.semantics.specs.Opcodes as Opcodes
use Rattle.assembler.specs.Fields.{then_some, tagged, below, small_of, wide_of, small_behind, wide_behind, literal_behind, side_behind, no_operand}
use Rattle.assembler.specs.Fields.{sided, binary_from, pair_of, entry_parts, entry_of, entry_behind, op_of, slot_from, dest_to, dest_parts}
use Rattle.assembler.specs.Fields.{dest_behind, dest_of, node_of, place_of, place_parts, place_in, origin_of}

-- ---- small parts
pub then_is : {A B : Type 0} (o : Option A) (f : A → Option B) (y : B) → then_some o f ≡ Some y → (x : A) × (o ≡ Some x) × (f x ≡ Some y)
then_is None f y e = absurd cc
then_is (Some x) f y e = (x, refl, e)

pub map_is : {A B : Type 0} (f : A → B) (o : Option A) (y : B) → option_map f o ≡ Some y → (x : A) × (o ≡ Some x) × (f x ≡ y)
map_is f None y e = absurd cc
map_is f (Some x) y e = (x, refl, cc)

tagged_is : (c : ℕ) (w r : List ℕ) → tagged c w ≡ Some r → w ≡ c ∷ r
unfolding tagged
tagged_is c [] r e = absurd cc
tagged_is c (b ∷ bs) r e = go (eqb b c) refl
  where
    go : (t : Bool) → eqb b c ≡ t → b ∷ bs ≡ c ∷ r
    go true t =
        let k : Some bs ≡ Some r = rw t at e in
        let same : bs ≡ r = cc in
        ap (λ (x : ℕ). x ∷ bs) (eqb-true b c t) ∙ ap (λ (xs : List ℕ). c ∷ xs) same
    go false t = absurd (let k : None ≡ Some r = rw t at e in cc)

below_is : (limit : ℕ) (o : Option ℕ) (n : ℕ) → below limit o ≡ Some n → (o ≡ Some n) × (n < limit)
below_is limit None n e = absurd cc
below_is limit (Some m) n e = go (ltb m limit) refl
  where
    go : (t : Bool) → ltb m limit ≡ t → (Some m ≡ Some n) × (n < limit)
    go true t =
        let k : Some m ≡ Some n = rw t at e in
        let same : m ≡ n = cc in
        (k, subst (λ (x : ℕ). x < limit) same (ltb-true m limit t))
    go false t = absurd (let k : None ≡ Some n = rw t at e in cc)

pub small_is : (w : List ℕ) (n : ℕ) → small_of w ≡ Some n → (w ≡ decimal n) × (n < 256)
unfolding small_of
small_is w n e = let b = below_is 256 (number_of w) n e in ((number_is w n b.0).0, b.1)

wide_is : (w : List ℕ) (n : ℕ) → wide_of w ≡ Some n → w ≡ decimal n
unfolding wide_of
wide_is w n e = let b = below_is 65536 (number_of w) n e in (number_is w n b.0).0

pub node_is : (w : List ℕ) (n : ℕ) → node_of w ≡ Some n → (w ≡ decimal n) × (n < 1024)
unfolding node_of
node_is w n e = let b = below_is 1024 (number_of w) n e in ((number_is w n b.0).0, b.1)

small_behind_is : (c : ℕ) (w : List ℕ) (n : ℕ) → small_behind c w ≡ Some n → w ≡ c ∷ decimal n
unfolding small_behind
small_behind_is c w n e =
    let t = then_is (tagged c w) small_of n e in
    tagged_is c w t.0 t.1 ∙ ap (λ (xs : List ℕ). c ∷ xs) (small_is t.0 n t.2).0

wide_behind_is : (c : ℕ) (w : List ℕ) (n : ℕ) → wide_behind c w ≡ Some n → w ≡ c ∷ decimal n
unfolding wide_behind
wide_behind_is c w n e =
    let t = then_is (tagged c w) wide_of n e in
    tagged_is c w t.0 t.1 ∙ ap (λ (xs : List ℕ). c ∷ xs) (wide_is t.0 n t.2)

literal_behind_is : (w : List ℕ) (z : ℤ) → literal_behind w ≡ Some z → w ≡ 35 ∷ literal z
unfolding literal_behind
literal_behind_is w z e =
    let t = then_is (tagged 35 w) literal_of z e in
    tagged_is 35 w t.0 t.1 ∙ ap (λ (xs : List ℕ). 35 ∷ xs) (literal_is t.0 z t.2).0

side_behind_is : (c : ℕ) (w : List ℕ) (z : ℤ) → side_behind c w ≡ Some z → w ≡ c ∷ 35 ∷ literal z
unfolding side_behind
side_behind_is c w z e =
    let t = then_is (tagged c w) literal_behind z e in
    tagged_is c w t.0 t.1 ∙ ap (λ (xs : List ℕ). c ∷ xs) (literal_behind_is t.0 z t.2)

-- ---- operands
abbrev Says : Opcode → List ℕ → Op → Type 0
Says n w op = (opcode_word n ≡ Opcodes.op_word op) × (w ≡ operand_text op)

no_operand_is : (n : Opcode) (op : Op) (w : List ℕ) (y : Op) → opcode_word n ≡ Opcodes.op_word op → operand_text op ≡ codes "-" → no_operand op w
    ≡ Some y → Says n w y
unfolding no_operand
no_operand_is n op w y name none e =
    elim (cond_cases (bytes_eq w (codes "-")) (Some op) None (Some y) e) as (λ _. Says n w y) [
      | inl h ↦
          let k : op ≡ y = let q = h.1 in cc in
          subst (Says n w) k (name, (bytes_eq-Decides w (codes "-")).0 h.0 ∙ sym none)
      | inr h ↦ absurd (let q = h.1 in cc)
    ]

sided_is : (op : Binary) (w : List ℕ) (r l : Option ℤ) (y : Op) → ((z : ℤ) → r ≡ Some z → w ≡ 114 ∷ 35 ∷ literal z)
    → ((z : ℤ) → l ≡ Some z → w ≡ 108 ∷ 35 ∷ literal z) → sided op r l ≡ Some y → Says (Apply2 op) w y
sided_is op w (Some z) l y right left e = let k : ops.Apply2Right op z ≡ y = cc in subst (Says (Apply2 op) w) k (refl, right z refl)
sided_is op w None (Some z) y right left e = let k : ops.Apply2Left op z ≡ y = cc in subst (Says (Apply2 op) w) k (refl, left z refl)
sided_is op w None None y right left e = absurd cc

binary_is : (op : Binary) (w : List ℕ) (y : Op) → binary_from op w ≡ Some y → Says (Apply2 op) w y
unfolding binary_from
binary_is op w y e =
    elim (cond_cases (bytes_eq w (codes "-")) (Some (ops.Apply2 op)) (sided op (side_behind 114 w) (side_behind 108 w)) (Some y) e) as
    (λ _. Says (Apply2 op) w y) [
      | inl h ↦
          let k : ops.Apply2 op ≡ y = let q = h.1 in cc in
          subst (Says (Apply2 op) w) k (refl, (bytes_eq-Decides w (codes "-")).0 h.0)
      | inr h ↦ sided_is op w (side_behind 114 w) (side_behind 108 w) y (λ z k. side_behind_is 114 w z k) (λ z k. side_behind_is 108 w z k) h.1
    ]

pair_is : (a : Option ℕ) (b : Option ℕ) (p : ℕ × ℕ) → pair_of a b ≡ Some p → (a ≡ Some p.0) × (b ≡ Some p.1)
pair_is None b p e = absurd cc
pair_is (Some x) None p e = absurd cc
pair_is (Some x) (Some y) p e =
    let k : (x, y) ≡ p = cc in
    (ap (λ (t : ℕ × ℕ). Some t.0) k, ap (λ (t : ℕ × ℕ). Some t.1) k)

abbrev pub dotted : ℕ → ℕ → List ℕ
dotted b n = decimal b ++ (46 ∷ decimal n)

entry_is : (w : List ℕ) (p : ℕ × ℕ) → entry_of w ≡ Some p → w ≡ dotted p.0 p.1
unfolding entry_of
entry_is w p e = go (parts 46 w) (join_with_byte-slice_split 46 w) e
  where
    go : (ps : List (List ℕ)) → join_with_byte 46 ps ≡ w → entry_parts ps ≡ Some p → w ≡ dotted p.0 p.1
    go [] j h = absurd cc
    go (a ∷ []) j h = absurd cc
    go (a ∷ b ∷ []) j h =
        let q = pair_is (wide_of a) (wide_of b) p h in
        sym j ∙ ap (λ (xs : List ℕ). xs ++ (46 ∷ b)) (wide_is a p.0 q.0) ∙ ap (λ (xs : List ℕ). decimal p.0 ++ (46 ∷ xs)) (wide_is b p.1 q.1)
    go (a ∷ b ∷ c ∷ ps) j h = absurd cc

pub send_text : (b e : ℕ) → operand_text (ops.Send b e) ≡ 98 ∷ dotted b e
send_text b e = ap (λ (xs : List ℕ). 98 ∷ xs) (append_assoc (decimal b) (46 ∷ []) (decimal e))

entry_behind_is : (w : List ℕ) (p : ℕ × ℕ) → entry_behind w ≡ Some p → w ≡ operand_text (ops.Send p.0 p.1)
unfolding entry_behind
entry_behind_is w p e =
    let t = then_is (tagged 98 w) entry_of p e in
    tagged_is 98 w t.0 t.1 ∙ ap (λ (xs : List ℕ). 98 ∷ xs) (entry_is t.0 p t.2) ∙ sym (send_text p.0 p.1)

mapped : {A : Type 0} (n : Opcode) (w : List ℕ) (make : A → Op) (o : Option A) (y : Op) → ((x : A) → o ≡ Some x → Says n w (make x))
    → option_map make o ≡ Some y → Says n w y
mapped n w make o y h e =
    let m = map_is make o y e in
    subst (Says n w) m.2 (h m.0 m.1)

pub op_is : (n : Opcode) (w : List ℕ) (y : Op) → op_of n w ≡ Some y → Says n w y
unfolding op_of
op_is (Apply1 op) w y e = no_operand_is (Apply1 op) (ops.Apply1 op) w y refl refl e
op_is (Apply2 op) w y e = binary_is op w y e
op_is (Apply2Right op) w y e = absurd cc
op_is (Apply2Left op) w y e = absurd cc
op_is Lit w y e = mapped Lit w ops.Lit (literal_behind w) y (λ z k. (refl, literal_behind_is w z k)) e
op_is Copy w y e = no_operand_is Copy ops.Copy w y refl refl e
op_is Sync w y e = no_operand_is Sync ops.Sync w y refl refl e
op_is Switch w y e = no_operand_is Switch ops.Switch w y refl refl e
op_is Fetch w y e = mapped Fetch w ops.Fetch (small_behind 97 w) y (λ a k. (refl, small_behind_is 97 w a k)) e
op_is Store w y e = mapped Store w ops.Store (small_behind 97 w) y (λ a k. (refl, small_behind_is 97 w a k)) e
op_is Frame w y e = no_operand_is Frame ops.Frame w y refl refl e
op_is Link w y e = mapped Link w ops.Link (wide_behind 98 w) y (λ b k. (refl, wide_behind_is 98 w b k)) e
op_is Send w y e = mapped Send w (λ (p : ℕ × ℕ). ops.Send p.0 p.1) (entry_behind w) y (λ p k. (refl, entry_behind_is w p k)) e
op_is Return w y e = mapped Return w ops.Return (small_behind 111 w) y (λ o k. (refl, small_behind_is 111 w o k)) e
op_is Ask w y e = mapped Ask w ops.Ask (small_behind 111 w) y (λ o k. (refl, small_behind_is 111 w o k)) e
op_is Open w y e = mapped Open w ops.Open (small_behind 107 w) y (λ o k. (refl, small_behind_is 107 w o k)) e
op_is Take w y e = mapped Take w ops.Take (small_behind 107 w) y (λ o k. (refl, small_behind_is 107 w o k)) e
op_is Give w y e = mapped Give w ops.Give (small_behind 107 w) y (λ o k. (refl, small_behind_is 107 w o k)) e
op_is Drain w y e = mapped Drain w ops.Drain (small_behind 107 w) y (λ o k. (refl, small_behind_is 107 w o k)) e
op_is Release w y e = mapped Release w ops.Release (small_behind 111 w) y (λ o k. (refl, small_behind_is 111 w o k)) e

-- ---- slots
used_slot : (w : List ℕ) (s : ℕ) → slot_from true w ≡ Some s → w ≡ decimal s
unfolding slot_from
used_slot w s e = (number_is w s e).0

no_slot : (w : List ℕ) (s : ℕ) → slot_from false w ≡ Some s → w ≡ codes "-"
unfolding slot_from
no_slot w s e =
    elim (cond_cases (bytes_eq w (codes "-")) (Some 0) None (Some s) e) as (λ _. w ≡ codes "-") [
      | inl h ↦ (bytes_eq-Decides w (codes "-")).0 h.0
      | inr h ↦ absurd (let q = h.1 in cc)
    ]

slot_at : (op : Op) (i : Instr) (w : List ℕ) → slot_from (uses_slot op) w ≡ Some i.slot → w ≡ slot_text (slot_of i op)
slot_at (ops.Apply1 o) i w e = no_slot w i.slot e
slot_at (ops.Apply2 o) i w e = used_slot w i.slot e
slot_at (ops.Apply2Right o z) i w e = no_slot w i.slot e
slot_at (ops.Apply2Left o z) i w e = no_slot w i.slot e
slot_at (ops.Lit z) i w e = no_slot w i.slot e
slot_at ops.Copy i w e = no_slot w i.slot e
slot_at ops.Sync i w e = used_slot w i.slot e
slot_at ops.Switch i w e = used_slot w i.slot e
slot_at (ops.Fetch a) i w e = no_slot w i.slot e
slot_at (ops.Store a) i w e = used_slot w i.slot e
slot_at ops.Frame i w e = no_slot w i.slot e
slot_at (ops.Link b) i w e = no_slot w i.slot e
slot_at (ops.Send b x) i w e = used_slot w i.slot e
slot_at (ops.Return o) i w e = used_slot w i.slot e
slot_at (ops.Ask o) i w e = used_slot w i.slot e
slot_at (ops.Open k) i w e = used_slot w i.slot e
slot_at (ops.Take k) i w e = used_slot w i.slot e
slot_at (ops.Give k) i w e = used_slot w i.slot e
slot_at (ops.Drain k) i w e = used_slot w i.slot e
slot_at (ops.Release o) i w e = used_slot w i.slot e

pub slot_is : (i : Instr) (w : List ℕ) → slot_from (uses_slot i.op) w ≡ Some i.slot → w ≡ slot_text (slot_of i i.op)
slot_is i w e = slot_at i.op i w e

-- ---- destinations
abbrev tail_text : List Dest → List ℕ
tail_text [] = []
tail_text (d ∷ ds) = decimal d.ahead ++ port_letter d.port

dest_to_is : (port : Port) (w front : List ℕ) (y : Option Dest) → w ≡ front ++ port_letter port → dest_to port (number_of front) ≡ Some y → (d : Dest)
    × (y ≡ Some d) × (w ≡ decimal d.ahead ++ port_letter d.port)
dest_to_is port w front y is e = go (number_of front) refl e
  where
    go : (o : Option ℕ) → number_of front ≡ o → dest_to port o ≡ Some y → (d : Dest) × (y ≡ Some d) × (w ≡ decimal d.ahead ++ port_letter d.port)
    go None k h = absurd cc
    go (Some n) k h =
        let same : Some record { ahead = n; port = port } ≡ y = cc in
        (record { ahead = n; port = port }, sym same, is ∙ ap (λ (xs : List ℕ). xs ++ port_letter port) (number_is front n k).0)

dest_parts_is : (w front : List ℕ) (last : ℕ) (y : Option Dest) → w ≡ front ++ last ∷ [] → dest_parts front last ≡ Some y → (d : Dest) × (y ≡ Some d)
    × (w ≡ decimal d.ahead ++ port_letter d.port)
dest_parts_is w front last y is e =
    elim (cond_cases (eqb last 108) (dest_to Left (number_of front)) (cond (eqb last 114) (dest_to Right (number_of front)) None) (Some y) e) as
    (λ _. (d : Dest) × (y ≡ Some d) × (w ≡ decimal d.ahead ++ port_letter d.port)) [
      | inl h ↦ dest_to_is Left w front y (is ∙ ap (λ (x : ℕ). front ++ x ∷ []) (eqb-true last 108 h.0)) h.1
      | inr h ↦ elim (cond_cases (eqb last 114) (dest_to Right (number_of front)) None (Some y) h.1) as (λ _. (d : Dest) × (y ≡ Some d)
          × (w ≡ decimal d.ahead ++ port_letter d.port)) [
            | inl k ↦ dest_to_is Right w front y (is ∙ ap (λ (x : ℕ). front ++ x ∷ []) (eqb-true last 114 k.0)) k.1
            | inr k ↦ absurd (let q = k.1 in cc)
          ]
    ]

dest_behind_is : (w : List ℕ) (y : Option Dest) → dest_behind w ≡ Some y → (d : Dest) × (y ≡ Some d) × (w ≡ decimal d.ahead ++ port_letter d.port)
unfolding dest_behind
dest_behind_is [] y e = absurd cc
dest_behind_is (x ∷ xs) y e = dest_parts_is (x ∷ xs) (take (length (x ∷ xs) - 1) (x ∷ xs)) (get_or (x ∷ xs) (length (x ∷ xs) - 1) 0) y
    (front_and_last (x ∷ xs) (omega arith)) e

pub dest_is : (w : List ℕ) (y : Option Dest) → dest_of w ≡ Some y → w ≡ dest_text (option_to_list y)
unfolding dest_of
dest_is w y e =
    elim (cond_cases (bytes_eq w (codes "-")) (Some None) (then_some (tagged 43 w) dest_behind) (Some y) e) as (λ _. w ≡ dest_text (option_to_list y)) [
      | inl h ↦
          let k : None ≡ y = let q = h.1 in cc in
          subst (λ (o : Option Dest). w ≡ dest_text (option_to_list o)) k ((bytes_eq-Decides w (codes "-")).0 h.0)
      | inr h ↦
          let t = then_is (tagged 43 w) dest_behind y h.1 in
          let d = dest_behind_is t.0 y t.2 in
          let written : w ≡ dest_text (option_to_list (Some d.0)) = tagged_is 43 w t.0 t.1 ∙ ap (λ (xs : List ℕ). 43 ∷ xs) d.2 in
          subst (λ (o : Option Dest). w ≡ dest_text (option_to_list o)) (sym d.1) written
    ]

-- ---- origins
place_of_is : (a b : Option ℕ) (o : Origin) → place_of a b ≡ Some o → (m : ℕ) × (n : ℕ) × (a ≡ Some m) × (b ≡ Some n) × (At m n ≡ o)
place_of_is None b o e = absurd cc
place_of_is (Some m) None o e = absurd cc
place_of_is (Some m) (Some n) o e = (m, n, refl, refl, cc)

pub at_text : (m n : ℕ) → origin_words (At m n) ≡ (64 ∷ dotted m n) ∷ []
at_text m n = ap (λ (xs : List ℕ). (64 ∷ xs) ∷ []) (append_assoc (decimal m) (46 ∷ []) (decimal n))

place_is : (w : List ℕ) (o : Origin) → place_in w ≡ Some o → (64 ∷ w) ∷ [] ≡ origin_words o
unfolding place_in
place_is w o e = go (parts 46 w) (join_with_byte-slice_split 46 w) e
  where
    go : (ps : List (List ℕ)) → join_with_byte 46 ps ≡ w → place_parts ps ≡ Some o → (64 ∷ w) ∷ [] ≡ origin_words o
    go [] j h = absurd cc
    go (a ∷ []) j h = absurd cc
    go (a ∷ b ∷ []) j h =
        let q = place_of_is (small_of a) (node_of b) o h in
        let written : w ≡ dotted q.0 q.1 = sym j ∙ ap (λ (xs : List ℕ). xs ++ (46 ∷ b)) (small_is a q.0 q.2).0
        ∙ ap (λ (xs : List ℕ). decimal q.0 ++ (46 ∷ xs)) (node_is b q.1 q.3).0 in
        ap (λ (xs : List ℕ). (64 ∷ xs) ∷ []) written ∙ sym (at_text q.0 q.1) ∙ ap origin_words q.4
    go (a ∷ b ∷ c ∷ ps) j h = absurd cc

pub origin_is : (w : List ℕ) (o : Origin) → origin_of w ≡ Some o → w ∷ [] ≡ origin_words o
unfolding origin_of
origin_is w o e =
    let t = then_is (tagged 64 w) place_in o e in
    ap (λ (xs : List ℕ). xs ∷ []) (tagged_is 64 w t.0 t.1) ∙ place_is t.0 o t.2
