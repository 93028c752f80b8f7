-- What was packed is what is unpacked.
use Rattle.std.proofs.Common.{◌≡◌, ℕ, ◌+◌, ◌-◌, ◌*◌, ◌/◌, ◌%◌, ◌<◌, List, [], ◌∷◌, sym, ap, ◌∙◌, refl, arith, cond, eqb, false, get_or}
use Rattle.std.specs.Int.{w64}
use Rattle.std.proofs.lemmas.Int.{to_z-of_z}
use Rattle.std.proofs.lemmas.Bool.{ne_eqb}
use Rattle.tags.specs.declared.value.Value.TheVariants.{Int, Fault}
use Rattle.tags.specs.declared.value.FaultKind.TheVariants.{Zero, Range}
use Rattle.tags.specs.declared.value.Origin.{Origin}
use Rattle.tags.specs.declared.value.Origin.TheVariants.{Untold, At}
use Rattle.tags.specs.declared.token.Port.{Port}
use Rattle.tags.specs.declared.token.Port.TheVariants as port
use Rattle.tags.specs.declared.token.Cont.{Cont}
use Rattle.tags.specs.declared.token.Word.{Word}
use Rattle.tags.specs.declared.slot.SlotState.{SlotState}
use Rattle.tags.specs.declared.slot.SlotState.TheVariants.{Empty, Left, Right, Credits, Waiter, Draining}
use Rattle.tags.specs.Packed.{origin_code, IsOrigin}
use Rattle.packed.specs.Packing.{Parts, port_bit, cont_parts, word_parts, count_parts, slot_words, port_from, origin_from, cont_from, word_from}
use Rattle.packed.specs.Packing.{parts_from, state_from, slot_from, IsCont, IsWord, IsSlotState}

port_back : (p : Port) → port_from (port_bit p) ≡ p
port_back port.Left = refl
port_back port.Right = refl

pub origin_back : (o : Origin) → IsOrigin o → origin_from (origin_code o) ≡ o
origin_back Untold h = refl
origin_back (At b n) h =
    let test : eqb (1 + 1024 * b + n) 0 ≡ false = ne_eqb (1 + 1024 * b + n) 0 (λ e. absurd (omega arith)) in
    let eb : (1 + 1024 * b + n - 1) / 1024 % 256 ≡ b = omega (arith, h.0, h.1) in
    let en : (1 + 1024 * b + n - 1) % 1024 ≡ n = omega (arith, h.0, h.1) in
    ap (λ t. cond t Untold (At ((1 + 1024 * b + n - 1) / 1024 % 256) ((1 + 1024 * b + n - 1) % 1024))) test
    ∙ ap (λ x. At x ((1 + 1024 * b + n - 1) % 1024)) eb ∙ ap (λ y. At b y) en

cont_back : (c : Cont) → IsCont c → cont_from (cont_parts c) ≡ c
cont_back (Cont.Frame f ip p) h =
    let e : f % 4294967296 ≡ f = omega (arith, h.0) in
    ap (λ x. Cont.Frame x ip (port_from (port_bit p))) e ∙ ap (λ x. Cont.Frame f ip x) (port_back p)
cont_back (Cont.Host p) h = refl

pub word_back : (w : Word) → IsWord w → word_from (word_parts w) ≡ w
word_back (Word.Val (Int z)) h = ap (λ x. Word.Val (Int x)) (to_z-of_z w64 z h)
word_back (Word.Val (Fault Zero o)) h = ap (λ x. Word.Val (Fault Zero x)) (origin_back o h)
word_back (Word.Val (Fault Range o)) h = ap (λ x. Word.Val (Fault Range x)) (origin_back o h)
word_back (Word.Frame f) h = let e : f % 4294967296 ≡ f = omega arith in ap Word.Frame e
word_back (Word.Back (Cont.Frame f ip p)) h = ap Word.Back (cont_back (Cont.Frame f ip p) h)
word_back (Word.Back (Cont.Host p)) h = refl

-- the fields of word 0
pub record IsSmall (p : Parts) : Type 0 where
  pub kind : p.kind < 256
  pub port : p.port < 2

abbrev make : ℕ → ℕ → ℕ → ℕ → Parts
make body k q h = record { kind = k; port = q; high = h; body = body }

fields_back : (s : ℕ) (p : Parts) → s < 256 → IsSmall p → slot_from (s + 256 * p.kind + 65536 * p.port + 4294967296 * p.high) p.body ≡ state_from s p
fields_back s p hs small =
    let hk = small.kind in
    let hp = small.port in
    let es : (s + 256 * p.kind + 65536 * p.port + 4294967296 * p.high) % 256 ≡ s = omega arith in
    let ek : (s + 256 * p.kind + 65536 * p.port + 4294967296 * p.high) / 256 % 256 ≡ p.kind = omega arith in
    let ep : (s + 256 * p.kind + 65536 * p.port + 4294967296 * p.high) / 65536 % 2 ≡ p.port = omega arith in
    let eh : (s + 256 * p.kind + 65536 * p.port + 4294967296 * p.high) / 4294967296 ≡ p.high = omega arith in
    let parts : parts_from (s + 256 * p.kind + 65536 * p.port + 4294967296 * p.high) p.body ≡ p =
    ap (λ x. make p.body x ((s + 256 * p.kind + 65536 * p.port + 4294967296 * p.high) / 65536 % 2)
    ((s + 256 * p.kind + 65536 * p.port + 4294967296 * p.high) / 4294967296)) ek
    ∙ ap (λ x. make p.body p.kind x ((s + 256 * p.kind + 65536 * p.port + 4294967296 * p.high) / 4294967296)) ep
    ∙ ap (λ x. make p.body p.kind p.port x) eh in
    ap (λ x. state_from x (parts_from (s + 256 * p.kind + 65536 * p.port + 4294967296 * p.high) p.body)) es ∙ ap (state_from s) parts

small_cont : (c : Cont) → IsSmall (cont_parts c)
small_cont (Cont.Frame f ip port.Left) = record { kind = omega arith; port = omega arith }
small_cont (Cont.Frame f ip port.Right) = record { kind = omega arith; port = omega arith }
small_cont (Cont.Host p) = record { kind = omega arith; port = omega arith }

pub small_word : (w : Word) → IsSmall (word_parts w)
small_word (Word.Val (Int z)) = record { kind = omega arith; port = omega arith }
small_word (Word.Val (Fault Zero o)) = record { kind = omega arith; port = omega arith }
small_word (Word.Val (Fault Range o)) = record { kind = omega arith; port = omega arith }
small_word (Word.Frame f) = record { kind = omega arith; port = omega arith }
small_word (Word.Back c) = small_cont c

small_count : (n : ℕ) → IsSmall (count_parts n)
small_count n = record { kind = omega arith; port = omega arith }

abbrev pub first_word : List ℕ → ℕ
first_word ws = get_or ws 0 0

abbrev pub second_word : List ℕ → ℕ
second_word ws = get_or ws 1 0

pub slot_back : (s : SlotState) → IsSlotState s → slot_from (first_word (slot_words s)) (second_word (slot_words s)) ≡ s
slot_back Empty h = refl
slot_back (Left w) h = fields_back 1 (word_parts w) (omega arith) (small_word w) ∙ ap Left (word_back w h)
slot_back (Right w) h = fields_back 2 (word_parts w) (omega arith) (small_word w) ∙ ap Right (word_back w h)
slot_back (Credits n) h = fields_back 3 (count_parts n) (omega arith) (small_count n) ∙ ap Credits (low n h) where
  low : (m : ℕ) → m < 4294967296 → m % 4294967296 ≡ m
  low m l = omega arith
slot_back (Waiter c) h = fields_back 4 (cont_parts c) (omega arith) (small_cont c) ∙ ap Waiter (cont_back c h)
slot_back (Draining n) h = fields_back 5 (count_parts n) (omega arith) (small_count n) ∙ ap Draining (low n h) where
  low : (m : ℕ) → m < 4294967296 → m % 4294967296 ≡ m
  low m l = omega arith

pub packing_exact : (s t : SlotState) → IsSlotState s → IsSlotState t → slot_words s ≡ slot_words t → s ≡ t
packing_exact s t hs ht e = sym (slot_back s hs) ∙ ap (λ ws. slot_from (first_word ws) (second_word ws)) e ∙ slot_back t ht

two_words : (s : SlotState) → slot_words s ≡ first_word (slot_words s) ∷ second_word (slot_words s) ∷ []
two_words Empty = refl
two_words (Left w) = refl
two_words (Right w) = refl
two_words (Credits n) = refl
two_words (Waiter c) = refl
two_words (Draining n) = refl

-- a slot that was set to a state stands for it, and its words are those of the state
pub set_state : (ws : List ℕ) (s : SlotState) → ws ≡ slot_words s → IsSlotState s → slot_from (get_or ws 0 0) (get_or ws 1 0) ≡ s
set_state ws s e h = ap (λ xs. slot_from (first_word xs) (second_word xs)) e ∙ slot_back s h

pub set_words : (ws : List ℕ) (s : SlotState) → ws ≡ slot_words s → IsSlotState s → slot_words (slot_from (get_or ws 0 0) (get_or ws 1 0))
    ≡ get_or ws 0 0 ∷ get_or ws 1 0 ∷ []
set_words ws s e h = ap slot_words (set_state ws s e h) ∙ two_words s ∙ ap (λ xs. first_word xs ∷ second_word xs ∷ []) (sym e)
