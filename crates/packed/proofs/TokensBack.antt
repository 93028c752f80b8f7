-- A token that was packed is what is unpacked.
use Rattle.std.proofs.Common.{◌≡◌, ℕ, ◌+◌, ◌*◌, ◌/◌, ◌%◌, ◌<◌, List, [], ◌∷◌, sym, ap, ◌∙◌, refl, arith, get_or, subst}
use Rattle.std.specs.Int.{w64}
use Rattle.std.proofs.lemmas.Int.{to_z-of_z}
use Rattle.tags.specs.declared.value.Value.{Value}
use Rattle.tags.specs.declared.value.Value.TheVariants.{Int, Fault}
use Rattle.tags.specs.declared.value.FaultKind.TheVariants.{Zero, Range}
use Rattle.tags.specs.declared.token.Port.{Port}
use Rattle.tags.specs.declared.token.Port.TheVariants as port
use Rattle.tags.specs.declared.token.Word.{Word}
use Rattle.tags.specs.declared.token.To.{To}
use Rattle.tags.specs.declared.token.Token.{Token}
use Rattle.tags.specs.declared.slot.SlotState.TheVariants.{Left, Right}
use Rattle.tags.specs.Packed.{IsValue}
use Rattle.packed.specs.Packing.{Parts, head_of, word_parts, word_from, parts_from, state_from, slot_from, slot_words, IsWord}
use Rattle.packed.specs.PackedTokens.{port_state, elsewhere, to_state, to_place, to_value, token_words, value_from, to_from, token_from, word_in}
use Rattle.packed.specs.PackedTokens.{waits_as, IsTo, IsToken, IsForInstr, AreWordsOf, AreTokenWordsOf, AreWords, TokenPackingIsExact}
use Rattle.packed.proofs.Unpacked.{IsSmall, small_word, word_back, origin_back}

-- THE FIELDS OF WORD 0
abbrev fields : ℕ → ℕ → ℕ → ℕ → Parts
fields y k q h = record { kind = k; port = q; high = h; body = y }

pub state_back : (s : ℕ) (p : Parts) → s < 256 → head_of s p % 256 ≡ s
state_back s p hs = omega arith

pub parts_back : (s : ℕ) (p : Parts) (y : ℕ) → s < 256 → IsSmall p → parts_from (head_of s p) y ≡ fields y p.kind p.port p.high
parts_back s p y hs small =
    let hk = small.kind in
    let hp = small.port in
    let ek : head_of s p / 256 % 256 ≡ p.kind = omega arith in
    let ep : head_of s p / 65536 % 2 ≡ p.port = omega arith in
    let eh : head_of s p / 4294967296 ≡ p.high = omega arith in
    ap (λ x. fields y x (head_of s p / 65536 % 2) (head_of s p / 4294967296)) ek
    ∙ ap (λ x. fields y p.kind x (head_of s p / 4294967296)) ep
    ∙ ap (λ x. fields y p.kind p.port x) eh

-- what is in bits 0 to 7 says nothing of the word
pub cleared_parts : (x y : ℕ) → parts_from (x / 256 * 256) y ≡ parts_from x y
cleared_parts x y =
    let ek : x / 256 * 256 / 256 % 256 ≡ x / 256 % 256 = omega arith in
    let ep : x / 256 * 256 / 65536 % 2 ≡ x / 65536 % 2 = omega arith in
    let eh : x / 256 * 256 / 4294967296 ≡ x / 4294967296 = omega arith in
    ap (λ k. fields y k (x / 256 * 256 / 65536 % 2) (x / 256 * 256 / 4294967296)) ek
    ∙ ap (λ k. fields y (x / 256 % 256) k (x / 256 * 256 / 4294967296)) ep
    ∙ ap (λ k. fields y (x / 256 % 256) (x / 65536 % 2) k) eh

pub raised_parts : (x s y : ℕ) → x % 256 ≡ 0 → s < 256 → parts_from (x + s) y ≡ parts_from x y
raised_parts x s y even hs =
    let ek : (x + s) / 256 % 256 ≡ x / 256 % 256 = omega arith in
    let ep : (x + s) / 65536 % 2 ≡ x / 65536 % 2 = omega arith in
    let eh : (x + s) / 4294967296 ≡ x / 4294967296 = omega arith in
    ap (λ k. fields y k ((x + s) / 65536 % 2) ((x + s) / 4294967296)) ek
    ∙ ap (λ k. fields y (x / 256 % 256) k ((x + s) / 4294967296)) ep
    ∙ ap (λ k. fields y (x / 256 % 256) (x / 65536 % 2) k) eh

-- WORDS
pub word_in_words : (s : ℕ) (w : Word) (x y : ℕ) → s < 256 → IsWord w → AreWordsOf s w x y → word_in x y ≡ w
word_in_words s w x y hs hw are =
    ap (λ k. word_in k y) are.head ∙ ap (λ k. word_in (head_of s (word_parts w)) k) are.body
    ∙ ap word_from (parts_back s (word_parts w) (word_parts w).body hs (small_word w)) ∙ word_back w hw

-- the words of a word that was packed, with a number in bits 0 to 7, stand for it
pub words_of_packed : (s : ℕ) (w : Word) (x y : ℕ) → s < 256 → IsWord w → AreWordsOf s w x y → AreWordsOf s (word_in x y) x y
words_of_packed s w x y hs hw are = subst (λ v. AreWordsOf s v x y) (sym (word_in_words s w x y hs hw are)) are

pub words_cleared : (x y : ℕ) → AreWords x y → AreWordsOf 0 (word_in (x / 256 * 256) y) (x / 256 * 256) y
words_cleared x y are =
    let w : Word = word_in x y in
    let eh : x ≡ head_of are.state (word_parts w) = are.words.head in
    let small = are.below in
    let cleared : x / 256 * 256 ≡ head_of 0 (word_parts w) = omega arith in
    let of_w : AreWordsOf 0 w (x / 256 * 256) y = record { head = cleared; body = are.words.body } in
    subst (λ v. AreWordsOf 0 v (x / 256 * 256) y) (sym (ap word_from (cleared_parts x y))) of_w

pub words_raised : (s : ℕ) (w : Word) (x y : ℕ) → s < 256 → word_in x y ≡ w → AreWordsOf 0 (word_in x y) x y → AreWordsOf s w (x + s) y
    × (word_in (x + s) y ≡ w)
words_raised s w x y hs is are =
    let of_w : AreWordsOf 0 w x y = subst (λ v. AreWordsOf 0 v x y) is are in
    let eh : x ≡ head_of 0 (word_parts w) = of_w.head in
    (record { head = omega arith; body = of_w.body }, ap word_from (raised_parts x s y (omega arith) hs) ∙ is)

-- ADDRESSES
small_state : (to : To) → to_state to < 256
small_state (To.Instr f ip port.Left) = omega arith
small_state (To.Instr f ip port.Right) = omega arith
small_state (To.Fetch x) = omega arith
small_state (To.Store x v) = omega arith
small_state To.Manager = omega arith
small_state (To.Release f) = omega arith
small_state (To.Host p) = omega arith

value_back : (v : Value) → IsValue v → value_from (word_parts (Word.Val v)).kind (word_parts (Word.Val v)).body ≡ v
value_back (Int z) h = ap Int (to_z-of_z w64 z h)
value_back (Fault Zero o) h = ap (Fault Zero) (origin_back o h)
value_back (Fault Range o) h = ap (Fault Range) (origin_back o h)

low : (x k : ℕ) → x < 4294967296 → (x + 4294967296 * k) % 4294967296 ≡ x
low x k h = omega arith

high : (x k : ℕ) → x < 4294967296 → (x + 4294967296 * k) / 4294967296 ≡ k
high x k h = omega arith

pub instr_back : (f ip v : ℕ) (p : Port) → ip < 4294967296 → to_from (port_state p) (ip + 4294967296 * f) v ≡ To.Instr f ip p
instr_back f ip v port.Left h = ap (λ k. To.Instr k ((ip + 4294967296 * f) % 4294967296) port.Left) (high ip f h)
    ∙ ap (λ k. To.Instr f k port.Left) (low ip f h)
instr_back f ip v port.Right h = ap (λ k. To.Instr k ((ip + 4294967296 * f) % 4294967296) port.Right) (high ip f h)
    ∙ ap (λ k. To.Instr f k port.Right) (low ip f h)

far : (x k : ℕ) → k < 2147483648 → (elsewhere x + k) / 4294967296 ≡ x
far x k h = omega arith

near : (x k : ℕ) → k < 2147483648 → (elsewhere x + k) % 2147483648 ≡ k
near x k h = omega arith

same : (x : ℕ) → elsewhere x / 4294967296 ≡ x
same x = omega arith

to_back : (to : To) → IsTo to → to_from (to_state to) (to_place to) (to_value to) ≡ to
to_back (To.Instr f ip p) h = instr_back f ip 0 p h.1
to_back (To.Fetch x) h = ap To.Fetch (same x)
to_back (To.Store x v) h =
    let k : ℕ = (word_parts (Word.Val v)).kind in
    let y : ℕ = (word_parts (Word.Val v)).body in
    let small : k < 256 = (small_word (Word.Val v)).kind in
    let less : k < 2147483648 = omega arith in
    ap (λ j. To.Store j (value_from ((elsewhere x + k) % 2147483648) y)) (far x k less)
    ∙ ap (λ j. To.Store x (value_from j y)) (near x k less) ∙ ap (To.Store x) (value_back v h.1)
to_back To.Manager h = refl
to_back (To.Release f) h = ap To.Release (same f)
to_back (To.Host p) h = ap To.Host (same p)

-- TOKENS
abbrev token_at : To → Word → Token
token_at to w = record { to = to; word = w }

pub token_back : (t : Token) (x y p v : ℕ) → IsToken t → AreTokenWordsOf t x y p v → token_from x y p v ≡ t
token_back t x y p v is are =
    let words : AreWordsOf (to_state t.to) t.word x y = record { head = are.head; body = are.body } in
    let est : x % 256 ≡ to_state t.to = ap (λ k. k % 256) are.head ∙ state_back (to_state t.to) (word_parts t.word) (small_state t.to) in
    ap (λ w. token_at (to_from (x % 256) p v) w) (word_in_words (to_state t.to) t.word x y (small_state t.to) is.word words)
    ∙ ap (λ s. token_at (to_from s p v) t.word) est ∙ ap (λ q. token_at (to_from (to_state t.to) q v) t.word) are.place
    ∙ ap (λ q. token_at (to_from (to_state t.to) (to_place t.to) q) t.word) are.value ∙ ap (λ to. token_at to t.word) (to_back t.to is.to)

pub token_words_back : (t : Token) (x y p v : ℕ) → token_from x y p v ≡ t → AreTokenWordsOf t x y p v → AreTokenWordsOf (token_from x y p v) x y p v
token_words_back t x y p v is are = subst (λ u. AreTokenWordsOf u x y p v) (sym is) are

pub instr_token : (f ip x y : ℕ) (p : Port) (w : Word) → ip < 4294967296 → AreWordsOf (port_state p) w x y → word_in x y ≡ w
    → token_from x y (ip + 4294967296 * f) 0 ≡ token_at (To.Instr f ip p) w
instr_token f ip x y p w h are is =
    let est : x % 256 ≡ port_state p = ap (λ k. k % 256) are.head ∙ state_back (port_state p) (word_parts w) (small_state (To.Instr f ip p)) in
    ap (λ u. token_at (to_from (x % 256) (ip + 4294967296 * f) 0) u) is
    ∙ ap (λ s. token_at (to_from s (ip + 4294967296 * f) 0) w) est ∙ ap (λ to. token_at to w) (instr_back f ip 0 p h)

pub instr_words : (f ip x y : ℕ) (p : Port) (w : Word) → AreWordsOf (port_state p) w x y → AreTokenWordsOf (token_at (To.Instr f ip p) w) x y
    (ip + 4294967296 * f) 0
instr_words f ip x y p w are = record { head = are.head; body = are.body; place = refl; value = refl }

pub token_has_words : (x y p v : ℕ) → AreTokenWordsOf (token_from x y p v) x y p v → AreWords x y
token_has_words x y p v are = record {
  state = to_state (token_from x y p v).to;
  below = small_state (token_from x y p v).to;
  words = record { head = are.head; body = are.body };
}

-- a token for an instruction has the words of the slot in which it waits
pub waits_there : (x y p v : ℕ) (to : To) (w : Word) → token_from x y p v ≡ token_at to w → AreTokenWordsOf (token_at to w) x y p v → IsForInstr to
    → slot_from x y ≡ waits_as to w
waits_there x y p v (To.Instr f ip port.Left) w is are h =
    let est : x % 256 ≡ 1 = ap (λ k. k % 256) are.head ∙ state_back 1 (word_parts w) (omega arith) in
    ap (λ s. state_from s (parts_from x y)) est ∙ ap (λ (t : Token). Left t.word) is
waits_there x y p v (To.Instr f ip port.Right) w is are h =
    let est : x % 256 ≡ 2 = ap (λ k. k % 256) are.head ∙ state_back 2 (word_parts w) (omega arith) in
    ap (λ s. state_from s (parts_from x y)) est ∙ ap (λ (t : Token). Right t.word) is
waits_there x y p v (To.Fetch _) w is are h = elim h [ ]
waits_there x y p v (To.Store _ _) w is are h = elim h [ ]
waits_there x y p v To.Manager w is are h = elim h [ ]
waits_there x y p v (To.Release _) w is are h = elim h [ ]
waits_there x y p v (To.Host _) w is are h = elim h [ ]

pub waits_in_words : (x y p v : ℕ) (to : To) (w : Word) → AreTokenWordsOf (token_at to w) x y p v → IsForInstr to → slot_words (waits_as to w) ≡ x ∷ y ∷ []
waits_in_words x y p v (To.Instr f ip port.Left) w are h = ap (λ k. k ∷ (word_parts w).body ∷ []) (sym are.head) ∙ ap (λ k. x ∷ k ∷ []) (sym are.body)
waits_in_words x y p v (To.Instr f ip port.Right) w are h = ap (λ k. k ∷ (word_parts w).body ∷ []) (sym are.head) ∙ ap (λ k. x ∷ k ∷ []) (sym are.body)
waits_in_words x y p v (To.Fetch _) w are h = elim h [ ]
waits_in_words x y p v (To.Store _ _) w are h = elim h [ ]
waits_in_words x y p v To.Manager w are h = elim h [ ]
waits_in_words x y p v (To.Release _) w are h = elim h [ ]
waits_in_words x y p v (To.Host _) w are h = elim h [ ]

abbrev nth : ℕ → List ℕ → ℕ
nth k ws = get_or ws k 0

own_words : (t : Token) → AreTokenWordsOf t (nth 0 (token_words t)) (nth 1 (token_words t)) (nth 2 (token_words t)) (nth 3 (token_words t))
own_words t = record { head = refl; body = refl; place = refl; value = refl }

abbrev from_list : List ℕ → Token
from_list ws = token_from (nth 0 ws) (nth 1 ws) (nth 2 ws) (nth 3 ws)

pub token_packing_exact : TokenPackingIsExact
token_packing_exact s t hs ht e = sym (token_back s _ _ _ _ hs (own_words s)) ∙ ap from_list e ∙ token_back t _ _ _ _ ht (own_words t)

-- WHERE A TOKEN GOES, READ FROM ITS WORDS
state_in : (x y p v : ℕ) → AreTokenWordsOf (token_from x y p v) x y p v → x % 256 ≡ to_state (token_from x y p v).to
state_in x y p v are = ap (λ k. k % 256) are.head ∙ state_back (to_state (token_from x y p v).to) (word_parts (token_from x y p v).word)
    (small_state (token_from x y p v).to)

framed : (to : To) (s p v : ℕ) → to_from s p v ≡ to → s ≡ to_state to → s < 3 → (ip : ℕ) × (q : Port) × (to ≡ To.Instr (p / 4294967296) ip q)
framed (To.Instr f ip port.Left) s p v is e below = (p % 4294967296, port.Left, sym is ∙ ap (λ k. to_from k p v) e)
framed (To.Instr f ip port.Right) s p v is e below = (p % 4294967296, port.Right, sym is ∙ ap (λ k. to_from k p v) e)
framed (To.Fetch x) s p v is e below = absurd (omega arith)
framed (To.Store x w) s p v is e below = absurd (omega arith)
framed To.Manager s p v is e below = absurd (omega arith)
framed (To.Release f) s p v is e below = absurd (omega arith)
framed (To.Host q) s p v is e below = absurd (omega arith)

-- the states of the two ports are the lowest, so a token whose state is below 3 goes to an instruction
pub low_is_instr : (x y p v : ℕ) → AreTokenWordsOf (token_from x y p v) x y p v → x % 256 < 3 → (ip : ℕ) × (q : Port)
    × ((token_from x y p v).to ≡ To.Instr (p / 4294967296) ip q)
low_is_instr x y p v are below = framed (token_from x y p v).to (x % 256) p v refl (state_in x y p v are) below
