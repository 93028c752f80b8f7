-- The parts of an object, one after the other.
use Rattle.std.proofs.Common.{◌≡◌, ℕ, ◌<◌, ◌≤◌, List, [], ◌∷◌, ◌++◌, length, map, Option, Err, refl, sym, ap, ◌∙◌, append_assoc, arith, get_or}
use Rattle.std.specs.Prelude.{flat_map, codes, All}
use Rattle.std.specs.Int.{w64, cast_unsigned, to_le_bytes}
use Rattle.std.specs.Io.KnownBytes.{Appends}
use Rattle.std.proofs.lemmas.List.Concat.{flat_map-append}
use Rattle.semantics.specs.declared.program.Dest.{Dest}
use Rattle.semantics.specs.Program.{Instr, CodeBlock, Code}
use Rattle.semantics.specs.declared.program.Op.{Op}
use Rattle.semantics.specs.declared.program.Op.TheVariants.{Apply1, Apply2, Apply2Right, Apply2Left, Lit, Copy, Sync, Switch, Fetch, Store, Frame}
use Rattle.semantics.specs.declared.program.Op.TheVariants.{Link, Send, Return, Ask, Open, Take, Give, Drain, Release}
use Rattle.semantics.specs.Rule.{slot_of}
use Rattle.std.proofs.lemmas.Option.{slice_get-get_or}
use Rattle.semantics.specs.Bytes.{words_of, bytes_of, block_word, instr_words, HasDests, IsSlot, IsDest, IsInstr, IsCodeBlock, IsCode}
use Rattle.object_view.specs.Sending.{upgraded, HasRoom, HasWords, HasEntry, bytes_of_word, bytes_of_header, bytes_of_entry, bytes_of_block, bytes_of_literal}
use Rattle.sink.specs.Sends.{Sends}
use Rattle.sink.proofs.Sent.{sends_same, sends_less, sends_more, sends_other}

flat_map-map : {X Y : Type 0} (f : Y → List ℕ) (g : X → Y) (xs : List X) → flat_map f (map g xs) ≡ flat_map (λ x. f (g x)) xs
flat_map-map f g [] = refl
flat_map-map f g (x ∷ xs) = ap (λ (l : List ℕ). f (g x) ++ l) (flat_map-map f g xs)

flat_map-flat_map : {X Y : Type 0} (f : Y → List ℕ) (g : X → List Y) (xs : List X) → flat_map f (flat_map g xs) ≡ flat_map (λ x. flat_map f (g x)) xs
flat_map-flat_map f g [] = refl
flat_map-flat_map f g (x ∷ xs) = flat_map-append f (g x) (flat_map g xs) ∙ ap (λ (l : List ℕ). flat_map f (g x) ++ l) (flat_map-flat_map f g xs)

flat_map-same : {X : Type 0} (f g : X → List ℕ) (xs : List X) → ((x : X) → f x ≡ g x) → flat_map f xs ≡ flat_map g xs
flat_map-same f g [] h = refl
flat_map-same f g (x ∷ xs) h = ap (λ (l : List ℕ). l ++ flat_map f xs) (h x) ∙ ap (λ (l : List ℕ). g x ++ l) (flat_map-same f g xs h)

abbrev pub entries : Code → List ℕ
entries c = flat_map bytes_of_entry c.program.blocks

abbrev pub instrs : Code → List ℕ
instrs c = flat_map (bytes_of_block c.literals) c.program.blocks

abbrev pub literals : Code → List ℕ
literals c = flat_map bytes_of_literal c.literals

abbrev pub arrays : Code → List ℕ
arrays c = flat_map bytes_of_word c.program.arrays

all_words : (words : List ℕ) → flat_map (to_le_bytes w64) words ≡ flat_map bytes_of_word words
unfolding bytes_of_word
all_words words = refl

blocks_words : (c : Code) → flat_map bytes_of_word (flat_map (λ (b : CodeBlock). flat_map (instr_words c.literals) b.instrs) c.program.blocks) ≡ instrs c
blocks_words c =
    flat_map-flat_map bytes_of_word (λ (b : CodeBlock). flat_map (instr_words c.literals) b.instrs) c.program.blocks
    ∙ flat_map-same (λ (b : CodeBlock). flat_map bytes_of_word (flat_map (instr_words c.literals) b.instrs)) (bytes_of_block c.literals)
    c.program.blocks (λ b. flat_map-flat_map bytes_of_word (instr_words c.literals) b.instrs)

tail_words : (c : Code) → flat_map bytes_of_word (map block_word c.program.blocks
    ++ (flat_map (λ (b : CodeBlock). flat_map (instr_words c.literals) b.instrs) c.program.blocks
    ++ (map (cast_unsigned w64) c.literals ++ c.program.arrays))) ≡ entries c ++ (instrs c ++ (literals c ++ arrays c))
tail_words c =
    let f = bytes_of_word in
    let ws : List ℕ = flat_map (λ (b : CodeBlock). flat_map (instr_words c.literals) b.instrs) c.program.blocks in
    let ls : List ℕ = map (cast_unsigned w64) c.literals in
    let e3 : flat_map f (ls ++ c.program.arrays) ≡ literals c ++ arrays c =
    flat_map-append f ls c.program.arrays ∙ ap (λ (l : List ℕ). l ++ arrays c) (flat_map-map f (cast_unsigned w64) c.literals) in
    let e2 : flat_map f (ws ++ (ls ++ c.program.arrays)) ≡ instrs c ++ (literals c ++ arrays c) =
    flat_map-append f ws (ls ++ c.program.arrays) ∙ ap (λ (l : List ℕ). l ++ flat_map f (ls ++ c.program.arrays)) (blocks_words c)
    ∙ ap (λ (l : List ℕ). instrs c ++ l) e3 in
    flat_map-append f (map block_word c.program.blocks) (ws ++ (ls ++ c.program.arrays))
    ∙ ap (λ (l : List ℕ). l ++ flat_map f (ws ++ (ls ++ c.program.arrays))) (flat_map-map f block_word c.program.blocks)
    ∙ ap (λ (l : List ℕ). entries c ++ l) e2

pub whole : (v : ℕ) (c : Code) → bytes_of v c ≡ bytes_of_header v c ++ (entries c ++ (instrs c ++ (literals c ++ arrays c)))
whole v c =
    let five : List ℕ = v ∷ length c.program.blocks ∷ length c.literals ∷ length c.program.arrays ∷ c.program.main ∷ [] in
    let rest : List ℕ = map block_word c.program.blocks ++ (flat_map (λ (b : CodeBlock). flat_map (instr_words c.literals) b.instrs) c.program.blocks
    ++ (map (cast_unsigned w64) c.literals ++ c.program.arrays)) in
    let all : flat_map (to_le_bytes w64) (words_of v c) ≡ flat_map bytes_of_word five ++ (entries c ++ (instrs c ++ (literals c ++ arrays c))) =
    all_words (five ++ rest) ∙ flat_map-append bytes_of_word five rest ∙ ap (λ (l : List ℕ). flat_map bytes_of_word five ++ l) (tail_words c) in
    ap (λ (l : List ℕ). codes "ETSOBJCT" ++ l) all
    ∙ sym (append_assoc (codes "ETSOBJCT") (flat_map bytes_of_word five) (entries c ++ (instrs c ++ (literals c ++ arrays c))))

-- a fault in the middle: what went out is a beginning
pub stopped : {E : Type 0} (d e : E) (a b c : Option (List ℕ)) (front t rest all : List ℕ) → all ≡ (front ++ t) ++ rest → Appends a b front
    → Sends (Err d) b c t → Sends (Err e) a c all
stopped d e a b c front t rest all k p q =
    sends_same (Err e) a c ((front ++ t) ++ rest) all (sym k)
    (sends_less e a c (front ++ t) rest (sends_more (Err e) a b c front t p (sends_other d e b c t q)))

-- WHAT LAWFUL CODE HAS ROOM FOR
pub dests_few : (op : Op) (ds es : List Dest) → HasDests op ds es → (length ds ≤ 1) × (length es ≤ 1)
dests_few (Apply1 op) ds es h = (omega (arith, h.0, h.1), omega (arith, h.0, h.1))
dests_few (Apply2 op) ds es h = (omega (arith, h.0, h.1), omega (arith, h.0, h.1))
dests_few (Apply2Right op z) ds es h = (omega (arith, h.0, h.1), omega (arith, h.0, h.1))
dests_few (Apply2Left op z) ds es h = (omega (arith, h.0, h.1), omega (arith, h.0, h.1))
dests_few (Lit z) ds es h = (omega (arith, h.0, h.1), omega (arith, h.0, h.1))
dests_few Copy ds es h = (omega (arith, h.0, h.1), omega (arith, h.0, h.1))
dests_few Sync ds es h = (omega (arith, h.0, h.1), omega (arith, h.0, h.1))
dests_few Switch ds es h = (omega (arith, h.0, h.1), omega (arith, h.0, h.1))
dests_few (Fetch a) ds es h = (omega (arith, h.0, h.1), omega (arith, h.0, h.1))
dests_few (Store a) ds es h = (omega (arith, h.0, h.1), omega (arith, h.0, h.1))
dests_few Frame ds es h = (omega (arith, h.0, h.1), omega (arith, h.0, h.1))
dests_few (Link b) ds es h = (omega (arith, h.0), h.2)
dests_few (Send b e) ds es h = (omega (arith, h.0, h.1), omega (arith, h.0, h.1))
dests_few (Return o) ds es h = (omega (arith, h.0, h.1), omega (arith, h.0, h.1))
dests_few (Ask o) ds es h = (omega (arith, h.0, h.1), omega (arith, h.0, h.1))
dests_few (Open k) ds es h = (omega (arith, h.0, h.1), omega (arith, h.0, h.1))
dests_few (Take k) ds es h = (omega (arith, h.0, h.1), omega (arith, h.0, h.1))
dests_few (Give k) ds es h = (omega (arith, h.0, h.1), omega (arith, h.0, h.1))
dests_few (Drain k) ds es h = (omega (arith, h.0, h.1), omega (arith, h.0, h.1))
dests_few (Release o) ds es h = (omega (arith, h.0, h.1), omega (arith, h.0, h.1))

pub slot_small : (c : CodeBlock) (i : Instr) (op : Op) → IsSlot c i (slot_of i op) → c.slots ≤ 512 → i.slot < 65536
slot_small c i (Apply1 op) h few = omega (arith, h, few)
slot_small c i (Apply2 op) h few = omega (arith, h, few)
slot_small c i (Apply2Right op z) h few = omega (arith, h, few)
slot_small c i (Apply2Left op z) h few = omega (arith, h, few)
slot_small c i (Lit z) h few = omega (arith, h, few)
slot_small c i Copy h few = omega (arith, h, few)
slot_small c i Sync h few = omega (arith, h, few)
slot_small c i Switch h few = omega (arith, h, few)
slot_small c i (Fetch a) h few = omega (arith, h, few)
slot_small c i (Store a) h few = omega (arith, h, few)
slot_small c i Frame h few = omega (arith, h, few)
slot_small c i (Link b) h few = omega (arith, h, few)
slot_small c i (Send b e) h few = omega (arith, h, few)
slot_small c i (Return o) h few = omega (arith, h, few)
slot_small c i (Ask o) h few = omega (arith, h, few)
slot_small c i (Open k) h few = omega (arith, h, few)
slot_small c i (Take k) h few = omega (arith, h, few)
slot_small c i (Give k) h few = omega (arith, h, few)
slot_small c i (Drain k) h few = omega (arith, h, few)
slot_small c i (Release o) h few = omega (arith, h, few)

room : (b : CodeBlock) (n : ℕ) (ds : List Dest) → length ds ≤ 1 → length b.instrs ≤ 32768 → All (IsDest b n) ds → HasRoom ds
room b n [] h k all = tt
room b n (d ∷ []) h k all =
    let one : IsDest b n d = all 0 d (omega arith) in
    (omega (arith, one.inside), refl)
room b n (d ∷ e ∷ ds) h k all = absurd (omega arith)

instr_fits : (v : ℕ) (c : Code) (b : CodeBlock) (n : ℕ) (i : Instr) → b.slots ≤ 512 → length b.instrs ≤ 32768 → IsInstr v c b n i → HasWords i
instr_fits v c b n i few long is =
    let d = dests_few i.op i.firsts i.seconds is.dests in
    record { slot = slot_small b i i.op is.slot few; firsts = room b n i.firsts d.0 long is.firsts; seconds = room b n i.seconds d.1 long is.seconds }

pub words_fit : (v : ℕ) (c : Code) → IsCode v c → All (λ (b : CodeBlock). All HasWords b.instrs) c.program.blocks
words_fit v c is = λ k d lt j e le.
    let b : CodeBlock = get_or c.program.blocks k d in
    let ok : IsCodeBlock v c b = is.blocks k d lt in
    instr_fits v c b j (get_or b.instrs j e) ok.slots ok.size.1 (ok.instrs j (get_or b.instrs j e) (slice_get-get_or b.instrs j e le))

pub entries_fit : (v : ℕ) (c : Code) → IsCode v c → All HasEntry c.program.blocks
entries_fit v c is = λ k d lt.
    let ok : IsCodeBlock v c (get_or c.program.blocks k d) = is.blocks k d lt in
    record { inputs = ok.inputs.1; outputs = ok.outputs.1; instrs = ok.size.1; slots = ok.slots }

-- only the version is another one
pub upgraded_same : (v : ℕ) (c : Code) (bytes : List ℕ) → bytes ≡ bytes_of v c → upgraded bytes ≡ bytes_of 2 c
unfolding bytes_of_word
upgraded_same v c bytes e = ap (λ (l : List ℕ). upgraded l) e
