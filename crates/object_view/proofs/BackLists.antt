-- The words of lawful code are where they are looked for.
use Rattle.std.proofs.Common.{◌≡◌, ℕ, zero, suc, ◌+◌, ◌*◌, ◌^◌, ◌<◌, ◌≤◌, List, [], ◌∷◌, ◌++◌, length, map, Some, ℤ, refl, sym, ap, subst, ◌∙◌}
use Rattle.std.proofs.Common.{append_assoc, arith, ◌⊎◌, inl, inr}
use Rattle.std.specs.Prelude.{flat_map, slice_get, All, FitsSigned}
use Rattle.std.specs.Int.{w64, cast_unsigned}
use mir.ValLaws as laws
use Rattle.lemmas.proofs.Alls.{all_at}
use Rattle.semantics.specs.declared.program.Dest.{Dest}
use Rattle.semantics.specs.Program.{Instr, CodeBlock, Code}
use Rattle.semantics.specs.Bytes as Bytes
use Rattle.semantics.specs.Bytes.{instr_words, block_word, words_of, origin_code, HasOperand, IsOrigin, IsDest, IsInstr, IsCodeBlock, IsCode}
use Rattle.semantics.specs.declared.program.Op.{Op}
use Rattle.tags.specs.declared.value.Origin.{Origin}
use Rattle.tags.specs.declared.value.Origin.TheVariants.{Untold, At}
use Rattle.object_view.specs.Fields.{count_in, inputs_in, outputs_in, slots_in}
use Rattle.object_view.specs.Reading.{tabulated, instrs_below, instr_place, literal_place, array_place, word_count}
use Rattle.object_view.specs.Checks.{MAGIC}
use Rattle.object_view.proofs.ByteWords.{ReadsTo, reads_length}
use Rattle.object_view.proofs.BackWords.{AreWords, words_append}
use Rattle.object_view.proofs.BackInstr.{HasPlace, HasHalf, operand_room, operand_few, half_few, opcode_few, flag_few, first_parts, word_one, word_two}
use Rattle.object_view.proofs.Each.{below_next}
use Rattle.object_view.proofs.Whole.{dests_few, slot_small}

-- LISTS
pub tabulated_same : {X : Type 0} (f : ℕ → X) (i : ℕ) (xs : List X) → ((k : ℕ) (x : X) → slice_get xs k ≡ Some x → f (i + k) ≡ x)
    → tabulated f i (length xs) ≡ xs
tabulated_same f i [] h = refl
tabulated_same f i (x ∷ xs) h =
    let z : i ≡ i + 0 = omega arith in
    let here : f i ≡ x = ap f z ∙ h 0 x refl in
    let ih = tabulated_same f (i + 1) xs (λ k y p. let e : i + 1 + k ≡ i + suc k = omega arith in ap f e ∙ h (suc k) y p) in
    ap (λ y. y ∷ tabulated f (i + 1) (length xs)) here ∙ ap (λ l. x ∷ l) ih

pub reads_past : (w : ℕ → ℕ) (i : ℕ) (xs rest : List ℕ) (j : ℕ) → ReadsTo w i (xs ++ rest) j → ReadsTo w (i + length xs) rest j
reads_past w i [] rest j r =
    let e : i ≡ i + 0 = omega arith in
    subst (λ (a : ℕ). ReadsTo w a rest j) e r
reads_past w i (x ∷ xs) rest j r =
    let e : i + 1 + length xs ≡ i + length (x ∷ xs) = omega arith in
    subst (λ (a : ℕ). ReadsTo w a rest j) e (reads_past w (i + 1) xs rest j r.1)

pub reads_at : (w : ℕ → ℕ) (i : ℕ) (xs : List ℕ) (j k x : ℕ) → ReadsTo w i xs j → slice_get xs k ≡ Some x → w (i + k) ≡ x
reads_at w i [] j k x r p = absurd cc
reads_at w i (y ∷ xs) j zero x r p =
    let e : i + 0 ≡ i = omega arith in
    let same : y ≡ x = cc in
    ap w e ∙ r.0 ∙ same
reads_at w i (y ∷ xs) j (suc k) x r p =
    let e : i + suc k ≡ i + 1 + k = omega arith in
    ap w e ∙ reads_at w (i + 1) xs j k x r.1 p

pub reads_map : {X : Type 0} (f : X → ℕ) (w : ℕ → ℕ) (i : ℕ) (xs : List X) (rest : List ℕ) (j k : ℕ) (x : X) → ReadsTo w i (map f xs ++ rest) j
    → slice_get xs k ≡ Some x → w (i + k) ≡ f x
reads_map f w i [] rest j k x r p = absurd cc
reads_map {X} f w i (y ∷ xs) rest j zero x r p =
    let e : i + 0 ≡ i = omega arith in
    let same : y ≡ x = cc in
    ap w e ∙ r.0 ∙ ap f same
reads_map f w i (y ∷ xs) rest j (suc k) x r p =
    let e : i + suc k ≡ i + 1 + k = omega arith in
    ap w e ∙ reads_map f w (i + 1) xs rest j k x r.1 p

pub length_mapped : {X : Type 0} (f : X → ℕ) (xs : List X) → length (map f xs) ≡ length xs
length_mapped f [] = refl
length_mapped f (x ∷ xs) = ap (λ k. suc k) (length_mapped f xs)

pub words_map : {X : Type 0} (f : X → ℕ) (xs : List X) → ((k : ℕ) (x : X) → slice_get xs k ≡ Some x → f x < 2 ^ 64) → AreWords (map f xs)
words_map f [] h = tt
words_map f (x ∷ xs) h = (h 0 x refl, words_map f xs (λ k y p. h (suc k) y p))

pub words_tabulated : (xs : List ℕ) → ((k : ℕ) (x : ℕ) → slice_get xs k ≡ Some x → x < 2 ^ 64) → AreWords xs
words_tabulated [] h = tt
words_tabulated (x ∷ xs) h = (h 0 x refl, words_tabulated xs (λ k y p. h (suc k) y p))

pub words_flat : {X : Type 0} (f : X → List ℕ) (xs : List X) → ((k : ℕ) (x : X) → slice_get xs k ≡ Some x → AreWords (f x)) → AreWords (flat_map f xs)
words_flat f [] h = tt
words_flat f (x ∷ xs) h = words_append (f x) (flat_map f xs) (h 0 x refl) (words_flat f xs (λ k y p. h (suc k) y p))

-- WHAT LAWFUL CODE HAS ROOM FOR
half_there : (b : CodeBlock) (n : ℕ) (ds : List Dest) → length ds ≤ 1 → length b.instrs ≤ 32768 → All (IsDest b n) ds → HasHalf ds
half_there b n [] h k all = tt
half_there b n (d ∷ []) h k all =
    let one : IsDest b n d = all 0 d (omega arith) in
    (one.later, omega (arith, one.inside), refl)
half_there b n (d ∷ e ∷ ds) h k all = absurd (omega arith)

pub block_there : (v : ℕ) (c : Code) (k : ℕ) (b : CodeBlock) → IsCode v c → slice_get c.program.blocks k ≡ Some b → IsCodeBlock v c b
block_there v c k b is at = all_at (IsCodeBlock v c) c.program.blocks k b is.blocks at

pub place_there : (v : ℕ) (c : Code) (b : CodeBlock) (n : ℕ) (i : Instr) → IsCode v c → IsCodeBlock v c b → slice_get b.instrs n ≡ Some i → HasPlace v c i
place_there v c b n i is ok at =
    let it : IsInstr v c b n i = ok.instrs n i at in
    let d = dests_few i.op i.firsts i.seconds it.dests in
    record {
      operand = it.operand;
      room = operand_room v c i.op is it.operand;
      origin = it.origin;
      slot = slot_small b i i.op it.slot ok.slots;
      firsts = half_there b n i.firsts d.0 ok.size.1 it.firsts;
      seconds = half_there b n i.seconds d.1 ok.size.1 it.seconds;
    }

pub record EntryParts (x n i o s : ℕ) : Type 0 where
  pub count : count_in x ≡ n
  pub inputs : inputs_in x ≡ i
  pub outputs : outputs_in x ≡ o
  pub slots : slots_in x ≡ s
  pub few : x < 2 ^ 64

entry_parts : (n i o s : ℕ) → n < 2 ^ 32 → i < 2 ^ 8 → o < 2 ^ 8 → s < 2 ^ 16 → EntryParts (n + 2 ^ 32 * i + 2 ^ 40 * o + 2 ^ 48 * s) n i o s
entry_parts n i o s p q r t = record {
  count = omega (arith, p);
  inputs = omega (arith, p, q);
  outputs = omega (arith, p, q, r);
  slots = omega
      (arith, p, q, r);
  few = omega (arith, p, q, r, t);
}

pub entry_back : (v : ℕ) (c : Code) (b : CodeBlock) → IsCodeBlock v c b → EntryParts (block_word b) (length b.instrs) b.inputs b.outputs b.slots
entry_back v c b ok = entry_parts (length b.instrs) b.inputs b.outputs b.slots (omega (arith, ok.size.1)) (omega (arith, ok.inputs.1))
    (omega (arith, ok.outputs.1)) (omega (arith, ok.slots))

pub origin_few : (v : ℕ) (op : Op) (o : Origin) → IsOrigin v op o → origin_code o ≤ 262144
origin_few v op Untold h = omega arith
origin_few v op (At b n) h = omega (arith, h.2, h.3)

instr_fits : (v : ℕ) (c : Code) (i : Instr) → IsCode v c → HasPlace v c i → AreWords (instr_words c.literals i)
instr_fits v c i is p =
    let ls = c.literals in
    let parts = first_parts (Bytes.head_of ls i.op).opcode (Bytes.head_of ls i.op).flag i.slot (Bytes.dest_word i.firsts) (Bytes.dest_word i.seconds)
    (opcode_few ls i.op) (flag_few ls i.op) p.slot (half_few i.firsts p.firsts) (half_few i.seconds p.seconds) in
    (parts.5, (omega (arith, operand_few ls i.op is.few_literals p.room, origin_few v i.op i.origin p.origin), tt))

version_few : (v : ℕ) → (v ≡ 1) ⊎ (v ≡ 2) → v < 2 ^ 64
version_few v (inl e) = omega (arith, e)
version_few v (inr e) = omega (arith, e)

-- all its words have 64 bits
pub all_words_fit : (v : ℕ) (c : Code) → IsCode v c → AreWords (words_of v c)
all_words_fit v c is =
    let blocks : AreWords (map block_word c.program.blocks) = words_map block_word c.program.blocks
    (λ k b at. (entry_back v c b (block_there v c k b is at)).few) in
    let instrs : AreWords (flat_map (λ (b : CodeBlock). flat_map (instr_words c.literals) b.instrs) c.program.blocks) =
    words_flat (λ (b : CodeBlock). flat_map (instr_words c.literals) b.instrs) c.program.blocks
    (λ k b at. words_flat (instr_words c.literals) b.instrs
    (λ n i there. instr_fits v c i is (place_there v c b n i is (block_there v c k b is at) there))) in
    let literals : AreWords (map (cast_unsigned w64) c.literals) = words_map (cast_unsigned w64) c.literals
    (λ k z at. (laws.of_z_fits w64 z (all_at (λ (x : ℤ). FitsSigned w64 x) c.literals k z is.literals at)).fits) in
    let arrays : AreWords c.program.arrays =
    words_tabulated c.program.arrays (λ k n at. let few =
    all_at (λ (m : ℕ). (1 ≤ m) × (m ≤ 65536)) c.program.arrays k n is.arrays at in omega (arith, few.1)) in
    let tail = words_append (map block_word c.program.blocks) _ blocks (words_append _ _ instrs (words_append _ c.program.arrays literals arrays)) in (
      version_few v is.version_known,
      (
        omega (arith, is.some_block.1),
        (omega (arith, is.few_literals), (omega (arith, is.few_arrays), (omega (arith, is.main, is.some_block.1), tail))),
      ),
    )

-- WHERE THE WORDS ARE
pub record IsRead (v : ℕ) (c : Code) (w : ℕ → ℕ) (j : ℕ) : Type 0 where
  pub magic : w 0 ≡ MAGIC
  pub version : w 1 ≡ v
  pub blocks : w 2 ≡ length c.program.blocks
  pub literals : w 3 ≡ length c.literals
  pub arrays : w 4 ≡ length c.program.arrays
  pub main : w 5 ≡ c.program.main
  pub entry : (k : ℕ) (b : CodeBlock) → slice_get c.program.blocks k ≡ Some b → w (6 + k) ≡ block_word b
  pub instr : (k : ℕ) (b : CodeBlock) → slice_get c.program.blocks k ≡ Some b → (n : ℕ) (i : Instr) → slice_get b.instrs n ≡ Some i
      → (w (instr_place w (instrs_below w k + n)) ≡ word_one c i) × (w (instr_place w (instrs_below w k + n) + 1) ≡ word_two c i)
  pub literal : (k : ℕ) (z : ℤ) → slice_get c.literals k ≡ Some z → w (literal_place w k) ≡ cast_unsigned w64 z
  pub array : (k n : ℕ) → slice_get c.program.arrays k ≡ Some n → w (array_place w k) ≡ n
  pub long : word_count w ≡ j

instr_words_long : (ls : List ℤ) (is : List Instr) → length (flat_map (instr_words ls) is) ≡ 2 * length is
instr_words_long ls [] = refl
instr_words_long ls (i ∷ is) = omega (arith, instr_words_long ls is)

instr_reads : (w : ℕ → ℕ) (c : Code) (is : List Instr) (ip : ℕ) (rest : List ℕ) (j n : ℕ) (i : Instr)
    → ReadsTo w (instr_place w ip) (flat_map (instr_words c.literals) is ++ rest) j → slice_get is n ≡ Some i
    → (w (instr_place w (ip + n)) ≡ word_one c i) × (w (instr_place w (ip + n) + 1) ≡ word_two c i)
instr_reads w c [] ip rest j n i r p = absurd cc
instr_reads w c (h ∷ is) ip rest j zero i r p =
    let same : h ≡ i = cc in
    let e : ip + 0 ≡ ip = omega arith in
    (ap (λ k. w (instr_place w k)) e ∙ r.0 ∙ ap (word_one c) same, ap (λ k. w (instr_place w k + 1)) e ∙ r.1.0 ∙ ap (word_two c) same)
instr_reads w c (h ∷ is) ip rest j (suc n) i r p =
    let next : instr_place w ip + 1 + 1 ≡ instr_place w (ip + 1) = omega arith in
    let e : ip + 1 + n ≡ ip + suc n = omega arith in
    let ih = instr_reads w c is (ip + 1) rest j n i (subst (λ (a : ℕ). ReadsTo w a (flat_map (instr_words c.literals) is ++ rest) j) next r.1.1) p in
    (ap (λ k. w (instr_place w k)) (sym e) ∙ ih.0, ap (λ k. w (instr_place w k + 1)) (sym e) ∙ ih.1)

abbrev words_in : Code → List CodeBlock → List ℕ
words_in c bs = flat_map (λ (b : CodeBlock). flat_map (instr_words c.literals) b.instrs) bs

-- past a block
block_past : (w : ℕ → ℕ) (c : Code) (x : CodeBlock) (bs : List CodeBlock) (b : ℕ) (rest : List ℕ) (j : ℕ) → count_in (w (6 + b)) ≡ length x.instrs
    → ReadsTo w (instr_place w (instrs_below w b)) (words_in c (x ∷ bs) ++ rest) j
    → ReadsTo w (instr_place w (instrs_below w b)) (flat_map (instr_words c.literals) x.instrs ++ (words_in c bs ++ rest)) j
    × ReadsTo w (instr_place w (instrs_below w (b + 1))) (words_in c bs ++ rest) j
block_past w c x bs b rest j n r =
    let here : List ℕ = flat_map (instr_words c.literals) x.instrs in
    let first = subst (λ (l : List ℕ). ReadsTo w (instr_place w (instrs_below w b)) l j) (append_assoc here (words_in c bs) rest) r in
    let to : instr_place w (instrs_below w b) + length here ≡ instr_place w (instrs_below w (b + 1)) = omega
    (arith, instr_words_long c.literals x.instrs, below_next w b, n) in
    (first, subst (λ (a : ℕ). ReadsTo w a (words_in c bs ++ rest) j) to (reads_past w (instr_place w (instrs_below w b)) here (words_in c bs ++ rest) j first))

abbrev IsCounted : (ℕ → ℕ) → ℕ → List CodeBlock → Type 0
IsCounted w b bs = (k : ℕ) (x : CodeBlock) → slice_get bs k ≡ Some x → count_in (w (6 + (b + k))) ≡ length x.instrs

counted_here : (w : ℕ → ℕ) (b : ℕ) (x : CodeBlock) (bs : List CodeBlock) → IsCounted w b (x ∷ bs) → count_in (w (6 + b)) ≡ length x.instrs
counted_here w b x bs h = let e : b ≡ b + 0 = omega arith in ap (λ k. count_in (w (6 + k))) e ∙ h 0 x refl

counted_next : (w : ℕ → ℕ) (b : ℕ) (x : CodeBlock) (bs : List CodeBlock) → IsCounted w b (x ∷ bs) → IsCounted w (b + 1) bs
counted_next w b x bs h = λ k y p. let e : b + 1 + k ≡ b + suc k = omega arith in ap (λ m. count_in (w (6 + m))) e ∙ h (suc k) y p

blocks_past : (w : ℕ → ℕ) (c : Code) (bs : List CodeBlock) (b : ℕ) (rest : List ℕ) (j : ℕ) → IsCounted w b bs
    → ReadsTo w (instr_place w (instrs_below w b)) (words_in c bs ++ rest) j → ReadsTo w (instr_place w (instrs_below w (b + length bs))) rest j
blocks_past w c [] b rest j h r =
    let e : b ≡ b + 0 = omega arith in
    subst (λ (a : ℕ). ReadsTo w (instr_place w (instrs_below w a)) rest j) e r
blocks_past w c (x ∷ bs) b rest j h r =
    let e : b + 1 + length bs ≡ b + length (x ∷ bs) = omega arith in
    let p = block_past w c x bs b rest j (counted_here w b x bs h) r in
    subst (λ (a : ℕ). ReadsTo w (instr_place w (instrs_below w a)) rest j) e (blocks_past w c bs (b + 1) rest j (counted_next w b x bs h) p.1)

block_reads : (w : ℕ → ℕ) (c : Code) (bs : List CodeBlock) (b : ℕ) (rest : List ℕ) (j : ℕ) → IsCounted w b bs
    → ReadsTo w (instr_place w (instrs_below w b)) (words_in c bs ++ rest) j
    → (k : ℕ) (x : CodeBlock) → slice_get bs k ≡ Some x → (n : ℕ) (i : Instr) → slice_get x.instrs n ≡ Some i
    → (w (instr_place w (instrs_below w (b + k) + n)) ≡ word_one c i) × (w (instr_place w (instrs_below w (b + k) + n) + 1) ≡ word_two c i)
block_reads w c [] b rest j h r k x p n i q = absurd cc
block_reads w c (y ∷ bs) b rest j h r zero x p n i q =
    let same : y ≡ x = cc in
    let e : b ≡ b + 0 = omega arith in
    let past = block_past w c y bs b rest j (counted_here w b y bs h) r in
    let at : slice_get y.instrs n ≡ Some i = ap (λ (z : CodeBlock). slice_get z.instrs n) same ∙ q in
    let it = instr_reads w c y.instrs (instrs_below w b) (words_in c bs ++ rest) j n i past.0 at in
    subst (λ (a : ℕ). (w (instr_place w (instrs_below w a + n)) ≡ word_one c i) × (w (instr_place w (instrs_below w a + n) + 1) ≡ word_two c i)) e it
block_reads w c (y ∷ bs) b rest j h r (suc k) x p n i q =
    let e : b + 1 + k ≡ b + suc k = omega arith in
    let past = block_past w c y bs b rest j (counted_here w b y bs h) r in
    let it = block_reads w c bs (b + 1) rest j (counted_next w b y bs h) past.1 k x p n i q in
    subst (λ (a : ℕ). (w (instr_place w (instrs_below w a + n)) ≡ word_one c i) × (w (instr_place w (instrs_below w a + n) + 1) ≡ word_two c i)) e it

pub is_read : (v : ℕ) (c : Code) (w : ℕ → ℕ) (j : ℕ) → IsCode v c → ReadsTo w 0 (MAGIC ∷ words_of v c) j → IsRead v c w j
is_read v c w j is r =
    let bs = c.program.blocks in
    let ws : List ℕ = words_in c bs in
    let ls : List ℕ = map (cast_unsigned w64) c.literals in
    let lens = c.program.arrays in
    let nb = r.1.1.0 in
    let nl = r.1.1.1.0 in
    let na = r.1.1.1.1.0 in
    let six = r.1.1.1.1.1.1 in
    let entry : (k : ℕ) (b : CodeBlock) → slice_get bs k ≡ Some b → w (6 + k) ≡ block_word b = λ k b at. reads_map block_word w 6 bs
    (ws ++ (ls ++ lens)) j k b six at in
    let counted : IsCounted w 0 bs = λ k b at.
    let z : 0 + k ≡ k = omega arith in
    ap (λ m. count_in (w (6 + m))) z ∙ ap count_in (entry k b at) ∙ (entry_back v c b (block_there v c k b is at)).count in
    let to1 : 6 + length (map block_word bs) ≡ instr_place w (instrs_below w 0) = omega (arith, length_mapped block_word bs, nb) in
    let r1 = subst (λ (a : ℕ). ReadsTo w a (ws ++ (ls ++ lens)) j) to1 (reads_past w 6 (map block_word bs) (ws ++ (ls ++ lens)) j six) in
    let all : 0 + length bs ≡ w 2 = omega (arith, nb) in
    let to2 : instr_place w (instrs_below w (0 + length bs)) ≡ literal_place w 0 = omega (arith, ap (instrs_below w) all) in
    let r2 = subst (λ (a : ℕ). ReadsTo w a (ls ++ lens) j) to2 (blocks_past w c bs 0 (ls ++ lens) j counted r1) in
    let to3 : literal_place w 0 + length ls ≡ array_place w 0 = omega (arith, length_mapped (cast_unsigned w64) c.literals, nl) in
    let r3 = subst (λ (a : ℕ). ReadsTo w a lens j) to3 (reads_past w (literal_place w 0) ls lens j r2) in
    record {
      magic = r.0;
      version = r.1.0;
      blocks = nb;
      literals = nl;
      arrays = na;
      main = r.1.1.1.1.1.0;
      entry = entry;
      instr = λ k b at n i there.
          let z : 0 + k ≡ k = omega arith in
          subst (λ (a : ℕ). (w (instr_place w (instrs_below w a + n)) ≡ word_one c i) × (w (instr_place w (instrs_below w a + n) + 1) ≡ word_two c i))
          z (block_reads w c bs 0 (ls ++ lens) j counted r1 k b at n i there);
      literal = λ k z at.
          let e : literal_place w k ≡ literal_place w 0 + k = omega arith in
          ap w e ∙ reads_map (cast_unsigned w64) w (literal_place w 0) c.literals lens j k z r2 at;
      array = λ k n at.
          let e : array_place w k ≡ array_place w 0 + k = omega arith in
          ap w e ∙ reads_at w (array_place w 0) lens j k n r3 at;
      long = omega (arith, reads_length w (array_place w 0) lens j r3, na);
    }
