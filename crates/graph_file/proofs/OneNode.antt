-- A node line is what is written of its node, and what is written is read again.
use Rattle.std.proofs.Common.{◌≡◌, ℕ, ◌+◌, ◌&&◌, not, Bool, true, false, cond, List, [], ◌∷◌, ◌++◌, length, map, Ok, Err, refl, sym, ap, subst, ◌∙◌, arith}
use Rattle.std.specs.Prelude.{ok_or}
use Rattle.std.proofs.lemmas.Bool.{lt-ltb, ltb-true, le-leb, eqb-true, eq-eqb, and_parts, not-true}
use Rattle.std.proofs.lemmas.List.{length-append, length-map}
use Rattle.semantics.specs.declared.graph.Region.{Region}
use Rattle.semantics.specs.declared.graph.Kind.{Kind}
use Rattle.semantics.specs.declared.graph.Kind.TheVariants as kinds
use Rattle.semantics.specs.Graph.{Node}
use Rattle.semantics.specs.Text.{region_text, IsWrittenRegion, HasLine, HasNodeLine}
use Rattle.semantics.specs.Versions.{version_number}
use Rattle.semantics.specs.declared.version.Version.{Version}
use Rattle.semantics.specs.declared.version.Version.TheVariants.{One, Two}
use Rattle.graph_file.specs.declared.fault.ReadFaultKind.TheVariants.{BadLine, TooMany}
use Rattle.graph_file.specs.declared.words.Word.{Word}
use Rattle.graph_file.specs.Giving.{◌>>=◌}
use Rattle.graph_file.specs.Fields.{region_of, field_from, sources_from}
use Rattle.graph_file.specs.Words.{word_of, operand_count, has_form, has_room}
use Rattle.graph_file.specs.Nodes.{kind_from, head_from, node_from}
use Rattle.graph_file.proofs.Binds.{bind_ok, ok_is, ok_or_is, guard_ok}
use Rattle.graph_file.proofs.Names.{source_text, region_is, region_again}
use Rattle.graph_file.proofs.Operands.{word_text, IsWordIn, word_is, word_again, word_kind, operand_fields, HasOperands, kind_takes, kind_gives}
use Rattle.graph_file.proofs.Operands.{sources_take, sources_give}

-- the fields of a node's line
abbrev pub node_fields : Node (List ℕ) → List (List ℕ)
node_fields n = region_text n.region ∷ word_text (word_kind n.kind) ∷ (operand_fields n.kind ++ map source_text n.sources)

operands_count : (k : Kind (List ℕ)) → length (operand_fields k) ≡ operand_count (word_kind k)
operands_count (kinds.Lit z) = refl
operands_count (kinds.Apply1 op) = refl
operands_count (kinds.Apply2 op) = refl
operands_count kinds.Cond = refl
operands_count kinds.Enter = refl
operands_count (kinds.Merge k) = refl
operands_count (kinds.Fetch a) = refl
operands_count (kinds.Store a) = refl
operands_count (kinds.Call f) = refl
operands_count (kinds.StrictCall f) = refl
operands_count (kinds.Loop f k) = refl

-- the number of fields after the word fits it
abbrev pub Fits : Kind (List ℕ) → ℕ → Type 0
Fits k n = (has_form (word_kind k) (operand_count (word_kind k) + n) ≡ true) × (has_room (word_kind k) (operand_count (word_kind k) + n) ≡ true)

line_has : (v : Version) (k : Kind (List ℕ)) (n : ℕ) → HasOperands k → IsWordIn (word_kind k) v → Fits k n → HasLine (version_number v) k n
unfolding has_form has_room
line_has v (kinds.Lit z) n h i f = (h, let q = eqb-true (1 + n) (1 + 1) f.0 in omega arith)
line_has v (kinds.Apply1 op) n h i f = let q = eqb-true (0 + n) (0 + 1) f.0 in omega arith
line_has v (kinds.Apply2 op) n h i f = let q = eqb-true (0 + n) (0 + 2) f.0 in omega arith
line_has v kinds.Cond n h i f = let q = eqb-true (0 + n) (0 + 1) f.0 in omega arith
line_has v kinds.Enter n h i f = let q = eqb-true (0 + n) (0 + 1) f.0 in omega arith
line_has v (kinds.Merge k) n h i f = (h, let q = eqb-true (1 + n) (1 + 2) f.0 in omega arith)
line_has v (kinds.Fetch a) n h i f = (h, let q = eqb-true (1 + n) (1 + 1) f.0 in omega arith)
line_has v (kinds.Store a) n h i f = (h, let q = eqb-true (1 + n) (1 + 2) f.0 in omega arith)
line_has v (kinds.Call a) n h i f = (h, let q = ltb-true (1 + n) (1 + 16 + 1) f.1 in omega arith)
line_has One (kinds.StrictCall a) n h i f = absurd i
line_has Two (kinds.StrictCall a) n h i f = (refl, h, let q = ltb-true (1 + n) (1 + 16 + 1) f.1 in omega arith)
line_has v (kinds.Loop a k) n h i f = (h.0, h.1, let q = ltb-true (2 + n) (2 + 16 + 1) f.1 in omega arith)

abbrev pub Parts : Version → Kind (List ℕ) → ℕ → Type 0
Parts v k n = HasOperands k × IsWordIn (word_kind k) v × Fits k n

pub has_line : (v : Version) (k : Kind (List ℕ)) (n : ℕ) → HasLine (version_number v) k n → Parts v k n
unfolding has_form has_room
has_line v (kinds.Lit z) n h = (h.0, tt, (let q = h.1 in eq-eqb (1 + n) (1 + 1) (omega arith), let q = h.1 in lt-ltb (1 + n) (1 + 16 + 1) (omega arith)))
has_line v (kinds.Apply1 op) n h = (tt, tt, (eq-eqb (0 + n) (0 + 1) (omega arith), lt-ltb (0 + n) (0 + 16 + 1) (omega arith)))
has_line v (kinds.Apply2 op) n h = (tt, tt, (eq-eqb (0 + n) (0 + 2) (omega arith), lt-ltb (0 + n) (0 + 16 + 1) (omega arith)))
has_line v kinds.Cond n h = (tt, tt, (eq-eqb (0 + n) (0 + 1) (omega arith), lt-ltb (0 + n) (0 + 16 + 1) (omega arith)))
has_line v kinds.Enter n h = (tt, tt, (eq-eqb (0 + n) (0 + 1) (omega arith), lt-ltb (0 + n) (0 + 16 + 1) (omega arith)))
has_line v (kinds.Merge k) n h = (h.0, tt, (let q = h.1 in eq-eqb (1 + n) (1 + 2) (omega arith), let q = h.1 in lt-ltb (1 + n) (1 + 16 + 1) (omega arith)))
has_line v (kinds.Fetch a) n h = (h.0, tt, (let q = h.1 in eq-eqb (1 + n) (1 + 1) (omega arith), let q = h.1 in lt-ltb (1 + n) (1 + 16 + 1) (omega arith)))
has_line v (kinds.Store a) n h = (h.0, tt, (let q = h.1 in eq-eqb (1 + n) (1 + 2) (omega arith), let q = h.1 in lt-ltb (1 + n) (1 + 16 + 1) (omega arith)))
has_line v (kinds.Call a) n h = (h.0, tt, (let q = h.1 in le-leb 1 (1 + n) (omega arith), let q = h.1 in lt-ltb (1 + n) (1 + 16 + 1) (omega arith)))
has_line One (kinds.StrictCall a) n h = absurd (let q = h.0 in omega arith)
has_line Two (kinds.StrictCall a) n h = (h.1, tt, (let q = h.2 in le-leb 1 (1 + n) (omega arith), let q = h.2 in lt-ltb (1 + n) (1 + 16 + 1) (omega arith)))
has_line v (kinds.Loop a k) n h = ((h.0, h.1), tt, (let q = h.2 in le-leb 2 (2 + n) (omega arith), let q = h.2 in lt-ltb (2 + n) (2 + 16 + 1) (omega arith)))

pub field_is : (fs : List (List ℕ)) (x : List ℕ × List (List ℕ)) → field_from fs ≡ Ok x → fs ≡ x.0 ∷ x.1
unfolding field_from
field_is [] x e = absurd cc
field_is (f ∷ fs) x e = let k = ok_is (f, fs) x e in ap (λ p. p.0 ∷ p.1) k

abbrev HeadIs : Version → List (List ℕ) → Region × Word × List (List ℕ) → Type 0
HeadIs v fs x = (fs ≡ region_text x.0 ∷ word_text x.1 ∷ x.2) × IsWrittenRegion x.0 × IsWordIn x.1 v × (has_form x.1 (length x.2) ≡ true)

head_takes : (v : Version) (fs : List (List ℕ)) (x : Region × Word × List (List ℕ)) → head_from v fs ≡ Ok x → HeadIs v fs x
unfolding head_from
head_takes v fs x e =
    let r = bind_ok (field_from fs) (λ r. ok_or (region_of r.0) BadLine >>= λ region. field_from r.1 >>= λ w. ok_or (word_of v w.0) BadLine >>= λ
    word. cond (has_form word (length w.1)) (Ok (region, word, w.1)) (Err BadLine)) x e in
    let g = bind_ok (ok_or (region_of r.0.0) BadLine) (λ region. field_from r.0.1 >>= λ w. ok_or (word_of v w.0) BadLine >>= λ word. cond
    (has_form word (length w.1)) (Ok (region, word, w.1)) (Err BadLine)) x r.2 in
    let w = bind_ok (field_from r.0.1) (λ w. ok_or (word_of v w.0) BadLine >>= λ word. cond (has_form word (length w.1)) (Ok (g.0, word, w.1))
    (Err BadLine)) x g.2 in
    let o = bind_ok (ok_or (word_of v w.0.0) BadLine) (λ word. cond (has_form word (length w.0.1)) (Ok (g.0, word, w.0.1)) (Err BadLine)) x w.2 in
    let made : Region × Word × List (List ℕ) = (g.0, o.0, w.0.1) in
    let q = guard_ok (has_form o.0 (length w.0.1)) BadLine made x o.2 in
    let one = region_is r.0.0 g.0 (ok_or_is (region_of r.0.0) BadLine g.0 g.1) in
    let two = word_is v w.0.0 o.0 (ok_or_is (word_of v w.0.0) BadLine o.0 o.1) in
    let text : fs ≡ region_text g.0 ∷ word_text o.0 ∷ w.0.1 =
    field_is fs r.0 r.1 ∙ ap (λ (y : List (List ℕ)). r.0.0 ∷ y) (field_is r.0.1 w.0 w.1) ∙ ap (λ (y : List ℕ). y ∷ w.0.0 ∷ w.0.1) one.0
    ∙ ap (λ (y : List ℕ). region_text g.0 ∷ y ∷ w.0.1) two.0 in
    subst (HeadIs v fs) q.1 (text, one.1, two.1, q.0)

head_gives : (v : Version) (r : Region) (w : Word) (fs : List (List ℕ)) → IsWrittenRegion r → IsWordIn w v → has_form w (length fs) ≡ true
    → head_from v (region_text r ∷ word_text w ∷ fs) ≡ Ok (r, w, fs)
unfolding head_from field_from
head_gives v r w fs h i f = rw (region_again r h, word_again w v i, f) refl

abbrev NodeIs : Version → Bool → List (List ℕ) → Node (List ℕ) → Type 0
NodeIs v full fs n = (full ≡ false) × (fs ≡ node_fields n) × HasNodeLine (version_number v) n

pub node_takes : (v : Version) (full : Bool) (fs : List (List ℕ)) (n : Node (List ℕ)) → node_from v full fs ≡ Ok n → NodeIs v full fs n
unfolding node_from
node_takes v full fs n e =
    let hd = bind_ok (head_from v fs) (λ head. cond (not full && has_room head.1 (length head.2)) (Ok head.2) (Err TooMany) >>= λ fields. kind_from
    head.1 fields >>= λ kind. sources_from kind.1 >>= λ sources. Ok record { region = head.0; kind = kind.0; sources = sources }) n e in
    let head = hd.0 in
    let fd = bind_ok (cond (not full && has_room head.1 (length head.2)) (Ok head.2) (Err TooMany))
    (λ fields. kind_from head.1 fields >>= λ kind. sources_from kind.1 >>= λ sources. Ok record
    { region = head.0; kind = kind.0; sources = sources }) n hd.2 in
    let room = guard_ok (not full && has_room head.1 (length head.2)) TooMany head.2 fd.0 fd.1 in
    let kd = bind_ok (kind_from head.1 fd.0) (λ kind. sources_from kind.1 >>= λ sources. Ok record {
      region = head.0;
      kind = kind.0;
      sources = sources;
    }) n fd.2 in
    let kind = kd.0 in
    let sd = bind_ok (sources_from kind.1) (λ sources. Ok record { region = head.0; kind = kind.0; sources = sources }) n kd.2 in
    let made : Node (List ℕ) = record { region = head.0; kind = kind.0; sources = sd.0 } in
    let h = head_takes v fs head hd.1 in
    let k = kind_takes head.1 fd.0 kind kd.1 in
    let s = sources_take kind.1 sd.0 sd.1 in
    let tests = and_parts (not full) (has_room head.1 (length head.2)) room.0 in
    let fields : head.2 ≡ operand_fields kind.0 ++ map source_text sd.0 = room.1 ∙ k.0 ∙ ap (λ (y : List (List ℕ)). operand_fields kind.0 ++ y) s.0 in
    let count : length head.2 ≡ operand_count (word_kind kind.0) + length sd.0 = ap (λ (y : List (List ℕ)). length y) fields
    ∙ length-append (operand_fields kind.0) (map source_text sd.0) ∙ rw (operands_count kind.0, length-map sd.0 source_text) refl in
    let form : has_form (word_kind kind.0) (operand_count (word_kind kind.0) + length sd.0) ≡ true = subst (λ (m : ℕ). has_form (word_kind kind.0) m
    ≡ true) count (subst (λ (w : Word). has_form w (length head.2) ≡ true) (sym k.1) h.3) in
    let has : has_room (word_kind kind.0) (operand_count (word_kind kind.0) + length sd.0) ≡ true = subst (λ (m : ℕ). has_room (word_kind kind.0) m
    ≡ true) count (subst (λ (w : Word). has_room w (length head.2) ≡ true) (sym k.1) tests.1) in
    let version : IsWordIn (word_kind kind.0) v = subst (λ (w : Word). IsWordIn w v) (sym k.1) h.2 in
    let text : fs ≡ node_fields made = h.0 ∙ ap (λ (y : List (List ℕ)). region_text head.0 ∷ word_text head.1 ∷ y) fields
    ∙ ap (λ (w : Word). region_text head.0 ∷ word_text w ∷ (operand_fields kind.0 ++ map source_text sd.0)) (sym k.1) in
    let line : HasNodeLine (version_number v) made = (h.1, line_has v kind.0 (length sd.0) k.2 version (form, has), s.1) in
    subst (NodeIs v full fs) (ok_is made n sd.2) (not-true full tests.0, text, line)

pub node_gives : (v : Version) (n : Node (List ℕ)) → HasNodeLine (version_number v) n → node_from v false (node_fields n) ≡ Ok n
unfolding node_from
node_gives v n h =
    let p = has_line v n.kind (length n.sources) h.1 in
    let fields = operand_fields n.kind ++ map source_text n.sources in
    let count : length fields ≡ operand_count (word_kind n.kind) + length n.sources = length-append (operand_fields n.kind)
    (map source_text n.sources) ∙ rw (operands_count n.kind, length-map n.sources source_text) refl in
    let form : has_form (word_kind n.kind) (length fields) ≡ true = rw count p.2.0 in
    let has : has_room (word_kind n.kind) (length fields) ≡ true = rw count p.2.1 in
    rw (head_gives v n.region (word_kind n.kind) fields h.0 p.1 form, has, kind_gives n.kind (map source_text n.sources) p.0, sources_give n.sources h.2) refl
