use Rattle.std.proofs.Common.{◌≡◌, ℕ, ℤ, List, ◌++◌, Option, Err, sym, ap, subst, ◌∙◌, append_assoc}
use Rattle.std.specs.Prelude.{flat_map, All}
use Rattle.std.proofs.lemmas.Result.{err_from_is_err_and}
use Rattle.semantics.specs.Program.{CodeBlock}
use Rattle.semantics.specs.Bytes.{bytes_of}
use Rattle.semantics.specs.Versions.{version_number}
use Rattle.object_view.specs.Sending.{bytes_of_word, bytes_of_header, bytes_of_entry, bytes_of_block, bytes_of_literal, HasWords}
use Rattle.sink.proofs.Sent.{sends_from, sends_more, sends_less, sends_other, sends_same, appends_then}
use Rattle.object_view.proofs.Whole.{whole, stopped, words_fit, entries, instrs, literals, arrays}
use Rattle.object_view.proofs.writing.write.Goals as goal

pub returns-in_err-send_header : goal.returns-in_err-send_header
returns-in_err-send_header g c =
    let p = err_from_is_err_and c.from_residual.result c.from_residual.ensures.1 in
    let k = c.args.code.now in
    let v = version_number c.args.version in
    rw p.1 (sends_same (Err p.0) _ _ _ (bytes_of v k) (sym (whole v k))
    (sends_less p.0 _ _ (bytes_of_header v k) (entries k ++ (instrs k ++ (literals k ++ arrays k)))
    (sends_other c.in_err-send_header.field-0.0 p.0 _ _ (bytes_of_header v k) c.in_err-send_header.ensures)))

pub returns-in_err-send_entries : goal.returns-in_err-send_entries
returns-in_err-send_entries g c =
    let p = err_from_is_err_and c.from_residual-in_err-send_entries.result c.from_residual-in_err-send_entries.ensures.1 in
    let k = c.args.code.now in
    let v = version_number c.args.version in
    let t1 : List ℕ = bytes_of_header v k in
    let w0 : Option (List ℕ) = g.W.Write.contents c.args.writer.now in
    let w1 : Option (List ℕ) = g.W.Write.contents c.send_header.new.writer in
    let w2 : Option (List ℕ) = g.W.Write.contents c.send_entries.new.writer in
    let blocks = c.blocks_of-blocks.ensures in
    let a1 = sends_from c.send_header.result w0 w1 t1 c.in_ok-send_header.was c.send_header.ensures in
    let all : bytes_of v k ≡ (t1 ++ entries k) ++ (instrs k ++ (literals k ++ arrays k)) = whole v k ∙ simp append_assoc in
    rw p.1 (stopped c.in_err-send_entries.field-0.0 p.0 w0 w1 w2 t1 (entries k) (instrs k ++ (literals k ++ arrays k)) (bytes_of v k) all a1
    (sends_same _ w1 w2 _ (entries k) (ap (flat_map bytes_of_entry) blocks) c.in_err-send_entries.ensures))

pub send_blocks-requires-clause-there : goal.send_blocks-requires-clause-there
send_blocks-requires-clause-there g c =
    let k = c.args.code.now in
    let blocks = c.blocks_of-blocks.ensures in
    subst (λ (bs : List CodeBlock). All (λ (b : CodeBlock). All HasWords b.instrs) bs) (sym blocks) (words_fit (version_number c.args.version) k c.requires)

pub returns-in_err-send_blocks : goal.returns-in_err-send_blocks
returns-in_err-send_blocks g c =
    let p = err_from_is_err_and c.from_residual-in_err-send_blocks.result c.from_residual-in_err-send_blocks.ensures.1 in
    let k = c.args.code.now in
    let v = version_number c.args.version in
    let t1 : List ℕ = bytes_of_header v k in
    let w0 : Option (List ℕ) = g.W.Write.contents c.args.writer.now in
    let w1 : Option (List ℕ) = g.W.Write.contents c.send_header.new.writer in
    let w2 : Option (List ℕ) = g.W.Write.contents c.send_entries.new.writer in
    let w3 : Option (List ℕ) = g.W.Write.contents c.send_blocks.new.writer in
    let blocks = c.blocks_of-blocks.ensures in
    let lits = c.literals_of-literals.ensures in
    let a1 = sends_from c.send_header.result w0 w1 t1 c.in_ok-send_header.was c.send_header.ensures in
    let a2 = appends_then w0 w1 w2 t1 (entries k) a1 (sends_from c.send_entries.result w1 w2 (entries k) c.in_ok-send_entries.was
    (sends_same c.send_entries.result w1 w2 _ (entries k) (ap (flat_map bytes_of_entry) blocks) c.send_entries.ensures)) in
    let all : bytes_of v k ≡ ((t1 ++ entries k) ++ instrs k) ++ (literals k ++ arrays k) = whole v k ∙ simp append_assoc in
    let same : flat_map (bytes_of_block c.literals_of-literals.result.now) c.blocks_of-blocks.result.now
    ≡ instrs k = ap (λ (ls : List ℤ). flat_map (bytes_of_block ls) c.blocks_of-blocks.result.now) lits
    ∙ ap (λ (bs : List CodeBlock). flat_map (bytes_of_block k.literals) bs) blocks in
    rw p.1 (stopped c.in_err-send_blocks.field-0.0 p.0 w0 w2 w3 (t1 ++ entries k) (instrs k) (literals k ++ arrays k) (bytes_of v k) all a2
    (sends_same _ w2 w3 _ (instrs k) same c.in_err-send_blocks.ensures))

pub returns-in_err-send_literals : goal.returns-in_err-send_literals
returns-in_err-send_literals g c =
    let p = err_from_is_err_and c.from_residual-in_err-send_literals.result c.from_residual-in_err-send_literals.ensures.1 in
    let k = c.args.code.now in
    let v = version_number c.args.version in
    let t1 : List ℕ = bytes_of_header v k in
    let w0 : Option (List ℕ) = g.W.Write.contents c.args.writer.now in
    let w1 : Option (List ℕ) = g.W.Write.contents c.send_header.new.writer in
    let w2 : Option (List ℕ) = g.W.Write.contents c.send_entries.new.writer in
    let w3 : Option (List ℕ) = g.W.Write.contents c.send_blocks.new.writer in
    let w4 : Option (List ℕ) = g.W.Write.contents c.send_literals.new.writer in
    let blocks = c.blocks_of-blocks.ensures in
    let lits = c.literals_of-literals.ensures in
    let a1 = sends_from c.send_header.result w0 w1 t1 c.in_ok-send_header.was c.send_header.ensures in
    let a2 = appends_then w0 w1 w2 t1 (entries k) a1 (sends_from c.send_entries.result w1 w2 (entries k) c.in_ok-send_entries.was
    (sends_same c.send_entries.result w1 w2 _ (entries k) (ap (flat_map bytes_of_entry) blocks) c.send_entries.ensures)) in
    let same : flat_map (bytes_of_block c.literals_of-literals.result.now) c.blocks_of-blocks.result.now
    ≡ instrs k = ap (λ (ls : List ℤ). flat_map (bytes_of_block ls) c.blocks_of-blocks.result.now) lits
    ∙ ap (λ (bs : List CodeBlock). flat_map (bytes_of_block k.literals) bs) blocks in
    let a3 = appends_then w0 w2 w3 (t1 ++ entries k) (instrs k) a2 (sends_from c.send_blocks.result w2 w3 (instrs k) c.in_ok-send_blocks.was
    (sends_same c.send_blocks.result w2 w3 _ (instrs k) same c.send_blocks.ensures)) in
    let all : bytes_of v k ≡ (((t1 ++ entries k) ++ instrs k) ++ literals k) ++ arrays k = whole v k ∙ simp append_assoc in
    rw p.1 (stopped c.in_err-send_literals.field-0.0 p.0 w0 w3 w4 ((t1 ++ entries k) ++ instrs k) (literals k) (arrays k) (bytes_of v k) all a3
    (sends_same _ w3 w4 _ (literals k) (ap (flat_map bytes_of_literal) lits) c.in_err-send_literals.ensures))

pub returns : goal.returns
returns g c =
    let k = c.args.code.now in
    let v = version_number c.args.version in
    let t1 : List ℕ = bytes_of_header v k in
    let w0 : Option (List ℕ) = g.W.Write.contents c.args.writer.now in
    let w1 : Option (List ℕ) = g.W.Write.contents c.send_header.new.writer in
    let w2 : Option (List ℕ) = g.W.Write.contents c.send_entries.new.writer in
    let w3 : Option (List ℕ) = g.W.Write.contents c.send_blocks.new.writer in
    let w4 : Option (List ℕ) = g.W.Write.contents c.send_literals.new.writer in
    let w5 : Option (List ℕ) = g.W.Write.contents c.send_arrays.new.writer in
    let blocks = c.blocks_of-blocks.ensures in
    let lits = c.literals_of-literals.ensures in
    let lens = c.arrays_of-arrays.ensures in
    let a1 = sends_from c.send_header.result w0 w1 t1 c.in_ok-send_header.was c.send_header.ensures in
    let a2 = appends_then w0 w1 w2 t1 (entries k) a1 (sends_from c.send_entries.result w1 w2 (entries k) c.in_ok-send_entries.was
    (sends_same c.send_entries.result w1 w2 _ (entries k) (ap (flat_map bytes_of_entry) blocks) c.send_entries.ensures)) in
    let same : flat_map (bytes_of_block c.literals_of-literals.result.now) c.blocks_of-blocks.result.now
    ≡ instrs k = ap (λ (ls : List ℤ). flat_map (bytes_of_block ls) c.blocks_of-blocks.result.now) lits
    ∙ ap (λ (bs : List CodeBlock). flat_map (bytes_of_block k.literals) bs) blocks in
    let a3 = appends_then w0 w2 w3 (t1 ++ entries k) (instrs k) a2 (sends_from c.send_blocks.result w2 w3 (instrs k) c.in_ok-send_blocks.was
    (sends_same c.send_blocks.result w2 w3 _ (instrs k) same c.send_blocks.ensures)) in
    let a4 = appends_then w0 w3 w4 ((t1 ++ entries k) ++ instrs k) (literals k) a3 (sends_from c.send_literals.result w3 w4 (literals k)
    c.in_ok-send_literals.was (sends_same c.send_literals.result w3 w4 _ (literals k) (ap (flat_map bytes_of_literal) lits) c.send_literals.ensures)) in
    let all : bytes_of v k ≡ (((t1 ++ entries k) ++ instrs k) ++ literals k) ++ arrays k = whole v k ∙ simp append_assoc in
    sends_same c.send_arrays.result w0 w5 _ (bytes_of v k) (sym all) (sends_more c.send_arrays.result w0 w4 w5 (((t1 ++ entries k) ++ instrs k)
    ++ literals k) (arrays k) a4 (sends_same c.send_arrays.result w4 w5 _ (arrays k) (ap (flat_map bytes_of_word) lens) c.send_arrays.ensures))
