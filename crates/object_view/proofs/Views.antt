-- What is seen of an object that was opened.
use Rattle.std.proofs.Common.{◌≡◌, ℕ, List, sym, ap}
use Rattle.semantics.specs.Versions.{version_number}
use Rattle.object_view.specs.Fields.{word_at}
use Rattle.object_view.specs.Reading.{Opened, opened, code_in, tabulated, block_in, array_in, literal_in, version_in}

pub blocks_seen : (bytes : List ℕ) (o : Opened) → opened bytes ≡ o → o.code.program.blocks ≡ tabulated (block_in (word_at bytes)) 0 (word_at bytes 2)
unfolding opened code_in
blocks_seen bytes o e = ap (λ (p : Opened). p.code.program.blocks) (sym e)

pub arrays_seen : (bytes : List ℕ) (o : Opened) → opened bytes ≡ o → o.code.program.arrays ≡ tabulated (array_in (word_at bytes)) 0 (word_at bytes 4)
unfolding opened code_in
arrays_seen bytes o e = ap (λ (p : Opened). p.code.program.arrays) (sym e)

pub literals_seen : (bytes : List ℕ) (o : Opened) → opened bytes ≡ o → o.code.literals ≡ tabulated (literal_in (word_at bytes)) 0 (word_at bytes 3)
unfolding opened code_in
literals_seen bytes o e = ap (λ (p : Opened). p.code.literals) (sym e)

pub main_seen : (bytes : List ℕ) (o : Opened) → opened bytes ≡ o → o.code.program.main ≡ word_at bytes 5
unfolding opened code_in
main_seen bytes o e = ap (λ (p : Opened). p.code.program.main) (sym e)

pub version_seen : (bytes : List ℕ) (o : Opened) → opened bytes ≡ o → o.version ≡ version_number (version_in (word_at bytes 1))
unfolding opened code_in
version_seen bytes o e = ap (λ (p : Opened). p.version) (sym e)

pub bytes_seen : (bytes : List ℕ) (o : Opened) → opened bytes ≡ o → o.bytes ≡ bytes
unfolding opened code_in
bytes_seen bytes o e = ap (λ (p : Opened). p.bytes) (sym e)
