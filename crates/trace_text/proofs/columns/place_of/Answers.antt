use Rattle.std.proofs.Common.{◌≡◌, ◌+◌, ◌-◌, ◌<◌, ◌≤◌, ℕ, suc, List, length, drop, true, false, sym, ap, ◌∙◌, arith}
use Rattle.std.specs.Prelude.{nat_lt, slice_get}
use Rattle.std.proofs.lemmas.Bool.Decides.{nat_tests}
use Rattle.semantics.specs.Program.{CodeBlock, first_of}
use Rattle.object_view.specs.declared.object.BlockView.{BlockView}
use Rattle.object_view.specs.Reading.{block_shown}
use Rattle.trace_text.specs.TraceText.{place_from}
use Rattle.trace_text.proofs.Pairs.{lies_in, lies_behind, lies_nowhere, seen}
use Rattle.trace_text.proofs.columns.place_of.Goals as goal

pub returns-then-number-view : goal.returns-then-number-view
returns-then-number-view c =
    let l = c.loop-block in
    let blocks : List CodeBlock = c.args.object.now.code.program.blocks in
    let s = seen (block_shown (first_of c.args.object.now.code.program l.block)) (slice_get blocks l.block) c.in-Some.view (sym c.block.ensures
    ∙ c.in-Some.is) in
    let long : c.in-Some.view.instrs ≡ length (s.0).instrs = ap (λ (v : BlockView). v.instrs) s.2 in
    let lt : l.number < length (s.0).instrs = omega (arith, long, c.if-number-view.true) in
    let is : nat_lt l.number (length (s.0).instrs) ≡ true = grind (arith, nat_tests) in
    lies_in blocks l.block l.number s.0 _ s.1 is l.invariant

pub loop-block-preserved : goal.loop-block-preserved
loop-block-preserved c =
    let l = c.loop-block in
    let blocks : List CodeBlock = c.args.object.now.code.program.blocks in
    let s = seen (block_shown (first_of c.args.object.now.code.program l.block)) (slice_get blocks l.block) c.in-Some.view (sym c.block.ensures
    ∙ c.in-Some.is) in
    let long : c.in-Some.view.instrs ≡ length (s.0).instrs = ap (λ (v : BlockView). v.instrs) s.2 in
    let le : length (s.0).instrs ≤ l.number = omega (arith, long, c.if-number-view.false) in
    let is : nat_lt l.number (length (s.0).instrs) ≡ false = grind (arith, nat_tests) in
    let next : l.block + 1 ≡ suc l.block = omega arith in
    ap (λ (n : ℕ). place_from (l.block + 1) (drop n blocks) (l.number - c.in-Some.view.instrs)) next
    ∙ ap (λ (m : ℕ). place_from (l.block + 1) (drop (suc l.block) blocks) (l.number - m)) long
    ∙ lies_behind blocks l.block l.number s.0 _ s.1 is l.invariant

pub returns : goal.returns
returns c =
    let l = c.loop-block in
    let le : length c.args.object.now.code.program.blocks ≤ l.block = omega (arith, c.loop-block-test.false, c.block_count-block-end.ensures) in
    lies_nowhere c.args.object.now.code.program.blocks l.block l.number _ le l.invariant
