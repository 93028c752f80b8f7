use Rattle.std.proofs.Common.{◌≡◌, ◌∙◌, ℕ, List, take, drop, Err, arith, refl, sym, ap}
use Rattle.std.specs.Prelude.{None, slice_get}
use Rattle.std.proofs.lemmas.Result.{err_from_is_err_and}
use Rattle.lemmas.proofs.Options.{option_map_none, option_map_some}
use Rattle.semantics.specs.Program.{CodeBlock, Program, first_of}
use Rattle.object_view.specs.declared.object.BlockView.{BlockView}
use Rattle.object_view.specs.Reading.{block_shown}
use Rattle.code_map.specs.declared.owner.Owner.{Owner}
use Rattle.sink.proofs.Sent.{appends_none, sends_from, sends_other, sends_same}
use Rattle.sink.proofs.Numbered.{more, stop, done, outside}
use Rattle.map_text.specs.MapText.{Names, block_lines, owners_in}
use Rattle.map_text.proofs.map.send_blocks.Goals as goal

-- the lines that are sent are those of the block
sent_lines : (names : Names) (p : Program) (os block : List Owner) (code : ℕ) (b : CodeBlock) (v : BlockView) → block ≡ take v.instrs (drop v.first os)
    → v ≡ block_shown (first_of p code) b → block_lines names code block ≡ block_lines names code (owners_in p os code b)
sent_lines names p os block code b v e f = ap (block_lines names code) (e ∙ ap (λ (w : BlockView). take w.instrs (drop w.first os)) f)

pub loop-code-init : goal.loop-code-init
loop-code-init g c = record { appended = appends_none _; reached = c.first_place-last.ensures.reached _ }

pub returns-in_default : goal.returns-in_default
returns-in_default g c =
    let p = c.args.object.now.code.program in
    let n = c.loop-code.code in
    let is : slice_get p.blocks n ≡ None = option_map_none (block_shown (first_of p n)) (slice_get p.blocks n) (sym c.block.ensures ∙ c.in_default.is) in
    outside (λ code b. block_lines c.args.names.now code (owners_in p c.args.owners.now code b)) n p.blocks _ tt _ _ refl is c.loop-code.invariant.appended

pub returns-in_err-send_block : goal.returns-in_err-send_block
returns-in_err-send_block g c =
    let p = err_from_is_err_and c.from_residual.result c.from_residual.ensures.1 in
    let q = c.args.object.now.code.program in
    let n = c.loop-code.code in
    let b = option_map_some (block_shown (first_of q n)) (slice_get q.blocks n) c.in-Some.block (sym c.block.ensures ∙ c.in-Some.is) in
    let eq = sent_lines c.args.names.now q c.args.owners.now c.owners_in.result.now n b.0 c.in-Some.block c.owners_in.ensures b.2 in
    rw p.1 (stop (λ code b. block_lines c.args.names.now code (owners_in q c.args.owners.now code b)) n q.blocks b.0 p.0 _ _ _ b.1
    c.loop-code.invariant.appended (sends_same (Err p.0) _ _ _ _ eq (sends_other c.in_err-send_block.field-0.0 p.0 _ _ _ c.in_err-send_block.ensures.lines)))

pub loop-code-preserved : goal.loop-code-preserved
loop-code-preserved g c =
    let q = c.args.object.now.code.program in
    let n = c.loop-code.code in
    let b = option_map_some (block_shown (first_of q n)) (slice_get q.blocks n) c.in-Some.block (sym c.block.ensures ∙ c.in-Some.is) in
    let eq = sent_lines c.args.names.now q c.args.owners.now c.owners_in.result.now n b.0 c.in-Some.block c.owners_in.ensures b.2 in
    record {
      appended = more (λ code b. block_lines c.args.names.now code (owners_in q c.args.owners.now code b)) n q.blocks b.0 _ _ _ b.1
          c.loop-code.invariant.appended (sends_from c.send_block.result _ _ _ c.in_ok-send_block.was (sends_same c.send_block.result _ _ _ _ eq
          c.send_block.ensures.lines));
      reached = c.send_block.ensures.reached;
    }

pub returns : goal.returns
returns g c =
    let q = c.args.object.now.code.program in
    done (λ code b. block_lines c.args.names.now code (owners_in q c.args.owners.now code b)) c.loop-code.code q.blocks _ tt _ _ refl
    (omega (arith, c.loop-code-test.false, c.block_count-code-end.ensures)) c.loop-code.invariant.appended
