use Rattle.std.proofs.Common.{◌≡◌, ℕ, ◌+◌, arith, ap, ◌∙◌}
use Rattle.semantics.specs.Program.{first_of, instr_at}
use Rattle.object_view.specs.declared.object.BlockView.{BlockView}
use Rattle.object_view.proofs.Places.{here, within}
use Rattle.disassembler.proofs.listing.instr_in.Goals as goal

pub returns-in_default : goal.returns-in_default
returns-in_default c = λ k b at less.
    let fits = within c.args.object.now.code.program k b at.0 in
    let first : c.args.block.now.first ≡ first_of c.args.object.now.code.program k = ap (λ (v : BlockView). v.first) at.1 in
    absurd (c.in_default.ensures (omega (arith, fits, first, c.instr_count.ensures)))

pub returns-then-number-left : goal.returns-then-number-left
returns-then-number-left c = λ k b at less.
    let p = c.args.object.now.code.program in
    let first : c.args.block.now.first ≡ first_of p k = ap (λ (v : BlockView). v.first) at.1 in
    c.instr.ensures ∙ ap (λ (f : ℕ). instr_at p (f + c.args.number)) first ∙ here p k b c.args.number at.0 less

pub returns-else-number-left : goal.returns-else-number-left
returns-else-number-left c = λ k b at less.
    let fits = within c.args.object.now.code.program k b at.0 in
    let first : c.args.block.now.first ≡ first_of c.args.object.now.code.program k = ap (λ (v : BlockView). v.first) at.1 in
    let left = c.in-Some.ensures.1 in
    absurd (omega (arith, fits, first, less, left, c.if-number-left.false, c.instr_count.ensures))
