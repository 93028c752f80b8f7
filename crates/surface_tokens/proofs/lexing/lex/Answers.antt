use Rattle.std.proofs.Common.{◌-◌, drop, length, take, sym, arith}
use Rattle.surface.specs.Tokens.{lexed}
use Rattle.surface_tokens.specs.declared.beginning.Beginning.TheVariants.{Skipped, Read}
use Rattle.surface_tokens.proofs.Lexed.{seen, behind_blank, behind_token, ends}
use Rattle.surface_tokens.proofs.Slices.{slice_from}
use Rattle.surface_tokens.proofs.Standing.{all_stand}
use Rattle.surface_tokens.proofs.lexing.lex.Goals as goal

pub overflow_add-at : goal.overflow_add-at
overflow_add-at g c =
    let l = c.loop-beginning in
    let program = c.args.program.now in
    let rest = take (length program - l.at) (drop l.at program) in
    let is = seen rest c.of.result c.in-Some.beginning (Skipped c.in-Skipped.len) c.of.ensures c.in-Some.is c.in-Skipped.is in
    let s = behind_blank program rest l.at c.in-Skipped.len l.tokens.items (lexed program) l.invariant.within (slice_from l.at program) is l.invariant.so_far in
    omega (arith, s.within)

pub loop-beginning-smaller-in-Skipped : goal.loop-beginning-smaller-in-Skipped
loop-beginning-smaller-in-Skipped g c =
    let l = c.loop-beginning in
    let program = c.args.program.now in
    let rest = take (length program - l.at) (drop l.at program) in
    let is = seen rest c.of.result c.in-Some.beginning (Skipped c.in-Skipped.len) c.of.ensures c.in-Some.is c.in-Skipped.is in
    let s = behind_blank program rest l.at c.in-Skipped.len l.tokens.items (lexed program) l.invariant.within (slice_from l.at program) is l.invariant.so_far in
    omega (arith, s.some, s.within)

pub loop-beginning-preserved-in-Skipped : goal.loop-beginning-preserved-in-Skipped
loop-beginning-preserved-in-Skipped g c =
    let l = c.loop-beginning in
    let program = c.args.program.now in
    let rest = take (length program - l.at) (drop l.at program) in
    let is = seen rest c.of.result c.in-Some.beginning (Skipped c.in-Skipped.len) c.of.ensures c.in-Some.is c.in-Skipped.is in
    let s = behind_blank program rest l.at c.in-Skipped.len l.tokens.items (lexed program) l.invariant.within (slice_from l.at program) is l.invariant.so_far in
    record { within = s.within; so_far = s.so_far }

pub overflow_add-at-in-Read : goal.overflow_add-at-in-Read
overflow_add-at-in-Read g c =
    let l = c.loop-beginning in
    let program = c.args.program.now in
    let rest = take (length program - l.at) (drop l.at program) in
    let is = seen rest c.of.result c.in-Some.beginning (Read c.in-Read.kind c.in-Read.len) c.of.ensures c.in-Some.is c.in-Read.is in
    let s = behind_token program rest l.at c.in-Read.len c.in-Read.kind l.tokens.items c.push.new.self.items (lexed program)
    l.invariant.within (slice_from l.at program) is c.in-Ok.ensures.items l.invariant.so_far in
    omega (arith, s.within)

pub loop-beginning-smaller : goal.loop-beginning-smaller
loop-beginning-smaller g c =
    let l = c.loop-beginning in
    let program = c.args.program.now in
    let rest = take (length program - l.at) (drop l.at program) in
    let is = seen rest c.of.result c.in-Some.beginning (Read c.in-Read.kind c.in-Read.len) c.of.ensures c.in-Some.is c.in-Read.is in
    let s = behind_token program rest l.at c.in-Read.len c.in-Read.kind l.tokens.items c.push.new.self.items (lexed program)
    l.invariant.within (slice_from l.at program) is c.in-Ok.ensures.items l.invariant.so_far in
    omega (arith, s.some, s.within)

pub loop-beginning-preserved : goal.loop-beginning-preserved
loop-beginning-preserved g c =
    let l = c.loop-beginning in
    let program = c.args.program.now in
    let rest = take (length program - l.at) (drop l.at program) in
    let is = seen rest c.of.result c.in-Some.beginning (Read c.in-Read.kind c.in-Read.len) c.of.ensures c.in-Some.is c.in-Read.is in
    let s = behind_token program rest l.at c.in-Read.len c.in-Read.kind l.tokens.items c.push.new.self.items (lexed program)
    l.invariant.within (slice_from l.at program) is c.in-Ok.ensures.items l.invariant.so_far in
    record { within = s.within; so_far = s.so_far }

pub returns-clause-stand : goal.returns-clause-stand
returns-clause-stand g c =
    let l = c.loop-beginning in
    let program = c.args.program.now in
    let rest = take (length program - l.at) (drop l.at program) in
    all_stand program l.tokens.items (ends program rest l.at l.tokens.items (lexed program) (slice_from l.at program) (sym c.in_default.ensures) l.invariant.so_far)
