use Rattle.std.proofs.Common.{◌≡◌, true, false, sym, ap, ◌∙◌, arith}
use Rattle.std.proofs.lemmas.Bool.{eq-eqb, ne_eqb}
use Rattle.graph_file.proofs.Loops.{few_parts}
use Rattle.assembler.specs.Words.{words_of, has_words}
use Rattle.assembler.specs.Assembling.{line_at}
use Rattle.assembler.proofs.Placed.{at_none, at_blank, at_here, at_later, fewer}
use Rattle.assembler.proofs.reading.line_at.Goals as goal

pub loop-bytes-init : goal.loop-bytes-init
loop-bytes-init c = record {
  so_far = ap (line_at 0 c.args.index) c.of-lines.ensures;
  room = rw c.of-lines.ensures
      (omega (arith, few_parts 10 c.args.text.now));
}

pub returns-then-left-eq0 : goal.returns-then-left-eq0
returns-then-left-eq0 c =
    let l = c.loop-bytes in
    let t : has_words (words_of c.in-Some.bytes.now) ≡ true = ap has_words (sym c.of.ensures) ∙ sym c.are_some.ensures ∙ c.if-are_some.true in
    at_here l.line l.left _ l.lines c.in-Some.rest c.in-Some.bytes.now c.in-Some.ensures t (eq-eqb l.left 0 (omega (arith, c.if-left-eq0.true)))
    l.invariant.so_far

pub loop-bytes-preserved-else-left-eq0 : goal.loop-bytes-preserved-else-left-eq0
loop-bytes-preserved-else-left-eq0 c =
    let l = c.loop-bytes in
    let t : has_words (words_of c.in-Some.bytes.now) ≡ true = ap has_words (sym c.of.ensures) ∙ sym c.are_some.ensures ∙ c.if-are_some.true in
    record {
      so_far = at_later l.line l.left _ l.lines c.in-Some.rest c.in-Some.bytes.now c.in-Some.ensures t
          (ne_eqb l.left 0 (λ z. absurd (let h = c.if-left-eq0.false in omega (arith, h, z)))) l.invariant.so_far;
      room = fewer l.line l.lines c.in-Some.rest c.in-Some.bytes.now _ c.in-Some.ensures l.invariant.room;
    }

pub loop-bytes-preserved : goal.loop-bytes-preserved
loop-bytes-preserved c =
    let l = c.loop-bytes in
    let t : has_words (words_of c.in-Some.bytes.now) ≡ false = ap has_words (sym c.of.ensures) ∙ sym c.are_some.ensures ∙ c.if-are_some.false in
    record {
      so_far = at_blank l.line l.left _ l.lines c.in-Some.rest c.in-Some.bytes.now c.in-Some.ensures t l.invariant.so_far;
      room = fewer l.line l.lines c.in-Some.rest c.in-Some.bytes.now _ c.in-Some.ensures l.invariant.room;
    }

pub returns : goal.returns
returns c = at_none c.loop-bytes.line c.loop-bytes.left _ c.loop-bytes.lines c.in_default.ensures c.loop-bytes.invariant.so_far
