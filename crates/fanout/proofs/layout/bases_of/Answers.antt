use Rattle.std.proofs.Common.{◌≡◌, ◌⊎◌, ◌+◌, ◌<◌, ◌++◌, ◌∷◌, length, drop, sym, ap, ◌∙◌, subst, arith, []}
use Rattle.fanout.specs.Rows.{run}
use Rattle.fanout.specs.Places.{bases_from}
use Rattle.fanout.proofs.Runs.{run_next, bases_step}
use Rattle.fanout.proofs.layout.bases_of.Goals as goal

pub loop-place-preserved : goal.loop-place-preserved
loop-place-preserved g c =
    let ts = c.args.tied.now in
    let is = c.args.instrs.now in
    let n = c.loop-place.place in
    let there : n < length is = c.loop-place-test.true in
    let all : length ts ≡ length is = c.requires in
    let end : c.row_end-end.result ≡ n + run (drop n ts) = c.row_end-end.ensures.exact in
    let one = c.in_ok-plus.ensures ∙ ap (λ e. e + c.loop-place.copied) end in
    let copied = c.in_ok-copied.ensures ∙ ap (λ s. c.loop-place.copied + s) c.in_ok-size.ensures in
    record {
      exact = bases_step ts is n c.loop-place.copied c.in_ok-copied.copied c.loop-place.bases.items c.push.new.self.items (bases_from ts 0 0 is)
          c.index-instrs-place.result there c.index-instrs-place.is
          (c.in_ok-push.ensures.items ∙ ap (λ e. c.loop-place.bases.items ++ e ∷ []) one) copied c.loop-place.invariant.exact;
      row = subst (λ e. (n + 1 ≡ e) ⊎ (e ≡ n + 1 + run (drop (n + 1) ts))) (sym end) (run_next ts n (omega (arith, there, all)));
      within = c.row_end-end.ensures.within;
    }
