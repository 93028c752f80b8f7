use Rattle.std.proofs.Common.{◌∙◌, sym, ap, subst}
use Rattle.std.proofs.lemmas.Result.{err_from_is_err_and}
use Rattle.semantics.specs.Graph.{Graph}
use Rattle.semantics.specs.WellFormed.{WellFormed}
use Rattle.semantics.specs.Text.{HasText}
use Rattle.graph_check.specs.Causes.{fault_of}
use Rattle.graph_check.proofs.Outcomes.{answered, names_refusal, main_refusal, blocks_refusal, accepted}
use Rattle.graph_check.proofs.check_graph.Goals as goal

pub returns-in_err-named-clause-refused : goal.returns-in_err-named-clause-refused
returns-in_err-named-clause-refused g c =
    let r = err_from_is_err_and c.from_residual.result c.from_residual.ensures.1 in
    let e = c.in_err-named.field-0.0 in
    answered c.args.graph c.from_residual.result e r.0 r.1 r.2 (names_refusal c.args.graph (fault_of e) c.in_err-named.ensures)

pub returns-in_err-check_main-clause-refused : goal.returns-in_err-check_main-clause-refused
returns-in_err-check_main-clause-refused g c =
    let out = c.from_residual-in_err-check_main in
    let r = err_from_is_err_and out.result out.ensures.1 in
    let e = c.in_err-check_main.field-0.0 in
    let named = c.in_ok-named.ensures in
    answered c.args.graph out.result e r.0 r.1 r.2 (main_refusal c.args.graph c.in_ok-named.named (fault_of e) named.0 named.1 c.in_err-check_main.ensures)

pub returns-in_err-check_blocks-clause-refused : goal.returns-in_err-check_blocks-clause-refused
returns-in_err-check_blocks-clause-refused g c =
    let out = c.from_residual-in_err-check_blocks in
    let r = err_from_is_err_and out.result out.ensures.1 in
    let e = c.in_err-check_blocks.field-0.0 in
    let named = c.in_ok-named.ensures in
    let blocks = c.blocks_of.ensures.same ∙ ap (λ (g : Graph). g.blocks) c.graph.ensures in
    answered c.args.graph out.result e r.0 r.1 r.2
    (blocks_refusal c.args.graph c.in_ok-named.named c.blocks_of.result.now (fault_of e) named.0 named.1 c.in_ok-check_main.ensures blocks
    c.in_err-check_blocks.ensures)

pub invariant_of-result : goal.invariant_of-result
invariant_of-result g c =
    let named = c.in_ok-named.ensures in
    let blocks = c.blocks_of.ensures.same ∙ ap (λ (g : Graph). g.blocks) c.graph.ensures in
    let well = accepted c.args.graph c.in_ok-named.named c.blocks_of.result.now named.0 named.1 c.in_ok-check_main.ensures blocks
    c.in_ok-check_blocks.ensures in
    (subst WellFormed (sym named.0) well, subst HasText c.graph.ensures c.blocks_of.ensures.limits)

pub returns-clause-well : goal.returns-clause-well
returns-clause-well g c =
    let named = c.in_ok-named.ensures in
    let blocks = c.blocks_of.ensures.same ∙ ap (λ (g : Graph). g.blocks) c.graph.ensures in
    accepted c.args.graph c.in_ok-named.named c.blocks_of.result.now named.0 named.1 c.in_ok-check_main.ensures blocks c.in_ok-check_blocks.ensures
