use Rattle.std.proofs.Common.{ℕ, ◌<◌, List, length, map, get_or, take, None, inr, ap, ◌∙◌, arith}
use Rattle.std.proofs.lemmas.Result.{err_from_is_err_and}
use Rattle.graph_check.specs.Names.{is_name}
use Rattle.graph_check.specs.FirstFault.{first_in, fault_at, array_name_fault}
use Rattle.graph_check.proofs.Firsts.{goes_on, finds}
use Rattle.graph_check.proofs.Places.{absent_if}
use Rattle.graph_check.proofs.Indexes.{refused, named_item, within, placed, new_name, old_name, present_if, indexed_more}
use Rattle.graph_check.proofs.names.index_arrays.Goals as goal

abbrev name_in : List ℕ × ℕ → List ℕ
name_in a = a.0

pub returns-in_err-add : goal.returns-in_err-add
returns-in_err-add g c =
    let items = c.args.arrays.now.items in
    let names = map name_in items in
    let r = err_from_is_err_and c.from_residual.result c.from_residual.ensures.1 in
    let memory = c.in_err-add.ensures.added (take c.loop-i.i names) c.loop-i.invariant.index (placed name_in items c.loop-i.i (omega arith)) in
    refused (array_name_fault names) names c.from_residual.result _ r.0 r.1 r.2 memory

pub returns-then-not-branch : goal.returns-then-not-branch
returns-then-not-branch g c =
    let items = c.args.arrays.now.items in
    let names = map name_in items in
    let i = c.loop-i.i in
    let name = c.array_name.result.now in
    let h : i < length items = omega arith in
    let e = c.in_ok-add.ensures.added (take i names) c.loop-i.invariant.index (placed name_in items i h) in
    let fault = ap (λ k. fault_at None None k)
    (old_name names i name (present_if (is_name name (take i names)) c.in_ok-add.field-0 e.0 c.if-not-branch.true)) in
    inr (finds (array_name_fault names) names i name _ _ (within name_in items i h) (named_item name_in items i c.array-item.result name h
    (c.array-item.is ∙ ap (λ l. get_or l i c.array-item.result) c.deref-array-items.ensures.value) c.array_name.ensures) c.loop-i.invariant.before fault)

pub loop-i-preserved : goal.loop-i-preserved
loop-i-preserved g c =
    let items = c.args.arrays.now.items in
    let names = map name_in items in
    let i = c.loop-i.i in
    let name = c.array_name.result.now in
    let h : i < length items = omega arith in
    let e = c.in_ok-add.ensures.added (take i names) c.loop-i.invariant.index (placed name_in items i h) in
    let at = named_item name_in items i c.array-item.result name h (c.array-item.is ∙ ap (λ l. get_or l i c.array-item.result)
    c.deref-array-items.ensures.value) c.array_name.ensures in
    let new = c.if-not-branch.false in
    let fault = ap (λ k. fault_at None None k) (new_name names i name (absent_if (is_name name (take i names)) c.in_ok-add.field-0 e.0 new)) in
    record {
      index = indexed_more c.add.new.index names i name (within name_in items i h) at (e.1 new);
      before = goes_on (array_name_fault names) names i name (first_in (array_name_fault names) 0 names) (within name_in items i h) at
          c.loop-i.invariant.before fault;
    }
