use Rattle.loaded.proofs.Loaded.new.Goals as goal

pub invariant_of-result : goal.invariant_of-result
invariant_of-result g c = record {
  lawful = c.bytes-bytes.ensures.object.1;
  entries_parsed = c.in_ok-entries.ensures;
  arrays_parsed = c.in_ok-arrays.ensures;
  instrs_parsed = c.instr_count-instrs.ensures;
  cells_parsed = c.cells_of-cells.ensures;
  slots_parsed = c.most_slots-slots.ensures;
}
