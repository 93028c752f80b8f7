use Rattle.std.proofs.Common.{◌≡◌, ◌≤◌, [], length, drop}
use Rattle.lowering.specs.Scan.{scan_of, scanned}
use Rattle.lowering.specs.Numbered.{all_kept, kept_begun, names_gathered}
use Rattle.lowering.proofs.items.gather.Given as goal

abbrev pub invariant-loop-i : goal.invariant-loop-i
invariant-loop-i g l = record {
  within : l.i ≤ length l.words;
  scan : l.scan ≡ scanned (scan_of [] [] []) (names_gathered l.names (drop l.i l.words));
  heads : l.heads ≡ all_kept l.names (kept_begun (length l.names)) (drop l.i l.words);
}

abbrev pub decreases-loop-i : goal.decreases-loop-i
decreases-loop-i g l = l.i
