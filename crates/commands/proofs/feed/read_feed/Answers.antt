use Rattle.std.proofs.Common.{inr}
use Rattle.commands.proofs.Served.{bad_line_of}
use Rattle.commands.proofs.feed.read_feed.Goals as goal

pub returns-in-Err-BadLine : goal.returns-in-Err-BadLine
returns-in-Err-BadLine g c = record {
  parts = record {
    text = c.split_at_main.result.0.now;
    lines = c.split_at_main.result.1.now;
    whole = c.split_at_main.ensures.whole;
    end =
        c.split_at_main.ensures.end;
  };
  why = inr (
    c.in-Err-BadLine.line,
    bad_line_of c.split_at_main.result.1.now c.in-Err-BadLine.field-0 c.in-Err-BadLine.line
        c.in-Err-BadLine.field-0-is c.in-Err-BadLine.ensures,
    c.line_refusal.ensures,
  );
}
