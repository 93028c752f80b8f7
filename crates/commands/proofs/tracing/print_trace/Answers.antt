use Rattle.commands.proofs.tracing.print_trace.Goals as goal

pub returns-in-Html : goal.returns-in-Html
returns-in-Html g c = rw c.in-Html.is c.print_page.ensures
