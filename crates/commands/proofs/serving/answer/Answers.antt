use Rattle.commands.proofs.serving.answer.Goals as goal

pub returns-in-Orders : goal.returns-in-Orders
returns-in-Orders g c = rw c.in-Orders.is c.print_orders.ensures

pub returns-in-Trace : goal.returns-in-Trace
returns-in-Trace g c = rw c.in-Trace.is c.print_trace.ensures
