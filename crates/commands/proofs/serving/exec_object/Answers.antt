use Rattle.std.proofs.Common.{sym, ◌∙◌}
use Rattle.commands.proofs.Served.{executed, refused_exec, no_mode_to_exec}
use Rattle.commands.proofs.serving.exec_object.Goals as goal

pub returns-in-Ok : goal.returns-in-Ok
returns-in-Ok g c =
    executed c.args.code.now.bytes c.args.options.now c.args.inputs.now c.in-Ok.report c.in-Some.order (sym c.order_in.ensures ∙ c.in-Some.is) c.config_of-config.result
    c.config_of-config.ensures
    g.G.Gate.may_stop c.requires c.in-Ok.ensures

pub returns-in-Err : goal.returns-in-Err
returns-in-Err g c =
    refused_exec c.args.code.now.bytes c.args.options.now c.args.inputs.now c.config_of-config.result c.config_of-config.ensures c.in-Err.fault
    c.in-Err.ensures c.fault_refusal.result c.fault_refusal.ensures

pub returns-in-Ok-check_start : goal.returns-in-Ok-check_start
returns-in-Ok-check_start g c =
    no_mode_to_exec c.args.code.now.bytes c.args.options.now c.args.inputs.now c.config_of-config.result c.config_of-config.ensures
    c.in-Ok-check_start.ensures (sym c.order_in.ensures ∙ c.in-None.is)

pub returns-in-Err-check_start : goal.returns-in-Err-check_start
returns-in-Err-check_start g c =
    refused_exec c.args.code.now.bytes c.args.options.now c.args.inputs.now c.config_of-config.result c.config_of-config.ensures
    c.in-Err-check_start.fault c.in-Err-check_start.ensures c.fault_refusal-in-Err-check_start.result c.fault_refusal-in-Err-check_start.ensures
