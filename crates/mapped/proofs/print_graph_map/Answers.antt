use Rattle.std.proofs.Common.{inl, inr, refl, ap, ◌∙◌, List, [], Some}
use Rattle.lowering.specs.Built.{Places}
use Rattle.outcomes.specs.declared.outcome.Outcome.{Outcome}
use Rattle.outcomes.specs.declared.refusal.Refusal.{Refusal}
use Rattle.driver.specs.declared.fault.Fault.{Fault}
use Rattle.commands.proofs.Served.{printed, stopped}
use Rattle.mapped.specs.Mapped.{map_of}
use Rattle.mapped.proofs.print_graph_map.Goals as goal

pub returns-in_default : goal.returns-in_default
returns-in_default g c = inr (Refusal.Memory, (Fault.Memory, tt, refl), c.refuse.ensures)

pub returns-in-Ok-send_map : goal.returns-in-Ok-send_map
returns-in-Ok-send_map g c =
    let m = c.in-Ok-map_text.mapped in
    let k = c.in-Ok-map_text.ensures in
    let bytes = m.object.bytes in
    let same = ap (λ (ps : List Places). map_of m.checked bytes (Some (record { program = []; places = ps }))) (c.deref.ensures.value ∙ c.new-places.ensures.items) in
    inl (m.checked, bytes, k.0, k.1, printed _ _ Outcome.Done _ _ _ _ Outcome.Done same refl (c.in-Ok-send_map.ensures k.2))

pub returns : goal.returns
returns g c =
    let m = c.in-Ok-map_text.mapped in
    let k = c.in-Ok-map_text.ensures in
    let bytes = m.object.bytes in
    let same = ap (λ (ps : List Places). map_of m.checked bytes (Some (record { program = []; places = ps }))) (c.deref.ensures.value ∙ c.new-places.ensures.items) in
    inl (m.checked, bytes, k.0, k.1, stopped _ _ _ _ _ _ Outcome.Done same (c.in-Err-send_map.ensures k.2))
