use Rattle.std.proofs.Common.{◌∙◌, List, ap}
use Rattle.semantics.specs.Graph.{Graph}
use Rattle.profile_text.specs.declared.lines.MachineRow.{MachineRow}
use Rattle.profile_text.specs.Picture.{svg_text}
use Rattle.profile_text.specs.ProfileText.{profile_text}
use Rattle.sink.proofs.Sent.{sends_same}
use Rattle.commands.proofs.profiling.write_made.Goals as goal

pub returns-in-Lines : goal.returns-in-Lines
returns-in-Lines g c =
    let p = c.args.profile.now in
    let w = p.waves in
    let e1 = ap (λ (h : Graph). profile_text h.arrays w.report.counts.items c.deref.result.now p.sufficient w.report.end) c.graph.ensures.same in
    let e2 = ap (λ (rows : List MachineRow). profile_text w.checked.arrays w.report.counts.items rows p.sufficient w.report.end) c.deref.ensures.value in
    rw c.in-Lines.is (sends_same c.write_profile.result _ _ _ _ (e1 ∙ e2) c.write_profile.ensures)

pub returns-in-Picture : goal.returns-in-Picture
returns-in-Picture g c = rw c.in-Picture.is (sends_same c.write_svg.result _ _ _ _ (ap svg_text c.deref-in-Picture.ensures.value) c.write_svg.ensures)
