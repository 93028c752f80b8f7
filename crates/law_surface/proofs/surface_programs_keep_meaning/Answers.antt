use Rattle.law_surface.proofs.SurfaceMeans.{short_keeps_meaning, surface_means}
use Rattle.law_surface.proofs.surface_programs_keep_meaning.Goals as goal

pub returns : goal.returns
returns c = record {
  programs = short_keeps_meaning c.lowering_keeps_meaning.ensures.meaning;
  texts = surface_means c.lowering_keeps_meaning.ensures.meaning;
}
