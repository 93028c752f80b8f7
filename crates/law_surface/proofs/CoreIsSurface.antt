-- Each program of the core is one with derived forms.
use Rattle.law_surface.specs.CoreIsSurface.{CoreIsSurface}
use Rattle.law_surface.proofs.EmbeddedFits.{fits_program, program_shallow}
use Rattle.law_surface.proofs.EmbeddedTokens.{program_same}
use Rattle.law_surface.proofs.EmbeddedChecked.{GoodParts, good_parts, checked_same}
use Rattle.law_surface.proofs.EmbeddedDesugared.{desugared_same}

pub core_is_surface : CoreIsSurface
core_is_surface p good =
    let parts : GoodParts p = good_parts p good.end good.fits good.checked in
    record {
      fits = fits_program p good.fits;
      depth = program_shallow p;
      tokens = program_same p;
      checked = checked_same p good.end parts;
      is_itself = desugared_same p parts;
    }
