use Rattle.mesh.proofs.boxes.post_at.Given as goal

-- the bundle of this call
abbrev pub ghosts-post_as : goal.ghosts-post_as
ghosts-post_as g a = record { bundle = g.B.Bundle.tokens a.bundle }
