-- What is seen of an object that is ready.
use Rattle.std.proofs.Common.{◌≡◌, ℕ, List, subst}
use Rattle.object_view.specs.Reading.{Opened}
use Rattle.element.specs.declared.instructions.Array.{Array}
use Rattle.loaded.specs.Ready.{IsReady}

pub ready : (inside seen : Opened) (entries : List ℕ) (arrays : List Array) (instrs cells slots : ℕ) → inside ≡ seen
    → IsReady inside entries arrays instrs cells slots → IsReady seen entries arrays instrs cells slots
ready inside seen entries arrays instrs cells slots same h = subst (λ (o : Opened). IsReady o entries arrays instrs cells slots) same h
