-- What is printed of what a machine needs is what one run of the meaning tells.
use Rattle.std.proofs.Common.{◌≡◌, refl, ltb-true, inl, inr, Bool, true, false, ℤ, List, Option, Some, None, nat_lt, if◌then◌else◌}
use Rattle.std.specs.Prelude.{ℕ, IfSome, IfNone}
use Rattle.semantics.specs.Graph.{Graph}
use Rattle.driver.specs.declared.needs.MachineNeeds.{MachineNeeds}
use Rattle.driver.specs.Needs.{AreNeedsOf, AreUntold}
use Rattle.commands.specs.Profiled.{IsSufficient, shown_of, sufficient_of}

pub shown_sufficient : (g : Graph) (inputs : List ℤ) (activities : ℕ) (r : Option MachineNeeds)
    → IfSome r (λ n. AreNeedsOf g inputs activities n.frames n.steps n.iterations) → IfNone r (AreUntold g inputs activities)
    → IsSufficient g inputs activities (sufficient_of r)
shown_sufficient g inputs activities None some none = inl none
shown_sufficient g inputs activities (Some n) some none = go (nat_lt 64 n.iterations) refl
  where
    go : (b : Bool) → nat_lt 64 n.iterations ≡ b → IsSufficient g inputs activities (if b then None else Some (shown_of n))
    go true e = inr (n.frames, n.steps, n.iterations, some, ltb-true 64 n.iterations e)
    go false e = some
