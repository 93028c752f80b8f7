-- The parts that ask for a loop's credits and give them back.
use Rattle.std.specs.Prelude.{Bool, true, false}
use Rattle.law_net.specs.ContextsParts.{Part, Opener, Giver, Taker, Drainer}

abbrev pub is_credit_part : Part → Bool
is_credit_part (Opener n) = true
is_credit_part (Giver n) = true
is_credit_part (Taker n) = true
is_credit_part (Drainer n) = true
is_credit_part r = false
