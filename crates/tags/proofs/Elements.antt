-- The element of an address is one of the elements.
use Rattle.std.proofs.Common.{◌<◌, ℕ}
use Rattle.tags.specs.Addresses.{element_of}
use Rattle.tags.specs.declared.token.To.{To}
use Rattle.std.proofs.Math.Nat.{mod-lt}

pub element_below : (n : ℕ) (to : To) → 0 < n → element_of n to < n
element_below n (To.Instr f ip p) some = mod-lt f some
element_below n (To.Fetch x) some = mod-lt x some
element_below n (To.Store x v) some = mod-lt x some
element_below n To.Manager some = some
element_below n (To.Release f) some = some
element_below n (To.Host p) some = some
