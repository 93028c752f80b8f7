-- Where a token goes, as numbers.
use Rattle.std.specs.Prelude.{◌≡◌}
use Rattle.tags.specs.declared.token.To.{To}
use Rattle.packed.specs.declared.token.Address.{Address}
use Rattle.packed.specs.PackedTokens.{to_state, to_place, to_value, IsTo}

pub record IsAddressOf (to : To) (a : Address) : Type 0 where
  pub state : a.state ≡ to_state to
  pub place : a.place ≡ to_place to
  pub value : a.value ≡ to_value to
  pub there : IsTo to
