-- The order of the tokens.
use Rattle.std.proofs.Common.{◌≡◌, sym, ap, ◌∙◌}
use Rattle.schedule.specs.declared.take.Take.{Take}
use Rattle.schedule.specs.declared.take.Take.TheVariants.{Oldest}
use Rattle.driver.specs.declared.order.Order.{Order}

taken : Order → Take
taken (Order.InTurn take) = take
taken (Order.InRounds take) = take
taken (Order.Free take) = take

-- an order in turn has one order of the tokens
pub same_take : (order : Order) (a b : Take) → order ≡ Order.InTurn a → order ≡ Order.InTurn b → a ≡ b
unfolding taken
same_take order a b one other = ap taken (sym one ∙ other)
