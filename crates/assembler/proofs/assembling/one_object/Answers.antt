use Rattle.assembler.proofs.Complete.{exact, unique, all_has_listing, round_trips}
use Rattle.assembler.proofs.assembling.one_object.Goals as goal

pub returns-clause-exact : goal.returns-clause-exact
returns-clause-exact c = exact

pub returns-clause-unique : goal.returns-clause-unique
returns-clause-unique c = unique

pub returns-clause-listing_is_whole : goal.returns-clause-listing_is_whole
returns-clause-listing_is_whole c = all_has_listing

pub returns-clause-round_trip : goal.returns-clause-round_trip
returns-clause-round_trip c = round_trips
