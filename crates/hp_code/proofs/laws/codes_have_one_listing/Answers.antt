use Rattle.hp_code.proofs.ListingLemmas.{listing_same}
use Rattle.hp_code.proofs.laws.codes_have_one_listing.Goals as goal

pub returns : goal.returns
returns c = listing_same
