use Rattle.std.proofs.Common.{rules}
use Rattle.hp_code.specs.Listing.{listing_text}
use Rattle.hp_code.proofs.lines.listing.Goals as goal

pub returns : goal.returns
unfolding listing_text
returns c = search rules
