-- Domains and pairs that can be walked.
use Rattle.std.specs.Prelude.{◌≡◌, None}
use Rattle.hp_syntax.specs.Checks.{domain_faults, first_of}
use Rattle.hp_syntax.specs.GroundPatterns.{IsGroundPair}
use Rattle.hp_syntax.specs.Syntax.{Domain, Pair}

-- the checks find nothing in the domain, and no variable and no call stands in the pair
pub record IsAccepted (d : Domain) (p : Pair) : Type 0 where
  pub checked : first_of (domain_faults d) ≡ None
  pub ground : IsGroundPair p
