-- Where a part stands.
use Rattle.hp_syntax.specs.Checks as plain
use Rattle.hp_check.specs.declared.watch.Region.{Region}
use Rattle.hp_check.specs.declared.watch.Region.TheVariants as places

abbrev pub place_of : Region → plain.Region
place_of places.Head = plain.InHead
place_of places.Body = plain.InBody
place_of places.Problem = plain.InProblem
