use Rattle.std.proofs.Common.{rules, ◌≡◌, ◌∙◌, ap, bytes_eq, is_some}
use Rattle.std.specs.List.{position}
use Rattle.hp_terms.proofs.PlaceLemmas.{is_some_position}
use Rattle.hp_terms.proofs.scope.Scope.place_of.Goals as goal

-- a name has a place exactly where it is among the names
pub returns-clause-found : goal.returns-clause-found
returns-clause-found c =
    let names = c.args.self.now.names.keys in
    let place : c.place_among.result ≡ position (bytes_eq c.args.name.now) names = search rules in
    ap is_some place ∙ is_some_position (bytes_eq c.args.name.now) names
