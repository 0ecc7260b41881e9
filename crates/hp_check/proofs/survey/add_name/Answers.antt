use Rattle.std.proofs.Common.{◌≡◌, cond, [], ◌∷◌, ◌++◌, refl, bytes_eq}
use Rattle.std.specs.List.{list_any}
use Rattle.hp_check.proofs.NameLemmas.{added_once}
use Rattle.hp_check.proofs.survey.add_name.Goals as goal

-- the name is there, once
pub returns : goal.returns
returns c =
    let keys = c.args.names.now.keys in
    let name = c.args.name.now in
    let known : c.insert_full.new.self.keys ≡ cond (list_any (bytes_eq name) keys) keys (keys ++ name ∷ []) =
    rw c.in_ok-copy.ensures.same at c.in_ok-insert_full.ensures.keys in
    λ x. rw known (added_once (list_any (bytes_eq name) keys) keys name refl x)
