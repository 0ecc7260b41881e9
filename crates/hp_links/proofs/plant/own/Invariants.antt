use Rattle.std.proofs.Common.{◌≡◌, take, Some}
use Rattle.hp_links.specs.Planted.{own_all}
use Rattle.hp_links.proofs.plant.own.Given as goal

abbrev pub invariant-loop-part : goal.invariant-loop-part
invariant-loop-part l = l.owners ≡ own_all (Some l.list) (take l.part-index l.parts) l.initial.owners
