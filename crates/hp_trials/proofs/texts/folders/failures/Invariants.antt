use Rattle.std.proofs.Common.{◌≡◌, true}
use Rattle.hp_io.specs.declared.folder.Input.TheVariants.{Problem}
use Rattle.hp_trials.proofs.texts.folders.failures.Given as goal

abbrev pub invariant-loop : goal.invariant-loop
invariant-loop g l = g.F.Folder.begun l.folder Problem ≡ true
