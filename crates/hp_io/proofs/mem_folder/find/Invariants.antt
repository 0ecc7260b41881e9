use Rattle.std.proofs.Common.{◌≡◌, None, take}
use Rattle.hp_io.specs.Files.{file_of}
use Rattle.hp_io.proofs.mem_folder.find.Given as goal

abbrev pub invariant-loop-i : goal.invariant-loop-i
invariant-loop-i l = file_of (take l.i l.files) l.name ≡ None
