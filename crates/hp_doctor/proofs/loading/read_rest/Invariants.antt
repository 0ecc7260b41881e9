use Rattle.std.proofs.Common.{◌≡◌, ◌≤◌, ◌+◌, ◌-◌, ℕ, true, List, length}
use Rattle.hp_io.specs.declared.folder.Input.{Input}
use Rattle.hp_syntax.specs.declared.limits.TheConstants.{LARGEST_TEXT}
use Rattle.hp_doctor.specs.Telling.{Came}
use Rattle.hp_doctor.proofs.loading.read_rest.Given as goal

abbrev pub invariant-loop-which : goal.invariant-loop-which
invariant-loop-which g l =
    let folder = g.F.Folder in
    record {
      room : length l.bytes.items ≤ LARGEST_TEXT + 1;
      came : Came l.bytes.items (folder.rest l.fn.folder l.fn.which) (folder.rest l.folder l.which);
      begun : folder.begun l.folder l.which ≡ true;
      files : (n : List ℕ) → folder.file l.folder n ≡ folder.file l.fn.folder n;
      later : (w : Input) → folder.faults l.fn.folder w ≤ folder.faults l.folder w;
    }

abbrev pub decreases-loop-which : goal.decreases-loop-which
decreases-loop-which g l = (LARGEST_TEXT + 1) - length l.bytes.items
