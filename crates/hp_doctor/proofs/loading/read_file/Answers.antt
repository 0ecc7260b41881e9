use Rattle.std.proofs.Common.{sym, subst}
use Rattle.std.proofs.lemmas.Result.{IfOk-weaker}
use Rattle.hp_doctor.specs.Loading.{IsHeld}
use Rattle.hp_doctor.proofs.LoadingSteps.{held_of}
use Rattle.hp_doctor.proofs.loading.read_file.Goals as goal

pub returns-in-Ok-read_rest-clause-held : goal.returns-in-Ok-read_rest-clause-held
returns-in-Ok-read_rest-clause-held g c =
    let told = g.F.Folder.file c.args.folder.now c.args.name.now in
    let f = g.F.Folder.faults c.args.folder.now c.args.which in
    let k = g.F.Folder.faults c.read_rest.new.folder c.args.which in
    IfOk-weaker c.lines_of.result _ _
    (λ lines e.
    subst (IsHeld told f k) (sym e)
    (held_of told _ c.in-Ok-read_rest.bytes.items f k c.in-Ok.ensures.rest c.in-Ok-read_rest.ensures.bytes))
    c.lines_of.ensures
