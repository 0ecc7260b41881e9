use Rattle.std.proofs.Common.{◌≡◌, Some, refl, subst, sym, map, string_bytes}
use Rattle.hp_words.specs.Command.{accepts, make_command}
use Rattle.hp_top.specs.Serving.{ByCommand, ByListing, ByMaking, ByVerifying}
use Rattle.hp_top.specs.Touching.{Touches, input_run}
use Rattle.hp_words.specs.Words.{job_of, request_of, verification_of}
use Rattle.hp_top.proofs.RunSteps.{refused_words, touched_by_command, touched_by_listing, touched_by_verification}
use Rattle.hp_top.proofs.command.serve.Goals as goal

pub returns-in-None-clause-untouched : goal.returns-in-None-clause-untouched
returns-in-None-clause-untouched g c = λ e. (refl, refused_words _ _ c.refuse.ensures.either c.refuse.ensures.tells)

pub returns-in-Some-Make-clause-ends : goal.returns-in-Some-Make-clause-ends
returns-in-Some-Make-clause-ends g c =
    ByMaking c.in-Some-Make.seed c.in-Some-Make.packages
    (sym
    (subst (λ r. Some (request_of r) ≡ accepts (map string_bytes c.args.words.now)) c.in-Some-Make.field-0-is
    c.in-Some-Make.ensures.asks))
    c.serve_made.ensures.serves

pub returns-in-Some-Files-clause-ends : goal.returns-in-Some-Files-clause-ends
returns-in-Some-Files-clause-ends g c =
    ByCommand (make_command c.in-Some-Files.domain.now c.in-Some-Files.problem.now (job_of c.in-Some-Files.job))
    (sym
    (subst (λ r. Some (request_of r) ≡ accepts (map string_bytes c.args.words.now)) c.in-Some-Files.field-0-is
    c.in-Some-Files.ensures.asks))
    c.serve_command.ensures.serves

pub returns-in-Some-Files-clause-touched : goal.returns-in-Some-Files-clause-touched
returns-in-Some-Files-clause-touched g c = λ w.
    touched_by_command _ (g.F.Folder.file c.args.folder.now) _ _ (job_of c.in-Some-Files.job) w _
    (sym
    (subst (λ r. Some (request_of r) ≡ accepts (map string_bytes c.args.words.now)) c.in-Some-Files.field-0-is
    c.in-Some-Files.ensures.asks))
    (c.serve_command.ensures.touched w)

pub returns-in-Some-Code-clause-ends : goal.returns-in-Some-Code-clause-ends
returns-in-Some-Code-clause-ends g c =
    ByListing c.in-Some-Code.domain.now
    (sym
    (subst (λ r. Some (request_of r) ≡ accepts (map string_bytes c.args.words.now)) c.in-Some-Code.field-0-is
    c.in-Some-Code.ensures.asks))
    c.serve_code.ensures.serves

pub returns-in-Some-Code-clause-touched : goal.returns-in-Some-Code-clause-touched
returns-in-Some-Code-clause-touched g c = λ w.
    touched_by_listing _ (g.F.Folder.file c.args.folder.now) _ w _
    (sym
    (subst (λ r. Some (request_of r) ≡ accepts (map string_bytes c.args.words.now)) c.in-Some-Code.field-0-is
    c.in-Some-Code.ensures.asks))
    (λ is. subst (λ w. Touches (g.F.Folder.file c.args.folder.now c.in-Some-Code.domain.now) (input_run
    (g.F.Folder.begun c.args.folder.now w) (g.F.Folder.begun c.serve_code.new.folder w)
    (g.F.Folder.rest c.args.folder.now w) (g.F.Folder.rest c.serve_code.new.folder w))) (sym is)
    c.serve_code.ensures.touched)
    (c.serve_code.ensures.others w)

pub returns-in-Some-Verify-clause-ends : goal.returns-in-Some-Verify-clause-ends
returns-in-Some-Verify-clause-ends g c =
    ByVerifying (verification_of c.in-Some-Verify.asked)
    (sym
    (subst (λ r. Some (request_of r) ≡ accepts (map string_bytes c.args.words.now)) c.in-Some-Verify.field-0-is
    c.in-Some-Verify.ensures.asks))
    c.serve_verification.ensures.serves

pub returns-in-Some-Verify-clause-touched : goal.returns-in-Some-Verify-clause-touched
returns-in-Some-Verify-clause-touched g c = λ w.
    touched_by_verification _ (g.F.Folder.file c.args.folder.now) (verification_of c.in-Some-Verify.asked) w _
    (sym
    (subst (λ r. Some (request_of r) ≡ accepts (map string_bytes c.args.words.now)) c.in-Some-Verify.field-0-is
    c.in-Some-Verify.ensures.asks))
    (c.serve_verification.ensures.touched w)
